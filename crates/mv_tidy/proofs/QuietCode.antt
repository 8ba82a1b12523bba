-- Code that calls nothing.
use Rattle.std.proofs.Common.{arith, ◌≡◌, ℕ, ◌+◌, ◌<◌, List, [], ◌∷◌, ◌++◌, length, map, take, get_or, reverse, Option, refl, sym, ◌∙◌, ap}
use Rattle.std.proofs.lemmas.List.{take_more, reverse-append}
use Rattle.mv_ast.specs.declared.program.Known.{Known}
use Rattle.mv_ir.specs.declared.tree.Tree.{Tree}
use Rattle.mv_ir.specs.declared.stm.Array.{Array}
use Rattle.mv_ir.specs.declared.stm.Stm.{Stm}
use Rattle.mv_ir.specs.declared.stm.Stm as at
use Rattle.mv_ir.specs.declared.stm.Stm.TheOpen as stm
use Rattle.mv_ir.specs.declared.stm.Stm.TheVariants.{rolls-Set, rolls-SetGlobal, rolls-Divide, rolls-Check, rolls-Read, rolls-Write, rolls-Zero, rolls-If, rolls-Loop, rolls-Block, rolls-Break, rolls-Back, rolls-Known, rolls-Return}
use Rattle.mv_ir.specs.Measures.{total, stm_calls, calls}
use Rattle.mv_ir.proofs.Rolls.{calls_roll}
use Rattle.mv_ir.proofs.Keeping.{map_append}
use Rattle.mv_ir.proofs.Joining.{total_append}

-- ---- lists

pub calls_append : (xs ys : List Stm) → calls (xs ++ ys) ≡ calls xs + calls ys
calls_append xs ys = ap total (map_append stm_calls xs ys) ∙ total_append (map stm_calls xs) (map stm_calls ys)

pub calls_reverse : (xs : List Stm) → calls (reverse xs) ≡ calls xs
calls_reverse [] = refl
calls_reverse (x ∷ xs) = ap calls (reverse-append (x ∷ []) xs) ∙ omega (arith, calls_append (reverse xs) (x ∷ []), calls_reverse xs)

pub quiet_more : (code : List Stm) (i : ℕ) (d : Stm) → i < length code → calls (take i code) ≡ 0 → stm_calls (get_or code i d) ≡ 0 →
    calls (take (i + 1) code) ≡ 0
quiet_more code i d lt h k = ap calls (take_more code i d lt) ∙ omega (arith, calls_append (take i code) (get_or code i d ∷ []), h, k)

-- ---- each statement

pub quiet_set : (t : ℕ) (v : Tree) → stm_calls (at.Set t v) ≡ 0
quiet_set t v = ap stm_calls (sym (rolls-Set t v)) ∙ calls_roll (stm.Set t v)

pub quiet_set_global : (g : ℕ) (v : Tree) → stm_calls (at.SetGlobal g v) ≡ 0
quiet_set_global g v = ap stm_calls (sym (rolls-SetGlobal g v)) ∙ calls_roll (stm.SetGlobal g v)

pub quiet_divide : (t : ℕ) (o : ℕ) (a : Tree) (b : Tree) → stm_calls (at.Divide t o a b) ≡ 0
quiet_divide t o a b = ap stm_calls (sym (rolls-Divide t o a b)) ∙ calls_roll (stm.Divide t o a b)

pub quiet_check : (a : Array) (i : Tree) → stm_calls (at.Check a i) ≡ 0
quiet_check a i = ap stm_calls (sym (rolls-Check a i)) ∙ calls_roll (stm.Check a i)

pub quiet_read : (t : ℕ) (a : Array) (i : Tree) → stm_calls (at.Read t a i) ≡ 0
quiet_read t a i = ap stm_calls (sym (rolls-Read t a i)) ∙ calls_roll (stm.Read t a i)

pub quiet_write : (a : Array) (i : Tree) (v : Tree) → stm_calls (at.Write a i v) ≡ 0
quiet_write a i v = ap stm_calls (sym (rolls-Write a i v)) ∙ calls_roll (stm.Write a i v)

pub quiet_zero : (l : ℕ) → stm_calls (at.Zero l) ≡ 0
quiet_zero l = ap stm_calls (sym (rolls-Zero l)) ∙ calls_roll (stm.Zero l)

pub quiet_break : (n : ℕ) → stm_calls (at.Break n) ≡ 0
quiet_break n = ap stm_calls (sym (rolls-Break n)) ∙ calls_roll (stm.Break n)

pub quiet_back : (n : ℕ) → stm_calls (at.Back n) ≡ 0
quiet_back n = ap stm_calls (sym (rolls-Back n)) ∙ calls_roll (stm.Back n)

pub quiet_known : (r : Option ℕ) (k : Known) (args : List Tree) → stm_calls (at.Known r k args) ≡ 0
quiet_known r k args = ap stm_calls (sym (rolls-Known r k args)) ∙ calls_roll (stm.Known r k args)

pub quiet_return : (v : Tree) → stm_calls (at.Return v) ≡ 0
quiet_return v = ap stm_calls (sym (rolls-Return v)) ∙ calls_roll (stm.Return v)

pub quiet_if : (t : Tree) (a b : List Stm) → calls a ≡ 0 → calls b ≡ 0 → stm_calls (at.If t a b) ≡ 0
quiet_if t a b h k = ap stm_calls (sym (rolls-If t a b)) ∙ omega (arith, calls_roll (stm.If t a b), h, k)

pub quiet_loop : (b : List Stm) → calls b ≡ 0 → stm_calls (at.Loop b) ≡ 0
quiet_loop b h = ap stm_calls (sym (rolls-Loop b)) ∙ calls_roll (stm.Loop b) ∙ h

pub quiet_block : (b : List Stm) → calls b ≡ 0 → stm_calls (at.Block b) ≡ 0
quiet_block b h = ap stm_calls (sym (rolls-Block b)) ∙ calls_roll (stm.Block b) ∙ h

pub ruleset quiet = (quiet_set, quiet_set_global, quiet_divide, quiet_check, quiet_read, quiet_write, quiet_zero, quiet_if, quiet_loop, quiet_block, quiet_break, quiet_back, quiet_known, quiet_return)
