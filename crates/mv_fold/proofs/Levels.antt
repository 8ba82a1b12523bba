-- How far jumps lead, of each statement; and what a loop or block gives way to, as its code makes it.
use Rattle.std.proofs.Common.{arith, ◌≡◌, ℕ, zero, suc, ◌+◌, ◌-◌, max, Bool, true, false, cond, eqb, ◌&&◌, List, [], ◌∷◌, ◌++◌, length, take, get_or, Option, Some, None, refl, sym, ◌∙◌, ap, subst, append-nil}
use Rattle.std.specs.Prelude.{◌<◌, ◌==◌, if◌then◌else◌, is_some}
use Rattle.std.proofs.lemmas.List.{take_more}
use Rattle.std.proofs.lemmas.List.Recursion.{max_push}
use Rattle.mv_ast.specs.declared.program.Known.{Known}
use Rattle.mv_ir.specs.declared.tree.Tree.{Tree}
use Rattle.mv_ir.specs.declared.stm.Array.{Array}
use Rattle.mv_ir.specs.declared.stm.Callee.{Callee}
use Rattle.mv_ir.specs.declared.stm.Stm.{Stm, out-Stm}
use Rattle.mv_ir.specs.declared.stm.Stm as at
use Rattle.mv_ir.specs.declared.stm.Stm.TheOpen.{Stm-F}
use Rattle.mv_ir.specs.declared.stm.Stm.TheOpen as stm
use Rattle.mv_ir.specs.declared.stm.Stm.TheVariants.{rolls-Set, rolls-SetGlobal, rolls-Divide, rolls-Check, rolls-Read, rolls-Write, rolls-Zero, rolls-If, rolls-Loop, rolls-Block, rolls-Break, rolls-Back, rolls-Call, rolls-Known, rolls-Return}
use Rattle.mv_ir.specs.declared.stm.Stm.TheViews.{roll-Stm, out-roll-Stm, roll-out-Stm}
use Rattle.mv_ir.specs.declared.stm.Stm.TheFolds.{fold-roll-Stm, map-Stm}
use Rattle.mv_fold.specs.Opened.{layer_leaves, leaves, without_leave, layer_levels, levels, most_levels, layer_target, target, end_target, leave, from_outside, opened, blocked, looped}

pub levels_roll : (x : Stm-F Stm) → levels (roll-Stm x) ≡ layer_levels (map-Stm Stm ℕ levels x)
unfolding levels
levels_roll x = fold-roll-Stm ℕ layer_levels x

pub target_roll : (x : Stm-F Stm) → target (roll-Stm x) ≡ layer_target x
unfolding target
target_roll x = ap layer_target (out-roll-Stm x)

-- ---- at each variant

pub levels_set : (t : ℕ) (v : Tree) → levels (at.Set t v) ≡ 0
levels_set t v = ap levels (sym (rolls-Set t v)) ∙ levels_roll (stm.Set t v)

pub levels_setglobal : (g : ℕ) (v : Tree) → levels (at.SetGlobal g v) ≡ 0
levels_setglobal g v = ap levels (sym (rolls-SetGlobal g v)) ∙ levels_roll (stm.SetGlobal g v)

pub levels_divide : (t o : ℕ) (a b : Tree) → levels (at.Divide t o a b) ≡ 0
levels_divide t o a b = ap levels (sym (rolls-Divide t o a b)) ∙ levels_roll (stm.Divide t o a b)

pub levels_check : (a : Array) (i : Tree) → levels (at.Check a i) ≡ 0
levels_check a i = ap levels (sym (rolls-Check a i)) ∙ levels_roll (stm.Check a i)

pub levels_read : (t : ℕ) (a : Array) (i : Tree) → levels (at.Read t a i) ≡ 0
levels_read t a i = ap levels (sym (rolls-Read t a i)) ∙ levels_roll (stm.Read t a i)

pub levels_write : (a : Array) (i v : Tree) → levels (at.Write a i v) ≡ 0
levels_write a i v = ap levels (sym (rolls-Write a i v)) ∙ levels_roll (stm.Write a i v)

pub levels_zero : (l : ℕ) → levels (at.Zero l) ≡ 0
levels_zero l = ap levels (sym (rolls-Zero l)) ∙ levels_roll (stm.Zero l)

pub levels_if : (t : Tree) (a b : List Stm) → levels (at.If t a b) ≡ max (most_levels a) (most_levels b)
levels_if t a b = ap levels (sym (rolls-If t a b)) ∙ levels_roll (stm.If t a b)

pub levels_loop : (b : List Stm) → levels (at.Loop b) ≡ most_levels b - 1
levels_loop b = ap levels (sym (rolls-Loop b)) ∙ levels_roll (stm.Loop b)

pub levels_block : (b : List Stm) → levels (at.Block b) ≡ most_levels b - 1
levels_block b = ap levels (sym (rolls-Block b)) ∙ levels_roll (stm.Block b)

pub levels_break : (n : ℕ) → levels (at.Break n) ≡ n + 1
levels_break n = ap levels (sym (rolls-Break n)) ∙ levels_roll (stm.Break n)

pub levels_back : (n : ℕ) → levels (at.Back n) ≡ n + 1
levels_back n = ap levels (sym (rolls-Back n)) ∙ levels_roll (stm.Back n)

pub levels_call : (r : Option ℕ) (f : Callee) (args : List Tree) → levels (at.Call r f args) ≡ 0
levels_call r f args = ap levels (sym (rolls-Call r f args)) ∙ levels_roll (stm.Call r f args)

pub levels_known : (r : Option ℕ) (k : Known) (args : List Tree) → levels (at.Known r k args) ≡ 0
levels_known r k args = ap levels (sym (rolls-Known r k args)) ∙ levels_roll (stm.Known r k args)

pub levels_return : (v : Tree) → levels (at.Return v) ≡ 0
levels_return v = ap levels (sym (rolls-Return v)) ∙ levels_roll (stm.Return v)

pub ruleset leveling = (levels_set, levels_setglobal, levels_divide, levels_check, levels_read, levels_write, levels_zero, levels_if, levels_loop, levels_block, levels_break, levels_back, levels_call, levels_known, levels_return)

pub target_set : (t : ℕ) (v : Tree) → target (at.Set t v) ≡ None
target_set t v = ap target (sym (rolls-Set t v)) ∙ target_roll (stm.Set t v)

pub target_setglobal : (g : ℕ) (v : Tree) → target (at.SetGlobal g v) ≡ None
target_setglobal g v = ap target (sym (rolls-SetGlobal g v)) ∙ target_roll (stm.SetGlobal g v)

pub target_divide : (t o : ℕ) (a b : Tree) → target (at.Divide t o a b) ≡ None
target_divide t o a b = ap target (sym (rolls-Divide t o a b)) ∙ target_roll (stm.Divide t o a b)

pub target_check : (a : Array) (i : Tree) → target (at.Check a i) ≡ None
target_check a i = ap target (sym (rolls-Check a i)) ∙ target_roll (stm.Check a i)

pub target_read : (t : ℕ) (a : Array) (i : Tree) → target (at.Read t a i) ≡ None
target_read t a i = ap target (sym (rolls-Read t a i)) ∙ target_roll (stm.Read t a i)

pub target_write : (a : Array) (i v : Tree) → target (at.Write a i v) ≡ None
target_write a i v = ap target (sym (rolls-Write a i v)) ∙ target_roll (stm.Write a i v)

pub target_zero : (l : ℕ) → target (at.Zero l) ≡ None
target_zero l = ap target (sym (rolls-Zero l)) ∙ target_roll (stm.Zero l)

pub target_if : (t : Tree) (a b : List Stm) → target (at.If t a b) ≡ None
target_if t a b = ap target (sym (rolls-If t a b)) ∙ target_roll (stm.If t a b)

pub target_loop : (b : List Stm) → target (at.Loop b) ≡ None
target_loop b = ap target (sym (rolls-Loop b)) ∙ target_roll (stm.Loop b)

pub target_block : (b : List Stm) → target (at.Block b) ≡ None
target_block b = ap target (sym (rolls-Block b)) ∙ target_roll (stm.Block b)

pub target_break : (n : ℕ) → target (at.Break n) ≡ Some n
target_break n = ap target (sym (rolls-Break n)) ∙ target_roll (stm.Break n)

pub target_back : (n : ℕ) → target (at.Back n) ≡ None
target_back n = ap target (sym (rolls-Back n)) ∙ target_roll (stm.Back n)

pub target_call : (r : Option ℕ) (f : Callee) (args : List Tree) → target (at.Call r f args) ≡ None
target_call r f args = ap target (sym (rolls-Call r f args)) ∙ target_roll (stm.Call r f args)

pub target_known : (r : Option ℕ) (k : Known) (args : List Tree) → target (at.Known r k args) ≡ None
target_known r k args = ap target (sym (rolls-Known r k args)) ∙ target_roll (stm.Known r k args)

pub target_return : (v : Tree) → target (at.Return v) ≡ None
target_return v = ap target (sym (rolls-Return v)) ∙ target_roll (stm.Return v)

pub ruleset targets = (target_set, target_setglobal, target_divide, target_check, target_read, target_write, target_zero, target_if, target_loop, target_block, target_break, target_back, target_call, target_known, target_return)

-- ---- along the code's loop

pub most_push : (code : List Stm) (i : ℕ) (d : Stm) → i < length code → most_levels (take (i + 1) code) ≡ max (most_levels (take i code)) (levels (get_or code i d))
most_push code i d lt = ap most_levels (take_more code i d lt) ∙ max_push most_levels levels refl (λ s ss. refl) (take i code) (get_or code i d)

-- ---- the end of a list

pub no_target : (code : List Stm) → length code ≡ 0 → end_target code ≡ None
no_target [] e = refl
no_target (s ∷ ss) e = absurd (omega arith)

pub last_target : (code : List Stm) (n : ℕ) (d : Stm) → length code ≡ suc n → end_target code ≡ target (get_or code n d)
last_target [] n d e = absurd (omega arith)
last_target (s ∷ []) zero d e = refl
last_target (s ∷ []) (suc n) d e = absurd (omega arith)
last_target (s ∷ t ∷ ss) zero d e = absurd (omega arith)
last_target (s ∷ t ∷ ss) (suc n) d e = last_target (t ∷ ss) n d (omega (arith, e))

pub ruleset ends = (no_target, last_target)

pub outside_none : from_outside None ≡ None
outside_none = refl

pub outside_zero : (n : ℕ) → n ≡ 0 → from_outside (Some n) ≡ None
outside_zero zero e = refl
outside_zero (suc n) e = absurd (omega arith)

pub outside_more : (n : ℕ) → (n ≡ 0 → ⊥) → from_outside (Some n) ≡ Some (n - 1)
outside_more zero h = absurd (h refl)
outside_more (suc n) h = ap Some (omega arith)

pub ruleset outsides = (outside_none, outside_zero, outside_more)

pub leave_none : (code : List Stm) → code ≡ code ++ leave None
leave_none code = sym (append-nil code)

pub leave_some : (n : ℕ) → leave (Some n) ≡ at.Break n ∷ []
leave_some n = ap (λ s. s ∷ []) (rolls-Break n)

pub ruleset leavings = (leave_none, leave_some)

-- a list is what stands in front of the jump at its end, and that jump
one_is : (s : Stm) → cond (leaves s) [] (s ∷ []) ++ leave (target s) ≡ s ∷ []
unfolding leaves target
one_is s = subst (λ u. cond (layer_leaves (out-Stm s)) [] (u ∷ []) ++ leave (layer_target (out-Stm s)) ≡ u ∷ []) (roll-out-Stm s) (by (out-Stm s))
  where
    by : (x : Stm-F Stm) → cond (layer_leaves x) [] (roll-Stm x ∷ []) ++ leave (layer_target x) ≡ roll-Stm x ∷ []
    by (stm.Set t v) = refl
    by (stm.SetGlobal g v) = refl
    by (stm.Divide t o a b) = refl
    by (stm.Check a i) = refl
    by (stm.Read t a i) = refl
    by (stm.Write a i v) = refl
    by (stm.Zero l) = refl
    by (stm.If t a b) = refl
    by (stm.Loop b) = refl
    by (stm.Block b) = refl
    by (stm.Break n) = refl
    by (stm.Back n) = refl
    by (stm.Call r f args) = refl
    by (stm.Known r k args) = refl
    by (stm.Return v) = refl

pub end_split : (code : List Stm) → without_leave code ++ leave (end_target code) ≡ code
end_split [] = refl
end_split (s ∷ []) = one_is s
end_split (s ∷ t ∷ ss) = ap (λ l. s ∷ l) (end_split (t ∷ ss))

-- ---- what a loop or block gives way to

pub not_zero : (n : ℕ) → eqb (suc n) 0 ≡ false
not_zero n = grind arith

pub block_opens : (b : List Stm) → most_levels (without_leave b) ≡ 0 → blocked b ≡ opened b
block_opens b e = ap (λ n. if n == 0 then opened b else roll-Stm (stm.Block b) ∷ []) e

other : (n : ℕ) (xs ys : List Stm) → (n ≡ 0 → ⊥) → (if n == 0 then xs else ys) ≡ ys
other zero xs ys h = absurd (h refl)
other (suc n) xs ys h = ap (λ c. if c then xs else ys) (not_zero n)

pub block_stays : (b : List Stm) → (most_levels (without_leave b) ≡ 0 → ⊥) → blocked b ≡ at.Block (without_leave b ++ leave (end_target b)) ∷ []
block_stays b h =
    other (most_levels (without_leave b)) (opened b) (roll-Stm (stm.Block b) ∷ []) h ∙ ap (λ s. s ∷ []) (rolls-Block b) ∙ ap (λ l. at.Block l ∷ []) (sym (end_split b))

pub ruleset blocks = (block_opens, block_stays)

pub loop_opens : (b : List Stm) → is_some (end_target b) ≡ true → most_levels (without_leave b) ≡ 0 → looped b ≡ opened b
loop_opens b e h =
    ap (λ c. if c && (most_levels (without_leave b) == 0) then opened b else roll-Stm (stm.Loop b) ∷ []) e ∙ ap (λ n. if n == 0 then opened b else roll-Stm (stm.Loop b) ∷ []) h

loop_whole : (b : List Stm) → roll-Stm (stm.Loop b) ∷ [] ≡ at.Loop (without_leave b ++ leave (end_target b)) ∷ []
loop_whole b = ap (λ s. s ∷ []) (rolls-Loop b) ∙ ap (λ l. at.Loop l ∷ []) (sym (end_split b))

pub loop_turns : (b : List Stm) → is_some (end_target b) ≡ false → looped b ≡ at.Loop (without_leave b ++ leave (end_target b)) ∷ []
loop_turns b e = ap (λ c. if c && (most_levels (without_leave b) == 0) then opened b else roll-Stm (stm.Loop b) ∷ []) e ∙ loop_whole b

pub loop_stays : (b : List Stm) → (most_levels (without_leave b) ≡ 0 → ⊥) → looped b ≡ at.Loop (without_leave b ++ leave (end_target b)) ∷ []
loop_stays b h = by (is_some (end_target b)) ∙ loop_whole b
  where
    by : (c : Bool) → (if c && (most_levels (without_leave b) == 0) then opened b else roll-Stm (stm.Loop b) ∷ []) ≡ roll-Stm (stm.Loop b) ∷ []
    by true = other (most_levels (without_leave b)) (opened b) (roll-Stm (stm.Loop b) ∷ []) h
    by false = refl

pub ruleset loops = (loop_opens, loop_turns, loop_stays)
