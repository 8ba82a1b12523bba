-- What it is for each form of statement to be small.
use Rattle.std.proofs.Common.{◌≡◌, ℕ, zero, suc, ◌+◌, ◌<◌, ◌≤◌, ◌&&◌, Bool, true, ltb, leb, List, [], ◌∷◌, length, get_or, Option, sym, ap, ◌∙◌, arith}
use Rattle.std.proofs.lemmas.Bool.{ltb-true, leb-true}
use Rattle.mv_ast.specs.declared.program.Known.{Known}
use Rattle.mv_ir.specs.declared.tree.Tree.{Tree}
use Rattle.mv_ir.specs.declared.stm.Array.{Array}
use Rattle.mv_ir.specs.declared.stm.Callee.{Callee}
use Rattle.mv_ir.specs.declared.stm.Stm.{Stm}
use Rattle.mv_ir.specs.declared.stm.Stm as at
use Rattle.mv_ir.specs.declared.stm.Stm.TheOpen as stm
use Rattle.mv_ir.specs.declared.stm.Stm.TheVariants.{rolls-If, rolls-Loop, rolls-Block}
use Rattle.mv_ir.specs.Measures.{stm_size, statements}
use Rattle.mv_ir.specs.Trees.{depth}
use Rattle.mv_ir.proofs.Rolls.{size_roll}
use Rattle.mv_select_code.specs.Trees.TreeCode.{temps_of}
use Rattle.mv_select_code.specs.Statements.Encoded.{IsSmall}
use Rattle.mv_select_code.specs.Control.Layouts.{any_global, any_known, is_small, small_call, small_known, is_small_statement, are_small}
use Rattle.mv_select_code.proofs.OfControl.Equations.{fine_set, fine_setglobal, fine_divide, fine_check, fine_read, fine_write, fine_if, fine_loop, fine_block, fine_call, fine_known_call, fine_return}
use Rattle.mv_select_code.specs.Control.FlowCode.{may_read, may_write}
use Rattle.mv_num.proofs.Booleans.{and_cases, and_right, and_left}

pub small_tree : (v : Tree) → is_small v ≡ true → IsSmall v
small_tree v h =
    let d = leb (depth v) 4 in
    let r = leb (temps_of v) 507 in
    (leb-true (depth v) 4 (and_left d r h), leb-true (temps_of v) 507 (and_right d r h))

module _ (s : Stm) (small : is_small_statement s ≡ true) where
  of_kind : (x : Stm) (b : Bool) → s ≡ x → is_small_statement x ≡ b → b ≡ true
  of_kind x b same is = sym is ∙ ap is_small_statement (sym same) ∙ small

  -- a temporary that is written, and what else is asked
  target_and : (t : ℕ) (b : Bool) → (ltb t 507 && b) ≡ true → (t < 507) × (b ≡ true)
  target_and t b h = let both = and_cases (ltb t 507) b h in (ltb-true t 507 both.0, both.1)

  pub small_set : (t : ℕ) (v : Tree) → s ≡ at.Set t v → (t < 507) × IsSmall v
  small_set t v same =
      let h = target_and t (is_small v) (of_kind (at.Set t v) (ltb t 507 && is_small v) same (fine_set is_small any_known 507 any_global t v)) in
      (h.0, small_tree v h.1)

  pub small_set_global : (g : ℕ) (v : Tree) → s ≡ at.SetGlobal g v → IsSmall v
  small_set_global g v same = small_tree v (of_kind (at.SetGlobal g v) (is_small v) same (fine_setglobal is_small any_known 507 any_global g v))

  pub small_divide : (t o : ℕ) (a b : Tree) → s ≡ at.Divide t o a b → (t < 507) × IsSmall a × IsSmall b
  small_divide t o a b same =
      let h = target_and t (is_small a && is_small b) (of_kind (at.Divide t o a b) (ltb t 507 && (is_small a && is_small b)) same (fine_divide is_small any_known 507 any_global t o a b)) in
      let l = and_cases (is_small a) (is_small b) h.1 in
      (h.0, small_tree a l.0, small_tree b l.1)

  pub small_check : (a : Array) (i : Tree) → s ≡ at.Check a i → is_small i ≡ true
  small_check a i same = of_kind (at.Check a i) (is_small i) same (fine_check is_small any_known 507 any_global a i)

  pub small_read : (t : ℕ) (a : Array) (i : Tree) → s ≡ at.Read t a i → (t < 507) × (is_small i ≡ true)
  small_read t a i same =
      let may = may_read is_small any_known 507 any_global a in
      let h = target_and t (may && is_small i) (of_kind (at.Read t a i) (ltb t 507 && (may && is_small i)) same (fine_read is_small any_known 507 any_global t a i)) in
      (h.0, and_right may (is_small i) h.1)

  pub small_write : (a : Array) (i v : Tree) → s ≡ at.Write a i v → (is_small i ≡ true) × (is_small v ≡ true)
  small_write a i v same =
      let may = may_write is_small any_known 507 any_global a in
      let both = is_small i && is_small v in
      and_cases (is_small i) (is_small v) (and_right may both (of_kind (at.Write a i v) (may && both) same (fine_write is_small any_known 507 any_global a i v)))

  pub small_if : (t : Tree) (a b : List Stm) → s ≡ at.If t a b → (is_small t ≡ true) × (are_small a ≡ true) × (are_small b ≡ true)
  small_if t a b same =
      let h = and_cases (is_small t) (are_small a && are_small b) (of_kind (at.If t a b) (is_small t && (are_small a && are_small b)) same (fine_if is_small any_known 507 any_global t a b)) in
      let l = and_cases (are_small a) (are_small b) h.1 in
      (h.0, l.0, l.1)

  pub small_loop : (b : List Stm) → s ≡ at.Loop b → are_small b ≡ true
  small_loop b same = of_kind (at.Loop b) (are_small b) same (fine_loop is_small any_known 507 any_global b)

  pub small_block : (b : List Stm) → s ≡ at.Block b → are_small b ≡ true
  small_block b same = of_kind (at.Block b) (are_small b) same (fine_block is_small any_known 507 any_global b)

  pub small_calls : (r : Option ℕ) (f : Callee) (args : List Tree) → s ≡ at.Call r f args → small_call r f args ≡ true
  small_calls r f args same = of_kind (at.Call r f args) (small_call r f args) same (fine_call is_small any_known 507 any_global r f args)

  pub small_knowns : (r : Option ℕ) (k : Known) (args : List Tree) → s ≡ at.Known r k args → small_known r k args ≡ true
  small_knowns r k args same = of_kind (at.Known r k args) (small_known r k args) same (fine_known_call is_small any_known 507 any_global r k args)

  pub small_return : (v : Tree) → s ≡ at.Return v → is_small v ≡ true
  small_return v same = of_kind (at.Return v) (is_small v) same (fine_return is_small any_known 507 any_global v)

-- ---- how many statements there are

pub size_loop : (s : Stm) (b : List Stm) → s ≡ at.Loop b → stm_size s ≡ statements b + 1
size_loop s b same = omega (arith, ap stm_size (same ∙ sym (rolls-Loop b)) ∙ size_roll (stm.Loop b))

pub size_block : (s : Stm) (b : List Stm) → s ≡ at.Block b → stm_size s ≡ statements b + 1
size_block s b same = omega (arith, ap stm_size (same ∙ sym (rolls-Block b)) ∙ size_roll (stm.Block b))

pub size_if : (s : Stm) (t : Tree) (a b : List Stm) → s ≡ at.If t a b → stm_size s ≡ statements a + statements b + 1
size_if s t a b same = omega (arith, ap stm_size (same ∙ sym (rolls-If t a b)) ∙ size_roll (stm.If t a b))

pub size_at : (xs : List Stm) (k : ℕ) (d s : Stm) → k < length xs → s ≡ get_or xs k d → stm_size s ≤ statements xs
size_at [] k d s lt is = absurd (omega (arith, lt))
size_at (x ∷ xs) zero d s lt is = omega (arith, ap stm_size is)
size_at (x ∷ xs) (suc k) d s lt is = omega (arith, size_at xs k d s (omega (arith, lt)) is)
