-- Uses of numbers, at each variant and one item on.
use Rattle.std.proofs.Common.{◌≡◌, ℕ, ◌+◌, ◌<◌, true, false, cond, eqb, List, [], ◌++◌, length, map, take, get_or, Option, refl, sym, ◌∙◌, ap, ap₂, subst, append_assoc, append-nil}
use Rattle.std.specs.Prelude.{is_some}
use Rattle.mv_num.specs.declared.kind.Kind.{Kind}
use Rattle.mv_ast.specs.declared.program.Known.{Known}
use Rattle.mv_ir.specs.declared.tree.Tree.{Tree}
use Rattle.mv_ir.specs.declared.tree.Tree as tr
use Rattle.mv_ir.specs.declared.tree.Tree.TheOpen.{Tree-F}
use Rattle.mv_ir.specs.declared.tree.Tree.TheOpen as tree
use Rattle.mv_ir.specs.declared.tree.Tree.TheVariants.{rolls-Number, rolls-Temp, rolls-Global, rolls-Function, rolls-Unary, rolls-Binary, rolls-Narrow}
use Rattle.mv_ir.specs.declared.tree.Tree.TheViews.{roll-Tree}
use Rattle.mv_ir.specs.declared.tree.Tree.TheFolds.{fold-roll-Tree, map-Tree}
use Rattle.mv_ir.specs.declared.stm.Array.{Array}
use Rattle.mv_ir.specs.declared.stm.Callee.{Callee}
use Rattle.mv_ir.specs.declared.stm.Callee.TheVariants as callee
use Rattle.mv_ir.specs.declared.stm.Stm.{Stm}
use Rattle.mv_ir.specs.declared.stm.Stm as at
use Rattle.mv_ir.specs.declared.stm.Stm.TheOpen.{Stm-F}
use Rattle.mv_ir.specs.declared.stm.Stm.TheOpen as stm
use Rattle.mv_ir.specs.declared.stm.Stm.TheVariants.{rolls-Set, rolls-SetGlobal, rolls-Divide, rolls-Check, rolls-Read, rolls-Write, rolls-Zero, rolls-If, rolls-Loop, rolls-Block, rolls-Break, rolls-Back, rolls-Call, rolls-Known, rolls-Return}
use Rattle.mv_ir.specs.declared.stm.Stm.TheViews.{roll-Stm}
use Rattle.mv_ir.specs.declared.stm.Stm.TheFolds.{fold-roll-Stm, map-Stm}
use Rattle.mv_ir.specs.declared.body.Body.{Body}
use Rattle.mv_ir.specs.Measures.{joined, callee_trees}
use Rattle.mv_ir.proofs.Induction.{tree_ind}
use Rattle.mv_ir.proofs.Joining.{map_map}
use Rattle.mv_ir.proofs.Lists.{joined_push}
use Rattle.mv_select_code.specs.Trees.TreeCode.{right_of, literal, literal_layer}
use Rattle.mv_select_code.proofs.OfTrees.Rolls.{literal_roll}
use Rattle.mv_select.specs.declared.uses.Use.{Use}
use Rattle.mv_select.specs.Functions.Uses.{needed, Needs, needs_layer, needs, operand_layer, operand_uses, tested_layer, test_uses, is_comparison, value_uses, values_uses, deeper, index_uses, all_at, layer_uses, stm_uses, code_uses}

-- ---- trees

-- the right operand of an operator
abbrev right_uses : (w o : ℕ) → Tree → List Use
right_uses w o t = cond (is_some (right_of o (literal t))) [] (operand_uses w t)

module _ (w : ℕ) where
  needs_roll : (x : Tree-F Tree) → needs w (roll-Tree x) ≡ needs_layer w (map-Tree Tree Needs (needs w) x)
  unfolding needs
  needs_roll x = fold-roll-Tree Needs (needs_layer w) x

  operand_roll : (x : Tree-F Tree) → operand_uses w (roll-Tree x) ≡ operand_layer w (map-Tree Tree Needs (needs w) x)
  unfolding operand_uses
  operand_roll x = ap (λ (n : Needs). n.operand) (needs_roll x)

  test_roll : (x : Tree-F Tree) → test_uses w (roll-Tree x) ≡ tested_layer w (map-Tree Tree Needs (needs w) x)
  unfolding test_uses
  test_roll x = ap (λ (n : Needs). n.tested) (needs_roll x)

  abbrev WrittenIs : Tree → Type 0
  WrittenIs t = (needs w t).written ≡ literal t

  written_is : (t : Tree) → WrittenIs t
  written_is = tree_ind WrittenIs (λ x h. ap (λ (n : Needs). n.written) (needs_roll x) ∙ same x ∙ sym (literal_roll x))
    where
      same : (x : Tree-F Tree) → (needs_layer w (map-Tree Tree Needs (needs w) x)).written ≡ literal_layer (map-Tree Tree (Option ℕ) literal x)
      same (tree.Number n) = refl
      same (tree.Temp n) = refl
      same (tree.Global n) = refl
      same (tree.Function n) = refl
      same (tree.Unary o a) = refl
      same (tree.Binary o a b) = refl
      same (tree.Narrow k a) = refl

  pub operand_number : (n : ℕ) → operand_uses w (tr.Number n) ≡ needed w n
  operand_number n = ap (operand_uses w) (sym (rolls-Number n)) ∙ operand_roll (tree.Number n)

  pub operand_temp : (t : ℕ) → operand_uses w (tr.Temp t) ≡ []
  operand_temp t = ap (operand_uses w) (sym (rolls-Temp t)) ∙ operand_roll (tree.Temp t)

  pub operand_global : (g : ℕ) → operand_uses w (tr.Global g) ≡ []
  operand_global g = ap (operand_uses w) (sym (rolls-Global g)) ∙ operand_roll (tree.Global g)

  pub operand_function : (f : ℕ) → operand_uses w (tr.Function f) ≡ []
  operand_function f = ap (operand_uses w) (sym (rolls-Function f)) ∙ operand_roll (tree.Function f)

  pub operand_unary : (o : ℕ) (a : Tree) → operand_uses w (tr.Unary o a) ≡ operand_uses w a
  unfolding operand_uses
  operand_unary o a = ap (operand_uses w) (sym (rolls-Unary o a)) ∙ operand_roll (tree.Unary o a)

  operand_binary : (o : ℕ) (a b : Tree) → operand_uses w (tr.Binary o a b) ≡ operand_uses w a ++ right_uses w o b
  unfolding operand_uses
  operand_binary o a b =
      ap (operand_uses w) (sym (rolls-Binary o a b)) ∙ operand_roll (tree.Binary o a b)
      ∙ ap (λ l. operand_uses w a ++ cond (is_some (right_of o l)) [] (operand_uses w b)) (written_is b)

  pub operand_short : (o : ℕ) (a b : Tree) → is_some (right_of o (literal b)) ≡ true → operand_uses w (tr.Binary o a b) ≡ operand_uses w a
  operand_short o a b h = operand_binary o a b ∙ ap (λ c. operand_uses w a ++ cond c [] (operand_uses w b)) h ∙ append-nil (operand_uses w a)

  pub operand_both : (o : ℕ) (a b : Tree) → is_some (right_of o (literal b)) ≡ false → operand_uses w (tr.Binary o a b) ≡ operand_uses w a ++ operand_uses w b
  operand_both o a b h = operand_binary o a b ∙ ap (λ c. operand_uses w a ++ cond c [] (operand_uses w b)) h

  pub operand_narrow : (k : Kind) (a : Tree) → operand_uses w (tr.Narrow k a) ≡ operand_uses w a
  unfolding operand_uses
  operand_narrow k a = ap (operand_uses w) (sym (rolls-Narrow k a)) ∙ operand_roll (tree.Narrow k a)

  pub test_number : (n : ℕ) → test_uses w (tr.Number n) ≡ []
  test_number n = ap (test_uses w) (sym (rolls-Number n)) ∙ test_roll (tree.Number n)

  pub test_temp : (t : ℕ) → test_uses w (tr.Temp t) ≡ []
  test_temp t = ap (test_uses w) (sym (rolls-Temp t)) ∙ test_roll (tree.Temp t)

  pub test_global : (g : ℕ) → test_uses w (tr.Global g) ≡ []
  test_global g = ap (test_uses w) (sym (rolls-Global g)) ∙ test_roll (tree.Global g)

  pub test_function : (f : ℕ) → test_uses w (tr.Function f) ≡ []
  test_function f = ap (test_uses w) (sym (rolls-Function f)) ∙ test_roll (tree.Function f)

  pub test_not : (a : Tree) → test_uses w (tr.Unary 2 a) ≡ test_uses w a
  unfolding test_uses
  test_not a = ap (test_uses w) (sym (rolls-Unary 2 a)) ∙ test_roll (tree.Unary 2 a)

  pub test_unary : (o : ℕ) (a : Tree) → eqb o 2 ≡ false → test_uses w (tr.Unary o a) ≡ operand_uses w a
  unfolding test_uses operand_uses
  test_unary o a h = ap (test_uses w) (sym (rolls-Unary o a)) ∙ test_roll (tree.Unary o a) ∙ ap (λ c. cond c (test_uses w a) (operand_uses w a)) h

  test_binary : (o : ℕ) (a b : Tree) → test_uses w (tr.Binary o a b) ≡ operand_uses w a ++ cond (is_comparison o) (operand_uses w b) (right_uses w o b)
  unfolding test_uses operand_uses
  test_binary o a b =
      ap (test_uses w) (sym (rolls-Binary o a b)) ∙ test_roll (tree.Binary o a b)
      ∙ ap (λ l. operand_uses w a ++ cond (is_comparison o) (operand_uses w b) (cond (is_some (right_of o l)) [] (operand_uses w b))) (written_is b)

  pub test_compared : (o : ℕ) (a b : Tree) → is_comparison o ≡ true → test_uses w (tr.Binary o a b) ≡ operand_uses w a ++ operand_uses w b
  test_compared o a b h = test_binary o a b ∙ ap (λ c. operand_uses w a ++ cond c (operand_uses w b) (right_uses w o b)) h

  pub test_other : (o : ℕ) (a b : Tree) → is_comparison o ≡ false → test_uses w (tr.Binary o a b) ≡ operand_uses w a ++ right_uses w o b
  test_other o a b h = test_binary o a b ∙ ap (λ c. operand_uses w a ++ cond c (operand_uses w b) (right_uses w o b)) h

  pub test_narrow : (k : Kind) (a : Tree) → test_uses w (tr.Narrow k a) ≡ operand_uses w a
  unfolding test_uses operand_uses
  test_narrow k a = ap (test_uses w) (sym (rolls-Narrow k a)) ∙ test_roll (tree.Narrow k a)

  pub uses_direct : (f : ℕ) → values_uses w (callee_trees (callee.Direct f)) ≡ []
  uses_direct f = refl

  pub uses_through : (t : Tree) → values_uses w (callee_trees (callee.Through t)) ≡ value_uses w t
  uses_through t = append-nil (value_uses w t)

  pub uses_switched : (g : ℕ) → values_uses w (callee_trees (callee.Switched g)) ≡ []
  uses_switched g = refl

  pub uses_expanded : values_uses w (callee_trees callee.Expanded) ≡ []
  uses_expanded = refl

-- ---- statements

module _ (body : Body) where
  stm_uses_roll : (x : Stm-F Stm) → stm_uses body (roll-Stm x) ≡ layer_uses body (map-Stm Stm (ℕ → List Use) (stm_uses body) x)
  unfolding stm_uses
  stm_uses_roll x = fold-roll-Stm (ℕ → List Use) (layer_uses body) x

  all_at_is : (w : ℕ) (code : List Stm) → all_at w (map (stm_uses body) code) ≡ code_uses body w code
  all_at_is w code = ap joined (map_map (λ (u : ℕ → List Use). u w) (stm_uses body) code)

  pub uses_set : (t : ℕ) (v : Tree) (w : ℕ) → stm_uses body (at.Set t v) w ≡ value_uses w v
  uses_set t v w = ap (λ s. stm_uses body s w) (sym (rolls-Set t v)) ∙ ap (λ (u : ℕ → List Use). u w) (stm_uses_roll (stm.Set t v))

  pub uses_set_global : (g : ℕ) (v : Tree) (w : ℕ) → stm_uses body (at.SetGlobal g v) w ≡ operand_uses w v
  uses_set_global g v w = ap (λ s. stm_uses body s w) (sym (rolls-SetGlobal g v)) ∙ ap (λ (u : ℕ → List Use). u w) (stm_uses_roll (stm.SetGlobal g v))

  pub uses_divide : (t o : ℕ) (a b : Tree) (w : ℕ) → stm_uses body (at.Divide t o a b) w ≡ operand_uses w a ++ operand_uses w b
  uses_divide t o a b w = ap (λ s. stm_uses body s w) (sym (rolls-Divide t o a b)) ∙ ap (λ (u : ℕ → List Use). u w) (stm_uses_roll (stm.Divide t o a b))

  pub uses_check : (a : Array) (i : Tree) (w : ℕ) → stm_uses body (at.Check a i) w ≡ index_uses body w a i
  uses_check a i w = ap (λ s. stm_uses body s w) (sym (rolls-Check a i)) ∙ ap (λ (u : ℕ → List Use). u w) (stm_uses_roll (stm.Check a i))

  pub uses_read : (t : ℕ) (a : Array) (i : Tree) (w : ℕ) → stm_uses body (at.Read t a i) w ≡ index_uses body w a i
  uses_read t a i w = ap (λ s. stm_uses body s w) (sym (rolls-Read t a i)) ∙ ap (λ (u : ℕ → List Use). u w) (stm_uses_roll (stm.Read t a i))

  pub uses_write : (a : Array) (i v : Tree) (w : ℕ) → stm_uses body (at.Write a i v) w ≡ index_uses body w a i ++ operand_uses w v
  uses_write a i v w = ap (λ s. stm_uses body s w) (sym (rolls-Write a i v)) ∙ ap (λ (u : ℕ → List Use). u w) (stm_uses_roll (stm.Write a i v))

  pub uses_zero : (l : ℕ) (w : ℕ) → stm_uses body (at.Zero l) w ≡ []
  uses_zero l w = ap (λ s. stm_uses body s w) (sym (rolls-Zero l)) ∙ ap (λ (u : ℕ → List Use). u w) (stm_uses_roll (stm.Zero l))

  pub uses_if : (t : Tree) (a b : List Stm) (w : ℕ) → stm_uses body (at.If t a b) w ≡ test_uses w t ++ (code_uses body w a ++ code_uses body w b)
  uses_if t a b w = ap (λ s. stm_uses body s w) (sym (rolls-If t a b)) ∙ ap (λ (u : ℕ → List Use). u w) (stm_uses_roll (stm.If t a b)) ∙ ap₂ (λ x y. test_uses w t ++ (x ++ y)) (all_at_is w a) (all_at_is w b)

  pub uses_loop : (b : List Stm) (w : ℕ) → stm_uses body (at.Loop b) w ≡ code_uses body (deeper w) b
  uses_loop b w = ap (λ s. stm_uses body s w) (sym (rolls-Loop b)) ∙ ap (λ (u : ℕ → List Use). u w) (stm_uses_roll (stm.Loop b)) ∙ all_at_is (deeper w) b

  pub uses_block : (b : List Stm) (w : ℕ) → stm_uses body (at.Block b) w ≡ code_uses body w b
  uses_block b w = ap (λ s. stm_uses body s w) (sym (rolls-Block b)) ∙ ap (λ (u : ℕ → List Use). u w) (stm_uses_roll (stm.Block b)) ∙ all_at_is w b

  pub uses_break : (n : ℕ) (w : ℕ) → stm_uses body (at.Break n) w ≡ []
  uses_break n w = ap (λ s. stm_uses body s w) (sym (rolls-Break n)) ∙ ap (λ (u : ℕ → List Use). u w) (stm_uses_roll (stm.Break n))

  pub uses_back : (n : ℕ) (w : ℕ) → stm_uses body (at.Back n) w ≡ []
  uses_back n w = ap (λ s. stm_uses body s w) (sym (rolls-Back n)) ∙ ap (λ (u : ℕ → List Use). u w) (stm_uses_roll (stm.Back n))

  pub uses_call : (r : Option ℕ) (f : Callee) (args : List Tree) (w : ℕ) → stm_uses body (at.Call r f args) w ≡ values_uses w (callee_trees f) ++ values_uses w args
  uses_call r f args w = ap (λ s. stm_uses body s w) (sym (rolls-Call r f args)) ∙ ap (λ (u : ℕ → List Use). u w) (stm_uses_roll (stm.Call r f args))

  pub uses_known : (r : Option ℕ) (k : Known) (args : List Tree) (w : ℕ) → stm_uses body (at.Known r k args) w ≡ values_uses w args
  uses_known r k args w = ap (λ s. stm_uses body s w) (sym (rolls-Known r k args)) ∙ ap (λ (u : ℕ → List Use). u w) (stm_uses_roll (stm.Known r k args))

  pub uses_return : (v : Tree) (w : ℕ) → stm_uses body (at.Return v) w ≡ value_uses w v
  uses_return v w = ap (λ s. stm_uses body s w) (sym (rolls-Return v)) ∙ ap (λ (u : ℕ → List Use). u w) (stm_uses_roll (stm.Return v))

-- ---- a list that grows by what each item of another gives

pub grown : {A : Type 0} (f : A → List Use) (start old new : List Use) (xs items : List A) (i : ℕ) (d : A) →
    items ≡ xs → i < length items → d ≡ get_or items i d → old ≡ start ++ joined (map f (take i xs)) → new ≡ old ++ f d → new ≡ start ++ joined (map f (take (i + 1) xs))
grown f start old new xs items i d same lt e h k =
    let push = joined_push f items i d lt in
    let push' = subst (λ l. joined (map f (take (i + 1) l)) ≡ joined (map f (take i l)) ++ f (get_or items i d)) same push in
    k ∙ ap (λ l. l ++ f d) h ∙ append_assoc start (joined (map f (take i xs))) (f d) ∙ ap (λ x. start ++ (joined (map f (take i xs)) ++ f x)) e ∙ ap (λ l. start ++ l) (sym push')

pub ruleset operand_rules = (append_assoc, append-nil, operand_number, operand_temp, operand_global, operand_function, operand_unary, operand_short, operand_both, operand_narrow)

pub ruleset test_rules = (append_assoc, append-nil, test_number, test_temp, test_global, test_function, test_not, test_unary, test_compared, test_other, test_narrow)

pub ruleset callee_rules = (append-nil, uses_direct, uses_through, uses_switched, uses_expanded)

pub ruleset stm_rules = (append_assoc, append-nil, uses_set, uses_set_global, uses_divide, uses_check, uses_read, uses_write, uses_zero, uses_if, uses_loop, uses_block, uses_break, uses_back, uses_call, uses_known, uses_return)
