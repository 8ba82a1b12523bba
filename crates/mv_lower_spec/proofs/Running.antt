-- How code runs, by its statements.
use Rattle.std.proofs.Common.{◌≡◌, ℕ, suc, ◌+◌, ◌*◌, true, false, cond, eqb, ltb, List, [], ◌∷◌, ◌++◌, map, Option, Some, refl, ◌∙◌, subst, ap, arith}
use Rattle.std.specs.Prelude.{length, slice_index, slice_set, slice_index_or}
use Rattle.mv_ir.specs.declared.tree.Tree.{Tree}
use Rattle.mv_ir.specs.declared.tree.Tree.TheOpen as tree
use Rattle.mv_ir.specs.declared.stm.Stm.{Stm}
use Rattle.mv_ir.specs.declared.stm.Stm.TheOpen as stm
use Rattle.mv_ir.specs.declared.stm.Array.{Array}
use Rattle.mv_ir.specs.declared.stm.Callee.{Callee}
use Rattle.mv_ast.specs.declared.program.Known.{Known}
use Rattle.mv_ir.specs.World.{Setting}
use Rattle.mv_ir.specs.World as code_world
use Rattle.mv_ir.specs.Outcome.{State, End, Next, Ends, Run, Bound, spend, then_do, in_order}
use Rattle.mv_ir.specs.Outcome as ir
use Rattle.mv_ir.specs.Trees as ir_tree
use Rattle.mv_ir.specs.Trees.{nodes, nodes_of_all}
use Rattle.mv_ir.specs.Meaning.{code_meaning, meaning, with_temp, with_world, with_global, with_elements, elements, outside, traps, goal, callee_nodes, call_cost, call_to, known_end}
use Rattle.mv_ir.proofs.Keeping.{map_append, in_order_append, one_meaning}
use Rattle.mv_ir.proofs.Rolls.{value_roll, nodes_roll}
use Rattle.mv_lower_spec.specs.Lowered as lowered
use Rattle.mv_lower_spec.specs.Lowered.{number, temp, global, unary, binary, set, set_global, divide, choose, check, read, write, call, known}
use Rattle.mv_lower_spec.specs.Correct.{Scene, val, Runs, ran}

-- ---- trees

module _ (scene : Scene) where
  pub val_number : (n : ℕ) (s : State) → val scene (number n) s ≡ n
  val_number n s = ap (λ (v : ir_tree.Value). v s.temps s.world.globals) (value_roll scene.setting.numbers scene.frame.bound (tree.Number n))

  pub val_temp : (t : ℕ) (s : State) → val scene (temp t) s ≡ slice_index s.temps t
  val_temp t s = ap (λ (v : ir_tree.Value). v s.temps s.world.globals) (value_roll scene.setting.numbers scene.frame.bound (tree.Temp t))

  pub val_global : (g : ℕ) (s : State) → val scene (global g) s ≡ ir_tree.read_as (ir_tree.found scene.frame.bound g) (ir_tree.scalar s.world.globals g)
  val_global g s = ap (λ (v : ir_tree.Value). v s.temps s.world.globals) (value_roll scene.setting.numbers scene.frame.bound (tree.Global g))

  pub val_function : (f : ℕ) (s : State) → val scene (lowered.function f) s ≡ slice_index scene.setting.numbers f
  val_function f s = ap (λ (v : ir_tree.Value). v s.temps s.world.globals) (value_roll scene.setting.numbers scene.frame.bound (tree.Function f))

  pub val_unary : (o : ℕ) (a : Tree) (s : State) → val scene (unary o a) s ≡ ir_tree.unary o (val scene a s)
  val_unary o a s = ap (λ (v : ir_tree.Value). v s.temps s.world.globals) (value_roll scene.setting.numbers scene.frame.bound (tree.Unary o a))

  pub val_binary : (o : ℕ) (a b : Tree) (s : State) → val scene (binary o a b) s ≡ ir_tree.binary o (val scene a s) (val scene b s)
  val_binary o a b s = ap (λ (v : ir_tree.Value). v s.temps s.world.globals) (value_roll scene.setting.numbers scene.frame.bound (tree.Binary o a b))

-- ---- code

pub joined : (setting : Setting) (frame : code_world.Frame) (xs ys : List Stm) (b : Bound) (s : State) → code_meaning setting frame (xs ++ ys) b s ≡ then_do (code_meaning setting frame xs b s) (code_meaning setting frame ys b)
joined setting frame xs ys b s = ap (λ l. in_order l b s) (map_append (meaning setting frame) xs ys) ∙ in_order_append (map (meaning setting frame) xs) (map (meaning setting frame) ys) b s

module _ (scene : Scene) (bound : Bound) where
  pub runs_nil : (s : State) → Runs scene bound [] s (Next s) 0
  runs_nil s = refl

  pub runs_append : (xs ys : List Stm) (s s1 : State) (o : ir.Outcome) (c1 c2 : ℕ) → Runs scene bound xs s (Next s1) c1 → Runs scene bound ys s1 o c2 → Runs scene bound (xs ++ ys) s o (c1 + c2)
  runs_append xs ys s s1 o c1 c2 h k =
      joined scene.setting scene.frame xs ys bound s ∙ ap (λ r. then_do r (code_meaning scene.setting scene.frame ys bound)) h ∙ ap (λ r. spend c1 r) k

  pub runs_stop : (xs ys : List Stm) (s : State) (e : End) (c : ℕ) → Runs scene bound xs s (Ends e) c → Runs scene bound (xs ++ ys) s (Ends e) c
  runs_stop xs ys s e c h =
      joined scene.setting scene.frame xs ys bound s ∙ ap (λ r. then_do r (code_meaning scene.setting scene.frame ys bound)) h ∙ ap (λ n. ran n (Ends e)) (omega arith)

  -- where the code ends, if it is empty
  pub runs_nowhere : (xs : List Stm) (s s1 : State) (c : ℕ) → xs ≡ [] → Runs scene bound xs s (Next s1) c → s ≡ s1
  runs_nowhere xs s s1 c e h =
      let h0 : Runs scene bound [] s (Next s1) c = subst (λ l. Runs scene bound l s (Next s1) c) e h in
      let same : Next s ≡ Next s1 = ap (λ (r : Run). r.outcome) h0 in cc

  -- ---- one statement

  pub runs_set : (t : ℕ) (v : Tree) (s : State) → Runs scene bound (set t v ∷ []) s (Next (with_temp s t (val scene v s))) (8 + 3 * nodes v)
  runs_set t v s = one_meaning scene.setting scene.frame (stm.Set t v) bound s

  pub runs_set_global : (g : ℕ) (v : Tree) (s : State) → Runs scene bound (set_global g v ∷ []) s (Next (with_world s (with_global s.world g (slice_set (slice_index_or s.world.globals g []) 0 (val scene v s))))) (8 + 3 * nodes v)
  runs_set_global g v s = one_meaning scene.setting scene.frame (stm.SetGlobal g v) bound s

  pub runs_divide : (t o : ℕ) (a b : Tree) (s : State) →
      Runs scene bound (divide t o a b ∷ []) s (cond (eqb (val scene b s) 0) (traps 1 s) (Next (with_temp s t (ir_tree.divide o (val scene a s) (val scene b s))))) (8 + 3 * (nodes a + nodes b))
  runs_divide t o a b s = one_meaning scene.setting scene.frame (stm.Divide t o a b) bound s

  pub if_runs : (t : Tree) (a b : List Stm) (s : State) →
      code_meaning scene.setting scene.frame (choose t a b ∷ []) bound s ≡
      spend (8 + 3 * nodes t) (cond (eqb (val scene t s) 0) (code_meaning scene.setting scene.frame b bound s) (code_meaning scene.setting scene.frame a bound s))
  if_runs t a b s = one_meaning scene.setting scene.frame (stm.If t a b) bound s

  pub runs_if_zero : (t : Tree) (a b : List Stm) (s : State) (o : ir.Outcome) (c : ℕ) → eqb (val scene t s) 0 ≡ true → Runs scene bound b s o c → Runs scene bound (choose t a b ∷ []) s o ((8 + 3 * nodes t) + c)
  runs_if_zero t a b s o c e h =
      if_runs t a b s ∙
      ap (λ q. spend (8 + 3 * nodes t) (cond q (code_meaning scene.setting scene.frame b bound s) (code_meaning scene.setting scene.frame a bound s))) e ∙
      ap (λ r. spend (8 + 3 * nodes t) r) h

  pub runs_if_other : (t : Tree) (a b : List Stm) (s : State) (o : ir.Outcome) (c : ℕ) → eqb (val scene t s) 0 ≡ false → Runs scene bound a s o c → Runs scene bound (choose t a b ∷ []) s o ((8 + 3 * nodes t) + c)
  runs_if_other t a b s o c e h =
      if_runs t a b s ∙
      ap (λ q. spend (8 + 3 * nodes t) (cond q (code_meaning scene.setting scene.frame b bound s) (code_meaning scene.setting scene.frame a bound s))) e ∙
      ap (λ r. spend (8 + 3 * nodes t) r) h

  pub runs_check : (a : Array) (i : Tree) (s : State) →
      Runs scene bound (check a i ∷ []) s (cond (ltb (val scene i s) (length (elements a s))) (Next s) (Ends (outside a (val scene i s) s.world))) (8 + 3 * nodes i)
  runs_check a i s = one_meaning scene.setting scene.frame (stm.Check a i) bound s

  pub runs_read : (t : ℕ) (a : Array) (i : Tree) (s : State) →
      Runs scene bound (read t a i ∷ []) s (cond (ltb (val scene i s) (length (elements a s))) (Next (with_temp s t (slice_index (elements a s) (val scene i s)))) (Ends (outside a (val scene i s) s.world))) (8 + 3 * nodes i)
  runs_read t a i s = one_meaning scene.setting scene.frame (stm.Read t a i) bound s

  pub runs_write : (a : Array) (i v : Tree) (s : State) →
      Runs scene bound (write a i v ∷ []) s
      (cond (ltb (val scene i s) (length (elements a s))) (Next (with_elements a s (slice_set (elements a s) (val scene i s) (val scene v s))))
      (Ends (outside a (val scene i s) s.world))) (8 + 3 * (nodes i + nodes v))
  runs_write a i v s = one_meaning scene.setting scene.frame (stm.Write a i v) bound s

  pub runs_call : (t : Option ℕ) (f : Callee) (args : List Tree) (s : State) →
      code_meaning scene.setting scene.frame (call t f args ∷ []) bound s ≡
      spend (call_cost f + 3 * (callee_nodes scene.setting scene.frame f + nodes_of_all args)) (call_to (goal scene.setting scene.frame f s) scene.frame.depth scene.frame.live t (map (λ a. val scene a s) args) bound s)
  runs_call t f args s = one_meaning scene.setting scene.frame (stm.Call t f args) bound s

  pub runs_known : (t : ℕ) (k : Known) (args : List Tree) (s : State) →
      code_meaning scene.setting scene.frame (known t k args ∷ []) bound s ≡
      spend (30 + 3 * nodes_of_all args) (known_end scene.setting scene.frame (Some t) s (scene.setting.known k (map (λ a. val scene a s) args) scene.frame.live s.world))
  runs_known t k args s = one_meaning scene.setting scene.frame (stm.Known (Some t) k args) bound s

pub nodes_number : (n : ℕ) → nodes (number n) ≡ 1
nodes_number n = nodes_roll (tree.Number n)

pub nodes_temp : (t : ℕ) → nodes (temp t) ≡ 1
nodes_temp t = nodes_roll (tree.Temp t)

pub nodes_global : (g : ℕ) → nodes (global g) ≡ 1
nodes_global g = nodes_roll (tree.Global g)

pub nodes_function : (f : ℕ) → nodes (lowered.function f) ≡ 1
nodes_function f = nodes_roll (tree.Function f)

pub nodes_unary : (o : ℕ) (a : Tree) → nodes (unary o a) ≡ suc (nodes a)
nodes_unary o a = nodes_roll (tree.Unary o a)

pub nodes_binary : (o : ℕ) (a b : Tree) → nodes (binary o a b) ≡ suc (nodes a + nodes b)
nodes_binary o a b = nodes_roll (tree.Binary o a b)
