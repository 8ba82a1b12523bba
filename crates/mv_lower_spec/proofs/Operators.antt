-- The operators as trees have the source's values.
use Rattle.std.proofs.Common.{◌≡◌, ℕ, suc, ◌+◌, ◌≤◌, Bool, true, false, cond, refl, ◌∙◌, ap, arith}
use Rattle.std.specs.Prelude.{not, nat_eq}
use Rattle.mv_num.specs.Words as word
use Rattle.mv_ir.specs.declared.tree.Tree.{Tree}
use Rattle.mv_ir.specs.declared.tree.Tree.TheOpen as tree
use Rattle.mv_ast.specs.declared.program.CType.{CType}
use Rattle.mv_ast.specs.declared.program.CType.TheVariants.{Void, Scalar, Pointer}
use Rattle.mv_ast.specs.Operators.{is_unsigned, is_less, converted, unary_value, bit_value}
use Rattle.mv_num.specs.Words.{as_word}
use Rattle.mv_ir.specs.Outcome.{State}
use Rattle.mv_ir.specs.Trees as ir_tree
use Rattle.mv_ir.specs.Trees.{nodes}
use Rattle.mv_ir.proofs.Rolls.{value_roll, nodes_roll}
use Rattle.mv_lower_spec.specs.Lowered.{number, unary, binary}
use Rattle.mv_lower_spec.specs.Lower.{narrowed, unary_tree, converted_tree, less_tree, bit_tree}
use Rattle.mv_lower_spec.specs.Correct.{Scene, val}
use Rattle.mv_lower_spec.proofs.Running as run
use Rattle.mv_lower_spec.proofs.Running.{nodes_number, nodes_unary, nodes_binary}

-- ---- sizes

pub small_if : (z : Bool) (x y : Tree) (m : ℕ) → nodes x ≤ m → nodes y ≤ m → nodes (cond z x y) ≤ m
small_if true x y m h k = h
small_if false x y m h k = k

small_less : (t : CType) (a b : Tree) → nodes (less_tree t a b) ≤ nodes a + nodes b + 1
small_less t a b = small_if (is_unsigned t) (binary 10 a b) (binary 9 a b) (nodes a + nodes b + 1) (omega (arith, nodes_binary 10 a b)) (omega (arith, nodes_binary 9 a b))

pub bit_nodes : (op : ℕ) (t : CType) (a b : Tree) → nodes (bit_tree op t a b) ≤ nodes a + nodes b + 2
bit_nodes op t a b =
    let m = nodes a + nodes b + 2 in
    small_if (nat_eq op 17) _ _ m (two 3) (small_if (nat_eq op 18) _ _ m (two 4) (small_if (nat_eq op 19) _ _ m (two 5)
    (small_if (nat_eq op 20) _ _ m (omega (arith, small_less t a b)) (small_if (nat_eq op 21) _ _ m (omega (arith, small_less t b a))
    (small_if (nat_eq op 25) _ _ m (two 6) (small_if (nat_eq op 26) _ _ m (small_if (is_unsigned t) _ _ m (two 8) (two 7))
    (small_if (nat_eq op 27) _ _ m (omega (arith, small_less t b a, nodes_unary 2 (less_tree t b a))) (small_if (nat_eq op 28) _ _ m (omega (arith, small_less t a b, nodes_unary 2 (less_tree t a b)))
    (small_if (nat_eq op 29) _ _ m (two 11) (two 12))))))))))
  where
    two : (o : ℕ) → nodes (binary o a b) ≤ nodes a + nodes b + 2
    two o = omega (arith, nodes_binary o a b)

pub unary_nodes : (op : ℕ) (a : Tree) → nodes (unary_tree op a) ≤ nodes a + 2
unary_nodes op a =
    let m = nodes a + 2 in
    small_if (nat_eq op 10) _ _ m (omega (arith, nodes_binary 5 a (number 4294967295), nodes_number 4294967295))
    (small_if (nat_eq op 11) _ _ m (omega (arith, nodes_unary 2 a)) (small_if (nat_eq op 13) _ _ m (omega (arith, nodes_unary 0 a)) (omega arith)))

pub converted_nodes : (t : CType) (a : Tree) → nodes (converted_tree t a) ≤ nodes a + 1
converted_nodes Void a = omega (arith, nodes_number 0)
converted_nodes (Scalar kind) a = let e : nodes (narrowed kind a) ≡ suc (nodes a) = nodes_roll (tree.Narrow kind a) in omega (arith, e)
converted_nodes (Pointer signature) a = omega arith

-- ---- values

module _ (scene : Scene) where
  same_if : (z : Bool) (x y : Tree) (v u : ℕ) (s : State) → val scene x s ≡ v → val scene y s ≡ u → val scene (cond z x y) s ≡ cond z v u
  same_if true x y v u s h k = h
  same_if false x y v u s h k = k

  abbrev B : (o : ℕ) (a b : Tree) (s : State) → val scene (binary o a b) s ≡ ir_tree.binary o (val scene a s) (val scene b s)
  B o a b s = run.val_binary scene o a b s

  less_value : (t : CType) (a b : Tree) (s : State) → val scene (less_tree t a b) s ≡ as_word (is_less t (val scene a s) (val scene b s))
  unfolding ir_tree.binary
  less_value t a b s = same_if (is_unsigned t) (binary 10 a b) (binary 9 a b) _ _ s (B 10 a b s) (B 9 a b s) ∙ by (is_unsigned t)
    where
      by : (z : Bool) → cond z (ir_tree.binary 10 (val scene a s) (val scene b s)) (ir_tree.binary 9 (val scene a s) (val scene b s)) ≡ as_word (cond z (word.lt_u (val scene a s) (val scene b s)) (word.lt_s (val scene a s) (val scene b s)))
      by true = refl
      by false = refl

  not_less : (t : CType) (a b : Tree) (s : State) → val scene (unary 2 (less_tree t a b)) s ≡ as_word (not (is_less t (val scene a s) (val scene b s)))
  unfolding ir_tree.unary
  not_less t a b s =
      run.val_unary scene 2 (less_tree t a b) s ∙ ap (ir_tree.unary 2) (less_value t a b s) ∙ by (is_less t (val scene a s) (val scene b s))
    where
      by : (z : Bool) → ir_tree.unary 2 (as_word z) ≡ as_word (not z)
      by true = refl
      by false = refl

  pub bit_same : (op : ℕ) (t : CType) (a b : Tree) (s : State) → val scene (bit_tree op t a b) s ≡ bit_value op t (val scene a s) (val scene b s)
  unfolding bit_value ir_tree.binary
  bit_same op t a b s =
      same_if (nat_eq op 17) _ _ _ _ s (B 3 a b s) (same_if (nat_eq op 18) _ _ _ _ s (B 4 a b s) (same_if (nat_eq op 19) _ _ _ _ s (B 5 a b s)
      (same_if (nat_eq op 20) _ _ _ _ s (less_value t a b s) (same_if (nat_eq op 21) _ _ _ _ s (less_value t b a s)
      (same_if (nat_eq op 25) _ _ _ _ s (B 6 a b s) (same_if (nat_eq op 26) _ _ _ _ s (same_if (is_unsigned t) _ _ _ _ s (B 8 a b s) (B 7 a b s))
      (same_if (nat_eq op 27) _ _ _ _ s (not_less t b a s) (same_if (nat_eq op 28) _ _ _ _ s (not_less t a b s)
      (same_if (nat_eq op 29) _ _ _ _ s (B 11 a b s) (B 12 a b s))))))))))

  pub unary_same : (op : ℕ) (a : Tree) (s : State) → val scene (unary_tree op a) s ≡ unary_value op (val scene a s)
  unfolding unary_value ir_tree.unary ir_tree.binary
  unary_same op a s =
      same_if (nat_eq op 10) _ _ _ _ s (B 5 a (number 4294967295) s ∙ ap (λ k. ir_tree.binary 5 (val scene a s) k) (run.val_number scene 4294967295 s))
      (same_if (nat_eq op 11) _ _ _ _ s (run.val_unary scene 2 a s)
      (same_if (nat_eq op 13) _ _ _ _ s (run.val_unary scene 0 a s) refl))

  pub converted_same : (t : CType) (a : Tree) (s : State) → val scene (converted_tree t a) s ≡ converted t (val scene a s)
  converted_same Void a s = run.val_number scene 0 s
  converted_same (Scalar kind) a s = ap (λ (v : ir_tree.Value). v s.temps s.world.globals) (value_roll scene.setting.numbers scene.frame.bound (tree.Narrow kind a))
  converted_same (Pointer signature) a s = refl

  pub add_same : (a b : Tree) (s : State) → val scene (binary 0 a b) s ≡ word.add (val scene a s) (val scene b s)
  unfolding ir_tree.binary
  add_same a b s = B 0 a b s

  pub sub_same : (a b : Tree) (s : State) → val scene (binary 1 a b) s ≡ word.sub (val scene a s) (val scene b s)
  unfolding ir_tree.binary
  sub_same a b s = B 1 a b s

  pub mul_same : (a b : Tree) (s : State) → val scene (binary 2 a b) s ≡ word.mul (val scene a s) (val scene b s)
  unfolding ir_tree.binary
  mul_same a b s = B 2 a b s
