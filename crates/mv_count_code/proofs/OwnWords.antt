-- The words that statements take besides those of their trees are a measure of statements.
use Rattle.std.proofs.Common.{arith, ◌≡◌, ℕ, List, map, ap, refl}
use Rattle.mv_ir.specs.declared.stm.Callee.{Callee}
use Rattle.mv_ir.specs.declared.stm.Callee.TheVariants as callee
use Rattle.mv_ir.specs.declared.stm.Stm.{Stm}
use Rattle.mv_ir.specs.declared.stm.Stm.TheOpen.{Stm-F}
use Rattle.mv_ir.specs.declared.stm.Stm.TheOpen as stm
use Rattle.mv_ir.specs.declared.stm.Stm.TheFolds.{fold-Stm}
use Rattle.mv_ir.specs.Measures.{total}
use Rattle.mv_ir.proofs.Rolls.{same_functions}
use Rattle.mv_select_code.specs.Control.Encoded.{call_words, words_layer, stm_words, own_words}
use Rattle.mv_select_code.proofs.OfControl.FlowEncoded.{words_roll}
use Rattle.mv_lower_spec.specs.Shape.Allowances.{call_allowance, layer_allowance, stm_allowance, allowance}
use Rattle.mv_variants.proofs.OfBound.Measures.{SameGoal, Measure}
use Rattle.mv_variants.proofs.OfBound.FinishedMeasures.{CountsArms}

-- ---- the words that a statement takes are those that it is allowed

same_call : (f : Callee) → call_words f ≡ call_allowance f
same_call (callee.Direct f) = refl
same_call (callee.Through t) = refl
same_call (callee.Switched g) = refl
same_call callee.Expanded = refl

same_layers : (x : Stm-F ℕ) → words_layer x ≡ layer_allowance x
same_layers (stm.Set t v) = refl
same_layers (stm.SetGlobal g v) = refl
same_layers (stm.Divide t o a b) = refl
same_layers (stm.Check a i) = refl
same_layers (stm.Read t a i) = refl
same_layers (stm.Write a i v) = refl
same_layers (stm.Zero a) = refl
same_layers (stm.If t a b) = refl
same_layers (stm.Loop b) = refl
same_layers (stm.Block b) = refl
same_layers (stm.Break n) = refl
same_layers (stm.Back n) = refl
same_layers (stm.Call r f args) = same_call f
same_layers (stm.Known r k args) = refl
same_layers (stm.Return v) = refl

same_folds : stm_words ≡ stm_allowance
unfolding stm_words stm_allowance
same_folds = ap (fold-Stm ℕ) (same_functions words_layer layer_allowance same_layers)

pub words_allowed : (code : List Stm) → own_words code ≡ allowance code
words_allowed code = ap (λ f. total (map f code)) same_folds

goal_words : (f g : Callee) → SameGoal f g → call_words f ≡ call_words g
goal_words (callee.Direct f) (callee.Direct g) e = refl
goal_words (callee.Through t) (callee.Through u) e = refl
goal_words (callee.Switched g) (callee.Switched h) e = refl
goal_words callee.Expanded callee.Expanded e = refl
goal_words _ _ e = absurd e

pub words_measured : Measure words_layer stm_words
words_measured = record {
  roll = words_roll;
  set = λ t u v w. refl;
  store = λ g h v w. refl;
  divide = λ t u o p a b c d. refl;
  divided = λ t u o v a b. omega arith;
  check = λ r s i j. refl;
  fetched = λ t u v r i. omega arith;
  read = λ t u r s i j. refl;
  write = λ r s i j v w. refl;
  branch = λ t u a b. omega arith;
  loop = λ a b h. omega (arith, h);
  block = λ a b h. h;
  looped = λ a. omega arith;
  blocked = λ a. omega arith;
  break = λ n k. refl;
  jump = λ n t v. omega arith;
  back = λ n t v. omega arith;
  call = λ r s f g xs ys e. goal_words f g e;
  known = λ r s k xs ys. refl;
  return = λ v w. refl;
}

pub words_of_arms : CountsArms words_layer
words_of_arms = record { blocks = λ a. refl; backs = λ n k. refl; jumps = omega arith }
