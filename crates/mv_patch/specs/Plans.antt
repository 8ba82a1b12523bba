-- The plans of commits and reverts: the words that these change, with the bindings behind them and their answers.
use Rattle.std.specs.Prelude.{ℕ, List}
use Rattle.mv_bindings.specs.declared.binding.Binding.{Binding}
use Rattle.mv_fetch.specs.Held.{Held}
use Rattle.mv_image.specs.Spelling.{Fields}
use Rattle.mv_image.specs.Patched.{text_of}
use Rattle.mv_patch.specs.declared.prepared.Pair.{Pair}
use Rattle.mv_patch.specs.Pairs.{pairs_between}
use Rattle.mv_patch.specs.Orders.{values_of, bindings_ordered, answer_after}

-- what makes the text of some bindings that of others
abbrev pub plan_between : Fields → (old new : List Binding) → List Pair
plan_between image old new = pairs_between (text_of image (values_of old)) (text_of image (values_of new))

-- the words that an order changes, the bindings behind it, and its answer
pub record Planned : Type 0 where
  pub pairs : List Pair
  pub bound : List Binding
  pub answer : ℕ

unfoldable pub plan_of : Fields → Held → List Binding → (code index : ℕ) → Planned
plan_of image held old code index =
    let new = bindings_ordered image held code index old in
    record { pairs = plan_between image old new; bound = new; answer = answer_after image code index new }

-- a plan, and the number of pairs for which it has memory
pub record Prepared : Type 0 where
  pub planned : Planned
  pub room : ℕ
