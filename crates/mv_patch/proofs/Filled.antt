-- What a plan is filled with.
use Rattle.std.proofs.Common.{◌≡◌, ℕ, List, ◌++◌, length, take, drop, ap, ◌∙◌, arith}
use Rattle.std.proofs.Math.Seq.{take-append_seam}
use Rattle.std.proofs.lemmas.List.{length-append, length-drop}
use Rattle.mv_bindings.specs.declared.binding.Binding.{Binding}
use Rattle.mv_fetch.specs.Held.{Held}
use Rattle.mv_image.specs.Spelling.{Fields}
use Rattle.mv_patch.specs.declared.prepared.Pair.{Pair}
use Rattle.mv_patch.specs.Plans.{Planned, plan_between, plan_of}
use Rattle.mv_patch.specs.Orders.{binding_count, pointer_bindings, is_ordered, is_pointer_ordered, next_binding, next_pointer, ordered_rows, bindings_ordered, answer_after}
use Rattle.mv_patch.proofs.Rebinding.{ordered_count}

-- a slice that is written back over a whole list
pub written_back : {X : Type 0} (n : ℕ) (xs items : List X) → n ≡ length xs → take n (xs ++ drop (length xs) items) ≡ xs
written_back {X = X} n xs items e = ap (λ (k : ℕ). take k (xs ++ drop (length xs) items)) e ∙ take-append_seam xs (drop (length xs) items)

pub bindings_count : (image : Fields) (held : Held) (code index : ℕ) (bs : List Binding) → length bs ≡ binding_count image → length (bindings_ordered image held code index bs) ≡ binding_count image
unfolding bindings_ordered
bindings_count image held code index bs e =
    let functions = ordered_rows (is_ordered code index) (next_binding image held code) 0 image.functions bs in
    let pointers = ordered_rows (is_pointer_ordered image code index) (next_pointer image held code) 0 image.pointers (pointer_bindings image bs) in
    let both = length-append functions pointers in
    let first = ordered_count (is_ordered code index) (next_binding image held code) 0 image.functions bs (omega (arith, e)) in
    let rest = length-drop (length image.functions) bs in
    let second = ordered_count (is_pointer_ordered image code index) (next_pointer image held code) 0 image.pointers (pointer_bindings image bs) (omega (arith, e, rest)) in
    omega (arith, both, first, second)

module _ (image : Fields) (held : Held) (old : List Binding) (code index : ℕ) where
  by_bound : List Binding → Planned
  by_bound bound = record { pairs = plan_between image old bound; bound = bound; answer = answer_after image code index bound }

  pub planned_is : (pairs : List Pair) (bound : List Binding) (answer : ℕ) → bound ≡ bindings_ordered image held code index old → pairs ≡ plan_between image old bound → answer ≡ answer_after image code index bound
      → (let p : Planned = record { pairs = pairs; bound = bound; answer = answer } in p) ≡ plan_of image held old code index
  unfolding plan_of by_bound
  planned_is pairs bound answer e f g = rw (f, g) (ap by_bound e)
