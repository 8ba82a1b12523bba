-- The slots of a function in the code of all functions are its direct calls in the source.
use Rattle.std.proofs.Common.{arith, ◌≡◌, ℕ, suc, ◌+◌, true, List, [], ◌∷◌, length, map, refl, ap, ◌∙◌}
use Rattle.std.specs.Prelude.{◌==◌, if◌then◌else◌, slice_get, Some, sum}
use Rattle.std.proofs.lemmas.List.Sums.{sum_by-cons}
use Rattle.std.proofs.lemmas.Option.{slice_get_within}
use Rattle.mv_ast.specs.declared.program.Program.{Program}
use Rattle.mv_ast.specs.declared.program.Function.{Function}
use Rattle.mv_ast.specs.Counts.{is_attributed}
use Rattle.mv_isa.specs.declared.labelled.Labelled.{Labelled}
use Rattle.mv_isa.specs.declared.labelled.Line.{Line}
use Rattle.mv_isa.specs.declared.labelled.Line.TheVariants.{Word, Label, Jump, Branch, Entry, Slot, Point}
use Rattle.mv_ir.specs.declared.body.Body.{Body}
use Rattle.mv_source_forms.specs.WellFormed.{IsWellFormed}
use Rattle.mv_variants.specs.Bound.Slots.{slot_weight}
use Rattle.mv_count_slots.specs.Calls.{once_for, CalleesHaveSlots}
use Rattle.mv_link_changes.specs.Linked.{slots_of, slots_in}
use Rattle.mv_parts.specs.Codes.{AreGenerics, HaveCode}
use Rattle.mv_count_words.specs.Owed.{calls_of, direct_calls_of}
use Rattle.mv_num.proofs.Lists.{there_at}

slots_weigh : (f : ℕ) (lines : List Line) → slots_of f lines ≡ slot_weight (once_for f) lines
slots_weigh f [] = refl
slots_weigh f (Word i ∷ lines) = slots_weigh f lines
slots_weigh f (Label l ∷ lines) = slots_weigh f lines
slots_weigh f (Jump rd l ∷ lines) = slots_weigh f lines
slots_weigh f (Branch c rs1 rs2 l ∷ lines) = slots_weigh f lines
slots_weigh f (Entry rd g ∷ lines) = slots_weigh f lines
slots_weigh f (Point a ∷ lines) = slots_weigh f lines
slots_weigh f (Slot g ∷ lines) = ap (λ (n : ℕ). (if g == f then 1 else 0) + n) (slots_weigh f lines)

-- what codes count together is what their functions do, where each code counts as its function does
module _ (of : Labelled → ℕ) (of_all : List Labelled → ℕ) (calls : Function → ℕ) (none : of_all [] ≡ 0) (more : (code : Labelled) (codes : List Labelled) → of_all (code ∷ codes) ≡ of code + of_all codes) where
  pub one_each : (codes : List Labelled) (gs : List Function) → length codes ≡ length gs →
      ((i : ℕ) (code : Labelled) (g : Function) → slice_get codes i ≡ Some code → slice_get gs i ≡ Some g → of code ≡ calls g) → of_all codes ≡ sum (map calls gs)
  one_each [] [] count each = none
  one_each [] (g ∷ gs) count each = absurd (omega (arith, count))
  one_each (code ∷ codes) [] count each = absurd (omega (arith, count))
  one_each (code ∷ codes) (g ∷ gs) count each =
      let here = each 0 code g refl refl in
      let rest = one_each codes gs (omega (arith, count)) (λ i c h at there. each (suc i) c h at there) in
      let split = sum_by-cons (λ (n : ℕ). n) (calls g) (map calls gs) in omega (arith, here, rest, split, more code codes)

module _ (have_slots : CalleesHaveSlots) (p : Program) (formed : IsWellFormed p) (bodies : List Body) (generics : AreGenerics p bodies) (codes : List Labelled) (code : HaveCode p bodies codes) where
  pub slots_are_calls : (f : ℕ) → is_attributed (slice_get p.functions f) ≡ true → slots_in f codes ≡ direct_calls_of f p
  slots_are_calls f a = one_each (λ (c : Labelled). slots_of f c.items) (slots_in f) (calls_of f) refl (λ c cs. refl) codes p.functions code.one_each each
    where
      each : (i : ℕ) (c : Labelled) (g : Function) → slice_get codes i ≡ Some c → slice_get p.functions i ≡ Some g → slots_of f c.items ≡ calls_of f g
      each i c g at there =
          let within = slice_get_within p.functions i g there in
          let count = generics.one_each in
          let body = there_at bodies i (omega (arith, within, count)) in
          let has = code.each i body.0 c body.1 at in
          let general = generics.each i g body.0 there body.1 in
          slots_weigh f c.items ∙ ap (slot_weight (once_for f)) has.is_code.selected.items
          ∙ have_slots p i g (record { formed = formed; there = there }) body.0 general has.function.attributed f a
