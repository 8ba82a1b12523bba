-- The words of text that bindings of a program's image change are as many as they owe.
use Rattle.std.proofs.Common.{arith, inl, inr, ◌≡◌, ℕ, zero, suc, ◌+◌, ◌*◌, ◌<◌, ◌≤◌, Bool, true, false, if◌then◌else◌, List, [], ◌∷◌, length, take, drop, is_some, Option, Some, None, refl, sym, ap, ◌∙◌, subst}
use Rattle.std.specs.Prelude.{option_and_then, slice_get}
use Rattle.std.proofs.lemmas.Bool.{cases_lt}
use Rattle.std.proofs.lemmas.List.{length-map, length-drop, get_or-drop}
use Rattle.std.proofs.lemmas.Option.{slice_get_within, slice_get_past, slice_get-get_or, get_or_from_slice_get}
use Rattle.mv_ast.specs.declared.program.Program.{Program}
use Rattle.mv_bindings.specs.declared.binding.Binding.{Binding}
use Rattle.mv_ast.specs.Counts.{is_attributed, is_pointer}
use Rattle.mv_ast.specs.Switches.{attributed_functions, pointer_bindings}
use Rattle.mv_ir.specs.declared.body.Body.{Body}
use Rattle.mv_source_forms.specs.WellFormed.{IsWellFormed}
use Rattle.mv_image.specs.Faults.{Rules}
use Rattle.mv_image.specs.Patched.{variant_under, target_under, pointer_number}
use Rattle.mv_image.specs.Spelling.{Fields}
use Rattle.mv_patch.specs.Orders.{bound_values, values_of}
use Rattle.mv_linker.specs.declared.parts.Parts.{Parts}
use Rattle.mv_linker.specs.declared.parts.PartFunction.{PartFunction}
use Rattle.mv_linker.specs.declared.parts.PartPointer.{PartPointer}
use Rattle.mv_linker.specs.Outcome.{IsLinked}
use Rattle.mv_linker.specs.Tables.{function_row, pointer_row, place_among}
use Rattle.mv_linker.proofs.LinkedText.{linked_text}
use Rattle.mv_linker.proofs.Sited.{among}
use Rattle.mv_link_text.specs.Laws.{CodesAscend, PatchedCodeStands}
use Rattle.mv_link_text.proofs.Codes.{one_number}
use Rattle.mv_link_text.proofs.Found.{among_at}
use Rattle.mv_link_text.specs.Text.{label_place}
use Rattle.mv_count_slots.specs.Calls.{CalleesHaveSlots}
use Rattle.mv_link_changes.specs.Changed.{changed_words, shown_words, shown_through, sites_of, points_of, sum_from, TextShowsBindings, FreeTextIsUnchanged}
use Rattle.mv_link_changes.specs.Linked.{SlotsAreSites, PointsAreSites}
use Rattle.mv_variants.specs.declared.variant.Variant.{Variant}
use Rattle.mv_parts.specs.Numbers.{attributed_numbers}
use Rattle.mv_parts.specs.Parts.{ArePartsOf}
use Rattle.mv_parts.specs.Switches.{part_pointer}
use Rattle.mv_parts.proofs.LinkedNumbers.{as_many}
use Rattle.mv_parts.proofs.Numbers as numbered
use Rattle.mv_count_words.specs.Bound.{AreBound}
use Rattle.mv_count_words.specs.Laws.{ImagesCountWords}
use Rattle.mv_count_words.specs.Owed.{direct_calls_of, calls_through_of, owed_by, owed_through, owed_words, CountsWords}
use Rattle.mv_count_words.proofs.Sites.{slots_are_calls}
use Rattle.mv_count_words.proofs.Told.{can_be_told}
use Rattle.mv_count_words.proofs.Pointers.{part_at, place_is_number, points_are_through, none_through}
use Rattle.mv_num.proofs.Lists.{there_at}

-- ---- sums

-- what a function owes, and what a pointer switch does

abbrev owes : Program → ℕ → Binding → ℕ
owes p f b = if b.bound then 1 + direct_calls_of f p else 0

abbrev owes_through : Program → ℕ → Binding → ℕ
owes_through p x b = if b.bound then 4 * calls_through_of x p else 0

-- what all of some numbers owe, beside which their bindings stand
module _ (owes : ℕ → Binding → ℕ) (all : List ℕ → List Binding → ℕ) (none : (bs : List Binding) → all [] bs ≡ 0) (short : (f : ℕ) (fs : List ℕ) → all (f ∷ fs) [] ≡ 0)
    (more : (f : ℕ) (fs : List ℕ) (b : Binding) (bs : List Binding) → all (f ∷ fs) (b ∷ bs) ≡ owes f b + all fs bs) where
  owed_least : {A : Type 0} (h : ℕ → ℕ) (i : ℕ) (fs : List ℕ) (bs : List Binding) (rows : List A) → length fs ≡ length rows →
      ((j f : ℕ) (b : Binding) → slice_get fs j ≡ Some f → slice_get bs j ≡ Some b → owes f b ≤ h (i + j)) → all fs bs ≤ sum_from h i rows
  owed_least h i [] bs rows count each = omega (arith, none bs)
  owed_least h i (f ∷ fs) [] rows count each = omega (arith, short f fs)
  owed_least h i (f ∷ fs) (b ∷ bs) [] count each = absurd (omega (arith, count))
  owed_least h i (f ∷ fs) (b ∷ bs) (row ∷ rows) count each =
      let first : i + 0 ≡ i = omega arith in
      let here : owes f b ≤ h i = subst (λ k. owes f b ≤ h k) first (each 0 f b refl refl) in
      let rest = owed_least h (suc i) fs bs rows (omega (arith, count)) (λ j g c at is. (let next : i + suc j ≡ suc i + j = omega arith in subst (λ k. owes g c ≤ h k) next (each (suc j) g c at is))) in
      omega (arith, here, rest, more f fs b bs)

  -- where all owe nothing each does
  none_owes : (fs : List ℕ) (bs : List Binding) → all fs bs ≡ 0 → (j f : ℕ) (b : Binding) → slice_get fs j ≡ Some f → slice_get bs j ≡ Some b → owes f b ≡ 0
  none_owes [] bs nothing j f b at is = absurd (let bad : ⊥ = cc in bad)
  none_owes (g ∷ fs) [] nothing j f b at is = absurd (let bad : ⊥ = cc in bad)
  none_owes (g ∷ fs) (c ∷ bs) nothing zero f b at is =
      let here : owes g c ≡ 0 = omega (arith, nothing, more g fs c bs) in
      let same : g ≡ f = cc in
      let equal : c ≡ b = cc in
      subst (λ (x : Binding). owes f x ≡ 0) equal (subst (λ k. owes k c ≡ 0) same here)
  none_owes (g ∷ fs) (c ∷ bs) nothing (suc j) f b at is = none_owes fs bs (omega (arith, nothing, more g fs c bs)) j f b at is

-- a binding behind others
at_drop : (n j : ℕ) (bs : List Binding) (b : Binding) → slice_get (drop n bs) j ≡ Some b → slice_get bs (n + j) ≡ Some b
at_drop n j bs b e =
    let within = slice_get_within (drop n bs) j b e in
    let size = length-drop n bs in
    slice_get-get_or bs (n + j) b (omega (arith, within, size)) ∙ ap Some (sym (get_or-drop n bs j b) ∙ get_or_from_slice_get (drop n bs) j b b e)

-- ---- bindings

bool_cases : (P : Type 0) (b : Bool) → (b ≡ true → P) → (b ≡ false → P) → P
bool_cases P true h k = h refl
bool_cases P false h k = k refl

module _ (have_slots : CalleesHaveSlots) (shows : TextShowsBindings) (unchanged : FreeTextIsUnchanged) (sites : SlotsAreSites) (points : PointsAreSites) (ascend : CodesAscend) (patched : PatchedCodeStands)
    (p : Program) (formed : IsWellFormed p) (bodies : List Body) (tables : List (List Variant)) (parts : Parts) (are : ArePartsOf p bodies tables parts)
    (image : Fields) (linked : IsLinked parts image) (rules : Rules image) (bs : List Binding) (bound : AreBound image bs) where
  open linked_text parts linked.sizing linked.text use {numbers}

  count : length (attributed_numbers p) ≡ length image.functions
  count =
      sym (ap (λ (ns : List ℕ). length ns) are.codes.variants.numbers) ∙ length-map parts.attributed (λ (a : PartFunction). a.function)
      ∙ sym (ap (λ (i : Fields). length i.functions) linked.image_is ∙ length-map parts.attributed (function_row (label_place parts linked.sizing)))

  count_pointers : length p.pointers ≡ length image.pointers
  count_pointers =
      sym (length-map p.pointers (part_pointer p)) ∙ ap (λ (qs : List PartPointer). length qs) (sym are.pointers)
      ∙ sym (ap (λ (i : Fields). length i.pointers) linked.image_is ∙ length-map parts.pointers pointer_row)

  -- the binding of a pointer switch
  bound_behind : (j : ℕ) (b : Binding) → slice_get (pointer_bindings p bs) j ≡ Some b → slice_get bs (pointer_number image j) ≡ Some b
  bound_behind j b e =
      let functions : length (attributed_functions p) ≡ length image.functions = sym (as_many 0 p.functions) ∙ count in
      subst (λ n. slice_get bs (n + j) ≡ Some b) functions (at_drop (length (attributed_functions p)) j bs b e)

  -- ---- at least

  -- a function has as many sites as direct calls
  sites_least : (j f : ℕ) → slice_get (attributed_numbers p) j ≡ Some f → direct_calls_of f p ≤ sites_of j image.sites
  sites_least j f at =
      let h = numbered.attributed_at p j f at in
      let here = subst (λ (ns : List ℕ). slice_get ns j ≡ Some f) (sym are.codes.variants.numbers) at in
      let place = one_number parts are.fit (place_among numbers f) j f (among numbers f j here).there here in
      let calls = slots_are_calls have_slots p formed bodies are.codes.generics parts.functions are.codes.code f (ap is_attributed h.there ∙ h.attributed) in
      let least = sites parts image linked f in
      let same = ap (λ (k : ℕ). sites_of k image.sites) place in omega (arith, calls, least, same)

  one_shown : (j f : ℕ) (b : Binding) → slice_get (attributed_numbers p) j ≡ Some f → slice_get bs j ≡ Some b → owes p f b ≤ shown_words image (values_of bs) j
  one_shown j f b at is = bool_cases (owes p f b ≤ shown_words image (values_of bs) j) b.bound yes no
    where
      no : b.bound ≡ false → owes p f b ≤ shown_words image (values_of bs) j
      no e = let none = ap {B = ℕ} (λ (t : Bool). if t then 1 + direct_calls_of f p else 0) e in omega (arith, none)

      yes : b.bound ≡ true → owes p f b ≤ shown_words image (values_of bs) j
      yes e =
          let own = ap {B = ℕ} (λ (t : Bool). if t then 1 + direct_calls_of f p else 0) e in
          let values : values_of bs j ≡ bound_values b = ap (option_and_then bound_values) is in
          let some : is_some (variant_under image j (values_of bs j)) ≡ true = ap (λ (o : Option (List ℕ)). is_some (variant_under image j o)) values
          ∙ bound.fit j b (let within = slice_get_within (attributed_numbers p) j f at in omega (arith, within, count)) is e in
          let shown = ap {B = ℕ} (λ (t : Bool). if t then 1 + sites_of j image.sites else 0) some in
          let least = sites_least j f at in omega (arith, own, shown, least)

  -- a pointer switch has as many sites as calls, and none where there are none

  of_pointer : (j x : ℕ) → slice_get p.pointers j ≡ Some x → is_pointer p x ≡ true
  of_pointer j x at = among_at x p.pointers j at

  through_least : (j x : ℕ) → slice_get p.pointers j ≡ Some x → calls_through_of x p ≤ points_of j image.points
  through_least j x at =
      let calls = points_are_through p formed bodies tables parts are linked.data_fits x (of_pointer j x at) in
      let place = place_is_number p formed bodies tables parts are linked.data_fits j x at in
      let own = (points parts image linked j (part_pointer p x) (part_at p formed bodies tables parts are linked.data_fits j x at) place).0 in
      omega (arith, calls, own)

  through_none : (j x : ℕ) → slice_get p.pointers j ≡ Some x → calls_through_of x p ≡ 0 → points_of j image.points ≡ 0
  through_none j x at none =
      let place = place_is_number p formed bodies tables parts are linked.data_fits j x at in
      (points parts image linked j (part_pointer p x) (part_at p formed bodies tables parts are linked.data_fits j x at) place).1
      (none_through p formed bodies tables parts are linked.data_fits x (of_pointer j x at) none)

  one_through : (j x : ℕ) (b : Binding) → slice_get p.pointers j ≡ Some x → slice_get (pointer_bindings p bs) j ≡ Some b → owes_through p x b ≤ shown_through image (values_of bs) j
  one_through j x b at is = bool_cases (owes_through p x b ≤ shown_through image (values_of bs) j) b.bound yes no
    where
      no : b.bound ≡ false → owes_through p x b ≤ shown_through image (values_of bs) j
      no e = let none = ap {B = ℕ} (λ (t : Bool). if t then 4 * calls_through_of x p else 0) e in omega (arith, none)

      yes : b.bound ≡ true → owes_through p x b ≤ shown_through image (values_of bs) j
      yes e =
          let own = ap {B = ℕ} (λ (t : Bool). if t then 4 * calls_through_of x p else 0) e in
          let there = bound_behind j b is in
          let values : values_of bs (pointer_number image j) ≡ bound_values b = ap (option_and_then bound_values) there in
          let some : is_some (target_under image (values_of bs (pointer_number image j))) ≡ true = ap (λ (o : Option (List ℕ)). is_some (target_under image o)) values ∙ bound.led j b there e in
          let shown = ap {B = ℕ} (λ (t : Bool). if t then 4 * points_of j image.points else 0) some in
          omega (arith, own, shown, through_least j x at)

  least : owed_words p bs ≤ changed_words image (values_of bs)
  least =
      let owed = owed_least (owes p) (owed_by p) (λ xs. refl) (λ f fs. refl) (λ f fs b xs. refl) (shown_words image (values_of bs)) 0 (attributed_numbers p) bs image.functions count
      (λ j f b at is. (let same : j ≡ 0 + j = omega arith in subst (λ k. owes p f b ≤ shown_words image (values_of bs) k) same (one_shown j f b at is))) in
      let through = owed_least (owes_through p) (owed_through p) (λ xs. refl) (λ f fs. refl) (λ f fs b xs. refl) (shown_through image (values_of bs)) 0 p.pointers (pointer_bindings p bs) image.pointers count_pointers
      (λ j x b at is. (let same : j ≡ 0 + j = omega arith in subst (λ k. owes_through p x b ≤ shown_through image (values_of bs) k) same (one_through j x b at is))) in
      let text = shows image rules (values_of bs) (λ f d row lt e. can_be_told ascend patched p bodies tables parts are image linked f (values_of bs f) d row lt e) in
      omega (arith, owed, through, text)

  -- ---- none

  free_at : (n : ℕ) (b : Binding) → slice_get bs n ≡ Some b → b.bound ≡ false → values_of bs n ≡ None
  free_at n b is e = ap (option_and_then bound_values) is ∙ ap (λ (t : Bool). if t then Some (take b.count b.values) else None) e

  module _ (nothing : owed_words p bs ≡ 0) where
    function_free : (f : ℕ) → f < length image.functions → values_of bs f ≡ None
    function_free f lt =
        let many = bound.count in
        let (g, at) = there_at (attributed_numbers p) f (omega (arith, lt, count)) in
        let (b, is) = there_at bs f (omega (arith, lt, many)) in
        let owed = none_owes (owes p) (owed_by p) (λ xs. refl) (λ h fs. refl) (λ h fs c xs. refl) (attributed_numbers p) bs (omega (arith, nothing)) f g b at is in
        free_at f b is
        (bool_cases (b.bound ≡ false) b.bound (λ e. absurd (let own = ap {B = ℕ} (λ (t : Bool). if t then 1 + direct_calls_of g p else 0) e in omega (arith, owed, own))) (λ e. e))

    pointer_free : (q : ℕ) → 0 < points_of q image.points → values_of bs (pointer_number image q) ≡ None
    pointer_free q some =
        elim (cases_lt q (length p.pointers)) [
          | inl lt ↦
              let many = bound.count in
              let functions = as_many 0 p.functions in
              let size = length-drop (length (attributed_functions p)) bs in
              let (x, at) = there_at p.pointers q lt in
              let (b, is) = there_at (pointer_bindings p bs) q (omega (arith, lt, many, count, count_pointers, functions, size)) in
              let owed = none_owes (owes_through p) (owed_through p) (λ xs. refl) (λ h fs. refl) (λ h fs c xs. refl) p.pointers (pointer_bindings p bs) (omega (arith, nothing)) q x b at is in
              free_at (pointer_number image q) b (bound_behind q b is)
              (bool_cases (b.bound ≡ false) b.bound
              (λ e. absurd (
              let own = ap {B = ℕ} (λ (t : Bool). if t then 4 * calls_through_of x p else 0) e in
              let none = through_none q x at (omega (arith, owed, own)) in omega (arith, none, some)))
              (λ e. e))
          | inr past ↦ let many = bound.count in ap (option_and_then bound_values) (slice_get_past bs (pointer_number image q) (omega (arith, past, many, count_pointers)))
        ]

  pub counts_words : CountsWords p bs (changed_words image (values_of bs))
  counts_words = record {
    none = (λ none. omega (arith, least, none), λ nothing. unchanged image rules (values_of bs) (function_free nothing) (pointer_free nothing));
    least = least;
  }

pub images_count_words : CalleesHaveSlots → TextShowsBindings → FreeTextIsUnchanged → SlotsAreSites → PointsAreSites → CodesAscend → PatchedCodeStands → ImagesCountWords
images_count_words have_slots shows unchanged sites points ascend patched p formed bodies tables parts are image linked rules bs bound =
    counts_words have_slots shows unchanged sites points ascend patched p formed bodies tables parts are image linked rules bs bound
