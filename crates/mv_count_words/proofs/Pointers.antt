-- The slots of four words through a pointer switch in the code of all functions are the calls through it in the source, and no variant has one where there are
-- none.
use Rattle.std.proofs.Common.{arith, inl, inr, ◌≡◌, ℕ, zero, suc, ◌+◌, ◌<◌, ◌≤◌, Bool, true, false, ◌&&◌, if◌then◌else◌, eqb, All, List, [], ◌∷◌, length, map, refl, sym, ap, ◌∙◌, subst}
use Rattle.std.specs.Prelude.{nat_eq, slice_get, Some, sum}
use Rattle.std.specs.List.{zip}
use Rattle.std.proofs.lemmas.Bool.{eq-eqb, eqb-true, cases_lt}
use Rattle.std.proofs.lemmas.List.{length-map}
use Rattle.std.proofs.lemmas.List.Elements.{All-head, All-tail, All-append, All-map}
use Rattle.std.proofs.lemmas.List.Sums.{sum_by-cons}
use Rattle.std.proofs.lemmas.Option.{slice_get_within, get_or_from_slice_get}
use Rattle.mv_ast.specs.declared.program.Program.{Program}
use Rattle.mv_ast.specs.declared.program.Function.{Function}
use Rattle.mv_ast.specs.Counts.{calls_through, is_pointer}
use Rattle.mv_num.specs.Regions.{data_limit}
use Rattle.mv_num.proofs.Booleans.{and_false, same_bools}
use Rattle.mv_num.proofs.Lists.{there_at}
use Rattle.mv_isa.specs.declared.labelled.Labelled.{Labelled}
use Rattle.mv_isa.specs.declared.labelled.Line.{Line}
use Rattle.mv_isa.specs.declared.labelled.Line.TheVariants.{Word, Label, Jump, Branch, Entry, Slot, Point}
use Rattle.mv_ir.specs.declared.body.Body.{Body}
use Rattle.mv_ir.specs.declared.stm.Array.TheVariants as array
use Rattle.mv_ir.specs.WellFormed as ir
use Rattle.mv_source_forms.specs.WellFormed.{IsWellFormed}
use Rattle.mv_select_code.specs.Trees.Rooms.{place_in}
use Rattle.mv_select_code.specs.Control.Layouts.{size_in}
use Rattle.mv_select.specs.Calls.CallCode.{is_marked}
use Rattle.mv_select.specs.Functions.Functions.{shape_of}
use Rattle.mv_select.specs.Selected.{selected_lines}
use Rattle.mv_lower_spec.specs.Functions.{names_global, lower_function}
use Rattle.mv_lower_spec.specs.Shape.Calls.{code_through}
use Rattle.mv_lower_spec.specs.Shape.Law.{IsFunctionOf}
use Rattle.mv_lower_spec.proofs.OfShape.OfPrograms.{often, well_formed}
use Rattle.mv_variants.specs.Bound.Programs.{IsGeneralOf}
use Rattle.mv_variants.proofs.OfBound.Generals.{general_same}
use Rattle.mv_variants.specs.Bound.Slots.{points_where}
use Rattle.mv_variants.specs.declared.variant.Variant.{Variant}
use Rattle.mv_variants.specs.Bound.Switches.{domains_in}
use Rattle.mv_variants.specs.Domains.{switch_kind}
use Rattle.mv_variants.specs.Variants.{AreVariants}
use Rattle.mv_variants.proofs.OfBound.Led.{bodies_made}
use Rattle.mv_variants.proofs.OfBound.Slots.{points_are_calls}
use Rattle.mv_variants.proofs.OfBound.Weights.{throughs, throughs_of_calls}
use Rattle.mv_count_code.specs.Sizes.{IsBodyOf, general, bound}
use Rattle.mv_count_slots.proofs.Places.{words_apart}
use Rattle.mv_count_slots.proofs.Pointers.{rooms_kept, no_more, of_pointers, calls_by}
use Rattle.mv_linker.specs.declared.parts.Parts.{Parts}
use Rattle.mv_linker.specs.declared.parts.PartFunction.{PartFunction}
use Rattle.mv_linker.specs.declared.parts.PartPointer.{PartPointer}
use Rattle.mv_linker.specs.declared.parts.PartVariant.{PartVariant}
use Rattle.mv_linker.specs.Linked.{codes, function_variants, variant_codes}
use Rattle.mv_linker.specs.Outcome.{WithinLimit}
use Rattle.mv_linker.specs.Tables.{FitsPartPointer, place_among, pointer_address, pointer_addresses}
use Rattle.mv_linker.proofs.Sited.{among}
use Rattle.mv_link_changes.specs.Linked.{points_in, points_through}
use Rattle.mv_parts.specs.Numbers.{attributed_numbers}
use Rattle.mv_parts.specs.Parts.{ArePartsOf, ArePartVariants}
use Rattle.mv_parts.specs.Switches.{part_pointer, word_of}
use Rattle.mv_parts.proofs.Lists.{all_by_index, map_at, one_of_all}
use Rattle.mv_parts.proofs.Numbers as numbered
use Rattle.mv_parts.proofs.PointedLines.{among_at, place_is, pointer_at}
use Rattle.mv_count_words.specs.Owed.{calls_through_of}
use Rattle.mv_count_words.proofs.Sites.{one_each}
use Rattle.mv_count_words.proofs.Told.{all_variants}
use Rattle.mv_link_text.proofs.Found as listed

points_are_where : (a : ℕ) (lines : List Line) → points_through a lines ≡ points_where (λ b. eqb b a) lines
points_are_where a [] = refl
points_are_where a (Word i ∷ lines) = points_are_where a lines
points_are_where a (Label l ∷ lines) = points_are_where a lines
points_are_where a (Jump rd l ∷ lines) = points_are_where a lines
points_are_where a (Branch c rs1 rs2 l ∷ lines) = points_are_where a lines
points_are_where a (Entry rd g ∷ lines) = points_are_where a lines
points_are_where a (Slot g ∷ lines) = points_are_where a lines
points_are_where a (Point b ∷ lines) = ap (λ (n : ℕ). (if eqb b a then 1 else 0) + n) (points_are_where a lines)

-- codes of which none has one
none_in : (a : ℕ) (cs : List Labelled) → All (λ (code : Labelled). points_through a code.items ≡ 0) cs → points_in a cs ≡ 0
none_in a [] all = refl
none_in a (code ∷ cs) all =
    let P = λ (c : Labelled). points_through a c.items ≡ 0 in
    omega (arith, All-head P code cs all, none_in a cs (All-tail P code cs all))

-- of a sum that is 0 each part is
zero_each : {X : Type 0} (h : X → ℕ) (xs : List X) → sum (map h xs) ≡ 0 → (i : ℕ) (x : X) → slice_get xs i ≡ Some x → h x ≡ 0
zero_each h [] none i x e = absurd (let bad : ⊥ = cc in bad)
zero_each h (y ∷ xs) none zero x e =
    let split = sum_by-cons (λ (n : ℕ). n) (h y) (map h xs) in
    let here : h y ≡ 0 = omega (arith, split, none) in
    let same : y ≡ x = cc in subst (λ z. h z ≡ 0) same here
zero_each h (y ∷ xs) none (suc i) x e = let split = sum_by-cons (λ (n : ℕ). n) (h y) (map h xs) in zero_each h xs (omega (arith, split, none)) i x e

-- ---- one pointer switch

-- the words of pointer switches have addresses
abbrev pub AreBelow : Program → Type 0
AreBelow p = (k : ℕ) → is_pointer p k ≡ true → word_of p k ≤ data_limit

module _ (p : Program) (formed : IsWellFormed p) (below : AreBelow p) where
  -- different pointer switches have different addresses
  pub same_address : (x y : ℕ) → is_pointer p x ≡ true → is_pointer p y ≡ true → pointer_at p x ≡ pointer_at p y → x ≡ y
  same_address x y is_x is_y same = words_apart p formed x y is_x is_y (omega (arith, same))

  module _ (x : ℕ) (pointer : is_pointer p x ≡ true) where
    abbrev at : ℕ
    at = pointer_at p x

    module _ (f : ℕ) (g : Function) (of : IsFunctionOf p f g) where
      abbrev lowered : Body
      lowered = lower_function p g

      -- the globals whose rooms stand at its address
      abbrev here : ℕ → Bool
      here k = eqb (place_in lowered.rooms k) at

      agree : (k : ℕ) → ir.is_there lowered.rooms lowered.arrays (array.Global k) ≡ true
          → of_pointers p g formed (often p f g of) (well_formed p f g of) x pointer here k ≡ of_pointers p g formed (often p f g of)
          (well_formed p f g of) x pointer (nat_eq x) k
      agree k there = by (is_pointer p k) refl
        where
          by : (b : Bool) → is_pointer p k ≡ b → (here k && b) ≡ (nat_eq x k && b)
          by false e = and_false (here k) ∙ sym (and_false (nat_eq x k))
          by true e =
              let place : place_in lowered.rooms k ≡ pointer_at p k = place_is p k (below k e) (names_global lowered.code) there in
              ap (λ b. b && true)
              (same_bools (here k) (nat_eq x k)
              (λ t. eq-eqb x k (sym (same_address k x e pointer (sym place ∙ eqb-true (place_in lowered.rooms k) at t))))
              (λ t. eq-eqb (place_in lowered.rooms k) at (place ∙ ap (pointer_at p) (sym (eqb-true x k t)))))

      counted : code_through here lowered.code ≡ calls_through (nat_eq x) g
      counted = calls_by p g formed (often p f g of) (well_formed p f g of) x pointer here agree

      in_body : (b : Body) → IsBodyOf p g b → (attributed : Bool) → points_through at (selected_lines attributed b) ≡ code_through here b.code
      in_body b is attributed =
          points_are_where at (selected_lines attributed b)
          ∙ points_are_calls (place_in b.rooms) (size_in b.rooms) (is_marked b.marked) (shape_of attributed b) b.code (λ a. eqb a at)
          ∙ ap (λ rooms. code_through (λ k. eqb (place_in rooms k) at) b.code) (rooms_kept p g b is)

      own_points : (b : Body) → IsGeneralOf p g b → (attributed : Bool) → points_through at (selected_lines attributed b) ≡ calls_through (nat_eq x) g
      own_points b r attributed = in_body b (general r) attributed ∙ general_same r.shorts lowered b r.general (throughs here) (throughs_of_calls here) (λ k short there to args. refl) ∙ counted

      most_points : (b : Body) → IsBodyOf p g b → (attributed : Bool) → points_through at (selected_lines attributed b) ≤ calls_through (nat_eq x) g
      most_points b is attributed = omega (arith, in_body b is attributed, no_more p g b is _ _ (throughs here) (throughs_of_calls here), counted)

-- ---- the code of a program

module _ (p : Program) (formed : IsWellFormed p) (bodies : List Body) (tables : List (List Variant)) (parts : Parts) (are : ArePartsOf p bodies tables parts) (few : WithinLimit parts) where
  pub part_at : (q x : ℕ) → slice_get p.pointers q ≡ Some x → slice_get parts.pointers q ≡ Some (part_pointer p x)
  part_at q x there = subst (λ (ps : List PartPointer). slice_get ps q ≡ Some (part_pointer p x)) (sym are.pointers) (map_at (part_pointer p) p.pointers q x there)

  pub are_below : AreBelow p
  are_below k is =
      let (i, there) = among_at k p.pointers is in
      let word = (one_of_all (FitsPartPointer (length parts.globals)) parts.pointers are.fit.pointers i (part_pointer p k) (part_at i k there)).word in
      omega (arith, word, few)

  addresses_at : (q x : ℕ) → slice_get p.pointers q ≡ Some x → slice_get (pointer_addresses parts.pointers) q ≡ Some (pointer_at p x)
  addresses_at q x there = map_at pointer_address parts.pointers q (part_pointer p x) (part_at q x there)

  -- a pointer switch has one number
  one_number : (q k x y : ℕ) → slice_get p.pointers q ≡ Some x → slice_get p.pointers k ≡ Some y → x ≡ y → q < k → ⊥
  one_number q k x y there other same lt =
      let within = slice_get_within p.pointers k y other in
      formed.different_pointers q k 0 lt within (get_or_from_slice_get p.pointers q x 0 there ∙ same ∙ sym (get_or_from_slice_get p.pointers k y 0 other))

  -- the place of a pointer switch among the addresses of all is its number
  pub place_is_number : (q x : ℕ) → slice_get p.pointers q ≡ Some x → place_among (pointer_addresses parts.pointers) (pointer_at p x) ≡ q
  place_is_number q x there =
      let ns : List ℕ = pointer_addresses parts.pointers in
      let found = among ns (pointer_at p x) q (addresses_at q x there) in
      let k : ℕ = place_among ns (pointer_at p x) in
      let size : length ns ≡ length p.pointers = length-map parts.pointers pointer_address ∙ ap length are.pointers ∙ length-map p.pointers (part_pointer p) in
      let below = found.below in
      let (y, other) = there_at p.pointers k (omega (arith, below, size)) in
      let address : Some (pointer_at p y) ≡ Some (pointer_at p x) = sym (addresses_at k y other) ∙ found.there in
      let same_at : pointer_at p y ≡ pointer_at p x = cc in
      let same : y ≡ x = same_address p formed are_below y x (listed.among_at y p.pointers k other) (listed.among_at x p.pointers q there) same_at in
      elim (cases_lt k q) [
        | inl lt ↦ absurd (one_number k q y x other there same lt)
        | inr ge ↦ elim (cases_lt q k) [
          | inl lt ↦ absurd (one_number q k x y there other (sym same) lt)
          | inr ge' ↦ omega (arith, ge, ge')
        ]
      ]

  module _ (x : ℕ) (pointer : is_pointer p x ≡ true) where
    abbrev address : ℕ
    address = pointer_at p x

    own_code : (i : ℕ) (code : Labelled) (g : Function) → slice_get parts.functions i ≡ Some code → slice_get p.functions i ≡ Some g → points_through address code.items ≡ calls_through (nat_eq x) g
    own_code i code g at there =
        let within = slice_get_within p.functions i g there in
        let count = are.codes.generics.one_each in
        let body = there_at bodies i (omega (arith, within, count)) in
        let has = are.codes.code.each i body.0 code body.1 at in
        ap (points_through address) has.is_code.selected.items
        ∙ own_points p formed are_below x pointer i g (record { formed = formed; there = there }) body.0 (are.codes.generics.each i g body.0 there body.1) has.function.attributed

    pub points_are_through : points_in address parts.functions ≡ calls_through_of x p
    points_are_through =
        one_each (λ (code : Labelled). points_through address code.items) (points_in address) (calls_through (nat_eq x)) refl (λ code cs. refl) parts.functions p.functions are.codes.code.one_each own_code

    -- ---- where there are no calls

    module _ (none : calls_through_of x p ≡ 0) where
      abbrev IsNone : Labelled → Type 0
      IsNone code = points_through address code.items ≡ 0

      no_calls : (i : ℕ) (g : Function) → slice_get p.functions i ≡ Some g → calls_through (nat_eq x) g ≡ 0
      no_calls = zero_each (calls_through (nat_eq x)) p.functions none

      of_functions : All IsNone parts.functions
      of_functions = all_by_index IsNone parts.functions (λ i code e.
          let within = slice_get_within parts.functions i code e in
          let count = are.codes.code.one_each in
          let found = there_at p.functions i (omega (arith, within, count)) in
          own_code i code found.0 e found.1 ∙ no_calls i found.0 found.1)

      one_variant : (f : ℕ) (g : Function) → slice_get p.functions f ≡ Some g → (variants : List Variant) → AreVariants p g variants → (vs : List PartVariant) → ArePartVariants variants vs →
          (j : ℕ) (v : PartVariant) → slice_get vs j ≡ Some v → IsNone v.code
      one_variant f g there variants all vs parted j v e =
          let within = slice_get_within vs j v e in
          let count = parted.one_each in
          let variant = there_at variants j (omega (arith, within, count)) in
          let body : Body = variant.0.body in
          let is = parted.each j variant.0 v variant.1 e in
          let at = subst (λ (bs : List Body). slice_get bs j ≡ Some body) all.grouped.bodies (map_at (λ (w : Variant). w.body) variants j variant.0 variant.1) in
          let made = bodies_made (domains_in p (switch_kind p) g) all.rows all.merged all.is_merged all.shorts (lower_function p g) all.made j body at in
          let of = bound (zip (lower_function p g).switches made.0.assignment.values) (record { shorts = all.shorts; known = all.known; made = made.2 }) in
          let most = most_points p formed are_below x pointer f g (record { formed = formed; there = there }) body of true in
          let items = ap (points_through address) is.code.selected.items in
          omega (arith, most, items, no_calls f g there)

      of_function : (n : ℕ) (a : PartFunction) → slice_get parts.attributed n ≡ Some a → All (λ (v : PartVariant). IsNone v.code) a.variants
      of_function n a at =
          let number = subst (λ (ns : List ℕ). slice_get ns n ≡ Some a.function) are.codes.variants.numbers (map_at (λ (b : PartFunction). b.function) parts.attributed n a at) in
          let h = numbered.attributed_at p n a.function number in
          let within = slice_get_within (attributed_numbers p) n a.function number in
          let count = are.codes.are_tables.one_each in
          let table = there_at tables n (omega (arith, within, count)) in
          let part = are.codes.variants.each n a.function h.function table.0 a number h.there table.1 at in
          let all = are.codes.are_tables.each n a.function table.0 number table.1 h.function h.there in
          all_by_index (λ (v : PartVariant). IsNone v.code) a.variants (one_variant a.function h.function h.there table.0 all a.variants part.variants_are)

      of_variants : All IsNone (variant_codes (function_variants parts.attributed))
      of_variants = All-map IsNone (λ (v : PartVariant). v.code) (function_variants parts.attributed) (all_variants (λ (v : PartVariant). IsNone v.code) parts.attributed of_function)

      -- no code has one
      pub none_through : points_in address (codes parts) ≡ 0
      none_through = none_in address (codes parts) (All-append IsNone parts.functions (variant_codes (function_variants parts.attributed)) of_functions of_variants)
