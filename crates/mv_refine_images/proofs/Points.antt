-- The slots of four words of a built image are of its program's pointer switches: what stands there while these are free and while they are bound, and that the
-- pointers' words are open to it.
use Rattle.std.proofs.Common.{◌≡◌, ◌≢◌, ◌⊎◌, inl, inr, ⊎_elim, ℕ, zero, suc, ◌+◌, ◌%◌, ◌<◌, ◌≤◌, Bool, true, false, ◌&&◌, eqb, List, [], ◌∷◌, ◌++◌, AllPairs, length, map, get_or, slice_get, Option, Some, None, refl, sym, ap, ap₂, ◌∙◌, subst, arith}
use Rattle.std.specs.List.{zip, flat_map}
use Rattle.std.proofs.lemmas.Bool.{eqb-true, lt-ltb, cases_eq, cases_lt}
use Rattle.std.proofs.lemmas.List.{length-map}
use Rattle.std.proofs.lemmas.Option.{get_or_from_slice_get, slice_get-get_or, slice_get_within, same_Some}
use Rattle.mv_num.specs.Lists.{is_among}
use Rattle.mv_num.proofs.Booleans.{and_false}
use Rattle.mv_num.proofs.Lists.{there_at}
use Rattle.mv_ast.specs.declared.program.Program.{Program}
use Rattle.mv_ast.specs.declared.program.Function.{Function}
use Rattle.mv_bindings.specs.Traps.{null_call, call_too_deep}
use Rattle.mv_ast.specs.Switches.{attributed_functions}
use Rattle.mv_bindings.specs.declared.binding.Binding.{Binding}
use Rattle.mv_descriptors.specs.declared.rows.PointRow.{PointRow}
use Rattle.mv_descriptors.specs.declared.rows.SiteRow.{SiteRow}
use Rattle.mv_descriptors.specs.declared.rows.TargetRow.{TargetRow}
use Rattle.mv_isa.specs.declared.labelled.Labelled.{Labelled}
use Rattle.mv_isa.specs.declared.labelled.Line.{Line}
use Rattle.mv_isa.specs.declared.labelled.Line.TheVariants.{Point}
use Rattle.mv_isa.specs.Code.{IsPlace, address, text_start}
use Rattle.mv_isa.specs.Standing.{LineStands, PointStands}
use Rattle.mv_image.specs.Patched.{point_at, pointer_number, is_in_point, site_at, site_before}
use Rattle.mv_image.specs.Spelling.{Fields}
use Rattle.mv_ir.specs.declared.body.Body.{Body}
use Rattle.mv_ir.specs.Programs.{setting_of}
use Rattle.mv_ir_worlds.specs.Functions.{IsFreeIn, IsBoundIn}
use Rattle.mv_lower_spec.specs.Functions.{lower_function}
use Rattle.mv_select.specs.Bodies.SelectedBodies.{IsInProgram, globals_read}
use Rattle.mv_select.specs.Calls.CallCode.{is_marked}
use Rattle.mv_select.specs.Functions.Functions.{shape_of}
use Rattle.mv_select.specs.Slots.Points.{CallsBound, CheckStands}
use Rattle.mv_linker.specs.declared.parts.PartFunction.{PartFunction}
use Rattle.mv_linker.specs.declared.parts.PartPointer.{PartPointer}
use Rattle.mv_linker.specs.declared.parts.PartVariant.{PartVariant}
use Rattle.mv_linker.specs.Linked.{codes, linked_lines, function_variants, variant_codes, check_label, entry_label, trap_label, label_limit, own as own_label}
use Rattle.mv_linker.proofs.Counting.{own_stays, own_entry}
use Rattle.mv_linker.proofs.Fits.{within_all}
use Rattle.mv_select.specs.Calls.Laws.{IsLinked}
use Rattle.mv_select_code.specs.Control.Labels.{call_label}
use Rattle.mv_linker.specs.Tables.{pointer_address, pointer_addresses}
use Rattle.mv_link_text.specs.Text.{StubsArePlaced, HasPoint}
use Rattle.mv_link_text.proofs.Found.{none_of, found_told}
use Rattle.mv_parts.specs.Switches.{part_pointer}
use Rattle.mv_parts.specs.Numbers.{attributed_numbers}
use Rattle.mv_parts.proofs.Lists.{map_at}
use Rattle.mv_parts.proofs.Numbers as numbered
use Rattle.mv_refine_machine.specs.Commits.Tabled.{IsTabled}
use Rattle.mv_refine_machine.specs.Layout.{IsSetOut}
use Rattle.mv_refine_machine.specs.MachineRuns.{through_at}
use Rattle.mv_refine_machine.specs.Stubs.Stubs.{HasCheck}
use Rattle.mv_refine_machine.specs.Under.{words_under}
use Rattle.mv_variants.specs.Bound.Meant.{IsVariantOf}
use Rattle.mv_variants.specs.declared.variant.Variant.{Variant}
use Rattle.mv_variants.specs.Variants.{AreVariants}
use Rattle.mv_variants.proofs.Functions.{IsAttributed}
use Rattle.mv_variants.proofs.OfBound.Led.{bodies_made}
use Rattle.mv_variants.proofs.OfBound.Meant as meant
use Rattle.mv_refine_images.specs.Bodies.ProgramBodies.{IsWritten}
use Rattle.mv_refine_images.specs.Closed.{is_closed_to_function, is_closed_to_variants_of, closed_to_variants, closed_to_codes, is_data_where, is_closed_beside}
use Rattle.mv_refine_images.specs.Programs.Hosts.{ArePointed}
use Rattle.mv_refine_images.proofs.Closed.{In, one, none_where, function_reads, variant_reads, open_from}
use Rattle.mv_refine_images.proofs.Data.{as_many, count as numbers_count, ascend, entries, laid_out, own, set_out}
use Rattle.mv_refine_images.proofs.LinkedProgram.{Basis, linked_program}
use Rattle.mv_refine_images.proofs.Listed.{one_each}
use Rattle.mv_refine_images.proofs.OfPrograms.Pointed.{one_word}
use Rattle.mv_refine_images.proofs.PointReads.{point_is_read}

-- an element stands once in a list without equal ones
one_place : (ns : List ℕ) → AllPairs (λ m n. m ≢ n) ns → (i j n : ℕ) → slice_get ns i ≡ Some n → slice_get ns j ≡ Some n → i ≡ j
one_place ns apart i j n at also = by (cases_eq i j)
  where
    differ : (a b : ℕ) → slice_get ns a ≡ Some n → slice_get ns b ≡ Some n → a < b → ⊥
    differ a b here there lt = apart a b n lt (slice_get_within ns b n there) (get_or_from_slice_get ns a n n here ∙ sym (get_or_from_slice_get ns b n n there))

    by : (i ≡ j) ⊎ (i ≡ j → ⊥) → i ≡ j
    by (inl e) = e
    by (inr ne) = absurd (⊎_elim (λ (lt : i < j). differ i j at also lt) (λ (le : j ≤ i). differ j i also at (let less : j < i = grind (arith, le, ne) in less)) (cases_lt i j))

-- ---- what is beside a list

-- each code has a test at the same place, to which it is related
abbrev Beside : (Labelled → (ℕ → Bool) → Type 0) → List Labelled → List (ℕ → Bool) → Type 0
Beside R codes tests = (k : ℕ) (code : Labelled) → slice_get codes k ≡ Some code → (test : ℕ → Bool) × (slice_get tests k ≡ Some test) × R code test

beside_append : (R : Labelled → (ℕ → Bool) → Type 0) (cs : List Labelled) (ts : List (ℕ → Bool)) (ds : List Labelled) (us : List (ℕ → Bool)) → length cs ≡ length ts → Beside R cs ts → Beside R ds us →
    Beside R (cs ++ ds) (ts ++ us)
beside_append R [] [] ds us same h k i code e = k i code e
beside_append R [] (t ∷ ts) ds us same h k i code e = absurd (omega (arith, same))
beside_append R (c ∷ cs) [] ds us same h k i code e = absurd (omega (arith, same))
beside_append R (c ∷ cs) (t ∷ ts) ds us same h k zero code e = h zero code e
beside_append R (c ∷ cs) (t ∷ ts) ds us same h k (suc i) code e = beside_append R cs ts ds us (omega (arith, same)) (λ j d is. h (suc j) d is) k i code e

-- ---- lines that call through a pointer

module _ (p : Program) (image : Fields) (basis : Basis p image) where
  open basis use {laws, formed, built}
  open linked_program p image built use {parts, sizing, y, numbers, at, attributed, shut, words}

  out : IsSetOut y
  out = set_out p image basis

  -- a line that calls through a pointer is open to the words of a test's globals that are that pointer's
  abbrev Opens : ℕ → (ℕ → Bool) → Type 0
  Opens a test = (x : ℕ) → 0 < y.size x → y.place x ≡ a → test x ≡ false

  abbrev OpensEach : Labelled → (ℕ → Bool) → Type 0
  OpensEach code test = (k a : ℕ) → slice_get code.items k ≡ Some (Point a) → Opens a test

  -- globals with words are apart
  same_place : (x z : ℕ) → 0 < y.size x → 0 < y.size z → y.place x ≡ y.place z → x ≡ z
  same_place x z some more same =
      one y out (y.place x) x z (record { from = omega arith; to = omega (arith, some) }) (record { from = omega (arith, same); to = omega (arith, same, more) })

  written_opens : (is : Bool) (bound : List (ℕ × ℕ)) (b : Body) (code : Labelled) → IsInProgram y (setting_of numbers p) is bound b → IsWritten y is b code → (test : ℕ → Bool) →
      ((x : ℕ) → is_among x (globals_read b.code) ≡ true → test x ≡ false) → OpensEach code test
  written_opens is bound b code in_program written test reads k a line x some there =
      let read = point_is_read y.place y.size (is_marked b.marked) (shape_of is b) b.code k a (subst (λ (items : List Line). slice_get items k ≡ Some (Point a)) written.items line) in
      let fits = (laws.bodies_are_functions y (setting_of numbers p) is bound b in_program).2 in
      let same = same_place read.0 x (fits.read read.0 read.1) some (read.2 ∙ sym there) in
      subst (λ z. test z ≡ false) same (reads read.0 read.1)

  -- ---- the codes

  functions_open : Beside OpensEach parts.functions (map (is_closed_to_function p) p.functions)
  functions_open f code found =
      let lt = slice_get_within parts.functions f code found in
      let count = as_many p image basis in
      let g = there_at p.functions f (omega (arith, lt, count)) in
      let own_code = own p image basis f g.0 g.1 in
      let same : own_code.0 ≡ code = same_Some own_code.0 code (sym own_code.1 ∙ found) in
      let is = own_code.2 in (
        is_closed_to_function p g.0,
        map_at (is_closed_to_function p) p.functions f g.0 g.1,
        subst (λ (c : Labelled). OpensEach c (is_closed_to_function p g.0)) same
            (written_opens g.0.attributed [] is.body own_code.0 is.in_program is.written (is_closed_to_function p g.0) (function_reads p g.0 is.body is.reads)),
      )

  module _ (n : ℕ) (a : PartFunction) (here : slice_get parts.attributed n ≡ Some a) (j : ℕ) (part : PartVariant) (there : slice_get a.variants j ≡ Some part) where
    number : slice_get (attributed_numbers p) n ≡ Some a.function
    number = ap (λ (ns : List ℕ). slice_get ns n) (sym built.are.codes.variants.numbers) ∙ map_at (λ (b : PartFunction). b.function) parts.attributed n a here

    own_function : IsAttributed p a.function
    own_function = numbered.attributed_at p n a.function number

    table : (variants : List Variant) × (slice_get built.tables n ≡ Some variants)
    table = let counted = built.are.codes.are_tables.one_each in let within = slice_get_within (attributed_numbers p) n a.function number in there_at built.tables n (omega (arith, counted, within))

    variant : (v : Variant) × (slice_get table.0 j ≡ Some v)
    variant =
        let are = (built.are.codes.variants.each n a.function own_function.function table.0 a number own_function.there table.1 here).variants_are in
        let one_each = are.one_each in
        let below = slice_get_within a.variants j part there in there_at table.0 j (omega (arith, one_each, below))

    -- values that lead to it
    are : AreVariants p own_function.function table.0
    are = built.are.codes.are_tables.each n a.function table.0 number table.1 own_function.function own_function.there

    values : (vs : List ℕ) × IsVariantOf are.shorts (zip (lower_function p own_function.function).switches vs) (lower_function p own_function.function) variant.0.body
    values =
        let g = own_function.function in
        let kept = subst (λ (bs : List Body). slice_get bs j ≡ Some variant.0.body) are.grouped.bodies (map_at (λ (x : Variant). x.body) table.0 j variant.0 variant.1) in
        let r = bodies_made _ are.rows are.merged are.is_merged are.shorts (lower_function p g) are.made j variant.0.body kept in
        (r.0.assignment.values, meant.made are.shorts (zip (lower_function p g).switches r.0.assignment.values) (lower_function p g) variant.0.body r.2)

    variant_opens : OpensEach part.code (is_closed_to_variants_of p (slice_get p.functions a.function))
    variant_opens =
        let g = own_function.function in
        let coded =
        laws.variant_code p built.bodies built.tables parts y numbers (laid_out p image basis) n a.function j g variant.0
        (record { number = number; there = own_function.there; variants = table.0; table = table.1; at = variant.1 }) in
        let c = coded.2 are.shorts are.known values.0 values.1 in
        let function_is : coded.1.function ≡ a = same_Some coded.1.function a (sym coded.1.there ∙ here) in
        let part_is : coded.0 ≡ part = same_Some coded.0 part (sym coded.1.at ∙ ap (λ (b : PartFunction). slice_get b.variants j) function_is ∙ there) in
        subst (λ (o : Option Function). OpensEach part.code (is_closed_to_variants_of p o)) (sym own_function.there)
        (subst (λ (x : PartVariant). OpensEach x.code (is_closed_to_variants_of p (Some g))) part_is
        (written_opens true (zip (lower_function p g).switches values.0) variant.0.body coded.0.code c.in_program c.written (is_closed_to_variants_of p (Some g))
        (variant_reads p g variant.0.body c.reads c.no_switch)))

  variants_open : (as' : List PartFunction) → ((n : ℕ) (a : PartFunction) → slice_get as' n ≡ Some a → (j : ℕ) (part : PartVariant) → slice_get a.variants j ≡ Some part →
      OpensEach part.code (is_closed_to_variants_of p (slice_get p.functions a.function))) → Beside OpensEach (variant_codes (function_variants as')) (flat_map (closed_to_variants p) as')
  variants_open [] each = λ k code e. absurd (cc e)
  variants_open (a ∷ as') each =
      subst (λ (cs : List Labelled). Beside OpensEach cs (closed_to_variants p a ++ flat_map (closed_to_variants p) as')) (sym (codes_apart a.variants))
      (beside_append OpensEach (variant_codes a.variants) (closed_to_variants p a) (variant_codes (function_variants as')) (flat_map (closed_to_variants p) as')
      (length-map a.variants (λ (v : PartVariant). v.code) ∙ sym (length-map a.variants (λ (v : PartVariant). is_closed_to_variants_of p (slice_get p.functions a.function))))
      (own_open a.variants (each 0 a refl)) (variants_open as' (λ n b is. each (suc n) b is)))
    where
      codes_apart : (vs : List PartVariant) → variant_codes (vs ++ function_variants as') ≡ variant_codes vs ++ variant_codes (function_variants as')
      codes_apart [] = refl
      codes_apart (v ∷ vs) = ap (λ (cs : List Labelled). v.code ∷ cs) (codes_apart vs)

      own_open : (vs : List PartVariant) → ((j : ℕ) (part : PartVariant) → slice_get vs j ≡ Some part → OpensEach part.code (is_closed_to_variants_of p (slice_get p.functions a.function))) →
          Beside OpensEach (variant_codes vs) (map (λ (v : PartVariant). is_closed_to_variants_of p (slice_get p.functions a.function)) vs)
      own_open [] h k code e = absurd (cc e)
      own_open (v ∷ vs) h zero code e =
          let same : v.code ≡ code = same_Some v.code code e in
          (is_closed_to_variants_of p (slice_get p.functions a.function), refl, subst (λ (c : Labelled). OpensEach c (is_closed_to_variants_of p (slice_get p.functions a.function))) same (h 0 v refl))
      own_open (v ∷ vs) h (suc k) code e = own_open vs (λ j part is. h (suc j) part is) k code e

  codes_open : Beside OpensEach (codes parts) (closed_to_codes p parts)
  codes_open =
      beside_append OpensEach parts.functions (map (is_closed_to_function p) p.functions) (variant_codes (function_variants parts.attributed)) (flat_map (closed_to_variants p) parts.attributed)
      (as_many p image basis ∙ sym (length-map p.functions (is_closed_to_function p))) functions_open (variants_open parts.attributed variant_opens)

  -- ---- pointer switches

  some_word : (q x : ℕ) → slice_get p.pointers q ≡ Some x → 0 < y.size x
  some_word q x there = let word = one_word p formed q x there in omega (arith, word)

  -- the pointer switch at an address
  pointer_at : (q a : ℕ) → slice_get (pointer_addresses parts.pointers) q ≡ Some a → (x : ℕ) × (slice_get p.pointers q ≡ Some x) × (y.place x ≡ a)
  pointer_at q a e =
      let own : slice_get (pointer_addresses (map (part_pointer p) p.pointers)) q ≡ Some a = subst (λ (ps : List PartPointer). slice_get (pointer_addresses ps) q ≡ Some a) built.are.pointers e in
      let lt = slice_get_within (pointer_addresses (map (part_pointer p) p.pointers)) q a own in
      let count = length-map (map (part_pointer p) p.pointers) pointer_address in
      let count_too = length-map p.pointers (part_pointer p) in
      let x = there_at p.pointers q (omega (arith, lt, count, count_too)) in
      (x.0, x.1, same_Some (y.place x.0) a (sym (map_at pointer_address (map (part_pointer p) p.pointers) q (part_pointer p x.0) (map_at (part_pointer p) p.pointers q x.0 x.1)) ∙ own))

  -- slots of four words are of pointer switches
  pub of_pointers : (a z : ℕ) → through_at image a ≡ Some z → IsPlace a × ((q : ℕ) × (x : ℕ) × (slice_get p.pointers q ≡ Some x) × (y.place x ≡ z))
  of_pointers a z e =
      let s = laws.points parts image built.are.are built.are.fit built.linked a z e in
      let x = pointer_at s.0 z s.1 in
      (s.2.here, (s.0, x.0, x.1, x.2))

  module _ (tabled : IsTabled p numbers y image) (stubs : StubsArePlaced parts image sizing) where
    abbrev check : ℕ
    check = at check_label

    some_pointers : (q x : ℕ) → slice_get p.pointers q ≡ Some x → 0 < length p.pointers
    some_pointers q x there = let lt = slice_get_within p.pointers q x there in omega (arith, lt)

    has_check : 0 < length p.pointers → HasCheck words at check
    has_check some =
        let count : length parts.pointers ≡ length p.pointers = ap length built.are.pointers ∙ length-map p.pointers (part_pointer p) in
        laws.checks_stand words at at check stubs.check_ends (stubs.check (lt-ltb 0 (length parts.pointers) (omega (arith, some, count))))

    module _ (q x a : ℕ) (there : slice_get p.pointers q ≡ Some x) (through : through_at image a ≡ Some (y.place x)) where
      -- it is a pointer site of the pointer switch
      site : HasPoint parts image sizing q (y.place x) a
      site =
          let s = laws.points parts image built.are.are built.are.fit built.linked a (y.place x) through in
          let z = pointer_at s.0 (y.place x) s.1 in
          let is : z.0 ≡ x = same_place z.0 x (some_word s.0 z.0 z.1) (some_word q x there) z.2 in
          subst (λ k. HasPoint parts image sizing k (y.place x) a) (one_place p.pointers formed.different_pointers s.0 q x (z.1 ∙ ap Some is) there) s.2

      number_is : pointer_number image q ≡ length (attributed_functions p) + q
      number_is = ap (λ n. n + q) tabled.functions

      free_stands : (bs : List Binding) → IsFreeIn bs (length (attributed_functions p) + q) → PointStands (words_under image bs) a (a + 16) check (y.place x)
      free_stands bs free =
          subst (λ z. PointStands (words_under image bs) a z check (y.place x)) site.behind
          (subst (λ z. PointStands (words_under image bs) z (address text_start sizing (site.index + 1)) check (y.place x)) site.at_line
          (subst (λ (l : Line). LineStands (words_under image bs) at at (address text_start sizing site.index) (address text_start sizing (site.index + 1)) l) site.line
          (laws.show_free image text_start (linked_lines parts) sizing built.linked.text built.linked.text_is (laws.words_there parts image built.linked) bs (pointer_number image q) site.index site.within site.alone
          (subst (IsFreeIn bs) (sym number_is) free))))

      -- ---- bound

      some_points : 0 < length image.points
      unfolding point_at
      some_points =
          let found = found_told (is_in_point (a + 0)) image.points site.point.point (site.point.only 0 (omega arith)) in
          let within = found.within in omega (arith, within)

      bound_stands : (bs : List Binding) (f : ℕ) → f < length numbers → IsBoundIn bs (length (attributed_functions p) + q) (suc f ∷ []) → CallsBound (words_under image bs) a check (y.entry f)
      bound_stands bs f lt bound =
          let some = some_pointers q x there in
          let targets = tabled.targets some in
          let count : length image.targets ≡ length numbers = sym (length-map image.targets (λ (t : TargetRow). t.entry)) ∙ ap length targets in
          let target = there_at image.targets f (omega (arith, lt, count)) in
          let entry = entries p image basis f lt in
          let entry_is : target.0.entry ≡ y.entry f =
          same_Some target.0.entry (y.entry f)
          (sym (map_at (λ (t : TargetRow). t.entry) image.targets f target.0 target.1) ∙ ap (λ (ns : List ℕ). slice_get ns f) targets ∙ slice_get-get_or numbers f 0 lt ∙ ap Some entry.0) in
          let told = laws.check parts image built.are.are built.are.fit built.linked some_points in
          let stub = has_check some in
          let low = stub.here in
          let high = stub.last in
          let behind : IsPlace (check + 8) = ((let l = low.0 in omega (arith, l)), (let h = high.1 in omega (arith, h)), (let even = low.2 in omega (arith, even))) in
          subst (λ z. CallsBound (words_under image bs) a z (y.entry f)) told
          (subst (λ z. CallsBound (words_under image bs) a image.check z) entry_is
          (laws.show_points image built.rules bs (pointer_number image q) a f target.0 site.point (subst (λ n. IsBoundIn bs n (suc f ∷ [])) (sym number_is) bound) target.1
          (subst (λ z. IsPlace (z + 8)) (sym told) behind) site.here (subst IsPlace (sym entry_is) entry.1)))

      -- ---- what it loads

      -- no site stands there
      no_site : (s : SiteRow) (k : ℕ) → k < length image.sites → get_or image.sites k s ≡ s → a ≤ s.address → s.address < a + 16 → ⊥
      unfolding point_at
      no_site s k lt is low high =
          let found = found_told (is_in_point (a + 0)) image.points site.point.point (site.point.only 0 (omega arith)) in
          let begins = site.point.begins in
          let apart = (laws.typed image built.rules).1.apart.beside_points k found.number s site.point.point lt found.within in
          let address : (get_or image.sites k s).address ≡ s.address = ap (λ (z : SiteRow). z.address) is in
          let start : (get_or image.points found.number site.point.point).address ≡ a = ap (λ (z : PointRow). z.address) found.here ∙ begins in
          ⊎_elim
          (λ (less : (get_or image.sites k s).address < (get_or image.points found.number site.point.point).address). omega (arith, less, address, start, low))
          (λ (more : (get_or image.points found.number site.point.point).address + 16 ≤ (get_or image.sites k s).address). omega (arith, more, address, start, high))
          apart

      no_site_here : site_at image (a + 4) ≡ None
      unfolding site_at
      no_site_here = none_of (site_at image (a + 4)) (λ s e.
          let found = found_told (λ (z : SiteRow). eqb z.address (a + 4)) image.sites s e in
          let same = eqb-true s.address (a + 4) found.passes in
          no_site s found.number found.within found.here (omega (arith, same)) (omega (arith, same)))

      no_site_before : site_before image (a + 4) ≡ None
      unfolding site_before
      no_site_before = none_of (site_before image (a + 4)) (λ s e.
          let found = found_told (λ (z : SiteRow). eqb (z.address + 4) (a + 4)) image.sites s e in
          let same = eqb-true (s.address + 4) (a + 4) found.passes in
          no_site s found.number found.within found.here (omega (arith, same)) (omega (arith, same)))

      open_there : shut (a + 4) (y.place x) ≡ false
      open_there =
          let some = some_word q x there in
          let code = laws.calls_in_codes parts image built.are.are built.are.fit built.linked q (y.place x) a site in
          let test = codes_open code.function code.code code.found in
          let lies : In y out (y.place x) x = record { from = omega arith; to = omega (arith, some) } in
          let free : is_data_where image parts sizing p test.0 (y.place x) ≡ false =
          none_where y out (y.place x) test.0 (λ z h. subst (λ w. test.0 w ≡ false) (one y out (y.place x) x z lies h) (test.2 code.item (y.place x) code.line x some refl)) (length p.globals) in
          let from = code.from in
          ap₂ (λ (s t : Option SiteRow). eqb ((a + 4) % 4) 0 && is_closed_beside image parts sizing p s t (a + 4) (y.place x)) no_site_here no_site_before
          ∙ ap (λ c. eqb ((a + 4) % 4) 0 && c)
          (open_from image parts sizing p out code.function test.0 test.1 (one_each p parts (as_many p image basis)) (a + 16) (ascend p image basis) code.before (a + 4) (y.place x)
          (omega (arith, from)) (omega arith) free)
          ∙ and_false (eqb ((a + 4) % 4) 0)

    -- where the labels are that all codes share
    abbrev own_place : ℕ → ℕ
    own_place l = at (own_label 0 0 l)

    shared_there : IsLinked y (length numbers) own_place
    shared_there = record {
      traps = λ c. ap at (own_stays 0 0 (trap_label c) (omega arith) (omega arith));
      commit = refl;
      entries = λ f lt.
          let limit = built.are.are.labels in
          let few : f < label_limit = omega (arith, lt, numbers_count p image basis, within_all parts, limit) in
          let same : call_label f ≡ entry_label f = omega (arith, few) in
          ap own_place same ∙ ap at (own_entry 0 0 f (omega arith) (omega (arith, few)));
    }

    check_shared : HasCheck words at check → HasCheck words own_place check
    check_shared h =
        let null : at (trap_label null_call) ≡ own_place (trap_label null_call) = sym (shared_there.traps null_call) in
        let deep : at (trap_label call_too_deep) ≡ own_place (trap_label call_too_deep) = sym (shared_there.traps call_too_deep) in record {
          stands =
              subst (λ z. CheckStands words.word check z (own_place (trap_label call_too_deep))) null
              (subst (λ z. CheckStands words.word check (at (trap_label null_call)) z) deep h.stands);
          here = h.here;
          last = h.last;
          null = subst IsPlace null h.null;
          deep = subst IsPlace deep h.deep;
        }

    pub pointed : ArePointed y words (words_under image) shut p numbers check
    pointed = record {
      stub = λ some. (own_place, shared_there, check_shared (has_check some));
      free = λ bs q x a there through free. free_stands q x a there through bs free;
      open_there = open_there;
      bound = λ bs q x f a there through lt bound. bound_stands q x a there through bs f lt bound;
    }
