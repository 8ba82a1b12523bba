-- The code of each function of a built program stands in the text of its image, with the variants of the attributed ones.
use Rattle.std.proofs.Common.{◌≡◌, ℕ, ◌+◌, true, false, List, [], Some, map, length, slice_get, refl, sym, ap, ◌∙◌, subst, arith, pos, ◌-ℤ◌}
use Rattle.std.specs.List.{zip}
use Rattle.mv_ast.specs.declared.program.Program.{Program}
use Rattle.mv_ast.specs.declared.program.Function.{Function}
use Rattle.mv_ast.specs.Switches.{attributed_functions, attributed_before, switch_domain}
use Rattle.mv_num.specs.Lists.{is_among}
use Rattle.mv_ir_worlds.proofs.Functions.{attributed_at}
use Rattle.mv_isa.specs.declared.instr.Instr.{Instr}
use Rattle.mv_isa.specs.declared.instr.Instr.TheVariants.{Addi}
use Rattle.mv_isa.specs.declared.labelled.Labelled.{Labelled}
use Rattle.mv_isa.specs.declared.labelled.Line.{Line}
use Rattle.mv_isa.specs.Code.{text_start}
use Rattle.mv_image.specs.Spelling.{Fields}
use Rattle.mv_image.specs.Patched.{variants_before}
use Rattle.mv_ir.specs.Combinations.{IsCombination}
use Rattle.mv_ir.specs.Programs.{setting_of}
use Rattle.mv_ir.specs.Shorts.{Shorts}
use Rattle.mv_lower_spec.specs.Functions.{lower_function}
use Rattle.mv_select.specs.Calls.CallCode.{is_marked}
use Rattle.mv_select.specs.Calls.Laws as calls
use Rattle.mv_select_code.specs.Control.Placed.{Placed}
use Rattle.mv_select.specs.Functions.FunctionCode.{bytes_of, later_lines}
use Rattle.mv_select.specs.Functions.Functions.{IsOpen, shape_of}
use Rattle.mv_refine_machine.specs.MachineRuns.{called_at}
use Rattle.mv_refine_machine.specs.Under.{words_under}
use Rattle.mv_select.specs.Bodies.SelectedBodies.{IsInProgram, globals_read, reach_of}
use Rattle.mv_linker.specs.declared.parts.PartFunction.{PartFunction}
use Rattle.mv_linker.specs.declared.parts.PartVariant.{PartVariant}
use Rattle.mv_linker.specs.Linked.{codes, linked_lines}
use Rattle.mv_variants.specs.Bound.Meant.{IsVariantOf}
use Rattle.mv_variants.specs.Bound.Shorts.{AreShortsOf}
use Rattle.mv_variants.specs.declared.variant.Variant.{Variant}
use Rattle.mv_parts.specs.Numbers as source
use Rattle.mv_parts.proofs.Lists.{map_at}
use Rattle.mv_parts.proofs.Numbers as numbered
use Rattle.mv_link_text.specs.Text.{IsAttributed, IsPlacedCode}
use Rattle.mv_link_text.specs.Text as text
use Rattle.mv_refine_images.specs.Tables.Leads.{IsLedTo}
use Rattle.mv_refine_images.specs.Tables.Rows.{IsNth}
use Rattle.mv_refine_images.specs.Bodies.ProgramBodies.{IsOwnCode, IsVariantAt, IsVariantCode, IsLinkedVariant, IsWritten, variant_number}
use Rattle.mv_refine_images.specs.Programs.Hosts.{IsPlain, IsVariant, IsPatched, IsSelected}
use Rattle.mv_refine_images.proofs.LinkedProgram.{Basis, linked_program}
use Rattle.mv_refine_images.specs.Closed.{is_closed_to_function, is_closed_to_variant, closed_to_codes}
use Rattle.mv_refine_images.specs.Patched.{HasEntry, HasSlot, HasRow, IsInTables}
use Rattle.mv_refine_images.proofs.Closed.{function_reads, variant_reads, code_open, site_open}
use Rattle.mv_refine_images.proofs.Data.{as_many, count as numbers_count, laid_out, set_out, follow, own, ascend}
use Rattle.mv_refine_images.proofs.Listed.{one_each, rows_count, test_of_function, test_of_variant}
use Rattle.mv_refine_images.proofs.Patched.{patched_functions_stand}
use Rattle.std.proofs.lemmas.Option.{same_Some}

module _ (p : Program) (image : Fields) (basis : Basis p image) where
  open basis use {laws, formed, built}
  open linked_program p image built use {parts, sizing, y, numbers, at, attributed, shut, words}

  tests_are : length (closed_to_codes p parts) ≡ length (codes parts)
  tests_are = one_each p parts (as_many p image basis)

  numbers_are : attributed ≡ source.attributed_numbers p
  numbers_are = built.are.codes.variants.numbers

  -- which functions are attributed
  pub is_one : (n f : ℕ) (g : Function) → IsAttributed parts n f → slice_get p.functions f ≡ Some g → g.attributed ≡ true
  is_one n f g is here =
      let h = numbered.attributed_at p n f (subst (λ (ns : List ℕ). slice_get ns n ≡ Some f) numbers_are is) in
      let same = same_Some h.function g (sym h.there ∙ here) in ap (λ (x : Function). x.attributed) (sym same) ∙ h.attributed

  -- what code names stands where the stubs do
  module _ (k : ℕ) (items : List Line) (from : ℕ) (placed : IsPlacedCode parts image sizing k items from) where
    linked_there : calls.IsLinked y (length numbers) placed.place
    linked_there = record { traps = placed.traps; commit = placed.commit; entries = λ g lt. placed.entries g (omega (arith, lt, numbers_count p image basis)) }

  -- ---- a function that isn't attributed

  module _ (f : ℕ) (g : Function) (here : slice_get p.functions f ≡ Some g) (plain : g.attributed ≡ false) where
    abbrev own_code : (code : Labelled) × (slice_get parts.functions f ≡ Some code) × IsOwnCode p y numbers g code
    own_code = own p image basis f g here

    abbrev code : Labelled
    code = own_code.0

    abbrev is_own : IsOwnCode p y numbers g code
    is_own = own_code.2

    not_attributed : (n : ℕ) → IsAttributed parts n f → ⊥
    not_attributed n is = let yes : g.attributed ≡ true = is_one n f g is here in absurd (cc)

    placed : IsPlacedCode parts image sizing f code.items (at f)
    placed = laws.plain parts image built.are.are built.are.fit built.linked f code ((follow p image basis).function f code own_code.1) is_own.written.labels not_attributed

    in_program : IsInProgram y (setting_of numbers p) false [] is_own.body
    in_program = subst (λ b. IsInProgram y (setting_of numbers p) b [] is_own.body) plain is_own.in_program

    written : IsWritten y false is_own.body code
    written = subst (λ b. IsWritten y b is_own.body code) plain is_own.written

    pub is_plain : IsPlain y words (words_under image) shut p numbers f g
    is_plain =
        let fits = laws.bodies_are_functions y (setting_of numbers p) false [] is_own.body in_program in record {
          body = is_own.body;
          shorts = is_own.shorts;
          known = is_own.known;
          keeps = is_own.keeps;
          params = is_own.params;
          reach = reach_of y is_own.body;
          ample = fits.1;
          is_fine = fits.0;
          fits = fits.2;
          place = placed.place;
          linked = linked_there f code.items (at f) placed;
          is_attributed = is_marked is_own.body.marked;
          next = placed.next;
          open_there =
              code_open image parts sizing p (set_out p image basis) f (is_closed_to_function p g) (test_of_function p parts f g here) tests_are placed.next
              (ascend p image basis) placed.before attributed is_own.body (function_reads p g is_own.body is_own.reads) (at f) (omega arith);
          placed = subst (λ (items : List Line). Placed words placed.place at items (at f) placed.next) written.items placed.placed;
        }

  -- ---- an attributed function

  module _ (f : ℕ) (g : Function) (here : slice_get p.functions f ≡ Some g) (is : g.attributed ≡ true) where
    abbrev n : ℕ
    n = attributed_before p.functions f

    abbrev generic : Labelled
    generic = (own p image basis f g here).0

    abbrev is_generic : IsOwnCode p y numbers g generic
    is_generic = (own p image basis f g here).2

    abbrev table : (variants : List Variant) × IsNth p built.tables n f g variants
    table = laws.tabled p built.bodies built.tables parts built.are f g here is

    numbered_there : IsAttributed parts n f
    numbered_there = subst (λ (ns : List ℕ). slice_get ns n ≡ Some f) (sym numbers_are) table.1.number

    generic_in_program : IsInProgram y (setting_of numbers p) true [] is_generic.body
    generic_in_program = subst (λ b. IsInProgram y (setting_of numbers p) b [] is_generic.body) is is_generic.in_program

    generic_written : IsWritten y true is_generic.body generic
    generic_written = subst (λ b. IsWritten y b is_generic.body generic) is is_generic.written

    abbrev instr : Instr
    instr = Addi 2 2 (pos 0 -ℤ pos (bytes_of (shape_of true is_generic.body)))

    abbrev rest : List Line
    rest = later_lines y.place y.size (is_marked is_generic.body.marked) (shape_of true is_generic.body) is_generic.body.code

    stands : IsPlacedCode parts image sizing f rest (at f + 4) × text.HasEntry parts image sizing n f instr
    stands =
        laws.patched parts image built.are.are built.are.fit built.linked n f generic instr rest numbered_there ((follow p image basis).function f generic (own p image basis f g here).1) is_generic.written.labels generic_written.items

    abbrev later : IsPlacedCode parts image sizing f rest (at f + 4)
    later = stands.0

    pub entry : HasEntry attributed image shut text_start (linked_lines parts) sizing y p numbers f g (bytes_of (shape_of true is_generic.body))
    entry = let e = stands.1 in record { index = e.index; within = e.within; line = e.line; at_line = e.at_line; alone = e.alone; is_entry = e.is_entry; word = e.word; in_text = e.in_text; here = e.here }

    called : (a : ℕ) → called_at attributed image a ≡ Some f → text.HasSlot parts image sizing n f a
    called a h = (laws.slots parts image built.are.are built.are.fit built.linked a f h).1 n numbered_there

    slot : (a : ℕ) → called_at attributed image a ≡ Some f → HasSlot attributed image shut text_start (linked_lines parts) sizing y p numbers f g a
    slot a h = let s = called a h in record { index = s.index; within = s.within; line = s.line; at_line = s.at_line; behind = s.behind; place = refl; alone = s.alone; site = s.site; here = s.here }

    module _ (vs : List ℕ) (combination : IsCombination (map (switch_domain p) g.switches) vs) where
      abbrev led : IsLedTo p g image table.0 n vs
      led = (laws.lead p built.bodies built.tables parts built.are image built.linked n f g table.0 table.1).assignments vs combination

      abbrev v : Variant
      v = led.variant

      is_at : IsVariantAt p built.tables n f led.place g v
      is_at = record { number = table.1.number; there = here; variants = table.0; table = table.1.table; at = led.there }

      abbrev coded : (part : PartVariant) × IsLinkedVariant parts n led.place part
          × ((shorts : Shorts) → AreShortsOf p shorts → (values : List ℕ) → IsVariantOf shorts (zip (lower_function p g).switches values) (lower_function p g) v.body
          → IsVariantCode p y numbers g values v.body part)
      coded = laws.variant_code p built.bodies built.tables parts y numbers (laid_out p image basis) n f led.place g v is_at

      abbrev part : PartVariant
      part = coded.0

      abbrev own_part : IsLinkedVariant parts n led.place part
      own_part = coded.1

      abbrev c : IsVariantCode p y numbers g vs v.body part
      c = coded.2 led.shorts led.known vs led.is_variant

      abbrev k : ℕ
      k = variant_number parts n led.place

      -- its number is behind those of all functions, of which some are attributed
      behind : (m : ℕ) → IsAttributed parts m k → ⊥
      behind m h = let lt = (follow p image basis).attributed m k h in omega (arith, lt)

      variant_placed : IsPlacedCode parts image sizing k part.code.items (at k)
      variant_placed = laws.plain parts image built.are.are built.are.fit built.linked k part.code own_part.code_at c.written.labels behind

      -- the function of which it is one
      function_is : own_part.function.function ≡ f
      function_is = same_Some own_part.function.function f (sym (map_at (λ (a : PartFunction). a.function) parts.attributed n own_part.function own_part.there) ∙ numbered_there)

      reads_open : (x : ℕ) → is_among x (globals_read v.body.code) ≡ true → is_closed_to_variant p g x ≡ false
      reads_open = variant_reads p g v.body c.reads c.no_switch

      variant : IsVariant y words (words_under image) shut p numbers f g vs
      variant =
          let fits = laws.bodies_are_functions y (setting_of numbers p) true (zip (lower_function p g).switches vs) v.body c.in_program in record {
            address = at k;
            body = v.body;
            shorts = c.shorts;
            known = c.known;
            keeps = c.keeps;
            params = c.params;
            reach = reach_of y v.body;
            ample = fits.1;
            is_fine = fits.0;
            fits = fits.2;
            place = variant_placed.place;
            linked = linked_there k part.code.items (at k) variant_placed;
            is_attributed = is_marked v.body.marked;
            next = variant_placed.next;
            open_there =
                code_open image parts sizing p (set_out p image basis) k (is_closed_to_variant p g)
                (test_of_variant p parts (as_many p image basis) n led.place f g own_part.function part own_part.there own_part.at function_is here) tests_are variant_placed.next
                (ascend p image basis) variant_placed.before attributed v.body reads_open (at k) (omega arith);
            placed = subst (λ (items : List Line). Placed words variant_placed.place at items (at k) variant_placed.next) c.written.items variant_placed.placed;
          }

      -- where its row leads
      number_is : length parts.functions + (variants_before image n + led.place) ≡ k
      number_is =
          let rows = ap (λ (i : Fields). variants_before i n) built.linked.image_is in
          let counted = rows_count at parts.attributed n in omega (arith, rows, counted)

      row : HasRow attributed image shut text_start (linked_lines parts) sizing y p numbers f g vs variant
      unfolding variant
      row =
          let r = laws.rows p formed built.bodies built.tables parts built.are image built.linked n f g table.0 table.1 vs led in record {
            row = r.row;
            led = r.there;
            address_is = r.address ∙ ap at number_is;
            shows = r.shows y c.in_program.rooms;
          }

      site_opens : (a : ℕ) → called_at attributed image a ≡ Some f → IsOpen shut a (a + 8) (reach_of y v.body)
      site_opens a h =
          let s = called a h in
          site_open image parts sizing p (set_out p image basis) g a s.site.site s.site.is_site s.site.no_site_behind s.here.2
          (ap (slice_get (attributed_functions p)) s.site.of ∙ attributed_at p.functions f g here is) v.body reads_open

    in_tables : IsInTables attributed image shut text_start (linked_lines parts) sizing y p numbers f g
    unfolding variant
    in_tables =
        let fits = laws.bodies_are_functions y (setting_of numbers p) true [] is_generic.body generic_in_program in record {
          body = is_generic.body;
          shorts = is_generic.shorts;
          known = is_generic.known;
          keeps = is_generic.keeps;
          params = is_generic.params;
          reach = reach_of y is_generic.body;
          ample = fits.1;
          is_fine = fits.0;
          fits = fits.2;
          place = later.place;
          linked = linked_there f rest (at f + 4) later;
          is_attributed = is_marked is_generic.body.marked;
          next = later.next;
          open_there =
              code_open image parts sizing p (set_out p image basis) f (is_closed_to_function p g) (test_of_function p parts f g here) tests_are later.next
              (ascend p image basis) later.before attributed is_generic.body (function_reads p g is_generic.body is_generic.reads) (at f + 4) (omega arith);
          later = later.placed;
          entry = entry;
          slots = slot;
          variants = variant;
          rows = row;
          slot_open = λ a vs combination h. site_opens vs combination a h;
        }

    pub is_patched : IsPatched y words (words_under image) shut p numbers f g
    is_patched =
        patched_functions_stand laws.show_free laws.show_bound attributed image shut text_start (linked_lines parts) sizing built.linked.text built.linked.text_is
        (laws.words_there parts image built.linked) y p numbers f g formed here is in_tables

  pub selected : (f : ℕ) (g : Function) → slice_get p.functions f ≡ Some g → IsSelected y words (words_under image) shut p numbers f g
  selected f g here = record { plain = is_plain f g here; patched = is_patched f g here }
