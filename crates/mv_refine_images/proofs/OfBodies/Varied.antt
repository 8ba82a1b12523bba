-- The variants of a program's attributed functions, and their code.
use Rattle.std.proofs.Common.{◌≡◌, ℕ, ◌<◌, true, false, List, Some, None, length, map, slice_get, sym, ap, ◌∙◌, subst, arith}
use Rattle.std.specs.List.{zip}
use Rattle.std.proofs.lemmas.List.{length-map}
use Rattle.std.proofs.lemmas.List.Elements.{All-append, All-weaker}
use Rattle.std.proofs.lemmas.Option.{slice_get_within}
use Rattle.mv_ast.specs.declared.program.Program.{Program}
use Rattle.mv_ast.specs.declared.program.Function.{Function}
use Rattle.mv_num.specs.Lists.{is_among}
use Rattle.mv_ast.specs.Switches.{switch_domain}
use Rattle.mv_ir.specs.declared.body.Body.{Body}
use Rattle.mv_ir.specs.Measures.{scalars_read, arrays_read}
use Rattle.mv_ir.specs.Programs.{setting_of}
use Rattle.mv_ir.specs.Shorts.{Shorts}
use Rattle.mv_ir.specs.Trees.{found}
use Rattle.mv_lower_spec.specs.Functions.{lower_function}
use Rattle.mv_select_code.specs.Control.Labels.{functions}
use Rattle.mv_select.specs.Calls.Convention.{Layout}
use Rattle.mv_select.specs.Bodies.SelectedBodies.{AreRooms, HasWords, IsInProgram, globals_read, knowns}
use Rattle.mv_select.specs.Inline.InlineOf.{encoded}
use Rattle.mv_merge.specs.declared.rows.Bound.{Bound}
use Rattle.mv_variants.specs.Bound.Meant.{IsMadeUnder, IsVariantOf}
use Rattle.mv_variants.specs.Bound.Names.{NamesNoMore}
use Rattle.mv_variants.specs.Bound.Reads as read
use Rattle.mv_variants.specs.Bound.Shorts.{AreShortsOf}
use Rattle.mv_variants.specs.Bound.Switches.{domains_in}
use Rattle.mv_linker.specs.declared.parts.Parts.{Parts}
use Rattle.mv_linker.specs.declared.parts.PartFunction.{PartFunction}
use Rattle.mv_linker.specs.declared.parts.PartVariant.{PartVariant}
use Rattle.mv_variants.specs.declared.variant.Variant.{Variant}
use Rattle.mv_variants.specs.Domains.{switch_kind}
use Rattle.mv_variants.specs.Variants.{AreVariants}
use Rattle.mv_ir_worlds.proofs.Functions.{combination_length}
use Rattle.mv_parts.specs.Parts.{IsPartFunction, IsPartVariant}
use Rattle.mv_parts.proofs.LinkedLists.{in_map}
use Rattle.mv_parts.proofs.LinkedParts.{part_there}
use Rattle.mv_parts.proofs.LinkedVariants.{made_variant}
use Rattle.mv_parts.proofs.Lists.{map_at}
use Rattle.mv_refine_images.specs.Bodies.ProgramBodies.{AreLaidOut, IsLinkedVariant, IsVariantAt, IsVariantCode}
use Rattle.mv_refine_images.proofs.OfBodies.Facts.{VariantLaws}
use Rattle.mv_refine_images.proofs.OfBodies.Own.{functions_there, have_words, is_within, is_written, may_ask, of_program, rooms, words}
use Rattle.mv_refine_images.proofs.OfBodies.Places.{code_of_variant}
use Rattle.mv_refine_images.proofs.OfBodies.ReadGlobals.{among_all, made_reads_no_more, not_found}
use Rattle.mv_num.proofs.Lists.{there_at, contains_all}

-- a body that is made of a function's lowered one, under a value for each of its switches
record IsMade (p : Program) (g : Function) (result : Body) : Type 0 where
  pub values : List ℕ
  pub many : length values ≡ length g.switches
  pub shorts : Shorts
  pub made : IsMadeUnder shorts (zip (lower_function p g).switches values) (lower_function p g) result

module _ (laws : VariantLaws) (p : Program) (bodies : List Body) (tables : List (List Variant)) (parts : Parts) (y : Layout) (numbers : List ℕ)
    (out : AreLaidOut p bodies tables parts y numbers) (n f j : ℕ) (g : Function) (v : Variant) (at : IsVariantAt p tables n f j g v) where
  -- ---- what is linked of it

  abbrev function : (a : PartFunction) × (slice_get parts.attributed n ≡ Some a)
  function = part_there p bodies tables parts.functions parts.attributed out.parts_are.codes n f at.number

  is_function : IsPartFunction g f at.variants function.0
  is_function = out.parts_are.codes.variants.each n f g at.variants function.0 at.number at.there at.table function.1

  part : (x : PartVariant) × (slice_get function.0.variants j ≡ Some x)
  part =
      let count = is_function.variants_are.one_each in
      let within = slice_get_within at.variants j v at.at in there_at function.0.variants j (omega (arith, count, within))

  is_part : IsPartVariant v part.0
  is_part = is_function.variants_are.each j v part.0 at.at part.1

  linked : IsLinkedVariant parts n j part.0
  linked = record { function = function.0; there = function.1; at = part.1; code_at = code_of_variant parts n j function.0 part.0 function.1 part.1 }

  -- ---- what it is made of

  are : AreVariants p g at.variants
  are = out.parts_are.codes.are_tables.each n f at.variants at.number at.table g at.there

  made : IsMade p g v.body
  made =
      let kept : slice_get are.merged.bodies j ≡ Some v.body =
      subst (λ (bs : List Body). slice_get bs j ≡ Some v.body) are.grouped.bodies (map_at (λ (x : Variant). x.body) at.variants j v at.at) in
      let r = laws.bodies_made (domains_in p (switch_kind p) g) are.rows are.merged are.is_merged are.shorts (lower_function p g) are.made j v.body kept in
      let values = r.0.assignment.values in
      let combination = are.all.only values (in_map (λ (x : Bound). x.assignment.values) are.rows r.0 r.1) in record {
        values = values;
        many = combination_length (map (switch_domain p) g.switches) values combination ∙ length-map g.switches (switch_domain p);
        shorts = are.shorts;
        made = r.2;
      }

  names : NamesNoMore (lower_function p g).code v.body.code
  names = let m = made_variant p g at.variants are laws.bodies_made j v at.at in
      laws.name_no_more m.made.shorts m.values (lower_function p g) v.body (have_words p m.made.shorts m.made.known) m.words m.made.made

  has_words : HasWords v.body.code
  has_words = names.words (words laws.lowered p bodies tables parts y numbers out f g at.there)

  no_switches : read.ReadsNoSwitch (lower_function p g).switches v.body
  no_switches = laws.no_switch p g (laws.reads p f g (of_program laws.lowered p bodies tables parts y numbers out f g at.there)) made.values made.many made.shorts v.body made.made

  abbrev IsNoSwitch : ℕ → Type 0
  IsNoSwitch k = is_among k (lower_function p g).switches ≡ false

  reads_none : (x : ℕ) → is_among x (globals_read v.body.code) ≡ true → IsNoSwitch x
  reads_none x e =
      among_all IsNoSwitch (globals_read v.body.code) x (All-append IsNoSwitch (scalars_read v.body.code) (arrays_read v.body.code) no_switches.scalars no_switches.arrays) e

  -- ---- under values of its switches

  module _ (shorts : Shorts) (known : AreShortsOf p shorts) (values : List ℕ) (variant : IsVariantOf shorts (zip (lower_function p g).switches values) (lower_function p g) v.body) where
    own_rooms : AreRooms y v.body.rooms
    own_rooms = subst (AreRooms y) (sym variant.rooms) (rooms laws.lowered p bodies tables parts y numbers out f g at.there)

    in_program : IsInProgram y (setting_of numbers p) true (zip (lower_function p g).switches values) v.body
    in_program = record {
      within = is_within true v.body part.0.code is_part.code;
      rooms = own_rooms;
      constants = has_words.constants;
      knowns = contains_all (λ k. y.may_ask k ≡ true) (knowns (lower_function p g).code) (knowns v.body.code) names.knowns (may_ask laws.lowered p bodies tables parts y numbers out f g at.there);
      functions = contains_all (λ k. k < length numbers) (functions (lower_function p g).code) (functions v.body.code) names.functions
          (functions_there laws.lowered p bodies tables parts y numbers out f g at.there);
      free = variant.free;
      arrays = All-weaker IsNoSwitch (λ k. found (zip (lower_function p g).switches values) k ≡ None) (λ k e. not_found (lower_function p g).switches values k e) (arrays_read v.body.code) no_switches.arrays;
    }

    variant_code : IsVariantCode p y numbers g values v.body part.0
    variant_code = record {
      shorts = shorts;
      known = known;
      keeps = variant.keeps;
      params = variant.params;
      in_program = in_program;
      reads = made_reads_no_more made.shorts (zip (lower_function p g).switches made.values) (lower_function p g) v.body made.made;
      no_switch = reads_none;
      written = is_written laws.lowered y true v.body part.0.code is_part.code own_rooms;
      inline = is_part.inline ∙ ap encoded (laws.same_inline y v.body is_part.code.suitable.formed own_rooms);
    }

  pub has_variant_code : (x : PartVariant) × IsLinkedVariant parts n j x
      × ((shorts : Shorts) → AreShortsOf p shorts → (values : List ℕ) → IsVariantOf shorts (zip (lower_function p g).switches values) (lower_function p g) v.body → IsVariantCode p y numbers g values v.body x)
  has_variant_code = (part.0, linked, variant_code)
