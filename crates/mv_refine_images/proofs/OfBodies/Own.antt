-- The own code of a program's functions.
use Rattle.std.proofs.Common.{◌≡◌, ℕ, ◌<◌, Bool, true, List, [], Some, None, length, slice_get, All, refl, sym, ◌∙◌, subst, arith}
use Rattle.std.proofs.lemmas.List.Elements.{All-from_get_or, All-weaker}
use Rattle.std.proofs.lemmas.Option.{slice_get_within, same_Some}
use Rattle.mv_ast.specs.declared.program.Program.{Program}
use Rattle.mv_ast.specs.declared.program.Function.{Function}
use Rattle.mv_num.specs.Lists.{is_among}
use Rattle.mv_isa.specs.declared.labelled.Labelled.{Labelled}
use Rattle.mv_ir.specs.declared.body.Body.{Body}
use Rattle.mv_ir.specs.Measures.{scalars_read, arrays_read}
use Rattle.mv_ir.specs.Programs.{setting_of}
use Rattle.mv_ir.specs.Shorts.{Shorts}
use Rattle.mv_ir.specs.Trees.{found}
use Rattle.mv_lower_spec.specs.Functions.{names_global, lower_function, lower_function_code}
use Rattle.mv_source_forms.specs.Uses.{known_is_there}
use Rattle.mv_lower_spec.specs.Shape.Law.{IsFunctionOf}
use Rattle.mv_variants.specs.Bound.General.{IsGeneral}
use Rattle.mv_variants.specs.Bound.Programs.{IsGeneralOf}
use Rattle.mv_variants.specs.Bound.Names.{NamesNoMore}
use Rattle.mv_variants.specs.Bound.Shorts.{AreShortsOf, ShortsHaveWords}
use Rattle.mv_variants.proofs.OfBound.Generals.{IsKept, kept}
use Rattle.mv_select_code.specs.Control.Labels.{functions}
use Rattle.mv_select.specs.Calls.CallCode.{is_marked}
use Rattle.mv_select.specs.Calls.Convention.{Layout}
use Rattle.mv_select.specs.Bodies.SelectedBodies.{AreRooms, HasWords, IsInProgram, IsWithin, globals_read, knowns}
use Rattle.mv_select.proofs.OfBodies.Lists.{IsIn}
use Rattle.mv_linker.specs.declared.parts.Parts.{Parts}
use Rattle.mv_variants.specs.declared.variant.Variant.{Variant}
use Rattle.mv_parts.specs.Codes.{HasCode, IsCodeOf}
use Rattle.mv_parts.proofs.Lists.{one_of_all}
use Rattle.mv_refine_images.specs.Bodies.ProgramBodies.{AreLaidOut, IsOwnCode, IsWritten}
use Rattle.mv_refine_images.proofs.OfBodies.Facts.{Laws}
use Rattle.mv_refine_images.proofs.OfBodies.ReadGlobals.{reads_no_more}
use Rattle.mv_refine_images.proofs.OfBodies.Rooms.{rooms_are}
use Rattle.mv_num.proofs.Lists.{contains_all, there_at}

-- the constants of a program's short bodies are words
pub have_words : (p : Program) (shorts : Shorts) → AreShortsOf p shorts → ShortsHaveWords shorts
have_words p shorts known f b e = let s = known f b e in (s.short, s.words)

-- the code that is selected for a body is within the limits of selection
pub is_within : (attributed : Bool) (body : Body) (code : Labelled) → IsCodeOf attributed body code → IsWithin attributed body
is_within attributed body code is = record { formed = is.suitable.formed; shallow = is.suitable.shallow; frame = is.selected.frame; orders = is.suitable.orders }

-- and is written from the layout where its rooms are there
pub is_written : Laws → (y : Layout) (attributed : Bool) (body : Body) (code : Labelled) → IsCodeOf attributed body code → AreRooms y body.rooms → IsWritten y attributed body code
is_written laws y attributed body code is rooms = record {
  items = is.selected.items ∙ laws.same_code y attributed (is_marked body.marked) body is.suitable.formed rooms;
  labels = is.selected.labels;
}

module _ (laws : Laws) (p : Program) (bodies : List Body) (tables : List (List Variant)) (parts : Parts) (y : Layout) (numbers : List ℕ)
    (out : AreLaidOut p bodies tables parts y numbers) (f : ℕ) (g : Function) (there : slice_get p.functions f ≡ Some g) where
  -- ---- what it is lowered to

  pub of_program : IsFunctionOf p f g
  of_program = record { formed = out.formed; there = there }

  pub rooms : AreRooms y (lower_function p g).rooms
  rooms = rooms_are laws.rooms_stand p y out.layout out.globals out.data_fits (names_global (lower_function_code p.pointers g).code)

  pub may_ask : All (IsIn y.may_ask) (knowns (lower_function p g).code)
  may_ask = All-weaker (IsIn (known_is_there p)) (IsIn y.may_ask) (λ k h. out.layout.asked k ∙ h) (knowns (lower_function p g).code) (laws.orders_there p f g of_program)

  abbrev IsThere : ℕ → Type 0
  IsThere k = k < length numbers

  pub functions_there : All IsThere (functions (lower_function p g).code)
  functions_there = subst (λ n. All (λ k. k < n) (functions (lower_function p g).code)) (sym out.numbered) (laws.functions_there p f g of_program)

  -- ---- its own body

  own : (body : Body) × (slice_get bodies f ≡ Some body)
  own =
      let within = slice_get_within p.functions f g there in
      let count = out.parts_are.codes.generics.one_each in there_at bodies f (omega (arith, count, within))

  abbrev body : Body
  body = own.0

  made : IsGeneralOf p g body
  made = out.parts_are.codes.generics.each f g body there own.1

  abbrev shorts : Shorts
  shorts = made.shorts

  abbrev known : AreShortsOf p shorts
  known = made.known

  general : IsGeneral shorts (lower_function p g) body
  general = made.general

  same : IsKept shorts (lower_function p g) body
  same = kept shorts (lower_function p g) body general

  names : NamesNoMore (lower_function p g).code body.code
  names = same.names (have_words p shorts known)

  own_words : HasWords body.code
  own_words = one_of_all (λ (b : Body). HasWords b.code) bodies out.words f body own.1

  pub words : HasWords (lower_function p g).code
  words = general.words

  own_rooms : AreRooms y body.rooms
  own_rooms = subst (AreRooms y) (sym same.rooms) rooms

  own_reads : (x : ℕ) → is_among x (globals_read body.code) ≡ true → is_among x (globals_read (lower_function p g).code) ≡ true
  own_reads = reads_no_more (lower_function p g) body same.scalars same.arrays

  unbound : (xs : List ℕ) → All (λ x. found [] x ≡ None) xs
  unbound xs = All-from_get_or (λ x. found [] x ≡ None) xs 0 (λ i lt. refl)

  in_program : IsWithin g.attributed body → IsInProgram y (setting_of numbers p) g.attributed [] body
  in_program within = record {
    within = within;
    rooms = own_rooms;
    constants = own_words.constants;
    knowns = contains_all (IsIn y.may_ask) (knowns (lower_function p g).code) (knowns body.code) names.knowns may_ask;
    functions = contains_all IsThere (functions (lower_function p g).code) (functions body.code) names.functions functions_there;
    free = unbound (scalars_read body.code);
    arrays = unbound (arrays_read body.code);
  }

  own_code : (code : Labelled) → IsCodeOf g.attributed body code → IsOwnCode p y numbers g code
  own_code code is = record {
    body = body;
    shorts = shorts;
    known = known;
    keeps = same.keeps;
    params = same.params;
    in_program = in_program (is_within g.attributed body code is);
    reads = own_reads;
    written = is_written laws y g.attributed body code is own_rooms;
  }

  code_of : (code : Labelled) → HasCode p f body code → IsCodeOf g.attributed body code
  code_of code h = let same = same_Some h.function g (sym h.there ∙ there) in subst (λ (x : Function). IsCodeOf x.attributed body code) same h.is_code

  pub has_own_code : (code : Labelled) × (slice_get parts.functions f ≡ Some code) × IsOwnCode p y numbers g code
  has_own_code =
      let within = slice_get_within p.functions f g there in
      let count = out.parts_are.codes.code.one_each in
      let code = there_at parts.functions f (omega (arith, count, within)) in
      (code.0, code.1, own_code code.0 (code_of code.0 (out.parts_are.codes.code.each f body code.0 own.1 code.1)))
