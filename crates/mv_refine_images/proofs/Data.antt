-- Where the functions and the globals of a built program stand.
use Rattle.std.proofs.Common.{◌≡◌, ℕ, zero, suc, ◌<◌, ◌≤◌, ◌^◌, true, false, List, [], ◌∷◌, Some, None, map, length, get_or, slice_get, slice_index, All, refl, sym, ap, ◌∙◌, arith}
use Rattle.std.proofs.lemmas.List.{length-append}
use Rattle.std.proofs.lemmas.List.Elements.{All-from_get_or, All-weaker}
use Rattle.std.proofs.lemmas.List.FromFn.{length-map-range_with_len, get_or-map-range_with_len}
use Rattle.std.proofs.lemmas.Option.{slice_get-get_or, slice_get_within}
use Rattle.mv_ast.specs.declared.program.Program.{Program}
use Rattle.mv_ast.specs.declared.program.Function.{Function}
use Rattle.mv_ast.specs.declared.program.Global.{Global}
use Rattle.mv_ast.specs.Counts.{words_of_size}
use Rattle.mv_ast.specs.Starts.{first_words_under}
use Rattle.mv_meaning_numbering.specs.Numberings.{IsNumbering}
use Rattle.mv_isa.specs.declared.labelled.Labelled.{Labelled}
use Rattle.mv_isa.specs.Code.{IsPlace}
use Rattle.mv_image.specs.Spelling.{Fields}
use Rattle.mv_source_forms.specs.Names.{words_of_global}
use Rattle.mv_source_forms.specs.WellFormed.{IsWellFormedGlobal}
use Rattle.mv_select_code.specs.Statements.Frames.{Site}
use Rattle.mv_refine_machine.specs.Layout.{IsPacked, IsSetOut}
use Rattle.mv_linker.specs.Linked.{codes, function_variants, variant_codes}
use Rattle.mv_linker.specs.Tables.{BeginsWithWords, FitsPartFunction, FitsPartVariant, kinds_of}
use Rattle.mv_linker.specs.Outcome.{data_limit}
use Rattle.mv_link_text.specs.Laws.{CodesFollow}
use Rattle.mv_link_data.specs.FirstData.{data_words, global_sizes}
use Rattle.mv_link_data.specs.Laws.{AreAddresses}
use Rattle.mv_parts.proofs.LinkedCode.{begins_with_words}
use Rattle.mv_parts.proofs.LinkedLists.{all_variants}
use Rattle.mv_parts.proofs.Lists.{one_of_all}
use Rattle.mv_refine_images.specs.Bodies.ProgramBodies.{AreLaidOut, IsOwnCode}
use Rattle.mv_refine_images.proofs.LinkedProgram.{Basis, linked_program}
use Rattle.mv_refine_images.proofs.Listed.{in_either}
use Rattle.mv_num.proofs.Lists.{there_at}

-- the size of a global by its number
pub size_is : (xs : List Global) (g : ℕ) → get_or (map (λ (x : Global). words_of_size x.size) xs) g 0 ≡ words_of_global (slice_get xs g)
size_is [] g = refl
size_is (x ∷ xs) zero = refl
size_is (x ∷ xs) (suc g) = size_is xs g

not_kept : false ≡ true → ⊥
not_kept e = cc

module _ (p : Program) (image : Fields) (basis : Basis p image) where
  open basis use {laws, formed, have_words, built}
  open linked_program p image built use {parts, sizing, y, numbers, at}

  pub as_many : length parts.functions ≡ length p.functions
  as_many = built.are.codes.code.one_each

  pub count : length numbers ≡ length parts.functions
  count = length-map-range_with_len at 0 (length parts.functions)

  pub counted : length numbers ≡ length p.functions
  counted = count ∙ as_many

  -- ---- data

  data_counted : length parts.globals ≡ data_words p
  data_counted = ap length built.are.globals ∙ laws.data_is_counted p formed

  pub few : data_words p ≤ data_limit
  few = let fits = built.linked.data_fits in omega (arith, fits, data_counted)

  pub sizes_counted : map length (map (first_words_under numbers) p.globals) ≡ global_sizes p
  sizes_counted = laws.sizes_are_counts p numbers (All-weaker IsWellFormedGlobal (λ (x : Global). length x.first ≤ words_of_size x.size) (λ x h. h.given) p.globals formed.globals)

  -- what is linked of the program
  pub laid_out : AreLaidOut p built.bodies built.tables parts y numbers
  laid_out = record {
    formed = formed;
    globals = have_words;
    data_fits = few;
    parts_are = built.are;
    words = built.constants;
    layout = record { places = λ x. refl; sizes = λ x. refl; asked = λ k. refl };
    numbered = counted;
  }

  -- the frame of a function without temporaries and arrays, at the bottom of the stack
  abbrev any_site : Site
  any_site = record {
    seats = record { place = y.place; register = λ t. None; pinned = λ n. None };
    size = y.size;
    reach = record { is_read = λ g. false; is_written = λ g. false; may_load = λ a. false };
    entry = y.entry;
    may_call = false;
    may_ask = y.may_ask;
    temps = 0;
    array_at = λ a. 0;
    array_size = λ a. 0;
    is_left = λ q. false;
    register = λ r. 0x0020_0000;
    is_kept = λ a. false;
    kept = λ a. 0;
  }

  is_packed : IsPacked (global_sizes p) [] 40 any_site
  is_packed = record {
    sizes = λ g. sym (size_is p.globals g);
    places = λ g lt. refl;
    data_fits = let all = few in omega (arith, all);
    array_sizes = λ a. refl;
    array_places = λ a lt. absurd (omega (arith, lt));
    frame_fits = omega arith;
    stack_begins = omega arith;
    stack_ends = omega arith;
    kept = λ a e. absurd (not_kept e);
  }

  pub set_out : IsSetOut y
  set_out = let l = laws.packed_is_laid_out (global_sizes p) [] 40 any_site is_packed in record {
    data_begins = l.data_begins;
    data_ends = l.data_ends;
    globals_ascend = l.globals_ascend;
    stack_begins = omega arith;
    stack_ends = omega arith;
    even = refl;
  }

  -- ---- codes

  pub follow : CodesFollow parts sizing
  follow = laws.codes_ascend parts image built.are.are built.are.fit built.linked

  -- the code of a function
  pub own : (f : ℕ) (g : Function) → slice_get p.functions f ≡ Some g → (code : Labelled) × (slice_get parts.functions f ≡ Some code) × IsOwnCode p y numbers g code
  own f g here = laws.own_code p built.bodies built.tables parts y numbers laid_out f g here

  -- each code begins with words that are no slot
  own_begins : (f : ℕ) (code : Labelled) → slice_get parts.functions f ≡ Some code → BeginsWithWords code
  own_begins f code found =
      let lt = slice_get_within parts.functions f code found in
      let codes = built.are.codes in
      let count = codes.generics.one_each in
      let same = as_many in
      let (body, of) = there_at built.bodies f (omega (arith, lt, same, count)) in
      let has = codes.code.each f body code of found in begins_with_words laws.opens has.function.attributed body code has.is_code.selected.items

  pub begins : (k : ℕ) (code : Labelled) → slice_get (codes parts) k ≡ Some code → BeginsWithWords code
  begins = in_either BeginsWithWords parts.functions (variant_codes (function_variants parts.attributed)) own_begins
      (λ j code found. one_of_all BeginsWithWords (variant_codes (function_variants parts.attributed)) variants_begin j code found)
    where
      variants_begin : All BeginsWithWords (variant_codes (function_variants parts.attributed))
      variants_begin = all_variants BeginsWithWords parts.attributed (λ n a here j v there.
          (one_of_all (FitsPartVariant (kinds_of parts.switches a.switches)) a.variants (one_of_all (FitsPartFunction parts) parts.attributed built.are.fit.functions n a here).variants j v there).begins)

  pub ascend : (h k : ℕ) → h < k → k < length (codes parts) → at h < at k
  ascend h k lt within =
      let code = there_at (codes parts) h (omega (arith, lt, within)) in follow.ascend h k code.0 code.1 (begins h code.0 code.1) lt within

  more_codes : length parts.functions ≤ length (codes parts)
  more_codes = let joined = length-append parts.functions (variant_codes (function_variants parts.attributed)) in omega (arith, joined)

  -- ---- numbers

  number_is : (f d : ℕ) → f < length parts.functions → get_or numbers f d ≡ at f
  number_is f d lt = get_or-map-range_with_len at 0 (length parts.functions) f f d lt (omega arith)

  -- a function's number is the address of its entry
  pub entries : (f : ℕ) → f < length numbers → (slice_index numbers f ≡ at f) × IsPlace (at f)
  entries f lt = let within : f < length parts.functions = omega (arith, lt, count) in (number_is f 0 within, follow.places f)

  pub addresses : AreAddresses (length p.functions) at numbers
  addresses f lt =
      let within : f < length numbers = omega (arith, lt, counted) in slice_get-get_or numbers f 0 within ∙ ap Some (entries f within).0

  pub numbering : IsNumbering p numbers
  numbering = record {
    count = counted;
    words = All-from_get_or (λ n. (0 < n) × (n < 2 ^ 32)) numbers 0 (λ f lt.
        let within : f < length parts.functions = omega (arith, lt, count) in
        let is = number_is f 0 within in
        let place = follow.places f in
        let low = place.0 in let high = place.1 in (omega (arith, is, low), omega (arith, is, high)));
    different = λ f g d lt within.
        let there : g < length parts.functions = omega (arith, within, count) in
        let more = more_codes in
        let first = number_is f d (omega (arith, lt, there)) in
        let next = number_is g d there in
        let less = ascend f g lt (omega (arith, there, more)) in λ same. omega (arith, first, next, less, same);
  }
