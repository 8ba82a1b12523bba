-- A variant of a program's image can be told from its function by the words of text.
use Rattle.std.proofs.Common.{arith, ◌≡◌, ◌≢◌, ℕ, zero, suc, ◌+◌, ◌-◌, ◌/◌, ◌%◌, ◌<◌, true, List, [], ◌∷◌, length, map, get_or, Option, Some, None, refl, sym, ap, ◌∙◌, subst, All}
use Rattle.std.specs.Prelude.{ℤ, pos, ◌-ℤ◌, option_and_then, slice_get, slice_index}
use Rattle.std.proofs.lemmas.Bool.{le-ltb}
use Rattle.std.proofs.lemmas.List.{length-map}
use Rattle.std.proofs.lemmas.List.Elements.{All-nil, All-append}
use Rattle.std.proofs.lemmas.Option.{slice_get_within, get_or_from_slice_get, same_Some}
use Rattle.mv_ast.specs.declared.program.Program.{Program}
use Rattle.mv_ast.specs.declared.program.Function.{Function}
use Rattle.mv_descriptors.specs.declared.rows.FunctionRow.{FunctionRow}
use Rattle.mv_descriptors.specs.declared.rows.VariantRow.{VariantRow}
use Rattle.mv_isa.specs.declared.instr.Instr.TheVariants.{Addi}
use Rattle.mv_isa.specs.declared.labelled.Labelled.{Labelled}
use Rattle.mv_isa.specs.declared.labelled.Line.{Line}
use Rattle.mv_isa.specs.declared.labelled.Line.TheVariants.{Word}
use Rattle.mv_isa.specs.Code.{address, text_start}
use Rattle.mv_isa.specs.Encoding.{encode}
use Rattle.mv_isa.specs.Standing.{LineStands, word_at}
use Rattle.mv_image.specs.Jumps.{jump}
use Rattle.mv_image.specs.Patched.{fitting_variant, variant_under}
use Rattle.mv_image.specs.Spelling.{Fields}
use Rattle.mv_ir.specs.declared.body.Body.{Body}
use Rattle.mv_select_code.specs.Trees.Rooms.{place_in}
use Rattle.mv_select_code.specs.Control.Layouts.{size_in}
use Rattle.mv_select.specs.Calls.CallCode.{is_marked}
use Rattle.mv_select.specs.Functions.FunctionCode.{bytes_of, later_lines}
use Rattle.mv_select.specs.Functions.Functions.{shape_of}
use Rattle.mv_patch.specs.Tables.{word_of}
use Rattle.mv_linker.specs.declared.parts.Parts.{Parts}
use Rattle.mv_linker.specs.declared.parts.PartFunction.{PartFunction}
use Rattle.mv_linker.specs.declared.parts.PartVariant.{PartVariant}
use Rattle.mv_linker.specs.Linked.{codes, function_variants}
use Rattle.mv_linker.specs.Outcome.{IsLinked}
use Rattle.mv_linker.specs.Tables.{function_row, variant_row, variant_rows, FitsPartFunction}
use Rattle.mv_linker.specs.Tables as linker
use Rattle.mv_link_text.specs.Laws.{CodesFollow, CodesAscend, PatchedCodeStands}
use Rattle.mv_link_text.specs.Text.{label_place, HasEntry}
use Rattle.mv_link_changes.specs.Changed.{CanBeTold}
use Rattle.mv_link_changes.proofs.Jumps.{jump_opcode}
use Rattle.mv_variants.specs.declared.variant.Variant.{Variant}
use Rattle.mv_parts.specs.Codes.{IsCodeOf}
use Rattle.mv_parts.specs.Numbers.{attributed_numbers}
use Rattle.mv_parts.specs.Parts.{ArePartsOf, ArePartVariants}
use Rattle.mv_parts.proofs.Lists.{all_by_index, map_at, one_of_all}
use Rattle.mv_parts.proofs.Numbers as numbered
use Rattle.mv_count_words.proofs.Inlined.{addi_opcode, first_word, inline_plain}
use Rattle.mv_num.proofs.Lists.{there_at}

-- ---- lists

row_at : (entry : ℕ → ℕ) (number : ℕ) (vs : List PartVariant) (k : ℕ) (row : VariantRow) → slice_get (variant_rows entry number vs) k ≡ Some row →
    (v : PartVariant) × (slice_get vs k ≡ Some v) × (row ≡ variant_row (entry (number + k)) v)
row_at entry number [] k row e = absurd (let bad : ⊥ = cc in bad)
row_at entry number (v ∷ vs) zero row e =
    let same = same_Some (variant_row (entry number) v) row e in
    let here : number ≡ number + 0 = omega arith in (v, refl, sym same ∙ ap (λ n. variant_row (entry n) v) here)
row_at entry number (v ∷ vs) (suc k) row e =
    let found = row_at entry (suc number) vs k row e in
    let next : suc number + k ≡ number + suc k = omega arith in (found.0, found.1, found.2 ∙ ap (λ n. variant_row (entry n) found.0) next)

-- what holds of each variant of each function
pub all_variants : (P : PartVariant → Type 0) (attributed : List PartFunction) → ((n : ℕ) (a : PartFunction) → slice_get attributed n ≡ Some a → All P a.variants) → All P (function_variants attributed)
all_variants P [] h = All-nil P
all_variants P (a ∷ rest) h = All-append P a.variants (function_variants rest) (h 0 a refl) (all_variants P rest (λ n b e. h (suc n) b e))

module _ (ascend : CodesAscend) (patched : PatchedCodeStands) (p : Program) (bodies : List Body) (tables : List (List Variant)) (parts : Parts) (are : ArePartsOf p bodies tables parts)
    (image : Fields) (linked : IsLinked parts image) where
  abbrev place : ℕ → ℕ
  place = label_place parts linked.sizing

  follow : CodesFollow parts linked.sizing
  follow = ascend parts image are.are are.fit linked

  functions_are : image.functions ≡ map (function_row place) parts.attributed
  functions_are = ap (λ (i : Fields). i.functions) linked.image_is

  variants_are : image.variants ≡ variant_rows place (length parts.functions) (function_variants parts.attributed)
  variants_are = ap (λ (i : Fields). i.variants) linked.image_is

  text_is : image.text ≡ linked.text
  text_is = ap (λ (i : Fields). i.text) linked.image_is

  -- ---- an attributed function

  module _ (n : ℕ) (a : PartFunction) (at : slice_get parts.attributed n ≡ Some a) where
    fits : FitsPartFunction parts a
    fits = one_of_all (FitsPartFunction parts) parts.attributed are.fit.functions n a at

    number : slice_get (linker.attributed_numbers parts.attributed) n ≡ Some a.function
    number = map_at (λ (x : PartFunction). x.function) parts.attributed n a at

    pub number_is : slice_get (attributed_numbers p) n ≡ Some a.function
    number_is = subst (λ (ns : List ℕ). slice_get ns n ≡ Some a.function) are.codes.variants.numbers number

    abbrev own : (code : Labelled) × (slice_get parts.functions a.function ≡ Some code)
    own = there_at parts.functions a.function fits.there

    code_there : slice_get (codes parts) a.function ≡ Some own.0
    code_there = follow.function a.function own.0 own.1

    -- ---- its entry

    -- its code begins with the making of a frame
    record Begins : Type 0 where
      bytes : ℤ
      rest : List Line
      items : own.0.items ≡ Word (Addi 2 2 bytes) ∷ rest
      entry : HasEntry parts image linked.sizing n a.function (Addi 2 2 bytes)

    begins_with : (body : Body) → IsCodeOf true body own.0 → Begins
    begins_with body code =
        let bytes = pos 0 -ℤ pos (bytes_of (shape_of true body)) in
        let rest = later_lines (place_in body.rooms) (size_in body.rooms) (is_marked body.marked) (shape_of true body) body.code in
        record {
          bytes = bytes;
          rest = rest;
          items = code.selected.items;
          entry = (patched parts image are.are are.fit linked n a.function own.0 (Addi 2 2 bytes) rest number code_there code.selected.labels code.selected.items).1;
        }

    begins : Begins
    begins =
        let h = numbered.attributed_at p n a.function number_is in
        let within = slice_get_within p.functions a.function h.function h.there in
        let count = are.codes.generics.one_each in
        let body = there_at bodies a.function (omega (arith, within, count)) in
        let has = are.codes.code.each a.function body.0 own.0 body.1 own.1 in
        let is : has.function ≡ h.function = same_Some has.function h.function (sym has.there ∙ h.there) in
        let attributed : has.function.attributed ≡ true = ap (λ (g : Function). g.attributed) is ∙ h.attributed in
        begins_with body.0 (subst (λ b. IsCodeOf b body.0 own.0) attributed has.is_code)

    entry_word : (b : Begins) → word_of image.text (place a.function) ≡ encode (Addi 2 2 b.bytes)
    entry_word b =
        let e = b.entry in
        let line = subst (λ (l : Line). LineStands (word_at text_start linked.text) place place (address text_start linked.sizing e.index) (address text_start linked.sizing (e.index + 1)) l) e.line
        (linked.text_is.stands.each e.index e.within) in
        let word = subst (λ x. word_at text_start linked.text x ≡ Some (encode (Addi 2 2 b.bytes))) e.at_line line.0.word in
        let from = e.here.0 in
        let there : slice_get linked.text ((place a.function - text_start) / 4) ≡ Some (encode (Addi 2 2 b.bytes)) = rw (le-ltb (place a.function) text_start from) at word in
        ap (λ (t : List ℕ). word_of t (place a.function)) text_is ∙ get_or_from_slice_get linked.text ((place a.function - text_start) / 4) (encode (Addi 2 2 b.bytes)) 0 there

    entry_apart : (to : ℕ) → word_of image.text (place a.function) ≢ jump 0 (place a.function) to
    entry_apart to same =
        let b = begins in
        let word = ap (λ w. w % 128) (sym (entry_word b) ∙ same) in
        let one = addi_opcode 2 2 b.bytes in
        let other = jump_opcode 0 (place a.function) to in omega (arith, word, one, other)

    -- ---- its variants

    plain_variants : All (λ (v : PartVariant). first_word v.inline % 128 ≢ 111) a.variants
    plain_variants =
        let h = numbered.attributed_at p n a.function number_is in
        let within = slice_get_within (attributed_numbers p) n a.function number_is in
        let count = are.codes.are_tables.one_each in
        let table = there_at tables n (omega (arith, within, count)) in
        let part = are.codes.variants.each n a.function h.function table.0 a number_is h.there table.1 at in
        all_by_index (λ (v : PartVariant). first_word v.inline % 128 ≢ 111) a.variants (λ j v e. plain table.0 part.variants_are j v e)
      where
        plain : (variants : List Variant) → ArePartVariants variants a.variants → (j : ℕ) (v : PartVariant) → slice_get a.variants j ≡ Some v → first_word v.inline % 128 ≢ 111
        plain variants vs j v e =
            let within = slice_get_within a.variants j v e in
            let count = vs.one_each in
            let variant = there_at variants j (omega (arith, within, count)) in
            let is = vs.each j variant.0 v variant.1 e in
            subst (λ (words : Option (List ℕ)). first_word words % 128 ≢ 111) (sym is.inline) (inline_plain (place_in variant.0.body.rooms) variant.0.body)

  -- ---- the row of a variant

  record IsVariant (row : VariantRow) : Type 0 where
    k : ℕ
    part : PartVariant
    at : slice_get (function_variants parts.attributed) k ≡ Some part
    is : row ≡ variant_row (place (length parts.functions + k)) part

  variant_of : (o : Option ℕ) (row : VariantRow) → option_and_then (slice_get image.variants) o ≡ Some row → IsVariant row
  variant_of None row e = absurd (let bad : ⊥ = cc in bad)
  variant_of (Some k) row e =
      let there = subst (λ (rows : List VariantRow). slice_get rows k ≡ Some row) variants_are e in
      let found = row_at place (length parts.functions) (function_variants parts.attributed) k row there in record { k = k; part = found.0; at = found.1; is = found.2 }

  variant_is : (f : ℕ) (values : Option (List ℕ)) (row : VariantRow) → variant_under image f values ≡ Some row → IsVariant row
  unfolding variant_under
  variant_is f values row e = variant_of (option_and_then (fitting_variant image f) values) row e

  inline_apart : (row : VariantRow) → IsVariant row → slice_index row.words 0 % 128 ≢ 111
  inline_apart row v =
      let all = all_variants (λ (x : PartVariant). first_word x.inline % 128 ≢ 111) parts.attributed plain_variants in
      let plain = one_of_all (λ (x : PartVariant). first_word x.inline % 128 ≢ 111) (function_variants parts.attributed) all v.k v.part v.at in
      subst (λ (r : VariantRow). slice_index r.words 0 % 128 ≢ 111) (sym v.is) plain

  elsewhere : (n : ℕ) (a : PartFunction) → slice_get parts.attributed n ≡ Some a → (row : VariantRow) → IsVariant row → row.address ≢ place a.function
  elsewhere n a at row v same =
      let code = own n a at in
      let there = follow.variant v.k v.part v.at in
      let below = slice_get_within (codes parts) (length parts.functions + v.k) v.part.code there in
      let within = (fits n a at).there in
      let less = follow.ascend a.function (length parts.functions + v.k) code.0 (code_there n a at) ((fits n a at).begins code.0 code.1) (omega (arith, within)) below in
      let is = ap (λ (r : VariantRow). r.address) v.is in omega (arith, less, is, same)

  pub can_be_told : (f : ℕ) (values : Option (List ℕ)) (d : FunctionRow) (row : VariantRow) → f < length image.functions → variant_under image f values ≡ Some row → CanBeTold image (get_or image.functions f d) row
  can_be_told f values d row lt e =
      let count = ap (λ (rows : List FunctionRow). length rows) functions_are ∙ length-map parts.attributed (function_row place) in
      let found = there_at parts.attributed f (omega (arith, lt, count)) in
      let a = found.0 in
      let v = variant_is f values row e in
      let there = subst (λ (rows : List FunctionRow). slice_get rows f ≡ Some (function_row place a)) (sym functions_are) (map_at (function_row place) parts.attributed f a found.1) in
      let is = get_or_from_slice_get image.functions f (function_row place a) d there in
      subst (λ (r : FunctionRow). CanBeTold image r row) (sym is) (record {
        entry = entry_apart f a found.1 row.address;
        elsewhere = elsewhere f a found.1 row v;
        inline = λ one. inline_apart row v;
      })
