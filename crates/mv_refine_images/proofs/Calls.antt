-- No word at which a binding may show is an environment call: it begins the code of an attributed function, is a word of a slot, or what stands there for a
-- variant or a target.
use Rattle.std.proofs.Common.{◌≡◌, ℕ, zero, suc, ◌+◌, ◌-◌, ◌*◌, ◌/◌, ◌%◌, ◌<◌, ◌≤◌, Bool, true, false, cond, ◌||◌, eqb, nat_eq, nat_lt, if◌then◌else◌, List, [], ◌∷◌, length, slice_get, slice_index, slice_index_or, Option, Some, None, unwrap_or, option_and_then, refl, sym, ap, ◌∙◌, subst, arith, ℤ}
use Rattle.std.proofs.lemmas.Bool.{eqb-true, le-ltb}
use Rattle.std.proofs.lemmas.Option.{get_or_from_slice_get, slice_get-get_or, slice_get_within, same_Some}
use Rattle.mv_ast.specs.declared.program.Program.{Program}
use Rattle.mv_num.specs.Lists.{is_among}
use Rattle.mv_descriptors.specs.declared.rows.PointerRow.{PointerRow}
use Rattle.mv_descriptors.specs.declared.rows.PointRow.{PointRow}
use Rattle.mv_descriptors.specs.declared.rows.SiteRow.{SiteRow}
use Rattle.mv_descriptors.specs.declared.rows.TargetRow.{TargetRow}
use Rattle.mv_descriptors.specs.declared.rows.VariantRow.{VariantRow}
use Rattle.mv_isa.specs.declared.instr.Instr.{Instr}
use Rattle.mv_isa.specs.declared.instr.Instr.TheVariants.{Lui, Jal, Addi, Ecall}
use Rattle.mv_isa.specs.declared.labelled.Line.{Line}
use Rattle.mv_isa.specs.Code.{address, line_at, text_start}
use Rattle.mv_isa.specs.Encoding.{Fits, choose, decode, encode, opcode_rows, load_rows, load_at, jalr_at, immediate_at}
use Rattle.mv_isa.specs.Formats.{opcode_of, funct3_of, rd_of, rs1_of, i_imm}
use Rattle.mv_isa.specs.Standing.{InstrStands, LineStands, word_at}
use Rattle.mv_isa.proofs.RoundTrip.{decode-encode}
use Rattle.mv_fetch.specs.Held.{index_of}
use Rattle.mv_image.specs.Jumps.{nop, distance, jal_word, jump, slot_words, bound_words}
use Rattle.mv_image.specs.Patched.{Bindings, variant_under, target_under, pointer_number, at_entry, at_site, after_site, at_point, entry_at, site_at, site_before, is_in_point, point_at, word_by, word_through, word_under, text_of}
use Rattle.mv_image.specs.Spelling.{Fields}
use Rattle.mv_image.specs.WellFormed.{FitsPoint}
use Rattle.mv_image.proofs.PatchLaws.{text_size, text_at}
use Rattle.mv_ir.specs.declared.body.Body.{Body}
use Rattle.mv_ir.specs.declared.stm.Stm.{Stm, out-Stm}
use Rattle.mv_ir.specs.declared.stm.Stm.TheOpen.{Stm-F}
use Rattle.mv_ir.specs.declared.stm.Stm.TheOpen as stm
use Rattle.mv_ir.specs.declared.tree.Tree.{Tree, out-Tree}
use Rattle.mv_ir.specs.declared.tree.Tree.TheOpen.{Tree-F}
use Rattle.mv_ir.specs.declared.tree.Tree.TheOpen as tree
use Rattle.mv_select.specs.Inline.InlineOf.{number_pair, parameter_pair, load_pair, store_pair, return_layer, return_pair, set_layer, set_pair, statement_layer, statement_pair, code_pair, inline_of, encoded}
use Rattle.mv_select.proofs.OfInline.Fit.{inline_fits}
use Rattle.mv_linker.specs.declared.parts.PartFunction.{PartFunction}
use Rattle.mv_linker.specs.declared.parts.PartVariant.{PartVariant}
use Rattle.mv_linker.specs.Linked.{function_variants, linked_lines}
use Rattle.mv_linker.specs.Tables.{variant_row, variant_rows}
use Rattle.mv_parts.proofs.Lists.{map_at}
use Rattle.mv_parts.proofs.Numbers as numbered
use Rattle.mv_link_text.proofs.Codes.{IsAssembled}
use Rattle.mv_link_text.proofs.Found.{found_told}
use Rattle.mv_link_text.proofs.Rows.{entry_told, site_told, before_told}
use Rattle.mv_refine_machine.specs.Runs.Behaves.{CallsArePlain}
use Rattle.mv_refine_images.proofs.LinkedProgram.{Basis, linked_program}
use Rattle.mv_refine_images.proofs.Listed.{in_either}
use Rattle.mv_refine_images.proofs.Standing.{entry}
use Rattle.mv_num.proofs.Lists.{there_at}

-- ---- words that are no environment call

abbrev IsOther : ℕ → Type 0
IsOther word = decode word ≡ Some Ecall → ⊥

-- the word of another instruction
other_instr : (i : Instr) → Fits i → (i ≡ Ecall → ⊥) → IsOther (encode i)
other_instr i fits other e = other (same_Some i Ecall (sym (decode-encode i fits) ∙ e))

addi_other : (d a : ℕ) (z : ℤ) → Addi d a z ≡ Ecall → ⊥
addi_other d a z e = cc

lui_other : (d : ℕ) (z : ℤ) → Lui d z ≡ Ecall → ⊥
lui_other d z e = cc

jal_other : (d : ℕ) (z : ℤ) → Jal d z ≡ Ecall → ⊥
jal_other d z e = cc

opcode_is : (rd d : ℕ) → opcode_of (jal_word rd d) ≡ 0x6f
unfolding opcode_of
opcode_is rd d = omega arith

other_jump : (rd from to : ℕ) → IsOther (jump rd from to)
unfolding jump decode
other_jump rd from to e =
    let word = jal_word rd (distance from to) in
    let is = ap (λ o. choose opcode_rows o (λ read. read word) None) (opcode_is rd (distance from to)) in
    let bad = sym is ∙ e in cc

other_nop : IsOther nop
unfolding decode opcode_of funct3_of immediate_at
other_nop e = cc

other_zero : IsOther 0
unfolding decode opcode_of
other_zero e = cc

-- ---- the four words of a pointer site

lui_opcode : (n : ℕ) → opcode_of (n * 4096 + 5 * 128 + 0x37) ≡ 0x37
unfolding opcode_of
lui_opcode n = omega arith

other_lui : (n : ℕ) → IsOther (n * 4096 + 5 * 128 + 0x37)
unfolding decode
other_lui n e =
    let word = n * 4096 + 5 * 128 + 0x37 in
    let is = ap (λ o. choose opcode_rows o (λ read. read word) None) (lui_opcode n) in
    let bad = sym is ∙ e in cc

abbrev load_word : ℕ → ℕ
load_word n = n * 1048576 + 5 * 32768 + 2 * 4096 + 5 * 128 + 0x03

load_opcode : (n : ℕ) → opcode_of (load_word n) ≡ 0x03
unfolding opcode_of
load_opcode n = omega arith

load_kind : (n : ℕ) → funct3_of (load_word n) ≡ 2
unfolding funct3_of
load_kind n = omega arith

other_load : (n : ℕ) → IsOther (load_word n)
unfolding decode load_at
other_load n e =
    let word = load_word n in
    let is = ap (λ o. choose opcode_rows o (λ read. read word) None) (load_opcode n) in
    let kind = ap (λ o. choose load_rows o (λ k. Some (k (rd_of word) (rs1_of word) (i_imm word))) None) (load_kind n) in
    let bad = sym kind ∙ (sym is ∙ e) in cc

other_call : IsOther 0x000280E7
unfolding decode opcode_of funct3_of jalr_at
other_call e = cc

-- while it is free, and while it is bound
free_others : (check at pointer j : ℕ) → IsOther (slice_index (slot_words check at pointer) j)
unfolding slot_words
free_others check at pointer zero = other_lui ((pointer + 2048) / 4096 % 1048576)
free_others check at pointer (suc zero) = other_load (pointer % 4096)
free_others check at pointer (suc (suc zero)) = other_jump 6 (at + 8) check
free_others check at pointer (suc (suc (suc zero))) = other_call
free_others check at pointer (suc (suc (suc (suc j)))) = other_zero

bound_others : (check at target j : ℕ) → IsOther (slice_index (bound_words check at target) j)
unfolding bound_words
bound_others check at target zero = other_jump 6 at (check + 8)
bound_others check at target (suc zero) = other_nop
bound_others check at target (suc (suc zero)) = other_nop
bound_others check at target (suc (suc (suc zero))) = other_jump 1 (at + 12) target
bound_others check at target (suc (suc (suc (suc j)))) = other_zero

-- an address in a pointer site
in_slot : (a at : ℕ) → is_among a (at ∷ (at + 4) ∷ (at + 8) ∷ (at + 12) ∷ []) ≡ true → (j : ℕ) × (j < 4) × (at + 4 * j ≡ a)
in_slot a at e = by (nat_eq a at) (nat_eq a (at + 4)) (nat_eq a (at + 8)) (nat_eq a (at + 12)) refl refl refl refl e
  where
    by : (b c d f : Bool) → nat_eq a at ≡ b → nat_eq a (at + 4) ≡ c → nat_eq a (at + 8) ≡ d → nat_eq a (at + 12) ≡ f → (b || (c || (d || (f || false)))) ≡ true →
        (j : ℕ) × (j < 4) × (at + 4 * j ≡ a)
    by true c d f p q r s h = let k = eqb-true a at p in (0, omega arith, omega (arith, k))
    by false true d f p q r s h = let k = eqb-true a (at + 4) q in (1, omega arith, omega (arith, k))
    by false false true f p q r s h = let k = eqb-true a (at + 8) r in (2, omega arith, omega (arith, k))
    by false false false true p q r s h = let k = eqb-true a (at + 12) s in (3, omega arith, omega (arith, k))
    by false false false false p q r s h = absurd (cc h)

-- ---- the two words of an inline body

abbrev AreOthers : Instr × Instr → Type 0
AreOthers p = (p.0 ≡ Ecall → ⊥) × (p.1 ≡ Ecall → ⊥)

two_ways : (b : Bool) (p q : Instr × Instr) → AreOthers p → AreOthers q → AreOthers (cond b p q)
two_ways true p q h k = h
two_ways false p q h k = k

number_others : (n : ℕ) → AreOthers (number_pair n)
unfolding number_pair
number_others n = two_ways _ _ _ (addi_other _ _ _, addi_other _ _ _) (lui_other _ _, addi_other _ _ _)

no_pair : (p : Instr × Instr) → None ≡ Some p → AreOthers p
no_pair p e = absurd (cc)

chosen : (b : Bool) (p q : Instr × Instr) → AreOthers p → cond b (Some p) None ≡ Some q → AreOthers q
chosen true p q others e = subst AreOthers (same_Some p q e) others
chosen false p q others e = no_pair q e

module _ (place : ℕ → ℕ) (params : ℕ) where
  of_return : (x : Tree-F Tree) (p : Instr × Instr) → return_layer place params x ≡ Some p → AreOthers p
  of_return (tree.Number n) p e = subst AreOthers (same_Some (number_pair n) p e) (number_others n)
  of_return (tree.Temp t) p e = chosen _ (parameter_pair t) p (λ e. cc, λ e. cc) e
  of_return (tree.Global g) p e = subst AreOthers (same_Some (load_pair (place g)) p e) (λ e. cc, λ e. cc)
  of_return (tree.Function f) p e = no_pair p e
  of_return (tree.Unary o a) p e = no_pair p e
  of_return (tree.Binary o a b) p e = no_pair p e
  of_return (tree.Narrow c a) p e = no_pair p e

  of_set : (g : ℕ) (x : Tree-F Tree) (p : Instr × Instr) → set_layer place params g x ≡ Some p → AreOthers p
  of_set g (tree.Temp t) p e = chosen _ (store_pair (place g) t) p (λ e. cc, λ e. cc) e
  of_set g (tree.Number n) p e = no_pair p e
  of_set g (tree.Global h) p e = no_pair p e
  of_set g (tree.Function f) p e = no_pair p e
  of_set g (tree.Unary o a) p e = no_pair p e
  of_set g (tree.Binary o a b) p e = no_pair p e
  of_set g (tree.Narrow c a) p e = no_pair p e

  of_statement : (x : Stm-F Stm) (p : Instr × Instr) → statement_layer place params x ≡ Some p → AreOthers p
  unfolding return_pair set_pair
  of_statement (stm.Return v) p e = of_return (out-Tree v) p e
  of_statement (stm.SetGlobal g v) p e = of_set g (out-Tree v) p e
  of_statement (stm.Set t v) p e = no_pair p e
  of_statement (stm.Divide t o a b) p e = no_pair p e
  of_statement (stm.Check a j) p e = no_pair p e
  of_statement (stm.Read t a j) p e = no_pair p e
  of_statement (stm.Write a j v) p e = no_pair p e
  of_statement (stm.Zero a) p e = no_pair p e
  of_statement (stm.If t a b) p e = no_pair p e
  of_statement (stm.Loop b) p e = no_pair p e
  of_statement (stm.Block b) p e = no_pair p e
  of_statement (stm.Break n) p e = no_pair p e
  of_statement (stm.Back n) p e = no_pair p e
  of_statement (stm.Call r f xs) p e = no_pair p e
  of_statement (stm.Known r f xs) p e = no_pair p e

  of_code : (code : List Stm) (p : Instr × Instr) → code_pair place params code ≡ Some p → AreOthers p
  unfolding statement_pair
  of_code [] p e = subst AreOthers (same_Some _ p e) (λ e. cc, λ e. cc)
  of_code (s ∷ []) p e = of_statement (out-Stm s) p e
  of_code (s ∷ t ∷ code) p e = no_pair p e

-- both words of a variant's row
abbrev HasOthers : VariantRow → Type 0
HasOthers row = IsOther (slice_index row.words 0) × IsOther (slice_index row.words 1)

abbrev OtherWords : List ℕ → Type 0
OtherWords words = IsOther (slice_index words 0) × IsOther (slice_index words 1)

of_inline : (place : ℕ → ℕ) (body : Body) → body.params ≤ 8 → (o : Option (Instr × Instr)) → inline_of place body ≡ o → OtherWords (unwrap_or (encoded o) (0 ∷ 0 ∷ []))
of_inline place body few None e = (other_zero, other_zero)
of_inline place body few (Some both) e =
    let fits = inline_fits place body few both.0 both.1 e in
    let others = of_code place body.params body.code both e in
    (other_instr both.0 fits.0 others.0, other_instr both.1 fits.1 others.1)

of_words : (place : ℕ → ℕ) (body : Body) → body.params ≤ 8 → (part : PartVariant) → part.inline ≡ encoded (inline_of place body) → (address : ℕ) → HasOthers (variant_row address part)
of_words place body few part is address =
    subst (λ (i : Option (List ℕ)). OtherWords (unwrap_or i (0 ∷ 0 ∷ []))) (sym is) (of_inline place body few (inline_of place body) refl)

-- ---- the rows of variants

-- what holds of each variant of each function
each_variant : (P : PartVariant → Type 0) (attributed : List PartFunction) →
    ((n : ℕ) (a : PartFunction) → slice_get attributed n ≡ Some a → (j : ℕ) (v : PartVariant) → slice_get a.variants j ≡ Some v → P v) →
    (i : ℕ) (v : PartVariant) → slice_get (function_variants attributed) i ≡ Some v → P v
each_variant P [] each i v e = absurd (cc e)
each_variant P (a ∷ attributed) each i v e =
    in_either P a.variants (function_variants attributed) (each 0 a refl) (each_variant P attributed (λ n b is. each (suc n) b is)) i v e

each_row : (Q : VariantRow → Type 0) (at : ℕ → ℕ) (number : ℕ) (vs : List PartVariant) → ((i : ℕ) (v : PartVariant) → slice_get vs i ≡ Some v → (a : ℕ) → Q (variant_row a v)) →
    (k : ℕ) (row : VariantRow) → slice_get (variant_rows at number vs) k ≡ Some row → Q row
each_row Q at number [] each k row e = absurd (cc e)
each_row Q at number (v ∷ vs) each zero row e = subst Q (same_Some _ row e) (each 0 v refl (at number))
each_row Q at number (v ∷ vs) each (suc k) row e = each_row Q at (suc number) vs (λ i w is. each (suc i) w is) k row e

module _ (p : Program) (image : Fields) (basis : Basis p image) where
  open basis use {built}
  open linked_program p image built use {parts, sizing, at}

  part_others : (n : ℕ) (a : PartFunction) → slice_get parts.attributed n ≡ Some a → (j : ℕ) (v : PartVariant) → slice_get a.variants j ≡ Some v → (address : ℕ) → HasOthers (variant_row address v)
  part_others n a here j v there address =
      let codes = built.are.codes in
      let number : slice_get _ n ≡ Some a.function = ap (λ (ns : List ℕ). slice_get ns n) (sym codes.variants.numbers) ∙ map_at (λ (b : PartFunction). b.function) parts.attributed n a here in
      let own = numbered.attributed_at p n a.function number in
      let counted = codes.are_tables.one_each in
      let within = slice_get_within _ n a.function number in
      let table = there_at built.tables n (omega (arith, counted, within)) in
      let are = (codes.variants.each n a.function own.function table.0 a number own.there table.1 here).variants_are in
      let one_each = are.one_each in
      let below = slice_get_within a.variants j v there in
      let variant = there_at table.0 j (omega (arith, one_each, below)) in
      let is = are.each j variant.0 v variant.1 there in
      of_words _ variant.0.body is.code.suitable.formed.params v is.inline address

  row_others : (k : ℕ) (row : VariantRow) → slice_get image.variants k ≡ Some row → HasOthers row
  row_others k row e =
      each_row HasOthers at (length parts.functions) (function_variants parts.attributed)
      (each_variant (λ v. (address : ℕ) → HasOthers (variant_row address v)) parts.attributed part_others) k row
      (ap (λ (rows : List VariantRow). slice_get rows k) (sym (ap (λ (i : Fields). i.variants) built.linked.image_is)) ∙ e)

  -- the variant that a function is bound to
  under_others : (f : ℕ) (values : Option (List ℕ)) (row : VariantRow) → variant_under image f values ≡ Some row → HasOthers row
  unfolding variant_under
  under_others f values row e = by _ e
    where
      by : (o : Option ℕ) → option_and_then (slice_get image.variants) o ≡ Some row → HasOthers row
      by None none = absurd (cc none)
      by (Some k) there = row_others k row there

  -- ---- words of text

  assembled : IsAssembled parts sizing built.linked.text
  assembled = record { are = built.are.are; tables = built.are.fit; fits = built.linked.least.fits.sizes; under = built.linked.text_is }

  -- a line stands in the assembled text
  line_stands : (k : ℕ) → k < length (linked_lines parts) → (line : Line) → line_at (linked_lines parts) k ≡ line →
      LineStands (word_at text_start built.linked.text) at at (address text_start sizing k) (address text_start sizing (k + 1)) line
  line_stands k lt line is =
      subst (λ (l : Line). LineStands (word_at text_start built.linked.text) at at (address text_start sizing k) (address text_start sizing (k + 1)) l) is (built.linked.text_is.stands.each k lt)

  module _ (k word : ℕ) (there : slice_get image.text k ≡ Some word) where
    abbrev a : ℕ
    a = 4096 + 4 * k

    text_there : word_at text_start built.linked.text a ≡ Some word
    text_there =
        let from : nat_lt a text_start ≡ false = le-ltb a text_start (omega arith) in
        let index : (a - text_start) / 4 ≡ k = omega arith in
        rw (from, index) (ap (λ (i : Fields). slice_get i.text k) (sym built.linked.image_is) ∙ there)

    -- the word of an instruction that stands there
    stands_other : (b : ℕ) (i : Instr) → InstrStands (word_at text_start built.linked.text) b i → b ≡ a → (i ≡ Ecall → ⊥) → IsOther word
    stands_other b i stands same other =
        let here = sym (ap (word_at text_start built.linked.text) same) ∙ stands.word in
        subst IsOther (same_Some (encode i) word (sym here ∙ text_there)) (other_instr i stands.fields other)

    entry_other : (n : ℕ) → entry_at image a ≡ Some n → IsOther word
    entry_other n e =
        let told = entry_told parts sizing built.linked.text assembled a n (subst (λ (i : Fields). entry_at i a ≡ Some n) built.linked.image_is e) in
        let number = ap (λ (ns : List ℕ). slice_get ns n) (sym built.are.codes.variants.numbers) ∙ told.attributed in
        let own = numbered.attributed_at p n told.function number in
        let first = entry p image basis told.function own.function own.there own.attributed in
        let line = line_stands first.index first.within _ first.line in
        stands_other _ _ line.0 (first.at_line ∙ told.here) (addi_other _ _ _)

    site_other : (site : SiteRow) → site_at image a ≡ Some site → IsOther word
    site_other site e =
        let told = site_told parts sizing built.linked.text assembled a site (subst (λ (i : Fields). site_at i a ≡ Some site) built.linked.image_is e) in
        let line = line_stands told.slot.index told.slot.within _ told.slot.line in
        stands_other _ _ line.call told.here (jal_other _ _)

    before_other : (site : SiteRow) → site_before image a ≡ Some site → IsOther word
    before_other site e =
        let told = before_told parts sizing built.linked.text assembled a site (subst (λ (i : Fields). site_before i a ≡ Some site) built.linked.image_is e) in
        let line = line_stands told.slot.index told.slot.within _ told.slot.line in
        stands_other _ _ line.rest told.here (addi_other _ _ _)

    point_other : (point : PointRow) → point_at image a ≡ Some point → IsOther word
    unfolding point_at
    point_other point e =
        let found = found_told (is_in_point a) image.points point e in
        let place = in_slot a point.address found.passes in
        let fits : FitsPoint image point = subst (FitsPoint image) found.here ((basis.laws.typed image built.rules).1.fit.points found.number point found.within) in
        let d : PointerRow = record { length = 0; address = 0 } in
        let index : (point.address + 4 * place.0 - text_start) / 4 ≡ k = (let same = place.2 in omega (arith, same)) in
        let is : word ≡ slice_index (slot_words image.check point.address (slice_index_or image.pointers point.pointer d).address) place.0 =
        sym (get_or_from_slice_get image.text k word 0 there) ∙ ap (slice_index image.text) (sym index) ∙ fits.slot place.0 d place.1 in
        subst IsOther (sym is) (free_others image.check point.address (slice_index_or image.pointers point.pointer d).address place.0)

    -- ---- what shows there

    at_entry_other : (n : ℕ) (values : Option (List ℕ)) → IsOther word → IsOther (at_entry a word (variant_under image n values))
    at_entry_other n values other = by (variant_under image n values)
      where
        by : (v : Option VariantRow) → IsOther (at_entry a word v)
        by None = other
        by (Some v) = other_jump 0 a v.address

    either : (b : Bool) (x y : ℕ) → IsOther x → IsOther y → IsOther (if b then x else y)
    either true x y h k = h
    either false x y h k = k

    at_site_other : (n : ℕ) (values : Option (List ℕ)) → IsOther word → IsOther (at_site a word (variant_under image n values))
    at_site_other n values other = by (variant_under image n values) refl
      where
        by : (v : Option VariantRow) → variant_under image n values ≡ v → IsOther (at_site a word v)
        by None e = other
        by (Some v) e = either (eqb v.inlined 1) (slice_index v.words 0) (jump 1 a v.address) (under_others n values v e).0 (other_jump 1 a v.address)

    after_site_other : (n : ℕ) (values : Option (List ℕ)) → IsOther word → IsOther (after_site a word (variant_under image n values))
    after_site_other n values other = by (variant_under image n values) refl
      where
        by : (v : Option VariantRow) → variant_under image n values ≡ v → IsOther (after_site a word v)
        by None e = other
        by (Some v) e = either (eqb v.inlined 1) (slice_index v.words 1) nop (under_others n values v e).1 other_nop

    at_point_other : (point : PointRow) (values : Option (List ℕ)) → IsOther word → IsOther (at_point image point a word (target_under image values))
    at_point_other point values other = by (target_under image values)
      where
        by : (t : Option TargetRow) → IsOther (at_point image point a word t)
        by None = other
        by (Some t) = bound_others image.check point.address t.entry ((a - point.address) / 4)

    -- where an environment call stands under some bindings, none shows
    no_other : (some other : Bindings) (e : Option ℕ) (s t : Option SiteRow) → entry_at image a ≡ e → site_at image a ≡ s → site_before image a ≡ t →
        decode (word_by image some a word e s t) ≡ Some Ecall → word_by image some a word e s t ≡ word_by image other a word e s t
    no_other some other (Some n) s t he hs ht call = absurd (at_entry_other n (some n) (entry_other n he) call)
    no_other some other None (Some site) t he hs ht call = absurd (at_site_other site.function (some site.function) (site_other site hs) call)
    no_other some other None None (Some site) he hs ht call = absurd (after_site_other site.function (some site.function) (before_other site ht) call)
    no_other some other None None None he hs ht call = refl

    under_plain : (some other : Bindings) → decode (word_under image some a word) ≡ Some Ecall → word_under image some a word ≡ word_under image other a word
    unfolding word_under
    under_plain some other call = by (point_at image a) refl call
      where
        by : (o : Option PointRow) → point_at image a ≡ o → decode (word_through image some a word o) ≡ Some Ecall → word_through image some a word o ≡ word_through image other a word o
        by None e h = no_other some other (entry_at image a) (site_at image a) (site_before image a) refl refl refl h
        by (Some point) e h = absurd (at_point_other point (some (pointer_number image point.pointer)) (point_other point e) h)

    text_is : (bound : Bindings) → slice_get (text_of image bound) k ≡ Some (word_under image bound a word)
    text_is bound =
        let within = slice_get_within image.text k word there in
        let size = text_size image bound in
        let here : slice_index image.text k ≡ word = get_or_from_slice_get image.text k word 0 there in
        slice_get-get_or (text_of image bound) k 0 (omega (arith, within, size)) ∙ ap Some (text_at image bound k within ∙ ap (λ w. word_under image bound a w) here)

  -- so the text under any bindings has it
  plain_under : (one : Bindings) (k word : ℕ) → slice_get (text_of image one) k ≡ Some word → decode word ≡ Some Ecall → (bound : Bindings) → slice_get (text_of image one) k ≡ slice_get (text_of image bound) k
  plain_under one k word there call bound =
      let within = slice_get_within (text_of image one) k word there in
      let size = text_size image one in
      let own = there_at image.text k (omega (arith, within, size)) in
      let here = text_is k own.0 own.1 one in
      let stands : decode (word_under image one (4096 + 4 * k) own.0) ≡ Some Ecall = ap decode (same_Some _ word (sym here ∙ there)) ∙ call in
      here ∙ ap Some (under_plain k own.0 own.1 one bound stands) ∙ sym (text_is k own.0 own.1 bound)

  pub calls_are_plain : CallsArePlain image
  calls_are_plain bs address word there call some other =
      sym (plain_under _ (index_of address) word there call _) ∙ plain_under _ (index_of address) word there call _
