-- The codes of linked parts, each behind the label of its entry.
use Rattle.std.proofs.Common.{◌≡◌, ℕ, zero, suc, ◌+◌, ◌<◌, ◌≤◌, inl, inr, List, ◌∷◌, false, Some, length, map, get_or, slice_get, slice_index, sym, ap, ◌∙◌, subst, arith}
use Rattle.std.proofs.lemmas.Bool.{cases_lt}
use Rattle.std.proofs.lemmas.List.{length-map, get_or-map}
use Rattle.std.proofs.lemmas.Option.{slice_get_within, slice_get-get_or, get_or_from_slice_get}
use Rattle.mv_isa.specs.declared.instr.Instr.{Instr}
use Rattle.mv_isa.specs.declared.labelled.Labelled.{Labelled}
use Rattle.mv_isa.specs.declared.labelled.Line.{Line}
use Rattle.mv_isa.specs.declared.labelled.Line.TheVariants.{Word, Label}
use Rattle.mv_isa.specs.Code.{IsSizing, line_at, text_start}
use Rattle.mv_asm.specs.Outcome.{AreWordsUnder}
use Rattle.mv_linker.specs.declared.parts.Parts.{Parts}
use Rattle.mv_linker.specs.declared.parts.PartFunction.{PartFunction}
use Rattle.mv_linker.specs.Linked.{codes, relabelled, linked_lines, has_pointers, first_label, AreParts}
use Rattle.mv_linker.specs.Tables.{attributed_numbers, is_slot, is_point, BeginsWithWords, FitsPartFunction, FitTables}
use Rattle.mv_linker.specs.Laws.{StandFrom, FunctionStands}
use Rattle.mv_linker.proofs.Entered as entered
use Rattle.mv_linker.proofs.Entered.{index_behind, has_line}
use Rattle.mv_linker.proofs.Places.{function_law}
use Rattle.mv_linker.proofs.Tabled.{function_code, no_code, no_function}
use Rattle.mv_linker.proofs.LinkedText.{linked_text}
use Rattle.mv_linker.proofs.Lines.{IsOf, begins as line_begins, at_later}

-- ---- numbers of attributed functions

-- numbers each of which is below the next
ascends : (ns : List ℕ) → ((i : ℕ) → i + 1 < length ns → slice_index ns i < slice_index ns (i + 1)) → (i j : ℕ) → i < j → j < length ns → slice_index ns i < slice_index ns j
ascends ns next i zero lt below = absurd (omega (arith, lt))
ascends ns next i (suc j) lt below =
    let more : j + 1 ≡ suc j = omega arith in
    let last : slice_index ns j < slice_index ns (suc j) = subst (λ k. slice_index ns j < slice_index ns k) more (next j (omega (arith, below))) in
    elim (cases_lt i j) [
      | inl before ↦ omega (arith, last, ascends ns next i j before (omega (arith, below)))
      | inr not_before ↦ let same : j ≡ i = omega (arith, lt, not_before) in subst (λ k. slice_index ns k < slice_index ns (suc j)) same last
    ]

-- lines that stand from an index on, but for the first
pub behind_first : (lines : List Line) (k : ℕ) (line : Line) (part : List Line) → StandFrom lines k (line ∷ part) → StandFrom lines (k + 1) part
behind_first lines k line part stand = let within = stand.within in record {
  within = omega (arith, within);
  each = λ j lt. let next : k + 1 + j ≡ k + suc j = omega arith in ap (line_at lines) next ∙ stand.each (suc j) (omega (arith, lt));
}

-- parts are assembled to words under a sizing
pub record IsAssembled (parts : Parts) (sizing words : List ℕ) : Type 0 where
  pub are : AreParts parts
  pub tables : FitTables parts
  pub fits : IsSizing (linked_lines parts) sizing
  pub under : AreWordsUnder text_start (linked_lines parts) sizing words

-- a code that begins with words
pub record IsBegun (parts : Parts) (f : ℕ) : Type 0 where
  pub code : Labelled
  pub found : slice_get (codes parts) f ≡ Some code
  pub begins : BeginsWithWords code

module _ (parts : Parts) (tables : FitTables parts) where
  abbrev numbers : List ℕ
  numbers = attributed_numbers parts.attributed

  count_is : length numbers ≡ length parts.attributed
  count_is = length-map parts.attributed (λ (a : PartFunction). a.function)

  -- the attributed function with a number
  abbrev pub own : ℕ → PartFunction
  own n = get_or parts.attributed n no_function

  pub number_is : (n : ℕ) → n < length parts.attributed → slice_get numbers n ≡ Some (own n).function
  number_is n below = slice_get-get_or numbers n 0 (omega (arith, below, count_is)) ∙ ap Some (get_or-map (λ (a : PartFunction). a.function) parts.attributed n no_function 0 below)

  module _ (n f : ℕ) (is : slice_get numbers n ≡ Some f) where
    pub number_within : n < length parts.attributed
    number_within = let within = slice_get_within numbers n f is in omega (arith, within, count_is)

    pub own_is : (own n).function ≡ f
    own_is = let same : Some (own n).function ≡ Some f = sym (number_is n number_within) ∙ is in cc

    own_fits : FitsPartFunction parts (own n)
    own_fits = tables.functions n no_function number_within

    pub attributed_within : f < length parts.functions
    attributed_within = omega (arith, own_fits.there, own_is)

    pub attributed_begun : IsBegun parts f
    attributed_begun =
        let there = slice_get-get_or parts.functions f no_code attributed_within in
        record {
          code = get_or parts.functions f no_code;
          found = function_code parts f (get_or parts.functions f no_code) there;
          begins = own_fits.begins (get_or parts.functions f no_code) (ap (slice_get parts.functions) own_is ∙ there);
        }

  -- no two numbers are of one function
  pub one_number : (n m f : ℕ) → slice_get numbers n ≡ Some f → slice_get numbers m ≡ Some f → n ≡ m
  one_number n m f e d =
      let here = get_or_from_slice_get numbers n f 0 e in
      let there = get_or_from_slice_get numbers m f 0 d in
      let each = ascends numbers (λ i below. tables.ascend i (omega (arith, below, count_is))) in
      elim (cases_lt n m) [
        | inl lt ↦ absurd (let less = each n m lt (slice_get_within numbers m f d) in omega (arith, less, here, there))
        | inr ge ↦ elim (cases_lt m n) [
          | inl lt ↦ absurd (let less = each m n lt (slice_get_within numbers n f e) in omega (arith, less, here, there))
          | inr ge' ↦ omega (arith, ge, ge')
        ]
      ]

-- ---- where codes stand

module _ (parts : Parts) (sizing words : List ℕ) (s : IsAssembled parts sizing words) where
  open linked_text parts sizing words use {lines, at, all, entry, index}

  module _ (f : ℕ) (code : Labelled) (found : slice_get all f ≡ Some code) where
    pub stands : FunctionStands lines (has_pointers parts) all f code
    stands = function_law parts s.are f code found

    pub entry_is : entry f ≡ at (index f)
    entry_is = entered.entry_is parts s.are sizing words s.fits s.under f code found

    -- behind its label the code goes on where the label is
    pub behind_label : at (index f + 1) ≡ entry f
    behind_label = entered.at_same parts s.are sizing words s.fits s.under f code found ∙ sym entry_is

    -- the lines behind its label
    pub lines_stand : StandFrom lines (index f + 1) (map (relabelled (first_label all f) code.labels) code.items)
    lines_stand = behind_first lines (index f) (Label f) (map (relabelled (first_label all f) code.labels) code.items) stands.part

    -- code that begins with an instruction
    module _ (instr : Instr) (rest : List Line) (items : code.items ≡ Word instr ∷ rest) where
      pub first_line : line_at lines (index f + 1) ≡ Word instr
      first_line =
          let count = length-map code.items (relabelled (first_label all f) code.labels) in
          let size = ap length items in
          let same : index f + 1 + 0 ≡ index f + 1 = omega arith in
          ap (line_at lines) (sym same) ∙ lines_stand.each 0 (omega (arith, count, size)) ∙ ap (λ (ls : List Line). line_at (map (relabelled (first_label all f) code.labels) ls) 0) items

      pub first_below : index f + 1 < length lines
      first_below =
          let count = length-map code.items (relabelled (first_label all f) code.labels) in
          let size = ap length items in
          let most = lines_stand.within in omega (arith, count, size, most)

  pub entry_there : (g : ℕ) → g < length all → entry g ≡ at (index g)
  entry_there g below = entry_is g (get_or all g no_code) (slice_get-get_or all g no_code below)

  -- what ends before the lines of a code ends before its entry
  pub ends_before : (k g : ℕ) → g < length all → k ≤ index g → at k ≤ entry g
  ends_before k g below le = let later = at_later text_start lines sizing k (index g) le in omega (arith, later, entry_there g below)

  -- the first line of a code that begins with words
  module _ (f : ℕ) (b : IsBegun parts f) where
    pub first_within : index f + 1 < length lines
    first_within = entered.first_within parts s.are sizing words s.fits s.under f b.code b.found b.begins

    pub first_no_slot : is_slot (line_at lines (index f + 1)) ≡ false
    first_no_slot = entered.first_no_slot parts s.are sizing words s.fits s.under f b.code b.found b.begins

    pub first_no_point : is_point (line_at lines (index f + 1)) ≡ false
    first_no_point = entered.first_no_point parts s.are sizing words s.fits s.under f b.code b.found b.begins

    -- the entry is an address of it
    pub entry_of : IsOf text_start lines sizing (index f + 1) (entry f)
    entry_of =
        subst (IsOf text_start lines sizing (index f + 1)) (behind_label f b.code b.found)
        (line_begins text_start lines sizing s.fits (index f + 1) first_within (entered.first_some parts s.are sizing words s.fits s.under f b.code b.found b.begins))

    -- and stands in the lines of no other code
    pub first_in : (g : ℕ) (code : Labelled) → slice_get all g ≡ Some code → index g ≤ index f + 1 → index f + 1 < index g + 1 + length code.items → f ≡ g
    first_in g code found from below =
        elim (cases_lt f g) [
          | inl lt ↦ absurd (let behind = index_behind (has_pointers parts) all f g b.code b.found lt (let w = slice_get_within all g code found in omega (arith, w)) in omega (arith, behind, has_line b.code.items b.begins.some, from))
          | inr ge ↦ elim (cases_lt g f) [
            | inl lt ↦ absurd (let behind = index_behind (has_pointers parts) all g f code found lt (let w = slice_get_within all f b.code b.found in omega (arith, w)) in omega (arith, behind, below))
            | inr ge' ↦ omega (arith, ge, ge')
          ]
        ]
