-- A slot of four words of the linked lines is a line of a code.
use Rattle.std.proofs.Common.{◌≡◌, ℕ, zero, suc, ◌+◌, ◌-◌, ◌<◌, ◌≤◌, ◌⊎◌, inl, inr, Bool, true, false, List, [], ◌∷◌, ◌++◌, Some, length, map, take, slice_get, All, refl, sym, ap, ◌∙◌, arith}
use Rattle.std.proofs.lemmas.Bool.{cases_lt}
use Rattle.std.proofs.lemmas.List.{length-map, get_or-map, get_or-append-add, get_or_append_left, get_or_past}
use Rattle.std.proofs.lemmas.List.Elements.{All-get_or, All-from_recursion}
use Rattle.std.proofs.lemmas.Option.{slice_get-get_or}
use Rattle.mv_isa.specs.declared.labelled.Labelled.{Labelled}
use Rattle.mv_isa.specs.declared.labelled.Line.{Line}
use Rattle.mv_isa.specs.declared.labelled.Line.TheVariants.{Word, Label, Jump, Branch, Entry, Slot, Point}
use Rattle.mv_isa.specs.Code.{line_at, text_start}
use Rattle.mv_image.specs.Spelling.{Fields}
use Rattle.mv_linker.specs.declared.parts.Parts.{Parts}
use Rattle.mv_linker.specs.Linked.{relabelled, start_lines, trap_lines, commit_lines, check_lines, stub_lines, has_pointers, function_part, function_parts, line_count}
use Rattle.mv_linker.specs.Tables.{is_point}
use Rattle.mv_linker.proofs.Fits.{stubs_all}
use Rattle.mv_linker.proofs.Joining.{line_count_more, stub_length}
use Rattle.mv_linker.proofs.LinkedText.{linked_text}
use Rattle.mv_linker.proofs.Entered.{index_behind}
use Rattle.mv_linker.proofs.Lines.{at_later, point_size}
use Rattle.mv_link_text.specs.Text.{IsInCode}
use Rattle.mv_link_text.proofs.Codes.{IsAssembled, behind_label, ends_before}

-- renaming makes no slot of four words
renamed_point : (first count : ℕ) (x : Line) (a : ℕ) → relabelled first count x ≡ Point a → x ≡ Point a
renamed_point first count (Word i) a e = absurd (let bad : ⊥ = cc in bad)
renamed_point first count (Label l) a e = absurd (let bad : ⊥ = cc in bad)
renamed_point first count (Jump rd l) a e = absurd (let bad : ⊥ = cc in bad)
renamed_point first count (Branch funct3 rs1 rs2 l) a e = absurd (let bad : ⊥ = cc in bad)
renamed_point first count (Entry rd f) a e = absurd (let bad : ⊥ = cc in bad)
renamed_point first count (Slot f) a e = absurd (let bad : ⊥ = cc in bad)
renamed_point first count (Point b) a e = e

-- an index of the lines of some codes is that of a slot of four words in one of them
pub record IsItem (all : List Labelled) (k a : ℕ) : Type 0 where
  pub function : ℕ
  pub code : Labelled
  pub found : slice_get all function ≡ Some code
  pub item : ℕ
  pub below : item < length code.items
  pub line : slice_get code.items item ≡ Some (Point a)
  pub index : k ≡ line_count (take function all) + 1 + item

-- a line that isn't there is a label
beyond : (ls : List Line) (k a : ℕ) → line_at ls k ≡ Point a → k < length ls
beyond ls k a e =
    elim (cases_lt k (length ls)) [
      | inl lt ↦ lt
      | inr past ↦ absurd (let bad : Label 0 ≡ Point a = sym (get_or_past ls k (Label 0) past) ∙ e in cc)
    ]

item_of : (first count : ℕ) (items : List Line) (i a : ℕ) → line_at (map (relabelled first count) items) i ≡ Point a → (i < length items) × (slice_get items i ≡ Some (Point a))
item_of first count items i a e =
    let below : i < length items = omega (arith, beyond (map (relabelled first count) items) i a e, length-map items (relabelled first count)) in
    let here = renamed_point first count (line_at items i) a (sym (get_or-map (relabelled first count) items i (Label 0) (Label 0) below) ∙ e) in
    (below, slice_get-get_or items i (Label 0) below ∙ ap Some here)

part_item : (f first : ℕ) (x : Labelled) (xs : List Labelled) (k a : ℕ) → line_at (function_part f first x) k ≡ Point a → IsItem (x ∷ xs) k a
part_item f first x xs zero a e = absurd (let bad : ⊥ = cc in bad)
part_item f first x xs (suc k) a e =
    let own = item_of first x.labels x.items k a e in
    record { function = 0; code = x; found = refl; item = k; below = own.0; line = own.1; index = omega arith }

parts_item : (f first : ℕ) (xs : List Labelled) (k a : ℕ) → line_at (function_parts f first xs) k ≡ Point a → IsItem xs k a
parts_item f first [] k a e = absurd (let bad : ⊥ = cc in bad)
parts_item f first (x ∷ xs) k a e = by (λ j h. parts_item (f + 1) (first + x.labels) xs j a h) (cases_lt k (length part))
  where
    part : List Line
    part = function_part f first x

    rest : List Line
    rest = function_parts (f + 1) (first + x.labels) xs

    size : length part ≡ 1 + length x.items
    size = let count = length-map x.items (relabelled first x.labels) in omega (arith, count)

    by : ((j : ℕ) → line_at rest j ≡ Point a → IsItem xs j a) → (k < length part) ⊎ (length part ≤ k) → IsItem (x ∷ xs) k a
    by more (inl lt) = part_item f first x xs k a (sym (get_or_append_left part rest (Label 0) k lt) ∙ e)
    by more (inr ge) =
        let j = k - length part in
        let here : length part + j ≡ k = omega (arith, ge) in
        let there : line_at rest j ≡ Point a = sym (get_or-append-add part rest j (Label 0)) ∙ ap (line_at (part ++ rest)) here ∙ e in
        let own = more j there in
        record {
          function = suc own.function;
          code = own.code;
          found = own.found;
          item = own.item;
          below = own.below;
          line = own.line;
          index = omega (arith, here, size, own.index, line_count_more x (take own.function xs));
        }

-- no line of the stubs is one

abbrev IsOther : Line → Type 0
IsOther x = is_point x ≡ false

stubs_other : (main : ℕ) (checks : Bool) → All IsOther (stub_lines main checks)
stubs_other main =
    stubs_all IsOther main
    (All-from_recursion IsOther (start_lines main) (refl, (refl, (refl, (refl, (refl, (refl, (refl, (refl, (refl, tt))))))))))
    (λ c le. All-from_recursion IsOther (trap_lines c) (refl, (refl, (refl, (refl, tt)))))
    (All-from_recursion IsOther commit_lines (refl, (refl, (refl, (refl, (refl, (refl, (refl, (refl, (refl, (refl, (refl, (refl, (refl, tt))))))))))))))
    (All-from_recursion IsOther check_lines (refl, (refl, (refl, (refl, (refl, (refl, (refl, tt))))))))

module _ (parts : Parts) (sizing words : List ℕ) (s : IsAssembled parts sizing words) where
  open linked_text parts sizing words use {lines, at, all, index}

  abbrev stubs : List Line
  stubs = stub_lines parts.main (has_pointers parts)

  -- a slot of four words of the linked lines is that of a code
  pub record IsOfCode (k a : ℕ) : Type 0 where
    pub own : IsItem all (k - length stubs) a
    pub index_is : k ≡ index own.function + 1 + own.item

  of_code : (k a : ℕ) → line_at lines k ≡ Point a → IsOfCode k a
  of_code k a e = by (cases_lt k (length stubs))
    where
      rest : List Line
      rest = function_parts 0 (length all) all

      by : (k < length stubs) ⊎ (length stubs ≤ k) → IsOfCode k a
      by (inl lt) =
          let plain = All-get_or IsOther stubs k (Label 0) lt (stubs_other parts.main (has_pointers parts)) in
          let bad : false ≡ true = sym plain ∙ ap is_point (sym (get_or_append_left stubs rest (Label 0) k lt) ∙ e) in absurd cc
      by (inr ge) =
          let j = k - length stubs in
          let here : length stubs + j ≡ k = omega (arith, ge) in
          let own = parts_item 0 (length all) all j a (sym (get_or-append-add stubs rest j (Label 0)) ∙ ap (line_at lines) here ∙ e) in
          record { own = own; index_is = omega (arith, here, own.index, stub_length parts.main (has_pointers parts)) }

  pub in_code : (image : Fields) (k a : ℕ) → k < length lines → line_at lines k ≡ Point a → IsInCode parts image sizing a (at k)
  in_code image k a below line =
      let of = of_code k a line in
      let own = of.own in
      let f = own.function in
      let place = of.index_is in
      record {
        function = f;
        code = own.code;
        found = own.found;
        item = own.item;
        line = own.line;
        from = let later = at_later text_start lines sizing (index f + 1) k (omega (arith, place)) in omega (arith, later, behind_label parts sizing words s f own.code own.found);
        before = λ g lt few.
            let behind = index_behind (has_pointers parts) all f g own.code own.found lt (omega (arith, few)) in
            let size = point_size text_start lines sizing s.fits k below a line in
            let ends = ends_before parts sizing words s (k + 1) g few (omega (arith, behind, place, own.below)) in
            omega (arith, ends, size);
      }
