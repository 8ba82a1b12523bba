-- Stubs and codes are placed in the text of a linked image.
use Rattle.std.proofs.Common.{◌≡◌, ℕ, ◌+◌, ◌*◌, ◌-◌, ◌/◌, ◌<◌, ◌≤◌, Bool, true, false, List, [], ◌∷◌, Some, map, length, get_or, slice_get, All, refl, sym, ap, ◌∙◌, subst, arith}
use Rattle.std.proofs.lemmas.List.{length-map, get_or-map}
use Rattle.std.proofs.lemmas.List.Elements.{All-get_or, All-tail, All-from_recursion}
use Rattle.std.proofs.lemmas.List.Sums.{sum_by_more_le}
use Rattle.std.proofs.lemmas.Option.{slice_get_within, get_or_from_slice_get}
use Rattle.mv_isa.specs.declared.instr.Instr.{Instr}
use Rattle.mv_isa.specs.declared.labelled.Labelled.{Labelled}
use Rattle.mv_isa.specs.declared.labelled.Line.{Line}
use Rattle.mv_isa.specs.declared.labelled.Line.TheVariants.{Word, Label, Jump, Branch, Entry, Slot, Point}
use Rattle.mv_isa.specs.Code.{CodeFits, StandsOnce, line_at, text_start}
use Rattle.mv_image.specs.Spelling.{Fields}
use Rattle.mv_select_code.specs.Control.Labels.{OwnLabels, call_label}
use Rattle.mv_select_code.specs.Control.Placed.{Text, Placed}
use Rattle.mv_refine_machine.specs.Assembled.{HasWords, IsOnlyLabel}
use Rattle.mv_refine_machine.specs.MachineRuns.{machine_text}
use Rattle.mv_linker.specs.declared.parts.Parts.{Parts}
use Rattle.mv_linker.specs.Linked.{codes, has_pointers, IsFunction, NamesAreThere, relabelled, start_lines, trap_lines, commit_lines, check_lines, commit_instrs, first_label, label_limit, entry_label, trap_label, check_label, commit_label, trap_index, commit_index, check_index, stub_count}
use Rattle.mv_linker.specs.Laws.{StandFrom}
use Rattle.mv_linker.proofs.Entered.{index_behind}
use Rattle.mv_link_text.specs.Text.{StubsArePlaced, IsPlacedCode}
use Rattle.mv_link_text.proofs.Facts.{Laws}
use Rattle.mv_linker.proofs.LinkedText.{linked_text}
use Rattle.mv_linker.proofs.Lines.{word_size}
use Rattle.mv_link_text.proofs.Codes.{IsAssembled, attributed_begun, behind_first, stands, behind_label, lines_stand, first_line, first_below, ends_before, first_in}
use Rattle.mv_link_text.proofs.Kept.{NotFirst, kept_as}
use Rattle.mv_link_text.proofs.Renamed.{own_place, lines_placed}
use Rattle.mv_linker.proofs.Counting.{own_stays, own_entry, own_is}
use Rattle.mv_linker.proofs.Fits.{within_all}

-- words stand one behind the other
words_size : (text : Text) (place entry : ℕ → ℕ) (instrs : List Instr) (at end : ℕ) → Placed text place entry (map Word instrs) at end → end ≡ at + 4 * length instrs
words_size text place entry [] at end h = omega (arith, h)
words_size text place entry (i ∷ instrs) at end h =
    let mid = h.0 in
    let here : mid ≡ at + 4 = h.1.stands.1 in
    let rest = words_size text place entry instrs mid end h.2 in
    omega (arith, here, rest)

pub has_words : (image : Fields) (words : List ℕ) → image.text ≡ words → HasWords image text_start words
has_words image words text_is k word found =
    let here : k ≡ (text_start - 0x1000) / 4 + k = omega arith in
    subst (λ i. slice_get image.text i ≡ Some word) here (ap (λ (ws : List ℕ). slice_get ws k) text_is ∙ found)

-- the stubs have so many lines, and those of the check stub
stubs_many : (checks : Bool) → 38 ≤ stub_count checks
stubs_many true = omega arith
stubs_many false = omega arith

stubs_with : (checks : Bool) → checks ≡ true → check_index + length check_lines ≤ stub_count checks
stubs_with true e = omega arith
stubs_with false e = absurd (let bad : ⊥ = cc in bad)

module _ (laws : Laws) (parts : Parts) (sizing words : List ℕ) (s : IsAssembled parts sizing words) where
  open linked_text parts sizing words use {lines, at, entry, numbers, image, index}

  abbrev text : Text
  text = machine_text numbers image

  abbrev Never : ℕ → Type 0
  Never = NotFirst parts sizing words s

  abbrev IsHere : List Line → (from to : ℕ) → Type 0
  IsHere part from to = Placed text entry entry part from to

  lines_fit : CodeFits lines
  lines_fit = laws.lines_fit parts s.are

  part_placed : (k : ℕ) (part : List Line) → StandFrom lines k part → ((j : ℕ) → j < length part → Never (k + j)) → ((j : ℕ) → j < length part → IsOnlyLabel lines (line_at part j)) →
      IsHere part (at k) (at (k + length part))
  part_placed k part stand never only =
      laws.code_is_placed numbers image text_start lines sizing words lines_fit s.under (has_words image words refl) k part record {
        within = stand.within;
        each = stand.each;
        kept = λ j lt. let within = stand.within in kept_as parts sizing words s (k + j) (line_at part j) (omega (arith, within, lt)) (stand.each j lt) (never j lt);
        labels = only;
      }

  -- ---- stubs

  abbrev checks : Bool
  checks = has_pointers parts

  stub_never : (k : ℕ) → k < stub_count checks → Never k
  stub_never k below n f is same = omega (arith, below, same)

  module _ (k : ℕ) (part : List Line) (stand : StandFrom lines k part) (few : k + length part ≤ stub_count checks) (only : All (IsOnlyLabel lines) part) where
    stub_placed : IsHere part (at k) (at (k + length part))
    stub_placed = part_placed k part stand (λ j lt. stub_never (k + j) (omega (arith, lt, few))) (λ j lt. All-get_or (IsOnlyLabel lines) part j (Label 0) lt only)

    before_codes : (f : ℕ) → f < length (codes parts) → at (k + length part) ≤ entry f
    before_codes f below = ends_before parts sizing words s (k + length part) f below (omega (arith, few))

  start_only : All (IsOnlyLabel lines) (start_lines parts.main)
  start_only = All-from_recursion (IsOnlyLabel lines) (start_lines parts.main) (tt, (tt, (tt, (tt, (tt, (tt, (tt, (tt, (tt, tt)))))))))

  start_placed : IsHere (start_lines parts.main) (at 0) (at (0 + length (start_lines parts.main)))
  start_placed = stub_placed 0 (start_lines parts.main) (laws.stubs_stand parts s.are).0 (omega (arith, stubs_many checks)) start_only

  abbrev trap_end : ℕ → ℕ
  trap_end c = at (trap_index c + length (trap_lines c))

  module _ (c : ℕ) (from : 1 ≤ c) (to : c ≤ 4) where
    trap_only : All (IsOnlyLabel lines) (trap_lines c)
    trap_only = All-from_recursion (IsOnlyLabel lines) (trap_lines c) (((laws.stubs_stand parts s.are).1 c from to).label, (tt, (tt, (tt, tt))))

    trap_placed : IsHere (trap_lines c) (at (trap_index c)) (trap_end c)
    trap_placed = stub_placed (trap_index c) (trap_lines c) ((laws.stubs_stand parts s.are).1 c from to).stub (omega (arith, to, stubs_many checks)) trap_only

    trap_here : IsHere (trap_lines c) (entry (trap_label c)) (trap_end c)
    trap_here = subst (λ a. IsHere (trap_lines c) a (trap_end c)) (sym trap_placed.1.label) trap_placed

    trap_before : (f : ℕ) → f < length (codes parts) → trap_end c ≤ entry f
    trap_before = before_codes (trap_index c) (trap_lines c) ((laws.stubs_stand parts s.are).1 c from to).stub (omega (arith, to, stubs_many checks)) trap_only

  abbrev commit_end : ℕ
  commit_end = at (commit_index + length commit_lines)

  commit_only : All (IsOnlyLabel lines) commit_lines
  commit_only =
      All-from_recursion (IsOnlyLabel lines) commit_lines
      ((laws.stubs_stand parts s.are).2.label, (tt, (tt, (tt, (tt, (tt, (tt, (tt, (tt, (tt, (tt, (tt, (tt, tt)))))))))))))

  commit_placed : IsHere commit_lines (at commit_index) commit_end
  commit_placed = stub_placed commit_index commit_lines (laws.stubs_stand parts s.are).2.stub (omega (arith, stubs_many checks)) commit_only

  commit_here : IsHere commit_lines (entry commit_label) commit_end
  commit_here = subst (λ a. IsHere commit_lines a commit_end) (sym commit_placed.1.label) commit_placed

  commit_size : commit_end ≡ entry commit_label + 48
  commit_size =
      let mid = commit_here.0 in
      let label : mid ≡ entry commit_label = commit_here.1.stands in
      let size : commit_end ≡ mid + 4 * length commit_instrs = words_size text entry entry commit_instrs mid commit_end commit_here.2 in
      omega (arith, label, size)

  abbrev check_end : ℕ
  check_end = at (check_index + length check_lines)

  module _ (has : checks ≡ true) where
    check_only : All (IsOnlyLabel lines) check_lines
    check_only = All-from_recursion (IsOnlyLabel lines) check_lines (((laws.stubs_stand parts s.are).3 has).label, (tt, (tt, (tt, (tt, (tt, (tt, tt)))))))

    check_placed : IsHere check_lines (at check_index) check_end
    check_placed = stub_placed check_index check_lines ((laws.stubs_stand parts s.are).3 has).stub (stubs_with checks has) check_only

    check_here : IsHere check_lines (entry check_label) check_end
    check_here = subst (λ a. IsHere check_lines a check_end) (sym check_placed.1.label) check_placed

    check_before : (f : ℕ) → f < length (codes parts) → check_end ≤ entry f
    check_before = before_codes check_index check_lines ((laws.stubs_stand parts s.are).3 has).stub (stubs_with checks has) check_only

  pub stubs_are_placed : StubsArePlaced parts image sizing
  stubs_are_placed = record {
    start_ends = at (0 + length (start_lines parts.main));
    start = start_placed;
    trap_ends = trap_end;
    traps = trap_here;
    commit_ends = commit_end;
    commit = commit_here;
    commit_size = commit_size;
    start_before = before_codes 0 (start_lines parts.main) (laws.stubs_stand parts s.are).0 (omega (arith, stubs_many checks)) start_only;
    traps_before = λ c f from to. trap_before c from to f;
    commit_before = before_codes commit_index commit_lines (laws.stubs_stand parts s.are).2.stub (omega (arith, stubs_many checks)) commit_only;
    check_ends = check_end;
    check = check_here;
    check_before = λ f has. check_before has f;
  }

  -- ---- codes

  module _ (f : ℕ) (code : Labelled) (found : slice_get (codes parts) f ≡ Some code) (labels : OwnLabels 0 code.labels code.items) where
    abbrev first : ℕ
    first = first_label (codes parts) f

    abbrev renamed : Line → Line
    renamed = relabelled first code.labels

    within : f < length (codes parts)
    within = slice_get_within (codes parts) f code found

    is_function : IsFunction (length parts.functions) checks code
    is_function =
        subst (IsFunction (length parts.functions) checks) (get_or_from_slice_get (codes parts) f code code found)
        (All-get_or (IsFunction (length parts.functions) checks) (codes parts) f code within s.are.functions)

    few_labels : code.labels < label_limit
    few_labels =
        let size = λ (c : Labelled). c.labels in
        let all = sum_by_more_le size (codes parts) f code within in
        let same = ap size (get_or_from_slice_get (codes parts) f code code found) in
        let limit = s.are.labels in omega (arith, all, same, limit, within)

    few_checked : code.labels ≤ check_label
    few_checked = omega (arith, few_labels)

    -- the entries of functions are where their codes begin
    entry_placed : (g : ℕ) → g < length parts.functions → own_place text entry entry first code.labels (call_label g) ≡ entry g
    entry_placed g below =
        let limit = s.are.labels in
        let few : g < label_limit = omega (arith, below, within_all parts, limit) in
        let same : call_label g ≡ entry_label g = omega (arith, few) in
        ap (own_place text entry entry first code.labels) same ∙ ap entry (own_entry first code.labels g (omega (arith, few_labels)) (omega (arith, few)))

    only_label : (functions : ℕ) (line : Line) → NamesAreThere functions checks code line → IsOnlyLabel lines (renamed line)
    only_label functions (Word i) h = tt
    only_label functions (Label l) h =
        subst (StandsOnce lines) (sym (own_is first code.labels l h))
        ((stands parts sizing words s f code found).own l (h, labels.own l (omega arith) (omega (arith, h))))
    only_label functions (Jump rd l) h = tt
    only_label functions (Branch funct3 rs1 rs2 l) h = tt
    only_label functions (Entry rd g) h = tt
    only_label functions (Slot g) h = tt
    only_label functions (Point a) h = tt

    -- some of its lines stand in text, none of which is the first of an attributed function
    items_placed : (d : ℕ) (items : List Line) → d + length items ≤ length code.items → StandFrom lines (index f + 1 + d) (map renamed items) → All (NamesAreThere (length parts.functions) checks code) items →
        ((j : ℕ) → j < length items → Never (index f + 1 + d + j)) → IsPlacedCode parts image sizing f items (at (index f + 1 + d))
    items_placed d items few stand names never =
        let k = index f + 1 + d in
        let part = map renamed items in
        let count : length part ≡ length items = length-map items renamed in
        let only : (j : ℕ) → j < length part → IsOnlyLabel lines (line_at part j) = λ j lt.
        let below : j < length items = omega (arith, lt, count) in
        subst (IsOnlyLabel lines) (sym (get_or-map renamed items j (Label 0) (Label 0) below))
        (only_label (length parts.functions) (get_or items j (Label 0)) (All-get_or (NamesAreThere (length parts.functions) checks code) items j (Label 0) below names)) in
        record {
          place = own_place text entry entry first code.labels;
          traps = λ c. ap entry (own_stays first code.labels (trap_label c) (omega (arith, few_labels)) (omega arith));
          commit = ap entry (own_stays first code.labels commit_label (omega (arith, few_labels)) (omega arith));
          check = ap entry (own_stays first code.labels check_label few_checked (omega arith));
          entries = entry_placed;
          next = at (k + length part);
          placed = lines_placed text entry entry first code.labels few_checked items (at k) (at (k + length part)) (part_placed k part stand (λ j lt. never j (omega (arith, lt, count))) only);
          before = λ g lt below.
              let behind = index_behind checks (codes parts) f g code found lt (omega (arith, below)) in
              ends_before parts sizing words s (k + length part) g below (omega (arith, behind, count, few));
        }

    -- the first line of an attributed function's code that stands here is that of this one
    never_other : (k : ℕ) → index f + 1 ≤ k → k < index f + 1 + length code.items → (n g : ℕ) → slice_get numbers n ≡ Some g → k ≡ index g + 1 → g ≡ f
    never_other k from below n g is same =
        first_in parts sizing words s g (attributed_begun parts s.tables n g is) f code found (omega (arith, from, same)) (omega (arith, below, same))

    pub plain_placed : ((n : ℕ) → slice_get numbers n ≡ Some f → ⊥) → IsPlacedCode parts image sizing f code.items (entry f)
    plain_placed plain =
        let none : index f + 1 ≡ index f + 1 + 0 = omega arith in
        let here : at (index f + 1 + 0) ≡ entry f = ap at (sym none) ∙ behind_label parts sizing words s f code found in
        subst (IsPlacedCode parts image sizing f code.items) here
        (items_placed 0 code.items (omega arith) (subst (λ k. StandFrom lines k (map renamed code.items)) none (lines_stand parts sizing words s f code found)) is_function.names
        (λ j lt n g is same.
        let other = never_other (index f + 1 + 0 + j) (omega arith) (omega (arith, lt)) n g is same in
        plain n (subst (λ h. slice_get numbers n ≡ Some h) other is)))

    module _ (instr : Instr) (rest : List Line) (items : code.items ≡ Word instr ∷ rest) where
      pub later_placed : IsPlacedCode parts image sizing f rest (entry f + 4)
      later_placed =
          let size = ap length items in
          let here : at (index f + 1 + 1) ≡ entry f + 4 =
          word_size text_start lines sizing s.fits (index f + 1) (first_below parts sizing words s f code found instr rest items) instr
          (first_line parts sizing words s f code found instr rest items) ∙ ap (λ a. a + 4) (behind_label parts sizing words s f code found) in
          let names = subst (All (NamesAreThere (length parts.functions) checks code)) items is_function.names in
          subst (IsPlacedCode parts image sizing f rest) here
          (items_placed 1 rest (omega (arith, size))
          (behind_first lines (index f + 1) (Word instr) (map renamed rest) (subst (λ (ls : List Line). StandFrom lines (index f + 1) (map renamed ls)) items (lines_stand parts sizing words s f code found)))
          (All-tail (NamesAreThere (length parts.functions) checks code) (Word instr) rest names)
          (λ j lt n g is same.
          let other = never_other (index f + 1 + 1 + j) (omega arith) (omega (arith, lt, size)) n g is same in
          let twice : index f + 1 + 1 + j ≡ index f + 1 = subst (λ h. index f + 1 + 1 + j ≡ index h + 1) other same in
          omega (arith, twice)))
