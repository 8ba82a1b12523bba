-- An attributed function stands on the machine with an image that has it in its tables.
use Rattle.std.proofs.Common.{◌≡◌, inr, ℕ, ◌+◌, ◌≤◌, Bool, true, eqb, All, List, [], map, length, Option, Some, None, refl, sym, ap, subst, ◌∙◌, arith, pos, ◌-ℤ◌}
use Rattle.std.specs.Prelude.{slice_get}
use Rattle.std.proofs.lemmas.List.{length-map}
use Rattle.std.proofs.lemmas.List.Quantifiers.{position-Some}
use Rattle.std.proofs.lemmas.Option.{slice_get_within, get_or_from_slice_get}
use Rattle.mv_ast.specs.declared.program.Program.{Program}
use Rattle.mv_ast.specs.declared.program.Function.{Function}
use Rattle.mv_bindings.specs.declared.binding.Binding.{Binding}
use Rattle.mv_ast.specs.Switches.{attributed_functions, attributed_before, switch_domain}
use Rattle.mv_isa.specs.declared.instr.Instr.{Instr}
use Rattle.mv_isa.specs.declared.instr.Instr.TheVariants.{Addi, Jal}
use Rattle.mv_descriptors.specs.declared.rows.FunctionRow.{FunctionRow}
use Rattle.mv_descriptors.specs.declared.rows.PointRow.{PointRow}
use Rattle.mv_isa.specs.declared.labelled.Line.{Line}
use Rattle.mv_isa.specs.declared.labelled.Line.TheVariants.{Word}
use Rattle.mv_isa.specs.Code.{IsPlace, distance, address, label_address}
use Rattle.mv_isa.specs.Standing.{InstrStands, SlotStands, LineStands, word_at}
use Rattle.mv_asm.specs.Outcome.{AreWordsUnder}
use Rattle.mv_image.specs.Patched.{entry_at, point_at, pointer_number}
use Rattle.mv_image.specs.Spelling.{Fields}
use Rattle.mv_ir.specs.Combinations.{IsCombination}
use Rattle.mv_ir_worlds.proofs.Functions.{attributed_at, combination_length}
use Rattle.mv_ir_worlds.specs.Functions.{IsFreeIn, IsBoundIn}
use Rattle.mv_source_forms.specs.WellFormed.{IsWellFormed}
use Rattle.mv_select.specs.Calls.Convention.{Layout}
use Rattle.mv_select.specs.Functions.FunctionCode.{bytes_of}
use Rattle.mv_select.specs.Functions.Functions.{shape_of}
use Rattle.mv_select.specs.Inline.InlineOf.{inline_of}
use Rattle.mv_link_text.proofs.Found.{none_of}
use Rattle.mv_refine_machine.specs.Assembled.{HasWords}
use Rattle.mv_refine_machine.specs.MachineRuns.{machine_text, called_at}
use Rattle.mv_refine_machine.specs.Shown.{FreeFunctionsShow, BoundFunctionsShow}
use Rattle.mv_refine_machine.specs.Under.{words_under}
use Rattle.mv_refine_images.specs.Programs.Hosts.{IsVariant, IsPatched, SlotShows}
use Rattle.mv_refine_images.specs.Tables.Rows.{RowShows}
use Rattle.mv_refine_images.specs.Patched.{HasEntry, HasRow, IsInTables, own_number, PatchedFunctionsStand}

few_values : (p : Program) (f : ℕ) (g : Function) (vs : List ℕ) → IsWellFormed p → slice_get p.functions f ≡ Some g → g.attributed ≡ true → IsCombination (map (switch_domain p) g.switches) vs → length vs ≤ 6
few_values p f g vs formed here is combination =
    let count = combination_length (map (switch_domain p) g.switches) vs combination ∙ length-map g.switches (switch_domain p) in
    omega (arith, count, few (attributed_functions p) (attributed_before p.functions f) (attributed_at p.functions f g here is) formed.limits.own_switches)
  where
    few : (gs : List Function) (n : ℕ) → slice_get gs n ≡ Some g → All (λ (x : Function). length x.switches ≤ 6) gs → length g.switches ≤ 6
    few gs n e h = subst (λ (z : Function). length z.switches ≤ 6) (get_or_from_slice_get gs n g g e) (h n g (slice_get_within gs n g e))

module _ (show_free : FreeFunctionsShow) (show_bound : BoundFunctionsShow) (attributed : List ℕ) (image : Fields) (closed : (pc address : ℕ) → Bool)
    (base : ℕ) (lines : List Line) (sizing words : List ℕ) (are : AreWordsUnder base lines sizing words)
    (has : HasWords image base words) (y : Layout) (p : Program) (numbers : List ℕ) (f : ℕ) (g : Function) (formed : IsWellFormed p) (here : slice_get p.functions f ≡ Some g) (is : g.attributed ≡ true)
    (t : IsInTables attributed image closed base lines sizing y p numbers f g) where
  abbrev n : ℕ
  n = own_number attributed image closed base lines sizing y p numbers f g

  abbrev place : ℕ → ℕ
  place = label_address base lines sizing

  abbrev W : List Binding → ℕ → Option ℕ
  W = words_under image

  abbrev e : HasEntry attributed image closed base lines sizing y p numbers f g (bytes_of (shape_of true t.body))
  e = t.entry

  abbrev instr : Instr
  instr = Addi 2 2 (pos 0 -ℤ pos (bytes_of (shape_of true t.body)))

  -- no word of a pointer site stands at the entry, where the function alone shows
  no_point : point_at image (y.entry f) ≡ None
  unfolding entry_at
  no_point = none_of (point_at image (y.entry f)) never
    where
      line : LineStands (word_at base words) place place (address base sizing e.index) (address base sizing (e.index + 1)) (Word instr)
      line = subst (λ (l : Line). LineStands (word_at base words) place place (address base sizing e.index) (address base sizing (e.index + 1)) l) e.line (are.stands.each e.index e.within)

      never : (point : PointRow) → point_at image (y.entry f) ≡ Some point → ⊥
      never point is =
          let begins = e.at_line in
          let ends = line.1 in
          let same = e.alone (y.entry f) (pointer_number image point.pointer) (omega (arith, begins)) (omega (arith, begins, ends)) e.here.2 (inr (inr (inr (point, is, refl)))) in
          let few = position-Some (λ (row : FunctionRow). eqb row.entry (y.entry f)) image.functions n record { length = 0; entry = 0; variants = 0; count = 0; switches = [] } e.is_entry in
          let within = few.0 in
          omega (arith, same, within)

  entry_free : (bs : List Binding) → IsFreeIn bs n → InstrStands (W bs) (y.entry f) instr
  entry_free bs free =
      subst (λ a. InstrStands (W bs) a instr) e.at_line
      (subst (λ (l : Line). LineStands (W bs) place place (address base sizing e.index) (address base sizing (e.index + 1)) l) e.line
      (show_free image base lines sizing words are has bs n e.index e.within e.alone free)).0

  slot_free : (bs : List Binding) (at : ℕ) → called_at attributed image at ≡ Some f → IsFreeIn bs n → SlotStands (W bs) at (at + 8) (y.entry f)
  slot_free bs at called free =
      let s = t.slots at called in
      subst (λ z. SlotStands (W bs) at (at + 8) z) s.place
      (subst (λ z. SlotStands (W bs) at z (place f)) s.behind
      (subst (λ a. SlotStands (W bs) a (address base sizing (s.index + 1)) (place f)) s.at_line
      (subst (λ (l : Line). LineStands (W bs) place place (address base sizing s.index) (address base sizing (s.index + 1)) l) s.line
      (show_free image base lines sizing words are has bs n s.index s.within s.alone free))))

  module _ (bs : List Binding) (vs : List ℕ) (combination : IsCombination (map (switch_domain p) g.switches) vs) (bound : IsBoundIn bs n vs) where
    abbrev v : IsVariant y (machine_text attributed image) W closed p numbers f g vs
    v = t.variants vs combination

    abbrev r : HasRow attributed image closed base lines sizing y p numbers f g vs v
    r = t.rows vs combination

    few : length vs ≤ 6
    few = few_values p f g vs formed here is combination

    there : IsPlace r.row.address
    there = subst IsPlace (sym r.address_is) v.placed.1.here

    entry_bound : InstrStands (W bs) (y.entry f) (Jal 0 (distance (y.entry f) v.address))
    entry_bound =
        subst (λ a. InstrStands (W bs) (y.entry f) (Jal 0 (distance (y.entry f) a))) r.address_is ((show_bound image bs n vs r.row bound few r.led).0 (y.entry f) e.word e.is_entry no_point e.in_text e.here there)

    slot_bound : (at : ℕ) → called_at attributed image at ≡ Some f → SlotShows y (machine_text attributed image) W closed p numbers f g (W bs) at v.address (inline_of y.place v.body)
    slot_bound at called = by (inline_of y.place v.body) r.shows
      where
        by : (o : Option (Instr × Instr)) → RowShows o r.row → SlotShows y (machine_text attributed image) W closed p numbers f g (W bs) at v.address o
        by None none =
            let s = t.slots at called in
            subst (λ a. SlotStands (W bs) at (at + 8) a) r.address_is ((show_bound image bs n vs r.row bound few r.led).1 at s.site none s.here there)
        by (Some both) h =
            let two = (show_bound image bs n vs r.row bound few r.led).2 at (t.slots at called).site h.0 in
            (record { fields = h.1; word = two.0 ∙ ap Some h.3 }, record { fields = h.2; word = two.1 ∙ ap Some h.4 })

  patched : IsPatched y (machine_text attributed image) W closed p numbers f g
  patched = record {
    body = t.body;
    shorts = t.shorts;
    known = t.known;
    keeps = t.keeps;
    params = t.params;
    reach = t.reach;
    ample = t.ample;
    is_fine = t.is_fine;
    fits = t.fits;
    place = t.place;
    linked = t.linked;
    is_attributed = t.is_attributed;
    next = t.next;
    open_there = t.open_there;
    later = t.later;
    here = e.here;
    variants = t.variants;
    entry_free = entry_free;
    entry_bound = λ bs vs c bound. entry_bound bs vs c bound;
    slot_free = slot_free;
    slot_bound = λ bs at vs c called bound. slot_bound bs vs c bound at called;
    slot_open = t.slot_open;
  }

pub patched_functions_stand : FreeFunctionsShow → BoundFunctionsShow → PatchedFunctionsStand
patched_functions_stand show_free show_bound attributed image closed base lines sizing words are has y p numbers f g formed here is t =
    patched show_free show_bound attributed image closed base lines sizing words are has y p numbers f g formed here is t
