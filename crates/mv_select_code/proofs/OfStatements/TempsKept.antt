-- A temporary's new value, from the register where it was computed.
use Rattle.std.proofs.Common.{◌≡◌, ◌≢◌, inr, ⊎_elim, ℕ, ◌<◌, ◌^◌, List, pos, Option, Some, None, unwrap_or, refl, sym, ap, ◌∙◌, arith}
use Rattle.std.proofs.lemmas.Bool.{cases_eq}
use Rattle.mv_num.specs.Words.{word_of, add}
use Rattle.mv_isa.specs.declared.instr.Instr.TheVariants.{Sw}
use Rattle.mv_isa.specs.declared.labelled.Line.{Line}
use Rattle.mv_isa.specs.Execution.{Access, reg, put}
use Rattle.mv_ir.specs.World as ir
use Rattle.mv_ir.specs.Outcome.{State}
use Rattle.mv_ir.specs.Meaning.{with_temp}
use Rattle.mv_select_code.specs.Trees.TreeCode.{Seats, temp_offset}
use Rattle.mv_select_code.specs.Trees.View.{AreRegisters, AreSeats}
use Rattle.mv_select_code.proofs.OfTrees.Registers.{IsFree, free_above, seat_free, put_same, put_other, put_registers}
use Rattle.mv_select_code.proofs.OfTrees.Words.{add_word}
use Rattle.mv_select_code.specs.Statements.StatementCode.{first, target, keep_in, keep_lines}
use Rattle.mv_select_code.specs.Statements.Leads.{Past, Leads}
use Rattle.mv_select_code.specs.Statements.Frames.{Site, TempCell, address, IsFit, Shows}
use Rattle.mv_select_code.proofs.OfStatements.FrameChanges.{IsAside, updates_temp, frame_aside, frame_register}
use Rattle.mv_select_code.proofs.OfStatements.TreesFirst.{add_small, cell_written}
use Rattle.mv_select_code.proofs.OfStatements.Walks.{leads_one}

pub target_free : (s : Seats) → AreSeats s → (t : ℕ) → IsFree (target s t)
unfolding target
target_free s seats t = by_place (s.register t) refl
  where
    by_place : (place : Option ℕ) → s.register t ≡ place → IsFree (unwrap_or place first)
    by_place (Some q) is = seat_free s seats t q is
    by_place None is = free_above first (omega arith) (omega arith)

-- of the registers that aren't scratch only d may have changed
abbrev pub ChangesOne : ℕ → List ℕ → List ℕ → Type 0
ChangesOne d a b = (q : ℕ) → IsAside q → q ≢ d → reg b q ≡ reg a q

module _ {M : Type 0} (access : Access M) (s : Site) (setting : ir.Setting) (frame : ir.Frame) (fit : IsFit s access setting frame) where
  -- lines keep a temporary's new value
  pub record Keeps (lines : List Line) (t v : ℕ) (l : State) (regs : List ℕ) (m : M) : Type 0 where
    pub after : List ℕ
    pub memory : M
    pub leads : Leads access s lines 1 regs m Past after memory
    pub shown : Shows s access (with_temp l t v) after memory

  -- a value that was computed in the temporary's own register
  pub seat_shown : (t d v : ℕ) (l : State) (a b : List ℕ) (m : M) → t < s.temps → s.seats.register t ≡ Some d → v < 2 ^ 32 → AreRegisters b → ChangesOne d a b → reg b d ≡ v → Shows s access l a m
      → Shows s access (with_temp l t v) b m
  seat_shown t d v l a b m lt is w are others holds f = frame_aside s access fit.left fit.seats (with_temp l t v) (put mid d v) b m are (λ q k. back q) new
    where
      free : IsFree d
      free = seat_free s.seats fit.seats t d is

      -- with the old value still there
      mid : List ℕ
      mid = put b d (reg a d)

      mid_are : AreRegisters mid
      mid_are = put_registers b d (reg a d) are free (f.are.words d)

      old : Shows s access l mid m
      old = frame_aside s access fit.left fit.seats l a mid m mid_are (λ q k. ⊎_elim (same q) (λ (ne : q ≡ d → ⊥). put_other b d q (reg a d) free.above ne ∙ others q k ne) (cases_eq q d)) f
        where
          same : (q : ℕ) → q ≡ d → reg mid q ≡ reg a q
          same q e = ap (reg mid) e ∙ put_same b d (reg a d) free.above (omega (arith, are.count, free.below)) ∙ sym (ap (reg a) e)

      new : Shows s access (with_temp l t v) (put mid d v) m
      new = frame_register s access fit.left fit.seats l mid m t d v lt is w old

      back : (q : ℕ) → reg b q ≡ reg (put mid d v) q
      back q = ⊎_elim same (λ (ne : q ≡ d → ⊥). sym (put_other mid d q v free.above ne ∙ put_other b d q (reg a d) free.above ne)) (cases_eq q d)
        where
          same : q ≡ d → reg b q ≡ reg (put mid d v) q
          same e = ap (reg b) e ∙ holds ∙ sym (ap (reg (put mid d v)) e ∙ put_same mid d v free.above (omega (arith, mid_are.count, free.below)))

  kept_in_frame : (t v : ℕ) (l : State) (a b : List ℕ) (m : M) → t < s.temps → s.seats.register t ≡ None → v < 2 ^ 32 → AreRegisters b → ChangesOne first a b → reg b first ≡ v → Shows s access l a m
      → Keeps (keep_in None t) t v l b m
  kept_in_frame t v l a b m lt is w are others holds f =
      let shown = frame_aside s access fit.left fit.seats l a b m are (λ q k. others q k (λ e. k (inr (omega arith, omega arith)))) f in
      let store = Sw 2 first (pos (temp_offset t)) in
      let at : add (reg b 2) (word_of (pos (temp_offset t))) ≡ address s (TempCell t) =
      add_word (reg b 2) (temp_offset t) ∙ ap (λ z. add z (temp_offset t)) (shown.left 2 fit.left.stack) ∙ add_small (s.register 2) (temp_offset t) (fit.addresses (TempCell t) (is, lt)) in
      let g = cell_written access s setting frame fit 2 first (pos (temp_offset t)) (TempCell t) v l (with_temp l t v) b m at holds w tt (is, lt) (updates_temp s l t v (omega (arith, lt, f.count)) is) shown in
      record { after = g.after; memory = g.memory; leads = leads_one access s store b m g.after g.memory g.moves; shown = g.shown }

  pub temp_kept : (t v : ℕ) (l : State) (a b : List ℕ) (m : M) → t < s.temps → v < 2 ^ 32 → AreRegisters b → ChangesOne (target s.seats t) a b → reg b (target s.seats t) ≡ v → Shows s access l a m
      → Keeps (keep_lines s.seats t) t v l b m
  unfolding target keep_lines
  temp_kept t v l a b m lt w are others holds f = by_place (s.seats.register t) refl others holds
    where
      by_place : (place : Option ℕ) → s.seats.register t ≡ place → ChangesOne (unwrap_or place first) a b → reg b (unwrap_or place first) ≡ v → Keeps (keep_in place t) t v l b m
      by_place (Some d) is o h = record { after = b; memory = m; leads = (refl, (refl, refl)); shown = seat_shown t d v l a b m lt is w are o h f }
      by_place None is o h = kept_in_frame t v l a b m lt is w are o h f
