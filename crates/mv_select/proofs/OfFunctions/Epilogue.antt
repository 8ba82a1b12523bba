-- The epilogue as a whole: what it sets back.
use Rattle.std.proofs.Common.{◌≡◌, ◌≢◌, inl, inr, ⊎_elim, ℕ, zero, suc, ◌+◌, ◌-◌, ◌*◌, ◌^◌, ◌<◌, ◌≤◌, ◌⊎◌, Bool, true, List, ◌++◌, pos, unwrap_or, Some, sym, ap, ◌∙◌, subst, arith}
use Rattle.std.proofs.lemmas.Bool.{cases_lt}
use Rattle.mv_isa.specs.declared.instr.Instr.TheVariants.{Addi, Jalr}
use Rattle.mv_isa.specs.Execution.{Access, reg, put}
use Rattle.mv_isa.specs.Registers.{a0, ra as link_register, s11 as left_register, s10 as live_register}
use Rattle.mv_ir.specs.declared.body.Body.{Body}
use Rattle.mv_ir.specs.World.{World}
use Rattle.mv_ir.specs.Outcome.{State}
use Rattle.mv_select_code.specs.Trees.TreeCode.{two, temp_register}
use Rattle.mv_select_code.specs.declared.trees.places.Keeping.{Keeping}
use Rattle.mv_select_code.proofs.OfTrees.Registers.{free_low, put_same, put_other, put_registers}
use Rattle.mv_select_code.specs.Statements.Frames.{Kept, Shows, Reach}
use Rattle.mv_select_code.proofs.OfTrees.KeepingSeats.{temp_register_above, temp_register_zero}
use Rattle.mv_select.proofs.OfFunctions.Seats.{saves, register_low, register_high, one_register, rest_left, behind_left, stack_left, first_small, counted_seats, saved_few, not_saved, link_cases, moving_few, moving_saved}
use Rattle.mv_select.specs.Functions.Pins.{first_pin, pins_of}
use Rattle.mv_select.proofs.OfFunctions.Pins.{first_past, pins_below, pins_above, pins_off_rest}
use Rattle.mv_select.proofs.OfFunctions.Entered.{Unwound}
use Rattle.mv_select_code.specs.Control.Runs.{Machine, outside}
use Rattle.mv_select_code.proofs.OfControl.Walk.{placed_split}
use Rattle.mv_select.specs.Calls.Convention.{Layout, IsTarget, IsSaved, IsAbove}
use Rattle.mv_select.specs.Functions.FunctionCode.{seated_of, bytes_of, is_left_by, saved_seats, first_saved, saved_count, saved_register, restore_lines, leave_lines, epilogue_lines}
use Rattle.mv_select.specs.Functions.Functions.{IsStack, IsLaid, IsMemory, IsAmple, RunsWithin}
use Rattle.mv_select.proofs.OfFunctions.Entry.{sp_apart, Restores, restore_walk}
use Rattle.mv_select.proofs.OfFunctions.EntryShown.{Here, word_at, loaded}
use Rattle.mv_select.proofs.OfFunctions.Frame.{shape_at, lowered_saves, saved_end, end_saves, IsFrame, kept_low, kept_high, room_for_saved}
use Rattle.mv_select.proofs.OfFunctions.FrameWords.{frame_course}
use Rattle.mv_select.proofs.OfFunctions.Prologue.{Prepared, saved_words}
use Rattle.mv_select.proofs.OfFunctions.Steps.{Counted, up, leave_walk, back}

-- a register that is set back is sp, that of one of the first nine temporaries, s10 or s11
as_temp : (q : ℕ) → (18 ≤ q) × (q < 26) → (t : ℕ) × (t < 9) × (q ≡ temp_register t)
as_temp q h = let low = h.0 in let high = h.1 in (q - 17, omega (arith, low, high), sym (temp_register_above (q - 17) (omega (arith, low)) ∙ omega (arith, low)))

pub saved_cases : (q : ℕ) → IsSaved q → (q ≡ 2) ⊎ (((t : ℕ) × (t < 9) × (q ≡ temp_register t)) ⊎ ((q ≡ live_register) ⊎ (q ≡ left_register)))
saved_cases q (inl h) = inl h
saved_cases q (inr (inl h)) = inr (inl (0, omega arith, h ∙ sym temp_register_zero))
saved_cases q (inr (inr h)) = ⊎_elim
    (λ (low : q < 26). inr (inl (as_temp q (h.0, low))))
    (λ (high : 26 ≤ q). let below = h.1 in ⊎_elim (λ (e : q < 27). inr (inr (inl (omega (arith, high, e))))) (λ (e : 27 ≤ q). inr (inr (inr (omega (arith, below, e))))) (cases_lt q 27))
    (cases_lt q 26)

-- a0, s10 and s11 aren't saved
first_apart : (j : ℕ) → a0 ≢ saved_register j
first_apart zero e = omega (arith, e)
first_apart (suc zero) e = omega (arith, e, temp_register_zero)
first_apart (suc (suc t)) e = omega (arith, e, temp_register_above (suc t) (omega arith))

link_apart : (j : ℕ) → 0 < j → 1 ≢ saved_register j
link_apart zero lt e = omega (arith, lt)
link_apart (suc t) lt e = omega (arith, e, register_low t)

high_apart : (q j : ℕ) → 26 ≤ q → j < 10 → q ≢ saved_register j
high_apart q zero le lt e = omega (arith, le, e)
high_apart q (suc t) le lt e = omega (arith, le, e, register_high t (omega (arith, lt)))

module _ {M : Type 0} (access : Access M) (y : Layout) (laid : IsLaid y) (machine : Machine M) (memory : IsMemory access y machine)
    (reach : Reach) (ample : IsAmple y reach) (runs : RunsWithin access y machine reach) (budget far : ℕ) (place : ℕ → ℕ) (attributed : Bool) (k : Keeping) (saved : saves k ≡ true) (body : Body) where
  open frame_course access y laid machine memory reach ample runs budget far place use {of.{Placed as Ps}, Stands as Ws}

  abbrev bytes : ℕ
  bytes = bytes_of (shape_at attributed k body)

  abbrev seated : ℕ
  seated = seated_of (shape_at attributed k body)

  abbrev first : ℕ
  first = first_saved k

  abbrev count : ℕ
  count = saved_count k (seated_of (shape_at attributed k body))

  module _ (args : List ℕ) (live sp caller : ℕ) (before : List ℕ) (m0 : M) (w0 : World) (next0 i0 : ℕ)
      (p : Prepared access y laid machine memory reach ample runs budget far place (shape_at attributed k body) args live sp before m0 w0 next0 i0)
      (is : IsFrame y (shape_at attributed k body) (reg p.regs 2) caller) (calm : machine.is_calm (outside w0) p.mem ≡ true) where
    module _ (w : World) (l : State) (regs : List ℕ) (m : M)
        (f : Shows (Here access y laid machine memory budget far reach attributed k body (outside w0) p.regs p.mem caller is calm) access l regs m) where
      -- the saved registers are still in the frame
      still_saved : (j : ℕ) → j < saved_count k (seated_of (shape_at attributed k body)) → access.load m (sp + 4 * (first_saved k + j)) 4 ≡ Some (reg before (saved_register (first_saved k + j)))
      still_saved j lt =
          let few : first + j < 10 = omega (arith, lt, saved_few k seated) in
          let at : reg p.regs 2 + 4 * (first + j) ≡ sp + 4 * (first + j) = ap (λ z. z + 4 * (first + j)) p.sp_is in
          let stack = saved_words y (shape_at attributed k body) saved (reg p.regs 2) caller is (first + j) few in
          let end = end_saves k (reg p.regs 2) saved in
          let kept = kept_low (reg p.regs 2) (saved_end k (reg p.regs 2)) caller y.top (reg p.regs 2 + 4 * (first + j)) stack.2 (omega arith) (omega (arith, few, end)) in
          let held : access.load m (sp + 4 * (first + j)) 4 ≡ Some (word_at access p.mem (sp + 4 * (first + j))) =
          subst (λ b. access.load m b 4 ≡ Some (word_at access p.mem b)) at (f.in_memory (Kept (reg p.regs 2 + 4 * (first + j))) kept) in
          held ∙ ap Some (ap (λ o. unwrap_or o 0) (p.saved j lt))

      whole : reg p.regs 2 + bytes_of (shape_at attributed k body) ≡ caller
      whole = ap (λ n. reg p.regs 2 + n) (sym (lowered_saves k body.arrays (bytes_of (shape_at attributed k body)) saved)) ∙ is.below

      above_frame : reg before 2 ≡ caller → (b : ℕ) → IsAbove y (reg before 2) b → access.load m b 4 ≡ access.load m0 b 4
      above_frame from b h =
          let low : caller ≤ b = omega (arith, from, h.0) in
          let stack : IsStack y b = (omega (arith, low, is.low, is.below), h.1, h.2) in
          let kept = kept_high (reg p.regs 2) (saved_end k (reg p.regs 2)) caller y.top b h.2 low h.1 in
          f.in_memory (Kept b) kept ∙ sym (loaded access y laid machine memory budget far reach attributed k body (outside w0) p.regs p.mem caller is calm b stack)
          ∙ p.words b (inl stack) (λ j lt e. omega (arith, e, low, whole, p.sp_is, lt, saved_few k seated, room_for_saved (shape_at attributed k body)))

      -- what a temporary's register had
      temp_back : (t : ℕ) (mid after : List ℕ) → t < 9 → body.params ≤ 8 → body.params ≤ body.temps → reg mid (temp_register t) ≡ reg regs (temp_register t)
          → ((j v : ℕ) → j < saved_count k (seated_of (shape_at attributed k body)) → access.load m (sp + 4 * (first_saved k + j)) 4 ≡ Some v → reg after (saved_register (first_saved k + j)) ≡ v)
          → ((q : ℕ) → ((j : ℕ) → j < saved_count k (seated_of (shape_at attributed k body)) → q ≢ saved_register (first_saved k + j)) → reg after q ≡ reg mid q)
          → reg after (temp_register t) ≡ reg before (temp_register t)
      temp_back t mid after small few enough mid_is restored others = ⊎_elim low high (cases_lt t (saved_seats k seated))
        where
          low : t < saved_seats k (seated_of (shape_at attributed k body)) → reg after (temp_register t) ≡ reg before (temp_register t)
          low lt =
              let index : first + (suc t - first) ≡ suc t = omega (arith, first_small k) in
              let within : suc t - first < count = omega (arith, lt, first_small k, counted_seats k seated) in
              subst (λ n. reg after (saved_register n) ≡ reg before (saved_register n)) index (restored (suc t - first) (reg before (saved_register (first + (suc t - first)))) within (still_saved (suc t - first) within))

          unsaved : saved_seats k (seated_of (shape_at attributed k body)) ≤ t → (j : ℕ) → j < saved_count k (seated_of (shape_at attributed k body)) → temp_register t ≢ saved_register (first_saved k + j)
          unsaved le j lt e = not_saved t (first + j) (saved_seats k seated) le (omega (arith, lt, counted_seats k seated)) (sym e)

          high : saved_seats k (seated_of (shape_at attributed k body)) ≤ t → reg after (temp_register t) ≡ reg before (temp_register t)
          high le = others (temp_register t) (unsaved le) ∙ mid_is ∙ f.left (temp_register t) (rest_left k seated t saved le small)
              ∙ p.others (temp_register t) (λ e. omega (arith, e, register_low t)) (λ e. omega (arith, e, register_high t small))
              (λ j lt e. one_register t j (λ same. omega (arith, same, le, moving_saved k body.params seated j lt few (omega (arith, enough, first_past k body.temps)))) e)
              (pins_off_rest k body.params body.temps (pins_of k body) t is.pins saved le small)

      pub epilogue_walk : (back_to pc next i : ℕ) → body.params ≤ 8 → body.params ≤ body.temps → reg before 2 ≡ caller → reg before live_register ≡ live → live + 1 < 2 ^ 32
          → reg before link_register ≡ back_to → IsTarget back_to
          → Ps (epilogue_lines k attributed (seated_of (shape_at attributed k body)) (bytes_of (shape_at attributed k body))) pc next → Ws w pc regs m i
          → Unwound access y laid machine memory reach ample runs budget far place before m0 back_to w regs m i
      epilogue_walk back_to pc next i few enough from live_before small ra target lines a = record {
        after = after;
        time = c.time + count + 1 + 1;
        late = let late = c.late in omega (arith, late);
        soon = let soon = c.soon in omega (arith, soon, within);
        stands = back access y laid machine memory reach ample runs budget far place back_to w u.2.0 u.2.2.0 after m (c.time + count + 1) link_is target u.2.2.1 raised;
        are = put_registers d.after 2 (sp + bytes_of (shape_at attributed k body)) d.restored.are (free_low 2 (omega arith) (omega arith)) below;
        result = put_other d.after 2 a0 (sp + bytes_of (shape_at attributed k body)) (omega arith) (λ e. omega (arith, e)) ∙ d.restored.others a0 (λ j lt. first_apart (first + j))
            ∙ c.others a0 (λ e. omega (arith, e));
        registers = registers;
        stack = above_frame from;
      }
        where
          within : first_saved k + saved_count k (seated_of (shape_at attributed k body)) ≤ 10
          within = saved_few k seated

          q : (mid : ℕ) × Ps (leave_lines attributed) pc mid × Ps (restore_lines first count ++ two (Addi 2 2 (pos (bytes_of (shape_at attributed k body)))) (Jalr 0 link_register (pos 0))) mid next
          q = placed_split machine.text place y.entry (leave_lines attributed) (restore_lines first count ++ two (Addi 2 2 (pos (bytes_of (shape_at attributed k body)))) (Jalr 0 link_register (pos 0))) pc next lines

          u : (mid : ℕ) × Ps (restore_lines first count) q.0 mid × Ps (two (Addi 2 2 (pos (bytes_of (shape_at attributed k body)))) (Jalr 0 link_register (pos 0))) mid next
          u = placed_split machine.text place y.entry (restore_lines first count) (two (Addi 2 2 (pos (bytes_of (shape_at attributed k body)))) (Jalr 0 link_register (pos 0))) q.0 next q.2

          c : Counted access y laid machine memory reach ample runs budget far place live w q.0 regs m i
          c = leave_walk access y laid machine memory reach ample runs budget far place attributed live w pc q.0 regs m i f.are small
              (f.left live_register (behind_left k seated live_register saved (omega arith) (omega arith)) ∙ p.live_is) q.1 a

          sp_held : reg c.after 2 ≡ sp
          sp_held = c.others 2 (λ e. omega (arith, e)) ∙ f.left 2 (stack_left k seated) ∙ p.sp_is

          d : Restores access y laid machine memory reach ample runs budget far place first count sp w u.0 c.after m (c.time + count)
          d = restore_walk access y laid machine memory reach ample runs budget far place first count sp w q.0 u.0 c.after m c.time within sp_held
              (λ j lt. subst (λ z. IsStack y (z + 4 * (first + j))) p.sp_is (saved_words y (shape_at attributed k body) saved (reg p.regs 2) caller is (first + j) (omega (arith, lt, within)))) c.are u.1 c.stands

          frame_is : sp + bytes_of (shape_at attributed k body) ≡ caller
          frame_is = omega (arith, whole, p.sp_is)

          below : sp + bytes_of (shape_at attributed k body) < 2 ^ 32
          below = omega (arith, frame_is, is.high, laid.top)

          after : List ℕ
          after = put d.after 2 (sp + bytes_of (shape_at attributed k body))

          raised : Ws w u.2.0 (put d.after 2 (sp + bytes_of (shape_at attributed k body))) m (c.time + count + 1)
          raised = up access y laid machine memory reach ample runs budget far place (bytes_of (shape_at attributed k body)) sp w u.0 u.2.0 d.after m (c.time + count) below
              (d.restored.others 2 (λ j lt. sp_apart (first + j)) ∙ sp_held) u.2.1 d.stands

          other : (r : ℕ) → r ≢ 2 → reg (put d.after 2 (sp + bytes_of (shape_at attributed k body))) r ≡ reg d.after r
          other r ne = put_other d.after 2 r (sp + bytes_of (shape_at attributed k body)) (omega arith) ne

          link_is : reg (put d.after 2 (sp + bytes_of (shape_at attributed k body))) link_register ≡ back_to
          link_is = other link_register (λ e. omega (arith, e)) ∙ ⊎_elim link_back link_left (link_cases k saved) ∙ ra
            where
              link_back : first_saved k ≡ 0 → reg d.after link_register ≡ reg before link_register
              link_back none =
                  let index : first + 0 ≡ 0 = omega (arith, none) in
                  let some : 0 < count = omega (arith, none, counted_seats k seated) in
                  subst (λ n. reg d.after (saved_register n) ≡ reg before (saved_register n)) index (d.restored.restored 0 (reg before (saved_register (first + 0))) some (still_saved 0 some))

              link_left : (first_saved k ≡ 1) × ((temps : ℕ) → is_left_by k temps 1 ≡ true) → reg d.after link_register ≡ reg before link_register
              link_left h = d.restored.others link_register (λ j lt e. link_apart (first + j) (omega (arith, h.0)) e) ∙ c.others link_register (λ e. omega (arith, e)) ∙ f.left link_register (h.1 seated)
                  ∙ p.others link_register (λ e. omega (arith, e)) (λ e. omega (arith, e)) (λ j lt e. omega (arith, e, register_low j))
                  (pins_below k (first_pin k body.temps) (pins_of k body) link_register is.pins.stand (omega arith))

          by_case : (r : ℕ) → (r ≡ 2) ⊎ (((t : ℕ) × (t < 9) × (r ≡ temp_register t)) ⊎ ((r ≡ live_register) ⊎ (r ≡ left_register)))
              → reg (put d.after 2 (sp + bytes_of (shape_at attributed k body))) r ≡ reg before r
          by_case r (inl e) =
              ap (reg (put d.after 2 (sp + bytes_of (shape_at attributed k body)))) e ∙ put_same d.after 2 (sp + bytes_of (shape_at attributed k body)) (omega arith) (omega (arith, d.restored.are.count))
              ∙ frame_is ∙ sym from ∙ ap (reg before) (sym e)
          by_case r (inr (inl h)) =
              ap (reg (put d.after 2 (sp + bytes_of (shape_at attributed k body)))) h.2 ∙ other (temp_register h.0) (λ e. omega (arith, e, register_low h.0))
              ∙ temp_back h.0 c.after d.after h.1 few enough (c.others (temp_register h.0) (λ e. omega (arith, e, register_high h.0 h.1))) d.restored.restored d.restored.others ∙ ap (reg before) (sym h.2)
          by_case r (inr (inr (inl e))) =
              ap (reg (put d.after 2 (sp + bytes_of (shape_at attributed k body)))) e ∙ other live_register (λ e. omega (arith, e))
              ∙ d.restored.others live_register (λ j lt. high_apart live_register (first + j) (omega arith) (omega (arith, lt, within))) ∙ c.live ∙ sym live_before ∙ ap (reg before) (sym e)
          by_case r (inr (inr (inr e))) =
              ap (reg (put d.after 2 (sp + bytes_of (shape_at attributed k body)))) e ∙ other left_register (λ e. omega (arith, e))
              ∙ d.restored.others left_register (λ j lt. high_apart left_register (first + j) (omega arith) (omega (arith, lt, within))) ∙ c.others left_register (λ e. omega (arith, e))
              ∙ f.left left_register (behind_left k seated left_register saved (omega arith) (omega arith))
              ∙ p.others left_register (λ e. omega (arith, e)) (λ e. omega (arith, e)) (λ j lt e. omega (arith, e, register_high j (omega (arith, lt, moving_few k body.params, few))))
              (pins_above k (first_pin k body.temps) (pins_of k body) left_register is.pins.stand (omega arith))
              ∙ ap (reg before) (sym e)

          registers : (r : ℕ) → IsSaved r → reg (put d.after 2 (sp + bytes_of (shape_at attributed k body))) r ≡ reg before r
          registers r h = by_case r (saved_cases r h)
