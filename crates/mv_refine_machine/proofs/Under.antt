-- The machine under some bindings runs code.
use Rattle.std.proofs.Common.{◌≡◌, ℕ, ◌<◌, ◌≤◌, Bool, true, leb, ltb, List, Option, Some, refl, sym, ap, subst, ◌∙◌}
use Rattle.std.proofs.lemmas.Bool.{and_parts, and_from, leb-true, ltb-true}
use Rattle.mv_machine.specs.Acts.{PollActs}
use Rattle.mv_bindings.specs.declared.binding.Binding.{Binding}
use Rattle.mv_image.specs.Spelling.{Fields}
use Rattle.mv_isa.specs.Execution.{Goes, step}
use Rattle.mv_ir.specs.World.{World}
use Rattle.mv_select_code.specs.Statements.Frames.{Site}
use Rattle.mv_select_code.specs.Statements.Leads.{limited}
use Rattle.mv_select_code.specs.Control.Runs.{Spot, Machine, outside, LeadsOn, IsRun}
use Rattle.mv_select.specs.Functions.Functions.{IsOpen, alone}
use Rattle.mv_select.specs.Slots.Narrowed as narrow
use Rattle.mv_select.specs.Slots.Narrowed.{has_bindings}
use Rattle.mv_select.proofs.OfSlots.Bindings.{bindings_are_told}
use Rattle.mv_refine_machine.specs.Calm.{Rest, is_calm}
use Rattle.mv_refine_machine.specs.Layout.{OwnOutsideText}
use Rattle.mv_refine_machine.specs.Laws.{RunsAreRunsUnder}
use Rattle.mv_refine_machine.specs.MachineRuns.{access, bound_word, is_sound, machine_of}
use Rattle.mv_refine_machine.specs.Steps.{LeadsUnder}
use Rattle.mv_refine_machine.specs.Under.{words_under}
use Rattle.mv_refine_machine.proofs.Calming.{calm_told, calm_tested}
use Rattle.mv_refine_machine.proofs.Fetches.{calm_choice}
use Rattle.mv_refine_machine.proofs.OnRuns.{has_word, in_part, steps_are_taken}
use Rattle.mv_refine_machine.proofs.Open.{steps_sound}
use Rattle.mv_refine_machine.proofs.Registers.{run_registers}
use Rattle.mv_select_code.proofs.OfControl.Reading.{step_over}

-- nothing of a world but its bindings shows in text
pub same_words : (image : Fields) (w : World) (a : ℕ) → bound_word image w a ≡ words_under image w.bindings a
unfolding bound_word
same_words image w a = refl

module _ (attributed : List ℕ) (closed : (pc address : ℕ) → Bool) (image : Fields) (input : List (Option ℕ)) (polls : PollActs) (picks : List ℕ) (bs : List Binding) (from to : ℕ) (s : Site) (out : OwnOutsideText s)
    (free : IsOpen closed from to s.reach) where
  abbrev machine : Machine Rest
  machine = machine_of attributed closed image input polls picks

  abbrev under : Machine Rest
  under = alone (narrow.under machine (words_under image) bs) from to

  -- the word of the part of text, which stands there under the bindings, and its step
  record Shown (i : ℕ) (w : World) (next : Spot Rest) : Type 0 where
    word : ℕ
    stands : bound_word image (outside w) (machine.run i).pc ≡ Some word
    above : from ≤ (machine.run i).pc
    below : (machine.run i).pc < to
    step_on : step (limited access s) (Some word) (machine.run i).regs (machine.run i).pc (machine.run i).memory ≡ Goes next.regs next.pc next.memory
    leads : LeadsUnder image input polls picks s i (outside w) next

  shown : (i : ℕ) (w : World) (next : Spot Rest) → LeadsOn access s under i w next → Shown i w next
  shown i w next h =
      let c = and_parts (has_bindings bs (outside w)) (is_calm image (outside w) (machine.run i).memory) h.calm in
      let words = same_words image (outside w) (machine.run i).pc in
      let same = subst (λ (xs : List Binding). bound_word image (outside w) (machine.run i).pc ≡ words_under image xs (machine.run i).pc) (sym ((bindings_are_told bs w.bindings).0 c.0)) words in
      let whole = step_over access s.reach.may_load (machine.run i).regs (machine.run i).pc (machine.run i).memory next.regs next.pc next.memory (under.text.word (machine.run i).pc) h.steps in
      let found = has_word (under.text.word (machine.run i).pc) (machine.run i).regs (machine.run i).pc (machine.run i).memory next whole in
      let p = in_part (leb from (machine.run i).pc) (ltb (machine.run i).pc to) (words_under image bs (machine.run i).pc) found.0 found.1 in
      let stands : bound_word image (outside w) (machine.run i).pc ≡ Some found.0 = same ∙ p.2 in record {
        word = found.0;
        stands = stands;
        above = leb-true from (machine.run i).pc p.0;
        below = ltb-true (machine.run i).pc to p.1;
        step_on = ap (λ x. step (limited access s) x (machine.run i).regs (machine.run i).pc (machine.run i).memory) (sym found.1) ∙ h.steps;
        leads = record {
          calm = calm_told image (outside w) (machine.run i).memory c.1;
          steps = ap (λ x. step access x (machine.run i).regs (machine.run i).pc (machine.run i).memory) (stands ∙ sym found.1) ∙ whole;
          writes = h.writes;
        };
      }

  sound_there : (i : ℕ) (w : World) (next : Spot Rest) → LeadsOn access s under i w next → is_sound closed (machine.run i) ≡ true
  sound_there i w next h =
      let r = shown i w next h in
      let one = calm_choice image (outside w) (machine.run i).memory (machine.run i).pc r.word r.leads.calm r.stands in
      steps_sound access (machine.run i).memory s.reach.may_load closed (machine.run i) r.word next.regs next.pc next.memory one r.step_on (λ a may. free (machine.run i).pc a r.above r.below may)

  runs_under : IsRun access s under
  runs_under = record {
    registers = run_registers image input polls picks;
    goes = λ i w next h. (steps_are_taken image input polls picks s out).goes i (outside w) next (shown i w next h).leads;
    sound = sound_there;
    stays = λ i w next h.
        and_from (has_bindings bs (outside w)) (is_calm image (outside w) next.memory) (and_parts (has_bindings bs (outside w)) (is_calm image (outside w) (machine.run i).memory) h.calm).0
        (calm_tested image (outside w) next.memory ((steps_are_taken image input polls picks s out).stays i (outside w) next (shown i w next h).leads));
  }

pub runs_are_under : RunsAreRunsUnder
runs_are_under attributed closed image input polls picks bs from to s out free = runs_under attributed closed image input polls picks bs from to s out free
