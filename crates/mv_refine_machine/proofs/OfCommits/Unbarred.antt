-- A place where the word of an instruction stands that loads nothing that is closed.
use Rattle.std.proofs.Common.{◌≡◌, ℕ, Bool, true, false, [], ◌∷◌, Option, Some, option_and_then, sym, ap, ◌∙◌}
use Rattle.mv_isa.specs.declared.instr.Instr.{Instr}
use Rattle.mv_isa.specs.Encoding.{decode}
use Rattle.mv_fetch.specs.Held.{choices}
use Rattle.mv_select_code.specs.Control.Runs.{Spot}
use Rattle.mv_select.specs.Functions.Loads.{loads_from}
use Rattle.mv_refine_machine.specs.Calm.{Rest}
use Rattle.mv_refine_machine.specs.MachineRuns.{is_sound}
use Rattle.mv_refine_machine.proofs.Open.{sound_at}

pub unbarred : (closed : (pc address : ℕ) → Bool) (spot : Spot Rest) (word : ℕ) (i : Instr) → choices spot.memory.room.held spot.pc ≡ word ∷ [] → decode word ≡ Some i
    → ((a : ℕ) → loads_from i spot.regs ≡ Some a → closed spot.pc a ≡ false) → is_sound closed spot ≡ true
unbarred closed spot word i one says free =
    sound_at closed spot word one (λ a e. free a (ap (λ (o : Option Instr). option_and_then (λ j. loads_from j spot.regs) o) (sym says) ∙ e))
