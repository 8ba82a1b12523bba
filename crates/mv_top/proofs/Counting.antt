-- From the counts of faults of the layers to those of a status.
use Rattle.std.proofs.Common.{ℕ, ◌≡◌, true, Bool, ap, sym, subst}
use Rattle.std.specs.Prelude.{Err}
use Rattle.mv_io.specs.Outside.{CountAfter}
use Rattle.mv_io.specs.Shelves.{is_fault}
use Rattle.mv_io.specs.declared.outside.ShelfError.{ShelfError}
use Rattle.mv_io.specs.declared.outside.ShelfError.TheVariants as shelf
use Rattle.mv_io.proofs.Common.{count_kept}
use Rattle.mv_command.specs.Commands.{Asked}
use Rattle.mv_machine.specs.Snapshots.{is_input_fault, is_output_fault}
use Rattle.mv_machine.specs.declared.machine.Stopped.{Stopped}
use Rattle.mv_machine.specs.declared.machine.Stopped.TheVariants as stop
use Rattle.mv_refine.specs.Environment.{Environment}
use Rattle.mv_notes.specs.Lines.{names_output, names_shelf}
use Rattle.mv_notes.specs.declared.status.Status.{Status}
use Rattle.mv_notes.specs.declared.status.Status.TheVariants.{Ended, Trapped, Usage, Refused, Memory, InputFault, OutputFault, ShelfFault, Steps, BadImage, MachineFault, Done, BadLine, Differs}
use Rattle.mv_top.specs.Saving.{status_of_shelf}
use Rattle.mv_top.specs.Counts.{Counts}
use Rattle.mv_top.specs.Generating.{is_cut_short, is_summed_up}
use Rattle.mv_top.specs.Outside.{Outside}
use Rattle.mv_top.specs.Running.{status_of_stop}
use Rattle.mv_top.specs.Uses.{Asks, Uses}

-- ---- a run

module _ (before after : Environment) where
  -- the counts of a run that has stopped
  pub counts_of_stop : (s : Stopped) → CountAfter (is_input_fault s) before.input.faults after.input.faults → CountAfter (is_output_fault s) before.output.faults after.output.faults →
      Counts before after (status_of_stop s)
  counts_of_stop (stop.Ended status) i o = record { input = i; output = o }
  counts_of_stop (stop.Trapped code) i o = record { input = i; output = o }
  counts_of_stop stop.Steps i o = record { input = i; output = o }
  counts_of_stop stop.InputFault i o = record { input = i; output = o }
  counts_of_stop stop.OutputFault i o = record { input = i; output = o }
  counts_of_stop (stop.Fault pc why) i o = record { input = i; output = o }
  counts_of_stop stop.Memory i o = record { input = i; output = o }

  -- where all is as it was
  pub counts_same : (status : Status) → after ≡ before → Counts before after status
  counts_same status same = record {
    input = count_kept _ _ _ (ap (λ (e : Environment). e.input.faults) same);
    output = count_kept _ _ _ (ap (λ (e : Environment). e.output.faults) same);
  }

-- ---- the shelf

-- the status of a load or a save that gave nothing names the shelf where that was a fault
pub names_of_error : (e : ShelfError) (status : Status) → status ≡ status_of_shelf e → names_shelf status ≡ is_fault {T = ℕ} (Err e)
names_of_error shelf.Failed status same = ap names_shelf same
names_of_error (shelf.Memory m) status same = ap names_shelf same

-- nothing is done behind a load that gave nothing
pub uses_unloaded : (before after : Outside) (asked : Asked) (e : ShelfError) (status : Status) → status ≡ status_of_shelf e → Asks before after asked →
    CountAfter (is_fault {T = ℕ} (Err e)) before.shelf.faults after.shelf.faults → after.environment ≡ before.environment → Uses before after asked status
uses_unloaded before after asked e status same asks count still = record {
  asks = asks;
  shelf = subst (λ b. CountAfter b before.shelf.faults after.shelf.faults) (sym (names_of_error e status same)) count;
  input = count_kept _ _ _ (ap (λ (v : Environment). v.input.faults) still);
  output = count_kept _ _ _ (ap (λ (v : Environment). v.output.faults) still);
}

-- ---- a generated program

pub cut_by : (status : Status) (before now : ℕ) → CountAfter (names_output status) before now → CountAfter (is_cut_short status) before now
cut_by (Ended status) before now h = h
cut_by (Trapped code) before now h = h
cut_by Usage before now h = h
cut_by (Refused refusal) before now h = h
cut_by Memory before now h = count_kept true before now h
cut_by InputFault before now h = h
cut_by OutputFault before now h = h
cut_by ShelfFault before now h = h
cut_by Steps before now h = h
cut_by (BadImage code offset) before now h = h
cut_by (MachineFault address cause) before now h = h
cut_by Done before now h = h
cut_by (BadLine code line) before now h = h
cut_by (Differs offset) before now h = h

-- a run that is summed up was not cut short, and so no count has risen
pub summed_stands : (ran : Status) (summed : Bool) (before now : ℕ) → summed ≡ is_summed_up ran → summed ≡ true → CountAfter (is_cut_short ran) before now → now ≡ before
summed_stands (Ended status) summed before now said whole h = h
summed_stands (Trapped code) summed before now said whole h = h
summed_stands Usage summed before now said whole h = h
summed_stands (Refused refusal) summed before now said whole h = h
summed_stands Memory summed before now said whole h = cc
summed_stands InputFault summed before now said whole h = h
summed_stands OutputFault summed before now said whole h = cc
summed_stands ShelfFault summed before now said whole h = h
summed_stands Steps summed before now said whole h = h
summed_stands (BadImage code offset) summed before now said whole h = h
summed_stands (MachineFault address cause) summed before now said whole h = h
summed_stands Done summed before now said whole h = h
summed_stands (BadLine code line) summed before now said whole h = h
summed_stands (Differs offset) summed before now said whole h = h
