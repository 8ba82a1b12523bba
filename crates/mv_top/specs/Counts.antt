-- That no count of faults rose but that of the device that a status names.
use Rattle.mv_io.specs.Outside.{CountAfter}
use Rattle.mv_refine.specs.Environment.{Environment}
use Rattle.mv_notes.specs.Lines.{names_input, names_output}
use Rattle.mv_notes.specs.declared.status.Status.{Status}

-- Each count of faults stands as it was, but for that of the device that the status names, which is one more at most.
pub record Counts (before after : Environment) (status : Status) : Type 0 where
  pub input : CountAfter (names_input status) before.input.faults after.input.faults
  pub output : CountAfter (names_output status) before.output.faults after.output.faults
