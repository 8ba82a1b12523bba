-- How a command uses the devices: a file is loaded once, and a device that failed is asked nothing more.
use Rattle.std.specs.Prelude.{◌≡◌, Bool}
use Rattle.mv_io.specs.Outside.{CountAfter}
use Rattle.mv_io.specs.Shelves.{AsksFor}
use Rattle.mv_command.specs.Commands.{Asked, Runs, Builds, Executes, Lists, Evaluates, Generates, Converts, Disassembles, Checks, Prints}
use Rattle.mv_notes.specs.Lines.{names_input, names_output, names_shelf}
use Rattle.mv_notes.specs.declared.status.Status.{Status}
use Rattle.mv_top.specs.Checking.{AsksToCheck}
use Rattle.mv_top.specs.Generating.{is_cut_short}
use Rattle.mv_top.specs.Outside.{Outside}

-- a write of the command failed; where `gen` has no memory for what it sums up, that may hide one
abbrev pub write_failed : Asked → Status → Bool
write_failed (Runs file options) status = names_output status
write_failed (Builds file image) status = names_output status
write_failed (Executes file options) status = names_output status
write_failed (Lists file words) status = names_output status
write_failed (Evaluates file bound) status = names_output status
write_failed (Generates number source) status = is_cut_short status
write_failed (Converts conversion from to) status = names_output status
write_failed (Disassembles file) status = names_output status
write_failed (Checks file image) status = names_output status
write_failed (Prints text) status = names_output status

module _ (before after : Outside) where
  -- its file is loaded once, and no other but the one that is compared
  abbrev pub Asks : Asked → Type 0
  Asks (Runs file options) = AsksFor before.shelf.asked after.shelf.asked file
  Asks (Builds file image) = AsksFor before.shelf.asked after.shelf.asked file
  Asks (Executes file options) = AsksFor before.shelf.asked after.shelf.asked file
  Asks (Lists file words) = AsksFor before.shelf.asked after.shelf.asked file
  Asks (Evaluates file bound) = AsksFor before.shelf.asked after.shelf.asked file
  Asks (Generates number source) = after.shelf.asked ≡ before.shelf.asked
  Asks (Converts conversion from to) = AsksFor before.shelf.asked after.shelf.asked from
  Asks (Disassembles file) = AsksFor before.shelf.asked after.shelf.asked file
  Asks (Checks file image) = AsksToCheck before after file image
  Asks (Prints text) = after.shelf.asked ≡ before.shelf.asked

  pub record Uses (asked : Asked) (status : Status) : Type 0 where
    pub asks : Asks asked
    pub shelf : CountAfter (names_shelf status) before.shelf.faults after.shelf.faults
    pub input : CountAfter (names_input status) before.environment.input.faults after.environment.input.faults
    pub output : CountAfter (write_failed asked status) before.environment.output.faults after.environment.output.faults
