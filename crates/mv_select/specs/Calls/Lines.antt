-- The lines of calls: they have encodings and few words, and name what they call and the stubs.
use Rattle.std.specs.Prelude.{ℕ, Bool, List}
use Rattle.mv_bindings.specs.Traps as traps
use Rattle.mv_isa.specs.declared.labelled.Line.{Line}
use Rattle.mv_isa.specs.Code.{StandsOnce}
use Rattle.mv_select_code.specs.Trees.TreeCode.{Seats}
use Rattle.mv_select_code.specs.Trees.View.{AreSeats}
use Rattle.mv_select_code.specs.Statements.StatementCode.{trap_label}
use Rattle.mv_select_code.specs.Control.Encoded.{CallsAreEncoded}
use Rattle.mv_select_code.specs.Control.Labels.{CallsName}
use Rattle.mv_select.specs.Calls.CallCode.{commit_label, calls_of}

-- the code of calls has encodings, and besides the words of the trees at most 16 for a call and 7 for one of a known function
abbrev pub CallsHaveCode : Type 0
CallsHaveCode = (s : Seats) → AreSeats s → (is_attributed : ℕ → Bool) → CallsAreEncoded (calls_of s is_attributed)

-- no label stands in it
abbrev pub CallsHaveNoLabels : Type 0
CallsHaveNoLabels = (s : Seats) (is_attributed : ℕ → Bool) → CallsName (λ l. Unit {0}) (calls_of s is_attributed)

-- what a call may name besides its functions stands once in all lines: the stubs of the traps 3 and 4, and that of orders and polls
pub record StubsStand (whole : List Line) : Type 0 where
  pub null : StandsOnce whole (trap_label traps.null_call)
  pub depth : StandsOnce whole (trap_label traps.call_too_deep)
  pub commit : StandsOnce whole commit_label

-- then so does each label that the code names, if the functions do and their entries
abbrev pub CallTargetsStand : Type 0
CallTargetsStand =
    (whole : List Line) → StubsStand whole → (s : Seats) (is_attributed : ℕ → Bool) → CallsName (StandsOnce whole) (calls_of s is_attributed)
