-- What is left of an input of bytes is bytes.
use Rattle.std.proofs.Common.{◌≡◌, ℕ, List, [], ◌∷◌, Option, refl, sym, subst}
use Rattle.std.specs.List.{All}
use Rattle.std.proofs.lemmas.List.Elements.{All-tail}
use Rattle.mv_machine.specs.Acts.{PollActs}
use Rattle.mv_isa.specs.Execution.{reg}
use Rattle.mv_image.specs.Spelling.{Fields}
use Rattle.mv_machine.proofs.Leaving.{Leaves as EachLeaves, planned_leaves, polled_leaves}
use Rattle.mv_machine.specs.Runs.{State, Request, Exits, Reads, Writes, Traps, Plans, Polls, Unknown, argument, later_reads, answered, environment_call, runs_from, first, runs}
use Rattle.mv_refine_machine.specs.Laws.{IsByteOrEnd}
use Rattle.mv_refine_machine.proofs.Keeping.{runs_keep}

abbrev pub GivesBytes : State → Type 0
GivesBytes s = All IsByteOrEnd s.input

later_bytes : (input : List (Option ℕ)) → All IsByteOrEnd input → All IsByteOrEnd (later_reads input)
later_bytes [] h = h
later_bytes (answer ∷ later) h = All-tail IsByteOrEnd answer later h

plan_bytes : (s : State) → GivesBytes s → EachLeaves GivesBytes s
unfolding answered
plan_bytes s h = record { refuses = λ actions answer. h; carries = λ room actions plan answer. h; adopts = λ actions bs. h; faults = h }

call_bytes : (request : Request) (s : State) → GivesBytes s → GivesBytes (environment_call request s)
unfolding answered
call_bytes Exits s h = h
call_bytes Reads s h = later_bytes s.input h
call_bytes Writes s h = h
call_bytes Traps s h = h
call_bytes Plans s h = planned_leaves GivesBytes s (argument s) (reg s.regs 11) (plan_bytes s h)
call_bytes Polls s h = polled_leaves GivesBytes s (plan_bytes s h)
call_bytes Unknown s h = h

pub bytes_left : (s : State) (picks : List ℕ) (n : ℕ) → GivesBytes s → GivesBytes (runs_from s picks n)
bytes_left = runs_keep GivesBytes (record { goes = λ regs pc room s h. h; calls = call_bytes; faults = λ why s h. h })

pub first_input : (image : Fields) (input : List (Option ℕ)) (polls : PollActs) → (first image input polls).input ≡ input
unfolding first
first_input image input polls = refl

pub run_bytes : (image : Fields) (input : List (Option ℕ)) (polls : PollActs) (picks : List ℕ) (n : ℕ) → All IsByteOrEnd input → All IsByteOrEnd (runs image input polls picks n).input
run_bytes image input polls picks n h = bytes_left (first image input polls) picks n (subst (All IsByteOrEnd) (sym (first_input image input polls)) h)
