-- Polls in code.
use Rattle.std.specs.Prelude.{◌≡◌, Bool, true, false}
use Rattle.mv_bindings.specs.Acts.{Act, Skip, Flip}
use Rattle.mv_harts_one.specs.declared.glance.Place.{Place}
use Rattle.mv_harts_one.specs.declared.glance.Place.TheVariants.{AtOrder, AtPoll, Elsewhere}
use Rattle.mv_harts_one.specs.declared.seat.Mode.{Mode}
use Rattle.mv_harts_one.specs.declared.seat.Mode.TheVariants.{Runs, Parked, Freed}
use Rattle.mv_harts_one.specs.declared.seat.Taken.{Taken}
use Rattle.mv_harts_one.specs.declared.seat.Taken.TheVariants as taken
use Rattle.mv_harts_turns.specs.declared.poll.PollAnswer.{PollAnswer}
use Rattle.mv_harts_turns.specs.declared.poll.PollAnswer.TheVariants.{Waits, Adopts, Goes}

-- what a hart does at a poll, as `at_poll` says it
abbrev pub answer_by : Mode → (wanted under : Bool) → PollAnswer
answer_by Runs true under = Waits Parked
answer_by Runs false under = Goes
answer_by Parked wanted under = Waits Parked
answer_by Freed wanted true = Waits Freed
answer_by Freed wanted false = Adopts

-- elsewhere it goes on
abbrev pub answer_at : Place → Mode → (wanted under : Bool) → PollAnswer
answer_at AtOrder mode wanted under = Goes
answer_at AtPoll mode wanted under = answer_by mode wanted under
answer_at Elsewhere mode wanted under = Goes

-- an act of the operator as it is noted
abbrev pub IsNoted : Taken → Act → Type 0
IsNoted taken.Skip act = act ≡ Skip
IsNoted (taken.Flip switch value) act = act ≡ Flip switch value
IsNoted (taken.Adopt c) act = ⊥
