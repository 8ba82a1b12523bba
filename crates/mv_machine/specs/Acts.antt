-- Whose polls a run has, and what they take.
use Rattle.std.specs.Prelude.{ℕ, List, map}
use Rattle.mv_bindings.specs.declared.action.Action.{Action}
use Rattle.mv_bindings.specs.Acts.{Act, act_of}

-- the number of the hart, and what its polls are to take
pub record PollActs : Type 0 where
  pub hart : ℕ
  pub acts : List Act

-- those of hart 0 take the operator's actions
abbrev pub polls_of : List Action → PollActs
polls_of actions = record { hart = 0; acts = map act_of actions }
