-- What polls may take.
use Rattle.std.specs.Prelude.{ℕ, ◌^◌, List, ◌<◌}
use Rattle.mv_bindings.specs.declared.binding.Binding.{Binding}
use Rattle.mv_bindings.specs.declared.action.Action.{Action}
use Rattle.mv_bindings.specs.declared.action.Action.TheVariants as action

-- What a poll may take: nothing; a value for a switch, with a commit; or, in a hart that doesn't commit, the bindings that a commit left.
pub data Act : Type 0 where
  Skip : Act
  Flip : (switch value : ℕ) → Act
  Adopt : List Binding → Act

-- an action of the operator, as a poll takes it
abbrev pub act_of : Action → Act
act_of action.Skip = Skip
act_of (action.Flip s v) = Flip s v

-- the value of an action, if it has one, is a word
abbrev pub IsOfWord : Action → Type 0
IsOfWord action.Skip = Unit {0}
IsOfWord (action.Flip switch value) = value < 2 ^ 32

-- the same of what a poll takes: the value of a flip is a word
abbrev pub IsActOfWord : Act → Type 0
IsActOfWord Skip = Unit {0}
IsActOfWord (Flip switch value) = value < 2 ^ 32
IsActOfWord (Adopt bs) = Unit {0}
