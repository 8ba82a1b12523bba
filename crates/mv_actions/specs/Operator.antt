-- What the operator does at the polls of a program or of an image.
use Rattle.std.specs.Prelude.{ℕ, ℤ, pos, negsuc, ◌+◌, ◌-◌, ◌≡◌, Bool, if◌then◌else◌, nat_eq, nat_lt, nat_le, Option, Some, None, is_none, option_and_then, unwrap_or, List, [], ◌∷◌, ◌++◌, replicate, position, slice_get}
use Rattle.std.specs.Cmp.Lexicographic.{pointwise}
use Rattle.mv_num.specs.Words.{word_of}
use Rattle.mv_num.specs.declared.kind.Kind.{Kind}
use Rattle.mv_num.specs.declared.kind.Kind.TheVariants as kinds
use Rattle.mv_ast.specs.declared.program.Program.{Program}
use Rattle.mv_bindings.specs.declared.action.Action.{Action}
use Rattle.mv_bindings.specs.declared.action.Action.TheVariants.{Skip, Flip}
use Rattle.mv_command.specs.declared.items.Item.{Item}
use Rattle.mv_image.specs.Spelling.{Fields}
use Rattle.mv_actions.specs.declared.controls.Control.{Control}
use Rattle.mv_actions.specs.declared.error.ActionsError.{ActionsError}
use Rattle.mv_actions.specs.declared.error.ActionsError.TheVariants as errors
use Rattle.mv_actions.specs.Controls.{controls_of, controls_in}

-- ---- values of a type

-- the greatest value of an integer type
abbrev pub greatest : Kind → ℕ
greatest kinds.Bool = 1
greatest kinds.SChar = 127
greatest kinds.UChar = 255
greatest kinds.Short = 32767
greatest kinds.UShort = 65535
greatest kinds.Int = 2147483647
greatest kinds.UInt = 4294967295

-- how far below 0 the least one is
abbrev pub depth : Kind → ℕ
depth kinds.Bool = 0
depth kinds.SChar = 128
depth kinds.UChar = 0
depth kinds.Short = 32768
depth kinds.UShort = 0
depth kinds.Int = 2147483648
depth kinds.UInt = 0

-- whether a number is a value of an integer type
abbrev pub is_of_kind : Kind → ℤ → Bool
is_of_kind kind (pos n) = nat_le n (greatest kind)
is_of_kind kind (negsuc n) = nat_lt n (depth kind)

-- ---- switches

-- whether a switch has this name
abbrev pub is_named : List ℕ → Control → Bool
is_named name switch = pointwise nat_eq switch.name name

-- the number of the first switch of this name
abbrev pub switch_named : List Control → List ℕ → Option ℕ
switch_named switches name = position (is_named name) switches

-- the type of a switch
abbrev pub kind_of_switch : List Control → ℕ → Option Kind
kind_of_switch switches s = option_and_then (λ (switch : Control). switch.kind) (slice_get switches s)

-- ---- actions

-- a switch of this type gets a value, where it is one of that type
abbrev pub flip_by : ℤ → ℕ → Kind → Option Action
flip_by value s kind = if is_of_kind kind value then Some (Flip s (word_of value)) else None

-- What an item does: the first switch of its name gets its value. None where the name is no switch, or the value isn't one of its type.
abbrev pub flip_of : List Control → Item → Option Action
flip_of switches item = option_and_then (λ s. option_and_then (flip_by item.value s) (kind_of_switch switches s)) (switch_named switches item.name)

-- the actions behind so many polls: at the poll of each item its flip, and none at the polls between
abbrev pub actions_from : List Control → ℕ → List Item → List Action
actions_from switches polls [] = []
actions_from switches polls (item ∷ rest) =
    replicate (item.poll - polls - 1) Skip ++ (unwrap_or (flip_of switches item) Skip ∷ actions_from switches item.poll rest)

-- the index of the first item that does nothing
abbrev pub wrong_item : List Control → List Item → Option ℕ
wrong_item switches items = position (λ item. is_none (flip_of switches item)) items

-- each item does something to these switches, and these are the actions
pub record AreActions (switches : List Control) (items : List Item) (actions : List Action) : Type 0 where
  pub right : wrong_item switches items ≡ None
  pub are : actions ≡ actions_from switches 0 items

-- the first item that does nothing to them has this number, counted from 1
abbrev pub IsFirstIdle : List Control → List Item → ℕ → Type 0
IsFirstIdle switches items number = (index : ℕ) × (wrong_item switches items ≡ Some index) × (number ≡ index + 1)

-- why the items are no actions on these switches; want of memory has no cause
abbrev pub AreRefusedFor : List Control → List Item → ActionsError → Type 0
AreRefusedFor switches items (errors.Refused number) = IsFirstIdle switches items number
AreRefusedFor switches items (errors.Memory e) = Unit {0}

-- ---- on a program

-- each item does something, and these are the actions
abbrev pub IsActions : Program → List Item → List Action → Type 0
IsActions p items actions = AreActions (controls_of p) items actions

-- the first item that does nothing has this number, counted from 1
abbrev pub IsFirstWrong : Program → List Item → ℕ → Type 0
IsFirstWrong p items number = IsFirstIdle (controls_of p) items number

abbrev pub IsRefusedFor : Program → List Item → ActionsError → Type 0
IsRefusedFor p items error = AreRefusedFor (controls_of p) items error

-- ---- on an image

-- each item does something, and these are the actions
abbrev pub IsImageActions : Fields → List Item → List Action → Type 0
IsImageActions image items actions = AreActions (controls_in image) items actions

-- the first item that does nothing has this number, counted from 1
abbrev pub IsImageFirstWrong : Fields → List Item → ℕ → Type 0
IsImageFirstWrong image items number = IsFirstIdle (controls_in image) items number

abbrev pub IsImageRefusedFor : Fields → List Item → ActionsError → Type 0
IsImageRefusedFor image items error = AreRefusedFor (controls_in image) items error
