-- Which actions of the operator fit a program, and which a poll may take in a hart.
use Rattle.std.specs.Prelude.{ℕ, Bool, true, false, ◌&&◌, not, Option, Some, None, nat_eq, slice_get}
use Rattle.mv_num.specs.Kinds.{kind_number, is_value}
use Rattle.mv_ast.specs.declared.program.CType.{CType}
use Rattle.mv_ast.specs.declared.program.CType.TheVariants.{Void, Scalar, Pointer}
use Rattle.mv_ast.specs.declared.program.Program.{Program}
use Rattle.mv_ast.specs.declared.program.Global.{Global}
use Rattle.mv_ast.specs.declared.program.Switch.{Switch}
use Rattle.mv_bindings.specs.declared.action.Action.{Action}
use Rattle.mv_bindings.specs.declared.action.Action.TheVariants.{Skip, Flip}
use Rattle.mv_ast.specs.Bindings.{are_bindings, are_typed_bindings}
use Rattle.mv_bindings.specs.Acts as world
use Rattle.mv_bindings.specs.Acts.{Act}

-- whether a word is a value of an integer type
abbrev pub is_value_of : CType → ℕ → Bool
is_value_of Void v = false
is_value_of (Scalar kind) v = is_value (kind_number kind) v
is_value_of (Pointer signature) v = false

abbrev pub is_global_value : Option Global → ℕ → Bool
is_global_value None v = false
is_global_value (Some g) v = is_value_of g.ctype v

abbrev pub is_switch_value : Program → Option Switch → ℕ → Bool
is_switch_value p None v = false
is_switch_value p (Some s) v = is_global_value (slice_get p.globals s.global) v

-- An action fits where its switch is one of the program's and its value is one of that switch's type.
abbrev pub fits : Program → Action → Bool
fits p Skip = true
fits p (Flip s v) = is_switch_value p (slice_get p.switches s) v

-- What a poll may take in a hart: hart 0 alone takes a flip, which is one of the operator's that fits, and the others alone adopt
-- bindings, each to values of a function's domains or to a function of a pointer switch's type.
abbrev pub act_fits : Program → (hart : ℕ) → Act → Bool
act_fits p hart world.Skip = true
act_fits p hart (world.Flip s v) = nat_eq hart 0 && fits p (Flip s v)
act_fits p hart (world.Adopt bs) = not (nat_eq hart 0) && (are_bindings p bs && are_typed_bindings p bs)
