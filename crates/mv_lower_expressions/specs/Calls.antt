-- Calls, as functions of what their arguments are lowered to.
use Rattle.std.specs.Prelude.{ℕ, Bool, List, [], ◌∷◌, ◌++◌, Option, Some, None, map, max}
use Rattle.mv_ir.specs.declared.stm.Callee.TheVariants as callee
use Rattle.mv_ast.specs.declared.program.Known.{Known}
use Rattle.mv_lower_spec.specs.Lowered.{Lowered, Arguments, is_empty, kept_if, lower_all, lower_call, lower_call_to, lower_switched, lower_known, last_of, but_last}
use Rattle.mv_lower_expressions.specs.declared.call.Arguments as declared
use Rattle.mv_lower_expressions.specs.Values.{given}

abbrev pub seen_arguments : declared.Arguments → Arguments
seen_arguments a = record { code = a.code; trees = a.trees; top = a.top }

-- an argument before the others
abbrev pub prepended : Lowered → Arguments → ℕ → Arguments
prepended v rest n =
    let x = kept_if (is_empty rest.code) n v in
    record { code = x.code ++ rest.code; trees = x.tree ∷ rest.trees; top = max x.top rest.top }

-- arguments, the first of which is lowered from this temporary on, and each other from one more than the one before it
unfoldable pub arguments_of : List Lowered → ℕ → Arguments
arguments_of vs n = lower_all (map given vs) n

unfoldable pub direct_of : Bool → ℕ → List Lowered → ℕ → Lowered
direct_of void f vs n = lower_call void f (map given vs) n

-- the last one is the callee
unfoldable pub through_of : Bool → List Lowered → ℕ → Lowered
through_of void vs n =
    let all = arguments_of vs n in
    lower_call_to void (callee.Through (last_of all.trees)) all (but_last all.trees) n

unfoldable pub switched_of : Bool → ℕ → List Lowered → ℕ → Lowered
switched_of void g vs n = lower_switched void (map given vs) g n

-- a call through a pointer switch, if what is called is one, or through the value behind the arguments
abbrev pub called_of : Option ℕ → Bool → List Lowered → Lowered → ℕ → Lowered
called_of None void vs v n = through_of void (vs ++ v ∷ []) n
called_of (Some g) void vs v n = switched_of void g vs n

unfoldable pub known_of : Known → List Lowered → ℕ → Lowered
known_of k vs n = lower_known k (map given vs) n
