-- The enumerators of an enum (C11 6.7.2.2).
use Rattle.std.specs.Prelude.{ℕ, Bool, is_some, if◌then◌else◌, List, [], ◌∷◌, ◌++◌, Option, Some, None}
use Rattle.mv_syntax.specs.declared.place.Place.{Place}
use Rattle.mv_syntax.specs.declared.unit.Member.{Member, out-Member}
use Rattle.mv_syntax.specs.declared.unit.Node.{Node}
use Rattle.mv_check_scope.specs.declared.meaning.Meaning.TheVariants as meaning
use Rattle.mv_check_scope.specs.declared.scope.Scope.{Scope}
use Rattle.mv_check_scope.specs.Spaces.{named}
use Rattle.mv_check_scope.specs.Scoped.{declared}
use Rattle.mv_check_expressions.specs.RuleNumbers as rules
use Rattle.mv_check_expressions.specs.Judged.{Judged, Good, Broken, and_then}
use Rattle.mv_check_expressions.specs.NeededConstants.{constant_judgement}
use Rattle.mv_check_declarations.specs.Constants.{int_of, next_int}
use Rattle.mv_check_declarations.specs.Turns.{Behind, through}

-- whether the innermost block has the name
abbrev pub is_taken : Scope → List ℕ → Bool
is_taken s name = is_some (named name s.names.here)

-- the `int` that an enumerator is given, or else the one that follows its predecessor's
abbrev pub given_value : Scope → Option ℕ → Option Node → Judged (Option ℕ)
given_value s following None = Good following
given_value s following (Some node) = and_then (constant_judgement s node) (λ c. Good (int_of c))

abbrev pub enumerator_of : Place → List ℕ → Scope → Option ℕ → Behind ℕ
enumerator_of place name s None = Broken place rules.enumerators
enumerator_of place name s (Some v) = Good (declared s name (meaning.Enumerator v), v)

-- redeclarations: the name is declared in this scope already; enumerators: the value is no `int`
unfoldable pub new_enumerator : Place → List ℕ → Scope → Option ℕ → Behind ℕ
new_enumerator place name s value = if is_taken s name then Broken place rules.redeclarations else enumerator_of place name s value

-- the scope, the value of an enumerator that is given none, and the values so far
abbrev pub Enumerating : Type 0
Enumerating = Scope × Option ℕ × List ℕ

abbrev pub enumerator : Member → Enumerating → Judged Enumerating
enumerator m e =
    let f = out-Member m in
    and_then (given_value e.0 e.1 f.value) (λ value.
    and_then (new_enumerator f.place f.name e.0 value) (λ d. Good (d.0, next_int d.1, e.2 ++ d.1 ∷ [])))

-- the values of some enumerators, of which the first is 0 unless it is given another
abbrev pub enumerators : List Member → Scope → Behind (List ℕ)
enumerators members s = and_then (through enumerator members (s, Some 0, [])) (λ e. Good (e.0, e.2))
