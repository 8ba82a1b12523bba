-- The rules that a node breaks, in their order.
use Rattle.std.specs.Prelude.{ℕ, Bool, false, if◌then◌else◌, Option, Some, List, [], ◌∷◌}
use Rattle.mv_syntax.specs.declared.place.Place.{Place}
use Rattle.mv_check_scope.specs.declared.scope.Scope.{Scope}
use Rattle.mv_check_expressions.specs.RuleNumbers as rules
use Rattle.mv_check_expressions.specs.declared.breaches.Breaches.{Breaches}
use Rattle.mv_check_expressions.specs.declared.seen.Seen.{Seen}
use Rattle.mv_check_expressions.specs.declared.seen.Use.{Use}
use Rattle.mv_check_expressions.specs.Judged.{Judged, first_broken, unless_broken}
use Rattle.mv_check_expressions.specs.Found.{Layer, found}
use Rattle.mv_check_expressions.specs.Rules.{breaks_names, breaks_operands, breaks_assignments, breaks_conversions, breaks_calls, breaks_indexes, breaks_void, breaks_switch_assignments, breaks_plan_arguments, breaks_definitions, breaks_placements, is_bare, is_valueless, is_misnamed}

-- the rules of expressions in their order, and whether a node breaks them
abbrev pub breaches : Scope → Use → Layer → List (ℕ × Bool)
breaches scope u layer =
    (rules.names, breaks_names scope layer) ∷
    (rules.operands, breaks_operands layer) ∷
    (rules.assignments, breaks_assignments layer) ∷
    (rules.conversions, breaks_conversions scope layer) ∷
    (rules.calls, breaks_calls scope layer) ∷
    (rules.indexes, breaks_indexes scope u layer) ∷
    (rules.void, breaks_void scope u layer) ∷
    (rules.switch_assignments, breaks_switch_assignments scope layer) ∷
    (rules.plan_arguments, breaks_plan_arguments scope u layer) ∷
    (rules.definitions, breaks_definitions scope layer) ∷
    (rules.placements, breaks_placements scope u layer) ∷
    []

-- what a node at a place is found to be, unless it breaks a rule
unfoldable pub concluded : Place → List (ℕ × Bool) → Seen → Judged Seen
concluded place broken x = unless_broken place (first_broken broken) x

-- the judgement on a node whose parts break no rule
abbrev pub by_itself : Scope → Place → Use → Layer → Judged Seen
by_itself scope place u layer = concluded place (breaches scope u layer) (found scope u layer)

-- ---- what the checker finds of a node

-- the rules in their order, and whether they are broken
abbrev pub listed : Breaches → List (ℕ × Bool)
listed b =
    (rules.names, b.undeclared) ∷
    (rules.operands, b.operands) ∷
    (rules.assignments, b.assigned) ∷
    (rules.conversions, b.converted) ∷
    (rules.calls, b.called) ∷
    (rules.indexes, b.indexed) ∷
    (rules.void, b.void) ∷
    (rules.switch_assignments, b.switch) ∷
    (rules.plan_arguments, b.named) ∷
    (rules.definitions, b.undefined) ∷
    (rules.placements, b.misplaced) ∷
    []

-- the rules that are broken by what a node is used as
abbrev pub breaches_of_use : Use → Seen → Breaches
breaches_of_use u x = record {
  undeclared = false;
  operands = false;
  assigned = false;
  converted = false;
  called = false;
  indexed = is_bare u x;
  void = is_valueless u x;
  switch = false;
  named = is_misnamed u x;
  undefined = false;
  misplaced = false;
}

-- a rule where it is broken, else what is found of the others
abbrev pub if_broken : Bool → ℕ → Option ℕ → Option ℕ
if_broken broken rule others = if broken then Some rule else others
