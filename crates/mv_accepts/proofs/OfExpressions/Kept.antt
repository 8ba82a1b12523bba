-- A good judgement: what its parts are, and which rules were kept.
use Rattle.std.proofs.Common.{◌≡◌, ℕ, Bool, true, false, refl, Option, Some, None, is_none, if◌then◌else◌, List, [], ◌∷◌}
use Rattle.std.specs.List.{AllByRecursion}
use Rattle.mv_syntax.specs.declared.place.Place.{Place}
use Rattle.mv_check_scope.specs.declared.scope.Scope.{Scope}
use Rattle.mv_check_expressions.specs.declared.seen.Seen.{Seen}
use Rattle.mv_check_expressions.specs.declared.seen.Use.{Use}
use Rattle.mv_check_expressions.specs.Judged.{Judged, Good, Broken, and_then, first_broken, unless_broken}
use Rattle.mv_check_expressions.specs.Found.{Layer}
use Rattle.mv_check_expressions.specs.Rules.{breaks_names, breaks_operands, breaks_assignments, breaks_conversions, breaks_calls, breaks_indexes, breaks_void, breaks_switch_assignments, breaks_plan_arguments, breaks_definitions, breaks_placements}
use Rattle.mv_check_expressions.specs.Breaches.{breaches, concluded}

pub went_on : {A B : Type 0} → (j : Judged A) (next : A → Judged B) (y : B) → and_then j next ≡ Good y → (x : A) × (j ≡ Good x) × (next x ≡ Good y)
went_on (Good x) next y h = (x, refl, h)
went_on (Broken place rule) next y h = absurd (cc)

pub same_good : {A : Type 0} (x y : A) → Good x ≡ Good y → x ≡ y
same_good x y h = cc

-- what is not none is some
pub defined : {A : Type 0} (o : Option A) → is_none o ≡ false → (x : A) × (o ≡ Some x)
defined None h = absurd (cc)
defined (Some x) h = (x, refl)

-- the rules that a node keeps
pub record Keeps (scope : Scope) (u : Use) (layer : Layer) : Type 0 where
  pub undeclared : breaks_names scope layer ≡ false
  pub operands : breaks_operands layer ≡ false
  pub assigned : breaks_assignments layer ≡ false
  pub converted : breaks_conversions scope layer ≡ false
  pub called : breaks_calls scope layer ≡ false
  pub indexed : breaks_indexes scope u layer ≡ false
  pub void : breaks_void scope u layer ≡ false
  pub switch : breaks_switch_assignments scope layer ≡ false
  pub named : breaks_plan_arguments scope u layer ≡ false
  pub undefined : breaks_definitions scope layer ≡ false
  pub misplaced : breaks_placements scope u layer ≡ false

module _ (place : Place) (x y : Seen) where
  one_kept : (flag : Bool) (rule : ℕ) (rest : Option ℕ) → unless_broken place (if flag then Some rule else rest) x ≡ Good y → (flag ≡ false) × (unless_broken place rest x ≡ Good y)
  one_kept true rule rest h = absurd (cc)
  one_kept false rule rest h = (refl, h)

  all_kept : (rows : List (ℕ × Bool)) → unless_broken place (first_broken rows) x ≡ Good y → AllByRecursion (λ b. b.1 ≡ false) rows × (x ≡ y)
  all_kept [] h = (tt, same_good x y h)
  all_kept (b ∷ rows) h =
      let one = one_kept b.1 b.0 (first_broken rows) h in
      let rest = all_kept rows one.1 in
      ((one.0, rest.0), rest.1)

  pub kept : (scope : Scope) (u : Use) (layer : Layer) → concluded place (breaches scope u layer) x ≡ Good y → Keeps scope u layer × (x ≡ y)
  unfolding concluded
  kept scope u layer h =
      let all = all_kept (breaches scope u layer) h in
      let k = all.0 in (
        record {
          undeclared = k.0;
          operands = k.1.0;
          assigned = k.1.1.0;
          converted = k.1.1.1.0;
          called = k.1.1.1.1.0;
          indexed = k.1.1.1.1.1.0;
          void = k.1.1.1.1.1.1.0;
          switch = k.1.1.1.1.1.1.1.0;
          named = k.1.1.1.1.1.1.1.1.0;
          undefined = k.1.1.1.1.1.1.1.1.1.0;
          misplaced = k.1.1.1.1.1.1.1.1.1.1.0;
        },
        all.1,
      )
