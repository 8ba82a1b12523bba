-- Declarations in a block agree.
use Rattle.std.proofs.Common.{◌≡◌, ℕ, refl, arith, sym, ◌∙◌, ap, Bool, true, false, ◌||◌, ◌&&◌, not, nat_eq, nat_le, if◌then◌else◌, Option, Some, None, List, [], ◌∷◌, ◌++◌, map, length, le-leb}
use Rattle.std.proofs.lemmas.List.{length-map}
use Rattle.mv_syntax.specs.declared.place.Place.{Place}
use Rattle.mv_ast.specs.declared.program.CType.{CType}
use Rattle.mv_ast.specs.declared.program.CType.TheVariants as ctype
use Rattle.mv_ast.specs.declared.program.Expr.{Expr}
use Rattle.mv_ast.specs.declared.program.Local.{Local}
use Rattle.mv_ast.specs.declared.program.Stmt.{Stmt}
use Rattle.mv_ast.specs.declared.program.Stmt.TheVariants as stmt
use Rattle.mv_syntax.specs.declared.unit.Declarator.{Declarator}
use Rattle.mv_syntax.specs.declared.unit.Initial.{Initial}
use Rattle.mv_syntax.specs.declared.unit.Initial.TheVariants as initial
use Rattle.mv_syntax.specs.declared.unit.Specs.{out-Specs}
use Rattle.mv_check_scope.specs.declared.meaning.Meaning.{Meaning}
use Rattle.mv_check_scope.specs.declared.scope.Scope.{Scope}
use Rattle.mv_check_scope.specs.Constants.{converts}
use Rattle.mv_check_scope.specs.Conversions.{is_void, converted_to}
use Rattle.mv_check_scope.specs.Scoped.{declared, with_local}
use Rattle.mv_check_expressions.specs.declared.constant.Constant.{Constant}
use Rattle.mv_check_expressions.specs.Judged.{Judged, Good, Broken, and_then, first_broken, unless_broken}
use Rattle.mv_check_expressions.specs.Judgements.{value_judgement}
use Rattle.mv_check_declarations.specs.declared.attributes.Position.TheVariants as position
use Rattle.mv_check_declarations.specs.declared.declarators.Entity.{Entity}
use Rattle.mv_check_declarations.specs.declared.declarators.Entity.TheVariants as entity
use Rattle.mv_check_declarations.specs.declared.initials.Converted.{Converted}
use Rattle.mv_check_declarations.specs.Initials.{initial_values}
use Rattle.mv_check_declarations.specs.Initials as code_initials
use Rattle.mv_check_declarations.specs.Objects.{scalar, array, sized, least}
use Rattle.mv_check_declarations.specs.Objects as objects
use Rattle.mv_check_declarations.specs.Locals.{scalar_meaning, array_meaning, own_scope, rule_of_function, by_entity}
use Rattle.mv_check_declarations.specs.Locals as code
use Rattle.mv_check_declarations.specs.Declarators as code_declarators
use Rattle.mv_check_rules.specs.Nodes.{Declared, Given, Nothing, Value, Values, Characters}
use Rattle.mv_check_rules.specs.Nodes as node
use Rattle.mv_check_rules.specs.Rules.{all_convert, array_size, converts_given, fits_extent, filled, is_string, stands_here, concluded}
use Rattle.mv_check_rules.specs.Declarations.{given, expressions_of, local_meaning, named_unless, local_named, local_found, local_node, local}
use Rattle.mv_check_rules.proofs.Agreement.{mapped, over, attribution_of, declared_of, base_of_specified, LocalDeclarationAgrees}
use Rattle.mv_check_rules.proofs.Parts.{or_true, or_false, IfGood, then_from, then_then, found_in_turn}
use Rattle.mv_check_rules.proofs.Attributes.{attributes_agree}
use Rattle.mv_check_rules.proofs.Bases.{specifiers_agree, holders_agree}
use Rattle.mv_check_rules.proofs.Shapes.{declared_agrees}
use Rattle.mv_check_rules.proofs.Values.{IsOf, given_is, sizes_agree}
use Rattle.mv_check_rules.proofs.Initials.{given_same, values_of, converted_all, values_agree}

-- ---- objects

-- the rules of an object, and what it is if it breaks none
outcome : (place : Place) (taken unconverted void extents : Bool) (found : Scope × Stmt) (es : List Expr) (own : Scope) (n : ℕ) →
    (taken ≡ false → found ≡ (own, stmt.Clear n es)) →
    unless_broken place (first_broken ((2, taken) ∷ (5, unconverted) ∷ (8, void) ∷ (10, extents) ∷ [])) found ≡
    and_then (objects.unless_broken place (least (record { redeclared = taken; unconverted = unconverted; void = void; extents = extents; block = false })) es)
    (λ es. Good (own, stmt.Clear n es))
unfolding least
outcome place true unconverted void extents found es own n h = refl
outcome place false true void extents found es own n h = refl
outcome place false false true extents found es own n h = refl
outcome place false false false true found es own n h = refl
outcome place false false false false found es own n h = ap Good (h refl)

abbrev count : CType → Given → ℕ
count t g = length (map (converted_to t) (expressions_of g))

module _ (t : CType) (fixed : Bool) where
  scalar_converts : (values : Option Initial) (g : Given) → IsOf values g →
      (not (is_void t) && not (converts_given (node.Scalar t fixed) g)) ≡ objects.is_unconverted (scalar t) values (converted_all t g)
  scalar_converts None Nothing h = refl
  scalar_converts (Some (initial.Value n)) (Value e) h = ap (λ b. not (is_void t) && b) (or_false (not (converts e t)))
  scalar_converts (Some (initial.Values ns)) (Values es) h = ap (λ b. not (is_void t) && b) (or_false (not (all_convert t es)))
  scalar_converts (Some (initial.Chars bytes)) (Characters more) h = refl
  scalar_converts values g h = elim h [ ]

  scalar_extents : (values : Option Initial) (g : Given) → IsOf values g →
      (is_string g || not (fits_extent (node.Scalar t fixed) g)) ≡ objects.breaks_extents false (scalar t) values (count t g)
  scalar_extents None Nothing h = refl
  scalar_extents (Some (initial.Value n)) (Value e) h = refl
  scalar_extents (Some (initial.Values ns)) (Values es) h = refl
  scalar_extents (Some (initial.Chars bytes)) (Characters more) h = refl
  scalar_extents values g h = elim h [ ]

  array_converts : (size : Option Constant) (n : ℕ) (values : Option Initial) (g : Given) → IsOf values g →
      (not (is_void t) && not (converts_given (node.Array t fixed size) g)) ≡ objects.is_unconverted (array t n) values (converted_all t g)
  array_converts size n None Nothing h = refl
  array_converts size n (Some (initial.Value e)) (Value x) h = ap (λ b. not (is_void t) && b) (or_true (not (converts x t)))
  array_converts size n (Some (initial.Values ns)) (Values es) h = ap (λ b. not (is_void t) && b) (or_false (not (all_convert t es)))
  array_converts size n (Some (initial.Chars bytes)) (Characters more) h = refl
  array_converts size n values g h = elim h [ ]

  no_room : (none fits : Bool) → not (not none && fits) ≡ (none || not fits)
  no_room true fits = refl
  no_room false fits = refl

  array_extents : (n : ℕ) (values : Option Initial) (g : Given) → IsOf values g →
      (is_string g || not (not (nat_eq n 0) && nat_le (filled g) n)) ≡ objects.breaks_extents false (array t n) values (count t g)
  array_extents n None Nothing h = no_room (nat_eq n 0) (nat_le 0 n) ∙ ap (λ b. nat_eq n 0 || not b) (le-leb 0 n (omega arith))
  array_extents n (Some (initial.Value m)) (Value e) h = no_room (nat_eq n 0) (nat_le 0 n) ∙ ap (λ b. nat_eq n 0 || not b) (le-leb 0 n (omega arith))
  array_extents n (Some (initial.Values ns)) (Values es) h =
      no_room (nat_eq n 0) (nat_le (length es) n) ∙ ap (λ k. nat_eq n 0 || not (nat_le k n)) (sym (length-map es (converted_to t)))
  array_extents n (Some (initial.Chars bytes)) (Characters more) h = or_true (nat_eq n 0)
  array_extents n values g h = elim h [ ]

-- ---- what follows values

module _ (t : CType) (values : Option Initial) (own other : Scope) (same : given value_judgement values other ≡ given value_judgement values own) {R : Type 0}
    (next : Given → Judged R) (rest : Converted → Judged R) (agree : (g : Given) → IsOf values g → next g ≡ rest (values_of t g)) where
  values_then : and_then (given value_judgement values other) next ≡ and_then (initial_values t values own) rest
  values_then =
      ap (λ j. and_then j next) same ∙
      (by (given value_judgement values own) (given_is value_judgement values own) ∙ ap (λ j. and_then j rest) (sym (values_agree t own values)))
    where
      by : (j : Judged Given) → IfGood (IsOf values) j → and_then j next ≡ and_then (mapped (values_of t) j) rest
      by (Good g) h = agree g h
      by (Broken place rule) h = refl

-- ---- the scope of a local's own initial value

abbrev named_in : Bool → Scope → List ℕ → Meaning → Scope
named_in taken s name m = if taken then s else declared s name m

own_same : (values : Option Initial) (s : Scope) (name : List ℕ) (l : Local) (m : Meaning) (taken : Bool) →
    given value_judgement values (named_in taken s name m) ≡ given value_judgement values (if taken then s else declared (with_local s l) name m)
own_same values s name l m true = refl
own_same values s name l m false = sym (given_same (declared s name m) (s.locals ++ l ∷ []) values)

with_own : (s : Scope) (name : List ℕ) (l : Local) (m : Meaning) (c : Stmt) (taken : Bool) → taken ≡ false →
    ◌≡◌ {A = Scope × Stmt} (with_local (named_in taken s name m) l, c) (if taken then s else declared (with_local s l) name m, c)
with_own s name l m c true q = absurd (cc)
with_own s name l m c false q = refl

-- ---- a declarator

module _ (place : Place) (values : Option Initial) (s : Scope) (t : CType) (fixed : Bool) where
  abbrev clear : Given → Stmt
  clear g = stmt.Clear (length s.locals) (map (converted_to t) (expressions_of g))

  -- how the code concludes
  abbrev code_concludes : Option (List ℕ) → Local → Meaning → Converted → Judged (Scope × Stmt)
  code_concludes name l m x =
      and_then (objects.unless_broken place (code.rule_of name (code_declarators.is_taken_by s name) l values x) x.values)
      (λ es. Good (own_scope s name l m, stmt.Clear (length s.locals) es))

  abbrev rules_conclude : Option (List ℕ) → Declared → Given → Judged (Scope × Stmt)
  rules_conclude name d g = concluded place s (local_node name d g) (local_found s (local_named s name d) d g)

  scalar_concluded : (name : Option (List ℕ)) (g : Given) → IsOf values g →
      rules_conclude name (node.Scalar t fixed) g ≡ code_concludes name (scalar t) (scalar_meaning (length s.locals) t fixed) (values_of t g)
  unfolding own_scope
  scalar_concluded None g h = refl
  scalar_concluded (Some name) g h =
      ap (λ u. unless_broken place (first_broken ((2, taken) ∷ (5, u) ∷ (8, is_void t) ∷ (10, is_string g || not (fits_extent (node.Scalar t fixed) g)) ∷ [])) found)
      (scalar_converts t fixed values g h) ∙
      (ap (λ x. unless_broken place (first_broken ((2, taken) ∷ (5, objects.is_unconverted (scalar t) values (converted_all t g)) ∷ (8, is_void t) ∷ (10, x) ∷ [])) found)
      (scalar_extents t fixed values g h) ∙
      outcome place taken (objects.is_unconverted (scalar t) values (converted_all t g)) (is_void t) (objects.breaks_extents false (scalar t) values (count t g)) found
      (map (converted_to t) (expressions_of g)) (own_scope s (Some name) (scalar t) (scalar_meaning (length s.locals) t fixed)) (length s.locals)
      (λ q. with_own s name (scalar t) (scalar_meaning (length s.locals) t fixed) (clear g) taken q))
    where
      taken : Bool
      taken = stands_here s name

      found : Scope × Stmt
      found = local_found s (local_named s (Some name) (node.Scalar t fixed)) (node.Scalar t fixed) g

  array_concluded : (size : Option Constant) (name : Option (List ℕ)) (g : Given) → IsOf values g →
      rules_conclude name (node.Array t fixed size) g ≡ code_concludes name (array t (array_size size g)) (array_meaning (length s.locals) t fixed) (values_of t g)
  unfolding own_scope
  array_concluded size None g h = refl
  array_concluded size (Some name) g h =
      ap (λ u. unless_broken place (first_broken ((2, taken) ∷ (5, u) ∷ (8, is_void t) ∷ (10, is_string g || not (not (nat_eq n 0) && nat_le (filled g) n)) ∷ [])) found)
      (array_converts t fixed size n values g h) ∙
      (ap (λ x. unless_broken place (first_broken ((2, taken) ∷ (5, objects.is_unconverted (array t n) values (converted_all t g)) ∷ (8, is_void t) ∷ (10, x) ∷ [])) found)
      (array_extents t fixed n values g h) ∙
      outcome place taken (objects.is_unconverted (array t n) values (converted_all t g)) (is_void t) (objects.breaks_extents false (array t n) values (count t g)) found
      (map (converted_to t) (expressions_of g)) (own_scope s (Some name) (array t n) (array_meaning (length s.locals) t fixed)) (length s.locals)
      (λ q. with_own s name (array t n) (array_meaning (length s.locals) t fixed) (clear g) taken q))
    where
      n : ℕ
      n = array_size size g

      taken : Bool
      taken = stands_here s name

      found : Scope × Stmt
      found = local_found s (local_named s (Some name) (node.Array t fixed size)) (node.Array t fixed size) g

function_concluded : (place : Place) (name : Option (List ℕ)) (s : Scope) (f : ℕ) (g : Given) (found : Scope × Stmt) →
    concluded place s (local_node name (node.Function f) g) found ≡ Broken place (rule_of_function s name)
unfolding rule_of_function
function_concluded place None s f g found = refl
function_concluded place (Some name) s f g found = by (stands_here s name)
  where
    by : (taken : Bool) → unless_broken place (first_broken ((2, taken) ∷ (22, true) ∷ [])) found ≡ Broken place (if taken then 2 else 22)
    by true = refl
    by false = refl

function_scope : (name : Option (List ℕ)) (s : Scope) (f : ℕ) → local_named s name (node.Function f) ≡ s
function_scope None s f = refl
function_scope (Some name) s f = refl

own_agrees : (values : Option Initial) (s : Scope) (name : Option (List ℕ)) (l : Local) (d : Declared) (m : Meaning) → local_meaning s d ≡ Some m →
    given value_judgement values (local_named s name d) ≡ given value_judgement values (own_scope s name l m)
unfolding own_scope
own_agrees values s None l d m q = refl
own_agrees values s (Some name) l d m q =
    ap (λ found. given value_judgement values (named_unless (stands_here s name) s name found)) q ∙ own_same values s name l m (stands_here s name)

by_entity_agrees : (d : Declarator) (e : Entity) (s : Scope) →
    and_then (given value_judgement d.initial (local_named s d.name (declared_of e)))
    (λ g. concluded d.place s (local_node d.name (declared_of e) g) (local_found s (local_named s d.name (declared_of e)) (declared_of e) g)) ≡ by_entity d e s
by_entity_agrees d (entity.Scalar t fixed) s =
    values_then t d.initial (own_scope s d.name (scalar t) m) (local_named s d.name (node.Scalar t fixed)) (own_agrees d.initial s d.name (scalar t) (node.Scalar t fixed) m refl)
    (rules_conclude d.place d.initial s t fixed d.name (node.Scalar t fixed)) (code_concludes d.place d.initial s t fixed d.name (scalar t) m)
    (scalar_concluded d.place d.initial s t fixed d.name) ∙
    sym (then_then _ _ (initial_values t d.initial (own_scope s d.name (scalar t) m)))
  where
    m : Meaning
    m = scalar_meaning (length s.locals) t fixed
by_entity_agrees d (entity.Array t fixed size) s =
    values_then t d.initial (own_scope s d.name l m) (local_named s d.name (node.Array t fixed size)) (own_agrees d.initial s d.name l (node.Array t fixed size) m refl)
    (rules_conclude d.place d.initial s t fixed d.name (node.Array t fixed size)) (code_concludes d.place d.initial s t fixed d.name l m)
    (λ g h. array_concluded d.place d.initial s t fixed size d.name g h ∙
    ap (λ n. code_concludes d.place d.initial s t fixed d.name (array t n) m (values_of t g)) (sym (sizes_agree size d.initial g h))) ∙
    sym (then_then _ _ (initial_values t d.initial (own_scope s d.name l m)))
  where
    m : Meaning
    m = array_meaning (length s.locals) t fixed

    l : Local
    l = sized t (code_initials.array_size size d.initial)
by_entity_agrees d (entity.Function f) s =
    values_then ctype.Void d.initial s (local_named s d.name (node.Function f)) (ap (given value_judgement d.initial) (function_scope d.name s f)) _ _
    (λ g h. function_concluded d.place d.name s f g (local_found s (local_named s d.name (node.Function f)) (node.Function f) g))

local_agrees : (t : CType) (fixed : Bool) (d : Declarator) (s : Scope) → local t fixed d s ≡ code.local t fixed d s
local_agrees t fixed d s =
    then_from (over declared_of) _ _
    (λ e. then_from attribution_of _ _ (λ a. by_entity_agrees d e.1 e.0) _ _ (attributes_agree (node.LocalObject ∷ []) None e.0 d.marks None))
    _ _ (declared_agrees d.shape t fixed s)

pub local_declaration_agrees : LocalDeclarationAgrees
local_declaration_agrees s specs ds =
    then_from (over base_of_specified) _ _
    (λ b. found_in_turn (local b.1.ctype b.1.fixed) (code.local b.1.ctype b.1.fixed) (local_agrees b.1.ctype b.1.fixed) ds (b.0, []))
    _ _ (specifiers_agree position.Block (map (λ d. node.LocalObject) ds) ds specs s (holders_agree position.Block (out-Specs specs).fixed (λ d. node.LocalObject) (λ d. refl) ds))
