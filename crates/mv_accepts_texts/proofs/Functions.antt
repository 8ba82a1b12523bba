-- A function that is defined names what its text names.
use Rattle.std.proofs.Common.{◌≡◌, ℕ, Bool, true, false, ◌||◌, refl, sym, ◌∙◌, ap, if◌then◌else◌, List, [], ◌∷◌, map, length, Option, Some, None}
use Rattle.std.proofs.lemmas.List.Folds.{list_any-append}
use Rattle.std.specs.List.{AllByRecursion}
use Rattle.mv_syntax.specs.declared.place.Place.{Place}
use Rattle.mv_ast.specs.declared.program.CType.{CType}
use Rattle.mv_ast.specs.declared.program.Function.{Function}
use Rattle.mv_syntax.specs.declared.unit.Item.{Item}
use Rattle.mv_syntax.specs.declared.unit.Line.{Line}
use Rattle.mv_syntax.specs.declared.unit.Param.{Param}
use Rattle.mv_check_scope.specs.Scoped.{meaning_of}
use Rattle.mv_check_scope.specs.declared.scope.Scope.{Scope}
use Rattle.mv_check_limits.specs.Ordered.{line_parameters}
use Rattle.mv_check_expressions.specs.Judged.{first_broken, unless_broken}
use Rattle.mv_check_rules.specs.Nodes as node
use Rattle.mv_check_rules.specs.Rules.{breaches, concluded}
use Rattle.mv_check_rules.specs.Declarations.{parameters}
use Rattle.mv_check_rules.specs.Statements.{body}
use Rattle.mv_check_rules.specs.Units.{function_entered, definition, is_attributed}
use Rattle.mv_accepts.proofs.OfStatements.Judging.{IfGood, if_then}
use Rattle.mv_accepts.proofs.OfStatements.Names.{entered_means, left_is}
use Rattle.mv_accepts_texts.specs.Expressions.{NameList}
use Rattle.mv_accepts_texts.specs.Meanings.{is_global, names_global}
use Rattle.mv_accepts_texts.specs.Texts.{in_turn, parameter, part_of, names_in_function}
use Rattle.mv_accepts_texts.proofs.Forms.{StmtsName}
use Rattle.mv_accepts_texts.proofs.Scopes.{few, FewIn, hides_none, Tells}
use Rattle.mv_accepts_texts.proofs.Locals.{params_counts, parameters_tell}
use Rattle.mv_accepts_texts.proofs.Statements.{Body, body_tells}

-- ---- the rules that a node keeps

none_broken : (bs : List (ℕ × Bool)) → first_broken bs ≡ None → AllByRecursion (λ b. b.1 ≡ false) bs
none_broken [] h = tt
none_broken (b ∷ bs) h = by b.1 refl h (none_broken bs)
  where
    by : (x : Bool) → b.1 ≡ x → (if x then Some b.0 else first_broken bs) ≡ None → (first_broken bs ≡ None → AllByRecursion (λ (c : ℕ × Bool). c.1 ≡ false) bs) →
        AllByRecursion (λ (c : ℕ × Bool). c.1 ≡ false) (b ∷ bs)
    by true e k rest = absurd (cc)
    by false e k rest = (e, rest k)

pub rules_kept : {A : Type 0} (place : Place) (s : Scope) (n : node.Node) (found : A) →
    IfGood (concluded place s n found) (λ x. (x ≡ found) × AllByRecursion (λ b. b.1 ≡ false) (breaches s n))
rules_kept place s n found = by (first_broken (breaches s n)) refl
  where
    by : (o : Option ℕ) → first_broken (breaches s n) ≡ o → IfGood (unless_broken place o found) (λ x. (x ≡ found) × AllByRecursion (λ b. b.1 ≡ false) (breaches s n))
    by None e = (refl, none_broken (breaches s n) e)
    by (Some rule) e = tt

-- ---- names that mean the same

pub names_same : (s t : Scope) (g : ℕ) → ((n : List ℕ) → is_global g (meaning_of t n) ≡ is_global g (meaning_of s n)) → (names : NameList) →
    names_global g t names ≡ names_global g s names
names_same s t g h [] = refl
names_same s t g h (n ∷ names) = ap (λ b. b || names_global g t names) (h n) ∙ ap (λ b. is_global g (meaning_of s n) || b) (names_same s t g h names)

-- ---- definitions

pub record Defined (s t : Scope) (spelling : List ℕ) (params : List Param) (b : Line) (f : Function) : Type 0 where
  pub names : t.names ≡ s.names
  pub few : few (params_counts params) → few (line_parameters b) → FewIn s → FewIn t
  pub name : f.name ≡ spelling
  pub count : f.params ≡ length params
  pub named : (g : ℕ) → StmtsName g f.body ≡ names_global g s (names_in_function params b)

pub definition_tells : (items : List Item) (name : List ℕ) (result : CType) (params : List Param) (b : Line) (s : Scope) →
    IfGood (definition items name result params b s) (λ d. Defined s d.0 name params b d.1)
definition_tells items name result params b s =
    let start : Scope = function_entered (is_attributed items name) s in
    let R : Scope × Function → Type 0 = λ d. Defined s d.0 name params b d.1 in
    if_then (λ p. Tells start (in_turn (map parameter params)) (params_counts params) start p (λ g. false)) R (parameters params start) _
    (parameters_tell start params start) (λ p h.
    if_then (λ d. Body start (part_of b) (line_parameters b) p d.0 d.1) R (body result b p) _ (body_tells start result b p) (λ d k.
    record {
      names = left_is s.names d.0.names (k.moves.around ∙ h.moves.around);
      few = λ x y z. k.moves.few y (h.moves.few x z);
      name = refl;
      count = refl;
      named = λ g.
          let declared : NameList = ((in_turn (map parameter params)) []).0 in
          let rest : NameList = (part_of b declared).1 in
          k.named declared g (h.hidden [] (hides_none start)) ∙
          (ap (λ x. x || names_global g start rest) (h.named [] g (hides_none start)) ∙
          (sym (list_any-append (λ n. is_global g (meaning_of start n)) ((in_turn (map parameter params)) []).1 rest) ∙
          names_same s start g (λ n. ap (is_global g) (entered_means s n)) (names_in_function params b)));
    }))
