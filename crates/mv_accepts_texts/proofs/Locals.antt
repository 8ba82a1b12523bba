-- What declarations in a block and the parameters of a function do to the scope.
use Rattle.std.proofs.Common.{◌≡◌, ℕ, Bool, true, false, ◌||◌, refl, sym, ◌∙◌, ap, subst, is_some, if◌then◌else◌, length, List, [], ◌∷◌, ◌++◌, map, append-nil, append_assoc, Option, Some, None}
use Rattle.std.specs.List.{concat, flat_map}
use Rattle.std.proofs.lemmas.List.Folds.{list_any-append}
use Rattle.mv_syntax.specs.declared.place.Place.{Place}
use Rattle.mv_ast.specs.declared.program.CType.{CType}
use Rattle.mv_ast.specs.declared.program.Expr.{Expr}
use Rattle.mv_ast.specs.declared.program.Stmt.{Stmt}
use Rattle.mv_syntax.specs.declared.unit.Declarator.{Declarator}
use Rattle.mv_syntax.specs.declared.unit.Initial.{Initial}
use Rattle.mv_syntax.specs.declared.unit.Initial.TheVariants as initial
use Rattle.mv_syntax.specs.declared.unit.Node.{Node}
use Rattle.mv_syntax.specs.declared.unit.Param.{Param}
use Rattle.mv_syntax.specs.declared.unit.Specs.{Specs}
use Rattle.mv_check_scope.specs.Conversions.{is_void, converted_to}
use Rattle.mv_check_scope.specs.Scoped.{with_local}
use Rattle.mv_check_scope.specs.Spaces.{named}
use Rattle.mv_check_scope.specs.declared.meaning.Meaning.{Meaning}
use Rattle.mv_check_scope.specs.declared.scope.Scope.{Scope}
use Rattle.mv_check_expressions.specs.Judged.{each, unless_broken}
use Rattle.mv_check_expressions.specs.Judgements.{value_judgement}
use Rattle.mv_check_limits.specs.Ordered.{declarator_parameters, shape_parameters}
use Rattle.mv_check_limits.proofs.Forms.{declarator_is}
use Rattle.mv_check_outline.specs.Outlined.{name_of}
use Rattle.mv_check_rules.specs.Nodes.{Declared, Scalar, Array, Function, Given, Nothing, Value, Values, Characters}
use Rattle.mv_check_rules.specs.Nodes as node
use Rattle.mv_check_rules.specs.Rules.{stands_here, concluded}
use Rattle.mv_check_rules.specs.Declarations.{in_order, found_next, attributes, specifiers, declared_as, type_or_void, is_constant, local_of, scalar_here, defined_parameter, parameters, given, expressions_of, named_unless, local_named, local_found, local_node, local, local_declaration}
use Rattle.mv_check_rules.specs.Declarations as rules
use Rattle.mv_accepts.proofs.OfStatements.Judging.{IfGood, by_good, if_any, if_more, if_then}
use Rattle.mv_accepts.proofs.OfNumbers.NameLists.{or_nothing}
use Rattle.mv_accepts_texts.specs.Expressions.{NameList, names_in}
use Rattle.mv_accepts_texts.specs.Meanings.{is_global, names_global}
use Rattle.mv_accepts_texts.specs.Texts.{Part, enumerators_of, names_in_initial, naming, declaring, next, in_turn, declarator, parameter}
use Rattle.mv_accepts_texts.proofs.Globals.{either_same, among_both, NamesAny, Names, converted_names}
use Rattle.mv_accepts_texts.proofs.Expressions.{value_names}
use Rattle.mv_accepts_texts.proofs.Forms.{StmtNames, StmtsName, any_one, clear_names}
use Rattle.mv_accepts_texts.proofs.Scopes.{few, few_alone, hides_names, hides_joined, Moves, Tells, tells_made, tells_counts, tells_same, tells_naming, tells_declaring, tells_next}
use Rattle.mv_accepts_texts.proofs.Specifiers.{Adds, adds_same, adds_joined, adds_declared, if_new, specifiers_adds}
use Rattle.mv_accepts_texts.proofs.Shapes.{Keeps, declared_keeps}

-- ---- initial values

abbrev Given_names : Scope → NameList → List Expr → Type 0
Given_names s names es = (g : ℕ) → NamesAny g es ≡ names_global g s names

each_names : (s : Scope) (ns : List Node) → IfGood (each (map (value_judgement s) ns)) (Given_names s (flat_map names_in ns))
each_names s [] = λ g. refl
each_names s (n ∷ ns) =
    if_then (λ e. (g : ℕ) → Names g e ≡ names_global g s (names_in n)) (Given_names s (flat_map names_in (n ∷ ns))) (value_judgement s n) _
    (by_good _ (value_judgement s n) (λ e q g. value_names g s n e q)) (λ e h.
    if_then (Given_names s (flat_map names_in ns)) (Given_names s (flat_map names_in (n ∷ ns))) (each (map (value_judgement s) ns)) _ (each_names s ns) (λ es k g.
    among_both g _ _ ∙
    (either_same g _ _ _ _ (h g) (k g) ∙ sym (list_any-append (λ name. is_global g _) (names_in n) (flat_map names_in ns)))))

given_names : (s : Scope) (o : Option Initial) → IfGood (given value_judgement o s) (λ x. Given_names s (names_in_initial o) (expressions_of x))
given_names s None = λ g. refl
given_names s (Some (initial.Value n)) =
    if_then (λ e. (g : ℕ) → Names g e ≡ names_global g s (names_in n)) (λ x. Given_names s (names_in n) (expressions_of x)) (value_judgement s n) _
    (by_good _ (value_judgement s n) (λ e q g. value_names g s n e q)) (λ e h g. any_one g e ∙ h g)
given_names s (Some (initial.Values ns)) =
    if_then (Given_names s (flat_map names_in ns)) (λ x. Given_names s (flat_map names_in ns) (expressions_of x)) (each (map (value_judgement s) ns)) _
    (each_names s ns) (λ es h. h)
given_names s (Some (initial.Chars bytes)) = λ g. refl

converted_all : (g : ℕ) (t : CType) (es : List Expr) → NamesAny g (map (converted_to t) es) ≡ NamesAny g es
converted_all g t [] = refl
converted_all g t (e ∷ es) = among_both g _ _ ∙ (either_same g _ _ _ _ (converted_names g t e) (converted_all g t es) ∙ sym (among_both g _ _))

-- ---- names

pub broken_anyway : {A : Type 0} (P : A → Type 0) (place : Place) (found : A) (b : Bool) (first second : ℕ) →
    IfGood (unless_broken place (if b then Some first else Some second) found) P
broken_anyway P place found true first second = tt
broken_anyway P place found false first second = tt

-- the name of a local
module _ (place : Place) (s : Scope) (found : Scope × Stmt) where
  abbrev Found_local : Option (List ℕ) → Declared → Scope × Stmt → Type 0
  Found_local name e y = (y ≡ found) × Adds (or_nothing name ∷ []) s (local_named s name e)

  named_local : (name : List ℕ) (m : Meaning) → named name s.names.here ≡ None → ((g : ℕ) → is_global g (Some m) ≡ false) →
      Adds (name ∷ []) s (named_unless (stands_here s name) s name (Some m))
  named_local name m q h = subst (λ o. Adds (name ∷ []) s (named_unless (is_some o) s name (Some m))) (sym q) (adds_declared s name m q h)

  local_concluded : (name : Option (List ℕ)) (e : Declared) (x : Given) → IfGood (concluded place s (local_node name e x) found) (Found_local name e)
  local_concluded None e x = tt
  local_concluded (Some name) (Scalar t c) x =
      if_more _ (Found_local (Some name) (Scalar t c)) (concluded place s (local_node (Some name) (Scalar t c) x) found)
      (λ y h. (h.0, named_local name _ h.1 (λ g. refl))) (if_new place found (named name s.names.here) (named name s.names.here) _ refl)
  local_concluded (Some name) (Array t c size) x =
      if_more _ (Found_local (Some name) (Array t c size)) (concluded place s (local_node (Some name) (Array t c size) x) found)
      (λ y h. (h.0, named_local name _ h.1 (λ g. refl))) (if_new place found (named name s.names.here) (named name s.names.here) _ refl)
  local_concluded (Some name) (Function f) Nothing = broken_anyway (Found_local (Some name) (Function f)) place found (stands_here s name) 2 22
  local_concluded (Some name) (Function f) (Value v) = broken_anyway (Found_local (Some name) (Function f)) place found (stands_here s name) 2 22
  local_concluded (Some name) (Function f) (Values vs) = broken_anyway (Found_local (Some name) (Function f)) place found (stands_here s name) 2 22
  local_concluded (Some name) (Function f) (Characters cs) = broken_anyway (Found_local (Some name) (Function f)) place found (stands_here s name) 2 22

-- the name of a parameter
module _ (place : Place) (s : Scope) where
  abbrev Found_parameter : Option (List ℕ) → Scope → Type 0
  Found_parameter name t = Adds (or_nothing name ∷ []) s t

  parameter_concluded : (name : Option (List ℕ)) (e : Declared) → IfGood (concluded place s (node.Parameter true name e) (defined_parameter name e s)) (Found_parameter name)
  parameter_concluded None (Scalar t c) = broken_anyway (Found_parameter None) place _ (is_void t) 8 22
  parameter_concluded None (Array t c size) = tt
  parameter_concluded None (Function f) = tt
  parameter_concluded (Some name) e =
      let l = local_of (type_or_void e) None in
      let t : Scope = defined_parameter (Some name) e s in
      if_more (λ x. (x ≡ t) × (named name s.names.here ≡ None)) (Found_parameter (Some name)) (concluded place s (node.Parameter true (Some name) e) t)
      (λ x h. subst (λ y. Adds (name ∷ []) s y) (sym h.0)
      (adds_joined [] (name ∷ []) s (with_local s l) t (adds_same s (with_local s l) refl refl)
      (adds_declared (with_local s l) name (scalar_here (length s.locals) (type_or_void e) (is_constant e)) h.1 (λ g. refl))))
      (if_new place t (named name s.names.here) (named name s.names.here) _ refl)

-- ---- declarators

abbrev pub params_counts : List Param → List ℕ
params_counts ps = concat (map (λ p. declarator_parameters p.name) ps)

module _ (start : Scope) where
  abbrev Local : Declarator → Scope → Scope × Stmt → Type 0
  Local d s e = Tells start (declarator d) (declarator_parameters d) s e.0 (λ g. StmtNames g e.1)

  local_tells : (t : CType) (fixed : Bool) (d : Declarator) (s : Scope) → IfGood (local t fixed d s) (Local d s)
  local_tells t fixed d s =
      let c : List ℕ = shape_parameters d.shape in
      if_then (λ e. Keeps c s e.0) (Local d s) (declared_as d.shape t fixed s) _ (declared_keeps d.shape t fixed s) (λ e h.
      if_then (λ a. Unit {0}) (Local d s) (attributes (node.LocalObject ∷ []) None e.0 d.marks None) _ (if_any (attributes (node.LocalObject ∷ []) None e.0 d.marks None)) (λ a u.
      let own : Scope = local_named e.0 d.name e.1 in
      if_then (λ x. Given_names own (names_in_initial d.initial) (expressions_of x)) (Local d s) (given value_judgement d.initial own) _ (given_names own d.initial) (λ x k.
      let found : Scope × Stmt = local_found e.0 own e.1 x in
      if_more (Found_local d.place e.0 found d.name e.1) (Local d s) (concluded d.place e.0 (local_node d.name e.1 x) found)
      (λ y f. subst (Local d s) (sym f.0) (told e.0 e.1 x h k f.1)) (local_concluded d.place e.0 found d.name e.1 x))))
    where
      told : (s1 : Scope) (e : Declared) (x : Given) → Keeps (shape_parameters d.shape) s s1 →
          Given_names (local_named s1 d.name e) (names_in_initial d.initial) (expressions_of x) → Adds (or_nothing d.name ∷ []) s1 (local_named s1 d.name e) →
          Local d s (local_found s1 (local_named s1 d.name e) e x)
      told s1 e x h k f =
          let own : Scope = local_named s1 d.name e in
          let c : List ℕ = shape_parameters d.shape in
          tells_counts start (declarator d) (c ++ []) (declarator_parameters d) s _ _ (λ i. few_alone c (subst few (declarator_is d) i))
          (tells_same start (declarator d) (c ++ []) s own _ _ refl refl
          (tells_made start (declarator d) (c ++ []) s own _ _
          (λ g. clear_names g (length s1.locals) _ ∙ converted_all g (type_or_void e) (expressions_of x))
          (tells_next start (declaring (name_of d ∷ [])) (naming (names_in_initial d.initial)) c [] s own own (λ g. false) _
          (tells_declaring start (name_of d ∷ []) c s own (hides_joined [] (name_of d ∷ []) s s1 own (hides_names s s1 h.0) f.hides)
          (tells_moves s1 own h f))
          (tells_naming start (names_in_initial d.initial) own _ k))))
        where
          tells_moves : (s1 own : Scope) → Keeps (shape_parameters d.shape) s s1 → Adds (or_nothing d.name ∷ []) s1 own → Moves (shape_parameters d.shape) s own
          tells_moves s1 own h f = record {
            around = f.moves.around ∙ ap (λ names. names.around) h.0;
            few = λ i j. f.moves.few refl (h.1 i j);
          }

  -- ---- declarations

  abbrev Locals : List Declarator → Scope × List Stmt → Scope × List Stmt → Type 0
  Locals ds d e = (new : List Stmt) × (e.1 ≡ d.1 ++ new) × Tells start (in_turn (map declarator ds)) (concat (map declarator_parameters ds)) d.0 e.0 (λ g. StmtsName g new)

  stmts_more : (g : ℕ) (x : Stmt) (xs : List Stmt) → StmtsName g (x ∷ xs) ≡ (StmtNames g x || StmtsName g xs)
  stmts_more g x xs = among_both g _ _

  locals_tell : (t : CType) (fixed : Bool) (ds : List Declarator) (d : Scope × List Stmt) → IfGood (in_order (found_next (local t fixed)) ds d) (Locals ds d)
  locals_tell t fixed [] d = ([], sym (append-nil d.1), tells_naming start [] d.0 (λ g. false) (λ g. refl))
  locals_tell t fixed (x ∷ ds) d =
      if_then (λ e. (s : Stmt) × (e.1 ≡ d.1 ++ s ∷ []) × Local x d.0 (e.0, s)) (Locals (x ∷ ds) d) (found_next (local t fixed) x d) (in_order (found_next (local t fixed)) ds)
      (if_then (Local x d.0) (λ e. (s : Stmt) × (e.1 ≡ d.1 ++ s ∷ []) × Local x d.0 (e.0, s)) (local t fixed x d.0) _ (local_tells t fixed x d.0) (λ e h. (e.1, refl, h))) (λ e h.
      if_more (Locals ds e) (Locals (x ∷ ds) d) (in_order (found_next (local t fixed)) ds e)
      (λ z k. (
        h.0 ∷ k.0,
        k.1 ∙ (ap (λ ss. ss ++ k.0) h.1 ∙ append_assoc d.1 (h.0 ∷ []) k.0),
        tells_made start _ _ d.0 z.0 _ _ (λ g. stmts_more g h.0 k.0)
            (tells_next start (declarator x) (in_turn (map declarator ds)) (declarator_parameters x) (concat (map declarator_parameters ds)) d.0 e.0 z.0 _ _ h.2 k.2),
      )) (locals_tell t fixed ds e))

  adds_tell : (names : NameList) (s t : Scope) → Adds names s t → Tells start (declaring names) [] s t (λ g. false)
  adds_tell names s t h = tells_declaring start names [] s t h.hides h.moves

  pub declaration_tells : (s : Scope) (specs : Specs) (ds : List Declarator) →
      IfGood (local_declaration s specs ds)
      (λ e. Tells start (next (declaring (enumerators_of specs)) (in_turn (map declarator ds))) (concat (map declarator_parameters ds)) s e.0 (λ g. StmtsName g e.1))
  declaration_tells s specs ds =
      let c : List ℕ = concat (map declarator_parameters ds) in
      let p : Part = in_turn (map declarator ds) in
      if_then (λ b. Adds (enumerators_of specs) s b.0) (λ e. Tells start (next (declaring (enumerators_of specs)) p) c s e.0 (λ g. StmtsName g e.1))
      (specifiers true (map (λ d. node.LocalObject) ds) specs s) _ (specifiers_adds true (map (λ d. node.LocalObject) ds) specs s) (λ b h.
      if_more (Locals ds (b.0, [])) (λ e. Tells start (next (declaring (enumerators_of specs)) p) c s e.0 (λ g. StmtsName g e.1))
      (in_order (found_next (local b.1.ctype b.1.constant)) ds (b.0, []))
      (λ e k.
      tells_made start _ c s e.0 _ _ (λ g. ap (StmtsName g) k.1)
      (tells_next start (declaring (enumerators_of specs)) p [] c s b.0 e.0 (λ g. false) _ (adds_tell (enumerators_of specs) s b.0 h) k.2))
      (locals_tell b.1.ctype b.1.constant ds (b.0, [])))

  -- ---- parameters

  parameter_tells : (p : Param) (s : Scope) → IfGood (rules.parameter p s) (λ t. Tells start (parameter p) (declarator_parameters p.name) s t (λ g. false))
  parameter_tells p s =
      let c : List ℕ = shape_parameters p.name.shape in
      let R : Scope → Type 0 = λ t. Tells start (parameter p) (declarator_parameters p.name) s t (λ g. false) in
      if_then (λ b. Adds (enumerators_of p.specs) s b.0) R (specifiers true (node.Parameter ∷ []) p.specs s) _ (specifiers_adds true (node.Parameter ∷ []) p.specs s) (λ b h.
      if_then (λ e. Keeps c b.0 e.0) R (declared_as p.name.shape b.1.ctype b.1.constant b.0) _ (declared_keeps p.name.shape b.1.ctype b.1.constant b.0) (λ e k.
      if_then (λ a. Unit {0}) R (attributes (node.Parameter ∷ []) None e.0 p.name.marks b.1.attribute) _
      (if_any (attributes (node.Parameter ∷ []) None e.0 p.name.marks b.1.attribute)) (λ a u.
      if_more (Found_parameter p.name.place e.0 p.name.name) R (concluded p.name.place e.0 (node.Parameter true p.name.name e.1) (defined_parameter p.name.name e.1 e.0))
      (λ t f. told b.0 e.0 t h k f) (parameter_concluded p.name.place e.0 p.name.name e.1))))
    where
      told : (s1 s2 t : Scope) → Adds (enumerators_of p.specs) s s1 → Keeps (shape_parameters p.name.shape) s1 s2 → Adds (or_nothing p.name.name ∷ []) s2 t →
          Tells start (parameter p) (declarator_parameters p.name) s t (λ g. false)
      told s1 s2 t h k f =
          let names : NameList = enumerators_of p.specs in
          tells_declaring start (name_of p.name ∷ names) (declarator_parameters p.name) s t
          (hides_joined names (name_of p.name ∷ []) s s2 t (hides_joined names [] s s1 s2 h.hides (hides_names s1 s2 k.0)) f.hides)
          (record {
            around = f.moves.around ∙ (ap (λ spaces. spaces.around) k.0 ∙ h.moves.around);
            few = λ i j. f.moves.few refl (k.1 (subst few (declarator_is p.name) i) (h.moves.few refl j));
          })

  pub parameters_tell : (ps : List Param) (s : Scope) →
      IfGood (parameters ps s) (λ t. Tells start (in_turn (map parameter ps)) (params_counts ps) s t (λ g. false))
  parameters_tell [] s = tells_naming start [] s (λ g. false) (λ g. refl)
  parameters_tell (p ∷ ps) s =
      if_then (λ t. Tells start (parameter p) (declarator_parameters p.name) s t (λ g. false)) (λ t. Tells start (in_turn (map parameter (p ∷ ps))) (params_counts (p ∷ ps)) s t (λ g. false))
      (rules.parameter p s) (parameters ps) (parameter_tells p s) (λ t h.
      if_more (λ u. Tells start (in_turn (map parameter ps)) (params_counts ps) t u (λ g. false)) (λ u. Tells start (in_turn (map parameter (p ∷ ps))) (params_counts (p ∷ ps)) s u (λ g. false))
      (parameters ps t)
      (λ u k. tells_next start (parameter p) (in_turn (map parameter ps)) (declarator_parameters p.name) (params_counts ps) s t u (λ g. false) (λ g. false) h k) (parameters_tell ps t))
