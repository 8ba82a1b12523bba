-- The functions that a unit defines by its outline are defined by its items.
use Rattle.std.proofs.Common.{◌≡◌, ℕ, zero, suc, refl, sym, ◌∙◌, ap, ap₂, subst, ◌⊎◌, inl, inr, Bool, true, false, ◌&&◌, ◌||◌, if◌then◌else◌, List, [], ◌∷◌, ◌++◌, length, map, filter, replicate, Option, Some, None, is_some, slice_get, get_or, ◌<◌, arith}
use Rattle.std.specs.Prelude.{All, slice_set, unwrap_or}
use Rattle.std.proofs.Math.Bool.{or-false}
use Rattle.std.specs.List.{AllByRecursion}
use Rattle.std.proofs.lemmas.List.{length-set, length-map, append-nil, length-replicate}
use Rattle.std.proofs.lemmas.List.Elements.{All-from_recursion}
use Rattle.std.proofs.lemmas.Option.{slice_get_within, slice_get-get_or}
use Rattle.std.proofs.lemmas.Bool.{and_from}
use Rattle.mv_ast.specs.declared.program.CType.{CType}
use Rattle.mv_ast.specs.declared.program.Function.{Function}
use Rattle.mv_ast.specs.declared.program.Local.{Local}
use Rattle.mv_syntax.specs.declared.unit.Declarator.{Declarator}
use Rattle.mv_syntax.specs.declared.unit.Item.{Item}
use Rattle.mv_syntax.specs.declared.unit.Line.{Line}
use Rattle.mv_syntax.specs.declared.unit.Param.{Param}
use Rattle.mv_check_scope.specs.declared.scope.Scope.{Scope}
use Rattle.mv_check_scope.specs.Spaces.{named}
use Rattle.mv_check_expressions.specs.Judged.{Judged, Good}
use Rattle.mv_check_outline.specs.declared.outline.Wanted.TheVariants as wanted
use Rattle.mv_check_outline.specs.Names.{same_name, is_among, place_of}
use Rattle.mv_check_outline.specs.Outlined as outlined
use Rattle.mv_check_outline.specs.Outlined.{is_function, declares_pointer, is_there, name_of, all_names, functions}
use Rattle.mv_check_declarations.specs.declared.attributes.Attribute.{Attribute}
use Rattle.mv_check_declarations.specs.declared.attributes.Position.TheVariants as position
use Rattle.mv_check_declarations.specs.declared.declarators.Entity.{Entity}
use Rattle.mv_check_declarations.specs.declared.declarators.Entity.TheVariants as entity
use Rattle.mv_check_declarations.specs.declared.globals.Designated.{Designated}
use Rattle.mv_check_declarations.specs.declared.specifiers.Specified.{Specified}
use Rattle.mv_check_declarations.specs.Globals.{file_declarator}
use Rattle.mv_check_declarations.specs.Initials.{array_size, plain_values}
use Rattle.mv_check_declarations.specs.Objects.{scalar, sized}
use Rattle.mv_check_declarations.specs.Parameters.{parameters_judgement}
use Rattle.mv_check_declarations.specs.Specifiers.{specifiers}
use Rattle.mv_check_declarations.specs.Turns.{through}
use Rattle.mv_check_statements.specs.Statements.{body_judgement}
use Rattle.mv_accepts.proofs.OfStatements.Judging.{IfGood, if_any, if_then, if_more, of_good}
use Rattle.mv_accepts.proofs.OfStatements.Lists.{mapped_there, all_by, all_more, mapped_back}
use Rattle.mv_types.specs.declared.contents.Contents.{Contents}
use Rattle.mv_types.specs.declared.contents.Foreknown.{Foreknown}
use Rattle.mv_types.specs.declared.functions.Before.{Before}
use Rattle.mv_types.specs.Contents.{nothing_declared, in_scope, present}
use Rattle.mv_types.specs.Foreknown.{foreknown, is_attributed}
use Rattle.mv_types.specs.Functions.{is_defined, is_defined_at, body_entered, params_of, definition_parameters, function_of, function_scope, defined, unless_broken, before_of, rule_of, function_judgement}
use Rattle.mv_types.specs.Objects.{object_words, object_judgement, domain_by, object_scope}
use Rattle.mv_types.specs.Units.{by_entity, nameless_values, named_declarator, base_of, declarator_judgement, holders, item_judgement}
use Rattle.mv_accepts.specs.Numbers.Numbers.{AreDefined, IsForeknown}
use Rattle.mv_accepts.proofs.OfNumbers.Lists.{all_both, set_there}
use Rattle.mv_accepts.proofs.OfNumbers.NameLists.{Different, name_is, among_here, among_last, among_once, among_kept, among_different, at_place, place_there, place_among, or_nothing}
use Rattle.mv_accepts.proofs.OfNumbers.Items.{one, IsNamed, AreNamed, all_named, items_done}
use Rattle.mv_accepts.proofs.OfNumbers.Designated.{is_function_entity, file_alike}
use Rattle.mv_num.proofs.Booleans.{and_left}

-- ---- lists of functions that are defined or not

still_defined : (fs : List (Option Function)) (n : ℕ) (f : Function) (o : Option ℕ) → is_defined_at fs o ≡ true → is_defined_at (slice_set fs n (Some f)) o ≡ true
still_defined fs n f None h = absurd (cc)
still_defined [] n f (Some j) h = h
still_defined (x ∷ xs) zero f (Some zero) h = refl
still_defined (x ∷ xs) zero f (Some (suc j)) h = h
still_defined (x ∷ xs) (suc n) f (Some zero) h = h
still_defined (x ∷ xs) (suc n) f (Some (suc j)) h = still_defined xs n f (Some j) h

set_within : {A : Type 0} (xs : List A) (n : ℕ) (x : A) → n < length xs → slice_get (slice_set xs n x) n ≡ Some x
set_within [] n x lt = absurd (omega (arith, lt))
set_within (y ∷ ys) zero x lt = refl
set_within (y ∷ ys) (suc n) x lt = set_within ys n x (omega (arith, lt))

abbrev nothing : Option Function
nothing = None

none_there : (n j : ℕ) (f : Function) → slice_get (replicate n nothing) j ≡ Some (Some f) → ⊥
none_there zero j f h = absurd (cc)
none_there (suc n) zero f h = absurd (cc)
none_there (suc n) (suc j) f h = none_there n j f h

all_present : (fs : List (Option Function)) → AllByRecursion (λ o. is_some o ≡ true) fs → fs ≡ map (λ f. Some f) (present fs)
all_present [] h = refl
all_present (None ∷ fs) h = absurd (cc)
all_present (Some f ∷ fs) h = ap (λ xs. Some f ∷ xs) (all_present fs h.1)

same_list : {A : Type 0} (xs ys : List A) → length xs ≡ length ys → ((i : ℕ) (x : A) → slice_get xs i ≡ Some x → slice_get ys i ≡ Some x) → xs ≡ ys
same_list [] [] e h = refl
same_list [] (y ∷ ys) e h = absurd (omega (arith, e))
same_list (x ∷ xs) [] e h = absurd (omega (arith, e))
same_list (x ∷ xs) (y ∷ ys) e h =
    let q : y ≡ x = (let r : Some y ≡ Some x = h zero x refl in cc) in
    ap₂ (λ a b. a ∷ b) (sym q) (same_list xs ys (omega (arith, e)) (λ i z r. h (suc i) z r))

-- a rule that is broken or not
pub if_unbroken : (Q : Contents → Type 0) (d : Declarator) (rule : Option ℕ) (j : Judged Contents) → IfGood j Q → IfGood (unless_broken d.place rule j) Q
if_unbroken Q d None j h = h
if_unbroken Q d (Some rule) j h = tt

-- ---- what the functions so far are

module _ (k : Foreknown) (different : Different k.outline.functions) where
  abbrev names : List (List ℕ)
  names = k.outline.functions

  pub record AreRight (done : List (List ℕ)) (fs : List (Option Function)) : Type 0 where
    pub count : length fs ≡ length names
    pub right : (n : ℕ) (f : Function) → slice_get fs n ≡ Some (Some f) → (slice_get names n ≡ Some f.name) × (f.attributed ≡ is_attributed k f.name)
    pub there : (name : List ℕ) → is_among name done ≡ true → is_defined_at fs (place_of name names) ≡ true

  nothing_right : AreRight [] (replicate (length names) nothing)
  nothing_right = record {
    count = length-replicate (length names) nothing;
    right = λ n f h. absurd (none_there (length names) n f h);
    there = λ name h. absurd (cc);
  }

  -- one that is defined under a name
  abbrev IsNamedSo : List ℕ → Function → Type 0
  IsNamedSo name f = (f.name ≡ name) × (f.attributed ≡ is_attributed k name)

  one_right : (done : List (List ℕ)) (fs : List (Option Function)) (name : List ℕ) (n : ℕ) (f : Function) → AreRight done fs → place_of name names ≡ Some n →
      f.name ≡ name → f.attributed ≡ is_attributed k name → AreRight (done ++ name ∷ []) (slice_set fs n (Some f))
  one_right done fs name n f h q e a = record {
    count = length-set fs n (Some f) ∙ h.count;
    right = λ j g r. right j g (set_there fs n (Some f) j (Some g) r);
    there = λ m r. there m (same_name m name) refl (sym (among_last m done name) ∙ r);
  }
    where
      right : (j : ℕ) (g : Function) → ((slice_get fs j ≡ Some (Some g)) × (n ≡ j → ⊥)) ⊎ ((n ≡ j) × (Some f ≡ Some g)) →
          (slice_get names j ≡ Some g.name) × (g.attributed ≡ is_attributed k g.name)
      right j g (inl r) = h.right j g r.0
      right j g (inr r) =
          let u : f ≡ g = (let v : Some f ≡ Some g = r.1 in cc) in
          subst (λ (x : Function). (slice_get names j ≡ Some x.name) × (x.attributed ≡ is_attributed k x.name)) u
          (ap (slice_get names) (sym r.0) ∙ (at_place name names n q ∙ ap (λ x. Some x) (sym e)), a ∙ ap (is_attributed k) (sym e))

      within : n < length fs
      within = omega (arith, h.count, slice_get_within names n name (at_place name names n q))

      here : is_defined_at (slice_set fs n (Some f)) (place_of name names) ≡ true
      here = ap (is_defined_at (slice_set fs n (Some f))) q ∙ ap is_defined (set_within fs n (Some f) within)

      there : (m : List ℕ) (b : Bool) → b ≡ same_name m name → (is_among m done || b) ≡ true → is_defined_at (slice_set fs n (Some f)) (place_of m names) ≡ true
      there m true u r = subst (λ x. is_defined_at (slice_set fs n (Some f)) (place_of x names) ≡ true) (sym (name_is m name (sym u))) here
      there m false u r = still_defined fs n f (place_of m names) (h.there m (sym (or-false (is_among m done)) ∙ r))

  -- ---- objects

  same_functions : (d : Declarator) (name : List ℕ) (l : Local) (domain : Option (List ℕ)) (block : Bool) (c : Contents) →
      IfGood (object_judgement k d name l domain block c) (λ t. t.functions ≡ c.functions)
  unfolding object_judgement
  same_functions d name l domain block c =
      let before = named name c.scope.names.here in
      let words = object_words d before c.objects l domain block (object_scope k name before l (length c.objects) c.scope) in
      if_then (λ w. Unit {0}) (λ t. t.functions ≡ c.functions) words _ (if_any words) (λ w u. refl)

  -- ---- functions

  made : (name : List ℕ) (result : CType) (params : List Param) (body : Line) (s : Scope) → IfGood (function_of k name result params body s) (λ f. IsNamedSo name f.1)
  made name result params body s =
      let given = parameters_judgement (body_entered (is_attributed k name) s) params in
      if_then (λ p. Unit {0}) (λ f. IsNamedSo name f.1) given _ (if_any given) (λ p u.
      let judged = body_judgement result body p in
      if_then (λ b. Unit {0}) (λ f. IsNamedSo name f.1) judged _ (if_any judged) (λ b v. (refl, refl)))

  abbrev Right : List (List ℕ) → Contents → Type 0
  Right done c = AreRight done c.functions

  abbrev onward : List (List ℕ) → List ℕ → Option Line → List (List ℕ)
  onward done name body = done ++ (if is_there body then name ∷ [] else [])

  nothing_more : (done : List (List ℕ)) (fs : List (Option Function)) → AreRight done fs → AreRight (done ++ []) fs
  nothing_more done fs h = subst (λ xs. AreRight xs fs) (sym (append-nil done)) h

  defined_right : (done : List (List ℕ)) (name : List ℕ) (result : CType) (params : List Param) (body : Option Line) (c : Contents) → Right done c →
      (is_there body ≡ true → is_among name names ≡ true) → IfGood (defined k name result params body (place_of name names) c) (Right (onward done name body))
  defined_right done name result params None c h g = nothing_more done c.functions h
  defined_right done name result params (Some body) c h g =
      let there = place_among name names different (g refl) in
      if_then (λ f. IsNamedSo name f.1) (Right (onward done name (Some body))) (function_of k name result params body c.scope) _ (made name result params body c.scope) (λ f m.
      subst (λ o. AreRight (done ++ name ∷ []) (slice_set c.functions (unwrap_or o 0) (Some f.1))) (sym there.1)
      (one_right done c.functions name there.0 f.1 h there.1 m.0 m.1))

  function_right : (done : List (List ℕ)) (d : Declarator) (name : List ℕ) (result : CType) (signature : ℕ) (body : Option Line) (c : Contents) → Right done c →
      (is_there body ≡ true → is_among name names ≡ true) → IfGood (function_judgement k d name result signature body c) (Right (onward done name body))
  unfolding function_judgement
  function_right done d name result signature body c h g =
      let b : Before = before_of k name c.scope in
      let next : Contents = in_scope c (function_scope k name signature b.meaning b.builtin c.scope) in
      if_then (λ x. Unit {0}) (Right (onward done name body)) (plain_values d.initial next.scope) _ (if_any (plain_values d.initial next.scope)) (λ x u.
      if_unbroken (Right (onward done name body)) d (rule_of d signature body c b) (defined k name result (params_of d) body b.number next)
      (defined_right done name result (params_of d) body next h g))

  -- ---- declarators

  abbrev behind : List (List ℕ) → Bool → List ℕ → Option Line → List (List ℕ)
  behind done function name body = done ++ (if function && is_there body then name ∷ [] else [])

  object_right : (done : List (List ℕ)) (d : Declarator) (name : List ℕ) (l : Local) (domain : Option (List ℕ)) (block : Bool) (c : Contents) → Right done c →
      IfGood (object_judgement k d name l domain block c) (Right (done ++ []))
  object_right done d name l domain block c h =
      if_more (λ t. t.functions ≡ c.functions) (Right (done ++ [])) (object_judgement k d name l domain block c)
      (λ t q. subst (AreRight (done ++ [])) (sym q) (nothing_more done c.functions h)) (same_functions d name l domain block c)

  entity_right : (done : List (List ℕ)) (b : Specified) (body : Option Line) (d : Declarator) (name : List ℕ) (e : Entity) (a : Option Attribute) (c : Contents) → Right done c →
      (function : Bool) → is_function_entity e ≡ function → (function && is_there body ≡ true → is_among name names ≡ true) →
      IfGood (by_entity k b body d name e a c) (Right (behind done function name body))
  entity_right done b body d name (entity.Function signature) a c h true q g = function_right done d name b.ctype signature body c h g
  entity_right done b body d name (entity.Function signature) a c h false q g = absurd (cc)
  entity_right done b body d name (entity.Scalar t fixed) a c h true q g = absurd (cc)
  entity_right done b body d name (entity.Scalar t fixed) a c h false q g = object_right done d name (scalar t) (domain_by (declares_pointer d) c.scope b.enumeration a) (is_some body) c h
  entity_right done b body d name (entity.Array t fixed size) a c h true q g = absurd (cc)
  entity_right done b body d name (entity.Array t fixed size) a c h false q g = object_right done d name (sized t (array_size size d.initial)) (domain_by (declares_pointer d) c.scope b.enumeration a) (is_some body) c h

  named_right : (done : List (List ℕ)) (b : Specified) (body : Option Line) (d : Declarator) (name : Option (List ℕ)) (e : Designated) (c : Contents) → Right done c →
      (function : Bool) → is_function_entity e.entity ≡ function → (function && is_there body ≡ true → is_among (or_nothing name) names ≡ true) →
      IfGood (named_declarator k b body d name e c) (Right (behind done function (or_nothing name) body))
  unfolding named_declarator
  named_right done b body d None e c h function q g =
      if_then (λ u. Unit {0}) (Right (behind done function [] body)) (nameless_values e.entity d.initial c.scope) _ (if_any (nameless_values e.entity d.initial c.scope)) (λ u v. tt)
  named_right done b body d (Some name) e c h function q g = entity_right done b body d name e.entity e.attribute c h function q g

  declarator_right : (i : Item) (b : Specified) → Unit {0} → (d : Declarator) → IsNamed wanted.DefinedFunctions names i d → (xs ys : List (List ℕ)) (c : Contents) → Right xs c →
      IfGood (declarator_judgement k b i.body d c) (Right (xs ++ one wanted.DefinedFunctions i d))
  unfolding declarator_judgement
  declarator_right i b u d g xs ys c h =
      let Q : Contents → Type 0 = Right (xs ++ one wanted.DefinedFunctions i d) in
      if_then (λ s. Unit {0}) Q (definition_parameters d i.body c.scope) _ (if_any (definition_parameters d i.body c.scope)) (λ s v.
      if_then (λ e. is_function_entity e.1.entity ≡ is_function d) Q (file_declarator (base_of k d b) d s) _ (file_alike (base_of k d b) d s) (λ e q.
      named_right xs b i.body d d.name e.1 (in_scope c e.0) h (is_function d) q g))

  first_right : (i : Item) (xs ys : List (List ℕ)) (c : Contents) → Right xs c →
      IfGood (specifiers position.File (holders k i.names) i.specs c.scope) (λ b. Unit {0} × Right xs (in_scope c b.0))
  first_right i xs ys c h =
      let judged = specifiers position.File (holders k i.names) i.specs c.scope in
      if_more (λ b. Unit {0}) (λ b. Unit {0} × Right xs (in_scope c b.0)) judged (λ b u. (tt, h)) (if_any judged)

  all_right : (items : List Item) → AllByRecursion (AreNamed wanted.DefinedFunctions names) items →
      IfGood (through (item_judgement k) items (nothing_declared k)) (Right (all_names wanted.DefinedFunctions items))
  all_right items g =
      items_done k wanted.DefinedFunctions wanted.DefinedFunctions (λ xs ys c. Right xs c) (λ i b. Unit {0}) (IsNamed wanted.DefinedFunctions names)
      first_right declarator_right items g (nothing_declared k) nothing_right

-- ---- what is known of functions

known_functions : (items : List Item) → (foreknown items).outline.functions ≡ functions items
unfolding foreknown
known_functions items = refl

pub known_different : (items : List Item) → Different (foreknown items).outline.functions
known_different items = subst Different (sym (known_functions items)) (among_different (outlined.names wanted.DefinedFunctions items) (outlined.names wanted.Functions items))

among_functions : (name : List ℕ) (items : List Item) →
    is_among name (functions items) ≡ (is_among name (all_names wanted.DefinedFunctions items) && is_among name (all_names wanted.Functions items))
among_functions name items =
    let defined : List (List ℕ) = outlined.names wanted.DefinedFunctions items in
    let all : List (List ℕ) = outlined.names wanted.Functions items in
    among_once name (filter (λ n. is_among n defined) all) ∙
    (among_kept (λ n. is_among n defined) name all ∙
    ap₂ (λ x y. x && y) (among_once name (all_names wanted.DefinedFunctions items)) (among_once name (all_names wanted.Functions items)))

known_named : (items : List Item) → AllByRecursion (AreNamed wanted.DefinedFunctions (foreknown items).outline.functions) items
known_named items =
    all_both (AreNamed wanted.DefinedFunctions (all_names wanted.DefinedFunctions items)) (AreNamed wanted.Functions (all_names wanted.Functions items))
    (AreNamed wanted.DefinedFunctions (foreknown items).outline.functions)
    (λ i. all_both (IsNamed wanted.DefinedFunctions (all_names wanted.DefinedFunctions items) i) (IsNamed wanted.Functions (all_names wanted.Functions items) i)
    (IsNamed wanted.DefinedFunctions (foreknown items).outline.functions i) (one_named i) i.names)
    items (all_named wanted.DefinedFunctions items) (all_named wanted.Functions items)
  where
    one_named : (i : Item) (d : Declarator) → IsNamed wanted.DefinedFunctions (all_names wanted.DefinedFunctions items) i d →
        IsNamed wanted.Functions (all_names wanted.Functions items) i d → IsNamed wanted.DefinedFunctions (foreknown items).outline.functions i d
    one_named i d h g q =
        subst (λ ns. is_among (name_of d) ns ≡ true) (sym (known_functions items))
        (among_functions (name_of d) items ∙ and_from (is_among (name_of d) (all_names wanted.DefinedFunctions items)) (is_among (name_of d) (all_names wanted.Functions items)) (h q)
        (g (and_left (is_function d) (is_there i.body) q)))

-- ---- all of them are defined

module _ (items : List Item) where
  abbrev k : Foreknown
  k = foreknown items

  abbrev known : List (List ℕ)
  known = k.outline.functions

  abbrev IsRight : List (Option Function) → Type 0
  IsRight = AreRight k (known_different items) (all_names wanted.DefinedFunctions items)

  defines : (fs : List (Option Function)) → IsRight fs → AllByRecursion (λ o. is_some o ≡ true) fs
  defines fs h = all_by (λ o. is_some o ≡ true) fs (λ n o q. by n o q (standing_at n (omega (arith, h.count, slice_get_within fs n o q))))
    where
      standing_at : (n : ℕ) → n < length known → (name : List ℕ) × (slice_get known n ≡ Some name)
      standing_at n lt = (get_or known n [], slice_get-get_or known n [] lt)

      is_known : (name : List ℕ) (n : ℕ) → slice_get known n ≡ Some name → is_among name (all_names wanted.DefinedFunctions items) ≡ true
      is_known name n q =
          and_left (is_among name (all_names wanted.DefinedFunctions items)) (is_among name (all_names wanted.Functions items))
          (sym (among_functions name items) ∙ (ap (is_among name) (sym (known_functions items)) ∙ among_here name known n q))

      told : (o : Option Function) → is_defined (Some o) ≡ true → is_some o ≡ true
      told None r = r
      told (Some f) r = refl

      by : (n : ℕ) (o : Option Function) → slice_get fs n ≡ Some o → (name : List ℕ) × (slice_get known n ≡ Some name) → is_some o ≡ true
      by n o q x =
          told o (ap is_defined (sym q) ∙ (ap (is_defined_at fs) (sym (place_there known (known_different items) n x.0 x.1)) ∙ h.there x.0 (is_known x.0 n x.1)))

  each : (fs : List (Option Function)) (gs : List Function) → fs ≡ map (λ f. Some f) gs → (g : ℕ) → g < length fs → (f : Function) × (slice_get fs g ≡ Some (Some f))
  each fs gs e g lt =
      let x = mapped_back (λ f. Some f) gs g (get_or fs g None) (ap (λ xs. slice_get xs g) (sym e) ∙ slice_get-get_or fs g None lt) in
      (x.0, slice_get-get_or fs g None lt ∙ ap (λ o. Some o) (sym x.2))

  are_defined : (c : Contents) → IsRight c.functions → AreDefined k c
  are_defined c h =
      let gs : List Function = present c.functions in
      let all : c.functions ≡ map (λ f. Some f) gs = all_present c.functions (defines c.functions h) in
      let right : (n : ℕ) (g : Function) → slice_get gs n ≡ Some g → (slice_get known n ≡ Some g.name) × (g.attributed ≡ is_attributed k g.name) =
      (λ n g q. h.right n g (ap (λ fs. slice_get fs n) all ∙ mapped_there (λ f. Some f) gs n g q)) in
      record {
        all = all;
        each = each c.functions gs all;
        named = same_list (map (λ f. f.name) gs) known
            (length-map gs (λ f. f.name) ∙ (sym (length-map gs (λ (f : Function). Some f)) ∙ (ap length (sym all) ∙ h.count)))
            (λ n name q. let x = mapped_back (λ f. f.name) gs n name q in (right n x.0 x.1).0 ∙ ap (λ y. Some y) x.2);
        attributed = All-from_recursion (λ f. f.attributed ≡ is_attributed k f.name) gs (all_by (λ f. f.attributed ≡ is_attributed k f.name) gs (λ n g q. (right n g q).1));
      }

  pub functions_defined : (c : Contents) → through (item_judgement k) items (nothing_declared k) ≡ Good c → AreDefined k c
  functions_defined c q =
      are_defined c
      (of_good (λ t. IsRight t.functions) (through (item_judgement k) items (nothing_declared k)) (all_right k (known_different items) items (known_named items)) c q)

-- ---- each function that an item defines has a number

module _ (items : List Item) where
  abbrev ns : List (List ℕ)
  ns = (foreknown items).outline.functions

  abbrev HasPlace : Declarator → Type 0
  HasPlace d = is_function d ≡ true → (g : ℕ) × (place_of (name_of d) ns ≡ Some g)

  item_known : (i : Item) → AreNamed wanted.DefinedFunctions ns i → IsForeknown (foreknown items) i
  item_known i h body q =
      All-from_recursion HasPlace i.names
      (all_more (IsNamed wanted.DefinedFunctions ns i) HasPlace
      (λ d f r. place_among (name_of d) ns (known_different items) (f (and_from (is_function d) (is_there i.body) r (ap is_there q)))) i.names h)

  pub items_known : All (IsForeknown (foreknown items)) items
  items_known =
      All-from_recursion (IsForeknown (foreknown items)) items (all_more (AreNamed wanted.DefinedFunctions ns) (IsForeknown (foreknown items)) item_known items (known_named items))
