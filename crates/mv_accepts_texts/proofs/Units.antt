-- Declarators, declarations and units.
use Rattle.std.proofs.Common.{◌≡◌, ℕ, zero, suc, refl, sym, ◌∙◌, ap, subst, Bool, true, false, is_some, nat_eq, if◌then◌else◌, List, [], ◌∷◌, ◌++◌, map, filter, length, append-nil, append_assoc, slice_get, replicate, Option, Some, None}
use Rattle.std.specs.List.{AllByRecursion, concat}
use Rattle.std.proofs.lemmas.List.{length-map, length-replicate}
use Rattle.mv_ast.specs.declared.program.CType.{CType}
use Rattle.mv_ast.specs.declared.program.Function.{Function}
use Rattle.mv_syntax.specs.declared.unit.Declarator.{Declarator}
use Rattle.mv_syntax.specs.declared.unit.Item.{Item}
use Rattle.mv_syntax.specs.declared.unit.Line.{Line}
use Rattle.mv_syntax.specs.declared.unit.Param.{Param}
use Rattle.mv_syntax.specs.declared.unit.Shape.{Shape, Shape-F, out-Shape, map-Shape, fold_out-Shape}
use Rattle.mv_syntax.specs.declared.unit.Shape.TheOpen as shape
use Rattle.mv_syntax.specs.declared.unit.Specs.{out-Specs}
use Rattle.mv_check_scope.specs.declared.meaning.Meaning.{Meaning}
use Rattle.mv_check_scope.specs.declared.scope.Scope.{Scope}
use Rattle.mv_check_limits.specs.Ordered.{shape_parameters, declarator_parameters, param_parameters, optional_parameters}
use Rattle.mv_check_limits.proofs.Forms.{declarator_is, params_are, of_shape, shape_is}
use Rattle.mv_check_outline.specs.Names.{is_among, same_name}
use Rattle.mv_check_outline.specs.Outlined as outlined
use Rattle.mv_check_outline.specs.Outlined.{is_function_form, is_function, declares_pointer, name_of}
use Rattle.mv_check_rules.specs.Nodes.{Declared, Scalar, Array}
use Rattle.mv_check_rules.specs.Nodes as node
use Rattle.mv_check_rules.specs.Rules.{breaches, concluded}
use Rattle.mv_check_rules.specs.Declarations.{in_order, Base, Attribution, attributes, specifiers, Shapes, Declarators, Params, written_size, parameter_types, function_type, shape_step, declarator_step, param_step, declared_as, parameters, given}
use Rattle.mv_check_rules.specs.Units.{Declarations, none_declared, behind, bearer, bearers, is_constant_object, function_number, constant_expression, domain, earlier, object_named, new_global, object_meaning, object_found, object, routine, function_entered, params_of_form, params_of, by_form, value_of_form, by_name, defined_parameters, declarator, declares_nothing, item}
use Rattle.mv_check_rules.proofs.Shapes.{declarator_found, param_found}
use Rattle.mv_accepts.proofs.OfStatements.Judging.{IfGood, if_any, if_both, if_more, if_then}
use Rattle.mv_accepts.proofs.OfStatements.Names.{left_is}
use Rattle.mv_accepts_texts.specs.Expressions.{NameList}
use Rattle.mv_accepts_texts.specs.Meanings.{is_global}
use Rattle.mv_accepts_texts.specs.Texts.{Part, naming, next, in_turn, parameter, names_in_function, names_in_definition, declarator_objects, item_objects, enumerators_of}
use Rattle.mv_accepts_texts.proofs.Scopes.{few, few_both, FewIn, Tells}
use Rattle.mv_accepts_texts.proofs.Specifiers.{Adds, if_found, specifiers_adds}
use Rattle.mv_accepts_texts.proofs.Shapes.{Keeps, declared_keeps}
use Rattle.mv_accepts_texts.proofs.Locals.{params_counts, parameters_tell}
use Rattle.mv_accepts_texts.proofs.Functions.{rules_kept}
use Rattle.mv_accepts_texts.proofs.Files.{steady_names, steady_adds, Sound, sound_behind, sound_text}
use Rattle.mv_accepts_texts.proofs.Objects.{With, object_sound}
use Rattle.mv_accepts_texts.proofs.Routines.{WithOptional, Counts, Numbered, routine_sound}
use Rattle.mv_accepts.proofs.OfNumbers.Common.{named_is}
use Rattle.mv_check_declarations.specs.Specifiers.{scalar_kind}

-- ---- the parameters of a declarator

few_form : (x : Shape-F Shape Declarator Param) → few (of_shape x) → few (params_counts (params_of_form x)) × few (length (params_of_form x) ∷ [])
few_form (shape.Function ps) h =
    let b = few_both (length (map param_parameters ps) ∷ []) (concat (map param_parameters ps)) h in
    (subst (λ cs. few (concat cs)) (params_are ps) b.1, subst (λ n. few (n ∷ [])) (length-map ps param_parameters) b.0)
few_form shape.Plain h = (refl, refl)
few_form (shape.Array size) h = (refl, refl)
few_form (shape.Pointer c ps) h = (refl, refl)
few_form (shape.PointerArray c size ps) h = (refl, refl)

few_params : (d : Declarator) → few (declarator_parameters d) → few (params_counts (params_of d)) × few (length (params_of d) ∷ [])
few_params d h = few_form (out-Shape d.shape) (subst few (declarator_is d ∙ shape_is d.shape (out-Shape d.shape) refl) h)

-- ---- what a declarator declares, by its shape

abbrev Kind : Bool → Declared → Type 0
Kind true e = (f : ℕ) × (e ≡ node.Declared.Function f)
Kind false e = (f : ℕ) → e ≡ node.Declared.Function f → ⊥

no_scalar : (t : CType) (c : Bool) (f : ℕ) → Scalar t c ≡ node.Declared.Function f → ⊥
no_scalar t c f h = absurd (cc)

form_kind : (x : Shape-F Shapes Declarators Params) (t : CType) (fixed : Bool) (s : Scope) → IfGood (shape_step x t fixed s) (λ d. Kind (is_function_form x) d.1)
form_kind shape.Plain t fixed s = no_scalar t fixed
form_kind (shape.Array size) t fixed s =
    if_then (λ n. Unit {0}) (λ d. Kind false d.1) (written_size s size) _ (if_any (written_size s size)) (λ n u f h. absurd (cc))
form_kind (shape.Function ps) t fixed s =
    if_then (λ d. Unit {0}) (λ d. Kind true d.1) (parameter_types ps s) _ (if_any (parameter_types ps s)) (λ d u. ((function_type t d).1, refl))
form_kind (shape.Pointer c ps) t fixed s =
    if_then (λ d. Unit {0}) (λ d. Kind false d.1) (parameter_types ps s) _ (if_any (parameter_types ps s)) (λ d u f h. absurd (cc))
form_kind (shape.PointerArray c size ps) t fixed s =
    if_then (λ n. Unit {0}) (λ d. Kind false d.1) (written_size s size) _ (if_any (written_size s size)) (λ n u.
    if_then (λ d. Unit {0}) (λ d. Kind false d.1) (parameter_types ps s) _ (if_any (parameter_types ps s)) (λ d v f h. absurd (cc)))

same_form : (x : Shape-F Shape Declarator Param) →
    is_function_form (map-Shape Shape Declarator Param Shapes Declarators Params declared_as declarator_found param_found x) ≡ is_function_form x
same_form shape.Plain = refl
same_form (shape.Array size) = refl
same_form (shape.Function ps) = refl
same_form (shape.Pointer c ps) = refl
same_form (shape.PointerArray c size ps) = refl

declared_kind : (x : Shape) (t : CType) (fixed : Bool) (s : Scope) → IfGood (declared_as x t fixed s) (λ d. Kind (is_function_form (out-Shape x)) d.1)
declared_kind x t fixed s =
    subst (λ (f : Shapes). IfGood (f t fixed s) (λ d. Kind (is_function_form (out-Shape x)) d.1))
    (sym (fold_out-Shape Shapes Declarators Params shape_step declarator_step param_step x))
    (subst (λ b. IfGood (shape_step (map-Shape Shape Declarator Param Shapes Declarators Params declared_as declarator_found param_found (out-Shape x)) t fixed s) (λ d. Kind b d.1))
    (same_form (out-Shape x)) (form_kind (map-Shape Shape Declarator Param Shapes Declarators Params declared_as declarator_found param_found (out-Shape x)) t fixed s))

module _ (items : List Item) (W : Type 0) (ObjectTold FunctionTold : List ℕ → Type 0) where
  abbrev Is : (List ℕ → Part) → Declarations → Type 0
  Is = Sound items W ObjectTold FunctionTold

  abbrev pub Told : Option Line → List ℕ → Type 0
  Told None name = ObjectTold name
  Told (Some b) name = FunctionTold name

  abbrev pub HasNumber : Option Line → List ℕ → Type 0
  HasNumber None name = Unit {0}
  HasNumber (Some b) name = (k : ℕ) × (function_number items name ≡ Some k)

  -- what is known of a declarator with what stands behind it
  pub record Known (b : Option Line) (d : Declarator) : Type 0 where
    pub few : W → few (declarator_parameters d) × few (optional_parameters b)
    pub told : (name : List ℕ) → d.name ≡ Some name → Told b name
    pub number : is_function d ≡ true → HasNumber b (name_of d)

  abbrev Behind : (text : List ℕ → Part) → Option Line → Declarator → List ℕ → Part
  Behind text b d n = next (text n) (declarator_objects n b d)

  -- ---- objects

  object_text : (text : List ℕ → Part) (d : Declarator) (name : List ℕ) (n : List ℕ) → is_function d ≡ false → name_of d ≡ name → Behind text None d n [] ≡ With items W ObjectTold FunctionTold text name n []
  object_text text d name n f h =
      ap (λ (names : NameList). ((text n []).0 ++ names, (text n []).1 ++ [])) (ap (λ (b : Bool). if b then [] else name_of d ∷ []) f ∙ ap (λ (m : List ℕ). m ∷ []) h)

  blocked : (P : Declarations → Type 0) (d : Declarator) (name : List ℕ) (e : Declared) (domain : Option (List ℕ)) (c : Declarations) → IfGood (object items d name e domain true c) P
  blocked P d name e domain c =
      let s : Scope = object_named items name e c in
      if_then (λ g. Unit {0}) P (given constant_expression d.initial s) _ (if_any (given constant_expression d.initial s)) (λ g u.
      let n : node.Node = node.Object name e g domain (earlier c name) true in
      let found : Declarations = object_found name s (new_global name e g domain) c in
      if_more (λ y. (y ≡ found) × AllByRecursion (λ r. r.1 ≡ false) (breaches c.scope n)) P (concluded d.place c.scope n found)
      (λ y r. absurd (never r.1.1.1.1.1.1.1.1.1.1.1.1.1.1.1.1.0)) (rules_kept d.place c.scope n found))
    where
      never : true ≡ false → ⊥
      never h = absurd (cc)

  means : (e : Declared) (name : List ℕ) → ((f : ℕ) → e ≡ node.Declared.Function f → ⊥) → (m : ℕ) →
      (k : Meaning) × (object_meaning items name m e ≡ Some k) × ((g : ℕ) → is_global g (Some k) ≡ nat_eq g m)
  means (Scalar t c) name h m = (_, refl, λ g. refl)
  means (Array t c size) name h m = (_, refl, λ g. refl)
  means (node.Declared.Function f) name h m = absurd (h f refl)

  -- ---- declarators

  by_name_sound : (text : List ℕ → Part) (base : Base) (a : Option Attribution) (b : Option Line) (d : Declarator) (e : Declared) (c : Declarations) → Is text c → Known b d →
      Kind (is_function d) e → (o : Option (List ℕ)) → d.name ≡ o → IfGood (by_name items base a b d e o c) (Is (Behind text b d))
  by_name_sound text base a b d e c x k kind None q =
      if_then (λ g. Unit {0}) (Is (Behind text b d)) (given (value_of_form e) d.initial c.scope) _ (if_any (given (value_of_form e) d.initial c.scope)) (λ g u. tt)
  by_name_sound text base a b d e c x k kind (Some name) q = by (is_function d) refl kind b k
    where
      counts : (b : Option Line) → Known b d → W → Counts items W ObjectTold FunctionTold (params_of d) b
      counts None k v = tt
      counts (Some l) k v = let w = k.few v in let p = few_params d w.0 in (p.0, p.1, w.1)

      numbered : is_function d ≡ true → (b : Option Line) → Known b d → Numbered items W ObjectTold FunctionTold name b
      numbered f None k = tt
      numbered f (Some l) k = let n = k.number f in (n.0, subst (λ m. function_number items m ≡ Some n.0) (named_is d name q) n.1, k.told name q)

      routine_text : is_function d ≡ true → (b : Option Line) (n : List ℕ) → Behind text b d n [] ≡ WithOptional items W ObjectTold FunctionTold text name (params_of d) b n []
      routine_text f None n = ap (λ (r : Bool). ((text n []).0 ++ (if r then [] else name_of d ∷ []), (text n []).1 ++ [])) f
      routine_text f (Some l) n =
          ap (λ (r : Bool). ((text n []).0 ++ (if r then [] else name_of d ∷ []), (text n []).1 ++ filter (λ m. is_among m (text n []).0) (names_in_definition n (Some l) d))) f ∙
          ap (λ (m : List ℕ). ((text n []).0 ++ [], (text n []).1 ++ filter (λ m. is_among m (text n []).0) (if same_name n m then names_in_function (params_of d) l else []))) (named_is d name q)

      of_object : is_function d ≡ false → (e : Declared) → ((f : ℕ) → e ≡ node.Declared.Function f → ⊥) → (b : Option Line) → Known b d → (domain : Option (List ℕ)) →
          IfGood (object items d name e domain (is_some b) c) (Is (Behind text b d))
      of_object f e other None k domain =
          if_more (Is (With items W ObjectTold FunctionTold text name)) (Is (Behind text None d)) (object items d name e domain false c)
          (λ y s. sound_text items W ObjectTold FunctionTold (With items W ObjectTold FunctionTold text name) (Behind text None d) y (λ n. object_text text d name n f (named_is d name q)) s)
          (object_sound items W ObjectTold FunctionTold text d name e domain false c (means e name other) x (λ h. k.told name q))
      of_object f e other (Some l) k domain = blocked (Is (Behind text (Some l) d)) d name e domain c

      object_form : is_function d ≡ false → (e : Declared) → ((f : ℕ) → e ≡ node.Declared.Function f → ⊥) → (b : Option Line) → Known b d →
          IfGood (by_form items base a b d name c e) (Is (Behind text b d))
      object_form f (Scalar t r) other b k = of_object f (Scalar t r) other b k (domain (declares_pointer d) c.scope base.enumeration a)
      object_form f (Array t r size) other b k = of_object f (Array t r size) other b k (domain (declares_pointer d) c.scope base.enumeration a)
      object_form f (node.Declared.Function g) other b k = absurd (other g refl)

      by : (f : Bool) → is_function d ≡ f → Kind f e → (b : Option Line) → Known b d → IfGood (by_form items base a b d name c e) (Is (Behind text b d))
      by true f z b k =
          subst (λ y. IfGood (by_form items base a b d name c y) (Is (Behind text b d))) (sym z.1)
          (if_more (Is (WithOptional items W ObjectTold FunctionTold text name (params_of d) b)) (Is (Behind text b d)) (routine items d name base.ctype z.0 b c)
          (λ y s. sound_text items W ObjectTold FunctionTold (WithOptional items W ObjectTold FunctionTold text name (params_of d) b) (Behind text b d) y (routine_text f b) s)
          (routine_sound items W ObjectTold FunctionTold text d name base.ctype z.0 b c x (counts b k) (numbered f b k)))
      by false f z b k = object_form f e z b k

  parameters_back : (b : Option Line) (d : Declarator) (s : Scope) → Known b d → IfGood (defined_parameters d b s) (λ t. (t.names ≡ s.names) × (W → FewIn s → FewIn t))
  parameters_back None d s k = (refl, λ v h. h)
  parameters_back (Some l) d s k =
      let start : Scope = function_entered false s in
      if_then (λ p. Tells start (in_turn (map parameter (params_of d))) (params_counts (params_of d)) start p (λ g. false)) (λ t. (t.names ≡ s.names) × (W → FewIn s → FewIn t))
      (parameters (params_of d) start) _ (parameters_tell start (params_of d) start) (λ p h.
      (left_is s.names p.names h.moves.around, λ v i. h.moves.few (few_params d (k.few v).0).0 i))

  declarator_sound : (text : List ℕ → Part) (base : Base) (b : Option Line) (d : Declarator) (c : Declarations) → Is text c → Known b d →
      IfGood (declarator items base b d c) (Is (Behind text b d))
  declarator_sound text base b d c x k =
      let R : Declarations → Type 0 = Is (Behind text b d) in
      let fixed : Bool = is_constant_object items (name_of d) in
      if_then (λ t. (t.names ≡ c.scope.names) × (W → FewIn c.scope → FewIn t)) R (defined_parameters d b c.scope) _ (parameters_back b d c.scope k) (λ s h.
      if_then (λ e. Keeps (shape_parameters d.shape) s e.0 × Kind (is_function d) e.1) R (declared_as d.shape base.ctype fixed s) _
      (if_both _ _ (declared_as d.shape base.ctype fixed s) (declared_keeps d.shape base.ctype fixed s) (declared_kind d.shape base.ctype fixed s)) (λ e j.
      if_then (λ a. Unit {0}) R (attributes (bearer fixed d ∷ []) (scalar_kind base.ctype) e.0 d.marks base.attribute) _
      (if_any (attributes (bearer fixed d ∷ []) (scalar_kind base.ctype) e.0 d.marks base.attribute)) (λ a u.
      by_name_sound text base a b d e.1 (behind e.0 c)
      (sound_behind items W ObjectTold FunctionTold text c e.0 x (steady_names c.scope e.0 (j.0.0 ∙ h.0))
      (λ v i. j.0.1 (subst few (declarator_is d) (k.few v).0) (h.1 v i)))
      k j.1 d.name refl)))

  -- ---- declarations

  abbrev Names : (text : List ℕ → Part) → Option Line → List Declarator → List ℕ → Part
  Names text b ds n = next (text n) (in_turn (map (declarator_objects n b) ds))

  alone : (text : List ℕ → Part) (n : List ℕ) → next (text n) (naming []) [] ≡ text n []
  alone text n = ap (λ (names : NameList). ((text n []).0, names)) (append-nil (text n []).1)

  turned : (text p q : List ℕ → Part) (n : List ℕ) → next (text n) (next (p n) (q n)) [] ≡ next (next (text n) (p n)) (q n) []
  turned text p q n =
      let a : NameList × NameList = text n [] in
      let b : NameList × NameList = p n a.0 in
      let c : NameList × NameList = q n b.0 in
      ap (λ (names : NameList). (c.0, names)) (sym (append_assoc a.1 b.1 c.1))

  names_sound : (base : Base) (b : Option Line) (ds : List Declarator) → AllByRecursion (Known b) ds → (text : List ℕ → Part) (c : Declarations) → Is text c →
      IfGood (in_order (declarator items base b) ds c) (Is (Names text b ds))
  names_sound base b [] k text c x = sound_text items W ObjectTold FunctionTold text (λ n. next (text n) (naming [])) c (alone text) x
  names_sound base b (d ∷ ds) k text c x =
      if_then (Is (Behind text b d)) (Is (Names text b (d ∷ ds))) (declarator items base b d c) (in_order (declarator items base b) ds) (declarator_sound text base b d c x k.0) (λ y s.
      if_more (Is (Names (Behind text b d) b ds)) (Is (Names text b (d ∷ ds))) (in_order (declarator items base b) ds y)
      (λ z r. sound_text items W ObjectTold FunctionTold (Names (Behind text b d) b ds) (Names text b (d ∷ ds)) z
      (turned text (λ n. declarator_objects n b d) (λ n. in_turn (map (declarator_objects n b) ds))) r) (names_sound base b ds k.1 (Behind text b d) y s))

  abbrev pub KnownItem : Item → Type 0
  KnownItem i = AllByRecursion (Known i.body) i.names

  abbrev Item_text : (text : List ℕ → Part) → Item → List ℕ → Part
  Item_text text i n = next (text n) (item_objects n i)

  item_sound : (i : Item) → KnownItem i → (text : List ℕ → Part) (c : Declarations) → Is text c → IfGood (item items i c) (Is (Item_text text i))
  item_sound i k text c x =
      let f = out-Specs i.specs in
      let R : Declarations → Type 0 = Is (Item_text text i) in
      if_then (λ b. Adds (enumerators_of i.specs) c.scope b.0) R (specifiers false (bearers items f.fixed i.names) i.specs c.scope) _
      (specifiers_adds false (bearers items f.fixed i.names) i.specs c.scope) (λ b h.
      if_then (λ y. y ≡ behind b.0 c) R (concluded f.place b.0 (node.Declaration (declares_nothing i)) (behind b.0 c)) _
      (if_found f.place (behind b.0 c) _) (λ y q.
      subst (λ z. IfGood (in_order (declarator items b.1 i.body) i.names z) R) (sym q)
      (names_sound b.1 i.body i.names k text (behind b.0 c)
      (sound_behind items W ObjectTold FunctionTold text c b.0 x (steady_adds (enumerators_of i.specs) c.scope b.0 x.around h) (λ v. h.moves.few refl)))))

  items_sound : (is : List Item) → AllByRecursion KnownItem is → (text : List ℕ → Part) (c : Declarations) → Is text c →
      IfGood (in_order (item items) is c) (Is (λ n. next (text n) (in_turn (map (item_objects n) is))))
  items_sound [] k text c x = sound_text items W ObjectTold FunctionTold text (λ n. next (text n) (naming [])) c (alone text) x
  items_sound (i ∷ is) k text c x =
      let rest : (List ℕ → Part) → List ℕ → Part = λ t n. next (t n) (in_turn (map (item_objects n) is)) in
      let R : Declarations → Type 0 = Is (λ n. next (text n) (in_turn (map (item_objects n) (i ∷ is)))) in
      if_then (Is (Item_text text i)) R (item items i c) (in_order (item items) is) (item_sound i k.0 text c x) (λ y s.
      if_more (Is (rest (Item_text text i))) R (in_order (item items) is y)
      (λ z r. sound_text items W ObjectTold FunctionTold (rest (Item_text text i)) (λ n. next (text n) (in_turn (map (item_objects n) (i ∷ is)))) z
      (turned text (λ n. item_objects n i) (λ n. in_turn (map (item_objects n) is))) r) (items_sound is k.1 (Item_text text i) y s))

  none_there : (m k : ℕ) (f : Function) → slice_get (replicate m None) k ≡ Some (Some f) → ⊥
  none_there zero k f h = absurd (cc)
  none_there (suc m) zero f h = absurd (cc)
  none_there (suc m) (suc k) f h = none_there m k f h

  begun : Is (λ n. naming []) (none_declared items)
  begun = record {
    objects = [];
    texts = λ n. [];
    is = λ n. refl;
    around = refl;
    meant = λ n g h. absurd (cc);
    numbered = λ g n h. absurd (cc);
    there = λ n h. absurd (cc);
    of_objects = λ n. tt;
    count = length-replicate (length (outlined.functions items)) None;
    number = λ k f h. absurd (none_there _ k f h);
    named_by = λ k f h. absurd (none_there _ k f h);
    undefined = λ n h. refl;
    few_types = λ v. refl;
    few_params = λ v k f h. absurd (none_there _ k f h);
    object_told = λ g n h. absurd (cc);
    function_told = λ k f h. absurd (none_there _ k f h);
  }

  pub unit_sound : AllByRecursion KnownItem items → IfGood (in_order (item items) items (none_declared items)) (Is (λ n. in_turn (map (item_objects n) items)))
  unit_sound k =
      if_more (Is (λ n. next (naming []) (in_turn (map (item_objects n) items)))) (Is (λ n. in_turn (map (item_objects n) items))) (in_order (item items) items (none_declared items))
      (λ c x. sound_text items W ObjectTold FunctionTold (λ n. next (naming []) (in_turn (map (item_objects n) items))) (λ n. in_turn (map (item_objects n) items)) c (λ n. refl) x)
      (items_sound items k (λ n. naming []) (none_declared items) begun)
