-- A declarator of a function at file scope, and the function that it defines.
use Rattle.std.proofs.Common.{◌≡◌, ℕ, zero, suc, ◌<◌, ◌⊎◌, inl, inr, refl, sym, ◌∙◌, ap, subst, Bool, true, false, ◌&&◌, ◌||◌, is_some, if◌then◌else◌, List, [], ◌∷◌, ◌++◌, filter, length, append-nil, arith, slice_get, Option, Some, None}
use Rattle.std.specs.List.{AllByRecursion}
use Rattle.std.specs.Prelude.{slice_set, unwrap_or}
use Rattle.std.proofs.lemmas.List.{length-set}
use Rattle.std.proofs.lemmas.Map.Views.{any-filter_same}
use Rattle.std.proofs.lemmas.Option.{same_Some}
use Rattle.mv_ast.specs.declared.program.CType.{CType}
use Rattle.mv_ast.specs.declared.program.Function.{Function}
use Rattle.mv_syntax.specs.declared.unit.Declarator.{Declarator}
use Rattle.mv_syntax.specs.declared.unit.Item.{Item}
use Rattle.mv_syntax.specs.declared.unit.Line.{Line}
use Rattle.mv_syntax.specs.declared.unit.Param.{Param}
use Rattle.mv_check_scope.specs.Scoped.{meaning_of, declared}
use Rattle.mv_check_scope.specs.Spaces.{named}
use Rattle.mv_check_scope.specs.Known.{known_function}
use Rattle.mv_check_scope.specs.declared.meaning.Meaning.{Meaning}
use Rattle.mv_check_scope.specs.declared.scope.Scope.{Scope}
use Rattle.mv_check_expressions.specs.Judgements.{value_judgement}
use Rattle.mv_check_limits.specs.Ordered.{line_parameters}
use Rattle.mv_check_outline.specs.Names.{is_among, same_name}
use Rattle.mv_check_outline.specs.Outlined as outlined
use Rattle.mv_check_rules.specs.Nodes as node
use Rattle.mv_check_rules.specs.Rules.{stands_here, is_given, breaches, concluded}
use Rattle.mv_check_rules.specs.Declarations.{given}
use Rattle.mv_check_rules.specs.Units.{Declarations, behind, function_number, is_defined_at, routine_named, params_of, definition, defined_if, routine}
use Rattle.mv_accepts.proofs.OfStatements.Judging.{IfGood, if_any, if_then}
use Rattle.mv_accepts.proofs.OfStatements.Lists.{all_append}
use Rattle.mv_accepts_texts.specs.Expressions.{NameList}
use Rattle.mv_accepts_texts.specs.Meanings.{is_global, names_global}
use Rattle.mv_accepts_texts.specs.Texts.{Part, next, names_in_function}
use Rattle.mv_accepts_texts.proofs.Forms.{StmtsName}
use Rattle.mv_accepts_texts.proofs.Scopes.{few, FewIn}
use Rattle.mv_accepts_texts.proofs.Locals.{params_counts}
use Rattle.mv_accepts.proofs.OfNumbers.Lists.{set_there}
use Rattle.mv_accepts.proofs.OfNumbers.NameLists.{name_itself, name_is}
use Rattle.mv_accepts_texts.proofs.Lists.{place_within}
use Rattle.mv_accepts_texts.proofs.Functions.{rules_kept, names_same, Defined, definition_tells}
use Rattle.mv_accepts_texts.proofs.Files.{file_global, Steady, steady_names, steady_declared, Sound, sound_behind, sound_text}
use Rattle.std.proofs.ByRecursion.{kept_by_passes}

-- ---- lists of functions

set_defined : (fs : List (Option Function)) (k : ℕ) (f : Function) → k < length fs → is_defined_at (slice_set fs k (Some f)) (Some k) ≡ true
set_defined [] k f h = absurd (omega (arith, h))
set_defined (x ∷ xs) zero f h = refl
set_defined (x ∷ xs) (suc k) f h = set_defined xs k f (omega (arith, h))

still_undefined : (fs : List (Option Function)) (n : ℕ) (f : Function) (o : Option ℕ) → is_defined_at (slice_set fs n (Some f)) o ≡ false → is_defined_at fs o ≡ false
still_undefined fs n f None h = refl
still_undefined [] n f (Some j) h = h
still_undefined (x ∷ xs) zero f (Some zero) h = absurd (cc)
still_undefined (x ∷ xs) zero f (Some (suc j)) h = h
still_undefined (x ∷ xs) (suc n) f (Some zero) h = h
still_undefined (x ∷ xs) (suc n) f (Some (suc j)) h = still_undefined xs n f (Some j) h

module _ (items : List Item) (W : Type 0) (ObjectTold FunctionTold : List ℕ → Type 0) where
  abbrev Is : (List ℕ → Part) → Declarations → Type 0
  Is = Sound items W ObjectTold FunctionTold

  -- the text with the body of a function
  abbrev pub definition_names : List ℕ → List Param → Line → List ℕ → NameList
  definition_names name params b n = if same_name n name then names_in_function params b else []

  abbrev pub WithBody : (text : List ℕ → Part) → List ℕ → List Param → Line → List ℕ → Part
  WithBody text name params b n = next (text n) (λ objects. (objects ++ [], filter (λ m. is_among m objects) (definition_names name params b n)))

  sound_defined : (text : List ℕ → Part) (c : Declarations) (name : List ℕ) (params : List Param) (b : Line) (t : Scope) (f : Function) (k : ℕ) → Is text c →
      Defined c.scope t name params b f → function_number items name ≡ Some k → is_defined_at c.functions (Some k) ≡ false →
      (W → few (params_counts params) × few (length params ∷ []) × few (line_parameters b)) → FunctionTold name →
      Is (WithBody text name params b) (record { scope = t; globals = c.globals; functions = slice_set c.functions k (Some f) })
  sound_defined text c name params b t f k x d number free w told =
      record {
        objects = x.objects ++ [];
        texts = texts;
        is = λ n. ap (λ (a : NameList × NameList). (a.0 ++ [], a.1 ++ filter (λ m. is_among m a.0) (definition_names name params b n))) (x.is n);
        around = ap (λ spaces. spaces.around) d.names ∙ x.around;
        meant = λ n g h.
            let m = x.meant n g (sym (ap (λ spaces. is_global g (named n spaces.here)) d.names) ∙ h) in (m.0, ap (is_among n) (append-nil x.objects) ∙ m.1);
        numbered = λ g n h. ap (λ spaces. is_global g (named n spaces.here)) d.names ∙ x.numbered g n h;
        there = λ n h. ap (λ spaces. is_some (named n spaces.here)) d.names ∙ x.there n (sym (ap (is_among n) (append-nil x.objects)) ∙ h);
        of_objects = λ n. subst (λ objects. AllByRecursion (λ m. is_among m objects ≡ true) (texts n)) (sym (append-nil x.objects))
            (all_append _ (x.texts n) _ (x.of_objects n) (kept_by_passes (λ m. is_among m x.objects) (definition_names name params b n)));
        count = length-set c.functions k (Some f) ∙ x.count;
        number = λ i g h. number_of i g (set_there c.functions k (Some f) i (Some g) h);
        named_by = λ i g h. named_of i g (set_there c.functions k (Some f) i (Some g) h);
        undefined = λ n h. undefined n h;
        few_types = λ v. let l = w v in d.few l.0 l.2 (x.few_types v);
        few_params = λ v i g h. few_of v i g (set_there c.functions k (Some f) i (Some g) h);
        object_told = x.object_told;
        function_told = λ i g h. told_of i g (set_there c.functions k (Some f) i (Some g) h);
      }
    where
      texts : List ℕ → NameList
      texts n = x.texts n ++ filter (λ m. is_among m x.objects) (definition_names name params b n)

      number_of : (i : ℕ) (g : Function) → ((slice_get c.functions i ≡ Some (Some g)) × (k ≡ i → ⊥)) ⊎ ((k ≡ i) × (Some f ≡ Some g)) → function_number items g.name ≡ Some i
      number_of i g (inl h) = x.number i g h.0
      number_of i g (inr h) = ap (λ (e : Function). function_number items e.name) (sym (same_Some f g h.1)) ∙ (ap (function_number items) d.name ∙ (number ∙ ap (λ j. Some j) h.0))

      -- a function with another number has another name
      other_name : (i : ℕ) (g : Function) → slice_get c.functions i ≡ Some (Some g) → (k ≡ i → ⊥) → same_name g.name name ≡ true → ⊥
      other_name i g h apart q =
          let z : Some k ≡ Some i = sym number ∙ (sym (ap (function_number items) (name_is g.name name q)) ∙ x.number i g h) in
          apart (same_Some k i z)

      not_named : (n : List ℕ) → (same_name n name ≡ true → ⊥) → x.texts n ++ filter (λ m. is_among m x.objects) (definition_names name params b n) ≡ x.texts n
      not_named n other = by (same_name n name) other
        where
          by : (q : Bool) → (q ≡ true → ⊥) → x.texts n ++ filter (λ m. is_among m x.objects) (if q then names_in_function params b else []) ≡ x.texts n
          by true h = absurd (h refl)
          by false h = append-nil (x.texts n)

      none_before : x.texts name ≡ []
      none_before = x.undefined name (ap (is_defined_at c.functions) number ∙ free)

      own_texts : x.texts name ++ filter (λ m. is_among m x.objects) (definition_names name params b name) ≡ filter (λ m. is_among m x.objects) (names_in_function params b)
      own_texts = ap (λ names. names ++ filter (λ m. is_among m x.objects) (definition_names name params b name)) none_before ∙
          ap (λ (q : Bool). filter (λ m. is_among m x.objects) (if q then names_in_function params b else [])) (name_itself name)

      -- names of no object mean no global
      counted : (g : ℕ) → names_global g c.scope (filter (λ m. is_among m x.objects) (names_in_function params b)) ≡ names_global g c.scope (names_in_function params b)
      counted g = any-filter_same (λ n. is_global g (meaning_of c.scope n)) (λ m. is_among m x.objects) true
          (λ n h. (x.meant n g (sym (file_global c.scope x.around n g) ∙ h)).1) (names_in_function params b)

      same_scope : (g : ℕ) (names : NameList) → names_global g t names ≡ names_global g c.scope names
      same_scope g names = names_same c.scope t g by names
        where
          by : (n : List ℕ) → is_global g (meaning_of t n) ≡ is_global g (meaning_of c.scope n)
          by n = file_global t (ap (λ spaces. spaces.around) d.names ∙ x.around) n g ∙
              (ap (λ spaces. is_global g (named n spaces.here)) d.names ∙ sym (file_global c.scope x.around n g))

      named_of : (i : ℕ) (g : Function) → ((slice_get c.functions i ≡ Some (Some g)) × (k ≡ i → ⊥)) ⊎ ((k ≡ i) × (Some f ≡ Some g)) → (n : ℕ) →
          StmtsName n g.body ≡ names_global n t (x.texts g.name ++ filter (λ m. is_among m x.objects) (definition_names name params b g.name))
      named_of i g (inl h) n =
          x.named_by i g h.0 n ∙ (sym (same_scope n (x.texts g.name)) ∙ ap (names_global n t) (sym (not_named g.name (other_name i g h.0 h.1))))
      named_of i g (inr h) n =
          ap (λ (e : Function). StmtsName n e.body) (sym (same_Some f g h.1)) ∙
          (d.named n ∙ (sym (counted n) ∙ (sym (same_scope n (filter (λ m. is_among m x.objects) (names_in_function params b))) ∙
          (ap (names_global n t) (sym own_texts) ∙
          ap (λ e. names_global n t (x.texts e ++ filter (λ m. is_among m x.objects) (definition_names name params b e))) (sym d.name ∙ ap (λ (e : Function). e.name) (same_Some f g h.1))))))

      undefined : (n : List ℕ) → is_defined_at (slice_set c.functions k (Some f)) (function_number items n) ≡ false →
          x.texts n ++ filter (λ m. is_among m x.objects) (definition_names name params b n) ≡ []
      undefined n h = not_named n other ∙ x.undefined n (still_undefined c.functions k f (function_number items n) h)
        where
          within : k < length c.functions
          within =
              rw x.count (place_within name (outlined.functions items) k number)

          other : same_name n name ≡ true → ⊥
          other q =
              let z : true ≡ false = sym (set_defined c.functions k f within) ∙
              (ap (is_defined_at (slice_set c.functions k (Some f))) (sym (ap (function_number items) (name_is n name q) ∙ number)) ∙ h) in absurd (cc)

      few_of : W → (i : ℕ) (g : Function) → ((slice_get c.functions i ≡ Some (Some g)) × (k ≡ i → ⊥)) ⊎ ((k ≡ i) × (Some f ≡ Some g)) → few (g.params ∷ [])
      few_of v i g (inl h) = x.few_params v i g h.0
      few_of v i g (inr h) = subst (λ (e : Function). few (e.params ∷ [])) (same_Some f g h.1) (subst (λ n. few (n ∷ [])) (sym d.count) (w v).1)

      told_of : (i : ℕ) (g : Function) → ((slice_get c.functions i ≡ Some (Some g)) × (k ≡ i → ⊥)) ⊎ ((k ≡ i) × (Some f ≡ Some g)) → FunctionTold g.name
      told_of i g (inl h) = x.function_told i g h.0
      told_of i g (inr h) = subst FunctionTold (sym d.name ∙ ap (λ (e : Function). e.name) (same_Some f g h.1)) told

  -- ---- the declarator

  routine_steady : (name : List ℕ) (signature : ℕ) (s : Scope) → Steady s (routine_named items name signature s)
  routine_steady name signature s = by (stands_here s name || is_some (known_function name)) _ (λ g. refl)
    where
      by : (b : Bool) (m : Meaning) → ((g : ℕ) → is_global g (Some m) ≡ false) → Steady s (if b then s else declared s name m)
      by true m h = steady_names s s refl
      by false m h = steady_declared s name m h

  routine_few : (name : List ℕ) (signature : ℕ) (s : Scope) → FewIn s → FewIn (routine_named items name signature s)
  routine_few name signature s h = by (stands_here s name || is_some (known_function name)) _
    where
      by : (b : Bool) (m : Meaning) → FewIn (if b then s else declared s name m)
      by true m = h
      by false m = h

  abbrev pub WithOptional : (text : List ℕ → Part) → List ℕ → List Param → Option Line → List ℕ → Part
  WithOptional text name params None n = next (text n) (λ objects. (objects ++ [], []))
  WithOptional text name params (Some b) n = WithBody text name params b n

  abbrev pub Counts : List Param → Option Line → Type 0
  Counts params None = Unit {0}
  Counts params (Some b) = few (params_counts params) × few (length params ∷ []) × few (line_parameters b)

  abbrev pub Numbered : List ℕ → Option Line → Type 0
  Numbered name None = Unit {0}
  Numbered name (Some b) = (k : ℕ) × (function_number items name ≡ Some k) × FunctionTold name

  defined_sound : (text : List ℕ → Part) (c : Declarations) (name : List ℕ) (result : CType) (params : List Param) (b : Option Line) → Is text c →
      (is_some b && is_defined_at c.functions (function_number items name)) ≡ false → (W → Counts params b) → Numbered name b →
      IfGood (defined_if items name result params b c) (Is (WithOptional text name params b))
  defined_sound text c name result params None x free w n =
      sound_text items W ObjectTold FunctionTold text _ c
      (λ m. ap (λ objects. (objects, (text m []).1 ++ [])) (append-nil (text m []).0) ∙ ap (λ (names : NameList). ((text m []).0, names)) (append-nil (text m []).1)) x
  defined_sound text c name result params (Some b) x free w n =
      if_then (λ d. Defined c.scope d.0 name params b d.1) (Is (WithBody text name params b)) (definition items name result params b c.scope) _
      (definition_tells items name result params b c.scope) (λ f d.
      subst (λ number. Is (WithBody text name params b) (record { scope = f.0; globals = c.globals; functions = slice_set c.functions (unwrap_or number 0) (Some f.1) }))
      (sym n.1) (sound_defined text c name params b f.0 f.1 n.0 x d n.1 (sym (ap (is_defined_at c.functions) n.1) ∙ free) w n.2))

  pub routine_sound : (text : List ℕ → Part) (d : Declarator) (name : List ℕ) (result : CType) (signature : ℕ) (b : Option Line) (c : Declarations) → Is text c →
      (W → Counts (params_of d) b) → Numbered name b →
      IfGood (routine items d name result signature b c) (Is (WithOptional text name (params_of d) b))
  routine_sound text d name result signature b c x w n =
      let s : Scope = routine_named items name signature c.scope in
      let R : Declarations → Type 0 = Is (WithOptional text name (params_of d) b) in
      if_then (λ g. Unit {0}) R (given value_judgement d.initial s) _ (if_any (given value_judgement d.initial s)) (λ g u.
      let m : node.Node = node.Routine name signature (is_defined_at c.functions (function_number items name)) (is_given g) (is_some b) in
      if_then (λ y. (y ≡ behind s c) × AllByRecursion (λ r. r.1 ≡ false) (breaches c.scope m)) R (concluded d.place c.scope m (behind s c)) _ (rules_kept d.place c.scope m (behind s c)) (λ y r.
      subst (λ z. IfGood (defined_if items name result (params_of d) b z) R) (sym r.0)
      (defined_sound text (behind s c) name result (params_of d) b
      (sound_behind items W ObjectTold FunctionTold text c s x (routine_steady name signature c.scope) (λ v. routine_few name signature c.scope))
      r.1.1.1.1.1.1.1.1.1.1.1.1.1.1.0 w n)))
