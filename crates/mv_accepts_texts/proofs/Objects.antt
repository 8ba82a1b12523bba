-- A declarator of an object at file scope.
use Rattle.std.proofs.Common.{◌≡◌, ℕ, ◌⊎◌, inl, inr, refl, sym, ◌∙◌, ap, subst, Bool, true, false, not, ◌&&◌, ◌||◌, is_some, if◌then◌else◌, nat_eq, List, [], ◌∷◌, ◌++◌, length, append-nil, slice_get, Option, Some, None}
use Rattle.std.specs.Cmp.Lexicographic.{pointwise}
use Rattle.std.specs.Prelude.{slice_set}
use Rattle.std.proofs.lemmas.Bool.{eqb-true, eq-eqb, or_cases, not-false}
use Rattle.std.proofs.lemmas.List.{map-append, length-map}
use Rattle.mv_syntax.specs.declared.unit.Declarator.{Declarator}
use Rattle.mv_syntax.specs.declared.unit.Item.{Item}
use Rattle.mv_check_scope.specs.Scoped.{declared}
use Rattle.mv_check_scope.specs.Spaces.{named, or_else}
use Rattle.mv_check_scope.specs.declared.meaning.Meaning.{Meaning}
use Rattle.mv_check_scope.specs.declared.scope.Scope.{Scope}
use Rattle.mv_check_scope.proofs.BoundNames.{named_last, names_kept}
use Rattle.mv_check_outline.specs.Names.{is_among, same_name}
use Rattle.mv_check_rules.specs.Nodes.{Declared, Given, Global}
use Rattle.mv_check_rules.specs.Nodes as node
use Rattle.mv_check_rules.specs.Rules.{meaning_here, stands_here, allows_object, concluded}
use Rattle.mv_check_rules.specs.Declarations.{given, named_unless}
use Rattle.mv_check_rules.specs.Units.{Declarations, constant_expression, global_number, global_at, earlier, object_meaning, object_named, declared_again, new_global, with_global, object_found, object}
use Rattle.mv_accepts.proofs.OfStatements.Judging.{IfGood, if_any, if_more, if_then}
use Rattle.mv_accepts.proofs.OfStatements.Lists.{all_more}
use Rattle.mv_accepts.proofs.OfStatements.Places.{keeps_more}
use Rattle.mv_accepts_texts.specs.Expressions.{NameList}
use Rattle.mv_accepts_texts.specs.Meanings.{is_global}
use Rattle.mv_accepts_texts.specs.Texts.{Part, next}
use Rattle.mv_accepts_texts.proofs.Functions.{rules_kept}
use Rattle.mv_accepts.proofs.OfNumbers.Lists.{set_same}
use Rattle.mv_accepts.proofs.OfNumbers.NameLists.{name_itself, name_is, among_last, among_more}
use Rattle.mv_accepts_texts.proofs.Lists.{there_last}
use Rattle.mv_accepts_texts.proofs.Files.{texts_same, global_names, Sound}
use Rattle.mv_num.proofs.Lists.{last_there}
use Rattle.mv_num.proofs.Booleans.{or_true}

-- what an object that may be declared again is
again_there : (gs : List Global) (number : Option ℕ) (d : Declared) (g : Given) (domain : Option (List ℕ)) → allows_object (global_at gs number) d g domain ≡ true →
    (k : ℕ) × (old : Global) × (number ≡ Some k) × (slice_get gs k ≡ Some old)
again_there gs None d g domain h = absurd (cc)
again_there gs (Some k) d g domain h = by (slice_get gs k) refl h
  where
    by : (o : Option Global) → slice_get gs k ≡ o → allows_object o d g domain ≡ true →
        (j : ℕ) × (old : Global) × (Some k ≡ Some j) × (slice_get gs j ≡ Some old)
    by None q r = absurd (cc)
    by (Some old) q r = (k, old, refl, q)

module _ (items : List Item) (W : Type 0) (ObjectTold FunctionTold : List ℕ → Type 0) where
  abbrev Is : (List ℕ → Part) → Declarations → Type 0
  Is = Sound items W ObjectTold FunctionTold

  -- the text with one more name of an object
  abbrev pub With : (text : List ℕ → Part) → List ℕ → List ℕ → Part
  With text name n = next (text n) (λ objects. (objects ++ name ∷ [], []))

  among_new : (n name : List ℕ) (objects : NameList) → same_name n name ≡ true → is_among n (objects ++ name ∷ []) ≡ true
  among_new n name objects h = among_last n objects name ∙ (ap (λ b. is_among n objects || b) h ∙ or_true (is_among n objects))

  -- a name that is new means the next global
  sound_new : (text : List ℕ → Part) (c : Declarations) (name : List ℕ) (m : Meaning) (new : Global) → Is text c → named name c.scope.names.here ≡ None →
      ((g : ℕ) → is_global g (Some m) ≡ nat_eq g (length c.globals)) → new.name ≡ name → ObjectTold name →
      Is (With text name) (record { scope = declared c.scope name m; globals = c.globals ++ new ∷ []; functions = c.functions })
  sound_new text c name m new x none next_global same told = record {
    objects = x.objects ++ name ∷ [];
    texts = x.texts;
    is = λ n. ap (λ (a : NameList × NameList). (a.0 ++ name ∷ [], a.1 ++ [])) (x.is n) ∙ ap (λ (names : NameList). (x.objects ++ name ∷ [], names)) (append-nil (x.texts n));
    around = x.around;
    meant = λ n g h. meant n g (named n here) refl (pointwise nat_eq n name) refl (ap (is_global g) (sym (named_last n here (name, m))) ∙ h);
    numbered = λ g n h. numbered g n (there_last (global_names c.globals) name g n (sym (ap (λ names. slice_get names g) names_are) ∙ h));
    there = λ n h. there n (or_cases (is_among n x.objects) (same_name n name) (sym (among_last n x.objects name) ∙ h));
    of_objects = λ n. all_more _ _ (λ k h. among_more k x.objects (name ∷ []) h) (x.texts n) (x.of_objects n);
    count = x.count;
    number = x.number;
    named_by = λ k f q g. x.named_by k f q g ∙
        sym (texts_same c.scope (declared c.scope name m) x.objects (x.texts f.name) x.around x.around x.there (λ n k h. names_kept n here (name, m) k h) (x.of_objects f.name) g);
    undefined = x.undefined;
    few_types = x.few_types;
    few_params = x.few_params;
    object_told = λ g n h. object_told g n (there_last (global_names c.globals) name g n (sym (ap (λ names. slice_get names g) names_are) ∙ h));
    function_told = x.function_told;
  }
    where
      here : List (List ℕ × Meaning)
      here = c.scope.names.here

      names_are : global_names (c.globals ++ new ∷ []) ≡ global_names c.globals ++ name ∷ []
      names_are = map-append (λ (g : Global). g.name) c.globals (new ∷ []) ∙ ap (λ (n : List ℕ). global_names c.globals ++ n ∷ []) same

      length_is : length (global_names c.globals) ≡ length c.globals
      length_is = length-map c.globals (λ g. g.name)

      meant : (n : List ℕ) (g : ℕ) (o : Option Meaning) → named n c.scope.names.here ≡ o → (b : Bool) → pointwise nat_eq n name ≡ b → is_global g (or_else o (if b then Some m else None)) ≡ true →
          (slice_get (global_names (c.globals ++ new ∷ [])) g ≡ Some n) × (is_among n (x.objects ++ name ∷ []) ≡ true)
      meant n g (Some k) q b e h =
          let old = x.meant n g (ap (is_global g) q ∙ h) in
          (ap (λ names. slice_get names g) names_are ∙ keeps_more (global_names c.globals) (name ∷ []) g n old.0, among_more n x.objects (name ∷ []) old.1)
      meant n g None q true e h =
          let g_is : g ≡ length c.globals = eqb-true g (length c.globals) (sym (next_global g) ∙ h) in
          let n_is : n ≡ name = name_is n name e in (
            ap (λ names. slice_get names g) names_are ∙
                (ap (λ i. slice_get (global_names c.globals ++ name ∷ []) i) (g_is ∙ sym length_is) ∙ (last_there (global_names c.globals) name ∙ ap (λ y. Some y) (sym n_is))),
            among_new n name x.objects e,
          )
      meant n g None q false e h = absurd (cc)

      kept_global : (n : List ℕ) (g : ℕ) (o : Option Meaning) → named n c.scope.names.here ≡ o → is_global g o ≡ true → is_global g (named n (c.scope.names.here ++ (name, m) ∷ [])) ≡ true
      kept_global n g (Some k) q r = ap (is_global g) (names_kept n c.scope.names.here (name, m) k q) ∙ r
      kept_global n g None q r = absurd (cc)

      kept_some : (n : List ℕ) (o : Option Meaning) → named n c.scope.names.here ≡ o → is_some o ≡ true → is_some (named n (c.scope.names.here ++ (name, m) ∷ [])) ≡ true
      kept_some n (Some k) q r = ap (λ o. is_some o) (names_kept n c.scope.names.here (name, m) k q)
      kept_some n None q r = absurd (cc)

      -- what the name means now
      named_new : (n : List ℕ) → same_name n name ≡ true → named n (c.scope.names.here ++ (name, m) ∷ []) ≡ Some m
      named_new n e =
          named_last n c.scope.names.here (name, m) ∙
          (ap (λ o. or_else o (named n ((name, m) ∷ []))) (ap (λ y. named y c.scope.names.here) (name_is n name e) ∙ none) ∙
          ap (λ (b : Bool). if b then Some m else None) e)

      numbered : (g : ℕ) (n : List ℕ) → (slice_get (global_names c.globals) g ≡ Some n) ⊎ ((g ≡ length (global_names c.globals)) × (name ≡ n)) →
          is_global g (named n (c.scope.names.here ++ (name, m) ∷ [])) ≡ true
      numbered g n (inl h) = kept_global n g (named n c.scope.names.here) refl (x.numbered g n h)
      numbered g n (inr h) =
          ap (is_global g) (named_new n (ap (λ y. same_name y name) (sym h.1) ∙ name_itself name)) ∙
          (next_global g ∙ eq-eqb g (length c.globals) (h.0 ∙ length_is))

      there : (n : List ℕ) → (is_among n x.objects ≡ true) ⊎ (same_name n name ≡ true) → is_some (named n (c.scope.names.here ++ (name, m) ∷ [])) ≡ true
      there n (inl h) = kept_some n (named n c.scope.names.here) refl (x.there n h)
      there n (inr h) = ap (λ o. is_some o) (named_new n h)

      object_told : (g : ℕ) (n : List ℕ) → (slice_get (global_names c.globals) g ≡ Some n) ⊎ ((g ≡ length (global_names c.globals)) × (name ≡ n)) → ObjectTold n
      object_told g n (inl h) = x.object_told g n h
      object_told g n (inr h) = subst ObjectTold h.1 told

  -- an object that is declared again keeps its name
  sound_again : (text : List ℕ → Part) (c : Declarations) (name : List ℕ) (k : ℕ) (old new : Global) → Is text c → is_some (named name c.scope.names.here) ≡ true →
      slice_get c.globals k ≡ Some old →
      Is (With text name) (record { scope = c.scope; globals = slice_set c.globals k (declared_again old new); functions = c.functions })
  sound_again text c name k old new x stands h = record {
    objects = x.objects ++ name ∷ [];
    texts = x.texts;
    is = λ n. ap (λ (a : NameList × NameList). (a.0 ++ name ∷ [], a.1 ++ [])) (x.is n) ∙ ap (λ (names : NameList). (x.objects ++ name ∷ [], names)) (append-nil (x.texts n));
    around = x.around;
    meant = λ n g q. let m = x.meant n g q in (ap (λ names. slice_get names g) names_are ∙ m.0, among_more n x.objects (name ∷ []) m.1);
    numbered = λ g n q. x.numbered g n (sym (ap (λ names. slice_get names g) names_are) ∙ q);
    there = λ n q. there n (or_cases (is_among n x.objects) (same_name n name) (sym (among_last n x.objects name) ∙ q));
    of_objects = λ n. all_more _ _ (λ k h. among_more k x.objects (name ∷ []) h) (x.texts n) (x.of_objects n);
    count = x.count;
    number = x.number;
    named_by = x.named_by;
    undefined = x.undefined;
    few_types = x.few_types;
    few_params = x.few_params;
    object_told = λ g n q. x.object_told g n (sym (ap (λ names. slice_get names g) names_are) ∙ q);
    function_told = x.function_told;
  }
    where
      names_are : global_names (slice_set c.globals k (declared_again old new)) ≡ global_names c.globals
      names_are = set_same (λ (g : Global). g.name) c.globals k old (declared_again old new) h refl

      there : (n : List ℕ) → (is_among n x.objects ≡ true) ⊎ (same_name n name ≡ true) → is_some (named n c.scope.names.here) ≡ true
      there n (inl q) = x.there n q
      there n (inr q) = ap (λ y. is_some (named y c.scope.names.here)) (name_is n name q) ∙ stands

  -- ---- the declarator

  pub object_sound : (text : List ℕ → Part) (d : Declarator) (name : List ℕ) (e : Declared) (domain : Option (List ℕ)) (block : Bool) (c : Declarations) →
      ((m : ℕ) → (k : Meaning) × (object_meaning items name m e ≡ Some k) × ((g : ℕ) → is_global g (Some k) ≡ nat_eq g m)) →
      Is text c → (block ≡ false → ObjectTold name) → IfGood (object items d name e domain block c) (Is (With text name))
  object_sound text d name e domain block c means x told =
      let s : Scope = object_named items name e c in
      if_then (λ g. Unit {0}) (Is (With text name)) (given constant_expression d.initial s) _ (if_any (given constant_expression d.initial s)) (λ g u.
      let n : node.Node = node.Object name e g domain (earlier c name) block in
      let new : Global = new_global name e g domain in
      if_more _ (Is (With text name)) (concluded d.place c.scope n (object_found name s new c))
      (λ y r. subst (Is (With text name)) (sym r.0) (by g (named name c.scope.names.here) refl r.1.1.0 (told r.1.1.1.1.1.1.1.1.1.1.1.1.1.1.1.1.0))) (rules_kept d.place c.scope n (object_found name s new c)))
    where
      by : (g : Given) (o : Option Meaning) → named name c.scope.names.here ≡ o → (stands_here c.scope name && not (allows_object (earlier c name) e g domain)) ≡ false → ObjectTold name →
          Is (With text name) (object_found name (object_named items name e c) (new_global name e g domain) c)
      by g None q r t =
          let m = means (length c.globals) in
          let P : Option Meaning → Option Meaning → Type 0 = λ o p.
          Is (With text name) (record {
            scope = named_unless (is_some o) c.scope name p;
            globals = with_global c.globals (global_number o) (global_at c.globals (global_number o)) (new_global name e g domain);
            functions = c.functions;
          }) in
          subst (λ o. P o (object_meaning items name (length c.globals) e)) (sym q)
          (subst (P None) (sym m.1) (sound_new text c name m.0 (new_global name e g domain) x q m.2 refl t))
      by g (Some k) q r t =
          let stands : is_some (named name c.scope.names.here) ≡ true = ap (λ o. is_some o) q in
          let allowed : allows_object (earlier c name) e g domain ≡ true = not-false _ (sym (ap (λ b. b && not (allows_object (earlier c name) e g domain)) stands) ∙ r) in
          let a = again_there c.globals (global_number (meaning_here c.scope name)) e g domain allowed in
          let P : Bool → Option ℕ → Option Global → Type 0 = λ b number old.
          Is (With text name) (record {
            scope = named_unless b c.scope name (object_meaning items name (length c.globals) e);
            globals = with_global c.globals number old (new_global name e g domain);
            functions = c.functions;
          }) in
          let m = means (length c.globals) in
          subst (λ b. P b (global_number (meaning_here c.scope name)) (global_at c.globals (global_number (meaning_here c.scope name)))) (sym stands)
          (subst (λ number. P true number (global_at c.globals number)) (sym a.2)
          (subst (λ old. P true (Some a.0) old) (sym a.3)
          (subst (λ p. Is (With text name) (record { scope = named_unless true c.scope name p; globals = with_global c.globals (Some a.0) (Some a.1) (new_global name e g domain); functions = c.functions }))
          (sym m.1) (sound_again text c name a.0 a.1 (new_global name e g domain) x stands a.3))))
