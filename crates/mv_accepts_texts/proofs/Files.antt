-- What names of file scope mean through the declarations of a unit, and which of them its functions name.
use Rattle.std.proofs.Common.{◌≡◌, ℕ, ◌⊎◌, inl, inr, refl, sym, ◌∙◌, ap, Bool, true, false, not, ◌||◌, is_some, if◌then◌else◌, nat_eq, List, [], ◌∷◌, map, length, slice_get, Option, Some, None}
use Rattle.std.specs.Cmp.Lexicographic.{pointwise}
use Rattle.std.specs.List.{AllByRecursion}
use Rattle.std.proofs.lemmas.Bool.{and_parts}
use Rattle.mv_ast.specs.declared.program.Function.{Function}
use Rattle.mv_syntax.specs.declared.unit.Item.{Item}
use Rattle.mv_check_scope.specs.Known.{known_function}
use Rattle.mv_check_scope.specs.Scoped.{unless_declared, meaning_of, declared}
use Rattle.mv_check_scope.specs.Spaces.{named, or_else, meaning_in}
use Rattle.mv_check_scope.specs.declared.meaning.Meaning.{Meaning}
use Rattle.mv_check_scope.specs.declared.scope.Scope.{Scope}
use Rattle.mv_check_scope.proofs.BoundNames.{names_kept, named_last}
use Rattle.mv_ast.specs.declared.program.Known.{Known}
use Rattle.mv_check_outline.specs.Names.{is_among}
use Rattle.mv_check_outline.specs.Outlined as outlined
use Rattle.mv_check_rules.specs.Nodes.{Global}
use Rattle.mv_check_rules.specs.Units.{Declarations, behind, function_number, is_defined_at}
use Rattle.mv_accepts_texts.specs.Expressions.{NameList}
use Rattle.mv_accepts_texts.specs.Meanings.{is_global, names_global}
use Rattle.mv_accepts_texts.specs.Texts.{Part}
use Rattle.mv_accepts_texts.proofs.Forms.{StmtsName}
use Rattle.mv_accepts_texts.proofs.Scopes.{few, FewIn}
use Rattle.mv_accepts_texts.proofs.Specifiers.{Adds}

-- ---- file scope

-- there are no names around it but those that are known
pub file_global : (s : Scope) → s.names.around ≡ [] → (n : List ℕ) (g : ℕ) → is_global g (meaning_of s n) ≡ is_global g (named n s.names.here)
file_global s q n g =
    ap (λ around. is_global g (unless_declared (or_else (named n s.names.here) (meaning_in around n)) (known_function n))) q ∙ by (named n s.names.here) (known_function n)
  where
    by : (o : Option Meaning) (k : Option Known) → is_global g (unless_declared (or_else o None) k) ≡ is_global g o
    by (Some m) k = refl
    by None None = refl
    by None (Some k) = refl

-- names go on meaning what they mean, and no other name means a global
pub record Steady (s t : Scope) : Type 0 where
  pub around : t.names.around ≡ s.names.around
  pub kept : (n : List ℕ) (m : Meaning) → named n s.names.here ≡ Some m → named n t.names.here ≡ Some m
  pub back : (n : List ℕ) (g : ℕ) → is_global g (named n t.names.here) ≡ true → is_global g (named n s.names.here) ≡ true

pub steady_names : (s t : Scope) → t.names ≡ s.names → Steady s t
steady_names s t q = record {
  around = ap (λ names. names.around) q;
  kept = λ n m h. ap (λ names. named n names.here) q ∙ h;
  back = λ n g h. sym (ap (λ names. is_global g (named n names.here)) q) ∙ h;
}

pub steady_adds : (names : NameList) (s t : Scope) → s.names.around ≡ [] → Adds names s t → Steady s t
steady_adds names s t q h = record {
  around = h.moves.around;
  kept = h.kept;
  back = λ n g r.
      let means : is_global g (meaning_of t n) ≡ true = file_global t (h.moves.around ∙ q) n g ∙ r in
      sym (file_global s q n g) ∙ (and_parts (not (is_among n names)) (is_global g (meaning_of s n)) (sym (h.hides g n) ∙ means)).1;
}

pub steady_declared : (s : Scope) (name : List ℕ) (m : Meaning) → ((g : ℕ) → is_global g (Some m) ≡ false) → Steady s (declared s name m)
steady_declared s name m local = record {
  around = refl;
  kept = λ n k h. names_kept n s.names.here (name, m) k h;
  back = λ n g h. by n g (named n s.names.here) (named n ((name, m) ∷ [])) (last n) (ap (is_global g) (sym (named_last n s.names.here (name, m))) ∙ h);
}
  where
    last : (n : List ℕ) → (named n ((name, m) ∷ []) ≡ Some m) ⊎ (named n ((name, m) ∷ []) ≡ None)
    last n = tested (pointwise nat_eq n name)
      where
        tested : (b : Bool) → ((if b then Some m else None) ≡ Some m) ⊎ ((if b then Some m else None) ≡ None)
        tested true = inl refl
        tested false = inr refl

    by : (n : List ℕ) (g : ℕ) (o p : Option Meaning) → (p ≡ Some m) ⊎ (p ≡ None) → is_global g (or_else o p) ≡ true → is_global g o ≡ true
    by n g (Some k) p e h = h
    by n g None p (inl e) h = let z : true ≡ false = sym h ∙ (ap (is_global g) e ∙ local g) in absurd (cc)
    by n g None p (inr e) h = ap (is_global g) (sym e) ∙ h

-- ---- texts of names that stay

pub texts_same : (s t : Scope) (objects names : NameList) → s.names.around ≡ [] → t.names.around ≡ [] →
    ((n : List ℕ) → is_among n objects ≡ true → is_some (named n s.names.here) ≡ true) →
    ((n : List ℕ) (m : Meaning) → named n s.names.here ≡ Some m → named n t.names.here ≡ Some m) →
    AllByRecursion (λ n. is_among n objects ≡ true) names → (g : ℕ) → names_global g t names ≡ names_global g s names
texts_same s t objects [] a b there kept h g = refl
texts_same s t objects (n ∷ names) a b there kept h g =
    ap (λ x. x || names_global g t names) (file_global t b n g ∙ (by (named n s.names.here) refl (there n h.0) ∙ sym (file_global s a n g))) ∙
    ap (λ x. is_global g (meaning_of s n) || x) (texts_same s t objects names a b there kept h.1 g)
  where
    by : (o : Option Meaning) → named n s.names.here ≡ o → is_some o ≡ true → is_global g (named n t.names.here) ≡ is_global g (named n s.names.here)
    by (Some m) q e = ap (is_global g) (kept n m q ∙ sym q)
    by None q e = absurd (cc)

-- ---- the unit so far

abbrev pub global_names : List Global → NameList
global_names gs = map (λ g. g.name) gs

-- Behind a part of a unit whose text is this by the names of functions. Where W holds no type has too many parameters.
module _ (items : List Item) (W : Type 0) (ObjectTold FunctionTold : List ℕ → Type 0) where
  pub record Sound (text : List ℕ → Part) (c : Declarations) : Type 0 where
    pub objects : NameList
    pub texts : List ℕ → NameList
    pub is : (n : List ℕ) → text n [] ≡ (objects, texts n)
    pub around : c.scope.names.around ≡ []
    pub meant : (n : List ℕ) (g : ℕ) → is_global g (named n c.scope.names.here) ≡ true → (slice_get (global_names c.globals) g ≡ Some n) × (is_among n objects ≡ true)
    pub numbered : (g : ℕ) (n : List ℕ) → slice_get (global_names c.globals) g ≡ Some n → is_global g (named n c.scope.names.here) ≡ true
    pub there : (n : List ℕ) → is_among n objects ≡ true → is_some (named n c.scope.names.here) ≡ true
    pub of_objects : (n : List ℕ) → AllByRecursion (λ m. is_among m objects ≡ true) (texts n)
    pub count : length c.functions ≡ length (outlined.functions items)
    pub number : (k : ℕ) (f : Function) → slice_get c.functions k ≡ Some (Some f) → function_number items f.name ≡ Some k
    pub named_by : (k : ℕ) (f : Function) → slice_get c.functions k ≡ Some (Some f) → (g : ℕ) → StmtsName g f.body ≡ names_global g c.scope (texts f.name)
    pub undefined : (n : List ℕ) → is_defined_at c.functions (function_number items n) ≡ false → texts n ≡ []
    pub few_types : W → FewIn c.scope
    pub few_params : W → (k : ℕ) (f : Function) → slice_get c.functions k ≡ Some (Some f) → few (f.params ∷ [])
    pub object_told : (g : ℕ) (n : List ℕ) → slice_get (global_names c.globals) g ≡ Some n → ObjectTold n
    pub function_told : (k : ℕ) (f : Function) → slice_get c.functions k ≡ Some (Some f) → FunctionTold f.name

  -- where only names that mean no global are new
  pub sound_behind : (text : List ℕ → Part) (c : Declarations) (s : Scope) → Sound text c → Steady c.scope s → (W → FewIn c.scope → FewIn s) → Sound text (behind s c)
  sound_behind text c s x h w = record {
    objects = x.objects;
    texts = x.texts;
    is = x.is;
    around = h.around ∙ x.around;
    meant = λ n g q. x.meant n g (h.back n g q);
    numbered = λ g n q. by_global n g (named n c.scope.names.here) refl (x.numbered g n q);
    there = λ n q. by_some n (named n c.scope.names.here) refl (x.there n q);
    of_objects = x.of_objects;
    count = x.count;
    number = x.number;
    named_by = λ k f q g. x.named_by k f q g ∙
        sym (texts_same c.scope s x.objects (x.texts f.name) x.around (h.around ∙ x.around) x.there h.kept (x.of_objects f.name) g);
    undefined = x.undefined;
    few_types = λ v. w v (x.few_types v);
    few_params = x.few_params;
    object_told = x.object_told;
    function_told = x.function_told;
  }
    where
      by_global : (n : List ℕ) (g : ℕ) (o : Option Meaning) → named n c.scope.names.here ≡ o → is_global g o ≡ true → is_global g (named n s.names.here) ≡ true
      by_global n g (Some m) q r = ap (is_global g) (h.kept n m q) ∙ r
      by_global n g None q r = absurd (cc)

      by_some : (n : List ℕ) (o : Option Meaning) → named n c.scope.names.here ≡ o → is_some o ≡ true → is_some (named n s.names.here) ≡ true
      by_some n (Some m) q r = ap (λ o. is_some o) (h.kept n m q)
      by_some n None q r = absurd (cc)

  -- the same text in other words
  pub sound_text : (text more : List ℕ → Part) (c : Declarations) → ((n : List ℕ) → more n [] ≡ text n []) → Sound text c → Sound more c
  sound_text text more c q x = record {
    objects = x.objects;
    texts = x.texts;
    is = λ n. q n ∙ x.is n;
    around = x.around;
    meant = x.meant;
    numbered = x.numbered;
    there = x.there;
    of_objects = x.of_objects;
    count = x.count;
    number = x.number;
    named_by = x.named_by;
    undefined = x.undefined;
    few_types = x.few_types;
    few_params = x.few_params;
    object_told = x.object_told;
    function_told = x.function_told;
  }
