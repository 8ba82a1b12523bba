-- The program of a unit: its functions have the switches that their texts name, and what it exceeds is told.
use Rattle.std.proofs.Common.{◌≡◌, ℕ, zero, suc, refl, sym, ◌∙◌, ap, subst, Bool, true, false, cond, ◌||◌, if◌then◌else◌, List, [], ◌∷◌, map, slice_get, Option, Some, None}
use Rattle.std.specs.Prelude.{All, unwrap_or, codes}
use Rattle.std.specs.List.{AllByRecursion, concat}
use Rattle.std.proofs.lemmas.List.Elements.{recursion_from_All, All-from_recursion}
use Rattle.std.proofs.lemmas.Option.{same_Some}
use Rattle.mv_ast.specs.declared.program.Function.{Function}
use Rattle.mv_ast.specs.declared.program.Program.{Program}
use Rattle.mv_ast.specs.declared.program.Switch.{Switch}
use Rattle.mv_syntax.specs.declared.unit.Declarator.{Declarator}
use Rattle.mv_syntax.specs.declared.unit.Item.{Item}
use Rattle.mv_syntax.specs.declared.unit.Line.{Line}
use Rattle.mv_syntax.specs.declared.unit.Unit as tree
use Rattle.mv_check_scope.specs.Scoped.{meaning_of}
use Rattle.mv_check_scope.specs.Spaces.{named}
use Rattle.mv_check_expressions.specs.Judged.{Good}
use Rattle.mv_check_limits.specs.Ordered.{declarator_parameters, optional_parameters, item_parameters}
use Rattle.mv_check_outline.specs.Names.{is_among, same_name}
use Rattle.mv_check_outline.specs.Outlined.{is_function, name_of}
use Rattle.mv_check_uses.specs.Uses.{numbers_from, switches_named}
use Rattle.mv_check_rules.specs.Nodes.{Global}
use Rattle.mv_check_rules.specs.Nodes as node
use Rattle.mv_check_rules.specs.Rules.{meaning_here}
use Rattle.mv_check_rules.specs.Declarations.{in_order}
use Rattle.mv_check_rules.specs.Units.{Declarations, none_declared, item, global_of, those_there, with_switches, switches_from, program, main_number, unit_end, judged_by_rules}
use Rattle.mv_types.specs.Foreknown.{foreknown}
use Rattle.mv_accepts.proofs.OfExpressions.Kept.{went_on}
use Rattle.mv_accepts.specs.Numbers.Numbers.{IsForeknown, ItemsAreForeknown}
use Rattle.mv_accepts.proofs.OfStatements.Judging.{of_good}
use Rattle.mv_accepts.proofs.OfStatements.Lists.{all_mapped}
use Rattle.mv_accepts_texts.specs.Expressions.{NameList}
use Rattle.mv_accepts_texts.specs.Meanings.{is_global, names_global}
use Rattle.mv_accepts_texts.specs.Switches.{has_name_among, switches_in_text}
use Rattle.mv_accepts_texts.specs.Texts.{in_turn, item_objects, objects_named}
use Rattle.mv_accepts_texts.proofs.Forms.{StmtsName}
use Rattle.mv_accepts_texts.proofs.Scopes.{few, few_both}
use Rattle.mv_accepts_texts.proofs.Functions.{rules_kept}
use Rattle.mv_accepts.proofs.OfNumbers.NameLists.{name_itself, name_is}
use Rattle.mv_accepts_texts.proofs.Files.{file_global, global_names, Sound}
use Rattle.mv_accepts_texts.proofs.Units.{Told, HasNumber, Known, KnownItem, unit_sound}
use Rattle.mv_num.proofs.Booleans.{same_bools}

-- ---- what is known of each declarator

module _ (items : List Item) (W : Type 0) (ObjectTold FunctionTold : List ℕ → Type 0) where
  abbrev pub TellsName : Option Line → Declarator → Type 0
  TellsName b d = (name : List ℕ) → d.name ≡ Some name → Told items W ObjectTold FunctionTold b name

  abbrev NumbersName : Option Line → Declarator → Type 0
  NumbersName b d = is_function d ≡ true → HasNumber items W ObjectTold FunctionTold b (name_of d)

  declarators_known : (b : Option Line) (ds : List Declarator) → (W → few (concat (map declarator_parameters ds))) → (W → few (optional_parameters b)) →
      AllByRecursion (TellsName b) ds → AllByRecursion (NumbersName b) ds → AllByRecursion (Known items W ObjectTold FunctionTold b) ds
  declarators_known b [] p q h k = tt
  declarators_known b (d ∷ ds) p q h k = (
    record { few = λ w. ((few_both (declarator_parameters d) (concat (map declarator_parameters ds)) (p w)).0, q w); told = h.0; number = k.0 },
    declarators_known b ds (λ w. (few_both (declarator_parameters d) (concat (map declarator_parameters ds)) (p w)).1) q h.1 k.1,
  )

  no_numbers : (ds : List Declarator) → AllByRecursion (NumbersName None) ds
  no_numbers [] = tt
  no_numbers (d ∷ ds) = (λ f. tt, no_numbers ds)

  numbers : (i : Item) → IsForeknown (foreknown items) i → AllByRecursion (NumbersName i.body) i.names
  unfolding foreknown
  numbers i h = by i.body refl
    where
      by : (b : Option Line) → i.body ≡ b → AllByRecursion (NumbersName b) i.names
      by None q = no_numbers i.names
      by (Some l) q = recursion_from_All _ i.names (h l q)

  pub items_known : (is : List Item) → AllByRecursion (IsForeknown (foreknown items)) is → (W → few (concat (map item_parameters is))) →
      AllByRecursion (λ i. AllByRecursion (TellsName i.body) i.names) is → AllByRecursion (KnownItem items W ObjectTold FunctionTold) is
  items_known [] h p k = tt
  items_known (i ∷ is) h p k =
      let here : W → few (item_parameters i) = λ w. (few_both (item_parameters i) (concat (map item_parameters is)) (p w)).0 in
      let parts : W → few (concat (map declarator_parameters i.names)) × few (optional_parameters i.body) = λ w.
      few_both (concat (map declarator_parameters i.names)) (optional_parameters i.body) (here w) in (
        declarators_known i.body i.names (λ w. (parts w).0) (λ w. (parts w).1) k.0 (numbers i h.0),
        items_known is h.1 (λ w. (few_both (item_parameters i) (concat (map item_parameters is)) (p w)).1) k.1,
      )

-- ---- the end of a unit

pub record Ends (u : tree.Unit) (p : Program) : Type 0 where
  pub declarations : Declarations
  pub judged : in_order (item u.items) u.items (none_declared u.items) ≡ Good declarations
  pub main : ℕ
  pub is : p ≡ program u.items declarations main

pub ended : (u : tree.Unit) (p : Program) → judged_by_rules u ≡ Good p → Ends u p
unfolding judged_by_rules
ended u p h =
    let s = went_on (in_order (item u.items) u.items (none_declared u.items)) (unit_end u.items u.end) p h in
    let c : Declarations = s.0 in
    let m : Option ℕ = main_number c.scope.signatures (meaning_here c.scope (codes "main")) in
    record {
      declarations = c;
      judged = s.1;
      main = unwrap_or m 0;
      is = (of_good _ (unit_end u.items u.end c) (rules_kept u.end c.scope (node.End m) (program u.items c (unwrap_or m 0))) p s.2).0;
    }

-- ---- switches

mapped : {A B : Type 0} → (A → B) → Option A → Option B
mapped f None = None
mapped f (Some x) = Some (f x)

get_mapped : {A B : Type 0} (f : A → B) (xs : List A) (i : ℕ) → slice_get (map f xs) i ≡ mapped f (slice_get xs i)
unfolding mapped
get_mapped f [] i = refl
get_mapped f (x ∷ xs) zero = refl
get_mapped f (x ∷ xs) (suc i) = get_mapped f xs i

same_numbers : (p q : ℕ → Bool) → ((g : ℕ) → p g ≡ q g) → (n : ℕ) (ss : List Switch) → numbers_from p n ss ≡ numbers_from q n ss
same_numbers p q h n [] = refl
same_numbers p q h n (s ∷ ss) =
    ap (λ b. cond b (n ∷ numbers_from p (suc n) ss) (numbers_from p (suc n) ss)) (h s.global) ∙
    ap (λ rest. cond (q s.global) (n ∷ rest) rest) (same_numbers p q h (suc n) ss)

pub those_have : (P : Function → Type 0) (fs : List (Option Function)) → ((k : ℕ) (f : Function) → slice_get fs k ≡ Some (Some f) → P f) → AllByRecursion P (those_there fs)
those_have P [] h = tt
those_have P (None ∷ fs) h = those_have P fs (λ k f q. h (suc k) f q)
those_have P (Some f ∷ fs) h = (h zero f refl, those_have P fs (λ k f q. h (suc k) f q))

module _ (u : tree.Unit) (known : ItemsAreForeknown) where
  abbrev any : List ℕ → Type 0
  any n = Unit {0}

  abbrev Unit_sound : Declarations → Type 0
  Unit_sound = Sound u.items ⊥ any any (λ n. in_turn (map (item_objects n) u.items))

  nothing_told : (is : List Item) → AllByRecursion (λ i. AllByRecursion (TellsName u.items ⊥ any any i.body) i.names) is
  nothing_told [] = tt
  nothing_told (i ∷ is) = (names i.body i.names, nothing_told is)
    where
      told : (b : Option Line) (name : List ℕ) → Told u.items ⊥ any any b name
      told None name = tt
      told (Some l) name = tt

      names : (b : Option Line) (ds : List Declarator) → AllByRecursion (TellsName u.items ⊥ any any b) ds
      names b [] = tt
      names b (d ∷ ds) = (λ name q. told b name, names b ds)

  sound : (c : Declarations) → in_order (item u.items) u.items (none_declared u.items) ≡ Good c → Unit_sound c
  sound c q =
      of_good Unit_sound (in_order (item u.items) u.items (none_declared u.items))
      (unit_sound u.items ⊥ any any
      (items_known u.items ⊥ any any u.items (recursion_from_All _ u.items (known u.items)) (λ w. absurd w) (nothing_told u.items))) c q

  module _ (c : Declarations) (x : Unit_sound c) where
    -- a name among some means a global where it is the global's
    means_global : (g : ℕ) (n : List ℕ) → is_global g (meaning_of c.scope n) ≡ has_name_among (n ∷ []) (mapped global_of (slice_get c.globals g))
    unfolding mapped
    means_global g n = file_global c.scope x.around n g ∙ by (slice_get c.globals g) (get_mapped (λ (o : Global). o.name) c.globals g)
      where
        by : (o : Option Global) → slice_get (global_names c.globals) g ≡ mapped (λ (o : Global). o.name) o → is_global g (named n c.scope.names.here) ≡ has_name_among (n ∷ []) (mapped global_of o)
        by None q = same_bools _ false (λ h. let z : None ≡ Some n = sym q ∙ (x.meant n g h).0 in absurd (cc)) (λ h. absurd (cc))
        by (Some o) q =
            same_bools _ (same_name o.name n || false)
            (λ h. ap (λ m. same_name m n || false) (same_Some o.name n (sym q ∙ (x.meant n g h).0)) ∙ ap (λ b. b || false) (name_itself n))
            (λ h. ap (λ m. is_global g (named m c.scope.names.here)) (sym (name_is o.name n (or_none (same_name o.name n) h))) ∙ x.numbered g o.name q)
          where
            or_none : (b : Bool) → (b || false) ≡ true → b ≡ true
            or_none true h = refl
            or_none false h = h

    names_mean : (g : ℕ) (names : NameList) → names_global g c.scope names ≡ has_name_among names (mapped global_of (slice_get c.globals g))
    unfolding mapped
    names_mean g [] = none (slice_get c.globals g)
      where
        none : (o : Option Global) → false ≡ has_name_among [] (mapped global_of o)
        none None = refl
        none (Some o) = refl
    names_mean g (n ∷ names) =
        ap (λ b. b || names_global g c.scope names) (means_global g n) ∙
        (ap (λ b. has_name_among (n ∷ []) (mapped global_of (slice_get c.globals g)) || b) (names_mean g names) ∙ both (slice_get c.globals g))
      where
        both : (o : Option Global) → (has_name_among (n ∷ []) (mapped global_of o) || has_name_among names (mapped global_of o)) ≡ has_name_among (n ∷ names) (mapped global_of o)
        both None = refl
        both (Some o) = by (same_name o.name n)
          where
            by : (b : Bool) → ((b || false) || is_among o.name names) ≡ (b || is_among o.name names)
            by true = refl
            by false = refl

    texts_are : (n : List ℕ) → x.texts n ≡ objects_named n u.items
    unfolding objects_named
    texts_are n = sym (ap (λ (a : NameList × NameList). a.1) (x.is n))

    body_names : (k : ℕ) (f : Function) → slice_get c.functions k ≡ Some (Some f) → (g : ℕ) →
        StmtsName g f.body ≡ has_name_among (objects_named f.name u.items) (slice_get (map global_of c.globals) g)
    body_names k f q g =
        x.named_by k f q g ∙
        (ap (names_global g c.scope) (texts_are f.name) ∙
        (names_mean g (objects_named f.name u.items) ∙ ap (has_name_among (objects_named f.name u.items)) (sym (get_mapped global_of c.globals g))))

    abbrev Law : Program → Function → Type 0
    Law p f = f.switches ≡ (if f.attributed then switches_in_text u.items p f.name else [])

    function_law : (m k : ℕ) (f : Function) → slice_get c.functions k ≡ Some (Some f) → Law (program u.items c m) (with_switches (switches_from 0 c.globals) f)
    unfolding switches_named
    function_law m k f q = by f.attributed
      where
        by : (b : Bool) → (if b then switches_named (switches_from 0 c.globals) f.body else []) ≡ (if b then switches_in_text u.items (program u.items c m) f.name else [])
        by true = same_numbers _ _ (λ g. body_names k f q g) 0 (switches_from 0 c.globals)
        by false = refl

    program_law : (m : ℕ) → All (Law (program u.items c m)) (program u.items c m).functions
    program_law m =
        All-from_recursion (Law (program u.items c m)) (program u.items c m).functions
        (all_mapped (Law (program u.items c m)) (with_switches (switches_from 0 c.globals)) (those_there c.functions)
        (those_have (λ f. Law (program u.items c m) (with_switches (switches_from 0 c.globals) f)) c.functions (function_law m)))

  pub switches_of_text : (p : Program) → judged_by_rules u ≡ Good p → All (λ f. f.switches ≡ (if f.attributed then switches_in_text u.items p f.name else [])) p.functions
  switches_of_text p h =
      let e = ended u p h in
      let c : Declarations = e.declarations in
      subst (λ (q : Program). All (λ (f : Function). f.switches ≡ (if f.attributed then switches_in_text u.items q f.name else [])) q.functions) (sym e.is)
      (program_law c (sound c e.judged) e.main)
