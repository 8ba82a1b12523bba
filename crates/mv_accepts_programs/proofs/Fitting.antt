-- What the names of a unit's file scope mean is what its program has.
use Rattle.std.proofs.Common.{◌≡◌, ℕ, ◌<◌, ◌⊎◌, inl, inr, refl, sym, ◌∙◌, ap, subst, Bool, true, false, ◌||◌, nat_eq, nat_lt, List, [], ◌∷◌, length, map, Option, Some, None, slice_get}
use Rattle.std.specs.Prelude.{◌+◌, All, codes, if◌then◌else◌}
use Rattle.std.specs.List.{AllByRecursion}
use Rattle.std.proofs.lemmas.Bool.{eqb-true}
use Rattle.std.proofs.lemmas.List.Elements.{recursion_from_All}
use Rattle.std.proofs.lemmas.List.{length-map}
use Rattle.std.proofs.lemmas.List.Quantifiers.{position-Some}
use Rattle.std.proofs.lemmas.Option.{same_Some}
use Rattle.mv_ast.specs.declared.program.CType.{CType}
use Rattle.mv_ast.specs.declared.program.Function.{Function}
use Rattle.mv_ast.specs.declared.program.Global.{Global}
use Rattle.mv_ast.specs.declared.program.Known.{Known}
use Rattle.mv_ast.specs.declared.program.Known.TheVariants as known
use Rattle.mv_ast.specs.declared.program.Program.{Program}
use Rattle.mv_ast.specs.Switches.{attributed_functions, switch_global, global_or_none}
use Rattle.mv_num.specs.Lists.{is_among}
use Rattle.mv_check_scope.specs.declared.meaning.Meaning.{Meaning}
use Rattle.mv_check_scope.specs.declared.meaning.Meaning.TheVariants as meaning
use Rattle.mv_check_scope.specs.declared.meaning.Routine.{Routine}
use Rattle.mv_check_scope.specs.declared.meaning.Storage.{Storage}
use Rattle.mv_check_scope.specs.declared.scope.Scope.{Scope}
use Rattle.mv_check_scope.specs.Known.{is_named, known_function}
use Rattle.mv_check_scope.specs.Scoped.{unless_declared, meaning_of}
use Rattle.mv_check_scope.specs.Spaces.{named, or_else, meaning_in}
use Rattle.mv_check_outline.specs.Names.{same_name, place_of}
use Rattle.mv_source_forms.specs.Typing.{global_types, IsFunctionOf}
use Rattle.mv_source_forms.specs.Names.{is_own_switch}
use Rattle.mv_source_forms.specs.WellFormed.{IsWellFormedSwitch, IsWellFormedPointer}
use Rattle.mv_accepts.specs.Expressions.Soundness.{IsStored, IsMeant, Fits}
use Rattle.mv_accepts.specs.Bodies.Declared.{IsIn, IsCovered, Covers}
use Rattle.mv_accepts.specs.Bodies.Formed.{IsScalar, IsArray, IsKindOfOrder, IsShaped, AreShaped}
use Rattle.mv_types.specs.declared.contents.Contents.{Contents}
use Rattle.mv_types.specs.declared.contents.Foreknown.{Foreknown}
use Rattle.mv_types.specs.declared.contents.Object.{Object}
use Rattle.mv_types.specs.Foreknown.{attributed_number, switch_number}
use Rattle.mv_types.specs.Units.{with_switches}
use Rattle.mv_accepts.specs.Names.Declared.{IsStill, Extends, IsGlobal, IsDeclared, IsDefinition, IsSound}
use Rattle.mv_accepts.proofs.OfNames.Named.{same_place}
use Rattle.mv_accepts_programs.proofs.Lists.{one_there, all_at}
use Rattle.mv_accepts_programs.proofs.Units.{IsMade}
use Rattle.mv_accepts.proofs.OfStatements.Lists.{mapped_there}

-- ---- a name at file scope

-- it is declared there, or is that of a known function
abbrev MeansAtFile : Scope → List ℕ → Meaning → Type 0
MeansAtFile s name m = (named name s.names.here ≡ Some m) ⊎ ((k : Known) × (m ≡ meaning.Known k) × (known_function name ≡ Some k))

at_file : (s : Scope) → s.names.around ≡ [] → (name : List ℕ) (m : Meaning) → meaning_of s name ≡ Some m → MeansAtFile s name m
at_file s around name m h =
    by (named name s.names.here) (known_function name)
    (ap (λ bs. unless_declared (or_else (named name s.names.here) (meaning_in bs name)) (known_function name)) (sym around) ∙ h)
  where
    by : (o : Option Meaning) (builtin : Option Known) → unless_declared (or_else o None) builtin ≡ Some m →
        (o ≡ Some m) ⊎ ((k : Known) × (m ≡ meaning.Known k) × (builtin ≡ Some k))
    by (Some x) builtin q = inl q
    by None None q = absurd (cc)
    by None (Some k) q = inr (k, sym (same_Some (meaning.Known k) m q), refl)

-- the known functions are of these kinds
kind_known : (name : List ℕ) (k : Known) → known_function name ≡ Some k → IsKindOfOrder k
kind_known name k h = by (is_named name (codes "getchar")) (is_named name (codes "putchar")) (is_named name (codes "multiverse_poll")) h
  where
    is : (x : Known) → IsKindOfOrder x → Some x ≡ Some k → IsKindOfOrder k
    is x a q = subst IsKindOfOrder (same_Some x k q) a

    order : (a b d e f g : Bool) →
        (if a then Some (known.Plan 0 0) else if b then Some (known.Plan 1 0) else if d then Some (known.Plan 2 0) else if e then Some (known.Plan 3 0)
        else if f then Some (known.Plan 4 0) else if g then Some (known.Plan 5 0) else None) ≡ Some k → IsKindOfOrder k
    order true b d e f g q = is (known.Plan 0 0) refl q
    order false true d e f g q = is (known.Plan 1 0) refl q
    order false false true e f g q = is (known.Plan 2 0) refl q
    order false false false true f g q = is (known.Plan 3 0) refl q
    order false false false false true g q = is (known.Plan 4 0) refl q
    order false false false false false true q = is (known.Plan 5 0) refl q
    order false false false false false false q = absurd (cc)

    by : (a b d : Bool) →
        (if a then Some known.Getchar else if b then Some known.Putchar else if d then Some known.Poll
        else if is_named name (codes "multiverse_commit") then Some (known.Plan 0 0)
        else if is_named name (codes "multiverse_revert") then Some (known.Plan 1 0)
        else if is_named name (codes "multiverse_commit_func") then Some (known.Plan 2 0)
        else if is_named name (codes "multiverse_revert_func") then Some (known.Plan 3 0)
        else if is_named name (codes "multiverse_commit_refs") then Some (known.Plan 4 0)
        else if is_named name (codes "multiverse_revert_refs") then Some (known.Plan 5 0)
        else None) ≡ Some k → IsKindOfOrder k
    by true b d q = is known.Getchar tt q
    by false true d q = is known.Putchar tt q
    by false false true q = is known.Poll tt q
    by false false false q =
        order (is_named name (codes "multiverse_commit")) (is_named name (codes "multiverse_revert")) (is_named name (codes "multiverse_commit_func"))
        (is_named name (codes "multiverse_revert_func")) (is_named name (codes "multiverse_commit_refs")) (is_named name (codes "multiverse_revert_refs")) q

-- ---- in a program

module _ (k : Foreknown) (c : Contents) (functions : List Function) (main : ℕ) (p : Program) (made : IsMade k c functions main p) (all : c.functions ≡ map (λ f. Some f) functions)
    (sound : IsSound k c) where
  global_there : (n : ℕ) (t : CType) (g : Global) → slice_get p.globals n ≡ Some g → g.ctype ≡ t → slice_get (global_types p) n ≡ Some t
  global_there n t g h e = mapped_there (λ (x : Global). x.ctype) p.globals n g h ∙ ap (λ u. Some u) e

  -- the number of a function that is foreknown is that of one that is defined
  pub defined_at : (name : List ℕ) (g : ℕ) → place_of name k.outline.functions ≡ Some g → (f : Function) × (slice_get functions g ≡ Some f) × IsDefinition k c g f
  defined_at name g h =
      let x = one_there functions g (within (position-Some (same_name name) k.outline.functions g [] h).0) in
      (x.0, x.1, sound.functions g x.0 (ap (λ fs. slice_get fs g) all ∙ mapped_there (λ (f : Function). Some f) functions g x.0 x.1))
    where
      counted : length functions ≡ length k.outline.functions
      counted = sym (ap length all ∙ length-map functions (λ (f : Function). Some f)) ∙ sound.count

      within : g < length k.outline.functions → g < length functions
      within l = subst (λ n. g < n) (sym counted) l

  pub function_at : (g : ℕ) (f : Function) → slice_get functions g ≡ Some f → slice_get p.functions g ≡ Some (with_switches p.switches f)
  function_at g f h = ap (λ fs. slice_get fs g) made.defined ∙ mapped_there (with_switches p.switches) functions g f h

  module _ (before : Contents) (earlier : IsSound k before) (extends : Extends before c) where
    still : (s : Storage) (t : CType) (o : IsGlobal before s t) →
        (g : Global) × (slice_get p.globals o.number ≡ Some g) × (g.ctype ≡ t) × (g.size ≡ o.object.global.size)
    still s t o =
        let x : IsStill o.object.global c.objects o.number = extends.objects o.number o.object o.there in (
          x.object.global,
          ap (λ gs. slice_get gs o.number) made.globals ∙ mapped_there (λ (y : Object). y.global) c.objects o.number x.object x.there,
          x.ctype ∙ o.ctype,
          x.size,
        )

    stored : (f : Function) (s : Storage) (t : CType) → IsGlobal before s t → IsStored p f s t
    stored f s t o =
        let x = still s t o in
        subst (λ (z : Storage). IsStored p f z t) (sym o.global) (global_there o.number t x.0 x.1 x.2)

    -- a name keeps its function
    routine_there : (name : List ℕ) (r : Routine) → named name before.scope.names.here ≡ Some (meaning.Function r) → (g : ℕ) → place_of name k.outline.functions ≡ Some g →
        IsFunctionOf p r.signature g
    routine_there name r q g h =
        let x = defined_at name g h in
        let d : IsDefinition k c g x.0 = x.2 in
        let e : x.0.name ≡ name = same_place x.0.name name k.outline.functions g d.number h in
        let later : named name c.scope.names.here ≡ Some (meaning.Function r) = extends.names name (meaning.Function r) q in
        let same : d.routine ≡ r = routine_same d.routine r (same_Some (meaning.Function d.routine) (meaning.Function r)
        (sym (subst (λ n. named n c.scope.names.here ≡ Some (meaning.Function d.routine)) e d.meaning) ∙ later)) in
        subst (λ (y : Routine). IsFunctionOf p y.signature g) same (record {
          signature = d.typed.signature;
          function = with_switches p.switches x.0;
          declared = ap (λ ss. slice_get ss d.routine.signature) made.signatures ∙ d.typed.there;
          defined = function_at g x.0 x.1;
          result = d.typed.result;
          parameters = d.typed.parameters;
        })
      where
        routine_same : (y z : Routine) → meaning.Function y ≡ meaning.Function z → y ≡ z
        routine_same y z q = cc

    meant : (f : Function) (name : List ℕ) (m : Meaning) → named name before.scope.names.here ≡ Some m → IsDeclared k before name m → IsMeant p f before.scope.signatures m
    meant f name (meaning.Object v) q d = (stored f v.storage v.ctype d.0, d.0.listed)
    meant f name (meaning.Array a) q d = (stored f a.storage a.ctype d.0, d.0.listed)
    meant f name (meaning.Function r) q d = (λ g h. routine_there name r q g (sym d.1 ∙ h), d.0)
    meant f name (meaning.Enumerator v) q d = tt
    meant f name (meaning.Tag n) q d = tt
    meant f name (meaning.Known x) q d = tt

    pub file_fits : (f : Function) → Fits p f before.scope
    file_fits f = record {
      names = λ name m h. by name m (at_file before.scope earlier.around name m h);
      signatures = λ s signature h. ap (λ ss. slice_get ss s) made.signatures ∙ extends.signatures s signature h;
      results = earlier.results;
    }
      where
        by : (name : List ℕ) (m : Meaning) → MeansAtFile before.scope name m → IsMeant p f before.scope.signatures m
        by name m (inl q) = meant f name m q (earlier.names name m q)
        by name m (inr x) = subst (λ (y : Meaning). IsMeant p f before.scope.signatures y) (sym x.1) tt

    -- no local is named at file scope
    global_in : (s : Storage) (t : CType) → IsGlobal before s t → IsIn (λ l. false) s
    global_in s t o = subst (IsIn (λ l. false)) (sym o.global) tt

    covered : (name : List ℕ) (m : Meaning) → IsDeclared k before name m → IsCovered (λ l. false) m
    covered name (meaning.Object v) d = global_in v.storage v.ctype d.0
    covered name (meaning.Array a) d = global_in a.storage a.ctype d.0
    covered name x d = tt

    pub file_covers : Covers (λ l. false) before.scope
    file_covers name m h = by (at_file before.scope earlier.around name m h)
      where
        by : MeansAtFile before.scope name m → IsCovered (λ l. false) m
        by (inl q) = covered name m (earlier.names name m q)
        by (inr x) = subst (IsCovered (λ l. false)) (sym x.1) tt

    -- ---- what names mean beside their types

    module _ (switches : (name : List ℕ) (n : ℕ) → switch_number k name ≡ Some n → nat_lt n (length p.switches + length p.pointers) ≡ true)
        (attributed : (name : List ℕ) (g n : ℕ) → place_of name k.outline.functions ≡ Some g → attributed_number k name ≡ Some n → nat_lt n (length (attributed_functions p)) ≡ true)
        (formed : All (IsWellFormedSwitch p) p.switches) (pointed : All (IsWellFormedPointer p) p.pointers) where
      -- a switch is no array
      scalar_switch : (n size : ℕ) (g : Global) → slice_get p.globals n ≡ Some g → g.size ≡ Some size → (s : ℕ) → s < length p.switches → nat_eq n (switch_global p s) ≡ true → ⊥
      scalar_switch n size g there is s l e =
          let x = one_there p.switches s l in
          let w : IsWellFormedSwitch p x.0 = all_at (IsWellFormedSwitch p) p.switches formed s x.0 x.1 in
          let same : n ≡ x.0.global = eqb-true n (switch_global p s) e ∙ ap global_or_none x.1 in
          let other : g ≡ w.global = same_Some g w.global (sym there ∙ (ap (λ i. slice_get p.globals i) same ∙ w.there)) in
          no size (sym is ∙ (ap (λ (y : Global). y.size) other ∙ w.scalar))
        where
          no : (i : ℕ) → Some i ≡ None → ⊥
          no i q = absurd (cc)

      no_array : (n size : ℕ) (g : Global) → slice_get p.globals n ≡ Some g → g.size ≡ Some size → (ss : List ℕ) → AllByRecursion (λ s. s < length p.switches) ss →
          is_among n (map (switch_global p) ss) ≡ false
      no_array n size g there is [] h = refl
      no_array n size g there is (s ∷ ss) h = by (nat_eq n (switch_global p s)) refl (no_array n size g there is ss h.1)
        where
          by : (b : Bool) → nat_eq n (switch_global p s) ≡ b → is_among n (map (switch_global p) ss) ≡ false → is_among n (map (switch_global p) (s ∷ ss)) ≡ false
          by true e rest = absurd (scalar_switch n size g there is s h.0 e)
          by false e rest = ap (λ b. b || is_among n (map (switch_global p) ss)) e ∙ rest

      -- nor is a pointer switch
      no_pointer : (n size : ℕ) (g : Global) → slice_get p.globals n ≡ Some g → g.size ≡ Some size → (gs : List ℕ) → AllByRecursion (IsWellFormedPointer p) gs →
          is_among n gs ≡ false
      no_pointer n size g there is [] h = refl
      no_pointer n size g there is (m ∷ ms) h = by (nat_eq n m) refl (no_pointer n size g there is ms h.1)
        where
          never : (i : ℕ) → Some i ≡ None → ⊥
          never i q = absurd (cc)

          clash : nat_eq n m ≡ true → ⊥
          clash e =
              let w : IsWellFormedPointer p m = h.0 in
              let other : g ≡ w.global = same_Some g w.global (sym there ∙ (ap (λ i. slice_get p.globals i) (eqb-true n m e) ∙ w.there)) in
              never size (sym is ∙ (ap (λ (y : Global). y.size) other ∙ w.scalar))

          by : (b : Bool) → nat_eq n m ≡ b → is_among n ms ≡ false → is_among n (m ∷ ms) ≡ false
          by true e rest = absurd (clash e)
          by false e rest = ap (λ b. b || is_among n ms) e ∙ rest

      module _ (own : ℕ) (f : Function) (there : slice_get p.functions own ≡ Some f) (numbers : AllByRecursion (λ s. s < length p.switches) f.switches) where
        array_shaped : (s : Storage) (t : CType) (o : IsGlobal before s t) (size : ℕ) → o.object.global.size ≡ Some size → IsArray p own f s
        array_shaped s t o size e =
            let x = still s t o in
            subst (λ (z : Storage). IsArray p own f z) (sym o.global)
            (ap (λ g. is_own_switch p g o.number) there ∙ no_array o.number size x.0 x.1 (x.3 ∙ e) f.switches numbers, no_pointer o.number size x.0 x.1 (x.3 ∙ e) p.pointers (recursion_from_All (IsWellFormedPointer p) p.pointers pointed))

        shaped : (name : List ℕ) (m : Meaning) → IsDeclared k before name m → IsShaped p own f m
        shaped name (meaning.Object v) d =
            (subst (λ (z : Storage). IsScalar f z) (sym d.0.global) tt, λ n q. switches name n (sym d.2 ∙ q))
        shaped name (meaning.Array a) d = array_shaped a.storage a.ctype d.0 d.1 d.2
        shaped name (meaning.Function r) d = λ g n q s. attributed name g n (sym d.1 ∙ q) (sym d.2 ∙ s)
        shaped name (meaning.Enumerator v) d = tt
        shaped name (meaning.Tag n) d = absurd d
        shaped name (meaning.Known x) d = absurd d

        pub file_shaped : AreShaped p own f before.scope
        file_shaped name m h = by (at_file before.scope earlier.around name m h)
          where
            by : MeansAtFile before.scope name m → IsShaped p own f m
            by (inl q) = shaped name m (earlier.names name m q)
            by (inr x) = subst (λ (y : Meaning). IsShaped p own f y) (sym x.1) (kind_known name x.0 x.2)
