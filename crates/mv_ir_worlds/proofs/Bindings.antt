-- Lists of bindings, one for each of some functions and then one for each pointer switch.
use Rattle.std.proofs.Common.{◌≡◌, ◌⊎◌, inl, inr, ℕ, zero, suc, ◌+◌, ◌<◌, Bool, true, false, List, [], ◌∷◌, ◌++◌, map, length, drop, Option, Some, None, refl, sym, ◌∙◌, ap, subst, arith, if◌then◌else◌, nat_lt}
use Rattle.std.specs.Prelude.{◌||◌, ◌&&◌, ◌↔◌, not, slice_get}
use Rattle.std.specs.List.{AllZip}
use Rattle.std.proofs.lemmas.Bool.{and_parts, and_from, or_left, or_right, false_from_ne_true}
use Rattle.mv_ast.specs.declared.program.Program.{Program}
use Rattle.mv_ast.specs.declared.program.Function.{Function}
use Rattle.mv_bindings.specs.declared.binding.Binding.{Binding}
use Rattle.mv_ast.specs.Bindings.{some_combination, is_binding, function_in, is_pointer_binding, each_passes, are_bindings_of, are_bindings}
use Rattle.mv_ast.specs.Numbering.{function_of_number}
use Rattle.mv_ast.specs.Switches.{attributed_functions, switch_domain, switch_words, switch_global, word_at, all_in_domain, bound_to_function, committed, pointed}
use Rattle.mv_bindings.specs.Bindings.{bound_to, free, is_same_binding}
use Rattle.mv_bindings.specs.OrderNumbers.{is_commit}
use Rattle.mv_ast.specs.Orders.{is_addressed, is_pointer_addressed, ordered_from, ordered_function, ordered_pointer, bindings_after}
use Rattle.std.proofs.lemmas.Option.{slice_get_within}
use Rattle.mv_ast.proofs.Common.{place_at}
use Rattle.mv_ir_worlds.specs.Fit.{IsFunctionBound, IsPointerBound, AreBindings}
use Rattle.mv_ir_worlds.specs.Laws.{CommitsAreToWords, OrdersKeepFit}
use Rattle.mv_ir_worlds.proofs.Combining.{combination_told, combination_there, combination_in, in_combination, binding_told, binding_same}

-- ---- bindings of one kind

module _ {A : Type 0} (Holds : A → List ℕ → Type 0) where
  -- what something may be bound to
  abbrev pub MayBe : A → Binding → Type 0
  MayBe x b = b.bound ≡ true → (vs : List ℕ) × (b ≡ bound_to vs) × Holds x vs

  pub free_may_be : (x : A) → MayBe x free
  free_may_be x is = absurd (cc)

  pub all_free : (xs : List A) → AllZip MayBe xs (map (λ x. free) xs)
  all_free [] = tt
  all_free (x ∷ xs) = (free_may_be x, all_free xs)

  pub either_may_be : (x : A) (z : Bool) (a b : Binding) → (z ≡ true → MayBe x a) → (z ≡ false → MayBe x b) → MayBe x (if z then a else b)
  either_may_be x true a b h k = h refl
  either_may_be x false a b h k = k refl

  pub ordered_zip : (addressed : ℕ → A → Bool) (next : A → Binding) → ((x : A) → MayBe x (next x)) → (i : ℕ) (xs : List A) (bs : List Binding) →
      AllZip MayBe xs bs → AllZip MayBe xs (ordered_from addressed next i xs bs)
  ordered_zip addressed next fit i [] [] h = tt
  ordered_zip addressed next fit i [] (b ∷ bs) h = absurd h
  ordered_zip addressed next fit i (x ∷ xs) [] h = absurd h
  ordered_zip addressed next fit i (x ∷ xs) (b ∷ bs) h =
      (either_may_be x (addressed i x) (next x) b (λ e. fit x) (λ e. h.0), ordered_zip addressed next fit (suc i) xs bs h.1)

  module _ (test : A → Binding → Bool) where
    pub test_zip : ((x : A) (b : Binding) → test x b ≡ true → MayBe x b) → (xs : List A) (bs : List Binding) → each_passes test xs bs ≡ true → AllZip MayBe xs bs
    test_zip told [] [] h = tt
    test_zip told [] (b ∷ bs) h = absurd (cc)
    test_zip told (x ∷ xs) [] h = absurd (cc)
    test_zip told (x ∷ xs) (b ∷ bs) h = let k = and_parts (test x b) (each_passes test xs bs) h in (told x b k.0, test_zip told xs bs k.1)

    pub zip_test : ((x : A) (b : Binding) → MayBe x b → test x b ≡ true) → (xs : List A) (bs : List Binding) → AllZip MayBe xs bs → each_passes test xs bs ≡ true
    zip_test told [] [] h = refl
    zip_test told [] (b ∷ bs) h = absurd h
    zip_test told (x ∷ xs) [] h = absurd h
    zip_test told (x ∷ xs) (b ∷ bs) h = and_from (test x b) (each_passes test xs bs) (told x b h.0) (zip_test told xs bs h.1)

same_binding : (b b' : Binding) → Some b ≡ Some b' → b ≡ b'
same_binding b b' e = cc

module _ (p : Program) where
  abbrev domains : Function → List (List ℕ)
  domains g = map (switch_domain p) g.switches

  abbrev Function_may_be : Function → Binding → Type 0
  Function_may_be = MayBe (IsFunctionBound p)

  abbrev Pointer_may_be : ℕ → Binding → Type 0
  Pointer_may_be = MayBe (IsPointerBound p)

  -- ---- bindings of both kinds

  abbrev BothZip : List Function → List Binding → Type 0
  BothZip [] bs = AllZip Pointer_may_be p.pointers bs
  BothZip (g ∷ gs) [] = ⊥
  BothZip (g ∷ gs) (b ∷ bs) = Function_may_be g b × BothZip gs bs

  -- the record, and the same by recursion

  abbrev FunctionAt : List Function → (n : ℕ) → List ℕ → Type 0
  FunctionAt gs n vs = (g : Function) × (slice_get gs n ≡ Some g) × IsFunctionBound p g vs

  abbrev PointerAt : (count : ℕ) → List ℕ → (n : ℕ) → List ℕ → Type 0
  PointerAt count ps n vs = (q g : ℕ) × (n ≡ count + q) × (slice_get ps q ≡ Some g) × IsPointerBound p g vs

  abbrev ReadsBound : List Function → List ℕ → List Binding → Type 0
  ReadsBound gs ps bs = (n : ℕ) (b : Binding) → slice_get bs n ≡ Some b → b.bound ≡ true →
      (vs : List ℕ) × (b ≡ bound_to vs) × (FunctionAt gs n vs ⊎ PointerAt (length gs) ps n vs)

  same_function : (g g' : Function) → Some g ≡ Some g' → g' ≡ g
  same_function g g' e = cc

  none_there : (n : ℕ) (vs : List ℕ) → FunctionAt [] n vs → ⊥
  none_there n vs k = let e = k.1 in cc

  -- without the first of each
  pointer_behind : (ps : List ℕ) (g n : ℕ) (vs : List ℕ) → PointerAt 0 (g ∷ ps) (suc n) vs → PointerAt 0 ps n vs
  pointer_behind ps g n vs (zero, h, e, there, k) = absurd (omega (arith, e))
  pointer_behind ps g n vs (suc q, h, e, there, k) = (q, h, omega (arith, e), there, k)

  first_pointer : (ps : List ℕ) (g : ℕ) (vs : List ℕ) → PointerAt 0 (g ∷ ps) 0 vs → IsPointerBound p g vs
  first_pointer ps g vs (q, h, e, there, k) = k

  pointers_zip : (ps : List ℕ) (bs : List Binding) → length bs ≡ length ps → ReadsBound [] ps bs → AllZip Pointer_may_be ps bs
  pointers_zip [] [] n h = tt
  pointers_zip [] (b ∷ bs) n h = absurd (omega (arith, n))
  pointers_zip (g ∷ ps) [] n h = absurd (omega (arith, n))
  pointers_zip (g ∷ ps) (b ∷ bs) n h = (first, pointers_zip ps bs (omega (arith, n)) later)
    where
      at_first : (vs : List ℕ) → FunctionAt [] 0 vs ⊎ PointerAt 0 (g ∷ ps) 0 vs → IsPointerBound p g vs
      at_first vs (inl k) = absurd (none_there 0 vs k)
      at_first vs (inr k) = first_pointer ps g vs k

      first : Pointer_may_be g b
      first is = let k = h 0 b refl is in (k.0, k.1, at_first k.0 k.2)

      behind : (i : ℕ) (vs : List ℕ) → FunctionAt [] (suc i) vs ⊎ PointerAt 0 (g ∷ ps) (suc i) vs → FunctionAt [] i vs ⊎ PointerAt 0 ps i vs
      behind i vs (inl k) = absurd (none_there (suc i) vs k)
      behind i vs (inr k) = inr (pointer_behind ps g i vs k)

      later : ReadsBound [] ps bs
      later i c e is = let k = h (suc i) c e is in (k.0, k.1, behind i k.0 k.2)

  both_zip : (gs : List Function) (bs : List Binding) → length bs ≡ length gs + length p.pointers → ReadsBound gs p.pointers bs → BothZip gs bs
  both_zip [] bs n h = pointers_zip p.pointers bs (omega (arith, n)) h
  both_zip (g ∷ gs) [] n h = absurd (omega (arith, n))
  both_zip (g ∷ gs) (b ∷ bs) n h = (first, both_zip gs bs (omega (arith, n)) later)
    where
      at_first : (vs : List ℕ) → FunctionAt (g ∷ gs) 0 vs ⊎ PointerAt (suc (length gs)) p.pointers 0 vs → IsFunctionBound p g vs
      at_first vs (inl k) = subst (λ (x : Function). IsFunctionBound p x vs) (same_function g k.0 k.1) k.2
      at_first vs (inr k) = let e = k.2 in absurd (omega (arith, e))

      first : Function_may_be g b
      first is = let k = h 0 b refl is in (k.0, k.1, at_first k.0 k.2)

      behind : (i : ℕ) (vs : List ℕ) → FunctionAt (g ∷ gs) (suc i) vs ⊎ PointerAt (suc (length gs)) p.pointers (suc i) vs → FunctionAt gs i vs ⊎ PointerAt (length gs) p.pointers i vs
      behind i vs (inl k) = inl k
      behind i vs (inr k) = let e = k.2 in inr (k.0, k.1, omega (arith, e), k.3, k.4)

      later : ReadsBound gs p.pointers bs
      later i c e is = let k = h (suc i) c e is in (k.0, k.1, behind i k.0 k.2)

  pointers_length : (ps : List ℕ) (bs : List Binding) → AllZip Pointer_may_be ps bs → length bs ≡ length ps
  pointers_length [] [] h = refl
  pointers_length [] (b ∷ bs) h = absurd h
  pointers_length (g ∷ ps) [] h = absurd h
  pointers_length (g ∷ ps) (b ∷ bs) h = ap suc (pointers_length ps bs h.1)

  both_length : (gs : List Function) (bs : List Binding) → BothZip gs bs → length bs ≡ length gs + length p.pointers
  both_length [] bs h = let count = pointers_length p.pointers bs h in omega (arith, count)
  both_length (g ∷ gs) [] h = absurd h
  both_length (g ∷ gs) (b ∷ bs) h = let rest = both_length gs bs h.1 in omega (arith, rest)

  pointers_read : (ps : List ℕ) (bs : List Binding) → AllZip Pointer_may_be ps bs → (n : ℕ) (b : Binding) → slice_get bs n ≡ Some b → b.bound ≡ true →
      (vs : List ℕ) × (b ≡ bound_to vs) × ((g : ℕ) × (slice_get ps n ≡ Some g) × IsPointerBound p g vs)
  pointers_read [] [] h n b e is = absurd (cc)
  pointers_read [] (a ∷ bs) h n b e is = absurd h
  pointers_read (g ∷ ps) [] h n b e is = absurd h
  pointers_read (g ∷ ps) (a ∷ bs) h zero b e is =
      let k = (subst (λ (x : Binding). Pointer_may_be g x) (same_binding a b e) h.0) is in (k.0, k.1, (g, refl, k.2))
  pointers_read (g ∷ ps) (a ∷ bs) h (suc n) b e is = pointers_read ps bs h.1 n b e is

  both_read : (gs : List Function) (bs : List Binding) → BothZip gs bs → ReadsBound gs p.pointers bs
  both_read [] bs h n b e is = let k = pointers_read p.pointers bs h n b e is in (k.0, k.1, inr (n, k.2.0, omega arith, k.2.1, k.2.2))
  both_read (g ∷ gs) [] h n b e is = absurd h
  both_read (g ∷ gs) (a ∷ bs) h zero b e is =
      let k = (subst (λ (x : Binding). Function_may_be g x) (same_binding a b e) h.0) is in (k.0, k.1, inl (g, refl, k.2))
  both_read (g ∷ gs) (a ∷ bs) h (suc n) b e is = let k = both_read gs bs h.1 n b e is in (k.0, k.1, further k.0 k.2)
    where
      further : (vs : List ℕ) → FunctionAt gs n vs ⊎ PointerAt (length gs) p.pointers n vs → FunctionAt (g ∷ gs) (suc n) vs ⊎ PointerAt (suc (length gs)) p.pointers (suc n) vs
      further vs (inl k) = inl k
      further vs (inr k) = let e = k.2 in inr (k.0, k.1, omega (arith, e), k.3, k.4)

  pub zipped : (bs : List Binding) → AreBindings p bs → BothZip (attributed_functions p) bs
  zipped bs h = both_zip (attributed_functions p) bs h.count h.bound

  pub unzipped : (bs : List Binding) → BothZip (attributed_functions p) bs → AreBindings p bs
  unzipped bs h = record { count = both_length (attributed_functions p) bs h; bound = both_read (attributed_functions p) bs h }

  -- ---- the test

  abbrev is_bound_to_some : Function → Binding → Bool
  is_bound_to_some g b = some_combination (λ vs. is_same_binding b (bound_to vs)) (domains g)

  binding_is : (g : Function) (b : Binding) → is_binding p g b ≡ true → Function_may_be g b
  binding_is g b h is =
      let k = combination_told (λ vs. is_same_binding b (bound_to vs)) (domains g) (sym (ap (λ z. not z || is_bound_to_some g b) is) ∙ h) in
      (k.0, binding_told b (bound_to k.0) k.2, k.1)

  is_binding_of : (g : Function) (b : Binding) → Function_may_be g b → is_binding p g b ≡ true
  is_binding_of g b h = by b.bound refl
    where
      by : (z : Bool) → b.bound ≡ z → is_binding p g b ≡ true
      by true e =
          let k = h e in
          or_right (not b.bound) (is_bound_to_some g b) (combination_there (λ vs. is_same_binding b (bound_to vs)) (domains g) k.0 k.2 (binding_same b (bound_to k.0) k.1))
      by false e = or_left (not b.bound) (is_bound_to_some g b) (ap not e)

  abbrev is_to_function : Binding → Bool
  is_to_function b = is_same_binding b (bound_to (suc (function_in b) ∷ [])) && nat_lt (function_in b) (length p.functions)

  pointer_binding_is : (g : ℕ) (b : Binding) → is_pointer_binding p g b ≡ true → Pointer_may_be g b
  pointer_binding_is g b h is =
      let k = and_parts (is_same_binding b (bound_to (suc (function_in b) ∷ []))) (nat_lt (function_in b) (length p.functions)) (sym (ap (λ z. not z || is_to_function b) is) ∙ h) in
      let below : function_in b < length p.functions = grind (arith, k.1) in
      (suc (function_in b) ∷ [], binding_told b (bound_to (suc (function_in b) ∷ [])) k.0, (function_in b, below, refl))

  function_is : (f : ℕ) → function_in (bound_to (suc f ∷ [])) ≡ f
  function_is f = omega arith

  is_pointer_binding_of : (g : ℕ) (b : Binding) → Pointer_may_be g b → is_pointer_binding p g b ≡ true
  is_pointer_binding_of g b h = by b.bound refl
    where
      there : (vs : List ℕ) → b ≡ bound_to vs → IsPointerBound p g vs → is_to_function b ≡ true
      there vs e k =
          let to : b ≡ bound_to (suc k.0 ∷ []) = e ∙ ap bound_to k.2 in
          let at : function_in b ≡ k.0 = ap function_in to ∙ function_is k.0 in
          let same : b ≡ bound_to (suc (function_in b) ∷ []) = to ∙ ap (λ f. bound_to (suc f ∷ [])) (sym at) in
          let below = k.1 in
          let within : nat_lt (function_in b) (length p.functions) ≡ true = grind (arith, at, below) in
          and_from (is_same_binding b (bound_to (suc (function_in b) ∷ []))) (nat_lt (function_in b) (length p.functions)) (binding_same b _ same) within

      by : (z : Bool) → b.bound ≡ z → is_pointer_binding p g b ≡ true
      by true e = let k = h e in or_right (not b.bound) (is_to_function b) (there k.0 k.1 k.2)
      by false e = or_left (not b.bound) (is_to_function b) (ap not e)

  test_both : (gs : List Function) (bs : List Binding) → are_bindings_of p gs bs ≡ true → BothZip gs bs
  test_both [] bs h = test_zip (IsPointerBound p) (is_pointer_binding p) pointer_binding_is p.pointers bs h
  test_both (g ∷ gs) [] h = absurd (cc)
  test_both (g ∷ gs) (b ∷ bs) h = let k = and_parts (is_binding p g b) (are_bindings_of p gs bs) h in (binding_is g b k.0, test_both gs bs k.1)

  both_test : (gs : List Function) (bs : List Binding) → BothZip gs bs → are_bindings_of p gs bs ≡ true
  both_test [] bs h = zip_test (IsPointerBound p) (is_pointer_binding p) is_pointer_binding_of p.pointers bs h
  both_test (g ∷ gs) [] h = absurd h
  both_test (g ∷ gs) (b ∷ bs) h = and_from (is_binding p g b) (are_bindings_of p gs bs) (is_binding_of g b h.0) (both_test gs bs h.1)

  pub bindings_told : (bs : List Binding) → (are_bindings p bs ≡ true) ↔ AreBindings p bs
  bindings_told bs = ((λ h. unzipped bs (test_both (attributed_functions p) bs h)), (λ h. both_test (attributed_functions p) bs (zipped bs h)))

  -- ---- free ones, and what an order leaves

  both_free : (gs : List Function) → BothZip gs (map (λ g. free) gs ++ map (λ g. free) p.pointers)
  both_free [] = all_free (IsPointerBound p) p.pointers
  both_free (g ∷ gs) = (free_may_be (IsFunctionBound p) g, both_free gs)

  pub first_bindings : AreBindings p (map (λ g. free) (attributed_functions p) ++ map (λ g. free) p.pointers)
  first_bindings = unzipped _ (both_free (attributed_functions p))

  committed_may_be : (globals : List (List ℕ)) (g : Function) → Function_may_be g (committed p globals g)
  committed_may_be globals g =
      let vs = switch_words p globals g.switches in
      either_may_be (IsFunctionBound p) g (all_in_domain p g.switches vs) (bound_to vs) free
      (λ within is. (vs, refl, combination_in p (λ s. word_at globals (switch_global p s) 0) g.switches within)) (λ out. free_may_be (IsFunctionBound p) g)

  ordered_may_be : (code : ℕ) (globals : List (List ℕ)) (g : Function) → Function_may_be g (ordered_function p code globals g)
  ordered_may_be code globals g =
      either_may_be (IsFunctionBound p) g (is_commit code) (committed p globals g) free (λ e. committed_may_be globals g) (λ e. free_may_be (IsFunctionBound p) g)

  module _ (numbers : List ℕ) (count : length numbers ≡ length p.functions) where
    pointed_may_be : (g : ℕ) (o : Option ℕ) → ((f : ℕ) → o ≡ Some f → f < length p.functions) → Pointer_may_be g (bound_to_function o)
    pointed_may_be g None h is = absurd (cc)
    pointed_may_be g (Some f) h is = (suc f ∷ [], refl, (f, h f refl, refl))

    number_within : (v f : ℕ) → function_of_number numbers v ≡ Some f → f < length p.functions
    number_within v f e = let k = place_at 0 numbers v f e in let is = k.1 in let below = slice_get_within numbers k.0 v k.2 in omega (arith, is, below, count)

    ordered_pointer_may_be : (code : ℕ) (globals : List (List ℕ)) (g : ℕ) → Pointer_may_be g (ordered_pointer numbers code globals g)
    ordered_pointer_may_be code globals g =
        either_may_be (IsPointerBound p) g (is_commit code) (pointed numbers globals g) free
        (λ e. pointed_may_be g (function_of_number numbers (word_at globals g 0)) (number_within (word_at globals g 0))) (λ e. free_may_be (IsPointerBound p) g)

    ordered_both : (code index i : ℕ) (globals : List (List ℕ)) (gs : List Function) (bs : List Binding) → BothZip gs bs →
        BothZip gs (ordered_from (is_addressed code index) (ordered_function p code globals) i gs bs ++
        ordered_from (is_pointer_addressed p code index) (ordered_pointer numbers code globals) 0 p.pointers (drop (length gs) bs))
    ordered_both code index i globals [] bs h =
        ordered_zip (IsPointerBound p) (is_pointer_addressed p code index) (ordered_pointer numbers code globals) (ordered_pointer_may_be code globals) 0 p.pointers bs h
    ordered_both code index i globals (g ∷ gs) [] h = absurd h
    ordered_both code index i globals (g ∷ gs) (b ∷ bs) h = (
      either_may_be (IsFunctionBound p) g (is_addressed code index i g) (ordered_function p code globals g) b (λ e. ordered_may_be code globals g) (λ e. h.0),
      ordered_both code index (suc i) globals gs bs h.1,
    )

    pub orders_kept : (code index : ℕ) (globals : List (List ℕ)) (bs : List Binding) → AreBindings p bs → AreBindings p (bindings_after p numbers code index globals bs)
    orders_kept code index globals bs h =
        unzipped (bindings_after p numbers code index globals bs) (ordered_both code index 0 globals (attributed_functions p) bs (zipped bs h))

pub orders_keep : OrdersKeepFit
orders_keep p numbers code index globals bs count h = orders_kept p numbers count code index globals bs h

-- ---- what a commit binds to

pub commits_to_words : CommitsAreToWords
commits_to_words p globals g = (
  (λ h. ap (λ z. if z then bound_to vs else free) (in_combination p value g.switches h)),
  (λ out. ap (λ z. if z then bound_to vs else free) (false_from_ne_true (all_in_domain p g.switches vs) (λ within. out (combination_in p value g.switches within)))),
)
  where
    value : ℕ → ℕ
    value s = word_at globals (switch_global p s) 0

    vs : List ℕ
    vs = switch_words p globals g.switches
