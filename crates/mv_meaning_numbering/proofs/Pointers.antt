-- Pointer switches: what they are bound to has their type, and is the same under two numberings.
use Rattle.std.proofs.Common.{◌≡◌, ℕ, zero, suc, ◌-◌, ◌<◌, Bool, true, false, List, [], ◌∷◌, ◌++◌, map, drop, length, inl, inr, refl, sym, ◌∙◌, ap, ap₂, subst, arith, Option, Some, None, if◌then◌else◌, nat_eq, slice_get}
use Rattle.std.specs.Prelude.{All, IsTrue, ◌&&◌, ◌||◌, not, slice_index}
use Rattle.std.proofs.lemmas.Bool.{and_parts, eqb-true}
use Rattle.std.proofs.lemmas.Option.{slice_get_within}
use Rattle.mv_num.specs.Kinds.{kind_number}
use Rattle.mv_num.proofs.KindNumbers.{one_kind}
use Rattle.mv_num.proofs.Lists.{all_tail, all_head}
use Rattle.mv_ast.specs.declared.program.CType.{CType}
use Rattle.mv_ast.specs.declared.program.CType.TheVariants.{Void, Scalar, Pointer}
use Rattle.mv_ast.specs.declared.program.Program.{Program}
use Rattle.mv_ast.specs.declared.program.Global.{Global}
use Rattle.mv_ast.specs.declared.program.Signature.{Signature}
use Rattle.mv_ast.specs.declared.program.Function.{Function}
use Rattle.mv_bindings.specs.declared.binding.Binding.{Binding}
use Rattle.mv_ast.specs.Actions.{act_fits}
use Rattle.mv_ast.specs.Bindings.{function_in, each_passes, are_bindings, is_same_type, are_same_types, has_signature, is_of_type, is_of_global, is_typed_binding, are_typed_bindings}
use Rattle.mv_ast.specs.Numbering.{place_from, function_of_number}
use Rattle.mv_ast.specs.Switches.{attributed_functions, word_at, bound_to_function, pointed, pointer_number, bound_function, pointer_bindings, all_free}
use Rattle.mv_bindings.specs.Bindings.{free}
use Rattle.mv_ast.specs.Orders.{is_addressed, is_pointer_addressed, ordered_from, ordered_function, ordered_pointer, bindings_after}
use Rattle.mv_bindings.specs.OrderNumbers.{is_commit}
use Rattle.mv_bindings.specs.Acts.{Adopt}
use Rattle.mv_source_forms.specs.Typing.{IsFunctionOf, IsPointerSwitch, global_types, parameter_types}
use Rattle.mv_meaning_numbering.proofs.Numbers.{Distinguishes, number_found}
use Rattle.mv_meaning_numbering.proofs.Alike.{Setting, Same, SameObjects, word_alike}
use Rattle.mv_ast.proofs.Common.{place_at, ordered_behind, get_drop}

-- some pointer switches, where they are bound, are bound to functions of their types
abbrev AtPlaces : Program → List ℕ → List Binding → Type 0
AtPlaces p ps bs =
    (g q s f : ℕ) → slice_get ps q ≡ Some g → slice_get (global_types p) g ≡ Some (Pointer s) → bound_function (slice_get bs q) ≡ Some f → IsFunctionOf p s f

-- all of them
abbrev pub PointersTyped : Program → List Binding → Type 0
PointersTyped p bs = AtPlaces p p.pointers (pointer_bindings p bs)

module _ (p : Program) where
  abbrev functions : ℕ
  functions = length (attributed_functions p)

  -- the function to which a pointer switch is bound, by its number among the bindings, has its type
  pub called_typed : (bs : List Binding) → PointersTyped p bs → (g n s f : ℕ) → pointer_number p g ≡ Some n → slice_get (global_types p) g ≡ Some (Pointer s) →
      bound_function (slice_get bs n) ≡ Some f → IsFunctionOf p s f
  called_typed bs h g n s f e t b =
      let k = place_at functions p.pointers g n e in
      h g k.0 s f k.2 t (ap bound_function (get_drop functions k.0 bs ∙ ap (slice_get bs) (sym k.1)) ∙ b)

  -- ---- at the start

  free_places : (ps qs : List ℕ) → AtPlaces p ps (map (λ g. free) qs)
  free_places ps qs g q s f e t b = absurd (none qs q b)
    where
      none : (qs : List ℕ) (q : ℕ) → bound_function (slice_get (map (λ g. free) qs) q) ≡ Some f → ⊥
      none [] q b = cc
      none (h ∷ qs) zero b = cc
      none (h ∷ qs) (suc q) b = none qs q b

  free_behind : (fs : List Function) (bs : List Binding) → drop (length fs) (map (λ f. free) fs ++ bs) ≡ bs
  free_behind [] bs = refl
  free_behind (f ∷ fs) bs = free_behind fs bs

  pub free_typed : PointersTyped p (all_free p)
  free_typed = subst (AtPlaces p p.pointers) (sym (free_behind (attributed_functions p) (map (λ g. free) p.pointers))) (free_places p.pointers p.pointers)

  -- ---- what fits

  type_is : (s t : CType) → is_same_type s t ≡ true → s ≡ t
  type_is Void Void h = refl
  type_is (Scalar k) (Scalar l) h = ap Scalar (one_kind k l (eqb-true (kind_number k) (kind_number l) h))
  type_is (Pointer s) (Pointer t) h = ap Pointer (eqb-true s t h)
  type_is s t h = absurd (cc)

  types_are : (ss ts : List CType) → are_same_types ss ts ≡ true → ss ≡ ts
  types_are [] [] h = refl
  types_are [] (t ∷ ts) h = absurd (cc)
  types_are (s ∷ ss) [] h = absurd (cc)
  types_are (s ∷ ss) (t ∷ ts) h = let k = and_parts (is_same_type s t) (are_same_types ss ts) h in ap₂ (λ a l. a ∷ l) (type_is s t k.0) (types_are ss ts k.1)

  signature_is : (s f : ℕ) (o : Option Signature) (q : Option Function) → slice_get p.signatures s ≡ o → slice_get p.functions f ≡ q → has_signature o q ≡ true → IsFunctionOf p s f
  signature_is s f None q e d h = absurd (cc)
  signature_is s f (Some signature) None e d h = absurd (cc)
  signature_is s f (Some signature) (Some function) e d h =
      let k = and_parts (is_same_type signature.result function.result) (are_same_types signature.params (parameter_types function)) h in
      record {
        signature = signature;
        function = function;
        declared = e;
        defined = d;
        result = type_is signature.result function.result k.0;
        parameters = types_are signature.params (parameter_types function) k.1;
      }

  pub global_is : (gs : List Global) (g : ℕ) (t : CType) → slice_get (map (λ (x : Global). x.ctype) gs) g ≡ Some t → (x : Global) × (slice_get gs g ≡ Some x) × (x.ctype ≡ t)
  global_is [] g t e = absurd (cc)
  global_is (x ∷ gs) zero t e = (x, refl, cc)
  global_is (x ∷ gs) (suc g) t e = global_is gs g t e

  passed : (b : Bool) (c : Bool) → (not b || c) ≡ true → b ≡ true → c ≡ true
  passed true c h e = h
  passed false c h e = absurd (cc)

  typed_is : (g s f : ℕ) (b : Binding) → is_typed_binding p g b ≡ true → slice_get (global_types p) g ≡ Some (Pointer s) → bound_function (Some b) ≡ Some f → IsFunctionOf p s f
  typed_is g s f b h t e = by b.bound refl e
    where
      by : (z : Bool) → b.bound ≡ z → (if z then Some (slice_index b.values 0 - 1) else None) ≡ Some f → IsFunctionOf p s f
      by false is k = absurd (cc)
      by true is k =
          let to : function_in b ≡ f = cc in
          let it = global_is p.globals g (Pointer s) t in
          let of : is_of_global p (function_in b) (slice_get p.globals g) ≡ true = passed b.bound (is_of_global p (function_in b) (slice_get p.globals g)) h is in
          let named : is_of_type p (function_in b) it.0.ctype ≡ true = sym (ap (is_of_global p (function_in b)) it.1) ∙ of in
          let has : has_signature (slice_get p.signatures s) (slice_get p.functions (function_in b)) ≡ true = sym (ap (is_of_type p (function_in b)) it.2) ∙ named in
          subst (IsFunctionOf p s) to (signature_is s (function_in b) (slice_get p.signatures s) (slice_get p.functions (function_in b)) refl refl has)

  each_typed : (ps : List ℕ) (bs : List Binding) → each_passes (is_typed_binding p) ps bs ≡ true → AtPlaces p ps bs
  each_typed [] bs h g q s f e t b = absurd (cc)
  each_typed (x ∷ ps) [] h g q s f e t b = absurd (cc)
  each_typed (x ∷ ps) (a ∷ bs) h g zero s f e t b =
      let k = and_parts (is_typed_binding p x a) (each_passes (is_typed_binding p) ps bs) h in
      let same : x ≡ g = cc in
      typed_is g s f a (subst (λ i. is_typed_binding p i a ≡ true) same k.0) t b
  each_typed (x ∷ ps) (a ∷ bs) h g (suc q) s f e t b =
      let k = and_parts (is_typed_binding p x a) (each_passes (is_typed_binding p) ps bs) h in each_typed ps bs k.1 g q s f e t b

  -- bindings that a hart may adopt
  pub adopted_typed : (hart : ℕ) (bs : List Binding) → IsTrue (act_fits p hart (Adopt bs)) → PointersTyped p bs
  adopted_typed hart bs h =
      let others = and_parts (not (nat_eq hart 0)) (are_bindings p bs && are_typed_bindings p bs) h in
      let both = and_parts (are_bindings p bs) (are_typed_bindings p bs) others.1 in
      each_typed p.pointers (pointer_bindings p bs) both.1

-- ---- what a commit binds to, under two numberings

module _ (x : Setting) (gs hs : List (List ℕ)) (same : SameObjects x (global_types x.program) gs hs) where
  abbrev p : Program
  p = x.program

  -- one function, or none, has the numbers that are alike, and it has the type
  pub record Found (s : ℕ) (o q : Option ℕ) : Type 0 where
    pub one : o ≡ q
    pub typed : (f : ℕ) → o ≡ Some f → IsFunctionOf p s f

  null_found : (ns : List ℕ) → Distinguishes p ns → (v : ℕ) → v ≡ 0 → function_of_number ns v ≡ None
  null_found ns d v e = none 0 ns (λ k o lt. d.above k o lt)
    where
      none : (i : ℕ) (ns : List ℕ) → All (λ n. 0 < n) ns → place_from i ns v ≡ None
      none i [] h = refl
      none i (n ∷ ns) h =
          let above : 0 < n = all_head (λ n. 0 < n) n ns h in
          let test : nat_eq n v ≡ false = grind (arith, above, e) in
          ap (λ b. if b then Some i else place_from (suc i) ns v) test ∙ none (suc i) ns (all_tail (λ n. 0 < n) n ns h)

  found : (s v u : ℕ) → Same x (Pointer s) v u → Found s (function_of_number x.ns v) (function_of_number x.ms u)
  found s v u (inl h) =
      let left = null_found x.ns x.left v h.0 in
      let right = null_found x.ms x.right u h.1 in
      record { one = left ∙ sym right; typed = λ f e. absurd (cc) }
  found s v u (inr h) =
      let within = slice_get_within p.functions h.0 h.1.function h.1.defined in
      let left : function_of_number x.ns v ≡ Some h.0 = ap (function_of_number x.ns) h.2 ∙ number_found p x.ns x.left h.0 within in
      let right : function_of_number x.ms u ≡ Some h.0 = ap (function_of_number x.ms) h.3 ∙ number_found p x.ms x.right h.0 within in
      record { one = left ∙ sym right; typed = λ f e. let at : h.0 ≡ f = cc in subst (IsFunctionOf p s) at h.1 }

  found_at : (g s : ℕ) → slice_get (global_types p) g ≡ Some (Pointer s) → Found s (function_of_number x.ns (word_at gs g 0)) (function_of_number x.ms (word_at hs g 0))
  found_at g s t = found s (word_at gs g 0) (word_at hs g 0) (word_alike x (global_types p) gs hs g (Pointer s) same t 0)

  pub pointed_same : (g : ℕ) → IsPointerSwitch p g → pointed x.ns gs g ≡ pointed x.ms hs g
  pointed_same g h = let k = found_at g h.signature h.global in ap bound_to_function k.one

  pub ordered_pointers_same : (code index i : ℕ) (ps : List ℕ) (bs : List Binding) → All (IsPointerSwitch p) ps →
      ordered_from (is_pointer_addressed p code index) (ordered_pointer x.ns code gs) i ps bs ≡ ordered_from (is_pointer_addressed p code index) (ordered_pointer x.ms code hs) i ps bs
  ordered_pointers_same code index i [] bs h = refl
  ordered_pointers_same code index i (g ∷ ps) [] h = refl
  ordered_pointers_same code index i (g ∷ ps) (b ∷ bs) h =
      let one = pointed_same g (all_head (IsPointerSwitch p) g ps h) in
      ap₂ (λ c l. (if is_pointer_addressed p code index i g then (if is_commit code then c else free) else b) ∷ l) one
      (ordered_pointers_same code index (suc i) ps bs (all_tail (IsPointerSwitch p) g ps h))

  -- ---- and it has the type of the pointer switch

  to_function : (o : Option ℕ) (f : ℕ) → bound_function (Some (bound_to_function o)) ≡ Some f → o ≡ Some f
  to_function None f e = absurd (cc)
  to_function (Some g) f e = let minus : suc g - 1 ≡ g = omega arith in let k : Some (suc g - 1) ≡ Some f = e in sym (ap Some minus) ∙ k

  pointed_typed : (g s f : ℕ) → slice_get (global_types p) g ≡ Some (Pointer s) → bound_function (Some (pointed x.ns gs g)) ≡ Some f → IsFunctionOf p s f
  pointed_typed g s f t e = let k = found_at g s t in k.typed f (to_function (function_of_number x.ns (word_at gs g 0)) f e)

  -- a binding that an order leaves to a pointer switch is the old one, or what the order binds it to
  left_typed : (g s f : ℕ) (z c : Bool) (b : Binding) → slice_get (global_types p) g ≡ Some (Pointer s) → (bound_function (Some b) ≡ Some f → IsFunctionOf p s f) →
      bound_function (Some (if z then (if c then pointed x.ns gs g else free) else b)) ≡ Some f → IsFunctionOf p s f
  left_typed g s f true true b t old e = pointed_typed g s f t e
  left_typed g s f true false b t old e = absurd (cc)
  left_typed g s f false c b t old e = old e

  places_typed : (code index i : ℕ) (ps : List ℕ) (bs : List Binding) → AtPlaces p ps bs →
      AtPlaces p ps (ordered_from (is_pointer_addressed p code index) (ordered_pointer x.ns code gs) i ps bs)
  places_typed code index i [] bs h g q s f e t b = absurd (cc)
  places_typed code index i (y ∷ ps) [] h g q s f e t b = absurd (cc)
  places_typed code index i (y ∷ ps) (a ∷ bs) h g zero s f e t b =
      let one : y ≡ g = cc in
      left_typed g s f (is_pointer_addressed p code index i y) (is_commit code) a t (h g zero s f e t)
      (subst (λ k. bound_function (Some (if is_pointer_addressed p code index i y then (if is_commit code then pointed x.ns gs k else free) else a)) ≡ Some f) one b)
  places_typed code index i (y ∷ ps) (a ∷ bs) h g (suc q) s f e t b =
      places_typed code index (suc i) ps bs (λ g' q' s' f' e' t' b'. h g' (suc q') s' f' e' t' b') g q s f e t b

  -- an order leaves pointer switches bound to functions of their types
  pub orders_typed : (code index : ℕ) (bs : List Binding) → PointersTyped p bs → PointersTyped p (bindings_after p x.ns code index gs bs)
  orders_typed code index bs h =
      subst (AtPlaces p p.pointers)
      (sym (ordered_behind (is_addressed code index) (ordered_function p code gs) (is_pointer_addressed p code index) (ordered_pointer x.ns code gs) 0 (attributed_functions p) p.pointers bs))
      (places_typed code index 0 p.pointers (pointer_bindings p bs) h)
