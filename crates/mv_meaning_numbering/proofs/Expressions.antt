-- Well-typed expressions are alike under two numberings.
use Rattle.std.proofs.Common.{◌≡◌, ℕ, Bool, true, false, not, List, [], ◌∷◌, map, refl, sym, ◌∙◌, ap, subst, inl, inr, ◌⊎◌, Option, Some, if◌then◌else◌, nat_eq}
use Rattle.std.specs.Prelude.{All, slice_index}
use Rattle.mv_num.specs.Words.{add, sub, as_word}
use Rattle.mv_ast.specs.declared.program.CType.{CType}
use Rattle.mv_ast.specs.declared.program.CType.TheVariants.{Void, Scalar, Pointer}
use Rattle.mv_ast.specs.declared.program.Function.{Function}
use Rattle.mv_ast.specs.declared.program.Known.{Known}
use Rattle.mv_ast.specs.declared.program.Expr.{Expr, Expr-F, ind-Expr, map-Expr, roll-Expr, out-roll-Expr, fold-roll-Expr}
use Rattle.mv_ast.specs.declared.program.Form.{Form, Form-F, map-Form, roll-Form, out-Form, out-roll-Form, fold-roll-Form}
use Rattle.mv_ast.specs.declared.program.Form.TheOpen as form
use Rattle.mv_ast.specs.declared.program.Target.{Target, Target-F, map-Target, roll-Target, out-Target, out-roll-Target, fold-roll-Target}
use Rattle.mv_ast.specs.Worlds.{Came, and_then, bind, give, counted}
use Rattle.mv_meaning.specs.declared.state.Lvalue.{Lvalue}
use Rattle.mv_meaning.specs.declared.state.Lvalue.TheVariants as lvalue
use Rattle.mv_ast.specs.Operators.{converted, unary_value, binary_value, bit_value}
use Rattle.mv_meaning.specs.Meaning.{Evaluation, Context, Denotation, FormValue, read_as, read_lvalue, store_lvalue, global_element, local_element, value_or_trap, known_value, values_of, target_lvalue, form_value, expr_denotation, form_of, lvalue_of, denotation_of, value_of, callee_of}
use Rattle.mv_meaning.proofs.Equations.{ctype_of_lem}
use Rattle.mv_source_forms.specs.Typing.{IsInteger, IsConstantOf, IsNull, IsFunctionOf, TakesOne, TakesTwo, ConvertsTo, HasType, LvalueHasType, local_types, parameter_types, types_of}
use Rattle.mv_meaning_numbering.proofs.Alike.{Setting, Same, SameValues, same_integer, integer_same, same_test, pointers_compare}
use Rattle.mv_meaning_numbering.proofs.Outcomes.{Alike, AlikeOutcome, alike_give, alike_counted, alike_unless, alike_weaken, alike_bind}
use Rattle.mv_meaning_numbering.proofs.Leaves.{SameLvalue, alike_read, alike_read_as, alike_store, alike_global, alike_local, alike_trap, alike_known}
use Rattle.mv_meaning_numbering.proofs.Calls.{SameContext, alike_call, alike_through}
use Rattle.mv_source_forms.proofs.TypedParts.{TypedForm, TypedTarget, TypedExpr, AllTyped, FormParts, TargetParts, form_parts, target_parts, expr_form, expr_node}
use Rattle.mv_num.proofs.Lists.{all_tail, all_head}

-- ---- operators

not_alike : (v u : ℕ) → nat_eq v 0 ≡ nat_eq u 0 → unary_value 11 v ≡ unary_value 11 u
unfolding unary_value
not_alike v u h = ap as_word h

equal_value : (t : CType) (a b : ℕ) → binary_value 29 t a b ≡ Some (as_word (nat_eq a b))
unfolding binary_value bit_value
equal_value t a b = refl

unequal_value : (t : CType) (a b : ℕ) → binary_value 30 t a b ≡ Some (as_word (not (nat_eq a b)))
unfolding binary_value bit_value
unequal_value t a b = refl

-- what `++` or `--` stores
abbrev pub next_of : Bool → CType → ℕ → ℕ
next_of up t old = converted t (if up then add old 1 else sub old 1)

module _ (x : Setting) where
  unary_alike : (op : ℕ) (t : CType) (v u : ℕ) → TakesOne op t → Same x t v u → unary_value op v ≡ unary_value op u
  unary_alike op t v u (inl h) k = ap (unary_value op) (same_integer x t v u h k)
  unary_alike op t v u (inr h) k =
      subst (λ n. unary_value n v ≡ unary_value n u) (sym h) (not_alike v u (same_test x t v u k))

  compared : (op : ℕ) (t : CType) (v u y z : ℕ) → (op ≡ 29) ⊎ (op ≡ 30) → nat_eq v y ≡ nat_eq u z → binary_value op t v y ≡ binary_value op t u z
  compared op t v u y z (inl e) h =
      subst (λ n. binary_value n t v y ≡ binary_value n t u z) (sym e)
      (equal_value t v y ∙ (ap (λ b. Some (as_word b)) h ∙ sym (equal_value t u z)))
  compared op t v u y z (inr e) h =
      subst (λ n. binary_value n t v y ≡ binary_value n t u z) (sym e)
      (unequal_value t v y ∙ (ap (λ b. Some (as_word (not b))) h ∙ sym (unequal_value t u z)))

  binary_alike : (op : ℕ) (s t : CType) (v u y z : ℕ) → TakesTwo op s t → Same x s v u → Same x t y z → binary_value op s v y ≡ binary_value op s u z
  binary_alike op s t v u y z (inl h) k q =
      ap (λ a. binary_value op s a y) (same_integer x s v u h.0 k) ∙ ap (binary_value op s u) (same_integer x t y z h.1 q)
  binary_alike op s t v u y z (inr h) k q =
      compared op s v u y z h.0
      (pointers_compare x h.1 v u y z (subst (λ a. Same x a v u) h.2 k) (subst (λ a. Same x a y z) h.3 q))

  constant_alike : (t : CType) (n : ℕ) → IsConstantOf t n → Same x t n n
  constant_alike Void n h = refl
  constant_alike (Scalar kind) n h = refl
  constant_alike (Pointer s) n h = inl (h, h)

  values_plain : (ts : List CType) (vs us : List ℕ) → All IsInteger ts → SameValues x ts vs us → vs ≡ us
  values_plain [] [] [] h k = refl
  values_plain (t ∷ ts) (v ∷ vs) (u ∷ us) h k =
      let one = same_integer x t v u (all_head IsInteger t ts h) k.0 in
      let others = values_plain ts vs us (all_tail IsInteger t ts h) k.1 in cc
  values_plain [] [] (u ∷ us) h k = absurd k
  values_plain [] (v ∷ vs) us h k = absurd k
  values_plain (t ∷ ts) [] us h k = absurd k
  values_plain (t ∷ ts) (v ∷ vs) [] h k = absurd k

-- ---- by induction over the forms

module _ (x : Setting) (c d : Context) (same : SameContext x c d) (fn : Function) where
  abbrev ts : List CType
  ts = local_types fn

  abbrev FormAlike : Form → Type 0
  FormAlike f =
      (called : Bool) (t : CType) → HasType x.program fn t (out-Form f) → TypedForm x.program fn f →
      Alike x ts (Same x t) (form_of x.program c f called t) (form_of x.program d f called t)

  abbrev TargetAlike : Target → Type 0
  TargetAlike l =
      (t : CType) → LvalueHasType x.program fn t (out-Target l) → TypedTarget x.program fn l →
      Alike x ts (SameLvalue x ts t) (lvalue_of x.program c l) (lvalue_of x.program d l)

  abbrev ExprAlike : Expr → Type 0
  ExprAlike e =
      TypedExpr x.program fn e →
      Alike x ts (Same x e.ctype) (value_of x.program c e) (value_of x.program d e) × Alike x ts (Same x e.ctype) (callee_of x.program c e) (callee_of x.program d e)

  abbrev F : Type 0
  F = (f : Form) × FormAlike f

  abbrev T : Type 0
  T = (t : Target) × TargetAlike t

  abbrev E : Type 0
  E = (e : Expr) × ExprAlike e

  abbrev form_plain : Form-F F T E → Form-F Form Target Expr
  form_plain y = map-Form F T E Form Target Expr (λ a. a.0) (λ a. a.0) (λ a. a.0) y

  abbrev target_plain : Target-F F T E → Target-F Form Target Expr
  target_plain y = map-Target F T E Form Target Expr (λ a. a.0) (λ a. a.0) (λ a. a.0) y

  abbrev form_there : Context → Form-F F T E → FormValue
  form_there a y =
      form_value x.program a
      (map-Form Form Target Expr FormValue (Evaluation Lvalue) Denotation (form_of x.program a) (lvalue_of x.program a) (denotation_of x.program a) (form_plain y))

  -- one type for another
  retyped : (s t : CType) (e e' : Evaluation ℕ) → s ≡ t → Alike x ts (Same x s) e e' → Alike x ts (Same x t) e e'
  retyped s t e e' q h = subst (λ a. Alike x ts (Same x a) e e') q h

  give_integer : (t : CType) (v u : ℕ) → IsInteger t → v ≡ u → Alike x ts (Same x t) (give v) (give u)
  give_integer t v u h e = alike_give x ts (Same x t) v u (integer_same x t v u h e)

  as_integer : (t : CType) (e e' : Evaluation ℕ) → IsInteger t → Alike x ts (λ (a b : ℕ). a ≡ b) e e' → Alike x ts (Same x t) e e'
  as_integer t e e' h k = alike_weaken x ts (λ (a b : ℕ). a ≡ b) (Same x t) (λ a b q. integer_same x t a b h q) e e' k

  values_alike : (es : List E) → AllTyped x.program fn (map (λ (a : E). a.0) es) →
      Alike x ts (SameValues x (types_of (map (λ (a : E). a.0) es)))
      (values_of (map (denotation_of x.program c) (map (λ (a : E). a.0) es))) (values_of (map (denotation_of x.program d) (map (λ (a : E). a.0) es)))
  values_alike [] h = alike_give x ts (SameValues x []) [] [] tt
  values_alike (e ∷ es) h =
      let types = types_of (map (λ (a : E). a.0) es) in
      alike_bind x ts (Same x e.0.ctype) (SameValues x (e.0.ctype ∷ types)) _ _ _ _ (e.1 h.0).0 (λ v u k.
      alike_bind x ts (SameValues x types) (SameValues x (e.0.ctype ∷ types)) _ _ _ _ (values_alike es h.1) (λ vs us q.
      alike_give x ts (SameValues x (e.0.ctype ∷ types)) (v ∷ vs) (u ∷ us) (k, q)))

  read_alike : (t : CType) (a b : Lvalue) → SameLvalue x ts t a b → Alike x ts (Same x t) (read_lvalue x.program a) (read_lvalue x.program b)
  read_alike t a b h = subst (λ l. Alike x ts (Same x t) (read_lvalue x.program a) (read_lvalue x.program l)) h.same (alike_read x ts t a h.typed)

  -- as what is called, or as a value
  read_as_alike : (called : Bool) (t : CType) (a b : Lvalue) → SameLvalue x ts t a b →
      Alike x ts (Same x t) (read_as x.program c.numbers called a) (read_as x.program d.numbers called b)
  read_as_alike called t a b h =
      subst (λ l. Alike x ts (Same x t) (read_as x.program c.numbers called a) (read_as x.program d.numbers called l)) h.same
      (subst (λ ns. Alike x ts (Same x t) (read_as x.program ns called a) (read_as x.program d.numbers called a)) (sym same.left)
      (subst (λ ms. Alike x ts (Same x t) (read_as x.program x.ns called a) (read_as x.program ms called a)) (sym same.right) (alike_read_as x ts called t a h.typed)))

  known_alike : (n : Known) (vs : List ℕ) → Alike x ts (λ (a b : ℕ). a ≡ b) (known_value x.program c.numbers n vs) (known_value x.program d.numbers n vs)
  known_alike n vs =
      subst (λ ns. Alike x ts (λ (a b : ℕ). a ≡ b) (known_value x.program ns n vs) (known_value x.program d.numbers n vs)) (sym same.left)
      (subst (λ ms. Alike x ts (λ (a b : ℕ). a ≡ b) (known_value x.program x.ns n vs) (known_value x.program ms n vs)) (sym same.right) (alike_known x ts n vs))

  stores_alike : (t : CType) (a b : Lvalue) (v u : ℕ) → SameLvalue x ts t a b → Same x t v u → Alike x ts (Same x t) (store_lvalue a v) (store_lvalue b u)
  stores_alike t a b v u h k = subst (λ l. Alike x ts (Same x t) (store_lvalue a v) (store_lvalue l u)) h.same (alike_store x ts t a v u h.typed k)

  traps_alike : (o q : Option ℕ) → o ≡ q → Alike x ts (λ (a b : ℕ). a ≡ b) (value_or_trap o) (value_or_trap q)
  traps_alike o q e = subst (λ z. Alike x ts (λ (a b : ℕ). a ≡ b) (value_or_trap o) (value_or_trap z)) e (alike_trap x ts o)

  -- a compound assignment from its lvalue and value on, and a `++` or `--` from its lvalue on
  abbrev changed : ℕ → CType → CType → ℕ → Lvalue → ℕ → Evaluation ℕ
  changed op kind t v s old = bind (value_or_trap (binary_value op kind old v)) (λ new. store_lvalue s (converted t new))

  change_alike : (op : ℕ) (kind t : CType) (a b : Lvalue) (v u : ℕ) → SameLvalue x ts t a b → IsInteger t → v ≡ u →
      Alike x ts (Same x t) (bind (read_lvalue x.program a) (changed op kind t v a)) (bind (read_lvalue x.program b) (changed op kind t u b))
  change_alike op kind t a b v u h i e =
      alike_bind x ts (Same x t) (Same x t) (read_lvalue x.program a) (read_lvalue x.program b) (changed op kind t v a) (changed op kind t u b)
      (read_alike t a b h) (λ old old' o.
      alike_bind x ts (λ (m n : ℕ). m ≡ n) (Same x t)
      (value_or_trap (binary_value op kind old v)) (value_or_trap (binary_value op kind old' u))
      (λ new. store_lvalue a (converted t new)) (λ new. store_lvalue b (converted t new))
      (traps_alike _ _ (ap (λ n. binary_value op kind n v) (same_integer x t old old' i o) ∙ ap (binary_value op kind old') e))
      (λ m n q. stores_alike t a b (converted t m) (converted t n) h (integer_same x t _ _ i (ap (converted t) q))))

  abbrev stepped : Bool → CType → Lvalue → ℕ → Evaluation ℕ
  stepped up t s old = bind (store_lvalue s (next_of up t old)) (λ new. give old)

  after_alike : (up : Bool) (t : CType) (a b : Lvalue) → SameLvalue x ts t a b → IsInteger t →
      Alike x ts (Same x t) (bind (read_lvalue x.program a) (stepped up t a)) (bind (read_lvalue x.program b) (stepped up t b))
  after_alike up t a b h i =
      alike_bind x ts (Same x t) (Same x t) (read_lvalue x.program a) (read_lvalue x.program b) (stepped up t a) (stepped up t b)
      (read_alike t a b h) (λ old old' o.
      alike_bind x ts (Same x t) (Same x t) (store_lvalue a (next_of up t old)) (store_lvalue b (next_of up t old')) (λ new. give old) (λ new. give old')
      (stores_alike t a b (next_of up t old) (next_of up t old') h (integer_same x t _ _ i (ap (next_of up t) (same_integer x t old old' i o))))
      (λ m n q. alike_give x ts (Same x t) old old' o))

  -- a null pointer constant as a function pointer
  null_alike : (s : ℕ) (a : Expr) → IsNull x.program a →
      Alike x ts (Same x (Pointer s)) (bind (value_of x.program c a) (λ n. give (converted (Pointer s) n))) (bind (value_of x.program d a) (λ n. give (converted (Pointer s) n)))
  null_alike s a h f g w v hf hw =
      let next : ℕ → Evaluation ℕ = λ n. give (converted (Pointer s) n) in
      subst (λ o. AlikeOutcome x ts ℕ (Same x (Pointer s)) (and_then o next) (and_then (value_of x.program d a g v) next)) (sym (h.1.value c f w))
      (subst (λ o. AlikeOutcome x ts ℕ (Same x (Pointer s)) (and_then (Came 0 f w h.1.work) next) (and_then o next)) (sym (h.1.value d g v))
      (record { value = inl (refl, refl); frame = hf; world = hw; work = refl }))

  convert_alike : (t : CType) (a : E) → ConvertsTo x.program t a.0 → TypedExpr x.program fn a.0 →
      Alike x ts (Same x t) (bind (value_of x.program c a.0) (λ v. give (converted t v))) (bind (value_of x.program d a.0) (λ v. give (converted t v)))
  convert_alike Void a h k =
      alike_bind x ts (Same x a.0.ctype) (Same x Void) _ _ _ _ (a.1 k).0 (λ v u q. alike_give x ts (Same x Void) 0 0 refl)
  convert_alike (Scalar kind) a h k =
      alike_bind x ts (Same x a.0.ctype) (Same x (Scalar kind)) _ _ _ _ (a.1 k).0 (λ v u q.
      alike_give x ts (Same x (Scalar kind)) _ _ (ap (converted (Scalar kind)) (same_integer x a.0.ctype v u h q)))
  convert_alike (Pointer s) a (inl h) k =
      alike_bind x ts (Same x a.0.ctype) (Same x (Pointer s)) _ _ _ _ (a.1 k).0 (λ v u q.
      alike_give x ts (Same x (Pointer s)) v u (subst (λ t. Same x t v u) h q))
  convert_alike (Pointer s) a (inr h) k = null_alike s a.0 h

  function_alike : (g : ℕ) (t : CType) → (s : ℕ) × (t ≡ Pointer s) × IsFunctionOf x.program s g →
      Alike x ts (Same x t) (give (slice_index c.numbers g)) (give (slice_index d.numbers g))
  function_alike g t h =
      retyped (Pointer h.0) t (give (slice_index c.numbers g)) (give (slice_index d.numbers g)) (sym h.1)
      (alike_give x ts (Same x (Pointer h.0)) (slice_index c.numbers g) (slice_index d.numbers g)
      (inr (g, h.2, ap (λ (l : List ℕ). slice_index l g) same.left, ap (λ (l : List ℕ). slice_index l g) same.right)))

  form_alike : (y : Form-F F T E) (called : Bool) (t : CType) → HasType x.program fn t (form_plain y) → FormParts x.program fn (form_plain y) →
      Alike x ts (Same x t) (form_there c y called t) (form_there d y called t)
  form_alike (form.Number n) called t h k = alike_give x ts (Same x t) n n (constant_alike x t n h)
  form_alike (form.Read l) called t h k = alike_bind x ts (SameLvalue x ts t) (Same x t) _ _ _ _ (l.1 t h k) (read_as_alike called t)
  form_alike (form.Function g) called t h k = function_alike g t h
  form_alike (form.Unary op a) called t h k =
      alike_bind x ts (Same x a.0.ctype) (Same x t) _ _ _ _ (a.1 k).0 (λ v u q. give_integer t _ _ h.0 (unary_alike x op a.0.ctype v u h.1 q))
  form_alike (form.Binary op a b) called t h k =
      alike_bind x ts (Same x a.0.ctype) (Same x t) _ _ _ _ (a.1 k.0).0 (λ v u q.
      alike_bind x ts (Same x b.0.ctype) (Same x t) _ _ _ _ (b.1 k.1).0 (λ y z r.
      as_integer t _ _ h.0 (traps_alike _ _
      (ap (λ s. binary_value op s v y) (ctype_of_lem x.program c a.0) ∙
      (binary_alike x op a.0.ctype b.0.ctype v u y z h.1 q r ∙ sym (ap (λ s. binary_value op s u z) (ctype_of_lem x.program d a.0)))))))
  form_alike (form.Both a b) called t h k =
      alike_bind x ts (Same x a.0.ctype) (Same x t) _ _ _ _ (a.1 k.0).0 (λ v u q.
      alike_unless x ts (Same x t) v u _ _ _ _ (same_test x a.0.ctype v u q) (give_integer t 0 0 h refl)
      (alike_bind x ts (Same x b.0.ctype) (Same x t) _ _ _ _ (b.1 k.1).0 (λ y z r.
      give_integer t _ _ h (ap (λ n. if n then 0 else 1) (same_test x b.0.ctype y z r)))))
  form_alike (form.Either a b) called t h k =
      alike_bind x ts (Same x a.0.ctype) (Same x t) _ _ _ _ (a.1 k.0).0 (λ v u q.
      alike_unless x ts (Same x t) v u _ _ _ _ (same_test x a.0.ctype v u q)
      (alike_bind x ts (Same x b.0.ctype) (Same x t) _ _ _ _ (b.1 k.1).0 (λ y z r.
      give_integer t _ _ h (ap (λ n. if n then 0 else 1) (same_test x b.0.ctype y z r))))
      (give_integer t 1 1 h refl))
  form_alike (form.Choose e a b) called t h k =
      alike_bind x ts (Same x e.0.ctype) (Same x t) _ _ _ _ (e.1 k.0).0 (λ v u q.
      alike_unless x ts (Same x t) v u _ _ _ _ (same_test x e.0.ctype v u q)
      (retyped b.0.ctype t _ _ h.1 (b.1 k.2).0) (retyped a.0.ctype t _ _ h.0 (a.1 k.1).0))
  form_alike (form.Convert a) called t h k = convert_alike t a h k
  form_alike (form.Set l a) called t h k =
      alike_bind x ts (SameLvalue x ts t) (Same x t) _ _ _ _ (l.1 t h.0 k.0) (λ s s' r.
      alike_bind x ts (Same x t) (Same x t) _ _ _ _ (retyped a.0.ctype t _ _ h.1 (a.1 k.1).0) (λ v u q. stores_alike t s s' v u r q))
  form_alike (form.Change op kind l a) called t h k =
      alike_bind x ts (SameLvalue x ts t) (Same x t) _ _ _ _ (l.1 t h.2 k.0) (λ s s' r.
      alike_bind x ts (Same x a.0.ctype) (Same x t) _ _ _ _ (a.1 k.1).0 (λ v u q.
      change_alike op kind t s s' v u r h.0 (same_integer x a.0.ctype v u h.1 q)))
  form_alike (form.After up l) called t h k =
      alike_bind x ts (SameLvalue x ts t) (Same x t) _ _ _ _ (l.1 t h.1 k) (λ s s' r. after_alike up t s s' r h.0)
  form_alike (form.Direct g args) called t h k =
      retyped h.0.result t _ _ (sym h.2)
      (alike_bind x ts (SameValues x (parameter_types h.0)) (Same x h.0.result) _ _ _ _
      (subst (λ l. Alike x ts (SameValues x l) (values_of (map (denotation_of x.program c) (map (λ (a : E). a.0) args))) (values_of (map (denotation_of x.program d) (map (λ (a : E). a.0) args)))) h.3 (values_alike args k))
      (λ vs us q. alike_call x c d same ts g h.0 vs us h.1 q))
  form_alike (form.Through args callee) called t h k =
      retyped h.1.result t _ _ (sym h.4)
      (alike_bind x ts (SameValues x h.1.params) (Same x h.1.result) _ _ _ _
      (subst (λ l. Alike x ts (SameValues x l) (values_of (map (denotation_of x.program c) (map (λ (a : E). a.0) args))) (values_of (map (denotation_of x.program d) (map (λ (a : E). a.0) args)))) h.5 (values_alike args k.0))
      (λ vs us q.
      alike_bind x ts (Same x (Pointer h.0)) (Same x h.1.result) _ _ _ _ (retyped callee.0.ctype (Pointer h.0) _ _ h.2 (callee.1 k.1).1)
      (λ v u r. alike_through x c d same ts h.0 h.1 t v u vs us h.3 h.4 r q)))
  form_alike (form.Known n args) called t h k =
      alike_bind x ts (SameValues x (types_of (map (λ (a : E). a.0) args))) (Same x t) _ _ _ _ (values_alike args k) (λ vs us q.
      as_integer t _ _ h.0
      (subst (λ l. Alike x ts (λ (a b : ℕ). a ≡ b) (known_value x.program c.numbers n vs) (known_value x.program d.numbers n l)) (values_plain x _ vs us h.1 q) (known_alike n vs)))

  abbrev target_there : Context → Target-F F T E → Evaluation Lvalue
  target_there a y =
      target_lvalue
      (map-Target Form Target Expr FormValue (Evaluation Lvalue) Denotation (form_of x.program a) (lvalue_of x.program a) (denotation_of x.program a) (target_plain y))

  target_alike : (y : Target-F F T E) (t : CType) → LvalueHasType x.program fn t (target_plain y) → TargetParts x.program fn (target_plain y) →
      Alike x ts (SameLvalue x ts t) (target_there c y) (target_there d y)
  target_alike (form.Global g) t h k = alike_give x ts (SameLvalue x ts t) (lvalue.Global g 0) (lvalue.Global g 0) (record { same = refl; typed = h })
  target_alike (form.Local l) t h k = alike_give x ts (SameLvalue x ts t) (lvalue.Local l 0) (lvalue.Local l 0) (record { same = refl; typed = h })
  target_alike (form.GlobalAt g e) t h k =
      alike_bind x ts (Same x e.0.ctype) (SameLvalue x ts t) _ _ _ _ (e.1 k).0 (λ v u q.
      subst (λ n. Alike x ts (SameLvalue x ts t) (global_element g v) (global_element g n)) (same_integer x e.0.ctype v u h.1 q) (alike_global x ts t g v h.0))
  target_alike (form.LocalAt l e) t h k =
      alike_bind x ts (Same x e.0.ctype) (SameLvalue x ts t) _ _ _ _ (e.1 k).0 (λ v u q.
      subst (λ n. Alike x ts (SameLvalue x ts t) (local_element l v) (local_element l n)) (same_integer x e.0.ctype v u h.1 q) (alike_local x ts t l v h.0))

  form_of_roll : (a : Context) (z : Form-F Form Target Expr) →
      form_of x.program a (roll-Form z) ≡
      form_value x.program a (map-Form Form Target Expr FormValue (Evaluation Lvalue) Denotation (form_of x.program a) (lvalue_of x.program a) (denotation_of x.program a) z)
  form_of_roll a z = fold-roll-Form FormValue (Evaluation Lvalue) Denotation (form_value x.program a) target_lvalue expr_denotation z

  lvalue_of_roll : (a : Context) (z : Target-F Form Target Expr) →
      lvalue_of x.program a (roll-Target z) ≡
      target_lvalue (map-Target Form Target Expr FormValue (Evaluation Lvalue) Denotation (form_of x.program a) (lvalue_of x.program a) (denotation_of x.program a) z)
  lvalue_of_roll a z = fold-roll-Target FormValue (Evaluation Lvalue) Denotation (form_value x.program a) target_lvalue expr_denotation z

  value_of_roll : (a : Context) (z : Expr-F Form Target Expr) → value_of x.program a (roll-Expr z) ≡ counted 1 (form_of x.program a z.what false z.ctype)
  value_of_roll a z =
      ap (λ (d : Denotation). d.value) (fold-roll-Expr FormValue (Evaluation Lvalue) Denotation (form_value x.program a) target_lvalue expr_denotation z)

  callee_of_roll : (a : Context) (z : Expr-F Form Target Expr) → callee_of x.program a (roll-Expr z) ≡ counted 1 (form_of x.program a z.what true z.ctype)
  callee_of_roll a z =
      ap (λ (d : Denotation). d.callee) (fold-roll-Expr FormValue (Evaluation Lvalue) Denotation (form_value x.program a) target_lvalue expr_denotation z)

  form_case : (z : Form-F Form Target Expr) (y : Form-F F T E) → form_plain y ≡ z → FormAlike (roll-Form z)
  form_case z y q =
      subst (λ z. FormAlike (roll-Form z)) q
      (λ called t h k.
      let z = form_plain y in
      let typed : HasType x.program fn t z = subst (HasType x.program fn t) (out-roll-Form z) h in
      let parts : FormParts x.program fn z = subst (FormParts x.program fn) (out-roll-Form z) (form_parts x.program fn (roll-Form z) k) in
      subst (λ (e : FormValue). Alike x ts (Same x t) (e called t) (form_of x.program d (roll-Form z) called t)) (sym (form_of_roll c z))
      (subst (λ (e : FormValue). Alike x ts (Same x t) (form_there c y called t) (e called t)) (sym (form_of_roll d z)) (form_alike y called t typed parts)))

  target_case : (z : Target-F Form Target Expr) (y : Target-F F T E) → target_plain y ≡ z → TargetAlike (roll-Target z)
  target_case z y q =
      subst (λ z. TargetAlike (roll-Target z)) q
      (λ t h k.
      let z = target_plain y in
      let typed : LvalueHasType x.program fn t z = subst (LvalueHasType x.program fn t) (out-roll-Target z) h in
      let parts : TargetParts x.program fn z = subst (TargetParts x.program fn) (out-roll-Target z) (target_parts x.program fn (roll-Target z) k) in
      subst (λ (e : Evaluation Lvalue). Alike x ts (SameLvalue x ts t) e (lvalue_of x.program d (roll-Target z))) (sym (lvalue_of_roll c z))
      (subst (λ (e : Evaluation Lvalue). Alike x ts (SameLvalue x ts t) (target_there c y) e) (sym (lvalue_of_roll d z)) (target_alike y t typed parts)))

  expr_case : (z : Expr-F Form Target Expr) (y : Expr-F F T E) → map-Expr F T E Form Target Expr (λ a. a.0) (λ a. a.0) (λ a. a.0) y ≡ z → ExprAlike (roll-Expr z)
  expr_case z y q =
      subst (λ z. ExprAlike (roll-Expr z)) q
      (λ k.
      let z = map-Expr F T E Form Target Expr (λ a. a.0) (λ a. a.0) (λ a. a.0) y in
      let back = out-roll-Expr z in
      let typed : HasType x.program fn z.ctype (out-Form z.what) =
      subst (λ (e : Expr-F Form Target Expr). HasType x.program fn e.ctype (out-Form e.what)) back (expr_node x.program fn (roll-Expr z) k) in
      let inner : TypedForm x.program fn z.what = subst (λ (e : Expr-F Form Target Expr). TypedForm x.program fn e.what) back (expr_form x.program fn (roll-Expr z) k) in
      let of_type : CType → Bool → Type 0 = λ t called.
      Alike x ts (Same x t) (counted 1 (form_of x.program c z.what called z.ctype)) (counted 1 (form_of x.program d z.what called z.ctype)) in
      let counts : (called : Bool) → of_type (roll-Expr z).ctype called = λ called.
      subst (λ t. of_type t called) (sym (ap (λ (e : Expr-F Form Target Expr). e.ctype) back)) (alike_counted x ts (Same x z.ctype) 1 _ _ (y.what.1 called z.ctype typed inner)) in (
        subst (λ (e : Evaluation ℕ). Alike x ts (Same x (roll-Expr z).ctype) e (value_of x.program d (roll-Expr z))) (sym (value_of_roll c z))
            (subst (λ (e : Evaluation ℕ). Alike x ts (Same x (roll-Expr z).ctype) (counted 1 (form_of x.program c z.what false z.ctype)) e) (sym (value_of_roll d z)) (counts false)),
        subst (λ (e : Evaluation ℕ). Alike x ts (Same x (roll-Expr z).ctype) e (callee_of x.program d (roll-Expr z))) (sym (callee_of_roll c z))
            (subst (λ (e : Evaluation ℕ). Alike x ts (Same x (roll-Expr z).ctype) (counted 1 (form_of x.program c z.what true z.ctype)) e) (sym (callee_of_roll d z)) (counts true)),
      ))

  pub alike_expr : (e : Expr) → TypedExpr x.program fn e → Alike x ts (Same x e.ctype) (value_of x.program c e) (value_of x.program d e)
  alike_expr e h = (ind-Expr FormAlike TargetAlike ExprAlike form_case target_case expr_case e h).0
