-- What is evaluated at a greater bound goes on from what it is at a lesser one.
use Rattle.std.proofs.Common.{◌≡◌, ℕ, ◌-◌, ◌^◌, Bool, true, false, if◌then◌else◌, nat_eq, nat_lt, List, [], ◌∷◌, ◌++◌, map, length, arith, refl, sym, ◌∙◌, ap, subst, Option, Some, None, slice_get}
use Rattle.std.specs.Prelude.{slice_index}
use Rattle.mv_num.specs.Words.{add, sub}
use Rattle.mv_ast.specs.declared.program.CType.{CType}
use Rattle.mv_ast.specs.declared.program.Program.{Program}
use Rattle.mv_ast.specs.declared.program.Known.{Known}
use Rattle.mv_ast.specs.declared.program.Known.TheVariants.{Getchar, Putchar, Poll, Plan}
use Rattle.mv_ast.specs.declared.program.Expr.{Expr, Expr-F, ind-Expr, map-Expr, roll-Expr, fold-roll-Expr}
use Rattle.mv_ast.specs.declared.program.Form.{Form, Form-F, map-Form, roll-Form, fold-roll-Form}
use Rattle.mv_ast.specs.declared.program.Form.TheOpen as form
use Rattle.mv_ast.specs.declared.program.Target.{Target, Target-F, map-Target, roll-Target, fold-roll-Target}
use Rattle.mv_bindings.specs.declared.stop.Stop.{Stop}
use Rattle.mv_bindings.specs.declared.stop.Stop.TheVariants.{Trapped}
use Rattle.mv_ast.specs.Worlds.{World, bind, give, stop, counted}
use Rattle.mv_bindings.specs.Acts.{Act, Skip, Flip, Adopt}
use Rattle.mv_ast.specs.Numbering.{function_of_number}
use Rattle.mv_ast.specs.Orders.{Answered, may_commit, ordered, polled, acted, flipped, bindings_after, bound_after}
use Rattle.mv_ast.specs.Switches.{with_word, words_or_none, switch_global}
use Rattle.mv_bindings.specs.Bindings.{events_from}
use Rattle.mv_bindings.specs.OrderNumbers.{is_commit}
use Rattle.mv_meaning.specs.declared.state.Frame.{Frame}
use Rattle.mv_meaning.specs.declared.state.Lvalue.{Lvalue}
use Rattle.mv_meaning.specs.declared.state.Lvalue.TheVariants as lvalue
use Rattle.mv_ast.specs.Operators.{converted, unary_value, binary_value}
use Rattle.mv_meaning.specs.Meaning.{Evaluation, Context, Denotation, FormValue, read_lvalue, read_as, store_lvalue, element_below, global_element, local_element, value_or_trap, unless_zero, truth_of, byte_of, known_value, call_at, call_numbered, call_through, values_of, target_lvalue, form_value, expr_denotation, form_of, lvalue_of, denotation_of, value_of, callee_of}
use Rattle.mv_meaning.specs.Growth.{Begins, Grew, world_left, Grows, GoesOn}
use Rattle.mv_meaning.proofs.Growing.{Begins-refl, Grew-refl, Grew-trans, Grows-stop, Grows-give, Grows-counted, Grows-bind, GoesOn-same, GoesOn-counted, GoesOn-bind}
use Rattle.mv_meaning.proofs.Equations.{ctype_of_lem}

-- one evaluation goes on from another, and only lets a world grow
pub record Rises {A : Type 0} (lesser greater : Evaluation A) : Type 0 where
  pub grows : Grows greater
  pub on : GoesOn lesser greater

module _ {A : Type 0} where
  pub rises_alike : (d : Evaluation A) → Grows d → Rises d d
  rises_alike d g = record { grows = g; on = GoesOn-same d }

  pub rises_give : (v : A) → Rises {A = A} (give v) (give v)
  rises_give v = rises_alike (give v) (Grows-give v)

  pub rises_stop : (s : Stop) → Rises {A = A} (stop s) (stop s)
  rises_stop s = rises_alike (stop s) (Grows-stop Frame A s)

  pub rises_counted : (n : ℕ) (d e : Evaluation A) → Rises d e → Rises (counted n d) (counted n e)
  rises_counted n d e r = record { grows = Grows-counted n e r.grows; on = GoesOn-counted n d e r.on }

  pub rises_either : (b : Bool) (d d' e e' : Evaluation A) → Rises d d' → Rises e e' → Rises (if b then d else e) (if b then d' else e')
  rises_either true d d' e e' r q = r
  rises_either false d d' e e' r q = q

  pub rises_unless : (v : ℕ) (d d' e e' : Evaluation A) → Rises d d' → Rises e e' → Rises (unless_zero v d e) (unless_zero v d' e')
  rises_unless v = rises_either (nat_eq v 0)

module _ {A B : Type 0} where
  pub rises_bind : (d e : Evaluation A) (next next' : A → Evaluation B) → Rises d e → ((v : A) → Rises (next v) (next' v)) →
      Rises (bind d next) (bind e next')
  rises_bind d e next next' r q = record {
    grows = Grows-bind e next' r.grows (λ v. (q v).grows);
    on = GoesOn-bind d e next next' r.on (λ v. (q v).grows) (λ v. (q v).on);
  }

-- ---- what takes no context

grew_plainly : (w w' : World) → w'.output ≡ w.output → w'.log ≡ w.log → w'.taken ≡ w.taken → Grew w w'
grew_plainly w w' eo el et = record {
  output = subst (Begins w.output) (sym eo) (Begins-refl w.output);
  log = subst (Begins w.log) (sym el) (Begins-refl w.log);
  taken = omega (arith, et);
}

pub rises_read : (p : Program) (l : Lvalue) → Rises (read_lvalue p l) (read_lvalue p l)
rises_read p l = rises_alike (read_lvalue p l) (λ f w. Grew-refl w)

pub rises_read_as : (p : Program) (ns : List ℕ) (called : Bool) (l : Lvalue) → Rises (read_as p ns called l) (read_as p ns called l)
rises_read_as p ns called l = rises_alike (read_as p ns called l) (λ f w. Grew-refl w)

pub rises_store : (l : Lvalue) (v : ℕ) → Rises (store_lvalue l v) (store_lvalue l v)
rises_store (lvalue.Global g i) v = rises_alike (store_lvalue (lvalue.Global g i) v) (λ f w. grew_plainly w (record w { globals = with_word w.globals g i v }) refl refl refl)
rises_store (lvalue.Local l i) v = rises_alike (store_lvalue (lvalue.Local l i) v) (λ f w. Grew-refl w)

pub rises_trap : (v : Option ℕ) → Rises (value_or_trap v) (value_or_trap v)
rises_trap None = rises_stop (Trapped 1)
rises_trap (Some v) = rises_give v

rises_below : (size i : ℕ) (at : ℕ → Lvalue) → Rises (element_below size i at) (element_below size i at)
rises_below size i at = rises_either (nat_lt i size) (give (at i)) (give (at i)) (stop (Trapped 2)) (stop (Trapped 2)) (rises_give (at i)) (rises_stop (Trapped 2))

pub rises_global : (g i : ℕ) → Rises (global_element g i) (global_element g i)
rises_global g i = rises_alike (global_element g i) (λ f w. (rises_below (length (words_or_none (slice_get w.globals g))) i (lvalue.Global g)).grows f w)

pub rises_local : (l i : ℕ) → Rises (local_element l i) (local_element l i)
rises_local l i = rises_alike (local_element l i) (λ f w. (rises_below (length (words_or_none (slice_get f.locals l))) i (lvalue.Local l)).grows f w)

-- ---- known functions

grew_byte : (bytes : List ℕ) (f : Frame) (w : World) → Grew w (world_left (byte_of bytes f w))
grew_byte [] f w = Grew-refl w
grew_byte (c ∷ rest) f w = record { output = Begins-refl w.output; log = Begins-refl w.log; taken = omega arith }

grew_either : (b : Bool) (first second : Answered) (w : World) → Grew w first.world → Grew w second.world → Grew w (if b then first else second).world
grew_either true first second w g h = g
grew_either false first second w g h = h

grew_ordered : (p : Program) (ns : List ℕ) (code index : ℕ) (w : World) → Grew w (ordered p ns code index w).world
grew_ordered p ns code index w =
    let bs = bindings_after p ns code index w.globals w.bindings in
    let after : World = record w { bindings = bs; log = w.log ++ events_from 0 w.bindings bs } in
    grew_either (may_commit w)
    (record { answer = if is_commit code then bound_after p code index bs else 0; world = after })
    (record { answer = 2 ^ 32 - 1; world = w }) w
    (record { output = Begins-refl w.output; log = (events_from 0 w.bindings bs, refl); taken = omega arith }) (Grew-refl w)

grew_flipped : (p : Program) (ns : List ℕ) (s v : ℕ) (w : World) → Grew w (flipped p ns s v w)
grew_flipped p ns s v w =
    let stored : World = record w { globals = with_word w.globals (switch_global p s) 0 v } in
    Grew-trans w stored (flipped p ns s v w) (grew_plainly w stored refl refl refl) (grew_ordered p ns 0 0 stored)

grew_acted : (p : Program) (ns : List ℕ) (actions : List Act) (w : World) → Grew w (acted p ns actions w).world
grew_acted p ns [] w = Grew-refl w
grew_acted p ns (Skip ∷ rest) w = grew_plainly w (record w { actions = rest }) refl refl refl
grew_acted p ns (Flip s v ∷ rest) w =
    let left : World = record w { actions = rest } in
    Grew-trans w left (flipped p ns s v left) (grew_plainly w left refl refl refl) (grew_flipped p ns s v left)
grew_acted p ns (Adopt bs ∷ rest) w = record { output = Begins-refl w.output; log = (events_from 0 w.bindings bs, refl); taken = omega arith }

grew_polled : (p : Program) (ns : List ℕ) (w : World) → Grew w (polled p ns w).world
grew_polled p ns w =
    grew_either (nat_eq w.live 0) (acted p ns w.actions w) (record { answer = 0; world = w }) w (grew_acted p ns w.actions w) (Grew-refl w)

pub rises_known : (p : Program) (ns : List ℕ) (k : Known) (vs : List ℕ) → Rises (known_value p ns k vs) (known_value p ns k vs)
rises_known p ns Getchar vs = rises_alike (known_value p ns Getchar vs) (λ f w. grew_byte w.input f w)
rises_known p ns Putchar vs = rises_alike (known_value p ns Putchar vs) (λ f w. record { output = (_ ∷ [], refl); log = Begins-refl w.log; taken = omega arith })
rises_known p ns Poll vs = rises_alike (known_value p ns Poll vs) (λ f w. grew_polled p ns w)
rises_known p ns (Plan code index) vs = rises_alike (known_value p ns (Plan code index) vs) (λ f w. grew_ordered p ns code index w)

-- ---- expressions

-- one context goes on from another
pub record ContextRises (lesser greater : Context) : Type 0 where
  pub numbers : lesser.numbers ≡ greater.numbers
  pub lets : lesser.lets ≡ greater.lets
  pub strays : Rises lesser.stray greater.stray
  pub calls : (f : ℕ) (vs : List ℕ) → Rises (lesser.call f vs) (greater.call f vs)
  pub loops : (s : _) → Rises (lesser.loop s) (greater.loop s)

module _ (p : Program) (lesser greater : Context) (rises : ContextRises lesser greater) where
  rises_call : (f : ℕ) (vs : List ℕ) → Rises (call_at lesser f vs) (call_at greater f vs)
  rises_call f vs = record {
    grows = λ frame w. (rises_either (nat_lt w.depth 512) (lesser.call f vs) (greater.call f vs) (stop (Trapped 4)) (stop (Trapped 4)) (rises.calls f vs) (rises_stop (Trapped 4))).grows frame w;
    on = λ frame w. (rises_either (nat_lt w.depth 512) (lesser.call f vs) (greater.call f vs) (stop (Trapped 4)) (stop (Trapped 4)) (rises.calls f vs) (rises_stop (Trapped 4))).on frame w;
  }

  rises_numbered : (t : CType) (f : Option ℕ) (vs : List ℕ) → Rises (call_numbered lesser t f vs) (call_numbered greater t f vs)
  rises_numbered t None vs = rises.strays
  rises_numbered t (Some f) vs =
      let lets : CType → ℕ → ℕ → Bool = lesser.lets in
      subst (λ (l : CType → ℕ → ℕ → Bool). Rises (if lets t f (length vs) then call_at lesser f vs else lesser.stray) (if l t f (length vs) then call_at greater f vs else greater.stray)) rises.lets
      (rises_either (lets t f (length vs)) (call_at lesser f vs) (call_at greater f vs) lesser.stray greater.stray (rises_call f vs) rises.strays)

  rises_through : (t : CType) (v : ℕ) (vs : List ℕ) → Rises (call_through lesser t v vs) (call_through greater t v vs)
  rises_through t v vs =
      let same_numbers : Rises (call_numbered lesser t (function_of_number lesser.numbers v) vs) (call_numbered greater t (function_of_number greater.numbers v) vs) =
      subst (λ ns. Rises (call_numbered lesser t (function_of_number lesser.numbers v) vs) (call_numbered greater t (function_of_number ns v) vs)) rises.numbers
      (rises_numbered t (function_of_number lesser.numbers v) vs) in
      rises_either (nat_eq v 0) (stop (Trapped 3)) (stop (Trapped 3)) _ _ (rises_stop (Trapped 3)) same_numbers

  -- ---- by induction over the forms

  abbrev FormRises : Form → Type 0
  FormRises f = (called : Bool) (t : CType) → Rises (form_of p lesser f called t) (form_of p greater f called t)

  abbrev TargetRises : Target → Type 0
  TargetRises t = Rises (lvalue_of p lesser t) (lvalue_of p greater t)

  abbrev ExprRises : Expr → Type 0
  ExprRises e = Rises (value_of p lesser e) (value_of p greater e) × Rises (callee_of p lesser e) (callee_of p greater e)

  abbrev F : Type 0
  F = (f : Form) × FormRises f

  abbrev T : Type 0
  T = (t : Target) × TargetRises t

  abbrev E : Type 0
  E = (e : Expr) × ExprRises e

  abbrev form_there : Context → Form-F F T E → FormValue
  form_there c y =
      form_value p c
      (map-Form Form Target Expr FormValue (Evaluation Lvalue) Denotation (form_of p c) (lvalue_of p c) (denotation_of p c)
      (map-Form F T E Form Target Expr (λ a. a.0) (λ a. a.0) (λ a. a.0) y))

  rises_values : (es : List E) → Rises (values_of (map (denotation_of p lesser) (map (λ a. a.0) es))) (values_of (map (denotation_of p greater) (map (λ a. a.0) es)))
  rises_values [] = rises_give []
  rises_values (e ∷ es) =
      rises_bind _ _ _ _ e.1.0 (λ v. rises_bind _ _ _ _ (rises_values es) (λ vs. rises_give (v ∷ vs)))

  form_rises : (y : Form-F F T E) (called : Bool) (t : CType) → Rises (form_there lesser y called t) (form_there greater y called t)
  form_rises (form.Number n) called t = rises_give n
  form_rises (form.Read l) called t =
      rises_bind _ _ _ _ l.1 (λ s.
      subst (λ ns. Rises (read_as p lesser.numbers called s) (read_as p ns called s)) rises.numbers (rises_read_as p lesser.numbers called s))
  form_rises (form.Function f) called t =
      subst (λ ns. Rises (give (slice_index lesser.numbers f)) (give (slice_index ns f))) rises.numbers (rises_give (slice_index lesser.numbers f))
  form_rises (form.Unary op a) called t = rises_bind _ _ _ _ a.1.0 (λ v. rises_give (unary_value op v))
  form_rises (form.Binary op a b) called t =
      let same_type : (denotation_of p lesser a.0).ctype ≡ (denotation_of p greater a.0).ctype = ctype_of_lem p lesser a.0 ∙ sym (ctype_of_lem p greater a.0) in
      rises_bind _ _ _ _ a.1.0 (λ x. rises_bind _ _ _ _ b.1.0 (λ y.
      subst (λ c. Rises (value_or_trap (binary_value op (denotation_of p lesser a.0).ctype x y)) (value_or_trap (binary_value op c x y))) same_type
      (rises_trap (binary_value op (denotation_of p lesser a.0).ctype x y))))
  form_rises (form.Both a b) called t =
      rises_bind _ _ _ _ a.1.0 (λ x. rises_unless x _ _ _ _ (rises_give 0) (rises_bind _ _ _ _ b.1.0 (λ y. rises_give (truth_of y))))
  form_rises (form.Either a b) called t =
      rises_bind _ _ _ _ a.1.0 (λ x. rises_unless x _ _ _ _ (rises_bind _ _ _ _ b.1.0 (λ y. rises_give (truth_of y))) (rises_give 1))
  form_rises (form.Choose c a b) called t = rises_bind _ _ _ _ c.1.0 (λ x. rises_unless x _ _ _ _ b.1.0 a.1.0)
  form_rises (form.Convert a) called t = rises_bind _ _ _ _ a.1.0 (λ v. rises_give (converted t v))
  form_rises (form.Set l a) called t = rises_bind _ _ _ _ l.1 (λ s. rises_bind _ _ _ _ a.1.0 (rises_store s))
  form_rises (form.Change op kind l a) called t =
      rises_bind _ _ _ _ l.1 (λ s. rises_bind _ _ _ _ a.1.0 (λ v. rises_bind _ _ _ _ (rises_read p s) (λ old.
      rises_bind _ _ _ _ (rises_trap (binary_value op kind old v)) (λ new. rises_store s (converted t new)))))
  form_rises (form.After up l) called t =
      rises_bind _ _ _ _ l.1 (λ s. rises_bind _ _ _ _ (rises_read p s) (λ old.
      rises_bind _ _ _ _ (rises_store s (converted t (if up then add old 1 else sub old 1))) (λ new. rises_give old)))
  form_rises (form.Direct f args) called t = rises_bind _ _ _ _ (rises_values args) (rises_call f)
  form_rises (form.Through args callee) called t =
      rises_bind _ _ _ _ (rises_values args) (λ vs. rises_bind _ _ _ _ callee.1.1 (λ v. rises_through t v vs))
  form_rises (form.Known k args) called t =
      rises_bind _ _ _ _ (rises_values args) (λ vs.
      subst (λ ns. Rises (known_value p lesser.numbers k vs) (known_value p ns k vs)) rises.numbers (rises_known p lesser.numbers k vs))

  abbrev target_there : Context → Target-F F T E → Evaluation Lvalue
  target_there c y =
      target_lvalue
      (map-Target Form Target Expr FormValue (Evaluation Lvalue) Denotation (form_of p c) (lvalue_of p c) (denotation_of p c)
      (map-Target F T E Form Target Expr (λ a. a.0) (λ a. a.0) (λ a. a.0) y))

  target_rises : (y : Target-F F T E) → Rises (target_there lesser y) (target_there greater y)
  target_rises (form.Global g) = rises_give (lvalue.Global g 0)
  target_rises (form.Local l) = rises_give (lvalue.Local l 0)
  target_rises (form.GlobalAt g e) = rises_bind _ _ _ _ e.1.0 (rises_global g)
  target_rises (form.LocalAt l e) = rises_bind _ _ _ _ e.1.0 (rises_local l)

  form_of_roll : (c : Context) (x : Form-F Form Target Expr) →
      form_of p c (roll-Form x) ≡
      form_value p c (map-Form Form Target Expr FormValue (Evaluation Lvalue) Denotation (form_of p c) (lvalue_of p c) (denotation_of p c) x)
  form_of_roll c x = fold-roll-Form FormValue (Evaluation Lvalue) Denotation (form_value p c) target_lvalue expr_denotation x

  lvalue_of_roll : (c : Context) (x : Target-F Form Target Expr) →
      lvalue_of p c (roll-Target x) ≡
      target_lvalue (map-Target Form Target Expr FormValue (Evaluation Lvalue) Denotation (form_of p c) (lvalue_of p c) (denotation_of p c) x)
  lvalue_of_roll c x = fold-roll-Target FormValue (Evaluation Lvalue) Denotation (form_value p c) target_lvalue expr_denotation x

  value_of_roll : (c : Context) (x : Expr-F Form Target Expr) → value_of p c (roll-Expr x) ≡ counted 1 (form_of p c x.what false x.ctype)
  value_of_roll c x =
      ap (λ (d : Denotation). d.value) (fold-roll-Expr FormValue (Evaluation Lvalue) Denotation (form_value p c) target_lvalue expr_denotation x)

  callee_of_roll : (c : Context) (x : Expr-F Form Target Expr) → callee_of p c (roll-Expr x) ≡ counted 1 (form_of p c x.what true x.ctype)
  callee_of_roll c x =
      ap (λ (d : Denotation). d.callee) (fold-roll-Expr FormValue (Evaluation Lvalue) Denotation (form_value p c) target_lvalue expr_denotation x)

  form_case : (x : Form-F Form Target Expr) (y : Form-F F T E) → map-Form F T E Form Target Expr (λ a. a.0) (λ a. a.0) (λ a. a.0) y ≡ x → FormRises (roll-Form x)
  form_case x y q =
      subst (λ z. FormRises (roll-Form z)) q
      (λ called t.
      let z = map-Form F T E Form Target Expr (λ a. a.0) (λ a. a.0) (λ a. a.0) y in
      subst (λ (d : FormValue). Rises (d called t) (form_of p greater (roll-Form z) called t)) (sym (form_of_roll lesser z))
      (subst (λ (d : FormValue). Rises (form_there lesser y called t) (d called t)) (sym (form_of_roll greater z)) (form_rises y called t)))

  target_case : (x : Target-F Form Target Expr) (y : Target-F F T E) → map-Target F T E Form Target Expr (λ a. a.0) (λ a. a.0) (λ a. a.0) y ≡ x → TargetRises (roll-Target x)
  target_case x y q =
      subst (λ z. TargetRises (roll-Target z)) q
      (let z = map-Target F T E Form Target Expr (λ a. a.0) (λ a. a.0) (λ a. a.0) y in
      subst (λ (d : Evaluation Lvalue). Rises d (lvalue_of p greater (roll-Target z))) (sym (lvalue_of_roll lesser z))
      (subst (λ (d : Evaluation Lvalue). Rises (target_there lesser y) d) (sym (lvalue_of_roll greater z)) (target_rises y)))

  expr_case : (x : Expr-F Form Target Expr) (y : Expr-F F T E) → map-Expr F T E Form Target Expr (λ a. a.0) (λ a. a.0) (λ a. a.0) y ≡ x → ExprRises (roll-Expr x)
  expr_case x y q =
      subst (λ z. ExprRises (roll-Expr z)) q
      (let z = map-Expr F T E Form Target Expr (λ a. a.0) (λ a. a.0) (λ a. a.0) y in
      let counted_rises : (called : Bool) → Rises (counted 1 (form_of p lesser z.what called z.ctype)) (counted 1 (form_of p greater z.what called z.ctype)) =
      λ called. rises_counted 1 (form_of p lesser z.what called z.ctype) (form_of p greater z.what called z.ctype) (y.what.1 called z.ctype) in (
        subst (λ (d : Evaluation ℕ). Rises d (value_of p greater (roll-Expr z))) (sym (value_of_roll lesser z))
            (subst (λ (d : Evaluation ℕ). Rises (counted 1 (form_of p lesser z.what false z.ctype)) d) (sym (value_of_roll greater z)) (counted_rises false)),
        subst (λ (d : Evaluation ℕ). Rises d (callee_of p greater (roll-Expr z))) (sym (callee_of_roll lesser z))
            (subst (λ (d : Evaluation ℕ). Rises (counted 1 (form_of p lesser z.what true z.ctype)) d) (sym (callee_of_roll greater z)) (counted_rises true)),
      ))

  pub value_rises : (e : Expr) → Rises (value_of p lesser e) (value_of p greater e)
  value_rises e = (ind-Expr FormRises TargetRises ExprRises form_case target_case expr_case e).0
