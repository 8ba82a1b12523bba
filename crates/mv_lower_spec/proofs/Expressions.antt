-- Every expression is lowered correctly.
use Rattle.std.proofs.Common.{◌≡◌, ℕ, suc, ◌+◌, ◌<◌, ◌≤◌, Bool, true, false, cond, eqb, List, [], ◌∷◌, map, length, Option, Some, None, refl, sym, ◌∙◌, subst, ap, arith}
use Rattle.std.specs.Prelude.{nat_eq, nat_lt, not, ◌&&◌, slice_get, slice_index}
use Rattle.std.proofs.lemmas.Bool.{ltb-true, eq-eqb, or_parts, not-true}
use Rattle.std.proofs.lemmas.List.{length-map}
use Rattle.mv_num.specs.Words as word
use Rattle.mv_ir.specs.declared.tree.Tree.{Tree}
use Rattle.mv_ir.specs.declared.stm.Array.{Array}
use Rattle.mv_ir.specs.declared.stm.Array.TheVariants as array
use Rattle.mv_ir.specs.Outcome.{State, Bound}
use Rattle.mv_ir.specs.Trees as ir_tree
use Rattle.mv_ir.specs.Trees.{nodes}
use Rattle.mv_ir.proofs.Induction.{Each}
use Rattle.mv_ast.specs.declared.program.Program.{Program}
use Rattle.mv_ast.specs.declared.program.Function.{Function}
use Rattle.mv_bindings.specs.declared.binding.Binding.{Binding}
use Rattle.mv_ast.specs.Numbering.{place_from}
use Rattle.mv_num.specs.Lists.{is_among}
use Rattle.mv_ast.specs.Switches.{switch_global, value_among, binding_value, bound_value, attributed_functions, attributed_before, pointer_number}
use Rattle.mv_ast.proofs.Common.{first_has_not}
use Rattle.mv_ast.specs.declared.program.CType.{CType}
use Rattle.mv_ast.specs.declared.program.Known.{Known}
use Rattle.mv_ast.specs.declared.program.Expr.{Expr, Expr-F, roll-Expr, fold-roll-Expr}
use Rattle.mv_ast.specs.declared.program.Form.{Form, Form-F, roll-Form, fold-roll-Form, map-Form}
use Rattle.mv_ast.specs.declared.program.Form.TheOpen as form
use Rattle.mv_ast.specs.declared.program.Target.{Target, Target-F, roll-Target, fold-roll-Target, map-Target}
use Rattle.mv_ast.specs.Worlds.{World, after, bind, give, stop, counted}
use Rattle.mv_bindings.specs.declared.stop.Stop.TheVariants.{Trapped}
use Rattle.mv_meaning.specs.declared.state.Frame.{Frame}
use Rattle.mv_meaning.specs.declared.state.Lvalue.{Lvalue}
use Rattle.mv_meaning.specs.declared.state.Lvalue.TheVariants as lvalue
use Rattle.mv_ast.specs.Operators.{is_unsigned, converted, unary_value, product_value, bit_value, binary_value}
use Rattle.mv_meaning.specs.Meaning.{Evaluation, Context, Denotation, FormValue, called_global, read_as, read_lvalue, element_below, store_lvalue, value_or_trap, values_of, known_value, call_through, target_lvalue, form_value, expr_denotation, form_of, lvalue_of, denotation_of, value_of, callee_of}
use Rattle.mv_lower_spec.specs.Lowered.{Lowering, binary, lower_number, lower_local, lower_global, lower_function, lower_division, lower_set_local, lower_set_global, lower_element, lower_read_element, lower_set_element, lower_switched, lower_known}
use Rattle.mv_lower_spec.specs.Lower.{FormPart, Part, Place, InLocal, InGlobal, Element, place_of_layer, global_at, switched_if, switched_by, lower_called, lower_read, lower_set, lower_changed, lower_change, lower_after, lower_form_at, form_reads, lower_form, lower_layer, form_part, place_of, part_of, lower_expr, lower_operator, lower_binary, lower_product, bit_tree, unary_tree, converted_tree, quotient_number, remainder_number}
use Rattle.mv_source_forms.specs.Names.{is_void, is_callable, is_scalar, is_own_switch, names_form, names_target, names_layer, form_is_well_named, target_is_well_named, is_well_named}
use Rattle.mv_source_forms.specs.Lists.{all_of}
use Rattle.mv_lower_spec.specs.Correct as c
use Rattle.mv_lower_spec.specs.Correct.{Ground, Scene, Held, scene_of, val, CorrectFor, AllCorrect, IsScalar}
use Rattle.mv_lower_spec.proofs.Running.{nodes_binary}
use Rattle.mv_lower_spec.proofs.Forms as forms
use Rattle.mv_lower_spec.proofs.Control as control
use Rattle.mv_lower_spec.proofs.Showing as show
use Rattle.mv_meaning.proofs.Sequences as sequences
use Rattle.mv_lower_spec.proofs.Elements as elements
use Rattle.mv_lower_spec.proofs.Elements.{element_of}
use Rattle.mv_lower_spec.proofs.Arguments as arguments
use Rattle.mv_lower_spec.proofs.Operators as operators
use Rattle.mv_source_forms.proofs.ExpressionInduction.{FormChildren, TargetChildren, expr_ind}
use Rattle.mv_num.proofs.Booleans.{and_cases, from_falsity}

pub scalar_is_none : (o : Option ℕ) → is_scalar o ≡ true → o ≡ None
scalar_is_none None e = refl
scalar_is_none (Some n) e = from_falsity e

is_some : (o : Option ℕ) → not (is_scalar o) ≡ true → o ≡ None → ⊥
is_some None e h = from_falsity e
is_some (Some n) e h = from_falsity (sym (ap is_scalar (sym h)))

quotient_is : (z : Bool) (x y : ℕ) → cond z (word.div_u x y) (word.div_s x y) ≡ ir_tree.divide (cond z 1 0) x y
unfolding ir_tree.divide
quotient_is true x y = refl
quotient_is false x y = refl

remainder_is : (z : Bool) (x y : ℕ) → cond z (word.rem_u x y) (word.rem_s x y) ≡ ir_tree.divide (cond z 3 2) x y
unfolding ir_tree.divide
remainder_is true x y = refl
remainder_is false x y = refl

-- ---- a global that is no switch of a function is read from memory in its frames

not_among : (p : Program) (g : ℕ) (ss vs : List ℕ) → is_among g (map (switch_global p) ss) ≡ false → value_among p g ss vs ≡ None
not_among p g [] vs e = refl
not_among p g (s ∷ ss) [] e = refl
not_among p g (s ∷ ss) (v ∷ vs) e =
    let es = or_parts (nat_eq g (switch_global p s)) (is_among g (map (switch_global p) ss)) e in
    ap (λ z. cond z (Some v) (value_among p g ss vs)) es.0 ∙ not_among p g ss vs es.1

not_bound : (p : Program) (f : Function) (b : Option Binding) (g : ℕ) → is_among g (map (switch_global p) f.switches) ≡ false → binding_value p f b g ≡ None
not_bound p f None g e = refl
not_bound p f (Some b) g e = by b.bound
  where
    by : (z : Bool) → cond z (value_among p g f.switches b.values) None ≡ None
    by true = not_among p g f.switches b.values e
    by false = refl

pub no_switch : (p : Program) (function g : ℕ) (o : Option Function) (bs : List Binding) → is_own_switch p o g ≡ false → bound_value p bs function o g ≡ None
no_switch p function g None bs e = refl
no_switch p function g (Some f) bs e = by f.attributed
  where
    by : (z : Bool) → cond z (binding_value p f (slice_get bs (attributed_before p.functions function)) g) None ≡ None
    by true = not_bound p f (slice_get bs (attributed_before p.functions function)) g e
    by false = refl

-- ---- a global that is no pointer switch is called through as it is read

no_place : (i : ℕ) (gs : List ℕ) (g : ℕ) → is_among g gs ≡ false → place_from i gs g ≡ None
no_place i [] g e = refl
no_place i (x ∷ gs) g e =
    let es = or_parts (nat_eq g x) (is_among g gs) e in
    first_has_not g i x gs (λ same. from_falsity (sym es.0 ∙ eq-eqb g x (sym same))) ∙ no_place (suc i) gs g es.1

no_pointer : (p : Program) (g : ℕ) → is_among g p.pointers ≡ false → pointer_number p g ≡ None
no_pointer p g e = no_place (length (attributed_functions p)) p.pointers g e

-- ---- operators on two operands

module _ (scene : Scene) (bound : Bound)
    (total ka kb : ℕ) (turned : Bool) (ma mb : Evaluation ℕ) (la lb : Lowering) (enough : ka + (kb + 22) ≤ total) (ca : CorrectFor scene bound ka ma la) (cb : CorrectFor scene bound kb mb lb) where
  abbrev Two : (ℕ → ℕ → Option ℕ) → Lowering → Type 0
  Two op l = CorrectFor scene bound total (bind ma (λ x. bind mb (λ y. value_or_trap (cond turned (op y x) (op x y))))) l

  by_test : (z : Bool) (f g : ℕ → ℕ → Option ℕ) (l k : Lowering) → Two f l → Two g k → Two (λ x y. cond z (f x y) (g x y)) (cond z l k)
  by_test true f g l k h i = h
  by_test false f g l k h i = i

  either_some : (z : Bool) (u v : ℕ) → cond z (Some u) (Some v) ≡ Some (cond z u v)
  either_some true u v = refl
  either_some false u v = refl

  either_value : (z : Bool) (t u : Tree) (x y : ℕ) (s : State) → val scene t s ≡ x → val scene u s ≡ y → val scene (cond z t u) s ≡ cond z x y
  either_value true t u x y s h k = h
  either_value false t u x y s h k = k

  operator : (f : Tree → Tree → Tree) (value : ℕ → ℕ → ℕ) → ((a b : Tree) (s : State) → val scene (f a b) s ≡ value (val scene a s) (val scene b s)) → ((a b : Tree) → nodes (f a b) ≤ nodes a + nodes b + 2) →
      Two (λ x y. Some (value x y)) (lower_operator turned f la lb)
  operator f value same size =
      forms.correct_two scene bound total ka kb 2 (λ x y. cond turned (f y x) (f x y)) (λ x y. cond turned (Some (value y x)) (Some (value x y))) (λ x y. cond turned (value y x) (value x y)) ma mb la lb (omega (arith, enough))
      (λ x y. either_some turned (value y x) (value x y))
      (λ a b s. either_value turned (f b a) (f a b) (value (val scene b s) (val scene a s)) (value (val scene a s) (val scene b s)) s (same b a s) (same a b s))
      (λ a b. operators.small_if turned (f b a) (f a b) (nodes a + nodes b + 2) (omega (arith, size b a)) (omega (arith, size a b))) ca cb

  plain : (o : ℕ) (value : ℕ → ℕ → ℕ) → ((a b : Tree) (s : State) → val scene (binary o a b) s ≡ value (val scene a s) (val scene b s)) → Two (λ x y. Some (value x y)) (lower_operator turned (binary o) la lb)
  plain o value same = operator (binary o) value same (λ a b. omega (arith, nodes_binary o a b))

  divisions : (t : CType) (z : Bool) → Two (λ x y. cond (eqb y 0) None (cond z (Some (cond (is_unsigned t) (word.div_u x y) (word.div_s x y))) (Some (cond (is_unsigned t) (word.rem_u x y) (word.rem_s x y)))))
      (cond z (lower_division turned (quotient_number t) la lb) (lower_division turned (remainder_number t) la lb))
  divisions t true = forms.correct_division scene bound total ka kb turned (quotient_number t) _ ma mb la lb enough (λ x y. ap (λ k. cond (eqb y 0) None (Some k)) (quotient_is (is_unsigned t) x y)) ca cb
  divisions t false = forms.correct_division scene bound total ka kb turned (remainder_number t) _ ma mb la lb enough (λ x y. ap (λ k. cond (eqb y 0) None (Some k)) (remainder_is (is_unsigned t) x y)) ca cb

  pub binary_correct : (op : ℕ) (t : CType) → Two (binary_value op t) (lower_binary turned op t la lb)
  unfolding binary_value product_value
  binary_correct op t =
      by_test (nat_lt op 17) (product_value op t) (λ x y. Some (bit_value op t x y)) (lower_product turned op t la lb) (lower_operator turned (bit_tree op t) la lb)
      (by_test (nat_eq op 12) (λ x y. Some (word.add x y)) _ (lower_operator turned (binary 0) la lb) _ (plain 0 word.add (operators.add_same scene))
      (by_test (nat_eq op 13) (λ x y. Some (word.sub x y)) _ (lower_operator turned (binary 1) la lb) _ (plain 1 word.sub (operators.sub_same scene))
      (by_test (nat_eq op 14) (λ x y. Some (word.mul x y)) _ (lower_operator turned (binary 2) la lb) _ (plain 2 word.mul (operators.mul_same scene))
      (divisions t (nat_eq op 15)))))
      (operator (bit_tree op t) (bit_value op t) (operators.bit_same scene op t) (operators.bit_nodes op t))

-- ---- all expressions

module _ (ground : Ground) (held : Held) (bound : Bound)
    (free : ℕ → Bool) (frees : (l : ℕ) → free l ≡ true → held l ≡ None) (context : Context) (room : ground.locals ≤ ground.room) (strict : c.IsStrict ground.p ground.setting.numbers context)
    (calls : c.CallsAgree ground.p ground.frame ground.own bound context) (knows : (k : Known) → c.KnownAgrees ground.p ground.frame ground.own ground.setting k)
    (switched : c.SwitchedAgrees ground.p ground.setting) where
  abbrev scene : ℕ → (ℕ → ℕ) → Scene
  scene = scene_of ground held

  -- correct whatever temporaries are in use
  abbrev pub Everywhere : ℕ → Evaluation ℕ → Lowering → Type 0
  Everywhere k m l = (floor : ℕ) (scratch : ℕ → ℕ) → CorrectFor (scene floor scratch) bound k m l

  -- a global array's element is called through as it is read
  abbrev Plain : Array → Type 0
  Plain (array.Global g) = pointer_number ground.p g ≡ None
  Plain (array.Local l) = Unit {0}
  Plain (array.SureGlobal g n) = pointer_number ground.p g ≡ None
  Plain (array.SureLocal l n) = Unit {0}

  -- a place, with what finds it
  abbrev PlaceShown : Evaluation Lvalue → Place → Type 0
  PlaceShown m (InLocal l) = (m ≡ give (lvalue.Local l 0)) × (l < ground.locals) × IsScalar ground.sizes held l
  PlaceShown m (InGlobal g) = m ≡ give (lvalue.Global g 0)
  PlaceShown m (Element a i) = (mi : Evaluation ℕ) × (m ≡ bind mi (element_of a)) × elements.IsArray ground held a × Everywhere 0 mi i × Plain a

  -- what a call through a pointer switch sees in it
  abbrev Called : ℕ → Evaluation ℕ
  Called g = bind (give (lvalue.Global g 0)) (read_as ground.p context.numbers true)

  -- what is called is a pointer switch, or is lowered as a value is
  abbrev FormCallee : Option ℕ → Evaluation ℕ → Lowering → Type 0
  FormCallee None m l = Everywhere 100 m l
  FormCallee (Some g) m l = (m ≡ Called g) × (is_among g ground.p.pointers ≡ true)

  abbrev FormShown : FormValue → FormPart → CType → Type 0
  FormShown m l t = Everywhere 100 (m false t) (l.lower t) × FormCallee (switched_by ground.p.pointers l.reads) (m true t) (l.lower t)

  abbrev ExprCallee : Option ℕ → Evaluation ℕ → Lowering → Type 0
  ExprCallee None m l = Everywhere 0 m l
  ExprCallee (Some g) m l = (m ≡ counted 1 (Called g)) × (is_among g ground.p.pointers ≡ true)

  abbrev ExprShown : Denotation → Part → Type 0
  ExprShown m l = Everywhere 0 m.value l.lower × (l.ctype ≡ m.ctype) × ExprCallee (switched_by ground.p.pointers l.reads) m.callee l.lower

  abbrev P : Form → Type 0
  P f = (t : CType) → form_is_well_named ground.p ground.own ground.locals ground.sizes free f t ≡ true → FormShown (form_of ground.p context f) (form_part ground.p.pointers f) t

  abbrev Q : Target → Type 0
  Q x = target_is_well_named ground.p ground.own ground.locals ground.sizes free x ≡ true → PlaceShown (lvalue_of ground.p context x) (place_of ground.p.pointers x)

  abbrev S : Expr → Type 0
  S e = is_well_named ground.p ground.own ground.locals ground.sizes free e ≡ true → ExprShown (denotation_of ground.p context e) (part_of ground.p.pointers e)

  read_correct : (m : Evaluation Lvalue) (x : Place) → PlaceShown m x → Everywhere 100 (bind m (read_lvalue ground.p)) (lower_read x)
  read_correct m (InLocal l) h floor scratch =
      subst (λ (k : Evaluation Lvalue). CorrectFor (scene floor scratch) bound 100 (bind k (read_lvalue ground.p)) (lower_local l)) (sym h.0)
      (show.comes_to (scene floor scratch) bound 100 (read_lvalue ground.p (lvalue.Local l 0)) _ (lower_local l) (λ f w. sym (sequences.given (lvalue.Local l 0) (read_lvalue ground.p) f w))
      (show.with_more (scene floor scratch) bound 14 100 (read_lvalue ground.p (lvalue.Local l 0)) (lower_local l) (omega arith) (forms.correct_local (scene floor scratch) bound l h.1 h.2)))
  read_correct m (InGlobal g) h floor scratch =
      subst (λ (k : Evaluation Lvalue). CorrectFor (scene floor scratch) bound 100 (bind k (read_lvalue ground.p)) (lower_global g)) (sym h)
      (show.comes_to (scene floor scratch) bound 100 (read_lvalue ground.p (lvalue.Global g 0)) _ (lower_global g) (λ f w. sym (sequences.given (lvalue.Global g 0) (read_lvalue ground.p) f w))
      (show.with_more (scene floor scratch) bound 14 100 (read_lvalue ground.p (lvalue.Global g 0)) (lower_global g) (omega arith) (forms.correct_global (scene floor scratch) bound g)))
  read_correct m (Element a i) h floor scratch =
      let mi = h.0 in
      subst (λ (k : Evaluation Lvalue). CorrectFor (scene floor scratch) bound 100 (bind k (read_lvalue ground.p)) (lower_read_element a i)) (sym h.1)
      (show.comes_to (scene floor scratch) bound 100 (bind mi (λ v. bind (element_of a v) (read_lvalue ground.p))) _ (lower_read_element a i) (λ f w. sym (sequences.assoc mi (element_of a) (read_lvalue ground.p) f w))
      (show.with_more (scene floor scratch) bound (0 + 11) 100 (bind mi (λ v. bind (element_of a v) (read_lvalue ground.p))) (lower_read_element a i) (omega arith)
      (elements.correct_read_element (scene floor scratch) bound 0 a mi i h.2 (h.3 floor scratch))))

  -- ---- reads of what is called

  abbrev Same : Evaluation Lvalue → Frame → World → Type 0
  Same m f w = bind m (read_lvalue ground.p) f w ≡ bind m (read_as ground.p context.numbers true) f w

  global_called : (g i : ℕ) (f : Frame) (w : World) → pointer_number ground.p g ≡ None → read_lvalue ground.p (lvalue.Global g i) f w ≡ read_as ground.p context.numbers true (lvalue.Global g i) f w
  global_called g i f w e = ap (λ (o : Option ℕ). give (called_global ground.p context.numbers g i o f w) f w) (sym e)

  below_called : (size i : ℕ) (into : ℕ → Lvalue) (f : Frame) (w : World) → read_lvalue ground.p (into i) f w ≡ read_as ground.p context.numbers true (into i) f w → Same (element_below size i into) f w
  below_called size i into f w e = by (nat_lt i size)
    where
      by : (z : Bool) → Same (cond z (give (into i)) (stop (Trapped 2))) f w
      by true = ap (after 0) e
      by false = refl

  element_called : (a : Array) (v : ℕ) (f : Frame) (w : World) → Plain a → Same (element_of a v) f w
  element_called (array.Global g) v f w e = below_called _ v (lvalue.Global g) f w (global_called g v f w e)
  element_called (array.Local l) v f w e = below_called _ v (lvalue.Local l) f w refl
  element_called (array.SureGlobal g n) v f w e = below_called _ v (lvalue.Global g) f w (global_called g v f w e)
  element_called (array.SureLocal l n) v f w e = below_called _ v (lvalue.Local l) f w refl

  read_called : (m : Evaluation Lvalue) (x : Place) → PlaceShown m x → FormCallee (switched_by ground.p.pointers (global_at x)) (bind m (read_as ground.p context.numbers true)) (lower_read x)
  read_called m (InLocal l) h = λ floor scratch.
      show.comes_to (scene floor scratch) bound 100 (bind m (read_lvalue ground.p)) _ (lower_local l) (λ f w. subst (λ (k : Evaluation Lvalue). Same k f w) (sym h.0) refl) (read_correct m (InLocal l) h floor scratch)
  read_called m (InGlobal g) h = by (is_among g ground.p.pointers) refl
    where
      by : (z : Bool) → is_among g ground.p.pointers ≡ z → FormCallee (switched_if z g) (bind m (read_as ground.p context.numbers true)) (lower_global g)
      by true e = (ap (λ (k : Evaluation Lvalue). bind k (read_as ground.p context.numbers true)) h, e)
      by false e = λ floor scratch.
          show.comes_to (scene floor scratch) bound 100 (bind m (read_lvalue ground.p)) _ (lower_global g)
          (λ f w. subst (λ (k : Evaluation Lvalue). Same k f w) (sym h) (ap (after 0) (global_called g 0 f w (no_pointer ground.p g e)))) (read_correct m (InGlobal g) h floor scratch)
  read_called m (Element a i) h = λ floor scratch.
      let mi = h.0 in
      show.comes_to (scene floor scratch) bound 100 (bind m (read_lvalue ground.p)) _ (lower_read_element a i)
      (λ f w. subst (λ (k : Evaluation Lvalue). Same k f w) (sym h.1)
      (sequences.assoc mi (element_of a) (read_lvalue ground.p) f w ∙
      sequences.under (mi f w) (λ v. bind (element_of a v) (read_lvalue ground.p)) (λ v. bind (element_of a v) (read_as ground.p context.numbers true)) (λ v f1 w1. element_called a v f1 w1 h.4) ∙
      sym (sequences.assoc mi (element_of a) (read_as ground.p context.numbers true) f w)))
      (read_correct m (Element a i) h floor scratch)

  -- ---- stores

  set_correct : (m : Evaluation Lvalue) (x : Place) (ma : Evaluation ℕ) (la : Lowering) → PlaceShown m x → Everywhere 0 ma la → Everywhere 100 (bind m (λ at. bind ma (store_lvalue at))) (lower_set x la)
  set_correct m (InLocal l) ma la h ca floor scratch =
      subst (λ (k : Evaluation Lvalue). CorrectFor (scene floor scratch) bound 100 (bind k (λ at. bind ma (store_lvalue at))) (lower_set_local l la))
      (sym h.0) (show.comes_to (scene floor scratch) bound 100 (bind ma (store_lvalue (lvalue.Local l 0))) _ (lower_set_local l la)
      (λ f w. sym (sequences.given (lvalue.Local l 0) (λ at. bind ma (store_lvalue at)) f w))
      (show.with_more (scene floor scratch) bound (0 + 11) 100 (bind ma (store_lvalue (lvalue.Local l 0))) (lower_set_local l la) (omega arith)
      (forms.correct_set_local (scene floor scratch) bound 0 l ma la h.1 room h.2 (ca floor scratch))))
  set_correct m (InGlobal g) ma la h ca floor scratch =
      subst (λ (k : Evaluation Lvalue). CorrectFor (scene floor scratch) bound 100 (bind k (λ at. bind ma (store_lvalue at))) (lower_set_global g la)) (sym h)
      (show.comes_to (scene floor scratch) bound 100 (bind ma (store_lvalue (lvalue.Global g 0))) _ (lower_set_global g la) (λ f w. sym (sequences.given (lvalue.Global g 0) (λ at. bind ma (store_lvalue at)) f w))
      (show.with_more (scene floor scratch) bound (0 + 22) 100 (bind ma (store_lvalue (lvalue.Global g 0))) (lower_set_global g la) (omega arith) (forms.correct_set_global (scene floor scratch) bound 0 g ma la (ca floor scratch))))
  set_correct m (Element a i) ma la h ca floor scratch =
      let mi = h.0 in
      let next : Lvalue → Evaluation ℕ = λ at. bind ma (store_lvalue at) in
      subst (λ (k : Evaluation Lvalue). CorrectFor (scene floor scratch) bound 100 (bind k next) (lower_set_element a i la)) (sym h.1)
      (show.comes_to (scene floor scratch) bound 100 (bind mi (λ v. bind (element_of a v) next)) _ (lower_set_element a i la) (λ f w. sym (sequences.assoc mi (element_of a) next f w))
      (show.with_more (scene floor scratch) bound (0 + (0 + 39)) 100 (bind mi (λ v. bind (element_of a v) next)) (lower_set_element a i la) (omega arith)
      (elements.correct_set_element (scene floor scratch) bound 0 0 a mi (λ at. ma) i (λ n. la) h.2 (h.3 floor scratch) (λ n k kept le low ek lt. ca (n + 2) kept))))

  -- ---- compound assignments

  -- the new value, in its type
  abbrev Changed : ℕ → CType → CType → Evaluation ℕ → Evaluation ℕ → Evaluation ℕ
  Changed op kind t ma old = bind (bind ma (λ v. bind old (λ o. value_or_trap (binary_value op kind o v)))) (λ n. give (converted t n))

  changed : (op : ℕ) (kind t : CType) (ko : ℕ) (ma mo : Evaluation ℕ) (la lo : Lowering) (floor : ℕ) (scratch : ℕ → ℕ) → CorrectFor (scene floor scratch) bound 0 ma la → CorrectFor (scene floor scratch) bound ko mo lo →
      CorrectFor (scene floor scratch) bound (ko + 36) (Changed op kind t ma mo) (lower_changed op kind t lo la)
  changed op kind t ko ma mo la lo floor scratch ca co =
      forms.correct_one (scene floor scratch) bound (ko + 36) (ko + 22) 1 (converted_tree t) (converted t) (bind ma (λ v. bind mo (λ o. value_or_trap (binary_value op kind o v)))) (lower_binary true op kind la lo) (omega arith)
      (operators.converted_same (scene floor scratch) t) (operators.converted_nodes t) (binary_correct (scene floor scratch) bound (ko + 22) 0 ko true ma mo la lo (omega arith) ca co op kind)

  -- what is done with the place that is found
  abbrev Change : ℕ → CType → CType → Evaluation ℕ → Lvalue → Evaluation ℕ
  Change op kind t ma at = bind ma (λ v. bind (read_lvalue ground.p at) (λ old. bind (value_or_trap (binary_value op kind old v)) (λ new. store_lvalue at (converted t new))))

  change_is : (op : ℕ) (kind t : CType) (ma : Evaluation ℕ) (at : Lvalue) (f : Frame) (w : World) → bind (Changed op kind t ma (read_lvalue ground.p at)) (store_lvalue at) f w ≡ Change op kind t ma at f w
  change_is op kind t ma at f w = sequences.changed_and_stored ma (read_lvalue ground.p at) (λ o v. value_or_trap (binary_value op kind o v)) (converted t) (store_lvalue at) f w

  change_correct : (op : ℕ) (kind t : CType) (m : Evaluation Lvalue) (x : Place) (ma : Evaluation ℕ) (la : Lowering) → PlaceShown m x → Everywhere 0 ma la →
      Everywhere 100 (bind m (Change op kind t ma)) (lower_change op kind t x la)
  change_correct op kind t m (InLocal l) ma la h ca floor scratch =
      let at = lvalue.Local l 0 in
      let new = lower_changed op kind t (lower_local l) la in
      subst
      (λ (k : Evaluation Lvalue). CorrectFor (scene floor scratch) bound 100 (bind k (Change op kind t ma)) (lower_change op kind t (InLocal l) la))
      (sym h.0) (show.comes_to (scene floor scratch) bound 100 (bind (Changed op kind t ma (read_lvalue ground.p at)) (store_lvalue at)) _
      (lower_change op kind t (InLocal l) la) (λ f w. change_is op kind t ma at f w ∙ sym (sequences.given at (Change op kind t ma) f w))
      (show.with_more (scene floor scratch) bound (14 + 36 + 11) 100 (bind (Changed op kind t ma (read_lvalue ground.p at)) (store_lvalue at))
      (lower_set_local l new) (omega arith)
      (forms.correct_set_local (scene floor scratch) bound (14 + 36) l (Changed op kind t ma (read_lvalue ground.p at)) new h.1 room h.2
      (changed op kind t 14 ma (read_lvalue ground.p at) la (lower_local l) floor scratch (ca floor scratch)
      (forms.correct_local (scene floor scratch) bound l h.1 h.2)))))
  change_correct op kind t m (InGlobal g) ma la h ca floor scratch =
      let at = lvalue.Global g 0 in
      let new = lower_changed op kind t (lower_global g) la in
      subst
      (λ (k : Evaluation Lvalue). CorrectFor (scene floor scratch) bound 100 (bind k (Change op kind t ma)) (lower_change op kind t (InGlobal g) la))
      (sym h) (show.comes_to (scene floor scratch) bound 100 (bind (Changed op kind t ma (read_lvalue ground.p at)) (store_lvalue at)) _
      (lower_change op kind t (InGlobal g) la) (λ f w. change_is op kind t ma at f w ∙ sym (sequences.given at (Change op kind t ma) f w))
      (show.with_more (scene floor scratch) bound (14 + 36 + 22) 100 (bind (Changed op kind t ma (read_lvalue ground.p at)) (store_lvalue at))
      (lower_set_global g new) (omega arith)
      (forms.correct_set_global (scene floor scratch) bound (14 + 36) g (Changed op kind t ma (read_lvalue ground.p at)) new
      (changed op kind t 14 ma (read_lvalue ground.p at) la (lower_global g) floor scratch (ca floor scratch)
      (forms.correct_global (scene floor scratch) bound g)))))
  change_correct op kind t m (Element a i) ma la h ca floor scratch =
      let mi = h.0 in
      let mv : Lvalue → Evaluation ℕ = λ at. Changed op kind t ma (read_lvalue ground.p at) in
      let lv : ℕ → Lowering = λ n. lower_changed op kind t (lower_element a (n + 1)) la in
      subst (λ (k : Evaluation Lvalue). CorrectFor (scene floor scratch) bound 100 (bind k (Change op kind t ma)) (lower_change op kind t (Element a i) la)) (sym h.1)
      (show.comes_to (scene floor scratch) bound 100 (bind mi (λ v. bind (element_of a v) (λ at. bind (mv at) (store_lvalue at)))) _ (lower_change op kind t (Element a i) la)
      (λ f w. sequences.under (mi f w) (λ v. bind (element_of a v) (λ at. bind (mv at) (store_lvalue at))) (λ v. bind (element_of a v) (Change op kind t ma))
      (λ v f1 w1. sequences.under (element_of a v f1 w1) (λ at. bind (mv at) (store_lvalue at)) (Change op kind t ma) (λ at f2 w2. change_is op kind t ma at f2 w2)) ∙
      sym (sequences.assoc mi (element_of a) (Change op kind t ma) f w))
      (show.with_more (scene floor scratch) bound (0 + (25 + 36 + 39)) 100 (bind mi (λ v. bind (element_of a v) (λ at. bind (mv at) (store_lvalue at)))) (lower_change op kind t (Element a i) la) (omega arith)
      (elements.correct_set_element (scene floor scratch) bound 0 (25 + 36) a mi mv i lv h.2 (h.3 floor scratch)
      (λ n k kept le low ek lt. changed op kind t 25 ma (read_lvalue ground.p (elements.lvalue_in a k)) la (lower_element a (n + 1)) (n + 2) kept (ca (n + 2) kept)
      (elements.correct_element (scene (n + 2) kept) bound (n + 1) k a h.2 (omega (arith, low)) (omega arith) ek lt)))))

  -- ---- `++` and `--` behind a place

  abbrev After : Bool → CType → Lvalue → Evaluation ℕ
  After up t at = bind (read_lvalue ground.p at) (λ old. bind (store_lvalue at (converted t (cond up (word.add old 1) (word.sub old 1)))) (λ new. give old))

  after_correct : (up : Bool) (t : CType) (m : Evaluation Lvalue) (x : Place) → PlaceShown m x → Everywhere 100 (bind m (After up t)) (lower_after up t x)
  after_correct up t m (InLocal l) h floor scratch =
      subst (λ (k : Evaluation Lvalue). CorrectFor (scene floor scratch) bound 100 (bind k (After up t)) (lower_after up t (InLocal l))) (sym h.0)
      (show.comes_to (scene floor scratch) bound 100 (After up t (lvalue.Local l 0)) _ (lower_after up t (InLocal l))
      (λ f w. sym (sequences.given (lvalue.Local l 0) (After up t) f w))
      (elements.correct_after_local (scene floor scratch) bound up t l h.1 room h.2))
  after_correct up t m (InGlobal g) h floor scratch =
      subst (λ (k : Evaluation Lvalue). CorrectFor (scene floor scratch) bound 100 (bind k (After up t)) (lower_after up t (InGlobal g))) (sym h)
      (show.comes_to (scene floor scratch) bound 100 (After up t (lvalue.Global g 0)) _ (lower_after up t (InGlobal g))
      (λ f w. sym (sequences.given (lvalue.Global g 0) (After up t) f w)) (elements.correct_after_global (scene floor scratch) bound up t g))
  after_correct up t m (Element a i) h floor scratch =
      let mi = h.0 in
      subst (λ (k : Evaluation Lvalue). CorrectFor (scene floor scratch) bound 100 (bind k (After up t)) (lower_after up t (Element a i))) (sym h.1)
      (show.comes_to (scene floor scratch) bound 100 (bind mi (λ v. bind (element_of a v) (After up t))) _ (lower_after up t (Element a i)) (λ f w. sym (sequences.assoc mi (element_of a) (After up t) f w))
      (show.with_more (scene floor scratch) bound (0 + 60) 100 (bind mi (λ v. bind (element_of a v) (After up t))) (lower_after up t (Element a i)) (omega arith)
      (elements.correct_after_element (scene floor scratch) bound 0 up t a mi i h.2 (h.3 floor scratch))))

  -- ---- the layers

  all_correct : (es : List Expr) → Each S es → all_of (map (is_well_named ground.p ground.own ground.locals ground.sizes free) es) ≡ true → (floor : ℕ) (scratch : ℕ → ℕ) →
      AllCorrect (scene floor scratch) bound (map (denotation_of ground.p context) es) (map (λ (a : Part). a.lower) (map (part_of ground.p.pointers) es))
  all_correct [] h b floor scratch = tt
  all_correct (e ∷ es) h b floor scratch =
      let bs = and_cases (is_well_named ground.p ground.own ground.locals ground.sizes free e) (all_of (map (is_well_named ground.p ground.own ground.locals ground.sizes free) es)) b in
      ((h.0 bs.0).0 floor scratch, all_correct es h.1 bs.1 floor scratch)

  abbrev denotations : Form-F Form Target Expr → Form-F FormValue (Evaluation Lvalue) Denotation
  denotations = map-Form Form Target Expr FormValue (Evaluation Lvalue) Denotation (form_of ground.p context) (lvalue_of ground.p context) (denotation_of ground.p context)

  abbrev parts : Form-F Form Target Expr → Form-F FormPart Place Part
  parts = map-Form Form Target Expr FormPart Place Part (form_part ground.p.pointers) (place_of ground.p.pointers) (part_of ground.p.pointers)

  abbrev tests : Form-F Form Target Expr → Form-F (CType → Bool) Bool Bool
  tests =
      map-Form Form Target Expr (CType → Bool) Bool Bool (form_is_well_named ground.p ground.own ground.locals ground.sizes free)
      (target_is_well_named ground.p ground.own ground.locals ground.sizes free) (is_well_named ground.p ground.own ground.locals ground.sizes free)

  args_long : (args : List Expr) → length (map (λ (a : Part). a.lower) (map (part_of ground.p.pointers) args)) ≡ length args
  args_long args = length-map (map (part_of ground.p.pointers) args) (λ (a : Part). a.lower) ∙ length-map args (part_of ground.p.pointers)

  layer : (x : Form-F Form Target Expr) → FormChildren P Q S x → (t : CType) → names_form ground.p ground.own ground.locals ground.sizes free (tests x) t ≡ true →
      Everywhere 100 (form_value ground.p context (denotations x) false t) (lower_form_at ground.p.pointers (parts x) t)
  layer (form.Number n) h t b floor scratch = show.with_more (scene floor scratch) bound 14 100 (give n) (lower_number n) (omega arith) (forms.correct_number (scene floor scratch) bound n)
  layer (form.Read target) h t b floor scratch = read_correct (lvalue_of ground.p context target) (place_of ground.p.pointers target) (h b) floor scratch
  layer (form.Function g) h t b floor scratch =
      subst (λ (ns : List ℕ). CorrectFor (scene floor scratch) bound 100 (give (slice_index ns g)) (lower_function g)) (sym strict.numbers_are)
      (show.with_more (scene floor scratch) bound 14 100 (give (slice_index ground.setting.numbers g)) (lower_function g) (omega arith) (forms.correct_function (scene floor scratch) bound g))
  layer (form.Unary op a) h t b floor scratch =
      forms.correct_one (scene floor scratch) bound 100 0 2 (unary_tree op) (unary_value op) (value_of ground.p context a) (lower_expr ground.p.pointers a) (omega arith)
      (operators.unary_same (scene floor scratch) op) (operators.unary_nodes op) ((h b).0 floor scratch)
  layer (form.Binary op a x) h t b floor scratch =
      let bs = and_cases (is_well_named ground.p ground.own ground.locals ground.sizes free a) (is_well_named ground.p ground.own ground.locals ground.sizes free x) b in
      let ca = h.0 bs.0 in
      let cx = h.1 bs.1 in
      subst (λ k. CorrectFor (scene floor scratch) bound 100
      (bind (value_of ground.p context a)
      (λ u. bind (value_of ground.p context x) (λ v. value_or_trap (binary_value op (denotation_of ground.p context a).ctype u v))))
      (lower_binary false op k (lower_expr ground.p.pointers a) (lower_expr ground.p.pointers x))) (sym ca.1)
      (binary_correct (scene floor scratch) bound 100 0 0 false (value_of ground.p context a) (value_of ground.p context x)
      (lower_expr ground.p.pointers a) (lower_expr ground.p.pointers x) (omega arith) (ca.0 floor scratch) (cx.0 floor scratch) op
      (denotation_of ground.p context a).ctype)
  layer (form.Both a x) h t b floor scratch =
      let bs = and_cases (is_well_named ground.p ground.own ground.locals ground.sizes free a) (is_well_named ground.p ground.own ground.locals ground.sizes free x) b in
      control.correct_both (scene floor scratch) bound (value_of ground.p context a) (value_of ground.p context x) (lower_expr ground.p.pointers a) (lower_expr ground.p.pointers x) ((h.0 bs.0).0 floor scratch) ((h.1 bs.1).0 floor scratch)
  layer (form.Either a x) h t b floor scratch =
      let bs = and_cases (is_well_named ground.p ground.own ground.locals ground.sizes free a) (is_well_named ground.p ground.own ground.locals ground.sizes free x) b in
      control.correct_either (scene floor scratch) bound (value_of ground.p context a) (value_of ground.p context x) (lower_expr ground.p.pointers a) (lower_expr ground.p.pointers x) ((h.0 bs.0).0 floor scratch) ((h.1 bs.1).0 floor scratch)
  layer (form.Choose x y z) h t b floor scratch =
      let bs = and_cases (is_well_named ground.p ground.own ground.locals ground.sizes free x) (is_well_named ground.p ground.own ground.locals ground.sizes free y && is_well_named ground.p ground.own ground.locals ground.sizes free z) b in
      let cs = and_cases (is_well_named ground.p ground.own ground.locals ground.sizes free y) (is_well_named ground.p ground.own ground.locals ground.sizes free z) bs.1 in
      control.correct_choice (scene floor scratch) bound (value_of ground.p context x) (value_of ground.p context y) (value_of ground.p context z)
      (lower_expr ground.p.pointers x) (lower_expr ground.p.pointers y) (lower_expr ground.p.pointers z) ((h.0 bs.0).0 floor scratch)
      ((h.1 cs.0).0 floor scratch) ((h.2 cs.1).0 floor scratch)
  layer (form.Convert a) h t b floor scratch =
      forms.correct_one (scene floor scratch) bound 100 0 1 (converted_tree t) (converted t) (value_of ground.p context a) (lower_expr ground.p.pointers a) (omega arith)
      (operators.converted_same (scene floor scratch) t) (operators.converted_nodes t) ((h b).0 floor scratch)
  layer (form.Set target a) h t b floor scratch =
      let bs = and_cases (target_is_well_named ground.p ground.own ground.locals ground.sizes free target) (is_well_named ground.p ground.own ground.locals ground.sizes free a) b in
      set_correct (lvalue_of ground.p context target) (place_of ground.p.pointers target) (value_of ground.p context a) (lower_expr ground.p.pointers a) (h.0 bs.0) (h.1 bs.1).0 floor scratch
  layer (form.Change op kind target a) h t b floor scratch =
      let bs = and_cases (target_is_well_named ground.p ground.own ground.locals ground.sizes free target) (is_well_named ground.p ground.own ground.locals ground.sizes free a) b in
      change_correct op kind t (lvalue_of ground.p context target) (place_of ground.p.pointers target) (value_of ground.p context a) (lower_expr ground.p.pointers a) (h.0 bs.0) (h.1 bs.1).0 floor scratch
  layer (form.After up target) h t b floor scratch = after_correct up t (lvalue_of ground.p context target) (place_of ground.p.pointers target) (h b) floor scratch
  layer (form.Direct g args) h t b floor scratch =
      let bs = and_cases (is_callable ground.p g (length args) (is_void t))
      (all_of (map (is_well_named ground.p ground.own ground.locals ground.sizes free) args))
      (sym (ap (λ k. is_callable ground.p g k (is_void t) &&
      all_of (map (is_well_named ground.p ground.own ground.locals ground.sizes free) args))
      (length-map args (is_well_named ground.p ground.own ground.locals ground.sizes free))) ∙
      b) in
      arguments.correct_call (scene floor scratch) bound context (is_void t) g (map (denotation_of ground.p context) args) (map (λ (a : Part). a.lower) (map (part_of ground.p.pointers) args))
      (subst (λ k. is_callable ground.p g k (is_void t) ≡ true) (sym (args_long args)) bs.0) calls (all_correct args h bs.1 floor scratch)
  layer (form.Through args callee) h t b floor scratch =
      let bs = and_cases (all_of (map (is_well_named ground.p ground.own ground.locals ground.sizes free) args)) (is_well_named ground.p ground.own ground.locals ground.sizes free callee) b in
      by (switched_by ground.p.pointers (part_of ground.p.pointers callee).reads) (h.1 bs.1).2 (all_correct args h.0 bs.0 floor scratch)
    where
      -- what is called, as a value
      called : Denotation
      called = record { ctype = t; value = callee_of ground.p context callee; callee = callee_of ground.p context callee }

      asked : List Denotation
      asked = map (denotation_of ground.p context) args

      lowered : List Lowering
      lowered = map (λ (a : Part). a.lower) (map (part_of ground.p.pointers) args)

      by : (o : Option ℕ) → ExprCallee o (callee_of ground.p context callee) (lower_expr ground.p.pointers callee) → AllCorrect (scene floor scratch) bound asked lowered →
          CorrectFor (scene floor scratch) bound 100 (bind (values_of asked) (λ vs. bind (callee_of ground.p context callee) (λ v. call_through context t v vs))) (lower_called o (is_void t) lowered (lower_expr ground.p.pointers callee))
      by None shown all = arguments.correct_through (scene floor scratch) bound context strict t asked called lowered (lower_expr ground.p.pointers callee) calls all (shown floor scratch)
      by (Some g) shown all =
          subst (λ (k : Evaluation ℕ). CorrectFor (scene floor scratch) bound 100 (bind (values_of asked) (λ vs. bind k (λ v. call_through context t v vs))) (lower_switched (is_void t) lowered g)) (sym shown.0)
          (arguments.correct_switched (scene floor scratch) bound context strict t asked lowered g calls all (λ f w. switched g f w shown.1))
  layer (form.Known k args) h t b floor scratch =
      let asked = map (denotation_of ground.p context) args in
      let lowered = map (λ (a : Part). a.lower) (map (part_of ground.p.pointers) args) in
      subst (λ (ns : List ℕ). CorrectFor (scene floor scratch) bound 100 (bind (values_of asked) (known_value ground.p ns k)) (lower_known k lowered)) (sym strict.numbers_are)
      (arguments.correct_known (scene floor scratch) bound k asked lowered (knows k) (all_correct args h b floor scratch))

  -- what a form is as what is called
  callee_layer : (x : Form-F Form Target Expr) → FormChildren P Q S x → (t : CType) → names_form ground.p ground.own ground.locals ground.sizes free (tests x) t ≡ true →
      Everywhere 100 (form_value ground.p context (denotations x) false t) (lower_form_at ground.p.pointers (parts x) t) →
      FormCallee (switched_by ground.p.pointers (form_reads ground.p.pointers (parts x))) (form_value ground.p context (denotations x) true t) (lower_form_at ground.p.pointers (parts x) t)
  callee_layer (form.Number n) h t b right = right
  callee_layer (form.Read target) h t b right = read_called (lvalue_of ground.p context target) (place_of ground.p.pointers target) (h b)
  callee_layer (form.Function g) h t b right = right
  callee_layer (form.Unary op a) h t b right = right
  callee_layer (form.Binary op a x) h t b right = right
  callee_layer (form.Both a x) h t b right = right
  callee_layer (form.Either a x) h t b right = right
  callee_layer (form.Choose x y z) h t b right = right
  callee_layer (form.Convert a) h t b right = right
  callee_layer (form.Set target a) h t b right = right
  callee_layer (form.Change op kind target a) h t b right = right
  callee_layer (form.After up target) h t b right = right
  callee_layer (form.Direct g args) h t b right = right
  callee_layer (form.Through args callee) h t b right = right
  callee_layer (form.Known k args) h t b right = right

  form_step : (x : Form-F Form Target Expr) → FormChildren P Q S x → P (roll-Form x)
  form_step x h t b =
      let named = sym (ap (λ (q : CType → Bool). q t)
      (fold-roll-Form (CType → Bool) Bool Bool (names_form ground.p ground.own ground.locals ground.sizes free)
      (names_target ground.p ground.own ground.locals ground.sizes free)
      (names_layer ground.p ground.own ground.locals ground.sizes free) x)) ∙
      b in
      let right : Everywhere 100 (form_value ground.p context (denotations x) false t) (lower_form_at ground.p.pointers (parts x) t) = layer x h t named in
      subst (λ (k : FormValue). FormShown k (form_part ground.p.pointers (roll-Form x)) t) (sym (fold-roll-Form FormValue (Evaluation Lvalue) Denotation (form_value ground.p context) target_lvalue expr_denotation x))
      (subst (λ (l : FormPart). FormShown (form_value ground.p context (denotations x)) l t) (sym (fold-roll-Form FormPart Place Part (lower_form ground.p.pointers) place_of_layer (lower_layer ground.p.pointers) x))
      (right, callee_layer x h t named right))

  abbrev found_places : Target-F Form Target Expr → Target-F FormValue (Evaluation Lvalue) Denotation
  found_places = map-Target Form Target Expr FormValue (Evaluation Lvalue) Denotation (form_of ground.p context) (lvalue_of ground.p context) (denotation_of ground.p context)

  abbrev lowered_places : Target-F Form Target Expr → Target-F FormPart Place Part
  lowered_places = map-Target Form Target Expr FormPart Place Part (form_part ground.p.pointers) (place_of ground.p.pointers) (part_of ground.p.pointers)

  abbrev tested_places : Target-F Form Target Expr → Target-F (CType → Bool) Bool Bool
  tested_places =
      map-Target Form Target Expr (CType → Bool) Bool Bool (form_is_well_named ground.p ground.own ground.locals ground.sizes free)
      (target_is_well_named ground.p ground.own ground.locals ground.sizes free) (is_well_named ground.p ground.own ground.locals ground.sizes free)

  target_layer : (x : Target-F Form Target Expr) → TargetChildren P Q S x → names_target ground.p ground.own ground.locals ground.sizes free (tested_places x) ≡ true →
      PlaceShown (target_lvalue (found_places x)) (place_of_layer (lowered_places x))
  target_layer (form.Global g) h b = refl
  target_layer (form.Local l) h b =
      let bs = and_cases (nat_lt l ground.locals) (free l && is_scalar (ground.sizes l)) b in
      let cs = and_cases (free l) (is_scalar (ground.sizes l)) bs.1 in
      (refl, ltb-true l ground.locals bs.0, (scalar_is_none (ground.sizes l) cs.1, frees l cs.0))
  target_layer (form.GlobalAt g e) h b =
      let bs = and_cases (not (is_own_switch ground.p (slice_get ground.p.functions ground.own) g)) (not (is_among g ground.p.pointers) && is_well_named ground.p ground.own ground.locals ground.sizes free e) b in
      let cs = and_cases (not (is_among g ground.p.pointers)) (is_well_named ground.p ground.own ground.locals ground.sizes free e) bs.1 in (
        value_of ground.p context e,
        refl,
        (λ bindings. no_switch ground.p ground.own g (slice_get ground.p.functions ground.own) bindings (not-true (is_own_switch ground.p (slice_get ground.p.functions ground.own) g) bs.0)),
        (h cs.1).0,
        no_pointer ground.p g (not-true (is_among g ground.p.pointers) cs.0),
      )
  target_layer (form.LocalAt l e) h b =
      let bs = and_cases (nat_lt l ground.locals) (free l && (not (is_scalar (ground.sizes l)) && is_well_named ground.p ground.own ground.locals ground.sizes free e)) b in
      let ds = and_cases (free l) (not (is_scalar (ground.sizes l)) && is_well_named ground.p ground.own ground.locals ground.sizes free e) bs.1 in
      let cs = and_cases (not (is_scalar (ground.sizes l))) (is_well_named ground.p ground.own ground.locals ground.sizes free e) ds.1 in
      (value_of ground.p context e, refl, (ltb-true l ground.locals bs.0, (is_some (ground.sizes l) cs.0, frees l ds.0)), (h cs.1).0, tt)

  target_step : (x : Target-F Form Target Expr) → TargetChildren P Q S x → Q (roll-Target x)
  target_step x h b =
      subst (λ (k : Evaluation Lvalue). PlaceShown k (place_of ground.p.pointers (roll-Target x)))
      (sym (fold-roll-Target FormValue (Evaluation Lvalue) Denotation (form_value ground.p context) target_lvalue expr_denotation x))
      (subst (λ (l : Place). PlaceShown (target_lvalue (found_places x)) l)
      (sym (fold-roll-Target FormPart Place Part (lower_form ground.p.pointers) place_of_layer (lower_layer ground.p.pointers) x))
      (target_layer x h (sym (fold-roll-Target (CType → Bool) Bool Bool (names_form ground.p ground.own ground.locals ground.sizes free)
      (names_target ground.p ground.own ground.locals ground.sizes free)
      (names_layer ground.p ground.own ground.locals ground.sizes free) x) ∙
      b)))

  -- each node is counted
  counted_callee : (o : Option ℕ) (m : Evaluation ℕ) (l : Lowering) → FormCallee o m l → ExprCallee o (counted 1 m) l
  counted_callee None m l h = λ floor scratch. show.counted_once (scene floor scratch) bound m l (h floor scratch)
  counted_callee (Some g) m l h = (ap (counted 1) h.0, h.1)

  expr_step : (x : Expr-F Form Target Expr) → P x.what → S (roll-Expr x)
  expr_step x h b =
      let meant = fold-roll-Expr FormValue (Evaluation Lvalue) Denotation (form_value ground.p context) target_lvalue expr_denotation x in
      let part = fold-roll-Expr FormPart Place Part (lower_form ground.p.pointers) place_of_layer (lower_layer ground.p.pointers) x in
      let named = fold-roll-Expr (CType → Bool) Bool Bool (names_form ground.p ground.own ground.locals ground.sizes free)
      (names_target ground.p ground.own ground.locals ground.sizes free) (names_layer ground.p ground.own ground.locals ground.sizes free) x in
      let shown = h x.ctype (sym named ∙ b) in
      let value = form_of ground.p context x.what in
      let form = form_part ground.p.pointers x.what in
      subst (λ (k : Denotation). ExprShown k (part_of ground.p.pointers (roll-Expr x))) (sym meant)
      (subst (λ (l : Part). ExprShown (record { ctype = x.ctype; value = counted 1 (value false x.ctype); callee = counted 1 (value true x.ctype) }) l) (sym part) (
        (λ floor scratch. show.counted_once (scene floor scratch) bound (value false x.ctype) (form.lower x.ctype) (shown.0 floor scratch)),
        refl,
        counted_callee (switched_by ground.p.pointers form.reads) (value true x.ctype) (form.lower x.ctype) shown.1,
      ))

  -- Every expression that names only what there is is lowered correctly.
  pub expr_correct : (e : Expr) → is_well_named ground.p ground.own ground.locals ground.sizes free e ≡ true → Everywhere 0 (value_of ground.p context e) (lower_expr ground.p.pointers e)
  expr_correct e b = (expr_ind P Q S form_step target_step expr_step e b).0
