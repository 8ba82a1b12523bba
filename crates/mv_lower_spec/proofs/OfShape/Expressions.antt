-- Lowered expressions are made of code that obeys the rules, with bounds on units and tree nodes for each node of the source.
use Rattle.std.proofs.Common.{◌≡◌, ℕ, ◌+◌, ◌*◌, ◌<◌, ◌≤◌, Bool, true, false, List, [], ◌∷◌, ◌++◌, map, length, Option, Some, None, refl, sym, ◌∙◌, ap, subst, arith}
use Rattle.std.specs.Prelude.{◌&&◌, ◌||◌, not, nat_lt, nat_eq, sum}
use Rattle.std.proofs.lemmas.Bool.{ltb-true, lt-ltb, and_from, or_left, or_right}
use Rattle.std.proofs.lemmas.List.{length-map}
use Rattle.mv_ir.specs.declared.tree.Tree.{Tree}
use Rattle.mv_ir.specs.declared.stm.Array.{Array}
use Rattle.mv_ir.specs.declared.stm.Array.TheVariants as array
use Rattle.mv_ir.specs.declared.stm.Stm.{Stm}
use Rattle.mv_ir.specs.Measures.{array_read}
use Rattle.mv_ir.specs.WellFormed.{known_arguments}
use Rattle.mv_ir.proofs.Induction.{Each, each_append}
use Rattle.mv_ir.proofs.Keeping.{map_append}
use Rattle.mv_ast.specs.declared.program.CType.{CType}
use Rattle.mv_ast.specs.declared.program.Expr.{Expr}
use Rattle.mv_ast.specs.declared.program.Form.{Form, Form-F}
use Rattle.mv_ast.specs.declared.program.Form.TheOpen as form
use Rattle.mv_ast.specs.declared.program.Target.{Target, Target-F}
use Rattle.mv_num.specs.Lists.{is_among}
use Rattle.mv_ast.specs.Counts.{form_sum, target_sum, one_more_than, inner_calls, expr_nodes}
use Rattle.mv_lower_spec.specs.Lowered.{Lowering, lower_number, lower_function, lower_one, lower_through, lower_switched, lower_both, lower_either, lower_choice, lower_local, lower_global, lower_element, temp}
use Rattle.mv_lower_spec.specs.Lower.{FormPart, Part, Place, global_at, switched_if, switched_by, lower_called, InLocal, InGlobal, Element, lower_read, lower_set, lower_binary, lower_changed, lower_change, next_tree, lower_after, place_of, part_of, lower_expr, unary_tree, converted_tree}
use Rattle.mv_source_forms.specs.Lists.{all_of}
use Rattle.mv_source_forms.specs.Names.{is_scalar, is_void}
use Rattle.mv_source_forms.proofs.ExpressionFolds.{ExprFolds, expr_fold, expr_folds, along_exprs}
use Rattle.mv_source_forms.proofs.ExpressionInduction.{FormChildren, TargetChildren}
use Rattle.mv_lower_spec.proofs.OfShape.Folds.{limited_exprs, lowers}
use Rattle.mv_lower_spec.proofs.OfShape.Asked.{Globals, Access, local_access, asking}
use Rattle.mv_lower_spec.specs.Shape.Calls.{form_weights}
use Rattle.mv_lower_spec.proofs.OfShape.Paid.{paying}
use Rattle.mv_lower_spec.proofs.OfShape.Rules.{Allowed, Rules, AllMay}
use Rattle.mv_lower_spec.proofs.OfShape.Plain.{covers_none}
use Rattle.mv_lower_spec.proofs.OfShape.Given as given
use Rattle.mv_lower_spec.proofs.OfShape.Operators as operators
use Rattle.mv_lower_spec.proofs.OfShape.Operators.{on_unary, on_converted, on_next, temp_low, global_low}
use Rattle.mv_num.proofs.Booleans.{and_cases}
use Rattle.mv_num.proofs.Lists.{sum_cons, sum_append}

-- ---- what is allowed

-- a temporary of a scalar local, or a free one
abbrev pub is_used : ℕ → (ℕ → Option ℕ) → ℕ → ℕ → Bool
is_used locals sizes room t = (nat_lt t locals && is_scalar (sizes t)) || (not (nat_lt t locals) && nat_lt t room)

abbrev pub is_there : Globals → ℕ → Array → Bool
is_there globals locals (array.Global g) = globals.there g
is_there globals locals (array.Local l) = nat_lt l locals
is_there globals locals (array.SureGlobal g n) = globals.there g
is_there globals locals (array.SureLocal l n) = nat_lt l locals

abbrev pub allowed : Globals → ℕ → (ℕ → Option ℕ) → ℕ → (ℕ → ℕ) → ℕ → (ℕ → Bool) → Allowed
allowed globals locals sizes room direct through declared = record {
  temps = is_used locals sizes room;
  declared = declared;
  scalars = globals.scalars;
  arrays = globals.arrays;
  named = is_there globals locals;
  direct = direct;
  through = through;
}

pub scratch_used : (locals : ℕ) (sizes : ℕ → Option ℕ) (room t : ℕ) → locals ≤ t → t < room → is_used locals sizes room t ≡ true
scratch_used locals sizes room t le lt =
    or_right (nat_lt t locals && is_scalar (sizes t)) (not (nat_lt t locals) && nat_lt t room) (and_from (not (nat_lt t locals)) (nat_lt t room) (by (nat_lt t locals) refl) (lt-ltb t room lt))
  where
    by : (z : Bool) → nat_lt t locals ≡ z → not z ≡ true
    by true e = let lt' = ltb-true t locals e in absurd (omega (arith, le, lt'))
    by false e = refl

pub local_used : (locals : ℕ) (sizes : ℕ → Option ℕ) (room l : ℕ) → nat_lt l locals ≡ true → is_scalar (sizes l) ≡ true → is_used locals sizes room l ≡ true
local_used locals sizes room l h k = or_left (nat_lt l locals && is_scalar (sizes l)) (not (nat_lt l locals) && nat_lt l room) (and_from (nat_lt l locals) (is_scalar (sizes l)) h k)

module _ (globals : Globals) (locals : ℕ) (sizes : ℕ → Option ℕ) (room : ℕ) (direct : ℕ → ℕ) (through : ℕ) (declared : ℕ → Bool)
    (B : ℕ → ℕ → ℕ → ℕ → List Tree → List Stm → List Tree → Type 0) (rules : Rules (allowed globals locals sizes room direct through declared) B) where
  abbrev a : Allowed
  a = allowed globals locals sizes room direct through declared

  abbrev scratch : (t : ℕ) → locals ≤ t → t < room → a.temps t ≡ true
  scratch = scratch_used locals sizes room

  open asking globals locals sizes declared use {within, place}
  open paying locals direct through B use {weight}

  abbrev Gives : ℕ → ℕ → ℕ → ℕ → Lowering → Type 0
  Gives = given.Gives a B rules locals room scratch

  -- A lowering that so many nodes pay for. It leaves some units and nodes, with which its value is put away and its parent pays.
  pub record Paid (n k : ℕ) (l : Lowering) : Type 0 where
    pub units : ℕ
    pub words : ℕ
    pub nodes : ℕ
    pub gives : Gives units words nodes k l
    pub few_units : units + 2 ≤ 6 * n
    pub few_nodes : nodes + 3 ≤ 9 * n
    pub few_words : words + 2 * nodes + 17 ≤ 40 * n

  pub record AllPaid (n k : ℕ) (ls : List Lowering) : Type 0 where
    pub units : ℕ
    pub words : ℕ
    pub nodes : ℕ
    pub give : given.AllGive a B rules locals room scratch units words nodes k ls
    pub few_units : units ≤ 6 * n
    pub few_nodes : nodes ≤ 9 * n
    pub few_words : words + 2 * nodes ≤ 40 * n

  -- ---- places

  pub record LocalPaid (l : ℕ) (access : Access) (k : ℕ) : Type 0 where
    pub free : k ≡ 0
    pub read : access.read ≡ true → a.declared l ≡ true
    pub used : access.read ≡ true → a.temps l ≡ true
    pub stored : access.stored ≡ true → a.temps l ≡ true

  pub record GlobalPaid (g : ℕ) (access : Access) (k : ℕ) : Type 0 where
    pub free : k ≡ 0
    pub read : access.read ≡ true → a.scalars g ≡ true
    pub stored : access.stored ≡ true → a.named (array.Global g) ≡ true

  pub record ElementRead (r : Array) (n k : ℕ) (i : Lowering) : Type 0 where
    pub named : a.named r ≡ true
    pub read : AllMay a.arrays (array_read r)
    pub index : Paid n k i

  pub record ElementStored (r : Array) (n k : ℕ) (i : Lowering) : Type 0 where
    pub named : a.named r ≡ true
    pub index : Paid n k i

  pub record ElementPaid (r : Array) (i : Lowering) (access : Access) (n k : ℕ) : Type 0 where
    pub read : access.read ≡ true → ElementRead r n k i
    pub stored : access.stored ≡ true → ElementStored r n k i

  abbrev pub PlacePaid : Place → Access → ℕ → ℕ → Type 0
  PlacePaid (InLocal l) access n k = LocalPaid l access k
  PlacePaid (InGlobal g) access n k = GlobalPaid g access k
  PlacePaid (Element r i) access n k = ElementPaid r i access n k

  read_paid : (x : Place) (access : Access) (n k : ℕ) → PlacePaid x access n k → access.read ≡ true → Paid (1 + n) k (lower_read x)
  read_paid (InLocal l) access n k h e = record {
    units = 0;
    words = 0;
    nodes = 1;
    gives = subst (λ m. Gives 0 0 1 m (lower_local l)) (sym h.free) (given.gives_local a B rules locals room scratch l (h.read e) (h.used e));
    few_units = omega arith;
    few_nodes = omega arith;
    few_words = omega arith;
  }
  read_paid (InGlobal g) access n k h e = record {
    units = 0;
    words = 0;
    nodes = 1;
    gives = subst (λ m. Gives 0 0 1 m (lower_global g)) (sym h.free) (given.gives_global a B rules locals room scratch g (h.read e));
    few_units = omega arith;
    few_nodes = omega arith;
    few_words = omega arith;
  }
  read_paid (Element r i) access n k h e =
      let el = h.read e in
      let index = el.index in
      record {
        units = index.units + 1;
        words = index.words + 9;
        nodes = index.nodes + 1;
        gives = given.gives_read_element a B rules locals room scratch r i el.named el.read index.gives;
        few_units = omega (arith, index.few_units);
        few_nodes = omega (arith, index.few_nodes);
        few_words = omega (arith, index.few_words);
      }

  same_weight : {s w t k k' : ℕ} (l : Lowering) → k ≡ k' → Gives s w t k l → Gives s w t k' l
  same_weight {s} {w} {t} l e h = subst (λ m. Gives s w t m l) e h

  set_paid : (x : Place) (access : Access) (n k n' k' : ℕ) (v : Lowering) → PlacePaid x access n k → access.stored ≡ true → Paid n' k' v → Paid (1 + (n + n')) (k + k') (lower_set x v)
  set_paid (InLocal l) access n k n' k' v h e p = record {
    units = p.units + 1;
    words = p.words + 1;
    nodes = p.nodes + 1;
    gives = same_weight (lower_set (InLocal l) v) (omega (arith, h.free)) (given.gives_set_local a B rules locals room scratch l v (h.stored e) p.gives);
    few_units = omega (arith, p.few_units);
    few_nodes = omega (arith, p.few_nodes);
    few_words = omega (arith, p.few_words);
  }
  set_paid (InGlobal g) access n k n' k' v h e p = record {
    units = p.units + 2;
    words = p.words + 3;
    nodes = p.nodes + 2;
    gives = same_weight (lower_set (InGlobal g) v) (omega (arith, h.free)) (given.gives_set_global a B rules locals room scratch g v (h.stored e) p.gives);
    few_units = omega (arith, p.few_units);
    few_nodes = omega (arith, p.few_nodes);
    few_words = omega (arith, p.few_words);
  }
  set_paid (Element r i) access n k n' k' v h e p =
      let el = h.stored e in
      let index = el.index in
      record {
        units = index.units + p.units + 4;
        words = index.words + p.words + 14;
        nodes = index.nodes + p.nodes + 5;
        gives = λ m le top. given.gives_set_element a B rules locals room scratch r i v m el.named index.gives le top
            (rules.weaken (omega arith) (omega arith) (omega arith) (omega arith) (rules.chain (rules.retree (covers_none (temp (m + 1) ∷ []))) (p.gives (m + 2) (omega (arith, le)) (omega (arith, top)))));
        few_units = omega (arith, index.few_units, p.few_units);
        few_nodes = omega (arith, index.few_nodes, p.few_nodes);
        few_words = omega (arith, index.few_words, p.few_words);
      }

  change_paid : (op : ℕ) (kind c : CType) (x : Place) (access : Access) (n k n' k' : ℕ) (v : Lowering) → PlacePaid x access n k → access.read ≡ true → access.stored ≡ true → Paid n' k' v →
      Paid (1 + (n + n')) (k + k') (lower_change op kind c x v)
  change_paid op kind c (InLocal l) access n k n' k' v h e d p = record {
    units = p.units + 0 + 2 + 1;
    words = p.words + 0 + 5 + 1;
    nodes = p.nodes + 1 + 5 + 1;
    gives = same_weight (lower_change op kind c (InLocal l) v) (omega (arith, h.free))
        (given.gives_set_local a B rules locals room scratch l _ (h.stored d)
        (operators.gives_changed a B rules locals room scratch op kind c (lower_local l) v
        (given.second_stays a B rules locals room scratch (lower_local l) (λ m. temp_low l)
        (given.gives_local a B rules locals room scratch l (h.read e) (h.used e))) p.gives));
    few_units = omega (arith, p.few_units);
    few_nodes = omega (arith, p.few_nodes);
    few_words = omega (arith, p.few_words);
  }
  change_paid op kind c (InGlobal g) access n k n' k' v h e d p = record {
    units = p.units + 0 + 2 + 2;
    words = p.words + 0 + 5 + 3;
    nodes = p.nodes + 1 + 5 + 2;
    gives = same_weight (lower_change op kind c (InGlobal g) v) (omega (arith, h.free))
        (given.gives_set_global a B rules locals room scratch g _ (h.stored d)
        (operators.gives_changed a B rules locals room scratch op kind c (lower_global g) v
        (given.second_stays a B rules locals room scratch (lower_global g) (λ m. global_low g)
        (given.gives_global a B rules locals room scratch g (h.read e))) p.gives));
    few_units = omega (arith, p.few_units);
    few_nodes = omega (arith, p.few_nodes);
    few_words = omega (arith, p.few_words);
  }
  change_paid op kind c (Element r i) access n k n' k' v h e d p =
      let el = h.read e in
      let index = el.index in
      record {
        units = index.units + (p.units + 1 + 2) + 4;
        words = index.words + (p.words + 9 + 5) + 14;
        nodes = index.nodes + (p.nodes + 1 + 5) + 5;
        gives = λ m le top. rules.weaken (omega arith) (omega arith) (omega arith) (omega arith)
            (given.gives_set_element a B rules locals room scratch r i (lower_changed op kind c (lower_element r (m + 1)) v) m el.named index.gives le
            top (operators.gives_changed a B rules locals room scratch op kind c (lower_element r (m + 1)) v
            (given.second_stays a B rules locals room scratch (lower_element r (m + 1)) temp_low
            (given.gives_element a B rules locals room scratch r (m + 1) el.named el.read)) p.gives (m + 2) (omega (arith, le))
            (omega (arith, top))));
        few_units = omega (arith, index.few_units, p.few_units);
        few_nodes = omega (arith, index.few_nodes, p.few_nodes);
        few_words = omega (arith, index.few_words, p.few_words);
      }

  after_paid : (up : Bool) (c : CType) (x : Place) (access : Access) (n k : ℕ) → PlacePaid x access n k → access.read ≡ true → access.stored ≡ true → Paid (1 + n) k (lower_after up c x)
  after_paid up c (InLocal l) access n k h e d = record {
    units = 2;
    words = 2;
    nodes = 6;
    gives = same_weight (lower_after up c (InLocal l)) (sym h.free)
        (λ m le top. given.gives_local_after a B rules locals room scratch l (λ i. next_tree up c (temp i)) (h.read e) (h.used e) (on_next up c) m le (omega (arith, top)));
    few_units = omega arith;
    few_nodes = omega arith;
    few_words = omega arith;
  }
  after_paid up c (InGlobal g) access n k h e d = record {
    units = 2;
    words = 3;
    nodes = 6;
    gives = same_weight (lower_after up c (InGlobal g)) (sym h.free)
        (λ m le top. given.gives_global_after a B rules locals room scratch g (λ i. next_tree up c (temp i)) (h.read e) (h.stored d) (on_next up c) m le (omega (arith, top)));
    few_units = omega arith;
    few_nodes = omega arith;
    few_words = omega arith;
  }
  after_paid up c (Element r i) access n k h e d =
      let el = h.read e in
      let index = el.index in
      record {
        units = index.units + 3;
        words = index.words + 18;
        nodes = index.nodes + 7;
        gives = λ m le top. given.gives_element_after a B rules locals room scratch r i (λ i. next_tree up c (temp i)) el.named el.read (on_next up c) index.gives m le top;
        few_units = omega (arith, index.few_units);
        few_nodes = omega (arith, index.few_nodes);
        few_words = omega (arith, index.few_words);
      }

  -- ---- the fold

  -- what each is lowered to, whether it is within the limits, and how many nodes and calls it has
  abbrev counted : ExprFolds ((FormPart × Bool) × (ℕ × ℕ)) ((Place × Access) × (ℕ × ℕ)) ((Part × Bool) × (ℕ × ℕ))
  counted = expr_folds (limited_exprs globals locals sizes declared) (expr_folds (expr_fold form_sum target_sum one_more_than) (expr_fold (form_weights direct through) target_sum inner_calls))

  -- where it is the read of a global scalar, that may be read, and it has no calls
  abbrev ReadsScalar : Option ℕ → ℕ → Type 0
  ReadsScalar o k = (g : ℕ) → o ≡ Some g → (globals.scalars g ≡ true) × (k ≡ 0)

  abbrev FormPays : (FormPart × Bool) × (ℕ × ℕ) → Type 0
  FormPays v = v.0.1 ≡ true → ((c : CType) → Paid (1 + v.1.0) v.1.1 (v.0.0.lower c)) × ReadsScalar v.0.0.reads v.1.1

  abbrev PlacePays : (Place × Access) × (ℕ × ℕ) → Type 0
  PlacePays v = PlacePaid v.0.0 v.0.1 v.1.0 v.1.1

  abbrev Pays : (Part × Bool) × (ℕ × ℕ) → Type 0
  Pays v = v.0.1 ≡ true → Paid v.1.0 v.1.1 v.0.0.lower × ReadsScalar v.0.0.reads v.1.1

  abbrev P : Form → Type 0
  P f = FormPays (counted.form f)

  abbrev Q : Target → Type 0
  Q x = PlacePays (counted.target x)

  abbrev S : Expr → Type 0
  S e = Pays (counted.expr e)

  all_paid : (es : List Expr) → Each S es → all_of (map within es) ≡ true → AllPaid (sum (map expr_nodes es)) (sum (map weight es)) (map (λ (x : Part). x.lower) (map (part_of globals.pointers) es))
  all_paid [] h b = record { units = 0; words = 0; nodes = 0; give = given.none_give a B rules locals room scratch; few_units = omega arith; few_nodes = omega arith; few_words = omega arith }
  all_paid (e ∷ es) h b =
      let bs = and_cases (within e) (all_of (map within es)) b in
      let x = (h.0 bs.0).0 in
      let xs = all_paid es h.1 bs.1 in
      let n = sum_cons (expr_nodes e) (map expr_nodes es) in
      record {
        units = x.units + 1 + xs.units;
        words = x.words + 1 + xs.words;
        nodes = x.nodes + 1 + xs.nodes;
        give = subst (λ m. given.AllGive a B rules locals room scratch (x.units + 1 + xs.units) (x.words + 1 + xs.words) (x.nodes + 1 + xs.nodes) m
            (map (λ (x : Part). x.lower) (map (part_of globals.pointers) (e ∷ es))))
            (sym (sum_cons (weight e) (map weight es)))
            (given.more_give a B rules locals room scratch (lower_expr globals.pointers e)
            (map (λ (x : Part). x.lower) (map (part_of globals.pointers) es)) x.gives xs.give);
        few_units = omega (arith, x.few_units, xs.few_units, n);
        few_nodes = omega (arith, x.few_nodes, xs.few_nodes, n);
        few_words = omega (arith, x.few_words, xs.few_words, n);
      }

  -- of so many nodes or more, and of so much weight
  paid_as : {n k n' k' : ℕ} (l : Lowering) → n ≤ n' → k ≡ k' → Paid n k l → Paid n' k' l
  paid_as l le e p =
      record {
        units = p.units;
        words = p.words;
        nodes = p.nodes;
        gives = same_weight l e p.gives;
        few_units = omega (arith, le, p.few_units);
        few_nodes = omega (arith, le, p.few_nodes);
        few_words = omega (arith, le, p.few_words);
      }

  one_paid : {n k : ℕ} (f : Tree → Tree) (x : Lowering) → given.OnOne f → Paid n k x → Paid (1 + n) k (lower_one f x)
  one_paid f x on p = record {
    units = p.units + 1;
    words = p.words + 1;
    nodes = p.nodes + 1 + 2;
    gives = given.gives_one a B rules locals room scratch f x on p.gives;
    few_units = omega (arith, p.few_units);
    few_nodes = omega (arith, p.few_nodes);
    few_words = omega (arith, p.few_words);
  }

  binary_paid : {n k n' k' : ℕ} (op : ℕ) (c : CType) (x y : Lowering) → Paid n k x → Paid n' k' y → Paid (1 + (n + n')) (k + k') (lower_binary false op c x y)
  binary_paid op c x y p q = record {
    units = p.units + (q.units + 1) + 2;
    words = p.words + (q.words + 1) + 5;
    nodes = p.nodes + (q.nodes + 1) + 3;
    gives = operators.gives_binary a B rules locals room scratch false op c x y p.gives (given.second_gives a B rules locals room scratch y q.gives);
    few_units = omega (arith, p.few_units, q.few_units);
    few_nodes = omega (arith, p.few_nodes, q.few_nodes);
    few_words = omega (arith, p.few_words, q.few_words);
  }

  both_paid : {n k n' k' : ℕ} (x y : Lowering) → Paid n k x → Paid n' k' y → Paid (1 + (n + n')) (k + k') (lower_both x y)
  both_paid x y p q = record {
    units = p.units + q.units + 4;
    words = p.words + q.words + 6;
    nodes = p.nodes + q.nodes + 6;
    gives = given.gives_both a B rules locals room scratch x y p.gives q.gives;
    few_units = omega (arith, p.few_units, q.few_units);
    few_nodes = omega (arith, p.few_nodes, q.few_nodes);
    few_words = omega (arith, p.few_words, q.few_words);
  }

  either_paid : {n k n' k' : ℕ} (x y : Lowering) → Paid n k x → Paid n' k' y → Paid (1 + (n + n')) (k + k') (lower_either x y)
  either_paid x y p q = record {
    units = p.units + q.units + 4;
    words = p.words + q.words + 6;
    nodes = p.nodes + q.nodes + 6;
    gives = given.gives_either a B rules locals room scratch x y p.gives q.gives;
    few_units = omega (arith, p.few_units, q.few_units);
    few_nodes = omega (arith, p.few_nodes, q.few_nodes);
    few_words = omega (arith, p.few_words, q.few_words);
  }

  choice_paid : {n k n1 k1 n2 k2 : ℕ} (z x y : Lowering) → Paid n k z → Paid n1 k1 x → Paid n2 k2 y → Paid (1 + (n + (n1 + n2))) (k + (k1 + k2)) (lower_choice z x y)
  choice_paid z x y r p q = record {
    units = r.units + p.units + q.units + 3;
    words = r.words + p.words + q.words + 5;
    nodes = r.nodes + p.nodes + q.nodes + 2;
    gives = given.gives_choice a B rules locals room scratch z x y r.gives p.gives q.gives;
    few_units = omega (arith, r.few_units, p.few_units, q.few_units);
    few_nodes = omega (arith, r.few_nodes, p.few_nodes, q.few_nodes);
    few_words = omega (arith, r.few_words, p.few_words, q.few_words);
  }

  leaf_paid : (l : Lowering) → Gives 0 0 1 0 l → Paid 1 0 l
  leaf_paid l h = record { units = 0; words = 0; nodes = 1; gives = h; few_units = omega arith; few_nodes = omega arith; few_words = omega arith }

  -- a call of what several lowerings give, with a weight of its own
  call_paid : {n k : ℕ} (w : ℕ) (l : Lowering) (ls : List Lowering) (p : AllPaid n k ls) → Gives (p.units + 4) (p.words + 16) (p.nodes + 1) (k + w) l → Paid (1 + n) (w + k) l
  call_paid w l ls p h = record {
    units = p.units + 4;
    words = p.words + 16;
    nodes = p.nodes + 1;
    gives = same_weight l (omega arith) h;
    few_units = omega (arith, p.few_units);
    few_nodes = omega (arith, p.few_nodes);
    few_words = omega (arith, p.few_words);
  }

  lowers_length : (es : List Expr) (f : ℕ → Bool) → f (length (map within es)) ≡ true → f (length (lowers globals.pointers es)) ≡ true
  lowers_length es f h = subst (λ n. f n ≡ true) (length-map es within ∙ sym (length-map (map (part_of globals.pointers) es) (λ (x : Part). x.lower) ∙ length-map es (part_of globals.pointers))) h

  lowers_append : (xs ys : List Expr) → lowers globals.pointers (xs ++ ys) ≡ lowers globals.pointers xs ++ lowers globals.pointers ys
  lowers_append [] ys = refl
  lowers_append (x ∷ xs) ys = ap (λ ls. lower_expr globals.pointers x ∷ ls) (lowers_append xs ys)

  all_within : (xs : List Expr) (e : Expr) → all_of (map within xs) ≡ true → within e ≡ true → all_of (map within (xs ++ e ∷ [])) ≡ true
  all_within [] e b k = and_from (within e) true k refl
  all_within (x ∷ xs) e b k =
      let bs = and_cases (within x) (all_of (map within xs)) b in
      and_from (within x) (all_of (map within (xs ++ e ∷ []))) bs.0 (all_within xs e bs.1 k)

  layer : (x : Form-F Form Target Expr) → FormChildren P Q S x → (let v = counted.form_layer x in v.0.1 ≡ true → (c : CType) → Paid (1 + v.1.0) v.1.1 (v.0.0.lower c))
  layer (form.Number n) h b c = paid_as _ (omega arith) (omega arith) (leaf_paid (lower_number n) (given.gives_number a B rules locals room scratch n))
  layer (form.Read target) h b c = paid_as _ (omega arith) (omega arith) (read_paid (place_of globals.pointers target) (place target) _ _ h b)
  layer (form.Function f) h b c = paid_as _ (omega arith) (omega arith) (leaf_paid (lower_function f) (given.gives_function a B rules locals room scratch f))
  layer (form.Unary op e) h b c = paid_as _ (omega arith) (omega arith) (one_paid (unary_tree op) (lower_expr globals.pointers e) (on_unary op) (h b).0)
  layer (form.Binary op x y) h b c =
      let bs = and_cases (within x) (within y) b in
      paid_as _ (omega arith) (omega arith) (binary_paid op (part_of globals.pointers x).ctype (lower_expr globals.pointers x) (lower_expr globals.pointers y) (h.0 bs.0).0 (h.1 bs.1).0)
  layer (form.Both x y) h b c =
      let bs = and_cases (within x) (within y) b in
      paid_as _ (omega arith) (omega arith) (both_paid (lower_expr globals.pointers x) (lower_expr globals.pointers y) (h.0 bs.0).0 (h.1 bs.1).0)
  layer (form.Either x y) h b c =
      let bs = and_cases (within x) (within y) b in
      paid_as _ (omega arith) (omega arith) (either_paid (lower_expr globals.pointers x) (lower_expr globals.pointers y) (h.0 bs.0).0 (h.1 bs.1).0)
  layer (form.Choose z x y) h b c =
      let bs = and_cases (within z) (within x && within y) b in
      let cs = and_cases (within x) (within y) bs.1 in
      paid_as _ (omega arith) (omega arith) (choice_paid (lower_expr globals.pointers z) (lower_expr globals.pointers x) (lower_expr globals.pointers y) (h.0 bs.0).0 (h.1 cs.0).0 (h.2 cs.1).0)
  layer (form.Convert e) h b c = paid_as _ (omega arith) (omega arith) (one_paid (converted_tree c) (lower_expr globals.pointers e) (on_converted c) (h b).0)
  layer (form.Set target e) h b c =
      let access = place target in
      let bs = and_cases access.stored (within e) b in
      paid_as _ (omega arith) (omega arith) (set_paid (place_of globals.pointers target) access _ _ _ _ (lower_expr globals.pointers e) h.0 bs.0 (h.1 bs.1).0)
  layer (form.Change op kind target e) h b c =
      let access = place target in
      let bs = and_cases access.read (access.stored && within e) b in
      let cs = and_cases access.stored (within e) bs.1 in
      paid_as _ (omega arith) (omega arith) (change_paid op kind c (place_of globals.pointers target) access _ _ _ _ (lower_expr globals.pointers e) h.0 bs.0 cs.0 (h.1 cs.1).0)
  layer (form.After up target) h b c =
      let access = place target in
      let bs = and_cases access.read access.stored b in
      paid_as _ (omega arith) (omega arith) (after_paid up c (place_of globals.pointers target) access _ _ h bs.0 bs.1)
  layer (form.Direct f args) h b c =
      let bs = and_cases (nat_lt (length (map within args)) 9) (all_of (map within args)) b in
      let all = all_paid args h bs.1 in
      call_paid (direct f) _ (lowers globals.pointers args) all (given.gives_call a B rules locals room scratch (is_void c) f (lowers globals.pointers args) (lowers_length args (λ m. nat_lt m 9) bs.0) all.give)
  layer (form.Through args e) h b c =
      let bs = and_cases (nat_lt (length (map within args)) 9) (all_of (map within args) && within e) b in
      let cs = and_cases (all_of (map within args)) (within e) bs.1 in
      by (part_of globals.pointers e).reads (h.1 cs.1).1 bs.0 cs.0 cs.1
    where
      Made : Option ℕ → Type 0
      Made o = Paid (1 + sum (map expr_nodes args ++ expr_nodes e ∷ [])) (through + sum (map weight args ++ weight e ∷ [])) (lower_called o (is_void c) (lowers globals.pointers args) (lower_expr globals.pointers e))

      as_value : nat_lt (length (map within args)) 9 ≡ true → all_of (map within args) ≡ true → within e ≡ true → Made None
      as_value few bs k =
          let all = all_paid (args ++ e ∷ []) (each_append S args (e ∷ []) h.0 (h.1, tt)) (all_within args e bs k) in
          paid_as _ (omega (arith, ap sum (map_append expr_nodes args (e ∷ [])))) (omega (arith, ap sum (map_append weight args (e ∷ []))))
          (call_paid through (lower_through (is_void c) (lowers globals.pointers args) (lower_expr globals.pointers e)) (lowers globals.pointers (args ++ e ∷ [])) all
          (given.gives_through a B rules locals room scratch (is_void c) (lowers globals.pointers args) (lower_expr globals.pointers e) (lowers_length args (λ m. nat_lt m 9) few)
          (subst (λ ls. given.AllGive a B rules locals room scratch all.units all.words all.nodes (sum (map weight (args ++ e ∷ []))) ls) (lowers_append args (e ∷ [])) all.give)))

      as_switch : (g : ℕ) → is_among g globals.pointers ≡ true → (globals.scalars g ≡ true) × (weight e ≡ 0) → nat_lt (length (map within args)) 9 ≡ true → all_of (map within args) ≡ true → Made (Some g)
      as_switch g among read few bs =
          let all = all_paid args h.0 bs in
          let may = globals.called g among read.0 in
          let none = read.1 in
          paid_as _ (omega (arith, sum_append (map expr_nodes args) (expr_nodes e ∷ []))) (omega (arith, sum_append (map weight args) (weight e ∷ []), none))
          (call_paid through (lower_switched (is_void c) (lowers globals.pointers args) g) (lowers globals.pointers args) all
          (given.gives_switched a B rules locals room scratch (is_void c) g (lowers globals.pointers args) (lowers_length args (λ m. nat_lt m 9) few) may.0 may.1 all.give))

      by : (o : Option ℕ) → ReadsScalar o (weight e) → nat_lt (length (map within args)) 9 ≡ true → all_of (map within args) ≡ true → within e ≡ true → Made (switched_by globals.pointers o)
      by None reads few bs k = as_value few bs k
      by (Some g) reads few bs k = tested (is_among g globals.pointers) refl
        where
          tested : (z : Bool) → is_among g globals.pointers ≡ z → Made (switched_if z g)
          tested true among = as_switch g among (reads g refl) few bs
          tested false among = as_value few bs k
  layer (form.Known k args) h b c =
      let bs = and_cases (nat_eq (length (map within args)) (known_arguments k)) (all_of (map within args)) b in
      let all = all_paid args h bs.1 in
      call_paid 0 _ (lowers globals.pointers args) all (same_weight _ (omega arith) (given.gives_known a B rules locals room scratch k (lowers globals.pointers args) (lowers_length args (λ m. nat_eq m (known_arguments k)) bs.0) all.give))

  -- of a place, the global scalar that it is
  scalar_read : (x : Place) (access : Access) (n k : ℕ) → PlacePaid x access n k → access.read ≡ true → ReadsScalar (global_at x) k
  scalar_read (InLocal l) access n k h e g q = absurd (cc)
  scalar_read (InGlobal m) access n k h e g q =
      let same : m ≡ g = cc in
      (subst (λ i. globals.scalars i ≡ true) same (h.read e), h.free)
  scalar_read (Element r i) access n k h e g q = absurd (cc)

  form_read : (x : Form-F Form Target Expr) → FormChildren P Q S x → (let v = counted.form_layer x in v.0.1 ≡ true → ReadsScalar v.0.0.reads v.1.1)
  form_read (form.Number n) h b g q = absurd (cc)
  form_read (form.Read target) h b g q =
      let r = scalar_read (place_of globals.pointers target) (place target) _ _ h b g q in
      let none = r.1 in
      (r.0, omega (arith, none))
  form_read (form.Function f) h b g q = absurd (cc)
  form_read (form.Unary op e) h b g q = absurd (cc)
  form_read (form.Binary op x y) h b g q = absurd (cc)
  form_read (form.Both x y) h b g q = absurd (cc)
  form_read (form.Either x y) h b g q = absurd (cc)
  form_read (form.Choose z x y) h b g q = absurd (cc)
  form_read (form.Convert e) h b g q = absurd (cc)
  form_read (form.Set target e) h b g q = absurd (cc)
  form_read (form.Change op kind target e) h b g q = absurd (cc)
  form_read (form.After up target) h b g q = absurd (cc)
  form_read (form.Direct f args) h b g q = absurd (cc)
  form_read (form.Through args e) h b g q = absurd (cc)
  form_read (form.Known k args) h b g q = absurd (cc)

  target_layer : (x : Target-F Form Target Expr) → TargetChildren P Q S x → PlacePays (counted.target_layer x)
  target_layer (form.Global g) h = record { free = refl; read = λ e. e; stored = λ e. e }
  target_layer (form.Local l) h = record {
    free = refl;
    read = λ e. (and_cases (declared l) (is_scalar (sizes l)) (and_cases (nat_lt l locals) (declared l && is_scalar (sizes l)) e).1).0;
    used = used;
    stored = used;
  }
    where
      used : local_access globals locals sizes declared (is_scalar (sizes l)) l ≡ true → is_used locals sizes room l ≡ true
      used e =
          let bs = and_cases (nat_lt l locals) (declared l && is_scalar (sizes l)) e in
          local_used locals sizes room l bs.0 (and_cases (declared l) (is_scalar (sizes l)) bs.1).1
  target_layer (form.GlobalAt g e) h = record {
    read = λ b.
        let bs = and_cases (globals.there g) (globals.arrays g && within e) b in
        let cs = and_cases (globals.arrays g) (within e) bs.1 in
        record { named = bs.0; read = (cs.0, tt); index = paid_as (lower_expr globals.pointers e) (omega arith) (omega arith) (h cs.1).0 };
    stored = λ b.
        let bs = and_cases (globals.there g) (within e) b in
        record { named = bs.0; index = paid_as (lower_expr globals.pointers e) (omega arith) (omega arith) (h bs.1).0 };
  }
  target_layer (form.LocalAt l e) h = record {
    read = λ b. let k = known b in record { named = k.0; read = tt; index = k.1 };
    stored = λ b. let k = known b in record { named = k.0; index = k.1 };
  }
    where
      known : (local_access globals locals sizes declared (not (is_scalar (sizes l))) l && within e) ≡ true → (nat_lt l locals ≡ true) × Paid (sum (expr_nodes e ∷ [])) (sum (weight e ∷ [])) (lower_expr globals.pointers e)
      known b =
          let bs = and_cases (local_access globals locals sizes declared (not (is_scalar (sizes l))) l) (within e) b in
          ((and_cases (nat_lt l locals) (declared l && not (is_scalar (sizes l))) bs.0).0, paid_as (lower_expr globals.pointers e) (omega arith) (omega arith) (h bs.1).0)

  -- what an expression that is within the limits is lowered to
  pub expr_paid : (e : Expr) → within e ≡ true → Paid (expr_nodes e) (weight e) (lower_expr globals.pointers e)
  expr_paid e b =
      (along_exprs counted (λ f. FormPays) (λ x. PlacePays) (λ e. Pays) (λ x h b. (layer x h b, form_read x h b)) target_layer
      (λ x h b. let made = h b in (made.0 x.ctype, made.1)) e b).0
