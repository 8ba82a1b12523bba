-- One statement and another, from states whose temporaries are related: where the trees have equal values there, and
-- what the statements write keeps the next relation.
use Rattle.std.proofs.Common.{arith, ◌≡◌, ℕ, ◌+◌, ◌*◌, ◌≤◌, Bool, true, false, cond, eqb, ltb, List, [], ◌∷◌, map, length, Option, Some, None, refl, ◌∙◌, subst, ap}
use Rattle.std.specs.Prelude.{slice_index, slice_set, slice_index_or}
use Rattle.mv_ir.specs.declared.tree.Tree.{Tree}
use Rattle.mv_ir.specs.declared.stm.Array.{Array}
use Rattle.mv_ir.specs.declared.stm.Array.TheVariants as array
use Rattle.mv_ir.specs.declared.stm.Callee.{Callee}
use Rattle.mv_ir.specs.declared.stm.Callee.TheVariants as callee
use Rattle.mv_ast.specs.declared.program.Known.{Known}
use Rattle.mv_ir.specs.declared.stm.Stm.TheOpen.{Stm-F}
use Rattle.mv_ir.specs.declared.stm.Stm.TheOpen as stm
use Rattle.mv_ir.specs.World.{World, Setting, Frame, Answer}
use Rattle.mv_ir.specs.Trees.{Value, value, nodes, nodes_of_all, divide}
use Rattle.mv_ir.specs.Outcome.{End, Returned, Trapped, More, Stuck, Outcome, Next, Run, Call, Bound, Meaning, spend, in_order}
use Rattle.mv_ir.specs.Meaning.{elements, outside, with_global, with_elements, put, call_end, Goal, Nowhere, Null, At, Inside, goal_of, goal, callee_nodes, call_cost, made_call, within, call_to, statement}
use Rattle.mv_ir.proofs.Relating.{Rel, StateRel, Places, OutcomeRel, RunRel, MeaningRel}

-- from states that differ in the temporaries alone
pub from_temps : (p : Rel) (q : Places) (m m' : Meaning) →
    ((bound : Bound) (xs ys : List ℕ) (arrays : List (List ℕ)) (w : World) → p xs ys →
    RunRel q (m bound (record { temps = xs; arrays = arrays; world = w })) (m' bound (record { temps = ys; arrays = arrays; world = w }))) →
    MeaningRel p q m m'
from_temps p q m m' h bound s s' e =
    subst (λ a. RunRel q (m bound s) (m' bound (record { temps = s'.temps; arrays = a; world = s'.world }))) e.arrays
    (subst (λ w. RunRel q (m bound s) (m' bound (record { temps = s'.temps; arrays = s.arrays; world = w }))) e.world (h bound s.temps s'.temps s.arrays s.world e.temps))

cond_rel : (q : Places) (c c' : Bool) (o1 o1' o2 o2' : Outcome) → c ≡ c' → OutcomeRel q o1 o1' → OutcomeRel q o2 o2' → OutcomeRel q (cond c o1 o2) (cond c' o1' o2')
cond_rel q c c' o1 o1' o2 o2' e h k = subst (λ d. OutcomeRel q (cond c o1 o2) (cond d o1' o2')) e (by c)
  where
    by : (d : Bool) → OutcomeRel q (cond d o1 o2) (cond d o1' o2')
    by true = h
    by false = k

module _ (setting : Setting) (frame : Frame) where
  abbrev val : Tree → Value
  val = value setting.numbers frame.bound

  -- a tree and another, with the same value in related temporaries
  pub record SameIn (p : Rel) (t t' : Tree) : Type 0 where
    pub value : (xs ys : List ℕ) (globals : List (List ℕ)) → p xs ys → val t xs globals ≡ val t' ys globals
    pub smaller : nodes t' ≤ nodes t

  -- a write of one value to two temporaries
  abbrev pub Writes : Rel → Rel → ℕ → ℕ → Type 0
  Writes p r t t' = (xs ys : List ℕ) (v : ℕ) → p xs ys → r (slice_set xs t v) (slice_set ys t' v)

  abbrev pub Weaker : Rel → Rel → Type 0
  Weaker p r = (xs ys : List ℕ) → p xs ys → r xs ys

  abbrev act : Stm-F Meaning → Meaning
  act = statement setting frame

  written : (p r : Rel) (t t' : ℕ) (xs ys : List ℕ) (v v' : ℕ) → Writes p r t t' → p xs ys → v ≡ v' → r (slice_set xs t v) (slice_set ys t' v')
  written p r t t' xs ys v v' w h e = subst (λ x. r (slice_set xs t v) (slice_set ys t' x)) e (w xs ys v h)

  module _ (p : Rel) (q : Places) where
    pub set_rel : (t t' : ℕ) (v v' : Tree) → SameIn p v v' → Writes p q.next t t' → MeaningRel p q (act (stm.Set t v)) (act (stm.Set t' v'))
    set_rel t t' v v' hv w = from_temps p q _ _ (λ bound xs ys arrays world h. record {
      outcome = record { temps = written p q.next t t' xs ys _ _ w h (hv.value xs ys world.globals h); arrays = refl; world = refl };
      cheaper = omega (arith, hv.smaller);
    })

    pub set_global_rel : (g : ℕ) (v v' : Tree) → SameIn p v v' → Weaker p q.next → MeaningRel p q (act (stm.SetGlobal g v)) (act (stm.SetGlobal g v'))
    set_global_rel g v v' hv w = from_temps p q _ _ (λ bound xs ys arrays world h. record {
      outcome = record {
        temps = w xs ys h;
        arrays = refl;
        world = ap (λ x. with_global world g (slice_set (slice_index_or world.globals g []) 0 x)) (hv.value xs ys world.globals h);
      };
      cheaper = omega (arith, hv.smaller);
    })

    pub divide_rel : (t t' o : ℕ) (a a' b b' : Tree) → SameIn p a a' → SameIn p b b' → Writes p q.next t t' → MeaningRel p q (act (stm.Divide t o a b)) (act (stm.Divide t' o a' b'))
    divide_rel t t' o a a' b b' ha hb w = from_temps p q _ _ (λ bound xs ys arrays world h.
        let ea = ha.value xs ys world.globals h in
        let eb = hb.value xs ys world.globals h in
        record {
          outcome =
              cond_rel q _ _ _ _ _ _ (ap (λ x. eqb x 0) eb) refl
              (record { temps = written p q.next t t' xs ys _ _ w h (ap (λ x. divide o x (val b xs world.globals)) ea ∙ ap (λ x. divide o (val a' ys world.globals) x) eb); arrays = refl; world = refl });
          cheaper = omega (arith, ha.smaller, hb.smaller);
        })

    -- the elements of an array, which don't depend on the temporaries
    elements_same : (a : Array) (xs ys : List ℕ) (arrays : List (List ℕ)) (w : World) → elements a (record { temps = xs; arrays = arrays; world = w }) ≡ elements a (record { temps = ys; arrays = arrays; world = w })
    elements_same (array.Global g) xs ys arrays w = refl
    elements_same (array.Local l) xs ys arrays w = refl
    elements_same (array.SureGlobal g n) xs ys arrays w = refl
    elements_same (array.SureLocal l n) xs ys arrays w = refl

    pub check_rel : (a : Array) (i i' : Tree) → SameIn p i i' → Weaker p q.next → MeaningRel p q (act (stm.Check a i)) (act (stm.Check a i'))
    check_rel a i i' hi w = from_temps p q _ _ (λ bound xs ys arrays world h. record {
      outcome =
          cond_rel q _ _ _ _ _ _ (ap (λ x. ltb x (length (elements a (record { temps = xs; arrays = arrays; world = world }))))
          (hi.value xs ys world.globals h) ∙ ap (λ l. ltb (val i' ys world.globals) (length l)) (elements_same a xs ys arrays world))
          (record { temps = w xs ys h; arrays = refl; world = refl }) (ap (λ x. outside a x world) (hi.value xs ys world.globals h));
      cheaper = omega (arith, hi.smaller);
    })

    pub read_rel : (t t' : ℕ) (a : Array) (i i' : Tree) → SameIn p i i' → Writes p q.next t t' → MeaningRel p q (act (stm.Read t a i)) (act (stm.Read t' a i'))
    read_rel t t' a i i' hi w = from_temps p q _ _ (λ bound xs ys arrays world h.
        let e = hi.value xs ys world.globals h in
        let es = elements_same a xs ys arrays world in
        record {
          outcome = cond_rel q _ _ _ _ _ _ (ap (λ x. ltb x (length (elements a (record { temps = xs; arrays = arrays; world = world })))) e ∙ ap (λ l. ltb (val i' ys world.globals) (length l)) es)
              (record {
                temps = written p q.next t t' xs ys _ _ w h
                    (ap (λ x. slice_index (elements a (record { temps = xs; arrays = arrays; world = world })) x) e ∙
                    ap (λ l. slice_index l (val i' ys world.globals)) es);
                arrays = refl;
                world = refl;
              })
              (ap (λ x. outside a x world) e);
          cheaper = omega (arith, hi.smaller);
        })

    stored : (a : Array) (xs ys : List ℕ) (arrays : List (List ℕ)) (w : World) (l l' : List ℕ) → Weaker p q.next → p xs ys → l ≡ l' →
        StateRel q.next (with_elements a (record { temps = xs; arrays = arrays; world = w }) l) (with_elements a (record { temps = ys; arrays = arrays; world = w }) l')
    stored (array.Global g) xs ys arrays w l l' k h e = record { temps = k xs ys h; arrays = refl; world = ap (λ x. with_global w g x) e }
    stored (array.Local n) xs ys arrays w l l' k h e = record { temps = k xs ys h; arrays = ap (λ x. slice_set arrays n x) e; world = refl }
    stored (array.SureGlobal g n) xs ys arrays w l l' k h e = record { temps = k xs ys h; arrays = refl; world = ap (λ x. with_global w g x) e }
    stored (array.SureLocal n m) xs ys arrays w l l' k h e = record { temps = k xs ys h; arrays = ap (λ x. slice_set arrays n x) e; world = refl }

    pub write_rel : (a : Array) (i i' v v' : Tree) → SameIn p i i' → SameIn p v v' → Weaker p q.next → MeaningRel p q (act (stm.Write a i v)) (act (stm.Write a i' v'))
    write_rel a i i' v v' hi hv w = from_temps p q _ _ (λ bound xs ys arrays world h.
        let e = hi.value xs ys world.globals h in
        let ev = hv.value xs ys world.globals h in
        let es = elements_same a xs ys arrays world in
        record {
          outcome = cond_rel q _ _ _ _ _ _ (ap (λ x. ltb x (length (elements a (record { temps = xs; arrays = arrays; world = world })))) e ∙ ap (λ l. ltb (val i' ys world.globals) (length l)) es)
              (stored a xs ys arrays world _ _ w h
              (ap (λ x. slice_set (elements a (record { temps = xs; arrays = arrays; world = world })) x (val v xs world.globals)) e ∙
              ap (λ x. slice_set (elements a (record { temps = xs; arrays = arrays; world = world })) (val i' ys world.globals) x) ev ∙
              ap (λ l. slice_set l (val i' ys world.globals) (val v' ys world.globals)) es))
              (ap (λ x. outside a x world) e);
          cheaper = omega (arith, hi.smaller, hv.smaller);
        })

    pub zero_rel : (l : ℕ) → Weaker p q.next → MeaningRel p q (act (stm.Zero l)) (act (stm.Zero l))
    zero_rel l w = from_temps p q _ _ (λ bound xs ys arrays world h. record { outcome = record { temps = w xs ys h; arrays = refl; world = refl }; cheaper = omega arith })

    pub break_rel : (n : ℕ) → Weaker p (q.leaves n) → MeaningRel p q (act (stm.Break n)) (act (stm.Break n))
    break_rel n w = from_temps p q _ _ (λ bound xs ys arrays world h. record { outcome = (refl, record { temps = w xs ys h; arrays = refl; world = refl }); cheaper = omega arith })

    pub back_rel : (n : ℕ) → Weaker p (q.restarts n) → MeaningRel p q (act (stm.Back n)) (act (stm.Back n))
    back_rel n w = from_temps p q _ _ (λ bound xs ys arrays world h. record { outcome = (refl, record { temps = w xs ys h; arrays = refl; world = refl }); cheaper = omega arith })

    pub return_rel : (v v' : Tree) → SameIn p v v' → MeaningRel p q (act (stm.Return v)) (act (stm.Return v'))
    return_rel v v' hv = from_temps p q _ _ (λ bound xs ys arrays world h. record { outcome = ap (λ x. Returned (Some x) world) (hv.value xs ys world.globals h); cheaper = omega (arith, hv.smaller) })

    pub either_rel : (c c' : Bool) (r1 r1' r2 r2' : Run) → c ≡ c' → RunRel q r1 r1' → RunRel q r2 r2' → RunRel q (cond c r1 r2) (cond c' r1' r2')
    either_rel c c' r1 r1' r2 r2' e h k = subst (λ d. RunRel q (cond c r1 r2) (cond d r1' r2')) e (by c)
      where
        by : (d : Bool) → RunRel q (cond d r1 r2) (cond d r1' r2')
        by true = h
        by false = k

    pub if_rel : (t t' : Tree) (a a' b b' : List Meaning) → SameIn p t t' → MeaningRel p q (in_order a) (in_order a') → MeaningRel p q (in_order b) (in_order b') → MeaningRel p q (act (stm.If t a b)) (act (stm.If t' a' b'))
    if_rel t t' a a' b b' ht ha hb = from_temps p q _ _ (λ bound xs ys arrays world h.
        let start : StateRel p (record { temps = xs; arrays = arrays; world = world }) (record { temps = ys; arrays = arrays; world = world }) = record { temps = h; arrays = refl; world = refl } in
        let r = either_rel _ _ _ _ _ _ (ap (λ x. eqb x 0) (ht.value xs ys world.globals h)) (hb bound _ _ start) (ha bound _ _ start) in
        record { outcome = r.outcome; cheaper = omega (arith, r.cheaper, ht.smaller) })

    -- ---- of several trees

    abbrev pub SameTreesIn : List Tree → List Tree → Type 0
    SameTreesIn [] [] = Unit {0}
    SameTreesIn [] (t' ∷ ts') = ⊥
    SameTreesIn (t ∷ ts) [] = ⊥
    SameTreesIn (t ∷ ts) (t' ∷ ts') = SameIn p t t' × SameTreesIn ts ts'

    pub same_values : (ts ts' : List Tree) (xs ys : List ℕ) (globals : List (List ℕ)) → SameTreesIn ts ts' → p xs ys → map (λ t. val t xs globals) ts ≡ map (λ t. val t ys globals) ts'
    same_values [] [] xs ys globals h e = refl
    same_values [] (t' ∷ ts') xs ys globals h e = absurd h
    same_values (t ∷ ts) [] xs ys globals h e = absurd h
    same_values (t ∷ ts) (t' ∷ ts') xs ys globals h e =
        ap (λ v. v ∷ map (λ u. val u xs globals) ts) (h.0.value xs ys globals e) ∙ ap (λ l. val t' ys globals ∷ l) (same_values ts ts' xs ys globals h.1 e)

    smaller_trees : (ts ts' : List Tree) → SameTreesIn ts ts' → nodes_of_all ts' ≤ nodes_of_all ts
    smaller_trees [] [] h = omega arith
    smaller_trees [] (t' ∷ ts') h = absurd h
    smaller_trees (t ∷ ts) [] h = absurd h
    smaller_trees (t ∷ ts) (t' ∷ ts') h = omega (arith, h.0.smaller, smaller_trees ts ts' h.1)

    -- a result written to related temporaries, or to none
    abbrev pub Puts : Option ℕ → Option ℕ → Type 0
    Puts None None = Weaker p q.next
    Puts None (Some t') = ⊥
    Puts (Some t) None = ⊥
    Puts (Some t) (Some t') = Writes p q.next t t'

    put_rel : (r r' : Option ℕ) (v : ℕ) (xs ys : List ℕ) (arrays : List (List ℕ)) (w : World) → Puts r r' → p xs ys →
        StateRel q.next (put r v (record { temps = xs; arrays = arrays; world = w })) (put r' v (record { temps = ys; arrays = arrays; world = w }))
    put_rel None None v xs ys arrays w k h = record { temps = k xs ys h; arrays = refl; world = refl }
    put_rel None (Some t') v xs ys arrays w k h = absurd k
    put_rel (Some t) None v xs ys arrays w k h = absurd k
    put_rel (Some t) (Some t') v xs ys arrays w k h = record { temps = k xs ys v h; arrays = refl; world = refl }

    pub known_rel : (r r' : Option ℕ) (k : Known) (args args' : List Tree) → SameTreesIn args args' → Puts r r' → MeaningRel p q (act (stm.Known r k args)) (act (stm.Known r' k args'))
    known_rel r r' k args args' ha hp = from_temps p q _ _ (λ bound xs ys arrays world h.
        let less = smaller_trees args args' ha in
        let answer : List ℕ → Answer = λ l. setting.known k l frame.live world in
        let e = same_values args args' xs ys world.globals ha h in
        let second : List ℕ → Run = λ l. spend (30 + 3 * nodes_of_all args') (record { cost = (answer l).cost; outcome = Next (put r' (answer l).value (record { temps = ys; arrays = arrays; world = (answer l).world })) }) in
        let here = map (λ t. val t xs world.globals) args in
        let start : RunRel q (act (stm.Known r k args) bound (record { temps = xs; arrays = arrays; world = world })) (second here) =
        record { outcome = put_rel r r' (answer here).value xs ys arrays (answer here).world hp h; cheaper = omega (arith, less) } in
        subst (RunRel q (act (stm.Known r k args) bound (record { temps = xs; arrays = arrays; world = world }))) (ap second e) start)

    abbrev pub SameCalleeIn : Callee → Callee → Type 0
    SameCalleeIn (callee.Direct f) (callee.Direct f') = f ≡ f'
    SameCalleeIn (callee.Through t) (callee.Through t') = SameIn p t t'
    SameCalleeIn (callee.Switched g) (callee.Switched g') = g ≡ g'
    SameCalleeIn callee.Expanded callee.Expanded = Unit {0}
    SameCalleeIn _ _ = ⊥

    same_goal : (f f' : Callee) (xs ys : List ℕ) (arrays : List (List ℕ)) (w : World) → SameCalleeIn f f' → p xs ys →
        goal setting frame f (record { temps = xs; arrays = arrays; world = w }) ≡ goal setting frame f' (record { temps = ys; arrays = arrays; world = w })
    same_goal (callee.Direct f) (callee.Direct f') xs ys arrays w h e = ap At h
    same_goal (callee.Through t) (callee.Through t') xs ys arrays w h e = ap (goal_of setting.numbers) (h.value xs ys w.globals e)
    same_goal (callee.Switched g) (callee.Switched g') xs ys arrays w h e = ap (λ k. goal_of setting.numbers (setting.switched k w)) h
    same_goal callee.Expanded callee.Expanded xs ys arrays w h e = refl
    same_goal _ _ xs ys arrays w h e = absurd h

    smaller_callee : (f f' : Callee) → SameCalleeIn f f' → callee_nodes setting frame f' ≤ callee_nodes setting frame f
    smaller_callee (callee.Direct f) (callee.Direct f') h = omega arith
    smaller_callee (callee.Through t) (callee.Through t') h = h.smaller
    smaller_callee (callee.Switched g) (callee.Switched g') h = omega arith
    smaller_callee callee.Expanded callee.Expanded h = omega arith
    smaller_callee _ _ h = absurd h

    same_cost : (f f' : Callee) → SameCalleeIn f f' → call_cost f' ≡ call_cost f
    same_cost (callee.Direct f) (callee.Direct f') h = refl
    same_cost (callee.Through t) (callee.Through t') h = refl
    same_cost (callee.Switched g) (callee.Switched g') h = refl
    same_cost callee.Expanded callee.Expanded h = refl
    same_cost _ _ h = absurd h

    -- what a callee's end gives
    end_rel : (r r' : Option ℕ) (xs ys : List ℕ) (arrays : List (List ℕ)) (w : World) (e : End) → Puts r r' → p xs ys →
        OutcomeRel q (call_end r (record { temps = xs; arrays = arrays; world = w }) e) (call_end r' (record { temps = ys; arrays = arrays; world = w }) e)
    end_rel None None xs ys arrays w (Returned v x) k h = record { temps = k xs ys h; arrays = refl; world = refl }
    end_rel None None xs ys arrays w (Trapped c x) k h = refl
    end_rel None None xs ys arrays w (More x) k h = refl
    end_rel None None xs ys arrays w Stuck k h = refl
    end_rel None (Some t') xs ys arrays w e k h = absurd k
    end_rel (Some t) None xs ys arrays w e k h = absurd k
    end_rel (Some t) (Some t') xs ys arrays w (Returned (Some v) x) k h = record { temps = k xs ys v h; arrays = refl; world = refl }
    end_rel (Some t) (Some t') xs ys arrays w (Returned None x) k h = refl
    end_rel (Some t) (Some t') xs ys arrays w (Trapped c x) k h = refl
    end_rel (Some t) (Some t') xs ys arrays w (More x) k h = refl
    end_rel (Some t) (Some t') xs ys arrays w Stuck k h = refl

    to_rel : (g : Goal) (r r' : Option ℕ) (values : List ℕ) (xs ys : List ℕ) (arrays : List (List ℕ)) (w : World) (bound : Bound) → Puts r r' →
        p xs ys → RunRel q (call_to g frame.depth frame.live r values bound (record { temps = xs; arrays = arrays; world = w }))
        (call_to g frame.depth frame.live r' values bound (record { temps = ys; arrays = arrays; world = w }))
    to_rel Nowhere r r' values xs ys arrays w bound k h = record { outcome = refl; cheaper = omega arith }
    to_rel Null r r' values xs ys arrays w bound k h = record { outcome = refl; cheaper = omega arith }
    to_rel (At f) r r' values xs ys arrays w bound k h = either_rel (ltb frame.depth 512) (ltb frame.depth 512) _ _ _ _ refl (inside bound) (record { outcome = refl; cheaper = omega arith })
      where
        inside : (bound : Bound) →
            RunRel q (within bound (λ calls. made_call r (record { temps = xs; arrays = arrays; world = w }) (calls f values frame.depth frame.live w)) (record { temps = xs; arrays = arrays; world = w }))
            (within bound (λ calls. made_call r' (record { temps = ys; arrays = arrays; world = w }) (calls f values frame.depth frame.live w)) (record { temps = ys; arrays = arrays; world = w }))
        inside [] = record { outcome = refl; cheaper = omega arith }
        inside (calls ∷ below) = record { outcome = end_rel r r' xs ys arrays w (calls f values frame.depth frame.live w).end k h; cheaper = omega arith }
    to_rel Inside r r' values xs ys arrays w bound k h = either_rel (ltb frame.depth 512) (ltb frame.depth 512) _ _ _ _ refl (inside bound) (record { outcome = refl; cheaper = omega arith })
      where
        nothing : Call
        nothing = record { cost = 0; end = Returned None w }

        inside : (bound : Bound) →
            RunRel q (within bound (λ calls. made_call r (record { temps = xs; arrays = arrays; world = w }) nothing) (record { temps = xs; arrays = arrays; world = w }))
            (within bound (λ calls. made_call r' (record { temps = ys; arrays = arrays; world = w }) nothing) (record { temps = ys; arrays = arrays; world = w }))
        inside [] = record { outcome = refl; cheaper = omega arith }
        inside (calls ∷ below) = record { outcome = end_rel r r' xs ys arrays w (Returned None w) k h; cheaper = omega arith }

    pub call_rel : (r r' : Option ℕ) (f f' : Callee) (args args' : List Tree) → SameCalleeIn f f' → SameTreesIn args args' → Puts r r' → MeaningRel p q (act (stm.Call r f args)) (act (stm.Call r' f' args'))
    call_rel r r' f f' args args' hf ha hp = from_temps p q _ _ (λ bound xs ys arrays world h.
        let less = smaller_trees args args' ha in
        let less_callee = smaller_callee f f' hf in
        let cost = same_cost f f' hf in
        let here = map (λ t. val t xs world.globals) args in
        let there = goal setting frame f (record { temps = xs; arrays = arrays; world = world }) in
        let second : Goal → List ℕ → Run = λ g l. spend (call_cost f' + 3 * (callee_nodes setting frame f' + nodes_of_all args')) (call_to g frame.depth frame.live r' l bound (record { temps = ys; arrays = arrays; world = world })) in
        let inner = to_rel there r r' here xs ys arrays world bound hp h in
        let start : RunRel q (act (stm.Call r f args) bound (record { temps = xs; arrays = arrays; world = world })) (second there here) =
        record { outcome = inner.outcome; cheaper = omega (arith, inner.cheaper, less, less_callee, cost) } in
        subst (RunRel q (act (stm.Call r f args) bound (record { temps = xs; arrays = arrays; world = world })))
        (ap (λ g. second g here) (same_goal f f' xs ys arrays world hf h) ∙
        ap (second (goal setting frame f' (record { temps = ys; arrays = arrays; world = world })))
        (same_values args args' xs ys world.globals ha h)) start)
