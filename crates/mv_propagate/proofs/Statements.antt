-- Statements with what temporaries hold in place of them run the same, and what is known behind them holds.
use Rattle.std.proofs.Common.{◌≡◌, ℕ, ◌+◌, ◌*◌, ◌<◌, ◌≤◌, Bool, true, false, cond, eqb, ltb, List, [], ◌∷◌, length, map, Option, Some, None, refl, sym, ◌∙◌, subst, ap, arith}
use Rattle.std.specs.Prelude.{slice_index, slice_set, Contains}
use Rattle.std.proofs.lemmas.Bool.{lt-ltb, ltb-true}
use Rattle.mv_ast.specs.declared.program.Known.{Known}
use Rattle.mv_ir.specs.declared.tree.Tree.{Tree}
use Rattle.mv_ir.specs.declared.stm.Array.{Array}
use Rattle.mv_ir.specs.declared.stm.Array.TheVariants as array
use Rattle.mv_ir.specs.declared.stm.Callee.{Callee}
use Rattle.mv_ir.specs.declared.stm.Stm.{Stm}
use Rattle.mv_ir.specs.declared.stm.Stm.TheOpen.{Stm-F}
use Rattle.mv_ir.specs.declared.stm.Stm.TheOpen as stm
use Rattle.mv_ir.specs.declared.stm.Stm.TheViews.{roll-Stm}
use Rattle.mv_ir.specs.World.{Setting, Frame}
use Rattle.mv_ir.specs.Trees.{divide, nodes, nodes_of_all}
use Rattle.mv_ir.specs.Outcome.{State, End, Returned, Trapped, More, Stuck, Outcome, Next, Leaves, Restarts, Ends, Run, Call, Bound, Calls, Meaning, spend, now}
use Rattle.mv_ir.specs.Meaning.{elements, with_temp, with_elements, outside, call_end, Goal, Nowhere, Null, At, Inside, made_call, within, call_to, call_cost, callee_nodes, goal, of_tree, known_end, step, meaning}
use Rattle.mv_ir.specs.Rolled.{temp}
use Rattle.mv_ir.proofs.Keeping.{layer_means, meaning_roll}
use Rattle.mv_propagate.specs.declared.facts.Leaf.{Leaf}
use Rattle.mv_propagate.specs.declared.facts.Leaf.TheVariants.{Temp}
use Rattle.mv_propagate.specs.declared.facts.Held.TheVariants.{Value, Element}
use Rattle.mv_propagate.specs.declared.facts.Fact.{Fact}
use Rattle.mv_propagate.specs.Facts.{tree_of, leaf_value, leaf_is, AreKnown}
use Rattle.mv_propagate.specs.Propagating.{fact, Reads, ReadsAll, ReadsCallee, Unwritten, Unstored, Uncalled, Learned}
use Rattle.mv_propagate.proofs.Steps.{unwritten_known, learned_known, stored_known, called_known, value_held, element_held, same_state}
use Rattle.mv_propagate.proofs.Values.{reads_nodes, all_nodes, leaf_nodes, reads_value, all_values, leaf_read, leaf_means, same_goal, same_callee_nodes, same_call_cost}

module _ (temps : ℕ) where
  -- what is known where code goes on, and that the frame has its temporaries where it leaves what encloses it, or starts it again
  abbrev pub GoesOn : List Fact → Outcome → Type 0
  GoesOn after (Next s) = AreKnown temps after s
  GoesOn after (Leaves n s) = temps ≤ length s.temps
  GoesOn after (Restarts n s) = temps ≤ length s.temps
  GoesOn after (Ends e) = Unit {0}

  -- the second runs as the first does wherever some facts are known
  pub record Follows (facts after : List Fact) (m m' : Meaning) : Type 0 where
    pub same : (bound : Bound) (s : State) → AreKnown temps facts s → m' bound s ≡ m bound s
    pub goes : (bound : Bound) (s : State) → AreKnown temps facts s → GoesOn after (m bound s).outcome

module _ (temps : ℕ) (setting : Setting) (frame : Frame) where
  abbrev pub Runs : List Fact → List Fact → Stm → Stm → Type 0
  Runs facts after x y = Follows temps facts after (meaning setting frame x) (meaning setting frame y)

  abbrev of : Tree → State → ℕ
  of = of_tree setting frame

  -- from what the layers of two statements do
  pub of_layers : (facts after : List Fact) (x y : Stm-F Stm) →
      ((bound : Bound) (s : State) → AreKnown temps facts s → layer_means setting frame y bound s ≡ layer_means setting frame x bound s) →
      ((bound : Bound) (s : State) → AreKnown temps facts s → GoesOn temps after (layer_means setting frame x bound s).outcome) → Runs facts after (roll-Stm x) (roll-Stm y)
  of_layers facts after x y h k = record {
    same = λ bound s known. ap (λ m. m bound s) (meaning_roll setting frame y) ∙ h bound s known ∙ sym (ap (λ m. m bound s) (meaning_roll setting frame x));
    goes = λ bound s known. subst (λ m. GoesOn temps after (m bound s).outcome) (sym (meaning_roll setting frame x)) (k bound s known);
  }

  -- where an access goes on, given what is known where the index is below the length
  within_goes_on : (after : List Fact) (k n : ℕ) (s : State) (o : End) → (k < n → AreKnown temps after s) → GoesOn temps after (cond (ltb k n) (Next s) (Ends o))
  within_goes_on after k n s o h = by (ltb k n) refl
    where
      by : (b : Bool) → ltb k n ≡ b → GoesOn temps after (cond b (Next s) (Ends o))
      by true e = h (ltb-true k n e)
      by false e = tt

  module _ (facts : List Fact) where
    value_is : (s : State) (x y : Tree) → AreKnown temps facts s → Reads facts x y → of y s ≡ of x s
    value_is s x y known h = reads_value setting frame s facts known.true x y h

    -- a step whose outcome goes by the value of a tree, and whose cost by its nodes
    stepped : (s : State) (x y : Tree) (f : ℕ → Outcome) → AreKnown temps facts s → Reads facts x y → step setting frame (nodes y) (f (of y s)) ≡ step setting frame (nodes x) (f (of x s))
    stepped s x y f known h = ap (λ n. step setting frame n (f (of y s))) (reads_nodes facts x y h) ∙ ap (λ v. step setting frame (nodes x) (f v)) (value_is s x y known h)

    -- of two trees
    stepped_both : (s : State) (x x' y y' : Tree) (f : ℕ → ℕ → Outcome) → AreKnown temps facts s → Reads facts x x' → Reads facts y y' →
        step setting frame (nodes x' + nodes y') (f (of x' s) (of y' s)) ≡ step setting frame (nodes x + nodes y) (f (of x s) (of y s))
    stepped_both s x x' y y' f known h k =
        ap (λ n. step setting frame (n + nodes y') (f (of x' s) (of y' s))) (reads_nodes facts x x' h)
        ∙ ap (λ n. step setting frame (nodes x + n) (f (of x' s) (of y' s))) (reads_nodes facts y y' k)
        ∙ ap (λ v. step setting frame (nodes x + nodes y) (f v (of y' s))) (value_is s x x' known h)
        ∙ ap (λ v. step setting frame (nodes x + nodes y) (f (of x s) v)) (value_is s y y' known k)

    -- ---- values

    pub computed_runs : (after : List Fact) (t : ℕ) (v w : Tree) → Reads facts v w → Unwritten t facts after → Runs facts after (roll-Stm (stm.Set t v)) (roll-Stm (stm.Set t w))
    computed_runs after t v w h stay = of_layers facts after (stm.Set t v) (stm.Set t w)
        (λ bound s known. stepped s v w (λ x. Next (with_temp s t x)) known h)
        (λ bound s known. unwritten_known temps facts after s t (of v s) stay known)

    pub copied_runs : (after : List Fact) (t : ℕ) (v : Tree) (l : Leaf) → Reads facts v (tree_of l) → t < temps → leaf_is t l ≡ false → Learned t (Value l) facts after →
        Runs facts after (roll-Stm (stm.Set t v)) (roll-Stm (stm.Set t (tree_of l)))
    copied_runs after t v l h lt other stay = of_layers facts after (stm.Set t v) (stm.Set t (tree_of l))
        (λ bound s known. stepped s v (tree_of l) (λ x. Next (with_temp s t x)) known h)
        (λ bound s known. subst (λ x. AreKnown temps after (with_temp s t x)) (sym (leaf_read setting frame s facts known.true v l h))
        (learned_known temps facts after s t (leaf_value s l) (Value l) stay known (value_held temps s t l (let k = known.enough in omega (arith, lt, k)) other)))

    pub stored_runs : (after : List Fact) (g : ℕ) (v w : Tree) → Reads facts v w → Unstored (array.Global g) facts after →
        Runs facts after (roll-Stm (stm.SetGlobal g v)) (roll-Stm (stm.SetGlobal g w))
    stored_runs after g v w h stay = of_layers facts after (stm.SetGlobal g v) (stm.SetGlobal g w)
        (λ bound s known. stepped s v w (λ x. Next (with_elements (array.Global g) s (slice_set (elements (array.Global g) s) 0 x))) known h)
        (λ bound s known. stored_known temps facts after (array.Global g) s (slice_set (elements (array.Global g) s) 0 (of v s)) stay known)

    -- a division, whose end where the divisor is 0 is whatever it is
    divided_same : (z : End) (s : State) (t o : ℕ) (a a' b b' : Tree) → Reads facts a a' → Reads facts b b' → AreKnown temps facts s →
        step setting frame (nodes a' + nodes b') (cond (eqb (of b' s) 0) (Ends z) (Next (with_temp s t (divide o (of a' s) (of b' s)))))
        ≡ step setting frame (nodes a + nodes b) (cond (eqb (of b s) 0) (Ends z) (Next (with_temp s t (divide o (of a s) (of b s)))))
    divided_same z s t o a a' b b' h k known = stepped_both s a a' b b' (λ x d. cond (eqb d 0) (Ends z) (Next (with_temp s t (divide o x d)))) known h k

    pub divided_runs : (after : List Fact) (t o : ℕ) (a a' b b' : Tree) → Reads facts a a' → Reads facts b b' → Unwritten t facts after →
        Runs facts after (roll-Stm (stm.Divide t o a b)) (roll-Stm (stm.Divide t o a' b'))
    divided_runs after t o a a' b b' h k stay = of_layers facts after (stm.Divide t o a b) (stm.Divide t o a' b')
        (λ bound s known. divided_same _ s t o a a' b b' h k known)
        (λ bound s known. by _ s (eqb (of b s) 0) (divide o (of a s) (of b s)) known)
      where
        by : (z : End) (s : State) (c : Bool) (v : ℕ) → AreKnown temps facts s → GoesOn temps after (cond c (Ends z) (Next (with_temp s t v)))
        by z s true v known = tt
        by z s false v known = unwritten_known temps facts after s t v stay known

    -- ---- elements

    pub checked_runs : (r : Array) (i j : Tree) → Reads facts i j → Runs facts facts (roll-Stm (stm.Check r i)) (roll-Stm (stm.Check r j))
    checked_runs r i j h = of_layers facts facts (stm.Check r i) (stm.Check r j)
        (λ bound s known. stepped s i j (λ k. cond (ltb k (length (elements r s))) (Next s) (Ends (outside r k s.world))) known h)
        (λ bound s known. within_goes_on facts (of i s) (length (elements r s)) s _ (λ lt. known))

    abbrev read_end : ℕ → Array → State → ℕ → Outcome
    read_end t r s k = cond (ltb k (length (elements r s))) (Next (with_temp s t (slice_index (elements r s) k))) (Ends (outside r k s.world))

    pub fetched_runs : (after : List Fact) (t : ℕ) (r : Array) (i j : Tree) → Reads facts i j → Unwritten t facts after →
        Runs facts after (roll-Stm (stm.Read t r i)) (roll-Stm (stm.Read t r j))
    fetched_runs after t r i j h stay = of_layers facts after (stm.Read t r i) (stm.Read t r j)
        (λ bound s known. stepped s i j (read_end t r s) known h)
        (λ bound s known. within_goes_on after (of i s) (length (elements r s)) (with_temp s t (slice_index (elements r s) (of i s))) _
        (λ lt. unwritten_known temps facts after s t _ stay known))

    pub kept_runs : (after : List Fact) (t : ℕ) (r : Array) (i : Tree) (l : Leaf) → Reads facts i (tree_of l) → t < temps → leaf_is t l ≡ false → Learned t (Element r l) facts after →
        Runs facts after (roll-Stm (stm.Read t r i)) (roll-Stm (stm.Read t r (tree_of l)))
    kept_runs after t r i l h below other stay = of_layers facts after (stm.Read t r i) (stm.Read t r (tree_of l))
        (λ bound s known. stepped s i (tree_of l) (read_end t r s) known h)
        (λ bound s known. subst (λ k. GoesOn temps after (read_end t r s k)) (sym (leaf_read setting frame s facts known.true i l h))
        (within_goes_on after (leaf_value s l) (length (elements r s)) (with_temp s t (slice_index (elements r s) (leaf_value s l))) _
        (λ lt. learned_known temps facts after s t _ (Element r l) stay known (element_held temps s t r l (let k = known.enough in omega (arith, below, k)) other lt))))

    -- an element that stands in a temporary: to read it is to set what that one holds
    read_held : (s : State) (t u : ℕ) (r : Array) (i : Tree) (l : Leaf) → Reads facts i (tree_of l) → Contains facts (fact u (Element r l)) → AreKnown temps facts s →
        step setting frame (nodes i) (read_end t r s (of i s)) ≡ step setting frame 1 (Next (with_temp s t (slice_index s.temps u)))
    read_held s t u r i l h c known =
        let holds = known.true (fact u (Element r l)) c in
        let one : nodes i ≡ 1 = sym (reads_nodes facts i (tree_of l) h) ∙ leaf_nodes l in
        ap (λ n. step setting frame n (read_end t r s (of i s))) one ∙ ap (λ k. step setting frame 1 (read_end t r s k)) (leaf_read setting frame s facts known.true i l h)
        ∙ ap (λ b. step setting frame 1 (cond b (Next (with_temp s t (slice_index (elements r s) (leaf_value s l)))) (Ends (outside r (leaf_value s l) s.world)))) (lt-ltb _ _ holds.0)
        ∙ ap (λ v. step setting frame 1 (Next (with_temp s t v))) (sym holds.1)

    set_temp : (s : State) (t u : ℕ) → step setting frame (nodes (temp u)) (Next (with_temp s t (of (temp u) s))) ≡ step setting frame 1 (Next (with_temp s t (slice_index s.temps u)))
    set_temp s t u =
        ap (λ n. step setting frame n (Next (with_temp s t (of (temp u) s)))) (leaf_nodes (Temp u))
        ∙ ap (λ v. step setting frame 1 (Next (with_temp s t v))) (leaf_means setting frame s (Temp u))

    moved_same : (t u : ℕ) (r : Array) (i : Tree) (l : Leaf) → Reads facts i (tree_of l) → Contains facts (fact u (Element r l)) → (bound : Bound) (s : State) → AreKnown temps facts s →
        layer_means setting frame (stm.Set t (temp u)) bound s ≡ layer_means setting frame (stm.Read t r i) bound s
    moved_same t u r i l h c bound s known = set_temp s t u ∙ sym (read_held s t u r i l h c known)

    pub moved_runs : (after : List Fact) (t u : ℕ) (r : Array) (i : Tree) (l : Leaf) → Reads facts i (tree_of l) → Contains facts (fact u (Element r l)) → t < temps → eqb u t ≡ false →
        Learned t (Value (Temp u)) facts after → Runs facts after (roll-Stm (stm.Read t r i)) (roll-Stm (stm.Set t (temp u)))
    moved_runs after t u r i l h c lt other stay = of_layers facts after (stm.Read t r i) (stm.Set t (temp u)) (moved_same t u r i l h c)
        (λ bound s known. subst (λ (run : Run). GoesOn temps after run.outcome) (sym (read_held s t u r i l h c known))
        (learned_known temps facts after s t (slice_index s.temps u) (Value (Temp u)) stay known (value_held temps s t (Temp u) (let k = known.enough in omega (arith, lt, k)) other)))

    pub there_runs : (t : ℕ) (r : Array) (i : Tree) (l : Leaf) → Reads facts i (tree_of l) → Contains facts (fact t (Element r l)) →
        Runs facts facts (roll-Stm (stm.Read t r i)) (roll-Stm (stm.Set t (temp t)))
    there_runs t r i l h c = of_layers facts facts (stm.Read t r i) (stm.Set t (temp t)) (moved_same t t r i l h c)
        (λ bound s known. subst (λ (run : Run). GoesOn temps facts run.outcome) (sym (read_held s t t r i l h c known)) (subst (AreKnown temps facts) (sym (same_state s t)) known))

    pub written_runs : (after : List Fact) (r : Array) (i j v w : Tree) → Reads facts i j → Reads facts v w → Unstored r facts after →
        Runs facts after (roll-Stm (stm.Write r i v)) (roll-Stm (stm.Write r j w))
    written_runs after r i j v w h k stay = of_layers facts after (stm.Write r i v) (stm.Write r j w)
        (λ bound s known. stepped_both s i j v w
        (λ x y. cond (ltb x (length (elements r s))) (Next (with_elements r s (slice_set (elements r s) x y))) (Ends (outside r x s.world))) known h k)
        (λ bound s known. within_goes_on after (of i s) (length (elements r s)) (with_elements r s (slice_set (elements r s) (of i s) (of v s))) _
        (λ lt. stored_known temps facts after r s _ stay known))

    pub zeroed_runs : (after : List Fact) (l : ℕ) → Unstored (array.Local l) facts after → Runs facts after (roll-Stm (stm.Zero l)) (roll-Stm (stm.Zero l))
    zeroed_runs after l stay = of_layers facts after (stm.Zero l) (stm.Zero l) (λ bound s known. refl) (λ bound s known. stored_known temps facts after (array.Local l) s _ stay known)

    -- ---- calls

    end_goes_on : (r : Option ℕ) (after : List Fact) → Uncalled r facts after → (s : State) → AreKnown temps facts s → (e : End) → GoesOn temps after (call_end r s e)
    end_goes_on None after stay s known (Returned v w) = called_known temps facts after None s w 0 stay known
    end_goes_on (Some t) after stay s known (Returned None w) = tt
    end_goes_on (Some t) after stay s known (Returned (Some v) w) = called_known temps facts after (Some t) s w v stay known
    end_goes_on None after stay s known (Trapped c w) = tt
    end_goes_on (Some t) after stay s known (Trapped c w) = tt
    end_goes_on None after stay s known (More w) = tt
    end_goes_on (Some t) after stay s known (More w) = tt
    end_goes_on None after stay s known Stuck = tt
    end_goes_on (Some t) after stay s known Stuck = tt

    bounded_goes_on : (after : List Fact) (f : Calls → Run) (bound : Bound) (s : State) → ((calls : Calls) → GoesOn temps after (f calls).outcome) →
        GoesOn temps after (within bound f s).outcome
    bounded_goes_on after f [] s h = tt
    bounded_goes_on after f (calls ∷ below) s h = h calls

    either_goes_on : (after : List Fact) (c : Bool) (a b : Run) → GoesOn temps after a.outcome → GoesOn temps after b.outcome → GoesOn temps after (cond c a b).outcome
    either_goes_on after true a b h k = h
    either_goes_on after false a b h k = k

    -- a call at a depth, whose end at the greatest depth is whatever it is
    deep_goes_on : (r : Option ℕ) (after : List Fact) → Uncalled r facts after → (depth limit : ℕ) (z : End) (made : Calls → Call) (bound : Bound) (s : State) → AreKnown temps facts s →
        GoesOn temps after (cond (ltb depth limit) (within bound (λ calls. made_call r s (made calls)) s) (now (Ends z))).outcome
    deep_goes_on r after stay depth limit z made bound s known =
        either_goes_on after (ltb depth limit) (within bound (λ calls. made_call r s (made calls)) s) (now (Ends z))
        (bounded_goes_on after (λ calls. made_call r s (made calls)) bound s (λ calls. end_goes_on r after stay s known (made calls).end)) tt

    to_goes_on : (r : Option ℕ) (after : List Fact) → Uncalled r facts after → (g : Goal) (depth live : ℕ) (args : List ℕ) (bound : Bound) (s : State) → AreKnown temps facts s →
        GoesOn temps after (call_to g depth live r args bound s).outcome
    to_goes_on r after stay Nowhere depth live args bound s known = tt
    to_goes_on r after stay Null depth live args bound s known = tt
    to_goes_on r after stay (At f) depth live args bound s known = deep_goes_on r after stay depth _ _ (λ calls. calls f args depth live s.world) bound s known
    to_goes_on r after stay Inside depth live args bound s known = deep_goes_on r after stay depth _ _ (λ calls. record { cost = 0; end = Returned None s.world }) bound s known

    abbrev call_run : Option ℕ → Bound → State → ℕ → ℕ → ℕ → Goal → List ℕ → Run
    call_run r bound s cost callee_count count g args = spend (cost + 3 * (callee_count + count)) (call_to g frame.depth frame.live r args bound s)

    pub called_runs : (after : List Fact) (r : Option ℕ) (f f' : Callee) (xs ys : List Tree) → ReadsCallee facts f f' → ReadsAll facts xs ys → Uncalled r facts after →
        Runs facts after (roll-Stm (stm.Call r f xs)) (roll-Stm (stm.Call r f' ys))
    called_runs after r f f' xs ys h k stay = of_layers facts after (stm.Call r f xs) (stm.Call r f' ys)
        (λ bound s known.
        let run = call_run r bound s in
        let args : List Tree → List ℕ = map (λ t. of_tree setting frame t s) in
        ap (λ n. run n (callee_nodes setting frame f') (nodes_of_all ys) (goal setting frame f' s) (args ys)) (same_call_cost facts f f' h)
        ∙ ap (λ n. run (call_cost f) n (nodes_of_all ys) (goal setting frame f' s) (args ys)) (same_callee_nodes setting frame s facts f f' h)
        ∙ ap (λ n. run (call_cost f) (callee_nodes setting frame f) n (goal setting frame f' s) (args ys)) (all_nodes facts xs ys k)
        ∙ ap (λ g. run (call_cost f) (callee_nodes setting frame f) (nodes_of_all xs) g (args ys)) (same_goal setting frame s facts known.true f f' h)
        ∙ ap (run (call_cost f) (callee_nodes setting frame f) (nodes_of_all xs) (goal setting frame f s)) (all_values setting frame s facts known.true xs ys k))
        (λ bound s known. to_goes_on r after stay (goal setting frame f s) frame.depth frame.live _ bound s known)

    pub asked_runs : (after : List Fact) (r : Option ℕ) (k : Known) (xs ys : List Tree) → ReadsAll facts xs ys → Uncalled r facts after →
        Runs facts after (roll-Stm (stm.Known r k xs)) (roll-Stm (stm.Known r k ys))
    asked_runs after r k xs ys h stay = of_layers facts after (stm.Known r k xs) (stm.Known r k ys)
        (λ bound s known.
        let run : ℕ → List ℕ → Run = λ n args. spend (30 + 3 * n) (known_end setting frame r s (setting.known k args frame.live s.world)) in
        ap (λ n. run n (map (λ t. of_tree setting frame t s) ys)) (all_nodes facts xs ys h) ∙ ap (run (nodes_of_all xs)) (all_values setting frame s facts known.true xs ys h))
        (λ bound s known. called_known temps facts after r s _ _ stay known)

    -- ---- jumps

    pub returned_runs : (v w : Tree) → Reads facts v w → Runs facts facts (roll-Stm (stm.Return v)) (roll-Stm (stm.Return w))
    returned_runs v w h = of_layers facts facts (stm.Return v) (stm.Return w) (λ bound s known. stepped s v w (λ x. Ends (Returned (Some x) s.world)) known h) (λ bound s known. tt)

    pub leave_runs : (n : ℕ) → Runs facts facts (roll-Stm (stm.Break n)) (roll-Stm (stm.Break n))
    leave_runs n = of_layers facts facts (stm.Break n) (stm.Break n) (λ bound s known. refl) (λ bound s known. known.enough)

    pub again_runs : (n : ℕ) → Runs facts facts (roll-Stm (stm.Back n)) (roll-Stm (stm.Back n))
    again_runs n = of_layers facts facts (stm.Back n) (stm.Back n) (λ bound s known. refl) (λ bound s known. known.enough)
