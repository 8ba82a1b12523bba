-- Where arms are reached by one jump no temporary is live or written that wasn't.
use Rattle.std.proofs.Common.{arith, ◌≡◌, ℕ, zero, suc, ◌+◌, ◌≤◌, Bool, true, false, not, ltb, ◌&&◌, ◌||◌, List, [], ◌∷◌, ◌++◌, length, map, Option, Some, None, refl, sym, ◌∙◌, ap, subst, ◌⊎◌, inl, inr}
use Rattle.std.proofs.lemmas.Bool.{or_left, or_right}
use Rattle.mv_num.proofs.Booleans.{or_cases, from_falsity}
use Rattle.mv_ast.specs.Names.{any_of}
use Rattle.mv_ir.specs.declared.tree.Tree.{Tree}
use Rattle.mv_ir.specs.declared.stm.Stm.{Stm, out-Stm}
use Rattle.mv_ir.specs.declared.stm.Stm.TheOpen.{Stm-F}
use Rattle.mv_ir.specs.declared.stm.Stm.TheOpen as stm
use Rattle.mv_ir.specs.declared.stm.Stm.TheViews.{roll-Stm, roll-out-Stm}
use Rattle.mv_ir.specs.declared.body.Body.{Body}
use Rattle.mv_ir.specs.Measures.{callee_trees}
use Rattle.mv_ir.specs.Live.{reads_temp, any_reads, is, Around, Flow, with_after, around_block, around_loop, live_in_order, marks_in_order, live_at_loop, plain, goes_next, flow, nowhere, all_marks, IsWhole, HasTemps}
use Rattle.mv_ir.specs.Rolled.{number, set, choose, break, repeat, enclosed}
use Rattle.mv_ir.proofs.Rolls.{flow_roll, flow_of_layer}
use Rattle.mv_fold.proofs.Marks.{any_marked, marked_any, any_left, any_right, any_cases, any_both}
use Rattle.mv_fold.proofs.Thinner.{or_both}
use Rattle.mv_arms.specs.Arms.{level, back, passed, skips, Steered, other, test, IsArm, AreArms, layer_is_still, is_still, Arms, Nests, none, still, leave, again, branch, turns, block, switch, all, arm}
use Rattle.mv_arms.specs.Walking.{leaving, with_code}
use Rattle.mv_arms.proofs.Via.{same_level}
use Rattle.mv_arms.proofs.Walked.{still_roll}
use Rattle.mv_arms.proofs.Steering.{passed_within, are_count, same_left}

-- where one is, the other is
abbrev From : Bool → Bool → Type 0
From a b = b ≡ true → a ≡ true

and_from : (a b c : Bool) → From b c → From (a && b) (a && c)
and_from true b c h e = h e
and_from false b c h e = from_falsity e

-- ---- what is around code

pub record Fits (levels : List ℕ) (r r' : Around) : Type 0 where
  pub next : From r.next r'.next
  pub leaves : (n : ℕ) → From (r.leaves n) (r'.leaves (level levels n))
  pub restarts : (n : ℕ) → From (r.restarts n) (r'.restarts (level levels n))

fits_after : (levels : List ℕ) (r r' : Around) (b b' : Bool) → Fits levels r r' → From b b' → Fits levels (with_after r b) (with_after r' b')
fits_after levels r r' b b' h k = record { next = k; leaves = h.leaves; restarts = h.restarts }

fits_block : (levels : List ℕ) (r r' : Around) → Fits levels r r' → Fits (0 ∷ levels) (around_block r) (around_block r')
fits_block levels r r' h = record { next = h.next; leaves = leaves; restarts = restarts }
  where
    leaves : (n : ℕ) → From ((around_block r).leaves n) ((around_block r').leaves (level (0 ∷ levels) n))
    leaves zero e = h.next e
    leaves (suc n) e = h.leaves n (ap r'.leaves (same_level levels n) ∙ e)

    restarts : (n : ℕ) → From ((around_block r).restarts n) ((around_block r').restarts (level (0 ∷ levels) n))
    restarts zero e = from_falsity e
    restarts (suc n) e = h.restarts n (ap r'.restarts (same_level levels n) ∙ e)

fits_loop : (levels : List ℕ) (r r' : Around) (b b' : Bool) → Fits levels r r' → From b b' → Fits (0 ∷ levels) (around_loop r b) (around_loop r' b')
fits_loop levels r r' b b' h k = record { next = k; leaves = leaves; restarts = restarts }
  where
    leaves : (n : ℕ) → From ((around_loop r b).leaves n) ((around_loop r' b').leaves (level (0 ∷ levels) n))
    leaves zero e = h.next e
    leaves (suc n) e = h.leaves n (ap r'.leaves (same_level levels n) ∙ e)

    restarts : (n : ℕ) → From ((around_loop r b).restarts n) ((around_loop r' b').restarts (level (0 ∷ levels) n))
    restarts zero e = k e
    restarts (suc n) e = h.restarts n (ap r'.restarts (same_level levels n) ∙ e)

-- inside a block more
fits_inside : (levels : List ℕ) (k : ℕ) (r r' : Around) (b b' : Bool) → Fits (k ∷ levels) r r' → From b b' → Fits (suc k ∷ levels) (with_after r b) (around_block (with_after r' b'))
fits_inside levels k r r' b b' h g = record { next = g; leaves = leaves; restarts = restarts }
  where
    deeper : (n : ℕ) → suc (level levels n + k) ≡ level levels n + suc k
    deeper n = omega arith

    leaves : (n : ℕ) → From (r.leaves n) ((around_block (with_after r' b')).leaves (level (suc k ∷ levels) n))
    leaves zero e = h.leaves zero e
    leaves (suc n) e = h.leaves (suc n) (ap r'.leaves (deeper n) ∙ e)

    restarts : (n : ℕ) → From (r.restarts n) ((around_block (with_after r' b')).restarts (level (suc k ∷ levels) n))
    restarts zero e = h.restarts zero e
    restarts (suc n) e = h.restarts (suc n) (ap r'.restarts (deeper n) ∙ e)

-- ---- as one temporary sees code

module _ (u : ℕ) where
  abbrev lives : List Stm → Around → Bool
  lives code r = live_in_order (map (flow u) code) r

  abbrev marked : List Stm → Around → Bool
  marked code r = any_of (marks_in_order (map (flow u) code) r)

  -- where it is live or written in the second, it is in the first
  record FlowThin (f f' : Flow) (r r' : Around) : Type 0 where
    pub live : From (f.live r) (f'.live r')
    pub marks : From (any_of (f.marks r)) (any_of (f'.marks r'))

  record Thin (xs ys : List Stm) (r r' : Around) : Type 0 where
    pub live : From (lives xs r) (lives ys r')
    pub marks : From (marked xs r) (marked ys r')

  nil_thin : (r r' : Around) → From r.next r'.next → Thin [] [] r r'
  nil_thin r r' h = record { live = h; marks = λ e. from_falsity e }

  cons_thin : (x y : Stm) (xs ys : List Stm) (r r' : Around) → FlowThin (flow u x) (flow u y) (with_after r (lives xs r)) (with_after r' (lives ys r')) → Thin xs ys r r' → Thin (x ∷ xs) (y ∷ ys) r r'
  cons_thin x y xs ys r r' h k = record {
    live = h.live;
    marks = any_both ((flow u x).marks (with_after r (lives xs r))) (marks_in_order (map (flow u) xs) r) ((flow u y).marks (with_after r' (lives ys r'))) (marks_in_order (map (flow u) ys) r') h.marks k.marks;
  }

  rolled_thin : (x y : Stm-F Stm) (r r' : Around) → FlowThin (flow_of_layer x u) (flow_of_layer y u) r r' → FlowThin (flow u (roll-Stm x)) (flow u (roll-Stm y)) r r'
  rolled_thin x y r r' h = subst (λ f. FlowThin f (flow u (roll-Stm y)) r r') (sym (flow_roll u x)) (subst (λ f. FlowThin (flow_of_layer x u) f r r') (sym (flow_roll u y)) h)

  -- a statement that reads some trees, may write a temporary, and goes on
  plain_thin : (ts : List Tree) (writes : Option ℕ) (on on' : Around → Bool) (r r' : Around) → From (on r) (on' r') → FlowThin (plain u ts writes on) (plain u ts writes on') r r'
  plain_thin ts writes on on' r r' h = record {
    live = live;
    marks = or_both ((any_reads u ts || (not (is writes u) && on r)) || is writes u) false ((any_reads u ts || (not (is writes u) && on' r')) || is writes u) false
        (or_both (any_reads u ts || (not (is writes u) && on r)) (is writes u) (any_reads u ts || (not (is writes u) && on' r')) (is writes u) live (λ e. e)) (λ e. e);
  }
    where
      live : From (any_reads u ts || (not (is writes u) && on r)) (any_reads u ts || (not (is writes u) && on' r'))
      live = or_both (any_reads u ts) (not (is writes u) && on r) (any_reads u ts) (not (is writes u) && on' r') (λ e. e) (and_from (not (is writes u)) (on r) (on' r') h)

  still_thin : (x : Stm-F Stm) (r r' : Around) → layer_is_still x ≡ true → From r.next r'.next → FlowThin (flow_of_layer x u) (flow_of_layer x u) r r'
  still_thin (stm.Set t v) r r' e h = plain_thin (v ∷ []) (Some t) goes_next goes_next r r' h
  still_thin (stm.SetGlobal g v) r r' e h = plain_thin (v ∷ []) None goes_next goes_next r r' h
  still_thin (stm.Divide t o a b) r r' e h = plain_thin (a ∷ b ∷ []) (Some t) goes_next goes_next r r' h
  still_thin (stm.Check a i) r r' e h = plain_thin (i ∷ []) None goes_next goes_next r r' h
  still_thin (stm.Read t a i) r r' e h = plain_thin (i ∷ []) (Some t) goes_next goes_next r r' h
  still_thin (stm.Write a i v) r r' e h = plain_thin (i ∷ v ∷ []) None goes_next goes_next r r' h
  still_thin (stm.Zero l) r r' e h = plain_thin [] None goes_next goes_next r r' h
  still_thin (stm.If t a b) r r' e h = from_falsity e
  still_thin (stm.Loop b) r r' e h = from_falsity e
  still_thin (stm.Block b) r r' e h = from_falsity e
  still_thin (stm.Break n) r r' e h = from_falsity e
  still_thin (stm.Back n) r r' e h = from_falsity e
  still_thin (stm.Call t f args) r r' e h = plain_thin (callee_trees f ++ args) t goes_next goes_next r r' h
  still_thin (stm.Known t k args) r r' e h = plain_thin args t goes_next goes_next r r' h
  still_thin (stm.Return v) r r' e h = plain_thin (v ∷ []) None (λ z. false) (λ z. false) r r' (λ f. f)

  stays_thin : (s : Stm) (r r' : Around) → is_still s ≡ true → From r.next r'.next → FlowThin (flow u s) (flow u s) r r'
  stays_thin s r r' e h =
      subst (λ x. FlowThin (flow u x) (flow u x) r r') (roll-out-Stm s)
      (rolled_thin (out-Stm s) (out-Stm s) r r' (still_thin (out-Stm s) r r' (sym (still_roll (out-Stm s)) ∙ ap is_still (roll-out-Stm s) ∙ e) h))

  break_thin : (n k : ℕ) (r r' : Around) → From (r.leaves n) (r'.leaves k) → FlowThin (flow u (break n)) (flow u (break k)) r r'
  break_thin n k r r' h = rolled_thin (stm.Break n) (stm.Break k) r r' (plain_thin [] None (λ z. z.leaves n) (λ z. z.leaves k) r r' h)

  back_thin : (n k : ℕ) (r r' : Around) → From (r.restarts n) (r'.restarts k) → FlowThin (flow u (back n)) (flow u (back k)) r r'
  back_thin n k r r' h = rolled_thin (stm.Back n) (stm.Back k) r r' (plain_thin [] None (λ z. z.restarts n) (λ z. z.restarts k) r r' h)

  choice_thin : (c : Tree) (a b a' b' : List Stm) (r r' : Around) → Thin a a' r r' → Thin b b' r r' → FlowThin (flow u (choose c a b)) (flow u (choose c a' b')) r r'
  choice_thin c a b a' b' r r' ha hb = rolled_thin (stm.If c a b) (stm.If c a' b') r r' (record {
    live = live;
    marks = or_both _ (any_of (marks_in_order (map (flow u) a) r ++ marks_in_order (map (flow u) b) r)) _ (any_of (marks_in_order (map (flow u) a') r' ++ marks_in_order (map (flow u) b') r')) live
        (any_both (marks_in_order (map (flow u) a) r) (marks_in_order (map (flow u) b) r) (marks_in_order (map (flow u) a') r') (marks_in_order (map (flow u) b') r') ha.marks hb.marks);
  })
    where
      live : From (reads_temp u c || (lives a r || lives b r)) (reads_temp u c || (lives a' r' || lives b' r'))
      live = or_both (reads_temp u c) (lives a r || lives b r) (reads_temp u c) (lives a' r' || lives b' r') (λ e. e) (or_both (lives a r) (lives b r) (lives a' r') (lives b' r') ha.live hb.live)

  block_thin : (b b' : List Stm) (r r' : Around) → Thin b b' (around_block r) (around_block r') → FlowThin (flow u (enclosed b)) (flow u (enclosed b')) r r'
  block_thin b b' r r' h = rolled_thin (stm.Block b) (stm.Block b') r r' (record { live = h.live; marks = or_both _ _ _ _ h.live h.marks })

  loop_thin : (b b' : List Stm) (r r' : Around) → ((s s' : Bool) → From s s' → Thin b b' (around_loop r s) (around_loop r' s')) → FlowThin (flow u (repeat b)) (flow u (repeat b')) r r'
  loop_thin b b' r r' h = rolled_thin (stm.Loop b) (stm.Loop b') r r' (record { live = start; marks = or_both _ _ _ _ start (h _ _ start).marks })
    where
      start : From (live_at_loop (map (flow u) b) r) (live_at_loop (map (flow u) b') r')
      start = (h false false (λ e. e)).live

  -- ---- statements before others

  block_first : (xs ys : List Stm) (r : Around) → lives (enclosed xs ∷ ys) r ≡ lives xs (around_block (with_after r (lives ys r)))
  block_first xs ys r = ap (λ (f : Flow). f.live (with_after r (lives ys r))) (flow_roll u (stm.Block xs))

  block_marks : (xs ys : List Stm) (r : Around) →
      marked (enclosed xs ∷ ys) r ≡ any_of ((lives xs (around_block (with_after r (lives ys r))) ∷ marks_in_order (map (flow u) xs) (around_block (with_after r (lives ys r)))) ++ marks_in_order (map (flow u) ys) r)
  block_marks xs ys r = ap (λ (f : Flow). any_of (f.marks (with_after r (lives ys r)) ++ marks_in_order (map (flow u) ys) r)) (flow_roll u (stm.Block xs))

  choice_first : (c : Tree) (a b ys : List Stm) (r : Around) →
      lives (choose c a b ∷ ys) r ≡ (reads_temp u c || (lives a (with_after r (lives ys r)) || lives b (with_after r (lives ys r))))
  choice_first c a b ys r = ap (λ (f : Flow). f.live (with_after r (lives ys r))) (flow_roll u (stm.If c a b))

  choice_marks : (c : Tree) (a b ys : List Stm) (r : Around) →
      marked (choose c a b ∷ ys) r ≡
      any_of (((reads_temp u c || (lives a (with_after r (lives ys r)) || lives b (with_after r (lives ys r)))) ∷
      (marks_in_order (map (flow u) a) (with_after r (lives ys r)) ++ marks_in_order (map (flow u) b) (with_after r (lives ys r)))) ++ marks_in_order (map (flow u) ys) r)
  choice_marks c a b ys r = ap (λ (f : Flow). any_of (f.marks (with_after r (lives ys r)) ++ marks_in_order (map (flow u) ys) r)) (flow_roll u (stm.If c a b))

  -- ---- a jump

  jump_lives : (k : ℕ) (r : Around) → lives (break k ∷ []) r ≡ r.leaves k
  jump_lives k r = ap (λ (f : Flow). f.live r) (flow_roll u (stm.Break k))

  jump_marked : (k : ℕ) (r : Around) → marked (break k ∷ []) r ≡ ((r.leaves k || false) || false)
  jump_marked k r = ap (λ (f : Flow). any_of (f.marks r ++ [])) (flow_roll u (stm.Break k))

  or_none : (b : Bool) → ((b || false) || false) ≡ b
  or_none true = refl
  or_none false = refl

  jump_thin : (n k : ℕ) (r r' : Around) → From (r.leaves n) (r'.leaves k) → Thin (break n ∷ []) (break k ∷ []) r r'
  jump_thin n k r r' h = record {
    live = λ e. jump_lives n r ∙ h (sym (jump_lives k r') ∙ e);
    marks = λ e. jump_marked n r ∙ or_none (r.leaves n) ∙ h (sym (jump_marked k r' ∙ or_none (r'.leaves k)) ∙ e);
  }

  -- ---- tests

  number_thin : (t p : ℕ) (r r' : Around) → From r.next r'.next → FlowThin (flow u (set t (number p))) (flow u (set t (number p))) r r'
  number_thin t p r r' h = rolled_thin (stm.Set t (number p)) (stm.Set t (number p)) r r' (still_thin (stm.Set t (number p)) r r' refl h)

  leaving_thin : (t p k : ℕ) (r r' : Around) → From (r.leaves 0) (r'.leaves k) → Thin (leaving t p 0) (leaving t p k) r r'
  leaving_thin t p k r r' h =
      let j = jump_thin 0 k r r' h in
      cons_thin (set t (number p)) (set t (number p)) (break 0 ∷ []) (break k ∷ []) r r' (number_thin t p (with_after r (lives (break 0 ∷ []) r)) (with_after r' (lives (break k ∷ []) r')) j.live) j

  -- the place behind the tests is live or not, and where the second's jumps lead to a live place, it is
  module _ (t : ℕ) (places : List ℕ) (r r' : Around) (here : Bool) (next : From r.next here) (leaves : From (r.leaves 0) here) (jumps : (p : ℕ) → From here (r'.leaves (passed places p))) where
    record TestsThin (xs ys : List Stm) : Type 0 where
      pub live : From (lives xs r) (lives ys r')
      pub marks : marked ys r' ≡ true → (marked xs r ≡ true) ⊎ (here ≡ true)

    tests_thin : (tests tests' : List Stm) → Steered t places tests tests' → TestsThin tests tests'
    tests_thin tests tests' (other p) = record { live = head.live; marks = λ e. by (any_cases (marks_of r' k) (marks_in_order (map (flow u) (break k ∷ [])) r') e) }
      where
        k : ℕ
        k = passed places p

        marks_of : Around → ℕ → List Bool
        marks_of v n = (flow u (set t (number p))).marks (with_after v (lives (break n ∷ []) v))

        head : FlowThin (flow u (set t (number p))) (flow u (set t (number p))) (with_after r r.next) (with_after r' (lives (break k ∷ []) r'))
        head = number_thin t p (with_after r r.next) (with_after r' (lives (break k ∷ []) r')) (λ e. next (jumps p (sym (jump_lives k r') ∙ e)))

        by : (any_of (marks_of r' k) ≡ true) ⊎ (marked (break k ∷ []) r' ≡ true) → (marked (set t (number p) ∷ []) r ≡ true) ⊎ (here ≡ true)
        by (inl e) = inl (any_left ((flow u (set t (number p))).marks (with_after r r.next)) [] (head.marks e))
        by (inr e) = inr (jumps p (sym (jump_marked k r' ∙ or_none (r'.leaves k)) ∙ e))
    tests_thin tests tests' (test c p rest rest' h) = let more = tests_thin rest rest' h in record { live = (head more).live; marks = λ e. by more (any_cases (marks_of r' k rest') (marks_in_order (map (flow u) rest') r') e) }
      where
        k : ℕ
        k = passed places p

        marks_of : Around → ℕ → List Stm → List Bool
        marks_of v n behind = (flow u (choose c (leaving t p n) [])).marks (with_after v (lives behind v))

        head : TestsThin rest rest' → FlowThin (flow u (choose c (leaving t p 0) [])) (flow u (choose c (leaving t p k) [])) (with_after r (lives rest r)) (with_after r' (lives rest' r'))
        head k2 =
            choice_thin c (leaving t p 0) [] (leaving t p k) [] (with_after r (lives rest r)) (with_after r' (lives rest' r'))
            (leaving_thin t p k (with_after r (lives rest r)) (with_after r' (lives rest' r')) (λ e. leaves (jumps p e))) (nil_thin (with_after r (lives rest r)) (with_after r' (lives rest' r')) k2.live)

        by : TestsThin rest rest' → (any_of (marks_of r' k rest') ≡ true) ⊎ (marked rest' r' ≡ true) → (marked (choose c (leaving t p 0) [] ∷ rest) r ≡ true) ⊎ (here ≡ true)
        by k2 (inl e) = inl (any_left (marks_of r 0 rest) (marks_in_order (map (flow u) rest) r) ((head k2).marks e))
        by k2 (inr e) = behind (k2.marks e)
          where
            behind : (marked rest r ≡ true) ⊎ (here ≡ true) → (marked (choose c (leaving t p 0) [] ∷ rest) r ≡ true) ⊎ (here ≡ true)
            behind (inl f) = inl (any_right (marks_of r 0 rest) (marks_in_order (map (flow u) rest) r) f)
            behind (inr f) = inr f

  -- ---- arms

  -- where it is live behind an arm, it is live before it, since that may be skipped
  skip_lives : (t i : ℕ) (c : Tree) (a b rest : List Stm) (r : Around) → IsArm t i (choose c a b) → From (lives (choose c a b ∷ rest) r) (lives rest r)
  skip_lives t i c a b rest r k e =
      let none_left : a ≡ [] = same_left c (skips i t) a [] b k.code k.is in
      choice_first c a b rest r ∙
      or_right (reads_temp u c) (lives a (with_after r (lives rest r)) || lives b (with_after r (lives rest r)))
      (or_left (lives a (with_after r (lives rest r))) (lives b (with_after r (lives rest r))) (ap (λ l. lives l (with_after r (lives rest r))) none_left ∙ e))

  -- and where it is live before the statements of an arm
  arm_lives : (c : Tree) (a b rest : List Stm) (r : Around) → From (lives (choose c a b ∷ rest) r) (lives b (with_after r (lives rest r)))
  arm_lives c a b rest r e =
      choice_first c a b rest r ∙
      or_right (reads_temp u c) (lives a (with_after r (lives rest r)) || lives b (with_after r (lives rest r)))
      (or_right (lives a (with_after r (lives rest r))) (lives b (with_after r (lives rest r))) e)

  arm_marked : (c : Tree) (a b rest : List Stm) (r : Around) → From (marked (choose c a b ∷ rest) r) (marked b (with_after r (lives rest r)))
  arm_marked c a b rest r e =
      let v = with_after r (lives rest r) in
      let parts = marks_in_order (map (flow u) a) v ++ marks_in_order (map (flow u) b) v in
      choice_marks c a b rest r ∙
      any_left ((reads_temp u c || (lives a v || lives b v)) ∷ parts) (marks_in_order (map (flow u) rest) r)
      (or_right (reads_temp u c || (lives a v || lives b v)) (any_of parts) (any_right (marks_in_order (map (flow u) a) v) (marks_in_order (map (flow u) b) v) e))

  behind_marked : (c : Tree) (a b rest : List Stm) (r : Around) → From (marked (choose c a b ∷ rest) r) (marked rest r)
  behind_marked c a b rest r e =
      let v = with_after r (lives rest r) in
      let parts = marks_in_order (map (flow u) a) v ++ marks_in_order (map (flow u) b) v in
      choice_marks c a b rest r ∙ any_right ((reads_temp u c || (lives a v || lives b v)) ∷ parts) (marks_in_order (map (flow u) rest) r) e

  -- where it is live before arms, it is so at the first
  first_marked : (t : ℕ) (places : List ℕ) (arms : List Stm) (r : Around) → AreArms t places arms → 1 ≤ length arms → From (marked arms r) (lives arms r)
  first_marked t places [] r h some e = absurd (omega (arith, some))
  first_marked t [] (x ∷ rest) r h some e = absurd h
  first_marked t (i ∷ places) (x ∷ rest) r h some e =
      let is = h.0.is in
      let code = h.0.code in
      let v = with_after r (lives rest r) in
      let parts = marks_in_order (map (flow u) []) v ++ marks_in_order (map (flow u) code) v in
      ap (λ y. marked (y ∷ rest) r) is ∙ choice_marks (skips i t) [] code rest r ∙
      any_left ((reads_temp u (skips i t) || (lives [] v || lives code v)) ∷ parts) (marks_in_order (map (flow u) rest) r)
      (or_left (reads_temp u (skips i t) || (lives [] v || lives code v)) (any_of parts) (sym (choice_first (skips i t) [] code rest r) ∙ sym (ap (λ y. lives (y ∷ rest) r) is) ∙ e))

  -- ---- blocks within blocks

  -- what is around the innermost of them
  abbrev inside : (temps : ℕ) (levels : List ℕ) (inner arms made : List Stm) → Nests temps levels inner arms made → Around → Around
  inside temps levels inner arms made (all l x) r = r
  inside temps levels inner arms made (arm l x c a b b' rest all_made hb hn) r =
      let v = inside temps l (enclosed x ∷ b') rest all_made hn r in around_block (with_after v (lives b' v))

  made_lives : (temps : ℕ) (levels : List ℕ) (inner arms made : List Stm) (h : Nests temps levels inner arms made) (r : Around) → lives made r ≡ lives inner (inside temps levels inner arms made h r)
  made_lives temps levels inner arms made (all l x) r = refl
  made_lives temps levels inner arms made (arm l x c a b b' rest all_made hb hn) r =
      made_lives temps l (enclosed x ∷ b') rest all_made hn r ∙ block_first x b' (inside temps l (enclosed x ∷ b') rest all_made hn r)

  -- blocks within blocks, where r is around the arms and r' around the outermost list
  record NestsThin (levels : List ℕ) (inner arms made : List Stm) (r r' within : Around) : Type 0 where
    pub fits : Fits (length arms ∷ levels) (with_after r (lives arms r)) within
    pub jumps : (j : ℕ) → j ≤ length arms → From (lives arms r) (within.leaves j)
    pub marks : marked made r' ≡ true → (lives inner within ≡ true) ⊎ ((marked inner within ≡ true) ⊎ (marked arms r ≡ true))

  -- one arm more
  module _ (levels : List ℕ) (x : List Stm) (c : Tree) (a b b' rest made : List Stm) (t i : ℕ) (is : IsArm t i (choose c a b)) (r r' v : Around) (k : NestsThin levels (enclosed x ∷ b') rest made r r' v)
      (h : Thin b b' (with_after r (lives rest r)) v) where
    abbrev deeper : Around
    deeper = around_block (with_after v (lives b' v))

    abbrev Where : Type 0
    Where = (lives x deeper ≡ true) ⊎ ((marked x deeper ≡ true) ⊎ (marked (choose c a b ∷ rest) r ≡ true))

    from_arm : From (lives (choose c a b ∷ rest) r) (lives b' v)
    from_arm e = arm_lives c a b rest r (h.live e)

    one_more : NestsThin levels x (choose c a b ∷ rest) made r r' deeper
    one_more = record { fits = fits_inside levels (length rest) (with_after r (lives rest r)) v (lives (choose c a b ∷ rest) r) (lives b' v) k.fits from_arm; jumps = jumps; marks = λ e. by (k.marks e) }
      where
        jumps : (j : ℕ) → j ≤ suc (length rest) → From (lives (choose c a b ∷ rest) r) (deeper.leaves j)
        jumps zero le e = from_arm e
        jumps (suc j) le e = skip_lives t i c a b rest r is (k.jumps j (omega (arith, le)) e)

        block_cases : ((lives x deeper || any_of (marks_in_order (map (flow u) x) deeper)) ≡ true) ⊎ (marked b' v ≡ true) → Where
        block_cases (inl e) = own (or_cases (lives x deeper) (marked x deeper) e)
          where
            own : (lives x deeper ≡ true) ⊎ (marked x deeper ≡ true) → Where
            own (inl f) = inl f
            own (inr f) = inr (inl f)
        block_cases (inr e) = inr (inr (arm_marked c a b rest r (h.marks e)))

        by : (lives (enclosed x ∷ b') v ≡ true) ⊎ ((marked (enclosed x ∷ b') v ≡ true) ⊎ (marked rest r ≡ true)) → Where
        by (inl e) = inl (sym (block_first x b' v) ∙ e)
        by (inr (inl e)) = block_cases (any_cases (lives x deeper ∷ marks_in_order (map (flow u) x) deeper) (marks_in_order (map (flow u) b') v) (sym (block_marks x b' v) ∙ e))
        by (inr (inr e)) = inr (inr (behind_marked c a b rest r e))

  -- a `switch`, from what its arms become
  module _ (levels : List ℕ) (t : ℕ) (places : List ℕ) (tests tests' arms made : List Stm) (some : 1 ≤ length arms) (are : AreArms t places arms) (steered : Steered t places tests tests') (r r' within : Around)
      (live_is : lives made r' ≡ lives tests' within) (k : NestsThin levels tests' arms made r r' within) where
    abbrev old : Around
    old = around_block (with_after r (lives arms r))

    tests_thinner : TestsThin t places old within (lives arms r) (λ e. e) (λ e. e) (λ p. k.jumps (passed places p) (omega (arith, passed_within places p, are_count t places arms are))) tests tests'
    tests_thinner = tests_thin t places old within (lives arms r) (λ e. e) (λ e. e) (λ p. k.jumps (passed places p) (omega (arith, passed_within places p, are_count t places arms are))) tests tests' steered

    switch_thin : Thin (enclosed tests ∷ arms) made r r'
    switch_thin = record { live = live; marks = λ e. by (k.marks e) }
      where
        live : From (lives (enclosed tests ∷ arms) r) (lives made r')
        live e = block_first tests arms r ∙ tests_thinner.live (sym live_is ∙ e)

        at_block : (lives tests old || any_of (marks_in_order (map (flow u) tests) old)) ≡ true → marked (enclosed tests ∷ arms) r ≡ true
        at_block e = block_marks tests arms r ∙ any_left (lives tests old ∷ marks_in_order (map (flow u) tests) old) (marks_in_order (map (flow u) arms) r) e

        at_arms : marked arms r ≡ true → marked (enclosed tests ∷ arms) r ≡ true
        at_arms e = block_marks tests arms r ∙ any_right (lives tests old ∷ marks_in_order (map (flow u) tests) old) (marks_in_order (map (flow u) arms) r) e

        at_tests : (marked tests old ≡ true) ⊎ (lives arms r ≡ true) → marked (enclosed tests ∷ arms) r ≡ true
        at_tests (inl e) = at_block (or_right (lives tests old) (marked tests old) e)
        at_tests (inr e) = at_arms (first_marked t places arms r are some e)

        by : (lives tests' within ≡ true) ⊎ ((marked tests' within ≡ true) ⊎ (marked arms r ≡ true)) → marked (enclosed tests ∷ arms) r ≡ true
        by (inl e) = at_block (or_left (lives tests old) (marked tests old) (tests_thinner.live e))
        by (inr (inl e)) = at_tests (tests_thinner.marks e)
        by (inr (inr e)) = at_arms e

  -- ---- code

  abbrev CodeThin : List ℕ → List Stm → List Stm → Type 0
  CodeThin levels code code' = (r r' : Around) → Fits levels r r' → Thin code code' r r'

  after : (levels : List ℕ) (x y : Stm) (rest rest' : List Stm) → ((r r' : Around) → Fits levels r r' → FlowThin (flow u x) (flow u y) r r') → CodeThin levels rest rest' → CodeThin levels (x ∷ rest) (y ∷ rest')
  after levels x y rest rest' h k r r' f =
      let more = k r r' f in
      cons_thin x y rest rest' r r' (h (with_after r (lives rest r)) (with_after r' (lives rest' r')) (fits_after levels r r' (lives rest r) (lives rest' r') f more.live)) more

  mutual
    arms_thin : (temps : ℕ) (levels : List ℕ) (code code' : List Stm) → Arms temps levels code code' → CodeThin levels code code'
    arms_thin temps levels code code' (none l) = λ r r' f. nil_thin r r' f.next
    arms_thin temps levels code code' (still l s rest rest' e h) = after l s s rest rest' (λ r r' f. stays_thin s r r' e f.next) (arms_thin temps l rest rest' h)
    arms_thin temps levels code code' (leave l n rest rest' h) = after l (break n) (break (level l n)) rest rest' (λ r r' f. break_thin n (level l n) r r' (f.leaves n)) (arms_thin temps l rest rest' h)
    arms_thin temps levels code code' (again l n rest rest' h) = after l (back n) (back (level l n)) rest rest' (λ r r' f. back_thin n (level l n) r r' (f.restarts n)) (arms_thin temps l rest rest' h)
    arms_thin temps levels code code' (branch l c a b a' b' rest rest' ha hb h) =
        after l (choose c a b) (choose c a' b') rest rest' (λ r r' f. choice_thin c a b a' b' r r' (arms_thin temps l a a' ha r r' f) (arms_thin temps l b b' hb r r' f)) (arms_thin temps l rest rest' h)
    arms_thin temps levels code code' (turns l b b' rest rest' hb h) =
        after l (repeat b) (repeat b') rest rest' (λ r r' f. loop_thin b b' r r' (λ s s' g. arms_thin temps (0 ∷ l) b b' hb (around_loop r s) (around_loop r' s') (fits_loop l r r' s s' f g)))
        (arms_thin temps l rest rest' h)
    arms_thin temps levels code code' (block l b b' rest rest' hb h) =
        after l (enclosed b) (enclosed b') rest rest' (λ r r' f. block_thin b b' r r' (arms_thin temps (0 ∷ l) b b' hb (around_block r) (around_block r') (fits_block l r r' f))) (arms_thin temps l rest rest' h)
    arms_thin temps levels code code' (switch l t places tests tests' arms made rest rest' low some are steered hn h) =
        after l (enclosed (enclosed tests ∷ arms)) (enclosed made) rest rest'
        (λ r r' f. block_thin (enclosed tests ∷ arms) made r r'
        (switch_thin l t places tests tests' arms made some are steered (around_block r) (around_block r') (inside temps l tests' arms made hn (around_block r'))
        (made_lives temps l tests' arms made hn (around_block r')) (nests_thin temps l t places tests' arms made are hn (around_block r) (around_block r') (fits_block l r r' f) f.next)))
        (arms_thin temps l rest rest' h)

    nests_thin : (temps : ℕ) (levels : List ℕ) (t : ℕ) (places : List ℕ) (inner arms made : List Stm) → AreArms t places arms → (h : Nests temps levels inner arms made) → (r r' : Around) → Fits (0 ∷ levels) r r' →
        From r.next (r'.leaves 0) → NestsThin levels inner arms made r r' (inside temps levels inner arms made h r')
    nests_thin temps levels t places inner arms made are (all l x) r r' f g = record { fits = f; jumps = jumps; marks = λ e. inr (inl e) }
      where
        jumps : (j : ℕ) → j ≤ 0 → From r.next (r'.leaves j)
        jumps zero le e = g e
        jumps (suc j) le e = absurd (omega (arith, le))
    nests_thin temps levels t [] inner arms made are (arm l x c a b b' rest all_made hb hn) r r' f g = absurd are
    nests_thin temps levels t (i ∷ places) inner arms made are (arm l x c a b b' rest all_made hb hn) r r' f g =
        let v = inside temps l (enclosed x ∷ b') rest all_made hn r' in
        let k = nests_thin temps l t places (enclosed x ∷ b') rest all_made are.1 hn r r' f g in
        one_more l x c a b b' rest all_made t i are.0 r r' v k (arms_thin temps (length rest ∷ l) b b' hb (with_after r (lives rest r)) v k.fits)

  nowhere_fits : Fits [] nowhere nowhere
  nowhere_fits = record { next = λ e. e; leaves = λ n e. e; restarts = λ n e. e }

  body_thin : (temps : ℕ) (code code' : List Stm) → Arms temps [] code code' → Thin code code' nowhere nowhere
  body_thin temps code code' h = arms_thin temps [] code code' h nowhere nowhere nowhere_fits

-- ---- bodies

pub arms_whole : (body : Body) (code : List Stm) → Arms body.temps [] body.code code → IsWhole body → IsWhole (with_code body code)
arms_whole body code h whole t e = whole t ((body_thin t body.temps body.code code h).live e)

pub arms_have_temps : (body : Body) (code : List Stm) → Arms body.temps [] body.code code → HasTemps body → HasTemps (with_code body code)
arms_have_temps body code h has i t e =
    let k = body_thin t body.temps body.code code h in
    let begins = or_both (lives t body.code nowhere) (ltb t body.params) (lives t code nowhere) (ltb t body.params) k.live (λ g. g) in
    let there = or_both _ (marked t body.code nowhere) _ (marked t code nowhere) begins k.marks (marked_any (all_marks (with_code body code) t) i e) in
    let place = any_marked (all_marks body t) there in
    has place.0 t place.1
