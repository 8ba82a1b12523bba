-- Code with short bodies in place of calls means the same, over callees that do what the short bodies do.
use Rattle.std.proofs.Common.{arith, ◌≡◌, ℕ, zero, suc, ◌+◌, ◌-◌, ◌*◌, ◌<◌, ◌≤◌, Bool, true, false, cond, eqb, ltb, List, [], ◌∷◌, ◌++◌, map, length, Option, Some, None, refl, sym, ◌∙◌, ap, subst, ◌⊎◌, inl, inr}
use Rattle.std.specs.Prelude.{slice_get, slice_index, slice_set}
use Rattle.std.proofs.lemmas.List.{length-set, length-map, get_or-set_other}
use Rattle.std.proofs.lemmas.Grind.{get_or-set_at}
use Rattle.std.proofs.lemmas.Bool.{cases_eq}
use Rattle.mv_bindings.specs.Traps as trap
use Rattle.mv_fold.proofs.Reached.{eqb_self}
use Rattle.mv_fold.proofs.NeededKept.{value_same}
use Rattle.mv_ir.specs.declared.tree.Tree.{Tree}
use Rattle.mv_ir.specs.declared.stm.Callee.{Callee}
use Rattle.mv_ir.specs.declared.stm.Callee.TheVariants as callee
use Rattle.mv_ir.specs.declared.stm.Stm.{Stm}
use Rattle.mv_ir.specs.declared.stm.Stm.TheOpen.{Stm-F}
use Rattle.mv_ir.specs.declared.stm.Stm.TheOpen as stm
use Rattle.mv_ir.specs.declared.stm.Stm.TheViews.{roll-Stm}
use Rattle.mv_ir.specs.declared.body.Body.{Body}
use Rattle.mv_ir.specs.World.{World, Setting, Frame}
use Rattle.mv_ir.specs.Trees.{value, nodes_of_all}
use Rattle.mv_ir.specs.Outcome.{State, Returned, More, Next, Run, Call, Calls, Bound, Meaning, spend, now, then_do, in_order, loop}
use Rattle.mv_ir.specs.Meaning.{call_end, made_call, within, traps, meaning, first_temps, entry_state}
use Rattle.mv_ir.specs.Measures.{callee_trees}
use Rattle.mv_ir.specs.Live.{goes_next}
use Rattle.mv_ir.specs.WellFormed.{IsWellFormed}
use Rattle.mv_ir.specs.Rolled.{call, choose, repeat, enclosed}
use Rattle.mv_ir.specs.Shorts.{Shorts, any_frame, AreShorts, KeepsBodyWith}
use Rattle.mv_ir.proofs.Induction.{Each, StmChildren, stm_ind}
use Rattle.mv_ir.proofs.Keeping.{meaning_roll, layer_means, joined_runs}
use Rattle.mv_ir.proofs.Joining.{temps_enough, argument_at}
use Rattle.mv_ir.proofs.Relating.{StateRel, Places, under, in_block as within_block, in_loop as within_loop, RunRel, MeaningRel, then_rel, nil_rel, cons_rel, places_weaker, block_rel, turn_rel, loop_rel, end_same}
use Rattle.mv_ir.proofs.RelatedStatements.{from_temps, SameIn, SameTreesIn, SameCalleeIn, Writes, Puts, set_rel, set_global_rel, divide_rel, check_rel, read_rel, write_rel, zero_rel, if_rel, either_rel, break_rel, back_rel, call_rel, known_rel, return_rel, same_values}
use Rattle.mv_expand.specs.Straight.{short_temps, IsShort, AllShort}
use Rattle.mv_expand.specs.Placed.{straight_cost, IsPlaced}
use Rattle.mv_expand.specs.Expanding.{test_unless, Expands, none, same, branch, loop as looped, enclose, place}
use Rattle.mv_expand.proofs.Still.{short_value, short_gives}
use Rattle.mv_expand.proofs.Placing.{written, Behind, Goes, steps_go}
use Rattle.mv_expand.proofs.Below.{ReadsBelow, AllReadBelow, WritesBelow, IsBelow, AreBelow, first_read, rest_read, left_read, right_read, each_read, first_below, rest_below, then_below, else_below, test_below, loop_below, block_below, reads_below, writes_below, body_below}

module _ (n : ℕ) (setting : Setting) (frame : Frame) where
  -- temporaries that agree as far as the caller's go, with room for those of a short body behind them
  pub record Agree (xs ys : List ℕ) : Type 0 where
    pub long : n ≤ length xs
    pub room : n + short_temps ≤ length ys
    pub same : (t : ℕ) → t < n → slice_index xs t ≡ slice_index ys t

  abbrev pub places : Places
  places = record { next = Agree; leaves = λ k. Agree; restarts = λ k. Agree }

  unchanged : (xs ys : List ℕ) → Agree xs ys → Agree xs ys
  unchanged xs ys a = a

  under_all : (k : ℕ) (xs ys : List ℕ) → Agree xs ys → under Agree Agree k (λ k. Agree) xs ys
  under_all zero xs ys a = a
  under_all (suc k) xs ys a = a

  -- ---- trees

  same_in : (x : Tree) → ReadsBelow n x → SameIn setting frame Agree x x
  same_in x h = record { value = λ xs ys globals a. value_same setting.numbers frame.bound xs ys globals x (λ t r. a.same t (h t r)); smaller = omega arith }

  many_in : (xs : List Tree) → AllReadBelow n xs → SameTreesIn setting frame Agree places xs xs
  many_in [] h = tt
  many_in (x ∷ xs) h = (same_in x (first_read n x xs h), many_in xs (rest_read n x xs h))

  callee_in : (f : Callee) → AllReadBelow n (callee_trees f) → SameCalleeIn setting frame Agree places f f
  callee_in (callee.Direct f) h = refl
  callee_in (callee.Through t) h = same_in t (first_read n t [] h)
  callee_in (callee.Switched g) h = refl
  callee_in callee.Expanded h = tt

  writes_in : (t : ℕ) → t < n → Writes setting frame Agree Agree t t
  writes_in t low xs ys v a = record {
    long = (let k = a.long in omega (arith, k, length-set xs t v));
    room = (let k = a.room in omega (arith, k, length-set ys t v));
    same = λ u l. by u l (cases_eq u t);
  }
    where
      by : (u : ℕ) → u < n → (u ≡ t) ⊎ (u ≡ t → ⊥) → slice_index (slice_set xs t v) u ≡ slice_index (slice_set ys t v) u
      by u l (inl e) = get_or-set_at xs t u v 0 e (let k = a.long in omega (arith, k, low)) ∙ sym (get_or-set_at ys t u v 0 e (let k = a.room in omega (arith, k, low)))
      by u l (inr ne) = get_or-set_other xs t u v 0 ne ∙ a.same u l ∙ sym (get_or-set_other ys t u v 0 ne)

  puts_in : (r : Option ℕ) → WritesBelow n r → Puts setting frame Agree places r r
  puts_in None h = unchanged
  puts_in (Some t) h = writes_in t (h t (eqb_self t))

  written_in : (r : Option ℕ) → WritesBelow n r → (v : ℕ) (xs ys : List ℕ) → Agree xs ys → Agree (written r v xs) (written r v ys)
  written_in None h v xs ys a = a
  written_in (Some t) h v xs ys a = writes_in t (h t (eqb_self t)) xs ys v a

  -- ---- a statement and itself

  abbrev m : Stm → Meaning
  m = meaning setting frame

  abbrev Self : Meaning → Meaning → Type 0
  Self = MeaningRel Agree places

  rolled : (x y : Stm-F Stm) → Self (layer_means setting frame x) (layer_means setting frame y) → Self (m (roll-Stm x)) (m (roll-Stm y))
  rolled x y h = subst (λ d. Self d (m (roll-Stm y))) (sym (meaning_roll setting frame x)) (subst (λ d. Self (layer_means setting frame x) d) (sym (meaning_roll setting frame y)) h)

  abbrev IsSelf : Stm → Type 0
  IsSelf s = IsBelow n s → Self (m s) (m s)

  self_code : (b : List Stm) → Each IsSelf b → AreBelow n b → Self (in_order (map m b)) (in_order (map m b))
  self_code [] h low = nil_rel Agree places
  self_code (s ∷ b) h low = cons_rel Agree Agree places (m s) (m s) (map m b) (map m b) (h.0 (first_below n s b low)) (self_code b h.1 (rest_below n s b low))

  self_layer : (x : Stm-F Stm) → StmChildren IsSelf x → IsBelow n (roll-Stm x) → Self (layer_means setting frame x) (layer_means setting frame x)
  self_layer (stm.Set t v) h low =
      let reads = reads_below n (stm.Set t v) low (v ∷ []) (Some t) goes_next (λ u. refl) in
      let writes = writes_below n (stm.Set t v) low (v ∷ []) (Some t) goes_next (λ u. refl) in
      set_rel setting frame Agree places t t v v (same_in v (first_read n v [] reads)) (writes_in t (writes t (eqb_self t)))
  self_layer (stm.SetGlobal g v) h low =
      let reads = reads_below n (stm.SetGlobal g v) low (v ∷ []) None goes_next (λ u. refl) in
      set_global_rel setting frame Agree places g v v (same_in v (first_read n v [] reads)) unchanged
  self_layer (stm.Divide t o a b) h low =
      let reads = reads_below n (stm.Divide t o a b) low (a ∷ b ∷ []) (Some t) goes_next (λ u. refl) in
      let writes = writes_below n (stm.Divide t o a b) low (a ∷ b ∷ []) (Some t) goes_next (λ u. refl) in
      divide_rel setting frame Agree places t t o a a b b (same_in a (first_read n a (b ∷ []) reads)) (same_in b (first_read n b [] (rest_read n a (b ∷ []) reads))) (writes_in t (writes t (eqb_self t)))
  self_layer (stm.Check a i) h low =
      let reads = reads_below n (stm.Check a i) low (i ∷ []) None goes_next (λ u. refl) in
      check_rel setting frame Agree places a i i (same_in i (first_read n i [] reads)) unchanged
  self_layer (stm.Read t a i) h low =
      let reads = reads_below n (stm.Read t a i) low (i ∷ []) (Some t) goes_next (λ u. refl) in
      let writes = writes_below n (stm.Read t a i) low (i ∷ []) (Some t) goes_next (λ u. refl) in
      read_rel setting frame Agree places t t a i i (same_in i (first_read n i [] reads)) (writes_in t (writes t (eqb_self t)))
  self_layer (stm.Write a i v) h low =
      let reads = reads_below n (stm.Write a i v) low (i ∷ v ∷ []) None goes_next (λ u. refl) in
      write_rel setting frame Agree places a i i v v (same_in i (first_read n i (v ∷ []) reads)) (same_in v (first_read n v [] (rest_read n i (v ∷ []) reads))) unchanged
  self_layer (stm.Zero l) h low = zero_rel setting frame Agree places l unchanged
  self_layer (stm.If v a b) h low =
      if_rel setting frame Agree places v v (map m a) (map m a) (map m b) (map m b) (same_in v (test_below n v a b low)) (self_code a h.0 (then_below n v a b low)) (self_code b h.1 (else_below n v a b low))
  self_layer (stm.Loop b) h low =
      loop_rel Agree places (in_order (map m b)) (in_order (map m b))
      (places_weaker Agree places (within_loop Agree places) _ _ unchanged under_all under_all (self_code b h (loop_below n b low)))
  self_layer (stm.Block b) h low =
      block_rel Agree Agree places (in_order (map m b)) (in_order (map m b))
      (places_weaker Agree places (within_block Agree places) _ _ unchanged under_all under_all (self_code b h (block_below n b low)))
  self_layer (stm.Break k) h low = break_rel setting frame Agree places k unchanged
  self_layer (stm.Back k) h low = back_rel setting frame Agree places k unchanged
  self_layer (stm.Call r f args) h low =
      let reads = reads_below n (stm.Call r f args) low (callee_trees f ++ args) r goes_next (λ u. refl) in
      let writes = writes_below n (stm.Call r f args) low (callee_trees f ++ args) r goes_next (λ u. refl) in
      call_rel setting frame Agree places r r f f args args (callee_in f (left_read n (callee_trees f) args reads)) (many_in args (right_read n (callee_trees f) args reads)) (puts_in r writes)
  self_layer (stm.Known r k args) h low =
      let reads = reads_below n (stm.Known r k args) low args r goes_next (λ u. refl) in
      let writes = writes_below n (stm.Known r k args) low args r goes_next (λ u. refl) in
      known_rel setting frame Agree places r r k args args (many_in args reads) (puts_in r writes)
  self_layer (stm.Return v) h low =
      let reads = reads_below n (stm.Return v) low (v ∷ []) None (λ r. false) (λ u. refl) in
      return_rel setting frame Agree places v v (same_in v (first_read n v [] reads))

  self : (s : Stm) → IsSelf s
  self = stm_ind IsSelf (λ x h low. rolled x x (self_layer x h low))

  -- ---- one bound

  module _ (shorts : Shorts) (all : AllShort shorts) where
    -- where the test was made, the bound and the depth let calls go on
    abbrev IsTested : Bool → Bound → Type 0
    IsTested false bound = Unit {0}
    IsTested true [] = ⊥
    IsTested true (calls ∷ below) = ltb frame.depth trap.depth_limit ≡ true

    abbrev Ready : Bool → Bound → Type 0
    Ready tested bound = AreShorts setting shorts bound × IsTested tested bound

    -- from related states, at each bound that is ready
    abbrev Expanded : Bool → Meaning → Meaning → Type 0
    Expanded tested x y = (bound : Bound) → Ready tested bound → (s s' : State) → StateRel Agree s s' → RunRel places (x bound s) (y bound s')

    -- a meaning at one bound
    abbrev fixed : Meaning → Bound → Meaning
    fixed x bound other s = x bound s

    choice_rel : (tested : Bool) (v : Tree) (a b a' b' : List Stm) → ReadsBelow n v → Expanded tested (in_order (map m a)) (in_order (map m a')) → Expanded tested (in_order (map m b)) (in_order (map m b')) →
        Expanded tested (layer_means setting frame (stm.If v a b)) (layer_means setting frame (stm.If v a' b'))
    choice_rel tested v a b a' b' low ka kb bound ready =
        from_temps Agree places (fixed (layer_means setting frame (stm.If v a b)) bound) (fixed (layer_means setting frame (stm.If v a' b')) bound) (λ other xs ys arrays w h.
        let start : StateRel Agree (record { temps = xs; arrays = arrays; world = w }) (record { temps = ys; arrays = arrays; world = w }) = record { temps = h; arrays = refl; world = refl } in
        let r = either_rel setting frame Agree places _ _ _ _ _ _ (ap (λ x. eqb x 0) ((same_in v low).value xs ys w.globals h)) (kb bound ready _ _ start) (ka bound ready _ _ start) in
        record { outcome = r.outcome; cheaper = omega (arith, r.cheaper) }) bound

    in_turn : (x y : Meaning) → Expanded false x y → (bound : Bound) → Ready false bound → (s s' : State) → StateRel Agree s s' → RunRel (within_loop Agree places) (x bound s) (y bound s')
    in_turn x y h bound ready = places_weaker Agree places (within_loop Agree places) (fixed x bound) (fixed y bound) unchanged under_all under_all (λ other. h bound ready) bound

    loop_rel_at : (x y : Meaning) → Expanded false x y → Expanded false (loop x) (loop y)
    loop_rel_at x y h [] ready s s' e =
        turn_rel Agree places (x [] s) (y [] s') _ _ (in_turn x y h [] ready s s' e) (λ t t' d. record { outcome = ap (λ w. More w) d.world; cheaper = omega arith })
    loop_rel_at x y h (calls ∷ below) ready s s' e =
        turn_rel Agree places (x (calls ∷ below) s) (y (calls ∷ below) s') _ _ (in_turn x y h (calls ∷ below) ready s s' e) (loop_rel_at x y h below (ready.0.1, tt))

    block_rel_at : (tested : Bool) (b b' : List Stm) → Expanded tested (in_order (map m b)) (in_order (map m b')) → Expanded tested (layer_means setting frame (stm.Block b)) (layer_means setting frame (stm.Block b'))
    block_rel_at tested b b' h bound ready =
        let x = fixed (in_order (map m b)) bound in
        let y = fixed (in_order (map m b')) bound in
        block_rel Agree Agree places x y (places_weaker Agree places (within_block Agree places) x y unchanged under_all under_all (λ other. h bound ready)) bound

    rolled_at : (x y : Stm-F Stm) (bound : Bound) (s s' : State) → RunRel places (layer_means setting frame x bound s) (layer_means setting frame y bound s') → RunRel places (m (roll-Stm x) bound s) (m (roll-Stm y) bound s')
    rolled_at x y bound s s' h =
        subst (λ d. RunRel places (d bound s) (m (roll-Stm y) bound s')) (sym (meaning_roll setting frame x))
        (subst (λ d. RunRel places (layer_means setting frame x bound s) (d bound s')) (sym (meaning_roll setting frame y)) h)

    -- ---- a body in place of a call

    module _ (r : Option ℕ) (f : ℕ) (args : List Tree) (b : Body) (placed rest rest' : List Stm) (there : slice_get shorts f ≡ Some (Some b)) (p : IsPlaced n r args b placed) (low : IsBelow n (call r (callee.Direct f) args))
        (more : Expanded true (in_order (map m rest)) (in_order (map m rest'))) where
      short : IsShort b
      short = all f b there

      reads : AllReadBelow n args
      reads = reads_below n (stm.Call r (callee.Direct f) args) low args r goes_next (λ u. refl)

      writes : WritesBelow n r
      writes = writes_below n (stm.Call r (callee.Direct f) args) low args r goes_next (λ u. refl)

      module _ (xs ys : List ℕ) (arrays : List (List ℕ)) (w : World) (a : Agree xs ys) where
        abbrev before : List ℕ → State
        before zs = record { temps = zs; arrays = arrays; world = w }

        abbrev arguments : List ℕ → List ℕ
        arguments zs = map (λ t. value setting.numbers frame.bound t zs w.globals) args

        abbrev returned : List ℕ → ℕ
        returned zs = short_value b short (arguments zs)

        abbrev price : ℕ
        price = 60 + 3 * (0 + nodes_of_all args)

        -- the call, and what stands behind it
        abbrev called : Bool → Bound → Run
        called z bound =
            then_do (spend price (cond z (within bound (λ calls. made_call r (before xs) (calls f (arguments xs) frame.depth frame.live w)) (before xs)) (now (traps trap.call_too_deep (before xs))))) (in_order (map m rest) bound)

        abbrev instead : Bound → Run
        instead bound = in_order (map m (placed ++ rest')) bound (before ys)

        -- the test of the depth, and what stands behind it
        abbrev tested_first : Bool → Bound → Run
        tested_first z bound =
            then_do (spend (8 + 3 * (0 + 0))
            (cond z (within bound (λ calls. made_call None (before ys) (record { cost = 0; end = Returned None w })) (before ys)) (now (traps trap.call_too_deep (before ys)))))
            (in_order (map m (placed ++ rest')) bound)

        call_is : (bound : Bound) → in_order (map m (call r (callee.Direct f) args ∷ rest)) bound (before xs) ≡ called (ltb frame.depth trap.depth_limit) bound
        call_is bound = ap (λ (d : Meaning). then_do (d bound (before xs)) (in_order (map m rest) bound)) (meaning_roll setting frame (stm.Call r (callee.Direct f) args))

        test_is : (bound : Bound) → in_order (map m (test_unless false ++ (placed ++ rest'))) bound (before ys) ≡ tested_first (ltb frame.depth trap.depth_limit) bound
        test_is bound = ap (λ (d : Meaning). then_do (d bound (before ys)) (in_order (map m (placed ++ rest')) bound)) (meaning_roll setting frame (stm.Call None callee.Expanded []))

        goes : (bound : Bound) → Goes setting frame bound n arrays w ys placed ys (Behind setting frame bound n arrays w ys (written r (returned ys) ys))
        goes bound =
            subst (λ l. Goes setting frame bound n arrays w ys l ys (Behind setting frame bound n arrays w ys (written r (returned ys) ys))) (sym p.is)
            (steps_go setting frame bound n arrays w ys p.keeps args (each_read n args reads) r writes a.room b short p.count (λ t e. (p.kept t e).1))

        call_returns : (q : Option ℕ) (v : ℕ) → call_end q (before xs) (Returned (Some v) w) ≡ Next (before (written q v xs))
        call_returns None v = refl
        call_returns (Some t) v = refl

        both_run : (calls : Calls) (lower : Bound) → Ready true (calls ∷ lower) → RunRel places (called true (calls ∷ lower)) (spend 8 (instead (calls ∷ lower)))
        both_run calls lower ready =
            let bound = calls ∷ lower in
            let same_arguments : arguments xs ≡ arguments ys = same_values setting frame Agree places args args xs ys w.globals (many_in args reads) a in
            let kept = ready.0.0 f b there (arguments xs) frame.depth frame.live w (length-map args (λ t. value setting.numbers frame.bound t xs w.globals) ∙ p.count) in
            let gives = short_gives setting any_frame [] b short (arguments xs) w in
            let end = kept.same ∙ ap (λ c. c.end) gives ∙ ap (λ l. Returned (Some (short_value b short l)) w) same_arguments in
            let cost = ap (λ c. c.cost) gives in
            let answer : Call = calls f (arguments xs) frame.depth frame.live w in
            let go = goes bound in
            let first : called true bound ≡ spend (price + answer.cost) (in_order (map m rest) bound (before (written r (returned ys) xs))) =
            ap (λ o. then_do (record { cost = price + answer.cost; outcome = o }) (in_order (map m rest) bound)) (ap (call_end r (before xs)) end ∙ call_returns r (returned ys)) in
            let second : instead bound ≡ spend (straight_cost placed) (in_order (map m rest') bound (before go.temps)) =
            joined_runs setting frame frame frame placed rest' bound (before ys) ∙ ap (λ o. then_do o (in_order (map m rest') bound)) go.runs in
            let on : Agree (written r (returned ys) xs) go.temps = behind (written_in r writes (returned ys) xs ys a) go.holds in
            let next = more bound ready (before (written r (returned ys) xs)) (before go.temps) (record { temps = on; arrays = refl; world = refl }) in
            subst (λ o. RunRel places o (spend 8 (instead bound))) (sym first)
            (subst (λ o. RunRel places (spend (price + answer.cost) (in_order (map m rest) bound (before (written r (returned ys) xs)))) (spend 8 o)) (sym second)
            (record { outcome = next.outcome; cheaper = (let x = p.cost in let y = kept.cheaper in let z = next.cheaper in omega (arith, x, y, z, cost)) }))
          where
            behind : {us vs zs : List ℕ} → Agree us vs → Behind setting frame (calls ∷ lower) n arrays w ys vs zs → Agree us zs
            behind h k = record { long = h.long; room = k.room; same = λ t l. h.same t l ∙ sym (k.same t l) }

        untested : (z : Bool) (bound : Bound) → AreShorts setting shorts bound → ltb frame.depth trap.depth_limit ≡ z → RunRel places (called z bound) (tested_first z bound)
        untested false bound are e = record { outcome = refl; cheaper = omega arith }
        untested true [] are e = record { outcome = refl; cheaper = omega arith }
        untested true (calls ∷ lower) are e = let k = both_run calls lower (are, e) in record { outcome = k.outcome; cheaper = (let x = k.cheaper in omega (arith, x)) }

        in_place : (tested : Bool) (bound : Bound) → Ready tested bound →
            RunRel places (in_order (map m (call r (callee.Direct f) args ∷ rest)) bound (before xs)) (in_order (map m (test_unless tested ++ (placed ++ rest'))) bound (before ys))
        in_place false bound ready =
            subst (λ o. RunRel places o (in_order (map m (test_unless false ++ (placed ++ rest'))) bound (before ys))) (sym (call_is bound))
            (subst (λ o. RunRel places (called (ltb frame.depth trap.depth_limit) bound) o) (sym (test_is bound)) (untested (ltb frame.depth trap.depth_limit) bound ready.0 refl))
        in_place true [] ready = absurd ready.1
        in_place true (calls ∷ lower) ready =
            let k = both_run calls lower ready in
            let z = ap (λ c. called c (calls ∷ lower)) ready.1 in
            subst (λ o. RunRel places o (instead (calls ∷ lower))) (sym (call_is (calls ∷ lower) ∙ z)) (record { outcome = k.outcome; cheaper = (let x = k.cheaper in omega (arith, x)) })

      placed_rel : (tested : Bool) → Expanded tested (in_order (map m (call r (callee.Direct f) args ∷ rest))) (in_order (map m (test_unless tested ++ (placed ++ rest'))))
      placed_rel tested bound ready =
          from_temps Agree places (fixed (in_order (map m (call r (callee.Direct f) args ∷ rest))) bound) (fixed (in_order (map m (test_unless tested ++ (placed ++ rest')))) bound)
          (λ other xs ys arrays w a. in_place xs ys arrays w a tested bound ready) bound

    -- ---- code

    expands : (tested : Bool) (code code' : List Stm) → Expands shorts n tested code code' → AreBelow n code → Expanded tested (in_order (map m code)) (in_order (map m code'))
    expands tested code code' (none c) low bound ready s s' e = nil_rel Agree places bound s s' e
    expands tested code code' (same c x rest rest' h) low bound ready s s' e =
        then_rel Agree places _ _ _ _ (self x (first_below n x rest low) bound s s' e) (λ u u' d. expands c rest rest' h (rest_below n x rest low) bound ready u u' d)
    expands tested code code' (branch c v a b a' b' rest rest' ha hb h) low bound ready s s' e =
        let here = first_below n (choose v a b) rest low in
        then_rel Agree places _ _ _ _
        (rolled_at (stm.If v a b) (stm.If v a' b') bound s s'
        (choice_rel c v a b a' b' (test_below n v a b here) (expands c a a' ha (then_below n v a b here)) (expands c b b' hb (else_below n v a b here)) bound ready s s' e))
        (λ u u' d. expands c rest rest' h (rest_below n (choose v a b) rest low) bound ready u u' d)
    expands tested code code' (looped c b b' rest rest' hb h) low bound ready s s' e =
        then_rel Agree places _ _ _ _
        (rolled_at (stm.Loop b) (stm.Loop b') bound s s' (loop_rel_at (in_order (map m b)) (in_order (map m b')) (expands false b b' hb (loop_below n b (first_below n (repeat b) rest low))) bound (ready.0, tt) s s' e))
        (λ u u' d. expands c rest rest' h (rest_below n (repeat b) rest low) bound ready u u' d)
    expands tested code code' (enclose c b b' rest rest' hb h) low bound ready s s' e =
        then_rel Agree places _ _ _ _
        (rolled_at (stm.Block b) (stm.Block b') bound s s' (block_rel_at c b b' (expands c b b' hb (block_below n b (first_below n (enclosed b) rest low))) bound ready s s' e))
        (λ u u' d. expands c rest rest' h (rest_below n (enclosed b) rest low) bound ready u u' d)
    expands tested code code' (place c r f args b placed rest rest' there p h) low bound ready s s' e =
        placed_rel r f args b placed rest rest' there p (first_below n (call r (callee.Direct f) args) rest low) (expands true rest rest' h (rest_below n (call r (callee.Direct f) args) rest low)) c bound ready s s' e

-- ---- bodies

pub expands_means : (shorts : Shorts) (body : Body) (code : List Stm) → IsWellFormed body → AllShort shorts → Expands shorts body.temps false body.code code →
    KeepsBodyWith shorts body (record body { temps = body.temps + short_temps; code = code })
expands_means shorts body code formed all h setting frame contents args bound w are =
    let after : Body = record body { temps = body.temps + short_temps; code = code } in
    let start : Agree body.temps setting frame (first_temps contents.temps body.temps args) (first_temps contents.temps after.temps args) = record {
      long = temps_enough contents.temps body.temps args;
      room = temps_enough contents.temps after.temps args;
      same = λ t l. argument_at args (body.temps - length args) (body.temps + short_temps - length args) t contents.temps (omega (arith, l)) (omega (arith, l));
    } in
    let run = expands body.temps setting frame shorts all false body.code code h (body_below body formed.temps) bound (are, tt) (entry_state contents body args w) (entry_state contents after args w)
    (record { temps = start; arrays = refl; world = refl }) in
    record { same = end_same (places body.temps setting frame) _ _ run.outcome; cheaper = run.cheaper }
