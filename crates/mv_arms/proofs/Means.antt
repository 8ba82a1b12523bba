-- Code in which the arms of a `switch` are reached by one jump means the same.
use Rattle.std.proofs.Common.{arith, ◌≡◌, ℕ, suc, ◌+◌, ◌*◌, ◌<◌, ◌≤◌, Bool, true, false, cond, eqb, ltb, List, [], ◌∷◌, map, length, refl, sym, ◌∙◌, ap, subst}
use Rattle.std.specs.Prelude.{slice_index}
use Rattle.mv_num.specs.Words.{as_word}
use Rattle.mv_ir.specs.declared.tree.Tree.{Tree}
use Rattle.mv_ir.specs.declared.stm.Stm.{Stm}
use Rattle.mv_ir.specs.declared.stm.Stm.TheOpen.{Stm-F}
use Rattle.mv_ir.specs.declared.stm.Stm.TheOpen as stm
use Rattle.mv_ir.specs.declared.stm.Stm.TheViews.{roll-Stm}
use Rattle.mv_ir.specs.declared.body.Body.{Body}
use Rattle.mv_ir.specs.World.{Setting, Frame}
use Rattle.mv_ir.specs.Trees.{nodes}
use Rattle.mv_ir.specs.Outcome.{State, Outcome, Next, Leaves, Restarts, Ends, Run, Bound, Meaning, spend, now, goes_on, then_do, block_end}
use Rattle.mv_ir.specs.Meaning.{of_tree, meaning, code_meaning, body_end, entry_state}
use Rattle.mv_ir.specs.Keeps.{KeepsBody}
use Rattle.mv_ir.specs.Rolled.{choose, break, repeat, enclosed}
use Rattle.mv_ir.proofs.Joining.{temps_enough}
use Rattle.mv_ir.proofs.Keeping.{meaning_roll, layer_means}
use Rattle.mv_arms.specs.Arms.{level, back, passed, Steered, skips, IsArm, AreArms, Arms, Nests, none, still, leave, again, branch, turns, block, switch, all, arm}
use Rattle.mv_arms.specs.Walking.{with_code}
use Rattle.mv_arms.proofs.Via.{via, deeper_level, Long, AllLong, IsVia, MeansVia, spend_via, nil_via, cons_via, either_via, via_block, long_block, block_via, loop_via, end_via}
use Rattle.mv_arms.proofs.Calm.{still_via}
use Rattle.mv_arms.proofs.Steering.{same_right, passed_zero, skips_is, enclosed_runs, chosen_runs, ends_at_zero, tests_run}

-- ---- outcomes that don't go on

abbrev Turns : Outcome → Type 0
Turns (Next s) = ⊥
Turns (Leaves n s) = Unit {0}
Turns (Restarts n s) = Unit {0}
Turns (Ends e) = Unit {0}

skipped : (levels : List ℕ) (o : Outcome) (f : State → Run) → Turns o → goes_on (via levels o) f ≡ now (via levels o)
skipped levels (Next s) f h = absurd h
skipped levels (Leaves n s) f h = refl
skipped levels (Restarts n s) f h = refl
skipped levels (Ends e) f h = refl

ended : (o : Outcome) (f : State → Run) → Turns o → goes_on o f ≡ now o
ended (Next s) f h = absurd h
ended (Leaves n s) f h = refl
ended (Restarts n s) f h = refl
ended (Ends e) f h = refl

-- out of one block more
stepped_out : (levels : List ℕ) (k : ℕ) (o : Outcome) → Turns o → block_end (via (suc k ∷ levels) o) ≡ via (k ∷ levels) o
stepped_out levels k (Next s) h = absurd h
stepped_out levels k (Leaves n s) h = ap (λ j. block_end (Leaves j s)) (deeper_level levels k n)
stepped_out levels k (Restarts n s) h = ap (λ j. block_end (Restarts j s)) (deeper_level levels k n)
stepped_out levels k (Ends e) h = refl

-- what is saved where a test of an arm is made
abbrev fee : List Stm → ℕ
fee [] = 0
fee (a ∷ arms) = 8

fee_is : (arms : List Stm) → 1 ≤ length arms → fee arms ≡ 8
fee_is [] h = absurd (omega (arith, h))
fee_is (a ∷ arms) h = refl

module _ (temps : ℕ) (setting : Setting) (frame : Frame) where
  abbrev m : Stm → Meaning
  m = meaning setting frame

  abbrev run : List Stm → Meaning
  run = code_meaning setting frame

  -- arms, from where a temporary holds a place, and what they became, where so much was spent before them
  record Nested (levels : List ℕ) (arms : List Stm) (before : ℕ) (old new : Run) : Type 0 where
    pub same : block_end new.outcome ≡ via levels (block_end old.outcome)
    pub cheaper : new.cost + fee arms ≤ before + old.cost
    pub long : AllLong temps old.outcome

  -- ---- out of all arms

  record Passed (levels : List ℕ) (o : Outcome) (before : ℕ) (new : Run) : Type 0 where
    pub same : block_end new.outcome ≡ via levels (block_end o)
    pub cheaper : new.cost ≤ before

  through : (levels : List ℕ) (inner arms made : List Stm) → Nests temps levels inner arms made → (bound : Bound) (s : State) (o : Outcome) → Turns o →
      (run inner bound s).outcome ≡ via (length arms ∷ levels) o → Passed levels o (run inner bound s).cost (run made bound s)
  through levels inner arms made (all l x) bound s o h e = record { same = ap block_end e ∙ via_block temps l o; cheaper = omega arith }
  through levels inner arms made (arm l x c a b b' rest all_made hb hn) bound s o h e =
      let first = run x bound s in
      let stops : block_end first.outcome ≡ via (length rest ∷ l) o = ap block_end e ∙ stepped_out l (length rest) o h in
      let second : run (enclosed x ∷ b') bound s ≡ spend first.cost (now (via (length rest ∷ l) o)) =
      enclosed_runs setting frame x b' bound s ∙ ap (λ q. spend first.cost (goes_on q (run b' bound))) stops ∙ ap (spend first.cost) (skipped (length rest ∷ l) o (run b' bound) h)
      in
      let k = through l (enclosed x ∷ b') rest all_made hn bound s o h (ap (λ r. r.outcome) second) in
      record { same = k.same; cheaper = (let z = ap (λ (r : Run). r.cost) second in let w = k.cheaper in omega (arith, z, w)) }

  -- ---- one arm

  module _ (levels : List ℕ) (inner : List Stm) (c : Tree) (a b b' rest made : List Stm) (hn : Nests temps levels (enclosed inner ∷ b') rest made) (t i : ℕ) (places : List ℕ) (k : IsArm t i (choose c a b))
      (bound : Bound) (s u : State) (l : Long temps u) where
    abbrev p : ℕ
    p = slice_index u.temps t

    abbrev first : Run
    first = run inner bound s

    abbrev second : Run
    second = run (enclosed inner ∷ b') bound s

    -- the rest, from a state that comes to its start
    abbrev Onward : Type 0
    Onward = (v : State) → Long temps v → block_end second.outcome ≡ block_end (Leaves (passed places (slice_index v.temps t)) v) → Nested levels rest second.cost (run rest bound v) (run made bound s)

    abbrev price : ℕ
    price = 8 + 3 * nodes (skips i t)

    abbrev old_at : Bool → Run
    old_at q = then_do (spend price (cond (eqb (as_word q) 0) (run k.code bound u) (now (Next u)))) (run rest bound)

    old_is : run (choose c a b ∷ rest) bound u ≡ old_at (ltb i p)
    old_is =
        ap (λ x. run (x ∷ rest) bound u) k.is ∙ chosen_runs setting frame (skips i t) [] k.code rest bound u ∙
        ap (λ n. then_do (spend price (cond (eqb n 0) (run k.code bound u) (now (Next u)))) (run rest bound)) (skips_is setting frame i t u)

    second_is : (o : Outcome) → block_end first.outcome ≡ o → second ≡ spend first.cost (goes_on o (run b' bound))
    second_is o e = enclosed_runs setting frame inner b' bound s ∙ ap (λ q. spend first.cost (goes_on q (run b' bound))) e

    right : b ≡ k.code
    right = same_right c (skips i t) a [] b k.code k.is

    -- it is skipped
    skipping : Onward → block_end first.outcome ≡ Leaves (passed places p) u → Nested levels (choose c a b ∷ rest) first.cost (old_at true) (run made bound s)
    skipping on e =
        let is = second_is (Leaves (passed places p) u) e in
        let n = on u l (ap (λ r. block_end r.outcome) is) in
        record { same = n.same; cheaper = (let z = ap (λ (r : Run). r.cost) is in let w = n.cheaper in omega (arith, z, w)); long = n.long }

    -- it runs
    running : Onward → IsVia temps (length rest ∷ levels) (run b bound u) (run b' bound u) → block_end first.outcome ≡ Next u → Nested levels (choose c a b ∷ rest) first.cost (old_at false) (run made bound s)
    running on v e = by (run b bound u).outcome refl
      where
        is : second ≡ spend first.cost (run b' bound u)
        is = second_is (Next u) e

        cost : second.cost ≡ first.cost + (run b' bound u).cost
        cost = ap (λ (r : Run). r.cost) is

        -- the arm, and then the rest
        old : (o : Outcome) → (run b bound u).outcome ≡ o → old_at false ≡ spend (price + (run b bound u).cost) (goes_on o (run rest bound))
        old o eo =
            ap (λ code. then_do (spend price (run code bound u)) (run rest bound)) (sym right) ∙ ap (λ q. spend (price + (run b bound u).cost) (goes_on q (run rest bound))) eo

        out : (o : Outcome) → Turns o → (run b bound u).outcome ≡ o → Nested levels (choose c a b ∷ rest) first.cost (old_at false) (run made bound s)
        out o h eo =
            let n = through levels (enclosed inner ∷ b') rest made hn bound s o h (ap (λ r. r.outcome) is ∙ v.same ∙ ap (via (length rest ∷ levels)) eo) in
            let whole : old_at false ≡ spend (price + (run b bound u).cost) (now o) = old o eo ∙ ap (spend (price + (run b bound u).cost)) (ended o (run rest bound) h) in
            record {
              same = n.same ∙ sym (ap (λ r. via levels (block_end r.outcome)) whole);
              cheaper = (let z = ap (λ (r : Run). r.cost) whole in let w = n.cheaper in let x = v.cheaper in omega (arith, z, w, x, cost));
              long = subst (AllLong temps) (sym (ap (λ r. r.outcome) whole)) (subst (AllLong temps) eo v.long);
            }

        by : (o : Outcome) → (run b bound u).outcome ≡ o → Nested levels (choose c a b ∷ rest) first.cost (old_at false) (run made bound s)
        by (Next w) eo =
            let zero_there : slice_index w.temps t ≡ 0 =
            ends_at_zero setting frame t k.ends.front bound u w (sym (ap (λ code. (run code bound u).outcome) (right ∙ k.ends.is)) ∙ eo)
            in
            let comes : block_end second.outcome ≡ block_end (Leaves (passed places (slice_index w.temps t)) w) =
            ap (λ r. block_end r.outcome) is ∙ ap block_end (v.same ∙ ap (via (length rest ∷ levels)) eo) ∙
            sym (ap (λ j. block_end (Leaves j w)) (ap (passed places) zero_there ∙ passed_zero places))
            in
            let n = on w (subst (AllLong temps) eo v.long) comes in
            let whole = old (Next w) eo in
            record {
              same = n.same ∙ sym (ap (λ r. via levels (block_end r.outcome)) whole);
              cheaper = (let z = ap (λ (r : Run). r.cost) whole in let y = n.cheaper in let x = v.cheaper in omega (arith, z, y, x, cost));
              long = subst (AllLong temps) (sym (ap (λ r. r.outcome) whole)) n.long;
            }
        by (Leaves n w) eo = out (Leaves n w) tt eo
        by (Restarts n w) eo = out (Restarts n w) tt eo
        by (Ends x) eo = out (Ends x) tt eo

    one_arm : Onward → IsVia temps (length rest ∷ levels) (run b bound u) (run b' bound u) → block_end first.outcome ≡ block_end (Leaves (passed (i ∷ places) p) u) →
        Nested levels (choose c a b ∷ rest) first.cost (run (choose c a b ∷ rest) bound u) (run made bound s)
    one_arm on v e = subst (λ r. Nested levels (choose c a b ∷ rest) first.cost r (run made bound s)) (sym old_is) (by (ltb i p) e)
      where
        by : (q : Bool) → block_end first.outcome ≡ block_end (Leaves (cond q (suc (passed places p)) 0) u) → Nested levels (choose c a b ∷ rest) first.cost (old_at q) (run made bound s)
        by true h = skipping on h
        by false h = running on v h

  -- ---- code

  rolled : (levels : List ℕ) (x y : Stm-F Stm) → MeansVia temps levels (layer_means setting frame x) (layer_means setting frame y) → MeansVia temps levels (m (roll-Stm x)) (m (roll-Stm y))
  rolled levels x y h =
      subst (λ d. MeansVia temps levels d (m (roll-Stm y))) (sym (meaning_roll setting frame x)) (subst (MeansVia temps levels (layer_means setting frame x)) (sym (meaning_roll setting frame y)) h)

  jump_via : (levels : List ℕ) (n : ℕ) → MeansVia temps levels (m (break n)) (m (break (level levels n)))
  jump_via levels n = rolled levels (stm.Break n) (stm.Break (level levels n)) (λ bound s l. record { same = refl; cheaper = omega arith; long = l })

  back_via : (levels : List ℕ) (n : ℕ) → MeansVia temps levels (m (back n)) (m (back (level levels n)))
  back_via levels n = rolled levels (stm.Back n) (stm.Back (level levels n)) (λ bound s l. record { same = refl; cheaper = omega arith; long = l })

  choice_via : (levels : List ℕ) (c : Tree) (a b a' b' : List Stm) → MeansVia temps levels (run a) (run a') → MeansVia temps levels (run b) (run b') → MeansVia temps levels (m (choose c a b)) (m (choose c a' b'))
  choice_via levels c a b a' b' ha hb =
      rolled levels (stm.If c a b) (stm.If c a' b') (λ bound s l.
      spend_via temps levels (8 + 3 * nodes c) (8 + 3 * nodes c) _ _ (omega arith) (either_via temps levels (eqb (of_tree setting frame c s) 0) _ _ _ _ (hb bound s l) (ha bound s l)))

  -- blocks within blocks, from the tests on
  abbrev NestsVia : List ℕ → ℕ → List ℕ → List Stm → List Stm → List Stm → Type 0
  NestsVia levels t places inner arms made =
      (bound : Bound) (s u : State) → Long temps u → block_end (run inner bound s).outcome ≡ block_end (Leaves (passed places (slice_index u.temps t)) u) →
      Nested levels arms (run inner bound s).cost (run arms bound u) (run made bound s)

  switch_via : (levels : List ℕ) (t : ℕ) (places : List ℕ) (tests tests' arms made : List Stm) → t < temps → 1 ≤ length arms → Steered t places tests tests' → NestsVia levels t places tests' arms made →
      MeansVia temps levels (m (enclosed (enclosed tests ∷ arms))) (m (enclosed made))
  switch_via levels t places tests tests' arms made low some steered nests =
      rolled levels (stm.Block (enclosed tests ∷ arms)) (stm.Block made) (λ bound s l.
      let k = tests_run setting frame temps t places low tests tests' steered bound s l in
      let old : run (enclosed tests ∷ arms) bound s ≡ spend (run tests bound s).cost (run arms bound k.state) =
      enclosed_runs setting frame tests arms bound s ∙ ap (λ o. spend (run tests bound s).cost (goes_on o (run arms bound))) k.first
      in
      let n = nests bound s k.state k.long (ap block_end k.second ∙ ap (λ j. block_end (Leaves (passed places j) k.state)) (sym k.there)) in
      let whole = ap (λ r. block_end r.outcome) old in
      record {
        same = n.same ∙ sym (ap (via levels) whole);
        cheaper = (let z = ap (λ (r : Run). r.cost) old in let w = n.cheaper in let x = k.cost in omega (arith, z, w, x, fee_is arms some));
        long = subst (AllLong temps) (sym whole) (long_block temps levels (run arms bound k.state).outcome n.long);
      })

  mutual
    arms_via : (levels : List ℕ) (code code' : List Stm) → Arms temps levels code code' → MeansVia temps levels (run code) (run code')
    arms_via levels code code' (none l) = nil_via temps l
    arms_via levels code code' (still l s rest rest' e h) = cons_via temps l (m s) (m s) (map m rest) (map m rest') (still_via temps setting frame l s e) (arms_via l rest rest' h)
    arms_via levels code code' (leave l n rest rest' h) = cons_via temps l (m (break n)) (m (break (level l n))) (map m rest) (map m rest') (jump_via l n) (arms_via l rest rest' h)
    arms_via levels code code' (again l n rest rest' h) = cons_via temps l (m (back n)) (m (back (level l n))) (map m rest) (map m rest') (back_via l n) (arms_via l rest rest' h)
    arms_via levels code code' (branch l c a b a' b' rest rest' ha hb h) =
        cons_via temps l (m (choose c a b)) (m (choose c a' b')) (map m rest) (map m rest') (choice_via l c a b a' b' (arms_via l a a' ha) (arms_via l b b' hb)) (arms_via l rest rest' h)
    arms_via levels code code' (turns l b b' rest rest' hb h) =
        cons_via temps l (m (repeat b)) (m (repeat b')) (map m rest) (map m rest') (rolled l (stm.Loop b) (stm.Loop b') (loop_via temps l (run b) (run b') (arms_via (0 ∷ l) b b' hb))) (arms_via l rest rest' h)
    arms_via levels code code' (block l b b' rest rest' hb h) =
        cons_via temps l (m (enclosed b)) (m (enclosed b')) (map m rest) (map m rest') (rolled l (stm.Block b) (stm.Block b') (block_via temps l (run b) (run b') (arms_via (0 ∷ l) b b' hb))) (arms_via l rest rest' h)
    arms_via levels code code' (switch l t places tests tests' arms made rest rest' low some are steered hn h) =
        cons_via temps l (m (enclosed (enclosed tests ∷ arms))) (m (enclosed made)) (map m rest) (map m rest')
        (switch_via l t places tests tests' arms made low some steered (nests_via l t places tests' arms made are hn)) (arms_via l rest rest' h)

    nests_via : (levels : List ℕ) (t : ℕ) (places : List ℕ) (inner arms made : List Stm) → AreArms t places arms → Nests temps levels inner arms made → NestsVia levels t places inner arms made
    nests_via levels t [] inner arms made are (all l x) bound s u long e = record { same = e; cheaper = omega arith; long = long }
    nests_via levels t (i ∷ places) inner arms made are (all l x) bound s u long e = absurd are
    nests_via levels t [] inner arms made are (arm l x c a b b' rest all_made hb hn) bound s u long e = absurd are
    nests_via levels t (i ∷ places) inner arms made are (arm l x c a b b' rest all_made hb hn) bound s u long e =
        one_arm l x c a b b' rest all_made hn t i places are.0 bound s u long (λ v k f. nests_via l t places (enclosed x ∷ b') rest all_made are.1 hn bound s v k f)
        (arms_via (length rest ∷ l) b b' hb bound u long) e

-- ---- bodies

pub arms_mean : (body : Body) (code : List Stm) → Arms body.temps [] body.code code → KeepsBody body (with_code body code)
arms_mean body code h setting frame contents args bound w =
    let s = entry_state contents body args w in
    let r = code_meaning setting frame body.code bound s in
    let v = arms_via body.temps setting frame [] body.code code h bound s (temps_enough contents.temps body.temps args) in
    record { same = sym (end_via body.temps [] r.outcome) ∙ sym (ap body_end v.same); cheaper = v.cheaper }
