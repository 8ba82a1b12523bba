-- `switch`: the tests of its labels, and its arms with their fall through.
use Rattle.std.proofs.Common.{◌≡◌, ℕ, zero, suc, ◌+◌, ◌*◌, ◌<◌, ◌≤◌, Bool, true, false, cond, eqb, ltb, List, [], ◌∷◌, ◌++◌, length, drop, Some, refl, sym, ◌∙◌, subst, ap, arith, append_assoc}
use Rattle.std.specs.Prelude.{slice_index, slice_set}
use Rattle.std.proofs.lemmas.Bool.{lt-ltb, le-ltb}
use Rattle.std.proofs.lemmas.List.{get_or-set_same}
use Rattle.mv_num.specs.Words as word
use Rattle.mv_ir.specs.declared.stm.Stm.{Stm}
use Rattle.mv_ir.specs.declared.stm.Stm.TheOpen as stm
use Rattle.mv_ast.specs.Worlds.{World, Outcome, Came, Stopped, after, and_then, bind, give}
use Rattle.mv_meaning.specs.declared.state.Frame.{Frame}
use Rattle.mv_meaning.specs.declared.state.Flow.{Flow}
use Rattle.mv_meaning.specs.declared.state.Flow.TheVariants.{Goes, Breaks, Continues, Returns}
use Rattle.mv_meaning.specs.Meaning.{Evaluation, ArmDenotation, Tried, in_order, then_on, after_switch, tried_labels, labels_of, bodies_of, bodies_from, switch_flow}
use Rattle.mv_ir.specs.Outcome.{State, Returned, Next, Leaves, Restarts, Ends, Run, Bound, spend, then_do, goes_on, block_end}
use Rattle.mv_ir.specs.Outcome as ir
use Rattle.mv_num.specs.Words.{as_word}
use Rattle.mv_ir.specs.Trees.{nodes}
use Rattle.mv_ir.specs.Trees as ir_tree
use Rattle.mv_ir.specs.Meaning.{with_temp}
use Rattle.mv_ir.proofs.Keeping.{run_same, one_meaning}
use Rattle.mv_lower_spec.specs.Lowered.{Lowering, number, temp, binary, set, choose}
use Rattle.mv_lower_spec.specs.Statements.{FlowShown, FlowCorrect, Jumps, LoweredArm, in_arm, break, enclosed, test_labels, test_arms, arm_place, all_tests, arm_code, arms_code, lower_switch, out_of}
use Rattle.mv_lower_spec.specs.Correct.{Ground, resting, none, val, Shows, CorrectFor, ran}
use Rattle.mv_lower_spec.proofs.Running as run
use Rattle.mv_lower_spec.proofs.Running.{nodes_number, nodes_temp, nodes_binary}
use Rattle.mv_lower_spec.proofs.Showing as show
use Rattle.mv_meaning.proofs.Sequences.{in_order_both}
use Rattle.mv_lower_spec.proofs.Bare.{bare_of}
use Rattle.mv_lower_spec.proofs.Flows as flows
use Rattle.mv_lower_spec.proofs.Flows.{code}
use Rattle.mv_num.proofs.Booleans.{from_falsity}

-- ---- lists of statements

-- nothing follows
ends_same : (o : Outcome Frame Flow) → o ≡ and_then o (λ flow. then_on flow (in_order []))
ends_same (Stopped why w k) = refl
ends_same (Came Goes f w k) = ap (λ n. Came Goes f w n) (omega arith)
ends_same (Came Breaks f w k) = ap (λ n. Came Breaks f w n) (omega arith)
ends_same (Came Continues f w k) = ap (λ n. Came Continues f w n) (omega arith)
ends_same (Came (Returns v) f w k) = ap (λ n. Came (Returns v) f w n) (omega arith)

-- ---- labels

abbrev both_tried : Tried → Tried → Tried
both_tried x y = cond x.found x (record { labels = x.labels + y.labels; found = y.found })

tried_append : (v : ℕ) (xs ys : List ℕ) → tried_labels v (xs ++ ys) ≡ both_tried (tried_labels v xs) (tried_labels v ys)
tried_append v [] ys = ap (λ n. record { labels = n; found = (tried_labels v ys).found }) (omega arith)
tried_append v (x ∷ xs) ys = by (eqb v x) (tried_labels v xs) (tried_labels v (xs ++ ys)) (tried_append v xs ys)
  where
    by : (z : Bool) (a b : Tried) → b ≡ both_tried a (tried_labels v ys) →
        cond z (record { labels = 1; found = true }) (record { labels = 1 + b.labels; found = b.found }) ≡
        both_tried (cond z (record { labels = 1; found = true }) (record { labels = 1 + a.labels; found = a.found })) (tried_labels v ys)
    by true a b e = refl
    by false a b e = ap (λ (q : Tried). record { labels = 1 + q.labels; found = q.found }) e ∙ rest a.found
      where
        one_more : Tried → Tried
        one_more q = record { labels = 1 + q.labels; found = q.found }

        rest : (z : Bool) → one_more (cond z a (record { labels = a.labels + (tried_labels v ys).labels; found = (tried_labels v ys).found })) ≡
            cond z (record { labels = 1 + a.labels; found = a.found }) (record { labels = 1 + a.labels + (tried_labels v ys).labels; found = (tried_labels v ys).found })
        rest true = refl
        rest false = ap (λ n. record { labels = n; found = (tried_labels v ys).found }) (omega arith)

-- all labels of the lowered arms
abbrev lowered_labels : List LoweredArm → List ℕ
lowered_labels [] = []
lowered_labels (a ∷ arms) = a.labels ++ lowered_labels arms

-- how many of the arms have no label
abbrev pub bare_arms : List LoweredArm → ℕ
bare_arms [] = 0
bare_arms (a ∷ arms) = bare_of a.labels + bare_arms arms

abbrev hits : ℕ → LoweredArm → Bool
hits v a = (tried_labels v a.labels).found

place_above : (picked : LoweredArm → Bool) (i : ℕ) (ls : List LoweredArm) → arm_place picked (suc i) ls ≡ suc (arm_place picked i ls)
place_above picked i [] = refl
place_above picked i (l ∷ ls) = ap (λ n. cond (picked l) (suc i) n) (place_above picked (suc i) ls) ∙ by (picked l)
  where
    by : (z : Bool) → cond z (suc i) (suc (arm_place picked (suc i) ls)) ≡ suc (cond z i (arm_place picked (suc i) ls))
    by true = refl
    by false = refl

place_within : (picked : LoweredArm → Bool) (ls : List LoweredArm) → arm_place picked 0 ls ≤ length ls
place_within picked [] = omega arith
place_within picked (l ∷ ls) = by (place_within picked ls) (picked l)
  where
    by : arm_place picked 0 ls ≤ length ls → (z : Bool) → cond z 0 (arm_place picked 1 ls) ≤ suc (length ls)
    by within true = omega arith
    by within false = omega (arith, place_above picked 0 ls, within)

-- Each arm in front of the one to which a value leads, and of all where it leads to none, has a label that was tested, or is bare.
record Passed (t : Tried) (place arms bare : ℕ) : Type 0 where
  to_arm : place ≤ t.labels + bare
  to_end : t.found ≡ false → arms ≤ t.labels + bare

passed : (v : ℕ) (ls : List LoweredArm) → Passed (tried_labels v (lowered_labels ls)) (arm_place (hits v) 0 ls) (length ls) (bare_arms ls)
passed v [] = record { to_arm = omega arith; to_end = λ e. omega arith }
passed v (l ∷ ls) =
    subst (λ (t : Tried). Passed t (cond x.found 0 (arm_place (hits v) 1 ls)) (suc (length ls)) (bare_of l.labels + bare_arms ls)) (sym (tried_append v l.labels (lowered_labels ls)))
    (by (passed v ls) x.found refl)
  where
    x : Tried
    x = tried_labels v l.labels

    own : (xs : List ℕ) → 1 ≤ (tried_labels v xs).labels + bare_of xs
    own [] = omega arith
    own (y ∷ ys) = at (eqb v y)
      where
        at : (z : Bool) → 1 ≤ (cond {A = Tried} z (record { labels = 1; found = true }) (record { labels = 1 + (tried_labels v ys).labels; found = (tried_labels v ys).found })).labels + 0
        at true = omega arith
        at false = omega arith

    by : Passed (tried_labels v (lowered_labels ls)) (arm_place (hits v) 0 ls) (length ls) (bare_arms ls) →
        (z : Bool) → x.found ≡ z → Passed (both_tried x (tried_labels v (lowered_labels ls))) (cond x.found 0 (arm_place (hits v) 1 ls)) (suc (length ls)) (bare_of l.labels + bare_arms ls)
    by rest true e =
        subst (λ z. Passed (cond z x
        (record { labels = x.labels + (tried_labels v (lowered_labels ls)).labels; found = (tried_labels v (lowered_labels ls)).found }))
        (cond z 0 (arm_place (hits v) 1 ls)) (suc (length ls)) (bare_of l.labels + bare_arms ls)) (sym e)
        (record { to_arm = omega arith; to_end = λ q. from_falsity (sym q ∙ e) })
    by rest false e =
        subst (λ z. Passed (cond z x
        (record { labels = x.labels + (tried_labels v (lowered_labels ls)).labels; found = (tried_labels v (lowered_labels ls)).found }))
        (cond z 0 (arm_place (hits v) 1 ls)) (suc (length ls)) (bare_of l.labels + bare_arms ls)) (sym e)
        (record {
          to_arm = omega (arith, own l.labels, place_above (hits v) 0 ls, rest.to_arm);
          to_end = λ q. (let r = rest.to_end q in omega (arith, own l.labels, r));
        })

-- ---- states

same_state : (s1 s2 : State) → Next s1 ≡ Next s2 → s1 ≡ s2
same_state s1 s2 e = cc

first_place : (xs : List ℕ) (n : ℕ) → slice_index (slice_set xs n 0) n ≡ 0
first_place [] n = refl
first_place (x ∷ xs) zero = refl
first_place (x ∷ xs) (suc n) = first_place xs n

module _ (ground : Ground) (void : Bool) where
  -- ---- the tests

  test_value : (b : Bound) (n l v : ℕ) (s : State) → slice_index s.temps n ≡ v → val (resting ground) (binary 11 (temp n) (number l)) s ≡ as_word (eqb v l)
  unfolding ir_tree.binary
  test_value b n l v s e =
      run.val_binary (resting ground) 11 (temp n) (number l) s ∙
      ap (λ x. as_word (eqb x (val (resting ground) (number l) s))) (run.val_temp (resting ground) n s ∙ e) ∙
      ap (λ x. as_word (eqb v x)) (run.val_number (resting ground) l s)

  test_nodes : (n l : ℕ) → nodes (binary 11 (temp n) (number l)) ≡ 3
  test_nodes n l = omega (arith, nodes_binary 11 (temp n) (number l), nodes_temp n, nodes_number l)

  -- a constant in a temporary
  placed : (b : Bound) (n i : ℕ) (s : State) → code ground (set n (number i) ∷ []) b s ≡ ran 11 (Next (with_temp s n i))
  placed b n i s =
      run.runs_set (resting ground) b n (number i) s ∙
      ap (λ k. ran (8 + 3 * k) (Next (with_temp s n (val (resting ground) (number i) s)))) (nodes_number i) ∙
      ap (λ v. ran 11 (Next (with_temp s n v))) (run.val_number (resting ground) i s)

  begins_at : (b : Bound) (n i : ℕ) (s : State) → code ground (set n (number i) ∷ break 0 ∷ []) b s ≡ ran 19 (Leaves 0 (with_temp s n i))
  begins_at b n i s =
      run.joined ground.setting ground.frame (set n (number i) ∷ []) (break 0 ∷ []) b s ∙ ap (λ r. then_do r (code ground (break 0 ∷ []) b)) (placed b n i s) ∙
      ap (λ r. spend 11 r) (one_meaning ground.setting ground.frame (stm.Break 0) b (with_temp s n i))

  one_test : (b : Bound) (n i l v : ℕ) (s : State) → slice_index s.temps n ≡ v →
      code ground (choose (binary 11 (temp n) (number l)) (set n (number i) ∷ break 0 ∷ []) [] ∷ []) b s ≡ cond (eqb v l) (ran 36 (Leaves 0 (with_temp s n i))) (ran 17 (Next s))
  one_test b n i l v s e =
      run.if_runs (resting ground) b (binary 11 (temp n) (number l)) (set n (number i) ∷ break 0 ∷ []) [] s ∙
      ap (λ k. spend (8 + 3 * k) (cond (eqb (val (resting ground) (binary 11 (temp n) (number l)) s) 0) (code ground [] b s) (code ground (set n (number i) ∷ break 0 ∷ []) b s))) (test_nodes n l) ∙
      ap (λ x. spend 17 (cond (eqb x 0) (ran 0 (Next s)) (code ground (set n (number i) ∷ break 0 ∷ []) b s))) (test_value b n l v s e) ∙
      ap (λ r. spend 17 (cond (eqb (as_word (eqb v l)) 0) (ran 0 (Next s)) r)) (begins_at b n i s) ∙ by (eqb v l)
    where
      by : (z : Bool) → spend 17 (cond (eqb (as_word z) 0) (ran 0 (Next s)) (ran 19 (Leaves 0 (with_temp s n i)))) ≡ cond z (ran 36 (Leaves 0 (with_temp s n i))) (ran 17 (Next s))
      by true = refl
      by false = refl

  -- what the tests of some labels come to, before the rest
  abbrev after_tests : Bound → ℕ → Tried → ℕ → List Stm → State → Run
  after_tests b n t i rest s = cond t.found (ran (17 * t.labels + 19) (Leaves 0 (with_temp s n i))) (spend (17 * t.labels) (code ground rest b s))

  label_tests : (b : Bound) (n i v : ℕ) (ls : List ℕ) (rest : List Stm) (s : State) → slice_index s.temps n ≡ v → code ground (test_labels n i ls ++ rest) b s ≡ after_tests b n (tried_labels v ls) i rest s
  label_tests b n i v [] rest s e = same (code ground rest b s)
    where
      same : (r : Run) → r ≡ spend (17 * 0) r
      same r = ap (λ k. ran k r.outcome) (omega arith)
  label_tests b n i v (l ∷ ls) rest s e =
      run.joined ground.setting ground.frame (choose (binary 11 (temp n) (number l)) (set n (number i) ∷ break 0 ∷ []) [] ∷ []) (test_labels n i ls ++ rest) b s ∙
      ap (λ r. then_do r (code ground (test_labels n i ls ++ rest) b)) (one_test b n i l v s e) ∙ by (label_tests b n i v ls rest s e) (eqb v l) ∙ sym (split (eqb v l))
    where
      t : Tried
      t = tried_labels v ls

      by : code ground (test_labels n i ls ++ rest) b s ≡ after_tests b n t i rest s → (z : Bool) →
          then_do (cond z (ran 36 (Leaves 0 (with_temp s n i))) (ran 17 (Next s))) (code ground (test_labels n i ls ++ rest) b) ≡ cond z (ran 36 (Leaves 0 (with_temp s n i))) (spend 17 (after_tests b n t i rest s))
      by others true = refl
      by others false = ap (λ r. spend 17 r) others

      split : (z : Bool) → after_tests b n (cond z (record { labels = 1; found = true }) (record { labels = 1 + t.labels; found = t.found })) i rest s ≡ cond z (ran 36 (Leaves 0 (with_temp s n i))) (spend 17 (after_tests b n t i rest s))
      split true = refl
      split false = found t.found
        where
          found : (q : Bool) → cond q (ran (17 * (1 + t.labels) + 19) (Leaves 0 (with_temp s n i)))
              (spend (17 * (1 + t.labels)) (code ground rest b s)) ≡
              spend 17 (cond q (ran (17 * t.labels + 19) (Leaves 0 (with_temp s n i))) (spend (17 * t.labels) (code ground rest b s)))
          found true = ap (λ k. ran k (Leaves 0 (with_temp s n i))) (omega arith)
          found false = ap (λ k. ran k (code ground rest b s).outcome) (omega arith)

  -- what the tests of all arms come to
  arm_tests : (b : Bound) (n i v : ℕ) (arms : List LoweredArm) (rest : List Stm) (s : State) → slice_index s.temps n ≡ v →
      code ground (test_arms n i arms ++ rest) b s ≡ after_tests b n (tried_labels v (lowered_labels arms)) (arm_place (hits v) i arms) rest s
  arm_tests b n i v [] rest s e = ap (λ k. ran k (code ground rest b s).outcome) (omega arith)
  arm_tests b n i v (a ∷ arms) rest s e =
      ap (λ l. code ground l b s) (append_assoc (test_labels n i a.labels) (test_arms n (suc i) arms) rest) ∙
      label_tests b n i v a.labels (test_arms n (suc i) arms ++ rest) s e ∙
      ap (λ r. cond x.found (ran (17 * x.labels + 19) (Leaves 0 (with_temp s n i))) (spend (17 * x.labels) r)) (arm_tests b n (suc i) v arms rest s e) ∙
      by x.found refl ∙ sym (ap (λ (q : Tried). after_tests b n q (cond x.found i at) rest s) (tried_append v a.labels (lowered_labels arms)))
    where
      x : Tried
      x = tried_labels v a.labels

      y : Tried
      y = tried_labels v (lowered_labels arms)

      at : ℕ
      at = arm_place (hits v) (suc i) arms

      inner : (q : Bool) → spend (17 * x.labels)
          (cond q (ran (17 * y.labels + 19) (Leaves 0 (with_temp s n at))) (spend (17 * y.labels) (code ground rest b s))) ≡
          cond q (ran (17 * (x.labels + y.labels) + 19) (Leaves 0 (with_temp s n at))) (spend (17 * (x.labels + y.labels)) (code ground rest b s))
      inner true = ap (λ k. ran k (Leaves 0 (with_temp s n at))) (omega arith)
      inner false = ap (λ k. ran k (code ground rest b s).outcome) (omega arith)

      by : (z : Bool) → x.found ≡ z → cond z (ran (17 * x.labels + 19) (Leaves 0 (with_temp s n i))) (spend (17 * x.labels) (after_tests b n y at rest s)) ≡
          after_tests b n (cond z x (record { labels = x.labels + y.labels; found = y.found })) (cond z i at) rest s
      by true q = sym (ap (λ z. cond z (ran (17 * x.labels + 19) (Leaves 0 (with_temp s n i))) (spend (17 * x.labels) (code ground rest b s))) q)
      by false q = inner y.found

  -- ---- the arms

  -- how code ends in an arm
  abbrev out_in : Jumps → Flow → State → ir.Outcome
  out_in j = out_of void (in_arm j)

  -- what it costs to enter an arm: its test, and that control falls through
  abbrev pub entry : List Stm → ℕ
  entry [] = 0
  entry (x ∷ xs) = 28

  -- code is correct for an arm's statements, which also pay for entering the arm
  abbrev pub Pays : Bound → Jumps → Evaluation Flow → List Stm → Type 0
  Pays b j m xs = (f : Frame) (w : World) (s : State) → Shows (resting ground) f w s → FlowShown ground void (out_in j) 0 (spend (entry xs) (code ground xs b s)) (m f w)

  -- lowered arms are correct
  abbrev pub ArmsCorrect : Bound → Jumps → List ArmDenotation → List LoweredArm → Type 0
  ArmsCorrect b j [] [] = Unit {0}
  ArmsCorrect b j [] (l ∷ ls) = ⊥
  ArmsCorrect b j (d ∷ ds) [] = ⊥
  ArmsCorrect b j (d ∷ ds) (l ∷ ls) = (l.labels ≡ d.labels) × (l.other ≡ d.other) × Pays b j (in_order d.body) (l.body (in_arm j)).code × ArmsCorrect b j ds ls

  -- the block of a `switch`
  closed : (j : Jumps) (credit : ℕ) (b : Bound) (xs : List Stm) (s : State) (o : Outcome Frame Flow) →
      FlowShown ground void (out_in j) credit (code ground xs b s) o →
      FlowShown ground void (out_of void j) credit (code ground (enclosed xs ∷ []) b s) (and_then o after_switch)
  closed j credit b xs s o h = by o h
    where
      ends : {r : Run} → code ground xs b s ≡ r → code ground (enclosed xs ∷ []) b s ≡ ran r.cost (block_end r.outcome)
      ends e = one_meaning ground.setting ground.frame (stm.Block xs) b s ∙ ap (λ (q : Run). ran q.cost (block_end q.outcome)) e

      left : (z : Bool) (v : ℕ) (s1 : State) → block_end (cond z (Leaves (suc j.around) s1) (Ends (Returned (Some v) s1.world))) ≡ cond z (Leaves j.around s1) (Ends (Returned (Some v) s1.world))
      left true v s1 = refl
      left false v s1 = refl

      by : (o : Outcome Frame Flow) → FlowShown ground void (out_in j) credit (code ground xs b s) o → FlowShown ground void (out_of void j) credit (code ground (enclosed xs ∷ []) b s) (and_then o after_switch)
      by (Came Goes f1 w1 work) r = record { state = r.state; cost = r.cost; runs = ends r.runs; shows = r.shows; nothing = r.nothing; paid = omega (arith, r.paid) }
      by (Came Breaks f1 w1 work) r = record { state = r.state; cost = r.cost; runs = ends r.runs; shows = r.shows; nothing = λ q. refl; paid = omega (arith, r.paid) }
      by (Came Continues f1 w1 work) r = record { state = r.state; cost = r.cost; runs = ends r.runs; shows = r.shows; nothing = r.nothing; paid = omega (arith, r.paid) }
      by (Came (Returns v) f1 w1 work) r = record { state = r.state; cost = r.cost; runs = ends r.runs ∙ ap (ran r.cost) (left void v r.state); shows = r.shows; nothing = r.nothing; paid = omega (arith, r.paid) }
      by (Stopped why w1 work) r = record { cost = r.cost; runs = λ ne. ends (r.runs ne); paid = r.paid }

  -- ---- one arm

  module _ (there : ground.locals < ground.room) where
    abbrev code_of_arm : ℕ → List Stm → List Stm
    code_of_arm = arm_code ground.locals

    arm_test : (b : Bound) (i : ℕ) (x : Stm) (xs : List Stm) (s : State) →
        code ground (code_of_arm i (x ∷ xs)) b s ≡ spend 17 (cond (ltb i (slice_index s.temps ground.locals)) (ran 0 (Next s)) (code ground ((x ∷ xs) ++ set ground.locals (number 0) ∷ []) b s))
    unfolding ir_tree.binary word.lt_u
    arm_test b i x xs s =
        let body = (x ∷ xs) ++ set ground.locals (number 0) ∷ [] in
        run.if_runs (resting ground) b (binary 10 (number i) (temp ground.locals)) [] body s ∙
        ap (λ k. spend (8 + 3 * k) (cond (eqb (val (resting ground) (binary 10 (number i) (temp ground.locals)) s) 0) (code ground body b s) (ran 0 (Next s)))) count ∙
        ap (λ k. spend 17 (cond (eqb k 0) (code ground body b s) (ran 0 (Next s)))) holds ∙ by (ltb i (slice_index s.temps ground.locals)) (code ground body b s)
      where
        count : nodes (binary 10 (number i) (temp ground.locals)) ≡ 3
        count = omega (arith, nodes_binary 10 (number i) (temp ground.locals), nodes_temp ground.locals, nodes_number i)

        holds : val (resting ground) (binary 10 (number i) (temp ground.locals)) s ≡ as_word (ltb i (slice_index s.temps ground.locals))
        holds =
            run.val_binary (resting ground) 10 (number i) (temp ground.locals) s ∙
            ap (λ k. as_word (ltb k (val (resting ground) (temp ground.locals) s))) (run.val_number (resting ground) i s) ∙
            ap (λ k. as_word (ltb i k)) (run.val_temp (resting ground) ground.locals s)

        by : (z : Bool) (r : Run) → spend 17 (cond (eqb (as_word z) 0) r (ran 0 (Next s))) ≡ spend 17 (cond z (ran 0 (Next s)) r)
        by true r = refl
        by false r = refl

    -- behind an arm the temporary holds the first place
    falls_on : (j : Jumps) (b : Bound) → FlowCorrect ground void (out_in j) 11 b (give Goes) (set ground.locals (number 0) ∷ [])
    falls_on j b f w s sh = record {
      state = with_temp s ground.locals 0;
      cost = 11;
      runs = placed b ground.locals 0 s;
      shows = show.shows_temp (resting ground) f w s ground.locals 0 (omega arith) sh;
      nothing = λ q. refl;
      paid = omega arith;
    }

    -- an arm that is entered
    entered : (j : Jumps) (b : Bound) (i : ℕ) (xs : List Stm) (s : State) (o : Outcome Frame Flow) → slice_index s.temps ground.locals ≤ i →
        FlowShown ground void (out_in j) 0 (spend (entry xs) (code ground xs b s)) o →
        FlowShown ground void (out_in j) 0 (code ground (code_of_arm i xs) b s) o
    entered j b i [] s o le h = flows.refunded ground void (out_in j) 0 0 (code ground [] b s) o h
    entered j b i (x ∷ xs) s o le h =
        subst (λ (r : Run). FlowShown ground void (out_in j) 0 r o) (sym is)
        (subst (λ (q : Outcome Frame Flow). FlowShown ground void (out_in j) 0 (spend 17 (code ground (body ++ set ground.locals (number 0) ∷ []) b s)) q) (sym (ends_same o))
        (flows.refunded ground void (out_in j) 0 11 (spend 17 (code ground (body ++ set ground.locals (number 0) ∷ []) b s)) (and_then o (λ flow. then_on flow (give Goes)))
        (subst (λ (r : Run). FlowShown ground void (out_in j) 11 r (and_then o (λ flow. then_on flow (give Goes)))) dearer
        (flows.then_after ground void (in_arm j) 0 11 (spend 28 (code ground body b s)) (code ground (set ground.locals (number 0) ∷ []) b) (give Goes) o h (λ f w s1 e sh. falls_on j b f w s1 sh)))))
      where
        body : List Stm
        body = x ∷ xs

        is : code ground (code_of_arm i body) b s ≡ spend 17 (code ground (body ++ set ground.locals (number 0) ∷ []) b s)
        is = arm_test b i x xs s ∙ ap (λ z. spend 17 (cond z (ran 0 (Next s)) (code ground (body ++ set ground.locals (number 0) ∷ []) b s))) (le-ltb i (slice_index s.temps ground.locals) le)

        dearer : then_do (spend 28 (code ground body b s)) (code ground (set ground.locals (number 0) ∷ []) b) ≡ spend 11 (spend 17 (code ground (body ++ set ground.locals (number 0) ∷ []) b s))
        dearer = run_same _ _ refl (omega arith) ∙ ap (λ r. spend 11 (spend 17 r)) (sym (run.joined ground.setting ground.frame body (set ground.locals (number 0) ∷ []) b s))

    -- where control goes on behind an arm that was entered, the place isn't behind the next arm
    goes_to_next : (b : Bound) (i : ℕ) (xs : List Stm) (s s1 : State) → slice_index s.temps ground.locals ≤ i → (code ground (code_of_arm i xs) b s).outcome ≡ Next s1 → slice_index s1.temps ground.locals ≤ suc i
    goes_to_next b i [] s s1 le e = subst (λ (q : State). slice_index q.temps ground.locals ≤ suc i) (same_state s s1 e) (omega (arith, le))
    goes_to_next b i (x ∷ xs) s s1 le e =
        let z = by (code ground (x ∷ xs) b s).outcome (sym (ap (λ (r : Run). r.outcome) is) ∙ e) in omega (arith, z)
      where
        is : code ground (code_of_arm i (x ∷ xs)) b s ≡ spend 17 (then_do (code ground (x ∷ xs) b s) (code ground (set ground.locals (number 0) ∷ []) b))
        is =
            arm_test b i x xs s ∙ ap (λ z. spend 17 (cond z (ran 0 (Next s)) (code ground ((x ∷ xs) ++ set ground.locals (number 0) ∷ []) b s))) (le-ltb i (slice_index s.temps ground.locals) le) ∙
            ap (λ r. spend 17 r) (run.joined ground.setting ground.frame (x ∷ xs) (set ground.locals (number 0) ∷ []) b s)

        by : (o : ir.Outcome) → (goes_on o (code ground (set ground.locals (number 0) ∷ []) b)).outcome ≡ Next s1 → slice_index s1.temps ground.locals ≡ 0
        by (Next s2) q =
            subst (λ (z : State). slice_index z.temps ground.locals ≡ 0) (same_state (with_temp s2 ground.locals 0) s1 (sym (ap (λ (r : Run). r.outcome) (placed b ground.locals 0 s2)) ∙ q)) (first_place s2.temps ground.locals)
        by (Leaves n s2) q = absurd (subst IsLeft q tt)
          where
            IsLeft : ir.Outcome → Type 0
            IsLeft (Next z) = ⊥
            IsLeft _ = Unit {0}
        by (Restarts n s2) q = absurd (subst IsLeft q tt)
          where
            IsLeft : ir.Outcome → Type 0
            IsLeft (Next z) = ⊥
            IsLeft _ = Unit {0}
        by (Ends end) q = absurd (subst IsLeft q tt)
          where
            IsLeft : ir.Outcome → Type 0
            IsLeft (Next z) = ⊥
            IsLeft _ = Unit {0}

    -- an arm that is skipped
    skipped : (b : Bound) (i : ℕ) (xs : List Stm) (s : State) → i < slice_index s.temps ground.locals → (cost : ℕ) × (code ground (code_of_arm i xs) b s ≡ ran cost (Next s)) × (cost ≤ 17)
    skipped b i [] s lt = (0, refl, omega arith)
    skipped b i (x ∷ xs) s lt =
        (17, arm_test b i x xs s ∙ ap (λ z. spend 17 (cond z (ran 0 (Next s)) (code ground ((x ∷ xs) ++ set ground.locals (number 0) ∷ []) b s))) (lt-ltb i (slice_index s.temps ground.locals) lt), omega arith)

    -- ---- all arms

    abbrev all_code : ℕ → List LoweredArm → Jumps → List Stm
    all_code = arms_code ground.locals

    -- from an arm on, through that arm and all behind it
    falls : (j : Jumps) (b : Bound) (ds : List ArmDenotation) (ls : List LoweredArm) (i : ℕ) (f : Frame) (w : World) (s : State) → ArmsCorrect b j ds ls → Shows (resting ground) f w s → slice_index s.temps ground.locals ≤ i →
        FlowShown ground void (out_in j) 0 (code ground (all_code i ls j) b s) (in_order (bodies_of ds) f w)
    falls j b [] [] i f w s h sh le = flows.nothing_to_do ground void (in_arm j) b f w s sh
    falls j b [] (l ∷ ls) i f w s h sh le = absurd h
    falls j b (d ∷ ds) [] i f w s h sh le = absurd h
    falls j b (d ∷ ds) (l ∷ ls) i f w s h sh le =
        let xs = (l.body (in_arm j)).code in
        let o = in_order d.body f w in
        subst (λ (q : Outcome Frame Flow). FlowShown ground void (out_in j) 0 (code ground (code_of_arm i xs ++ all_code (suc i) ls j) b s) q) (sym (in_order_both d.body (bodies_of ds) f w))
        (subst (λ (r : Run). FlowShown ground void (out_in j) 0 r (and_then o (λ flow. then_on flow (in_order (bodies_of ds))))) (sym (run.joined ground.setting ground.frame (code_of_arm i xs) (all_code (suc i) ls j) b s))
        (flows.then_after ground void (in_arm j) 0 0 (code ground (code_of_arm i xs) b s) (code ground (all_code (suc i) ls j) b) (in_order (bodies_of ds)) o (entered j b i xs s o le (h.2 f w s sh))
        (λ f1 w1 s1 e sh1. falls j b ds ls (suc i) f1 w1 s1 h.3 sh1 (goes_to_next b i xs s s1 le e))))

    -- into the arm that stands so many arms behind, or behind all
    enters : (j : Jumps) (b : Bound) (ds : List ArmDenotation) (ls : List LoweredArm) (i more : ℕ) (f : Frame) (w : World) (s : State) →
        ArmsCorrect b j ds ls → Shows (resting ground) f w s → slice_index s.temps ground.locals ≡ i + more → more ≤ length ls →
        FlowShown ground void (out_in j) (17 * more) (code ground (all_code i ls j) b s) (in_order (bodies_of (drop more ds)) f w)
    enters j b ds ls i zero f w s h sh e le = falls j b ds ls i f w s h sh (omega (arith, e))
    enters j b ds [] i (suc more) f w s h sh e le = absurd (omega (arith, le))
    enters j b [] (l ∷ ls) i (suc more) f w s h sh e le = absurd h
    enters j b (d ∷ ds) (l ∷ ls) i (suc more) f w s h sh e le =
        let xs = (l.body (in_arm j)).code in
        let k = skipped b i xs s (omega (arith, e)) in
        flows.more ground void (out_in j) (17 * more + k.0) (17 * suc more) (code ground (code_of_arm i xs ++ all_code (suc i) ls j) b s) (in_order (bodies_of (drop more ds)) f w) (omega (arith, k.2))
        (flows.priced ground void (out_in j) (17 * more) k.0 (code ground (all_code (suc i) ls j) b s) (code ground (code_of_arm i xs ++ all_code (suc i) ls j) b s) (in_order (bodies_of (drop more ds)) f w)
        (run.joined ground.setting ground.frame (code_of_arm i xs) (all_code (suc i) ls j) b s ∙ ap (λ r. then_do r (code ground (all_code (suc i) ls j) b)) k.1)
        (enters j b ds ls (suc i) more f w s h.3 sh (omega (arith, e)) (omega (arith, le))))

  -- ---- which arm

  abbrev picks : (ArmDenotation → Bool) → (LoweredArm → Bool) → List ArmDenotation → List LoweredArm → Type 0
  picks pick lowered [] [] = Unit {0}
  picks pick lowered [] (l ∷ ls) = ⊥
  picks pick lowered (d ∷ ds) [] = ⊥
  picks pick lowered (d ∷ ds) (l ∷ ls) = (lowered l ≡ pick d) × picks pick lowered ds ls

  picked_is : (pick : ArmDenotation → Bool) (lowered : LoweredArm → Bool) (ds : List ArmDenotation) (ls : List LoweredArm) → picks pick lowered ds ls → bodies_of (drop (arm_place lowered 0 ls) ds) ≡ bodies_from pick ds
  picked_is pick lowered [] [] h = refl
  picked_is pick lowered [] (l ∷ ls) h = absurd h
  picked_is pick lowered (d ∷ ds) [] h = absurd h
  picked_is pick lowered (d ∷ ds) (l ∷ ls) h =
      ap (λ z. bodies_of (drop (cond z 0 (arm_place lowered 1 ls)) (d ∷ ds))) h.0 ∙ ap (λ n. bodies_of (drop (cond (pick d) 0 n) (d ∷ ds))) (place_above lowered 0 ls) ∙ by (picked_is pick lowered ds ls h.1) (pick d)
    where
      by : bodies_of (drop (arm_place lowered 0 ls) ds) ≡ bodies_from pick ds → (z : Bool) → bodies_of (drop (cond z 0 (suc (arm_place lowered 0 ls))) (d ∷ ds)) ≡ cond z (bodies_of (d ∷ ds)) (bodies_from pick ds)
      by others true = refl
      by others false = others

  others_picked : (b : Bound) (j : Jumps) (ds : List ArmDenotation) (ls : List LoweredArm) → ArmsCorrect b j ds ls → picks (λ a. a.other) (λ a. a.other) ds ls
  others_picked b j [] [] h = tt
  others_picked b j [] (l ∷ ls) h = absurd h
  others_picked b j (d ∷ ds) [] h = absurd h
  others_picked b j (d ∷ ds) (l ∷ ls) h = (h.1, others_picked b j ds ls h.3)

  hits_picked : (b : Bound) (j : Jumps) (v : ℕ) (ds : List ArmDenotation) (ls : List LoweredArm) → ArmsCorrect b j ds ls → picks (λ a. (tried_labels v a.labels).found) (hits v) ds ls
  hits_picked b j v [] [] h = tt
  hits_picked b j v [] (l ∷ ls) h = absurd h
  hits_picked b j v (d ∷ ds) [] h = absurd h
  hits_picked b j v (d ∷ ds) (l ∷ ls) h = (ap (λ xs. (tried_labels v xs).found) h.0, hits_picked b j v ds ls h.3)

  labels_are : (b : Bound) (j : Jumps) (ds : List ArmDenotation) (ls : List LoweredArm) → ArmsCorrect b j ds ls → lowered_labels ls ≡ labels_of ds
  labels_are b j [] [] h = refl
  labels_are b j [] (l ∷ ls) h = absurd h
  labels_are b j (d ∷ ds) [] h = absurd h
  labels_are b j (d ∷ ds) (l ∷ ls) h = ap (λ xs. xs ++ lowered_labels ls) h.0 ∙ ap (λ xs. d.labels ++ xs) (labels_are b j ds ls h.3)

  -- from the tests to the arm
  arrives : ground.locals < ground.room →
      (j : Jumps) (b : Bound) (ds : List ArmDenotation) (ls : List LoweredArm) (v : ℕ) (f : Frame) (w : World) (s : State) → ArmsCorrect b j ds ls →
      bare_arms ls ≤ 2 → Shows (resting ground) f w s → slice_index s.temps ground.locals ≡ v →
      FlowShown ground void (out_of void j) 53
      (code ground (enclosed (enclosed (all_tests ground.locals ls) ∷ arms_code ground.locals 0 ls j) ∷ []) b s) (switch_flow v ds f w)
  arrives there j b ds ls v f w s h bare sh e =
      subst (λ (xs : List ℕ). FlowShown ground void (out_of void j) 53 (code ground (enclosed whole ∷ []) b s) (arrived (tried_labels v xs))) (labels_are b j ds ls h) (by (tried_labels v (lowered_labels ls)).found refl)
    where
      whole : List Stm
      whole = enclosed (all_tests ground.locals ls) ∷ arms_code ground.locals 0 ls j

      arrived : Tried → Outcome Frame Flow
      arrived t = after t.labels (and_then (in_order (cond t.found (bodies_from (λ a. (tried_labels v a.labels).found) ds) (bodies_from (λ a. a.other) ds)) f w) after_switch)

      t : Tried
      t = tried_labels v (lowered_labels ls)

      last : ℕ
      last = arm_place (λ a. a.other) 0 ls

      tests : code ground (all_tests ground.locals ls) b s ≡ after_tests b ground.locals t (arm_place (hits v) 0 ls) (set ground.locals (number last) ∷ []) s
      tests = arm_tests b ground.locals 0 v ls (set ground.locals (number last) ∷ []) s e

      way : Passed t (arm_place (hits v) 0 ls) (length ls) (bare_arms ls)
      way = passed v ls

      goes_in : (pick : ArmDenotation → Bool) (lowered : LoweredArm → Bool) (cost : ℕ) → picks pick lowered ds ls →
          code ground (enclosed (all_tests ground.locals ls) ∷ []) b s ≡ ran cost (Next (with_temp s ground.locals (arm_place lowered 0 ls))) →
          17 * arm_place lowered 0 ls + cost ≤ 53 + 100 * t.labels →
          FlowShown ground void (out_of void j) 53 (code ground (enclosed whole ∷ []) b s)
          (after t.labels (and_then (in_order (bodies_from pick ds) f w) after_switch))
      goes_in pick lowered cost picked r le =
          let place = arm_place lowered 0 ls in
          let s1 = with_temp s ground.locals place in
          let at : slice_index s1.temps ground.locals ≡ place = get_or-set_same s.temps ground.locals place 0 (subst (λ k. ground.locals < k) (sym sh.temps) there) in
          flows.paid_by ground void (out_of void j) 53 t.labels (code ground (enclosed whole ∷ []) b s) (and_then (in_order (bodies_from pick ds) f w) after_switch)
          (closed j (53 + 100 * t.labels) b whole s (in_order (bodies_from pick ds) f w)
          (subst (λ (bodies : List (Evaluation Flow)). FlowShown ground void (out_in j) (53 + 100 * t.labels) (code ground whole b s) (in_order bodies f w)) (picked_is pick lowered ds ls picked)
          (flows.more ground void (out_in j) (17 * place + cost) (53 + 100 * t.labels) (code ground whole b s) (in_order (bodies_of (drop place ds)) f w) le
          (flows.priced ground void (out_in j) (17 * place) cost (code ground (arms_code ground.locals 0 ls j) b s1) (code ground whole b s) (in_order (bodies_of (drop place ds)) f w)
          (run.joined ground.setting ground.frame (enclosed (all_tests ground.locals ls) ∷ []) (arms_code ground.locals 0 ls j) b s ∙ ap (λ q. then_do q (code ground (arms_code ground.locals 0 ls j) b)) r)
          (enters there j b ds ls 0 place f w s1 h (show.shows_temp (resting ground) f w s ground.locals place (omega arith) sh)
          (omega (arith, at)) (place_within lowered ls))))))

      enclosed_tests : {r : Run} → code ground (all_tests ground.locals ls) b s ≡ r → code ground (enclosed (all_tests ground.locals ls) ∷ []) b s ≡ ran r.cost (block_end r.outcome)
      enclosed_tests q = one_meaning ground.setting ground.frame (stm.Block (all_tests ground.locals ls)) b s ∙ ap (λ (r : Run). ran r.cost (block_end r.outcome)) q

      by : (z : Bool) → t.found ≡ z → FlowShown ground void (out_of void j) 53 (code ground (enclosed whole ∷ []) b s) (arrived t)
      by true q =
          subst (λ z. FlowShown ground void (out_of void j) 53 (code ground (enclosed whole ∷ []) b s)
          (after t.labels (and_then
          (in_order (cond z (bodies_from (λ a. (tried_labels v a.labels).found) ds) (bodies_from (λ a. a.other) ds)) f w) after_switch)))
          (sym q) (goes_in (λ a. (tried_labels v a.labels).found) (hits v) (17 * t.labels + 19) (hits_picked b j v ds ls h)
          (enclosed_tests (tests ∙ ap (λ z. cond z (ran (17 * t.labels + 19) (Leaves 0 (with_temp s ground.locals (arm_place (hits v) 0 ls))))
          (spend (17 * t.labels) (code ground (set ground.locals (number last) ∷ []) b s))) q))
          (omega (arith, way.to_arm, bare)))
      by false q =
          let all = way.to_end q in
          subst (λ z. FlowShown ground void (out_of void j) 53 (code ground (enclosed whole ∷ []) b s)
          (after t.labels (and_then
          (in_order (cond z (bodies_from (λ a. (tried_labels v a.labels).found) ds) (bodies_from (λ a. a.other) ds)) f w) after_switch)))
          (sym q) (goes_in (λ a. a.other) (λ a. a.other) (17 * t.labels + 11) (others_picked b j ds ls h)
          (enclosed_tests (tests ∙ ap (λ z. cond z (ran (17 * t.labels + 19) (Leaves 0 (with_temp s ground.locals (arm_place (hits v) 0 ls))))
          (spend (17 * t.labels) (code ground (set ground.locals (number last) ∷ []) b s))) q ∙
          ap (λ r. spend (17 * t.labels) r) (placed b ground.locals last s)))
          (omega (arith, all, place_within (λ a. a.other) ls, bare)))

  pub switch_correct : (j : Jumps) (b : Bound) (me : Evaluation ℕ) (le : Lowering) (ds : List ArmDenotation) (ls : List LoweredArm) → (le ground.locals).top ≤ ground.room → ground.locals + 1 ≤ ground.room → bare_arms ls ≤ 2 →
      CorrectFor (resting ground) b 0 me le → ArmsCorrect b j ds ls → FlowCorrect ground void (out_of void j) 72 b (bind me (λ v. switch_flow v ds)) (lower_switch ground.locals le ls j).code
  switch_correct j b me le ds ls fits room_for bare ce h f w s sh =
      let e = le ground.locals in
      let rest = enclosed (enclosed (all_tests ground.locals ls) ∷ arms_code ground.locals 0 ls j) ∷ [] in
      flows.behind ground void none (out_of void j) b 72 0 ground.locals s e.code (set ground.locals e.tree ∷ rest) e.tree (me f w) (λ v. switch_flow v ds) (ce ground.locals f w s (omega arith) fits sh)
      (λ v f1 w1 work r.
      let x = val (resting ground) e.tree r.state in
      let s1 = with_temp r.state ground.locals x in
      let shown = r.shows in
      flows.more ground void (out_of void j) (53 + (8 + 3 * nodes e.tree)) (72 + (3 * nodes e.tree + 11)) (code ground (set ground.locals e.tree ∷ rest) b r.state) (switch_flow v ds f1 w1) (omega arith)
      (flows.priced ground void (out_of void j) 53 (8 + 3 * nodes e.tree) (code ground rest b s1) (code ground (set ground.locals e.tree ∷ rest) b r.state) (switch_flow v ds f1 w1)
      (run.joined ground.setting ground.frame (set ground.locals e.tree ∷ []) rest b r.state ∙ ap (λ q. then_do q (code ground rest b)) (run.runs_set (resting ground) b ground.locals e.tree r.state))
      (arrives (omega (arith, room_for)) j b ds ls v f1 w1 s1 h bare (show.shows_temp (resting ground) f1 w1 r.state ground.locals x (omega arith) shown)
      (get_or-set_same r.state.temps ground.locals x 0 (subst (λ k. ground.locals < k) (sym r.shows.temps) (omega (arith, room_for))) ∙ r.value))))
