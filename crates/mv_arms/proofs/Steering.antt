-- The tests of a `switch`, as they were and as they become: the same place is chosen, and what they become leaves as many blocks more as arms are skipped.
use Rattle.std.proofs.Common.{arith, ◌≡◌, ℕ, suc, ◌+◌, ◌*◌, ◌<◌, ◌≤◌, Bool, true, false, cond, eqb, ltb, List, [], ◌∷◌, ◌++◌, length, refl, sym, ◌∙◌, ap, subst, ◌⊎◌, inl, inr}
use Rattle.std.specs.Prelude.{slice_index, slice_set}
use Rattle.std.proofs.lemmas.List.{length-set, get_or_past}
use Rattle.std.proofs.lemmas.Grind.{get_or-set_at}
use Rattle.std.proofs.lemmas.Bool.{cases_lt}
use Rattle.mv_num.specs.Words as word
use Rattle.mv_num.specs.Words.{as_word}
use Rattle.mv_ir.specs.declared.tree.Tree.{Tree}
use Rattle.mv_ir.specs.declared.tree.Tree.TheOpen as tree
use Rattle.mv_ir.specs.declared.stm.Stm.{Stm, out-Stm}
use Rattle.mv_ir.specs.declared.stm.Stm.TheOpen.{Stm-F}
use Rattle.mv_ir.specs.declared.stm.Stm.TheViews.{out-roll-Stm}
use Rattle.mv_ir.specs.declared.stm.Stm.TheOpen as stm
use Rattle.mv_ir.specs.World.{Setting, Frame}
use Rattle.mv_ir.specs.Trees as trees
use Rattle.mv_ir.specs.Trees.{nodes}
use Rattle.mv_ir.specs.Outcome.{State, Outcome, Next, Leaves, Restarts, Ends, Run, Bound, Meaning, spend, now, goes_on, then_do, block_end}
use Rattle.mv_ir.specs.Meaning.{of_tree, with_temp, step, meaning, code_meaning}
use Rattle.mv_ir.specs.Rolled.{number, temp, set, choose, break, enclosed}
use Rattle.mv_ir.proofs.Common.{same_next}
use Rattle.mv_ir.proofs.Rolls.{value_roll}
use Rattle.mv_ir.proofs.Keeping.{meaning_roll, one_meaning, joined_runs}
use Rattle.mv_arms.specs.Arms.{passed, Steered, other, test, skips, AreArms}
use Rattle.mv_arms.specs.Walking.{leaving}
use Rattle.mv_arms.proofs.Via.{Long}

-- ---- what a choice is made of

abbrev left_of : Stm-F Stm → List Stm
left_of (stm.If c a b) = a
left_of _ = []

abbrev right_of : Stm-F Stm → List Stm
right_of (stm.If c a b) = b
right_of _ = []

pub same_left : (c c' : Tree) (a a' b b' : List Stm) → choose c a b ≡ choose c' a' b' → a ≡ a'
same_left c c' a a' b b' e = sym (ap left_of (out-roll-Stm (stm.If c a b))) ∙ ap (λ s. left_of (out-Stm s)) e ∙ ap left_of (out-roll-Stm (stm.If c' a' b'))

pub same_right : (c c' : Tree) (a a' b b' : List Stm) → choose c a b ≡ choose c' a' b' → b ≡ b'
same_right c c' a a' b b' e = sym (ap right_of (out-roll-Stm (stm.If c a b))) ∙ ap (λ s. right_of (out-Stm s)) e ∙ ap right_of (out-roll-Stm (stm.If c' a' b'))

-- ---- numbers

pub less_is : (a b : ℕ) → trees.binary 10 a b ≡ as_word (ltb a b)
unfolding trees.binary word.lt_u
less_is a b = refl

pub passed_zero : (places : List ℕ) → passed places 0 ≡ 0
passed_zero [] = refl
passed_zero (i ∷ places) = ap (λ b. cond b (suc (passed places 0)) 0) (never i)
  where
    never : (i : ℕ) → ltb i 0 ≡ false
    never i = grind arith

pub are_count : (t : ℕ) (places : List ℕ) (arms : List Stm) → AreArms t places arms → length places ≡ length arms
are_count t [] [] h = refl
are_count t [] (a ∷ arms) h = absurd h
are_count t (i ∷ places) [] h = absurd h
are_count t (i ∷ places) (a ∷ arms) h = ap suc (are_count t places arms h.1)

-- at most all arms are skipped
pub passed_within : (places : List ℕ) (p : ℕ) → passed places p ≤ length places
passed_within [] p = omega arith
passed_within (i ∷ places) p = by (passed_within places p) (ltb i p)
  where
    by : passed places p ≤ length places → (b : Bool) → cond b (suc (passed places p)) 0 ≤ suc (length places)
    by h true = omega (arith, h)
    by h false = omega arith

module _ (setting : Setting) (frame : Frame) where
  abbrev val : Tree → State → ℕ
  val = of_tree setting frame

  abbrev m : Stm → Meaning
  m = meaning setting frame

  abbrev run : List Stm → Meaning
  run = code_meaning setting frame

  number_is : (n : ℕ) (s : State) → val (number n) s ≡ n
  number_is n s = ap (λ f. f s.temps s.world.globals) (value_roll setting.numbers frame.bound (tree.Number n))

  temp_is : (t : ℕ) (s : State) → val (temp t) s ≡ slice_index s.temps t
  temp_is t s = ap (λ f. f s.temps s.world.globals) (value_roll setting.numbers frame.bound (tree.Temp t))

  pub skips_is : (i t : ℕ) (s : State) → val (skips i t) s ≡ as_word (ltb i (slice_index s.temps t))
  skips_is i t s =
      ap (λ f. f s.temps s.world.globals) (value_roll setting.numbers frame.bound (tree.Binary 10 (number i) (temp t))) ∙
      (λ k. trees.binary 10 (number_is i s k) (temp_is t s k)) ∙ less_is i (slice_index s.temps t)

  -- ---- statements

  pub set_runs : (t n : ℕ) (bound : Bound) (s : State) → m (set t (number n)) bound s ≡ step setting frame (nodes (number n)) (Next (with_temp s t n))
  set_runs t n bound s =
      ap (λ f. f bound s) (meaning_roll setting frame (stm.Set t (number n))) ∙ ap (λ v. step setting frame (nodes (number n)) (Next (with_temp s t v))) (number_is n s)

  pub leaving_runs : (t p k : ℕ) (bound : Bound) (s : State) → run (leaving t p k) bound s ≡ spend (8 + 3 * nodes (number p)) (step setting frame 0 (Leaves k (with_temp s t p)))
  leaving_runs t p k bound s =
      ap (λ r. then_do r (run (break k ∷ []) bound)) (set_runs t p bound s) ∙ ap (spend (8 + 3 * nodes (number p))) (one_meaning setting frame (stm.Break k) bound (with_temp s t p))

  -- a block before some code
  pub enclosed_runs : (xs ys : List Stm) (bound : Bound) (s : State) →
      run (enclosed xs ∷ ys) bound s ≡ spend (run xs bound s).cost (goes_on (block_end (run xs bound s).outcome) (run ys bound))
  enclosed_runs xs ys bound s = ap (λ f. then_do (f bound s) (run ys bound)) (meaning_roll setting frame (stm.Block xs))

  -- a choice before some code
  pub chosen_runs : (c : Tree) (a b ys : List Stm) (bound : Bound) (s : State) →
      run (choose c a b ∷ ys) bound s ≡ then_do (spend (8 + 3 * nodes c) (cond (eqb (val c s) 0) (run b bound s) (run a bound s))) (run ys bound)
  chosen_runs c a b ys bound s = ap (λ f. then_do (f bound s) (run ys bound)) (meaning_roll setting frame (stm.If c a b))

  -- code that ends by setting a temporary to 0
  pub ends_at_zero : (t : ℕ) (front : List Stm) (bound : Bound) (s u : State) → (run (front ++ set t (number 0) ∷ []) bound s).outcome ≡ Next u → slice_index u.temps t ≡ 0
  ends_at_zero t front bound s u e = by (run front bound s).outcome refl
    where
      last : State → Run
      last = run (set t (number 0) ∷ []) bound

      behind : (run (front ++ set t (number 0) ∷ []) bound s).outcome ≡ (goes_on (run front bound s).outcome last).outcome
      behind = ap (λ r. r.outcome) (joined_runs setting frame frame frame front (set t (number 0) ∷ []) bound s)

      zeroed : (xs : List ℕ) → (t < length xs) ⊎ (length xs ≤ t) → slice_index (slice_set xs t 0) t ≡ 0
      zeroed xs (inl lt) = get_or-set_at xs t t 0 0 refl lt
      zeroed xs (inr le) = get_or_past (slice_set xs t 0) t 0 (omega (arith, le, length-set xs t 0))

      set_last : (v : State) → (last v).outcome ≡ Next (with_temp v t 0)
      set_last v = ap (λ r. (then_do r (run [] bound)).outcome) (set_runs t 0 bound v)

      is_next : Outcome → Type 0
      is_next (Next x) = Unit {0}
      is_next (Leaves n x) = ⊥
      is_next (Restarts n x) = ⊥
      is_next (Ends x) = ⊥

      by : (o : Outcome) → (run front bound s).outcome ≡ o → slice_index u.temps t ≡ 0
      by (Next v) eo =
          let whole : Next (with_temp v t 0) ≡ Next u = sym (set_last v) ∙ sym (ap (λ o. (goes_on o last).outcome) eo) ∙ sym behind ∙ e in
          ap (λ (x : State). slice_index x.temps t) (sym (same_next (with_temp v t 0) u whole)) ∙ zeroed v.temps (cases_lt t (length v.temps))
      by (Leaves n v) eo = let whole : Leaves n v ≡ Next u = sym (ap (λ o. (goes_on o last).outcome) eo) ∙ sym behind ∙ e in absurd (subst is_next (sym whole) tt)
      by (Restarts n v) eo = let whole : Restarts n v ≡ Next u = sym (ap (λ o. (goes_on o last).outcome) eo) ∙ sym behind ∙ e in absurd (subst is_next (sym whole) tt)
      by (Ends x) eo = let whole : Ends x ≡ Next u = sym (ap (λ o. (goes_on o last).outcome) eo) ∙ sym behind ∙ e in absurd (subst is_next (sym whole) tt)

  -- ---- tests

  -- both choose a place and put it into the temporary
  pub record Chosen (temps t : ℕ) (places : List ℕ) (r r' : Run) : Type 0 where
    pub place : ℕ
    pub state : State
    pub there : slice_index state.temps t ≡ place
    pub long : Long temps state
    pub first : block_end r.outcome ≡ Next state
    pub second : r'.outcome ≡ Leaves (passed places place) state
    pub cost : r'.cost ≤ r.cost + 8

  module _ (temps t : ℕ) (places : List ℕ) (low : t < temps) where
    put_there : (p : ℕ) (s : State) → Long temps s → slice_index (with_temp s t p).temps t ≡ p
    put_there p s l = get_or-set_at s.temps t t p 0 refl (omega (arith, low, l))

    put_long : (p : ℕ) (s : State) → Long temps s → Long temps (with_temp s t p)
    put_long p s l = omega (arith, l, length-set s.temps t p)

    more : (n : ℕ) (r r' : Run) → Chosen temps t places r r' → Chosen temps t places (spend n r) (spend n r')
    more n r r' h = record { place = h.place; state = h.state; there = h.there; long = h.long; first = h.first; second = h.second; cost = omega (arith, h.cost) }

    pub tests_run : (tests tests' : List Stm) → Steered t places tests tests' → (bound : Bound) (s : State) → Long temps s → Chosen temps t places (run tests bound s) (run tests' bound s)
    tests_run tests tests' (other p) bound s l =
        let n = nodes (number p) in
        let once : run (set t (number p) ∷ []) bound s ≡ spend (8 + 3 * n) (now (Next (with_temp s t p))) = ap (λ r. then_do r (run [] bound)) (set_runs t p bound s) in
        let twice = leaving_runs t p (passed places p) bound s in
        record {
          place = p;
          state = with_temp s t p;
          there = put_there p s l;
          long = put_long p s l;
          first = ap (λ r. block_end r.outcome) once;
          second = ap (λ r. r.outcome) twice;
          cost = omega (arith, ap (λ (r : Run). r.cost) once, ap (λ (r : Run). r.cost) twice);
        }
    tests_run tests tests' (test c p rest rest' h) bound s l =
        subst (λ r. Chosen temps t places r (run (choose c (leaving t p (passed places p)) [] ∷ rest') bound s)) (sym (chosen_runs c (leaving t p 0) [] rest bound s))
        (subst (Chosen temps t places (either (eqb (val c s) 0) 0 rest)) (sym (chosen_runs c (leaving t p (passed places p)) [] rest' bound s)) (by (tests_run rest rest' h bound s l) (eqb (val c s) 0)))
      where
        either : Bool → ℕ → List Stm → Run
        either b k behind = then_do (spend (8 + 3 * nodes c) (cond b (now (Next s)) (run (leaving t p k) bound s))) (run behind bound)

        chosen : (k : ℕ) (behind : List Stm) → either false k behind ≡ spend (8 + 3 * nodes c + (8 + 3 * nodes (number p) + (8 + 3 * 0))) (now (Leaves k (with_temp s t p)))
        chosen k behind = ap (λ r. then_do (spend (8 + 3 * nodes c) r) (run behind bound)) (leaving_runs t p k bound s)

        by : Chosen temps t places (run rest bound s) (run rest' bound s) → (b : Bool) → Chosen temps t places (either b 0 rest) (either b (passed places p) rest')
        by k true = more (8 + 3 * nodes c + 0) (run rest bound s) (run rest' bound s) k
        by k false = record {
          place = p;
          state = with_temp s t p;
          there = put_there p s l;
          long = put_long p s l;
          first = ap (λ r. block_end r.outcome) (chosen 0 rest);
          second = ap (λ r. r.outcome) (chosen (passed places p) rest');
          cost = omega (arith, ap (λ (r : Run). r.cost) (chosen 0 rest), ap (λ (r : Run). r.cost) (chosen (passed places p) rest'));
        }
