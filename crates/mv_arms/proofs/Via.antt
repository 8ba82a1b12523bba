-- A run and another whose jumps lead to the same loops and blocks, among which others stand: their parts, and what is put together from these.
use Rattle.std.proofs.Common.{arith, ◌≡◌, ℕ, zero, suc, ◌+◌, ◌≤◌, Bool, true, false, cond, List, [], ◌∷◌, length, refl, sym, ◌∙◌, ap, subst}
use Rattle.mv_ir.specs.Outcome.{State, More, Outcome, Next, Leaves, Restarts, Ends, Run, Bound, Meaning, spend, now, goes_on, then_do, in_order, block_end, block, turn_end, turn, loop}
use Rattle.mv_ir.specs.Meaning.{body_end}
use Rattle.mv_arms.specs.Arms.{level}

-- what becomes of an outcome
abbrev pub via : List ℕ → Outcome → Outcome
via levels (Next s) = Next s
via levels (Leaves n s) = Leaves (level levels n) s
via levels (Restarts n s) = Restarts (level levels n) s
via levels (Ends e) = Ends e

-- so many temporaries are there
abbrev pub Long : ℕ → State → Type 0
Long temps s = temps ≤ length s.temps

abbrev pub AllLong : ℕ → Outcome → Type 0
AllLong temps (Next s) = Long temps s
AllLong temps (Leaves n s) = Long temps s
AllLong temps (Restarts n s) = Long temps s
AllLong temps (Ends e) = Unit {0}

pub record IsVia (temps : ℕ) (levels : List ℕ) (r r' : Run) : Type 0 where
  pub same : r'.outcome ≡ via levels r.outcome
  pub cheaper : r'.cost ≤ r.cost
  pub long : AllLong temps r.outcome

abbrev pub MeansVia : ℕ → List ℕ → Meaning → Meaning → Type 0
MeansVia temps levels m m' = (bound : Bound) (s : State) → Long temps s → IsVia temps levels (m bound s) (m' bound s)

pub same_level : (levels : List ℕ) (n : ℕ) → level levels n ≡ level levels n + 0
same_level levels n = omega arith

pub deeper_level : (levels : List ℕ) (k n : ℕ) → level (suc k ∷ levels) n ≡ suc (level (k ∷ levels) n)
deeper_level levels k zero = refl
deeper_level levels k (suc n) = omega arith

level_same : (levels : List ℕ) (n : ℕ) → level (0 ∷ levels) (suc n) ≡ suc (level levels n)
level_same levels n = omega arith

module _ (temps : ℕ) (levels : List ℕ) where
  pub spend_via : (n n' : ℕ) (r r' : Run) → n' ≤ n → IsVia temps levels r r' → IsVia temps levels (spend n r) (spend n' r')
  spend_via n n' r r' le h = record { same = h.same; cheaper = omega (arith, le, h.cheaper); long = h.long }

  -- ---- one after the other

  goes_via : (o : Outcome) (f f' : State → Run) → AllLong temps o → ((s : State) → Long temps s → IsVia temps levels (f s) (f' s)) → IsVia temps levels (goes_on o f) (goes_on (via levels o) f')
  goes_via (Next s) f f' l h = h s l
  goes_via (Leaves n s) f f' l h = record { same = refl; cheaper = omega arith; long = l }
  goes_via (Restarts n s) f f' l h = record { same = refl; cheaper = omega arith; long = l }
  goes_via (Ends e) f f' l h = record { same = refl; cheaper = omega arith; long = l }

  pub then_via : (r r' : Run) (f f' : State → Run) → IsVia temps levels r r' → ((s : State) → Long temps s → IsVia temps levels (f s) (f' s)) → IsVia temps levels (then_do r f) (then_do r' f')
  then_via r r' f f' h k =
      subst (λ o. IsVia temps levels (then_do r f) (spend r'.cost (goes_on o f'))) (sym h.same) (spend_via r.cost r'.cost _ _ h.cheaper (goes_via r.outcome f f' h.long k))

  pub nil_via : MeansVia temps levels (in_order []) (in_order [])
  nil_via bound s l = record { same = refl; cheaper = omega arith; long = l }

  pub cons_via : (m m' : Meaning) (ms ms' : List Meaning) → MeansVia temps levels m m' → MeansVia temps levels (in_order ms) (in_order ms') → MeansVia temps levels (in_order (m ∷ ms)) (in_order (m' ∷ ms'))
  cons_via m m' ms ms' h k bound s l = then_via (m bound s) (m' bound s) (in_order ms bound) (in_order ms' bound) (h bound s l) (k bound)

  pub either_via : (c : Bool) (r1 r1' r2 r2' : Run) → IsVia temps levels r1 r1' → IsVia temps levels r2 r2' → IsVia temps levels (cond c r1 r2) (cond c r1' r2')
  either_via true r1 r1' r2 r2' h k = h
  either_via false r1 r1' r2 r2' h k = k

  -- ---- blocks and loops

  pub via_block : (o : Outcome) → block_end (via (0 ∷ levels) o) ≡ via levels (block_end o)
  via_block (Next s) = refl
  via_block (Leaves zero s) = refl
  via_block (Leaves (suc n) s) = ap (λ k. block_end (Leaves k s)) (level_same levels n)
  via_block (Restarts zero s) = refl
  via_block (Restarts (suc n) s) = ap (λ k. block_end (Restarts k s)) (level_same levels n)
  via_block (Ends e) = refl

  pub long_block : (o : Outcome) → AllLong temps o → AllLong temps (block_end o)
  long_block (Next s) l = l
  long_block (Leaves zero s) l = l
  long_block (Leaves (suc n) s) l = l
  long_block (Restarts zero s) l = tt
  long_block (Restarts (suc n) s) l = l
  long_block (Ends e) l = tt

  pub block_via : (m m' : Meaning) → MeansVia temps (0 ∷ levels) m m' → MeansVia temps levels (block m) (block m')
  block_via m m' h bound s l =
      let r = h bound s l in
      record { same = ap block_end r.same ∙ via_block (m bound s).outcome; cheaper = r.cheaper; long = long_block (m bound s).outcome r.long }

  turn_end_via : (o : Outcome) (f f' : State → Run) → AllLong temps o → ((s : State) → Long temps s → IsVia temps levels (f s) (f' s)) →
      IsVia temps levels (turn_end o f) (turn_end (via (0 ∷ levels) o) f')
  turn_end_via (Next s) f f' l h = h s l
  turn_end_via (Leaves zero s) f f' l h = record { same = refl; cheaper = omega arith; long = l }
  turn_end_via (Leaves (suc n) s) f f' l h = record { same = ap (λ k. (turn_end (Leaves k s) f').outcome) (level_same levels n); cheaper = omega arith; long = l }
  turn_end_via (Restarts zero s) f f' l h = h s l
  turn_end_via (Restarts (suc n) s) f f' l h = record { same = ap (λ k. (turn_end (Restarts k s) f').outcome) (level_same levels n); cheaper = omega arith; long = l }
  turn_end_via (Ends e) f f' l h = record { same = refl; cheaper = omega arith; long = l }

  turn_via : (r r' : Run) (f f' : State → Run) → IsVia temps (0 ∷ levels) r r' → ((s : State) → Long temps s → IsVia temps levels (f s) (f' s)) → IsVia temps levels (turn r f) (turn r' f')
  turn_via r r' f f' h k =
      subst (λ o. IsVia temps levels (turn r f) (spend 8 (spend r'.cost (turn_end o f')))) (sym h.same)
      (spend_via 8 8 _ _ (omega arith) (spend_via r.cost r'.cost _ _ h.cheaper (turn_end_via r.outcome f f' h.long k)))

  pub loop_via : (m m' : Meaning) → MeansVia temps (0 ∷ levels) m m' → MeansVia temps levels (loop m) (loop m')
  loop_via m m' h [] s l =
      turn_via (m [] s) (m' [] s) (λ u. now (Ends (More u.world))) (λ u. now (Ends (More u.world))) (h [] s l) (λ u k. record { same = refl; cheaper = omega arith; long = tt })
  loop_via m m' h (calls ∷ below) s l =
      turn_via (m (calls ∷ below) s) (m' (calls ∷ below) s) (loop m below) (loop m' below) (h (calls ∷ below) s l) (loop_via m m' h below)

  -- ---- bodies

  pub end_via : (o : Outcome) → body_end (via levels o) ≡ body_end o
  end_via (Next s) = refl
  end_via (Leaves n s) = refl
  end_via (Restarts n s) = refl
  end_via (Ends e) = refl
