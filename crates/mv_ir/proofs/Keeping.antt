-- To keep the meaning is reflexive and transitive, and if the parts keep it, the whole does.
use Rattle.std.proofs.Common.{◌≡◌, ℕ, zero, suc, ◌+◌, ◌≤◌, Bool, true, false, cond, List, [], ◌∷◌, ◌++◌, map, refl, sym, ◌∙◌, subst, ap, arith}
use Rattle.mv_ir.specs.declared.stm.Stm.{Stm}
use Rattle.mv_ir.specs.declared.stm.Stm.TheOpen.{Stm-F}
use Rattle.mv_ir.specs.declared.stm.Stm.TheViews.{roll-Stm}
use Rattle.mv_ir.specs.declared.stm.Stm.TheFolds.{fold-roll-Stm, map-Stm}
use Rattle.mv_ir.specs.declared.body.Body.{Body}
use Rattle.mv_ir.specs.World.{World, Setting, Frame}
use Rattle.mv_ir.specs.Outcome.{State, Outcome, Next, Leaves, Restarts, Ends, Run, Bound, Meaning, spend, now, goes_on, then_do, in_order, block_end, block, turn_end, turn, loop}
use Rattle.mv_ir.specs.Meaning.{statement, meaning, code_meaning, Contents, first_temps, first_arrays, entry_state, body_end, body_from}
use Rattle.mv_ir.specs.Measures.{joined}
use Rattle.mv_ir.proofs.Induction.{Each}
use Rattle.mv_ir.specs.Keeps.{KeepsRun, KeepsMeaning, KeepsCall, KeepsBody}

-- ---- runs

pub run_same : (r r' : Run) → r.outcome ≡ r'.outcome → r.cost ≡ r'.cost → r ≡ r'
run_same r r' e c = ap (λ o. let run : Run = record { cost = r.cost; outcome = o } in run) e ∙ ap (λ n. let run : Run = record { cost = n; outcome = r'.outcome } in run) c

pub run_refl : (r : Run) → KeepsRun r r
run_refl r = record { same = refl; cheaper = omega arith }

pub run_equal : (r r' : Run) → r ≡ r' → KeepsRun r r'
run_equal r r' e = subst (KeepsRun r) e (run_refl r)

pub run_trans : (r r' r'' : Run) → KeepsRun r r' → KeepsRun r' r'' → KeepsRun r r''
run_trans r r' r'' h k = record { same = h.same ∙ k.same; cheaper = omega (arith, h.cheaper, k.cheaper) }

pub spend_keeps : (n n' : ℕ) (r r' : Run) → n' ≤ n → KeepsRun r r' → KeepsRun (spend n r) (spend n' r')
spend_keeps n n' r r' le h = record { same = h.same; cheaper = omega (arith, h.cheaper) }

-- ---- one after the other

-- a statement that stands alone
pub alone : (r : Run) → then_do r (λ s. now (Next s)) ≡ r
alone r = by r.outcome refl
  where
    by : (o : Outcome) → r.outcome ≡ o → then_do r (λ s. now (Next s)) ≡ r
    by (Next s) e = run_same _ r (ap (λ o. (goes_on o (λ s. now (Next s))).outcome) e ∙ sym e) (ap (λ o. r.cost + (goes_on o (λ s. now (Next s))).cost) e ∙ omega arith)
    by (Leaves n s) e = run_same _ r (ap (λ o. (goes_on o (λ s. now (Next s))).outcome) e ∙ sym e) (ap (λ o. r.cost + (goes_on o (λ s. now (Next s))).cost) e ∙ omega arith)
    by (Restarts n s) e = run_same _ r (ap (λ o. (goes_on o (λ s. now (Next s))).outcome) e ∙ sym e) (ap (λ o. r.cost + (goes_on o (λ s. now (Next s))).cost) e ∙ omega arith)
    by (Ends x) e = run_same _ r (ap (λ o. (goes_on o (λ s. now (Next s))).outcome) e ∙ sym e) (ap (λ o. r.cost + (goes_on o (λ s. now (Next s))).cost) e ∙ omega arith)

goes_keeps : (o : Outcome) (f f' : State → Run) → ((s : State) → KeepsRun (f s) (f' s)) → KeepsRun (goes_on o f) (goes_on o f')
goes_keeps (Next s) f f' h = h s
goes_keeps (Leaves n s) f f' h = run_refl _
goes_keeps (Restarts n s) f f' h = run_refl _
goes_keeps (Ends e) f f' h = run_refl _

pub then_keeps : (r r' : Run) (f f' : State → Run) → KeepsRun r r' → ((s : State) → KeepsRun (f s) (f' s)) → KeepsRun (then_do r f) (then_do r' f')
then_keeps r r' f f' h k =
    spend_keeps r.cost r'.cost _ _ h.cheaper (subst (λ o. KeepsRun (goes_on r.outcome f) (goes_on o f')) h.same (goes_keeps r.outcome f f' k))

goes_assoc : (n : ℕ) (o : Outcome) (f g : State → Run) → then_do (spend n (goes_on o f)) g ≡ spend n (goes_on o (λ s. then_do (f s) g))
goes_assoc n (Next s) f g = run_same _ _ refl (omega arith)
goes_assoc n (Leaves k s) f g = run_same _ _ refl (omega arith)
goes_assoc n (Restarts k s) f g = run_same _ _ refl (omega arith)
goes_assoc n (Ends e) f g = run_same _ _ refl (omega arith)

pub then_assoc : (r : Run) (f g : State → Run) → then_do (then_do r f) g ≡ then_do r (λ s. then_do (f s) g)
then_assoc r f g = goes_assoc r.cost r.outcome f g

goes_same : (o : Outcome) (f g : State → Run) → ((s : State) → f s ≡ g s) → goes_on o f ≡ goes_on o g
goes_same (Next s) f g h = h s
goes_same (Leaves k s) f g h = refl
goes_same (Restarts k s) f g h = refl
goes_same (Ends e) f g h = refl

pub then_same : (r : Run) (f g : State → Run) → ((s : State) → f s ≡ g s) → then_do r f ≡ then_do r g
then_same r f g h = ap (spend r.cost) (goes_same r.outcome f g h)

-- the statements of two lists
pub in_order_append : (xs ys : List Meaning) (bound : Bound) (s : State) → in_order (xs ++ ys) bound s ≡ then_do (in_order xs bound s) (in_order ys bound)
in_order_append [] ys bound s = run_same _ _ refl (omega arith)
in_order_append (m ∷ xs) ys bound s =
    then_same (m bound s) _ _ (λ s1. in_order_append xs ys bound s1) ∙ sym (then_assoc (m bound s) (in_order xs bound) (in_order ys bound))

-- ---- blocks and loops

pub block_keeps : (m m' : Meaning) → KeepsMeaning m m' → KeepsMeaning (block m) (block m')
block_keeps m m' h bound s = record { same = ap block_end (h bound s).same; cheaper = (h bound s).cheaper }

turn_end_keeps : (o : Outcome) (f f' : State → Run) → ((s : State) → KeepsRun (f s) (f' s)) → KeepsRun (turn_end o f) (turn_end o f')
turn_end_keeps (Next s) f f' h = h s
turn_end_keeps (Leaves zero s) f f' h = run_refl _
turn_end_keeps (Leaves (suc n) s) f f' h = run_refl _
turn_end_keeps (Restarts zero s) f f' h = h s
turn_end_keeps (Restarts (suc n) s) f f' h = run_refl _
turn_end_keeps (Ends e) f f' h = run_refl _

pub turn_keeps : (r r' : Run) (f f' : State → Run) → KeepsRun r r' → ((s : State) → KeepsRun (f s) (f' s)) → KeepsRun (turn r f) (turn r' f')
turn_keeps r r' f f' h k =
    spend_keeps 8 8 _ _ (omega arith) (spend_keeps r.cost r'.cost _ _ h.cheaper (subst (λ o. KeepsRun (turn_end r.outcome f) (turn_end o f')) h.same (turn_end_keeps r.outcome f f' k)))

pub loop_keeps : (m m' : Meaning) → KeepsMeaning m m' → KeepsMeaning (loop m) (loop m')
loop_keeps m m' h [] s = turn_keeps (m [] s) (m' [] s) _ _ (h [] s) (λ s1. run_refl _)
loop_keeps m m' h (calls ∷ below) s = turn_keeps (m (calls ∷ below) s) (m' (calls ∷ below) s) _ _ (h (calls ∷ below) s) (loop_keeps m m' h below)

pub either_keeps : (c : Bool) (r1 r1' r2 r2' : Run) → KeepsRun r1 r1' → KeepsRun r2 r2' → KeepsRun (cond c r1 r2) (cond c r1' r2')
either_keeps true r1 r1' r2 r2' h k = h
either_keeps false r1 r1' r2 r2' h k = k

-- ---- code

pub map_append : {A B : Type 0} (f : A → B) (xs ys : List A) → map f (xs ++ ys) ≡ map f xs ++ map f ys
map_append f [] ys = refl
map_append f (x ∷ xs) ys = ap (λ l. f x ∷ l) (map_append f xs ys)

-- what one statement means, from what those in it mean
abbrev pub layer_means : Setting → Frame → Stm-F Stm → Meaning
layer_means setting frame x = statement setting frame (map-Stm Stm Meaning (meaning setting frame) x)

pub meaning_roll : (setting : Setting) (frame : Frame) (x : Stm-F Stm) → meaning setting frame (roll-Stm x) ≡ layer_means setting frame x
unfolding meaning
meaning_roll setting frame x = fold-roll-Stm Meaning (statement setting frame) x

pub one_meaning : (setting : Setting) (frame : Frame) (x : Stm-F Stm) (bound : Bound) (s : State) → code_meaning setting frame (roll-Stm x ∷ []) bound s ≡ layer_means setting frame x bound s
one_meaning setting frame x bound s =
    alone (meaning setting frame (roll-Stm x) bound s) ∙ ap (λ m. m bound s) (meaning_roll setting frame x)

-- ---- code in two frames, which may differ in what their switches are read as

abbrev pub Between : Setting → Frame → Frame → List Stm → List Stm → Type 0
Between setting frame frame' xs ys = KeepsMeaning (code_meaning setting frame xs) (code_meaning setting frame' ys)

module _ (setting : Setting) (frame frame' : Frame) where
  abbrev B : List Stm → List Stm → Type 0
  B = Between setting frame frame'

  pub joined_runs : (f : Frame) (xs ys : List Stm) (bound : Bound) (s : State) → code_meaning setting f (xs ++ ys) bound s ≡ then_do (code_meaning setting f xs bound s) (code_meaning setting f ys bound)
  joined_runs f xs ys bound s = ap (λ l. in_order l bound s) (map_append (meaning setting f) xs ys) ∙ in_order_append (map (meaning setting f) xs) (map (meaning setting f) ys) bound s

  pub between_append : (xs xs' ys ys' : List Stm) → B xs xs' → B ys ys' → B (xs ++ ys) (xs' ++ ys')
  between_append xs xs' ys ys' h k bound s =
      let mid = then_keeps _ _ _ _ (h bound s) (λ s1. k bound s1) in
      subst (λ r. KeepsRun (code_meaning setting frame (xs ++ ys) bound s) r) (sym (joined_runs frame' xs' ys' bound s))
      (subst (λ r. KeepsRun r (then_do (code_meaning setting frame' xs' bound s) (code_meaning setting frame' ys' bound))) (sym (joined_runs frame xs ys bound s)) mid)

  -- one statement, where the step of its layer keeps the meaning of another's
  pub between_one : (x y : Stm-F Stm) →
      KeepsMeaning (statement setting frame (map-Stm Stm Meaning (meaning setting frame) x)) (statement setting frame' (map-Stm Stm Meaning (meaning setting frame') y)) →
      B (roll-Stm x ∷ []) (roll-Stm y ∷ [])
  between_one x y h bound s =
      subst (λ r. KeepsRun (code_meaning setting frame (roll-Stm x ∷ []) bound s) r) (sym (one_meaning setting frame' y bound s))
      (subst (λ r. KeepsRun r (statement setting frame' (map-Stm Stm Meaning (meaning setting frame') y) bound s)) (sym (one_meaning setting frame x bound s)) (h bound s))

  -- one statement, where the step of its layer keeps the meaning of some code
  pub between_many : (x : Stm-F Stm) (ys : List Stm) → KeepsMeaning (statement setting frame (map-Stm Stm Meaning (meaning setting frame) x)) (code_meaning setting frame' ys) → B (roll-Stm x ∷ []) ys
  between_many x ys h bound s =
      subst (λ r. KeepsRun r (code_meaning setting frame' ys bound s)) (sym (one_meaning setting frame x bound s)) (h bound s)

  -- each statement rewritten to one
  pub between_map : (f : Stm → Stm) (xs : List Stm) → Each (λ s. B (s ∷ []) (f s ∷ [])) xs → B xs (map f xs)
  between_map f [] h bound s = run_refl _
  between_map f (x ∷ xs) h bound s = between_append (x ∷ []) (f x ∷ []) xs (map f xs) h.0 (between_map f xs h.1) bound s

  -- each statement rewritten to some code
  pub between_joined : (f : Stm → List Stm) (xs : List Stm) → Each (λ s. B (s ∷ []) (f s)) xs → B xs (joined (map f xs))
  between_joined f [] h bound s = run_refl _
  between_joined f (x ∷ xs) h bound s = between_append (x ∷ []) (f x) xs (joined (map f xs)) h.0 (between_joined f xs h.1) bound s

-- ---- code in each frame

-- ---- bodies

pub body_trans : (a b c : Body) → KeepsBody a b → KeepsBody b c → KeepsBody a c
body_trans a b c h k setting frame contents args bound w =
    let p = h setting frame contents args bound w in
    let q = k setting frame contents args bound w in
    record { same = p.same ∙ q.same; cheaper = omega (arith, p.cheaper, q.cheaper) }

-- ---- from code to its body

pub body_between : (setting : Setting) (frame frame' : Frame) (b b' : Body) → b'.temps ≡ b.temps → b'.arrays ≡ b.arrays → Between setting frame frame' b.code b'.code →
    (contents : Contents) (args : List ℕ) (bound : Bound) (w : World) → KeepsCall (body_from setting frame contents b args bound w) (body_from setting frame' contents b' args bound w)
body_between setting frame frame' b b' et ea h contents args bound w =
    let start = ap (λ n. start_at n b'.arrays) et ∙ ap (λ l. start_at b.temps l) ea in
    let k = subst (λ s. KeepsRun (code_meaning setting frame b.code bound (entry_state contents b args w)) (code_meaning setting frame' b'.code bound s)) (sym start) (h bound (entry_state contents b args w)) in
    record { same = ap body_end k.same; cheaper = k.cheaper }
  where
    start_at : ℕ → List ℕ → State
    start_at n l = record { temps = first_temps contents.temps n args; arrays = first_arrays contents.arrays l; world = w }
