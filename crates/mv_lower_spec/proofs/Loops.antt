-- The three kinds of loops, at every bound.
use Rattle.std.proofs.Common.{◌≡◌, ℕ, ◌+◌, ◌≤◌, Bool, true, false, cond, eqb, List, [], ◌∷◌, ◌++◌, refl, ◌∙◌, arith}
use Rattle.mv_ir.specs.declared.stm.Stm.{Stm}
use Rattle.mv_ir.specs.declared.stm.Stm.TheOpen as stm
use Rattle.mv_ast.specs.Worlds.{World, bind, give}
use Rattle.mv_meaning.specs.declared.state.Frame.{Frame}
use Rattle.mv_meaning.specs.declared.state.Flow.{Flow}
use Rattle.mv_meaning.specs.declared.state.Flow.TheVariants.{Goes, Breaks, Continues, Returns}
use Rattle.mv_meaning.specs.Meaning.{Evaluation, after_body, unless_zero}
use Rattle.mv_ir.specs.Outcome.{State, Bound}
use Rattle.mv_ir.specs.Outcome as ir
use Rattle.mv_ir.proofs.Keeping.{one_meaning}
use Rattle.mv_lower_spec.specs.Lowered.{Lowering}
use Rattle.mv_lower_spec.specs.Statements.{FlowCorrect, Jumps, in_body, break, enclosed, test_and_body, out_of, turn_out}
use Rattle.mv_lower_spec.specs.Correct.{Ground, resting, CorrectFor}
use Rattle.mv_meaning.proofs.Sequences.{under, assoc, given}
use Rattle.mv_lower_spec.proofs.Flows as flows
use Rattle.mv_lower_spec.proofs.Flows.{code}
use Rattle.mv_lower_spec.proofs.Flows.{through}

-- ---- a turn, as the loop's code does it: a test that fails leaves the loop

-- by a test, in either way
either_same : {A : Type 0} (z : Bool) (a b c d : Evaluation A) (f : Frame) (w : World) → a f w ≡ c f w → b f w ≡ d f w → cond z a b f w ≡ cond z c d f w
either_same true a b c d f w h k = h
either_same false a b c d f w h k = k

bound_either : {A B : Type 0} (z : Bool) (a b : Evaluation A) (next : A → Evaluation B) (f : Frame) (w : World) → bind (cond z a b) next f w ≡ cond z (bind a next) (bind b next) f w
bound_either true a b next f w = refl
bound_either false a b next f w = refl

abbrev pub while_turn : Evaluation ℕ → Evaluation Flow → Evaluation Flow
while_turn me mb = bind me (λ v. unless_zero v (give Breaks) mb)

pub while_same : (me : Evaluation ℕ) (mb next : Evaluation Flow) (f : Frame) (w : World) →
    bind (while_turn me mb) (λ flow. after_body flow next) f w ≡ bind me (λ v. unless_zero v (give Goes) (bind mb (λ flow. after_body flow next))) f w
while_same me mb next f w =
    assoc me (λ v. unless_zero v (give Breaks) mb) (λ flow. after_body flow next) f w ∙
    under (me f w) (λ v. bind (unless_zero v (give Breaks) mb) (λ flow. after_body flow next)) (λ v. unless_zero v (give Goes) (bind mb (λ flow. after_body flow next)))
    (λ v f1 w1. bound_either (eqb v 0) (give Breaks) mb (λ flow. after_body flow next) f1 w1 ∙
    either_same (eqb v 0) (bind (give Breaks) (λ flow. after_body flow next)) (bind mb (λ flow. after_body flow next)) (give Goes) (bind mb (λ flow. after_body flow next)) f1 w1 (given Breaks (λ flow. after_body flow next) f1 w1) refl)

abbrev pub test_turn : Evaluation ℕ → Evaluation Flow
test_turn me = while_turn me (give Goes)

abbrev pub do_turn : Evaluation Flow → Evaluation ℕ → Evaluation Flow
do_turn mb me = bind mb (λ flow. through flow (test_turn me))

test_same : (me : Evaluation ℕ) (next : Evaluation Flow) (f : Frame) (w : World) →
    bind (test_turn me) (λ flow. after_body flow next) f w ≡ bind me (λ v. unless_zero v (give Goes) next) f w
test_same me next f w =
    while_same me (give Goes) next f w ∙
    under (me f w) (λ v. unless_zero v (give Goes) (bind (give Goes) (λ flow. after_body flow next))) (λ v. unless_zero v (give Goes) next)
    (λ v f1 w1. either_same (eqb v 0) (give Goes) (bind (give Goes) (λ flow. after_body flow next)) (give Goes) next f1 w1 refl (given Goes (λ flow. after_body flow next) f1 w1))

pub do_same : (mb : Evaluation Flow) (me : Evaluation ℕ) (next : Evaluation Flow) (f : Frame) (w : World) →
    bind (do_turn mb me) (λ flow. after_body flow next) f w ≡ bind mb (λ flow. after_body flow (bind me (λ v. unless_zero v (give Goes) next))) f w
do_same mb me next f w =
    assoc mb (λ flow. through flow (test_turn me)) (λ flow. after_body flow next) f w ∙
    under (mb f w) (λ flow. bind (through flow (test_turn me)) (λ fl. after_body fl next)) (λ flow. after_body flow (bind me (λ v. unless_zero v (give Goes) next))) by
  where
    by : (flow : Flow) (f1 : Frame) (w1 : World) → bind (through flow (test_turn me)) (λ fl. after_body fl next) f1 w1 ≡ after_body flow (bind me (λ v. unless_zero v (give Goes) next)) f1 w1
    by Goes f1 w1 = test_same me next f1 w1
    by Breaks f1 w1 = given Breaks (λ fl. after_body fl next) f1 w1
    by Continues f1 w1 = test_same me next f1 w1
    by (Returns v) f1 w1 = given (Returns v) (λ fl. after_body fl next) f1 w1

abbrev pub for_turn : Evaluation ℕ → Evaluation Flow → Evaluation ℕ → Evaluation Flow
for_turn me mb ms = bind (while_turn me mb) (λ flow. through flow (bind ms (λ _. give Goes)))

pub for_same : (me : Evaluation ℕ) (mb : Evaluation Flow) (ms : Evaluation ℕ) (next : Evaluation Flow) (f : Frame) (w : World) →
    bind (for_turn me mb ms) (λ flow. after_body flow next) f w ≡ bind me (λ v. unless_zero v (give Goes) (bind mb (λ flow. after_body flow (bind ms (λ _. next))))) f w
for_same me mb ms next f w =
    let step : Evaluation Flow = bind ms (λ _. give Goes) in
    let last : Flow → Evaluation Flow = λ flow. bind (through flow step) (λ fl. after_body fl next) in
    assoc (while_turn me mb) (λ flow. through flow step) (λ flow. after_body flow next) f w ∙
    assoc me (λ v. unless_zero v (give Breaks) mb) last f w ∙
    under (me f w) (λ v. bind (unless_zero v (give Breaks) mb) last) (λ v. unless_zero v (give Goes) (bind mb (λ flow. after_body flow (bind ms (λ _. next)))))
    (λ v f1 w1. bound_either (eqb v 0) (give Breaks) mb last f1 w1 ∙
    either_same (eqb v 0) (bind (give Breaks) last) (bind mb last) (give Goes) (bind mb (λ flow. after_body flow (bind ms (λ _. next)))) f1 w1
    (given Breaks last f1 w1 ∙ given Breaks (λ fl. after_body fl next) f1 w1)
    (under (mb f1 w1) last (λ flow. after_body flow (bind ms (λ _. next))) by))
  where
    stepped : (f1 : Frame) (w1 : World) → bind (bind ms (λ _. give Goes)) (λ fl. after_body fl next) f1 w1 ≡ bind ms (λ _. next) f1 w1
    stepped f1 w1 =
        assoc ms (λ _. give Goes) (λ fl. after_body fl next) f1 w1 ∙
        under (ms f1 w1) (λ _. bind (give Goes) (λ fl. after_body fl next)) (λ _. next) (λ v f2 w2. given Goes (λ fl. after_body fl next) f2 w2)

    by : (flow : Flow) (f1 : Frame) (w1 : World) → bind (through flow (bind ms (λ _. give Goes))) (λ fl. after_body fl next) f1 w1 ≡ after_body flow (bind ms (λ _. next)) f1 w1
    by Goes f1 w1 = stepped f1 w1
    by Breaks f1 w1 = given Breaks (λ fl. after_body fl next) f1 w1
    by Continues f1 w1 = stepped f1 w1
    by (Returns v) f1 w1 = given (Returns v) (λ fl. after_body fl next) f1 w1

-- the same with another next turn that comes to the same
pub after_same : (m next next' : Evaluation Flow) (f : Frame) (w : World) → ((f1 : Frame) (w1 : World) → next f1 w1 ≡ next' f1 w1) →
    bind m (λ flow. after_body flow next) f w ≡ bind m (λ flow. after_body flow next') f w
after_same m next next' f w e = under (m f w) (λ flow. after_body flow next) (λ flow. after_body flow next') by
  where
    by : (flow : Flow) (f1 : Frame) (w1 : World) → after_body flow next f1 w1 ≡ after_body flow next' f1 w1
    by Goes f1 w1 = e f1 w1
    by Breaks f1 w1 = refl
    by Continues f1 w1 = e f1 w1
    by (Returns v) f1 w1 = refl

module _ (ground : Ground) (void : Bool) where
  raise : (out : Flow → State → ir.Outcome) (k k' : ℕ) (b : Bound) (m : Evaluation Flow) (xs : List Stm) → k ≤ k' → FlowCorrect ground void out k b m xs → FlowCorrect ground void out k' b m xs
  raise out k k' b m xs le h f w s sh = flows.more ground void out k k' (code ground xs b s) (m f w) le (h f w s sh)

  leaves_loop : (j : Jumps) (b : Bound) → FlowCorrect ground void (turn_out void j) 8 b (give Breaks) (break 0 ∷ [])
  leaves_loop j b f w s h = record { state = s; cost = 8; runs = one_meaning ground.setting ground.frame (stm.Break 0) b s; shows = h; nothing = λ q. refl; paid = omega arith }

  goes_on : (j : Jumps) (b : Bound) → FlowCorrect ground void (turn_out void j) 8 b (give Goes) []
  goes_on j b f w s h = record { state = s; cost = 0; runs = refl; shows = h; nothing = λ q. refl; paid = omega arith }

  -- a test and a body
  pub while_correct : (j : Jumps) (b : Bound) (before : ℕ) (me : Evaluation ℕ) (mb : Evaluation Flow) (le : Lowering) (body : List Stm) → (le ground.locals).top ≤ ground.room → CorrectFor (resting ground) b before me le →
      FlowCorrect ground void (out_of void (in_body j)) 0 b mb body → FlowCorrect ground void (turn_out void j) (8 + before) b (while_turn me mb) (test_and_body ground.locals le (enclosed body ∷ []))
  while_correct j b before me mb le body fits ce cb =
      flows.tested ground void (turn_out void j) b 8 before me mb (give Breaks) le (enclosed body ∷ []) (break 0 ∷ []) fits ce
      (raise (turn_out void j) 0 8 b mb (enclosed body ∷ []) (omega arith) (flows.in_block ground void j b mb body cb)) (leaves_loop j b)

  pub do_correct : (j : Jumps) (b : Bound) (me : Evaluation ℕ) (mb : Evaluation Flow) (le : Lowering) (body : List Stm) → (le ground.locals).top ≤ ground.room → CorrectFor (resting ground) b 0 me le →
      FlowCorrect ground void (out_of void (in_body j)) 0 b mb body → FlowCorrect ground void (turn_out void j) 64 b (do_turn mb me) (enclosed body ∷ test_and_body ground.locals le [])
  do_correct j b me mb le body fits ce cb =
      raise (turn_out void j) ((8 + 0) + 0) 64 b (do_turn mb me) ((enclosed body ∷ []) ++ test_and_body ground.locals le []) (omega arith)
      (flows.in_two_parts ground void j b 0 (8 + 0) mb (test_turn me) (enclosed body ∷ []) (test_and_body ground.locals le []) (flows.in_block ground void j b mb body cb)
      (flows.tested ground void (turn_out void j) b 8 0 me (give Goes) (give Breaks) le [] (break 0 ∷ []) fits ce (goes_on j b) (leaves_loop j b)))

  pub for_correct : (j : Jumps) (b : Bound) (me ms : Evaluation ℕ) (mb : Evaluation Flow) (le ls : Lowering) (body : List Stm) →
      (le ground.locals).top ≤ ground.room → (ls ground.locals).top ≤ ground.room → CorrectFor (resting ground) b 14 me le →
      CorrectFor (resting ground) b 14 ms ls → FlowCorrect ground void (out_of void (in_body j)) 0 b mb body →
      FlowCorrect ground void (turn_out void j) 64 b (for_turn me mb ms)
      (test_and_body ground.locals le (enclosed body ∷ []) ++ (ls ground.locals).code)
  for_correct j b me ms mb le ls body fits fits_step ce cs cb =
      raise (turn_out void j) (14 + (8 + 14)) 64 b (for_turn me mb ms) (test_and_body ground.locals le (enclosed body ∷ []) ++ (ls ground.locals).code) (omega arith)
      (flows.in_two_parts ground void j b (8 + 14) 14 (while_turn me mb) (bind ms (λ _. give Goes)) (test_and_body ground.locals le (enclosed body ∷ [])) (ls ground.locals).code
      (while_correct j b 14 me mb le body fits ce cb)
      (flows.effect ground void (turn_out void j) Goes b 14 14 ms ls (λ s. refl) (λ q. refl) (omega arith) fits_step cs))
