-- Each form of statement: if its parts are lowered correctly, so is the whole.
use Rattle.std.proofs.Common.{◌≡◌, ℕ, zero, suc, ◌+◌, ◌-◌, ◌*◌, ◌≤◌, Bool, true, false, cond, eqb, List, [], ◌∷◌, ◌++◌, map, Some, refl, sym, ◌∙◌, subst, ap, arith}
use Rattle.mv_ir.specs.declared.tree.Tree.{Tree}
use Rattle.mv_ir.specs.declared.stm.Stm.{Stm}
use Rattle.mv_ir.specs.declared.stm.Stm.TheOpen as stm
use Rattle.mv_bindings.specs.declared.stop.Stop.TheVariants.{Unfinished}
use Rattle.mv_ast.specs.Worlds.{World, Outcome, Came, Stopped, after, and_then, bind, give, stop, counted}
use Rattle.mv_meaning.specs.declared.state.Frame.{Frame}
use Rattle.mv_meaning.specs.declared.state.Flow.{Flow}
use Rattle.mv_meaning.specs.declared.state.Flow.TheVariants.{Goes, Breaks, Continues, Returns}
use Rattle.mv_meaning.specs.Meaning.{Evaluation, in_order, then_on, after_body, unless_zero, returned_value}
use Rattle.mv_ir.specs.World as code_world
use Rattle.mv_ir.specs.Outcome.{State, Returned, More, Next, Leaves, Ends, Run, Bound, Calls, spend, now, then_do, block_end, turn, loop}
use Rattle.mv_ir.specs.Outcome as ir
use Rattle.mv_ir.specs.Trees.{nodes}
use Rattle.mv_ir.specs.Meaning.{code_meaning, meaning}
use Rattle.mv_ir.proofs.Keeping.{run_same, one_meaning}
use Rattle.mv_ir.specs.KnownFunctions.{seen}
use Rattle.mv_lower_spec.specs.Lowered.{Lowering, choose}
use Rattle.mv_lower_spec.specs.Statements.{FlowShown, FlowCorrect, Jumps, in_body, return_with, break, repeat, enclosed, lower_return, out_of, turn_out, levels}
use Rattle.mv_lower_spec.specs.Correct as c
use Rattle.mv_lower_spec.specs.Correct.{Ground, Held, declaring, resting, none, val, Shows, Reached, Shown, CorrectFor, ran}
use Rattle.mv_lower_spec.proofs.Running as run

-- what follows a part of a turn: it goes on where the part goes on or continues
abbrev pub through : Flow → Evaluation Flow → Evaluation Flow
through Goes next = next
through Breaks next = give Breaks
through Continues next = next
through (Returns v) next = give (Returns v)

abbrev pub code : Ground → List Stm → Bound → State → Run
code ground = code_meaning ground.setting ground.frame

module _ (ground : Ground) (void : Bool) where
  abbrev Out : Type 0
  Out = Flow → State → ir.Outcome

  -- ---- runs that go on

  -- a run that comes from another at a price
  pub priced : (out : Out) (credit price : ℕ) (inner outer : Run) (o : Outcome Frame Flow) → outer ≡ spend price inner → FlowShown ground void out credit inner o → FlowShown ground void out (credit + price) outer o
  priced out credit price inner outer (Came flow f w work) e h = record {
    state = h.state;
    cost = price + h.cost;
    runs = e ∙ ap (spend price) h.runs;
    shows = h.shows;
    nothing = h.nothing;
    paid = omega (arith, h.paid);
  }
  priced out credit price inner outer (Stopped why w work) e h = record { cost = price + h.cost; runs = λ ne. e ∙ ap (spend price) (h.runs ne); paid = omega (arith, h.paid) }

  pub more : (out : Out) (credit credit' : ℕ) (r : Run) (o : Outcome Frame Flow) → credit ≤ credit' → FlowShown ground void out credit r o → FlowShown ground void out credit' r o
  more out credit credit' r (Came flow f w work) le h = record { state = h.state; cost = h.cost; runs = h.runs; shows = h.shows; nothing = h.nothing; paid = omega (arith, le, h.paid) }
  more out credit credit' r (Stopped why w work) le h = record { cost = h.cost; runs = h.runs; paid = omega (arith, le, h.paid) }

  -- what a run costs less than was paid for
  pub refunded : (out : Out) (credit k : ℕ) (r : Run) (o : Outcome Frame Flow) → FlowShown ground void out (credit + k) (spend k r) o → FlowShown ground void out credit r o
  refunded out credit k r (Came flow f w work) h =
      let e = ap (λ (q : Run). q.cost) h.runs in
      record { state = h.state; cost = h.cost - k; runs = run_same _ _ (ap (λ (q : Run). q.outcome) h.runs) (omega (arith, e)); shows = h.shows; nothing = h.nothing; paid = omega (arith, h.paid) }
  refunded out credit k r (Stopped why w work) h =
      record { cost = h.cost - k; runs = λ ne. (let e = ap (λ (q : Run). q.cost) (h.runs ne) in run_same _ _ (ap (λ (q : Run). q.outcome) (h.runs ne)) (omega (arith, e))); paid = omega (arith, h.paid) }

  pub paid_by : (out : Out) (credit k : ℕ) (r : Run) (o : Outcome Frame Flow) → FlowShown ground void out (credit + 100 * k) r o → FlowShown ground void out credit r (after k o)
  paid_by out credit k r (Came flow f w work) h = record { state = h.state; cost = h.cost; runs = h.runs; shows = h.shows; nothing = h.nothing; paid = omega (arith, h.paid) }
  paid_by out credit k r (Stopped why w work) h = record { cost = h.cost; runs = h.runs; paid = omega (arith, h.paid) }

  -- each statement counts as it begins
  pub counted_once : (out : Out) (b : Bound) (m : Evaluation Flow) (xs : List Stm) → FlowCorrect ground void out 72 b m xs → FlowCorrect ground void out 0 b (counted 1 m) xs
  counted_once out b m xs h f w s sh = paid_by out 0 1 (code ground xs b s) (m f w) (more out 72 100 (code ground xs b s) (m f w) (omega arith) (h f w s sh))

  pub comes_to : (out : Out) (credit : ℕ) (b : Bound) (m m' : Evaluation Flow) (xs : List Stm) → ((f : Frame) (w : World) → m f w ≡ m' f w) → FlowCorrect ground void out credit b m xs → FlowCorrect ground void out credit b m' xs
  comes_to out credit b m m' xs same h f w s sh = subst (λ (o : Outcome Frame Flow). FlowShown ground void out credit (code ground xs b s) o) (same f w) (h f w s sh)

  -- work that was done, and the price that it paid
  pub spent : (out : Out) (credit before cost work : ℕ) (inner outer : Run) (o : Outcome Frame Flow) → outer ≡ spend cost inner → (k : ℕ) →
      cost + k ≤ 100 * work + before → FlowShown ground void out (credit + k) inner o →
      FlowShown ground void out (credit + before) outer (after work o)
  spent out credit before cost work inner outer o e k le h =
      paid_by out (credit + before) work outer o (more out ((credit + k) + cost) (credit + before + 100 * work) outer o (omega (arith, le)) (priced out (credit + k) cost inner outer o e h))

  -- an expression and then the rest
  pub behind : (held : Held) (out : Out) (b : Bound) (credit before n : ℕ) (s : State) (xs rest : List Stm) (t : Tree) (o : Outcome Frame ℕ) (next : ℕ → Evaluation Flow) → Shown (declaring ground held) b 11 before n s xs t o →
      ((v : ℕ) (f : Frame) (w : World) (work : ℕ) (r : Reached (declaring ground held) b 11 before n s xs t v f w work) → FlowShown ground void out (credit + (3 * nodes t + 11)) (code ground rest b r.state) (next v f w)) →
      FlowShown ground void out (credit + before) (code ground (xs ++ rest) b s) (and_then o next)
  behind held out b credit before n s xs rest t (Came v f w work) next h k =
      spent out credit before h.cost work (code ground rest b h.state) (code ground (xs ++ rest) b s) (next v f w)
      (run.joined ground.setting ground.frame xs rest b s ∙ ap (λ r. then_do r (code ground rest b)) h.runs) (3 * nodes t + 11) (omega (arith, h.paid)) (k v f w work h)
  behind held out b credit before n s xs rest t (Stopped why w work) next h k = record {
    cost = h.cost;
    runs = λ ne. run.runs_stop (declaring ground held) b xs rest s (c.end_of why (seen w)) h.cost (h.runs ne);
    paid = omega (arith, h.paid);
  }

  -- ---- plain statements

  -- an expression for its effect
  pub effect : (out : Out) (flow : Flow) (b : Bound) (credit before : ℕ) (me : Evaluation ℕ) (le : Lowering) → ((s : State) → out flow s ≡ Next s) →
      (void ≡ true → returned_value flow ≡ 0) → before ≤ credit → (le ground.locals).top ≤ ground.room → CorrectFor (resting ground) b before me le →
      FlowCorrect ground void out credit b (bind me (λ v. give flow)) (le ground.locals).code
  effect out flow b credit before me le next none enough fits ce f w s h = by (me f w) (ce ground.locals f w s (omega arith) fits h)
    where
      by : (o : Outcome Frame ℕ) → Shown (resting ground) b 11 before ground.locals s (le ground.locals).code (le ground.locals).tree o →
          FlowShown ground void out credit (code ground (le ground.locals).code b s) (and_then o (λ v. give flow))
      by (Came v f1 w1 work) r = record {
        state = r.state;
        cost = r.cost;
        runs = r.runs ∙ ap (ran r.cost) (sym (next r.state));
        shows = r.shows;
        nothing = none;
        paid = omega (arith, r.paid, enough);
      }
      by (Stopped why w1 work) r = record { cost = r.cost; runs = r.runs; paid = omega (arith, r.paid, enough) }

  pub returns : (j : Jumps) (b : Bound) (me : Evaluation ℕ) (le : Lowering) → void ≡ false → (le ground.locals).top ≤ ground.room →
      CorrectFor (resting ground) b 0 me le →
      FlowCorrect ground void (out_of void j) 72 b (bind me (λ v. give (Returns v))) (lower_return ground.locals le j).code
  returns j b me le value fits ce f w s h =
      let e = le ground.locals in
      behind none (out_of void j) b 72 0 ground.locals s e.code (return_with e.tree ∷ []) e.tree (me f w) (λ v. give (Returns v)) (ce ground.locals f w s (omega arith) fits h)
      (λ v f1 w1 work r. record {
        state = r.state;
        cost = 8 + 3 * nodes e.tree;
        runs =
            one_meaning ground.setting ground.frame (stm.Return e.tree) b r.state ∙ ap (λ k. ran (8 + 3 * nodes e.tree) (Ends (Returned (Some k) r.state.world))) r.value ∙
            ap (λ z. ran (8 + 3 * nodes e.tree) (cond z (Leaves j.around r.state) (Ends (Returned (Some v) r.state.world)))) (sym value);
        shows = r.shows;
        nothing = λ q. absurd (contrary q);
        paid = omega arith;
      })
    where
      contrary : void ≡ true → ⊥
      contrary q = subst Is (sym q ∙ value) tt
        where
          Is : Bool → Type 0
          Is true = Unit {0}
          Is false = ⊥

  -- control that leaves at once
  pub leaves : (j : Jumps) (b : Bound) (n : ℕ) (flow : Flow) → ((s : State) → out_of void j flow s ≡ Leaves n s) → returned_value flow ≡ 0 → FlowCorrect ground void (out_of void j) 72 b (give flow) (break n ∷ [])
  leaves j b n flow is none f w s h = record {
    state = s;
    cost = 8;
    runs = one_meaning ground.setting ground.frame (stm.Break n) b s ∙ ap (ran 8) (sym (is s));
    shows = h;
    nothing = λ q. none;
    paid = omega arith;
  }

  -- ---- choices

  pub chosen : (out : Out) (b : Bound) (v : ℕ) (t : Tree) (xs ys : List Stm) (f : Frame) (w : World) (s : State) (zero_way other_way : Evaluation Flow) (z : Bool) (credit : ℕ) → eqb v 0 ≡ z → val (resting ground) t s ≡ v →
      (z ≡ true → FlowShown ground void out credit (code ground ys b s) (zero_way f w)) → (z ≡ false → FlowShown ground void out credit (code ground xs b s) (other_way f w)) →
      FlowShown ground void out (credit + (8 + 3 * nodes t)) (code ground (choose t xs ys ∷ []) b s) (cond z zero_way other_way f w)
  chosen out b v t xs ys f w s zero_way other_way true credit e ev hz ho =
      priced out credit (8 + 3 * nodes t) (code ground ys b s) (code ground (choose t xs ys ∷ []) b s) (zero_way f w)
      (run.if_runs (resting ground) b t xs ys s ∙ ap (λ q. spend (8 + 3 * nodes t) (cond q (code ground ys b s) (code ground xs b s))) (ap (λ j. eqb j 0) ev ∙ e)) (hz refl)
  chosen out b v t xs ys f w s zero_way other_way false credit e ev hz ho =
      priced out credit (8 + 3 * nodes t) (code ground xs b s) (code ground (choose t xs ys ∷ []) b s) (other_way f w)
      (run.if_runs (resting ground) b t xs ys s ∙ ap (λ q. spend (8 + 3 * nodes t) (cond q (code ground ys b s) (code ground xs b s))) (ap (λ j. eqb j 0) ev ∙ e)) (ho refl)

  -- an expression, and a choice by its value
  pub tested : (out : Out) (b : Bound) (credit before : ℕ) (me : Evaluation ℕ) (my mn : Evaluation Flow) (le : Lowering) (xs ys : List Stm) → (le ground.locals).top ≤ ground.room → CorrectFor (resting ground) b before me le →
      FlowCorrect ground void out credit b my xs → FlowCorrect ground void out credit b mn ys →
      FlowCorrect ground void out (credit + before) b (bind me (λ v. unless_zero v mn my)) ((le ground.locals).code ++ choose (le ground.locals).tree xs ys ∷ [])
  tested out b credit before me my mn le xs ys fits ce cy cn f w s h =
      let e = le ground.locals in
      behind none out b credit before ground.locals s e.code (choose e.tree xs ys ∷ []) e.tree (me f w) (λ v. unless_zero v mn my) (ce ground.locals f w s (omega arith) fits h)
      (λ v f1 w1 work r.
      more out (credit + (8 + 3 * nodes e.tree)) (credit + (3 * nodes e.tree + 11)) (code ground (choose e.tree xs ys ∷ []) b r.state) (unless_zero v mn my f1 w1) (omega arith)
      (chosen out b v e.tree xs ys f1 w1 r.state mn my (eqb v 0) credit refl r.value
      (λ q. cn f1 w1 r.state r.shows) (λ q. cy f1 w1 r.state r.shows)))

  -- ---- in order

  -- where control leaves, the rest isn't reached
  stays : (j : Jumps) (s : State) (cost : ℕ) (flow : Flow) (rest : State → Run) → (flow ≡ Goes → ⊥) → then_do (ran cost (out_of void j flow s)) rest ≡ ran (cost + 0) (out_of void j flow s)
  stays j s cost Goes rest ne = absurd (ne refl)
  stays j s cost Breaks rest ne = refl
  stays j s cost Continues rest ne = refl
  stays j s cost (Returns v) rest ne = by void
    where
      by : (z : Bool) → then_do (ran cost (cond z (Leaves j.around s) (Ends (Returned (Some v) s.world)))) rest ≡ ran (cost + 0) (cond z (Leaves j.around s) (Ends (Returned (Some v) s.world)))
      by true = refl
      by false = refl

  -- One run after another, which is correct from where the first one goes on.
  pub then_after : (j : Jumps) (c1 c2 : ℕ) (r : Run) (rest : State → Run) (next : Evaluation Flow) (o : Outcome Frame Flow) →
      FlowShown ground void (out_of void j) c1 r o →
      ((f : Frame) (w : World) (s : State) → r.outcome ≡ Next s → Shows (resting ground) f w s →
      FlowShown ground void (out_of void j) c2 (rest s) (next f w)) →
      FlowShown ground void (out_of void j) (c2 + c1) (then_do r rest) (and_then o (λ flow. then_on flow next))
  then_after j c1 c2 r rest next (Came Goes f w work) h k =
      spent (out_of void j) c2 c1 h.cost work (rest h.state) (then_do r rest) (next f w) (ap (λ (q : Run). then_do q rest) h.runs) 0 (omega (arith, h.paid))
      (more (out_of void j) c2 (c2 + 0) (rest h.state) (next f w) (omega arith) (k f w h.state (ap (λ (q : Run). q.outcome) h.runs) h.shows))
  then_after j c1 c2 r rest next (Came Breaks f w work) h k =
      record { state = h.state; cost = h.cost + 0; runs = ap (λ (q : Run). then_do q rest) h.runs ∙ stays j h.state h.cost Breaks rest (λ e. no_way e); shows = h.shows; nothing = h.nothing; paid = omega (arith, h.paid) }
    where
      no_way : Breaks ≡ Goes → ⊥
      no_way e = subst IsBreak e tt
        where
          IsBreak : Flow → Type 0
          IsBreak Goes = ⊥
          IsBreak Breaks = Unit {0}
          IsBreak Continues = ⊥
          IsBreak (Returns v) = ⊥
  then_after j c1 c2 r rest next (Came Continues f w work) h k =
      record { state = h.state; cost = h.cost + 0; runs = ap (λ (q : Run). then_do q rest) h.runs; shows = h.shows; nothing = h.nothing; paid = omega (arith, h.paid) }
  then_after j c1 c2 r rest next (Came (Returns v) f w work) h k =
      record { state = h.state; cost = h.cost + 0; runs = ap (λ (q : Run). then_do q rest) h.runs ∙ stays j h.state h.cost (Returns v) rest (λ e. no_way e); shows = h.shows; nothing = h.nothing; paid = omega (arith, h.paid) }
    where
      no_way : Returns v ≡ Goes → ⊥
      no_way e = subst IsReturn e tt
        where
          IsReturn : Flow → Type 0
          IsReturn Goes = ⊥
          IsReturn Breaks = ⊥
          IsReturn Continues = ⊥
          IsReturn (Returns v) = Unit {0}
  then_after j c1 c2 r rest next (Stopped why w work) h k = record { cost = h.cost + 0; runs = λ ne. ap (λ (q : Run). then_do q rest) (h.runs ne); paid = omega (arith, h.paid) }

  pub then_next : (j : Jumps) (b : Bound) (c1 c2 : ℕ) (s : State) (xs ys : List Stm) (next : Evaluation Flow) (o : Outcome Frame Flow) →
      FlowShown ground void (out_of void j) c1 (code ground xs b s) o → FlowCorrect ground void (out_of void j) c2 b next ys →
      FlowShown ground void (out_of void j) (c2 + c1) (code ground (xs ++ ys) b s) (and_then o (λ flow. then_on flow next))
  then_next j b c1 c2 s xs ys next o h k =
      subst (λ (r : Run). FlowShown ground void (out_of void j) (c2 + c1) r (and_then o (λ flow. then_on flow next))) (sym (run.joined ground.setting ground.frame xs ys b s))
      (then_after j c1 c2 (code ground xs b s) (code ground ys b) next o h (λ f w s1 e sh. k f w s1 sh))

  pub nothing_to_do : (j : Jumps) (b : Bound) → FlowCorrect ground void (out_of void j) 0 b (in_order []) []
  nothing_to_do j b f w s h = record { state = s; cost = 0; runs = refl; shows = h; nothing = λ q. refl; paid = omega arith }

  -- one statement and then the others
  pub in_turn : (j : Jumps) (b : Bound) (c1 c2 : ℕ) (m next : Evaluation Flow) (xs ys : List Stm) → FlowCorrect ground void (out_of void j) c1 b m xs → FlowCorrect ground void (out_of void j) c2 b next ys →
      FlowCorrect ground void (out_of void j) (c2 + c1) b (bind m (λ flow. then_on flow next)) (xs ++ ys)
  in_turn j b c1 c2 m next xs ys h k f w s sh = then_next j b c1 c2 s xs ys next (m f w) (h f w s sh) k

  -- ---- loops

  -- the body of a loop in its block, as a part of a turn
  pub in_block : (j : Jumps) (b : Bound) (m : Evaluation Flow) (xs : List Stm) → FlowCorrect ground void (out_of void (in_body j)) 0 b m xs → FlowCorrect ground void (turn_out void j) 0 b m (enclosed xs ∷ [])
  in_block j b m xs h f w s sh = by (m f w) (h f w s sh)
    where
      left : (z : Bool) (v : ℕ) (s1 : State) → block_end (cond z (Leaves (suc (suc j.around)) s1) (Ends (Returned (Some v) s1.world))) ≡ cond z (Leaves (suc j.around) s1) (Ends (Returned (Some v) s1.world))
      left true v s1 = refl
      left false v s1 = refl

      by : (o : Outcome Frame Flow) → FlowShown ground void (out_of void (in_body j)) 0 (code ground xs b s) o → FlowShown ground void (turn_out void j) 0 (code ground (enclosed xs ∷ []) b s) o
      by (Came Goes f1 w1 work) r =
          record {
            state = r.state;
            cost = r.cost;
            runs = one_meaning ground.setting ground.frame (stm.Block xs) b s ∙ ap (λ (q : Run). ran q.cost (block_end q.outcome)) r.runs;
            shows = r.shows;
            nothing = r.nothing;
            paid = r.paid;
          }
      by (Came Breaks f1 w1 work) r =
          record {
            state = r.state;
            cost = r.cost;
            runs = one_meaning ground.setting ground.frame (stm.Block xs) b s ∙ ap (λ (q : Run). ran q.cost (block_end q.outcome)) r.runs;
            shows = r.shows;
            nothing = r.nothing;
            paid = r.paid;
          }
      by (Came Continues f1 w1 work) r =
          record {
            state = r.state;
            cost = r.cost;
            runs = one_meaning ground.setting ground.frame (stm.Block xs) b s ∙ ap (λ (q : Run). ran q.cost (block_end q.outcome)) r.runs;
            shows = r.shows;
            nothing = r.nothing;
            paid = r.paid;
          }
      by (Came (Returns v) f1 w1 work) r = record {
        state = r.state;
        cost = r.cost;
        runs = one_meaning ground.setting ground.frame (stm.Block xs) b s ∙ ap (λ (q : Run). ran q.cost (block_end q.outcome)) r.runs ∙ ap (ran r.cost) (left void v r.state);
        shows = r.shows;
        nothing = r.nothing;
        paid = r.paid;
      }
      by (Stopped why w1 work) r = record { cost = r.cost; runs = λ ne. one_meaning ground.setting ground.frame (stm.Block xs) b s ∙ ap (λ (q : Run). ran q.cost (block_end q.outcome)) (r.runs ne); paid = r.paid }

  -- a turn in two parts
  pub in_two_parts : (j : Jumps) (b : Bound) (c1 c2 : ℕ) (m next : Evaluation Flow) (xs ys : List Stm) → FlowCorrect ground void (turn_out void j) c1 b m xs → FlowCorrect ground void (turn_out void j) c2 b next ys →
      FlowCorrect ground void (turn_out void j) (c2 + c1) b (bind m (λ flow. through flow next)) (xs ++ ys)
  in_two_parts j b c1 c2 m next xs ys h k f w s sh = by (m f w) (h f w s sh)
    where
      going : (f1 : Frame) (w1 : World) (work cost : ℕ) (s1 : State) → code ground xs b s ≡ ran cost (Next s1) → cost ≤ 100 * work + c1 →
          Shows (resting ground) f1 w1 s1 → FlowShown ground void (turn_out void j) (c2 + c1) (code ground (xs ++ ys) b s) (after work (next f1 w1))
      going f1 w1 work cost s1 e le sh1 =
          spent (turn_out void j) c2 c1 cost work (code ground ys b s1) (code ground (xs ++ ys) b s) (next f1 w1) (run.joined ground.setting ground.frame xs ys b s ∙ ap (λ r. then_do r (code ground ys b)) e) 0 (omega (arith, le))
          (more (turn_out void j) c2 (c2 + 0) (code ground ys b s1) (next f1 w1) (omega arith) (k f1 w1 s1 sh1))

      left : (z : Bool) (cost v : ℕ) (s1 : State) →
          then_do (ran cost (cond z (Leaves (suc j.around) s1) (Ends (Returned (Some v) s1.world)))) (code ground ys b) ≡
          ran (cost + 0) (cond z (Leaves (suc j.around) s1) (Ends (Returned (Some v) s1.world)))
      left true cost v s1 = refl
      left false cost v s1 = refl

      by : (o : Outcome Frame Flow) → FlowShown ground void (turn_out void j) c1 (code ground xs b s) o → FlowShown ground void (turn_out void j) (c2 + c1) (code ground (xs ++ ys) b s) (and_then o (λ flow. through flow next))
      by (Came Goes f1 w1 work) r = going f1 w1 work r.cost r.state r.runs r.paid r.shows
      by (Came Continues f1 w1 work) r = going f1 w1 work r.cost r.state r.runs r.paid r.shows
      by (Came Breaks f1 w1 work) r =
          record {
            state = r.state;
            cost = r.cost + 0;
            runs = run.joined ground.setting ground.frame xs ys b s ∙ ap (λ q. then_do q (code ground ys b)) r.runs;
            shows = r.shows;
            nothing = r.nothing;
            paid = omega (arith, r.paid);
          }
      by (Came (Returns v) f1 w1 work) r = record {
        state = r.state;
        cost = r.cost + 0;
        runs = run.joined ground.setting ground.frame xs ys b s ∙ ap (λ q. then_do q (code ground ys b)) r.runs ∙ left void r.cost v r.state;
        shows = r.shows;
        nothing = r.nothing;
        paid = omega (arith, r.paid);
      }
      by (Stopped why w1 work) r = record { cost = r.cost + 0; runs = λ ne. run.joined ground.setting ground.frame xs ys b s ∙ ap (λ q. then_do q (code ground ys b)) (r.runs ne); paid = omega (arith, r.paid) }

  -- the end of a turn: the rest of the code ground is the loop again
  turned : (j : Jumps) (credit : ℕ) (r : Run) (g : State → Run) (next : Evaluation Flow) (o : Outcome Frame Flow) → FlowShown ground void (turn_out void j) credit r o →
      ((f : Frame) (w : World) (s : State) → Shows (resting ground) f w s → FlowShown ground void (out_of void j) 0 (g s) (next f w)) →
      FlowShown ground void (out_of void j) (credit + 8) (turn r g) (and_then o (λ flow. after_body flow next))
  turned j credit r g next o h k = by o h
    where
      going : (f : Frame) (w : World) (work cost : ℕ) (s : State) → r ≡ ran cost (Next s) → cost ≤ 100 * work + credit → Shows (resting ground) f w s → FlowShown ground void (out_of void j) (credit + 8) (turn r g) (after work (next f w))
      going f w work cost s e le sh =
          paid_by (out_of void j) (credit + 8) work (turn r g) (next f w)
          (more (out_of void j) (0 + (8 + cost)) ((credit + 8) + 100 * work) (turn r g) (next f w) (omega (arith, le))
          (priced (out_of void j) 0 (8 + cost) (g s) (turn r g) (next f w) (ap (λ q. turn q g) e ∙ run_same _ _ refl (omega arith)) (k f w s sh)))

      left : (z : Bool) (cost v : ℕ) (s1 : State) → turn (ran cost (cond z (Leaves (suc j.around) s1) (Ends (Returned (Some v) s1.world)))) g ≡ ran (8 + (cost + 0)) (cond z (Leaves j.around s1) (Ends (Returned (Some v) s1.world)))
      left true cost v s1 = refl
      left false cost v s1 = refl

      by : (o : Outcome Frame Flow) → FlowShown ground void (turn_out void j) credit r o → FlowShown ground void (out_of void j) (credit + 8) (turn r g) (and_then o (λ flow. after_body flow next))
      by (Came Goes f w work) q = going f w work q.cost q.state q.runs q.paid q.shows
      by (Came Continues f w work) q = going f w work q.cost q.state q.runs q.paid q.shows
      by (Came Breaks f w work) q = record { state = q.state; cost = 8 + (q.cost + 0); runs = ap (λ x. turn x g) q.runs; shows = q.shows; nothing = λ z. refl; paid = omega (arith, q.paid) }
      by (Came (Returns v) f w work) q = record {
        state = q.state;
        cost = 8 + (q.cost + 0);
        runs = ap (λ x. turn x g) q.runs ∙ left void q.cost v q.state;
        shows = q.shows;
        nothing = q.nothing;
        paid = omega (arith, q.paid);
      }
      by (Stopped why w work) q = record { cost = 8 + (q.cost + 0); runs = λ ne. ap (λ x. turn x g) (q.runs ne); paid = omega (arith, q.paid) }

  -- A loop, at each bound: by induction on the bound, each turn being correct at each.
  pub loop_correct : (j : Jumps) (limit : ℕ) (calls : ℕ → Calls) (mt rest : ℕ → Evaluation Flow) (xs : List Stm) →
      ((k : ℕ) → k ≤ limit → FlowCorrect ground void (turn_out void j) 64 (levels calls k) (mt k) xs) →
      ((f : Frame) (w : World) → rest zero f w ≡ bind (mt zero) (λ flow. after_body flow (stop Unfinished)) f w) →
      ((k : ℕ) (f : Frame) (w : World) → rest (suc k) f w ≡ bind (mt (suc k)) (λ flow. after_body flow (counted 1 (rest k))) f w) →
      (k : ℕ) → k ≤ limit → FlowCorrect ground void (out_of void j) 72 (levels calls k) (rest k) (repeat xs ∷ [])
  loop_correct j limit calls mt rest xs turns first next zero up f w s h =
      subst (λ (o : Outcome Frame Flow). FlowShown ground void (out_of void j) 72 (code ground (repeat xs ∷ []) [] s) o) (sym (first f w))
      (subst (λ r. FlowShown ground void (out_of void j) 72 r (bind (mt zero) (λ flow. after_body flow (stop Unfinished)) f w)) (sym (one_meaning ground.setting ground.frame (stm.Loop xs) [] s))
      (turned j 64 (code ground xs [] s) (λ s1. now (Ends (More s1.world))) (stop Unfinished) (mt zero f w) (turns zero up f w s h)
      (λ f1 w1 s1 h1. record { cost = 0; runs = λ ne. ap (λ (x : code_world.World). ran 0 (Ends (More x))) h1.world; paid = omega arith })))
  loop_correct j limit calls mt rest xs turns first next (suc k) up f w s h =
      subst (λ (o : Outcome Frame Flow). FlowShown ground void (out_of void j) 72 (code ground (repeat xs ∷ []) (levels calls (suc k)) s) o) (sym (next k f w))
      (subst (λ r. FlowShown ground void (out_of void j) 72 r (bind (mt (suc k)) (λ flow. after_body flow (counted 1 (rest k))) f w)) (sym (one_meaning ground.setting ground.frame (stm.Loop xs) (levels calls (suc k)) s))
      (turned j 64 (code ground xs (levels calls (suc k)) s) (loop (ir.in_order (map (meaning ground.setting ground.frame) xs)) (levels calls k)) (counted 1 (rest k)) (mt (suc k) f w) (turns (suc k) up f w s h)
      (λ f1 w1 s1 h1.
      subst (λ r. FlowShown ground void (out_of void j) 0 r (counted 1 (rest k) f1 w1)) (one_meaning ground.setting ground.frame (stm.Loop xs) (levels calls k) s1)
      (paid_by (out_of void j) 0 1 (code ground (repeat xs ∷ []) (levels calls k) s1) (rest k f1 w1)
      (more (out_of void j) 72 100 (code ground (repeat xs ∷ []) (levels calls k) s1) (rest k f1 w1) (omega arith)
      (loop_correct j limit calls mt rest xs turns first next k (omega (arith, up)) f1 w1 s1 h1))))))
