-- The turns of the loops.
use Rattle.std.proofs.Common.{◌≡◌, ℕ, suc, ◌+◌, ◌-◌, ◌^◌, ◌≤◌, List, [], arith, refl, sym, ◌∙◌, ap, subst, true, false, if◌then◌else◌, Option, Result, Ok, Err}
use Rattle.mv_ast.specs.declared.program.Program.{Program}
use Rattle.mv_ast.specs.declared.program.Expr.{Expr}
use Rattle.mv_ast.specs.declared.program.Stmt.{Stmt, roll-Stmt, out-roll-Stmt}
use Rattle.mv_ast.specs.declared.program.Stmt.TheOpen as stmt
use Rattle.mv_bindings.specs.declared.stop.Stop.TheVariants.{Unfinished}
use Rattle.mv_ast.specs.Worlds.{World, Outcome, Came, Stopped, and_then, bind, give, counted}
use Rattle.mv_meaning.specs.declared.state.Frame.{Frame}
use Rattle.mv_interpret.specs.declared.state.Here.{Here}
use Rattle.mv_interpret.specs.declared.state.State.{State}
use Rattle.mv_interpret.specs.declared.state.Halt.{Halt}
use Rattle.mv_interpret.specs.declared.state.Halt.TheVariants as halt
use Rattle.mv_meaning.specs.declared.state.Flow.{Flow}
use Rattle.mv_meaning.specs.declared.state.Flow.TheVariants.{Goes, Breaks, Continues, Returns}
use Rattle.mv_meaning.specs.Meaning.{Evaluation, Context, unless_zero, then_on, after_body, optional_value, value_of, flow_of_all}
use Rattle.mv_meaning.specs.Growth.{capped}
use Rattle.mv_interpret.specs.Runs.{totalled, world_of, Shows, IsOutcome, goes_back, behind_loop}
use Rattle.mv_meaning.specs.Loops.{own_context, while_from, do_from, for_from}
use Rattle.mv_meaning.proofs.Equations.{flow_of-While, flow_of-Do, flow_of-For}
use Rattle.mv_interpret.proofs.Steps.{went_on, totalled-after, not_zero, gave, on, other_way}

false_is_not : false ≡ true → ⊥
false_is_not e = cc

module _ {A : Type 0} where
  -- the same outcome shown for another bound
  pub elsewhere : {before : ℕ} {o : Outcome Frame A} {here : Here} (bound : ℕ) (r : Result A Halt) {f : Frame} {s : State} →
      IsOutcome before o (record here { bound = bound }) r f s → IsOutcome before o here r f s
  elsewhere bound (Ok v) h = record { shown = h.shown }
  elsewhere bound (Err (halt.Stopped why)) h = record { shown = h.shown }
  elsewhere bound (Err (halt.Memory m)) h = record { shown = tt }

  -- the same total
  pub carried : {before n : ℕ} (o o' : Outcome Frame A) {here : Here} {r : Result A Halt} {f : Frame} {s : State} →
      totalled before o ≡ totalled n o' → IsOutcome n o' here r f s → IsOutcome before o here r f s
  carried {before = before} {n = n} o o' {here = here} {r = r} {f = f} {s = s} e h =
      let P : Outcome Frame A → Type 0 = λ x. Shows x here r f s in
      record { shown = subst P (sym e) h.shown }

-- how control goes back
pub data GoesBack : Flow → Type 0 where
  by_end : GoesBack Goes
  by_continue : GoesBack Continues

after_body-back : (flow : Flow) (next : Evaluation Flow) → GoesBack flow → after_body flow next ≡ next
after_body-back Goes next by_end = refl
after_body-back Breaks next h = elim h [ ]
after_body-back (Returns _) next h = elim h [ ]
after_body-back Continues next by_continue = refl

pub is_back : (flow : Flow) → goes_back flow ≡ true → GoesBack flow
is_back Goes h = by_end
is_back Breaks h = absurd (false_is_not h)
is_back Continues h = by_continue
is_back (Returns v) h = absurd (false_is_not h)

pub after_body-left : (flow : Flow) (next : Evaluation Flow) → goes_back flow ≡ false → after_body flow next ≡ give (behind_loop flow)
after_body-left Goes next h = absurd (false_is_not (sym h))
after_body-left Breaks next h = refl
after_body-left Continues next h = absurd (false_is_not (sym h))
after_body-left (Returns v) next h = refl

-- a loop that is left
pub left_loop : (here : Here) (flow : Flow) (next : Evaluation Flow) (f2 : Frame) (s2 : State) → goes_back flow ≡ false → s2.work ≤ 2 ^ 64 - 1 →
    IsOutcome s2.work (after_body flow next f2 (world_of here s2)) here (Ok (behind_loop flow)) f2 s2
left_loop here flow next f2 s2 h le =
    subst (λ d. IsOutcome s2.work (d f2 (world_of here s2)) here (Ok (behind_loop flow)) f2 s2) (sym (after_body-left flow next h)) (gave le)

-- a loop that goes on with its body done
pub back_to : (here : Here) (flow : Flow) (next : Evaluation Flow) (s : State) {f f' : Frame} {s' : State} {r : Result Flow Halt} → GoesBack flow →
    IsOutcome s.work (next f (world_of here s)) here r f' s' → IsOutcome s.work (after_body flow next f (world_of here s)) here r f' s'
back_to here flow next s {f = f} {f' = f'} {s' = s'} {r = r} back k =
    subst (λ d. IsOutcome s.work (d f (world_of here s)) here r f' s') (sym (after_body-back flow next back)) k

-- ---- along the turns: a total that is that of what is still to do

module _ {A B : Type 0} (total : Outcome Frame B) where
  -- a part came to a value
  pub along : (before : ℕ) (o : Outcome Frame A) (next : A → Evaluation B) (v : A) (f : Frame) (w : World) (n : ℕ) →
      total ≡ totalled before (and_then o next) → totalled before o ≡ Came v f w n → total ≡ totalled n (next v f w)
  along before o next v f w n so_far e = so_far ∙ went_on before o next v f w n e

module _ (total : Outcome Frame Flow) where
  pub along_other : (v : ℕ) (a b : Evaluation Flow) (f : Frame) (w : World) (n : ℕ) →
      total ≡ totalled n (unless_zero v a b f w) → (v ≡ 0 → ⊥) → total ≡ totalled n (b f w)
  along_other v a b f w n so_far ne =
      so_far ∙ ap (λ x. totalled n ((if x then a else b) f w)) (not_zero v ne)

  pub along_back : (flow : Flow) (next : Evaluation Flow) (f : Frame) (w : World) (n : ℕ) →
      total ≡ totalled n (after_body flow next f w) → GoesBack flow → total ≡ totalled n (next f w)
  along_back flow next f w n so_far back = so_far ∙ ap (λ d. totalled n (d f w)) (after_body-back flow next back)

  -- a node is counted
  pub along_counted : (here : Here) (d d' : Evaluation Flow) (f : Frame) (s s' : State) →
      total ≡ totalled s.work (d f (world_of here s)) → d ≡ counted 1 d' → s' ≡ record s { work = capped (s.work + 1) } →
      total ≡ totalled s'.work (d' f (world_of here s'))
  along_counted here d d' f s s' so_far e es =
      let Q : State → Type 0 = λ x. total ≡ totalled x.work (d' f (world_of here x)) in
      subst Q (sym es)
      (so_far ∙ (ap (λ g. totalled s.work (g f (world_of here s))) e ∙ totalled-after s.work 1 (d' f (world_of here s))))

pub after-none : {A : Type 0} (n : ℕ) (o : Outcome Frame A) → totalled (capped (n + 0)) o ≡ totalled n o
after-none n (Came v f w m) = let e : capped (capped (n + 0) + m) ≡ capped (n + m) = omega arith in ap (Came v f w) e
after-none n (Stopped s w m) = let e : capped (capped (n + 0) + m) ≡ capped (n + m) = omega arith in ap (Stopped s w) e

module _ (p : Program) (here : Here) (total : Outcome Frame Flow) where
  -- back at the start of a loop, at the bound below
  module _ (k : ℕ) (f : Frame) (s s' : State) (counts : s' ≡ record s { work = capped (s.work + 1) }) where
    pub while_again : (e : Expr) (body : List Stmt) →
        total ≡ totalled s.work ((own_context p (suc k)).loop (roll-Stmt (stmt.While e body)) f (world_of here s)) →
        total ≡ totalled s'.work (while_from p (own_context p k) e body f (world_of here s'))
    while_again e body so_far =
        along_counted total here _ _ f s s' so_far (flow_of-While p (own_context p k) (roll-Stmt (stmt.While e body)) e body (out-roll-Stmt (stmt.While e body))) counts

    pub do_again : (body : List Stmt) (e : Expr) →
        total ≡ totalled s.work ((own_context p (suc k)).loop (roll-Stmt (stmt.Do body e)) f (world_of here s)) →
        total ≡ totalled s'.work (do_from p (own_context p k) body e f (world_of here s'))
    do_again body e so_far =
        along_counted total here _ _ f s s' so_far (flow_of-Do p (own_context p k) (roll-Stmt (stmt.Do body e)) body e (out-roll-Stmt (stmt.Do body e))) counts

    pub for_again : (test step : Option Expr) (body : List Stmt) →
        total ≡ totalled s.work ((own_context p (suc k)).loop (roll-Stmt (stmt.For [] test step body)) f (world_of here s)) →
        total ≡ totalled s'.work (for_from p (own_context p k) test step body f (world_of here s'))
    for_again test step body so_far =
        let from : Evaluation Flow = for_from p (own_context p k) test step body in
        let d' : Evaluation Flow = bind (give Goes) (λ begun. then_on begun from) in
        let counted_there : total ≡ totalled s'.work (d' f (world_of here s')) =
        along_counted total here _ d' f s s' so_far (flow_of-For p (own_context p k) (roll-Stmt (stmt.For [] test step body)) [] test step body (out-roll-Stmt (stmt.For [] test step body))) counts in
        counted_there ∙ (totalled-after s'.work 0 (from f (world_of here s')) ∙ after-none s'.work (from f (world_of here s')))

-- at bound 0 no loop goes back
pub no_turn : (p : Program) (here : Here) (n : ℕ) (f : Frame) (s : State) (again : Stmt) → n ≡ 0 → s.work ≤ 2 ^ 64 - 1 →
    IsOutcome s.work ((own_context p n).loop again f (world_of here s)) here (Err (halt.Stopped Unfinished)) f s
no_turn p here n f s again en le =
    let e : capped (s.work + 0) ≡ s.work = omega arith in
    record {
      shown = ap (λ m. totalled s.work ((own_context p m).loop again f (world_of here s))) en ∙ ap (Stopped Unfinished (world_of here s)) e;
    }

-- ---- one turn

one_more_below : (bound : ℕ) → (bound ≡ 0 → ⊥) → bound ≡ suc (bound - 1)
one_more_below bound ne = omega arith

module _ (p : Program) (here : Here) (total : Outcome Frame Flow) (bound : ℕ) (f : Frame) (s s3 : State) (ne : bound ≡ 0 → ⊥) where
  pub while_turned : (e : Expr) (body : List Stmt) (v : ℕ) (f1 f2 : Frame) (s1 s2 : State) (flow : Flow) →
      total ≡ totalled s.work (while_from p (own_context p bound) e body f (world_of here s)) →
      totalled s.work (value_of p (own_context p bound) e f (world_of here s)) ≡ Came v f1 (world_of here s1) s1.work → (v ≡ 0 → ⊥) →
      totalled s1.work (flow_of_all p (own_context p bound) body f1 (world_of here s1)) ≡ Came flow f2 (world_of here s2) s2.work →
      GoesBack flow → s3 ≡ record s2 { work = capped (s2.work + 1) } →
      total ≡ totalled s3.work (while_from p (own_context p (bound - 1)) e body f2 (world_of here s3))
  while_turned e body v f1 f2 s1 s2 flow so_far ev nz eb back counts =
      let context = own_context p bound in
      let again : Evaluation Flow = context.loop (roll-Stmt (stmt.While e body)) in
      let tail : Evaluation Flow = bind (flow_of_all p context body) (λ x. after_body x again) in
      let at_body = along total s.work (value_of p context e f (world_of here s)) (λ x. unless_zero x (give Goes) tail) v f1 (world_of here s1) s1.work so_far ev in
      let in_body = along_other total v (give Goes) tail f1 (world_of here s1) s1.work at_body nz in
      let behind_body = along total s1.work (flow_of_all p context body f1 (world_of here s1)) (λ x. after_body x again) flow f2 (world_of here s2) s2.work in_body eb in
      let back_at = along_back total flow again f2 (world_of here s2) s2.work behind_body back in
      while_again p here total (bound - 1) f2 s2 s3 counts e body
      (subst (λ k. total ≡ totalled s2.work ((own_context p k).loop (roll-Stmt (stmt.While e body)) f2 (world_of here s2))) (one_more_below bound ne) back_at)

  pub do_turned : (body : List Stmt) (e : Expr) (flow : Flow) (f1 f2 : Frame) (s1 s2 : State) (v : ℕ) →
      total ≡ totalled s.work (do_from p (own_context p bound) body e f (world_of here s)) →
      totalled s.work (flow_of_all p (own_context p bound) body f (world_of here s)) ≡ Came flow f1 (world_of here s1) s1.work → GoesBack flow →
      totalled s1.work (value_of p (own_context p bound) e f1 (world_of here s1)) ≡ Came v f2 (world_of here s2) s2.work → (v ≡ 0 → ⊥) →
      s3 ≡ record s2 { work = capped (s2.work + 1) } →
      total ≡ totalled s3.work (do_from p (own_context p (bound - 1)) body e f2 (world_of here s3))
  do_turned body e flow f1 f2 s1 s2 v so_far eb back ev nz counts =
      let context = own_context p bound in
      let again : Evaluation Flow = context.loop (roll-Stmt (stmt.Do body e)) in
      let tail : Evaluation Flow = bind (value_of p context e) (λ x. unless_zero x (give Goes) again) in
      let behind_body = along total s.work (flow_of_all p context body f (world_of here s)) (λ x. after_body x tail) flow f1 (world_of here s1) s1.work so_far eb in
      let at_test = along_back total flow tail f1 (world_of here s1) s1.work behind_body back in
      let tested = along total s1.work (value_of p context e f1 (world_of here s1)) (λ x. unless_zero x (give Goes) again) v f2 (world_of here s2) s2.work at_test ev in
      let back_at = along_other total v (give Goes) again f2 (world_of here s2) s2.work tested nz in
      do_again p here total (bound - 1) f2 s2 s3 counts body e
      (subst (λ k. total ≡ totalled s2.work ((own_context p k).loop (roll-Stmt (stmt.Do body e)) f2 (world_of here s2))) (one_more_below bound ne) back_at)

  pub for_turned : (test step : Option Expr) (body : List Stmt) (v : ℕ) (f1 f2 f4 : Frame) (s1 s2 s4 : State) (flow : Flow) (u : ℕ) →
      total ≡ totalled s.work (for_from p (own_context p bound) test step body f (world_of here s)) →
      totalled s.work (optional_value p (own_context p bound) 1 test f (world_of here s)) ≡ Came v f1 (world_of here s1) s1.work → (v ≡ 0 → ⊥) →
      totalled s1.work (flow_of_all p (own_context p bound) body f1 (world_of here s1)) ≡ Came flow f2 (world_of here s2) s2.work → GoesBack flow →
      totalled s2.work (optional_value p (own_context p bound) 0 step f2 (world_of here s2)) ≡ Came u f4 (world_of here s4) s4.work →
      s3 ≡ record s4 { work = capped (s4.work + 1) } →
      total ≡ totalled s3.work (for_from p (own_context p (bound - 1)) test step body f4 (world_of here s3))
  for_turned test step body v f1 f2 f4 s1 s2 s4 flow u so_far ev nz eb back eu counts =
      let context = own_context p bound in
      let again : Evaluation Flow = context.loop (roll-Stmt (stmt.For [] test step body)) in
      let stepping : Evaluation Flow = bind (optional_value p context 0 step) (λ x. again) in
      let tail : Evaluation Flow = bind (flow_of_all p context body) (λ x. after_body x stepping) in
      let at_body = along total s.work (optional_value p context 1 test f (world_of here s)) (λ x. unless_zero x (give Goes) tail) v f1 (world_of here s1) s1.work so_far ev in
      let in_body = along_other total v (give Goes) tail f1 (world_of here s1) s1.work at_body nz in
      let behind_body = along total s1.work (flow_of_all p context body f1 (world_of here s1)) (λ x. after_body x stepping) flow f2 (world_of here s2) s2.work in_body eb in
      let at_step = along_back total flow stepping f2 (world_of here s2) s2.work behind_body back in
      let back_at = along total s2.work (optional_value p context 0 step f2 (world_of here s2)) (λ x. again) u f4 (world_of here s4) s4.work at_step eu in
      for_again p here total (bound - 1) f4 s4 s3 counts test step body
      (subst (λ k. total ≡ totalled s4.work ((own_context p k).loop (roll-Stmt (stmt.For [] test step body)) f4 (world_of here s4))) (one_more_below bound ne) back_at)

-- ---- loops that go on behind their body

module _ (p : Program) (here : Here) (f : Frame) (s : State) where
  abbrev around : Context
  around = own_context p here.bound

  -- a `while` behind its body
  pub while_back : (e : Expr) (body : List Stmt) (v : ℕ) (f1 f2 : Frame) (s1 s2 : State) (flow : Flow) {r : Result Flow Halt} {f' : Frame} {s' : State} →
      IsOutcome s.work (value_of p around e f (world_of here s)) here (Ok v) f1 s1 → (v ≡ 0 → ⊥) →
      IsOutcome s1.work (flow_of_all p around body f1 (world_of here s1)) here (Ok flow) f2 s2 → GoesBack flow →
      (s2.work ≤ 2 ^ 64 - 1 → IsOutcome s2.work (around.loop (roll-Stmt (stmt.While e body)) f2 (world_of here s2)) here r f' s') →
      IsOutcome s.work (while_from p around e body f (world_of here s)) here r f' s'
  while_back e body v f1 f2 s1 s2 flow ev nz eb back k =
      let again : Evaluation Flow = around.loop (roll-Stmt (stmt.While e body)) in
      let tail : Evaluation Flow = bind (flow_of_all p around body) (λ x. after_body x again) in
      on (value_of p around e f (world_of here s)) (λ x. unless_zero x (give Goes) tail) ev (λ le. other_way (give Goes) tail nz
      (on (flow_of_all p around body f1 (world_of here s1)) (λ x. after_body x again) eb (λ le2. back_to here flow again s2 back (k le2))))

  -- a `do` behind its body
  pub do_back : (body : List Stmt) (e : Expr) (flow : Flow) (f1 : Frame) (s1 : State) {r : Result Flow Halt} {f' : Frame} {s' : State} →
      IsOutcome s.work (flow_of_all p around body f (world_of here s)) here (Ok flow) f1 s1 → GoesBack flow →
      IsOutcome s1.work (bind (value_of p around e) (λ x. unless_zero x (give Goes) (around.loop (roll-Stmt (stmt.Do body e)))) f1 (world_of here s1)) here r f' s' →
      IsOutcome s.work (do_from p around body e f (world_of here s)) here r f' s'
  do_back body e flow f1 s1 eb back k =
      let tail : Evaluation Flow = bind (value_of p around e) (λ x. unless_zero x (give Goes) (around.loop (roll-Stmt (stmt.Do body e)))) in
      on (flow_of_all p around body f (world_of here s)) (λ x. after_body x tail) eb (λ le. back_to here flow tail s1 back k)

  -- a `for` behind its body
  pub for_back : (test step : Option Expr) (body : List Stmt) (v : ℕ) (f1 f2 : Frame) (s1 s2 : State) (flow : Flow) {r : Result Flow Halt} {f' : Frame} {s' : State} →
      IsOutcome s.work (optional_value p around 1 test f (world_of here s)) here (Ok v) f1 s1 → (v ≡ 0 → ⊥) →
      IsOutcome s1.work (flow_of_all p around body f1 (world_of here s1)) here (Ok flow) f2 s2 → GoesBack flow →
      IsOutcome s2.work (bind (optional_value p around 0 step) (λ x. around.loop (roll-Stmt (stmt.For [] test step body))) f2 (world_of here s2)) here r f' s' →
      IsOutcome s.work (for_from p around test step body f (world_of here s)) here r f' s'
  for_back test step body v f1 f2 s1 s2 flow ev nz eb back k =
      let stepping : Evaluation Flow = bind (optional_value p around 0 step) (λ x. around.loop (roll-Stmt (stmt.For [] test step body))) in
      let tail : Evaluation Flow = bind (flow_of_all p around body) (λ x. after_body x stepping) in
      on (optional_value p around 1 test f (world_of here s)) (λ x. unless_zero x (give Goes) tail) ev (λ le. other_way (give Goes) tail nz
      (on (flow_of_all p around body f1 (world_of here s1)) (λ x. after_body x stepping) eb (λ le2. back_to here flow stepping s2 back k)))
