-- Code with what temporaries hold in place of them runs the same: lists, choices, loops, blocks and bodies.
use Rattle.std.proofs.Common.{◌≡◌, ℕ, zero, suc, ◌+◌, ◌*◌, ◌≤◌, Bool, true, false, cond, eqb, List, [], ◌∷◌, length, refl, sym, ◌∙◌, ap, arith}
use Rattle.mv_ir.specs.declared.tree.Tree.{Tree}
use Rattle.mv_ir.specs.declared.stm.Stm.{Stm}
use Rattle.mv_ir.specs.declared.stm.Stm.TheOpen as stm
use Rattle.mv_ir.specs.declared.stm.Stm.TheViews.{roll-Stm}
use Rattle.mv_ir.specs.declared.body.Body.{Body}
use Rattle.mv_ir.specs.World.{Setting, Frame}
use Rattle.mv_ir.specs.Trees.{nodes}
use Rattle.mv_ir.specs.Outcome.{State, Outcome, Next, Leaves, Restarts, Ends, More, Run, Bound, Meaning, spend, now, goes_on, then_do, block_end, turn_end, turn, loop}
use Rattle.mv_ir.specs.Meaning.{of_tree, meaning, code_meaning, entry_state, call_from}
use Rattle.mv_ir.specs.Keeps.{KeepsBody}
use Rattle.mv_ir.proofs.Joining.{temps_enough}
use Rattle.mv_propagate.specs.declared.facts.Fact.{Fact}
use Rattle.mv_propagate.specs.Facts.{AreKnown}
use Rattle.mv_propagate.specs.Propagating.{Reads, Fewer, Propagated, none, more, PropagatedIn, computed, copied, stored, divided, checked, fetched, kept, moved, there, written, zeroed, choice, turns, block as enclosed, leave, again, called, asked, returned}
use Rattle.mv_propagate.proofs.Steps.{nothing, fewer_known}
use Rattle.mv_propagate.proofs.Values.{reads_nodes, reads_value}
use Rattle.mv_propagate.proofs.Statements.{GoesOn, Follows, Runs, of_layers, computed_runs, copied_runs, stored_runs, divided_runs, checked_runs, fetched_runs, kept_runs, moved_runs, there_runs, written_runs, zeroed_runs, called_runs, asked_runs, returned_runs, leave_runs, again_runs}

module _ (temps : ℕ) where
  goes_weaker : (after both : List Fact) → ((s : State) → AreKnown temps after s → AreKnown temps both s) → (o : Outcome) → GoesOn temps after o → GoesOn temps both o
  goes_weaker after both h (Next s) k = h s k
  goes_weaker after both h (Leaves n s) k = k
  goes_weaker after both h (Restarts n s) k = k
  goes_weaker after both h (Ends e) k = tt

  -- ---- one after the other

  then_same : (mid : List Fact) (r : Run) (f f' : State → Run) → GoesOn temps mid r.outcome → ((s : State) → AreKnown temps mid s → f' s ≡ f s) → then_do r f' ≡ then_do r f
  then_same mid r f f' g h = ap (spend r.cost) (by r.outcome g)
    where
      by : (o : Outcome) → GoesOn temps mid o → goes_on o f' ≡ goes_on o f
      by (Next s) k = h s k
      by (Leaves n s) k = refl
      by (Restarts n s) k = refl
      by (Ends x) k = refl

  then_goes : (mid after : List Fact) (o : Outcome) (f : State → Run) → GoesOn temps mid o → ((s : State) → AreKnown temps mid s → GoesOn temps after (f s).outcome) →
      GoesOn temps after (goes_on o f).outcome
  then_goes mid after (Next s) f h k = k s h
  then_goes mid after (Leaves n s) f h k = h
  then_goes mid after (Restarts n s) f h k = h
  then_goes mid after (Ends e) f h k = tt

  then_follows : (facts mid after : List Fact) (m m' n n' : Meaning) → Follows temps facts mid m m' → Follows temps mid after n n' →
      Follows temps facts after (λ bound s. then_do (m bound s) (n bound)) (λ bound s. then_do (m' bound s) (n' bound))
  then_follows facts mid after m m' n n' h k = record {
    same = λ bound s known. ap (λ r. then_do r (n' bound)) (h.same bound s known) ∙ then_same mid (m bound s) (n bound) (n' bound) (h.goes bound s known) (k.same bound);
    goes = λ bound s known. then_goes mid after (m bound s).outcome (n bound) (h.goes bound s known) (k.goes bound);
  }

  -- ---- turns of a loop

  turn_follows : (last : List Fact) (r : Run) (f f' : State → Run) → GoesOn temps last r.outcome → ((s : State) → temps ≤ length s.temps → (f' s ≡ f s) × GoesOn temps [] (f s).outcome) →
      (turn r f' ≡ turn r f) × GoesOn temps [] (turn r f).outcome
  turn_follows last r f f' h n = by r.outcome h
    where
      Both : Outcome → Type 0
      Both o = (spend 8 (spend r.cost (turn_end o f')) ≡ spend 8 (spend r.cost (turn_end o f))) × GoesOn temps [] (turn_end o f).outcome

      by : (o : Outcome) → GoesOn temps last o → Both o
      by (Next s) h = (ap (λ z. spend 8 (spend r.cost z)) (n s h.enough).0, (n s h.enough).1)
      by (Leaves zero s) h = (refl, nothing temps s h)
      by (Leaves (suc i) s) h = (refl, h)
      by (Restarts zero s) h = (ap (λ z. spend 8 (spend r.cost z)) (n s h).0, (n s h).1)
      by (Restarts (suc i) s) h = (refl, h)
      by (Ends x) h = (refl, tt)

  loop_follows : (last : List Fact) (m m' : Meaning) → Follows temps [] last m m' → (bound : Bound) (s : State) → temps ≤ length s.temps →
      (loop m' bound s ≡ loop m bound s) × GoesOn temps [] (loop m bound s).outcome
  loop_follows last m m' h [] s le =
      let t = turn_follows last (m [] s) (λ z. now (Ends (More z.world))) (λ z. now (Ends (More z.world))) (h.goes [] s (nothing temps s le)) (λ z start. (refl, tt)) in
      (ap (λ r. turn r (λ z. now (Ends (More z.world)))) (h.same [] s (nothing temps s le)) ∙ t.0, t.1)
  loop_follows last m m' h (calls ∷ below) s le =
      let t = turn_follows last (m (calls ∷ below) s) (loop m below) (loop m' below) (h.goes (calls ∷ below) s (nothing temps s le)) (loop_follows last m m' h below) in
      (ap (λ r. turn r (loop m' below)) (h.same (calls ∷ below) s (nothing temps s le)) ∙ t.0, t.1)

  block_goes : (last : List Fact) (o : Outcome) → GoesOn temps last o → GoesOn temps [] (block_end o)
  block_goes last (Next s) h = nothing temps s h.enough
  block_goes last (Leaves zero s) h = nothing temps s h
  block_goes last (Leaves (suc n) s) h = h
  block_goes last (Restarts zero s) h = tt
  block_goes last (Restarts (suc n) s) h = h
  block_goes last (Ends e) h = tt

module _ (temps : ℕ) (setting : Setting) (frame : Frame) where
  abbrev CodeRuns : List Fact → List Fact → List Stm → List Stm → Type 0
  CodeRuns facts after a b = Follows temps facts after (code_meaning setting frame a) (code_meaning setting frame b)

  turns_run : (facts last : List Fact) (b b' : List Stm) → CodeRuns [] last b b' → Runs temps setting frame facts [] (roll-Stm (stm.Loop b)) (roll-Stm (stm.Loop b'))
  turns_run facts last b b' h = of_layers temps setting frame facts [] (stm.Loop b) (stm.Loop b')
      (λ bound s known. (loop_follows temps last (code_meaning setting frame b) (code_meaning setting frame b') h bound s known.enough).0)
      (λ bound s known. (loop_follows temps last (code_meaning setting frame b) (code_meaning setting frame b') h bound s known.enough).1)

  block_runs : (facts last : List Fact) (b b' : List Stm) → CodeRuns facts last b b' → Runs temps setting frame facts [] (roll-Stm (stm.Block b)) (roll-Stm (stm.Block b'))
  block_runs facts last b b' h = of_layers temps setting frame facts [] (stm.Block b) (stm.Block b')
      (λ bound s known. ap (λ (r : Run). let run : Run = record { cost = r.cost; outcome = block_end r.outcome } in run) (h.same bound s known))
      (λ bound s known. block_goes temps last (code_meaning setting frame b bound s).outcome (h.goes bound s known))

  -- ---- choices

  choice_runs : (facts first second after : List Fact) (t u : Tree) (a a' b b' : List Stm) → Reads facts t u → CodeRuns facts first a a' → CodeRuns facts second b b' →
      Fewer first after → Fewer second after → Runs temps setting frame facts after (roll-Stm (stm.If t a b)) (roll-Stm (stm.If u a' b'))
  choice_runs facts first second after t u a a' b b' h ha hb ka kb = of_layers temps setting frame facts after (stm.If t a b) (stm.If u a' b')
      (λ bound s known.
      ap (λ n. spend (8 + 3 * n) (cond (eqb (of_tree setting frame u s) 0) (code_meaning setting frame b' bound s) (code_meaning setting frame a' bound s))) (reads_nodes facts t u h)
      ∙ ap (λ v. spend (8 + 3 * nodes t) (cond (eqb v 0) (code_meaning setting frame b' bound s) (code_meaning setting frame a' bound s)))
      (reads_value setting frame s facts known.true t u h)
      ∙ ap (λ r. spend (8 + 3 * nodes t) (cond (eqb (of_tree setting frame t s) 0) r (code_meaning setting frame a' bound s))) (hb.same bound s known)
      ∙ ap (λ r. spend (8 + 3 * nodes t) (cond (eqb (of_tree setting frame t s) 0) (code_meaning setting frame b bound s) r)) (ha.same bound s known))
      (λ bound s known. by (eqb (of_tree setting frame t s) 0) (code_meaning setting frame b bound s) (code_meaning setting frame a bound s)
      (goes_weaker temps second after (λ z k. fewer_known temps second after z kb k) (code_meaning setting frame b bound s).outcome (hb.goes bound s known))
      (goes_weaker temps first after (λ z k. fewer_known temps first after z ka k) (code_meaning setting frame a bound s).outcome (ha.goes bound s known)))
    where
      by : (c : Bool) (x y : Run) → GoesOn temps after x.outcome → GoesOn temps after y.outcome → GoesOn temps after (cond c x y).outcome
      by true x y p q = p
      by false x y p q = q

  -- ---- statements and code

  mutual
    code_runs : (facts after : List Fact) (xs ys : List Stm) → Propagated temps facts xs ys after → CodeRuns facts after xs ys
    code_runs facts after xs ys (none same) = record { same = λ bound s known. refl; goes = λ bound s known. known }
    code_runs facts after xs ys (more before mid behind x y code rest h k) =
        then_follows temps facts mid after (meaning setting frame x) (meaning setting frame y) (code_meaning setting frame code) (code_meaning setting frame rest)
        (statement_runs facts mid x y h) (code_runs mid after code rest k)

    statement_runs : (facts after : List Fact) (x y : Stm) → PropagatedIn temps facts x y after → Runs temps setting frame facts after x y
    statement_runs facts after x y (computed f g t v w h k) = computed_runs temps setting frame facts after t v w h k
    statement_runs facts after x y (copied f g t v l h lt low other k) = copied_runs temps setting frame facts after t v l h lt other k
    statement_runs facts after x y (stored f g n v w h k) = stored_runs temps setting frame facts after n v w h k
    statement_runs facts after x y (divided f g t o a a' b b' h k stay) = divided_runs temps setting frame facts after t o a a' b b' h k stay
    statement_runs facts after x y (checked f r i j h) = checked_runs temps setting frame facts r i j h
    statement_runs facts after x y (fetched f g t r i j h k) = fetched_runs temps setting frame facts after t r i j h k
    statement_runs facts after x y (kept f g t r i l h lt low other k) = kept_runs temps setting frame facts after t r i l h lt other k
    statement_runs facts after x y (moved f g t u r i l h c lt low other k) = moved_runs temps setting frame facts after t u r i l h c lt other k
    statement_runs facts after x y (there f t r i l h c lt) = there_runs temps setting frame facts t r i l h c
    statement_runs facts after x y (written f g r i j v w h k stay) = written_runs temps setting frame facts after r i j v w h k stay
    statement_runs facts after x y (zeroed f g l k) = zeroed_runs temps setting frame facts after l k
    statement_runs facts after x y (choice f first second g t u a a' b b' h ha hb ka kb) =
        choice_runs facts first second after t u a a' b b' h (code_runs facts first a a' ha) (code_runs facts second b b' hb) ka kb
    statement_runs facts after x y (turns f last b b' h) = turns_run facts last b b' (code_runs [] last b b' h)
    statement_runs facts after x y (enclosed f last b b' h) = block_runs facts last b b' (code_runs facts last b b' h)
    statement_runs facts after x y (leave f n) = leave_runs temps setting frame facts n
    statement_runs facts after x y (again f n) = again_runs temps setting frame facts n
    statement_runs facts after x y (called f g r c c' xs ys h k stay) = called_runs temps setting frame facts after r c c' xs ys h k stay
    statement_runs facts after x y (asked f g r k xs ys h stay) = asked_runs temps setting frame facts after r k xs ys h stay
    statement_runs facts after x y (returned f v w h) = returned_runs temps setting frame facts v w h

-- ---- bodies

pub propagated_keeps : (body : Body) (code : List Stm) (last : List Fact) → Propagated body.temps [] body.code code last → KeepsBody body (record body { code = code })
propagated_keeps body code last h setting frame contents args bound w =
    let s = entry_state contents body args w in
    let e = (code_runs body.temps setting frame [] last body.code code h).same bound s (nothing body.temps s (temps_enough contents.temps body.temps args)) in
    record { same = ap (λ r. (call_from r).end) (sym e); cheaper = (let c = ap (λ (r : Run). r.cost) e in omega (arith, c)) }
