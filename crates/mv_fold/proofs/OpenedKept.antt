-- What a loop or block gives way to does what it does, at no greater cost: how far what its statements do leads out.
use Rattle.std.proofs.Common.{arith, ◌≡◌, ℕ, zero, suc, ◌+◌, ◌<◌, ◌≤◌, Bool, true, false, cond, eqb, ltb, List, [], ◌∷◌, ◌++◌, length, map, Option, Some, None, refl, sym, ◌∙◌, ap, subst}
use Rattle.std.specs.Prelude.{slice_index, slice_set}
use Rattle.mv_ir.specs.declared.stm.Stm.{Stm}
use Rattle.mv_ir.specs.declared.stm.Stm.TheOpen.{Stm-F}
use Rattle.mv_ir.specs.declared.stm.Stm.TheOpen as stm
use Rattle.mv_ir.specs.declared.stm.Stm.TheViews.{roll-Stm}
use Rattle.mv_ir.specs.declared.stm.Stm.TheFolds.{map-Stm}
use Rattle.mv_ir.specs.World.{Setting, Frame}
use Rattle.mv_ir.specs.Trees.{divide}
use Rattle.mv_ir.specs.Outcome.{State, End, Returned, Trapped, More, Stuck, Outcome, Next, Leaves, Restarts, Ends, Run, Call, Bound, Meaning, now, goes_on, then_do, in_order, block_end, block, turn_end, turn, loop}
use Rattle.mv_ir.specs.Meaning.{meaning, code_meaning, elements, outside, with_temp, with_elements, traps, call_end, Goal, Nowhere, Null, At, Inside, of_tree, goal, made_call, within, call_to}
use Rattle.mv_ir.specs.Keeps.{KeepsRun}
use Rattle.mv_ir.proofs.Induction.{Each, StmChildren, stm_ind, stms_ind}
use Rattle.mv_ir.proofs.Keeping.{run_refl, run_trans, in_order_append, map_append, meaning_roll, layer_means, one_meaning, Between, between_many}
use Rattle.mv_fold.specs.Opened.{layer_levels, levels, most_levels, leave, from_outside}
use Rattle.mv_fold.proofs.Levels.{levels_roll}

-- ---- an outcome leads out of at most so many loops and blocks

abbrev Within : ℕ → Outcome → Type 0
Within d (Next s) = Unit {0}
Within d (Leaves n s) = n < d
Within d (Restarts n s) = n < d
Within d (Ends e) = Unit {0}

within_goes : (d : ℕ) (o : Outcome) (f : State → Run) → Within d o → ((s : State) → Within d (f s).outcome) → Within d (goes_on o f).outcome
within_goes d (Next s) f h k = k s
within_goes d (Leaves n s) f h k = h
within_goes d (Restarts n s) f h k = h
within_goes d (Ends e) f h k = tt

within_cond : (d : ℕ) (c : Bool) (a b : Outcome) → Within d a → Within d b → Within d (cond c a b)
within_cond d true a b h k = h
within_cond d false a b h k = k

within_either : (d : ℕ) (c : Bool) (a b : Run) → Within d a.outcome → Within d b.outcome → Within d (cond c a b).outcome
within_either d true a b h k = h
within_either d false a b h k = k

within_block : (d : ℕ) (o : Outcome) → Within (suc d) o → Within d (block_end o)
within_block d (Next s) h = tt
within_block d (Leaves zero s) h = tt
within_block d (Leaves (suc n) s) h = omega (arith, h)
within_block d (Restarts zero s) h = tt
within_block d (Restarts (suc n) s) h = omega (arith, h)
within_block d (Ends e) h = tt

within_turn : (d : ℕ) (o : Outcome) (f : State → Run) → Within (suc d) o → ((s : State) → Within d (f s).outcome) → Within d (turn_end o f).outcome
within_turn d (Next s) f h k = k s
within_turn d (Leaves zero s) f h k = tt
within_turn d (Leaves (suc n) s) f h k = omega (arith, h)
within_turn d (Restarts zero s) f h k = k s
within_turn d (Restarts (suc n) s) f h k = omega (arith, h)
within_turn d (Ends e) f h k = tt

within_loop : (d : ℕ) (f : Meaning) → ((bound : Bound) (s : State) → Within (suc d) (f bound s).outcome) → (bound : Bound) (s : State) → Within d (loop f bound s).outcome
within_loop d f h [] s = within_turn d (f [] s).outcome (λ t. record { cost = 0; outcome = Ends (More t.world) }) (h [] s) (λ t. tt)
within_loop d f h (calls ∷ below) s = within_turn d (f (calls ∷ below) s).outcome (loop f below) (h (calls ∷ below) s) (within_loop d f h below)

within_end : (d : ℕ) (r : Option ℕ) (s : State) (e : End) → Within d (call_end r s e)
within_end d None s (Returned v w) = tt
within_end d None s (Trapped c w) = tt
within_end d None s (More w) = tt
within_end d None s Stuck = tt
within_end d (Some t) s (Returned (Some v) w) = tt
within_end d (Some t) s (Returned None w) = tt
within_end d (Some t) s (Trapped c w) = tt
within_end d (Some t) s (More w) = tt
within_end d (Some t) s Stuck = tt

within_call : (d : ℕ) (g : Goal) (depth live : ℕ) (r : Option ℕ) (args : List ℕ) (bound : Bound) (s : State) → Within d (call_to g depth live r args bound s).outcome
within_call d Nowhere depth live r args bound s = tt
within_call d Null depth live r args bound s = tt
within_call d (At f) depth live r args bound s = within_either d (ltb depth 512) (within bound (λ calls. made_call r s (calls f args depth live s.world)) s) (now (traps 4 s)) (by bound) tt
  where
    by : (bound : Bound) → Within d (within bound (λ calls. made_call r s (calls f args depth live s.world)) s).outcome
    by [] = tt
    by (calls ∷ below) = within_end d r s (calls f args depth live s.world).end
within_call d Inside depth live r args bound s = within_either d (ltb depth 512) (within bound (λ calls. made_call r s nothing) s) (now (traps 4 s)) (by bound) tt
  where
    nothing : Call
    nothing = record { cost = 0; end = Returned None s.world }

    by : (bound : Bound) → Within d (within bound (λ calls. made_call r s nothing) s).outcome
    by [] = tt
    by (calls ∷ below) = within_end d r s nothing.end

-- ---- of statements

module _ (setting : Setting) (frame : Frame) where
  abbrev m : Stm → Meaning
  m = meaning setting frame

  abbrev IsWithin : Stm → Type 0
  IsWithin s = (d : ℕ) → levels s ≤ d → (bound : Bound) (st : State) → Within d (m s bound st).outcome

  kids : (b : List Stm) → Each IsWithin b → (d : ℕ) → most_levels b ≤ d → (bound : Bound) (st : State) → Within d (in_order (map m b) bound st).outcome
  kids [] h d le bound st = tt
  kids (s ∷ b) h d le bound st =
      within_goes d (m s bound st).outcome (in_order (map m b) bound) (h.0 d (omega (arith, le)) bound st) (λ t. kids b h.1 d (omega (arith, le)) bound t)

  layer : (x : Stm-F Stm) → StmChildren IsWithin x → (d : ℕ) → layer_levels (map-Stm Stm ℕ levels x) ≤ d → (bound : Bound) (st : State) → Within d (layer_means setting frame x bound st).outcome
  layer (stm.Set t v) h d le bound st = tt
  layer (stm.SetGlobal g v) h d le bound st = tt
  layer (stm.Divide t o a b) h d le bound st =
      within_cond d (eqb (of_tree setting frame b st) 0) (traps 1 st) (Next (with_temp st t (divide o (of_tree setting frame a st) (of_tree setting frame b st)))) tt tt
  layer (stm.Check a i) h d le bound st = within_cond d (ltb (of_tree setting frame i st) (length (elements a st))) (Next st) (Ends (outside a (of_tree setting frame i st) st.world)) tt tt
  layer (stm.Read t a i) h d le bound st =
      within_cond d (ltb (of_tree setting frame i st) (length (elements a st))) (Next (with_temp st t (slice_index (elements a st) (of_tree setting frame i st)))) (Ends (outside a (of_tree setting frame i st) st.world)) tt tt
  layer (stm.Write a i v) h d le bound st =
      within_cond d (ltb (of_tree setting frame i st) (length (elements a st)))
      (Next (with_elements a st (slice_set (elements a st) (of_tree setting frame i st) (of_tree setting frame v st))))
      (Ends (outside a (of_tree setting frame i st) st.world)) tt tt
  layer (stm.Zero l) h d le bound st = tt
  layer (stm.If t a b) h d le bound st =
      within_either d (eqb (of_tree setting frame t st) 0) (in_order (map m b) bound st) (in_order (map m a) bound st)
      (kids b h.1 d (omega (arith, le)) bound st) (kids a h.0 d (omega (arith, le)) bound st)
  layer (stm.Loop b) h d le bound st = within_loop d (in_order (map m b)) (kids b h (suc d) (omega (arith, le))) bound st
  layer (stm.Block b) h d le bound st = within_block d (in_order (map m b) bound st).outcome (kids b h (suc d) (omega (arith, le)) bound st)
  layer (stm.Break n) h d le bound st = omega (arith, le)
  layer (stm.Back n) h d le bound st = omega (arith, le)
  layer (stm.Call r f args) h d le bound st = within_call d (goal setting frame f st) frame.depth frame.live r (map (λ t. of_tree setting frame t st) args) bound st
  layer (stm.Known r k args) h d le bound st = tt
  layer (stm.Return v) h d le bound st = tt

  is_within : (s : Stm) → IsWithin s
  is_within = stm_ind IsWithin (λ x h d le bound st. subst (λ (f : Meaning). Within d (f bound st).outcome) (sym (meaning_roll setting frame x)) (layer x h d (omega (arith, le, levels_roll x)) bound st))

  -- code that leads out of nothing around it
  stays : (code : List Stm) → most_levels code ≡ 0 → (bound : Bound) (st : State) → Within 0 (code_meaning setting frame code bound st).outcome
  stays code e bound st = kids code (stms_ind IsWithin is_within code) 0 (omega (arith, e)) bound st

  -- ---- a jump at the end

  abbrev last : Option ℕ → Bound → State → Run
  last end = code_meaning setting frame (leave end)

  abbrev K : List Stm → List Stm → Type 0
  K = Between setting frame frame

  jump_run : (n : ℕ) (bound : Bound) (st : State) → last (Some n) bound st ≡ record { cost = 8; outcome = Leaves n st }
  jump_run n bound st = one_meaning setting frame (stm.Break n) bound st

  -- a block around a jump, or around nothing
  block_last : (end : Option ℕ) (bound : Bound) (st : State) → KeepsRun (block (last end) bound st) (last (from_outside end) bound st)
  block_last None bound st = run_refl _
  block_last (Some zero) bound st = subst (λ (r : Run). KeepsRun (record { cost = r.cost; outcome = block_end r.outcome }) (last None bound st)) (sym (jump_run 0 bound st)) (record { same = refl; cheaper = omega arith })
  block_last (Some (suc n)) bound st =
      subst (λ (r : Run). KeepsRun (record { cost = r.cost; outcome = block_end r.outcome }) (last (Some n) bound st)) (sym (jump_run (suc n) bound st))
      (subst (λ (r : Run). KeepsRun (record { cost = 8; outcome = Leaves n st }) r) (sym (jump_run n bound st)) (run_refl _))

  -- behind code that leads out of nothing
  behind : (n : ℕ) (o : Outcome) (f g : State → Run) → Within 0 o → ((s : State) → KeepsRun (record { cost = (f s).cost; outcome = block_end (f s).outcome }) (g s)) →
      KeepsRun (record { cost = n + (goes_on o f).cost; outcome = block_end (goes_on o f).outcome }) (then_do (record { cost = n; outcome = o }) g)
  behind n (Next s) f g h k = let r = k s in record { same = r.same; cheaper = omega (arith, r.cheaper) }
  behind n (Leaves i s) f g h k = absurd (omega (arith, h))
  behind n (Restarts i s) f g h k = absurd (omega (arith, h))
  behind n (Ends e) f g h k = run_refl _

  runs : (front : List Stm) (end : Option ℕ) (bound : Bound) (st : State) → code_meaning setting frame (front ++ leave end) bound st ≡ then_do (code_meaning setting frame front bound st) (last end bound)
  runs front end bound st = ap (λ l. in_order l bound st) (map_append m front (leave end)) ∙ in_order_append (map m front) (map m (leave end)) bound st

  opened_run : (front : List Stm) (end : Option ℕ) → most_levels front ≡ 0 → (bound : Bound) (st : State) →
      KeepsRun (block (code_meaning setting frame (front ++ leave end)) bound st) (code_meaning setting frame (front ++ leave (from_outside end)) bound st)
  opened_run front end e bound st =
      let r = code_meaning setting frame front bound st in
      subst (λ (q : Run). KeepsRun (record { cost = q.cost; outcome = block_end q.outcome }) (code_meaning setting frame (front ++ leave (from_outside end)) bound st)) (sym (runs front end bound st))
      (subst (λ (q : Run). KeepsRun (record { cost = (then_do r (last end bound)).cost; outcome = block_end (then_do r (last end bound)).outcome }) q) (sym (runs front (from_outside end) bound st))
      (behind r.cost r.outcome (last end bound) (last (from_outside end) bound) (stays front e bound st) (block_last end bound)))

  pub block_kept : (front : List Stm) (end : Option ℕ) → most_levels front ≡ 0 → K (roll-Stm (stm.Block (front ++ leave end)) ∷ []) (front ++ leave (from_outside end))
  block_kept front end e = between_many setting frame frame (stm.Block (front ++ leave end)) (front ++ leave (from_outside end)) (opened_run front end e)

  -- a turn that isn't followed by another
  abbrev Once : Outcome → Type 0
  Once (Next s) = ⊥
  Once (Leaves n s) = Unit {0}
  Once (Restarts n s) = ⊥
  Once (Ends e) = Unit {0}

  once_turn : (n : ℕ) (o : Outcome) (f : State → Run) → Once o → KeepsRun (turn (record { cost = n; outcome = o }) f) (record { cost = n; outcome = block_end o })
  once_turn n (Next s) f h = absurd h
  once_turn n (Leaves zero s) f h = record { same = refl; cheaper = omega arith }
  once_turn n (Leaves (suc i) s) f h = record { same = refl; cheaper = omega arith }
  once_turn n (Restarts i s) f h = absurd h
  once_turn n (Ends e) f h = record { same = refl; cheaper = omega arith }

  once_behind : (o : Outcome) (n : ℕ) (f : State → Run) → Within 0 o → ((s : State) → f s ≡ record { cost = 8; outcome = Leaves n s }) → Once (goes_on o f).outcome
  once_behind (Next s) n f h k = subst (λ (r : Run). Once r.outcome) (sym (k s)) tt
  once_behind (Leaves i s) n f h k = tt
  once_behind (Restarts i s) n f h k = absurd (omega (arith, h))
  once_behind (Ends e) n f h k = tt

  once : (front : List Stm) (n : ℕ) → most_levels front ≡ 0 → (bound : Bound) (st : State) → Once (code_meaning setting frame (front ++ leave (Some n)) bound st).outcome
  once front n e bound st =
      subst (λ (r : Run). Once r.outcome) (sym (runs front (Some n) bound st)) (once_behind (code_meaning setting frame front bound st).outcome n (last (Some n) bound) (stays front e bound st) (jump_run n bound))

  once_loop : (f : Meaning) (bound : Bound) (st : State) → Once (f bound st).outcome → KeepsRun (loop f bound st) (block f bound st)
  once_loop f [] st h = once_turn (f [] st).cost (f [] st).outcome _ h
  once_loop f (calls ∷ below) st h = once_turn (f (calls ∷ below) st).cost (f (calls ∷ below) st).outcome _ h

  pub loop_kept : (front : List Stm) (n : ℕ) → most_levels front ≡ 0 → K (roll-Stm (stm.Loop (front ++ leave (Some n))) ∷ []) (front ++ leave (from_outside (Some n)))
  loop_kept front n e =
      between_many setting frame frame (stm.Loop (front ++ leave (Some n))) (front ++ leave (from_outside (Some n))) (λ bound st.
      run_trans _ _ _ (once_loop (code_meaning setting frame (front ++ leave (Some n))) bound st (once front n e bound st)) (opened_run front (Some n) e bound st))
