-- Code with promises does the same: choices, loops, blocks, lists and bodies.
use Rattle.std.proofs.Common.{◌≡◌, ℕ, zero, suc, ◌+◌, ◌*◌, ◌<◌, Bool, true, false, cond, eqb, List, [], ◌∷◌, ◌++◌, length, get_or, take, map, refl, sym, ◌∙◌, subst, ap, arith}
use Rattle.std.specs.Prelude.{not}
use Rattle.std.proofs.lemmas.List.{take_more}
use Rattle.mv_ir.specs.declared.tree.Tree.{Tree}
use Rattle.mv_ir.specs.declared.stm.Stm.{Stm}
use Rattle.mv_ir.specs.declared.stm.Stm as st
use Rattle.mv_ir.specs.declared.stm.Stm.TheOpen as stm
use Rattle.mv_ir.specs.declared.stm.Stm.TheVariants.{rolls-If, rolls-Loop, rolls-Block}
use Rattle.mv_ir.specs.declared.stm.Stm.TheViews.{roll-Stm}
use Rattle.mv_ir.specs.declared.body.Body.{Body}
use Rattle.mv_ir.specs.World.{Setting, Frame}
use Rattle.mv_ir.specs.Trees.{value, nodes}
use Rattle.mv_ir.specs.Outcome.{State, Outcome, Next, Leaves, Restarts, Ends, More, Run, Bound, Meaning, spend, now, goes_on, then_do, in_order, block_end, turn_end, turn, loop}
use Rattle.mv_ir.specs.Meaning.{meaning, code_meaning, entry_state, call_from}
use Rattle.mv_ir.proofs.Keeping.{alone, in_order_append, map_append}
use Rattle.mv_ir.proofs.Joining.{temps_enough}
use Rattle.mv_ranges.specs.declared.facts.Fact.{Fact}
use Rattle.mv_ranges.specs.declared.around.Claim.{Claim}
use Rattle.mv_ranges.specs.declared.walk.Reach.{Reach}
use Rattle.mv_ranges.specs.declared.walk.Reach.TheVariants.{Never, Knowing}
use Rattle.mv_ranges.specs.Facts.{AllHold, AreKnown}
use Rattle.mv_ranges.specs.Plain.{plain_stm, plain_code}
use Rattle.mv_ranges.specs.Following.{OnReach, GoesOn, Follows, IsMarked, AreMarked, IsMarkedNext, AreSides}
use Rattle.mv_ranges.specs.Marked.{IsMarkedBody}
use Rattle.mv_ranges.proofs.Marks.{means_as, plain_as}

module _ (temps : ℕ) where
  goes_weaker : (around : List Claim) (after both : Reach) → ((s : State) → OnReach temps after s → OnReach temps both s) → (o : Outcome) → GoesOn temps around after o → GoesOn temps around both o
  goes_weaker around after both h (Next s) k = h s k
  goes_weaker around after both h (Leaves n s) k = k
  goes_weaker around after both h (Restarts n s) k = k
  goes_weaker around after both h (Ends e) k = tt

  -- ---- one after the other

  then_same : (r : Run) (f f' : State → Run) → ((s : State) → r.outcome ≡ Next s → f' s ≡ f s) → then_do r f' ≡ then_do r f
  then_same r f f' h = by r.outcome refl
    where
      Same : Outcome → Type 0
      Same o = spend r.cost (goes_on o f') ≡ spend r.cost (goes_on o f)

      by : (o : Outcome) → r.outcome ≡ o → then_do r f' ≡ then_do r f
      by (Next s) e = subst Same (sym e) (ap (spend r.cost) (h s e))
      by (Leaves n s) e = subst Same (sym e) refl
      by (Restarts n s) e = subst Same (sym e) refl
      by (Ends x) e = subst Same (sym e) refl

  on_goes : (around : List Claim) (mid after : Reach) (o : Outcome) (f : State → Run) → GoesOn temps around mid o → ((s : State) → OnReach temps mid s → GoesOn temps around after (f s).outcome) →
      GoesOn temps around after (goes_on o f).outcome
  on_goes around mid after (Next s) f h k = k s h
  on_goes around mid after (Leaves n s) f h k = h
  on_goes around mid after (Restarts n s) f h k = h
  on_goes around mid after (Ends e) f h k = tt

  at_next : (around : List Claim) (mid : Reach) (o : Outcome) (s : State) → GoesOn temps around mid o → o ≡ Next s → OnReach temps mid s
  at_next around mid o s h e = subst (GoesOn temps around mid) e h

  -- ---- lists

  module _ (around : List Claim) (facts : List Fact) where
    pub none_marked : AreMarked temps around facts [] [] (Knowing facts)
    none_marked = record { plain = refl; follows = λ setting frame. record { same = λ bound s known. refl; goes = λ bound s known. known } }

    one_more : (setting : Setting) (frame : Frame) (code : List Stm) (x : Stm) (bound : Bound) (s : State) →
        code_meaning setting frame (code ++ (x ∷ [])) bound s ≡ then_do (code_meaning setting frame code bound s) (meaning setting frame x bound)
    one_more setting frame code x bound s =
        ap (λ ms. in_order ms bound s) (map_append (meaning setting frame) code (x ∷ []))
        ∙ in_order_append (map (meaning setting frame) code) (meaning setting frame x ∷ []) bound s
        ∙ then_same (code_meaning setting frame code bound s) (meaning setting frame x bound) (in_order (meaning setting frame x ∷ []) bound) (λ z e. alone (meaning setting frame x bound z))

    pub next_marked : (code code' : List Stm) (x x' : Stm) (reach after : Reach) → AreMarked temps around facts code code' reach → IsMarkedNext temps around reach x x' after →
        AreMarked temps around facts (code ++ (x ∷ [])) (code' ++ (x' ∷ [])) after
    next_marked code code' x x' (Knowing known) after h k = record {
      plain = map_append plain_stm code' (x' ∷ []) ∙ ap (λ c. c ++ (plain_stm x' ∷ [])) h.plain ∙ ap (λ y. plain_code code ++ (y ∷ [])) k.plain ∙ sym (map_append plain_stm code (x ∷ []));
      follows = λ setting frame.
          let a = h.follows setting frame in
          let b = k.follows setting frame in
          record {
            same = λ bound s start.
                one_more setting frame code' x' bound s ∙ ap (λ r. then_do r (meaning setting frame x' bound)) (a.same bound s start)
                ∙ then_same (code_meaning setting frame code bound s) (meaning setting frame x bound) (meaning setting frame x' bound)
                (λ z e. b.same bound z (at_next around (Knowing known) (code_meaning setting frame code bound s).outcome z (a.goes bound s start) e))
                ∙ sym (one_more setting frame code x bound s);
            goes = λ bound s start. subst (λ r. GoesOn temps around after r.outcome) (sym (one_more setting frame code x bound s))
                (on_goes around (Knowing known) after (code_meaning setting frame code bound s).outcome (meaning setting frame x bound) (a.goes bound s start) (b.goes bound));
          };
    }
    next_marked code code' x x' Never after h k = record {
      plain = map_append plain_stm code' (x' ∷ []) ∙ ap (λ c. c ++ (plain_stm x' ∷ [])) h.plain ∙ ap (λ y. plain_code code ++ (y ∷ [])) k.0 ∙ sym (map_append plain_stm code (x ∷ []));
      follows = λ setting frame.
          let a = h.follows setting frame in
          record {
            same = λ bound s start.
                one_more setting frame code' x' bound s ∙ ap (λ r. then_do r (meaning setting frame x' bound)) (a.same bound s start)
                ∙ then_same (code_meaning setting frame code bound s) (meaning setting frame x bound) (meaning setting frame x' bound)
                (λ z e. absurd (at_next around Never (code_meaning setting frame code bound s).outcome z (a.goes bound s start) e))
                ∙ sym (one_more setting frame code x bound s);
            goes = λ bound s start. subst (λ r. GoesOn temps around after r.outcome) (sym (one_more setting frame code x bound s))
                (on_goes around Never after (code_meaning setting frame code bound s).outcome (meaning setting frame x bound) (a.goes bound s start) (λ z never. absurd never));
          };
    }

    -- ---- choices

    pub if_marked : (t : Tree) (a a' b b' : List Stm) (first second : List Fact) (then other both : Reach) →
        AreSides facts t first second →
        AreMarked temps around first a a' then → AreMarked temps around second b b' other →
        ((temps : ℕ) (s : State) → OnReach temps then s → OnReach temps both s) → ((temps : ℕ) (s : State) → OnReach temps other s → OnReach temps both s) →
        IsMarked temps around facts (st.If t a b) (st.If t a' b') both
    if_marked t a a' b b' first second then other both h ha hb ka kb = record {
      plain = plain_as (stm.If t a' b') (st.If t a' b') (rolls-If t a' b')
          ∙ ap (λ c. roll-Stm (stm.If t c (plain_code b'))) ha.plain ∙ ap (λ c. roll-Stm (stm.If t (plain_code a) c)) hb.plain
          ∙ sym (plain_as (stm.If t a b) (st.If t a b) (rolls-If t a b));
      follows = λ setting frame. record {
        same = λ bound s known.
            ap (λ m. m bound s) (means_as setting frame (stm.If t a' b') (st.If t a' b') (rolls-If t a' b'))
            ∙ ap (spend (8 + 3 * nodes t)) (same_by setting frame bound s known (eqb (value setting.numbers frame.bound t s.temps s.world.globals) 0) refl)
            ∙ sym (ap (λ m. m bound s) (means_as setting frame (stm.If t a b) (st.If t a b) (rolls-If t a b)));
        goes = λ bound s known. subst (λ m. GoesOn temps around both (m bound s).outcome) (sym (means_as setting frame (stm.If t a b) (st.If t a b) (rolls-If t a b)))
            (goes_by setting frame bound s known (eqb (value setting.numbers frame.bound t s.temps s.world.globals) 0) refl);
      };
    }
      where
        at_yes : (setting : Setting) (frame : Frame) (s : State) → AreKnown temps facts s → eqb (value setting.numbers frame.bound t s.temps s.world.globals) 0 ≡ false → AreKnown temps first s
        at_yes setting frame s known e = record { enough = known.enough; true = h.chosen setting.numbers frame.bound s known.true (ap not e) }

        at_no : (setting : Setting) (frame : Frame) (s : State) → AreKnown temps facts s → eqb (value setting.numbers frame.bound t s.temps s.world.globals) 0 ≡ true → AreKnown temps second s
        at_no setting frame s known e = record { enough = known.enough; true = h.refused setting.numbers frame.bound s known.true (ap not e) }

        same_by : (setting : Setting) (frame : Frame) (bound : Bound) (s : State) → AreKnown temps facts s → (c : Bool) → eqb (value setting.numbers frame.bound t s.temps s.world.globals) 0 ≡ c →
            cond (eqb (value setting.numbers frame.bound t s.temps s.world.globals) 0) (code_meaning setting frame b' bound s) (code_meaning setting frame a' bound s)
            ≡ cond (eqb (value setting.numbers frame.bound t s.temps s.world.globals) 0) (code_meaning setting frame b bound s) (code_meaning setting frame a bound s)
        same_by setting frame bound s known true e = rw e ((hb.follows setting frame).same bound s (at_no setting frame s known e))
        same_by setting frame bound s known false e = rw e ((ha.follows setting frame).same bound s (at_yes setting frame s known e))

        goes_by : (setting : Setting) (frame : Frame) (bound : Bound) (s : State) → AreKnown temps facts s → (c : Bool) → eqb (value setting.numbers frame.bound t s.temps s.world.globals) 0 ≡ c →
            GoesOn temps around both (cond (eqb (value setting.numbers frame.bound t s.temps s.world.globals) 0) (code_meaning setting frame b bound s) (code_meaning setting frame a bound s)).outcome
        goes_by setting frame bound s known true e =
            rw e (goes_weaker around other both (kb temps) (code_meaning setting frame b bound s).outcome ((hb.follows setting frame).goes bound s (at_no setting frame s known e)))
        goes_by setting frame bound s known false e =
            rw e (goes_weaker around then both (ka temps) (code_meaning setting frame a bound s).outcome ((ha.follows setting frame).goes bound s (at_yes setting frame s known e)))

  -- ---- loops and blocks

  module _ (around : List Claim) (claim : Claim) (reach : Reach) where
    abbrev Exit : Reach
    Exit = Knowing claim.exit

    -- a turn, and what follows
    turn_follows : (r : Run) (f f' : State → Run) → GoesOn temps (claim ∷ around) reach r.outcome → ((s : State) → OnReach temps reach s → AreKnown temps claim.start s) →
        ((s : State) → AreKnown temps claim.start s → (f' s ≡ f s) × GoesOn temps around Exit (f s).outcome) → (turn r f' ≡ turn r f) × GoesOn temps around Exit (turn r f).outcome
    turn_follows r f f' h k n = by r.outcome refl h
      where
        Both : Outcome → Type 0
        Both o = (spend 8 (spend r.cost (turn_end o f')) ≡ spend 8 (spend r.cost (turn_end o f))) × GoesOn temps around Exit (turn_end o f).outcome

        by : (o : Outcome) → r.outcome ≡ o → GoesOn temps (claim ∷ around) reach o → Both r.outcome
        by (Next s) e h = subst Both (sym e) (ap (λ z. spend 8 (spend r.cost z)) (n s (k s h)).0, (n s (k s h)).1)
        by (Leaves zero s) e h = subst Both (sym e) (refl, h)
        by (Leaves (suc i) s) e h = subst Both (sym e) (refl, h)
        by (Restarts zero s) e h = subst Both (sym e) (ap (λ z. spend 8 (spend r.cost z)) (n s h).0, (n s h).1)
        by (Restarts (suc i) s) e h = subst Both (sym e) (refl, h)
        by (Ends x) e h = subst Both (sym e) (refl, tt)

    loop_follows : (m m' : Meaning) → Follows temps (claim ∷ around) claim.start reach m m' → ((s : State) → OnReach temps reach s → AreKnown temps claim.start s) → (bound : Bound) (s : State) → AreKnown temps claim.start s →
        (loop m' bound s ≡ loop m bound s) × GoesOn temps around Exit (loop m bound s).outcome
    loop_follows m m' h k [] s known =
        let t = turn_follows (m [] s) (λ z. now (Ends (More z.world))) (λ z. now (Ends (More z.world))) (h.goes [] s known) k (λ z start. (refl, tt)) in
        (ap (λ r. turn r (λ z. now (Ends (More z.world)))) (h.same [] s known) ∙ t.0, t.1)
    loop_follows m m' h k (calls ∷ below) s known =
        let t = turn_follows (m (calls ∷ below) s) (loop m below) (loop m' below) (h.goes (calls ∷ below) s known) k (loop_follows m m' h k below) in
        (ap (λ r. turn r (loop m' below)) (h.same (calls ∷ below) s known) ∙ t.0, t.1)

    pub loop_marked : (facts : List Fact) (b b' : List Stm) → ((s : State) → AllHold s facts → AllHold s claim.start) → AreMarked temps (claim ∷ around) claim.start b b' reach →
        ((s : State) → OnReach temps reach s → AreKnown temps claim.start s) → IsMarked temps around facts (st.Loop b) (st.Loop b') Exit
    loop_marked facts b b' begin h k = record {
      plain = plain_as (stm.Loop b') (st.Loop b') (rolls-Loop b') ∙ ap (λ c. roll-Stm (stm.Loop c)) h.plain ∙ sym (plain_as (stm.Loop b) (st.Loop b) (rolls-Loop b));
      follows = λ setting frame.
          let l = loop_follows (code_meaning setting frame b) (code_meaning setting frame b') (h.follows setting frame) k in
          record {
            same = λ bound s known.
                ap (λ m. m bound s) (means_as setting frame (stm.Loop b') (st.Loop b') (rolls-Loop b'))
                ∙ (l bound s (record { enough = known.enough; true = begin s known.true })).0 ∙ sym (ap (λ m. m bound s) (means_as setting frame (stm.Loop b) (st.Loop b) (rolls-Loop b)));
            goes = λ bound s known. subst (λ m. GoesOn temps around Exit (m bound s).outcome) (sym (means_as setting frame (stm.Loop b) (st.Loop b) (rolls-Loop b)))
                (l bound s (record { enough = known.enough; true = begin s known.true })).1;
          };
    }

    end_goes : ((s : State) → OnReach temps reach s → AreKnown temps claim.exit s) → (o : Outcome) → GoesOn temps (claim ∷ around) reach o → GoesOn temps around Exit (block_end o)
    end_goes k (Next s) h = k s h
    end_goes k (Leaves zero s) h = h
    end_goes k (Leaves (suc n) s) h = h
    end_goes k (Restarts zero s) h = tt
    end_goes k (Restarts (suc n) s) h = h
    end_goes k (Ends e) h = tt

    pub block_marked : (facts : List Fact) (b b' : List Stm) → AreMarked temps (claim ∷ around) facts b b' reach → ((s : State) → OnReach temps reach s → AreKnown temps claim.exit s) →
        IsMarked temps around facts (st.Block b) (st.Block b') Exit
    block_marked facts b b' h k = record {
      plain = plain_as (stm.Block b') (st.Block b') (rolls-Block b') ∙ ap (λ c. roll-Stm (stm.Block c)) h.plain ∙ sym (plain_as (stm.Block b) (st.Block b) (rolls-Block b));
      follows = λ setting frame.
          let f = h.follows setting frame in
          record {
            same = λ bound s known.
                ap (λ m. m bound s) (means_as setting frame (stm.Block b') (st.Block b') (rolls-Block b'))
                ∙ ap (λ (r : Run). record { cost = r.cost; outcome = block_end r.outcome }) (f.same bound s known)
                ∙ sym (ap (λ m. m bound s) (means_as setting frame (stm.Block b) (st.Block b) (rolls-Block b)));
            goes = λ bound s known. subst (λ m. GoesOn temps around Exit (m bound s).outcome) (sym (means_as setting frame (stm.Block b) (st.Block b) (rolls-Block b)))
                (end_goes k (code_meaning setting frame b bound s).outcome (f.goes bound s known));
          };
    }

-- ---- bodies

pub marked_body : (body : Body) (code : List Stm) (reach : Reach) → AreMarked body.temps [] [] body.code code reach → IsMarkedBody body (record body { code = code })
marked_body body code reach h = record {
  means = λ setting frame contents args bound w.
      let start : AreKnown body.temps [] (entry_state contents body args w) = record { enough = temps_enough contents.temps body.temps args; true = λ k d lt. absurd (omega (arith, lt)) } in
      let e = (h.follows setting frame).same bound (entry_state contents body args w) start in
      record { same = ap (λ r. (call_from r).end) (sym e); cheaper = (let c = ap (λ (r : Run). r.cost) e in omega (arith, c)) };
  code = h.plain;
  params = refl;
  temps = refl;
  sizes = refl;
  rooms = refl;
  marked = refl;
  switches = refl;
}

pub same_body : (body : Body) → IsMarkedBody body body
same_body body = record {
  means = λ setting frame contents args bound w. record { same = refl; cheaper = omega arith };
  code = refl;
  params = refl;
  temps = refl;
  sizes = refl;
  rooms = refl;
  marked = refl;
  switches = refl;
}

-- a turn of the loop over a list
pub step_marked : (temps : ℕ) (around : List Claim) (facts : List Fact) (code made : List Stm) (i : ℕ) (d x' : Stm) (reach after : Reach) → i < length code → AreMarked temps around facts (take i code) made reach →
    IsMarkedNext temps around reach (get_or code i d) x' after → AreMarked temps around facts (take (i + 1) code) (made ++ (x' ∷ [])) after
step_marked temps around facts code made i d x' reach after lt h k =
    subst (λ c. AreMarked temps around facts c (made ++ (x' ∷ [])) after) (sym (take_more code i d lt))
    (next_marked temps around facts (take i code) made (get_or code i d) x' reach after h k)

pub of_statement : (temps : ℕ) (around : List Claim) (facts : List Fact) (x y made : Stm) (after : Reach) → y ≡ x → IsMarked temps around facts x made after → IsMarked temps around facts y made after
of_statement temps around facts x y made after e h = subst (λ z. IsMarked temps around facts z made after) (sym e) h
