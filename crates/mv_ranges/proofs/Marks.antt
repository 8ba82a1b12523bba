-- Statements with promises do the same, and what is known behind them.
use Rattle.std.proofs.Common.{◌≡◌, ℕ, ◌<◌, Bool, true, false, cond, eqb, ltb, List, [], ◌∷◌, ◌⊎◌, inl, inr, length, Option, Some, None, refl, sym, ◌∙◌, subst, ap, arith}
use Rattle.std.specs.Prelude.{slice_index, slice_set}
use Rattle.std.proofs.lemmas.List.{length-set, length-map}
use Rattle.std.proofs.lemmas.Bool.{lt-ltb, ltb-true}
use Rattle.mv_bindings.specs.Traps as trap
use Rattle.mv_ast.specs.declared.program.Known.{Known}
use Rattle.mv_ir.specs.declared.tree.Tree.{Tree}
use Rattle.mv_ir.specs.declared.stm.Array.{Array}
use Rattle.mv_ir.specs.declared.stm.Array.TheVariants as array
use Rattle.mv_ir.specs.declared.stm.Callee.{Callee}
use Rattle.mv_ir.specs.declared.stm.Stm.{Stm}
use Rattle.mv_ir.specs.declared.stm.Stm as st
use Rattle.mv_ir.specs.declared.stm.Stm.TheOpen.{Stm-F}
use Rattle.mv_ir.specs.declared.stm.Stm.TheOpen as stm
use Rattle.mv_ir.specs.declared.stm.Stm.TheVariants.{rolls-Set, rolls-SetGlobal, rolls-Divide, rolls-Check, rolls-Read, rolls-Write, rolls-Zero, rolls-Break, rolls-Back, rolls-Call, rolls-Known, rolls-Return}
use Rattle.mv_ir.specs.declared.stm.Stm.TheViews.{roll-Stm}
use Rattle.mv_ir.specs.declared.stm.Stm.TheFolds.{fold-roll-Stm, map-Stm}
use Rattle.mv_ir.specs.World.{World, Setting, Frame}
use Rattle.mv_ir.specs.Trees.{value, divide}
use Rattle.mv_ir.specs.Outcome.{State, End, Returned, Trapped, More, Stuck, Outcome, Next, Ends, Run, Bound, Calls}
use Rattle.mv_ir.specs.Meaning.{elements, with_temp, with_elements, with_world, outside, traps, put, call_end, Goal, Nowhere, Null, At, Inside, within, call_to, goal, meaning, unpromised}
use Rattle.mv_ir.proofs.Keeping.{layer_means, meaning_roll, run_same}
use Rattle.mv_ir.proofs.Arrays.{plain_elements}
use Rattle.mv_ranges.specs.declared.facts.Fact.{Fact}
use Rattle.mv_ranges.specs.declared.range.Range.{Range}
use Rattle.mv_ranges.specs.declared.around.Claim.{Claim}
use Rattle.mv_ranges.specs.declared.walk.Reach.{Reach}
use Rattle.mv_ranges.specs.declared.walk.Reach.TheVariants.{Never, Knowing}
use Rattle.mv_ranges.specs.Ranges.{IsWithin}
use Rattle.mv_ranges.specs.Facts.{AllHold, AreKnown}
use Rattle.mv_ranges.specs.Plain.{plain_layer, plain_stm}
use Rattle.mv_ranges.specs.Following.{claim_at, OnReach, OnExit, OnStart, GoesOn, IsMarked, IsKept}
use Rattle.mv_ranges.proofs.Steps.{long_with}

-- ---- what statements mean, and their plain forms

pub means_as : (setting : Setting) (frame : Frame) (x : Stm-F Stm) (y : Stm) → roll-Stm x ≡ y → meaning setting frame y ≡ layer_means setting frame x
means_as setting frame x y e = subst (λ z. meaning setting frame z ≡ layer_means setting frame x) e (meaning_roll setting frame x)

pub plain_roll : (x : Stm-F Stm) → plain_stm (roll-Stm x) ≡ plain_layer (map-Stm Stm Stm plain_stm x)
unfolding plain_stm
plain_roll x = fold-roll-Stm Stm plain_layer x

pub plain_as : (x : Stm-F Stm) (y : Stm) → roll-Stm x ≡ y → plain_stm y ≡ plain_layer (map-Stm Stm Stm plain_stm x)
plain_as x y e = subst (λ z. plain_stm z ≡ plain_layer (map-Stm Stm Stm plain_stm x)) e (plain_roll x)

plain_with : (a : Array) (s : State) (xs : List ℕ) → with_elements (unpromised a) s xs ≡ with_elements a s xs
plain_with (array.Global g) s xs = refl
plain_with (array.Local l) s xs = refl
plain_with (array.SureGlobal g n) s xs = refl
plain_with (array.SureLocal l n) s xs = refl

same_elements : (a a' : Array) → unpromised a' ≡ unpromised a → (s : State) → elements a' s ≡ elements a s
same_elements a a' e s = sym (plain_elements a' s) ∙ ap (λ z. elements z s) e ∙ plain_elements a s

same_with : (a a' : Array) → unpromised a' ≡ unpromised a → (s : State) (xs : List ℕ) → with_elements a' s xs ≡ with_elements a s xs
same_with a a' e s xs = sym (plain_with a' s xs) ∙ ap (λ z. with_elements z s xs) e ∙ plain_with a s xs

-- an access of one array and of another, which end in the same way outside, unless the index is below the length
chosen_same : (k n : ℕ) (x x' : Outcome) (o o' : End) → x' ≡ x → (k < n) ⊎ (o' ≡ o) → cond (ltb k n) x' (Ends o') ≡ cond (ltb k n) x (Ends o)
chosen_same k n x x' o o' e (inr f) = ap (λ z. cond (ltb k n) z (Ends o')) e ∙ ap (λ z. cond (ltb k n) x (Ends z)) f
chosen_same k n x x' o o' e (inl lt) = ap (λ b. cond b x' (Ends o')) (lt-ltb k n lt) ∙ e ∙ sym (ap (λ b. cond b x (Ends o)) (lt-ltb k n lt))

module _ (temps : ℕ) where
  -- where an access goes on, given what is known where the index is below the length
  chosen_goes : (around : List Claim) (after : Reach) (k n : ℕ) (s : State) (o : End) → (k < n → OnReach temps after s) → GoesOn temps around after (cond (ltb k n) (Next s) (Ends o))
  chosen_goes around after k n s o h = by (ltb k n) refl
    where
      by : (b : Bool) → ltb k n ≡ b → GoesOn temps around after (cond b (Next s) (Ends o))
      by true e = h (ltb-true k n e)
      by false e = tt

  pub known_temp : (facts after : List Fact) (s : State) (t v : ℕ) → AreKnown temps facts s → AllHold (with_temp s t v) after → AreKnown temps after (with_temp s t v)
  known_temp facts after s t v known h = record { enough = (let k = known.enough in omega (arith, k, length-set s.temps t v)); true = h }

  -- ---- statements

  module _ (around : List Claim) (facts : List Fact) where
    -- of one that stays as it is: what is known where it goes on is left to show
    unchanged : (x : Stm-F Stm) (y : Stm) (after : Reach) → roll-Stm x ≡ y →
        ((setting : Setting) (frame : Frame) (bound : Bound) (s : State) → AreKnown temps facts s → GoesOn temps around after (layer_means setting frame x bound s).outcome) →
        IsMarked temps around facts y y after
    unchanged x y after e h = record {
      plain = refl;
      follows = λ setting frame. record {
        same = λ bound s known. refl;
        goes = λ bound s known. subst (λ m. GoesOn temps around after (m bound s).outcome) (sym (means_as setting frame x y e)) (h setting frame bound s known);
      };
    }

    -- of one that changes
    changed : (x x' : Stm-F Stm) (y y' : Stm) (after : Reach) → roll-Stm x ≡ y → roll-Stm x' ≡ y' → plain_layer (map-Stm Stm Stm plain_stm x') ≡ plain_layer (map-Stm Stm Stm plain_stm x) →
        ((setting : Setting) (frame : Frame) (bound : Bound) (s : State) → AreKnown temps facts s → layer_means setting frame x' bound s ≡ layer_means setting frame x bound s) →
        ((setting : Setting) (frame : Frame) (bound : Bound) (s : State) → AreKnown temps facts s → GoesOn temps around after (layer_means setting frame x bound s).outcome) →
        IsMarked temps around facts y y' after
    changed x x' y y' after e e' p k h = record {
      plain = plain_as x' y' e' ∙ p ∙ sym (plain_as x y e);
      follows = λ setting frame. record {
        same = λ bound s known. ap (λ m. m bound s) (means_as setting frame x' y' e') ∙ k setting frame bound s known ∙ sym (ap (λ m. m bound s) (means_as setting frame x y e));
        goes = λ bound s known. subst (λ m. GoesOn temps around after (m bound s).outcome) (sym (means_as setting frame x y e)) (h setting frame bound s known);
      };
    }

    -- what is known behind a value that is put into a temporary
    abbrev pub IsWrittenTo : ℕ → Option Range → List Fact → Type 0
    IsWrittenTo t range after = (s : State) (v : ℕ) → AreKnown temps facts s → IsWithin range v → AllHold (with_temp s t v) after

    pub set_marked : (t : ℕ) (v : Tree) (after : List Fact) →
        ((numbers : List ℕ) (bound : List (ℕ × ℕ)) (s : State) → AreKnown temps facts s → AllHold (with_temp s t (value numbers bound v s.temps s.world.globals)) after) →
        IsMarked temps around facts (st.Set t v) (st.Set t v) (Knowing after)
    set_marked t v after h = unchanged (stm.Set t v) (st.Set t v) (Knowing after) (rolls-Set t v)
        (λ setting frame bound s known. known_temp facts after s t _ known (h setting.numbers frame.bound s known))

    pub set_global_marked : (g : ℕ) (v : Tree) → IsMarked temps around facts (st.SetGlobal g v) (st.SetGlobal g v) (Knowing facts)
    set_global_marked g v = unchanged (stm.SetGlobal g v) (st.SetGlobal g v) (Knowing facts) (rolls-SetGlobal g v)
        (λ setting frame bound s known. long_with temps facts (array.Global g) s _ known (length-set (elements (array.Global g) s) 0 (value setting.numbers frame.bound v s.temps s.world.globals)))

    pub divide_marked : (t o : ℕ) (a b : Tree) (range : Option Range) (after : List Fact) →
        ((numbers : List ℕ) (bound : List (ℕ × ℕ)) (s : State) → AllHold s facts → IsWithin range (divide o (value numbers bound a s.temps s.world.globals) (value numbers bound b s.temps s.world.globals))) →
        IsWrittenTo t range after → IsMarked temps around facts (st.Divide t o a b) (st.Divide t o a b) (Knowing after)
    divide_marked t o a b range after lies h = unchanged (stm.Divide t o a b) (st.Divide t o a b) (Knowing after) (rolls-Divide t o a b)
        (λ setting frame bound s known. by s (eqb (value setting.numbers frame.bound b s.temps s.world.globals) 0) _ (known_temp facts after s t _ known (h s _ known (lies setting.numbers frame.bound s known.true))))
      where
        by : (s : State) (c : Bool) (v : ℕ) → AreKnown temps after (with_temp s t v) → GoesOn temps around (Knowing after) (cond c (traps trap.division_by_zero s) (Next (with_temp s t v)))
        by s true v k = tt
        by s false v k = k

    -- what is known behind an access
    abbrev pub IsAccessed : Array → Tree → List Fact → Type 0
    IsAccessed a i after =
        (numbers : List ℕ) (bound : List (ℕ × ℕ)) (s : State) → AllHold s facts → value numbers bound i s.temps s.world.globals < length (elements a s) → AllHold s after

    pub check_marked : (a a' : Array) (i : Tree) (after : List Fact) → unpromised a' ≡ unpromised a → IsKept facts a i a' → IsAccessed a i after →
        IsMarked temps around facts (st.Check a i) (st.Check a' i) (Knowing after)
    check_marked a a' i after p kept h = changed (stm.Check a i) (stm.Check a' i) (st.Check a i) (st.Check a' i) (Knowing after) (rolls-Check a i) (rolls-Check a' i)
        (ap (λ z. roll-Stm (stm.Check z i)) p)
        (λ setting frame bound s known. run_same _ _
        (ap (λ xs. cond (ltb (value setting.numbers frame.bound i s.temps s.world.globals) (length xs)) (Next s) (Ends (outside a' (value setting.numbers frame.bound i s.temps s.world.globals) s.world))) (same_elements a a' p s)
        ∙ chosen_same _ _ (Next s) (Next s) _ _ refl (kept setting.numbers frame.bound s s.world known.true)) refl)
        (λ setting frame bound s known. chosen_goes around (Knowing after) _ _ s _ (λ lt. record { enough = known.enough; true = h setting.numbers frame.bound s known.true lt }))

    pub read_marked : (t : ℕ) (a a' : Array) (i : Tree) (between after : List Fact) → unpromised a' ≡ unpromised a → IsKept facts a i a' → IsAccessed a i between →
        ((s : State) (v : ℕ) → AreKnown temps between s → IsWithin None v → AllHold (with_temp s t v) after) → IsMarked temps around facts (st.Read t a i) (st.Read t a' i) (Knowing after)
    read_marked t a a' i between after p kept h k = changed (stm.Read t a i) (stm.Read t a' i) (st.Read t a i) (st.Read t a' i) (Knowing after) (rolls-Read t a i) (rolls-Read t a' i)
        (ap (λ z. roll-Stm (stm.Read t z i)) p)
        (λ setting frame bound s known.
        let x = value setting.numbers frame.bound i s.temps s.world.globals in
        run_same _ _
        (ap (λ xs. cond (ltb x (length xs)) (Next (with_temp s t (slice_index xs x))) (Ends (outside a' x s.world))) (same_elements a a' p s)
        ∙ chosen_same x (length (elements a s)) (Next (with_temp s t (slice_index (elements a s) x))) _ _ _ refl (kept setting.numbers frame.bound s s.world known.true)) refl)
        (λ setting frame bound s known.
        let x = value setting.numbers frame.bound i s.temps s.world.globals in
        chosen_goes around (Knowing after) x (length (elements a s)) (with_temp s t (slice_index (elements a s) x)) _ (λ lt.
        let b : AreKnown temps between s = record { enough = known.enough; true = h setting.numbers frame.bound s known.true lt } in
        known_temp between after s t _ b (k s _ b tt)))

    pub write_marked : (a a' : Array) (i v : Tree) (after : List Fact) → unpromised a' ≡ unpromised a → IsKept facts a i a' → IsAccessed a i after →
        IsMarked temps around facts (st.Write a i v) (st.Write a' i v) (Knowing after)
    write_marked a a' i v after p kept h = changed (stm.Write a i v) (stm.Write a' i v) (st.Write a i v) (st.Write a' i v) (Knowing after) (rolls-Write a i v) (rolls-Write a' i v)
        (ap (λ z. roll-Stm (stm.Write z i v)) p)
        (λ setting frame bound s known.
        let x = value setting.numbers frame.bound i s.temps s.world.globals in
        let y = value setting.numbers frame.bound v s.temps s.world.globals in
        run_same _ _
        (ap (λ xs. cond (ltb x (length xs)) (Next (with_elements a' s (slice_set xs x y))) (Ends (outside a' x s.world))) (same_elements a a' p s)
        ∙ chosen_same x (length (elements a s)) (Next (with_elements a s (slice_set (elements a s) x y))) _ _ _ (ap Next (same_with a a' p s (slice_set (elements a s) x y))) (kept setting.numbers frame.bound s s.world known.true)) refl)
        (λ setting frame bound s known.
        let x = value setting.numbers frame.bound i s.temps s.world.globals in
        let y = value setting.numbers frame.bound v s.temps s.world.globals in
        chosen_goes around (Knowing after) x (length (elements a s)) (with_elements a s (slice_set (elements a s) x y)) _ (λ lt.
        long_with temps after a s (slice_set (elements a s) x y) (record { enough = known.enough; true = h setting.numbers frame.bound s known.true lt }) (length-set (elements a s) x y)))

    pub zero_marked : (l : ℕ) → IsMarked temps around facts (st.Zero l) (st.Zero l) (Knowing facts)
    zero_marked l = unchanged (stm.Zero l) (st.Zero l) (Knowing facts) (rolls-Zero l)
        (λ setting frame bound s known. long_with temps facts (array.Local l) s _ known (length-map (elements (array.Local l) s) (λ x. 0)))

    -- what is known behind a call
    abbrev pub IsCalled : Option ℕ → List Fact → Type 0
    IsCalled r after = (s : State) (w : World) (v : ℕ) → AllHold s facts → AllHold (put r v (with_world s w)) after

    put_known : (r : Option ℕ) (after : List Fact) → IsCalled r after → (s : State) (w : World) (v : ℕ) → AreKnown temps facts s → AreKnown temps after (put r v (with_world s w))
    put_known None after h s w v known = record { enough = known.enough; true = h s w v known.true }
    put_known (Some t) after h s w v known = record { enough = (let k = known.enough in omega (arith, k, length-set s.temps t v)); true = h s w v known.true }

    call_goes : (r : Option ℕ) (after : List Fact) → IsCalled r after → (s : State) → AreKnown temps facts s → (e : End) → GoesOn temps around (Knowing after) (call_end r s e)
    call_goes None after h s known (Returned v w) = put_known None after h s w 0 known
    call_goes (Some t) after h s known (Returned None w) = tt
    call_goes (Some t) after h s known (Returned (Some v) w) = put_known (Some t) after h s w v known
    call_goes None after h s known (Trapped c w) = tt
    call_goes (Some t) after h s known (Trapped c w) = tt
    call_goes None after h s known (More w) = tt
    call_goes (Some t) after h s known (More w) = tt
    call_goes None after h s known Stuck = tt
    call_goes (Some t) after h s known Stuck = tt

    within_goes : (after : List Fact) (f : Calls → Run) (bound : Bound) (s : State) → ((calls : Calls) → GoesOn temps around (Knowing after) (f calls).outcome) → GoesOn temps around (Knowing after) (within bound f s).outcome
    within_goes after f [] s h = tt
    within_goes after f (calls ∷ below) s h = h calls

    run_goes : (after : List Fact) (c : Bool) (r r' : Run) → GoesOn temps around (Knowing after) r.outcome → GoesOn temps around (Knowing after) r'.outcome → GoesOn temps around (Knowing after) (cond c r r').outcome
    run_goes after true r r' h k = h
    run_goes after false r r' h k = k

    to_goes : (r : Option ℕ) (after : List Fact) → IsCalled r after → (g : Goal) (depth live : ℕ) (args : List ℕ) (bound : Bound) (s : State) → AreKnown temps facts s →
        GoesOn temps around (Knowing after) (call_to g depth live r args bound s).outcome
    to_goes r after h Nowhere depth live args bound s known = tt
    to_goes r after h Null depth live args bound s known = tt
    to_goes r after h (At f) depth live args bound s known = run_goes after (ltb depth trap.depth_limit) _ _ (within_goes after _ bound s (λ calls. call_goes r after h s known _)) tt
    to_goes r after h Inside depth live args bound s known = run_goes after (ltb depth trap.depth_limit) _ _ (within_goes after _ bound s (λ calls. call_goes r after h s known (Returned None s.world))) tt

    pub call_marked : (r : Option ℕ) (f : Callee) (args : List Tree) (after : List Fact) → IsCalled r after → IsMarked temps around facts (st.Call r f args) (st.Call r f args) (Knowing after)
    call_marked r f args after h = unchanged (stm.Call r f args) (st.Call r f args) (Knowing after) (rolls-Call r f args)
        (λ setting frame bound s known. to_goes r after h (goal setting frame f s) frame.depth frame.live _ bound s known)

    pub known_marked : (r : Option ℕ) (k : Known) (args : List Tree) (after : List Fact) → IsCalled r after → IsMarked temps around facts (st.Known r k args) (st.Known r k args) (Knowing after)
    known_marked r k args after h = unchanged (stm.Known r k args) (st.Known r k args) (Knowing after) (rolls-Known r k args)
        (λ setting frame bound s known. put_known r after h s _ _ known)

    -- ---- jumps

    pub return_marked : (v : Tree) → IsMarked temps around facts (st.Return v) (st.Return v) Never
    return_marked v = unchanged (stm.Return v) (st.Return v) Never (rolls-Return v) (λ setting frame bound s known. tt)

    pub break_marked : (n : ℕ) → ((s : State) → AreKnown temps facts s → OnExit temps (claim_at around n) s) → IsMarked temps around facts (st.Break n) (st.Break n) Never
    break_marked n h = unchanged (stm.Break n) (st.Break n) Never (rolls-Break n) (λ setting frame bound s known. h s known)

    pub back_marked : (n : ℕ) → ((s : State) → AreKnown temps facts s → OnStart temps (claim_at around n) s) → IsMarked temps around facts (st.Back n) (st.Back n) Never
    back_marked n h = unchanged (stm.Back n) (st.Back n) Never (rolls-Back n) (λ setting frame bound s known. h s known)

-- the statements that stay, and are known by nothing but what was known before
pub ruleset simple = (set_global_marked, zero_marked, return_marked)
