-- A statement without others in it that is no jump to a loop or block goes on behind it or ends the function, and the temporaries stay as many.
use Rattle.std.proofs.Common.{arith, ◌≡◌, ℕ, Bool, true, false, cond, eqb, ltb, List, [], ◌∷◌, map, length, Option, Some, None, refl, subst, sym, ◌∙◌}
use Rattle.std.specs.Prelude.{slice_index, slice_set}
use Rattle.std.proofs.lemmas.List.{length-set}
use Rattle.mv_num.proofs.Booleans.{from_falsity}
use Rattle.mv_ir.specs.declared.tree.Tree.{Tree}
use Rattle.mv_ir.specs.declared.stm.Array.{Array}
use Rattle.mv_ir.specs.declared.stm.Array.TheVariants as array
use Rattle.mv_ir.specs.declared.stm.Stm.{Stm}
use Rattle.mv_ir.specs.declared.stm.Stm.TheOpen.{Stm-F}
use Rattle.mv_ir.specs.declared.stm.Stm.TheOpen as stm
use Rattle.mv_ir.specs.declared.stm.Stm.TheViews.{roll-Stm}
use Rattle.mv_ir.specs.World.{Setting, Frame}
use Rattle.mv_ir.specs.Trees.{divide}
use Rattle.mv_ir.specs.Outcome.{State, End, Returned, Trapped, More, Stuck, Outcome, Next, Leaves, Restarts, Ends, Run, Call, Bound, Meaning, now}
use Rattle.mv_ir.specs.Meaning.{elements, outside, with_temp, with_elements, traps, put, call_end, Goal, Nowhere, Null, At, Inside, goal, made_call, within, call_to, of_tree, meaning}
use Rattle.mv_ir.proofs.Induction.{StmChildren, stm_ind}
use Rattle.mv_ir.proofs.Keeping.{meaning_roll, layer_means}
use Rattle.mv_arms.specs.Arms.{layer_is_still, is_still}
use Rattle.mv_arms.proofs.Walked.{still_roll}
use Rattle.mv_arms.proofs.Via.{via, Long, AllLong, MeansVia}

module _ (temps : ℕ) where
  abbrev Calm : Outcome → Type 0
  Calm (Next s) = Long temps s
  Calm (Leaves n s) = ⊥
  Calm (Restarts n s) = ⊥
  Calm (Ends e) = Unit {0}

  calm_cond : (c : Bool) (o p : Outcome) → Calm o → Calm p → Calm (cond c o p)
  calm_cond true o p h k = h
  calm_cond false o p h k = k

  calm_either : (c : Bool) (r q : Run) → Calm r.outcome → Calm q.outcome → Calm (cond c r q).outcome
  calm_either true r q h k = h
  calm_either false r q h k = k

  set_long : (t v : ℕ) (s : State) → Long temps s → Long temps (with_temp s t v)
  set_long t v s l = omega (arith, l, length-set s.temps t v)

  stored_long : (a : Array) (s : State) (xs : List ℕ) → Long temps s → Long temps (with_elements a s xs)
  stored_long (array.Global g) s xs l = l
  stored_long (array.Local n) s xs l = l
  stored_long (array.SureGlobal g n) s xs l = l
  stored_long (array.SureLocal n m) s xs l = l

  put_long : (r : Option ℕ) (v : ℕ) (s : State) → Long temps s → Long temps (put r v s)
  put_long None v s l = l
  put_long (Some t) v s l = set_long t v s l

  calm_end : (r : Option ℕ) (s : State) (e : End) → Long temps s → Calm (call_end r s e)
  calm_end None s (Returned v w) l = l
  calm_end None s (Trapped c w) l = tt
  calm_end None s (More w) l = tt
  calm_end None s Stuck l = tt
  calm_end (Some t) s (Returned (Some v) w) l = set_long t v (record s { world = w }) l
  calm_end (Some t) s (Returned None w) l = tt
  calm_end (Some t) s (Trapped c w) l = tt
  calm_end (Some t) s (More w) l = tt
  calm_end (Some t) s Stuck l = tt

  calm_call : (g : Goal) (depth live : ℕ) (r : Option ℕ) (args : List ℕ) (bound : Bound) (s : State) → Long temps s → Calm (call_to g depth live r args bound s).outcome
  calm_call Nowhere depth live r args bound s l = tt
  calm_call Null depth live r args bound s l = tt
  calm_call (At f) depth live r args bound s l =
      calm_either (ltb depth 512) (within bound (λ calls. made_call r s (calls f args depth live s.world)) s) (now (traps 4 s)) (by bound) tt
    where
      by : (bound : Bound) → Calm (within bound (λ calls. made_call r s (calls f args depth live s.world)) s).outcome
      by [] = tt
      by (calls ∷ below) = calm_end r s (calls f args depth live s.world).end l
  calm_call Inside depth live r args bound s l = calm_either (ltb depth 512) (within bound (λ calls. made_call r s nothing) s) (now (traps 4 s)) (by bound) tt
    where
      nothing : Call
      nothing = record { cost = 0; end = Returned None s.world }

      by : (bound : Bound) → Calm (within bound (λ calls. made_call r s nothing) s).outcome
      by [] = tt
      by (calls ∷ below) = calm_end r s nothing.end l

  module _ (setting : Setting) (frame : Frame) where
    abbrev val : Tree → State → ℕ
    val = of_tree setting frame

    abbrev CalmIf : Stm → Type 0
    CalmIf x = is_still x ≡ true → (bound : Bound) (s : State) → Long temps s → Calm (meaning setting frame x bound s).outcome

    calm_layer : (x : Stm-F Stm) → layer_is_still x ≡ true → (bound : Bound) (s : State) → Long temps s → Calm (layer_means setting frame x bound s).outcome
    calm_layer (stm.Set t v) e bound s l = set_long t (val v s) s l
    calm_layer (stm.SetGlobal g v) e bound s l = l
    calm_layer (stm.Divide t o a b) e bound s l =
        calm_cond (eqb (val b s) 0) (traps 1 s) (Next (with_temp s t (divide o (val a s) (val b s)))) tt (set_long t (divide o (val a s) (val b s)) s l)
    calm_layer (stm.Check a i) e bound s l = calm_cond (ltb (val i s) (length (elements a s))) (Next s) (Ends (outside a (val i s) s.world)) l tt
    calm_layer (stm.Read t a i) e bound s l =
        calm_cond (ltb (val i s) (length (elements a s))) (Next (with_temp s t (slice_index (elements a s) (val i s)))) (Ends (outside a (val i s) s.world))
        (set_long t (slice_index (elements a s) (val i s)) s l) tt
    calm_layer (stm.Write a i v) e bound s l =
        calm_cond (ltb (val i s) (length (elements a s))) (Next (with_elements a s (slice_set (elements a s) (val i s) (val v s)))) (Ends (outside a (val i s) s.world))
        (stored_long a s (slice_set (elements a s) (val i s) (val v s)) l) tt
    calm_layer (stm.Zero n) e bound s l = l
    calm_layer (stm.If t a b) e bound s l = from_falsity e
    calm_layer (stm.Loop b) e bound s l = from_falsity e
    calm_layer (stm.Block b) e bound s l = from_falsity e
    calm_layer (stm.Break n) e bound s l = from_falsity e
    calm_layer (stm.Back n) e bound s l = from_falsity e
    calm_layer (stm.Call r f args) e bound s l = calm_call (goal setting frame f s) frame.depth frame.live r (map (λ t. val t s) args) bound s l
    calm_layer (stm.Known r k args) e bound s l =
        let a = setting.known k (map (λ t. val t s) args) frame.live s.world in put_long r a.value (record s { world = a.world }) l
    calm_layer (stm.Return v) e bound s l = tt

    calm_rolled : (x : Stm-F Stm) → StmChildren CalmIf x → CalmIf (roll-Stm x)
    calm_rolled x h e bound s l =
        subst (λ (f : Meaning). Calm (f bound s).outcome) (sym (meaning_roll setting frame x)) (calm_layer x (sym (still_roll x) ∙ e) bound s l)

    calm : (x : Stm) → CalmIf x
    calm = stm_ind CalmIf calm_rolled

    as_via : (levels : List ℕ) (o : Outcome) → Calm o → o ≡ via levels o
    as_via levels (Next s) h = refl
    as_via levels (Leaves n s) h = absurd h
    as_via levels (Restarts n s) h = absurd h
    as_via levels (Ends e) h = refl

    as_long : (o : Outcome) → Calm o → AllLong temps o
    as_long (Next s) h = h
    as_long (Leaves n s) h = absurd h
    as_long (Restarts n s) h = absurd h
    as_long (Ends e) h = tt

    pub still_via : (levels : List ℕ) (x : Stm) → is_still x ≡ true → MeansVia temps levels (meaning setting frame x) (meaning setting frame x)
    still_via levels x e bound s l =
        let o = (meaning setting frame x bound s).outcome in
        let h = calm x e bound s l in
        record { same = as_via levels o h; cheaper = omega arith; long = as_long o h }
