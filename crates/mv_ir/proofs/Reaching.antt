-- Every statement reaches such ends as are told of programs, and goes on in worlds that it has reached.
use Rattle.std.proofs.Common.{ℕ, zero, suc, ◌≤◌, Bool, true, false, cond, eqb, ltb, List, [], ◌∷◌, length, map, Option, Some, None, refl, sym, ◌∙◌, subst, arith}
use Rattle.std.specs.Prelude.{slice_get, slice_index, slice_set}
use Rattle.mv_ast.specs.declared.program.Program.{Program}
use Rattle.mv_ir.specs.declared.stm.Array.{Array}
use Rattle.mv_ir.specs.declared.stm.Array.TheVariants as array
use Rattle.mv_ir.specs.declared.stm.Stm.{Stm}
use Rattle.mv_ir.specs.declared.stm.Stm.TheOpen.{Stm-F}
use Rattle.mv_ir.specs.declared.stm.Stm.TheOpen as stm
use Rattle.mv_ir.specs.declared.stm.Stm.TheFolds.{map-Stm}
use Rattle.mv_ir.specs.declared.body.Body.{Body}
use Rattle.mv_ir.specs.World.{World, Setting, Frame}
use Rattle.mv_ir.specs.Outcome.{State, End, Returned, Trapped, More, Stuck, Outcome, Next, Leaves, Restarts, Ends, Run, Call, Calls, Bound, Meaning, now, goes_on, in_order, block_end, turn_end, loop}
use Rattle.mv_ir.specs.KnownFunctions.{known_answer}
use Rattle.mv_ir.specs.Trees.{divide}
use Rattle.mv_ir.specs.Meaning.{elements, unless_promised, outside, with_temp, with_world, with_elements, traps, put, call_end, Goal, Nowhere, Null, At, Inside, made_call, within, call_to, goal, of_tree, statement, meaning, code_meaning, body_end, body_meaning}
use Rattle.mv_ir.specs.Levels.{Code, frame_of_call, called, levels, program_meaning}
use Rattle.mv_ir.specs.Programs.{setting_of}
use Rattle.mv_ir.proofs.Induction.{Each, StmChildren, stm_ind, stms_ind}
use Rattle.mv_ir.proofs.Keeping.{meaning_roll}
use Rattle.mv_ir.specs.Reached.{TakesInput, IsReached}
use Rattle.mv_ir.proofs.KnownEnds.{known_takes}

-- ---- what is reached from a world

abbrev Reaches : World → Outcome → Type 0
Reaches w (Next s) = TakesInput w s.world
Reaches w (Leaves n s) = TakesInput w s.world
Reaches w (Restarts n s) = TakesInput w s.world
Reaches w (Ends e) = IsReached w e

abbrev CallsReach : Calls → Type 0
CallsReach calls = (f : ℕ) (args : List ℕ) (depth live : ℕ) (w : World) → IsReached w (calls f args depth live w).end

abbrev BoundReaches : Bound → Type 0
BoundReaches [] = Unit {0}
BoundReaches (calls ∷ below) = CallsReach calls × BoundReaches below

abbrev MeaningReaches : Meaning → Type 0
MeaningReaches m = (bound : Bound) → BoundReaches bound → (s : State) → Reaches s.world (m bound s).outcome

end_later : (w v : World) (e : End) → TakesInput w v → IsReached v e → IsReached w e
end_later w v (Returned r u) t h = h ∙ t
end_later w v (Trapped code u) t h = (h.0, h.1, h.2 ∙ t)
end_later w v (More u) t h = h ∙ t
end_later w v Stuck t h = tt

later : (w v : World) (o : Outcome) → TakesInput w v → Reaches v o → Reaches w o
later w v (Next s) t h = h ∙ t
later w v (Leaves n s) t h = h ∙ t
later w v (Restarts n s) t h = h ∙ t
later w v (Ends e) t h = end_later w v e t h

choice : (w : World) (b : Bool) (x y : Outcome) → Reaches w x → Reaches w y → Reaches w (cond b x y)
choice w true x y h k = h
choice w false x y h k = k

run_choice : (w : World) (b : Bool) (x y : Run) → Reaches w x.outcome → Reaches w y.outcome → Reaches w (cond b x y).outcome
run_choice w true x y h k = h
run_choice w false x y h k = k

trap_reached : (c : ℕ) (s : State) → 1 ≤ c → c ≤ 4 → Reaches s.world (traps c s)
trap_reached c s ge le = (ge, le, refl)

-- ---- the parts of code

goes_reach : (w : World) (o : Outcome) (f : State → Run) → Reaches w o → ((s : State) → Reaches s.world (f s).outcome) → Reaches w (goes_on o f).outcome
goes_reach w (Next s) f h k = later w s.world (f s).outcome h (k s)
goes_reach w (Leaves n s) f h k = h
goes_reach w (Restarts n s) f h k = h
goes_reach w (Ends e) f h k = h

order_reaches : (ms : List Meaning) → Each MeaningReaches ms → MeaningReaches (in_order ms)
order_reaches [] h bound b s = refl
order_reaches (m ∷ ms) h bound b s = goes_reach s.world (m bound s).outcome (in_order ms bound) (h.0 bound b s) (λ t. order_reaches ms h.1 bound b t)

block_reaches : (w : World) (o : Outcome) → Reaches w o → Reaches w (block_end o)
block_reaches w (Next s) h = h
block_reaches w (Leaves zero s) h = h
block_reaches w (Leaves (suc n) s) h = h
block_reaches w (Restarts zero s) h = tt
block_reaches w (Restarts (suc n) s) h = h
block_reaches w (Ends e) h = h

turn_reaches : (w : World) (o : Outcome) (f : State → Run) → Reaches w o → ((s : State) → Reaches s.world (f s).outcome) → Reaches w (turn_end o f).outcome
turn_reaches w (Next s) f h k = later w s.world (f s).outcome h (k s)
turn_reaches w (Leaves zero s) f h k = h
turn_reaches w (Leaves (suc n) s) f h k = h
turn_reaches w (Restarts zero s) f h k = later w s.world (f s).outcome h (k s)
turn_reaches w (Restarts (suc n) s) f h k = h
turn_reaches w (Ends e) f h k = h

loop_reaches : (m : Meaning) → MeaningReaches m → (bound : Bound) → BoundReaches bound → (s : State) → Reaches s.world (loop m bound s).outcome
loop_reaches m h [] b s = turn_reaches s.world (m [] s).outcome (λ t. now (Ends (More t.world))) (h [] b s) (λ t. refl)
loop_reaches m h (calls ∷ below) b s =
    turn_reaches s.world (m (calls ∷ below) s).outcome (loop m below) (h (calls ∷ below) b s) (λ t. loop_reaches m h below b.1 t)

elements_kept : (a : Array) (s : State) (xs : List ℕ) → TakesInput s.world (with_elements a s xs).world
elements_kept (array.Global g) s xs = refl
elements_kept (array.Local l) s xs = refl
elements_kept (array.SureGlobal g n) s xs = refl
elements_kept (array.SureLocal l n) s xs = refl

promised_reached : (n k : ℕ) (s : State) → Reaches s.world (Ends (unless_promised n k s.world))
promised_reached n k s = by (ltb k n)
  where
    by : (b : Bool) → Reaches s.world (Ends (cond b (Trapped 2 s.world) Stuck))
    by true = trap_reached 2 s (omega arith) (omega arith)
    by false = tt

outside_reached : (a : Array) (k : ℕ) (s : State) → Reaches s.world (Ends (outside a k s.world))
outside_reached (array.Global g) k s = trap_reached 2 s (omega arith) (omega arith)
outside_reached (array.Local l) k s = trap_reached 2 s (omega arith) (omega arith)
outside_reached (array.SureGlobal g n) k s = promised_reached n k s
outside_reached (array.SureLocal l n) k s = promised_reached n k s

put_takes : (result : Option ℕ) (v : ℕ) (s : State) (w : World) → TakesInput s.world w → TakesInput s.world (put result v (with_world s w)).world
put_takes None v s w h = h
put_takes (Some t) v s w h = h

call_reached : (result : Option ℕ) (s : State) (e : End) → IsReached s.world e → Reaches s.world (call_end result s e)
call_reached None s (Returned v w) h = h
call_reached (Some t) s (Returned None w) h = tt
call_reached (Some t) s (Returned (Some v) w) h = h
call_reached None s (Trapped c w) h = h
call_reached (Some t) s (Trapped c w) h = h
call_reached None s (More w) h = h
call_reached (Some t) s (More w) h = h
call_reached None s Stuck h = tt
call_reached (Some t) s Stuck h = tt

within_reaches : (f : ℕ) (args : List ℕ) (depth live : ℕ) (result : Option ℕ) (bound : Bound) → BoundReaches bound → (s : State)
    → Reaches s.world (within bound (λ calls. made_call result s (calls f args depth live s.world)) s).outcome
within_reaches f args depth live result [] b s = refl
within_reaches f args depth live result (calls ∷ below) b s = call_reached result s (calls f args depth live s.world).end (b.0 f args depth live s.world)

goal_reaches : (g : Goal) (depth live : ℕ) (result : Option ℕ) (args : List ℕ) (bound : Bound) → BoundReaches bound → (s : State)
    → Reaches s.world (call_to g depth live result args bound s).outcome
goal_reaches Nowhere depth live result args bound b s = tt
goal_reaches Null depth live result args bound b s = trap_reached 3 s (omega arith) (omega arith)
goal_reaches Inside depth live result args bound b s =
    run_choice s.world (ltb depth 512) (within bound (λ calls. made_call result s nothing) s) (now (traps 4 s)) (inside bound) (trap_reached 4 s (omega arith) (omega arith))
  where
    nothing : Call
    nothing = record { cost = 0; end = Returned None s.world }

    inside : (bound : Bound) → Reaches s.world (within bound (λ calls. made_call result s nothing) s).outcome
    inside [] = refl
    inside (calls ∷ below) = call_reached result s (Returned None s.world) refl
goal_reaches (At f) depth live result args bound b s =
    run_choice s.world (ltb depth 512) (within bound (λ calls. made_call result s (calls f args depth live s.world)) s) (now (traps 4 s))
    (within_reaches f args depth live result bound b s) (trap_reached 4 s (omega arith) (omega arith))

module _ (p : Program) (numbers : List ℕ) where
  abbrev setting : Setting
  setting = setting_of numbers p

  -- ---- statements

  module _ (frame : Frame) where
    abbrev P : Stm → Type 0
    P s = MeaningReaches (meaning setting frame s)

    each_meaning : (code : List Stm) → Each P code → Each MeaningReaches (map (meaning setting frame) code)
    each_meaning [] h = tt
    each_meaning (s ∷ code) h = (h.0, each_meaning code h.1)

    layer : (x : Stm-F Stm) → StmChildren P x → MeaningReaches (statement setting frame (map-Stm Stm Meaning (meaning setting frame) x))
    layer (stm.Set t v) h bound b s = refl
    layer (stm.SetGlobal g v) h bound b s = refl
    layer (stm.Divide t o x y) h bound b s =
        let d = of_tree setting frame y s in
        choice s.world (eqb d 0) (traps 1 s) (Next (with_temp s t (divide o (of_tree setting frame x s) d))) (trap_reached 1 s (omega arith) (omega arith)) refl
    layer (stm.Check a i) h bound b s =
        choice s.world (ltb (of_tree setting frame i s) (length (elements a s))) (Next s) (Ends (outside a (of_tree setting frame i s) s.world)) refl (outside_reached a (of_tree setting frame i s) s)
    layer (stm.Read t a i) h bound b s =
        let k = of_tree setting frame i s in
        choice s.world (ltb k (length (elements a s))) (Next (with_temp s t (slice_index (elements a s) k))) (Ends (outside a k s.world)) refl (outside_reached a k s)
    layer (stm.Write a i v) h bound b s =
        let k = of_tree setting frame i s in
        let xs = slice_set (elements a s) k (of_tree setting frame v s) in
        choice s.world (ltb k (length (elements a s))) (Next (with_elements a s xs)) (Ends (outside a k s.world)) (elements_kept a s xs) (outside_reached a k s)
    layer (stm.Zero l) h bound b s = refl
    layer (stm.If t x y) h bound b s =
        run_choice s.world (eqb (of_tree setting frame t s) 0) (in_order (map (meaning setting frame) y) bound s) (in_order (map (meaning setting frame) x) bound s)
        (order_reaches (map (meaning setting frame) y) (each_meaning y h.1) bound b s) (order_reaches (map (meaning setting frame) x) (each_meaning x h.0) bound b s)
    layer (stm.Loop c) h bound b s = loop_reaches (in_order (map (meaning setting frame) c)) (order_reaches (map (meaning setting frame) c) (each_meaning c h)) bound b s
    layer (stm.Block c) h bound b s =
        block_reaches s.world (in_order (map (meaning setting frame) c) bound s).outcome (order_reaches (map (meaning setting frame) c) (each_meaning c h) bound b s)
    layer (stm.Break n) h bound b s = refl
    layer (stm.Back n) h bound b s = refl
    layer (stm.Call r f args) h bound b s = goal_reaches (goal setting frame f s) frame.depth frame.live r (map (λ t. of_tree setting frame t s) args) bound b s
    layer (stm.Known r k args) h bound b s =
        let vs = map (λ t. of_tree setting frame t s) args in
        let a = known_answer p numbers k vs frame.live s.world in put_takes r a.value s a.world (known_takes p numbers k vs frame.live s.world)
    layer (stm.Return v) h bound b s = refl

    code_reaches : (code : List Stm) → MeaningReaches (code_meaning setting frame code)
    code_reaches code =
        order_reaches (map (meaning setting frame) code)
        (each_meaning code (stms_ind P (stm_ind P (λ x h. subst MeaningReaches (sym (meaning_roll setting frame x)) (layer x h))) code))

  -- ---- functions and programs

  end_reached : (w : World) (o : Outcome) → Reaches w o → IsReached w (body_end o)
  end_reached w (Next s) h = h
  end_reached w (Leaves n s) h = h
  end_reached w (Restarts n s) h = h
  end_reached w (Ends e) h = h

  body_reaches : (frame : Frame) (body : Body) (args : List ℕ) (bound : Bound) (w : World) → BoundReaches bound → IsReached w (body_meaning setting frame body args bound w).end
  body_reaches frame body args bound w b = end_reached w _ (code_reaches frame body.code bound b _)

  called_reaches : (c : Option Code) (bound : Bound) → BoundReaches bound → (args : List ℕ) (depth live : ℕ) (w : World) → IsReached w (called setting c bound args depth live w).end
  called_reaches None bound b args depth live w = tt
  called_reaches (Some c) bound b args depth live w = body_reaches (frame_of_call c.attributed c.body.switches depth live w) c.body args bound w b

  levels_reach : (program : List Code) (k : ℕ) → BoundReaches (levels setting program k)
  levels_reach program zero = tt
  levels_reach program (suc k) =
      (λ f args depth live w. called_reaches (slice_get program f) (levels setting program k) (levels_reach program k) args depth live w, levels_reach program k)

  pub program_reaches : (program : List Code) (main : Code) (k : ℕ) (w : World) → IsReached w (program_meaning setting program main k w).end
  program_reaches program main k w =
      body_reaches (record { depth = 0; live = 0; bound = [] }) main.body [] (levels setting program k) w (levels_reach program k)
