-- What statements and bodies mean, at a bound, and what they cost.
use Rattle.std.specs.Prelude.{ℕ, zero, suc, ◌+◌, ◌-◌, ◌*◌, cond, eqb, ltb, List, [], ◌∷◌, ◌++◌, length, map, Option, Some, None, slice_index, slice_set, slice_index_or}
use Rattle.mv_ir.specs.declared.tree.Tree.{Tree}
use Rattle.mv_ir.specs.declared.stm.Array.{Array}
use Rattle.mv_ir.specs.declared.stm.Array.TheVariants as array
use Rattle.mv_ir.specs.declared.stm.Callee.{Callee}
use Rattle.mv_ir.specs.declared.stm.Callee.TheVariants as callee
use Rattle.mv_ir.specs.declared.stm.Stm.{Stm}
use Rattle.mv_ir.specs.declared.stm.Stm.TheOpen.{Stm-F}
use Rattle.mv_ir.specs.declared.stm.Stm.TheOpen as stm
use Rattle.mv_ir.specs.declared.stm.Stm.TheFolds.{fold-Stm}
use Rattle.mv_ir.specs.declared.body.Body.{Body}
use Rattle.mv_bindings.specs.Traps as trap
use Rattle.mv_ir.specs.World.{World, Answer, Setting, Frame}
use Rattle.mv_ir.specs.Trees.{value, nodes, nodes_of_all, divide}
use Rattle.mv_ir.specs.Outcome.{State, End, Returned, Trapped, More, Stuck, Outcome, Next, Leaves, Restarts, Ends, Run, Call, Calls, Bound, Meaning, spend, now, in_order, block, loop}

-- ---- arrays

abbrev pub elements : Array → State → List ℕ
elements (array.Global g) s = slice_index_or s.world.globals g []
elements (array.Local l) s = slice_index_or s.arrays l []
elements (array.SureGlobal g n) s = slice_index_or s.world.globals g []
elements (array.SureLocal l n) s = slice_index_or s.arrays l []

abbrev pub with_temp : State → ℕ → ℕ → State
with_temp s t v = record s { temps = slice_set s.temps t v }

abbrev pub with_world : State → World → State
with_world s w = record s { world = w }

abbrev pub with_global : World → ℕ → List ℕ → World
with_global w g xs = record w { globals = slice_set w.globals g xs }

abbrev pub with_elements : Array → State → List ℕ → State
with_elements (array.Global g) s xs = with_world s (with_global s.world g xs)
with_elements (array.Local l) s xs = record s { arrays = slice_set s.arrays l xs }
with_elements (array.SureGlobal g n) s xs = with_world s (with_global s.world g xs)
with_elements (array.SureLocal l n) s xs = record s { arrays = slice_set s.arrays l xs }

-- the array without what is promised of its indices
abbrev pub unpromised : Array → Array
unpromised (array.Global g) = array.Global g
unpromised (array.Local l) = array.Local l
unpromised (array.SureGlobal g n) = array.Global g
unpromised (array.SureLocal l n) = array.Local l

abbrev pub traps : ℕ → State → Outcome
traps c s = Ends (Trapped c s.world)

-- how code ends with an index that isn't below the length: with a trap, but for one that isn't below a number either that it is promised to be below
abbrev pub unless_promised : ℕ → ℕ → World → End
unless_promised n k w = cond (ltb k n) (Trapped trap.index_outside w) Stuck

abbrev pub outside : Array → ℕ → World → End
outside (array.Global g) k w = Trapped trap.index_outside w
outside (array.Local l) k w = Trapped trap.index_outside w
outside (array.SureGlobal g n) k w = unless_promised n k w
outside (array.SureLocal l n) k w = unless_promised n k w

-- ---- results

-- the value of a call or of a known function, put into a temporary where one is named
abbrev pub put : Option ℕ → ℕ → State → State
put None v s = s
put (Some t) v s = with_temp s t v

-- what follows a call
abbrev pub call_end : Option ℕ → State → End → Outcome
call_end None s (Returned v w) = Next (with_world s w)
call_end (Some t) s (Returned (Some v) w) = Next (with_temp (with_world s w) t v)
call_end (Some t) s (Returned None w) = Ends Stuck
call_end result s (Trapped c w) = Ends (Trapped c w)
call_end result s (More w) = Ends (More w)
call_end result s Stuck = Ends Stuck

-- ---- calls

-- Where a call goes. Through a number: nowhere for null, else to the function that has the number, where one has it. An expanded one stays inside the function.
pub data Goal : Type 0 where
  Nowhere : Goal
  Null : Goal
  At : ℕ → Goal
  Inside : Goal

-- the place of a number in a list, counted on from another place
abbrev pub place : List ℕ → ℕ → ℕ → Option ℕ
place [] v at = None
place (n ∷ ns) v at = cond (eqb n v) (Some at) (place ns v (suc at))

abbrev pub goal_at : Option ℕ → Goal
goal_at None = Nowhere
goal_at (Some f) = At f

abbrev pub goal_of : List ℕ → ℕ → Goal
goal_of numbers v = cond (eqb v 0) Null (goal_at (place numbers v 0))

abbrev pub made_call : Option ℕ → State → Call → Run
made_call result s c = record { cost = c.cost; outcome = call_end result s c.end }

abbrev pub within : Bound → (Calls → Run) → State → Run
within [] f s = now (Ends (More s.world))
within (calls ∷ below) f s = f calls

abbrev pub call_to : Goal → ℕ → ℕ → Option ℕ → List ℕ → Meaning
call_to Nowhere depth live result args bound s = now (Ends Stuck)
call_to Null depth live result args bound s = now (traps trap.null_call s)
call_to (At f) depth live result args bound s =
    cond (ltb depth trap.depth_limit) (within bound (λ calls. made_call result s (calls f args depth live s.world)) s) (now (traps trap.call_too_deep s))
call_to Inside depth live result args bound s =
    cond (ltb depth trap.depth_limit) (within bound (λ calls. made_call result s (record { cost = 0; end = Returned None s.world })) s) (now (traps trap.call_too_deep s))

-- 60 for a call, and 8 for what is left of one that is expanded
abbrev pub call_cost : Callee → ℕ
call_cost (callee.Direct f) = 60
call_cost (callee.Through t) = 60
call_cost (callee.Switched g) = 60
call_cost callee.Expanded = 8

-- ---- statements

module _ (setting : Setting) (frame : Frame) where
  abbrev pub of_tree : Tree → State → ℕ
  of_tree t s = value setting.numbers frame.bound t s.temps s.world.globals

  abbrev pub goal : Callee → State → Goal
  goal (callee.Direct f) s = At f
  goal (callee.Through t) s = goal_of setting.numbers (of_tree t s)
  goal (callee.Switched g) s = goal_of setting.numbers (setting.switched g s.world)
  goal callee.Expanded s = Inside

  abbrev pub callee_nodes : Callee → ℕ
  callee_nodes (callee.Direct f) = 0
  callee_nodes (callee.Through t) = nodes t
  callee_nodes (callee.Switched g) = 0
  callee_nodes callee.Expanded = 0

  abbrev pub known_end : Option ℕ → State → Answer → Run
  known_end result s a = record { cost = a.cost; outcome = Next (put result a.value (with_world s a.world)) }

  -- 8 for the statement, 3 for each node of its trees
  abbrev pub step : ℕ → Outcome → Run
  step n o = record { cost = 8 + 3 * n; outcome = o }

  abbrev pub statement : Stm-F Meaning → Meaning
  statement (stm.Set t v) bound s = step (nodes v) (Next (with_temp s t (of_tree v s)))
  statement (stm.SetGlobal g v) bound s =
      step (nodes v) (Next (with_world s (with_global s.world g (slice_set (slice_index_or s.world.globals g []) 0 (of_tree v s)))))
  statement (stm.Divide t o a b) bound s =
      let d = of_tree b s in
      step (nodes a + nodes b) (cond (eqb d 0) (traps trap.division_by_zero s) (Next (with_temp s t (divide o (of_tree a s) d))))
  statement (stm.Check a i) bound s = step (nodes i) (cond (ltb (of_tree i s) (length (elements a s))) (Next s) (Ends (outside a (of_tree i s) s.world)))
  statement (stm.Read t a i) bound s =
      let k = of_tree i s in
      let xs = elements a s in
      step (nodes i) (cond (ltb k (length xs)) (Next (with_temp s t (slice_index xs k))) (Ends (outside a k s.world)))
  statement (stm.Write a i v) bound s =
      let k = of_tree i s in
      let xs = elements a s in
      step (nodes i + nodes v) (cond (ltb k (length xs)) (Next (with_elements a s (slice_set xs k (of_tree v s)))) (Ends (outside a k s.world)))
  statement (stm.Zero l) bound s =
      let xs = slice_index_or s.arrays l [] in
      record { cost = 8 + 8 * length xs; outcome = Next (with_elements (array.Local l) s (map (λ x. 0) xs)) }
  statement (stm.If t a b) bound s = spend (8 + 3 * nodes t) (cond (eqb (of_tree t s) 0) (in_order b bound s) (in_order a bound s))
  statement (stm.Loop b) bound s = loop (in_order b) bound s
  statement (stm.Block b) bound s = block (in_order b) bound s
  statement (stm.Break n) bound s = step 0 (Leaves n s)
  statement (stm.Back n) bound s = step 0 (Restarts n s)
  statement (stm.Call result f args) bound s =
      spend (call_cost f + 3 * (callee_nodes f + nodes_of_all args)) (call_to (goal f s) frame.depth frame.live result (map (λ t. of_tree t s) args) bound s)
  statement (stm.Known result k args) bound s =
      spend (30 + 3 * nodes_of_all args) (known_end result s (setting.known k (map (λ t. of_tree t s) args) frame.live s.world))
  statement (stm.Return v) bound s = step (nodes v) (Ends (Returned (Some (of_tree v s)) s.world))

  -- what a statement does
  unfoldable pub meaning : Stm → Meaning
  meaning = fold-Stm Meaning statement

  -- what the statements of a list do, in order
  abbrev pub code_meaning : List Stm → Meaning
  code_meaning code = in_order (map meaning code)

-- ---- bodies

-- what a frame holds when it begins: the temporaries behind its arguments, and the elements of its arrays
pub record Contents : Type 0 where
  pub temps : ℕ → ℕ
  pub arrays : ℕ → ℕ → ℕ

-- the first so many items of a sequence
abbrev pub first_items : ℕ → (ℕ → ℕ) → List ℕ
first_items zero f = []
first_items (suc n) f = f 0 ∷ first_items n (λ i. f (suc i))

-- the arguments, and then what is there up to the number of temporaries
abbrev pub first_temps : (ℕ → ℕ) → ℕ → List ℕ → List ℕ
first_temps f n args = args ++ first_items (n - length args) f

abbrev pub first_arrays : (ℕ → ℕ → ℕ) → List ℕ → List (List ℕ)
first_arrays f [] = []
first_arrays f (size ∷ sizes) = first_items size (f 0) ∷ first_arrays (λ l. f (suc l)) sizes

abbrev pub entry_state : Contents → Body → List ℕ → World → State
entry_state contents body args w =
    record { temps = first_temps contents.temps body.temps args; arrays = first_arrays contents.arrays body.arrays; world = w }

-- what a body's end gives: the end of its code returns no value
abbrev pub body_end : Outcome → End
body_end (Next s) = Returned None s.world
body_end (Leaves n s) = Returned None s.world
body_end (Restarts n s) = Returned None s.world
body_end (Ends e) = e

-- a call whose body runs so
abbrev pub call_from : Run → Call
call_from r = record { cost = r.cost; end = body_end r.outcome }

-- what a body does of its arguments, in a frame with these contents, at a bound
abbrev pub body_from : Setting → Frame → Contents → Body → List ℕ → Bound → World → Call
body_from setting frame contents body args bound w = call_from (code_meaning setting frame body.code bound (entry_state contents body args w))

abbrev pub cleared : Contents
cleared = record { temps = λ i. 0; arrays = λ l i. 0 }

-- what a body does where its frame holds zeros: the one meaning of it as a callee
abbrev pub body_meaning : Setting → Frame → Body → List ℕ → Bound → World → Call
body_meaning setting frame = body_from setting frame cleared
