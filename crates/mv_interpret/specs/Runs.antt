-- How the interpreter's own values show the world of the meaning.
use Rattle.std.specs.Prelude.{◌≡◌, ℕ, ◌+◌, ◌^◌, ◌<◌, ◌≤◌, Bool, true, false, List, map, length, drop, Option, Result, Ok, Err}
use Rattle.mv_ast.specs.declared.program.Program.{Program}
use Rattle.mv_ast.specs.declared.program.Expr.{Expr}
use Rattle.mv_ast.specs.declared.program.Target.{Target}
use Rattle.mv_ast.specs.declared.program.Stmt.{Stmt}
use Rattle.mv_ast.specs.declared.program.Arm.{Arm}
use Rattle.mv_ast.specs.Worlds.{World, Outcome, Came, Stopped}
use Rattle.mv_bindings.specs.Acts.{act_of}
use Rattle.mv_ast.specs.Switches.{with_word}
use Rattle.mv_ast.specs.Counts.{patchable_places}
use Rattle.mv_meaning.specs.declared.state.Frame.{Frame}
use Rattle.mv_interpret.specs.declared.state.Here.{Here}
use Rattle.mv_interpret.specs.declared.state.State.{State}
use Rattle.mv_meaning.specs.declared.state.Lvalue.{Lvalue}
use Rattle.mv_meaning.specs.declared.state.Lvalue.TheVariants as lvalue
use Rattle.mv_interpret.specs.declared.state.Halt.{Halt}
use Rattle.mv_interpret.specs.declared.state.Halt.TheVariants as halt
use Rattle.mv_meaning.specs.declared.state.Flow.{Flow}
use Rattle.mv_meaning.specs.declared.state.Flow.TheVariants.{Goes, Breaks, Continues, Returns}
use Rattle.mv_bindings.specs.Traps as traps
use Rattle.mv_meaning.specs.Growth.{capped}
use Rattle.mv_meaning.specs.Loops.{own_context, while_from, do_from, for_from, arms_from}
use Rattle.mv_meaning.specs.Meaning.{value_of, callee_of, values_of_all, lvalue_of, optional_value, call_at, flow_of, flow_of_all, put_values}

-- what the evaluation of a program rests on: its functions and pointer switches have numbers of 32 bits, the counts of frames are in range, and the work
-- of a commit or a revert is the one that this program's plans have
pub record IsReady (p : Program) (depth live plan_work : ℕ) : Type 0 where
  pub functions : length p.functions + length p.pointers < 2 ^ 32
  pub deep : depth ≤ traps.depth_limit
  pub lively : live ≤ depth
  pub plans : plan_work ≡ capped (1 + patchable_places p)

-- the world that a state shows
abbrev pub world_of : Here → State → World
world_of here s = record {
  globals = s.globals;
  hart = 0;
  depth = here.depth;
  live = here.live;
  input = drop s.taken s.input;
  taken = s.taken;
  output = s.output;
  bindings = s.bindings;
  actions = map act_of (drop s.acted s.actions);
  log = s.log;
}

module _ {A : Type 0} where
  -- an outcome with the capped sum of the work before it and its own
  abbrev pub totalled : ℕ → Outcome Frame A → Outcome Frame A
  totalled before (Came value frame world work) = Came value frame world (capped (before + work))
  totalled before (Stopped stop world work) = Stopped stop world (capped (before + work))

  -- an outcome is what a result shows, with the frame and the state that are left; want of memory shows nothing
  abbrev pub Shows : Outcome Frame A → Here → Result A Halt → Frame → State → Type 0
  Shows outcome here (Ok value) frame s = outcome ≡ Came value frame (world_of here s) s.work
  Shows outcome here (Err (halt.Stopped stop)) frame s = outcome ≡ Stopped stop (world_of here s) s.work
  Shows outcome here (Err (halt.Memory e)) frame s = Unit {0}

-- An outcome, after some work that was done before, is what an evaluation came to.
pub record IsOutcome {A : Type 0} (before : ℕ) (outcome : Outcome Frame A) (here : Here) (r : Result A Halt) (frame : Frame) (s : State) : Type 0 where
  pub shown : Shows (totalled before outcome) here r frame s

-- the objects after a store in an lvalue
abbrev pub stored_globals : Lvalue → ℕ → List (List ℕ) → List (List ℕ)
stored_globals (lvalue.Global g i) v objects = with_word objects g i v
stored_globals (lvalue.Local l i) v objects = objects

abbrev pub stored_locals : Lvalue → ℕ → List (List ℕ) → List (List ℕ)
stored_locals (lvalue.Global g i) v objects = objects
stored_locals (lvalue.Local l i) v objects = with_word objects l i v

-- what the parts of a program come to here
module _ (p : Program) (here : Here) where
  abbrev pub expr_outcome : Expr → Frame → State → Outcome Frame ℕ
  expr_outcome e f s = value_of p (own_context p here.bound) e f (world_of here s)

  -- where it is what is called
  abbrev pub callee_outcome : Expr → Frame → State → Outcome Frame ℕ
  callee_outcome e f s = callee_of p (own_context p here.bound) e f (world_of here s)

  abbrev pub optional_outcome : ℕ → Option Expr → Frame → State → Outcome Frame ℕ
  optional_outcome v e f s = optional_value p (own_context p here.bound) v e f (world_of here s)

  abbrev pub exprs_outcome : List Expr → Frame → State → Outcome Frame (List ℕ)
  exprs_outcome es f s = values_of_all p (own_context p here.bound) es f (world_of here s)

  abbrev pub target_outcome : Target → Frame → State → Outcome Frame Lvalue
  target_outcome t f s = lvalue_of p (own_context p here.bound) t f (world_of here s)

  abbrev pub call_outcome : ℕ → List ℕ → Frame → State → Outcome Frame ℕ
  call_outcome g vs f s = call_at (own_context p here.bound) g vs f (world_of here s)

  abbrev pub stmt_outcome : Stmt → Frame → State → Outcome Frame Flow
  stmt_outcome t f s = flow_of p (own_context p here.bound) t f (world_of here s)

  abbrev pub stmts_outcome : List Stmt → Frame → State → Outcome Frame Flow
  stmts_outcome ts f s = flow_of_all p (own_context p here.bound) ts f (world_of here s)

  abbrev pub while_outcome : Expr → List Stmt → Frame → State → Outcome Frame Flow
  while_outcome e body f s = while_from p (own_context p here.bound) e body f (world_of here s)

  abbrev pub do_outcome : List Stmt → Expr → Frame → State → Outcome Frame Flow
  do_outcome body e f s = do_from p (own_context p here.bound) body e f (world_of here s)

  abbrev pub for_outcome : Option Expr → Option Expr → List Stmt → Frame → State → Outcome Frame Flow
  for_outcome test step body f s = for_from p (own_context p here.bound) test step body f (world_of here s)

  abbrev pub arms_outcome : List Arm → Frame → State → Outcome Frame Flow
  arms_outcome arms f s = arms_from p (own_context p here.bound) arms f (world_of here s)

  abbrev pub stores_outcome : ℕ → List Expr → Frame → State → Outcome Frame Flow
  stores_outcome l es f s = put_values l 0 (map (value_of p (own_context p here.bound)) es) f (world_of here s)

-- whether control goes back to the start of a loop, and else how it is left
abbrev pub goes_back : Flow → Bool
goes_back Goes = true
goes_back Breaks = false
goes_back Continues = true
goes_back (Returns v) = false

abbrev pub behind_loop : Flow → Flow
behind_loop Goes = Goes
behind_loop Breaks = Goes
behind_loop Continues = Goes
behind_loop (Returns v) = Returns v

-- how control leaves a `switch`
abbrev pub behind_switch : Flow → Flow
behind_switch Goes = Goes
behind_switch Breaks = Goes
behind_switch Continues = Continues
behind_switch (Returns v) = Returns v
