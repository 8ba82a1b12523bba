-- What a whole program in intermediate code means.
use Rattle.std.specs.Prelude.{ℕ, suc, ◌%◌, Bool, true, false, List, [], ◌∷◌, Option, Some, None, slice_get}
use Rattle.mv_ast.specs.declared.program.Program.{Program}
use Rattle.mv_ast.specs.declared.program.Function.{Function}
use Rattle.mv_bindings.specs.declared.binding.Binding.{Binding}
use Rattle.mv_bindings.specs.declared.binding.Event.{Event}
use Rattle.mv_ast.specs.Starts.{first_world_under}
use Rattle.mv_bindings.specs.Acts.{Act}
use Rattle.mv_ir.specs.declared.body.Body.{Body}
use Rattle.mv_ir.specs.declared.body.IrProgram.{IrProgram}
use Rattle.mv_ir.specs.World.{World, Setting}
use Rattle.mv_ir.specs.KnownFunctions.{seen, switched_number, known_answer}
use Rattle.mv_ir.specs.Outcome as outcome
use Rattle.mv_ir.specs.Outcome.{End, Call}
use Rattle.mv_ir.specs.Levels.{Code, program_meaning}

-- ---- the functions of a program

-- under this numbering of its functions
abbrev pub setting_of : List ℕ → Program → Setting
setting_of numbers p = record { numbers = numbers; switched = switched_number p numbers; known = known_answer p numbers }

-- the place of a function among the attributed ones, where so many of them stand before it
abbrev pub place_if : Bool → ℕ → Option ℕ
place_if true before = Some before
place_if false before = None

abbrev pub next_place : Bool → ℕ → ℕ
next_place true before = suc before
next_place false before = before

-- each function's body beside its place among the attributed ones
abbrev pub code_from : ℕ → List Function → List Body → List Code
code_from before [] bodies = []
code_from before (f ∷ fs) [] = []
code_from before (f ∷ fs) (b ∷ bodies) =
    record { body = b; attributed = place_if f.attributed before } ∷ code_from (next_place f.attributed before) fs bodies

abbrev pub code_of : IrProgram → List Code
code_of ir = code_from 0 ir.program.functions ir.bodies

-- ---- what a program does

-- how a program ends; code that calls what is no function has no meaning
pub data Ending : Type 0 where
  Exited : ℕ → Ending
  Trapped : ℕ → Ending
  Unfinished : Ending
  Meaningless : Ending

-- what a program comes to: its output, the bytes that it has taken, its end, the bindings at the end, each change of
-- a binding, and the cost
pub record Execution : Type 0 where
  pub output : List ℕ
  pub taken : ℕ
  pub ending : Ending
  pub bindings : List Binding
  pub log : List Event
  pub cost : ℕ

abbrev pub executed : Ending → ℕ → World → Execution
executed ending cost w = record {
  output = w.output;
  taken = w.taken;
  ending = ending;
  bindings = w.bindings;
  log = w.log;
  cost = cost;
}

-- the exit status is the value of the main function modulo 256, and 0 where the end of its code is reached
abbrev pub exited : Option ℕ → Ending
exited None = Exited 0
exited (Some v) = Exited (v % 256)

-- of a call of the main function, from this world
abbrev pub execution_of : World → ℕ → End → Execution
execution_of first cost (outcome.Returned v w) = executed (exited v) cost w
execution_of first cost (outcome.Trapped c w) = executed (Trapped c) cost w
execution_of first cost (outcome.More w) = executed Unfinished cost w
execution_of first cost outcome.Stuck = executed Meaningless cost first

abbrev pub call_of_main : Setting → List Code → Option Code → ℕ → World → Call
call_of_main setting codes None bound w = record { cost = 0; end = outcome.Stuck }
call_of_main setting codes (Some main) bound w = program_meaning setting codes main bound w

-- the first world of a hart as the code sees it
abbrev pub start : List ℕ → IrProgram → (hart : ℕ) → List ℕ → List Act → World
start numbers ir hart input actions = seen (first_world_under ir.program numbers hart input actions)

abbrev pub run_of_main : List ℕ → IrProgram → (hart : ℕ) → List ℕ → List Act → ℕ → Call
run_of_main numbers ir hart input actions bound =
    call_of_main (setting_of numbers ir.program) (code_of ir) (slice_get (code_of ir) ir.program.main) bound (start numbers ir hart input actions)

-- The meaning of a program in a hart under a numbering and at a bound, on an input and with what its polls take.
abbrev pub ir_meaning : (numbers : List ℕ) → IrProgram → (hart : ℕ) → (input : List ℕ) → (actions : List Act) → (bound : ℕ) → Execution
ir_meaning numbers ir hart input actions bound =
    let c = run_of_main numbers ir hart input actions bound in execution_of (start numbers ir hart input actions) c.cost c.end
