-- What main comes to, in code and on a run that has entered it.
use Rattle.std.specs.Prelude.{ℕ, ◌≡◌, ◌+◌, ◌≤◌, Bool, List, length, None}
use Rattle.mv_ast.specs.declared.program.Program.{Program}
use Rattle.mv_image.specs.Spelling.{Fields}
use Rattle.mv_ir.specs.World.{World}
use Rattle.mv_ir.specs.Outcome.{Call, Returned}
use Rattle.mv_ir.specs.Programs.{execution_of}
use Rattle.mv_ir.specs.Reached.{IsReached}
use Rattle.mv_lower_spec.specs.Programs.Laws.{IsExecution}
use Rattle.mv_machine.specs.Acts.{PollActs}
use Rattle.mv_machine.specs.Runs.{bytes_to_come}
use Rattle.mv_meaning.specs.Meaning.{hart_mean}
use Rattle.mv_select_code.specs.Control.Placed.{Placed}
use Rattle.mv_select.specs.Calls.Convention.{Layout, FollowsCall}
use Rattle.mv_refine_machine.specs.MachineRuns.{machine_text}
use Rattle.mv_refine_machine.specs.Stubs.Stubs.{start_address, return_address, start_steps, start_lines, trap_lines}
use Rattle.mv_refine_machine.specs.Commits.Watched.{access, watched_machine}

-- The stubs stand in the text of an image, those of traps where the layout has them.
pub record HasStubs (attributed : List ℕ) (image : Fields) (y : Layout) : Type 0 where
  pub place : ℕ → ℕ
  pub entry : ℕ → ℕ
  pub main_label : ℕ
  pub start_ends : ℕ
  pub start : Placed (machine_text attributed image) place entry (start_lines main_label) start_address start_ends
  pub trap_ends : ℕ → ℕ
  pub traps : (code : ℕ) → 1 ≤ code → code ≤ 4 → Placed (machine_text attributed image) place entry (trap_lines code) (y.trap code) (trap_ends code)

-- of what a call of main costs, what is left at its first word
abbrev pub main_cost : ℕ
main_cost = 44

module _ (attributed : List ℕ) (closed : (pc address : ℕ) → Bool) (p : Program) (image : Fields) (bytes : List ℕ) (polls : PollActs) (picks : List ℕ) (y : Layout) (first : World) where
  -- At a bound, with so much paid and asked for, a call of main comes to what the program means in the hart with the acts, and it returns a value where it returns;
  -- and after the seven instructions of the start stub, the run, also while commits are made, does what that call does.
  pub record CallsMain (budget far k : ℕ) : Type 0 where
    pub call : Call
    pub means : IsExecution (hart_mean p polls.hart bytes polls.acts k) (execution_of first call.cost call.end)
    pub reached : IsReached first call.end
    pub returns : (w : World) → call.end ≡ Returned None w → ⊥
    pub follows : (spare : ℕ) → start_steps + (spare + main_cost + call.cost) ≤ budget → far ≤ start_steps + k →
        FollowsCall access y (watched_machine attributed closed image (bytes_to_come bytes) polls picks) budget far spare k start_steps return_address call.end

-- The run calls main at every bound, whatever is paid and asked for, from a world that has the input.
pub record RunsMain (attributed : List ℕ) (closed : (pc address : ℕ) → Bool) (p : Program) (image : Fields) (bytes : List ℕ) (polls : PollActs) (picks : List ℕ) (y : Layout) : Type 0 where
  pub first : World
  pub input : first.taken + length first.input ≡ length bytes
  pub calls : (budget far k : ℕ) → CallsMain attributed closed p image bytes polls picks y first budget far k
