-- What is proved of lowered functions and programs.
use Rattle.std.specs.Prelude.{◌≡◌, ℕ, ◌+◌, ◌*◌, ◌≤◌, false, All, IsTrue, List, [], length, Some, slice_get, slice_index_or, Bool}
use Rattle.mv_ast.specs.declared.program.Program.{Program}
use Rattle.mv_ast.specs.declared.program.Function.{Function}
use Rattle.mv_ast.specs.Actions.{act_fits}
use Rattle.mv_ast.specs.Switches.{attributed_before}
use Rattle.mv_ast.specs.Worlds.{World, Outcome, Came, Stopped}
use Rattle.mv_ast.specs.Counts.{instructions_per_work}
use Rattle.mv_bindings.specs.Acts.{Act}
use Rattle.mv_meaning.specs.declared.state.Frame.{Frame}
use Rattle.mv_meaning.specs.declared.meant.Meant.{Meant}
use Rattle.mv_meaning.specs.declared.meant.End.{End}
use Rattle.mv_meaning.specs.declared.meant.End.TheVariants.{Exit, Trap, More}
use Rattle.mv_meaning.specs.Meaning.{call_of, context_at, hart_mean}
use Rattle.mv_meaning_numbering.specs.Numberings.{IsNumbering}
use Rattle.mv_ir.specs.World as code_world
use Rattle.mv_ir.specs.Outcome.{Returned, Call}
use Rattle.mv_ir.specs.Meaning.{Contents, body_from}
use Rattle.mv_ir.specs.Levels.{frame_of_call, levels}
use Rattle.mv_ir.specs.Programs.{Ending, Exited, Trapped, Unfinished, Execution, setting_of, place_if, code_of, ir_meaning}
use Rattle.mv_ir.specs.KnownFunctions.{seen}
use Rattle.mv_source_forms.specs.Names.{is_void, global_words}
use Rattle.mv_lower_spec.specs.Correct.{end_of, is_astray}
use Rattle.mv_lower_spec.specs.Law.{strict_context}
use Rattle.mv_lower_spec.specs.Functions.{lower_function, lower_program}
use Rattle.mv_lower_spec.specs.Lowered.{unless_void}
use Rattle.mv_source_forms.specs.WellFormed.{IsWellFormed}

-- ---- functions

-- a world whose globals have the words that they are declared with
abbrev pub HasGlobals : Program → World → Type 0
HasGlobals p w = (x : ℕ) → length (slice_index_or w.globals x []) ≡ global_words p x

-- A call in the code is one in the source: it returns the same value, or none where the function is void, or stops in the same way, with the same world,
-- at a cost of at most 20 and 100 for one of work.
abbrev pub IsCall : Bool → Call → Outcome Frame ℕ → Type 0
IsCall void c (Came v frame w work) = (c.end ≡ Returned (unless_void void v) (seen w)) × (c.cost ≤ 20 + instructions_per_work * work)
IsCall void c (Stopped why w work) = (c.end ≡ end_of why (seen w)) × (c.cost ≤ 20 + instructions_per_work * work)

-- whether an evaluation comes to a call through a pointer that reaches no function that fits
abbrev pub goes_astray : Outcome Frame ℕ → Bool
goes_astray (Came v frame w work) = false
goes_astray (Stopped why w work) = is_astray why

-- in a frame of a function that is called in a world
abbrev pub callee_frame : Program → ℕ → Function → World → code_world.Frame
callee_frame p f g w = frame_of_call (place_if g.attributed (attributed_before p.functions f)) (lower_function p g).switches w.depth w.live (seen w)

-- At each bound, under each numbering, in each world and whatever its frame holds when it begins, a lowered function of a well-formed program does what
-- the source's does, callees included, where no call through a pointer goes astray.
abbrev pub FunctionsAreRight : Type 0
FunctionsAreRight =
    (p : Program) (numbers : List ℕ) (bound f : ℕ) (g : Function) → IsWellFormed p → slice_get p.functions f ≡ Some g →
    (contents : Contents) (vs : List ℕ) (frame : Frame) (w : World) → length vs ≡ g.params → HasGlobals p w →
    goes_astray (call_of p (strict_context p numbers bound) f (Some g) vs frame w) ≡ false →
    IsCall (is_void g.result)
    (body_from (setting_of numbers p) (callee_frame p f g w) contents (lower_function p g) vs (levels (setting_of numbers p) (code_of (lower_program p)) bound) (seen w))
    (call_of p (context_at p numbers bound) f (Some g) vs frame w)

-- ---- programs

abbrev pub ending_of : End → Ending
ending_of (Exit status) = Exited status
ending_of (Trap code) = Trapped code
ending_of More = Unfinished

-- what a program comes to in the code is what the source means, at a cost of at most 20 and 100 for one of work
pub record IsExecution (m : Meant) (e : Execution) : Type 0 where
  pub output : e.output ≡ m.output
  pub taken : e.taken ≡ m.taken
  pub ending : e.ending ≡ ending_of m.«end»
  pub bindings : e.bindings ≡ m.bindings
  pub log : e.log ≡ m.log
  pub paid : e.cost ≤ 20 + instructions_per_work * m.work

-- The lowering of a well-formed program means what the program means: in each hart, under each numbering, on each input, with all actions
-- that fit, at each bound.
abbrev pub ProgramsAreRight : Type 0
ProgramsAreRight =
    (p : Program) (numbers : List ℕ) → IsWellFormed p → IsNumbering p numbers → (hart : ℕ) (input : List ℕ) (actions : List Act) (bound : ℕ) → All (λ a. IsTrue (act_fits p hart a)) actions →
    IsExecution (hart_mean p hart input actions bound) (ir_meaning numbers (lower_program p) hart input actions bound)
