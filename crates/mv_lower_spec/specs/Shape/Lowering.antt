-- What the lowering of a program promises.
use Rattle.std.specs.Prelude.{◌≡◌, ℕ, ◌≤◌, false, All, IsTrue, List, map, length, Some, slice_get}
use Rattle.mv_ast.specs.declared.program.Program.{Program}
use Rattle.mv_ast.specs.declared.program.Function.{Function}
use Rattle.mv_ast.specs.Actions.{act_fits}
use Rattle.mv_ast.specs.Switches.{attributed_before, switch_global}
use Rattle.mv_ast.specs.Worlds.{World}
use Rattle.mv_bindings.specs.Acts.{Act}
use Rattle.mv_meaning.specs.declared.state.Frame.{Frame}
use Rattle.mv_meaning.specs.Meaning.{call_of, context_at, hart_mean}
use Rattle.mv_meaning_numbering.specs.Numberings.{IsNumbering}
use Rattle.mv_ir.specs.declared.body.Body.{Body}
use Rattle.mv_ir.specs.declared.body.IrProgram.{IrProgram}
use Rattle.mv_ir.specs.Levels.{frame_of_call, levels}
use Rattle.mv_ir.specs.Live.{IsWhole}
use Rattle.mv_ir.specs.Meaning.{Contents, body_from}
use Rattle.mv_ir.specs.Measures.{deepest}
use Rattle.mv_ir.specs.Programs.{setting_of, place_if, code_of, ir_meaning}
use Rattle.mv_ir.specs.WellFormed as bodies
use Rattle.mv_ir.specs.KnownFunctions.{seen}
use Rattle.mv_lower_spec.specs.Functions.{lower_program}
use Rattle.mv_lower_spec.specs.Law.{strict_context}
use Rattle.mv_source_forms.specs.Names.{is_void}
use Rattle.mv_lower_spec.specs.Programs.Laws.{HasGlobals, IsCall, IsExecution, goes_astray}
use Rattle.mv_source_forms.specs.WellFormed.{IsWellFormed}
use Rattle.mv_lower_spec.specs.Shape.Law.{CallsAsOften, ReadsNoMore, IsSmall}

-- ---- functions

-- At each bound, under each numbering, in each world and whatever its frame holds when it begins, a body does what its function does, callees included,
-- where no call through a pointer goes astray, at a cost of at most 20 and 100 for one of work.
abbrev pub MeansFunction : (p : Program) (ir : IrProgram) (f : ℕ) (g : Function) (b : Body) → Type 0
MeansFunction p ir f g b =
    (numbers : List ℕ) (bound : ℕ) (contents : Contents) (vs : List ℕ) (frame : Frame) (w : World) → length vs ≡ g.params → HasGlobals p w →
    goes_astray (call_of p (strict_context p numbers bound) f (Some g) vs frame w) ≡ false →
    IsCall (is_void g.result)
    (body_from (setting_of numbers p) (frame_of_call (place_if g.attributed (attributed_before p.functions f)) b.switches w.depth w.live (seen w)) contents b vs
    (levels (setting_of numbers p) (code_of ir) bound) (seen w))
    (call_of p (context_at p numbers bound) f (Some g) vs frame w)

-- A function and its body. `means`: it does the same, at a bounded cost. `whole`: each temporary but a parameter is written before it is read. `calls`: there is one call
-- statement for each call. `reads`: no global is read but those that the function reads. `small`: its sizes are bounded by those of the source.
pub record IsLoweredFunction (p : Program) (ir : IrProgram) (f : ℕ) (g : Function) (b : Body) : Type 0 where
  pub means : MeansFunction p ir f g b
  pub params : b.params ≡ g.params
  pub switches : b.switches ≡ map (switch_global p) g.switches
  pub whole : IsWhole b
  pub well_formed : bodies.IsWellFormed b
  pub shallow : deepest b.code ≤ 4
  pub calls : CallsAsOften p g b
  pub reads : ReadsNoMore g b
  pub small : IsSmall g b

-- ---- programs

-- In each hart, under each numbering, on each input, with all actions that fit, at each bound, the code means what the program means, at a cost of at most 20 and 100 for one of work.
abbrev pub MeansProgram : Program → IrProgram → Type 0
MeansProgram p ir =
    (numbers : List ℕ) → IsNumbering p numbers → (hart : ℕ) (input : List ℕ) (actions : List Act) (bound : ℕ) → All (λ a. IsTrue (act_fits p hart a)) actions →
    IsExecution (hart_mean p hart input actions bound) (ir_meaning numbers ir hart input actions bound)

-- A program and its lowering, which has a body for each function, in their order.
pub record IsLowering (p : Program) (ir : IrProgram) : Type 0 where
  pub program : ir.program ≡ p
  pub means : MeansProgram p ir
  pub as_many : length ir.bodies ≡ length p.functions
  pub functions : (f : ℕ) (g : Function) (b : Body) → slice_get p.functions f ≡ Some g → slice_get ir.bodies f ≡ Some b → IsLoweredFunction p ir f g b

-- Well-formed programs are lowered so.
abbrev pub LoweringIsRight : Type 0
LoweringIsRight = (p : Program) → IsWellFormed p → IsLowering p (lower_program p)
