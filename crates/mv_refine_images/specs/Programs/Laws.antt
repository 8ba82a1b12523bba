-- What is proved of all functions of a program at once.
use Rattle.std.specs.Prelude.{ℕ, ◌≡◌, ◌+◌, ◌≤◌, Bool, All, IsTrue, List, Option, None}
use Rattle.mv_ast.specs.declared.program.Program.{Program}
use Rattle.mv_bindings.specs.declared.binding.Binding.{Binding}
use Rattle.mv_ast.specs.Actions.{act_fits}
use Rattle.mv_ast.specs.Starts.{first_world_under}
use Rattle.mv_bindings.specs.Acts.{Act}
use Rattle.mv_meaning.specs.Meaning.{hart_mean}
use Rattle.mv_meaning_numbering.specs.Numberings.{IsNumbering}
use Rattle.mv_isa.specs.Execution.{Access, reg}
use Rattle.mv_isa.specs.Registers.{ra}
use Rattle.mv_ir.specs.Programs.{setting_of}
use Rattle.mv_ir.specs.Outcome.{Call, Returned}
use Rattle.mv_ir.specs.Programs.{execution_of, run_of_main}
use Rattle.mv_ir.specs.World.{World}
use Rattle.mv_ir.specs.KnownFunctions.{seen}
use Rattle.mv_ir_worlds.specs.Fit.{is_fit}
use Rattle.mv_lower_spec.specs.Functions.{lower_program}
use Rattle.mv_lower_spec.specs.Programs.Laws.{IsExecution}
use Rattle.mv_select_code.specs.Control.Runs.{Machine}
use Rattle.mv_select.specs.Calls.Convention.{Layout, IsTarget, Stands, FollowsCall, Conventions}
use Rattle.mv_select.specs.Functions.Functions.{Begins}
use Rattle.mv_select.specs.Slots.Narrowed.{narrowed}
use Rattle.mv_lower_spec.specs.Calls.SourceCalls.{source_levels}
use Rattle.mv_refine_images.specs.Programs.Hosts.{IsLoaded, IsOpenlyLoaded}

-- Where a well-formed program is loaded all its functions keep the calling convention, at every bound: called at its entry or at a slot, each does what
-- it does in the source.
abbrev pub FunctionsKeepConvention : Type 0 → Type 0
FunctionsKeepConvention M =
    (access : Access M) (y : Layout) (machine : Machine M) (words : List Binding → ℕ → Option ℕ) (closed : (pc address : ℕ) → Bool) (budget far : ℕ)
    (p : Program) (numbers : List ℕ) → IsLoaded access y machine words closed budget far p numbers →
    (bound : ℕ) → Conventions access y machine budget far (setting_of numbers p) (source_levels p numbers bound)

-- the first world of a program in a hart, as code sees it
abbrev pub first_seen : Program → (numbers : List ℕ) → (hart : ℕ) → (input : List ℕ) → List Act → World
first_seen p numbers hart input actions = seen (first_world_under p numbers hart input actions)

-- From time i the main function does at a bound what some call means, in 44 instructions more than that costs: a call that comes to what the program means,
-- and ends as the lowered program does; and where it returns, it returns a value.
abbrev pub MainDoes : {M : Type 0} → Access M → Layout → Machine M → (budget far : ℕ) → Program → (numbers : List ℕ) → (hart : ℕ) → (input : List ℕ) → List Act → (back i bound : ℕ) → Type 0
MainDoes access y machine budget far p numbers hart input actions back i bound =
    (c : Call)
    × IsExecution (hart_mean p hart input actions bound) (execution_of (first_seen p numbers hart input actions) c.cost c.end)
    × (c.end ≡ (run_of_main numbers (lower_program p) hart input actions bound).end)
    × ((w : World) → c.end ≡ Returned None w → ⊥)
    × ((spare : ℕ) → i + (spare + 44 + c.cost) ≤ budget → far ≤ i + bound → FollowsCall access y machine budget far spare bound i back c.end)

-- And its main function does so, begun in the first world, at every bound.
abbrev pub MainFollows : Type 0 → Type 0
MainFollows M =
    (access : Access M) (y : Layout) (machine : Machine M) (words : List Binding → ℕ → Option ℕ) (closed : (pc address : ℕ) → Bool) (budget far : ℕ)
    (p : Program) (numbers : List ℕ) → IsLoaded access y machine words closed budget far p numbers →
    IsNumbering p numbers → (hart : ℕ) (input : List ℕ) (actions : List Act) → All (λ a. IsTrue (act_fits p hart a)) actions →
    (back i : ℕ) → IsTarget back → reg (machine.run i).regs ra ≡ back → Begins access y machine i →
    Stands access y machine budget far (y.entry p.main) (first_seen p numbers hart input actions) i → (bound : ℕ) → MainDoes access y machine budget far p numbers hart input actions back i bound

-- A machine of which nothing is known of the worlds in which it is calm is a host where these are fit.
abbrev pub HostsAreNarrowed : Type 0 → Type 0
HostsAreNarrowed M =
    (access : Access M) (y : Layout) (machine : Machine M) (words : List Binding → ℕ → Option ℕ) (closed : (pc address : ℕ) → Bool) (budget far : ℕ) (p : Program) (numbers : List ℕ) →
    IsOpenlyLoaded access y machine words closed budget far p numbers → IsLoaded access y (narrowed machine (is_fit p) machine.text) words closed budget far p numbers

-- So there too the main function does what the program means.
abbrev pub MainFollowsOpenly : Type 0 → Type 0
MainFollowsOpenly M =
    (access : Access M) (y : Layout) (machine : Machine M) (words : List Binding → ℕ → Option ℕ) (closed : (pc address : ℕ) → Bool) (budget far : ℕ) (p : Program) (numbers : List ℕ) →
    IsOpenlyLoaded access y machine words closed budget far p numbers →
    IsNumbering p numbers → (hart : ℕ) (input : List ℕ) (actions : List Act) → All (λ a. IsTrue (act_fits p hart a)) actions →
    (back i : ℕ) → IsTarget back → reg (machine.run i).regs ra ≡ back → Begins access y machine i →
    Stands access y machine budget far (y.entry p.main) (first_seen p numbers hart input actions) i → (bound : ℕ) → MainDoes access y machine budget far p numbers hart input actions back i bound
