-- What is proved of lowered code whose callees do what the source's functions do.
use Rattle.std.specs.Prelude.{◌≡◌, ◌⊎◌, ℕ, true, All, IsTrue, List, [], length, Option, Some, None, slice_get}
use Rattle.mv_ast.specs.declared.program.Program.{Program}
use Rattle.mv_ast.specs.declared.program.Function.{Function}
use Rattle.mv_ast.specs.Actions.{act_fits}
use Rattle.mv_ast.specs.Starts.{first_world_under}
use Rattle.mv_bindings.specs.Acts.{Act}
use Rattle.mv_meaning.specs.Meaning.{hart_mean}
use Rattle.mv_meaning_numbering.specs.Numberings.{IsNumbering}
use Rattle.mv_ir.specs.World.{World}
use Rattle.mv_ir.specs.KnownFunctions.{seen_from, seen}
use Rattle.mv_ir.specs.Outcome.{Returned, Stuck, Calls}
use Rattle.mv_ir.specs.Meaning.{Contents, body_from}
use Rattle.mv_ir.specs.Programs.{setting_of, execution_of, run_of_main}
use Rattle.mv_lower_spec.specs.Functions.{lower_function, lower_program}
use Rattle.mv_source_forms.specs.WellFormed.{IsWellFormed}
use Rattle.mv_lower_spec.specs.Programs.Laws.{HasGlobals, IsExecution, callee_frame}
use Rattle.mv_lower_spec.specs.Statements.{levels}
use Rattle.mv_lower_spec.specs.Calls.SourceCalls.{source_call, Promises}
use Rattle.mv_lower_spec.specs.Calls.Bindings.{EndsIn}

-- Calls are the source's, in worlds that have the globals of the program, where these have a meaning.
abbrev pub AreAsSource : Program → (numbers : List ℕ) → (bound : ℕ → Calls) → Type 0
AreAsSource p numbers calls =
    (bound f : ℕ) (args : List ℕ) (depth live : ℕ) (w : World) → HasGlobals p (seen_from depth live w) →
    ((source_call p numbers bound f args depth live w).end ≡ Stuck) ⊎ (calls bound f args depth live w ≡ source_call p numbers bound f args depth live w)

-- At each bound, under each numbering, in each world and whatever its frame holds when it begins, the lowered body of a function of a well-formed program
-- does what the function does by the source's meaning, if its callees do.
abbrev pub BodiesAreRight : Type 0
BodiesAreRight =
    (p : Program) (numbers : List ℕ) (calls : ℕ → Calls) → AreAsSource p numbers calls → (bound f : ℕ) (g : Function) → IsWellFormed p → slice_get p.functions f ≡ Some g →
    (contents : Contents) (args : List ℕ) (depth live : ℕ) (w : World) → length args ≡ g.params → HasGlobals p (seen_from depth live w) →
    Promises
    (body_from (setting_of numbers p) (callee_frame p f g (seen_from depth live w)) contents (lower_function p g) args (levels calls bound) w)
    (source_call p numbers bound f args depth live w)

-- A function that returns leaves each global with the words that it is declared with.
abbrev pub GlobalsKeepTheirSizes : Type 0
GlobalsKeepTheirSizes =
    (p : Program) (numbers : List ℕ) (bound f : ℕ) → IsWellFormed p →
    (args : List ℕ) (depth live : ℕ) (w : World) → HasGlobals p (seen_from depth live w) →
    (v : Option ℕ) (left : World) → (source_call p numbers bound f args depth live w).end ≡ Returned v left → HasGlobals p (seen_from depth live left)

-- A call of an attributed function leaves all bindings as they are, however it ends: while its frame is live, commits, reverts and polls change nothing.
abbrev pub CallsKeepBindings : Type 0
CallsKeepBindings =
    (p : Program) (numbers : List ℕ) (bound f : ℕ) (g : Function) → slice_get p.functions f ≡ Some g → g.attributed ≡ true →
    (args : List ℕ) (depth live : ℕ) (w : World) → EndsIn (λ left. left.bindings ≡ w.bindings) (source_call p numbers bound f args depth live w).end

-- Whatever its frame holds when it begins, the lowered body of `main` of a well-formed program does what the program means, if its callees do what they do by
-- the source's meaning: in each hart, under each numbering, on each input, with all actions that fit, at each bound.
abbrev pub MainIsRight : Type 0
MainIsRight =
    (p : Program) (numbers : List ℕ) (calls : ℕ → Calls) → AreAsSource p numbers calls → IsWellFormed p → IsNumbering p numbers → (hart : ℕ) (input : List ℕ) (actions : List Act) (bound : ℕ) → All (λ a. IsTrue (act_fits p hart a)) actions →
    (contents : Contents) (main : Function) → slice_get p.functions p.main ≡ Some main →
    let first = seen (first_world_under p numbers hart input actions) in
    let c = body_from (setting_of numbers p) (record { depth = 0; live = 0; bound = [] }) contents (lower_function p main) [] (levels calls bound) first in
    IsExecution (hart_mean p hart input actions bound) (execution_of first c.cost c.end)

-- And whatever its frame holds when it begins, it ends as the lowered program does; and where it returns, it returns a value.
abbrev pub MainEndsAlike : Type 0
MainEndsAlike =
    (p : Program) (numbers : List ℕ) (calls : ℕ → Calls) → AreAsSource p numbers calls → IsWellFormed p → IsNumbering p numbers → (hart : ℕ) (input : List ℕ) (actions : List Act) (bound : ℕ) → All (λ a. IsTrue (act_fits p hart a)) actions →
    (contents : Contents) (main : Function) → slice_get p.functions p.main ≡ Some main →
    let first = seen (first_world_under p numbers hart input actions) in
    let c = body_from (setting_of numbers p) (record { depth = 0; live = 0; bound = [] }) contents (lower_function p main) [] (levels calls bound) first in
    (c.end ≡ (run_of_main numbers (lower_program p) hart input actions bound).end) × ((w : World) → c.end ≡ Returned None w → ⊥)
