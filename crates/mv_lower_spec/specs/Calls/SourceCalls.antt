-- What the functions of a program do by the source's meaning, as code that calls them sees it.
use Rattle.std.specs.Prelude.{◌≡◌, ◌⊎◌, ℕ, ◌+◌, ◌*◌, ◌≤◌, Bool, cond, List, [], length, Option, Some, None, if◌then◌else◌, nat_eq, slice_get}
use Rattle.mv_ast.specs.declared.program.Program.{Program}
use Rattle.mv_ast.specs.declared.program.Function.{Function}
use Rattle.mv_ast.specs.Worlds.{World, Outcome, Came, Stopped}
use Rattle.mv_ast.specs.Counts.{instructions_per_work}
use Rattle.mv_meaning.specs.declared.state.Frame.{Frame}
use Rattle.mv_meaning.specs.Meaning.{call_of}
use Rattle.mv_ir.specs.KnownFunctions.{seen_from, seen}
use Rattle.mv_ir.specs.Outcome.{Returned, Stuck, Call, Calls, Bound}
use Rattle.mv_source_forms.specs.Names.{is_void}
use Rattle.mv_lower_spec.specs.Correct.{end_of, is_astray}
use Rattle.mv_lower_spec.specs.Law.{strict_context}
use Rattle.mv_lower_spec.specs.Statements.{levels}
use Rattle.mv_lower_spec.specs.Lowered.{unless_void}

-- a call without a meaning
abbrev pub meaningless : Call
meaningless = record { cost = 0; end = Stuck }

-- What a call in the source comes to, as code sees it: at a cost of 20 and 100 for one of work, and without a meaning where a call through a pointer
-- reaches no function that fits.
abbrev pub as_call : Bool → Outcome Frame ℕ → Call
as_call void (Came v frame w work) = record { cost = 20 + instructions_per_work * work; end = Returned (unless_void void v) (seen w) }
as_call void (Stopped why w work) = record { cost = 20 + instructions_per_work * work; end = cond (is_astray why) Stuck (end_of why (seen w)) }

-- the frame of a caller: a call gives it back, and nothing depends on it
abbrev pub any_frame : Frame
any_frame = record { function = 0; locals = [] }

-- a call of the function with an index, where there is one that has so many parameters
abbrev pub call_by_source : Program → (numbers : List ℕ) → (bound function : ℕ) → Option Function → List ℕ → World → Call
call_by_source p numbers bound f None args w = meaningless
call_by_source p numbers bound f (Some g) args w =
    if nat_eq g.params (length args)
    then as_call (is_void g.result) (call_of p (strict_context p numbers bound) f (Some g) args any_frame w)
    else meaningless

-- what the functions do at a bound by the source's meaning, under a numbering
abbrev pub source_call : Program → (numbers : List ℕ) → (bound : ℕ) → Calls
source_call p numbers bound f args depth live w = call_by_source p numbers bound f (slice_get p.functions f) args (seen_from depth live w)

-- the same as a bound for code: what they do at each bound below one, the highest first
abbrev pub source_levels : Program → (numbers : List ℕ) → (bound : ℕ) → Bound
source_levels p numbers = levels (source_call p numbers)

-- Where the second of two calls has a meaning the first ends in the same way, and costs no more.
abbrev pub Promises : Call → Call → Type 0
Promises c promised = (promised.end ≡ Stuck) ⊎ ((c.end ≡ promised.end) × (c.cost ≤ promised.cost))
