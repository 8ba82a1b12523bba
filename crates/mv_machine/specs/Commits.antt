-- Which commit is under way in a run, told by its bindings alone: not by the plan area, and not by what is stored of the pairs.
use Rattle.std.specs.Prelude.{ℕ, zero, suc, ◌%◌, Bool, true, false, cond, if◌then◌else◌, List, [], ◌∷◌, slice_get, slice_index, Option, Some, None, option_and_then}
use Rattle.mv_bindings.specs.declared.binding.Binding.{Binding}
use Rattle.mv_isa.specs.declared.instr.Instr.{Instr}
use Rattle.mv_isa.specs.declared.instr.Instr.TheVariants.{FenceI, Ecall}
use Rattle.mv_isa.specs.Encoding.{decode}
use Rattle.mv_isa.specs.Execution.{reg}
use Rattle.mv_isa.specs.Registers.{a7}
use Rattle.mv_fetch.specs.Held.{choices}
use Rattle.mv_patch.specs.declared.prepared.Pair.{Pair}
use Rattle.mv_patch.specs.Plans.{plan_between}
use Rattle.mv_machine.specs.Runs.{State, is_going, choices_at, request_of, environment_call, runs_from}

abbrev pub is_some_pair : List Pair → Bool
is_some_pair [] = false
is_some_pair (pair ∷ pairs) = true

-- whether the text of the bindings behind the call at pc is another than before it
abbrev pub opens : State → Bool
opens s = is_some_pair (plan_between s.image s.bindings (environment_call (request_of (reg s.regs a7)) s).bindings)

-- the instruction that a pick fetches
abbrev pub fetched_instr : State → (pick : ℕ) → Option Instr
fetched_instr s pick = option_and_then decode (slice_get (choices s.room.held s.pc) (pick % choices_at s))

-- such a call begins a commit, from the bindings that were; FENCE.I ends it
abbrev pub after_instr : State → Option Instr → Option (List Binding) → Option (List Binding)
after_instr s (Some Ecall) under_way = cond (opens s) (Some s.bindings) under_way
after_instr s (Some FenceI) under_way = None
after_instr s _ under_way = under_way

abbrev pub commit_after : State → (pick : ℕ) → Option (List Binding) → Option (List Binding)
commit_after s pick under_way = if is_going s.stop then after_instr s (fetched_instr s pick) under_way else under_way

-- the bindings whose text stood before the commit that is under way after n instructions; none where none is
unfoldable pub commit_from : State → (picks : List ℕ) → (n : ℕ) → Option (List Binding)
commit_from s picks zero = None
commit_from s picks (suc n) = commit_after (runs_from s picks n) (slice_index picks n) (commit_from s picks n)
