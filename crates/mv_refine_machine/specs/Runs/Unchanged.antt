-- What leaves text as it is.
use Rattle.std.specs.Prelude.{ℕ, ◌≡◌, ◌≢◌, false, All, List, Option, Some}
use Rattle.mv_bindings.specs.declared.binding.Binding.{Binding}
use Rattle.mv_image.specs.Spelling.{Fields}
use Rattle.mv_isa.specs.declared.instr.Instr.TheVariants.{Ecall}
use Rattle.mv_isa.specs.Execution.{reg}
use Rattle.mv_isa.specs.Registers.{a7}
use Rattle.mv_machine.specs.Commits.{fetched_instr, commit_after}
use Rattle.mv_machine.specs.Runs.{State, Request, Exits, Reads, Writes, Traps, Plans, Polls, Unknown, request_of, live_frames, turn}
use Rattle.mv_refine_machine.specs.Runs.Behaves.{IsTextSettled}

-- a call for an order or a poll
abbrev pub IsForPlan : Request → Type 0
IsForPlan Exits = ⊥
IsForPlan Reads = ⊥
IsForPlan Writes = ⊥
IsForPlan Traps = ⊥
IsForPlan Plans = Unit {0}
IsForPlan Polls = Unit {0}
IsForPlan Unknown = ⊥

-- a later state has the text, with all that may still be fetched, the bindings, the actions to come and the log of another
pub record IsUnchanged (s t : State) : Type 0 where
  pub text : t.room.held.text ≡ s.room.held.text
  pub older : t.room.held.older ≡ s.room.held.older
  pub bindings : t.bindings ≡ s.bindings
  pub actions : t.actions ≡ s.actions
  pub log : t.log ≡ s.log

-- A commit, a revert or a poll that is asked for while a frame of an attributed function is live changes none of it, and no commit begins.
abbrev pub LiveFramesRefuse : Type 0
LiveFramesRefuse =
    (s : State) (pick : ℕ) (under_way : Option (List Binding)) → fetched_instr s pick ≡ Some Ecall → IsForPlan (request_of (reg s.regs a7)) → live_frames s ≢ 0 →
    IsUnchanged s (turn s pick) × (commit_after s pick under_way ≡ under_way)

-- Where text is settled and all functions are free, it is the image's, word for word.
abbrev pub FreeTextIsItsOwn : Type 0
FreeTextIsItsOwn = (image : Fields) (s : State) → IsTextSettled image s → All (λ (b : Binding). b.bound ≡ false) s.bindings → s.room.held.text ≡ image.text
