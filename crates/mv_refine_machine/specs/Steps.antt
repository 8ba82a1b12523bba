-- Steps of the words that stand in text under the bindings, also where it may be patched.
use Rattle.std.specs.Prelude.{ℕ, ◌≡◌, ◌+◌, true, List, Option}
use Rattle.mv_machine.specs.Acts.{PollActs}
use Rattle.mv_isa.specs.Execution.{Goes, step}
use Rattle.mv_image.specs.Spelling.{Fields}
use Rattle.mv_ir.specs.World.{World}
use Rattle.mv_select_code.specs.Statements.Frames.{Site}
use Rattle.mv_select_code.specs.Statements.Leads.{Writes}
use Rattle.mv_select_code.specs.Control.Runs.{Spot}
use Rattle.mv_refine_machine.specs.Calm.{Rest, IsCalm}
use Rattle.mv_refine_machine.specs.MachineRuns.{access, bound_word, has_one_choice, run_of}

module _ (image : Fields) (input : List (Option ℕ)) (polls : PollActs) (picks : List ℕ) (s : Site) where
  abbrev run : ℕ → Spot Rest
  run = run_of image input polls picks

  -- a calm time of the run, from which the word that stands there leads to a place, storing at most to a cell of the frame's own
  pub record LeadsUnder (i : ℕ) (w : World) (next : Spot Rest) : Type 0 where
    pub calm : IsCalm image w (run i).memory
    pub steps : step access (bound_word image w (run i).pc) (run i).regs (run i).pc (run i).memory ≡ Goes next.regs next.pc next.memory
    pub writes : Writes access s (run i).memory next.memory

  -- whatever is picked, the run takes the step, from a place with one choice, and stays calm
  pub record StepsAreTaken : Type 0 where
    pub goes : (i : ℕ) (w : World) (next : Spot Rest) → LeadsUnder i w next → run (i + 1) ≡ next
    pub sound : (i : ℕ) (w : World) (next : Spot Rest) → LeadsUnder i w next → has_one_choice (run i) ≡ true
    pub stays : (i : ℕ) (w : World) (next : Spot Rest) → LeadsUnder i w next → IsCalm image w next.memory
