-- How a run ends.
use Rattle.std.specs.Prelude.{ℕ, ◌≡◌, ◌<◌, ◌≤◌, Bool, true, List, Option}
use Rattle.mv_machine.specs.Acts.{PollActs}
use Rattle.mv_image.specs.Spelling.{Fields}
use Rattle.mv_ir.specs.World.{World}
use Rattle.mv_machine.specs.Runs.{Stop, bytes_to_come}
use Rattle.mv_select_code.specs.Control.Runs.{Spot}
use Rattle.mv_refine_machine.specs.Calm.{Rest, IsCalm}
use Rattle.mv_refine_machine.specs.MachineRuns.{is_sound, run_of}

-- the run has stopped so, and the input that is left, the output, the bindings and the log are those of a world
pub record HasStopped (w : World) (stop : Stop) (m : Rest) : Type 0 where
  pub is : m.stop ≡ stop
  pub input : m.input ≡ bytes_to_come w.input
  pub output : m.output ≡ w.output
  pub bindings : m.bindings ≡ w.bindings
  pub log : m.log ≡ w.log

module _ (closed : (pc address : ℕ) → Bool) (image : Fields) (input : List (Option ℕ)) (polls : PollActs) (picks : List ℕ) where
  abbrev run : ℕ → Spot Rest
  run = run_of image input polls picks

  -- a time of the run stands at a place and is calm, and so far each place was sound
  pub record ComesTo (pc : ℕ) (w : World) (i : ℕ) : Type 0 where
    pub at : (run i).pc ≡ pc
    pub calm : IsCalm image w (run i).memory
    pub sound : (t : ℕ) → t < i → is_sound closed (run t) ≡ true

  -- up to a time, which is calm, each place is sound; and behind it the run has stopped
  pub record EndsAfter (w : World) (last : ℕ) (stop : Stop) : Type 0 where
    pub calm : IsCalm image w (run last).memory
    pub sound : (t : ℕ) → t ≤ last → is_sound closed (run t) ≡ true
    pub stopped : (t : ℕ) → last < t → HasStopped w stop (run t).memory
