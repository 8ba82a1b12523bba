-- What is proved of several harts on one text and of the meaning of their program.
use Rattle.std.specs.Prelude.{ℕ, suc, ◌≡◌, ◌+◌, ◌*◌, ◌^◌, ◌<◌, ◌≤◌, List, map, slice_get, Option, Some, All, IsTrue}
use Rattle.mv_ast.specs.declared.program.Program.{Program}
use Rattle.mv_ast.specs.Counts.{instructions_per_work}
use Rattle.mv_bindings.specs.declared.action.Action.{Action}
use Rattle.mv_bindings.specs.Acts.{Act, IsOfWord, act_of}
use Rattle.mv_image.specs.Spelling.{Fields}
use Rattle.mv_machine.specs.Actions.{fits_rows}
use Rattle.mv_machine.specs.Runs.{bytes_to_come}
use Rattle.mv_meaning.specs.Meaning.{hart_mean}
use Rattle.mv_refine_machine.specs.Runs.Behaves.{IsWithin, EndsRight, HasDone}
use Rattle.mv_harts_runs.specs.Harts.{Hart, Turn, first_harts, harts_after}
use Rattle.mv_harts_runs.specs.Alone.{Fitting, Passes, IsWell}
use Rattle.mv_harts_meant.specs.Runnable.{IsRunnable, fits_in}

-- each hart's input consists of bytes
abbrev pub AreBytes : (ℕ → List ℕ) → Type 0
AreBytes bytes = (h : ℕ) → All (λ b. b < 2 ^ 8) (bytes h)

abbrev pub inputs_of : (ℕ → List ℕ) → ℕ → List (Option ℕ)
inputs_of bytes h = bytes_to_come (bytes h)

-- The run of each hart alone is right for all acts that fit it, and what hart 0 is bound to at any time fits_rows the others.
abbrev pub FittingLaw : Type 0
FittingLaw = (p : Program) (image : Fields) → IsRunnable p image → (bytes : ℕ → List ℕ) → AreBytes bytes → Fitting image (inputs_of bytes) (Passes (fits_in p))

-- Actions of the operator that fit the image, and whose values are words, may be taken by the polls of hart 0.
abbrev pub ActionsPass : Type 0
ActionsPass =
    (p : Program) (image : Fields) → IsRunnable p image → (actions : List Action) → All IsOfWord actions → All (λ action. IsTrue (fits_rows image.switches action)) actions →
    All (Passes (fits_in p) 0) (map act_of actions)

-- A hart, on an input, has done what the program means in it with what its polls took: no more than that at the bound of its instructions; it has ended only
-- as that ends, with all of it done, and never with a fault; and it has done all that is meant at each bound for which there was time.
pub record Means (p : Program) (h : ℕ) (bytes : List ℕ) (o : Hart) : Type 0 where
  pub within : IsWithin bytes o.state (hart_mean p h bytes o.taken o.count)
  pub ends : EndsRight bytes o.state (hart_mean p h bytes o.taken o.count)
  pub does : (k : ℕ) → instructions_per_work * (1 + (hart_mean p h bytes o.taken k).work) ≤ o.count → HasDone o.state (hart_mean p h bytes o.taken k)

-- After each schedule, with all picks and failing devices, each hart has done what the program means in it; and all is well as with harts whose runs alone are right.
abbrev pub MeansLaw : Type 0
MeansLaw =
    (p : Program) (image : Fields) → IsRunnable p image → (bytes : ℕ → List ℕ) → AreBytes bytes → (count : ℕ) (acts : List Act) → All (Passes (fits_in p) 0) acts → (turns : List Turn) →
    let hs = harts_after (first_harts image (inputs_of bytes) count acts) turns in
    IsWell image (inputs_of bytes) hs × Means p 0 (bytes 0) hs.leader × ((n : ℕ) (o : Hart) → slice_get hs.others n ≡ Some o → Means p (suc n) (bytes (suc n)) o)

-- the same turns, each with pick 0
abbrev pub unpicked : List Turn → List Turn
unpicked turns = map (λ (t : Turn). record t { pick = 0 }) turns

-- What harts do is the same by all picks.
abbrev pub PicksDontMatter : Type 0
PicksDontMatter =
    (p : Program) (image : Fields) → IsRunnable p image → (bytes : ℕ → List ℕ) → AreBytes bytes → (count : ℕ) (acts : List Act) → All (Passes (fits_in p) 0) acts → (turns : List Turn) →
    let start = first_harts image (inputs_of bytes) count acts in harts_after start turns ≡ harts_after start (unpicked turns)
