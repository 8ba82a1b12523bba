-- What the environment of a run shows before a call and after it.
use Rattle.std.specs.Prelude.{ℕ, List, Option}
use Rattle.mv_eval.specs.Grown.{Grew}
use Rattle.mv_io.specs.Outside.{OnInput, Rose}
use Rattle.mv_probe.specs.Ways.{Way}

-- a source: the bytes that it tells as still to come, and its count of faults
pub record Reading : Type 0 where
  pub left : Option (List ℕ)
  pub faults : ℕ

abbrev pub reading : Option (List ℕ) → ℕ → Reading
reading left faults = record { left = left; faults = faults }

-- a sink: the bytes that it tells as written, and its count of faults
pub record Writing : Type 0 where
  pub written : Option (List ℕ)
  pub faults : ℕ

abbrev pub writing : Option (List ℕ) → ℕ → Writing
writing written faults = record { written = written; faults = faults }

-- the input and the output of a run, and the way by which its fetches are picked, where that is told
pub record Environment : Type 0 where
  pub input : Reading
  pub output : Writing
  pub way : Option Way

abbrev pub environment : Reading → Writing → Option Way → Environment
environment input output way = record { input = input; output = output; way = way }

module _ (before after : Environment) where
  -- words were picked and bytes taken from the input, and whatever may come behind these, this holds of the picks, of what was taken and of what comes behind
  abbrev pub OneRun : (Fact : (picks taken later : List ℕ) → Type 0) → Type 0
  OneRun Fact = (picks : List ℕ) × OnInput before.input.left after.input.left (λ taken later. Fact picks taken later)

  -- these bytes were written at the end of the output
  abbrev pub Wrote : List ℕ → Type 0
  Wrote bytes = Grew before.output.written after.output.written bytes

  -- a read failed
  abbrev pub ReadFailed : Type 0
  ReadFailed = Rose before.input.faults after.input.faults

  -- a write failed
  abbrev pub WriteFailed : Type 0
  WriteFailed = Rose before.output.faults after.output.faults
