-- What is built may be run in several harts.
use Rattle.std.specs.Prelude.{ℕ, List}
use Rattle.mv_image.specs.Faults.{Rules}
use Rattle.mv_build.specs.Verdicts.{IsBuiltFrom}
use Rattle.mv_build.specs.declared.built.Built.{Built}
use Rattle.mv_harts_meant.specs.Runnable.{IsRunnable}

-- The image that is built of a text, which keeps the rules as each in code does, is one that several harts of its program may run.
abbrev pub BuiltAreRunnable : Type 0
BuiltAreRunnable = (text : List ℕ) (built : Built) → IsBuiltFrom text built → Rules built.image → IsRunnable built.program built.image
