-- Answers to a source, and which cause has which.
use Rattle.std.specs.Prelude.{ℕ, ◌≡◌, List, Result, Ok, Err}
use Rattle.mv_ast.specs.declared.program.Program.{Program}
use Rattle.mv_front.specs.declared.refusal.Refusal.{Refusal}
use Rattle.mv_front.specs.declared.refusal.FrontError.{FrontError}
use Rattle.mv_front.specs.declared.refusal.FrontError.TheVariants as front
use Rattle.mv_build.specs.declared.built.Built.{Built}
use Rattle.mv_build.specs.declared.error.BuildError.{BuildError}
use Rattle.mv_build.specs.declared.error.BuildError.TheVariants.{Refused, Memory}
use Rattle.mv_build.specs.Verdicts.{HasNoImage, PassesLimit}

-- the answer of the front end as one of the whole
abbrev pub of_front : FrontError → BuildError
of_front (front.Refused r) = Refused r
of_front (front.Memory e) = Memory e

-- the cause of each answer that is no image
abbrev pub IsCause : List ℕ → BuildError → Type 0
IsCause text (Refused r) = HasNoImage text r
IsCause text (Memory e) = Unit {0}

-- the answer is this refusal, unless memory was wanting
abbrev pub HasRefusal : Result Built BuildError → Refusal → Type 0
HasRefusal (Ok built) r = ⊥
HasRefusal (Err (Refused s)) r = s ≡ r
HasRefusal (Err (Memory e)) r = Unit {0}

-- the answer is this program with an image, or says which limit it passes, unless memory was wanting
abbrev pub HasVerdict : Result Built BuildError → Program → Type 0
HasVerdict (Ok built) p = built.program ≡ p
HasVerdict (Err (Refused r)) p = PassesLimit p r
HasVerdict (Err (Memory e)) p = Unit {0}
