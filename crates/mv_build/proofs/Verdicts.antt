-- What is compiled of a source's program is what the source is built to.
use Rattle.std.proofs.Common.{List, ℕ, sym, subst}
use Rattle.std.specs.Prelude.{Result, Ok, Err, IfOk, IfErr}
use Rattle.mv_ast.specs.declared.program.Program.{Program}
use Rattle.mv_front.specs.Verdicts.{IsProgram}
use Rattle.mv_front.specs.Verdicts as front
use Rattle.mv_front.specs.declared.refusal.FrontError.{FrontError}
use Rattle.mv_front.specs.declared.refusal.FrontError.TheVariants as fronting
use Rattle.mv_build.specs.declared.built.Built.{Built}
use Rattle.mv_build.specs.declared.error.BuildError.{BuildError}
use Rattle.mv_build.specs.declared.error.BuildError.TheVariants.{Refused, Memory}
use Rattle.mv_build.specs.Answers.{IsCause, of_front}
use Rattle.mv_build.specs.Compiled.{IsCompiled, OnRefusal}
use Rattle.mv_build.specs.Images.{IsImageOf}
use Rattle.mv_build.specs.Verdicts.{IsBuiltFrom, PassesLimit, refused, over_limit}

-- the cause of a refusal of the front end
pub front_cause : (text : List ℕ) (e : FrontError) → front.IsCause text e → IsCause text (of_front e)
front_cause text (fronting.Refused r) h = refused r h
front_cause text (fronting.Memory e) h = tt

module _ (text : List ℕ) (p : Program) (is : IsProgram text p) where
  of_compiled : (b : Built) → IsCompiled p b → IsBuiltFrom text b
  of_compiled b h = record {
    program = subst (IsProgram text) (sym h.program) is;
    image = subst (λ (x : Program). IsImageOf x b.generics b.variants b.image) (sym h.program) h.image;
  }

  pub built : (result : Result Built BuildError) → IfOk result (λ b. IsCompiled p b) → IfOk result (λ b. IsBuiltFrom text b)
  built (Ok b) h = of_compiled b h
  built (Err e) h = h

  pub cause : (result : Result Built BuildError) → IfErr result (λ e. OnRefusal e (PassesLimit p)) → IfErr result (λ e. IsCause text e)
  cause (Ok b) h = h
  cause (Err (Refused r)) h = over_limit p r is h
  cause (Err (Memory e)) h = tt
