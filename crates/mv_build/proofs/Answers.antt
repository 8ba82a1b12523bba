-- Each cause has its answer.
use Rattle.std.proofs.Common.{◌≡◌, ℕ, List, subst}
use Rattle.std.specs.Prelude.{Result, Ok, Err, IfOk, IfErr}
use Rattle.mv_ast.specs.declared.program.Program.{Program}
use Rattle.mv_front.specs.declared.refusal.Refusal.{Refusal}
use Rattle.mv_front.specs.Verdicts.{IsProgram, IsRefused}
use Rattle.mv_build.specs.declared.built.Built.{Built}
use Rattle.mv_build.specs.declared.error.BuildError.{BuildError}
use Rattle.mv_build.specs.declared.error.BuildError.TheVariants.{Refused, Memory}
use Rattle.mv_build.specs.Answers.{IsCause, HasRefusal, HasVerdict}
use Rattle.mv_build.specs.Verdicts.{IsBuiltFrom, PassesLimit, HasNoImage, refused, over_limit}

-- a source is one program, or is refused for one cause, and never both
module _ (text : List ℕ) (one_program : (p q : Program) → IsProgram text p → IsProgram text q → p ≡ q) (one_refusal : (r s : Refusal) → IsRefused text r → IsRefused text s → r ≡ s)
    (not_both : (p : Program) (r : Refusal) → IsProgram text p → IsRefused text r → ⊥) where
  -- ---- what a refusal with a cause is

  of_refused : {s : Refusal} → HasNoImage text s → (r : Refusal) → IsRefused text r → s ≡ r
  of_refused (refused s h) r k = one_refusal s r h k
  of_refused (over_limit p s is past) r k = absurd (not_both p r is k)

  of_program : {s : Refusal} → HasNoImage text s → (p : Program) → IsProgram text p → PassesLimit p s
  of_program (refused s h) p is = absurd (not_both p s is h)
  of_program (over_limit q s there past) p is = subst (λ (x : Program). PassesLimit x s) (one_program q p there is) past

  -- ---- answers

  pub all_refusals : (result : Result Built BuildError) → IfOk result (λ b. IsBuiltFrom text b) → IfErr result (λ e. IsCause text e) → (r : Refusal) → IsRefused text r → HasRefusal result r
  all_refusals (Ok b) ok err r is = not_both b.program r ok.program is
  all_refusals (Err (Refused s)) ok err r is = of_refused err r is
  all_refusals (Err (Memory e)) ok err r is = tt

  pub all_accepted : (result : Result Built BuildError) → IfOk result (λ b. IsBuiltFrom text b) → IfErr result (λ e. IsCause text e) →
      (p : Program) → IsProgram text p → HasVerdict result p
  all_accepted (Ok b) ok err p is = one_program b.program p ok.program is
  all_accepted (Err (Refused s)) ok err p is = of_program err p is
  all_accepted (Err (Memory e)) ok err p is = tt
