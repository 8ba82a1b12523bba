-- Each cause has its answer.
use Rattle.std.proofs.Common.{ℕ, List}
use Rattle.std.specs.Prelude.{Result, Ok, Err, IfOk, IfErr}
use Rattle.mv_ast.specs.declared.program.Program.{Program}
use Rattle.mv_front.specs.Verdicts.{IsProgram, IsRefused, IsCause, HasProgram, HasRefusal}
use Rattle.mv_front.specs.declared.refusal.Refusal.{Refusal}
use Rattle.mv_front.specs.declared.refusal.FrontError.{FrontError}
use Rattle.mv_front.specs.declared.refusal.FrontError.TheVariants.{Refused, Memory}
use Rattle.mv_front.proofs.OneVerdict.{one_program, one_refusal, not_both}

pub all_programs : (text : List ℕ) (result : Result Program FrontError) → IfOk result (λ p. IsProgram text p) → IfErr result (λ e. IsCause text e) → (p : Program) → IsProgram text p → HasProgram result p
all_programs text (Ok q) ok err p is = one_program text q p ok is
all_programs text (Err (Refused s)) ok err p is = not_both text p s is err
all_programs text (Err (Memory e)) ok err p is = tt

pub all_refusals : (text : List ℕ) (result : Result Program FrontError) → IfOk result (λ p. IsProgram text p) → IfErr result (λ e. IsCause text e) → (r : Refusal) → IsRefused text r → HasRefusal result r
all_refusals text (Ok q) ok err r is = not_both text q r ok is
all_refusals text (Err (Refused s)) ok err r is = one_refusal text s r err is
all_refusals text (Err (Memory e)) ok err r is = tt
