-- Generated texts are within the counts, and so they are refused for no cause.
use Rattle.std.proofs.Common.{◌≡◌, ℕ, List, subst, arith}
use Rattle.mv_ast.specs.declared.program.Program.{Program}
use Rattle.mv_front.specs.Verdicts.{IsProgram, IsRefused}
use Rattle.mv_front.specs.declared.refusal.Refusal.{Refusal}
use Rattle.mv_count_limits.specs.Verdicts.{HasNoImage, refused, over_limit}
use Rattle.mv_count_limits.specs.Counted.{IsWithinCounts, CountedPassNone}
use Rattle.mv_gen.specs.Generated.{generated}
use Rattle.mv_gen_programs.proofs.Called.{frames_fit, sites_fit, text_fits}
use Rattle.mv_gen_programs.proofs.Limited.{is_program}
use Rattle.mv_gen_programs.proofs.Program.{program}

pub within_counts : (number : ℕ) → IsWithinCounts (program number)
within_counts number = record { frames = frames_fit number; sites = sites_fit number; data_fits = omega arith; text = text_fits number }

module _ (one : (text : List ℕ) (p q : Program) → IsProgram text p → IsProgram text q → p ≡ q)
    (not_both : (text : List ℕ) (p : Program) (r : Refusal) → IsProgram text p → IsRefused text r → ⊥) (none : CountedPassNone) where
  pub not_refused : (number : ℕ) (r : Refusal) → HasNoImage (generated number) r → ⊥
  not_refused number r (refused s is) = not_both (generated number) (program number) s (is_program number) is
  not_refused number r (over_limit p s is past) =
      let same : program number ≡ p = one (generated number) (program number) p (is_program number) is in
      none (generated number) p is (subst (λ (q : Program). IsWithinCounts q) same (within_counts number)) s past
