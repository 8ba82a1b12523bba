use Rattle.std.proofs.Common.{inl, inr, refl, subst, sym}
use Rattle.mv_io.proofs.Common.{count_kept}
use Rattle.mv_top.specs.Building.{IsBuiltAs}
use Rattle.mv_top.specs.Checking.{built, unbuilt}
use Rattle.mv_top.proofs.check.check_text.Goals as goal

pub returns-in-Ok-clause-does : goal.returns-in-Ok-clause-does
returns-in-Ok-clause-does g c e =
    built c.as_slice.result.now c.compare_file.result (subst (λ b. IsBuiltAs c.args.text.now b) (sym c.as_slice.ensures.value) c.in-Ok.ensures) (c.compare_file.ensures.does e)

pub returns-in-Err-clause-does : goal.returns-in-Err-clause-does
returns-in-Err-clause-does g c e = unbuilt c.in-Err.status c.in-Err.ensures

pub returns-in-Ok-clause-asks : goal.returns-in-Ok-clause-asks
returns-in-Ok-clause-asks g c =
    inr (c.as_slice.result.now, subst (λ b. IsBuiltAs c.args.text.now b) (sym c.as_slice.ensures.value) c.in-Ok.ensures, c.compare_file.ensures.asks)

pub returns-in-Err-clause-asks : goal.returns-in-Err-clause-asks
returns-in-Err-clause-asks g c = inl refl

pub returns-in-Err-clause-count : goal.returns-in-Err-clause-count
returns-in-Err-clause-count g c = count_kept _ _ _ refl
