use Rattle.std.proofs.Common.{sym, subst}
use Rattle.std.proofs.lemmas.Result.{IfOk-weaker}
use Rattle.mv_tidy.specs.Tidied.{IsTidied}
use Rattle.mv_tidy.proofs.BodyTidied.{tidied_is_so}
use Rattle.mv_tidy.proofs.tidy.Goals as goal

pub returns : goal.returns
returns c =
    let body = c.args.body.now in
    let code = c.in_ok-code in
    IfOk-weaker c.with_code.result _ _ (λ made e. subst (IsTidied body) (sym e) (tidied_is_so body code.code code.ensures)) c.with_code.ensures
