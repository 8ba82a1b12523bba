use Rattle.std.proofs.Common.{sym, subst}
use Rattle.std.proofs.lemmas.Result.{IfOk-weaker}
use Rattle.mv_tidy.specs.Tidied.{IsTidied}
use Rattle.mv_tidy.proofs.BodyTidied.{joined_is_tidied, tidied_is_so}
use Rattle.mv_tidy.proofs.join.Goals as goal

pub returns : goal.returns
returns c =
    let body = c.args.body.now in
    let code = c.in_ok-code in
    let so = joined_is_tidied body.temps body.code code.code code.ensures in
    IfOk-weaker c.with_code.result _ _ (λ made e. subst (IsTidied body) (sym e) (tidied_is_so body code.code so)) c.with_code.ensures
