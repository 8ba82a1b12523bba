use Rattle.std.proofs.Common.{IfSome, subst}
use Rattle.mv_tidy.specs.Tidying.{Takes}
use Rattle.mv_tidy.proofs.Joined.{stores}
use Rattle.mv_tidy.proofs.one.stored.Goals as goal

pub returns-in-Some : goal.returns-in-Some
returns-in-Some c =
    let s = c.in-Set in
    let v = c.args.v.now in
    let taken : Takes s.t s.e v c.in-Some.w = subst (λ w. IfSome w (Takes s.t s.e v)) c.in-Some.is c.in_ok-w-in-Set.ensures in
    stores _ c.args.first.now s.t s.e v c.in-Some.w s.is taken c.args.g (c.is_gone.ensures c.if-not-is_gone.false)
