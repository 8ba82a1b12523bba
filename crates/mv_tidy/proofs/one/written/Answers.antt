use Rattle.std.proofs.Common.{IfSome, sym, subst, ◌∙◌}
use Rattle.mv_tidy.specs.Tidying.{Takes}
use Rattle.mv_tidy.proofs.Joined.{writes}
use Rattle.mv_tidy.proofs.one.written.Goals as goal

pub returns-in_ok-copy_tree-in-Some : goal.returns-in_ok-copy_tree-in-Some
returns-in_ok-copy_tree-in-Some c =
    let s = c.in-Set in
    let v = c.args.v.now in
    let taken : Takes s.t s.e v c.in-Some.w = subst (λ w. IfSome w (Takes s.t s.e v)) c.in-Some.is c.in_ok-w-in-Set.ensures in
    let gone = c.is_gone.ensures c.if-not-is_gone.false in
    let unread = sym c.reads.ensures ∙ c.if-reads.false in
    writes _ c.args.first.now s.t s.e v c.in-Some.w s.is taken c.args.array c.args.index.now _ gone unread c.in_ok-copy_tree-in-Some.ensures
