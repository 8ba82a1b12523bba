use Rattle.std.proofs.Common.{IfSome, subst}
use Rattle.mv_tidy.specs.Tidying.{Takes}
use Rattle.mv_tidy.proofs.Joined.{divides, fetches, calls, asks, carries}
use Rattle.mv_tidy.proofs.one.moved.Goals as goal

pub returns-in-Some : goal.returns-in-Some
returns-in-Some c =
    let s = c.in-Set in
    let v = c.args.v.now in
    let taken : Takes s.t s.e v c.in-Some.w = subst (λ w. IfSome w (Takes s.t s.e v)) c.in-Some.is c.in_ok-w-in-Set.ensures in
    carries _ c.args.first.now s.t s.e v c.in-Some.w s.is taken c.args.x (c.is_over.ensures c.if-not-is_over.false)

pub returns-in_ok-b-in-Divide : goal.returns-in_ok-b-in-Divide
returns-in_ok-b-in-Divide c =
    let s = c.in-Divide in
    let gone = c.is_gone.ensures c.if-not-is_gone.false in
    let whole = c.is_temp.ensures c.if-not-is_temp.false in
    divides _ c.args.first.now s.t c.args.x c.args.v.now gone whole s.o s.a s.b _ _ s.is c.in_ok-a-in-Divide.ensures c.in_ok-b-in-Divide.ensures

pub returns-in_ok-copy_tree-in-Read : goal.returns-in_ok-copy_tree-in-Read
returns-in_ok-copy_tree-in-Read c =
    let s = c.in-Read in
    let gone = c.is_gone-else-not-is_temp-2.ensures c.if-not-is_gone-2.false in
    let whole = c.is_temp-in-Read.ensures c.if-not-is_temp-2.false in
    fetches _ c.args.first.now s.t c.args.x c.args.v.now gone whole s.a s.i _ s.is c.in_ok-copy_tree-in-Read.ensures

pub returns-in_ok-args-in-Some-to : goal.returns-in_ok-args-in-Some-to
returns-in_ok-args-in-Some-to c =
    let s = c.in-Call in
    let to = c.in-Some-to in
    let gone = c.is_gone-else-not-is_temp-3.ensures c.if-not-is_gone-3.false in
    let whole = c.is_temp-in-Some-to.ensures c.if-not-is_temp-3.false in
    calls _ c.args.first.now to.t c.args.x c.args.v.now gone whole s.to s.f _ s.args _ s.is to.is c.in_ok-f-in-Some-to.ensures c.in_ok-args-in-Some-to.ensures

pub returns-in_ok-copy_trees-in-Some-to-2 : goal.returns-in_ok-copy_trees-in-Some-to-2
returns-in_ok-copy_trees-in-Some-to-2 c =
    let s = c.in-Known in
    let to = c.in-Some-to-2 in
    let gone = c.is_gone-else-not-is_temp-4.ensures c.if-not-is_gone-4.false in
    let whole = c.is_temp-in-Some-to-2.ensures c.if-not-is_temp-4.false in
    asks _ c.args.first.now to.t c.args.x c.args.v.now gone whole s.to s.k s.args _ s.is to.is c.in_ok-copy_trees-in-Some-to-2.ensures
