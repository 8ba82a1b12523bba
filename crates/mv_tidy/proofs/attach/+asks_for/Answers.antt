use Rattle.std.proofs.Common.{IfSome, sym, ◌∙◌, subst}
use Rattle.mv_tidy.specs.Attaching.{Asks}
use Rattle.mv_tidy.proofs.Attaching.{asks_temp, asks_not, asks_equal, asks_unequal}
use Rattle.mv_tidy.proofs.attach.+asks_for.Goals as goal

pub returns-in-Temp : goal.returns-in-Temp
returns-in-Temp t c = asks_temp c.in-Temp.t c.args.tree.now c.in-Temp.is

pub returns-then-o-eq-LOGICAL_NOT : goal.returns-then-o-eq-LOGICAL_NOT
returns-then-o-eq-LOGICAL_NOT t c =
    asks_not c.opposite.result c.in-Unary.o c.in-Unary.a c.args.tree.now c.if-o-eq-LOGICAL_NOT.true c.in-Unary.is
    (c.opposite.ensures c.in-Unary.a (subst (λ k. IfSome c.asks_for.result (λ a. Asks a.temp a.denied k)) c.get.ensures c.asks_for.ensures))

pub returns-then-o-eq-NOT_EQUAL : goal.returns-then-o-eq-NOT_EQUAL
returns-then-o-eq-NOT_EQUAL t c =
    let r = c.asks_for-then-o-eq-NOT_EQUAL in
    asks_unequal r.result c.in-Binary.o c.in-Binary.a c.in-Binary.b c.args.tree.now c.if-o-eq-NOT_EQUAL.true
    (sym c.get-in-Binary.ensures ∙ c.is_zero.ensures c.if-not-is_zero.false) c.in-Binary.is
    (subst (λ k. IfSome r.result (λ a. Asks a.temp a.denied k)) c.get-then-o-eq-NOT_EQUAL.ensures r.ensures)

pub returns-then-o-eq-EQUAL : goal.returns-then-o-eq-EQUAL
returns-then-o-eq-EQUAL t c =
    let r = c.asks_for-then-o-eq-EQUAL in
    asks_equal c.opposite-then-o-eq-EQUAL.result c.in-Binary.o c.in-Binary.a c.in-Binary.b c.args.tree.now c.if-o-eq-EQUAL.true
    (sym c.get-in-Binary.ensures ∙ c.is_zero.ensures c.if-not-is_zero.false) c.in-Binary.is
    (c.opposite-then-o-eq-EQUAL.ensures c.in-Binary.a (subst (λ k. IfSome r.result (λ a. Asks a.temp a.denied k)) c.get-then-o-eq-EQUAL.ensures r.ensures))
