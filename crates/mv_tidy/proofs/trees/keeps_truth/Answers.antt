use Rattle.std.proofs.Common.{sym, ◌∙◌}
use Rattle.mv_tidy.proofs.Values.{asked_taken, twice_taken, narrowed_taken}
use Rattle.mv_tidy.proofs.trees.keeps_truth.Goals as goal

pub returns-then-o-eq-NOT_EQUAL : goal.returns-then-o-eq-NOT_EQUAL
returns-then-o-eq-NOT_EQUAL c h e =
    let s = c.in-Binary in
    let itself = sym c.get-then-o-eq-NOT_EQUAL.ensures ∙ c.is_temp.ensures h in
    asked_taken c.args.temp s.o s.a s.b c.args.tree.now e c.if-o-eq-NOT_EQUAL.true itself (sym c.get.ensures ∙ c.is_zero.ensures c.if-not-is_zero.false) s.is

pub returns-in-Narrow : goal.returns-in-Narrow
returns-in-Narrow c h e =
    let s = c.in-Narrow in
    narrowed_taken c.args.temp s.field-0 s.a c.args.tree.now e (sym c.get-in-Narrow.ensures ∙ c.is_temp-in-Narrow.ensures h) s.is

pub returns-then-o-eq-LOGICAL_NOT : goal.returns-then-o-eq-LOGICAL_NOT
returns-then-o-eq-LOGICAL_NOT c h e =
    let s = c.in-Unary in
    twice_taken c.args.temp s.o s.a c.args.tree.now e c.if-o-eq-LOGICAL_NOT.true (sym c.get-then-o-eq-LOGICAL_NOT.ensures ∙ c.denies.ensures h) s.is
