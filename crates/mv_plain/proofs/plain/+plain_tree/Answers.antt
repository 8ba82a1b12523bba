use Rattle.std.proofs.Common.{subst}
use Rattle.std.proofs.lemmas.Result.{IfOk-weaker}
use Rattle.mv_plain.specs.Plain.{Plainer}
use Rattle.mv_plain.proofs.PlainTrees.{stays, through_unary, through_binary, through_narrow}
use Rattle.mv_plain.proofs.plain.+plain_tree.Goals as goal

pub returns-in-Number : goal.returns-in-Number
returns-in-Number t c = stays _ _ c.in-Number.is

pub returns-in-Temp : goal.returns-in-Temp
returns-in-Temp t c = stays _ _ c.in-Temp.is

pub returns-in-Global : goal.returns-in-Global
returns-in-Global t c = stays _ _ c.in-Global.is

pub returns-in-Function : goal.returns-in-Function
returns-in-Function t c = stays _ _ c.in-Function.is

pub returns-in_ok-a-in-Unary : goal.returns-in_ok-a-in-Unary
returns-in_ok-a-in-Unary t c =
    let s = c.in-Unary in
    let a = c.in_ok-a-in-Unary in
    let part = subst (λ x. Plainer x a.a) c.get.ensures a.ensures in
    IfOk-weaker c.plain_unary.result _ _ (λ made h. through_unary c.args.tree.now s.o s.a a.a made s.is part h) c.plain_unary.ensures

pub returns-in_ok-b-in-Binary : goal.returns-in_ok-b-in-Binary
returns-in_ok-b-in-Binary t c =
    let s = c.in-Binary in
    let a = c.in_ok-a-in-Binary in
    let b = c.in_ok-b-in-Binary in
    let left = subst (λ x. Plainer x a.a) c.get-in-Binary.ensures a.ensures in
    let right = subst (λ x. Plainer x b.b) c.get-in-Binary-2.ensures b.ensures in
    IfOk-weaker c.plain_binary.result _ _ (λ made h. through_binary c.args.tree.now s.o s.a a.a s.b b.b made s.is left right h) c.plain_binary.ensures

pub returns-in_ok-a-in-Narrow : goal.returns-in_ok-a-in-Narrow
returns-in_ok-a-in-Narrow t c =
    let s = c.in-Narrow in
    let a = c.in_ok-a-in-Narrow in
    let part = subst (λ x. Plainer x a.a) c.get-in-Narrow.ensures a.ensures in
    IfOk-weaker c.plain_narrow.result _ _ (λ made h. through_narrow c.args.tree.now s.k s.a a.a made s.is part h) c.plain_narrow.ensures
