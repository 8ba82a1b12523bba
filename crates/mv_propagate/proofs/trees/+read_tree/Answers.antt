use Rattle.mv_propagate.proofs.Reading.{stays, between, of_temp, of_unary, of_binary, of_narrow}
use Rattle.mv_propagate.proofs.trees.+read_tree.Goals as goal

pub returns-in-Number : goal.returns-in-Number
returns-in-Number t c = stays _ _ _ c.in-Number.is

pub returns-in-Some : goal.returns-in-Some
returns-in-Some t c = of_temp c.args.facts.now c.args.tree.now c.tree_of.result c.in-Temp.t c.in-Some.leaf c.in-Temp.is c.in-Some.ensures c.tree_of.ensures

pub returns-in-None : goal.returns-in-None
returns-in-None t c = stays _ _ _ c.in-Temp.is

pub returns-in-Global : goal.returns-in-Global
returns-in-Global t c = stays _ _ _ c.in-Global.is

pub returns-in-Function : goal.returns-in-Function
returns-in-Function t c = stays _ _ _ c.in-Function.is

pub returns-in_ok-new-in-Unary : goal.returns-in_ok-new-in-Unary
returns-in_ok-new-in-Unary t c =
    let s = c.in-Unary in
    of_unary c.args.facts.now c.args.tree.now s.o s.a c.in_ok-new-in-Unary.field-0 s.is
    (between c.args.facts.now _ _ _ _ c.get.ensures c.in_ok-new-in-Unary.ensures c.in_ok-a-in-Unary.ensures)

pub returns-in_ok-new-in-Binary-2 : goal.returns-in_ok-new-in-Binary-2
returns-in_ok-new-in-Binary-2 t c =
    let s = c.in-Binary in
    of_binary c.args.facts.now c.args.tree.now s.o s.a c.in_ok-new-in-Binary.field-0 s.b c.in_ok-new-in-Binary-2.field-0 s.is
    (between c.args.facts.now _ _ _ _ c.get-in-Binary.ensures c.in_ok-new-in-Binary.ensures c.in_ok-a-in-Binary.ensures)
    (between c.args.facts.now _ _ _ _ c.get-in-Binary-2.ensures c.in_ok-new-in-Binary-2.ensures c.in_ok-b-in-Binary.ensures)

pub returns-in_ok-new-in-Narrow : goal.returns-in_ok-new-in-Narrow
returns-in_ok-new-in-Narrow t c =
    let s = c.in-Narrow in
    of_narrow c.args.facts.now c.args.tree.now s.k s.a c.in_ok-new-in-Narrow.field-0 s.is
    (between c.args.facts.now _ _ _ _ c.get-in-Narrow.ensures c.in_ok-new-in-Narrow.ensures c.in_ok-a-in-Narrow.ensures)
