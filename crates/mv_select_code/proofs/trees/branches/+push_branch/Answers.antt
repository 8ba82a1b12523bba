use Rattle.std.proofs.Common.{◌≡◌, ◌+◌, [], ◌∷◌, ◌++◌, Some, sym, ap, ◌∙◌}
use Rattle.std.proofs.lemmas.List.{append-nil}
use Rattle.mv_isa.specs.declared.labelled.Line.TheVariants.{Branch}
use Rattle.mv_select_code.specs.Trees.TreeCode.{seats_at, comparison, operand_lines, branch_lines}
use Rattle.mv_select_code.proofs.OfTrees.Branches.{passed_number, compared}
use Rattle.mv_select_code.proofs.OfTrees.Equations.{joined_three}
use Rattle.mv_select_code.proofs.trees.branches.+push_branch.Goals as goal

pub returns-else-is_taken : goal.returns-else-is_taken
returns-else-is_taken t c =
    let p = seats_at c.args.places.rooms.now c.args.places.keeping c.args.places.pins.now in
    let none = passed_number p c.args.sense c.args.register c.args.label c.in-Number.n c.args.tree.now c.in-Number.is (sym c.is_taken.ensures ∙ c.if-is_taken.false) in
    sym (ap (λ l. c.args.code.now ++ l) none ∙ append-nil c.args.code.now)

pub returns-in_ok-push-in-Some : goal.returns-in_ok-push-in-Some
returns-in_ok-push-in-Some t c =
    let p = seats_at c.args.places.rooms.now c.args.places.keeping c.args.places.pins.now in
    let r = c.args.register in
    let o = c.in-Binary.operator in
    let ls = branch_lines p c.args.tree.now c.args.sense r c.args.label in
    let la = operand_lines p c.get-in-Some.result.now r in
    let lb = operand_lines p c.get-in-Some-2.result.now (r + 1) in
    let u = Branch c.in-Some.funct3 c.operand_register-left.result c.operand_register-right.result c.args.label ∷ [] in
    let known : comparison c.args.sense o ≡ Some c.in-Some.funct3 = cc in
    let code = compared p c.args.sense r c.args.label o c.in-Some.funct3 c.in-Binary.a c.in-Binary.b c.args.tree.now c.in-Binary.is known in
    let same : ls ≡ la ++ (lb ++ u) = cc code in
    let added : c.push-in-Some.new.self ≡ c.push_operand-in-Some.new.code ++ u = cc (c.in_ok-push-in-Some.ensures.ok) in
    added ∙ joined_three c.args.code.now c.push_operand.new.code c.push_operand-in-Some.new.code u la lb ls c.in_ok-push_operand-in-Some.ensures c.in_ok-push_operand-in-Some-2.ensures same
