use Rattle.std.proofs.Common.{◌≡◌, ◌+◌, ◌++◌, OnOk, Some, None, false, cond, ap, ◌∙◌, subst, to_z, of_z}
use Rattle.std.specs.Int.{w32}
use Rattle.std.proofs.lemmas.Int.{to_z-of_z}
use Rattle.mv_ir.specs.declared.tree.Tree as tr
use Rattle.mv_select_code.specs.Trees.TreeCode.{seats_at, unary_lines, binary_lines, immediate_lines, operator_lines, keeps_words, narrow_lines, tree_into, operand_lines, operand_register, immediate_of}
use Rattle.mv_select_code.proofs.OfTrees.Equations.{into_unary, into_binary, into_narrow, joined_two, joined_three}
use Rattle.mv_select_code.proofs.OfTrees.TreesFit.{immediate_signed}
use Rattle.mv_select_code.proofs.trees.trees.+into.Goals as goal

pub push_into-returns-in_ok-push_operand-in-Unary : goal.push_into-returns-in_ok-push_operand-in-Unary
push_into-returns-in_ok-push_operand-in-Unary t c =
    let p = seats_at c.args.places.rooms.now c.args.places.keeping c.args.places.pins.now in
    let r = c.args.register in
    let ls = tree_into p c.args.tree.now c.args.rd r in
    let la = operand_lines p c.get.result.now r in
    let u = unary_lines c.in-Unary.operator c.args.rd c.operand_register.result in
    let same : ls ≡ la ++ u = cc (into_unary p c.in-Unary.operator c.in-Unary.a c.args.rd r) in
    subst (λ z. OnOk c.push_unary.result (c.push_unary.new.code ≡ z)) (joined_two c.args.code.now c.push_operand.new.code u la ls c.in_ok-push_operand-in-Unary.ensures same) c.push_unary.ensures

pub push_into-returns-in_ok-push_operand-in-Narrow : goal.push_into-returns-in_ok-push_operand-in-Narrow
push_into-returns-in_ok-push_operand-in-Narrow t c =
    let p = seats_at c.args.places.rooms.now c.args.places.keeping c.args.places.pins.now in
    let r = c.args.register in
    let k = c.in-Narrow.kind in
    let a = c.in-Narrow.a in
    let ls = tree_into p c.args.tree.now c.args.rd r in
    let la = operand_lines p c.get-else-keeps_words.result.now r in
    let u = narrow_lines k c.args.rd c.operand_register-else-keeps_words.result in
    let test : keeps_words k ≡ false = cc in
    let changed : tree_into p (tr.Narrow k a) c.args.rd r ≡ operand_lines p a r ++ narrow_lines k c.args.rd (operand_register p a r) =
    into_narrow p k a c.args.rd r ∙ ap (λ b. cond b (tree_into p a c.args.rd r) (operand_lines p a r ++ narrow_lines k c.args.rd (operand_register p a r))) test in
    let same : ls ≡ la ++ u = cc changed in
    subst (λ z. OnOk c.push_narrow.result (c.push_narrow.new.code ≡ z)) (joined_two c.args.code.now c.push_operand-else-keeps_words.new.code u la ls c.in_ok-push_operand-in-Narrow.ensures same) c.push_narrow.ensures

pub push_into-returns-in-Some : goal.push_into-returns-in-Some
push_into-returns-in-Some t c =
    let p = seats_at c.args.places.rooms.now c.args.places.keeping c.args.places.pins.now in
    let r = c.args.register in
    let d = c.args.rd in
    let o = c.in-Binary.operator in
    let a = c.in-Binary.a in
    let b = c.in-Binary.b in
    let ls = tree_into p c.args.tree.now d r in
    let la = operand_lines p c.get-in-Binary.result.now r in
    let i = c.in-Some.imm in
    let u = immediate_lines o d c.operand_register-left.result i in
    let stands : immediate_of o b ≡ Some c.in-Some.imm = cc in
    let code : tree_into p (tr.Binary o a b) d r ≡ operand_lines p a r ++ immediate_lines o d (operand_register p a r) c.in-Some.imm =
    into_binary p o a b d r ∙ ap (λ w. operand_lines p a r ++ operator_lines w o d (operand_register p a r) (operand_lines p b (r + 1)) (operand_register p b (r + 1))) stands in
    let same : ls ≡ la ++ u = cc code in
    let e = c.push_immediate.ensures in
    let imm : to_z w32 (of_z w32 i) ≡ i = to_z-of_z w32 i (immediate_signed o b i stands) in
    let result = subst (λ z. OnOk c.push_immediate.result (c.push_immediate.new.code ≡ c.push_operand-in-Binary.new.code ++ immediate_lines o d c.operand_register-left.result z)) imm e in
    subst (λ z. OnOk c.push_immediate.result (c.push_immediate.new.code ≡ z)) (joined_two c.args.code.now c.push_operand-in-Binary.new.code u la ls c.in_ok-push_operand-in-Binary.ensures same) result

pub push_into-returns-in_ok-push_operand-in-None : goal.push_into-returns-in_ok-push_operand-in-None
push_into-returns-in_ok-push_operand-in-None t c =
    let p = seats_at c.args.places.rooms.now c.args.places.keeping c.args.places.pins.now in
    let r = c.args.register in
    let d = c.args.rd in
    let o = c.in-Binary.operator in
    let a = c.in-Binary.a in
    let b = c.in-Binary.b in
    let ls = tree_into p c.args.tree.now d r in
    let la = operand_lines p c.get-in-Binary.result.now r in
    let lb = operand_lines p c.get-in-None.result.now (r + 1) in
    let u = binary_lines o d c.operand_register-left.result c.operand_register-in-None.result in
    let nothing : immediate_of o b ≡ None = cc in
    let code : tree_into p (tr.Binary o a b) d r ≡ operand_lines p a r ++ (operand_lines p b (r + 1) ++ binary_lines o d (operand_register p a r) (operand_register p b (r + 1))) =
    into_binary p o a b d r ∙ ap (λ w. operand_lines p a r ++ operator_lines w o d (operand_register p a r) (operand_lines p b (r + 1)) (operand_register p b (r + 1))) nothing in
    let same : ls ≡ la ++ (lb ++ u) = cc code in
    subst (λ z. OnOk c.push_binary.result (c.push_binary.new.code ≡ z))
    (joined_three c.args.code.now c.push_operand-in-Binary.new.code c.push_operand-in-None.new.code u la lb ls c.in_ok-push_operand-in-Binary.ensures c.in_ok-push_operand-in-None.ensures same)
    c.push_binary.ensures
