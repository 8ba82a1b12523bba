-- The fields of the code of calls fit, and it has few words.
use Rattle.std.proofs.Common.{◌≡◌, inl, ℕ, suc, ◌+◌, ◌*◌, ◌^◌, ◌<◌, ◌≤◌, Bool, true, false, cond, ltb, List, [], ◌∷◌, ◌++◌, length, pos, Option, Some, None, All, arith}
use Rattle.std.proofs.lemmas.Bool.{ltb-true}
use Rattle.std.proofs.lemmas.Int.{ints}
use Rattle.std.proofs.lemmas.List.Elements.{All-cons, All-nil, All-head, All-tail}
use Rattle.mv_ast.specs.declared.program.Known.{Known}
use Rattle.mv_ast.specs.declared.program.Known.TheVariants.{Getchar, Putchar, Poll, Plan}
use Rattle.mv_isa.specs.declared.instr.Instr.TheVariants.{Addi, Jalr, Ecall}
use Rattle.mv_isa.specs.declared.labelled.Line.{Line}
use Rattle.mv_isa.specs.declared.labelled.Line.TheVariants.{Jump, Branch, Slot, Point}
use Rattle.mv_isa.specs.Code.{LineFits}
use Rattle.mv_isa.specs.Registers.{ra as link_register, a0 as first_register, a1 as second_register, a7 as request_register, s11 as left_register, t3 as scratch_register}
use Rattle.mv_ir.specs.declared.tree.Tree.{Tree}
use Rattle.mv_ir.specs.declared.stm.Callee.{Callee}
use Rattle.mv_ir.specs.declared.stm.Callee.TheVariants as callee
use Rattle.mv_ir.specs.Measures.{callee_trees}
use Rattle.mv_ir.specs.Trees.{nodes, nodes_of_all}
use Rattle.mv_select_code.specs.Trees.TreeCode.{Seats, one, number_lines, minus_one, tree_into, tree_lines}
use Rattle.mv_select_code.proofs.OfTrees.TreesAreShort.{number_size, into_short, trees_are_short}
use Rattle.mv_select_code.proofs.OfTrees.TreesFit.{small_fits, number_fits, into_fits, trees_fit}
use Rattle.mv_select_code.specs.Trees.View.{AreSeats}
use Rattle.mv_select_code.specs.Statements.StatementCode.{trap_label, write_temp}
use Rattle.mv_select_code.specs.Statements.Encoded.{IsCode, IsSmall}
use Rattle.mv_select_code.proofs.OfStatements.EncodedCode.{both, wider, single, branch, write_fits}
use Rattle.mv_select_code.specs.Control.FlowCode.{fine_known}
use Rattle.mv_select_code.specs.Control.Encoded.{call_words}
use Rattle.mv_select_code.specs.Control.Labels.{call_label}
use Rattle.mv_select_code.specs.Control.Layouts.{any_global, any_known, is_small}
use Rattle.mv_select.specs.Calls.CallCode.{request_of, commit_label, result_lines, depth_lines, guard_lines, back_lines, guarded_lines, slot_lines, entry_lines, jump_lines, pointer_lines, argument_lines, transfer_lines, pad_lines, call_lines, order_lines, ask_lines, known_lines}
use Rattle.mv_select.specs.Calls.Lines.{CallsHaveCode}
use Rattle.mv_select.proofs.OfCalls.Small.{HasRoom, FineParts, call_callee, call_parts, known_order, known_parts}
use Rattle.mv_num.proofs.Booleans.{and_left}

-- ---- single lines

nothing : IsCode 0 []
nothing = (All-nil LineFits, omega arith)

jump : (rd l : ℕ) → rd < 32 → IsCode 1 (Jump rd l ∷ [])
jump rd l h = (All-cons LineFits (Jump rd l) [] h (All-nil LineFits), omega arith)

slot : (f : ℕ) → IsCode 2 (slot_lines f)
slot f = (All-cons LineFits (Slot f) [] tt (All-nil LineFits), omega arith)

add : (rd rs n : ℕ) → rd < 32 → rs < 32 → n < 2048 → IsCode 1 (one (Addi rd rs (pos n)))
add rd rs n p q lt = single (Addi rd rs (pos n)) (p, q, small_fits n lt)

module _ (s : Seats) (seats : AreSeats s) where
  result_code : (r : Option ℕ) → HasRoom r → IsCode 1 (result_lines s r)
  result_code None h = wider 0 1 [] (omega arith) nothing
  result_code (Some t) h = single (write_temp s t first_register) (write_fits s seats t first_register h (omega arith))

  -- ---- calls of functions

  back_code : (r : Option ℕ) → HasRoom r → IsCode 2 (back_lines s r)
  back_code r room =
      both 1 1 (one (Addi left_register left_register (pos 1))) (result_lines s r) (add left_register left_register 1 (omega arith) (omega arith) (omega arith)) (result_code r room)

  depth_code : IsCode 2 depth_lines
  depth_code = branch 0 left_register 0 (trap_label 4) (inl (omega arith)) (omega arith) (omega arith)

  guarded_code : (n : ℕ) (go : List Line) (r : Option ℕ) → HasRoom r → IsCode n go → IsCode (3 + (n + 2)) (guarded_lines s go r)
  guarded_code n go r room h =
      let less = Addi left_register left_register minus_one in
      both 3 (n + 2) guard_lines (go ++ back_lines s r)
      (both 2 1 depth_lines (one less) depth_code
      (single less (omega arith, omega arith, (omega (arith, ints), omega (arith, ints)))))
      (both n 2 go (back_lines s r) h (back_code r room))

  jump_code : (r : Option ℕ) → HasRoom r → IsCode 6 (guarded_lines s jump_lines r)
  jump_code r room = guarded_code 1 jump_lines r room (single (Jalr link_register scratch_register (pos 0)) (omega arith, omega arith, small_fits 0 (omega arith)))

  pointer_code : (r : Option ℕ) → HasRoom r → IsCode 8 (pointer_lines s r)
  pointer_code r room =
      both 2 6 (Branch 0 scratch_register 0 (trap_label 3) ∷ []) (guarded_lines s jump_lines r) (branch 0 scratch_register 0 (trap_label 3) (inl (omega arith)) (omega arith) (omega arith)) (jump_code r room)

  -- of a call by a slot of four words
  point_code : (a : ℕ) (r : Option ℕ) → HasRoom r → IsCode 6 (Point a ∷ back_lines s r)
  point_code a r room = both 4 2 (Point a ∷ []) (back_lines s r) (All-cons LineFits (Point a) [] tt (All-nil LineFits), omega arith) (back_code r room)

  pad_code : (f : Callee) (args : List Tree) → IsCode 1 (pad_lines f args)
  pad_code (callee.Direct f) args = wider 0 1 [] (omega arith) nothing
  pad_code (callee.Through t) args = wider 0 1 [] (omega arith) nothing
  pad_code (callee.Switched g) [] = add 0 0 0 (omega arith) (omega arith) (omega arith)
  pad_code (callee.Switched g) (t ∷ ts) = wider 0 1 [] (omega arith) nothing
  pad_code callee.Expanded args = wider 0 1 [] (omega arith) nothing

  direct_code : (is_slot : Bool) (f : ℕ) (r : Option ℕ) → HasRoom r → IsCode 7 (cond is_slot (guarded_lines s (slot_lines f) r) (guarded_lines s (entry_lines f) r))
  direct_code true f r room = guarded_code 2 (slot_lines f) r room (slot f)
  direct_code false f r room = wider 6 7 (guarded_lines s (entry_lines f) r) (omega arith) (guarded_code 1 (entry_lines f) r room (jump link_register (call_label f) (omega arith)))

  arguments_code : (n : ℕ) (ts : List Tree) → n + length ts ≤ 18 → All IsSmall ts → IsCode (2 * nodes_of_all ts) (argument_lines s n ts)
  arguments_code n [] le h = nothing
  arguments_code n (t ∷ ts) le h =
      let small = All-head IsSmall t ts h in
      let tree = tree_into s t n scratch_register in
      let rest = argument_lines s (suc n) ts in
      let shallow = small.0 in
      wider (2 * nodes t + 2 * nodes_of_all ts) (2 * nodes_of_all (t ∷ ts)) (tree ++ rest) (omega arith)
      (both (2 * nodes t) (2 * nodes_of_all ts) tree rest (into_fits s seats t n scratch_register (omega (arith, le)) (omega (arith, shallow)) small.1, into_short s t n scratch_register)
      (arguments_code (suc n) ts (omega (arith, le)) (All-tail IsSmall t ts h)))

  module _ (is_attributed : ℕ → Bool) where
    transfer_code : (f : Callee) (r : Option ℕ) → HasRoom r → All IsSmall (callee_trees f) → IsCode (2 * nodes_of_all (callee_trees f) + 10) (transfer_lines s is_attributed f r)
    transfer_code (callee.Direct f) r room h = wider 7 (2 * nodes_of_all (callee_trees (callee.Direct f)) + 10) _ (omega arith) (direct_code (is_attributed f) f r room)
    transfer_code (callee.Through t) r room h =
        let tree = tree_lines s t scratch_register in
        let small = All-head IsSmall t [] h in
        let shallow = small.0 in
        wider (2 * nodes t + 8) (2 * nodes_of_all (t ∷ []) + 10) (tree ++ pointer_lines s r) (omega arith)
        (both (2 * nodes t) 8 tree (pointer_lines s r) (trees_fit s seats t scratch_register (omega (arith, shallow)) small.1, trees_are_short s t scratch_register) (pointer_code r room))
    transfer_code (callee.Switched g) r room h = wider 6 10 (Point (s.place g) ∷ back_lines s r) (omega arith) (point_code (s.place g) r room)
    transfer_code callee.Expanded r room h = wider 2 10 depth_lines (omega arith) depth_code

    callee_nodes : (f : Callee) (args : List Tree) → nodes_of_all (callee_trees f ++ args) ≡ nodes_of_all (callee_trees f) + nodes_of_all args
    callee_nodes (callee.Direct f) args = omega arith
    callee_nodes (callee.Through t) args = omega arith
    callee_nodes (callee.Switched g) args = omega arith
    callee_nodes callee.Expanded args = omega arith

    -- of any callee
    most_code : (r : Option ℕ) (f : Callee) (args : List Tree) → FineParts 8 r args → All IsSmall (callee_trees f)
        → IsCode (2 * nodes_of_all (callee_trees f ++ args) + 16) (call_lines s is_attributed r f args)
    most_code r f args fine h =
        let few = fine.few in
        let total = callee_nodes f args in
        let k = 2 * nodes_of_all (callee_trees f) + 10 in
        let n = 2 * nodes_of_all args in
        let go = transfer_lines s is_attributed f r in
        let passed = argument_lines s first_register args ++ go in
        wider (1 + (n + k)) (2 * nodes_of_all (callee_trees f ++ args) + 16) (pad_lines f args ++ passed) (omega (arith, few, total))
        (both 1 (n + k) (pad_lines f args) passed (pad_code f args)
        (both n k (argument_lines s first_register args) go (arguments_code first_register args (omega (arith, few)) fine.trees) (transfer_code f r fine.room h)))

    call_code : (r : Option ℕ) (f : Callee) (args : List Tree) → FineParts 8 r args → All IsSmall (callee_trees f)
        → IsCode (2 * nodes_of_all (callee_trees f ++ args) + call_words f) (call_lines s is_attributed r f args)
    call_code r (callee.Direct f) args fine h = most_code r (callee.Direct f) args fine h
    call_code r (callee.Through t) args fine h = most_code r (callee.Through t) args fine h
    call_code r (callee.Switched g) args fine h = most_code r (callee.Switched g) args fine h
    call_code r callee.Expanded args fine h =
        let few = fine.few in
        both (2 * nodes_of_all args) 2 (argument_lines s first_register args) depth_lines (arguments_code first_register args (omega (arith, few)) fine.trees) depth_code

  -- ---- calls of known functions

  order_code : (k : Known) → fine_known is_small any_known 507 any_global k ≡ true → IsCode 3 (order_lines k)
  order_code Getchar h = wider 0 3 [] (omega arith) nothing
  order_code Putchar h = wider 0 3 [] (omega arith) nothing
  order_code Poll h = wider 0 3 [] (omega arith) nothing
  order_code (Plan code index) h =
      let small = ltb-true code 256 (and_left (ltb code 256) (ltb index (2 ^ 32)) h) in
      both 1 2 (one (Addi first_register 0 (pos code))) (number_lines index second_register) (add first_register 0 code (omega arith) (omega arith) (omega (arith, small)))
      (number_fits index second_register (omega arith), number_size index second_register)

  request_code : (k : Known) → IsCode 1 (one (Addi request_register 0 (pos (request_of k))))
  request_code Getchar = add request_register 0 1 (omega arith) (omega arith) (omega arith)
  request_code Putchar = add request_register 0 2 (omega arith) (omega arith) (omega arith)
  request_code (Plan code index) = add request_register 0 4 (omega arith) (omega arith) (omega arith)
  request_code Poll = add request_register 0 5 (omega arith) (omega arith) (omega arith)

  ask_code : (k : Known) → IsCode 1 (ask_lines k)
  ask_code Getchar = single Ecall tt
  ask_code Putchar = single Ecall tt
  ask_code (Plan code index) = jump link_register commit_label (omega arith)
  ask_code Poll = jump link_register commit_label (omega arith)

  known_code : (r : Option ℕ) (k : Known) (args : List Tree) → FineParts 1 r args → fine_known is_small any_known 507 any_global k ≡ true
      → IsCode (2 * nodes_of_all args + 7) (known_lines s r k args)
  known_code r k args fine h =
      let few = fine.few in
      let n = 2 * nodes_of_all args in
      let request = one (Addi request_register 0 (pos (request_of k))) in
      let rest = request ++ (ask_lines k ++ result_lines s r) in
      wider (n + 6) (2 * nodes_of_all args + 7) (argument_lines s first_register args ++ (order_lines k ++ rest)) (omega (arith, few))
      (both n 6 (argument_lines s first_register args) (order_lines k ++ rest) (arguments_code first_register args (omega (arith, few)) fine.trees)
      (both 3 3 (order_lines k) rest (order_code k h) (both 1 2 request (ask_lines k ++ result_lines s r) (request_code k) (both 1 1 (ask_lines k) (result_lines s r) (ask_code k) (result_code r fine.room)))))

pub calls_encoded : CallsHaveCode
calls_encoded s seats is_attributed = record {
  call = λ r f args small. call_code s seats is_attributed r f args (call_parts r f args small) (call_callee r f args small);
  known = λ r k args small. known_code s seats r k args (known_parts r k args small) (known_order r k args small);
}
