-- What holds of single lines and of lines that are put together holds of the code of calls.
use Rattle.std.proofs.Common.{◌≡◌, ℕ, suc, Bool, true, false, cond, List, [], ◌∷◌, ◌++◌, pos, Option, Some, None, All, refl, subst, append_assoc}
use Rattle.std.proofs.lemmas.List.Elements.{All-head}
use Rattle.mv_ast.specs.declared.program.Known.{Known}
use Rattle.mv_ast.specs.declared.program.Known.TheVariants.{Getchar, Putchar, Poll, Plan}
use Rattle.mv_isa.specs.declared.instr.Instr.TheVariants.{Addi, Jalr, Ecall}
use Rattle.mv_isa.specs.declared.labelled.Line.{Line}
use Rattle.mv_isa.specs.declared.labelled.Line.TheVariants.{Word, Jump, Branch, Point}
use Rattle.mv_isa.specs.Code.{nop}
use Rattle.mv_isa.specs.Registers.{ra as link_register, a0 as first_register, a1 as second_register, a7 as request_register, s11 as left_register, t3 as scratch_register}
use Rattle.mv_ir.specs.declared.tree.Tree.{Tree}
use Rattle.mv_ir.specs.declared.stm.Callee.{Callee}
use Rattle.mv_ir.specs.declared.stm.Callee.TheVariants as callee
use Rattle.mv_ir.specs.Measures.{callee_read}
use Rattle.mv_select_code.specs.Trees.TreeCode.{Seats, one, number_lines, minus_one, tree_into, tree_lines}
use Rattle.mv_select_code.specs.Statements.StatementCode.{trap_label, write_temp}
use Rattle.mv_select_code.specs.Control.Labels.{tree_functions, callee_functions, functions_of_all}
use Rattle.mv_select_code.proofs.OfControl.TreeNames.{all_front, all_back}
use Rattle.mv_select_code.proofs.OfControl.StatementsAreMade.{LineByLine, number_made, into_made}
use Rattle.mv_select.specs.Calls.CallCode.{request_of, commit_label, result_lines, back_lines, guarded_lines, slot_lines, entry_lines, jump_lines, pointer_lines, argument_lines, transfer_lines, call_lines, order_lines, ask_lines, known_lines}
use Rattle.mv_select.proofs.OfCalls.Closing.{Closes, arguments_close}

module _ {P : List Line → Type 0} {L J Q : ℕ → Type 0} (made : LineByLine P L J Q) where
  pub result_made : (s : Seats) (r : Option ℕ) → P (result_lines s r)
  result_made s None = made.none
  result_made s (Some t) = made.word (write_temp s t first_register)

  order_made : (k : Known) → P (order_lines k)
  order_made Getchar = made.none
  order_made Putchar = made.none
  order_made Poll = made.none
  order_made (Plan code index) = let i = Addi first_register 0 (pos code) in made.after (one i) (number_lines index second_register) (made.word i) (number_made made index second_register)

  pub argument_made : (s : Seats) (n : ℕ) (ts : List Tree) → All Q (functions_of_all ts) → P (argument_lines s n ts)
  argument_made s n [] h = made.none
  argument_made s n (t ∷ ts) h =
      let here = all_front Q (tree_functions t) (functions_of_all ts) h in
      let others = all_back Q (tree_functions t) (functions_of_all ts) h in
      made.after (tree_into s t n scratch_register) (argument_lines s (suc n) ts) (into_made made s t here n scratch_register) (argument_made s (suc n) ts others)

  -- ---- of known functions, where it holds of the call of the stub

  module _ (stub : P (Jump link_register commit_label ∷ [])) where
    ask_made : (k : Known) → P (ask_lines k)
    ask_made Getchar = made.word Ecall
    ask_made Putchar = made.word Ecall
    ask_made (Plan code index) = stub
    ask_made Poll = stub

    pub known_made : (s : Seats) (r : Option ℕ) (k : Known) (args : List Tree) → All Q (functions_of_all args) → P (known_lines s r k args)
    known_made s r k args h =
        let request = Addi request_register 0 (pos (request_of k)) in
        let asked = ask_lines k ++ result_lines s r in
        made.after (argument_lines s first_register args) (order_lines k ++ (one request ++ asked)) (argument_made s first_register args h)
        (made.after (order_lines k) (one request ++ asked) (order_made k)
        (made.after (one request) asked (made.word request) (made.after (ask_lines k) (result_lines s r) (ask_made k) (result_made s r))))

  -- ---- of functions, where it holds of a slot of the kind S behind the word that counts the call, of a jump to an entry of the kind C, and of a slot of four
  -- words, of the kind A, behind lines where it may stand

  module _ {C S A : ℕ → Type 0} (slot : (f : ℕ) → S f → P (Word (Addi left_register left_register minus_one) ∷ slot_lines f)) (enter : (f : ℕ) → C f → P (entry_lines f))
      (point : (front : List Line) (a : ℕ) → A a → P front → Closes front → P (front ++ (Point a ∷ []))) (null : J (trap_label 3)) (depth : J (trap_label 4)) (s : Seats) where
    back_made : (r : Option ℕ) → P (back_lines s r)
    back_made r = let more = Addi left_register left_register (pos 1) in made.after (one more) (result_lines s r) (made.word more) (result_made s r)

    guarded_made : (go : List Line) (r : Option ℕ) → P (Word (Addi left_register left_register minus_one) ∷ go) → P (guarded_lines s go r)
    guarded_made go r h =
        let less = Addi left_register left_register minus_one in
        made.after (Branch 0 left_register 0 (trap_label 4) ∷ []) (Word less ∷ (go ++ back_lines s r)) (made.branch 0 left_register 0 (trap_label 4) depth)
        (made.after (Word less ∷ go) (back_lines s r) h (back_made r))

    -- behind the word that counts the call
    counted_made : (go : List Line) (r : Option ℕ) → P go → P (guarded_lines s go r)
    counted_made go r h = let less = Addi left_register left_register minus_one in guarded_made go r (made.after (one less) go (made.word less) h)

    pointer_made : (r : Option ℕ) → P (pointer_lines s r)
    pointer_made r =
        made.after (Branch 0 scratch_register 0 (trap_label 3) ∷ []) (guarded_lines s jump_lines r) (made.branch 0 scratch_register 0 (trap_label 3) null)
        (counted_made jump_lines r (made.word (Jalr link_register scratch_register (pos 0))))

    direct_made : (is_slot : Bool) (f : ℕ) (r : Option ℕ) → C f → (is_slot ≡ true → S f) → P (cond is_slot (guarded_lines s (slot_lines f) r) (guarded_lines s (entry_lines f) r))
    direct_made true f r h is = guarded_made (slot_lines f) r (slot f (is refl))
    direct_made false f r h is = counted_made (entry_lines f) r (enter f h)

    -- the code of a pointer
    through_made : (t : Tree) → All Q (tree_functions t) → P (tree_lines s t scratch_register)
    unfolding tree_lines
    through_made t h = into_made made s t h scratch_register scratch_register

    module _ (is_attributed : ℕ → Bool) (slots : (f : ℕ) → Q f → is_attributed f ≡ true → S f) where
      passed_made : (f : Callee) (args : List Tree) (r : Option ℕ) → All Q (callee_functions f ++ functions_of_all args) → P (transfer_lines s is_attributed f r)
          → P (argument_lines s first_register args ++ transfer_lines s is_attributed f r)
      passed_made f args r h of_transfer =
          made.after (argument_lines s first_register args) (transfer_lines s is_attributed f r) (argument_made s first_register args (all_back Q (callee_functions f) (functions_of_all args) h)) of_transfer

      pub call_made : (r : Option ℕ) (f : Callee) (args : List Tree) → All Q (callee_functions f ++ functions_of_all args) → All C (callee_functions f) → All (λ g. A (s.place g)) (callee_read f)
          → P (call_lines s is_attributed r f args)
      call_made r (callee.Direct f) args h e k =
          let named = All-head Q f (functions_of_all args) h in
          passed_made (callee.Direct f) args r h (direct_made (is_attributed f) f r (All-head C f [] e) (slots f named))
      call_made r (callee.Through t) args h e k =
          passed_made (callee.Through t) args r h
          (made.after (tree_lines s t scratch_register) (pointer_lines s r) (through_made t (all_front Q (tree_functions t) (functions_of_all args) h)) (pointer_made r))
      call_made r (callee.Switched g) [] h e k =
          made.after (one nop ++ (Point (s.place g) ∷ [])) (back_lines s r) (point (one nop) (s.place g) (All-head (λ g. A (s.place g)) g [] k) (made.word nop) refl) (back_made r)
      call_made r (callee.Switched g) (t ∷ ts) h e k =
          let front = argument_lines s first_register (t ∷ ts) in
          let at = Point (s.place g) ∷ [] in
          subst P (append_assoc front at (back_lines s r))
          (made.after (front ++ at) (back_lines s r) (point front (s.place g) (All-head (λ g. A (s.place g)) g [] k) (argument_made s first_register (t ∷ ts) h) (arguments_close s first_register t ts)) (back_made r))
      call_made r callee.Expanded args h e k = passed_made callee.Expanded args r h (made.branch 0 left_register 0 (trap_label 4) depth)
