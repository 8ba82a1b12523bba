use Rattle.std.proofs.Common.{◌≡◌, ◌+◌, ◌^◌, ◌<◌, ◌≤◌, ◌++◌, drop, length, OnOk, length-drop, refl, sym, subst, ap, ◌∙◌, arith}
use Rattle.std.proofs.lemmas.Result.{on_ok_weaker}
use Rattle.mv_ir.specs.declared.stm.Stm as at
use Rattle.mv_ir.specs.Measures.{statements}
use Rattle.mv_select_code.specs.Statements.StatementCode.{set_lines, set_global_lines, divide_lines, check_lines, read_lines, write_lines}
use Rattle.mv_select_code.specs.declared.control.emitter.Emitter.{Emitter}
use Rattle.mv_select_code.specs.declared.control.layout.Space.{Space}
use Rattle.mv_select_code.specs.Control.FlowCode.{Emitted, home, size, tests, go_on, zero_lines, zero_code, if_code, loop_of, block_code, break_code, back_code, return_code, statement_code, code_of}
use Rattle.mv_select_code.specs.Control.Emitters.{with_lines, emitted}
use Rattle.mv_select_code.specs.Control.Layouts.{space_in, plan_in, is_small_statement, are_small}
use Rattle.mv_select_code.specs.Control.Staying.{TurnsBy}
use Rattle.mv_select_code.proofs.OfControl.Emitting.{branch_size, branch_small, tail_is, seats_same, as_kind, as_plain, labels_of, silent_emitted, zero_written, next_item, labels_last, labels_next, last_written, next_written, end_written, free_same}
use Rattle.mv_select_code.proofs.OfControl.Equations.{code_set, code_setglobal, code_divide, code_check, code_read, code_write, code_zero, code_if, code_loop, code_block, code_break, code_back, code_call, code_known, code_return}
use Rattle.mv_select_code.proofs.OfControl.Small.{small_set, small_set_global, small_divide, small_check, small_read, small_write, small_if, small_loop, small_block, small_calls, small_knowns, small_return, size_loop, size_block, size_if, size_at}
use Rattle.mv_select_code.proofs.control.statements.+statement.Goals as goal
use Rattle.mv_select_code.proofs.control.statements.+statement.Goals.{push_statement-in-Set+in_ok-push_set-in-Set, push_statement-in-SetGlobal+in_ok-push_set_global-in-SetGlobal, push_statement-in-Divide+in_ok-push_divide-in-Divide, push_statement-in-Check+in_ok-push_check_of-in-Check, push_statement-in-Read+in_ok-push_read_of-in-Read, push_statement-in-Write+in_ok-push_write_of-in-Write, push_statement-in-Zero+in_ok-push_zero-in-Zero, push_statement-in-Call+in_ok-push_call-in-Call, push_statement-in-Known+in_ok-push_known-in-Known}
use Rattle.mv_num.proofs.Booleans.{and_cases, and_left, and_right}

pub push_statement-push_set-requires-clause-temp : goal.push_statement-push_set-requires-clause-temp
push_statement-push_set-requires-clause-temp g t c =
    (small_set c.args.statement.now c.requires.small c.in-Set.t c.in-Set.v c.in-Set.is).0

pub push_statement-push_set-requires-clause-depth : goal.push_statement-push_set-requires-clause-depth
push_statement-push_set-requires-clause-depth g t c =
    (small_set c.args.statement.now c.requires.small c.in-Set.t c.in-Set.v c.in-Set.is).1.0

pub push_statement-push_set-requires-clause-temps : goal.push_statement-push_set-requires-clause-temps
push_statement-push_set-requires-clause-temps g t c =
    (small_set c.args.statement.now c.requires.small c.in-Set.t c.in-Set.v c.in-Set.is).1.1

pub push_statement-push_set_global-requires-clause-depth : goal.push_statement-push_set_global-requires-clause-depth
push_statement-push_set_global-requires-clause-depth g t c =
    (small_set_global c.args.statement.now c.requires.small c.in-SetGlobal.g c.in-SetGlobal.v c.in-SetGlobal.is).0

pub push_statement-push_set_global-requires-clause-temps : goal.push_statement-push_set_global-requires-clause-temps
push_statement-push_set_global-requires-clause-temps g t c =
    (small_set_global c.args.statement.now c.requires.small c.in-SetGlobal.g c.in-SetGlobal.v c.in-SetGlobal.is).1

pub push_statement-push_divide-requires-clause-temp : goal.push_statement-push_divide-requires-clause-temp
push_statement-push_divide-requires-clause-temp g t c =
    (small_divide c.args.statement.now c.requires.small c.in-Divide.t c.in-Divide.o c.in-Divide.a c.in-Divide.b c.in-Divide.is).0

pub push_statement-push_divide-requires-clause-dividend_depth : goal.push_statement-push_divide-requires-clause-dividend_depth
push_statement-push_divide-requires-clause-dividend_depth g t c =
    (small_divide c.args.statement.now c.requires.small c.in-Divide.t c.in-Divide.o c.in-Divide.a c.in-Divide.b c.in-Divide.is).1.0

pub push_statement-push_divide-requires-clause-dividend_temps : goal.push_statement-push_divide-requires-clause-dividend_temps
push_statement-push_divide-requires-clause-dividend_temps g t c =
    (small_divide c.args.statement.now c.requires.small c.in-Divide.t c.in-Divide.o c.in-Divide.a c.in-Divide.b c.in-Divide.is).1.1

pub push_statement-push_divide-requires-clause-divisor_depth : goal.push_statement-push_divide-requires-clause-divisor_depth
push_statement-push_divide-requires-clause-divisor_depth g t c =
    (small_divide c.args.statement.now c.requires.small c.in-Divide.t c.in-Divide.o c.in-Divide.a c.in-Divide.b c.in-Divide.is).2.0

pub push_statement-push_divide-requires-clause-divisor_temps : goal.push_statement-push_divide-requires-clause-divisor_temps
push_statement-push_divide-requires-clause-divisor_temps g t c =
    (small_divide c.args.statement.now c.requires.small c.in-Divide.t c.in-Divide.o c.in-Divide.a c.in-Divide.b c.in-Divide.is).2.1

pub push_statement-push_check_of-requires-clause-index : goal.push_statement-push_check_of-requires-clause-index
push_statement-push_check_of-requires-clause-index g t c =
    small_check c.args.statement.now c.requires.small c.in-Check.a c.in-Check.i c.in-Check.is

pub push_statement-push_read_of-requires-clause-temp : goal.push_statement-push_read_of-requires-clause-temp
push_statement-push_read_of-requires-clause-temp g t c =
    (small_read c.args.statement.now c.requires.small c.in-Read.t c.in-Read.a c.in-Read.i c.in-Read.is).0

pub push_statement-push_read_of-requires-clause-index : goal.push_statement-push_read_of-requires-clause-index
push_statement-push_read_of-requires-clause-index g t c =
    (small_read c.args.statement.now c.requires.small c.in-Read.t c.in-Read.a c.in-Read.i c.in-Read.is).1

pub push_statement-push_write_of-requires-clause-index : goal.push_statement-push_write_of-requires-clause-index
push_statement-push_write_of-requires-clause-index g t c =
    (small_write c.args.statement.now c.requires.small c.in-Write.a c.in-Write.i c.in-Write.v c.in-Write.is).0

pub push_statement-push_write_of-requires-clause-value : goal.push_statement-push_write_of-requires-clause-value
push_statement-push_write_of-requires-clause-value g t c =
    (small_write c.args.statement.now c.requires.small c.in-Write.a c.in-Write.i c.in-Write.v c.in-Write.is).1

pub push_statement-push_call-requires : goal.push_statement-push_call-requires
push_statement-push_call-requires g t c =
    small_calls c.args.statement.now c.requires.small c.in-Call.t c.in-Call.f c.in-Call.args c.in-Call.is

pub push_statement-push_known-requires : goal.push_statement-push_known-requires
push_statement-push_known-requires g t c =
    small_knowns c.args.statement.now c.requires.small c.in-Known.t c.in-Known.k c.in-Known.args c.in-Known.is

pub push_statement-push_return-requires : goal.push_statement-push_return-requires
push_statement-push_return-requires g t c = record { value = small_return c.args.statement.now c.requires.small c.in-Return.v c.in-Return.is }

pub push_statement-push_zero-requires-clause-label : goal.push_statement-push_zero-requires-clause-label
push_statement-push_zero-requires-clause-label g t c =
    let plan = plan_in c.args.layout.now (g.C.CallCode.lines c.args.calls.now) in
    let e = c.args.emitter.now in
    let s = c.args.statement.now in
    let a = c.in-Zero.a in
    let code = zero_code (plan.array_at a) (plan.array_size a) in
    let labels : e.free + code.labels < 2 ^ 32 = labels_of plan e s (at.Zero a) c.in-Zero.is code (code_zero plan a) c.requires.labels in
    omega (arith, labels)

pub push_statement-push_if-requires : goal.push_statement-push_if-requires
push_statement-push_if-requires g t c κs within =
    let plan = plan_in c.args.layout.now (g.C.CallCode.lines c.args.calls.now) in
    let e = c.args.emitter.now in
    let s = c.args.statement.now in
    let v = c.in-If.t in
    let a = c.in-If.a in
    let b = c.in-If.b in
    let labels = labels_of plan e s (at.If v a b) c.in-If.is (if_code plan.seats plan.end v (code_of plan a) (code_of plan b)) (code_if plan v a b) c.requires.labels in
    let size = size_if s v a b c.in-If.is in
    let small = small_if s c.requires.small v a b c.in-If.is in
    (omega (arith, size), (within, (c.requires.arrays, (small.0, (small.1, (small.2, labels))))))

pub push_statement-push_loop-requires : goal.push_statement-push_loop-requires
push_statement-push_loop-requires g t c κs within =
    let plan = plan_in c.args.layout.now (g.C.CallCode.lines c.args.calls.now) in
    let e = c.args.emitter.now in
    let s = c.args.statement.now in
    let labels = labels_of plan e s (at.Loop c.in-Loop.b) c.in-Loop.is (loop_of plan c.in-Loop.b) (code_loop plan c.in-Loop.b) c.requires.labels in
    let size = size_loop s c.in-Loop.b c.in-Loop.is in
    (omega (arith, size), (within, (c.requires.arrays, (small_loop s c.requires.small c.in-Loop.b c.in-Loop.is, labels))))

pub push_statement-returns-in-Loop : goal.push_statement-returns-in-Loop
push_statement-returns-in-Loop g t c =
    let plan = plan_in c.args.layout.now (g.C.CallCode.lines c.args.calls.now) in
    let e = c.args.emitter.now in
    let s = c.args.statement.now in
    on_ok_weaker c.push_loop.result (as_kind plan e s (at.Loop c.in-Loop.b) c.in-Loop.is c.args.way (loop_of plan c.in-Loop.b) c.push_loop.new.emitter (code_loop plan c.in-Loop.b)) c.push_loop.ensures

pub push_statement-push_block-requires : goal.push_statement-push_block-requires
push_statement-push_block-requires g t c κs within =
    let plan = plan_in c.args.layout.now (g.C.CallCode.lines c.args.calls.now) in
    let e = c.args.emitter.now in
    let s = c.args.statement.now in
    let labels = labels_of plan e s (at.Block c.in-Block.b) c.in-Block.is (block_code (code_of plan c.in-Block.b)) (code_block plan c.in-Block.b) c.requires.labels in
    let size = size_block s c.in-Block.b c.in-Block.is in
    (omega (arith, size), (within, (c.requires.arrays, (small_block s c.requires.small c.in-Block.b c.in-Block.is, labels))))

pub push_statement-returns-in-Block : goal.push_statement-returns-in-Block
push_statement-returns-in-Block g t c =
    let plan = plan_in c.args.layout.now (g.C.CallCode.lines c.args.calls.now) in
    let e = c.args.emitter.now in
    let s = c.args.statement.now in
    on_ok_weaker c.push_block.result (as_kind plan e s (at.Block c.in-Block.b) c.in-Block.is c.args.way (block_code (code_of plan c.in-Block.b)) c.push_block.new.emitter (code_block plan c.in-Block.b)) c.push_block.ensures

pub push_statement-returns-in-If : goal.push_statement-returns-in-If
push_statement-returns-in-If g t c =
    let plan = plan_in c.args.layout.now (g.C.CallCode.lines c.args.calls.now) in
    let e = c.args.emitter.now in
    let s = c.args.statement.now in
    let v = c.in-If.t in
    let a = c.in-If.a in
    let b = c.in-If.b in
    on_ok_weaker c.push_if.result (as_kind plan e s (at.If v a b) c.in-If.is c.args.way (if_code plan.seats plan.end v (code_of plan a) (code_of plan b)) c.push_if.new.emitter (code_if plan v a b)) c.push_if.ensures

pub push_statement-returns-in-Break : goal.push_statement-returns-in-Break
push_statement-returns-in-Break g t c =
    let plan = plan_in c.args.layout.now (g.C.CallCode.lines c.args.calls.now) in
    let e = c.args.emitter.now in
    let s = c.args.statement.now in
    let n = c.in-Break.n in
    let code = break_code plan.end n in
    on_ok_weaker c.push_break.result (λ h. as_kind plan e s (at.Break n) c.in-Break.is c.args.way code c.push_break.new.self (code_break plan n) (h ∙ silent_emitted e code c.args.way refl)) c.push_break.ensures

pub push_statement-returns-in-Back : goal.push_statement-returns-in-Back
push_statement-returns-in-Back g t c =
    let plan = plan_in c.args.layout.now (g.C.CallCode.lines c.args.calls.now) in
    let e = c.args.emitter.now in
    let s = c.args.statement.now in
    let n = c.in-Back.n in
    let code = back_code plan.end n in
    on_ok_weaker c.push_back.result (λ h. as_kind plan e s (at.Back n) c.in-Back.is c.args.way code c.push_back.new.self (code_back plan n) (h ∙ silent_emitted e code c.args.way refl)) c.push_back.ensures

pub push_statement-returns-in-Return : goal.push_statement-returns-in-Return
push_statement-returns-in-Return g t c =
    let plan = plan_in c.args.layout.now (g.C.CallCode.lines c.args.calls.now) in
    let e = c.args.emitter.now in
    let s = c.args.statement.now in
    let v = c.in-Return.v in
    on_ok_weaker c.push_return.result (as_kind plan e s (at.Return v) c.in-Return.is c.args.way (return_code plan.seats plan.end v) c.push_return.new.self (code_return plan v))
    (subst (λ s. OnOk c.push_return.result (c.push_return.new.self ≡ emitted e (return_code s plan.end v) c.args.way))
    (seats_same c.places-places.ensures.rooms c.places-places.ensures.keeping c.places-places.ensures.pins) c.push_return.ensures)

pub push_statement-returns : goal.push_statement-returns
push_statement-returns g t c =
    let plan = plan_in c.args.layout.now (g.C.CallCode.lines c.args.calls.now) in
    let e = c.args.emitter.now in
    let s = c.args.statement.now in
    let way = c.args.way in
    let seats = seats_same c.places-places.ensures.rooms c.places-places.ensures.keeping c.places-places.ensures.pins in
    on_ok_weaker c.go_on.result
    (λ h. elim c.match-statement.branch [
      | push_statement-in-Set+in_ok-push_set-in-Set w ↦
          as_plain plan e s (at.Set w.in-Set.t w.in-Set.v) w.in-Set.is way
          (set_lines plan.seats w.in-Set.t w.in-Set.v) w.push_set.new.code c.go_on.new.self (code_set plan w.in-Set.t w.in-Set.v)
          (subst (λ s. w.push_set.new.code ≡ e.lines ++ set_lines s w.in-Set.t w.in-Set.v) seats w.in_ok-push_set-in-Set.ensures)
          (h ∙ ap (λ x. with_lines x (go_on way)) w.emitter-is)
      | push_statement-in-SetGlobal+in_ok-push_set_global-in-SetGlobal w ↦
          as_plain plan e s (at.SetGlobal w.in-SetGlobal.g w.in-SetGlobal.v) w.in-SetGlobal.is way
          (set_global_lines plan.seats w.in-SetGlobal.g w.in-SetGlobal.v) w.push_set_global.new.code c.go_on.new.self
          (code_setglobal plan w.in-SetGlobal.g w.in-SetGlobal.v)
          (subst (λ s. w.push_set_global.new.code ≡ e.lines ++ set_global_lines s w.in-SetGlobal.g w.in-SetGlobal.v) seats w.in_ok-push_set_global-in-SetGlobal.ensures)
          (h ∙ ap (λ x. with_lines x (go_on way)) w.emitter-is)
      | push_statement-in-Divide+in_ok-push_divide-in-Divide w ↦
          as_plain plan e s (at.Divide w.in-Divide.t w.in-Divide.o w.in-Divide.a w.in-Divide.b) w.in-Divide.is way
          (divide_lines plan.seats w.in-Divide.t w.in-Divide.o w.in-Divide.a w.in-Divide.b) w.push_divide.new.code c.go_on.new.self
          (code_divide plan w.in-Divide.t w.in-Divide.o w.in-Divide.a w.in-Divide.b)
          (subst (λ s. w.push_divide.new.code ≡ e.lines ++ divide_lines s w.in-Divide.t w.in-Divide.o w.in-Divide.a w.in-Divide.b) seats w.in_ok-push_divide-in-Divide.ensures)
          (h ∙ ap (λ x. with_lines x (go_on way)) w.emitter-is)
      | push_statement-in-Check+in_ok-push_check_of-in-Check w ↦
          as_plain plan e s (at.Check w.in-Check.a w.in-Check.i) w.in-Check.is way
          (check_lines plan.seats (size plan w.in-Check.a) (tests plan w.in-Check.a) w.in-Check.i) w.push_check_of.new.code c.go_on.new.self
          (code_check plan w.in-Check.a w.in-Check.i) w.in_ok-push_check_of-in-Check.ensures (h ∙ ap (λ x. with_lines x (go_on way)) w.emitter-is)
      | push_statement-in-Read+in_ok-push_read_of-in-Read w ↦
          as_plain plan e s (at.Read w.in-Read.t w.in-Read.a w.in-Read.i) w.in-Read.is way
          (read_lines plan.seats w.in-Read.t (home plan w.in-Read.a) (size plan w.in-Read.a)
          (tests plan w.in-Read.a) w.in-Read.i) w.push_read_of.new.code c.go_on.new.self
          (code_read plan w.in-Read.t w.in-Read.a w.in-Read.i) w.in_ok-push_read_of-in-Read.ensures
          (h ∙ ap (λ x. with_lines x (go_on way)) w.emitter-is)
      | push_statement-in-Write+in_ok-push_write_of-in-Write w ↦
          as_plain plan e s (at.Write w.in-Write.a w.in-Write.i w.in-Write.v) w.in-Write.is way
          (write_lines plan.seats (home plan w.in-Write.a) (size plan w.in-Write.a)
          (tests plan w.in-Write.a) w.in-Write.i w.in-Write.v) w.push_write_of.new.code c.go_on.new.self
          (code_write plan w.in-Write.a w.in-Write.i w.in-Write.v) w.in_ok-push_write_of-in-Write.ensures
          (h ∙ ap (λ x. with_lines x (go_on way)) w.emitter-is)
      | push_statement-in-Zero+in_ok-push_zero-in-Zero w ↦ let a = w.in-Zero.a in
          let space = w.space_of.ensures.value ∙ ap (λ l. space_in l a) w.as_slice.ensures in
          let written = w.in_ok-push_zero-in-Zero.ensures ∙ ap (λ (x : Space). let r : Emitter = record e { lines = e.lines ++ zero_lines e.free x.at x.size; free = e.free + 2 } in r) space in
          as_kind plan e s (at.Zero a) w.in-Zero.is way (zero_code (plan.array_at a) (plan.array_size a)) c.go_on.new.self (code_zero plan a)
          (zero_written e w.push_zero.new.self c.go_on.new.self way (plan.array_at a) (plan.array_size a) written (h ∙ ap (λ x. with_lines x (go_on way)) w.emitter-is))
      | push_statement-in-Call+in_ok-push_call-in-Call w ↦
          as_plain plan e s (at.Call w.in-Call.t w.in-Call.f w.in-Call.args) w.in-Call.is way
          (plan.calls.call w.in-Call.t w.in-Call.f w.in-Call.args) w.push_call.new.code c.go_on.new.self
          (code_call plan w.in-Call.t w.in-Call.f w.in-Call.args) w.in_ok-push_call-in-Call.ensures
          (h ∙ ap (λ x. with_lines x (go_on way)) w.emitter-is)
      | push_statement-in-Known+in_ok-push_known-in-Known w ↦
          as_plain plan e s (at.Known w.in-Known.t w.in-Known.k w.in-Known.args) w.in-Known.is way
          (plan.calls.known w.in-Known.t w.in-Known.k w.in-Known.args) w.push_known.new.code c.go_on.new.self
          (code_known plan w.in-Known.t w.in-Known.k w.in-Known.args) w.in_ok-push_known-in-Known.ensures
          (h ∙ ap (λ x. with_lines x (go_on way)) w.emitter-is)
    ])
    c.go_on.ensures

pub push_list-loop-k-init : goal.push_list-loop-k-init
push_list-loop-k-init g t c = record { written = refl; small = c.requires.small }

pub push_list-push_statement-requires : goal.push_list-push_statement-requires
push_list-push_statement-requires g t c κs within =
    let plan = plan_in c.args.layout.now (g.C.CallCode.lines c.args.calls.now) in
    let xs = c.args.list.now in
    let i = c.loop-k.k in
    let s = c.index-list-k.result in
    let e = c.loop-k.emitter in
    let rest = drop (i + 1) xs in
    let low : i < length xs = omega (arith, c.loop-k-test.true) in
    let here = next_item xs i s low c.index-list-k.is in
    let none : length rest ≡ 0 = omega (arith, length-drop (i + 1) xs, c.if-k-list.true) in
    let small = and_left (is_small_statement s) (are_small rest) (ap are_small (sym here) ∙ c.loop-k.invariant.small) in
    let size = size_at xs i s s low c.index-list-k.is in
    let free = free_same e c.args.emitter.now (code_of plan (drop i xs)) (code_of plan c.args.list.now) c.args.way c.loop-k.invariant.written in
    let labels = labels_last plan (drop i xs) s rest none here in
    (omega (arith, size), (within, (c.requires.arrays, (small, omega (arith, labels, free)))))

pub push_list-returns-then-k-list : goal.push_list-returns-then-k-list
push_list-returns-then-k-list g t c =
    let plan = plan_in c.args.layout.now (g.C.CallCode.lines c.args.calls.now) in
    let xs = c.args.list.now in
    let i = c.loop-k.k in
    let s = c.index-list-k.result in
    let e = c.loop-k.emitter in
    let rest = drop (i + 1) xs in
    let low : i < length xs = omega (arith, c.loop-k-test.true) in
    let here = next_item xs i s low c.index-list-k.is in
    let none : length rest ≡ 0 = omega (arith, length-drop (i + 1) xs, c.if-k-list.true) in
    on_ok_weaker c.push_statement.result (λ h. last_written plan (drop i xs) s e c.push_statement.new.emitter c.args.way rest none here h ∙ c.loop-k.invariant.written) c.push_statement.ensures

pub push_list-take_label-after-requires : goal.push_list-take_label-after-requires
push_list-take_label-after-requires g t c =
    let plan = plan_in c.args.layout.now (g.C.CallCode.lines c.args.calls.now) in
    let xs = c.args.list.now in
    let i = c.loop-k.k in
    let s = c.index-list-k.result in
    let e = c.loop-k.emitter in
    let rest = drop (i + 1) xs in
    let low : i < length xs = omega (arith, c.loop-k-test.true) in
    let here = next_item xs i s low c.index-list-k.is in
    let some : 0 < length rest = omega (arith, length-drop (i + 1) xs, low, c.if-k-list.false) in
    let free = free_same e c.args.emitter.now (code_of plan (drop i xs)) (code_of plan c.args.list.now) c.args.way c.loop-k.invariant.written in
    omega (arith, labels_next plan (drop i xs) s rest some here, free)

pub push_list-push_statement-requires-in-loop-k : goal.push_list-push_statement-requires-in-loop-k
push_list-push_statement-requires-in-loop-k g t c κs within =
    let plan = plan_in c.args.layout.now (g.C.CallCode.lines c.args.calls.now) in
    let xs = c.args.list.now in
    let i = c.loop-k.k in
    let s = c.index-list-k.result in
    let e = c.loop-k.emitter in
    let rest = drop (i + 1) xs in
    let low : i < length xs = omega (arith, c.loop-k-test.true) in
    let here = next_item xs i s low c.index-list-k.is in
    let some : 0 < length rest = omega (arith, length-drop (i + 1) xs, low, c.if-k-list.false) in
    let small = and_left (is_small_statement s) (are_small rest) (ap are_small (sym here) ∙ c.loop-k.invariant.small) in
    let size = size_at xs i s s low c.index-list-k.is in
    let free = free_same e c.args.emitter.now (code_of plan (drop i xs)) (code_of plan c.args.list.now) c.args.way c.loop-k.invariant.written in
    let labels = labels_next plan (drop i xs) s rest some here in
    let taken : c.take_label-after.new.self.free ≡ e.free + 1 = ap (λ (x : Emitter). x.free) c.take_label-after.ensures.taken in
    (omega (arith, size), (within, (c.requires.arrays, (small, omega (arith, labels, free, taken)))))

pub push_list-loop-k-preserved : goal.push_list-loop-k-preserved
push_list-loop-k-preserved g t c =
    let plan = plan_in c.args.layout.now (g.C.CallCode.lines c.args.calls.now) in
    let xs = c.args.list.now in
    let i = c.loop-k.k in
    let s = c.index-list-k.result in
    let e = c.loop-k.emitter in
    let rest = drop (i + 1) xs in
    let low : i < length xs = omega (arith, c.loop-k-test.true) in
    let here = next_item xs i s low c.index-list-k.is in
    let some : 0 < length rest = omega (arith, length-drop (i + 1) xs, low, c.if-k-list.false) in
    let taken = c.take_label-after.new.self in
    let one = c.push_statement-in-loop-k.new.emitter in
    let next = next_written plan (drop i xs) s e taken one c.push_label.new.self c.take_label-after.result c.args.way rest some here c.take_label-after.ensures.label c.take_label-after.ensures.taken
    (c.in_ok-push_statement.ensures ∙ ap (emitted taken (statement_code plan s)) c.falling.ensures) c.in_ok-push_label.ensures in
    record {
      written = next ∙ c.loop-k.invariant.written;
      small = and_right (is_small_statement s) (are_small rest) (ap are_small (sym here) ∙ c.loop-k.invariant.small);
    }

pub push_list-returns : goal.push_list-returns
push_list-returns g t c =
    let plan = plan_in c.args.layout.now (g.C.CallCode.lines c.args.calls.now) in
    let xs = c.args.list.now in
    let i = c.loop-k.k in
    let past : length xs ≤ i = omega (arith, c.loop-k-test.false) in
    on_ok_weaker c.go_on.result (λ h. end_written plan xs i c.loop-k.emitter c.go_on.new.self c.args.way past h ∙ c.loop-k.invariant.written) c.go_on.ensures

pub push_loop-push_turned-requires : goal.push_loop-push_turned-requires
push_loop-push_turned-requires g t c κs within =
    let plan = plan_in c.args.layout.now (g.C.CallCode.lines c.args.calls.now) in
    let staying = c.in-Some.staying in
    let by = subst (TurnsBy c.as_slice-list.result.now) c.in-Some.is c.first_stays_for.ensures in
    let first = by.0 in
    let rest = by.1 in
    let tail = tail_is c.as_slice-list.result.now first rest by.2 in
    let body = sym c.as_slice-list.ensures ∙ by.2 in
    let small = and_cases (is_small_statement first) (are_small rest) (ap are_small (sym body) ∙ c.requires.small) in
    let parts = branch_small staying.test.now staying.list.now first by.3 small.0 in
    let size = branch_size staying.test.now staying.list.now first by.3 in
    let whole = ap statements body in
    let behind = ap statements tail in
    let code = ap (λ l. (loop_of plan l).labels) (sym c.as_slice-list.ensures) ∙ ap (λ (x : Emitted). x.labels) (by.4 plan) in
    let labels = ap (λ l. (code_of plan l).labels) tail in
    (omega (arith, size, whole, behind), (within, (c.requires.arrays, (parts.0, (parts.1, (ap are_small tail ∙ small.1, omega (arith, code, labels)))))))
