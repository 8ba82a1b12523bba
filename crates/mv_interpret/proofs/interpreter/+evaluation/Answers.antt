use Rattle.std.proofs.Common.{◌≡◌, refl, rules, alloc_error, arith, subst, sym, ap, ◌∙◌, Err, Ok, true, false, ℕ, List, [], map, length, drop, ◌≤◌, if◌then◌else◌, Option}
use Rattle.std.specs.Option.{option_copied}
use Rattle.std.proofs.lemmas.List.{length-map}
use Rattle.mv_ast.specs.declared.program.Expr.{Expr}
use Rattle.mv_ast.specs.Names.{any_of, names_local}
use Rattle.mv_meaning.specs.declared.state.Frame.{Frame}
use Rattle.mv_meaning.specs.declared.state.Flow.{Flow}
use Rattle.std.specs.Prelude.{slice_index, option_to_list}
use denote.Param.Weighed.{most-append}
use Rattle.mv_ast.specs.declared.program.Expr.{size-Expr}
use Rattle.mv_ast.specs.declared.program.Form.{out-Form}
use Rattle.mv_ast.specs.declared.program.Form.TheVariants.{outs-Number, outs-Read, outs-Function, outs-Unary, outs-Binary, outs-Both, outs-Either, outs-Choose, outs-Convert, outs-Set, outs-Change, outs-After, outs-Direct, outs-Through, outs-Known}
use Rattle.mv_ast.specs.declared.program.Target.{out-Target}
use Rattle.mv_ast.specs.declared.program.Target.TheVariants.{outs-Global, outs-Local, outs-GlobalAt, outs-LocalAt}
use Rattle.mv_ast.specs.declared.program.Stmt.{out-Stmt, roll-Stmt}
use Rattle.mv_ast.specs.declared.program.Stmt.TheOpen as stmt
use Rattle.mv_ast.specs.declared.program.Stmt.TheVariants.{outs-Block, outs-Clear, outs-Express, outs-If, outs-While, outs-Do, outs-For, outs-Switch, outs-Break, outs-Continue, outs-Return}
use Rattle.mv_ast.specs.Numbering.{own_numbers}
use Rattle.mv_ast.specs.Worlds.{bind, give, counted}
use Rattle.mv_meaning.specs.declared.state.Lvalue.TheVariants as lvalue
use Rattle.mv_interpret.specs.declared.state.Halt.TheVariants as halt
use Rattle.mv_meaning.specs.declared.state.Flow.TheVariants.{Goes, Breaks, Continues}
use Rattle.mv_meaning.specs.Meaning.{Evaluation, read_as, known_value, global_element, local_element, value_of, lvalue_of, values_of_all, optional_value, then_on, unless_zero, flow_of_all, put_values}
use Rattle.mv_interpret.specs.Runs.{IsOutcome, world_of, goes_back, optional_outcome}
use Rattle.mv_meaning.specs.Loops.{own_context, for_from, arms_from}
use Rattle.mv_interpret.proofs.Calls.{too_deep, out_of_bound, missing, went_through, failed_inside, through_null, through_some, through_none}
use Rattle.mv_meaning.proofs.Contexts.{numbers_at}
use Rattle.mv_interpret.proofs.Depths.{stmt_within, arm_within, arms_within, stmts_depth, arms_depth, below-Block, below-Clear, below-Express, below-If, below-While, below-Do, below-For, below-Switch, below-Return, less_spent, spent_less}
use Rattle.mv_meaning.proofs.Equations.{value_of-Number, value_of-Read, value_of-Function, value_of-Unary, value_of-Binary, value_of-Both, value_of-Either, value_of-Choose, value_of-Convert, value_of-Set, value_of-Change, value_of-After, value_of-Direct, value_of-Through, value_of-Known, callee_of-Read, lvalue_of-Global, lvalue_of-Local, lvalue_of-GlobalAt, lvalue_of-LocalAt, flow_of-Block, flow_of-Clear, flow_of-Express, flow_of-If, flow_of-While, flow_of-Do, flow_of-For, flow_of-Switch, flow_of-Break, flow_of-Continue, flow_of-Return}
use Rattle.mv_interpret.proofs.Lists.{values_init, values_step, values_fail, values_end}
use Rattle.mv_interpret.proofs.Orders.{flows_step, flows_left, flows_fail, then_on-other}
use Rattle.mv_interpret.proofs.Steps.{within, reached, in_range, out_of_range, on, failed, gave, halted, begun, zero_way, other_way, truth-zero, truth-one, stored_in, changed, unchanged, stepped_after}
use Rattle.mv_interpret.proofs.Steps.{all_done}
use Rattle.mv_interpret.proofs.Stores.{stores_step, stores_fail, cleared}
use Rattle.mv_interpret.proofs.SwitchRuns.{arms_step, arms_left, arms_fail, switched}
use Rattle.mv_interpret.proofs.Turns.{elsewhere, carried, is_back, left_loop, while_back, do_back, for_back, no_turn, while_turned, do_turned, for_turned}
use Rattle.mv_interpret.proofs.interpreter.+evaluation.Goals as goal

pub value_of-returns-in-Number : goal.value_of-returns-in-Number
value_of-returns-in-Number t c =
    begun c.args.here c.args.frame.now c.args.state.now (give c.in-Number.n) (value_of-Number c.args.program.now (own_context c.args.program.now c.args.here.bound) c.args.e.now c.in-Number.n
    (ap out-Form c.in-Number.is ∙ outs-Number c.in-Number.n)) c.count.ensures (λ le0.
    gave le0)

pub value_of-returns-in_err-lvalue-in-Read : goal.value_of-returns-in_err-lvalue-in-Read
value_of-returns-in_err-lvalue-in-Read t c =
    let r : c.from_residual.result ≡ Err c.in_err-lvalue-in-Read.field-0.0 = search rules in
    rw r (begun c.args.here c.args.frame.now c.args.state.now _ (value_of-Read c.args.program.now (own_context c.args.program.now c.args.here.bound) c.args.e.now c.in-Read.target
    (ap out-Form c.in-Read.is ∙ outs-Read c.in-Read.target)) c.count.ensures (λ le0.
    failed _ _ _ c.in_err-lvalue-in-Read.ensures))

pub value_of-returns-in_ok-lvalue-in-Read : goal.value_of-returns-in_ok-lvalue-in-Read
value_of-returns-in_ok-lvalue-in-Read t c =
    rw (c.read_lvalue.ensures) (begun c.args.here c.args.frame.now c.args.state.now _ (value_of-Read c.args.program.now (own_context c.args.program.now c.args.here.bound) c.args.e.now c.in-Read.target
    (ap out-Form c.in-Read.is ∙ outs-Read c.in-Read.target)) c.count.ensures (λ le0.
    on _ _ c.in_ok-lvalue-in-Read.ensures (λ le1. gave le1)))

pub value_of-returns-in_err-v-in-Unary : goal.value_of-returns-in_err-v-in-Unary
value_of-returns-in_err-v-in-Unary t c =
    let r : c.from_residual-in_err-v-in-Unary.result ≡ Err c.in_err-v-in-Unary.field-0.0 = search rules in
    rw r (begun c.args.here c.args.frame.now c.args.state.now _ (value_of-Unary c.args.program.now (own_context c.args.program.now c.args.here.bound) c.args.e.now c.in-Unary.op c.in-Unary.a
    (ap out-Form c.in-Unary.is ∙ outs-Unary c.in-Unary.op c.in-Unary.a)) c.count.ensures (λ le0.
    failed _ _ _ (rw c.get.ensures at c.in_err-v-in-Unary.ensures)))

pub value_of-returns-in_ok-v-in-Unary : goal.value_of-returns-in_ok-v-in-Unary
value_of-returns-in_ok-v-in-Unary t c =
    rw (c.unary_value.ensures) (begun c.args.here c.args.frame.now c.args.state.now _ (value_of-Unary c.args.program.now (own_context c.args.program.now c.args.here.bound) c.args.e.now c.in-Unary.op c.in-Unary.a
    (ap out-Form c.in-Unary.is ∙ outs-Unary c.in-Unary.op c.in-Unary.a)) c.count.ensures (λ le0.
    on _ _ (rw c.get.ensures at c.in_ok-v-in-Unary.ensures) (λ le1. gave le1)))

pub value_of-returns-in_err-v-in-Convert : goal.value_of-returns-in_err-v-in-Convert
value_of-returns-in_err-v-in-Convert t c =
    let r : c.from_residual-in_err-v-in-Convert.result ≡ Err c.in_err-v-in-Convert.field-0.0 = search rules in
    rw r (begun c.args.here c.args.frame.now c.args.state.now _ (value_of-Convert c.args.program.now (own_context c.args.program.now c.args.here.bound) c.args.e.now c.in-Convert.a
    (ap out-Form c.in-Convert.is ∙ outs-Convert c.in-Convert.a)) c.count.ensures (λ le0.
    failed _ _ _ (rw c.get-in-Convert.ensures at c.in_err-v-in-Convert.ensures)))

pub value_of-returns-in_ok-v-in-Convert : goal.value_of-returns-in_ok-v-in-Convert
value_of-returns-in_ok-v-in-Convert t c =
    rw (c.converted.ensures) (begun c.args.here c.args.frame.now c.args.state.now _ (value_of-Convert c.args.program.now (own_context c.args.program.now c.args.here.bound) c.args.e.now c.in-Convert.a
    (ap out-Form c.in-Convert.is ∙ outs-Convert c.in-Convert.a)) c.count.ensures (λ le0.
    on _ _ (rw c.get-in-Convert.ensures at c.in_ok-v-in-Convert.ensures) (λ le1. gave le1)))

pub value_of-returns-in-Binary : goal.value_of-returns-in-Binary
value_of-returns-in-Binary t c =
    let a = c.args in
    begun a.here a.frame.now a.state.now _ (value_of-Binary a.program.now (own_context a.program.now a.here.bound) a.e.now c.in-Binary.op c.in-Binary.a c.in-Binary.b
    (ap out-Form c.in-Binary.is ∙ outs-Binary c.in-Binary.op c.in-Binary.a c.in-Binary.b)) c.count.ensures (λ le0. rw (c.get-in-Binary.ensures, c.get-in-Binary-2.ensures) at c.value_of_binary.ensures)

pub value_of-returns-in-Both : goal.value_of-returns-in-Both
value_of-returns-in-Both t c =
    let a = c.args in
    begun a.here a.frame.now a.state.now _ (value_of-Both a.program.now (own_context a.program.now a.here.bound) a.e.now c.in-Both.a c.in-Both.b
    (ap out-Form c.in-Both.is ∙ outs-Both c.in-Both.a c.in-Both.b)) c.count.ensures (λ le0. rw (c.get-in-Both.ensures, c.get-in-Both-2.ensures) at c.value_of_both.ensures)

pub value_of-returns-in-Either : goal.value_of-returns-in-Either
value_of-returns-in-Either t c =
    let a = c.args in
    begun a.here a.frame.now a.state.now _ (value_of-Either a.program.now (own_context a.program.now a.here.bound) a.e.now c.in-Either.a c.in-Either.b
    (ap out-Form c.in-Either.is ∙ outs-Either c.in-Either.a c.in-Either.b)) c.count.ensures (λ le0. rw (c.get-in-Either.ensures, c.get-in-Either-2.ensures) at c.value_of_either.ensures)

pub value_of-returns-in-Choose : goal.value_of-returns-in-Choose
value_of-returns-in-Choose t c =
    let a = c.args in
    begun a.here a.frame.now a.state.now _ (value_of-Choose a.program.now (own_context a.program.now a.here.bound) a.e.now c.in-Choose.c c.in-Choose.a c.in-Choose.b
    (ap out-Form c.in-Choose.is ∙ outs-Choose c.in-Choose.c c.in-Choose.a c.in-Choose.b)) c.count.ensures (λ le0. rw (c.get-in-Choose.ensures, c.get-in-Choose-2.ensures, c.get-in-Choose-3.ensures) at c.value_of_choice.ensures)

pub value_of-returns-in-Set : goal.value_of-returns-in-Set
value_of-returns-in-Set t c =
    let a = c.args in
    begun a.here a.frame.now a.state.now _ (value_of-Set a.program.now (own_context a.program.now a.here.bound) a.e.now c.in-Set.target c.in-Set.a
    (ap out-Form c.in-Set.is ∙ outs-Set c.in-Set.target c.in-Set.a)) c.count.ensures (λ le0. rw c.get-in-Set.ensures at c.value_of_set.ensures)

pub value_of-returns-in-Change : goal.value_of-returns-in-Change
value_of-returns-in-Change t c =
    let a = c.args in
    begun a.here a.frame.now a.state.now _ (value_of-Change a.program.now (own_context a.program.now a.here.bound) a.e.now c.in-Change.op c.in-Change.kind c.in-Change.target c.in-Change.a
    (ap out-Form c.in-Change.is ∙ outs-Change c.in-Change.op c.in-Change.kind c.in-Change.target c.in-Change.a)) c.count.ensures (λ le0. rw c.get-in-Change.ensures at c.value_of_change.ensures)

pub value_of-returns-in-After : goal.value_of-returns-in-After
value_of-returns-in-After t c =
    let a = c.args in
    begun a.here a.frame.now a.state.now _ (value_of-After a.program.now (own_context a.program.now a.here.bound) a.e.now c.in-After.up c.in-After.target
    (ap out-Form c.in-After.is ∙ outs-After c.in-After.up c.in-After.target)) c.count.ensures (λ le0. c.value_of_after.ensures)

pub value_of-returns-in-Direct : goal.value_of-returns-in-Direct
value_of-returns-in-Direct t c =
    let a = c.args in
    begun a.here a.frame.now a.state.now _ (value_of-Direct a.program.now (own_context a.program.now a.here.bound) a.e.now c.in-Direct.f c.in-Direct.args
    (ap out-Form c.in-Direct.is ∙ outs-Direct c.in-Direct.f c.in-Direct.args)) c.count.ensures (λ le0. c.value_of_call.ensures)

pub value_of-returns-in-Through : goal.value_of-returns-in-Through
value_of-returns-in-Through t c =
    let a = c.args in
    begun a.here a.frame.now a.state.now _ (value_of-Through a.program.now (own_context a.program.now a.here.bound) a.e.now c.in-Through.args c.in-Through.callee
    (ap out-Form c.in-Through.is ∙ outs-Through c.in-Through.args c.in-Through.callee)) c.count.ensures (λ le0. c.value_of_call_through.ensures a.e.now.ctype)

pub value_of-returns-in-Known : goal.value_of-returns-in-Known
value_of-returns-in-Known t c =
    let a = c.args in
    let p = a.program.now in
    let around = own_context p a.here.bound in
    begun a.here a.frame.now a.state.now _
    (value_of-Known p around a.e.now c.in-Known.known c.in-Known.args (ap out-Form c.in-Known.is ∙ outs-Known c.in-Known.known c.in-Known.args) ∙
    ap (λ ns. counted 1 (bind (values_of_all p around c.in-Known.args) (known_value p ns c.in-Known.known))) (numbers_at p (own_numbers p) a.here.bound))
    c.count.ensures (λ le0. c.value_of_known.ensures)

pub callee_of-returns-in-Read : goal.callee_of-returns-in-Read
callee_of-returns-in-Read t c =
    let a = c.args in
    let p = a.program.now in
    let around = own_context p a.here.bound in
    rw (c.read_callee.ensures)
    (begun a.here a.frame.now a.state.now _
    (callee_of-Read p around a.e.now c.in-Read.target (ap (λ e. out-Form e.what) (sym c.get.ensures) ∙ ap out-Form c.in-Read.is ∙ outs-Read c.in-Read.target) ∙
    ap (λ ns. counted 1 (bind (lvalue_of p around c.in-Read.target) (read_as p ns true))) (numbers_at p (own_numbers p) a.here.bound))
    c.count.ensures (λ le0. on _ _ c.in_ok-lvalue.ensures (λ le1. gave le1)))

pub value_of_binary-returns-in_err-x : goal.value_of_binary-returns-in_err-x
value_of_binary-returns-in_err-x t c =
    let r : c.from_residual.result ≡ Err c.in_err-x.field-0.0 = search rules in
    rw r (failed _ _ _ c.in_err-x.ensures)

pub value_of_binary-returns-in_err-y : goal.value_of_binary-returns-in_err-y
value_of_binary-returns-in_err-y t c =
    let r : c.from_residual-in_err-y.result ≡ Err c.in_err-y.field-0.0 = search rules in
    rw r (on _ _ c.in_ok-x.ensures (λ le1. failed _ _ _ c.in_err-y.ensures))

pub value_of_binary-returns-in-Some : goal.value_of_binary-returns-in-Some
value_of_binary-returns-in-Some t c =
    on _ _ c.in_ok-x.ensures (λ le1. on _ _ c.in_ok-y.ensures (λ le2. rw (← c.in-Some.ensures) (gave le2)))

pub value_of_binary-returns-in-None : goal.value_of_binary-returns-in-None
value_of_binary-returns-in-None t c =
    on _ _ c.in_ok-x.ensures (λ le1. on _ _ c.in_ok-y.ensures (λ le2. rw (← c.in-None.ensures) (halted le2)))

pub value_of_both-returns-in_err-x : goal.value_of_both-returns-in_err-x
value_of_both-returns-in_err-x t c =
    let r : c.from_residual.result ≡ Err c.in_err-x.field-0.0 = search rules in
    rw r (failed _ _ _ c.in_err-x.ensures)

pub value_of_both-returns-then-x-eq0 : goal.value_of_both-returns-then-x-eq0
value_of_both-returns-then-x-eq0 t c =
    on _ _ c.in_ok-x.ensures (λ le1. zero_way _ _ c.if-x-eq0.true (gave le1))

pub value_of_both-returns-in_err-y : goal.value_of_both-returns-in_err-y
value_of_both-returns-in_err-y t c =
    let r : c.from_residual-in_err-y.result ≡ Err c.in_err-y.field-0.0 = search rules in
    rw r (on _ _ c.in_ok-x.ensures (λ le1. other_way _ _ c.if-x-eq0.false (failed _ _ _ c.in_err-y.ensures)))

pub value_of_both-returns-then-y-eq0 : goal.value_of_both-returns-then-y-eq0
value_of_both-returns-then-y-eq0 t c =
    on _ _ c.in_ok-x.ensures (λ le1. other_way _ _ c.if-x-eq0.false (on _ _ c.in_ok-y.ensures (λ le2. rw (truth-zero _ c.if-y-eq0.true) (gave le2))))

pub value_of_both-returns-else-y-eq0 : goal.value_of_both-returns-else-y-eq0
value_of_both-returns-else-y-eq0 t c =
    on _ _ c.in_ok-x.ensures (λ le1. other_way _ _ c.if-x-eq0.false (on _ _ c.in_ok-y.ensures (λ le2. rw (truth-one _ c.if-y-eq0.false) (gave le2))))

pub value_of_either-returns-in_err-x : goal.value_of_either-returns-in_err-x
value_of_either-returns-in_err-x t c =
    let r : c.from_residual.result ≡ Err c.in_err-x.field-0.0 = search rules in
    rw r (failed _ _ _ c.in_err-x.ensures)

pub value_of_either-returns-then-x-ne0 : goal.value_of_either-returns-then-x-ne0
value_of_either-returns-then-x-ne0 t c =
    on _ _ c.in_ok-x.ensures (λ le1. other_way _ _ c.if-x-ne0.true (gave le1))

pub value_of_either-returns-in_err-y : goal.value_of_either-returns-in_err-y
value_of_either-returns-in_err-y t c =
    let r : c.from_residual-in_err-y.result ≡ Err c.in_err-y.field-0.0 = search rules in
    rw r (on _ _ c.in_ok-x.ensures (λ le1. zero_way _ _ c.if-x-ne0.false (failed _ _ _ c.in_err-y.ensures)))

pub value_of_either-returns-then-y-eq0 : goal.value_of_either-returns-then-y-eq0
value_of_either-returns-then-y-eq0 t c =
    on _ _ c.in_ok-x.ensures (λ le1. zero_way _ _ c.if-x-ne0.false (on _ _ c.in_ok-y.ensures (λ le2. rw (truth-zero _ c.if-y-eq0.true) (gave le2))))

pub value_of_either-returns-else-y-eq0 : goal.value_of_either-returns-else-y-eq0
value_of_either-returns-else-y-eq0 t c =
    on _ _ c.in_ok-x.ensures (λ le1. zero_way _ _ c.if-x-ne0.false (on _ _ c.in_ok-y.ensures (λ le2. rw (truth-one _ c.if-y-eq0.false) (gave le2))))

pub value_of_choice-returns-in_err-x : goal.value_of_choice-returns-in_err-x
value_of_choice-returns-in_err-x t c =
    let r : c.from_residual.result ≡ Err c.in_err-x.field-0.0 = search rules in
    rw r (failed _ _ _ c.in_err-x.ensures)

pub value_of_choice-returns-then-x-eq0 : goal.value_of_choice-returns-then-x-eq0
value_of_choice-returns-then-x-eq0 t c =
    on _ _ c.in_ok-x.ensures (λ le1. zero_way _ _ c.if-x-eq0.true c.value_of-then-x-eq0.ensures)

pub value_of_choice-returns-else-x-eq0 : goal.value_of_choice-returns-else-x-eq0
value_of_choice-returns-else-x-eq0 t c =
    on _ _ c.in_ok-x.ensures (λ le1. other_way _ _ c.if-x-eq0.false c.value_of-else-x-eq0.ensures)

pub value_of_set-returns-in_err-lvalue : goal.value_of_set-returns-in_err-lvalue
value_of_set-returns-in_err-lvalue t c =
    let r : c.from_residual.result ≡ Err c.in_err-lvalue.field-0.0 = search rules in
    rw r (failed _ _ _ c.in_err-lvalue.ensures)

pub value_of_set-returns-in_err-v : goal.value_of_set-returns-in_err-v
value_of_set-returns-in_err-v t c =
    let r : c.from_residual-in_err-v.result ≡ Err c.in_err-v.field-0.0 = search rules in
    rw r (on _ _ c.in_ok-lvalue.ensures (λ le1. failed _ _ _ c.in_err-v.ensures))

pub value_of_set-returns : goal.value_of_set-returns
value_of_set-returns t c =
    rw (c.store_lvalue.ensures.globals, c.store_lvalue.ensures.locals) (on _ _ c.in_ok-lvalue.ensures (λ le1. on _ _ c.in_ok-v.ensures (λ le2. stored_in _ _ _ _ _ le2)))

pub value_of_change-returns-in_err-lvalue : goal.value_of_change-returns-in_err-lvalue
value_of_change-returns-in_err-lvalue t c =
    let r : c.from_residual.result ≡ Err c.in_err-lvalue.field-0.0 = search rules in
    rw r (failed _ _ _ c.in_err-lvalue.ensures)

pub value_of_change-returns-in_err-v : goal.value_of_change-returns-in_err-v
value_of_change-returns-in_err-v t c =
    let r : c.from_residual-in_err-v.result ≡ Err c.in_err-v.field-0.0 = search rules in
    rw r (on _ _ c.in_ok-lvalue.ensures (λ le1. failed _ _ _ c.in_err-v.ensures))

pub value_of_change-returns-in-Some : goal.value_of_change-returns-in-Some
value_of_change-returns-in-Some t c =
    let a = c.args in
    rw (c.store_lvalue.ensures.globals, c.store_lvalue.ensures.locals) (on _ _ c.in_ok-lvalue.ensures (λ le1. on _ _ c.in_ok-v.ensures (λ le2.
    changed a.program.now a.here c.in_ok-lvalue.lvalue _ _ le2 a.change.op a.change.kind a.change.ctype c.in_ok-v.v _ _ _ c.read_lvalue-old.ensures c.in-Some.ensures c.converted-stored.ensures)))

pub value_of_change-returns-in-None : goal.value_of_change-returns-in-None
value_of_change-returns-in-None t c =
    let a = c.args in
    on _ _ c.in_ok-lvalue.ensures (λ le1. on _ _ c.in_ok-v.ensures (λ le2.
    unchanged a.program.now a.here c.in_ok-lvalue.lvalue _ _ le2 a.change.op a.change.kind a.change.ctype c.in_ok-v.v _ c.read_lvalue-old.ensures c.in-None.ensures))

pub value_of_after-returns-in_err-lvalue : goal.value_of_after-returns-in_err-lvalue
value_of_after-returns-in_err-lvalue t c =
    let r : c.from_residual.result ≡ Err c.in_err-lvalue.field-0.0 = search rules in
    rw r (failed _ _ _ c.in_err-lvalue.ensures)

pub value_of_after-returns : goal.value_of_after-returns
value_of_after-returns t c =
    let a = c.args in
    rw (c.store_lvalue.ensures.globals, c.store_lvalue.ensures.locals) (on _ _ c.in_ok-lvalue.ensures (λ le1.
    stepped_after a.program.now a.here c.in_ok-lvalue.lvalue _ _ le1 a.up a.ctype _ _ _ c.read_lvalue-old.ensures c.stepped.ensures c.converted-stored.ensures))

pub value_of_call-returns-in_err-values : goal.value_of_call-returns-in_err-values
value_of_call-returns-in_err-values t c =
    let r : c.from_residual.result ≡ Err c.in_err-values.field-0.0 = search rules in
    rw r (failed _ _ _ c.in_err-values.ensures)

pub value_of_call-returns : goal.value_of_call-returns
value_of_call-returns t c =
    on _ _ c.in_ok-values.ensures (λ le1. c.call.ensures)

pub value_of_known-returns-in_err-values : goal.value_of_known-returns-in_err-values
value_of_known-returns-in_err-values t c =
    let r : c.from_residual.result ≡ Err c.in_err-values.field-0.0 = search rules in
    rw r (failed _ _ _ c.in_err-values.ensures)

pub value_of_known-returns : goal.value_of_known-returns
value_of_known-returns t c =
    on _ _ c.in_ok-values.ensures (λ le1. c.known_value.ensures)

pub value_of_call_through-returns-in_err-values : goal.value_of_call_through-returns-in_err-values
value_of_call_through-returns-in_err-values t c =
    λ type. let r : c.from_residual.result ≡ Err c.in_err-values.field-0.0 = search rules in
    rw r (failed _ _ _ c.in_err-values.ensures)

pub value_of_call_through-returns-in_err-v : goal.value_of_call_through-returns-in_err-v
value_of_call_through-returns-in_err-v t c =
    λ type. let r : c.from_residual-in_err-v.result ≡ Err c.in_err-v.field-0.0 = search rules in
    rw r (on _ _ c.in_ok-values.ensures (λ le1. failed _ _ _ c.in_err-v.ensures))

pub value_of_call_through-returns-then-v-eq0 : goal.value_of_call_through-returns-then-v-eq0
value_of_call_through-returns-then-v-eq0 t c =
    λ type.
    let a = c.args in
    on _ _ c.in_ok-values.ensures (λ le1. on _ _ c.in_ok-v.ensures (λ le2. through_null a.program.now a.here type c.in_ok-values.values c.callee_of.new.frame c.callee_of.new.state c.in_ok-v.v c.if-v-eq0.true le2))

pub value_of_call_through-returns-in-Some : goal.value_of_call_through-returns-in-Some
value_of_call_through-returns-in-Some t c =
    λ type.
    let a = c.args in
    let found = sym c.function_of_number.ensures ∙ c.in-Some.is in
    on _ _ c.in_ok-values.ensures
    (λ le1. on _ _ c.in_ok-v.ensures
    (λ le2. through_some a.program.now a.here type c.in_ok-values.values c.callee_of.new.frame c.callee_of.new.state c.in_ok-v.v c.in-Some.f
    c.if-v-eq0.false found c.call.ensures))

pub value_of_call_through-returns : goal.value_of_call_through-returns
value_of_call_through-returns t c =
    λ type.
    let a = c.args in
    let found = sym c.function_of_number.ensures ∙ c.in-None.is in
    on _ _ c.in_ok-values.ensures (λ le1. on _ _ c.in_ok-v.ensures (λ le2. through_none a.program.now a.here type c.in_ok-values.values c.callee_of.new.frame c.callee_of.new.state c.in_ok-v.v c.if-v-eq0.false found le2))

pub lvalue_of-returns-in-Global : goal.lvalue_of-returns-in-Global
lvalue_of-returns-in-Global t c =
    let a = c.args in
    subst (λ d. IsOutcome a.state.now.work (d a.frame.now (world_of a.here a.state.now)) a.here (Ok (lvalue.Global c.in-Global.g 0)) a.frame.now a.state.now)
    (sym (lvalue_of-Global a.program.now (own_context a.program.now a.here.bound) a.target.now c.in-Global.g (ap out-Target c.in-Global.is ∙ outs-Global c.in-Global.g)))
    (gave (omega arith))

pub lvalue_of-returns-in-Local : goal.lvalue_of-returns-in-Local
lvalue_of-returns-in-Local t c =
    let a = c.args in
    subst (λ d. IsOutcome a.state.now.work (d a.frame.now (world_of a.here a.state.now)) a.here (Ok (lvalue.Local c.in-Local.l 0)) a.frame.now a.state.now)
    (sym (lvalue_of-Local a.program.now (own_context a.program.now a.here.bound) a.target.now c.in-Local.l (ap out-Target c.in-Local.is ∙ outs-Local c.in-Local.l)))
    (gave (omega arith))

pub lvalue_of-returns-in_err-i-in-GlobalAt : goal.lvalue_of-returns-in_err-i-in-GlobalAt
lvalue_of-returns-in_err-i-in-GlobalAt t c =
    let a = c.args in
    let r : c.from_residual.result ≡ Err c.in_err-i-in-GlobalAt.field-0.0 = search rules in
    rw r (reached a.here a.frame.now a.state.now _
    (lvalue_of-GlobalAt a.program.now (own_context a.program.now a.here.bound) a.target.now c.in-GlobalAt.g c.in-GlobalAt.e
    (ap out-Target c.in-GlobalAt.is ∙ outs-GlobalAt c.in-GlobalAt.g c.in-GlobalAt.e))
    (failed _ (global_element c.in-GlobalAt.g) _ (rw c.get.ensures at c.in_err-i-in-GlobalAt.ensures)))

pub lvalue_of-returns-in_err-i-in-LocalAt : goal.lvalue_of-returns-in_err-i-in-LocalAt
lvalue_of-returns-in_err-i-in-LocalAt t c =
    let a = c.args in
    let r : c.from_residual-in_err-i-in-LocalAt.result ≡ Err c.in_err-i-in-LocalAt.field-0.0 = search rules in
    rw r (reached a.here a.frame.now a.state.now _
    (lvalue_of-LocalAt a.program.now (own_context a.program.now a.here.bound) a.target.now c.in-LocalAt.l c.in-LocalAt.e
    (ap out-Target c.in-LocalAt.is ∙ outs-LocalAt c.in-LocalAt.l c.in-LocalAt.e))
    (failed _ (local_element c.in-LocalAt.l) _ (rw c.get-in-LocalAt.ensures at c.in_err-i-in-LocalAt.ensures)))

pub lvalue_of-returns-then-i-size_at : goal.lvalue_of-returns-then-i-size_at
lvalue_of-returns-then-i-size_at t c =
    let a = c.args in
    let h = rw c.size_at.ensures at c.if-i-size_at.true in
    reached a.here a.frame.now a.state.now _
    (lvalue_of-GlobalAt a.program.now (own_context a.program.now a.here.bound) a.target.now c.in-GlobalAt.g c.in-GlobalAt.e
    (ap out-Target c.in-GlobalAt.is ∙ outs-GlobalAt c.in-GlobalAt.g c.in-GlobalAt.e))
    (on _ (global_element c.in-GlobalAt.g) (rw c.get.ensures at c.in_ok-i-in-GlobalAt.ensures)
    (λ le. in_range a.here _ c.in_ok-i-in-GlobalAt.i (lvalue.Global c.in-GlobalAt.g) _ _ le h))

pub lvalue_of-returns-else-i-size_at : goal.lvalue_of-returns-else-i-size_at
lvalue_of-returns-else-i-size_at t c =
    let a = c.args in
    let h = rw c.size_at.ensures at c.if-i-size_at.false in
    reached a.here a.frame.now a.state.now _
    (lvalue_of-GlobalAt a.program.now (own_context a.program.now a.here.bound) a.target.now c.in-GlobalAt.g c.in-GlobalAt.e
    (ap out-Target c.in-GlobalAt.is ∙ outs-GlobalAt c.in-GlobalAt.g c.in-GlobalAt.e))
    (on _ (global_element c.in-GlobalAt.g) (rw c.get.ensures at c.in_ok-i-in-GlobalAt.ensures)
    (λ le. out_of_range a.here _ c.in_ok-i-in-GlobalAt.i (lvalue.Global c.in-GlobalAt.g) _ _ le h))

pub lvalue_of-returns-then-i-size_at-2 : goal.lvalue_of-returns-then-i-size_at-2
lvalue_of-returns-then-i-size_at-2 t c =
    let a = c.args in
    let h = rw c.size_at-in-LocalAt.ensures at c.if-i-size_at-2.true in
    reached a.here a.frame.now a.state.now _ (lvalue_of-LocalAt a.program.now (own_context a.program.now a.here.bound) a.target.now c.in-LocalAt.l c.in-LocalAt.e (ap out-Target c.in-LocalAt.is ∙ outs-LocalAt c.in-LocalAt.l c.in-LocalAt.e))
    (on _ (local_element c.in-LocalAt.l) (rw c.get-in-LocalAt.ensures at c.in_ok-i-in-LocalAt.ensures) (λ le. in_range a.here _ c.in_ok-i-in-LocalAt.i (lvalue.Local c.in-LocalAt.l) _ _ le h))

pub lvalue_of-returns-else-i-size_at-2 : goal.lvalue_of-returns-else-i-size_at-2
lvalue_of-returns-else-i-size_at-2 t c =
    let a = c.args in
    let h = rw c.size_at-in-LocalAt.ensures at c.if-i-size_at-2.false in
    reached a.here a.frame.now a.state.now _ (lvalue_of-LocalAt a.program.now (own_context a.program.now a.here.bound) a.target.now c.in-LocalAt.l c.in-LocalAt.e (ap out-Target c.in-LocalAt.is ∙ outs-LocalAt c.in-LocalAt.l c.in-LocalAt.e))
    (on _ (local_element c.in-LocalAt.l) (rw c.get-in-LocalAt.ensures at c.in_ok-i-in-LocalAt.ensures) (λ le. out_of_range a.here _ c.in_ok-i-in-LocalAt.i (lvalue.Local c.in-LocalAt.l) _ _ le h))

pub values_of-loop-e-init : goal.values_of-loop-e-init
values_of-loop-e-init t c =
    let a = c.args in
    record { capped = omega arith; rest = values_init a.program.now (own_context a.program.now a.here.bound) a.here a.frame.now a.state.now a.es.now _ _ c.as_slice-e-items.ensures c.new-values.ensures }

pub values_of-returns-in_err-v : goal.values_of-returns-in_err-v
values_of-returns-in_err-v t c =
    let a = c.args in
    let l = c.loop-e in
    let r : c.from_residual.result ≡ Err c.in_err-v.field-0.0 = search rules in
    rw r (values_fail a.program.now (own_context a.program.now a.here.bound) a.here _ c.as_slice-e-items.result.now l.e-index l.values l.frame l.state l.invariant.rest
    c.e-item.result _ _ _ _ _ _ refl c.loop-e-test.true c.e-item.is c.in_err-v.ensures)

pub values_of-loop-e-preserved : goal.values_of-loop-e-preserved
values_of-loop-e-preserved t c =
    let a = c.args in
    let l = c.loop-e in
    record {
      capped = within _ _ _ _ _ _ c.in_ok-v.ensures.shown;
      rest = values_step a.program.now (own_context a.program.now a.here.bound) a.here _ c.as_slice-e-items.result.now l.e-index l.values l.frame l.state l.invariant.rest
          c.e-item.result c.in_ok-v.v _ _ _ c.loop-e-test.true c.e-item.is c.in_ok-v.ensures c.in_ok-push.ensures.ok;
    }

pub values_of-returns : goal.values_of-returns
values_of-returns t c =
    let a = c.args in
    let l = c.loop-e in
    values_end a.program.now (own_context a.program.now a.here.bound) a.here _ c.as_slice-e-items.result.now l.e-index l.values l.frame l.state l.invariant.rest
    _ _ refl c.loop-e-test.false l.invariant.capped

pub values_of-returns-in_err-push : goal.values_of-returns-in_err-push
values_of-returns-in_err-push t c =
    let r : c.from_residual-in_err-push.result ≡ Err (halt.Memory alloc_error) = search rules in
    rw r (record { shown = tt })

pub flow_of-returns-in-Block : goal.flow_of-returns-in-Block
flow_of-returns-in-Block t c =
    let a = c.args in
    begun a.here a.frame.now a.state.now _
    (flow_of-Block a.program.now (own_context a.program.now a.here.bound) a.s.now c.in-Block.body
    (ap out-Stmt c.in-Block.is ∙ outs-Block c.in-Block.body)) c.count.ensures (λ le0. c.flow_of_all.ensures)

pub flow_of-returns-in-Break : goal.flow_of-returns-in-Break
flow_of-returns-in-Break t c =
    let a = c.args in
    begun a.here a.frame.now a.state.now (give Breaks) (flow_of-Break a.program.now (own_context a.program.now a.here.bound) a.s.now (ap out-Stmt c.in-Break.is ∙ outs-Break)) c.count.ensures (λ le0. gave le0)

pub flow_of-returns-in-Continue : goal.flow_of-returns-in-Continue
flow_of-returns-in-Continue t c =
    let a = c.args in
    begun a.here a.frame.now a.state.now (give Continues) (flow_of-Continue a.program.now (own_context a.program.now a.here.bound) a.s.now (ap out-Stmt c.in-Continue.is ∙ outs-Continue)) c.count.ensures (λ le0. gave le0)

pub flow_of_all-loop-s-init : goal.flow_of_all-loop-s-init
flow_of_all-loop-s-init t c =
    let e = c.as_slice-s-items.ensures in
    record { capped = omega arith; rest = rw e refl }

pub flow_of_all-loop-s-preserved : goal.flow_of_all-loop-s-preserved
flow_of_all-loop-s-preserved t c =
    let a = c.args in
    let l = c.loop-s in
    let goes : c.in_ok-flow.flow ≡ Goes = search rules in
    record {
      capped = within _ _ _ _ _ _ c.in_ok-flow.ensures.shown;
      rest = flows_step a.program.now (own_context a.program.now a.here.bound) a.here _ c.as_slice-s-items.result.now l.s-index l.frame l.state l.invariant.rest
          c.s-item.result c.in_ok-flow.flow _ _ c.loop-s-test.true c.s-item.is c.in_ok-flow.ensures goes;
    }

pub flow_of_all-returns-in_err-flow : goal.flow_of_all-returns-in_err-flow
flow_of_all-returns-in_err-flow t c =
    let a = c.args in
    let l = c.loop-s in
    let r : c.from_residual.result ≡ Err c.in_err-flow.field-0.0 = search rules in
    rw r (flows_fail a.program.now (own_context a.program.now a.here.bound) a.here _ c.as_slice-s-items.result.now l.s-index l.frame l.state l.invariant.rest
    c.s-item.result _ _ _ _ _ _ refl c.loop-s-test.true c.s-item.is c.in_err-flow.ensures)

pub flow_of_all-returns-then-ne : goal.flow_of_all-returns-then-ne
flow_of_all-returns-then-ne t c =
    let a = c.args in
    let l = c.loop-s in
    let other : c.in_ok-flow.flow ≡ Goes → ⊥ = search rules in
    flows_left a.program.now (own_context a.program.now a.here.bound) a.here _ c.as_slice-s-items.result.now l.s-index l.frame l.state l.invariant.rest
    c.s-item.result c.in_ok-flow.flow _ _ _ _ refl c.loop-s-test.true c.s-item.is c.in_ok-flow.ensures other

pub flow_of_all-returns : goal.flow_of_all-returns
flow_of_all-returns t c =
    let a = c.args in
    let l = c.loop-s in
    all_done (flow_of_all a.program.now (own_context a.program.now a.here.bound)) a.here _ c.as_slice-s-items.result.now l.s-index l.frame l.state l.invariant.rest refl _ _ refl c.loop-s-test.false l.invariant.capped

pub flow_of-returns-in_err-value_of-in-Express : goal.flow_of-returns-in_err-value_of-in-Express
flow_of-returns-in_err-value_of-in-Express t c =
    let a = c.args in
    let r : c.from_residual.result ≡ Err c.in_err-value_of-in-Express.field-0.0 = search rules in
    rw r (begun a.here a.frame.now a.state.now _ (flow_of-Express a.program.now (own_context a.program.now a.here.bound) a.s.now c.in-Express.e (ap out-Stmt c.in-Express.is ∙ outs-Express c.in-Express.e)) c.count.ensures
    (λ le0. failed _ _ _ c.in_err-value_of-in-Express.ensures))

pub flow_of-returns-in_ok-value_of-in-Express : goal.flow_of-returns-in_ok-value_of-in-Express
flow_of-returns-in_ok-value_of-in-Express t c =
    let a = c.args in
    begun a.here a.frame.now a.state.now _ (flow_of-Express a.program.now (own_context a.program.now a.here.bound) a.s.now c.in-Express.e (ap out-Stmt c.in-Express.is ∙ outs-Express c.in-Express.e)) c.count.ensures
    (λ le0. on _ _ c.in_ok-value_of-in-Express.ensures (λ le1. gave le1))

pub flow_of-returns-in_err-v-in-If : goal.flow_of-returns-in_err-v-in-If
flow_of-returns-in_err-v-in-If t c =
    let a = c.args in
    let r : c.from_residual-in_err-v-in-If.result ≡ Err c.in_err-v-in-If.field-0.0 = search rules in
    rw r (begun a.here a.frame.now a.state.now _
    (flow_of-If a.program.now (own_context a.program.now a.here.bound) a.s.now c.in-If.e c.in-If.yes_part c.in-If.no_part
    (ap out-Stmt c.in-If.is ∙ outs-If c.in-If.e c.in-If.yes_part c.in-If.no_part)) c.count.ensures
    (λ le0. failed _ _ _ c.in_err-v-in-If.ensures))

pub flow_of-returns-then-v-eq0 : goal.flow_of-returns-then-v-eq0
flow_of-returns-then-v-eq0 t c =
    let a = c.args in
    begun a.here a.frame.now a.state.now _
    (flow_of-If a.program.now (own_context a.program.now a.here.bound) a.s.now c.in-If.e c.in-If.yes_part c.in-If.no_part
    (ap out-Stmt c.in-If.is ∙ outs-If c.in-If.e c.in-If.yes_part c.in-If.no_part)) c.count.ensures
    (λ le0. on _ _ c.in_ok-v-in-If.ensures (λ le1. zero_way _ _ c.if-v-eq0.true c.flow_of_all-then-v-eq0.ensures))

pub flow_of-returns-else-v-eq0 : goal.flow_of-returns-else-v-eq0
flow_of-returns-else-v-eq0 t c =
    let a = c.args in
    begun a.here a.frame.now a.state.now _
    (flow_of-If a.program.now (own_context a.program.now a.here.bound) a.s.now c.in-If.e c.in-If.yes_part c.in-If.no_part
    (ap out-Stmt c.in-If.is ∙ outs-If c.in-If.e c.in-If.yes_part c.in-If.no_part)) c.count.ensures
    (λ le0. on _ _ c.in_ok-v-in-If.ensures (λ le1. other_way _ _ c.if-v-eq0.false c.flow_of_all-else-v-eq0.ensures))

pub value_of-returns-in-Function : goal.value_of-returns-in-Function
value_of-returns-in-Function t c =
    let a = c.args in
    let context = own_context a.program.now a.here.bound in
    let number : slice_index context.numbers c.in-Function.f ≡ c.number_of.result =
    ap (λ ns. slice_index ns c.in-Function.f) (numbers_at a.program.now (own_numbers a.program.now) a.here.bound) ∙ sym c.number_of.ensures in
    begun a.here a.frame.now a.state.now (give c.number_of.result)
    (value_of-Function a.program.now context a.e.now c.in-Function.f (ap out-Form c.in-Function.is ∙ outs-Function c.in-Function.f) ∙ ap (λ n. counted 1 (give n)) number)
    c.count.ensures (λ le0. gave le0)

pub optional_value-returns-in-None : goal.optional_value-returns-in-None
optional_value-returns-in-None t c =
    let a = c.args in
    let P : Option Expr → Type 0 = λ e.
    IsOutcome a.state.now.work (optional_outcome a.program.now a.here a.otherwise e a.frame.now a.state.now) a.here (Ok a.otherwise) a.frame.now a.state.now in
    subst P (sym c.in-None.is) (gave (omega arith))

pub optional_value-returns-in-Some : goal.optional_value-returns-in-Some
optional_value-returns-in-Some t c =
    let a = c.args in
    let P : Option Expr → Type 0 = λ e.
    IsOutcome a.state.now.work (optional_outcome a.program.now a.here a.otherwise e a.frame.now a.state.now) a.here c.value_of.result c.value_of.new.frame c.value_of.new.state in
    subst P (sym c.in-Some.is) c.value_of.ensures

pub call-returns-in_err-flow-in-Some : goal.call-returns-in_err-flow-in-Some
call-returns-in_err-flow-in-Some t c =
    let a = c.args in
    let g = c.in-Some.g.now in
    let found = sym c.get.ensures ∙ ap option_copied c.in-Some.is in
    let attributed : c.from.result ≡ (if g.attributed then 1 else 0) = search rules in
    let r : c.from_residual-in_err-flow-in-Some.result ≡ Err c.in_err-flow-in-Some.field-0.0 = search rules in
    rw r (failed_inside a.program.now a.here a.f a.arguments.now a.caller.now a.state.now (omega arith) c.if-here-eq0.false g found _ _ _
    (rw (attributed, c.in_ok-frame-in-Some.ensures) at c.in_err-flow-in-Some.ensures))

pub call-returns-in_ok-flow-in-Some : goal.call-returns-in_ok-flow-in-Some
call-returns-in_ok-flow-in-Some t c =
    let a = c.args in
    let g = c.in-Some.g.now in
    let found = sym c.get.ensures ∙ ap option_copied c.in-Some.is in
    let attributed : c.from.result ≡ (if g.attributed then 1 else 0) = search rules in
    rw c.returned_value.ensures (went_through a.program.now a.here a.f a.arguments.now a.caller.now a.state.now (omega arith) c.if-here-eq0.false g found _ _ _
    (rw (attributed, c.in_ok-frame-in-Some.ensures) at c.in_ok-flow-in-Some.ensures))

pub call-flow_of_all-requires : goal.call-flow_of_all-requires
call-flow_of_all-requires t c =
    let a = c.args in
    let g = c.in-Some.g.now in
    let found = sym c.get.ensures ∙ ap option_copied c.in-Some.is in
    let one : c.from.result ≤ 1 = search rules in (
      omega (arith, less_spent a.program.now a.here.bound a.f g c.if-here-eq0.false found, c.decreases),
      record { functions = c.requires.functions; deep = omega arith; lively = omega (arith, one); plans = c.requires.plans },
    )

pub call-returns-in-None : goal.call-returns-in-None
call-returns-in-None t c =
    let a = c.args in
    let none = sym c.get.ensures ∙ ap option_copied c.in-None.is in
    missing a.program.now a.here a.f a.arguments.now a.caller.now a.state.now (omega arith) (omega arith) c.if-here-eq0.false none

pub call-returns-then-here-ge-DEPTH_LIMIT : goal.call-returns-then-here-ge-DEPTH_LIMIT
call-returns-then-here-ge-DEPTH_LIMIT t c =
    let a = c.args in
    too_deep a.program.now a.here a.f a.arguments.now a.caller.now a.state.now (omega arith) c.if-here-ge-DEPTH_LIMIT.true

pub call-returns-then-here-eq0 : goal.call-returns-then-here-eq0
call-returns-then-here-eq0 t c =
    let a = c.args in
    out_of_bound a.program.now a.here a.f a.arguments.now a.caller.now a.state.now (omega arith) (omega arith) c.if-here-eq0.true

pub call-returns-in_err-frame-in-Some : goal.call-returns-in_err-frame-in-Some
call-returns-in_err-frame-in-Some t c =
    let a = c.args in
    let r : c.from_residual.result ≡ Err (halt.Memory alloc_error) = search rules in
    rw r (record { shown = tt })

pub flow_of-flow_of_all-requires : goal.flow_of-flow_of_all-requires
flow_of-flow_of_all-requires t c =
    let a = c.args in
    let deeper = (below-Block a.s.now c.in-Block.body (ap out-Stmt c.in-Block.is ∙ outs-Block c.in-Block.body)) in
    (omega (arith, deeper, c.decreases), c.requires)

pub flow_of-store_values-requires : goal.flow_of-store_values-requires
flow_of-store_values-requires t c =
    let a = c.args in
    let deeper = (below-Clear a.s.now c.in-Clear.l c.in-Clear.values (ap out-Stmt c.in-Clear.is ∙ outs-Clear c.in-Clear.l c.in-Clear.values)) in
    (omega (arith, deeper, c.decreases), c.requires)

pub flow_of-value_of-requires : goal.flow_of-value_of-requires
flow_of-value_of-requires t c =
    let a = c.args in
    let deeper = (below-Express a.s.now c.in-Express.e (ap out-Stmt c.in-Express.is ∙ outs-Express c.in-Express.e)) in
    (omega (arith, deeper, c.decreases), c.requires)

pub flow_of-value_of-requires-in-If : goal.flow_of-value_of-requires-in-If
flow_of-value_of-requires-in-If t c =
    let a = c.args in
    let deeper = (below-If a.s.now c.in-If.e c.in-If.yes_part c.in-If.no_part (ap out-Stmt c.in-If.is ∙ outs-If c.in-If.e c.in-If.yes_part c.in-If.no_part)).0 in
    (omega (arith, deeper, c.decreases), c.requires)

pub flow_of-flow_of_all-requires-then-v-eq0 : goal.flow_of-flow_of_all-requires-then-v-eq0
flow_of-flow_of_all-requires-then-v-eq0 t c =
    let a = c.args in
    let deeper = (below-If a.s.now c.in-If.e c.in-If.yes_part c.in-If.no_part (ap out-Stmt c.in-If.is ∙ outs-If c.in-If.e c.in-If.yes_part c.in-If.no_part)).2 in
    (omega (arith, deeper, c.decreases), c.requires)

pub flow_of-flow_of_all-requires-else-v-eq0 : goal.flow_of-flow_of_all-requires-else-v-eq0
flow_of-flow_of_all-requires-else-v-eq0 t c =
    let a = c.args in
    let deeper = (below-If a.s.now c.in-If.e c.in-If.yes_part c.in-If.no_part (ap out-Stmt c.in-If.is ∙ outs-If c.in-If.e c.in-If.yes_part c.in-If.no_part)).1 in
    (omega (arith, deeper, c.decreases), c.requires)

pub flow_of-while_loop-requires : goal.flow_of-while_loop-requires
flow_of-while_loop-requires t c =
    let a = c.args in
    let deeper = (below-While a.s.now c.in-While.e c.in-While.body (ap out-Stmt c.in-While.is ∙ outs-While c.in-While.e c.in-While.body)) in
    (omega (arith, deeper, c.decreases), c.requires)

pub flow_of-do_loop-requires : goal.flow_of-do_loop-requires
flow_of-do_loop-requires t c =
    let a = c.args in
    let deeper = (below-Do a.s.now c.in-Do.body c.in-Do.e (ap out-Stmt c.in-Do.is ∙ outs-Do c.in-Do.body c.in-Do.e)) in
    (omega (arith, deeper, c.decreases), c.requires)

pub flow_of-flow_of_all-requires-in-For : goal.flow_of-flow_of_all-requires-in-For
flow_of-flow_of_all-requires-in-For t c =
    let a = c.args in
    let deeper = (below-For a.s.now c.in-For.first c.in-For.test c.in-For.step c.in-For.body (ap out-Stmt c.in-For.is ∙ outs-For c.in-For.first c.in-For.test c.in-For.step c.in-For.body)).0 in
    (omega (arith, deeper, c.decreases), c.requires)

pub flow_of-for_loop-requires : goal.flow_of-for_loop-requires
flow_of-for_loop-requires t c =
    let a = c.args in
    let deeper = (below-For a.s.now c.in-For.first c.in-For.test c.in-For.step c.in-For.body (ap out-Stmt c.in-For.is ∙ outs-For c.in-For.first c.in-For.test c.in-For.step c.in-For.body)).1 in
    (omega (arith, deeper, c.decreases), c.requires)

pub flow_of-value_of-requires-in-Switch : goal.flow_of-value_of-requires-in-Switch
flow_of-value_of-requires-in-Switch t c =
    let a = c.args in
    let deeper = (below-Switch a.s.now c.in-Switch.e c.in-Switch.arms (ap out-Stmt c.in-Switch.is ∙ outs-Switch c.in-Switch.e c.in-Switch.arms)).0 in
    (omega (arith, deeper, c.decreases), c.requires)

pub flow_of-arms_flow-requires : goal.flow_of-arms_flow-requires
flow_of-arms_flow-requires t c =
    let a = c.args in
    let deeper = (below-Switch a.s.now c.in-Switch.e c.in-Switch.arms (ap out-Stmt c.in-Switch.is ∙ outs-Switch c.in-Switch.e c.in-Switch.arms)).1 in
    (omega (arith, deeper, arms_within c.in-Switch.arms c.first_arm-first.result, ap arms_depth c.arms_from.ensures, c.decreases), c.requires)

pub flow_of-optional_value-requires : goal.flow_of-optional_value-requires
flow_of-optional_value-requires t c =
    let a = c.args in
    let deeper = (below-Return a.s.now c.in-Return.e (ap out-Stmt c.in-Return.is ∙ outs-Return c.in-Return.e)) in
    (omega (arith, deeper, c.decreases), c.requires)

pub flow_of-returns-in-Clear : goal.flow_of-returns-in-Clear
flow_of-returns-in-Clear t c =
    let a = c.args in
    let es = map (value_of a.program.now (own_context a.program.now a.here.bound)) c.in-Clear.values in
    begun a.here a.frame.now a.state.now _
    (flow_of-Clear a.program.now (own_context a.program.now a.here.bound) a.s.now c.in-Clear.l c.in-Clear.values
    (ap out-Stmt c.in-Clear.is ∙ outs-Clear c.in-Clear.l c.in-Clear.values)) c.count.ensures
    (λ le0. cleared a.here c.in-Clear.l (any_of (map (names_local c.in-Clear.l) c.in-Clear.values)) es a.frame.now c.clear_local.new.frame _
    c.count.new.state c.clear_local.new.state _ (length c.in-Clear.values)
    (sym (length-map c.in-Clear.values (value_of a.program.now (own_context a.program.now a.here.bound)))) c.clear_local.ensures.locals
    c.clear_local.ensures.counted c.store_values.ensures)

pub flow_of-returns-in-While : goal.flow_of-returns-in-While
flow_of-returns-in-While t c =
    let a = c.args in
    begun a.here a.frame.now a.state.now _
    (flow_of-While a.program.now (own_context a.program.now a.here.bound) a.s.now c.in-While.e c.in-While.body
    (ap out-Stmt c.in-While.is ∙ outs-While c.in-While.e c.in-While.body)) c.count.ensures (λ le0. c.while_loop.ensures)

pub flow_of-returns-in-Do : goal.flow_of-returns-in-Do
flow_of-returns-in-Do t c =
    let a = c.args in
    begun a.here a.frame.now a.state.now _
    (flow_of-Do a.program.now (own_context a.program.now a.here.bound) a.s.now c.in-Do.body c.in-Do.e
    (ap out-Stmt c.in-Do.is ∙ outs-Do c.in-Do.body c.in-Do.e)) c.count.ensures (λ le0. c.do_loop.ensures)

pub flow_of-returns-in_err-begun-in-For : goal.flow_of-returns-in_err-begun-in-For
flow_of-returns-in_err-begun-in-For t c =
    let a = c.args in
    let r : c.from_residual-in_err-begun-in-For.result ≡ Err c.in_err-begun-in-For.field-0.0 = search rules in
    rw r (begun a.here a.frame.now a.state.now _
    (flow_of-For a.program.now (own_context a.program.now a.here.bound) a.s.now c.in-For.first c.in-For.test c.in-For.step c.in-For.body
    (ap out-Stmt c.in-For.is ∙ outs-For c.in-For.first c.in-For.test c.in-For.step c.in-For.body)) c.count.ensures
    (λ le0. failed _ _ _ c.in_err-begun-in-For.ensures))

pub flow_of-returns-then-eq : goal.flow_of-returns-then-eq
flow_of-returns-then-eq t c =
    let a = c.args in
    let goes : c.in_ok-begun-in-For.begun ≡ Goes = search rules in
    let f1 = c.flow_of_all-in-For.new.frame in
    let s1 = c.flow_of_all-in-For.new.state in
    let from = for_from a.program.now (own_context a.program.now a.here.bound) c.in-For.test c.in-For.step c.in-For.body in
    let P : Flow → Type 0 = λ flow. IsOutcome s1.work (then_on flow from f1 (world_of a.here s1)) a.here c.for_loop.result c.for_loop.new.frame c.for_loop.new.state in
    begun a.here a.frame.now a.state.now _
    (flow_of-For a.program.now (own_context a.program.now a.here.bound) a.s.now c.in-For.first c.in-For.test c.in-For.step c.in-For.body
    (ap out-Stmt c.in-For.is ∙ outs-For c.in-For.first c.in-For.test c.in-For.step c.in-For.body)) c.count.ensures
    (λ le0. on _ (λ flow. then_on flow from) c.in_ok-begun-in-For.ensures (λ le1. subst P (sym goes) c.for_loop.ensures))

pub flow_of-returns-else-eq : goal.flow_of-returns-else-eq
flow_of-returns-else-eq t c =
    let a = c.args in
    let left : c.in_ok-begun-in-For.begun ≡ Goes → ⊥ = search rules in
    let flow = c.in_ok-begun-in-For.begun in
    let f1 = c.flow_of_all-in-For.new.frame in
    let s1 = c.flow_of_all-in-For.new.state in
    let from = for_from a.program.now (own_context a.program.now a.here.bound) c.in-For.test c.in-For.step c.in-For.body in
    let P : Evaluation Flow → Type 0 = λ d. IsOutcome s1.work (d f1 (world_of a.here s1)) a.here (Ok flow) f1 s1 in
    begun a.here a.frame.now a.state.now _
    (flow_of-For a.program.now (own_context a.program.now a.here.bound) a.s.now c.in-For.first c.in-For.test c.in-For.step c.in-For.body
    (ap out-Stmt c.in-For.is ∙ outs-For c.in-For.first c.in-For.test c.in-For.step c.in-For.body)) c.count.ensures
    (λ le0. on _ (λ x. then_on x from) c.in_ok-begun-in-For.ensures (λ le1. subst P (sym (then_on-other flow from left)) (gave le1)))

pub flow_of-returns-in_err-v-in-Switch : goal.flow_of-returns-in_err-v-in-Switch
flow_of-returns-in_err-v-in-Switch t c =
    let a = c.args in
    let r : c.from_residual-in_err-v-in-Switch.result ≡ Err c.in_err-v-in-Switch.field-0.0 = search rules in
    rw r (begun a.here a.frame.now a.state.now _
    (flow_of-Switch a.program.now (own_context a.program.now a.here.bound) a.s.now c.in-Switch.e c.in-Switch.arms
    (ap out-Stmt c.in-Switch.is ∙ outs-Switch c.in-Switch.e c.in-Switch.arms)) c.count.ensures
    (λ le0. failed _ _ _ c.in_err-v-in-Switch.ensures))

pub flow_of-returns-in_ok-v-in-Switch : goal.flow_of-returns-in_ok-v-in-Switch
flow_of-returns-in_ok-v-in-Switch t c =
    let a = c.args in
    let rest = c.arms_from.ensures ∙ ap (λ n. drop n c.in-Switch.arms) c.first_arm-first.ensures.index in
    begun a.here a.frame.now a.state.now _
    (flow_of-Switch a.program.now (own_context a.program.now a.here.bound) a.s.now c.in-Switch.e c.in-Switch.arms
    (ap out-Stmt c.in-Switch.is ∙ outs-Switch c.in-Switch.e c.in-Switch.arms)) c.count.ensures
    (λ le0. on _ _ c.in_ok-v-in-Switch.ensures
    (λ le1. switched a.program.now (own_context a.program.now a.here.bound) a.here c.in_ok-v-in-Switch.v c.in-Switch.arms _
    c.value_of-in-Switch.new.frame c.value_of-in-Switch.new.state c.first_arm-first.new.state c.first_arm-first.ensures.counted rest
    c.arms_flow.ensures))

pub flow_of-returns-in_err-v-in-Return : goal.flow_of-returns-in_err-v-in-Return
flow_of-returns-in_err-v-in-Return t c =
    let a = c.args in
    let r : c.from_residual-in_err-v-in-Return.result ≡ Err c.in_err-v-in-Return.field-0.0 = search rules in
    rw r (begun a.here a.frame.now a.state.now _
    (flow_of-Return a.program.now (own_context a.program.now a.here.bound) a.s.now c.in-Return.e
    (ap out-Stmt c.in-Return.is ∙ outs-Return c.in-Return.e)) c.count.ensures
    (λ le0. failed _ _ _ c.in_err-v-in-Return.ensures))

pub flow_of-returns-in_ok-v-in-Return : goal.flow_of-returns-in_ok-v-in-Return
flow_of-returns-in_ok-v-in-Return t c =
    let a = c.args in
    begun a.here a.frame.now a.state.now _
    (flow_of-Return a.program.now (own_context a.program.now a.here.bound) a.s.now c.in-Return.e
    (ap out-Stmt c.in-Return.is ∙ outs-Return c.in-Return.e)) c.count.ensures
    (λ le0. on _ _ c.in_ok-v-in-Return.ensures (λ le1. gave le1))

pub flow_of_all-flow_of-requires : goal.flow_of_all-flow_of-requires
flow_of_all-flow_of-requires t c =
    let a = c.args in
    let l = c.loop-s in
    (omega (arith, stmt_within c.as_slice-s-items.result.now l.s-index c.s-item.result c.loop-s-test.true c.s-item.is, ap stmts_depth c.as_slice-s-items.ensures, c.decreases), c.requires)

pub while_loop-loop-v-init : goal.while_loop-loop-v-init
while_loop-loop-v-init t c =
    let a = c.args in
    record { lower = omega arith; rest = refl }

pub for_loop-loop-v-init : goal.for_loop-loop-v-init
for_loop-loop-v-init t c =
    let a = c.args in
    record { lower = omega arith; rest = refl }

pub do_loop-loop-flow-init : goal.do_loop-loop-flow-init
do_loop-loop-flow-init t c =
    let a = c.args in
    record { lower = omega arith; rest = refl }

pub while_loop-value_of-requires : goal.while_loop-value_of-requires
while_loop-value_of-requires t c =
    let a = c.args in
    (omega (arith, spent_less a.program.now c.loop-v.bound a.here.bound c.loop-v.invariant.lower, c.decreases), c.requires)

pub while_loop-flow_of_all-requires : goal.while_loop-flow_of_all-requires
while_loop-flow_of_all-requires t c =
    let a = c.args in
    (omega (arith, spent_less a.program.now c.loop-v.bound a.here.bound c.loop-v.invariant.lower, c.decreases), c.requires)

pub do_loop-value_of-requires : goal.do_loop-value_of-requires
do_loop-value_of-requires t c =
    let a = c.args in
    (omega (arith, spent_less a.program.now c.loop-flow.bound a.here.bound c.loop-flow.invariant.lower, c.decreases), c.requires)

pub do_loop-flow_of_all-requires : goal.do_loop-flow_of_all-requires
do_loop-flow_of_all-requires t c =
    let a = c.args in
    (omega (arith, spent_less a.program.now c.loop-flow.bound a.here.bound c.loop-flow.invariant.lower, c.decreases), c.requires)

pub for_loop-flow_of_all-requires : goal.for_loop-flow_of_all-requires
for_loop-flow_of_all-requires t c =
    let a = c.args in
    (omega (arith, spent_less a.program.now c.loop-v.bound a.here.bound c.loop-v.invariant.lower, c.decreases), c.requires)

pub for_loop-optional_value-requires : goal.for_loop-optional_value-requires
for_loop-optional_value-requires t c =
    let a = c.args in
    let m = most-append size-Expr (option_to_list a.test.now) (option_to_list a.step.now) in
    (omega (arith, m, spent_less a.program.now c.loop-v.bound a.here.bound c.loop-v.invariant.lower, c.decreases), c.requires)

pub for_loop-optional_value-requires-in-loop-v : goal.for_loop-optional_value-requires-in-loop-v
for_loop-optional_value-requires-in-loop-v t c =
    let a = c.args in
    let m = most-append size-Expr (option_to_list a.test.now) (option_to_list a.step.now) in
    (omega (arith, m, spent_less a.program.now c.loop-v.bound a.here.bound c.loop-v.invariant.lower, c.decreases), c.requires)

pub while_loop-returns-in_err-v : goal.while_loop-returns-in_err-v
while_loop-returns-in_err-v t c =
    let a = c.args in
    let r : c.from_residual.result ≡ Err c.in_err-v.field-0.0 = search rules in
    rw r (carried _ _ c.loop-v.invariant.rest (elsewhere c.loop-v.bound _ (failed _ _ _ c.in_err-v.ensures)))

pub while_loop-returns-then-v-eq0 : goal.while_loop-returns-then-v-eq0
while_loop-returns-then-v-eq0 t c =
    let a = c.args in
    carried _ _ c.loop-v.invariant.rest (elsewhere c.loop-v.bound _ (on _ _ c.in_ok-v.ensures (λ le. zero_way _ _ c.if-v-eq0.true (gave le))))

pub while_loop-returns-in_err-flow : goal.while_loop-returns-in_err-flow
while_loop-returns-in_err-flow t c =
    let a = c.args in
    let r : c.from_residual-in_err-flow.result ≡ Err c.in_err-flow.field-0.0 = search rules in
    rw r (carried _ _ c.loop-v.invariant.rest (elsewhere c.loop-v.bound _ (on _ _ c.in_ok-v.ensures (λ le. other_way _ _ c.if-v-eq0.false (failed _ _ _ c.in_err-flow.ensures)))))

pub while_loop-returns-then-not-goes_back : goal.while_loop-returns-then-not-goes_back
while_loop-returns-then-not-goes_back t c =
    let a = c.args in
    let b : goes_back c.in_ok-flow.flow ≡ false = search rules in
    rw c.behind_loop.ensures (carried _ _ c.loop-v.invariant.rest
    (elsewhere c.loop-v.bound _ (on _ _ c.in_ok-v.ensures
    (λ le. other_way _ _ c.if-v-eq0.false
    (on _ _ c.in_ok-flow.ensures (λ le2. left_loop (record a.here { bound = c.loop-v.bound }) c.in_ok-flow.flow _ _ _ b le2))))))

pub while_loop-returns-then-bound-eq0 : goal.while_loop-returns-then-bound-eq0
while_loop-returns-then-bound-eq0 t c =
    let a = c.args in
    let b : goes_back c.in_ok-flow.flow ≡ true = search rules in
    carried _ _ c.loop-v.invariant.rest
    (elsewhere c.loop-v.bound _ (while_back a.program.now (record a.here { bound = c.loop-v.bound }) c.loop-v.frame c.loop-v.state a.e.now a.body.now
    c.in_ok-v.v c.value_of.new.frame c.flow_of_all.new.frame c.value_of.new.state c.flow_of_all.new.state c.in_ok-flow.flow c.in_ok-v.ensures
    c.if-v-eq0.false c.in_ok-flow.ensures (is_back _ b)
    (λ le. no_turn a.program.now (record a.here { bound = c.loop-v.bound }) c.loop-v.bound c.flow_of_all.new.frame c.flow_of_all.new.state
    (roll-Stmt (stmt.While a.e.now a.body.now)) c.if-bound-eq0.true le)))

pub while_loop-loop-v-preserved : goal.while_loop-loop-v-preserved
while_loop-loop-v-preserved t c =
    let a = c.args in
    let b : goes_back c.in_ok-flow.flow ≡ true = search rules in
    record {
      lower = omega arith;
      rest = while_turned a.program.now a.here _ c.loop-v.bound c.loop-v.frame c.loop-v.state c.count.new.state c.if-bound-eq0.false a.e.now
          a.body.now c.in_ok-v.v c.value_of.new.frame c.flow_of_all.new.frame c.value_of.new.state c.flow_of_all.new.state c.in_ok-flow.flow
          c.loop-v.invariant.rest c.in_ok-v.ensures.shown c.if-v-eq0.false c.in_ok-flow.ensures.shown (is_back _ b) c.count.ensures;
    }

pub do_loop-returns-in_err-flow : goal.do_loop-returns-in_err-flow
do_loop-returns-in_err-flow t c =
    let a = c.args in
    let r : c.from_residual.result ≡ Err c.in_err-flow.field-0.0 = search rules in
    rw r (carried _ _ c.loop-flow.invariant.rest (elsewhere c.loop-flow.bound _ (failed _ _ _ c.in_err-flow.ensures)))

pub do_loop-returns-then-not-goes_back : goal.do_loop-returns-then-not-goes_back
do_loop-returns-then-not-goes_back t c =
    let a = c.args in
    let b : goes_back c.in_ok-flow.flow ≡ false = search rules in
    rw c.behind_loop.ensures (carried _ _ c.loop-flow.invariant.rest (elsewhere c.loop-flow.bound _ (on _ _ c.in_ok-flow.ensures (λ le. left_loop (record a.here { bound = c.loop-flow.bound }) c.in_ok-flow.flow _ _ _ b le))))

pub do_loop-returns-in_err-v : goal.do_loop-returns-in_err-v
do_loop-returns-in_err-v t c =
    let a = c.args in
    let b : goes_back c.in_ok-flow.flow ≡ true = search rules in
    let r : c.from_residual-in_err-v.result ≡ Err c.in_err-v.field-0.0 = search rules in
    rw r (carried _ _ c.loop-flow.invariant.rest
    (elsewhere c.loop-flow.bound _
    (do_back a.program.now (record a.here { bound = c.loop-flow.bound }) c.loop-flow.frame c.loop-flow.state a.body.now a.e.now
    c.in_ok-flow.flow c.flow_of_all.new.frame c.flow_of_all.new.state c.in_ok-flow.ensures (is_back _ b)
    (failed (value_of a.program.now (own_context a.program.now c.loop-flow.bound) a.e.now c.flow_of_all.new.frame
    (world_of a.here c.flow_of_all.new.state))
    (λ x. unless_zero x (give Goes) ((own_context a.program.now c.loop-flow.bound).loop (roll-Stmt (stmt.Do a.body.now a.e.now)))) _
    c.in_err-v.ensures))))

pub do_loop-returns-then-v-eq0 : goal.do_loop-returns-then-v-eq0
do_loop-returns-then-v-eq0 t c =
    let a = c.args in
    let b : goes_back c.in_ok-flow.flow ≡ true = search rules in
    carried _ _ c.loop-flow.invariant.rest
    (elsewhere c.loop-flow.bound _
    (do_back a.program.now (record a.here { bound = c.loop-flow.bound }) c.loop-flow.frame c.loop-flow.state a.body.now a.e.now c.in_ok-flow.flow
    c.flow_of_all.new.frame c.flow_of_all.new.state c.in_ok-flow.ensures (is_back _ b)
    (on (value_of a.program.now (own_context a.program.now c.loop-flow.bound) a.e.now c.flow_of_all.new.frame
    (world_of a.here c.flow_of_all.new.state))
    (λ x. unless_zero x (give Goes) ((own_context a.program.now c.loop-flow.bound).loop (roll-Stmt (stmt.Do a.body.now a.e.now))))
    c.in_ok-v.ensures (λ le. zero_way (give Goes)
    ((own_context a.program.now c.loop-flow.bound).loop (roll-Stmt (stmt.Do a.body.now a.e.now))) c.if-v-eq0.true (gave le)))))

pub do_loop-returns-then-bound-eq0 : goal.do_loop-returns-then-bound-eq0
do_loop-returns-then-bound-eq0 t c =
    let a = c.args in
    let b : goes_back c.in_ok-flow.flow ≡ true = search rules in
    carried _ _ c.loop-flow.invariant.rest
    (elsewhere c.loop-flow.bound _
    (do_back a.program.now (record a.here { bound = c.loop-flow.bound }) c.loop-flow.frame c.loop-flow.state a.body.now a.e.now c.in_ok-flow.flow
    c.flow_of_all.new.frame c.flow_of_all.new.state c.in_ok-flow.ensures (is_back _ b)
    (on (value_of a.program.now (own_context a.program.now c.loop-flow.bound) a.e.now c.flow_of_all.new.frame
    (world_of a.here c.flow_of_all.new.state))
    (λ x. unless_zero x (give Goes) ((own_context a.program.now c.loop-flow.bound).loop (roll-Stmt (stmt.Do a.body.now a.e.now))))
    c.in_ok-v.ensures (λ le. other_way (give Goes)
    ((own_context a.program.now c.loop-flow.bound).loop (roll-Stmt (stmt.Do a.body.now a.e.now))) c.if-v-eq0.false
    (no_turn a.program.now (record a.here { bound = c.loop-flow.bound }) c.loop-flow.bound c.value_of.new.frame c.value_of.new.state
    (roll-Stmt (stmt.Do a.body.now a.e.now)) c.if-bound-eq0.true le)))))

pub do_loop-loop-flow-preserved : goal.do_loop-loop-flow-preserved
do_loop-loop-flow-preserved t c =
    let a = c.args in
    let b : goes_back c.in_ok-flow.flow ≡ true = search rules in
    record {
      lower = omega arith;
      rest = do_turned a.program.now a.here _ c.loop-flow.bound c.loop-flow.frame c.loop-flow.state c.count.new.state c.if-bound-eq0.false a.body.now
          a.e.now c.in_ok-flow.flow c.flow_of_all.new.frame c.value_of.new.frame c.flow_of_all.new.state c.value_of.new.state c.in_ok-v.v
          c.loop-flow.invariant.rest c.in_ok-flow.ensures.shown (is_back _ b) c.in_ok-v.ensures.shown c.if-v-eq0.false c.count.ensures;
    }

pub for_loop-returns-in_err-v : goal.for_loop-returns-in_err-v
for_loop-returns-in_err-v t c =
    let a = c.args in
    let r : c.from_residual.result ≡ Err c.in_err-v.field-0.0 = search rules in
    rw r (carried _ _ c.loop-v.invariant.rest (elsewhere c.loop-v.bound _ (failed _ _ _ c.in_err-v.ensures)))

pub for_loop-returns-then-v-eq0 : goal.for_loop-returns-then-v-eq0
for_loop-returns-then-v-eq0 t c =
    let a = c.args in
    carried _ _ c.loop-v.invariant.rest (elsewhere c.loop-v.bound _ (on _ _ c.in_ok-v.ensures (λ le. zero_way _ _ c.if-v-eq0.true (gave le))))

pub for_loop-returns-in_err-flow : goal.for_loop-returns-in_err-flow
for_loop-returns-in_err-flow t c =
    let a = c.args in
    let r : c.from_residual-in_err-flow.result ≡ Err c.in_err-flow.field-0.0 = search rules in
    rw r (carried _ _ c.loop-v.invariant.rest (elsewhere c.loop-v.bound _ (on _ _ c.in_ok-v.ensures (λ le. other_way _ _ c.if-v-eq0.false (failed _ _ _ c.in_err-flow.ensures)))))

pub for_loop-returns-then-not-goes_back : goal.for_loop-returns-then-not-goes_back
for_loop-returns-then-not-goes_back t c =
    let a = c.args in
    let b : goes_back c.in_ok-flow.flow ≡ false = search rules in
    rw c.behind_loop.ensures (carried _ _ c.loop-v.invariant.rest
    (elsewhere c.loop-v.bound _ (on _ _ c.in_ok-v.ensures
    (λ le. other_way _ _ c.if-v-eq0.false
    (on _ _ c.in_ok-flow.ensures (λ le2. left_loop (record a.here { bound = c.loop-v.bound }) c.in_ok-flow.flow _ _ _ b le2))))))

pub for_loop-returns-in_err-optional_value : goal.for_loop-returns-in_err-optional_value
for_loop-returns-in_err-optional_value t c =
    let a = c.args in
    let b : goes_back c.in_ok-flow.flow ≡ true = search rules in
    let r : c.from_residual-in_err-optional_value.result ≡ Err c.in_err-optional_value.field-0.0 = search rules in
    rw r (carried _ _ c.loop-v.invariant.rest
    (elsewhere c.loop-v.bound _ (for_back a.program.now (record a.here { bound = c.loop-v.bound }) c.loop-v.frame c.loop-v.state a.test.now
    a.step.now a.body.now c.in_ok-v.v c.optional_value.new.frame c.flow_of_all.new.frame c.optional_value.new.state
    c.flow_of_all.new.state c.in_ok-flow.flow c.in_ok-v.ensures c.if-v-eq0.false c.in_ok-flow.ensures (is_back _ b)
    (failed (optional_value a.program.now (own_context a.program.now c.loop-v.bound) 0 a.step.now c.flow_of_all.new.frame
    (world_of a.here c.flow_of_all.new.state))
    (λ x. (own_context a.program.now c.loop-v.bound).loop (roll-Stmt (stmt.For [] a.test.now a.step.now a.body.now))) _
    c.in_err-optional_value.ensures))))

pub for_loop-returns-then-bound-eq0 : goal.for_loop-returns-then-bound-eq0
for_loop-returns-then-bound-eq0 t c =
    let a = c.args in
    let b : goes_back c.in_ok-flow.flow ≡ true = search rules in
    carried _ _ c.loop-v.invariant.rest
    (elsewhere c.loop-v.bound _ (for_back a.program.now (record a.here { bound = c.loop-v.bound }) c.loop-v.frame c.loop-v.state a.test.now a.step.now
    a.body.now c.in_ok-v.v c.optional_value.new.frame c.flow_of_all.new.frame c.optional_value.new.state c.flow_of_all.new.state
    c.in_ok-flow.flow c.in_ok-v.ensures c.if-v-eq0.false c.in_ok-flow.ensures (is_back _ b)
    (on (optional_value a.program.now (own_context a.program.now c.loop-v.bound) 0 a.step.now c.flow_of_all.new.frame
    (world_of a.here c.flow_of_all.new.state))
    (λ x. (own_context a.program.now c.loop-v.bound).loop (roll-Stmt (stmt.For [] a.test.now a.step.now a.body.now)))
    c.in_ok-optional_value.ensures
    (λ le. no_turn a.program.now (record a.here { bound = c.loop-v.bound }) c.loop-v.bound c.optional_value-in-loop-v.new.frame
    c.optional_value-in-loop-v.new.state (roll-Stmt (stmt.For [] a.test.now a.step.now a.body.now)) c.if-bound-eq0.true le))))

pub for_loop-loop-v-preserved : goal.for_loop-loop-v-preserved
for_loop-loop-v-preserved t c =
    let a = c.args in
    let b : goes_back c.in_ok-flow.flow ≡ true = search rules in
    record {
      lower = omega arith;
      rest = for_turned a.program.now a.here _ c.loop-v.bound c.loop-v.frame c.loop-v.state c.count.new.state c.if-bound-eq0.false a.test.now
          a.step.now a.body.now c.in_ok-v.v c.optional_value.new.frame c.flow_of_all.new.frame c.optional_value-in-loop-v.new.frame
          c.optional_value.new.state c.flow_of_all.new.state c.optional_value-in-loop-v.new.state c.in_ok-flow.flow c.in_ok-optional_value.field-0
          c.loop-v.invariant.rest c.in_ok-v.ensures.shown c.if-v-eq0.false c.in_ok-flow.ensures.shown (is_back _ b)
          c.in_ok-optional_value.ensures.shown c.count.ensures;
    }

pub arms_flow-loop-arm-init : goal.arms_flow-loop-arm-init
arms_flow-loop-arm-init t c =
    let a = c.args in
    record { capped = omega arith; rest = refl }

pub arms_flow-flow_of_all-requires : goal.arms_flow-flow_of_all-requires
arms_flow-flow_of_all-requires t c =
    let a = c.args in
    let l = c.loop-arm in
    (omega (arith, arm_within a.arms.now l.arm-index c.arm-item.result c.loop-arm-test.true c.arm-item.is, c.decreases), c.requires)

pub arms_flow-returns-in_err-flow : goal.arms_flow-returns-in_err-flow
arms_flow-returns-in_err-flow t c =
    let a = c.args in
    let l = c.loop-arm in
    let r : c.from_residual.result ≡ Err c.in_err-flow.field-0.0 = search rules in
    rw r (arms_fail a.program.now (own_context a.program.now a.here.bound) a.here _ a.arms.now l.arm-index l.frame l.state l.invariant.rest c.arm-item.result _ _ _ _ _ _ refl c.loop-arm-test.true c.arm-item.is c.in_err-flow.ensures)

pub arms_flow-returns-then-ne : goal.arms_flow-returns-then-ne
arms_flow-returns-then-ne t c =
    let a = c.args in
    let l = c.loop-arm in
    let other : c.in_ok-flow.flow ≡ Goes → ⊥ = search rules in
    rw c.behind_switch.ensures
    (arms_left a.program.now (own_context a.program.now a.here.bound) a.here _ a.arms.now l.arm-index l.frame l.state l.invariant.rest
    c.arm-item.result c.in_ok-flow.flow _ _ _ _ refl c.loop-arm-test.true c.arm-item.is c.in_ok-flow.ensures other)

pub arms_flow-loop-arm-preserved : goal.arms_flow-loop-arm-preserved
arms_flow-loop-arm-preserved t c =
    let a = c.args in
    let l = c.loop-arm in
    let goes : c.in_ok-flow.flow ≡ Goes = search rules in
    record {
      capped = within _ _ _ _ _ _ c.in_ok-flow.ensures.shown;
      rest = arms_step a.program.now (own_context a.program.now a.here.bound) a.here _ a.arms.now l.arm-index l.frame l.state l.invariant.rest
          c.arm-item.result c.in_ok-flow.flow _ _ c.loop-arm-test.true c.arm-item.is c.in_ok-flow.ensures goes;
    }

pub arms_flow-returns : goal.arms_flow-returns
arms_flow-returns t c =
    let a = c.args in
    let l = c.loop-arm in
    all_done (arms_from a.program.now (own_context a.program.now a.here.bound)) a.here _ a.arms.now l.arm-index l.frame l.state l.invariant.rest refl _ _ refl c.loop-arm-test.false l.invariant.capped

pub store_values-loop-i-init : goal.store_values-loop-i-init
store_values-loop-i-init t c =
    let a = c.args in
    let e = c.as_slice-e-items.ensures in
    record { capped = omega arith; rest = rw e refl }

pub store_values-returns-in_err-v : goal.store_values-returns-in_err-v
store_values-returns-in_err-v t c =
    let a = c.args in
    let l = c.loop-i in
    let r : c.from_residual.result ≡ Err c.in_err-v.field-0.0 = search rules in
    rw r (stores_fail a.program.now (own_context a.program.now a.here.bound) a.here a.l _ c.as_slice-e-items.result.now l.i l.frame l.state l.invariant.rest c.e-item.result _ _ _ _ _ _ refl c.loop-i-test.true c.e-item.is c.in_err-v.ensures)

pub store_values-loop-i-preserved : goal.store_values-loop-i-preserved
store_values-loop-i-preserved t c =
    let a = c.args in
    let l = c.loop-i in
    let f1 = c.value_of.new.frame in
    let f2 : Frame = record f1 { locals = c.put_word.new.objects } in
    record {
      capped = within _ _ _ _ _ _ c.in_ok-v.ensures.shown;
      rest = stores_step a.program.now (own_context a.program.now a.here.bound) a.here a.l _ c.as_slice-e-items.result.now l.i l.frame l.state
          l.invariant.rest c.e-item.result c.in_ok-v.v f1 f2 c.value_of.new.state c.loop-i-test.true c.e-item.is c.in_ok-v.ensures
          (ap (λ (words : List (List ℕ)). let f : Frame = record f1 { locals = words } in f) c.put_word.ensures);
    }

pub store_values-returns : goal.store_values-returns
store_values-returns t c =
    let a = c.args in
    let l = c.loop-i in
    all_done (λ es. put_values a.l l.i (map (value_of a.program.now (own_context a.program.now a.here.bound)) es)) a.here _
    c.as_slice-e-items.result.now l.i l.frame l.state l.invariant.rest refl _ _ refl c.loop-i-test.false l.invariant.capped

-- ---- where there is no level left, memory is wanting, of which nothing is said

pub value_of-returns-then-level-ge-LEVEL_LIMIT : goal.value_of-returns-then-level-ge-LEVEL_LIMIT
value_of-returns-then-level-ge-LEVEL_LIMIT t c = record { shown = tt }

pub flow_of_all-returns-then-level-ge-LEVEL_LIMIT : goal.flow_of_all-returns-then-level-ge-LEVEL_LIMIT
flow_of_all-returns-then-level-ge-LEVEL_LIMIT t c = record { shown = tt }
