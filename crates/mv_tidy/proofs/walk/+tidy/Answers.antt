use Rattle.std.proofs.Common.{arith, rules, List, [], map, ◌≡◌, ap, subst, sym, reverse, IfSome, ◌∙◌}
use Rattle.std.proofs.lemmas.Result.{IfOk-at_ok, on_ok_weaker}
use Rattle.mv_ir.specs.declared.stm.Stm.{Stm}
use Rattle.mv_ir.specs.declared.stm.Stm as at
use Rattle.mv_ir.specs.Measures.{calls, statements, stm_size}
use Rattle.mv_regalloc.specs.Rows.{live_before, own_trees, sets, stm_rows, with_all_reads}
use Rattle.mv_regalloc.specs.declared.liveness.Row.TheVariants.{Saved}
use Rattle.mv_regalloc.specs.Shared.{entered, row_of, with_live, with_saved}
use Rattle.mv_tidy.specs.Walking.{IsOneOfLast, IsLeft, HasBecome, passed, sides_bits, turning}
use Rattle.mv_tidy.proofs.Walked.{walk_begins, walk_ends, on_ok_both, walk_passes, walk_jumps, walk_joins, walk_goes_on, first_left, fewer_in_last, fewer_in_if, fewer_in_loop, fewer_in_block, if_becomes, choice_live, loop_live, block_live}
use Rattle.mv_tidy.proofs.walk.+tidy.Goals as goal

pub tidy_code-tidy_next-requires : goal.tidy_code-tidy_next-requires
tidy_code-tidy_next-requires t c =
    let loop = c.loop-stm in (
      omega (
        arith,
        c.decreases,
        fewer_in_last c.args.code loop.stms.items c.pop.new.self.items loop.invariant.0 c.pop.result c.in-Some.stm loop.invariant.1
            c.pop.ensures.items c.in-Some.is,
      ),
      tt,
    )

pub keep-put-requires : goal.keep-put-requires
keep-put-requires t c = (omega (arith, c.decreases, ap stm_size c.in_ok-stm.ensures.first), tt)

pub put-tidy_stm-requires : goal.put-tidy_stm-requires
put-tidy_stm-requires t c = (omega (arith, c.decreases, ap stm_size c.in_ok-stm.ensures.first), tt)

pub tidy_stm-tidy_choice-requires : goal.tidy_stm-tidy_choice-requires
tidy_stm-tidy_choice-requires t c =
    let s = c.in-If in
    (omega (arith, c.decreases, fewer_in_if c.args.stm s.test s.a s.b s.is), tt)

pub tidy_stm-tidy_loop-requires : goal.tidy_stm-tidy_loop-requires
tidy_stm-tidy_loop-requires t c =
    let s = c.in-Loop in
    (omega (arith, c.decreases, fewer_in_loop c.args.stm s.code s.is), tt)

pub tidy_stm-tidy_block-requires : goal.tidy_stm-tidy_block-requires
tidy_stm-tidy_block-requires t c =
    let s = c.in-Block in
    (omega (arith, c.decreases, fewer_in_block c.args.stm s.code s.is), tt)

pub tidy_loop-tidy_code-requires : goal.tidy_loop-tidy_code-requires
tidy_loop-tidy_code-requires t c = (omega (arith, c.decreases, ap statements c.in_ok-code.ensures.first), tt)

pub tidy_block-tidy_code-requires : goal.tidy_block-tidy_code-requires
tidy_block-tidy_code-requires t c = (omega (arith, c.decreases, ap statements c.in_ok-code.ensures.first), tt)

pub tidy_code-loop-stm-init : goal.tidy_code-loop-stm-init
tidy_code-loop-stm-init t c =
    let s = c.args.liveness.now in
    let set_out = IfOk-at_ok (λ _. c.start.new.liveness ≡ with_saved (with_saved s s.live) s.around.none) c.in_ok-code.ensures.step c.start.ensures in
    walk_begins c.args.temps s c.start.new.liveness c.args.code c.into_vec-stms.result.items c.new-kept.result
    (c.into_vec-stms.ensures ∙ c.in_ok-code.ensures.first) c.new-kept.ensures set_out

pub tidy_code-returns-clause-left : goal.tidy_code-returns-clause-left
tidy_code-returns-clause-left t c =
    let loop = c.loop-stm in
    let none_left : loop.stms.items ≡ [] = search rules in
    walk_ends c.args.temps c.args.liveness.now loop.liveness c.args.code loop.stms.items loop.kept c.from_vec.result none_left loop.invariant
    (c.from_vec.ensures ∙ c.reverse.ensures.items ∙ ap reverse c.into_vec-left.ensures)

pub tidy_next-returns-then-is_idle : goal.tidy_next-returns-then-is_idle
tidy_next-returns-then-is_idle t c =
    on_ok_weaker c.leave_out.result (λ live start code walked.
    walk_passes c.args.temps start code c.args.kept.now c.args.stm c.args.liveness.now c.leave_out.new.liveness walked (c.is_idle.ensures c.if-is_idle.true) live)
    c.leave_out.ensures

pub tidy_next-returns-then-ends : goal.tidy_next-returns-then-ends
tidy_next-returns-then-ends t c =
    let told = c.ends.ensures c.if-ends.true in
    on_ok_both c.end.result (λ is live start code walked.
    walk_jumps c.args.temps start code c.args.kept.now c.args.stm c.args.liveness.now c.end.new.liveness walked c.end.new.kept told.0
    (ap calls (sym c.as_slice.ensures) ∙ told.1) is live) c.end.ensures.kept c.end.ensures.live

pub keep-returns-in-Some : goal.keep-returns-in-Some
keep-returns-in-Some t c =
    let temps = c.args.temps in
    let kept = c.args.kept.now in
    let now = c.args.liveness.now in
    let stm = c.args.stm in
    let same = c.in_ok-stm.ensures in
    let joins : List Stm → Stm → Type 0 = λ k. IsOneOfLast temps (row_of now (Saved 0)) stm k in
    let told = IfOk-at_ok (λ one. IfSome one (joins c.as_slice.result.now)) same.step c.one_of_last-one.ensures in
    let last = subst (λ k. IfSome c.in_ok-stm.one (joins k)) c.as_slice.ensures told in
    on_ok_weaker c.leave_out.result (λ live start code walked.
    walk_joins temps start code kept stm now c.leave_out.new.liveness walked c.replace_last.new.kept c.in-Some.one
    (subst (λ one. IfSome one (joins kept)) c.in-Some.is last) c.replace_last.ensures (live ∙ ap (λ x. passed x now) same.first)) c.leave_out.ensures

pub put-returns : goal.put-returns
put-returns t c =
    let now = c.args.liveness.now in
    let aside = c.save.new.self in
    let same = c.in_ok-stm.ensures in
    let made = c.in_ok-becomes in
    let saved = IfOk-at_ok (λ _. aside ≡ with_saved c.forget.new.self c.forget.new.self.live) same.step c.save.ensures.ok in
    λ start code walked.
    walk_goes_on c.args.temps start code c.args.kept.now c.args.stm now c.tidy_stm.new.liveness walked c.push.new.self made.becomes aside
    (saved ∙ ap (λ l. with_saved l l.live) c.forget.ensures) (subst (λ x. HasBecome c.args.temps aside x made.becomes) same.first made.ensures.made)
    c.in_ok-push.ensures.ok (made.ensures.live ∙ ap (λ x. passed x aside) same.first)

pub tidy_choice-returns-clause-live : goal.tidy_choice-returns-clause-live
tidy_choice-returns-clause-live t c =
    let now = c.args.liveness.now in
    let a = c.args.a in
    let b = c.args.b in
    let s = c.in_ok-test in
    let sides = c.tidy_sides.new.liveness in
    choice_live c.args.test s.test a s.a b s.b now sides c.live_plain-step.new.liveness s.ensures.first
    (IfOk-at_ok (λ _. sides ≡ with_live now (sides_bits a b now)) s.ensures.step c.tidy_sides.ensures.live)
    (IfOk-at_ok (λ _. c.live_plain-step.new.liveness ≡ with_live sides (with_all_reads (own_trees (at.If s.test s.a s.b)) sides.live)) c.in_ok-made.ensures.step
    c.live_plain-step.ensures)

pub tidy_choice-returns-clause-made : goal.tidy_choice-returns-clause-made
tidy_choice-returns-clause-made t c =
    let temps = c.args.temps in
    let now = c.args.liveness.now in
    let a = c.args.a in
    let b = c.args.b in
    let s = c.in_ok-test in
    subst (HasBecome temps now (at.If c.args.test a b)) (sym c.in_ok-made.ensures.first)
    (if_becomes temps now c.args.test s.test a s.a b s.b s.ensures.first
    (IfOk-at_ok (λ sides. IsLeft temps now a sides.0) s.ensures.step c.tidy_sides.ensures.a)
    (IfOk-at_ok (λ sides. IsLeft temps now b sides.1) s.ensures.step c.tidy_sides.ensures.b))

pub tidy_sides-returns-clause-a : goal.tidy_sides-returns-clause-a
tidy_sides-returns-clause-a t c =
    let temps = c.args.temps in
    let now = c.args.liveness.now in
    let aside = c.save.new.self in
    let given = c.in_ok-a in
    let second = c.in_ok-a-2 in
    let kept = c.in_ok-a-3 in
    let first = c.in_ok-b in
    let behind = c.tidy_code.new.liveness in
    let again = c.save-2.new.self in
    let from = c.turn.new.self in
    let made = c.in_ok-sides.sides.0 in
    let same : kept.a ≡ c.args.a = ap (λ p. p.0) kept.ensures.first ∙ second.ensures.first ∙ ap (λ p. p.0) given.ensures.first in
    let left = IfOk-at_ok (IsLeft temps from kept.a) first.ensures.step c.tidy_code-2.ensures.left in
    first_left temps c.args.a given.b made now aside behind again from
    (IfOk-at_ok (λ _. aside ≡ with_saved now now.live) given.ensures.step c.save.ensures.ok)
    (IfOk-at_ok (λ _. behind ≡ with_live aside (live_before (map stm_rows given.b) (sets aside.around aside.live))) second.ensures.step c.tidy_code.ensures.live)
    (IfOk-at_ok (λ _. again ≡ with_saved behind behind.live) kept.ensures.step c.save-2.ensures.ok) c.turn.ensures
    (subst (λ x. IsLeft temps from x made) same (subst (IsLeft temps from kept.a) (sym (ap (λ p. p.0) c.in_ok-sides.ensures.first)) left))

pub tidy_sides-returns-clause-b : goal.tidy_sides-returns-clause-b
tidy_sides-returns-clause-b t c =
    let temps = c.args.temps in
    let now = c.args.liveness.now in
    let aside = c.save.new.self in
    let given = c.in_ok-a in
    let second = c.in_ok-a-2 in
    let made = c.in_ok-sides.sides.1 in
    let left = IfOk-at_ok (IsLeft temps aside given.b) second.ensures.step c.tidy_code.ensures.left in
    let same : made ≡ second.b = ap (λ p. p.1) c.in_ok-sides.ensures.first ∙ c.in_ok-b.ensures.first ∙ ap (λ p. p.1) c.in_ok-a-3.ensures.first in
    subst (λ l. IsLeft temps l c.args.b made) (IfOk-at_ok (λ _. aside ≡ with_saved now now.live) given.ensures.step c.save.ensures.ok)
    (subst (λ x. IsLeft temps aside x made) (ap (λ p. p.1) given.ensures.first) (subst (IsLeft temps aside given.b) (sym same) left))

pub tidy_loop-returns-clause-live : goal.tidy_loop-returns-clause-live
tidy_loop-returns-clause-live t c =
    let within = c.turn_in-step.new.liveness in
    let same = c.in_ok-code.ensures in
    loop_live c.args.code c.args.liveness.now within c.tidy_code.new.liveness c.turn.new.self c.leave.new.self
    (IfOk-at_ok (λ _. within ≡ turning c.args.liveness.now c.args.code) same.step c.turn_in-step.ensures)
    (c.in_ok-left.ensures.live ∙ ap (λ b. with_live within (live_before (map stm_rows b) (sets within.around within.live))) same.first) c.turn.ensures c.leave.ensures

pub tidy_loop-returns-clause-left : goal.tidy_loop-returns-clause-left
tidy_loop-returns-clause-left t c =
    let temps = c.args.temps in
    let now = c.args.liveness.now in
    let left = c.in_ok-left in
    let same = c.in_ok-code.ensures in
    subst (λ l. IsLeft temps l c.args.code left.left) (IfOk-at_ok (λ _. c.turn_in-step.new.liveness ≡ turning now c.args.code) same.step c.turn_in-step.ensures)
    (subst (λ b. IsLeft temps c.turn_in-step.new.liveness b left.left) same.first left.ensures.left)

pub tidy_block-returns-clause-live : goal.tidy_block-returns-clause-live
tidy_block-returns-clause-live t c =
    let now = c.args.liveness.now in
    let within = c.enter.new.self in
    let same = c.in_ok-code.ensures in
    block_live c.args.code now within c.tidy_code.new.liveness c.leave.new.self
    (IfOk-at_ok (λ _. within ≡ entered now now.live now.around.none) same.step c.enter.ensures.ok)
    (c.in_ok-left.ensures.live ∙ ap (λ b. with_live within (live_before (map stm_rows b) (sets within.around within.live))) same.first) c.leave.ensures

pub tidy_block-returns-clause-left : goal.tidy_block-returns-clause-left
tidy_block-returns-clause-left t c =
    let temps = c.args.temps in
    let now = c.args.liveness.now in
    let left = c.in_ok-left in
    let same = c.in_ok-code.ensures in
    subst (λ l. IsLeft temps l c.args.code left.left) (IfOk-at_ok (λ _. c.enter.new.self ≡ entered now now.live now.around.none) same.step c.enter.ensures.ok)
    (subst (λ b. IsLeft temps c.enter.new.self b left.left) same.first left.ensures.left)
