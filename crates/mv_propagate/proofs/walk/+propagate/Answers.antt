use Rattle.std.proofs.Common.{refl, subst}
use Rattle.std.proofs.lemmas.Result.{IfOk-weaker}
use Rattle.mv_ir.specs.Rolled as rolled
use Rattle.mv_propagate.specs.Propagating.{Reads, Fewer, PropagatedIn}
use Rattle.mv_propagate.proofs.Walked.{code_begins, code_next, chooses, after_store, after_divide, after_write, after_zero, after_call, after_known, after_check, after_return, after_set, after_read, after_choice, after_loop, after_block, after_break, after_back}
use Rattle.mv_propagate.proofs.walk.+propagate.Goals as goal

pub propagate_code-loop-stm-init : goal.propagate_code-loop-stm-init
propagate_code-loop-stm-init t c = code_begins c.args.temps c.args.facts.now c.in_ok-known.known c.args.code.now c.new-made.result c.new-made.ensures c.in_ok-known.ensures

pub propagate_code-loop-stm-preserved : goal.propagate_code-loop-stm-preserved
propagate_code-loop-stm-preserved t c =
    code_next c.args.temps c.args.facts.now c.loop-stm.known c.in_ok-next.next.facts c.args.code.now c.as_slice-stm-items.result.now c.loop-stm.made c.push.new.self c.loop-stm.stm-index
    c.stm-item.result c.in_ok-next.next.stm c.as_slice-stm-items.ensures c.loop-stm-test.true c.stm-item.is c.loop-stm.invariant c.in_ok-next.ensures c.in_ok-push.ensures.ok

pub propagate_stm-returns-in-Set : goal.propagate_stm-returns-in-Set
propagate_stm-returns-in-Set t c =
    let s = c.in-Set in
    IfOk-weaker c.set.result _ _ (λ next h. after_set c.args.temps c.args.facts.now next.facts c.args.stm.now s.t s.v next.stm s.is
    (subst (λ fs. PropagatedIn c.args.temps fs (rolled.set s.t s.v) next.stm next.facts) c.as_slice-known.ensures h)) c.set.ensures

pub propagate_stm-returns-in_ok-unstored-in-SetGlobal : goal.propagate_stm-returns-in_ok-unstored-in-SetGlobal
propagate_stm-returns-in_ok-unstored-in-SetGlobal t c =
    let s = c.in-SetGlobal in
    after_store c.args.temps c.args.facts.now c.in_ok-unstored-in-SetGlobal.field-0 c.as_slice-known.result.now c.as_slice-known.ensures
    c.args.stm.now s.g s.v c.in_ok-read_tree-in-SetGlobal.field-0 s.is c.in_ok-read_tree-in-SetGlobal.ensures c.in_ok-unstored-in-SetGlobal.ensures

pub propagate_stm-returns-in_ok-unwritten-in-Divide : goal.propagate_stm-returns-in_ok-unwritten-in-Divide
propagate_stm-returns-in_ok-unwritten-in-Divide t c =
    let s = c.in-Divide in
    after_divide c.args.temps c.args.facts.now c.in_ok-unwritten-in-Divide.field-0 c.as_slice-known.result.now c.as_slice-known.ensures c.args.stm.now
    s.t s.o s.a c.in_ok-a-in-Divide.a s.b c.in_ok-b-in-Divide.b s.is c.in_ok-a-in-Divide.ensures c.in_ok-b-in-Divide.ensures c.in_ok-unwritten-in-Divide.ensures

pub propagate_stm-returns-in_ok-copied-in-Check : goal.propagate_stm-returns-in_ok-copied-in-Check
propagate_stm-returns-in_ok-copied-in-Check t c =
    let s = c.in-Check in
    after_check c.args.temps c.args.facts.now c.in_ok-copied-in-Check.field-0 c.as_slice-known.result.now c.as_slice-known.ensures c.args.stm.now
    c.in_ok-copied-in-Check.ensures s.a s.i c.in_ok-read_tree-in-Check.field-0 s.is c.in_ok-read_tree-in-Check.ensures

pub propagate_stm-returns-in-Read : goal.propagate_stm-returns-in-Read
propagate_stm-returns-in-Read t c =
    let s = c.in-Read in
    IfOk-weaker c.read.result _ _ (λ next h. after_read c.args.temps c.args.facts.now next.facts c.args.stm.now s.t s.a s.i next.stm s.is h) c.read.ensures

pub propagate_stm-returns-in_ok-unstored-in-Write : goal.propagate_stm-returns-in_ok-unstored-in-Write
propagate_stm-returns-in_ok-unstored-in-Write t c =
    let s = c.in-Write in
    after_write c.args.temps c.args.facts.now c.in_ok-unstored-in-Write.field-0 c.as_slice-known.result.now c.as_slice-known.ensures c.args.stm.now
    s.a s.i c.in_ok-i-in-Write.i s.v c.in_ok-v-in-Write.v s.is c.in_ok-i-in-Write.ensures c.in_ok-v-in-Write.ensures c.in_ok-unstored-in-Write.ensures

pub propagate_stm-returns-in_ok-unstored-in-Zero : goal.propagate_stm-returns-in_ok-unstored-in-Zero
propagate_stm-returns-in_ok-unstored-in-Zero t c =
    let s = c.in-Zero in
    after_zero c.args.temps c.args.facts.now c.in_ok-unstored-in-Zero.field-0 c.as_slice-known.result.now c.as_slice-known.ensures c.args.stm.now s.l s.is c.in_ok-unstored-in-Zero.ensures

pub propagate_stm-returns-in_ok-behind-in-If : goal.propagate_stm-returns-in_ok-behind-in-If
propagate_stm-returns-in_ok-behind-in-If t c =
    let s = c.in-If in
    let u = c.in_ok-t-in-If in
    let a = c.in_ok-a-in-If in
    let b = c.in_ok-b-in-If in
    let behind = c.in_ok-behind-in-If in
    after_choice c.args.temps c.args.facts.now behind.behind c.args.stm.now s.t s.a s.b _ s.is
    (chooses c.args.temps c.args.facts.now behind.behind a.a.facts b.b.facts s.t u.t s.a a.a.code s.b b.b.code
    (subst (λ fs. Reads fs s.t u.t) c.as_slice-known.ensures u.ensures) a.ensures b.ensures
    (subst (λ fs. Fewer fs behind.behind) c.as_slice.ensures behind.ensures.of) (subst (λ fs. Fewer fs behind.behind) c.as_slice-in-If.ensures behind.ensures.too))

pub propagate_stm-returns-in_ok-turn-in-Loop : goal.propagate_stm-returns-in_ok-turn-in-Loop
propagate_stm-returns-in_ok-turn-in-Loop t c =
    let s = c.in-Loop in
    let turn = c.in_ok-turn-in-Loop in
    after_loop c.args.temps c.args.facts.now c.new-none.result c.args.stm.now c.new-none.result turn.turn.facts s.b turn.turn.code s.is c.new-none.ensures refl turn.ensures

pub propagate_stm-returns-in_ok-inner-in-Block : goal.propagate_stm-returns-in_ok-inner-in-Block
propagate_stm-returns-in_ok-inner-in-Block t c =
    let s = c.in-Block in
    let inner = c.in_ok-inner-in-Block in
    after_block c.args.temps c.args.facts.now c.new.result c.args.stm.now inner.inner.facts s.b inner.inner.code s.is c.new.ensures inner.ensures

pub propagate_stm-returns-in_ok-copied-in-Break : goal.propagate_stm-returns-in_ok-copied-in-Break
propagate_stm-returns-in_ok-copied-in-Break t c =
    after_break c.args.temps c.args.facts.now c.in_ok-copied-in-Break.field-0 c.args.stm.now c.in-Break.n c.in-Break.is c.in_ok-copied-in-Break.ensures

pub propagate_stm-returns-in_ok-copied-in-Back : goal.propagate_stm-returns-in_ok-copied-in-Back
propagate_stm-returns-in_ok-copied-in-Back t c =
    after_back c.args.temps c.args.facts.now c.in_ok-copied-in-Back.field-0 c.args.stm.now c.in-Back.n c.in-Back.is c.in_ok-copied-in-Back.ensures

pub propagate_stm-returns-in_ok-uncalled-in-Call : goal.propagate_stm-returns-in_ok-uncalled-in-Call
propagate_stm-returns-in_ok-uncalled-in-Call t c =
    let s = c.in-Call in
    after_call c.args.temps c.args.facts.now c.in_ok-uncalled-in-Call.field-0 c.as_slice-known.result.now c.as_slice-known.ensures c.args.stm.now s.r
    s.f c.in_ok-f-in-Call.f s.args c.in_ok-args-in-Call.args s.is c.in_ok-f-in-Call.ensures c.in_ok-args-in-Call.ensures c.in_ok-uncalled-in-Call.ensures

pub propagate_stm-returns-in_ok-uncalled-in-Known : goal.propagate_stm-returns-in_ok-uncalled-in-Known
propagate_stm-returns-in_ok-uncalled-in-Known t c =
    let s = c.in-Known in
    after_known c.args.temps c.args.facts.now c.in_ok-uncalled-in-Known.field-0 c.as_slice-known.result.now c.as_slice-known.ensures c.args.stm.now
    s.r s.k s.args c.in_ok-args-in-Known.args s.is c.in_ok-args-in-Known.ensures c.in_ok-uncalled-in-Known.ensures

pub propagate_stm-returns-in_ok-copied-in-Return : goal.propagate_stm-returns-in_ok-copied-in-Return
propagate_stm-returns-in_ok-copied-in-Return t c =
    let s = c.in-Return in
    after_return c.args.temps c.args.facts.now c.in_ok-copied-in-Return.field-0 c.as_slice-known.result.now c.as_slice-known.ensures c.args.stm.now
    c.in_ok-copied-in-Return.ensures s.v c.in_ok-read_tree-in-Return.field-0 s.is c.in_ok-read_tree-in-Return.ensures
