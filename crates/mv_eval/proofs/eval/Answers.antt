use Rattle.std.proofs.Common.{◌≡◌, ℕ, List, ◌∙◌, ap, subst}
use Rattle.mv_io.specs.Outside.{Rose}
use Rattle.mv_meaning.specs.Growth.{with_capped_work}
use Rattle.mv_eval.specs.Evaluations.{meaning}
use Rattle.mv_eval.specs.Grown.{Grew}
use Rattle.mv_eval.proofs.Evaluated.{ended, nothing_grown, part_of}
use Rattle.mv_eval.proofs.eval.Goals as goal

pub returns-in-Ok-write_all-clause-evaluates : goal.returns-in-Ok-write_all-clause-evaluates
returns-in-Ok-write_all-clause-evaluates g c =
    let p = c.args.program.now in
    let bound = c.args.bound in
    let wrote = λ (bytes : List ℕ). Grew (g.O.Sink.written c.args.out.now) (g.O.Sink.written c.write_all.new.sink) bytes in
    let bytes = c.in_ok-bytes.bytes in
    let means : c.in-Ok.meant ≡ with_capped_work (meaning p bound bytes) = c.in-Ok.ensures.meaning ∙ ap (λ i. with_capped_work (meaning p bound i)) c.as_slice.ensures in
    ended (g.I.Source.left c.args.input.now) (g.I.Source.left c.read_input.new.source) bytes c.in_ok-bytes.ensures.reads p bound wrote
    (Rose (g.I.Source.faults c.args.input.now) (g.I.Source.faults c.read_input.new.source))
    (Rose (g.O.Sink.faults c.args.out.now) (g.O.Sink.faults c.write_all.new.sink))
    c.in-Ok.meant means (subst wrote c.as_slice-2.ensures c.in-Ok-write_all.ensures.bytes)

pub returns-in-Err-clause-evaluates : goal.returns-in-Err-clause-evaluates
returns-in-Err-clause-evaluates g c = (
  part_of (g.I.Source.left c.args.input.now) (g.I.Source.left c.read_input.new.source) c.in_ok-bytes.bytes c.in_ok-bytes.ensures.reads,
  nothing_grown (g.O.Sink.written c.args.out.now),
)
