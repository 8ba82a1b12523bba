use Rattle.std.proofs.Common.{◌∙◌, ◌++◌, sym, ap, arith}
use Rattle.std.proofs.lemmas.List.{append-nil, drop_all}
use Rattle.mv_bindings.specs.Bindings.{events_from}
use Rattle.mv_interpret.proofs.commits.push_events.Goals as goal
use Rattle.mv_bindings.proofs.Common.{events_from-end}

pub returns : goal.returns
returns c =
    let l = c.loop-i in
    sym (ap (λ x. l.log ++ x) (ap (events_from l.i _) (drop_all l.i c.args.new.now (omega arith)) ∙ events_from-end l.i _) ∙ append-nil l.log) ∙ l.invariant
