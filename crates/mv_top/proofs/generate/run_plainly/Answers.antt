use Rattle.std.proofs.Common.{inl, refl}
use Rattle.mv_io.proofs.Common.{count_most}
use Rattle.mv_top.proofs.Counting.{cut_by}
use Rattle.mv_top.proofs.Generating.{ran_plainly, unlined}
use Rattle.mv_top.proofs.generate.run_plainly.Goals as goal

pub returns-in-Ok-clause-ran : goal.returns-in-Ok-clause-ran
returns-in-Ok-clause-ran g c input =
    ran_plainly _ _ _ _ _ input c.args.text.now c.new.result c.new.ensures c.in-Ok.performed.lines.items c.in-Ok.performed.status c.in-Ok.performed.status c.in-Ok.ensures.ran.0 (inl refl)

pub returns-clause-ran : goal.returns-clause-ran
returns-clause-ran g c input = unlined _ _ _ _ _ input c.args.text.now c.new.result c.new.ensures (record { lines = c.in-Err.ensures.ran.lines; status = c.in-Err.ensures.ran.status; comes = c.in-Err.ensures.ran.comes.0 })

pub returns-in-Ok-clause-count : goal.returns-in-Ok-clause-count
returns-in-Ok-clause-count g c = cut_by c.in-Ok.performed.status _ _ c.in-Ok.ensures.ran.1.output

pub returns-clause-count : goal.returns-clause-count
returns-clause-count g c = count_most _ _ _ c.in-Err.ensures.ran.comes.1.output
