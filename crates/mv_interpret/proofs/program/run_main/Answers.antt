use Rattle.std.proofs.Common.{◌≡◌, ◌∙◌, ap, sym, arith, rules, alloc_error, Err}
use Rattle.std.specs.Option.{option_copied}
use Rattle.mv_interpret.specs.declared.state.Halt.TheVariants as halt
use Rattle.mv_meaning.specs.Meaning.{frame_of}
use Rattle.mv_interpret.proofs.Ends.{ran_none, ran_body, ran_short}
use Rattle.mv_interpret.proofs.program.run_main.Goals as goal

pub returns-in-None : goal.returns-in-None
returns-in-None c =
    let a = c.args in
    ran_none a.program.now a.here a.state.now a.state.now (omega arith) (sym c.get.ensures ∙ ap option_copied c.in-None.is)

pub returns-in_err-frame-in-Some : goal.returns-in_err-frame-in-Some
returns-in_err-frame-in-Some c =
    let a = c.args in
    let r : c.from_residual.result ≡ Err (halt.Memory alloc_error) = search rules in
    rw r (ran_short a.program.now a.here a.state.now a.state.now alloc_error)

pub returns-in_ok-frame-in-Some : goal.returns-in_ok-frame-in-Some
returns-in_ok-frame-in-Some c =
    let a = c.args in
    let main = c.in-Some.main.now in
    ran_body a.program.now a.here a.state.now c.flow_of_all.new.state c.flow_of_all.result main c.in_ok-frame-in-Some.frame c.flow_of_all.new.frame
    (sym c.get.ensures ∙ ap option_copied c.in-Some.is) (c.in_ok-frame-in-Some.ensures ∙ ap (frame_of a.program.now.main main) c.new.ensures) c.flow_of_all.ensures
