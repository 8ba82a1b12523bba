use Rattle.std.proofs.Common.{refl, ◌∙◌, ap}
use Rattle.std.specs.Prelude.{Err}
use Rattle.mv_probe.proofs.Logs.{told_nothing}
use Rattle.mv_io.proofs.Common.{count_kept}
use Rattle.mv_top.proofs.Counting.{uses_unloaded}
use Rattle.mv_top.proofs.Loading.{given, not_loaded}
use Rattle.mv_top.proofs.Performing.{performs_so}
use Rattle.mv_top.proofs.exec.exec_file.Goals as goal

pub returns-in-Ok : goal.returns-in-Ok
returns-in-Ok g c =
    performs_so _ _ (λ lines status comes. (
      (
        given _ _ _ c.args.file.now _ status c.in-Ok.bytes c.as_slice.result.now c.as_slice.ensures.value c.in-Ok.ensures.bytes comes.0,
        c.load.ensures.same,
      ),
      record {
        asks = c.load.ensures.asks;
        shelf = count_kept _ _ _ c.in-Ok.ensures.count;
        input = comes.1.input;
        output = comes.1.output;
      },
    ))
    c.exec_bytes.result c.exec_bytes.ensures

pub returns-in-Err : goal.returns-in-Err
returns-in-Err g c = (
  (
    not_loaded _ _ _ c.args.file.now _ c.alone.result.status c.in-Err.error (c.alone.ensures.status ∙ c.status_of_shelf.ensures)
        (λ e. c.in-Err.ensures.failed (ap Err e)) ((refl, c.load.ensures.same), (c.alone.ensures.lines, told_nothing _ _ c.args.probes.now.items c.requires.patient)),
    c.load.ensures.same,
  ),
  uses_unloaded _ _ _ c.in-Err.error c.alone.result.status (c.alone.ensures.status ∙ c.status_of_shelf.ensures) c.load.ensures.asks c.in-Err.ensures.count refl,
)
