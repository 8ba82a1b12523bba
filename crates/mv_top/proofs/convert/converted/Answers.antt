use Rattle.std.proofs.Common.{sym, subst}
use Rattle.mv_notes.specs.declared.status.Status.{Status}
use Rattle.mv_top.specs.Converting.{IsUnconverted, unconverted}
use Rattle.mv_top.proofs.convert.converted.Goals as goal

pub returns-in-Err : goal.returns-in-Err
returns-in-Err c =
    subst (λ (s : Status). IsUnconverted c.args.conversion c.args.bytes.now s) (sym c.status_of_conversion.ensures) (unconverted c.in-Err.error c.in-Err.ensures)
