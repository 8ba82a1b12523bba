use Rattle.std.proofs.Common.{subst}
use Rattle.mv_image.specs.Faults.{FirstFault}
use Rattle.mv_exec.specs.Loading.{truncated, bad_field, trailing}
use Rattle.mv_exec.proofs.read_image.Goals as goal

pub returns-in-Err-Truncated-clause-err : goal.returns-in-Err-Truncated-clause-err
returns-in-Err-Truncated-clause-err c = truncated c.in-Err-Truncated.offset (subst (FirstFault c.args.bytes.now) c.in-Err-Truncated.field-0-is c.in-Err-Truncated.ensures.fault)

pub returns-in-Err-BadField-clause-err : goal.returns-in-Err-BadField-clause-err
returns-in-Err-BadField-clause-err c = bad_field c.in-Err-BadField.offset (subst (FirstFault c.args.bytes.now) c.in-Err-BadField.field-0-is c.in-Err-BadField.ensures.fault)

pub returns-in-Err-Trailing-clause-err : goal.returns-in-Err-Trailing-clause-err
returns-in-Err-Trailing-clause-err c = trailing c.in-Err-Trailing.offset (subst (FirstFault c.args.bytes.now) c.in-Err-Trailing.field-0-is c.in-Err-Trailing.ensures.fault)
