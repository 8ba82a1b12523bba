use Rattle.std.proofs.Common.{arith}
use Rattle.mv_asmtext.proofs.Turns.{digits_end}
use Rattle.mv_asmtext.proofs.printing.+push_digits.Goals as goal

pub returns-in_ok-push : goal.returns-in_ok-push
returns-in_ok-push t c =
    digits_end c.args.out.now.items c.push_digits.new.out.items c.push.new.self.items c.args.number (omega arith) c.in_ok-push_digits.ensures c.in_ok-push.ensures.items
