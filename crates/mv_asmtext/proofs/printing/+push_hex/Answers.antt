use Rattle.std.proofs.Common.{arith}
use Rattle.mv_asmtext.proofs.Turns.{hex_end}
use Rattle.mv_asmtext.proofs.printing.+push_hex.Goals as goal

pub returns-in_ok-push : goal.returns-in_ok-push
returns-in_ok-push t c =
    hex_end c.args.out.now.items c.push_hex.new.out.items c.push.new.self.items c.args.count c.args.word c.hex_digit.result (omega arith) c.in_ok-push_hex.ensures c.hex_digit.ensures c.in_ok-push.ensures.items
