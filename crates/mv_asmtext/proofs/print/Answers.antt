use Rattle.std.proofs.Common.{◌≡◌, ◌++◌, ap, ◌∙◌}
use Rattle.mv_asmtext.specs.Printing.{printed}
use Rattle.mv_asmtext.specs.Scans.{scanned}
use Rattle.mv_asmtext.proofs.RoundTrip.{printed_back}
use Rattle.mv_asmtext.proofs.print.Goals as goal

pub returns-clause-read_back : goal.returns-clause-read_back
returns-clause-read_back c = λ fits.
    let code = c.args.code.now in
    let text : c.push_code.new.out.items ≡ c.new-out.result.items ++ printed code = c.in_ok-push_code.ensures in
    ap scanned (text ∙ ap (λ bytes. bytes ++ printed code) c.new-out.ensures.items) ∙
    printed_back code fits c.has_words.ensures.text c.has_words.ensures.globals
