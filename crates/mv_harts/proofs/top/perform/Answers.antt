use Rattle.std.proofs.Common.{map, refl}
use Rattle.std.specs.String.{string_bytes}
use Rattle.mv_harts_words.specs.Asked.{asked}
use Rattle.mv_harts.specs.Outcomes.{done, unread, usage}
use Rattle.mv_harts.proofs.Coming.{few_harts, is_asked, is_not_asked, some_harts}
use Rattle.mv_harts.proofs.top.perform.Goals as goal

pub returns-in-Ok-Some : goal.returns-in-Ok-Some
returns-in-Ok-Some g c =
    done (asked c.in-Ok-Some.command) c.run_file.result (is_asked (map string_bytes c.args.words.now) c.in-Ok-Some.field-0 c.in-Ok-Some.command c.in-Ok-Some.ensures c.in-Ok-Some.field-0-is) c.run_file.ensures.comes
    (record { asks = c.run_file.ensures.asks; shelf = c.run_file.ensures.count; output = c.run_file.ensures.writing })

pub returns-in-Ok-None : goal.returns-in-Ok-None
returns-in-Ok-None g c = usage (is_not_asked (map string_bytes c.args.words.now) c.in-Ok-None.field-0 c.in-Ok-None.ensures c.in-Ok-None.field-0-is) refl

pub returns-in-Err : goal.returns-in-Err
returns-in-Err g c = unread refl

pub run_file-requires-clause-some : goal.run_file-requires-clause-some
run_file-requires-clause-some g c =
    some_harts (map string_bytes c.args.words.now) c.in-Ok-Some.command (is_asked (map string_bytes c.args.words.now) c.in-Ok-Some.field-0 c.in-Ok-Some.command c.in-Ok-Some.ensures c.in-Ok-Some.field-0-is)

pub run_file-requires-clause-few : goal.run_file-requires-clause-few
run_file-requires-clause-few g c =
    few_harts (map string_bytes c.args.words.now) c.in-Ok-Some.command (is_asked (map string_bytes c.args.words.now) c.in-Ok-Some.field-0 c.in-Ok-Some.command c.in-Ok-Some.ensures c.in-Ok-Some.field-0-is)
