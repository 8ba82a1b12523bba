use Rattle.std.proofs.Common.{Err, refl, subst}
use Rattle.mv_parse_grammar.specs.Terminals.{terminals}
use Rattle.mv_parse_grammar.specs.UnitReader as model
use Rattle.mv_parse_nodes.specs.Gives.{Gives}
use Rattle.mv_parser.proofs.Reading.{all, reads_all, breaks_off}
use Rattle.mv_parser.proofs.verdict.unit.Goals as goal

pub returns-in-Ok : goal.returns-in-Ok
returns-in-Ok c = reads_all c.args.text.now c.args.tokens.now c.as_slice-given.result.now _ c.as_slice-given.ensures refl c.in-Ok.ensures

pub returns-in-Err-Syntax : goal.returns-in-Err-Syntax
returns-in-Err-Syntax c = breaks_off c.args.text.now c.args.tokens.now c.as_slice-given.result.now c.in-Err-Syntax.left _ c.as_slice-given.ensures c.place_left.ensures
    (λ n. subst (λ f. Gives all (Err f) (model.unit n (terminals c.args.text.now c.as_slice-given.result.now))) c.in-Err-Syntax.field-0-is (c.in-Err-Syntax.ensures n))
