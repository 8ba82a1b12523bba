use Rattle.mv_parse_grammar.specs.Terminals.{terminal, terminals, is_mark, is_type_part}
use Rattle.mv_parse_nodes.proofs.Terminals.{both_come, second_missing, first_missing}
use Rattle.mv_parse_nodes.proofs.tokens.next_cast.Goals as goal

pub returns-in_default-clause-next : goal.returns-in_default-clause-next
returns-in_default-clause-next c = λ text. first_missing (is_mark 0) is_type_part (terminals text c.args.tokens.now) (c.in_default.ensures.next text)

pub returns-in_default-next_type_part-clause-next : goal.returns-in_default-next_type_part-clause-next
returns-in_default-next_type_part-clause-next c = λ text.
    second_missing (is_mark 0) is_type_part (terminals text c.args.tokens.now) (terminal text c.in-Some.open.now) (terminals text c.in-Some.rest.now) (c.in-Some.ensures.next text) (c.in_default-next_type_part.ensures.next text)

pub returns-clause-next : goal.returns-clause-next
returns-clause-next c = λ text. both_come (is_mark 0) is_type_part _ _ _ _ _ (c.in-Some.ensures.next text) (c.in-Some-next_type_part.ensures.next text)
