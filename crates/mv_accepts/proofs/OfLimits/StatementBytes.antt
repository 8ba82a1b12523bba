-- A statement has at most as many nodes as tokens and characters of strings: by induction over the productions.
use Rattle.std.proofs.Common.{◌≡◌, ℕ, zero, suc, ◌+◌, arith, Option}
use Rattle.mv_syntax.specs.declared.place.Place.{Place}
use Rattle.mv_syntax.specs.declared.unit.Act.{Act}
use Rattle.mv_syntax.specs.declared.unit.Node.{Node}
use Rattle.mv_parse_grammar.specs.Expressions.{Nonterminal, Expressions, Assign, Cond, phrase}
use Rattle.mv_parse_grammar.specs.Declarations.{Parameters, params, place_of_specs}
use Rattle.mv_parse_grammar.specs.Statements as T
use Rattle.mv_parse_grammar.specs.Statements.{Lines, line_at, locals, statements}
use Rattle.mv_accepts.specs.Limits.Nodes.{node_nodes, optional_nodes, line_nodes}
use Rattle.mv_accepts.proofs.OfLimits.Phrases.{Within, of_some, of_all, given, first, after, either, placed, allowed, chained, commas, pushed}
use Rattle.mv_accepts.proofs.OfLimits.DeclaratorCounts.{param_nodes}
use Rattle.mv_accepts.proofs.OfLimits.LineCounts.{nodes_block, nodes_declare, nodes_express, nodes_if, nodes_else, nodes_while, nodes_do, nodes_for, nodes_switch, nodes_case, nodes_default, nodes_break, nodes_continue, nodes_return, nodes_clause}
use Rattle.mv_accepts.proofs.OfLimits.ExpressionBytes.{expressions}
use Rattle.mv_accepts.proofs.OfLimits.DeclarationBytes.{specifiers, declared, parameter_lists}

-- an expression or none, and its mark
abbrev ended : Option Node → ℕ
ended e = 1 + optional_nodes e

word : (n m : ℕ) (what : Act) → ((p : Place) → line_nodes (line_at p what) ≡ 1) → Within line_nodes 0 (T.word n m what)
word n m what h = first (λ t. first (λ _. given (omega (arith, h t.place))))

module _ (E : Expressions) (phrases : (r : Nonterminal) → Within node_nodes 0 (E r)) where
  local : (P : Parameters) → Within (of_all param_nodes) 0 P → Within line_nodes 0 (T.local E P)
  local P lists =
      after (specifiers E phrases) (λ s. after (commas 0 (omega arith) (declared E phrases P lists)) (λ ds.
      first (λ _. given (omega (arith, nodes_declare (place_of_specs s) s ds)))))

  condition : Within node_nodes 0 (T.condition E)
  condition = first (λ _. after (phrases Assign) (λ x. first (λ _. given (omega arith))))

  value : (n : ℕ) → Within ended 0 (T.value n E)
  value n = either (first (λ _. given (omega arith))) (after (phrases Assign) (λ x. first (λ _. given (omega arith))))

  module _ (D T' : Lines) (d : Within line_nodes 0 D) (s : Within line_nodes 0 T') where
    block : Within line_nodes 0 (T.block D T')
    block = first (λ t. after (chained (omega arith) (λ ls. pushed ls (either d s))) (λ ls. first (λ _. given (omega (arith, nodes_block t.place ls)))))

    if_else : Within line_nodes 0 (T.if_else E T')
    if_else =
        first (λ t. after condition (λ c. after s (λ x.
        either (allowed (first (λ _. after s (λ y. given (omega (arith, nodes_else t.place c x y))))))
        (given (omega (arith, nodes_if t.place c x))))))

    while : Within line_nodes 0 (T.while E T')
    while = first (λ t. after condition (λ c. after s (λ x. given (omega (arith, nodes_while t.place c x)))))

    do_while : Within line_nodes 0 (T.do_while E T')
    do_while = first (λ t. after s (λ x. first (λ _. after condition (λ c. first (λ _. given (omega (arith, nodes_do t.place x c)))))))

    first_clause : Within (of_some line_nodes) 0 (T.first_clause E D)
    first_clause = either (after d (λ l. given (omega arith))) (after (placed (value 6)) (λ m. given (omega (arith, nodes_clause m.0 m.1))))

    for : Within line_nodes 0 (T.for E D T')
    for =
        first (λ t. first (λ _. after first_clause (λ head. after (value 6) (λ test. after (value 1) (λ step. after s (λ x.
        given (omega (arith, nodes_for t.place head test step x))))))))

    switch : Within line_nodes 0 (T.switch E T')
    switch = first (λ t. after condition (λ c. after s (λ x. given (omega (arith, nodes_switch t.place c x)))))

    case : Within line_nodes 0 (T.case E)
    case = first (λ t. after (phrases Cond) (λ x. first (λ _. given (omega (arith, nodes_case t.place x)))))

    return : Within line_nodes 0 (T.return E)
    return = first (λ t. after (value 6) (λ x. given (omega (arith, nodes_return t.place x))))

    simple : Within line_nodes 0 (T.simple E)
    simple = after (placed (value 6)) (λ m. given (omega (arith, nodes_express m.0 m.1)))

    statement : Within line_nodes 0 (T.statement E D T')
    statement =
        either block
        (either if_else
        (either while
        (either do_while
        (either for
        (either switch
        (either case
        (either (word 6 8 _ nodes_default)
        (either (word 1 6 _ nodes_break)
        (either (word 5 6 _ nodes_continue)
        (either return simple))))))))))

local_lines : (n : ℕ) → Within line_nodes 0 (locals n)
local_lines n = record { most = (local (phrase n) (expressions n) (params n) (parameter_lists n)).most }

statement_lines : (n : ℕ) → Within line_nodes 0 (statements n)
statement_lines zero = record { most = λ l ts k. absurd k }
statement_lines (suc n) = record { most = (statement (phrase n) (expressions n) (locals n) (statements n) (local_lines n) (statement_lines n)).most }

pub blocks : (n : ℕ) → Within line_nodes 0 (T.block (locals n) (statements n))
blocks n = block (phrase n) (expressions n) (locals n) (statements n) (local_lines n) (statement_lines n)
