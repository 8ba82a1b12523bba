-- A unit has at most as many nodes as tokens and characters of strings.
use Rattle.std.proofs.Common.{◌≡◌, ℕ, ◌+◌, ◌≤◌, arith, Option, Some, None, List, [], ◌∷◌}
use Rattle.mv_syntax.specs.declared.unit.Declarator.{Declarator}
use Rattle.mv_syntax.specs.declared.unit.Item.{Item}
use Rattle.mv_syntax.specs.declared.unit.Line.{Line}
use Rattle.mv_syntax.specs.declared.unit.Specs.{Specs}
use Rattle.mv_parse_grammar.specs.Terminals.{Terminal}
use Rattle.mv_parse_grammar.specs.Language as L
use Rattle.mv_parse_grammar.specs.Expressions.{phrase}
use Rattle.mv_parse_grammar.specs.Declarations.{params}
use Rattle.mv_parse_grammar.specs.Units.{item_of, items, AreItems}
use Rattle.mv_accepts.specs.Limits.Nodes.{specs_nodes, declarator_nodes, line_nodes, body_nodes, item_nodes}
use Rattle.mv_accepts.proofs.OfLimits.Phrases.{Within, of_all, size, all_and, given, first, after, either, chained, commas, pushed}
use Rattle.mv_accepts.proofs.OfLimits.ExpressionBytes.{expressions}
use Rattle.mv_accepts.proofs.OfLimits.DeclarationBytes.{specifiers, declarator, declared, parameter_lists}
use Rattle.mv_accepts.proofs.OfLimits.StatementBytes.{blocks}

abbrev with_body : Option Line → Declarator → ℕ
with_body b d = declarator_nodes d + body_nodes b

no_body : (ds : List Declarator) → of_all (with_body None) ds ≡ of_all declarator_nodes ds
no_body [] = omega arith
no_body (d ∷ ds) = omega (arith, all_and (with_body None) d ds, all_and declarator_nodes d ds, no_body ds)

nodes_declaration : (s : Specs) (ds : List Declarator) → item_nodes (item_of s ds None) ≡ specs_nodes s + of_all declarator_nodes ds
nodes_declaration s ds = omega (arith, no_body ds)

nodes_definition : (s : Specs) (d : Declarator) (b : Line) → item_nodes (item_of s (d ∷ []) (Some b)) ≡ specs_nodes s + (declarator_nodes d + line_nodes b)
nodes_definition s d b = omega (arith, all_and (with_body (Some b)) d [])

item : (n : ℕ) → Within item_nodes 0 (items n)
item n =
    let names = specifiers (phrase n) (expressions n) in
    either
    (after names (λ s. after (either (commas 0 (omega arith) (declared (phrase n) (expressions n) (params n) (parameter_lists n))) (given (omega arith))) (λ ds.
    first (λ _. given (omega (arith, nodes_declaration s ds))))))
    (after names (λ s. after (declarator (phrase n) (expressions n) (params n) (parameter_lists n)) (λ d. after (blocks n) (λ b.
    given (omega (arith, nodes_definition s d b))))))

pub items_small : (ts : List Terminal) (xs : List Item) → AreItems ts xs → of_all item_nodes xs ≤ size ts
items_small ts xs h =
    let all : Within (of_all item_nodes) 0 (L.chain (L.pushed (items h.depth)) []) = chained (omega arith) (λ ys. pushed ys (item h.depth)) in
    omega (arith, all.most xs ts h.phrases)
