-- An expression has at most as many nodes as tokens: by induction over the productions.
use Rattle.std.proofs.Common.{ℕ, zero, suc, ◌+◌, arith, List}
use Rattle.mv_syntax.specs.declared.place.Place.{Place}
use Rattle.mv_syntax.specs.declared.unit.Node.{Node}
use Rattle.mv_syntax.specs.declared.unit.Specs.{Specs}
use Rattle.mv_parse_grammar.specs.Terminals.{Terminal, mark, keyword, is_mark}
use Rattle.mv_parse_grammar.specs.Expressions as G
use Rattle.mv_parse_grammar.specs.Expressions.{Nonterminal, Expressions, Assign, Cond, Cast, Unary, no_specs, tag_of}
use Rattle.mv_accepts.specs.Limits.Nodes.{node_nodes, specs_nodes}
use Rattle.mv_accepts.proofs.OfLimits.Phrases.{Within, of_all, wider, given, first, after, through, either, placed, chained, commas}
use Rattle.mv_accepts.proofs.OfLimits.NodeCounts.{nodes_piece, nodes_name, nodes_unary, nodes_binary, nodes_choose, nodes_assign, nodes_before, nodes_after, nodes_index, nodes_call, nodes_cast, nodes_tag, nodes_none, nodes_placed, nodes_const, nodes_word, nodes_tagged}

-- ---- type names

-- specifiers have a token more than nodes
abbrev pub some_specs : Specs → ℕ
some_specs s = 1 + specs_nodes s

type_part : (s : Specs) → Within some_specs (specs_nodes s) (G.type_part s)
type_part s =
    either (first (λ _. given (omega (arith, nodes_const s))))
    (either (first (λ t. given (omega (arith, nodes_word s (keyword t)))))
    (first (λ _. first (λ t. given (omega (arith, nodes_tagged s (tag_of t), nodes_tag t))))))

type_name : Within some_specs 0 G.type_name
type_name =
    through {inner = λ m. some_specs m.1} (placed (wider (specs_nodes no_specs) (omega (arith, nodes_none)) (type_part no_specs)))
    (λ m. chained {count = some_specs} (omega (arith, nodes_placed m.1 m.0)) (λ s. wider (specs_nodes s) (omega arith) (type_part s)))

-- ---- expressions

abbrev left_nodes : Place × Node → ℕ
left_nodes left = node_nodes left.1

operation : {lower : Node → List Terminal → Type 0} → Within node_nodes 0 lower → (rank : ℕ) (left : Place × Node) → Within left_nodes (left_nodes left) (G.operation lower rank left)
operation l rank left = first (λ t. after l (λ right. given (omega (arith, nodes_binary left.0 (mark t) left.1 right))))

module _ (S : Expressions) (phrases : (r : Nonterminal) → Within node_nodes 0 (S r)) where
  primary : Within node_nodes 0 (G.primary S)
  primary =
      either (first (λ t. given (omega (arith, nodes_name t.place t.spelling))))
      (either (first (λ t. given (omega (arith, nodes_piece t.place t.what))))
      (first (λ _. after (phrases Assign) (λ x. first (λ _. given (omega arith))))))

  arguments : Within (of_all node_nodes) 0 (G.arguments S)
  arguments = either (first (λ _. given (omega arith))) (after (commas 0 (omega arith) (phrases Assign)) (λ xs. first (λ _. given (omega arith))))

  suffix : (left : Place × Node) → Within left_nodes (left_nodes left) (G.suffix S left)
  suffix left =
      either (first (λ _. after (phrases Assign) (λ i. first (λ _. given (omega (arith, nodes_index left.0 left.1 i))))))
      (either (first (λ _. after arguments (λ xs. given (omega (arith, nodes_call left.0 left.1 xs)))))
      (first (λ t. given (omega (arith, nodes_after left.0 (is_mark 23 t) left.1)))))

  postfix : Within node_nodes 0 (G.postfix S)
  postfix = after (placed primary) (λ l. through {inner = left_nodes} (chained (omega arith) suffix) (λ y. given (omega arith)))

  unary : Within node_nodes 0 (G.unary S)
  unary =
      either (first (λ t. after (phrases Unary) (λ x. given (omega (arith, nodes_before t.place (is_mark 23 t) x)))))
      (either (first (λ t. after (phrases Cast) (λ x. given (omega (arith, nodes_unary t.place (mark t) x)))))
      postfix)

  cast : Within node_nodes 0 (G.cast S)
  cast =
      either (first (λ t. after type_name (λ s. first (λ _. after (phrases Cast) (λ x. given (omega (arith, nodes_cast t.place s x)))))))
      unary

  level : (k : ℕ) → Within node_nodes 0 (G.level S k)
  unfolding G.level
  level zero = phrases Cast
  level (suc k) = after (placed (level k)) (λ l. through {inner = left_nodes} (chained (omega arith) (operation (level k) (suc k))) (λ y. given (omega arith)))

  cond : Within node_nodes 0 (G.cond S)
  cond =
      after (placed (level 10)) (λ l.
      either (first (λ _. after (phrases Assign) (λ a. first (λ _. after (phrases Cond) (λ b. given (omega (arith, nodes_choose l.0 l.1 a b)))))))
      (given (omega arith)))

  assign : Within node_nodes 0 (G.assign S)
  assign =
      after (placed (phrases Cond)) (λ l.
      either (first (λ t. after (phrases Assign) (λ r. given (omega (arith, nodes_assign l.0 (mark t) l.1 r)))))
      (given (omega arith)))

  production : (r : Nonterminal) → Within node_nodes 0 (G.production S r)
  production Assign = assign
  production Cond = cond
  production Cast = cast
  production Unary = unary

pub expressions : (n : ℕ) (r : Nonterminal) → Within node_nodes 0 (G.phrase n r)
expressions zero r = record { most = λ x ts k. absurd k }
expressions (suc n) r = record { most = (production (G.phrase n) (expressions n) r).most }
