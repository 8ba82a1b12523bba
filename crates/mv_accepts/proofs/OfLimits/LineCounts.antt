-- What each form of a statement counts.
use Rattle.std.proofs.Common.{◌≡◌, ℕ, ◌+◌, ◌≤◌, ◌∙◌, ap, arith, Option, Some, None, List}
use Rattle.mv_syntax.specs.declared.place.Place.{Place}
use Rattle.mv_syntax.specs.declared.unit.Act.{Act, Act-F, out-Act, map-Act, fold-Act, fold_out-Act}
use Rattle.mv_syntax.specs.declared.unit.Act.TheVariants as a
use Rattle.mv_syntax.specs.declared.unit.Declarator.{Declarator}
use Rattle.mv_syntax.specs.declared.unit.Line.{Line, fold_out-Line}
use Rattle.mv_syntax.specs.declared.unit.Node.{Node}
use Rattle.mv_syntax.specs.declared.unit.Specs.{Specs}
use Rattle.mv_parse_grammar.specs.Statements.{line_at, express}
use Rattle.mv_accepts.specs.Limits.Nodes.{act_count, line_count, node_nodes, optional_nodes, specs_nodes, declarator_nodes, line_nodes}
use Rattle.mv_accepts.proofs.OfLimits.Phrases.{of_some, of_all}

abbrev pub act_nodes : Act → ℕ
act_nodes = fold-Act ℕ ℕ act_count line_count

abbrev layer_count : Act-F Act Line → ℕ
layer_count x = act_count (map-Act Act Line ℕ ℕ act_nodes line_nodes x)

by_act : (p : Place) (v : Act) (x : Act-F Act Line) → out-Act v ≡ x → line_nodes (line_at p v) ≡ 1 + layer_count x
by_act p v x o = fold_out-Line ℕ ℕ act_count line_count (line_at p v) ∙ ap (λ m. 1 + m) (fold_out-Act ℕ ℕ act_count line_count v ∙ ap layer_count o)

module _ (p : Place) where
  pub nodes_block : (ls : List Line) → line_nodes (line_at p (a.Block ls)) ≡ 1 + of_all line_nodes ls
  nodes_block ls = let h = by_act p _ _ (a.outs-Block ls) in omega (arith, h)

  pub nodes_declare : (s : Specs) (ds : List Declarator) → line_nodes (line_at p (a.Declare s ds)) ≡ 1 + (specs_nodes s + of_all declarator_nodes ds)
  nodes_declare s ds = let h = by_act p _ _ (a.outs-Declare s ds) in omega (arith, h)

  pub nodes_express : (e : Option Node) → line_nodes (line_at p (a.Express e)) ≡ 1 + optional_nodes e
  nodes_express e = let h = by_act p _ _ (a.outs-Express e) in omega (arith, h)

  pub nodes_if : (c : Node) (x : Line) → line_nodes (line_at p (a.If c x None)) ≡ 1 + (node_nodes c + line_nodes x)
  nodes_if c x = let h = by_act p _ _ (a.outs-If c x None) in omega (arith, h)

  pub nodes_else : (c : Node) (x y : Line) → line_nodes (line_at p (a.If c x (Some y))) ≡ 1 + (node_nodes c + (line_nodes x + line_nodes y))
  nodes_else c x y = let h = by_act p _ _ (a.outs-If c x (Some y)) in omega (arith, h)

  pub nodes_while : (c : Node) (x : Line) → line_nodes (line_at p (a.While c x)) ≡ 1 + (node_nodes c + line_nodes x)
  nodes_while c x = let h = by_act p _ _ (a.outs-While c x) in omega (arith, h)

  pub nodes_do : (x : Line) (c : Node) → line_nodes (line_at p (a.Do x c)) ≡ 1 + (line_nodes x + node_nodes c)
  nodes_do x c = let h = by_act p _ _ (a.outs-Do x c) in omega (arith, h)

  pub nodes_for : (head : Option Line) (test step : Option Node) (x : Line)
      → line_nodes (line_at p (a.For head test step x)) ≡ 1 + (of_some line_nodes head + (optional_nodes test + (optional_nodes step + line_nodes x)))
  nodes_for None test step x = let h = by_act p _ _ (a.outs-For None test step x) in omega (arith, h)
  nodes_for (Some l) test step x = let h = by_act p _ _ (a.outs-For (Some l) test step x) in omega (arith, h)

  pub nodes_switch : (c : Node) (x : Line) → line_nodes (line_at p (a.Switch c x)) ≡ 1 + (node_nodes c + line_nodes x)
  nodes_switch c x = let h = by_act p _ _ (a.outs-Switch c x) in omega (arith, h)

  pub nodes_case : (e : Node) → line_nodes (line_at p (a.Case e)) ≡ 1 + node_nodes e
  nodes_case e = let h = by_act p _ _ (a.outs-Case e) in omega (arith, h)

  pub nodes_default : line_nodes (line_at p a.Default) ≡ 1
  nodes_default = let h = by_act p _ _ a.outs-Default in omega (arith, h)

  pub nodes_break : line_nodes (line_at p a.Break) ≡ 1
  nodes_break = let h = by_act p _ _ a.outs-Break in omega (arith, h)

  pub nodes_continue : line_nodes (line_at p a.Continue) ≡ 1
  nodes_continue = let h = by_act p _ _ a.outs-Continue in omega (arith, h)

  pub nodes_return : (e : Option Node) → line_nodes (line_at p (a.Return e)) ≡ 1 + optional_nodes e
  nodes_return e = let h = by_act p _ _ (a.outs-Return e) in omega (arith, h)

  -- an expression that is left out is no statement
  pub nodes_clause : (e : Option Node) → of_some line_nodes (express p e) ≤ 1 + optional_nodes e
  nodes_clause None = omega arith
  nodes_clause (Some x) = omega (arith, nodes_express (Some x))
