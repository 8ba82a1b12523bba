-- What each form of a tree counts.
use Rattle.std.proofs.Common.{◌≡◌, ℕ, ◌+◌, ◌∙◌, ap, arith, true, false, Option, Some, None, List, [], ◌∷◌, ◌++◌, map}
use Rattle.std.specs.Prelude.{sum, Bool}
use Rattle.mv_num.specs.declared.kind.Kind.{Kind}
use Rattle.mv_num.specs.declared.kind.Kind.TheVariants.{Int}
use Rattle.mv_syntax.specs.declared.place.Place.{Place}
use Rattle.mv_syntax.specs.declared.unit.Node.{Node, fold_out-Node}
use Rattle.mv_syntax.specs.declared.unit.What.{What, What-F, out-What, map-What, fold-What, fold_out-What}
use Rattle.mv_syntax.specs.declared.unit.What.TheVariants as w
use Rattle.mv_syntax.specs.declared.unit.EnumSpec.{EnumSpec, fold-EnumSpec, fold-roll-EnumSpec}
use Rattle.mv_syntax.specs.declared.unit.Mark.{Mark, fold-roll-Mark}
use Rattle.mv_syntax.specs.declared.unit.Member.{Member, fold-Member, fold-roll-Member}
use Rattle.mv_syntax.specs.declared.unit.Specs.{Specs, out-Specs, fold_out-Specs, fold-roll-Specs}
use Rattle.mv_syntax.specs.declared.token.Piece.{Piece}
use Rattle.mv_syntax.specs.declared.token.Piece.TheVariants as piece
use Rattle.mv_parse_grammar.specs.Terminals.{Terminal}
use Rattle.mv_parse_grammar.specs.Expressions.{node_at, piece_value, no_specs, specs_of, specs_at, with_const, with_word, with_tag, tag_of}
use Rattle.mv_parse_grammar.specs.Declarations.{with_static, with_mark, member_of, enum_of, mark_at}
use Rattle.mv_accepts.proofs.OfLimits.Phrases.{of_some, of_all, all_then}
use Rattle.mv_accepts.specs.Limits.Nodes.{what_count, enum_count, mark_count, member_count, node_count, specs_count, node_nodes, mark_nodes, specs_nodes}

-- ---- expressions

abbrev what_nodes : What → ℕ
what_nodes = fold-What ℕ ℕ ℕ ℕ ℕ ℕ what_count enum_count mark_count member_count node_count specs_count

abbrev pub enum_nodes : EnumSpec → ℕ
enum_nodes = fold-EnumSpec ℕ ℕ ℕ ℕ ℕ ℕ what_count enum_count mark_count member_count node_count specs_count

abbrev pub member_nodes : Member → ℕ
member_nodes = fold-Member ℕ ℕ ℕ ℕ ℕ ℕ what_count enum_count mark_count member_count node_count specs_count

abbrev pub layer_count : What-F What EnumSpec Mark Member Node Specs → ℕ
layer_count x = what_count (map-What What EnumSpec Mark Member Node Specs ℕ ℕ ℕ ℕ ℕ ℕ what_nodes enum_nodes mark_nodes member_nodes node_nodes specs_nodes x)

by_what : (p : Place) (v : What) (x : What-F What EnumSpec Mark Member Node Specs) → out-What v ≡ x → node_nodes (node_at p v) ≡ 1 + layer_count x
by_what p v x o =
    fold_out-Node ℕ ℕ ℕ ℕ ℕ ℕ what_count enum_count mark_count member_count node_count specs_count (node_at p v) ∙
    ap (λ m. 1 + m) (fold_out-What ℕ ℕ ℕ ℕ ℕ ℕ what_count enum_count mark_count member_count node_count specs_count v ∙ ap layer_count o)

module _ (p : Place) where
  nodes_number : (n : ℕ) (k : Kind) → node_nodes (node_at p (w.Number n k)) ≡ 1
  nodes_number n k = let h = by_what p _ _ (w.outs-Number n k) in omega (arith, h)

  pub nodes_piece : (v : Piece) → node_nodes (node_at p (piece_value v)) ≡ 1
  nodes_piece (piece.Number n k) = nodes_number n k
  nodes_piece piece.Name = nodes_number 0 Int
  nodes_piece (piece.Keyword n) = nodes_number 0 Int
  nodes_piece (piece.Chars cs) = nodes_number 0 Int
  nodes_piece (piece.Mark n) = nodes_number 0 Int

  pub nodes_name : (name : List ℕ) → node_nodes (node_at p (w.Name name)) ≡ 1
  nodes_name name = let h = by_what p _ _ (w.outs-Name name) in omega (arith, h)

  pub nodes_unary : (op : ℕ) (a : Node) → node_nodes (node_at p (w.Unary op a)) ≡ 1 + node_nodes a
  nodes_unary op a = let h = by_what p _ _ (w.outs-Unary op a) in omega (arith, h)

  pub nodes_binary : (op : ℕ) (a b : Node) → node_nodes (node_at p (w.Binary op a b)) ≡ 1 + (node_nodes a + node_nodes b)
  nodes_binary op a b = let h = by_what p _ _ (w.outs-Binary op a b) in omega (arith, h)

  pub nodes_choose : (c a b : Node) → node_nodes (node_at p (w.Choose c a b)) ≡ 1 + (node_nodes c + (node_nodes a + node_nodes b))
  nodes_choose c a b = let h = by_what p _ _ (w.outs-Choose c a b) in omega (arith, h)

  pub nodes_assign : (op : ℕ) (a b : Node) → node_nodes (node_at p (w.Assign op a b)) ≡ 1 + (node_nodes a + node_nodes b)
  nodes_assign op a b = let h = by_what p _ _ (w.outs-Assign op a b) in omega (arith, h)

  pub nodes_before : (up : Bool) (a : Node) → node_nodes (node_at p (w.Before up a)) ≡ 1 + node_nodes a
  nodes_before up a = let h = by_what p _ _ (w.outs-Before up a) in omega (arith, h)

  pub nodes_after : (up : Bool) (a : Node) → node_nodes (node_at p (w.After up a)) ≡ 1 + node_nodes a
  nodes_after up a = let h = by_what p _ _ (w.outs-After up a) in omega (arith, h)

  pub nodes_index : (a i : Node) → node_nodes (node_at p (w.Index a i)) ≡ 1 + (node_nodes a + node_nodes i)
  nodes_index a i = let h = by_what p _ _ (w.outs-Index a i) in omega (arith, h)

  pub nodes_call : (f : Node) (args : List Node) → node_nodes (node_at p (w.Call f args)) ≡ 1 + (node_nodes f + sum (map node_nodes args))
  nodes_call f args = let h = by_what p _ _ (w.outs-Call f args) in omega (arith, h)

  pub nodes_cast : (s : Specs) (a : Node) → node_nodes (node_at p (w.Cast s a)) ≡ 1 + (specs_nodes s + node_nodes a)
  nodes_cast s a = let h = by_what p _ _ (w.outs-Cast s a) in omega (arith, h)

-- ---- specifiers

pub nodes_tag : (t : Terminal) → enum_nodes (tag_of t) ≡ 1
nodes_tag t =
    let h = fold-roll-EnumSpec ℕ ℕ ℕ ℕ ℕ ℕ what_count enum_count mark_count member_count node_count specs_count (record { tag = Some t.spelling; members = None }) in
    omega (arith, h)

pub nodes_member : (t : Terminal) (value : Option Node) → member_nodes (member_of t value) ≡ 1 + of_some node_nodes value
nodes_member t None =
    let h = fold-roll-Member ℕ ℕ ℕ ℕ ℕ ℕ what_count enum_count mark_count member_count node_count specs_count (record { place = t.place; name = t.spelling; value = None }) in
    omega (arith, h)
nodes_member t (Some x) =
    let h = fold-roll-Member ℕ ℕ ℕ ℕ ℕ ℕ what_count enum_count mark_count member_count node_count specs_count (record { place = t.place; name = t.spelling; value = Some x }) in
    omega (arith, h)

pub nodes_enum : (t : Option Terminal) (ms : List Member) → enum_nodes (enum_of t ms) ≡ of_some (λ _. 1) t + of_all member_nodes ms
nodes_enum None ms =
    let h = fold-roll-EnumSpec ℕ ℕ ℕ ℕ ℕ ℕ what_count enum_count mark_count member_count node_count specs_count (record { tag = None; members = Some ms }) in
    omega (arith, h)
nodes_enum (Some t) ms =
    let h = fold-roll-EnumSpec ℕ ℕ ℕ ℕ ℕ ℕ what_count enum_count mark_count member_count node_count specs_count (record { tag = Some t.spelling; members = Some ms }) in
    omega (arith, h)

pub nodes_mark : (p : Place) (values : Option (List Node)) → mark_nodes (mark_at p values) ≡ of_some (of_all node_nodes) values
nodes_mark p None =
    let h = fold-roll-Mark ℕ ℕ ℕ ℕ ℕ ℕ what_count enum_count mark_count member_count node_count specs_count (record { place = p; values = None }) in
    omega (arith, h)
nodes_mark p (Some xs) =
    let h = fold-roll-Mark ℕ ℕ ℕ ℕ ℕ ℕ what_count enum_count mark_count member_count node_count specs_count (record { place = p; values = Some xs }) in
    omega (arith, h)

nodes_specs : (s : Specs) → specs_nodes s ≡ of_all enum_nodes (out-Specs s).tags + of_all mark_nodes (out-Specs s).marks
nodes_specs s = fold_out-Specs ℕ ℕ ℕ ℕ ℕ ℕ what_count enum_count mark_count member_count node_count specs_count s

nodes_parts : (p : Place) (hidden fixed : Bool) (words : List ℕ) (tags : List EnumSpec) (marks : List Mark)
    → specs_nodes (specs_of p hidden fixed words tags marks) ≡ of_all enum_nodes tags + of_all mark_nodes marks
nodes_parts p hidden fixed words tags marks =
    fold-roll-Specs ℕ ℕ ℕ ℕ ℕ ℕ what_count enum_count mark_count member_count node_count specs_count
    (record { place = p; hidden = hidden; fixed = fixed; words = words; tags = tags; marks = marks })

pub nodes_none : specs_nodes no_specs ≡ 0
nodes_none = let h = nodes_parts (record { line = 0; column = 0 }) false false [] [] [] in omega (arith, h)

module _ (s : Specs) where
  pub nodes_placed : (p : Place) → specs_nodes (specs_at p s) ≡ specs_nodes s
  nodes_placed p = let f = out-Specs s in omega (arith, nodes_parts p f.hidden f.fixed f.words f.tags f.marks, nodes_specs s)

  pub nodes_const : specs_nodes (with_const s) ≡ specs_nodes s
  nodes_const = let f = out-Specs s in omega (arith, nodes_parts f.place f.hidden true f.words f.tags f.marks, nodes_specs s)

  pub nodes_static : specs_nodes (with_static s) ≡ specs_nodes s
  nodes_static = let f = out-Specs s in omega (arith, nodes_parts f.place true f.fixed f.words f.tags f.marks, nodes_specs s)

  pub nodes_word : (n : ℕ) → specs_nodes (with_word s n) ≡ specs_nodes s
  nodes_word n = let f = out-Specs s in omega (arith, nodes_parts f.place f.hidden f.fixed (f.words ++ n ∷ []) f.tags f.marks, nodes_specs s)

  pub nodes_tagged : (e : EnumSpec) → specs_nodes (with_tag s e) ≡ specs_nodes s + enum_nodes e
  nodes_tagged e =
      let f = out-Specs s in
      omega (arith, nodes_parts f.place f.hidden f.fixed f.words (f.tags ++ e ∷ []) f.marks, nodes_specs s, all_then enum_nodes f.tags e)

  pub nodes_marked : (m : Mark) → specs_nodes (with_mark s m) ≡ specs_nodes s + mark_nodes m
  nodes_marked m =
      let f = out-Specs s in
      omega (arith, nodes_parts f.place f.hidden f.fixed f.words f.tags (f.marks ++ m ∷ []), nodes_specs s, all_then mark_nodes f.marks m)
