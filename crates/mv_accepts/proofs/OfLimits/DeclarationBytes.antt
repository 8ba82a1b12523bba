-- A declaration has at most as many nodes as tokens and characters of strings: by induction over the productions.
use Rattle.std.proofs.Common.{ℕ, zero, suc, ◌+◌, arith, Bool, Some, None, List, length, length-append}
use Rattle.mv_syntax.specs.declared.unit.Declarator.{Declarator}
use Rattle.mv_syntax.specs.declared.unit.EnumSpec.{EnumSpec}
use Rattle.mv_syntax.specs.declared.unit.Initial.{Initial}
use Rattle.mv_syntax.specs.declared.unit.Mark.{Mark}
use Rattle.mv_syntax.specs.declared.unit.Node.{Node}
use Rattle.mv_syntax.specs.declared.unit.Shape.TheVariants as shape
use Rattle.mv_syntax.specs.declared.unit.Specs.{Specs}
use Rattle.mv_parse_grammar.specs.Terminals.{keyword}
use Rattle.mv_parse_grammar.specs.Expressions.{Nonterminal, Expressions, Assign, Cond, phrase, no_specs}
use Rattle.mv_parse_grammar.specs.Declarations as D
use Rattle.mv_parse_grammar.specs.Declarations.{Parameters, declarator_of, spelling_of, place_of_specs, characters_of}
use Rattle.mv_accepts.specs.Limits.Nodes.{node_nodes, mark_nodes, specs_nodes, initial_nodes, declarator_nodes}
use Rattle.mv_accepts.proofs.OfLimits.Phrases.{Within, of_some, of_all, all_more, wider, given, spelled, first, taken, after, through, either, placed, chained, optional, commas, braced}
use Rattle.mv_accepts.proofs.OfLimits.NodeCounts.{enum_nodes, member_nodes, nodes_tag, nodes_member, nodes_enum, nodes_mark, nodes_none, nodes_placed, nodes_const, nodes_static, nodes_word, nodes_tagged, nodes_marked}
use Rattle.mv_accepts.proofs.OfLimits.DeclaratorCounts.{param_nodes, nodes_object, nodes_array, nodes_called, nodes_pointers, nodes_attributed, nodes_initialised, nodes_param, fewer_parameters}
use Rattle.mv_accepts.proofs.OfLimits.ExpressionBytes.{some_specs, expressions}

-- an enum and an attribute have a token more than nodes

abbrev some_enum : EnumSpec → ℕ
some_enum e = 1 + enum_nodes e

abbrev some_mark : Mark → ℕ
some_mark m = 1 + mark_nodes m

abbrev some_node : Node → ℕ
some_node x = 1 + node_nodes x

abbrev given_nodes : Initial → ℕ
given_nodes x = initial_nodes (Some x)

characters : (cs : List ℕ) → Within length (length cs) (D.more_characters cs)
characters cs = spelled (λ t. given (omega (arith, length-append cs (characters_of t))))

string : Within length 0 D.characters
string = spelled (λ t. chained (omega arith) characters)

constant : Within (λ (c : Bool). 0) 0 D.constant
constant = either (first (λ _. given (omega arith))) (given (omega arith))

module _ (E : Expressions) (phrases : (r : Nonterminal) → Within node_nodes 0 (E r)) where
  -- ---- specifiers

  enumerator : Within member_nodes 0 (D.enumerator E)
  enumerator =
      first (λ t.
      either (first (λ _. after (phrases Cond) (λ x. given (omega (arith, nodes_member t (Some x))))))
      (given (omega (arith, nodes_member t None))))

  enum : Within some_enum 0 (D.enum E)
  enum =
      either (first (λ _. first (λ t. given (omega (arith, nodes_tag t)))))
      (first (λ _. after (optional taken) (λ t. after (braced 0 (omega arith) enumerator) (λ ms. given (omega (arith, nodes_enum t ms))))))

  domain : Within (of_all node_nodes) 0 (D.domain E)
  domain = first (λ _. after (commas 0 (omega arith) (phrases Cond)) (λ xs. first (λ _. given (omega arith))))

  attribute : Within some_mark 0 (D.attribute E)
  attribute =
      first (λ t. first (λ _. first (λ _. first (λ _. after (optional domain) (λ xs. first (λ _. first (λ _. given (omega (arith, nodes_mark t.place xs)))))))))

  specifier : (s : Specs) → Within some_specs (specs_nodes s) (D.specifier E s)
  specifier s =
      either (first (λ _. given (omega (arith, nodes_static s))))
      (either (first (λ _. given (omega (arith, nodes_const s))))
      (either (first (λ t. given (omega (arith, nodes_word s (keyword t)))))
      (either (after enum (λ e. given (omega (arith, nodes_tagged s e))))
      (after attribute (λ m. given (omega (arith, nodes_marked s m)))))))

  pub specifiers : Within some_specs 0 (D.specs E)
  specifiers =
      through {inner = λ m. some_specs m.1} (placed (wider (specs_nodes no_specs) (omega (arith, nodes_none)) (specifier no_specs)))
      (λ m. chained {count = some_specs} (omega (arith, nodes_placed m.1 m.0)) (λ s. wider (specs_nodes s) (omega arith) (specifier s)))

  -- ---- initial values

  init : Within given_nodes 0 (D.init E)
  init =
      first (λ _.
      either (after (braced 1 (omega arith) more) (λ xs. given (omega (arith, all_more node_nodes xs))))
      (either (after string (λ cs. given (omega arith)))
      (after (phrases Assign) (λ x. given (omega arith)))))
    where
      more : Within some_node 1 (E Assign)
      more = record { most = λ x ts k. omega (arith, (phrases Assign).most x ts k) }

  -- ---- declarators

  extent : Within (of_some node_nodes) 0 (D.extent E)
  extent = first (λ _. either (first (λ _. given (omega arith))) (after (phrases Cond) (λ x. first (λ _. given (omega arith)))))

  module _ (P : Parameters) (lists : Within (of_all param_nodes) 0 P) where
    parameter_list : Within (of_all param_nodes) 0 (D.parameter_list P)
    parameter_list = first (λ _. after lists (λ ps. first (λ _. given (omega arith))))

    direct : Within declarator_nodes 0 (D.direct E P)
    direct =
        either (first (λ t. after (optional extent) (λ n. given (omega (arith, nodes_array t.place (Some t.spelling) n)))))
        (either (first (λ t. after parameter_list (λ ps. given (omega (arith, nodes_called t.place (Some t.spelling) ps)))))
        (first (λ t. first (λ _. after constant (λ c. first (λ name. after (optional extent) (λ n. first (λ _. after parameter_list (λ ps.
        given (omega (arith, nodes_pointers t.place (Some name.spelling) c n ps)))))))))))

    with_attribute : (d : Declarator) → Within declarator_nodes (declarator_nodes d) (D.with_attribute E d)
    with_attribute d = after attribute (λ m. given (omega (arith, nodes_attributed d m)))

    pub declarator : Within declarator_nodes 0 (D.declarator E P)
    declarator = after direct (λ d. chained (omega arith) with_attribute)

    pub declared : Within declarator_nodes 0 (D.declared E P)
    declared = after declarator (λ d. either (after init (λ x. given (omega (arith, nodes_initialised d x)))) (given (omega arith)))

    -- a parameter that has no name has its specifiers
    parameter_name : (s : Specs) → Within param_nodes (some_specs s) (D.parameter_name P s)
    parameter_name s =
        either (first (λ t. given (omega (arith, nodes_param s (declarator_of t.place (Some t.spelling) shape.Plain), nodes_object t.place (Some t.spelling)))))
        (either (first (λ t. first (λ _. after constant (λ c. after (optional taken) (λ name. first (λ _. after parameter_list (λ ps.
        given (omega (arith, nodes_param s (declarator_of t.place (spelling_of name) (shape.Pointer c ps)), nodes_pointers t.place (spelling_of name) c None ps)))))))))
        (given (omega (arith, nodes_param s (declarator_of (place_of_specs s) None shape.Plain), nodes_object (place_of_specs s) None))))

    parameter : Within param_nodes 0 (D.parameter E P)
    parameter = through specifiers parameter_name

    parameters : Within (of_all param_nodes) 0 (D.parameters E P)
    parameters = either (after (commas 0 (omega arith) parameter) (λ ps. given (omega (arith, fewer_parameters ps)))) (given (omega arith))

pub parameter_lists : (n : ℕ) → Within (of_all param_nodes) 0 (D.params n)
parameter_lists zero = record { most = λ ps ts k. absurd k }
parameter_lists (suc n) = record { most = (parameters (phrase n) (expressions n) (D.params n) (parameter_lists n)).most }
