-- What the reading of declarations takes, step by step.
use Rattle.std.specs.Prelude.{ℕ, zero, suc, Bool, true, false, Option, Some, None, List, [], ◌++◌}
use Rattle.mv_syntax.specs.declared.unit.Node.{Node}
use Rattle.mv_syntax.specs.declared.unit.Specs.{Specs}
use Rattle.mv_syntax.specs.declared.unit.EnumSpec.{EnumSpec}
use Rattle.mv_syntax.specs.declared.unit.Member.{Member}
use Rattle.mv_syntax.specs.declared.unit.Mark.{Mark}
use Rattle.mv_syntax.specs.declared.unit.Declarator.{Declarator}
use Rattle.mv_syntax.specs.declared.unit.Shape.TheVariants as shape
use Rattle.mv_syntax.specs.declared.unit.Param.{Param}
use Rattle.mv_syntax.specs.declared.unit.Initial.{Initial}
use Rattle.mv_syntax.specs.declared.unit.Initial.TheVariants as i
use Rattle.mv_ast.specs.Marks as marks
use Rattle.mv_syntax.specs.Keywords as keywords
use Rattle.mv_parse_grammar.specs.Terminals.{Terminal, keyword, is_mark, is_keyword, is_name, is_string, is_multiverse, is_type_word, is_specifier}
use Rattle.mv_parse_grammar.specs.Reader.{Read, Deep, give, token, ◌>>=◌, choice, marked, chain, optional, comma_list, braced_list}
use Rattle.mv_parse_grammar.specs.Expressions.{Assign, Cond, no_specs, specs_at, with_const, with_word, with_tag, tag_of}
use Rattle.mv_parse_grammar.specs.ExpressionReader.{Readers, read}
use Rattle.mv_parse_grammar.specs.Declarations.{with_static, with_mark, place_of_specs, spelling_of, member_of, enum_of, mark_at, declarator_of, attributed, initialised, array_shape, pointer_shape, param_of, characters_of, without_void}

-- specifiers

abbrev pub enumerator : Readers → List Terminal → Read Member
enumerator E = token is_name >>= λ t.
    choice (is_mark marks.assign) (token (is_mark marks.assign) >>= λ _. E Cond >>= λ x. give (member_of t (Some x)))
    (give (member_of t None))

-- after "enum" and a tag
abbrev pub after_tag : ℕ → Readers → Terminal → List Terminal → Read EnumSpec
after_tag n E t = choice (is_mark marks.open_brace) (braced_list n (enumerator E) >>= λ ms. give (enum_of (Some t) ms)) (give (tag_of t))

abbrev pub enum : ℕ → Readers → List Terminal → Read EnumSpec
enum n E = token (is_keyword keywords.enum) >>= λ _.
    choice is_name (token is_name >>= λ t. after_tag n E t)
    (braced_list n (enumerator E) >>= λ ms. give (enum_of None ms))

abbrev pub domain : ℕ → Readers → List Terminal → Read (List Node)
domain n E = token (is_mark marks.open_parenthesis) >>= λ _. comma_list n (E Cond) >>= λ xs. token (is_mark marks.close_parenthesis) >>= λ _. give xs

abbrev pub attribute : ℕ → Readers → List Terminal → Read Mark
attribute n E = token (is_keyword keywords.attribute) >>= λ t. token (is_mark marks.open_parenthesis) >>= λ _. token (is_mark marks.open_parenthesis) >>= λ _. token is_multiverse >>= λ _.
    optional (is_mark marks.open_parenthesis) (domain n E) >>= λ xs. token (is_mark marks.close_parenthesis) >>= λ _. token (is_mark marks.close_parenthesis) >>= λ _. give (mark_at t.place xs)

abbrev pub specifier : ℕ → Readers → Specs → List Terminal → Read Specs
specifier n E s =
    choice (is_keyword keywords.static) (token (is_keyword keywords.static) >>= λ _. give (with_static s))
    (choice (is_keyword keywords.const) (token (is_keyword keywords.const) >>= λ _. give (with_const s))
    (choice is_type_word (token is_type_word >>= λ t. give (with_word s (keyword t)))
    (choice (is_keyword keywords.enum) (enum n E >>= λ e. give (with_tag s e))
    (attribute n E >>= λ m. give (with_mark s m)))))

abbrev pub specs : ℕ → Readers → List Terminal → Read Specs
specs n E = marked (specifier n E no_specs) >>= λ m. chain is_specifier (specifier n E) n (specs_at m.0 m.1)

-- declarators, over the reader of parameters

abbrev pub ParameterReader : Type 0
ParameterReader = List Terminal → Read (List Param)

abbrev pub extent : Readers → List Terminal → Read (Option Node)
extent E = token (is_mark marks.open_bracket) >>= λ _.
    choice (is_mark marks.close_bracket) (token (is_mark marks.close_bracket) >>= λ _. give None)
    (E Cond >>= λ x. token (is_mark marks.close_bracket) >>= λ _. give (Some x))

abbrev pub parameter_list : ParameterReader → List Terminal → Read (List Param)
parameter_list P = token (is_mark marks.open_parenthesis) >>= λ _. P >>= λ ps. token (is_mark marks.close_parenthesis) >>= λ _. give ps

abbrev pub constant : List Terminal → Read Bool
constant = choice (is_keyword keywords.const) (token (is_keyword keywords.const) >>= λ _. give true) (give false)

-- after a declarator's name
abbrev pub after_name : Readers → ParameterReader → Terminal → List Terminal → Read Declarator
after_name E P t =
    choice (is_mark marks.open_parenthesis) (parameter_list P >>= λ ps. give (declarator_of t.place (Some t.spelling) (shape.Function ps)))
    (optional (is_mark marks.open_bracket) (extent E) >>= λ n. give (declarator_of t.place (Some t.spelling) (array_shape n)))

abbrev pub pointer : Readers → ParameterReader → List Terminal → Read Declarator
pointer E P =
    token (is_mark marks.open_parenthesis) >>= λ t. token (is_mark marks.star) >>= λ _. constant >>= λ c. token is_name >>= λ name. optional (is_mark marks.open_bracket) (extent E) >>= λ n. token (is_mark marks.close_parenthesis) >>= λ _.
    parameter_list P >>= λ ps. give (declarator_of t.place (Some name.spelling) (pointer_shape c n ps))

abbrev pub direct : Readers → ParameterReader → List Terminal → Read Declarator
direct E P = choice is_name (token is_name >>= λ t. after_name E P t) (pointer E P)

abbrev pub with_attribute : ℕ → Readers → Declarator → List Terminal → Read Declarator
with_attribute n E d = attribute n E >>= λ m. give (attributed d m)

abbrev pub declarator : ℕ → Readers → ParameterReader → List Terminal → Read Declarator
declarator n E P = direct E P >>= λ d. chain (is_keyword keywords.attribute) (with_attribute n E) n d

-- params

abbrev pub parameter_name : ParameterReader → Specs → List Terminal → Read Param
parameter_name P s =
    choice is_name (token is_name >>= λ t. give (param_of s (declarator_of t.place (Some t.spelling) shape.Plain)))
    (choice (is_mark marks.open_parenthesis)
    (token (is_mark marks.open_parenthesis) >>= λ t. token (is_mark marks.star) >>= λ _. constant >>= λ c. optional is_name (token is_name) >>= λ name. token (is_mark marks.close_parenthesis) >>= λ _.
    parameter_list P >>= λ ps. give (param_of s (declarator_of t.place (spelling_of name) (shape.Pointer c ps))))
    (give (param_of s (declarator_of (place_of_specs s) None shape.Plain))))

abbrev pub parameter : ℕ → Readers → ParameterReader → List Terminal → Read Param
parameter n E P = specs n E >>= λ s. parameter_name P s

abbrev pub parameters : ℕ → Readers → ParameterReader → List Terminal → Read (List Param)
parameters n E P = choice is_specifier (comma_list n (parameter n E P) >>= λ ps. give (without_void ps)) (give [])

-- the parameters with at most n steps one inside the other
abbrev pub params : ℕ → List Terminal → Read (List Param)
params zero ts = Deep
params (suc n) ts = parameters n (read n) (params n) ts

-- initial values

abbrev pub more_characters : List ℕ → List Terminal → Read (List ℕ)
more_characters cs = token is_string >>= λ t. give (cs ++ characters_of t)

abbrev pub characters : ℕ → List Terminal → Read (List ℕ)
characters n = token is_string >>= λ t. chain is_string more_characters n (characters_of t)

abbrev pub init : ℕ → Readers → List Terminal → Read Initial
init n E = token (is_mark marks.assign) >>= λ _.
    choice (is_mark marks.open_brace) (braced_list n (E Assign) >>= λ xs. give (i.Values xs))
    (choice is_string (characters n >>= λ cs. give (i.Chars cs))
    (E Assign >>= λ x. give (i.Value x)))

abbrev pub with_init : ℕ → Readers → Declarator → List Terminal → Read Declarator
with_init n E d = choice (is_mark marks.assign) (init n E >>= λ x. give (initialised d x)) (give d)

abbrev pub declared : ℕ → Readers → ParameterReader → List Terminal → Read Declarator
declared n E P = declarator n E P >>= λ d. with_init n E d
