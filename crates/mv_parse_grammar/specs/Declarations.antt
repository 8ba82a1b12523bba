-- The grammar of declarations (C11 6.7), production by production: specifiers, declarators, parameters, initial values.
use Rattle.std.specs.Prelude.{ℕ, zero, suc, Bool, true, false, ◌&&◌, not, if◌then◌else◌, Option, Some, None, is_none, List, [], ◌∷◌, ◌++◌}
use Rattle.std.specs.Str.{bytes_eq}
use Rattle.mv_syntax.specs.declared.place.Place.{Place}
use Rattle.mv_syntax.specs.declared.token.Piece.{Piece}
use Rattle.mv_syntax.specs.declared.token.Piece.TheVariants as piece
use Rattle.mv_syntax.specs.declared.unit.Node.{Node}
use Rattle.mv_syntax.specs.declared.unit.Specs.{Specs, out-Specs}
use Rattle.mv_syntax.specs.declared.unit.EnumSpec.{EnumSpec, roll-EnumSpec}
use Rattle.mv_syntax.specs.declared.unit.Member.{Member, roll-Member}
use Rattle.mv_syntax.specs.declared.unit.Mark.{Mark, roll-Mark}
use Rattle.mv_syntax.specs.declared.unit.Declarator.{Declarator}
use Rattle.mv_syntax.specs.declared.unit.Shape.{Shape, out-Shape}
use Rattle.mv_syntax.specs.declared.unit.Shape.TheVariants as shape
use Rattle.mv_syntax.specs.declared.unit.Param.{Param}
use Rattle.mv_syntax.specs.declared.unit.Initial.{Initial}
use Rattle.mv_syntax.specs.declared.unit.Initial.TheVariants as i
use Rattle.mv_ast.specs.Marks as marks
use Rattle.mv_syntax.specs.Keywords as keywords
use Rattle.mv_parse_grammar.specs.Terminals.{Terminal, keyword, is_mark, is_keyword, is_name, is_string, is_multiverse, is_type_word}
use Rattle.mv_parse_grammar.specs.Language.{give, token, ◌>>=◌, ◌or◌, marked, chain, optional, comma_list, braced_list}
use Rattle.mv_parse_grammar.specs.Expressions.{Expressions, Assign, Cond, phrase, specs_of, no_specs, specs_at, with_const, with_word, with_tag, tag_of}
use Rattle.mv_syntax.specs.Shapes.{is_plain_shape}

-- what the parts of declarations say

abbrev pub with_static : Specs → Specs
with_static s = let f = out-Specs s in specs_of f.place true f.fixed f.words f.tags f.marks

abbrev pub with_mark : Specs → Mark → Specs
with_mark s m = let f = out-Specs s in specs_of f.place f.hidden f.fixed f.words f.tags (f.marks ++ m ∷ [])

abbrev pub place_of_specs : Specs → Place
place_of_specs s = (out-Specs s).place

abbrev pub spelling_of : Option Terminal → Option (List ℕ)
spelling_of None = None
spelling_of (Some t) = Some t.spelling

abbrev pub member_of : Terminal → Option Node → Member
member_of t value = roll-Member (record { place = t.place; name = t.spelling; value = value })

abbrev pub enum_of : Option Terminal → List Member → EnumSpec
enum_of t members = roll-EnumSpec (record { tag = spelling_of t; members = Some members })

abbrev pub mark_at : Place → Option (List Node) → Mark
mark_at p values = roll-Mark (record { place = p; values = values })

abbrev pub declarator_of : Place → Option (List ℕ) → Shape → Declarator
declarator_of p name shape = record { place = p; name = name; shape = shape; marks = []; initial = None }

abbrev pub attributed : Declarator → Mark → Declarator
attributed d m = record { place = d.place; name = d.name; shape = d.shape; marks = d.marks ++ m ∷ []; initial = d.initial }

abbrev pub initialised : Declarator → Initial → Declarator
initialised d x = record { place = d.place; name = d.name; shape = d.shape; marks = d.marks; initial = Some x }

abbrev pub array_shape : Option (Option Node) → Shape
array_shape None = shape.Plain
array_shape (Some n) = shape.Array n

abbrev pub pointer_shape : Bool → Option (Option Node) → List Param → Shape
pointer_shape c None ps = shape.Pointer c ps
pointer_shape c (Some n) ps = shape.PointerArray c n ps

abbrev pub param_of : Specs → Declarator → Param
param_of s d = record { specs = s; name = d }

abbrev pub characters_of_piece : Piece → List ℕ
characters_of_piece (piece.Chars cs) = cs
characters_of_piece _ = []

-- the characters of a string literal
abbrev pub characters_of : Terminal → List ℕ
characters_of t = characters_of_piece t.what

-- specifiers

-- enumerator = NAME ["=" cond]
abbrev pub enumerator : Expressions → Member → List Terminal → Type 0
enumerator E = token is_name >>= λ t.
    ((token (is_mark marks.assign) >>= λ _. E Cond >>= λ x. give (member_of t (Some x)))
    or give (member_of t None))

-- enum = "enum" NAME | "enum" [NAME] "{" enumerator ("," enumerator)* [","] "}"
abbrev pub enum : Expressions → EnumSpec → List Terminal → Type 0
enum E =
    (token (is_keyword keywords.enum) >>= λ _. token is_name >>= λ t. give (tag_of t))
    or (token (is_keyword keywords.enum) >>= λ _. optional (token is_name) >>= λ t. braced_list (enumerator E) >>= λ ms. give (enum_of t ms))

-- "(" cond ("," cond)* ")"
abbrev pub domain : Expressions → List Node → List Terminal → Type 0
domain E = token (is_mark marks.open_parenthesis) >>= λ _. comma_list (E Cond) >>= λ xs. token (is_mark marks.close_parenthesis) >>= λ _. give xs

-- attribute = "__attribute__" "(" "(" "multiverse" ["(" cond ("," cond)* ")"] ")" ")"
abbrev pub attribute : Expressions → Mark → List Terminal → Type 0
attribute E = token (is_keyword keywords.attribute) >>= λ t. token (is_mark marks.open_parenthesis) >>= λ _. token (is_mark marks.open_parenthesis) >>= λ _. token is_multiverse >>= λ _.
    optional (domain E) >>= λ xs. token (is_mark marks.close_parenthesis) >>= λ _. token (is_mark marks.close_parenthesis) >>= λ _. give (mark_at t.place xs)

-- "static" | "const" | typeword | enum | attribute
abbrev pub specifier : Expressions → Specs → Specs → List Terminal → Type 0
specifier E s =
    (token (is_keyword keywords.static) >>= λ _. give (with_static s))
    or ((token (is_keyword keywords.const) >>= λ _. give (with_const s))
    or ((token is_type_word >>= λ t. give (with_word s (keyword t)))
    or ((enum E >>= λ e. give (with_tag s e))
    or (attribute E >>= λ m. give (with_mark s m)))))

-- specs = specifier+, at the place of the first
abbrev pub specs : Expressions → Specs → List Terminal → Type 0
specs E = marked (specifier E no_specs) >>= λ m. chain (specifier E) (specs_at m.0 m.1)

-- declarators, over the language of parameters

abbrev pub Parameters : Type 1
Parameters = List Param → List Terminal → Type 0

-- "[" [cond] "]"
abbrev pub extent : Expressions → Option Node → List Terminal → Type 0
extent E = token (is_mark marks.open_bracket) >>= λ _.
    ((token (is_mark marks.close_bracket) >>= λ _. give None)
    or (E Cond >>= λ x. token (is_mark marks.close_bracket) >>= λ _. give (Some x)))

-- "(" params ")"
abbrev pub parameter_list : Parameters → List Param → List Terminal → Type 0
parameter_list P = token (is_mark marks.open_parenthesis) >>= λ _. P >>= λ ps. token (is_mark marks.close_parenthesis) >>= λ _. give ps

-- ["const"]
abbrev pub constant : Bool → List Terminal → Type 0
constant = (token (is_keyword keywords.const) >>= λ _. give true) or give false

-- direct = NAME ["[" [cond] "]"] | NAME "(" params ")" | "(" "*" ["const"] NAME ["[" [cond] "]"] ")" "(" params ")"
abbrev pub direct : Expressions → Parameters → Declarator → List Terminal → Type 0
direct E P =
    (token is_name >>= λ t. optional (extent E) >>= λ n. give (declarator_of t.place (Some t.spelling) (array_shape n)))
    or ((token is_name >>= λ t. parameter_list P >>= λ ps. give (declarator_of t.place (Some t.spelling) (shape.Function ps)))
    or (token (is_mark marks.open_parenthesis) >>= λ t. token (is_mark marks.star) >>= λ _. constant >>= λ c. token is_name >>= λ name. optional (extent E) >>= λ n. token (is_mark marks.close_parenthesis) >>= λ _.
    parameter_list P >>= λ ps. give (declarator_of t.place (Some name.spelling) (pointer_shape c n ps))))

abbrev pub with_attribute : Expressions → Declarator → Declarator → List Terminal → Type 0
with_attribute E d = attribute E >>= λ m. give (attributed d m)

-- declarator = direct attribute*
abbrev pub declarator : Expressions → Parameters → Declarator → List Terminal → Type 0
declarator E P = direct E P >>= λ d. chain (with_attribute E) d

-- params

-- [NAME | "(" "*" ["const"] [NAME] ")" "(" params ")"], after a parameter's specifiers
abbrev pub parameter_name : Parameters → Specs → Param → List Terminal → Type 0
parameter_name P s =
    (token is_name >>= λ t. give (param_of s (declarator_of t.place (Some t.spelling) shape.Plain)))
    or ((token (is_mark marks.open_parenthesis) >>= λ t. token (is_mark marks.star) >>= λ _. constant >>= λ c. optional (token is_name) >>= λ name. token (is_mark marks.close_parenthesis) >>= λ _.
    parameter_list P >>= λ ps. give (param_of s (declarator_of t.place (spelling_of name) (shape.Pointer c ps))))
    or give (param_of s (declarator_of (place_of_specs s) None shape.Plain)))

-- param = specs [NAME | "(" "*" ["const"] [NAME] ")" "(" params ")"]
abbrev pub parameter : Expressions → Parameters → Param → List Terminal → Type 0
parameter E P = specs E >>= λ s. parameter_name P s

abbrev pub is_plain : Shape → Bool
is_plain s = is_plain_shape (out-Shape s)

abbrev pub is_empty : {X : Type 0} → List X → Bool
is_empty [] = true
is_empty (x ∷ xs) = false

-- the one word `void`
abbrev pub is_void : Specs → Bool
is_void s = let f = out-Specs s in bytes_eq f.words (keywords.void ∷ []) && not f.hidden && not f.fixed && is_empty f.tags && is_empty f.marks

abbrev pub is_void_parameter : Param → Bool
is_void_parameter p = is_void p.specs && is_none p.name.name && is_plain p.name.shape

-- a single `void` is the empty list
abbrev pub without_void : List Param → List Param
without_void [] = []
without_void (p ∷ []) = if is_void_parameter p then [] else p ∷ []
without_void (p ∷ q ∷ ps) = p ∷ q ∷ ps

-- params = nothing | "void" | param ("," param)*
abbrev pub parameters : Expressions → Parameters → List Param → List Terminal → Type 0
parameters E P = (comma_list (parameter E P) >>= λ ps. give (without_void ps)) or give []

-- the parameters with at most n productions one inside the other
abbrev pub params : ℕ → Parameters
params zero ps ts = ⊥
params (suc n) ps ts = parameters (phrase n) (params n) ps ts

-- initial values

abbrev pub more_characters : List ℕ → List ℕ → List Terminal → Type 0
more_characters cs = token is_string >>= λ t. give (cs ++ characters_of t)

-- STRING+
abbrev pub characters : List ℕ → List Terminal → Type 0
characters = token is_string >>= λ t. chain more_characters (characters_of t)

-- init = "=" ("{" assign ("," assign)* [","] "}" | STRING+ | assign)
abbrev pub init : Expressions → Initial → List Terminal → Type 0
init E = token (is_mark marks.assign) >>= λ _.
    ((braced_list (E Assign) >>= λ xs. give (i.Values xs))
    or ((characters >>= λ cs. give (i.Chars cs))
    or (E Assign >>= λ x. give (i.Value x))))

-- [init], after a declarator
abbrev pub with_init : Expressions → Declarator → Declarator → List Terminal → Type 0
with_init E d = (init E >>= λ x. give (initialised d x)) or give d

-- declared = declarator [init]
abbrev pub declared : Expressions → Parameters → Declarator → List Terminal → Type 0
declared E P = declarator E P >>= λ d. with_init E d
