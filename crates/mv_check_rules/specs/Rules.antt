-- The rules of declarations and statements, in their order: each is a test on one node whose parts break none, in its scope. Rules that only expressions
-- break (assignments, calls, indexes, switch assignments, plan arguments, placements) are those of expressions.
use Rattle.std.specs.Prelude.{ℕ, ◌+◌, Bool, true, false, ◌&&◌, ◌||◌, not, nat_eq, nat_le, is_none, is_some, if◌then◌else◌, List, [], ◌∷◌, length, Option, Some, None, slice_get}
use Rattle.std.specs.List.{list_any}
use Rattle.std.specs.Cmp.Lexicographic.{pointwise}
use Rattle.mv_syntax.specs.declared.place.Place.{Place}
use Rattle.mv_ast.specs.declared.program.CType.{CType}
use Rattle.mv_ast.specs.declared.program.Expr.{Expr}
use Rattle.mv_ast.specs.declared.program.Form.TheVariants as form
use Rattle.mv_ast.specs.declared.program.Known.{Known}
use Rattle.mv_ast.specs.declared.program.Signature.{Signature}
use Rattle.mv_ast.specs.Operators.{converted}
use Rattle.mv_num.specs.Lists.{is_among}
use Rattle.mv_check_scope.specs.declared.meaning.Meaning.{Meaning}
use Rattle.mv_check_scope.specs.declared.meaning.Meaning.TheVariants as meaning
use Rattle.mv_check_scope.specs.declared.scope.Scope.{Scope}
use Rattle.mv_check_scope.specs.Constants.{converts}
use Rattle.mv_check_scope.specs.Conversions.{int, is_integer, is_void, same_signature, same_type, typed}
use Rattle.mv_check_scope.specs.Known.{known_function}
use Rattle.mv_check_scope.specs.Spaces.{named}
use Rattle.mv_check_expressions.specs.RuleNumbers as rules
use Rattle.mv_check_expressions.specs.Calls.{known_arity, known_params}
use Rattle.mv_check_expressions.specs.declared.constant.Constant.{Constant}
use Rattle.mv_check_expressions.specs.Judged.{Judged, first_broken, unless_broken}
use Rattle.mv_check_declarations.specs.Constants.{is_positive, is_value_of}
use Rattle.mv_check_rules.specs.Nodes.{Declared, Scalar, Array, Function, Given, Nothing, Value, Values, Characters, Enumeration, Undeclared, Again, Bearer, Global, Node}
use Rattle.mv_check_rules.specs.Nodes as node
use Rattle.mv_check_declarations.specs.Objects.{is_char}

-- ---- what the rules ask of objects

-- the type of an object, or of an array's elements; a function has none
abbrev pub object_type : Declared → Option CType
object_type (Scalar t constant) = Some t
object_type (Array t constant size) = Some t
object_type (Function signature) = None

abbrev pub is_object : Declared → Bool
is_object (Function signature) = false
is_object _ = true

abbrev pub is_type_void : Option CType → Bool
is_type_void None = false
is_type_void (Some t) = is_void t

-- whether it is an object of type `void`, or an array of these
abbrev pub is_void_object : Declared → Bool
is_void_object d = is_type_void (object_type d)

abbrev pub all_convert : CType → List Expr → Bool
all_convert t es = not (list_any (λ e. not (converts e t)) es)

-- one value gives a scalar its value; each value of a list converts to the type of a scalar or of an array's elements (C11 6.7.9)
abbrev pub converts_given : Declared → Given → Bool
converts_given (Scalar t constant) (Value e) = converts e t
converts_given (Array t constant size) (Value e) = false
converts_given (Scalar t constant) (Values es) = all_convert t es
converts_given (Array t constant size) (Values es) = all_convert t es
converts_given _ _ = true

-- how many elements an array has that is written without a size: one for each value, and a string's characters with the 0 behind them
abbrev pub given_size : Given → ℕ
given_size (Values es) = length es
given_size (Characters bytes) = length bytes + 1
given_size _ = 0

-- the size of an array, or 0 where it has none that is at least 1
abbrev pub array_size : Option Constant → Given → ℕ
array_size None given = given_size given
array_size (Some c) given = if is_positive c then c.value else 0

-- how many elements the initial value fills; a string's 0 is left out where there is no room for it
abbrev pub filled : Given → ℕ
filled Nothing = 0
filled (Value e) = 0
filled (Values es) = length es
filled (Characters bytes) = length bytes

-- whether an array has a size that is at least 1 and room for its values, and a scalar no list
abbrev pub fits_extent : Declared → Given → Bool
fits_extent (Scalar t constant) (Values es) = false
fits_extent (Array t constant size) given = not (nat_eq (array_size size given) 0) && nat_le (filled given) (array_size size given)
fits_extent _ _ = true

abbrev pub is_string : Given → Bool
is_string (Characters bytes) = true
is_string _ = false

abbrev pub is_char_array : Declared → Bool
is_char_array (Array t constant size) = is_char t
is_char_array _ = false

-- ---- what the rules ask of names

-- what a name means in the innermost block
abbrev pub meaning_here : Scope → List ℕ → Option Meaning
meaning_here scope name = named name scope.names.here

abbrev pub stands_here : Scope → List ℕ → Bool
stands_here scope name = is_some (meaning_here scope name)

abbrev pub is_size : Option ℕ → ℕ → Bool
is_size None n = false
is_size (Some m) n = nat_eq m n

-- the same type: of a scalar, or of an array with its size
abbrev pub has_type : Global → Declared → Given → Bool
has_type g (Scalar t constant) given = same_type g.ctype t && is_none g.size
has_type g (Array t constant size) given = same_type g.ctype t && is_size g.size (array_size size given)
has_type g (Function signature) given = false

abbrev pub is_given : Given → Bool
is_given Nothing = false
is_given _ = true

abbrev pub same_domain : Option (List ℕ) → Option (List ℕ) → Bool
same_domain (Some vs) (Some ws) = pointwise nat_eq vs ws
same_domain _ _ = true

-- One global may be declared again with the same type, one initial value at most, and the same domain where several declarations have an attribute.
abbrev pub allows_object : Option Global → Declared → Given → Option (List ℕ) → Bool
allows_object None d given domain = false
allows_object (Some g) d given domain = has_type g d given && (not (is_some g.words && is_given given) && same_domain g.domain domain)

-- the prototype of a known function; one whose argument is a name and no value has none
abbrev pub is_prototype : Known → Option Signature → Bool
is_prototype k None = false
is_prototype k (Some t) = nat_eq (known_arity k) (length (known_params k)) && same_signature t (record { result = int; params = known_params k })

abbrev pub allows_prototype : Option Known → Option Signature → (block : Bool) → Bool
allows_prototype None t block = true
allows_prototype (Some k) t block = not block && is_prototype k t

-- One function may be declared again with the same type. A known function may be declared by its prototype.
abbrev pub allows_function : Option Meaning → Option Known → List Signature → (signature : ℕ) → (block : Bool) → Bool
allows_function (Some (meaning.Function f)) known signatures signature block = nat_eq f.signature signature
allows_function (Some _) known signatures signature block = false
allows_function None known signatures signature block = allows_prototype known (slice_get signatures signature) block

abbrev pub is_undeclared : Enumeration → Bool
is_undeclared Undeclared = true
is_undeclared _ = false

abbrev pub is_again : Enumeration → Bool
is_again Again = true
is_again _ = false

-- ---- what the rules ask of attributes

-- an attribute stands on no local, parameter, array, `const` object or `main`
abbrev pub bears_none : Bearer → Bool
bears_none node.Switch = false
bears_none node.PointerSwitch = false
bears_none node.Function = false
bears_none _ = true

-- one with values on no function and no function pointer
abbrev pub bears_no_values : Bearer → Bool
bears_no_values node.Function = true
bears_no_values node.PointerSwitch = true
bears_no_values _ = false

abbrev pub is_empty : {A : Type 0} → List A → Bool
is_empty [] = true
is_empty (x ∷ xs) = false

-- ---- the rules

-- names: a name, tag or function isn't declared before its use
abbrev pub breaks_names : Node → Bool
breaks_names (node.Specifiers misplaced enums type) = list_any is_undeclared enums
breaks_names _ = false

-- redeclarations: a name is declared twice in one scope in a way that isn't allowed
abbrev pub breaks_redeclarations : Scope → Node → Bool
breaks_redeclarations scope (node.Enumerator name value) = stands_here scope name
breaks_redeclarations scope (node.Specifiers misplaced enums type) = list_any is_again enums
breaks_redeclarations scope (node.Parameter defined (Some name) d) = stands_here scope name
breaks_redeclarations scope (node.Local name d given) = stands_here scope name
breaks_redeclarations scope (node.Object name d given domain earlier block) = stands_here scope name && not (allows_object earlier d given domain)
breaks_redeclarations scope (node.Routine name signature defined given block) =
    not (allows_function (meaning_here scope name) (known_function name) scope.signatures signature block)
breaks_redeclarations scope _ = false

-- operands: the value that `switch` tests is no integer
abbrev pub breaks_operands : Node → Bool
breaks_operands (node.Switch t block) = not (is_integer t)
breaks_operands _ = false

-- conversions: a value is converted between types that don't convert; nothing converts to `void`, where other rules are broken
abbrev pub breaks_conversions : Node → Bool
breaks_conversions (node.Local name d given) = not (is_void_object d) && not (converts_given d given)
breaks_conversions (node.Object name d given domain earlier block) = not (is_void_object d) && not (converts_given d given)
breaks_conversions (node.Case t before c) = not (converts (typed c.ctype (form.Number c.value)) t)
breaks_conversions (node.Return t (Some e)) = not (is_void t) && not (converts e t)
breaks_conversions _ = false

-- void: `void` is used as the type of an object or parameter
abbrev pub breaks_void : Node → Bool
breaks_void (node.Parameter defined name (Scalar t constant)) = is_void t
breaks_void (node.Local name d given) = is_void_object d
breaks_void (node.Object name d given domain earlier block) = is_void_object d
breaks_void _ = false

-- constants: a constant is needed and the expression isn't one, or its evaluation divides by zero
abbrev pub breaks_constants : Node → Bool
breaks_constants (node.Needed value) = is_none value
breaks_constants _ = false

-- extents: an array size is below 1 or missing without values, there are more values than elements, a scalar has a list, or a string initialises anything
-- other than a global array of a char type (that a function has an initial value at all is against another rule)
abbrev pub breaks_extents : Node → Bool
breaks_extents (node.Local name d given) = is_object d && (is_string given || not (fits_extent d given))
breaks_extents (node.Object name d given domain earlier block) = (is_string given && not (is_char_array d)) || not (fits_extent d given)
breaks_extents _ = false

-- labels: a label or a declaration stands where it may not, the body of `switch` isn't a block, or a label is repeated in one `switch`
abbrev pub breaks_labels : Node → Bool
breaks_labels node.Misplaced = true
breaks_labels (node.Case t before c) = is_among (converted t c.value) before
breaks_labels (node.Default again) = again
breaks_labels (node.Switch t block) = not block
breaks_labels _ = false

-- jumps: `break` or `continue` has no loop or `switch` around it that it can leave or continue
abbrev pub breaks_jumps : Node → Bool
breaks_jumps (node.Break inside) = not inside
breaks_jumps (node.Continue inside) = not inside
breaks_jumps _ = false

-- returns: `return` has a value in a void function, or none in another
abbrev pub breaks_returns : Node → Bool
breaks_returns (node.Return t None) = not (is_void t)
breaks_returns (node.Return t (Some e)) = is_void t
breaks_returns _ = false

-- attributes: an attribute stands on what bears none or on a bare enum, holds more than once for one declarator, or has values on a function or a function
-- pointer
abbrev pub breaks_attributes : Node → Bool
breaks_attributes (node.Attribute bearers again valued) = is_empty bearers || list_any bears_none bearers || again || (valued && list_any bears_no_values bearers)
breaks_attributes _ = false

-- domains: a domain value isn't a value of the switch's type, or is repeated
abbrev pub breaks_domains : Node → Bool
breaks_domains (node.DomainValue k before c) = not (is_value_of k c) || is_among c.value before
breaks_domains _ = false

-- main: there is no `int main` with no parameters
abbrev pub breaks_main : Node → Bool
breaks_main (node.End main) = is_none main
breaks_main _ = false

-- definitions: a declared function is defined a second time
abbrev pub breaks_definitions : Node → Bool
breaks_definitions (node.Routine name signature defined given block) = block && defined
breaks_definitions _ = false

-- enumerators: an enumerator's value isn't an `int`
abbrev pub breaks_enumerators : Node → Bool
breaks_enumerators (node.Enumerator name value) = is_none value
breaks_enumerators _ = false

abbrev pub is_scalar : Declared → Bool
is_scalar (Scalar t constant) = true
is_scalar _ = false

-- declarations: the type words and enums together name no type, `static` stands on a local or parameter, a declaration has neither a name nor an enum, a
-- defined function's parameter has no name, a block follows a declarator that declares no function, or a function has an initial value or is declared in a block
abbrev pub breaks_declarations : Node → Bool
breaks_declarations (node.Specifiers misplaced enums type) = misplaced || is_none type
breaks_declarations (node.Parameter defined name d) = not (is_scalar d) || (defined && is_none name)
breaks_declarations (node.Local name d given) = not (is_object d)
breaks_declarations (node.Object name d given domain earlier block) = block
breaks_declarations (node.Routine name signature defined given block) = given
breaks_declarations node.Nameless = true
breaks_declarations (node.Declaration empty) = empty
breaks_declarations _ = false

-- ---- the least rule

-- the rules in their order, and whether a node breaks them
abbrev pub breaches : Scope → Node → List (ℕ × Bool)
breaches scope n =
    (rules.names, breaks_names n) ∷
    (rules.redeclarations, breaks_redeclarations scope n) ∷
    (rules.operands, breaks_operands n) ∷
    (rules.conversions, breaks_conversions n) ∷
    (rules.void, breaks_void n) ∷
    (rules.constants, breaks_constants n) ∷
    (rules.extents, breaks_extents n) ∷
    (rules.labels, breaks_labels n) ∷
    (rules.jumps, breaks_jumps n) ∷
    (rules.returns, breaks_returns n) ∷
    (rules.attributes, breaks_attributes n) ∷
    (rules.domains, breaks_domains n) ∷
    (rules.main, breaks_main n) ∷
    (rules.definitions, breaks_definitions n) ∷
    (rules.enumerators, breaks_enumerators n) ∷
    (rules.declarations, breaks_declarations n) ∷
    []

-- what a node at a place is found to be, unless it breaks a rule
abbrev pub concluded : {A : Type 0} → Place → Scope → Node → A → Judged A
concluded place scope n found = unless_broken place (first_broken (breaches scope n)) found
