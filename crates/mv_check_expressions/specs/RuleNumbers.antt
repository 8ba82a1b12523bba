-- The rules of the language, by the numbers under which a refusal names them.
use Rattle.std.specs.Prelude.{ℕ}

-- a name, a tag or a function is declared before its use
abbrev pub names : ℕ
names = 1

-- a name is declared once in a scope
abbrev pub redeclarations : ℕ
redeclarations = 2

-- an operator takes the types of its operands
abbrev pub operands : ℕ
operands = 3

-- what is assigned is an object without `const`
abbrev pub assignments : ℕ
assignments = 4

-- a value converts to the type that is wanted
abbrev pub conversions : ℕ
conversions = 5

-- what is called is a function, and takes so many arguments
abbrev pub calls : ℕ
calls = 6

-- an array is used with an index, and nothing else is
abbrev pub indexes : ℕ
indexes = 7

-- `void` is the type of no value, object or parameter
abbrev pub void : ℕ
void = 8

-- where a constant is needed, there is one
abbrev pub constants : ℕ
constants = 9

-- an array has a size of at least 1 and room for its values, and a scalar has no list of them
abbrev pub extents : ℕ
extents = 10

-- a label or a declaration stands where it may, and no label is repeated
abbrev pub labels : ℕ
labels = 11

-- `break` and `continue` have something around them to leave or to continue
abbrev pub jumps : ℕ
jumps = 12

-- `return` has a value exactly in a function that isn't `void`
abbrev pub returns : ℕ
returns = 13

-- an attribute stands on what may have it, once
abbrev pub attributes : ℕ
attributes = 14

-- an attributed function assigns to no switch or pointer switch
abbrev pub switch_assignments : ℕ
switch_assignments = 15

-- the values of a domain are of the switch's type, each once
abbrev pub domains : ℕ
domains = 16

-- the argument of a commit or a revert is an attributed function's name, or `&` and that of a switch or pointer switch
abbrev pub plan_arguments : ℕ
plan_arguments = 17

-- there is an `int main` without parameters
abbrev pub main : ℕ
main = 18

-- a function that is used is defined, once
abbrev pub definitions : ℕ
definitions = 19

-- `&`, `*`, a cast and a known function stand where they may
abbrev pub placements : ℕ
placements = 20

-- an enumerator is an `int`
abbrev pub enumerators : ℕ
enumerators = 21

-- a declaration has a type, a name and no more than its place allows
abbrev pub declarations : ℕ
declarations = 22
