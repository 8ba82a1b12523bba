-- What is proved of the names in lowered code.
use Rattle.std.specs.Prelude.{◌≡◌, ℕ, ◌<◌, false, true, All, [], length, Some, slice_get}
use Rattle.mv_ast.specs.declared.program.Program.{Program}
use Rattle.mv_ast.specs.declared.program.Function.{Function}
use Rattle.mv_ast.specs.Counts.{is_pointer}
use Rattle.mv_select.specs.Calls.Environment.{IsDirect}
use Rattle.mv_select_code.specs.Control.Labels.{functions, pointers}
use Rattle.mv_lower_spec.specs.Shape.Law.{IsFunctionOf}
use Rattle.mv_lower_names.specs.Sources.{NumbersAreWords}
use Rattle.mv_source_forms.specs.Uses.{known_is_there}
use Rattle.mv_lower_spec.specs.Functions.{lower_function}
use Rattle.mv_select.specs.Bodies.SelectedBodies.{HasWords, knowns}
use Rattle.mv_lower_spec.specs.Calls.Bindings.{NeverRebinds}

-- The functions that lowered code calls by name, and those whose addresses it takes, are functions of the program.
abbrev pub FunctionsAreThere : Type 0
FunctionsAreThere = (p : Program) (f : ℕ) (g : Function) → IsFunctionOf p f g → All (λ k. k < length p.functions) (functions (lower_function p g).code)

-- Those through which it calls are pointer switches.
abbrev pub PointersAreThere : Type 0
PointersAreThere = (p : Program) (f : ℕ) (g : Function) → IsFunctionOf p f g → All (λ k. is_pointer p k ≡ true) (pointers (lower_function p g).code)

-- Its orders are for functions and switches that there are.
abbrev pub OrdersAreThere : Type 0
OrdersAreThere = (p : Program) (f : ℕ) (g : Function) → IsFunctionOf p f g → All (λ k. known_is_there p k ≡ true) (knowns (lower_function p g).code)

-- A program that never commits, reverts or polls is lowered to code that calls no known functions but those for input and output.
abbrev pub OnlyInputAndOutput : Type 0
OnlyInputAndOutput = (p : Program) (f : ℕ) (g : Function) → slice_get p.functions f ≡ Some g → NeverRebinds p → All IsDirect (knowns (lower_function p g).code)

-- Where no function of a program is attributed, no body has a marked function.
abbrev pub NothingIsMarked : Type 0
NothingIsMarked =
    (p : Program) (g : Function) → ((k : ℕ) (h : Function) → slice_get p.functions k ≡ Some h → h.attributed ≡ false) → (lower_function p g).marked ≡ []

-- Where the numbers in a program are words, so are the constants in its code, and the numbers of its orders fit.
abbrev pub ConstantsAreWords : Type 0
ConstantsAreWords = (p : Program) (f : ℕ) (g : Function) → IsFunctionOf p f g → NumbersAreWords p → HasWords (lower_function p g).code
