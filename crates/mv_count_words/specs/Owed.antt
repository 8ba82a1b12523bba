-- How many words of text the bindings of a program owe, by its source.
use Rattle.std.specs.Prelude.{ℕ, ◌≡◌, ◌↔◌, ◌+◌, ◌*◌, ◌≤◌, nat_eq, if◌then◌else◌, List, [], ◌∷◌, map, sum}
use Rattle.mv_ast.specs.declared.program.Program.{Program}
use Rattle.mv_ast.specs.declared.program.Function.{Function}
use Rattle.mv_ast.specs.Counts.{calls_through}
use Rattle.mv_ast.specs.Switches.{pointer_bindings}
use Rattle.mv_bindings.specs.declared.binding.Binding.{Binding}
use Rattle.mv_lower_spec.specs.Shape.Calls.{function_weight}
use Rattle.mv_parts.specs.Numbers.{attributed_numbers}
use Rattle.mv_count_slots.specs.Calls.{once_for}

-- the direct calls of a function in another, given with the number of the one that is called
abbrev pub calls_of : (callee : ℕ) → Function → ℕ
calls_of callee g = function_weight (once_for callee) 0 g

-- and in a program
abbrev pub direct_calls_of : (callee : ℕ) → Program → ℕ
direct_calls_of callee p = sum (map (calls_of callee) p.functions)

-- the calls through a pointer switch in a program
abbrev pub calls_through_of : (pointer : ℕ) → Program → ℕ
calls_through_of pointer p = sum (map (calls_through (nat_eq pointer)) p.functions)

-- of each bound one of some functions one word for its entry, and one for each direct call of it
abbrev pub owed_by : Program → (functions : List ℕ) → List Binding → ℕ
owed_by p [] bs = 0
owed_by p (f ∷ fs) [] = 0
owed_by p (f ∷ fs) (b ∷ bs) = (if b.bound then 1 + direct_calls_of f p else 0) + owed_by p fs bs

-- of each bound one of some pointer switches four words for each call through it
abbrev pub owed_through : Program → (pointers : List ℕ) → List Binding → ℕ
owed_through p [] bs = 0
owed_through p (g ∷ gs) [] = 0
owed_through p (g ∷ gs) (b ∷ bs) = (if b.bound then 4 * calls_through_of g p else 0) + owed_through p gs bs

-- what bindings owe that are one for each attributed function, and then one for each pointer switch, in order
abbrev pub owed_words : Program → List Binding → ℕ
owed_words p bs = owed_by p (attributed_numbers p) bs + owed_through p p.pointers (pointer_bindings p bs)

-- As many words are changed as bindings owe: at least what the bound functions and pointer switches owe, and none where nothing is owed, as where all are free.
-- A pointer switch through which there is no call owes nothing, also where it is bound.
pub record CountsWords (p : Program) (bs : List Binding) (count : ℕ) : Type 0 where
  pub none : (count ≡ 0) ↔ (owed_words p bs ≡ 0)
  pub least : owed_words p bs ≤ count
