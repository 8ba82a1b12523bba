-- `switch`, as a function of what its value and its arms are lowered to.
use Rattle.std.specs.Prelude.{ℕ, ◌+◌, suc, cond, List, [], ◌∷◌, ◌++◌, map, length, max}
use Rattle.mv_ast.specs.declared.program.Function.{Function}
use Rattle.mv_ast.specs.declared.program.Arm.{Arm}
use Rattle.mv_ir.specs.declared.stm.Stm.{Stm}
use Rattle.mv_lower_spec.specs.Lowered.{Lowered, number, set}
use Rattle.mv_lower_spec.specs.Statements.{Jumps, Code, enclosed, test_labels, arms_code, arms_top}
use Rattle.mv_lower.specs.Statements.{arm_at}

-- the place of the first arm with `default`, from this place on
abbrev pub default_place : ℕ → List Arm → ℕ
default_place i [] = i
default_place i (a ∷ arms) = cond a.other i (default_place (suc i) arms)

abbrev pub tests_from : ℕ → ℕ → List Arm → List Stm
tests_from n i [] = []
tests_from n i (a ∷ arms) = test_labels n i a.labels ++ tests_from n (suc i) arms

unfoldable pub all_tests : ℕ → List Arm → List Stm
all_tests n arms = tests_from n 0 arms ++ set n (number (default_place 0 arms)) ∷ []

-- the arms, and above the temporaries that they write
unfoldable pub arms_of : (pointers : List ℕ) → Function → List Arm → Jumps → Code
arms_of pointers g arms j = record { code = arms_code (length g.locals) 0 (map (arm_at pointers g) arms) j; top = arms_top (length g.locals) (map (arm_at pointers g) arms) j }

abbrev pub switch_of : Lowered → List Stm → Code → ℕ → Code
switch_of x tests arms n = record { code = (x.code ++ set n x.tree ∷ []) ++ enclosed (enclosed tests ∷ arms.code) ∷ []; top = max (n + 1) (max x.top arms.top) }
