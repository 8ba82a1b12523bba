-- The numbers of a program's attributed functions.
use Rattle.std.specs.Prelude.{ℕ, suc, cond, List, [], ◌∷◌}
use Rattle.mv_ast.specs.declared.program.Program.{Program}
use Rattle.mv_ast.specs.declared.program.Function.{Function}

-- those of the attributed ones among functions, of which the first has this number
abbrev pub attributed_from : ℕ → List Function → List ℕ
attributed_from f [] = []
attributed_from f (g ∷ gs) = cond g.attributed (f ∷ attributed_from (suc f) gs) (attributed_from (suc f) gs)

abbrev pub attributed_numbers : Program → List ℕ
attributed_numbers p = attributed_from 0 p.functions
