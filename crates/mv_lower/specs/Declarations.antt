-- Declarations of locals, as functions of what their values are lowered to.
use Rattle.std.specs.Prelude.{ℕ, ◌*◌, ◌-◌, Bool, ◌||◌, List, map, nat_le, Option}
use Rattle.mv_ir.specs.declared.stm.Stm.{Stm}
use Rattle.mv_lower_spec.specs.Lowered.{Lowered}
use Rattle.mv_lower_spec.specs.Statements.{Code, store_values, values_top, lower_clear}
use Rattle.mv_lower_spec.specs.Functions.{outermost}
use Rattle.mv_lower_expressions.specs.Values.{given}

-- given values, from a word on
unfoldable pub values_stored : Option ℕ → ℕ → ℕ → List Lowered → List Stm
values_stored size l i vs = store_values 0 size l i (map given vs)

unfoldable pub values_top_of : List Lowered → ℕ → ℕ
values_top_of vs n = values_top n (map given vs)

abbrev pub clears_first : Bool → ℕ → ℕ → Bool
clears_first names_itself words given = names_itself || nat_le (8 * words) (92 * (words - given))

unfoldable pub clear_of : Option ℕ → ℕ → Bool → List Lowered → ℕ → Code
clear_of size l names_itself vs n = lower_clear n size l names_itself (map given vs) outermost
