-- Loops and blocks that give way to their statements: where nothing in them leads out of them but a jump at their end.
use Rattle.std.specs.Prelude.{ℕ, suc, ◌+◌, ◌-◌, max, Bool, true, false, cond, ◌&&◌, ◌==◌, if◌then◌else◌, List, [], ◌∷◌, ◌++◌, map, Option, Some, None, is_some}
use Rattle.mv_ast.specs.Counts.{greatest}
use Rattle.mv_ir.specs.declared.stm.Stm.{Stm, out-Stm}
use Rattle.mv_ir.specs.declared.stm.Stm.TheOpen.{Stm-F}
use Rattle.mv_ir.specs.declared.stm.Stm.TheOpen as stm
use Rattle.mv_ir.specs.declared.stm.Stm.TheViews.{roll-Stm}
use Rattle.mv_ir.specs.declared.stm.Stm.TheFolds.{fold-Stm}
use Rattle.mv_ir.specs.Rolled.{break}

-- ---- how far jumps lead

abbrev pub layer_levels : Stm-F ℕ → ℕ
layer_levels (stm.If t a b) = max (greatest a) (greatest b)
layer_levels (stm.Loop b) = greatest b - 1
layer_levels (stm.Block b) = greatest b - 1
layer_levels (stm.Break n) = n + 1
layer_levels (stm.Back n) = n + 1
layer_levels _ = 0

-- how many of the loops and blocks around a statement its jumps leave, or start again
unfoldable pub levels : Stm → ℕ
levels = fold-Stm ℕ layer_levels

abbrev pub most_levels : List Stm → ℕ
most_levels code = greatest (map levels code)

-- ---- the jump at an end

abbrev pub layer_leaves : {A : Type 0} → Stm-F A → Bool
layer_leaves (stm.Break n) = true
layer_leaves _ = false

-- whether it leaves what stands around it
unfoldable pub leaves : Stm → Bool
leaves s = layer_leaves (out-Stm s)

abbrev pub without_leave : List Stm → List Stm
without_leave [] = []
without_leave (s ∷ []) = cond (leaves s) [] (s ∷ [])
without_leave (s ∷ t ∷ ss) = s ∷ without_leave (t ∷ ss)

abbrev pub layer_target : {A : Type 0} → Stm-F A → Option ℕ
layer_target (stm.Break n) = Some n
layer_target _ = None

-- which of the loops and blocks around it a `Break` leaves
unfoldable pub target : Stm → Option ℕ
target s = layer_target (out-Stm s)

-- which one a `Break` at the end of a list leaves
abbrev pub end_target : List Stm → Option ℕ
end_target [] = None
end_target (s ∷ []) = target s
end_target (s ∷ t ∷ ss) = end_target (t ∷ ss)

abbrev pub leave : Option ℕ → List Stm
leave None = []
leave (Some n) = break n ∷ []

-- the same from where the innermost loop or block has been left
abbrev pub from_outside : Option ℕ → Option ℕ
from_outside (Some (suc n)) = Some n
from_outside _ = None

-- ---- in place of a loop or a block

-- the statements of a loop or block in its place
abbrev pub opened : List Stm → List Stm
opened b = without_leave b ++ leave (from_outside (end_target b))

abbrev pub blocked : List Stm → List Stm
blocked b = if most_levels (without_leave b) == 0 then opened b else roll-Stm (stm.Block b) ∷ []

-- a loop goes round where no `Break` ends it
abbrev pub looped : List Stm → List Stm
looped b = if is_some (end_target b) && (most_levels (without_leave b) == 0) then opened b else roll-Stm (stm.Loop b) ∷ []
