-- The first variants of a function, up to the first that there is no room for.
use Rattle.std.specs.Prelude.{ℕ, ◌≡◌, ◌≤◌, List, [], ◌∷◌, ◌++◌, All, Some, length, map, slice_get, take}
use Rattle.mv_ast.specs.declared.program.Program.{Program}
use Rattle.mv_ast.specs.declared.program.Function.{Function}
use Rattle.mv_ast.specs.Counts.{assignments}
use Rattle.mv_ast.specs.Switches.{switch_domain}
use Rattle.mv_ir.specs.declared.body.Body.{Body}
use Rattle.mv_ir.specs.declared.body.Assignment.{Assignment}
use Rattle.mv_ir.specs.Shorts.{Shorts}
use Rattle.mv_ir.specs.Combinations.{combinations}
use Rattle.mv_lower_spec.specs.Functions.{lower_function}
use Rattle.mv_merge.specs.declared.rows.Bound.{Bound}
use Rattle.mv_merge.specs.declared.rows.Guarded.{Guarded}
use Rattle.mv_merge.specs.Grouping.{IsGrouped}
use Rattle.mv_merge.specs.Guards.{all_values}
use Rattle.mv_variants.specs.declared.size.Size.{Size}
use Rattle.mv_variants.specs.Bound.Shorts.{AreShortsOf}
use Rattle.mv_variants.specs.Bound.Led.{AreMade}
use Rattle.mv_variants.specs.Rows.{AreMergedUnder}
use Rattle.mv_variants.specs.Sizes.{Fits, IsMadeAndSelected, IsWith}

-- ---- of a body under some assignments

-- bodies that are kept, and the size of their code with some before, which there is room for
pub record AreMeasured (shorts : Shorts) (body : Body) (size : Size) (bodies : List Body) (with : Size) : Type 0 where
  pub each : All (IsMadeAndSelected shorts body) bodies
  pub is : IsWith size bodies with
  pub fits : Fits with

-- With the last of these bodies the code passes a limit, and before it doesn't.
pub record IsFirstOver (shorts : Shorts) (body : Body) (size : Size) (earlier : List Body) (last : Body) (over : Size) : Type 0 where
  pub each : All (IsMadeAndSelected shorts body) (earlier ++ last ∷ [])
  pub before : (with : Size) → IsWith size earlier with → Fits with
  pub is : IsWith size (earlier ++ last ∷ []) over
  pub past : Fits over → ⊥

-- those that are kept under the first assignments, the last of which brings such a body
pub record PassesUnder (shorts : Shorts) (body : Body) (assignments : List Assignment) (size over : Size) : Type 0 where
  pub earlier : List Body
  pub last : Body
  pub count : ℕ
  pub guards : List Guarded
  pub merged : AreMergedUnder shorts body (take count assignments) (record { bodies = earlier ++ last ∷ []; guards = guards })
  pub few : length (earlier ++ last ∷ []) ≤ length assignments
  pub passes : IsFirstOver shorts body size earlier last over

-- ---- of a function

-- The bodies that are kept under the first combinations of a function's switches, in their order: there is a row for each, with a body that is made of the
-- function's lowered one under it, with short bodies of the program, and equal bodies are one.
pub record AreFirstBodies (p : Program) (g : Function) (bodies : List Body) : Type 0 where
  pub shorts : Shorts
  pub known : AreShortsOf p shorts
  pub rows : List Bound
  pub count : ℕ
  pub first : all_values rows ≡ take count (combinations (map (switch_domain p) g.switches))
  pub made : AreMade shorts (lower_function p g) rows
  pub guards : List Guarded
  pub grouped : IsGrouped rows bodies guards
  pub few : length bodies ≤ assignments p g

-- a function's variants pass a limit with the last of these
pub record PassesWithin (p : Program) (g : Function) (size over : Size) : Type 0 where
  pub earlier : List Body
  pub last : Body
  pub first : AreFirstBodies p g (earlier ++ last ∷ [])
  pub passes : IsFirstOver first.shorts (lower_function p g) size earlier last over

-- those of the function with a number do
abbrev pub PassesWithinOf : Program → ℕ → (size over : Size) → Type 0
PassesWithinOf p f size over = (g : Function) → slice_get p.functions f ≡ Some g → PassesWithin p g size over
