-- A variant of a function of a well-formed program reads no switch of the function, neither as a scalar nor as an array, and calls through none.
use Rattle.std.specs.Prelude.{ℕ, ◌≡◌, false, List, length, All}
use Rattle.std.specs.List.{zip}
use Rattle.mv_ast.specs.declared.program.Program.{Program}
use Rattle.mv_ast.specs.declared.program.Function.{Function}
use Rattle.mv_num.specs.Lists.{is_among}
use Rattle.mv_ir.specs.declared.body.Body.{Body}
use Rattle.mv_ir.specs.Shorts.{Shorts}
use Rattle.mv_ir.specs.Measures.{scalars_read, arrays_read}
use Rattle.mv_lower_spec.specs.Functions.{lower_function}
use Rattle.mv_lower_spec.specs.Shape.Law.{ReadsNoMore}
use Rattle.mv_variants.specs.Bound.Meant.{IsMadeUnder}

pub record ReadsNoSwitch (switches : List ℕ) (result : Body) : Type 0 where
  pub scalars : All (λ k. is_among k switches ≡ false) (scalars_read result.code)
  pub arrays : All (λ k. is_among k switches ≡ false) (arrays_read result.code)

-- made under a value for each of the switches
abbrev pub VariantsReadNoSwitch : Type 0
VariantsReadNoSwitch =
    (p : Program) (g : Function) → ReadsNoMore g (lower_function p g) → (vs : List ℕ) → length vs ≡ length g.switches →
    (shorts : Shorts) (result : Body) → IsMadeUnder shorts (zip (lower_function p g).switches vs) (lower_function p g) result → ReadsNoSwitch (lower_function p g).switches result
