-- The switches of a program's function in an image, and which of its variants each combination of their domains leads to.
use Rattle.std.specs.Prelude.{ℕ, ◌<◌, ◌≡◌, ◌^◌, List, [], ◌∷◌, map, length, take, Some, None, slice_get, All}
use Rattle.mv_num.specs.declared.kind.Kind.{Kind}
use Rattle.mv_ast.specs.declared.program.Program.{Program}
use Rattle.mv_ast.specs.declared.program.Function.{Function}
use Rattle.mv_ast.specs.Switches.{switch_domain}
use Rattle.mv_ir.specs.declared.body.Body.{Body}
use Rattle.mv_ir.specs.Shorts.{Shorts}
use Rattle.mv_ir.specs.Combinations.{IsCombination, AreAllCombinations}
use Rattle.mv_descriptors.specs.declared.rows.FunctionRow.{FunctionRow}
use Rattle.mv_descriptors.specs.declared.rows.SwitchRow.{SwitchRow}
use Rattle.mv_descriptors.specs.declared.rows.GuardRow.{GuardRow}
use Rattle.mv_image.specs.Spelling.{Fields}
use Rattle.mv_image.specs.Patched.{fitting_variant}
use Rattle.mv_lower_spec.specs.Functions.{lower_function}
use Rattle.mv_merge.specs.declared.rows.Domain.{Domain}
use Rattle.mv_merge.specs.declared.rows.Bound.{Bound}
use Rattle.mv_merge.specs.declared.rows.Variants.{Variants}
use Rattle.mv_merge.specs.Guards.{all_values, IsMerged}
use Rattle.mv_variants.specs.Bound.Rows.{groups}
use Rattle.mv_variants.specs.Bound.Shorts.{AreShortsOf}
use Rattle.mv_variants.specs.Bound.Tables.{HasTables}
use Rattle.mv_variants.specs.Bound.Led.{AreMade, IsLed}

-- the kinds and domains of a function's switches, given the kind of each switch of the program
abbrev pub domains_in : Program → (ℕ → Kind) → Function → List Domain
domains_in p kind g = map (λ s. record { kind = kind s; values = switch_domain p s }) g.switches

-- the row of each of some switches has its kind
abbrev pub HaveKinds : Fields → (ℕ → Kind) → List ℕ → Type 0
HaveKinds image kind [] = Unit {0}
HaveKinds image kind (s ∷ switches) = ((row : SwitchRow) × (slice_get image.switches s ≡ Some row) × (row.kind ≡ kind s)) × HaveKinds image kind switches

-- A function's row in an image names its switches, whose rows have their kinds.
pub record HasSwitches (image : Fields) (kind : ℕ → Kind) (g : Function) (row : FunctionRow) : Type 0 where
  pub named : take row.count row.switches ≡ g.switches
  pub kinds : HaveKinds image kind g.switches

-- each switch's domain has words alone
abbrev pub DomainsAreWords : Program → List ℕ → Type 0
DomainsAreWords p [] = Unit {0}
DomainsAreWords p (s ∷ switches) = All (λ v. v < 2 ^ 32) (switch_domain p s) × DomainsAreWords p switches

-- Each combination of the domains of the function's switches leads to a variant that is made of its lowered body under it, with short bodies of the program, and
-- other words to none.
pub record LeadsFunction (p : Program) (g : Function) (image : Fields) (bodies : List Body) (n : ℕ) : Type 0 where
  pub shorts : Shorts
  pub known : AreShortsOf p shorts
  pub combinations : (vs : List ℕ) → IsCombination (map (switch_domain p) g.switches) vs → IsLed shorts image (lower_function p g) bodies n vs
  pub others :
      (vs : List ℕ) → length vs ≡ length g.switches → All (λ v. v < 2 ^ 32) vs → (IsCombination (map (switch_domain p) g.switches) vs → ⊥) → fitting_variant image n vs ≡ None

abbrev pub FunctionsAreLed : Type 0
FunctionsAreLed =
    (p : Program) (g : Function) (kind : ℕ → Kind) (image : Fields) (tables : List (List (List GuardRow))) → HasTables image tables → DomainsAreWords p g.switches →
    (rows : List Bound) (variants : Variants) → AreAllCombinations (map (switch_domain p) g.switches) (all_values rows) → IsMerged (domains_in p kind g) rows variants →
    (shorts : Shorts) → AreShortsOf p shorts → AreMade shorts (lower_function p g) rows →
    (n : ℕ) (row : FunctionRow) → slice_get tables n ≡ Some (groups variants) → slice_get image.functions n ≡ Some row → HasSwitches image kind g row →
    LeadsFunction p g image variants.bodies n
