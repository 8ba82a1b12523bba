-- How much code there is of a program's functions and of the first of their variants.
use Rattle.std.specs.Prelude.{ℕ, ◌+◌, ◌≤◌, ◌≡◌, List, length, nat_lt, All, Some, slice_get, sum_by}
use Rattle.mv_ast.specs.declared.program.Program.{Program}
use Rattle.mv_ast.specs.declared.program.Function.{Function}
use Rattle.mv_ast.specs.Counts.{assignments}
use Rattle.mv_ast.specs.Switches.{attributed_functions}
use Rattle.mv_isa.specs.declared.labelled.Labelled.{Labelled}
use Rattle.mv_ir.specs.declared.body.Body.{Body}
use Rattle.mv_ir.specs.Shorts.{Shorts}
use Rattle.mv_source_forms.specs.WellFormed.{IsWellFormed}
use Rattle.mv_lower_spec.specs.Functions.{lower_function}
use Rattle.mv_linker.specs.Linked.{stub_lines}
use Rattle.mv_variants.specs.Bound.Shorts.{AreShortsOf}
use Rattle.mv_variants.specs.Sizes.{body_sites, body_words, IsMadeAndSelected, lines_sites, lines_words}
use Rattle.mv_count_code.specs.Texts.{HaveCode, site_count, text_count}

-- a body that is made of a function of the program, and has code
pub record IsCodedOf (p : Program) (g : Function) (b : Body) : Type 0 where
  pub shorts : Shorts
  pub known : AreShortsOf p shorts
  pub coded : IsMadeAndSelected shorts (lower_function p g) b

-- bodies of variants of the first attributed functions, no more for each than it has assignments
pub record HaveVariantBodies (p : Program) (lists : List (List Body)) : Type 0 where
  pub few : length lists ≤ length (attributed_functions p)
  pub each_few : (n : ℕ) (g : Function) (bodies : List Body) → slice_get (attributed_functions p) n ≡ Some g → slice_get lists n ≡ Some bodies → length bodies ≤ assignments p g
  pub each : (n : ℕ) (g : Function) (bodies : List Body) → slice_get (attributed_functions p) n ≡ Some g → slice_get lists n ≡ Some bodies →
      All (IsCodedOf p g) bodies

-- The words of the stubs, of the functions and of these variants, each branch taken for one, and their sites are no more than the counts over the source.
pub record AreCounted (p : Program) (functions : List Labelled) (lists : List (List Body)) : Type 0 where
  pub words : lines_words (stub_lines 0 (nat_lt 0 (length p.pointers))) + sum_by (λ (code : Labelled). lines_words code.items) functions + sum_by (sum_by body_words) lists ≤ text_count p
  pub sites : sum_by (λ (code : Labelled). lines_sites code.items) functions + sum_by (sum_by body_sites) lists ≤ site_count p

abbrev pub FrontsAreCounted : Type 0
FrontsAreCounted =
    (p : Program) → IsWellFormed p → (functions : List Labelled) → HaveCode p functions → (lists : List (List Body)) → HaveVariantBodies p lists → AreCounted p functions lists
