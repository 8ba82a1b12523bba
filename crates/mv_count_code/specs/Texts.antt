-- How many words the text of a program has, and how many sites.
use Rattle.std.specs.Prelude.{ℕ, ◌+◌, ◌*◌, ◌<◌, ◌≤◌, ◌≡◌, Bool, List, length, map, sum, Some, slice_get, All}
use Rattle.mv_num.specs.Regions.{text_limit}
use Rattle.mv_ast.specs.declared.program.Program.{Program}
use Rattle.mv_ast.specs.declared.program.Function.{Function}
use Rattle.mv_ast.specs.Counts.{nodes, call_sites, assignments, patchable_places}
use Rattle.mv_ast.specs.Switches.{attributed_functions}
use Rattle.mv_isa.specs.declared.labelled.Labelled.{Labelled}
use Rattle.mv_isa.specs.Code.{text_start}
use Rattle.mv_asm.specs.Outcome.{PassesText}
use Rattle.mv_ir.specs.declared.body.Body.{Body}
use Rattle.mv_source_forms.specs.WellFormed.{IsWellFormed}
use Rattle.mv_lower_spec.specs.Shape.Law.{IsFunctionOf}
use Rattle.mv_variants.specs.Bound.Slots.{sites, AtMost}
use Rattle.mv_select.specs.Selected.{IsSuitable, FitsFrame, selected_lines}
use Rattle.mv_linker.specs.declared.parts.Parts.{Parts}
use Rattle.mv_linker.specs.declared.parts.PartFunction.{PartFunction}
use Rattle.mv_linker.specs.declared.parts.PartVariant.{PartVariant}
use Rattle.mv_linker.specs.Linked.{linked_lines}
use Rattle.mv_count_code.specs.Sizes.{IsBodyOf}

-- ---- text

-- the code of a function, whose lines are those of one of its bodies
pub record IsCodeOf (p : Program) (g : Function) (code : Labelled) : Type 0 where
  pub body : Body
  pub of : IsBodyOf p g body
  pub suitable : IsSuitable body
  pub fits : FitsFrame body
  pub attributed : Bool
  pub items : code.items ≡ selected_lines attributed body

-- one for each function, in order
pub record HaveCode (p : Program) (codes : List Labelled) : Type 0 where
  pub one_each : length codes ≡ length p.functions
  pub each : (f : ℕ) (g : Function) (code : Labelled) → slice_get p.functions f ≡ Some g → slice_get codes f ≡ Some code → IsCodeOf p g code

-- The variants of a function have the code of bodies of it, and there are no more than assignments of its switches.
pub record HaveVariantCode (p : Program) (g : Function) (variants : List PartVariant) : Type 0 where
  pub few : length variants ≤ assignments p g
  pub each : All (λ (v : PartVariant). IsCodeOf p g v.code) variants

-- so it is of attributed functions, in order
pub record HaveVariants (p : Program) (attributed : List PartFunction) : Type 0 where
  pub few : length attributed ≤ length (attributed_functions p)
  pub each : (n : ℕ) (g : Function) (a : PartFunction) → slice_get (attributed_functions p) n ≡ Some g → slice_get attributed n ≡ Some a → HaveVariantCode p g a.variants

-- 400 words for the stubs, and forty for each node of a function and for its entry and return, once and once more for each assignment of its switches
abbrev pub text_count : Program → ℕ
text_count p = 400 + 40 * sum (map (λ g. (1 + nodes g) * (1 + assignments p g)) p.functions)

-- Where the linked code of a program's functions and their variants passes the limit of text, the count does.
abbrev pub TextsPass : Type 0
TextsPass =
    (p : Program) → IsWellFormed p → (parts : Parts) → HaveCode p parts.functions → HaveVariants p parts.attributed →
    (words : ℕ) → PassesText text_start (linked_lines parts) words → text_limit < text_count p

-- ---- sites

-- the direct calls of attributed functions, and twice those through pointer switches, once and once more for each assignment
abbrev pub site_count : Program → ℕ
site_count p = sum (map (λ g. call_sites p g * (1 + assignments p g)) p.functions)

-- Where each function's own code has no more sites than call sites, and the variants of each attributed one no more than that for each assignment, all have no
-- more than the count.
abbrev pub SitesAreFew : Type 0
SitesAreFew =
    (p : Program) (own variants : List ℕ) → AtMost (call_sites p) p.functions own → AtMost (λ g. call_sites p g * assignments p g) (attributed_functions p) variants →
    sum own + sum variants ≤ site_count p

-- The code of each body of a function has no more sites than the function has call sites.
abbrev pub SlotsAreFewInCode : Type 0
SlotsAreFewInCode = (p : Program) (f : ℕ) (g : Function) → IsFunctionOf p f g → (code : Labelled) → IsCodeOf p g code → sites code.items ≤ call_sites p g

-- codes of an attributed function's bodies, no more than it has assignments
pub record AreVariantCodes (p : Program) (g : Function) (codes : List Labelled) : Type 0 where
  pub few : length codes ≤ assignments p g
  pub each : (i : ℕ) (code : Labelled) → slice_get codes i ≡ Some code → IsCodeOf p g code

-- of each attributed function, in order
pub record HaveVariantCodes (p : Program) (codes : List (List Labelled)) : Type 0 where
  pub one_each : length codes ≡ length (attributed_functions p)
  pub each : (n : ℕ) (g : Function) (cs : List Labelled) → slice_get (attributed_functions p) n ≡ Some g → slice_get codes n ≡ Some cs → AreVariantCodes p g cs

abbrev pub slots_in : List Labelled → ℕ
slots_in codes = sum (map (λ code. sites code.items) codes)

-- The sites in the code of all functions and of all variants are no more than the count, and with the entries no more than a plan can patch.
abbrev pub SlotsAreCounted : Type 0
SlotsAreCounted =
    (p : Program) → IsWellFormed p → (own : List Labelled) (variants : List (List Labelled)) → HaveCode p own → HaveVariantCodes p variants →
    (slots_in own + sum (map slots_in variants) ≤ site_count p) × (length (attributed_functions p) + 2 * (slots_in own + sum (map slots_in variants)) ≤ patchable_places p)
