-- The code of a program up to the first that there is no room for: that of its functions, and that of the first of their variants.
use Rattle.std.specs.Prelude.{ℕ, ◌≡◌, ◌+◌, List, [], ◌∷◌, ◌++◌, All, Some, length, nat_lt, slice_get, sum_by}
use Rattle.std.specs.List.{flat_map}
use Rattle.mv_ast.specs.declared.program.Program.{Program}
use Rattle.mv_ast.specs.declared.program.Function.{Function}
use Rattle.mv_isa.specs.declared.labelled.Labelled.{Labelled}
use Rattle.mv_ir.specs.declared.body.Body.{Body}
use Rattle.mv_count_code.specs.Fronts.{IsCodedOf}
use Rattle.mv_linker.specs.Linked.{stub_lines}
use Rattle.mv_variants.specs.declared.size.Size.{Size}
use Rattle.mv_variants.specs.declared.variant.Variant.{Variant}
use Rattle.mv_variants.specs.Fronts.{AreFirstBodies}
use Rattle.mv_variants.specs.Sizes.{Fits, IsWith, lines_sites, lines_words, up_to_greatest}
use Rattle.mv_variants.specs.Variants.{AreVariantsOf, bodies_of}
use Rattle.mv_parts.specs.Numbers.{attributed_numbers}

-- ---- functions

abbrev pub code_words : Labelled → ℕ
code_words code = lines_words code.items

abbrev pub code_sites : Labelled → ℕ
code_sites code = lines_sites code.items

-- the size of the code of a program's functions behind the stubs
pub record IsSizeOf (p : Program) (functions : List Labelled) (size : Size) : Type 0 where
  pub words : size.words ≡ up_to_greatest (lines_words (stub_lines 0 (nat_lt 0 (length p.pointers))) + sum_by code_words functions)
  pub sites : size.sites ≡ up_to_greatest (sum_by code_sites functions)

-- ---- variants

-- the bodies of all variants, one function's behind another's
abbrev pub all_bodies : List (List Variant) → List Body
all_bodies = flat_map bodies_of

-- The variants of the first attributed functions, in order.
abbrev pub AreFirstTables : Program → List (List Variant) → Type 0
AreFirstTables p tables = (n f : ℕ) (variants : List Variant) → slice_get (attributed_numbers p) n ≡ Some f → slice_get tables n ≡ Some variants → AreVariantsOf p f variants

-- their bodies are made of the functions' and have code
abbrev pub AreCoded : Program → List (List Variant) → Type 0
AreCoded p tables =
    (n f : ℕ) (g : Function) (variants : List Variant) → slice_get (attributed_numbers p) n ≡ Some f → slice_get p.functions f ≡ Some g → slice_get tables n ≡ Some variants →
    All (IsCodedOf p g) (bodies_of variants)

-- behind code of some size there is room for theirs
pub record HaveRoom (p : Program) (size : Size) (tables : List (List Variant)) : Type 0 where
  pub coded : AreCoded p tables
  pub with : Size
  pub is : IsWith size (all_bodies tables) with
  pub fits : Fits with

-- the variants of the first attributed functions, and the first bodies of the next one
pub record IsFront (p : Program) (tables : List (List Variant)) (bodies : List Body) : Type 0 where
  pub first_tables : AreFirstTables p tables
  pub coded : AreCoded p tables
  pub number : ℕ
  pub function : Function
  pub nth : slice_get (attributed_numbers p) (length tables) ≡ Some number
  pub there : slice_get p.functions number ≡ Some function
  pub first_bodies : AreFirstBodies p function bodies
  pub each : All (IsCodedOf p function) bodies

-- behind code of some size there is no room for the last of them, and there is for those before it
pub record PassesFront (p : Program) (size over : Size) : Type 0 where
  pub tables : List (List Variant)
  pub earlier : List Body
  pub last : Body
  pub front : IsFront p tables (earlier ++ last ∷ [])
  pub before : (with : Size) → IsWith size (all_bodies tables ++ earlier) with → Fits with
  pub is : IsWith size (all_bodies tables ++ (earlier ++ last ∷ [])) over
  pub past : Fits over → ⊥
