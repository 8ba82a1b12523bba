-- How much code there is.
use Rattle.std.specs.Prelude.{ℕ, ◌≡◌, ◌+◌, ◌≤◌, true, min, Option, None, Some, List, [], ◌∷◌, sum_by}
use Rattle.mv_num.specs.Limits.{site_limit}
use Rattle.mv_num.specs.Regions.{text_limit}
use Rattle.mv_isa.specs.declared.labelled.Line.{Line}
use Rattle.mv_isa.specs.declared.labelled.Line.TheVariants.{Slot, Point}
use Rattle.mv_isa.specs.Code.{least_words}
use Rattle.mv_ir.specs.declared.body.Body.{Body}
use Rattle.mv_ir.specs.Shorts.{Shorts}
use Rattle.mv_ir.specs.Live.{most_intervals}
use Rattle.mv_ir.specs.Measures.{deepest}
use Rattle.mv_ir.specs.WellFormed.{IsWellFormed}
use Rattle.mv_select.specs.Calls.Convention.{frame_limit}
use Rattle.mv_select.specs.Functions.FunctionCode.{frame_bytes}
use Rattle.mv_select.specs.Selected.{FitsFrame, IsSuitable, selected_lines}
use Rattle.mv_variants.specs.Bound.Meant.{IsMadeUnder}
use Rattle.mv_variants.specs.declared.size.Size.{Size}
use Rattle.mv_variants.specs.declared.error.VariantError.{VariantError}
use Rattle.mv_variants.specs.declared.error.VariantError.TheVariants.{Limit, Memory}

-- a count, as far as a word of 64 bits goes
abbrev pub up_to_greatest : ℕ → ℕ
up_to_greatest n = min n 18446744073709551615

-- ---- lines

-- a slot is a site, and one of four words counts twice
abbrev pub line_sites : Line → ℕ
line_sites (Slot f) = 1
line_sites (Point a) = 2
line_sites _ = 0

abbrev pub lines_words : List Line → ℕ
lines_words = sum_by least_words

abbrev pub lines_sites : List Line → ℕ
lines_sites = sum_by line_sites

-- the size of code with some lines more
pub record IsWithLines (size : Size) (lines : List Line) (with : Size) : Type 0 where
  pub words : with.words ≡ up_to_greatest (size.words + lines_words lines)
  pub sites : with.sites ≡ up_to_greatest (size.sites + lines_sites lines)

-- ---- bodies

abbrev pub body_words : Body → ℕ
body_words b = lines_words (selected_lines true b)

abbrev pub body_sites : Body → ℕ
body_sites b = lines_sites (selected_lines true b)

-- the size of code with that of some variants more
pub record IsWith (size : Size) (bodies : List Body) (with : Size) : Type 0 where
  pub words : with.words ≡ up_to_greatest (size.words + sum_by body_words bodies)
  pub sites : with.sites ≡ up_to_greatest (size.sites + sum_by body_sites bodies)

-- text has room for the words, and an image for the sites
pub record Fits (size : Size) : Type 0 where
  pub words : size.words ≤ text_limit
  pub sites : size.sites ≤ site_limit

-- a frame for all that a body has in use at one place is small enough
abbrev pub HasSmallFrame : Body → Type 0
HasSmallFrame b = frame_bytes (most_intervals b) b.arrays ≤ frame_limit

-- a body that code can be selected for
pub record IsSelectable (b : Body) : Type 0 where
  pub formed : IsWellFormed b
  pub shallow : deepest b.code ≤ 4
  pub frame : FitsFrame b

-- it was made of another, and has code
pub record IsMadeAndSelected (shorts : Shorts) (body b : Body) : Type 0 where
  pub values : List (ℕ × ℕ)
  pub made : IsMadeUnder shorts values body b
  pub suitable : IsSuitable b
  pub frame : FitsFrame b

-- ---- one body more, if there is one

abbrev pub IfNew : (Body → Type 0) → Option Body → Type 0
IfNew P None = Unit {0}
IfNew P (Some b) = P b

-- the size of code with that of a body more, which has code
pub record IsWithBody (size : Size) (b : Body) (with : Size) : Type 0 where
  pub is : IsWith size (b ∷ []) with
  pub suitable : IsSuitable b
  pub frame : FitsFrame b

abbrev pub IsWithNew : Size → Option Body → Size → Type 0
IsWithNew size None with = with ≡ size
IsWithNew size (Some b) with = IsWithBody size b with

-- a fact of the size that passes a limit
abbrev pub OnLimit : VariantError → (Size → Type 0) → Type 0
OnLimit (Limit size) P = P size
OnLimit (Memory e) P = Unit {0}
