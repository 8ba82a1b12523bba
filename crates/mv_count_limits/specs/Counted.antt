-- The limits on what a program is compiled to, by counts over the source.
use Rattle.std.specs.Prelude.{ℕ, ◌≡◌, ◌<◌, ◌≤◌, List, Some, slice_get}
use Rattle.mv_num.specs.Regions.{text_limit}
use Rattle.mv_isa.specs.Code.{text_start}
use Rattle.mv_num.specs.Limits.{slot_limit}
use Rattle.mv_ast.specs.declared.program.Program.{Program}
use Rattle.mv_ast.specs.declared.program.Function.{Function}
use Rattle.mv_front.specs.Verdicts.{IsProgram}
use Rattle.mv_front.specs.declared.refusal.Refusal.{Refusal}
use Rattle.mv_select.specs.Calls.Convention.{frame_limit}
use Rattle.mv_asm.specs.Outcome.{PassesText}
use Rattle.mv_linker.specs.declared.parts.Parts.{Parts}
use Rattle.mv_linker.specs.Linked.{linked_lines}
use Rattle.mv_linker.specs.Tables as linked
use Rattle.mv_linker.specs.Outcome.{data_limit, site_limit}
use Rattle.mv_link_data.specs.FirstData.{data_words}
use Rattle.mv_count_code.specs.Sizes.{frame_count}
use Rattle.mv_count_code.specs.Texts.{site_count, text_count}
use Rattle.mv_parts.specs.Codes.{frame_size}
use Rattle.mv_build.specs.Verdicts.{IsCoded, PassesLimit}

-- a function whose frame passes the limit has more than so many declared words and eight for each level of its depth
abbrev pub FramesAreCounted : Type 0
FramesAreCounted =
    (text : List ℕ) (p : Program) → IsProgram text p → (f : ℕ) (g : Function) → slice_get p.functions f ≡ Some g → frame_limit < frame_size p g → slot_limit < frame_count g

-- what a program of a source is compiled to has no more slots than are counted over it
abbrev pub SitesAreCounted : Type 0
SitesAreCounted = (text : List ℕ) (p : Program) → IsProgram text p → (parts : Parts) → IsCoded p parts → linked.site_count parts ≤ site_count p

-- and where its words pass the end of text, the words that are counted over it are past it
abbrev pub TextsAreCounted : Type 0
TextsAreCounted = (text : List ℕ) (p : Program) → IsProgram text p → (parts : Parts) → IsCoded p parts → (words : ℕ) → PassesText text_start (linked_lines parts) words → text_limit < text_count p

-- The declared words of each function and eight for each level of its depth are at most 480, there are few enough words of data, and the counts of sites and
-- of text are within their limits.
pub record IsWithinCounts (p : Program) : Type 0 where
  pub frames : (f : ℕ) (g : Function) → slice_get p.functions f ≡ Some g → frame_count g ≤ slot_limit
  pub sites : site_count p ≤ site_limit
  pub data_fits : data_words p ≤ data_limit
  pub text : text_count p ≤ text_limit

-- Such a program of a source has an image.
abbrev pub CountedPassNone : Type 0
CountedPassNone = (text : List ℕ) (p : Program) → IsProgram text p → IsWithinCounts p → (r : Refusal) → PassesLimit p r → ⊥
