-- What a source is built to: a program and its image, or a refusal with its cause.
use Rattle.std.specs.Prelude.{ℕ, ◌≡◌, ◌<◌, ◌≤◌, List, length}
use Rattle.mv_ast.specs.declared.program.Program.{Program}
use Rattle.mv_num.specs.Regions.{text_limit}
use Rattle.mv_isa.specs.declared.labelled.Labelled.{Labelled}
use Rattle.mv_isa.specs.Code.{text_start}
use Rattle.mv_asm.specs.Outcome.{PassesText}
use Rattle.mv_ir.specs.declared.body.Body.{Body}
use Rattle.mv_front.specs.Codes as refusals
use Rattle.mv_front.specs.Refusals.{counted}
use Rattle.mv_front.specs.Verdicts.{IsProgram, IsRefused}
use Rattle.mv_front.specs.declared.refusal.Refusal.{Refusal}
use Rattle.mv_variants.specs.declared.size.Size.{Size}
use Rattle.mv_variants.specs.declared.variant.Variant.{Variant}
use Rattle.mv_variants.specs.Sizes.{Fits}
use Rattle.mv_linker.specs.declared.parts.Parts.{Parts}
use Rattle.mv_linker.specs.Linked.{linked_lines}
use Rattle.mv_linker.specs.Tables.{site_count}
use Rattle.mv_linker.specs.Outcome.{HasFewSites, data_limit, site_limit}
use Rattle.mv_link_data.specs.FirstData.{data_words, first_data}
use Rattle.mv_parts.specs.Codes.{AreGenerics, FramesFit, HaveCode, PassesFirstFrame}
use Rattle.mv_parts.specs.Counts.{up_to_greatest}
use Rattle.mv_parts.specs.Fronts.{HaveRoom, IsSizeOf, PassesFront}
use Rattle.mv_parts.specs.Parts.{AreCodesOf}
use Rattle.mv_parts.specs.Switches.{part_switches, part_pointers, part_targets}
use Rattle.mv_build.specs.declared.built.Built.{Built}
use Rattle.mv_build.specs.Images.{IsImageOf}

-- ---- limits

-- What a program is compiled to: bodies of its functions and variants of its attributed ones, and the parts that are linked of their code, with its switches
-- and pointer switches, what these may be bound to, and the first words of its globals.
pub record IsCoded (p : Program) (parts : Parts) : Type 0 where
  pub bodies : List Body
  pub tables : List (List Variant)
  pub codes : AreCodesOf p bodies tables parts.functions parts.attributed
  pub switches : parts.switches ≡ part_switches p
  pub pointers : parts.pointers ≡ part_pointers p
  pub targets : parts.targets ≡ part_targets p
  pub main : parts.main ≡ p.main
  pub globals : parts.globals ≡ first_data p

-- These parts pass a limit: their slots are more than an image may have sites, those of four words counted twice; else the words of data are too many; else
-- those of text, with the stubs and as many short branches as can be, pass its end. The refusal has their count.
pub data PassesWith (p : Program) (parts : Parts) : Refusal → Type 0 where
  many_sites : site_limit < site_count parts → PassesWith p parts (counted refusals.sites 0 (up_to_greatest (site_count parts)))
  much_data : HasFewSites parts → data_limit < data_words p → PassesWith p parts (counted refusals.globals 0 (data_words p))
  long_text : (count : ℕ) → HasFewSites parts → data_words p ≤ data_limit → PassesText text_start (linked_lines parts) count →
      PassesWith p parts (counted refusals.text 0 count)

-- Code of some size passes a limit: it has more sites than an image may have; else the words of data are too many; else its words are, each branch taken for one.
-- The refusal has their count.
pub data PassesAt (p : Program) (size : Size) : Refusal → Type 0 where
  too_many_sites : site_limit < size.sites → PassesAt p size (counted refusals.sites 0 size.sites)
  too_much_data : size.sites ≤ site_limit → data_limit < data_words p → PassesAt p size (counted refusals.globals 0 (data_words p))
  too_many_words : size.sites ≤ site_limit → data_words p ≤ data_limit → text_limit < size.words → PassesAt p size (counted refusals.text 0 size.words)

-- There is room for code of some size, and for the data.
pub record IsWithin (p : Program) (size : Size) : Type 0 where
  pub fits : Fits size
  pub data_fits : data_words p ≤ data_limit

-- There is room for the code of a program's functions and variants, each branch taken for one word.
pub record IsAllWithin (p : Program) (functions : List Labelled) (tables : List (List Variant)) : Type 0 where
  pub size : Size
  pub is : IsSizeOf p functions size
  pub within : IsWithin p size
  pub room : HaveRoom p size tables

-- A program has no image where it passes a limit: that of the frame of a function, which is the first such; or else one with the code of its functions; or
-- else one with that of the first of its variants, up to the first with which it does; or else, once its branches are as long as they have to be, one with all
-- its code.
pub data PassesLimit (p : Program) : Refusal → Type 0 where
  large_frame : (f bytes : ℕ) → PassesFirstFrame p f bytes → PassesLimit p (counted refusals.frame f bytes)
  large_functions : (bodies : List Body) (functions : List Labelled) (size : Size) (r : Refusal) → FramesFit p (length p.functions) → AreGenerics p bodies →
      HaveCode p bodies functions → IsSizeOf p functions size → PassesAt p size r → PassesLimit p r
  large_variants : (bodies : List Body) (functions : List Labelled) (size over : Size) (r : Refusal) → FramesFit p (length p.functions) → AreGenerics p bodies →
      HaveCode p bodies functions → IsSizeOf p functions size → IsWithin p size → PassesFront p size over → PassesAt p over r → PassesLimit p r
  large_parts : (parts : Parts) (r : Refusal) → FramesFit p (length p.functions) → (coded : IsCoded p parts) → IsAllWithin p parts.functions coded.tables →
      PassesWith p parts r → PassesLimit p r

-- ---- a source

-- A source has no image for one of these causes: the front end refuses it, or its program passes a limit.
pub data HasNoImage (text : List ℕ) : Refusal → Type 0 where
  refused : (r : Refusal) → IsRefused text r → HasNoImage text r
  over_limit : (p : Program) (r : Refusal) → IsProgram text p → PassesLimit p r → HasNoImage text r

-- the program of a source and its image, with the bodies and variants that this is made of
pub record IsBuiltFrom (text : List ℕ) (built : Built) : Type 0 where
  pub program : IsProgram text built.program
  pub image : IsImageOf built.program built.generics built.variants built.image
