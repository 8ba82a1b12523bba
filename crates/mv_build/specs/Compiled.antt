-- What the steps from a program to its image give.
use Rattle.std.specs.Prelude.{◌≡◌, ◌≤◌, List, [], length, All}
use Rattle.mv_ast.specs.declared.program.Program.{Program}
use Rattle.mv_ir.specs.declared.body.Body.{Body}
use Rattle.mv_isa.specs.declared.labelled.Labelled.{Labelled}
use Rattle.mv_front.specs.declared.refusal.Refusal.{Refusal}
use Rattle.mv_source_forms.specs.WellFormed.{IsWellFormed}
use Rattle.mv_source_facts.specs.Facts.{HasTableFacts}
use Rattle.mv_linker.specs.declared.parts.Parts.{Parts}
use Rattle.mv_linker.specs.declared.parts.PartFunction.{PartFunction}
use Rattle.mv_linker.specs.declared.error.LinkError.{LinkError}
use Rattle.mv_linker.specs.Outcome.{data_limit, HasFewSites, IsLinked, IsRefusal}
use Rattle.mv_link_data.specs.FirstData.{first_data, data_words}
use Rattle.mv_parts.specs.Codes.{FramesFit}
use Rattle.mv_parts.specs.Counts.{HaveFewLabels}
use Rattle.mv_parts.specs.Fronts.{HaveRoom, PassesFront}
use Rattle.mv_parts.specs.Parts.{AreCodesOf, ArePartFunctions, AreTables}
use Rattle.mv_parts.specs.Switches.{part_switches, part_pointers, part_targets}
use Rattle.mv_select.specs.Bodies.SelectedBodies.{HasWords}
use Rattle.mv_variants.specs.declared.size.Size.{Size}
use Rattle.mv_image.specs.Faults.{Rules}
use Rattle.mv_image.specs.Spelling.{Fields}
use Rattle.mv_build.specs.declared.built.Built.{Built}
use Rattle.mv_build.specs.declared.code.Coded.{Coded}
use Rattle.mv_build.specs.declared.code.Varied.{Varied}
use Rattle.mv_build.specs.declared.error.BuildError.{BuildError}
use Rattle.mv_build.specs.declared.error.BuildError.TheVariants.{Refused, Memory}
use Rattle.mv_build.specs.Errors.{of_linking}
use Rattle.mv_build.specs.Images.{IsImageOf}
use Rattle.mv_build.specs.Verdicts.{IsAllWithin, PassesAt}

-- a well-formed program, with what tables need to know of it
pub record IsSound (p : Program) : Type 0 where
  pub formed : IsWellFormed p
  pub facts : HasTableFacts p

-- what a program is compiled to
pub record IsCompiled (p : Program) (built : Built) : Type 0 where
  pub program : built.program ≡ p
  pub image : IsImageOf p built.generics built.variants built.image

-- ---- code

-- The code of a program and what it is the code of. The constants in the bodies are words, the frames are small enough, and there is room for it where each branch
-- is one word.
pub record IsCode (p : Program) (c : Coded) : Type 0 where
  pub codes : AreCodesOf p c.generics c.variants c.functions c.attributed
  pub words : All (λ (b : Body). HasWords b.code) c.generics
  pub frames : FramesFit p (length p.functions)
  pub within : IsAllWithin p c.functions c.variants

-- the variants of a program's attributed functions, which there is room for behind code of some size, and their code
pub record AreVaried (p : Program) (size : Size) (v : Varied) : Type 0 where
  pub tables : AreTables p v.variants
  pub parts : ArePartFunctions p v.variants v.attributed
  pub room : HaveRoom p size v.variants

-- why there is no room for them
pub record PassesVarying (p : Program) (size : Size) (r : Refusal) : Type 0 where
  pub over : Size
  pub front : PassesFront p size over
  pub why : PassesAt p over r

-- ---- image

-- a program's code with its switches and pointer switches, what these may be bound to, and the first words of its globals
abbrev pub parts_of : Program → List Labelled → List PartFunction → Parts
parts_of p functions attributed = record {
  functions = functions;
  main = p.main;
  globals = first_data p;
  switches = part_switches p;
  attributed = attributed;
  pointers = part_pointers p;
  targets = part_targets p;
}

abbrev pub without_data : Parts → Parts
without_data parts = record parts { globals = [] }

-- its code has few enough sites, there are few enough words of data, and numbers for all labels
pub record IsWithinLimits (p : Program) (parts : Parts) : Type 0 where
  pub sites : HasFewSites parts
  pub data_fits : data_words p ≤ data_limit
  pub labels : HaveFewLabels parts

-- the image that is linked of some parts, which keeps the rules of images
pub record IsLinkedOf (parts : Parts) (image : Fields) : Type 0 where
  pub linked : IsLinked parts image
  pub rules : Rules image

-- where the data are few enough, and there are numbers for all labels
pub record IsLinkedTo (p : Program) (parts : Parts) (image : Fields) : Type 0 where
  pub data_fits : data_words p ≤ data_limit
  pub labels : HaveFewLabels parts
  pub of : IsLinkedOf parts image

-- a refusal that says why there is none
pub record IsLinkRefusal (parts : Parts) (r : Refusal) : Type 0 where
  pub cause : LinkError
  pub is : Refused r ≡ of_linking cause
  pub why : IsRefusal parts cause

-- a fact of the refusal in an answer that is one
abbrev pub OnRefusal : BuildError → (Refusal → Type 0) → Type 0
OnRefusal (Refused r) P = P r
OnRefusal (Memory e) P = Unit {0}
