-- The image that is linked of a program's code is its image.
use Rattle.std.proofs.Common.{refl}
use Rattle.mv_ast.specs.declared.program.Program.{Program}
use Rattle.mv_image.specs.Spelling.{Fields}
use Rattle.mv_refine_images.specs.Built.{IsBuilt}
use Rattle.mv_refine_images.specs.Laws.{BuiltProgramsBehave}
use Rattle.mv_linker.specs.declared.parts.Parts.{Parts}
use Rattle.mv_parts.specs.Laws.{PartsCanBeLinked}
use Rattle.mv_parts.specs.Parts.{ArePartsOf}
use Rattle.mv_refine_images.specs.Tables.Laws.{ImagesHaveTables, RowsLeadToVariants}
use Rattle.mv_count_words.specs.Laws.{ImagesShowBindings}
use Rattle.mv_build.specs.declared.code.Coded.{Coded}
use Rattle.mv_build.specs.Compiled.{IsCode, IsLinkedTo, IsSound, parts_of}
use Rattle.mv_build.specs.Images.{IsImageOf}

module _ (can_be_linked : PartsCanBeLinked) (leads : RowsLeadToVariants) (tabled : ImagesHaveTables) (show : ImagesShowBindings)
    (behave : BuiltProgramsBehave) (p : Program) (sound : IsSound p) (c : Coded) (code : IsCode p c) (image : Fields)
    (to : IsLinkedTo p (parts_of p c.functions c.attributed) image) where
  abbrev parts : Parts
  parts = parts_of p c.functions c.attributed

  are : ArePartsOf p c.generics c.variants parts
  are = can_be_linked p sound.formed sound.facts c.generics c.variants parts code.codes refl refl refl refl refl to.labels to.data_fits

  abbrev built : IsBuilt p image
  built = record { bodies = c.generics; tables = c.variants; parts = parts; are = are; constants = code.words; linked = to.of.linked; rules = to.of.rules }

  pub image_is : IsImageOf p c.generics c.variants image
  image_is = record {
    frames = code.frames;
    data_fits = to.data_fits;
    parts = parts;
    are_parts = are;
    linked = to.of.linked;
    leads = λ n f g variants number there table. leads p c.generics c.variants parts are image to.of.linked n f g variants (record { number = number; there = there; table = table });
    behaves = λ bytes polls picks are_bytes of_words fit. (behave p image sound.formed sound.facts.words built bytes polls picks are_bytes of_words fit).0;
    loads = λ bytes polls picks are_bytes of_words fit. let b = behave p image sound.formed sound.facts.words built bytes polls picks are_bytes of_words fit in (b.1, b.2);
    fits = (tabled p sound.formed c.generics c.variants parts are image to.of.linked).fits;
    shows = show p sound.formed c.generics c.variants parts are image to.of.linked to.of.rules;
  }
