-- What comes of building a text.
use Rattle.std.specs.Prelude.{ℕ, List}
use Rattle.mv_image.specs.Faults.{Spells}
use Rattle.mv_front.specs.declared.refusal.Refusal.{Refusal}
use Rattle.mv_refine.specs.Verdicts.{HasNoImage, IsBuiltFrom}
use Rattle.mv_refine.specs.Built.{Built}
use Rattle.mv_notes.specs.declared.status.Status.{Status}
use Rattle.mv_notes.specs.declared.status.Status.TheVariants.{Refused, Memory}
use Rattle.mv_top.specs.Outside.{Outside}
use Rattle.mv_top.specs.Saving.{SavesFile}

-- Bytes spell an image of a text.
pub record IsBuiltAs (text bytes : List ℕ) : Type 0 where
  pub of : Built
  pub built : IsBuiltFrom text of
  pub spells : Spells bytes of.image

-- A text gives no image: it has none, or there was no memory to read it as a program, to compile it or to spell its image.
pub data IsUnbuilt (text : List ℕ) : Status → Type 0 where
  no_memory : IsUnbuilt text Memory
  refused : (r : Refusal) → HasNoImage text r → IsUnbuilt text (Refused r)

abbrev pub BuildsFile : (before after : Outside) (file image : List ℕ) → Status → Type 0
BuildsFile before after file image status = SavesFile before after file image IsBuiltAs IsUnbuilt status
