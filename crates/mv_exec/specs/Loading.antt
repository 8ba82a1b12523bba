-- What bytes and items give to run.
use Rattle.std.specs.Prelude.{ℕ, List}
use Rattle.mv_command.specs.declared.items.Item.{Item}
use Rattle.mv_image.specs.Faults.{Spells, FirstFault}
use Rattle.mv_image.specs.Spelling.{Fields}
use Rattle.mv_image.specs.declared.fault.ImageError.TheVariants.{Truncated, BadField, Trailing}
use Rattle.mv_actions.specs.Operator.{IsImageActions, IsImageFirstWrong}
use Rattle.mv_exec.specs.declared.loaded.Loaded.{Loaded}
use Rattle.mv_exec.specs.declared.error.LoadError.{LoadError}
use Rattle.mv_exec.specs.declared.error.LoadError.TheVariants as errors

-- Bytes spell no image: the code of their first fault, and its offset.
pub data IsBadImage (bytes : List ℕ) : (code offset : ℕ) → Type 0 where
  -- a word isn't wholly there, or a byte of the names is missing
  truncated : (offset : ℕ) → FirstFault bytes (Truncated offset) → IsBadImage bytes 10 offset
  -- a field breaks a rule together with those before it
  bad_field : (offset : ℕ) → FirstFault bytes (BadField offset) → IsBadImage bytes 11 offset
  -- a byte follows the end
  trailing : (offset : ℕ) → FirstFault bytes (Trailing offset) → IsBadImage bytes 12 offset

-- why bytes are read as no image; want of memory has no cause
abbrev pub IsNotRead : List ℕ → LoadError → Type 0
IsNotRead bytes (errors.BadImage code offset) = IsBadImage bytes code offset
IsNotRead bytes (errors.Refused item) = ⊥
IsNotRead bytes (errors.Memory e) = Unit {0}

-- Bytes spell an image, and of the items this is the first that does nothing on it, counted from 1.
pub record IsWrongItem (bytes : List ℕ) (items : List Item) (item : ℕ) : Type 0 where
  pub image : Fields
  pub spells : Spells bytes image
  pub first : IsImageFirstWrong image items item

-- why bytes and items give nothing to run
abbrev pub IsNotLoaded : List ℕ → List Item → LoadError → Type 0
IsNotLoaded bytes items (errors.BadImage code offset) = IsBadImage bytes code offset
IsNotLoaded bytes items (errors.Refused item) = IsWrongItem bytes items item
IsNotLoaded bytes items (errors.Memory e) = Unit {0}

-- The bytes spell this image, and the items are these actions on it.
pub record IsLoaded (bytes : List ℕ) (items : List Item) (loaded : Loaded) : Type 0 where
  pub image : Spells bytes loaded.image
  pub actions : IsImageActions loaded.image items loaded.actions.items

-- there was no memory
abbrev pub IsMemory : LoadError → Type 0
IsMemory (errors.BadImage code offset) = ⊥
IsMemory (errors.Refused item) = ⊥
IsMemory (errors.Memory e) = Unit {0}
