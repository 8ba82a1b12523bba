-- From the load of a file to what comes of the command.
use Rattle.std.proofs.Common.{ℕ, ◌≡◌, ◌⊎◌, List, Option, Some, None, refl, sym, subst}
use Rattle.std.specs.Prelude.{Vec, Ok}
use Rattle.std.specs.declared.alloc.Global.{Global}
use Rattle.mv_io.specs.Shelves.{Files, Lacks, Loads}
use Rattle.mv_io.specs.declared.outside.ShelfError.{ShelfError}
use Rattle.mv_io.specs.declared.outside.ShelfError.TheVariants as shelf
use Rattle.mv_notes.specs.declared.status.Status.{Status}
use Rattle.mv_top.specs.Saving.{status_of_shelf}
use Rattle.mv_top.specs.Outside.{Outside, Holds, OfFile, ShelfFailed, no_file, unloaded, loaded}

pub holds_loaded : (told : Option Files) (name : List ℕ) (bytes : Vec ℕ Global) → Loads told name (Ok bytes) → Holds told name bytes.items
holds_loaded None name bytes h = tt
holds_loaded (Some at) name bytes h = h

module _ (before after : Outside) (Idle : Type 0) (file : List ℕ) (DoesWith : (bytes : List ℕ) → Status → Type 0) where
  -- the shelf gave nothing
  not_given : (e : ShelfError) → (e ≡ shelf.Failed → ShelfFailed before after ⊎ Lacks before.shelf.files file) → Idle → OfFile before after Idle file DoesWith (status_of_shelf e)
  not_given shelf.Failed why idle = no_file (why refl) idle
  not_given (shelf.Memory e) why idle = unloaded idle

  pub not_loaded : (status : Status) (e : ShelfError) → status ≡ status_of_shelf e → (e ≡ shelf.Failed → ShelfFailed before after ⊎ Lacks before.shelf.files file) → Idle →
      OfFile before after Idle file DoesWith status
  not_loaded status e same why idle = subst (λ (s : Status). OfFile before after Idle file DoesWith s) (sym same) (not_given e why idle)

  -- the shelf gave a text
  pub given : (status : Status) (bytes : Vec ℕ Global) (text : List ℕ) → text ≡ bytes.items → Loads before.shelf.files file (Ok bytes) → DoesWith text status →
      OfFile before after Idle file DoesWith status
  given status bytes text is loads does =
      loaded bytes.items status (holds_loaded before.shelf.files file bytes loads) (subst (λ z. DoesWith z status) is does)
