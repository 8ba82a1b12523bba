-- What comes of a file that the shelf tells, or tells that it lacks.
use Rattle.std.proofs.Common.{ℕ, ◌≡◌, ◌⊎◌, inl, inr, List, refl, sym, ap, ◌∙◌, subst, Option, Some, None}
use Rattle.mv_io.specs.Shelves.{Files, Lacks}
use Rattle.mv_notes.specs.declared.status.Status.{Status}
use Rattle.mv_notes.specs.declared.status.Status.TheVariants.{Memory, ShelfFault}
use Rattle.mv_top.specs.Decisions.{Is}
use Rattle.mv_top.specs.Outside as outsides
use Rattle.mv_top.specs.Outside.{Outside, Holds, OfFile, ShelfFailed, Tells}

some_injective : (a b : List ℕ) → Some a ≡ Some b → a ≡ b
some_injective a b e = cc

same_bytes : (files : Option Files) (file other bytes bytes' : List ℕ) → other ≡ file → Holds files file bytes → Tells files other bytes' → bytes ≡ bytes'
same_bytes None file other bytes bytes' e h t = absurd t
same_bytes (Some files) file other bytes bytes' e h t = some_injective bytes bytes' (sym h ∙ sym (ap files e) ∙ t)

no_bytes : (files : Option Files) (file other bytes : List ℕ) → other ≡ file → Holds files file bytes → Lacks files other → ⊥
no_bytes None file other bytes e h l = l
no_bytes (Some files) file other bytes e h l = let f : Some bytes ≡ None = sym h ∙ sym (ap files e) ∙ l in cc

told_lacks : (files : Option Files) (file other bytes : List ℕ) → other ≡ file → Lacks files file → Tells files other bytes → ⊥
told_lacks None file other bytes e l t = l
told_lacks (Some files) file other bytes e l t = let f : None ≡ Some bytes = sym l ∙ sym (ap files e) ∙ t in cc

module _ (before after : Outside) (no_fault : ShelfFailed before after → ⊥) (Doing : Type 0) (file : List ℕ) (DoesWith : (bytes : List ℕ) → Status → Type 0) where
  pub lacking : {status : Status} → OfFile before after Doing file DoesWith status → (other : List ℕ) → other ≡ file → Lacks before.shelf.files other → Is status ShelfFault
  lacking (outsides.no_file why idle) other e lacks = inl refl
  lacking (outsides.unloaded idle) other e lacks = inr refl
  lacking (outsides.loaded bytes status holds does) other e lacks = absurd (no_bytes before.shelf.files file other bytes e holds lacks)

  no_shelf_fault : (other bytes : List ℕ) → other ≡ file → ShelfFailed before after ⊎ Lacks before.shelf.files file → Tells before.shelf.files other bytes → ⊥
  no_shelf_fault other bytes e (inl rose) tells = no_fault rose
  no_shelf_fault other bytes e (inr lacks) tells = told_lacks before.shelf.files file other bytes e lacks tells

  -- what comes of the bytes that the shelf tells, or there was no memory to load them
  pub given : {status : Status} → OfFile before after Doing file DoesWith status → (other bytes : List ℕ) → other ≡ file → Tells before.shelf.files other bytes →
      DoesWith bytes status ⊎ (status ≡ Memory)
  given (outsides.no_file why idle) other bytes e tells = absurd (no_shelf_fault other bytes e why tells)
  given (outsides.unloaded idle) other bytes e tells = inr refl
  given (outsides.loaded bytes' status holds does) other bytes e tells =
      inl (subst (λ z. DoesWith z status) (same_bytes before.shelf.files file other bytes' bytes e holds tells) does)
