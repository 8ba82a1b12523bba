-- From a load and a save to what comes of what is made.
use Rattle.std.proofs.Common.{ℕ, ◌≡◌, ◌≤◌, List, sym, subst, Option}
use Rattle.std.specs.Prelude.{Result, IsErrOf, ⊤}
use Rattle.mv_io.specs.Shelves.{Files, Saves}
use Rattle.mv_io.specs.declared.outside.ShelfError.{ShelfError}
use Rattle.mv_io.specs.declared.outside.ShelfError.TheVariants as shelf
use Rattle.mv_io.proofs.Common.{rose_later}
use Rattle.mv_refine.specs.Environment.{Environment}
use Rattle.mv_notes.specs.declared.status.Status.{Status}
use Rattle.mv_top.specs.Outside.{Outside, ShelfFailed, outside, shelved}
use Rattle.mv_top.specs.Saving as saving
use Rattle.mv_top.specs.Saving.{SaveDoes, status_of_save}

module _ (files : Option Files) (asked : Option (List (List ℕ))) (faults : ℕ) (e : Environment) (name : List ℕ) (Made : List ℕ → Type 0) (Unmade : Status → Type 0) where
  later_faults : (after : Option Files) (asked' asked'' : Option (List (List ℕ))) (faults' faults'' : ℕ) (status : Status) → faults ≤ faults' →
      SaveDoes (outside (shelved files asked' faults') e) (outside (shelved after asked'' faults'') e) name Made Unmade status →
      SaveDoes (outside (shelved files asked faults) e) (outside (shelved after asked'' faults'') e) name Made Unmade status
  later_faults after asked' asked'' faults' faults'' status later (saving.unmade s why keeps) = saving.unmade s why keeps
  later_faults after asked' asked'' faults' faults'' status later (saving.made bytes result made saves failed) =
      saving.made bytes result made saves (λ f. rose_later faults faults' faults'' later (failed f))

  pub behind_load : (files' after : Option Files) (asked' asked'' : Option (List (List ℕ))) (faults' faults'' : ℕ) (status : Status) → files' ≡ files → faults ≤ faults' →
      SaveDoes (outside (shelved files' asked' faults') e) (outside (shelved after asked'' faults'') e) name Made Unmade status →
      SaveDoes (outside (shelved files asked faults) e) (outside (shelved after asked'' faults'') e) name Made Unmade status
  behind_load files' after asked' asked'' faults' faults'' status same later does =
      later_faults after asked' asked'' faults' faults'' status later
      (subst (λ (f : Option Files). SaveDoes (outside (shelved f asked' faults') e) (outside (shelved after asked'' faults'') e) name Made Unmade status) same does)

module _ (before after : Outside) (name : List ℕ) (Made : List ℕ → Type 0) (Unmade : Status → Type 0) where
  pub saved : (status : Status) (bytes : List ℕ) (result : Result ⊤ ShelfError) → status ≡ status_of_save result → Made bytes →
      Saves before.shelf.files after.shelf.files name bytes result → (IsErrOf result shelf.Failed → ShelfFailed before after) → SaveDoes before after name Made Unmade status
  saved status bytes result same made saves failed =
      subst (λ (s : Status). SaveDoes before after name Made Unmade s) (sym same) (saving.made bytes result made saves failed)
