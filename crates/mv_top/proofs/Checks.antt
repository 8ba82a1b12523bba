-- From a check behind the load of its text to the whole.
use Rattle.std.proofs.Common.{ℕ, ◌≡◌, ◌≤◌, ◌⊎◌, inl, inr, List, ◌∷◌, Option, Some, None, refl, ap, ◌∙◌, subst}
use Rattle.std.specs.Prelude.{Vec, Ok, option_map}
use Rattle.std.specs.declared.alloc.Global.{Global}
use Rattle.mv_io.specs.Shelves.{AsksFor, Files, Loads}
use Rattle.mv_io.proofs.Common.{rose_later}
use Rattle.mv_refine.specs.Environment.{Environment}
use Rattle.mv_notes.specs.declared.status.Status.{Status}
use Rattle.mv_top.specs.Building.{IsBuiltAs}
use Rattle.mv_top.specs.Checking as checking
use Rattle.mv_top.specs.Checking.{AsksToCheck, CheckDoes}
use Rattle.mv_top.specs.Outside.{Outside, OfFile, outside, shelved, no_file, unloaded, loaded}
use Rattle.mv_top.proofs.Loading.{holds_loaded}

-- ---- what comes of it

module _ (files : Option Files) (asked : Option (List (List ℕ))) (faults : ℕ) (e : Environment) where
  -- a file is loaded where the count of faults has risen before
  file_behind : (after : Outside) (asked' : Option (List (List ℕ))) (faults' : ℕ) (Idle : Type 0) (file : List ℕ) (DoesWith : List ℕ → Status → Type 0) {status : Status} → faults ≤ faults' →
      OfFile (outside (shelved files asked' faults') e) after Idle file DoesWith status → OfFile (outside (shelved files asked faults) e) after Idle file DoesWith status
  file_behind after asked' faults' Idle file DoesWith later (no_file (inl rose) idle) = no_file (inl (rose_later faults faults' after.shelf.faults later rose)) idle
  file_behind after asked' faults' Idle file DoesWith later (no_file (inr lacks) idle) = no_file (inr lacks) idle
  file_behind after asked' faults' Idle file DoesWith later (unloaded idle) = unloaded idle
  file_behind after asked' faults' Idle file DoesWith later (loaded bytes status holds does) = loaded bytes status holds does

  module _ (image text : List ℕ) where
    later_faults : (after : Outside) (asked' : Option (List (List ℕ))) (faults' : ℕ) {status : Status} → faults ≤ faults' →
        CheckDoes (outside (shelved files asked' faults') e) after image text status → CheckDoes (outside (shelved files asked faults) e) after image text status
    later_faults after asked' faults' later (checking.unbuilt s why) = checking.unbuilt s why
    later_faults after asked' faults' later (checking.built due s is does) = checking.built due s is (file_behind after asked' faults' _ image _ later does)

    pub checked_behind : (files' after : Option Files) (asked' asked'' : Option (List (List ℕ))) (faults' faults'' : ℕ) (status : Status) → files' ≡ files → faults ≤ faults' →
        CheckDoes (outside (shelved files' asked' faults') e) (outside (shelved after asked'' faults'') e) image text status →
        CheckDoes (outside (shelved files asked faults) e) (outside (shelved after asked'' faults'') e) image text status
    checked_behind files' after asked' asked'' faults' faults'' status same later does =
        later_faults (outside (shelved after asked'' faults'') e) asked' faults' later
        (subst (λ (f : Option Files). CheckDoes (outside (shelved f asked' faults') e) (outside (shelved after asked'' faults'') e) image text status) same does)

-- ---- which files are asked for

asked_twice : (names : Option (List (List ℕ))) (file image : List ℕ) → option_map (λ l. image ∷ l) (option_map (λ l. file ∷ l) names) ≡ option_map (λ l. image ∷ file ∷ l) names
asked_twice None file image = refl
asked_twice (Some names) file image = refl

module _ (before after : Outside) (file image : List ℕ) where
  pub asked_behind : (bytes : Vec ℕ Global) (text : List ℕ) → text ≡ bytes.items → Loads before.shelf.files file (Ok bytes) → (mid : Option (List (List ℕ))) →
      AsksFor before.shelf.asked mid file → (after.shelf.asked ≡ mid) ⊎ ((due : List ℕ) × IsBuiltAs text due × AsksFor mid after.shelf.asked image) → AsksToCheck before after file image
  asked_behind bytes text is loads mid first (inl same) = checking.text_alone (same ∙ first)
  asked_behind bytes text is loads mid first (inr (due, built, second)) =
      checking.both bytes.items due (holds_loaded before.shelf.files file bytes loads) (subst (λ (t : List ℕ). IsBuiltAs t due) is built)
      (second ∙ (ap (λ (names : Option (List (List ℕ))). option_map (λ l. image ∷ l) names) first ∙ asked_twice before.shelf.asked file image))
