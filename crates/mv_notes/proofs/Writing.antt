-- What became of the notes.
use Rattle.std.proofs.Common.{ℕ, ◌≡◌, List, Option, subst}
use Rattle.mv_eval.specs.Grown.{Grew, GrewLess}
use Rattle.mv_io.specs.Outside.{Rose}
use Rattle.mv_notes.specs.Lines.{owed, Noted, written, cut}
use Rattle.mv_notes.specs.declared.status.Status.{Status}
use Rattle.mv_notes.specs.declared.status.Status.TheVariants.{OutputFault}

module _ (lines : List ℕ) (due : Status) (was is : Option (List ℕ)) (faults faults' : ℕ) (text : List ℕ) (same : text ≡ owed lines due) where
  pub all_written : Grew was is text → faults' ≡ faults → Noted lines due was is faults faults' due
  all_written grew kept = written (subst (λ (t : List ℕ). Grew was is t) same grew) kept

  pub part_written : GrewLess was is text → Rose faults faults' → Noted lines due was is faults faults' OutputFault
  part_written less rose = cut (subst (λ (t : List ℕ). GrewLess was is t) same less) rose
