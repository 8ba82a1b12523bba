-- What comes of words of which the oracle couldn't be had.
use Rattle.std.proofs.Common.{ℕ, List, [], refl, Some}
use Rattle.mv_bindings.specs.declared.binding.Event.{Event}
use Rattle.mv_gen_accepted.specs.Counted.{CountedPassNone}
use Rattle.mv_notes.specs.Lines.{unmade}
use Rattle.mv_notes.specs.declared.status.Status.TheVariants.{Memory}
use Rattle.mv_refine.specs.Environment.{Reading, Writing, environment}
use Rattle.mv_top.specs.Outcomes.{IsCarriedOut, unread}
use Rattle.mv_top.specs.Outside.{Shelved, outside}
use Rattle.mv_top.specs.Picking.{ByWords, way_of}
use Rattle.mv_top.proofs.Decisions.{carried_out}

pub unread_by_words : CountedPassNone → (shelf : Shelved) (input : Reading) (output was : Writing) (Heard : List Event → Type 0) (words : List (List ℕ)) → Heard [] →
    ByWords words (λ way later. IsCarriedOut (outside shelf (environment input output way)) (outside shelf (environment input output later)) Heard words was was Memory)
unread_by_words counted shelf input output was Heard words unheard oracle picks = (
  Some (way_of oracle),
  carried_out (outside shelf (environment input output (Some (way_of oracle)))) (outside shelf (environment input output (Some (way_of oracle)))) Heard words was was counted
      (record { lines = []; status = Memory; comes = unread refl unheard }) Memory (unmade refl refl),
)
