use Rattle.std.proofs.Common.{ℕ, ◌≡◌, List, Option, Some, map, inl, refl, ap, ◌∙◌, subst}
use Rattle.std.specs.String.{string_bytes}
use denote.Param.Object.{read_made}
use Rattle.mv_command.proofs.Same.{same_picks}
use Rattle.mv_probe.specs.Ways.{Way}
use Rattle.mv_probe.proofs.Logs.{told_nothing}
use Rattle.mv_bindings.specs.declared.binding.Event.{Event}
use Rattle.mv_notes.specs.declared.status.Status.{Status}
use Rattle.mv_refine.specs.Environment.{Reading, Writing, environment}
use Rattle.mv_top.specs.Named.{way_named}
use Rattle.mv_top.specs.Outcomes.{IsCarriedOut}
use Rattle.mv_top.specs.Outside.{Outside, Shelved, outside}
use Rattle.mv_top.specs.Picking.{way_of}
use Rattle.mv_top.proofs.ByWords.{unread_by_words}
use Rattle.mv_top.proofs.picking.multiverse_by_words.OwnLists.{own-2}
use Rattle.mv_top.proofs.picking.multiverse_by_words.Goals as goal

pub returns-in_default-clause-carried_out : goal.returns-in_default-clause-carried_out
returns-in_default-clause-carried_out g c =
    unread_by_words c.counted_programs_pass_no_limit.ensures.none _ _ _ _ _ (map string_bytes c.args.words.now) (told_nothing _ _ c.args.probes.now.items c.requires)

pub returns-in_default-new-clause-carried_out : goal.returns-in_default-new-clause-carried_out
returns-in_default-new-clause-carried_out g c =
    unread_by_words c.counted_programs_pass_no_limit.ensures.none _ _ _ _ _ (map string_bytes c.args.words.now) (told_nothing _ _ c.args.probes.now.items c.requires)

with_way : (shelf : Shelved) (input : Reading) (output : Writing) (way told : Option Way) (after : Outside) (Heard : List Event → Type 0) (words : List (List ℕ)) (was now : Writing) (status : Status) →
    IsCarriedOut (outside shelf (environment input output way)) after Heard words was now status → way ≡ told →
    IsCarriedOut (outside shelf (environment input output told)) after Heard words was now status
with_way shelf input output way told after Heard words was now status h e =
    subst (λ (w : Option Way). IsCarriedOut (outside shelf (environment input output w)) after Heard words was now status) e h

-- the box that is lent has the way of the oracle that was put into it
pub returns-clause-carried_out : goal.returns-clause-carried_out
returns-clause-carried_out g c oracle picks =
    let box = c.into_dyn_box-boxed.result in (
      _,
      with_way _ _ _ _ (Some (way_of oracle)) _ _ _ _ _ _ c.multiverse.ensures.carried_out
          (read_made own-2 _ (inl tt) refl (Option Way) (λ j y. j.1.way y) box.vtable box.value c.in-Ok-new.boxed.value c.into_dyn_box-boxed.ensures.1
          ∙ (ap way_named c.in-Ok-new.ensures.ok ∙ (c.oracle_named.ensures ∙ ap (λ o. Some (way_of o)) (same_picks c.in-Ok.ensures picks)))),
    )
