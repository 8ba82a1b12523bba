use Rattle.std.proofs.Common.{◌≡◌, ◌++◌, ◌∷◌, [], ◌∙◌, ap, sym, length}
use Rattle.std.proofs.lemmas.List.{length-map}
use Rattle.mv_types.specs.Contents.{switch_of, switches_from}
use Rattle.mv_types.specs.declared.contents.Object.{Object}
use Rattle.mv_types.proofs.Ends.{globals_more, switches_more}
use Rattle.mv_types.proofs.program.globals_of.Goals as goal

pub loop-object-preserved : goal.loop-object-preserved
loop-object-preserved c =
    let os = c.loop-object.yielded in
    let o = c.in-Some.object in
    let inv = c.loop-object.invariant in
    let number : c.len.result ≡ length os = c.len.ensures ∙ (ap length inv.globals ∙ length-map os (λ (p : Object). p.global)) in
    record {
      globals = c.in_ok-push.ensures.ok ∙ (ap (λ l. l ++ o.global ∷ []) inv.globals ∙ sym (globals_more os o));
      switches =
          c.in_ok-add_switch.ensures ∙
          (ap (λ l. l ++ switch_of c.len.result o.domain) inv.switches ∙ (ap (λ n. switches_from 0 os ++ switch_of n o.domain) number ∙ sym (switches_more os o)));
    }
