use Rattle.std.proofs.Common.{◌≡◌, ◌+◌, List, [], ◌∷◌, ◌++◌, map, take, get_or, sym, ◌∙◌, ap, append_assoc}
use Rattle.std.proofs.lemmas.List.{take_more, map-append}
use Rattle.mv_bindings.specs.declared.binding.Binding.{Binding}
use Rattle.mv_bindings.specs.Bindings.{free}
use Rattle.mv_interpret.proofs.commits.add_free.Goals as goal

pub loop-global-preserved : goal.loop-global-preserved
loop-global-preserved c =
    let i = c.loop-global._global-index in
    let gs = c.args.globals.now in
    let before = c.args.bindings.now in
    let one : take (i + 1) gs ≡ take i gs ++ get_or gs i 0 ∷ [] = take_more gs i 0 c.loop-global-test.true in
    let more = ap (map (λ g. free)) one ∙ map-append (λ g. free) (take i gs) (get_or gs i 0 ∷ []) in
    c.in_ok-push.ensures.ok ∙
    (ap (λ (b : Binding). c.loop-global.bindings ++ b ∷ []) c.free.ensures ∙
    (ap (λ (bs : List Binding). bs ++ free ∷ []) c.loop-global.invariant ∙
    (append_assoc before (map (λ g. free) (take i gs)) (free ∷ []) ∙ ap (λ (bs : List Binding). before ++ bs) (sym more))))
