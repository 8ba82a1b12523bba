use Rattle.std.proofs.Common.{arith, ◌≡◌, ◌∙◌, ◌+◌, ◌<◌, All, length, get_or, false, ap, sym, subst}
use Rattle.std.proofs.lemmas.List.{with_items_is, length-replicate}
use Rattle.mv_fold.specs.Reaching.{read_by}
use Rattle.mv_fold.proofs.Reached.{IsSearched, search_begun, search_on, searched_all, search_below, reached_below, read_fits, visited_same}
use Rattle.mv_fold.proofs.needed.needed.Goals as goal

pub visit-requires-clause-fits : goal.visit-requires-clause-fits
visit-requires-clause-fits c =
    let count = c.count-count.result in
    let rows = c.in_ok-rows.ensures in
    let read : c.deref.result.now ≡ read_by 0 c.args.uses.now = c.deref.ensures.value ∙ ap (λ v. v.items) c.index.ensures ∙ rows.each 0 c.index.result.now (omega (arith, rows.long)) in
    let long : length c.deref_mut.result.now ≡ count = ap length (c.deref_mut.ensures.value ∙ c.in_ok-flags.ensures) ∙ length-replicate count false in
    subst (λ l. All (λ t. t < length c.deref_mut.result.now) l) (sym read) (subst (λ n. All (λ t. t < n) (read_by 0 c.args.uses.now)) (sym long) (read_fits count 0 c.args.uses.now c.count-count.ensures.fits))

pub loop-next-init : goal.loop-next-init
loop-next-init c =
    let count = c.count-count.result in
    let rows = c.in_ok-rows.ensures in
    let uses = c.args.uses.now in
    let flags = c.visit.new.flags in
    let order = c.visit.new.order.items in
    let read : c.deref.result.now ≡ read_by 0 uses = c.deref.ensures.value ∙ ap (λ v. v.items) c.index.ensures ∙ rows.each 0 c.index.result.now (omega (arith, rows.long)) in
    let items = with_items_is c.in_ok-flags.flags flags (c.visit.auto.flags ∙ c.deref_mut.ensures.len) in
    subst (λ l. IsSearched count uses l order 0) (sym items)
    (search_begun count uses flags order (visited_same _ _ _ _ _ _ flags order read (c.deref_mut.ensures.value ∙ c.in_ok-flags.ensures) c.new-order.ensures.items c.in_ok-visit.ensures))

pub index-requires-in-loop-next-2 : goal.index-requires-in-loop-next-2
index-requires-in-loop-next-2 c =
    let lt : c.loop-next.next < length c.loop-next.order.items = omega (arith, c.loop-next-test.true, c.len.ensures, c.loop-next.order.ok) in
    let below = reached_below c.count-count.result c.args.uses.now c.loop-next.flags.items c.loop-next.order.items c.loop-next.next c.index-in-loop-next.result.now c.loop-next.invariant lt in
    omega (arith, below, c.index-in-loop-next.ensures, c.in_ok-rows.ensures.long, c.in_ok-rows.rows.ok)

pub visit-requires-in-loop-next-clause-fits : goal.visit-requires-in-loop-next-clause-fits
visit-requires-in-loop-next-clause-fits c =
    let count = c.count-count.result in
    let rows = c.in_ok-rows.ensures in
    let uses = c.args.uses.now in
    let u = c.index-in-loop-next.result.now in
    let lt : c.loop-next.next < length c.loop-next.order.items = omega (arith, c.loop-next-test.true, c.len.ensures, c.loop-next.order.ok) in
    let below = reached_below count uses c.loop-next.flags.items c.loop-next.order.items c.loop-next.next u c.loop-next.invariant lt in
    let read : c.deref-in-loop-next.result.now ≡ read_by (u + 1) uses = c.deref-in-loop-next.ensures.value ∙
    ap (λ v. v.items) c.index-in-loop-next-2.ensures ∙
    rows.each (u + 1) c.index-in-loop-next-2.result.now (omega (arith, rows.long, below, c.index-in-loop-next.ensures)) in
    let long : length c.deref_mut-in-loop-next.result.now ≡ count = ap length c.deref_mut-in-loop-next.ensures.value ∙ c.loop-next.invariant.long in
    subst (λ l. All (λ t. t < length c.deref_mut-in-loop-next.result.now) l) (sym read) (subst (λ n. All (λ t. t < n) (read_by (u + 1) uses)) (sym long) (read_fits count (u + 1) uses c.count-count.ensures.fits))

pub loop-next-smaller : goal.loop-next-smaller
loop-next-smaller c =
    let most = search_below c.count-count.result c.args.uses.now c.loop-next.flags.items c.loop-next.order.items c.loop-next.next c.loop-next.invariant in
    omega (arith, most, c.loop-next-test.true, c.len.ensures, c.loop-next.order.ok)

pub loop-next-preserved : goal.loop-next-preserved
loop-next-preserved c =
    let count = c.count-count.result in
    let rows = c.in_ok-rows.ensures in
    let uses = c.args.uses.now in
    let u = c.index-in-loop-next.result.now in
    let next = c.loop-next.next in
    let flags = c.visit-in-loop-next.new.flags in
    let order = c.visit-in-loop-next.new.order.items in
    let lt : next < length c.loop-next.order.items = omega (arith, c.loop-next-test.true, c.len.ensures, c.loop-next.order.ok) in
    let below = reached_below count uses c.loop-next.flags.items c.loop-next.order.items next u c.loop-next.invariant lt in
    let read : c.deref-in-loop-next.result.now ≡ read_by (get_or c.loop-next.order.items next u + 1) uses =
    c.deref-in-loop-next.ensures.value ∙ ap (λ v. v.items) c.index-in-loop-next-2.ensures ∙ rows.each (u + 1) c.index-in-loop-next-2.result.now (omega (arith, rows.long, below, c.index-in-loop-next.ensures)) ∙
    ap (λ n. read_by (n + 1) uses) c.index-in-loop-next.ensures
    in
    let items = with_items_is c.loop-next.flags flags (c.visit-in-loop-next.auto.flags ∙ c.deref_mut-in-loop-next.ensures.len) in
    subst (λ l. IsSearched count uses l order (next + 1)) (sym items)
    (search_on count uses c.loop-next.flags.items c.loop-next.order.items next u flags order c.loop-next.invariant lt
    (visited_same _ _ _ _ _ _ flags order read c.deref_mut-in-loop-next.ensures.value (λ i. c.loop-next.order.items) c.in_ok-visit-2.ensures))

pub returns : goal.returns
returns c = searched_all c.count-count.result c.args.uses.now c.loop-next.flags.items c.loop-next.order.items c.loop-next.next c.loop-next.invariant (omega (arith, c.loop-next-test.false, c.len.ensures, c.loop-next.order.ok))
