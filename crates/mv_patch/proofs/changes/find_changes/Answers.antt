use Rattle.std.proofs.Common.{◌+◌, ◌*◌, ◌<◌, List, ◌++◌, length, vec_capacity, append-nil, sym, ap, ◌∙◌, arith}
use Rattle.mv_patch.specs.declared.prepared.Pair.{Pair}
use Rattle.mv_patch.specs.Orders.{values_of}
use Rattle.mv_patch.specs.Tables.{patchable}
use Rattle.mv_patch.proofs.Next.{none_left}
use Rattle.mv_patch.proofs.TablePairs.{tables_tell}
use Rattle.mv_patch.proofs.changes.find_changes.Goals as goal

pub push_next-passed-requires-clause-more : goal.push_next-passed-requires-clause-more
unfolding patchable
push_next-passed-requires-clause-more c =
    let m = c.len.ensures ∙ ap length c.functions.ensures in
    let n = c.len-2.ensures ∙ ap length c.sites.ensures in
    let q = c.len-3.ensures ∙ ap length c.points.ensures in
    let goes : c.loop-place.passed.entries + c.loop-place.passed.sites + c.loop-place.passed.points < length c.args.image.now.functions + 2 * length c.args.image.now.sites + 4 * length c.args.image.now.points =
    omega (arith, c.loop-place.invariant.count, m, n, q, c.loop-place-test.true) in
    goes

pub push_next-passed-requires-clause-room : goal.push_next-passed-requires-clause-room
unfolding patchable
push_next-passed-requires-clause-room c =
    let l = c.loop-place in
    let m = c.len.ensures ∙ ap length c.functions.ensures in
    let n = c.len-2.ensures ∙ ap length c.sites.ensures in
    let q = c.len-3.ensures ∙ ap length c.points.ensures in
    let few = l.invariant.few in
    let room = l.invariant.room in
    let all = c.requires.room in
    let goes : length l.pairs.items < vec_capacity l.pairs = omega (arith, few, room, m, n, q, c.loop-place-test.true, all) in
    goes

pub returns-clause-items : goal.returns-clause-items
returns-clause-items c r =
    let l = c.loop-place in
    let image = c.args.image.now in
    let some = values_of c.args.before.bound.now in
    let other = values_of c.args.after.bound.now in
    let m = c.len.ensures ∙ ap length c.functions.ensures in
    let n = c.len-2.ensures ∙ ap length c.sites.ensures in
    let q = c.len-3.ensures ∙ ap length c.points.ensures in
    let entries = l.invariant.passed.entries in
    let sites = l.invariant.passed.sites in
    let points = l.invariant.passed.points in
    let count = l.invariant.count in
    let none = none_left image some other l.pairs.items l.pairs.items l.passed
    (omega (arith, entries, sites, points, count, m, n, q, c.loop-place-test.false))
    (omega (arith, entries, sites, points, count, m, n, q, c.loop-place-test.false))
    (omega (arith, entries, sites, points, count, m, n, q, c.loop-place-test.false)) in
    sym (append-nil l.pairs.items) ∙ ap (λ (ps : List Pair). l.pairs.items ++ ps) (sym none) ∙ l.invariant.found r ∙ tables_tell image r some other
