use Rattle.std.proofs.Common.{◌<◌, length}
use Rattle.mv_regalloc.proofs.SharedSets.{all_popped}
use Rattle.mv_regalloc.proofs.liveness.Liveness.leave.Goals as goal

pub invariant_of-self : goal.invariant_of-self
invariant_of-self c =
    let s = c.self.inside in
    let levels = s.numbers.levels.items in
    let h = c.self.invariant in
    record {
      live = h.live;
      rows = h.rows;
      saved = h.saved;
      behind = all_popped (λ l. l.behind < length s.parts) levels c.pop.new.self.items c.pop.result c.pop.ensures.items h.behind;
      start = all_popped (λ l. l.start < length s.parts) levels c.pop.new.self.items c.pop.result c.pop.ensures.items h.start;
    }
