use Rattle.std.proofs.lemmas.List.Elements.{All-same, All-replicate}
use Rattle.mv_regalloc.specs.declared.joins.Join.{Join}
use Rattle.mv_regalloc.specs.Parts.{IsJoin, no_join}
use Rattle.mv_regalloc.proofs.PartWords.{none_join}
use Rattle.mv_regalloc.proofs.parts.Parts.widen_joins.Goals as goal

pub invariant_of-self : goal.invariant_of-self
invariant_of-self c =
    let parts = c.self.inside.parts.items in
    let are = c.self.invariant.are in
    let is = λ (j : Join). IsJoin parts j.one j.other j.made in
    record { are = are; made = All-same is c.in_ok-self-inside.field-0.items _ c.in_ok-self-inside.ensures (All-replicate is c.saturating_mul.result no_join (none_join parts are)) }
