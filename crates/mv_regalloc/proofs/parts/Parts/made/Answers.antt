use Rattle.std.proofs.Common.{◌<◌, ◌∷◌, [], ◌++◌, length, sym, subst}
use Rattle.mv_regalloc.specs.Parts.{AreJoined, Keeps}
use Rattle.mv_regalloc.proofs.PartWords.{joins_kept, push_are, push_keeps}
use Rattle.mv_regalloc.proofs.parts.Parts.made.Goals as goal

pub invariant_of-self-2 : goal.invariant_of-self-2
invariant_of-self-2 c =
    let parts = c.self.inside.parts.items in
    let joins = c.self.inside.joins.items in
    let part = c.args.part in
    let before = c.self.invariant in
    subst (λ l. AreJoined l joins) (sym c.in_ok-push.ensures.items)
    (record {
      are = push_are parts before.are part (subst (λ l. part.odd < length l) (sym c.self.view_is) c.requires.odd) (subst (λ l. part.even < length l) (sym c.self.view_is) c.requires.even);
      made = joins_kept parts (parts ++ part ∷ []) (push_keeps parts before.are part) joins before.made;
    })

pub returns-clause-keeps : goal.returns-clause-keeps
returns-clause-keeps c =
    let parts = c.self.inside.parts.items in
    subst (λ l. Keeps l c.push.new.self.items) c.self.view_is (subst (Keeps parts) (sym c.in_ok-push.ensures.items) (push_keeps parts c.self.invariant.are c.args.part))
