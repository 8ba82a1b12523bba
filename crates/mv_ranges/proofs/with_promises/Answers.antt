use Rattle.std.proofs.Common.{[], subst, sym}
use Rattle.mv_ranges.specs.Following.{AreMarked}
use Rattle.mv_ranges.specs.Marked.{IsMarkedBody}
use Rattle.mv_ranges.proofs.Codes.{marked_body}
use Rattle.mv_ranges.proofs.with_promises.Goals as goal

pub returns-in-Ok : goal.returns-in-Ok
returns-in-Ok c =
    subst (IsMarkedBody c.args.body) (sym c.with_code.ensures) (marked_body c.args.body c.in-Ok.code c.in-Ok.field-0-1
    (subst (λ fs. AreMarked c.args.body.temps [] fs c.args.body.code c.in-Ok.code c.in-Ok.field-0-1) c.new.ensures
    (subst (λ a. AreMarked c.args.body.temps a c.new.result c.args.body.code c.in-Ok.code c.in-Ok.field-0-1) c.new-around.ensures c.in-Ok.ensures.marked)))
