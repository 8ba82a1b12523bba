use Rattle.std.proofs.Common.{arith, ◌∙◌}
use Rattle.std.proofs.lemmas.List.{length-set}
use Rattle.mv_image.specs.Patched.{kind_of}
use Rattle.mv_patch.proofs.Switches.{map_more}
use Rattle.mv_patch.proofs.groups.kinds_of.Goals as goal

pub loop-i-preserved : goal.loop-i-preserved
loop-i-preserved c =
    let l = c.loop-i in
    let whole = c.has_width.ensures in
    let count = l.invariant.count in
    record {
      count = length-set l.kinds l.i c.kind_of.result ∙ count;
      done = map_more (kind_of c.args.image.now) c.args.row.now.switches l.kinds l.i c.kind_of.result
          (omega (arith, c.loop-i-test.true, c.requires, whole)) (omega (arith, c.loop-i-test.true, c.requires, count)) c.kind_of.ensures l.invariant.done;
    }
