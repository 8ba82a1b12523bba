use Rattle.std.proofs.Common.{◌∙◌, refl}
use Rattle.mv_harts.proofs.TextsSame.{pushed}
use Rattle.mv_harts.proofs.text.push_hart.Goals as goal

pub returns : goal.returns
returns c =
    pushed c.args.text.now.items c.extend_from_slice.new.self.items c.extend_from_slice-2.new.self.items c.push.new.self.items c.as_bytes.result.now c.args.bytes.now c.args.number _ c.args.stop
    c.in_ok-extend_from_slice.ensures.items c.in_ok-extend_from_slice-2.ensures.items c.in_ok-push.ensures.items refl (c.as_bytes.ensures.value ∙ c.as_str.ensures.value ∙ c.in_ok-line.ensures)
