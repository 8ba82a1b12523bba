use Rattle.std.proofs.lemmas.Result.{IfOk-weaker}
use Rattle.mv_tidy.proofs.Walked.{body_left}
use Rattle.mv_tidy.proofs.plain_joined.Goals as goal

pub returns : goal.returns
returns c =
    let new = c.in_ok-liveness in
    let bare = new.ensures in
    let plain = c.in_ok-plain in
    IfOk-weaker c.tidy_code.result _ _ (λ joined h. record {
      plain = plain.plain;
      is_plain = plain.ensures;
      is_joined = body_left c.args.temps new.liveness plain.plain joined bare.live bare.none bare.leaves bare.restarts h;
    }) c.tidy_code.ensures.left
