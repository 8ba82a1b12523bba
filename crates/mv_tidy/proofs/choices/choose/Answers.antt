use Rattle.std.proofs.lemmas.Result.{IfOk-weaker}
use Rattle.mv_tidy.proofs.ChoosingWalked.{body_chosen}
use Rattle.mv_tidy.proofs.choices.choose.Goals as goal

pub returns : goal.returns
returns c =
    let new = c.in_ok-liveness in
    let bare = new.ensures in
    IfOk-weaker c.choose_code.result _ _ (λ left h. body_chosen c.args.temps new.liveness c.args.code left bare.live bare.none bare.leaves bare.restarts h)
    c.choose_code.ensures.made
