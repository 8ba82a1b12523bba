use Rattle.mv_machine.proofs.Storing.{stores}
use Rattle.mv_machine.proofs.plans.store_word.Goals as goal

pub returns : goal.returns
returns c =
    let s = c.store-stored in stores c.args.memory.now s.new.self c.args.address c.args.word s.result c.requires s.ensures.held s.ensures.spare s.ensures.reserve s.ensures.err s.ensures.cause
