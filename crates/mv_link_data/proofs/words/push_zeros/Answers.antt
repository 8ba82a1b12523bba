use Rattle.std.proofs.Common.{◌≡◌, ◌-◌, ◌++◌, ◌∙◌, ap, replicate, arith}
use Rattle.mv_linker.specs.declared.parts.Datum.TheVariants.{Number}
use Rattle.mv_link_data.proofs.words.push_zeros.Goals as goal

pub returns : goal.returns
returns c =
    let e : c.loop.counter - c.args.given ≡ c.args.size - c.args.given = omega arith in
    c.loop.invariant.words ∙ ap (λ n. c.args.words.now ++ replicate n (Number 0)) e
