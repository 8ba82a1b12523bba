use Rattle.std.proofs.Common.{◌≡◌, ◌∙◌, ◌-◌, ◌++◌, ap, arith, length, replicate}
use Rattle.mv_ast.specs.Counts.{words_of_size}
use Rattle.mv_interpret.proofs.objects.first_words.Goals as goal

pub returns : goal.returns
returns c =
    let g = c.args.global.now in
    let e : c.loop.counter - length g.first ≡ words_of_size g.size - length g.first = omega (arith, c.words_of_size-size.ensures) in
    c.loop.invariant.words ∙ ap (λ n. g.first ++ replicate n 0) e
