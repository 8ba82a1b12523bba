use Rattle.std.proofs.Common.{◌∙◌, ◌<◌, length, ap, sym, subst, IfSome}
use Rattle.mv_check_outline.specs.Names.{place_of}
use Rattle.mv_check_outline.proofs.Places.{place_within}
use Rattle.mv_check_outline.proofs.names.Names.number_of.Goals as goal

pub returns-clause-within : goal.returns-clause-within
returns-clause-within c =
    let name = c.args.name.now in
    subst (λ o. IfSome o (λ n. n < length c.args.self.now))
    (sym (c.copied.ensures ∙ (c.get.ensures.value ∙ (c.self.invariant name ∙ ap (place_of name) c.self.view_is))))
    (place_within name c.args.self.now)
