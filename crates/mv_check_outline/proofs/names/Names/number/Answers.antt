use Rattle.std.proofs.Common.{◌∙◌, ap, sym, Some}
use Rattle.mv_check_outline.specs.Names.{place_of}
use Rattle.mv_check_outline.proofs.Places.{stays, is_new, grows, place_last}
use Rattle.mv_check_outline.proofs.names.Names.number.Goals as goal

pub push-requires : goal.push-requires
push-requires c = is_new c.args.name.now c.args.self.now c.in-None.ensures.number

pub returns-in-Some-clause-added : goal.returns-in-Some-clause-added
returns-in-Some-clause-added c = stays c.args.name.now c.args.self.now c.in-Some.number c.in-Some.ensures.number

pub returns-in_ok-push-in-None-clause-number : goal.returns-in_ok-push-in-None-clause-number
returns-in_ok-push-in-None-clause-number c =
    let name = c.args.name.now in
    let names = c.args.self.now in
    ap (place_of name) c.in_ok-push-in-None.ensures.added ∙
    (place_last name names (is_new name names c.in-None.ensures.number) ∙ ap (λ n. Some n) (sym c.len-number.ensures))

pub returns-in_ok-push-in-None-clause-added : goal.returns-in_ok-push-in-None-clause-added
returns-in_ok-push-in-None-clause-added c =
    c.in_ok-push-in-None.ensures.added ∙ grows c.args.name.now c.args.self.now c.in-None.ensures.number
