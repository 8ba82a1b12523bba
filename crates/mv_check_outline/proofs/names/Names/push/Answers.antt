use Rattle.std.proofs.Common.{◌≡◌, ◌∙◌, arith, ap, sym, true≢false, false, Result, Ok, Err, OnOk}
use Rattle.std.specs.Result.{is_err}
use Rattle.mv_check_outline.specs.Names.{is_among, names_of}
use Rattle.mv_check_outline.proofs.Places.{pushed}
use Rattle.mv_check_outline.proofs.names.Names.push.Goals as goal

of_ok : {T E P : Type 0} (r : Result T E) → OnOk r P → false ≡ is_err r → P
of_ok (Ok value) given e = given
of_ok (Err error) given e = absurd (true≢false (sym e))

pub invariant_of-self-else-is_err : goal.invariant_of-self-else-is_err
invariant_of-self-else-is_err c =
    let key = c.in_ok-key.key in
    let name = c.in_ok-name.name in
    let ks_len = c.self.inside.names.ok in
    let ks = c.self.inside.names.items in
    let updated = of_ok c.insert.result c.insert.ensures.updates c.if-is_err.ensures.value in
    pushed c.self.inside.places.entries c.insert.new.self.entries key c.len-place.result ks c.push.new.self.items name c.self.invariant
    c.in_ok-push.ensures.items (c.in_ok-key.ensures.items ∙ sym c.in_ok-name.ensures.items) (omega (arith, c.len-place.ensures, ks_len))
    (ap (λ n. is_among n (names_of ks)) c.in_ok-key.ensures.items ∙ (ap (is_among c.args.name.now) c.self.view_is ∙ c.requires))
    updated.1 updated.3
