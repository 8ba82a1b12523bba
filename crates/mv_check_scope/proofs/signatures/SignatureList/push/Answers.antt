use Rattle.std.proofs.Common.{◌≡◌, ◌∙◌, ap, sym, true≢false, false, Result, Ok, Err, OnOk, length, arith}
use Rattle.std.specs.Result.{is_err}
use Rattle.mv_check_scope.specs.Signatures.{place_spelled}
use Rattle.mv_check_scope.proofs.Entries.{written}
use Rattle.mv_check_scope.proofs.SignatureLists.{pushed}
use Rattle.mv_check_scope.proofs.signatures.SignatureList.push.Goals as goal

of_ok : {T E P : Type 0} (r : Result T E) → OnOk r P → false ≡ is_err r → P
of_ok (Ok value) given e = given
of_ok (Err error) given e = absurd (true≢false (sym e))

pub invariant_of-self-else-is_err : goal.invariant_of-self-else-is_err
invariant_of-self-else-is_err c =
    let l = c.self.inside in
    let es = l.places.entries in
    let fs = c.insert.new.self.entries in
    let words = c.in_ok-key.key.items in
    let is_words = c.in_ok-key.ensures.ok in
    let place : c.len-place.result ≡ length l.signatures.items = omega (arith, c.len-place.ensures, l.signatures.ok) in
    let updated = of_ok c.insert.result c.insert.ensures.updates c.if-is_err.ensures.value in
    pushed es fs words c.len-place.result c.args.s l.signatures.items c.push.new.self.items c.self.invariant c.in_ok-push.ensures.items (is_words ∙ c.requires.spelt) place
    (ap (λ w. place_spelled w l.signatures.items) is_words ∙ (ap (place_spelled c.args.words.items) c.self.view_is ∙ c.requires.new))
    (written es fs words c.len-place.result updated.1 updated.3)
