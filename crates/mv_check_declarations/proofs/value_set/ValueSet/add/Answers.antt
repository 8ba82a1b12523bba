use Rattle.std.proofs.Common.{◌≡◌, sym, true≢false, false, Result, Ok, Err, OnOk}
use Rattle.std.specs.Result.{is_err}
use Rattle.mv_check_declarations.proofs.ValueSets.{pushed}
use Rattle.mv_check_declarations.proofs.value_set.ValueSet.add.Goals as goal

of_ok : {T E P : Type 0} (r : Result T E) → OnOk r P → false ≡ is_err r → P
of_ok (Ok value) given e = given
of_ok (Err error) given e = absurd (true≢false (sym e))

pub invariant_of-self-else-is_err : goal.invariant_of-self-else-is_err
invariant_of-self-else-is_err c =
    let s = c.self.inside in
    let updated = of_ok c.insert.result c.insert.ensures.updates c.if-is_err.ensures.value in
    pushed s.present.keys c.insert.new.self.keys s.values.items c.push.new.self.items c.args.value c.self.invariant c.in_ok-push.ensures.items updated.0
