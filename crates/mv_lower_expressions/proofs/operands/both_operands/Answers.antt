use Rattle.std.proofs.Common.{◌≡◌, subst, refl, ap, ◌∙◌, ◌&&◌, Result, Ok}
use Rattle.std.specs.Result.{IfOk}
use Rattle.mv_lower_spec.specs.Lowered.{Lowered, is_empty, is_low, kept_if}
use Rattle.mv_lower_expressions.specs.Values.{seen, first_of, second_of, AreOperands}
use Rattle.mv_lower_expressions.proofs.operands.both_operands.Goals as goal

-- what `joined` gives, where the operands are those
moved : (turned : _) (o : _) (x y x' y' : Lowered) → x ≡ x' → y ≡ y' → AreOperands turned o x y → AreOperands turned o x' y'
moved turned o x y x' y' e f h = subst (λ (z : Lowered). AreOperands turned o z y') e (subst (λ (z : Lowered). AreOperands turned o x z) f h)

first_is : (a b : Lowered) (n : _) → kept_if (is_empty (second_of b n).code && is_low a.tree) n a ≡ first_of a b n
unfolding first_of second_of
first_is a b n = refl

-- the value that a result has
gives : {T E : Type 0} {r : Result T E} {v : T} (P : T → Type 0) → r ≡ Ok v → IfOk r P → P v
gives P e h = subst (λ r. IfOk r P) e h

pub returns : goal.returns
returns c =
    let a = seen c.args.a in
    let b = seen c.args.b in
    let n = c.args.n in
    let same = ap seen c.in_ok-a.ensures.first in
    let second : seen c.in_ok-a.b ≡ second_of b n = gives (λ v. seen v ≡ second_of b n) c.in_ok-a.ensures.step c.second.ensures in
    let stays =
    c.first_stays-stays.ensures ∙
    (ap (λ (x : Lowered). is_empty x.code && is_low (seen c.in_ok-a.a).tree) second ∙ ap (λ (x : Lowered). is_empty (second_of b n).code && is_low x.tree) same) in
    let kept = gives (λ v. seen v ≡ kept_if c.first_stays-stays.result n (seen c.in_ok-a.a)) c.in_ok-b.ensures.step c.kept_if.ensures in
    let first =
    kept ∙ (ap (λ z. kept_if z n (seen c.in_ok-a.a)) stays ∙ (ap (λ (x : Lowered). kept_if (is_empty (second_of b n).code && is_low a.tree) n x) same ∙ first_is a b n)) in
    moved c.args.turned c.in_ok-joined.field-0 (seen c.in_ok-b.a) (seen c.in_ok-b.b) _ _ first (ap seen c.in_ok-b.ensures.first ∙ second) c.in_ok-joined.ensures
