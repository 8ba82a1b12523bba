use Rattle.std.proofs.Common.{◌≡◌, ◌∙◌, ap, length, length-append, sym, subst, arith, ◌++◌, ◌∷◌, []}
use Rattle.mv_ir.specs.Shorts.{Shorts}
use Rattle.mv_variants.specs.Bound.Shorts.{AreShortsOf}
use Rattle.mv_parts.proofs.Functions.{lowered_at, none_known, shorts_push}
use Rattle.mv_parts.proofs.generics.shorts_of.Goals as goal

pub own_short-requires-clause-lowered : goal.own_short-requires-clause-lowered
own_short-requires-clause-lowered c =
    let items = c.as_slice-body-items.ensures ∙ c.requires.lowered in
    lowered_at c.args.program.now c.as_slice-body-items.result.now c.loop-number.number c.body-item.result items c.loop-number-test.true c.body-item.is

pub loop-number-init : goal.loop-number-init
loop-number-init c = let none = c.new-shorts.ensures in record { one_each = ap length none; known = none_known c.args.program.now _ none }

pub loop-number-preserved : goal.loop-number-preserved
loop-number-preserved c =
    let p = c.args.program.now in
    let i = c.loop-number.invariant in
    let short = c.in_ok-own_short.field-0 in
    let pushed : c.push.new.self ≡ c.loop-number.shorts ++ short ∷ [] = c.in_ok-push.ensures.ok in
    let known = shorts_push p c.loop-number.shorts i.known c.loop-number.number i.one_each short c.in_ok-own_short.ensures in
    record {
      one_each = omega (arith, simp length-append at (ap length pushed), i.one_each);
      known = subst (λ (xs : Shorts). AreShortsOf p xs) (sym pushed) known;
    }
