use Rattle.std.proofs.Common.{◌≡◌, ◌≤◌, ◌⊎◌, ◌+◌, ℕ, drop, sym, ap, ◌∙◌, arith, inl, inr, min}
use Rattle.std.proofs.lemmas.Bool.{cases_lt}
use Rattle.mv_descriptors.specs.Guards.{holds, fitting}
use Rattle.mv_descriptors.proofs.FirstFit.{fits_here, fits_later, fits_none}
use Rattle.mv_descriptors.proofs.guards.fitting.Goals as goal

-- where the rows of a variant end
ends : (end n total : ℕ) → end ≡ min total n → ((end ≡ n) × (n ≤ total)) ⊎ ((end ≡ total) × (total ≤ n))
ends end n total e =
    elim (cases_lt n total) [
      | inl lt ↦ inl (omega arith, omega arith)
      | inr le ↦ inr (omega arith, omega arith)
    ]

pub returns-then-one_holds : goal.returns-then-one_holds
returns-then-one_holds c =
    sym (c.loop-i.invariant.left ∙ fits_here (holds c.args.kinds.now c.args.values.now) _ _ _ _ _ _ _ c.loop-i-test.true c.loop-i.invariant.within (ends _ _ _ c.min-end.ensures) (sym c.one_holds.ensures ∙ c.if-one_holds.true))

pub loop-i-preserved : goal.loop-i-preserved
loop-i-preserved c =
    let next : c.args.first + c.loop-i.i + 1 ≡ c.args.first + (c.loop-i.i + 1) = omega arith in
    record {
      within = omega (arith, c.min-end.ensures);
      left = c.loop-i.invariant.left
          ∙ fits_later (holds c.args.kinds.now c.args.values.now) _ _ _ _ _ _ _ c.loop-i-test.true c.loop-i.invariant.within (ends _ _ _ c.min-end.ensures)
          (sym c.one_holds.ensures ∙ c.if-one_holds.false)
          ∙ ap (λ (n : ℕ). fitting (holds c.args.kinds.now c.args.values.now) n (drop (c.loop-i.i + 1) c.args.variants.now)
          (drop c.min-end.result c.args.rows.now)) next;
    }

pub returns : goal.returns
returns c = sym (c.loop-i.invariant.left ∙ fits_none (holds c.args.kinds.now c.args.values.now) _ _ _ _ c.loop-i-test.false)
