-- The arrays of a layout lie within the greatest frame.
use Rattle.std.proofs.Common.{ℕ, ◌+◌, ◌*◌, ◌≤◌, List, length, All, ⊎_elim, sym, subst, arith}
use Rattle.std.proofs.lemmas.Bool.{cases_lt}
use Rattle.std.proofs.lemmas.List.{get_or_past}
use Rattle.mv_select_code.specs.declared.control.layout.Space.{Space}
use Rattle.mv_select_code.specs.declared.control.layout.Layout.{Layout}
use Rattle.mv_select_code.specs.Control.FlowCode.{CallLines}
use Rattle.mv_select_code.specs.Control.Layouts.{IsInFrame, plan_in, space_in}

space_within : (arrays : List Space) → All IsInFrame arrays → (a : ℕ) → IsInFrame (space_in arrays a)
space_within arrays h a =
    let none : Space = record { at = 0; size = 0 } in
    ⊎_elim (λ lt. h a none lt) (λ le. subst IsInFrame (sym (get_or_past arrays a none le)) (omega arith)) (cases_lt a (length arrays))

-- what `FlowIsEncoded` asks of a plan
pub plan_within : (layout : Layout) (calls : CallLines) → All IsInFrame layout.arrays
    → (let plan = plan_in layout calls in (a : ℕ) → plan.array_at a + 4 * plan.array_size a ≤ 2032)
plan_within layout calls h = space_within layout.arrays h
