-- A body under an assignment is made ready where there is room for it by that.
use Rattle.std.proofs.Common.{arith, ◌≡◌, ℕ, ◌+◌, ◌≤◌, List, length, ◌⊎◌, inl, inr, refl, sym, ap, ◌∙◌, subst}
use Rattle.std.specs.List.{zip}
use Rattle.mv_num.specs.Limits.{slot_limit}
use Rattle.mv_ir.specs.declared.body.Assignment.{Assignment}
use Rattle.mv_ir.specs.declared.body.Body.{Body}
use Rattle.mv_ir.specs.Live.{most_intervals}
use Rattle.mv_ir.specs.Measures.{total}
use Rattle.mv_ir.specs.Shorts.{Shorts}
use Rattle.mv_merge.specs.declared.rows.Bound.{Bound}
use Rattle.mv_variants.specs.Bound.Shorts.{IsReady, same}
use Rattle.mv_variants.specs.Bound.Meant.{IsMadeUnder, IsWorked}
use Rattle.mv_variants.specs.Rows.{IsRowUnder}

-- made of the body, with whatever short bodies another was made ready
abbrev pub IsMadeBeside : List (ℕ × ℕ) → (body ready made : Body) → Type 0
IsMadeBeside ps body ready made = (shorts : Shorts) → IsReady shorts body ready → IsMadeUnder shorts ps body made

pub plain_made : (values : List ℕ) (body ready made : Body) → IsWorked (zip body.switches values) body made → IsMadeBeside (zip body.switches values) body ready made
plain_made values body ready made worked shorts is_ready = record {
  ready = body;
  is_ready = same refl;
  worked = worked;
  room = inl (omega (arith, worked.is_bound.most, worked.is_carried.intervals, worked.is_folded.intervals, worked.is_renamed.temps));
}

-- it has the same switches
pub ready_values : (body ready : Body) (values : List ℕ) → ready.switches ≡ body.switches → length body.switches ≡ length values → length ready.switches ≡ length values
ready_values body ready values is many = ap length is ∙ many

pub ready_made : (most : ℕ) (body ready made : Body) (values : List ℕ) → ready.switches ≡ body.switches → IsWorked (zip ready.switches values) ready made → most ≤ most_intervals body →
    (made.temps ≤ most) ⊎ (made.temps + total made.arrays ≤ slot_limit) → IsMadeBeside (zip body.switches values) body ready made
ready_made most body ready made values is worked within room shorts is_ready = record {
  ready = ready;
  is_ready = is_ready;
  worked = subst (λ switches. IsWorked (zip switches values) ready made) is worked;
  room = by room;
}
  where
    by : (made.temps ≤ most) ⊎ (made.temps + total made.arrays ≤ slot_limit) → (made.temps ≤ most_intervals body) ⊎ (made.temps + total made.arrays ≤ slot_limit)
    by (inl fewer) = inl (omega (arith, fewer, within))
    by (inr few) = inr few

pub row_made : (body ready made : Body) (assignment : Assignment) (row : Bound) → IsMadeBeside (zip body.switches assignment.values) body ready made →
    row ≡ record { assignment = record { values = assignment.values }; body = made } → (shorts : Shorts) → IsReady shorts body ready → IsRowUnder shorts body assignment row
row_made body ready made assignment row beside is shorts is_ready =
    subst (IsRowUnder shorts body assignment) (sym is) (record { values = refl; made = beside shorts is_ready })
