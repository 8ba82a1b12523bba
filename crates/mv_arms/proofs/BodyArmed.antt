-- What a body with arms that are reached by one jump is, as a whole.
use Rattle.std.proofs.Common.{◌≡◌, ℕ, List, [], refl, sym, subst}
use Rattle.mv_ir.specs.declared.stm.Stm.{Stm}
use Rattle.mv_ir.specs.declared.body.Body.{Body}
use Rattle.mv_arms.specs.Arms.{Arms}
use Rattle.mv_arms.specs.Armed.{IsArmed}
use Rattle.mv_arms.specs.Walking.{with_code}
use Rattle.mv_arms.proofs.Means.{arms_mean}
use Rattle.mv_arms.proofs.Counts.{arms_no_greater}
use Rattle.mv_arms.proofs.Thinning.{arms_whole, arms_have_temps}
use Rattle.mv_arms.proofs.Targets.{arms_well_formed}

-- the lemmas on the relation put together
pub armed_is : (body : Body) (code : List Stm) → Arms body.temps [] body.code code → IsArmed body (with_code body code)
armed_is body code h = record {
  means = arms_mean body code h;
  code = h;
  smaller = arms_no_greater body.temps [] body.code code h;
  whole = arms_whole body code h;
  has_temps = arms_have_temps body code h;
  well_formed = arms_well_formed body code h;
  params = refl;
  temps = refl;
  sizes = refl;
  rooms = refl;
  marked = refl;
  switches = refl;
}

pub made_is : (body made : Body) (levels : List ℕ) (code : List Stm) → levels ≡ [] → Arms body.temps levels body.code code → made ≡ with_code body code → IsArmed body made
made_is body made levels code none h e = subst (IsArmed body) (sym e) (armed_is body code (subst (λ l. Arms body.temps l body.code code) none h))
