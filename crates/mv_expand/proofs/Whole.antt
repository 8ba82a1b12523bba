-- What expanding gives, as a whole.
use Rattle.std.proofs.Common.{◌≡◌, ℕ, ◌+◌, ◌≤◌, ◌^◌, false, List, [], refl, sym, ◌∙◌, ap, subst, arith}
use Rattle.mv_ir.specs.declared.stm.Stm.{Stm}
use Rattle.mv_ir.specs.declared.body.Body.{Body}
use Rattle.mv_ir.specs.Measures.{statements, tree_nodes}
use Rattle.mv_ir.specs.WellFormed.{IsWellFormed}
use Rattle.mv_ir.specs.Shorts.{Shorts}
use Rattle.mv_expand.specs.Straight.{AllShort, short_temps}
use Rattle.mv_expand.specs.Expanding.{Expands}
use Rattle.mv_expand.specs.Expanded.{IsExpanded}
use Rattle.mv_expand.specs.Walking.{with_code}
use Rattle.mv_expand.proofs.Means.{expands_means}
use Rattle.mv_expand.proofs.Counts.{expands_scalars, expands_arrays, expands_deepest, expands_calls}
use Rattle.mv_expand.proofs.Thinning.{expands_whole, expands_has_temps}
use Rattle.mv_expand.proofs.WellFormed.{expands_well_formed}
use Rattle.mv_expand.proofs.Walked.{all_same, nothing_placed}

-- the lemmas on the relation put together
pub expanded_is : (shorts : Shorts) (body : Body) (code : List Stm) → IsWellFormed body → AllShort shorts → Expands shorts body.temps false body.code code →
    statements code + tree_nodes code ≤ 2 ^ 30 → IsExpanded shorts body (with_code body (body.temps + short_temps) code)
expanded_is shorts body code well short h small = record {
  means = expands_means shorts body code well short h;
  code = h;
  scalars = expands_scalars shorts body code short h;
  arrays = expands_arrays shorts body code short h;
  deepest = expands_deepest shorts body code short h;
  calls = expands_calls shorts body code short h;
  whole = expands_whole shorts body code short h;
  has_temps = expands_has_temps shorts body code short h;
  well_formed = expands_well_formed shorts body code short h small;
  params = refl;
  temps = omega arith;
  sizes = refl;
  rooms = refl;
  marked = refl;
  switches = refl;
}

-- a body is what it becomes where nothing is placed
pub stays : (shorts : Shorts) (body : Body) → IsExpanded shorts body body
stays shorts body = record {
  means = λ setting frame contents args bound w known. record { same = refl; cheaper = omega arith };
  code = all_same shorts body.temps false body.code;
  scalars = λ g h. h;
  arrays = λ g h. h;
  deepest = λ h. h;
  calls = omega arith;
  whole = λ h. h;
  has_temps = λ h. h;
  well_formed = λ h. h;
  params = refl;
  temps = omega arith;
  sizes = refl;
  rooms = refl;
  marked = refl;
  switches = refl;
}

pub stays_so : (shorts : Shorts) (base : ℕ) (body made : Body) (code : List Stm) → Expands [] base false body.code code → made ≡ with_code body body.temps code → IsExpanded shorts body made
stays_so shorts base body made code h e =
    subst (IsExpanded shorts body) (sym (e ∙ ap (with_code body body.temps) (nothing_placed base false body.code code h))) (stays shorts body)
