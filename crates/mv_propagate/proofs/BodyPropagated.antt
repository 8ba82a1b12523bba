-- A body with the code that propagation gives.
use Rattle.std.proofs.Common.{◌≡◌, ℕ, List, [], refl, sym, subst}
use Rattle.mv_ir.specs.declared.stm.Stm.{Stm}
use Rattle.mv_ir.specs.declared.body.Body.{Body}
use Rattle.mv_ir.specs.declared.body.Room.{Room}
use Rattle.mv_propagate.specs.declared.facts.Fact.{Fact}
use Rattle.mv_propagate.specs.Propagating.{Propagated}
use Rattle.mv_propagate.specs.Propagated.{IsPropagated}
use Rattle.mv_propagate.proofs.Structure.{none_low}
use Rattle.mv_propagate.proofs.Counts.{propagated_no_greater}
use Rattle.mv_propagate.proofs.Formed.{propagated_well_formed}
use Rattle.mv_propagate.proofs.Kept.{propagated_keeps}
use Rattle.mv_propagate.proofs.Thinning.{propagated_whole, propagated_have_temps}

-- the laws put together
propagated_is_so : (b : Body) (code : List Stm) (last : List Fact) → Propagated b.temps [] b.code code last → IsPropagated b (record b { code = code })
propagated_is_so b code last h = record {
  means = propagated_keeps b code last h;
  last = last;
  code = h;
  smaller = propagated_no_greater b.temps [] b.code code last (none_low b.temps) h;
  whole = propagated_whole b code last h;
  has_temps = propagated_have_temps b code last h;
  well_formed = propagated_well_formed b code last h;
  params = refl;
  temps = refl;
  sizes = refl;
  rooms = refl;
  marked = refl;
  switches = refl;
}

pub body_is_propagated : (b : Body) (none : List Fact) (arrays : List ℕ) (code : List Stm) (last : List Fact) (rooms : List Room) (marked switches : List ℕ) → none ≡ [] →
    Propagated b.temps none b.code code last → arrays ≡ b.arrays → rooms ≡ b.rooms → marked ≡ b.marked → switches ≡ b.switches →
    IsPropagated b (record { params = b.params; temps = b.temps; arrays = arrays; code = code; rooms = rooms; marked = marked; switches = switches })
body_is_propagated b none arrays code last rooms marked switches en h ea er em es =
    let same : record b { code = code } ≡ record { params = b.params; temps = b.temps; arrays = arrays; code = code; rooms = rooms; marked = marked; switches = switches } =
    λ i. record { params = b.params; temps = b.temps; arrays = sym ea i; code = code; rooms = sym er i; marked = sym em i; switches = sym es i }
    in
    subst (IsPropagated b) same (propagated_is_so b code last (subst (λ fs. Propagated b.temps fs b.code code last) en h))
