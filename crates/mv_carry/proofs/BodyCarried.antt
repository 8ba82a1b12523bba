-- A body with the code that carrying gives is carried.
use Rattle.std.proofs.Common.{◌≡◌, ℕ, List, [], refl, sym, subst}
use Rattle.mv_ir.specs.declared.stm.Stm.{Stm}
use Rattle.mv_ir.specs.declared.body.Body.{Body}
use Rattle.mv_ir.specs.declared.body.Room.{Room}
use Rattle.mv_carry.specs.declared.facts.Reach.TheVariants.{Knowing}
use Rattle.mv_carry.specs.Carrying.{outermost, carried_code}
use Rattle.mv_carry.specs.Carried.{IsCarried}
use Rattle.mv_carry.proofs.CarriedKept.{carried_keeps}
use Rattle.mv_carry.proofs.Measures.{carried_no_greater, carried_intervals, carried_well_formed}

carried_is_so : (b : Body) → IsCarried b (record b { code = (carried_code b.temps outermost (Knowing []) b.code).code })
carried_is_so b =
    let spans = carried_intervals b in
    record {
      means = carried_keeps b;
      code = refl;
      smaller = carried_no_greater b;
      whole = spans.whole;
      has_temps = spans.has_temps;
      well_formed = carried_well_formed b;
      intervals = spans.intervals;
      params = refl;
      temps = refl;
      sizes = refl;
      rooms = refl;
      marked = refl;
      switches = refl;
    }

pub body_is_carried : (b : Body) (arrays : List ℕ) (code : List Stm) (rooms : List Room) (marked switches : List ℕ) → arrays ≡ b.arrays →
    code ≡ (carried_code b.temps outermost (Knowing []) b.code).code → rooms ≡ b.rooms → marked ≡ b.marked → switches ≡ b.switches →
    IsCarried b (record { params = b.params; temps = b.temps; arrays = arrays; code = code; rooms = rooms; marked = marked; switches = switches })
body_is_carried b arrays code rooms marked switches ea e er em es =
    let same : record b { code = (carried_code b.temps outermost (Knowing []) b.code).code } ≡ record { params = b.params; temps = b.temps; arrays = arrays; code = code; rooms = rooms; marked = marked; switches = switches } =
    λ i. record { params = b.params; temps = b.temps; arrays = sym ea i; code = sym e i; rooms = sym er i; marked = sym em i; switches = sym es i }
    in
    subst (IsCarried b) same (carried_is_so b)
