-- A body with the code that folding gives is folded.
use Rattle.std.proofs.Common.{arith, ◌≡◌, ℕ, Bool, List, refl, sym, subst}
use Rattle.mv_ir.specs.declared.stm.Stm.{Stm}
use Rattle.mv_ir.specs.declared.body.Body.{Body}
use Rattle.mv_ir.specs.declared.body.Room.{Room}
use Rattle.mv_ir.specs.Live.{HasTemps}
use Rattle.mv_ir.proofs.Keeping.{body_trans, body_between}
use Rattle.mv_fold.specs.Simple.{simple_code}
use Rattle.mv_fold.specs.Needed.{code_uses, IsNeeded, needed_code}
use Rattle.mv_fold.specs.Folded.{simple_body, IsFoldedCode, IsFolded}
use Rattle.mv_fold.proofs.SimpleKept.{simple_keeps}
use Rattle.mv_fold.proofs.NeededKept.{needed_keeps}
use Rattle.mv_fold.proofs.FormKept.{simple_form}
use Rattle.mv_fold.proofs.FormNeeded.{short_form, needed_form}
use Rattle.mv_fold.proofs.ShortKept.{short_keeps}
use Rattle.mv_fold.proofs.SetsNeeded.{none_unread}
use Rattle.mv_fold.proofs.FoldedWithin.{folded_within}
use Rattle.mv_fold.proofs.FoldedThinner.{simple_intervals, needed_intervals}
use Rattle.mv_fold.proofs.ShortThinner.{short_intervals}
use Rattle.mv_fold.proofs.WellFormed.{folded_well_formed}

abbrev with_code : Body → List Stm → Body
with_code b code = record b { code = code }

folded_is : (b : Body) (needed : ℕ → Bool) → IsNeeded needed (code_uses (simple_body b.temps b.code)) → IsFolded b (with_code b (needed_code needed (simple_body b.temps b.code)))
folded_is b needed h =
    let simple = with_code b (simple_code b.code) in
    let short = with_code b (simple_body b.temps b.code) in
    let code = needed_code needed short.code in
    let form = needed_form needed short.code (short_form b.temps simple.code (simple_form b.code)) in
    let first = simple_intervals b in
    let second = short_intervals simple in
    let third = needed_intervals short needed h in
    let has_temps : HasTemps b → HasTemps (with_code b code) = λ w. third.has_temps (second.has_temps (first.has_temps w)) in
    record {
      means = body_trans b short (with_code b code)
          (body_trans b simple short (λ setting frame. body_between setting frame frame b simple refl refl (simple_keeps b.code setting frame)) (short_keeps simple))
          (needed_keeps short needed h);
      form = record { operators = form.operators; choices = form.choices; sets = none_unread needed short.code h; reached = form.reached };
      code = (needed, h, refl);
      smaller = folded_within b.temps needed b.code;
      whole = λ w. third.whole (second.whole (first.whole w));
      has_temps = has_temps;
      well_formed = folded_well_formed b needed has_temps (folded_within b.temps needed b.code);
      intervals = omega (arith, first.intervals, second.intervals, third.intervals);
      params = refl;
      temps = refl;
      sizes = refl;
      rooms = refl;
      marked = refl;
      switches = refl;
    }

pub body_is_folded : (b : Body) (arrays : List ℕ) (code : List Stm) (rooms : List Room) (marked switches : List ℕ) → arrays ≡ b.arrays → IsFoldedCode b.temps b.code code → rooms ≡ b.rooms → marked ≡ b.marked → switches ≡ b.switches →
    IsFolded b (record { params = b.params; temps = b.temps; arrays = arrays; code = code; rooms = rooms; marked = marked; switches = switches })
body_is_folded b arrays code rooms marked switches ea (needed, h, e) er em es =
    let same : with_code b (needed_code needed (simple_body b.temps b.code)) ≡ record { params = b.params; temps = b.temps; arrays = arrays; code = code; rooms = rooms; marked = marked; switches = switches } =
    λ i. record { params = b.params; temps = b.temps; arrays = sym ea i; code = sym e i; rooms = sym er i; marked = sym em i; switches = sym es i }
    in
    subst (IsFolded b) same (folded_is b needed h)
