-- What a state holds behind a write of a temporary or of elements, and of arrays without their promises.
use Rattle.std.proofs.Common.{◌≡◌, ℕ, ◌<◌, List, length, refl}
use Rattle.std.specs.Prelude.{slice_index}
use Rattle.std.proofs.lemmas.Grind.{get_or-set_at}
use Rattle.mv_ir.specs.declared.stm.Array.{Array}
use Rattle.mv_ir.specs.declared.stm.Array.TheVariants as array
use Rattle.mv_ir.specs.Outcome.{State}
use Rattle.mv_ir.specs.Meaning.{elements, with_temp, with_elements, unpromised}

pub written_value : (s : State) (t v : ℕ) → t < length s.temps → slice_index (with_temp s t v).temps t ≡ v
written_value s t v lt = get_or-set_at s.temps t t v 0 refl lt

pub elements_temp : (a : Array) (s : State) (t v : ℕ) → elements a (with_temp s t v) ≡ elements a s
elements_temp (array.Global g) s t v = refl
elements_temp (array.Local l) s t v = refl
elements_temp (array.SureGlobal g n) s t v = refl
elements_temp (array.SureLocal l n) s t v = refl

pub temps_elements : (a : Array) (s : State) (xs : List ℕ) → (with_elements a s xs).temps ≡ s.temps
temps_elements (array.Global g) s xs = refl
temps_elements (array.Local l) s xs = refl
temps_elements (array.SureGlobal g n) s xs = refl
temps_elements (array.SureLocal l n) s xs = refl

pub plain_elements : (a : Array) (s : State) → elements (unpromised a) s ≡ elements a s
plain_elements (array.Global g) s = refl
plain_elements (array.Local l) s = refl
plain_elements (array.SureGlobal g n) s = refl
plain_elements (array.SureLocal l n) s = refl
