-- What is known behind statements.
use Rattle.std.proofs.Common.{◌≡◌, ℕ, zero, suc, ◌<◌, List, [], ◌∷◌, length, refl, sym, subst, ap, arith}
use Rattle.std.specs.Prelude.{slice_index, slice_set, slice_index_or}
use Rattle.std.proofs.lemmas.List.{get_or-set_other}
use Rattle.mv_ir.specs.declared.stm.Array.{Array}
use Rattle.mv_ir.specs.declared.stm.Array.TheVariants as array
use Rattle.mv_ir.specs.Outcome.{State}
use Rattle.mv_ir.specs.Meaning.{elements, with_temp, with_elements}
use Rattle.mv_ir.proofs.Arrays.{written_value, temps_elements}
use Rattle.mv_ranges.specs.declared.facts.Fact.{Fact}
use Rattle.mv_ranges.specs.declared.facts.Fact.TheVariants.{Within, Below}
use Rattle.mv_ranges.specs.Ranges.{IsIn}
use Rattle.mv_ranges.specs.Facts.{Holds, AllHold, AreKnown, AreAsLong, AreSameBut}

-- ---- a temporary is written

pub same_but : (s : State) (t v : ℕ) → AreSameBut t s (with_temp s t v)
same_but s t v u ne = get_or-set_other s.temps t u v 0 ne

pub as_long : (s : State) (t v : ℕ) → AreAsLong s (with_temp s t v)
as_long s t v (array.Global g) = refl
as_long s t v (array.Local l) = refl
as_long s t v (array.SureGlobal g n) = refl
as_long s t v (array.SureLocal l n) = refl

-- ---- elements are changed, and none is more or less

set_long : (xss : List (List ℕ)) (g h : ℕ) (xs : List ℕ) → length xs ≡ length (slice_index_or xss g []) → length (slice_index_or (slice_set xss g xs) h []) ≡ length (slice_index_or xss h [])
set_long [] g h xs e = refl
set_long (ys ∷ yss) zero zero xs e = e
set_long (ys ∷ yss) zero (suc h) xs e = refl
set_long (ys ∷ yss) (suc g) zero xs e = refl
set_long (ys ∷ yss) (suc g) (suc h) xs e = set_long yss g h xs e

globals_long : (g : ℕ) (s : State) (xs : List ℕ) → length xs ≡ length (elements (array.Global g) s) → AreAsLong s (with_elements (array.Global g) s xs)
globals_long g s xs e (array.Global h) = set_long s.world.globals g h xs e
globals_long g s xs e (array.Local l) = refl
globals_long g s xs e (array.SureGlobal h n) = set_long s.world.globals g h xs e
globals_long g s xs e (array.SureLocal l n) = refl

locals_long : (l : ℕ) (s : State) (xs : List ℕ) → length xs ≡ length (elements (array.Local l) s) → AreAsLong s (with_elements (array.Local l) s xs)
locals_long l s xs e (array.Global h) = refl
locals_long l s xs e (array.Local k) = set_long s.arrays l k xs e
locals_long l s xs e (array.SureGlobal h n) = refl
locals_long l s xs e (array.SureLocal k n) = set_long s.arrays l k xs e

pub as_long_all : (a : Array) (s : State) (xs : List ℕ) → length xs ≡ length (elements a s) → AreAsLong s (with_elements a s xs)
as_long_all (array.Global g) s xs e = globals_long g s xs e
as_long_all (array.Local l) s xs e = locals_long l s xs e
as_long_all (array.SureGlobal g n) s xs e = globals_long g s xs e
as_long_all (array.SureLocal l n) s xs e = locals_long l s xs e

long_holds : (s s' : State) (f : Fact) → s'.temps ≡ s.temps → AreAsLong s s' → Holds s f → Holds s' f
long_holds s s' (Within t r) e long h = subst (λ ts. IsIn r (slice_index ts t)) (sym e) h
long_holds s s' (Below t a) e long h = omega (arith, ap (λ ts. slice_index ts t) e, long a, h)

pub all_long : (s s' : State) (facts : List Fact) → s'.temps ≡ s.temps → AreAsLong s s' → AllHold s facts → AllHold s' facts
all_long s s' facts e long h k d lt = long_holds s s' _ e long (h k d lt)

pub long_with : (temps : ℕ) (facts : List Fact) (a : Array) (s : State) (xs : List ℕ) → AreKnown temps facts s → length xs ≡ length (elements a s) → AreKnown temps facts (with_elements a s xs)
long_with temps facts a s xs known e = record {
  enough = (let k = known.enough in omega (arith, k, ap length (temps_elements a s xs)));
  true = all_long s (with_elements a s xs) facts (temps_elements a s xs) (as_long_all a s xs e) known.true;
}

-- what holds what another temporary holds is below the lengths that the other is below
pub below_copied : (s : State) (t u : ℕ) (a : Array) → t < length s.temps → slice_index s.temps u < length (elements a s) → Holds (with_temp s t (slice_index s.temps u)) (Below t a)
below_copied s t u a lt h = omega (arith, h, written_value s t (slice_index s.temps u) lt, as_long s t (slice_index s.temps u) a)
