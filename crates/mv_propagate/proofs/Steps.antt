-- Facts hold on where what they go by stays, and behind what makes them.
use Rattle.std.proofs.Common.{◌≡◌, ℕ, ◌<◌, ◌≤◌, ◌⊎◌, inl, inr, false, eqb, List, [], length, Option, Some, None, refl, sym, ◌∙◌, subst, ap, arith}
use Rattle.std.specs.Prelude.{◌||◌, slice_index, slice_set, slice_index_or, Contains}
use Rattle.std.proofs.lemmas.Bool.{eqb-false, or_parts, true≢false}
use Rattle.std.proofs.lemmas.List.{get_or-set_other, length-set, set-get_or}
use Rattle.mv_ir.specs.declared.stm.Array.{Array}
use Rattle.mv_ir.specs.declared.stm.Array.TheVariants as array
use Rattle.mv_ir.specs.World.{World}
use Rattle.mv_ir.specs.Outcome.{State}
use Rattle.mv_ir.specs.Meaning.{elements, with_temp, with_elements, with_world, put}
use Rattle.mv_ir.proofs.Arrays.{written_value, elements_temp, temps_elements}
use Rattle.mv_propagate.specs.declared.facts.Leaf.{Leaf}
use Rattle.mv_propagate.specs.declared.facts.Leaf.TheVariants.{Number, Temp}
use Rattle.mv_propagate.specs.declared.facts.Held.{Held}
use Rattle.mv_propagate.specs.declared.facts.Held.TheVariants.{Value, Element}
use Rattle.mv_propagate.specs.declared.facts.Fact.{Fact}
use Rattle.mv_propagate.specs.Facts.{leaf_value, leaf_is, HoldsIn, Holds, AreKnown, held_by, names, names_result, same_array, goes_by, is_element}
use Rattle.mv_propagate.specs.Propagating.{fact, Unwritten, Unstored, Uncalled, Fewer, Learned}

-- ---- what a fact goes by

-- what a temporary holds by it, in two states
abbrev SameHeld : State → State → Held → Type 0
SameHeld s s' (Value l) = leaf_value s' l ≡ leaf_value s l
SameHeld s s' (Element a i) = (leaf_value s' i ≡ leaf_value s i) × (elements a s' ≡ elements a s)

held_on : (s s' : State) (t : ℕ) (h : Held) → slice_index s'.temps t ≡ slice_index s.temps t → SameHeld s s' h → HoldsIn s t h → HoldsIn s' t h
held_on s s' t (Value l) e k h = e ∙ h ∙ sym k
held_on s s' t (Element a i) e k h = (
  omega (arith, h.0, k.0, ap length k.1),
  e ∙ h.1 ∙ sym (ap (slice_index (elements a s')) k.0 ∙ ap (λ xs. slice_index xs (leaf_value s i)) k.1),
)

-- ---- a temporary is written

leaf_on : (s : State) (t v : ℕ) (l : Leaf) → leaf_is t l ≡ false → leaf_value (with_temp s t v) l ≡ leaf_value s l
leaf_on s t v (Number n) e = refl
leaf_on s t v (Temp u) e = get_or-set_other s.temps t u v 0 (eqb-false u t e)

same_held : (s : State) (t v : ℕ) (h : Held) → held_by t h ≡ false → SameHeld s (with_temp s t v) h
same_held s t v (Value l) e = leaf_on s t v l e
same_held s t v (Element a i) e = (leaf_on s t v i e, elements_temp a s t v)

fact_on : (s : State) (t v : ℕ) (f : Fact) → names t f ≡ false → Holds s f → Holds (with_temp s t v) f
fact_on s t v f e h =
    let both = or_parts (eqb f.temp t) (held_by t f.held) e in
    held_on s (with_temp s t v) f.temp f.held (get_or-set_other s.temps t f.temp v 0 (eqb-false f.temp t both.0)) (same_held s t v f.held both.1) h

-- ---- elements are written

other_list : (xss : List (List ℕ)) (g h : ℕ) (xs : List ℕ) → eqb g h ≡ false → slice_index_or (slice_set xss g xs) h [] ≡ slice_index_or xss h []
other_list xss g h xs e = get_or-set_other xss g h xs [] (λ same. eqb-false g h e (sym same))

other_elements : (r a : Array) (s : State) (xs : List ℕ) → same_array r a ≡ false → elements a (with_elements r s xs) ≡ elements a s
other_elements (array.Global g) (array.Global h) s xs e = other_list s.world.globals g h xs e
other_elements (array.Global g) (array.SureGlobal h n) s xs e = other_list s.world.globals g h xs e
other_elements (array.Global g) (array.Local k) s xs e = refl
other_elements (array.Global g) (array.SureLocal k n) s xs e = refl
other_elements (array.SureGlobal g m) (array.Global h) s xs e = other_list s.world.globals g h xs e
other_elements (array.SureGlobal g m) (array.SureGlobal h n) s xs e = other_list s.world.globals g h xs e
other_elements (array.SureGlobal g m) (array.Local k) s xs e = refl
other_elements (array.SureGlobal g m) (array.SureLocal k n) s xs e = refl
other_elements (array.Local l) (array.Global h) s xs e = refl
other_elements (array.Local l) (array.SureGlobal h n) s xs e = refl
other_elements (array.Local l) (array.Local k) s xs e = other_list s.arrays l k xs e
other_elements (array.Local l) (array.SureLocal k n) s xs e = other_list s.arrays l k xs e
other_elements (array.SureLocal l m) (array.Global h) s xs e = refl
other_elements (array.SureLocal l m) (array.SureGlobal h n) s xs e = refl
other_elements (array.SureLocal l m) (array.Local k) s xs e = other_list s.arrays l k xs e
other_elements (array.SureLocal l m) (array.SureLocal k n) s xs e = other_list s.arrays l k xs e

leaf_same : (s s' : State) (l : Leaf) → s'.temps ≡ s.temps → leaf_value s' l ≡ leaf_value s l
leaf_same s s' (Number n) e = refl
leaf_same s s' (Temp u) e = ap (λ ts. slice_index ts u) e

held_stored : (r : Array) (s : State) (xs : List ℕ) (t : ℕ) (h : Held) → goes_by r (fact t h) ≡ false → SameHeld s (with_elements r s xs) h
held_stored r s xs t (Value l) e = leaf_same s (with_elements r s xs) l (temps_elements r s xs)
held_stored r s xs t (Element a i) e = (leaf_same s (with_elements r s xs) i (temps_elements r s xs), other_elements r a s xs e)

fact_stored : (r : Array) (s : State) (xs : List ℕ) (f : Fact) → goes_by r f ≡ false → Holds s f → Holds (with_elements r s xs) f
fact_stored r s xs f e h =
    held_on s (with_elements r s xs) f.temp f.held (ap (λ ts. slice_index ts f.temp) (temps_elements r s xs)) (held_stored r s xs f.temp f.held e) h

-- ---- something is called

held_called : (s : State) (w : World) (t : ℕ) (h : Held) → is_element h ≡ false → HoldsIn s t h → HoldsIn (with_world s w) t h
held_called s w t (Value (Number n)) e h = h
held_called s w t (Value (Temp u)) e h = h
held_called s w t (Element a i) e h = absurd (true≢false e)

fact_called : (r : Option ℕ) (s : State) (w : World) (v : ℕ) (f : Fact) → (is_element f.held || names_result r f) ≡ false → Holds s f → Holds (put r v (with_world s w)) f
fact_called None s w v f e h = held_called s w f.temp f.held (or_parts (is_element f.held) false e).0 h
fact_called (Some t) s w v f e h =
    let both = or_parts (is_element f.held) (names t f) e in
    fact_on (with_world s w) t v f both.1 (held_called s w f.temp f.held both.0 h)

-- ---- all that is known

module _ (temps : ℕ) where
  pub nothing : (s : State) → temps ≤ length s.temps → AreKnown temps [] s
  nothing s le = record { enough = le; true = λ f c. absurd (omega (arith, c.1)) }

  enough_temp : (s : State) (t v : ℕ) → temps ≤ length s.temps → temps ≤ length (with_temp s t v).temps
  enough_temp s t v le = omega (arith, le, length-set s.temps t v)

  pub unwritten_known : (facts after : List Fact) (s : State) (t v : ℕ) → Unwritten t facts after → AreKnown temps facts s → AreKnown temps after (with_temp s t v)
  unwritten_known facts after s t v stay known = record {
    enough = enough_temp s t v known.enough;
    true = λ f c. let was = stay f c in fact_on s t v f was.1 (known.true f was.0);
  }

  pub learned_known : (facts after : List Fact) (s : State) (t v : ℕ) (h : Held) → Learned t h facts after → AreKnown temps facts s → HoldsIn (with_temp s t v) t h →
      AreKnown temps after (with_temp s t v)
  learned_known facts after s t v h stay known new = record { enough = enough_temp s t v known.enough; true = λ f c. by f (stay f c) }
    where
      by : (f : Fact) → (f ≡ fact t h) ⊎ (Contains facts f × (names t f ≡ false)) → Holds (with_temp s t v) f
      by f (inl e) = subst (Holds (with_temp s t v)) (sym e) new
      by f (inr was) = fact_on s t v f was.1 (known.true f was.0)

  pub stored_known : (facts after : List Fact) (r : Array) (s : State) (xs : List ℕ) → Unstored r facts after → AreKnown temps facts s → AreKnown temps after (with_elements r s xs)
  stored_known facts after r s xs stay known = record {
    enough = (let k = known.enough in omega (arith, k, ap length (temps_elements r s xs)));
    true = λ f c. let was = stay f c in fact_stored r s xs f was.1 (known.true f was.0);
  }

  enough_put : (r : Option ℕ) (s : State) (w : World) (v : ℕ) → temps ≤ length s.temps → temps ≤ length (put r v (with_world s w)).temps
  enough_put None s w v le = le
  enough_put (Some t) s w v le = enough_temp s t v le

  pub called_known : (facts after : List Fact) (r : Option ℕ) (s : State) (w : World) (v : ℕ) → Uncalled r facts after → AreKnown temps facts s →
      AreKnown temps after (put r v (with_world s w))
  called_known facts after r s w v stay known = record {
    enough = enough_put r s w v known.enough;
    true = λ f c. let was = stay f c in fact_called r s w v f was.1 (known.true f was.0);
  }

  pub fewer_known : (facts after : List Fact) (s : State) → Fewer facts after → AreKnown temps facts s → AreKnown temps after s
  fewer_known facts after s stay known = record { enough = known.enough; true = λ f c. known.true f (stay f c).0 }

  -- ---- what is learned

  pub value_held : (s : State) (t : ℕ) (l : Leaf) → t < length s.temps → leaf_is t l ≡ false → HoldsIn (with_temp s t (leaf_value s l)) t (Value l)
  value_held s t l lt e = written_value s t (leaf_value s l) lt ∙ sym (leaf_on s t (leaf_value s l) l e)

  pub element_held : (s : State) (t : ℕ) (r : Array) (l : Leaf) → t < length s.temps → leaf_is t l ≡ false → leaf_value s l < length (elements r s) →
      HoldsIn (with_temp s t (slice_index (elements r s) (leaf_value s l))) t (Element r l)
  element_held s t r l lt e within =
      let v = slice_index (elements r s) (leaf_value s l) in
      let same : leaf_value (with_temp s t v) l ≡ leaf_value s l = leaf_on s t v l e in
      let all : elements r (with_temp s t v) ≡ elements r s = elements_temp r s t v in (
        omega (arith, within, same, ap length all),
        written_value s t v lt ∙ sym (ap (slice_index (elements r (with_temp s t v))) same ∙ ap (λ xs. slice_index xs (leaf_value s l)) all),
      )

-- what a temporary holds, put into it
pub same_state : (s : State) (t : ℕ) → with_temp s t (slice_index s.temps t) ≡ s
same_state s t = ap (λ ts. let made : State = record s { temps = ts } in made) (set-get_or s.temps t 0)
