-- Each global that a function's code names has a room.
use Rattle.std.proofs.Common.{◌≡◌, ℕ, suc, ◌+◌, ◌<◌, ◌≤◌, Bool, true, false, cond, List, [], ◌∷◌, map, length, refl, sym, ◌∙◌, ap, arith}
use Rattle.std.specs.Prelude.{nat_eq, nat_lt}
use Rattle.std.proofs.lemmas.Bool.{eqb-true, eq-eqb, and_from, or_left, or_right}
use Rattle.mv_ir.specs.declared.stm.Array.{Array}
use Rattle.mv_ir.specs.declared.stm.Array.TheVariants as array
use Rattle.mv_ir.specs.declared.stm.Stm.{Stm}
use Rattle.mv_ir.specs.declared.body.Room.{Room}
use Rattle.mv_ir.specs.Measures.{joined, array_read, scalars_read}
use Rattle.mv_ir.specs.WellFormed.{all_true, has_room, is_there, named}
use Rattle.mv_ir.proofs.Induction.{Each}
use Rattle.mv_ast.specs.declared.program.Global.{Global}
use Rattle.mv_ast.specs.Counts.{words_of_size}
use Rattle.mv_num.specs.Lists.{is_among}
use Rattle.mv_lower_spec.specs.Functions.{names_global, address_behind, rooms_from}
use Rattle.mv_lower_spec.proofs.OfShape.Asked.{Globals}
use Rattle.mv_lower_spec.proofs.OfShape.Rules.{AllMay}
use Rattle.mv_lower_spec.proofs.OfShape.Expressions as limits
use Rattle.mv_num.proofs.Booleans.{from_falsity}

-- ---- rooms

room_in : (f : ℕ → Bool) (k : ℕ) → f k ≡ true → (from before : ℕ) (xs : List Global) → from ≤ k → k < from + length xs → has_room (rooms_from f from before xs) k ≡ true
room_in f k h from before [] le lt = absurd (omega (arith, le, lt))
room_in f k h from before (x ∷ xs) le lt =
    by (nat_eq from k) refl (λ apart. room_in f k h (suc from) (before + words_of_size x.size) xs (omega (arith, le, apart)) (omega (arith, lt)))
  where
    rest : List Room
    rest = rooms_from f (suc from) (before + words_of_size x.size) xs

    first : Room
    first = record { global = from; at = address_behind before; size = words_of_size x.size }

    later : (z : Bool) → has_room rest k ≡ true → has_room (cond z (first ∷ rest) rest) k ≡ true
    later true e = or_right (nat_eq from k) (has_room rest k) e
    later false e = e

    by : (z : Bool) → nat_eq from k ≡ z → ((from ≡ k → ⊥) → has_room rest k ≡ true) → has_room (cond (f from) (first ∷ rest) rest) k ≡ true
    by true e more =
        let named : f from ≡ true = ap f (eqb-true from k e) ∙ h in
        ap (λ z. has_room (cond z (first ∷ rest) rest) k) named ∙ or_left (nat_eq from k) (has_room rest k) e
    by false e more = later (f from) (more (λ q. from_falsity (sym e ∙ eq-eqb from k q)))

-- ---- what is named

all_in : (f : ℕ → Bool) (P : ℕ → Type 0) (xs : List ℕ) → Each P xs → ((k : ℕ) → is_among k xs ≡ true → P k → f k ≡ true) → all_true (map f xs) ≡ true
all_in f P [] h k = refl
all_in f P (x ∷ xs) h k =
    and_from (f x) (all_true (map f xs)) (k x (or_left (nat_eq x x) (is_among x xs) (eq-eqb x x refl)) h.0)
    (all_in f P xs h.1 (λ m e. k m (or_right (nat_eq m x) (is_among m xs) e)))

module _ (f : ℕ → Bool) (globals : Globals) (locals : ℕ) (rooms : List Room) (sizes : List ℕ) (sized : length sizes ≡ locals) where
  all_there : (xs : List Array) → Each (λ r. limits.is_there globals locals r ≡ true) xs → ((k : ℕ) → is_among k (joined (map array_read xs)) ≡ true → globals.there k ≡ true → has_room rooms k ≡ true) →
      all_true (map (is_there rooms sizes) xs) ≡ true
  all_there [] h k = refl
  all_there (array.Global g ∷ xs) h k =
      and_from (has_room rooms g) (all_true (map (is_there rooms sizes) xs)) (k g (or_left (nat_eq g g) (is_among g (joined (map array_read xs))) (eq-eqb g g refl)) h.0)
      (all_there xs h.1 (λ m e. k m (or_right (nat_eq m g) (is_among m (joined (map array_read xs))) e)))
  all_there (array.Local l ∷ xs) h k =
      and_from (nat_lt l (length sizes)) (all_true (map (is_there rooms sizes) xs)) (ap (λ n. nat_lt l n) sized ∙ h.0) (all_there xs h.1 k)
  all_there (array.SureGlobal g n ∷ xs) h k =
      and_from (has_room rooms g) (all_true (map (is_there rooms sizes) xs)) (k g (or_left (nat_eq g g) (is_among g (joined (map array_read xs))) (eq-eqb g g refl)) h.0)
      (all_there xs h.1 (λ m e. k m (or_right (nat_eq m g) (is_among m (joined (map array_read xs))) e)))
  all_there (array.SureLocal l n ∷ xs) h k =
      and_from (nat_lt l (length sizes)) (all_true (map (is_there rooms sizes) xs)) (ap (λ m. nat_lt l m) sized ∙ h.0) (all_there xs h.1 k)

-- the rooms of a function's code
module _ (globals : Globals) (xs : List Global) (code : List Stm) where
  abbrev rooms : List Room
  rooms = rooms_from (names_global code) 0 0 xs

  pub scalars_have_rooms : ((k : ℕ) → globals.scalars k ≡ true → k < length xs) → AllMay globals.scalars (scalars_read code) → all_true (map (has_room rooms) (scalars_read code)) ≡ true
  scalars_have_rooms below h =
      all_in (has_room rooms) (λ k. globals.scalars k ≡ true) (scalars_read code) h
      (λ k e may. room_in (names_global code) k (or_left (is_among k (scalars_read code)) (is_among k (joined (map array_read (named code)))) e) 0 0 xs (omega arith) (omega (arith, below k may)))

  pub named_are_there : (locals : ℕ) (sizes : List ℕ) → length sizes ≡ locals → ((k : ℕ) → globals.there k ≡ true → k < length xs) → Each (λ r. limits.is_there globals locals r ≡ true) (named code) →
      all_true (map (is_there rooms sizes) (named code)) ≡ true
  named_are_there locals sizes sized below h =
      all_there (names_global code) globals locals rooms sizes sized (named code) h
      (λ k e may. room_in (names_global code) k (or_right (is_among k (scalars_read code)) (is_among k (joined (map array_read (named code)))) e) 0 0 xs (omega arith) (omega (arith, below k may)))
