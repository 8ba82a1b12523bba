-- Where each room is the program's, so is what is looked up in them.
use Rattle.std.proofs.Common.{◌≡◌, ℕ, ◌<◌, ◌||◌, Bool, true, false, eqb, cond, List, [], ◌∷◌, refl, ap, ◌∙◌, arith}
use Rattle.std.proofs.lemmas.Bool.{eqb-true}
use Rattle.mv_ir.specs.declared.body.Room.{Room}
use Rattle.mv_ir.specs.WellFormed.{has_room}
use Rattle.mv_ir.proofs.Induction.{Each}
use Rattle.mv_select_code.specs.Trees.Rooms.{place_in}
use Rattle.mv_select_code.specs.Control.Layouts.{size_in}
use Rattle.mv_select.specs.Calls.Convention.{Layout}
use Rattle.mv_select.specs.Bodies.SelectedBodies.{IsRoom, RoomsStand}
use Rattle.mv_select.proofs.OfBodies.Lists.{each_all}

either : {X : Type 0} (a b : Bool) → (a ≡ true → X) → (b ≡ true → X) → (a || b) ≡ true → X
either true b f g h = f refl
either false b f g h = g h

-- what is picked by a test, or else by the others
picked : (is has : Bool) (here others want : ℕ) → (is ≡ true → here ≡ want) → (has ≡ true → others ≡ want) → (is || has) ≡ true → cond is here others ≡ want
picked true has here others want f g h = f refl
picked false has here others want f g h = g h

module _ (y : Layout) where
  places : (rooms : List Room) → Each (IsRoom y) rooms → (g : ℕ) → has_room rooms g ≡ true → place_in rooms g ≡ y.place g
  places [] h g e = cc
  places (r ∷ rooms) h g e =
      picked (eqb r.global g) (has_room rooms g) r.at (place_in rooms g) (y.place g) (λ same. h.0.0 ∙ ap y.place (eqb-true r.global g same)) (places rooms h.1 g) e

  sizes : (rooms : List Room) → Each (IsRoom y) rooms → (g : ℕ) → has_room rooms g ≡ true → size_in rooms g ≡ y.size g
  sizes [] h g e = cc
  sizes (r ∷ rooms) h g e =
      picked (eqb r.global g) (has_room rooms g) r.size (size_in rooms g) (y.size g) (λ same. h.0.1 ∙ ap y.size (eqb-true r.global g same)) (sizes rooms h.1 g) e

  words : (rooms : List Room) → Each (IsRoom y) rooms → (g : ℕ) → has_room rooms g ≡ true → 0 < y.size g
  words [] h g e = absurd (no e)
    where
      no : false ≡ true → ⊥
      no e = cc
  words (r ∷ rooms) h g e =
      let here = λ (same : eqb r.global g ≡ true). (let size : r.size ≡ y.size g = h.0.1 ∙ ap y.size (eqb-true r.global g same) in let some : 0 < y.size g = omega (arith, size, h.0.2) in some) in
      either (eqb r.global g) (has_room rooms g) here (words rooms h.1 g) e

pub rooms_stand : RoomsStand
rooms_stand y rooms h =
    let each = each_all (IsRoom y) rooms h in
    record { places = places y rooms each; sizes = sizes y rooms each; words = words y rooms each }
