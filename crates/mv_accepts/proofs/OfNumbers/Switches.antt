-- The switches of a program are the objects that are marked.
use Rattle.std.proofs.Common.{◌≡◌, ap₂, ◌&&◌, ℕ, suc, ◌+◌, refl, sym, ◌∙◌, ap, subst, Bool, true, false, if◌then◌else◌, List, [], ◌∷◌, ◌++◌, map, length, nat_lt, filter, Option, Some, None, is_some, slice_get, arith}
use Rattle.std.specs.List.{AllByRecursion}
use Rattle.std.specs.Prelude.{All}
use Rattle.std.proofs.Math.Bool.{and-true}
use Rattle.std.proofs.lemmas.List.Elements.{All-from_recursion}
use Rattle.std.proofs.lemmas.Bool.{lt-ltb}
use Rattle.std.proofs.lemmas.Option.{slice_get_within}
use Rattle.mv_ast.specs.declared.program.Switch.{Switch}
use Rattle.mv_syntax.specs.declared.unit.Item.{Item}
use Rattle.mv_check_outline.specs.declared.outline.Wanted.TheVariants as wanted
use Rattle.mv_check_outline.specs.Names.{is_among, each_once, place_of, among}
use Rattle.mv_check_outline.specs.Outlined as outlined
use Rattle.mv_check_outline.specs.Outlined.{all_names}
use Rattle.mv_check_declarations.specs.Turns.{through}
use Rattle.mv_accepts.specs.Statements.Bodies.{BodyGrows, ParametersFit}
use Rattle.mv_accepts.proofs.OfStatements.Judging.{of_good}
use Rattle.mv_accepts.proofs.OfStatements.Lists.{mapped_there, all_at, all_by, all_more, mapped_back}
use Rattle.mv_types.specs.declared.contents.Contents.{Contents}
use Rattle.mv_types.specs.declared.contents.Foreknown.{Foreknown}
use Rattle.mv_types.specs.declared.contents.Object.{Object}
use Rattle.mv_types.specs.Contents.{nothing_declared, switch_of, switches_from}
use Rattle.mv_types.specs.Foreknown.{foreknown}
use Rattle.mv_types.specs.Units.{item_judgement, program_of}
use Rattle.mv_accepts.specs.Numbers.Numbers.{AreJudged, IsSwitchOf, AreSwitches}
use Rattle.mv_accepts.proofs.OfNumbers.DeclaredObjects.{Of, HasDomain, switches_of}
use Rattle.mv_accepts.proofs.OfNumbers.NameLists.{Different, among_here, among_kept, among_once, among_is, once_different, at_place, place_there}
use Rattle.mv_accepts.proofs.OfNumbers.Objects.{object_name}

abbrev global : Switch → Option ℕ
global s = Some s.global

module _ (place : List ℕ → Option ℕ) where
  -- objects that have their places, the first of them this one
  abbrev ArePlaced : ℕ → List Object → Type 0
  ArePlaced i [] = Unit {0}
  ArePlaced i (o ∷ os) = (place (object_name o) ≡ Some i) × ArePlaced (suc i) os

  placed : (i : ℕ) (os : List Object) → ((j : ℕ) (o : Object) → slice_get os j ≡ Some o → place (object_name o) ≡ Some (i + j)) → ArePlaced i os
  placed i [] h = tt
  placed i (o ∷ os) h = (
    h 0 o refl ∙ ap (λ n. Some n) (let e : i + 0 ≡ i = omega arith in e),
    placed (suc i) os (λ j x q. h (suc j) x q ∙ ap (λ n. Some n) (let e : i + suc j ≡ suc i + j = omega arith in e)),
  )

  module _ (marked : List ℕ → Bool) where
    counted : (i : ℕ) (os : List Object) → ArePlaced i os → AllByRecursion (λ o. is_some o.domain ≡ marked (object_name o)) os →
        map global (switches_from i os) ≡ map place (filter marked (map object_name os))
    counted i [] h m = refl
    counted i (o ∷ os) h m = by o.domain (marked (object_name o)) m.0 (counted (suc i) os h.1 m.1)
      where
        by : (d : Option (List ℕ)) (b : Bool) → is_some d ≡ b → map global (switches_from (suc i) os) ≡ map place (filter marked (map object_name os)) →
            map global (switch_of i d ++ switches_from (suc i) os) ≡
            map place (if b then object_name o ∷ filter marked (map object_name os) else filter marked (map object_name os))
        by None false q r = r
        by None true q r = absurd (cc)
        by (Some v) false q r = absurd (cc)
        by (Some v) true q r = ap (λ xs. Some i ∷ xs) r ∙ ap (λ x. x ∷ map place (filter marked (map object_name os))) (sym h.0)

program_switches : (c : Contents) (pointers : List ℕ) (main : ℕ) → (program_of c pointers main).switches ≡ switches_from 0 c.objects
unfolding program_of
program_switches c pointers main = refl

module _ (items : List Item) where
  abbrev k : Foreknown
  k = foreknown items

  known_objects : k.outline.objects ≡ each_once (all_names wanted.Objects items)
  unfolding foreknown
  known_objects = refl

  known_switches : k.outline.switches ≡ among (outlined.names wanted.MarkedSwitches items) k.outline.objects
  unfolding foreknown
  known_switches = refl

  abbrev is_marked : List ℕ → Bool
  is_marked name = is_among name (outlined.names wanted.MarkedSwitches items)

  different : Different k.outline.objects
  different = subst Different (sym known_objects) (once_different (all_names wanted.Objects items))

  switches_are : k.outline.switches ≡ filter is_marked k.outline.objects
  switches_are = known_switches ∙ among_is (outlined.names wanted.MarkedSwitches items) k.outline.objects different

  abbrev place : List ℕ → Option ℕ
  place name = place_of name k.outline.objects

  globals_are : (os : List Object) → map object_name os ≡ k.outline.objects →
      AllByRecursion (λ o. is_some o.domain ≡ is_among (object_name o) (all_names wanted.MarkedSwitches items)) os →
      map global (switches_from 0 os) ≡ map place k.outline.switches
  globals_are os e m =
      counted place is_marked 0 os
      (placed place 0 os (λ j o q.
      place_there k.outline.objects different j (object_name o) (ap (λ ns. slice_get ns j) (sym e) ∙ mapped_there object_name os j o q) ∙
      ap (λ n. Some n) (let r : j ≡ 0 + j = omega arith in r)))
      (all_more (λ o. is_some o.domain ≡ is_among (object_name o) (all_names wanted.MarkedSwitches items)) (λ o. is_some o.domain ≡ is_marked (object_name o))
      (λ o q. q ∙ sym (among_once (object_name o) (all_names wanted.MarkedSwitches items))) os m) ∙
      ap (map place) (ap (filter is_marked) e ∙ sym switches_are)

  numbered : (switches : List Switch) → map global switches ≡ map place k.outline.switches → (name : List ℕ) (g n : ℕ) → place_of name k.outline.objects ≡ Some g →
      place_of name k.outline.switches ≡ Some n → IsSwitchOf switches n g
  numbered switches e name g n p q =
      let x = mapped_back global switches n (place name) (ap (λ xs. slice_get xs n) e ∙ mapped_there place k.outline.switches n name (at_place name k.outline.switches n q)) in
      let r : Some x.0.global ≡ Some g = x.2 ∙ p in
      (x.0, x.1, cc)

  below : (switches : List Switch) → map global switches ≡ map place k.outline.switches → (name : List ℕ) (n : ℕ) → place_of name k.outline.switches ≡ Some n →
      nat_lt n (length switches) ≡ true
  below switches e name n q =
      let x = mapped_back global switches n (place name) (ap (λ xs. slice_get xs n) e ∙ mapped_there place k.outline.switches n name (at_place name k.outline.switches n q)) in
      lt-ltb n (length switches) (slice_get_within switches n x.0 x.1)

  marked_are : (os : List Object) → map object_name os ≡ k.outline.objects →
      AllByRecursion (λ o. is_some o.domain ≡ is_among (object_name o) (all_names wanted.MarkedSwitches items)) os →
      All (λ o. is_some o.domain ≡ is_among (object_name o) k.outline.switches) os
  marked_are os e m =
      All-from_recursion (λ o. is_some o.domain ≡ is_among (object_name o) k.outline.switches) os
      (all_by (λ o. is_some o.domain ≡ is_among (object_name o) k.outline.switches) os (λ i o q.
      let there : slice_get k.outline.objects i ≡ Some (object_name o) = ap (λ ns. slice_get ns i) (sym e) ∙ mapped_there object_name os i o q in
      all_at (λ x. is_some x.domain ≡ is_among (object_name x) (all_names wanted.MarkedSwitches items)) os m i o q ∙
      sym (ap (is_among (object_name o)) switches_are ∙
      (among_kept is_marked (object_name o) k.outline.objects ∙
      (ap₂ (λ a b. a && b) (among_once (object_name o) (all_names wanted.MarkedSwitches items)) (among_here (object_name o) k.outline.objects i there) ∙
      and-true (is_among (object_name o) (all_names wanted.MarkedSwitches items)))))))

  pub switches_counted : BodyGrows → ParametersFit → (c : Contents) (pointers : List ℕ) (main : ℕ) → AreJudged items c → AreSwitches k c (program_of c pointers main).switches
  switches_counted bodies fit c pointers main q =
      let xs : List (List ℕ) = all_names wanted.Objects items in
      let ys : List (List ℕ) = all_names wanted.MarkedSwitches items in
      let h = of_good (Of HasDomain k bodies fit xs ys) (through (item_judgement k) items (nothing_declared k)) (switches_of k bodies fit items) c q in
      let named : map object_name c.objects ≡ k.outline.objects = h.all ∙ sym known_objects in
      let globals : map global (program_of c pointers main).switches ≡ map place k.outline.switches = ap (map global) (program_switches c pointers main) ∙ globals_are c.objects named h.marked in
      record { named = named; marked = marked_are c.objects named h.marked; globals = globals; numbered = numbered (program_of c pointers main).switches globals; below = below (program_of c pointers main).switches globals }
