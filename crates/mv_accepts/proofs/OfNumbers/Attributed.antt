-- The attributed functions of a program are those that are known.
use Rattle.std.proofs.Common.{◌≡◌, ℕ, refl, sym, ◌∙◌, ap, ap₂, subst, Bool, true, false, ◌&&◌, if◌then◌else◌, List, [], ◌∷◌, map, length, nat_lt, filter, Some, None, slice_get}
use Rattle.std.specs.Prelude.{unwrap_or}
use Rattle.std.proofs.lemmas.Bool.{lt-ltb}
use Rattle.std.proofs.lemmas.Option.{slice_get_within}
use Rattle.std.proofs.lemmas.List.Elements.{recursion_from_All}
use Rattle.mv_ast.specs.declared.program.Function.{Function}
use Rattle.mv_ast.specs.declared.program.Switch.{Switch}
use Rattle.mv_syntax.specs.declared.unit.Item.{Item}
use Rattle.mv_ast.specs.Switches.{attributed_functions}
use Rattle.mv_check_outline.specs.Names.{is_among, place_of, among}
use Rattle.mv_types.specs.declared.contents.Contents.{Contents}
use Rattle.mv_types.specs.declared.contents.Foreknown.{Foreknown}
use Rattle.mv_types.specs.Contents.{present, switches_from}
use Rattle.mv_types.specs.Foreknown.{foreknown, is_attributed, attributed_number}
use Rattle.mv_types.specs.Units.{with_switches, program_of}
use Rattle.mv_accepts.specs.Numbers.Numbers.{AreJudged, AreDefined, HasNumber, AreAttributed}
use Rattle.mv_accepts.proofs.OfNumbers.Lists.{filter_map}
use Rattle.mv_accepts.proofs.OfNumbers.NameLists.{Different, among_here, among_kept, among_is, kept_different, at_place, place_among}
use Rattle.mv_accepts.proofs.OfNumbers.Functions.{known_different, functions_defined}
use Rattle.mv_accepts.proofs.OfStatements.Lists.{all_mapped, mapped_back}

same_names : (switches : List Switch) (fs : List Function) → map (λ f. f.name) (map (with_switches switches) fs) ≡ map (λ f. f.name) fs
same_names switches [] = refl
same_names switches (f ∷ fs) = ap (λ xs. f.name ∷ xs) (same_names switches fs)

program_functions : (c : Contents) (pointers : List ℕ) (main : ℕ) → (program_of c pointers main).functions ≡ map (with_switches (switches_from 0 c.objects)) (present c.functions)
unfolding program_of
program_functions c pointers main = refl

below : (fs : List Function) (n : ℕ) (name : List ℕ) → HasNumber fs n name → nat_lt n (length fs) ≡ true
below fs n name h = lt-ltb n (length fs) (slice_get_within fs n h.0 h.1)

module _ (items : List Item) where
  abbrev k : Foreknown
  k = foreknown items

  -- the names that are known to be attributed are those of the known functions that any declaration attributes
  known_attributed : k.outline.attributed ≡ among k.attributed k.outline.functions
  unfolding foreknown
  known_attributed = refl

  attributed_is : k.outline.attributed ≡ filter (is_attributed k) k.outline.functions
  attributed_is = known_attributed ∙ among_is k.attributed k.outline.functions (known_different items)

  attributed_names : (c : Contents) (pointers : List ℕ) (main : ℕ) → AreDefined k c → map (λ f. f.name) (attributed_functions (program_of c pointers main)) ≡ k.outline.attributed
  attributed_names c pointers main d =
      let switches : List Switch = switches_from 0 c.objects in
      let gs : List Function = map (with_switches switches) (present c.functions) in
      let all : (program_of c pointers main).functions ≡ gs = program_functions c pointers main in
      ap (λ fs. map (λ f. f.name) (filter (λ f. f.attributed) fs)) all ∙
      (filter_map (λ f. f.attributed) (is_attributed k) (λ f. f.name) gs
      (all_mapped (λ f. f.attributed ≡ is_attributed k f.name) (with_switches switches) (present c.functions)
      (recursion_from_All (λ f. f.attributed ≡ is_attributed k f.name) (present c.functions) d.attributed)) ∙
      (ap (filter (is_attributed k)) (same_names switches (present c.functions) ∙ d.named) ∙ sym attributed_is))

  numbered : (fs : List Function) → map (λ f. f.name) fs ≡ k.outline.attributed → (name : List ℕ) (g n : ℕ) → place_of name k.outline.functions ≡ Some g →
      attributed_number k name ≡ Some n → HasNumber fs n name
  numbered fs e name g n q r = by (is_attributed k name) refl r
    where
      there : is_attributed k name ≡ true → is_among name k.outline.attributed ≡ true
      there a =
          ap (is_among name) attributed_is ∙
          (among_kept (is_attributed k) name k.outline.functions ∙
          ap₂ (λ x y. x && y) a (among_here name k.outline.functions g (at_place name k.outline.functions g q)))

      found : (i : ℕ) × (place_of name k.outline.attributed ≡ Some i) → Some (unwrap_or (place_of name k.outline.attributed) 0) ≡ Some n → HasNumber fs n name
      found x s =
          let t : x.0 ≡ n = (let u : Some x.0 ≡ Some n = ap (λ o. Some (unwrap_or o 0)) (sym x.1) ∙ s in cc) in
          mapped_back (λ f. f.name) fs n name
          (ap (λ xs. slice_get xs n) e ∙ at_place name k.outline.attributed n (x.1 ∙ ap (λ i. Some i) t))

      different : Different k.outline.attributed
      different = subst Different (sym attributed_is) (kept_different (is_attributed k) k.outline.functions (known_different items))

      by : (b : Bool) → b ≡ is_attributed k name → (if b then Some (unwrap_or (place_of name k.outline.attributed) 0) else None) ≡ Some n → HasNumber fs n name
      by true a s = found (place_among name k.outline.attributed different (there (sym a))) s
      by false a s = absurd (cc)

  pub attributed_counted : (c : Contents) (pointers : List ℕ) (main : ℕ) → AreJudged items c → AreAttributed k (attributed_functions (program_of c pointers main))
  attributed_counted c pointers main q =
      let e = attributed_names c pointers main (functions_defined items c q) in
      record {
        named = e;
        numbered = numbered (attributed_functions (program_of c pointers main)) e;
        below = λ name g n p r. below (attributed_functions (program_of c pointers main)) n name (numbered (attributed_functions (program_of c pointers main)) e name g n p r);
      }
