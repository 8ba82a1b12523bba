-- What holds of the contents behind some items, by the names that these declare.
use Rattle.std.proofs.Common.{◌≡◌, ℕ, refl, sym, ◌∙◌, ap, subst, Bool, true, false, ◌||◌, if◌then◌else◌, List, [], ◌∷◌, ◌++◌, map, filter}
use Rattle.std.proofs.Math.Bool.{or-true}
use Rattle.std.specs.List.{AllByRecursion}
use Rattle.std.proofs.lemmas.Grind.{flat_map-append}
use Rattle.std.proofs.lemmas.List.{append_assoc, append-nil, map-append}
use Rattle.std.proofs.lemmas.List.Concat.{flat_map-cons}
use Rattle.std.proofs.lemmas.List.Elements.{filter-append}
use Rattle.mv_syntax.specs.declared.unit.Declarator.{Declarator}
use Rattle.mv_syntax.specs.declared.unit.Item.{Item}
use Rattle.mv_syntax.specs.declared.unit.Specs.{out-Specs}
use Rattle.mv_check_outline.specs.declared.outline.Wanted.{Wanted}
use Rattle.mv_check_outline.specs.Names.{same_name, is_among}
use Rattle.mv_check_outline.specs.Outlined.{is_wanted, name_of, names_in, all_names}
use Rattle.mv_check_declarations.specs.declared.attributes.Position.TheVariants as position
use Rattle.mv_check_declarations.specs.declared.specifiers.Specified.{Specified}
use Rattle.mv_check_declarations.specs.Specifiers.{specifiers}
use Rattle.mv_check_declarations.specs.Turns.{through}
use Rattle.mv_accepts.proofs.OfStatements.Judging.{IfGood, if_then, if_kept, if_more}
use Rattle.mv_accepts.proofs.OfStatements.Lists.{all_more}
use Rattle.mv_types.specs.declared.contents.Contents.{Contents}
use Rattle.mv_types.specs.declared.contents.Foreknown.{Foreknown}
use Rattle.mv_types.specs.Contents.{in_scope}
use Rattle.mv_types.specs.Units.{declarator_judgement, holders, declares_nothing, item_judgement}
use Rattle.mv_accepts.proofs.OfNumbers.NameLists.{name_itself, among_more, among_later}
use Rattle.mv_accepts.proofs.OfNumbers.Turns.{if_done}

-- ---- the names of declarators and items

-- the name of a declarator, where it is wanted
abbrev pub one : Wanted → Item → Declarator → List (List ℕ)
one w i d = if is_wanted w i d then name_of d ∷ [] else []

abbrev pub some : Wanted → Item → List Declarator → List (List ℕ)
some w i ds = map name_of (filter (is_wanted w i) ds)

some_more : (w : Wanted) (i : Item) (ds : List Declarator) (d : Declarator) → some w i (ds ++ d ∷ []) ≡ some w i ds ++ one w i d
some_more w i ds d =
    ap (map name_of) (filter-append (is_wanted w i) ds (d ∷ [])) ∙
    (map-append name_of (filter (is_wanted w i) ds) (filter (is_wanted w i) (d ∷ [])) ∙ ap (λ ns. some w i ds ++ ns) (by (is_wanted w i d)))
  where
    by : (b : Bool) → map name_of (if b then d ∷ [] else []) ≡ (if b then name_of d ∷ [] else [])
    by true = refl
    by false = refl

all_more_names : (w : Wanted) (done : List Item) (i : Item) → all_names w (done ++ i ∷ []) ≡ all_names w done ++ names_in w i
all_more_names w done i =
    flat_map-append (names_in w) done (i ∷ []) ∙
    ap (λ ns. all_names w done ++ ns) (flat_map-cons (names_in w) i [] ∙ append-nil (names_in w i))

-- ---- each declarator that is wanted is among the names

abbrev pub IsNamed : Wanted → List (List ℕ) → Item → Declarator → Type 0
IsNamed w ns i d = is_wanted w i d ≡ true → is_among (name_of d) ns ≡ true

abbrev pub AreNamed : Wanted → List (List ℕ) → Item → Type 0
AreNamed w ns i = AllByRecursion (IsNamed w ns i) i.names

some_named : (w : Wanted) (i : Item) (ds : List Declarator) → AllByRecursion (IsNamed w (some w i ds) i) ds
some_named w i [] = tt
some_named w i (d ∷ ds) = (
  λ q. ap (λ b. is_among (name_of d) (map name_of (if b then d ∷ filter (is_wanted w i) ds else filter (is_wanted w i) ds))) q ∙
      ap (λ b. b || is_among (name_of d) (some w i ds)) (name_itself (name_of d)),
  all_more (IsNamed w (some w i ds) i) (IsNamed w (some w i (d ∷ ds)) i) (λ e h q. more (is_wanted w i d) e (h q)) ds (some_named w i ds),
)
  where
    more : (b : Bool) (e : Declarator) → is_among (name_of e) (some w i ds) ≡ true →
        is_among (name_of e) (map name_of (if b then d ∷ filter (is_wanted w i) ds else filter (is_wanted w i) ds)) ≡ true
    more true e h = ap (λ b. same_name (name_of e) (name_of d) || b) h ∙ or-true (same_name (name_of e) (name_of d))
    more false e h = h

pub all_named : (w : Wanted) (items : List Item) → AllByRecursion (AreNamed w (all_names w items)) items
all_named w [] = tt
all_named w (i ∷ is) = (
  all_more (IsNamed w (names_in w i) i) (IsNamed w (all_names w (i ∷ is)) i)
      (λ d h q. subst (λ ns. is_among (name_of d) ns ≡ true) (sym (flat_map-cons (names_in w) i is)) (among_more (name_of d) (names_in w i) (all_names w is) (h q)))
      i.names (some_named w i i.names),
  all_more (AreNamed w (all_names w is)) (AreNamed w (all_names w (i ∷ is)))
      (λ j h. all_more (IsNamed w (all_names w is) j) (IsNamed w (all_names w (i ∷ is)) j)
      (λ d h q. subst (λ ns. is_among (name_of d) ns ≡ true) (sym (flat_map-cons (names_in w) i is)) (among_later (name_of d) (names_in w i) (all_names w is) (h q))) j.names h)
      is (all_named w is),
)

-- ---- two lists of names that grow with the contents

module _ (k : Foreknown) (w v : Wanted) (P : List (List ℕ) → List (List ℕ) → Contents → Type 0) (B : Item → Specified → Type 0) (G : Item → Declarator → Type 0)
    (first : (i : Item) (xs ys : List (List ℕ)) (c : Contents) → P xs ys c →
    IfGood (specifiers position.File (holders k i.names) i.specs c.scope) (λ b. B i b.1 × P xs ys (in_scope c b.0)))
    (each : (i : Item) (b : Specified) → B i b → (d : Declarator) → G i d → (xs ys : List (List ℕ)) (c : Contents) → P xs ys c →
    IfGood (declarator_judgement k b i.body d c) (P (xs ++ one w i d) (ys ++ one v i d))) where
  moved : (xs xs' ys ys' : List (List ℕ)) (c : Contents) → xs ≡ xs' → ys ≡ ys' → P xs ys c → P xs' ys' c
  moved xs xs' ys ys' c e f h = subst (λ zs. P zs ys' c) e (subst (λ zs. P xs zs c) f h)

  abbrev Behind : Item → List (List ℕ) → List (List ℕ) → List Declarator → Contents → Type 0
  Behind i xs ys ds c = P (xs ++ some w i ds) (ys ++ some v i ds) c

  one_more : (i : Item) (b : Specified) → B i b → (xs ys : List (List ℕ)) (ds : List Declarator) (d : Declarator) → G i d → (c : Contents) → Behind i xs ys ds c →
      IfGood (declarator_judgement k b i.body d c) (Behind i xs ys (ds ++ d ∷ []))
  one_more i b h xs ys ds d g c p =
      if_more (P ((xs ++ some w i ds) ++ one w i d) ((ys ++ some v i ds) ++ one v i d)) (Behind i xs ys (ds ++ d ∷ [])) (declarator_judgement k b i.body d c)
      (λ t. moved ((xs ++ some w i ds) ++ one w i d) (xs ++ some w i (ds ++ d ∷ [])) ((ys ++ some v i ds) ++ one v i d) (ys ++ some v i (ds ++ d ∷ [])) t
      (append_assoc xs (some w i ds) (one w i d) ∙ ap (λ ns. xs ++ ns) (sym (some_more w i ds d)))
      (append_assoc ys (some v i ds) (one v i d) ∙ ap (λ ns. ys ++ ns) (sym (some_more v i ds d))))
      (each i b h d g (xs ++ some w i ds) (ys ++ some v i ds) c p)

  abbrev After : List Item → Contents → Type 0
  After done c = P (all_names w done) (all_names v done) c

  item_done : (done : List Item) (i : Item) → AllByRecursion (G i) i.names → (c : Contents) → After done c → IfGood (item_judgement k i c) (After (done ++ i ∷ []))
  unfolding item_judgement
  item_done done i g c h =
      let xs : List (List ℕ) = all_names w done in
      let ys : List (List ℕ) = all_names v done in
      if_then (λ b. B i b.1 × P xs ys (in_scope c b.0)) (After (done ++ i ∷ [])) (specifiers position.File (holders k i.names) i.specs c.scope) _ (first i xs ys c h) (λ b e.
      if_kept (After (done ++ i ∷ [])) (declares_nothing i) (out-Specs i.specs).place 22 (through (declarator_judgement k b.1 i.body) i.names (in_scope c b.0)) (λ q.
      if_more (Behind i xs ys i.names) (After (done ++ i ∷ [])) (through (declarator_judgement k b.1 i.body) i.names (in_scope c b.0))
      (λ t. moved (xs ++ names_in w i) (all_names w (done ++ i ∷ [])) (ys ++ names_in v i) (all_names v (done ++ i ∷ [])) t (sym (all_more_names w done i)) (sym (all_more_names v done i)))
      (if_done (declarator_judgement k b.1 i.body) (Behind i xs ys) (G i) (one_more i b.1 e.0 xs ys) i.names g [] (in_scope c b.0)
      (moved xs (xs ++ []) ys (ys ++ []) (in_scope c b.0) (sym (append-nil xs)) (sym (append-nil ys)) e.1))))

  pub items_done : (items : List Item) → AllByRecursion (λ i. AllByRecursion (G i) i.names) items → (c : Contents) → P [] [] c →
      IfGood (through (item_judgement k) items c) (P (all_names w items) (all_names v items))
  items_done items g c h = if_done (item_judgement k) After (λ i. AllByRecursion (G i) i.names) item_done items g [] c h
