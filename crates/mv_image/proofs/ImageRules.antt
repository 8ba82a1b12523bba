-- What follows from the rules of an image.
use Rattle.std.proofs.Common.{◌≡◌, ℕ, ◌-◌, ◌%◌, ◌<◌, ◌^◌, true, false, eqb, inl, inr, slice_index, subst, refl, List, [], ◌∷◌, ◌++◌, length, ap, ◌∙◌, arith, append_assoc}
use Rattle.std.proofs.lemmas.Bool.{cases_Bool, ne_eqb}
use Rattle.std.specs.Prelude.{replicate}
use Rattle.std.specs.List.{flat_map}
use Rattle.mv_descriptors.specs.Widths.{switch_words, function_words, variant_words, guard_words, site_words, pointer_words, point_words, target_words}
use Rattle.mv_num.specs.Bytes.{AreWords, bytes_of}
use Rattle.mv_image.specs.Spelling.{Fields, joined, filled, later_of, header_of, words_in, spelling}
use Rattle.mv_image.specs.Faults.{CountsFit, Rules}
use Rattle.mv_image.specs.Places.{text_place, data_place, switches_place, functions_place, variants_place, guards_place, sites_place, names_place}

pub later_words : (image : Fields) → eqb image.version 2 ≡ true → later_of image ≡ length image.pointers ∷ length image.points ∷ length image.targets ∷ image.check ∷ []
unfolding later_of
later_words image e = rw e refl

later_fit : (image : Fields) → AreWords (words_in image) → eqb image.version 2 ≡ true → (length image.pointers < 2 ^ 32) × ((length image.points < 2 ^ 32) × (length image.targets < 2 ^ 32))
unfolding words_in header_of
later_fit image fits e =
    let all : List ℕ → List ℕ = λ l. l ++ image.text ++ image.globals ++ flat_map switch_words image.switches ++ flat_map function_words image.functions ++ flat_map variant_words image.variants
    ++ flat_map guard_words image.guards ++ flat_map site_words image.sites ++ flat_map pointer_words image.pointers ++ flat_map point_words image.points ++ flat_map target_words image.targets in
    let same : (i : ℕ) → slice_index (all (later_of image)) i < 2 ^ 32 → slice_index (all (length image.pointers ∷ length image.points ∷ length image.targets ∷ image.check ∷ [])) i < 2 ^ 32 =
    λ i. subst (λ (l : List ℕ). slice_index (all l) i < 2 ^ 32) (later_words image e) in
    (same 0 (fits 12), (same 1 (fits 13), same 2 (fits 14)))

pub header_short : (image : Fields) → (image.version ≡ 2 → ⊥) → header_of image ≡ 0x3149564D ∷ image.version ∷ image.entry ∷ length image.text ∷ length image.globals ∷ length image.switches ∷ length image.functions
    ∷ length image.variants ∷ length image.guards ∷ length image.sites ∷ length (joined image.names) ∷ 0 ∷ []
unfolding header_of later_of
header_short image other = let e : eqb image.version 2 ≡ false = ne_eqb _ _ other in rw e refl

pub counts_fit : (image : Fields) → Rules image → CountsFit image
unfolding words_in header_of
counts_fit image rules =
    let fits = rules.words in
    let later : (length image.pointers < 2 ^ 32) × ((length image.points < 2 ^ 32) × (length image.targets < 2 ^ 32)) =
    elim (cases_Bool (eqb image.version 2)) [
      | inl e ↦ later_fit image fits e
      | inr e ↦
          let none = rules.first e in
          (omega (arith, ap length none.pointers), (omega (arith, ap length none.points), omega (arith, ap length none.targets)))
    ] in
    record {
      text = fits text_place;
      globals = fits data_place;
      switches = fits switches_place;
      functions = fits functions_place;
      variants = fits variants_place;
      guards = fits guards_place;
      sites = fits sites_place;
      pointers = later.0;
      points = later.1.0;
      targets = later.1.1;
      names = fits names_place;
    }

pub fill_is : (n : ℕ) → (4 - n % 4) % 4 ≡ filled n - n
fill_is n = omega arith

pub names_are : (image : Fields) (start names : List ℕ) (listed : List (List ℕ)) → start ≡ [] → listed ≡ image.names → names ≡ start ++ joined listed → names ≡ joined image.names
names_are image start names listed s l e = e ∙ ap (λ (x : List ℕ). x ++ joined listed) s ∙ ap joined l

pub zeros_are : (image : Fields) (names : List ℕ) (n : ℕ) → names ≡ joined image.names → n ≡ length names → replicate {A = ℕ} ((4 - n % 4) % 4) 0 ≡ replicate {A = ℕ} (filled (length (joined image.names)) - length (joined image.names)) 0
zeros_are image names n e len =
    let m : n ≡ length (joined image.names) = len ∙ ap length e in
    ap (λ (k : ℕ). replicate {A = ℕ} k 0) (ap (λ (k : ℕ). (4 - k % 4) % 4) m ∙ fill_is (length (joined image.names)))

pub is_written : (image : Fields) (words bytes names mid zeros out : List ℕ) → words ≡ words_in image → bytes ≡ bytes_of words
    → names ≡ joined image.names → mid ≡ bytes ++ names
    → zeros ≡ replicate {A = ℕ} (filled (length (joined image.names)) - length (joined image.names)) 0 → out ≡ mid ++ zeros → out ≡ spelling image
unfolding spelling
is_written image words bytes names mid zeros out w b n m z o =
    o ∙ ap (λ (x : List ℕ). x ++ zeros) m ∙ append_assoc bytes names zeros ∙ ap (λ (x : List ℕ). x ++ (names ++ zeros)) (b ∙ ap bytes_of w)
    ∙ ap (λ (x : List ℕ). bytes_of (words_in image) ++ (x ++ zeros)) n ∙ ap (λ (x : List ℕ). bytes_of (words_in image) ++ (joined image.names ++ x)) z
