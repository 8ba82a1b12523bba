-- What settled text is.
use Rattle.std.proofs.Common.{◌≡◌, inl, inr, ℕ, ◌<◌, ◌≤◌, List, [], ◌∷◌, length, replicate, slice_get, get_or, Option, Some, None, refl, sym, ap, ap₂, ◌∙◌, arith}
use Rattle.std.proofs.lemmas.List.{length-replicate, get_or-replicate, same_lists, get_or_default}
use Rattle.std.proofs.lemmas.Option.{slice_get_within, get_or_from_slice_get, slice_get-get_or}
use Rattle.mv_fetch.specs.Held.{Held, Room, older_at, choices, choices_of}
use Rattle.mv_patch.specs.Pairs.{place}
use Rattle.mv_refine_machine.specs.Stores.Between.{IsSettled, IsWordBetween, IsBetween}
use Rattle.mv_refine_machine.proofs.OfStores.Places.{choices_at}

pub one_choice : (text : List ℕ) (room : Room) → IsSettled text room → place (length text) ≤ 0x0010_0000 → (k w : ℕ) → slice_get text k ≡ Some w → choices room.held (place k) ≡ w ∷ []
one_choice text room h lies k w there =
    let within = slice_get_within text k w there in
    choices_at room.held k (omega (arith, lies, within))
    ∙ ap₂ (λ (x : Option ℕ) (xs : List ℕ). choices_of x xs)
    (ap (λ (l : List ℕ). slice_get l k) h.text ∙ there)
    (ap (λ (l : List (List ℕ)). older_at l k) h.older ∙ get_or-replicate (length text) k [] [] within)

-- ---- a word between a word and itself

the_word : (w : ℕ) (o : Option ℕ) (older : List ℕ) → IsWordBetween w w (choices_of o older) → (o ≡ Some w) × (older ≡ [])
the_word w None older (inl e) = absurd (cc)
the_word w None older (inr p) = absurd (p.0 refl)
the_word w (Some x) older (inl e) = (cc, cc)
the_word w (Some x) older (inr p) = absurd (p.0 refl)

pub same_told : (text : List ℕ) (h : Held) → IsBetween text text h → (h.text ≡ text) × (h.older ≡ replicate (length text) [])
same_told text h b =
    let size = b.text in
    let olds = b.older in
    let at : (k : ℕ) → k < length text → (slice_get h.text k ≡ Some (get_or text k 0)) × (older_at h.older k ≡ []) =
    λ k lt. (
    let there = slice_get-get_or text k 0 lt in
    the_word (get_or text k 0) (slice_get h.text k) (older_at h.older k) (b.words k (get_or text k 0) (get_or text k 0) there there)) in (
      same_lists h.text text size (λ k d lt. (
          let within : k < length text = omega (arith, lt, size) in
          get_or_from_slice_get h.text k (get_or text k 0) d (at k within).0 ∙ get_or_default text k 0 d within)),
      same_lists h.older (replicate (length text) []) (olds ∙ sym (length-replicate {A = List ℕ} (length text) [])) (λ k d lt. (
          let within : k < length text = omega (arith, lt, olds) in
          get_or_default h.older k d [] lt ∙ (at k within).1 ∙ sym (get_or-replicate (length text) k [] d within))),
    )

pub same_tested : (text : List ℕ) (h : Held) → (h.text ≡ text) × (h.older ≡ replicate (length text) []) → IsBetween text text h
same_tested text h p = record {
  size = refl;
  text = ap (λ (l : List ℕ). length l) p.0;
  older = ap (λ (l : List (List ℕ)). length l) p.1 ∙ length-replicate {A = List ℕ} (length text) [];
  words = λ k o n e f. inl (
      let within = slice_get_within text k o e in
      ap₂ (λ (x : Option ℕ) (xs : List ℕ). choices_of x xs)
      (ap (λ (l : List ℕ). slice_get l k) p.0 ∙ e)
      (ap (λ (l : List (List ℕ)). older_at l k) p.1 ∙ get_or-replicate (length text) k [] [] within));
}
