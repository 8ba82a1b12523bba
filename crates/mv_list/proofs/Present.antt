-- What loads of text give: its words.
use Rattle.std.proofs.Common.{◌≡◌, ℕ, zero, suc, ◌+◌, ◌*◌, ◌%◌, ◌^◌, ◌<◌, ◌≤◌, false, true, ltb, List, ◌∷◌, length, drop, slice_get, slice_index, Some, refl, sym, ap, ap₂, ◌∙◌, arith}
use Rattle.std.proofs.lemmas.Bool.{lt-ltb, le-ltb}
use Rattle.std.proofs.lemmas.List.{drop_all, drop_more}
use Rattle.std.proofs.lemmas.Option.{slice_get-get_or}
use Rattle.mv_num.specs.Bytes.{AreWords}
use Rattle.mv_fetch.specs.Held.{Held, IsInText, region_of, index_of, present, part, load}
use Rattle.mv_list.specs.Changes.{word_now, words_now}

-- the address of a word of text
abbrev at : ℕ → ℕ
at k = 4096 + 4 * k

in_text : (k : ℕ) → at k < 0x0010_0000 → IsInText (at k)
unfolding region_of
in_text k lt =
    let e : ltb (at k) 0x1000 ≡ false = le-ltb (at k) 0x1000 (omega arith) in
    let f : ltb (at k) 0x0010_0000 ≡ true = lt-ltb (at k) 0x0010_0000 lt in
    rw (e, f) refl

index_at : (k : ℕ) → at k < 0x0010_0000 → index_of (at k) ≡ k
unfolding index_of
index_at k lt =
    let f : ltb (at k) 0x0010_0000 ≡ true = lt-ltb (at k) 0x0010_0000 lt in
    rw f (omega arith)

aligned : (k : ℕ) → at k % 4 ≡ 0
aligned k = omega arith

whole : (k w : ℕ) → w < 2 ^ 32 → part (at k) 4 w ≡ w
unfolding part
whole k w small =
    let e : at k % 4 ≡ 0 = aligned k in
    rw e (omega arith)

loaded : (held : Held) (k w : ℕ) → at k < 0x0010_0000 → slice_get held.text k ≡ Some w → w < 2 ^ 32 → word_now held (at k) ≡ w
unfolding load present
loaded held k w lt there small = rw (aligned k, in_text k lt, index_at k lt, there) (whole k w small)

pub words_there : (held : Held) (n k a : ℕ) → AreWords held.text → length held.text ≤ 131072 → a ≡ at k → n + k ≡ length held.text → words_now held a n ≡ drop k held.text
unfolding words_now
words_there held zero k a are few e all = sym (drop_all k held.text (omega (arith, all)))
words_there held (suc n) k a are few e all =
    let within : k < length held.text = omega (arith, all) in
    let here : word_now held a ≡ slice_index held.text k =
    ap (λ (x : ℕ). word_now held x) e ∙ loaded held k (slice_index held.text k) (omega (arith, few, within)) (slice_get-get_or held.text k 0 within) (are k) in
    let later : words_now held (a + 4) n ≡ drop (k + 1) held.text = words_there held n (k + 1) (a + 4) are few (omega (arith, e)) (omega (arith, all)) in
    ap₂ (λ (w : ℕ) (ws : List ℕ). w ∷ ws) here later ∙ sym (drop_more held.text k 0 within)
