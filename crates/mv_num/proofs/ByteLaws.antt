-- Bytes of words, and words of bytes.
use Rattle.std.proofs.Common.{◌≡◌, ℕ, suc, ◌+◌, ◌-◌, ◌*◌, ◌/◌, ◌%◌, ◌^◌, ◌<◌, ◌≤◌, List, [], ◌∷◌, ◌++◌, length, slice_index, take, drop, refl, sym, ap, ◌∙◌, append_assoc, arith}
use Rattle.std.proofs.lemmas.List.{take_more, drop-drop, length-drop}
use Rattle.byteorder.specs.Numbers.{little_from-take}
use Rattle.byteorder.specs.Endian.{little_number, little_bytes}
use Rattle.mv_num.specs.Bytes.{words_of, bytes_of, AreBytes, AreWords}

pub number-bytes : (a b c d : ℕ) → a < 256 → b < 256 → c < 256 → d < 256 → little_bytes 4 (little_number 4 (a ∷ b ∷ c ∷ d ∷ [])) ≡ a ∷ b ∷ c ∷ d ∷ []
number-bytes a b c d ha hb hc hd =
    let n : ℕ = a + 256 * (b + 256 * (c + 256 * (d + 256 * 0))) in
    let e0 : n % 256 ≡ a = omega arith in
    let e1 : n / 256 % 256 ≡ b = omega arith in
    let e2 : n / 65536 % 256 ≡ c = omega arith in
    let e3 : n / 16777216 % 256 ≡ d = omega arith in
    cc (e0, e1, e2, e3)

pub bytes-number : (w : ℕ) → w < 2 ^ 32 → little_number 4 (little_bytes 4 w) ≡ w
bytes-number w h =
    let d0 : w / 256 / 256 ≡ w / 65536 = omega arith in
    let d1 : w / 65536 / 256 ≡ w / 16777216 = omega arith in
    omega arith

pub bytes_of-words_of : (bytes : List ℕ) → AreBytes bytes → length bytes % 4 ≡ 0 → bytes_of (words_of bytes) ≡ bytes
bytes_of-words_of [] fits len = refl
bytes_of-words_of (a ∷ []) fits len = absurd (omega arith)
bytes_of-words_of (a ∷ b ∷ []) fits len = absurd (omega arith)
bytes_of-words_of (a ∷ b ∷ c ∷ []) fits len = absurd (omega arith)
bytes_of-words_of (a ∷ b ∷ c ∷ d ∷ rest) fits len =
    let front = number-bytes a b c d (fits 0) (fits 1) (fits 2) (fits 3) in
    let back = bytes_of-words_of rest (λ i. fits (suc (suc (suc (suc i))))) (omega arith) in
    ap (λ (x : List ℕ). x ++ bytes_of (words_of rest)) front ∙ ap (λ (x : List ℕ). a ∷ b ∷ c ∷ d ∷ x) back

pub words_of-bytes_of : (words : List ℕ) → AreWords words → words_of (bytes_of words) ≡ words
words_of-bytes_of [] fits = refl
words_of-bytes_of (w ∷ words) fits =
    let front = bytes-number w (fits 0) in
    let back = words_of-bytes_of words (λ i. fits (suc i)) in
    cc (front, back)

pub length-bytes_of : (words : List ℕ) → length (bytes_of words) ≡ 4 * length words
length-bytes_of [] = refl
length-bytes_of (w ∷ words) = let e = length-bytes_of words in omega (arith, e)

pub bytes_of-append : (xs ys : List ℕ) → bytes_of (xs ++ ys) ≡ bytes_of xs ++ bytes_of ys
bytes_of-append [] ys = refl
bytes_of-append (x ∷ xs) ys = ap (λ (t : List ℕ). little_bytes 4 x ++ t) (bytes_of-append xs ys) ∙ sym (append_assoc (little_bytes 4 x) (bytes_of xs) (bytes_of ys))

-- the next word, where four bytes are left
pub words_of-next : (bytes : List ℕ) → 4 ≤ length bytes → words_of bytes ≡ little_number 4 bytes ∷ words_of (drop 4 bytes)
words_of-next [] h = absurd (omega arith)
words_of-next (a ∷ []) h = absurd (omega arith)
words_of-next (a ∷ b ∷ []) h = absurd (omega arith)
words_of-next (a ∷ b ∷ c ∷ []) h = absurd (omega arith)
words_of-next (a ∷ b ∷ c ∷ d ∷ rest) h = refl

pub bytes_of-grow : (ws bytes cells new : List ℕ) (i : ℕ) → i < length ws → bytes ≡ bytes_of (take i ws) → cells ≡ little_bytes 4 (slice_index ws i) → new ≡ bytes ++ cells → new ≡ bytes_of (take (i + 1) ws)
bytes_of-grow ws bytes cells new i lt was cell made =
    let more : take (i + 1) ws ≡ take i ws ++ slice_index ws i ∷ [] = take_more ws i 0 lt in
    let parts = bytes_of-append (take i ws) (slice_index ws i ∷ []) in
    made ∙ ap (λ (x : List ℕ). x ++ cells) was ∙ ap (λ (x : List ℕ). bytes_of (take i ws) ++ x) cell ∙ sym parts ∙ ap bytes_of (sym more)

pub words_of-grow : (bytes words new total : List ℕ) (word i : ℕ) → 4 * i + 4 ≤ length bytes → words ++ words_of (drop (4 * i) bytes) ≡ total → word ≡ little_number 4 (take ((4 * i + 4) - 4 * i) (drop (4 * i) bytes)) → new ≡ words ++ word ∷ [] → new ++ words_of (drop (4 * (i + 1)) bytes) ≡ total
words_of-grow bytes words new total word i room was read made =
    let same : little_number 4 (take ((4 * i + 4) - 4 * i) (drop (4 * i) bytes)) ≡ little_number 4 (drop (4 * i) bytes) = little_from-take 0 4 ((4 * i + 4) - 4 * i) (drop (4 * i) bytes) (omega arith) in
    let next = words_of-next (drop (4 * i) bytes) (omega (arith, length-drop (4 * i) bytes)) in
    let rest : drop 4 (drop (4 * i) bytes) ≡ drop (4 * (i + 1)) bytes = drop-drop 4 (4 * i) bytes ∙ ap (λ (n : ℕ). drop n bytes) (omega arith) in
    ap (λ (x : List ℕ). x ++ words_of (drop (4 * (i + 1)) bytes)) made
    ∙ ap (λ (w : ℕ). (words ++ w ∷ []) ++ words_of (drop (4 * (i + 1)) bytes)) (read ∙ same)
    ∙ append_assoc words (little_number 4 (drop (4 * i) bytes) ∷ []) (words_of (drop (4 * (i + 1)) bytes))
    ∙ ap (λ (x : List ℕ). words ++ little_number 4 (drop (4 * i) bytes) ∷ words_of x) (sym rest)
    ∙ ap (λ (x : List ℕ). words ++ x) (sym next) ∙ was

pub length-words_of : (bytes : List ℕ) → length (words_of bytes) ≡ length bytes / 4
length-words_of [] = refl
length-words_of (a ∷ []) = omega arith
length-words_of (a ∷ b ∷ []) = omega arith
length-words_of (a ∷ b ∷ c ∷ []) = omega arith
length-words_of (a ∷ b ∷ c ∷ d ∷ rest) = let e = length-words_of rest in omega (arith, e)
