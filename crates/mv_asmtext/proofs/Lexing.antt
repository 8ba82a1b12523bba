-- The lexeme in front of a line.
use Rattle.std.proofs.Common.{◌≡◌, ℕ, ◌+◌, ◌<◌, ◌||◌, eqb, length, get_or, sym, ◌∙◌, refl, ap, List, [], ◌∷◌, take, drop, Bool, true, false, arith, suc, nat_eq, if◌then◌else◌}
use Rattle.std.specs.List.{prefix_len}
use Rattle.std.proofs.lemmas.Bool.Decides.{nat_tests}
use Rattle.std.proofs.lemmas.List.{at_drop_more}
use Rattle.mv_asmtext.specs.Lexemes.{Lexeme, word, mark, is_word_byte, is_name_byte, is_blank, lengthened, lexemes}

pub one_more : (n : ℕ) → 1 + n ≡ suc n
one_more n = omega arith

joined : (b n : ℕ) (l : List ℕ) (ls : List Lexeme) → ls ≡ word (take n l) ∷ lexemes (drop n l) → lengthened b ls ≡ word (take (1 + n) (b ∷ l)) ∷ lexemes (drop (1 + n) (b ∷ l))
joined b n l ls h = rw (h, one_more n) refl

alone : (b n : ℕ) (l : List ℕ) → n ≡ 0 → word (b ∷ []) ∷ lexemes l ≡ word (take (1 + n) (b ∷ l)) ∷ lexemes (drop (1 + n) (b ∷ l))
alone b n l h = rw h refl

abbrev front_word : List ℕ → List Lexeme
front_word s = word (take (prefix_len is_word_byte s) s) ∷ lexemes (drop (prefix_len is_word_byte s) s)

longer : (b c : ℕ) (cs : List ℕ) (v : Bool) → is_word_byte c ≡ v → (is_word_byte c ≡ true → lexemes (c ∷ cs) ≡ front_word (c ∷ cs))
    → (if v then lengthened b (lexemes (c ∷ cs)) else word (b ∷ []) ∷ lexemes (c ∷ cs)) ≡ word
    (take (1 + prefix_len is_word_byte (c ∷ cs)) (b ∷ c ∷ cs)) ∷ lexemes (drop (1 + prefix_len is_word_byte (c ∷ cs)) (b ∷ c ∷ cs))
longer b c cs true g rest = joined b (prefix_len is_word_byte (c ∷ cs)) (c ∷ cs) (lexemes (c ∷ cs)) (rest g)
longer b c cs false g rest = alone b (prefix_len is_word_byte (c ∷ cs)) (c ∷ cs) (rw g refl)

-- the word in front is the longest
pub word_first : (b : ℕ) (bs : List ℕ) → is_word_byte b ≡ true → lexemes (b ∷ bs) ≡ front_word (b ∷ bs)
unfolding lexemes
word_first b [] h = rw h refl
word_first b (c ∷ cs) h = rw h (longer b c cs (is_word_byte c) refl (word_first c cs))

pub none_turn : (s : List ℕ) → length s ≡ 0 → lexemes s ≡ []
unfolding lexemes
none_turn [] h = refl
none_turn (b ∷ bs) h = absurd (omega arith)

-- a blank in front is no lexeme
pub blank_first : (b : ℕ) (bs : List ℕ) → is_word_byte b ≡ false → is_blank b ≡ true → lexemes (b ∷ bs) ≡ lexemes bs
unfolding lexemes
blank_first b bs h g = rw (h, g) refl

pub comment_first : (bs : List ℕ) → lexemes (35 ∷ bs) ≡ []
unfolding lexemes is_word_byte is_name_byte is_blank
comment_first bs = refl

pub mark_first : (b : ℕ) (bs : List ℕ) → is_word_byte b ≡ false → is_blank b ≡ false → nat_eq b 35 ≡ false → lexemes (b ∷ bs) ≡ mark b ∷ lexemes bs
unfolding lexemes
mark_first b bs h g k = rw (h, g, k) refl

-- ---- blanks

by_blank : (b : ℕ) (u v : Bool) → eqb b 32 ≡ u → eqb b 9 ≡ v → (u || v) ≡ true → is_word_byte b ≡ false
unfolding is_word_byte is_name_byte
by_blank b true v e f h = let k : b ≡ 32 = grind (arith, nat_tests) in rw k refl
by_blank b false true e f h = let k : b ≡ 9 = grind (arith, nat_tests) in rw k refl
by_blank b false false e f h = cc

blank_no_word : (b : ℕ) → is_blank b ≡ true → is_word_byte b ≡ false
unfolding is_blank
blank_no_word b h = by_blank b (eqb b 32) (eqb b 9) refl refl h

-- one more blank in front
pub blank_turn : (s : List ℕ) (i : ℕ) → i < length s → is_blank (get_or s i 0) ≡ true → lexemes (drop (i + 1) s) ≡ lexemes (drop i s)
blank_turn s i h b = sym (at_drop_more lexemes s i 0 h ∙ blank_first (get_or s i 0) (drop (i + 1) s) (blank_no_word (get_or s i 0) b) b)

pub comment_turn : (s : List ℕ) → 0 < length s → get_or s 0 0 ≡ 35 → lexemes s ≡ []
comment_turn [] h k = absurd (omega arith)
comment_turn (b ∷ bs) h k = ap (λ x. lexemes (x ∷ bs)) k ∙ comment_first bs

pub word_turn : (s : List ℕ) → 0 < length s → is_word_byte (get_or s 0 0) ≡ true → lexemes s ≡ word (take (prefix_len is_word_byte s) s) ∷ lexemes (drop (prefix_len is_word_byte s) s)
word_turn [] h k = absurd (omega arith)
word_turn (b ∷ bs) h k = word_first b bs k

differs : (b : ℕ) → (b ≡ 35 → ⊥) → nat_eq b 35 ≡ false
differs b h = grind (arith, nat_tests)

pub mark_turn : (s : List ℕ) → 0 < length s → is_word_byte (get_or s 0 0) ≡ false → is_blank (get_or s 0 0) ≡ false → (get_or s 0 0 ≡ 35 → ⊥) → lexemes s ≡ mark (get_or s 0 0) ∷ lexemes (drop 1 s)
mark_turn [] h k l m = absurd (omega arith)
mark_turn (b ∷ bs) h k l m = mark_first b bs k l (differs b m)
