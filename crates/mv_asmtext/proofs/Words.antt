-- The words that are printed, but for numbers: each is a word, short, and read as what it was printed for.
use Rattle.std.proofs.Common.{inl, inr, ◌≡◌, ℕ, zero, suc, ◌<◌, ◌≤◌, refl, sym, ap, ◌∙◌, List, [], ◌∷◌, length, Bool, true, false, ◌&&◌, eqb, leb, Option, Some, None, arith}
use Rattle.std.specs.List.{list_all}
use Rattle.std.proofs.lemmas.Bool.{cases_lt}
use Rattle.std.proofs.lemmas.Bool.Decides.{nat_tests}
use Rattle.mv_asmtext.specs.declared.mnemonic.Mnemonic.{Mnemonic}
use Rattle.mv_asmtext.specs.declared.mnemonic.Mnemonic.TheVariants as names
use Rattle.mv_asmtext.specs.declared.statement.Operation.TheVariants.{Instruction}
use Rattle.mv_asmtext.specs.Lexemes.{is_word_byte, is_name_byte}
use Rattle.mv_asmtext.specs.Mnemonics.{name_of, mnemonic_named}
use Rattle.mv_asmtext.specs.Registers.{register_name, register_named}
use Rattle.mv_asmtext.specs.Statements.{operation_named}
use Rattle.mv_num.proofs.Booleans.{and_right, and_left}

-- not empty, and of word bytes
abbrev pub is_word : List ℕ → Bool
is_word [] = false
is_word (b ∷ bs) = list_all is_word_byte (b ∷ bs)

-- a word of at most eight bytes
unfoldable pub is_short_word : List ℕ → Bool
is_short_word w = is_word w && leb (length w) 8

pub short_is_word : (w : List ℕ) → is_short_word w ≡ true → is_word w ≡ true
unfolding is_short_word
short_is_word w h = and_left (is_word w) (leb (length w) 8) h

pub short_length : (w : List ℕ) → is_short_word w ≡ true → length w ≤ 8
unfolding is_short_word
short_length w h = let k = and_right (is_word w) (leb (length w) 8) h in grind (arith, nat_tests)

-- ---- tests of each number below another

unfoldable every : ℕ → (ℕ → Bool) → Bool
every zero p = true
every (suc n) p = p n && every n p

every_holds : (n : ℕ) (p : ℕ → Bool) → every n p ≡ true → (k : ℕ) → k < n → p k ≡ true
unfolding every
every_holds zero p h k below = absurd (omega arith)
every_holds (suc n) p h k below = elim (cases_lt k n) [
  | inl less ↦ every_holds n p (and_right (p n) (every n p) h) k less
  | inr more ↦ let e : n ≡ k = omega arith in ap p (sym e) ∙ and_left (p n) (every n p) h
]

unfoldable is_some_of : Option ℕ → ℕ → Bool
is_some_of None n = false
is_some_of (Some m) n = eqb m n

some_of : (o : Option ℕ) (n : ℕ) → is_some_of o n ≡ true → o ≡ Some n
unfolding is_some_of
some_of None n h = cc
some_of (Some m) n h = ap Some (grind (arith, nat_tests))

-- ---- registers

pub register_back : (r : ℕ) → r < 32 → register_named (register_name r) ≡ Some r
unfolding register_named register_name every is_some_of
register_back r h = some_of _ r (every_holds 32 (λ r. is_some_of (register_named (register_name r)) r) refl r h)

pub register_word : (r : ℕ) → r < 32 → is_short_word (register_name r) ≡ true
unfolding register_name every is_short_word is_word_byte is_name_byte
register_word r h = every_holds 32 (λ r. is_short_word (register_name r)) refl r h

-- ---- mnemonics

pub mnemonic_back : (m : Mnemonic) → operation_named (name_of m) ≡ Some (Instruction m)
unfolding name_of mnemonic_named operation_named
mnemonic_back names.Lui = refl
mnemonic_back m = refl

pub mnemonic_word : (m : Mnemonic) → is_short_word (name_of m) ≡ true
unfolding name_of is_short_word is_word_byte is_name_byte
mnemonic_word names.Lui = refl
mnemonic_word m = refl
