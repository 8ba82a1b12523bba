-- The lexemes of printed operands, and the operands that are read of them.
use Rattle.std.proofs.Common.{◌≡◌, ℕ, ◌+◌, ◌*◌, ◌<◌, ◌≤◌, refl, ap, ◌∙◌, List, [], ◌∷◌, ◌++◌, length, map, Bool, true, false, ◌&&◌, ◌||◌, not, eqb, Some, None, arith, length-append}
use Rattle.std.specs.List.{list_all}
use Rattle.std.proofs.lemmas.Bool.Decides.{nat_tests}
use Rattle.std.proofs.lemmas.List.Folds.{list_all-append}
use Rattle.mv_asmtext.specs.declared.operand.Element.{Element}
use Rattle.mv_asmtext.specs.declared.operand.Element.TheVariants as elements
use Rattle.mv_asmtext.specs.declared.parts.Parts.{Parts}
use Rattle.mv_asmtext.specs.declared.statement.Operands.{Operands}
use Rattle.mv_asmtext.specs.declared.statement.Value.TheVariants as values
use Rattle.mv_asmtext.specs.Lexemes.{Lexeme, word, mark, is_word_byte, is_name_byte, is_blank, is_name, begins_word, lengthened, lexemes}
use Rattle.mv_asmtext.specs.Numbers.{number_of, number_from}
use Rattle.mv_asmtext.specs.Printing.{element_text, elements_text, operands_text, number_text}
use Rattle.mv_asmtext.specs.Registers.{register_name}
use Rattle.mv_asmtext.specs.Statements.{filled, filled_one, set_register, set_value, label_in}
use Rattle.mv_asmtext.proofs.Words.{is_word, is_short_word, short_is_word, short_length, register_back, register_word}
use Rattle.mv_num.proofs.Booleans.{and_right, and_left}

-- ---- words and bytes of a line

lex_one : (b : ℕ) (s : List ℕ) → is_word_byte b ≡ true → begins_word s ≡ false → lexemes (b ∷ s) ≡ word (b ∷ []) ∷ lexemes s
unfolding lexemes
lex_one b s h k = rw (h, k) refl

lex_more : (b c : ℕ) (s : List ℕ) → is_word_byte b ≡ true → is_word_byte c ≡ true → lexemes (b ∷ c ∷ s) ≡ lengthened b (lexemes (c ∷ s))
unfolding lexemes
lex_more b c s h k = rw (h, k) refl

lex_bytes : (b : ℕ) (bs s : List ℕ) → is_word_byte b ≡ true → list_all is_word_byte bs ≡ true → begins_word s ≡ false → lexemes (b ∷ (bs ++ s)) ≡ word (b ∷ bs) ∷ lexemes s
lex_bytes b [] s hb hbs hs = lex_one b s hb hs
lex_bytes b (c ∷ cs) s hb hbs hs =
    let hc = and_left (is_word_byte c) (list_all is_word_byte cs) hbs in
    lex_more b c (cs ++ s) hb hc ∙ ap (lengthened b) (lex_bytes c cs s hc (and_right (is_word_byte c) (list_all is_word_byte cs) hbs) hs)

-- a word that no word byte follows is a lexeme
pub lex_word : (w s : List ℕ) → is_word w ≡ true → begins_word s ≡ false → lexemes (w ++ s) ≡ word w ∷ lexemes s
lex_word [] s h hs = cc
lex_word (b ∷ bs) s h hs = lex_bytes b bs s (and_left (is_word_byte b) (list_all is_word_byte bs) h) (and_right (is_word_byte b) (list_all is_word_byte bs) h) hs

pub lex_space : (s : List ℕ) → lexemes (32 ∷ s) ≡ lexemes s
unfolding lexemes is_word_byte is_name_byte is_blank
lex_space s = refl

lex_comma : (s : List ℕ) → lexemes (44 ∷ 32 ∷ s) ≡ mark 44 ∷ lexemes s
unfolding lexemes is_word_byte is_name_byte is_blank
lex_comma s = refl

lex_open : (s : List ℕ) → lexemes (40 ∷ s) ≡ mark 40 ∷ lexemes s
unfolding lexemes is_word_byte is_name_byte is_blank
lex_open s = refl

lex_close : (s : List ℕ) → lexemes (41 ∷ s) ≡ mark 41 ∷ lexemes s
unfolding lexemes is_word_byte is_name_byte is_blank
lex_close s = refl

-- a byte that doesn't end a line
abbrev pub is_line_byte : ℕ → Bool
is_line_byte b = not (eqb b 10)

by_feed : (b : ℕ) (v : Bool) → eqb b 10 ≡ v → is_word_byte b ≡ true → not v ≡ true
unfolding is_word_byte is_name_byte
by_feed b true e h = let k : b ≡ 10 = grind (arith, nat_tests) in rw k at h
by_feed b false e h = refl

word_in_line : (w : List ℕ) → list_all is_word_byte w ≡ true → list_all is_line_byte w ≡ true
word_in_line [] h = refl
word_in_line (b ∷ bs) h =
    rw (by_feed b (eqb b 10) refl (and_left (is_word_byte b) (list_all is_word_byte bs) h), word_in_line bs (and_right (is_word_byte b) (list_all is_word_byte bs) h)) refl

pub in_line : (w : List ℕ) → is_word w ≡ true → list_all is_line_byte w ≡ true
in_line [] h = refl
in_line (b ∷ bs) h = word_in_line (b ∷ bs) h

pub line_append : (xs ys : List ℕ) → list_all is_line_byte xs ≡ true → list_all is_line_byte ys ≡ true → list_all is_line_byte (xs ++ ys) ≡ true
line_append xs ys h k = list_all-append is_line_byte xs ys ∙ rw (h, k) refl

-- ---- elements

pub lexeme_for : Parts → Element → Lexeme
lexeme_for p elements.Rd = word (register_name p.registers.rd)
lexeme_for p elements.Rs1 = word (register_name p.registers.rs1)
lexeme_for p elements.Rs2 = word (register_name p.registers.rs2)
lexeme_for p elements.Number = word (number_text (number_from p.imm))
lexeme_for p elements.Target = word (number_text (number_from p.imm))
lexeme_for p elements.Comma = mark 44
lexeme_for p elements.Open = mark 40
lexeme_for p elements.Close = mark 41

abbrev is_mark_element : Element → Bool
is_mark_element elements.Comma = true
is_mark_element elements.Open = true
is_mark_element elements.Close = true
is_mark_element e = false

abbrev begins_mark : List Element → Bool
begins_mark [] = true
begins_mark (e ∷ es) = is_mark_element e

-- a mark follows each word, or nothing
abbrev pub is_spaced : List Element → Bool
is_spaced [] = true
is_spaced (e ∷ es) = (is_mark_element e || begins_mark es) && is_spaced es

-- registers and the number have words that are read back
pub record IsSpellable (p : Parts) : Type 0 where
  pub rd : p.registers.rd < 32
  pub rs1 : p.registers.rs1 < 32
  pub rs2 : p.registers.rs2 < 32
  pub number_word : is_short_word (number_text (number_from p.imm)) ≡ true
  pub number_name : is_name (number_text (number_from p.imm)) ≡ false
  pub number_back : number_of (number_text (number_from p.imm)) ≡ Some (number_from p.imm)

begins_no_word : (p : Parts) (es : List Element) → begins_mark es ≡ true → begins_word (elements_text p es) ≡ false
unfolding elements_text element_text is_word_byte is_name_byte
begins_no_word p [] h = refl
begins_no_word p (elements.Comma ∷ es) h = refl
begins_no_word p (elements.Open ∷ es) h = refl
begins_no_word p (elements.Close ∷ es) h = refl
begins_no_word p (e ∷ es) h = cc

-- no label's colon is among them
pub no_label : (w : List ℕ) (p : Parts) (es : List Element) → label_in (word w ∷ map (lexeme_for p) es) ≡ None
unfolding label_in lexeme_for
no_label w p [] = refl
no_label w p (elements.Rd ∷ es) = refl
no_label w p (e ∷ es) = refl

-- the operands that elements are read as
abbrev pub set_one : Parts → Element → Operands → Operands
set_one p elements.Rd o = set_register o elements.Rd p.registers.rd
set_one p elements.Rs1 o = set_register o elements.Rs1 p.registers.rs1
set_one p elements.Rs2 o = set_register o elements.Rs2 p.registers.rs2
set_one p elements.Number o = set_value o (values.Number (number_from p.imm))
set_one p elements.Target o = set_value o (values.Number (number_from p.imm))
set_one p elements.Comma o = o
set_one p elements.Open o = o
set_one p elements.Close o = o

abbrev pub set_all : Parts → List Element → Operands → Operands
set_all p [] o = o
set_all p (e ∷ es) o = set_all p es (set_one p e o)

module _ (p : Parts) (good : IsSpellable p) where
  word_ahead : (w : List ℕ) (es : List Element) → is_short_word w ≡ true → (begins_mark es && is_spaced es) ≡ true → lexemes (elements_text p es) ≡ map (lexeme_for p) es → lexemes (w ++ elements_text p es) ≡ word w ∷ map (lexeme_for p) es
  word_ahead w es h spaced rest =
      lex_word w (elements_text p es) (short_is_word w h) (begins_no_word p es (and_left (begins_mark es) (is_spaced es) spaced)) ∙ ap (λ ls. word w ∷ ls) rest

  -- the elements' text has a lexeme for each
  lex_elements : (es : List Element) → is_spaced es ≡ true → lexemes (elements_text p es) ≡ map (lexeme_for p) es
  unfolding elements_text element_text lexeme_for lexemes
  lex_elements [] h = refl
  lex_elements (elements.Rd ∷ es) h = word_ahead (register_name p.registers.rd) es (register_word p.registers.rd good.rd) h (lex_elements es (and_right (begins_mark es) (is_spaced es) h))
  lex_elements (elements.Rs1 ∷ es) h = word_ahead (register_name p.registers.rs1) es (register_word p.registers.rs1 good.rs1) h (lex_elements es (and_right (begins_mark es) (is_spaced es) h))
  lex_elements (elements.Rs2 ∷ es) h = word_ahead (register_name p.registers.rs2) es (register_word p.registers.rs2 good.rs2) h (lex_elements es (and_right (begins_mark es) (is_spaced es) h))
  lex_elements (elements.Number ∷ es) h = word_ahead (number_text (number_from p.imm)) es good.number_word h (lex_elements es (and_right (begins_mark es) (is_spaced es) h))
  lex_elements (elements.Target ∷ es) h = word_ahead (number_text (number_from p.imm)) es good.number_word h (lex_elements es (and_right (begins_mark es) (is_spaced es) h))
  lex_elements (elements.Comma ∷ es) h = lex_comma (elements_text p es) ∙ ap (λ ls. mark 44 ∷ ls) (lex_elements es h)
  lex_elements (elements.Open ∷ es) h = lex_open (elements_text p es) ∙ ap (λ ls. mark 40 ∷ ls) (lex_elements es h)
  lex_elements (elements.Close ∷ es) h = lex_close (elements_text p es) ∙ ap (λ ls. mark 41 ∷ ls) (lex_elements es h)

  lex_operands : (es : List Element) → is_spaced es ≡ true → lexemes (operands_text p es) ≡ map (lexeme_for p) es
  unfolding lexemes
  lex_operands [] h = refl
  lex_operands (e ∷ es) h = lex_space (elements_text p (e ∷ es)) ∙ lex_elements (e ∷ es) h

  behind_name : (es : List Element) → begins_word (operands_text p es) ≡ false
  unfolding is_word_byte is_name_byte
  behind_name [] = refl
  behind_name (e ∷ es) = refl

  -- the lexemes of a name and operands
  pub lex_instruction : (w : List ℕ) (es : List Element) → is_short_word w ≡ true → is_spaced es ≡ true → lexemes (w ++ operands_text p es) ≡ word w ∷ map (lexeme_for p) es
  lex_instruction w es h spaced = lex_word w (operands_text p es) (short_is_word w h) (behind_name es) ∙ ap (λ ls. word w ∷ ls) (lex_operands es spaced)

  -- ---- what is read of them

  fill_back : (e : Element) (o : Operands) → filled_one e (lexeme_for p e) o ≡ Some (set_one p e o)
  unfolding filled_one lexeme_for
  fill_back elements.Rd o = rw (register_back p.registers.rd good.rd) refl
  fill_back elements.Rs1 o = rw (register_back p.registers.rs1 good.rs1) refl
  fill_back elements.Rs2 o = rw (register_back p.registers.rs2 good.rs2) refl
  fill_back elements.Number o = rw good.number_back refl
  fill_back elements.Target o = rw (good.number_name, good.number_back) refl
  fill_back elements.Comma o = refl
  fill_back elements.Open o = refl
  fill_back elements.Close o = refl

  -- the lexemes of the elements give the operands
  pub filled_back : (es : List Element) (o : Operands) → filled es (map (lexeme_for p) es) o ≡ Some (set_all p es o)
  unfolding filled
  filled_back [] o = refl
  filled_back (e ∷ es) o = rw (fill_back e o) (filled_back es (set_one p e o))

  -- ---- bytes and length

  element_in_line : (e : Element) → list_all is_line_byte (element_text p e) ≡ true
  unfolding element_text
  element_in_line elements.Rd = in_line (register_name p.registers.rd) (short_is_word (register_name p.registers.rd) (register_word p.registers.rd good.rd))
  element_in_line elements.Rs1 = in_line (register_name p.registers.rs1) (short_is_word (register_name p.registers.rs1) (register_word p.registers.rs1 good.rs1))
  element_in_line elements.Rs2 = in_line (register_name p.registers.rs2) (short_is_word (register_name p.registers.rs2) (register_word p.registers.rs2 good.rs2))
  element_in_line elements.Number = in_line (number_text (number_from p.imm)) (short_is_word (number_text (number_from p.imm)) good.number_word)
  element_in_line elements.Target = in_line (number_text (number_from p.imm)) (short_is_word (number_text (number_from p.imm)) good.number_word)
  element_in_line elements.Comma = refl
  element_in_line elements.Open = refl
  element_in_line elements.Close = refl

  elements_in_line : (es : List Element) → list_all is_line_byte (elements_text p es) ≡ true
  unfolding elements_text
  elements_in_line [] = refl
  elements_in_line (e ∷ es) = line_append (element_text p e) (elements_text p es) (element_in_line e) (elements_in_line es)

  pub operands_in_line : (es : List Element) → list_all is_line_byte (operands_text p es) ≡ true
  operands_in_line [] = refl
  operands_in_line (e ∷ es) = elements_in_line (e ∷ es)

  element_length : (e : Element) → length (element_text p e) ≤ 8
  unfolding element_text
  element_length elements.Rd = short_length (register_name p.registers.rd) (register_word p.registers.rd good.rd)
  element_length elements.Rs1 = short_length (register_name p.registers.rs1) (register_word p.registers.rs1 good.rs1)
  element_length elements.Rs2 = short_length (register_name p.registers.rs2) (register_word p.registers.rs2 good.rs2)
  element_length elements.Number = short_length (number_text (number_from p.imm)) good.number_word
  element_length elements.Target = short_length (number_text (number_from p.imm)) good.number_word
  element_length elements.Comma = omega arith
  element_length elements.Open = omega arith
  element_length elements.Close = omega arith

  elements_length : (es : List Element) → length (elements_text p es) ≤ 8 * length es
  unfolding elements_text
  elements_length [] = omega arith
  elements_length (e ∷ es) = omega (arith, length-append (element_text p e) (elements_text p es), element_length e, elements_length es)

  pub operands_length : (es : List Element) → length (operands_text p es) ≤ 1 + 8 * length es
  operands_length [] = omega arith
  operands_length (e ∷ es) = omega (arith, elements_length (e ∷ es))
