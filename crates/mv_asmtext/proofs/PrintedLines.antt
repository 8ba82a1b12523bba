-- What each printed line is read as.
use Rattle.std.proofs.Common.{◌≡◌, ℕ, ◌^◌, ◌<◌, ◌≤◌, refl, sym, ap, subst, ◌∙◌, List, [], ◌∷◌, ◌++◌, length, map, Bool, true, false, cond, eqb, Option, Some, None, arith, length-append, codes}
use Rattle.std.specs.List.{list_all}
use Rattle.std.specs.Option.{IfSome}
use Rattle.std.proofs.lemmas.List.{append-nil, length_push}
use Rattle.std.proofs.lemmas.Bool.Decides.{nat_tests}
use Rattle.mv_isa.specs.declared.instr.Instr.{Instr}
use Rattle.mv_isa.specs.declared.instr.Instr.TheVariants.{Ebreak}
use Rattle.mv_isa.specs.Encoding.{encode, decode, Fits, IsEncodingOf}
use Rattle.mv_isa.proofs.Again.{decode_said}
use Rattle.mv_asmtext.specs.declared.code.Code.{Code}
use Rattle.mv_asmtext.specs.declared.mnemonic.Mnemonic.{Mnemonic}
use Rattle.mv_asmtext.specs.declared.mnemonic.Mnemonic.TheVariants as names
use Rattle.mv_asmtext.specs.declared.number.Number.{Number}
use Rattle.mv_asmtext.specs.declared.parts.Parts.{Parts}
use Rattle.mv_asmtext.specs.declared.source.Section.{Section}
use Rattle.mv_asmtext.specs.declared.source.Section.TheVariants as sections
use Rattle.mv_asmtext.specs.declared.statement.Operation.{Operation}
use Rattle.mv_asmtext.specs.declared.statement.Operation.TheVariants.{Instruction, Word, Entry, Data}
use Rattle.mv_asmtext.specs.declared.statement.Operands.{Operands}
use Rattle.mv_asmtext.specs.declared.statement.Statement.{Statement}
use Rattle.mv_asmtext.specs.declared.statement.Value.TheVariants as values
use Rattle.mv_asmtext.specs.Assembly.{accepts, put_word, put_statement}
use Rattle.mv_asmtext.specs.Lexemes.{Lexeme, word, is_word_byte, is_name_byte, lexemes}
use Rattle.mv_asmtext.specs.Mnemonics.{name_of, operands_of, field_of, parts_of, instruction}
use Rattle.mv_asmtext.specs.Numbers.{number, number_from, signed}
use Rattle.mv_asmtext.specs.Printing.{instruction_text, operands_text, raw_text, decoded_text, word_text}
use Rattle.mv_asmtext.specs.Sources.{place, place_in}
use Rattle.mv_asmtext.specs.Statements.{operation_named, elements_of, filled, filled_one, no_operands, set_value, with_operands, statement_of, unlabelled, label_in, body, body_of}
use Rattle.mv_asmtext.proofs.FieldHolds.{signed_back, negative_some, field_holds, registers_fit, rebuilt}
use Rattle.mv_asmtext.proofs.InstructionFits.{holds_small}
use Rattle.mv_asmtext.proofs.NumberTexts.{hex_text, hex_length, hex_word, hex_back, number_word, number_no_name, number_back}
use Rattle.mv_asmtext.proofs.Pieces.{IsSpellable, lexeme_for, is_spaced, is_line_byte, in_line, line_append, lex_word, lex_space, lex_instruction, no_label, set_all, filled_back, operands_in_line, operands_length}
use Rattle.mv_asmtext.proofs.Words.{is_word, short_is_word, short_length, mnemonic_back, mnemonic_word}

-- ---- a line without a label

statement_from : (w : List ℕ) (ls : List Lexeme) (op : Operation) (o : Operands) → operation_named w ≡ Some op → filled (elements_of op) ls no_operands ≡ Some o → statement_of (word w ∷ ls) ≡ Some (with_operands op o)
unfolding statement_of
statement_from w ls op o h k = rw h (rw k refl)

body_from : (w : List ℕ) (ls : List Lexeme) (s : Statement) → label_in (word w ∷ ls) ≡ None → statement_of (word w ∷ ls) ≡ Some s → body_of (word w ∷ ls) ≡ Some (body None (Some s))
unfolding body_of unlabelled
body_from w ls s h k = rw (h, k) refl

-- a line is read as a statement with a number, which gives a word of its section
pub record IsLine (section : Section) (line : List ℕ) (w : ℕ) : Type 0 where
  pub statement : Statement
  pub number : Number
  pub reads : body_of (lexemes line) ≡ Some (body None (Some statement))
  pub value : statement.operands.value ≡ values.Number number
  pub accepted : (words : ℕ) → accepts words statement.operation number ≡ true
  pub onward : (code : Code) → place_in statement.operation section (length code.text) (length code.globals) ≡ Some (place section (length (put_word code section w).text) (length (put_word code section w).globals))
  pub gives : (code : Code) → put_statement code section statement.operation statement.operands number ≡ put_word code section w
  pub bytes : list_all is_line_byte line ≡ true

-- ---- an instruction

pub spellable : (i : Instr) → Fits i → IsSpellable (parts_of i)
spellable i h =
    let small = holds_small (field_of (parts_of i).mnemonic) (number_from (parts_of i).imm) (field_holds i h) in
    let registers = registers_fit i h in
    record {
      rd = registers.0;
      rs1 = registers.1;
      rs2 = registers.2;
      number_word = number_word (number_from (parts_of i).imm) small;
      number_name = number_no_name (number_from (parts_of i).imm);
      number_back = number_back (number_from (parts_of i).imm) (omega (arith, small)) (negative_some (parts_of i).imm);
    }

spaced : (m : Mnemonic) → is_spaced (operands_of m) ≡ true
unfolding operands_of
spaced names.Lui = refl
spaced m = refl

few_operands : (m : Mnemonic) → length (operands_of m) ≤ 6
unfolding operands_of
few_operands names.Lui = omega arith
few_operands m = omega arith

abbrev operands_for : Parts → Operands
operands_for p = record { registers = p.registers; value = values.Number (number_from p.imm) }

-- an instruction's operands are all among its elements
all_set : (i : Instr) → set_all (parts_of i) (operands_of (parts_of i).mnemonic) no_operands ≡ operands_for (parts_of i)
unfolding operands_of parts_of number_from
all_set Ebreak = refl
all_set i = refl

instruction_reads : (i : Instr) → Fits i → body_of (lexemes (instruction_text (parts_of i))) ≡ Some (body None (Some (with_operands (Instruction (parts_of i).mnemonic) (operands_for (parts_of i)))))
unfolding instruction_text elements_of
instruction_reads i h =
    let p = parts_of i in
    let good = spellable i h in
    let name = name_of p.mnemonic in
    let es = operands_of p.mnemonic in
    let ls = map (lexeme_for p) es in
    let operands : filled es ls no_operands ≡ Some (operands_for p) = filled_back p good es no_operands ∙ ap Some (all_set i) in
    ap body_of (lex_instruction p good name es (mnemonic_word p.mnemonic) (spaced p.mnemonic)) ∙
    body_from name ls (with_operands (Instruction p.mnemonic) (operands_for p)) (no_label name p es)
    (statement_from name ls (Instruction p.mnemonic) (operands_for p) (mnemonic_back p.mnemonic) operands)

instruction_bytes : (i : Instr) → Fits i → list_all is_line_byte (instruction_text (parts_of i)) ≡ true
unfolding instruction_text
instruction_bytes i h =
    let p = parts_of i in
    line_append (name_of p.mnemonic) (operands_text p (operands_of p.mnemonic)) (in_line (name_of p.mnemonic) (short_is_word (name_of p.mnemonic) (mnemonic_word p.mnemonic))) (operands_in_line p (spellable i h) (operands_of p.mnemonic))

instruction_length : (i : Instr) → Fits i → length (instruction_text (parts_of i)) < 64
unfolding instruction_text
instruction_length i h =
    let p = parts_of i in
    omega (
      arith,
      length-append (name_of p.mnemonic) (operands_text p (operands_of p.mnemonic)),
      short_length (name_of p.mnemonic) (mnemonic_word p.mnemonic),
      operands_length p (spellable i h) (operands_of p.mnemonic),
      few_operands p.mnemonic,
    )

text_onward : (m : Mnemonic) (w : ℕ) (code : Code) → place_in (Instruction m) sections.Text (length code.text) (length code.globals) ≡ Some (place sections.Text (length (code.text ++ w ∷ [])) (length code.globals))
text_onward m w code = rw (length_push code.text w) refl

instruction_gives : (i : Instr) (code : Code) → put_statement code sections.Text (Instruction (parts_of i).mnemonic) (operands_for (parts_of i)) (number_from (parts_of i).imm) ≡ put_word code sections.Text (encode i)
instruction_gives i code =
    let e : instruction (parts_of i).mnemonic (parts_of i).registers (signed (number_from (parts_of i).imm)) ≡ i = rw (signed_back (parts_of i).imm) (rebuilt i) in
    ap (λ x. put_word code sections.Text (encode x)) e

instruction_accepted : (i : Instr) → Fits i → (words : ℕ) → accepts words (Instruction (parts_of i).mnemonic) (number_from (parts_of i).imm) ≡ true
unfolding accepts
instruction_accepted i h words = field_holds i h

instruction_line : (i : Instr) → Fits i → IsLine sections.Text (instruction_text (parts_of i)) (encode i)
instruction_line i h = record {
  statement = with_operands (Instruction (parts_of i).mnemonic) (operands_for (parts_of i));
  number = number_from (parts_of i).imm;
  reads = instruction_reads i h;
  value = refl;
  accepted = instruction_accepted i h;
  onward = text_onward (parts_of i).mnemonic (encode i);
  gives = instruction_gives i;
  bytes = instruction_bytes i h;
}

-- ---- a word in hexadecimal behind a directive

abbrev pub directive_text : List ℕ → ℕ → List ℕ
directive_text name w = name ++ 32 ∷ hex_text w

directive_lexes : (name : List ℕ) (w : ℕ) → is_word name ≡ true → lexemes (directive_text name w) ≡ word name ∷ word (hex_text w) ∷ []
unfolding lexemes is_word_byte is_name_byte
directive_lexes name w h =
    let digits : lexemes (hex_text w) ≡ word (hex_text w) ∷ [] = ap lexemes (sym (append-nil (hex_text w))) ∙ lex_word (hex_text w) [] (hex_word w) refl in
    lex_word name (32 ∷ hex_text w) h refl ∙ ap (λ ls. word name ∷ ls) (lex_space (hex_text w) ∙ digits)

directive_bytes : (name : List ℕ) (w : ℕ) → is_word name ≡ true → list_all is_line_byte (directive_text name w) ≡ true
directive_bytes name w h = line_append name (32 ∷ hex_text w) (in_line name h) (in_line (hex_text w) (hex_word w))

abbrev pub operands_with : ℕ → Operands
operands_with w = set_value no_operands (values.Number (number false w))

two_words : (v w : List ℕ) → label_in (word v ∷ word w ∷ []) ≡ None
unfolding label_in
two_words v w = refl

filled_word : (w : ℕ) → w < 2 ^ 32 → filled (elements_of Word) (word (hex_text w) ∷ []) no_operands ≡ Some (operands_with w)
unfolding filled filled_one elements_of
filled_word w h = rw (hex_back w h) refl

filled_entry : (w : ℕ) → w < 2 ^ 32 → filled (elements_of Entry) (word (hex_text w) ∷ []) no_operands ≡ Some (operands_with w)
unfolding filled filled_one elements_of
filled_entry w h = rw (hex_back w h) refl

directive_reads : (name : List ℕ) (op : Operation) (w : ℕ) → is_word name ≡ true → operation_named name ≡ Some op
    → filled (elements_of op) (word (hex_text w) ∷ []) no_operands ≡ Some (operands_with w)
    → body_of (lexemes (directive_text name w)) ≡ Some (body None (Some (with_operands op (operands_with w))))
directive_reads name op w h k l =
    ap body_of (directive_lexes name w h) ∙
    body_from name (word (hex_text w) ∷ []) (with_operands op (operands_with w)) (two_words name (hex_text w))
    (statement_from name (word (hex_text w) ∷ []) op (operands_with w) k l)

-- ---- a word as a number

word_name : is_word (codes ".word") ≡ true
unfolding is_word_byte is_name_byte
word_name = refl

word_operation : operation_named (codes ".word") ≡ Some Word
unfolding operation_named
word_operation = refl

word_accepted : (w : ℕ) → w < 2 ^ 32 → (words : ℕ) → accepts words Word (number false w) ≡ true
unfolding accepts
word_accepted w h words = grind (arith, nat_tests)

pub raw_length : (w : ℕ) → length (raw_text w) < 17
unfolding raw_text
raw_length w = omega (arith, hex_length 8 w)

raw_reads : (w : ℕ) → w < 2 ^ 32 → body_of (lexemes (raw_text w)) ≡ Some (body None (Some (with_operands Word (operands_with w))))
unfolding raw_text
raw_reads w h = directive_reads (codes ".word") Word w word_name word_operation (filled_word w h)

raw_bytes : (w : ℕ) → list_all is_line_byte (raw_text w) ≡ true
unfolding raw_text
raw_bytes w = directive_bytes (codes ".word") w word_name

raw_line : (w : ℕ) → w < 2 ^ 32 → IsLine sections.Text (raw_text w) w
raw_line w h = record {
  statement = with_operands Word (operands_with w);
  number = number false w;
  reads = raw_reads w h;
  value = refl;
  accepted = word_accepted w h;
  onward = λ code. rw (length_push code.text w) refl;
  gives = λ code. refl;
  bytes = raw_bytes w;
}

pub data_line : (w : ℕ) → w < 2 ^ 32 → IsLine sections.Data (raw_text w) w
data_line w h = record {
  statement = with_operands Word (operands_with w);
  number = number false w;
  reads = raw_reads w h;
  value = refl;
  accepted = word_accepted w h;
  onward = λ code. rw (length_push code.globals w) refl;
  gives = λ code. refl;
  bytes = raw_bytes w;
}

-- ---- a word of text

by_word : (w : ℕ) → w < 2 ^ 32 → (i : Instr) → Fits i → (same : Bool) → eqb (encode i) w ≡ same → IsLine sections.Text (cond same (instruction_text (parts_of i)) (raw_text w)) w
by_word w h i fits true e =
    let k : encode i ≡ w = grind (arith, nat_tests) in
    subst (IsLine sections.Text (instruction_text (parts_of i))) k (instruction_line i fits)
by_word w h i fits false e = raw_line w h

decoded_line : (w : ℕ) → w < 2 ^ 32 → (o : Option Instr) → IfSome o (IsEncodingOf w) → IsLine sections.Text (decoded_text w o) w
decoded_line w h None said = raw_line w h
decoded_line w h (Some i) said = by_word w h i said.0 (eqb (encode i) w) refl

pub word_line : (w : ℕ) → w < 2 ^ 32 → IsLine sections.Text (word_text w) w
unfolding word_text
word_line w h = decoded_line w h (decode w) (decode_said w h)

length_by : (w : ℕ) (i : Instr) → Fits i → (same : Bool) → length (cond same (instruction_text (parts_of i)) (raw_text w)) < 64
length_by w i fits true = instruction_length i fits
length_by w i fits false = omega (arith, raw_length w)

decoded_length : (w : ℕ) (o : Option Instr) → IfSome o (IsEncodingOf w) → length (decoded_text w o) < 64
decoded_length w None said = omega (arith, raw_length w)
decoded_length w (Some i) said = length_by w i said.0 (eqb (encode i) w)

pub word_length : (w : ℕ) → w < 2 ^ 32 → length (word_text w) < 64
unfolding word_text
word_length w h = decoded_length w (decode w) (decode_said w h)

-- ---- the directives

pub entry_reads : (w : ℕ) → w < 2 ^ 32 → body_of (lexemes (directive_text (codes ".entry") w)) ≡ Some (body None (Some (with_operands Entry (operands_with w))))
unfolding is_word_byte is_name_byte operation_named
entry_reads w h = directive_reads (codes ".entry") Entry w refl refl (filled_entry w h)

pub entry_bytes : (w : ℕ) → list_all is_line_byte (directive_text (codes ".entry") w) ≡ true
unfolding is_word_byte is_name_byte
entry_bytes w = directive_bytes (codes ".entry") w refl

pub data_reads : body_of (lexemes (codes ".data")) ≡ Some (body None (Some (with_operands Data no_operands)))
unfolding lexemes is_word_byte is_name_byte body_of label_in unlabelled statement_of operation_named elements_of filled
data_reads = refl
