-- What is printed of code is read as that code.
use Rattle.std.proofs.Common.{◌≡◌, ℕ, suc, ◌+◌, ◌*◌, ◌%◌, ◌^◌, ◌<◌, ◌≤◌, refl, sym, ap, ◌∙◌, List, [], ◌∷◌, ◌++◌, length, true, false, eqb, ltb, Some, None, Result, Ok, Err, arith, append_assoc, length-append, codes}
use Rattle.std.specs.List.{list_all}
use Rattle.std.proofs.lemmas.List.{append-nil}
use Rattle.std.proofs.lemmas.Bool.Decides.{nat_tests}
use Rattle.mv_num.specs.Bytes.{AreWords}
use Rattle.mv_num.specs.Regions.{text_limit, data_limit}
use Rattle.mv_asmtext.specs.declared.assembly.Fault.{Fault}
use Rattle.mv_asmtext.specs.declared.code.Code.{Code}
use Rattle.mv_asmtext.specs.declared.number.Number.{Number}
use Rattle.mv_asmtext.specs.declared.source.Line.{Line}
use Rattle.mv_asmtext.specs.declared.source.Place.{Place}
use Rattle.mv_asmtext.specs.declared.source.Reading.{Reading}
use Rattle.mv_asmtext.specs.declared.source.Section.{Section}
use Rattle.mv_asmtext.specs.declared.source.Section.TheVariants as sections
use Rattle.mv_asmtext.specs.declared.statement.Operation.TheVariants.{Entry, Data}
use Rattle.mv_asmtext.specs.declared.statement.Statement.{Statement}
use Rattle.mv_asmtext.specs.declared.statement.Value.TheVariants as values
use Rattle.mv_asmtext.specs.Assembly.{accepts, operand_of, put_word, put_statement, put_line, put_lines, onward, no_code}
use Rattle.mv_asmtext.specs.Labels.{labels_from, labels_of, with_name}
use Rattle.mv_asmtext.specs.Lexemes.{lexemes}
use Rattle.mv_asmtext.specs.Numbers.{number}
use Rattle.mv_asmtext.specs.Printing.{hex, word_text, raw_text, word_lines, raw_lines, data_text, printed}
use Rattle.mv_asmtext.specs.Scans.{FitsImage, scanned, of_reading}
use Rattle.mv_asmtext.specs.Sites.{Sites}
use Rattle.mv_asmtext.specs.Sources.{address_of, place, place_in, place_after, put, with_next, read_from, lines_of, nothing_read}
use Rattle.mv_asmtext.specs.Statements.{no_operands, with_operands, unlabelled, label_in, body, body_of}
use Rattle.mv_asmtext.proofs.NumberTexts.{hex_length}
use Rattle.mv_asmtext.proofs.Pieces.{is_line_byte}
use Rattle.mv_asmtext.proofs.PrintedLines.{IsLine, directive_text, operands_with, word_line, word_length, data_line, raw_length, entry_reads, entry_bytes, data_reads}
use Rattle.mv_num.proofs.Booleans.{and_right, and_left}
use Rattle.std.proofs.lemmas.Bool.{not-true}

-- ---- lines

-- a line feed parts a line from what follows
lines_cut : (line rest : List ℕ) → list_all is_line_byte line ≡ true → lines_of (line ++ 10 ∷ rest) ≡ line ∷ lines_of rest
lines_cut [] rest h = refl
lines_cut (b ∷ bs) rest h =
    rw (not-true (eqb b 10) (and_left (is_line_byte b) (list_all is_line_byte bs) h), lines_cut bs rest (and_right (is_line_byte b) (list_all is_line_byte bs) h)) refl

labels_push : (sites : Sites) (ls : List Line) (l : Line) → l.label ≡ None → labels_from sites (ls ++ l ∷ []) ≡ labels_from sites ls
unfolding labels_from
labels_push sites [] l h = rw h refl
labels_push sites (k ∷ ls) l h = labels_push (with_name sites k k.label) ls l h

module _ (words : ℕ) (sites : Sites) (l : Line) (code code' : Code) (last : put_line words sites code l ≡ Ok code') where
  by_line : (ls : List Line) (n : ℕ) (r : Result Code Fault)
      → ((next : Code) → put_lines words sites next ls ≡ Ok code → put_lines words sites next (ls ++ l ∷ []) ≡ Ok code')
      → onward n (λ next. put_lines words sites next ls) r ≡ Ok code → onward n (λ next. put_lines words sites next (ls ++ l ∷ [])) r ≡ Ok code'
  by_line ls n (Ok next) rest h = rest next h
  by_line ls n (Err fault) rest h = cc

  put_push : (ls : List Line) (c : Code) → put_lines words sites c ls ≡ Ok code → put_lines words sites c (ls ++ l ∷ []) ≡ Ok code'
  unfolding put_lines
  put_push [] c h = let e : c ≡ code = cc in rw (e, last) refl
  put_push (k ∷ ls) c h = by_line ls k.number (put_line words sites c k) (put_push ls) h

line_put : (words : ℕ) (code code' : Code) (l : Line) (s : Statement) (n : Number) → l.label ≡ None → l.statement ≡ Some s → s.operands.value ≡ values.Number n
    → accepts words s.operation n ≡ true → put_statement code l.section s.operation s.operands n ≡ code' → put_line words [] code l ≡ Ok code'
unfolding put_line
line_put words code code' l s n h k v ok gives =
    let number : operand_of words [] s.operation l.address s.operands.value ≡ Ok n = rw (v, ok) refl in
    rw (k, h, number) (ap Ok gives)

-- ---- what has been read

-- no label has been read, and the lines give the code so far, which ends at the place
record Reads (words : ℕ) (r : Reading) (section : Section) (code : Code) : Type 0 where
  pub at : r.place ≡ place section (length code.text) (length code.globals)
  pub no_labels : labels_of r.lines ≡ []
  pub gives : put_lines words [] no_code r.lines ≡ Ok code

-- behind one line
record Steps (words : ℕ) (r : Reading) (line : List ℕ) (section : Section) (code : Code) : Type 0 where
  pub next : Reading
  pub passes : (rest : List ℕ) → read_from r (lines_of (line ++ 10 ∷ rest)) ≡ read_from next (lines_of rest)
  pub reads : Reads words next section code

-- behind a text of whole lines
record Goes (words : ℕ) (r : Reading) (text : List ℕ) (section : Section) (code : Code) : Type 0 where
  pub next : Reading
  pub passes : (rest : List ℕ) → read_from r (lines_of (text ++ rest)) ≡ read_from next (lines_of rest)
  pub reads : Reads words next section code

-- behind the whole text
record Ends (words : ℕ) (r : Reading) (text : List ℕ) (code : Code) : Type 0 where
  pub last : Reading
  pub ends : read_from r (lines_of text) ≡ Ok last
  pub words_read : last.place.text_words ≡ length code.text
  pub no_labels : labels_of last.lines ≡ []
  pub gives : put_lines words [] no_code last.lines ≡ Ok code

module _ (words : ℕ) (r : Reading) (from to : Section) (code code' : Code) (known : Reads words r from code)
    (line : List ℕ) (bytes : list_all is_line_byte line ≡ true) (s : Statement) (is_read : body_of (lexemes line) ≡ Some (body None (Some s)))
    (n : Number) (value : s.operands.value ≡ values.Number n) (accepted : accepts words s.operation n ≡ true)
    (onto : place_in s.operation from (length code.text) (length code.globals) ≡ Some (place to (length code'.text) (length code'.globals)))
    (gives : put_statement code from s.operation s.operands n ≡ code') where
  abbrev behind : Place
  behind = place to (length code'.text) (length code'.globals)

  abbrev after : Reading
  after = put r (body None (Some s)) behind

  abbrev added : Line
  added = record { number = r.number + 1; section = r.place.section; address = address_of r.place; label = None; statement = Some s }

  placed : place_after r.place s.operation ≡ Some behind
  placed = ap (λ p. place_after p s.operation) known.at ∙ onto

  with_line_read : with_next r line ≡ Some after
  unfolding with_next
  with_line_read = rw (is_read, placed) refl

  line_passes : (rest : List ℕ) → read_from r (lines_of (line ++ 10 ∷ rest)) ≡ read_from after (lines_of rest)
  unfolding read_from
  line_passes rest = rw (lines_cut line rest bytes, with_line_read) refl

  gives_there : put_statement code r.place.section s.operation s.operands n ≡ code'
  gives_there = ap (λ (p : Place). put_statement code p.section s.operation s.operands n) known.at ∙ gives

  steps : Steps words r line to code'
  steps = record {
    next = after;
    passes = line_passes;
    reads = record {
      at = refl;
      no_labels = labels_push [] r.lines added refl ∙ known.no_labels;
      gives = put_push words [] added code code' (line_put words code code' added s n refl refl value accepted gives_there) r.lines no_code known.gives;
    };
  }

-- ---- many words

-- a line for each word
unfoldable lines_with : (ℕ → List ℕ) → List ℕ → List ℕ
lines_with f [] = []
lines_with f (w ∷ ws) = f w ++ 10 ∷ lines_with f ws

unfoldable put_words : Section → Code → List ℕ → Code
put_words s code [] = code
put_words s code (w ∷ ws) = put_words s (put_word code s w) ws

module _ (words : ℕ) (section : Section) (f : ℕ → List ℕ) (each : (w : ℕ) → w < 2 ^ 32 → IsLine section (f w) w) where
  word_steps : (r : Reading) (code : Code) (w : ℕ) → Reads words r section code → IsLine section (f w) w → Steps words r (f w) section (put_word code section w)
  word_steps r code w known l = steps words r section section code (put_word code section w) known (f w) l.bytes l.statement l.reads l.number l.value (l.accepted words) (l.onward code) (l.gives code)

  words_go : (ws : List ℕ) (r : Reading) (code : Code) → AreWords ws → Reads words r section code → Goes words r (lines_with f ws) section (put_words section code ws)
  unfolding lines_with put_words
  words_go [] r code are known = record { next = r; passes = λ rest. refl; reads = known }
  words_go (w ∷ ws) r code are known =
      let first = word_steps r code w known (each w (are 0)) in
      let rest = words_go ws first.next (put_word code section w) (λ i. are (suc i)) first.reads in
      record {
        next = rest.next;
        passes = λ more. ap (λ t. read_from r (lines_of t)) (append_assoc (f w) (10 ∷ lines_with f ws) more) ∙ (first.passes (lines_with f ws ++ more) ∙ rest.passes more);
        reads = rest.reads;
      }

word_lines_are : (ws : List ℕ) → word_lines ws ≡ lines_with word_text ws
unfolding word_lines lines_with
word_lines_are [] = refl
word_lines_are (w ∷ ws) = rw (word_lines_are ws) refl

raw_lines_are : (ws : List ℕ) → raw_lines ws ≡ lines_with raw_text ws
unfolding raw_lines lines_with
raw_lines_are [] = refl
raw_lines_are (w ∷ ws) = rw (raw_lines_are ws) refl

text_put : (ws : List ℕ) (code : Code) → put_words sections.Text code ws ≡ record code { text = code.text ++ ws }
unfolding put_words
text_put [] code = ap (λ ts. record code { text = ts }) (sym (append-nil code.text))
text_put (w ∷ ws) code = text_put ws (put_word code sections.Text w) ∙ ap (λ ts. record code { text = ts }) (append_assoc code.text (w ∷ []) ws)

globals_put : (ws : List ℕ) (code : Code) → put_words sections.Data code ws ≡ record code { globals = code.globals ++ ws }
unfolding put_words
globals_put [] code = ap (λ ts. record code { globals = ts }) (sym (append-nil code.globals))
globals_put (w ∷ ws) code = globals_put ws (put_word code sections.Data w) ∙ ap (λ ts. record code { globals = ts }) (append_assoc code.globals (w ∷ []) ws)

abbrev with_entry : ℕ → Code
with_entry e = record { entry = e; text = []; globals = [] }

all_put : (code : Code) → put_words sections.Data (put_words sections.Text (with_entry code.entry) code.text) code.globals ≡ code
all_put code =
    ap (λ c. put_words sections.Data c code.globals) (text_put code.text (with_entry code.entry)) ∙
    globals_put code.globals (record { entry = code.entry; text = code.text; globals = [] })

-- ---- the parts of a printed text

last_line : (r : Reading) → read_from r (lines_of []) ≡ Ok (record r { number = r.number + 1 })
unfolding read_from with_next lexemes body_of label_in unlabelled
last_line r = refl

ends_by : (words : ℕ) (r : Reading) (text : List ℕ) (section : Section) (code : Code) → Goes words r text section code → Ends words r text code
ends_by words r text section code g = record {
  last = record g.next { number = g.next.number + 1 };
  ends = ap (λ t. read_from r (lines_of t)) (sym (append-nil text)) ∙ (g.passes [] ∙ last_line g.next);
  words_read = ap (λ (p : Place). p.text_words) g.reads.at;
  no_labels = g.reads.no_labels;
  gives = g.reads.gives;
}

text_goes : (words : ℕ) (r : Reading) (code : Code) (ws : List ℕ) → AreWords ws → Reads words r sections.Text code → Goes words r (word_lines ws) sections.Text (put_words sections.Text code ws)
text_goes words r code ws are known = rw (word_lines_are ws) (words_go words sections.Text word_text word_line ws r code are known)

raw_goes : (words : ℕ) (r : Reading) (code : Code) (ws : List ℕ) → AreWords ws → Reads words r sections.Data code → Goes words r (raw_lines ws) sections.Data (put_words sections.Data code ws)
raw_goes words r code ws are known = rw (raw_lines_are ws) (words_go words sections.Data raw_text data_line ws r code are known)

data_steps : (words : ℕ) (r : Reading) (code : Code) → Reads words r sections.Text code → Steps words r (codes ".data") sections.Data code
unfolding accepts
data_steps words r code known = steps words r sections.Text sections.Data code code known (codes ".data") refl (with_operands Data no_operands) data_reads (number false 0) refl refl refl refl

data_goes : (words : ℕ) (r : Reading) (code : Code) (w : ℕ) (ws : List ℕ) → AreWords (w ∷ ws) → Reads words r sections.Text code → Goes words r (data_text (w ∷ ws)) sections.Data (put_words sections.Data code (w ∷ ws))
unfolding data_text
data_goes words r code w ws are known =
    let first = data_steps words r code known in
    let rest = raw_goes words first.next code (w ∷ ws) are first.reads in
    record {
      next = rest.next;
      passes = λ more. first.passes (raw_lines (w ∷ ws) ++ more) ∙ rest.passes more;
      reads = rest.reads;
    }

data_ends : (words : ℕ) (r : Reading) (code : Code) (ws : List ℕ) → AreWords ws → Reads words r sections.Text code → Ends words r (data_text ws) (put_words sections.Data code ws)
unfolding data_text put_words
data_ends words r code [] are known = ends_by words r [] sections.Text code (record { next = r; passes = λ rest. refl; reads = known })
data_ends words r code (w ∷ ws) are known = ends_by words r (data_text (w ∷ ws)) sections.Data (put_words sections.Data code (w ∷ ws)) (data_goes words r code w ws are known)

entry_accepted : (words e : ℕ) → 0x1000 ≤ e → e < 0x1000 + 4 * words → e % 4 ≡ 0 → accepts words Entry (number false e) ≡ true
unfolding accepts
entry_accepted words e h k l = grind (arith, nat_tests)

nothing_reads : (words : ℕ) → Reads words nothing_read sections.Start no_code
unfolding labels_from put_lines
nothing_reads words = record { at = refl; no_labels = refl; gives = refl }

entry_steps : (words e : ℕ) → e < 2 ^ 32 → accepts words Entry (number false e) ≡ true → Steps words nothing_read (directive_text (codes ".entry") e) sections.Text (with_entry e)
entry_steps words e h k =
    steps words nothing_read sections.Start sections.Text no_code (with_entry e) (nothing_reads words) (directive_text (codes ".entry") e)
    (entry_bytes e) (with_operands Entry (operands_with e)) (entry_reads e h) (number false e) refl k refl refl

-- ---- length

module _ (f : ℕ → List ℕ) (k : ℕ) (each : (w : ℕ) → w < 2 ^ 32 → length (f w) < k) where
  lines_length : (ws : List ℕ) → AreWords ws → length (lines_with f ws) ≤ k * length ws
  unfolding lines_with
  lines_length [] are = omega arith
  lines_length (w ∷ ws) are = omega (arith, length-append (f w) (10 ∷ lines_with f ws), each w (are 0), lines_length ws (λ i. are (suc i)))

data_text_length : (ws : List ℕ) → AreWords ws → length (data_text ws) ≤ 6 + 17 * length ws
unfolding data_text
data_text_length [] are = omega arith
data_text_length (w ∷ ws) are =
    let lines : length (raw_lines (w ∷ ws)) ≤ 17 * length (w ∷ ws) = rw (raw_lines_are (w ∷ ws)) (lines_length raw_text 17 (λ v _. raw_length v) (w ∷ ws) are) in
    omega (arith, lines)

printed_length : (code : Code) → FitsImage code → AreWords code.text → AreWords code.globals → length (printed code) ≤ 2 ^ 24
unfolding printed
printed_length code fits text globals =
    let words : length (word_lines code.text) ≤ 64 * length code.text = rw (word_lines_are code.text) (lines_length word_text 64 word_length code.text text) in
    omega (
      arith,
      words,
      data_text_length code.globals globals,
      fits.text,
      fits.globals,
      hex_length 8 code.entry,
      length-append (word_lines code.text) (data_text code.globals),
      length-append (hex 8 code.entry) (10 ∷ (word_lines code.text ++ data_text code.globals)),
    )

-- ---- the whole

read_back : (code : Code) → FitsImage code → AreWords code.text → AreWords code.globals → Ends (length code.text) nothing_read (printed code) code
unfolding printed
read_back code fits text globals =
    let words = length code.text in
    let first = entry_steps words code.entry (omega (arith, fits.text, fits.entry_before)) (entry_accepted words code.entry fits.entry_from fits.entry_before fits.entry_aligned) in
    let middle = text_goes words first.next (with_entry code.entry) code.text text first.reads in
    let rest = data_ends words middle.next (put_words sections.Text (with_entry code.entry) code.text) code.globals globals middle.reads in
    let same = all_put code in
    record {
      last = rest.last;
      ends = first.passes (word_lines code.text ++ data_text code.globals) ∙ (middle.passes (data_text code.globals) ∙ rest.ends);
      words_read = rest.words_read ∙ ap (λ (c : Code). length c.text) same;
      no_labels = rest.no_labels;
      gives = rest.gives ∙ ap Ok same;
    }

of_reading_back : (r : Reading) (code : Code) → FitsImage code → r.place.text_words ≡ length code.text → labels_of r.lines ≡ [] → put_lines (length code.text) [] no_code r.lines ≡ Ok code → of_reading (Ok r) ≡ Ok code
of_reading_back r code fits words no_labels gives =
    let some : eqb (length code.text) 0 ≡ false = let k : 0 < length code.text = omega (arith, fits.entry_from, fits.entry_before) in grind (arith, nat_tests) in
    let text : ltb text_limit (length code.text) ≡ false = let k = fits.text in grind (arith, nat_tests) in
    let globals : ltb data_limit (length code.globals) ≡ false = let k = fits.globals in grind (arith, nat_tests) in
    rw (words, some, no_labels, gives, text, globals) refl

-- the text that is printed of code is read as that code
pub printed_back : (code : Code) → FitsImage code → AreWords code.text → AreWords code.globals → scanned (printed code) ≡ Ok code
unfolding scanned
printed_back code fits text globals =
    let e = read_back code fits text globals in
    let short : ltb (2 ^ 24) (length (printed code)) ≡ false = let k = printed_length code fits text globals in grind (arith, nat_tests) in
    rw (short, e.ends) (of_reading_back e.last code fits e.words_read e.no_labels e.gives)
