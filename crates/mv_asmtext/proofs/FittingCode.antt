-- The code that a text reads as fits an image.
use Rattle.std.proofs.Common.{◌≡◌, ℕ, ◌+◌, ◌*◌, ◌%◌, ◌<◌, ◌≤◌, refl, sym, ap, ◌∙◌, subst, List, [], ◌∷◌, ◌++◌, length, Bool, true, false, eqb, ltb, cond, Option, Some, None, Result, Ok, Err, arith, length-append}
use Rattle.std.specs.Prelude.{IfOk}
use Rattle.std.proofs.lemmas.Bool.Decides.{nat_tests}
use Rattle.mv_num.specs.Regions.{text_start, text_limit, data_limit}
use Rattle.mv_asmtext.specs.declared.assembly.Fault.{Fault}
use Rattle.mv_asmtext.specs.declared.assembly.Fault.TheVariants as faults
use Rattle.mv_asmtext.specs.declared.code.Code.{Code}
use Rattle.mv_asmtext.specs.declared.error.ScanError.{ScanError}
use Rattle.mv_asmtext.specs.declared.labels.Site.{Site}
use Rattle.mv_asmtext.specs.declared.number.Number.{Number}
use Rattle.mv_asmtext.specs.declared.source.Line.{Line}
use Rattle.mv_asmtext.specs.declared.source.Place.{Place}
use Rattle.mv_asmtext.specs.declared.source.Reading.{Reading}
use Rattle.mv_asmtext.specs.declared.source.Section.{Section}
use Rattle.mv_asmtext.specs.declared.source.Section.TheVariants as sections
use Rattle.mv_asmtext.specs.declared.statement.Body.{Body}
use Rattle.mv_asmtext.specs.declared.statement.Operands.{Operands}
use Rattle.mv_asmtext.specs.declared.statement.Operation.{Operation}
use Rattle.mv_asmtext.specs.declared.statement.Operation.TheVariants.{Instruction, Word, Entry, Data}
use Rattle.mv_asmtext.specs.declared.statement.Statement.{Statement}
use Rattle.mv_asmtext.specs.declared.statement.Value.{Value}
use Rattle.mv_asmtext.specs.declared.statement.Value.TheVariants as values
use Rattle.mv_asmtext.specs.Assembly as assembly
use Rattle.mv_asmtext.specs.Assembly.{FaultAt, accepts, accepted, assembled, is_entry, is_second, label_fault, label_operand, no_code, number_at, operand_of, put_behind, put_line, put_lines, put_number, put_statement, with_label_fault}
use Rattle.mv_asmtext.specs.Labels.{labels_of}
use Rattle.mv_asmtext.specs.Lexemes.{lexemes}
use Rattle.mv_asmtext.specs.Scans.{FitsImage, code_within_limits, of_assembled, of_reading}
use Rattle.mv_asmtext.specs.Sites.{Sites, named}
use Rattle.mv_asmtext.specs.Sources as sources
use Rattle.mv_asmtext.specs.Sources.{nothing_read, place_behind, place_in, put, put_at, put_body, read, read_from, with_line, with_next}
use Rattle.mv_asmtext.specs.Statements.{body, body_of}

-- ---- how many words of text lines have

given_to : Section → ℕ
given_to sections.Start = 1
given_to sections.Text = 1
given_to sections.Data = 0

given_by : Operation → Section → ℕ
given_by (Instruction m) s = given_to s
given_by Word s = given_to s
given_by Entry s = 0
given_by Data s = 0

given_in : Section → Option Statement → ℕ
given_in s None = 0
given_in s (Some st) = given_by st.operation s

text_in : List Line → ℕ
text_in [] = 0
text_in (l ∷ ls) = given_in l.section l.statement + text_in ls

one_more : (ls : List Line) (l : Line) → text_in (ls ++ l ∷ []) ≡ text_in ls + given_in l.section l.statement
unfolding text_in
one_more [] l = omega arith
one_more (k ∷ ls) l = omega (arith, one_more ls l)

-- ---- the place behind a line counts its words

got : (q p : Place) (n : ℕ) → q.text_words ≡ n → Some q ≡ Some p → p.text_words ≡ n
got q p n e s = let k : q ≡ p = cc in sym (ap (λ (x : Place). x.text_words) k) ∙ e

none : (p : Place) (n : ℕ) → None ≡ Some p → p.text_words ≡ n
none p n e = cc

place_counts : (op : Operation) (s : Section) (t d : ℕ) (p : Place) → place_in op s t d ≡ Some p → p.text_words ≡ t + given_by op s
unfolding given_by given_to
place_counts (Instruction m) sections.Start t d p h = got _ p _ refl h
place_counts (Instruction m) sections.Text t d p h = got _ p _ refl h
place_counts (Instruction m) sections.Data t d p h = none p _ h
place_counts Word sections.Start t d p h = got _ p _ refl h
place_counts Word sections.Text t d p h = got _ p _ refl h
place_counts Word sections.Data t d p h = got _ p _ (omega arith) h
place_counts Entry sections.Start t d p h = got _ p _ (omega arith) h
place_counts Entry sections.Text t d p h = none p _ h
place_counts Entry sections.Data t d p h = none p _ h
place_counts Data sections.Start t d p h = got _ p _ (omega arith) h
place_counts Data sections.Text t d p h = got _ p _ (omega arith) h
place_counts Data sections.Data t d p h = none p _ h

behind_counts : (at : Place) (label : Option (List ℕ)) (st : Option Statement) (p : Place) → place_behind at (body label st) ≡ Some p → p.text_words ≡ at.text_words + given_in at.section st
unfolding given_in
behind_counts at label None p h = got _ p _ (omega arith) h
behind_counts at label (Some st) p h = place_counts st.operation at.section at.text_words at.data_words p h

none_given : (s : Section) → given_in s None ≡ 0
unfolding given_in
none_given s = refl

line_counts : (lines : List Line) (n : ℕ) (at : Place) (label : Option (List ℕ)) (st : Option Statement) →
    text_in (with_line lines n at (body label st)) ≡ text_in lines + given_in at.section st
line_counts lines n at (Some name) st = one_more lines _
line_counts lines n at None (Some st) = one_more lines _
line_counts lines n at None None = let e : given_in at.section None ≡ 0 = none_given at.section in omega (arith, e)

-- what has been read counts its words
IsCounted : Reading → Type 0
IsCounted r = text_in r.lines ≡ r.place.text_words

put_counts : (r next : Reading) (label : Option (List ℕ)) (st : Option Statement) (behind : Option Place) → place_behind r.place (body label st) ≡ behind →
    put_at r (body label st) behind ≡ Some next → IsCounted r → IsCounted next
unfolding IsCounted
put_counts r next label st None e h known = cc
put_counts r next label st (Some p) e h known =
    let same : put r (body label st) p ≡ next = cc in
    subst (λ (n : Reading). text_in n.lines ≡ n.place.text_words) same
    (line_counts r.lines (r.number + 1) r.place label st ∙ (ap (λ n. n + given_in r.place.section st) known ∙ sym (behind_counts r.place label st p e)))

body_counts : (r next : Reading) (b : Option Body) → put_body r b ≡ Some next → IsCounted r → IsCounted next
body_counts r next None h known = cc
body_counts r next (Some b) h known = put_counts r next b.label b.statement (place_behind r.place b) refl h known

next_counts : (r next : Reading) (l : List ℕ) → with_next r l ≡ Some next → IsCounted r → IsCounted next
unfolding with_next
next_counts r next l h known = body_counts r next (body_of (lexemes l)) h known

onward_counts : (r done : Reading) (l : List ℕ) (rest : Reading → Result Reading ℕ) (next : Option Reading) → with_next r l ≡ next →
    ((n : Reading) → IsCounted n → rest n ≡ Ok done → IsCounted done) → sources.onward (r.number + 1) rest next ≡ Ok done → IsCounted r → IsCounted done
onward_counts r done l rest None e later h known = cc
onward_counts r done l rest (Some next) e later h known = later next (next_counts r next l e known) h

read_counts : (ls : List (List ℕ)) (r done : Reading) → IsCounted r → read_from r ls ≡ Ok done → IsCounted done
unfolding read_from
read_counts [] r done known h = let e : r ≡ done = cc in subst IsCounted e known
read_counts (l ∷ ls) r done known h = onward_counts r done l (λ next. read_from next ls) (with_next r l) refl (λ n k e. read_counts ls n done k e) h known

-- ---- the code has these words, and an entry in text

-- an entry is the address of one of so many words
record IsEntry (words e : ℕ) : Type 0 where
  not_before : text_start ≤ e
  within : e < text_start + 4 * words
  aligned : e % 4 ≡ 0

accepted_entry : (words : ℕ) (n : Number) → is_entry words n ≡ true → IsEntry words n.magnitude
accepted_entry words n h = record { not_before = grind (arith, nat_tests); within = grind (arith, nat_tests); aligned = grind (arith, nat_tests) }

abbrev taken_if : Bool → Number → Fault → Result Number Fault
taken_if b n fault = cond b (Ok n) (Err fault)

taken : (b : Bool) (n m : Number) (fault : Fault) → taken_if b n fault ≡ Ok m → (b ≡ true) × (n ≡ m)
taken true n m fault h = (refl, cc)
taken false n m fault h = cc

accepted_so : (words : ℕ) (op : Operation) (n m : Number) (fault : Fault) → accepted words op n fault ≡ Ok m → accepts words op m ≡ true
accepted_so words op n m fault h = let t = taken (accepts words op n) n m fault h in ap (λ k. accepts words op k) (sym t.1) ∙ t.0

labelled_so : (words : ℕ) (op : Operation) (at : ℕ) (site : Option Site) (n : Number) → label_operand words op at site ≡ Ok n → accepts words op n ≡ true
labelled_so words op at None n h = cc
labelled_so words op at (Some site) n h = accepted_so words op (number_at op at site) n (label_fault op) h

operand_so : (words : ℕ) (sites : Sites) (op : Operation) (at : ℕ) (v : Value) (n : Number) → operand_of words sites op at v ≡ Ok n → accepts words op n ≡ true
operand_so words sites op at (values.Number m) n h = accepted_so words op m n faults.Range h
operand_so words sites op at (values.Label name) n h = labelled_so words op at (named name sites) n h

without_fault : (second : Bool) (r : Result Number Fault) (n : Number) → with_label_fault second r ≡ Ok n → r ≡ Ok n
without_fault true (Ok m) n h = cc
without_fault false (Ok m) n h = h
without_fault second (Err faults.Range) n h = cc
without_fault second (Err faults.Label) n h = cc

-- code with what a line adds: so many words more, and an entry still
record Adds (words given : ℕ) (code next : Code) : Type 0 where
  text : length next.text ≡ length code.text + given
  entry : IsEntry words code.entry → IsEntry words next.entry

statement_adds : (words : ℕ) (code : Code) (s : Section) (op : Operation) (o : Operands) (n : Number) → accepts words op n ≡ true → Adds words (given_by op s) code (put_statement code s op o n)
unfolding given_by given_to accepts
statement_adds words code sections.Start (Instruction m) o n h = record { text = length-append code.text _; entry = λ e. e }
statement_adds words code sections.Text (Instruction m) o n h = record { text = length-append code.text _; entry = λ e. e }
statement_adds words code sections.Data (Instruction m) o n h = record { text = omega arith; entry = λ e. e }
statement_adds words code sections.Start Word o n h = record { text = length-append code.text _; entry = λ e. e }
statement_adds words code sections.Text Word o n h = record { text = length-append code.text _; entry = λ e. e }
statement_adds words code sections.Data Word o n h = record { text = omega arith; entry = λ e. e }
statement_adds words code s Entry o n h = record { text = omega arith; entry = λ e. accepted_entry words n h }
statement_adds words code s Data o n h = record { text = omega arith; entry = λ e. e }

number_adds : (words : ℕ) (code next : Code) (s : Section) (st : Statement) (r : Result Number Fault) → put_number code s st r ≡ Ok next →
    ((n : Number) → r ≡ Ok n → accepts words st.operation n ≡ true) → Adds words (given_by st.operation s) code next
number_adds words code next s st (Ok n) h known =
    let e : put_statement code s st.operation st.operands n ≡ next = cc in
    subst (Adds words (given_by st.operation s) code) e (statement_adds words code s st.operation st.operands n (known n refl))
number_adds words code next s st (Err fault) h known = cc

abbrev unless_second : Bool → Code → Result Code Fault
unless_second second code = cond second (Err faults.Label) (Ok code)

unlabelled_adds : (words : ℕ) (code next : Code) (second : Bool) → unless_second second code ≡ Ok next → Adds words 0 code next
unlabelled_adds words code next true h = cc
unlabelled_adds words code next false h =
    let e : code ≡ next = cc in
    subst (Adds words 0 code) e (record { text = omega arith; entry = λ k. k })

behind_adds : (words : ℕ) (sites : Sites) (code next : Code) (l : Line) (st : Option Statement) → put_behind words sites code l st ≡ Ok next → Adds words (given_in l.section st) code next
unfolding given_in
behind_adds words sites code next l None h = unlabelled_adds words code next (is_second sites l.number l.label) h
behind_adds words sites code next l (Some st) h =
    let second = is_second sites l.number l.label in
    let operand = operand_of words sites st.operation l.address st.operands.value in
    number_adds words code next l.section st (with_label_fault second operand) h
    (λ n e. operand_so words sites st.operation l.address st.operands.value n (without_fault second operand n e))

line_adds : (words : ℕ) (sites : Sites) (code next : Code) (l : Line) → put_line words sites code l ≡ Ok next → Adds words (given_in l.section l.statement) code next
unfolding put_line
line_adds words sites code next l h = behind_adds words sites code next l l.statement h

onward_adds : (words given : ℕ) (code done : Code) (number given' : ℕ) (rest : Code → Result Code FaultAt) (r : Result Code Fault) →
    ((next : Code) → r ≡ Ok next → Adds words given code next) → ((next : Code) → rest next ≡ Ok done → Adds words given' next done) →
    assembly.onward number rest r ≡ Ok done → Adds words (given + given') code done
onward_adds words given code done number given' rest (Ok next) first later h =
    let a = first next refl in
    let b = later next h in
    record { text = omega (arith, a.text, b.text); entry = λ e. b.entry (a.entry e) }
onward_adds words given code done number given' rest (Err fault) first later h = cc

lines_add : (words : ℕ) (sites : Sites) (ls : List Line) (code done : Code) → put_lines words sites code ls ≡ Ok done → Adds words (text_in ls) code done
unfolding put_lines text_in
lines_add words sites [] code done h =
    let e : code ≡ done = cc in
    subst (Adds words 0 code) e (record { text = omega arith; entry = λ k. k })
lines_add words sites (l ∷ ls) code done h =
    onward_adds words (given_in l.section l.statement) code done l.number (text_in ls) (λ next. put_lines words sites next ls) (put_line words sites code l)
    (λ next e. line_adds words sites code next l e) (λ next e. lines_add words sites ls next done e) h

-- ---- the whole

unless : {T E : Type 0} (b : Bool) (e : E) (r : Result T E) (t : T) → cond b (Err e) r ≡ Ok t → (b ≡ false) × (r ≡ Ok t)
unless true e r t h = cc
unless false e r t h = (refl, h)

limits_fit : (words : ℕ) (code done : Code) → code_within_limits code ≡ Ok done → IsEntry words code.entry → words ≡ length code.text → FitsImage done
limits_fit words code done h entry count =
    let text = unless (ltb text_limit (length code.text)) _ _ done h in
    let globals = unless (ltb data_limit (length code.globals)) _ _ done text.1 in
    let few : ltb text_limit (length code.text) ≡ false = text.0 in
    let little : ltb data_limit (length code.globals) ≡ false = globals.0 in
    let e : code ≡ done = cc (globals.1) in
    subst FitsImage e (record {
      text = grind (arith, nat_tests);
      globals = grind (arith, nat_tests);
      entry_from = entry.not_before;
      entry_before = omega (arith, entry.within, count);
      entry_aligned = entry.aligned;
    })

assembled_fits : (words : ℕ) (r : Result Code FaultAt) (done : Code) → of_assembled r ≡ Ok done → ((code : Code) → r ≡ Ok code → IsEntry words code.entry × (words ≡ length code.text)) → FitsImage done
assembled_fits words (Ok code) done h known = let k = known code refl in limits_fit words code done h k.0 k.1
assembled_fits words (Err at) done h known = cc

lines_fit : (r : Reading) (code : Code) → IsCounted r → eqb r.place.text_words 0 ≡ false → assembled r.place.text_words r.lines ≡ Ok code →
    IsEntry r.place.text_words code.entry × (r.place.text_words ≡ length code.text)
unfolding IsCounted
lines_fit r code counted some h =
    let adds = lines_add r.place.text_words (labels_of r.lines) r.lines no_code code h in
    let words = r.place.text_words in
    let more : 0 < words = grind (arith, nat_tests) in
    (adds.entry (record { not_before = omega arith; within = omega (arith, more); aligned = refl }), omega (arith, adds.text, counted))

reading_fits : (r : Result Reading ℕ) (code : Code) → ((done : Reading) → r ≡ Ok done → IsCounted done) → of_reading r ≡ Ok code → FitsImage code
reading_fits (Ok r) code known h =
    let some = unless (eqb r.place.text_words 0) _ _ code h in
    assembled_fits r.place.text_words (assembled r.place.text_words r.lines) code some.1 (λ c e. lines_fit r c (known r refl) some.0 e)
reading_fits (Err line) code known h = cc

nothing_counts : IsCounted nothing_read
unfolding IsCounted text_in
nothing_counts = refl

-- the code that a text reads as fits an image
pub read_fits : (text : List ℕ) (r : Result Code ScanError) → r ≡ of_reading (read text) → IfOk r FitsImage
read_fits text (Ok code) e = reading_fits (read text) code (λ done k. read_counts (sources.lines_of text) nothing_read done nothing_counts k) (sym e)
read_fits text (Err refusal) e = tt
