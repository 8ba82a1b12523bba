-- The lines of a text, each with its place: which lines may stand where, and at which address.
use Rattle.std.specs.Prelude.{ℕ, ◌+◌, ◌*◌, ◌==◌, ◌||◌, List, [], ◌∷◌, ◌++◌, if◌then◌else◌, Option, Some, None, is_some, Result, Ok, Err}
use Rattle.std.specs.List.{slice_split}
use Rattle.mv_num.specs.Regions.{text_start, data_start}
use Rattle.mv_asmtext.specs.declared.source.Section.{Section}
use Rattle.mv_asmtext.specs.declared.source.Section.TheVariants as sections
use Rattle.mv_asmtext.specs.declared.source.Place.{Place}
use Rattle.mv_asmtext.specs.declared.source.Line.{Line}
use Rattle.mv_asmtext.specs.declared.source.Reading.{Reading}
use Rattle.mv_asmtext.specs.declared.statement.Operation.{Operation}
use Rattle.mv_asmtext.specs.declared.statement.Operation.TheVariants.{Instruction, Word, Entry, Data}
use Rattle.mv_asmtext.specs.declared.statement.Statement.{Statement}
use Rattle.mv_asmtext.specs.declared.statement.Body.{Body}
use Rattle.mv_asmtext.specs.Lexemes.{lexemes}
use Rattle.mv_asmtext.specs.Statements.{body_of}

abbrev pub address_in : Section → (t d : ℕ) → ℕ
address_in sections.Start t d = text_start + 4 * t
address_in sections.Text t d = text_start + 4 * t
address_in sections.Data t d = data_start + 4 * d

-- the address of the next word
abbrev pub address_of : Place → ℕ
address_of p = address_in p.section p.text_words p.data_words

abbrev pub words_in : Place → ℕ
words_in p = p.text_words + p.data_words

abbrev pub place : Section → (t d : ℕ) → Place
place s t d = record { section = s; text_words = t; data_words = d }

-- an entry stands before all other statements, .data at most once, and only .word after it
abbrev pub place_in : Operation → Section → (t d : ℕ) → Option Place
place_in Entry sections.Start t d = Some (place sections.Text t d)
place_in Entry sections.Text t d = None
place_in Entry sections.Data t d = None
place_in Data sections.Start t d = Some (place sections.Data t d)
place_in Data sections.Text t d = Some (place sections.Data t d)
place_in Data sections.Data t d = None
place_in Word sections.Start t d = Some (place sections.Text (t + 1) d)
place_in Word sections.Text t d = Some (place sections.Text (t + 1) d)
place_in Word sections.Data t d = Some (place sections.Data t (d + 1))
place_in (Instruction m) sections.Start t d = Some (place sections.Text (t + 1) d)
place_in (Instruction m) sections.Text t d = Some (place sections.Text (t + 1) d)
place_in (Instruction m) sections.Data t d = None

-- the place behind a statement, where it may stand there
abbrev pub place_after : Place → Operation → Option Place
place_after p op = place_in op p.section p.text_words p.data_words

abbrev pub place_behind_statement : Place → Option Statement → Option Place
place_behind_statement p None = Some p
place_behind_statement p (Some s) = place_after p s.operation

abbrev pub place_behind : Place → Body → Option Place
place_behind p b = place_behind_statement p b.statement

-- a line with its place is kept, unless it has neither label nor statement
abbrev pub with_line : List Line → ℕ → Place → Body → List Line
with_line lines number p b =
    if is_some b.label || is_some b.statement
    then lines ++ record { number = number; section = p.section; address = address_of p; label = b.label; statement = b.statement } ∷ []
    else lines

abbrev pub put : Reading → Body → Place → Reading
put r b next = record { lines = with_line r.lines (r.number + 1) r.place b; place = next; number = r.number + 1 }

abbrev pub put_at : Reading → Body → Option Place → Option Reading
put_at r b None = None
put_at r b (Some next) = Some (put r b next)

abbrev pub put_body : Reading → Option Body → Option Reading
put_body r None = None
put_body r (Some b) = put_at r b (place_behind r.place b)

-- what has been read behind one more line, where this is a line and may stand there
unfoldable pub with_next : Reading → List ℕ → Option Reading
with_next r l = put_body r (body_of (lexemes l))

abbrev pub onward : ℕ → (Reading → Result Reading ℕ) → Option Reading → Result Reading ℕ
onward number rest None = Err number
onward number rest (Some next) = rest next

-- what has been read behind more lines, or the number of the first that is none
unfoldable pub read_from : Reading → List (List ℕ) → Result Reading ℕ
read_from r [] = Ok r
read_from r (l ∷ ls) = onward (r.number + 1) (λ next. read_from next ls) (with_next r l)

abbrev pub nothing_read : Reading
nothing_read = record { lines = []; place = place sections.Start 0 0; number = 0 }

-- lines end with a line feed or the end
abbrev pub lines_of : List ℕ → List (List ℕ)
lines_of text = slice_split (λ b. b == 10) text

abbrev pub read : List ℕ → Result Reading ℕ
read text = read_from nothing_read (lines_of text)
