-- The words of lines: what each operand stands for, and where a number or a label is at fault.
use Rattle.std.specs.Prelude.{ℕ, Bool, true, false, not, ◌+◌, ◌*◌, ◌%◌, ◌^◌, ◌==◌, ◌&&◌, nat_lt, nat_le, List, [], ◌∷◌, ◌++◌, if◌then◌else◌, Option, Some, None, Result, Ok, Err}
use Rattle.mv_isa.specs.Encoding.{encode}
use Rattle.mv_asmtext.specs.declared.assembly.Fault.{Fault}
use Rattle.mv_asmtext.specs.declared.assembly.Fault.TheVariants as faults
use Rattle.mv_asmtext.specs.declared.code.Code.{Code}
use Rattle.mv_asmtext.specs.declared.labels.Site.{Site}
use Rattle.mv_asmtext.specs.declared.number.Number.{Number}
use Rattle.mv_asmtext.specs.declared.source.Line.{Line}
use Rattle.mv_asmtext.specs.declared.source.Section.{Section}
use Rattle.mv_asmtext.specs.declared.source.Section.TheVariants as sections
use Rattle.mv_asmtext.specs.declared.statement.Operation.{Operation}
use Rattle.mv_asmtext.specs.declared.statement.Operation.TheVariants.{Instruction, Word, Entry, Data}
use Rattle.mv_asmtext.specs.declared.statement.Operands.{Operands}
use Rattle.mv_asmtext.specs.declared.statement.Statement.{Statement}
use Rattle.mv_asmtext.specs.declared.statement.Value.{Value}
use Rattle.mv_asmtext.specs.declared.statement.Value.TheVariants as values
use Rattle.mv_asmtext.specs.Fields.{holds, is_below}
use Rattle.mv_asmtext.specs.Labels.{labels_of}
use Rattle.mv_asmtext.specs.Sites.{named}
use Rattle.mv_asmtext.specs.Sites.{Sites}
use Rattle.mv_asmtext.specs.Mnemonics.{field_of, instruction}
use Rattle.mv_asmtext.specs.Numbers.{number, signed, distance}
use Rattle.mv_num.specs.Regions.{text_start}

-- the address of one of so many words of text
abbrev pub is_entry : ℕ → Number → Bool
is_entry words n = not n.negative && (nat_le text_start n.magnitude && (nat_lt n.magnitude (text_start + 4 * words) && (n.magnitude % 4 == 0)))

-- the operation takes the number, where text has so many words
unfoldable pub accepts : ℕ → Operation → Number → Bool
accepts words (Instruction m) n = holds (field_of m) n
accepts words Word n = is_below n (2 ^ 32)
accepts words Entry n = is_entry words n
accepts words Data n = true

-- what a label stands for: its address for an entry, and else how far it is
abbrev pub number_at : Operation → (at : ℕ) → Site → Number
number_at Entry at site = number false site.address
number_at (Instruction m) at site = distance at site.address
number_at Word at site = distance at site.address
number_at Data at site = distance at site.address

-- an entry must be in text; any other label must be near
abbrev pub label_fault : Operation → Fault
label_fault Entry = faults.Range
label_fault (Instruction m) = faults.Label
label_fault Word = faults.Label
label_fault Data = faults.Label

abbrev pub accepted : ℕ → Operation → Number → Fault → Result Number Fault
accepted words op n fault = if accepts words op n then Ok n else Err fault

abbrev pub label_operand : ℕ → Operation → (at : ℕ) → Option Site → Result Number Fault
label_operand words op at None = Err faults.Label
label_operand words op at (Some site) = accepted words op (number_at op at site) (label_fault op)

-- the number that an operand stands for
abbrev pub operand_of : ℕ → Sites → Operation → (at : ℕ) → Value → Result Number Fault
operand_of words sites op at (values.Number n) = accepted words op n faults.Range
operand_of words sites op at (values.Label name) = label_operand words op at (named name sites)

-- ---- a line

-- the first line with the label isn't this one
abbrev pub stands_before : ℕ → Option Site → Bool
stands_before number None = false
stands_before number (Some site) = not (site.line == number)

abbrev pub is_second : Sites → ℕ → Option (List ℕ) → Bool
is_second sites number None = false
is_second sites number (Some name) = stands_before number (named name sites)

-- a number's fault comes before a label's
abbrev pub with_label_fault : Bool → Result Number Fault → Result Number Fault
with_label_fault second (Ok n) = if second then Err faults.Label else Ok n
with_label_fault second (Err faults.Range) = Err faults.Range
with_label_fault second (Err faults.Label) = Err faults.Label

-- a word at the end of its section
abbrev pub put_word : Code → Section → ℕ → Code
put_word code sections.Start w = record code { text = code.text ++ w ∷ [] }
put_word code sections.Text w = record code { text = code.text ++ w ∷ [] }
put_word code sections.Data w = record code { globals = code.globals ++ w ∷ [] }

-- what a statement with this number adds to code
abbrev pub put_statement : Code → Section → Operation → Operands → Number → Code
put_statement code s (Instruction m) o n = put_word code s (encode (instruction m o.registers (signed n)))
put_statement code s Word o n = put_word code s n.magnitude
put_statement code s Entry o n = record code { entry = n.magnitude }
put_statement code s Data o n = code

abbrev pub put_number : Code → Section → Statement → Result Number Fault → Result Code Fault
put_number code s st (Ok n) = Ok (put_statement code s st.operation st.operands n)
put_number code s st (Err fault) = Err fault

abbrev pub put_behind : ℕ → Sites → Code → Line → Option Statement → Result Code Fault
put_behind words sites code l None = if is_second sites l.number l.label then Err faults.Label else Ok code
put_behind words sites code l (Some st) =
    put_number code l.section st (with_label_fault (is_second sites l.number l.label) (operand_of words sites st.operation l.address st.operands.value))

-- code with what a line adds, or the line's fault
unfoldable pub put_line : ℕ → Sites → Code → Line → Result Code Fault
put_line words sites code l = put_behind words sites code l l.statement

abbrev pub FaultAt : Type 0
FaultAt = Fault × ℕ

abbrev pub onward : ℕ → (Code → Result Code FaultAt) → Result Code Fault → Result Code FaultAt
onward number rest (Ok code) = rest code
onward number rest (Err fault) = Err (fault, number)

-- code with what some lines add, or the first fault and its line
unfoldable pub put_lines : ℕ → Sites → Code → List Line → Result Code FaultAt
put_lines words sites code [] = Ok code
put_lines words sites code (l ∷ ls) = onward l.number (λ next. put_lines words sites next ls) (put_line words sites code l)

-- without an entry the code begins where text does
abbrev pub no_code : Code
no_code = record { entry = text_start; text = []; globals = [] }

abbrev pub assembled : ℕ → List Line → Result Code FaultAt
assembled words lines = put_lines words (labels_of lines) no_code lines
