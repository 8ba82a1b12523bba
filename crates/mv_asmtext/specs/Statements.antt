-- What a line has before its comment: at most one label, and then at most one statement.
use Rattle.std.specs.Prelude.{ℕ, Bool, false, ◌==◌, ◌&&◌, List, [], ◌∷◌, codes, if◌then◌else◌, Option, Some, None, option_map, option_and_then}
use Rattle.std.specs.Str.{bytes_eq}
use Rattle.mv_asmtext.specs.declared.operand.Element.{Element}
use Rattle.mv_asmtext.specs.declared.operand.Element.TheVariants as elements
use Rattle.mv_asmtext.specs.declared.operand.Registers.{Registers}
use Rattle.mv_asmtext.specs.declared.statement.Operation.{Operation}
use Rattle.mv_asmtext.specs.declared.statement.Operation.TheVariants.{Instruction, Word, Entry, Data}
use Rattle.mv_asmtext.specs.declared.statement.Value.{Value}
use Rattle.mv_asmtext.specs.declared.statement.Value.TheVariants as values
use Rattle.mv_asmtext.specs.declared.statement.Operands.{Operands}
use Rattle.mv_asmtext.specs.declared.statement.Statement.{Statement}
use Rattle.mv_asmtext.specs.declared.statement.Body.{Body}
use Rattle.mv_asmtext.specs.Lexemes.{Lexeme, word, mark, is_name}
use Rattle.mv_asmtext.specs.Mnemonics.{mnemonic_named, operands_of}
use Rattle.mv_asmtext.specs.Numbers.{number_of}
use Rattle.mv_asmtext.specs.Registers.{register_named}

-- an instruction by its mnemonic, or a directive
unfoldable pub operation_named : List ℕ → Option Operation
operation_named w =
    if bytes_eq w (codes ".word") then Some Word
    else (if bytes_eq w (codes ".entry") then Some Entry
    else (if bytes_eq w (codes ".data") then Some Data
    else option_map Instruction (mnemonic_named w)))

unfoldable pub elements_of : Operation → List Element
elements_of (Instruction m) = operands_of m
elements_of Word = elements.Number ∷ []
elements_of Entry = elements.Target ∷ []
elements_of Data = []

-- ---- what a lexeme is for an element

abbrev pub register_in : Lexeme → Option ℕ
register_in (word w) = register_named w
register_in (mark b) = None

abbrev pub number_in : Lexeme → Option Value
number_in (word w) = option_map values.Number (number_of w)
number_in (mark b) = None

-- a name is a label's, and else it is a number
abbrev pub target_in : Lexeme → Option Value
target_in (word w) = if is_name w then Some (values.Label w) else option_map values.Number (number_of w)
target_in (mark b) = None

abbrev pub is_mark : ℕ → Lexeme → Bool
is_mark c (word w) = false
is_mark c (mark b) = b == c

-- ---- the operands

abbrev pub with_register : Registers → Element → ℕ → Registers
with_register rs elements.Rd r = record rs { rd = r }
with_register rs elements.Rs1 r = record rs { rs1 = r }
with_register rs elements.Rs2 r = record rs { rs2 = r }
with_register rs elements.Number r = record rs { rs2 = r }
with_register rs elements.Target r = record rs { rs2 = r }
with_register rs elements.Comma r = record rs { rs2 = r }
with_register rs elements.Open r = record rs { rs2 = r }
with_register rs elements.Close r = record rs { rs2 = r }

abbrev pub set_register : Operands → Element → ℕ → Operands
set_register o e r = record o { registers = with_register o.registers e r }

abbrev pub set_value : Operands → Value → Operands
set_value o v = record o { value = v }

abbrev pub where_marked : Bool → Operands → Option Operands
where_marked marked o = if marked then Some o else None

-- the operands with what a lexeme is for an element
unfoldable pub filled_one : Element → Lexeme → Operands → Option Operands
filled_one elements.Rd l o = option_map (set_register o elements.Rd) (register_in l)
filled_one elements.Rs1 l o = option_map (set_register o elements.Rs1) (register_in l)
filled_one elements.Rs2 l o = option_map (set_register o elements.Rs2) (register_in l)
filled_one elements.Number l o = option_map (set_value o) (number_in l)
filled_one elements.Target l o = option_map (set_value o) (target_in l)
filled_one elements.Comma l o = where_marked (is_mark 44 l) o
filled_one elements.Open l o = where_marked (is_mark 40 l) o
filled_one elements.Close l o = where_marked (is_mark 41 l) o

-- each element has one lexeme, in this order
unfoldable pub filled : List Element → List Lexeme → Operands → Option Operands
filled [] [] o = Some o
filled [] (l ∷ ls) o = None
filled (e ∷ es) [] o = None
filled (e ∷ es) (l ∷ ls) o = option_and_then (filled es ls) (filled_one e l o)

abbrev pub no_operands : Operands
no_operands = record { registers = record { rd = 0; rs1 = 0; rs2 = 0 }; value = values.Number (record { negative = false; magnitude = 0 }) }

-- ---- the statement and the label

abbrev pub with_operands : Operation → Operands → Statement
with_operands op o = record { operation = op; operands = o }

-- the statement of an operation with these lexemes behind its name
abbrev pub operation_with : List Lexeme → Operation → Option Statement
operation_with ls op = option_map (with_operands op) (filled (elements_of op) ls no_operands)

unfoldable pub statement_of : List Lexeme → Option Statement
statement_of [] = None
statement_of (mark b ∷ ls) = None
statement_of (word w ∷ ls) = option_and_then (operation_with ls) (operation_named w)

abbrev pub body : Option (List ℕ) → Option Statement → Body
body label statement = record { label = label; statement = statement }

-- what follows the label: nothing or a statement
unfoldable pub unlabelled : Option (List ℕ) → List Lexeme → Option Body
unlabelled label [] = Some (body label None)
unlabelled label (l ∷ ls) = option_map (λ s. body label (Some s)) (statement_of (l ∷ ls))

-- the label in front and the lexemes behind its colon
unfoldable pub label_in : List Lexeme → Option (List ℕ × List Lexeme)
label_in [] = None
label_in (mark b ∷ ls) = None
label_in (word w ∷ []) = None
label_in (word w ∷ l ∷ ls) = if is_mark 58 l && is_name w then Some (w, ls) else None

abbrev pub body_behind : List Lexeme → Option (List ℕ × List Lexeme) → Option Body
body_behind ls None = unlabelled None ls
body_behind ls (Some labelled) = unlabelled (Some labelled.0) labelled.1

-- a line
unfoldable pub body_of : List Lexeme → Option Body
body_of ls = body_behind ls (label_in ls)
