-- The text that code is printed as.
use Rattle.std.specs.Prelude.{ℕ, zero, suc, ◌+◌, ◌/◌, ◌%◌, ◌-◌, ◌==◌, nat_lt, List, [], ◌∷◌, ◌++◌, map, codes, if◌then◌else◌, Option, Some, None}
use Rattle.std.specs.Int.Digits.{digits_of}
use Rattle.mv_isa.specs.Encoding.{decode, encode}
use Rattle.mv_isa.specs.declared.instr.Instr.{Instr}
use Rattle.mv_asmtext.specs.declared.code.Code.{Code}
use Rattle.mv_asmtext.specs.declared.number.Number.{Number}
use Rattle.mv_asmtext.specs.declared.operand.Element.{Element}
use Rattle.mv_asmtext.specs.declared.operand.Element.TheVariants as elements
use Rattle.mv_asmtext.specs.declared.parts.Parts.{Parts}
use Rattle.mv_asmtext.specs.Mnemonics.{name_of, operands_of, parts_of}
use Rattle.mv_asmtext.specs.Numbers.{number_from}
use Rattle.mv_asmtext.specs.Registers.{register_name}

-- ---- numbers

abbrev pub hex_digit : ℕ → ℕ
hex_digit d = if nat_lt d 10 then 48 + d else 97 + (d - 10)

-- so many of the last hexadecimal digits
unfoldable pub hex : ℕ → ℕ → List ℕ
hex zero w = []
hex (suc k) w = hex k (w / 16) ++ hex_digit (w % 16) ∷ []

-- the decimal digits, and none for 0
unfoldable pub digit_bytes : ℕ → List ℕ
digit_bytes n = map (λ d. 48 + d) (digits_of 10 n)

unfoldable pub decimal : ℕ → List ℕ
decimal n = digit_bytes (n / 10) ++ (48 + n % 10) ∷ []

unfoldable pub number_text : Number → List ℕ
number_text n = if n.negative then 45 ∷ decimal n.magnitude else decimal n.magnitude

-- ---- a word of text

unfoldable pub element_text : Parts → Element → List ℕ
element_text p elements.Rd = register_name p.registers.rd
element_text p elements.Rs1 = register_name p.registers.rs1
element_text p elements.Rs2 = register_name p.registers.rs2
element_text p elements.Number = number_text (number_from p.imm)
element_text p elements.Target = number_text (number_from p.imm)
element_text p elements.Comma = 44 ∷ 32 ∷ []
element_text p elements.Open = 40 ∷ []
element_text p elements.Close = 41 ∷ []

unfoldable pub elements_text : Parts → List Element → List ℕ
elements_text p [] = []
elements_text p (e ∷ es) = element_text p e ++ elements_text p es

-- a space follows the name, where operands do
abbrev pub operands_text : Parts → List Element → List ℕ
operands_text p [] = []
operands_text p (e ∷ es) = 32 ∷ elements_text p (e ∷ es)

unfoldable pub instruction_text : Parts → List ℕ
instruction_text p = name_of p.mnemonic ++ operands_text p (operands_of p.mnemonic)

-- a word as a number
unfoldable pub raw_text : ℕ → List ℕ
raw_text w = codes ".word 0x" ++ hex 8 w

abbrev pub decoded_text : ℕ → Option Instr → List ℕ
decoded_text w None = raw_text w
decoded_text w (Some i) = if encode i == w then instruction_text (parts_of i) else raw_text w

-- an instruction where the word is the instruction's, and else a number
unfoldable pub word_text : ℕ → List ℕ
word_text w = decoded_text w (decode w)

-- ---- lines

unfoldable pub word_lines : List ℕ → List ℕ
word_lines [] = []
word_lines (w ∷ ws) = word_text w ++ 10 ∷ word_lines ws

unfoldable pub raw_lines : List ℕ → List ℕ
raw_lines [] = []
raw_lines (w ∷ ws) = raw_text w ++ 10 ∷ raw_lines ws

-- .data and its words, where there are any
unfoldable pub data_text : List ℕ → List ℕ
data_text [] = []
data_text (w ∷ ws) = codes ".data\n" ++ raw_lines (w ∷ ws)

unfoldable pub printed : Code → List ℕ
printed code = (codes ".entry 0x" ++ hex 8 code.entry) ++ 10 ∷ (word_lines code.text ++ data_text code.globals)
