-- The instructions by name: how each is spelled, the operands behind the name, the field of the number among them, and the
-- instruction (RISC-V Assembly Programmer's Manual; RISC-V unprivileged ISA 20191213, chapter 24).
use Rattle.std.specs.Prelude.{ℕ, ℤ, pos, List, [], ◌∷◌, codes, Option}
use Rattle.std.specs.List.{find}
use Rattle.std.specs.Str.{bytes_eq}
use Rattle.mv_isa.specs.declared.instr.Instr.{Instr}
use Rattle.mv_isa.specs.declared.instr.Instr.TheVariants.{Lui, Auipc, Jal, Jalr, Beq, Bne, Blt, Bge, Bltu, Bgeu, Lb, Lh, Lw, Lbu, Lhu, Sb, Sh, Sw, Addi, Slti, Sltiu, Xori, Ori, Andi, Slli, Srli, Srai, Add, Sub, Sll, Slt, Sltu, Xor, Srl, Sra, Or, And, Mul, Mulh, Mulhsu, Mulhu, Div, Divu, Rem, Remu, Fence, FenceI, Ecall, Ebreak}
use Rattle.mv_asmtext.specs.declared.field.Field.{Field}
use Rattle.mv_asmtext.specs.declared.field.Field.TheVariants.{Signed12, Offset13, Offset21, Upper20, Count}
use Rattle.mv_asmtext.specs.declared.mnemonic.Mnemonic.{Mnemonic}
use Rattle.mv_asmtext.specs.declared.mnemonic.Mnemonic.TheVariants as names
use Rattle.mv_asmtext.specs.declared.operand.Element.{Element}
use Rattle.mv_asmtext.specs.declared.operand.Element.TheVariants.{Rd, Rs1, Rs2, Number, Target, Comma, Open, Close}
use Rattle.mv_asmtext.specs.declared.operand.Registers.{Registers}
use Rattle.mv_asmtext.specs.declared.parts.Parts.{Parts}

unfoldable pub name_of : Mnemonic → List ℕ
name_of names.Lui = codes "lui"
name_of names.Auipc = codes "auipc"
name_of names.Jal = codes "jal"
name_of names.Jalr = codes "jalr"
name_of names.Beq = codes "beq"
name_of names.Bne = codes "bne"
name_of names.Blt = codes "blt"
name_of names.Bge = codes "bge"
name_of names.Bltu = codes "bltu"
name_of names.Bgeu = codes "bgeu"
name_of names.Lb = codes "lb"
name_of names.Lh = codes "lh"
name_of names.Lw = codes "lw"
name_of names.Lbu = codes "lbu"
name_of names.Lhu = codes "lhu"
name_of names.Sb = codes "sb"
name_of names.Sh = codes "sh"
name_of names.Sw = codes "sw"
name_of names.Addi = codes "addi"
name_of names.Slti = codes "slti"
name_of names.Sltiu = codes "sltiu"
name_of names.Xori = codes "xori"
name_of names.Ori = codes "ori"
name_of names.Andi = codes "andi"
name_of names.Slli = codes "slli"
name_of names.Srli = codes "srli"
name_of names.Srai = codes "srai"
name_of names.Add = codes "add"
name_of names.Sub = codes "sub"
name_of names.Sll = codes "sll"
name_of names.Slt = codes "slt"
name_of names.Sltu = codes "sltu"
name_of names.Xor = codes "xor"
name_of names.Srl = codes "srl"
name_of names.Sra = codes "sra"
name_of names.Or = codes "or"
name_of names.And = codes "and"
name_of names.Mul = codes "mul"
name_of names.Mulh = codes "mulh"
name_of names.Mulhsu = codes "mulhsu"
name_of names.Mulhu = codes "mulhu"
name_of names.Div = codes "div"
name_of names.Divu = codes "divu"
name_of names.Rem = codes "rem"
name_of names.Remu = codes "remu"
name_of names.Fence = codes "fence"
name_of names.FenceI = codes "fence.i"
name_of names.Ecall = codes "ecall"
name_of names.Ebreak = codes "ebreak"

abbrev pub mnemonics : List Mnemonic
mnemonics =
    names.Lui ∷ names.Auipc ∷ names.Jal ∷ names.Jalr ∷ names.Beq ∷ names.Bne ∷ names.Blt ∷ names.Bge ∷ names.Bltu ∷ names.Bgeu ∷ names.Lb ∷ names.Lh
    ∷ names.Lw ∷ names.Lbu ∷ names.Lhu ∷ names.Sb ∷ names.Sh ∷ names.Sw ∷ names.Addi ∷ names.Slti ∷ names.Sltiu ∷ names.Xori ∷ names.Ori
    ∷ names.Andi ∷ names.Slli ∷ names.Srli ∷ names.Srai ∷ names.Add ∷ names.Sub ∷ names.Sll ∷ names.Slt ∷ names.Sltu ∷ names.Xor ∷ names.Srl
    ∷ names.Sra ∷ names.Or ∷ names.And ∷ names.Mul ∷ names.Mulh ∷ names.Mulhsu ∷ names.Mulhu ∷ names.Div ∷ names.Divu ∷ names.Rem ∷ names.Remu
    ∷ names.Fence ∷ names.FenceI ∷ names.Ecall ∷ names.Ebreak ∷ []

-- the mnemonic that a word spells
unfoldable pub mnemonic_named : List ℕ → Option Mnemonic
mnemonic_named word = find (λ m. bytes_eq (name_of m) word) mnemonics

-- ---- operands: rd, rs1, rs2; rd, rs1, number; rd, number(rs1); rs2, number(rs1); rs1, rs2, target; rd, target; rd, number

abbrev pub register_operands : List Element
register_operands = Rd ∷ Comma ∷ Rs1 ∷ Comma ∷ Rs2 ∷ []

abbrev pub immediate_operands : List Element
immediate_operands = Rd ∷ Comma ∷ Rs1 ∷ Comma ∷ Number ∷ []

abbrev pub load_operands : List Element
load_operands = Rd ∷ Comma ∷ Number ∷ Open ∷ Rs1 ∷ Close ∷ []

abbrev pub store_operands : List Element
store_operands = Rs2 ∷ Comma ∷ Number ∷ Open ∷ Rs1 ∷ Close ∷ []

abbrev pub branch_operands : List Element
branch_operands = Rs1 ∷ Comma ∷ Rs2 ∷ Comma ∷ Target ∷ []

abbrev pub jump_operands : List Element
jump_operands = Rd ∷ Comma ∷ Target ∷ []

abbrev pub upper_operands : List Element
upper_operands = Rd ∷ Comma ∷ Number ∷ []

unfoldable pub operands_of : Mnemonic → List Element
operands_of names.Lui = upper_operands
operands_of names.Auipc = upper_operands
operands_of names.Jal = jump_operands
operands_of names.Jalr = load_operands
operands_of names.Beq = branch_operands
operands_of names.Bne = branch_operands
operands_of names.Blt = branch_operands
operands_of names.Bge = branch_operands
operands_of names.Bltu = branch_operands
operands_of names.Bgeu = branch_operands
operands_of names.Lb = load_operands
operands_of names.Lh = load_operands
operands_of names.Lw = load_operands
operands_of names.Lbu = load_operands
operands_of names.Lhu = load_operands
operands_of names.Sb = store_operands
operands_of names.Sh = store_operands
operands_of names.Sw = store_operands
operands_of names.Addi = immediate_operands
operands_of names.Slti = immediate_operands
operands_of names.Sltiu = immediate_operands
operands_of names.Xori = immediate_operands
operands_of names.Ori = immediate_operands
operands_of names.Andi = immediate_operands
operands_of names.Slli = immediate_operands
operands_of names.Srli = immediate_operands
operands_of names.Srai = immediate_operands
operands_of names.Add = register_operands
operands_of names.Sub = register_operands
operands_of names.Sll = register_operands
operands_of names.Slt = register_operands
operands_of names.Sltu = register_operands
operands_of names.Xor = register_operands
operands_of names.Srl = register_operands
operands_of names.Sra = register_operands
operands_of names.Or = register_operands
operands_of names.And = register_operands
operands_of names.Mul = register_operands
operands_of names.Mulh = register_operands
operands_of names.Mulhsu = register_operands
operands_of names.Mulhu = register_operands
operands_of names.Div = register_operands
operands_of names.Divu = register_operands
operands_of names.Rem = register_operands
operands_of names.Remu = register_operands
operands_of names.Fence = []
operands_of names.FenceI = []
operands_of names.Ecall = []
operands_of names.Ebreak = []

-- the field that holds the number; an instruction without a number has any
unfoldable pub field_of : Mnemonic → Field
field_of names.Lui = Upper20
field_of names.Auipc = Upper20
field_of names.Jal = Offset21
field_of names.Jalr = Signed12
field_of names.Beq = Offset13
field_of names.Bne = Offset13
field_of names.Blt = Offset13
field_of names.Bge = Offset13
field_of names.Bltu = Offset13
field_of names.Bgeu = Offset13
field_of names.Lb = Signed12
field_of names.Lh = Signed12
field_of names.Lw = Signed12
field_of names.Lbu = Signed12
field_of names.Lhu = Signed12
field_of names.Sb = Signed12
field_of names.Sh = Signed12
field_of names.Sw = Signed12
field_of names.Addi = Signed12
field_of names.Slti = Signed12
field_of names.Sltiu = Signed12
field_of names.Xori = Signed12
field_of names.Ori = Signed12
field_of names.Andi = Signed12
field_of names.Slli = Count
field_of names.Srli = Count
field_of names.Srai = Count
field_of names.Add = Signed12
field_of names.Sub = Signed12
field_of names.Sll = Signed12
field_of names.Slt = Signed12
field_of names.Sltu = Signed12
field_of names.Xor = Signed12
field_of names.Srl = Signed12
field_of names.Sra = Signed12
field_of names.Or = Signed12
field_of names.And = Signed12
field_of names.Mul = Signed12
field_of names.Mulh = Signed12
field_of names.Mulhsu = Signed12
field_of names.Mulhu = Signed12
field_of names.Div = Signed12
field_of names.Divu = Signed12
field_of names.Rem = Signed12
field_of names.Remu = Signed12
field_of names.Fence = Signed12
field_of names.FenceI = Signed12
field_of names.Ecall = Signed12
field_of names.Ebreak = Signed12

-- the instruction of a name and operands
unfoldable pub instruction : Mnemonic → Registers → ℤ → Instr
instruction names.Lui r z = Lui r.rd z
instruction names.Auipc r z = Auipc r.rd z
instruction names.Jal r z = Jal r.rd z
instruction names.Jalr r z = Jalr r.rd r.rs1 z
instruction names.Beq r z = Beq r.rs1 r.rs2 z
instruction names.Bne r z = Bne r.rs1 r.rs2 z
instruction names.Blt r z = Blt r.rs1 r.rs2 z
instruction names.Bge r z = Bge r.rs1 r.rs2 z
instruction names.Bltu r z = Bltu r.rs1 r.rs2 z
instruction names.Bgeu r z = Bgeu r.rs1 r.rs2 z
instruction names.Lb r z = Lb r.rd r.rs1 z
instruction names.Lh r z = Lh r.rd r.rs1 z
instruction names.Lw r z = Lw r.rd r.rs1 z
instruction names.Lbu r z = Lbu r.rd r.rs1 z
instruction names.Lhu r z = Lhu r.rd r.rs1 z
instruction names.Sb r z = Sb r.rs1 r.rs2 z
instruction names.Sh r z = Sh r.rs1 r.rs2 z
instruction names.Sw r z = Sw r.rs1 r.rs2 z
instruction names.Addi r z = Addi r.rd r.rs1 z
instruction names.Slti r z = Slti r.rd r.rs1 z
instruction names.Sltiu r z = Sltiu r.rd r.rs1 z
instruction names.Xori r z = Xori r.rd r.rs1 z
instruction names.Ori r z = Ori r.rd r.rs1 z
instruction names.Andi r z = Andi r.rd r.rs1 z
instruction names.Slli r z = Slli r.rd r.rs1 z
instruction names.Srli r z = Srli r.rd r.rs1 z
instruction names.Srai r z = Srai r.rd r.rs1 z
instruction names.Add r _ = Add r.rd r.rs1 r.rs2
instruction names.Sub r _ = Sub r.rd r.rs1 r.rs2
instruction names.Sll r _ = Sll r.rd r.rs1 r.rs2
instruction names.Slt r _ = Slt r.rd r.rs1 r.rs2
instruction names.Sltu r _ = Sltu r.rd r.rs1 r.rs2
instruction names.Xor r _ = Xor r.rd r.rs1 r.rs2
instruction names.Srl r _ = Srl r.rd r.rs1 r.rs2
instruction names.Sra r _ = Sra r.rd r.rs1 r.rs2
instruction names.Or r _ = Or r.rd r.rs1 r.rs2
instruction names.And r _ = And r.rd r.rs1 r.rs2
instruction names.Mul r _ = Mul r.rd r.rs1 r.rs2
instruction names.Mulh r _ = Mulh r.rd r.rs1 r.rs2
instruction names.Mulhsu r _ = Mulhsu r.rd r.rs1 r.rs2
instruction names.Mulhu r _ = Mulhu r.rd r.rs1 r.rs2
instruction names.Div r _ = Div r.rd r.rs1 r.rs2
instruction names.Divu r _ = Divu r.rd r.rs1 r.rs2
instruction names.Rem r _ = Rem r.rd r.rs1 r.rs2
instruction names.Remu r _ = Remu r.rd r.rs1 r.rs2
instruction names.Fence _ _ = Fence
instruction names.FenceI _ _ = FenceI
instruction names.Ecall _ _ = Ecall
instruction names.Ebreak _ _ = Ebreak

abbrev pub parts : Mnemonic → (rd rs1 rs2 : ℕ) → ℤ → Parts
parts m rd rs1 rs2 imm = record { mnemonic = m; registers = record { rd = rd; rs1 = rs1; rs2 = rs2 }; imm = imm }

-- an instruction as its name and operands; operands that it doesn't have are 0
unfoldable pub parts_of : Instr → Parts
parts_of (Lui rd imm) = parts names.Lui rd 0 0 imm
parts_of (Auipc rd imm) = parts names.Auipc rd 0 0 imm
parts_of (Jal rd imm) = parts names.Jal rd 0 0 imm
parts_of (Jalr rd rs1 imm) = parts names.Jalr rd rs1 0 imm
parts_of (Beq rs1 rs2 imm) = parts names.Beq 0 rs1 rs2 imm
parts_of (Bne rs1 rs2 imm) = parts names.Bne 0 rs1 rs2 imm
parts_of (Blt rs1 rs2 imm) = parts names.Blt 0 rs1 rs2 imm
parts_of (Bge rs1 rs2 imm) = parts names.Bge 0 rs1 rs2 imm
parts_of (Bltu rs1 rs2 imm) = parts names.Bltu 0 rs1 rs2 imm
parts_of (Bgeu rs1 rs2 imm) = parts names.Bgeu 0 rs1 rs2 imm
parts_of (Lb rd rs1 imm) = parts names.Lb rd rs1 0 imm
parts_of (Lh rd rs1 imm) = parts names.Lh rd rs1 0 imm
parts_of (Lw rd rs1 imm) = parts names.Lw rd rs1 0 imm
parts_of (Lbu rd rs1 imm) = parts names.Lbu rd rs1 0 imm
parts_of (Lhu rd rs1 imm) = parts names.Lhu rd rs1 0 imm
parts_of (Sb rs1 rs2 imm) = parts names.Sb 0 rs1 rs2 imm
parts_of (Sh rs1 rs2 imm) = parts names.Sh 0 rs1 rs2 imm
parts_of (Sw rs1 rs2 imm) = parts names.Sw 0 rs1 rs2 imm
parts_of (Addi rd rs1 imm) = parts names.Addi rd rs1 0 imm
parts_of (Slti rd rs1 imm) = parts names.Slti rd rs1 0 imm
parts_of (Sltiu rd rs1 imm) = parts names.Sltiu rd rs1 0 imm
parts_of (Xori rd rs1 imm) = parts names.Xori rd rs1 0 imm
parts_of (Ori rd rs1 imm) = parts names.Ori rd rs1 0 imm
parts_of (Andi rd rs1 imm) = parts names.Andi rd rs1 0 imm
parts_of (Slli rd rs1 imm) = parts names.Slli rd rs1 0 imm
parts_of (Srli rd rs1 imm) = parts names.Srli rd rs1 0 imm
parts_of (Srai rd rs1 imm) = parts names.Srai rd rs1 0 imm
parts_of (Add rd rs1 rs2) = parts names.Add rd rs1 rs2 (pos 0)
parts_of (Sub rd rs1 rs2) = parts names.Sub rd rs1 rs2 (pos 0)
parts_of (Sll rd rs1 rs2) = parts names.Sll rd rs1 rs2 (pos 0)
parts_of (Slt rd rs1 rs2) = parts names.Slt rd rs1 rs2 (pos 0)
parts_of (Sltu rd rs1 rs2) = parts names.Sltu rd rs1 rs2 (pos 0)
parts_of (Xor rd rs1 rs2) = parts names.Xor rd rs1 rs2 (pos 0)
parts_of (Srl rd rs1 rs2) = parts names.Srl rd rs1 rs2 (pos 0)
parts_of (Sra rd rs1 rs2) = parts names.Sra rd rs1 rs2 (pos 0)
parts_of (Or rd rs1 rs2) = parts names.Or rd rs1 rs2 (pos 0)
parts_of (And rd rs1 rs2) = parts names.And rd rs1 rs2 (pos 0)
parts_of (Mul rd rs1 rs2) = parts names.Mul rd rs1 rs2 (pos 0)
parts_of (Mulh rd rs1 rs2) = parts names.Mulh rd rs1 rs2 (pos 0)
parts_of (Mulhsu rd rs1 rs2) = parts names.Mulhsu rd rs1 rs2 (pos 0)
parts_of (Mulhu rd rs1 rs2) = parts names.Mulhu rd rs1 rs2 (pos 0)
parts_of (Div rd rs1 rs2) = parts names.Div rd rs1 rs2 (pos 0)
parts_of (Divu rd rs1 rs2) = parts names.Divu rd rs1 rs2 (pos 0)
parts_of (Rem rd rs1 rs2) = parts names.Rem rd rs1 rs2 (pos 0)
parts_of (Remu rd rs1 rs2) = parts names.Remu rd rs1 rs2 (pos 0)
parts_of Fence = parts names.Fence 0 0 0 (pos 0)
parts_of FenceI = parts names.FenceI 0 0 0 (pos 0)
parts_of Ecall = parts names.Ecall 0 0 0 (pos 0)
parts_of Ebreak = parts names.Ebreak 0 0 0 (pos 0)
