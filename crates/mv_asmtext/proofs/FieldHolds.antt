-- The number of an instruction that fits: its field holds it, and it is small.
use Rattle.std.proofs.Common.{◌≡◌, ℕ, ℤ, pos, negsuc, ◌+◌, ◌%◌, ◌^◌, ◌<◌, ◌≤◌, refl, true, arith, eqb, unsigned_abs}
use Rattle.std.proofs.lemmas.Int.{ints}
use Rattle.std.proofs.lemmas.Bool.Decides.{nat_tests}
use Rattle.mv_isa.specs.declared.instr.Instr.{Instr}
use Rattle.mv_isa.specs.declared.instr.Instr.TheVariants.{Lui, Auipc, Jal, Jalr, Beq, Bne, Blt, Bge, Bltu, Bgeu, Lb, Lh, Lw, Lbu, Lhu, Sb, Sh, Sw, Addi, Slti, Sltiu, Xori, Ori, Andi, Slli, Srli, Srai, Ebreak}
use Rattle.mv_isa.specs.Encoding.{Fits, IsSigned, IsOffset, IsUnsigned}
use Rattle.mv_asmtext.specs.Fields.{is_signed, is_offset, is_below, holds}
use Rattle.mv_asmtext.specs.Mnemonics.{field_of, parts_of, instruction}
use Rattle.mv_asmtext.specs.Numbers.{number_from, signed}

pub signed_back : (z : ℤ) → signed (number_from z) ≡ z
unfolding signed number_from
signed_back (pos n) = refl
signed_back (negsuc n) = omega (arith, ints)

pub negative_some : (z : ℤ) → (number_from z).negative ≡ true → 0 < (number_from z).magnitude
unfolding number_from
negative_some (pos n) h = cc
negative_some (negsuc n) h = omega arith

signed_holds : (half : ℕ) (z : ℤ) → IsSigned half z → is_signed (number_from z) half ≡ true
unfolding number_from
signed_holds half (pos n) h = let k : n < half = omega (arith, ints) in grind (arith, nat_tests)
signed_holds half (negsuc n) h = let k : n + 1 ≤ half = omega (arith, ints) in grind (arith, nat_tests)

even : (z : ℤ) → unsigned_abs z % 2 ≡ 0 → eqb ((number_from z).magnitude % 2) 0 ≡ true
unfolding number_from
even (pos n) h = grind (arith, nat_tests)
even (negsuc n) h = let k : (n + 1) % 2 ≡ 0 = omega (arith, ints) in grind (arith, nat_tests)

offset_holds : (half : ℕ) (z : ℤ) → IsOffset half z → is_offset (number_from z) half ≡ true
offset_holds half z h = rw (signed_holds half z h.0, even z h.1) refl

below_holds : (bound : ℕ) (z : ℤ) → IsUnsigned bound z → is_below (number_from z) bound ≡ true
unfolding number_from
below_holds bound (pos n) h = let k : n < bound = omega (arith, ints) in grind (arith, nat_tests)
below_holds bound (negsuc n) h = absurd (omega (arith, ints))

-- an instruction without a number has 0, which any field holds
pub field_holds : (i : Instr) → Fits i → holds (field_of (parts_of i).mnemonic) (number_from (parts_of i).imm) ≡ true
unfolding holds field_of parts_of number_from
field_holds (Lui rd imm) h = below_holds (2 ^ 20) imm h.1
field_holds (Auipc rd imm) h = below_holds (2 ^ 20) imm h.1
field_holds (Jal rd imm) h = offset_holds (2 ^ 20) imm h.1
field_holds (Jalr rd rs1 imm) h = signed_holds (2 ^ 11) imm h.2
field_holds (Beq rs1 rs2 imm) h = offset_holds (2 ^ 12) imm h.2
field_holds (Bne rs1 rs2 imm) h = offset_holds (2 ^ 12) imm h.2
field_holds (Blt rs1 rs2 imm) h = offset_holds (2 ^ 12) imm h.2
field_holds (Bge rs1 rs2 imm) h = offset_holds (2 ^ 12) imm h.2
field_holds (Bltu rs1 rs2 imm) h = offset_holds (2 ^ 12) imm h.2
field_holds (Bgeu rs1 rs2 imm) h = offset_holds (2 ^ 12) imm h.2
field_holds (Lb rd rs1 imm) h = signed_holds (2 ^ 11) imm h.2
field_holds (Lh rd rs1 imm) h = signed_holds (2 ^ 11) imm h.2
field_holds (Lw rd rs1 imm) h = signed_holds (2 ^ 11) imm h.2
field_holds (Lbu rd rs1 imm) h = signed_holds (2 ^ 11) imm h.2
field_holds (Lhu rd rs1 imm) h = signed_holds (2 ^ 11) imm h.2
field_holds (Sb rs1 rs2 imm) h = signed_holds (2 ^ 11) imm h.2
field_holds (Sh rs1 rs2 imm) h = signed_holds (2 ^ 11) imm h.2
field_holds (Sw rs1 rs2 imm) h = signed_holds (2 ^ 11) imm h.2
field_holds (Addi rd rs1 imm) h = signed_holds (2 ^ 11) imm h.2
field_holds (Slti rd rs1 imm) h = signed_holds (2 ^ 11) imm h.2
field_holds (Sltiu rd rs1 imm) h = signed_holds (2 ^ 11) imm h.2
field_holds (Xori rd rs1 imm) h = signed_holds (2 ^ 11) imm h.2
field_holds (Ori rd rs1 imm) h = signed_holds (2 ^ 11) imm h.2
field_holds (Andi rd rs1 imm) h = signed_holds (2 ^ 11) imm h.2
field_holds (Slli rd rs1 imm) h = below_holds 32 imm h.2
field_holds (Srli rd rs1 imm) h = below_holds 32 imm h.2
field_holds (Srai rd rs1 imm) h = below_holds 32 imm h.2
field_holds i h = refl

-- the registers of an instruction that fits; one that it doesn't have is 0
pub registers_fit : (i : Instr) → Fits i → ((parts_of i).registers.rd < 32) × ((parts_of i).registers.rs1 < 32) × ((parts_of i).registers.rs2 < 32)
unfolding parts_of
registers_fit Ebreak h = omega arith
registers_fit i h = omega arith

pub rebuilt : (i : Instr) → instruction (parts_of i).mnemonic (parts_of i).registers (parts_of i).imm ≡ i
unfolding instruction parts_of
rebuilt Ebreak = refl
rebuilt i = refl
