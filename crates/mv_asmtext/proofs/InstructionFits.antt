-- An instruction fits where its field holds the number.
use Rattle.std.proofs.Common.{◌≡◌, ℕ, ◌%◌, ◌^◌, ◌<◌, ◌≤◌, Bool, true, false, eqb, refl, ap, ◌∙◌, arith, lit<, unsigned_abs}
use Rattle.std.proofs.lemmas.Int.{ints}
use Rattle.std.proofs.lemmas.Bool.Decides.{nat_tests}
use Rattle.mv_isa.specs.Encoding.{Fits, IsSigned, IsOffset, IsUnsigned}
use Rattle.mv_asmtext.specs.declared.field.Field.{Field}
use Rattle.mv_asmtext.specs.declared.field.Field.TheVariants.{Signed12, Offset13, Offset21, Upper20, Count}
use Rattle.mv_asmtext.specs.declared.mnemonic.Mnemonic.{Mnemonic}
use Rattle.mv_asmtext.specs.declared.mnemonic.Mnemonic.TheVariants as names
use Rattle.mv_asmtext.specs.declared.number.Number.{Number}
use Rattle.mv_asmtext.specs.declared.operand.Registers.{Registers}
use Rattle.mv_asmtext.specs.Fields.{is_signed, is_offset, is_below, holds}
use Rattle.mv_asmtext.specs.Mnemonics.{field_of, instruction}
use Rattle.mv_asmtext.specs.Numbers.{number, signed}
use Rattle.mv_num.proofs.Booleans.{and_right, and_left}

signed_at_most : (half : ℕ) (b : Bool) (k : ℕ) → is_signed (number b k) half ≡ true → k ≤ half
signed_at_most half true k h = grind (arith, nat_tests)
signed_at_most half false k h = grind (arith, nat_tests)

below_at_most : (bound : ℕ) (b : Bool) (k : ℕ) → is_below (number b k) bound ≡ true → k ≤ bound
below_at_most bound true k h = cc
below_at_most bound false k h = grind (arith, nat_tests)

-- no field holds a number above 2 ^ 20
pub holds_small : (f : Field) (n : Number) → holds f n ≡ true → n.magnitude ≤ 2 ^ 20
unfolding holds
holds_small Signed12 n h = let k = signed_at_most (2 ^ 11) n.negative n.magnitude h in omega arith
holds_small Offset13 n h = let k = signed_at_most (2 ^ 12) n.negative n.magnitude (and_left (is_signed n (2 ^ 12)) _ h) in omega arith
holds_small Offset21 n h = signed_at_most (2 ^ 20) n.negative n.magnitude (and_left (is_signed n (2 ^ 20)) _ h)
holds_small Upper20 n h = below_at_most (2 ^ 20) n.negative n.magnitude h
holds_small Count n h = let k = below_at_most 32 n.negative n.magnitude h in omega arith

signed_fits : (half : ℕ) (b : Bool) (k : ℕ) → 0 < half → is_signed (number b k) half ≡ true → IsSigned half (signed (number b k))
unfolding signed
signed_fits half true k p h = let le : k ≤ half = grind (arith, nat_tests) in (omega (arith, ints), omega (arith, ints))
signed_fits half false k p h = let lt : k < half = grind (arith, nat_tests) in (omega (arith, ints), omega (arith, ints))

abs_signed : (b : Bool) (k : ℕ) → unsigned_abs (signed (number b k)) ≡ k
unfolding signed
abs_signed true k = omega (arith, ints)
abs_signed false k = refl

offset_fits : (half : ℕ) (b : Bool) (k : ℕ) → 0 < half → is_offset (number b k) half ≡ true → IsOffset half (signed (number b k))
offset_fits half b k p h =
    let even : k % 2 ≡ 0 = grind (arith, nat_tests, and_right (is_signed (number b k) half) (eqb (k % 2) 0) h) in
    (signed_fits half b k p (and_left (is_signed (number b k) half) _ h), ap (λ m. m % 2) (abs_signed b k) ∙ even)

below_fits : (bound : ℕ) (b : Bool) (k : ℕ) → is_below (number b k) bound ≡ true → IsUnsigned bound (signed (number b k))
unfolding signed
below_fits bound true k h = cc
below_fits bound false k h = let lt : k < bound = grind (arith, nat_tests) in (omega (arith, ints), omega (arith, ints))

module _ (r : Registers) (rd : r.rd < 32) (rs1 : r.rs1 < 32) (rs2 : r.rs2 < 32) (n : Number) where
  pub instruction_fits : (m : Mnemonic) → holds (field_of m) n ≡ true → Fits (instruction m r (signed n))
  unfolding instruction field_of holds
  instruction_fits names.Lui h = (rd, below_fits (2 ^ 20) n.negative n.magnitude h)
  instruction_fits names.Auipc h = (rd, below_fits (2 ^ 20) n.negative n.magnitude h)
  instruction_fits names.Jal h = (rd, offset_fits (2 ^ 20) n.negative n.magnitude (lit< tt) h)
  instruction_fits names.Jalr h = (rd, rs1, signed_fits (2 ^ 11) n.negative n.magnitude (lit< tt) h)
  instruction_fits names.Beq h = (rs1, rs2, offset_fits (2 ^ 12) n.negative n.magnitude (lit< tt) h)
  instruction_fits names.Bne h = (rs1, rs2, offset_fits (2 ^ 12) n.negative n.magnitude (lit< tt) h)
  instruction_fits names.Blt h = (rs1, rs2, offset_fits (2 ^ 12) n.negative n.magnitude (lit< tt) h)
  instruction_fits names.Bge h = (rs1, rs2, offset_fits (2 ^ 12) n.negative n.magnitude (lit< tt) h)
  instruction_fits names.Bltu h = (rs1, rs2, offset_fits (2 ^ 12) n.negative n.magnitude (lit< tt) h)
  instruction_fits names.Bgeu h = (rs1, rs2, offset_fits (2 ^ 12) n.negative n.magnitude (lit< tt) h)
  instruction_fits names.Lb h = (rd, rs1, signed_fits (2 ^ 11) n.negative n.magnitude (lit< tt) h)
  instruction_fits names.Lh h = (rd, rs1, signed_fits (2 ^ 11) n.negative n.magnitude (lit< tt) h)
  instruction_fits names.Lw h = (rd, rs1, signed_fits (2 ^ 11) n.negative n.magnitude (lit< tt) h)
  instruction_fits names.Lbu h = (rd, rs1, signed_fits (2 ^ 11) n.negative n.magnitude (lit< tt) h)
  instruction_fits names.Lhu h = (rd, rs1, signed_fits (2 ^ 11) n.negative n.magnitude (lit< tt) h)
  instruction_fits names.Sb h = (rs1, rs2, signed_fits (2 ^ 11) n.negative n.magnitude (lit< tt) h)
  instruction_fits names.Sh h = (rs1, rs2, signed_fits (2 ^ 11) n.negative n.magnitude (lit< tt) h)
  instruction_fits names.Sw h = (rs1, rs2, signed_fits (2 ^ 11) n.negative n.magnitude (lit< tt) h)
  instruction_fits names.Addi h = (rd, rs1, signed_fits (2 ^ 11) n.negative n.magnitude (lit< tt) h)
  instruction_fits names.Slti h = (rd, rs1, signed_fits (2 ^ 11) n.negative n.magnitude (lit< tt) h)
  instruction_fits names.Sltiu h = (rd, rs1, signed_fits (2 ^ 11) n.negative n.magnitude (lit< tt) h)
  instruction_fits names.Xori h = (rd, rs1, signed_fits (2 ^ 11) n.negative n.magnitude (lit< tt) h)
  instruction_fits names.Ori h = (rd, rs1, signed_fits (2 ^ 11) n.negative n.magnitude (lit< tt) h)
  instruction_fits names.Andi h = (rd, rs1, signed_fits (2 ^ 11) n.negative n.magnitude (lit< tt) h)
  instruction_fits names.Slli h = (rd, rs1, below_fits 32 n.negative n.magnitude h)
  instruction_fits names.Srli h = (rd, rs1, below_fits 32 n.negative n.magnitude h)
  instruction_fits names.Srai h = (rd, rs1, below_fits 32 n.negative n.magnitude h)
  instruction_fits names.Add h = (rd, rs1, rs2)
  instruction_fits names.Sub h = (rd, rs1, rs2)
  instruction_fits names.Sll h = (rd, rs1, rs2)
  instruction_fits names.Slt h = (rd, rs1, rs2)
  instruction_fits names.Sltu h = (rd, rs1, rs2)
  instruction_fits names.Xor h = (rd, rs1, rs2)
  instruction_fits names.Srl h = (rd, rs1, rs2)
  instruction_fits names.Sra h = (rd, rs1, rs2)
  instruction_fits names.Or h = (rd, rs1, rs2)
  instruction_fits names.And h = (rd, rs1, rs2)
  instruction_fits names.Mul h = (rd, rs1, rs2)
  instruction_fits names.Mulh h = (rd, rs1, rs2)
  instruction_fits names.Mulhsu h = (rd, rs1, rs2)
  instruction_fits names.Mulhu h = (rd, rs1, rs2)
  instruction_fits names.Div h = (rd, rs1, rs2)
  instruction_fits names.Divu h = (rd, rs1, rs2)
  instruction_fits names.Rem h = (rd, rs1, rs2)
  instruction_fits names.Remu h = (rd, rs1, rs2)
  instruction_fits names.Fence h = tt
  instruction_fits names.FenceI h = tt
  instruction_fits names.Ecall h = tt
  instruction_fits names.Ebreak h = tt
