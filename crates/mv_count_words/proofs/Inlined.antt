-- An inline body begins with no JAL.
use Rattle.std.proofs.Common.{arith, ◌≡◌, ◌≢◌, ℕ, ◌+◌, ◌%◌, Bool, true, false, cond, eqb, ltb, List, [], ◌∷◌, Option, Some, None, unwrap_or, slice_index}
use Rattle.std.specs.Prelude.{ℤ, pos}
use Rattle.mv_isa.specs.declared.instr.Instr.{Instr}
use Rattle.mv_isa.specs.declared.instr.Instr.TheVariants.{Lui, Addi}
use Rattle.mv_isa.specs.Code.{nop}
use Rattle.mv_isa.specs.Encoding.{encode}
use Rattle.mv_isa.specs.Formats.{i_word, u_word}
use Rattle.mv_isa.specs.Registers.{a0}
use Rattle.mv_ir.specs.declared.body.Body.{Body}
use Rattle.mv_ir.specs.declared.stm.Stm.{Stm, out-Stm}
use Rattle.mv_ir.specs.declared.stm.Stm.TheOpen.{Stm-F}
use Rattle.mv_ir.specs.declared.stm.Stm.TheOpen as stm
use Rattle.mv_ir.specs.declared.tree.Tree.{Tree, out-Tree}
use Rattle.mv_ir.specs.declared.tree.Tree.TheOpen.{Tree-F}
use Rattle.mv_ir.specs.declared.tree.Tree.TheOpen as tree
use Rattle.mv_select_code.specs.Trees.TreeCode.{upper_bits, lower_bits}
use Rattle.mv_select.specs.Inline.InlineOf.{number_pair, parameter_pair, store_pair, return_layer, return_pair, set_layer, set_pair, statement_layer, statement_pair, code_pair, inline_of, encoded, inline_words}

-- ---- opcodes

pub addi_opcode : (rd rs1 : ℕ) (imm : ℤ) → encode (Addi rd rs1 imm) % 128 ≡ 19
unfolding encode i_word
addi_opcode rd rs1 imm = omega arith

lui_opcode : (rd : ℕ) (imm : ℤ) → encode (Lui rd imm) % 128 ≡ 55
unfolding encode u_word
lui_opcode rd imm = omega arith

-- ---- the first instruction

abbrev IsPlain : Option (Instr × Instr) → Type 0
IsPlain None = Unit {0}
IsPlain (Some both) = encode both.0 % 128 ≢ 111

plain_addi : (rd rs1 : ℕ) (imm : ℤ) → encode (Addi rd rs1 imm) % 128 ≢ 111
plain_addi rd rs1 imm e = let is = addi_opcode rd rs1 imm in omega (arith, is, e)

plain_lui : (rd : ℕ) (imm : ℤ) → encode (Lui rd imm) % 128 ≢ 111
plain_lui rd imm e = let is = lui_opcode rd imm in omega (arith, is, e)

plain_cond : (b : Bool) (both : Instr × Instr) → encode both.0 % 128 ≢ 111 → IsPlain (cond b (Some both) None)
plain_cond true both h = h
plain_cond false both h = tt

number_plain : (n : ℕ) → encode (number_pair n).0 % 128 ≢ 111
unfolding number_pair
number_plain n = by (eqb (upper_bits n) 0)
  where
    by : (b : Bool) → encode (cond {A = Instr × Instr} b (Addi a0 0 (lower_bits n), nop) (Lui a0 (pos (upper_bits n)), Addi a0 a0 (lower_bits n))).0 % 128 ≢ 111
    by true = plain_addi a0 0 (lower_bits n)
    by false = plain_lui a0 (pos (upper_bits n))

module _ (place : ℕ → ℕ) (params : ℕ) where
  return_plain : (x : Tree-F Tree) → IsPlain (return_layer place params x)
  return_plain (tree.Number n) = number_plain n
  return_plain (tree.Temp t) = plain_cond (ltb t params) (parameter_pair t) (plain_addi a0 (a0 + t) (pos 0))
  return_plain (tree.Global g) = plain_lui a0 (pos (upper_bits (place g)))
  return_plain _ = tt

  set_plain : (g : ℕ) (x : Tree-F Tree) → IsPlain (set_layer place params g x)
  set_plain g (tree.Temp t) = plain_cond (ltb t params) (store_pair (place g) t) (plain_lui 5 (pos (upper_bits (place g))))
  set_plain g _ = tt

  statement_plain : (x : Stm-F Stm) → IsPlain (statement_layer place params x)
  unfolding return_pair set_pair
  statement_plain (stm.Return v) = return_plain (out-Tree v)
  statement_plain (stm.SetGlobal g v) = set_plain g (out-Tree v)
  statement_plain _ = tt

  code_plain : (code : List Stm) → IsPlain (code_pair place params code)
  unfolding statement_pair
  code_plain [] = plain_addi 0 0 (pos 0)
  code_plain (s ∷ []) = statement_plain (out-Stm s)
  code_plain (s ∷ t ∷ code) = tt

-- the first of two words, 0 where there are none
abbrev pub first_word : Option (List ℕ) → ℕ
first_word words = slice_index (unwrap_or words (0 ∷ 0 ∷ [])) 0

encoded_plain : (o : Option (Instr × Instr)) → IsPlain o → first_word (encoded o) % 128 ≢ 111
encoded_plain None h e = omega (arith, e)
encoded_plain (Some both) h e = h e

pub inline_plain : (place : ℕ → ℕ) (body : Body) → first_word (inline_words place body) % 128 ≢ 111
inline_plain place body = encoded_plain (inline_of place body) (code_plain place body.params body.code)
