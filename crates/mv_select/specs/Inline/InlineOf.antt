-- The two instructions that stand at a call in place of a jump, for a body of one of five shapes: empty; a return of a constant, of a parameter or of a
-- global scalar; a store of a parameter to a global scalar. Any other body has none.
use Rattle.std.specs.Prelude.{ℕ, ◌+◌, cond, eqb, ltb, List, [], ◌∷◌, pos, Option, Some, None}
use Rattle.mv_isa.specs.declared.instr.Instr.{Instr}
use Rattle.mv_isa.specs.declared.instr.Instr.TheVariants.{Lui, Lw, Sw, Addi}
use Rattle.mv_isa.specs.Encoding.{encode}
use Rattle.mv_isa.specs.Code.{nop}
use Rattle.mv_isa.specs.Registers.{x0, t0, a0}
use Rattle.mv_ir.specs.declared.tree.Tree.{Tree, out-Tree}
use Rattle.mv_ir.specs.declared.tree.Tree.TheOpen.{Tree-F}
use Rattle.mv_ir.specs.declared.tree.Tree.TheOpen as tree
use Rattle.mv_ir.specs.declared.stm.Stm.{Stm, out-Stm}
use Rattle.mv_ir.specs.declared.stm.Stm.TheOpen.{Stm-F}
use Rattle.mv_ir.specs.declared.stm.Stm.TheOpen as stm
use Rattle.mv_ir.specs.declared.body.Body.{Body}
use Rattle.mv_select_code.specs.Trees.TreeCode.{upper_bits, lower_bits}

-- t0 has the address of a store. A value comes back in a0.

-- a number into a0, in one instruction where its lower bits alone give it
unfoldable pub number_pair : ℕ → Instr × Instr
number_pair n =
    cond (eqb (upper_bits n) 0) (Addi a0 x0 (lower_bits n), nop) (Lui a0 (pos (upper_bits n)), Addi a0 a0 (lower_bits n))

-- a parameter into a0
abbrev pub parameter_pair : ℕ → Instr × Instr
parameter_pair t = (Addi a0 (a0 + t) (pos 0), nop)

-- the word at an address into a0
abbrev pub load_pair : ℕ → Instr × Instr
load_pair a = (Lui a0 (pos (upper_bits a)), Lw a0 a0 (lower_bits a))

-- a parameter to an address
abbrev pub store_pair : (address t : ℕ) → Instr × Instr
store_pair a t = (Lui t0 (pos (upper_bits a)), Sw t0 (a0 + t) (lower_bits a))

-- Given the address of each global and the number of parameters, which are the first temporaries.
module _ (place : ℕ → ℕ) (params : ℕ) where
  abbrev pub return_layer : {A : Type 0} → Tree-F A → Option (Instr × Instr)
  return_layer (tree.Number n) = Some (number_pair n)
  return_layer (tree.Temp t) = cond (ltb t params) (Some (parameter_pair t)) None
  return_layer (tree.Global g) = Some (load_pair (place g))
  return_layer _ = None

  -- of a value that is returned
  unfoldable pub return_pair : Tree → Option (Instr × Instr)
  return_pair v = return_layer (out-Tree v)

  abbrev pub set_layer : {A : Type 0} → ℕ → Tree-F A → Option (Instr × Instr)
  set_layer g (tree.Temp t) = cond (ltb t params) (Some (store_pair (place g) t)) None
  set_layer g _ = None

  -- of a value that a global scalar gets
  unfoldable pub set_pair : ℕ → Tree → Option (Instr × Instr)
  set_pair g v = set_layer g (out-Tree v)

  abbrev pub statement_layer : {A : Type 0} → Stm-F A → Option (Instr × Instr)
  statement_layer (stm.Return v) = return_pair v
  statement_layer (stm.SetGlobal g v) = set_pair g v
  statement_layer _ = None

  -- of a statement that stands alone
  unfoldable pub statement_pair : Stm → Option (Instr × Instr)
  statement_pair s = statement_layer (out-Stm s)

  abbrev pub code_pair : List Stm → Option (Instr × Instr)
  code_pair [] = Some (nop, nop)
  code_pair (s ∷ []) = statement_pair s
  code_pair (s ∷ t ∷ code) = None

-- the two instructions of a body, given the address of each global
abbrev pub inline_of : (ℕ → ℕ) → Body → Option (Instr × Instr)
inline_of place body = code_pair place body.params body.code

-- ---- their words

abbrev pub encoded : Option (Instr × Instr) → Option (List ℕ)
encoded None = None
encoded (Some p) = Some (encode p.0 ∷ encode p.1 ∷ [])

-- the two words of a body, given the address of each global
abbrev pub inline_words : (ℕ → ℕ) → Body → Option (List ℕ)
inline_words place body = encoded (inline_of place body)
