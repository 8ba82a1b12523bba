-- The five shapes of a body that has two instructions in place of a call.
use Rattle.std.specs.Prelude.{ℕ, ◌≡◌, ◌<◌, ◌↔◌, List, [], ◌∷◌, Some}
use Rattle.mv_isa.specs.declared.instr.Instr.{Instr}
use Rattle.mv_ir.specs.declared.tree.Tree as tree
use Rattle.mv_ir.specs.declared.stm.Stm.{Stm}
use Rattle.mv_ir.specs.declared.stm.Stm as stm
use Rattle.mv_ir.specs.declared.body.Body.{Body}
use Rattle.mv_select.specs.Inline.InlineOf.{inline_of}

-- the return of a constant, of one of so many parameters, or of a global scalar
pub data IsReturn (params : ℕ) (code : List Stm) : Type 0 where
  OfNumber : (n : ℕ) → code ≡ stm.Return (tree.Number n) ∷ [] → IsReturn params code
  OfParameter : (t : ℕ) → t < params → code ≡ stm.Return (tree.Temp t) ∷ [] → IsReturn params code
  OfGlobal : (g : ℕ) → code ≡ stm.Return (tree.Global g) ∷ [] → IsReturn params code

-- nothing, such a return, or the store of a parameter to a global scalar
pub data IsInline (params : ℕ) (code : List Stm) : Type 0 where
  Empty : code ≡ [] → IsInline params code
  Return : IsReturn params code → IsInline params code
  Store : (g t : ℕ) → t < params → code ≡ stm.SetGlobal g (tree.Temp t) ∷ [] → IsInline params code

-- A body has two instructions exactly where it has one of the shapes.
abbrev pub InlineExactly : Type 0
InlineExactly = (place : ℕ → ℕ) (body : Body) → ((p : Instr × Instr) × (inline_of place body ≡ Some p)) ↔ IsInline body.params body.code
