-- The words of the stub.
use Rattle.std.proofs.Common.{◌≡◌, ℕ, zero, suc, ◌+◌, ◌*◌, List, [], ◌∷◌, map, slice_get, Option, Some, subst, arith}
use Rattle.mv_isa.specs.declared.instr.Instr.{Instr}
use Rattle.mv_isa.specs.declared.labelled.Line.TheVariants.{Word}
use Rattle.mv_isa.specs.Code.{IsPlace}
use Rattle.mv_isa.specs.Standing.{InstrStands}
use Rattle.mv_linker.specs.Linked.{commit_instrs, commit_lines}
use Rattle.mv_select_code.specs.Control.Placed.{Text, Placed}

-- the stub stands in text from an address on
pub record StubStands (text : ℕ → Option ℕ) (at : ℕ) : Type 0 where
  pub here : IsPlace at
  pub each : (k : ℕ) (i : Instr) → slice_get commit_instrs k ≡ Some i → InstrStands text (at + 4 * k) i

placed_words : (text : Text) (place entry : ℕ → ℕ) (is : List Instr) (pc end k : ℕ) (i : Instr) → Placed text place entry (map Word is) pc end → slice_get is k ≡ Some i → InstrStands text.word (pc + 4 * k) i
placed_words text place entry [] pc end k i h e = absurd (cc)
placed_words text place entry (j ∷ is) pc end zero i h e =
    let same : j ≡ i = cc in
    let here : pc ≡ pc + 4 * 0 = omega arith in
    subst (λ a. InstrStands text.word a i) here (subst (InstrStands text.word pc) same h.1.stands.0)
placed_words text place entry (j ∷ is) pc end (suc k) i h e =
    let on = h.1.stands.1 in
    let here : h.0 + 4 * k ≡ pc + 4 * suc k = omega (arith, on) in
    subst (λ a. InstrStands text.word a i) here (placed_words text place entry is h.0 end k i h.2 e)

pub stub_stands : (text : Text) (place entry : ℕ → ℕ) (pc end : ℕ) → Placed text place entry commit_lines pc end → StubStands text.word pc
stub_stands text place entry pc end h = record {
  here = h.1.here;
  each = λ k i e. subst (λ a. InstrStands text.word (a + 4 * k) i) h.1.stands (placed_words text place entry commit_instrs h.0 end k i h.2 e);
}
