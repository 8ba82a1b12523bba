-- What the frame of a function holds when it begins: what the registers and the words of its frame had before its entry.
use Rattle.std.proofs.Common.{◌≡◌, ℕ, ◌+◌, ◌-◌, ◌*◌, ◌≤◌, Bool, true, List, length, Option, Some, None, unwrap_or, sym, ap, ◌∙◌, arith}
use Rattle.std.proofs.Math.Nat.{le-max_right}
use Rattle.mv_isa.specs.Execution.{Access, reg}
use Rattle.mv_ir.specs.declared.body.Body.{Body}
use Rattle.mv_ir.specs.declared.stm.Array.TheVariants as array
use Rattle.mv_ir.specs.World.{World}
use Rattle.mv_ir.specs.Meaning.{Contents}
use Rattle.mv_select_code.specs.Trees.TreeCode.{temp_offset, register_of}
use Rattle.mv_select_code.specs.declared.trees.places.Keeping.{Keeping}
use Rattle.mv_select_code.specs.Statements.Frames.{Site, Cell, TempCell, Element, IsThere, address, Reach}
use Rattle.mv_select_code.specs.Control.Runs.{Machine, outside}
use Rattle.mv_select.specs.Calls.Convention.{Layout, IsAbove}
use Rattle.mv_select.specs.Calls.Laws.{IsOfFrame}
use Rattle.mv_select.specs.Functions.FunctionCode.{Shape, array_offset}
use Rattle.mv_select.specs.Functions.Functions.{IsLaid, IsMemory, IsAmple, RunsWithin}
use Rattle.mv_select.proofs.OfFunctions.Entered.{Entered}
use Rattle.mv_select.proofs.OfFunctions.EntryShown.{Here, word_at, Holds}
use Rattle.mv_select.proofs.OfFunctions.Frame.{shape_at, frame_of, IsFrame, temp_is, frame_word}
use Rattle.mv_select.proofs.OfFunctions.Seats.{unseated}

-- ---- told before the entry of a function with so many arguments, whose frame is to stand from sp up

module _ {M : Type 0} (access : Access M) (before : List ℕ) (m0 : M) (sp : ℕ) (shape : Shape) where
  abbrev temp_by : Option ℕ → ℕ → ℕ
  temp_by (Some q) t = reg before q
  temp_by None t = word_at access m0 (sp + temp_offset t)

  abbrev temp_before : ℕ → ℕ
  temp_before t = temp_by (register_of shape.keeping t) t

  pub contents_before : ℕ → Contents
  contents_before count = record { temps = λ j. temp_before (count + j); arrays = λ a i. word_at access m0 (sp + array_offset shape.temps shape.arrays a + 4 * i) }

-- for a function that begins at time i
abbrev pub contents_at : {M : Type 0} → Access M → Machine M → Shape → (count i : ℕ) → Contents
contents_at access machine shape count i =
    contents_before access (machine.run i).regs (machine.run i).memory (reg (machine.run i).regs 2 - frame_of shape) shape count

-- ---- and still so where its body begins

module _ {M : Type 0} (access : Access M) (y : Layout) (laid : IsLaid y) (machine : Machine M) (memory : IsMemory access y machine)
    (reach : Reach) (ample : IsAmple y reach) (runs : RunsWithin access y machine reach) (budget far : ℕ) (place : ℕ → ℕ) (attributed : Bool) (k : Keeping) (body : Body)
    (args : List ℕ) (live sp caller : ℕ) (before : List ℕ) (m0 : M) (w : World) (next i : ℕ)
    (e : Entered access y laid machine memory reach ample runs budget far place (shape_at attributed k body) args live sp before m0 w next i)
    (is : IsFrame y (shape_at attributed k body) (reg e.regs 2) caller) (calm : machine.is_calm (outside w) e.mem ≡ true) where
  abbrev S : Site
  S = Here access y laid machine memory budget far reach attributed k body (outside w) e.regs e.mem caller is calm

  -- the words of the frame but those of saved registers
  kept_word : (x : Cell) → IsThere S x → IsOfFrame x → sp + 40 ≤ address S x → word_at access m0 (address S x) ≡ word_at access e.mem (address S x)
  kept_word x there own high =
      let h : IsAbove y (reg e.regs 2) (address S x) = frame_word y laid reach (shape_at attributed k body) (reg e.regs) caller (word_at access e.mem) is x there own in
      let low = h.0 in
      ap (λ o. unwrap_or o 0) (sym (e.words (address S x) (omega (arith, low, is.low), h.1, h.2) (λ j lt at. omega (arith, at, lt, high))))

  pub holds_still : length args ≡ body.params → Holds access y laid machine memory budget far reach attributed k body (outside w) e.regs e.mem caller is calm (length args)
      (contents_before access before m0 sp (shape_at attributed k body) (length args))
  unfolding contents_before
  holds_still count = record {
    low = λ t q le lt seat. ap (temp_before access before m0 sp (shape_at attributed k body)) (total t le)
        ∙ ap (λ o. temp_by access before m0 sp (shape_at attributed k body) o t) seat ∙ sym (e.others t q (omega (arith, le, count)) lt seat);
    high = λ t le none lt. ap (temp_before access before m0 sp (shape_at attributed k body)) (total t le)
        ∙ ap (λ o. temp_by access before m0 sp (shape_at attributed k body) o t) none
        ∙ ap (λ z. word_at access m0 (z + temp_offset t)) (sym e.sp_is) ∙ kept_word (TempCell t) (none, lt) tt (temp_high t (unseated k t body.temps none lt is.few).0);
    arrays = λ a n lt. ap (λ z. word_at access m0 (z + array_offset body.temps body.arrays a + 4 * n)) (sym e.sp_is)
        ∙ kept_word (Element (array.Local a) n) lt tt (array_high a n);
  }
    where
      total : (t : ℕ) → length args ≤ t → length args + (t - length args) ≡ t
      total t le = omega (arith, le)

      temp_high : (t : ℕ) → 9 ≤ t → sp + 40 ≤ reg e.regs 2 + temp_offset t
      temp_high t big = omega (arith, temp_is t, big, e.sp_is)

      array_high : (a n : ℕ) → sp + 40 ≤ reg e.regs 2 + array_offset body.temps body.arrays a + 4 * n
      array_high a n = omega (arith, e.sp_is, le-max_right body.temps 9)
