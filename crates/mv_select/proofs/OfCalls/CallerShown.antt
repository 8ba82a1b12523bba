-- What the caller's frame shows when a call has come back.
use Rattle.std.proofs.Common.{◌≡◌, ◌≢◌, inl, inr, ℕ, ◌+◌, ◌*◌, ◌^◌, ◌<◌, ◌≤◌, List, length, Some, sym, ap, ◌∙◌, subst, arith}
use Rattle.mv_isa.specs.Execution.{Access, reg}
use Rattle.mv_ir.specs.declared.stm.Array.{Array}
use Rattle.mv_ir.specs.declared.stm.Array.TheVariants as array
use Rattle.mv_ir.specs.World as ir
use Rattle.mv_ir.specs.World.{World}
use Rattle.mv_ir.specs.Outcome.{State}
use Rattle.mv_ir.specs.Meaning.{elements, with_world}
use Rattle.mv_select_code.specs.Trees.View.{AreRegisters}
use Rattle.mv_select_code.specs.Statements.Frames.{Site, Cell, TempCell, Element, Kept, address, IsThere, content, size_of, Shows}
use Rattle.mv_select_code.proofs.OfStatements.FrameChanges.{frame_same}
use Rattle.mv_select_code.specs.Control.Runs.{Machine}
use Rattle.mv_select.specs.Calls.Convention.{Layout, IsSaved, IsAbove, HoldsGlobals}
use Rattle.mv_select.specs.Calls.Laws.{IsCaller}

-- the registers that callees set back are apart from the registers of arguments and from scratch registers
pub saved_below : (q : ℕ) → IsSaved q → q < 28
saved_below q (inl h) = omega (arith, h)
saved_below q (inr (inl h)) = omega (arith, h)
saved_below q (inr (inr h)) = h.1

pub saved_apart : (q r : ℕ) → 10 ≤ r → r < 18 → IsSaved q → q ≢ r
saved_apart q r low high (inl h) e = omega (arith, h, e, low)
saved_apart q r low high (inr (inl h)) e = omega (arith, h, e, low)
saved_apart q r low high (inr (inr h)) e = let least = h.0 in omega (arith, least, e, high)

-- where the registers that callees set back are as they were, the frame of a caller is still shown
pub shown_saved : {M : Type 0} (access : Access M) (y : Layout) (s : Site) (setting : ir.Setting) (frame : ir.Frame) → IsCaller y s setting frame → (l : State) (regs regs' : List ℕ) (m : M)
    → AreRegisters regs' → ((q : ℕ) → IsSaved q → reg regs' q ≡ reg regs q) → Shows s access l regs m → Shows s access l regs' m
shown_saved access y s setting frame caller l regs regs' m are saved =
    frame_same s access l regs regs' m are (λ q h. saved q (caller.left q h)) (λ t q p h. saved q (caller.saved t q h)) (λ n q h. saved q (caller.pins n q h))

module _ {M : Type 0} (access : Access M) (y : Layout) (s : Site) (setting : ir.Setting) (frame : ir.Frame) (caller : IsCaller y s setting frame)
    (machine : Machine M) (budget far : ℕ) where
  -- where an element of a global stands
  element_at : (g i : ℕ) → y.place g + 4 * i ≡ address s (Element (array.Global g) i)
  element_at g i = ap (λ a. a + 4 * i) (sym (caller.places g))

  in_global : (g i : ℕ) → i < s.size g → i < y.size g
  in_global g i h = subst (λ n. i < n) (caller.sizes g) h

  -- a frame's globals are those of the program
  pub globals_held : (l : State) (regs : List ℕ) (m : M) → Shows s access l regs m → HoldsGlobals access y machine budget far l.world m
  globals_held l regs m f = record {
    sizes = λ g. f.sizes (array.Global g) ∙ caller.sizes g;
    words = λ g i h. f.words (Element (array.Global g) i) (there g i h);
    loads = λ g i h. ap (λ a. access.load m a 4) (element_at g i) ∙ f.in_memory (Element (array.Global g) i) (there g i h);
  }
    where
      there : (g i : ℕ) → i < y.size g → i < s.size g
      there g i h = subst (λ n. i < n) (sym (caller.sizes g)) h

  -- where the registers that are set back and the stack from sp up are as they were, the frame is shown with the globals of another world
  pub shows_after : (l : State) (w : World) (regs regs' : List ℕ) (m m' : M) → Shows s access l regs m → HoldsGlobals access y machine budget far w m' → AreRegisters regs'
      → ((q : ℕ) → IsSaved q → reg regs' q ≡ reg regs q) → ((b : ℕ) → IsAbove y (s.register 2) b → access.load m' b 4 ≡ access.load m b 4) → Shows s access (with_world l w) regs' m'
  shows_after l w regs regs' m m' f g are saved stack = record {
    are = are;
    left = λ q h. saved q (caller.left q h) ∙ f.left q h;
    count = f.count;
    sizes = sizes;
    temp_words = f.temp_words;
    in_register = λ t q p h. saved q (caller.saved t q h) ∙ f.in_register t q p h;
    pinned = λ n q h. saved q (caller.pins n q h) ∙ f.pinned n q h;
    words = words;
    in_memory = in_memory;
  }
    where
      sizes : (a : Array) → length (elements a (with_world l w)) ≡ size_of s a
      sizes (array.Global n) = g.sizes n ∙ sym (caller.sizes n)
      sizes (array.Local a) = f.sizes (array.Local a)
      sizes (array.SureGlobal n k) = g.sizes n ∙ sym (caller.sizes n)
      sizes (array.SureLocal a k) = f.sizes (array.Local a)

      words : (x : Cell) → IsThere s x → content s (with_world l w) x < 2 ^ 32
      words (TempCell t) h = f.words (TempCell t) h
      words (Element (array.Global n) i) h = g.words n i (in_global n i h)
      words (Element (array.Local a) i) h = f.words (Element (array.Local a) i) h
      words (Element (array.SureGlobal n k) i) h = absurd h
      words (Element (array.SureLocal a k) i) h = absurd h
      words (Kept b) h = f.words (Kept b) h

      in_memory : (x : Cell) → IsThere s x → access.load m' (address s x) 4 ≡ Some (content s (with_world l w) x)
      in_memory (TempCell t) h = stack (address s (TempCell t)) (caller.above (TempCell t) h tt) ∙ f.in_memory (TempCell t) h
      in_memory (Element (array.Global n) i) h = ap (λ a. access.load m' a 4) (sym (element_at n i)) ∙ g.loads n i (in_global n i h)
      in_memory (Element (array.Local a) i) h = stack (address s (Element (array.Local a) i)) (caller.above (Element (array.Local a) i) h tt) ∙ f.in_memory (Element (array.Local a) i) h
      in_memory (Element (array.SureGlobal n k) i) h = absurd h
      in_memory (Element (array.SureLocal a k) i) h = absurd h
      in_memory (Kept b) h = stack b (caller.above (Kept b) h tt) ∙ f.in_memory (Kept b) h
