-- The plain array of each array: the one whose elements it has, whatever is promised of an index.
use Rattle.std.proofs.Common.{◌≡◌, ℕ, ◌^◌, ◌<◌, List, slice_index, Some, refl, sym, ap, ◌∙◌}
use Rattle.mv_isa.specs.Execution.{Access}
use Rattle.mv_ir.specs.declared.stm.Array.{Array}
use Rattle.mv_ir.specs.declared.stm.Array.TheVariants as array
use Rattle.mv_ir.specs.Outcome.{State}
use Rattle.mv_ir.specs.Meaning.{elements}
use Rattle.mv_select_code.specs.Statements.Frames.{Site, Element, IsRead, IsWritten, IsLoaded, IsOwn, IsThere, address, size_of, Shows}

abbrev pub plain : Array → Array
plain (array.Global g) = array.Global g
plain (array.Local a) = array.Local a
plain (array.SureGlobal g n) = array.Global g
plain (array.SureLocal a n) = array.Local a

pub plain_elements : (a : Array) (l : State) → elements (plain a) l ≡ elements a l
plain_elements (array.Global g) l = refl
plain_elements (array.Local a) l = refl
plain_elements (array.SureGlobal g n) l = refl
plain_elements (array.SureLocal a n) l = refl

-- so arrays that have the same plain one have the same elements
pub same_plain : (a b : Array) (l : State) → plain b ≡ plain a → elements b l ≡ elements a l
same_plain a b l e = sym (plain_elements b l) ∙ ap (λ c. elements c l) e ∙ plain_elements a l

-- ---- the cells of its elements are those of the array

module _ (s : Site) where
  pub plain_there : (a : Array) (i : ℕ) → i < size_of s a → IsThere s (Element (plain a) i)
  plain_there (array.Global g) i h = h
  plain_there (array.Local a) i h = h
  plain_there (array.SureGlobal g n) i h = h
  plain_there (array.SureLocal a n) i h = h

  pub plain_loaded : (a : Array) (i : ℕ) → IsRead s a → IsLoaded s (Element (plain a) i)
  plain_loaded (array.Global g) i h = h
  plain_loaded (array.Local a) i h = h
  plain_loaded (array.SureGlobal g n) i h = h
  plain_loaded (array.SureLocal a n) i h = h

  pub plain_own : (a : Array) (i : ℕ) → IsWritten s a → IsOwn s (Element (plain a) i)
  plain_own (array.Global g) i h = h
  plain_own (array.Local a) i h = h
  plain_own (array.SureGlobal g n) i h = h
  plain_own (array.SureLocal a n) i h = h

  pub plain_address : (a : Array) (i : ℕ) → address s (Element (plain a) i) ≡ address s (Element a i)
  plain_address (array.Global g) i = refl
  plain_address (array.Local a) i = refl
  plain_address (array.SureGlobal g n) i = refl
  plain_address (array.SureLocal a n) i = refl

  module _ {M : Type 0} (access : Access M) where
    pub element_word : (a : Array) (i : ℕ) (l : State) (regs : List ℕ) (m : M) → i < size_of s a → Shows s access l regs m → slice_index (elements a l) i < 2 ^ 32
    element_word (array.Global g) i l regs m h f = f.words (Element (array.Global g) i) h
    element_word (array.Local a) i l regs m h f = f.words (Element (array.Local a) i) h
    element_word (array.SureGlobal g n) i l regs m h f = f.words (Element (array.Global g) i) h
    element_word (array.SureLocal a n) i l regs m h f = f.words (Element (array.Local a) i) h

    pub element_stands : (a : Array) (i : ℕ) (l : State) (regs : List ℕ) (m : M) → i < size_of s a → Shows s access l regs m
        → access.load m (address s (Element (plain a) i)) 4 ≡ Some (slice_index (elements a l) i)
    element_stands (array.Global g) i l regs m h f = f.in_memory (Element (array.Global g) i) h
    element_stands (array.Local a) i l regs m h f = f.in_memory (Element (array.Local a) i) h
    element_stands (array.SureGlobal g n) i l regs m h f = f.in_memory (Element (array.Global g) i) h
    element_stands (array.SureLocal a n) i l regs m h f = f.in_memory (Element (array.Local a) i) h
