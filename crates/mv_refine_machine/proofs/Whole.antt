-- The globals and the stack of a program in the machine's memory.
use Rattle.std.proofs.Common.{◌≡◌, Bool, ⊎_elim, inl, inr, ℕ, ◌+◌, ◌*◌, ◌^◌, ◌<◌, ◌≤◌, true, List, Option, Some, sym, ap, arith}
use Rattle.std.proofs.lemmas.Bool.{cases_lt, cases_order}
use Rattle.mv_machine.specs.Acts.{PollActs}
use Rattle.mv_image.specs.Spelling.{Fields}
use Rattle.mv_ir.specs.World.{World}
use Rattle.mv_select_code.specs.Statements.Frames.{Site, address}
use Rattle.mv_select.specs.Calls.Convention.{Layout}
use Rattle.mv_select.specs.Functions.Functions.{IsStack, IsWord, IsLaid, Kept, IsMemory, StandsInWords}
use Rattle.mv_refine_machine.specs.Calm.{Rest, is_calm}
use Rattle.mv_refine_machine.specs.MachineRuns.{access, machine_of}
use Rattle.mv_refine_machine.specs.Layout.{IsOutsideText, OwnOutsideText, IsSetOut}
use Rattle.mv_refine_machine.proofs.Calming.{calm_told}
use Rattle.mv_refine_machine.proofs.Memory.{stored_at, load_word, stack_loads}

module _ (y : Layout) (h : IsSetOut y) where
  -- ---- where words lie

  abbrev at : ℕ → ℕ → ℕ
  at g i = y.place g + 4 * i

  ends : (g i : ℕ) → i < y.size g → at g i < 0x0020_0000
  ends g i lt = let end = h.data_ends g (omega (arith, lt)) in omega (arith, lt, end)

  begins : (g i : ℕ) → i < y.size g → 0x0010_0000 ≤ at g i
  begins g i lt = let begin = h.data_begins g (omega (arith, lt)) in omega (arith, begin)

  ascend : (g k i j : ℕ) → g < k → i < y.size g → j < y.size k → at g i < at k j
  ascend g k i j lt in' jn = let behind = h.globals_ascend g k lt (omega (arith, in')) (omega (arith, jn)) in omega (arith, behind, in')

  same_global : (g k i j : ℕ) → i < y.size g → j < y.size k → at g i ≡ at k j → g ≡ k
  same_global g k i j in' jn e = ⊎_elim
      (λ (same : g ≡ k). same)
      (λ o. absurd (⊎_elim (λ (lt : g < k). below (ascend g k i j lt in' jn) e) (λ (gt : k < g). below (ascend k g j i gt jn in') (sym e)) o))
      (cases_order g k)
    where
      below : {a b : ℕ} → a < b → a ≡ b → ⊥
      below lt e = omega (arith, lt, e)

  apart : (g i k j : ℕ) → i < y.size g → j < y.size k → at g i ≡ at k j → (g ≡ k) × (i ≡ j)
  apart g i k j in' jn e =
      let same = same_global g k i j in' jn e in let places = ap y.place same in (same, omega (arith, places, e))

  size_word : (g : ℕ) → y.size g < 2 ^ 32
  size_word g = ⊎_elim
      (λ (none : y.size g < 1). omega (arith, none))
      (λ (some : 1 ≤ y.size g). let end = h.data_ends g some in omega (arith, end))
      (cases_lt (y.size g) 1)

  pub laid : IsLaid y
  laid = record {
    apart = apart;
    off_stack = λ g i lt stack. let low = stack.0 in let end = ends g i lt in let begin = h.stack_begins in omega (arith, low, end, begin);
    addresses = λ g i lt. let end = ends g i lt in omega (arith, end);
    sizes = size_word;
    even = h.even;
    top = let end = h.stack_ends in omega (arith, end);
  }

  outside : (b : ℕ) → IsWord y b → IsOutsideText b
  outside b (inl stack) =
      let low = stack.0 in let high = stack.1 in let begin = h.stack_begins in let end = h.stack_ends in (omega (arith, low, begin), omega (arith, high, end))
  outside b (inr o) = let end = ends o.0 o.1 o.2 in let begin = begins o.0 o.1 o.2 in (omega (arith, begin, o.3), omega (arith, end, o.3))

  -- ---- memory

  kept : (m : Rest) (b v w : ℕ) → v < 2 ^ 32 → access.load m b 4 ≡ Some w → Kept access y m b v
  kept m b v w lt loads =
      let r = stored_at m b v w lt loads in record { after = r.after; stored = r.stored; same = r.same; others = λ c word ne. r.others c ne }

  stack_there : (image : Fields) (w : World) (m : Rest) (b : ℕ) → is_calm image w m ≡ true → IsStack y b → (v : ℕ) × (access.load m b 4 ≡ Some v)
  stack_there image w m b calm stack =
      let low = stack.0 in let high = stack.1 in let begin = h.stack_begins in let end = h.stack_ends in
      stack_loads m b (omega (arith, low, begin)) (omega (arith, high, end)) stack.2 (calm_told image w m calm).stack

  pub memory : (attributed : List ℕ) (closed : (pc address : ℕ) → Bool) (image : Fields) (input : List (Option ℕ)) (polls : PollActs) (picks : List ℕ) → IsMemory access y (machine_of attributed closed image input polls picks)
  memory attributed closed image input polls picks = record {
    stores = λ m b v w word lt loads. kept m b v w lt loads;
    words = λ m b w word loads. load_word m b w loads;
    stack = stack_there image;
  }

  pub own : (s : Site) → StandsInWords y s → OwnOutsideText s
  own s stands x is there = outside (address s x) (stands x is there)
