-- Registers that are read and written, and which of them some lines change.
use Rattle.std.proofs.Common.{◌≡◌, ◌≢◌, ◌⊎◌, inl, inr, ⊎_elim, ℕ, zero, suc, ◌^◌, ◌<◌, ◌≤◌, cond, List, Some, length, get_or, set, refl, sym, ap, ◌∙◌, subst, arith, length-set}
use Rattle.std.proofs.lemmas.List.{get_or-set_same, get_or-set_other}
use Rattle.std.proofs.lemmas.Bool.{cases_eq, ne_eqb}
use Rattle.mv_isa.specs.Execution.{reg, put}
use Rattle.mv_isa.specs.Registers.{gp, tp}
use Rattle.mv_select_code.specs.Trees.TreeCode.{Seats}
use Rattle.mv_select_code.specs.Trees.View.{AreRegisters, AreScratch, AreSeats, Changes}

-- ---- reads and writes

pub reg_zero : (regs : List ℕ) → reg regs 0 ≡ 0
unfolding reg
reg_zero regs = refl

reg_above : (regs : List ℕ) (q : ℕ) → 0 < q → reg regs q ≡ get_or regs q 0
unfolding reg
reg_above regs q h = ap (λ b. cond b 0 (get_or regs q 0)) (ne_eqb q 0 (λ e. omega arith))

put_above : (regs : List ℕ) (q v : ℕ) → 0 < q → put regs q v ≡ set regs q v
unfolding put
put_above regs q v h = ap (λ b. cond b regs (set regs q v)) (ne_eqb q 0 (λ e. omega arith))

pub put_same : (regs : List ℕ) (r v : ℕ) → 0 < r → r < length regs → reg (put regs r v) r ≡ v
put_same regs r v p q = ap (λ rs. reg rs r) (put_above regs r v p) ∙ reg_above (set regs r v) r p ∙ get_or-set_same regs r v 0 q

pub put_other : (regs : List ℕ) (r q v : ℕ) → 0 < r → q ≢ r → reg (put regs r v) q ≡ reg regs q
put_other regs r zero v p ne = reg_zero (put regs r v) ∙ sym (reg_zero regs)
put_other regs r (suc q) v p ne =
    ap (λ rs. reg rs (suc q)) (put_above regs r v p) ∙ reg_above (set regs r v) (suc q) (omega arith) ∙ get_or-set_other regs r (suc q) v 0 ne ∙ sym (reg_above regs (suc q) (omega arith))

put_count : (regs : List ℕ) (r v : ℕ) → 0 < r → length (put regs r v) ≡ length regs
put_count regs r v p = ap length (put_above regs r v p) ∙ length-set regs r v

-- a register that code may change
pub record IsFree (r : ℕ) : Type 0 where
  pub above : 0 < r
  pub below : r < 32
  pub global : r ≢ gp
  pub thread : r ≢ tp

pub free_above : (r : ℕ) → 4 < r → r < 32 → IsFree r
free_above r l h = record { above = omega arith; below = h; global = λ e. omega arith; thread = λ e. omega arith }

-- ra and sp
pub free_low : (r : ℕ) → 0 < r → r < 3 → IsFree r
free_low r l h = record { above = l; below = omega arith; global = λ e. omega arith; thread = λ e. omega arith }

pub put_registers : (regs : List ℕ) (r v : ℕ) → AreRegisters regs → IsFree r → v < 2 ^ 32 → AreRegisters (put regs r v)
put_registers regs r v h f b = record {
  count = put_count regs r v f.above ∙ h.count;
  words = λ n. ⊎_elim (same n) (other n) (cases_eq n r);
  global = put_other regs r gp v f.above (λ e. f.global (sym e)) ∙ h.global;
  thread = put_other regs r tp v f.above (λ e. f.thread (sym e)) ∙ h.thread;
}
  where
    same : (n : ℕ) → n ≡ r → reg (put regs r v) n < 2 ^ 32
    same n e = let s = put_same regs r v f.above (omega (arith, h.count, f.below)) in rw (e, s) b

    other : (n : ℕ) → (n ≡ r → ⊥) → reg (put regs r v) n < 2 ^ 32
    other n ne = rw (put_other regs r n v f.above ne) (h.words n)

-- ---- changes

pub changes_none : (lo hi : ℕ) (regs : List ℕ) → AreRegisters regs → Changes lo hi regs regs
changes_none lo hi regs h = record { are = h; others = λ q o. refl }

pub changes_both : (lo hi : ℕ) (a b c : List ℕ) → Changes lo hi a b → Changes lo hi b c → Changes lo hi a c
changes_both lo hi a b c h k = record { are = k.are; others = λ q o. k.others q o ∙ h.others q o }

pub changes_wider : (lo hi lo' hi' : ℕ) (a b : List ℕ) → lo' ≤ lo → hi ≤ hi' → Changes lo hi a b → Changes lo' hi' a b
changes_wider lo hi lo' hi' a b p q h = record { are = h.are; others = λ r o. h.others r (⊎_elim (λ (l : r < lo'). inl (omega arith)) (λ (l : hi' ≤ r). inr (omega arith)) o) }

pub changes_put : (lo hi r v : ℕ) (regs : List ℕ) → AreRegisters regs → lo ≤ r → r < hi → IsFree r → v < 2 ^ 32 → Changes lo hi regs (put regs r v)
changes_put lo hi r v regs h l u f b = record {
  are = put_registers regs r v h f b;
  others = λ n o. put_other regs r n v f.above (⊎_elim (λ (x : n < lo) (e : n ≡ r). omega arith) (λ (x : hi ≤ n) (e : n ≡ r). omega arith) o);
}

-- what a register holds is a word
pub held_word : (r x : ℕ) (regs : List ℕ) → AreRegisters regs → reg regs r ≡ x → x < 2 ^ 32
held_word r x regs h e = subst (λ z. z < 2 ^ 32) e (h.words r)

-- ---- scratch registers

pub scratch_part : (lo hi lo' hi' : ℕ) → lo ≤ lo' → hi' ≤ hi → AreScratch lo hi → AreScratch lo' hi'
scratch_part lo hi lo' hi' p q (inl h) = let a = h.0 in let b = h.1 in inl (omega arith, omega arith)
scratch_part lo hi lo' hi' p q (inr h) = let a = h.0 in let b = h.1 in inr (omega arith, omega arith)

pub scratch_low : (lo hi : ℕ) → AreScratch lo hi → 5 ≤ lo
scratch_low lo hi (inl h) = h.0
scratch_low lo hi (inr h) = let a = h.0 in omega arith

pub scratch_high : (lo hi : ℕ) → AreScratch lo hi → hi ≤ 32
scratch_high lo hi (inl h) = let a = h.1 in omega arith
scratch_high lo hi (inr h) = h.1

pub scratch_free : (lo hi r : ℕ) → AreScratch lo hi → lo ≤ r → r < hi → IsFree r
scratch_free lo hi r s l h = free_above r (omega (arith, scratch_low lo hi s)) (omega (arith, scratch_high lo hi s))

-- a register that no tree's code changes, but where it is told to
abbrev pub InFrame : ℕ → Type 0
InFrame q = (q < 5) ⊎ ((9 ≤ q) × (q < 28))

-- a register of a frame lies outside
pub frame_outside : (lo hi q : ℕ) → AreScratch lo hi → InFrame q → (q < lo) ⊎ (hi ≤ q)
frame_outside lo hi q (inl h) (inl k) = let a = h.0 in inl (omega arith)
frame_outside lo hi q (inl h) (inr k) = let a = h.1 in let b = k.0 in inr (omega arith)
frame_outside lo hi q (inr h) (inl k) = let a = h.0 in inl (omega arith)
frame_outside lo hi q (inr h) (inr k) = let a = h.0 in let b = k.1 in inl (omega arith)

-- ---- the registers of temporaries and of numbers

module _ (q : ℕ) (seat : (9 ≤ q) × (q < 26)) where
  apart_free : IsFree q
  apart_free = let low = seat.0 in let high = seat.1 in free_above q (omega arith) (omega arith)

  apart_in_frame : InFrame q
  apart_in_frame = let low = seat.0 in let high = seat.1 in inr (omega arith, omega arith)

module _ (s : Seats) (are : AreSeats s) (n q : ℕ) (e : s.pinned n ≡ Some q) where
  pub pin_free : IsFree q
  pin_free = apart_free q (are.pin n q e)

  pub pin_in_frame : InFrame q
  pin_in_frame = apart_in_frame q (are.pin n q e)

  pub pin_outside : (lo hi : ℕ) → AreScratch lo hi → (q < lo) ⊎ (hi ≤ q)
  pin_outside lo hi h = frame_outside lo hi q h pin_in_frame

module _ (s : Seats) (are : AreSeats s) (t q : ℕ) (e : s.register t ≡ Some q) where
  pub seat_free : IsFree q
  seat_free = apart_free q (are.seat t q e)

  pub temp_in_frame : InFrame q
  temp_in_frame = apart_in_frame q (are.seat t q e)

  pub seat_outside : (lo hi : ℕ) → AreScratch lo hi → (q < lo) ⊎ (hi ≤ q)
  seat_outside lo hi h = frame_outside lo hi q h temp_in_frame

  -- no scratch register
  pub seat_apart : (lo hi r : ℕ) → AreScratch lo hi → lo ≤ r → r < hi → q ≢ r
  seat_apart lo hi r h l u same = ⊎_elim (λ (x : q < lo). omega arith) (λ (x : hi ≤ q). omega arith) (seat_outside lo hi h)
