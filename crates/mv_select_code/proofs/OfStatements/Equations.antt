-- What the code of statements is, one part at a time.
use Rattle.std.proofs.Common.{◌≡◌, ◌≢◌, ℕ, zero, suc, ◌+◌, ◌-◌, ◌*◌, ◌%◌, ◌^◌, cond, eqb, Option, Some, None, pos, refl, arith}
use Rattle.mv_num.specs.Words.{add}
use Rattle.mv_isa.specs.declared.instr.Instr.TheVariants.{Addi, Div, Divu, Rem, Remu}
use Rattle.mv_select_code.specs.Statements.StatementCode.{division, power_below, power_of}

pub division_0 : (d a b : ℕ) → division 0 d a b ≡ Div d a b
unfolding division
division_0 d a b = refl

pub division_1 : (d a b : ℕ) → division 1 d a b ≡ Divu d a b
unfolding division
division_1 d a b = refl

pub division_2 : (d a b : ℕ) → division 2 d a b ≡ Rem d a b
unfolding division
division_2 d a b = refl

pub division_3 : (d a b : ℕ) → division 3 d a b ≡ Remu d a b
unfolding division
division_3 d a b = refl

pub division_other : (o d a b : ℕ) → o ≢ 0 → o ≢ 1 → o ≢ 2 → o ≢ 3 → division o d a b ≡ Addi d 0 (pos 0)
unfolding division
division_other zero d a b p q r s = absurd (p refl)
division_other (suc zero) d a b p q r s = absurd (q refl)
division_other (suc (suc zero)) d a b p q r s = absurd (r refl)
division_other (suc (suc (suc zero))) d a b p q r s = absurd (s refl)
division_other (suc (suc (suc (suc o)))) d a b p q r s = refl

pub ruleset divisions = (division_0, division_1, division_2, division_3, division_other)

pub powers_none : (n : ℕ) → power_below 0 n ≡ None
unfolding power_below
powers_none n = refl

pub powers_less : (bound n : ℕ) → bound ≢ 0 → power_below bound n ≡ cond (eqb n (2 ^ (bound - 1))) (Some (bound - 1)) (power_below (bound - 1) n)
unfolding power_below
powers_less zero n ne = absurd (ne refl)
powers_less (suc k) n ne = let same : suc k - 1 ≡ k = omega arith in rw same refl

pub power_unwritten : (o : ℕ) → power_of o None ≡ None
unfolding power_of
power_unwritten o = refl

pub power_1 : (n : ℕ) → power_of 1 (Some n) ≡ power_below 32 n
unfolding power_of
power_1 n = refl

pub power_3 : (n : ℕ) → power_of 3 (Some n) ≡ power_below 12 n
unfolding power_of
power_3 n = refl

pub power_other : (o : ℕ) (w : Option ℕ) → o ≢ 1 → o ≢ 3 → power_of o w ≡ None
unfolding power_of
power_other o None p q = refl
power_other zero (Some n) p q = refl
power_other (suc zero) (Some n) p q = absurd (p refl)
power_other (suc (suc zero)) (Some n) p q = refl
power_other (suc (suc (suc zero))) (Some n) p q = absurd (q refl)
power_other (suc (suc (suc (suc o)))) (Some n) p q = refl

pub ruleset powers = (powers_none, powers_less, power_unwritten, power_1, power_3, power_other)

-- the place of an element, as it is computed with words
pub element_sum : (at n : ℕ) → (at + n * 4 % 4294967296) % 4294967296 ≡ add at (4 * n)
unfolding add
element_sum at n = omega arith
