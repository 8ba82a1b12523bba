-- Divisions by a number that isn't 0, and what their instructions leave.
use Rattle.std.proofs.Common.{◌≡◌, ℕ, zero, suc, ◌-◌, ◌^◌, ◌<◌, cond, List, pos, ap, arith}
use Rattle.std.proofs.lemmas.Bool.{ne_eqb}
use Rattle.std.proofs.lemmas.Nat.{mod_below}
use Rattle.std.proofs.Math.Nat.{div-le_self}
use Rattle.std.specs.Prelude.{int_div, int_rem}
use Rattle.mv_num.specs.Words.{add, div_s, div_u, rem_s, rem_u, signed}
use Rattle.mv_isa.specs.Execution.{Access, Outcome, Goes, reg, put, quotient_s, quotient_u, remainder_s, remainder_u, sets, execute}
use Rattle.mv_ir.specs.Trees.{divide}
use Rattle.mv_select_code.specs.Trees.Straight.{Sets}
use Rattle.mv_select_code.proofs.OfTrees.Instructions.{on, addi_sets}
use Rattle.mv_select_code.proofs.OfTrees.Registers.{reg_zero}
use Rattle.mv_select_code.proofs.OfTrees.Words.{add_zero}
use Rattle.mv_select_code.specs.Statements.StatementCode.{division}
use Rattle.mv_num.proofs.Numbers.{word_of_pos, word_small}

pub div_s_below : (a b : ℕ) → div_s a b < 2 ^ 32
unfolding div_s
div_s_below a b = word_small (int_div (signed a) (signed b))

pub rem_s_below : (a b : ℕ) → rem_s a b < 2 ^ 32
unfolding rem_s
rem_s_below a b = word_small (int_rem (signed a) (signed b))

pub div_u_below : (a b : ℕ) → a < 2 ^ 32 → div_u a b < 2 ^ 32
unfolding div_u
div_u_below a b h = omega (arith, div-le_self a b)

rem_u_below : (a b : ℕ) → (b ≡ 0 → ⊥) → b < 2 ^ 32 → rem_u a b < 2 ^ 32
unfolding rem_u
rem_u_below a b ne h = omega (arith, mod_below a b (above ne))
  where
    above : (b ≡ 0 → ⊥) → 0 < b
    above ne = grind (arith, ne)

-- what a division gives is a word
pub divide_below : (o a b : ℕ) → (b ≡ 0 → ⊥) → a < 2 ^ 32 → b < 2 ^ 32 → divide o a b < 2 ^ 32
unfolding divide
divide_below zero a b ne p q = div_s_below a b
divide_below (suc zero) a b ne p q = div_u_below a b p
divide_below (suc (suc zero)) a b ne p q = rem_s_below a b
divide_below (suc (suc (suc zero))) a b ne p q = rem_u_below a b ne q
divide_below (suc (suc (suc (suc o)))) a b ne p q = omega arith

quotient_s_is : (a b : ℕ) → (b ≡ 0 → ⊥) → quotient_s a b ≡ div_s a b
unfolding quotient_s
quotient_s_is a b ne = ap (λ d. cond d (2 ^ 32 - 1) (div_s a b)) (ne_eqb b 0 ne)

quotient_u_is : (a b : ℕ) → (b ≡ 0 → ⊥) → quotient_u a b ≡ div_u a b
unfolding quotient_u
quotient_u_is a b ne = ap (λ d. cond d (2 ^ 32 - 1) (div_u a b)) (ne_eqb b 0 ne)

remainder_s_is : (a b : ℕ) → (b ≡ 0 → ⊥) → remainder_s a b ≡ rem_s a b
unfolding remainder_s
remainder_s_is a b ne = ap (λ d. cond d a (rem_s a b)) (ne_eqb b 0 ne)

remainder_u_is : (a b : ℕ) → (b ≡ 0 → ⊥) → remainder_u a b ≡ rem_u a b
unfolding remainder_u
remainder_u_is a b ne = ap (λ d. cond d a (rem_u a b)) (ne_eqb b 0 ne)

module _ {M : Type 0} (access : Access M) (m : M) where
  abbrev puts : List ℕ → ℕ → ℕ → ℕ → Outcome M
  puts regs rd pc v = Goes (put regs rd v) (add pc 4) m

  pub division_sets : (o d p q a b : ℕ) (regs : List ℕ) → (b ≡ 0 → ⊥) → reg regs p ≡ a → reg regs q ≡ b → Sets access m (division o d p q) regs (put regs d (divide o a b))
  unfolding division divide execute sets
  division_sets zero d p q a b regs ne e f pc = ap (puts regs d pc) (on quotient_s (reg regs p) (reg regs q) a b (div_s a b) e f (quotient_s_is a b ne))
  division_sets (suc zero) d p q a b regs ne e f pc = ap (puts regs d pc) (on quotient_u (reg regs p) (reg regs q) a b (div_u a b) e f (quotient_u_is a b ne))
  division_sets (suc (suc zero)) d p q a b regs ne e f pc = ap (puts regs d pc) (on remainder_s (reg regs p) (reg regs q) a b (rem_s a b) e f (remainder_s_is a b ne))
  division_sets (suc (suc (suc zero))) d p q a b regs ne e f pc = ap (puts regs d pc) (on remainder_u (reg regs p) (reg regs q) a b (rem_u a b) e f (remainder_u_is a b ne))
  division_sets (suc (suc (suc (suc o)))) d p q a b regs ne e f pc = addi_sets access m d 0 (pos 0) regs 0 0 0 (reg_zero regs) (word_of_pos 0 (omega arith)) (add_zero 0 (omega arith)) pc
