-- What the code of entry and return is, one register at a time.
use Rattle.std.proofs.Common.{◌≡◌, ℕ, suc, ◌+◌, ◌*◌, ◌++◌, [], pos, refl, ap, arith, append_assoc}
use Rattle.mv_isa.specs.declared.instr.Instr.TheVariants.{Lw, Sw, Addi}
use Rattle.mv_isa.specs.Registers.{a0}
use Rattle.mv_select_code.specs.Trees.TreeCode.{one, temp_register}
use Rattle.mv_select.specs.Functions.FunctionCode.{saved_register, save_lines, restore_lines, parameter_lines}

pub save_none : (first : ℕ) → save_lines first 0 ≡ []
save_none first = refl

pub save_next : (first k : ℕ) → save_lines first (k + 1) ≡ save_lines first k ++ one (Sw 2 (saved_register (first + k)) (pos (4 * (first + k))))
save_next first k = let e : k + 1 ≡ suc k = omega arith in ap (save_lines first) e

pub restore_none : (first : ℕ) → restore_lines first 0 ≡ []
restore_none first = refl

pub restore_next : (first k : ℕ) → restore_lines first (k + 1) ≡ restore_lines first k ++ one (Lw (saved_register (first + k)) 2 (pos (4 * (first + k))))
restore_next first k = let e : k + 1 ≡ suc k = omega arith in ap (restore_lines first) e

pub parameter_none : parameter_lines 0 ≡ []
parameter_none = refl

pub parameter_next : (k : ℕ) → parameter_lines (k + 1) ≡ parameter_lines k ++ one (Addi (temp_register k) (a0 + k) (pos 0))
parameter_next k = let e : k + 1 ≡ suc k = omega arith in ap parameter_lines e

pub ruleset frames = (save_none, save_next, restore_none, restore_next, parameter_none, parameter_next, append_assoc)
