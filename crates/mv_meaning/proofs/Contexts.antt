-- What is around an evaluation at each bound.
use Rattle.std.proofs.Common.{◌≡◌, ℕ, zero, suc, true, List, refl}
use Rattle.mv_ast.specs.declared.program.Program.{Program}
use Rattle.mv_ast.specs.Worlds.{give}
use Rattle.mv_meaning.specs.Meaning.{context_at}

pub numbers_at : (p : Program) (numbers : List ℕ) (k : ℕ) → (context_at p numbers k).numbers ≡ numbers
numbers_at p numbers zero = refl
numbers_at p numbers (suc k) = refl

pub lets_at : (p : Program) (numbers : List ℕ) (k : ℕ) → (context_at p numbers k).lets ≡ (λ t f n. true)
lets_at p numbers zero = refl
lets_at p numbers (suc k) = refl

pub stray_at : (p : Program) (numbers : List ℕ) (k : ℕ) → (context_at p numbers k).stray ≡ give 0
stray_at p numbers zero = refl
stray_at p numbers (suc k) = refl
