-- Code that so many nodes of the source pay for.
use Rattle.std.proofs.Common.{ℕ, ◌+◌, ◌*◌, ◌≤◌, List, [], ◌∷◌}
use Rattle.mv_ir.specs.declared.tree.Tree.{Tree}
use Rattle.mv_ir.specs.declared.stm.Stm.{Stm}
use Rattle.mv_ast.specs.declared.program.Expr.{Expr}
use Rattle.mv_lower_spec.specs.Lowered.{Lowering}
use Rattle.mv_lower_spec.specs.Shape.Calls.{expr_weight}

module _ (locals : ℕ) (B : ℕ → ℕ → ℕ → ℕ → List Tree → List Stm → List Tree → Type 0) where
  -- What a lowering gives between statements. It leaves some units and nodes, with which its value is put away and its parent pays.
  pub record ValuePaid (n k : ℕ) (l : Lowering) : Type 0 where
    pub units : ℕ
    pub words : ℕ
    pub nodes : ℕ
    pub made : B units words nodes k [] (l locals).code ((l locals).tree ∷ [])
    pub few_units : units + 2 ≤ 6 * n
    pub few_nodes : nodes + 3 ≤ 9 * n
    pub few_words : words + 2 * nodes + 17 ≤ 40 * n

  pub record CodePaid (n k : ℕ) (code : List Stm) : Type 0 where
    pub units : ℕ
    pub words : ℕ
    pub nodes : ℕ
    pub made : B units words nodes k [] code []
    pub few_units : units ≤ 6 * n
    pub few_nodes : nodes ≤ 9 * n
    pub few_words : words + 2 * nodes ≤ 40 * n

  -- A statement also leaves some units and nodes, with which an arm of a `switch` is entered that it begins.
  pub record StmtPaid (n k : ℕ) (code : List Stm) : Type 0 where
    pub units : ℕ
    pub words : ℕ
    pub nodes : ℕ
    pub made : B units words nodes k [] code []
    pub few_units : units + 2 ≤ 6 * n
    pub few_nodes : nodes + 4 ≤ 9 * n
    pub few_words : words + 2 * nodes + 18 ≤ 40 * n

pub paid : {locals : ℕ} {B : ℕ → ℕ → ℕ → ℕ → List Tree → List Stm → List Tree → Type 0} {n k : ℕ} {xs : List Stm} (s w t : ℕ) →
    B s w t k [] xs [] → s ≤ 6 * n → t ≤ 9 * n → w + 2 * t ≤ 40 * n → CodePaid locals B n k xs
paid s w t h ls lt lw = record { units = s; words = w; nodes = t; made = h; few_units = ls; few_nodes = lt; few_words = lw }

pub stmt_paid : {locals : ℕ} {B : ℕ → ℕ → ℕ → ℕ → List Tree → List Stm → List Tree → Type 0} {n k : ℕ} {xs : List Stm} (s w t : ℕ) →
    B s w t k [] xs [] → s + 2 ≤ 6 * n → t + 4 ≤ 9 * n → w + 2 * t + 18 ≤ 40 * n → StmtPaid locals B n k xs
stmt_paid s w t h ls lt lw = record { units = s; words = w; nodes = t; made = h; few_units = ls; few_nodes = lt; few_words = lw }

-- these by short names, and the weight of an expression's calls
pub record Paying : Type 1 where
  pub weight : Expr → ℕ
  pub ValuePaid : ℕ → ℕ → Lowering → Type 0
  pub CodePaid : ℕ → ℕ → List Stm → Type 0
  pub StmtPaid : ℕ → ℕ → List Stm → Type 0

abbrev pub paying : ℕ → (ℕ → ℕ) → ℕ → (ℕ → ℕ → ℕ → ℕ → List Tree → List Stm → List Tree → Type 0) → Paying
paying locals direct through B = record { weight = expr_weight direct through; ValuePaid = ValuePaid locals B; CodePaid = CodePaid locals B; StmtPaid = StmtPaid locals B }
