-- The reading of expressions, unfolded by one step.
use Rattle.std.proofs.Common.{◌≡◌, ℕ, zero, suc, Result, List, sym, ap}
use Rattle.mv_syntax.specs.declared.unit.Node.{Node}
use Rattle.mv_parse_nodes.specs.declared.fault.Fault.{Fault}
use Rattle.mv_parse_grammar.specs.Terminals.{Terminal}
use Rattle.mv_parse_grammar.specs.Expressions.{Nonterminal, Cast}
use Rattle.mv_parse_grammar.specs.ExpressionReader as M
use Rattle.mv_parse_nodes.specs.Gives.{Gives}

-- a step of the bound
pub bounded : {A : Type 0} {view : A → Node × List Terminal} {r : Result A Fault} (rule : Nonterminal) (ts : List Terminal)
    → ((n : ℕ) → Gives view r (M.step n (M.read n) rule ts)) → (n : ℕ) → Gives view r (M.read n rule ts)
bounded rule ts h zero = record { told = tt }
bounded rule ts h (suc n) = h n

pub level_zero : (n : ℕ) (S : M.Readers) (rank : ℕ) (ts : List Terminal) → rank ≡ 0 → S Cast ts ≡ M.level n S rank ts
unfolding M.level
level_zero n S rank ts e = ap (λ k. M.level n S k ts) (sym e)
