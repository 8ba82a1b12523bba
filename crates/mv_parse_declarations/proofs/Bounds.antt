-- The reading of parameters, unfolded by one step.
use Rattle.std.proofs.Common.{ℕ, zero, suc, Result, List}
use Rattle.mv_syntax.specs.declared.unit.Param.{Param}
use Rattle.mv_parse_nodes.specs.declared.fault.Fault.{Fault}
use Rattle.mv_parse_grammar.specs.Terminals.{Terminal}
use Rattle.mv_parse_grammar.specs.ExpressionReader.{read}
use Rattle.mv_parse_grammar.specs.DeclarationReader as model
use Rattle.mv_parse_nodes.specs.Gives.{Gives}

-- a step of the bound
pub bounded : {A : Type 0} {view : A → List Param × List Terminal} {r : Result A Fault} (ts : List Terminal)
    → ((n : ℕ) → Gives view r (model.parameters n (read n) (model.params n) ts)) → (n : ℕ) → Gives view r (model.params n ts)
bounded ts h zero = record { told = tt }
bounded ts h (suc n) = h n
