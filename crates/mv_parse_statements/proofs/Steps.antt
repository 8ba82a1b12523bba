-- The reading of statements, unfolded by one step.
use Rattle.std.proofs.Common.{ℕ, zero, suc, Result, List}
use Rattle.mv_syntax.specs.declared.unit.Line.{Line}
use Rattle.mv_parse_nodes.specs.declared.fault.Fault.{Fault}
use Rattle.mv_parse_grammar.specs.Terminals.{Terminal}
use Rattle.mv_parse_grammar.specs.ExpressionReader.{read}
use Rattle.mv_parse_grammar.specs.StatementReader as model
use Rattle.mv_parse_nodes.specs.Gives.{Gives}

-- a step of the bound
pub bounded : {A : Type 0} {view : A → Line × List Terminal} {r : Result A Fault} (ts : List Terminal)
    → ((n : ℕ) → Gives view r (model.statement n (read n) (model.locals n) (model.statements n) ts)) → (n : ℕ) → Gives view r (model.statements n ts)
bounded ts h zero = record { told = tt }
bounded ts h (suc n) = h n
