use Rattle.mv_select_code.proofs.OfStatements.ScalarStatements.{set_done, set_global_done, divide_done, result_done}
use Rattle.mv_select_code.proofs.OfStatements.ArrayStatements.{check_done, read_done, write_done}
use Rattle.mv_select_code.proofs.OfStatements.BranchesDo.{branch_done}
use Rattle.mv_select_code.proofs.OfStatements.EncodedCode.{statements_are_encoded}
use Rattle.mv_select_code.proofs.OfStatements.ZeroStatement.{bounds_done, clear_done}
use Rattle.mv_select_code.proofs.statements.laws.statement_code_law.Goals as goal

pub returns-clause-encoded : goal.returns-clause-encoded
returns-clause-encoded g c = statements_are_encoded

pub returns-clause-done : goal.returns-clause-done
returns-clause-done g c access s setting frame fit = record {
  set = set_done access s setting frame fit;
  set_global = set_global_done access s setting frame fit;
  divide = divide_done access s setting frame fit;
  check = check_done access s setting frame fit;
  read = read_done access s setting frame fit;
  write = write_done access s setting frame fit;
  bounds = bounds_done access s setting frame fit;
  clear = λ a n l. clear_done access s setting frame fit a l n;
  branch = branch_done access s setting frame fit;
  result = result_done access s setting frame fit;
}
