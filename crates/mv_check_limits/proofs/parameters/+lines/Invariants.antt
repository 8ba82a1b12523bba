use Rattle.std.proofs.Common.{◌≡◌, map, drop}
use Rattle.std.specs.List.{concat}
use Rattle.mv_check_limits.specs.Limits.{first_above}
use Rattle.mv_check_limits.specs.Ordered.{line_parameters}
use Rattle.mv_check_limits.proofs.parameters.+lines.Given as goal

abbrev pub invariant-of_lines-loop-line : goal.invariant-of_lines-loop-line
invariant-of_lines-loop-line l = record {
  rest : first_above 8 (concat (map line_parameters l.lines)) ≡ first_above 8 (concat (map line_parameters (drop l.line-index l.lines)));
}
