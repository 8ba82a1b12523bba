-- Programs within the limits.
use Rattle.std.specs.Prelude.{◌≡◌, ◌≤◌, None}
use Rattle.mv_num.specs.Limits.{node_limit}
use Rattle.mv_ast.specs.declared.program.Program.{Program}
use Rattle.mv_check_limits.specs.Limits.{first_exceeded}
use Rattle.mv_source_forms.specs.WellFormed.{program_nodes, IsWithinLimits}

-- where no limit is reported, nothing that a limit counts is above it
abbrev pub WithinLimits : Type 0
WithinLimits = (p : Program) → first_exceeded p ≡ None → program_nodes p ≤ node_limit → IsWithinLimits p
