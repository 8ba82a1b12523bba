-- Checked programs are well formed.
use Rattle.std.specs.Prelude.{◌≡◌, ◌≤◌, ℕ, List, None}
use Rattle.mv_num.specs.Limits.{node_limit}
use Rattle.mv_ast.specs.declared.program.Program.{Program}
use Rattle.mv_syntax.specs.declared.unit.Unit as unit
use Rattle.mv_front.specs.Verdicts.{IsProgram}
use Rattle.mv_check_expressions.specs.Judged.{Good}
use Rattle.mv_check_limits.specs.Limits.{first_exceeded}
use Rattle.mv_source_forms.specs.WellFormed.{IsWellFormed, program_nodes}
use Rattle.mv_types.specs.Units.{unit_judgement}
use Rattle.mv_accepts.specs.Limits.Nodes.{unit_nodes}

-- the program of a unit that keeps the rules, where no limit is reported and it has at most so many nodes
abbrev pub CheckedAreWellFormed : Type 0
CheckedAreWellFormed =
    (u : unit.Unit) (p : Program) → unit_judgement u ≡ Good p → first_exceeded p ≡ None → program_nodes p ≤ node_limit → IsWellFormed p

-- the same by the nodes of the unit
abbrev pub SmallUnitsAreWellFormed : Type 0
SmallUnitsAreWellFormed =
    (u : unit.Unit) (p : Program) → unit_judgement u ≡ Good p → first_exceeded p ≡ None → unit_nodes u ≤ 4194304 → IsWellFormed p

-- the program of a text, of which nothing more is asked
abbrev pub ProgramsOfTextsAreWellFormed : Type 0
ProgramsOfTextsAreWellFormed = (text : List ℕ) (p : Program) → IsProgram text p → IsWellFormed p
