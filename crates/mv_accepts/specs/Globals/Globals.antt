-- The globals and the switches of a unit that keeps the rules.
use Rattle.std.specs.Prelude.{◌≡◌, ℕ, ◌<◌, All, length}
use Rattle.mv_ast.specs.declared.program.Program.{Program}
use Rattle.mv_ast.specs.declared.program.Global.{Global}
use Rattle.mv_syntax.specs.declared.unit.Unit as unit
use Rattle.mv_ast.specs.Counts.{words_of_size}
use Rattle.mv_check_expressions.specs.Judged.{Good}
use Rattle.mv_source_forms.specs.Typing.{IsIntegerSwitch}
use Rattle.mv_source_forms.specs.WellFormed.{IsWellFormedGlobal, IsWellFormedSwitch}
use Rattle.mv_types.specs.Units.{unit_judgement}

-- A program whose globals and switches are well formed. Each of its globals has a word (C11 6.7.6.2: the size of an array is above 0), and each of its
-- switches is an integer.
pub record HasFormedGlobals (p : Program) : Type 0 where
  pub words : All (λ (g : Global). 0 < words_of_size g.size) p.globals
  pub globals : All IsWellFormedGlobal p.globals
  pub switches : All (IsWellFormedSwitch p) p.switches
  pub integers : (s : ℕ) → s < length p.switches → IsIntegerSwitch p s

abbrev pub GlobalsAreFormed : Type 0
GlobalsAreFormed = (u : unit.Unit) (p : Program) → unit_judgement u ≡ Good p → HasFormedGlobals p
