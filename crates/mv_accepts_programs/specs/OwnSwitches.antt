-- The switches of a function are those that it names.
use Rattle.std.specs.Prelude.{◌≡◌, true, map}
use Rattle.mv_ast.specs.declared.program.Program.{Program}
use Rattle.mv_ast.specs.declared.program.Function.{Function}
use Rattle.mv_source_forms.specs.Lists.{all_of}
use Rattle.mv_source_forms.specs.Uses.{all_expressions, names_own}
use Rattle.mv_check_uses.specs.Uses.{switches_named}

-- where a function's switches are those that its statements name, each switch that an expression in it names is among them
abbrev pub OwnSwitchesAreNamed : Type 0
OwnSwitchesAreNamed =
    (p : Program) (f : Function) → f.switches ≡ switches_named p.switches f.body → all_of (map (all_expressions (names_own p f)) f.body) ≡ true
