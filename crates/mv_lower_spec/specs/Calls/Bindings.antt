-- Programs without commits, reverts and polls, which leave their functions bound as they are.
use Rattle.std.specs.Prelude.{◌≡◌, ℕ, Bool, true, false, ◌&&◌, map, Some, slice_get}
use Rattle.mv_ast.specs.declared.program.Program.{Program}
use Rattle.mv_ast.specs.declared.program.Function.{Function}
use Rattle.mv_ast.specs.declared.program.Known.{Known}
use Rattle.mv_ast.specs.declared.program.Known.TheVariants.{Getchar, Putchar, Poll, Plan}
use Rattle.mv_ast.specs.declared.program.Expr.{Expr, fold-Expr}
use Rattle.mv_ast.specs.declared.program.Form.{Form-F}
use Rattle.mv_ast.specs.declared.program.Form.TheOpen as form
use Rattle.mv_ir.specs.World.{World}
use Rattle.mv_ir.specs.Outcome.{End, Returned, Trapped, More, Stuck}
use Rattle.mv_source_forms.specs.Lists.{all_of}
use Rattle.mv_source_forms.specs.Scopes.{form_in, layer_in}
use Rattle.mv_source_forms.specs.Uses.{all_expressions, target_in_parts}

-- whether a known function is neither a commit or revert nor a poll
abbrev pub keeps_bindings : Known → Bool
keeps_bindings Getchar = true
keeps_bindings Putchar = true
keeps_bindings Poll = false
keeps_bindings (Plan code index) = false

abbrev pub form_never_rebinds : Form-F Bool Bool Bool → Bool
form_never_rebinds (form.Known k args) = keeps_bindings k && all_of args
form_never_rebinds f = form_in f

-- whether an expression calls no other known functions
abbrev pub never_rebinds : Expr → Bool
never_rebinds = fold-Expr Bool Bool Bool form_never_rebinds target_in_parts layer_in

-- no function of a program commits, reverts or polls
abbrev pub NeverRebinds : Program → Type 0
NeverRebinds p = (f : ℕ) (g : Function) → slice_get p.functions f ≡ Some g → all_of (map (all_expressions never_rebinds) g.body) ≡ true

-- a fact of the world in which a call ends, where it has a meaning
abbrev pub EndsIn : (World → Type 0) → End → Type 0
EndsIn fact (Returned v w) = fact w
EndsIn fact (Trapped code w) = fact w
EndsIn fact (More w) = fact w
EndsIn fact Stuck = Unit {0}
