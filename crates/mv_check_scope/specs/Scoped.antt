-- What is declared at a place of the source, and how declarations and blocks change it.
use Rattle.std.specs.Prelude.{ℕ, List, [], ◌∷◌, ◌++◌, Option, Some, None, false}
use Rattle.mv_ast.specs.declared.program.Known.{Known}
use Rattle.mv_ast.specs.declared.program.Local.{Local}
use Rattle.mv_check_scope.specs.declared.meaning.Meaning.{Meaning}
use Rattle.mv_check_scope.specs.declared.meaning.Meaning.TheVariants as meaning
use Rattle.mv_check_scope.specs.declared.scope.Scope.{Scope}
use Rattle.mv_check_scope.specs.Known.{known_function}
use Rattle.mv_check_scope.specs.Scopes.{no_names, sought, with_name, entered, left}

abbrev pub start : Scope
start = record { names = no_names; tags = no_names; enumerations = []; signatures = []; locals = []; attributed = false }

abbrev pub as_known : Option Known → Option Meaning
as_known None = None
as_known (Some known) = Some (meaning.Known known)

-- a declared name hides the known function of that name
abbrev pub unless_declared : Option Meaning → Option Known → Option Meaning
unless_declared None known = as_known known
unless_declared (Some m) known = Some m

abbrev pub meaning_of : Scope → List ℕ → Option Meaning
meaning_of scope name = unless_declared (sought scope.names name) (known_function name)

abbrev pub tag_of : Scope → List ℕ → Option Meaning
tag_of scope tag = sought scope.tags tag

abbrev pub declared : Scope → List ℕ → Meaning → Scope
declared scope name m = record scope { names = with_name scope.names name m }

abbrev pub tag_declared : Scope → List ℕ → Meaning → Scope
tag_declared scope tag m = record scope { tags = with_name scope.tags tag m }

abbrev pub with_local : Scope → Local → Scope
with_local scope l = record scope { locals = scope.locals ++ l ∷ [] }

abbrev pub block_entered : Scope → Scope
block_entered scope = record scope { names = entered scope.names; tags = entered scope.tags }

abbrev pub block_left : Scope → Scope
block_left scope = record scope { names = left scope.names; tags = left scope.tags }
