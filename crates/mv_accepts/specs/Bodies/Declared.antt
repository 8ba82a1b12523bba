-- The bodies of functions that keep the rules name locals only where they are declared.
use Rattle.std.specs.Prelude.{◌≡◌, ℕ, Bool, true, List, map, Some}
use Rattle.mv_ast.specs.declared.program.Program.{Program}
use Rattle.mv_ast.specs.declared.program.Function.{Function}
use Rattle.mv_ast.specs.declared.program.Stmt.{Stmt}
use Rattle.mv_syntax.specs.declared.unit.Line.{Line}
use Rattle.mv_check_scope.specs.declared.meaning.Meaning.{Meaning}
use Rattle.mv_check_scope.specs.declared.meaning.Meaning.TheVariants as meaning
use Rattle.mv_check_scope.specs.declared.meaning.Storage.{Storage}
use Rattle.mv_check_scope.specs.declared.meaning.Storage.TheVariants as storage
use Rattle.mv_check_scope.specs.declared.scope.Scope.{Scope}
use Rattle.mv_check_scope.specs.Scoped.{meaning_of}
use Rattle.mv_check_expressions.specs.Judged.{Good}
use Rattle.mv_check_statements.specs.Statements.{body_judgement}
use Rattle.mv_source_forms.specs.Scopes.{all_scoped, stmt_scoped}
use Rattle.mv_source_forms.specs.WellFormed.{parameters}
use Rattle.mv_accepts.specs.Expressions.Soundness.{Fits}
use Rattle.mv_accepts.specs.Statements.Bodies.{Keeps}

-- a global, or one of some locals
abbrev pub IsIn : (ℕ → Bool) → Storage → Type 0
IsIn locals (storage.Global g) = Unit {0}
IsIn locals (storage.Local l) = locals l ≡ true

abbrev pub IsCovered : (ℕ → Bool) → Meaning → Type 0
IsCovered locals (meaning.Object v) = IsIn locals v.storage
IsCovered locals (meaning.Array a) = IsIn locals a.storage
IsCovered locals _ = Unit {0}

-- the locals that a scope names are among some
abbrev pub Covers : (ℕ → Bool) → Scope → Type 0
Covers locals scope = (name : List ℕ) (m : Meaning) → meaning_of scope name ≡ Some m → IsCovered locals m

-- where the scope before a body names no locals but the parameters
abbrev pub BodyNamesDeclared : Type 0
BodyNamesDeclared =
    (p : Program) (f : Function) (body : Line) (before after : Scope) (ss : List Stmt) → body_judgement f.result body before ≡ Good (after, ss) →
    Keeps after.signatures p.signatures → Keeps after.locals f.locals → Fits p f before → Covers (parameters f) before →
    all_scoped (map stmt_scoped ss) (parameters f) ≡ true
