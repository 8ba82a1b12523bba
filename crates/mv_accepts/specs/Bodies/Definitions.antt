-- Definitions of functions that keep the rules are well formed (C11 6.9.1).
use Rattle.std.specs.Prelude.{◌≡◌, ℕ, ◌≤◌, All, false, true, List, [], length, map, take, None}
use Rattle.mv_ast.specs.declared.program.Program.{Program}
use Rattle.mv_ast.specs.declared.program.Function.{Function}
use Rattle.mv_syntax.specs.declared.unit.Line.{Line}
use Rattle.mv_syntax.specs.declared.unit.Param.{Param}
use Rattle.mv_check_scope.specs.declared.scope.Scope.{Scope}
use Rattle.mv_check_expressions.specs.Judged.{Good}
use Rattle.mv_check_declarations.specs.Parameters.{parameters_judgement}
use Rattle.mv_check_statements.specs.Statements.{body_judgement}
use Rattle.mv_source_forms.specs.Typing.{IsTypedStmt}
use Rattle.mv_source_forms.specs.Lists.{all_of}
use Rattle.mv_source_forms.specs.Names.{is_void, stmt_is_well_formed, size_in}
use Rattle.mv_source_forms.specs.Jumps.{all_jump, stmt_jumps}
use Rattle.mv_source_forms.specs.Labels.{stmt_labelled}
use Rattle.mv_source_forms.specs.Uses.{all_expressions, calls_known}
use Rattle.mv_source_forms.specs.Scopes.{all_scoped, stmt_scoped}
use Rattle.mv_source_forms.specs.WellFormed.{parameters}
use Rattle.mv_accepts.specs.Expressions.Soundness.{Fits}
use Rattle.mv_accepts.specs.Statements.Bodies.{Keeps}
use Rattle.mv_accepts.specs.Bodies.Formed.{AreShaped, HasParameters}
use Rattle.mv_accepts.specs.Bodies.Declared.{Covers}

-- A function is what a definition with these parameters and this body comes to, from the scope before the parameters to the one behind the body.
pub record IsDefinition (f : Function) (params : List Param) (body : Line) (before after : Scope) : Type 0 where
  pub middle : Scope
  pub judged_parameters : parameters_judgement before params ≡ Good middle
  pub judged_body : body_judgement f.result body middle ≡ Good (after, f.body)
  pub none_before : before.locals ≡ []
  pub count : f.params ≡ length params
  pub locals : f.locals ≡ after.locals

-- its parameters are its first locals, and scalars
pub record HasScalarParameters (f : Function) : Type 0 where
  pub there : f.params ≤ length f.locals
  pub scalars : All (λ l. l.size ≡ None) (take f.params f.locals)

abbrev pub DefinitionHasParameters : Type 0
DefinitionHasParameters = (f : Function) (params : List Param) (body : Line) (before after : Scope) → IsDefinition f params body before after → HasScalarParameters f

-- it is well typed, and well formed but for its list of switches
pub record IsFormed (p : Program) (own : ℕ) (f : Function) : Type 0 where
  pub typed : All (IsTypedStmt p f) f.body
  pub named : all_of (map (stmt_is_well_formed p own (length f.locals) (size_in f.locals) (is_void f.result)) f.body) ≡ true
  pub declared : all_scoped (map stmt_scoped f.body) (parameters f) ≡ true
  pub jumps : all_jump (map stmt_jumps f.body) false false ≡ true
  pub labels : all_of (map stmt_labelled f.body) ≡ true
  pub known : all_of (map (all_expressions (calls_known p)) f.body) ≡ true

-- where the scope before it says what the program has, and names no local
abbrev pub DefinitionIsFormed : Type 0
DefinitionIsFormed =
    (p : Program) (own : ℕ) (f : Function) (params : List Param) (body : Line) (before after : Scope) → IsDefinition f params body before after →
    Keeps after.signatures p.signatures → HasParameters p → Covers (λ l. false) before → Fits p f before → AreShaped p own f before → IsFormed p own f
