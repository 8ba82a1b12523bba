-- What is proved of the lowering of expressions and statements.
use Rattle.std.specs.Prelude.{◌≡◌, Bool, None, ℕ, ◌≤◌, true, List, map}
use Rattle.mv_ast.specs.declared.program.CType.{CType}
use Rattle.mv_ast.specs.declared.program.Expr.{Expr}
use Rattle.mv_ast.specs.declared.program.Stmt.{Stmt}
use Rattle.mv_ast.specs.Worlds.{stop}
use Rattle.mv_ast.specs.declared.program.Known.{Known}
use Rattle.mv_ast.specs.declared.program.Program.{Program}
use Rattle.mv_ir.specs.Outcome.{Bound, Calls}
use Rattle.mv_ir.specs.Trees.{depth}
use Rattle.mv_ir.specs.Measures.{deepest}
use Rattle.mv_meaning.specs.Meaning.{Context, context_with, value_of, flow_of_all}
use Rattle.mv_lower_spec.specs.Lower.{lower_expr}
use Rattle.mv_source_forms.specs.Names.{is_well_named, is_callable, is_void, stmt_is_well_formed}
use Rattle.mv_source_forms.specs.Lists.{all_of}
use Rattle.mv_lower_spec.specs.Correct.{Ground, Scene, Correct, CallsAgree, KnownAgrees, SwitchedAgrees, astray, IsStrict}
use Rattle.mv_lower_spec.specs.Statements.{Jumps, in_sequence, out_of, levels, FlowCorrect}
use Rattle.mv_lower_spec.specs.LowerStatements.{lower_stmt}
use Rattle.mv_source_forms.specs.Labels.{stmt_labelled}

-- An expression that names only what there is does, lowered from any free temporary on and in any frame that has room, what it means: where
-- the functions that it calls and the known functions do so, and a call through a pointer reaches only functions that fit.
abbrev pub ExpressionsAreRight : Type 0
ExpressionsAreRight =
    (scene : Scene) (bound : Bound) (free : ℕ → Bool) (context : Context) →
    ((l : ℕ) → free l ≡ true → scene.held l ≡ None) → scene.locals ≤ scene.room → IsStrict scene.p scene.setting.numbers context →
    CallsAgree scene.p scene.frame scene.own bound context →
    ((known : Known) → KnownAgrees scene.p scene.frame scene.own scene.setting known) → SwitchedAgrees scene.p scene.setting →
    (e : Expr) → is_well_named scene.p scene.own scene.locals scene.sizes free e ≡ true →
    Correct scene bound (value_of scene.p context e) (lower_expr scene.p.pointers e)

-- No tree of a lowered expression is deeper than 4.
abbrev pub ExpressionsAreShallow : Type 0
ExpressionsAreShallow = (pointers : List ℕ) (e : Expr) (n : ℕ) → (deepest (lower_expr pointers e n).code ≤ 4) × (depth (lower_expr pointers e n).tree ≤ 4)

-- whether a call through a pointer, whose value has this type, fits a function
abbrev pub fits_call : Program → CType → ℕ → ℕ → Bool
fits_call p t g n = is_callable p g n (is_void t)

-- what is around an evaluation at a bound, where calls through pointers reach only functions that fit
abbrev pub strict_context : Program → List ℕ → ℕ → Context
strict_context p numbers = context_with p numbers (fits_call p) (stop astray)

-- Well-formed statements, with labels as they should be, do, lowered to where control leads as they stand, in any frame that has room and at each bound up to a limit, what they
-- mean: where up to that limit the functions that they call and the known functions do so.
abbrev pub StatementsAreRight : Type 0
StatementsAreRight =
    (ground : Ground) (void : Bool) (limit : ℕ) (calls : ℕ → Calls) →
    ground.locals ≤ ground.room →
    ((k : ℕ) → k ≤ limit → CallsAgree ground.p ground.frame ground.own (levels calls k) (strict_context ground.p ground.setting.numbers k)) →
    ((known : Known) → KnownAgrees ground.p ground.frame ground.own ground.setting known) → SwitchedAgrees ground.p ground.setting →
    (body : List Stmt) → all_of (map (stmt_is_well_formed ground.p ground.own ground.locals ground.sizes void) body) ≡ true → all_of (map stmt_labelled body) ≡ true → (jumps : Jumps) →
    (in_sequence ground.locals (map (lower_stmt ground.p.pointers ground.locals ground.sizes void) body) jumps).top ≤ ground.room → (k : ℕ) → k ≤ limit →
    FlowCorrect ground void (out_of void jumps) 0 (levels calls k) (flow_of_all ground.p (strict_context ground.p ground.setting.numbers k) body)
    (in_sequence ground.locals (map (lower_stmt ground.p.pointers ground.locals ground.sizes void) body) jumps).code
