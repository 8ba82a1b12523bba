-- What the forms of an expression come to under the program's own numbering, where the expression's node was counted already.
use Rattle.std.specs.Prelude.{ℕ, Bool, List, if◌then◌else◌}
use Rattle.mv_num.specs.Words.{add, sub}
use Rattle.mv_ast.specs.declared.program.CType.{CType}
use Rattle.mv_ast.specs.declared.program.Program.{Program}
use Rattle.mv_ast.specs.declared.program.Known.{Known}
use Rattle.mv_ast.specs.declared.program.Expr.{Expr}
use Rattle.mv_ast.specs.declared.program.Target.{Target}
use Rattle.mv_ast.specs.Numbering.{own_numbers}
use Rattle.mv_ast.specs.Operators.{converted, binary_value}
use Rattle.mv_ast.specs.Worlds.{Outcome, bind, give}
use Rattle.mv_interpret.specs.declared.interpreter.Change.{Change}
use Rattle.mv_meaning.specs.declared.state.Frame.{Frame}
use Rattle.mv_interpret.specs.declared.state.Here.{Here}
use Rattle.mv_interpret.specs.declared.state.State.{State}
use Rattle.mv_meaning.specs.declared.state.Lvalue.{Lvalue}
use Rattle.mv_meaning.specs.Meaning.{Evaluation, read_lvalue, store_lvalue, value_or_trap, unless_zero, truth_of, known_value, call_at, call_through, value_of, callee_of, values_of_all, lvalue_of}
use Rattle.mv_interpret.specs.Runs.{world_of}
use Rattle.mv_meaning.specs.Loops.{own_context}

module _ (p : Program) (here : Here) where
  -- an expression here
  abbrev pub value_here : Expr → Evaluation ℕ
  value_here = value_of p (own_context p here.bound)

  -- a target here
  abbrev pub lvalue_here : Target → Evaluation Lvalue
  lvalue_here = lvalue_of p (own_context p here.bound)

  -- the values of some arguments here
  abbrev pub arguments_here : List Expr → Evaluation (List ℕ)
  arguments_here = values_of_all p (own_context p here.bound)

  -- ---- one for each form whose parts are more than one, or of which one is a target or a call

  abbrev pub binary_outcome : ℕ → Expr → Expr → Frame → State → Outcome Frame ℕ
  binary_outcome op a b f s =
      bind (value_here a) (λ x. bind (value_here b) (λ y. value_or_trap (binary_value op a.ctype x y))) f (world_of here s)

  abbrev pub both_outcome : Expr → Expr → Frame → State → Outcome Frame ℕ
  both_outcome a b f s =
      bind (value_here a) (λ x. unless_zero x (give 0) (bind (value_here b) (λ y. give (truth_of y)))) f (world_of here s)

  abbrev pub either_outcome : Expr → Expr → Frame → State → Outcome Frame ℕ
  either_outcome a b f s =
      bind (value_here a) (λ x. unless_zero x (bind (value_here b) (λ y. give (truth_of y))) (give 1)) f (world_of here s)

  abbrev pub choice_outcome : Expr → Expr → Expr → Frame → State → Outcome Frame ℕ
  choice_outcome c a b f s = bind (value_here c) (λ x. unless_zero x (value_here b) (value_here a)) f (world_of here s)

  abbrev pub set_outcome : Target → Expr → Frame → State → Outcome Frame ℕ
  set_outcome t a f s = bind (lvalue_here t) (λ lvalue. bind (value_here a) (store_lvalue lvalue)) f (world_of here s)

  abbrev pub change_outcome : Change → Target → Expr → Frame → State → Outcome Frame ℕ
  change_outcome change t a f s =
      bind (lvalue_here t) (λ lvalue. bind (value_here a) (λ v. bind (read_lvalue p lvalue) (λ old.
      bind (value_or_trap (binary_value change.op change.kind old v)) (λ new. store_lvalue lvalue (converted change.ctype new))))) f (world_of here s)

  abbrev pub after_outcome : (up : Bool) → CType → Target → Frame → State → Outcome Frame ℕ
  after_outcome up type t f s =
      bind (lvalue_here t) (λ lvalue. bind (read_lvalue p lvalue) (λ old.
      bind (store_lvalue lvalue (converted type (if up then add old 1 else sub old 1))) (λ new. give old))) f (world_of here s)

  abbrev pub direct_outcome : ℕ → List Expr → Frame → State → Outcome Frame ℕ
  direct_outcome g args f s = bind (arguments_here args) (call_at (own_context p here.bound) g) f (world_of here s)

  abbrev pub through_outcome : CType → List Expr → Expr → Frame → State → Outcome Frame ℕ
  through_outcome type args callee f s =
      bind (arguments_here args) (λ vs. bind (callee_of p (own_context p here.bound) callee) (λ v. call_through (own_context p here.bound) type v vs)) f (world_of here s)

  abbrev pub known_outcome : Known → List Expr → Frame → State → Outcome Frame ℕ
  known_outcome k args f s = bind (arguments_here args) (known_value p (own_numbers p) k) f (world_of here s)
