-- Properties of expressions that come from those of their parts.
use Rattle.std.proofs.Common.{◌≡◌, ℕ, ◌⊎◌, Bool, true, false, Some, nat_lt, List, length}
use Rattle.std.specs.List.{AllByRecursion}
use Rattle.mv_ast.specs.declared.program.CType.{CType}
use Rattle.mv_ast.specs.declared.program.Expr.{Expr}
use Rattle.mv_ast.specs.declared.program.Form.TheVariants as form
use Rattle.mv_ast.specs.declared.program.Known.{Known}
use Rattle.mv_ast.specs.declared.program.Known.TheVariants as known
use Rattle.mv_ast.specs.declared.program.Target.{Target}
use Rattle.mv_check_scope.specs.declared.meaning.Elements.{Elements}
use Rattle.mv_check_scope.specs.declared.meaning.Meaning.TheVariants as meaning
use Rattle.mv_check_scope.specs.declared.meaning.Routine.{Routine}
use Rattle.mv_check_scope.specs.declared.meaning.Variable.{Variable}
use Rattle.mv_check_scope.specs.declared.scope.Scope.{Scope}
use Rattle.mv_check_scope.specs.Conversions.{int, typed}
use Rattle.mv_check_scope.specs.Scoped.{meaning_of}
use Rattle.mv_check_expressions.specs.Seen.{object_at, element_at}
use Rattle.mv_check_expressions.specs.Calls.{known_params, with_index}

-- ---- what a scope names

module _ (scope : Scope) where
  abbrev pub NamesAttributed : ℕ → Type 0
  NamesAttributed n = (name : List ℕ) × (r : Routine) × (g : ℕ) × (meaning_of scope name ≡ Some (meaning.Function r)) × (r.number ≡ Some g) × (r.attributed ≡ Some n)

  abbrev pub NamesSwitch : ℕ → Type 0
  NamesSwitch n = (name : List ℕ) × (v : Variable) × (meaning_of scope name ≡ Some (meaning.Object v)) × (v.switch ≡ Some n)

  abbrev pub NamesKnown : Known → Type 0
  NamesKnown k = (name : List ℕ) × (meaning_of scope name ≡ Some (meaning.Known k))

  -- what an order's index stands for
  abbrev pub IsPlanned : ℕ → ℕ → Type 0
  IsPlanned code n =
      (nat_lt code 2 ≡ true) ⊎ (((nat_lt code 2 ≡ false) × (nat_lt code 4 ≡ true) × NamesAttributed n) ⊎ ((nat_lt code 2 ≡ false) × (nat_lt code 4 ≡ false) × NamesSwitch n))

  abbrev pub IsOrder : Known → ℕ → Type 0
  IsOrder (known.Plan code unknown) n = IsPlanned code n
  IsOrder _ n = Unit {0}

-- A property of expressions and of targets, in a scope.
pub record ExprProperty : Type 1 where
  pub scope : Scope
  pub of_expr : Expr → Type 0
  pub of_target : Target → Type 0
  pub variable : (name : List ℕ) (v : Variable) → meaning_of scope name ≡ Some (meaning.Object v) → of_target (object_at v.storage)
  pub element : (name : List ℕ) (a : Elements) (i : Expr) → meaning_of scope name ≡ Some (meaning.Array a) → of_expr i → of_target (element_at a.storage i)
  pub number : (t : CType) (n : ℕ) → of_expr (typed t (form.Number n))
  pub function : (t : CType) (g : ℕ) → of_expr (typed t (form.Function g))
  pub read : (t : CType) (l : Target) → of_target l → of_expr (typed t (form.Read l))
  pub unary : (t : CType) (op : ℕ) (a : Expr) → of_expr a → of_expr (typed t (form.Unary op a))
  pub binary : (t : CType) (op : ℕ) (a b : Expr) → of_expr a → of_expr b → of_expr (typed t (form.Binary op a b))
  pub both : (t : CType) (a b : Expr) → of_expr a → of_expr b → of_expr (typed t (form.Both a b))
  pub either : (t : CType) (a b : Expr) → of_expr a → of_expr b → of_expr (typed t (form.Either a b))
  pub choose : (t : CType) (c a b : Expr) → of_expr c → of_expr a → of_expr b → of_expr (typed t (form.Choose c a b))
  pub convert : (t : CType) (a : Expr) → of_expr a → of_expr (typed t (form.Convert a))
  pub assign : (t : CType) (l : Target) (a : Expr) → of_target l → of_expr a → of_expr (typed t (form.Set l a))
  pub change : (t : CType) (op : ℕ) (kind : CType) (l : Target) (a : Expr) → of_target l → of_expr a → of_expr (typed t (form.Change op kind l a))
  pub after : (t : CType) (up : Bool) (l : Target) → of_target l → of_expr (typed t (form.After up l))
  pub direct : (t : CType) (g : ℕ) (args : List Expr) → AllByRecursion of_expr args → of_expr (typed t (form.Direct g args))
  pub through : (t : CType) (args : List Expr) (e : Expr) → AllByRecursion of_expr args → of_expr e → of_expr (typed t (form.Through args e))
  pub call : (k : Known) (n : ℕ) (args : List Expr) → NamesKnown scope k → IsOrder scope k n → length args ≡ length (known_params k) → AllByRecursion of_expr args →
      of_expr (typed int (form.Known (with_index k n) args))
