-- Constant expressions and their values (C11 6.6), of expressions with their types.
use Rattle.std.specs.Prelude.{ℕ, Bool, true, false, ◌&&◌, ◌||◌, not, nat_eq, if◌then◌else◌, Option, Some, None}
use Rattle.mv_ast.specs.declared.program.CType.{CType}
use Rattle.mv_ast.specs.declared.program.Expr.{Expr, Expr-F, fold-Expr}
use Rattle.mv_ast.specs.declared.program.Form.{Form-F}
use Rattle.mv_ast.specs.declared.program.Form.TheOpen as form
use Rattle.mv_ast.specs.declared.program.Target.{Target-F}
use Rattle.mv_ast.specs.Operators.{unary_value, binary_value, converted}
use Rattle.mv_num.specs.Words.{as_word}
use Rattle.mv_check_scope.specs.Conversions.{is_integer, is_pointer, same_type}

-- whether an expression is built of numbers and operators alone
abbrev pub constant_form : Form-F Bool (Unit {0}) Bool → Bool
constant_form (form.Number n) = true
constant_form (form.Read target) = false
constant_form (form.Function f) = false
constant_form (form.Unary op a) = a
constant_form (form.Binary op a b) = a && b
constant_form (form.Both a b) = a && b
constant_form (form.Either a b) = a && b
constant_form (form.Choose c a b) = c && (a && b)
constant_form (form.Convert a) = a
constant_form (form.Set target a) = false
constant_form (form.Change op t target a) = false
constant_form (form.After up target) = false
constant_form (form.Direct f args) = false
constant_form (form.Through args f) = false
constant_form (form.Known k args) = false

abbrev pub constant_target : Target-F Bool (Unit {0}) Bool → Unit {0}
constant_target target = tt

abbrev pub constant_expr : Expr-F Bool (Unit {0}) Bool → Bool
constant_expr e = e.what

abbrev pub is_constant : Expr → Bool
is_constant = fold-Expr Bool (Unit {0}) Bool constant_form constant_target constant_expr

-- an expression's type, and its value if nothing but numbers is read and nothing is divided by 0 on the way to it
pub record Evaluated : Type 0 where
  pub ctype : CType
  pub value : Option ℕ

abbrev pub of_one : Option ℕ → (ℕ → ℕ) → Option ℕ
of_one None f = None
of_one (Some a) f = Some (f a)

abbrev pub of_two : Option ℕ → Option ℕ → (ℕ → ℕ → Option ℕ) → Option ℕ
of_two None b f = None
of_two (Some a) None f = None
of_two (Some a) (Some b) f = f a b

abbrev pub truth : Option ℕ → Option ℕ
truth a = of_one a (λ n. as_word (not (nat_eq n 0)))

-- the second or third, by whether the first isn't 0; the other one isn't evaluated
abbrev pub by_test : Option ℕ → Option ℕ → Option ℕ → Option ℕ
by_test None a b = None
by_test (Some n) a b = if nat_eq n 0 then b else a

abbrev pub value_form : Form-F (CType → Option ℕ) (Unit {0}) Evaluated → CType → Option ℕ
value_form (form.Number n) t = Some n
value_form (form.Read target) t = None
value_form (form.Function f) t = None
value_form (form.Unary op a) t = of_one a.value (unary_value op)
value_form (form.Binary op a b) t = of_two a.value b.value (binary_value op a.ctype)
value_form (form.Both a b) t = by_test a.value (truth b.value) (Some 0)
value_form (form.Either a b) t = by_test a.value (Some 1) (truth b.value)
value_form (form.Choose c a b) t = by_test c.value a.value b.value
value_form (form.Convert a) t = of_one a.value (converted t)
value_form (form.Set target a) t = None
value_form (form.Change op kind target a) t = None
value_form (form.After up target) t = None
value_form (form.Direct f args) t = None
value_form (form.Through args f) t = None
value_form (form.Known k args) t = None

abbrev pub value_target : Target-F (CType → Option ℕ) (Unit {0}) Evaluated → Unit {0}
value_target target = tt

abbrev pub value_expr : Expr-F (CType → Option ℕ) (Unit {0}) Evaluated → Evaluated
value_expr e = record { ctype = e.ctype; value = e.what e.ctype }

abbrev pub evaluated : Expr → Evaluated
evaluated = fold-Expr (CType → Option ℕ) (Unit {0}) Evaluated value_form value_target value_expr

abbrev pub computed : Expr → Option ℕ
computed e = (evaluated e).value

-- the value of a constant expression whose evaluation divides by no zero
abbrev pub constant_value : Expr → Option ℕ
constant_value e = if is_constant e then computed e else None

abbrev pub is_zero : Option ℕ → Bool
is_zero None = false
is_zero (Some n) = nat_eq n 0

-- an integer constant expression of value 0 is null where a function pointer is wanted (C11 6.3.2.3)
abbrev pub is_null : Expr → Bool
is_null e = is_integer e.ctype && is_zero (constant_value e)

-- whether a value converts to a type as by assignment (C11 6.5.16.1)
abbrev pub converts : Expr → CType → Bool
converts e t = (is_integer e.ctype && is_integer t) || (is_pointer t && (same_type e.ctype t || is_null e))
