-- A program whose global is a pointer switch: `int f(void) { return 7; } __attribute__((multiverse)) int (*g)(void) = f; int main(void) { if (g == 0) g = f; return g(); }` is well typed.
use Rattle.std.proofs.Common.{◌≡◌, inl, inr, false, [], ◌∷◌, map, refl, sym, subst, Some, None}
use Rattle.std.specs.Prelude.{All}
use Rattle.std.proofs.lemmas.List.Elements.{All-nil, All-cons}
use Rattle.mv_ast.specs.declared.program.CType.TheVariants.{Pointer}
use Rattle.mv_ast.specs.declared.program.Program.{Program}
use Rattle.mv_ast.specs.declared.program.Global.{Global}
use Rattle.mv_ast.specs.declared.program.Function.{Function}
use Rattle.mv_ast.specs.declared.program.Expr.{Expr}
use Rattle.mv_ast.specs.declared.program.Form.{out-roll-Form}
use Rattle.mv_ast.specs.declared.program.Form.TheOpen as form
use Rattle.mv_ast.specs.declared.program.Target.{Target, roll-Target, out-Target, out-roll-Target}
use Rattle.mv_ast.specs.declared.program.Stmt.{roll-Stmt, every_made-Stmt}
use Rattle.mv_ast.specs.declared.program.Stmt.TheOpen as stmt
use Rattle.mv_ast.specs.Starts.{first_words_under}
use Rattle.mv_meaning_numbering.proofs.Constants.{comes_number}
use Rattle.mv_source_forms.specs.Typing.{IsNull, IsFirstValue, LvalueHasType, HasTypedParts, IsTypedExpr, IsTypedStmt, IsTypedFunction, IsFunctionOf, IsPointerSwitch, IsTyped}
use Rattle.mv_source_forms.proofs.TypedParts.{rolled, TypedTarget, expr_made, target_made}
use Rattle.mv_ast.specs.Types.{int}

abbrev the_global : Target
the_global = roll-Target (form.Global 0)

abbrev read_g : Expr
read_g = rolled (Pointer 0) (form.Read the_global)

abbrev zero_int : Expr
zero_int = rolled int (form.Number 0)

abbrev null : Expr
null = rolled (Pointer 0) (form.Convert zero_int)

abbrev is_null : Expr
is_null = rolled int (form.Binary 29 read_g null)

abbrev name_f : Expr
name_f = rolled (Pointer 0) (form.Function 0)

abbrev set_g : Expr
set_g = rolled (Pointer 0) (form.Set the_global name_f)

abbrev seven : Expr
seven = rolled int (form.Number 7)

abbrev call_g : Expr
call_g = rolled int (form.Through [] read_g)

abbrev f : Function
f = record { name = []; attributed = false; result = int; params = 0; locals = []; switches = []; body = roll-Stmt (stmt.Return (Some seven)) ∷ [] }

abbrev main : Function
main = record {
  name = [];
  attributed = false;
  result = int;
  params = 0;
  locals = [];
  switches = [];
  body = roll-Stmt (stmt.If is_null (roll-Stmt (stmt.Express set_g) ∷ []) []) ∷ roll-Stmt (stmt.Return (Some call_g)) ∷ [];
}

abbrev program : Program
program = record {
  signatures = record { result = int; params = [] } ∷ [];
  globals = record { name = []; ctype = Pointer 0; size = None; first = 1 ∷ [] } ∷ [];
  functions = f ∷ main ∷ [];
  switches = [];
  pointers = 0 ∷ [];
  main = 1;
}

f_is : IsFunctionOf program 0 0
f_is = record { signature = record { result = int; params = [] }; function = f; declared = refl; defined = refl; result = refl; parameters = refl }

module _ (fn : Function) where
  typed_target : TypedTarget program fn the_global
  typed_target = target_made program fn (form.Global 0) (form.Global 0) refl

  target_type : LvalueHasType program fn (Pointer 0) (out-Target the_global)
  target_type = subst (LvalueHasType program fn (Pointer 0)) (sym (out-roll-Target (form.Global 0))) refl

  read_typed : IsTypedExpr program fn read_g
  read_typed = expr_made program fn (Pointer 0) (form.Read the_global) (form.Read (the_global, typed_target)) refl target_type

  zero_typed : IsTypedExpr program fn zero_int
  zero_typed = expr_made program fn int (form.Number 0) (form.Number 0) refl tt

  zero_null : IsNull program zero_int
  zero_null = (tt, comes_number program zero_int 0 (out-roll-Form (form.Number 0)))

  null_typed : IsTypedExpr program fn null
  null_typed = expr_made program fn (Pointer 0) (form.Convert zero_int) (form.Convert (zero_int, zero_typed)) refl (inr zero_null)

  name_typed : IsTypedExpr program fn name_f
  name_typed = expr_made program fn (Pointer 0) (form.Function 0) (form.Function 0) refl (0, refl, f_is)

  test_typed : IsTypedExpr program fn is_null
  test_typed = expr_made program fn int (form.Binary 29 read_g null) (form.Binary 29 (read_g, read_typed) (null, null_typed)) refl (tt, inr (inl refl, 0, refl, refl))

  set_typed : IsTypedExpr program fn set_g
  set_typed = expr_made program fn (Pointer 0) (form.Set the_global name_f) (form.Set (the_global, typed_target) (name_f, name_typed)) refl (target_type, refl)

  seven_typed : IsTypedExpr program fn seven
  seven_typed = expr_made program fn int (form.Number 7) (form.Number 7) refl tt

  call_typed : IsTypedExpr program fn call_g
  call_typed =
      expr_made program fn int (form.Through [] read_g) (form.Through [] (read_g, read_typed)) refl
      (0, record { result = int; params = [] }, refl, refl, refl, refl)

  express_typed : IsTypedStmt program fn (roll-Stmt (stmt.Express set_g))
  express_typed = every_made-Stmt (HasTypedParts program fn) (λ z. Unit {0}) (stmt.Express set_g) (stmt.Express set_g) refl set_typed

  if_typed : IsTypedStmt program fn (roll-Stmt (stmt.If is_null (roll-Stmt (stmt.Express set_g) ∷ []) []))
  if_typed =
      every_made-Stmt (HasTypedParts program fn) (λ z. Unit {0}) (stmt.If is_null (roll-Stmt (stmt.Express set_g) ∷ []) [])
      (stmt.If is_null ((roll-Stmt (stmt.Express set_g), express_typed) ∷ []) []) refl test_typed

f_typed : IsTypedFunction program f
f_typed = record {
  switches = All-nil _;
  body = All-cons (IsTypedStmt program f) _ [] (every_made-Stmt (HasTypedParts program f) (λ z. Unit {0}) (stmt.Return (Some seven)) (stmt.Return (Some seven)) refl (seven_typed f, refl)) (All-nil _);
}

main_typed : IsTypedFunction program main
main_typed = record {
  switches = All-nil _;
  body =
      All-cons (IsTypedStmt program main) _ (roll-Stmt (stmt.Return (Some call_g)) ∷ []) (if_typed main)
      (All-cons (IsTypedStmt program main) _ [] (every_made-Stmt (HasTypedParts program main) (λ z. Unit {0}) (stmt.Return (Some call_g)) (stmt.Return (Some call_g)) refl (call_typed main, refl)) (All-nil _));
}

pub worked_program : IsTyped program
worked_program = record {
  functions = All-cons (IsTypedFunction program) f (main ∷ []) f_typed (All-cons (IsTypedFunction program) main [] main_typed (All-nil _));
  pointers = All-cons (IsPointerSwitch program) 0 [] (record { signature = 0; global = refl }) (All-nil _);
  globals = All-cons (λ (g : Global). All (IsFirstValue program g.ctype) g.first) _ [] (All-cons (IsFirstValue program (Pointer 0)) 1 [] (inr (0, refl, f_is)) (All-nil _)) (All-nil _);
  entry = record { main = main; defined = refl; bare = refl; result = tt };
}

-- under the entry addresses 0x1000 and 0x1008 its global starts as the first of them
pub worked_start : map (first_words_under (4096 ∷ 4104 ∷ [])) program.globals ≡ (4096 ∷ []) ∷ []
worked_start = refl
