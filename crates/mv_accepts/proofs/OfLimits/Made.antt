-- How many nodes what is made of some parts has at most: around each operand there is one conversion at most.
use Rattle.std.proofs.Common.{◌≡◌, ℕ, ◌+◌, ◌≤◌, Bool, true, false, arith, Option, Some, None, nat_eq, if◌then◌else◌, List, [], ◌∷◌, map}
use Rattle.std.specs.Prelude.{sum}
use Rattle.std.proofs.lemmas.List.Sums.{sum_by-cons}
use Rattle.mv_ast.specs.declared.program.CType.{CType}
use Rattle.mv_ast.specs.declared.program.CType.TheVariants.{Void, Pointer}
use Rattle.mv_ast.specs.declared.program.Expr.{Expr}
use Rattle.mv_ast.specs.declared.program.Form.TheVariants as form
use Rattle.mv_ast.specs.declared.program.Signature.{Signature}
use Rattle.mv_ast.specs.Counts.{expr_nodes, target_nodes}
use Rattle.mv_check_scope.specs.declared.meaning.Elements.{Elements}
use Rattle.mv_check_scope.specs.declared.meaning.Meaning.{Meaning}
use Rattle.mv_check_scope.specs.declared.meaning.Meaning.TheVariants as meaning
use Rattle.mv_check_scope.specs.declared.meaning.Storage.{Storage}
use Rattle.mv_check_scope.specs.declared.meaning.Storage.TheVariants as storage
use Rattle.mv_check_scope.specs.Conversions.{same_type, int, typed, promoted, promotion, converted_to}
use Rattle.mv_check_expressions.specs.declared.seen.Object.{Object}
use Rattle.mv_check_expressions.specs.declared.seen.Seen.{Seen}
use Rattle.mv_check_expressions.specs.declared.seen.Seen.TheVariants as seen
use Rattle.mv_check_expressions.specs.declared.seen.Use.{Use}
use Rattle.mv_check_expressions.specs.declared.seen.Use.TheVariants as «use»
use Rattle.mv_check_expressions.specs.Calls.{pointed, result_of, callee_params, passed, named_index, named_function, direct_or_through, with_index, called_with, call_of}
use Rattle.mv_check_expressions.specs.Seen.{object_at, element_at, value_of, no_value, number_or_zero, object_of, switch_of, seen_name}
use Rattle.mv_check_expressions.specs.Found.{is_address, is_indirection, is_both, is_either, unary_of, binary_of, choose_of, computed_of, left_type, right_type, result_type, common_type, change_of, assign_to, assign_of, one, before_of, after_of, element_of, named_switch, address_of, unary_seen, compound_operator}
use Rattle.mv_accepts.proofs.OfLimits.Weights.{nodes_number, nodes_read, nodes_function, nodes_unary, nodes_binary, nodes_both, nodes_either, nodes_choose, nodes_convert, nodes_set, nodes_change, nodes_after, nodes_direct, nodes_through, nodes_known, nodes_global, nodes_local, nodes_global_at, nodes_local_at}

-- ---- operators

pub converted_weight : (t : CType) (e : Expr) → expr_nodes (converted_to t e) ≤ 1 + expr_nodes e
unfolding converted_to
converted_weight t e = by (same_type t e.ctype)
  where
    by : (b : Bool) → expr_nodes (if b then e else typed t (form.Convert e)) ≤ 1 + expr_nodes e
    by true = omega arith
    by false = omega (arith, nodes_convert t e)

unary_weight : (op : ℕ) (e : Expr) → expr_nodes (unary_of op e) ≤ 2 + expr_nodes e
unfolding unary_of
unary_weight op e = by (nat_eq op 11)
  where
    by : (b : Bool) → expr_nodes (if b then typed int (form.Unary op e) else typed (promotion e.ctype) (form.Unary op (promoted e))) ≤ 2 + expr_nodes e
    by true = omega (arith, nodes_unary int op e)
    by false = omega (arith, nodes_unary (promotion e.ctype) op (promoted e), converted_weight (promotion e.ctype) e)

computed_weight : (op : ℕ) (s t : CType) (a b : Expr) → expr_nodes (computed_of op s t a b) ≤ 3 + (expr_nodes a + expr_nodes b)
computed_weight op s t a b = omega (arith, nodes_binary (result_type op s) op (converted_to s a) (converted_to t b), converted_weight s a, converted_weight t b)

pub binary_weight : (op : ℕ) (a b : Expr) → expr_nodes (binary_of op a b) ≤ 3 + (expr_nodes a + expr_nodes b)
unfolding binary_of
binary_weight op a b = by (is_both op) (is_either op)
  where
    by : (c d : Bool) →
        expr_nodes (if c then typed int (form.Both a b) else if d then typed int (form.Either a b) else computed_of op (left_type op a.ctype b.ctype) (right_type op a.ctype b.ctype) a b) ≤
        3 + (expr_nodes a + expr_nodes b)
    by true d = omega (arith, nodes_both int a b)
    by false true = omega (arith, nodes_either int a b)
    by false false = computed_weight op (left_type op a.ctype b.ctype) (right_type op a.ctype b.ctype) a b

pub choose_weight : (c a b : Expr) → expr_nodes (choose_of c a b) ≤ 3 + (expr_nodes c + (expr_nodes a + expr_nodes b))
unfolding choose_of
choose_weight c a b =
    let t : CType = common_type a.ctype b.ctype in
    omega (arith, nodes_choose t c (converted_to t a) (converted_to t b), converted_weight t a, converted_weight t b)

-- ---- assignments

-- the nodes of an object that is read
abbrev pub place_nodes : Option Object → ℕ
place_nodes None = 0
place_nodes (Some o) = 1 + target_nodes o.target

pub place_weight : (y : Seen) → place_nodes (object_of y) ≤ expr_nodes (value_of y)
place_weight (seen.Object o) = omega (arith, nodes_read o.ctype o.target)
place_weight x = omega arith

pub nothing_weight : expr_nodes no_value ≡ 1
nothing_weight = nodes_number Void 0

change_weight : (op : ℕ) (o : Object) (b : Expr) → expr_nodes (change_of op o b) ≤ 2 + (target_nodes o.target + expr_nodes b)
unfolding change_of
change_weight op o b =
    let t : CType = right_type op o.ctype b.ctype in
    omega (arith, nodes_change o.ctype op (left_type op o.ctype b.ctype) o.target (converted_to t b), converted_weight t b)

assigned_weight : (op : ℕ) (o : Object) (b : Expr) → expr_nodes (assign_to op o b) ≤ 2 + (target_nodes o.target + expr_nodes b)
unfolding assign_to
assigned_weight op o b = by (nat_eq op 22)
  where
    by : (c : Bool) → expr_nodes (if c then typed o.ctype (form.Set o.target (converted_to o.ctype b)) else change_of (compound_operator op) o b) ≤ 2 + (target_nodes o.target + expr_nodes b)
    by true = omega (arith, nodes_set o.ctype o.target (converted_to o.ctype b), converted_weight o.ctype b)
    by false = change_weight (compound_operator op) o b

pub assign_weight : (op : ℕ) (o : Option Object) (b : Expr) → expr_nodes (assign_of op o b) ≤ 1 + (place_nodes o + expr_nodes b)
assign_weight op None b = omega (arith, nothing_weight)
assign_weight op (Some o) b = omega (arith, assigned_weight op o b)

pub before_weight : (up : Bool) (o : Option Object) → expr_nodes (before_of up o) ≤ 2 + place_nodes o
before_weight up None = omega (arith, nothing_weight)
before_weight up (Some o) = omega (arith, change_weight (if up then 12 else 13) o one, nodes_number int 1)

pub after_weight : (up : Bool) (o : Option Object) → expr_nodes (after_of up o) ≤ 1 + place_nodes o
after_weight up None = omega (arith, nothing_weight)
after_weight up (Some o) = omega (arith, nodes_after o.ctype up o.target)

-- ---- objects and names

object_weight : (s : Storage) → target_nodes (object_at s) ≡ 0
object_weight (storage.Global g) = nodes_global g
object_weight (storage.Local l) = nodes_local l

at_weight : (s : Storage) (i : Expr) → target_nodes (element_at s i) ≡ expr_nodes i
at_weight (storage.Global g) i = nodes_global_at g i
at_weight (storage.Local l) i = nodes_local_at l i

pub element_weight : (a : Option Elements) (i : Expr) → expr_nodes (value_of (element_of a i)) ≤ 2 + expr_nodes i
element_weight None i = omega (arith, nothing_weight)
element_weight (Some a) i =
    omega (arith, nodes_read a.ctype (element_at a.storage (promoted i)), at_weight a.storage (promoted i), converted_weight (promotion i.ctype) i)

pub name_weight : (m : Option Meaning) → expr_nodes (value_of (seen_name m)) ≡ 1
name_weight (Some (meaning.Object v)) = omega (arith, nodes_read v.ctype (object_at v.storage), object_weight v.storage)
name_weight (Some (meaning.Function r)) = nodes_function (Pointer r.signature) (number_or_zero r.number)
name_weight (Some (meaning.Enumerator n)) = nodes_number int n
name_weight x = nothing_weight

switch_weight : (o : Option ℕ) → expr_nodes (value_of (named_switch o)) ≡ 1
switch_weight None = nothing_weight
switch_weight (Some n) = nothing_weight

address_weight : (u : Use) (y : Seen) → expr_nodes (value_of (address_of u y)) ≤ 1 + expr_nodes (value_of y)
address_weight «use».Switch y = omega (arith, switch_weight (switch_of y))
address_weight x y = omega arith

pub one_weight : (u : Use) (op : ℕ) (y : Seen) → expr_nodes (value_of (unary_seen u op y)) ≤ 2 + expr_nodes (value_of y)
one_weight u op y = by (is_address op) (is_indirection op)
  where
    by : (a b : Bool) → expr_nodes (value_of (if a then address_of u y else if b then seen.Designator (value_of y) else seen.Value (unary_of op (value_of y)))) ≤ 2 + expr_nodes (value_of y)
    by true b = omega (arith, address_weight u y)
    by false true = omega arith
    by false false = unary_weight op (value_of y)

-- ---- calls

-- the nodes of arguments, each with a conversion around it
abbrev pub args_nodes : List Seen → ℕ
args_nodes [] = 0
args_nodes (a ∷ args) = 1 + (expr_nodes (value_of a) + args_nodes args)

passed_weight : (ts : List CType) (args : List Seen) → sum (map expr_nodes (passed ts args)) ≤ args_nodes args
passed_weight ts [] = omega arith
passed_weight [] (a ∷ args) = omega arith
passed_weight (t ∷ ts) (a ∷ args) =
    omega (
      arith,
      converted_weight t (value_of a),
      passed_weight ts args,
      sum_by-cons (λ x. x) (expr_nodes (converted_to t (value_of a))) (map expr_nodes (passed ts args)),
    )

through_weight : (o : Option ℕ) (t : CType) (e : Expr) (args : List Expr) → expr_nodes (typed t (direct_or_through o e args)) ≤ 1 + (expr_nodes e + sum (map expr_nodes args))
through_weight None t e args = omega (arith, nodes_through t args e)
through_weight (Some g) t e args = omega (arith, nodes_direct t g args)

called_weight : (signatures : List Signature) (y : Seen) (n : ℕ) (values : List Expr) →
    expr_nodes (called_with signatures y n values) ≤ 1 + (expr_nodes (value_of y) + sum (map expr_nodes values))
unfolding called_with
called_weight signatures (seen.Known k) n values = omega (arith, nodes_known int (with_index k n) values)
called_weight signatures (seen.Value e) n values = through_weight (named_function e) (result_of (pointed signatures e.ctype)) e values
called_weight signatures (seen.Object o) n values = through_weight (named_function (value_of (seen.Object o))) (result_of (pointed signatures o.ctype)) (value_of (seen.Object o)) values
called_weight signatures (seen.Array a) n values = through_weight (named_function no_value) (result_of (pointed signatures Void)) no_value values
called_weight signatures (seen.Function r) n values =
    through_weight (named_function (value_of (seen.Function r))) (result_of (pointed signatures (Pointer r.signature))) (value_of (seen.Function r)) values
called_weight signatures (seen.Designator e) n values = through_weight (named_function e) (result_of (pointed signatures e.ctype)) e values
called_weight signatures (seen.Switch s) n values = through_weight (named_function no_value) (result_of (pointed signatures Void)) no_value values

pub call_weight : (signatures : List Signature) (y : Seen) (args : List Seen) → expr_nodes (call_of signatures y args) ≤ 1 + (expr_nodes (value_of y) + args_nodes args)
call_weight signatures y args =
    omega (arith, called_weight signatures y (named_index args) (passed (callee_params signatures y) args), passed_weight (callee_params signatures y) args)
