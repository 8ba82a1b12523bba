-- Numbers of arguments, and tests that fail together.
use Rattle.std.proofs.Common.{◌≡◌, ℕ, ◌≤◌, Bool, true, false, refl, sym, ◌∙◌, ap, List, [], ◌∷◌, ◌++◌, take, length, Some, slice_get, nat_eq}
use Rattle.std.proofs.lemmas.List.{length-take-le, length-map}
use Rattle.std.proofs.lemmas.Bool.{and_from, or_parts, eq-eqb}
use Rattle.mv_ast.specs.declared.program.CType.{CType}
use Rattle.mv_ast.specs.declared.program.CType.TheVariants.{Void, Scalar, Pointer}
use Rattle.mv_ast.specs.declared.program.Program.{Program}
use Rattle.mv_ast.specs.declared.program.Function.{Function}
use Rattle.mv_ast.specs.declared.program.Local.{Local}
use Rattle.mv_ast.specs.declared.program.Expr.{Expr}
use Rattle.mv_ast.specs.Names.{any_of}
use Rattle.mv_bindings.specs.Bindings.{same_truth}
use Rattle.mv_check_scope.specs.Conversions as conversions
use Rattle.mv_source_forms.specs.Typing.{types_of, parameter_types}
use Rattle.mv_source_forms.specs.Names.{is_void, takes, is_callable}
use Rattle.mv_accepts.specs.Bodies.Formed.{HasParameters}
use Rattle.mv_bindings.proofs.Common.{truth_same}

pub any_last : (bs : List Bool) (b : Bool) → any_of (bs ++ b ∷ []) ≡ false → (any_of bs ≡ false) × (b ≡ false)
any_last [] b h = (refl, (or_parts b false h).0)
any_last (true ∷ bs) b h = absurd (cc)
any_last (false ∷ bs) b h = any_last bs b h

-- whether a type is `void`
pub void_is : (t : CType) (b : Bool) → conversions.is_void t ≡ b → is_void t ≡ b
void_is Void b h = h
void_is (Scalar k) b h = h
void_is (Pointer s) b h = h

-- as many arguments as parameters
parameters_count : (callee : Function) → callee.params ≤ length callee.locals → length (parameter_types callee) ≡ callee.params
parameters_count callee h = length-map (take callee.params callee.locals) (λ (l : Local). l.ctype) ∙ length-take-le callee.params callee.locals h

pub callable : (p : Program) → HasParameters p → (g : ℕ) (callee : Function) (t : CType) (args : List Expr) (n : ℕ) → n ≡ length args →
    slice_get p.functions g ≡ Some callee → t ≡ callee.result → types_of args ≡ parameter_types callee → is_callable p g n (is_void t) ≡ true
callable p has g callee t args n count there result types =
    let q : callee.params ≡ n = sym (parameters_count callee (has g callee there)) ∙ (ap length (sym types) ∙ (length-map args (λ (e : Expr). e.ctype) ∙ sym count)) in
    let takes_it : takes (Some callee) n (is_void t) ≡ true =
    and_from (nat_eq callee.params n) (same_truth (is_void callee.result) (is_void t)) (eq-eqb callee.params n q)
    (ap (λ u. same_truth (is_void callee.result) (is_void u)) result ∙ truth_same (is_void callee.result)) in
    ap (λ o. takes o n (is_void t)) there ∙ takes_it
