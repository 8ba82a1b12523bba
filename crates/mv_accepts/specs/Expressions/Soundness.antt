-- Expressions that keep the rules are well typed.
use Rattle.std.specs.Prelude.{◌≡◌, ℕ, List, Some, slice_get}
use Rattle.mv_ast.specs.declared.program.CType.{CType}
use Rattle.mv_ast.specs.declared.program.CType.TheVariants.{Void, Scalar, Pointer}
use Rattle.mv_ast.specs.declared.program.Program.{Program}
use Rattle.mv_ast.specs.declared.program.Function.{Function}
use Rattle.mv_ast.specs.declared.program.Signature.{Signature}
use Rattle.mv_ast.specs.declared.program.Expr.{Expr}
use Rattle.mv_syntax.specs.declared.unit.Node.{Node}
use Rattle.mv_check_scope.specs.declared.meaning.Storage.{Storage}
use Rattle.mv_check_scope.specs.declared.meaning.Storage.TheVariants as storage
use Rattle.mv_check_scope.specs.declared.meaning.Meaning.{Meaning}
use Rattle.mv_check_scope.specs.declared.meaning.Meaning.TheVariants as meaning
use Rattle.mv_check_scope.specs.declared.scope.Scope.{Scope}
use Rattle.mv_check_scope.specs.Scoped.{meaning_of}
use Rattle.mv_source_forms.specs.Typing.{global_types, local_types, IsFunctionOf, IsTypedExpr}
use Rattle.mv_check_expressions.specs.Judged.{Good}
use Rattle.mv_check_expressions.specs.Judgements.{value_judgement, effect_judgement}

-- a pointer's signature is listed
abbrev pub IsListed : List Signature → CType → Type 0
IsListed signatures Void = Unit {0}
IsListed signatures (Scalar kind) = Unit {0}
IsListed signatures (Pointer s) = (signature : Signature) × (slice_get signatures s ≡ Some signature)

-- a global or a local of a type, or an array of such
abbrev pub IsStored : Program → Function → Storage → CType → Type 0
IsStored p f (storage.Global g) t = slice_get (global_types p) g ≡ Some t
IsStored p f (storage.Local l) t = slice_get (local_types f) l ≡ Some t

-- what a name means is what the program has
abbrev pub IsMeant : Program → Function → List Signature → Meaning → Type 0
IsMeant p f signatures (meaning.Object v) = IsStored p f v.storage v.ctype × IsListed signatures v.ctype
IsMeant p f signatures (meaning.Array a) = IsStored p f a.storage a.ctype × IsListed signatures a.ctype
IsMeant p f signatures (meaning.Function r) = ((g : ℕ) → r.number ≡ Some g → IsFunctionOf p r.signature g) × IsListed signatures (Pointer r.signature)
IsMeant p f signatures _ = Unit {0}

-- A scope says what a program and a function of it have: its names mean that, its signatures are the program's, and so are those of what functions give.
pub record Fits (p : Program) (f : Function) (scope : Scope) : Type 0 where
  pub names : (name : List ℕ) (m : Meaning) → meaning_of scope name ≡ Some m → IsMeant p f scope.signatures m
  pub signatures : (s : ℕ) (signature : Signature) → slice_get scope.signatures s ≡ Some signature → slice_get p.signatures s ≡ Some signature
  pub results : (s : ℕ) (signature : Signature) → slice_get scope.signatures s ≡ Some signature → IsListed scope.signatures signature.result

-- The value of an expression that keeps the rules is well typed in each program that has what the scope says.
abbrev pub GoodIsTyped : Type 0
GoodIsTyped =
    (p : Program) (f : Function) (scope : Scope) (node : Node) (e : Expr) → Fits p f scope → value_judgement scope node ≡ Good e → IsTypedExpr p f e

-- So is what is computed for its effect.
abbrev pub EffectIsTyped : Type 0
EffectIsTyped =
    (p : Program) (f : Function) (scope : Scope) (node : Node) (e : Expr) → Fits p f scope → effect_judgement scope node ≡ Good e → IsTypedExpr p f e
