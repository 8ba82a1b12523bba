-- What the names of a unit's file scope mean, behind some of its declarations.
use Rattle.std.specs.Prelude.{◌≡◌, ℕ, List, [], length, Some, None, slice_get}
use Rattle.mv_ast.specs.declared.program.CType.{CType}
use Rattle.mv_ast.specs.declared.program.CType.TheVariants.{Pointer}
use Rattle.mv_ast.specs.declared.program.Function.{Function}
use Rattle.mv_ast.specs.declared.program.Global.{Global}
use Rattle.mv_ast.specs.declared.program.Signature.{Signature}
use Rattle.mv_check_scope.specs.declared.meaning.Meaning.{Meaning}
use Rattle.mv_check_scope.specs.declared.meaning.Meaning.TheVariants as meaning
use Rattle.mv_check_scope.specs.declared.meaning.Routine.{Routine}
use Rattle.mv_check_scope.specs.declared.meaning.Storage.{Storage}
use Rattle.mv_check_scope.specs.declared.meaning.Storage.TheVariants as storage
use Rattle.mv_check_scope.specs.Spaces.{named}
use Rattle.mv_source_forms.specs.Typing.{parameter_types}
use Rattle.mv_check_outline.specs.Names.{place_of}
use Rattle.mv_accepts.specs.Expressions.Soundness.{IsListed}
use Rattle.mv_accepts.specs.Statements.Bodies.{Keeps, AreListed}
use Rattle.mv_types.specs.declared.contents.Contents.{Contents}
use Rattle.mv_types.specs.declared.contents.Foreknown.{Foreknown}
use Rattle.mv_types.specs.declared.contents.Object.{Object}
use Rattle.mv_types.specs.Foreknown.{attributed_number, switch_number}

-- ---- how contents grow

-- the same object, of which more may be said
pub record IsStill (o : Global) (objects : List Object) (n : ℕ) : Type 0 where
  pub object : Object
  pub there : slice_get objects n ≡ Some object
  pub name : object.global.name ≡ o.name
  pub ctype : object.global.ctype ≡ o.ctype
  pub size : object.global.size ≡ o.size

-- From contents to later ones: signatures and objects keep their numbers, functions that are defined stay, and names mean what they meant.
pub record Extends (before after : Contents) : Type 0 where
  pub signatures : Keeps before.scope.signatures after.scope.signatures
  pub objects : (n : ℕ) (o : Object) → slice_get before.objects n ≡ Some o → IsStill o.global after.objects n
  pub functions : (g : ℕ) (f : Function) → slice_get before.functions g ≡ Some (Some f) → slice_get after.functions g ≡ Some (Some f)
  pub names : (name : List ℕ) (m : Meaning) → named name before.scope.names.here ≡ Some m → named name after.scope.names.here ≡ Some m

-- ---- what a name means

-- a global of a type and size
pub record IsGlobal (c : Contents) (s : Storage) (t : CType) : Type 0 where
  pub number : ℕ
  pub object : Object
  pub global : s ≡ storage.Global number
  pub there : slice_get c.objects number ≡ Some object
  pub ctype : object.global.ctype ≡ t
  pub listed : IsListed c.scope.signatures t

abbrev pub IsDeclared : Foreknown → Contents → List ℕ → Meaning → Type 0
IsDeclared k c name (meaning.Object v) =
    (o : IsGlobal c v.storage v.ctype) × (o.object.global.size ≡ None) × (v.switch ≡ switch_number k name)
IsDeclared k c name (meaning.Array a) = (o : IsGlobal c a.storage a.ctype) × (size : ℕ) × (o.object.global.size ≡ Some size)
IsDeclared k c name (meaning.Function r) =
    IsListed c.scope.signatures (Pointer r.signature) × (r.number ≡ place_of name k.outline.functions) × (r.attributed ≡ attributed_number k name)
IsDeclared k c name (meaning.Enumerator v) = Unit {0}
IsDeclared k c name (meaning.Tag n) = ⊥
IsDeclared k c name (meaning.Known known) = ⊥

-- ---- functions that are defined

-- a function of the type that is the signature with a number
pub record IsOfSignature (signatures : List Signature) (s : ℕ) (f : Function) : Type 0 where
  pub signature : Signature
  pub there : slice_get signatures s ≡ Some signature
  pub result : signature.result ≡ f.result
  pub parameters : signature.params ≡ parameter_types f

-- Its name has its number and means a function of its type; its parameters are its first locals, which are scalars.
pub record IsDefinition (k : Foreknown) (c : Contents) (g : ℕ) (f : Function) : Type 0 where
  pub routine : Routine
  pub number : place_of f.name k.outline.functions ≡ Some g
  pub meaning : named f.name c.scope.names.here ≡ Some (meaning.Function routine)
  pub typed : IsOfSignature c.scope.signatures routine.signature f

-- ---- all together

-- At file scope no block is entered and there are no locals; each name means what the contents have, and each function that is defined is what its name means.
pub record IsSound (k : Foreknown) (c : Contents) : Type 0 where
  pub around : c.scope.names.around ≡ []
  pub locals : c.scope.locals ≡ []
  pub results : AreListed c.scope.signatures
  pub count : length c.functions ≡ length k.outline.functions
  pub names : (name : List ℕ) (m : Meaning) → named name c.scope.names.here ≡ Some m → IsDeclared k c name m
  pub functions : (g : ℕ) (f : Function) → slice_get c.functions g ≡ Some (Some f) → IsDefinition k c g f
