-- Bare names that stand again in a declaration, where they declare nothing new.
use Rattle.std.specs.Prelude.{◌≡◌, ℕ, Bool, true, false, ◌&&◌, not, is_some, List, [], Option, Some, slice_get}
use Rattle.mv_ast.specs.declared.program.CType.{CType}
use Rattle.mv_syntax.specs.declared.unit.Declarator.{Declarator}
use Rattle.mv_syntax.specs.declared.unit.Line.{Line}
use Rattle.mv_syntax.specs.declared.unit.Shape.{out-Shape}
use Rattle.mv_check_scope.specs.declared.meaning.Meaning.{Meaning}
use Rattle.mv_check_scope.specs.Conversions.{is_void}
use Rattle.mv_check_scope.specs.Spaces.{named}
use Rattle.mv_check_outline.specs.Names.{is_among}
use Rattle.mv_check_outline.specs.Outlined.{is_filled}
use Rattle.mv_check_declarations.specs.declared.specifiers.Specified.{Specified}
use Rattle.mv_check_declarations.specs.Objects.{scalar}
use Rattle.mv_types.specs.declared.contents.Contents.{Contents}
use Rattle.mv_types.specs.declared.contents.Object.{Object}
use Rattle.mv_types.specs.Objects.{number_of, agrees, again, domain_by}
use Rattle.mv_syntax.specs.Shapes.{is_plain_shape}

-- the name of a scalar alone, with no attribute, initial value or block behind it
abbrev pub is_bare : Option Line → Declarator → Bool
is_bare body d = is_plain_shape (out-Shape d.shape) && (is_some d.name && (not (is_filled d.marks) && (not (is_some d.initial) && not (is_some body))))

-- a name means an object that one more bare name of this type and domain leaves as it is
pub record IsSettled (t : CType) (domain : Option (List ℕ)) (c : Contents) (name : List ℕ) : Type 0 where
  pub meaning : Meaning
  pub number : ℕ
  pub object : Object
  pub sound : is_void t ≡ false
  pub means : named name c.scope.names.here ≡ Some meaning
  pub numbered : number_of meaning ≡ Some number
  pub there : slice_get c.objects number ≡ Some object
  pub allowed : agrees object (scalar t) false domain ≡ true
  pub kept : again object [] false domain ≡ object

-- so does each of some names, behind what these specifiers say
pub record AreSettled (b : Specified) (c : Contents) (names : List (List ℕ)) : Type 0 where
  pub settled : (name : List ℕ) → is_among name names ≡ true → IsSettled b.ctype (domain_by false c.scope b.enumeration b.attribute) c name
