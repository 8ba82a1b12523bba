-- Objects at file scope: how often one may be declared, and what its declarations come to (C11 6.7, 6.9.2).
use Rattle.std.specs.Prelude.{ℕ, Bool, true, false, ◌&&◌, ◌||◌, not, nat_eq, is_some, if◌then◌else◌, List, [], ◌∷◌, ◌++◌, length, Option, Some, None, slice_get, slice_set}
use Rattle.mv_ast.specs.declared.program.Local.{Local}
use Rattle.mv_syntax.specs.declared.unit.Declarator.{Declarator}
use Rattle.mv_syntax.specs.declared.unit.Initial.{Initial}
use Rattle.std.specs.Cmp.Lexicographic.{pointwise}
use Rattle.mv_check_scope.specs.declared.meaning.Meaning.{Meaning}
use Rattle.mv_check_scope.specs.declared.meaning.Meaning.TheVariants as meaning
use Rattle.mv_check_scope.specs.declared.meaning.Storage.{Storage}
use Rattle.mv_check_scope.specs.declared.meaning.Storage.TheVariants as storage
use Rattle.mv_check_scope.specs.declared.scope.Scope.{Scope}
use Rattle.mv_check_scope.specs.Conversions.{same_type, is_void}
use Rattle.mv_check_scope.specs.Scoped.{declared}
use Rattle.mv_check_scope.specs.Spaces.{named}
use Rattle.mv_check_expressions.specs.Judged.{Judged, Good, and_then}
use Rattle.mv_check_declarations.specs.declared.attributes.Attribute.{Attribute}
use Rattle.mv_check_declarations.specs.declared.globals.Words.{Words}
use Rattle.mv_check_declarations.specs.declared.objects.Breaches.{Breaches}
use Rattle.mv_check_declarations.specs.Globals.{global_words, domain_of}
use Rattle.mv_check_declarations.specs.Objects.{is_unconverted, breaks_extents, least, unless_broken}
use Rattle.mv_types.specs.declared.contents.Contents.{Contents}
use Rattle.mv_types.specs.declared.contents.Foreknown.{Foreknown}
use Rattle.mv_types.specs.declared.contents.Object.{Object}
use Rattle.mv_types.specs.Foreknown.{is_fixed, switch_number}

-- ---- the object that a name means

abbrev pub global_at : Storage → Option ℕ
global_at (storage.Global g) = Some g
global_at (storage.Local l) = None

abbrev pub number_of : Meaning → Option ℕ
number_of (meaning.Object v) = global_at v.storage
number_of (meaning.Array elements) = global_at elements.storage
number_of _ = None

abbrev pub object_at : List Object → Option ℕ → Option Object
object_at objects None = None
object_at objects (Some n) = slice_get objects n

-- ---- what one more declaration may say

abbrev pub same_size : Option ℕ → Option ℕ → Bool
same_size None None = true
same_size (Some m) (Some n) = nat_eq m n
same_size _ _ = false

-- where both have the attribute
abbrev pub same_domain : Option (List ℕ) → Option (List ℕ) → Bool
same_domain (Some vs) (Some ws) = pointwise nat_eq vs ws
same_domain _ _ = true

-- the same type, at most one initial value, and the same domain
abbrev pub agrees : Object → Local → (given : Bool) → Option (List ℕ) → Bool
agrees o l given domain =
    same_type o.global.ctype l.ctype && (same_size o.global.size l.size && (not (o.given && given) && same_domain o.domain domain))

abbrev pub agrees_with : Option Object → Local → (given : Bool) → Option (List ℕ) → Bool
agrees_with None l given domain = false
agrees_with (Some o) l given domain = agrees o l given domain

-- whether the name is new, or means an object that may be declared so again
abbrev pub may_declare : Option Meaning → List Object → Local → (given : Bool) → Option (List ℕ) → Bool
may_declare None objects l given domain = true
may_declare (Some m) objects l given domain = agrees_with (object_at objects (number_of m)) l given domain

-- The rules that a declared object breaks. One of type `void` or without a size (against the rules `void` and `extents`) goes with none of its name.
abbrev pub breaches : Option Meaning → List Object → Local → Option Initial → Words → Option (List ℕ) → (block : Bool) → Breaches
breaches before objects l values x domain block = record {
  redeclared = not (may_declare before objects l (is_some values) domain);
  unconverted = is_unconverted l values x.all;
  void = is_void l.ctype;
  extents = breaks_extents true l values (length x.words);
  block = block;
}

-- ---- what declarations come to

abbrev pub object_meaning : Foreknown → List ℕ → ℕ → Local → Option ℕ → Meaning
object_meaning k name n l None =
    meaning.Object (record { storage = storage.Global n; ctype = l.ctype; fixed = is_fixed k name; switch = switch_number k name })
object_meaning k name n l (Some size) = meaning.Array (record { storage = storage.Global n; ctype = l.ctype; fixed = is_fixed k name })

-- a name that is new means the next global
unfoldable pub object_scope : Foreknown → List ℕ → Option Meaning → Local → ℕ → Scope → Scope
object_scope k name None l n s = declared s name (object_meaning k name n l l.size)
object_scope k name (Some m) l n s = s

abbrev pub new_object : List ℕ → Local → List ℕ → (given : Bool) → Option (List ℕ) → Object
new_object name l words given domain =
    record { global = record { name = name; ctype = l.ctype; size = l.size; first = words }; given = given; domain = domain }

abbrev pub either_domain : Option (List ℕ) → Option (List ℕ) → Option (List ℕ)
either_domain None domain = domain
either_domain (Some values) domain = Some values

-- an object with what one more declaration says of it
abbrev pub again : Object → List ℕ → (given : Bool) → Option (List ℕ) → Object
again o words given domain = record {
  global = record o.global { first = if given then words else o.global.first };
  given = o.given || given;
  domain = either_domain o.domain domain;
}

abbrev pub replaced : List Object → ℕ → Option Object → List ℕ → (given : Bool) → Option (List ℕ) → List Object
replaced objects n None words given domain = objects
replaced objects n (Some o) words given domain = slice_set objects n (again o words given domain)

abbrev pub objects_again : List Object → Option ℕ → List ℕ → (given : Bool) → Option (List ℕ) → List Object
objects_again objects None words given domain = objects
objects_again objects (Some n) words given domain = replaced objects n (slice_get objects n) words given domain

abbrev pub with_new : List Object → List ℕ → Local → List ℕ → (given : Bool) → Option (List ℕ) → List Object
with_new objects name l words given domain = objects ++ new_object name l words given domain ∷ []

-- the objects behind a declaration
unfoldable pub objects_behind : List Object → List ℕ → Option Meaning → Local → List ℕ → (given : Bool) → Option (List ℕ) → List Object
objects_behind objects name None l words given domain = with_new objects name l words given domain
objects_behind objects name (Some m) l words given domain = objects_again objects (number_of m) words given domain

-- ---- a declarator that designates an object

-- the domain of one that has the attribute; a pointer has none
abbrev pub domain_by : (pointer : Bool) → Scope → Option ℕ → Option Attribute → Option (List ℕ)
domain_by true s enumeration a = None
domain_by false s enumeration None = None
domain_by false s enumeration (Some a) = Some (domain_of s enumeration a)

-- the words that an object is given, which are judged before its declarator
abbrev pub object_words : Declarator → Option Meaning → List Object → Local → Option (List ℕ) → (block : Bool) → Scope → Judged (List ℕ)
object_words d before objects l domain block s =
    and_then (global_words l d.initial s) (λ x. unless_broken d.place (least (breaches before objects l d.initial x domain block)) x.words)

-- A name that is new means the object in its own initial value.
abbrev pub object_behind : Foreknown → Declarator → List ℕ → Local → Option (List ℕ) → (block : Bool) → Contents → Option Meaning → Judged Contents
object_behind k d name l domain block c before =
    let s = object_scope k name before l (length c.objects) c.scope in
    and_then (object_words d before c.objects l domain block s) (λ words.
    Good (record c { scope = s; objects = objects_behind c.objects name before l words (is_some d.initial) domain }))

-- by the domain that the declaration gives it, and whether a block follows
unfoldable pub object_judgement : Foreknown → Declarator → List ℕ → Local → Option (List ℕ) → (block : Bool) → Contents → Judged Contents
object_judgement k d name l domain block c = object_behind k d name l domain block c (named name c.scope.names.here)
