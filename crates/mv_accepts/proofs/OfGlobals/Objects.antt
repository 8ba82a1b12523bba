-- The objects of a unit: each is a well-formed global that has a word, and an integer scalar where it has a domain.
use Rattle.std.proofs.Common.{◌≡◌, ℕ, refl, sym, ap, subst, Bool, true, false, is_some, if◌then◌else◌, List, [], ◌∷◌, length, Option, Some, None, slice_get}
use Rattle.std.specs.List.{AllByRecursion}
use Rattle.std.proofs.lemmas.List.Elements.{All-from_recursion}
use Rattle.std.proofs.lemmas.Bool.{not-false, and_parts, eqb-true}
use Rattle.mv_ast.specs.declared.program.CType.{CType}
use Rattle.mv_ast.specs.declared.program.CType.TheVariants.{Void, Scalar, Pointer}
use Rattle.mv_ast.specs.declared.program.Local.{Local}
use Rattle.mv_syntax.specs.declared.unit.Declarator.{Declarator}
use Rattle.mv_ast.specs.Actions.{is_value_of}
use Rattle.mv_check_scope.specs.declared.meaning.Meaning.{Meaning}
use Rattle.mv_check_scope.specs.declared.scope.Scope.{Scope}
use Rattle.mv_check_scope.specs.Conversions.{is_void, same_type}
use Rattle.mv_check_scope.specs.Spaces.{named}
use Rattle.mv_check_declarations.specs.Globals.{global_words}
use Rattle.mv_check_declarations.specs.Objects.{least}
use Rattle.mv_source_forms.specs.Typing.{IsInteger}
use Rattle.mv_source_forms.specs.WellFormed.{IsWellFormedGlobal}
use Rattle.mv_types.specs.declared.contents.Contents.{Contents}
use Rattle.mv_types.specs.declared.contents.Foreknown.{Foreknown}
use Rattle.mv_types.specs.declared.contents.Object.{Object}
use Rattle.mv_types.specs.Objects.{number_of, object_at, same_size, agrees, agrees_with, may_declare, breaches, object_words, object_scope, new_object, either_domain, again, replaced, objects_again, objects_behind, object_behind, object_judgement}
use Rattle.mv_accepts.proofs.OfStatements.Judging.{IfGood, if_any, if_then, if_both}
use Rattle.mv_accepts.proofs.OfStatements.Unbroken.{if_unbroken, unbroken, has_extents}
use Rattle.mv_accepts.proofs.OfStatements.Lists.{all_last, all_at}
use Rattle.mv_accepts.proofs.OfGlobals.Tests.{all_set}
use Rattle.mv_accepts.proofs.OfGlobals.Values.{IsOf}
use Rattle.mv_accepts.proofs.OfGlobals.Sizes.{HasWord, size_has}
use Rattle.mv_accepts.proofs.OfGlobals.Words.{AreOf, AreWords, words_are}
use Rattle.mv_accepts.proofs.OfGlobals.Domains.{IsDomain}
use Rattle.mv_accepts.proofs.OfExpressions.Types.{same_is}
use Rattle.mv_accepts.proofs.OfExpressions.Plain.{IsPlain}

-- an integer scalar, with different values of its type
pub record IsSwitch (t : CType) (size : Option ℕ) (vs : List ℕ) : Type 0 where
  pub integer : IsInteger t
  pub scalar : size ≡ None
  pub domain : IsDomain (IsOf t) vs

-- a switch if it has a domain
abbrev pub IsSwitchIf : CType → Option ℕ → Option (List ℕ) → Type 0
IsSwitchIf t size None = Unit {0}
IsSwitchIf t size (Some vs) = IsSwitch t size vs

pub record IsFormedObject (o : Object) : Type 0 where
  pub sized : HasWord o.global.size
  pub words : AreWords o.global.ctype o.global.size o.global.first
  pub switch : IsSwitchIf o.global.ctype o.global.size o.domain

abbrev pub AreFormed : Contents → Type 0
AreFormed c = AllByRecursion IsFormedObject c.objects

pub values_of : (t : CType) (vs : List ℕ) → AreOf t vs → IsInteger t → AllByRecursion (λ v. is_value_of t v ≡ true) vs
values_of t [] h u = tt
values_of t (v ∷ vs) h u = (h.0 u, values_of t vs h.1 u)

pub global_formed : (o : Object) → IsFormedObject o → IsWellFormedGlobal o.global
global_formed o h = record {
  given = h.words.given;
  values = λ u. All-from_recursion (λ v. is_value_of o.global.ctype v ≡ true) o.global.first (values_of o.global.ctype o.global.first h.words.values u);
}

-- ---- the type of a declared object

-- what is known of the domain that a declaration gives
abbrev pub IsDomainFor : Local → Option (List ℕ) → Type 0
IsDomainFor l None = Unit {0}
IsDomainFor l (Some vs) = IsPlain l.ctype × (l.size ≡ None) × IsDomain (IsOf l.ctype) vs

integer_of : (t : CType) → IsPlain t → is_void t ≡ false → IsInteger t
integer_of Void h q = absurd (cc)
integer_of (Scalar k) h q = tt
integer_of (Pointer s) h q = absurd h

switch_for : (l : Local) (domain : Option (List ℕ)) → IsDomainFor l domain → is_void l.ctype ≡ false → IsSwitchIf l.ctype l.size domain
switch_for l None h q = tt
switch_for l (Some vs) h q = record { integer = integer_of l.ctype h.0 q; scalar = h.1; domain = h.2 }

-- an object that may be declared, of a type and with a size
pub record IsKept (d : Declarator) (before : Option Meaning) (objects : List Object) (l : Local) (domain : Option (List ℕ)) : Type 0 where
  pub allowed : may_declare before objects l (is_some d.initial) domain ≡ true
  pub typed : is_void l.ctype ≡ false
  pub sized : HasWord l.size

pub object_kept : (d : Declarator) (before : Option Meaning) (objects : List Object) (l : Local) (domain : Option (List ℕ)) (block : Bool) (s : Scope) →
    IfGood (object_words d before objects l domain block s) (λ words. IsKept d before objects l domain)
object_kept d before objects l domain block s =
    let Kept : List ℕ → Type 0 = λ words. IsKept d before objects l domain in
    if_then (λ x. Unit {0}) Kept (global_words l d.initial s) _ (if_any (global_words l d.initial s)) (λ x v.
    let b = breaches before objects l d.initial x domain block in
    if_unbroken Kept d.place (least b) x.words (λ q.
    let u = unbroken b q in
    record {
      allowed = not-false (may_declare before objects l (is_some d.initial) domain) u.redeclared;
      typed = u.void;
      sized = size_has l.size (has_extents true l d.initial (length x.words) u.extents).0;
    }))

-- ---- one more declaration of an object

size_is : (m n : Option ℕ) → same_size m n ≡ true → m ≡ n
size_is None None h = refl
size_is (Some m) (Some n) h = ap Some (eqb-true m n h)
size_is None (Some n) h = absurd (cc)
size_is (Some m) None h = absurd (cc)

-- the declared type and size are those that the object has
pub same_types : (o : Object) (l : Local) (given : Bool) (domain : Option (List ℕ)) → agrees o l given domain ≡ true → o.global.ctype ≡ l.ctype
same_types o l given domain q = same_is o.global.ctype l.ctype (and_parts (same_type o.global.ctype l.ctype) _ q).0

same_sizes : (o : Object) (l : Local) (given : Bool) (domain : Option (List ℕ)) → agrees o l given domain ≡ true → o.global.size ≡ l.size
same_sizes o l given domain q =
    size_is o.global.size l.size (and_parts (same_size o.global.size l.size) _ (and_parts (same_type o.global.ctype l.ctype) _ q).1).0

-- what holds of a new object and of one with one more declaration holds of all
module _ (P : Object → Type 0) (l : Local) (words : List ℕ) (given : Bool) (domain : Option (List ℕ))
    (new : (name : List ℕ) → P (new_object name l words given domain)) (more : (o : Object) → P o → agrees o l given domain ≡ true → P (again o words given domain)) where
  replaced_have : (objects : List Object) (n : ℕ) (o : Option Object) → slice_get objects n ≡ o → AllByRecursion P objects → agrees_with o l given domain ≡ true →
      AllByRecursion P (replaced objects n o words given domain)
  replaced_have objects n None q h k = h
  replaced_have objects n (Some o) q h k = all_set P objects n (again o words given domain) (more o (all_at P objects h n o q) k) h

  numbered_have : (objects : List Object) (n : Option ℕ) → AllByRecursion P objects → agrees_with (object_at objects n) l given domain ≡ true →
      AllByRecursion P (objects_again objects n words given domain)
  numbered_have objects None h k = h
  numbered_have objects (Some n) h k = replaced_have objects n (slice_get objects n) refl h k

  pub behind_have : (objects : List Object) (name : List ℕ) (before : Option Meaning) → AllByRecursion P objects → may_declare before objects l given domain ≡ true →
      AllByRecursion P (objects_behind objects name before l words given domain)
  unfolding objects_behind
  behind_have objects name None h k = all_last P objects (new_object name l words given domain) h (new name)
  behind_have objects name (Some m) h k = numbered_have objects (number_of m) h k

module _ (l : Local) (words : List ℕ) (fit : AreWords l.ctype l.size words) (given : Bool) (domain : Option (List ℕ)) (sized : HasWord l.size)
    (switch : IsSwitchIf l.ctype l.size domain) where
  again_formed : (o : Object) → IsFormedObject o → agrees o l given domain ≡ true → IsFormedObject (again o words given domain)
  again_formed o h q = record { sized = h.sized; words = first given; switch = either o.domain h.switch }
    where
      types : o.global.ctype ≡ l.ctype
      types = same_types o l given domain q

      sizes : o.global.size ≡ l.size
      sizes = same_sizes o l given domain q

      first : (b : Bool) → AreWords o.global.ctype o.global.size (if b then words else o.global.first)
      first true = subst (λ n. AreWords o.global.ctype n words) (sym sizes) (subst (λ t. AreWords t l.size words) (sym types) fit)
      first false = h.words

      either : (d : Option (List ℕ)) → IsSwitchIf o.global.ctype o.global.size d → IsSwitchIf o.global.ctype o.global.size (either_domain d domain)
      either None k = subst (λ n. IsSwitchIf o.global.ctype n domain) (sym sizes) (subst (λ t. IsSwitchIf t l.size domain) (sym types) switch)
      either (Some vs) k = k

  behind_formed : (objects : List Object) (name : List ℕ) (before : Option Meaning) → AllByRecursion IsFormedObject objects →
      may_declare before objects l given domain ≡ true → AllByRecursion IsFormedObject (objects_behind objects name before l words given domain)
  behind_formed objects name before h k =
      behind_have IsFormedObject l words given domain (λ name. record { sized = sized; words = fit; switch = switch }) again_formed objects name before h k

-- ---- a declarator that designates an object

module _ (k : Foreknown) (d : Declarator) (name : List ℕ) (domain : Option (List ℕ)) (c : Contents) (formed : AreFormed c) where
  object_behind_formed : (l : Local) (block : Bool) (before : Option Meaning) → IsDomainFor l domain → IfGood (object_behind k d name l domain block c before) AreFormed
  object_behind_formed l block before h =
      let s : Scope = object_scope k name before l (length c.objects) c.scope in
      let Kept : List ℕ → Type 0 = λ words. IsKept d before c.objects l domain in
      let words = object_words d before c.objects l domain block s in
      if_then (λ ws. Kept ws × AreWords l.ctype l.size ws) AreFormed words _
      (if_both Kept (AreWords l.ctype l.size) words (object_kept d before c.objects l domain block s) (words_are d before c.objects l domain block s)) (λ ws fit.
      behind_formed l ws fit.1 (is_some d.initial) domain fit.0.sized (switch_for l domain h fit.0.typed) c.objects name before formed fit.0.allowed)

  pub object_formed : (l : Local) (block : Bool) → IsDomainFor l domain → IfGood (object_judgement k d name l domain block c) AreFormed
  unfolding object_judgement
  object_formed l block h = object_behind_formed l block (named name c.scope.names.here) h
