-- What holds of a declared object that breaks none of its rules.
use Rattle.std.proofs.Common.{◌≡◌, ℕ, refl, Bool, true, false, not, ◌&&◌, ◌||◌, is_some, List, Option, Some, None}
use Rattle.std.proofs.lemmas.Bool.{not-false, or_parts}
use Rattle.mv_syntax.specs.declared.place.Place.{Place}
use Rattle.mv_ast.specs.declared.program.Local.{Local}
use Rattle.mv_syntax.specs.declared.unit.Initial.{Initial}
use Rattle.mv_check_scope.specs.Conversions.{is_void}
use Rattle.mv_check_expressions.specs.Breaches.{if_broken}
use Rattle.mv_check_declarations.specs.declared.initials.Converted.{Converted}
use Rattle.mv_check_declarations.specs.declared.objects.Breaches.{Breaches}
use Rattle.mv_check_declarations.specs.Locals.{breaches, rule_of}
use Rattle.mv_check_declarations.specs.Objects.{is_single, is_unconverted, is_empty, is_overfull, breaks_extents, least, unless_broken}
use Rattle.mv_accepts.proofs.OfStatements.Judging.{IfGood}

module _ {A : Type 0} where
  pub if_unbroken : (P : A → Type 0) (place : Place) (rule : Option ℕ) (a : A) → (rule ≡ None → P a) → IfGood (unless_broken place rule a) P
  if_unbroken P place None a h = h refl
  if_unbroken P place (Some rule) a h = tt

kept : (broken : Bool) (rule : ℕ) (others : Option ℕ) → if_broken broken rule others ≡ None → (broken ≡ false) × (others ≡ None)
kept true rule others h = absurd (cc)
kept false rule others h = (refl, h)

pub record IsUnbroken (b : Breaches) : Type 0 where
  pub redeclared : b.redeclared ≡ false
  pub unconverted : b.unconverted ≡ false
  pub void : b.void ≡ false
  pub extents : b.extents ≡ false
  pub block : b.block ≡ false

pub unbroken : (b : Breaches) → least b ≡ None → IsUnbroken b
unfolding least
unbroken b h =
    let r = kept b.redeclared 2 _ h in
    let u = kept b.unconverted 5 _ r.1 in
    let v = kept b.void 8 _ u.1 in
    let e = kept b.extents 10 _ v.1 in
    record { redeclared = r.0; unconverted = u.0; void = v.0; extents = e.0; block = (kept b.block 22 None e.1).0 }

-- values that convert, and don't stand alone where an array is initialised
pub all_convert : (l : Local) (given : Option Initial) (all : Bool) → is_void l.ctype ≡ false → is_unconverted l given all ≡ false →
    (all ≡ true) × (is_some l.size && is_single given ≡ false)
all_convert l given all v h =
    let q : (not all || (is_some l.size && is_single given)) ≡ false = rw v at h in
    let p = or_parts (not all) (is_some l.size && is_single given) q in
    (not-false all p.0, p.1)

-- a size that is at least 1, and room
pub has_extents : (global : Bool) (l : Local) (given : Option Initial) (count : ℕ) → breaks_extents global l given count ≡ false →
    (is_empty l.size ≡ false) × (is_overfull global l given count ≡ false)
has_extents global l given count h = or_parts (is_empty l.size) (is_overfull global l given count) h

-- ---- a local

pub named_rule : (name : Option (List ℕ)) (taken : Bool) (l : Local) (given : Option Initial) (x : Converted) → rule_of name taken l given x ≡ None →
    (is_some name ≡ true) × IsUnbroken (breaches taken l given x)
named_rule None taken l given x h = absurd (cc)
named_rule (Some name) taken l given x h = (refl, unbroken (breaches taken l given x) h)
