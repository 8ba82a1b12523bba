-- What specifiers at file scope say: a type that is no pointer, an enumeration only with `int`, and an attribute that all of their declarators may have.
use Rattle.std.proofs.Common.{◌≡◌, ℕ, ◌⊎◌, inl, inr, refl, sym, ◌∙◌, ap, subst, Bool, true, false, ◌&&◌, is_some, nat_eq, if◌then◌else◌, List, [], ◌∷◌, map, length, take, drop, Option, Some, None}
use Rattle.std.specs.List.{AllByRecursion}
use Rattle.std.proofs.lemmas.Bool.{and_parts}
use Rattle.std.proofs.lemmas.List.{length-map}
use Rattle.mv_num.specs.declared.kind.Kind.{Kind}
use Rattle.mv_num.specs.declared.kind.Kind.TheVariants.{Int}
use Rattle.mv_syntax.specs.declared.place.Place.{Place}
use Rattle.mv_ast.specs.declared.program.CType.{CType}
use Rattle.mv_ast.specs.declared.program.CType.TheVariants.{Void, Scalar, Pointer}
use Rattle.mv_syntax.specs.declared.unit.Declarator.{Declarator}
use Rattle.mv_syntax.specs.declared.unit.EnumSpec.{EnumSpec, out-EnumSpec}
use Rattle.mv_syntax.specs.declared.unit.Mark.{Mark}
use Rattle.mv_syntax.specs.declared.unit.Shape.{Shape-F, out-Shape}
use Rattle.mv_syntax.specs.declared.unit.Shape.TheOpen as shape
use Rattle.mv_syntax.specs.declared.unit.Specs.{Specs, out-Specs}
use Rattle.mv_ast.specs.Names.{any_of}
use Rattle.mv_check_scope.specs.declared.scope.Scope.{Scope}
use Rattle.mv_check_expressions.specs.declared.constant.Constant.{Constant}
use Rattle.mv_check_expressions.specs.Judged.{Broken}
use Rattle.mv_check_expressions.specs.TypeNames.{are, named_kind, named_type, as_scalar, undeclared_enum, type_or_broken, type_of}
use Rattle.mv_check_declarations.specs.declared.attributes.Attribute.{Attribute}
use Rattle.mv_check_declarations.specs.declared.attributes.Holder.{Holder}
use Rattle.mv_check_declarations.specs.declared.attributes.Position.TheVariants as position
use Rattle.mv_check_declarations.specs.declared.specifiers.Said.{Said}
use Rattle.mv_check_declarations.specs.declared.specifiers.Specified.{Specified}
use Rattle.mv_check_declarations.specs.Attributes.{is_constant_form, shape_holder, holder_of, holder_behind, both_hold, all_hold, holder_of_all, holds, attributes}
use Rattle.mv_check_declarations.specs.Specifiers.{count_before_list, nothing_said, enumeration_of, enum_specifier, enum_specifiers, scalar_kind, kind_of, type_by_rules, specifiers}
use Rattle.mv_accepts.proofs.OfStatements.Judging.{IfGood, if_any, if_then, if_more, if_through}
use Rattle.mv_accepts.proofs.OfStatements.NamedTypes.{IsNamed, rules_named, named_is_plain}
use Rattle.mv_accepts.proofs.OfStatements.Lists.{each_any}
use Rattle.mv_accepts.proofs.OfGlobals.Tests.{not_none}
use Rattle.mv_accepts.proofs.OfGlobals.Values.{IsOf, constant_is, int_is}
use Rattle.mv_accepts.proofs.OfGlobals.Domains.{Fits, IsHeld, attributes_held, held_more}
use Rattle.mv_accepts.proofs.OfExpressions.Plain.{IsPlain}

-- ---- what may have an attribute

-- a scalar, or a function
abbrev pub IsHolderShape : {A B C : Type 0} → Shape-F A B C → Type 0
IsHolderShape shape.Plain = Unit {0}
IsHolderShape (shape.Array size) = ⊥
IsHolderShape (shape.Function params) = Unit {0}
IsHolderShape (shape.Pointer constant params) = Unit {0}
IsHolderShape (shape.PointerArray constant size params) = ⊥

abbrev pub MayHold : Declarator → Type 0
MayHold d = IsHolderShape (out-Shape d.shape)

-- some, each of which may have one
abbrev pub MayAllHold : List Declarator → Type 0
MayAllHold [] = ⊥
MayAllHold (d ∷ ds) = AllByRecursion MayHold (d ∷ ds)

abbrev HoldsSome : Holder → Type 0
HoldsSome h = (h.plainly ≡ true) ⊎ (h.with_values ≡ true)

holds_some : (h : Holder) (a : Attribute) → holds h a ≡ true → HoldsSome h
holds_some h a q = by (is_some a.values) q
  where
    by : (b : Bool) → (if b then h.with_values else h.plainly) ≡ true → HoldsSome h
    by true r = inr r
    by false r = inl r

both_some : (g h : Holder) → HoldsSome (both_hold g h) → HoldsSome g × HoldsSome h
both_some g h (inl q) = let r = and_parts g.plainly h.plainly q in (inl r.0, inl r.1)
both_some g h (inr q) = let r = and_parts g.with_values h.with_values q in (inr r.0, inr r.1)

shape_some : {A B C : Type 0} (fixed : Bool) (name : Option (List ℕ)) (x : Shape-F A B C) → HoldsSome (shape_holder fixed name x) → IsHolderShape x
shape_some fixed name shape.Plain h = tt
shape_some fixed name (shape.Array size) (inl q) = absurd (cc)
shape_some fixed name (shape.Array size) (inr q) = absurd (cc)
shape_some fixed name (shape.Function params) h = tt
shape_some fixed name (shape.Pointer constant params) h = tt
shape_some fixed name (shape.PointerArray constant size params) (inl q) = absurd (cc)
shape_some fixed name (shape.PointerArray constant size params) (inr q) = absurd (cc)

some_holds : (fixed : Bool) (d : Declarator) → HoldsSome (holder_of position.File fixed d) → MayHold d
some_holds fixed d h = shape_some fixed d.name (out-Shape d.shape) h

behind_holds : (fixed : Bool) (d : Declarator) → HoldsSome (holder_behind position.File fixed d) → MayHold d
behind_holds fixed d h = some_holds (is_constant_form fixed (out-Shape d.shape)) d h

all_some : (fixed : Bool) (h : Holder) (ds : List Declarator) → HoldsSome (all_hold position.File fixed h ds) → HoldsSome h × AllByRecursion MayHold ds
all_some fixed h [] q = (q, tt)
all_some fixed h (d ∷ ds) q =
    let r = all_some fixed (both_hold h (holder_behind position.File fixed d)) ds q in
    let b = both_some h (holder_behind position.File fixed d) r.0 in
    (b.0, (behind_holds fixed d b.1, r.1))

holds_all : (fixed : Bool) (ds : List Declarator) → HoldsSome (holder_of_all position.File fixed ds) → MayAllHold ds
holds_all fixed [] (inl q) = cc
holds_all fixed [] (inr q) = cc
holds_all fixed (d ∷ ds) h = let r = all_some fixed (holder_behind position.File fixed d) ds h in (behind_holds fixed d r.0, r.1)

pub file_holding : (fixed : Bool) (d : Declarator) (a : Attribute) → holds (holder_of position.File fixed d) a ≡ true → MayHold d
file_holding fixed d a q = some_holds fixed d (holds_some (holder_of position.File fixed d) a q)

-- ---- types

-- with an enum it is `int`
int_named : (tags : List EnumSpec) (words : List ℕ) (t : CType) → named_type (length tags) words ≡ Some t → (tags ≡ []) ⊎ (t ≡ Scalar Int)
int_named [] words t h = inl refl
int_named (e ∷ es) words t h =
    inr (by (nat_eq (length (e ∷ es)) 0) (nat_eq (length (e ∷ es)) 1 && nat_eq (length words) 0) (not_none (length es)) h)
  where
    by : (a c : Bool) → a ≡ false →
        (if a then (if are words (19 ∷ []) then Some Void else as_scalar (named_kind words)) else if c then Some (Scalar Int) else None) ≡ Some t → t ≡ Scalar Int
    by true c z q = absurd (cc)
    by false true z q = cc
    by false false z q = absurd (cc)

pub scalar_admits : (t : CType) (c : Constant) → Fits (scalar_kind t) c → IsOf t c.value
scalar_admits Void c h = λ u. absurd u
scalar_admits (Scalar k) c h = constant_is k c h
scalar_admits (Pointer s) c h = λ u. absurd u

-- the values of an attribute fit the type that is found before the enums are declared, and so that behind them
type_admits : (s : Scope) (specs : Specs) (t : CType) → IsNamed specs t → (c : Constant) → Fits (kind_of (type_of s specs)) c → IsOf t c.value
type_admits s specs t n c h = by (any_of flags) refl h (int_named tags words t n)
  where
    tags : List EnumSpec
    tags = (out-Specs specs).tags

    words : List ℕ
    words = (out-Specs specs).words

    place : Place
    place = (out-Specs specs).place

    flags : List Bool
    flags = map (undeclared_enum s) tags

    here : named_type (length flags) words ≡ Some t
    here = ap (λ m. named_type m words) (length-map tags (undeclared_enum s)) ∙ n

    none : tags ≡ [] → any_of flags ≡ false
    none q = ap (λ (x : List EnumSpec). any_of (map (undeclared_enum s) x)) q

    by : (b : Bool) → any_of flags ≡ b → Fits (kind_of (if b then Broken place 1 else type_or_broken place (named_type (length flags) words))) c →
        (tags ≡ []) ⊎ (t ≡ Scalar Int) → IsOf t c.value
    by true q g (inl e) = absurd (let r : true ≡ false = sym q ∙ none e in cc)
    by true q g (inr e) = subst (λ u. IsOf u c.value) (sym e) (int_is c.value)
    by false q g e = scalar_admits t c (subst (λ o. Fits (kind_of (type_or_broken place o)) c) here g)

-- ---- enums and attributes

-- the value of a constant of a kind
abbrev FitsKind : Option Kind → ℕ → Type 0
FitsKind k v = (c : Constant) × Fits k c × (c.value ≡ v)

module _ (fixed : Bool) (names : List Declarator) (k : Option Kind) where
  abbrev h : Holder
  h = holder_of_all position.File fixed names

  abbrev Held : Option Attribute → Type 0
  Held = IsHeld (MayAllHold names) (FitsKind k)

  held : (s : Scope) (marks : List Mark) (before : Option Attribute) → IfGood (attributes h k s marks before) (λ a. Held before → Held a)
  held s marks before =
      attributes_held (FitsKind k) k (λ c q. (c, q, refl)) (MayAllHold names) h (λ a q. holds_all fixed names (holds_some h a q)) s marks before

  abbrev Next : Scope × Said → Scope × Said → Type 0
  Next x y = Held x.1.attribute → Held y.1.attribute

  enum_held : (marks : List Mark) (e : EnumSpec) (x : Scope × Said) → IfGood (enum_specifier h k marks e x) (Next x)
  enum_held marks e x =
      let f = out-EnumSpec e in
      let rest : List Mark = drop x.1.used marks in
      let given = attributes h k x.0 (take (count_before_list f.members rest) rest) x.1.attribute in
      if_then (λ a. Held x.1.attribute → Held a) (Next x) given _ (held x.0 (take (count_before_list f.members rest) rest) x.1.attribute) (λ a g.
      if_then (λ d. Unit {0}) (Next x) (enumeration_of x.0 f.tag f.members) _ (if_any (enumeration_of x.0 f.tag f.members)) (λ d u. g))

  abbrev Behind : List EnumSpec → Scope × Said → Type 0
  Behind tags x = Held x.1.attribute × (tags ≡ [] → x.1.number ≡ None)

  enums_held : (marks : List Mark) (tags : List EnumSpec) (s : Scope) → IfGood (enum_specifiers h k marks tags s) (Behind tags)
  enums_held marks [] s = (tt, λ q. refl)
  enums_held marks (e ∷ es) s =
      if_more (Next (s, nothing_said)) (Behind (e ∷ es)) (enum_specifiers h k marks (e ∷ es) s) (λ x g. (g tt, λ q. absurd (cc)))
      (if_through (enum_specifier h k marks) Next (λ e. Unit {0}) (λ x q. q) (λ x y z f g q. g (f q)) (λ e u x. enum_held marks e x) (e ∷ es) (each_any (e ∷ es)) (s, nothing_said))

-- ---- specifiers

pub record IsSpecified (names : List Declarator) (b : Specified) : Type 0 where
  pub plain : IsPlain b.ctype
  pub enumeration : (b.enumeration ≡ None) ⊎ (b.ctype ≡ Scalar Int)
  pub attribute : IsHeld (MayAllHold names) (IsOf b.ctype) b.attribute

number_is : (tags : List EnumSpec) (number : Option ℕ) (t : CType) → (tags ≡ [] → number ≡ None) → (tags ≡ []) ⊎ (t ≡ Scalar Int) → (number ≡ None) ⊎ (t ≡ Scalar Int)
number_is tags number t f (inl q) = inl (f q)
number_is tags number t f (inr q) = inr q

pub specifiers_are : (names : List Declarator) (specs : Specs) (s : Scope) → IfGood (specifiers position.File names specs s) (λ d. IsSpecified names d.1)
specifiers_are names specs s =
    let f = out-Specs specs in
    let holder : Holder = holder_of_all position.File f.fixed names in
    let k : Option Kind = kind_of (type_of s specs) in
    if_then (Behind f.fixed names k f.tags) (λ d. IsSpecified names d.1) (enum_specifiers holder k f.marks f.tags s) _ (enums_held f.fixed names k f.marks f.tags s) (λ x e.
    let given = attributes holder k x.0 (drop x.1.used f.marks) x.1.attribute in
    if_then (λ a. Held f.fixed names k x.1.attribute → Held f.fixed names k a) (λ d. IsSpecified names d.1) given _ (held f.fixed names k x.0 (drop x.1.used f.marks) x.1.attribute) (λ a g.
    if_then (IsNamed specs) (λ d. IsSpecified names d.1) (type_by_rules position.File x.1.undeclared x.1.again specs x.0) _ (rules_named position.File x.1.undeclared x.1.again specs x.0) (λ t n. record {
      plain = named_is_plain specs t n;
      enumeration = number_is f.tags x.1.number t e.1 (int_named f.tags f.words t n);
      attribute = held_more (MayAllHold names) (MayAllHold names) (FitsKind k) (IsOf t) (λ q. q)
          (λ v q. subst (IsOf t) q.2 (type_admits s specs t n q.0 q.1)) a (g e.0);
    })))
