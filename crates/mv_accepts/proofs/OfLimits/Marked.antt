-- No declaration of `main` has the attribute: it would break a rule.
use Rattle.std.proofs.Common.{◌≡◌, ℕ, zero, suc, ◌+◌, Bool, true, false, not, ◌&&◌, ◌||◌, refl, sym, ◌∙◌, ap, subst, arith, Option, Some, None, is_some, nat_eq, if◌then◌else◌, List, [], ◌∷◌, ◌++◌, map, take, drop}
use Rattle.std.specs.Prelude.{codes, filter}
use Rattle.std.specs.List.{list_any, flat_map}
use Rattle.std.specs.Cmp.Lexicographic.{pointwise}
use Rattle.std.proofs.lemmas.List.Folds.{list_any-append}
use Rattle.std.proofs.lemmas.Bool.{and_parts, and_from, and_left, and_right, or_from, or_parts}
use Rattle.mv_num.specs.declared.kind.Kind.{Kind}
use Rattle.mv_syntax.specs.declared.place.Place.{Place}
use Rattle.mv_syntax.specs.declared.unit.Declarator.{Declarator}
use Rattle.mv_syntax.specs.declared.unit.EnumSpec.{EnumSpec, out-EnumSpec}
use Rattle.mv_syntax.specs.declared.unit.Item.{Item}
use Rattle.mv_syntax.specs.declared.unit.Line.{Line}
use Rattle.mv_syntax.specs.declared.unit.Mark.{Mark, out-Mark}
use Rattle.mv_syntax.specs.declared.unit.Shape.{Shape-F, out-Shape}
use Rattle.mv_syntax.specs.declared.unit.Shape.TheOpen as shape
use Rattle.mv_syntax.specs.declared.unit.Specs.{out-Specs}
use Rattle.mv_check_scope.specs.declared.scope.Scope.{Scope}
use Rattle.mv_check_expressions.specs.Judged.{Judged, Good, and_then}
use Rattle.mv_check_outline.specs.Names.{same_name, is_among, with_name, with_names}
use Rattle.mv_check_outline.specs.Outlined.{is_function_form, is_function, is_filled, is_marked, name_of}
use Rattle.mv_check_declarations.specs.declared.attributes.Attribute.{Attribute}
use Rattle.mv_check_declarations.specs.declared.attributes.Holder.{Holder}
use Rattle.mv_check_declarations.specs.declared.attributes.Position.TheVariants as position
use Rattle.mv_check_declarations.specs.declared.specifiers.Enumeration.{Enumeration}
use Rattle.mv_check_declarations.specs.declared.specifiers.Said.{Said}
use Rattle.mv_check_declarations.specs.declared.specifiers.Specified.{Specified}
use Rattle.mv_check_declarations.specs.Attributes.{given_domain, switch_kind, is_constant_form, is_main, shape_holder, holder_of, holder_behind, both_hold, all_hold, holder_of_all, holds, held, attribute, attributes}
use Rattle.mv_check_declarations.specs.Declarators.{designated}
use Rattle.mv_check_declarations.specs.Globals.{file_declarator}
use Rattle.mv_check_declarations.specs.Specifiers.{enumeration_of, count_before_list, nothing_said, enum_specifier, enum_specifiers, scalar_kind, kind_of, specifiers}
use Rattle.mv_check_declarations.specs.Turns.{Behind, through}
use Rattle.mv_check_expressions.specs.TypeNames.{undeclared_enum, type_of}
use Rattle.mv_types.specs.declared.contents.Contents.{Contents}
use Rattle.mv_types.specs.declared.contents.Foreknown.{Foreknown}
use Rattle.mv_types.specs.declared.foreknown.Said.TheVariants as said
use Rattle.mv_types.specs.Contents.{nothing_declared, in_scope}
use Rattle.mv_types.specs.Foreknown.{is_said, names_in, names, foreknown, is_attributed}
use Rattle.mv_types.specs.Functions.{definition_parameters}
use Rattle.mv_types.specs.Units.{base_of, declares_constant, declarator_judgement, holders, declares_nothing, item_judgement}
use Rattle.mv_accepts.proofs.OfStatements.Judging.{IfGood, of_good, if_any, if_then, if_kept, if_more}

abbrev main_name : List ℕ
main_name = codes "main"

-- ---- truth values and names

turned_number : (m n : ℕ) → nat_eq m n ≡ true → nat_eq n m ≡ true
turned_number m n h = grind (arith, h)

turned : (xs ys : List ℕ) → pointwise nat_eq xs ys ≡ true → pointwise nat_eq ys xs ≡ true
turned [] [] h = refl
turned [] (y ∷ ys) h = absurd (cc)
turned (x ∷ xs) [] h = absurd (cc)
turned (x ∷ xs) (y ∷ ys) h =
    let p = and_parts (nat_eq x y) (pointwise nat_eq xs ys) h in and_from (nat_eq y x) (pointwise nat_eq ys xs) (turned_number x y p.0) (turned xs ys p.1)

-- a function that is named `main`
abbrev is_bad : Declarator → Bool
is_bad d = is_function d && same_name main_name (name_of d)

named_main : (d : Declarator) → same_name main_name (name_of d) ≡ true → is_main d.name ≡ true
named_main d h = by d.name h
  where
    by : (o : Option (List ℕ)) → same_name main_name (name_of (record d { name = o })) ≡ true → is_main o ≡ true
    by None g = absurd (cc)
    by (Some name) g = turned main_name name g

-- ---- attributes that nothing holds

abbrev behind : Scope → Said → Behind Said
behind s x = Good (s, x)

abbrev HoldsNone : Holder → Type 0
HoldsNone h = (h.plainly ≡ false) × (h.with_values ≡ false)

module _ (h : Holder) (none : HoldsNone h) (k : Option Kind) where
  holds_none : (a : Attribute) → holds h a ≡ false
  holds_none a = by (is_some a.values)
    where
      by : (b : Bool) → (if b then h.with_values else h.plainly) ≡ false
      by true = none.1
      by false = none.0

  never : (a b : Bool) → b ≡ false → (a || not b) ≡ false → ⊥
  never true b q g = cc
  never false true q g = cc
  never false false q g = cc

  held_none : (place : Place) (before : Option Attribute) (a : Attribute) → IfGood (held place h before a) (λ x. ⊥)
  unfolding held
  held_none place before a = if_kept (λ x. ⊥) (is_some before || not (holds h a)) place 14 (Good (Some a)) (λ q. never (is_some before) (holds h a) (holds_none a) q)

  attributes_none : (s : Scope) (m : Mark) (ms : List Mark) (before : Option Attribute) → IfGood (attributes h k s (m ∷ ms) before) (λ a. ⊥)
  attributes_none s m ms before =
      let f = out-Mark m in
      if_then (λ a. ⊥) (λ a. ⊥) (attribute h k s m before) (through (attribute h k s) ms)
      (if_then (λ a. Unit {0}) (λ a. ⊥) (given_domain (switch_kind h k) s f.values) _ (if_any (given_domain (switch_kind h k) s f.values)) (λ a u. held_none f.place before a)) (λ a z. absurd z)

  filled_none : (s : Scope) (marks : List Mark) (before : Option Attribute) → is_filled marks ≡ true → IfGood (attributes h k s marks before) (λ a. ⊥)
  filled_none s [] before q = absurd (cc)
  filled_none s (m ∷ ms) before q = attributes_none s m ms before

  -- ---- among specifiers, where enums stand between them

  module _ (m : Mark) (ms : List Mark) where
    abbrev Unused : Scope × Said → Type 0
    Unused x = x.1.used ≡ 0

    abbrev last : (undeclared : Bool) → Said → ℕ → Option Attribute → Scope × Enumeration → Behind Said
    last u x n a d = behind d.0 (record { used = 0 + n; attribute = a; number = d.1.number; again = x.again || d.1.again; undeclared = x.undeclared || u })

    abbrev enumerated : EnumSpec → Scope → Said → ℕ → Option Attribute → Behind Said
    enumerated e s x n a = and_then (enumeration_of s (out-EnumSpec e).tag (out-EnumSpec e).members) (last (undeclared_enum s e) x n a)

    none_used : (e : EnumSpec) (s : Scope) (x : Said) (a : Option Attribute) → IfGood (enumerated e s x 0 a) Unused
    none_used e s x a =
        if_then (λ (d : Scope × Enumeration). Unit {0}) Unused (enumeration_of s (out-EnumSpec e).tag (out-EnumSpec e).members) (last (undeclared_enum s e) x 0 a)
        (if_any (enumeration_of s (out-EnumSpec e).tag (out-EnumSpec e).members)) (λ d v. refl)

    enum_unused : (e : EnumSpec) (s : Scope) (x : Said) → IfGood (enum_specifier h k (m ∷ ms) e (s, record x { used = 0 })) Unused
    enum_unused e s x = by (count_before_list (out-EnumSpec e).members (m ∷ ms))
      where
        by : (n : ℕ) → IfGood (and_then (attributes h k s (take n (m ∷ ms)) x.attribute) (enumerated e s x n)) Unused
        by zero =
            if_then (λ (a : Option Attribute). Unit {0}) Unused (attributes h k s [] x.attribute) (enumerated e s x 0) (if_any (attributes h k s [] x.attribute)) (λ a u. none_used e s x a)
        by (suc n) =
            if_then (λ (a : Option Attribute). ⊥) Unused (attributes h k s (m ∷ take n ms) x.attribute) (enumerated e s x (suc n)) (attributes_none s m (take n ms) x.attribute) (λ a z. absurd z)

    one_unused : (e : EnumSpec) (x : Scope × Said) → Unused x → IfGood (enum_specifier h k (m ∷ ms) e x) Unused
    one_unused e x q =
        let same : x ≡ (x.0, record x.1 { used = 0 }) = ap (λ n. (x.0, record x.1 { used = n })) q in
        subst (λ y. IfGood (enum_specifier h k (m ∷ ms) e y) Unused) (sym same) (enum_unused e x.0 x.1)

    enums_unused : (tags : List EnumSpec) (x : Scope × Said) → Unused x → IfGood (through (enum_specifier h k (m ∷ ms)) tags x) Unused
    enums_unused [] x q = q
    enums_unused (e ∷ es) x q = if_then Unused Unused (enum_specifier h k (m ∷ ms) e x) _ (one_unused e x q) (λ y r. enums_unused es y r)

  marks_none : {A : Type 0} (marks : List Mark) (tags : List EnumSpec) (s : Scope) (rest : Scope × Said → Option Attribute → Judged A) → is_filled marks ≡ true →
      IfGood (and_then (enum_specifiers h k marks tags s) (λ x. and_then (attributes h k x.0 (drop x.1.used marks) x.1.attribute) (rest x))) (λ d. ⊥)
  marks_none [] tags s rest q = absurd (cc)
  marks_none (m ∷ ms) tags s rest q =
      if_then (Unused m ms) (λ d. ⊥) (enum_specifiers h k (m ∷ ms) tags s) _ (enums_unused m ms tags (s, nothing_said) refl) (λ x r.
      if_then (λ a. ⊥) (λ d. ⊥) (attributes h k x.0 (drop x.1.used (m ∷ ms)) x.1.attribute) (rest x)
      (subst (λ n. IfGood (attributes h k x.0 (drop n (m ∷ ms)) x.1.attribute) (λ a. ⊥)) (sym r) (attributes_none x.0 m ms x.1.attribute)) (λ a z. absurd z))

-- ---- what `main` holds

holder_none : (fixed : Bool) (d : Declarator) → is_bad d ≡ true → HoldsNone (holder_of position.File fixed d)
holder_none fixed d q =
    let p = and_parts (is_function d) (same_name main_name (name_of d)) q in
    by (out-Shape d.shape) p.0 (named_main d p.1)
  where
    by : {A B C : Type 0} (x : Shape-F A B C) → is_function_form x ≡ true → is_main d.name ≡ true → HoldsNone (shape_holder fixed d.name x)
    by (shape.Function params) g r = (ap not r, refl)
    by x g r = absurd (cc)

behind_none : (fixed : Bool) (d : Declarator) → is_bad d ≡ true → HoldsNone (holder_behind position.File fixed d)
behind_none fixed d q = holder_none (is_constant_form fixed (out-Shape d.shape)) d q

still_none : (fixed : Bool) (ds : List Declarator) (h : Holder) → HoldsNone h → HoldsNone (all_hold position.File fixed h ds)
still_none fixed [] h n = n
still_none fixed (d ∷ ds) h n =
    let g : Holder = holder_behind position.File fixed d in
    still_none fixed ds (both_hold h g) (and_left h.plainly g.plainly n.0, and_left h.with_values g.with_values n.1)

among_none : (fixed : Bool) (ds : List Declarator) (h : Holder) → list_any is_bad ds ≡ true → HoldsNone (all_hold position.File fixed h ds)
among_none fixed [] h q = absurd (cc)
among_none fixed (d ∷ ds) h q =
    let g : Holder = holder_behind position.File fixed d in
    by (is_bad d) refl q (λ r. among_none fixed ds (both_hold h g) r)
  where
    by : (b : Bool) → is_bad d ≡ b → (b || list_any is_bad ds) ≡ true → (list_any is_bad ds ≡ true → HoldsNone (all_hold position.File fixed (both_hold h (holder_behind position.File fixed d)) ds)) →
        HoldsNone (all_hold position.File fixed (both_hold h (holder_behind position.File fixed d)) ds)
    by true r z rest =
        let g : Holder = holder_behind position.File fixed d in
        let n : HoldsNone g = behind_none fixed d r in
        still_none fixed ds (both_hold h g) (and_right h.plainly g.plainly n.0, and_right h.with_values g.with_values n.1)
    by false r z rest = rest z

all_none : (fixed : Bool) (ds : List Declarator) → list_any is_bad ds ≡ true → HoldsNone (holder_of_all position.File fixed ds)
all_none fixed [] q = absurd (cc)
all_none fixed (d ∷ ds) q = by (is_bad d) refl q
  where
    by : (b : Bool) → is_bad d ≡ b → (b || list_any is_bad ds) ≡ true → HoldsNone (all_hold position.File fixed (holder_behind position.File fixed d) ds)
    by true r z = still_none fixed ds (holder_behind position.File fixed d) (behind_none fixed d r)
    by false r z = among_none fixed ds (holder_behind position.File fixed d) z

holders_none : (k : Foreknown) (fixed : Bool) (ds : List Declarator) → list_any is_bad ds ≡ true → HoldsNone (holder_of_all position.File fixed (holders k ds))
holders_none k fixed ds q = by (list_any (declares_constant k) ds)
  where
    by : (b : Bool) → HoldsNone (holder_of_all position.File fixed (if b then [] else ds))
    by true = (refl, refl)
    by false = all_none fixed ds q

-- ---- declarators and items

module _ (k : Foreknown) (b : Specified) (body : Option Line) where
  abbrev is_bad_itself : Declarator → Bool
  is_bad_itself d = is_bad d && is_filled d.marks

  declarator_none : (d : Declarator) (c : Contents) → is_bad d ≡ true → is_filled d.marks ≡ true → IfGood (declarator_judgement k b body d c) (λ e. ⊥)
  unfolding declarator_judgement
  declarator_none d c bad filled =
      let base : Specified = base_of k d b in
      if_then (λ s. Unit {0}) (λ e. ⊥) (definition_parameters d body c.scope) _ (if_any (definition_parameters d body c.scope)) (λ s u.
      if_then (λ e. ⊥) (λ e. ⊥) (file_declarator base d s) _
      (if_then (λ e. Unit {0}) (λ e. ⊥) (designated d.shape base.ctype base.fixed s) _ (if_any (designated d.shape base.ctype base.fixed s)) (λ e v.
      let h : Holder = holder_of position.File base.fixed d in
      if_then (λ a. ⊥) (λ e. ⊥) (attributes h (scalar_kind base.ctype) e.0 d.marks base.attribute) _
      (filled_none h (holder_none base.fixed d bad) (scalar_kind base.ctype) e.0 d.marks base.attribute filled) (λ a z. absurd z)))
      (λ e z. absurd z))

  declarators_none : (ds : List Declarator) (c : Contents) → IfGood (through (declarator_judgement k b body) ds c) (λ e. list_any is_bad_itself ds ≡ false)
  declarators_none [] c = refl
  declarators_none (d ∷ ds) c = by (is_bad d) refl (is_filled d.marks) refl (λ e. declarators_none ds e)
    where
      goes_on : ((e : Contents) → IfGood (through (declarator_judgement k b body) ds e) (λ z. list_any is_bad_itself ds ≡ false)) → is_bad_itself d ≡ false →
          IfGood (through (declarator_judgement k b body) (d ∷ ds) c) (λ z. list_any is_bad_itself (d ∷ ds) ≡ false)
      goes_on rest q =
          if_then (λ e. Unit {0}) (λ z. list_any is_bad_itself (d ∷ ds) ≡ false) (declarator_judgement k b body d c) _ (if_any (declarator_judgement k b body d c)) (λ e u.
          if_more (λ z. list_any is_bad_itself ds ≡ false) (λ z. list_any is_bad_itself (d ∷ ds) ≡ false) (through (declarator_judgement k b body) ds e)
          (λ z g. or_from (is_bad_itself d) (list_any is_bad_itself ds) q g) (rest e))

      by : (x : Bool) → is_bad d ≡ x → (y : Bool) → is_filled d.marks ≡ y →
          ((e : Contents) → IfGood (through (declarator_judgement k b body) ds e) (λ z. list_any is_bad_itself ds ≡ false)) →
          IfGood (through (declarator_judgement k b body) (d ∷ ds) c) (λ z. list_any is_bad_itself (d ∷ ds) ≡ false)
      by true q true r rest =
          if_then (λ e. ⊥) (λ z. list_any is_bad_itself (d ∷ ds) ≡ false) (declarator_judgement k b body d c) _ (declarator_none d c q r) (λ e z. absurd z)
      by true q false r rest = goes_on rest (and_right (is_bad d) (is_filled d.marks) r)
      by false q y r rest = goes_on rest (and_left (is_bad d) (is_filled d.marks) q)

abbrev is_bad_in : Item → Declarator → Bool
is_bad_in i d = is_bad d && is_marked i d

none_marked : (f : Declarator → Bool) (ds : List Declarator) → list_any is_bad ds ≡ false → list_any (λ d. is_bad d && f d) ds ≡ false
none_marked f [] h = refl
none_marked f (d ∷ ds) h = by (is_bad d) refl h (λ g. none_marked f ds g)
  where
    by : (b : Bool) → is_bad d ≡ b → (b || list_any is_bad ds) ≡ false → (list_any is_bad ds ≡ false → list_any (λ d. is_bad d && f d) ds ≡ false) →
        ((is_bad d && f d) || list_any (λ d. is_bad d && f d) ds) ≡ false
    by true q g rest = absurd (cc)
    by false q g rest = or_from (is_bad d && f d) (list_any (λ d. is_bad d && f d) ds) (and_left (is_bad d) (f d) q) (rest g)

-- an attribute among the specifiers
specifiers_none : (k : Foreknown) (i : Item) (c : Contents) → is_filled (out-Specs i.specs).marks ≡ true → list_any is_bad i.names ≡ true → IfGood (item_judgement k i c) (λ e. ⊥)
unfolding item_judgement
specifiers_none k i c filled bad =
    let f = out-Specs i.specs in
    let h : Holder = holder_of_all position.File f.fixed (holders k i.names) in
    if_then (λ b. ⊥) (λ e. ⊥) (specifiers position.File (holders k i.names) i.specs c.scope) _
    (marks_none h (holders_none k f.fixed i.names bad) (kind_of (type_of c.scope i.specs)) f.marks f.tags c.scope _ filled) (λ b z. absurd z)

-- an attribute behind a declarator
marks_behind_none : (k : Foreknown) (i : Item) (c : Contents) → IfGood (item_judgement k i c) (λ e. list_any (λ d. is_bad d && is_filled d.marks) i.names ≡ false)
unfolding item_judgement
marks_behind_none k i c =
    let said = specifiers position.File (holders k i.names) i.specs c.scope in
    if_then (λ b. Unit {0}) (λ e. list_any (λ d. is_bad d && is_filled d.marks) i.names ≡ false) said _ (if_any said) (λ b u.
    if_kept (λ e. list_any (λ d. is_bad d && is_filled d.marks) i.names ≡ false) (declares_nothing i) _ 22 (through (declarator_judgement k b.1 i.body) i.names (in_scope c b.0)) (λ q.
    declarators_none k b.1 i.body i.names (in_scope c b.0)))

item_none : (k : Foreknown) (i : Item) (c : Contents) → IfGood (item_judgement k i c) (λ e. list_any (is_bad_in i) i.names ≡ false)
item_none k i c = by (is_filled (out-Specs i.specs).marks) refl (list_any is_bad i.names) refl
  where
    by : (b : Bool) → is_filled (out-Specs i.specs).marks ≡ b → (a : Bool) → list_any is_bad i.names ≡ a →
        IfGood (item_judgement k i c) (λ e. list_any (λ d. is_bad d && (b || is_filled d.marks)) i.names ≡ false)
    by true q true r =
        if_more (λ e. ⊥) (λ e. list_any (λ d. is_bad d && (true || is_filled d.marks)) i.names ≡ false) (item_judgement k i c) (λ e z. absurd z) (specifiers_none k i c q r)
    by true q false r =
        if_more (λ e. Unit {0}) (λ e. list_any (λ d. is_bad d && (true || is_filled d.marks)) i.names ≡ false) (item_judgement k i c)
        (λ e u. none_marked (λ d. true || is_filled d.marks) i.names r) (if_any (item_judgement k i c))
    by false q a r = marks_behind_none k i c

-- ---- names

not_said : (i : Item) (ds : List Declarator) → list_any (is_bad_in i) ds ≡ false → is_among main_name (map name_of (filter (is_said said.Attributed i) ds)) ≡ false
not_said i [] h = refl
not_said i (d ∷ ds) h = by (is_function d) (is_marked i d) (same_name main_name (name_of d)) refl h (λ g. not_said i ds g)
  where
    by : (f m s : Bool) → same_name main_name (name_of d) ≡ s → (((f && s) && m) || list_any (is_bad_in i) ds) ≡ false →
        (list_any (is_bad_in i) ds ≡ false → is_among main_name (map name_of (filter (is_said said.Attributed i) ds)) ≡ false) →
        is_among main_name (map name_of (if f && m then d ∷ filter (is_said said.Attributed i) ds else filter (is_said said.Attributed i) ds)) ≡ false
    by true true true q g rest = absurd (cc)
    by true true false q g rest = or_from (same_name main_name (name_of d)) (is_among main_name (map name_of (filter (is_said said.Attributed i) ds))) q (rest g)
    by true false true q g rest = rest g
    by true false false q g rest = rest g
    by false m s q g rest = rest g

items_none : (k : Foreknown) (is : List Item) (c : Contents) → IfGood (through (item_judgement k) is c) (λ e. is_among main_name (flat_map (names_in said.Attributed) is) ≡ false)
items_none k [] c = refl
items_none k (i ∷ is) c =
    if_then (λ e. list_any (is_bad_in i) i.names ≡ false) (λ z. is_among main_name (flat_map (names_in said.Attributed) (i ∷ is)) ≡ false) (item_judgement k i c) _ (item_none k i c) (λ e h.
    if_more (λ z. is_among main_name (flat_map (names_in said.Attributed) is) ≡ false) (λ z. is_among main_name (flat_map (names_in said.Attributed) (i ∷ is)) ≡ false)
    (through (item_judgement k) is e)
    (λ z g. list_any-append (same_name main_name) (names_in said.Attributed i) (flat_map (names_in said.Attributed) is) ∙
    or_from (is_among main_name (names_in said.Attributed i)) (is_among main_name (flat_map (names_in said.Attributed) is)) (not_said i i.names h) g)
    (items_none k is e))

one_more : (names : List (List ℕ)) (n : List ℕ) → is_among main_name names ≡ false → same_name main_name n ≡ false → is_among main_name (with_name names n) ≡ false
one_more names n h q = by (is_among n names)
  where
    by : (b : Bool) → is_among main_name (if b then names else names ++ n ∷ []) ≡ false
    by true = h
    by false =
        list_any-append (same_name main_name) names (n ∷ []) ∙
        or_from (is_among main_name names) (is_among main_name (n ∷ [])) h (or_from (same_name main_name n) false q refl)

all_more : (xs names : List (List ℕ)) → is_among main_name names ≡ false → is_among main_name xs ≡ false → is_among main_name (with_names names xs) ≡ false
all_more [] names h g = h
all_more (x ∷ xs) names h g =
    let p = or_parts (same_name main_name x) (is_among main_name xs) g in all_more xs (with_name names x) (one_more names x h p.0) p.1

pub main_unmarked : (items : List Item) (c : Contents) → through (item_judgement (foreknown items)) items (nothing_declared (foreknown items)) ≡ Good c →
    is_attributed (foreknown items) main_name ≡ false
unfolding foreknown
main_unmarked items c q =
    all_more (flat_map (names_in said.Attributed) items) [] refl
    (of_good (λ e. is_among main_name (flat_map (names_in said.Attributed) items) ≡ false) (through (item_judgement (foreknown items)) items (nothing_declared (foreknown items)))
    (items_none (foreknown items) items (nothing_declared (foreknown items))) c q)
