-- Enums keep the tags that are declared, and what is declared before an enum is declared behind all specifiers.
use Rattle.std.proofs.Common.{◌≡◌, ℕ, refl, sym, ◌∙◌, ap, Bool, true, false, is_some, is_none, unwrap_or, if◌then◌else◌, Option, Some, None, List, [], ◌∷◌, ◌++◌, length, map}
use Rattle.std.specs.List.{list_any}
use Rattle.std.specs.Cmp.Lexicographic.{pointwise}
use Rattle.std.specs.Prelude.{nat_eq}
use Rattle.mv_num.specs.declared.kind.Kind.{Kind}
use Rattle.mv_syntax.specs.declared.place.Place.{Place}
use Rattle.mv_syntax.specs.declared.unit.EnumSpec.{EnumSpec, out-EnumSpec}
use Rattle.mv_syntax.specs.declared.unit.Mark.{Mark}
use Rattle.mv_syntax.specs.declared.unit.Member.{Member, out-Member}
use Rattle.mv_ast.specs.Names.{any_of}
use Rattle.mv_check_scope.specs.declared.meaning.Meaning.{Meaning}
use Rattle.mv_check_scope.specs.declared.meaning.Meaning.TheVariants as meaning
use Rattle.mv_check_scope.specs.declared.scope.Scope.{Scope}
use Rattle.mv_check_scope.specs.Names.{Names}
use Rattle.mv_check_scope.specs.Scoped.{tag_of, tag_declared}
use Rattle.mv_check_scope.specs.Spaces.{named, or_else, meaning_in}
use Rattle.mv_check_expressions.specs.Judged.{Judged, Good, Broken, and_then, unless_broken, first_broken}
use Rattle.mv_check_expressions.specs.TypeNames.{undeclared_enum}
use Rattle.mv_check_expressions.specs.TypeNames as names
use Rattle.mv_check_rules.specs.Nodes.{Bearer, Enumeration, Again, Numbered}
use Rattle.mv_check_rules.specs.Nodes as node
use Rattle.mv_check_rules.specs.Rules.{is_undeclared, breaches}
use Rattle.mv_check_rules.specs.Declarations.{in_order, enumerator, enumerator_value, Enumerators, with_enumerator, with_enumeration, new_enumeration, enumeration_named, enumeration_of, enumeration, Attribution, attribute, Specifier, Enum, Attribute as Marked, stands_before, specifiers_in_order, Specified, specifier}
use Rattle.mv_check_rules.proofs.Parts.{IfGood}
use Rattle.mv_check_rules.proofs.Specifiers.{any_more}
use Rattle.std.proofs.lemmas.Bool.{or_from, or_parts}

-- ---- what holds of what is found, if it is

module _ {A : Type 0} where
  pub if_any : (j : Judged A) → IfGood (λ a. Unit {0}) j
  if_any (Good a) = tt
  if_any (Broken place rule) = tt

  pub if_unbroken : (P : A → Type 0) (place : Place) (rule : Option ℕ) (a : A) → P a → IfGood P (unless_broken place rule a)
  if_unbroken P place None a h = h
  if_unbroken P place (Some rule) a h = tt

  pub if_so : (P Q : A → Type 0) → ((a : A) → P a → Q a) → (j : Judged A) → IfGood P j → IfGood Q j
  if_so P Q f (Good a) h = f a h
  if_so P Q f (Broken place rule) h = tt

module _ {A B : Type 0} (P : A → Type 0) (Q : B → Type 0) (next : A → Judged B) (follows : (a : A) → P a → IfGood Q (next a)) where
  pub if_then : (j : Judged A) → IfGood P j → IfGood Q (and_then j next)
  if_then (Good a) h = follows a h
  if_then (Broken place rule) h = tt

module _ {A B C : Type 0} (P : A → Type 0) (Q : C → Type 0) (x : A → B) (next : B → Judged C) (follows : (a : A) → P a → IfGood Q (next (x a))) where
  pub if_after : (j : Judged A) → IfGood P j → IfGood Q (and_then (and_then j (λ a. Good (x a))) next)
  if_after (Good a) h = follows a h
  if_after (Broken place rule) h = tt

-- ---- tags

-- what isn't declared later isn't declared now
abbrev pub Grows : Scope → Scope → Type 0
Grows s t = (tag : List ℕ) → is_none (tag_of t tag) ≡ true → is_none (tag_of s tag) ≡ true

named_more : (ns : Names) (x : List ℕ × Meaning) (tag : List ℕ) → is_none (named tag (ns ++ x ∷ [])) ≡ true → is_none (named tag ns) ≡ true
named_more [] x tag h = refl
named_more (n ∷ ns) x tag h = by (pointwise nat_eq tag n.0) (named_more ns x tag) h
  where
    by : (b : Bool) → (is_none (named tag (ns ++ x ∷ [])) ≡ true → is_none (named tag ns) ≡ true) →
        is_none (if b then Some n.1 else named tag (ns ++ x ∷ [])) ≡ true → is_none (if b then Some n.1 else named tag ns) ≡ true
    by true f h = h
    by false f h = f h

or_more : (a b other : Option Meaning) → (is_none a ≡ true → is_none b ≡ true) → is_none (or_else a other) ≡ true → is_none (or_else b other) ≡ true
or_more None None other f h = h
or_more None (Some m) other f h = f refl
or_more (Some n) None other f h = absurd (cc)
or_more (Some n) (Some m) other f h = h

grows_tagged : (s : Scope) (tag : List ℕ) (m : Meaning) → Grows s (tag_declared s tag m)
grows_tagged s tag m t =
    or_more (named t (s.tags.here ++ (tag, m) ∷ [])) (named t s.tags.here) (meaning_in s.tags.around t) (named_more s.tags.here (tag, m) t)

-- ---- enumerators declare no tag

abbrev SameTags : Scope → Enumerators → Type 0
SameTags s e = e.scope.tags ≡ s.tags

enumerator_keeps : (m : Member) (s : Scope) (e : Enumerators) → SameTags s e → IfGood (SameTags s) (enumerator m e)
enumerator_keeps m s e q =
    if_then (λ v. Unit {0}) (SameTags s) _
    (λ v u. if_unbroken (SameTags s) (out-Member m).place (first_broken (breaches e.scope (node.Enumerator (out-Member m).name v)))
    (with_enumerator e (out-Member m).name (unwrap_or v 0)) q)
    (enumerator_value e.scope e.following (out-Member m).value) (if_any (enumerator_value e.scope e.following (out-Member m).value))

enumerators_keep : (ms : List Member) (s : Scope) (e : Enumerators) → SameTags s e → IfGood (SameTags s) (in_order enumerator ms e)
enumerators_keep [] s e q = q
enumerators_keep (m ∷ ms) s e q = if_then (SameTags s) (SameTags s) (in_order enumerator ms) (λ d h. enumerators_keep ms s d h) (enumerator m e) (enumerator_keeps m s e q)

-- ---- enums

-- what an enum leaves, and whether its tag isn't declared before it
abbrev Leaves : Option (List ℕ) → Option (List Member) → Scope → Scope × Enumeration → Type 0
Leaves tag members s d = Grows s d.0 × (names.is_undeclared s tag (is_none members) ≡ is_undeclared d.1)

tag_leaves : (m : Option Meaning) → is_none m ≡ is_undeclared (enumeration_named m)
tag_leaves None = refl
tag_leaves (Some m) = refl

grows_same : (s t : Scope) → t.tags ≡ s.tags → Grows s t
grows_same s t q tag h = ap (λ (space : _). is_none (or_else (named tag space.here) (meaning_in space.around tag))) (sym q) ∙ h

new_leaves : (tag : Option (List ℕ)) (members : List Member) (s : Scope) (e : Enumerators) → SameTags s e → Leaves tag (Some members) s (new_enumeration tag e)
new_leaves None members s e q = (grows_same s e.scope q, refl)
new_leaves (Some tag) members s e q = by (is_some (named tag e.scope.tags.here))
  where
    fresh : Scope
    fresh = tag_declared (with_enumeration e.scope e.values) tag (meaning.Tag (length e.scope.enumerations))

    by : (b : Bool) → Leaves (Some tag) (Some members) s (if b then (e.scope, Again) else (fresh, Numbered (Some (length e.scope.enumerations))))
    by true = (grows_same s e.scope q, refl)
    by false = (λ t h. grows_same s e.scope q t (grows_tagged (with_enumeration e.scope e.values) tag (meaning.Tag (length e.scope.enumerations)) t h), refl)

enumeration_leaves : (tag : Option (List ℕ)) (members : Option (List Member)) (s : Scope) → IfGood (Leaves tag members s) (enumeration_of tag members s)
enumeration_leaves None None s = (λ t h. h, refl)
enumeration_leaves (Some tag) None s = (λ t h. h, tag_leaves (tag_of s tag))
enumeration_leaves tag (Some members) s =
    if_then (SameTags s) (Leaves tag (Some members) s) (λ e. Good (new_enumeration tag e)) (new_leaves tag members s)
    (in_order enumerator members (record { scope = s; following = Some 0; values = [] }))
    (enumerators_keep members s (record { scope = s; following = Some 0; values = [] }) refl)

-- ---- specifiers

abbrev enums_in : List Specifier → List EnumSpec
enums_in [] = []
enums_in (Enum e ∷ l) = e ∷ enums_in l
enums_in (Marked m ∷ l) = enums_in l

-- Where no enum named a tag that isn't declared, none does behind them all.
abbrev AllDeclared : List EnumSpec → Scope → Type 0
AllDeclared es s = any_of (map (undeclared_enum s) es) ≡ false

abbrev Ends : List EnumSpec → Specified → Specified → Type 0
Ends es y z = Grows y.scope z.scope × (list_any is_undeclared z.enums ≡ false → (list_any is_undeclared y.enums ≡ false) × AllDeclared es z.scope)

enum_grows : (tag : Option (List ℕ)) (without : Bool) (s t : Scope) → Grows s t → names.is_undeclared s tag without ≡ false → names.is_undeclared t tag without ≡ false
enum_grows None without s t g h = refl
enum_grows (Some tag) false s t g h = refl
enum_grows (Some tag) true s t g h = by (is_none (tag_of t tag)) (is_none (tag_of s tag)) (g tag) h
  where
    by : (b c : Bool) → (b ≡ true → c ≡ true) → c ≡ false → b ≡ false
    by true true f h = h
    by true false f h = sym (f refl)
    by false c f h = refl

module _ (bs : List Bearer) (k : Option Kind) where
  ends : (l : List Specifier) (y : Specified) → IfGood (Ends (enums_in l) y) (in_order (specifier bs k) l y)
  ends [] y = (λ t h. h, λ h. (h, refl))
  ends (Marked m ∷ l) y =
      if_after (λ a. Unit {0}) (Ends (enums_in l) y) (λ (a : Option Attribution). record { scope = y.scope; enums = y.enums; attribute = a }) (in_order (specifier bs k) l)
      (λ a u. ends l (record { scope = y.scope; enums = y.enums; attribute = a }))
      (attribute bs k y.scope m y.attribute) (if_any (attribute bs k y.scope m y.attribute))
  ends (Enum e ∷ l) y =
      if_after (Leaves (out-EnumSpec e).tag (out-EnumSpec e).members y.scope) (Ends (e ∷ enums_in l) y)
      (λ (d : Scope × Enumeration). record { scope = d.0; enums = y.enums ++ d.1 ∷ []; attribute = y.attribute }) (in_order (specifier bs k) l)
      (λ d p. if_so (Ends (enums_in l) (record { scope = d.0; enums = y.enums ++ d.1 ∷ []; attribute = y.attribute })) (Ends (e ∷ enums_in l) y) (joined d p)
      (in_order (specifier bs k) l (record { scope = d.0; enums = y.enums ++ d.1 ∷ []; attribute = y.attribute }))
      (ends l (record { scope = d.0; enums = y.enums ++ d.1 ∷ []; attribute = y.attribute })))
      (enumeration e y.scope) (enumeration_leaves (out-EnumSpec e).tag (out-EnumSpec e).members y.scope)
    where
      joined : (d : Scope × Enumeration) → Leaves (out-EnumSpec e).tag (out-EnumSpec e).members y.scope d → (z : Specified) →
          Ends (enums_in l) (record { scope = d.0; enums = y.enums ++ d.1 ∷ []; attribute = y.attribute }) z → Ends (e ∷ enums_in l) y z
      joined d p z q = (
        λ t h. p.0 t (q.0 t h),
        λ h.
            let more = sym (any_more is_undeclared y.enums d.1) ∙ (q.1 h).0 in (
              (or_parts (list_any is_undeclared y.enums) (is_undeclared d.1) more).0,
              or_from (undeclared_enum z.scope e) (any_of (map (undeclared_enum z.scope) (enums_in l)))
                  (enum_grows (out-EnumSpec e).tag (is_none (out-EnumSpec e).members) y.scope z.scope (λ t g. p.0 t (q.0 t g))
                  (p.1 ∙ (or_parts (list_any is_undeclared y.enums) (is_undeclared d.1) more).1)) (q.1 h).1,
            ),
      )

  enums_alone : (es : List EnumSpec) → enums_in (map Enum es) ≡ es
  enums_alone [] = refl
  enums_alone (e ∷ es) = ap (λ rest. e ∷ rest) (enums_alone es)

  marks_have_none : (ms : List Mark) → enums_in (map Marked ms) ≡ []
  marks_have_none [] = refl
  marks_have_none (m ∷ ms) = marks_have_none ms

  behind_marks : (e : EnumSpec) (es : List EnumSpec) (ms : List Mark) → ((ms : List Mark) → enums_in (specifiers_in_order es ms) ≡ es) →
      enums_in (specifiers_in_order (e ∷ es) ms) ≡ e ∷ es
  behind_marks e es [] h = ap (λ rest. e ∷ rest) (enums_alone es)
  behind_marks e es (m ∷ ms) h = by (stands_before m e) (behind_marks e es ms h)
    where
      by : (b : Bool) → enums_in (specifiers_in_order (e ∷ es) ms) ≡ e ∷ es →
          enums_in (if b then Marked m ∷ specifiers_in_order (e ∷ es) ms else Enum e ∷ specifiers_in_order es (m ∷ ms)) ≡ e ∷ es
      by true q = q
      by false q = ap (λ rest. e ∷ rest) (h (m ∷ ms))

  enums_of_text : (es : List EnumSpec) (ms : List Mark) → enums_in (specifiers_in_order es ms) ≡ es
  enums_of_text [] ms = marks_have_none ms
  enums_of_text (e ∷ es) ms = behind_marks e es ms (enums_of_text es)

  pub declared_behind : (es : List EnumSpec) (ms : List Mark) (y : Specified) →
      IfGood (λ z. list_any is_undeclared z.enums ≡ false → AllDeclared es z.scope) (in_order (specifier bs k) (specifiers_in_order es ms) y)
  declared_behind es ms y =
      if_so (Ends (enums_in (specifiers_in_order es ms)) y) (λ z. list_any is_undeclared z.enums ≡ false → AllDeclared es z.scope)
      (λ z p h. ap (λ l. any_of (map (undeclared_enum z.scope) l)) (sym (enums_of_text es ms)) ∙ (p.1 h).1)
      (in_order (specifier bs k) (specifiers_in_order es ms) y) (ends (specifiers_in_order es ms) y)
