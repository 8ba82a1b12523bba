-- Specifiers agree: enums and attributes in the order of the text.
use Rattle.std.proofs.Common.{◌≡◌, ℕ, suc, ◌+◌, refl, sym, ◌∙◌, ap, arith, Bool, true, false, ◌||◌, if◌then◌else◌, Option, Some, None, List, [], ◌∷◌, ◌++◌, map, take, drop}
use Rattle.std.specs.List.{list_any}
use Rattle.std.proofs.Math.Bool.{or_assoc}
use Rattle.std.proofs.lemmas.List.{drop-drop}
use Rattle.mv_num.specs.declared.kind.Kind.{Kind}
use Rattle.mv_syntax.specs.declared.unit.EnumSpec.{EnumSpec, out-EnumSpec}
use Rattle.mv_syntax.specs.declared.unit.Mark.{Mark, out-Mark}
use Rattle.mv_syntax.specs.declared.unit.Member.{Member}
use Rattle.mv_check_scope.specs.declared.scope.Scope.{Scope}
use Rattle.mv_check_expressions.specs.Judged.{Judged, Good, Broken, and_then}
use Rattle.mv_check_expressions.specs.TypeNames.{undeclared_enum}
use Rattle.mv_check_declarations.specs.declared.attributes.Attribute.{Attribute}
use Rattle.mv_check_declarations.specs.declared.specifiers.Enumeration as said
use Rattle.mv_check_declarations.specs.declared.specifiers.Said.{Said}
use Rattle.mv_check_declarations.specs.Attributes as code
use Rattle.mv_check_declarations.specs.Specifiers.{count_before_list, enum_specifier}
use Rattle.mv_check_declarations.specs.Specifiers as specifiers
use Rattle.mv_check_declarations.specs.Turns.{through}
use Rattle.mv_check_rules.specs.Nodes.{Bearer, Enumeration}
use Rattle.mv_check_rules.specs.Rules.{is_again, is_undeclared}
use Rattle.mv_check_rules.specs.Declarations.{in_order, Attribution, attribute, attributes, Specifier, Enum, Attribute as Marked, is_before_list, stands_before, specifiers_in_order, Specified, specifier, enumeration, number_of_enumeration, last_number}
use Rattle.mv_check_rules.proofs.Agreement.{mapped, attribution_of, holder}
use Rattle.mv_check_rules.proofs.Parts.{then_same, then_to, then_then, in_order_append}
use Rattle.mv_check_rules.proofs.Attributes.{attributes_agree}
use Rattle.mv_check_rules.proofs.Enums.{said_of, enumeration_then}
use Rattle.mv_num.proofs.Booleans.{or_false}

-- ---- lists

module _ {A : Type 0} (p : A → Bool) where
  pub any_more : (xs : List A) (x : A) → list_any p (xs ++ x ∷ []) ≡ list_any p xs || p x
  any_more [] x = or_false (p x)
  any_more (y ∷ ys) x = ap (λ b. p y || b) (any_more ys x) ∙ sym (or_assoc (p y) (list_any p ys) (p x))

last_more : (es : List Enumeration) (e : Enumeration) → last_number (es ++ e ∷ []) ≡ number_of_enumeration e
last_more [] e = refl
last_more (x ∷ []) e = refl
last_more (x ∷ y ∷ es) e = last_more (y ∷ es) e

-- ---- the order of the text

rest_in_order : (es : List EnumSpec) → map Enum es ≡ specifiers_in_order es []
rest_in_order [] = refl
rest_in_order (e ∷ es) = refl

count_none : (members : Option (List Member)) → count_before_list members [] ≡ 0
count_none None = refl
count_none (Some []) = refl
count_none (Some (m ∷ ms)) = refl

count_one : (members : Option (List Member)) (m : Mark) (ms : List Mark) →
    count_before_list members (m ∷ ms) ≡ (if is_before_list (out-Mark m).place members then 1 + count_before_list members ms else 0)
count_one None m ms = refl
count_one (Some []) m ms = refl
count_one (Some (first ∷ rest)) m ms = refl

abbrev split_at : EnumSpec → List EnumSpec → List Mark → ℕ → List Specifier
split_at e es ms n = map Marked (take n ms) ++ Enum e ∷ specifiers_in_order es (drop n ms)

in_text : (e : EnumSpec) (es : List EnumSpec) (ms : List Mark) → specifiers_in_order (e ∷ es) ms ≡ split_at e es ms (count_before_list (out-EnumSpec e).members ms)
in_text e es [] = ap (λ rest. Enum e ∷ rest) (rest_in_order es) ∙ ap (split_at e es []) (sym (count_none (out-EnumSpec e).members))
in_text e es (m ∷ ms) = by (stands_before m e) (in_text e es ms) ∙ ap (split_at e es (m ∷ ms)) (sym (count_one (out-EnumSpec e).members m ms))
  where
    count : ℕ
    count = count_before_list (out-EnumSpec e).members ms

    more : suc count ≡ 1 + count
    more = omega arith

    by : (b : Bool) → specifiers_in_order (e ∷ es) ms ≡ split_at e es ms count → (if b then Marked m ∷ specifiers_in_order (e ∷ es) ms else Enum e ∷ specifiers_in_order es (m ∷ ms)) ≡
        split_at e es (m ∷ ms) (if b then 1 + count else 0)
    by true h = ap (λ rest. Marked m ∷ rest) h ∙ ap (split_at e es (m ∷ ms)) more
    by false h = refl

-- ---- attributes between enums

abbrev pub attribute_of : Option Attribution → Option Attribute
attribute_of None = None
attribute_of (Some values) = Some (record { values = values })

pub there_and_back : (a : Option Attribution) → attribution_of (attribute_of a) ≡ a
there_and_back None = refl
there_and_back (Some values) = refl

back_and_there : (j : Judged (Option Attribute)) → mapped attribute_of (mapped attribution_of j) ≡ j
back_and_there (Good None) = refl
back_and_there (Good (Some a)) = refl
back_and_there (Broken place rule) = refl

module _ (bs : List Bearer) (k : Option Kind) where
  attributes_back : (s : Scope) (ms : List Mark) (a : Option Attribution) →
      code.attributes (holder bs) k s ms (attribute_of a) ≡ mapped attribute_of (attributes bs k s ms a)
  attributes_back s ms a =
      sym (back_and_there (code.attributes (holder bs) k s ms (attribute_of a))) ∙
      ap (mapped attribute_of) (sym (attributes_agree bs k s ms (attribute_of a)) ∙ ap (attributes bs k s ms) (there_and_back a))

  abbrev with_attribute : Specified → Option Attribution → Specified
  with_attribute y a = record { scope = y.scope; enums = y.enums; attribute = a }

  marks_alone : (ms : List Mark) (y : Specified) → in_order (specifier bs k) (map Marked ms) y ≡ mapped (with_attribute y) (attributes bs k y.scope ms y.attribute)
  marks_alone [] y = refl
  marks_alone (m ∷ ms) y =
      then_then _ _ (attribute bs k y.scope m y.attribute) ∙
      then_to (with_attribute y) (λ a. in_order (specifier bs k) (map Marked ms) (with_attribute y a)) (attributes bs k y.scope ms)
      (λ a. marks_alone ms (with_attribute y a)) (attribute bs k y.scope m y.attribute) (attribute bs k y.scope m y.attribute) refl

-- ---- enums and attributes

module _ {A B C D E : Type 0} (inner : A → Judged B) (x : A → B → C) (next : C → Judged D) (last : D → Judged E) where
  flat_twice : (j : Judged A) →
      and_then (and_then (and_then j (λ a. and_then (inner a) (λ b. Good (x a b)))) next) last ≡ and_then j (λ a. and_then (inner a) (λ b. and_then (next (x a b)) last))
  flat_twice (Good a) = by (inner a)
    where
      by : (j : Judged B) → and_then (and_then (and_then j (λ b. Good (x a b))) next) last ≡ and_then j (λ b. and_then (next (x a b)) last)
      by (Good b) = refl
      by (Broken place rule) = refl
  flat_twice (Broken place rule) = refl

module _ {B C D E : Type 0} (x : B → C) (next : C → Judged D) (last : D → Judged E) where
  flat : (j : Judged B) → and_then (and_then (and_then j (λ b. Good (x b))) next) last ≡ and_then j (λ b. and_then (next (x b)) last)
  flat (Good b) = refl
  flat (Broken place rule) = refl

module _ (bs : List Bearer) (k : Option Kind) (marks : List Mark) {R : Type 0} (end : Scope → (number : Option ℕ) → (again undeclared : Bool) → Option Attribute → Judged R) where
  -- what the code has seen where the rules have seen this, and so many of the attributes
  abbrev seen : ℕ → Specified → Scope × Said
  seen used y = (
    y.scope,
    record {
      used = used;
      attribute = attribute_of y.attribute;
      number = last_number y.enums;
      again = list_any is_again y.enums;
      undeclared = list_any is_undeclared y.enums;
    },
  )

  abbrev code_end : Scope × Said → Judged R
  code_end x = and_then (code.attributes (holder bs) k x.0 (drop x.1.used marks) x.1.attribute) (λ a. end x.0 x.1.number x.1.again x.1.undeclared a)

  abbrev rules_end : Specified → Judged R
  rules_end y = end y.scope (last_number y.enums) (list_any is_again y.enums) (list_any is_undeclared y.enums) (attribute_of y.attribute)

  abbrev with_enum : Specified → Option Attribution → Scope × Enumeration → Specified
  with_enum y a d = record { scope = d.0; enums = y.enums ++ d.1 ∷ []; attribute = a }

  seen_more : (used : ℕ) (y : Specified) (a : Option Attribution) (d : Scope × Enumeration) → (
    d.0,
    record {
      used = used;
      attribute = attribute_of a;
      number = number_of_enumeration d.1;
      again = list_any is_again y.enums || is_again d.1;
      undeclared = list_any is_undeclared y.enums || is_undeclared d.1;
    },
  ) ≡ seen used (with_enum y a d)
  seen_more used y a d = λ i. (
    d.0,
    record {
      used = used;
      attribute = attribute_of a;
      number = sym (last_more y.enums d.1) i;
      again = sym (any_more is_again y.enums d.1) i;
      undeclared = sym (any_more is_undeclared y.enums d.1) i;
    },
  )

  -- no enum is left
  only_marks : (used : ℕ) (y : Specified) → code_end (seen used y) ≡ and_then (in_order (specifier bs k) (map Marked (drop used marks)) y) rules_end
  only_marks used y =
      ap (λ j. and_then j (λ a. end y.scope (last_number y.enums) (list_any is_again y.enums) (list_any is_undeclared y.enums) a))
      (attributes_back bs k y.scope (drop used marks) y.attribute) ∙
      (by (attributes bs k y.scope (drop used marks) y.attribute) ∙ ap (λ j. and_then j rules_end) (sym (marks_alone bs k (drop used marks) y)))
    where
      by : (j : Judged (Option Attribution)) →
          and_then (mapped attribute_of j) (λ a. end y.scope (last_number y.enums) (list_any is_again y.enums) (list_any is_undeclared y.enums) a) ≡
          and_then (mapped (with_attribute bs k y) j) rules_end
      by (Good a) = refl
      by (Broken place rule) = refl

  -- an enum, and the attributes before its list
  state_behind : Specified → ℕ → Option Attribute → Scope → said.Enumeration → Bool → Scope × Said
  state_behind y used a s c undeclared = (
    s,
    record {
      used = used;
      attribute = a;
      number = c.number;
      again = list_any is_again y.enums || c.again;
      undeclared = list_any is_undeclared y.enums || undeclared;
    },
  )

  pub in_order_of_text : (tags : List EnumSpec) (used : ℕ) (y : Specified) →
      and_then (through (enum_specifier (holder bs) k marks) tags (seen used y)) code_end ≡
      and_then (in_order (specifier bs k) (specifiers_in_order tags (drop used marks)) y) rules_end
  unfolding state_behind
  in_order_of_text [] used y = only_marks used y
  in_order_of_text (e ∷ tags) used y =
      flat_twice (λ a. specifiers.enumeration_of y.scope (out-EnumSpec e).tag (out-EnumSpec e).members)
      (λ a d. state_behind y (used + n) a d.0 d.1 (undeclared_enum y.scope e)) (through (enum_specifier (holder bs) k marks) tags) code_end
      (code.attributes (holder bs) k y.scope (take n rest) (attribute_of y.attribute)) ∙
      (ap (λ j. and_then j behind) (attributes_back bs k y.scope (take n rest) y.attribute) ∙
      (by (attributes bs k y.scope (take n rest) y.attribute) (in_order_of_text tags) ∙
      (ap (λ j. and_then (and_then j (in_order (specifier bs k) (Enum e ∷ later))) rules_end) (sym (marks_alone bs k (take n rest) y)) ∙
      (ap (λ j. and_then j rules_end) (sym (in_order_append (specifier bs k) (map Marked (take n rest)) (Enum e ∷ later) y)) ∙
      ap (λ l. and_then (in_order (specifier bs k) l y) rules_end) (sym (in_text e tags rest))))))
    where
      rest : List Mark
      rest = drop used marks

      n : ℕ
      n = count_before_list (out-EnumSpec e).members rest

      later : List Specifier
      later = specifiers_in_order tags (drop n rest)

      behind : Option Attribute → Judged R
      behind a =
          and_then (specifiers.enumeration_of y.scope (out-EnumSpec e).tag (out-EnumSpec e).members) (λ d.
          and_then (through (enum_specifier (holder bs) k marks) tags (state_behind y (used + n) a d.0 d.1 (undeclared_enum y.scope e))) code_end)

      Later : Type 0
      Later = (used : ℕ) (y : Specified) → and_then (through (enum_specifier (holder bs) k marks) tags (seen used y)) code_end ≡
          and_then (in_order (specifier bs k) (specifiers_in_order tags (drop used marks)) y) rules_end

      one : (a : Option Attribution) → Later → (d : Scope × Enumeration) →
          and_then (through (enum_specifier (holder bs) k marks) tags (state_behind y (used + n) (attribute_of a) d.0 (said_of d.1) (is_undeclared d.1))) code_end ≡
          and_then (in_order (specifier bs k) later (with_enum y a d)) rules_end
      one a h d =
          ap (λ x. and_then (through (enum_specifier (holder bs) k marks) tags x) code_end) (seen_more (used + n) y a d) ∙
          (h (used + n) (with_enum y a d) ∙
          ap (λ ms. and_then (in_order (specifier bs k) (specifiers_in_order tags ms) (with_enum y a d)) rules_end) (sym (drop-drop n used marks)))

      by : (j : Judged (Option Attribution)) → Later → and_then (mapped attribute_of j) behind ≡
          and_then (and_then (mapped (with_attribute bs k y) j) (in_order (specifier bs k) (Enum e ∷ later))) rules_end
      by (Good a) h =
          enumeration_then (λ s c u. and_then (through (enum_specifier (holder bs) k marks) tags (state_behind y (used + n) (attribute_of a) s c u)) code_end) e y.scope ∙
          (then_same _ _ (one a h) (enumeration e y.scope) (enumeration e y.scope) refl ∙
          sym (flat (with_enum y a) (in_order (specifier bs k) later) rules_end (enumeration e y.scope)))
      by (Broken place rule) h = refl
