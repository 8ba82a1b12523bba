-- Enums agree, each with what the code says of it besides.
use Rattle.std.proofs.Common.{◌≡◌, ℕ, refl, sym, ◌∙◌, ap, Bool, true, false, is_some, is_none, unwrap_or, if◌then◌else◌, Option, Some, None, List, [], ◌∷◌, ◌++◌, length}
use Rattle.mv_syntax.specs.declared.place.Place.{Place}
use Rattle.mv_syntax.specs.declared.unit.EnumSpec.{EnumSpec, out-EnumSpec}
use Rattle.mv_syntax.specs.declared.unit.Member.{Member, out-Member}
use Rattle.mv_syntax.specs.declared.unit.Node.{Node}
use Rattle.mv_check_scope.specs.declared.meaning.Meaning.{Meaning}
use Rattle.mv_check_scope.specs.declared.meaning.Meaning.TheVariants as meaning
use Rattle.mv_check_scope.specs.declared.scope.Scope.{Scope}
use Rattle.mv_check_scope.specs.Scoped.{tag_of, tag_declared}
use Rattle.mv_check_scope.specs.Spaces.{named}
use Rattle.mv_check_expressions.specs.Judged.{Judged, Good, Broken, and_then, first_broken, unless_broken}
use Rattle.mv_check_expressions.specs.TypeNames.{undeclared_enum, is_undeclared}
use Rattle.mv_check_declarations.specs.declared.specifiers.Enumeration as said
use Rattle.mv_check_declarations.specs.Constants.{next_int}
use Rattle.mv_check_declarations.specs.Enumerators.{Enumerating, given_value, new_enumerator, enumerator_of}
use Rattle.mv_check_declarations.specs.Enumerators as code
use Rattle.mv_check_declarations.specs.Specifiers.{tagged}
use Rattle.mv_check_declarations.specs.Specifiers as specifiers
use Rattle.mv_check_declarations.specs.Turns.{Behind, through}
use Rattle.mv_check_rules.specs.Nodes.{Enumeration, Again, Numbered}
use Rattle.mv_check_rules.specs.Nodes as node
use Rattle.mv_check_rules.specs.Rules.{stands_here, is_again, concluded}
use Rattle.mv_check_rules.specs.Rules as rules
use Rattle.mv_check_rules.specs.Declarations.{in_order, Enumerators, enumerator_value, with_enumerator, enumerator, number_of_tag, enumeration_named, with_enumeration, new_enumeration, enumeration_of, enumeration, number_of_enumeration}
use Rattle.mv_check_rules.proofs.Agreement.{mapped}
use Rattle.mv_check_rules.proofs.Parts.{then_same, then_to, in_order_mapped}
use Rattle.mv_check_rules.proofs.Attributes.{constant_agrees}

-- ---- enumerators

abbrev enumerators_of : Enumerating → Enumerators
enumerators_of x = record { scope = x.0; following = x.1; values = x.2 }

given_agrees : (s : Scope) (following : Option ℕ) (value : Option Node) → enumerator_value s following value ≡ given_value s following value
given_agrees s following None = refl
given_agrees s following (Some n) = then_same _ _ (λ c. refl) _ _ (constant_agrees s n)

named_agrees : (place : Place) (name : List ℕ) (x : Enumerating) (v : Option ℕ) →
    concluded place x.0 (node.Enumerator name v) (with_enumerator (enumerators_of x) name (unwrap_or v 0)) ≡
    mapped enumerators_of (and_then (new_enumerator place name x.0 v) (λ d. Good (d.0, next_int d.1, x.2 ++ d.1 ∷ [])))
unfolding new_enumerator
named_agrees place name x v = by (stands_here x.0 name) v
  where
    by : (taken : Bool) (v : Option ℕ) →
        unless_broken place (first_broken ((2, taken) ∷ (21, is_none v) ∷ [])) (with_enumerator (enumerators_of x) name (unwrap_or v 0)) ≡
        mapped enumerators_of (and_then (if taken then Broken place 2 else enumerator_of place name x.0 v) (λ d. Good (d.0, next_int d.1, x.2 ++ d.1 ∷ [])))
    by true v = refl
    by false None = refl
    by false (Some v) = refl

enumerator_agrees : (m : Member) (x : Enumerating) → enumerator m (enumerators_of x) ≡ mapped enumerators_of (code.enumerator m x)
enumerator_agrees m x =
    then_to enumerators_of _ _ (named_agrees (out-Member m).place (out-Member m).name x) _ _ (given_agrees x.0 x.1 (out-Member m).value)

pub enumerators_agree : (members : List Member) (x : Enumerating) → in_order enumerator members (enumerators_of x) ≡ mapped enumerators_of (through code.enumerator members x)
enumerators_agree = in_order_mapped enumerators_of enumerator code.enumerator enumerator_agrees

-- ---- enums

abbrev values_behind : Enumerating → Behind (List ℕ)
values_behind e = Good (e.0, e.2)

-- what the code says of an enumeration
abbrev pub said_of : Enumeration → said.Enumeration
said_of x = record { number = number_of_enumeration x; again = is_again x }

tags_agree : (m : Option Meaning) → number_of_tag m ≡ specifiers.number_of_tag m
tags_agree None = refl
tags_agree (Some (meaning.Tag n)) = refl
tags_agree (Some m) = refl

module _ {R : Type 0} (next : Scope → said.Enumeration → Bool → Judged R) where
  abbrev Agrees : Option (List ℕ) → Option (List Member) → Scope → Type 0
  Agrees tag members s =
      and_then (specifiers.enumeration_of s tag members) (λ d. next d.0 d.1 (is_undeclared s tag (is_none members))) ≡
      and_then (enumeration_of tag members s) (λ d. next d.0 (said_of d.1) (rules.is_undeclared d.1))

  tag_agrees : (s : Scope) (m : Option Meaning) →
      next s (record { number = specifiers.number_of_tag m; again = false }) (is_none m) ≡ next s (said_of (enumeration_named m)) (rules.is_undeclared (enumeration_named m))
  tag_agrees s None = refl
  tag_agrees s (Some m) = ap (λ n. next s (record { number = n; again = false }) false) (sym (tags_agree (Some m)))

  new_agrees : (tag : Option (List ℕ)) (s : Scope) (x : Enumerating) →
      next (tagged tag x.0 x.2).0 (tagged tag x.0 x.2).1 (is_undeclared s tag false) ≡
      next (new_enumeration tag (enumerators_of x)).0 (said_of (new_enumeration tag (enumerators_of x)).1) (rules.is_undeclared (new_enumeration tag (enumerators_of x)).1)
  unfolding tagged
  new_agrees None s x = refl
  new_agrees (Some tag) s x = by (is_some (named tag x.0.tags.here))
    where
      fresh : Scope
      fresh = tag_declared (with_enumeration x.0 x.2) tag (meaning.Tag (length x.0.enumerations))

      by : (taken : Bool) →
          (let d : Scope × said.Enumeration = if taken then (x.0, record { number = None; again = true }) else (fresh, record { number = Some (length x.0.enumerations); again = false }) in
          next d.0 d.1 false) ≡
          (let d : Scope × Enumeration = if taken then (x.0, Again) else (fresh, Numbered (Some (length x.0.enumerations))) in
          next d.0 (said_of d.1) (rules.is_undeclared d.1))
      by true = refl
      by false = refl

  listed_agrees : (tag : Option (List ℕ)) (s : Scope) (j : Judged Enumerating) →
      and_then (and_then (and_then j values_behind) (λ d. Good (tagged tag d.0 d.1))) (λ d. next d.0 d.1 (is_undeclared s tag false)) ≡
      and_then (and_then (mapped enumerators_of j) (λ e. Good (new_enumeration tag e))) (λ d. next d.0 (said_of d.1) (rules.is_undeclared d.1))
  listed_agrees tag s (Good x) = new_agrees tag s x
  listed_agrees tag s (Broken place rule) = refl

  of_agrees : (tag : Option (List ℕ)) (members : Option (List Member)) (s : Scope) → Agrees tag members s
  of_agrees None None s = refl
  of_agrees (Some tag) None s = tag_agrees s (tag_of s tag)
  of_agrees tag (Some members) s =
      listed_agrees tag s (through code.enumerator members (s, Some 0, [])) ∙
      ap (λ j. and_then (and_then j (λ e. Good (new_enumeration tag e))) (λ d. next d.0 (said_of d.1) (rules.is_undeclared d.1))) (sym (enumerators_agree members (s, Some 0, [])))

  -- what follows an enum by what the code finds of it, and whether it names a tag that isn't declared
  pub enumeration_then : (e : EnumSpec) (s : Scope) →
      and_then (specifiers.enumeration_of s (out-EnumSpec e).tag (out-EnumSpec e).members) (λ d. next d.0 d.1 (undeclared_enum s e)) ≡
      and_then (enumeration e s) (λ d. next d.0 (said_of d.1) (rules.is_undeclared d.1))
  enumeration_then e s = of_agrees (out-EnumSpec e).tag (out-EnumSpec e).members s
