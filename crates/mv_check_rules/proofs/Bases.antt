-- What specifiers say of the declarators behind them agrees.
use Rattle.std.proofs.Common.{◌≡◌, ℕ, refl, sym, ◌∙◌, ap, Bool, true, false, ◌||◌, ◌&&◌, not, is_none, unwrap_or, if◌then◌else◌, Option, Some, None, List, [], ◌∷◌, ◌++◌, map, drop}
use Rattle.std.specs.List.{list_any}
use Rattle.std.proofs.lemmas.List.{append_assoc, append-nil, length-map}
use Rattle.mv_num.specs.declared.kind.Kind.{Kind}
use Rattle.mv_syntax.specs.declared.place.Place.{Place}
use Rattle.mv_ast.specs.declared.program.CType.{CType}
use Rattle.mv_ast.specs.declared.program.CType.TheVariants as ctype
use Rattle.mv_syntax.specs.declared.unit.Declarator.{Declarator}
use Rattle.mv_syntax.specs.declared.unit.Specs.{Specs, out-Specs}
use Rattle.mv_ast.specs.Names.{any_of}
use Rattle.mv_check_scope.specs.declared.scope.Scope.{Scope}
use Rattle.mv_check_expressions.specs.Judged.{Judged, Good, Broken, and_then, first_broken, unless_broken}
use Rattle.mv_check_expressions.specs.TypeNames.{undeclared_enum, type_or_broken, named_type}
use Rattle.mv_check_declarations.specs.declared.attributes.Attribute.{Attribute}
use Rattle.mv_check_declarations.specs.declared.attributes.Holder.{Holder}
use Rattle.mv_check_declarations.specs.declared.attributes.Position.{Position}
use Rattle.mv_check_declarations.specs.declared.specifiers.Specified as code_specified
use Rattle.mv_check_declarations.specs.Attributes as code
use Rattle.mv_check_declarations.specs.Specifiers.{type_by_rules}
use Rattle.mv_check_declarations.specs.Specifiers as code_specifiers
use Rattle.mv_check_declarations.specs.Turns.{Behind}
use Rattle.mv_check_rules.specs.Nodes.{Bearer}
use Rattle.mv_check_rules.specs.Nodes as node
use Rattle.mv_check_rules.specs.Rules.{bears_none, is_again, is_undeclared, concluded}
use Rattle.mv_check_rules.specs.Declarations.{Found, in_order, is_switch, Attribution, Base, base_of, type_of_words, kind_named, specifiers_in_order, Specified, specifier, last_number}
use Rattle.mv_check_rules.proofs.Agreement.{mapped, over, base_of_specified, holder, is_local, SpecifiersAgree}
use Rattle.mv_check_rules.proofs.Parts.{IfGood}
use Rattle.mv_check_rules.proofs.Specifiers.{any_more, attribute_of, there_and_back, in_order_of_text}
use Rattle.mv_check_rules.proofs.Tags.{declared_behind}

module _ {A B C : Type 0} (P : A → Type 0) (g : B → C) (next : A → Judged C) (rest : A → Judged B) (agree : (a : A) → P a → next a ≡ mapped g (rest a)) where
  then_known : (j : Judged A) → IfGood P j → and_then j next ≡ mapped g (and_then j rest)
  then_known (Good a) h = agree a h
  then_known (Broken place rule) h = refl

module _ (p : Position) (specs : Specs) where
  abbrev specified : CType → Option ℕ → Option Attribute → code_specified.Specified
  specified t number a = record { ctype = t; fixed = (out-Specs specs).fixed; enumeration = number; attribute = a }

  -- how the code ends
  abbrev end : Scope → (number : Option ℕ) → (again undeclared : Bool) → Option Attribute → Behind code_specified.Specified
  end s number again undeclared a = and_then (type_by_rules p undeclared again specs s) (λ t. Good (s, specified t number a))

  concludes : (y : Specified) → (list_any is_undeclared y.enums ≡ false → any_of (map (undeclared_enum y.scope) (out-Specs specs).tags) ≡ false) →
      concluded (out-Specs specs).place y.scope (node.Specifiers ((out-Specs specs).hidden && is_local p) y.enums (type_of_words specs)) (base_of specs y) ≡
      mapped (over base_of_specified) (end y.scope (last_number y.enums) (list_any is_again y.enums) (list_any is_undeclared y.enums) (attribute_of y.attribute))
  unfolding type_by_rules
  concludes y h =
      by (list_any is_undeclared y.enums) (list_any is_again y.enums) ((out-Specs specs).hidden && is_local p)
      (any_of (map (undeclared_enum y.scope) (out-Specs specs).tags)) (type_of_words specs) h ∙
      ap (λ n. found (list_any is_undeclared y.enums) (list_any is_again y.enums) ((out-Specs specs).hidden && is_local p)
      (any_of (map (undeclared_enum y.scope) (out-Specs specs).tags)) (named_type n (out-Specs specs).words))
      (sym (length-map (out-Specs specs).tags (undeclared_enum y.scope)))
    where
      place : Place
      place = (out-Specs specs).place

      found : (undeclared again misplaced any : Bool) → Option CType → Found Base
      found undeclared again misplaced any t =
          mapped (over base_of_specified) (and_then
          (if undeclared then Broken place 1 else if again then Broken place 2 else if misplaced then Broken place 22 else if any then Broken place 1 else type_or_broken place t)
          (λ t. Good (y.scope, specified t (last_number y.enums) (attribute_of y.attribute))))

      base : Option CType → Option Attribution → Scope × Base
      base t a = (y.scope, record { ctype = unwrap_or t ctype.Void; constant = (out-Specs specs).fixed; enumeration = last_number y.enums; attribute = a })

      by : (undeclared again misplaced any : Bool) (t : Option CType) → (undeclared ≡ false → any ≡ false) →
          unless_broken place (first_broken ((1, undeclared) ∷ (2, again) ∷ (22, misplaced || is_none t) ∷ [])) (base t y.attribute) ≡ found undeclared again misplaced any t
      by true again misplaced any t h = refl
      by false true misplaced any t h = refl
      by false false true any t h = refl
      by false false false true t h = let q : true ≡ false = h refl in absurd (cc)
      by false false false false None h = refl
      by false false false false (Some t) h = ap (λ a. Good (base (Some t) a)) (sym (there_and_back y.attribute))

  -- the code, by what an attribute may stand on and the type of the switches
  abbrev code_by : Scope → Holder → Option Kind → Behind code_specified.Specified
  code_by s h k =
      let f = out-Specs specs in
      and_then (code_specifiers.enum_specifiers h k f.marks f.tags s) (λ x.
      and_then (code.attributes h k x.0 (drop x.1.used f.marks) x.1.attribute) (λ a. end x.0 x.1.number x.1.again x.1.undeclared a))

pub specifiers_agree : SpecifiersAgree
specifiers_agree p bs names specs s q =
    then_known (λ z. list_any is_undeclared z.enums ≡ false → any_of (map (undeclared_enum z.scope) (out-Specs specs).tags) ≡ false)
    (over base_of_specified) _ _ (concludes p specs)
    (in_order (specifier bs (kind_named s specs)) (specifiers_in_order (out-Specs specs).tags (out-Specs specs).marks) start)
    (declared_behind bs (kind_named s specs) (out-Specs specs).tags (out-Specs specs).marks start) ∙
    (ap (mapped (over base_of_specified)) (sym (in_order_of_text bs (kind_named s specs) (out-Specs specs).marks (end p specs) (out-Specs specs).tags 0 start)) ∙
    ap (λ h. mapped (over base_of_specified) (code_by p specs s h (kind_named s specs))) (sym q))
  where
    start : Specified
    start = record { scope = s; enums = []; attribute = None }

-- ---- what attributes may stand on

neither : (a b : Bool) → (not a && not (b || false)) ≡ not (a || b)
neither true b = refl
neither false true = refl
neither false false = refl

both_hold_all : (x : Bearer) (xs : List Bearer) (b : Bearer) → code.both_hold (holder (x ∷ xs)) (holder (b ∷ [])) ≡ holder (x ∷ xs ++ b ∷ [])
both_hold_all x xs b = λ i. record {
  plainly = (neither (list_any bears_none (x ∷ xs)) (bears_none b) ∙ ap not (sym (any_more bears_none (x ∷ xs) b))) i;
  with_values = (neither (list_any (λ b. not (is_switch b)) (x ∷ xs)) (not (is_switch b)) ∙ ap not (sym (any_more (λ b. not (is_switch b)) (x ∷ xs) b))) i;
}

-- an attribute among specifiers may stand on what one may stand on for each declarator
module _ (p : Position) (fixed : Bool) (bearer : Declarator → Bearer) (one : (d : Declarator) → code.holder_behind p fixed d ≡ holder (bearer d ∷ [])) where
  all_more : (x : Bearer) (xs : List Bearer) (ds : List Declarator) → code.all_hold p fixed (holder (x ∷ xs)) ds ≡ holder (x ∷ xs ++ map bearer ds)
  all_more x xs [] = ap (λ l. holder (x ∷ l)) (sym (append-nil xs))
  all_more x xs (d ∷ ds) =
      ap (λ h. code.all_hold p fixed h ds) (ap (code.both_hold (holder (x ∷ xs))) (one d) ∙ both_hold_all x xs (bearer d)) ∙
      (all_more x (xs ++ bearer d ∷ []) ds ∙ ap (λ l. holder (x ∷ l)) (append_assoc xs (bearer d ∷ []) (map bearer ds)))

  pub holders_agree : (ds : List Declarator) → code.holder_of_all p fixed ds ≡ holder (map bearer ds)
  holders_agree [] = refl
  holders_agree (d ∷ ds) = ap (λ h. code.all_hold p fixed h ds) (one d) ∙ all_more (bearer d) [] ds
