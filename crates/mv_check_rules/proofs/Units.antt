-- Declarations and units agree.
use Rattle.std.proofs.Common.{◌≡◌, refl, sym, ◌∙◌, ap, Bool, true, false, ◌&&◌, not, if◌then◌else◌, List, [], ◌∷◌}
use Rattle.mv_syntax.specs.declared.unit.Item.{Item}
use Rattle.mv_syntax.specs.declared.unit.Specs.{out-Specs}
use Rattle.mv_syntax.specs.declared.unit.Unit as tree
use Rattle.mv_check_scope.specs.declared.scope.Scope.{Scope}
use Rattle.mv_check_expressions.specs.Judged.{Judged, Good, Broken, and_then}
use Rattle.mv_check_outline.specs.Outlined.{is_filled}
use Rattle.mv_check_declarations.specs.declared.attributes.Position.TheVariants as position
use Rattle.mv_check_declarations.specs.declared.specifiers.Specified.{Specified}
use Rattle.mv_check_declarations.specs.Specifiers as code_specifiers
use Rattle.mv_check_declarations.specs.Turns.{through}
use Rattle.mv_types.specs.Contents.{in_scope}
use Rattle.mv_types.specs.Foreknown.{foreknown, pointers_of}
use Rattle.mv_types.specs.Units as code
use Rattle.mv_types.specs.Units.{declarator_judgement, names_judgement, item_judgement, program_judgement, unit_judgement}
use Rattle.mv_check_rules.specs.Nodes as node
use Rattle.mv_check_rules.specs.Rules.{is_empty, concluded}
use Rattle.mv_check_rules.specs.Declarations.{Base, in_order}
use Rattle.mv_check_rules.specs.Units.{Declarations, none_declared, behind, bearers, declarator, declares_nothing, item, unit_end, judged_by_rules}
use Rattle.mv_check_rules.proofs.Agreement.{mapped, over, base_of_specified}
use Rattle.mv_check_rules.proofs.Bases.{specifiers_agree}
use Rattle.mv_check_rules.proofs.Parts.{then_mapped}
use Rattle.mv_check_rules.proofs.Program.{contents_of, unit_end_agrees}
use Rattle.mv_check_rules.proofs.Parameters.{parameters_agree}
use Rattle.mv_check_rules.proofs.Statements.{body_agrees}
use Rattle.mv_check_rules.proofs.Declarators.{held_by_all, declarator_agrees}

-- ---- parts in their order

module _ {S T X : Type 0} (f : S → T) (step : X → T → Judged T) (part : X → S → Judged S) (agree : (x : X) (s : S) → step x (f s) ≡ mapped f (part x s)) where
  through_mapped : (xs : List X) (s : S) → through step xs (f s) ≡ mapped f (in_order part xs s)
  through_mapped [] s = refl
  through_mapped (x ∷ xs) s = then_mapped f f (through step xs) (in_order part xs) (through_mapped xs) (step x (f s)) (part x s) (agree x s)

-- ---- declarations

empty_same : {A : Type 0} (xs : List A) → not (is_filled xs) ≡ is_empty xs
empty_same [] = refl
empty_same (x ∷ xs) = refl

nothing_same : (i : Item) → code.declares_nothing i ≡ declares_nothing i
nothing_same i = ap (λ b. b && not (is_filled (out-Specs i.specs).tags)) (empty_same i.names) ∙ ap (λ b. is_empty i.names && b) (empty_same (out-Specs i.specs).tags)

module _ (items : List Item) where
  names_agree : (b : Specified) (i : Item) (c : Declarations) → names_judgement (foreknown items) b i (contents_of c) ≡
      mapped contents_of (and_then (concluded (out-Specs i.specs).place c.scope (node.Declaration (declares_nothing i)) c) (in_order (declarator items (base_of_specified b) i.body) i.names))
  names_agree b i c =
      ap (λ nothing. if nothing then Broken (out-Specs i.specs).place 22 else through (declarator_judgement (foreknown items) b i.body) i.names (contents_of c)) (nothing_same i) ∙ by (declares_nothing i)
    where
      by : (nothing : Bool) → (if nothing then Broken (out-Specs i.specs).place 22 else through (declarator_judgement (foreknown items) b i.body) i.names (contents_of c)) ≡
          mapped contents_of (and_then (concluded (out-Specs i.specs).place c.scope (node.Declaration nothing) c) (in_order (declarator items (base_of_specified b) i.body) i.names))
      by true = refl
      by false =
          through_mapped contents_of (declarator_judgement (foreknown items) b i.body) (declarator items (base_of_specified b) i.body)
          (λ d e. declarator_agrees parameters_agree body_agrees items b i.body d e) i.names c

  item_agrees : (i : Item) (c : Declarations) → item_judgement (foreknown items) i (contents_of c) ≡ mapped contents_of (item items i c)
  unfolding item_judgement
  item_agrees i c =
      let f = out-Specs i.specs in
      let bs = bearers items f.fixed i.names in
      let ds = code.holders (foreknown items) i.names in
      by (code_specifiers.specifiers position.File ds i.specs c.scope) ∙
      ap (λ j. mapped contents_of (and_then j next)) (sym (specifiers_agree position.File bs ds i.specs c.scope (held_by_all items f.fixed i.names)))
    where
      next : Scope × Base → Judged Declarations
      next b = and_then (concluded (out-Specs i.specs).place b.0 (node.Declaration (declares_nothing i)) (behind b.0 c)) (in_order (declarator items b.1 i.body) i.names)

      by : (j : Judged (Scope × Specified)) → and_then j (λ b. names_judgement (foreknown items) b.1 i (in_scope (contents_of c) b.0)) ≡
          mapped contents_of (and_then (mapped (over base_of_specified) j) next)
      by (Good b) = names_agree b.1 i (behind b.0 c)
      by (Broken place rule) = refl

-- ---- units

pub same_judgement : (u : tree.Unit) → judged_by_rules u ≡ unit_judgement u
unfolding judged_by_rules unit_judgement foreknown
same_judgement u =
    sym (ap (λ j. and_then j (program_judgement u.end (pointers_of (foreknown u.items)))) (through_mapped contents_of (item_judgement (foreknown u.items)) (item u.items) (item_agrees u.items) u.items (none_declared u.items)) ∙
    by (in_order (item u.items) u.items (none_declared u.items)))
  where
    by : (j : Judged Declarations) → and_then (mapped contents_of j) (program_judgement u.end (pointers_of (foreknown u.items))) ≡ and_then j (unit_end u.items u.end)
    by (Good c) = unit_end_agrees u.items u.end c
    by (Broken place rule) = refl
