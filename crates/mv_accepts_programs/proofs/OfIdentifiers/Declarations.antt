-- What the phrases of declarations give, by the productions.
use Rattle.std.proofs.Common.{◌≡◌, ℕ, ap, sym, ◌∙◌, subst, Option, Some, None, List}
use Rattle.std.specs.List.{AllByRecursion}
use Rattle.std.proofs.lemmas.Option.{same_Some}
use Rattle.mv_syntax.specs.declared.place.Place.{Place}
use Rattle.mv_syntax.specs.declared.unit.Declarator.{Declarator}
use Rattle.mv_syntax.specs.declared.unit.EnumSpec.{EnumSpec, EnumSpec-F, roll-EnumSpec, out-roll-EnumSpec}
use Rattle.mv_syntax.specs.declared.unit.Item.{Item}
use Rattle.mv_syntax.specs.declared.unit.Mark.{Mark, Mark-F, out-roll-Mark}
use Rattle.mv_syntax.specs.declared.unit.Member.{Member}
use Rattle.mv_syntax.specs.declared.unit.Node.{Node}
use Rattle.mv_syntax.specs.declared.unit.Shape.{Shape}
use Rattle.mv_syntax.specs.declared.unit.Specs.{Specs, Specs-F, roll-Specs, out-Specs, out-roll-Specs}
use Rattle.mv_syntax.specs.declared.unit.What.{What}
use Rattle.mv_parse_grammar.specs.Terminals.{Terminal}
use Rattle.mv_parse_grammar.specs.Expressions.{Expressions, phrase, no_specs}
use Rattle.mv_parse_grammar.specs.Declarations as D
use Rattle.mv_parse_grammar.specs.Declarations.{Parameters, declarator_of, mark_at, params}
use Rattle.mv_parse_grammar.specs.Statements.{Lines, block, locals, statements}
use Rattle.mv_parse_grammar.specs.Units as U
use Rattle.mv_parse_grammar.specs.Units.{AreItems}
use Rattle.mv_accepts_programs.specs.Identifiers.Written.{HasValues, HasMembers, IsFilled, IsWrittenDeclarator, IsWrittenItem}
use Rattle.mv_source_facts.specs.Facts.{IsName}
use Rattle.mv_accepts_programs.proofs.OfIdentifiers.Phrases.{AreNamed, Gives, IfSome, HasSome, all_last, given, past, after, name, either, placed, chained, optional, pushed, commas, some_commas, some_braced}

-- ---- enums and attributes

members_there : (o : Option (List Member)) → IfSome HasSome o → (members : List Member) → o ≡ Some members → HasSome members
members_there None h members q = absurd (cc)
members_there (Some ms) h members q = subst HasSome (same_Some ms members q) h

values_there : (o : Option (List Node)) → IfSome HasSome o → (values : List Node) → o ≡ Some values → HasSome values
values_there None h values q = absurd (cc)
values_there (Some vs) h values q = subst HasSome (same_Some vs values q) h

abbrev EnumLayer : Type 0
EnumLayer = EnumSpec-F What EnumSpec Mark Member Node Specs

has_members : (tag : Option (List ℕ)) (members : Option (List Member)) → IfSome HasSome members → HasMembers (roll-EnumSpec (record { tag = tag; members = members }))
has_members tag members h ms q =
    members_there members h ms (sym (ap (λ (y : EnumLayer). y.members) (out-roll-EnumSpec (record { tag = tag; members = members }))) ∙ q)

abbrev MarkLayer : Type 0
MarkLayer = Mark-F What EnumSpec Mark Member Node Specs

has_values : (place : Place) (values : Option (List Node)) → IfSome HasSome values → HasValues (mark_at place values)
has_values place values h vs q =
    values_there values h vs (sym (ap (λ (y : MarkLayer). y.values) (out-roll-Mark (record { place = place; values = values }))) ∙ q)

-- ---- specifiers

abbrev SpecsLayer : Type 0
SpecsLayer = Specs-F What EnumSpec Mark Member Node Specs

filled : (x : SpecsLayer) → AllByRecursion HasValues x.marks → AllByRecursion HasMembers x.tags → IsFilled (roll-Specs x)
filled x marks tags = record {
  marks = subst (λ (y : SpecsLayer). AllByRecursion HasValues y.marks) (sym (out-roll-Specs x)) marks;
  tags = subst (λ (y : SpecsLayer). AllByRecursion HasMembers y.tags) (sym (out-roll-Specs x)) tags;
}

module _ (E : Expressions) where
  enum : Gives HasMembers (D.enum E)
  enum =
      either (past (λ _. past (λ t. given (has_members (Some t.spelling) None tt))))
      (past (λ _. past (λ t. after some_braced (λ ms h. given (has_members (D.spelling_of t) (Some ms) h)))))

  domain : Gives HasSome (D.domain E)
  domain = past (λ _. after some_commas (λ xs h. past (λ _. given h)))

  attribute : Gives HasValues (D.attribute E)
  attribute =
      past (λ t. past (λ _. past (λ _. past (λ _. after (optional domain) (λ xs h. past (λ _. past (λ _. given (has_values t.place xs h))))))))

  specifier : (s : Specs) → IsFilled s → Gives IsFilled (D.specifier E s)
  specifier s h =
      either (past (λ _. given (filled _ h.marks h.tags)))
      (either (past (λ _. given (filled _ h.marks h.tags)))
      (either (past (λ t. given (filled _ h.marks h.tags)))
      (either (after enum (λ e k. given (filled _ h.marks (all_last HasMembers (out-Specs s).tags e h.tags k))))
      (after attribute (λ m k. given (filled _ (all_last HasValues (out-Specs s).marks m h.marks k) h.tags))))))

  specifiers : Gives IsFilled (D.specs E)
  specifiers = after (placed (specifier no_specs (filled _ tt tt))) (λ m h. chained (filled _ h.marks h.tags) specifier)

  -- ---- declarators

  module _ (P : Parameters) where
    written : (place : Place) (n : List ℕ) (shape : Shape) → IsName n → IsWrittenDeclarator (declarator_of place (Some n) shape)
    written place n shape h = record { named = λ m q. subst IsName (same_Some n m q) h; marks = tt }

    direct : Gives IsWrittenDeclarator (D.direct E P)
    direct =
        either (after name (λ t h. past (λ n. given (written t.place t.spelling _ h))))
        (either (after name (λ t h. past (λ ps. given (written t.place t.spelling _ h))))
        (past (λ t. past (λ _. past (λ c. after name (λ n h. past (λ _. past (λ _. past (λ ps. given (written t.place n.spelling _ h))))))))))

    with_attribute : (d : Declarator) → IsWrittenDeclarator d → Gives IsWrittenDeclarator (D.with_attribute E d)
    with_attribute d h = after attribute (λ m k. given (record { named = h.named; marks = all_last HasValues d.marks m h.marks k }))

    declarator : Gives IsWrittenDeclarator (D.declarator E P)
    declarator = after direct (λ d h. chained h with_attribute)

    declared : Gives IsWrittenDeclarator (D.declared E P)
    declared = after declarator (λ d h. either (past (λ x. given (record { named = h.named; marks = h.marks }))) (given h))

    -- ---- items

    item : (B : Lines) → Gives IsWrittenItem (U.item E P B)
    item B =
        either
        (after specifiers (λ s h. after (either (commas declared) (given tt)) (λ ds k. past (λ _. given (record { specs = h; names = k })))))
        (after specifiers (λ s h. after declarator (λ d k. past (λ b. given (record { specs = h; names = (k, tt) })))))

pub items_written : (ts : List Terminal) (xs : List Item) → AreNamed ts → AreItems ts xs → AllByRecursion IsWrittenItem xs
items_written ts xs n h =
    let one = item (phrase h.depth) (params h.depth) (block (locals h.depth) (statements h.depth)) in
    (chained {P = AllByRecursion IsWrittenItem} tt (λ ys k. pushed one ys k)).holds xs ts n h.phrases
