-- What the grammar gives to the declarations of a unit: their names are names, and their domains and enumerations have members.
use Rattle.std.specs.Prelude.{◌≡◌, ◌≤◌, ℕ, Some, List, length}
use Rattle.std.specs.List.{AllByRecursion}
use Rattle.mv_syntax.specs.declared.unit.Declarator.{Declarator}
use Rattle.mv_syntax.specs.declared.unit.EnumSpec.{EnumSpec, out-EnumSpec}
use Rattle.mv_syntax.specs.declared.unit.Item.{Item}
use Rattle.mv_syntax.specs.declared.unit.Mark.{Mark, out-Mark}
use Rattle.mv_syntax.specs.declared.unit.Member.{Member}
use Rattle.mv_syntax.specs.declared.unit.Node.{Node}
use Rattle.mv_syntax.specs.declared.unit.Specs.{Specs, out-Specs}
use Rattle.mv_syntax.specs.declared.unit.Unit as unit
use Rattle.mv_parse_reading.specs.Texts.{ReadsAs}
use Rattle.mv_source_facts.specs.Facts.{IsName}

-- an attribute has no values, or one at least
abbrev pub HasValues : Mark → Type 0
HasValues m = (values : List Node) → (out-Mark m).values ≡ Some values → 1 ≤ length values

-- an enum has no list, or an enumerator at least
abbrev pub HasMembers : EnumSpec → Type 0
HasMembers e = (members : List Member) → (out-EnumSpec e).members ≡ Some members → 1 ≤ length members

-- so it is of all attributes and enums of specifiers
pub record IsFilled (s : Specs) : Type 0 where
  pub marks : AllByRecursion HasValues (out-Specs s).marks
  pub tags : AllByRecursion HasMembers (out-Specs s).tags

pub record IsWrittenDeclarator (d : Declarator) : Type 0 where
  pub named : (name : List ℕ) → d.name ≡ Some name → IsName name
  pub marks : AllByRecursion HasValues d.marks

pub record IsWrittenItem (i : Item) : Type 0 where
  pub specs : IsFilled i.specs
  pub names : AllByRecursion IsWrittenDeclarator i.names

abbrev pub UnitsOfTextsAreWritten : Type 0
UnitsOfTextsAreWritten = (text : List ℕ) (u : unit.Unit) → ReadsAs text u → AllByRecursion IsWrittenItem u.items
