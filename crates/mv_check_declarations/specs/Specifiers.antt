-- Declaration specifiers (C11 6.7, 6.7.2).
use Rattle.std.specs.Prelude.{ℕ, ◌+◌, Bool, true, false, ◌&&◌, ◌||◌, not, nat_eq, nat_lt, is_some, if◌then◌else◌, List, [], ◌∷◌, ◌++◌, length, take, drop, Option, Some, None}
use Rattle.mv_num.specs.declared.kind.Kind.{Kind}
use Rattle.mv_syntax.specs.declared.place.Place.{Place}
use Rattle.mv_ast.specs.declared.program.CType.{CType}
use Rattle.mv_ast.specs.declared.program.CType.TheVariants.{Scalar}
use Rattle.mv_syntax.specs.declared.unit.Declarator.{Declarator}
use Rattle.mv_syntax.specs.declared.unit.EnumSpec.{EnumSpec, out-EnumSpec}
use Rattle.mv_syntax.specs.declared.unit.Mark.{Mark, out-Mark}
use Rattle.mv_syntax.specs.declared.unit.Member.{Member, out-Member}
use Rattle.mv_syntax.specs.declared.unit.Specs.{Specs, out-Specs}
use Rattle.mv_check_scope.specs.declared.meaning.Meaning.{Meaning}
use Rattle.mv_check_scope.specs.declared.meaning.Meaning.TheVariants as meaning
use Rattle.mv_check_scope.specs.declared.scope.Scope.{Scope}
use Rattle.mv_check_scope.specs.Spaces.{named}
use Rattle.mv_check_scope.specs.Scoped.{tag_of, tag_declared}
use Rattle.mv_check_expressions.specs.RuleNumbers as rules
use Rattle.mv_check_expressions.specs.Judged.{Judged, Good, Broken, and_then}
use Rattle.mv_check_expressions.specs.TypeNames.{undeclared_enum, type_of}
use Rattle.mv_check_declarations.specs.declared.attributes.Holder.{Holder}
use Rattle.mv_check_declarations.specs.declared.attributes.Position.{Position}
use Rattle.mv_check_declarations.specs.declared.attributes.Position.TheVariants as position
use Rattle.mv_check_declarations.specs.declared.specifiers.Enumeration.{Enumeration}
use Rattle.mv_check_declarations.specs.declared.specifiers.Said.{Said}
use Rattle.mv_check_declarations.specs.declared.specifiers.Specified.{Specified}
use Rattle.mv_check_declarations.specs.Attributes.{attributes, holder_of_all}
use Rattle.mv_check_declarations.specs.Enumerators.{enumerators}
use Rattle.mv_check_declarations.specs.Turns.{Behind, through}

-- ---- enums

abbrev pub number_of_tag : Option Meaning → Option ℕ
number_of_tag (Some (meaning.Tag n)) = Some n
number_of_tag _ = None

-- the enumeration that a tag names
abbrev pub named_enumeration : Scope → Option (List ℕ) → Option ℕ
named_enumeration s None = None
named_enumeration s (Some tag) = number_of_tag (tag_of s tag)

abbrev pub with_enumeration : Scope → List ℕ → Scope
with_enumeration s values = record s { enumerations = s.enumerations ++ values ∷ [] }

-- an enumeration of these values under a tag; the tag may be that of another in the same scope
unfoldable pub tagged : Option (List ℕ) → Scope → List ℕ → Scope × Enumeration
tagged None s values = (with_enumeration s values, record { number = Some (length s.enumerations); again = false })
tagged (Some tag) s values =
    if is_some (named tag s.tags.here) then (s, record { number = None; again = true })
    else (tag_declared (with_enumeration s values) tag (meaning.Tag (length s.enumerations)), record { number = Some (length s.enumerations); again = false })

-- a tag is declared behind its list
abbrev pub enumeration_of : Scope → Option (List ℕ) → Option (List Member) → Behind Enumeration
enumeration_of s tag None = Good (s, record { number = named_enumeration s tag; again = false })
enumeration_of s tag (Some members) = and_then (enumerators members s) (λ d. Good (tagged tag d.0 d.1))

-- ---- enums and attributes, in the order of their places

abbrev pub is_before : Place → Place → Bool
is_before p q = nat_lt p.line q.line || (nat_eq p.line q.line && nat_lt p.column q.column)

-- how many attributes stand before a place
abbrev pub count_before : Place → List Mark → ℕ
count_before place [] = 0
count_before place (m ∷ ms) = if is_before ((out-Mark m).place) place then 1 + count_before place ms else 0

-- how many stand before the list of an enum
abbrev pub count_before_list : Option (List Member) → List Mark → ℕ
count_before_list (Some (m ∷ ms)) marks = count_before ((out-Member m).place) marks
count_before_list _ marks = 0

abbrev pub nothing_said : Said
nothing_said = record { used = 0; attribute = None; number = None; again = false; undeclared = false }

-- an enum behind what was said before it, and the attributes before its list
abbrev pub enum_specifier : Holder → Option Kind → List Mark → EnumSpec → Scope × Said → Behind Said
enum_specifier h k marks e x =
    let f = out-EnumSpec e in
    let rest = drop x.1.used marks in
    let n = count_before_list f.members rest in
    and_then (attributes h k x.0 (take n rest) x.1.attribute) (λ a.
    and_then (enumeration_of x.0 f.tag f.members) (λ d.
    Good (
      d.0,
      record {
        used = x.1.used + n;
        attribute = a;
        number = d.1.number;
        again = x.1.again || d.1.again;
        undeclared = x.1.undeclared || undeclared_enum x.0 e;
      },
    )))

abbrev pub enum_specifiers : Holder → Option Kind → List Mark → List EnumSpec → Scope → Behind Said
enum_specifiers h k marks tags s = through (enum_specifier h k marks) tags (s, nothing_said)

-- ---- specifiers

-- the integer type that specifiers name
abbrev pub scalar_kind : CType → Option Kind
scalar_kind (Scalar k) = Some k
scalar_kind _ = None

abbrev pub kind_of : Judged CType → Option Kind
kind_of (Good t) = scalar_kind t
kind_of (Broken place rule) = None

abbrev pub at_file : Position → Bool
at_file position.File = true
at_file position.Block = false
at_file position.Parameter = false

-- names: a tag isn't declared before its enum; redeclarations: a tag is declared again; declarations: `static` stands where it may not, or the words and enums name no type
unfoldable pub type_by_rules : Position → (undeclared again : Bool) → Specs → Scope → Judged CType
type_by_rules position undeclared again specs s =
    let f = out-Specs specs in
    if undeclared then Broken f.place rules.names
    else if again then Broken f.place rules.redeclarations
    else if f.hidden && not (at_file position) then Broken f.place rules.declarations
    else type_of s specs

-- what specifiers say of the declarators behind them
abbrev pub specifiers : Position → List Declarator → Specs → Scope → Behind Specified
specifiers position names specs s =
    let f = out-Specs specs in
    let h = holder_of_all position f.fixed names in
    let k = kind_of (type_of s specs) in
    and_then (enum_specifiers h k f.marks f.tags s) (λ x.
    and_then (attributes h k x.0 (drop x.1.used f.marks) x.1.attribute) (λ a.
    and_then (type_by_rules position x.1.undeclared x.1.again specs x.0) (λ t.
    Good (x.0, record { ctype = t; fixed = f.fixed; enumeration = x.1.number; attribute = a }))))
