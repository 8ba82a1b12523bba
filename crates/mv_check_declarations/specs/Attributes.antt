-- The attribute `multiverse`: what may hold it, and the values of a domain.
use Rattle.std.specs.Prelude.{ℕ, Bool, false, ◌&&◌, ◌||◌, not, is_some, if◌then◌else◌, List, [], ◌∷◌, ◌++◌, Option, Some, None, codes}
use Rattle.mv_num.specs.declared.kind.Kind.{Kind}
use Rattle.mv_syntax.specs.declared.place.Place.{Place}
use Rattle.mv_syntax.specs.declared.unit.Declarator.{Declarator}
use Rattle.mv_syntax.specs.declared.unit.Mark.{Mark, out-Mark}
use Rattle.mv_syntax.specs.declared.unit.Node.{Node}
use Rattle.mv_syntax.specs.declared.unit.Shape.{Shape-F, out-Shape}
use Rattle.mv_syntax.specs.declared.unit.Shape.TheOpen as shape
use Rattle.mv_num.specs.Lists.{is_among}
use Rattle.mv_check_scope.specs.declared.scope.Scope.{Scope}
use Rattle.mv_check_scope.specs.Known.{is_named}
use Rattle.mv_check_expressions.specs.RuleNumbers as rules
use Rattle.mv_check_expressions.specs.declared.constant.Constant.{Constant}
use Rattle.mv_check_expressions.specs.Judged.{Judged, Good, Broken, and_then}
use Rattle.mv_check_expressions.specs.NeededConstants.{constant_judgement}
use Rattle.mv_check_declarations.specs.declared.attributes.Attribute.{Attribute}
use Rattle.mv_check_declarations.specs.declared.attributes.Holder.{Holder}
use Rattle.mv_check_declarations.specs.declared.attributes.Position.{Position}
use Rattle.mv_check_declarations.specs.declared.attributes.Position.TheVariants as position
use Rattle.mv_check_declarations.specs.Constants.{is_value_of}
use Rattle.mv_check_declarations.specs.Turns.{through}
use Rattle.mv_check_declarations.specs.ValueSets.{with_member}

-- ---- domains

-- domains: the value isn't one of the switch's type, or stands in the domain already; nothing is asked where there is no switch
unfoldable pub with_value : Place → Option Kind → List ℕ → Constant → Judged (List ℕ)
with_value place None values c = Good (with_member values c.value)
with_value place (Some k) values c = if not (is_value_of k c) || is_among c.value values then Broken place rules.domains else Good (values ++ c.value ∷ [])

abbrev pub domain_value : Option Kind → Scope → Node → List ℕ → Judged (List ℕ)
domain_value k s node values = and_then (constant_judgement s node) (with_value node.place k values)

abbrev pub domain : Option Kind → Scope → List Node → Judged (List ℕ)
domain k s nodes = through (domain_value k s) nodes []

abbrev pub given_domain : Option Kind → Scope → Option (List Node) → Judged Attribute
given_domain k s None = Good (record { values = None })
given_domain k s (Some nodes) = and_then (domain k s nodes) (λ values. Good (record { values = Some values }))

-- ---- what may hold an attribute

abbrev pub nothing_holds : Holder
nothing_holds = record { plainly = false; with_values = false }

-- whether a declarator behind specifiers that say `const`, or don't, declares a `const` object; of a pointer they say nothing
abbrev pub is_constant_form : {A B C : Type 0} → Bool → Shape-F A B C → Bool
is_constant_form fixed shape.Plain = fixed
is_constant_form fixed (shape.Array size) = fixed
is_constant_form fixed (shape.Function params) = false
is_constant_form fixed (shape.Pointer constant params) = constant
is_constant_form fixed (shape.PointerArray constant size params) = constant

abbrev pub is_main : Option (List ℕ) → Bool
is_main None = false
is_main (Some name) = is_named name (codes "main")

-- An integer that isn't `const` may have it with and without values; a function pointer that isn't `const`, and a function other than `main`, without.
abbrev pub shape_holder : {A B C : Type 0} → Bool → Option (List ℕ) → Shape-F A B C → Holder
shape_holder fixed name shape.Plain = record { plainly = not fixed; with_values = not fixed }
shape_holder fixed name (shape.Array size) = nothing_holds
shape_holder fixed name (shape.Function params) = record { plainly = not (is_main name); with_values = false }
shape_holder fixed name (shape.Pointer constant params) = record { plainly = not fixed; with_values = false }
shape_holder fixed name (shape.PointerArray constant size params) = nothing_holds

-- at file scope alone, by whether the object is `const`
abbrev pub holder_of : Position → Bool → Declarator → Holder
holder_of position.File fixed d = shape_holder fixed d.name (out-Shape d.shape)
holder_of position.Block fixed d = nothing_holds
holder_of position.Parameter fixed d = nothing_holds

-- by whether `const` stands among the specifiers before it
abbrev pub holder_behind : Position → Bool → Declarator → Holder
holder_behind position fixed d = holder_of position (is_constant_form fixed (out-Shape d.shape)) d

abbrev pub both_hold : Holder → Holder → Holder
both_hold g h = record { plainly = g.plainly && h.plainly; with_values = g.with_values && h.with_values }

abbrev pub all_hold : Position → Bool → Holder → List Declarator → Holder
all_hold position fixed h [] = h
all_hold position fixed h (d ∷ ds) = all_hold position fixed (both_hold h (holder_behind position fixed d)) ds

-- an attribute among specifiers holds for each declarator of a declaration that has one
abbrev pub holder_of_all : Position → Bool → List Declarator → Holder
holder_of_all position fixed [] = nothing_holds
holder_of_all position fixed (d ∷ ds) = all_hold position fixed (holder_behind position fixed d) ds

-- ---- attributes

abbrev pub holds : Holder → Attribute → Bool
holds h a = if is_some a.values then h.with_values else h.plainly

-- attributes: it holds for what may not have it, or for what has one already
unfoldable pub held : Place → Holder → Option Attribute → Attribute → Judged (Option Attribute)
held place h before a = if is_some before || not (holds h a) then Broken place rules.attributes else Good (Some a)

-- the type of the switches that an attribute with values makes
abbrev pub switch_kind : Holder → Option Kind → Option Kind
switch_kind h k = if h.with_values then k else None

abbrev pub attribute : Holder → Option Kind → Scope → Mark → Option Attribute → Judged (Option Attribute)
attribute h k s m before = let f = out-Mark m in and_then (given_domain (switch_kind h k) s f.values) (held f.place h before)

-- the attribute behind some attributes, in front of which there may be one
abbrev pub attributes : Holder → Option Kind → Scope → List Mark → Option Attribute → Judged (Option Attribute)
attributes h k s = through (attribute h k s)
