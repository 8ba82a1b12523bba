-- Objects at file scope: their first words and the domains of switches (C11 6.7.9, 6.9.2).
use Rattle.std.specs.Prelude.{ℕ, ◌+◌, Bool, true, false, ◌&&◌, nat_lt, if◌then◌else◌, List, [], ◌∷◌, ◌++◌, map, length, Option, Some, None, slice_get}
use Rattle.mv_syntax.specs.declared.place.Place.{Place}
use Rattle.mv_ast.specs.declared.program.CType.{CType}
use Rattle.mv_ast.specs.declared.program.Expr.{Expr}
use Rattle.mv_ast.specs.declared.program.Form.{Form-F, out-Form}
use Rattle.mv_ast.specs.declared.program.Form.TheOpen as form
use Rattle.mv_ast.specs.declared.program.Local.{Local}
use Rattle.mv_syntax.specs.declared.unit.Declarator.{Declarator}
use Rattle.mv_syntax.specs.declared.unit.Initial.{Initial}
use Rattle.mv_syntax.specs.declared.unit.Initial.TheVariants as initial
use Rattle.mv_syntax.specs.declared.unit.Node.{Node}
use Rattle.mv_ast.specs.Operators.{converted}
use Rattle.mv_check_scope.specs.declared.scope.Scope.{Scope}
use Rattle.mv_check_scope.specs.Constants.{constant_value, converts}
use Rattle.mv_check_scope.specs.Domains.{distinct}
use Rattle.mv_check_expressions.specs.RuleNumbers as rules
use Rattle.mv_check_expressions.specs.Judged.{Judged, Good, Broken, and_then}
use Rattle.mv_check_expressions.specs.Judgements.{value_judgement}
use Rattle.mv_check_declarations.specs.declared.attributes.Attribute.{Attribute}
use Rattle.mv_check_declarations.specs.declared.globals.Words.{Words}
use Rattle.mv_check_declarations.specs.declared.attributes.Position.TheVariants as position
use Rattle.mv_check_declarations.specs.declared.globals.Designated.{Designated}
use Rattle.mv_check_declarations.specs.declared.specifiers.Specified.{Specified}
use Rattle.mv_check_declarations.specs.Attributes.{attributes, holder_of}
use Rattle.mv_check_declarations.specs.Declarators.{designated}
use Rattle.mv_check_declarations.specs.Specifiers.{scalar_kind}
use Rattle.mv_check_declarations.specs.Turns.{Behind, through}

-- ---- declarators

-- what a declarator at file scope designates, and its attribute
abbrev pub file_declarator : Specified → Declarator → Scope → Behind Designated
file_declarator b d s =
    and_then (designated d.shape b.ctype b.fixed s) (λ e.
    and_then (attributes (holder_of position.File b.fixed d) (scalar_kind b.ctype) e.0 d.marks b.attribute) (λ a.
    Good (e.0, record { entity = e.1; attribute = a })))

-- ---- constants

-- the function whose address an expression is
abbrev pub address_form : {A B C : Type 0} → Form-F A B C → Option ℕ
address_form (form.Function f) = Some f
address_form _ = None

abbrev pub address_or : Option ℕ → Option ℕ → Option ℕ
address_or (Some f) constant = Some (f + 1)
address_or None constant = constant

-- the word of a constant (C11 6.6): one more than a function's number, or the value of an integer constant expression
abbrev pub constant_word : Expr → Option ℕ
constant_word e = address_or (address_form (out-Form e.what)) (constant_value e)

-- ---- first words

abbrev pub with_word : CType → Words → Expr → ℕ → Words
with_word t x e w = record { all = x.all && converts e t; words = x.words ++ converted t w ∷ [] }

abbrev pub word_or_broken : Place → CType → Words → Expr → Option ℕ → Judged Words
word_or_broken place t x e None = Broken place rules.constants
word_or_broken place t x e (Some w) = Good (with_word t x e w)

-- constants: a value is no constant
abbrev pub first_word : CType → Scope → Node → Words → Judged Words
first_word t s node x = and_then (value_judgement s node) (λ e. word_or_broken node.place t x e (constant_word e))

abbrev pub no_words : Words
no_words = record { all = true; words = [] }

abbrev pub first_words : CType → Scope → List Node → Judged Words
first_words t s nodes = through (first_word t s) nodes no_words

abbrev pub room_behind : Option ℕ → ℕ → Bool
room_behind None n = false
room_behind (Some size) n = nat_lt n size

-- the characters of a string, and its 0 where there is room for it
abbrev pub string_words : Local → List ℕ → Words
string_words l bytes =
    record { all = true; words = map (converted l.ctype) bytes ++ (if room_behind l.size (length bytes) then 0 ∷ [] else []) }

-- the words that a global is given
abbrev pub global_words : Local → Option Initial → Scope → Judged Words
global_words l None s = Good no_words
global_words l (Some (initial.Value node)) s = first_word l.ctype s node no_words
global_words l (Some (initial.Values nodes)) s = first_words l.ctype s nodes
global_words l (Some (initial.Chars bytes)) s = Good (string_words l bytes)

-- ---- domains

abbrev pub values_of_enumeration : Option (List ℕ) → List ℕ
values_of_enumeration None = []
values_of_enumeration (Some vs) = distinct vs

-- 0 and 1, or all values of the enumeration that the declared type is
abbrev pub default_domain : Scope → Option ℕ → List ℕ
default_domain s None = 0 ∷ 1 ∷ []
default_domain s (Some n) = values_of_enumeration (slice_get s.enumerations n)

abbrev pub domain_or : Option (List ℕ) → List ℕ → List ℕ
domain_or None others = others
domain_or (Some vs) others = vs

-- the domain of a switch by its attribute
abbrev pub domain_of : Scope → Option ℕ → Attribute → List ℕ
domain_of s enumeration a = domain_or a.values (default_domain s enumeration)
