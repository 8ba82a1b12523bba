-- What a source is: a program, or a text that is refused, with the cause of each refusal.
use Rattle.std.specs.Prelude.{ℕ, ◌≡◌, ◌<◌, List, length, Some, None, Result, Ok, Err}
use Rattle.mv_num.specs.Limits.{source_limit}
use Rattle.mv_syntax.specs.declared.place.Place.{Place}
use Rattle.mv_ast.specs.declared.program.Program.{Program}
use Rattle.mv_syntax.specs.declared.token.Tokens.{Tokens}
use Rattle.mv_syntax.specs.declared.unit.Unit as tree
use Rattle.mv_lexer.specs.Reading as lexing
use Rattle.mv_lexer.specs.Reading.{AreTokens, IsFirstRefused}
use Rattle.mv_parse_reading.specs.Texts.{ReadsAs}
use Rattle.mv_parser.specs.Verdict.{IsShallow, IsTooDeep, IsBroken}
use Rattle.mv_check_expressions.specs.Judged.{Good, Broken}
use Rattle.mv_check_limits.specs.Ordered.{first_excess}
use Rattle.mv_check_rules.specs.Units.{judged_by_rules}
use Rattle.mv_front.specs.Codes as refusals
use Rattle.mv_front.specs.Refusals.{at_place, of_rule, counted}
use Rattle.mv_front.specs.declared.refusal.Refusal.{Refusal}
use Rattle.mv_front.specs.declared.refusal.FrontError.{FrontError}
use Rattle.mv_front.specs.declared.refusal.FrontError.TheVariants.{Refused, Memory}

-- the source reads as this unit, and none of its tokens is nested deeper than 255 levels
pub record IsUnit (text : List ℕ) (u : tree.Unit) : Type 0 where
  pub reads : ReadsAs text u
  pub shallow : IsShallow reads.tokens

-- the source reads as a unit that breaks no rule and is this program, and the program exceeds no limit
pub record IsProgram (text : List ℕ) (p : Program) : Type 0 where
  pub unit : tree.Unit
  pub reads : IsUnit text unit
  pub good : judged_by_rules unit ≡ Good p
  pub within : first_excess unit p ≡ None

-- A source is refused for one of these causes. The length comes before all else, then the first lexeme that is refused, then the nesting, the grammar,
-- the rules and the limits.
pub data IsRefused (text : List ℕ) : Refusal → Type 0 where
  long_source : source_limit < length text → IsRefused text (counted refusals.length 0 (length text))
  long_name : (n : ℕ) (place : Place) → IsFirstRefused text (lexing.too_long n) place → IsRefused text (counted refusals.length 0 n)
  no_token : (place : Place) → IsFirstRefused text lexing.bad place → IsRefused text (at_place refusals.token place)
  unsupported : (place : Place) → IsFirstRefused text lexing.unsupported place → IsRefused text (at_place refusals.unsupported place)
  too_deep : (tokens : Tokens) (place : Place) → AreTokens text tokens.items tokens.end → IsTooDeep tokens place → IsRefused text (at_place refusals.nesting place)
  no_unit : (tokens : Tokens) (place : Place) → AreTokens text tokens.items tokens.end → IsBroken text tokens place → IsRefused text (at_place refusals.unit place)
  broken_rule : (u : tree.Unit) (place : Place) (rule : ℕ) → IsUnit text u → judged_by_rules u ≡ Broken place rule → IsRefused text (of_rule place rule)
  over_limit : (u : tree.Unit) (p : Program) (limit count : ℕ) → IsUnit text u → judged_by_rules u ≡ Good p →
      first_excess u p ≡ Some (record { limit = limit; count = count }) → IsRefused text (counted refusals.limit limit count)

-- ---- answers

-- the cause of each answer that is no program
abbrev pub IsCause : List ℕ → FrontError → Type 0
IsCause text (Refused r) = IsRefused text r
IsCause text (Memory e) = Unit {0}

-- the answer is this program, unless memory was wanting
abbrev pub HasProgram : Result Program FrontError → Program → Type 0
HasProgram (Ok q) p = q ≡ p
HasProgram (Err (Refused s)) p = ⊥
HasProgram (Err (Memory e)) p = Unit {0}

-- the answer is this refusal, unless memory was wanting
abbrev pub HasRefusal : Result Program FrontError → Refusal → Type 0
HasRefusal (Ok q) r = ⊥
HasRefusal (Err (Refused s)) r = s ≡ r
HasRefusal (Err (Memory e)) r = Unit {0}
