use Rattle.std.proofs.Common.{refl, sym, ◌∙◌}
use Rattle.mv_lexer.specs.Reading as spec
use Rattle.mv_lexer.proofs.number.refuse_number.Goals as goal

pub returns-then-is_floating : goal.returns-then-is_floating
returns-then-is_floating c = (spec.floating c.requires.no_constant (sym c.is_floating.ensures ∙ c.if-is_floating.true), refl)

pub returns-else-is_floating : goal.returns-else-is_floating
returns-else-is_floating c = (spec.malformed c.requires.no_constant c.requires.no_long (sym c.is_floating.ensures ∙ c.if-is_floating.false), refl)
