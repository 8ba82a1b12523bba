use Rattle.std.proofs.Common.{sym, ◌∙◌}
use Rattle.mv_select_code.specs.Trees.TreeCode.{literal}
use Rattle.mv_select_code.proofs.OfStatements.ElementPlaces.{fixed_is}
use Rattle.mv_select_code.proofs.statements.elements.push_write.Goals as goal

pub element_at-requires-clause-below : goal.element_at-requires-clause-below
element_at-requires-clause-below c = let h = fixed_is c.args.elements.size c.in-Some.n (literal c.args.index.now) (sym c.fixed.ensures ∙ c.in-Some.is) in h.1
