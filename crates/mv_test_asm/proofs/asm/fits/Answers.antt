use Rattle.std.proofs.Common.{◌<◌, ℕ, List, length, get_or, below_more, subst, arith}
use Rattle.std.proofs.lemmas.List.{get_or_default}
use Rattle.mv_isa.specs.declared.labelled.Line.{Line}
use Rattle.mv_isa.specs.declared.labelled.Line.TheVariants.{Label}
use Rattle.mv_isa.specs.Code.{LineFits, TargetStands, line_at}
use Rattle.mv_test_asm.proofs.asm.fits.Goals as goal

item_fits : (lines : List Line) (k : ℕ) (d : Line) → k < length lines → LineFits (get_or lines k d) × TargetStands lines (get_or lines k d)
    → LineFits (line_at lines k) × TargetStands lines (line_at lines k)
item_fits lines k d l h = subst (λ line. LineFits line × TargetStands lines line) (get_or_default lines k d (Label 0) l) h

pub loop-line-preserved : goal.loop-line-preserved
loop-line-preserved c = below_more _ _ c.loop-line.invariant (item_fits _ _ _ c.loop-line-test.true (c.line_fits.ensures c.if-not-line_fits.false))

pub returns : goal.returns
returns c = λ e. record { fields = λ k l. (c.loop-line.invariant k (omega arith)).0; targets = λ k l. (c.loop-line.invariant k (omega arith)).1 }
