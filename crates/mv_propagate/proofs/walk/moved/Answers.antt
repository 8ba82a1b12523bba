use Rattle.std.proofs.Common.{◌∙◌, subst, sym}
use Rattle.std.proofs.lemmas.Bool.{ne_eqb}
use Rattle.mv_propagate.specs.Propagating.{Learned}
use Rattle.mv_propagate.specs.declared.facts.Leaf.TheVariants.{Temp}
use Rattle.mv_propagate.specs.declared.facts.Held.TheVariants.{Value}
use Rattle.mv_propagate.proofs.Walked.{moves, remains}
use Rattle.mv_propagate.proofs.walk.moved.Goals.{then-from-temp+in_ok-facts, else-from-temp+in_ok-facts-2}
use Rattle.mv_propagate.proofs.walk.moved.Goals as goal

pub returns : goal.returns
returns c r i l h has = elim c.if-from-temp.branch [
  | then-from-temp+in_ok-facts w ↦
      remains c.args.temps c.args.facts.now c.if-from-temp.facts c.args.temp c.args.from r i l h has c.if-temp-temps.false w.if-from-temp.true (w.facts-is ∙ w.in_ok-facts.ensures)
  | else-from-temp+in_ok-facts-2 w ↦
      moves c.args.temps c.args.facts.now c.if-from-temp.facts c.args.temp c.args.from r i l h has c.if-temp-temps.false c.if-from-temps.false
      (ne_eqb c.args.from c.args.temp w.if-from-temp.false)
      (subst (Learned c.args.temp (Value (Temp c.args.from)) c.args.facts.now) (sym w.facts-is)
      (subst (λ fs. Learned c.args.temp (Value (Temp c.args.from)) fs w.in_ok-facts-2.facts) w.as_slice.ensures w.in_ok-facts-2.ensures))
]
