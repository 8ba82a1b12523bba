use Rattle.std.proofs.Common.{◌≡◌, ◌+◌, ◌-◌, refl, sym, ◌∙◌, subst, arith}
use Rattle.std.specs.Fn.{iterate}
use Rattle.mv_select.proofs.OfFunctions.Pins.{few_pins}
use Rattle.mv_select.proofs.OfFunctions.PinsChosen.{AreFew, none_few, heaviest_few, turns_begin, turn_on, turns_end}
use Rattle.mv_select.specs.Functions.Pins.{pin_heaviest, chosen}
use Rattle.mv_select.proofs.pins.chosen.Goals as goal

pub loop-turn-init : goal.loop-turn-init
loop-turn-init c = (
  subst (AreFew c.args.keeping c.args.first c.args.room) (sym c.new-pins.ensures) (none_few c.args.keeping c.args.first c.args.room),
  turns_begin c.args.keeping c.args.first c.args.room c.args.all.now 9 c.new-pins.result refl c.new-pins.ensures,
)

pub push_heaviest-requires-clause-few : goal.push_heaviest-requires-clause-few
push_heaviest-requires-clause-few c = omega (arith, few_pins c.args.keeping c.args.first c.loop-turn.pins c.loop-turn.invariant.0.stand)

pub loop-turn-preserved : goal.loop-turn-preserved
loop-turn-preserved c =
    let k = c.args.keeping in
    let first = c.args.first in
    let room = c.args.room in
    let all = c.args.all.now in
    subst (λ ps. AreFew k first room ps × (iterate (pin_heaviest k first room all) (9 - (c.loop-turn._turn + 1)) ps ≡ chosen k first room all)) (sym c.in_ok-push_heaviest.ensures) (
      heaviest_few k first room all c.loop-turn.pins c.loop-turn.invariant.0,
      turn_on (pin_heaviest k first room all) c.loop-turn._turn c.loop-turn.pins c.loop-turn-test.true ∙ c.loop-turn.invariant.1,
    )

pub returns : goal.returns
returns c = sym (turns_end (pin_heaviest c.args.keeping c.args.first c.args.room c.args.all.now) c.loop-turn._turn c.loop-turn.pins c.loop-turn-test.false) ∙ c.loop-turn.invariant.1
