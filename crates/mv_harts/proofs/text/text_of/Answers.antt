use Rattle.std.proofs.Common.{◌≡◌, ◌<◌, ◌≤◌, ◌∙◌, false, List, get_or, length, refl, subst, sym, arith}
use Rattle.std.proofs.lemmas.List.{take_all}
use Rattle.std.proofs.lemmas.List.Elements.{All-more}
use Rattle.mv_harts.specs.declared.ends.HartEnd.{HartEnd}
use Rattle.mv_harts.specs.Ends.{is_fault}
use Rattle.mv_harts.proofs.TextsSame.{AreFaultless, lines_more, rest_none}
use Rattle.mv_harts.proofs.text.text_of.Goals as goal

pub loop-number-preserved : goal.loop-number-preserved
loop-number-preserved c =
    let ends = c.args.end.now.harts in
    let i = c.loop-number.number in
    let hart = c.hart-item.result in
    let items : c.as_slice-hart-items.result.now ≡ ends = c.as_slice-hart-items.ensures in
    let here : i < length ends = subst (λ (xs : List HartEnd). i < length xs) items c.loop-number-test.true in
    let is : hart ≡ get_or ends i hart = subst (λ (xs : List HartEnd). hart ≡ get_or xs i hart) items c.hart-item.is in
    let there : i < length c.args.sinks.now = omega (arith, here, c.requires) in
    record {
      text = lines_more i ends c.args.sinks.now hart c.index-sinks-number.result c.loop-number.text.items c.push_hart.new.text.items c.bytes.result.now hart.stop here there is c.index-sinks-number.is refl
          c.bytes.ensures c.in_ok-push_hart.ensures c.loop-number.invariant.text;
      faultless = All-more (λ (h : HartEnd). is_fault h.stop ≡ false) ends i hart here c.loop-number.invariant.faultless
          (subst (λ (h : HartEnd). is_fault h.stop ≡ false) is (sym c.is_fault.ensures ∙ c.if-is_fault.false));
    }

pub returns-clause-text : goal.returns-clause-text
returns-clause-text c =
    let past : length c.args.end.now.harts ≤ c.loop-number.number = subst (λ (xs : List HartEnd). length xs ≤ c.loop-number.number) c.as_slice-hart-items.ensures c.loop-number-test.false in
    rest_none c.loop-number.number c.args.end.now.harts c.args.sinks.now c.loop-number.text.items past c.loop-number.invariant.text

pub returns-clause-faultless : goal.returns-clause-faultless
returns-clause-faultless c =
    let past : length c.args.end.now.harts ≤ c.loop-number.number = subst (λ (xs : List HartEnd). length xs ≤ c.loop-number.number) c.as_slice-hart-items.ensures c.loop-number-test.false in
    subst AreFaultless (take_all c.loop-number.number c.args.end.now.harts past) c.loop-number.invariant.faultless
