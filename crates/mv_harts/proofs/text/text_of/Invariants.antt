use Rattle.std.proofs.Common.{◌≡◌, ◌++◌, take}
use Rattle.mv_harts.specs.Texts.{texts_from}
use Rattle.mv_harts.proofs.TextsSame.{AreFaultless, rest_of}
use Rattle.mv_harts.proofs.text.text_of.Given as goal

abbrev pub invariant-loop-number : goal.invariant-loop-number
invariant-loop-number l = record {
  text : l.text.items ++ rest_of l.number l.«end».harts l.sinks ≡ texts_from 0 l.«end».harts l.sinks;
  faultless : AreFaultless (take l.number l.«end».harts);
}
