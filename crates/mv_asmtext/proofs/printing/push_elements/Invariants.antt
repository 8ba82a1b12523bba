use Rattle.std.proofs.Common.{◌≡◌, ◌++◌, drop}
use Rattle.mv_asmtext.specs.Printing.{elements_text}
use Rattle.mv_asmtext.proofs.printing.push_elements.Given as goal

abbrev pub invariant-loop-element : goal.invariant-loop-element
invariant-loop-element l = l.out.items ++ elements_text l.parts (drop l.element-index l.elements) ≡ l.initial.out.items ++ elements_text l.parts l.elements
