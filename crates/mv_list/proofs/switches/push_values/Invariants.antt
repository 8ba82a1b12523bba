use Rattle.std.proofs.Common.{◌≡◌, ◌++◌, drop}
use Rattle.mv_list.specs.Listing.{values_text}
use Rattle.mv_list.proofs.switches.push_values.Given as goal

abbrev pub invariant-loop-word : goal.invariant-loop-word
invariant-loop-word l = l.out.items ++ values_text l.kind (drop l.word-index l.words) ≡ l.initial.out.items ++ values_text l.kind l.words
