use Rattle.std.proofs.Common.{◌≡◌, ◌++◌, drop}
use Rattle.mv_list.specs.Listing.{names_text}
use Rattle.mv_list.proofs.functions.push_names.Given as goal

abbrev pub invariant-loop-switch : goal.invariant-loop-switch
invariant-loop-switch l = l.out.items ++ names_text l.image (drop l.switch-index l.switches) ≡ l.initial.out.items ++ names_text l.image l.switches
