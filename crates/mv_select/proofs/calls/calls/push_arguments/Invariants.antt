use Rattle.std.proofs.Common.{◌≡◌, ◌+◌, ◌++◌, drop}
use Rattle.mv_select_code.specs.Trees.TreeCode.{seats_at}
use Rattle.mv_select.specs.Calls.CallCode.{argument_lines}
use Rattle.mv_select.proofs.calls.calls.push_arguments.Given as goal

-- with the code of the arguments that are left it is the whole
abbrev pub invariant-loop-index : goal.invariant-loop-index
invariant-loop-index l =
    l.code ++ argument_lines (seats_at l.fn.places.rooms.now l.fn.places.keeping l.fn.places.pins.now) (10 + l.index)
    (drop l.index l.arguments) ≡ l.initial.code ++ argument_lines
    (seats_at l.fn.places.rooms.now l.fn.places.keeping l.fn.places.pins.now) 10 l.arguments
