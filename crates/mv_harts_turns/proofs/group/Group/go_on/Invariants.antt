use Rattle.std.proofs.Common.{ℕ, ◌≡◌, ◌≤◌, List, take, vec_len}
use Rattle.mv_bindings.specs.declared.action.Action.{Action}
use Rattle.mv_image.specs.Spelling.{Fields}
use Rattle.mv_harts_turns.specs.Groups.{HaveExecuted}
use Rattle.mv_harts_turns.specs.Runs.{AlwaysFetch, Outside, Ran}
use Rattle.mv_harts_turns.proofs.group.Group.go_on.Given as goal

abbrev pub invariant-loop-time : goal.invariant-loop-time
invariant-loop-time g l =
    let was = l.initial.oracle in
    let is = l.oracle in
    record {
      since : l.first ≤ l.time;
      others : vec_len l.self.others ≡ vec_len l.initial.self.others;
      executed : HaveExecuted l.self l.time;
      goes : (image : Fields) (actions : List Action) (count : ℕ) (start before : Outside) → AlwaysFetch image actions count start l.schedule → before.way ≡ (goal.FetchOracle-dyn g (was.vtable, was.value)).way was.value →
          Ran image actions count (take l.first l.schedule) start before l.initial.self →
          Ran image actions count (take l.time l.schedule) start (record before { way = (goal.FetchOracle-dyn g (is.vtable, is.value)).way is.value }) l.self;
    }
