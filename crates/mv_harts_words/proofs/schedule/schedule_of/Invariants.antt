use Rattle.std.proofs.Common.{◌≡◌, ◌-◌, ◌++◌, replicate}
use Rattle.mv_gen.specs.Generated.{drawn}
use Rattle.mv_harts_words.specs.Schedules.{schedule_of}
use Rattle.mv_harts_words.proofs.schedule.schedule_of.Given as goal

abbrev pub invariant-loop-turn : goal.invariant-loop-turn
invariant-loop-turn l = record {
  word : l.word ≡ drawn l.number l.turn;
  turns : l.schedule.items ≡ schedule_of l.count l.number l.turn ++ replicate (l.turns - l.turn) 0;
}
