use Rattle.std.proofs.Common.{◌<◌, All, length}
use Rattle.mv_asm.proofs.Spread.{Spread}
use Rattle.mv_asm.proofs.spans.spread.Given as goal

abbrev pub invariant-work : goal.invariant-work
invariant-work l = record {
  spread : Spread l.lines l.initial.sizing l.sizing l.spans.items;
  waiting : All (λ number. number < length l.spans.items) l.waiting.items;
}
