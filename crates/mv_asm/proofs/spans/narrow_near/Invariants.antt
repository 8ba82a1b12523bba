use Rattle.std.proofs.Common.{◌≡◌, ℕ, ◌<◌, ◌≤◌, All, length, get_or}
use Rattle.mv_asm.specs.declared.spans.Span.{Span}
use Rattle.mv_asm.specs.Spans.{AreNarrowed}
use Rattle.mv_asm.proofs.spans.narrow_near.Given as goal

abbrev pub invariant-loop-near : goal.invariant-loop-near
invariant-loop-near l = record {
  narrowed : AreNarrowed l.item l.initial.spans l.spans;
  later : (k : ℕ) (d : Span) → l.near ≤ k → get_or l.spans k d ≡ get_or l.initial.spans k d;
  waiting : All (λ number. number < length l.spans) l.waiting.items;
}
