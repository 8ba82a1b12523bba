-- Branches with the stretches of code that they span.
use Rattle.std.specs.Prelude.{ℕ, ◌+◌, ◌-◌, ◌<◌, ◌≤◌, ◌≡◌, ◌⊎◌, List, length, slice_index_or}
use Rattle.mv_isa.specs.declared.labelled.Line.{Line}
use Rattle.mv_isa.specs.Code.{line_at, target_index, least_words, greatest_words, offset, place, InReach}
use Rattle.mv_asm.specs.declared.spans.Span.{Span}

-- a branch and the stretch of items between it and its label, under a sizing: where the stretch has `room` words more, the branch
-- doesn't reach
pub record IsSpan (lines : List Line) (sizing : List ℕ) (s : Span) : Type 0 where
  pub within : s.item < length lines
  pub least : least_words (line_at lines s.item) ≡ 1
  pub greatest : greatest_words (line_at lines s.item) ≡ 2
  pub ordered : s.start ≤ s.end
  pub far : (other : List ℕ) → s.room + offset sizing s.end + offset other s.start ≤ offset other s.end + offset sizing s.start
      → InReach (place other s.item) (place other (target_index lines (line_at lines s.item))) → ⊥

-- a branch at an offset and its label at another
abbrev pub IsSpanOf : ℕ → ℕ → ℕ → ℕ → Span → Type 0
IsSpanOf item target at to s =
    ((item < target) × (s ≡ record { item = item; start = item; end = target; room = at + 1024 - to }))
    ⊎ ((target ≤ item) × (s ≡ record { item = item; start = target; end = item; room = to + 1025 - at }))

-- a branch keeps its room, or loses a word of it where its stretch has an item
abbrev pub IsNarrowed : ℕ → Span → Span → Type 0
IsNarrowed item s t = (t ≡ s) ⊎ ((s.start ≤ item) × (item < s.end) × (0 < s.room) × (t ≡ record s { room = s.room - 1 }))

abbrev pub AreNarrowed : ℕ → List Span → List Span → Type 0
AreNarrowed item ss ts = (k : ℕ) (d : Span) → IsNarrowed item (slice_index_or ss k d) (slice_index_or ts k d)
