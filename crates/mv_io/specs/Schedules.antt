-- Which calls of an object in memory fail.
use Rattle.std.specs.Prelude.{ℕ, ◌+◌, ◌-◌, ◌^◌, ◌==◌, min, Bool, List, if◌then◌else◌}
use Rattle.std.specs.List.{list_any}

-- the numbers of the calls that fail, and how many calls and faults there were
pub record Schedule : Type 0 where
  pub failing : List ℕ
  pub calls : ℕ
  pub faults : ℕ

-- one more, in a counter of 64 bits that stops at its last value
abbrev pub counted : ℕ → ℕ
counted n = min (n + 1) (2 ^ 64 - 1)

-- nothing was called yet
abbrev pub unused : List ℕ → Schedule
unused failing = record { failing = failing; calls = 0; faults = 0 }

-- the next call is one of those that fail; the first call has the number 1
abbrev pub fails_next : Schedule → Bool
fails_next s = list_any (λ number. number == counted s.calls) s.failing

-- after one more call, which failed or not
abbrev pub called : Schedule → Bool → Schedule
called s failed = record { failing = s.failing; calls = counted s.calls; faults = if failed then counted s.faults else s.faults }
