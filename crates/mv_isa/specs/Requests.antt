-- The environment calls by their numbers, which a7 has at an ECALL. The argument and the answer stand in a0.
use Rattle.std.specs.Prelude.{ℕ}

-- the run ends, with an exit status
abbrev pub exit : ℕ
exit = 0

-- a byte of the input
abbrev pub read : ℕ
read = 1

-- a byte of the output
abbrev pub write : ℕ
write = 2

-- the run ends, with the code of a trap
abbrev pub trap : ℕ
trap = 3

-- the plan of an order
abbrev pub plan : ℕ
plan = 4

-- a poll, and its plan
abbrev pub poll : ℕ
poll = 5
