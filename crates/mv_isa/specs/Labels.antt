-- The labels of the stubs and of the entries of functions, which all code of a program may name. Those of the stubs are the greatest numbers that labels
-- have.
use Rattle.std.specs.Prelude.{ℕ, ◌+◌}

-- the label of the entry of a function
abbrev pub entry_label : ℕ → ℕ
entry_label f = 2147483648 + f

-- the label of the stub of a trap, 1 to 4
abbrev pub trap_label : ℕ → ℕ
trap_label c = 4294967289 + c

-- the label of the stub that tests the pointer of a call through a pointer switch, and whether a call is left
abbrev pub check_label : ℕ
check_label = 4294967294

-- the label of the stub that carries out orders and polls
abbrev pub commit_label : ℕ
commit_label = 4294967295
