-- The orders, which are commits and reverts, by their codes.
use Rattle.std.specs.Prelude.{ℕ, Bool, ◌||◌, nat_eq}

-- a commit of all functions and pointer switches
abbrev pub commit : ℕ
commit = 0

-- a revert of all functions and pointer switches
abbrev pub revert : ℕ
revert = 1

-- a commit of one function
abbrev pub commit_function : ℕ
commit_function = 2

-- a revert of one function
abbrev pub revert_function : ℕ
revert_function = 3

-- a commit of the functions that have one switch, or of one pointer switch
abbrev pub commit_references : ℕ
commit_references = 4

-- a revert of the functions that have one switch, or of one pointer switch
abbrev pub revert_references : ℕ
revert_references = 5

-- how many there are
abbrev pub count : ℕ
count = 6

-- whether an order is a commit
abbrev pub is_commit : ℕ → Bool
is_commit code = nat_eq code commit || (nat_eq code commit_function || nat_eq code commit_references)
