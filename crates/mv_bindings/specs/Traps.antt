-- The traps of a program by their codes, and the depth at which a call traps.
use Rattle.std.specs.Prelude.{ℕ}

-- a division by zero
abbrev pub division_by_zero : ℕ
division_by_zero = 1

-- an index outside the array
abbrev pub index_outside : ℕ
index_outside = 2

-- a call of a null pointer
abbrev pub null_call : ℕ
null_call = 3

-- a call at the greatest depth
abbrev pub call_too_deep : ℕ
call_too_deep = 4

-- the greatest depth: so many calls may be active, one inside the other, behind that of `main`
abbrev pub depth_limit : ℕ
depth_limit = 512
