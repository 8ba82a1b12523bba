-- The registers by their names in the calling convention (RISC-V ELF psABI, "Register Convention"), those that definitions speak of. Register 0 goes by
-- its number, since `zero` is a number's name.
use Rattle.std.specs.Prelude.{ℕ}

-- reads 0, whatever is written
abbrev pub x0 : ℕ
x0 = 0

-- the return address
abbrev pub ra : ℕ
ra = 1

-- the stack pointer
abbrev pub sp : ℕ
sp = 2

-- the global pointer and the thread pointer
abbrev pub gp : ℕ
gp = 3

abbrev pub tp : ℕ
tp = 4

-- temporaries
abbrev pub t0 : ℕ
t0 = 5

abbrev pub t1 : ℕ
t1 = 6

abbrev pub t2 : ℕ
t2 = 7

-- the first saved register but for s0; s2 comes behind the arguments
abbrev pub s1 : ℕ
s1 = 9

-- the first argument, and the result
abbrev pub a0 : ℕ
a0 = 10

abbrev pub a1 : ℕ
a1 = 11

abbrev pub a2 : ℕ
a2 = 12

-- the number of an environment call
abbrev pub a7 : ℕ
a7 = 17

-- saved registers
abbrev pub s2 : ℕ
s2 = 18

abbrev pub s10 : ℕ
s10 = 26

abbrev pub s11 : ℕ
s11 = 27

-- temporaries
abbrev pub t3 : ℕ
t3 = 28

abbrev pub t4 : ℕ
t4 = 29
