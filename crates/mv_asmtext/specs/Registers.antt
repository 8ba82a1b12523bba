-- The names of the registers (RISC-V ELF psABI, "Register Convention").
use Rattle.std.specs.Prelude.{ℕ, ◌%◌, List, [], ◌∷◌, ◌++◌, codes, slice_index_or, Option, option_map}
use Rattle.std.specs.List.{position_from}
use Rattle.std.specs.Str.{bytes_eq}

-- the names of x0 to x15 in the calling convention
abbrev pub calling_low : List (List ℕ)
calling_low =
    codes "zero" ∷ codes "ra" ∷ codes "sp" ∷ codes "gp" ∷ codes "tp" ∷ codes "t0" ∷ codes "t1" ∷
    codes "t2" ∷ codes "s0" ∷ codes "s1" ∷ codes "a0" ∷ codes "a1" ∷ codes "a2" ∷ codes "a3" ∷
    codes "a4" ∷ codes "a5" ∷ []

-- the names of x16 to x31 in the calling convention
abbrev pub calling_high : List (List ℕ)
calling_high =
    codes "a6" ∷ codes "a7" ∷ codes "s2" ∷ codes "s3" ∷ codes "s4" ∷ codes "s5" ∷ codes "s6" ∷
    codes "s7" ∷ codes "s8" ∷ codes "s9" ∷ codes "s10" ∷ codes "s11" ∷ codes "t3" ∷ codes "t4" ∷
    codes "t5" ∷ codes "t6" ∷ []

-- the names of x0 to x15 by number
abbrev pub numbered_low : List (List ℕ)
numbered_low =
    codes "x0" ∷ codes "x1" ∷ codes "x2" ∷ codes "x3" ∷ codes "x4" ∷ codes "x5" ∷ codes "x6" ∷
    codes "x7" ∷ codes "x8" ∷ codes "x9" ∷ codes "x10" ∷ codes "x11" ∷ codes "x12" ∷ codes "x13" ∷
    codes "x14" ∷ codes "x15" ∷ []

-- the names of x16 to x31 by number
abbrev pub numbered_high : List (List ℕ)
numbered_high =
    codes "x16" ∷ codes "x17" ∷ codes "x18" ∷ codes "x19" ∷ codes "x20" ∷ codes "x21" ∷
    codes "x22" ∷ codes "x23" ∷ codes "x24" ∷ codes "x25" ∷ codes "x26" ∷ codes "x27" ∷
    codes "x28" ∷ codes "x29" ∷ codes "x30" ∷ codes "x31" ∷ []

abbrev pub calling_names : List (List ℕ)
calling_names = calling_low ++ calling_high

abbrev pub numbered_names : List (List ℕ)
numbered_names = numbered_low ++ numbered_high

abbrev pub register_names : List (List ℕ)
register_names = calling_names ++ numbered_names

unfoldable pub register_name : ℕ → List ℕ
register_name r = slice_index_or register_names r []

-- the number of the register that a word names
unfoldable pub register_named : List ℕ → Option ℕ
register_named word = option_map (λ i. i % 32) (position_from (λ name. bytes_eq name word) 0 register_names)
