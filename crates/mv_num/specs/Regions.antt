-- The regions of the machine's memory: where each begins, and how many words it has at most. Each goes up to where the next one begins, but for text,
-- which ends earlier.
use Rattle.std.specs.Prelude.{ℕ, ◌+◌, ◌*◌}

abbrev pub text_start : ℕ
text_start = 0x0000_1000

abbrev pub text_limit : ℕ
text_limit = 131072

-- where text of as many words ends
abbrev pub text_end : ℕ
text_end = text_start + 4 * text_limit

abbrev pub data_start : ℕ
data_start = 0x0010_0000

abbrev pub data_limit : ℕ
data_limit = 262144

-- what gp has while a program runs: loads and stores reach the first 4,096 bytes of data by it
abbrev pub gp_value : ℕ
gp_value = 0x0010_0800

-- what tp has: by it they reach the next 4,096 bytes
abbrev pub tp_value : ℕ
tp_value = 0x0010_1800

abbrev pub stack_start : ℕ
stack_start = 0x0020_0000

abbrev pub stack_words : ℕ
stack_words = 524288

-- the area of plans, where the stack ends
abbrev pub plan_area : ℕ
plan_area = 0x0040_0000

-- the upper 20 bits of its address, which LUI takes
abbrev pub plan_upper : ℕ
plan_upper = 0x400

abbrev pub plan_words : ℕ
plan_words = 131072

abbrev pub plan_end : ℕ
plan_end = 0x0048_0000
