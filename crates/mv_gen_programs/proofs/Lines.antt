-- The parts of generated texts, line by line.
use Rattle.std.proofs.Common.{ℕ, zero, suc, List, [], ◌∷◌, ◌++◌}
use Rattle.std.specs.Prelude.{codes}
use Rattle.std.specs.Fmt.{decimal}
use Rattle.mv_gen.specs.Generated.{drawn, functions, switch_of, constant_of, form_of}
use Rattle.mv_gen_programs.proofs.Parts.{Part, blank, word, name, number, sign}

abbrev pub function_name : ℕ → List ℕ
function_name i = codes "f" ++ decimal i

abbrev pub switch_name : ℕ → List ℕ
switch_name j = codes "s" ++ decimal j

abbrev pub space : Part
space = blank 32

abbrev pub feed : Part
feed = blank 10

-- so many spaces in front
abbrev pub indented : ℕ → List Part → List Part
indented zero xs = xs
indented (suc n) xs = space ∷ indented n xs

-- `__attribute__((multiverse(0, 1, 2, 3))) int s0, s1, s2, s3;`
abbrev pub switch_parts : List Part
switch_parts =
    word 21 ∷ sign 0 ∷ sign 0 ∷ name (codes "multiverse") ∷ sign 0 ∷ number 0 ∷ sign 7 ∷ space ∷ number 1 ∷ sign 7 ∷ space ∷ number 2 ∷ sign 7 ∷ space ∷ number 3
    ∷ sign 1 ∷ sign 1 ∷ sign 1 ∷ space ∷ word 12 ∷ space ∷ name (codes "s0") ∷ sign 7 ∷ space ∷ name (codes "s1") ∷ sign 7 ∷ space ∷ name (codes "s2") ∷ sign 7 ∷ space
    ∷ name (codes "s3") ∷ sign 6 ∷ feed ∷ []

-- ---- functions

abbrev pub argument : Part
argument = name (codes "a")

abbrev pub sum_parts : (switch constant : ℕ) → List Part
sum_parts j c = argument ∷ space ∷ sign 12 ∷ space ∷ name (switch_name j) ∷ space ∷ sign 14 ∷ space ∷ number c ∷ []

abbrev pub choice_parts : (switch constant : ℕ) → List Part
choice_parts j c =
    name (switch_name j) ∷ space ∷ sign 9 ∷ space ∷ argument ∷ space ∷ sign 19 ∷ space ∷ number c ∷ space ∷ sign 8 ∷ space ∷ argument ∷ []

abbrev pub test_parts : (switch constant : ℕ) → List Part
test_parts j c =
    name (switch_name j) ∷ space ∷ sign 29 ∷ space ∷ number 2 ∷ space ∷ sign 9 ∷ space ∷ argument ∷ space ∷ sign 14 ∷ space ∷ number 3 ∷ space ∷ sign 12 ∷ space ∷ number c
    ∷ space ∷ sign 8 ∷ space ∷ argument ∷ space ∷ sign 13 ∷ space ∷ number c ∷ []

abbrev pub form_parts : (form switch constant : ℕ) → List Part
form_parts zero j c = sum_parts j c
form_parts (suc zero) j c = choice_parts j c
form_parts (suc (suc zero)) j c = test_parts j c
form_parts (suc (suc (suc f))) j c = argument ∷ []

-- `__attribute__((multiverse)) int fI(int a) { return E; }`
abbrev pub definition_parts : (i form switch constant : ℕ) → List Part
definition_parts i f j c =
    word 21 ∷ sign 0 ∷ sign 0 ∷ name (codes "multiverse") ∷ sign 1 ∷ sign 1 ∷ space ∷ word 12 ∷ space ∷ name (function_name i) ∷ sign 0 ∷ word 12 ∷ space ∷ argument ∷ sign 1
    ∷ space ∷ sign 4 ∷ space ∷ word 13 ∷ space ∷ (form_parts f j c ++ (sign 6 ∷ space ∷ sign 5 ∷ feed ∷ []))

-- of the i-th function, for a word
abbrev pub drawn_parts : (i x : ℕ) → List Part
drawn_parts i x = definition_parts i (form_of x) (switch_of x) (constant_of x)

unfoldable pub definitions_parts : (seed i count : ℕ) → List Part
definitions_parts seed i zero = []
definitions_parts seed i (suc count) = drawn_parts i (drawn seed (suc i)) ++ definitions_parts seed (suc i) count

-- ---- main

-- `int acc;`
abbrev pub object_parts : List Part
object_parts = word 12 ∷ space ∷ name (codes "acc") ∷ sign 6 ∷ feed ∷ []

-- up to the block of `main`
abbrev pub head_parts : List Part
head_parts = word 12 ∷ space ∷ name (codes "main") ∷ sign 0 ∷ word 19 ∷ sign 1 ∷ space ∷ []

-- `int i;`
abbrev pub local_parts : List Part
local_parts = indented 2 (word 12 ∷ space ∷ name (codes "i") ∷ sign 6 ∷ feed ∷ [])

-- up to the block of the loop
abbrev pub loop_parts : List Part
loop_parts =
    indented 2 (word 10 ∷ space ∷ sign 0 ∷ name (codes "i") ∷ space ∷ sign 22 ∷ space ∷ number 0 ∷ sign 6 ∷ space ∷ name (codes "i") ∷ space ∷ sign 20 ∷ space ∷ number 1000 ∷ sign 6
    ∷ space ∷ name (codes "i") ∷ sign 23 ∷ sign 1 ∷ space ∷ [])

-- `sJ = i / N & 3;`
abbrev pub store_parts : List ℕ → ℕ → List Part
store_parts s n =
    indented 6 (name s ∷ space ∷ sign 22 ∷ space ∷ name (codes "i") ∷ space ∷ sign 15 ∷ space ∷ number n ∷ space ∷ sign 17 ∷ space ∷ number 3 ∷ sign 6 ∷ feed ∷ [])

-- up to the statements of the `if`
abbrev pub if_parts : List Part
if_parts =
    indented 4 (word 11 ∷ space ∷ sign 0 ∷ name (codes "i") ∷ space ∷ sign 16 ∷ space ∷ number 100 ∷ space ∷ sign 29 ∷ space ∷ number 0 ∷ sign 1 ∷ space ∷ sign 4 ∷ feed ∷ [])

-- the commit, and the end of the `if`
abbrev pub end_parts : List Part
end_parts = indented 6 (name (codes "multiverse_commit") ∷ sign 0 ∷ sign 1 ∷ sign 6 ∷ feed ∷ indented 4 (sign 5 ∷ feed ∷ []))

-- the `if` and its block
abbrev pub commit_parts : List Part
commit_parts =
    if_parts ++ (store_parts (codes "s0") 100 ++ (store_parts (codes "s1") 200 ++ (store_parts (codes "s2") 300 ++ (store_parts (codes "s3") 400 ++ end_parts))))

-- `acc = fI(acc);`
abbrev pub call_parts : ℕ → List Part
call_parts i =
    indented 4 (name (codes "acc") ∷ space ∷ sign 22 ∷ space ∷ name (function_name i) ∷ sign 0 ∷ name (codes "acc") ∷ sign 1 ∷ sign 6 ∷ feed ∷ [])

unfoldable pub calls_parts : (i count : ℕ) → List Part
calls_parts i zero = []
calls_parts i (suc count) = call_parts i ++ calls_parts (suc i) count

-- the end of the loop
abbrev pub close_parts : List Part
close_parts = indented 2 (sign 5 ∷ feed ∷ [])

abbrev pub output_parts : List Part
output_parts =
    indented 2 (name (codes "putchar") ∷ sign 0 ∷ number 65 ∷ space ∷ sign 12 ∷ space ∷ sign 0 ∷ name (codes "acc") ∷ space ∷ sign 17 ∷ space ∷ number 15 ∷ sign 1 ∷ sign 1 ∷ sign 6 ∷ feed ∷ [])

abbrev pub feed_parts : List Part
feed_parts = indented 2 (name (codes "putchar") ∷ sign 0 ∷ number 10 ∷ sign 1 ∷ sign 6 ∷ feed ∷ [])

abbrev pub return_parts : List Part
return_parts = indented 2 (word 13 ∷ space ∷ number 0 ∷ sign 6 ∷ feed ∷ [])

-- between the functions and the calls
abbrev pub before_parts : List Part
before_parts = object_parts ++ (head_parts ++ (sign 4 ∷ feed ∷ (local_parts ++ (loop_parts ++ (sign 4 ∷ feed ∷ commit_parts)))))

-- behind the calls
abbrev pub after_parts : List Part
after_parts = close_parts ++ (output_parts ++ (feed_parts ++ (return_parts ++ (sign 5 ∷ feed ∷ []))))

-- behind the include line
abbrev pub unit_parts : ℕ → List Part
unit_parts seed =
    feed ∷ (switch_parts ++ (definitions_parts seed 0 (functions seed) ++ (before_parts ++ (calls_parts 0 (functions seed) ++ after_parts))))
