-- The generated programs: for each number a text, drawn from the number by a linear congruence.
use Rattle.std.specs.Prelude.{ℕ, zero, suc, ◌+◌, ◌*◌, ◌/◌, ◌%◌, ◌^◌, ◌==◌, List, [], ◌++◌, codes, if◌then◌else◌}
use Rattle.std.specs.Fmt.{decimal}

-- ---- what is drawn

-- the word that follows a word
abbrev pub next : ℕ → ℕ
next x = (1664525 * x + 1013904223) % 2 ^ 32

-- the i-th word: the number itself comes first
unfoldable pub drawn : (number i : ℕ) → ℕ
drawn number zero = number
drawn number (suc i) = next (drawn number i)

-- how many functions besides `main` there are
abbrev pub functions : ℕ → ℕ
functions number = 8 + number % 29

-- the switch, the constant and the form of an expression, by the word for it
abbrev pub switch_of : ℕ → ℕ
switch_of x = x / 65536 % 4

abbrev pub constant_of : ℕ → ℕ
constant_of x = x / 256 % 256

abbrev pub form_of : ℕ → ℕ
form_of x = x / 16777216 % 4

-- ---- the text

abbrev pub sum_text : (switch constant : ℕ) → List ℕ
sum_text switch constant = codes "a + s" ++ (decimal switch ++ (codes " * " ++ decimal constant))

abbrev pub choice_text : (switch constant : ℕ) → List ℕ
choice_text switch constant = codes "s" ++ (decimal switch ++ (codes " ? a ^ " ++ (decimal constant ++ codes " : a")))

abbrev pub test_text : (switch constant : ℕ) → List ℕ
test_text switch constant = codes "s" ++ (decimal switch ++ (codes " == 2 ? a * 3 + " ++ (decimal constant ++ (codes " : a - " ++ decimal constant))))

-- an expression of the four forms
abbrev pub form_text : (form switch constant : ℕ) → List ℕ
form_text form switch constant =
    if form == 0 then sum_text switch constant else (
    if form == 1 then choice_text switch constant else (
    if form == 2 then test_text switch constant else
    codes "a"))

-- what the function for a word gives
unfoldable pub expression_text : ℕ → List ℕ
expression_text x = form_text (form_of x) (switch_of x) (constant_of x)

-- the line of the i-th function, for a word
unfoldable pub definition_line : (i x : ℕ) → List ℕ
definition_line i x = codes "__attribute__((multiverse)) int f" ++ (decimal i ++ (codes "(int a) { return " ++ (expression_text x ++ codes "; }\n")))

-- the line of `main` that calls the i-th function
unfoldable pub call_line : ℕ → List ℕ
call_line i = codes "    acc = f" ++ (decimal i ++ codes "(acc);\n")

-- so many of these lines, from the i-th function on
unfoldable pub definition_lines : (number i count : ℕ) → List ℕ
definition_lines number i zero = []
definition_lines number i (suc count) = definition_line i (drawn number (suc i)) ++ definition_lines number (suc i) count

unfoldable pub call_lines : (i count : ℕ) → List ℕ
call_lines i zero = []
call_lines i (suc count) = call_line i ++ call_lines (suc i) count

-- the lines before the functions
abbrev pub switch_lines : List ℕ
switch_lines =
    codes "#include <multiverse.h>\n" ++
    codes "__attribute__((multiverse(0, 1, 2, 3))) int s0, s1, s2, s3;\n"

-- those between the functions and the calls
abbrev pub loop_lines : List ℕ
loop_lines =
    codes "int acc;\n" ++
    codes "int main(void) {\n" ++
    codes "  int i;\n" ++
    codes "  for (i = 0; i < 1000; i++) {\n" ++
    codes "    if (i % 100 == 0) {\n" ++
    codes "      s0 = i / 100 & 3;\n" ++
    codes "      s1 = i / 200 & 3;\n" ++
    codes "      s2 = i / 300 & 3;\n" ++
    codes "      s3 = i / 400 & 3;\n" ++
    codes "      multiverse_commit();\n" ++
    codes "    }\n"

-- and those behind the calls
abbrev pub last_lines : List ℕ
last_lines =
    codes "  }\n" ++
    codes "  putchar(65 + (acc & 15));\n" ++
    codes "  putchar(10);\n" ++
    codes "  return 0;\n" ++
    codes "}\n"

unfoldable pub generated : ℕ → List ℕ
generated number =
    switch_lines ++ (definition_lines number 0 (functions number) ++ (loop_lines ++ (call_lines 0 (functions number) ++ last_lines)))
