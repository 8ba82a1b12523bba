-- The parts of generated texts fit, and they are the text.
use Rattle.std.proofs.Common.{◌≡◌, ℕ, zero, suc, ◌+◌, ◌-◌, ◌/◌, ◌%◌, ◌<◌, ◌≤◌, Bool, true, false, List, [], ◌∷◌, ◌++◌, length, refl, sym, ap, ◌∙◌, inl, inr, arith, append_assoc}
use Rattle.std.specs.Prelude.{◌&&◌, ◌==◌, ◌⊎◌, codes, nat_lt, nat_le, if◌then◌else◌}
use Rattle.std.specs.Fmt.{decimal, digits}
use Rattle.std.specs.Cmp.Lexicographic.{same_text}
use Rattle.std.proofs.lemmas.Bool.{and_parts, and_from, cases_lt}
use Rattle.std.proofs.lemmas.Bool.Decides.{nat_tests}
use Rattle.mv_gen.specs.Generated.{drawn, functions, switch_of, constant_of, form_of, form_text, expression_text, definition_line, definition_lines, call_line, call_lines, switch_lines, loop_lines, last_lines, generated}
use Rattle.mv_gen_programs.proofs.Parts.{Part, blank, sign, bytes, texts, word_fits, is_name, is_decimal, is_constant, is_number, sign_fits, fits, first, all_fit}
use Rattle.mv_gen_programs.proofs.Lines.{function_name, switch_name, feed, switch_parts, object_parts, head_parts, local_parts, loop_parts, if_parts, store_parts, end_parts, definition_parts, drawn_parts, definitions_parts, before_parts, call_parts, calls_parts, after_parts, unit_parts}
use Rattle.mv_check_outline.specs.Names.{same_name}

-- ---- finitely many numbers

abbrev pub all_below : (ℕ → Bool) → ℕ → Bool
all_below p zero = true
all_below p (suc n) = p n && all_below p n

last_or : (i n : ℕ) → i < suc n → (i ≡ n) ⊎ (i < n)
last_or i n h = elim (cases_lt i n) [ inl less ↦ inr less | inr more ↦ inl (omega arith) ]

pub holds_below : (p : ℕ → Bool) (n : ℕ) → all_below p n ≡ true → (i : ℕ) → i < n → p i ≡ true
holds_below p zero all i lt = absurd (omega arith)
holds_below p (suc n) all i lt =
    let parts = and_parts (p n) (all_below p n) all in
    elim (last_or i n lt) [ inl e ↦ ap p e ∙ parts.0 | inr less ↦ holds_below p n parts.1 i less ]

-- a number below 1,000 in decimal
abbrev small : ℕ → List ℕ
small n =
    if nat_lt n 10 then (48 + n) ∷ []
    else if nat_lt n 100 then (48 + n / 10) ∷ (48 + n % 10) ∷ []
    else (48 + n / 100) ∷ (48 + n / 10 % 10) ∷ (48 + n % 10) ∷ []

-- a test of so many numbers from one on
abbrev tested : (ℕ → Bool) → (start count : ℕ) → Bool
tested p start count = all_below (λ k. p (start + k)) count

abbrev is_small : ℕ → Bool
is_small n = same_name (decimal n) (small n)

small_0 : tested is_small 0 64 ≡ true
unfolding digits
small_0 = refl

small_1 : tested is_small 64 64 ≡ true
unfolding digits
small_1 = refl

small_2 : tested is_small 128 64 ≡ true
unfolding digits
small_2 = refl

small_3 : tested is_small 192 64 ≡ true
unfolding digits
small_3 = refl

abbrev is_small_constant : ℕ → Bool
is_small_constant n = is_decimal (small n) n && nat_le (length (small n)) 63

constant_0 : tested is_small_constant 0 64 ≡ true
constant_0 = refl

constant_1 : tested is_small_constant 64 64 ≡ true
constant_1 = refl

constant_2 : tested is_small_constant 128 64 ≡ true
constant_2 = refl

constant_3 : tested is_small_constant 192 64 ≡ true
constant_3 = refl

-- what holds in four quarters
quarters : (p : ℕ → Bool) → tested p 0 64 ≡ true → tested p 64 64 ≡ true → tested p 128 64 ≡ true → tested p 192 64 ≡ true → (n : ℕ) → n < 256 → p n ≡ true
quarters p a b c d n h =
    elim (cases_lt n 64) [
      | inl l ↦ at 0 a (omega arith) (omega arith)
      | inr m ↦ elim (cases_lt n 128) [
        | inl l ↦ at 64 b (omega arith) (omega arith)
        | inr m' ↦ elim (cases_lt n 192) [
          | inl l ↦ at 128 c (omega arith) (omega arith)
          | inr m'' ↦ at 192 d (omega arith) (omega arith)
        ]
      ]
    ]
  where
    at : (start : ℕ) → tested p start 64 ≡ true → start ≤ n → n < start + 64 → p n ≡ true
    at start h low high =
        let e : start + (n - start) ≡ n = omega arith in
        ap p (sym e) ∙ holds_below (λ k. p (start + k)) 64 h (n - start) (omega arith)

pub small_decimal : (n : ℕ) → n < 256 → decimal n ≡ small n
small_decimal n h = same_text (decimal n) (small n) (sym (quarters is_small small_0 small_1 small_2 small_3 n h))

function_names : all_below (λ i. is_name (codes "f" ++ small i)) 40 ≡ true
unfolding is_name
function_names = refl

switch_names : all_below (λ j. is_name (codes "s" ++ small j)) 4 ≡ true
unfolding is_name
switch_names = refl

-- ---- names and numbers

function_named : (i : ℕ) → i < 40 → is_name (function_name i) ≡ true
function_named i h =
    ap (λ (t : List ℕ). is_name (codes "f" ++ t)) (small_decimal i (omega arith)) ∙ holds_below (λ i. is_name (codes "f" ++ small i)) 40 function_names i h

switch_named : (j : ℕ) → j < 4 → is_name (switch_name j) ≡ true
switch_named j h =
    ap (λ (t : List ℕ). is_name (codes "s" ++ t)) (small_decimal j (omega arith)) ∙ holds_below (λ j. is_name (codes "s" ++ small j)) 4 switch_names j h

numbered : (c : ℕ) → c < 256 → is_number c ≡ true
unfolding is_number is_constant
numbered c h =
    ap (λ (t : List ℕ). is_decimal t c && nat_le (length t) 63) (small_decimal c h)
    ∙ quarters is_small_constant constant_0 constant_1 constant_2 constant_3 c h

named_multiverse : is_name (codes "multiverse") ≡ true
unfolding is_name
named_multiverse = refl

named_argument : is_name (codes "a") ≡ true
unfolding is_name
named_argument = refl

named_object : is_name (codes "acc") ≡ true
unfolding is_name
named_object = refl

-- ---- lines

pub definition_fits : (i f j c next : ℕ) → i < 40 → j < 4 → c < 256 → all_fit (definition_parts i f j c) next ≡ true
unfolding word_fits sign_fits
definition_fits i zero j c next hi hj hc =
    let a : is_name (function_name i) ≡ true = function_named i hi in
    let b : is_name (switch_name j) ≡ true = switch_named j hj in
    let d : is_number c ≡ true = numbered c hc in
    simp (a, b, d, named_multiverse, named_argument)
definition_fits i (suc zero) j c next hi hj hc =
    let a : is_name (function_name i) ≡ true = function_named i hi in
    let b : is_name (switch_name j) ≡ true = switch_named j hj in
    let d : is_number c ≡ true = numbered c hc in
    simp (a, b, d, named_multiverse, named_argument)
definition_fits i (suc (suc zero)) j c next hi hj hc =
    let a : is_name (function_name i) ≡ true = function_named i hi in
    let b : is_name (switch_name j) ≡ true = switch_named j hj in
    let d : is_number c ≡ true = numbered c hc in
    let e : is_number 2 ≡ true = numbered 2 (omega arith) in
    let g : is_number 3 ≡ true = numbered 3 (omega arith) in
    simp (a, b, d, e, g, named_multiverse, named_argument)
definition_fits i (suc (suc (suc f))) j c next hi hj hc =
    let a : is_name (function_name i) ≡ true = function_named i hi in
    simp (a, named_multiverse, named_argument)

pub call_fits : (i next : ℕ) → i < 40 → all_fit (call_parts i) next ≡ true
unfolding word_fits sign_fits
call_fits i next hi =
    let a : is_name (function_name i) ≡ true = function_named i hi in
    simp (a, named_object)

switch_fits : (next : ℕ) → all_fit switch_parts next ≡ true
unfolding word_fits is_name is_number is_constant sign_fits digits
switch_fits next = refl

fits_head : (next : ℕ) → all_fit (object_parts ++ (head_parts ++ (sign 4 ∷ feed ∷ local_parts))) next ≡ true
unfolding word_fits is_name sign_fits
fits_head next = refl

fits_loop : (next : ℕ) → all_fit (loop_parts ++ (sign 4 ∷ feed ∷ [])) next ≡ true
unfolding word_fits is_name is_number is_constant sign_fits digits
fits_loop next = refl

fits_if : (next : ℕ) → all_fit if_parts next ≡ true
unfolding word_fits is_name is_number is_constant sign_fits digits
fits_if next = refl

fits_store_0 : (next : ℕ) → all_fit (store_parts (codes "s0") 100) next ≡ true
unfolding word_fits is_name is_number is_constant sign_fits digits
fits_store_0 next = refl

fits_store_1 : (next : ℕ) → all_fit (store_parts (codes "s1") 200) next ≡ true
unfolding word_fits is_name is_number is_constant sign_fits digits
fits_store_1 next = refl

fits_store_2 : (next : ℕ) → all_fit (store_parts (codes "s2") 300) next ≡ true
unfolding word_fits is_name is_number is_constant sign_fits digits
fits_store_2 next = refl

fits_store_3 : (next : ℕ) → all_fit (store_parts (codes "s3") 400) next ≡ true
unfolding word_fits is_name is_number is_constant sign_fits digits
fits_store_3 next = refl

fits_commit : (next : ℕ) → all_fit end_parts next ≡ true
unfolding word_fits is_name sign_fits
fits_commit next = refl

after_fits : (next : ℕ) → all_fit after_parts next ≡ true
unfolding word_fits is_name is_number is_constant sign_fits digits
after_fits next = refl

-- ---- all together

first_append : (xs ys : List Part) (next : ℕ) → first (xs ++ ys) next ≡ first xs (first ys next)
first_append [] ys next = refl
first_append (x ∷ xs) ys next = refl

pub fit_append : (xs ys : List Part) (next : ℕ) → all_fit xs (first ys next) ≡ true → all_fit ys next ≡ true → all_fit (xs ++ ys) next ≡ true
fit_append [] ys next h k = k
fit_append (x ∷ xs) ys next h k =
    let parts = and_parts (fits x (first xs (first ys next))) (all_fit xs (first ys next)) h in
    and_from (fits x (first (xs ++ ys) next)) (all_fit (xs ++ ys) next) (ap (fits x) (first_append xs ys next) ∙ parts.0) (fit_append xs ys next parts.1 k)

before_fits : (next : ℕ) → all_fit before_parts next ≡ true
before_fits next =
    let ends = end_parts in
    let third = store_parts (codes "s3") 400 ++ ends in
    let second = store_parts (codes "s2") 300 ++ third in
    let one = store_parts (codes "s1") 200 ++ second in
    let stores = store_parts (codes "s0") 100 ++ one in
    let a = fit_append (store_parts (codes "s3") 400) ends next (fits_store_3 (first ends next)) (fits_commit next) in
    let b = fit_append (store_parts (codes "s2") 300) third next (fits_store_2 (first third next)) a in
    let c = fit_append (store_parts (codes "s1") 200) second next (fits_store_1 (first second next)) b in
    let d = fit_append (store_parts (codes "s0") 100) one next (fits_store_0 (first one next)) c in
    let e = fit_append if_parts stores next (fits_if (first stores next)) d in
    let g = fit_append (loop_parts ++ (sign 4 ∷ feed ∷ [])) (if_parts ++ stores) next (fits_loop (first (if_parts ++ stores) next)) e in
    fit_append (object_parts ++ (head_parts ++ (sign 4 ∷ feed ∷ local_parts))) ((loop_parts ++ (sign 4 ∷ feed ∷ [])) ++ (if_parts ++ stores)) next
    (fits_head (first ((loop_parts ++ (sign 4 ∷ feed ∷ [])) ++ (if_parts ++ stores)) next)) g

definitions_fit : (seed i count next : ℕ) → i + count ≤ 40 → all_fit (definitions_parts seed i count) next ≡ true
unfolding definitions_parts
definitions_fit seed i zero next h = refl
definitions_fit seed i (suc count) next h =
    let x = drawn seed (suc i) in
    fit_append (drawn_parts i x) (definitions_parts seed (suc i) count) next
    (definition_fits i (form_of x) (switch_of x) (constant_of x) (first (definitions_parts seed (suc i) count) next) (omega arith) (omega arith) (omega arith))
    (definitions_fit seed (suc i) count next (omega arith))

calls_fit : (i count next : ℕ) → i + count ≤ 40 → all_fit (calls_parts i count) next ≡ true
unfolding calls_parts
calls_fit i zero next h = refl
calls_fit i (suc count) next h =
    fit_append (call_parts i) (calls_parts (suc i) count) next (call_fits i (first (calls_parts (suc i) count) next) (omega arith)) (calls_fit (suc i) count next (omega arith))

few_functions : (seed : ℕ) → 0 + functions seed ≤ 40
few_functions seed = omega arith

pub unit_fits : (seed : ℕ) → all_fit (unit_parts seed) 0 ≡ true
unit_fits seed =
    let f = functions seed in
    let calls = calls_parts 0 f ++ after_parts in
    let main = before_parts ++ calls in
    let definitions = definitions_parts seed 0 f ++ main in
    let a = fit_append (calls_parts 0 f) after_parts 0 (calls_fit 0 f (first after_parts 0) (few_functions seed)) (after_fits 0) in
    let b = fit_append before_parts calls 0 (before_fits (first calls 0)) a in
    let d = fit_append (definitions_parts seed 0 f) main 0 (definitions_fit seed 0 f (first main 0) (few_functions seed)) b in
    fit_append switch_parts definitions 0 (switch_fits (first definitions 0)) d

-- ---- the text

pub texts_append : (xs ys : List Part) → texts (xs ++ ys) ≡ texts xs ++ texts ys
texts_append [] ys = refl
texts_append (x ∷ xs) ys = ap (λ (t : List ℕ). bytes x ++ t) (texts_append xs ys) ∙ sym (append_assoc (bytes x) (texts xs) (texts ys))

two : decimal 2 ≡ 50 ∷ []
unfolding digits
two = refl

three : decimal 3 ≡ 51 ∷ []
unfolding digits
three = refl

other_number : (n k : ℕ) → k < n → (n == k) ≡ false
other_number n k h = grind (arith, nat_tests)

form_line : (i f j c : ℕ) →
    texts (definition_parts i f j c) ≡ codes "__attribute__((multiverse)) int f" ++ (decimal i ++ (codes "(int a) { return " ++ (form_text f j c ++ codes "; }\n")))
form_line i zero j c = simp append_assoc
form_line i (suc zero) j c = simp append_assoc
form_line i (suc (suc zero)) j c = simp (append_assoc, two, three)
form_line i (suc (suc (suc f))) j c =
    let a : (suc (suc (suc f)) == 0) ≡ false = other_number (suc (suc (suc f))) 0 (omega arith) in
    let b : (suc (suc (suc f)) == 1) ≡ false = other_number (suc (suc (suc f))) 1 (omega arith) in
    let d : (suc (suc (suc f)) == 2) ≡ false = other_number (suc (suc (suc f))) 2 (omega arith) in
    rw (a, b, d) (simp append_assoc)

drawn_line : (i x : ℕ) → texts (drawn_parts i x) ≡ definition_line i x
unfolding definition_line expression_text
drawn_line i x = form_line i (form_of x) (switch_of x) (constant_of x)

definitions_text : (seed i count : ℕ) → texts (definitions_parts seed i count) ≡ definition_lines seed i count
unfolding definitions_parts definition_lines
definitions_text seed i zero = refl
definitions_text seed i (suc count) =
    let x = drawn seed (suc i) in
    texts_append (drawn_parts i x) (definitions_parts seed (suc i) count)
    ∙ (ap (λ (t : List ℕ). t ++ texts (definitions_parts seed (suc i) count)) (drawn_line i x)
    ∙ ap (λ (t : List ℕ). definition_line i x ++ t) (definitions_text seed (suc i) count))

called_line : (i : ℕ) → texts (call_parts i) ≡ call_line i
unfolding call_line
called_line i = simp append_assoc

calls_text : (i count : ℕ) → texts (calls_parts i count) ≡ call_lines i count
unfolding calls_parts call_lines
calls_text i zero = refl
calls_text i (suc count) =
    texts_append (call_parts i) (calls_parts (suc i) count)
    ∙ (ap (λ (t : List ℕ). t ++ texts (calls_parts (suc i) count)) (called_line i)
    ∙ ap (λ (t : List ℕ). call_line i ++ t) (calls_text (suc i) count))

abbrev pub include_bytes : List ℕ
include_bytes = codes "#include <multiverse.h>"

before_text : texts before_parts ≡ loop_lines
unfolding digits
before_text = refl

after_text : texts after_parts ≡ last_lines
unfolding digits
after_text = refl

switch_text : include_bytes ++ texts (blank 10 ∷ switch_parts) ≡ switch_lines
unfolding digits
switch_text = refl

pub unit_text : (seed : ℕ) → include_bytes ++ texts (unit_parts seed) ≡ generated seed
unfolding generated
unit_text seed =
    let f = functions seed in
    let d = definitions_parts seed 0 f in
    let e = calls_parts 0 f in
    let calls : texts (e ++ after_parts) ≡ call_lines 0 f ++ last_lines =
    texts_append e after_parts ∙ (ap (λ (t : List ℕ). t ++ texts after_parts) (calls_text 0 f) ∙ ap (λ (t : List ℕ). call_lines 0 f ++ t) after_text) in
    let main : texts (before_parts ++ (e ++ after_parts)) ≡ loop_lines ++ (call_lines 0 f ++ last_lines) =
    texts_append before_parts (e ++ after_parts)
    ∙ (ap (λ (t : List ℕ). t ++ texts (e ++ after_parts)) before_text ∙ ap (λ (t : List ℕ). loop_lines ++ t) calls) in
    let definitions : texts (d ++ (before_parts ++ (e ++ after_parts))) ≡ definition_lines seed 0 f ++ (loop_lines ++ (call_lines 0 f ++ last_lines)) =
    texts_append d (before_parts ++ (e ++ after_parts))
    ∙ (ap (λ (t : List ℕ). t ++ texts (before_parts ++ (e ++ after_parts))) (definitions_text seed 0 f)
    ∙ ap (λ (t : List ℕ). definition_lines seed 0 f ++ t) main) in
    ap (λ (t : List ℕ). include_bytes ++ t) (texts_append (blank 10 ∷ switch_parts) (d ++ (before_parts ++ (e ++ after_parts))))
    ∙ (sym (append_assoc include_bytes (texts (blank 10 ∷ switch_parts)) (texts (d ++ (before_parts ++ (e ++ after_parts)))))
    ∙ (ap (λ (t : List ℕ). t ++ texts (d ++ (before_parts ++ (e ++ after_parts)))) switch_text
    ∙ ap (λ (t : List ℕ). switch_lines ++ t) definitions))
