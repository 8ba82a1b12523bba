-- One more line of those for each function, and none.
use Rattle.std.proofs.Common.{◌≡◌, ℕ, suc, ◌+◌, ◌-◌, ◌<◌, ◌≤◌, List, [], ◌++◌, ap, ◌∙◌, append_assoc, arith}
use Rattle.mv_gen.specs.Generated.{next, drawn, definition_line, definition_lines, call_line, call_lines}

pub more_definitions : (number i n : ℕ) → i < n →
    definition_lines number i (n - i) ≡ definition_line i (next (drawn number i)) ++ definition_lines number (i + 1) (n - (i + 1))
unfolding definition_lines drawn
more_definitions number i n h =
    let left : n - i ≡ suc (n - (i + 1)) = omega arith in
    let on : suc i ≡ i + 1 = omega arith in
    ap (definition_lines number i) left ∙ ap (λ k. definition_line i (next (drawn number i)) ++ definition_lines number k (n - (i + 1))) on

pub no_definitions : (number i n : ℕ) → n ≤ i → definition_lines number i (n - i) ≡ []
unfolding definition_lines
no_definitions number i n h = let none : n - i ≡ 0 = omega arith in ap (definition_lines number i) none

-- the word of the next function
pub drawn_more : (number i : ℕ) → drawn number (i + 1) ≡ next (drawn number i)
unfolding drawn
drawn_more number i = let on : i + 1 ≡ suc i = omega arith in ap (drawn number) on

pub more_calls : (i n : ℕ) → i < n → call_lines i (n - i) ≡ call_line i ++ call_lines (i + 1) (n - (i + 1))
unfolding call_lines
more_calls i n h =
    let left : n - i ≡ suc (n - (i + 1)) = omega arith in
    let on : suc i ≡ i + 1 = omega arith in
    ap (call_lines i) left ∙ ap (λ k. call_line i ++ call_lines k (n - (i + 1))) on

pub no_calls : (i n : ℕ) → n ≤ i → call_lines i (n - i) ≡ []
unfolding call_lines
no_calls i n h = let none : n - i ≡ 0 = omega arith in ap (call_lines i) none

-- five parts, one added behind the other
pub joined : (a b c d e s t u v w : List ℕ) → s ≡ a → t ≡ s ++ b → u ≡ t ++ c → v ≡ u ++ d → w ≡ v ++ e → w ≡ a ++ (b ++ (c ++ (d ++ e)))
joined a b c d e s t u v w p q r x y =
    y ∙ (ap (λ (z : List ℕ). z ++ e) (x ∙ ap (λ (z : List ℕ). z ++ d) (r ∙ ap (λ (z : List ℕ). z ++ c) (q ∙ ap (λ (z : List ℕ). z ++ b) p))) ∙ simp append_assoc)
