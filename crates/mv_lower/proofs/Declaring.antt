-- Values, zeros and tests, one after the other.
use Rattle.std.proofs.Common.{◌≡◌, ℕ, suc, ◌+◌, ◌-◌, ◌<◌, ◌≤◌, Bool, true, false, cond, List, [], ◌∷◌, ◌++◌, map, take, drop, length, get_or, max, Option, refl, sym, ap, ◌∙◌, arith, append_assoc, append-nil}
use Rattle.std.proofs.lemmas.List.{take_more, drop_all}
use Rattle.mv_ast.specs.declared.program.Arm.{Arm}
use Rattle.mv_ast.specs.Counts.{words_of_size}
use Rattle.mv_ir.specs.declared.stm.Stm.{Stm}
use Rattle.mv_lower_spec.specs.Lowered.{Lowered, number}
use Rattle.mv_lower_spec.specs.Statements.{Code, store_word, clear_words, store_zeros, test_labels}
use Rattle.mv_lower_expressions.specs.declared.value.Value.{Value}
use Rattle.mv_lower_expressions.specs.Values.{seen}
use Rattle.mv_lower.specs.Declarations.{values_stored, values_top_of, clears_first, clear_of}
use Rattle.mv_lower.specs.Switches.{default_place, tests_from}
use Rattle.mv_lower_expressions.proofs.Forms.{map_push}
use Rattle.mv_lower.proofs.StatementForms.{cleared, clear_is}
use Rattle.mv_lower.proofs.Switching.{next_item}

-- ---- values

pub stored_none : (size : Option ℕ) (l : ℕ) (code : List Stm) → code ++ values_stored size l 0 [] ≡ code
unfolding values_stored
stored_none size l code = append-nil code

stored_append : (size : Option ℕ) (l i : ℕ) (vs : List Lowered) (v : Lowered) → values_stored size l i (vs ++ v ∷ []) ≡ values_stored size l i vs ++ (v.code ++ store_word size l (i + length vs) v.tree ∷ [])
unfolding values_stored
stored_append size l i [] v = let e : i ≡ i + 0 = omega arith in ap (λ k. v.code ++ store_word size l k v.tree ∷ []) e
stored_append size l i (x ∷ xs) v =
    let e : suc i + length xs ≡ i + suc (length xs) = omega arith in
    ap (λ rest. x.code ++ (store_word size l i x.tree ∷ rest)) (stored_append size l (suc i) xs v ∙ ap (λ k. values_stored size l (suc i) xs ++ (v.code ++ store_word size l k v.tree ∷ [])) e) ∙
    sym (append_assoc x.code (store_word size l i x.tree ∷ values_stored size l (suc i) xs) (v.code ++ store_word size l (i + suc (length xs)) v.tree ∷ []))

seen_length : (vs : List Value) → length (map seen vs) ≡ length vs
seen_length [] = refl
seen_length (v ∷ vs) = ap suc (seen_length vs)

pub stored_push : (size : Option ℕ) (l i : ℕ) (vs : List Value) (v : Value) → i ≡ length vs → values_stored size l 0 (map seen (vs ++ v ∷ [])) ≡ values_stored size l 0 (map seen vs) ++ (v.code ++ store_word size l i v.tree ∷ [])
stored_push size l i vs v e =
    let at : 0 + length (map seen vs) ≡ i = omega (arith, seen_length vs) in
    ap (λ ws. values_stored size l 0 ws) (map_push seen vs v) ∙ (stored_append size l 0 (map seen vs) (seen v) ∙ ap (λ k. values_stored size l 0 (map seen vs) ++ (v.code ++ store_word size l k v.tree ∷ [])) at)

pub ruleset stores = (stored_none, stored_push, append_assoc)

pub top_none : (n : ℕ) → values_top_of [] n ≡ n
unfolding values_top_of
top_none n = refl

top_append : (vs : List Lowered) (v : Lowered) (n : ℕ) → values_top_of (vs ++ v ∷ []) n ≡ max (values_top_of vs n) v.top
unfolding values_top_of
top_append [] v n = omega arith
top_append (x ∷ xs) v n = let h = top_append xs v n in omega (arith, h)

pub top_push : (vs : List Value) (i : ℕ) (v : Value) (n : ℕ) → i < length vs → v ≡ get_or vs i v → values_top_of (map seen (take (i + 1) vs)) n ≡ max (values_top_of (map seen (take i vs)) n) v.top
top_push vs i v n h e =
    ap (λ ws. values_top_of (map seen ws) n) (take_more vs i v h ∙ ap (λ (x : Value). take i vs ++ x ∷ []) (sym e)) ∙
    (ap (λ ws. values_top_of ws n) (map_push seen (take i vs) v) ∙ top_append (map seen (take i vs)) (seen v) n)

pub ruleset tops = (top_none, top_push)

-- ---- zeros

pub zeros_next : (size : Option ℕ) (l i to : ℕ) → i < to → store_zeros size l i (to - i) ≡ store_word size l i (number 0) ∷ store_zeros size l (i + 1) (to - (i + 1))
zeros_next size l i to h =
    let e : to - i ≡ suc (to - (i + 1)) = omega arith in
    let s : suc i ≡ i + 1 = omega arith in
    ap (λ k. store_zeros size l i k) e ∙ ap (λ k. store_word size l i (number 0) ∷ store_zeros size l k (to - (i + 1))) s

pub zeros_end : (size : Option ℕ) (l i to : ℕ) → to ≤ i → store_zeros size l i (to - i) ≡ []
zeros_end size l i to h = let e : to - i ≡ 0 = omega arith in ap (λ k. store_zeros size l i k) e

pub ruleset zeros = (zeros_next, zeros_end, append_assoc, append-nil)

-- ---- declarations

abbrev code_of : List Stm → ℕ → Code
code_of c m = record { code = c; top = m }

by_test : (size : Option ℕ) (l k : ℕ) (names : Bool) (stored : List Stm) (top : ℕ) (b : Bool) → clears_first names (words_of_size size) k ≡ b →
    cleared size l names k stored top ≡ code_of (cond b (clear_words size l ∷ stored) (stored ++ store_zeros size l k (words_of_size size - k))) top
by_test size l k names stored top b e = ap (λ z. code_of (cond z (clear_words size l ∷ stored) (stored ++ store_zeros size l k (words_of_size size - k))) top) e

pub clear_by : (size : Option ℕ) (l : ℕ) (names : Bool) (vs : List Value) (n k : ℕ) (b : Bool) → k ≡ length vs → clears_first names (words_of_size size) k ≡ b →
    clear_of size l names (map seen vs) n ≡
    code_of (cond b (clear_words size l ∷ values_stored size l 0 (map seen vs)) (values_stored size l 0 (map seen vs) ++ store_zeros size l k (words_of_size size - k))) (values_top_of (map seen vs) n)
clear_by size l names vs n k b e h =
    clear_is size l names (map seen vs) n ∙
    (ap (λ m. cleared size l names m (values_stored size l 0 (map seen vs)) (values_top_of (map seen vs) n)) (seen_length vs ∙ sym e) ∙
    by_test size l k names (values_stored size l 0 (map seen vs)) (values_top_of (map seen vs) n) b h)

-- ---- tests

labels_append : (n i : ℕ) (ls : List ℕ) (l : ℕ) → test_labels n i (ls ++ l ∷ []) ≡ test_labels n i ls ++ test_labels n i (l ∷ [])
labels_append n i [] l = refl
labels_append n i (x ∷ xs) l = ap (λ rest. test_labels n i (x ∷ []) ++ rest) (labels_append n i xs l)

pub labels_push : (n i : ℕ) (ls : List ℕ) (k : ℕ) → k < length ls → test_labels n i (take (k + 1) ls) ≡ test_labels n i (take k ls) ++ test_labels n i (get_or ls k 0 ∷ [])
labels_push n i ls k h = ap (λ xs. test_labels n i xs) (take_more ls k 0 h) ∙ labels_append n i (take k ls) (get_or ls k 0)

pub ruleset label_tests = (labels_push, append_assoc)

pub default_next : (arms : List Arm) (i : ℕ) (a : Arm) → i < length arms → a ≡ get_or arms i a → a.other ≡ false → default_place i (drop i arms) ≡ default_place (i + 1) (drop (i + 1) arms)
default_next arms i a h e f =
    let s : suc i ≡ i + 1 = omega arith in
    ap (λ xs. default_place i xs) (next_item arms i a h e) ∙ (ap (λ z. cond z i (default_place (suc i) (drop (i + 1) arms))) f ∙ ap (λ k. default_place k (drop (i + 1) arms)) s)

pub default_found : (arms : List Arm) (i : ℕ) (a : Arm) → i < length arms → a ≡ get_or arms i a → a.other ≡ true → default_place i (drop i arms) ≡ i
default_found arms i a h e f = ap (λ xs. default_place i xs) (next_item arms i a h e) ∙ ap (λ z. cond z i (default_place (suc i) (drop (i + 1) arms))) f

pub default_end : (arms : List Arm) (i : ℕ) → length arms ≤ i → default_place i (drop i arms) ≡ i
default_end arms i h = ap (λ xs. default_place i xs) (drop_all i arms h)

pub ruleset defaults = (default_next, default_found, default_end)

pub tests_next : (n : ℕ) (arms : List Arm) (i : ℕ) (a : Arm) → i < length arms → a ≡ get_or arms i a → tests_from n i (drop i arms) ≡ test_labels n i a.labels ++ tests_from n (i + 1) (drop (i + 1) arms)
tests_next n arms i a h e =
    let s : suc i ≡ i + 1 = omega arith in
    ap (λ xs. tests_from n i xs) (next_item arms i a h e) ∙ ap (λ k. test_labels n i a.labels ++ tests_from n k (drop (i + 1) arms)) s

pub tests_end : (n : ℕ) (arms : List Arm) (i : ℕ) → length arms ≤ i → tests_from n i (drop i arms) ≡ []
tests_end n arms i h = ap (λ xs. tests_from n i xs) (drop_all i arms h)

pub ruleset arm_tests = (tests_next, tests_end, append_assoc, append-nil)
