-- Codes joined one behind the other are the parts of functions, and each begins where its part does.
use Rattle.std.proofs.Common.{◌≡◌, ℕ, zero, suc, ◌+◌, ◌<◌, ◌++◌, Bool, true, false, List, [], ◌∷◌, length, take, drop, get_or, slice_index, refl, ap, sym, ◌∙◌, subst, arith}
use Rattle.std.proofs.Math.Seq.{drop-cons}
use Rattle.std.proofs.lemmas.List.{append_assoc, length-append, length-map, map-append, get_or-append-add, get_or_append_left}
use Rattle.std.proofs.lemmas.List.Sums.{sum_by-append, sum_by-cons}
use Rattle.mv_isa.specs.declared.labelled.Labelled.{Labelled}
use Rattle.mv_isa.specs.declared.labelled.Line.{Line}
use Rattle.mv_linker.specs.declared.joined.Joined.{Joined}
use Rattle.mv_linker.specs.declared.parts.Parts.{Parts}
use Rattle.mv_linker.specs.declared.parts.PartFunction.{PartFunction}
use Rattle.mv_linker.specs.declared.parts.PartVariant.{PartVariant}
use Rattle.mv_linker.specs.Linked.{codes, function_variants, variant_codes, relabelled, stub_count, stub_lines, has_pointers, function_part, function_parts, label_count, line_count, trap_label, label_limit, IsJoined}
use Rattle.mv_linker.specs.Joining.{with_code, with_codes}
use Rattle.mv_linker.proofs.Counting.{label_count_more}

pub with_codes-append : (j : Joined) (xs ys : List Labelled) → with_codes j (xs ++ ys) ≡ with_codes (with_codes j xs) ys
with_codes-append j [] ys = refl
with_codes-append j (x ∷ xs) ys = with_codes-append (with_code j x) xs ys

pub labels_of : (j : Joined) (xs : List Labelled) → (with_codes j xs).code.labels ≡ j.code.labels + label_count xs
labels_of j [] = omega arith
labels_of j (x ∷ xs) = omega (arith, labels_of (with_code j x) xs, label_count_more x xs)

pub entries_of : (j : Joined) (xs : List Labelled) → length (with_codes j xs).entries ≡ length j.entries + length xs
entries_of j [] = omega arith
entries_of j (x ∷ xs) = omega (arith, entries_of (with_code j x) xs, length-append j.entries (length j.code.items ∷ []))

-- what joins to the same has as many labels and entries

pub same_labels : (j k : Joined) (xs ys : List Labelled) → with_codes j xs ≡ with_codes k ys → j.code.labels + label_count xs ≡ k.code.labels + label_count ys
same_labels j k xs ys e = sym (labels_of j xs) ∙ ap (λ (r : Joined). r.code.labels) e ∙ labels_of k ys

pub same_entries : (j k : Joined) (xs ys : List Labelled) → with_codes j xs ≡ with_codes k ys → length j.entries + length xs ≡ length k.entries + length ys
same_entries j k xs ys e = sym (entries_of j xs) ∙ ap (λ (r : Joined). length r.entries) e ∙ entries_of k ys

-- some more codes are joined, of all that are left
pub more_codes : (j next whole : Joined) (some rest all : List Labelled) → next ≡ with_codes j some → all ≡ some ++ rest → with_codes j all ≡ whole → with_codes next rest ≡ whole
more_codes j next whole some rest all next_is all_is is =
    ap (λ (n : Joined). with_codes n rest) next_is ∙ sym (with_codes-append j some rest) ∙ ap (with_codes j) (sym all_is) ∙ is

-- ---- what is left from an index on

pub codes_at : (xs : List Labelled) (i : ℕ) (x : Labelled) → i < length xs → x ≡ get_or xs i x → drop i xs ≡ (x ∷ []) ++ drop (i + 1) xs
codes_at xs i x below is =
    let next : suc i ≡ i + 1 = omega arith in
    drop-cons xs i x below ∙ ap (λ (y : Labelled). y ∷ drop (suc i) xs) (sym is) ∙ ap (λ j. x ∷ drop j xs) next

pub variants_at : (xs : List PartVariant) (i : ℕ) (x : PartVariant) → i < length xs → x ≡ get_or xs i x → variant_codes (drop i xs) ≡ (x.code ∷ []) ++ variant_codes (drop (i + 1) xs)
variants_at xs i x below is =
    let next : suc i ≡ i + 1 = omega arith in
    ap variant_codes (drop-cons xs i x below ∙ ap (λ (y : PartVariant). y ∷ drop (suc i) xs) (sym is) ∙ ap (λ j. x ∷ drop j xs) next)

pub functions_at : (xs : List PartFunction) (i : ℕ) (x : PartFunction) → i < length xs → x ≡ get_or xs i x → function_variants (drop i xs) ≡ x.variants ++ function_variants (drop (i + 1) xs)
functions_at xs i x below is =
    let next : suc i ≡ i + 1 = omega arith in
    ap function_variants (drop-cons xs i x below)
    ∙ ap (λ (y : PartFunction). y.variants ++ function_variants (drop (suc i) xs)) (sym is)
    ∙ ap (λ j. x.variants ++ function_variants (drop j xs)) next

pub function_codes_at : (xs : List PartFunction) (i : ℕ) (x : PartFunction) → i < length xs → x ≡ get_or xs i x →
    variant_codes (function_variants (drop i xs)) ≡ variant_codes x.variants ++ variant_codes (function_variants (drop (i + 1) xs))
function_codes_at xs i x below is =
    ap variant_codes (functions_at xs i x below is) ∙ map-append (λ (v : PartVariant). v.code) x.variants (function_variants (drop (i + 1) xs))

items_of : (j : Joined) (xs : List Labelled) → (with_codes j xs).code.items ≡ j.code.items ++ function_parts (length j.entries) j.code.labels xs
items_of j [] = sym (append_nil j.code.items)
  where
    append_nil : (ls : List Line) → ls ++ [] ≡ ls
    append_nil [] = refl
    append_nil (l ∷ ls) = ap (λ rest. l ∷ rest) (append_nil ls)
items_of j (x ∷ xs) =
    let part = function_part (length j.entries) j.code.labels x in
    let more : length (j.entries ++ length j.code.items ∷ []) ≡ length j.entries + 1 = omega (arith, length-append j.entries (length j.code.items ∷ [])) in
    items_of (with_code j x) xs
    ∙ ap (λ n. (j.code.items ++ part) ++ function_parts n (j.code.labels + x.labels) xs) more
    ∙ append_assoc j.code.items part (function_parts (length j.entries + 1) (j.code.labels + x.labels) xs)

part_length : (f first : ℕ) (x : Labelled) → length (function_part f first x) ≡ 1 + length x.items
part_length f first x = omega (arith, length-map x.items (relabelled first x.labels))

pub line_count_more : (x : Labelled) (xs : List Labelled) → line_count (x ∷ xs) ≡ 1 + length x.items + line_count xs
line_count_more x xs = sum_by-cons (λ (c : Labelled). 1 + length c.items) x xs

-- where the codes before one stand stays
entry_stays : (j : Joined) (xs : List Labelled) (f : ℕ) → f < length j.entries → slice_index (with_codes j xs).entries f ≡ slice_index j.entries f
entry_stays j [] f below = refl
entry_stays j (x ∷ xs) f below =
    entry_stays (with_code j x) xs f (omega (arith, length-append j.entries (length j.code.items ∷ [])))
    ∙ get_or_append_left j.entries (length j.code.items ∷ []) 0 f below

entry_of : (j : Joined) (xs : List Labelled) (k : ℕ) → k < length xs → slice_index (with_codes j xs).entries (length j.entries + k) ≡ length j.code.items + line_count (take k xs)
entry_of j [] k below = absurd (omega arith)
entry_of j (x ∷ xs) zero below =
    let one = length-append j.entries (length j.code.items ∷ []) in
    entry_stays (with_code j x) xs (length j.entries + 0) (omega (arith, one))
    ∙ get_or-append-add j.entries (length j.code.items ∷ []) 0 0
    ∙ omega arith
entry_of j (x ∷ xs) (suc k) below =
    let next = with_code j x in
    let one = length-append j.entries (length j.code.items ∷ []) in
    let same : length j.entries + suc k ≡ length next.entries + k = omega (arith, one) in
    let part = function_part (length j.entries) j.code.labels x in
    let lines = length-append j.code.items part in
    let count = part_length (length j.entries) j.code.labels x in
    ap (slice_index (with_codes next xs).entries) same ∙ entry_of next xs k (omega arith) ∙ omega (arith, lines, count, line_count_more x (take k xs))

-- ---- all codes behind the stubs

pub stub_length : (main : ℕ) (checks : Bool) → length (stub_lines main checks) ≡ stub_count checks
stub_length main true = refl
stub_length main false = refl

abbrev pub begun : Parts → Joined
begun parts = record { code = record { items = stub_lines parts.main (has_pointers parts); labels = length (codes parts) }; entries = [] }

pub joined_are : (parts : Parts) (joined : Joined) → joined ≡ with_codes (begun parts) (codes parts) → IsJoined parts joined
joined_are parts joined is =
    subst (IsJoined parts) (sym is) (record {
      lines = items_of (begun parts) (codes parts);
      one_each = entries_of (begun parts) (codes parts) ∙ omega arith;
      each = λ f below. let at : 0 + f ≡ f = omega arith in
          ap (slice_index (with_codes (begun parts) (codes parts)).entries) (sym at) ∙ entry_of (begun parts) (codes parts) f below
          ∙ ap (λ n. n + line_count (take f (codes parts))) (stub_length parts.main (has_pointers parts));
    })

-- the functions first, and then the variants
pub joined_in_order : (parts : Parts) (start functions all : Joined) → start ≡ begun parts → functions ≡ with_codes start parts.functions →
    all ≡ with_codes functions (variant_codes (function_variants parts.attributed)) → IsJoined parts all
joined_in_order parts start functions all start_is functions_are all_is =
    let variants = variant_codes (function_variants parts.attributed) in
    joined_are parts all
    (all_is ∙ ap (λ (j : Joined). with_codes j variants) (functions_are ∙ ap (λ (j : Joined). with_codes j parts.functions) start_is) ∙
    sym (with_codes-append (begun parts) parts.functions variants))

-- there are numbers for the variants behind the functions
pub record HasNumbers (parts : Parts) (functions : Joined) : Type 0 where
  pub entries : length functions.entries + length (variant_codes (function_variants parts.attributed)) < trap_label 1
  pub labels : functions.code.labels + label_count (variant_codes (function_variants parts.attributed)) < trap_label 1

pub numbers_left : (parts : Parts) → length (codes parts) + label_count (codes parts) < label_limit → (start functions : Joined) → start ≡ begun parts →
    functions ≡ with_codes start parts.functions → HasNumbers parts functions
numbers_left parts few start functions start_is functions_are =
    let variants = variant_codes (function_variants parts.attributed) in
    let count = length-append parts.functions variants in
    let labels = sum_by-append (λ (c : Labelled). c.labels) parts.functions variants in
    let joined = functions_are ∙ ap (λ (j : Joined). with_codes j parts.functions) start_is in
    let some_entries = ap (λ (j : Joined). length j.entries) joined in
    let some_labels = ap (λ (j : Joined). j.code.labels) joined in
    record {
      entries = omega (arith, some_entries, entries_of (begun parts) parts.functions, count, few);
      labels = omega (arith, some_labels, labels_of (begun parts) parts.functions, labels, few);
    }
