-- How many words globals have, and where they begin.
use Rattle.std.proofs.Common.{◌≡◌, ℕ, zero, suc, ◌+◌, ◌-◌, ◌≤◌, ◌++◌, List, [], ◌∷◌, Some, length, map, sum, take, drop, replicate, slice_get, All, refl, ap, sym, subst, ◌∙◌, arith}
use Rattle.std.specs.List.{flat_map}
use Rattle.std.proofs.lemmas.List.{length-append, length-map, length-replicate}
use Rattle.std.proofs.lemmas.List.Elements.{All-head, All-tail}
use Rattle.std.proofs.lemmas.List.Sums.{sum_by-cons}
use Rattle.std.proofs.Math.Seq.{take-append_seam, drop-append-add}
use Rattle.mv_ast.specs.declared.program.Global.{Global}
use Rattle.mv_ast.specs.Counts.{words_of_size}
use Rattle.mv_ast.specs.Starts.{first_words, first_words_under, renumbered_at}
use Rattle.mv_link_data.specs.FirstData.{datum_of, global_data}

-- how many words a global has
abbrev pub size_of : Global → ℕ
size_of g = words_of_size g.size

-- it is given no more values
abbrev Fits : Global → Type 0
Fits g = length g.first ≤ size_of g

words_count : (g : Global) → Fits g → length (first_words g) ≡ size_of g
words_count g fits =
    let zeros = size_of g - length g.first in
    omega (arith, fits, length-append g.first (replicate zeros 0), length-replicate {A = ℕ} zeros 0)

data_count : (g : Global) → Fits g → length (global_data g) ≡ size_of g
data_count g fits = length-map (first_words g) (datum_of g.ctype) ∙ words_count g fits

pub count_is : (gs : List Global) → All Fits gs → length (flat_map global_data gs) ≡ sum (map size_of gs)
count_is [] all = refl
count_is (g ∷ gs) all =
    let here = data_count g (All-head Fits g gs all) in
    let rest = count_is gs (All-tail Fits g gs all) in
    omega (arith, here, rest, length-append (global_data g) (flat_map global_data gs), sum_by-cons (λ (n : ℕ). n) (size_of g) (map size_of gs))

pub sizes_are : (numbers : List ℕ) (gs : List Global) → All Fits gs → map length (map (first_words_under numbers) gs) ≡ map size_of gs
sizes_are numbers [] all = refl
sizes_are numbers (g ∷ gs) all =
    let here : length (first_words_under numbers g) ≡ size_of g =
    length-map (first_words g) (renumbered_at g.ctype numbers) ∙ words_count g (All-head Fits g gs all) in
    let rest = sizes_are numbers gs (All-tail Fits g gs all) in
    cc (here, rest)

pub place_is : (gs : List Global) → All Fits gs → (n : ℕ) (g : Global) → slice_get gs n ≡ Some g →
    take (size_of g) (drop (sum (take n (map size_of gs))) (flat_map global_data gs)) ≡ global_data g
place_is [] all n g found = absurd (let bad : ⊥ = cc in bad)
place_is (x ∷ gs) all zero g found =
    let is : Some x ≡ Some g = found in
    let same : x ≡ g = cc in
    let rest = flat_map global_data gs in
    subst (λ (y : Global). take (size_of y) (global_data x ++ rest) ≡ global_data y) same
    (ap (λ n. take n (global_data x ++ rest)) (sym (data_count x (All-head Fits x gs all))) ∙ take-append_seam (global_data x) rest)
place_is (x ∷ gs) all (suc n) g found =
    let rest = flat_map global_data gs in
    let before = sum (take n (map size_of gs)) in
    let behind : sum (take (suc n) (map size_of (x ∷ gs))) ≡ length (global_data x) + before =
    sum_by-cons (λ (k : ℕ). k) (size_of x) (take n (map size_of gs)) ∙ ap (λ k. k + before) (sym (data_count x (All-head Fits x gs all))) in
    ap (λ k. take (size_of g) (drop k (global_data x ++ rest))) behind ∙
    ap (λ xs. take (size_of g) xs) (drop-append-add (global_data x) rest before) ∙
    place_is gs (All-tail Fits x gs all) n g found
