-- The words of a plan.
use Rattle.std.proofs.Common.{◌≡◌, zero, suc, ◌+◌, ◌*◌, ◌<◌, ◌^◌, List, [], ◌∷◌, ◌++◌, length, slice_get, Some, refl, sym, ap, ◌∙◌, arith}
use Rattle.std.specs.List.{All}
use Rattle.std.proofs.lemmas.List.Elements.{All-head, All-tail}
use Rattle.mv_num.specs.Bytes.{AreWords}
use Rattle.mv_patch.specs.declared.prepared.Pair.{Pair}
use Rattle.mv_machine.specs.Runs.{spelled_pairs}
use Rattle.mv_refine_machine.specs.Stores.Stores.{IsInRange}
use Rattle.mv_refine_machine.specs.Commits.Storing.{spelled_plan}

-- the two words of a pair
word_at : (done later : List Pair) (pair : Pair) → slice_get (spelled_pairs (done ++ pair ∷ later)) (2 * length done) ≡ Some pair.address
unfolding spelled_pairs
word_at [] later pair = refl
word_at (q ∷ done) later pair =
    let e : 2 * length (q ∷ done) ≡ suc (suc (2 * length done)) = omega arith in
    ap (slice_get (spelled_pairs (q ∷ done ++ pair ∷ later))) e ∙ word_at done later pair

word_behind : (done later : List Pair) (pair : Pair) → slice_get (spelled_pairs (done ++ pair ∷ later)) (suc (2 * length done)) ≡ Some pair.word
unfolding spelled_pairs
word_behind [] later pair = refl
word_behind (q ∷ done) later pair =
    let e : suc (2 * length (q ∷ done)) ≡ suc (suc (suc (2 * length done))) = omega arith in
    ap (slice_get (spelled_pairs (q ∷ done ++ pair ∷ later))) e ∙ word_behind done later pair

pub plan_address : (pairs done later : List Pair) (pair : Pair) → done ++ pair ∷ later ≡ pairs → slice_get (spelled_plan pairs) (1 + 2 * length done) ≡ Some pair.address
plan_address pairs done later pair e =
    let next : 1 + 2 * length done ≡ suc (2 * length done) = omega arith in
    ap (slice_get (spelled_plan pairs)) next ∙ ap (λ ps. slice_get (spelled_pairs ps) (2 * length done)) (sym e) ∙ word_at done later pair

pub plan_word : (pairs done later : List Pair) (pair : Pair) → done ++ pair ∷ later ≡ pairs → slice_get (spelled_plan pairs) (2 + 2 * length done) ≡ Some pair.word
plan_word pairs done later pair e =
    let next : 2 + 2 * length done ≡ suc (suc (2 * length done)) = omega arith in
    ap (slice_get (spelled_plan pairs)) next ∙ ap (λ ps. slice_get (spelled_pairs ps) (suc (2 * length done))) (sym e) ∙ word_behind done later pair

-- ---- how many words, and that they are words

pub pairs_size : (pairs : List Pair) → length (spelled_pairs pairs) ≡ 2 * length pairs
unfolding spelled_pairs
pairs_size [] = refl
pairs_size (pair ∷ pairs) = let e = pairs_size pairs in omega (arith, e)

pairs_small : (pairs : List Pair) → All IsInRange pairs → AreWords (spelled_pairs pairs)
unfolding spelled_pairs
pairs_small [] h i = omega arith
pairs_small (pair ∷ pairs) h zero = (All-head IsInRange pair pairs h).address
pairs_small (pair ∷ pairs) h (suc zero) = (All-head IsInRange pair pairs h).word
pairs_small (pair ∷ pairs) h (suc (suc i)) = pairs_small pairs (All-tail IsInRange pair pairs h) i

pub plan_small : (pairs : List Pair) → All IsInRange pairs → length pairs < 2 ^ 32 → AreWords (spelled_plan pairs)
plan_small pairs h lt zero = lt
plan_small pairs h lt (suc i) = pairs_small pairs h i
