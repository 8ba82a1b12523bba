-- Harts before their first instruction.
use Rattle.std.proofs.Common.{◌≡◌, ℕ, zero, suc, ◌+◌, List, [], ◌∷◌, ◌++◌, map, drop, slice_get, refl, sym, ap, arith, subst, false}
use Rattle.mv_bindings.specs.declared.action.Action.{Action}
use Rattle.mv_bindings.specs.Acts.{act_of}
use Rattle.mv_image.specs.Spelling.{Fields}
use Rattle.mv_machine.specs.Runs as runs
use Rattle.mv_machine.specs.Runs.{State, bytes_to_come}
use Rattle.mv_harts_runs.specs.Harts.{first_of, hart_from, others_from, first_harts}
use Rattle.mv_harts_one.specs.declared.seat.Seat.{Seat}
use Rattle.mv_harts_one.specs.Seats.{Sits}
use Rattle.mv_harts_turns.specs.Pairs.{Both, Pairs}
use Rattle.mv_harts_turns.specs.declared.group.Group.{Group}
use Rattle.mv_harts_turns.specs.Groups.{AreTaken, IsSeat, Shows, AreFirst}

-- a new seat
pub first_seat : (image : Fields) (n : ℕ) (bytes : List ℕ) (seat : Seat) → Sits n seat bytes (hart_from (first_of n image (bytes_to_come bytes) []))
    → seat.taken ≡ [] → IsSeat image [] n bytes seat (hart_from (first_of n image (bytes_to_come bytes) []))
unfolding runs.first
first_seat image n bytes seat sits none = record {
  same_image = sym (ap (λ (s : State). s.image) sits.state);
  sits = sits;
  took = subst (λ ts. AreTaken [] ts []) (sym none) refl;
}

-- one hart more
pairs_more : (image : Fields) (bytes : ℕ → List ℕ) (n m count : ℕ) (seats : List Seat) (seat : Seat) → n + count ≡ m →
    Pairs (λ k. IsSeat image [] (n + k) (bytes (n + k))) seats (others_from n image (λ h. bytes_to_come (bytes h)) count) → IsSeat image [] m (bytes m) seat (hart_from (first_of m image (bytes_to_come (bytes m)) [])) →
    Pairs (λ k. IsSeat image [] (n + k) (bytes (n + k))) (seats ++ seat ∷ []) (others_from n image (λ h. bytes_to_come (bytes h)) (suc count))
pairs_more image bytes n m zero [] seat e h one zero = subst (λ j. IsSeat image [] j (bytes j) seat (hart_from (first_of n image (bytes_to_come (bytes n)) []))) (let d : n ≡ n + 0 = omega arith in d)
    (subst (λ j. IsSeat image [] j (bytes j) seat (hart_from (first_of j image (bytes_to_come (bytes j)) []))) (let d : m ≡ n = omega arith in d) one)
pairs_more image bytes n m zero [] seat e h one (suc k) = tt
pairs_more image bytes n m zero (s ∷ seats) seat e h one k = absurd (h 0)
pairs_more image bytes n m (suc count) [] seat e h one k = absurd (h 0)
pairs_more image bytes n m (suc count) (s ∷ seats) seat e h one zero = h 0
pairs_more image bytes n m (suc count) (s ∷ seats) seat e h one (suc k) = shifted (pairs_more image bytes (suc n) m count seats seat (omega arith) rest one k)
  where
    at : (j : ℕ) → n + suc j ≡ suc n + j
    at j = omega arith

    rest : Pairs (λ j. IsSeat image [] (suc n + j) (bytes (suc n + j))) seats (others_from (suc n) image (λ i. bytes_to_come (bytes i)) count)
    rest j = subst (λ i. Both (IsSeat image [] i (bytes i)) (slice_get seats j) (slice_get (others_from (suc n) image (λ i. bytes_to_come (bytes i)) count) j)) (at j) (h (suc j))

    shifted : Both (IsSeat image [] (suc n + k) (bytes (suc n + k))) (slice_get (seats ++ seat ∷ []) k) (slice_get (others_from (suc n) image (λ i. bytes_to_come (bytes i)) (suc count)) k) →
        Both (IsSeat image [] (n + suc k) (bytes (n + suc k))) (slice_get (seats ++ seat ∷ []) k) (slice_get (others_from (suc n) image (λ i. bytes_to_come (bytes i)) (suc count)) k)
    shifted b = subst (λ i. Both (IsSeat image [] i (bytes i)) (slice_get (seats ++ seat ∷ []) k) (slice_get (others_from (suc n) image (λ i. bytes_to_come (bytes i)) (suc count)) k)) (sym (at k)) b

pub first_more : (image : Fields) (bytes : ℕ → List ℕ) (count : ℕ) (seats : List Seat) (seat : Seat) → AreFirst image bytes count seats
    → IsSeat image [] (count + 1) (bytes (count + 1)) seat (hart_from (first_of (count + 1) image (bytes_to_come (bytes (count + 1))) []))
    → AreFirst image bytes (count + 1) (seats ++ seat ∷ [])
first_more image bytes count seats seat h one =
    let at : (j : ℕ) → suc j ≡ 1 + j = λ j. omega arith in
    let up : suc count ≡ count + 1 = omega arith in
    let more : AreFirst image bytes (suc count) (seats ++ seat ∷ []) = λ k.
    subst (λ i. Both (IsSeat image [] i (bytes i)) (slice_get (seats ++ seat ∷ []) k) (slice_get (others_from 1 image (λ j. bytes_to_come (bytes j)) (suc count)) k)) (sym (at k))
    (pairs_more image bytes 1 (count + 1) count seats seat (omega arith)
    (λ j. subst (λ i. Both (IsSeat image [] i (bytes i)) (slice_get seats j) (slice_get (others_from 1 image (λ i. bytes_to_come (bytes i)) count) j))
    (at j) (h j)) one k) in
    subst (λ c. AreFirst image bytes c (seats ++ seat ∷ [])) up more

none_first : (image : Fields) (bytes : ℕ → List ℕ) → AreFirst image bytes 0 []
none_first image bytes k = tt

pub first_none : (image : Fields) (bytes : ℕ → List ℕ) (seats : List Seat) → seats ≡ [] → AreFirst image bytes 0 seats
first_none image bytes seats e = subst (λ l. AreFirst image bytes 0 l) (sym e) (none_first image bytes)

pub shows_first : (image : Fields) (actions : List Action) (bytes : ℕ → List ℕ) (group : Group) (count : ℕ)
    → IsSeat image [] 0 (bytes 0) group.leader (hart_from (first_of 0 image (bytes_to_come (bytes 0)) [])) → AreFirst image bytes count group.others.items →
    group.played ≡ 0 → group.wanted ≡ false → group.under ≡ false → group.commits ≡ [] → Shows image actions bytes group (first_harts image (λ h. bytes_to_come (bytes h)) count (map act_of actions))
shows_first image actions bytes group count leader others played wanted under commits = record {
  leader = leader;
  others = others;
  actions_are = ap (λ k. map act_of (drop k actions)) (sym played);
  wanted = sym wanted;
  under = sym under;
  commits = sym (ap (map (λ c. c.all)) commits);
}
