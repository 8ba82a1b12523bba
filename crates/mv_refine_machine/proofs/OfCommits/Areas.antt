-- Words of the plan area.
use Rattle.std.proofs.Common.{◌≡◌, ◌≢◌, ℕ, zero, suc, ◌+◌, ◌-◌, ◌*◌, ◌/◌, ◌%◌, ◌^◌, ◌<◌, ◌≤◌, true, false, ltb, List, [], ◌∷◌, length, set, slice_get, option_map, unwrap_or, Some, Ok, refl, sym, ap, ap₂, ◌∙◌, subst, arith, length-set}
use Rattle.std.proofs.lemmas.Bool.{lt-ltb, le-ltb}
use Rattle.std.specs.Result.{result_ok}
use Rattle.mv_num.specs.Bytes.{AreWords}
use Rattle.mv_fetch.specs.Held.{Held, Room, region_of, index_of, words_of, present, part, joined, load, store, with_word}
use Rattle.mv_fetch.specs.Stores.{spared}
use Rattle.mv_rv32.specs.Stepping.{access, with_held}
use Rattle.mv_patch.specs.declared.prepared.Pair.{Pair}
use Rattle.mv_patch.specs.Stores.{stored, stored_all}
use Rattle.mv_machine.specs.Runs.{plan_area, stored_word, stored_words, spelled_pairs, with_plan}
use Rattle.mv_refine_machine.specs.Commits.Watched.{plan_words}
use Rattle.mv_refine_machine.proofs.Memory.{whole_word}
use Rattle.mv_refine_machine.proofs.OfStores.Stored.{same_plan}
use Rattle.mv_num.proofs.Lists.{get_set_same, get_set_other, there_at}

plan_region : (a : ℕ) → 0x0040_0000 ≤ a → a < 0x0048_0000 → region_of a ≡ region_of 0x0040_0000
unfolding region_of
plan_region a ge lt =
    let e : ltb a 0x1000 ≡ false = le-ltb a 0x1000 (omega (arith, ge)) in
    let f : ltb a 0x0010_0000 ≡ false = le-ltb a 0x0010_0000 (omega (arith, ge)) in
    let g : ltb a 0x0020_0000 ≡ false = le-ltb a 0x0020_0000 (omega (arith, ge)) in
    let h : ltb a 0x0040_0000 ≡ false = le-ltb a 0x0040_0000 ge in
    let k : ltb a 0x0048_0000 ≡ true = lt-ltb a 0x0048_0000 lt in rw (e, f, g, h, k) refl

plan_index : (a : ℕ) → 0x0040_0000 ≤ a → index_of a ≡ (a - 0x0040_0000) / 4
unfolding index_of
plan_index a ge =
    let f : ltb a 0x0010_0000 ≡ false = le-ltb a 0x0010_0000 (omega (arith, ge)) in
    let g : ltb a 0x0020_0000 ≡ false = le-ltb a 0x0020_0000 (omega (arith, ge)) in
    let h : ltb a 0x0040_0000 ≡ false = le-ltb a 0x0040_0000 ge in rw (f, g, h) refl

load_is : (r : Room) (a w : ℕ) → a % 4 ≡ 0 → present r.held a ≡ Some w → access.load r a 4 ≡ Some (part a 4 w)
unfolding access load
load_is r a w aligned there = rw (aligned, there) refl

store_is : (h : Held) (a v w : ℕ) → a % 4 ≡ 0 → present h a ≡ Some w → store h a 4 v ≡ Ok (with_word h (region_of a) (index_of a) w (joined a 4 w v))
unfolding store
store_is h a v w aligned there = rw (aligned, there) refl

plan_words_of : (h : Held) → words_of h (region_of 0x0040_0000) ≡ h.plan
unfolding region_of
plan_words_of h = refl

-- the address of a word of the plan area
abbrev at : ℕ → ℕ
at k = plan_area + 4 * k

index_is : (k : ℕ) → index_of (at k) ≡ k
index_is k = plan_index (at k) (omega arith) ∙ (let e : (0x0040_0000 + 4 * k - 0x0040_0000) / 4 ≡ k = omega arith in e)

plan_present : (h : Held) (k w : ℕ) → k < plan_words → slice_get h.plan k ≡ Some w → present h (at k) ≡ Some w
unfolding present
plan_present h k w lt there =
    ap₂ (λ r j. slice_get (words_of h r) j) (plan_region (at k) (omega arith) (omega (arith, lt))) (index_is k)
    ∙ ap (λ xs. slice_get xs k) (plan_words_of h) ∙ there

-- ---- one store

-- another plan area
abbrev planned_room : Room → List ℕ → Room
planned_room r plan = record r { held = record r.held { plan = plan } }

plan_word_is : (r : Room) (k old new : ℕ) → record { held = with_word r.held (region_of 0x0040_0000) k old new; spare = spared (region_of 0x0040_0000) r.spare; reserve = r.reserve } ≡ planned_room r (set r.held.plan k new)
unfolding region_of
plan_word_is r k old new = refl

stored_word_is : (r : Room) (k v w : ℕ) → k < plan_words → slice_get r.held.plan k ≡ Some w → stored_word r (at k) v ≡ planned_room r (set r.held.plan k (joined (at k) 4 w v))
unfolding access
stored_word_is r k v w lt there =
    let aligned : at k % 4 ≡ 0 = omega arith in
    let new = joined (at k) 4 w v in
    ap (λ o. unwrap_or (option_map (with_held (at k) r) (result_ok o)) r) (store_is r.held (at k) v w aligned (plan_present r.held k w lt there))
    ∙ ap₂ (λ g i. record { held = with_word r.held g i w new; spare = spared g r.spare; reserve = r.reserve }) (plan_region (at k) (omega arith) (omega (arith, lt))) (index_is k)
    ∙ plan_word_is r k w new

-- what a store into the plan area leaves
pub record KeepsOthers (r r' : Room) : Type 0 where
  pub text : r'.held.text ≡ r.held.text
  pub older : r'.held.older ≡ r.held.older
  pub globals : r'.held.globals ≡ r.held.globals
  pub stack : r'.held.stack ≡ r.held.stack
  pub spare : r'.spare ≡ r.spare
  pub reserve : r'.reserve ≡ r.reserve
  pub size : length r'.held.plan ≡ length r.held.plan

record Puts (r r' : Room) (k v : ℕ) : Type 0 where
  keeps : KeepsOthers r r'
  same : access.load r' (at k) 4 ≡ Some v
  others : (j : ℕ) → j < plan_words → j ≢ k → access.load r' (at j) 4 ≡ access.load r (at j) 4

puts : (r : Room) (k v : ℕ) → length r.held.plan ≡ plan_words → k < plan_words → v < 2 ^ 32 → Puts r (stored_word r (at k) v) k v
puts r k v size lt small =
    let word = there_at r.held.plan k (omega (arith, size, lt)) in
    let new = joined (at k) 4 word.0 v in
    let aligned : at k % 4 ≡ 0 = omega arith in
    let r' = planned_room r (set r.held.plan k new) in
    subst (λ x. Puts r x k v) (sym (stored_word_is r k v word.0 lt word.1))
    (record {
      keeps = record { text = refl; older = refl; globals = refl; stack = refl; spare = refl; reserve = refl; size = length-set r.held.plan k new };
      same = load_is r' (at k) new aligned (plan_present r'.held k new lt (get_set_same r.held.plan k new word.0 word.1)) ∙ ap Some (whole_word (at k) word.0 v aligned small);
      others = λ j below ne.
          let other = there_at r.held.plan j (omega (arith, size, below)) in
          let even : at j % 4 ≡ 0 = omega arith in
          load_is r' (at j) other.0 even (plan_present r'.held j other.0 below (get_set_other r.held.plan k j new ne ∙ other.1))
          ∙ sym (load_is r (at j) other.0 even (plan_present r.held j other.0 below other.1));
    })

-- ---- all words of a plan

pub record Writes (r r' : Room) (k : ℕ) (words : List ℕ) : Type 0 where
  pub keeps : KeepsOthers r r'
  pub loads : (j v : ℕ) → slice_get words j ≡ Some v → access.load r' (at (k + j)) 4 ≡ Some v
  pub before : (j : ℕ) → j < k → access.load r' (at j) 4 ≡ access.load r (at j) 4

then_keeps : (r s t : Room) → KeepsOthers r s → KeepsOthers s t → KeepsOthers r t
then_keeps r s t h k = record {
  text = k.text ∙ h.text;
  older = k.older ∙ h.older;
  globals = k.globals ∙ h.globals;
  stack = k.stack ∙ h.stack;
  spare = k.spare ∙ h.spare;
  reserve = k.reserve ∙ h.reserve;
  size = k.size ∙ h.size;
}

pub writes : (words : List ℕ) (r : Room) (k : ℕ) → length r.held.plan ≡ plan_words → k + length words ≤ plan_words → AreWords words → Writes r (stored_words r (at k) words) k words
unfolding stored_words
writes [] r k size fit small = record {
  keeps = record { text = refl; older = refl; globals = refl; stack = refl; spare = refl; reserve = refl; size = refl };
  loads = λ j v h. absurd (cc);
  before = λ j lt. refl;
}
writes (x ∷ words) r k size fit small =
    let p = puts r k x size (omega (arith, fit)) (small 0) in
    let r1 = stored_word r (at k) x in
    let on : at (suc k) ≡ at k + 4 = omega arith in
    let later : Writes r1 (stored_words r1 (at k + 4) words) (suc k) words =
    subst (λ a. Writes r1 (stored_words r1 a words) (suc k) words) on (writes words r1 (suc k) (p.keeps.size ∙ size) (omega (arith, fit)) (λ i. small (suc i))) in
    record {
      keeps = then_keeps r r1 (stored_words r1 (at k + 4) words) p.keeps later.keeps;
      loads = by_index p later;
      before = λ j lt. later.before j (omega (arith, lt)) ∙ p.others j (omega (arith, lt, fit)) (λ e. omega (arith, e, lt));
    }
  where
    by_index : Puts r (stored_word r (at k) x) k x → Writes (stored_word r (at k) x) (stored_words (stored_word r (at k) x) (at k + 4) words) (suc k) words
        → (j v : ℕ) → slice_get (x ∷ words) j ≡ Some v → access.load (stored_words (stored_word r (at k) x) (at k + 4) words) (at (k + j)) 4 ≡ Some v
    by_index p later zero v h =
        let here : at (k + 0) ≡ at k = omega arith in
        let same : x ≡ v = cc in
        ap (λ a. access.load (stored_words (stored_word r (at k) x) (at k + 4) words) a 4) here ∙ later.before k (omega arith) ∙ p.same ∙ ap Some same
    by_index p later (suc j) v h =
        let here : at (k + suc j) ≡ at (suc k + j) = omega arith in
        ap (λ a. access.load (stored_words (stored_word r (at k) x) (at k + 4) words) a 4) here ∙ later.loads j v h

-- ---- stores into text

stored_beside : (pairs : List Pair) (r : Room) (plan : List ℕ) → stored_all (planned_room r plan) pairs ≡ planned_room (stored_all r pairs) plan
unfolding stored_all stored
stored_beside [] r plan = refl
stored_beside (pair ∷ pairs) r plan = stored_beside pairs (stored r pair) plan

empty_plan : (r : Room) (w : ℕ) → slice_get r.held.plan 0 ≡ Some w → with_plan r [] ≡ planned_room r (set r.held.plan 0 (joined plan_area 4 w 0))
unfolding stored_words spelled_pairs
empty_plan r w there = stored_word_is r 0 0 w (omega arith) there

-- They leave the plan area, so an empty plan may come before them or behind them.
pub plan_commutes : (pairs : List Pair) (r : Room) → length r.held.plan ≡ plan_words → with_plan (stored_all r pairs) [] ≡ stored_all (with_plan r []) pairs
plan_commutes pairs r size =
    let word = there_at r.held.plan 0 (omega (arith, size)) in
    let kept = same_plan r pairs in
    let emptied : List ℕ → List ℕ = λ plan. set plan 0 (joined plan_area 4 word.0 0) in
    empty_plan (stored_all r pairs) word.0 (ap (λ (plan : List ℕ). slice_get plan 0) kept ∙ word.1)
    ∙ ap (λ (plan : List ℕ). planned_room (stored_all r pairs) (emptied plan)) kept
    ∙ sym (stored_beside pairs r (emptied r.held.plan))
    ∙ ap (λ x. stored_all x pairs) (sym (empty_plan r word.0 word.1))
