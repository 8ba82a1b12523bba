-- The labels of the arms of a `switch`, tested in order.
use Rattle.std.proofs.Common.{◌≡◌, ℕ, suc, ◌+◌, ◌-◌, ◌^◌, ◌≤◌, ◌<◌, Bool, true, false, if◌then◌else◌, nat_eq, List, [], ◌∷◌, ◌++◌, length, get_or, drop, arith, refl, sym, ◌∙◌, ap}
use Rattle.std.proofs.lemmas.List.{drop_more}
use Rattle.mv_ast.specs.declared.program.Arm.{Arm}
use Rattle.mv_interpret.specs.declared.state.State.{State}
use Rattle.mv_meaning.specs.Meaning.{Tried, tried_labels}
use Rattle.mv_meaning.specs.Arms.{index_of, has_label, has_default, all_labels, first_arm}
use Rattle.mv_meaning.specs.Growth.{capped}
use Rattle.mv_interpret.proofs.Steps.{capped_sum}

false_is_not : false ≡ true → ⊥
false_is_not e = cc

abbrev next_tried : Bool → Tried → Tried
next_tried b rest = if b then record { labels = 1; found = true } else record { labels = 1 + rest.labels; found = rest.found }

-- one of the first labels is the value
found-append : (v : ℕ) (xs ys : List ℕ) → (tried_labels v xs).found ≡ true →
    tried_labels v (xs ++ ys) ≡ record { labels = (tried_labels v xs).labels; found = true }
found-append v [] ys h = absurd (false_is_not h)
found-append v (x ∷ xs) ys h =
    let P : Bool → Type 0 = λ b.
    (next_tried b (tried_labels v xs)).found ≡ true →
    next_tried b (tried_labels v (xs ++ ys)) ≡ record { labels = (next_tried b (tried_labels v xs)).labels; found = true } in
    let go : P (nat_eq v x) =
    elim (nat_eq v x) as P [ true ↦ λ k. refl | false ↦ λ k. ap (next_tried false) (found-append v xs ys k) ] in
    go h

-- none of them is
passed-append : (v : ℕ) (xs ys : List ℕ) → (tried_labels v xs).found ≡ false →
    tried_labels v (xs ++ ys) ≡ record { labels = (tried_labels v xs).labels + (tried_labels v ys).labels; found = (tried_labels v ys).found }
passed-append v [] ys h =
    let t : Tried = tried_labels v ys in
    let e : t.labels ≡ 0 + t.labels = omega arith in
    ap (λ (n : ℕ). let r : Tried = record { labels = n; found = t.found } in r) e
passed-append v (x ∷ xs) ys h =
    let t : Tried = tried_labels v ys in
    let P : Bool → Type 0 = λ b.
    (next_tried b (tried_labels v xs)).found ≡ false →
    next_tried b (tried_labels v (xs ++ ys)) ≡ record { labels = (next_tried b (tried_labels v xs)).labels + t.labels; found = t.found } in
    let go : P (nat_eq v x) =
    elim (nat_eq v x) as P [
      | true ↦ λ k. absurd (false_is_not (sym k))
      | false ↦ λ k.
          let n : ℕ = (tried_labels v xs).labels in
          let e : 1 + (n + t.labels) ≡ 1 + n + t.labels = omega arith in
          ap (next_tried false) (passed-append v xs ys k) ∙ ap (λ (m : ℕ). let r : Tried = record { labels = m; found = t.found } in r) e
    ] in
    go h

-- a state in which some work is counted
abbrev pub with_work : State → ℕ → State
with_work s n = record s { work = capped (s.work + n) }

pub nothing_counted : (s : State) (n : ℕ) → s.work ≤ 2 ^ 64 - 1 → n ≡ 0 → s ≡ with_work s n
nothing_counted s n le e =
    let h : s.work ≡ capped (s.work + n) = omega arith in
    ap (λ (m : ℕ). let r : State = record s { work = m } in r) h

pub counted_both : (s s1 : State) (a b : ℕ) → s1 ≡ with_work s a → with_work s1 b ≡ with_work s (a + b)
counted_both s s1 a b e =
    ap (λ x. with_work x b) e ∙ ap (λ (m : ℕ). let r : State = record s { work = m } in r) (sym (capped_sum s.work a b))

module _ (v : ℕ) (items : List Arm) (i : ℕ) (a : Arm) (lt : i < length items) (ea : a ≡ get_or items i a) where
  rest_is : drop i items ≡ a ∷ drop (i + 1) items
  rest_is = drop_more items i a lt ∙ ap (λ x. x ∷ drop (i + 1) items) (sym ea)

  pub found_tried : (tried_labels v a.labels).found ≡ true →
      tried_labels v (all_labels (drop i items)) ≡ record { labels = (tried_labels v a.labels).labels; found = true }
  found_tried h = ap (λ x. tried_labels v (all_labels x)) rest_is ∙ found-append v a.labels (all_labels (drop (i + 1) items)) h

  pub passed_tried : (tried_labels v a.labels).found ≡ false →
      tried_labels v (all_labels (drop i items)) ≡
      record {
        labels = (tried_labels v a.labels).labels + (tried_labels v (all_labels (drop (i + 1) items))).labels;
        found = (tried_labels v (all_labels (drop (i + 1) items))).found;
      }
  passed_tried h = ap (λ x. tried_labels v (all_labels x)) rest_is ∙ passed-append v a.labels (all_labels (drop (i + 1) items)) h

  module _ (is_picked : Arm → Bool) where
    pub picked_index : is_picked a ≡ true → i + index_of is_picked (drop i items) ≡ i
    picked_index h =
        ap (λ x. i + index_of is_picked x) rest_is ∙
        (ap (λ b. i + (if b then 0 else suc (index_of is_picked (drop (i + 1) items)))) h ∙ omega arith)

    pub passed_index : is_picked a ≡ false → i + 1 + index_of is_picked (drop (i + 1) items) ≡ i + index_of is_picked (drop i items)
    passed_index h =
        let n : ℕ = index_of is_picked (drop (i + 1) items) in
        let e : i + 1 + n ≡ i + suc n = omega arith in
        e ∙
        sym (ap (λ x. i + index_of is_picked x) rest_is ∙ ap (λ b. i + (if b then 0 else suc n)) h)

-- the first arm that has the value as a label
pub found_first : (v : ℕ) (items : List Arm) → (tried_labels v (all_labels items)).found ≡ true → index_of (has_label v) items ≡ first_arm v items
found_first v items h = ap (λ b. if b then index_of (has_label v) items else index_of has_default items) (sym h)
