-- The actions of items, one item after the other.
use Rattle.std.proofs.Common.{ℕ, suc, refl, ◌≡◌, ◌<◌, ◌≤◌, ◌+◌, ◌-◌, false, List, [], ◌∷◌, ◌++◌, length, get_or, take, drop, sym, ap, ◌∙◌, subst, arith, append_assoc, length-append, drop-cons, add-one, pos, cond, inl, inr}
use Rattle.std.proofs.lemmas.Bool.{lt-ltb, cases_lt}
use Rattle.std.proofs.lemmas.List.Elements.{All-nil, All-append, All-replicate}
use Rattle.std.proofs.lemmas.Bool.Decides.{nat_tests}
use Rattle.std.specs.Prelude.{Option, Some, None, is_none, replicate, nat_lt, unwrap_or, All}
use Rattle.std.proofs.lemmas.List.{take_all, length-replicate, get_or_default}
use Rattle.std.proofs.lemmas.List.Sums.{position_or_len_is}
use Rattle.std.proofs.lemmas.Option.{none-some}
use Rattle.mv_ast.specs.declared.program.Program.{Program}
use Rattle.mv_bindings.specs.declared.action.Action.{Action}
use Rattle.mv_bindings.specs.declared.action.Action.TheVariants.{Skip}
use Rattle.mv_command.specs.declared.items.Item.{Item}
use Rattle.mv_command.specs.Items.{Ascend}
use Rattle.mv_image.specs.Spelling.{Fields}
use Rattle.mv_actions.specs.declared.controls.Control.{Control}
use Rattle.mv_actions.specs.Controls.{controls_of, controls_in}
use Rattle.mv_actions.specs.Operator.{flip_of, actions_from, wrong_item, AreActions, IsFirstIdle, IsActions, IsFirstWrong, IsImageActions, IsImageFirstWrong}

-- the item behind so many, and those behind it
pub next_item : (polls : ℕ) (items : List Item) (k : ℕ) (item : Item) → k < length items → item ≡ get_or items k item → Ascend polls (drop k items) → (polls < item.poll) × Ascend item.poll (drop (k + 1) items)
next_item polls items k item here is ascend =
    let cut : drop k items ≡ item ∷ drop (k + 1) items = drop-cons items k item here ∙ ap (λ i. i ∷ drop (suc k) items) (sym is) ∙ ap (λ n. item ∷ drop n items) (sym (add-one k)) in
    subst (Ascend polls) cut ascend

-- one item more
pub acting : (switches : List Control) (items : List Item) (all actions filled more : List Action) (k : ℕ) (item : Item) (flip : Action) → k < length items → item ≡ get_or items k item → flip_of switches item ≡ Some flip →
    length actions < item.poll → all ≡ actions ++ actions_from switches (length actions) (drop k items) →
    filled ≡ take (item.poll - 1) actions ++ replicate (item.poll - 1 - length actions) Skip → more ≡ filled ++ flip ∷ [] →
    (length more ≡ item.poll) × (all ≡ more ++ actions_from switches (length more) (drop (k + 1) items))
acting switches items all actions filled more k item flip here is does later before skips grown =
    let cut : drop k items ≡ item ∷ drop (k + 1) items = drop-cons items k item here ∙ ap (λ i. i ∷ drop (suc k) items) (sym is) ∙ ap (λ n. item ∷ drop n items) (sym (add-one k)) in
    let gap = replicate (item.poll - 1 - length actions) Skip in
    let kept : filled ≡ actions ++ gap = skips ∙ ap (λ l. l ++ gap) (take_all (item.poll - 1) actions (omega (arith, later))) in
    let long : length more ≡ item.poll =
    ap length grown ∙ length-append filled (flip ∷ []) ∙ ap (λ n. n + 1) (ap length kept ∙ length-append actions gap ∙ ap (λ n. length actions + n) (length-replicate (item.poll - 1 - length actions) Skip)) ∙ omega (arith, later) in
    let rest = actions_from switches item.poll (drop (k + 1) items) in
    let same : item.poll - length actions - 1 ≡ item.poll - 1 - length actions = omega arith in (
      long,
      before ∙ ap (λ l. actions ++ actions_from switches (length actions) l) cut ∙ ap (λ n. actions ++ (replicate n Skip ++ (unwrap_or (flip_of switches item) Skip ∷ rest))) same ∙
          ap (λ a. actions ++ (gap ++ (unwrap_or a Skip ∷ rest))) does ∙ sym (append_assoc actions gap (flip ∷ rest)) ∙ ap (λ l. l ++ flip ∷ rest) (sym kept) ∙ sym (append_assoc filled (flip ∷ []) rest) ∙
          ap (λ l. l ++ rest) (sym grown) ∙ ap (λ n. more ++ actions_from switches n (drop (k + 1) items)) (sym long),
    )

-- every item is right so far
pub right_more : (switches : List Control) (items : List Item) (k : ℕ) (item : Item) (flip : Action) → ((j : ℕ) (d : Item) → j < k → is_none (flip_of switches (get_or items j d)) ≡ false) → k < length items → item ≡ get_or items k item →
    flip_of switches item ≡ Some flip → (j : ℕ) (d : Item) → j < k + 1 → is_none (flip_of switches (get_or items j d)) ≡ false
right_more switches items k item flip right here is does j d below =
    elim (cases_lt j k) [
      | inl less ↦ right j d less
      | inr least ↦
          let same : j ≡ k = omega (arith, least, below) in
          let last : get_or items j d ≡ item = ap (λ n. get_or items n d) same ∙ get_or_default items k d item here ∙ sym is in
          ap (λ i. is_none (flip_of switches i)) last ∙ ap is_none does
    ]

-- some item
no_item : Item
no_item = record { poll = 0; name = []; value = pos 0 }

pub none_wrong : (switches : List Control) (items : List Item) (k : ℕ) → length items ≤ k → ((j : ℕ) (d : Item) → j < k → is_none (flip_of switches (get_or items j d)) ≡ false) → wrong_item switches items ≡ None
none_wrong switches items k over right =
    let end = position_or_len_is (λ item. is_none (flip_of switches item)) items (length items) no_item (omega arith) (λ j here. right j no_item (omega (arith, here, over))) (λ l. absurd (omega (arith, l))) in
    let past : nat_lt (length items) (length items) ≡ false = grind (arith, nat_tests) in
    ap (λ n. cond (nat_lt n (length items)) (Some n) None) end ∙ ap (λ b. cond b (Some (length items)) None) past

pub first_wrong : (switches : List Control) (items : List Item) (k : ℕ) (item : Item) → k < length items → item ≡ get_or items k item
    → ((j : ℕ) (d : Item) → j < k → is_none (flip_of switches (get_or items j d)) ≡ false) → flip_of switches item ≡ None →
    wrong_item switches items ≡ Some k
first_wrong switches items k item here is right none =
    let at = position_or_len_is (λ item. is_none (flip_of switches item)) items k item (omega (arith, here)) (λ j less. right j item less) (λ l. ap (λ i. is_none (flip_of switches i)) (sym is) ∙ ap is_none none) in
    ap (λ n. cond (nat_lt n (length items)) (Some n) None) at ∙ ap (λ b. cond b (Some k) None) (lt-ltb k (length items) here)

-- ---- what holds of each action

one_action : (P : Action → Type 0) (switches : List Control) (item : Item) → P Skip → ((flip : Action) → flip_of switches item ≡ Some flip → P flip) → (does : Option Action) → flip_of switches item ≡ does → P (unwrap_or does Skip)
one_action P switches item nothing flips None e = nothing
one_action P switches item nothing flips (Some flip) e = flips flip e

-- what holds of `Skip` and of each flip
pub each_action : (P : Action → Type 0) (switches : List Control) → P Skip → ((item : Item) (flip : Action) → flip_of switches item ≡ Some flip → P flip) → (polls : ℕ) (items : List Item) → All P (actions_from switches polls items)
each_action P switches nothing flips polls [] = All-nil P
each_action P switches nothing flips polls (item ∷ rest) =
    let gap = replicate (item.poll - polls - 1) Skip in
    let flip = unwrap_or (flip_of switches item) Skip in
    let later = actions_from switches item.poll rest in
    All-append P gap (flip ∷ later) (All-replicate P (item.poll - polls - 1) Skip nothing)
    (All-append P (flip ∷ []) later (All-replicate P 1 flip (one_action P switches item nothing (flips item) (flip_of switches item) refl)) (each_action P switches nothing flips item.poll rest))

-- ---- one verdict

idle_not : (switches : List Control) (items : List Item) (actions : List Action) (number : ℕ) → AreActions switches items actions → IsFirstIdle switches items number → ⊥
idle_not switches items actions number acts wrong = none-some wrong.0 (sym acts.right ∙ wrong.1)

some_same : {x y : ℕ} → Some x ≡ Some y → x ≡ y
some_same {x = x} e = ap (λ o. unwrap_or o x) e

one_idle : (switches : List Control) (items : List Item) (number other : ℕ) → IsFirstIdle switches items number → IsFirstIdle switches items other → number ≡ other
one_idle switches items number other a b = a.2 ∙ ap (λ n. n + 1) (some_same (sym a.1 ∙ b.1)) ∙ sym b.2

-- ---- for the layers above

pub not_both : (p : Program) (items : List Item) (actions : List Action) (number : ℕ) → IsActions p items actions → IsFirstWrong p items number → ⊥
not_both p = idle_not (controls_of p)

pub one_wrong : (p : Program) (items : List Item) (number other : ℕ) → IsFirstWrong p items number → IsFirstWrong p items other → number ≡ other
one_wrong p = one_idle (controls_of p)

pub one_list : (p : Program) (items : List Item) (actions others : List Action) → IsActions p items actions → IsActions p items others → actions ≡ others
one_list p items actions others a b = a.are ∙ sym b.are

pub not_both_in : (image : Fields) (items : List Item) (actions : List Action) (number : ℕ) → IsImageActions image items actions → IsImageFirstWrong image items number → ⊥
not_both_in image = idle_not (controls_in image)

pub one_wrong_in : (image : Fields) (items : List Item) (number other : ℕ) → IsImageFirstWrong image items number → IsImageFirstWrong image items other → number ≡ other
one_wrong_in image = one_idle (controls_in image)

pub one_list_in : (image : Fields) (items : List Item) (actions others : List Action) → IsImageActions image items actions → IsImageActions image items others → actions ≡ others
one_list_in image items actions others a b = a.are ∙ sym b.are
