-- A short body in place of a call, statement by statement.
use Rattle.std.proofs.Common.{◌≡◌, ℕ, zero, suc, ◌+◌, ◌<◌, ◌≤◌, Bool, true, false, cond, List, [], ◌∷◌, ◌++◌, length, take, drop, get_or, Option, None, append_assoc, append-nil, arith, refl, sym, ◌∙◌, ap, subst}
use Rattle.std.specs.Prelude.{◌||◌, slice_get, slice_index_or}
use Rattle.std.proofs.lemmas.List.{take_more, drop_more, length-take-le}
use Rattle.mv_ir.specs.declared.tree.Tree.{Tree}
use Rattle.mv_ir.specs.declared.stm.Stm.{Stm}
use Rattle.mv_ir.specs.declared.stm.Stm as at
use Rattle.mv_ir.specs.declared.stm.Stm.TheOpen.{Stm-F}
use Rattle.mv_ir.specs.declared.stm.Stm.TheOpen as stm
use Rattle.mv_ir.specs.declared.stm.Stm.TheViews.{roll-Stm}
use Rattle.mv_ir.specs.declared.stm.Stm.TheVariants.{rolls-Set, rolls-Divide, rolls-Return}
use Rattle.mv_ir.specs.Measures.{deepest, deepest_of, stm_trees, trees}
use Rattle.mv_ir.specs.Rolled.{number, set}
use Rattle.mv_ir.specs.Trees.{depth}
use Rattle.mv_ir.proofs.Induction.{StmChildren, stm_ind}
use Rattle.mv_ir.proofs.Joining.{trees_append}
use Rattle.mv_ir.proofs.Lists.{joined_push}
use Rattle.mv_ir.proofs.Rolls.{trees_roll}
use Rattle.mv_expand.specs.Placed.{stm_sets, sets_temp, given_from, placed_stm, placed_code, steps}
use Rattle.mv_expand.proofs.Equations.{placed_roll}

-- ---- what is set

pub sets_next : (u : ℕ) (code : List Stm) (i : ℕ) (d : Stm) → i < length code → sets_temp u (drop i code) ≡ (stm_sets u (get_or code i d) || sets_temp u (drop (i + 1) code))
sets_next u code i d lt = ap (sets_temp u) (drop_more code i d lt)

-- ---- flags

-- ---- depths

within_both : (n : ℕ) (ts us : List Tree) → deepest_of ts ≤ n → deepest_of us ≤ n → deepest_of (ts ++ us) ≤ n
within_both n [] us h k = k
within_both n (t ∷ ts) us h k = let m : deepest_of ts ≤ n = omega (arith, h) in omega (arith, h, within_both n ts us m k)

pub deepest_more : (code : List Stm) (i : ℕ) (d : Stm) → i < length code → deepest (take i code) ≤ 4 → deepest_of (stm_trees (get_or code i d)) ≤ 4 → deepest (take (i + 1) code) ≤ 4
deepest_more code i d lt h k =
    subst (λ ts. deepest_of ts ≤ 4) (sym (ap trees (take_more code i d lt) ∙ trees_append (take i code) (get_or code i d ∷ [])))
    (within_both 4 (trees (take i code)) (stm_trees (get_or code i d) ++ []) h (within_both 4 (stm_trees (get_or code i d)) [] k (omega arith)))

pub shallow_set : (t : ℕ) (v : Tree) → depth v ≤ 4 → deepest_of (stm_trees (at.Set t v)) ≤ 4
shallow_set t v h = omega (arith, h, ap deepest_of (ap stm_trees (sym (rolls-Set t v)) ∙ trees_roll (stm.Set t v)))

pub shallow_divide : (t o : ℕ) (a b : Tree) → depth a ≤ 4 → depth b ≤ 4 → deepest_of (stm_trees (at.Divide t o a b)) ≤ 4
shallow_divide t o a b h k = omega (arith, h, k, ap deepest_of (ap stm_trees (sym (rolls-Divide t o a b)) ∙ trees_roll (stm.Divide t o a b)))

-- ---- steps

module _ (base : ℕ) (keeps : ℕ → Bool) (all : List Tree) where
  -- what an argument is put into
  abbrev pub own : ℕ → Tree → List Stm
  own i a = cond (keeps i) [] (set (base + i) a ∷ [])

  given_push : (i j : ℕ) (xs : List Tree) (a : Tree) → j ≡ i + length xs → given_from base keeps all i (xs ++ a ∷ []) ≡ given_from base keeps all i xs ++ own j a
  given_push i j [] a e = append-nil (own i a) ∙ ap (λ k. own k a) (omega (arith, e))
  given_push i j (x ∷ xs) a e =
      ap (λ l. own i x ++ l) (given_push (suc i) j xs a (omega (arith, e))) ∙ sym (append_assoc (own i x) (given_from base keeps all (suc i) xs) (own j a))

  pub given_more : (args : List Tree) (i : ℕ) (d : Tree) → i < length args → given_from base keeps all 0 (take (i + 1) args) ≡ given_from base keeps all 0 (take i args) ++ own i (get_or args i d)
  given_more args i d lt =
      ap (given_from base keeps all 0) (take_more args i d lt) ∙ given_push 0 i (take i args) (get_or args i d) (omega (arith, length-take-le i args (omega arith)))

  pub steps_more : (r : Option ℕ) (code : List Stm) (i : ℕ) (d : Stm) → i < length code →
      steps base keeps all r (take (i + 1) code) ≡ steps base keeps all r (take i code) ++ placed_stm base keeps all r (get_or code i d)
  steps_more r code i d lt =
      ap (λ l. given_from base keeps all 0 all ++ l) (joined_push (placed_stm base keeps all r) code i d lt) ∙
      sym (append_assoc (given_from base keeps all 0 all) (placed_code base keeps all r (take i code)) (placed_stm base keeps all r (get_or code i d)))

  pub given_set : (args : List Tree) (i : ℕ) (a copy : Tree) (before after : List Stm) → i < length args → a ≡ get_or args i a → keeps i ≡ false → copy ≡ a →
      before ≡ given_from base keeps all 0 (take i args) → after ≡ before ++ at.Set (base + i) copy ∷ [] → after ≡ given_from base keeps all 0 (take (i + 1) args)
  given_set args i a copy before after lt is gone ec eb ea =
      let set_it : at.Set (base + i) copy ∷ [] ≡ own i (get_or args i a) =
      ap (λ t. at.Set (base + i) t ∷ []) ec ∙ ap (λ s. s ∷ []) (sym (rolls-Set (base + i) a)) ∙ ap (λ b. cond b [] (set (base + i) a ∷ [])) (sym gone) ∙ ap (own i) is
      in
      ea ∙ ap (λ l. before ++ l) set_it ∙ ap (λ l. l ++ own i (get_or args i a)) eb ∙ sym (given_more args i a lt)

  pub given_kept : (args : List Tree) (i : ℕ) (before : List Stm) → i < length args → keeps i ≡ true → before ≡ given_from base keeps all 0 (take i args) →
      before ≡ given_from base keeps all 0 (take (i + 1) args)
  given_kept args i before lt there e =
      let d = number 0 in
      e ∙ sym (append-nil (given_from base keeps all 0 (take i args))) ∙
      ap (λ b. given_from base keeps all 0 (take i args) ++ cond b [] (set (base + i) (get_or args i d) ∷ [])) (sym there) ∙ sym (given_more args i d lt)

  pub steps_next : (r : Option ℕ) (items code : List Stm) (i : ℕ) (s : Stm) (before after : List Stm) → items ≡ code → i < length items → s ≡ get_or items i s →
      before ≡ steps base keeps all r (take i code) → after ≡ before ++ placed_stm base keeps all r s → after ≡ steps base keeps all r (take (i + 1) code)
  steps_next r items code i s before after e lt is eb ea =
      ea ∙ ap (λ l. l ++ placed_stm base keeps all r s) (eb ∙ ap (λ l. steps base keeps all r (take i l)) (sym e)) ∙
      ap (λ x. steps base keeps all r (take i items) ++ placed_stm base keeps all r x) is ∙ sym (steps_more r items i s lt) ∙ ap (λ l. steps base keeps all r (take (i + 1) l)) e

  module _ (r : Option ℕ) where
    -- it is no set, no division and no return
    abbrev pub IsOther : Stm → Type 0
    IsOther s = ((t : ℕ) (v : Tree) → s ≡ at.Set t v → ⊥) × ((t o : ℕ) (a b : Tree) → s ≡ at.Divide t o a b → ⊥) × ((v : Tree) → s ≡ at.Return v → ⊥)

    abbrev NothingOf : Stm → Type 0
    NothingOf s = IsOther s → placed_stm base keeps all r s ≡ []

    nothing_of : (x : Stm-F Stm) → StmChildren NothingOf x → NothingOf (roll-Stm x)
    nothing_of (stm.Set t v) k h = absurd (h.0 t v (rolls-Set t v))
    nothing_of (stm.SetGlobal g v) k h = placed_roll base keeps all r (stm.SetGlobal g v)
    nothing_of (stm.Divide t o a b) k h = absurd (h.1 t o a b (rolls-Divide t o a b))
    nothing_of (stm.Check a i) k h = placed_roll base keeps all r (stm.Check a i)
    nothing_of (stm.Read t a i) k h = placed_roll base keeps all r (stm.Read t a i)
    nothing_of (stm.Write a i v) k h = placed_roll base keeps all r (stm.Write a i v)
    nothing_of (stm.Zero l) k h = placed_roll base keeps all r (stm.Zero l)
    nothing_of (stm.If t a b) k h = placed_roll base keeps all r (stm.If t a b)
    nothing_of (stm.Loop b) k h = placed_roll base keeps all r (stm.Loop b)
    nothing_of (stm.Block b) k h = placed_roll base keeps all r (stm.Block b)
    nothing_of (stm.Break n) k h = placed_roll base keeps all r (stm.Break n)
    nothing_of (stm.Back n) k h = placed_roll base keeps all r (stm.Back n)
    nothing_of (stm.Call u c args) k h = placed_roll base keeps all r (stm.Call u c args)
    nothing_of (stm.Known u c args) k h = placed_roll base keeps all r (stm.Known u c args)
    nothing_of (stm.Return v) k h = absurd (h.2 v (rolls-Return v))

    pub nothing_placed_of : (s : Stm) → IsOther s → placed_stm base keeps all r s ≡ []
    nothing_placed_of = stm_ind NothingOf nothing_of

-- ---- what isn't there

pub index_none : {A : Type 0} (xs : List A) (i : ℕ) (d : A) → slice_get xs i ≡ None → slice_index_or xs i d ≡ d
index_none [] i d e = refl
index_none (x ∷ xs) zero d e = cc
index_none (x ∷ xs) (suc i) d e = index_none xs i d e
