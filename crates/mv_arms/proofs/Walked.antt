-- How the walk over code goes on, and what it gives.
use Rattle.std.proofs.Common.{◌≡◌, ℕ, ◌+◌, ◌-◌, ◌<◌, ◌≤◌, true, List, [], ◌∷◌, ◌++◌, length, take, get_or, drop, append_assoc, append-nil, arith, sym, ◌∙◌, ap, subst}
use Rattle.std.proofs.lemmas.List.{take_more, drop_more, drop_all, length-drop}
use Rattle.mv_ir.specs.declared.tree.Tree.{Tree}
use Rattle.mv_ir.specs.declared.stm.Stm.{Stm}
use Rattle.mv_ir.specs.declared.stm.Stm as at
use Rattle.mv_ir.specs.declared.stm.Stm.TheOpen.{Stm-F}
use Rattle.mv_ir.specs.declared.stm.Stm.TheOpen as stm
use Rattle.mv_ir.specs.declared.stm.Stm.TheViews.{roll-Stm, out-roll-Stm}
use Rattle.mv_ir.specs.declared.stm.Stm.TheVariants.{rolls-If, rolls-Loop, rolls-Block, rolls-Break, rolls-Back}
use Rattle.mv_ir.specs.Rolled.{number, set, choose, break, repeat, enclosed}
use Rattle.mv_ir.proofs.Induction.{StmChildren, stm_ind}
use Rattle.mv_arms.specs.Arms.{level, back, passed, Steered, other, test, IsArm, AreArms, layer_is_still, is_still, Arms, Nests, none, still, leave, again, branch, turns, block, switch, all, arm}
use Rattle.mv_arms.specs.Walking.{leaving, IsTest, Steers, IsPlan, Becomes, NestsCode, IsNextArm}

-- ---- arms and tests

pub are_more : (t i : ℕ) (places : List ℕ) (arms : List Stm) (a : Stm) → AreArms t places arms → IsArm t i a → AreArms t (places ++ i ∷ []) (arms ++ a ∷ [])
are_more t i [] [] a h k = (k, tt)
are_more t i [] (x ∷ arms) a h k = absurd h
are_more t i (j ∷ places) [] a h k = absurd h
are_more t i (j ∷ places) (x ∷ arms) a h k = (h.0, are_more t i places arms a h.1 k)

pub are_next : (t i : ℕ) (before places : List ℕ) (arms : List Stm) (n : ℕ) (d a : Stm) → n < length arms → a ≡ get_or arms n d → AreArms t before (take n arms) → IsArm t i a →
    places ≡ before ++ i ∷ [] → AreArms t places (take (n + 1) arms)
are_next t i before places arms n d a lt is h k e =
    let more : take (n + 1) arms ≡ take n arms ++ a ∷ [] = take_more arms n d lt ∙ ap (λ x. take n arms ++ x ∷ []) (sym is) in
    subst (λ p. AreArms t p (take (n + 1) arms)) (sym e) (subst (AreArms t (before ++ i ∷ [])) (sym more) (are_more t i before (take n arms) a h k))

module _ (t : ℕ) (places : List ℕ) where
  pub steers_next : (tests before made : List Stm) (i : ℕ) (d s y : Stm) → i < length tests → s ≡ get_or tests i d → Steers t places (take i tests) before → IsTest t places s y → made ≡ before ++ y ∷ [] →
      Steers t places (take (i + 1) tests) made
  steers_next tests before made i d s y lt is h k e rest rest' g =
      let longer : take (i + 1) tests ++ rest ≡ take i tests ++ s ∷ rest =
      ap (λ l. l ++ rest) (take_more tests i d lt ∙ ap (λ x. take i tests ++ x ∷ []) (sym is)) ∙ append_assoc (take i tests) (s ∷ []) rest
      in
      let first : Steered t places (s ∷ rest) (y ∷ rest') =
      subst (λ x. Steered t places (x ∷ rest) (y ∷ rest')) (sym k.is)
      (subst (λ x. Steered t places (choose k.test (leaving t k.place 0) [] ∷ rest) (x ∷ rest')) (sym k.becomes) (test k.test k.place rest rest' g))
      in
      subst (λ l. Steered t places l (made ++ rest')) (sym longer)
      (subst (Steered t places (take i tests ++ s ∷ rest)) (sym (ap (λ l. l ++ rest') e ∙ append_assoc before (y ∷ []) rest')) (h (s ∷ rest) (y ∷ rest') first))

  pub steers_end : (tests begun before made last : List Stm) (p k : ℕ) → begun ≡ tests → Steers t places begun before → k ≡ passed places p → last ≡ leaving t p k → made ≡ before ++ last →
      Steered t places (tests ++ set t (number p) ∷ []) made
  steers_end tests begun before made last p k eb h ek el em =
      subst (λ l. Steered t places (l ++ set t (number p) ∷ []) made) eb
      (subst (Steered t places (begun ++ set t (number p) ∷ [])) (sym (em ∙ ap (λ l. before ++ l) (el ∙ ap (leaving t p) ek)))
      (h (set t (number p) ∷ []) (leaving t p (passed places p)) (other p)))

-- ---- statements that stay

pub still_roll : (x : Stm-F Stm) → is_still (roll-Stm x) ≡ layer_is_still x
unfolding is_still
still_roll x = ap layer_is_still (out-roll-Stm x)

module _ (temps : ℕ) (levels : List ℕ) where
  abbrev B : List Stm → List Stm → Type 0
  B = Becomes temps levels

  pub if_becomes : (t t' : Tree) (a a' b b' : List Stm) → t' ≡ t → Arms temps levels a a' → Arms temps levels b b' → B (at.If t a b ∷ []) (at.If t' a' b' ∷ [])
  if_becomes t t' a a' b b' e ha hb rest rest' h =
      subst (λ u. Arms temps levels (at.If t a b ∷ rest) (at.If u a' b' ∷ rest')) (sym e)
      (subst (λ x. Arms temps levels (x ∷ rest) (at.If t a' b' ∷ rest')) (rolls-If t a b)
      (subst (λ y. Arms temps levels (choose t a b ∷ rest) (y ∷ rest')) (rolls-If t a' b') (branch levels t a b a' b' rest rest' ha hb h)))

  pub loop_becomes : (b b' : List Stm) (inner : List ℕ) → inner ≡ 0 ∷ levels → Arms temps inner b b' → B (at.Loop b ∷ []) (at.Loop b' ∷ [])
  loop_becomes b b' inner e hb rest rest' h =
      subst (λ x. Arms temps levels (x ∷ rest) (at.Loop b' ∷ rest')) (rolls-Loop b)
      (subst (λ y. Arms temps levels (repeat b ∷ rest) (y ∷ rest')) (rolls-Loop b') (turns levels b b' rest rest' (subst (λ l. Arms temps l b b') e hb) h))

  pub block_becomes : (b b' : List Stm) (inner : List ℕ) → inner ≡ 0 ∷ levels → Arms temps inner b b' → B (at.Block b ∷ []) (at.Block b' ∷ [])
  block_becomes b b' inner e hb rest rest' h =
      subst (λ x. Arms temps levels (x ∷ rest) (at.Block b' ∷ rest')) (rolls-Block b)
      (subst (λ y. Arms temps levels (enclosed b ∷ rest) (y ∷ rest')) (rolls-Block b') (block levels b b' rest rest' (subst (λ l. Arms temps l b b') e hb) h))

  pub switch_becomes : (b made tests : List Stm) → IsPlan temps b tests → NestsCode temps levels tests b made → B (at.Block b ∷ []) (at.Block made ∷ [])
  switch_becomes b made tests p n rest rest' h =
      subst (λ x. Arms temps levels (x ∷ rest) (at.Block made ∷ rest')) (rolls-Block b)
      (subst (λ y. Arms temps levels (enclosed b ∷ rest) (y ∷ rest')) (rolls-Block made)
      (subst (λ l. Arms temps levels (enclosed l ∷ rest) (enclosed made ∷ rest')) (sym p.is)
      (switch levels p.temp p.places p.tests tests p.arms made rest rest' p.low p.some p.are p.steered (n (enclosed p.tests) p.arms p.is) h)))

  pub break_becomes : (n m : ℕ) → m ≡ level levels n → B (at.Break n ∷ []) (at.Break m ∷ [])
  break_becomes n m e rest rest' h =
      subst (λ k. Arms temps levels (at.Break n ∷ rest) (at.Break k ∷ rest')) (sym e)
      (subst (λ x. Arms temps levels (x ∷ rest) (at.Break (level levels n) ∷ rest')) (rolls-Break n)
      (subst (λ y. Arms temps levels (break n ∷ rest) (y ∷ rest')) (rolls-Break (level levels n)) (leave levels n rest rest' h)))

  pub back_becomes : (n m : ℕ) → m ≡ level levels n → B (at.Back n ∷ []) (at.Back m ∷ [])
  back_becomes n m e rest rest' h =
      subst (λ k. Arms temps levels (at.Back n ∷ rest) (at.Back k ∷ rest')) (sym e)
      (subst (λ x. Arms temps levels (x ∷ rest) (at.Back (level levels n) ∷ rest')) (rolls-Back n)
      (subst (λ y. Arms temps levels (back n ∷ rest) (y ∷ rest')) (rolls-Back (level levels n)) (again levels n rest rest' h)))

  -- it is none of those with others in it, and no jump to a loop or block
  abbrev pub IsOther : Stm → Type 0
  IsOther s = ((t : Tree) (a b : List Stm) → s ≡ at.If t a b → ⊥) × ((b : List Stm) → s ≡ at.Loop b → ⊥) × ((b : List Stm) → s ≡ at.Block b → ⊥) × ((n : ℕ) → s ≡ at.Break n → ⊥) × ((n : ℕ) → s ≡ at.Back n → ⊥)

  abbrev StillIf : Stm → Type 0
  StillIf s = IsOther s → is_still s ≡ true

  still_layer : (x : Stm-F Stm) → StmChildren StillIf x → StillIf (roll-Stm x)
  still_layer (stm.Set t v) k h = still_roll (stm.Set t v)
  still_layer (stm.SetGlobal g v) k h = still_roll (stm.SetGlobal g v)
  still_layer (stm.Divide t o a b) k h = still_roll (stm.Divide t o a b)
  still_layer (stm.Check a i) k h = still_roll (stm.Check a i)
  still_layer (stm.Read t a i) k h = still_roll (stm.Read t a i)
  still_layer (stm.Write a i v) k h = still_roll (stm.Write a i v)
  still_layer (stm.Zero l) k h = still_roll (stm.Zero l)
  still_layer (stm.If t a b) k h = absurd (h.0 t a b (rolls-If t a b))
  still_layer (stm.Loop b) k h = absurd (h.1 b (rolls-Loop b))
  still_layer (stm.Block b) k h = absurd (h.2 b (rolls-Block b))
  still_layer (stm.Break n) k h = absurd (h.3 n (rolls-Break n))
  still_layer (stm.Back n) k h = absurd (h.4 n (rolls-Back n))
  still_layer (stm.Call u c args) k h = still_roll (stm.Call u c args)
  still_layer (stm.Known u c args) k h = still_roll (stm.Known u c args)
  still_layer (stm.Return v) k h = still_roll (stm.Return v)

  pub other_becomes : (s y : Stm) → IsOther s → y ≡ s → B (s ∷ []) (y ∷ [])
  other_becomes s y o e rest rest' h =
      subst (λ z. Arms temps levels (s ∷ rest) (z ∷ rest')) (sym e) (still levels s rest rest' (stm_ind StillIf still_layer s o) h)

  -- ---- the walk

  pub walk_next : (code before made : List Stm) (i : ℕ) (d s y : Stm) → i < length code → s ≡ get_or code i d → B (take i code) before → B (s ∷ []) (y ∷ []) → made ≡ before ++ y ∷ [] →
      B (take (i + 1) code) made
  walk_next code before made i d s y lt is h k e rest rest' g =
      let longer : take (i + 1) code ++ rest ≡ take i code ++ s ∷ rest =
      ap (λ l. l ++ rest) (take_more code i d lt ∙ ap (λ x. take i code ++ x ∷ []) (sym is)) ∙ append_assoc (take i code) (s ∷ []) rest
      in
      subst (λ l. Arms temps levels l (made ++ rest')) (sym longer)
      (subst (Arms temps levels (take i code ++ s ∷ rest)) (sym (ap (λ l. l ++ rest') e ∙ append_assoc before (y ∷ []) rest'))
      (h (s ∷ rest) (y ∷ rest') (k rest rest' g)))

  pub walk_ends : (code begun made : List Stm) → begun ≡ code → B begun made → Arms temps levels code made
  walk_ends code begun made e h =
      subst (λ l. Arms temps levels l made) (append-nil begun ∙ e) (subst (Arms temps levels (begun ++ [])) (append-nil made) (h [] [] (none levels)))

-- ---- arms of a `switch`

module _ (temps : ℕ) (levels : List ℕ) where
  pub next_arm : (behind : ℕ) (c : Tree) (a b b' inner first made : List Stm) (arm_stm : Stm) (around : List ℕ) → arm_stm ≡ at.If c a b → around ≡ behind ∷ levels → Arms temps around b b' →
      first ≡ at.Block inner ∷ [] → made ≡ first ++ b' → IsNextArm temps levels behind arm_stm inner made
  next_arm behind c a b b' inner first made s around es ea h ef em arms all_made count n =
      let is : made ≡ enclosed inner ∷ b' = em ∙ ap (λ l. l ++ b') ef ∙ ap (λ x. x ∷ b') (sym (rolls-Block inner)) in
      subst (λ x. Nests temps levels inner (x ∷ arms) all_made) (rolls-If c a b ∙ sym es)
      (arm levels inner c a b b' arms all_made (subst (λ l. Arms temps l b b') (ea ∙ ap (λ k. k ∷ levels) (sym count)) h) (subst (λ l. Nests temps levels l arms all_made) is n))

  -- the arms from a place on, behind what was made
  abbrev pub Leads : List Stm → List Stm → List Stm → List Stm → Type 0
  Leads tests code made rest = (all_made : List Stm) → Nests temps levels made rest all_made → Nests temps levels tests (drop 1 code) all_made

  pub leads_next : (tests code before made : List Stm) (i behind : ℕ) (d s : Stm) → i < length code → s ≡ get_or code i d → behind ≡ length code - 1 - i → Leads tests code before (drop i code) →
      IsNextArm temps levels behind s before made → Leads tests code made (drop (i + 1) code)
  leads_next tests code before made i behind d s lt is eb h k all_made n =
      let count : length (drop (i + 1) code) ≡ behind = omega (arith, length-drop (i + 1) code, eb, lt) in
      h all_made (subst (λ l. Nests temps levels before l all_made) (sym (drop_more code i d lt ∙ ap (λ x. x ∷ drop (i + 1) code) (sym is))) (k (drop (i + 1) code) all_made count n))

  pub leads_end : (tests code made : List Stm) (i : ℕ) → length code ≤ i → Leads tests code made (drop i code) → NestsCode temps levels tests code made
  leads_end tests code made i le h first arms e =
      subst (λ l. Nests temps levels tests l made) (ap (drop 1) e) (h made (subst (λ l. Nests temps levels made l made) (sym (drop_all i code le)) (all levels made)))

pub ruleset becoming = (if_becomes, loop_becomes, block_becomes, switch_becomes, break_becomes, back_becomes)
