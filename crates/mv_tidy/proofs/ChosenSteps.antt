-- A relation of code, in what is live around it, holds of choices and of what they are put together to where each step of that keeps it.
use Rattle.std.proofs.Common.{◌≡◌, ℕ, Bool, true, false, cond, eqb, List, [], ◌∷◌, ◌++◌, map, sym, ◌∙◌, ap, subst, append_assoc}
use Rattle.mv_num.proofs.Booleans.{from_falsity}
use Rattle.mv_ir.specs.declared.tree.Tree.{Tree}
use Rattle.mv_ir.specs.declared.stm.Stm.{Stm, out-Stm}
use Rattle.mv_ir.specs.declared.stm.Stm.TheOpen.{Stm-F}
use Rattle.mv_ir.specs.declared.stm.Stm.TheOpen as stm
use Rattle.mv_ir.specs.declared.stm.Stm.TheViews.{roll-Stm, roll-out-Stm}
use Rattle.mv_ir.specs.Operators as operator
use Rattle.mv_ir.specs.Live.{Around, with_after, live_in_order, flow}
use Rattle.mv_ir.specs.Rolled.{number, temp, unary, binary, set, choose, repeat, enclosed}
use Rattle.mv_ir.proofs.Rolls.{flow_roll}
use Rattle.mv_tidy.specs.Tidying.{lives, before, in_loop, in_block}
use Rattle.mv_tidy.specs.Choosing.{layer_jumps_only, is_jump, taken, sides, Attached, apart, denied, unequal, equal, pushed, jumped, IsUnread, Chosen, ChosenIn, none, put, merged, same, choice, turns, block}

pub record IsStepwise (temps : ℕ) (Q : (ℕ → Around) → List Stm → List Stm → Type 0) : Type 1 where
  pub itself : (r : ℕ → Around) (xs : List Stm) → Q r xs xs
  pub both : (r : ℕ → Around) (xs xs' ys ys' : List Stm) → Q (before r ys) xs xs' → Q r ys ys' → Q r (xs ++ ys) (xs' ++ ys')
  pub trans : (r : ℕ → Around) (xs ys zs : List Stm) → Q r xs ys → Q r ys zs → Q r xs zs
  pub branch : (r : ℕ → Around) (t : Tree) (a a' b b' : List Stm) → Q r a a' → Q r b b' → Q r (choose t a b ∷ []) (choose t a' b' ∷ [])
  pub loop : (r : ℕ → Around) (b b' : List Stm) → Q (in_loop r b) b b' → Q r (repeat b ∷ []) (repeat b' ∷ [])
  pub enclose : (r : ℕ → Around) (b b' : List Stm) → Q (in_block r) b b' → Q r (enclosed b ∷ []) (enclosed b' ∷ [])
  pub denies : (r : ℕ → Around) (k : Tree) (x y : List Stm) → Q r (choose (unary operator.logical_not k) x y ∷ []) (choose k y x ∷ [])
  pub differs : (r : ℕ → Around) (k : Tree) (x y : List Stm) → Q r (choose (binary operator.not_equal k (number 0)) x y ∷ []) (choose k x y ∷ [])
  pub equals : (r : ℕ → Around) (k : Tree) (x y : List Stm) → Q r (choose (binary operator.equal k (number 0)) x y ∷ []) (choose k y x ∷ [])
  -- code behind a choice goes to the end of both sides, and back
  pub inside : (r : ℕ → Around) (c : Tree) (a b code : List Stm) → Q r (choose c a b ∷ code) (choose c (a ++ code) (b ++ code) ∷ [])
  pub outside : (r : ℕ → Around) (c : Tree) (a b code : List Stm) → Q r (choose c (a ++ code) (b ++ code) ∷ []) (choose c a b ∷ code)
  -- what is asked for is what was just set
  pub asks : (r : ℕ → Around) (t : ℕ) (e : Tree) (x y : List Stm) → IsUnread temps r x y t → Q r (set t e ∷ choose (temp t) x y ∷ []) (choose e x y ∷ [])
  pub takes : (r : ℕ → Around) (t n : ℕ) (x y : List Stm) → IsUnread temps r x y t → Q r (set t (number n) ∷ choose (temp t) x y ∷ []) (taken n x y)
  -- one side is a jump, and the other stands behind the choice
  pub parts : (r : ℕ → Around) (n : ℕ) (e : Tree) (x y : List Stm) → is_jump (taken n y x) ≡ true →
      Q r (choose e x y ∷ []) (choose e (cond (eqb n 0) x []) (cond (eqb n 0) [] y) ∷ taken n x y)

-- ---- jumps

-- what holds of each jump holds of a side that is one
pub by_jump : (P : List Stm → Type 0) → ((n : ℕ) → P (roll-Stm (stm.Break n) ∷ [])) → ((n : ℕ) → P (roll-Stm (stm.Back n) ∷ [])) → (xs : List Stm) →
    is_jump xs ≡ true → P xs
by_jump P h k [] e = from_falsity e
by_jump P h k (s ∷ []) e = subst (λ u. P (u ∷ [])) (roll-out-Stm s) (by (out-Stm s) e)
  where
    by : (x : Stm-F Stm) → layer_jumps_only x ≡ true → P (roll-Stm x ∷ [])
    by (stm.Break n) e = h n
    by (stm.Back n) e = k n
    by _ e = from_falsity e
by_jump P h k (s ∷ t ∷ ss) e = from_falsity e

-- what is behind a jump is all the same to it
pub live_at_jump : (u : ℕ) (xs : List Stm) (r : Around) (b : Bool) → is_jump xs ≡ true →
    live_in_order (map (flow u) xs) (with_after r b) ≡ live_in_order (map (flow u) xs) r
live_at_jump u xs r b = by_jump (λ l. live_in_order (map (flow u) l) (with_after r b) ≡ live_in_order (map (flow u) l) r)
    (λ n. ap (λ f. f.live (with_after r b)) (flow_roll u (stm.Break n)) ∙ sym (ap (λ f. f.live r) (flow_roll u (stm.Break n))))
    (λ n. ap (λ f. f.live (with_after r b)) (flow_roll u (stm.Back n)) ∙ sym (ap (λ f. f.live r) (flow_roll u (stm.Back n)))) xs

swapped : (temps : ℕ) (r : ℕ → Around) (x y : List Stm) (u : ℕ) → IsUnread temps r x y u → IsUnread temps r y x u
swapped temps r x y u h = (h.0, (h.1.1, h.1.0))

-- a temporary that isn't live where either side begins isn't so where one of them stands behind the choice
unread_parts : (temps : ℕ) (r : ℕ → Around) (n : ℕ) (x y : List Stm) (u : ℕ) → is_jump (taken n y x) ≡ true → IsUnread temps r x y u →
    IsUnread temps (before r (taken n x y)) (cond (eqb n 0) x []) (cond (eqb n 0) [] y) u
unread_parts temps r n x y u j (lt, (dx, dy)) = by (eqb n 0) j
  where
    by : (c : Bool) → is_jump (cond c x y) ≡ true → IsUnread temps (before r (cond c y x)) (cond c x []) (cond c [] y) u
    by true k = (lt, (live_at_jump u x (r u) (lives r y u) k ∙ dx, dy))
    by false k = (lt, (dx, live_at_jump u y (r u) (lives r x u) k ∙ dy))

-- ---- choices that are put together

module _ (temps : ℕ) (Q : (ℕ → Around) → List Stm → List Stm → Type 0) (q : IsStepwise temps Q) where
  last : (r : ℕ → Around) (first xs ys : List Stm) → Q r xs ys → Q r (first ++ xs) (first ++ ys)
  last r first xs ys h = q.both r first first xs ys (q.itself (before r xs) first) h

  regrouped : (r : ℕ → Around) (xs ys zs result : List Stm) → Q r (xs ++ (ys ++ zs)) result → Q r ((xs ++ ys) ++ zs) result
  regrouped r xs ys zs result h = subst (λ l. Q r l result) (sym (append_assoc xs ys zs)) h

  sides_inside : (r : ℕ → Around) (turned : Bool) (c : Tree) (a b code : List Stm) →
      Q r (sides turned c a b ∷ code) (sides turned c (a ++ code) (b ++ code) ∷ [])
  sides_inside r true c a b code = q.inside r c b a code
  sides_inside r false c a b code = q.inside r c a b code

  sides_outside : (r : ℕ → Around) (turned : Bool) (c : Tree) (a b code : List Stm) →
      Q r (sides turned c (a ++ code) (b ++ code) ∷ []) (sides turned c a b ∷ code)
  sides_outside r true c a b code = q.outside r c b a code
  sides_outside r false c a b code = q.outside r c a b code

  sides_branch : (r : ℕ → Around) (turned : Bool) (c : Tree) (a a' b b' : List Stm) → Q r a a' → Q r b b' →
      Q r (sides turned c a b ∷ []) (sides turned c a' b' ∷ [])
  sides_branch r true c a a' b b' h k = q.branch r c b b' a a' k h
  sides_branch r false c a a' b b' h k = q.branch r c a a' b b' h k

  -- behind a side that ends by setting what the choice asks for
  ends : (r : ℕ → Around) (a : List Stm) (s : Stm) (rest result : List Stm) (a' : List Stm) → Q r (s ∷ rest) result → Q r (a ++ result) a' →
      Q r ((a ++ s ∷ []) ++ rest) a'
  ends r a s rest result a' h k = q.trans r _ (a ++ result) a' (regrouped r a (s ∷ []) rest (a ++ result) (last r a (s ∷ rest) result h)) k

  gathered : (r : ℕ → Around) (turned : Bool) (first a b a' b' : List Stm) (c e : Tree) (t n : ℕ) (x y : List Stm) → IsUnread temps r x y t →
      Q r (a ++ choose e x y ∷ []) a' → Q r (b ++ taken n x y) b' →
      Q r ((first ++ sides turned c (a ++ set t e ∷ []) (b ++ set t (number n) ∷ []) ∷ []) ++ choose (temp t) x y ∷ []) (first ++ sides turned c a' b' ∷ [])
  gathered r turned first a b a' b' c e t n x y d h k =
      let s = sides turned c (a ++ set t e ∷ []) (b ++ set t (number n) ∷ []) in
      let rest = choose (temp t) x y ∷ [] in
      regrouped r first (s ∷ []) rest _ (last r first (s ∷ rest) (sides turned c a' b' ∷ []) (q.trans r (s ∷ rest) _ _ (sides_inside r turned c _ _ rest)
      (sides_branch r turned c _ a' _ b' (ends r a (set t e) rest (choose e x y ∷ []) a' (q.asks r t e x y d) h)
      (ends r b (set t (number n)) rest (taken n x y) b' (q.takes r t n x y d) k))))

  attached_is : (gone : ℕ → Type 0) (r : ℕ → Around) (first : List Stm) (k : Tree) (x y z : List Stm) → Attached gone first k x y z →
      ((u : ℕ) → gone u → IsUnread temps r x y u) → Q r (first ++ choose k x y ∷ []) z
  attached_is gone r first k x y z (apart f c a b) g = q.itself r (f ++ choose c a b ∷ [])
  attached_is gone r first k x y z (denied f c a b w h) g =
      q.trans r _ _ w (last r f _ (choose c b a ∷ []) (q.denies r c a b)) (attached_is gone r f c b a w h (λ u d. swapped temps r a b u (g u d)))
  attached_is gone r first k x y z (unequal f c a b w h) g = q.trans r _ _ w (last r f _ (choose c a b ∷ []) (q.differs r c a b))
      (attached_is gone r f c a b w h g)
  attached_is gone r first k x y z (equal f c a b w h) g =
      q.trans r _ _ w (last r f _ (choose c b a ∷ []) (q.equals r c a b)) (attached_is gone r f c b a w h (λ u d. swapped temps r a b u (g u d)))
  attached_is gone r first k x y z (pushed turned f a b c e t n v w result d short h) g =
      gathered r turned f a b result (b ++ taken n v w) c e t n v w (g t d) (attached_is gone r a e v w result h g) (q.itself r (b ++ taken n v w))
  attached_is gone r first k x y z (jumped turned f a b c e t n v w result d j h) g =
      let code = taken n v w in
      let v' = cond (eqb n 0) v [] in
      let w' = cond (eqb n 0) [] w in
      let inner = attached_is gone (before r code) a e v' w' result h (λ u k. unread_parts temps r n v w u j (g u k)) in
      let side : Q r (a ++ choose e v w ∷ []) (result ++ code) =
      q.trans r _ (a ++ choose e v' w' ∷ code) (result ++ code) (last r a (choose e v w ∷ []) (choose e v' w' ∷ code) (q.parts r n e v w j))
      (subst (λ l. Q r l (result ++ code)) (append_assoc a (choose e v' w' ∷ []) code)
      (q.both r (a ++ choose e v' w' ∷ []) result code code inner (q.itself r code)))
      in
      q.trans r _ (f ++ sides turned c (result ++ code) (b ++ code) ∷ []) _
      (gathered r turned f a b (result ++ code) (b ++ code) c e t n v w (g t d) side (q.itself r (b ++ code)))
      (last r f (sides turned c (result ++ code) (b ++ code) ∷ []) (sides turned c result b ∷ code) (sides_outside r turned c result b code))

  mutual
    pub steps_is : (r : ℕ → Around) (code result : List Stm) → Chosen temps r code result → Q r code result
    steps_is r code result (none p) = q.itself p []
    steps_is r code result (put p s y ss rest h k) = q.both p (s ∷ []) (y ∷ []) ss rest (step_in (before p ss) s y k) (steps_is p ss rest h)
    steps_is r code result (merged p s c k a b x y z ss rest h i j) =
        q.trans p (s ∷ ss) (choose c a b ∷ choose k x y ∷ rest) (z ++ rest)
        (q.both p (s ∷ []) (choose c a b ∷ []) ss (choose k x y ∷ rest) (step_in (before p ss) s (choose c a b) i) (steps_is p ss (choose k x y ∷ rest) h))
        (q.both p (choose c a b ∷ choose k x y ∷ []) z rest rest
        (attached_is (IsUnread temps (before p rest) x y) (before p rest) (choose c a b ∷ []) k x y z j (λ u d. d)) (q.itself p rest))

    step_in : (r : ℕ → Around) (s y : Stm) → ChosenIn temps r s y → Q r (s ∷ []) (y ∷ [])
    step_in r s y (same p u) = q.itself p (u ∷ [])
    step_in r s y (choice p t a a' b b' h k) = q.branch p t a a' b b' (steps_is p a a' h) (steps_is p b b' k)
    step_in r s y (turns p b b' h) = q.loop p b b' (steps_is (in_loop p b) b b' h)
    step_in r s y (block p b b' h) = q.enclose p b b' (steps_is (in_block p) b b' h)
