-- A relation holds of code and what becomes of it where it is kept by each step of that.
use Rattle.std.proofs.Common.{◌≡◌, ℕ, ◌∙◌, ◌≤◌, List, [], ◌∷◌, ◌++◌, length, refl, sym, ap, subst, append_assoc, append-nil, arith}
use Rattle.mv_ir.specs.declared.tree.Tree.{Tree}
use Rattle.mv_ir.specs.declared.stm.Stm.{Stm}
use Rattle.mv_ir.specs.Rolled.{number, set, choose, break, repeat, enclosed}
use Rattle.mv_arms.specs.Arms.{level, back, passed, Steered, other, test, skips, EndsAtZero, IsArm, AreArms, Arms, Nests, none, still, leave, again, branch, turns, block, switch, all, arm}
use Rattle.mv_arms.specs.Walking.{leaving}
use Rattle.mv_arms.proofs.Steering.{same_right}

-- A relation of code that is kept by doing nothing, by one thing after the other, by what is done to parts, by other numbers of jumps, and where an arm gives way
-- to what becomes of its statements: the first with a jump behind the tests before it, and each other one with a block of all that was made before it.
pub record IsClosed (Q : List Stm → List Stm → Type 0) : Type 0 where
  pub itself : (xs : List Stm) → Q xs xs
  pub both : (xs xs' ys ys' : List Stm) → Q xs xs' → Q ys ys' → Q (xs ++ ys) (xs' ++ ys')
  pub trans : (xs ys zs : List Stm) → Q xs ys → Q ys zs → Q xs zs
  pub branches : (c : Tree) (a a' b b' : List Stm) → Q a a' → Q b b' → Q (choose c a b ∷ []) (choose c a' b' ∷ [])
  pub loops : (b b' : List Stm) → Q b b' → Q (repeat b ∷ []) (repeat b' ∷ [])
  pub encloses : (b b' : List Stm) → Q b b' → Q (enclosed b ∷ []) (enclosed b' ∷ [])
  pub leaves : (n k : ℕ) → Q (break n ∷ []) (break k ∷ [])
  pub restarts : (n k : ℕ) → Q (back n ∷ []) (back k ∷ [])
  pub first : (tests front : List Stm) (k t i : ℕ) (b b' : List Stm) → EndsAtZero t b → Q tests front → Q b b' →
      Q (enclosed tests ∷ choose (skips i t) [] b ∷ []) (enclosed (front ++ break k ∷ []) ∷ b')
  pub next : (inner : List Stm) (t i : ℕ) (b b' : List Stm) → EndsAtZero t b → Q b b' → Q (inner ++ choose (skips i t) [] b ∷ []) (enclosed inner ∷ b')

module _ (Q : List Stm → List Stm → Type 0) (q : IsClosed Q) where
  -- what tests become: the same but for the numbers of jumps, and a jump behind them
  record Steers (tests tests' : List Stm) : Type 0 where
    pub front : List Stm
    pub number : ℕ
    pub is : tests' ≡ front ++ break number ∷ []
    pub same : Q tests front

  steered_is : (t : ℕ) (places : List ℕ) (tests tests' : List Stm) → Steered t places tests tests' → Steers tests tests'
  steered_is t places tests tests' (other p) = record { front = set t (number p) ∷ []; number = passed places p; is = refl; same = q.itself (set t (number p) ∷ []) }
  steered_is t places tests tests' (test c p rest rest' h) =
      let k = steered_is t places rest rest' h in
      let made = choose c (leaving t p (passed places p)) [] in
      record {
        front = made ∷ k.front;
        number = k.number;
        is = ap (λ l. made ∷ l) k.is;
        same = q.both (choose c (leaving t p 0) [] ∷ []) (made ∷ []) rest k.front
            (q.branches c (leaving t p 0) (leaving t p (passed places p)) [] []
            (q.both (set t (number p) ∷ []) (set t (number p) ∷ []) (break 0 ∷ []) (break (passed places p) ∷ []) (q.itself (set t (number p) ∷ [])) (q.leaves 0 (passed places p))) (q.itself []))
            k.same;
      }

  -- the statements of an arm, and the arm by them
  ends : (t i : ℕ) (c : Tree) (a b : List Stm) → IsArm t i (choose c a b) → EndsAtZero t b
  ends t i c a b k = subst (EndsAtZero t) (sym (same_right c (skips i t) a [] b k.code k.is)) k.ends

  arm_is : (t i : ℕ) (c : Tree) (a b : List Stm) → IsArm t i (choose c a b) → choose (skips i t) [] b ≡ choose c a b
  arm_is t i c a b k = ap (choose (skips i t) []) (same_right c (skips i t) a [] b k.code k.is) ∙ sym k.is

  next_of : (t i : ℕ) (c : Tree) (a b : List Stm) → IsArm t i (choose c a b) → (inner b' : List Stm) → Q b b' → Q (inner ++ choose c a b ∷ []) (enclosed inner ∷ b')
  next_of t i c a b k inner b' h = subst (λ y. Q (inner ++ y ∷ []) (enclosed inner ∷ b')) (arm_is t i c a b k) (q.next inner t i b b' (ends t i c a b k) h)

  -- what becomes of the arms: of the first with the tests before it, and of each other one with all that was made before it
  abbrev NestsKeep : List Stm → List Stm → List Stm → Type 0
  NestsKeep inner arms made = (tests front : List Stm) (k : ℕ) → inner ≡ front ++ break k ∷ [] → Q tests front → 1 ≤ length arms → Q (enclosed tests ∷ arms) made

  mutual
    pub arms_is : (temps : ℕ) (levels : List ℕ) (code result : List Stm) → Arms temps levels code result → Q code result
    arms_is temps levels code result (none l) = q.itself []
    arms_is temps levels code result (still l s rest rest' e h) = q.both (s ∷ []) (s ∷ []) rest rest' (q.itself (s ∷ [])) (arms_is temps l rest rest' h)
    arms_is temps levels code result (leave l n rest rest' h) = q.both (break n ∷ []) (break (level l n) ∷ []) rest rest' (q.leaves n (level l n)) (arms_is temps l rest rest' h)
    arms_is temps levels code result (again l n rest rest' h) = q.both (back n ∷ []) (back (level l n) ∷ []) rest rest' (q.restarts n (level l n)) (arms_is temps l rest rest' h)
    arms_is temps levels code result (branch l c a b a' b' rest rest' ha hb h) =
        q.both (choose c a b ∷ []) (choose c a' b' ∷ []) rest rest' (q.branches c a a' b b' (arms_is temps l a a' ha) (arms_is temps l b b' hb)) (arms_is temps l rest rest' h)
    arms_is temps levels code result (turns l b b' rest rest' hb h) =
        q.both (repeat b ∷ []) (repeat b' ∷ []) rest rest' (q.loops b b' (arms_is temps _ b b' hb)) (arms_is temps l rest rest' h)
    arms_is temps levels code result (block l b b' rest rest' hb h) =
        q.both (enclosed b ∷ []) (enclosed b' ∷ []) rest rest' (q.encloses b b' (arms_is temps _ b b' hb)) (arms_is temps l rest rest' h)
    arms_is temps levels code result (switch l t places tests tests' arms made rest rest' low some are steered hn h) =
        let k = steered_is t places tests tests' steered in
        q.both (enclosed (enclosed tests ∷ arms) ∷ []) (enclosed made ∷ []) rest rest'
        (q.encloses (enclosed tests ∷ arms) made (first_is temps l t places tests' arms made are hn tests k.front k.number k.is k.same some)) (arms_is temps l rest rest' h)

    first_is : (temps : ℕ) (levels : List ℕ) (t : ℕ) (places : List ℕ) (inner arms made : List Stm) → AreArms t places arms → Nests temps levels inner arms made → NestsKeep inner arms made
    first_is temps levels t places inner arms made are (all l x) tests front k e h some = absurd (omega (arith, some))
    first_is temps levels t [] inner arms made are (arm l x c a b b' rest all_made hb hn) tests front k e h some = absurd are
    first_is temps levels t (i ∷ places) inner arms made are (arm l x c a b b' rest all_made hb hn) tests front k e h some =
        let here = q.first tests front k t i b b' (ends t i c a b are.0) h (arms_is temps _ b b' hb) in
        let there : Q (enclosed tests ∷ choose c a b ∷ []) (enclosed x ∷ b') =
        subst (λ y. Q (enclosed tests ∷ choose c a b ∷ []) (enclosed y ∷ b')) (sym e) (subst (λ y. Q (enclosed tests ∷ y ∷ []) (enclosed (front ++ break k ∷ []) ∷ b')) (arm_is t i c a b are.0) here)
        in
        q.trans (enclosed tests ∷ choose c a b ∷ rest) (enclosed x ∷ (b' ++ rest)) all_made (q.both (enclosed tests ∷ choose c a b ∷ []) (enclosed x ∷ b') rest rest there (q.itself rest))
        (next_is temps l t places (enclosed x ∷ b') rest all_made are.1 hn)

    next_is : (temps : ℕ) (levels : List ℕ) (t : ℕ) (places : List ℕ) (inner arms made : List Stm) → AreArms t places arms → Nests temps levels inner arms made → Q (inner ++ arms) made
    next_is temps levels t places inner arms made are (all l x) = subst (λ y. Q y x) (sym (append-nil x)) (q.itself x)
    next_is temps levels t [] inner arms made are (arm l x c a b b' rest all_made hb hn) = absurd are
    next_is temps levels t (i ∷ places) inner arms made are (arm l x c a b b' rest all_made hb hn) =
        q.trans (x ++ choose c a b ∷ rest) ((enclosed x ∷ b') ++ rest) all_made
        (subst (λ y. Q y ((enclosed x ∷ b') ++ rest)) (append_assoc x (choose c a b ∷ []) rest)
        (q.both (x ++ choose c a b ∷ []) (enclosed x ∷ b') rest rest (next_of t i c a b are.0 x b' (arms_is temps _ b b' hb)) (q.itself rest)))
        (next_is temps l t places (enclosed x ∷ b') rest all_made are.1 hn)
