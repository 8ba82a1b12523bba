-- A relation holds of code and what becomes of it where it is kept by each step of that.
use Rattle.std.proofs.Common.{◌≡◌, ℕ, Bool, true, List, [], ◌∷◌, ◌++◌}
use Rattle.mv_ir.specs.declared.tree.Tree.{Tree}
use Rattle.mv_ir.specs.declared.stm.Stm.{Stm}
use Rattle.mv_ir.specs.declared.stm.Stm.TheOpen as stm
use Rattle.mv_ir.specs.declared.stm.Stm.TheViews.{roll-Stm}
use Rattle.mv_ir.specs.Live.{Around, nowhere}
use Rattle.mv_ir.specs.Measures.{calls}
use Rattle.mv_ir.specs.Rolled.{temp, set, choose}
use Rattle.mv_fold.specs.Simple.{jumps}
use Rattle.mv_tidy.specs.Tidying.{in_loop, in_block, before, IsOne, Left, Becomes, none, put, one, dropped, idle, ended, same, choice, turns, block, IsJoinedCode}
use Rattle.mv_tidy.specs.Choosing as chosen
use Rattle.mv_tidy.specs.Choosing.{Attached, Chosen, ChosenIn}

-- A relation of code that is kept by doing nothing, by one thing after the other, and by what is done to parts.
pub record IsCongruence (Q : List Stm → List Stm → Type 0) : Type 1 where
  pub itself : (xs : List Stm) → Q xs xs
  pub both : (xs xs' ys ys' : List Stm) → Q xs xs' → Q ys ys' → Q (xs ++ ys) (xs' ++ ys')
  pub trans : (xs ys zs : List Stm) → Q xs ys → Q ys zs → Q xs zs
  pub branch : (t : Tree) (a a' b b' : List Stm) → Q a a' → Q b b' → Q (roll-Stm (stm.If t a b) ∷ []) (roll-Stm (stm.If t a' b') ∷ [])
  pub loop : (b b' : List Stm) → Q b b' → Q (roll-Stm (stm.Loop b) ∷ []) (roll-Stm (stm.Loop b') ∷ [])
  pub enclose : (b b' : List Stm) → Q b b' → Q (roll-Stm (stm.Block b) ∷ []) (roll-Stm (stm.Block b') ∷ [])

-- And by joining statements, and by leaving some out.
pub record IsClosed (Q : List Stm → List Stm → Type 0) : Type 1 where
  pub parts : IsCongruence Q
  pub pair : (gone : ℕ → Type 0) (s n z : Stm) → IsOne gone s n z → Q (s ∷ n ∷ []) (z ∷ [])
  pub drop : (t : ℕ) (e : Tree) → Q (set t e ∷ []) []
  pub end : (s : Stm) (rest : List Stm) → jumps s ≡ true → calls rest ≡ 0 → Q (s ∷ rest) (s ∷ [])

module _ (temps : ℕ) (Q : List Stm → List Stm → Type 0) (q : IsClosed Q) where
  abbrev c : IsCongruence Q
  c = q.parts

  mutual
    left_is : (r : ℕ → Around) (code result : List Stm) (behind : ℕ → Bool) → Left temps r code behind result → Q code result
    left_is r code result behind (none p) = c.itself []
    left_is r code result behind (put p s y ss rest w h k) = c.both (s ∷ []) (y ∷ []) ss rest (becomes_is (before p ss) s y k) (left_is p ss rest w h)
    left_is r code result behind (one p s n z ss rest w h k) =
        c.trans (s ∷ ss) (s ∷ n ∷ rest) (z ∷ rest) (c.both (s ∷ []) (s ∷ []) ss (n ∷ rest) (c.itself (s ∷ [])) (left_is p ss (n ∷ rest) w h))
        (c.both (s ∷ n ∷ []) (z ∷ []) rest rest (q.pair _ s n z k) (c.itself rest))
    left_is r code result behind (dropped p t e ss rest w h lt dead) = c.both (set t e ∷ []) [] ss rest (q.drop t e) (left_is p ss rest w h)
    left_is r code result behind (idle p t ss rest w h lt) = c.both (set t (temp t) ∷ []) [] ss rest (q.drop t (temp t)) (left_is p ss rest w h)
    left_is r code result behind (ended p s ss rest w h j k) =
        c.trans (s ∷ ss) (s ∷ rest) (s ∷ []) (c.both (s ∷ []) (s ∷ []) ss rest (c.itself (s ∷ [])) (left_is p ss rest w h)) (q.end s rest j k)

    becomes_is : (r : ℕ → Around) (s y : Stm) → Becomes temps r s y → Q (s ∷ []) (y ∷ [])
    becomes_is r s y (same p u) = c.itself (u ∷ [])
    becomes_is r s y (choice p t a a' b b' v w h k) = c.branch t a a' b b' (left_is p a a' v h) (left_is p b b' w k)
    becomes_is r s y (turns p b b' w h) = c.loop b b' (left_is (in_loop p b) b b' w h)
    becomes_is r s y (block p b b' w h) = c.enclose b b' (left_is (in_block p) b b' w h)

  pub joined_is : (code result : List Stm) → IsJoinedCode temps code result → Q code result
  joined_is code result k = left_is (λ t. nowhere) code result k.behind k.left

-- The same of choices that are put together, where it is kept by each of these.
module _ (temps : ℕ) (Q : List Stm → List Stm → Type 0) (q : IsCongruence Q)
    (attach : (gone : ℕ → Type 0) (first : List Stm) (k : Tree) (x y z : List Stm) → Attached gone first k x y z → Q (first ++ choose k x y ∷ []) z) where
  mutual
    pub chosen_is : (r : ℕ → Around) (code result : List Stm) → Chosen temps r code result → Q code result
    chosen_is r code result (chosen.none p) = q.itself []
    chosen_is r code result (chosen.put p s y ss rest h k) = q.both (s ∷ []) (y ∷ []) ss rest (chosen_in (before p ss) s y k) (chosen_is p ss rest h)
    chosen_is r code result (chosen.merged p s c k a b x y z ss rest h i j) =
        q.trans (s ∷ ss) (choose c a b ∷ choose k x y ∷ rest) (z ++ rest)
        (q.both (s ∷ []) (choose c a b ∷ []) ss (choose k x y ∷ rest) (chosen_in (before p ss) s (choose c a b) i) (chosen_is p ss (choose k x y ∷ rest) h))
        (q.both (choose c a b ∷ choose k x y ∷ []) z rest rest (attach _ (choose c a b ∷ []) k x y z j) (q.itself rest))

    chosen_in : (r : ℕ → Around) (s y : Stm) → ChosenIn temps r s y → Q (s ∷ []) (y ∷ [])
    chosen_in r s y (chosen.same p u) = q.itself (u ∷ [])
    chosen_in r s y (chosen.choice p t a a' b b' h k) = q.branch t a a' b b' (chosen_is p a a' h) (chosen_is p b b' k)
    chosen_in r s y (chosen.turns p b b' h) = q.loop b b' (chosen_is (in_loop p b) b b' h)
    chosen_in r s y (chosen.block p b b' h) = q.enclose b b' (chosen_is (in_block p) b b' h)
