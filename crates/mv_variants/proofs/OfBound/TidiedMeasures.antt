-- A measure isn't more after tidying, and it is the same where nothing but calls counts.
use Rattle.std.proofs.Common.{arith, ◌≡◌, ℕ, ◌+◌, ◌≤◌, Bool, true, false, cond, eqb, ◌||◌, List, [], ◌∷◌, ◌++◌, map, Option, Some, ◌∙◌, refl, sym, subst}
use Rattle.mv_ir.specs.declared.tree.Tree.{Tree}
use Rattle.mv_ir.specs.declared.stm.Callee.{Callee}
use Rattle.mv_ir.specs.declared.stm.Callee.TheVariants as callee
use Rattle.mv_ir.specs.declared.stm.Stm.{Stm, out-Stm}
use Rattle.mv_ir.specs.declared.stm.Stm.TheOpen.{Stm-F}
use Rattle.mv_ir.specs.declared.stm.Stm.TheOpen as stm
use Rattle.mv_ir.specs.declared.stm.Stm.TheViews.{roll-Stm, roll-out-Stm}
use Rattle.mv_ir.specs.declared.stm.Stm.TheFolds.{map-Stm}
use Rattle.mv_ir.specs.Measures.{total, layer_calls, stm_calls, calls}
use Rattle.mv_ir.specs.Operators as operator
use Rattle.mv_ir.specs.Rolled.{number, temp, unary, binary, set, choose}
use Rattle.mv_ir.proofs.Induction.{Each, StmChildren, stm_ind, stms_ind}
use Rattle.mv_ir.proofs.Rolls.{calls_roll}
use Rattle.mv_fold.specs.Simple.{alone}
use Rattle.mv_plain.specs.Plain as plain
use Rattle.mv_plain.specs.Plain.{PlainCode, PlainStm, IsPlainerCallee}
use Rattle.mv_tidy.specs.Tidying.{IsOne, divided, fetched, called, asked, carried, stored, written}
use Rattle.mv_tidy.specs.Choosing as chosen
use Rattle.mv_tidy.specs.Choosing.{Attached, layer_jumps_only, is_jump, is_nothing, taken, sides}
use Rattle.mv_tidy.specs.Tidied.{IsTidiedCode}
use Rattle.mv_tidy.proofs.Structure.{IsCongruence, IsClosed, joined_is, chosen_is}
use Rattle.mv_variants.proofs.OfBound.Measures.{SameGoal, Measure, all_append, branch_same, loop_same, block_same, Counts as SameCounts, equal}

-- Where there is no call, nothing counts, nor does what is left of one that is expanded; and a block counts what is in it.
pub record CountsCalls (layer : Stm-F ℕ → ℕ) : Type 0 where
  pub others : (x : Stm-F ℕ) → layer_calls x ≡ 0 → layer x ≡ 0
  pub expanded : (r : Option ℕ) (args : List Tree) → layer (stm.Call r callee.Expanded args) ≡ 0
  pub blocks : (a : List ℕ) → layer (stm.Block a) ≡ total a

pub same_goal : (f : Callee) → SameGoal f f
same_goal (callee.Direct f) = refl
same_goal (callee.Through t) = tt
same_goal (callee.Switched g) = refl
same_goal callee.Expanded = tt

plainer_goal : (f g : Callee) → IsPlainerCallee f g → SameGoal g f
plainer_goal f g (plain.same_callee h) = same_goal h
plainer_goal f g (plain.through t u p) = tt

module _ {layer : Stm-F ℕ → ℕ} {m : Stm → ℕ} (of : Measure layer m) where
  abbrev all : List Stm → ℕ
  all code = total (map m code)

  abbrev own : Stm-F Stm → ℕ
  own x = layer (map-Stm Stm ℕ m x)

  -- what a set counts, and a choice besides its sides
  abbrev one : ℕ
  one = layer (stm.Set 0 (number 0))

  abbrev fork : ℕ
  fork = layer (stm.If (number 0) [] [])

  -- the second counts no more, and as much where nothing but calls counts
  abbrev Counts : List Stm → List Stm → Type 0
  Counts xs ys = SameCounts of (CountsCalls layer) xs ys

  nothing_set : CountsCalls layer → one ≡ 0
  nothing_set f = f.others (stm.Set 0 (number 0)) refl

  set_is : (t : ℕ) (v : Tree) → m (set t v) ≡ one
  set_is t v = of.roll (stm.Set t v) ∙ of.set t 0 v (number 0)

  pub choice_is : (t : Tree) (a b : List Stm) → m (choose t a b) ≡ fork + (all a + all b)
  choice_is t a b = of.roll (stm.If t a b) ∙ of.branch t (number 0) (map m a) (map m b)

  -- ---- code without calls

  abbrev Idle : Stm → Type 0
  Idle s = stm_calls s ≡ 0 → m s ≡ 0

  idle_all : (code : List Stm) → Each Idle code → calls code ≡ 0 → all code ≡ 0
  idle_all [] h e = refl
  idle_all (s ∷ code) h e =
      let first = h.0 (omega (arith, e)) in
      let rest = idle_all code h.1 (omega (arith, e)) in
      omega (arith, first, rest)

  idle_parts : (x : Stm-F Stm) → StmChildren Idle x → layer_calls (map-Stm Stm ℕ stm_calls x) ≡ 0 → layer_calls (map-Stm Stm ℕ m x) ≡ 0
  idle_parts (stm.If t a b) h e =
      let first = idle_all a h.0 (omega (arith, e)) in
      let second = idle_all b h.1 (omega (arith, e)) in
      omega (arith, first, second)
  idle_parts (stm.Loop b) h e = idle_all b h e
  idle_parts (stm.Block b) h e = idle_all b h e
  idle_parts (stm.Call r f args) h e = absurd (omega (arith, e))
  idle_parts (stm.Set t v) h e = refl
  idle_parts (stm.SetGlobal g v) h e = refl
  idle_parts (stm.Divide t o a b) h e = refl
  idle_parts (stm.Check r i) h e = refl
  idle_parts (stm.Read t r i) h e = refl
  idle_parts (stm.Write r i v) h e = refl
  idle_parts (stm.Zero l) h e = refl
  idle_parts (stm.Break n) h e = refl
  idle_parts (stm.Back n) h e = refl
  idle_parts (stm.Known r k args) h e = refl
  idle_parts (stm.Return v) h e = refl

  pub idle : CountsCalls layer → (code : List Stm) → calls code ≡ 0 → all code ≡ 0
  idle f code = idle_all code (stms_ind Idle (stm_ind Idle (λ x h e. of.roll x ∙ f.others (map-Stm Stm ℕ m x) (idle_parts x h (sym (calls_roll x) ∙ e)))) code)

  -- ---- plainer trees

  twin : (x y : Stm-F Stm) → own y ≡ own x → m (roll-Stm y) ≡ m (roll-Stm x)
  twin x y e = of.roll y ∙ e ∙ sym (of.roll x)

  mutual
    plain_counts : (code rest : List Stm) → PlainCode code rest → all rest ≡ all code
    plain_counts code rest plain.no_code = refl
    plain_counts code rest (plain.more_code s y ss ys h k) =
        let first = plain_stm s y h in
        let more = plain_counts ss ys k in
        omega (arith, first, more)

    plain_stm : (s y : Stm) → PlainStm s y → m y ≡ m s
    plain_stm s y (plain.as_was u) = refl
    plain_stm s y (plain.set t v w p) = twin (stm.Set t v) (stm.Set t w) (of.set _ _ _ _)
    plain_stm s y (plain.set_global g v w p) = twin (stm.SetGlobal g v) (stm.SetGlobal g w) (of.store _ _ _ _)
    plain_stm s y (plain.divide t o a a' b b' p q) = twin (stm.Divide t o a b) (stm.Divide t o a' b') (of.divide _ _ _ _ _ _ _ _)
    plain_stm s y (plain.check r i j p) = twin (stm.Check r i) (stm.Check r j) (of.check _ _ _ _)
    plain_stm s y (plain.read t r i j p) = twin (stm.Read t r i) (stm.Read t r j) (of.read _ _ _ _ _ _)
    plain_stm s y (plain.write r i j v w p q) = twin (stm.Write r i v) (stm.Write r j w) (of.write _ _ _ _ _ _)
    plain_stm s y (plain.choice t u a a' b b' p h k) =
        twin (stm.If t a b) (stm.If u a' b') (branch_same of _ _ _ _ _ _ (plain_counts a a' h) (plain_counts b b' k))
    plain_stm s y (plain.turns b b' h) = twin (stm.Loop b) (stm.Loop b') (loop_same of _ _ (plain_counts b b' h))
    plain_stm s y (plain.block b b' h) = twin (stm.Block b) (stm.Block b') (block_same of _ _ (plain_counts b b' h))
    plain_stm s y (plain.call r f g xs ys p q) = twin (stm.Call r f xs) (stm.Call r g ys) (of.call _ _ _ _ _ _ (plainer_goal f g p))
    plain_stm s y (plain.known r k xs ys q) = twin (stm.Known r k xs) (stm.Known r k ys) (of.known _ _ _ _ _)
    plain_stm s y (plain.return v w p) = twin (stm.Return v) (stm.Return w) (of.return _ _)

  -- ---- two statements as one

  -- a result in another place, and no set
  moved : (x y : Stm-F Stm) (t : ℕ) (v : Tree) → own y ≡ own x → Counts (roll-Stm x ∷ set t v ∷ []) (alone y)
  moved x y t v e =
      let same = of.roll x in
      let result = of.roll y in
      let left = set_is t v in
      record { less = omega (arith, same, result, e); same = λ f. (let none = nothing_set f in omega (arith, same, result, e, left, none)) }

  -- a value in another statement, and no set
  taking : (x y : Stm-F Stm) (t : ℕ) (v : Tree) → own y ≡ own x → Counts (set t v ∷ roll-Stm x ∷ []) (alone y)
  taking x y t v e =
      let same = of.roll x in
      let result = of.roll y in
      let left = set_is t v in
      record { less = omega (arith, same, result, e); same = λ f. (let none = nothing_set f in omega (arith, same, result, e, left, none)) }

  one_counts : (gone : ℕ → Type 0) (s n z : Stm) → IsOne gone s n z → Counts (s ∷ n ∷ []) (z ∷ [])
  one_counts gone s n z (divided t x o a b g) = moved (stm.Divide t o a b) (stm.Divide x o a b) x (temp t) (of.divide _ _ _ _ _ _ _ _)
  one_counts gone s n z (fetched t x r i g) = moved (stm.Read t r i) (stm.Read x r i) x (temp t) (of.read _ _ _ _ _ _)
  one_counts gone s n z (called t x f args g) = moved (stm.Call (Some t) f args) (stm.Call (Some x) f args) x (temp t) (of.call _ _ _ _ _ _ (same_goal f))
  one_counts gone s n z (asked t x k args g) = moved (stm.Known (Some t) k args) (stm.Known (Some x) k args) x (temp t) (of.known _ _ _ _ _)
  one_counts gone s n z (carried t x e v w g k) = taking (stm.Set x v) (stm.Set x w) t e (of.set _ _ _ _)
  one_counts gone s n z (stored t x e v w g k) = taking (stm.SetGlobal x v) (stm.SetGlobal x w) t e (of.store _ _ _ _)
  one_counts gone s n z (written t r e i v w g unread k) = taking (stm.Write r i v) (stm.Write r i w) t e (of.write _ _ _ _ _ _)

  counts_congruence : IsCongruence Counts
  counts_congruence = record {
    itself = λ xs. equal of xs xs refl;
    both = λ xs xs' ys ys' h k.
        let before = all_append of xs ys in
        let after = all_append of xs' ys' in
        record { less = omega (arith, before, after, h.less, k.less); same = λ f. omega (arith, before, after, h.same f, k.same f) };
    trans = λ xs ys zs h k. record { less = omega (arith, h.less, k.less); same = λ f. omega (arith, h.same f, k.same f) };
    branch = λ t a a' b b' h k.
        let before = choice_is t a b in
        let after = choice_is t a' b' in
        record { less = omega (arith, before, after, h.less, k.less); same = λ f. omega (arith, before, after, h.same f, k.same f) };
    loop = λ b b' h.
        let before = of.roll (stm.Loop b) in
        let after = of.roll (stm.Loop b') in
        record {
          less = omega (arith, before, after, of.loop (map m b') (map m b) h.less);
          same = λ f. omega (arith, before, after, of.loop (map m b) (map m b') (h.same f));
        };
    enclose = λ b b' h.
        let before = of.roll (stm.Block b) in
        let after = of.roll (stm.Block b') in
        record {
          less = omega (arith, before, after, of.block (map m b') (map m b) h.less);
          same = λ f. omega (arith, before, after, of.block (map m b) (map m b') (h.same f));
        };
  }

  counts_closed : IsClosed Counts
  counts_closed = record {
    parts = counts_congruence;
    pair = one_counts;
    drop = λ t e. record { less = omega arith; same = λ f. (let left = set_is t e in let none = nothing_set f in omega (arith, left, none)) };
    end = λ s rest j k. record { less = omega arith; same = λ f. (let none = idle f rest k in omega (arith, none)) };
  }

  -- ---- choices put together

  jump_less : (s : Stm) → layer_jumps_only (out-Stm s) ≡ true → m s ≤ one
  jump_less s h = subst (λ u. m u ≤ one) (roll-out-Stm s) (by (out-Stm s) h)
    where
      by : (x : Stm-F Stm) → layer_jumps_only x ≡ true → m (roll-Stm x) ≤ one
      by (stm.Break n) e = omega (arith, of.roll (stm.Break n), of.jump n 0 (number 0))
      by (stm.Back n) e = omega (arith, of.roll (stm.Back n), of.back n 0 (number 0))
      by _ e = absurd cc

  jump_alone : (xs : List Stm) → is_jump xs ≡ true → all xs ≤ one
  jump_alone [] e = absurd cc
  jump_alone (s ∷ []) e = let h = jump_less s e in omega (arith, h)
  jump_alone (s ∷ t ∷ xs) e = absurd cc

  short_less : (xs : List Stm) → (is_nothing xs || is_jump xs) ≡ true → all xs ≤ one
  short_less [] e = omega arith
  short_less (s ∷ xs) e = jump_alone (s ∷ xs) e

  sides_is : (turned : Bool) (c : Tree) (a b : List Stm) → m (sides turned c a b) ≡ fork + (all a + all b)
  sides_is true c a b = let is = choice_is c b a in omega (arith, is)
  sides_is false c a b = choice_is c a b

  -- some code and one statement behind it
  behind : (xs : List Stm) (s : Stm) → all (xs ++ s ∷ []) ≡ all xs + m s
  behind xs s = let is = all_append of xs (s ∷ []) in omega (arith, is)

  behind_choice : (first : List Stm) (k : Tree) (x y : List Stm) → all (first ++ choose k x y ∷ []) ≡ all first + (fork + (all x + all y))
  behind_choice first k x y = let is = behind first (choose k x y) in let choice = choice_is k x y in omega (arith, is, choice)

  -- what a choice whose sides set a temporary and another choice behind it count
  first_two : (turned : Bool) (first a b x y : List Stm) (c e : Tree) (t n : ℕ) →
      all ((first ++ sides turned c (a ++ set t e ∷ []) (b ++ set t (number n) ∷ []) ∷ []) ++ choose (temp t) x y ∷ [])
      ≡ all first + (fork + ((all a + one) + (all b + one))) + (fork + (all x + all y))
  first_two turned first a b x y c e t n =
      let whole = behind_choice (first ++ sides turned c (a ++ set t e ∷ []) (b ++ set t (number n) ∷ []) ∷ []) (temp t) x y in
      let start = behind first (sides turned c (a ++ set t e ∷ []) (b ++ set t (number n) ∷ [])) in
      let both = sides_is turned c (a ++ set t e ∷ []) (b ++ set t (number n) ∷ []) in
      let left = behind a (set t e) in
      let right = behind b (set t (number n)) in
      let value = set_is t e in
      let known = set_is t (number n) in
      omega (arith, whole, start, both, left, right, value, known)

  turned_counts : (first : List Stm) (k c : Tree) (x y z : List Stm) → Counts (first ++ choose c y x ∷ []) z → Counts (first ++ choose k x y ∷ []) z
  turned_counts first k c x y z h =
      let before = behind_choice first k x y in
      let after = behind_choice first c y x in
      record { less = omega (arith, before, after, h.less); same = λ f. omega (arith, before, after, h.same f) }

  pushed_counts : (turned : Bool) (first a b : List Stm) (c e : Tree) (t n : ℕ) (x y z : List Stm) → all (taken n x y) ≤ one → Counts (a ++ choose e x y ∷ []) z →
      Counts ((first ++ sides turned c (a ++ set t e ∷ []) (b ++ set t (number n) ∷ []) ∷ []) ++ choose (temp t) x y ∷ []) (first ++ sides turned c z (b ++ taken n x y) ∷ [])
  pushed_counts turned first a b c e t n x y z short h =
      let before = first_two turned first a b x y c e t n in
      let inner = behind_choice a e x y in
      let start = behind first (sides turned c z (b ++ taken n x y)) in
      let both = sides_is turned c z (b ++ taken n x y) in
      let right = all_append of b (taken n x y) in
      record {
        less = omega (arith, before, inner, start, both, right, short, h.less);
        same = λ f. (let none = nothing_set f in omega (arith, before, inner, start, both, right, none, h.same f));
      }

  jumped_counts : (turned : Bool) (first a b : List Stm) (c e : Tree) (t n : ℕ) (x y z : List Stm) →
      Counts (a ++ choose e (cond (eqb n 0) x []) (cond (eqb n 0) [] y) ∷ []) z →
      Counts ((first ++ sides turned c (a ++ set t e ∷ []) (b ++ set t (number n) ∷ []) ∷ []) ++ choose (temp t) x y ∷ []) (first ++ sides turned c z b ∷ taken n x y)
  jumped_counts turned first a b c e t n x y z h =
      let before = first_two turned first a b x y c e t n in
      let inner = behind_choice a e (cond (eqb n 0) x []) (cond (eqb n 0) [] y) in
      let start = all_append of first (sides turned c z b ∷ taken n x y) in
      let both = sides_is turned c z b in
      let kept = by (eqb n 0) in
      record {
        less = omega (arith, before, inner, start, both, kept, h.less);
        same = λ f. (let none = nothing_set f in omega (arith, before, inner, start, both, kept, none, h.same f));
      }
    where
      by : (q : Bool) → all (cond q x []) + all (cond q [] y) + all (cond q y x) ≡ all x + all y
      by true = omega arith
      by false = omega arith

  attached_counts : (gone : ℕ → Type 0) (first : List Stm) (k : Tree) (x y z : List Stm) → Attached gone first k x y z → Counts (first ++ choose k x y ∷ []) z
  attached_counts gone first k x y z (chosen.apart f c a b) = equal of (f ++ choose c a b ∷ []) (f ++ choose c a b ∷ []) refl
  attached_counts gone first k x y z (chosen.denied f c a b w h) = turned_counts f (unary operator.logical_not c) c a b w (attached_counts gone f c b a w h)
  attached_counts gone first k x y z (chosen.unequal f c a b w h) =
      counts_congruence.trans (f ++ choose (binary operator.not_equal c (number 0)) a b ∷ []) (f ++ choose c a b ∷ []) w
      (equal of (f ++ choose (binary operator.not_equal c (number 0)) a b ∷ []) (f ++ choose c a b ∷ [])
      (behind_choice f c a b ∙ sym (behind_choice f (binary operator.not_equal c (number 0)) a b))) (attached_counts gone f c a b w h)
  attached_counts gone first k x y z (chosen.equal f c a b w h) = turned_counts f (binary operator.equal c (number 0)) c a b w (attached_counts gone f c b a w h)
  attached_counts gone first k x y z (chosen.pushed turned f a b c e t n v w u g short h) =
      pushed_counts turned f a b c e t n v w u (short_less (taken n v w) short) (attached_counts gone a e v w u h)
  attached_counts gone first k x y z (chosen.jumped turned f a b c e t n v w u g jump h) =
      jumped_counts turned f a b c e t n v w u (attached_counts gone a e (cond (eqb n 0) v []) (cond (eqb n 0) [] w) u h)

  -- ---- all three steps

  tidied_counts : (temps : ℕ) (code result : List Stm) → IsTidiedCode temps code result → Counts code result
  tidied_counts temps code result k =
      let trees = equal of code k.plain (plain_counts code k.plain k.is_plain) in
      let joined = joined_is temps Counts counts_closed k.plain k.joined k.is_joined in
      let choices = chosen_is temps Counts counts_congruence attached_counts _ k.joined result k.is_chosen in
      counts_congruence.trans code k.plain result trees (counts_congruence.trans k.plain k.joined result joined choices)

  pub tidied_no_more : (temps : ℕ) (code result : List Stm) → IsTidiedCode temps code result → all result ≤ all code
  tidied_no_more temps code result k = (tidied_counts temps code result k).less

  pub tidied_same : CountsCalls layer → (temps : ℕ) (code result : List Stm) → IsTidiedCode temps code result → all result ≡ all code
  tidied_same calls_alone temps code result k =
      let counts = tidied_counts temps code result k in
      omega (arith, counts.less, counts.same calls_alone)
