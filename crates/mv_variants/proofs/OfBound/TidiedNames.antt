-- Tidied code names no more.
use Rattle.std.proofs.Common.{ℕ, Bool, cond, eqb, true, false, List, [], ◌∷◌, ◌++◌, Some, sym, subst}
use Rattle.mv_ast.specs.declared.program.Known.{Known}
use Rattle.mv_ir.specs.declared.tree.Tree.{Tree}
use Rattle.mv_ir.specs.declared.tree.Tree.TheOpen.{Tree-F}
use Rattle.mv_ir.specs.declared.tree.Tree.TheOpen as tree
use Rattle.mv_ir.specs.declared.tree.Tree.TheFolds.{map-Tree}
use Rattle.mv_ir.specs.declared.stm.Stm.{Stm}
use Rattle.mv_ir.specs.declared.stm.Stm.TheOpen as stm
use Rattle.mv_ir.specs.Operators as operator
use Rattle.mv_ir.specs.Rolled.{number, temp, unary, binary, set, choose}
use Rattle.mv_ir.proofs.Induction.{each_append, TreeChildren, tree_ind}
use Rattle.mv_select.proofs.OfBodies.Naming.{TreeNames, StmNames, CodeNames, TreeParts, tree_in, tree_out, stm_in, stm_out}
use Rattle.mv_tidy.specs.Tidying.{taking_node, taking, Takes, whole, truth, twice_truth, narrowed_truth, through, IsOne, divided, fetched, called, asked, carried, stored, written}
use Rattle.mv_tidy.specs.Choosing as chosen
use Rattle.mv_tidy.specs.Choosing.{Attached, taken, sides}
use Rattle.mv_tidy.specs.Tidied.{IsTidiedCode}
use Rattle.mv_tidy.proofs.Equations.{taking_roll}
use Rattle.mv_tidy.proofs.Structure.{IsCongruence, IsClosed, joined_is, chosen_is}
use Rattle.mv_variants.proofs.OfBound.FoldedNames as folding
use Rattle.mv_variants.proofs.OfBound.PlainNames.{plain_names}

module _ (F : ℕ → Type 0) (K : Known → Type 0) (C : ℕ → Type 0) where
  module _ (t : ℕ) (e : Tree) (names : TreeNames F K C e) where
    abbrev TakenNames : Tree → Type 0
    TakenNames v = TreeNames F K C v → TreeNames F K C (taking t e v)

    at_temp : (u : ℕ) (c : Bool) → TreeNames F K C (cond c e (temp u))
    at_temp u true = names
    at_temp u false = tree_in F K C (tree.Temp u) tt

    node : (x : Tree-F Tree) → TreeChildren TakenNames x → TreeParts F K C x → TreeNames F K C (taking_node t e (map-Tree Tree Tree (taking t e) x))
    node (tree.Number n) h p = tree_in F K C (tree.Number n) p
    node (tree.Temp u) h p = at_temp u (eqb u t)
    node (tree.Global g) h p = tree_in F K C (tree.Global g) tt
    node (tree.Function f) h p = tree_in F K C (tree.Function f) p
    node (tree.Unary o a) h p = tree_in F K C (tree.Unary o (taking t e a)) (h p)
    node (tree.Binary o a b) h p = tree_in F K C (tree.Binary o (taking t e a) (taking t e b)) (h.0 p.0, h.1 p.1)
    node (tree.Narrow k a) h p = tree_in F K C (tree.Narrow k (taking t e a)) (h p)

    taking_names : (v : Tree) → TakenNames v
    taking_names = tree_ind TakenNames (λ x h n. subst (TreeNames F K C) (sym (taking_roll t e x)) (node x h (tree_out F K C x n)))

    taken_names : (v w : Tree) → Takes t e v w → TreeNames F K C v → TreeNames F K C w
    taken_names v w whole n = names
    taken_names v w (truth h) n = names
    taken_names v w (twice_truth h) n = names
    taken_names v w (narrowed_truth k h) n = names
    taken_names v w (through u h) n = taking_names u n

  abbrev NamesStay : List Stm → List Stm → Type 0
  NamesStay xs ys = CodeNames F K C xs → CodeNames F K C ys

  left_names : (xs ys : List Stm) → CodeNames F K C (xs ++ ys) → CodeNames F K C xs
  left_names [] ys n = tt
  left_names (x ∷ xs) ys n = (n.0, left_names xs ys n.1)

  right_names : (xs ys : List Stm) → CodeNames F K C (xs ++ ys) → CodeNames F K C ys
  right_names [] ys n = n
  right_names (x ∷ xs) ys n = right_names xs ys n.1

  one_names : (gone : ℕ → Type 0) (s n z : Stm) → IsOne gone s n z → NamesStay (s ∷ n ∷ []) (z ∷ [])
  one_names gone s n z (divided t x o a b g) h = (stm_in F K C (stm.Divide x o a b) (stm_out F K C (stm.Divide t o a b) h.0), tt)
  one_names gone s n z (fetched t x r i g) h = (stm_in F K C (stm.Read x r i) (stm_out F K C (stm.Read t r i) h.0), tt)
  one_names gone s n z (called t x f args g) h = (stm_in F K C (stm.Call (Some x) f args) (stm_out F K C (stm.Call (Some t) f args) h.0), tt)
  one_names gone s n z (asked t x k args g) h = (stm_in F K C (stm.Known (Some x) k args) (stm_out F K C (stm.Known (Some t) k args) h.0), tt)
  one_names gone s n z (carried t x e v w g k) h = (stm_in F K C (stm.Set x w) (taken_names t e (stm_out F K C (stm.Set t e) h.0) v w k (stm_out F K C (stm.Set x v) h.1.0)), tt)
  one_names gone s n z (stored t x e v w g k) h = (stm_in F K C (stm.SetGlobal x w) (taken_names t e (stm_out F K C (stm.Set t e) h.0) v w k (stm_out F K C (stm.SetGlobal x v) h.1.0)), tt)
  one_names gone s n z (written t r e i v w g unread k) h =
      let parts = stm_out F K C (stm.Write r i v) h.1.0 in
      (stm_in F K C (stm.Write r i w) (parts.0, taken_names t e (stm_out F K C (stm.Set t e) h.0) v w k parts.1), tt)

  names_congruence : IsCongruence NamesStay
  names_congruence = record {
    itself = λ xs n. n;
    both = λ xs xs' ys ys' h k n. each_append (StmNames F K C) xs' ys' (h (left_names xs ys n)) (k (right_names xs ys n));
    trans = λ xs ys zs h k n. k (h n);
    branch = λ t a a' b b' h k n. let parts = stm_out F K C (stm.If t a b) n.0 in (stm_in F K C (stm.If t a' b') (parts.0, h parts.1, k parts.2), tt);
    loop = λ b b' h n. (stm_in F K C (stm.Loop b') (h (stm_out F K C (stm.Loop b) n.0)), tt);
    enclose = λ b b' h n. (stm_in F K C (stm.Block b') (h (stm_out F K C (stm.Block b) n.0)), tt);
  }

  names_closed : IsClosed NamesStay
  names_closed = record {
    parts = names_congruence;
    pair = one_names;
    drop = λ t e n. tt;
    end = λ s rest j k n. (n.0, tt);
  }

  -- ---- choices put together

  -- what a choice names: its condition and its sides
  abbrev ChoiceNames : Tree → (a b : List Stm) → Type 0
  ChoiceNames c a b = TreeNames F K C c × CodeNames F K C a × CodeNames F K C b

  choice_in : (c : Tree) (a b : List Stm) → ChoiceNames c a b → StmNames F K C (choose c a b)
  choice_in c a b n = stm_in F K C (stm.If c a b) n

  choice_out : (c : Tree) (a b : List Stm) → StmNames F K C (choose c a b) → ChoiceNames c a b
  choice_out c a b n = stm_out F K C (stm.If c a b) n

  sides_in : (turned : Bool) (c : Tree) (a b : List Stm) → ChoiceNames c a b → StmNames F K C (sides turned c a b)
  sides_in true c a b n = choice_in c b a (n.0, n.2, n.1)
  sides_in false c a b n = choice_in c a b n

  sides_out : (turned : Bool) (c : Tree) (a b : List Stm) → StmNames F K C (sides turned c a b) → ChoiceNames c a b
  sides_out true c a b n = let parts = choice_out c b a n in (parts.0, parts.2, parts.1)
  sides_out false c a b n = choice_out c a b n

  either_names : (q : Bool) (x y : List Stm) → CodeNames F K C x → CodeNames F K C y → CodeNames F K C (cond q x y)
  either_names true x y h k = h
  either_names false x y h k = k

  -- a choice behind some code, and another in its place
  again : (first : List Stm) (k c : Tree) (x y a b : List Stm) → (ChoiceNames k x y → ChoiceNames c a b) → NamesStay (first ++ choose k x y ∷ []) (first ++ choose c a b ∷ [])
  again first k c x y a b f n =
      each_append (StmNames F K C) first (choose c a b ∷ []) (left_names first (choose k x y ∷ []) n)
      (choice_in c a b (f (choice_out k x y (right_names first (choose k x y ∷ []) n).0)), tt)

  pushed_names : (turned : Bool) (first a b : List Stm) (c e : Tree) (t n : ℕ) (x y z : List Stm) → NamesStay (a ++ choose e x y ∷ []) z →
      NamesStay ((first ++ sides turned c (a ++ set t e ∷ []) (b ++ set t (number n) ∷ []) ∷ []) ++ choose (temp t) x y ∷ []) (first ++ sides turned c z (b ++ taken n x y) ∷ [])
  pushed_names turned first a b c e t n x y z h names =
      let choice = sides turned c (a ++ set t e ∷ []) (b ++ set t (number n) ∷ []) in
      let both = left_names (first ++ choice ∷ []) (choose (temp t) x y ∷ []) names in
      let next = choice_out (temp t) x y (right_names (first ++ choice ∷ []) (choose (temp t) x y ∷ []) names).0 in
      let parts = sides_out turned c (a ++ set t e ∷ []) (b ++ set t (number n) ∷ []) (right_names first (choice ∷ []) both).0 in
      let value = stm_out F K C (stm.Set t e) (right_names a (set t e ∷ []) parts.1).0 in
      let asked = each_append (StmNames F K C) a (choose e x y ∷ []) (left_names a (set t e ∷ []) parts.1) (choice_in e x y (value, next.1, next.2), tt) in
      let known = each_append (StmNames F K C) b (taken n x y) (left_names b (set t (number n) ∷ []) parts.2) (either_names (eqb n 0) y x next.2 next.1) in
      each_append (StmNames F K C) first (sides turned c z (b ++ taken n x y) ∷ []) (left_names first (choice ∷ []) both)
      (sides_in turned c z (b ++ taken n x y) (parts.0, h asked, known), tt)

  jumped_names : (turned : Bool) (first a b : List Stm) (c e : Tree) (t n : ℕ) (x y z : List Stm) →
      NamesStay (a ++ choose e (cond (eqb n 0) x []) (cond (eqb n 0) [] y) ∷ []) z →
      NamesStay ((first ++ sides turned c (a ++ set t e ∷ []) (b ++ set t (number n) ∷ []) ∷ []) ++ choose (temp t) x y ∷ []) (first ++ sides turned c z b ∷ taken n x y)
  jumped_names turned first a b c e t n x y z h names =
      let choice = sides turned c (a ++ set t e ∷ []) (b ++ set t (number n) ∷ []) in
      let both = left_names (first ++ choice ∷ []) (choose (temp t) x y ∷ []) names in
      let next = choice_out (temp t) x y (right_names (first ++ choice ∷ []) (choose (temp t) x y ∷ []) names).0 in
      let parts = sides_out turned c (a ++ set t e ∷ []) (b ++ set t (number n) ∷ []) (right_names first (choice ∷ []) both).0 in
      let value = stm_out F K C (stm.Set t e) (right_names a (set t e ∷ []) parts.1).0 in
      let ways : ChoiceNames e (cond (eqb n 0) x []) (cond (eqb n 0) [] y) = (value, either_names (eqb n 0) x [] next.1 tt, either_names (eqb n 0) [] y tt next.2) in
      let asked =
      each_append (StmNames F K C) a (choose e (cond (eqb n 0) x []) (cond (eqb n 0) [] y) ∷ []) (left_names a (set t e ∷ []) parts.1)
      (choice_in e (cond (eqb n 0) x []) (cond (eqb n 0) [] y) ways, tt)
      in
      each_append (StmNames F K C) first (sides turned c z b ∷ taken n x y) (left_names first (choice ∷ []) both)
      (sides_in turned c z b (parts.0, h asked, left_names b (set t (number n) ∷ []) parts.2), either_names (eqb n 0) y x next.2 next.1)

  attached_names : (gone : ℕ → Type 0) (first : List Stm) (k : Tree) (x y z : List Stm) → Attached gone first k x y z → NamesStay (first ++ choose k x y ∷ []) z
  attached_names gone first k x y z (chosen.apart f c a b) = λ n. n
  attached_names gone first k x y z (chosen.denied f c a b w h) = λ n.
      attached_names gone f c b a w h (again f (unary operator.logical_not c) c a b b a (λ p. (tree_out F K C (tree.Unary operator.logical_not c) p.0, p.2, p.1)) n)
  attached_names gone first k x y z (chosen.unequal f c a b w h) = λ n.
      attached_names gone f c a b w h (again f (binary operator.not_equal c (number 0)) c a b a b (λ p. ((tree_out F K C (tree.Binary operator.not_equal c (number 0)) p.0).0, p.1, p.2)) n)
  attached_names gone first k x y z (chosen.equal f c a b w h) = λ n.
      attached_names gone f c b a w h (again f (binary operator.equal c (number 0)) c a b b a (λ p. ((tree_out F K C (tree.Binary operator.equal c (number 0)) p.0).0, p.2, p.1)) n)
  attached_names gone first k x y z (chosen.pushed turned f a b c e t n v w u g short h) = pushed_names turned f a b c e t n v w u (attached_names gone a e v w u h)
  attached_names gone first k x y z (chosen.jumped turned f a b c e t n v w u g jump h) =
      jumped_names turned f a b c e t n v w u (attached_names gone a e (cond (eqb n 0) v []) (cond (eqb n 0) [] w) u h)

  -- ---- all three steps

  pub tidied_names : folding.IsClosed C → (temps : ℕ) (code result : List Stm) → IsTidiedCode temps code result → CodeNames F K C code → CodeNames F K C result
  tidied_names constants temps code result k n =
      let trees = plain_names F K C constants code k.plain k.is_plain n in
      let joined = joined_is temps NamesStay names_closed k.plain k.joined k.is_joined trees in
      chosen_is temps NamesStay names_congruence attached_names _ k.joined result k.is_chosen joined
