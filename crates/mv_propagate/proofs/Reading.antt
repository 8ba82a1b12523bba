-- Trees with what temporaries hold in place of reads of them, at each variant.
use Rattle.std.proofs.Common.{◌≡◌, ℕ, ◌+◌, ◌<◌, length, take, get_or, List, [], ◌∷◌, ◌++◌, sym, ◌∙◌, ap, subst}
use Rattle.std.specs.Prelude.{Contains}
use Rattle.std.proofs.lemmas.List.{take_more}
use Rattle.mv_num.specs.declared.kind.Kind.{Kind}
use Rattle.mv_ir.specs.declared.tree.Tree.{Tree}
use Rattle.mv_ir.specs.declared.tree.Tree as tr
use Rattle.mv_ir.specs.declared.tree.Tree.TheOpen as tree
use Rattle.mv_ir.specs.declared.tree.Tree.TheViews.{roll-Tree}
use Rattle.mv_ir.specs.declared.tree.Tree.TheVariants.{rolls-Number, rolls-Temp, rolls-Unary, rolls-Binary, rolls-Narrow}
use Rattle.mv_ir.specs.Rolled.{unary, binary}
use Rattle.mv_ir.specs.declared.stm.Callee.{Callee}
use Rattle.mv_ir.specs.declared.stm.Callee.TheVariants as callee
use Rattle.mv_propagate.specs.declared.facts.Leaf.{Leaf}
use Rattle.mv_propagate.specs.declared.facts.Leaf.TheVariants.{Number, Temp}
use Rattle.mv_propagate.specs.declared.facts.Held.TheVariants.{Value}
use Rattle.mv_propagate.specs.declared.facts.Fact.{Fact}
use Rattle.mv_propagate.specs.Facts.{tree_of}
use Rattle.mv_propagate.specs.Propagating.{fact, Reads, itself, held, in_unary, in_binary, in_narrow, ReadsAll, no_trees, more_trees, ReadsCallee, same_callee, through}

-- ---- leaves

pub number_is : (t : Tree) (n : ℕ) → t ≡ tr.Number n → t ≡ tree_of (Number n)
number_is t n e = e ∙ sym (rolls-Number n)

pub temp_is : (t : Tree) (u : ℕ) → t ≡ tr.Temp u → t ≡ tree_of (Temp u)
temp_is t u e = e ∙ sym (rolls-Temp u)

pub is_number : (l : Leaf) (n : ℕ) → l ≡ Number n → tr.Number n ≡ tree_of l
is_number l n e = sym (rolls-Number n) ∙ ap tree_of (sym e)

pub is_temp : (l : Leaf) (u : ℕ) → l ≡ Temp u → tr.Temp u ≡ tree_of l
is_temp l u e = sym (rolls-Temp u) ∙ ap tree_of (sym e)

pub ruleset leaves = (number_is, temp_is, is_number, is_temp)

-- ---- trees

module _ (facts : List Fact) where
  pub stays : (s t : Tree) → s ≡ t → Reads facts s t
  stays s t e = subst (Reads facts s) e (itself s)

  pub between : (s s' t t' : Tree) → s ≡ s' → t' ≡ t → Reads facts s t → Reads facts s' t'
  between s s' t t' e f h = subst (Reads facts s') (sym f) (subst (λ x. Reads facts x t) e h)

  pub of_temp : (s t : Tree) (u : ℕ) (l : Leaf) → s ≡ tr.Temp u → Contains facts (fact u (Value l)) → t ≡ tree_of l → Reads facts s t
  of_temp s t u l e c is = subst (Reads facts s) (sym is) (subst (λ x. Reads facts x (tree_of l)) (rolls-Temp u ∙ sym e) (held u l c))

  pub of_unary : (s : Tree) (o : ℕ) (a b : Tree) → s ≡ tr.Unary o a → Reads facts a b → Reads facts s (tr.Unary o b)
  of_unary s o a b e h = subst (Reads facts s) (rolls-Unary o b) (subst (λ x. Reads facts x (unary o b)) (rolls-Unary o a ∙ sym e) (in_unary o a b h))

  pub of_binary : (s : Tree) (o : ℕ) (a a' b b' : Tree) → s ≡ tr.Binary o a b → Reads facts a a' → Reads facts b b' → Reads facts s (tr.Binary o a' b')
  of_binary s o a a' b b' e h k = subst (Reads facts s) (rolls-Binary o a' b') (subst (λ x. Reads facts x (binary o a' b')) (rolls-Binary o a b ∙ sym e) (in_binary o a a' b b' h k))

  pub of_narrow : (s : Tree) (k : Kind) (a b : Tree) → s ≡ tr.Narrow k a → Reads facts a b → Reads facts s (tr.Narrow k b)
  of_narrow s k a b e h = subst (Reads facts s) (rolls-Narrow k b) (subst (λ x. Reads facts x (roll-Tree (tree.Narrow k b))) (rolls-Narrow k a ∙ sym e) (in_narrow k a b h))

  -- ---- lists of trees, as far as a loop over them has come

  pub trees_push : (ts us : List Tree) (t u : Tree) → ReadsAll facts ts us → Reads facts t u → ReadsAll facts (ts ++ t ∷ []) (us ++ u ∷ [])
  trees_push ts us t u no_trees h = more_trees t u [] [] h no_trees
  trees_push ts us t u (more_trees x y xs ys k ks) h = more_trees x y (xs ++ t ∷ []) (ys ++ u ∷ []) k (trees_push xs ys t u ks h)

  pub trees_begin : (ts us : List Tree) → us ≡ [] → ReadsAll facts (take 0 ts) us
  trees_begin ts us e = subst (ReadsAll facts []) (sym e) no_trees

  pub trees_next : (ts items us us' : List Tree) (i : ℕ) (t u : Tree) → items ≡ ts → i < length items → t ≡ get_or items i t → ReadsAll facts (take i ts) us →
      Reads facts t u → us' ≡ us ++ u ∷ [] → ReadsAll facts (take (i + 1) ts) us'
  trees_next ts items us us' i t u same lt is h k made =
      let more = take_more items i t lt ∙ ap (λ x. take i items ++ x ∷ []) (sym is) in
      subst (λ xs. ReadsAll facts (take (i + 1) xs) us') same (subst (λ xs. ReadsAll facts xs us') (sym more) (subst (ReadsAll facts (take i items ++ t ∷ [])) (sym made)
      (trees_push (take i items) us t u (subst (λ xs. ReadsAll facts (take i xs) us) (sym same) h) k)))

  -- ---- what a call goes to

  pub callee_stays : (f g : Callee) → f ≡ g → ReadsCallee facts f g
  callee_stays f g e = subst (ReadsCallee facts f) e (same_callee f)

  pub callee_through : (f : Callee) (t u : Tree) → f ≡ callee.Through t → Reads facts t u → ReadsCallee facts f (callee.Through u)
  callee_through f t u e h = subst (λ g. ReadsCallee facts g (callee.Through u)) (sym e) (through t u h)
