-- How the walk over code goes on, and what it gives.
use Rattle.std.proofs.Common.{◌≡◌, ℕ, ◌+◌, ◌<◌, false, eqb, length, take, get_or, List, [], ◌∷◌, ◌++◌, Option, refl, sym, ◌∙◌, ap, subst}
use Rattle.std.specs.Prelude.{Contains}
use Rattle.std.proofs.lemmas.List.{take_more}
use Rattle.mv_ast.specs.declared.program.Known.{Known}
use Rattle.mv_ir.specs.Rolled as rolled
use Rattle.mv_ir.specs.declared.tree.Tree.{Tree}
use Rattle.mv_ir.specs.declared.tree.Tree as tr
use Rattle.mv_ir.specs.declared.tree.Tree.TheVariants.{rolls-Temp}
use Rattle.mv_ir.specs.declared.stm.Array.{Array}
use Rattle.mv_ir.specs.declared.stm.Array.TheVariants as array
use Rattle.mv_ir.specs.declared.stm.Callee.{Callee}
use Rattle.mv_ir.specs.declared.stm.Stm.{Stm}
use Rattle.mv_ir.specs.declared.stm.Stm as at
use Rattle.mv_ir.specs.declared.stm.Stm.TheOpen as stm
use Rattle.mv_ir.specs.declared.stm.Stm.TheViews.{roll-Stm}
use Rattle.mv_ir.specs.declared.stm.Stm.TheVariants.{rolls-Set, rolls-SetGlobal, rolls-Divide, rolls-Check, rolls-Read, rolls-Write, rolls-Zero, rolls-If, rolls-Loop, rolls-Block, rolls-Break, rolls-Back, rolls-Call, rolls-Known, rolls-Return}
use Rattle.mv_propagate.specs.declared.facts.Leaf.{Leaf}
use Rattle.mv_propagate.specs.declared.facts.Leaf.TheVariants.{Temp}
use Rattle.mv_propagate.specs.declared.facts.Held.TheVariants.{Value, Element}
use Rattle.mv_propagate.specs.declared.facts.Fact.{Fact}
use Rattle.mv_propagate.specs.Facts.{tree_of, leaf_is, IsLow}
use Rattle.mv_propagate.specs.Propagating.{fact, Reads, ReadsAll, ReadsCallee, Unwritten, Unstored, Uncalled, Fewer, Learned, Propagated, none, more, PropagatedIn, computed, copied, stored, divided, checked, fetched, kept, moved, there, written, zeroed, choice, turns, block, leave, again, called, asked, returned}

module _ (temps : ℕ) where
  -- ---- code

  pub code_push : (facts mid after : List Fact) (code made : List Stm) (s y : Stm) → Propagated temps facts code made mid → PropagatedIn temps mid s y after →
      Propagated temps facts (code ++ s ∷ []) (made ++ y ∷ []) after
  code_push facts mid after code made s y (none known) h = more facts after after s y [] [] h (none after)
  code_push facts mid after code made s y (more first next last x z rest ys k ks) h =
      more facts next after x z (rest ++ s ∷ []) (ys ++ y ∷ []) k (code_push next mid after rest ys s y ks h)

  pub code_begins : (facts known : List Fact) (code made : List Stm) → made ≡ [] → known ≡ facts → Propagated temps facts (take 0 code) made known
  code_begins facts known code made e same = subst (λ ys. Propagated temps facts [] ys known) (sym e) (subst (Propagated temps facts [] []) (sym same) (none facts))

  pub code_next : (facts mid after : List Fact) (code items made made' : List Stm) (i : ℕ) (s y : Stm) → items ≡ code → i < length items → s ≡ get_or items i s →
      Propagated temps facts (take i code) made mid → PropagatedIn temps mid s y after → made' ≡ made ++ y ∷ [] → Propagated temps facts (take (i + 1) code) made' after
  code_next facts mid after code items made made' i s y same lt is h k e =
      let more_code = take_more items i s lt ∙ ap (λ x. take i items ++ x ∷ []) (sym is) in
      subst (λ l. Propagated temps facts (take (i + 1) l) made' after) same (subst (λ l. Propagated temps facts l made' after) (sym more_code)
      (subst (λ l. Propagated temps facts (take i items ++ s ∷ []) l after) (sym e)
      (code_push facts mid after (take i items) made s y (subst (λ l. Propagated temps facts (take i l) made mid) (sym same) h) k)))

  -- ---- statements

  module _ (facts after : List Fact) where
    abbrev Goes : Stm → Stm → Type 0
    Goes s y = PropagatedIn temps facts s y after

    between : (s s' y y' : Stm) → s ≡ s' → y ≡ y' → Goes s y → Goes s' y'
    between s s' y y' e f h = subst (λ x. Goes x y') e (subst (Goes s) f h)

    -- a value that is known then, and another
    pub sets_leaf : (t : ℕ) (v w x : Tree) (l : Leaf) → Reads facts v w → w ≡ tree_of l → x ≡ tree_of l →
        (t < temps) × (IsLow temps l × (leaf_is t l ≡ false)) → Learned t (Value l) facts after →
        Goes (rolled.set t v) (at.Set t x)
    sets_leaf t v w x l h e f low k =
        between _ _ _ _ refl (ap (rolled.set t) (sym f) ∙ rolls-Set t x) (copied facts after t v l (subst (Reads facts v) e h) low.0 low.1.0 low.1.1 k)

    pub sets : (t : ℕ) (v w : Tree) → Reads facts v w → Unwritten t facts after → Goes (rolled.set t v) (at.Set t w)
    sets t v w h k = between _ _ _ _ refl (rolls-Set t w) (computed facts after t v w h k)

    -- an element that is known then, and another
    pub reads_leaf : (t : ℕ) (r : Array) (i j : Tree) (l : Leaf) → Reads facts i (tree_of l) → j ≡ tree_of l →
        (t < temps) × (IsLow temps l × (leaf_is t l ≡ false)) → Learned t (Element r l) facts after →
        Goes (rolled.read t r i) (at.Read t r j)
    reads_leaf t r i j l h e low k =
        between _ _ _ _ refl (ap (rolled.read t r) (sym e) ∙ rolls-Read t r j) (kept facts after t r i l h low.0 low.1.0 low.1.1 k)

    pub reads : (t : ℕ) (r : Array) (i j : Tree) → Reads facts i j → Unwritten t facts after → Goes (rolled.read t r i) (at.Read t r j)
    reads t r i j h k = between _ _ _ _ refl (rolls-Read t r j) (fetched facts after t r i j h k)

    -- one that stands in another temporary already, and in this
    pub moves : (t u : ℕ) (r : Array) (i : Tree) (l : Leaf) → Reads facts i (tree_of l) → Contains facts (fact u (Element r l)) → t < temps → u < temps → eqb u t ≡ false →
        Learned t (Value (Temp u)) facts after → Goes (rolled.read t r i) (at.Set t (tr.Temp u))
    moves t u r i l h c low low' other k =
        between _ _ _ _ refl (ap (rolled.set t) (rolls-Temp u) ∙ rolls-Set t (tr.Temp u)) (moved facts after t u r i l h c low low' other k)

    pub remains : (t u : ℕ) (r : Array) (i : Tree) (l : Leaf) → Reads facts i (tree_of l) → Contains facts (fact u (Element r l)) → t < temps → u ≡ t → after ≡ facts →
        Goes (rolled.read t r i) (at.Set t (tr.Temp u))
    remains t u r i l h c low same e =
        subst (PropagatedIn temps facts (rolled.read t r i) (at.Set t (tr.Temp u))) (sym e)
        (subst (λ x. PropagatedIn temps facts (rolled.read t r i) (at.Set t (tr.Temp x)) facts) (sym same)
        (subst (λ y. PropagatedIn temps facts (rolled.read t r i) y facts) (ap (rolled.set t) (rolls-Temp t) ∙ rolls-Set t (tr.Temp t))
        (there facts t r i l h (subst (λ x. Contains facts (fact x (Element r l))) same c) low)))

    pub chooses : (first second : List Fact) (t u : Tree) (a a' b b' : List Stm) → Reads facts t u → Propagated temps facts a a' first →
        Propagated temps facts b b' second → Fewer first after →
        Fewer second after → Goes (rolled.choose t a b) (at.If u a' b')
    chooses first second t u a a' b b' h ka kb f g = between _ _ _ _ refl (rolls-If u a' b') (choice facts first second after t u a a' b b' h ka kb f g)

    -- what is known is read from a slice
    module _ (some : List Fact) (same : some ≡ facts) (s : Stm) where
      pub after_store : (g : ℕ) (v w : Tree) → s ≡ at.SetGlobal g v → Reads some v w → Unstored (array.Global g) some after → Goes s (at.SetGlobal g w)
      after_store g v w e h k = between _ _ _ _ (rolls-SetGlobal g v ∙ sym e) (rolls-SetGlobal g w)
          (stored facts after g v w (subst (λ fs. Reads fs v w) same h) (subst (λ fs. Unstored (array.Global g) fs after) same k))

      pub after_divide : (t o : ℕ) (a a' b b' : Tree) → s ≡ at.Divide t o a b → Reads some a a' → Reads some b b' → Unwritten t some after → Goes s (at.Divide t o a' b')
      after_divide t o a a' b b' e h h' k = between _ _ _ _ (rolls-Divide t o a b ∙ sym e) (rolls-Divide t o a' b')
          (divided facts after t o a a' b b' (subst (λ fs. Reads fs a a') same h) (subst (λ fs. Reads fs b b') same h') (subst (λ fs. Unwritten t fs after) same k))

      pub after_write : (r : Array) (i j v w : Tree) → s ≡ at.Write r i v → Reads some i j → Reads some v w → Unstored r some after → Goes s (at.Write r j w)
      after_write r i j v w e h h' k = between _ _ _ _ (rolls-Write r i v ∙ sym e) (rolls-Write r j w)
          (written facts after r i j v w (subst (λ fs. Reads fs i j) same h) (subst (λ fs. Reads fs v w) same h') (subst (λ fs. Unstored r fs after) same k))

      pub after_zero : (l : ℕ) → s ≡ at.Zero l → Unstored (array.Local l) some after → Goes s (at.Zero l)
      after_zero l e k = between _ _ _ _ (rolls-Zero l ∙ sym e) (rolls-Zero l) (zeroed facts after l (subst (λ fs. Unstored (array.Local l) fs after) same k))

      pub after_call : (r : Option ℕ) (f f' : Callee) (xs ys : List Tree) → s ≡ at.Call r f xs → ReadsCallee some f f' → ReadsAll some xs ys →
          Uncalled r some after → Goes s (at.Call r f' ys)
      after_call r f f' xs ys e h h' k = between _ _ _ _ (rolls-Call r f xs ∙ sym e) (rolls-Call r f' ys)
          (called facts after r f f' xs ys (subst (λ fs. ReadsCallee fs f f') same h) (subst (λ fs. ReadsAll fs xs ys) same h') (subst (λ fs. Uncalled r fs after) same k))

      pub after_known : (r : Option ℕ) (k : Known) (xs ys : List Tree) → s ≡ at.Known r k xs → ReadsAll some xs ys → Uncalled r some after → Goes s (at.Known r k ys)
      after_known r k xs ys e h u = between _ _ _ _ (rolls-Known r k xs ∙ sym e) (rolls-Known r k ys)
          (asked facts after r k xs ys (subst (λ fs. ReadsAll fs xs ys) same h) (subst (λ fs. Uncalled r fs after) same u))

      -- statements behind which as much is known

      pub after_check : after ≡ facts → (r : Array) (i j : Tree) → s ≡ at.Check r i → Reads some i j → Goes s (at.Check r j)
      after_check as_much r i j e h = between _ _ _ _ (rolls-Check r i ∙ sym e) (rolls-Check r j)
          (subst (PropagatedIn temps facts (rolled.check r i) (rolled.check r j)) (sym as_much) (checked facts r i j (subst (λ fs. Reads fs i j) same h)))

      pub after_return : after ≡ facts → (v w : Tree) → s ≡ at.Return v → Reads some v w → Goes s (at.Return w)
      after_return as_much v w e h = between _ _ _ _ (rolls-Return v ∙ sym e) (rolls-Return w)
          (subst (PropagatedIn temps facts (rolled.return_with v) (rolled.return_with w)) (sym as_much) (returned facts v w (subst (λ fs. Reads fs v w) same h)))

    module _ (s : Stm) where
      pub after_set : (t : ℕ) (v : Tree) (y : Stm) → s ≡ at.Set t v → Goes (rolled.set t v) y → Goes s y
      after_set t v y e h = between _ _ _ _ (rolls-Set t v ∙ sym e) refl h

      pub after_read : (t : ℕ) (r : Array) (i : Tree) (y : Stm) → s ≡ at.Read t r i → Goes (rolled.read t r i) y → Goes s y
      after_read t r i y e h = between _ _ _ _ (rolls-Read t r i ∙ sym e) refl h

      pub after_choice : (t : Tree) (a b : List Stm) (y : Stm) → s ≡ at.If t a b → Goes (rolled.choose t a b) y → Goes s y
      after_choice t a b y e h = between _ _ _ _ (rolls-If t a b ∙ sym e) refl h

      pub after_loop : (start last : List Fact) (b b' : List Stm) → s ≡ at.Loop b → start ≡ [] → after ≡ start → Propagated temps start b b' last → Goes s (at.Loop b')
      after_loop start last b b' e is is' h = between _ _ _ _ (rolls-Loop b ∙ sym e) (rolls-Loop b')
          (subst (PropagatedIn temps facts (rolled.repeat b) (rolled.repeat b')) (sym (is' ∙ is)) (turns facts last b b' (subst (λ fs. Propagated temps fs b b' last) is h)))

      pub after_block : (last : List Fact) (b b' : List Stm) → s ≡ at.Block b → after ≡ [] → Propagated temps facts b b' last → Goes s (at.Block b')
      after_block last b b' e is h = between _ _ _ _ (rolls-Block b ∙ sym e) (rolls-Block b')
          (subst (PropagatedIn temps facts (rolled.enclosed b) (rolled.enclosed b')) (sym is) (block facts last b b' h))

      pub after_break : (n : ℕ) → s ≡ at.Break n → after ≡ facts → Goes s (at.Break n)
      after_break n e is = between _ _ _ _ (rolls-Break n ∙ sym e) (rolls-Break n) (subst (PropagatedIn temps facts (rolled.break n) (rolled.break n)) (sym is) (leave facts n))

      pub after_back : (n : ℕ) → s ≡ at.Back n → after ≡ facts → Goes s (at.Back n)
      after_back n e is =
          subst (PropagatedIn temps facts s (at.Back n)) (sym is)
          (subst (λ x. PropagatedIn temps facts x (at.Back n) facts) (rolls-Back n ∙ sym e)
          (subst (λ y. PropagatedIn temps facts (roll-Stm (stm.Back n)) y facts) (rolls-Back n) (again facts n)))
