-- Where what temporaries hold is read in their place, no temporary is live that wasn't, but those that a fact there reads.
-- At the start of a body there are no facts. What facts read is one of the body's temporaries.
use Rattle.std.proofs.Common.{arith, ◌≡◌, ℕ, zero, suc, ◌<◌, Bool, true, false, not, eqb, ltb, ◌&&◌, ◌||◌, List, [], ◌∷◌, ◌++◌, map, Option, Some, None, refl, sym, ◌∙◌, ap, subst, ◌⊎◌, inl, inr, Contains}
use Rattle.std.proofs.lemmas.Bool.{eq-eqb, eqb-true, ne_eqb, or_left, or_right, not-true}
use Rattle.mv_num.proofs.Booleans.{or_cases, and_cases, from_falsity}
use Rattle.mv_ast.specs.Names.{any_of}
use Rattle.mv_ir.specs.declared.tree.Tree.{Tree}
use Rattle.mv_ir.specs.declared.tree.Tree.TheOpen as tree
use Rattle.mv_ir.specs.declared.tree.Tree.TheViews.{roll-Tree}
use Rattle.mv_ir.specs.declared.stm.Array.{Array}
use Rattle.mv_ir.specs.declared.stm.Callee.{Callee}
use Rattle.mv_ir.specs.declared.stm.Stm.{Stm}
use Rattle.mv_ir.specs.declared.stm.Stm.TheOpen.{Stm-F}
use Rattle.mv_ir.specs.declared.stm.Stm.TheOpen as stm
use Rattle.mv_ir.specs.declared.stm.Stm.TheViews.{roll-Stm}
use Rattle.mv_ir.specs.declared.body.Body.{Body}
use Rattle.mv_ir.specs.Measures.{callee_trees}
use Rattle.mv_ir.specs.Live.{reads_temp, any_reads, is, Around, Flow, with_after, at_place, around_block, around_loop, live_in_order, marks_in_order, live_at_loop, plain, goes_next, flow, nowhere, live_at_start, all_marks, IsWhole, HasTemps}
use Rattle.mv_ir.specs.Rolled.{temp, unary, binary, choose, repeat, enclosed}
use Rattle.mv_ir.proofs.Rolls.{same_functions, reads_temp_roll, flow_roll, flow_of_layer}
use Rattle.mv_fold.proofs.Marks.{any_marked, marked_any, any_left, any_right, any_cases}
use Rattle.mv_fold.proofs.Thinner.{or_both}
use Rattle.mv_fold.proofs.Reached.{eqb_self}
use Rattle.mv_propagate.specs.declared.facts.Leaf.{Leaf}
use Rattle.mv_propagate.specs.declared.facts.Leaf.TheVariants.{Number, Temp}
use Rattle.mv_propagate.specs.declared.facts.Held.{Held}
use Rattle.mv_propagate.specs.declared.facts.Held.TheVariants.{Value, Element}
use Rattle.mv_propagate.specs.declared.facts.Fact.{Fact}
use Rattle.mv_propagate.specs.Facts.{tree_of, leaf_is, IsLow, held_by, names, names_result, goes_by, is_element, Staying}
use Rattle.mv_propagate.specs.Propagating.{fact, Reads, itself, held, in_unary, in_binary, in_narrow, ReadsAll, no_trees, more_trees, ReadsCallee, same_callee, through, Uncalled, Fewer, Learned, Propagated, none, more, PropagatedIn, computed, copied, stored, divided, checked, fetched, kept, moved, there, written, zeroed, choice, turns, block, leave, again, called, asked, returned}

-- ---- facts

no_facts : {A : Type 0} (f : Fact) → Contains [] f → A
no_facts f c = absurd (omega (arith, c.1))

-- what stays known where a temporary is written, or none
abbrev Stays : Option ℕ → List Fact → List Fact → Type 0
Stays w = Staying (names_result w)

staying_fewer : (gone : Fact → Bool) (facts after : List Fact) → Staying gone facts after → Stays None facts after
staying_fewer gone facts after h f c = ((h f c).0, refl)

uncalled_stays : (w : Option ℕ) (facts after : List Fact) → Uncalled w facts after → Stays w facts after
uncalled_stays w facts after h f c = ((h f c).0, second (is_element f.held) (names_result w f) (h f c).1)
  where
    second : (a b : Bool) → (a || b) ≡ false → b ≡ false
    second true b e = from_falsity (sym e)
    second false b e = e

all_stay : (facts : List Fact) → Stays None facts facts
all_stay facts f c = (c, refl)

module _ (temps : ℕ) where
  -- what a temporary is read from, in place of another or of an element, is below the bound
  abbrev IsLowIn : ℕ → Held → Type 0
  IsLowIn t (Value (Number n)) = Unit {0}
  IsLowIn t (Value (Temp u)) = u < temps
  IsLowIn t (Element a i) = t < temps

  -- none that holds an element is known to be a copy
  record Known (facts : List Fact) : Type 0 where
    pub low : (f : Fact) → Contains facts f → IsLowIn f.temp f.held
    pub single : (t : ℕ) (l : Leaf) (a : Array) (i : Leaf) → Contains facts (fact t (Value l)) → Contains facts (fact t (Element a i)) → ⊥

  none_known : Known []
  none_known = record { low = λ f c. no_facts f c; single = λ t l a i c d. no_facts (fact t (Value l)) c }

  staying_known : (gone : Fact → Bool) (facts after : List Fact) → Staying gone facts after → Known facts → Known after
  staying_known gone facts after h k = record {
    low = λ f c. k.low f (h f c).0;
    single = λ t l a i c d. k.single t l a i (h (fact t (Value l)) c).0 (h (fact t (Element a i)) d).0;
  }

  learned_known : (t : ℕ) (h : Held) (facts after : List Fact) → IsLowIn t h → Learned t h facts after → Known facts → Known after
  learned_known t h facts after low l k = record {
    low = λ f c. lows f (l f c);
    single = λ u v a i c d. singles u v a i (l (fact u (Value v)) c) (l (fact u (Element a i)) d);
  }
    where
      lows : (f : Fact) → (f ≡ fact t h) ⊎ (Contains facts f × (names t f ≡ false)) → IsLowIn f.temp f.held
      lows f (inl e) = subst (λ (g : Fact). IsLowIn g.temp g.held) (sym e) low
      lows f (inr c) = k.low f c.0

      named : (u : ℕ) (g : Held) → u ≡ t → names t (fact u g) ≡ false → ⊥
      named u g e n = from_falsity (sym n ∙ or_left (eqb u t) (held_by t g) (eq-eqb u t e))

      singles : (u : ℕ) (v : Leaf) (a : Array) (i : Leaf) → (fact u (Value v) ≡ fact t h) ⊎ (Contains facts (fact u (Value v)) × (names t (fact u (Value v)) ≡ false)) →
          (fact u (Element a i) ≡ fact t h) ⊎ (Contains facts (fact u (Element a i)) × (names t (fact u (Element a i)) ≡ false)) → ⊥
      singles u v a i (inl d) (inl e) = from_falsity (ap (λ (f : Fact). is_element f.held) (d ∙ sym e))
      singles u v a i (inl d) (inr e) = named u (Element a i) (ap (λ (f : Fact). f.temp) d) e.1
      singles u v a i (inr d) (inl e) = named u (Value v) (ap (λ (f : Fact). f.temp) e) d.1
      singles u v a i (inr d) (inr e) = k.single u v a i d.0 e.0

  low_leaf : (t : ℕ) (l : Leaf) → IsLow temps l → IsLowIn t (Value l)
  low_leaf t (Number n) h = tt
  low_leaf t (Temp u) h = h

  mutual
    code_known : (facts after : List Fact) (code code' : List Stm) → Propagated temps facts code code' after → Known facts → Known after
    code_known facts after code code' (none f) k = k
    code_known facts after code code' (more f mid a s y rest rest' h g) k = code_known mid a rest rest' g (stm_known f mid s y h k)

    stm_known : (facts after : List Fact) (s y : Stm) → PropagatedIn temps facts s y after → Known facts → Known after
    stm_known facts after s y (computed f a t v w r h) k = staying_known (names t) f a h k
    stm_known facts after s y (copied f a t v l r lt low ne h) k = learned_known t (Value l) f a (low_leaf t l low) h k
    stm_known facts after s y (stored f a g v w r h) k = staying_known _ f a h k
    stm_known facts after s y (divided f a t o b b' c c' r q h) k = staying_known (names t) f a h k
    stm_known facts after s y (checked f r i j h) k = k
    stm_known facts after s y (fetched f a t r i j q h) k = staying_known (names t) f a h k
    stm_known facts after s y (kept f a t r i l q lt low ne h) k = learned_known t (Element r l) f a lt h k
    stm_known facts after s y (moved f a t u r i l q c lt low ne h) k = learned_known t (Value (Temp u)) f a low h k
    stm_known facts after s y (there f t r i l q c lt) k = k
    stm_known facts after s y (written f a r i j v w p q h) k = staying_known (goes_by r) f a h k
    stm_known facts after s y (zeroed f a l h) k = staying_known _ f a h k
    stm_known facts after s y (choice f first second a t u b b' c c' r hb hc h g) k = staying_known (λ z. false) first a h (code_known f first b b' hb k)
    stm_known facts after s y (turns f last b b' h) k = none_known
    stm_known facts after s y (block f last b b' h) k = none_known
    stm_known facts after s y (leave f n) k = k
    stm_known facts after s y (again f n) k = k
    stm_known facts after s y (called f a r g g' xs ys hg hs h) k = staying_known _ f a h k
    stm_known facts after s y (asked f a r g xs ys hs h) k = staying_known _ f a h k
    stm_known facts after s y (returned f v w h) k = k

-- ---- as one temporary sees code

module _ (temps x : ℕ) where
  -- a temporary is live, or one is that is known to hold what it holds, or it is known to hold an element
  data Wanted (facts : List Fact) (live : ℕ → Bool) : Type 0 where
    self : live x ≡ true → Wanted facts live
    copy : (t : ℕ) → Contains facts (fact t (Value (Temp x))) → live t ≡ true → Wanted facts live
    element : (a : Array) (i : Leaf) → Contains facts (fact x (Element a i)) → Wanted facts live

  wanted_more : (facts : List Fact) (p q : ℕ → Bool) → ((t : ℕ) → p t ≡ true → q t ≡ true) → Wanted facts p → Wanted facts q
  wanted_more facts p q h (self e) = self (h x e)
  wanted_more facts p q h (copy t c e) = copy t c (h t e)
  wanted_more facts p q h (element a i c) = element a i c

  wanted_fewer : (facts after : List Fact) (p : ℕ → Bool) → Fewer facts after → Wanted after p → Wanted facts p
  wanted_fewer facts after p h (self e) = self e
  wanted_fewer facts after p h (copy t c e) = copy t (h (fact t (Value (Temp x))) c).0 e
  wanted_fewer facts after p h (element a i c) = element a i (h (fact x (Element a i)) c).0

  -- nothing is known
  wanted_itself : (p : ℕ → Bool) → Wanted [] p → p x ≡ true
  wanted_itself p (self e) = e
  wanted_itself p (copy t c e) = no_facts (fact t (Value (Temp x))) c
  wanted_itself p (element a i c) = no_facts (fact x (Element a i)) c

  -- ---- trees

  read_leaf : (l : Leaf) → leaf_is x l ≡ true → reads_temp x (tree_of l) ≡ true
  read_leaf (Number n) e = from_falsity e
  read_leaf (Temp u) e = reads_temp_roll x (tree.Temp u) ∙ e

  held_wanted : (facts : List Fact) (t : ℕ) (l : Leaf) → Contains facts (fact t (Value l)) → reads_temp x (tree_of l) ≡ true → Wanted facts (λ u. reads_temp u (temp t))
  held_wanted facts t (Number n) c e = from_falsity (sym (reads_temp_roll x (tree.Number n)) ∙ e)
  held_wanted facts t (Temp u) c e =
      copy t (subst (λ v. Contains facts (fact t (Value (Temp v)))) (eqb-true u x (sym (reads_temp_roll x (tree.Temp u)) ∙ e)) c) (reads_temp_roll t (tree.Temp t) ∙ eqb_self t)

  reads_wanted : (facts : List Fact) (v w : Tree) → Reads facts v w → reads_temp x w ≡ true → Wanted facts (λ t. reads_temp t v)
  reads_wanted facts v w (itself y) e = self e
  reads_wanted facts v w (held t l c) e = held_wanted facts t l c e
  reads_wanted facts v w (in_unary o a b h) e =
      wanted_more facts (λ t. reads_temp t a) (λ t. reads_temp t (unary o a)) (λ t g. reads_temp_roll t (tree.Unary o a) ∙ g)
      (reads_wanted facts a b h (sym (reads_temp_roll x (tree.Unary o b)) ∙ e))
  reads_wanted facts v w (in_binary o a a' b b' h k) e =
      by (reads_wanted facts a a' h) (reads_wanted facts b b' k) (or_cases (reads_temp x a') (reads_temp x b') (sym (reads_temp_roll x (tree.Binary o a' b')) ∙ e))
    where
      by : (reads_temp x a' ≡ true → Wanted facts (λ t. reads_temp t a)) → (reads_temp x b' ≡ true → Wanted facts (λ t. reads_temp t b)) →
          (reads_temp x a' ≡ true) ⊎ (reads_temp x b' ≡ true) → Wanted facts (λ t. reads_temp t (binary o a b))
      by first second (inl g) =
          wanted_more facts (λ t. reads_temp t a) (λ t. reads_temp t (binary o a b)) (λ t i. reads_temp_roll t (tree.Binary o a b) ∙ or_left (reads_temp t a) (reads_temp t b) i) (first g)
      by first second (inr g) =
          wanted_more facts (λ t. reads_temp t b) (λ t. reads_temp t (binary o a b)) (λ t i. reads_temp_roll t (tree.Binary o a b) ∙ or_right (reads_temp t a) (reads_temp t b) i) (second g)
  reads_wanted facts v w (in_narrow k a b h) e =
      wanted_more facts (λ t. reads_temp t a) (λ t. reads_temp t (roll-Tree (tree.Narrow k a))) (λ t g. reads_temp_roll t (tree.Narrow k a) ∙ g)
      (reads_wanted facts a b h (sym (reads_temp_roll x (tree.Narrow k b)) ∙ e))

  all_wanted : (facts : List Fact) (ts us : List Tree) → ReadsAll facts ts us → any_reads x us ≡ true → Wanted facts (λ t. any_reads t ts)
  all_wanted facts ts us no_trees e = from_falsity e
  all_wanted facts ts us (more_trees v w vs ws h k) e = by (all_wanted facts vs ws k) (or_cases (reads_temp x w) (any_reads x ws) e)
    where
      by : (any_reads x ws ≡ true → Wanted facts (λ t. any_reads t vs)) → (reads_temp x w ≡ true) ⊎ (any_reads x ws ≡ true) → Wanted facts (λ t. any_reads t (v ∷ vs))
      by further (inl g) = wanted_more facts (λ t. reads_temp t v) (λ t. any_reads t (v ∷ vs)) (λ t i. or_left (reads_temp t v) (any_reads t vs) i) (reads_wanted facts v w h g)
      by further (inr g) = wanted_more facts (λ t. any_reads t vs) (λ t. any_reads t (v ∷ vs)) (λ t i. or_right (reads_temp t v) (any_reads t vs) i) (further g)

  one : (facts : List Fact) (v w : Tree) → Reads facts v w → ReadsAll facts (v ∷ []) (w ∷ [])
  one facts v w h = more_trees v w [] [] h no_trees

  two : (facts : List Fact) (a a' b b' : Tree) → Reads facts a a' → Reads facts b b' → ReadsAll facts (a ∷ b ∷ []) (a' ∷ b' ∷ [])
  two facts a a' b b' h k = more_trees a a' (b ∷ []) (b' ∷ []) h (one facts b b' k)

  after_same : (facts : List Fact) (vs ts us : List Tree) → ReadsAll facts ts us → ReadsAll facts (vs ++ ts) (vs ++ us)
  after_same facts [] ts us h = h
  after_same facts (v ∷ vs) ts us h = more_trees v v (vs ++ ts) (vs ++ us) (itself v) (after_same facts vs ts us h)

  callee_wanted : (facts : List Fact) (f f' : Callee) (ts us : List Tree) → ReadsCallee facts f f' → ReadsAll facts ts us → ReadsAll facts (callee_trees f ++ ts) (callee_trees f' ++ us)
  callee_wanted facts f f' ts us (same_callee g) h = after_same facts (callee_trees g) ts us h
  callee_wanted facts f f' ts us (through t u k) h = more_trees t u ts us k h

  -- a read of a temporary that holds an element
  element_wanted : (facts : List Fact) (u : ℕ) (a : Array) (i : Leaf) (p : ℕ → Bool) → Contains facts (fact u (Element a i)) → any_reads x (temp u ∷ []) ≡ true → Wanted facts p
  element_wanted facts u a i p c e = by (or_cases (reads_temp x (temp u)) false e)
    where
      by : (reads_temp x (temp u) ≡ true) ⊎ (false ≡ true) → Wanted facts p
      by (inl g) = element a i (subst (λ v. Contains facts (fact v (Element a i))) (eqb-true u x (sym (reads_temp_roll x (tree.Temp u)) ∙ g)) c)
      by (inr g) = from_falsity g

  -- ---- what stays wanted before a write

  unwritten : (b p : Bool) → b ≡ false → p ≡ true → (not b && p) ≡ true
  unwritten b p e g = ap (λ c. not c && p) e ∙ g

  other : (w : Option ℕ) (t : ℕ) (h : Held) → names_result w (fact t h) ≡ false → is w t ≡ false
  other None t h e = refl
  other (Some u) t h e = ne_eqb u t (λ q. from_falsity (sym e ∙ or_left (eqb t u) (held_by u h) (eq-eqb t u (sym q))))

  stays_wanted : (w : Option ℕ) (facts after : List Fact) (p : ℕ → Bool) → Stays w facts after → is w x ≡ false → Wanted after p → Wanted facts (λ t. not (is w t) && p t)
  stays_wanted w facts after p h ne (self e) = self (unwritten (is w x) (p x) ne e)
  stays_wanted w facts after p h ne (copy t c e) =
      let d = h (fact t (Value (Temp x))) c in
      copy t d.0 (unwritten (is w t) (p t) (other w t (Value (Temp x)) d.1) e)
  stays_wanted w facts after p h ne (element a i c) = element a i (h (fact x (Element a i)) c).0

  -- where the statement reads what the copy that is learned is of
  learned_wanted : (t : ℕ) (h : Held) (facts after : List Fact) (q p : ℕ → Bool) → Learned t h facts after → eqb t x ≡ false →
      (held_by x h ≡ true → is_element h ≡ false → Wanted facts q) → Wanted after p → Wanted facts (λ u. q u || (not (eqb t u) && p u))
  learned_wanted t h facts after q p l ne g (self e) = self (or_right (q x) _ (unwritten (eqb t x) (p x) ne e))
  learned_wanted t h facts after q p l ne g (copy u c e) = by (l (fact u (Value (Temp x))) c)
    where
      by : (fact u (Value (Temp x)) ≡ fact t h) ⊎ (Contains facts (fact u (Value (Temp x))) × (names t (fact u (Value (Temp x))) ≡ false)) → Wanted facts (λ v. q v || (not (eqb t v) && p v))
      by (inl d) =
          wanted_more facts q (λ v. q v || (not (eqb t v) && p v)) (λ v i. or_left (q v) (not (eqb t v) && p v) i)
          (g (sym (ap (λ (f : Fact). held_by x f.held) d) ∙ eqb_self x) (sym (ap (λ (f : Fact). is_element f.held) d)))
      by (inr d) = copy u d.0 (or_right (q u) _ (unwritten (eqb t u) (p u) (other (Some t) u (Value (Temp x)) d.1) e))
  learned_wanted t h facts after q p l ne g (element a i c) = by (l (fact x (Element a i)) c)
    where
      by : (fact x (Element a i) ≡ fact t h) ⊎ (Contains facts (fact x (Element a i)) × (names t (fact x (Element a i)) ≡ false)) → Wanted facts (λ v. q v || (not (eqb t v) && p v))
      by (inl d) = from_falsity (sym ne ∙ eq-eqb t x (sym (ap (λ (f : Fact). f.temp) d)))
      by (inr d) = element a i d.0

  -- ---- what is around code

  abbrev lives : ℕ → List Stm → Around → Bool
  lives t code r = live_in_order (map (flow t) code) r

  abbrev marked : ℕ → List Stm → Around → Bool
  marked t code r = any_of (marks_in_order (map (flow t) code) r)

  -- what is known matters behind code alone: jumps carry nothing
  record Fits (after : List Fact) (r : ℕ → Around) (r' : Around) : Type 0 where
    pub next : r'.next ≡ true → Wanted after (λ t. (r t).next)
    pub leaves : (n : ℕ) → r'.leaves n ≡ true → (r x).leaves n ≡ true
    pub restarts : (n : ℕ) → r'.restarts n ≡ true → (r x).restarts n ≡ true

  at_place_fits : (b b' : Bool) (f f' : ℕ → Bool) → (b' ≡ true → b ≡ true) → ((n : ℕ) → f' n ≡ true → f n ≡ true) → (n : ℕ) → at_place b' f' n ≡ true → at_place b f n ≡ true
  at_place_fits b b' f f' h k zero e = h e
  at_place_fits b b' f f' h k (suc n) e = k n e

  fits_fewer : (facts after : List Fact) (r : ℕ → Around) (r' : Around) → Fewer facts after → Fits after r r' → Fits facts r r'
  fits_fewer facts after r r' h f = record { next = λ e. wanted_fewer facts after (λ t. (r t).next) h (f.next e); leaves = f.leaves; restarts = f.restarts }

  fits_block : (last : List Fact) (r : ℕ → Around) (r' : Around) → Fits [] r r' → Fits last (λ t. around_block (r t)) (around_block r')
  fits_block last r r' f = record {
    next = λ e. self (next e);
    leaves = at_place_fits (r x).next r'.next (r x).leaves r'.leaves next f.leaves;
    restarts = at_place_fits false false (r x).restarts r'.restarts (λ e. e) f.restarts;
  }
    where
      next : r'.next ≡ true → (r x).next ≡ true
      next e = wanted_itself (λ t. (r t).next) (f.next e)

  fits_loop : (last : List Fact) (r : ℕ → Around) (r' : Around) (s : ℕ → Bool) (s' : Bool) → Fits [] r r' → (s' ≡ true → s x ≡ true) →
      Fits last (λ t. around_loop (r t) (s t)) (around_loop r' s')
  fits_loop last r r' s s' f h = record {
    next = λ e. self (h e);
    leaves = at_place_fits (r x).next r'.next (r x).leaves r'.leaves (λ e. wanted_itself (λ t. (r t).next) (f.next e)) f.leaves;
    restarts = at_place_fits (s x) s' (r x).restarts r'.restarts h f.restarts;
  }

  -- ---- what is shown

  abbrev Marked : Bool → Type 0
  Marked b = (b ≡ true) ⊎ (x < temps)

  marked_more : (a b : Bool) → (a ≡ true → b ≡ true) → Marked a → Marked b
  marked_more a b h (inl e) = inl (h e)
  marked_more a b h (inr lt) = inr lt

  wanted_marked : (facts : List Fact) (p : ℕ → Bool) → Known temps facts → Wanted facts p → Marked (p x)
  wanted_marked facts p k (self e) = inl e
  wanted_marked facts p k (copy t c e) = inr (k.low (fact t (Value (Temp x))) c)
  wanted_marked facts p k (element a i c) = inr (k.low (fact x (Element a i)) c)

  record FlowThin (facts : List Fact) (f : ℕ → Flow) (f' : Flow) (r : ℕ → Around) (r' : Around) : Type 0 where
    pub live : f'.live r' ≡ true → Wanted facts (λ t. (f t).live (r t))
    pub marks : any_of (f'.marks r') ≡ true → Marked (any_of ((f x).marks (r x)))

  record Thin (facts : List Fact) (code code' : List Stm) (r : ℕ → Around) (r' : Around) : Type 0 where
    pub live : lives x code' r' ≡ true → Wanted facts (λ t. lives t code (r t))
    pub marks : marked x code' r' ≡ true → Marked (marked x code (r x))

  rolled_thin : (facts : List Fact) (s y : Stm-F Stm) (r : ℕ → Around) (r' : Around) → FlowThin facts (flow_of_layer s) (flow_of_layer y x) r r' →
      FlowThin facts (λ t. flow t (roll-Stm s)) (flow x (roll-Stm y)) r r'
  rolled_thin facts s y r r' h =
      subst (λ f. FlowThin facts f (flow x (roll-Stm y)) r r') (sym (same_functions (λ t. flow t (roll-Stm s)) (flow_of_layer s) (λ t. flow_roll t s)))
      (subst (λ f. FlowThin facts (flow_of_layer s) f r r') (sym (flow_roll x y)) h)

  cons_thin : (facts mid : List Fact) (s y : Stm) (code rest : List Stm) (r : ℕ → Around) (r' : Around) →
      FlowThin facts (λ t. flow t s) (flow x y) (λ t. with_after (r t) (lives t code (r t))) (with_after r' (lives x rest r')) →
      Thin mid code rest r r' → Thin facts (s ∷ code) (y ∷ rest) r r'
  cons_thin facts mid s y code rest r r' h k = record {
    live = h.live;
    marks = λ e. by (any_cases ((flow x y).marks (with_after r' (lives x rest r'))) (marks_in_order (map (flow x) rest) r') e);
  }
    where
      by : (any_of ((flow x y).marks (with_after r' (lives x rest r'))) ≡ true) ⊎ (marked x rest r' ≡ true) → Marked (marked x (s ∷ code) (r x))
      by (inl e) =
          marked_more (any_of ((flow x s).marks (with_after (r x) (lives x code (r x))))) (marked x (s ∷ code) (r x))
          (any_left ((flow x s).marks (with_after (r x) (lives x code (r x)))) (marks_in_order (map (flow x) code) (r x))) (h.marks e)
      by (inr e) =
          marked_more (marked x code (r x)) (marked x (s ∷ code) (r x))
          (any_right ((flow x s).marks (with_after (r x) (lives x code (r x)))) (marks_in_order (map (flow x) code) (r x))) (k.marks e)

  -- ---- statements without others in them

  plain_thin : (facts : List Fact) (ts us : List Tree) (w : Option ℕ) (on : Around → Bool) (r : ℕ → Around) (r' : Around) → Known temps facts →
      (any_reads x us ≡ true → Wanted facts (λ t. any_reads t ts)) →
      (is w x ≡ false → on r' ≡ true → Wanted facts (λ t. any_reads t ts || (not (is w t) && on (r t)))) → FlowThin facts (λ t. plain t ts w on) (plain x us w on) r r'
  plain_thin facts ts us w on r r' k reads goes = record { live = live; marks = λ e. drop (or_cases _ false e) }
    where
      by : (any_reads x us ≡ true) ⊎ ((not (is w x) && on r') ≡ true) → Wanted facts (λ t. any_reads t ts || (not (is w t) && on (r t)))
      by (inl e) =
          wanted_more facts (λ t. any_reads t ts) (λ t. any_reads t ts || (not (is w t) && on (r t))) (λ t i. or_left (any_reads t ts) (not (is w t) && on (r t)) i) (reads e)
      by (inr e) = let parts = and_cases (not (is w x)) (on r') e in goes (not-true (is w x) parts.0) parts.1

      live : (any_reads x us || (not (is w x) && on r')) ≡ true → Wanted facts (λ t. any_reads t ts || (not (is w t) && on (r t)))
      live e = by (or_cases (any_reads x us) (not (is w x) && on r') e)

      before : Bool
      before = any_reads x ts || (not (is w x) && on (r x))

      marks : ((any_reads x us || (not (is w x) && on r')) ≡ true) ⊎ (is w x ≡ true) → Marked ((before || is w x) || false)
      marks (inl e) =
          marked_more before ((before || is w x) || false) (λ i. or_left (before || is w x) false (or_left before (is w x) i))
          (wanted_marked facts (λ t. any_reads t ts || (not (is w t) && on (r t))) k (live e))
      marks (inr e) = inl (or_left (before || is w x) false (or_right before (is w x) e))

      drop : (((any_reads x us || (not (is w x) && on r')) || is w x) ≡ true) ⊎ (false ≡ true) → Marked ((before || is w x) || false)
      drop (inl e) = marks (or_cases (any_reads x us || (not (is w x) && on r')) (is w x) e)
      drop (inr e) = from_falsity e

  next_thin : (facts after : List Fact) (ts us : List Tree) (w : Option ℕ) (r : ℕ → Around) (r' : Around) → Known temps facts → ReadsAll facts ts us → Stays w facts after → Fits after r r' →
      FlowThin facts (λ t. plain t ts w goes_next) (plain x us w goes_next) r r'
  next_thin facts after ts us w r r' k h s f =
      plain_thin facts ts us w goes_next r r' k (all_wanted facts ts us h)
      (λ ne e. wanted_more facts (λ t. not (is w t) && (r t).next) (λ t. any_reads t ts || (not (is w t) && (r t).next)) (λ t i. or_right (any_reads t ts) (not (is w t) && (r t).next) i)
      (stays_wanted w facts after (λ t. (r t).next) s ne (f.next e)))

  learned_thin : (facts after : List Fact) (ts us : List Tree) (t : ℕ) (h : Held) (r : ℕ → Around) (r' : Around) → Known temps facts →
      (any_reads x us ≡ true → Wanted facts (λ u. any_reads u ts)) →
      (held_by x h ≡ true → is_element h ≡ false → Wanted facts (λ u. any_reads u ts)) → Learned t h facts after → Fits after r r' →
      FlowThin facts (λ u. plain u ts (Some t) goes_next) (plain x us (Some t) goes_next) r r'
  learned_thin facts after ts us t h r r' k reads g l f =
      plain_thin facts ts us (Some t) goes_next r r' k reads (λ ne e. learned_wanted t h facts after (λ u. any_reads u ts) (λ u. (r u).next) l ne g (f.next e))

  -- a temporary that holds the element that is read is no copy
  there_thin : (facts : List Fact) (t : ℕ) (a : Array) (i : Tree) (l : Leaf) (r : ℕ → Around) (r' : Around) → Known temps facts → Contains facts (fact t (Element a l)) → Fits facts r r' →
      FlowThin facts (λ u. plain u (i ∷ []) (Some t) goes_next) (plain x (temp t ∷ []) (Some t) goes_next) r r'
  there_thin facts t a i l r r' k c f =
      plain_thin facts (i ∷ []) (temp t ∷ []) (Some t) goes_next r r' k (element_wanted facts t a l (λ u. any_reads u (i ∷ [])) c) (λ ne e. by ne (f.next e))
    where
      by : eqb t x ≡ false → Wanted facts (λ u. (r u).next) → Wanted facts (λ u. any_reads u (i ∷ []) || (not (eqb t u) && (r u).next))
      by ne (self e) = self (or_right (any_reads x (i ∷ [])) _ (unwritten (eqb t x) (r x).next ne e))
      by ne (copy u d e) =
          copy u d (or_right (any_reads u (i ∷ [])) _ (unwritten (eqb t u) (r u).next
          (ne_eqb t u (λ q. absurd (k.single t (Temp x) a l (subst (λ v. Contains facts (fact v (Value (Temp x)))) (sym q) d) c))) e))
      by ne (element b j d) = element b j d

  -- ---- statements with others in them

  choice_thin : (facts : List Fact) (c d : Tree) (a a' b b' : List Stm) (r : ℕ → Around) (r' : Around) → Known temps facts → Reads facts c d → Thin facts a a' r r' → Thin facts b b' r r' →
      FlowThin facts (λ t. flow t (choose c a b)) (flow x (choose d a' b')) r r'
  choice_thin facts c d a a' b b' r r' k h ha hb = rolled_thin facts (stm.If c a b) (stm.If d a' b') r r' (record {
    live = live;
    marks = λ e. by_marks (or_cases _ (any_of (marks_in_order (map (flow x) a') r' ++ marks_in_order (map (flow x) b') r')) e);
  })
    where
      whole : ℕ → Bool
      whole t = reads_temp t c || (lives t a (r t) || lives t b (r t))

      sides : (lives x a' r' ≡ true) ⊎ (lives x b' r' ≡ true) → Wanted facts whole
      sides (inl e) = wanted_more facts (λ t. lives t a (r t)) whole (λ t i. or_right (reads_temp t c) _ (or_left (lives t a (r t)) (lives t b (r t)) i)) (ha.live e)
      sides (inr e) = wanted_more facts (λ t. lives t b (r t)) whole (λ t i. or_right (reads_temp t c) _ (or_right (lives t a (r t)) (lives t b (r t)) i)) (hb.live e)

      by : (reads_temp x d ≡ true) ⊎ ((lives x a' r' || lives x b' r') ≡ true) → Wanted facts whole
      by (inl e) = wanted_more facts (λ t. reads_temp t c) whole (λ t i. or_left (reads_temp t c) (lives t a (r t) || lives t b (r t)) i) (reads_wanted facts c d h e)
      by (inr e) = sides (or_cases (lives x a' r') (lives x b' r') e)

      live : (reads_temp x d || (lives x a' r' || lives x b' r')) ≡ true → Wanted facts whole
      live e = by (or_cases (reads_temp x d) (lives x a' r' || lives x b' r') e)

      within : Bool
      within = any_of (marks_in_order (map (flow x) a) (r x) ++ marks_in_order (map (flow x) b) (r x))

      by_sides : (marked x a' r' ≡ true) ⊎ (marked x b' r' ≡ true) → Marked within
      by_sides (inl e) = marked_more (marked x a (r x)) within (any_left (marks_in_order (map (flow x) a) (r x)) (marks_in_order (map (flow x) b) (r x))) (ha.marks e)
      by_sides (inr e) = marked_more (marked x b (r x)) within (any_right (marks_in_order (map (flow x) a) (r x)) (marks_in_order (map (flow x) b) (r x))) (hb.marks e)

      by_marks : ((reads_temp x d || (lives x a' r' || lives x b' r')) ≡ true) ⊎ (any_of (marks_in_order (map (flow x) a') r' ++ marks_in_order (map (flow x) b') r') ≡ true) →
          Marked (whole x || within)
      by_marks (inl e) = marked_more (whole x) (whole x || within) (or_left (whole x) within) (wanted_marked facts whole k (live e))
      by_marks (inr e) =
          marked_more within (whole x || within) (or_right (whole x) within) (by_sides (any_cases (marks_in_order (map (flow x) a') r') (marks_in_order (map (flow x) b') r') e))

  block_thin : (facts : List Fact) (b b' : List Stm) (r : ℕ → Around) (r' : Around) → Known temps facts → Thin facts b b' (λ t. around_block (r t)) (around_block r') →
      FlowThin facts (λ t. flow t (enclosed b)) (flow x (enclosed b')) r r'
  block_thin facts b b' r r' k h = rolled_thin facts (stm.Block b) (stm.Block b') r r' (record {
    live = h.live;
    marks = λ e. by (or_cases (lives x b' (around_block r')) (marked x b' (around_block r')) e);
  })
    where
      by : (lives x b' (around_block r') ≡ true) ⊎ (marked x b' (around_block r') ≡ true) → Marked (lives x b (around_block (r x)) || marked x b (around_block (r x)))
      by (inl e) =
          marked_more (lives x b (around_block (r x))) _ (or_left (lives x b (around_block (r x))) (marked x b (around_block (r x))))
          (wanted_marked facts (λ t. lives t b (around_block (r t))) k (h.live e))
      by (inr e) = marked_more (marked x b (around_block (r x))) _ (or_right (lives x b (around_block (r x))) (marked x b (around_block (r x)))) (h.marks e)

  turns_thin : (facts last : List Fact) (b b' : List Stm) (r : ℕ → Around) (r' : Around) → Fits [] r r' → ((q : ℕ → Around) (q' : Around) → Fits last q q' → Thin [] b b' q q') →
      FlowThin facts (λ t. flow t (repeat b)) (flow x (repeat b')) r r'
  turns_thin facts last b b' r r' f h = rolled_thin facts (stm.Loop b) (stm.Loop b') r r' (record { live = λ e. self (start e); marks = λ e. by (or_cases begins' _ e) })
    where
      begins : ℕ → Bool
      begins t = live_at_loop (map (flow t) b) (r t)

      begins' : Bool
      begins' = live_at_loop (map (flow x) b') r'

      start : begins' ≡ true → begins x ≡ true
      start e = wanted_itself begins ((h (λ t. around_loop (r t) false) (around_loop r' false) (fits_loop last r r' (λ t. false) false f (λ g. g))).live e)

      by : (begins' ≡ true) ⊎ (marked x b' (around_loop r' begins') ≡ true) → Marked (begins x || marked x b (around_loop (r x) (begins x)))
      by (inl e) = inl (or_left (begins x) _ (start e))
      by (inr e) =
          marked_more (marked x b (around_loop (r x) (begins x))) _ (or_right (begins x) (marked x b (around_loop (r x) (begins x))))
          ((h (λ t. around_loop (r t) (begins t)) (around_loop r' begins') (fits_loop last r r' begins begins' f start)).marks e)

  -- ---- code

  abbrev CodeThin : List Fact → List Fact → List Stm → List Stm → Type 0
  CodeThin facts after code code' = (r : ℕ → Around) (r' : Around) → Fits after r r' → Thin facts code code' r r'

  abbrev StmThin : List Fact → List Fact → Stm → Stm → Type 0
  StmThin facts after s y = (r : ℕ → Around) (r' : Around) → Fits after r r' → FlowThin facts (λ t. flow t s) (flow x y) r r'

  more_thin : (facts mid after : List Fact) (s y : Stm) (code rest : List Stm) → StmThin facts mid s y → CodeThin mid after code rest → CodeThin facts after (s ∷ code) (y ∷ rest)
  more_thin facts mid after s y code rest h g r r' f =
      let k = g r r' f in
      cons_thin facts mid s y code rest r r'
      (h (λ t. with_after (r t) (lives t code (r t))) (with_after r' (lives x rest r')) (record { next = k.live; leaves = f.leaves; restarts = f.restarts })) k

  mutual
    code_thin : (facts after : List Fact) (code code' : List Stm) → Propagated temps facts code code' after → Known temps facts → CodeThin facts after code code'
    code_thin facts after code code' (none f) k = λ r r' fits. record { live = fits.next; marks = λ e. from_falsity e }
    code_thin facts after code code' (more f mid a s y rest rest' h g) k =
        more_thin f mid a s y rest rest' (stm_thin f mid s y h k) (code_thin mid a rest rest' g (stm_known temps f mid s y h k))

    stm_thin : (facts after : List Fact) (s y : Stm) → PropagatedIn temps facts s y after → Known temps facts → StmThin facts after s y
    stm_thin facts after s y (computed f a t v w q h) k = λ r r' fits. rolled_thin f (stm.Set t v) (stm.Set t w) r r'
        (next_thin f a (v ∷ []) (w ∷ []) (Some t) r r' k (one f v w q) h fits)
    stm_thin facts after s y (copied f a t v l q lt low ne h) k = λ r r' fits. rolled_thin f (stm.Set t v) (stm.Set t (tree_of l)) r r'
        (learned_thin f a (v ∷ []) (tree_of l ∷ []) t (Value l) r r' k (all_wanted f (v ∷ []) (tree_of l ∷ []) (one f v (tree_of l) q))
        (λ e g. all_wanted f (v ∷ []) (tree_of l ∷ []) (one f v (tree_of l) q) (or_left (reads_temp x (tree_of l)) false (read_leaf l e))) h fits)
    stm_thin facts after s y (stored f a g v w q h) k = λ r r' fits. rolled_thin f (stm.SetGlobal g v) (stm.SetGlobal g w) r r'
        (next_thin f a (v ∷ []) (w ∷ []) None r r' k (one f v w q) (staying_fewer _ f a h) fits)
    stm_thin facts after s y (divided f a t o b b' c c' p q h) k = λ r r' fits. rolled_thin f (stm.Divide t o b c) (stm.Divide t o b' c') r r'
        (next_thin f a (b ∷ c ∷ []) (b' ∷ c' ∷ []) (Some t) r r' k (two f b b' c c' p q) h fits)
    stm_thin facts after s y (checked f a i j q) k = λ r r' fits. rolled_thin f (stm.Check a i) (stm.Check a j) r r'
        (next_thin f f (i ∷ []) (j ∷ []) None r r' k (one f i j q) (all_stay f) fits)
    stm_thin facts after s y (fetched f a t b i j q h) k = λ r r' fits. rolled_thin f (stm.Read t b i) (stm.Read t b j) r r'
        (next_thin f a (i ∷ []) (j ∷ []) (Some t) r r' k (one f i j q) h fits)
    stm_thin facts after s y (kept f a t b i l q lt low ne h) k = λ r r' fits. rolled_thin f (stm.Read t b i) (stm.Read t b (tree_of l)) r r'
        (learned_thin f a (i ∷ []) (tree_of l ∷ []) t (Element b l) r r' k (all_wanted f (i ∷ []) (tree_of l ∷ []) (one f i (tree_of l) q)) (λ e g. from_falsity (sym g)) h fits)
    stm_thin facts after s y (moved f a t u b i l q c lt low ne h) k = λ r r' fits. rolled_thin f (stm.Read t b i) (stm.Set t (temp u)) r r'
        (learned_thin f a (i ∷ []) (temp u ∷ []) t (Value (Temp u)) r r' k (element_wanted f u b l (λ v. any_reads v (i ∷ [])) c)
        (λ e g. element_wanted f u b l (λ v. any_reads v (i ∷ [])) c (or_left (reads_temp x (temp u)) false (read_leaf (Temp u) e))) h fits)
    stm_thin facts after s y (there f t b i l q c lt) k = λ r r' fits. rolled_thin f (stm.Read t b i) (stm.Set t (temp t)) r r'
        (there_thin f t b i l r r' k c fits)
    stm_thin facts after s y (written f a b i j v w p q h) k = λ r r' fits. rolled_thin f (stm.Write b i v) (stm.Write b j w) r r'
        (next_thin f a (i ∷ v ∷ []) (j ∷ w ∷ []) None r r' k (two f i j v w p q) (staying_fewer _ f a h) fits)
    stm_thin facts after s y (zeroed f a l h) k = λ r r' fits. rolled_thin f (stm.Zero l) (stm.Zero l) r r'
        (next_thin f a [] [] None r r' k no_trees (staying_fewer _ f a h) fits)
    stm_thin facts after s y (choice f first second a t u b b' c c' q hb hc h g) k = λ r r' fits. choice_thin f t u b b' c c' r r' k q
        (code_thin f first b b' hb k r r' (fits_fewer first a r r' h fits)) (code_thin f second c c' hc k r r' (fits_fewer second a r r' g fits))
    stm_thin facts after s y (turns f last b b' h) k = λ r r' fits. turns_thin f last b b' r r' fits (code_thin [] last b b' h (none_known temps))
    stm_thin facts after s y (block f last b b' h) k = λ r r' fits. block_thin f b b' r r' k
        (code_thin f last b b' h k (λ t. around_block (r t)) (around_block r') (fits_block last r r' fits))
    stm_thin facts after s y (leave f n) k = λ r r' fits. rolled_thin f (stm.Break n) (stm.Break n) r r'
        (plain_thin f [] [] None (λ z. z.leaves n) r r' k (λ e. from_falsity e) (λ ne e. self (fits.leaves n e)))
    stm_thin facts after s y (again f n) k = λ r r' fits. rolled_thin f (stm.Back n) (stm.Back n) r r'
        (plain_thin f [] [] None (λ z. z.restarts n) r r' k (λ e. from_falsity e) (λ ne e. self (fits.restarts n e)))
    stm_thin facts after s y (called f a w g g' ts us hg hs h) k = λ r r' fits. rolled_thin f (stm.Call w g ts) (stm.Call w g' us) r r'
        (next_thin f a (callee_trees g ++ ts) (callee_trees g' ++ us) w r r' k (callee_wanted f g g' ts us hg hs) (uncalled_stays w f a h) fits)
    stm_thin facts after s y (asked f a w g ts us hs h) k = λ r r' fits. rolled_thin f (stm.Known w g ts) (stm.Known w g us) r r'
        (next_thin f a ts us w r r' k hs (uncalled_stays w f a h) fits)
    stm_thin facts after s y (returned f v w q) k = λ r r' fits. rolled_thin f (stm.Return v) (stm.Return w) r r'
        (plain_thin f (v ∷ []) (w ∷ []) None (λ z. false) r r' k (all_wanted f (v ∷ []) (w ∷ []) (one f v w q)) (λ ne e. from_falsity e))

  body_thin : (last : List Fact) (code code' : List Stm) → Propagated temps [] code code' last → Thin [] code code' (λ t. nowhere) nowhere
  body_thin last code code' h = code_thin [] last code code' h (none_known temps) (λ t. nowhere) nowhere (record { next = λ e. from_falsity e; leaves = λ n e. e; restarts = λ n e. e })

-- ---- bodies

started : (body : Body) (code : List Stm) (last : List Fact) → Propagated body.temps [] body.code code last → (t : ℕ) → live_at_start t code ≡ true → live_at_start t body.code ≡ true
started body code last h t e = wanted_itself body.temps t (λ u. live_at_start u body.code) ((body_thin body.temps t last body.code code h).live e)

pub propagated_whole : (body : Body) (code : List Stm) (last : List Fact) → Propagated body.temps [] body.code code last → IsWhole body → IsWhole (record body { code = code })
propagated_whole body code last h whole t e = whole t (started body code last h t e)

pub propagated_have_temps : (body : Body) (code : List Stm) (last : List Fact) → Propagated body.temps [] body.code code last → HasTemps body → HasTemps (record body { code = code })
propagated_have_temps body code last h has i t e =
    by (or_cases (live_at_start t code || ltb t body.params) (marked body.temps t t code nowhere) (marked_any (all_marks (record body { code = code }) t) i e))
  where
    found : any_of (all_marks body t) ≡ true → t < body.temps
    found g = let place = any_marked (all_marks body t) g in has place.0 t place.1

    start : Bool
    start = live_at_start t body.code || ltb t body.params

    inside : Marked body.temps t (marked body.temps t t body.code nowhere) → t < body.temps
    inside (inl g) = found (or_right start (marked body.temps t t body.code nowhere) g)
    inside (inr lt) = lt

    by : ((live_at_start t code || ltb t body.params) ≡ true) ⊎ (marked body.temps t t code nowhere ≡ true) → t < body.temps
    by (inl g) =
        found (or_left start (marked body.temps t t body.code nowhere)
        (or_both (live_at_start t body.code) (ltb t body.params) (live_at_start t code) (ltb t body.params) (started body code last h t) (λ v. v) g))
    by (inr g) = inside ((body_thin body.temps t last body.code code h).marks g)
