-- What a tree is worth, has in it and reads where a value takes the place of a temporary.
use Rattle.std.proofs.Common.{arith, ◌≡◌, ℕ, ◌<◌, ◌≤◌, Bool, true, false, cond, eqb, List, [], ◌++◌, length, refl, sym, ◌∙◌, ap, subst, ◌⊎◌, inl, inr, Contains}
use Rattle.std.specs.Prelude.{slice_index, slice_set}
use Rattle.std.proofs.lemmas.List.{get_or-set_other}
use Rattle.std.proofs.lemmas.List.Elements.{Contains-append_left, Contains-append_right, Contains-append_cases}
use Rattle.std.proofs.lemmas.Grind.{get_or-set_at}
use Rattle.std.proofs.lemmas.Bool.{eqb-true, eqb-false, or_left, or_right}
use Rattle.mv_num.specs.declared.kind.Kind.{Kind}
use Rattle.mv_num.specs.Words as word
use Rattle.mv_num.proofs.Booleans.{or_cases, from_falsity}
use Rattle.mv_ir.specs.declared.tree.Tree.{Tree, out-Tree}
use Rattle.mv_ir.specs.declared.tree.Tree as tr
use Rattle.mv_ir.specs.declared.tree.Tree.TheOpen.{Tree-F}
use Rattle.mv_ir.specs.declared.tree.Tree.TheOpen as tree
use Rattle.mv_ir.specs.declared.tree.Tree.TheVariants.{rolls-Unary, rolls-Binary, rolls-Narrow}
use Rattle.mv_ir.specs.declared.tree.Tree.TheViews.{roll-Tree, roll-out-Tree}
use Rattle.mv_ir.specs.declared.tree.Tree.TheFolds.{map-Tree}
use Rattle.mv_ir.specs.Trees.{Value, tree_value, unary, binary, value, nodes, depth}
use Rattle.mv_ir.specs.Measures.{tree_reads}
use Rattle.mv_ir.specs.Live.{reads_temp}
use Rattle.mv_ir.specs.Operators as operator
use Rattle.mv_ir.specs.Rolled.{number, temp, narrow}
use Rattle.mv_ir.specs.Rolled as rolled
use Rattle.mv_ir.proofs.Induction.{TreeChildren, tree_ind}
use Rattle.mv_ir.proofs.Rolls.{value_roll, nodes_roll, depth_roll, reads_roll, reads_temp_roll}
use Rattle.mv_fold.proofs.Reached.{eqb_self}
use Rattle.mv_fold.proofs.Within.{none_among, Less, with, less_right}
use Rattle.mv_fold.proofs.FoldedWithin.{of_tree}
use Rattle.mv_plain.specs.Plain as plain
use Rattle.mv_plain.specs.Plain.{is_truth, Plainer}
use Rattle.mv_tidy.specs.Tidying.{taking, layer_is_leaf, is_leaf, Takes, whole, truth, twice_truth, narrowed_truth, through}
use Rattle.mv_tidy.proofs.Equations.{leaf_roll, taking_roll}
use Rattle.mv_plain.proofs.PlainKept as kept

-- ---- values

module _ (numbers : List ℕ) (bound : List (ℕ × ℕ)) (globals : List (List ℕ)) where
  abbrev val : Tree → List ℕ → ℕ
  val x zs = value numbers bound x zs globals

  here : (x : Tree-F Tree) (zs : List ℕ) → val (roll-Tree x) zs ≡ tree_value numbers bound (map-Tree Tree Value (value numbers bound) x) zs globals
  here x zs = ap (λ f. f zs globals) (value_roll numbers bound x)

  module _ (t : ℕ) (e : Tree) (xs : List ℕ) (room : t < length xs) where
    abbrev put : List ℕ
    put = slice_set xs t (val e xs)

    abbrev IsTaken : Tree → Type 0
    IsTaken v = val v put ≡ val (taking t e v) xs

    there : (x : Tree-F Tree) (y : Tree) → taking t e (roll-Tree x) ≡ y → val y xs ≡ val (taking t e (roll-Tree x)) xs
    there x y h = ap (λ z. val z xs) (sym h)

    taken_temp : (u : ℕ) (c : Bool) → eqb u t ≡ c → slice_index put u ≡ val (cond c e (temp u)) xs
    taken_temp u true h = get_or-set_at xs t u (val e xs) 0 (eqb-true u t h) room
    taken_temp u false h = get_or-set_other xs t u (val e xs) 0 (eqb-false u t h) ∙ sym (here (tree.Temp u) xs)

    taken_layer : (x : Tree-F Tree) → TreeChildren IsTaken x → IsTaken (roll-Tree x)
    taken_layer (tree.Number n) h = here (tree.Number n) put ∙ sym (here (tree.Number n) xs) ∙ there (tree.Number n) _ (taking_roll t e (tree.Number n))
    taken_layer (tree.Temp u) h = here (tree.Temp u) put ∙ taken_temp u (eqb u t) refl ∙ there (tree.Temp u) _ (taking_roll t e (tree.Temp u))
    taken_layer (tree.Global g) h = here (tree.Global g) put ∙ sym (here (tree.Global g) xs) ∙ there (tree.Global g) _ (taking_roll t e (tree.Global g))
    taken_layer (tree.Function f) h = here (tree.Function f) put ∙ sym (here (tree.Function f) xs) ∙ there (tree.Function f) _ (taking_roll t e (tree.Function f))
    taken_layer (tree.Unary o a) h = here (tree.Unary o a) put ∙ ap (unary o) h ∙ sym (here (tree.Unary o (taking t e a)) xs) ∙ there (tree.Unary o a) _ (taking_roll t e (tree.Unary o a))
    taken_layer (tree.Binary o a b) h =
        here (tree.Binary o a b) put ∙ ap (λ v. binary o v (val b put)) h.0 ∙ ap (binary o (val (taking t e a) xs)) h.1 ∙ sym (here (tree.Binary o (taking t e a) (taking t e b)) xs) ∙
        there (tree.Binary o a b) _ (taking_roll t e (tree.Binary o a b))
    taken_layer (tree.Narrow k a) h = here (tree.Narrow k a) put ∙ ap (word.narrow k) h ∙ sym (here (tree.Narrow k (taking t e a)) xs) ∙ there (tree.Narrow k a) _ (taking_roll t e (tree.Narrow k a))

    pub value_taken : (v : Tree) → val v put ≡ val (taking t e v) xs
    value_taken = tree_ind IsTaken taken_layer

-- ---- a value that is taken

abbrev denied : Tree → Tree
denied = rolled.unary operator.logical_not

-- the temporary itself
taking_itself : (t : ℕ) (e : Tree) → taking t e (temp t) ≡ e
taking_itself t e = taking_roll t e (tree.Temp t) ∙ ap (λ c. cond c e (temp t)) (eqb_self t)

-- whether the temporary is 0
taking_asked : (t : ℕ) (e : Tree) → taking t e (rolled.binary operator.not_equal (temp t) (number 0)) ≡ rolled.binary operator.not_equal e (number 0)
taking_asked t e =
    taking_roll t e (tree.Binary operator.not_equal (temp t) (number 0)) ∙
    ap (λ a. rolled.binary operator.not_equal a (taking t e (number 0))) (taking_itself t e) ∙
    ap (rolled.binary operator.not_equal e) (taking_roll t e (tree.Number 0))

-- whether it is, twice
taking_twice : (t : ℕ) (e : Tree) → taking t e (denied (denied (temp t))) ≡ denied (denied e)
taking_twice t e = taking_roll t e (tree.Unary operator.logical_not (denied (temp t))) ∙
    ap denied (taking_roll t e (tree.Unary operator.logical_not (temp t)) ∙ ap denied (taking_itself t e))

taking_narrowed : (t : ℕ) (e : Tree) (k : Kind) → taking t e (narrow k (temp t)) ≡ narrow k e
taking_narrowed t e k = taking_roll t e (tree.Narrow k (temp t)) ∙ ap (narrow k) (taking_itself t e)

takes_plainer : (t : ℕ) (e v w : Tree) → Takes t e v w → Plainer (taking t e v) w
takes_plainer t e v w whole = subst (λ u. Plainer u e) (sym (taking_itself t e)) (plain.itself e)
takes_plainer t e v w (truth h) = subst (λ u. Plainer u e) (sym (taking_asked t e)) (plain.asked e h)
takes_plainer t e v w (twice_truth h) = subst (λ u. Plainer u e) (sym (taking_twice t e)) (plain.twice e h)
takes_plainer t e v w (narrowed_truth k h) = subst (λ u. Plainer u e) (sym (taking_narrowed t e k)) (plain.truth_stays k e h)
takes_plainer t e v w (through u h) = plain.itself (taking t e u)

-- what is computed with it is what the tree gives where the temporary has the value
pub takes_value : (numbers : List ℕ) (bound : List (ℕ × ℕ)) (globals : List (List ℕ)) (t : ℕ) (e v w : Tree) → Takes t e v w → (xs : List ℕ) → t < length xs →
    value numbers bound v (slice_set xs t (value numbers bound e xs globals)) globals ≡ value numbers bound w xs globals
takes_value numbers bound globals t e v w k xs room =
    value_taken numbers bound globals t e xs room v ∙ kept.value_same numbers bound xs globals (taking t e v) w (takes_plainer t e v w k)

pub through_taken : (t : ℕ) (e v w : Tree) → is_leaf e ≡ true → w ≡ taking t e v → Takes t e v w
through_taken t e v w h is = subst (Takes t e v) (sym is) (through v h)

pub whole_taken : (t : ℕ) (e v w : Tree) → v ≡ temp t → w ≡ e → Takes t e v w
whole_taken t e v w is same = subst (λ x. Takes t e x w) (sym is) (subst (Takes t e (temp t)) (sym same) whole)

pub asked_taken : (t o : ℕ) (a b v e : Tree) → o ≡ operator.not_equal → a ≡ temp t → b ≡ number 0 → v ≡ tr.Binary o a b → is_truth e ≡ true → Takes t e v e
asked_taken t o a b v e ho ha hb is h =
    let same : v ≡ rolled.binary operator.not_equal (temp t) (number 0) =
    is ∙ ap (λ x. tr.Binary x a b) ho ∙ ap (λ x. tr.Binary operator.not_equal x b) ha ∙ ap (tr.Binary operator.not_equal (temp t)) hb ∙
    sym (rolls-Binary operator.not_equal (temp t) (number 0)) in
    subst (λ x. Takes t e x e) (sym same) (truth h)

pub denial_is : (t o : ℕ) (a v : Tree) → o ≡ operator.logical_not → a ≡ temp t → v ≡ tr.Unary o a → v ≡ denied (temp t)
denial_is t o a v ho ha is = is ∙ ap (λ x. tr.Unary x a) ho ∙ ap (tr.Unary operator.logical_not) ha ∙ sym (rolls-Unary operator.logical_not (temp t))

pub twice_taken : (t o : ℕ) (a v e : Tree) → o ≡ operator.logical_not → a ≡ denied (temp t) → v ≡ tr.Unary o a → is_truth e ≡ true → Takes t e v e
twice_taken t o a v e ho ha is h =
    let same : v ≡ denied (denied (temp t)) =
    is ∙ ap (λ x. tr.Unary x a) ho ∙ ap (tr.Unary operator.logical_not) ha ∙ sym (rolls-Unary operator.logical_not (denied (temp t))) in
    subst (λ x. Takes t e x e) (sym same) (twice_truth h)

pub narrowed_taken : (t : ℕ) (k : Kind) (a v e : Tree) → a ≡ temp t → v ≡ tr.Narrow k a → is_truth e ≡ true → Takes t e v e
narrowed_taken t k a v e ha is h = subst (λ x. Takes t e x e) (sym (is ∙ ap (tr.Narrow k) ha ∙ sym (rolls-Narrow k (temp t)))) (narrowed_truth k h)

-- ---- what there is in it

module _ (t : ℕ) (e : Tree) where
  -- where the value is one node
  record Smaller (v : Tree) : Type 0 where
    nodes : nodes (taking t e v) ≤ nodes v
    depth : depth (taking t e v) ≤ depth v
    reads : (g : ℕ) → Contains (tree_reads (taking t e v)) g → Contains (tree_reads v) g ⊎ Contains (tree_reads e) g

  as_it_was : (x : Tree-F Tree) → taking t e (roll-Tree x) ≡ roll-Tree x → Smaller (roll-Tree x)
  as_it_was x h = record {
    nodes = (let k = ap nodes h in omega (arith, k));
    depth = (let k = ap depth h in omega (arith, k));
    reads = λ g c. inl (subst (λ y. Contains (tree_reads y) g) h c);
  }

  module _ (one : nodes e ≤ 1) (flat : depth e ≤ 1) where
    smaller_temp : (u : ℕ) (c : Bool) → taking t e (temp u) ≡ cond c e (temp u) → Smaller (temp u)
    smaller_temp u true h = record {
      nodes = (let k = ap nodes h in omega (arith, k, one, nodes_roll (tree.Temp u)));
      depth = (let k = ap depth h in omega (arith, k, flat, depth_roll (tree.Temp u)));
      reads = λ g c. inr (subst (λ y. Contains (tree_reads y) g) h c);
    }
    smaller_temp u false h = as_it_was (tree.Temp u) h

    smaller_layer : (x : Tree-F Tree) → TreeChildren Smaller x → Smaller (roll-Tree x)
    smaller_layer (tree.Number n) h = as_it_was (tree.Number n) (taking_roll t e (tree.Number n))
    smaller_layer (tree.Temp u) h = smaller_temp u (eqb u t) (taking_roll t e (tree.Temp u))
    smaller_layer (tree.Global g) h = as_it_was (tree.Global g) (taking_roll t e (tree.Global g))
    smaller_layer (tree.Function f) h = as_it_was (tree.Function f) (taking_roll t e (tree.Function f))
    smaller_layer (tree.Unary o a) h = record {
      nodes = (let k = ap nodes (taking_roll t e (tree.Unary o a)) in omega (arith, k, h.nodes, nodes_roll (tree.Unary o a), nodes_roll (tree.Unary o (taking t e a))));
      depth = (let k = ap depth (taking_roll t e (tree.Unary o a)) in omega (arith, k, h.depth, depth_roll (tree.Unary o a), depth_roll (tree.Unary o (taking t e a))));
      reads = λ g c. one_of a g (reads_roll (tree.Unary o a)) (h.reads g (subst (λ l. Contains l g) (ap tree_reads (taking_roll t e (tree.Unary o a)) ∙ reads_roll (tree.Unary o (taking t e a))) c));
    }
      where
        one_of : (a : Tree) (g : ℕ) → tree_reads (roll-Tree (tree.Unary o a)) ≡ tree_reads a → Contains (tree_reads a) g ⊎ Contains (tree_reads e) g → Contains (tree_reads (roll-Tree (tree.Unary o a))) g ⊎ Contains (tree_reads e) g
        one_of a g k (inl c) = inl (subst (λ l. Contains l g) (sym k) c)
        one_of a g k (inr c) = inr c
    smaller_layer (tree.Binary o a b) h = record {
      nodes = (let k = ap nodes (taking_roll t e (tree.Binary o a b)) in omega (arith, k, h.0.nodes, h.1.nodes, nodes_roll (tree.Binary o a b), nodes_roll (tree.Binary o (taking t e a) (taking t e b))));
      depth = (let k = ap depth (taking_roll t e (tree.Binary o a b)) in omega (arith, k, h.0.depth, h.1.depth, depth_roll (tree.Binary o a b), depth_roll (tree.Binary o (taking t e a) (taking t e b))));
      reads = λ g c. both g (Contains-append_cases (tree_reads (taking t e a)) (tree_reads (taking t e b)) g
          (subst (λ l. Contains l g) (ap tree_reads (taking_roll t e (tree.Binary o a b)) ∙ reads_roll (tree.Binary o (taking t e a) (taking t e b))) c));
    }
      where
        first : (g : ℕ) → Contains (tree_reads a) g ⊎ Contains (tree_reads e) g → Contains (tree_reads (roll-Tree (tree.Binary o a b))) g ⊎ Contains (tree_reads e) g
        first g (inl c) = inl (subst (λ l. Contains l g) (sym (reads_roll (tree.Binary o a b))) (Contains-append_left (tree_reads a) (tree_reads b) g c))
        first g (inr c) = inr c

        second : (g : ℕ) → Contains (tree_reads b) g ⊎ Contains (tree_reads e) g → Contains (tree_reads (roll-Tree (tree.Binary o a b))) g ⊎ Contains (tree_reads e) g
        second g (inl c) = inl (subst (λ l. Contains l g) (sym (reads_roll (tree.Binary o a b))) (Contains-append_right (tree_reads a) (tree_reads b) g c))
        second g (inr c) = inr c

        both : (g : ℕ) → Contains (tree_reads (taking t e a)) g ⊎ Contains (tree_reads (taking t e b)) g → Contains (tree_reads (roll-Tree (tree.Binary o a b))) g ⊎ Contains (tree_reads e) g
        both g (inl c) = first g (h.0.reads g c)
        both g (inr c) = second g (h.1.reads g c)
    smaller_layer (tree.Narrow k a) h = record {
      nodes = (let z = ap nodes (taking_roll t e (tree.Narrow k a)) in omega (arith, z, h.nodes, nodes_roll (tree.Narrow k a), nodes_roll (tree.Narrow k (taking t e a))));
      depth = (let z = ap depth (taking_roll t e (tree.Narrow k a)) in omega (arith, z, h.depth, depth_roll (tree.Narrow k a), depth_roll (tree.Narrow k (taking t e a))));
      reads = λ g c. one_of g (h.reads g (subst (λ l. Contains l g) (ap tree_reads (taking_roll t e (tree.Narrow k a)) ∙ reads_roll (tree.Narrow k (taking t e a))) c));
    }
      where
        one_of : (g : ℕ) → Contains (tree_reads a) g ⊎ Contains (tree_reads e) g → Contains (tree_reads (roll-Tree (tree.Narrow k a))) g ⊎ Contains (tree_reads e) g
        one_of g (inl c) = inl (subst (λ l. Contains l g) (sym (reads_roll (tree.Narrow k a))) c)
        one_of g (inr c) = inr c

    smaller : (v : Tree) → Smaller v
    smaller = tree_ind Smaller smaller_layer

  -- one node
  leaf_layer : (x : Tree-F Tree) → layer_is_leaf x ≡ true → (nodes (roll-Tree x) ≤ 1) × (depth (roll-Tree x) ≤ 1)
  leaf_layer (tree.Number n) h = (omega (arith, nodes_roll (tree.Number n)), omega (arith, depth_roll (tree.Number n)))
  leaf_layer (tree.Temp n) h = (omega (arith, nodes_roll (tree.Temp n)), omega (arith, depth_roll (tree.Temp n)))
  leaf_layer (tree.Global n) h = (omega (arith, nodes_roll (tree.Global n)), omega (arith, depth_roll (tree.Global n)))
  leaf_layer (tree.Function n) h = (omega (arith, nodes_roll (tree.Function n)), omega (arith, depth_roll (tree.Function n)))
  leaf_layer (tree.Unary o a) h = from_falsity h
  leaf_layer (tree.Binary o a b) h = from_falsity h
  leaf_layer (tree.Narrow k a) h = from_falsity h

  leaf_is_one : is_leaf e ≡ true → (nodes e ≤ 1) × (depth e ≤ 1)
  leaf_is_one h = subst (λ y. (nodes y ≤ 1) × (depth y ≤ 1)) (roll-out-Tree e) (leaf_layer (out-Tree e) (sym (leaf_roll (out-Tree e)) ∙ ap is_leaf (roll-out-Tree e) ∙ h))

  pub taken_less : (v w : Tree) → Takes t e v w → Less (of_tree w) (with (of_tree v) (of_tree e))
  taken_less v w whole = less_right (of_tree (temp t)) (of_tree e)
  taken_less v w (truth h) = less_right (of_tree (rolled.binary operator.not_equal (temp t) (number 0))) (of_tree e)
  taken_less v w (twice_truth h) = less_right (of_tree (denied (denied (temp t)))) (of_tree e)
  taken_less v w (narrowed_truth k h) = less_right (of_tree (narrow k (temp t))) (of_tree e)
  taken_less v w (through u h) =
      let low = leaf_is_one h in
      let s = smaller low.0 low.1 u in
      record {
        nodes = omega (arith, s.nodes);
        depth = omega (arith, s.depth);
        reads = λ g c. among g (s.reads g c);
        statements = omega arith;
        calls = omega arith;
        arrays = none_among [];
      }
    where
      among : (g : ℕ) → Contains (tree_reads u) g ⊎ Contains (tree_reads e) g → Contains (tree_reads u ++ tree_reads e) g
      among g (inl c) = Contains-append_left (tree_reads u) (tree_reads e) g c
      among g (inr c) = Contains-append_right (tree_reads u) (tree_reads e) g c

-- ---- what it reads

module _ (t : ℕ) (e : Tree) (u : ℕ) where
  -- the value reads it, or the tree does and it is another temporary
  abbrev pub ReadThere : Tree → Type 0
  ReadThere v = (reads_temp u e ≡ true) ⊎ ((reads_temp u v ≡ true) × (eqb u t ≡ false))

  abbrev IsReadThere : Tree → Type 0
  IsReadThere v = reads_temp u (taking t e v) ≡ true → ReadThere v

  as_read : (x : Tree-F Tree) (y : Tree) → taking t e (roll-Tree x) ≡ y → (reads_temp u y ≡ true → ReadThere (roll-Tree x)) → IsReadThere (roll-Tree x)
  as_read x y h k r = k (ap (reads_temp u) (sym h) ∙ r)

  lifted : (v y : Tree) → (reads_temp u v ≡ true → reads_temp u y ≡ true) → ReadThere v → ReadThere y
  lifted v y h (inl r) = inl r
  lifted v y h (inr r) = inr (h r.0, r.1)

  read_temp_there : (n : ℕ) (c : Bool) → eqb n t ≡ c → reads_temp u (cond c e (temp n)) ≡ true → ReadThere (temp n)
  read_temp_there n true h r = inl r
  read_temp_there n false h r =
      let same : n ≡ u = eqb-true n u (sym (reads_temp_roll u (tree.Temp n)) ∙ r) in
      inr (r, subst (λ k. eqb k t ≡ false) same h)

  read_layer : (x : Tree-F Tree) → TreeChildren IsReadThere x → IsReadThere (roll-Tree x)
  read_layer (tree.Number n) h = as_read (tree.Number n) _ (taking_roll t e (tree.Number n)) (λ r. from_falsity (sym (reads_temp_roll u (tree.Number n)) ∙ r))
  read_layer (tree.Temp n) h = as_read (tree.Temp n) _ (taking_roll t e (tree.Temp n)) (read_temp_there n (eqb n t) refl)
  read_layer (tree.Global g) h = as_read (tree.Global g) _ (taking_roll t e (tree.Global g)) (λ r. from_falsity (sym (reads_temp_roll u (tree.Global g)) ∙ r))
  read_layer (tree.Function f) h = as_read (tree.Function f) _ (taking_roll t e (tree.Function f)) (λ r. from_falsity (sym (reads_temp_roll u (tree.Function f)) ∙ r))
  read_layer (tree.Unary o a) h =
      as_read (tree.Unary o a) _ (taking_roll t e (tree.Unary o a)) (λ r. lifted a (roll-Tree (tree.Unary o a)) (λ k. reads_temp_roll u (tree.Unary o a) ∙ k) (h (sym (reads_temp_roll u (tree.Unary o (taking t e a))) ∙ r)))
  read_layer (tree.Binary o a b) h =
      as_read (tree.Binary o a b) _ (taking_roll t e (tree.Binary o a b)) (λ r. by (or_cases (reads_temp u (taking t e a)) (reads_temp u (taking t e b)) (sym (reads_temp_roll u (tree.Binary o (taking t e a) (taking t e b))) ∙ r)))
    where
      by : (reads_temp u (taking t e a) ≡ true) ⊎ (reads_temp u (taking t e b) ≡ true) → ReadThere (roll-Tree (tree.Binary o a b))
      by (inl r) = lifted a (roll-Tree (tree.Binary o a b)) (λ k. reads_temp_roll u (tree.Binary o a b) ∙ or_left _ _ k) (h.0 r)
      by (inr r) = lifted b (roll-Tree (tree.Binary o a b)) (λ k. reads_temp_roll u (tree.Binary o a b) ∙ or_right _ _ k) (h.1 r)
  read_layer (tree.Narrow k a) h =
      as_read (tree.Narrow k a) _ (taking_roll t e (tree.Narrow k a)) (λ r. lifted a (roll-Tree (tree.Narrow k a)) (λ z. reads_temp_roll u (tree.Narrow k a) ∙ z) (h (sym (reads_temp_roll u (tree.Narrow k (taking t e a))) ∙ r)))

  pub taken_reads : (v w : Tree) → Takes t e v w → reads_temp u w ≡ true → ReadThere v
  taken_reads v w whole r = inl r
  taken_reads v w (truth h) r = inl r
  taken_reads v w (twice_truth h) r = inl r
  taken_reads v w (narrowed_truth k h) r = inl r
  taken_reads v w (through x h) r = tree_ind IsReadThere read_layer x r
