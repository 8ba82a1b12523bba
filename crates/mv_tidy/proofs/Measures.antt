-- Tidying makes no count greater, and keeps bodies well formed.
use Rattle.std.proofs.Common.{arith, ◌≡◌, ℕ, List, [], ◌∷◌, ◌++◌, Some, refl, sym, ◌∙◌, ap, subst, ◌⊎◌, inl, inr, Contains, append-nil}
use Rattle.std.proofs.lemmas.List.Elements.{Contains-append_left, Contains-append_right, Contains-append_cases}
use Rattle.mv_ir.specs.declared.tree.Tree.{Tree}
use Rattle.mv_ir.specs.declared.stm.Array.{Array}
use Rattle.mv_ir.specs.declared.stm.Stm.{Stm}
use Rattle.mv_ir.specs.declared.stm.Stm.TheOpen.{Stm-F}
use Rattle.mv_ir.specs.declared.stm.Stm.TheOpen as stm
use Rattle.mv_ir.specs.declared.stm.Stm.TheViews.{roll-Stm}
use Rattle.mv_ir.specs.declared.body.Body.{Body}
use Rattle.mv_ir.specs.Measures.{tree_reads}
use Rattle.mv_ir.specs.Rolled.{temp, set}
use Rattle.mv_ir.specs.WellFormed.{IsWellFormed}
use Rattle.mv_fold.specs.Folded.{IsNoGreater}
use Rattle.mv_fold.proofs.Within.{none_among, Less, less_refl, less_trans, with, less_nothing, amount, amount_append, layer_amount, amount_one, Within, within_append, no_greater}
use Rattle.mv_fold.proofs.FoldedWithin.{of_tree, inside, loop_amount, block_amount, if_within, pair_within as moved_within}
use Rattle.mv_fold.proofs.WellFormed.{layer_facts, facts, Kept, kept_nothing, keep_refl, keep_trans, kept_append, alike, if_kept, loop_kept, block_kept, code_well_formed}
use Rattle.mv_tidy.specs.Tidying.{Takes, IsOne, divided, fetched, called, asked, carried, stored, written, IsJoinedCode}
use Rattle.mv_tidy.proofs.Structure.{IsCongruence, IsClosed, joined_is}
use Rattle.mv_tidy.proofs.Values.{taken_less}
use Rattle.mv_tidy.proofs.Thinning.{tidied_temps}

-- ---- counts

none_within : (xs : List Stm) → Within xs []
none_within xs = less_nothing (amount xs)

-- two statements, by their layers
pair_within : (x y z : Stm-F Stm) → Less (layer_amount z) (with (layer_amount x) (layer_amount y)) → Within (roll-Stm x ∷ roll-Stm y ∷ []) (roll-Stm z ∷ [])
pair_within x y z h =
    subst (λ a. Less a (amount (roll-Stm x ∷ roll-Stm y ∷ []))) (sym (amount_one z))
    (subst (Less (layer_amount z)) (sym (amount_append (roll-Stm x ∷ []) (roll-Stm y ∷ []) ∙ ap (λ a. with a (amount (roll-Stm y ∷ []))) (amount_one x) ∙ ap (with (layer_amount x)) (amount_one y))) h)

module _ (t : ℕ) (e v w : Tree) (k : Takes t e v w) where
  less : Less (of_tree w) (with (of_tree v) (of_tree e))
  less = taken_less t e v w k

  told : (g : ℕ) → Contains (tree_reads w ++ []) g → Contains (tree_reads v) g ⊎ Contains (tree_reads e) g
  told g c = Contains-append_cases (tree_reads v) (tree_reads e) g (less.reads g (subst (λ q. Contains q g) (append-nil (tree_reads w)) c))

  first : (rest : List ℕ) (g : ℕ) → Contains (tree_reads e) g → Contains ((tree_reads e ++ []) ++ rest) g
  first rest g c = Contains-append_left (tree_reads e ++ []) rest g (Contains-append_left (tree_reads e) [] g c)

  in_second : (g : ℕ) → Contains (tree_reads v) g ⊎ Contains (tree_reads e) g → Contains ((tree_reads e ++ []) ++ (tree_reads v ++ [])) g
  in_second g (inl c) = Contains-append_right (tree_reads e ++ []) (tree_reads v ++ []) g (Contains-append_left (tree_reads v) [] g c)
  in_second g (inr c) = first (tree_reads v ++ []) g c

  carried_within : (x : ℕ) → Within (roll-Stm (stm.Set t e) ∷ roll-Stm (stm.Set x v) ∷ []) (roll-Stm (stm.Set x w) ∷ [])
  carried_within x = pair_within (stm.Set t e) (stm.Set x v) (stm.Set x w) (record {
    nodes = omega (arith, less.nodes);
    depth = omega (arith, less.depth);
    reads = λ g c. in_second g (told g c);
    statements = omega arith;
    calls = omega arith;
    arrays = none_among [];
  })

  stored_within : (x : ℕ) → Within (roll-Stm (stm.Set t e) ∷ roll-Stm (stm.SetGlobal x v) ∷ []) (roll-Stm (stm.SetGlobal x w) ∷ [])
  stored_within x = pair_within (stm.Set t e) (stm.SetGlobal x v) (stm.SetGlobal x w) (record {
    nodes = omega (arith, less.nodes);
    depth = omega (arith, less.depth);
    reads = λ g c. in_second g (told g c);
    statements = omega arith;
    calls = omega arith;
    arrays = none_among [];
  })

  module _ (r : Array) (i : Tree) where
    in_write : (g : ℕ) → Contains (tree_reads v) g ⊎ Contains (tree_reads e) g → Contains ((tree_reads e ++ []) ++ (tree_reads i ++ (tree_reads v ++ []))) g
    in_write g (inl c) = Contains-append_right (tree_reads e ++ []) (tree_reads i ++ (tree_reads v ++ [])) g (Contains-append_right (tree_reads i) (tree_reads v ++ []) g (Contains-append_left (tree_reads v) [] g c))
    in_write g (inr c) = first (tree_reads i ++ (tree_reads v ++ [])) g c

    write_reads : (g : ℕ) → Contains (tree_reads i) g ⊎ Contains (tree_reads w ++ []) g → Contains ((tree_reads e ++ []) ++ (tree_reads i ++ (tree_reads v ++ []))) g
    write_reads g (inl c) = Contains-append_right (tree_reads e ++ []) (tree_reads i ++ (tree_reads v ++ [])) g (Contains-append_left (tree_reads i) (tree_reads v ++ []) g c)
    write_reads g (inr c) = in_write g (told g c)

    written_within : Within (roll-Stm (stm.Set t e) ∷ roll-Stm (stm.Write r i v) ∷ []) (roll-Stm (stm.Write r i w) ∷ [])
    written_within = pair_within (stm.Set t e) (stm.Write r i v) (stm.Write r i w) (record {
      nodes = omega (arith, less.nodes);
      depth = omega (arith, less.depth);
      reads = λ g c. write_reads g (Contains-append_cases (tree_reads i) (tree_reads w ++ []) g c);
      statements = omega arith;
      calls = omega arith;
      arrays = none_among [];
    })

one_within : (gone : ℕ → Type 0) (s n z : Stm) → IsOne gone s n z → Within (s ∷ n ∷ []) (z ∷ [])
one_within gone s n z (divided t x o a b g) = moved_within (stm.Divide t o a b) (stm.Set x (temp t)) (stm.Divide x o a b) (less_refl _)
one_within gone s n z (fetched t x r i g) = moved_within (stm.Read t r i) (stm.Set x (temp t)) (stm.Read x r i) (less_refl _)
one_within gone s n z (called t x f args g) = moved_within (stm.Call (Some t) f args) (stm.Set x (temp t)) (stm.Call (Some x) f args) (less_refl _)
one_within gone s n z (asked t x k args g) = moved_within (stm.Known (Some t) k args) (stm.Set x (temp t)) (stm.Known (Some x) k args) (less_refl _)
one_within gone s n z (carried t x e v w g k) = carried_within t e v w k x
one_within gone s n z (stored t h e v w g k) = stored_within t e v w k h
one_within gone s n z (written t r e i v w g unread k) = written_within t e v w k r i

pub within_parts : IsCongruence Within
within_parts = record {
  itself = λ xs. less_refl _;
  both = within_append;
  trans = λ xs ys zs h k. less_trans _ _ _ k h;
  branch = λ t a a' b b' h k. if_within t t a a' b b' (less_refl _) h k;
  loop = λ b b' h. inside (stm.Loop b) (stm.Loop b') b b' (loop_amount b) (loop_amount b') h;
  enclose = λ b b' h. inside (stm.Block b) (stm.Block b') b b' (block_amount b) (block_amount b') h;
}

within_closed : IsClosed Within
within_closed = record {
  parts = within_parts;
  pair = one_within;
  drop = λ t e. none_within (set t e ∷ []);
  end = λ s rest j k. within_append (s ∷ []) (s ∷ []) rest [] (less_refl _) (none_within rest);
}

-- ---- what is asked of code

moved_kept : (x y z : Stm-F Stm) → layer_facts x ≡ layer_facts z → Kept (roll-Stm x ∷ roll-Stm y ∷ []) (roll-Stm z ∷ [])
moved_kept x y z e = kept_append (roll-Stm x ∷ []) (roll-Stm z ∷ []) (roll-Stm y ∷ []) [] (alike x z e) (kept_nothing (roll-Stm y ∷ []))

taken_kept : (x y z : Stm-F Stm) → layer_facts y ≡ layer_facts z → Kept (roll-Stm x ∷ roll-Stm y ∷ []) (roll-Stm z ∷ [])
taken_kept x y z e = kept_append (roll-Stm x ∷ []) [] (roll-Stm y ∷ []) (roll-Stm z ∷ []) (kept_nothing (roll-Stm x ∷ [])) (alike y z e)

one_kept : (gone : ℕ → Type 0) (s n z : Stm) → IsOne gone s n z → Kept (s ∷ n ∷ []) (z ∷ [])
one_kept gone s n z (divided t x o a b g) = moved_kept (stm.Divide t o a b) (stm.Set x (temp t)) (stm.Divide x o a b) refl
one_kept gone s n z (fetched t x r i g) = moved_kept (stm.Read t r i) (stm.Set x (temp t)) (stm.Read x r i) refl
one_kept gone s n z (called t x f args g) = moved_kept (stm.Call (Some t) f args) (stm.Set x (temp t)) (stm.Call (Some x) f args) refl
one_kept gone s n z (asked t x k args g) = moved_kept (stm.Known (Some t) k args) (stm.Set x (temp t)) (stm.Known (Some x) k args) refl
one_kept gone s n z (carried t x e v w g k) = taken_kept (stm.Set t e) (stm.Set x v) (stm.Set x w) refl
one_kept gone s n z (stored t h e v w g k) = taken_kept (stm.Set t e) (stm.SetGlobal h v) (stm.SetGlobal h w) refl
one_kept gone s n z (written t r e i v w g unread k) = taken_kept (stm.Set t e) (stm.Write r i v) (stm.Write r i w) refl

pub kept_parts : IsCongruence Kept
kept_parts = record {
  itself = λ xs. keep_refl _;
  both = kept_append;
  trans = λ xs ys zs. keep_trans (facts xs) (facts ys) (facts zs);
  branch = λ t a a' b b' h k. if_kept t t a a' b b' h k;
  loop = loop_kept;
  enclose = block_kept;
}

kept_closed : IsClosed Kept
kept_closed = record {
  parts = kept_parts;
  pair = one_kept;
  drop = λ t e. kept_nothing (set t e ∷ []);
  end = λ s rest j k. kept_append (s ∷ []) (s ∷ []) rest [] (keep_refl _) (kept_nothing rest);
}

-- ---- bodies

module _ (b : Body) (code : List Stm) (k : IsJoinedCode b.temps b.code code) where
  pub tidied_no_greater : IsNoGreater b.code code
  tidied_no_greater = no_greater b.code code (joined_is b.temps Within within_closed b.code code k)

  pub tidied_well_formed : IsWellFormed b → IsWellFormed (record b { code = code })
  tidied_well_formed = code_well_formed b code (joined_is b.temps Kept kept_closed b.code code k) (tidied_temps b code k) tidied_no_greater
