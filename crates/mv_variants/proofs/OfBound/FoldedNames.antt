-- Folded code names no more, but for the constants that it computes.
use Rattle.std.proofs.Common.{◌≡◌, ℕ, zero, suc, ◌<◌, Bool, true, false, cond, List, [], ◌∷◌, ◌++◌, map, Option, None, Some, sym, subst, refl, ◌∙◌}
use Rattle.mv_num.specs.declared.kind.Kind.{Kind}
use Rattle.mv_num.specs.Words as word
use Rattle.mv_ast.specs.declared.program.Known.{Known}
use Rattle.mv_ir.specs.declared.tree.Tree.{Tree}
use Rattle.mv_ir.specs.declared.tree.Tree.TheOpen.{Tree-F}
use Rattle.mv_ir.specs.declared.tree.Tree.TheOpen as tree
use Rattle.mv_ir.specs.declared.tree.Tree.TheViews.{roll-Tree}
use Rattle.mv_ir.specs.declared.tree.Tree.TheFolds.{map-Tree}
use Rattle.mv_ir.specs.declared.stm.Callee.{Callee}
use Rattle.mv_ir.specs.declared.stm.Callee.TheVariants as callee
use Rattle.mv_ir.specs.declared.stm.Stm.{Stm}
use Rattle.mv_ir.specs.declared.stm.Stm.TheOpen.{Stm-F}
use Rattle.mv_ir.specs.declared.stm.Stm.TheOpen as stm
use Rattle.mv_ir.specs.declared.stm.Stm.TheViews.{roll-Stm}
use Rattle.mv_ir.specs.declared.stm.Stm.TheFolds.{map-Stm}
use Rattle.mv_ir.specs.Measures.{joined}
use Rattle.mv_ir.specs.Trees.{unary, binary, divide}
use Rattle.mv_ir.proofs.Induction.{Each, each_append, TreeChildren, tree_ind, StmChildren, stm_ind, stms_ind}
use Rattle.mv_ir.specs.Rolled.{number, temp}
use Rattle.mv_fold.specs.Simple.{layer_constant, constant, one_or, two_or, simple_node, simple_tree, jumps, ended, simple_callee, alone, division, choice, simple_layer, simple_stm, simple_code}
use Rattle.mv_fold.specs.Opened.{leave, from_outside}
use Rattle.mv_fold.proofs.Opening.{Opens, blocked_is, looped_is}
use Rattle.mv_fold.specs.Shortened.{shortened}
use Rattle.mv_fold.specs.Needed.{needed_layer, needed_stm, needed_code}
use Rattle.mv_fold.specs.Folded.{simple_body}
use Rattle.mv_fold.proofs.SimpleKept.{constant_roll, simple_tree_roll, simple_stm_roll}
use Rattle.mv_fold.proofs.NeededEquations.{needed_stm_roll}
use Rattle.mv_fold.proofs.Shortening.{shortened_is}
use Rattle.mv_select.proofs.OfBodies.Naming.{TreeNames, StmNames, CodeNames, TreeParts, tree_in, tree_out, CalleeNames, StmParts, stm_in, stm_out}

-- what operators compute of such constants is such a constant, and so is how far a word may be shifted
pub record IsClosed (C : ℕ → Type 0) : Type 0 where
  pub one : (o n : ℕ) → C n → C (unary o n)
  pub two : (o n m : ℕ) → C n → C m → C (binary o n m)
  pub narrowed : (k : Kind) (n : ℕ) → C n → C (word.narrow k n)
  pub divided : (o n d : ℕ) → C n → C (suc d) → C (divide o n (suc d))
  pub shift : (k : ℕ) → k < 32 → C k

module _ (F : ℕ → Type 0) (K : Known → Type 0) (C : ℕ → Type 0) (closed : IsClosed C) where
  -- ---- trees

  -- the value of a tree that is a constant is of the kind
  pub constant_names : (t : Tree) → TreeNames F K C t → (n : ℕ) → constant t ≡ Some n → C n
  constant_names = tree_ind (λ t. TreeNames F K C t → (n : ℕ) → constant t ≡ Some n → C n) (λ x h names n e. by x (tree_out F K C x names) n (sym (constant_roll x) ∙ e))
    where
      by : (x : Tree-F Tree) → TreeParts F K C x → (n : ℕ) → layer_constant x ≡ Some n → C n
      by (tree.Number m) p n e = let same : m ≡ n = cc in subst C same p
      by (tree.Temp t) p n e = absurd cc
      by (tree.Global g) p n e = absurd cc
      by (tree.Function f) p n e = absurd cc
      by (tree.Unary o a) p n e = absurd cc
      by (tree.Binary o a b) p n e = absurd cc
      by (tree.Narrow k a) p n e = absurd cc

  abbrev pub TreeKept : Tree → Type 0
  TreeKept t = TreeNames F K C t → TreeNames F K C (simple_tree t)

  one_names : (o : Option ℕ) (f : ℕ → ℕ) (t : Tree) → ((n : ℕ) → o ≡ Some n → C (f n)) → TreeNames F K C t → TreeNames F K C (one_or o f t)
  one_names None f t h n = n
  one_names (Some m) f t h n = tree_in F K C (tree.Number (f m)) (h m refl)

  two_names : (o p : Option ℕ) (f : ℕ → ℕ → ℕ) (t : Tree) → ((n m : ℕ) → o ≡ Some n → p ≡ Some m → C (f n m)) → TreeNames F K C t → TreeNames F K C (two_or o p f t)
  two_names (Some n) (Some m) f t h k = tree_in F K C (tree.Number (f n m)) (h n m refl refl)
  two_names (Some n) None f t h k = k
  two_names None (Some m) f t h k = k
  two_names None None f t h k = k

  node : (x : Tree-F Tree) → TreeChildren TreeKept x → TreeParts F K C x → TreeNames F K C (simple_node (map-Tree Tree Tree simple_tree x))
  node (tree.Number n) h p = tree_in F K C (tree.Number n) p
  node (tree.Temp t) h p = tree_in F K C (tree.Temp t) tt
  node (tree.Global g) h p = tree_in F K C (tree.Global g) tt
  node (tree.Function f) h p = tree_in F K C (tree.Function f) p
  node (tree.Unary o a) h p =
      one_names (constant (simple_tree a)) (unary o) (roll-Tree (tree.Unary o (simple_tree a))) (λ n e. closed.one o n (constant_names (simple_tree a) (h p) n e)) (tree_in F K C (tree.Unary o (simple_tree a)) (h p))
  node (tree.Binary o a b) h p =
      two_names (constant (simple_tree a)) (constant (simple_tree b)) (binary o) (roll-Tree (tree.Binary o (simple_tree a) (simple_tree b)))
      (λ n m e f. closed.two o n m (constant_names (simple_tree a) (h.0 p.0) n e) (constant_names (simple_tree b) (h.1 p.1) m f))
      (tree_in F K C (tree.Binary o (simple_tree a) (simple_tree b)) (h.0 p.0, h.1 p.1))
  node (tree.Narrow k a) h p =
      one_names (constant (simple_tree a)) (word.narrow k) (roll-Tree (tree.Narrow k (simple_tree a))) (λ n e. closed.narrowed k n (constant_names (simple_tree a) (h p) n e)) (tree_in F K C (tree.Narrow k (simple_tree a)) (h p))

  pub tree_kept : (t : Tree) → TreeKept t
  tree_kept = tree_ind TreeKept (λ x h n. subst (TreeNames F K C) (sym (simple_tree_roll x)) (node x h (tree_out F K C x n)))

  trees_kept : (ts : List Tree) → Each (TreeNames F K C) ts → Each (TreeNames F K C) (map simple_tree ts)
  trees_kept [] h = tt
  trees_kept (t ∷ ts) h = (tree_kept t h.0, trees_kept ts h.1)

  -- ---- constants computed

  abbrev StmKept : Stm → Type 0
  StmKept s = StmNames F K C s → CodeNames F K C (simple_stm s)

  inner : (code : List Stm) → Each StmKept code → CodeNames F K C code → CodeNames F K C (joined (map simple_stm code))
  inner [] h n = tt
  inner (s ∷ code) h n = each_append (StmNames F K C) (simple_stm s) (joined (map simple_stm code)) (h.0 n.0) (inner code h.1 n.1)

  ended_names : (code : List Stm) → CodeNames F K C code → CodeNames F K C (ended code)
  ended_names [] n = tt
  ended_names (s ∷ code) n = (n.0, by (jumps s) (ended_names code n.1))
    where
      by : (b : Bool) → CodeNames F K C (ended code) → CodeNames F K C (cond b [] (ended code))
      by true h = tt
      by false h = h

  simple : (code : List Stm) → Each StmKept code → CodeNames F K C code → CodeNames F K C (simple_code code)
  simple code h n = ended_names (joined (map simple_stm code)) (inner code h n)

  callee_kept : (f : Callee) → CalleeNames F K C f → CalleeNames F K C (simple_callee f)
  callee_kept (callee.Direct f) n = n
  callee_kept (callee.Through t) n = tree_kept t n
  callee_kept (callee.Switched g) n = tt
  callee_kept callee.Expanded n = tt

  one : (x : Stm-F Stm) → StmParts F K C x → CodeNames F K C (alone x)
  one x p = (stm_in F K C x p, tt)

  division_names : (o p : Option ℕ) (t k : ℕ) (a b : Tree) → ((n : ℕ) → o ≡ Some n → C n) → ((n : ℕ) → p ≡ Some n → C n) → TreeNames F K C a → TreeNames F K C b → CodeNames F K C (division o p t k a b)
  division_names (Some n) (Some (suc d)) t k a b h g x y = one (stm.Set t (number (divide k n (suc d)))) (tree_in F K C (tree.Number (divide k n (suc d))) (closed.divided k n d (h n refl) (g (suc d) refl)))
  division_names (Some n) (Some zero) t k a b h g x y = one (stm.Divide t k a b) (x, y)
  division_names (Some n) None t k a b h g x y = one (stm.Divide t k a b) (x, y)
  division_names None (Some d) t k a b h g x y = one (stm.Divide t k a b) (x, y)
  division_names None None t k a b h g x y = one (stm.Divide t k a b) (x, y)

  choice_names : (o : Option ℕ) (t : Tree) (a b : List Stm) → TreeNames F K C t → CodeNames F K C a → CodeNames F K C b → CodeNames F K C (choice o t a b)
  choice_names None t a b h x y = one (stm.If t a b) (h, x, y)
  choice_names (Some zero) t a b h x y = y
  choice_names (Some (suc n)) t a b h x y = x

  abbrev KeepsNames : List Stm → List Stm → Type 0
  KeepsNames xs ys = CodeNames F K C xs → CodeNames F K C ys

  leave_names : (end : Option ℕ) → CodeNames F K C (leave end)
  leave_names None = tt
  leave_names (Some n) = one (stm.Break n) tt

  -- the statements of a loop or block without the jump at their end, and another jump
  end_names : (front : List Stm) (end end' : Option ℕ) → KeepsNames (front ++ leave end) (front ++ leave end')
  end_names [] end end' n = leave_names end'
  end_names (s ∷ front) end end' n = (n.0, end_names front end end' n.1)

  open_names : Opens KeepsNames
  open_names = record {
    same = λ xs n. n;
    block = λ front end e n. end_names front end (from_outside end) (stm_out F K C (stm.Block (front ++ leave end)) n.0);
    loop = λ front k e n. end_names front (Some k) (from_outside (Some k)) (stm_out F K C (stm.Loop (front ++ leave (Some k))) n.0);
  }

  layer : (x : Stm-F Stm) → StmChildren StmKept x → StmParts F K C x → CodeNames F K C (simple_layer (map-Stm Stm (List Stm) simple_stm x))
  layer (stm.Set t v) h p = one (stm.Set t (simple_tree v)) (tree_kept v p)
  layer (stm.SetGlobal g v) h p = one (stm.SetGlobal g (simple_tree v)) (tree_kept v p)
  layer (stm.Divide t o a b) h p =
      division_names (constant (simple_tree a)) (constant (simple_tree b)) t o (simple_tree a) (simple_tree b)
      (constant_names (simple_tree a) (tree_kept a p.0)) (constant_names (simple_tree b) (tree_kept b p.1)) (tree_kept a p.0) (tree_kept b p.1)
  layer (stm.Check r i) h p = one (stm.Check r (simple_tree i)) (tree_kept i p)
  layer (stm.Read t r i) h p = one (stm.Read t r (simple_tree i)) (tree_kept i p)
  layer (stm.Write r i v) h p = one (stm.Write r (simple_tree i) (simple_tree v)) (tree_kept i p.0, tree_kept v p.1)
  layer (stm.Zero l) h p = one (stm.Zero l) tt
  layer (stm.If t a b) h p = choice_names (constant (simple_tree t)) (simple_tree t) (simple_code a) (simple_code b) (tree_kept t p.0) (simple a h.0 p.1) (simple b h.1 p.2)
  layer (stm.Loop b) h p = looped_is KeepsNames open_names (simple_code b) (one (stm.Loop (simple_code b)) (simple b h p))
  layer (stm.Block b) h p = blocked_is KeepsNames open_names (simple_code b) (one (stm.Block (simple_code b)) (simple b h p))
  layer (stm.Break n) h p = one (stm.Break n) tt
  layer (stm.Back n) h p = one (stm.Back n) tt
  layer (stm.Call r f args) h p = one (stm.Call r (simple_callee f) (map simple_tree args)) (callee_kept f p.0, trees_kept args p.1)
  layer (stm.Known r k args) h p = one (stm.Known r k (map simple_tree args)) (p.0, trees_kept args p.1)
  layer (stm.Return v) h p = one (stm.Return (simple_tree v)) (tree_kept v p)

  stm_kept : (s : Stm) → StmKept s
  stm_kept = stm_ind StmKept (λ x h n. subst (CodeNames F K C) (sym (simple_stm_roll x)) (layer x h (stm_out F K C x n)))

  simple_names : (code : List Stm) → CodeNames F K C code → CodeNames F K C (simple_code code)
  simple_names code n = simple code (stms_ind StmKept stm_kept code) n

  -- ---- its end shortened

  -- a value in place of a temporary
  in_place : (x y z : Stm-F Stm) → (StmParts F K C x → StmParts F K C z) → KeepsNames (roll-Stm x ∷ roll-Stm y ∷ []) (roll-Stm z ∷ [])
  in_place x y z f n = one z (f (stm_out F K C x n.0))

  short_names : (temps : ℕ) (code : List Stm) → CodeNames F K C code → CodeNames F K C (shortened temps code)
  short_names temps = shortened_is temps KeepsNames (record {
    same = λ xs n. n;
    both = λ xs ys zs h k n. k (h n);
    behind = λ s xs ys h n. (n.0, h n.1);
    leave = λ n names. tt;
    unread = λ t v names. tt;
    stored = λ t g v lt. in_place (stm.Set t v) (stm.SetGlobal g (temp t)) (stm.SetGlobal g v) (λ p. p);
    returned = λ t v lt. in_place (stm.Set t v) (stm.Return (temp t)) (stm.Return v) (λ p. p);
  })

  -- ---- without the sets that aren't needed

  module _ (needed : ℕ → Bool) where
    abbrev StmLeft : Stm → Type 0
    StmLeft s = StmNames F K C s → CodeNames F K C (needed_stm needed s)

    inner_left : (code : List Stm) → Each StmLeft code → CodeNames F K C code → CodeNames F K C (needed_code needed code)
    inner_left [] h n = tt
    inner_left (s ∷ code) h n = each_append (StmNames F K C) (needed_stm needed s) (needed_code needed code) (h.0 n.0) (inner_left code h.1 n.1)

    set_left : (b : Bool) (t : ℕ) (v : Tree) → TreeNames F K C v → CodeNames F K C (cond b (alone (stm.Set t v)) [])
    set_left true t v h = one (stm.Set t v) h
    set_left false t v h = tt

    layer_left : (x : Stm-F Stm) → StmChildren StmLeft x → StmParts F K C x → CodeNames F K C (needed_layer needed (map-Stm Stm (List Stm) (needed_stm needed) x))
    layer_left (stm.Set t v) h p = set_left (needed t) t v p
    layer_left (stm.SetGlobal g v) h p = one (stm.SetGlobal g v) p
    layer_left (stm.Divide t o a b) h p = one (stm.Divide t o a b) p
    layer_left (stm.Check r i) h p = one (stm.Check r i) p
    layer_left (stm.Read t r i) h p = one (stm.Read t r i) p
    layer_left (stm.Write r i v) h p = one (stm.Write r i v) p
    layer_left (stm.Zero l) h p = one (stm.Zero l) tt
    layer_left (stm.If t a b) h p = one (stm.If t (needed_code needed a) (needed_code needed b)) (p.0, inner_left a h.0 p.1, inner_left b h.1 p.2)
    layer_left (stm.Loop b) h p = one (stm.Loop (needed_code needed b)) (inner_left b h p)
    layer_left (stm.Block b) h p = one (stm.Block (needed_code needed b)) (inner_left b h p)
    layer_left (stm.Break n) h p = one (stm.Break n) tt
    layer_left (stm.Back n) h p = one (stm.Back n) tt
    layer_left (stm.Call r f args) h p = one (stm.Call r f args) p
    layer_left (stm.Known r k args) h p = one (stm.Known r k args) p
    layer_left (stm.Return v) h p = one (stm.Return v) p

    stm_left : (s : Stm) → StmLeft s
    stm_left = stm_ind StmLeft (λ x h n. subst (CodeNames F K C) (sym (needed_stm_roll needed x)) (layer_left x h (stm_out F K C x n)))

    pub folded_names : (temps : ℕ) (code : List Stm) → CodeNames F K C code → CodeNames F K C (needed_code needed (simple_body temps code))
    folded_names temps code n =
        inner_left (simple_body temps code) (stms_ind StmLeft stm_left (simple_body temps code)) (short_names temps (simple_code code) (simple_names code n))
