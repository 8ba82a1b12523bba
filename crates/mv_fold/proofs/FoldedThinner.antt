-- Folding keeps bodies whole, and makes no interval longer.
use Rattle.std.proofs.Common.{◌≡◌, ℕ, zero, suc, Bool, true, false, cond, not, eqb, ◌&&◌, List, [], ◌∷◌, ◌++◌, map, Option, Some, None, refl, sym, ◌∙◌, ap, subst, ◌⊎◌, inl, inr, append-nil}
use Rattle.mv_num.specs.Words as word
use Rattle.mv_ir.specs.declared.tree.Tree.{Tree}
use Rattle.mv_ir.specs.declared.tree.Tree.TheOpen.{Tree-F}
use Rattle.mv_ir.specs.declared.tree.Tree.TheOpen as tree
use Rattle.mv_ir.specs.declared.tree.Tree.TheViews.{roll-Tree}
use Rattle.mv_ir.specs.declared.tree.Tree.TheFolds.{map-Tree}
use Rattle.mv_ir.specs.declared.stm.Callee.{Callee}
use Rattle.mv_ir.specs.declared.stm.Callee.TheVariants as callee
use Rattle.mv_ir.specs.declared.stm.Stm.{Stm, out-Stm}
use Rattle.mv_ir.specs.declared.stm.Stm.TheOpen.{Stm-F}
use Rattle.mv_ir.specs.declared.stm.Stm.TheOpen as stm
use Rattle.mv_ir.specs.declared.stm.Stm.TheViews.{roll-Stm, roll-out-Stm}
use Rattle.mv_ir.specs.declared.stm.Stm.TheFolds.{map-Stm}
use Rattle.mv_ir.specs.declared.body.Body.{Body}
use Rattle.mv_ir.specs.Trees.{unary, binary, divide}
use Rattle.mv_ir.specs.Measures.{joined, callee_trees}
use Rattle.mv_ir.specs.Live.{layer_reads_temp, reads_temp, any_reads, Around, Flow, with_after, live_in_order, plain, goes_next, flow}
use Rattle.mv_ir.proofs.Induction.{Each, TreeChildren, tree_ind, StmChildren, stm_ind, stms_ind}
use Rattle.mv_ir.proofs.Rolls.{reads_temp_roll, flow_of_layer}
use Rattle.mv_ir.proofs.Joining.{any_reads_append}
use Rattle.mv_ir.specs.Rolled.{number}
use Rattle.mv_fold.specs.declared.uses.Use.{Use}
use Rattle.mv_fold.specs.Simple.{constant, one_or, two_or, simple_node, simple_tree, layer_jumps, jumps, ended, simple_callee, alone, division, choice, simple_layer, simple_stm, simple_code}
use Rattle.mv_fold.specs.Needed.{tree_uses, trees_uses, layer_uses, stm_uses, code_uses, IsNeeded, needed_layer, needed_stm, needed_code}
use Rattle.mv_fold.proofs.SimpleKept.{jumps_roll, simple_tree_roll, each_simple}
use Rattle.mv_fold.proofs.NeededEquations.{stm_uses_roll, each_left}
use Rattle.mv_fold.proofs.Closing.{Closed, left, right, among, for_body, closed}
use Rattle.mv_fold.proofs.Thinner.{Covers, covers_append, Implies, Thins, code_flow, IsThinner, flow_one, flow_append, thinner_one, thinner_many, thinner_trans, thinner_append, thinner_none, ReadsLess, plain_thins, on_next, on_leaves, on_restarts, on_nothing, if_thins, loop_thins, block_thins, KeepsIntervals, thinner_body, or_both}
use Rattle.mv_fold.specs.Opened.{blocked, looped}
use Rattle.mv_fold.proofs.Opening.{Opens, blocked_is, looped_is}
use Rattle.mv_fold.proofs.OpenedThinner.{block_opens, loop_opens}
use Rattle.std.proofs.lemmas.Bool.{or_right, or_left}
use Rattle.mv_num.proofs.Booleans.{or_cases, from_falsity}
use Rattle.std.proofs.lemmas.Map.Views.{exact_unsigned_eq}

-- ---- statements that are left out

module _ (needed : ℕ → Bool) where
  -- all positions of some code are left out
  abbrev IsGone : List Stm → Type 0
  IsGone xs = (mask : List Bool) × ((t : ℕ) (r : Around) → Covers mask ((code_flow needed xs t).marks r) [])

  gone_one : (x : Stm-F Stm) (mask : List Bool) → ((t : ℕ) (r : Around) → Covers mask ((flow_of_layer x t).marks r) []) → IsGone (roll-Stm x ∷ [])
  gone_one x mask h = (mask, λ t r. subst (λ (f : ℕ → Flow). Covers mask ((f t).marks r) []) (sym (flow_one needed x)) (h t r))

  gone_append : (xs ys : List Stm) → IsGone xs → IsGone ys → IsGone (xs ++ ys)
  gone_append xs ys (m, h) (n, k) =
      (m ++ n, λ t r. subst (λ (f : ℕ → Flow). Covers (m ++ n) ((f t).marks r) []) (sym (flow_append needed xs ys)) (covers_append m _ [] n _ [] (h t _) (k t r)))

  abbrev OneGone : Stm → Type 0
  OneGone s = IsGone (s ∷ [])

  kids_gone : (b : List Stm) → Each OneGone b → IsGone b
  kids_gone [] h = ([], λ t r. tt)
  kids_gone (s ∷ b) h = gone_append (s ∷ []) b h.0 (kids_gone b h.1)

  leaf_gone : (x : Stm-F Stm) → ((t : ℕ) (r : Around) → Covers (false ∷ []) ((flow_of_layer x t).marks r) []) → IsGone (roll-Stm x ∷ [])
  leaf_gone x h = gone_one x (false ∷ []) h

  gone_layer : (x : Stm-F Stm) → StmChildren OneGone x → OneGone (roll-Stm x)
  gone_layer (stm.Set t v) h = leaf_gone (stm.Set t v) (λ t r. tt)
  gone_layer (stm.SetGlobal g v) h = leaf_gone (stm.SetGlobal g v) (λ t r. tt)
  gone_layer (stm.Divide t o a b) h = leaf_gone (stm.Divide t o a b) (λ t r. tt)
  gone_layer (stm.Check a i) h = leaf_gone (stm.Check a i) (λ t r. tt)
  gone_layer (stm.Read t a i) h = leaf_gone (stm.Read t a i) (λ t r. tt)
  gone_layer (stm.Write a i v) h = leaf_gone (stm.Write a i v) (λ t r. tt)
  gone_layer (stm.Zero l) h = leaf_gone (stm.Zero l) (λ t r. tt)
  gone_layer (stm.If t a b) h =
      let (m, ha) = kids_gone a h.0 in
      let (n, hb) = kids_gone b h.1 in
      gone_one (stm.If t a b) (false ∷ (m ++ n)) (λ t r. covers_append m _ [] n _ [] (ha t r) (hb t r))
  gone_layer (stm.Loop b) h = let (m, hb) = kids_gone b h in gone_one (stm.Loop b) (false ∷ m) (λ t r. hb t _)
  gone_layer (stm.Block b) h = let (m, hb) = kids_gone b h in gone_one (stm.Block b) (false ∷ m) (λ t r. hb t _)
  gone_layer (stm.Break n) h = leaf_gone (stm.Break n) (λ t r. tt)
  gone_layer (stm.Back n) h = leaf_gone (stm.Back n) (λ t r. tt)
  gone_layer (stm.Call r f args) h = leaf_gone (stm.Call r f args) (λ t r. tt)
  gone_layer (stm.Known r k args) h = leaf_gone (stm.Known r k args) (λ t r. tt)
  gone_layer (stm.Return v) h = leaf_gone (stm.Return v) (λ t r. tt)

  pub gone : (code : List Stm) → IsGone code
  gone code = kids_gone code (stms_ind OneGone (stm_ind OneGone gone_layer) code)

-- ---- constants computed: each temporary may be read

abbrev pub every : ℕ → Bool
every t = true

abbrev pub Thinner : List Stm → List Stm → Type 0
Thinner = IsThinner every

same_reads : (ts : List Tree) → ReadsLess every ts ts
same_reads ts t e = (e, refl)

leaf : (x : Stm-F Stm) → Thins every (true ∷ []) (flow_of_layer x) (flow_of_layer x) → Thinner (roll-Stm x ∷ []) (roll-Stm x ∷ [])
leaf x h = thinner_one every x x (true ∷ []) h

abbrev pub IsSame : Stm → Type 0
IsSame s = Thinner (s ∷ []) (s ∷ [])

kids_same : (b : List Stm) → Each IsSame b → Thinner b b
kids_same [] h = thinner_none every
kids_same (s ∷ b) h = thinner_append every (s ∷ []) (s ∷ []) b b h.0 (kids_same b h.1)

same_layer : (x : Stm-F Stm) → StmChildren IsSame x → IsSame (roll-Stm x)
same_layer (stm.Set t v) h = leaf (stm.Set t v) (plain_thins every (v ∷ []) (v ∷ []) (Some t) goes_next (same_reads (v ∷ [])) (on_next every))
same_layer (stm.SetGlobal g v) h = leaf (stm.SetGlobal g v) (plain_thins every (v ∷ []) (v ∷ []) None goes_next (same_reads (v ∷ [])) (on_next every))
same_layer (stm.Divide t o a b) h = leaf (stm.Divide t o a b) (plain_thins every (a ∷ b ∷ []) (a ∷ b ∷ []) (Some t) goes_next (same_reads (a ∷ b ∷ [])) (on_next every))
same_layer (stm.Check a i) h = leaf (stm.Check a i) (plain_thins every (i ∷ []) (i ∷ []) None goes_next (same_reads (i ∷ [])) (on_next every))
same_layer (stm.Read t a i) h = leaf (stm.Read t a i) (plain_thins every (i ∷ []) (i ∷ []) (Some t) goes_next (same_reads (i ∷ [])) (on_next every))
same_layer (stm.Write a i v) h = leaf (stm.Write a i v) (plain_thins every (i ∷ v ∷ []) (i ∷ v ∷ []) None goes_next (same_reads (i ∷ v ∷ [])) (on_next every))
same_layer (stm.Zero l) h = leaf (stm.Zero l) (plain_thins every [] [] None goes_next (same_reads []) (on_next every))
same_layer (stm.If x a b) h = if_thins every x x a a b b (λ t e. (e, refl)) (kids_same a h.0) (kids_same b h.1)
same_layer (stm.Loop b) h = loop_thins every b b (kids_same b h)
same_layer (stm.Block b) h = block_thins every b b (kids_same b h)
same_layer (stm.Break n) h = leaf (stm.Break n) (plain_thins every [] [] None (λ r. r.leaves n) (same_reads []) (on_leaves every n))
same_layer (stm.Back n) h = leaf (stm.Back n) (plain_thins every [] [] None (λ r. r.restarts n) (same_reads []) (on_restarts every n))
same_layer (stm.Call r f args) h = leaf (stm.Call r f args) (plain_thins every (callee_trees f ++ args) (callee_trees f ++ args) r goes_next (same_reads (callee_trees f ++ args)) (on_next every))
same_layer (stm.Known r k args) h = leaf (stm.Known r k args) (plain_thins every args args r goes_next (same_reads args) (on_next every))
same_layer (stm.Return v) h = leaf (stm.Return v) (plain_thins every (v ∷ []) (v ∷ []) None (λ r. false) (same_reads (v ∷ [])) (on_nothing every))

pub same : (s : Stm) → IsSame s
same = stm_ind IsSame same_layer

pub code_same : (code : List Stm) → Thinner code code
code_same code = kids_same code (stms_ind IsSame same code)

-- ---- a list up to its first jump

-- behind a statement that never goes on, nothing matters
abbrev Stops : Stm-F Stm → Type 0
Stops x = (t : ℕ) (r : Around) (b : Bool) → ((flow_of_layer x t).live (with_after r b) ≡ (flow_of_layer x t).live r) × ((flow_of_layer x t).marks (with_after r b) ≡ (flow_of_layer x t).marks r)

stopped : (x : Stm-F Stm) (xs : List Stm) → Stops x → Thinner (roll-Stm x ∷ xs) (roll-Stm x ∷ [])
stopped x xs h =
    let (m, k) = same (roll-Stm x) in
    let (n, g) = gone every xs in (
      m ++ n,
      subst (λ f. Thins every (m ++ n) f (code_flow every (roll-Stm x ∷ []))) (sym (flow_append every (roll-Stm x ∷ []) xs)) (record {
        live = λ t r r' e v. ((all t r (live_in_order (map (flow t) xs) r)).0 ∙ (k.live t r r' e v).0, refl);
        marks =
            λ t r r' e. subst (Covers (m ++ n) _) (append-nil ((code_flow every (roll-Stm x ∷ []) t).marks r'))
            (covers_append m _ ((code_flow every (roll-Stm x ∷ []) t).marks r') n _ []
            (subst (λ l. Covers m l ((code_flow every (roll-Stm x ∷ []) t).marks r')) (sym (all t r (live_in_order (map (flow t) xs) r)).1)
            (k.marks t r r' e)) (g t r));
      }),
    )
  where
    all : (t : ℕ) (r : Around) (b : Bool) →
        ((code_flow every (roll-Stm x ∷ []) t).live (with_after r b) ≡ (code_flow every (roll-Stm x ∷ []) t).live r) ×
        ((code_flow every (roll-Stm x ∷ []) t).marks (with_after r b) ≡ (code_flow every (roll-Stm x ∷ []) t).marks r)
    all = subst (λ (f : ℕ → Flow). (t : ℕ) (r : Around) (b : Bool) → ((f t).live (with_after r b) ≡ (f t).live r) × ((f t).marks (with_after r b) ≡ (f t).marks r)) (sym (flow_one every x)) h

jump_thinner : (s : Stm) (xs : List Stm) → jumps s ≡ true → Thinner (s ∷ xs) (s ∷ [])
jump_thinner s xs = subst (λ u. jumps u ≡ true → Thinner (u ∷ xs) (u ∷ [])) (roll-out-Stm s) (by (out-Stm s))
  where
    no : (x : Stm-F Stm) → layer_jumps x ≡ false → jumps (roll-Stm x) ≡ true → Thinner (roll-Stm x ∷ xs) (roll-Stm x ∷ [])
    no x f e = from_falsity (sym f ∙ sym (jumps_roll x) ∙ e)

    by : (x : Stm-F Stm) → jumps (roll-Stm x) ≡ true → Thinner (roll-Stm x ∷ xs) (roll-Stm x ∷ [])
    by (stm.Set t v) = no (stm.Set t v) refl
    by (stm.SetGlobal g v) = no (stm.SetGlobal g v) refl
    by (stm.Divide t o a b) = no (stm.Divide t o a b) refl
    by (stm.Check a i) = no (stm.Check a i) refl
    by (stm.Read t a i) = no (stm.Read t a i) refl
    by (stm.Write a i v) = no (stm.Write a i v) refl
    by (stm.Zero l) = no (stm.Zero l) refl
    by (stm.If t a b) = no (stm.If t a b) refl
    by (stm.Loop b) = no (stm.Loop b) refl
    by (stm.Block b) = no (stm.Block b) refl
    by (stm.Break n) = λ e. stopped (stm.Break n) xs (λ t r b. (refl, refl))
    by (stm.Back n) = λ e. stopped (stm.Back n) xs (λ t r b. (refl, refl))
    by (stm.Call r f args) = no (stm.Call r f args) refl
    by (stm.Known r k args) = no (stm.Known r k args) refl
    by (stm.Return v) = λ e. stopped (stm.Return v) xs (λ t r b. (refl, refl))

cut_thinner : (s : Stm) (xs ys : List Stm) (c : Bool) → jumps s ≡ c → Thinner xs ys → Thinner (s ∷ xs) (s ∷ cond c [] ys)
cut_thinner s xs ys true e h = jump_thinner s xs e
cut_thinner s xs ys false e h = thinner_append every (s ∷ []) (s ∷ []) xs ys (same s) h

ended_thinner : (xs : List Stm) → Thinner xs (ended xs)
ended_thinner [] = thinner_none every
ended_thinner (s ∷ xs) = cut_thinner s xs (ended xs) (jumps s) refl (ended_thinner xs)

-- ---- trees

abbrev pub NoMoreRead : Tree → Tree → Type 0
NoMoreRead x y = (t : ℕ) → Implies every t (reads_temp t x) (reads_temp t y)

pub number_reads : (n : ℕ) (x : Tree) → NoMoreRead x (number n)
number_reads n x t e = from_falsity (sym (reads_temp_roll t (tree.Number n)) ∙ e)

abbrev pub IsTree : Tree → Type 0
IsTree x = NoMoreRead x (simple_tree x)

abbrev pub LayerReads : Tree-F Tree → Tree-F Tree → Type 0
LayerReads x y = (t : ℕ) → layer_reads_temp t (map-Tree Tree Bool (reads_temp t) y) ≡ true → layer_reads_temp t (map-Tree Tree Bool (reads_temp t) x) ≡ true

pub node_reads : (x y : Tree-F Tree) → LayerReads x y → NoMoreRead (roll-Tree x) (roll-Tree y)
node_reads x y h t e = (reads_temp_roll t x ∙ h t (sym (reads_temp_roll t y) ∙ e), refl)

unary_reads : (o : ℕ) (a : Tree) (c : Option ℕ) → IsTree a → NoMoreRead (roll-Tree (tree.Unary o a)) (one_or c (unary o) (roll-Tree (tree.Unary o (simple_tree a))))
unary_reads o a None h = node_reads (tree.Unary o a) (tree.Unary o (simple_tree a)) (λ t e. (h t e).0)
unary_reads o a (Some n) h = number_reads (unary o n) (roll-Tree (tree.Unary o a))

narrow_reads : (k : _) (a : Tree) (c : Option ℕ) → IsTree a → NoMoreRead (roll-Tree (tree.Narrow k a)) (one_or c (word.narrow k) (roll-Tree (tree.Narrow k (simple_tree a))))
narrow_reads k a None h = node_reads (tree.Narrow k a) (tree.Narrow k (simple_tree a)) (λ t e. (h t e).0)
narrow_reads k a (Some n) h = number_reads (word.narrow k n) (roll-Tree (tree.Narrow k a))

binary_same : (o : ℕ) (a b : Tree) → IsTree a → IsTree b → NoMoreRead (roll-Tree (tree.Binary o a b)) (roll-Tree (tree.Binary o (simple_tree a) (simple_tree b)))
binary_same o a b h k =
    node_reads (tree.Binary o a b) (tree.Binary o (simple_tree a) (simple_tree b))
    (λ t e. or_both (reads_temp t a) (reads_temp t b) (reads_temp t (simple_tree a)) (reads_temp t (simple_tree b)) (λ v. (h t v).0) (λ v. (k t v).0) e)

binary_reads : (o : ℕ) (a b : Tree) (c d : Option ℕ) → IsTree a → IsTree b → NoMoreRead (roll-Tree (tree.Binary o a b)) (two_or c d (binary o) (roll-Tree (tree.Binary o (simple_tree a) (simple_tree b))))
binary_reads o a b (Some n) (Some m) h k = number_reads (binary o n m) (roll-Tree (tree.Binary o a b))
binary_reads o a b (Some n) None h k = binary_same o a b h k
binary_reads o a b None (Some m) h k = binary_same o a b h k
binary_reads o a b None None h k = binary_same o a b h k

to_tree : (x : Tree-F Tree) → NoMoreRead (roll-Tree x) (simple_node (map-Tree Tree Tree simple_tree x)) → IsTree (roll-Tree x)
to_tree x h = subst (NoMoreRead (roll-Tree x)) (sym (simple_tree_roll x)) h

tree_layer : (x : Tree-F Tree) → TreeChildren IsTree x → IsTree (roll-Tree x)
tree_layer (tree.Number n) h = to_tree (tree.Number n) (λ t e. (e, refl))
tree_layer (tree.Temp n) h = to_tree (tree.Temp n) (λ t e. (e, refl))
tree_layer (tree.Global n) h = to_tree (tree.Global n) (λ t e. (e, refl))
tree_layer (tree.Function n) h = to_tree (tree.Function n) (λ t e. (e, refl))
tree_layer (tree.Unary o a) h = to_tree (tree.Unary o a) (unary_reads o a (constant (simple_tree a)) h)
tree_layer (tree.Binary o a b) h = to_tree (tree.Binary o a b) (binary_reads o a b (constant (simple_tree a)) (constant (simple_tree b)) h.0 h.1)
tree_layer (tree.Narrow k a) h = to_tree (tree.Narrow k a) (narrow_reads k a (constant (simple_tree a)) h)

pub tree_reads_less : (x : Tree) → IsTree x
tree_reads_less = tree_ind IsTree tree_layer

abbrev Less : List Tree → List Tree → Type 0
Less = ReadsLess every

many_less : (ts : List Tree) → Less ts (map simple_tree ts)
many_less [] t e = (e, refl)
many_less (x ∷ ts) t e = (or_both (reads_temp t x) (any_reads t ts) (reads_temp t (simple_tree x)) (any_reads t (map simple_tree ts)) (λ v. (tree_reads_less x t v).0) (λ v. (many_less ts t v).0) e, refl)

one_less : (x : Tree) → Less (x ∷ []) (simple_tree x ∷ [])
one_less x = many_less (x ∷ [])

two_less : (x y : Tree) → Less (x ∷ y ∷ []) (simple_tree x ∷ simple_tree y ∷ [])
two_less x y = many_less (x ∷ y ∷ [])

callee_less : (f : Callee) → Less (callee_trees f) (callee_trees (simple_callee f))
callee_less (callee.Direct f) t e = (e, refl)
callee_less (callee.Through x) t e = one_less x t e
callee_less (callee.Switched g) t e = (e, refl)
callee_less callee.Expanded t e = (e, refl)

call_less : (f : Callee) (ts : List Tree) → Less (callee_trees f ++ ts) (callee_trees (simple_callee f) ++ map simple_tree ts)
call_less f ts t e = (
  any_reads_append t (callee_trees f) ts ∙
      or_both (any_reads t (callee_trees f)) (any_reads t ts) (any_reads t (callee_trees (simple_callee f))) (any_reads t (map simple_tree ts)) (λ v. (callee_less f t v).0) (λ v. (many_less ts t v).0)
      (sym (any_reads_append t (callee_trees (simple_callee f)) (map simple_tree ts)) ∙ e),
  refl,
)

number_less : (n : ℕ) (ts : List Tree) → Less ts (number n ∷ [])
number_less n ts t e = by (or_cases (reads_temp t (number n)) false e)
  where
    by : (reads_temp t (number n) ≡ true) ⊎ (false ≡ true) → (any_reads t ts ≡ true) × (every t ≡ true)
    by (inl v) = from_falsity (sym (reads_temp_roll t (tree.Number n)) ∙ v)
    by (inr v) = from_falsity v

-- ---- statements

abbrev IsThin : Stm → Type 0
IsThin s = Thinner (s ∷ []) (simple_stm s)

kids_thin : (b : List Stm) → Each IsThin b → Thinner b (joined (map simple_stm b))
kids_thin [] h = thinner_none every
kids_thin (s ∷ b) h = thinner_append every (s ∷ []) (simple_stm s) b (joined (map simple_stm b)) h.0 (kids_thin b h.1)

code_thin : (b : List Stm) → Each IsThin b → Thinner b (simple_code b)
code_thin b h = thinner_trans every b (joined (map simple_stm b)) (simple_code b) (kids_thin b h) (ended_thinner (joined (map simple_stm b)))

abbrev pub thin_one : (x y : Stm-F Stm) → Thins every (true ∷ []) (flow_of_layer x) (flow_of_layer y) → Thinner (roll-Stm x ∷ []) (alone y)
thin_one x y h = thinner_one every x y (true ∷ []) h

pub next_thins : (ts ts' : List Tree) (writes : Option ℕ) → Less ts ts' → Thins every (true ∷ []) (λ t. plain t ts writes goes_next) (λ t. plain t ts' writes goes_next)
next_thins ts ts' writes h = plain_thins every ts ts' writes goes_next h (on_next every)

division_thin : (c d : Option ℕ) (t o : ℕ) (a b : Tree) → Thinner (roll-Stm (stm.Divide t o a b) ∷ []) (division c d t o (simple_tree a) (simple_tree b))
division_thin (Some n) (Some (suc d)) t o a b =
    thin_one (stm.Divide t o a b) (stm.Set t (number (divide o n (suc d)))) (next_thins (a ∷ b ∷ []) (number (divide o n (suc d)) ∷ []) (Some t) (number_less (divide o n (suc d)) (a ∷ b ∷ [])))
division_thin (Some n) (Some zero) t o a b = thin_one (stm.Divide t o a b) (stm.Divide t o (simple_tree a) (simple_tree b)) (next_thins (a ∷ b ∷ []) (simple_tree a ∷ simple_tree b ∷ []) (Some t) (two_less a b))
division_thin (Some n) None t o a b = thin_one (stm.Divide t o a b) (stm.Divide t o (simple_tree a) (simple_tree b)) (next_thins (a ∷ b ∷ []) (simple_tree a ∷ simple_tree b ∷ []) (Some t) (two_less a b))
division_thin None None t o a b = thin_one (stm.Divide t o a b) (stm.Divide t o (simple_tree a) (simple_tree b)) (next_thins (a ∷ b ∷ []) (simple_tree a ∷ simple_tree b ∷ []) (Some t) (two_less a b))
division_thin None (Some d) t o a b = thin_one (stm.Divide t o a b) (stm.Divide t o (simple_tree a) (simple_tree b)) (next_thins (a ∷ b ∷ []) (simple_tree a ∷ simple_tree b ∷ []) (Some t) (two_less a b))

-- the first side alone
first_thin : (x : Tree) (a b c : List Stm) → Thinner a c → Thinner (roll-Stm (stm.If x a b) ∷ []) c
first_thin x a b c (m, h) =
    let (n, g) = gone every b in
    thinner_many every (stm.If x a b) c (false ∷ (m ++ n)) (record {
      live = λ t r r' e v. (or_right (reads_temp t x) _ (or_left _ _ (h.live t r r' e v).0), refl);
      marks = λ t r r' e. subst (Covers (m ++ n) _) (append-nil ((code_flow every c t).marks r')) (covers_append m _ _ n _ [] (h.marks t r r' e) (g t r));
    })

second_thin : (x : Tree) (a b c : List Stm) → Thinner b c → Thinner (roll-Stm (stm.If x a b) ∷ []) c
second_thin x a b c (m, h) =
    let (n, g) = gone every a in
    thinner_many every (stm.If x a b) c (false ∷ (n ++ m)) (record {
      live = λ t r r' e v. (or_right (reads_temp t x) _ (or_right _ _ (h.live t r r' e v).0), refl);
      marks = λ t r r' e. covers_append n _ [] m _ _ (g t r) (h.marks t r r' e);
    })

choice_thin : (c : Option ℕ) (x : Tree) (a b : List Stm) → Thinner a (simple_code a) → Thinner b (simple_code b) → Thinner (roll-Stm (stm.If x a b) ∷ []) (choice c (simple_tree x) (simple_code a) (simple_code b))
choice_thin None x a b ha hb = if_thins every x (simple_tree x) a (simple_code a) b (simple_code b) (tree_reads_less x) ha hb
choice_thin (Some zero) x a b ha hb = second_thin x a b (simple_code b) hb
choice_thin (Some (suc n)) x a b ha hb = first_thin x a b (simple_code a) ha

open_thin : Opens Thinner
open_thin = record { same = code_same; block = λ front end e. block_opens every front (code_same front) e end; loop = λ front n e. loop_opens every front (code_same front) e n }

thin_layer : (x : Stm-F Stm) → StmChildren IsThin x → Thinner (roll-Stm x ∷ []) (simple_layer (map-Stm Stm (List Stm) simple_stm x))
thin_layer (stm.Set t v) h = thin_one (stm.Set t v) (stm.Set t (simple_tree v)) (next_thins (v ∷ []) (simple_tree v ∷ []) (Some t) (one_less v))
thin_layer (stm.SetGlobal g v) h = thin_one (stm.SetGlobal g v) (stm.SetGlobal g (simple_tree v)) (next_thins (v ∷ []) (simple_tree v ∷ []) None (one_less v))
thin_layer (stm.Divide t o a b) h = division_thin (constant (simple_tree a)) (constant (simple_tree b)) t o a b
thin_layer (stm.Check a i) h = thin_one (stm.Check a i) (stm.Check a (simple_tree i)) (next_thins (i ∷ []) (simple_tree i ∷ []) None (one_less i))
thin_layer (stm.Read t a i) h = thin_one (stm.Read t a i) (stm.Read t a (simple_tree i)) (next_thins (i ∷ []) (simple_tree i ∷ []) (Some t) (one_less i))
thin_layer (stm.Write a i v) h = thin_one (stm.Write a i v) (stm.Write a (simple_tree i) (simple_tree v)) (next_thins (i ∷ v ∷ []) (simple_tree i ∷ simple_tree v ∷ []) None (two_less i v))
thin_layer (stm.Zero l) h = same (roll-Stm (stm.Zero l))
thin_layer (stm.If x a b) h = choice_thin (constant (simple_tree x)) x a b (code_thin a h.0) (code_thin b h.1)
thin_layer (stm.Loop b) h =
    thinner_trans every (roll-Stm (stm.Loop b) ∷ []) (roll-Stm (stm.Loop (simple_code b)) ∷ []) (looped (simple_code b))
    (loop_thins every b (simple_code b) (code_thin b h)) (looped_is Thinner open_thin (simple_code b))
thin_layer (stm.Block b) h =
    thinner_trans every (roll-Stm (stm.Block b) ∷ []) (roll-Stm (stm.Block (simple_code b)) ∷ []) (blocked (simple_code b))
    (block_thins every b (simple_code b) (code_thin b h)) (blocked_is Thinner open_thin (simple_code b))
thin_layer (stm.Break n) h = same (roll-Stm (stm.Break n))
thin_layer (stm.Back n) h = same (roll-Stm (stm.Back n))
thin_layer (stm.Call r f args) h = thin_one (stm.Call r f args) (stm.Call r (simple_callee f) (map simple_tree args)) (next_thins (callee_trees f ++ args) (callee_trees (simple_callee f) ++ map simple_tree args) r (call_less f args))
thin_layer (stm.Known r k args) h = thin_one (stm.Known r k args) (stm.Known r k (map simple_tree args)) (next_thins args (map simple_tree args) r (many_less args))
thin_layer (stm.Return v) h = thin_one (stm.Return v) (stm.Return (simple_tree v)) (plain_thins every (v ∷ []) (simple_tree v ∷ []) None (λ r. false) (one_less v) (on_nothing every))

simple_thinner : (code : List Stm) → Thinner code (simple_code code)
simple_thinner code = code_thin code (each_simple (λ s. Thinner (s ∷ [])) thin_layer code)

-- ---- without the sets that aren't needed

module _ (needed : ℕ → Bool) where
  abbrev IsLeft : Stm → Type 0
  IsLeft s = Closed needed (stm_uses s) → IsThinner needed (s ∷ []) (needed_stm needed s)

  kids_left : (b : List Stm) → Each IsLeft b → Closed needed (code_uses b) → IsThinner needed b (needed_code needed b)
  kids_left [] h c = thinner_none needed
  kids_left (s ∷ b) h c = thinner_append needed (s ∷ []) (needed_stm needed s) b (needed_code needed b) (h.0 (left needed (stm_uses s) (code_uses b) c)) (kids_left b h.1 (right needed (stm_uses s) (code_uses b) c))

  reads_one : (x : Tree) → ((t : ℕ) → reads_temp t x ≡ true → needed t ≡ true) → ReadsLess needed (x ∷ []) (x ∷ [])
  reads_one x h t e = by (or_cases (reads_temp t x) false e)
    where
      by : (reads_temp t x ≡ true) ⊎ (false ≡ true) → (any_reads t (x ∷ []) ≡ true) × (needed t ≡ true)
      by (inl v) = (e, h t v)
      by (inr v) = from_falsity v

  reads_many : (ts : List Tree) → Closed needed (trees_uses ts) → ReadsLess needed ts ts
  reads_many [] c t e = from_falsity e
  reads_many (x ∷ ts) c t e = by (λ v. reads_many ts (right needed (tree_uses None x) (trees_uses ts) c) t v) (or_cases (reads_temp t x) (any_reads t ts) e)
    where
      by : (any_reads t ts ≡ true → (any_reads t ts ≡ true) × (needed t ≡ true)) → (reads_temp t x ≡ true) ⊎ (any_reads t ts ≡ true) → (any_reads t (x ∷ ts) ≡ true) × (needed t ≡ true)
      by more (inl v) = (e, for_body needed x (left needed (tree_uses None x) (trees_uses ts) c) t v)
      by more (inr v) = (e, (more v).1)

  reads_two : (x y : Tree) → Closed needed (tree_uses None x ++ tree_uses None y) → ReadsLess needed (x ∷ y ∷ []) (x ∷ y ∷ [])
  reads_two x y c t e = by (or_cases (reads_temp t x) (any_reads t (y ∷ [])) e)
    where
      by : (reads_temp t x ≡ true) ⊎ (any_reads t (y ∷ []) ≡ true) → (any_reads t (x ∷ y ∷ []) ≡ true) × (needed t ≡ true)
      by (inl v) = (e, for_body needed x (left needed (tree_uses None x) (tree_uses None y) c) t v)
      by (inr v) = (e, (reads_one y (for_body needed y (right needed (tree_uses None x) (tree_uses None y) c)) t v).1)

  reads_call : (f : Callee) (ts : List Tree) → Closed needed (trees_uses (callee_trees f) ++ trees_uses ts) → ReadsLess needed (callee_trees f ++ ts) (callee_trees f ++ ts)
  reads_call f ts c t e = by (or_cases (any_reads t (callee_trees f)) (any_reads t ts) (sym (any_reads_append t (callee_trees f) ts) ∙ e))
    where
      by : (any_reads t (callee_trees f) ≡ true) ⊎ (any_reads t ts ≡ true) → (any_reads t (callee_trees f ++ ts) ≡ true) × (needed t ≡ true)
      by (inl v) = (e, (reads_many (callee_trees f) (left needed (trees_uses (callee_trees f)) (trees_uses ts) c) t v).1)
      by (inr v) = (e, (reads_many ts (right needed (trees_uses (callee_trees f)) (trees_uses ts) c) t v).1)

  kept : (x : Stm-F Stm) → Thins needed (true ∷ []) (flow_of_layer x) (flow_of_layer x) → IsThinner needed (roll-Stm x ∷ []) (alone x)
  kept x h = thinner_one needed x x (true ∷ []) h

  next : (ts : List Tree) (writes : Option ℕ) → ReadsLess needed ts ts → Thins needed (true ∷ []) (λ t. plain t ts writes goes_next) (λ t. plain t ts writes goes_next)
  next ts writes h = plain_thins needed ts ts writes goes_next h (on_next needed)

  -- a set that isn't needed
  dropped : (u : ℕ) (v : Tree) → needed u ≡ false → IsThinner needed (roll-Stm (stm.Set u v) ∷ []) []
  dropped u v e = thinner_many needed (stm.Set u v) [] (false ∷ []) (record {
    live = λ t r r' f n. let behind = f.next n in (or_right (any_reads t (v ∷ [])) _ (still t (eqb u t) refl behind.1 r.next ∙ behind.0), behind.1);
    marks = λ t r r' f. tt;
  })
    where
      still : (t : ℕ) (c : Bool) → eqb u t ≡ c → needed t ≡ true → (b : Bool) → (not (eqb u t) && b) ≡ b
      still t true e' n b = from_falsity (sym e ∙ ap needed (exact_unsigned_eq u t e') ∙ n)
      still t false e' n b = ap (λ c. not c && b) e'

  set_left : (u : ℕ) (v : Tree) (c : Bool) → needed u ≡ c → Closed needed (tree_uses (Some u) v) → IsThinner needed (roll-Stm (stm.Set u v) ∷ []) (cond c (alone (stm.Set u v)) [])
  set_left u v true e a = kept (stm.Set u v) (next (v ∷ []) (Some u) (reads_one v (among needed (Some u) e v a)))
  set_left u v false e a = dropped u v e

  one : (x : Tree) → Closed needed (tree_uses None x) → ReadsLess needed (x ∷ []) (x ∷ [])
  one x a = reads_one x (for_body needed x a)

  left_layer : (x : Stm-F Stm) → StmChildren IsLeft x → Closed needed (layer_uses (map-Stm Stm (List Use) stm_uses x)) → IsThinner needed (roll-Stm x ∷ []) (needed_layer needed (map-Stm Stm (List Stm) (needed_stm needed) x))
  left_layer (stm.Set u v) h a = set_left u v (needed u) refl a
  left_layer (stm.SetGlobal g v) h a = kept (stm.SetGlobal g v) (next (v ∷ []) None (one v a))
  left_layer (stm.Divide u o x y) h a = kept (stm.Divide u o x y) (next (x ∷ y ∷ []) (Some u) (reads_two x y a))
  left_layer (stm.Check r i) h a = kept (stm.Check r i) (next (i ∷ []) None (one i a))
  left_layer (stm.Read u r i) h a = kept (stm.Read u r i) (next (i ∷ []) (Some u) (one i a))
  left_layer (stm.Write r i v) h a = kept (stm.Write r i v) (next (i ∷ v ∷ []) None (reads_two i v a))
  left_layer (stm.Zero l) h a = kept (stm.Zero l) (next [] None (λ t e. from_falsity e))
  left_layer (stm.If x y z) h a =
      let inner = right needed (tree_uses None x) (code_uses y ++ code_uses z) a in
      if_thins needed x x y (needed_code needed y) z (needed_code needed z)
      (λ t e. (e, for_body needed x (left needed (tree_uses None x) (code_uses y ++ code_uses z) a) t e))
      (kids_left y h.0 (left needed (code_uses y) (code_uses z) inner)) (kids_left z h.1 (right needed (code_uses y) (code_uses z) inner))
  left_layer (stm.Loop b) h a = loop_thins needed b (needed_code needed b) (kids_left b h a)
  left_layer (stm.Block b) h a = block_thins needed b (needed_code needed b) (kids_left b h a)
  left_layer (stm.Break n) h a = kept (stm.Break n) (plain_thins needed [] [] None (λ r. r.leaves n) (λ t e. from_falsity e) (on_leaves needed n))
  left_layer (stm.Back n) h a = kept (stm.Back n) (plain_thins needed [] [] None (λ r. r.restarts n) (λ t e. from_falsity e) (on_restarts needed n))
  left_layer (stm.Call r f args) h a = kept (stm.Call r f args) (next (callee_trees f ++ args) r (reads_call f args a))
  left_layer (stm.Known r k args) h a = kept (stm.Known r k args) (next args r (reads_many args a))
  left_layer (stm.Return v) h a = kept (stm.Return v) (plain_thins needed (v ∷ []) (v ∷ []) None (λ r. false) (one v a) (on_nothing needed))

  needed_thinner : (code : List Stm) → Closed needed (code_uses code) → IsThinner needed code (needed_code needed code)
  needed_thinner code c = kids_left code (each_left needed (λ s left. Closed needed (stm_uses s) → IsThinner needed (s ∷ []) left) (λ x h a. left_layer x h (subst (Closed needed) (stm_uses_roll x) a)) code) c

-- ---- bodies

pub simple_intervals : (b : Body) → KeepsIntervals every b (record b { code = simple_code b.code })
simple_intervals b = thinner_body every b (simple_code b.code) (simple_thinner b.code)

pub needed_intervals : (b : Body) (needed : ℕ → Bool) → IsNeeded needed (code_uses b.code) → KeepsIntervals needed b (record b { code = needed_code needed b.code })
needed_intervals b needed h = thinner_body needed b (needed_code needed b.code) (needed_thinner needed b.code (closed needed (code_uses b.code) (λ t e. h t ∙ e)))
