-- What carrying gives, at each variant.
use Rattle.std.proofs.Common.{◌≡◌, ℕ, ◌+◌, ◌<◌, Bool, false, cond, eqb, List, [], ◌∷◌, ◌++◌, length, map, take, get_or, Option, Some, None, refl, sym, ◌∙◌, ap}
use Rattle.std.specs.Prelude.{◌||◌}
use Rattle.mv_num.proofs.Booleans.{or_false}
use Rattle.std.specs.List.{filter}
use Rattle.std.proofs.lemmas.List.{take_more}
use Rattle.std.proofs.lemmas.List.Elements.{filter_more}
use Rattle.mv_num.specs.declared.kind.Kind.{Kind}
use Rattle.mv_ast.specs.declared.program.Known.{Known}
use Rattle.mv_ast.specs.Names.{any_of}
use Rattle.mv_ir.specs.declared.tree.Tree.{Tree}
use Rattle.mv_ir.specs.declared.tree.Tree as tr
use Rattle.mv_ir.specs.declared.tree.Tree.TheOpen.{Tree-F}
use Rattle.mv_ir.specs.declared.tree.Tree.TheOpen as tree
use Rattle.mv_ir.specs.declared.tree.Tree.TheVariants.{rolls-Number, rolls-Temp, rolls-Global, rolls-Function, rolls-Unary, rolls-Binary, rolls-Narrow}
use Rattle.mv_ir.specs.declared.tree.Tree.TheViews.{roll-Tree}
use Rattle.mv_ir.specs.declared.tree.Tree.TheFolds.{fold-roll-Tree, map-Tree}
use Rattle.mv_ir.specs.declared.stm.Array.{Array}
use Rattle.mv_ir.specs.declared.stm.Callee.{Callee}
use Rattle.mv_ir.specs.declared.stm.Stm.{Stm}
use Rattle.mv_ir.specs.declared.stm.Stm as at
use Rattle.mv_ir.specs.declared.stm.Stm.TheOpen.{Stm-F}
use Rattle.mv_ir.specs.declared.stm.Stm.TheOpen as stm
use Rattle.mv_ir.specs.declared.stm.Stm.TheVariants.{rolls-Set, rolls-SetGlobal, rolls-Divide, rolls-Check, rolls-Read, rolls-Write, rolls-Zero, rolls-If, rolls-Loop, rolls-Block, rolls-Break, rolls-Back, rolls-Call, rolls-Known, rolls-Return}
use Rattle.mv_ir.specs.declared.stm.Stm.TheViews.{roll-Stm}
use Rattle.mv_ir.specs.declared.stm.Stm.TheFolds.{fold-roll-Stm, map-Stm}
use Rattle.mv_ir.specs.Live.{is}
use Rattle.mv_ir.proofs.Rolls.{same_functions}
use Rattle.mv_ir.proofs.Induction.{Each, StmChildren, stm_ind, stms_ind}
use Rattle.mv_ir.proofs.Joining.{map_through, any_append}
use Rattle.mv_ir.proofs.Keeping.{map_append}
use Rattle.mv_fold.specs.Simple.{constant}
use Rattle.mv_carry.specs.declared.facts.Fact.{Fact}
use Rattle.mv_carry.specs.declared.facts.Reach.{Reach}
use Rattle.mv_carry.specs.declared.walk.Within.{Within}
use Rattle.mv_carry.specs.declared.walk.Walk.{Walk}
use Rattle.mv_carry.specs.Facts.{number_of, known}
use Rattle.mv_carry.specs.Carrying.{number_or, known_node, known_tree, carried_tree, carried_callee, layer_writes, writes, begun, put, wrote, wrote_result, learned, jumped, leaves, chosen, looped, at_start, inner, Step, in_order, written_in, start_of, carried_layer, step_layer, step, carried_code, start, loop_walk, block_walk}

-- ---- trees

module _ (fs : List Fact) where
  pub known_tree_roll : (x : Tree-F Tree) → known_tree fs (roll-Tree x) ≡ known_node fs (map-Tree Tree Tree (known_tree fs) x)
  unfolding known_tree
  known_tree_roll x = fold-roll-Tree Tree (known_node fs) x

  pub known_number : (n : ℕ) → known_tree fs (tr.Number n) ≡ tr.Number n
  known_number n = ap (known_tree fs) (sym (rolls-Number n)) ∙ known_tree_roll (tree.Number n) ∙ rolls-Number n

  pub known_read : (t n : ℕ) → number_of fs t ≡ Some n → known_tree fs (tr.Temp t) ≡ tr.Number n
  known_read t n e = ap (known_tree fs) (sym (rolls-Temp t)) ∙ known_tree_roll (tree.Temp t) ∙ ap (λ o. number_or o t) e ∙ rolls-Number n

  pub known_temp : (t : ℕ) → number_of fs t ≡ None → known_tree fs (tr.Temp t) ≡ tr.Temp t
  known_temp t e = ap (known_tree fs) (sym (rolls-Temp t)) ∙ known_tree_roll (tree.Temp t) ∙ ap (λ o. number_or o t) e ∙ rolls-Temp t

  pub known_global : (g : ℕ) → known_tree fs (tr.Global g) ≡ tr.Global g
  known_global g = ap (known_tree fs) (sym (rolls-Global g)) ∙ known_tree_roll (tree.Global g) ∙ rolls-Global g

  pub known_function : (f : ℕ) → known_tree fs (tr.Function f) ≡ tr.Function f
  known_function f = ap (known_tree fs) (sym (rolls-Function f)) ∙ known_tree_roll (tree.Function f) ∙ rolls-Function f

  pub known_unary : (o : ℕ) (a : Tree) → known_tree fs (tr.Unary o a) ≡ tr.Unary o (known_tree fs a)
  known_unary o a = ap (known_tree fs) (sym (rolls-Unary o a)) ∙ known_tree_roll (tree.Unary o a) ∙ rolls-Unary o (known_tree fs a)

  pub known_binary : (o : ℕ) (a b : Tree) → known_tree fs (tr.Binary o a b) ≡ tr.Binary o (known_tree fs a) (known_tree fs b)
  known_binary o a b = ap (known_tree fs) (sym (rolls-Binary o a b)) ∙ known_tree_roll (tree.Binary o a b) ∙ rolls-Binary o (known_tree fs a) (known_tree fs b)

  pub known_narrow : (k : Kind) (a : Tree) → known_tree fs (tr.Narrow k a) ≡ tr.Narrow k (known_tree fs a)
  known_narrow k a = ap (known_tree fs) (sym (rolls-Narrow k a)) ∙ known_tree_roll (tree.Narrow k a) ∙ rolls-Narrow k (known_tree fs a)

pub ruleset known_trees = (known_number, known_read, known_temp, known_global, known_function, known_unary, known_binary, known_narrow)

-- ---- what is written

pub writes_roll : (u : ℕ) (x : Stm-F Stm) → writes u (roll-Stm x) ≡ layer_writes u (map-Stm Stm Bool (writes u) x)
unfolding writes
writes_roll u x = fold-roll-Stm Bool (layer_writes u) x

pub writing_set : (u t : ℕ) (v : Tree) → writes u (at.Set t v) ≡ eqb t u
writing_set u t v = ap (writes u) (sym (rolls-Set t v)) ∙ writes_roll u (stm.Set t v)

pub writing_setglobal : (u g : ℕ) (v : Tree) → writes u (at.SetGlobal g v) ≡ false
writing_setglobal u g v = ap (writes u) (sym (rolls-SetGlobal g v)) ∙ writes_roll u (stm.SetGlobal g v)

pub writing_divide : (u t o : ℕ) (a b : Tree) → writes u (at.Divide t o a b) ≡ eqb t u
writing_divide u t o a b = ap (writes u) (sym (rolls-Divide t o a b)) ∙ writes_roll u (stm.Divide t o a b)

pub writing_check : (u : ℕ) (a : Array) (i : Tree) → writes u (at.Check a i) ≡ false
writing_check u a i = ap (writes u) (sym (rolls-Check a i)) ∙ writes_roll u (stm.Check a i)

pub writing_read : (u t : ℕ) (a : Array) (i : Tree) → writes u (at.Read t a i) ≡ eqb t u
writing_read u t a i = ap (writes u) (sym (rolls-Read t a i)) ∙ writes_roll u (stm.Read t a i)

pub writing_write : (u : ℕ) (a : Array) (i v : Tree) → writes u (at.Write a i v) ≡ false
writing_write u a i v = ap (writes u) (sym (rolls-Write a i v)) ∙ writes_roll u (stm.Write a i v)

pub writing_zero : (u l : ℕ) → writes u (at.Zero l) ≡ false
writing_zero u l = ap (writes u) (sym (rolls-Zero l)) ∙ writes_roll u (stm.Zero l)

pub writing_if : (u : ℕ) (t : Tree) (a b : List Stm) → writes u (at.If t a b) ≡ (any_of (map (writes u) a) || any_of (map (writes u) b))
writing_if u t a b = ap (writes u) (sym (rolls-If t a b)) ∙ writes_roll u (stm.If t a b)

pub writing_loop : (u : ℕ) (b : List Stm) → writes u (at.Loop b) ≡ any_of (map (writes u) b)
writing_loop u b = ap (writes u) (sym (rolls-Loop b)) ∙ writes_roll u (stm.Loop b)

pub writing_block : (u : ℕ) (b : List Stm) → writes u (at.Block b) ≡ any_of (map (writes u) b)
writing_block u b = ap (writes u) (sym (rolls-Block b)) ∙ writes_roll u (stm.Block b)

pub writing_break : (u n : ℕ) → writes u (at.Break n) ≡ false
writing_break u n = ap (writes u) (sym (rolls-Break n)) ∙ writes_roll u (stm.Break n)

pub writing_back : (u n : ℕ) → writes u (at.Back n) ≡ false
writing_back u n = ap (writes u) (sym (rolls-Back n)) ∙ writes_roll u (stm.Back n)

pub writing_call : (u : ℕ) (r : Option ℕ) (f : Callee) (args : List Tree) → writes u (at.Call r f args) ≡ is r u
writing_call u r f args = ap (writes u) (sym (rolls-Call r f args)) ∙ writes_roll u (stm.Call r f args)

pub writing_known : (u : ℕ) (r : Option ℕ) (k : Known) (args : List Tree) → writes u (at.Known r k args) ≡ is r u
writing_known u r k args = ap (writes u) (sym (rolls-Known r k args)) ∙ writes_roll u (stm.Known r k args)

pub writing_return : (u : ℕ) (v : Tree) → writes u (at.Return v) ≡ false
writing_return u v = ap (writes u) (sym (rolls-Return v)) ∙ writes_roll u (stm.Return v)

pub ruleset writing = (
  writing_set,
  writing_setglobal,
  writing_divide,
  writing_check,
  writing_read,
  writing_write,
  writing_zero,
  writing_if,
  writing_loop,
  writing_block,
  writing_break,
  writing_back,
  writing_call,
  writing_known,
  writing_return,
)

-- ---- the walk

module _ (temps : ℕ) where
  pub step_roll : (x : Stm-F Stm) → step temps (roll-Stm x) ≡ step_layer temps (map-Stm Stm Step (step temps) x)
  unfolding step
  step_roll x = fold-roll-Stm Step (step_layer temps) x

  abbrev WritesSame : Stm → Type 0
  WritesSame s = (t : ℕ) → (step temps s).written t ≡ writes t s

  kids_same : (t : ℕ) (b : List Stm) → Each WritesSame b → any_of (map (λ (s : Step). s.written t) (map (step temps) b)) ≡ any_of (map (writes t) b)
  kids_same t b h = ap any_of (map_through (writes t) (λ (s : Step). s.written t) (step temps) b (at_one b h))
    where
      at_one : (b : List Stm) → Each WritesSame b → Each (λ s. (step temps s).written t ≡ writes t s) b
      at_one [] h = tt
      at_one (s ∷ b) h = (h.0 t, at_one b h.1)

  to_written : (x : Stm-F Stm) (t : ℕ) → (step_layer temps (map-Stm Stm Step (step temps) x)).written t ≡ layer_writes t (map-Stm Stm Bool (writes t) x) → (step temps (roll-Stm x)).written t ≡ writes t (roll-Stm x)
  to_written x t e = ap (λ (s : Step). s.written t) (step_roll x) ∙ e ∙ sym (writes_roll t x)

  same_layer : (x : Stm-F Stm) → StmChildren WritesSame x → WritesSame (roll-Stm x)
  same_layer (stm.Set u v) h t = to_written (stm.Set u v) t refl
  same_layer (stm.SetGlobal g v) h t = to_written (stm.SetGlobal g v) t refl
  same_layer (stm.Divide u o a b) h t = to_written (stm.Divide u o a b) t refl
  same_layer (stm.Check a i) h t = to_written (stm.Check a i) t refl
  same_layer (stm.Read u a i) h t = to_written (stm.Read u a i) t refl
  same_layer (stm.Write a i v) h t = to_written (stm.Write a i v) t refl
  same_layer (stm.Zero l) h t = to_written (stm.Zero l) t refl
  same_layer (stm.If x a b) h t = to_written (stm.If x a b) t (ap (λ c. c || any_of (map (λ (s : Step). s.written t) (map (step temps) b))) (kids_same t a h.0) ∙ ap (λ c. any_of (map (writes t) a) || c) (kids_same t b h.1))
  same_layer (stm.Loop b) h t = to_written (stm.Loop b) t (kids_same t b h)
  same_layer (stm.Block b) h t = to_written (stm.Block b) t (kids_same t b h)
  same_layer (stm.Break n) h t = to_written (stm.Break n) t refl
  same_layer (stm.Back n) h t = to_written (stm.Back n) t refl
  same_layer (stm.Call r f args) h t = to_written (stm.Call r f args) t refl
  same_layer (stm.Known r k args) h t = to_written (stm.Known r k args) t refl
  same_layer (stm.Return v) h t = to_written (stm.Return v) t refl

  same_written : (b : List Stm) (t : ℕ) → written_in (map (step temps) b) t ≡ any_of (map (writes t) b)
  same_written b t = kids_same t b (stms_ind WritesSame (stm_ind WritesSame same_layer) b)

  pub same_start : (l : Within) (b : List Stm) (r : Reach) → start_of l (map (step temps) b) r ≡ start l b r
  same_start l b r = ap (λ f. at_start l f r) (same_functions (written_in (map (step temps) b)) (λ t. any_of (map (writes t) b)) (same_written b))

  pub walk_roll : (x : Stm-F Stm) (l : Within) (w : Walk) → (step temps (roll-Stm x)).walk l w ≡ carried_layer temps (map-Stm Stm Step (step temps) x) l w
  walk_roll x l w = ap (λ (s : Step). s.walk l w) (step_roll x)

  at_roll : (s : Stm) (x : Stm-F Stm) (l : Within) (w : Walk) → roll-Stm x ≡ s → (step temps s).walk l w ≡ carried_layer temps (map-Stm Stm Step (step temps) x) l w
  at_roll s x l w e = ap (λ u. (step temps u).walk l w) (sym e) ∙ walk_roll x l w

  pub step_set : (t : ℕ) (v : Tree) (l : Within) (w : Walk) → (step temps (at.Set t v)).walk l w ≡ put (at.Set t (carried_tree (known w.here) v)) (learned temps t (constant (carried_tree (known w.here) v)) w)
  step_set t v l w = at_roll _ (stm.Set t v) l w (rolls-Set t v) ∙ ap (λ s. put s (learned temps t (constant (carried_tree (known w.here) v)) w)) (rolls-Set t _)

  pub step_setglobal : (g : ℕ) (v : Tree) (l : Within) (w : Walk) → (step temps (at.SetGlobal g v)).walk l w ≡ put (at.SetGlobal g (carried_tree (known w.here) v)) w
  step_setglobal g v l w = at_roll _ (stm.SetGlobal g v) l w (rolls-SetGlobal g v) ∙ ap (λ s. put s w) (rolls-SetGlobal g _)

  pub step_divide : (t o : ℕ) (a b : Tree) (l : Within) (w : Walk) → (step temps (at.Divide t o a b)).walk l w ≡ put (at.Divide t o (carried_tree (known w.here) a) (carried_tree (known w.here) b)) (wrote t w)
  step_divide t o a b l w = at_roll _ (stm.Divide t o a b) l w (rolls-Divide t o a b) ∙ ap (λ s. put s (wrote t w)) (rolls-Divide t o _ _)

  pub step_check : (a : Array) (i : Tree) (l : Within) (w : Walk) → (step temps (at.Check a i)).walk l w ≡ put (at.Check a (carried_tree (known w.here) i)) w
  step_check a i l w = at_roll _ (stm.Check a i) l w (rolls-Check a i) ∙ ap (λ s. put s w) (rolls-Check a _)

  pub step_read : (t : ℕ) (a : Array) (i : Tree) (l : Within) (w : Walk) → (step temps (at.Read t a i)).walk l w ≡ put (at.Read t a (carried_tree (known w.here) i)) (wrote t w)
  step_read t a i l w = at_roll _ (stm.Read t a i) l w (rolls-Read t a i) ∙ ap (λ s. put s (wrote t w)) (rolls-Read t a _)

  pub step_write : (a : Array) (i v : Tree) (l : Within) (w : Walk) → (step temps (at.Write a i v)).walk l w ≡ put (at.Write a (carried_tree (known w.here) i) (carried_tree (known w.here) v)) w
  step_write a i v l w = at_roll _ (stm.Write a i v) l w (rolls-Write a i v) ∙ ap (λ s. put s w) (rolls-Write a _ _)

  pub step_zero : (a : ℕ) (l : Within) (w : Walk) → (step temps (at.Zero a)).walk l w ≡ put (at.Zero a) w
  step_zero a l w = at_roll _ (stm.Zero a) l w (rolls-Zero a) ∙ ap (λ s. put s w) (rolls-Zero a)

  pub step_if : (t : Tree) (a b : List Stm) (l : Within) (w : Walk) →
      (step temps (at.If t a b)).walk l w ≡ chosen (constant (carried_tree (known w.here) t)) (carried_tree (known w.here) t)
      (carried_code temps l w.here a) (carried_code temps l w.here b) w
  step_if t a b l w = at_roll _ (stm.If t a b) l w (rolls-If t a b)

  pub step_loop : (b : List Stm) (l : Within) (w : Walk) → (step temps (at.Loop b)).walk l w ≡ loop_walk temps l b w
  step_loop b l w = at_roll _ (stm.Loop b) l w (rolls-Loop b) ∙ ap (λ r. looped (carried_code temps (inner l r) r b) w) (same_start l b w.here)

  pub step_block : (b : List Stm) (l : Within) (w : Walk) → (step temps (at.Block b)).walk l w ≡ block_walk temps l b w
  step_block b l w = at_roll _ (stm.Block b) l w (rolls-Block b)

  pub step_break : (n : ℕ) (l : Within) (w : Walk) → (step temps (at.Break n)).walk l w ≡ put (at.Break n) (jumped (leaves n w))
  step_break n l w = at_roll _ (stm.Break n) l w (rolls-Break n) ∙ ap (λ s. put s (jumped (leaves n w))) (rolls-Break n)

  pub step_back : (n : ℕ) (l : Within) (w : Walk) → (step temps (at.Back n)).walk l w ≡ put (at.Back n) (jumped w)
  step_back n l w = at_roll _ (stm.Back n) l w (rolls-Back n) ∙ ap (λ s. put s (jumped w)) (rolls-Back n)

  pub step_call : (r : Option ℕ) (f : Callee) (args : List Tree) (l : Within) (w : Walk) →
      (step temps (at.Call r f args)).walk l w ≡ put (at.Call r (carried_callee (known w.here) f) (map (carried_tree (known w.here)) args)) (wrote_result r w)
  step_call r f args l w = at_roll _ (stm.Call r f args) l w (rolls-Call r f args) ∙ ap (λ s. put s (wrote_result r w)) (rolls-Call r _ _)

  pub step_known : (r : Option ℕ) (k : Known) (args : List Tree) (l : Within) (w : Walk) → (step temps (at.Known r k args)).walk l w ≡ put (at.Known r k (map (carried_tree (known w.here)) args)) (wrote_result r w)
  step_known r k args l w = at_roll _ (stm.Known r k args) l w (rolls-Known r k args) ∙ ap (λ s. put s (wrote_result r w)) (rolls-Known r k _)

  pub step_return : (v : Tree) (l : Within) (w : Walk) → (step temps (at.Return v)).walk l w ≡ put (at.Return (carried_tree (known w.here) v)) (jumped w)
  step_return v l w = at_roll _ (stm.Return v) l w (rolls-Return v) ∙ ap (λ s. put s (jumped w)) (rolls-Return _)

-- ---- lists, one more of them

pub any_more : (t : ℕ) (code : List Stm) (i : ℕ) (d : Stm) → i < length code → any_of (map (writes t) (take (i + 1) code)) ≡ (any_of (map (writes t) (take i code)) || writes t (get_or code i d))
any_more t code i d lt =
    ap (λ l. any_of (map (writes t) l)) (take_more code i d lt) ∙ ap any_of (map_append (writes t) (take i code) (get_or code i d ∷ [])) ∙
    any_append (map (writes t) (take i code)) (writes t (get_or code i d) ∷ []) ∙
    ap (λ b. any_of (map (writes t) (take i code)) || b) (or_false (writes t (get_or code i d)))

in_order_more : (l : Within) (ss : List Step) (s : Step) (w : Walk) → in_order l (ss ++ s ∷ []) w ≡ s.walk l (in_order l ss w)
in_order_more l [] s w = refl
in_order_more l (z ∷ ss) s w = in_order_more l ss s (z.walk l w)

pub carried_more : (temps : ℕ) (l : Within) (r : Reach) (code : List Stm) (i : ℕ) (d : Stm) → i < length code → carried_code temps l r (take (i + 1) code) ≡ (step temps (get_or code i d)).walk l (carried_code temps l r (take i code))
carried_more temps l r code i d lt =
    ap (carried_code temps l r) (take_more code i d lt) ∙ ap (λ ss. in_order l ss (begun r)) (map_append (step temps) (take i code) (get_or code i d ∷ [])) ∙
    in_order_more l (map (step temps) (take i code)) (step temps (get_or code i d)) (begun r)

pub kept_more : {A : Type 0} (p : A → Bool) (xs : List A) (i : ℕ) (d : A) → i < length xs → filter p (take (i + 1) xs) ≡ filter p (take i xs) ++ cond (p (get_or xs i d)) (get_or xs i d ∷ []) []
kept_more = filter_more

pub ruleset steps = (step_set, step_setglobal, step_divide, step_check, step_read, step_write, step_zero, step_if, step_loop, step_block, step_break, step_back, step_call, step_known, step_return)
