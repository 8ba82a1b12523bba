-- Code with numbers carried through its temporaries names no more, but for the constants that are computed.
use Rattle.std.proofs.Common.{◌≡◌, ℕ, zero, suc, ◌-◌, Bool, true, false, not, cond, eqb, ltb, List, [], ◌∷◌, ◌++◌, length, map, Option, None, Some, sym, subst, refl}
use Rattle.mv_ast.specs.declared.program.Known.{Known}
use Rattle.mv_ir.specs.declared.tree.Tree.{Tree}
use Rattle.mv_ir.specs.declared.tree.Tree.TheOpen.{Tree-F}
use Rattle.mv_ir.specs.declared.tree.Tree.TheOpen as tree
use Rattle.mv_ir.specs.declared.tree.Tree.TheFolds.{map-Tree}
use Rattle.mv_ir.specs.declared.stm.Callee.{Callee}
use Rattle.mv_ir.specs.declared.stm.Callee.TheVariants as callee
use Rattle.mv_ir.specs.declared.stm.Stm.{Stm}
use Rattle.mv_ir.specs.declared.stm.Stm.TheOpen.{Stm-F}
use Rattle.mv_ir.specs.declared.stm.Stm.TheOpen as stm
use Rattle.mv_ir.specs.declared.stm.Stm.TheViews.{roll-Stm}
use Rattle.mv_ir.specs.declared.stm.Stm.TheFolds.{map-Stm}
use Rattle.mv_ir.proofs.Induction.{Each, each_append, TreeChildren, tree_ind, StmChildren, stm_ind, stms_ind}
use Rattle.mv_fold.specs.Simple.{constant}
use Rattle.mv_carry.specs.declared.facts.Fact.{Fact}
use Rattle.mv_carry.specs.declared.facts.Reach.{Reach}
use Rattle.mv_carry.specs.declared.facts.Reach.TheVariants.{Never, Knowing}
use Rattle.mv_carry.specs.declared.walk.Within.{Within}
use Rattle.mv_carry.specs.declared.walk.Walk.{Walk}
use Rattle.mv_carry.specs.Facts.{number_of, without, newest, behind_write, is_number, known, with_facts, meet}
use Rattle.mv_carry.specs.Carrying.{number_or, known_node, known_tree, carried_tree, carried_callee, looked, outermost, inner, begun, put, wrote_result, learned, jumped, leaves, around, chosen, Step, in_order, written_in, start_of, carried_layer, step, carried_code}
use Rattle.mv_carry.proofs.Equations.{known_tree_roll, walk_roll}
use Rattle.mv_carry.proofs.Knowing.{each_filter, each_drop}
use Rattle.mv_select.proofs.OfBodies.Naming.{TreeNames, StmNames, CodeNames, TreeParts, tree_in, tree_out, CalleeNames, StmParts, stm_in, stm_out}
use Rattle.mv_variants.proofs.OfBound.FoldedNames.{IsClosed, constant_names, tree_kept}

module _ (F : ℕ → Type 0) (K : Known → Type 0) (C : ℕ → Type 0) (closed : IsClosed C) where
  -- ---- what is known

  abbrev IsKind : Fact → Type 0
  IsKind f = C f.number

  abbrev Kind : List Fact → Type 0
  Kind fs = Each IsKind fs

  kind_behind : (temps t : ℕ) (c : Option ℕ) → ((n : ℕ) → c ≡ Some n → C n) → (fs : List Fact) → Kind fs → Kind (behind_write temps t c fs)
  kind_behind temps t None h fs k = each_filter IsKind (λ (f : Fact). not (eqb f.temp t)) fs k
  kind_behind temps t (Some n) h fs k = by (ltb t temps)
    where
      by : (b : Bool) → Kind (cond b (without t (newest fs) ++ record { temp = t; number = n } ∷ []) (without t fs))
      by true = each_append IsKind (without t (newest fs)) (record { temp = t; number = n } ∷ []) (each_filter IsKind (λ (f : Fact). not (eqb f.temp t)) (newest fs) (each_drop IsKind (length fs - 31) fs k)) (h n refl, tt)
      by false = each_filter IsKind (λ (f : Fact). not (eqb f.temp t)) fs k

  kind_with : (f : List Fact → List Fact) → ((fs : List Fact) → Kind fs → Kind (f fs)) → (r : Reach) → Kind (known r) → Kind (known (with_facts f r))
  kind_with f h Never k = tt
  kind_with f h (Knowing fs) k = h fs k

  kind_meet : (a b : Reach) → Kind (known a) → Kind (known b) → Kind (known (meet a b))
  kind_meet Never b h k = k
  kind_meet (Knowing fs) Never h k = h
  kind_meet (Knowing fs) (Knowing gs) h k = each_filter IsKind (λ (f : Fact). is_number (number_of gs f.temp) f.number) fs h

  kind_looked : (n : ℕ) (r : Reach) (written : ℕ → Bool) (fs : List Fact) → Kind (known r) → Kind fs → Kind (known (looked n r written fs))
  kind_looked zero r written fs h k = h
  kind_looked (suc n) r written fs h k = each_filter IsKind (λ (f : Fact). not (written f.temp)) fs k

  kind_start : (l : Within) (b : List Step) (r : Reach) → Kind (known l.start) → Kind (known r) → Kind (known (start_of l b r))
  kind_start l b Never h k = tt
  kind_start l b (Knowing fs) h k = kind_looked l.looks l.start (written_in b) fs h k

  -- ---- trees

  module _ (fs : List Fact) (kind : Kind fs) where
    number_kind : (gs : List Fact) → Kind gs → (t n : ℕ) → number_of gs t ≡ Some n → C n
    number_kind [] h t n e = absurd cc
    number_kind (g ∷ gs) h t n e = by (eqb g.temp t) e (number_kind gs h.1 t n)
      where
        by : (b : Bool) → cond b (Some g.number) (number_of gs t) ≡ Some n → (number_of gs t ≡ Some n → C n) → C n
        by true e rest = let same : g.number ≡ n = cc in subst C same h.0
        by false e rest = rest e

    abbrev KnownNames : Tree → Type 0
    KnownNames t = TreeNames F K C t → TreeNames F K C (known_tree fs t)

    read_names : (t : ℕ) (o : Option ℕ) → number_of fs t ≡ o → TreeNames F K C (number_or o t)
    read_names t None e = tree_in F K C (tree.Temp t) tt
    read_names t (Some n) e = tree_in F K C (tree.Number n) (number_kind fs kind t n e)

    node : (x : Tree-F Tree) → TreeChildren KnownNames x → TreeParts F K C x → TreeNames F K C (known_node fs (map-Tree Tree Tree (known_tree fs) x))
    node (tree.Number n) h p = tree_in F K C (tree.Number n) p
    node (tree.Temp t) h p = read_names t (number_of fs t) refl
    node (tree.Global g) h p = tree_in F K C (tree.Global g) tt
    node (tree.Function f) h p = tree_in F K C (tree.Function f) p
    node (tree.Unary o a) h p = tree_in F K C (tree.Unary o (known_tree fs a)) (h p)
    node (tree.Binary o a b) h p = tree_in F K C (tree.Binary o (known_tree fs a) (known_tree fs b)) (h.0 p.0, h.1 p.1)
    node (tree.Narrow k a) h p = tree_in F K C (tree.Narrow k (known_tree fs a)) (h p)

    known_names : (t : Tree) → KnownNames t
    known_names = tree_ind KnownNames (λ x h n. subst (TreeNames F K C) (sym (known_tree_roll fs x)) (node x h (tree_out F K C x n)))

    tree_names : (t : Tree) → TreeNames F K C t → TreeNames F K C (carried_tree fs t)
    tree_names t n = tree_kept F K C closed (known_tree fs t) (known_names t n)

    trees_names : (ts : List Tree) → Each (TreeNames F K C) ts → Each (TreeNames F K C) (map (carried_tree fs) ts)
    trees_names [] h = tt
    trees_names (t ∷ ts) h = (tree_names t h.0, trees_names ts h.1)

    callee_names : (f : Callee) → CalleeNames F K C f → CalleeNames F K C (carried_callee fs f)
    callee_names (callee.Direct f) n = n
    callee_names (callee.Through t) n = tree_names t n
    callee_names (callee.Switched g) n = tt
    callee_names callee.Expanded n = tt

  -- ---- statements

  record WalkNames (w : Walk) : Type 0 where
    code : CodeNames F K C w.code
    here : Kind (known w.here)
    left : Kind (known w.left)
    far : Kind (known w.far)

  abbrev IsStep : Stm → Type 0
  IsStep s = (temps : ℕ) (l : Within) → Kind (known l.start) → StmNames F K C s → (w : Walk) → WalkNames w → WalkNames ((step temps s).walk l w)

  kids : (temps : ℕ) (l : Within) → Kind (known l.start) → (b : List Stm) → Each IsStep b → CodeNames F K C b → (w : Walk) → WalkNames w → WalkNames (in_order l (map (step temps) b) w)
  kids temps l c [] h n w k = k
  kids temps l c (s ∷ b) h n w k = kids temps l c b h.1 n.1 ((step temps s).walk l w) (h.0 temps l c n.0 w k)

  list_names : (temps : ℕ) (l : Within) → Kind (known l.start) → (r : Reach) (b : List Stm) → Each IsStep b → CodeNames F K C b → Kind (known r) → WalkNames (carried_code temps l r b)
  list_names temps l c r b h n k = kids temps l c b h n (begun r) (record { code = tt; here = k; left = tt; far = tt })

  one_more : (w : Walk) (x : Stm-F Stm) → StmParts F K C x → WalkNames w → CodeNames F K C (w.code ++ roll-Stm x ∷ [])
  one_more w x p k = each_append (StmNames F K C) w.code (roll-Stm x ∷ []) k.code (stm_in F K C x p, tt)

  add : (w : Walk) (x : Stm-F Stm) → StmParts F K C x → WalkNames w → WalkNames (put (roll-Stm x) w)
  add w x p k = record { code = one_more w x p k; here = k.here; left = k.left; far = k.far }

  wrote_names : (t : ℕ) (w : Walk) → WalkNames w → WalkNames (record w { here = with_facts (without t) w.here })
  wrote_names t w k = record { code = k.code; here = kind_with (without t) (λ fs h. each_filter IsKind (λ (f : Fact). not (eqb f.temp t)) fs h) w.here k.here; left = k.left; far = k.far }

  result_names : (t : Option ℕ) (w : Walk) → WalkNames w → WalkNames (wrote_result t w)
  result_names None w k = k
  result_names (Some t) w k = wrote_names t w k

  jumped_names : (w : Walk) → WalkNames w → WalkNames (jumped w)
  jumped_names w k = record { code = k.code; here = tt; left = k.left; far = k.far }

  leaves_names : (n : ℕ) (w : Walk) → WalkNames w → WalkNames (leaves n w)
  leaves_names zero w k = record { code = k.code; here = k.here; left = kind_meet w.left w.here k.left k.here; far = k.far }
  leaves_names (suc n) w k = record { code = k.code; here = k.here; left = k.left; far = kind_meet w.far w.here k.far k.here }

  around_names : (w : Walk) (x : Stm-F Stm) (here left far : Reach) → StmParts F K C x → Kind (known here) → Kind (known left) → Kind (known far) → WalkNames w → WalkNames (around (roll-Stm x) here left far w)
  around_names w x here left far p h l f k = record { code = one_more w x p k; here = h; left = kind_meet w.left left k.left l; far = kind_meet w.far far k.far f }

  chosen_names : (c : Option ℕ) (t : Tree) (a b w : Walk) → TreeNames F K C t → WalkNames a → WalkNames b → WalkNames w → WalkNames (chosen c t a b w)
  chosen_names None t a b w n ha hb k = around_names w (stm.If t a.code b.code) _ _ _ (n, ha.code, hb.code) (kind_meet a.here b.here ha.here hb.here) (kind_meet a.left b.left ha.left hb.left) (kind_meet a.far b.far ha.far hb.far) k
  chosen_names (Some zero) t a b w n ha hb k = around_names w (stm.If t a.code b.code) _ _ _ (n, ha.code, hb.code) hb.here hb.left hb.far k
  chosen_names (Some (suc m)) t a b w n ha hb k = around_names w (stm.If t a.code b.code) _ _ _ (n, ha.code, hb.code) ha.here ha.left ha.far k

  learned_names : (temps t : ℕ) (v : Tree) (w : Walk) → TreeNames F K C v → WalkNames w → WalkNames (learned temps t (constant v) w)
  learned_names temps t v w n k = record { code = k.code; here = kind_with (behind_write temps t (constant v)) (kind_behind temps t (constant v) (constant_names F K C closed v n)) w.here k.here; left = k.left; far = k.far }

  layer : (temps : ℕ) (l : Within) → Kind (known l.start) → (x : Stm-F Stm) → StmChildren IsStep x → StmParts F K C x → (w : Walk) → WalkNames w → WalkNames (carried_layer temps (map-Stm Stm Step (step temps) x) l w)
  layer temps l c (stm.Set t v) h p w k =
      let u = carried_tree (known w.here) v in
      let n = tree_names (known w.here) k.here v p in
      add (learned temps t (constant u) w) (stm.Set t u) n (learned_names temps t u w n k)
  layer temps l c (stm.SetGlobal g v) h p w k = add w (stm.SetGlobal g _) (tree_names (known w.here) k.here v p) k
  layer temps l c (stm.Divide t o a b) h p w k = add _ (stm.Divide t o _ _) (tree_names (known w.here) k.here a p.0, tree_names (known w.here) k.here b p.1) (wrote_names t w k)
  layer temps l c (stm.Check r i) h p w k = add w (stm.Check r _) (tree_names (known w.here) k.here i p) k
  layer temps l c (stm.Read t r i) h p w k = add _ (stm.Read t r _) (tree_names (known w.here) k.here i p) (wrote_names t w k)
  layer temps l c (stm.Write r i v) h p w k = add w (stm.Write r _ _) (tree_names (known w.here) k.here i p.0, tree_names (known w.here) k.here v p.1) k
  layer temps l c (stm.Zero a) h p w k = add w (stm.Zero a) tt k
  layer temps l c (stm.If t a b) h p w k =
      let u = carried_tree (known w.here) t in
      chosen_names (constant u) u (carried_code temps l w.here a) (carried_code temps l w.here b) w (tree_names (known w.here) k.here t p.0) (list_names temps l c w.here a h.0 p.1 k.here) (list_names temps l c w.here b h.1 p.2 k.here) k
  layer temps l c (stm.Loop b) h p w k =
      let r = start_of l (map (step temps) b) w.here in
      let start = kind_start l (map (step temps) b) w.here c k.here in
      let turn = list_names temps (inner l r) start r b h p start in
      around_names w (stm.Loop (carried_code temps (inner l r) r b).code) _ _ _ turn.code turn.left turn.far turn.far k
  layer temps l c (stm.Block b) h p w k =
      let body = carried_code temps l w.here b in
      let names = list_names temps l c w.here b h p k.here in
      around_names w (stm.Block body.code) _ _ _ names.code (kind_meet body.here body.left names.here names.left) names.far names.far k
  layer temps l c (stm.Break n) h p w k = add _ (stm.Break n) tt (jumped_names (leaves n w) (leaves_names n w k))
  layer temps l c (stm.Back n) h p w k = add _ (stm.Back n) tt (jumped_names w k)
  layer temps l c (stm.Call t f args) h p w k = add _ (stm.Call t _ _) (callee_names (known w.here) k.here f p.0, trees_names (known w.here) k.here args p.1) (result_names t w k)
  layer temps l c (stm.Known t n args) h p w k = add _ (stm.Known t n _) (p.0, trees_names (known w.here) k.here args p.1) (result_names t w k)
  layer temps l c (stm.Return v) h p w k = add _ (stm.Return _) (tree_names (known w.here) k.here v p) (jumped_names w k)

  stm_names : (s : Stm) → IsStep s
  stm_names = stm_ind IsStep (λ x h temps l c n w k. subst WalkNames (sym (walk_roll temps x l w)) (layer temps l c x h (stm_out F K C x n) w k))

  pub carried_names : (temps : ℕ) (code : List Stm) → CodeNames F K C code → CodeNames F K C (carried_code temps outermost (Knowing []) code).code
  carried_names temps code n = (list_names temps outermost tt (Knowing []) code (stms_ind IsStep stm_names code) n tt).code
