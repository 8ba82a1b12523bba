-- What holds of a statement and of what it becomes where other trees take the place of its own holds of code and what carrying gives of it.
use Rattle.std.proofs.Common.{◌≡◌, ℕ, zero, suc, List, [], ◌∷◌, ◌++◌, map, Option, Some, None, refl, sym, subst, append-nil, append_assoc}
use Rattle.mv_ast.specs.declared.program.Known.{Known}
use Rattle.mv_ir.specs.declared.tree.Tree.{Tree}
use Rattle.mv_ir.specs.declared.stm.Array.{Array}
use Rattle.mv_ir.specs.declared.stm.Callee.{Callee}
use Rattle.mv_ir.specs.declared.stm.Stm.{Stm}
use Rattle.mv_ir.specs.declared.stm.Stm.TheOpen.{Stm-F}
use Rattle.mv_ir.specs.declared.stm.Stm.TheOpen as stm
use Rattle.mv_ir.specs.declared.stm.Stm.TheViews.{roll-Stm}
use Rattle.mv_ir.specs.declared.stm.Stm.TheFolds.{map-Stm}
use Rattle.mv_ir.proofs.Induction.{Each, StmChildren, stm_ind, stms_ind}
use Rattle.mv_fold.specs.Simple.{constant, alone}
use Rattle.mv_carry.specs.declared.facts.Fact.{Fact}
use Rattle.mv_carry.specs.declared.facts.Reach.{Reach}
use Rattle.mv_carry.specs.declared.walk.Within.{Within}
use Rattle.mv_carry.specs.declared.walk.Walk.{Walk}
use Rattle.mv_carry.specs.Facts.{known}
use Rattle.mv_carry.specs.Carrying.{carried_tree, carried_callee, begun, put, wrote_result, jumped, leaves, chosen, inner, Step, in_order, start_of, carried_layer, step, carried_code}
use Rattle.mv_carry.proofs.Equations.{walk_roll}

pub record IsClosed (Q : List Stm → List Stm → Type 0) : Type 0 where
  pub none : Q [] []
  pub both : (xs xs' ys ys' : List Stm) → Q xs xs' → Q ys ys' → Q (xs ++ ys) (xs' ++ ys')
  pub set : (fs : List Fact) (t : ℕ) (v : Tree) → Q (alone (stm.Set t v)) (alone (stm.Set t (carried_tree fs v)))
  pub store : (fs : List Fact) (g : ℕ) (v : Tree) → Q (alone (stm.SetGlobal g v)) (alone (stm.SetGlobal g (carried_tree fs v)))
  pub divide : (fs : List Fact) (t o : ℕ) (a b : Tree) → Q (alone (stm.Divide t o a b)) (alone (stm.Divide t o (carried_tree fs a) (carried_tree fs b)))
  pub check : (fs : List Fact) (r : Array) (i : Tree) → Q (alone (stm.Check r i)) (alone (stm.Check r (carried_tree fs i)))
  pub read : (fs : List Fact) (t : ℕ) (r : Array) (i : Tree) → Q (alone (stm.Read t r i)) (alone (stm.Read t r (carried_tree fs i)))
  pub write : (fs : List Fact) (r : Array) (i v : Tree) → Q (alone (stm.Write r i v)) (alone (stm.Write r (carried_tree fs i) (carried_tree fs v)))
  pub zeroed : (l : ℕ) → Q (alone (stm.Zero l)) (alone (stm.Zero l))
  pub branch : (fs : List Fact) (t : Tree) (a a' b b' : List Stm) → Q a a' → Q b b' → Q (alone (stm.If t a b)) (alone (stm.If (carried_tree fs t) a' b'))
  pub loop : (b b' : List Stm) → Q b b' → Q (alone (stm.Loop b)) (alone (stm.Loop b'))
  pub block : (b b' : List Stm) → Q b b' → Q (alone (stm.Block b)) (alone (stm.Block b'))
  pub break : (n : ℕ) → Q (alone (stm.Break n)) (alone (stm.Break n))
  pub back : (n : ℕ) → Q (alone (stm.Back n)) (alone (stm.Back n))
  pub call : (fs : List Fact) (t : Option ℕ) (f : Callee) (args : List Tree) → Q (alone (stm.Call t f args)) (alone (stm.Call t (carried_callee fs f) (map (carried_tree fs) args)))
  pub known : (fs : List Fact) (t : Option ℕ) (k : Known) (args : List Tree) → Q (alone (stm.Known t k args)) (alone (stm.Known t k (map (carried_tree fs) args)))
  pub return : (fs : List Fact) (v : Tree) → Q (alone (stm.Return v)) (alone (stm.Return (carried_tree fs v)))

module _ (temps : ℕ) (Q : List Stm → List Stm → Type 0) (q : IsClosed Q) where
  -- whatever code a walk has come by
  abbrev IsStep : Stm → Type 0
  IsStep s = (l : Within) (done : List Stm) (w : Walk) → Q done w.code → Q (done ++ s ∷ []) ((step temps s).walk l w).code

  kids : (b : List Stm) → Each IsStep b → (l : Within) (done : List Stm) (w : Walk) → Q done w.code → Q (done ++ b) (in_order l (map (step temps) b) w).code
  kids [] h l done w k = subst (λ c. Q c w.code) (sym (append-nil done)) k
  kids (s ∷ b) h l done w k =
      subst (λ c. Q c (in_order l (map (step temps) b) ((step temps s).walk l w)).code) (append_assoc done (s ∷ []) b) (kids b h.1 l (done ++ s ∷ []) ((step temps s).walk l w) (h.0 l done w k))

  all : (l : Within) (r : Reach) (b : List Stm) → Each IsStep b → Q b (carried_code temps l r b).code
  all l r b h = kids b h l [] (begun r) q.none

  same_code : (t : Option ℕ) (w : Walk) → (wrote_result t w).code ≡ w.code
  same_code None w = refl
  same_code (Some t) w = refl

  more : (done : List Stm) (w : Walk) (x y : Stm-F Stm) → Q done w.code → Q (alone x) (alone y) → Q (done ++ roll-Stm x ∷ []) (w.code ++ roll-Stm y ∷ [])
  more done w x y k h = q.both done w.code (alone x) (alone y) k h

  result : (t : Option ℕ) (done : List Stm) (w : Walk) (x y : Stm-F Stm) → Q done w.code → Q (alone x) (alone y) → Q (done ++ roll-Stm x ∷ []) (put (roll-Stm y) (wrote_result t w)).code
  result t done w x y k h = subst (λ c. Q (done ++ roll-Stm x ∷ []) (c ++ roll-Stm y ∷ [])) (sym (same_code t w)) (more done w x y k h)

  choice : (c : Option ℕ) (done : List Stm) (w : Walk) (t u : Tree) (a b : List Stm) (a' b' : Walk) → Q done w.code →
      Q (alone (stm.If t a b)) (alone (stm.If u a'.code b'.code)) → Q (done ++ roll-Stm (stm.If t a b) ∷ []) (chosen c u a' b' w).code
  choice None done w t u a b a' b' k h = more done w (stm.If t a b) (stm.If u a'.code b'.code) k h
  choice (Some zero) done w t u a b a' b' k h = more done w (stm.If t a b) (stm.If u a'.code b'.code) k h
  choice (Some (suc n)) done w t u a b a' b' k h = more done w (stm.If t a b) (stm.If u a'.code b'.code) k h

  left : (n : ℕ) (done : List Stm) (w : Walk) → Q done w.code → Q (done ++ roll-Stm (stm.Break n) ∷ []) (put (roll-Stm (stm.Break n)) (jumped (leaves n w))).code
  left zero done w k = more done w (stm.Break 0) (stm.Break 0) k (q.break 0)
  left (suc n) done w k = more done w (stm.Break (suc n)) (stm.Break (suc n)) k (q.break (suc n))

  layer : (x : Stm-F Stm) → StmChildren IsStep x → (l : Within) (done : List Stm) (w : Walk) → Q done w.code → Q (done ++ roll-Stm x ∷ []) (carried_layer temps (map-Stm Stm Step (step temps) x) l w).code
  layer (stm.Set t v) h l done w k = more done w (stm.Set t v) (stm.Set t _) k (q.set (known w.here) t v)
  layer (stm.SetGlobal g v) h l done w k = more done w (stm.SetGlobal g v) (stm.SetGlobal g _) k (q.store (known w.here) g v)
  layer (stm.Divide t o a b) h l done w k = more done w (stm.Divide t o a b) (stm.Divide t o _ _) k (q.divide (known w.here) t o a b)
  layer (stm.Check r i) h l done w k = more done w (stm.Check r i) (stm.Check r _) k (q.check (known w.here) r i)
  layer (stm.Read t r i) h l done w k = more done w (stm.Read t r i) (stm.Read t r _) k (q.read (known w.here) t r i)
  layer (stm.Write r i v) h l done w k = more done w (stm.Write r i v) (stm.Write r _ _) k (q.write (known w.here) r i v)
  layer (stm.Zero a) h l done w k = more done w (stm.Zero a) (stm.Zero a) k (q.zeroed a)
  layer (stm.If t a b) h l done w k =
      let a' = carried_code temps l w.here a in
      let b' = carried_code temps l w.here b in
      choice (constant (carried_tree (known w.here) t)) done w t (carried_tree (known w.here) t) a b a' b' k (q.branch (known w.here) t a a'.code b b'.code (all l w.here a h.0) (all l w.here b h.1))
  layer (stm.Loop b) h l done w k =
      let r = start_of l (map (step temps) b) w.here in
      more done w (stm.Loop b) (stm.Loop (carried_code temps (inner l r) r b).code) k (q.loop b (carried_code temps (inner l r) r b).code (all (inner l r) r b h))
  layer (stm.Block b) h l done w k =
      let c = carried_code temps l w.here b in
      more done w (stm.Block b) (stm.Block c.code) k (q.block b c.code (all l w.here b h))
  layer (stm.Break n) h l done w k = left n done w k
  layer (stm.Back n) h l done w k = more done w (stm.Back n) (stm.Back n) k (q.back n)
  layer (stm.Call t f args) h l done w k = result t done w (stm.Call t f args) (stm.Call t _ _) k (q.call (known w.here) t f args)
  layer (stm.Known t n args) h l done w k = result t done w (stm.Known t n args) (stm.Known t n _) k (q.known (known w.here) t n args)
  layer (stm.Return v) h l done w k = more done w (stm.Return v) (stm.Return _) k (q.return (known w.here) v)

  pub carried_is : (l : Within) (r : Reach) (code : List Stm) → Q code (carried_code temps l r code).code
  carried_is l r code = all l r code (stms_ind IsStep (stm_ind IsStep (λ x h l done w k. subst (λ z. Q (done ++ roll-Stm x ∷ []) z.code) (sym (walk_roll temps x l w)) (layer x h l done w k))) code)
