-- A relation holds of code and the code with its end shortened, where it holds of each step of that.
use Rattle.std.proofs.Common.{◌≡◌, ℕ, ◌<◌, Bool, true, false, cond, ltb, List, [], ◌∷◌, None, refl, sym, ◌∙◌, ap, subst}
use Rattle.std.proofs.lemmas.Bool.{ltb-true}
use Rattle.mv_ir.specs.declared.tree.Tree.{Tree, out-Tree}
use Rattle.mv_ir.specs.declared.tree.Tree.TheOpen.{Tree-F}
use Rattle.mv_ir.specs.declared.tree.Tree.TheOpen as tree
use Rattle.mv_ir.specs.declared.tree.Tree.TheViews.{roll-Tree, roll-out-Tree}
use Rattle.mv_ir.specs.declared.stm.Stm.{Stm, out-Stm}
use Rattle.mv_ir.specs.declared.stm.Stm.TheOpen.{Stm-F}
use Rattle.mv_ir.specs.declared.stm.Stm.TheOpen as stm
use Rattle.mv_ir.specs.declared.stm.Stm.TheViews.{roll-Stm, roll-out-Stm}
use Rattle.mv_ir.specs.Rolled.{temp, set, set_global, return_with}
use Rattle.mv_fold.specs.Shortened.{layer_idles, idles, unless_idle, without_idle, layer_is_temp, is_temp, where_true, layer_taking, taking, layer_as_one, as_one, or_both, in_front, carried, shortened}
use Rattle.mv_fold.proofs.Ends.{idles_roll, is_temp_roll, taking_roll, as_one_roll}
use Rattle.std.proofs.lemmas.Map.Views.{exact_unsigned_eq}

-- a relation of code at the end of a body with so many temporaries
pub record Shortens (temps : ℕ) (P : List Stm → List Stm → Type 0) : Type 0 where
  pub same : (xs : List Stm) → P xs xs
  pub both : (xs ys zs : List Stm) → P xs ys → P ys zs → P xs zs
  pub behind : (s : Stm) (xs ys : List Stm) → P xs ys → P (s ∷ xs) (s ∷ ys)
  pub leave : (n : ℕ) → P (roll-Stm (stm.Break n) ∷ []) []
  pub unread : (t : ℕ) (v : Tree) → P (set t v ∷ []) []
  pub stored : (t g : ℕ) (v : Tree) → t < temps → P (set t v ∷ set_global g (temp t) ∷ []) (set_global g v ∷ [])
  pub returned : (t : ℕ) (v : Tree) → t < temps → P (set t v ∷ return_with (temp t) ∷ []) (return_with v ∷ [])

module _ (temps : ℕ) (P : List Stm → List Stm → Type 0) (h : Shortens temps P) where
  -- ---- a statement that does nothing at the end

  idle_rolled : (x : Stm-F Stm) → layer_idles x ≡ true → P (roll-Stm x ∷ []) []
  idle_rolled (stm.Break n) e = h.leave n
  idle_rolled (stm.Set t v) e = h.unread t v
  idle_rolled (stm.SetGlobal g v) e = let k : false ≡ true = e in absurd (cc)
  idle_rolled (stm.Divide t o a b) e = let k : false ≡ true = e in absurd (cc)
  idle_rolled (stm.Check a i) e = let k : false ≡ true = e in absurd (cc)
  idle_rolled (stm.Read t a i) e = let k : false ≡ true = e in absurd (cc)
  idle_rolled (stm.Write a i v) e = let k : false ≡ true = e in absurd (cc)
  idle_rolled (stm.Zero l) e = let k : false ≡ true = e in absurd (cc)
  idle_rolled (stm.If t a b) e = let k : false ≡ true = e in absurd (cc)
  idle_rolled (stm.Loop b) e = let k : false ≡ true = e in absurd (cc)
  idle_rolled (stm.Block b) e = let k : false ≡ true = e in absurd (cc)
  idle_rolled (stm.Back n) e = let k : false ≡ true = e in absurd (cc)
  idle_rolled (stm.Call r f args) e = let k : false ≡ true = e in absurd (cc)
  idle_rolled (stm.Known r k args) e = let k : false ≡ true = e in absurd (cc)
  idle_rolled (stm.Return v) e = let k : false ≡ true = e in absurd (cc)

  idle_gone : (s : Stm) (c : Bool) → idles s ≡ c → P (s ∷ []) (cond c [] (s ∷ []))
  idle_gone s false e = h.same (s ∷ [])
  idle_gone s true e = subst (λ u. P (u ∷ []) []) (roll-out-Stm s) (idle_rolled (out-Stm s) (sym (idles_roll (out-Stm s)) ∙ ap idles (roll-out-Stm s) ∙ e))

  unless_is : (s : Stm) (rest : List Stm) → P (s ∷ rest) (unless_idle s rest)
  unless_is s [] = idle_gone s (idles s) refl
  unless_is s (t ∷ ss) = h.same (s ∷ t ∷ ss)

  idle_is : (code : List Stm) → P code (without_idle code)
  idle_is [] = h.same []
  idle_is (s ∷ ss) = h.both (s ∷ ss) (s ∷ without_idle ss) (unless_idle s (without_idle ss)) (h.behind s ss (without_idle ss) (idle_is ss)) (unless_is s (without_idle ss))

  -- ---- a temporary

  temp_rolled : (t : ℕ) (x : Tree-F Tree) → layer_is_temp t x ≡ true → roll-Tree x ≡ temp t
  temp_rolled t (tree.Temp u) e = ap temp (exact_unsigned_eq u t e)
  temp_rolled t (tree.Number n) e = let k : false ≡ true = e in absurd (cc)
  temp_rolled t (tree.Global n) e = let k : false ≡ true = e in absurd (cc)
  temp_rolled t (tree.Function n) e = let k : false ≡ true = e in absurd (cc)
  temp_rolled t (tree.Unary o a) e = let k : false ≡ true = e in absurd (cc)
  temp_rolled t (tree.Binary o a b) e = let k : false ≡ true = e in absurd (cc)
  temp_rolled t (tree.Narrow k a) e = let k : false ≡ true = e in absurd (cc)

  a_temp : (t : ℕ) (x : Tree) → is_temp t x ≡ true → x ≡ temp t
  a_temp t x e = sym (roll-out-Tree x) ∙ temp_rolled t (out-Tree x) (sym (is_temp_roll t (out-Tree x)) ∙ ap (is_temp t) (roll-out-Tree x) ∙ e)

  -- ---- two statements as one

  module _ (t : ℕ) (v : Tree) (lt : t < temps) where
    stored_where : (g : ℕ) (x : Tree) (c : Bool) → is_temp t x ≡ c → P (set t v ∷ set_global g x ∷ []) (or_both (where_true c (stm.SetGlobal g v)) (set t v) (set_global g x))
    stored_where g x false e = h.same (set t v ∷ set_global g x ∷ [])
    stored_where g x true e = subst (λ y. P (set t v ∷ set_global g y ∷ []) (set_global g v ∷ [])) (sym (a_temp t x e)) (h.stored t g v lt)

    returned_where : (x : Tree) (c : Bool) → is_temp t x ≡ c → P (set t v ∷ return_with x ∷ []) (or_both (where_true c (stm.Return v)) (set t v) (return_with x))
    returned_where x false e = h.same (set t v ∷ return_with x ∷ [])
    returned_where x true e = subst (λ y. P (set t v ∷ return_with y ∷ []) (return_with v ∷ [])) (sym (a_temp t x e)) (h.returned t v lt)

    taking_rolled : (x : Stm-F Stm) → P (set t v ∷ roll-Stm x ∷ []) (or_both (layer_taking t v x) (set t v) (roll-Stm x))
    taking_rolled (stm.SetGlobal g x) = stored_where g x (is_temp t x) refl
    taking_rolled (stm.Return x) = returned_where x (is_temp t x) refl
    taking_rolled (stm.Set u x) = h.same (set t v ∷ roll-Stm (stm.Set u x) ∷ [])
    taking_rolled (stm.Divide u o a b) = h.same (set t v ∷ roll-Stm (stm.Divide u o a b) ∷ [])
    taking_rolled (stm.Check a i) = h.same (set t v ∷ roll-Stm (stm.Check a i) ∷ [])
    taking_rolled (stm.Read u a i) = h.same (set t v ∷ roll-Stm (stm.Read u a i) ∷ [])
    taking_rolled (stm.Write a i x) = h.same (set t v ∷ roll-Stm (stm.Write a i x) ∷ [])
    taking_rolled (stm.Zero l) = h.same (set t v ∷ roll-Stm (stm.Zero l) ∷ [])
    taking_rolled (stm.If u a b) = h.same (set t v ∷ roll-Stm (stm.If u a b) ∷ [])
    taking_rolled (stm.Loop b) = h.same (set t v ∷ roll-Stm (stm.Loop b) ∷ [])
    taking_rolled (stm.Block b) = h.same (set t v ∷ roll-Stm (stm.Block b) ∷ [])
    taking_rolled (stm.Break n) = h.same (set t v ∷ roll-Stm (stm.Break n) ∷ [])
    taking_rolled (stm.Back n) = h.same (set t v ∷ roll-Stm (stm.Back n) ∷ [])
    taking_rolled (stm.Call r f args) = h.same (set t v ∷ roll-Stm (stm.Call r f args) ∷ [])
    taking_rolled (stm.Known r k args) = h.same (set t v ∷ roll-Stm (stm.Known r k args) ∷ [])

    taken : (s : Stm) → P (set t v ∷ s ∷ []) (or_both (taking t v s) (set t v) s)
    taken s =
        subst (λ u. P (set t v ∷ u ∷ []) (or_both (taking t v u) (set t v) u)) (roll-out-Stm s)
        (subst (λ o. P (set t v ∷ roll-Stm (out-Stm s) ∷ []) (or_both o (set t v) (roll-Stm (out-Stm s)))) (sym (taking_roll t v (out-Stm s))) (taking_rolled (out-Stm s)))

  set_where : (t : ℕ) (v : Tree) (s : Stm) (c : Bool) → ltb t temps ≡ c → P (set t v ∷ s ∷ []) (or_both (cond c (taking t v s) None) (set t v) s)
  set_where t v s false e = h.same (set t v ∷ s ∷ [])
  set_where t v s true e = taken t v (ltb-true t temps e) s

  one_rolled : (x : Stm-F Stm) (s : Stm) → P (roll-Stm x ∷ s ∷ []) (or_both (layer_as_one temps x s) (roll-Stm x) s)
  one_rolled (stm.Set t v) s = set_where t v s (ltb t temps) refl
  one_rolled (stm.SetGlobal g v) s = h.same (roll-Stm (stm.SetGlobal g v) ∷ s ∷ [])
  one_rolled (stm.Divide t o a b) s = h.same (roll-Stm (stm.Divide t o a b) ∷ s ∷ [])
  one_rolled (stm.Check a i) s = h.same (roll-Stm (stm.Check a i) ∷ s ∷ [])
  one_rolled (stm.Read t a i) s = h.same (roll-Stm (stm.Read t a i) ∷ s ∷ [])
  one_rolled (stm.Write a i v) s = h.same (roll-Stm (stm.Write a i v) ∷ s ∷ [])
  one_rolled (stm.Zero l) s = h.same (roll-Stm (stm.Zero l) ∷ s ∷ [])
  one_rolled (stm.If t a b) s = h.same (roll-Stm (stm.If t a b) ∷ s ∷ [])
  one_rolled (stm.Loop b) s = h.same (roll-Stm (stm.Loop b) ∷ s ∷ [])
  one_rolled (stm.Block b) s = h.same (roll-Stm (stm.Block b) ∷ s ∷ [])
  one_rolled (stm.Break n) s = h.same (roll-Stm (stm.Break n) ∷ s ∷ [])
  one_rolled (stm.Back n) s = h.same (roll-Stm (stm.Back n) ∷ s ∷ [])
  one_rolled (stm.Call r f args) s = h.same (roll-Stm (stm.Call r f args) ∷ s ∷ [])
  one_rolled (stm.Known r k args) s = h.same (roll-Stm (stm.Known r k args) ∷ s ∷ [])
  one_rolled (stm.Return v) s = h.same (roll-Stm (stm.Return v) ∷ s ∷ [])

  one_is : (r s : Stm) → P (r ∷ s ∷ []) (or_both (as_one temps r s) r s)
  one_is r s =
      subst (λ u. P (u ∷ s ∷ []) (or_both (as_one temps u s) u s)) (roll-out-Stm r)
      (subst (λ o. P (roll-Stm (out-Stm r) ∷ s ∷ []) (or_both o (roll-Stm (out-Stm r)) s)) (sym (as_one_roll temps (out-Stm r) s)) (one_rolled (out-Stm r) s))

  front_is : (s : Stm) (rest : List Stm) → P (s ∷ rest) (in_front temps s rest)
  front_is s [] = h.same (s ∷ [])
  front_is s (t ∷ []) = one_is s t
  front_is s (t ∷ u ∷ ss) = h.same (s ∷ t ∷ u ∷ ss)

  carried_is : (code : List Stm) → P code (carried temps code)
  carried_is [] = h.same []
  carried_is (s ∷ ss) = h.both (s ∷ ss) (s ∷ carried temps ss) (in_front temps s (carried temps ss)) (h.behind s ss (carried temps ss) (carried_is ss)) (front_is s (carried temps ss))

  pub shortened_is : (code : List Stm) → P code (shortened temps code)
  shortened_is code = h.both code (without_idle code) (shortened temps code) (idle_is code) (carried_is (without_idle code))
