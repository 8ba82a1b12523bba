-- No set is left of a temporary that no statement reads.
use Rattle.std.proofs.Math.Bool.{or_assoc}
use Rattle.std.proofs.Common.{arith, ◌≡◌, ℕ, Bool, true, false, cond, eqb, ◌&&◌, ◌||◌, List, [], ◌∷◌, ◌++◌, map, Option, Some, None, refl, sym, ◌∙◌, ap, append-nil}
use Rattle.mv_ir.specs.declared.tree.Tree.{Tree}
use Rattle.mv_ir.specs.declared.tree.Tree.TheOpen.{Tree-F}
use Rattle.mv_ir.specs.declared.tree.Tree.TheOpen as tree
use Rattle.mv_ir.specs.declared.tree.Tree.TheFolds.{map-Tree}
use Rattle.mv_ir.specs.declared.stm.Stm.{Stm}
use Rattle.mv_ir.specs.declared.stm.Stm.TheOpen.{Stm-F}
use Rattle.mv_ir.specs.declared.stm.Stm.TheOpen as stm
use Rattle.mv_ir.specs.declared.stm.Stm.TheViews.{roll-Stm}
use Rattle.mv_ir.specs.declared.stm.Stm.TheFolds.{fold-roll-Stm, map-Stm}
use Rattle.mv_ir.specs.Measures.{total, callee_trees, layer_trees, stm_trees, trees}
use Rattle.mv_ir.specs.Live.{layer_reads_temp, reads_temp, any_reads}
use Rattle.mv_ir.proofs.Induction.{Each, TreeChildren, tree_ind, StmChildren}
use Rattle.mv_ir.proofs.Rolls.{trees_roll, reads_temp_roll}
use Rattle.mv_ir.proofs.Keeping.{map_append}
use Rattle.mv_ir.proofs.Joining.{total_append, any_reads_append, trees_append}
use Rattle.mv_fold.specs.declared.uses.Use.{Use}
use Rattle.mv_fold.specs.Simple.{alone}
use Rattle.mv_fold.specs.Needed.{layer_tree_uses, tree_uses, trees_uses, layer_uses, stm_uses, code_uses, counts, used_in, IsNeeded, needed_layer, needed_stm, needed_code}
use Rattle.mv_fold.specs.Form.{layer_unread, unread}
use Rattle.mv_fold.proofs.NeededEquations.{tree_uses_roll, stm_uses_roll, each_left}
use Rattle.mv_num.proofs.Booleans.{or_false, and_false}

module _ (needed : ℕ → Bool) (t : ℕ) where
  used_append : (xs ys : List Use) → used_in needed (xs ++ ys) t ≡ (used_in needed xs t || used_in needed ys t)
  used_append [] ys = refl
  used_append (x ∷ xs) ys = ap (λ b. (counts needed x.user && eqb x.used t) || b) (used_append xs ys) ∙ sym (or_assoc _ (used_in needed xs t) (used_in needed ys t))

  -- ---- what a tree reads for a user that counts, it uses

  module _ (user : Option ℕ) where
    abbrev IsRead : Tree → Type 0
    IsRead x = used_in needed (tree_uses user x) t ≡ (counts needed user && reads_temp t x)

    both : (c a b : Bool) → ((c && a) || (c && b)) ≡ (c && (a || b))
    both true a b = refl
    both false a b = refl

    read_layer : (x : Tree-F Tree) → TreeChildren IsRead x → used_in needed (layer_tree_uses user (map-Tree Tree (List Use) (tree_uses user) x)) t ≡ (counts needed user && layer_reads_temp t (map-Tree Tree Bool (reads_temp t) x))
    read_layer (tree.Number n) h = sym (and_false (counts needed user))
    read_layer (tree.Temp n) h = or_false (counts needed user && eqb n t)
    read_layer (tree.Global n) h = sym (and_false (counts needed user))
    read_layer (tree.Function n) h = sym (and_false (counts needed user))
    read_layer (tree.Unary o x) h = h
    read_layer (tree.Binary o x y) h =
        used_append (tree_uses user x) (tree_uses user y) ∙ ap (λ b. b || used_in needed (tree_uses user y) t) h.0 ∙ ap (λ b. (counts needed user && reads_temp t x) || b) h.1 ∙ both (counts needed user) (reads_temp t x) (reads_temp t y)
    read_layer (tree.Narrow k x) h = h

    tree_read : (x : Tree) → IsRead x
    tree_read = tree_ind IsRead (λ x h. ap (λ l. used_in needed l t) (tree_uses_roll user x) ∙ read_layer x h ∙ ap (λ b. counts needed user && b) (sym (reads_temp_roll t x)))

  one_read : (x : Tree) → used_in needed (tree_uses None x) t ≡ any_reads t (x ∷ [])
  one_read x = tree_read None x ∙ sym (or_false (reads_temp t x))

  two_read : (x y : Tree) → used_in needed (tree_uses None x ++ tree_uses None y) t ≡ any_reads t (x ∷ y ∷ [])
  two_read x y = used_append (tree_uses None x) (tree_uses None y) ∙ ap (λ b. b || used_in needed (tree_uses None y) t) (tree_read None x) ∙ ap (λ b. reads_temp t x || b) (one_read y)

  many_read : (xs : List Tree) → used_in needed (trees_uses xs) t ≡ any_reads t xs
  many_read [] = refl
  many_read (x ∷ xs) = used_append (tree_uses None x) (trees_uses xs) ∙ ap (λ b. b || used_in needed (trees_uses xs) t) (tree_read None x) ∙ ap (λ b. reads_temp t x || b) (many_read xs)

  -- ---- what is used is read in the code that is left

  abbrev read_in : List Stm → Bool
  read_in code = any_reads t (trees code)

  abbrev IsLeft : Stm → Type 0
  IsLeft s = used_in needed (stm_uses s) t ≡ read_in (needed_stm needed s)

  kids_left : (b : List Stm) → Each IsLeft b → used_in needed (code_uses b) t ≡ read_in (needed_code needed b)
  kids_left [] h = refl
  kids_left (s ∷ b) h =
      used_append (stm_uses s) (code_uses b) ∙ ap (λ c. c || used_in needed (code_uses b) t) h.0 ∙ ap (λ c. read_in (needed_stm needed s) || c) (kids_left b h.1) ∙
      sym (any_reads_append t (trees (needed_stm needed s)) (trees (needed_code needed b))) ∙ ap (any_reads t) (sym (trees_append (needed_stm needed s) (needed_code needed b)))

  alone_reads : (x : Stm-F Stm) → any_reads t (layer_trees (map-Stm Stm (List Tree) stm_trees x)) ≡ read_in (alone x)
  alone_reads x = ap (any_reads t) (sym (trees_roll x)) ∙ ap (any_reads t) (sym (append-nil (stm_trees (roll-Stm x))))

  set_left : (u : ℕ) (v : Tree) (c : Bool) → needed u ≡ c → used_in needed (tree_uses (Some u) v) t ≡ read_in (cond c (alone (stm.Set u v)) [])
  set_left u v true e = tree_read (Some u) v ∙ ap (λ c. c && reads_temp t v) e ∙ sym (or_false (reads_temp t v)) ∙ alone_reads (stm.Set u v)
  set_left u v false e = tree_read (Some u) v ∙ ap (λ c. c && reads_temp t v) e

  left_layer : (x : Stm-F Stm) → StmChildren IsLeft x → used_in needed (layer_uses (map-Stm Stm (List Use) stm_uses x)) t ≡ read_in (needed_layer needed (map-Stm Stm (List Stm) (needed_stm needed) x))
  left_layer (stm.Set u v) h = set_left u v (needed u) refl
  left_layer (stm.SetGlobal g v) h = one_read v ∙ alone_reads (stm.SetGlobal g v)
  left_layer (stm.Divide u o a b) h = two_read a b ∙ alone_reads (stm.Divide u o a b)
  left_layer (stm.Check a i) h = one_read i ∙ alone_reads (stm.Check a i)
  left_layer (stm.Read u a i) h = one_read i ∙ alone_reads (stm.Read u a i)
  left_layer (stm.Write a i v) h = two_read i v ∙ alone_reads (stm.Write a i v)
  left_layer (stm.Zero l) h = alone_reads (stm.Zero l)
  left_layer (stm.If x a b) h =
      used_append (tree_uses None x) (code_uses a ++ code_uses b) ∙ ap (λ c. c || used_in needed (code_uses a ++ code_uses b) t) (tree_read None x) ∙
      ap (λ c. reads_temp t x || c)
      (used_append (code_uses a) (code_uses b) ∙ ap (λ c. c || used_in needed (code_uses b) t) (kids_left a h.0) ∙
      ap (λ c. read_in (needed_code needed a) || c) (kids_left b h.1) ∙
      sym (any_reads_append t (trees (needed_code needed a)) (trees (needed_code needed b)))) ∙
      alone_reads (stm.If x (needed_code needed a) (needed_code needed b))
  left_layer (stm.Loop b) h = kids_left b h ∙ alone_reads (stm.Loop (needed_code needed b))
  left_layer (stm.Block b) h = kids_left b h ∙ alone_reads (stm.Block (needed_code needed b))
  left_layer (stm.Break n) h = alone_reads (stm.Break n)
  left_layer (stm.Back n) h = alone_reads (stm.Back n)
  left_layer (stm.Call r f args) h =
      used_append (trees_uses (callee_trees f)) (trees_uses args) ∙ ap (λ c. c || used_in needed (trees_uses args) t) (many_read (callee_trees f)) ∙ ap (λ c. any_reads t (callee_trees f) || c) (many_read args) ∙
      sym (any_reads_append t (callee_trees f) args) ∙ alone_reads (stm.Call r f args)
  left_layer (stm.Known r k args) h = many_read args ∙ alone_reads (stm.Known r k args)
  left_layer (stm.Return v) h = one_read v ∙ alone_reads (stm.Return v)

  pub used_is_read : (code : List Stm) → used_in needed (code_uses code) t ≡ any_reads t (trees (needed_code needed code))
  used_is_read code = kids_left code (each_left needed (λ s left. used_in needed (stm_uses s) t ≡ read_in left) (λ x h. ap (λ l. used_in needed l t) (stm_uses_roll x) ∙ left_layer x h) code)

-- ---- sets of what is needed alone

pub unread_roll : (all : List Tree) (x : Stm-F Stm) → unread all (roll-Stm x) ≡ layer_unread all (map-Stm Stm ℕ (unread all) x)
unfolding unread
unread_roll all x = fold-roll-Stm ℕ (layer_unread all) x

module _ (needed : ℕ → Bool) (all : List Tree) (every : (t : ℕ) → needed t ≡ true → any_reads t all ≡ true) where
  abbrev unread_in : List Stm → ℕ
  unread_in code = total (map (unread all) code)

  abbrev IsReadBy : Stm → Type 0
  IsReadBy s = unread_in (needed_stm needed s) ≡ 0

  kids_none : (b : List Stm) → Each IsReadBy b → unread_in (needed_code needed b) ≡ 0
  kids_none [] h = refl
  kids_none (s ∷ b) h =
      omega (arith, h.0, kids_none b h.1, ap total (map_append (unread all) (needed_stm needed s) (needed_code needed b)), total_append (map (unread all) (needed_stm needed s)) (map (unread all) (needed_code needed b)))

  leaf_none : (x : Stm-F Stm) → layer_unread all (map-Stm Stm ℕ (unread all) x) ≡ 0 → unread_in (alone x) ≡ 0
  leaf_none x e = omega (arith, unread_roll all x, e)

  set_none : (t : ℕ) (v : Tree) (c : Bool) → needed t ≡ c → unread_in (cond c (alone (stm.Set t v)) []) ≡ 0
  set_none t v true e = leaf_none (stm.Set t v) (ap (λ c. cond c 0 1) (every t e))
  set_none t v false e = refl

  none_layer : (x : Stm-F Stm) → StmChildren IsReadBy x → unread_in (needed_layer needed (map-Stm Stm (List Stm) (needed_stm needed) x)) ≡ 0
  none_layer (stm.Set t v) h = set_none t v (needed t) refl
  none_layer (stm.SetGlobal g v) h = leaf_none (stm.SetGlobal g v) refl
  none_layer (stm.Divide t o a b) h = leaf_none (stm.Divide t o a b) refl
  none_layer (stm.Check a i) h = leaf_none (stm.Check a i) refl
  none_layer (stm.Read t a i) h = leaf_none (stm.Read t a i) refl
  none_layer (stm.Write a i v) h = leaf_none (stm.Write a i v) refl
  none_layer (stm.Zero l) h = leaf_none (stm.Zero l) refl
  none_layer (stm.If t a b) h = leaf_none (stm.If t (needed_code needed a) (needed_code needed b)) (omega (arith, kids_none a h.0, kids_none b h.1))
  none_layer (stm.Loop b) h = leaf_none (stm.Loop (needed_code needed b)) (kids_none b h)
  none_layer (stm.Block b) h = leaf_none (stm.Block (needed_code needed b)) (kids_none b h)
  none_layer (stm.Break n) h = leaf_none (stm.Break n) refl
  none_layer (stm.Back n) h = leaf_none (stm.Back n) refl
  none_layer (stm.Call r f args) h = leaf_none (stm.Call r f args) refl
  none_layer (stm.Known r k args) h = leaf_none (stm.Known r k args) refl
  none_layer (stm.Return v) h = leaf_none (stm.Return v) refl

  none_in : (code : List Stm) → unread_in (needed_code needed code) ≡ 0
  none_in code = kids_none code (each_left needed (λ s left. unread_in left ≡ 0) none_layer code)

pub none_unread : (needed : ℕ → Bool) (code : List Stm) → IsNeeded needed (code_uses code) → total (map (unread (trees (needed_code needed code))) (needed_code needed code)) ≡ 0
none_unread needed code h = none_in needed (trees (needed_code needed code)) (λ t e. sym (used_is_read needed t code) ∙ sym (h t) ∙ e) code
