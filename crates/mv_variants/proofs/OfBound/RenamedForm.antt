-- Renaming temporaries keeps the folded form.
use Rattle.std.proofs.Common.{arith, ◌≡◌, ℕ, ◌+◌, ◌≤◌, Bool, true, false, cond, ◌||◌, List, [], ◌∷◌, map, refl, sym, ◌∙◌, ap, subst}
use Rattle.std.proofs.lemmas.Bool.{eq-eqb, eqb-true}
use Rattle.mv_ir.specs.declared.tree.Tree.{Tree, out-Tree}
use Rattle.mv_ir.specs.declared.tree.Tree.TheOpen.{Tree-F}
use Rattle.mv_ir.specs.declared.tree.Tree.TheOpen as tree
use Rattle.mv_ir.specs.declared.tree.Tree.TheViews.{roll-Tree, roll-out-Tree}
use Rattle.mv_ir.specs.declared.tree.Tree.TheFolds.{map-Tree}
use Rattle.mv_ir.specs.declared.stm.Stm.{Stm}
use Rattle.mv_ir.specs.declared.stm.Stm.TheOpen.{Stm-F}
use Rattle.mv_ir.specs.declared.stm.Stm.TheOpen as stm
use Rattle.mv_ir.specs.declared.stm.Stm.TheViews.{roll-Stm}
use Rattle.mv_ir.specs.declared.stm.Stm.TheFolds.{map-Stm}
use Rattle.mv_ir.specs.Measures.{total, trees}
use Rattle.mv_ir.specs.Live.{reads_temp, any_reads}
use Rattle.mv_ir.proofs.Induction.{Each, TreeChildren, tree_ind, StmChildren, stm_ind, stms_ind}
use Rattle.mv_ir.proofs.Rolls.{reads_temp_roll}
use Rattle.mv_fold.specs.Simple.{constant}
use Rattle.mv_fold.specs.Form.{layer_foldable, foldable, all_foldable, is_division, is_constant, layer_decided, decided, behind, layer_unreached, unreached, layer_unread, unread}
use Rattle.mv_fold.proofs.SimpleKept.{constant_roll}
use Rattle.mv_fold.proofs.FormKept.{decided_roll, unreached_roll, foldable_roll}
use Rattle.mv_regalloc.specs.Rename.{renamed_node, renamed_tree, renamed_stm, renamed_code}
use Rattle.mv_regalloc.proofs.Counts.{trees_renamed}
use Rattle.mv_regalloc.proofs.RenamedTrees.{renamed_tree_roll, renamed_stm_roll}
use Rattle.mv_variants.specs.Bound.Meant.{RenamingKeepsForm}
use Rattle.mv_variants.proofs.OfBound.Measures.{renamed_parts}
use Rattle.mv_fold.proofs.SetsNeeded.{unread_roll}

or_both : (a b a' b' : Bool) → (a ≡ true → a' ≡ true) → (b ≡ true → b' ≡ true) → (a || b) ≡ true → (a' || b') ≡ true
or_both true b a' b' f g h = ap (λ x. x || b') (f refl)
or_both false b true b' f g h = refl
or_both false b false b' f g h = g h

module _ (c : ℕ → ℕ) where
  abbrev new_tree : Tree-F Tree → Tree
  new_tree x = renamed_node c (map-Tree Tree Tree (renamed_tree c) x)

  -- ---- trees

  abbrev SameTree : Tree → Type 0
  SameTree t = foldable (renamed_tree c t) ≡ foldable t

  two : (p q p' q' : Bool × ℕ) → p ≡ p' → q ≡ q' → layer_foldable (tree.Binary 0 p q) ≡ layer_foldable (tree.Binary 0 p' q')
  two p q p' q' e f = ap (λ (r : Bool × ℕ). layer_foldable (tree.Binary 0 r q)) e ∙ ap (λ (r : Bool × ℕ). layer_foldable (tree.Binary 0 p' r)) f

  tree_layer : (x : Tree-F Tree) → TreeChildren SameTree x → foldable (new_tree x) ≡ layer_foldable (map-Tree Tree (Bool × ℕ) foldable x)
  tree_layer (tree.Number n) h = foldable_roll (tree.Number n)
  tree_layer (tree.Temp t) h = foldable_roll (tree.Temp (c t))
  tree_layer (tree.Global g) h = foldable_roll (tree.Global g)
  tree_layer (tree.Function f) h = foldable_roll (tree.Function f)
  tree_layer (tree.Unary o a) h = foldable_roll (tree.Unary o (renamed_tree c a)) ∙ ap (λ (p : Bool × ℕ). layer_foldable (tree.Unary 0 p)) h
  tree_layer (tree.Binary o a b) h =
      foldable_roll (tree.Binary o (renamed_tree c a) (renamed_tree c b)) ∙ two (foldable (renamed_tree c a)) (foldable (renamed_tree c b)) (foldable a) (foldable b) h.0 h.1
  tree_layer (tree.Narrow k a) h = foldable_roll (tree.Narrow k (renamed_tree c a)) ∙ ap (λ (p : Bool × ℕ). layer_foldable (tree.Narrow k p)) h

  same_tree : (t : Tree) → SameTree t
  same_tree = tree_ind SameTree (λ x h. ap foldable (renamed_tree_roll c x) ∙ tree_layer x h ∙ sym (foldable_roll x))

  all_same : (ts : List Tree) → all_foldable (map (renamed_tree c) ts) ≡ all_foldable ts
  all_same [] = refl
  all_same (t ∷ ts) = omega (arith, ap (λ (p : Bool × ℕ). p.1) (same_tree t), all_same ts)

  constant_layer : (x : Tree-F Tree) → constant (new_tree x) ≡ constant (roll-Tree x)
  constant_layer (tree.Temp t) = constant_roll (tree.Temp (c t)) ∙ sym (constant_roll (tree.Temp t))
  constant_layer (tree.Unary o a) = constant_roll (tree.Unary o (renamed_tree c a)) ∙ sym (constant_roll (tree.Unary o a))
  constant_layer (tree.Binary o a b) = constant_roll (tree.Binary o (renamed_tree c a) (renamed_tree c b)) ∙ sym (constant_roll (tree.Binary o a b))
  constant_layer (tree.Narrow k a) = constant_roll (tree.Narrow k (renamed_tree c a)) ∙ sym (constant_roll (tree.Narrow k a))
  constant_layer _ = refl

  same_constant : (t : Tree) → constant (renamed_tree c t) ≡ constant t
  same_constant t = subst (λ u. constant (renamed_tree c u) ≡ constant u) (roll-out-Tree t) (ap constant (renamed_tree_roll c (out-Tree t)) ∙ constant_layer (out-Tree t))

  -- ---- what is read

  -- a temporary that is read has its new number read
  module _ (t : ℕ) where
    abbrev IsRead : Tree → Type 0
    IsRead x = reads_temp t x ≡ true → reads_temp (c t) (renamed_tree c x) ≡ true

    step : (x y : Tree-F Tree) → new_tree x ≡ roll-Tree y → (reads_temp t (roll-Tree x) ≡ true → reads_temp (c t) (roll-Tree y) ≡ true) → IsRead (roll-Tree x)
    step x y e f h = ap (reads_temp (c t)) (renamed_tree_roll c x ∙ e) ∙ f h

    read_layer : (x : Tree-F Tree) → TreeChildren IsRead x → IsRead (roll-Tree x)
    read_layer (tree.Number n) h r = let e : false ≡ true = sym (reads_temp_roll t (tree.Number n)) ∙ r in absurd (cc)
    read_layer (tree.Temp u) h r =
        step (tree.Temp u) (tree.Temp (c u)) refl (λ q. reads_temp_roll (c t) (tree.Temp (c u)) ∙ eq-eqb (c u) (c t) (ap c (eqb-true u t (sym (reads_temp_roll t (tree.Temp u)) ∙ q)))) r
    read_layer (tree.Global g) h r = let e : false ≡ true = sym (reads_temp_roll t (tree.Global g)) ∙ r in absurd (cc)
    read_layer (tree.Function f) h r = let e : false ≡ true = sym (reads_temp_roll t (tree.Function f)) ∙ r in absurd (cc)
    read_layer (tree.Unary o a) h r =
        step (tree.Unary o a) (tree.Unary o (renamed_tree c a)) refl (λ q. reads_temp_roll (c t) (tree.Unary o (renamed_tree c a)) ∙ h (sym (reads_temp_roll t (tree.Unary o a)) ∙ q)) r
    read_layer (tree.Binary o a b) h r =
        step (tree.Binary o a b) (tree.Binary o (renamed_tree c a) (renamed_tree c b)) refl
        (λ q. reads_temp_roll (c t) (tree.Binary o (renamed_tree c a) (renamed_tree c b)) ∙ or_both (reads_temp t a) (reads_temp t b) _ _ h.0 h.1 (sym (reads_temp_roll t (tree.Binary o a b)) ∙ q)) r
    read_layer (tree.Narrow k a) h r =
        step (tree.Narrow k a) (tree.Narrow k (renamed_tree c a)) refl (λ q. reads_temp_roll (c t) (tree.Narrow k (renamed_tree c a)) ∙ h (sym (reads_temp_roll t (tree.Narrow k a)) ∙ q)) r

    read_all : (ts : List Tree) → any_reads t ts ≡ true → any_reads (c t) (map (renamed_tree c) ts) ≡ true
    read_all [] h = h
    read_all (x ∷ xs) h = or_both (reads_temp t x) (any_reads t xs) _ _ (tree_ind IsRead read_layer x) (read_all xs) h

  -- ---- statements

  -- the renamed statement has as many choices and unreached statements, and no more unread sets, given who reads
  module _ (all all' : List Tree) (reads : (t : ℕ) → any_reads t all ≡ true → any_reads (c t) all' ≡ true) where
    record SameForm (s : Stm) : Type 0 where
      choices : decided (renamed_stm c s) ≡ decided s
      reached : unreached (renamed_stm c s) ≡ unreached s
      sets : unread all' (renamed_stm c s) ≤ unread all s

    record SameForms (code : List Stm) : Type 0 where
      choices : total (map decided (renamed_code c code)) ≡ total (map decided code)
      reached : map unreached (renamed_code c code) ≡ map unreached code
      sets : total (map (unread all') (renamed_code c code)) ≤ total (map (unread all) code)

    inner : (code : List Stm) → Each SameForm code → SameForms code
    inner [] h = record { choices = refl; reached = refl; sets = omega arith }
    inner (s ∷ code) h =
        let rest = inner code h.1 in
        record {
          choices = omega (arith, h.0.choices, rest.choices);
          reached = ap (λ p. p ∷ map unreached (renamed_code c code)) h.0.reached ∙ ap (λ l. unreached s ∷ l) rest.reached;
          sets = omega (arith, h.0.sets, rest.sets);
        }

    choices_layer : (x : Stm-F Stm) → StmChildren SameForm x → layer_decided (map-Stm Stm ℕ decided (renamed_parts c x)) ≡ layer_decided (map-Stm Stm ℕ decided x)
    choices_layer (stm.Divide t o a b) h =
        ap (λ m. cond (is_division m (constant (renamed_tree c b))) 1 0) (same_constant a) ∙ ap (λ m. cond (is_division (constant a) m) 1 0) (same_constant b)
    choices_layer (stm.If t a b) h =
        ap (λ m. cond (is_constant m) 1 0 + (total (map decided (renamed_code c a)) + total (map decided (renamed_code c b)))) (same_constant t) ∙
        ap (λ n. cond (is_constant (constant t)) 1 0 + (n + total (map decided (renamed_code c b)))) (inner a h.0).choices ∙
        ap (λ n. cond (is_constant (constant t)) 1 0 + (total (map decided a) + n)) (inner b h.1).choices
    choices_layer (stm.Loop b) h = (inner b h).choices
    choices_layer (stm.Block b) h = (inner b h).choices
    choices_layer _ h = refl

    reached_layer : (x : Stm-F Stm) → StmChildren SameForm x → layer_unreached (map-Stm Stm (Bool × ℕ) unreached (renamed_parts c x)) ≡ layer_unreached (map-Stm Stm (Bool × ℕ) unreached x)
    reached_layer (stm.If t a b) h =
        ap (λ (l : List (Bool × ℕ)). layer_unreached (stm.If t l (map unreached (renamed_code c b)))) (inner a h.0).reached ∙
        ap (λ (l : List (Bool × ℕ)). layer_unreached (stm.If t (map unreached a) l)) (inner b h.1).reached
    reached_layer (stm.Loop b) h = ap (λ (l : List (Bool × ℕ)). layer_unreached (stm.Loop l)) (inner b h).reached
    reached_layer (stm.Block b) h = ap (λ (l : List (Bool × ℕ)). layer_unreached (stm.Block l)) (inner b h).reached
    reached_layer _ h = refl

    still_read : (a b : Bool) → (a ≡ true → b ≡ true) → cond b 0 1 ≤ cond a 0 1
    still_read true b f = subst (λ x. cond x 0 1 ≤ 0) (sym (f refl)) (omega arith)
    still_read false true f = omega arith
    still_read false false f = omega arith

    sets_layer : (x : Stm-F Stm) → StmChildren SameForm x → layer_unread all' (map-Stm Stm ℕ (unread all') (renamed_parts c x)) ≤ layer_unread all (map-Stm Stm ℕ (unread all) x)
    sets_layer (stm.Set t v) h = still_read (any_reads t all) (any_reads (c t) all') (reads t)
    sets_layer (stm.If t a b) h = omega (arith, (inner a h.0).sets, (inner b h.1).sets)
    sets_layer (stm.Loop b) h = (inner b h).sets
    sets_layer (stm.Block b) h = (inner b h).sets
    sets_layer _ h = omega arith

    layer : (x : Stm-F Stm) → StmChildren SameForm x → SameForm (roll-Stm x)
    layer x h = record {
      choices = ap decided (renamed_stm_roll c x) ∙ decided_roll (renamed_parts c x) ∙ choices_layer x h ∙ sym (decided_roll x);
      reached = ap unreached (renamed_stm_roll c x) ∙ unreached_roll (renamed_parts c x) ∙ reached_layer x h ∙ sym (unreached_roll x);
      sets = omega (arith, ap (unread all') (renamed_stm_roll c x), unread_roll all' (renamed_parts c x), sets_layer x h, unread_roll all x);
    }

    same_forms : (code : List Stm) → SameForms code
    same_forms code = inner code (stms_ind SameForm (stm_ind SameForm layer) code)

pub renaming_keeps_form : RenamingKeepsForm
renaming_keeps_form c code form =
    let renamed : trees (renamed_code c code) ≡ map (renamed_tree c) (trees code) = trees_renamed c code in
    let reads : (t : ℕ) → any_reads t (trees code) ≡ true → any_reads (c t) (trees (renamed_code c code)) ≡ true = λ t h. ap (any_reads (c t)) renamed ∙ read_all c t (trees code) h in
    let same = same_forms c (trees code) (trees (renamed_code c code)) reads code in
    record {
      operators = ap all_foldable renamed ∙ all_same c (trees code) ∙ form.operators;
      choices = same.choices ∙ form.choices;
      sets = omega (arith, same.sets, form.sets);
      reached = ap behind same.reached ∙ form.reached;
    }
