-- Measures of lists that are put together, of a tree, and of what a body begins with.
use Rattle.std.proofs.Common.{◌≡◌, ℕ, zero, suc, ◌+◌, ◌-◌, ◌<◌, ◌≤◌, Bool, true, List, [], ◌∷◌, ◌++◌, length, map, max, refl, sym, ◌∙◌, ap, subst, arith, append_assoc, ◌⊎◌, inl, inr}
use Rattle.std.specs.Prelude.{◌||◌, slice_index}
use Rattle.std.proofs.Math.Bool.{or_assoc}
use Rattle.std.proofs.lemmas.Bool.{cases_lt, or_left, or_right}
use Rattle.std.proofs.lemmas.List.{length-append}
use Rattle.mv_ir.specs.declared.tree.Tree.{Tree}
use Rattle.mv_ir.specs.declared.tree.Tree.TheOpen.{Tree-F}
use Rattle.mv_ir.specs.declared.tree.Tree.TheOpen as tree
use Rattle.mv_ir.specs.declared.tree.Tree.TheViews.{roll-Tree}
use Rattle.mv_ir.specs.declared.stm.Stm.{Stm}
use Rattle.mv_ir.specs.Trees.{depth, nodes_of_all}
use Rattle.mv_ir.specs.Measures.{joined, total, stm_trees, trees}
use Rattle.mv_ir.specs.Live.{reads_temp, any_reads, Around, Flow, with_after, live_in_order, marks_in_order, mark_at, greatest_up_to}
use Rattle.mv_ir.specs.Meaning.{first_items, first_temps}
use Rattle.mv_ir.proofs.Induction.{Each, TreeChildren, tree_ind}
use Rattle.mv_ir.proofs.Keeping.{map_append}
use Rattle.mv_ir.proofs.Lists.{joined_append}
use Rattle.mv_ir.proofs.Rolls.{depth_roll}
use Rattle.mv_ast.specs.Names.{any_of}

-- ---- lists

pub total_append : (ms ns : List ℕ) → total (ms ++ ns) ≡ total ms + total ns
total_append [] ns = omega arith
total_append (m ∷ ms) ns = omega (arith, total_append ms ns)

pub same_map : {A B : Type 0} (f g : A → B) (xs : List A) → Each (λ x. f x ≡ g x) xs → map f xs ≡ map g xs
same_map f g [] h = refl
same_map f g (x ∷ xs) h = ap (λ y. y ∷ map f xs) h.0 ∙ ap (λ l. g x ∷ l) (same_map f g xs h.1)

pub map_map : {A B C : Type 0} (f : B → C) (g : A → B) (xs : List A) → map f (map g xs) ≡ map (λ x. f (g x)) xs
map_map f g [] = refl
map_map f g (x ∷ xs) = ap (λ l. f (g x) ∷ l) (map_map f g xs)

pub map_joined : {A B : Type 0} (f : A → B) (xss : List (List A)) → map f (joined xss) ≡ joined (map (map f) xss)
map_joined f [] = refl
map_joined f (xs ∷ xss) = map_append f xs (joined xss) ∙ ap (λ l. map f xs ++ l) (map_joined f xss)

-- where g of the image of each is f of it
pub map_through : {A B C : Type 0} (f : A → C) (g : B → C) (h : A → B) (xs : List A) → Each (λ x. g (h x) ≡ f x) xs → map g (map h xs) ≡ map f xs
map_through f g h xs e = map_map g h xs ∙ same_map (λ x. g (h x)) f xs e

-- ---- trees

pub nodes_append : (xs ys : List Tree) → nodes_of_all (xs ++ ys) ≡ nodes_of_all xs + nodes_of_all ys
nodes_append [] ys = omega arith
nodes_append (x ∷ xs) ys = omega (arith, nodes_append xs ys)

pub any_reads_append : (t : ℕ) (xs ys : List Tree) → any_reads t (xs ++ ys) ≡ (any_reads t xs || any_reads t ys)
any_reads_append t [] ys = refl
any_reads_append t (x ∷ xs) ys = ap (λ b. reads_temp t x || b) (any_reads_append t xs ys) ∙ sym (or_assoc (reads_temp t x) (any_reads t xs) (any_reads t ys))

pub reads_left : (t : ℕ) (xs ys : List Tree) → any_reads t xs ≡ true → any_reads t (xs ++ ys) ≡ true
reads_left t xs ys e = any_reads_append t xs ys ∙ or_left (any_reads t xs) (any_reads t ys) e

pub reads_right : (t : ℕ) (xs ys : List Tree) → any_reads t ys ≡ true → any_reads t (xs ++ ys) ≡ true
reads_right t xs ys e = any_reads_append t xs ys ∙ or_right (any_reads t xs) (any_reads t ys) e

pub trees_append : (xs ys : List Stm) → trees (xs ++ ys) ≡ trees xs ++ trees ys
trees_append xs ys = ap joined (map_append stm_trees xs ys) ∙ joined_append (map stm_trees xs) (map stm_trees ys)

pub depth_positive : (t : Tree) → 1 ≤ depth t
depth_positive = tree_ind (λ t. 1 ≤ depth t) layer
  where
    layer : (x : Tree-F Tree) → TreeChildren (λ t. 1 ≤ depth t) x → 1 ≤ depth (roll-Tree x)
    layer (tree.Number n) h = omega (arith, depth_roll (tree.Number n))
    layer (tree.Temp t) h = omega (arith, depth_roll (tree.Temp t))
    layer (tree.Global g) h = omega (arith, depth_roll (tree.Global g))
    layer (tree.Function f) h = omega (arith, depth_roll (tree.Function f))
    layer (tree.Unary o a) h = omega (arith, depth_roll (tree.Unary o a))
    layer (tree.Binary o a b) h = omega (arith, depth_roll (tree.Binary o a b))
    layer (tree.Narrow k a) h = omega (arith, depth_roll (tree.Narrow k a))

-- ---- where a temporary is live, and intervals

pub live_append : (xs ys : List Flow) (r : Around) → live_in_order (xs ++ ys) r ≡ live_in_order xs (with_after r (live_in_order ys r))
live_append [] ys r = refl
live_append (x ∷ xs) ys r = ap (λ b. x.live (with_after r b)) (live_append xs ys r)

pub marks_append : (xs ys : List Flow) (r : Around) → marks_in_order (xs ++ ys) r ≡ marks_in_order xs (with_after r (live_in_order ys r)) ++ marks_in_order ys r
marks_append [] ys r = refl
marks_append (x ∷ xs) ys r =
    ap (λ b. x.marks (with_after r b) ++ marks_in_order (xs ++ ys) r) (live_append xs ys r) ∙
    ap (λ l. x.marks (with_after r (live_in_order xs (with_after r (live_in_order ys r)))) ++ l) (marks_append xs ys r) ∙
    sym (append_assoc (x.marks (with_after r (live_in_order xs (with_after r (live_in_order ys r))))) (marks_in_order xs (with_after r (live_in_order ys r))) (marks_in_order ys r))

pub any_append : (xs ys : List Bool) → any_of (xs ++ ys) ≡ (any_of xs || any_of ys)
any_append [] ys = refl
any_append (x ∷ xs) ys = ap (λ b. x || b) (any_append xs ys) ∙ sym (or_assoc x (any_of xs) (any_of ys))

pub any_left : (xs ys : List Bool) → any_of xs ≡ true → any_of (xs ++ ys) ≡ true
any_left xs ys e = any_append xs ys ∙ or_left (any_of xs) (any_of ys) e

pub any_right : (xs ys : List Bool) → any_of ys ≡ true → any_of (xs ++ ys) ≡ true
any_right xs ys e = any_append xs ys ∙ or_right (any_of xs) (any_of ys) e

pub marked_any : (xs : List Bool) (i : ℕ) → mark_at xs i ≡ true → any_of xs ≡ true
marked_any [] i e = e
marked_any (x ∷ xs) zero e = or_left x (any_of xs) e
marked_any (x ∷ xs) (suc i) e = or_right x (any_of xs) (marked_any xs i e)

pub greatest_most : (n : ℕ) (f : ℕ → ℕ) (i : ℕ) → i < n → f i ≤ greatest_up_to n f
greatest_most zero f i lt = absurd (omega (arith, lt))
greatest_most (suc n) f i lt = by (greatest_most n f i) (cases_lt i n)
  where
    by : (i < n → f i ≤ greatest_up_to n f) → (i < n) ⊎ (n ≤ i) → f i ≤ max (greatest_up_to n f) (f n)
    by h (inl less) = omega (arith, h less)
    by h (inr le) = let same : i ≡ n = omega (arith, lt, le) in subst (λ k. f k ≤ max (greatest_up_to n f) (f n)) (sym same) (omega arith)

pub greatest_within : (n : ℕ) (f : ℕ → ℕ) (m : ℕ) → ((i : ℕ) → i < n → f i ≤ m) → greatest_up_to n f ≤ m
greatest_within zero f m h = omega arith
greatest_within (suc n) f m h = omega (arith, greatest_within n f m (λ i lt. h i (omega (arith, lt))), h n (omega arith))

-- ---- what a body begins with

pub items_count : (n : ℕ) (f : ℕ → ℕ) → length (first_items n f) ≡ n
items_count zero f = refl
items_count (suc n) f = ap suc (items_count n (λ i. f (suc i)))

pub temps_enough : (f : ℕ → ℕ) (n : ℕ) (args : List ℕ) → n ≤ length (first_temps f n args)
temps_enough f n args = omega (arith, items_count (n - length args) f, length-append args (first_items (n - length args) f))

item_at : (n k t : ℕ) (f : ℕ → ℕ) → t < n → t < k → slice_index (first_items n f) t ≡ slice_index (first_items k f) t
item_at zero k t f h l = absurd (omega (arith, h))
item_at (suc n) zero t f h l = absurd (omega (arith, l))
item_at (suc n) (suc k) zero f h l = refl
item_at (suc n) (suc k) (suc t) f h l = item_at n k t (λ i. f (suc i)) (omega (arith, h)) (omega (arith, l))

-- two frames that begin with the same arguments and contents agree as far as both go
pub argument_at : (args : List ℕ) (n k t : ℕ) (f : ℕ → ℕ) → t < length args + n → t < length args + k → slice_index (args ++ first_items n f) t ≡ slice_index (args ++ first_items k f) t
argument_at [] n k t f h l = item_at n k t f (omega (arith, h)) (omega (arith, l))
argument_at (x ∷ args) n k zero f h l = refl
argument_at (x ∷ args) n k (suc t) f h l = argument_at args n k t f (omega (arith, h)) (omega (arith, l))
