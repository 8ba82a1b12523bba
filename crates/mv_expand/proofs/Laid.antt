-- What a short body is in place of a call: statements that set temporaries one after the other, to values over the arguments and what was set before.
use Rattle.std.proofs.Common.{arith, ◌≡◌, ℕ, zero, suc, ◌+◌, ◌<◌, ◌≤◌, Bool, true, false, cond, List, [], ◌∷◌, ◌++◌, map, Option, Some, None, refl, sym, ◌∙◌, subst, ◌⊎◌, inl, inr, Contains, append-nil}
use Rattle.std.specs.Prelude.{slice_index_or}
use Rattle.std.proofs.lemmas.Bool.{or_left, or_right}
use Rattle.std.proofs.lemmas.List.Elements.{Contains-append_left, Contains-append_right, Contains-append_cases}
use Rattle.std.proofs.lemmas.Map.Views.{exact_unsigned_eq}
use Rattle.mv_num.specs.Lists.{is_among}
use Rattle.mv_num.proofs.Booleans.{or_cases, and_cases, from_falsity}
use Rattle.mv_ir.specs.declared.tree.Tree.{Tree}
use Rattle.mv_ir.specs.declared.tree.Tree.TheOpen.{Tree-F}
use Rattle.mv_ir.specs.declared.tree.Tree.TheOpen as tree
use Rattle.mv_ir.specs.declared.tree.Tree.TheViews.{roll-Tree}
use Rattle.mv_ir.specs.declared.tree.Tree.TheFolds.{map-Tree}
use Rattle.mv_ir.specs.declared.stm.Stm.{Stm}
use Rattle.mv_ir.specs.declared.stm.Stm.TheOpen as stm
use Rattle.mv_ir.specs.Measures.{joined, layer_reads, tree_reads}
use Rattle.mv_ir.specs.Live.{layer_reads_temp, reads_temp, any_reads}
use Rattle.mv_ir.specs.Rolled.{number, temp, set, divide}
use Rattle.mv_ir.proofs.Induction.{TreeChildren, tree_ind}
use Rattle.mv_ir.proofs.Rolls.{reads_roll, reads_temp_roll}
use Rattle.mv_fold.proofs.Within.{Among, none_among}
use Rattle.mv_expand.specs.Straight.{short_temps, layer_reads_only, reads_only, Straight, returns, sets, divides}
use Rattle.mv_expand.specs.Placed.{placed_node, placed_tree, result_into, placed_code}
use Rattle.mv_expand.proofs.Rolls.{reads_only_roll, placed_tree_roll, placed_stm_roll}

-- what an argument reads, they all read
arg_reads : (xs : List Tree) (i : ℕ) → Among (tree_reads (slice_index_or xs i (number 0))) (joined (map tree_reads xs))
arg_reads [] i = subst (λ l. Among l []) (sym (reads_roll (tree.Number 0))) (none_among [])
arg_reads (x ∷ xs) zero = λ g c. Contains-append_left (tree_reads x) (joined (map tree_reads xs)) g c
arg_reads (x ∷ xs) (suc i) = λ g c. Contains-append_right (tree_reads x) (joined (map tree_reads xs)) g (arg_reads xs i g c)

arg_temps : (t : ℕ) (xs : List Tree) (i : ℕ) → reads_temp t (slice_index_or xs i (number 0)) ≡ true → any_reads t xs ≡ true
arg_temps t [] i e = sym (reads_temp_roll t (tree.Number 0)) ∙ e
arg_temps t (x ∷ xs) zero e = or_left (reads_temp t x) (any_reads t xs) e
arg_temps t (x ∷ xs) (suc i) e = or_right (reads_temp t x) (any_reads t xs) (arg_temps t xs i e)

module _ (base : ℕ) (keeps : ℕ → Bool) (args : List Tree) where
  -- a temporary that stands for one of those that are known
  pub record StandsFor (known : List ℕ) (t : ℕ) : Type 0 where
    pub temp : ℕ
    pub among : is_among temp known ≡ true
    pub moved : keeps temp ≡ false
    pub is : t ≡ base + temp

  -- a tree that reads what the arguments read and such temporaries
  pub record Stands (known : List ℕ) (v : Tree) : Type 0 where
    pub scalars : Among (tree_reads v) (joined (map tree_reads args))
    pub temps : (t : ℕ) → reads_temp t v ≡ true → (any_reads t args ≡ true) ⊎ StandsFor known t

  -- the statements, where the result goes to a temporary or to none
  pub data Laid : Option ℕ → List ℕ → List Stm → Type 0 where
    no_result : (known : List ℕ) → Laid None known []
    result_to : (known : List ℕ) (u : ℕ) (v : Tree) → Stands known v → Laid (Some u) known (set u v ∷ [])
    put : (r : Option ℕ) (known : List ℕ) (t : ℕ) (v : Tree) (rest : List Stm) → t < short_temps → Stands known v → Laid r (t ∷ known) rest → Laid r known (set (base + t) v ∷ rest)
    quotient : (r : Option ℕ) (known : List ℕ) (t o : ℕ) (a b : Tree) (rest : List Stm) → t < short_temps → Stands known a → Stands known b → Laid r (t ∷ known) rest →
        Laid r known (divide (base + t) o a b ∷ rest)

  module _ (known : List ℕ) where
    abbrev reads : List ℕ
    reads = joined (map tree_reads args)

    node_stands : (x : Tree-F Tree) → Among (layer_reads (map-Tree Tree (List ℕ) tree_reads x)) reads →
        ((t : ℕ) → layer_reads_temp t (map-Tree Tree Bool (reads_temp t) x) ≡ true → (any_reads t args ≡ true) ⊎ StandsFor known t) → Stands known (roll-Tree x)
    node_stands x h k = record { scalars = subst (λ l. Among l reads) (sym (reads_roll x)) h; temps = λ t e. k t (sym (reads_temp_roll t x) ∙ e) }

    -- in place of a temporary
    at_temp : (u : ℕ) → is_among u known ≡ true → (b : Bool) → keeps u ≡ b → Stands known (cond b (slice_index_or args u (number 0)) (temp (base + u)))
    at_temp u e true k = record { scalars = arg_reads args u; temps = λ t h. inl (arg_temps t args u h) }
    at_temp u e false k = node_stands (tree.Temp (base + u)) (none_among reads) (λ t h. inr (record { temp = u; among = e; moved = k; is = sym (exact_unsigned_eq (base + u) t h) }))

    abbrev IsStanding : Tree → Type 0
    IsStanding v = reads_only known v ≡ true → Stands known (placed_tree base keeps args v)

    layer_stands : (x : Tree-F Tree) → TreeChildren IsStanding x → layer_reads_only known (map-Tree Tree Bool (reads_only known) x) ≡ true →
        Stands known (placed_node base keeps args (map-Tree Tree Tree (placed_tree base keeps args) x))
    layer_stands (tree.Number n) h e = node_stands (tree.Number n) (none_among reads) (λ t v. from_falsity v)
    layer_stands (tree.Temp u) h e = at_temp u e (keeps u) refl
    layer_stands (tree.Global g) h e = from_falsity e
    layer_stands (tree.Function f) h e = from_falsity e
    layer_stands (tree.Unary o a) h e = node_stands (tree.Unary o (placed_tree base keeps args a)) (h e).scalars (h e).temps
    layer_stands (tree.Binary o a b) h e =
        let parts = and_cases (reads_only known a) (reads_only known b) e in
        both o (placed_tree base keeps args a) (placed_tree base keeps args b) (h.0 parts.0) (h.1 parts.1)
      where
        both : (o : ℕ) (a b : Tree) → Stands known a → Stands known b → Stands known (roll-Tree (tree.Binary o a b))
        both o a b h k = node_stands (tree.Binary o a b) (λ g c. read g (Contains-append_cases (tree_reads a) (tree_reads b) g c)) (λ t e. temp_read t (or_cases (reads_temp t a) (reads_temp t b) e))
          where
            read : (g : ℕ) → Contains (tree_reads a) g ⊎ Contains (tree_reads b) g → Contains reads g
            read g (inl c) = h.scalars g c
            read g (inr c) = k.scalars g c

            temp_read : (t : ℕ) → (reads_temp t a ≡ true) ⊎ (reads_temp t b ≡ true) → (any_reads t args ≡ true) ⊎ StandsFor known t
            temp_read t (inl c) = h.temps t c
            temp_read t (inr c) = k.temps t c
    layer_stands (tree.Narrow n a) h e = node_stands (tree.Narrow n (placed_tree base keeps args a)) (h e).scalars (h e).temps

    tree_stands : (v : Tree) → reads_only known v ≡ true → Stands known (placed_tree base keeps args v)
    tree_stands = tree_ind IsStanding (λ x h e. subst (Stands known) (sym (placed_tree_roll base keeps args x)) (layer_stands x h (sym (reads_only_roll known x) ∙ e)))

    number_stands : (n : ℕ) → Stands known (placed_tree base keeps args (number n))
    number_stands n = tree_stands (number n) (reads_only_roll known (tree.Number n))

    result_laid : (r : Option ℕ) (v : Tree) → Stands known (placed_tree base keeps args v) → Laid r known (result_into base keeps args r v)
    result_laid None v h = no_result known
    result_laid (Some u) v h = result_to known u (placed_tree base keeps args v) h

  pub laid : (temps : ℕ) → temps ≤ short_temps → (r : Option ℕ) (known : List ℕ) (code : List Stm) → Straight temps known code → Laid r known (placed_code base keeps args r code)
  laid temps few r known code (returns k v h) =
      subst (Laid r k) (sym (append-nil _ ∙ placed_stm_roll base keeps args r (stm.Return v))) (result_laid k r v (tree_stands k v h))
  laid temps few r known code (sets k t v rest lt h more) =
      subst (λ l. Laid r k (l ++ placed_code base keeps args r rest)) (sym (placed_stm_roll base keeps args r (stm.Set t v)))
      (put r k t (placed_tree base keeps args v) (placed_code base keeps args r rest) (omega (arith, lt, few)) (tree_stands k v h) (laid temps few r (t ∷ k) rest more))
  laid temps few r known code (divides k t o a n rest lt some h more) =
      subst (λ l. Laid r k (l ++ placed_code base keeps args r rest)) (sym (placed_stm_roll base keeps args r (stm.Divide t o a (number n))))
      (quotient r k t o (placed_tree base keeps args a) (placed_tree base keeps args (number n)) (placed_code base keeps args r rest) (omega (arith, lt, few)) (tree_stands k a h) (number_stands k n)
      (laid temps few r (t ∷ k) rest more))
