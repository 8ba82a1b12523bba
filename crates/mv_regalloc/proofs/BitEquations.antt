-- What reading does to bits, at each variant of a tree.
use Rattle.std.proofs.Common.{◌≡◌, ℕ, ◌+◌, ◌<◌, true, List, [], ◌∷◌, ◌++◌, length, take, get_or, refl, sym, ap, ◌∙◌}
use Rattle.std.proofs.lemmas.List.{take_more}
use Rattle.std.specs.Prelude.{slice_set}
use Rattle.mv_num.specs.declared.kind.Kind.{Kind}
use Rattle.mv_ir.specs.declared.tree.Tree.{Tree, Number, Temp, Global, Function, Unary, Binary, Narrow}
use Rattle.mv_ir.specs.declared.tree.Tree.TheOpen as tree
use Rattle.mv_ir.specs.declared.tree.Tree.TheVariants.{rolls-Number, rolls-Temp, rolls-Global, rolls-Function, rolls-Unary, rolls-Binary, rolls-Narrow}
use Rattle.mv_regalloc.specs.Rows.{Bits, with_reads, with_all_reads}
use Rattle.mv_regalloc.proofs.RowBits.{with_reads_roll}

module _ (bits : Bits) where
  abbrev of : Tree → Bits
  of x = with_reads x bits

  pub read_number : (n : ℕ) → with_reads (Number n) bits ≡ bits
  read_number n = ap of (sym (rolls-Number n)) ∙ ap (λ f. f bits) (with_reads_roll (tree.Number n))

  pub read_temp : (t : ℕ) → with_reads (Temp t) bits ≡ slice_set bits t true
  read_temp t = ap of (sym (rolls-Temp t)) ∙ ap (λ f. f bits) (with_reads_roll (tree.Temp t))

  pub read_global : (g : ℕ) → with_reads (Global g) bits ≡ bits
  read_global g = ap of (sym (rolls-Global g)) ∙ ap (λ f. f bits) (with_reads_roll (tree.Global g))

  pub read_function : (f : ℕ) → with_reads (Function f) bits ≡ bits
  read_function f = ap of (sym (rolls-Function f)) ∙ ap (λ h. h bits) (with_reads_roll (tree.Function f))

  pub read_unary : (o : ℕ) (a : Tree) → with_reads (Unary o a) bits ≡ with_reads a bits
  read_unary o a = ap of (sym (rolls-Unary o a)) ∙ ap (λ f. f bits) (with_reads_roll (tree.Unary o a))

  pub read_binary : (o : ℕ) (a b : Tree) → with_reads (Binary o a b) bits ≡ with_reads b (with_reads a bits)
  read_binary o a b = ap of (sym (rolls-Binary o a b)) ∙ ap (λ f. f bits) (with_reads_roll (tree.Binary o a b))

  pub read_narrow : (k : Kind) (a : Tree) → with_reads (Narrow k a) bits ≡ with_reads a bits
  read_narrow k a = ap of (sym (rolls-Narrow k a)) ∙ ap (λ f. f bits) (with_reads_roll (tree.Narrow k a))

pub ruleset read_trees = (read_number, read_temp, read_global, read_function, read_unary, read_binary, read_narrow)

-- one tree more
pub all_append : (xs ys : List Tree) (bits : Bits) → with_all_reads (xs ++ ys) bits ≡ with_all_reads ys (with_all_reads xs bits)
all_append [] ys bits = refl
all_append (x ∷ xs) ys bits = all_append xs ys (with_reads x bits)

pub all_more : (xs : List Tree) (i : ℕ) (d : Tree) (bits : Bits) → i < length xs → with_all_reads (take (i + 1) xs) bits ≡ with_reads (get_or xs i d) (with_all_reads (take i xs) bits)
all_more xs i d bits h = ap (λ l. with_all_reads l bits) (take_more xs i d h) ∙ all_append (take i xs) (get_or xs i d ∷ []) bits
