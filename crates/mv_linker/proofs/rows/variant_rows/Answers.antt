use Rattle.std.proofs.Common.{◌≡◌, ℕ, suc, ◌+◌, ◌++◌, List, [], ◌∷◌, length, drop, slice_index, All, ap, sym, subst, ◌∙◌, arith}
use Rattle.std.proofs.lemmas.List.{append_assoc, length-append, get_or-append-add}
use Rattle.mv_descriptors.specs.declared.rows.VariantRow.{VariantRow}
use Rattle.mv_linker.specs.declared.parts.PartVariant.{PartVariant}
use Rattle.mv_linker.specs.Linked.{function_variants}
use Rattle.mv_linker.specs.Tables.{variant_row, variant_rows, HasFewGuards}
use Rattle.mv_linker.proofs.Joining.{functions_at}
use Rattle.mv_linker.proofs.rows.variant_rows.Goals as goal

rows-append : (address : ℕ → ℕ) (n : ℕ) (xs ys : List PartVariant) → variant_rows address n (xs ++ ys) ≡ variant_rows address n xs ++ variant_rows address (n + length xs) ys
rows-append address n [] ys = let same : n ≡ n + 0 = omega arith in ap (λ m. variant_rows address m ys) same
rows-append address n (x ∷ xs) ys =
    let same : suc n + length xs ≡ n + length (x ∷ xs) = omega arith in
    ap (λ rows. variant_row (address n) x ∷ rows)
    (rows-append address (suc n) xs ys ∙ ap (λ m. variant_rows address (suc n) xs ++ variant_rows address m ys) same)

-- what holds of each of two lists holds of the second's
All-behind : {X : Type 0} (P : X → Type 0) (xs ys : List X) → All P (xs ++ ys) → All P ys
All-behind P xs ys all = λ k d l. subst P (get_or-append-add xs ys k d) (all (length xs + k) d (omega (arith, l, length-append xs ys)))

more_rows : (address : ℕ → ℕ) (next count : ℕ) (rows new whole : List VariantRow) (vs rest all : List PartVariant) → count ≡ length vs → new ≡ rows ++ variant_rows address next vs →
    all ≡ vs ++ rest → rows ++ variant_rows address next all ≡ whole → new ++ variant_rows address (next + count) rest ≡ whole
more_rows address next count rows new whole vs rest all count_is new_is all_is whole_is =
    ap (λ m. new ++ variant_rows address (next + m) rest) count_is
    ∙ ap (λ r. r ++ variant_rows address (next + length vs) rest) new_is
    ∙ append_assoc rows (variant_rows address next vs) (variant_rows address (next + length vs) rest)
    ∙ ap (λ r. rows ++ r) (sym (rows-append address next vs rest))
    ∙ ap (λ xs. rows ++ variant_rows address next xs) (sym all_is)
    ∙ whole_is

pub loop-function-preserved : goal.loop-function-preserved
loop-function-preserved c =
    let a = c.function-item.result in
    let xs = c.args.attributed.now in
    let i = c.loop-function.function-index in
    let rest = function_variants (drop (i + 1) xs) in
    let split = functions_at xs i a c.loop-function-test.true c.function-item.is in
    let inv = c.loop-function.invariant in
    let pushed : c.push_variant_rows.new.rows ≡ c.loop-function.rows ++ variant_rows (slice_index c.args.starts.now) c.loop-function.next a.variants = rw c.as_slice.ensures at c.in_ok-push_variant_rows.ensures in
    record {
      rows = more_rows (slice_index c.args.starts.now) c.loop-function.next c.len-next.result c.loop-function.rows c.push_variant_rows.new.rows _ a.variants rest (function_variants (drop i xs))
          c.len-next.ensures pushed split inv.rows;
      next = omega (arith, inv.next, ap length split, length-append a.variants rest, c.len-next.ensures);
      guards = All-behind HasFewGuards a.variants rest (subst (All HasFewGuards) split inv.guards);
    }
