-- The rows of a statement are as many as there are statements in it.
use Rattle.std.proofs.Common.{◌≡◌, ℕ, suc, ◌+◌, List, [], ◌∷◌, length, map, refl, sym, ap, ◌∙◌}
use Rattle.std.proofs.lemmas.List.{length-append}
use Rattle.mv_ir.specs.declared.stm.Stm.{Stm}
use Rattle.mv_ir.specs.declared.stm.Stm.TheOpen.{Stm-F}
use Rattle.mv_ir.specs.declared.stm.Stm.TheOpen as stm
use Rattle.mv_ir.specs.declared.stm.Stm.TheFolds.{map-Stm}
use Rattle.mv_ir.specs.Measures.{layer_size, stm_size, total}
use Rattle.mv_ir.proofs.Induction.{Each, StmChildren, stm_ind, stms_ind}
use Rattle.mv_ir.proofs.Rolls.{size_roll}
use Rattle.mv_regalloc.specs.Rows.{Sets, Rows, sets_after, sets_inside, live_before, rows_in_order, loop_bits, layer_rows, stm_rows}
use Rattle.mv_regalloc.proofs.RowsShow.{rows_roll}

abbrev IsAsLong : Stm → Type 0
IsAsLong s = (r : Sets) → length ((stm_rows s).rows r) ≡ stm_size s

list_long : (b : List Stm) → Each IsAsLong b → (r : Sets) → length (rows_in_order (map stm_rows b) r) ≡ total (map stm_size b)
list_long [] h r = refl
list_long (s ∷ b) h r =
    let after = sets_after r (live_before (map stm_rows b) r) in
    length-append ((stm_rows s).rows after) (rows_in_order (map stm_rows b) r) ∙ ap (λ n. n + length (rows_in_order (map stm_rows b) r)) (h.0 after) ∙ ap (λ n. stm_size s + n) (list_long b h.1 r)

long_layer : (x : Stm-F Stm) → StmChildren IsAsLong x → (r : Sets) → length ((layer_rows (map-Stm Stm Rows stm_rows x)).rows r) ≡ layer_size (map-Stm Stm ℕ stm_size x)
long_layer (stm.Set u v) h r = refl
long_layer (stm.SetGlobal g v) h r = refl
long_layer (stm.Divide u o x y) h r = refl
long_layer (stm.Check a i) h r = refl
long_layer (stm.Read u a i) h r = refl
long_layer (stm.Write a i v) h r = refl
long_layer (stm.Zero l) h r = refl
long_layer (stm.If v x y) h r =
    ap suc (length-append (rows_in_order (map stm_rows x) r) (rows_in_order (map stm_rows y) r) ∙ ap (λ n. n + length (rows_in_order (map stm_rows y) r)) (list_long x h.0 r) ∙ ap (λ n. total (map stm_size x) + n) (list_long y h.1 r))
long_layer (stm.Loop b) h r = ap suc (list_long b h (sets_inside r (loop_bits (map stm_rows b) r) (loop_bits (map stm_rows b) r)))
long_layer (stm.Block b) h r = ap suc (list_long b h (sets_inside r r.next r.none))
long_layer (stm.Break n) h r = refl
long_layer (stm.Back n) h r = refl
long_layer (stm.Call u f args) h r = refl
long_layer (stm.Known u k args) h r = refl
long_layer (stm.Return v) h r = refl

pub rows_long : (s : Stm) → IsAsLong s
rows_long = stm_ind IsAsLong (λ x h r. ap (λ f. length (f.rows r)) (rows_roll x) ∙ long_layer x h r ∙ sym (size_roll x))

pub code_rows_long : (b : List Stm) (r : Sets) → length (rows_in_order (map stm_rows b) r) ≡ total (map stm_size b)
code_rows_long b r = list_long b (stms_ind IsAsLong rows_long b) r
