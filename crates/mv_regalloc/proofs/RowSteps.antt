-- The rows of a statement, after those of the code within it.
use Rattle.std.proofs.Common.{◌≡◌, List, ◌∷◌, ◌++◌, map, sym, ap, ◌∙◌}
use Rattle.std.proofs.lemmas.List.{append_assoc}
use Rattle.mv_ir.specs.declared.tree.Tree.{Tree}
use Rattle.mv_ir.specs.declared.stm.Stm.{Stm}
use Rattle.mv_ir.specs.declared.stm.Stm as at
use Rattle.mv_regalloc.specs.Rows.{Bits, either_bits, live_before, own_trees, rows_in_order, sets, inside, stm_rows, with_all_reads}
use Rattle.mv_regalloc.specs.Shared.{LiveSets, walked}
use Rattle.mv_regalloc.proofs.RowEquations.{live_block, live_if, rows_block, rows_if, rows_loop}

pub walked_two : (s : LiveSets) (l l' : Bits) (xs ys : List Bits) → walked (walked s l xs) l' ys ≡ walked s l' (ys ++ xs)
walked_two s l l' xs ys = ap (λ r. let v : LiveSets = record s { live = l'; rows = r } in v) (sym (append_assoc ys xs s.rows))

module _ (s : LiveSets) where
  pub block_walked : (b : List Stm) → (let live = live_before (map stm_rows b) (sets (inside s.around s.live s.around.none) s.live) in
      walked s live (live ∷ rows_in_order (map stm_rows b) (sets (inside s.around s.live s.around.none) s.live))) ≡ walked s ((stm_rows (at.Block b)).live (sets s.around s.live)) ((stm_rows (at.Block b)).rows (sets s.around s.live))
  block_walked b =
      let r = sets s.around s.live in
      ap (λ l. walked s l (l ∷ rows_in_order (map stm_rows b) (sets (inside s.around s.live s.around.none) s.live))) (sym (live_block r b)) ∙ ap (walked s ((stm_rows (at.Block b)).live r)) (sym (rows_block r b))

  pub loop_walked : (b : List Stm) → (let live = (stm_rows (at.Loop b)).live (sets s.around s.live) in
      walked s live (live ∷ rows_in_order (map stm_rows b) (sets (inside s.around s.live live) live))) ≡ walked s ((stm_rows (at.Loop b)).live (sets s.around s.live)) ((stm_rows (at.Loop b)).rows (sets s.around s.live))
  loop_walked b = let r = sets s.around s.live in ap (walked s ((stm_rows (at.Loop b)).live r)) (sym (rows_loop r b))

  pub if_walked : (t : Tree) (a b : List Stm) → (let r = sets s.around s.live in let live = with_all_reads (own_trees (at.If t a b)) (either_bits (live_before (map stm_rows a) r) (live_before (map stm_rows b) r)) in
      walked s live (live ∷ (rows_in_order (map stm_rows a) r ++ rows_in_order (map stm_rows b) r))) ≡ walked s ((stm_rows (at.If t a b)).live (sets s.around s.live)) ((stm_rows (at.If t a b)).rows (sets s.around s.live))
  if_walked t a b =
      let r = sets s.around s.live in
      ap (λ l. walked s l (l ∷ (rows_in_order (map stm_rows a) r ++ rows_in_order (map stm_rows b) r))) (sym (live_if r t a b)) ∙ ap (walked s ((stm_rows (at.If t a b)).live r)) (sym (rows_if r t a b))
