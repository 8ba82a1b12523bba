-- Lemmas on this crate's words that the crates above share.
use Rattle.std.proofs.Common.{◌≡◌, ℕ, List}
use Rattle.mv_ir.specs.declared.stm.Stm.{Stm}
use Rattle.mv_ir.specs.declared.stm.Stm.TheOpen.{Stm-F}
use Rattle.mv_ir.specs.declared.stm.Stm.TheViews.{roll-Stm}
use Rattle.mv_ir.specs.declared.stm.Stm.TheFolds.{map-Stm, fold-roll-Stm}
use Rattle.mv_lower_spec.specs.Functions.{layer_called, stm_called}

pub called_roll : (x : Stm-F Stm) → stm_called (roll-Stm x) ≡ layer_called (map-Stm Stm (List ℕ) stm_called x)
unfolding stm_called
called_roll x = fold-roll-Stm (List ℕ) layer_called x
