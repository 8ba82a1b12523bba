-- A body whose choices are put together is as good.
use Rattle.std.proofs.Common.{List}
use Rattle.mv_ir.specs.declared.stm.Stm.{Stm}
use Rattle.mv_ir.specs.declared.body.Body.{Body}
use Rattle.mv_ir.specs.Live.{nowhere}
use Rattle.mv_tidy.specs.Choosing.{Chosen}
use Rattle.mv_plain.proofs.AsGood.{IsAsGood}
use Rattle.mv_tidy.proofs.ChosenThin.{chosen_whole, chosen_temps}
use Rattle.mv_tidy.proofs.ChosenKept.{chosen_keeps}
use Rattle.mv_tidy.proofs.ChosenWithin.{chosen_no_greater, chosen_well_formed}

pub chosen_good : (b : Body) (code : List Stm) → Chosen b.temps (λ t. nowhere) b.code code → IsAsGood b code
chosen_good b code k = record {
  means = chosen_keeps b code k;
  smaller = chosen_no_greater b code k;
  whole = chosen_whole b code k;
  has_temps = chosen_temps b code k;
  well_formed = chosen_well_formed b code k (chosen_temps b code k);
}
