-- What the laws of the crates below say, on which those here stand, as one premise.
use Rattle.mv_ir_worlds.specs.Laws.{FitIsTold, KnownsKeepFit}
use Rattle.mv_patch.specs.Laws.{PairsAreDifferences, TablesTellPairs}
use Rattle.mv_refine_machine.specs.Stores.Laws.{TextIsBetween, BetweenIsTested, PairsAreInRange, RoomsAreWhole, TextsOfImages, StoresFindRoom}
use Rattle.mv_refine_machine.specs.Laws.{CalmIsTested, RunsAreRuns, RunsBeginInCalm, TextsAreFound}

pub record Known : Type 0 where
  pub calms : CalmIsTested
  pub runs : RunsAreRuns
  pub begins : RunsBeginInCalm
  pub found : TextsAreFound
  pub between : TextIsBetween
  pub tested : BetweenIsTested
  pub ranges : PairsAreInRange
  pub rooms : RoomsAreWhole
  pub images : TextsOfImages
  pub finds : StoresFindRoom
  pub differ : PairsAreDifferences
  pub tells : TablesTellPairs
  pub fits : FitIsTold
  pub keep_fit : KnownsKeepFit
