-- The laws of the crates below that the laws on linked text stand on.
use Rattle.mv_linker.specs.Laws.{LinesFit, StubsStand}
use Rattle.mv_refine_machine.specs.Laws.{CodeIsPlaced, TextsAreFound}

pub record Laws : Type 0 where
  pub lines_fit : LinesFit
  pub stubs_stand : StubsStand
  pub code_is_placed : CodeIsPlaced
  pub texts_are_found : TextsAreFound
