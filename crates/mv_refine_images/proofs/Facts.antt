-- The laws of the crates below that the law on built programs stands on.
use Rattle.mv_image.specs.Format.{RulesAreTables}
use Rattle.mv_ir.specs.Reached.{EndsAreReached}
use Rattle.mv_lower_spec.specs.Shape.Law.{LoweredReadNoMore}
use Rattle.mv_select.specs.Bodies.SelectedBodies.{BodiesAreFunctions}
use Rattle.mv_select.specs.Laws.{SelectedOpens}
use Rattle.mv_refine_machine.specs.Laws.{PackedIsLaidOut}
use Rattle.mv_refine_machine.specs.Shown.{FreeFunctionsShow, BoundFunctionsShow, BoundPointsShow}
use Rattle.mv_refine_machine.specs.Stubs.Laws.{ChecksStand}
use Rattle.mv_refine_machine.specs.Commits.Ends.{WatchedStartIsRight}
use Rattle.mv_refine_machine.specs.Commits.Hosted.{WatchedCallsAreServed, WatchedMemory}
use Rattle.mv_refine_machine.specs.Commits.Tabled.{TabledOrdersAreServed}
use Rattle.mv_refine_machine.specs.Commits.Watched.{Watched}
use Rattle.mv_refine_machine.specs.Commits.WatchedRuns.{WatchedRunsAreRunsAlone, WatchedRunsAreRunsUnder}
use Rattle.mv_refine_machine.specs.Runs.Laws.{ImagesBehave}
use Rattle.mv_refine_images.specs.Programs.Laws.{MainFollowsOpenly}
use Rattle.mv_link_data.specs.Laws.{SizesAreCounts, WordsAreFirst}
use Rattle.mv_parts.specs.Laws.{DataIsCounted}
use Rattle.mv_link_text.specs.Laws.{WordsAreThere, StubsStandInText, CodesAscend, PlainCodeStands, PatchedCodeStands, SlotsAreSites, PointsAreSites, PointsStandInCodes, CheckIsTold}
use Rattle.mv_refine_images.specs.Tables.Laws.{AttributedAreTabled, RowsLeadToVariants, VariantsHaveRows, ImagesHaveTables}
use Rattle.mv_refine_images.specs.Bodies.Laws.{FunctionsHaveOwnCode, VariantsHaveCode}

pub record Laws : Type 0 where
  -- text
  pub words_there : WordsAreThere
  pub stubs : StubsStandInText
  pub codes_ascend : CodesAscend
  pub plain : PlainCodeStands
  pub patched : PatchedCodeStands
  pub slots : SlotsAreSites
  pub points : PointsAreSites
  pub calls_in_codes : PointsStandInCodes
  pub check : CheckIsTold
  pub checks_stand : ChecksStand
  pub show_free : FreeFunctionsShow
  pub show_bound : BoundFunctionsShow
  pub show_points : BoundPointsShow
  -- tables
  pub tabled : AttributedAreTabled
  pub lead : RowsLeadToVariants
  pub rows : VariantsHaveRows
  pub tables : ImagesHaveTables
  -- bodies
  pub own_code : FunctionsHaveOwnCode
  pub variant_code : VariantsHaveCode
  pub bodies_are_functions : BodiesAreFunctions
  pub opens : SelectedOpens
  pub reads_no_more : LoweredReadNoMore
  -- data
  pub words_first : WordsAreFirst
  pub sizes_are_counts : SizesAreCounts
  pub data_is_counted : DataIsCounted
  pub packed_is_laid_out : PackedIsLaidOut
  pub typed : RulesAreTables
  -- runs
  pub runs_alone : WatchedRunsAreRunsAlone
  pub runs_under : WatchedRunsAreRunsUnder
  pub memory : WatchedMemory
  pub calls : WatchedCallsAreServed
  pub orders : TabledOrdersAreServed
  pub starts : WatchedStartIsRight
  pub images_behave : ImagesBehave
  pub main_follows : MainFollowsOpenly Watched
  pub ends_are_reached : EndsAreReached
