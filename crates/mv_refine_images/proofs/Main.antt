-- What main does on the machine, of the laws on functions and on the source.
use Rattle.mv_select.proofs.OfFunctions.Alone.{functions_keep, later_keeps, main_keeps}
use Rattle.mv_lower_spec.specs.Calls.Laws.{BodiesAreRight, CallsKeepBindings, MainIsRight, MainEndsAlike}
use Rattle.mv_refine_machine.specs.Commits.Watched.{Watched}
use Rattle.mv_refine_images.specs.Programs.Laws.{MainFollows, MainFollowsOpenly}
use Rattle.mv_ir_worlds.specs.Laws.{FitIsTold, KnownsKeepFit, FirstIsFit, FunctionsAreFreeOrBound, PointersAreFreeOrBound, FramesOfFree, FramesOfBound}
use Rattle.mv_select.proofs.OfSlots.Bindings.{bindings_are_told}
use Rattle.mv_select.proofs.OfSlots.Forms as narrow
use Rattle.mv_select.proofs.OfSlots.Points.{points_under, arrivals_follow}
use Rattle.mv_select.proofs.OfInline.Bodies.{inline_answers}
use Rattle.mv_refine_images.proofs.OfPrograms.AllFunctions.{Known}
use Rattle.mv_refine_images.proofs.OfPrograms.MainFunction.{main_follows}
use Rattle.mv_refine_images.proofs.OfPrograms.OpenHosts.{hosts_narrowed, main_openly}

-- the laws of the crates below that calls stand on
pub record Below : Type 0 where
  pub right : BodiesAreRight
  pub right_main : MainIsRight
  pub alike : MainEndsAlike
  pub bindings : CallsKeepBindings
  pub free_or_bound : FunctionsAreFreeOrBound
  pub pointers : PointersAreFreeOrBound
  pub frames_free : FramesOfFree
  pub frames_bound : FramesOfBound
  pub told : FitIsTold
  pub knowns : KnownsKeepFit
  pub first : FirstIsFit

known : Below → Known Watched
known b = record {
  each = functions_keep Watched;
  later = later_keeps Watched;
  right = b.right;
  bindings = b.bindings;
  free_or_bound = b.free_or_bound;
  frames_free = b.frames_free;
  frames_bound = b.frames_bound;
  told = bindings_are_told;
  alike = narrow.alike Watched;
  narrowed = narrow.runs Watched;
  slots = narrow.slots Watched;
  jumps = narrow.jumps Watched;
  firsts = narrow.firsts Watched;
  points = points_under Watched;
  arrivals = arrivals_follow Watched;
  pointers = b.pointers;
  inlines = inline_answers Watched;
}

main_does : Below → MainFollows Watched
main_does b access y machine words closed budget far p numbers loaded numbering hart input acts fit back i target ra begins stands bound =
    main_follows access y machine words closed budget far p numbers loaded (known b) (main_keeps Watched) b.right_main b.alike numbering hart input acts fit back i target ra begins stands bound

pub follows : Below → MainFollowsOpenly Watched
follows b = main_openly Watched b.told b.first (narrow.alike Watched) (hosts_narrowed Watched b.told b.knowns (narrow.alike Watched) (narrow.runs Watched)) (main_does b)
