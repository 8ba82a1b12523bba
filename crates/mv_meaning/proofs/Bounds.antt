-- The meaning of a program at a greater bound extends the one at a lesser bound.
use Rattle.std.proofs.Common.{ℕ, ◌≤◌, List, [], arith, refl, slice_get}
use Rattle.mv_ast.specs.declared.program.Program.{Program}
use Rattle.mv_bindings.specs.declared.stop.Stop.TheVariants.{Unfinished}
use Rattle.mv_ast.specs.Worlds.{World, Outcome, Came, Stopped}
use Rattle.mv_bindings.specs.Acts.{Act}
use Rattle.mv_ast.specs.Starts.{first_world}
use Rattle.mv_ast.specs.Numbering.{own_numbers}
use Rattle.mv_meaning.specs.declared.state.Frame.{Frame}
use Rattle.mv_meaning.specs.declared.state.Flow.{Flow}
use Rattle.mv_meaning.specs.declared.meant.Meant.{Meant}
use Rattle.mv_meaning.specs.Meaning.{context_at, meaning_of, run_of_main, hart_mean}
use Rattle.mv_meaning.specs.Growth.{Grew, world_left, work_done, IsContinued, same, further, Extends, with_capped_work}
use Rattle.mv_meaning.proofs.Growing.{Begins-refl}
use Rattle.mv_meaning.proofs.RisingStatements.{main_rises}

extends_itself : (m : Meant) → Extends m m
extends_itself m = record {
  output = Begins-refl m.output;
  log = Begins-refl m.log;
  taken = omega arith;
  work = omega arith;
  ended = λ h. refl;
}

unfinished : (w : World) (n : ℕ) (o : Outcome Frame Flow) → Grew w (world_left o) → n ≤ work_done o →
    Extends (with_capped_work (meaning_of (Stopped Unfinished w n))) (with_capped_work (meaning_of o))
unfinished w n (Came flow f left m) g le = record {
  output = g.output;
  log = g.log;
  taken = g.taken;
  work = omega (arith, le);
  ended = λ h. absurd (h refl);
}
unfinished w n (Stopped why left m) g le = record {
  output = g.output;
  log = g.log;
  taken = g.taken;
  work = omega (arith, le);
  ended = λ h. absurd (h refl);
}

continued_extends : (o o' : Outcome Frame Flow) → IsContinued o o' → Extends (with_capped_work (meaning_of o)) (with_capped_work (meaning_of o'))
continued_extends o o' same = extends_itself (with_capped_work (meaning_of o))
continued_extends (Stopped why w n) o' (further g le) = unfinished w n o' g le

pub bound_extends : (p : Program) (hart : ℕ) (input : List ℕ) (actions : List Act) (j k : ℕ) → j ≤ k →
    Extends (with_capped_work (hart_mean p hart input actions j)) (with_capped_work (hart_mean p hart input actions k))
bound_extends p hart input actions j k le =
    let frame : Frame = record { function = p.main; locals = [] } in
    let world : World = first_world p hart input actions in
    let run = main_rises p (own_numbers p) j k le (slice_get p.functions p.main) in
    continued_extends
    (run_of_main p (context_at p (own_numbers p) j) (slice_get p.functions p.main) frame world)
    (run_of_main p (context_at p (own_numbers p) k) (slice_get p.functions p.main) frame world)
    (run.on frame world)
