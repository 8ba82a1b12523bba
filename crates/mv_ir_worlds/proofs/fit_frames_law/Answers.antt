use Rattle.mv_ir_worlds.proofs.Functions.{free_or_bound, pointer_free_or_bound, frames_free, frames_bound}
use Rattle.mv_ir_worlds.proofs.fit_frames_law.Goals as goal

pub returns : goal.returns
returns c = record { functions = free_or_bound; pointers = pointer_free_or_bound; free = frames_free; bound = frames_bound }
