use Rattle.mv_refine_images.proofs.Patched.{patched_functions_stand}
use Rattle.mv_refine_images.proofs.laws.patched_functions_stand.Goals as goal

pub returns : goal.returns
returns c = patched_functions_stand c.functions_show.ensures.free c.functions_show.ensures.bound
