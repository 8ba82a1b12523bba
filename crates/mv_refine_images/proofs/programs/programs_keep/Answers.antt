use Rattle.mv_refine_images.proofs.OfPrograms.AllFunctions.{all_keep}
use Rattle.mv_refine_images.proofs.OfPrograms.MainFunction.{main_follows}
use Rattle.mv_refine_images.proofs.programs.programs_keep.Goals as goal

pub returns-clause-functions : goal.returns-clause-functions
returns-clause-functions g c access y machine words closed budget far p numbers loaded bound =
    all_keep access y machine words closed budget far p numbers loaded
    (record {
      each = c.function_code_law.ensures.each;
      later = c.function_code_law.ensures.later;
      right = c.bodies_are_right.ensures;
      bindings = c.calls_keep_bindings.ensures;
      free_or_bound = c.fit_frames_law.ensures.functions;
      frames_free = c.fit_frames_law.ensures.free;
      frames_bound = c.fit_frames_law.ensures.bound;
      told = c.narrow_runs_law.ensures.told;
      alike = c.narrow_runs_law.ensures.alike;
      narrowed = c.narrow_runs_law.ensures.runs;
      slots = c.narrow_runs_law.ensures.slots;
      jumps = c.narrow_runs_law.ensures.jumps;
      firsts = c.narrow_runs_law.ensures.firsts;
      points = c.narrow_runs_law.ensures.points;
      arrivals = c.narrow_runs_law.ensures.arrivals;
      pointers = c.fit_frames_law.ensures.pointers;
      inlines = c.inline_law.ensures.answers;
    }) bound

pub returns-clause-main : goal.returns-clause-main
returns-clause-main g c access y machine words closed budget far p numbers loaded numbering hart input actions fit back i target ra begins stands bound =
    main_follows access y machine words closed budget far p numbers loaded
    (record {
      each = c.function_code_law.ensures.each;
      later = c.function_code_law.ensures.later;
      right = c.bodies_are_right.ensures;
      bindings = c.calls_keep_bindings.ensures;
      free_or_bound = c.fit_frames_law.ensures.functions;
      frames_free = c.fit_frames_law.ensures.free;
      frames_bound = c.fit_frames_law.ensures.bound;
      told = c.narrow_runs_law.ensures.told;
      alike = c.narrow_runs_law.ensures.alike;
      narrowed = c.narrow_runs_law.ensures.runs;
      slots = c.narrow_runs_law.ensures.slots;
      jumps = c.narrow_runs_law.ensures.jumps;
      firsts = c.narrow_runs_law.ensures.firsts;
      points = c.narrow_runs_law.ensures.points;
      arrivals = c.narrow_runs_law.ensures.arrivals;
      pointers = c.fit_frames_law.ensures.pointers;
      inlines = c.inline_law.ensures.answers;
    }) c.function_code_law.ensures.main c.main_is_right.ensures c.main_ends_alike.ensures
    numbering hart input actions fit back i target ra begins stands bound
