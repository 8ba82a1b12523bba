-- The words that stand under some bindings, as the text of a machine that is calm in worlds with these alone.
use Rattle.std.specs.Prelude.{ℕ, List, [], Option}
use Rattle.mv_bindings.specs.declared.binding.Binding.{Binding}
use Rattle.mv_image.specs.Spelling.{Fields}
use Rattle.mv_ir.specs.World.{World}
use Rattle.mv_refine_machine.specs.MachineRuns.{bound_word}

-- a world with some bindings, and nothing else
abbrev pub bound_world : List Binding → World
bound_world bs = record { globals = []; hart = 0; input = []; taken = 0; output = []; bindings = bs; actions = []; log = [] }

abbrev pub words_under : Fields → List Binding → ℕ → Option ℕ
words_under image bs = bound_word image (bound_world bs)
