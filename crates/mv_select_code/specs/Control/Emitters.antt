-- Code that is being written, with what encloses the line to come, the innermost first, and the first free label.
use Rattle.std.specs.Prelude.{ℕ, ◌+◌, List, [], ◌∷◌, ◌++◌, drop}
use Rattle.mv_isa.specs.declared.labelled.Line.{Line}
use Rattle.mv_isa.specs.declared.labelled.Line.TheVariants.{Label}
use Rattle.mv_select_code.specs.declared.control.emitter.Emitter.{Emitter}
use Rattle.mv_select_code.specs.declared.control.enclosing.Way.{Way}
use Rattle.mv_select_code.specs.Control.FlowCode.{Emitted, loop_at, block_at}

-- with lines behind it that take no labels
abbrev pub with_lines : Emitter → List Line → Emitter
with_lines e lines = record e { lines = e.lines ++ lines }

-- with some code behind it, which takes its labels from the first free one on
abbrev pub emitted : Emitter → Emitted → Way → Emitter
emitted e code way = record e { lines = e.lines ++ code.lines e.around e.free way; free = e.free + code.labels }

-- with the first free label taken
abbrev pub label_taken : Emitter → Emitter
label_taken e = record e { free = e.free + 1 }

-- ---- before and behind what stands within a loop, with a label at its start, or a block

abbrev pub loop_entered : Emitter → ℕ → Way → Emitter
loop_entered e label way = record e { around = loop_at label way ∷ e.around }

abbrev pub loop_opened : Emitter → ℕ → Way → Emitter
loop_opened e label way = record e { lines = e.lines ++ (Label label ∷ []); around = loop_at label way ∷ e.around }

abbrev pub block_opened : Emitter → Way → Emitter
block_opened e way = record e { around = block_at way ∷ e.around }

abbrev pub closed : Emitter → Emitter
closed e = record e { around = drop 1 e.around }
