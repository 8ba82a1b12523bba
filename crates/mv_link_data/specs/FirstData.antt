-- What stands in the data of an image before a run.
use Rattle.std.specs.Prelude.{ℕ, zero, suc, List, map, sum}
use Rattle.std.specs.List.{flat_map}
use Rattle.mv_ast.specs.declared.program.CType.{CType}
use Rattle.mv_ast.specs.declared.program.CType.TheVariants.{Void, Scalar, Pointer}
use Rattle.mv_ast.specs.declared.program.Program.{Program}
use Rattle.mv_ast.specs.declared.program.Global.{Global}
use Rattle.mv_ast.specs.Counts.{words_of_size}
use Rattle.mv_ast.specs.Starts.{first_words}
use Rattle.mv_linker.specs.declared.parts.Datum.{Datum}
use Rattle.mv_linker.specs.declared.parts.Datum.TheVariants.{Number, Function}

-- the word of a first value of a type: a function pointer that isn't null is the address of its function
abbrev pub datum_of : CType → ℕ → Datum
datum_of Void v = Number v
datum_of (Scalar kind) v = Number v
datum_of (Pointer signature) zero = Number 0
datum_of (Pointer signature) (suc f) = Function f

-- the words of a global: its given values, and then zeros
abbrev pub global_data : Global → List Datum
global_data g = map (datum_of g.ctype) (first_words g)

-- the words of all globals in order, one behind the other
abbrev pub first_data : Program → List Datum
first_data p = flat_map global_data p.globals

-- how many words each global has
abbrev pub global_sizes : Program → List ℕ
global_sizes p = map (λ g. words_of_size g.size) p.globals

-- how many words all globals have
abbrev pub data_words : Program → ℕ
data_words p = sum (global_sizes p)
