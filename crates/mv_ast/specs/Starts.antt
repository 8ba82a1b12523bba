-- The world in which a program starts.
use Rattle.std.specs.Prelude.{ℕ, zero, suc, ◌-◌, List, [], ◌++◌, map, length, replicate, slice_get, unwrap_or}
use Rattle.mv_ast.specs.declared.program.CType.{CType}
use Rattle.mv_ast.specs.declared.program.CType.TheVariants.{Void, Scalar, Pointer}
use Rattle.mv_ast.specs.declared.program.Program.{Program}
use Rattle.mv_ast.specs.declared.program.Global.{Global}
use Rattle.mv_ast.specs.Worlds.{World}
use Rattle.mv_bindings.specs.Acts.{Act}
use Rattle.mv_ast.specs.Switches.{all_free}
use Rattle.mv_ast.specs.Counts.{words_of_size}

-- the first words of a global: its given values, and then 0
abbrev pub first_words : Global → List ℕ
first_words g = g.first ++ replicate (words_of_size g.size - length g.first) 0

-- in a hart all functions and pointer switches are free, and nothing was taken or written
abbrev pub first_world : Program → (hart : ℕ) → (input : List ℕ) → List Act → World
first_world p hart input actions = record {
  globals = map first_words p.globals;
  hart = hart;
  depth = 0;
  live = 0;
  input = input;
  taken = 0;
  output = [];
  bindings = all_free p;
  actions = actions;
  log = [];
}

-- a function pointer of the program, which is 0 for null and else one more than the function's index, as a numbering writes it
abbrev pub renumbered : List ℕ → ℕ → ℕ
renumbered numbers zero = 0
renumbered numbers (suc f) = unwrap_or (slice_get numbers f) (suc f)

-- a first value of a type
abbrev pub renumbered_at : CType → List ℕ → ℕ → ℕ
renumbered_at Void numbers v = v
renumbered_at (Scalar kind) numbers v = v
renumbered_at (Pointer signature) numbers v = renumbered numbers v

abbrev pub first_words_under : List ℕ → Global → List ℕ
first_words_under numbers g = map (renumbered_at g.ctype numbers) (first_words g)

-- with function pointers as a numbering writes them
abbrev pub first_world_under : Program → (numbers : List ℕ) → (hart : ℕ) → (input : List ℕ) → List Act → World
first_world_under p numbers hart input actions = record (first_world p hart input actions) { globals = map (first_words_under numbers) p.globals }
