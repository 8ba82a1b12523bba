-- What flags of a program's globals and functions say, and how large a program may be.
use Rattle.std.specs.Prelude.{ℕ, ◌+◌, ◌*◌, ◌<◌, ◌^◌, ◌≡◌, Bool, false, ◌||◌, List, ◌++◌, replicate, length, All}
use Rattle.mv_ir.specs.declared.stm.Stm.{Stm}
use Rattle.mv_ast.specs.declared.program.Program.{Program}
use Rattle.mv_ast.specs.declared.program.Function.{Function}
use Rattle.mv_num.specs.Lists.{is_among}
use Rattle.mv_ast.specs.Flags.{is_set}
use Rattle.mv_lower_spec.specs.Functions.{ending, names_global, functions_called}
use Rattle.mv_lower_spec.specs.Statements.{Code}
use Rattle.mv_lower.specs.declared.names.Marks.{Marks}
use Rattle.mv_lower.specs.Naming.{Flags}
use Rattle.mv_lower.specs.Statements.{stmts_size}

-- ---- code

-- a function's code behind that of its statements
abbrev pub ended : Bool → Code → Code
ended void c = record { code = c.code ++ ending void; top = c.top }

-- ---- flags

abbrev pub no_marks : ℕ → ℕ → Flags
no_marks globals functions = record { read = replicate globals false; stored = replicate globals false; called = replicate functions false }

abbrev pub is_named : Marks → ℕ → Bool
is_named m g = is_set m.read.items g || is_set m.stored.items g

pub record AreMarks (p : Program) (code : List Stm) (m : Marks) : Type 0 where
  pub globals : (g : ℕ) → g < length p.globals → is_named m g ≡ names_global code g
  pub functions : (f : ℕ) → f < length p.functions → is_set m.called.items f ≡ is_among f (functions_called code)

-- ---- sizes

-- the nodes of its statements, with one for each arm of a `switch`, and the locals leave room in 32 bits for the numbers of temporaries, blocks and arms
abbrev pub HasRoom : Function → Type 0
HasRoom g = length g.locals + 1 + 2 * stmts_size g.body < 2 ^ 32

-- the numbers of globals, functions, temporaries and blocks have 32 bits
pub record IsSmall (p : Program) : Type 0 where
  pub globals : length p.globals < 2 ^ 32
  pub functions : length p.functions < 2 ^ 32
  pub each : All HasRoom p.functions
