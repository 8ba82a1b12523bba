-- What code names: the globals that it reads as scalars, those that it stores to or names as arrays, and the functions that it calls.
use Rattle.std.specs.Prelude.{ℕ, Bool, List, [], ◌∷◌, map}
use Rattle.mv_ir.specs.declared.tree.Tree.{Tree}
use Rattle.mv_ir.specs.declared.stm.Array.{Array}
use Rattle.mv_ir.specs.declared.stm.Callee.{Callee}
use Rattle.mv_ir.specs.declared.stm.Stm.{Stm}
use Rattle.mv_ir.specs.Measures.{joined, tree_reads, stm_trees, array_read, callee_trees}
use Rattle.mv_ir.specs.WellFormed.{callee_named, stm_named}
use Rattle.mv_lower_spec.specs.Functions.{callee_called, stm_called}
use Rattle.mv_lower.specs.declared.names.Marks.{Marks}
use Rattle.mv_ast.specs.Flags.{flagged}

-- ---- flags

pub record Flags : Type 0 where
  pub read : List Bool
  pub stored : List Bool
  pub called : List Bool

abbrev pub seen_marks : Marks → Flags
seen_marks m = record { read = m.read.items; stored = m.stored.items; called = m.called.items }

-- ---- names

pub record Names : Type 0 where
  pub read : List ℕ
  pub stored : List ℕ
  pub called : List ℕ

unfoldable pub marked : Names → Flags → Flags
marked x m = record { read = flagged x.read m.read; stored = flagged x.stored m.stored; called = flagged x.called m.called }

abbrev pub tree_names : Tree → Names
tree_names t = record { read = tree_reads t; stored = []; called = [] }

abbrev pub trees_names : List Tree → Names
trees_names ts = record { read = joined (map tree_reads ts); stored = []; called = [] }

abbrev pub global_names : ℕ → Names
global_names g = record { read = []; stored = g ∷ []; called = [] }

abbrev pub function_names : ℕ → Names
function_names f = record { read = []; stored = []; called = f ∷ [] }

abbrev pub array_names : Array → Names
array_names a = record { read = []; stored = array_read a; called = [] }

abbrev pub callee_names : Callee → Names
callee_names f = record { read = joined (map tree_reads (callee_trees f)); stored = joined (map array_read (callee_named f)); called = callee_called f }

abbrev pub stm_names : Stm → Names
stm_names s = record { read = joined (map tree_reads (stm_trees s)); stored = joined (map array_read (stm_named s)); called = stm_called s }

abbrev pub code_names : List Stm → Names
code_names code = record {
  read = joined (map tree_reads (joined (map stm_trees code)));
  stored = joined (map array_read (joined (map stm_named code)));
  called = joined (map stm_called code);
}
