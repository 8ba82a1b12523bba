-- What the tables of an image need to know of a program: its switches, its attributed functions, its pointer switches and all functions to which these may
-- lead, and their names.
use Rattle.std.specs.Prelude.{◌≡◌, ◌≢◌, ◌<◌, ◌≤◌, ℕ, true, None, Some, List, length, All, AllPairs, slice_get}
use Rattle.std.specs.List.Sorted.{IsStrictlyIncreasing}
use Rattle.mv_num.specs.declared.kind.Kind.{Kind}
use Rattle.mv_num.specs.Kinds.{kind_number, is_value}
use Rattle.mv_num.specs.Limits.{name_limit, function_limit, switch_limit, pointer_limit, value_limit, own_switch_limit, assignment_limit}
use Rattle.mv_ast.specs.declared.program.CType.TheVariants.{Scalar}
use Rattle.mv_ast.specs.declared.program.Function.{Function}
use Rattle.mv_ast.specs.declared.program.Global.{Global}
use Rattle.mv_ast.specs.declared.program.Program.{Program}
use Rattle.mv_ast.specs.declared.program.Switch.{Switch}
use Rattle.mv_ast.specs.Counts.{assignments, words_of_size}
use Rattle.mv_ast.specs.Switches.{attributed_functions, switch_global}
use Rattle.mv_lexer.specs.Lexemes.{IsIdentifier}
use Rattle.mv_lexer.specs.Tables.{IsEntry}
use Rattle.mv_lexer.specs.declared.table.Table.TheVariants.{Keywords, UnsupportedKeywords}

-- A name in a source: an identifier of at most 63 bytes that is no keyword (C11 6.4.1, 6.4.2.1).
pub record IsName (name : List ℕ) : Type 0 where
  pub identifier : IsIdentifier name
  pub short : length name ≤ name_limit
  pub no_keyword : (k : ℕ) → IsEntry Keywords k name → ⊥
  pub no_unsupported : (k : ℕ) → IsEntry UnsupportedKeywords k name → ⊥

-- A switch is a global scalar of an integer type. Its domain is 1 to 16 different values of that type.
pub record IsTableSwitch (p : Program) (s : Switch) : Type 0 where
  pub global : Global
  pub there : slice_get p.globals s.global ≡ Some global
  pub named : IsName global.name
  pub kind : Kind
  pub integer : global.ctype ≡ Scalar kind
  pub scalar : global.size ≡ None
  pub some : 1 ≤ length s.values
  pub most : length s.values ≤ value_limit
  pub values : All (λ v. is_value (kind_number kind) v ≡ true) s.values
  pub different : AllPairs (λ v w. v ≢ w) s.values

-- An attributed function has at most six of the program's switches, each once and in order, and 1 to 64 assignments.
pub record IsTableFunction (p : Program) (f : Function) : Type 0 where
  pub named : IsName f.name
  pub most : length f.switches ≤ own_switch_limit
  pub there : All (λ s. s < length p.switches) f.switches
  pub ascend : IsStrictlyIncreasing f.switches
  pub apart : AllPairs (λ s t. switch_global p s ≢ switch_global p t) f.switches
  pub some_assignment : 1 ≤ assignments p f
  pub assignments_most : assignments p f ≤ assignment_limit

-- a pointer switch is a global scalar with a name
pub record IsTablePointer (p : Program) (pointer : ℕ) : Type 0 where
  pub global : Global
  pub there : slice_get p.globals pointer ≡ Some global
  pub named : IsName global.name
  pub scalar : global.size ≡ None

-- The switches are different globals; each global and each local has a word; there are no more switches, functions and pointer switches than an image may
-- have; and each function has a name.
pub record HasTableFacts (p : Program) : Type 0 where
  pub switches : All (IsTableSwitch p) p.switches
  pub apart : AllPairs (λ (s t : Switch). s.global ≢ t.global) p.switches
  pub functions : All (IsTableFunction p) (attributed_functions p)
  pub words : All (λ (g : Global). 1 ≤ words_of_size g.size) p.globals
  pub few_switches : length p.switches ≤ switch_limit
  pub few_functions : length (attributed_functions p) ≤ function_limit
  pub names : All (λ (f : Function). IsName f.name) p.functions
  pub few_targets : length p.functions ≤ function_limit
  pub pointers : All (IsTablePointer p) p.pointers
  pub few_pointers : length p.pointers ≤ pointer_limit
