-- What is proved of the form of lowered functions.
use Rattle.std.specs.Prelude.{◌≡◌, ℕ, ◌+◌, ◌*◌, ◌≤◌, Bool, true, false, ◌&&◌, ◌||◌, length, All, Some, slice_get}
use Rattle.mv_ir.specs.declared.body.Body.{Body}
use Rattle.mv_ir.specs.Measures.{total, scalars_read, arrays_read, statements, calls, tree_nodes, deepest}
use Rattle.mv_ir.specs.Live.{IsWhole, most_intervals}
use Rattle.mv_ir.specs.WellFormed.{IsWellFormed}
use Rattle.mv_ast.specs.declared.program.Program.{Program}
use Rattle.mv_ast.specs.declared.program.Function.{Function}
use Rattle.mv_ast.specs.Counts as counts
use Rattle.mv_ast.specs.Counts.{nodes, depth, declared_words}
use Rattle.mv_num.specs.Lists.{is_among}
use Rattle.mv_lower_spec.specs.Functions.{lower_function}
use Rattle.mv_source_forms.specs.WellFormed as programs
use Rattle.mv_lower_spec.specs.Shape.Reads.{reads_scalar, reads_array}
use Rattle.mv_lower_spec.specs.Shape.Allowances.{allowance}
use Rattle.mv_lower_spec.specs.Shape.Calls.{code_through, code_weight, function_weight, each_once, attributed_once}

-- No tree in the code of any function is deeper than 4.
abbrev pub LoweredAreShallow : Type 0
LoweredAreShallow = (p : Program) (g : Function) → deepest (lower_function p g).code ≤ 4

-- a function of a well-formed program, and its number
pub record IsFunctionOf (p : Program) (f : ℕ) (g : Function) : Type 0 where
  pub formed : programs.IsWellFormed p
  pub there : slice_get p.functions f ≡ Some g

-- On each path each temporary other than a parameter is written before it is read.
abbrev pub LoweredAreWhole : Type 0
LoweredAreWhole = (p : Program) (f : ℕ) (g : Function) → IsFunctionOf p f g → IsWhole (lower_function p g)

-- They are lowered to well-formed bodies.
abbrev pub LoweredAreWellFormed : Type 0
LoweredAreWellFormed = (p : Program) (f : ℕ) (g : Function) → IsFunctionOf p f g → IsWellFormed (lower_function p g)

-- one call statement for each call: of all, of the attributed functions, and of any that are counted
pub record CallsAsOften (p : Program) (g : Function) (b : Body) : Type 0 where
  pub all : calls b.code ≡ function_weight each_once 1 g
  pub attributed : code_weight (attributed_once p) 0 b.code ≡ counts.calls p g
  pub counted : (direct : ℕ → ℕ) (through : ℕ) → code_weight direct through b.code ≡ function_weight direct through g
  pub pointers : (test : (global : ℕ) → Bool) → code_through test b.code ≡ counts.calls_through (λ x. test x && counts.is_pointer p x) g

abbrev pub LoweredCallAsOften : Type 0
LoweredCallAsOften = (p : Program) (f : ℕ) (g : Function) → IsFunctionOf p f g → CallsAsOften p g (lower_function p g)

-- each global that the code reads is one that the function reads, and none that it reads as an array, or calls through, is a switch of the function
pub record ReadsNoMore (g : Function) (b : Body) : Type 0 where
  pub scalars : All (λ k. reads_scalar g k ≡ true) (scalars_read b.code)
  pub arrays : All (λ k. (reads_array g k || reads_scalar g k) ≡ true) (arrays_read b.code)
  pub switches : All (λ k. is_among k b.switches ≡ false) (arrays_read b.code)

abbrev pub LoweredReadNoMore : Type 0
LoweredReadNoMore = (p : Program) (f : ℕ) (g : Function) → IsFunctionOf p f g → ReadsNoMore g (lower_function p g)

-- The sizes of a body are bounded by those of the source: its frame by the declared words and the depth, its code by the nodes. `words` says that a node
-- of the source takes at most forty words, where a tree node takes at most two and each statement what its form is allowed.
pub record IsSmall (g : Function) (b : Body) : Type 0 where
  pub temps : b.temps ≤ length g.locals + 8 * depth g
  pub frame : most_intervals b + total b.arrays ≤ declared_words g + 8 * depth g
  pub words : allowance b.code + 2 * tree_nodes b.code ≤ 40 * nodes g + 7
  pub statements : statements b.code ≤ 6 * nodes g + 1
  pub tree_nodes : tree_nodes b.code ≤ 9 * nodes g + 1

abbrev pub LoweredAreSmall : Type 0
LoweredAreSmall = (p : Program) (f : ℕ) (g : Function) → IsFunctionOf p f g → IsSmall g (lower_function p g)
