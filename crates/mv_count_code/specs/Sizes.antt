-- How many words the code of a function's bodies has, and how large their frames are.
use Rattle.std.specs.Prelude.{ℕ, ◌+◌, ◌*◌, ◌<◌, ◌≤◌, Bool, List, length, sum_by}
use Rattle.mv_num.specs.Limits.{slot_limit}
use Rattle.mv_ast.specs.declared.program.Program.{Program}
use Rattle.mv_ast.specs.declared.program.Function.{Function}
use Rattle.mv_ast.specs.Counts.{nodes, depth, declared_words}
use Rattle.mv_isa.specs.Code.{greatest_words}
use Rattle.mv_ir.specs.declared.body.Body.{Body}
use Rattle.mv_ir.specs.Live.{most_intervals}
use Rattle.mv_ir.specs.Shorts.{Shorts}
use Rattle.mv_select.specs.Calls.Convention.{frame_limit}
use Rattle.mv_select.specs.Functions.FunctionCode.{frame_bytes}
use Rattle.mv_lower_spec.specs.Functions.{lower_function}
use Rattle.mv_lower_spec.specs.Shape.Law.{IsFunctionOf}
use Rattle.mv_fold.specs.Folded.{IsFolded}
use Rattle.mv_regalloc.specs.Intervals.{IsRenamed}
use Rattle.mv_merge.specs.declared.rows.Domain.{Domain}
use Rattle.mv_merge.specs.declared.rows.Bound.{Bound}
use Rattle.mv_merge.specs.declared.rows.Variants.{Variants}
use Rattle.mv_merge.specs.Guards.{IsMerged}
use Rattle.mv_variants.specs.Bound.Shorts.{AreShortsOf}
use Rattle.mv_variants.specs.Bound.Programs.{IsGeneralOf, IsMadeOf}
use Rattle.mv_variants.specs.Bound.Led.{AreMade}
use Rattle.mv_select.specs.Selected.{IsSuitable, FitsFrame, PassesFrame, selected_lines}
use Rattle.mv_select.specs.Laws.{greatest_length}

-- What a function's code is selected for: what it is lowered to, with short bodies in place of calls and tidied, or not, and with its temporaries renamed; or with
-- constants folded before, with its switches bound before that or not.
pub data IsBodyOf (p : Program) (g : Function) (b : Body) : Type 0 where
  general : IsGeneralOf p g b → IsBodyOf p g b
  folded : (body : Body) → IsFolded (lower_function p g) body → IsRenamed body b → IsBodyOf p g b
  bound : (ps : List (ℕ × ℕ)) → IsMadeOf p g ps b → IsBodyOf p g b

-- forty words for each node of a function, and forty for its entry and return
abbrev pub words_of : Function → ℕ
words_of g = 40 * (1 + nodes g)

abbrev pub CodeIsShort : Type 0
CodeIsShort = (p : Program) (f : ℕ) (g : Function) → IsFunctionOf p f g → (b : Body) → IsBodyOf p g b → greatest_length b ≤ words_of g

-- The lines of the code of such a body have no more words, each branch taken for two.
abbrev pub LinesAreShort : Type 0
LinesAreShort =
    (p : Program) (f : ℕ) (g : Function) → IsFunctionOf p f g → (b : Body) → IsBodyOf p g b → IsSuitable b → FitsFrame b →
    (attributed : Bool) → sum_by greatest_words (selected_lines attributed b) ≤ words_of g

-- A function's own body and its variants together, once and once more for each assignment of its switches.
abbrev pub VariantsAreShort : Type 0
VariantsAreShort =
    (p : Program) (f : ℕ) (g : Function) → IsFunctionOf p f g → (own : Body) → IsBodyOf p g own →
    (domains : List Domain) (rows : List Bound) (variants : Variants) → IsMerged domains rows variants →
    (shorts : Shorts) → AreShortsOf p shorts → AreMade shorts (lower_function p g) rows →
    greatest_length own + sum_by greatest_length variants.bodies ≤ words_of g * (1 + length rows)

-- the declared words of a function, and eight for each level of its depth
abbrev pub frame_count : Function → ℕ
frame_count g = declared_words g + 8 * depth g

abbrev pub FramesFit : Type 0
FramesFit = (p : Program) (f : ℕ) (g : Function) → IsFunctionOf p f g → (b : Body) → IsBodyOf p g b → frame_count g ≤ slot_limit → FitsFrame b

-- Where the frame of a body passes the limit, the count does;
abbrev pub FramesPass : Type 0
FramesPass =
    (p : Program) (f : ℕ) (g : Function) → IsFunctionOf p f g → (b : Body) → IsBodyOf p g b → (named bytes : ℕ) → PassesFrame f b named bytes → slot_limit < frame_count g

-- and where a frame for all that the lowered code has in use at one place would.
abbrev pub LoweredFramesPass : Type 0
LoweredFramesPass =
    (p : Program) (f : ℕ) (g : Function) → IsFunctionOf p f g →
    frame_limit < frame_bytes (most_intervals (lower_function p g)) (lower_function p g).arrays → slot_limit < frame_count g
