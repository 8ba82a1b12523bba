-- What selection asks of a body that is made of another, and how many calls it has.
use Rattle.std.specs.Prelude.{ℕ, ◌≡◌, ◌<◌, ◌≤◌, true, List, All, length, None}
use Rattle.mv_ir.specs.declared.body.Body.{Body}
use Rattle.mv_ir.specs.Shorts.{Shorts}
use Rattle.mv_ir.specs.World as ir
use Rattle.mv_ir.specs.Measures.{arrays_read, deepest}
use Rattle.mv_ir.specs.Trees.{found}
use Rattle.mv_ir.specs.Live.{most_intervals}
use Rattle.mv_ir.specs.WellFormed.{IsWellFormed}
use Rattle.mv_select_code.specs.Control.Labels.{functions}
use Rattle.mv_select.specs.Calls.Convention.{Layout, frame_limit}
use Rattle.mv_select.specs.Functions.FunctionCode.{frame_bytes}
use Rattle.mv_select.specs.Selected.{FitsFrame}
use Rattle.mv_select.specs.Bodies.SelectedBodies.{HasWords, AreRooms, IsInProgram, knowns}
use Rattle.mv_lower_spec.specs.Shape.Calls.{code_weight}
use Rattle.mv_regalloc.specs.Intervals.{IsRenamed}
use Rattle.mv_variants.specs.Bound.Meant.{IsMadeUnder}
use Rattle.mv_variants.specs.Bound.Shorts.{ShortsHaveWords}
use Rattle.mv_variants.specs.Bound.Names.{NamesNoMore, ReadAsWords}

-- A body that is made of another names no more.
abbrev pub MadeNameNoMore : Type 0
MadeNameNoMore =
    (shorts : Shorts) (ps : List (ℕ × ℕ)) (body result : Body) → ShortsHaveWords shorts → ReadAsWords ps → IsMadeUnder shorts ps body result → NamesNoMore body.code result.code

-- Where each direct call of a function and each call through a pointer has a weight, its calls have no more.
abbrev pub MadeCallNoMore : Type 0
MadeCallNoMore =
    (direct : ℕ → ℕ) (through : ℕ) (shorts : Shorts) (ps : List (ℕ × ℕ)) (body result : Body) → IsMadeUnder shorts ps body result →
    code_weight direct through result.code ≤ code_weight direct through body.code

-- A body of a program before its temporaries are renamed: there would be room for as many as there are intervals over one position at most.
pub record IsOfProgram (y : Layout) (setting : ir.Setting) (body : Body) : Type 0 where
  pub formed : IsWellFormed body
  pub shallow : deepest body.code ≤ 4
  pub frame : frame_bytes (most_intervals body) body.arrays ≤ frame_limit
  pub rooms : AreRooms y body.rooms
  pub words : HasWords body.code
  pub knowns : All (λ k. y.may_ask k ≡ true) (knowns body.code)
  pub functions : All (λ f. f < length setting.numbers) (functions body.code)

-- Where it reads no element of a switch, each body made of it under words is one of the program, which reads none of its switches.
abbrev pub MadeAreInProgram : Type 0
MadeAreInProgram =
    (y : Layout) (setting : ir.Setting) (shorts : Shorts) (ps : List (ℕ × ℕ)) (body result : Body) → ShortsHaveWords shorts → IsOfProgram y setting body → All (λ g. found ps g ≡ None) (arrays_read body.code) →
    ReadAsWords ps → IsMadeUnder shorts ps body result → IsInProgram y setting true ps result

-- Its frame is small enough where that of the first body with its temporaries renamed alone is.
abbrev pub MadeFramesFit : Type 0
MadeFramesFit =
    (shorts : Shorts) (ps : List (ℕ × ℕ)) (body own result : Body) → IsRenamed body own → FitsFrame own → IsMadeUnder shorts ps body result → FitsFrame result
