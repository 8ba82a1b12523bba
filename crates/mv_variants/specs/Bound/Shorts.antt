-- Short bodies of the functions of a program, and what has room in a frame.
use Rattle.std.specs.Prelude.{ℕ, ◌≡◌, ◌+◌, ◌≤◌, ◌⊎◌, false, Some, slice_get}
use Rattle.mv_num.specs.Limits.{slot_limit}
use Rattle.mv_ast.specs.declared.program.Program.{Program}
use Rattle.mv_ast.specs.declared.program.Function.{Function}
use Rattle.mv_ir.specs.declared.body.Body.{Body}
use Rattle.mv_ir.specs.Keeps.{KeepsBody}
use Rattle.mv_ir.specs.Live.{most_intervals}
use Rattle.mv_ir.specs.Measures.{total}
use Rattle.mv_ir.specs.Shorts.{Shorts}
use Rattle.mv_lower_spec.specs.Functions.{lower_function}
use Rattle.mv_select.specs.Bodies.SelectedBodies.{HasWords}
use Rattle.mv_select_code.specs.Control.Encoded.{most_words}
use Rattle.mv_expand.specs.Straight.{IsShort}
use Rattle.mv_expand.specs.Expanded.{IsExpanded}
use Rattle.mv_arms.specs.Armed.{IsArmed}
use Rattle.mv_tidy.specs.Tidied.{IsTidied}
use Rattle.mv_propagate.specs.Propagated.{IsPropagated}
use Rattle.mv_ranges.specs.Marked.{IsMarkedBody}

-- A short body of the function with a number, which isn't attributed: it means what the function is lowered to.
pub record IsShortOf (p : Program) (f : ℕ) (b : Body) : Type 0 where
  pub function : Function
  pub there : slice_get p.functions f ≡ Some function
  pub plain : function.attributed ≡ false
  pub params : b.params ≡ function.params
  pub keeps : KeepsBody (lower_function p function) b
  pub short : IsShort b
  pub words : HasWords b.code

abbrev pub AreShortsOf : Program → Shorts → Type 0
AreShortsOf p shorts = (f : ℕ) (b : Body) → slice_get shorts f ≡ Some (Some b) → IsShortOf p f b

-- A short body that means what a function's lowered one means.
pub record IsShortened (body b : Body) : Type 0 where
  pub params : b.params ≡ body.params
  pub keeps : KeepsBody body b
  pub short : IsShort b
  pub words : HasWords b.code

-- each is short, and its constants are words
abbrev pub ShortsHaveWords : Shorts → Type 0
ShortsHaveWords shorts = (f : ℕ) (b : Body) → slice_get shorts f ≡ Some (Some b) → IsShort b × HasWords b.code

-- A body that is tidied, in which what temporaries hold is read in their place then, and which is tidied again.
pub record IsCleaned (body result : Body) : Type 0 where
  pub tidied : Body
  pub is_tidied : IsTidied body tidied
  pub propagated : Body
  pub is_propagated : IsPropagated tidied propagated
  pub again : IsTidied propagated result

-- A body behind the steps that call nothing else: the arms of its `switch`es are reached by one jump, or as they were; then it is cleaned, and then indices are
-- promised to be below numbers.
pub record IsFinished (body result : Body) : Type 0 where
  pub arms : Body
  pub are_arms : IsArmed body arms ⊎ (arms ≡ body)
  pub cleaned : Body
  pub is_cleaned : IsCleaned arms cleaned
  pub is_marked : IsMarkedBody cleaned result

-- What a body is before its switches are bound: short bodies stand in place of calls and it is finished, where its code has no more words by that; or it is
-- finished alone; or it is as it was.
pub data IsReady (shorts : Shorts) (body ready : Body) : Type 0 where
  expanded : (e : Body) → IsExpanded shorts body e → IsFinished e ready → most_words ready.code ≤ most_words body.code → IsReady shorts body ready
  finished : IsFinished body ready → IsReady shorts body ready
  same : ready ≡ body → IsReady shorts body ready

-- It has no more temporaries than the first body has intervals over one position, or its frame is small enough in any case.
abbrev pub HasRoom : Body → Body → Type 0
HasRoom body result = (result.temps ≤ most_intervals body) ⊎ (result.temps + total result.arrays ≤ slot_limit)
