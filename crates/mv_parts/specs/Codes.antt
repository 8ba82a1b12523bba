-- The bodies of functions and their code, and the frames that these need.
use Rattle.std.specs.Prelude.{ℕ, ◌≡◌, ◌<◌, ◌≤◌, min, Bool, List, length, Some, slice_get}
use Rattle.mv_ast.specs.declared.program.Program.{Program}
use Rattle.mv_ast.specs.declared.program.Function.{Function}
use Rattle.mv_isa.specs.declared.labelled.Labelled.{Labelled}
use Rattle.mv_ir.specs.declared.body.Body.{Body}
use Rattle.mv_ir.specs.Live.{most_intervals}
use Rattle.mv_lower_spec.specs.Functions.{lower_function}
use Rattle.mv_select.specs.Calls.Convention.{frame_limit}
use Rattle.mv_select.specs.Functions.FunctionCode.{frame_bytes}
use Rattle.mv_select.specs.Selected.{IsSuitable, IsSelected}
use Rattle.mv_variants.specs.Bound.Programs.{IsGeneralOf}

-- ---- bodies

-- a body is what the function with a number is lowered to
pub record IsLowered (p : Program) (f : ℕ) (body : Body) : Type 0 where
  pub function : Function
  pub there : slice_get p.functions f ≡ Some function
  pub is : body ≡ lower_function p function

-- The bodies of all functions in their order. Each is what its function is lowered to, with short bodies in place of calls and tidied, or not, with temporaries
-- that are never in use together in one place.
pub record AreGenerics (p : Program) (bodies : List Body) : Type 0 where
  pub one_each : length bodies ≡ length p.functions
  pub each : (f : ℕ) (g : Function) (body : Body) → slice_get p.functions f ≡ Some g → slice_get bodies f ≡ Some body → IsGeneralOf p g body

-- a body is made of what the function with a number is lowered to
pub record IsGeneric (p : Program) (f : ℕ) (body : Body) : Type 0 where
  pub function : Function
  pub there : slice_get p.functions f ≡ Some function
  pub general : IsGeneralOf p function body

-- ---- frames

-- how many bytes the frame of a function has where it has as many temporaries as its lowered code has in use at one place at most
abbrev pub frame_size : Program → Function → ℕ
frame_size p g = let body = lower_function p g in frame_bytes (most_intervals body) body.arrays

-- the frames of the functions before the one with a number are small enough
abbrev pub FramesFit : Program → ℕ → Type 0
FramesFit p n = (f : ℕ) (g : Function) → f < n → slice_get p.functions f ≡ Some g → frame_size p g ≤ frame_limit

-- the greatest count that a refusal names
abbrev pub greatest_count : ℕ
greatest_count = 18446744073709551615

-- the frame of the function with a number is too large, and needs so many bytes
pub record PassesFrame (p : Program) (f named bytes : ℕ) : Type 0 where
  pub function : Function
  pub there : slice_get p.functions f ≡ Some function
  pub past : frame_limit < frame_size p function
  pub is_function : named ≡ f
  pub count : bytes ≡ min (frame_size p function) greatest_count

-- that of the function that is named is, and those before it aren't
pub record PassesFirstFrame (p : Program) (named bytes : ℕ) : Type 0 where
  pub before : FramesFit p named
  pub first : PassesFrame p named named bytes

-- ---- code

-- code is what is selected for a body
pub record IsCodeOf (attributed : Bool) (body : Body) (code : Labelled) : Type 0 where
  pub suitable : IsSuitable body
  pub selected : IsSelected attributed body code

-- the code of the function with a number, whose frame is small enough
pub record HasCode (p : Program) (f : ℕ) (body : Body) (code : Labelled) : Type 0 where
  pub function : Function
  pub there : slice_get p.functions f ≡ Some function
  pub is_code : IsCodeOf function.attributed body code
  pub frame : frame_size p function ≤ frame_limit

-- the code of each function, in order
pub record HaveCode (p : Program) (bodies : List Body) (codes : List Labelled) : Type 0 where
  pub one_each : length codes ≡ length p.functions
  pub each : (f : ℕ) (body : Body) (code : Labelled) → slice_get bodies f ≡ Some body → slice_get codes f ≡ Some code → HasCode p f body code
