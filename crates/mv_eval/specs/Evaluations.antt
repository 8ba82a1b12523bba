-- What it is to evaluate a program on what a source has still to come.
use Rattle.std.specs.Prelude.{ℕ, ◌≡◌, ◌≤◌, Bool, true, false, List, [], ◌++◌, take, length, Option, Result, Ok, Err}
use Rattle.mv_ast.specs.declared.program.Program.{Program}
use Rattle.mv_meaning.specs.declared.meant.End.{End}
use Rattle.mv_meaning.specs.declared.meant.Meant.{Meant}
use Rattle.mv_meaning.specs.Meaning.{mean}
use Rattle.mv_io.specs.Outside.{Lost, MayCome, OnInput}
use Rattle.mv_eval.specs.declared.error.EvalError.{EvalError}
use Rattle.mv_eval.specs.declared.error.EvalError.TheVariants.{Input, Output, Memory}

-- how many bytes are read at most, 2^24
abbrev pub most : ℕ
most = 16777216

-- what was taken is all that is read of an input which may go on so: its first bytes, or all of it
abbrev pub IsInput : (taken later : List ℕ) → Type 0
IsInput taken later = taken ≡ take most (taken ++ later)

-- the program's meaning on an input at a bound; no operator acts
abbrev pub meaning : Program → (bound : ℕ) → (input : List ℕ) → Meant
meaning p bound input = mean p input [] bound

-- an evaluation has no end since a read failed, or a write
abbrev pub is_input_error : {T : Type 0} → Result T EvalError → Bool
is_input_error (Ok given) = false
is_input_error (Err Input) = true
is_input_error (Err Output) = false
is_input_error (Err (Memory e)) = false

abbrev pub is_output_error : {T : Type 0} → Result T EvalError → Bool
is_output_error (Ok given) = false
is_output_error (Err Input) = false
is_output_error (Err Output) = true
is_output_error (Err (Memory e)) = false

module _ (p : Program) (bound : ℕ) (left left' : Option (List ℕ)) (Wrote : List ℕ → Type 0) (input_rose output_rose : Type 0) where
  -- What was taken from the source and written, by the answer: all of the input and all of the output; or a part of them, from their start.
  abbrev pub Evaluates : Result End EvalError → Type 0
  Evaluates (Ok «end») = OnInput left left' (λ taken later. IsInput taken later × ((meaning p bound taken).«end» ≡ «end») × Wrote (meaning p bound taken).output)
  Evaluates (Err Input) = OnInput left left' (λ taken later. length taken ≤ most) × Wrote [] × input_rose
  Evaluates (Err Output) = (count : ℕ) × OnInput left left' (λ taken later. IsInput taken later × Wrote (take count (meaning p bound taken).output)) × output_rose
  Evaluates (Err (Memory e)) = OnInput left left' (λ taken later. length taken ≤ most) × Wrote []

-- what a reading of the input took: all of it, or a part
module _ (left left' : Option (List ℕ)) (input_rose : Type 0) where
  abbrev pub ReadsInput : Result (List ℕ) EvalError → Type 0
  ReadsInput (Ok bytes) = Lost left left' bytes × ((later : List ℕ) → MayCome left' later → IsInput bytes later)
  ReadsInput (Err Input) = OnInput left left' (λ taken later. length taken ≤ most) × input_rose
  ReadsInput (Err Output) = ⊥
  ReadsInput (Err (Memory e)) = OnInput left left' (λ taken later. length taken ≤ most)
