-- Numberings of the functions of a program, and what the program means under one.
use Rattle.std.specs.Prelude.{◌≡◌, ◌≢◌, ℕ, ◌<◌, ◌^◌, Bool, true, All, AllPairs, List, [], length, Some, slice_get}
use Rattle.mv_ast.specs.declared.program.CType.{CType}
use Rattle.mv_ast.specs.declared.program.Program.{Program}
use Rattle.mv_ast.specs.declared.program.Signature.{Signature}
use Rattle.mv_bindings.specs.Acts.{Act}
use Rattle.mv_meaning.specs.declared.meant.Meant.{Meant}
use Rattle.mv_ast.specs.Starts.{first_world_under}
use Rattle.mv_meaning.specs.Meaning.{Context, context_at, meaning_of, run_of_main}
use Rattle.mv_source_forms.specs.Typing.{IsFunctionOf}

-- A numbering has a word above 0 for each function, different for different functions.
pub record IsNumbering (p : Program) (numbers : List ℕ) : Type 0 where
  pub count : length numbers ≡ length p.functions
  pub words : All (λ n. (0 < n) × (n < 2 ^ 32)) numbers
  pub different : AllPairs (λ m n. m ≢ n) numbers

-- The meaning of a program in what is around its evaluation: function pointers have the numbers there, the first values of globals among them.
abbrev pub meaning_in : Program → Context → (numbers : List ℕ) → (hart : ℕ) → (input : List ℕ) → (actions : List Act) → Meant
meaning_in p context numbers hart input actions =
    meaning_of (run_of_main p context (slice_get p.functions p.main) (record { function = p.main; locals = [] }) (first_world_under p numbers hart input actions))

-- The meaning of a program in a hart under a numbering.
abbrev pub meaning_under : Program → (numbers : List ℕ) → (hart : ℕ) → (input : List ℕ) → (actions : List Act) → (bound : ℕ) → Meant
meaning_under p numbers hart input actions bound = meaning_in p (context_at p numbers bound) numbers hart input actions

-- whether a call through a pointer may reach each function of the pointer's type
abbrev pub Admits : Program → (lets : (type : CType) (function arguments : ℕ) → Bool) → Type 0
Admits p lets =
    (s f : ℕ) (signature : Signature) → slice_get p.signatures s ≡ Some signature → IsFunctionOf p s f →
    lets signature.result f (length signature.params) ≡ true
