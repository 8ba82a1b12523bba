-- What a body means and has that comes of another by tidying it, binding its switches, carrying numbers, folding and renaming.
use Rattle.std.specs.Prelude.{ℕ, ◌≡◌, ◌≤◌, List, All, None}
use Rattle.std.specs.List.{zip}
use Rattle.mv_ast.specs.declared.program.Program.{Program}
use Rattle.mv_ast.specs.declared.program.Function.{Function}
use Rattle.mv_ir.specs.declared.stm.Stm.{Stm}
use Rattle.mv_ir.specs.declared.body.Body.{Body}
use Rattle.mv_ir.specs.Trees.{found}
use Rattle.mv_ir.specs.Shorts.{Shorts, KeepsUnderWith}
use Rattle.mv_ir.specs.Measures.{scalars_read, calls, deepest}
use Rattle.mv_ir.specs.Live.{IsWhole, HasTemps}
use Rattle.mv_ir.specs.WellFormed.{IsWellFormed}
use Rattle.mv_clone.specs.Bind.{IsBound}
use Rattle.mv_carry.specs.Carried.{IsCarried}
use Rattle.mv_fold.specs.Form.{IsFoldedForm}
use Rattle.mv_fold.specs.Folded.{IsFolded}
use Rattle.mv_regalloc.specs.Rename.{renamed_code}
use Rattle.mv_regalloc.specs.Intervals.{IsRenamed}
use Rattle.mv_lower_spec.specs.Functions.{lower_function}
use Rattle.mv_variants.specs.Bound.Shorts.{IsReady, HasRoom}

-- a body bound to the values of its switches, then with numbers carried through its temporaries, then folded, then with its temporaries renamed
pub record IsWorked (ps : List (ℕ × ℕ)) (body result : Body) : Type 0 where
  pub bound : Body
  pub carried : Body
  pub folded : Body
  pub is_bound : IsBound ps body bound
  pub is_carried : IsCarried bound carried
  pub is_folded : IsFolded carried folded
  pub is_renamed : IsRenamed folded result

-- A body that is made ready, and then worked under these values.
pub record IsMadeUnder (shorts : Shorts) (ps : List (ℕ × ℕ)) (body result : Body) : Type 0 where
  pub ready : Body
  pub is_ready : IsReady shorts body ready
  pub worked : IsWorked ps ready result
  pub room : HasRoom body result

-- Whatever numbers temporaries get, code that has the folded form has it with them.
abbrev pub RenamingKeepsForm : Type 0
RenamingKeepsForm = (numbers : ℕ → ℕ) (code : List Stm) → IsFoldedForm code → IsFoldedForm (renamed_code numbers code)

-- Such a body keeps the meaning under these values, over callees that do what the short bodies do, reads none of the switches and has the folded form. It has no
-- more words and calls, there is room for its temporaries, and what else there is of it is the same.
pub record IsVariantOf (shorts : Shorts) (ps : List (ℕ × ℕ)) (body result : Body) : Type 0 where
  pub keeps : KeepsUnderWith shorts ps body result
  pub free : All (λ g. found ps g ≡ None) (scalars_read result.code)
  pub form : IsFoldedForm result.code
  pub deepest : deepest body.code ≤ 4 → deepest result.code ≤ 4
  pub calls : calls result.code ≤ calls body.code
  pub room : HasRoom body result
  pub whole : IsWhole result
  pub has_temps : HasTemps result
  pub well_formed : IsWellFormed body → IsWellFormed result
  pub params : result.params ≡ body.params
  pub sizes : result.arrays ≡ body.arrays
  pub rooms : result.rooms ≡ body.rooms
  pub marked : result.marked ≡ body.marked
  pub switches : result.switches ≡ body.switches

abbrev pub MadeAreVariants : Type 0
MadeAreVariants = (shorts : Shorts) (ps : List (ℕ × ℕ)) (body result : Body) → IsMadeUnder shorts ps body result → IsVariantOf shorts ps body result

-- of a lowered function, under values of its switches
abbrev pub LoweredAreVariants : Type 0
LoweredAreVariants =
    (shorts : Shorts) (p : Program) (g : Function) (vs : List ℕ) (result : Body) → IsMadeUnder shorts (zip (lower_function p g).switches vs) (lower_function p g) result →
    KeepsUnderWith shorts (zip (lower_function p g).switches vs) (lower_function p g) result
