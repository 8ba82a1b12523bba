-- From the reading, the evaluation and the writing to the whole.
use Rattle.std.proofs.Common.{ℕ, ◌≡◌, ◌≤◌, List, [], ◌++◌, length, take, refl, sym, ap, subst, arith, Option, Some, None, Ok}
use Rattle.std.proofs.lemmas.List.{append-nil, length-take}
use Rattle.mv_ast.specs.declared.program.Program.{Program}
use Rattle.mv_io.specs.Outside.{Lost, MayCome, OnInput}
use Rattle.mv_meaning.specs.declared.meant.Meant.{Meant}
use Rattle.mv_meaning.specs.Growth.{with_capped_work}
use Rattle.mv_eval.specs.Evaluations.{most, IsInput, Evaluates, meaning}
use Rattle.mv_eval.specs.Grown.{Grew}

pub nothing_grown : (written : Option (List ℕ)) → Grew written written []
nothing_grown None = refl
nothing_grown (Some bytes) = ap Some (sym (append-nil bytes))

module _ (left left' : Option (List ℕ)) (input : List ℕ) (read : Lost left left' input × ((later : List ℕ) → MayCome left' later → IsInput input later)) where
  -- no more bytes than are read at most
  pub part_of : OnInput left left' (λ taken later. length taken ≤ most)
  part_of = (
    input,
    read.0,
    λ later may.
        let all : length input ≡ length (take most (input ++ later)) = ap length (read.1 later may) in
        omega (arith, all, length-take most (input ++ later)),
  )

  module _ (p : Program) (bound : ℕ) (Wrote : List ℕ → Type 0) (input_rose output_rose : Type 0) (meant : Meant) (means : meant ≡ with_capped_work (meaning p bound input)) where
    pub ended : Wrote meant.output → Evaluates p bound left left' Wrote input_rose output_rose (Ok meant.«end»)
    ended wrote = (
      input,
      read.0,
      λ later may. (read.1 later may, sym (ap (λ (m : Meant). m.«end») means), subst Wrote (ap (λ (m : Meant). m.output) means) wrote),
    )
