-- What was read of a source, byte by byte.
use Rattle.std.proofs.Common.{ℕ, ◌≡◌, ◌≤◌, List, [], ◌∷◌, ◌++◌, length, take, sym, ap, ◌∙◌, subst, Option, Some, None, Ok, Err}
use Rattle.std.proofs.lemmas.List.{append-nil, take_all}
use Rattle.std.proofs.Math.Seq.{take-append_seam}
use Rattle.mv_io.specs.Outside.{Lost, MayCome, OnInput, Takes}
use Rattle.mv_io.specs.declared.outside.Failed.{Failed}
use Rattle.mv_io.proofs.Common.{lost_both}
use Rattle.mv_eval.specs.Evaluations.{most, IsInput}

module _ (before mid now : Option (List ℕ)) (bytes : List ℕ) (lost : Lost before mid bytes) where
  -- one byte more
  pub lost_more : (b : ℕ) → Takes {E = Failed} mid now (Ok (Some b)) → Lost before now (bytes ++ b ∷ [])
  lost_more b t = lost_both before mid now bytes (b ∷ []) lost t

  -- no byte more, since the source failed
  pub lost_still : (e : Failed) → Takes {E = Failed} mid now (Err e) → Lost before now bytes
  lost_still e t = subst (λ (o : Option (List ℕ)). Lost before o bytes) (sym t) lost

  -- all bytes of the source
  pub whole : length bytes ≤ most → Takes {E = Failed} mid now (Ok None) → Lost before now bytes × ((later : List ℕ) → MayCome now later → IsInput bytes later)
  whole few t = (
    subst (Lost before now) (append-nil bytes) (lost_both before mid now bytes [] lost t.0),
    λ later may.
        let none : later ≡ [] = subst (λ (o : Option (List ℕ)). MayCome o later) t.1 may in
        sym (ap (λ (z : List ℕ). take most (bytes ++ z)) none ∙ ap (take most) (append-nil bytes) ∙ take_all most bytes few),
  )

-- no more bytes than are read at most
pub part : (before now : Option (List ℕ)) (bytes : List ℕ) → Lost before now bytes → length bytes ≤ most → OnInput before now (λ taken later. length taken ≤ most)
part before now bytes lost few = (bytes, lost, λ later may. few)

-- as many bytes as are read at most
pub full : (bytes : List ℕ) → length bytes ≡ most → (later : List ℕ) → IsInput bytes later
full bytes long later = sym (ap (λ n. take n (bytes ++ later)) (sym long) ∙ take-append_seam bytes later)
