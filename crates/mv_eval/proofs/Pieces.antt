-- What was written piece by piece.
use Rattle.std.proofs.Common.{ℕ, ◌≡◌, ◌≤◌, ◌+◌, ◌-◌, List, [], ◌++◌, length, take, drop, sym, ap, ◌∙◌, subst, arith, length-drop, Option, Some, None, Ok}
use Rattle.std.proofs.lemmas.List.{append_assoc, take_rest}
use Rattle.std.proofs.Math.Seq.{take-add}
use Rattle.mv_io.specs.Outside.{Appends}
use Rattle.mv_io.specs.declared.outside.Failed.{Failed}
use Rattle.mv_eval.specs.Grown.{Grew}

module _ (bytes : List ℕ) (done n : ℕ) where
  abbrev pub piece : List ℕ
  piece = take (length bytes - done) (drop done bytes)

  seam : take done bytes ++ take n piece ≡ take (done + n) bytes
  seam = ap (λ r. take done bytes ++ take n r) (take_rest bytes done) ∙ sym (take-add done n bytes)

  pub grew_more : (before mid now : Option (List ℕ)) → Grew before mid (take done bytes) → Appends {E = Failed} mid now piece (Ok n) → Grew before now (take (done + n) bytes)
  grew_more None mid now e a = subst (λ m. Appends {E = Failed} m now piece (Ok n)) e a
  grew_more (Some old) mid now e a =
      let b : now ≡ Some ((old ++ take done bytes) ++ take n piece) = subst (λ m. Appends {E = Failed} m now piece (Ok n)) e a in
      b ∙ ap Some (append_assoc old (take done bytes) (take n piece) ∙ ap (λ r. old ++ r) seam)

  pub still_within : done ≤ length bytes → n ≤ length piece → done + n ≤ length bytes
  still_within within small = let h : n ≤ length (drop done bytes) = subst (λ r. n ≤ length r) (take_rest bytes done) small in omega (arith, within, h, length-drop done bytes)
