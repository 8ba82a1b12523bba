-- Arguments for which no parameter is left.
use Rattle.std.proofs.Common.{◌≡◌, ◌<◌, refl, List, [], ◌∷◌, length, arith}
use Rattle.mv_ast.specs.declared.program.CType.{CType}
use Rattle.mv_check_expressions.specs.declared.seen.Seen.{Seen}
use Rattle.mv_check_expressions.specs.Calls.{passed, all_convert}

pub none_passed : (ts : List CType) (x : Seen) (xs : List Seen) → length ts < 1 → passed ts (x ∷ xs) ≡ passed ts xs
none_passed [] x [] h = refl
none_passed [] x (y ∷ ys) h = refl
none_passed (t ∷ ts) x xs h = absurd (omega (arith, h))

pub none_converts : (ts : List CType) (x : Seen) (xs : List Seen) → length ts < 1 → all_convert ts (x ∷ xs) ≡ all_convert ts xs
none_converts [] x [] h = refl
none_converts [] x (y ∷ ys) h = refl
none_converts (t ∷ ts) x xs h = absurd (omega (arith, h))
