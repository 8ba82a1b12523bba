-- The last of some trees, and the others.
use Rattle.std.proofs.Common.{◌≡◌, List, [], ◌∷◌, ◌++◌, refl, ap}
use Rattle.mv_ir.specs.declared.tree.Tree.{Tree}
use Rattle.mv_lower_spec.specs.Lowered.{last_of, but_last}

pub last_pushed : (ts : List Tree) (t : Tree) → last_of (ts ++ t ∷ []) ≡ t
last_pushed [] t = refl
last_pushed (x ∷ []) t = refl
last_pushed (x ∷ y ∷ ts) t = last_pushed (y ∷ ts) t

pub others_pushed : (ts : List Tree) (t : Tree) → but_last (ts ++ t ∷ []) ≡ ts
others_pushed [] t = refl
others_pushed (x ∷ []) t = refl
others_pushed (x ∷ y ∷ ts) t = ap (λ l. x ∷ l) (others_pushed (y ∷ ts) t)

pub ruleset lasts = (last_pushed, others_pushed)
