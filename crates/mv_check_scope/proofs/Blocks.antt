-- The block that was entered last, and those before it.
use Rattle.std.proofs.Common.{◌≡◌, refl, List, [], ◌∷◌, ◌++◌, ap, ap₂}
use Rattle.mv_check_scope.specs.Scopes.{last_block, before_last, entered, left}
use Rattle.mv_check_scope.specs.Names.{Names, Space}

pub last_of : (bs : List Names) (b : Names) → last_block (bs ++ b ∷ []) ≡ b
last_of [] b = refl
last_of (x ∷ []) b = refl
last_of (x ∷ y ∷ bs) b = last_of (y ∷ bs) b

pub before : (bs : List Names) (b : Names) → before_last (bs ++ b ∷ []) ≡ bs
before [] b = refl
before (x ∷ []) b = refl
before (x ∷ y ∷ bs) b = ap (λ z. x ∷ z) (before (y ∷ bs) b)

-- a block that is entered and left leaves the name space as it was
pub left_again : (space : Space) → left (entered space) ≡ space
left_again space =
    let make : Names → List Names → Space = λ x y. record { here = x; around = y } in
    ap₂ make (last_of space.around space.here) (before space.around space.here)
