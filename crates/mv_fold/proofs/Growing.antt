-- A list that grows by what each item of another gives.
use Rattle.std.proofs.Common.{◌≡◌, ℕ, ◌+◌, ◌<◌, List, ◌++◌, length, map, take, get_or, sym, ◌∙◌, ap, subst, append_assoc}
use Rattle.mv_ir.specs.Measures.{joined}
use Rattle.mv_ir.proofs.Lists.{joined_push}

-- the step of a loop over the items, which are those of the list
pub grown : {A B : Type 0} (f : A → List B) (start old new : List B) (xs items : List A) (i : ℕ) (d : A) →
    items ≡ xs → i < length items → d ≡ get_or items i d → old ≡ start ++ joined (map f (take i xs)) → new ≡ old ++ f d → new ≡ start ++ joined (map f (take (i + 1) xs))
grown f start old new xs items i d same lt e h k =
    let push = joined_push f items i d lt in
    let push' = subst (λ l. joined (map f (take (i + 1) l)) ≡ joined (map f (take i l)) ++ f (get_or items i d)) same push in
    k ∙ ap (λ l. l ++ f d) h ∙ append_assoc start (joined (map f (take i xs))) (f d) ∙ ap (λ x. start ++ (joined (map f (take i xs)) ++ f x)) e ∙ ap (λ l. start ++ l) (sym push')
