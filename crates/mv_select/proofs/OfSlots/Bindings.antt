-- Equal bindings are told.
use Rattle.std.proofs.Common.{◌≡◌, ap₂, subst, List, [], ◌∷◌, true, refl}
use Rattle.std.proofs.lemmas.Bool.{and_parts, and_from}
use Rattle.mv_bindings.specs.declared.binding.Binding.{Binding}
use Rattle.mv_bindings.specs.Bindings.{is_same_binding}
use Rattle.mv_ir_worlds.proofs.Combining.{binding_told, binding_same}
use Rattle.mv_select.specs.Slots.Narrowed.{same_bindings}
use Rattle.mv_select.specs.Slots.Laws.{BindingsAreTold}

told : (xs ys : List Binding) → same_bindings xs ys ≡ true → xs ≡ ys
told [] [] h = refl
told [] (y ∷ ys) h = absurd (cc)
told (x ∷ xs) [] h = absurd (cc)
told (x ∷ xs) (y ∷ ys) h =
    let p = and_parts (is_same_binding x y) (same_bindings xs ys) h in ap₂ (λ a as'. a ∷ as') (binding_told x y p.0) (told xs ys p.1)

same : (xs : List Binding) → same_bindings xs xs ≡ true
same [] = refl
same (x ∷ xs) = and_from (is_same_binding x x) (same_bindings xs xs) (binding_same x x refl) (same xs)

pub bindings_are_told : BindingsAreTold
bindings_are_told xs ys = (told xs ys, λ e. subst (λ (zs : List Binding). same_bindings xs zs ≡ true) e (same xs))
