-- Facts that stay of others, one after the other.
use Rattle.std.proofs.Common.{◌≡◌, ℕ, ◌<◌, ◌⊎◌, inl, inr, Bool, false, List, [], ◌∷◌, ◌++◌, length, take, drop, get_or, sym, subst}
use Rattle.std.specs.Prelude.{Contains}
use Rattle.std.proofs.lemmas.List.{take-append-drop}
use Rattle.std.proofs.lemmas.List.Elements.{Contains-get_or, Contains-append_left, Contains-append_right, Contains-push_cases}
use Rattle.mv_propagate.specs.declared.facts.Held.{Held}
use Rattle.mv_propagate.specs.declared.facts.Fact.{Fact}
use Rattle.mv_propagate.specs.Facts.{names, Staying}
use Rattle.mv_propagate.specs.Propagating.{fact, Unwritten, Learned}

pub among : (facts : List Fact) (i : ℕ) (known : Fact) → i < length facts → known ≡ get_or facts i known → Contains facts known
among facts i known lt e = subst (Contains facts) (sym e) (Contains-get_or facts i known lt)

pub stay_more : (gone : Fact → Bool) (facts kept kept' : List Fact) (known : Fact) → Staying gone facts kept → Contains facts known → gone known ≡ false → kept' ≡ kept ++ known ∷ [] →
    Staying gone facts kept'
stay_more gone facts kept kept' known stay has stays e f h = by (Contains-push_cases kept known f (subst (λ fs. Contains fs f) e h))
  where
    by : Contains kept f ⊎ (known ≡ f) → Contains facts f × (gone f ≡ false)
    by (inl c) = stay f c
    by (inr same) = (subst (Contains facts) same has, subst (λ g. gone g ≡ false) same stays)

-- those of a part are among all
part : (facts : List Fact) (m n : ℕ) (f : Fact) → Contains (take m (drop n facts)) f → Contains facts f
part facts m n f h =
    subst (λ fs. Contains fs f) (take-append-drop n facts) (Contains-append_right (take n facts) (drop n facts) f
    (subst (λ fs. Contains fs f) (take-append-drop m (drop n facts)) (Contains-append_left (take m (drop n facts)) (drop m (drop n facts)) f h)))

pub learn : (t : ℕ) (held : Held) (facts some kept known : List Fact) (m n : ℕ) → some ≡ take m (drop n facts) → Unwritten t some kept →
    known ≡ kept ++ fact t held ∷ [] → Learned t held facts known
learn t held facts some kept known m n is stay e f h = by (Contains-push_cases kept (fact t held) f (subst (λ fs. Contains fs f) e h))
  where
    by : Contains kept f ⊎ (fact t held ≡ f) → (f ≡ fact t held) ⊎ (Contains facts f × (names t f ≡ false))
    by (inl c) = let s = stay f c in inr (part facts m n f (subst (λ fs. Contains fs f) is s.0), s.1)
    by (inr same) = inl (sym same)
