-- What has become of a function or pointer switch that is bound.
use Rattle.std.proofs.Common.{◌≡◌, ◌∙◌, ℕ, List, ◌++◌, Bool, true, codes, if◌then◌else◌, ap, sym}
use Rattle.std.proofs.lemmas.List.{append_assoc}
use Rattle.mv_bindings.specs.declared.binding.Event.{Event}
use Rattle.mv_image.specs.Spelling.{Fields}
use Rattle.mv_list.specs.Events.{bound_name, bound_to_text, news_text}

-- the words that it is bound, its name, and what it is bound to, one behind the other
pub bound_news : (image : Fields) (event : Event) (old first second new : List ℕ) → event.binding.bound ≡ true → first ≡ old ++ codes "bound " → second ≡ first ++ bound_name image event.function →
    new ≡ second ++ bound_to_text image event → new ≡ old ++ news_text image event
bound_news image event old first second new bound a b c =
    let name = bound_name image event.function in
    let to = bound_to_text image event in
    let all : new ≡ ((old ++ codes "bound ") ++ name) ++ to = c ∙ ap (λ x. x ++ to) (b ∙ ap (λ x. x ++ name) a) in
    let whole : news_text image event ≡ codes "bound " ++ (name ++ to) =
    ap (λ (z : Bool). if z then codes "bound " ++ (name ++ to) else codes "freed " ++ name) bound
    in
    all ∙ append_assoc (old ++ codes "bound ") name to ∙ append_assoc old (codes "bound ") (name ++ to) ∙ sym (ap (λ x. old ++ x) whole)
