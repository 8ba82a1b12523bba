-- Whether an engine's bindings have another text than those that it had.
use Rattle.std.proofs.Common.{◌≡◌, ℕ, Bool, false, List, sym, ap, ◌∙◌}
use Rattle.mv_bindings.specs.declared.binding.Binding.{Binding}
use Rattle.mv_fetch.specs.Held.{Held}
use Rattle.mv_image.specs.Spelling.{Fields}
use Rattle.mv_image.specs.Patched.{text_of}
use Rattle.mv_patch.specs.Orders.{values_of}
use Rattle.mv_patch.specs.Plans.{Planned, plan_of, plan_between}
use Rattle.mv_patch.proofs.Common.{none_differ}
use Rattle.mv_machine.specs.Commits.{is_some_pair}

-- the same bindings have the same text
pub stays_closed : (image : Fields) (bound : List Binding) (opened : Bool) → opened ≡ false → opened ≡ is_some_pair (plan_between image bound bound)
stays_closed image bound opened e = e ∙ sym (ap is_some_pair (none_differ 0x1000 (text_of image (values_of bound))))

-- those behind a plan have another text where it has pairs
pub opens_by : (image : Fields) (held : Held) (old new : List Binding) (code index : ℕ) (plan : Planned) (opened : Bool) → plan ≡ plan_of image held old code index → opened ≡ is_some_pair plan.pairs → new ≡ plan.bound
    → opened ≡ is_some_pair (plan_between image old new)
unfolding plan_of
opens_by image held old new code index plan opened is o b =
    o ∙ ap (λ (p : Planned). is_some_pair p.pairs) is ∙ ap (λ (bs : List Binding). is_some_pair (plan_between image old bs)) (sym (b ∙ ap (λ (p : Planned). p.bound) is))
