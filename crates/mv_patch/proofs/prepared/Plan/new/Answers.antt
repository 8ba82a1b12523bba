use Rattle.std.proofs.Common.{◌≡◌, ℕ, ◌+◌, ◌*◌, List, [], length, replicate, refl, ap, ◌∙◌, arith}
use Rattle.mv_bindings.specs.declared.binding.Binding.{Binding}
use Rattle.mv_bindings.specs.Bindings.{free}
use Rattle.mv_image.specs.Spelling.{Fields}
use Rattle.mv_patch.specs.declared.prepared.Pair.{Pair}
use Rattle.mv_patch.specs.Plans.{Prepared}
use Rattle.mv_patch.specs.Orders.{binding_count, first_bindings}
use Rattle.mv_patch.specs.Tables.{patchable}
use Rattle.mv_patch.proofs.prepared.Plan.new.Goals as goal

abbrev plan_with : List Pair → List Binding → ℕ → Prepared
plan_with pairs bound room = record { planned = record { pairs = pairs; bound = bound; answer = 0 }; room = room }

made : (image : Fields) (pairs : List Pair) (bound : List Binding) (room : ℕ) → pairs ≡ [] → bound ≡ first_bindings image → room ≡ patchable image → plan_with pairs bound room ≡ plan_with [] (first_bindings image) (patchable image)
made image pairs bound room e f g = rw (e, f, g) refl

room_is : (image : Fields) (m n q : ℕ) → m ≡ length image.functions → n ≡ length image.sites → q ≡ length image.points → m + 2 * n + 4 * q ≡ patchable image
unfolding patchable
room_is image m n q e f g = omega (arith, e, f, g)

pub returns : goal.returns
returns c =
    let image = c.args.image.now in
    let functions = c.len.ensures ∙ ap length c.functions.ensures in
    let pointers = c.len-2.ensures ∙ ap length c.pointers.ensures in
    let bindings : c.len.result + c.len-2.result ≡ binding_count image = omega (arith, functions, pointers) in
    made image _ _ _ c.in_ok-with_capacity.ensures.items (c.in_ok-all_free.ensures ∙ ap (λ (n : ℕ). replicate n free) bindings)
    (room_is image c.len-3.result c.len-4.result c.len-5.result (c.len-3.ensures ∙ ap length c.functions-2.ensures) (c.len-4.ensures ∙ ap length c.sites.ensures) (c.len-5.ensures ∙ ap length c.points.ensures))
