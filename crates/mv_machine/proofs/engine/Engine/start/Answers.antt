use Rattle.std.proofs.Common.{refl, ap, ap₂, ◌∙◌, ◌+◌, ◌*◌, length}
use Rattle.mv_fetch.specs.Held.{first as first_memory}
use Rattle.mv_machine.proofs.Starts.{started}
use Rattle.mv_machine.proofs.engine.Engine.start.Goals as goal

pub returns : goal.returns
returns c = (
  refl,
  λ input.
      started c.args.number c.args.image.now c.in_ok-copied.field-0 c.entry.result c.in_ok-new.field-0 c.in_ok-all_free.field-0 (c.len.result + c.len-2.result) (c.len-3.result + 2 * c.len-4.result + 4 * c.len-5.result)
      c.in_ok-copied.ensures
      c.entry.ensures.value
      (c.in_ok-new.ensures.held ∙ ap₂ (λ a b. first_memory a b) c.text.ensures.value c.globals.ensures)
      c.in_ok-new.ensures.spare
      c.in_ok-new.ensures.reserve
      (ap₂ (λ a b. a + b) (ap₂ (λ a b. a + 2 * b) (c.len-3.ensures ∙ ap length c.functions-2.ensures) (c.len-4.ensures ∙ ap length c.sites.ensures)) (ap (λ a. 4 * a) (c.len-5.ensures ∙ ap length c.points.ensures)))
      c.in_ok-all_free.ensures
      (ap₂ (λ a b. a + b) (c.len.ensures ∙ ap length c.functions.ensures) (c.len-2.ensures ∙ ap length c.pointers.ensures)) input,
)
