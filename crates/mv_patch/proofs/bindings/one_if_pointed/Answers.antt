use Rattle.std.proofs.Common.{◌≡◌, true, false, refl, sym, ◌∙◌}
use Rattle.mv_patch.specs.Orders.{code_of, index_of, is_pointer_ordered}
use Rattle.mv_patch.proofs.bindings.one_if_pointed.Goals as goal
use Rattle.mv_patch.proofs.bindings.one_if_pointed.Goals.{else-addresses_pointer-via-then-addresses_pointer+else-binding, else-addresses_pointer-via-else-addresses_pointer}

pub returns-then-binding : goal.returns-then-binding
returns-then-binding c image row e =
    let addressed : is_pointer_ordered image (code_of c.args.order) (index_of c.args.order) c.args.number row ≡ true = sym (c.addresses_pointer.ensures image row e) ∙ c.if-addresses_pointer.true in
    rw (addressed, c.if-binding.true) refl

pub returns-else-addresses_pointer : goal.returns-else-addresses_pointer
returns-else-addresses_pointer c image row e =
    elim c.else-addresses_pointer.branch [
      | else-addresses_pointer-via-then-addresses_pointer+else-binding w ↦
          let addressed : is_pointer_ordered image (code_of c.args.order) (index_of c.args.order) c.args.number row ≡ true = sym (c.addresses_pointer.ensures image row e) ∙ w.if-addresses_pointer.true in
          rw (addressed, w.if-binding.false) refl
      | else-addresses_pointer-via-else-addresses_pointer w ↦
          let not_addressed : is_pointer_ordered image (code_of c.args.order) (index_of c.args.order) c.args.number row ≡ false = sym (c.addresses_pointer.ensures image row e) ∙ w.if-addresses_pointer.false in
          rw not_addressed refl
    ]
