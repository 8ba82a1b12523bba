use Rattle.std.proofs.Common.{◌≡◌, List, true, false, length, get_or, refl, sym, ap, ◌∙◌}
use Rattle.std.proofs.lemmas.List.{get_or_default}
use Rattle.mv_descriptors.specs.declared.rows.PointerRow.{PointerRow}
use Rattle.mv_patch.specs.Orders.{code_of, index_of, is_pointer_ordered, pointed_now}
use Rattle.mv_patch.proofs.bindings.next_pointer.Goals as goal

pub returns-then-not-addresses_pointer : goal.returns-then-not-addresses_pointer
returns-then-not-addresses_pointer c d =
    let image = c.args.image.now in
    let row = get_or image.pointers c.args.number d in
    let none : is_pointer_ordered image (code_of c.args.order) (index_of c.args.order) c.args.number row ≡ false =
    sym (c.addresses_pointer.ensures image row (sym (c.len.ensures ∙ ap length c.switches.ensures))) ∙ c.if-not-addresses_pointer.true in
    rw none refl

pub returns-then-is_commit : goal.returns-then-is_commit
returns-then-is_commit c d =
    let image = c.args.image.now in
    let row = get_or image.pointers c.args.number d in
    let some : is_pointer_ordered image (code_of c.args.order) (index_of c.args.order) c.args.number row ≡ true =
    sym (c.addresses_pointer.ensures image row (sym (c.len.ensures ∙ ap length c.switches.ensures))) ∙ c.if-not-addresses_pointer.false in
    let commits = sym c.is_commit.ensures ∙ c.if-is_commit.true in
    let none : PointerRow = record { length = 0; address = 0 } in
    rw (some, commits) (c.pointed_now.ensures ∙ ap (pointed_now image c.args.memory.now.held)
    (ap (λ (rows : List PointerRow). get_or rows c.args.number none) (c.as_slice.ensures ∙ c.pointers.ensures) ∙ get_or_default image.pointers c.args.number none d c.requires))

pub returns-else-is_commit : goal.returns-else-is_commit
returns-else-is_commit c d =
    let image = c.args.image.now in
    let row = get_or image.pointers c.args.number d in
    let some : is_pointer_ordered image (code_of c.args.order) (index_of c.args.order) c.args.number row ≡ true =
    sym (c.addresses_pointer.ensures image row (sym (c.len.ensures ∙ ap length c.switches.ensures))) ∙ c.if-not-addresses_pointer.false in
    let reverts = sym c.is_commit.ensures ∙ c.if-is_commit.false in
    rw (some, reverts) c.free.ensures
