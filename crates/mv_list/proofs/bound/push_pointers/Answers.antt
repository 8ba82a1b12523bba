use Rattle.std.proofs.Common.{ℕ, ◌+◌, ◌++◌, List, drop, slice_index_or, sym, ap, ◌∙◌, append_assoc}
use Rattle.std.proofs.lemmas.List.{at_drop_more}
use Rattle.mv_bindings.specs.declared.binding.Binding.{Binding}
use Rattle.mv_bindings.specs.Bindings.{free}
use Rattle.mv_descriptors.specs.declared.rows.PointerRow.{PointerRow}
use Rattle.mv_list.specs.Bindings.{pointed_line, pointed_from}
use Rattle.mv_list.proofs.bound.push_pointers.Goals as goal

pub loop-row-preserved : goal.loop-row-preserved
unfolding pointed_from
loop-row-preserved c =
    let image = c.args.image.now in
    let bound = c.args.bound.now in
    let rows = c.as_slice-rows.result.now in
    let i = c.loop-row._row-index in
    let n = c.loop-row.number in
    let before = c.loop-row.out.items in
    let rest = pointed_from image bound (n + 1) (drop (i + 1) rows) in
    let none : PointerRow = record { length = 0; address = 0 } in (
      ap (λ (k : ℕ). k + 1) c.loop-row.invariant.0,
      ap (λ (out : List ℕ). out ++ rest) (c.in_ok-push_pointed.ensures ∙ ap (λ (b : Binding). before ++ pointed_line image n b) c.binding_at.ensures)
          ∙ (append_assoc before (pointed_line image n (slice_index_or bound n free)) rest
          ∙ (ap (λ (lines : List ℕ). before ++ lines) (sym (at_drop_more (λ (rs : List PointerRow). pointed_from image bound n rs) rows i none c.loop-row-test.true))
          ∙ c.loop-row.invariant.1)),
    )
