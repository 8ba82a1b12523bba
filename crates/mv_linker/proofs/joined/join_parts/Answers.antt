use Rattle.std.proofs.Common.{refl}
use Rattle.mv_linker.proofs.Joining.{joined_in_order, numbers_left}
use Rattle.mv_linker.proofs.joined.join_parts.Goals as goal

pub push_all_variants-requires-clause-entries : goal.push_all_variants-requires-clause-entries
push_all_variants-requires-clause-entries c =
    let functions = rw c.as_slice.ensures at c.in_ok-push_functions.ensures in
    rw c.as_slice-2.ensures
    (numbers_left c.args.parts.now c.requires.labels (record { code = record { items = c.push_stubs.new.items; labels = c.code_count.result }; entries = c.new.result }) c.push_functions.new.joined
    (rw (c.in_ok-push_stubs.ensures, c.len.ensures, c.new-items.ensures, c.code_count.ensures, c.new.ensures) refl) functions).entries

pub push_all_variants-requires-clause-labels : goal.push_all_variants-requires-clause-labels
push_all_variants-requires-clause-labels c =
    let functions = rw c.as_slice.ensures at c.in_ok-push_functions.ensures in
    rw c.as_slice-2.ensures
    (numbers_left c.args.parts.now c.requires.labels (record { code = record { items = c.push_stubs.new.items; labels = c.code_count.result }; entries = c.new.result }) c.push_functions.new.joined
    (rw (c.in_ok-push_stubs.ensures, c.len.ensures, c.new-items.ensures, c.code_count.ensures, c.new.ensures) refl) functions).labels

pub returns : goal.returns
returns c =
    let functions = rw c.as_slice.ensures at c.in_ok-push_functions.ensures in
    let all = rw c.as_slice-2.ensures at c.in_ok-push_all_variants.ensures in
    joined_in_order c.args.parts.now (record { code = record { items = c.push_stubs.new.items; labels = c.code_count.result }; entries = c.new.result }) c.push_functions.new.joined
    c.push_all_variants.new.joined (rw (c.in_ok-push_stubs.ensures, c.len.ensures, c.new-items.ensures, c.code_count.ensures, c.new.ensures) refl) functions all
