use Rattle.std.proofs.Common.{sym, subst, ap, ◌∙◌, length, arith}
use Rattle.mv_linker.specs.Outcome.{IsLinked}
use Rattle.mv_linker.proofs.Fits.{within_all}
use Rattle.mv_linker.proofs.Images.{entries_within, start_count}
use Rattle.mv_linker.proofs.ImageLinked.{function_rows_fit, few_guards, pointers_fit, targets_named, data_fit, check_there, made_linked}
use Rattle.mv_linker.proofs.linking.tabled.Goals as goal

pub starts-requires : goal.starts-requires
starts-requires c =
    let within = entries_within c.args.parts.now c.requires.parts c.args.joined.now c.requires.joined c.args.placed.words c.args.placed.addresses c.requires.placed in
    rw (c.as_slice.ensures, c.as_slice-addresses.ensures) within

pub data-requires : goal.data-requires
data-requires c =
    let starts = rw (c.as_slice.ensures, c.as_slice-addresses.ensures) at c.in_ok-starts.ensures in
    let count = start_count c.args.parts.now c.requires.parts c.args.joined.now c.requires.joined c.args.placed.words c.args.placed.addresses c.requires.placed c.in_ok-starts.starts starts in
    rw (c.as_slice-2.ensures) (data_fit c.args.parts.now c.requires.parts (length c.as_slice-starts.result.now) (ap length c.as_slice-starts.ensures ∙ count))

pub function_rows-requires : goal.function_rows-requires
function_rows-requires c =
    let starts = rw (c.as_slice.ensures, c.as_slice-addresses.ensures) at c.in_ok-starts.ensures in
    let count = start_count c.args.parts.now c.requires.parts c.args.joined.now c.requires.joined c.args.placed.words c.args.placed.addresses c.requires.placed c.in_ok-starts.starts starts in
    let few = within_all c.args.parts.now in
    rw (c.as_slice-attributed.ensures)
    (function_rows_fit c.args.parts.now c.requires.tables (length c.as_slice-starts.result.now) (rw (ap length c.as_slice-starts.ensures ∙ count) few))

pub variant_rows-requires-clause-guards : goal.variant_rows-requires-clause-guards
variant_rows-requires-clause-guards c = rw (c.as_slice-attributed.ensures) (few_guards c.args.parts.now c.requires.tables)

pub point_rows-requires-clause-few : goal.point_rows-requires-clause-few
point_rows-requires-clause-few c = rw (c.as_slice-pointers.ensures) (omega (arith, c.requires.tables.few_pointers))

pub point_rows-requires-clause-words : goal.point_rows-requires-clause-words
point_rows-requires-clause-words c = rw (c.as_slice-pointers.ensures) (pointers_fit c.args.parts.now c.requires.tables c.requires.data)

pub pointer_rows-requires : goal.pointer_rows-requires
pointer_rows-requires c = rw (c.as_slice-pointers.ensures) (pointers_fit c.args.parts.now c.requires.tables c.requires.data)

pub target_rows-requires-clause-names : goal.target_rows-requires-clause-names
target_rows-requires-clause-names c = rw (c.as_slice-6.ensures) (targets_named c.args.parts.now c.requires.tables)

pub target_rows-requires-clause-starts : goal.target_rows-requires-clause-starts
target_rows-requires-clause-starts c =
    let starts = rw (c.as_slice.ensures, c.as_slice-addresses.ensures) at c.in_ok-starts.ensures in
    let count = start_count c.args.parts.now c.requires.parts c.args.joined.now c.requires.joined c.args.placed.words c.args.placed.addresses c.requires.placed c.in_ok-starts.starts starts in
    let few = within_all c.args.parts.now in
    omega (arith, few, count, c.requires.tables.targets_there, ap length c.as_slice-starts.ensures, ap length c.as_slice-6.ensures)

pub check_at-check-requires : goal.check_at-check-requires
check_at-check-requires c = λ some.
    let there = check_there c.args.parts.now c.requires.parts c.requires.tables c.args.joined.now c.requires.joined c.args.placed.words c.args.placed.addresses c.requires.placed
    c.in_ok-points.points _ _ _ c.in_ok-points.ensures c.as_slice-5.ensures some in
    omega (arith, there, ap length c.as_slice-addresses.ensures)

pub of_parts-requires : goal.of_parts-requires
of_parts-requires c =
    (made_linked c.format_law.ensures.groups c.args.parts.now c.requires.parts c.requires.tables c.requires.sites c.requires.data c.args.joined.now c.requires.joined
    c.args.placed.words c.args.placed.addresses c.requires.placed c.in_ok-starts.starts c.in_ok-globals.globals c.in_ok-switches.switches c.in_ok-functions.functions
    c.in_ok-variants.variants c.in_ok-guards.guards c.in_ok-sites.sites c.in_ok-pointers.pointers c.in_ok-points.points c.in_ok-targets.targets c.check_at-check.result c.in_ok-names.names
    c.as_slice-addresses.result.now c.as_slice.result.now c.as_slice-starts.result.now c.as_slice-2.result.now c.as_slice-3.result.now
    c.as_slice-attributed.result.now c.as_slice-pointers.result.now c.as_slice-6.result.now c.as_slice-4.result.now c.len.result
    c.as_slice-addresses.ensures c.as_slice.ensures c.as_slice-starts.ensures c.as_slice-2.ensures c.as_slice-3.ensures c.as_slice-attributed.ensures c.as_slice-pointers.ensures c.as_slice-6.ensures c.as_slice-4.ensures c.len.ensures
    c.in_ok-starts.ensures c.in_ok-globals.ensures c.in_ok-switches.ensures c.in_ok-functions.ensures c.in_ok-variants.ensures c.in_ok-guards.ensures c.in_ok-sites.ensures
    c.in_ok-pointers.ensures (rw (c.as_slice-5.ensures, ← c.as_slice-4.ensures) at c.in_ok-points.ensures) c.in_ok-targets.ensures c.check_at-check.ensures c.in_ok-names.ensures).0

pub returns : goal.returns
returns c =
    subst (IsLinked c.args.parts.now) (sym c.of_parts.ensures)
    (made_linked c.format_law.ensures.groups c.args.parts.now c.requires.parts c.requires.tables c.requires.sites c.requires.data c.args.joined.now c.requires.joined
    c.args.placed.words c.args.placed.addresses c.requires.placed c.in_ok-starts.starts c.in_ok-globals.globals c.in_ok-switches.switches c.in_ok-functions.functions
    c.in_ok-variants.variants c.in_ok-guards.guards c.in_ok-sites.sites c.in_ok-pointers.pointers c.in_ok-points.points c.in_ok-targets.targets c.check_at-check.result c.in_ok-names.names
    c.as_slice-addresses.result.now c.as_slice.result.now c.as_slice-starts.result.now c.as_slice-2.result.now c.as_slice-3.result.now
    c.as_slice-attributed.result.now c.as_slice-pointers.result.now c.as_slice-6.result.now c.as_slice-4.result.now c.len.result
    c.as_slice-addresses.ensures c.as_slice.ensures c.as_slice-starts.ensures c.as_slice-2.ensures c.as_slice-3.ensures c.as_slice-attributed.ensures c.as_slice-pointers.ensures c.as_slice-6.ensures c.as_slice-4.ensures c.len.ensures
    c.in_ok-starts.ensures c.in_ok-globals.ensures c.in_ok-switches.ensures c.in_ok-functions.ensures c.in_ok-variants.ensures c.in_ok-guards.ensures c.in_ok-sites.ensures
    c.in_ok-pointers.ensures (rw (c.as_slice-5.ensures, ← c.as_slice-4.ensures) at c.in_ok-points.ensures) c.in_ok-targets.ensures c.check_at-check.ensures c.in_ok-names.ensures).1
