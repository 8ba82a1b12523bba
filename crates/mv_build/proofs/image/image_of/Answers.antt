use Rattle.std.proofs.Common.{sym, subst}
use Rattle.std.proofs.lemmas.Result.{IfOk-weaker, IfErr-weaker, err_from_is_err_and}
use Rattle.mv_linker.specs.declared.parts.Parts.{Parts}
use Rattle.mv_linker.specs.Linked.{AreParts}
use Rattle.mv_linker.specs.Tables.{FitTables}
use Rattle.mv_build.specs.Compiled.{IsLinkedOf, IsLinkRefusal, OnRefusal}
use Rattle.mv_build.proofs.Limits.{with_data, limit_with, within, linkable, linked_to, not_linked}
use Rattle.mv_build.proofs.image.image_of.Goals as goal

pub parts_without_data-requires : goal.parts_without_data-requires
parts_without_data-requires c = c.parts_law.ensures.switches c.args.program.now c.requires.sound.formed

pub linked-requires-clause-parts : goal.linked-requires-clause-parts
linked-requires-clause-parts c =
    let p = c.args.program.now in
    let whole = with_data p c.args.functions c.args.attributed c.in_ok-parts.parts c.in_ok-parts-2.field-0 c.in_ok-parts.ensures c.in_ok-parts-2.ensures in
    let fit = within p c.args.functions c.args.attributed c.in_ok-parts.parts c.in_ok-parts.ensures c.in_ok-test_limits.ensures.ok in
    subst AreParts (sym whole) (linkable p c.args.functions c.args.attributed c.parts_law.ensures.parts c.parts_law.ensures.data c.requires.sound c.requires.coded fit).are

pub linked-requires-clause-tables : goal.linked-requires-clause-tables
linked-requires-clause-tables c =
    let p = c.args.program.now in
    let whole = with_data p c.args.functions c.args.attributed c.in_ok-parts.parts c.in_ok-parts-2.field-0 c.in_ok-parts.ensures c.in_ok-parts-2.ensures in
    let fit = within p c.args.functions c.args.attributed c.in_ok-parts.parts c.in_ok-parts.ensures c.in_ok-test_limits.ensures.ok in
    subst FitTables (sym whole) (linkable p c.args.functions c.args.attributed c.parts_law.ensures.parts c.parts_law.ensures.data c.requires.sound c.requires.coded fit).fit

pub returns-clause-ok : goal.returns-clause-ok
returns-clause-ok c =
    let p = c.args.program.now in
    let whole = with_data p c.args.functions c.args.attributed c.in_ok-parts.parts c.in_ok-parts-2.field-0 c.in_ok-parts.ensures c.in_ok-parts-2.ensures in
    let fit = within p c.args.functions c.args.attributed c.in_ok-parts.parts c.in_ok-parts.ensures c.in_ok-test_limits.ensures.ok in
    IfOk-weaker c.linked.result _ _
    (λ image of.
    linked_to p c.args.functions c.args.attributed c.parts_law.ensures.parts c.parts_law.ensures.data c.requires.sound c.requires.coded fit image
    (subst (λ (parts : Parts). IsLinkedOf parts image) whole of))
    c.linked.ensures.ok

pub returns-clause-err : goal.returns-clause-err
returns-clause-err c =
    let p = c.args.program.now in
    let whole = with_data p c.args.functions c.args.attributed c.in_ok-parts.parts c.in_ok-parts-2.field-0 c.in_ok-parts.ensures c.in_ok-parts-2.ensures in
    let fit = within p c.args.functions c.args.attributed c.in_ok-parts.parts c.in_ok-parts.ensures c.in_ok-test_limits.ensures.ok in
    IfErr-weaker c.linked.result _ _
    (λ e refused.
    not_linked p c.args.functions c.args.attributed c.parts_law.ensures.parts c.parts_law.ensures.data c.requires.sound c.requires.coded fit e
    (subst (λ (parts : Parts). OnRefusal e (IsLinkRefusal parts)) whole refused))
    c.linked.ensures.err

pub returns-in_err-test_limits-clause-err : goal.returns-in_err-test_limits-clause-err
returns-in_err-test_limits-clause-err c =
    let p = err_from_is_err_and c.from_residual-in_err-test_limits.result c.from_residual-in_err-test_limits.ensures.1 in
    rw (p.1, p.2)
    (limit_with c.args.program.now c.args.functions c.args.attributed c.in_ok-parts.parts c.in_ok-parts.ensures c.in_err-test_limits.field-0.0 c.in_err-test_limits.ensures.err)
