use Rattle.std.proofs.Common.{ap, sym, ◌∙◌}
use Rattle.mv_ast.specs.declared.program.Form.{out-Form}
use Rattle.mv_ast.specs.declared.program.Form.TheVariants.{outs-Direct, outs-Through, outs-Known}
use Rattle.mv_ast.specs.Names.{names_local}
use Rattle.mv_source_forms.proofs.Naming.{names-Direct, names-Through, names-Known, or_yes, or_no}
use Rattle.mv_source_forms.proofs.names.+names.Goals as goal

pub names_local-returns-in-Direct : goal.names_local-returns-in-Direct
names_local-returns-in-Direct t c =
    let a = c.args in
    c.any_names.ensures ∙ sym (names-Direct a.l a.e.now _ c.in-Direct.args (ap out-Form c.in-Direct.is ∙ outs-Direct c.in-Direct.field-0 c.in-Direct.args))

pub names_local-returns-in-Known : goal.names_local-returns-in-Known
names_local-returns-in-Known t c =
    let a = c.args in
    c.any_names-in-Known.ensures ∙ sym (names-Known a.l a.e.now _ c.in-Known.args (ap out-Form c.in-Known.is ∙ outs-Known c.in-Known.field-0 c.in-Known.args))

pub names_local-returns-then-any_names : goal.names_local-returns-then-any_names
names_local-returns-then-any_names t c =
    let a = c.args in
    c.any_names-in-Through.ensures ∙
    (or_yes _ _ (sym c.any_names-in-Through.ensures ∙ c.if-any_names.true) ∙
    sym (names-Through a.l a.e.now c.in-Through.args c.in-Through.callee (ap out-Form c.in-Through.is ∙ outs-Through c.in-Through.args c.in-Through.callee)))

pub names_local-returns-else-any_names : goal.names_local-returns-else-any_names
names_local-returns-else-any_names t c =
    let a = c.args in
    c.names_local-else-any_names.ensures ∙
    (ap (names_local a.l) c.get-else-any_names.ensures ∙
    (or_no _ _ (sym c.any_names-in-Through.ensures ∙ c.if-any_names.false) ∙
    sym (names-Through a.l a.e.now c.in-Through.args c.in-Through.callee (ap out-Form c.in-Through.is ∙ outs-Through c.in-Through.args c.in-Through.callee))))
