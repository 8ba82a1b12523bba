use Rattle.std.proofs.Common.{refl}
use Rattle.std.proofs.lemmas.Result.{err_from_is_err_and}
use Rattle.mv_build.specs.Compiled.{parts_of}
use Rattle.mv_build.proofs.Limits.{limit_of}
use Rattle.mv_build.proofs.Whole.{image_is}
use Rattle.mv_build.proofs.compiled.Goals as goal

pub image_of-requires-clause-coded : goal.image_of-requires-clause-coded
image_of-requires-clause-coded c =
    let coded = c.in_ok-generics.field-0 in record { bodies = coded.generics; tables = coded.variants; codes = c.in_ok-generics.ensures.ok.codes; switches = refl; pointers = refl; targets = refl; main = refl; globals = refl }

pub returns-clause-ok : goal.returns-clause-ok
returns-clause-ok c = record {
  program = refl;
  image = image_is c.parts_law.ensures.parts c.rows_lead_on.ensures.leads c.images_have_tables.ensures c.images_show_bindings.ensures.shows c.built_programs_behave.ensures c.args.program
      (record { formed = c.requires.formed; facts = c.requires.facts }) c.in_ok-generics.field-0 c.in_ok-generics.ensures.ok
      c.in_ok-image.image c.in_ok-image.ensures.ok;
}

pub returns-in_err-image-clause-err : goal.returns-in_err-image-clause-err
returns-in_err-image-clause-err c =
    let coded = c.in_ok-generics.field-0 in
    let p = err_from_is_err_and c.from_residual-in_err-image.result c.from_residual-in_err-image.ensures.1 in
    rw (p.1, p.2)
    (limit_of c.args.program (parts_of c.args.program coded.functions coded.attributed) c.in_ok-generics.ensures.ok.frames
    (record { bodies = coded.generics; tables = coded.variants; codes = c.in_ok-generics.ensures.ok.codes; switches = refl; pointers = refl; targets = refl; main = refl; globals = refl })
    c.in_ok-generics.ensures.ok.within c.in_err-image.field-0.0 c.in_err-image.ensures.err)
