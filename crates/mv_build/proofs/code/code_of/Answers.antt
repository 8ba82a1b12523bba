use Rattle.std.proofs.Common.{subst}
use Rattle.std.specs.Prelude.{List}
use Rattle.std.proofs.lemmas.Result.{err_from_is_err_and}
use Rattle.mv_lower.proofs.Small.{small_enough}
use Rattle.mv_isa.specs.declared.labelled.Labelled.{Labelled}
use Rattle.mv_parts.specs.Fronts.{IsSizeOf}
use Rattle.mv_build.proofs.Limits.{frame_refused, frames_fit, functions_refused, variants_refused}
use Rattle.mv_build.proofs.code.code_of.Goals as goal

pub lower_bodies-requires : goal.lower_bodies-requires
lower_bodies-requires c = small_enough c.args.program.now c.requires.formed

pub returns-in_err-functions-clause-err : goal.returns-in_err-functions-clause-err
returns-in_err-functions-clause-err c =
    let p = err_from_is_err_and c.from_residual-in_err-functions.result c.from_residual-in_err-functions.ensures.1 in
    rw (p.1, p.2) (frame_refused c.args.program.now c.in_err-functions.field-0.0 c.in_err-functions.ensures.err)

pub attributed_code-requires-clause-frames : goal.attributed_code-requires-clause-frames
attributed_code-requires-clause-frames c =
    frames_fit c.args.program.now c.in_ok-generics.generics c.in_ok-functions.functions c.in_ok-generics.ensures c.in_ok-functions.ensures.ok

pub returns-clause-ok : goal.returns-clause-ok
returns-clause-ok c = record {
  codes = record { generics = c.in_ok-generics.ensures; are_tables = c.in_ok-variants.ensures.ok.tables; code = c.in_ok-functions.ensures.ok; variants = c.in_ok-variants.ensures.ok.parts };
  words = c.in_ok-functions.ensures.words;
  frames = frames_fit c.args.program.now c.in_ok-generics.generics c.in_ok-functions.functions c.in_ok-generics.ensures c.in_ok-functions.ensures.ok;
  within = record {
    size = c.size_of-size.result;
    is = subst (λ (fs : List Labelled). IsSizeOf c.args.program.now fs c.size_of-size.result) c.as_slice-2.ensures c.size_of-size.ensures;
    within = c.in_ok-test_size.ensures.ok;
    room = c.in_ok-variants.ensures.ok.room;
  };
}

pub returns-in_err-test_size-clause-err : goal.returns-in_err-test_size-clause-err
returns-in_err-test_size-clause-err c =
    let p = err_from_is_err_and c.from_residual-in_err-test_size.result c.from_residual-in_err-test_size.ensures.1 in
    let frames = frames_fit c.args.program.now c.in_ok-generics.generics c.in_ok-functions.functions c.in_ok-generics.ensures c.in_ok-functions.ensures.ok in
    let is = subst (λ (fs : List Labelled). IsSizeOf c.args.program.now fs c.size_of-size.result) c.as_slice-2.ensures c.size_of-size.ensures in
    rw (p.1, p.2)
    (functions_refused c.args.program.now c.in_ok-generics.generics c.in_ok-functions.functions frames c.in_ok-generics.ensures c.in_ok-functions.ensures.ok c.size_of-size.result is
    c.in_err-test_size.field-0.0 c.in_err-test_size.ensures.err)

pub returns-in_err-variants-clause-err : goal.returns-in_err-variants-clause-err
returns-in_err-variants-clause-err c =
    let p = err_from_is_err_and c.from_residual-in_err-variants.result c.from_residual-in_err-variants.ensures.1 in
    let frames = frames_fit c.args.program.now c.in_ok-generics.generics c.in_ok-functions.functions c.in_ok-generics.ensures c.in_ok-functions.ensures.ok in
    let is = subst (λ (fs : List Labelled). IsSizeOf c.args.program.now fs c.size_of-size.result) c.as_slice-2.ensures c.size_of-size.ensures in
    rw (p.1, p.2)
    (variants_refused c.args.program.now c.in_ok-generics.generics c.in_ok-functions.functions frames c.in_ok-generics.ensures c.in_ok-functions.ensures.ok c.size_of-size.result is
    c.in_ok-test_size.ensures.ok c.in_err-variants.field-0.0 c.in_err-variants.ensures.err)
