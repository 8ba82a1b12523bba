use Rattle.std.proofs.Common.{rules, Err, Some, ◌≡◌, ◌<◌, ◌∙◌, ap, length, length-append, get_or, slice_get, sym, subst, arith, List, ◌++◌, ◌∷◌, []}
use Rattle.std.proofs.lemmas.Option.{slice_get_within, get_or_from_slice_get}
use borrow.Author.Count.{below_more}
use Rattle.mv_ir.specs.declared.body.Body.{Body}
use Rattle.mv_isa.specs.declared.labelled.Labelled.{Labelled}
use Rattle.mv_select.specs.Bodies.SelectedBodies.{HasWords}
use Rattle.mv_parts.proofs.Lists.{all_by_index}
use Rattle.mv_parts.proofs.Functions.{EachCode, generic_at, code_push, frames_before, frame_refused}
use Rattle.mv_parts.proofs.generics.codes_of.Goals as goal

pub code_of-requires-clause-generic : goal.code_of-requires-clause-generic
code_of-requires-clause-generic c =
    let items = c.as_slice-body-items.ensures in
    let below : c.loop-number.number < length c.args.generics.now = omega (arith, ap length items) in
    generic_at c.args.program.now c.args.generics.now c.requires.generics c.loop-number.number c.body-item.result below
    (c.body-item.is ∙ ap (λ xs. get_or xs c.loop-number.number c.body-item.result) items)

pub returns-in_err-code-clause-err : goal.returns-in_err-code-clause-err
returns-in_err-code-clause-err c =
    let items = c.as_slice-body-items.ensures in
    let fit = frames_before c.args.program.now c.args.generics.now c.loop-number.codes c.loop-number.invariant.each c.loop-number.number c.loop-number.invariant.one_each
    (omega (arith, ap length items)) in
    let is : c.from_residual.result ≡ Err c.in_err-code.field-0.0 = search rules in
    rw is (frame_refused c.args.program.now c.loop-number.number c.in_err-code.field-0.0 fit c.in_err-code.ensures.err)

pub loop-number-preserved : goal.loop-number-preserved
loop-number-preserved c =
    let items = c.as_slice-body-items.ensures in
    let below : c.loop-number.number < length c.args.generics.now = omega (arith, ap length items) in
    let is = c.body-item.is ∙ ap (λ xs. get_or xs c.loop-number.number c.body-item.result) items in
    let code = c.in_ok-code.code in
    let pushed : c.push.new.self ≡ c.loop-number.codes ++ code ∷ [] = c.in-Ok.ensures.ok in
    let each = code_push c.args.program.now c.args.generics.now c.loop-number.codes c.loop-number.invariant.each c.loop-number.number c.loop-number.invariant.one_each below
    c.body-item.result is code c.in_ok-code.ensures.ok in record {
      one_each = omega (arith, simp length-append at (ap length pushed), c.loop-number.invariant.one_each);
      each = subst (λ (xs : List Labelled). EachCode c.args.program.now c.args.generics.now xs) (sym pushed) each;
      words = below_more (λ k. (b : Body) → slice_get c.args.generics.now k ≡ Some b → HasWords b.code) c.loop-number.number c.loop-number.invariant.words
          (λ b found. subst (λ (x : Body). HasWords x.code) (is ∙ get_or_from_slice_get c.args.generics.now c.loop-number.number b c.body-item.result found) c.in_ok-code.ensures.words);
    }

pub returns-clause-words : goal.returns-clause-words
returns-clause-words c =
    let items = c.as_slice-body-items.ensures in
    all_by_index (λ (b : Body). HasWords b.code) c.args.generics.now
    (λ k b found. let within = slice_get_within c.args.generics.now k b found in c.loop-number.invariant.words k (omega (arith, within, ap length items)) b found)
