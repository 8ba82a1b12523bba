use Rattle.std.proofs.Common.{List, ◌≡◌, ◌∷◌, [], ◌++◌, length, get_or, ◌<◌, sym, ap, ◌∙◌, subst}
use Rattle.std.specs.List.{All}
use Rattle.std.proofs.lemmas.List.Elements.{All-get_or}
use Rattle.mv_ast.specs.declared.program.Function.{Function}
use Rattle.mv_ir.specs.declared.body.Body.{Body}
use Rattle.mv_lower_spec.specs.Functions.{lower_function}
use Rattle.mv_lower.specs.Programs.{HasRoom}
use Rattle.mv_lower.proofs.Bodies.{map_step}
use Rattle.mv_lower.proofs.lower_bodies.Goals as goal

pub lower_function-requires-clause-size : goal.lower_function-requires-clause-size
lower_function-requires-clause-size c =
    let x = c.function-item.result in
    let all = subst (λ (xs : List Function). All HasRoom xs) (sym c.as_slice-function-items.ensures) c.requires.each in
    subst (λ (y : Function). HasRoom y) (sym c.function-item.is) (All-get_or HasRoom c.as_slice-function-items.result.now c.loop-function.function-index x c.loop-function-test.true all)

pub loop-function-preserved : goal.loop-function-preserved
loop-function-preserved c =
    let i = c.loop-function.function-index in
    let x = c.function-item.result in
    let p = c.args.program.now in
    let below : i < length p.functions = subst (λ (xs : List Function). i < length xs) c.as_slice-function-items.ensures c.loop-function-test.true in
    let item : x ≡ get_or p.functions i x = subst (λ (xs : List Function). x ≡ get_or xs i x) c.as_slice-function-items.ensures c.function-item.is in
    map_step (lower_function p) p.functions i x c.loop-function.bodies _ below item c.loop-function.invariant
    (c.in_ok-push.ensures.ok ∙ ap (λ (b : Body). c.loop-function.bodies ++ b ∷ []) c.in_ok-body.ensures)
