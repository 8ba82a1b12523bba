use Rattle.std.proofs.Common.{◌≡◌, sym, ap, subst, ◌∙◌}
use Rattle.std.specs.Prelude.{IfSome}
use Rattle.std.proofs.lemmas.Result.{IfOk-weaker}
use Rattle.std.proofs.lemmas.Option.{IfSome_then}
use Rattle.mv_ir.specs.declared.stm.Callee.TheVariants as callee
use Rattle.mv_ir.specs.declared.stm.Stm as at
use Rattle.mv_ir.specs.declared.stm.Stm.TheVariants.{rolls-Call}
use Rattle.mv_expand.specs.Walking.{IsShortOf}
use Rattle.mv_expand.proofs.expanding.placed_call.Goals as goal

pub placed-requires-clause-short : goal.placed-requires-clause-short
placed-requires-clause-short c =
    let shorts = c.args.shorts.now in
    let f = c.in-Call.f in
    let k = subst (λ o. IfSome o (λ b. IsShortOf shorts f b.now)) c.in-Some.is c.short_of.ensures in
    c.requires.short k.0 c.in-Some.body.now k.2

pub returns-in-Some : goal.returns-in-Some
returns-in-Some c =
    let shorts = c.args.shorts.now in
    let s = c.in-Call in
    let k = subst (λ o. IfSome o (λ b. IsShortOf shorts s.f b.now)) c.in-Some.is c.short_of.ensures in
    let is : c.args.stm.now ≡ at.Call s.target (callee.Direct k.0) s.args = s.is ∙ ap (λ q. at.Call s.target q s.args) k.1 in
    IfOk-weaker c.placed.result _ _ (λ code h.
    IfSome_then code h (λ placed p.
    record {
      target = s.target;
      function = k.0;
      args = s.args;
      body = c.in-Some.body.now;
      is = is ∙ sym (rolls-Call s.target (callee.Direct k.0) s.args);
      short = k.2;
      placed = p;
    })) c.placed.ensures
