use Rattle.std.proofs.Common.{◌∙◌, ap, arith}
use Rattle.mv_check_scope.specs.Scopes.{no_names, entered}
use Rattle.mv_check_scope.proofs.Steps.{entrance, enters, deep_within}
use Rattle.mv_check_scope.proofs.space.NameSpace.enter.Goals as goal

pub overflow_add-self : goal.overflow_add-self
overflow_add-self c = omega (arith, c.self.invariant.deep, deep_within c.self.inside.bindings.names no_names c.self.inside.steps.items, c.self.inside.steps.ok)

pub invariant_of-self-2 : goal.invariant_of-self-2
invariant_of-self-2 c =
    let s = c.self.inside in
    enters s.bindings.names s.steps.items s.depth s.bindings.declared.entries c.push.new.self.items c.in_ok-push.ensures.items c.self.invariant

pub returns : goal.returns
returns c =
    let s = c.self.inside in
    entrance s.bindings.names s.steps.items s.depth s.bindings.declared.entries c.push.new.self.items c.in_ok-push.ensures.items ∙ ap entered c.self.view_is
