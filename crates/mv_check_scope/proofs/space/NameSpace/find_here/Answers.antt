use Rattle.std.proofs.Common.{◌∙◌, ap}
use Rattle.mv_check_scope.specs.Spaces.{named}
use Rattle.mv_check_scope.specs.Scopes.{no_names}
use Rattle.mv_check_scope.specs.Steps.{led_to}
use Rattle.mv_check_scope.proofs.BoundNames.{found_here}
use Rattle.mv_check_scope.proofs.space.NameSpace.find_here.Goals as goal

pub returns-then-binding-self : goal.returns-then-binding-self
returns-then-binding-self c =
    let name = c.args.name.now in
    found_here (led_to c.self.inside.bindings.names no_names c.self.inside.steps.items) name c.in_ok-binding.binding (c.if-binding-self.true ∙ c.self.invariant.deep)
    (c.in_ok-binding.ensures ∙ c.self.invariant.bound name) ∙ ap (λ s. named name s.here) c.self.view_is
