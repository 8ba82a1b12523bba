use Rattle.std.proofs.Common.{List, ◌≡◌, ◌∙◌, ap, subst}
use Rattle.mv_syntax.specs.declared.unit.Declarator.{Declarator}
use Rattle.mv_check_declarations.specs.declared.attributes.Position.TheVariants as position
use Rattle.mv_check_declarations.specs.Specifiers.{specifiers}
use Rattle.mv_check_declarations.specs.Turns.{IsBehind}
use Rattle.mv_types.specs.Units.{holders}
use Rattle.mv_types.proofs.units.specified.Goals as goal

pub returns : goal.returns
returns c =
    let names : c.holders-holders.result.now ≡ holders c.args.known.now c.args.item.now.names = c.holders-holders.ensures ∙ ap (holders c.args.known.now) c.as_slice.ensures in
    subst (λ (ds : List Declarator). IsBehind (specifiers position.File ds c.args.item.now.specs c.args.scope.now) c.specifiers.result c.specifiers.new.scope) names c.specifiers.ensures
