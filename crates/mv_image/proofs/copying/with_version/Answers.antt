use Rattle.std.proofs.Common.{rules}
use Rattle.mv_image.proofs.Upgraded.{parts_fit}
use Rattle.mv_image.proofs.copying.with_version.Goals as goal

pub of_parts-requires : goal.of_parts-requires
of_parts-requires c =
    parts_fit c.args.version c.args.image.now _ _ _ _ _ _ _ _ _ _ _ _ _ c.entry.ensures.value (search rules) (search rules) (search rules) (search rules) (search rules) (search rules) (search rules)
    (search rules) (search rules) (search rules) c.check.ensures (search rules) c.requires
