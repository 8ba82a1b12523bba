use Rattle.std.proofs.Common.{◌∙◌, sym, subst}
use Rattle.mv_image.specs.Format.{FitsFormat}
use Rattle.mv_image.proofs.Bare.{bare_fits, bare_is}
use Rattle.mv_image.proofs.image.Image.without_tables.Goals as goal

pub of_parts-requires : goal.of_parts-requires
of_parts-requires c =
    subst FitsFormat (sym (bare_is c.args.entry c.args.text c.args.globals _ _ _ _ _ _ _ _ _ c.new.ensures c.new-2.ensures c.new-3.ensures c.new-4.ensures c.new-5.ensures c.new-6.ensures c.new-7.ensures c.new-8.ensures c.new-9.ensures))
    (bare_fits c.args.entry c.args.text c.args.globals (record {
      aligned = c.requires.aligned;
      not_before = c.requires.not_before;
      within = c.requires.within;
      text = c.requires.text;
      globals = c.requires.globals;
    }))

pub returns : goal.returns
returns c = c.of_parts.ensures ∙ bare_is c.args.entry c.args.text c.args.globals _ _ _ _ _ _ _ _ _ c.new.ensures c.new-2.ensures c.new-3.ensures c.new-4.ensures c.new-5.ensures c.new-6.ensures c.new-7.ensures c.new-8.ensures c.new-9.ensures
