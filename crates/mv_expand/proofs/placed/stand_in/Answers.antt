use Rattle.std.proofs.Common.{◌≡◌, ◌+◌, true, cond, sym, ap, ◌∙◌}
use Rattle.std.specs.Prelude.{slice_index_or}
use Rattle.std.specs.Option.{option_copied}
use Rattle.mv_ast.specs.Flags.{is_set}
use Rattle.mv_ir.specs.Rolled.{number, temp}
use Rattle.mv_ir.specs.declared.tree.Tree.TheVariants.{rolls-Number}
use Rattle.mv_expand.proofs.Stepwise.{index_none}
use Rattle.mv_expand.proofs.placed.stand_in.Goals as goal

pub returns-in-None : goal.returns-in-None
returns-in-None c =
    let args = c.args.args.now in
    let t = c.args.temp in
    let there : is_set c.args.keeps.now t ≡ true = sym c.is_kept.ensures ∙ c.if-not-is_kept.false in
    sym (ap (λ b. cond b (slice_index_or args t (number 0)) (temp (c.args.base + t))) there ∙
    index_none args t (number 0) (sym c.get.ensures ∙ ap option_copied c.in-None.is) ∙ rolls-Number 0)
