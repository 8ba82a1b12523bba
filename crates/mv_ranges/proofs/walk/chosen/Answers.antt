use Rattle.std.proofs.Common.{subst, sym}
use Rattle.mv_ir.specs.declared.stm.Stm as st
use Rattle.mv_ranges.specs.Following.{IsMarked}
use Rattle.mv_ranges.proofs.Codes.{if_marked}
use Rattle.mv_ranges.proofs.walk.chosen.Goals as goal

pub returns : goal.returns
returns c temps around facts first second a b h ha hb =
    subst (λ t. IsMarked temps around facts (st.If c.args.test.now a b) (st.If t c.args.then.0 c.args.other.0) c.in_ok-reach.reach) (sym c.in_ok-copy_tree.ensures)
    (if_marked temps around facts c.args.test.now a c.args.then.0 b c.args.other.0 first second c.args.then.1 c.args.other.1 c.in_ok-reach.reach h ha hb c.in_ok-reach.ensures.first c.in_ok-reach.ensures.second)
