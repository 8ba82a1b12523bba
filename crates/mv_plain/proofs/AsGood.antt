-- What each step of tidying gives of a body.
use Rattle.std.proofs.Common.{arith, List, ◌∙◌}
use Rattle.mv_ir.specs.declared.stm.Stm.{Stm}
use Rattle.mv_ir.specs.declared.body.Body.{Body}
use Rattle.mv_ir.specs.Keeps.{KeepsBody}
use Rattle.mv_ir.specs.Live.{IsWhole, HasTemps}
use Rattle.mv_ir.specs.WellFormed.{IsWellFormed}
use Rattle.mv_fold.specs.Folded.{IsNoGreater}

-- With this code in place of its own it means the same, at no greater cost, and is whole and well formed where it was. No count is greater.
pub record IsAsGood (b : Body) (code : List Stm) : Type 0 where
  pub means : KeepsBody b (record b { code = code })
  pub smaller : IsNoGreater b.code code
  pub whole : IsWhole b → IsWhole (record b { code = code })
  pub has_temps : HasTemps b → HasTemps (record b { code = code })
  pub well_formed : IsWellFormed b → IsWellFormed (record b { code = code })

no_greater_after : (code next more : List Stm) → IsNoGreater code next → IsNoGreater next more → IsNoGreater code more
no_greater_after code next more h k = record {
  scalars = λ g c. h.scalars g (k.scalars g c);
  arrays = λ g c. h.arrays g (k.arrays g c);
  deepest = omega (arith, h.deepest, k.deepest);
  statements = omega (arith, h.statements, k.statements);
  tree_nodes = omega (arith, h.tree_nodes, k.tree_nodes);
  calls = omega (arith, h.calls, k.calls);
}

-- one step behind the other
pub after : (b : Body) (code more : List Stm) → IsAsGood b code → IsAsGood (record b { code = code }) more → IsAsGood b more
after b code more h k = record {
  means = λ setting frame contents args bound w.
      let first = h.means setting frame contents args bound w in
      let second = k.means setting frame contents args bound w in
      record { same = first.same ∙ second.same; cheaper = omega (arith, first.cheaper, second.cheaper) };
  smaller = no_greater_after b.code code more h.smaller k.smaller;
  whole = λ w. k.whole (h.whole w);
  has_temps = λ w. k.has_temps (h.has_temps w);
  well_formed = λ w. k.well_formed (h.well_formed w);
}
