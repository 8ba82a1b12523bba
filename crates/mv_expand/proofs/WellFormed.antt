-- Bodies stay well formed with short bodies in place of calls.
use Rattle.std.proofs.Common.{◌+◌, ◌^◌, ◌≤◌, false, List}
use Rattle.mv_ir.specs.declared.stm.Stm.{Stm}
use Rattle.mv_ir.specs.declared.body.Body.{Body}
use Rattle.mv_ir.specs.Measures.{statements, tree_nodes}
use Rattle.mv_ir.specs.WellFormed.{IsWellFormed}
use Rattle.mv_ir.specs.Shorts.{Shorts}
use Rattle.mv_fold.proofs.WellFormed.{kept_well_formed}
use Rattle.mv_expand.specs.Straight.{AllShort, short_temps}
use Rattle.mv_expand.specs.Expanding.{Expands}
use Rattle.mv_expand.proofs.Counts.{expands_kept, expands_scalars}
use Rattle.mv_expand.proofs.Thinning.{expands_has_temps}

pub expands_well_formed : (shorts : Shorts) (body : Body) (code : List Stm) → AllShort shorts → Expands shorts body.temps false body.code code → statements code + tree_nodes code ≤ 2 ^ 30 →
    IsWellFormed body → IsWellFormed (record body { temps = body.temps + short_temps; code = code })
expands_well_formed shorts body code short h size w =
    kept_well_formed body (body.temps + short_temps) code (expands_kept shorts body code short h) (expands_has_temps shorts body code short h w.temps) (expands_scalars shorts body code short h) size w
