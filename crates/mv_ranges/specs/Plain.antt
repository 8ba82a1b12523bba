-- Code whose arrays are plain: no index is promised to be below a number.
use Rattle.std.specs.Prelude.{List, map}
use Rattle.mv_ir.specs.declared.stm.Stm.{Stm}
use Rattle.mv_ir.specs.declared.stm.Stm.TheOpen.{Stm-F}
use Rattle.mv_ir.specs.declared.stm.Stm.TheOpen as stm
use Rattle.mv_ir.specs.declared.stm.Stm.TheViews.{roll-Stm}
use Rattle.mv_ir.specs.declared.stm.Stm.TheFolds.{fold-Stm}
use Rattle.mv_ir.specs.Meaning.{unpromised}

abbrev pub plain_layer : Stm-F Stm → Stm
plain_layer (stm.Check a i) = roll-Stm (stm.Check (unpromised a) i)
plain_layer (stm.Read t a i) = roll-Stm (stm.Read t (unpromised a) i)
plain_layer (stm.Write a i v) = roll-Stm (stm.Write (unpromised a) i v)
plain_layer x = roll-Stm x

-- a statement with plain arrays in place of its own
unfoldable pub plain_stm : Stm → Stm
plain_stm = fold-Stm Stm plain_layer

abbrev pub plain_code : List Stm → List Stm
plain_code code = map plain_stm code
