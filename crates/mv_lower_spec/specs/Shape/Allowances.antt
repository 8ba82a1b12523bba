-- How many words of code each form of statement is allowed besides those of its trees.
use Rattle.std.specs.Prelude.{ℕ, ◌+◌, List, map}
use Rattle.mv_ir.specs.declared.stm.Callee.{Callee}
use Rattle.mv_ir.specs.declared.stm.Callee.TheVariants as callee
use Rattle.mv_ir.specs.declared.stm.Stm.{Stm}
use Rattle.mv_ir.specs.declared.stm.Stm.TheOpen.{Stm-F}
use Rattle.mv_ir.specs.declared.stm.Stm.TheOpen as stm
use Rattle.mv_ir.specs.declared.stm.Stm.TheFolds.{fold-Stm}
use Rattle.mv_ir.specs.Measures.{total}

abbrev pub call_allowance : Callee → ℕ
call_allowance callee.Expanded = 2
call_allowance _ = 16

abbrev pub layer_allowance : Stm-F ℕ → ℕ
layer_allowance (stm.Set t v) = 1
layer_allowance (stm.SetGlobal g v) = 2
layer_allowance (stm.Divide t o a b) = 4
layer_allowance (stm.Check a i) = 4
layer_allowance (stm.Read t a i) = 9
layer_allowance (stm.Write a i v) = 8
layer_allowance (stm.Zero a) = 7
layer_allowance (stm.If t a b) = 3 + (total a + total b)
layer_allowance (stm.Loop b) = 1 + total b
layer_allowance (stm.Block b) = total b
layer_allowance (stm.Break n) = 1
layer_allowance (stm.Back n) = 1
layer_allowance (stm.Call r f args) = call_allowance f
layer_allowance (stm.Known r k args) = 7
layer_allowance (stm.Return v) = 1

unfoldable pub stm_allowance : Stm → ℕ
stm_allowance = fold-Stm ℕ layer_allowance

-- of the statements in some code
abbrev pub allowance : List Stm → ℕ
allowance code = total (map stm_allowance code)
