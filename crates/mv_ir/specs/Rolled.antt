-- Trees and statements of each kind.
use Rattle.std.specs.Prelude.{ℕ, List, Option, Some}
use Rattle.mv_num.specs.declared.kind.Kind.{Kind}
use Rattle.mv_ast.specs.declared.program.Known.{Known}
use Rattle.mv_ir.specs.declared.tree.Tree.{Tree}
use Rattle.mv_ir.specs.declared.tree.Tree.TheOpen as tree
use Rattle.mv_ir.specs.declared.tree.Tree.TheViews.{roll-Tree}
use Rattle.mv_ir.specs.declared.stm.Array.{Array}
use Rattle.mv_ir.specs.declared.stm.Callee.{Callee}
use Rattle.mv_ir.specs.declared.stm.Stm.{Stm}
use Rattle.mv_ir.specs.declared.stm.Stm.TheOpen as stm
use Rattle.mv_ir.specs.declared.stm.Stm.TheViews.{roll-Stm}

abbrev pub number : ℕ → Tree
number n = roll-Tree (tree.Number n)

abbrev pub temp : ℕ → Tree
temp t = roll-Tree (tree.Temp t)

abbrev pub global : ℕ → Tree
global g = roll-Tree (tree.Global g)

abbrev pub function : ℕ → Tree
function f = roll-Tree (tree.Function f)

abbrev pub unary : ℕ → Tree → Tree
unary o a = roll-Tree (tree.Unary o a)

abbrev pub binary : ℕ → Tree → Tree → Tree
binary o a b = roll-Tree (tree.Binary o a b)

abbrev pub narrow : Kind → Tree → Tree
narrow k a = roll-Tree (tree.Narrow k a)

abbrev pub set : ℕ → Tree → Stm
set t v = roll-Stm (stm.Set t v)

abbrev pub set_global : ℕ → Tree → Stm
set_global g v = roll-Stm (stm.SetGlobal g v)

abbrev pub divide : ℕ → ℕ → Tree → Tree → Stm
divide t o a b = roll-Stm (stm.Divide t o a b)

abbrev pub choose : Tree → List Stm → List Stm → Stm
choose t a b = roll-Stm (stm.If t a b)

abbrev pub call : Option ℕ → Callee → List Tree → Stm
call result f args = roll-Stm (stm.Call result f args)

abbrev pub check : Array → Tree → Stm
check a i = roll-Stm (stm.Check a i)

abbrev pub read : ℕ → Array → Tree → Stm
read t a i = roll-Stm (stm.Read t a i)

abbrev pub write : Array → Tree → Tree → Stm
write a i v = roll-Stm (stm.Write a i v)

abbrev pub known : ℕ → Known → List Tree → Stm
known t k args = roll-Stm (stm.Known (Some t) k args)

abbrev pub return_with : Tree → Stm
return_with t = roll-Stm (stm.Return t)

abbrev pub break : ℕ → Stm
break n = roll-Stm (stm.Break n)

abbrev pub repeat : List Stm → Stm
repeat code = roll-Stm (stm.Loop code)

abbrev pub enclosed : List Stm → Stm
enclosed code = roll-Stm (stm.Block code)
