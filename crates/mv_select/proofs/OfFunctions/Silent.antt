-- Whether code calls nothing, at each variant.
use Rattle.std.proofs.Common.{◌≡◌, ℕ, ◌&&◌, Bool, true, false, List, Option, sym, ap, ◌∙◌}
use Rattle.mv_ast.specs.declared.program.Known.{Known}
use Rattle.mv_ir.specs.declared.tree.Tree.{Tree}
use Rattle.mv_ir.specs.declared.stm.Array.{Array}
use Rattle.mv_ir.specs.declared.stm.Callee.{Callee}
use Rattle.mv_ir.specs.declared.stm.Stm.{Stm}
use Rattle.mv_ir.specs.declared.stm.Stm as at
use Rattle.mv_ir.specs.declared.stm.Stm.TheOpen as stm
use Rattle.mv_ir.specs.declared.stm.Stm.TheOpen.{Stm-F}
use Rattle.mv_ir.specs.declared.stm.Stm.TheViews.{roll-Stm}
use Rattle.mv_ir.specs.declared.stm.Stm.TheVariants.{rolls-Set, rolls-SetGlobal, rolls-Divide, rolls-Check, rolls-Read, rolls-Write, rolls-Zero, rolls-If, rolls-Loop, rolls-Block, rolls-Break, rolls-Back, rolls-Call, rolls-Known, rolls-Return}
use Rattle.mv_ir.specs.declared.stm.Stm.TheFolds.{fold-roll-Stm, map-Stm}
use Rattle.mv_select_code.specs.Control.FlowCode.{only_tests}
use Rattle.mv_select.specs.Functions.FunctionCode.{silent_layer, is_silent, calls_nothing}

pub silent_roll : (x : Stm-F Stm) → is_silent (roll-Stm x) ≡ silent_layer (map-Stm Stm Bool is_silent x)
unfolding is_silent
silent_roll x = fold-roll-Stm Bool silent_layer x

pub silent_set : (t : ℕ) (v : Tree) → is_silent (at.Set t v) ≡ true
silent_set t v = ap is_silent (sym (rolls-Set t v)) ∙ silent_roll (stm.Set t v)

pub silent_set_global : (g : ℕ) (v : Tree) → is_silent (at.SetGlobal g v) ≡ true
silent_set_global g v = ap is_silent (sym (rolls-SetGlobal g v)) ∙ silent_roll (stm.SetGlobal g v)

pub silent_divide : (t o : ℕ) (a b : Tree) → is_silent (at.Divide t o a b) ≡ true
silent_divide t o a b = ap is_silent (sym (rolls-Divide t o a b)) ∙ silent_roll (stm.Divide t o a b)

pub silent_check : (a : Array) (i : Tree) → is_silent (at.Check a i) ≡ true
silent_check a i = ap is_silent (sym (rolls-Check a i)) ∙ silent_roll (stm.Check a i)

pub silent_read : (t : ℕ) (a : Array) (i : Tree) → is_silent (at.Read t a i) ≡ true
silent_read t a i = ap is_silent (sym (rolls-Read t a i)) ∙ silent_roll (stm.Read t a i)

pub silent_write : (a : Array) (i v : Tree) → is_silent (at.Write a i v) ≡ true
silent_write a i v = ap is_silent (sym (rolls-Write a i v)) ∙ silent_roll (stm.Write a i v)

pub silent_zero : (a : ℕ) → is_silent (at.Zero a) ≡ true
silent_zero a = ap is_silent (sym (rolls-Zero a)) ∙ silent_roll (stm.Zero a)

pub silent_if : (t : Tree) (a b : List Stm) → is_silent (at.If t a b) ≡ (calls_nothing a && calls_nothing b)
silent_if t a b = ap is_silent (sym (rolls-If t a b)) ∙ silent_roll (stm.If t a b)

pub silent_loop : (b : List Stm) → is_silent (at.Loop b) ≡ calls_nothing b
silent_loop b = ap is_silent (sym (rolls-Loop b)) ∙ silent_roll (stm.Loop b)

pub silent_block : (b : List Stm) → is_silent (at.Block b) ≡ calls_nothing b
silent_block b = ap is_silent (sym (rolls-Block b)) ∙ silent_roll (stm.Block b)

pub silent_break : (n : ℕ) → is_silent (at.Break n) ≡ true
silent_break n = ap is_silent (sym (rolls-Break n)) ∙ silent_roll (stm.Break n)

pub silent_back : (n : ℕ) → is_silent (at.Back n) ≡ true
silent_back n = ap is_silent (sym (rolls-Back n)) ∙ silent_roll (stm.Back n)

pub silent_call : (r : Option ℕ) (f : Callee) (args : List Tree) → is_silent (at.Call r f args) ≡ only_tests f args
silent_call r f args = ap is_silent (sym (rolls-Call r f args)) ∙ silent_roll (stm.Call r f args)

pub silent_known : (r : Option ℕ) (k : Known) (args : List Tree) → is_silent (at.Known r k args) ≡ false
silent_known r k args = ap is_silent (sym (rolls-Known r k args)) ∙ silent_roll (stm.Known r k args)

pub silent_return : (v : Tree) → is_silent (at.Return v) ≡ true
silent_return v = ap is_silent (sym (rolls-Return v)) ∙ silent_roll (stm.Return v)

pub ruleset silent = (silent_set, silent_set_global, silent_divide, silent_check, silent_read, silent_write, silent_zero, silent_if, silent_loop, silent_block, silent_break, silent_back, silent_call, silent_known, silent_return)
