-- What the definitions of this crate give, at each variant.
use Rattle.std.proofs.Common.{◌≡◌, ℕ, ◌+◌, Bool, true, false, eqb, List, [], ◌∷◌, Option, refl, sym, ◌∙◌, ap}
use Rattle.std.specs.Prelude.{◌&&◌}
use Rattle.mv_num.specs.Lists.{is_among}
use Rattle.mv_num.specs.declared.kind.Kind.{Kind}
use Rattle.mv_ast.specs.declared.program.Known.{Known}
use Rattle.mv_ir.specs.declared.tree.Tree.{Tree}
use Rattle.mv_ir.specs.declared.tree.Tree as tr
use Rattle.mv_ir.specs.declared.tree.Tree.TheOpen as tree
use Rattle.mv_ir.specs.declared.tree.Tree.TheVariants.{rolls-Number, rolls-Temp, rolls-Global, rolls-Function, rolls-Unary, rolls-Binary, rolls-Narrow}
use Rattle.mv_ir.specs.declared.stm.Array.{Array}
use Rattle.mv_ir.specs.declared.stm.Callee.{Callee}
use Rattle.mv_ir.specs.declared.stm.Stm.{Stm}
use Rattle.mv_ir.specs.declared.stm.Stm as at
use Rattle.mv_ir.specs.declared.stm.Stm.TheOpen.{Stm-F}
use Rattle.mv_ir.specs.declared.stm.Stm.TheOpen as stm
use Rattle.mv_ir.specs.declared.stm.Stm.TheVariants.{rolls-Set, rolls-SetGlobal, rolls-Divide, rolls-Check, rolls-Read, rolls-Write, rolls-Zero, rolls-If, rolls-Loop, rolls-Block, rolls-Break, rolls-Back, rolls-Call, rolls-Known, rolls-Return}
use Rattle.mv_ir.specs.declared.stm.Stm.TheViews.{roll-Stm}
use Rattle.mv_ir.specs.declared.stm.Stm.TheFolds.{fold-roll-Stm, map-Stm}
use Rattle.mv_expand.specs.Straight.{reads_only}
use Rattle.mv_expand.specs.Placed.{layer_sets, stm_sets, stand_in, placed_tree, result_into, placed_layer, placed_stm}
use Rattle.mv_expand.specs.Walking.{layer_fits, fits}
use Rattle.mv_expand.proofs.Rolls.{reads_only_roll, stm_sets_roll, placed_tree_roll, placed_stm_roll}

-- ---- what a tree reads

module _ (known : List ℕ) where
  pub only_number : (n : ℕ) → reads_only known (tr.Number n) ≡ true
  only_number n = ap (reads_only known) (sym (rolls-Number n)) ∙ reads_only_roll known (tree.Number n)

  pub only_temp : (t : ℕ) → reads_only known (tr.Temp t) ≡ is_among t known
  only_temp t = ap (reads_only known) (sym (rolls-Temp t)) ∙ reads_only_roll known (tree.Temp t)

  pub only_global : (g : ℕ) → reads_only known (tr.Global g) ≡ false
  only_global g = ap (reads_only known) (sym (rolls-Global g)) ∙ reads_only_roll known (tree.Global g)

  pub only_function : (f : ℕ) → reads_only known (tr.Function f) ≡ false
  only_function f = ap (reads_only known) (sym (rolls-Function f)) ∙ reads_only_roll known (tree.Function f)

  pub only_unary : (o : ℕ) (a : Tree) → reads_only known (tr.Unary o a) ≡ reads_only known a
  only_unary o a = ap (reads_only known) (sym (rolls-Unary o a)) ∙ reads_only_roll known (tree.Unary o a)

  pub only_binary : (o : ℕ) (a b : Tree) → reads_only known (tr.Binary o a b) ≡ (reads_only known a && reads_only known b)
  only_binary o a b = ap (reads_only known) (sym (rolls-Binary o a b)) ∙ reads_only_roll known (tree.Binary o a b)

  pub only_narrow : (k : Kind) (a : Tree) → reads_only known (tr.Narrow k a) ≡ reads_only known a
  only_narrow k a = ap (reads_only known) (sym (rolls-Narrow k a)) ∙ reads_only_roll known (tree.Narrow k a)

pub ruleset only_reads = (only_number, only_temp, only_global, only_function, only_unary, only_binary, only_narrow)

-- ---- what a statement sets

module _ (u : ℕ) where
  pub sets_roll : (x : Stm-F Stm) → stm_sets u (roll-Stm x) ≡ layer_sets u x
  sets_roll x = stm_sets_roll u x ∙ same x
    where
      same : (x : Stm-F Stm) → layer_sets u (map-Stm Stm Bool (stm_sets u) x) ≡ layer_sets u x
      same (stm.Set t v) = refl
      same (stm.SetGlobal g v) = refl
      same (stm.Divide t o a b) = refl
      same (stm.Check a i) = refl
      same (stm.Read t a i) = refl
      same (stm.Write a i v) = refl
      same (stm.Zero l) = refl
      same (stm.If t a b) = refl
      same (stm.Loop b) = refl
      same (stm.Block b) = refl
      same (stm.Break n) = refl
      same (stm.Back n) = refl
      same (stm.Call r f args) = refl
      same (stm.Known r k args) = refl
      same (stm.Return v) = refl

  pub sets_set : (t : ℕ) (v : Tree) → stm_sets u (at.Set t v) ≡ eqb t u
  sets_set t v = ap (stm_sets u) (sym (rolls-Set t v)) ∙ sets_roll (stm.Set t v)

  pub sets_setglobal : (g : ℕ) (v : Tree) → stm_sets u (at.SetGlobal g v) ≡ false
  sets_setglobal g v = ap (stm_sets u) (sym (rolls-SetGlobal g v)) ∙ sets_roll (stm.SetGlobal g v)

  pub sets_divide : (t o : ℕ) (a b : Tree) → stm_sets u (at.Divide t o a b) ≡ eqb t u
  sets_divide t o a b = ap (stm_sets u) (sym (rolls-Divide t o a b)) ∙ sets_roll (stm.Divide t o a b)

  pub sets_check : (a : Array) (i : Tree) → stm_sets u (at.Check a i) ≡ false
  sets_check a i = ap (stm_sets u) (sym (rolls-Check a i)) ∙ sets_roll (stm.Check a i)

  pub sets_read : (t : ℕ) (a : Array) (i : Tree) → stm_sets u (at.Read t a i) ≡ false
  sets_read t a i = ap (stm_sets u) (sym (rolls-Read t a i)) ∙ sets_roll (stm.Read t a i)

  pub sets_write : (a : Array) (i v : Tree) → stm_sets u (at.Write a i v) ≡ false
  sets_write a i v = ap (stm_sets u) (sym (rolls-Write a i v)) ∙ sets_roll (stm.Write a i v)

  pub sets_zero : (l : ℕ) → stm_sets u (at.Zero l) ≡ false
  sets_zero l = ap (stm_sets u) (sym (rolls-Zero l)) ∙ sets_roll (stm.Zero l)

  pub sets_if : (t : Tree) (a b : List Stm) → stm_sets u (at.If t a b) ≡ false
  sets_if t a b = ap (stm_sets u) (sym (rolls-If t a b)) ∙ sets_roll (stm.If t a b)

  pub sets_loop : (b : List Stm) → stm_sets u (at.Loop b) ≡ false
  sets_loop b = ap (stm_sets u) (sym (rolls-Loop b)) ∙ sets_roll (stm.Loop b)

  pub sets_block : (b : List Stm) → stm_sets u (at.Block b) ≡ false
  sets_block b = ap (stm_sets u) (sym (rolls-Block b)) ∙ sets_roll (stm.Block b)

  pub sets_break : (n : ℕ) → stm_sets u (at.Break n) ≡ false
  sets_break n = ap (stm_sets u) (sym (rolls-Break n)) ∙ sets_roll (stm.Break n)

  pub sets_back : (n : ℕ) → stm_sets u (at.Back n) ≡ false
  sets_back n = ap (stm_sets u) (sym (rolls-Back n)) ∙ sets_roll (stm.Back n)

  pub sets_call : (r : Option ℕ) (f : Callee) (args : List Tree) → stm_sets u (at.Call r f args) ≡ false
  sets_call r f args = ap (stm_sets u) (sym (rolls-Call r f args)) ∙ sets_roll (stm.Call r f args)

  pub sets_known : (r : Option ℕ) (k : Known) (args : List Tree) → stm_sets u (at.Known r k args) ≡ false
  sets_known r k args = ap (stm_sets u) (sym (rolls-Known r k args)) ∙ sets_roll (stm.Known r k args)

  pub sets_return : (v : Tree) → stm_sets u (at.Return v) ≡ false
  sets_return v = ap (stm_sets u) (sym (rolls-Return v)) ∙ sets_roll (stm.Return v)

pub ruleset settings = (sets_set, sets_setglobal, sets_divide, sets_check, sets_read, sets_write, sets_zero, sets_if, sets_loop, sets_block, sets_break, sets_back, sets_call, sets_known, sets_return)

-- ---- whether a statement is one of those in short bodies

pub fits_roll : (x : Stm-F Stm) → fits (roll-Stm x) ≡ layer_fits x
unfolding fits
fits_roll x = fold-roll-Stm Bool layer_fits x ∙ same x
  where
    same : (x : Stm-F Stm) → layer_fits (map-Stm Stm Bool fits x) ≡ layer_fits x
    same (stm.Set t v) = refl
    same (stm.SetGlobal g v) = refl
    same (stm.Divide t o a b) = refl
    same (stm.Check a i) = refl
    same (stm.Read t a i) = refl
    same (stm.Write a i v) = refl
    same (stm.Zero l) = refl
    same (stm.If t a b) = refl
    same (stm.Loop b) = refl
    same (stm.Block b) = refl
    same (stm.Break n) = refl
    same (stm.Back n) = refl
    same (stm.Call r f args) = refl
    same (stm.Known r k args) = refl
    same (stm.Return v) = refl

-- ---- what stands for a tree and for a statement

module _ (base : ℕ) (keeps : ℕ → Bool) (args : List Tree) where
  pub placed_number : (n : ℕ) → placed_tree base keeps args (tr.Number n) ≡ tr.Number n
  placed_number n = ap (placed_tree base keeps args) (sym (rolls-Number n)) ∙ placed_tree_roll base keeps args (tree.Number n) ∙ rolls-Number n

  pub placed_temp : (t : ℕ) → placed_tree base keeps args (tr.Temp t) ≡ stand_in base keeps args t
  placed_temp t = ap (placed_tree base keeps args) (sym (rolls-Temp t)) ∙ placed_tree_roll base keeps args (tree.Temp t)

  pub placed_global : (g : ℕ) → placed_tree base keeps args (tr.Global g) ≡ tr.Global g
  placed_global g = ap (placed_tree base keeps args) (sym (rolls-Global g)) ∙ placed_tree_roll base keeps args (tree.Global g) ∙ rolls-Global g

  pub placed_function : (f : ℕ) → placed_tree base keeps args (tr.Function f) ≡ tr.Function f
  placed_function f = ap (placed_tree base keeps args) (sym (rolls-Function f)) ∙ placed_tree_roll base keeps args (tree.Function f) ∙ rolls-Function f

  pub placed_unary : (o : ℕ) (a : Tree) → placed_tree base keeps args (tr.Unary o a) ≡ tr.Unary o (placed_tree base keeps args a)
  placed_unary o a = ap (placed_tree base keeps args) (sym (rolls-Unary o a)) ∙ placed_tree_roll base keeps args (tree.Unary o a) ∙ rolls-Unary o (placed_tree base keeps args a)

  pub placed_binary : (o : ℕ) (a b : Tree) → placed_tree base keeps args (tr.Binary o a b) ≡ tr.Binary o (placed_tree base keeps args a) (placed_tree base keeps args b)
  placed_binary o a b = ap (placed_tree base keeps args) (sym (rolls-Binary o a b)) ∙ placed_tree_roll base keeps args (tree.Binary o a b) ∙ rolls-Binary o (placed_tree base keeps args a) (placed_tree base keeps args b)

  pub placed_narrow : (k : Kind) (a : Tree) → placed_tree base keeps args (tr.Narrow k a) ≡ tr.Narrow k (placed_tree base keeps args a)
  placed_narrow k a = ap (placed_tree base keeps args) (sym (rolls-Narrow k a)) ∙ placed_tree_roll base keeps args (tree.Narrow k a) ∙ rolls-Narrow k (placed_tree base keeps args a)

  pub placed_roll : (r : Option ℕ) (x : Stm-F Stm) → placed_stm base keeps args r (roll-Stm x) ≡ placed_layer base keeps args r x
  placed_roll r x = placed_stm_roll base keeps args r x ∙ same x
    where
      same : (x : Stm-F Stm) → placed_layer base keeps args r (map-Stm Stm (List Stm) (placed_stm base keeps args r) x) ≡ placed_layer base keeps args r x
      same (stm.Set t v) = refl
      same (stm.SetGlobal g v) = refl
      same (stm.Divide t o a b) = refl
      same (stm.Check a i) = refl
      same (stm.Read t a i) = refl
      same (stm.Write a i v) = refl
      same (stm.Zero l) = refl
      same (stm.If t a b) = refl
      same (stm.Loop b) = refl
      same (stm.Block b) = refl
      same (stm.Break n) = refl
      same (stm.Back n) = refl
      same (stm.Call r f args) = refl
      same (stm.Known r k args) = refl
      same (stm.Return v) = refl

  pub placed_set : (r : Option ℕ) (t : ℕ) (v : Tree) → placed_stm base keeps args r (at.Set t v) ≡ at.Set (base + t) (placed_tree base keeps args v) ∷ []
  placed_set r t v =
      ap (placed_stm base keeps args r) (sym (rolls-Set t v)) ∙ placed_roll r (stm.Set t v) ∙ ap (λ s. s ∷ []) (rolls-Set (base + t) (placed_tree base keeps args v))

  pub placed_divide : (r : Option ℕ) (t o : ℕ) (a b : Tree) →
      placed_stm base keeps args r (at.Divide t o a b) ≡ at.Divide (base + t) o (placed_tree base keeps args a) (placed_tree base keeps args b) ∷ []
  placed_divide r t o a b =
      ap (placed_stm base keeps args r) (sym (rolls-Divide t o a b)) ∙ placed_roll r (stm.Divide t o a b) ∙
      ap (λ s. s ∷ []) (rolls-Divide (base + t) o (placed_tree base keeps args a) (placed_tree base keeps args b))

  pub placed_return : (r : Option ℕ) (v : Tree) → placed_stm base keeps args r (at.Return v) ≡ result_into base keeps args r v
  placed_return r v = ap (placed_stm base keeps args r) (sym (rolls-Return v)) ∙ placed_roll r (stm.Return v)

pub ruleset placings = (placed_number, placed_temp, placed_global, placed_function, placed_unary, placed_binary, placed_narrow)

pub ruleset placed_steps = (placed_set, placed_divide, placed_return)
