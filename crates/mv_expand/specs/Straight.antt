-- Short bodies: those that can stand in place of a call.
use Rattle.std.specs.Prelude.{ℕ, ◌≡◌, ◌≢◌, ◌≤◌, ◌<◌, ◌&&◌, Bool, true, false, List, [], ◌∷◌, slice_get, Some}
use Rattle.mv_num.specs.Lists.{is_among}
use Rattle.mv_ir.specs.declared.tree.Tree.{Tree}
use Rattle.mv_ir.specs.declared.tree.Tree.TheOpen.{Tree-F}
use Rattle.mv_ir.specs.declared.tree.Tree.TheOpen as tree
use Rattle.mv_ir.specs.declared.tree.Tree.TheFolds.{fold-Tree}
use Rattle.mv_ir.specs.declared.stm.Stm.{Stm}
use Rattle.mv_ir.specs.declared.body.Body.{Body}
use Rattle.mv_ir.specs.Live.{below}
use Rattle.mv_ir.specs.Rolled.{number, set, divide, return_with}
use Rattle.mv_ir.specs.Shorts.{Shorts}

-- how many parameters a short body has at most, and how many temporaries
abbrev pub short_params : ℕ
short_params = 6

abbrev pub short_temps : ℕ
short_temps = 16

abbrev pub layer_reads_only : List ℕ → Tree-F Bool → Bool
layer_reads_only known (tree.Number n) = true
layer_reads_only known (tree.Temp t) = is_among t known
layer_reads_only known (tree.Global g) = false
layer_reads_only known (tree.Function f) = false
layer_reads_only known (tree.Unary o a) = a
layer_reads_only known (tree.Binary o a b) = a && b
layer_reads_only known (tree.Narrow k a) = a

-- whether a tree names nothing but constants and some temporaries
unfoldable pub reads_only : List ℕ → Tree → Bool
reads_only known = fold-Tree Bool (layer_reads_only known)

-- Code that sets temporaries one after the other, each below a number of them, by values and by divisions by numbers other than 0, over constants and the
-- temporaries that are known there, and then returns a value. So it never traps, and means the same in each frame.
pub data Straight (temps : ℕ) : (known : List ℕ) → List Stm → Type 0 where
  returns : (known : List ℕ) (v : Tree) → reads_only known v ≡ true → Straight temps known (return_with v ∷ [])
  sets : (known : List ℕ) (t : ℕ) (v : Tree) (rest : List Stm) → t < temps → reads_only known v ≡ true → Straight temps (t ∷ known) rest → Straight temps known (set t v ∷ rest)
  divides : (known : List ℕ) (t o : ℕ) (a : Tree) (n : ℕ) (rest : List Stm) → t < temps → n ≢ 0 → reads_only known a ≡ true → Straight temps (t ∷ known) rest →
      Straight temps known (divide t o a (number n) ∷ rest)

-- a body whose parameters and temporaries are few, and whose code is straight over them
pub record IsShort (b : Body) : Type 0 where
  pub params : b.params ≤ short_params
  pub temps : b.temps ≤ short_temps
  pub straight : Straight b.temps (below b.params) b.code

abbrev pub AllShort : Shorts → Type 0
AllShort shorts = (f : ℕ) (b : Body) → slice_get shorts f ≡ Some (Some b) → IsShort b
