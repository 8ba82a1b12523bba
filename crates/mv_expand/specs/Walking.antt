-- Where the walks over code have come to, and what they count.
use Rattle.std.specs.Prelude.{ℕ, ◌≡◌, ◌+◌, ◌*◌, ◌-◌, ◌^◌, ◌≢◌, ◌&&◌, Bool, false, List, [], ◌∷◌, ◌++◌, slice_get, min, nat_lt, Option, Some}
use Rattle.mv_ir.specs.declared.tree.Tree.{Tree}
use Rattle.mv_ir.specs.declared.stm.Callee.{Callee}
use Rattle.mv_ir.specs.declared.stm.Callee.TheVariants as callee
use Rattle.mv_ir.specs.declared.stm.Stm.{Stm}
use Rattle.mv_ir.specs.declared.stm.Stm.TheOpen.{Stm-F}
use Rattle.mv_ir.specs.declared.stm.Stm.TheOpen as stm
use Rattle.mv_ir.specs.declared.stm.Stm.TheFolds.{fold-Stm}
use Rattle.mv_ir.specs.declared.body.Body.{Body}
use Rattle.mv_ir.specs.Live.{below}
use Rattle.mv_ir.specs.Measures.{stm_size, stm_trees}
use Rattle.mv_ir.specs.Rolled.{number, call}
use Rattle.mv_ir.specs.Trees.{nodes_of_all}
use Rattle.mv_ir.specs.Shorts.{Shorts}
use Rattle.mv_expand.specs.Straight.{Straight, reads_only, short_temps}
use Rattle.mv_expand.specs.Placed.{IsPlaced}
use Rattle.mv_expand.specs.Expanding.{Expands}

-- ---- counts

-- as far as 64 bits hold it
abbrev pub capped : ℕ → ℕ
capped n = min n (2 ^ 64 - 1)

-- what a statement adds to what code costs
abbrev pub stm_cost : Stm → ℕ
stm_cost s = 8 * stm_size s + 3 * nodes_of_all (stm_trees s)

-- ---- short bodies

-- statements of straight code, and the temporaries that are known before and behind them
abbrev pub LeadsOn : (temps : ℕ) → (known : List ℕ) → List Stm → (behind : List ℕ) → Type 0
LeadsOn temps known code behind = (rest : List Stm) → Straight temps behind rest → Straight temps known (code ++ rest)

-- a number other than 0
abbrev pub IsDivisor : Tree → Type 0
IsDivisor t = (n : ℕ) × (t ≡ number n) × (n ≢ 0)

-- whether a tree names no other temporary than short bodies have
unfoldable pub is_small : Tree → Bool
is_small = reads_only (below short_temps)

abbrev pub layer_fits : {A : Type 0} → Stm-F A → Bool
layer_fits (stm.Set t v) = nat_lt t short_temps && is_small v
layer_fits (stm.Divide t o a b) = nat_lt t short_temps && (is_small a && is_small b)
layer_fits (stm.Return v) = is_small v
layer_fits _ = false

-- whether a statement is one of those in short bodies, over their temporaries
unfoldable pub fits : Stm → Bool
fits = fold-Stm Bool layer_fits

-- ---- short bodies in place of calls

-- the short body of what a call goes to
abbrev pub IsShortOf : Shorts → Callee → Body → Type 0
IsShortOf shorts c body = (f : ℕ) × (c ≡ callee.Direct f) × (slice_get shorts f ≡ Some (Some body))

-- a call, and the statements of a short body that can stand in place of it
pub record IsPlacedCall (shorts : Shorts) (base : ℕ) (s : Stm) (code : List Stm) : Type 0 where
  pub target : Option ℕ
  pub function : ℕ
  pub args : List Tree
  pub body : Body
  pub is : s ≡ call target (callee.Direct function) args
  pub short : slice_get shorts function ≡ Some (Some body)
  pub placed : IsPlaced base target args body code

-- what some statements become, and whether the test was made before and behind them
abbrev pub Becomes : Shorts → (base : ℕ) → (tested : Bool) → (code made : List Stm) → (after : Bool) → Type 0
Becomes shorts base tested code made after =
    (rest rest' : List Stm) → Expands shorts base after rest rest' → Expands shorts base tested (code ++ rest) (made ++ rest')

-- what the next statement becomes stands behind what was made before
pub record IsNext (shorts : Shorts) (base : ℕ) (tested : Bool) (s : Stm) (before made : List Stm) (after : Bool) : Type 0 where
  pub part : List Stm
  pub is : made ≡ before ++ part
  pub becomes : Becomes shorts base tested (s ∷ []) part after

-- the body with other code, and so many temporaries
abbrev pub with_code : Body → ℕ → List Stm → Body
with_code b temps code = record b { temps = temps; code = code }
