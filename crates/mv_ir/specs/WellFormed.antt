-- Bodies that are well formed: what they name is there, their jumps have targets, and no limit is passed.
use Rattle.std.specs.Prelude.{ℕ, ◌+◌, ◌^◌, ◌≤◌, ◌≡◌, Bool, true, false, ◌&&◌, ◌||◌, List, [], ◌∷◌, ◌++◌, map, length, slice_get, unwrap_or, nat_eq, nat_lt}
use Rattle.mv_ast.specs.declared.program.Known.{Known}
use Rattle.mv_ast.specs.declared.program.Known.TheVariants.{Putchar}
use Rattle.mv_ir.specs.declared.stm.Array.{Array}
use Rattle.mv_ir.specs.declared.stm.Array.TheVariants as array
use Rattle.mv_ir.specs.declared.stm.Callee.{Callee}
use Rattle.mv_ir.specs.declared.stm.Callee.TheVariants as callee
use Rattle.mv_ir.specs.declared.stm.Stm.{Stm}
use Rattle.mv_ir.specs.declared.stm.Stm.TheOpen.{Stm-F}
use Rattle.mv_ir.specs.declared.stm.Stm.TheOpen as stm
use Rattle.mv_ir.specs.declared.stm.Stm.TheFolds.{fold-Stm}
use Rattle.mv_ir.specs.declared.body.Body.{Body}
use Rattle.mv_ir.specs.declared.body.Room.{Room}
use Rattle.mv_ir.specs.Measures.{joined, scalars_read, statements, tree_nodes}
use Rattle.mv_ir.specs.Live.{HasTemps}

abbrev pub all_true : List Bool → Bool
all_true [] = true
all_true (b ∷ bs) = b && all_true bs

-- ---- jumps

-- each of some statements, with what is around them
abbrev pub all_around : List (List Bool → Bool) → List Bool → Bool
all_around [] around = true
all_around (s ∷ ss) around = s around && all_around ss around

-- whether the jumps of a statement have targets; `around` tells of each enclosing loop or block, the innermost first,
-- whether it is a loop
abbrev pub layer_targets : Stm-F (List Bool → Bool) → List Bool → Bool
layer_targets (stm.If t a b) around = all_around a around && all_around b around
layer_targets (stm.Loop b) around = all_around b (true ∷ around)
layer_targets (stm.Block b) around = all_around b (false ∷ around)
layer_targets (stm.Break n) around = nat_lt n (length around)
layer_targets (stm.Back n) around = unwrap_or (slice_get around n) false
layer_targets _ around = true

unfoldable pub stm_targets : Stm → List Bool → Bool
stm_targets = fold-Stm (List Bool → Bool) layer_targets

-- ---- names

abbrev pub callee_named : Callee → List Array
callee_named (callee.Direct f) = []
callee_named (callee.Through t) = []
callee_named (callee.Switched g) = array.Global g ∷ []
callee_named callee.Expanded = []

-- the arrays that a statement names, and the scalars that it stores to and the pointer switches that it calls through, as arrays of one element
abbrev pub layer_named : Stm-F (List Array) → List Array
layer_named (stm.SetGlobal g v) = array.Global g ∷ []
layer_named (stm.Check a i) = a ∷ []
layer_named (stm.Read t a i) = a ∷ []
layer_named (stm.Write a i v) = a ∷ []
layer_named (stm.Zero l) = array.Local l ∷ []
layer_named (stm.Call r f args) = callee_named f
layer_named (stm.If t a b) = joined a ++ joined b
layer_named (stm.Loop b) = joined b
layer_named (stm.Block b) = joined b
layer_named _ = []

unfoldable pub stm_named : Stm → List Array
stm_named = fold-Stm (List Array) layer_named

abbrev pub named : List Stm → List Array
named code = joined (map stm_named code)

abbrev pub has_room : List Room → ℕ → Bool
has_room [] g = false
has_room (r ∷ rooms) g = nat_eq r.global g || has_room rooms g

-- a global has a room, and an array of the frame a size
abbrev pub is_there : List Room → List ℕ → Array → Bool
is_there rooms sizes (array.Global g) = has_room rooms g
is_there rooms sizes (array.Local l) = nat_lt l (length sizes)
is_there rooms sizes (array.SureGlobal g n) = has_room rooms g
is_there rooms sizes (array.SureLocal l n) = nat_lt l (length sizes)

-- ---- arguments

abbrev pub known_arguments : Known → ℕ
known_arguments Putchar = 1
known_arguments _ = 0

-- a call has at most eight arguments, and a known function its own number
abbrev pub layer_arguments : Stm-F Bool → Bool
layer_arguments (stm.If t a b) = all_true a && all_true b
layer_arguments (stm.Loop b) = all_true b
layer_arguments (stm.Block b) = all_true b
layer_arguments (stm.Call r f args) = nat_lt (length args) 9
layer_arguments (stm.Known r k args) = nat_eq (length args) (known_arguments k)
layer_arguments _ = true

unfoldable pub stm_arguments : Stm → Bool
stm_arguments = fold-Stm Bool layer_arguments

-- ---- bodies

-- The function itself counts as the outermost block: to leave it is to end without a value.
pub record IsWellFormed (b : Body) : Type 0 where
  pub temps : HasTemps b
  pub params : b.params ≤ 8
  pub targets : all_around (map stm_targets b.code) (false ∷ []) ≡ true
  pub named : all_true (map (is_there b.rooms b.arrays) (named b.code)) ≡ true
  pub read : all_true (map (has_room b.rooms) (scalars_read b.code)) ≡ true
  pub arguments : all_true (map stm_arguments b.code) ≡ true
  pub size : statements b.code + tree_nodes b.code ≤ 2 ^ 30
