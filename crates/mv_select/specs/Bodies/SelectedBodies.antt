-- The bodies that code can be selected for.
use Rattle.std.specs.Prelude.{ℕ, ◌≡◌, ◌+◌, ◌*◌, ◌<◌, ◌≤◌, ◌^◌, Bool, true, false, ◌&&◌, ◌||◌, leb, ltb, List, [], ◌∷◌, ◌++◌, All, length, map, None}
use Rattle.mv_ast.specs.declared.program.Known.{Known}
use Rattle.mv_ast.specs.declared.program.Known.TheVariants.{Plan}
use Rattle.mv_num.specs.Lists.{is_among}
use Rattle.mv_num.specs.Limits.{temp_limit}
use Rattle.mv_ir.specs.declared.tree.Tree.{Tree}
use Rattle.mv_ir.specs.declared.tree.Tree.TheOpen.{Tree-F}
use Rattle.mv_ir.specs.declared.tree.Tree.TheOpen as tree
use Rattle.mv_ir.specs.declared.tree.Tree.TheFolds.{fold-Tree}
use Rattle.mv_ir.specs.declared.stm.Stm.{Stm}
use Rattle.mv_ir.specs.declared.stm.Stm.TheOpen.{Stm-F}
use Rattle.mv_ir.specs.declared.stm.Stm.TheOpen as stm
use Rattle.mv_ir.specs.declared.stm.Stm.TheFolds.{fold-Stm}
use Rattle.mv_ir.specs.declared.body.Body.{Body}
use Rattle.mv_ir.specs.declared.body.Room.{Room}
use Rattle.mv_ir.specs.Trees.{found}
use Rattle.mv_ir.specs.World as ir
use Rattle.mv_ir.specs.Measures.{joined, trees, scalars_read, array_read, arrays_read, deepest}
use Rattle.mv_ir.specs.WellFormed.{has_room, IsWellFormed}
use Rattle.mv_select_code.specs.Trees.Rooms.{place_in}
use Rattle.mv_select_code.specs.Statements.Frames.{Reach}
use Rattle.mv_select_code.specs.Control.Labels.{functions}
use Rattle.mv_select_code.specs.Control.Layouts.{size_in, are_small}
use Rattle.mv_select.specs.Calls.Convention.{Layout, frame_limit}
use Rattle.mv_select.specs.Functions.FunctionCode.{bytes_of, function_lines}
use Rattle.mv_select.specs.Functions.Functions.{IsAmple, IsFunction, shape_of}

-- ---- the constants that stand in code, and the known functions that it calls

-- the constants of one node, given those of its operands
abbrev pub constants_layer : Tree-F (List ℕ) → List ℕ
constants_layer (tree.Number n) = n ∷ []
constants_layer (tree.Temp t) = []
constants_layer (tree.Global g) = []
constants_layer (tree.Function f) = []
constants_layer (tree.Unary o a) = a
constants_layer (tree.Binary o a b) = a ++ b
constants_layer (tree.Narrow k a) = a

-- the constants of a tree
unfoldable pub tree_constants : Tree → List ℕ
tree_constants = fold-Tree (List ℕ) constants_layer

-- the constants of trees in order
abbrev pub constants_of_all : List Tree → List ℕ
constants_of_all ts = joined (map tree_constants ts)

-- the constants of some code
abbrev pub constants : List Stm → List ℕ
constants code = constants_of_all (trees code)

-- numbers that are words
abbrev pub AreWords : List ℕ → Type 0
AreWords ns = All (λ n. n < 2 ^ 32) ns

-- the known functions that one statement calls, given those that the ones within it call
abbrev pub knowns_layer : Stm-F (List Known) → List Known
knowns_layer (stm.If t a b) = joined a ++ joined b
knowns_layer (stm.Loop b) = joined b
knowns_layer (stm.Block b) = joined b
knowns_layer (stm.Known r k args) = k ∷ []
knowns_layer _ = []

-- the known functions that a statement calls, with the statements within it
unfoldable pub stm_knowns : Stm → List Known
stm_knowns = fold-Stm (List Known) knowns_layer

-- those that some code calls
abbrev pub knowns : List Stm → List Known
knowns code = joined (map stm_knowns code)

-- the globals that one statement stores to, as scalars or to their elements, given those that the ones within it do
abbrev pub written_layer : Stm-F (List ℕ) → List ℕ
written_layer (stm.SetGlobal g v) = g ∷ []
written_layer (stm.Write a i v) = array_read a
written_layer (stm.If t a b) = joined a ++ joined b
written_layer (stm.Loop b) = joined b
written_layer (stm.Block b) = joined b
written_layer _ = []

-- those that a statement stores to, with the statements within it
unfoldable pub stm_written : Stm → List ℕ
stm_written = fold-Stm (List ℕ) written_layer

-- the globals that some code writes, and those that it reads, as scalars or elements of them
abbrev pub globals_written : List Stm → List ℕ
globals_written code = joined (map stm_written code)

abbrev pub globals_read : List Stm → List ℕ
globals_read code = scalars_read code ++ arrays_read code

-- an order's numbers are a byte and a word
abbrev pub IsOrder : Known → Type 0
IsOrder (Plan code index) = (code < 256) × (index < 2 ^ 32)
IsOrder _ = Unit {0}

-- the constants of some code are words, and the numbers of its orders fit
pub record HasWords (code : List Stm) : Type 0 where
  pub constants : AreWords (constants code)
  pub orders : All IsOrder (knowns code)

-- ---- bodies within the limits of selection

-- A well-formed body with registers for its trees and a frame that isn't too large, whose orders are a byte and a word.
pub record IsWithin (attributed : Bool) (b : Body) : Type 0 where
  pub formed : IsWellFormed b
  pub shallow : deepest b.code ≤ 4
  pub frame : bytes_of (shape_of attributed b) ≤ frame_limit
  pub orders : All IsOrder (knowns b.code)

-- Such a body has at most 507 temporaries, and its code is small.
abbrev pub BodiesAreSmall : Type 0
BodiesAreSmall = (attributed : Bool) (b : Body) → IsWithin attributed b → (b.temps ≤ temp_limit) × (are_small b.code ≡ true)

-- ---- rooms of a program

-- Each global that has a room stands at its place in the program, and has as many words there, at least one.
pub record AreRooms (y : Layout) (rooms : List Room) : Type 0 where
  pub places : (g : ℕ) → has_room rooms g ≡ true → place_in rooms g ≡ y.place g
  pub sizes : (g : ℕ) → has_room rooms g ≡ true → size_in rooms g ≡ y.size g
  pub words : (g : ℕ) → has_room rooms g ≡ true → 0 < y.size g

-- one room stands where the program has its global
abbrev pub IsRoom : Layout → Room → Type 0
IsRoom y r = (r.at ≡ y.place r.global) × (r.size ≡ y.size r.global) × (0 < r.size)

-- Where each of some rooms does, a global that has a room is found there.
abbrev pub RoomsStand : Type 0
RoomsStand = (y : Layout) (rooms : List Room) → All (IsRoom y) rooms → AreRooms y rooms

-- The code of a well-formed body that is written from its own rooms is that which is written from the program's layout.
abbrev pub CodeIsTheSame : Type 0
CodeIsTheSame =
    (y : Layout) (attributed : Bool) (is_attributed : ℕ → Bool) (b : Body) → IsWellFormed b → AreRooms y b.rooms →
    function_lines (place_in b.rooms) (size_in b.rooms) is_attributed (shape_of attributed b) b.code ≡ function_lines y.place y.size is_attributed (shape_of attributed b) b.code

-- ---- bodies of a program

-- A body within the limits whose rooms are the program's, with words for constants, which asks for known functions that it may, and names functions that
-- there are; and no global that is read as bound is read, nor elements of it.
pub record IsInProgram (y : Layout) (setting : ir.Setting) (attributed : Bool) (bound : List (ℕ × ℕ)) (b : Body) : Type 0 where
  pub within : IsWithin attributed b
  pub rooms : AreRooms y b.rooms
  pub constants : AreWords (constants b.code)
  pub knowns : All (λ k. y.may_ask k ≡ true) (knowns b.code)
  pub functions : All (λ f. f < length setting.numbers) (functions b.code)
  pub free : All (λ g. found bound g ≡ None) (scalars_read b.code)
  pub arrays : All (λ g. found bound g ≡ None) (arrays_read b.code)

-- whether an address is that of a data word of one of some globals
abbrev pub is_in_globals : Layout → List ℕ → ℕ → Bool
is_in_globals y [] a = false
is_in_globals y (g ∷ gs) a = (leb (y.place g) a && ltb a (y.place g + 4 * y.size g)) || is_in_globals y gs a

-- The code of a body reads and writes the globals that the body does. It loads from the stack and from data words of the globals that the body reads.
abbrev pub reach_of : Layout → Body → Reach
reach_of y b = record {
  is_read = λ g. is_among g (globals_read b.code);
  is_written = λ g. is_among g (globals_written b.code);
  may_load = λ a. (leb y.bottom a && ltb a y.top) || is_in_globals y (globals_read b.code) a;
}

-- Such a body is one whose code keeps the calling convention, using no more of memory, with some test for its trees.
abbrev pub BodiesAreFunctions : Type 0
BodiesAreFunctions =
    (y : Layout) (setting : ir.Setting) (attributed : Bool) (bound : List (ℕ × ℕ)) (b : Body) → IsInProgram y setting attributed bound b →
    (is_fine : Tree → Bool) × IsAmple y (reach_of y b) × IsFunction y setting attributed bound (reach_of y b) is_fine b
