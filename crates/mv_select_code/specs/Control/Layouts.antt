-- What a layout says of the places of globals and arrays, and which statements there are registers and room for.
use Rattle.std.specs.Prelude.{ℕ, ◌+◌, ◌*◌, ◌≤◌, ◌&&◌, Bool, true, cond, eqb, ltb, leb, length, List, [], ◌∷◌, map, Option, slice_index_or}
use Rattle.mv_num.specs.Limits.{temp_limit, frame_limit}
use Rattle.mv_ast.specs.declared.program.Known.{Known}
use Rattle.mv_ir.specs.declared.body.Room.{Room}
use Rattle.mv_ir.specs.declared.tree.Tree.{Tree}
use Rattle.mv_ir.specs.declared.stm.Callee.{Callee}
use Rattle.mv_ir.specs.declared.stm.Stm.{Stm}
use Rattle.mv_ir.specs.Trees.{depth}
use Rattle.mv_ir.specs.WellFormed.{known_arguments, all_true}
use Rattle.mv_select_code.specs.Trees.TreeCode.{seats_at, temps_of}
use Rattle.mv_select_code.specs.declared.control.layout.Space.{Space}
use Rattle.mv_select_code.specs.declared.control.layout.Layout.{Layout}
use Rattle.mv_select_code.specs.Control.FlowCode.{Uses, CallLines, Plan, fine_target, fine_callee, fine_known, is_fine_statement, are_fine}

-- how many words a global has, and 0 where it has no room
abbrev pub size_in : List Room → ℕ → ℕ
size_in [] g = 0
size_in (r ∷ rs) g = cond (eqb r.global g) r.size (size_in rs g)

-- the space of an array, and none past the last
abbrev pub space_in : List Space → ℕ → Space
space_in arrays a = slice_index_or arrays a (record { at = 0; size = 0 })

abbrev pub array_at_in : List Space → ℕ → ℕ
array_at_in arrays a = (space_in arrays a).at

abbrev pub array_size_in : List Space → ℕ → ℕ
array_size_in arrays a = (space_in arrays a).size

-- an array lies within the greatest frame
abbrev pub IsInFrame : Space → Type 0
IsInFrame space = space.at + 4 * space.size ≤ frame_limit

abbrev pub plan_in : Layout → CallLines → Plan
plan_in layout calls = record {
  seats = seats_at layout.rooms layout.keeping layout.pins;
  size = size_in layout.rooms;
  array_at = array_at_in layout.arrays;
  array_size = array_size_in layout.arrays;
  end = layout.end;
  calls = calls;
}

-- there are registers for a tree, and its temporaries are within the greatest frame
abbrev pub is_small : Tree → Bool
is_small t = leb (depth t) 4 && leb (temps_of t) temp_limit

abbrev pub any_global : Uses
any_global = record { has_word = λ g. true; is_read = λ g. true; is_written = λ g. true; may_call = true }

abbrev pub any_known : Known → Bool
any_known k = true

-- likewise for the trees of a call, which has at most eight arguments, and of a known function, which has its own number
abbrev pub small_call : Option ℕ → Callee → List Tree → Bool
small_call r f args =
    ltb (length args) 9 && (fine_target is_small any_known temp_limit any_global r && (fine_callee is_small any_known temp_limit any_global f && all_true (map is_small args)))

abbrev pub small_known : Option ℕ → Known → List Tree → Bool
small_known r k args =
    eqb (length args) (known_arguments k)
    && (fine_known is_small any_known temp_limit any_global k && (fine_target is_small any_known temp_limit any_global r && all_true (map is_small args)))

-- and for all trees of statements
abbrev pub is_small_statement : Stm → Bool
is_small_statement = is_fine_statement is_small any_known temp_limit any_global

abbrev pub are_small : List Stm → Bool
are_small = are_fine is_small any_known temp_limit any_global
