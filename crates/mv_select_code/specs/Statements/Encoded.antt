-- The code of statements has encodings, and few words.
use Rattle.std.specs.Prelude.{ℕ, ◌+◌, ◌*◌, ◌<◌, ◌≤◌, Bool, List, All, sum_by}
use Rattle.mv_num.specs.Limits.{temp_limit, frame_limit}
use Rattle.mv_isa.specs.declared.labelled.Line.{Line}
use Rattle.mv_isa.specs.Code.{LineFits, greatest_words}
use Rattle.mv_ir.specs.declared.tree.Tree.{Tree}
use Rattle.mv_ir.specs.Trees.{depth, nodes}
use Rattle.mv_select_code.specs.Trees.TreeCode.{Seats, temps_of, branch_lines}
use Rattle.mv_select_code.specs.Trees.View.{AreSeats}
use Rattle.mv_select_code.specs.declared.statements.elements.Home.{Home}
use Rattle.mv_select_code.specs.Statements.StatementCode.{first, home_within, set_lines, set_global_lines, divide_lines, check_lines, read_lines, write_lines, bounds_lines, clear_lines, result_lines}

-- the fields of lines fit, and they have at most n words
abbrev pub IsCode : ℕ → List Line → Type 0
IsCode n lines = All LineFits lines × (sum_by greatest_words lines ≤ n)

-- a tree for which there are registers, over temporaries within the greatest frame
abbrev pub IsSmall : Tree → Type 0
IsSmall v = (depth v ≤ 4) × (temps_of v ≤ temp_limit)

pub record AreEncoded (s : Seats) : Type 0 where
  pub set : (t : ℕ) (v : Tree) → t < temp_limit → IsSmall v → IsCode (2 * nodes v + 1) (set_lines s t v)
  pub set_global : (g : ℕ) (v : Tree) → IsSmall v → IsCode (2 * nodes v + 2) (set_global_lines s g v)
  pub divide : (t o : ℕ) (a b : Tree) → t < temp_limit → IsSmall a → IsSmall b → IsCode (2 * nodes a + (2 * nodes b + 4)) (divide_lines s t o a b)
  pub check : (size : ℕ) (tested : Bool) (i : Tree) → IsSmall i → IsCode (2 * nodes i + 4) (check_lines s size tested i)
  pub read : (t size : ℕ) (h : Home) (tested : Bool) (i : Tree) → t < temp_limit → home_within h size frame_limit → IsSmall i → IsCode (2 * nodes i + 9) (read_lines s t h size tested i)
  pub write : (size : ℕ) (h : Home) (tested : Bool) (i v : Tree) → home_within h size frame_limit → IsSmall i → IsSmall v → IsCode (2 * nodes i + (2 * nodes v + 8)) (write_lines s h size tested i v)
  pub bounds : (at n : ℕ) → at + 4 * n ≤ frame_limit → IsCode 2 (bounds_lines at n)
  pub clear : IsCode 2 clear_lines
  pub branch : (sense : Bool) (label : ℕ) (v : Tree) → IsSmall v → IsCode (2 * nodes v + 2) (branch_lines s v sense first label)
  pub result : (v : Tree) → IsSmall v → IsCode (2 * nodes v) (result_lines s v)

-- wherever values stand, the code of statements without control is so
abbrev pub StatementsAreEncoded : Type 0
StatementsAreEncoded = (s : Seats) → AreSeats s → AreEncoded s
