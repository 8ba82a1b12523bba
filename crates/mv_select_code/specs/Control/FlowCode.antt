-- The code of statements within one another, by where control goes behind it. Its labels are counted on from a first free one.
use Rattle.std.specs.Prelude.{ℕ, zero, suc, ◌+◌, ◌^◌, ◌&&◌, ◌||◌, Bool, true, false, not, cond, eqb, ltb, leb, length, List, [], ◌∷◌, ◌++◌, map, Option, Some, None}
use Rattle.mv_ast.specs.declared.program.Known.{Known}
use Rattle.mv_ast.specs.declared.program.Known.TheVariants as known
use Rattle.mv_isa.specs.declared.labelled.Line.{Line}
use Rattle.mv_isa.specs.declared.labelled.Line.TheVariants.{Label, Jump, Branch}
use Rattle.mv_isa.specs.Registers.{x0}
use Rattle.mv_ir.specs.declared.tree.Tree.{Tree}
use Rattle.mv_ir.specs.declared.stm.Array.{Array}
use Rattle.mv_ir.specs.declared.stm.Array.TheVariants as array
use Rattle.mv_ir.specs.declared.stm.Callee.{Callee}
use Rattle.mv_ir.specs.declared.stm.Callee.TheVariants as callee
use Rattle.mv_ir.specs.declared.stm.Stm.{Stm}
use Rattle.mv_ir.specs.declared.stm.Stm.TheOpen.{Stm-F}
use Rattle.mv_ir.specs.declared.stm.Stm.TheOpen as stm
use Rattle.mv_ir.specs.declared.stm.Stm.TheFolds.{fold-Stm}
use Rattle.mv_ir.specs.WellFormed.{all_true, known_arguments}
use Rattle.mv_select_code.specs.Trees.TreeCode.{Seats, branch_lines}
use Rattle.mv_select_code.specs.declared.statements.elements.Home.{Home}
use Rattle.mv_select_code.specs.declared.statements.elements.Home.TheVariants as place_at
use Rattle.mv_select_code.specs.Statements.StatementCode.{first, second, set_lines, set_global_lines, divide_lines, check_lines, read_lines, write_lines, bounds_lines, clear_lines, result_lines}
use Rattle.mv_select_code.specs.declared.control.enclosing.Enclosing.{Enclosing}
use Rattle.mv_select_code.specs.declared.control.enclosing.Leading.{Leading}
use Rattle.mv_select_code.specs.declared.control.enclosing.Leading.TheVariants as lead
use Rattle.mv_select_code.specs.declared.control.enclosing.Way.{Way}

-- the n-th of what encloses a statement, counted from 0, the innermost; the whole function past all of them
abbrev pub enclosing_at : List Enclosing → ℕ → ℕ → Enclosing
enclosing_at [] n end = record { start = end; end = end }
enclosing_at (e ∷ around) zero end = e
enclosing_at (e ∷ around) (suc n) end = enclosing_at around n end

-- the code of calls of functions, and of known functions
pub record CallLines : Type 0 where
  pub call : Option ℕ → Callee → List Tree → List Line
  pub known : Option ℕ → Known → List Tree → List Line

-- Where things are: the address of each global and the register of each temporary that has one, the number of words of each global, the place above sp and
-- the number of words of each array of the frame, the label of the end of the function, and the code of calls.
pub record Plan : Type 0 where
  pub seats : Seats
  pub size : ℕ → ℕ
  pub array_at : ℕ → ℕ
  pub array_size : ℕ → ℕ
  pub end : ℕ
  pub calls : CallLines

-- ---- where control goes behind some code

-- on to a label that stands right behind it
abbrev pub fall_to : ℕ → Way
fall_to label = record { after = label; falls = true }

-- on to a label that stands elsewhere
abbrev pub jump_to : ℕ → Way
jump_to label = record { after = label; falls = false }

-- to a label out of the last of the code, by a jump where it doesn't stand right behind
abbrev pub go_to : Way → ℕ → List Line
go_to way l = cond (way.falls && eqb way.after l) [] (Jump x0 l ∷ [])

-- on, likewise
abbrev pub go_on : Way → List Line
go_on way = cond way.falls [] (Jump x0 way.after ∷ [])

-- how many instructions that takes
abbrev pub jumps : Way → ℕ
jumps way = cond way.falls 0 1

-- where code leads that does nothing else
abbrev pub leads_to : ℕ → List Enclosing → Way → Leading → ℕ
leads_to end around way lead.On = way.after
leads_to end around way (lead.Out n) = (enclosing_at around n end).end
leads_to end around way (lead.Back n) = (enclosing_at around n end).start

-- Code that a test leads to: whether it does where the tree isn't 0, or where it is; how many labels the code takes, and its lines, as below.
pub record Tested : Type 0 where
  pub test : Tree
  pub sense : Bool
  pub labels : ℕ
  pub lines : List Enclosing → ℕ → Way → List Line

-- How many labels some code takes; where it leads, if it does nothing else; to what it leads by a test which else leaves the innermost loop or block, if it
-- does nothing else; and its lines, by what encloses it, the innermost first, the first free label, and where control goes behind it.
pub record Emitted : Type 0 where
  pub labels : ℕ
  pub alone : Option Leading
  pub stays : Option Tested
  pub lines : List Enclosing → ℕ → Way → List Line

-- lines without labels, and then on
abbrev pub plain : List Line → Emitted
plain lines = record { labels = 0; alone = None; stays = None; lines = λ around label way. lines ++ go_on way }

-- ---- lists, loops, blocks and branches

abbrev pub nothing : Emitted
nothing = record { labels = 0; alone = Some lead.On; stays = None; lines = λ around label way. go_on way }

-- one behind the other, with a label between them; the second takes its labels behind those of the first
abbrev pub both : Emitted → Emitted → Emitted
both a b = record {
  labels = 1 + (a.labels + b.labels);
  alone = None;
  stays = None;
  lines = λ around label way. a.lines around (label + 1) (fall_to label) ++ (Label label ∷ b.lines around (label + 1 + a.labels) way);
}

-- one before others, whose code is given, if there are any
abbrev pub before : Emitted → List Emitted → Emitted → Emitted
before a [] b = a
before a (x ∷ rest) b = both a b

abbrev pub in_turn : List Emitted → Emitted
in_turn [] = nothing
in_turn (a ∷ rest) = before a rest (in_turn rest)

-- where a list only leaves, it is the other list that the test leads to
abbrev pub staying : Tree → Bool → Leading → Emitted → Option Tested
staying t sense (lead.Out zero) a = Some (record { test = t; sense = not sense; labels = a.labels; lines = a.lines })
staying t sense _ a = None

-- a branch to where a list leads, and else the other list
abbrev pub branch_code : Seats → ℕ → Tree → Bool → Leading → Emitted → Emitted
branch_code seats end t sense l a = record {
  labels = a.labels;
  alone = None;
  stays = staying t sense l a;
  lines = λ around label way. branch_lines seats t sense first (leads_to end around way l) ++ a.lines around label way;
}

-- the second list, at a label, where the tree is 0, and else the first one, with a jump at its end
abbrev pub either_code : Seats → Tree → Emitted → Emitted → Emitted
either_code seats t a b = record {
  labels = 1 + (a.labels + b.labels);
  alone = None;
  stays = None;
  lines = λ around label way.
      branch_lines seats t false first label ++ (a.lines around (label + 1) (jump_to way.after) ++ (Label label ∷ b.lines around (label + 1 + a.labels) way));
}

-- Where a branch goes in place of a list that only leads somewhere: where the tree isn't 0, to where the first list does, or where it is, to where the
-- second does. Where both do, one that goes on is kept.
abbrev pub short_cut : Option Leading → Option Leading → Option (Bool × Leading)
short_cut None None = None
short_cut (Some l) None = Some (true, l)
short_cut (Some l) (Some lead.On) = Some (true, l)
short_cut x (Some l) = Some (false, l)

abbrev pub if_by : Seats → ℕ → Tree → Option (Bool × Leading) → Emitted → Emitted → Emitted
if_by seats end t None a b = either_code seats t a b
if_by seats end t (Some to) a b = branch_code seats end t to.0 to.1 (cond to.0 b a)

-- by where its lists lead
abbrev pub if_leads : Seats → ℕ → Tree → Option Leading → Option Leading → Emitted → Emitted → Emitted
if_leads seats end t x y a b = if_by seats end t (short_cut x y) a b

abbrev pub if_code : Seats → ℕ → Tree → Emitted → Emitted → Emitted
if_code seats end t a b = if_leads seats end t a.alone b.alone a b

-- a loop has a label at its start, and both end where control goes behind them
abbrev pub loop_at : ℕ → Way → Enclosing
loop_at label way = record { start = label; end = way.after }

abbrev pub block_at : Way → Enclosing
block_at way = record { start = way.after; end = way.after }

-- a loop whose statements stand in order, with a jump back at their end
abbrev pub straight_loop : Emitted → Emitted
straight_loop b = record {
  labels = 1 + b.labels;
  alone = None;
  stays = None;
  lines = λ around label way. Label label ∷ b.lines (loop_at label way ∷ around) (label + 1) (jump_to label);
}

-- A loop that begins with a test which leaves it: the test stands at the end, with a label of its own, to which the loop comes first, and goes back to the
-- start where it stays. So a turn takes one branch. The labels are those of the start, of the test, and of what stands between what the test leads to and the
-- rest.
abbrev pub turned_loop : Seats → Tested → Emitted → Emitted
turned_loop seats a rest = record {
  labels = 3 + (a.labels + rest.labels);
  alone = None;
  stays = None;
  lines = λ around label way.
      let inside = loop_at (label + 1) way ∷ around in
      Jump x0 (label + 1) ∷ Label label
      ∷ (a.lines inside (label + 3) (fall_to (label + 2))
      ++ (Label (label + 2) ∷ (rest.lines inside (label + 3 + a.labels) (fall_to (label + 1))
      ++ (Label (label + 1) ∷ (branch_lines seats a.test a.sense first label ++ go_on way)))));
}

-- by what the first of its statements stays for
abbrev pub loop_by : Seats → Option Tested → Emitted → List Emitted → Emitted
loop_by seats None b rest = straight_loop (in_turn (b ∷ rest))
loop_by seats (Some a) b rest = turned_loop seats a (in_turn rest)

abbrev pub loop_code : Seats → List Emitted → Emitted
loop_code seats [] = straight_loop nothing
loop_code seats (b ∷ rest) = loop_by seats b.stays b rest

abbrev pub block_code : Emitted → Emitted
block_code b = record { labels = b.labels; alone = None; stays = None; lines = λ around label way. b.lines (block_at way ∷ around) label way }

abbrev pub break_code : ℕ → ℕ → Emitted
break_code end n = record { labels = 0; alone = Some (lead.Out n); stays = None; lines = λ around label way. go_to way (enclosing_at around n end).end }

-- going back is always a jump
abbrev pub back_code : ℕ → ℕ → Emitted
back_code end n = record { labels = 0; alone = Some (lead.Back n); stays = None; lines = λ around label way. Jump x0 (enclosing_at around n end).start ∷ [] }

abbrev pub return_code : Seats → ℕ → Tree → Emitted
return_code seats end v = record { labels = 0; alone = None; stays = None; lines = λ around label way. result_lines seats v ++ go_to way end }

-- Each word of an array of the frame becomes 0, the first one first. The test of the loop stands behind a turn, with a label of its own, and is come to
-- first.
abbrev pub zero_lines : ℕ → ℕ → ℕ → List Line
zero_lines label at n =
    bounds_lines at n ++ (Jump x0 (label + 1) ∷ Label label ∷ (clear_lines ++ (Label (label + 1) ∷ Branch 1 first second label ∷ [])))

abbrev pub zero_code : ℕ → ℕ → Emitted
zero_code at n = record { labels = 2; alone = None; stays = None; lines = λ around label way. zero_lines label at n ++ go_on way }

-- ---- statements

abbrev pub home_of : (place array_at : ℕ → ℕ) → Array → Home
home_of place array_at (array.Global g) = place_at.Data (place g)
home_of place array_at (array.Local a) = place_at.Frame (array_at a)
home_of place array_at (array.SureGlobal g n) = place_at.Data (place g)
home_of place array_at (array.SureLocal a n) = place_at.Frame (array_at a)

abbrev pub size_of : (size array_size : ℕ → ℕ) → Array → ℕ
size_of size array_size (array.Global g) = size g
size_of size array_size (array.Local a) = array_size a
size_of size array_size (array.SureGlobal g n) = size g
size_of size array_size (array.SureLocal a n) = array_size a

-- whether an index is tested: not one that is promised to be below a number up to that of the elements
abbrev pub is_tested : (size array_size : ℕ → ℕ) → Array → Bool
is_tested size array_size (array.Global g) = true
is_tested size array_size (array.Local a) = true
is_tested size array_size (array.SureGlobal g n) = not (leb n (size g))
is_tested size array_size (array.SureLocal a n) = not (leb n (array_size a))

module _ (plan : Plan) where
  abbrev pub home : Array → Home
  home = home_of plan.seats.place plan.array_at

  abbrev pub size : Array → ℕ
  size = size_of plan.size plan.array_size

  abbrev pub tests : Array → Bool
  tests = is_tested plan.size plan.array_size

  abbrev pub code_layer : Stm-F Emitted → Emitted
  code_layer (stm.Set t v) = plain (set_lines plan.seats t v)
  code_layer (stm.SetGlobal g v) = plain (set_global_lines plan.seats g v)
  code_layer (stm.Divide t o a b) = plain (divide_lines plan.seats t o a b)
  code_layer (stm.Check a i) = plain (check_lines plan.seats (size a) (tests a) i)
  code_layer (stm.Read t a i) = plain (read_lines plan.seats t (home a) (size a) (tests a) i)
  code_layer (stm.Write a i v) = plain (write_lines plan.seats (home a) (size a) (tests a) i v)
  code_layer (stm.Zero a) = zero_code (plan.array_at a) (plan.array_size a)
  code_layer (stm.If t a b) = if_code plan.seats plan.end t (in_turn a) (in_turn b)
  code_layer (stm.Loop b) = loop_code plan.seats b
  code_layer (stm.Block b) = block_code (in_turn b)
  code_layer (stm.Break n) = break_code plan.end n
  code_layer (stm.Back n) = back_code plan.end n
  code_layer (stm.Call r f args) = plain (plan.calls.call r f args)
  code_layer (stm.Known r k args) = plain (plan.calls.known r k args)
  code_layer (stm.Return v) = return_code plan.seats plan.end v

  -- the code of a statement
  unfoldable pub statement_code : Stm → Emitted
  statement_code = fold-Stm Emitted code_layer

  -- and of statements in order
  abbrev pub code_of : List Stm → Emitted
  code_of statements = in_turn (map statement_code statements)

  -- a loop over statements
  abbrev pub loop_of : List Stm → Emitted
  loop_of statements = loop_code plan.seats (map statement_code statements)

  -- statements that a test leads to
  abbrev pub tested : Tree → Bool → List Stm → Tested
  tested t sense statements = record { test = t; sense = sense; labels = (code_of statements).labels; lines = (code_of statements).lines }

-- ---- what statements name is there

-- whether a call is what is left of one whose statements stand behind it, which calls nothing
abbrev pub only_tests : Callee → List Tree → Bool
only_tests callee.Expanded [] = true
only_tests _ _ = false

-- which globals have a word, of which the elements may be read and written, and whether functions may be called
pub record Uses : Type 0 where
  pub has_word : ℕ → Bool
  pub is_read : ℕ → Bool
  pub is_written : ℕ → Bool
  pub may_call : Bool

-- Trees are fine by a test, each temporary that is written is below a number, and each array that is read or written may be; so may a global that is written
-- as a scalar, and it has a word. A pointer switch through which a call goes may be read. A call has at most eight arguments, and a known function its own
-- number; and the code may ask for it.
module _ (is_fine : Tree → Bool) (may_ask : Known → Bool) (temps : ℕ) (uses : Uses) where
  abbrev pub may_read : Array → Bool
  may_read (array.Global g) = uses.is_read g
  may_read (array.Local a) = true
  may_read (array.SureGlobal g n) = uses.is_read g
  may_read (array.SureLocal a n) = true

  abbrev pub may_write : Array → Bool
  may_write (array.Global g) = uses.is_written g
  may_write (array.Local a) = true
  may_write (array.SureGlobal g n) = uses.is_written g
  may_write (array.SureLocal a n) = true

  abbrev pub fine_target : Option ℕ → Bool
  fine_target None = true
  fine_target (Some t) = ltb t temps

  abbrev pub fine_callee : Callee → Bool
  fine_callee (callee.Direct f) = true
  fine_callee (callee.Through t) = is_fine t
  fine_callee (callee.Switched g) = uses.is_read g
  fine_callee callee.Expanded = true

  -- the code may ask for it, and an order's numbers are a byte and a word
  abbrev pub fine_known : Known → Bool
  fine_known (known.Plan code index) = may_ask (known.Plan code index) && (ltb code 256 && ltb index (2 ^ 32))
  fine_known k = may_ask k

  abbrev pub fine_layer : Stm-F Bool → Bool
  fine_layer (stm.Set t v) = ltb t temps && is_fine v
  fine_layer (stm.SetGlobal g v) = (uses.has_word g && uses.is_written g) && is_fine v
  fine_layer (stm.Divide t o a b) = ltb t temps && (is_fine a && is_fine b)
  fine_layer (stm.Check a i) = is_fine i
  fine_layer (stm.Read t a i) = ltb t temps && (may_read a && is_fine i)
  fine_layer (stm.Write a i v) = may_write a && (is_fine i && is_fine v)
  fine_layer (stm.Zero a) = true
  fine_layer (stm.If t a b) = is_fine t && (all_true a && all_true b)
  fine_layer (stm.Loop b) = all_true b
  fine_layer (stm.Block b) = all_true b
  fine_layer (stm.Break n) = true
  fine_layer (stm.Back n) = true
  fine_layer (stm.Call r f args) = (uses.may_call || only_tests f args) && (ltb (length args) 9 && (fine_target r && (fine_callee f && all_true (map is_fine args))))
  fine_layer (stm.Known r k args) = eqb (length args) (known_arguments k) && (fine_known k && (fine_target r && all_true (map is_fine args)))
  fine_layer (stm.Return v) = is_fine v

  unfoldable pub is_fine_statement : Stm → Bool
  is_fine_statement = fold-Stm Bool fine_layer

  abbrev pub are_fine : List Stm → Bool
  are_fine statements = all_true (map is_fine_statement statements)
