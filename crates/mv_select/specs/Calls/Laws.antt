-- What the code of calls promises: it does what they mean, at every bound, over any callees that keep the calling convention.
use Rattle.std.specs.Prelude.{ℕ, ◌≡◌, ◌+◌, ◌*◌, ◌%◌, ◌<◌, ◌≤◌, Bool, true, length, Some}
use Rattle.mv_ast.specs.declared.program.Known.{Known}
use Rattle.mv_bindings.specs.Traps.{depth_limit}
use Rattle.mv_isa.specs.Code.{IsPlace}
use Rattle.mv_isa.specs.Execution.{Access}
use Rattle.mv_isa.specs.Registers.{sp, s10, s11}
use Rattle.mv_ir.specs.declared.tree.Tree.{Tree}
use Rattle.mv_ir.specs.declared.stm.Array.TheVariants as array
use Rattle.mv_ir.specs.World as ir
use Rattle.mv_ir.specs.Outcome.{Bound}
use Rattle.mv_select_code.specs.Statements.StatementCode.{trap_label}
use Rattle.mv_select_code.specs.Statements.Frames.{Site, Cell, Element, IsThere, address, IsFine, IsFit}
use Rattle.mv_select_code.specs.Control.Runs.{Machine, IsRun}
use Rattle.mv_select_code.specs.Control.Laws.{CallsDo}
use Rattle.mv_select.specs.Calls.CallCode.{commit_label, calls_of}
use Rattle.mv_select_code.specs.Control.Labels.{call_label}
use Rattle.mv_select.specs.Calls.Convention.{Layout, frame_limit, IsAbove, IsSaved, Conventions}
use Rattle.mv_select.specs.Calls.Environment.{ServesKnown}

-- a cell of the frame itself, or one that it keeps
abbrev pub IsOfFrame : Cell → Type 0
IsOfFrame (Element (array.Global g) i) = ⊥
IsOfFrame _ = Unit {0}

-- A frame as its callees find it: its temporaries and numbers stand in registers that callees set back, and what it leaves alone they set back too; s10 and
-- s11, which it leaves alone, count what the frame's numbers say, there is room below sp for each call that is left, and the frame stands from sp up.
pub record IsCaller (y : Layout) (s : Site) (setting : ir.Setting) (frame : ir.Frame) : Type 0 where
  pub places : (g : ℕ) → s.seats.place g ≡ y.place g
  pub sizes : (g : ℕ) → s.size g ≡ y.size g
  pub saved : (t q : ℕ) → s.seats.register t ≡ Some q → IsSaved q
  pub pins : (n q : ℕ) → s.seats.pinned n ≡ Some q → IsSaved q
  pub left : (q : ℕ) → s.is_left q ≡ true → IsSaved q
  pub counters : (s.is_left s10 ≡ true) × (s.is_left s11 ≡ true)
  pub entries : (f : ℕ) → s.entry f ≡ y.entry f
  pub may_ask : (k : Known) → s.may_ask k ≡ true → y.may_ask k ≡ true
  pub entry_places : (f : ℕ) → f < length setting.numbers → IsPlace (s.entry f)
  pub live : s.register s10 ≡ frame.live
  pub counts : frame.live ≤ frame.depth
  pub calls_left : s.register s11 + frame.depth ≡ depth_limit
  pub even : s.register sp % 4 ≡ 0
  pub room : y.bottom + s.register s11 * frame_limit ≤ s.register sp
  pub within : s.register sp ≤ y.top
  pub above : (x : Cell) → IsThere s x → IsOfFrame x → IsAbove y (s.register sp) (address s x)

-- the labels of stubs, and of the entries of so many functions, are where these are
pub record IsLinked (y : Layout) (count : ℕ) (place : ℕ → ℕ) : Type 0 where
  pub traps : (c : ℕ) → place (trap_label c) ≡ y.trap c
  pub commit : place commit_label ≡ y.commit
  pub entries : (f : ℕ) → f < count → place (call_label f) ≡ y.entry f

-- On every machine that runs it and serves the known functions, the code of calls does what they mean, if the functions keep the calling convention at
-- each lower bound.
abbrev pub CallsAreDone : Type 0 → Type 0
CallsAreDone M =
    (access : Access M) (y : Layout) (s : Site) (setting : ir.Setting) (frame : ir.Frame) → IsFit s access setting frame → IsCaller y s setting frame →
    (machine : Machine M) → IsRun access s machine → (budget far : ℕ) → ServesKnown access y machine budget far setting →
    (top : Bound) → Conventions access y machine budget far setting top →
    (is_fine : Tree → Bool) → ((t : Tree) → is_fine t ≡ true → IsFine s setting frame t) →
    (place : ℕ → ℕ) (end : ℕ) → IsLinked y (length setting.numbers) place → (is_attributed : ℕ → Bool) →
    CallsDo access s setting frame machine place end budget far is_fine top (calls_of s.seats is_attributed)
