-- What the code of statements promises: it does what they mean, at every bound.
use Rattle.std.specs.Prelude.{ℕ, ◌≡◌, Bool, true, cond, ltb, List, length, Option}
use Rattle.mv_ast.specs.declared.program.Known.{Known}
use Rattle.mv_isa.specs.declared.labelled.Line.{Line}
use Rattle.mv_isa.specs.Execution.{Access}
use Rattle.mv_ir.specs.declared.tree.Tree.{Tree}
use Rattle.mv_ir.specs.declared.stm.Callee.{Callee}
use Rattle.mv_ir.specs.declared.stm.Stm.{Stm}
use Rattle.mv_ir.specs.declared.stm.Stm.TheOpen.{Stm-F}
use Rattle.mv_ir.specs.declared.stm.Stm.TheOpen as stm
use Rattle.mv_ir.specs.World as ir
use Rattle.mv_ir.specs.Outcome.{Run, Bound, Meaning, spend}
use Rattle.mv_ir.specs.Meaning.{statement, code_meaning}
use Rattle.mv_select_code.specs.Statements.Frames.{Reach, Site, IsFine, IsFit}
use Rattle.mv_select_code.specs.declared.control.enclosing.Enclosing.{Enclosing}
use Rattle.mv_select_code.specs.declared.control.enclosing.Way.{Way}
use Rattle.mv_select_code.specs.Control.FlowCode.{Uses, CallLines, Plan, code_of, fine_layer, are_fine}
use Rattle.mv_select_code.specs.Control.Placed.{Placed}
use Rattle.mv_select_code.specs.Control.Runs.{Machine, IsRun}
use Rattle.mv_select_code.specs.Control.Flow.{IsWithin, Does}

-- what code in a frame knows
abbrev pub plan_of : Site → ℕ → CallLines → Plan
plan_of s end calls = record { seats = s.seats; size = s.size; array_at = s.array_at; array_size = s.array_size; end = end; calls = calls }

-- what code may use, where globals have so many words
abbrev pub uses_in : (size : ℕ → ℕ) → Reach → (may_call : Bool) → Uses
uses_in size reach may_call = record { has_word = λ g. ltb 0 (size g); is_read = reach.is_read; is_written = reach.is_written; may_call = may_call }

abbrev pub uses_of : Site → Uses
uses_of s = uses_in s.size s.reach s.may_call

-- what code costs that goes on to a label: one instruction more where the label doesn't stand right behind it
abbrev pub with_jump : Way → Run → Run
with_jump way r = cond way.falls r (spend 1 r)

module _ {M : Type 0} (access : Access M) (s : Site) (setting : ir.Setting) (frame : ir.Frame) (machine : Machine M) (place : ℕ → ℕ)
    (end budget far : ℕ) (is_fine : Tree → Bool) (top : Bound) where
  -- wherever lines stand, they do what a statement means, at each bound from the highest down
  abbrev pub LinesDo : List Line → Stm-F Meaning → Type 0
  LinesDo lines x =
      (spare : ℕ) (around : List Enclosing) (pc next : ℕ) (bound : Bound) → IsWithin bound top → Placed machine.text place s.entry lines pc next →
      Does access s machine place end budget far spare (length bound) around pc next (statement setting frame x bound)

  -- the code of calls does what they mean
  pub record CallsDo (calls : CallLines) : Type 0 where
    pub call : (r : Option ℕ) (f : Callee) (args : List Tree) → fine_layer is_fine s.may_ask s.temps (uses_of s) (stm.Call r f args) ≡ true →
        LinesDo (calls.call r f args) (stm.Call r f args)
    pub known : (r : Option ℕ) (k : Known) (args : List Tree) → fine_layer is_fine s.may_ask s.temps (uses_of s) (stm.Known r k args) ≡ true →
        LinesDo (calls.known r k args) (stm.Known r k args)

  -- the code of statements does what they mean, wherever it stands, and goes on where control goes behind it
  abbrev pub CodeDoes : CallLines → List Stm → Type 0
  CodeDoes calls code =
      (spare label : ℕ) (around : List Enclosing) (way : Way) (pc stop : ℕ) (bound : Bound) → IsWithin bound top →
      Placed machine.text place s.entry ((code_of (plan_of s end calls) code).lines around label way) pc stop → (way.falls ≡ true → place way.after ≡ stop) →
      Does access s machine place end budget far spare (length bound) around pc (place way.after) (λ l. with_jump way (code_meaning setting frame code bound l))

-- On every machine that runs it, over every memory that is fit for the frame, the code of fine statements does what they mean, if that of calls does.
abbrev pub FlowIsDone : Type 0 → Type 0
FlowIsDone M =
    (access : Access M) (s : Site) (setting : ir.Setting) (frame : ir.Frame) → IsFit s access setting frame →
    (machine : Machine M) → IsRun access s machine →
    (is_fine : Tree → Bool) → ((t : Tree) → is_fine t ≡ true → IsFine s setting frame t) →
    (place : ℕ → ℕ) (end budget far : ℕ) (top : Bound) (calls : CallLines) →
    CallsDo access s setting frame machine place end budget far is_fine top calls →
    (code : List Stm) → are_fine is_fine s.may_ask s.temps (uses_of s) code ≡ true →
    CodeDoes access s setting frame machine place end budget far is_fine top calls code
