-- What is known of the code of a body.
use Rattle.std.specs.Prelude.{ℕ, ◌≡◌, ◌+◌, ◌<◌, ◌≤◌, Bool, true, List, ◌∷◌, All, pos, ◌-ℤ◌}
use Rattle.mv_isa.specs.declared.instr.Instr.TheVariants.{Addi}
use Rattle.mv_isa.specs.declared.labelled.Line.{Line}
use Rattle.mv_isa.specs.declared.labelled.Line.TheVariants.{Word, Label, Slot, Point}
use Rattle.mv_isa.specs.Code.{StandsOnce, TargetStands}
use Rattle.mv_isa.specs.Labels.{check_label}
use Rattle.mv_isa.specs.Registers.{sp}
use Rattle.mv_ir.specs.declared.body.Body.{Body}
use Rattle.mv_select_code.specs.Statements.StatementCode.{trap_label}
use Rattle.mv_select_code.specs.Statements.Encoded.{IsCode}
use Rattle.mv_select_code.specs.Control.Encoded.{most_words}
use Rattle.mv_select_code.specs.Control.Labels.{OwnLabels, call_label, functions, pointers}
use Rattle.mv_select.specs.Calls.CallCode.{commit_label}
use Rattle.mv_select.specs.Functions.FunctionCode.{frame_bytes}
use Rattle.mv_select.specs.Selected.{selected_lines, selected_labels, IsSuitable, FitsFrame}

-- how many words the code of a body has at most: those of its statements, and 33 for entry and return
abbrev pub greatest_length : Body → ℕ
greatest_length body = 33 + most_words body.code

-- the code of a body has encodings, and few words
abbrev pub SelectedIsEncoded : Type 0
SelectedIsEncoded = (attributed : Bool) (body : Body) → IsSuitable body → FitsFrame body → IsCode (greatest_length body) (selected_lines attributed body)

-- the labels that it takes are those that stand in it
abbrev pub SelectedLabelsAreOwn : Type 0
SelectedLabelsAreOwn = (attributed : Bool) (body : Body) → OwnLabels 0 (selected_labels attributed body) (selected_lines attributed body)

-- Each label that it may name stands once in all lines: its own, the stubs of the traps, that of orders and polls, the functions that it names and their
-- entries, and the stub of calls through pointer switches where it makes one.
pub record NamesStand (whole : List Line) (attributed : Bool) (body : Body) : Type 0 where
  pub own : (l : ℕ) → l < selected_labels attributed body → StandsOnce whole l
  pub traps : (c : ℕ) → 1 ≤ c → c ≤ 4 → StandsOnce whole (trap_label c)
  pub commit : StandsOnce whole commit_label
  pub named : All (StandsOnce whole) (functions body.code)
  pub entries : All (λ f. StandsOnce whole (call_label f)) (functions body.code)
  pub check : All (λ g. StandsOnce whole check_label) (pointers body.code)

-- then so does each that it names
abbrev pub SelectedTargetsStand : Type 0
SelectedTargetsStand =
    (whole : List Line) (attributed : Bool) (body : Body) → NamesStand whole attributed body → All (TargetStands whole) (selected_lines attributed body)

-- a line that has words and is no slot
abbrev pub IsPlain : Line → Type 0
IsPlain (Label l) = ⊥
IsPlain (Slot f) = ⊥
IsPlain (Point a) = ⊥
IsPlain line = Unit {0}

-- the code of a body begins with such a line
abbrev pub SelectedOpens : Type 0
SelectedOpens = (attributed : Bool) (body : Body) → (line : Line) × (rest : List Line) × (selected_lines attributed body ≡ line ∷ rest) × IsPlain line

-- that of an attributed body begins with the instruction that moves sp, and so with no slot and no jump
abbrev pub SelectedBegins : Type 0
SelectedBegins = (body : Body) → (rest : List Line) × (selected_lines true body ≡ Word (Addi sp sp (pos 0 -ℤ pos (frame_bytes body.temps body.arrays))) ∷ rest)
