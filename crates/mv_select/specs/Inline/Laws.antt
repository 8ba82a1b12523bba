-- What the two instructions of an inline body do where they stand at a call.
use Rattle.std.specs.Prelude.{ℕ, ◌≡◌, ◌≢◌, ◌+◌, ◌≤◌, Bool, List, [], ◌∷◌, length, Some, None, Contains}
use Rattle.mv_isa.specs.declared.instr.Instr.{Instr}
use Rattle.mv_isa.specs.Encoding.{Fits}
use Rattle.mv_isa.specs.Code.{IsPlace}
use Rattle.mv_isa.specs.Execution.{Access, reg}
use Rattle.mv_isa.specs.Standing.{InstrStands}
use Rattle.mv_isa.specs.Registers.{t0, a0}
use Rattle.mv_ir.specs.declared.tree.Tree.{Tree}
use Rattle.mv_ir.specs.declared.body.Body.{Body}
use Rattle.mv_ir.specs.Trees.{found}
use Rattle.mv_ir.specs.World as ir
use Rattle.mv_ir.specs.World.{World}
use Rattle.mv_ir.specs.Outcome.{End, Returned, Bound}
use Rattle.mv_ir.specs.Meaning.{Contents, body_from}
use Rattle.mv_ir.specs.Measures.{scalars_read}
use Rattle.mv_ir.specs.WellFormed.{IsWellFormed}
use Rattle.mv_select_code.specs.Trees.Rooms.{place_in}
use Rattle.mv_select_code.specs.Statements.Frames.{Reach}
use Rattle.mv_select_code.specs.Control.Runs.{Machine}
use Rattle.mv_select.specs.Calls.Convention.{Layout, Stands, Enters, Returns, Answers, slot_cost}
use Rattle.mv_select.specs.Functions.Loads.{loads_from}
use Rattle.mv_select.specs.Functions.Functions.{IsLaid, IsMemory, IsAmple, RunsWithin, IsFunction, frame_in}
use Rattle.mv_select.specs.Bodies.SelectedBodies.{AreRooms}
use Rattle.mv_select.specs.Inline.InlineOf.{inline_of, inline_words}

-- an instruction loads no word but that of a global that a body reads, and that isn't read as a bound value
abbrev pub LoadsRead : Layout → List (ℕ × ℕ) → Body → Instr → List ℕ → Type 0
LoadsRead y bound body i regs =
    (a : ℕ) → loads_from i regs ≡ Some a → (g : ℕ) × Contains (scalars_read body.code) g × (found bound g ≡ None) × (a ≡ y.place g)

module _ {M : Type 0} (access : Access M) (y : Layout) (machine : Machine M) (budget far : ℕ) where
  -- time i + 2 stands where a call that was made at time i returns to; and the call does return
  abbrev pub ComesBack : (spare k i back : ℕ) → End → Type 0
  ComesBack spare k i back (Returned None w) = Returns access y machine budget far spare k i back w (i + 2)
  ComesBack spare k i back (Returned (Some v) w) = Returns access y machine budget far spare k i back w (i + 2) × (reg (machine.run (i + 2)).regs a0 ≡ v)
  ComesBack spare k i back _ = ⊥

  -- Two instructions from time i on do what a body means, change no register but a0 and t0, and load no word but that of a global that the body
  -- reads and that isn't read as a bound value.
  pub record IsDone (bound : List (ℕ × ℕ)) (body : Body) (one two : Instr) (spare k i back : ℕ) (e : End) : Type 0 where
    pub comes : ComesBack spare k i back e
    pub others : (q : ℕ) → q ≢ a0 → q ≢ t0 → reg (machine.run (i + 2)).regs q ≡ reg (machine.run i).regs q
    pub first_loads : LoadsRead y bound body one (machine.run i).regs
    pub second_loads : LoadsRead y bound body two (machine.run (i + 1)).regs

-- Where the two instructions of a body stand in text, a time at the first of them that has what a callee finds comes to the address behind them in two
-- steps, with what the body means, whatever its frame would hold at first.
abbrev pub InlineIsDone : Type 0 → Type 0
InlineIsDone M =
    (access : Access M) (y : Layout) → IsLaid y → (machine : Machine M) → IsMemory access y machine →
    (reach : Reach) → IsAmple y reach → RunsWithin access y machine reach → (setting : ir.Setting) → (budget far : ℕ) → (levels : Bound) →
    (attributed : Bool) (bound : List (ℕ × ℕ)) (is_fine : Tree → Bool) (body : Body) → IsFunction y setting attributed bound reach is_fine body →
    (one two : Instr) → inline_of y.place body ≡ Some (one, two) →
    (at : ℕ) → IsPlace at → InstrStands machine.text.word at one → InstrStands machine.text.word (at + 4) two →
    (depth live : ℕ) (args : List ℕ) → length args ≡ body.params → (contents : Contents) →
    (k i spare : ℕ) (w : World) → Stands access y machine budget far at w i → Enters access y machine budget far depth live args i →
    i + (spare + 2) ≤ budget → far ≤ i + k →
    IsDone access y machine budget far bound body one two spare k i (at + 8) (body_from setting (frame_in attributed bound depth live) contents body args levels w).end

-- So they answer as a slot does whose function has this body.
abbrev pub InlineAnswers : Type 0 → Type 0
InlineAnswers M =
    (access : Access M) (y : Layout) → IsLaid y → (machine : Machine M) → IsMemory access y machine →
    (reach : Reach) → IsAmple y reach → RunsWithin access y machine reach → (setting : ir.Setting) → (budget far : ℕ) → (levels : Bound) →
    (attributed : Bool) (bound : List (ℕ × ℕ)) (is_fine : Tree → Bool) (body : Body) → IsFunction y setting attributed bound reach is_fine body →
    (one two : Instr) → inline_of y.place body ≡ Some (one, two) →
    (at : ℕ) → IsPlace at → InstrStands machine.text.word at one → InstrStands machine.text.word (at + 4) two →
    (depth live : ℕ) (args : List ℕ) → length args ≡ body.params → (contents : Contents) →
    (k i : ℕ) →
    Answers access y machine budget far slot_cost k at (at + 8) depth live args (body_from setting (frame_in attributed bound depth live) contents body args levels) i

-- The instructions have encodings where the body has at most eight parameters.
abbrev pub InlineFits : Type 0
InlineFits = (place : ℕ → ℕ) (body : Body) → body.params ≤ 8 → (one two : Instr) → inline_of place body ≡ Some (one, two) → Fits one × Fits two

-- The same of two words that stand in text, as `inline_words` gives them.
abbrev pub InlineWordsAnswer : Type 0 → Type 0
InlineWordsAnswer M =
    (access : Access M) (y : Layout) → IsLaid y → (machine : Machine M) → IsMemory access y machine →
    (reach : Reach) → IsAmple y reach → RunsWithin access y machine reach → (setting : ir.Setting) → (budget far : ℕ) → (levels : Bound) →
    (attributed : Bool) (bound : List (ℕ × ℕ)) (is_fine : Tree → Bool) (body : Body) → IsFunction y setting attributed bound reach is_fine body →
    (a b : ℕ) → inline_words y.place body ≡ Some (a ∷ b ∷ []) → (at : ℕ) → IsPlace at → machine.text.word at ≡ Some a → machine.text.word (at + 4) ≡ Some b →
    (depth live : ℕ) (args : List ℕ) → length args ≡ body.params → (contents : Contents) → (k i : ℕ) →
    Answers access y machine budget far slot_cost k at (at + 8) depth live args (body_from setting (frame_in attributed bound depth live) contents body args levels) i

-- A well-formed body names no global without a room. So where its rooms are the layout's, its instructions are those that the layout gives.
abbrev pub InlineIsTheSame : Type 0
InlineIsTheSame = (y : Layout) (body : Body) → IsWellFormed body → AreRooms y body.rooms → inline_of (place_in body.rooms) body ≡ inline_of y.place body
