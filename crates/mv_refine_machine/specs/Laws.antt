-- The machine is one on which code of frames runs, its memory is fit for frames that are laid out, and assembled code stands in its text.
use Rattle.std.specs.Prelude.{ℕ, ◌≡◌, ◌↔◌, ◌+◌, ◌*◌, ◌%◌, ◌^◌, ◌<◌, ◌≤◌, Bool, true, false, List, [], length, slice_get, Option, Some, None}
use Rattle.std.specs.List.{All}
use Rattle.mv_num.specs.Regions.{text_start, data_start}
use Rattle.mv_machine.specs.Acts.{PollActs}
use Rattle.mv_ast.specs.declared.program.Program.{Program}
use Rattle.mv_bindings.specs.declared.binding.Binding.{Binding}
use Rattle.mv_isa.specs.declared.labelled.Line.{Line}
use Rattle.mv_isa.specs.declared.instr.Instr.{Instr}
use Rattle.mv_isa.specs.declared.instr.Instr.TheVariants.{Jal}
use Rattle.mv_isa.specs.Encoding.{encode, Fits}
use Rattle.mv_isa.specs.Code.{CodeFits, IsPlace, distance, nop, line_at, address, label_address}
use Rattle.mv_isa.specs.Standing.{LineStands}
use Rattle.mv_asm.specs.Outcome.{AreWordsUnder}
use Rattle.mv_image.specs.Jumps as image
use Rattle.mv_image.specs.Spelling.{Fields}
use Rattle.mv_ir.specs.World.{World}
use Rattle.mv_ir.specs.Programs.{setting_of}
use Rattle.mv_patch.specs.Orders.{first_bindings}
use Rattle.mv_machine.specs.Runs.{bytes_to_come}
use Rattle.mv_select_code.specs.Statements.Frames.{Site}
use Rattle.mv_select_code.specs.Control.Placed.{Placed}
use Rattle.mv_select_code.specs.Control.Runs.{IsRun, Calm}
use Rattle.mv_select.specs.Calls.Convention.{Layout}
use Rattle.mv_select.specs.Calls.Environment.{ServesCalls}
use Rattle.mv_select.specs.Functions.Functions.{IsOpen, alone}
use Rattle.mv_select.specs.Slots.Narrowed.{under}
use Rattle.mv_refine_machine.specs.Under.{words_under}
use Rattle.mv_refine_machine.specs.Calm.{Rest, IsCalm, is_calm}
use Rattle.mv_refine_machine.specs.Calls.{CallsAreAnswered}
use Rattle.mv_refine_machine.specs.Steps.{StepsAreTaken}
use Rattle.mv_refine_machine.specs.MachineRuns.{access, machine_of, machine_text, may_be_patched, image_word, unpatched_word, bound_word}
use Rattle.mv_refine_machine.specs.Assembled.{HasWords, IsFreeAt, IsPart}
use Rattle.mv_refine_machine.specs.Bound.{BindingsShow}
use Rattle.mv_refine_machine.specs.Layout.{OwnOutsideText, IsLaidOut, IsPacked}

-- the test of calm tells what it stands for
abbrev pub CalmIsTested : Type 0
CalmIsTested = (image : Fields) (w : World) (m : Rest) → (is_calm image w m ≡ true) ↔ IsCalm image w m

-- For every image, input, polls and picks, the machine's run is one of a machine on which code runs, at each site whose own cells lie outside text, and that
-- loads from no address that is closed anywhere.
abbrev pub RunsAreRuns : Type 0
RunsAreRuns =
    (attributed : List ℕ) (closed : (pc address : ℕ) → Bool) (image : Fields) (input : List (Option ℕ)) (polls : PollActs) (picks : List ℕ) (s : Site) → OwnOutsideText s →
    ((pc a : ℕ) → s.reach.may_load a ≡ true → closed pc a ≡ false) → IsRun access s (machine_of attributed closed image input polls picks)

-- And so it is where only a part of text stands, at each that loads from no address that is closed there.
abbrev pub RunsAreRunsAlone : Type 0
RunsAreRunsAlone =
    (attributed : List ℕ) (closed : (pc address : ℕ) → Bool) (image : Fields) (input : List (Option ℕ)) (polls : PollActs) (picks : List ℕ) (from to : ℕ) (s : Site) → OwnOutsideText s →
    IsOpen closed from to s.reach → IsRun access s (alone (machine_of attributed closed image input polls picks) from to)

-- and it takes the steps of the words that stand under the bindings
abbrev pub BoundStepsAreTaken : Type 0
BoundStepsAreTaken = (image : Fields) (input : List (Option ℕ)) (polls : PollActs) (picks : List ℕ) (s : Site) → OwnOutsideText s → StepsAreTaken image input polls picks s

-- So the machine under some bindings, over a part of the words that stand under these, is one on which code runs.
abbrev pub RunsAreRunsUnder : Type 0
RunsAreRunsUnder =
    (attributed : List ℕ) (closed : (pc address : ℕ) → Bool) (image : Fields) (input : List (Option ℕ)) (polls : PollActs) (picks : List ℕ) (bs : List Binding) (from to : ℕ) (s : Site) → OwnOutsideText s →
    IsOpen closed from to s.reach → IsRun access s (alone (under (machine_of attributed closed image input polls picks) (words_under image) bs) from to)

-- The words of an image's text are found at their addresses. Where bindings don't show, they stand there under all bindings; and bindings show
-- nowhere in an image without functions, sites and pointer sites.
pub record TextIsFound (image : Fields) : Type 0 where
  pub found : (k word : ℕ) → slice_get image.text k ≡ Some word → text_start + 4 * k < data_start → image_word image (text_start + 4 * k) ≡ Some word
  pub kept : (a word : ℕ) → image_word image a ≡ Some word → may_be_patched image a ≡ false → unpatched_word image a ≡ Some word
  pub stands : (w : World) (a word : ℕ) → unpatched_word image a ≡ Some word → bound_word image w a ≡ Some word
  pub unpatched : image.functions ≡ [] → image.sites ≡ [] → image.points ≡ [] → (a : ℕ) → may_be_patched image a ≡ false

abbrev pub TextsAreFound : Type 0
TextsAreFound = (image : Fields) → TextIsFound image

-- Part of assembled code that an image's text has is placed there, if the image keeps its lines.
abbrev pub CodeIsPlaced : Type 0
CodeIsPlaced =
    (attributed : List ℕ) (image : Fields) (base : ℕ) (lines : List Line) (sizing words : List ℕ) →
    CodeFits lines → AreWordsUnder base lines sizing words → HasWords image base words →
    (k : ℕ) (part : List Line) → IsPart attributed image (address base sizing) lines k part →
    let place = label_address base lines sizing in
    Placed (machine_text attributed image) place place part (address base sizing k) (address base sizing (k + length part))

-- Each line of the code stands under the bindings of a world, also where words may be patched, if none of the functions whose bindings show there is
-- bound.
abbrev pub FreeLinesStand : Type 0
FreeLinesStand =
    (image : Fields) (base : ℕ) (lines : List Line) (sizing words : List ℕ) → AreWordsUnder base lines sizing words → HasWords image base words →
    (w : World) (k : ℕ) → k < length lines →
    ((a : ℕ) → address base sizing k ≤ a → a < address base sizing (k + 1) → a % 4 ≡ 0 → IsFreeAt image w a) →
    let place = label_address base lines sizing in
    LineStands (bound_word image w) place place (address base sizing k) (address base sizing (k + 1)) (line_at lines k)

-- the word is that of an instruction whose fields fit
abbrev pub IsWordOf : ℕ → Instr → Type 0
IsWordOf word instr = Fits instr × (word ≡ encode instr)

-- The words that bindings put into text are instructions: a jump is a JAL over the distance of its two places of text, and the word that fills a
-- site is NOP.
pub record BoundWordsAreInstructions : Type 0 where
  pub jumps : (rd from to : ℕ) → rd < 32 → IsPlace from → IsPlace to → IsWordOf (image.jump rd from to) (Jal rd (distance from to))
  pub fills : IsWordOf image.nop nop

-- Where the binding of a function shows, its variant stands.
abbrev pub BindingsAreShown : Type 0
BindingsAreShown = (image : Fields) (w : World) → BindingsShow image w

-- a world before the first instruction: nothing is written or bound
pub record IsFirst (image : Fields) (bytes : List ℕ) (w : World) : Type 0 where
  pub input : w.input ≡ bytes
  pub output : w.output ≡ []
  pub bindings : w.bindings ≡ first_bindings image
  pub log : w.log ≡ []

-- a run begins in calm
abbrev pub RunsBeginInCalm : Type 0
RunsBeginInCalm =
    (attributed : List ℕ) (closed : (pc address : ℕ) → Bool) (image : Fields) (bytes : List ℕ) (polls : PollActs) (picks : List ℕ) (s : Site) (w : World) → IsFirst image bytes w →
    let machine = machine_of attributed closed image (bytes_to_come bytes) polls picks in Calm access s machine w (machine.run 0).memory

-- environment calls are answered, for every image, input, polls and picks
abbrev pub EnvironmentCalls : Type 0
EnvironmentCalls = (closed : (pc address : ℕ) → Bool) (image : Fields) (input : List (Option ℕ)) (polls : PollActs) (picks : List ℕ) → CallsAreAnswered image input polls picks closed

-- an answer to a read is a byte, or the end of the input
abbrev pub IsByteOrEnd : Option ℕ → Type 0
IsByteOrEnd None = Unit {0}
IsByteOrEnd (Some byte) = byte < 2 ^ 8

-- So where its input is bytes, the machine serves those known functions that are environment calls, for every program and layout.
abbrev pub KnownCallsAreServed : Type 0
KnownCallsAreServed =
    (attributed : List ℕ) (closed : (pc address : ℕ) → Bool) (image : Fields) (input : List (Option ℕ)) (polls : PollActs) (picks : List ℕ) → All IsByteOrEnd input →
    (y : Layout) (budget far : ℕ) (numbers : List ℕ) (p : Program) →
    ServesCalls access y (machine_of attributed closed image input polls picks) budget far (setting_of numbers p)

-- globals and arrays that stand one behind the other are laid out
abbrev pub PackedIsLaidOut : Type 0
PackedIsLaidOut = (globals arrays : List ℕ) (bytes : ℕ) (s : Site) → IsPacked globals arrays bytes s → IsLaidOut bytes s
