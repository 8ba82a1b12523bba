-- Before a call that failed: what the meaning does there.
use Rattle.std.proofs.Common.{◌≡◌, ℕ, ◌+◌, ◌^◌, ◌<◌, List, [], ◌∷◌, ◌++◌, length, map, slice_index, Option, Some, refl, sym, ap, ◌∙◌, subst, arith}
use Rattle.std.specs.Prelude.{All, IsTrue}
use Rattle.std.proofs.lemmas.List.{length-append, map-append}
use Rattle.std.proofs.lemmas.List.Elements.{All-append, All-cons, All-nil, All-take}
use Rattle.std.proofs.Math.Seq.{take-append_seam}
use Rattle.mv_ast.specs.Actions.{act_fits}
use Rattle.mv_bindings.specs.Acts.{IsActOfWord, act_of}
use Rattle.mv_bindings.specs.declared.action.Action.{Action}
use Rattle.mv_ast.specs.declared.program.Program.{Program}
use Rattle.mv_refine.specs.CutRuns.{with_input}
use Rattle.mv_refine.proofs.Follows.{read_takes_more, write_writes_more}
use Rattle.mv_image.specs.Spelling.{Fields}
use Rattle.mv_refine_machine.proofs.Inputs.{first_input}
use Rattle.mv_refine_machine.specs.Runs.Behaves.{BehavesAlways}
use Rattle.mv_machine.specs.Acts.{PollActs, polls_of}
use Rattle.mv_machine.specs.Runs.{State, Going, Reads, Writes, bytes_to_come, first, runs_from, runs}
use Rattle.mv_machine.specs.Snapshots.{CallsFor}
use Rattle.mv_meaning.specs.Meaning.{mean}
use Rattle.mv_meaning.proofs.Bounds.{bound_extends}
use Rattle.mv_meaning.proofs.Growing.{Begins-trans}
use Rattle.mv_meaning.specs.Growth.{Begins}
use Rattle.mv_refine.specs.Meant.{TakesMore, WritesMore}

-- the first state of an image with another input
first_with : (image : Fields) (input other : List (Option ℕ)) (polls : PollActs) → with_input (first image input polls) other ≡ first image other polls
unfolding first
first_with image input other polls = refl

longer : (s t m : List ℕ) (byte : ℕ) → t ≡ s ++ byte ∷ [] → Begins t m → length s < length m
longer s t m byte e (rest, whole) =
    let all : length m ≡ length (t ++ rest) = ap length whole in
    let parts = length-append t rest in
    let one : length t ≡ length (s ++ byte ∷ []) = ap length e in
    let more = length-append s (byte ∷ []) in
    omega (arith, all, parts, one, more)

module _ (p : Program) (image : Fields) (behaves : BehavesAlways p image) (actions : List Action) (words : All IsActOfWord (map act_of actions)) (fit : All (λ a. IsTrue (act_fits p 0 a)) (map act_of actions))
    (taken later : List ℕ) (are : All (λ b. b < 2 ^ 8) (taken ++ later)) (picks : List ℕ) (count steps : ℕ) (fewer : count < steps) where
  abbrev bytes : List ℕ
  bytes = taken ++ later

  abbrev before : State
  before = runs image (bytes_to_come bytes) (polls_of actions) picks count

  -- the run on what was taken and one more byte
  abbrev on : (byte : ℕ) → State
  on byte = runs image (bytes_to_come (taken ++ byte ∷ [])) (polls_of actions) picks (count + 1)

  module _ (left : before.input ≡ bytes_to_come later) (going : before.stop ≡ Going) (asks : CallsFor before (slice_index picks count) Reads) where
    empty : (byte : ℕ) → (on byte).input ≡ []
    empty byte =
        let whole : (first image (bytes_to_come bytes) (polls_of actions)).input ≡ bytes_to_come taken ++ bytes_to_come later =
        first_input image (bytes_to_come bytes) (polls_of actions) ∙ map-append Some taken later in
        let all : bytes_to_come taken ++ Some byte ∷ [] ≡ bytes_to_come (taken ++ byte ∷ []) = sym (map-append Some taken (byte ∷ [])) in
        let start : with_input (first image (bytes_to_come bytes) (polls_of actions)) (bytes_to_come taken ++ Some byte ∷ []) ≡ first image (bytes_to_come (taken ++ byte ∷ [])) (polls_of actions) =
        first_with image (bytes_to_come bytes) (bytes_to_come taken ++ Some byte ∷ []) (polls_of actions) ∙ ap (λ (i : List (Option ℕ)). first image i (polls_of actions)) all in
        subst (λ (s : State). (runs_from s picks (count + 1)).input ≡ []) start
        (read_takes_more (first image (bytes_to_come bytes) (polls_of actions)) picks count (bytes_to_come taken) (bytes_to_come later) (Some byte) whole left going asks)

    pub takes_more : TakesMore p actions steps taken
    takes_more byte lt =
        let front : All (λ b. b < 2 ^ 8) taken =
        subst (All (λ b. b < 2 ^ 8)) (take-append_seam taken later) (All-take (λ b. b < 2 ^ 8) (length taken) bytes are) in
        let good : All (λ b. b < 2 ^ 8) (taken ++ byte ∷ []) =
        All-append (λ b. b < 2 ^ 8) taken (byte ∷ []) front (All-cons (λ b. b < 2 ^ 8) byte [] lt (All-nil (λ b. b < 2 ^ 8))) in
        let few = ((behaves (taken ++ byte ∷ []) (polls_of actions) picks good words fit).within (count + 1)).taken in
        let more = (bound_extends p 0 (taken ++ byte ∷ []) (map act_of actions) (count + 1) steps (omega (arith, fewer))).taken in
        let none : length (on byte).input ≡ 0 = ap length (empty byte) in
        let all = length-append taken (byte ∷ []) in
        omega (arith, few, more, none, all)

  module _ (going : before.stop ≡ Going) (asks : CallsFor before (slice_index picks count) Writes) where
    pub outputs_more : WritesMore p actions bytes steps before.output
    outputs_more =
        let next = runs image (bytes_to_come bytes) (polls_of actions) picks (count + 1) in
        let more = write_writes_more (first image (bytes_to_come bytes) (polls_of actions)) picks count going asks in
        let within = ((behaves bytes (polls_of actions) picks are words fit).within (count + 1)).output in
        let extends = (bound_extends p 0 bytes (map act_of actions) (count + 1) steps (omega (arith, fewer))).output in
        longer before.output next.output (mean p bytes actions steps).output more.0 more.1
        (Begins-trans next.output (mean p bytes actions (count + 1)).output (mean p bytes actions steps).output within extends)
