-- A run keeps its image, and takes from its acts.
use Rattle.std.proofs.Common.{◌≡◌, ℕ, ◌-◌, ◌^◌, if◌then◌else◌, ◌&&◌, nat_eq, List, [], ◌∷◌, Option, refl, sym, subst}
use Rattle.std.specs.List.{All}
use Rattle.std.proofs.lemmas.List.Elements.{All-tail}
use Rattle.mv_bindings.specs.Acts.{Act, Skip, Flip, Adopt, IsActOfWord}
use Rattle.mv_isa.specs.declared.instr.Cause.TheVariants as cause
use Rattle.mv_image.specs.Spelling.{Fields}
use Rattle.mv_patch.specs.Orders.{is_known_order}
use Rattle.mv_machine.specs.Acts.{PollActs}
use Rattle.mv_machine.specs.Runs.{State, Fault, answered, stopped, live_frames, refused, ordered, planned, act, acted, polled, runs_from, first}
use Rattle.mv_machine.proofs.Leaving.{Leaves, planned_leaves, polled_leaves, either}
use Rattle.mv_refine_machine.proofs.Keeping.{runs_keep, plans_keep}

module _ (image : Fields) where
  abbrev Has : State → Type 0
  Has s = s.image ≡ image

  plan_keeps : (s : State) → Has s → Leaves Has s
  unfolding answered
  plan_keeps s h = record { refuses = λ actions answer. h; carries = λ room actions plan answer. h; adopts = λ actions bs. h; faults = h }

  pub run_image : (input : List (Option ℕ)) (polls : PollActs) (picks : List ℕ) (n : ℕ) → (runs_from (first image input polls) picks n).image ≡ image
  unfolding first
  run_image input polls picks n =
      runs_keep Has
      (plans_keep Has (record {
        others = λ regs pc room input output stop s h. h;
        plans = λ s code index h. planned_leaves Has s code index (plan_keeps s h);
        polls = λ s h. polled_leaves Has s (plan_keeps s h);
      }))
      (first image input polls) picks n refl

-- ---- each act that is left has a word

abbrev AreOfWords : State → Type 0
AreOfWords s = All IsActOfWord s.actions

act_words : (next : Act) (s : State) → AreOfWords s → AreOfWords (act next s)
unfolding answered
act_words Skip s h = h
act_words (Flip switch value) s h = h
act_words (Adopt bs) s h = h

acted_words : (s : State) (left : List Act) → All IsActOfWord left → AreOfWords s → AreOfWords (acted s left)
unfolding answered
acted_words s [] l h = h
acted_words s (next ∷ later) l h = act_words next (record s { actions = later }) (All-tail IsActOfWord next later l)

planned_words : (s : State) (code index : ℕ) → AreOfWords s → AreOfWords (planned s code index)
unfolding planned answered
planned_words s code index h =
    either AreOfWords (is_known_order s.image code index) (if nat_eq s.hart 0 && nat_eq (live_frames s) 0 then ordered s code index else refused s (2 ^ 32 - 1)) (stopped s (Fault cause.Call))
    (either AreOfWords (nat_eq s.hart 0 && nat_eq (live_frames s) 0) (ordered s code index) (refused s (2 ^ 32 - 1)) h h) h

polled_words : (s : State) → AreOfWords s → AreOfWords (polled s)
unfolding polled answered
polled_words s h = either AreOfWords (nat_eq (live_frames s) 0) (acted s s.actions) (refused s 0) (acted_words s s.actions h h) h

runs_words : (s : State) (picks : List ℕ) (n : ℕ) → AreOfWords s → AreOfWords (runs_from s picks n)
runs_words = runs_keep AreOfWords (plans_keep AreOfWords (record { others = λ regs pc room input output stop s h. h; plans = planned_words; polls = polled_words }))

pub first_hart : (image : Fields) (input : List (Option ℕ)) (polls : PollActs) → (first image input polls).hart ≡ polls.hart
unfolding first
first_hart image input polls = refl

pub first_actions : (image : Fields) (input : List (Option ℕ)) (polls : PollActs) → (first image input polls).actions ≡ polls.acts
unfolding first
first_actions image input polls = refl

pub run_actions : (image : Fields) (input : List (Option ℕ)) (polls : PollActs) (picks : List ℕ) (n : ℕ) → All IsActOfWord polls.acts → All IsActOfWord (runs_from (first image input polls) picks n).actions
run_actions image input polls picks n h = runs_words (first image input polls) picks n (subst (All IsActOfWord) (sym (first_actions image input polls)) h)
