-- What the run of an image does, by what a program means.
use Rattle.std.specs.Prelude.{ℕ, ◌≡◌, ◌≢◌, ◌+◌, ◌-◌, ◌*◌, ◌^◌, ◌<◌, ◌≤◌, Bool, false, IsTrue, List, [], length, replicate, All, Option, Some, None, option_and_then, slice_get, Contains}
use Rattle.mv_bindings.specs.declared.binding.Binding.{Binding}
use Rattle.mv_ast.specs.declared.program.Program.{Program}
use Rattle.mv_ast.specs.Actions.{act_fits}
use Rattle.mv_bindings.specs.Acts.{IsActOfWord}
use Rattle.mv_ast.specs.Counts.{instructions_per_work}
use Rattle.mv_fetch.specs.Held.{choices, index_of}
use Rattle.mv_image.specs.Patched.{text_of}
use Rattle.mv_image.specs.Spelling.{Fields}
use Rattle.mv_isa.specs.declared.instr.Cause.{Cause}
use Rattle.mv_isa.specs.declared.instr.Instr.TheVariants.{Ecall}
use Rattle.mv_isa.specs.Encoding.{decode}
use Rattle.mv_select.specs.Functions.Loads.{loads_from}
use Rattle.mv_patch.specs.declared.prepared.Pair.{Pair}
use Rattle.mv_patch.specs.Plans.{plan_between}
use Rattle.mv_patch.specs.Orders.{values_of}
use Rattle.mv_machine.specs.Acts.{PollActs}
use Rattle.mv_machine.specs.Commits.{commit_from, fetched_instr}
use Rattle.mv_machine.specs.Runs.{State, Going, Exit, Trap, Fault, bytes_to_come, choices_at, first, runs}
use Rattle.mv_machine.specs.Snapshots.{WantsMemory}
use Rattle.mv_meaning.specs.declared.meant.End.{End}
use Rattle.mv_meaning.specs.declared.meant.End.TheVariants as source
use Rattle.mv_meaning.specs.declared.meant.Meant.{Meant}
use Rattle.mv_meaning.specs.Growth.{Begins}
use Rattle.mv_meaning.specs.Meaning.{hart_mean}
use Rattle.mv_refine_machine.specs.Stores.Between.{IsBetween}

-- how many bytes of an input a state has taken
abbrev pub taken_of : (bytes : List ℕ) → State → ℕ
taken_of bytes s = length bytes - length s.input

-- what a state has written and logged is the beginning of what a meaning has, and it has taken no more
pub record IsWithin (bytes : List ℕ) (s : State) (m : Meant) : Type 0 where
  pub output : Begins s.output m.output
  pub log : Begins s.log m.log
  pub taken : taken_of bytes s ≤ m.taken

-- a meaning has an end, and a state has done all that it does
pub record IsWhole (bytes : List ℕ) (s : State) (m : Meant) (e : End) : Type 0 where
  pub ending : m.«end» ≡ e
  pub output : m.output ≡ s.output
  pub taken : m.taken ≡ taken_of bytes s
  pub bindings : m.bindings ≡ s.bindings
  pub log : m.log ≡ s.log

-- a run that has ended has ended as the meaning does, and never with a fault
pub record EndsRight (bytes : List ℕ) (s : State) (m : Meant) : Type 0 where
  pub exits : (status : ℕ) → s.stop ≡ Exit status → IsWhole bytes s m (source.Exit status)
  pub traps : (code : ℕ) → s.stop ≡ Trap code → IsWhole bytes s m (source.Trap code)
  pub faults : (why : Cause) → s.stop ≡ Fault why → ⊥

-- a state has written and logged all that a meaning has, and has ended where that has
pub record HasDone (s : State) (m : Meant) : Type 0 where
  pub output : Begins m.output s.output
  pub log : Begins m.log s.log
  pub ended : (m.«end» ≡ source.More → ⊥) → s.stop ≡ Going → ⊥

-- ---- text

-- Text is that of an image under the present bindings, and of no word an older one may still be fetched.
pub record IsTextSettled (image : Fields) (s : State) : Type 0 where
  pub words : s.room.held.text ≡ text_of image (values_of s.bindings)
  pub older : s.room.held.older ≡ replicate (length s.room.held.text) []

-- While a commit is under way that began from some bindings: each word of text is that of the text under these alone, or, where they differ, that of the text
-- under the present ones before it; and pc stands at no word that the commit changes, stored already or to come.
pub record IsTextChanging (image : Fields) (old : List Binding) (s : State) : Type 0 where
  pub words : IsBetween (text_of image (values_of old)) (text_of image (values_of s.bindings)) s.room.held
  pub apart : All (λ (pair : Pair). pair.address ≢ s.pc) (plan_between image old s.bindings)

-- No binding shows at an address: text has the same word there under any.
abbrev pub IsPlain : Fields → (address : ℕ) → Type 0
IsPlain image a = (some other : List Binding) → slice_get (text_of image (values_of some)) (index_of a) ≡ slice_get (text_of image (values_of other)) (index_of a)

-- No binding shows at a word that is an environment call under some bindings: none is ever patched.
abbrev pub CallsArePlain : Fields → Type 0
CallsArePlain image =
    (bs : List Binding) (a word : ℕ) → slice_get (text_of image (values_of bs)) (index_of a) ≡ Some word → decode word ≡ Some Ecall → IsPlain image a

-- ---- runs

-- the bindings from which the commit began that is under way after n instructions of a run; none where none is under way
abbrev pub commit_at : Fields → (bytes : List ℕ) → PollActs → (picks : List ℕ) → (n : ℕ) → Option (List Binding)
commit_at image bytes polls picks n = commit_from (first image (bytes_to_come bytes) polls) picks n

module _ (p : Program) (image : Fields) (bytes : List ℕ) (polls : PollActs) (picks : List ℕ) where
  -- the state after n instructions
  abbrev at : ℕ → State
  at n = runs image (bytes_to_come bytes) polls picks n

  -- what the program means in this hart, at the bound k
  abbrev meant : ℕ → Meant
  meant k = hart_mean p polls.hart bytes polls.acts k

  abbrev under_way : ℕ → Option (List Binding)
  under_way n = commit_at image bytes polls picks n

  -- The run of an image in a hart, on an input, with some acts of its polls and by any picks of the fetches, does what a program means with them. After n
  -- instructions it has done no more than the meaning at the bound n, and all of the meaning at each bound whose work is less than a hundredth of n. It ends
  -- only as the meaning does. Each fetch has one choice, so that no pick matters. Text is that of the bindings, but while a commit is under way, when it is
  -- between that of the bindings before and that of those behind it; no commit is under way in a run that has ended. An environment call is made while no
  -- commit is under way, at a word that no binding changes. No instruction wants memory, whatever is picked.
  pub record Behaves : Type 0 where
    pub within : (n : ℕ) → IsWithin bytes (at n) (meant n)
    pub ends : (n : ℕ) → EndsRight bytes (at n) (meant n)
    pub does : (n k : ℕ) → instructions_per_work * (1 + (meant k).work) ≤ n → HasDone (at n) (meant k)
    pub fetches : (n : ℕ) → (at n).stop ≡ Going → choices_at (at n) ≡ 1
    pub settled : (n : ℕ) → under_way n ≡ None → IsTextSettled image (at n)
    pub between : (n : ℕ) (old : List Binding) → under_way n ≡ Some old → IsTextChanging image old (at n)
    pub over : (n : ℕ) → ((at n).stop ≡ Going → ⊥) → under_way n ≡ None
    pub calls : (n : ℕ) → fetched_instr (at n) 0 ≡ Some Ecall → (under_way n ≡ None) × IsPlain image (at n).pc
    pub roomy : (n pick : ℕ) → WantsMemory (at n) pick → ⊥

-- where a word, read as an instruction, loads from, if it is a load
abbrev pub word_loads : (regs : List ℕ) → ℕ → Option ℕ
word_loads regs word = option_and_then (λ i. loads_from i regs) (decode word)

-- No instruction of the run loads from an address that is closed to what stands at its place, whatever is picked.
abbrev pub LoadsWhatIsOpen : Fields → (closed : (pc address : ℕ) → Bool) → (bytes : List ℕ) → PollActs → (picks : List ℕ) → Type 0
LoadsWhatIsOpen image closed bytes polls picks =
    (n a : ℕ) → let s = runs image (bytes_to_come bytes) polls picks n in
    s.stop ≡ Going → (word : ℕ) → Contains (choices s.room.held s.pc) word → word_loads s.regs word ≡ Some a → closed s.pc a ≡ false

-- In each hart it does what the program means on each input of bytes, with any acts whose values are words and that fit the program there, whatever is picked.
abbrev pub BehavesAlways : Program → Fields → Type 0
BehavesAlways p image =
    (bytes : List ℕ) (polls : PollActs) (picks : List ℕ) → All (λ b. b < 2 ^ 8) bytes → All IsActOfWord polls.acts → All (λ a. IsTrue (act_fits p polls.hart a)) polls.acts →
    Behaves p image bytes polls picks
