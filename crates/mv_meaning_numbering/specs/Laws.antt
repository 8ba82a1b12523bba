-- That the numbers of functions don't show, and that pointer switches keep their types.
use Rattle.std.specs.Prelude.{◌≡◌, ℕ, ◌+◌, Bool, true, All, IsTrue, List, length, Some, slice_get}
use Rattle.mv_ast.specs.declared.program.CType.{CType}
use Rattle.mv_ast.specs.declared.program.Program.{Program}
use Rattle.mv_ast.specs.Actions.{act_fits}
use Rattle.mv_ast.specs.Bindings.{is_typed_binding}
use Rattle.mv_ast.specs.Numbering.{own_numbers}
use Rattle.mv_ast.specs.Switches.{attributed_functions}
use Rattle.mv_bindings.specs.declared.binding.Event.{Event}
use Rattle.mv_bindings.specs.Acts.{Act}
use Rattle.mv_meaning.specs.Meaning.{Evaluation, context_with, hart_mean}
use Rattle.mv_meaning_numbering.specs.Numberings.{IsNumbering, Admits, meaning_in, meaning_under}
use Rattle.mv_source_forms.specs.Typing.{IsTyped}

-- under two numberings a program has one meaning, in each hart, on each input, with all actions that fit, at each bound
abbrev pub MeansTheSame : Program → (numbers others : List ℕ) → Type 0
MeansTheSame p numbers others =
    (hart : ℕ) (input : List ℕ) (actions : List Act) (bound : ℕ) → All (λ a. IsTrue (act_fits p hart a)) actions →
    meaning_under p numbers hart input actions bound ≡ meaning_under p others hart input actions bound

-- under a numbering a program has the meaning that it has under its own
abbrev pub MeansItself : Program → (numbers : List ℕ) → Type 0
MeansItself p numbers =
    (hart : ℕ) (input : List ℕ) (actions : List Act) (bound : ℕ) → All (λ a. IsTrue (act_fits p hart a)) actions →
    meaning_under p numbers hart input actions bound ≡ hart_mean p hart input actions bound

-- A well-typed program means the same under any two numberings.
abbrev pub NumbersDoNotShow : Type 0
NumbersDoNotShow =
    (p : Program) (numbers others : List ℕ) → IsTyped p → IsNumbering p numbers → IsNumbering p others → MeansTheSame p numbers others

-- A well-typed program means under any numbering what it means.
abbrev pub AnyNumberingServes : Type 0
AnyNumberingServes = (p : Program) (numbers : List ℕ) → IsTyped p → IsNumbering p numbers → MeansItself p numbers

-- Nor does it show in the meaning of a well-typed program what a call through a pointer would do that reached no function of the pointer's type:
-- such calls may do anything, and others may be made impossible.
abbrev pub StraysDoNotShow : Type 0
StraysDoNotShow =
    (p : Program) (numbers : List ℕ) (lets : CType → ℕ → ℕ → Bool) (stray : Evaluation ℕ) → IsTyped p → IsNumbering p numbers → Admits p lets →
    (hart : ℕ) (input : List ℕ) (actions : List Act) (bound : ℕ) → All (λ a. IsTrue (act_fits p hart a)) actions →
    meaning_in p (context_with p numbers lets stray bound) numbers hart input actions ≡ hart_mean p hart input actions bound

-- What a program means is its meaning under its own numbering.
abbrev pub OwnNumberingIsOne : Type 0
OwnNumberingIsOne =
    (p : Program) (hart : ℕ) (input : List ℕ) (actions : List Act) (bound : ℕ) →
    meaning_under p (own_numbers p) hart input actions bound ≡ hart_mean p hart input actions bound

-- where an event is of a pointer switch, which count on behind the attributed functions, it frees it or binds it to a function of its type
abbrev pub IsTypedEvent : Program → Event → Type 0
IsTypedEvent p e = (q g : ℕ) → e.function ≡ length (attributed_functions p) + q → slice_get p.pointers q ≡ Some g → is_typed_binding p g e.binding ≡ true

-- A well-typed program binds pointer switches to functions of their types alone: all that it logs says so, in each hart, on each input, with all actions
-- that fit, at each bound.
abbrev pub PointersAreLoggedTyped : Type 0
PointersAreLoggedTyped =
    (p : Program) (hart : ℕ) (input : List ℕ) (actions : List Act) (bound : ℕ) → IsTyped p → All (λ a. IsTrue (act_fits p hart a)) actions →
    All (IsTypedEvent p) (hart_mean p hart input actions bound).log
