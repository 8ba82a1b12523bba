-- Machines that are calm in fewer worlds, over another text.
use Rattle.std.specs.Prelude.{ℕ, ◌≡◌, Bool, true, false, ◌&&◌, List, [], ◌∷◌, Option, None}
use Rattle.mv_bindings.specs.declared.binding.Binding.{Binding}
use Rattle.mv_bindings.specs.Bindings.{is_same_binding}
use Rattle.mv_ir.specs.World.{World}
use Rattle.mv_ir.specs.Outcome.{End, Returned, Trapped, More, Stuck}
use Rattle.mv_select_code.specs.Control.Placed.{Text}
use Rattle.mv_select_code.specs.Control.Runs.{Machine, outside}

-- the same run, calm only in worlds that pass a test, over another text
abbrev pub narrowed : {M : Type 0} → Machine M → (World → Bool) → Text → Machine M
narrowed machine test text = record machine { text = text; is_calm = λ w m. test w && machine.is_calm w m }

-- whether two lists of bindings are equal
abbrev pub same_bindings : List Binding → List Binding → Bool
same_bindings [] [] = true
same_bindings [] (b ∷ bs) = false
same_bindings (a ∷ as') [] = false
same_bindings (a ∷ as') (b ∷ bs) = is_same_binding a b && same_bindings as' bs

-- words, and no slots
abbrev pub words_alone : (ℕ → Option ℕ) → Text
words_alone words = record { word = words; slot = λ a. None; point = λ a. None }

-- the worlds with some bindings
abbrev pub has_bindings : List Binding → World → Bool
has_bindings bs w = same_bindings bs w.bindings

-- The machine under some bindings: its text is the words that stand while these hold.
abbrev pub under : {M : Type 0} → Machine M → (List Binding → ℕ → Option ℕ) → List Binding → Machine M
under machine words bs = narrowed machine (has_bindings bs) (words_alone (words bs))

-- The world in which a call ends passes a test apart from its globals, where the call has a meaning.
abbrev pub LeavesTrue : (World → Bool) → End → Type 0
LeavesTrue test (Returned v w) = test (outside w) ≡ true
LeavesTrue test (Trapped code w) = test (outside w) ≡ true
LeavesTrue test (More w) = test (outside w) ≡ true
LeavesTrue test Stuck = Unit {0}
