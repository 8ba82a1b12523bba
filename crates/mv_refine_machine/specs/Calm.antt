-- When the machine is, apart from registers, pc and the words of data and stack, as a world says.
use Rattle.std.specs.Prelude.{ℕ, ◌≡◌, Bool, true, false, ◌&&◌, List, [], ◌∷◌, length, Option, Some, None, nat_eq}
pub use Rattle.mv_num.specs.Regions.{stack_words}
use Rattle.mv_bindings.specs.declared.binding.Binding.{Binding}
use Rattle.mv_bindings.specs.declared.binding.Event.{Event}
use Rattle.mv_bindings.specs.Bindings.{same_words, is_same_binding}
use Rattle.mv_fetch.specs.Held.{Room, older_at}
use Rattle.mv_image.specs.Spelling.{Fields}
use Rattle.mv_image.specs.Patched.{text_of}
use Rattle.mv_patch.specs.Orders.{values_of}
use Rattle.mv_ir.specs.World.{World}
use Rattle.mv_select.specs.Slots.Narrowed.{same_bindings}
use Rattle.mv_machine.specs.Runs.{Stop, Going, is_going, bytes_to_come}

-- all of a machine's state but registers and pc
pub record Rest : Type 0 where
  pub room : Room
  pub bindings : List Binding
  pub input : List (Option ℕ)
  pub output : List ℕ
  pub log : List Event
  pub stop : Stop

-- The run goes on; text is the image's under the bindings, and each of its words is the only one that a fetch may give; the stack has all its words; and
-- the input to come, the output, the bindings and the log are those of the world. Nothing is said of the world's globals, of its hart, of how many
-- bytes it took, and of its actions.
pub record IsCalm (image : Fields) (w : World) (m : Rest) : Type 0 where
  pub goes_on : m.stop ≡ Going
  pub text : m.room.held.text ≡ text_of image (values_of m.bindings)
  pub no_older : (k : ℕ) → older_at m.room.held.older k ≡ []
  pub stack : length m.room.held.stack ≡ stack_words
  pub input : m.input ≡ bytes_to_come w.input
  pub output : m.output ≡ w.output
  pub bindings : m.bindings ≡ w.bindings
  pub log : m.log ≡ w.log

-- ---- the same as a test

abbrev pub all_empty : List (List ℕ) → Bool
all_empty [] = true
all_empty ([] ∷ rest) = all_empty rest
all_empty ((w ∷ words) ∷ rest) = false

abbrev pub gives_bytes : List (Option ℕ) → List ℕ → Bool
gives_bytes [] [] = true
gives_bytes [] (byte ∷ bytes) = false
gives_bytes (answer ∷ input) [] = false
gives_bytes (None ∷ input) (byte ∷ bytes) = false
gives_bytes (Some b ∷ input) (byte ∷ bytes) = nat_eq b byte && gives_bytes input bytes

abbrev pub is_same_event : Event → Event → Bool
is_same_event a b = nat_eq a.function b.function && is_same_binding a.binding b.binding

abbrev pub same_events : List Event → List Event → Bool
same_events [] [] = true
same_events [] (b ∷ bs) = false
same_events (a ∷ as') [] = false
same_events (a ∷ as') (b ∷ bs) = is_same_event a b && same_events as' bs

-- the test of memory and of what doesn't depend on the world
abbrev pub is_calm_text : Fields → Rest → Bool
is_calm_text image m =
    is_going m.stop
    && (same_words m.room.held.text (text_of image (values_of m.bindings)) && (all_empty m.room.held.older && nat_eq (length m.room.held.stack) stack_words))

abbrev pub is_world_outside : World → Rest → Bool
is_world_outside w m =
    gives_bytes m.input w.input && (same_words m.output w.output && (same_bindings m.bindings w.bindings && same_events m.log w.log))

unfoldable pub is_calm : Fields → World → Rest → Bool
is_calm image w m = is_calm_text image m && is_world_outside w m
