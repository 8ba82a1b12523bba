-- The machine whose memory tells the commit that is under way.
use Rattle.std.specs.Prelude.{ℕ, ◌≡◌, Bool, true, false, ◌&&◌, eqb, List, [], ◌∷◌, length, Option, Some, None, option_map}
pub use Rattle.mv_num.specs.Regions.{plan_words}
use Rattle.mv_bindings.specs.declared.binding.Binding.{Binding}
use Rattle.mv_bindings.specs.Acts.{Act, Skip, Flip, Adopt}
use Rattle.mv_isa.specs.Execution.{Access}
use Rattle.mv_fetch.specs.Held.{Room}
use Rattle.mv_rv32.specs.Stepping as memory
use Rattle.mv_image.specs.Spelling.{Fields}
use Rattle.mv_patch.specs.Tables.{patchable}
use Rattle.mv_ir.specs.World.{World}
use Rattle.mv_machine.specs.Runs.{State, runs_from, first}
use Rattle.mv_machine.specs.Acts.{PollActs}
use Rattle.mv_machine.specs.Commits.{commit_from}
use Rattle.mv_select_code.specs.Control.Runs.{Spot, Machine}
use Rattle.mv_select.specs.Slots.Narrowed.{same_bindings}
use Rattle.mv_refine_machine.specs.Calm.{Rest, IsCalm, is_calm}
use Rattle.mv_refine_machine.specs.MachineRuns.{with_room, rest_of, machine_text}
use Rattle.mv_refine_machine.specs.Stores.Between.{IsSettled, is_between}
use Rattle.mv_refine_machine.specs.Commits.Watch.{texts_of, is_sound}

-- all of a machine's state but registers and pc, and the bindings from which the commit began that is under way
pub record Watched : Type 0 where
  pub rest : Rest
  pub under : Option (List Binding)
  pub hart : ℕ
  pub actions : List Act

abbrev pub put_room : Watched → Room → Watched
put_room m room = record m { rest = with_room m.rest room }

-- loads, stores and FENCE.I of the machine's memory; none of them looks at the commit, nor changes it
unfoldable pub access : Access Watched
access = record {
  load = λ m a n. memory.access.load m.rest.room a n;
  store = λ m a n v. option_map (put_room m) (memory.access.store m.rest.room a n v);
  fence = λ m. put_room m (memory.access.fence m.rest.room);
}

abbrev pub watched : State → Option (List Binding) → Watched
watched s under = record { rest = rest_of s; under = under; hart = s.hart; actions = s.actions }

-- The machine is calm as a world says. Also each word of text has its list of older words, the whole reserve is spare and is enough for each commit, the
-- plan area has all its words, no commit is under way, and the hart and what its polls are still to take are the world's.
pub record IsQuiet (image : Fields) (w : World) (m : Watched) : Type 0 where
  pub calm : IsCalm image w m.rest
  pub settled : IsSettled (texts_of image w.bindings) m.rest.room
  pub reserve : m.rest.room.reserve ≡ patchable image
  pub plan : length m.rest.room.held.plan ≡ plan_words
  pub under : m.under ≡ None
  pub hart : m.hart ≡ w.hart
  pub actions : m.actions ≡ w.actions

-- ---- the same as a test

abbrev pub same_act : Act → Act → Bool
same_act Skip Skip = true
same_act (Flip s v) (Flip t u) = eqb s t && eqb v u
same_act (Adopt bs) (Adopt cs) = same_bindings bs cs
same_act _ _ = false

abbrev pub same_acts : List Act → List Act → Bool
same_acts [] [] = true
same_acts [] (b ∷ bs) = false
same_acts (a ∷ as') [] = false
same_acts (a ∷ as') (b ∷ bs) = same_act a b && same_acts as' bs

abbrev pub is_nothing : Option (List Binding) → Bool
is_nothing None = true
is_nothing (Some bs) = false

unfoldable pub is_quiet : Fields → World → Watched → Bool
is_quiet image w m =
    is_calm image w m.rest
    && (is_between (texts_of image w.bindings) (texts_of image w.bindings) m.rest.room.held
    && (eqb m.rest.room.spare m.rest.room.reserve
    && (eqb m.rest.room.reserve (patchable image)
    && (eqb (length m.rest.room.held.plan) plan_words && (is_nothing m.under && (eqb m.hart w.hart && same_acts m.actions w.actions))))))

-- ---- its runs

abbrev pub plain_spot : Spot Watched → Spot Rest
plain_spot spot = record { regs = spot.regs; pc = spot.pc; memory = spot.memory.rest }

abbrev pub spot_at : (start : State) → (picks : List ℕ) → ℕ → Spot Watched
spot_at start picks n =
    let s = runs_from start picks n in record { regs = s.regs; pc = s.pc; memory = watched s (commit_from start picks n) }

abbrev pub watched_machine : (attributed : List ℕ) → (closed : (pc address : ℕ) → Bool) → Fields → (input : List (Option ℕ)) → PollActs → (picks : List ℕ) → Machine Watched
watched_machine attributed closed image input polls picks = record {
  text = machine_text attributed image;
  is_calm = is_quiet image;
  is_sound = λ spot. is_sound closed (texts_of image) spot.memory.under (plain_spot spot);
  run = spot_at (first image input polls) picks;
}
