-- The machine begins in calm, and its memory has words.
use Rattle.std.proofs.Common.{◌≡◌, ℕ, false, eqb, List, [], length, option_map, Option, Some, None, refl, sym, ap, ◌∙◌, subst}
use Rattle.mv_fetch.specs.Held.{fence, first as first_memory}
use Rattle.mv_fetch.proofs.Histories.{length_zeros}
use Rattle.mv_rv32.specs.Stepping as memory
use Rattle.mv_image.specs.Spelling.{Fields}
use Rattle.mv_image.specs.Patched.{text_of}
use Rattle.mv_patch.specs.Orders.{values_of}
use Rattle.mv_patch.specs.Tables.{patchable}
use Rattle.mv_ir.specs.World.{World}
use Rattle.mv_machine.specs.Acts.{PollActs}
use Rattle.mv_machine.specs.Runs.{bytes_to_come, first, runs_from}
use Rattle.mv_machine.specs.Commits.{commit_from}
use Rattle.mv_select_code.specs.Control.Runs.{outside}
use Rattle.mv_select.specs.Calls.Convention.{Layout}
use Rattle.mv_isa.specs.Registers.{sp}
use Rattle.mv_select_code.specs.Statements.Frames.{Site}
use Rattle.mv_select.specs.Functions.Functions.{Kept}
use Rattle.mv_refine_machine.specs.Calm.{Rest, IsCalm}
use Rattle.mv_refine_machine.specs.Laws.{IsFirst}
use Rattle.mv_refine_machine.specs.MachineRuns as runs
use Rattle.mv_refine_machine.specs.MachineRuns.{rest_of}
use Rattle.mv_refine_machine.proofs.Whole as whole
use Rattle.mv_refine_machine.specs.Stores.Between.{IsWhole}
use Rattle.mv_refine_machine.specs.Commits.Watch.{texts_of}
use Rattle.mv_refine_machine.specs.Commits.Watched.{Watched, access, watched, put_room, plan_words}
use Rattle.mv_refine_machine.specs.Commits.Hosted.{WatchedRunsBegin, WatchedMemory}
use Rattle.mv_refine_machine.specs.Commits.Known.{Known}
use Rattle.mv_refine_machine.proofs.OfCommits.Quiet.{quiet_told, quiet_tested}
use Rattle.mv_refine_machine.proofs.OfCommits.Images.{first_hart, first_actions}
use Rattle.mv_refine_machine.proofs.OfCommits.Tabled.{room_stored}

-- ---- the start

plan_there : (image : Fields) (input : List (Option ℕ)) (polls : PollActs) → length (first image input polls).room.held.plan ≡ plan_words
unfolding first first_memory
plan_there image input polls = length_zeros 131072

reserved : (image : Fields) (input : List (Option ℕ)) (polls : PollActs) → (first image input polls).room.reserve ≡ patchable image
unfolding first
reserved image input polls = refl

-- the first memory is as behind FENCE.I
fenced_first : (image : Fields) (input : List (Option ℕ)) (polls : PollActs) → memory.access.fence (first image input polls).room ≡ (first image input polls).room
unfolding memory.access fence first first_memory
fenced_first image input polls = refl

-- a frame without cells
no_frame : Site
no_frame = record {
  seats = record { place = λ g. 0; register = λ t. None; pinned = λ n. None };
  size = λ g. 0;
  reach = record { is_read = λ g. false; is_written = λ g. false; may_load = λ a. false };
  entry = λ f. 0;
  may_call = false;
  may_ask = λ k. false;
  temps = 0;
  array_at = λ a. 0;
  array_size = λ a. 0;
  is_left = eqb sp;
  register = λ q. 0;
  is_kept = λ b. false;
  kept = λ b. 0;
}

module _ (known : Known) where
  first_calm : (image : Fields) (bytes : List ℕ) (polls : PollActs) (picks : List ℕ) (w : World) → IsFirst image bytes w → IsCalm image (outside w) (rest_of (first image (bytes_to_come bytes) polls))
  unfolding runs_from
  first_calm image bytes polls picks w h =
      (known.calms image (outside w) (rest_of (first image (bytes_to_come bytes) polls))).0 (known.begins [] (λ pc a. false) image bytes polls picks no_frame w h)

  pub watched_begins : WatchedRunsBegin
  unfolding runs_from commit_from
  watched_begins image bytes polls picks w h hart acts =
      let start = first image (bytes_to_come bytes) polls in
      let calm = first_calm image bytes polls picks w h in
      let all : IsWhole start.room = subst IsWhole (fenced_first image (bytes_to_come bytes) polls) (known.rooms.fence start.room) in
      quiet_tested known image (outside w) (watched start None) (record {
        calm = calm;
        settled = known.rooms.settles (texts_of image w.bindings) start.room all (calm.text ∙ ap (λ bs. text_of image (values_of bs)) calm.bindings) calm.no_older;
        reserve = reserved image (bytes_to_come bytes) polls;
        plan = plan_there image (bytes_to_come bytes) polls;
        under = refl;
        hart = first_hart image (bytes_to_come bytes) polls ∙ sym hart;
        actions = first_actions image (bytes_to_come bytes) polls ∙ sym acts;
      })

  -- ---- memory

  kept_beside : (y : Layout) (m : Watched) (b v : ℕ) → Kept runs.access y m.rest b v → Kept access y m b v
  unfolding access runs.access
  kept_beside y m b v k =
      let r = room_stored m.rest k.after (memory.access.store m.rest.room b 4 v) k.stored in
      record {
        after = put_room m r.0;
        stored = ap (option_map (put_room m)) r.1;
        same = ap (λ (x : Rest). memory.access.load x.room b 4) (sym r.2) ∙ k.same;
        others = λ c word ne. ap (λ (x : Rest). memory.access.load x.room c 4) (sym r.2) ∙ k.others c word ne;
      }

  loads_beside : (m : Watched) (b v : ℕ) → access.load m b 4 ≡ Some v → runs.access.load m.rest b 4 ≡ Some v
  unfolding access runs.access
  loads_beside m b v e = e

  loads_back : (m : Watched) (b v : ℕ) → runs.access.load m.rest b 4 ≡ Some v → access.load m b 4 ≡ Some v
  unfolding access runs.access
  loads_back m b v e = e

  pub watched_memory : WatchedMemory
  watched_memory attributed closed image input polls picks y laid =
      let plain = whole.memory y laid attributed closed image input polls picks in
      record {
        stores = λ m b v w word lt loads. kept_beside y m b v (plain.stores m.rest b v w word lt (loads_beside m b w loads));
        words = λ m b w word loads. plain.words m.rest b w word (loads_beside m b w loads);
        stack = λ w m b calm stack.
            let x = plain.stack w m.rest b ((known.calms image w m.rest).1 (quiet_told known image w m calm).calm) stack in (x.0, loads_back m b x.0 x.1);
      }
