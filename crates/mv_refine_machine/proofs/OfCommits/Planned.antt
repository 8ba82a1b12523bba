-- What calls for plans and polls leave: of the pairs of what they do some in text, and the others as the plan in the plan area.
use Rattle.std.proofs.Common.{◌≡◌, ℕ, ◌+◌, ◌*◌, ◌≤◌, List, [], ◌++◌, length, Option, refl, sym, ap, ◌∙◌, arith}
use Rattle.std.specs.List.{All}
use Rattle.std.proofs.lemmas.List.{append-nil}
use Rattle.std.proofs.lemmas.List.Elements.{All-nil}
use Rattle.mv_num.specs.Words.{add}
use Rattle.mv_bindings.specs.declared.binding.Binding.{Binding}
use Rattle.mv_isa.specs.Execution.{put}
use Rattle.mv_fetch.specs.Held.{Room}
use Rattle.mv_rv32.specs.Stepping.{access}
use Rattle.mv_image.specs.Spelling.{Fields}
use Rattle.mv_image.specs.Faults.{Rules}
use Rattle.mv_patch.specs.declared.prepared.Pair.{Pair}
use Rattle.mv_patch.specs.Orders.{values_of}
use Rattle.mv_patch.specs.Plans.{plan_between}
use Rattle.mv_ir.specs.World.{World}
use Rattle.mv_machine.specs.Runs.{State, plan_area, with_plan, bytes_to_come}
use Rattle.mv_patch.specs.Stores.{stored_all}
use Rattle.mv_refine_machine.specs.Stores.Stores.{IsInRange}
use Rattle.mv_refine_machine.proofs.OfStores.Stored.{same_globals, same_stack}
use Rattle.mv_refine_machine.specs.Commits.Watch.{texts_of}
use Rattle.mv_refine_machine.specs.Commits.Storing.{spelled_plan}
use Rattle.mv_refine_machine.specs.Commits.Watched.{watched, plan_words, IsQuiet}
use Rattle.mv_refine_machine.specs.Commits.Served.{IsPlanned}
use Rattle.mv_refine_machine.specs.Commits.Known.{Known}
use Rattle.mv_refine_machine.proofs.OfCommits.Areas.{Writes, writes, plan_commutes}
use Rattle.mv_refine_machine.proofs.OfCommits.PlanWords.{pairs_size, plan_small}
use Rattle.mv_patch.proofs.Common.{none_differ}

-- so the plan from bindings to themselves has no pair
pub no_pairs : (image : Fields) (bs : List Binding) → plan_between image bs bs ≡ []
no_pairs image bs = none_differ 0x1000 (texts_of image bs)

-- what a store outside text and stack, or none, leaves
pub record KeepsAll (r r' : Room) : Type 0 where
  pub text : r'.held.text ≡ r.held.text
  pub older : r'.held.older ≡ r.held.older
  pub stack : r'.held.stack ≡ r.held.stack
  pub plan : r'.held.plan ≡ r.held.plan
  pub spare : r'.spare ≡ r.spare
  pub reserve : r'.reserve ≡ r.reserve

pub keeps_all : (r : Room) → KeepsAll r r
keeps_all r = record { text = refl; older = refl; stack = refl; plan = refl; spare = refl; reserve = refl }

-- a call's answer in a0
pub record Leaves (s next : State) (answer : ℕ) : Type 0 where
  pub regs : next.regs ≡ put s.regs 10 answer
  pub pc : next.pc ≡ add s.pc 4
  pub stop : next.stop ≡ s.stop
  pub input : next.input ≡ s.input
  pub output : next.output ≡ s.output

-- the world afterwards
pub record IsWorld (next : State) (w after : World) : Type 0 where
  pub bindings : next.bindings ≡ after.bindings
  pub hart : next.hart ≡ after.hart
  pub actions : next.actions ≡ after.actions
  pub log : next.log ≡ after.log
  pub input : after.input ≡ w.input
  pub output : after.output ≡ w.output

-- Of the pairs from some bindings to others a call stores some into text, and the others are the plan in the plan area of some room.
pub record Splits (image : Fields) (old new : List Binding) (from next : Room) (before coming : List Pair) : Type 0 where
  pub joined : before ++ coming ≡ plan_between image old new
  pub room : next ≡ stored_all (with_plan from coming) before
  pub written : Writes from (with_plan from coming) 0 (spelled_plan coming)

plan_written : (room : Room) (pairs : List Pair) → length room.held.plan ≡ plan_words → 1 + 2 * length pairs ≤ plan_words → All IsInRange pairs → Writes room (with_plan room pairs) 0 (spelled_plan pairs)
plan_written room pairs size fit ranges = let count = pairs_size pairs in writes (spelled_plan pairs) room 0 size (omega (arith, fit, count)) (plan_small pairs ranges (omega (arith, fit)))

-- what is adopted is all in text
pub all_before : (image : Fields) (old new : List Binding) (from next : Room) (pairs : List Pair) → length from.held.plan ≡ plan_words → next ≡ with_plan (stored_all from pairs) [] → pairs ≡ plan_between image old new
    → Splits image old new from next pairs []
all_before image old new from next pairs size there same = record {
  joined = append-nil pairs ∙ same;
  room = there ∙ plan_commutes pairs from size;
  written = plan_written from [] size (omega arith) (All-nil IsInRange);
}

-- of an order and of a flip all is in the plan
pub all_coming : Known → (image : Fields) → Rules image → (old new : List Binding) (from next : Room) (pairs : List Pair) → length from.held.plan ≡ plan_words → next ≡ with_plan from pairs → pairs ≡ plan_between image old new
    → Splits image old new from next [] (plan_between image old new)
unfolding stored_all
all_coming known image rules old new from next pairs size there same =
    let texts = known.images image rules (values_of old) (values_of new) in record {
      joined = refl;
      room = there ∙ ap (with_plan from) same;
      written = plan_written from (plan_between image old new) size texts.fit (known.ranges (texts_of image old) (texts_of image new) texts.texts);
    }

-- the words of the globals stay
pub globals_stay : (image : Fields) (old new : List Binding) (from next : Room) (before coming : List Pair) → Splits image old new from next before coming → next.held.globals ≡ from.held.globals
globals_stay image old new from next before coming splits =
    ap (λ (r : Room). r.held.globals) splits.room ∙ same_globals (with_plan from coming) before ∙ splits.written.keeps.globals

pub planned_by : (image : Fields) (s next : State) (under : Option (List Binding)) (w after : World) (answer : ℕ) (from : Room) (before coming : List Pair) → IsQuiet image w (watched s under) → KeepsAll s.room from
    → Leaves s next answer → IsWorld next w after → Splits image s.bindings after.bindings from next.room before coming → (planned : IsPlanned image after answer s next) × (planned.coming ≡ coming)
planned_by image s next under w after answer from before coming quiet keeps leaves world splits =
    let k = splits.written.keeps in (
      record {
        regs = leaves.regs;
        pc = leaves.pc;
        going = leaves.stop ∙ quiet.calm.goes_on;
        begun = with_plan from coming;
        before = before;
        coming = coming;
        joined = splits.joined;
        room = splits.room;
        stack_stays = ap (λ (r : Room). r.held.stack) splits.room ∙ same_stack (with_plan from coming) before ∙ k.stack ∙ keeps.stack;
        text = k.text ∙ keeps.text;
        older = k.older ∙ keeps.older;
        stack = k.stack ∙ keeps.stack;
        spare = k.spare ∙ keeps.spare;
        reserve = k.reserve ∙ keeps.reserve;
        plan = λ j word h. let z : j ≡ 0 + j = omega arith in ap (λ i. access.load (with_plan from coming) (plan_area + 4 * i) 4) z ∙ splits.written.loads j word h;
        size = k.size ∙ ap (λ (xs : List ℕ). length xs) keeps.plan;
        bindings = world.bindings;
        input = leaves.input ∙ quiet.calm.input ∙ ap bytes_to_come (sym world.input);
        hart = world.hart;
        actions = world.actions;
        output = leaves.output ∙ quiet.calm.output ∙ sym world.output;
        log = world.log;
      },
      refl,
    )
