-- The start of a machine.
use Rattle.std.proofs.Common.{ℕ, ◌≡◌, ◌+◌, ◌*◌, List, [], length, replicate, Option, None, refl, ap, ap₂, ◌∙◌}
use Rattle.mv_bindings.specs.declared.action.Action.{Action}
use Rattle.mv_bindings.specs.declared.binding.Binding.{Binding}
use Rattle.mv_bindings.specs.Bindings.{free}
use Rattle.mv_fetch.specs.Held.{Held, Room, first as first_memory}
use Rattle.mv_image.specs.Spelling.{Fields}
use Rattle.mv_patch.specs.Orders.{binding_count}
use Rattle.mv_patch.specs.Tables.{patchable}
use Rattle.mv_machine.specs.Acts.{polls_of}
use Rattle.mv_machine.specs.declared.engine.Engine.{Engine}
use Rattle.mv_machine.specs.Runs.{State, Going, first}
use Rattle.mv_machine.specs.Moves.{seen, shown}
use Rattle.mv_machine.specs.Snapshots.{kept, resumed}

abbrev start_of : (hart : ℕ) (image : Fields) (pc : ℕ) (held : Held) (spare reserve : ℕ) (bindings : List Binding) (input : List (Option ℕ)) → State
start_of hart image pc held spare reserve bindings input = record {
  hart = hart;
  image = image;
  regs = replicate 32 0;
  pc = pc;
  room = record { held = held; spare = spare; reserve = reserve };
  bindings = bindings;
  input = input;
  actions = [];
  output = [];
  log = [];
  stop = Going;
}

-- the parts that a hart starts with are those of the first state
pub started : (hart : ℕ) (image same : Fields) (pc : ℕ) (room : Room) (bindings : List Binding) (count n : ℕ) → same ≡ image → pc ≡ image.entry
    → room.held ≡ first_memory image.text image.globals → room.spare ≡ n → room.reserve ≡ n
    → n ≡ length image.functions + 2 * length image.sites + 4 * length image.points → bindings ≡ replicate count free → count ≡ binding_count image
    → (input : List (Option ℕ)) → start_of hart same pc room.held room.spare room.reserve bindings input ≡ first image input (record { hart = hart; acts = [] })
unfolding first patchable
started hart image same pc room bindings count n w p h s r e b c input =
    ap (λ (i : Fields). start_of hart i pc room.held room.spare room.reserve bindings input) w
    ∙ ap₂ (λ (q : ℕ) (m : Held). start_of hart image q m room.spare room.reserve bindings input) p h
    ∙ ap₂ (λ (k l : ℕ). start_of hart image image.entry (first_memory image.text image.globals) k l bindings input) (s ∙ e) (r ∙ e)
    ∙ ap (λ (l : List Binding). start_of hart image image.entry (first_memory image.text image.globals) (patchable image) (patchable image) l input) (b ∙ ap (λ (k : ℕ). replicate k free) c)

-- what a machine keeps of the first state of its hart
pub kept_start : (engine : Engine) (image : Fields) → ((input : List (Option ℕ)) → shown (seen engine [] None None) Going input [] [] ≡ first image input (record { hart = 0; acts = [] }))
    → kept (shown (seen engine [] None None) Going [] [] []) None ≡ kept (first image [] (polls_of [])) None
kept_start engine image starts = ap (λ (s : State). kept s None) (starts [])

-- a run of a machine that has just been started is the run of its image
pub first_state : (image : Fields) (input : List (Option ℕ)) (actions : List Action) → resumed (kept (first image [] (polls_of [])) None) input actions ≡ first image input (polls_of actions)
unfolding resumed kept first
first_state image input actions = refl
