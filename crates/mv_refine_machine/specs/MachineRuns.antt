-- The machine as a run on which code stands. Its text has what is never patched, and the sites as slots, of two words and of four;
-- what stands under bindings is told apart.
use Rattle.std.specs.Prelude.{ℕ, ◌-◌, ◌/◌, ◌%◌, Bool, true, not, ◌&&◌, ◌||◌, cond, eqb, ltb, List, [], ◌∷◌, length, slice_get, is_some, Option, Some, None, option_map, option_and_then}
use Rattle.mv_num.specs.Regions.{text_start, data_start}
use Rattle.mv_machine.specs.Acts.{PollActs}
use Rattle.mv_isa.specs.Encoding.{decode}
use Rattle.mv_isa.specs.Execution.{Access}
use Rattle.mv_fetch.specs.Held.{Room, choices}
use Rattle.mv_rv32.specs.Stepping as memory
use Rattle.std.specs.List.{find}
use Rattle.mv_descriptors.specs.declared.rows.SiteRow.{SiteRow}
use Rattle.mv_descriptors.specs.declared.rows.PointerRow.{PointerRow}
use Rattle.mv_descriptors.specs.declared.rows.PointRow.{PointRow}
use Rattle.mv_image.specs.Spelling.{Fields}
use Rattle.mv_image.specs.Patched.{entry_at, site_at, site_before, point_at, word_under}
use Rattle.mv_ir.specs.World.{World}
use Rattle.mv_machine.specs.Runs.{State, runs}
use Rattle.mv_select_code.specs.Control.Placed.{Text}
use Rattle.mv_select_code.specs.Control.Runs.{Spot, Machine}
use Rattle.mv_select.specs.Functions.Loads.{loads_from}
use Rattle.mv_refine_machine.specs.Calm.{Rest, is_calm}
use Rattle.mv_patch.specs.Orders.{values_of}

abbrev pub with_room : Rest → Room → Rest
with_room m room = record m { room = room }

-- loads, stores and FENCE.I of the machine's memory
unfoldable pub access : Access Rest
access = record {
  load = λ m a n. memory.access.load m.room a n;
  store = λ m a n v. option_map (with_room m) (memory.access.store m.room a n v);
  fence = λ m. with_room m (memory.access.fence m.room);
}

abbrev pub rest_of : State → Rest
rest_of s = record { room = s.room; bindings = s.bindings; input = s.input; output = s.output; log = s.log; stop = s.stop }

abbrev pub spot_of : State → Spot Rest
spot_of s = record { regs = s.regs; pc = s.pc; memory = rest_of s }

-- whether bindings may show at an address: it is the entry of a function, a word of a site, or a word of a pointer site
abbrev pub may_be_patched : Fields → ℕ → Bool
may_be_patched image a = is_some (entry_at image a) || (is_some (site_at image a) || (is_some (site_before image a) || is_some (point_at image a)))

-- the word of text at an address, which ends where data begins
abbrev pub word_at : List ℕ → ℕ → Option ℕ
word_at text a = cond (ltb a text_start) None (cond (ltb a data_start) (slice_get text ((a - text_start) / 4)) None)

-- the image's word at an address of text, none at others
unfoldable pub image_word : Fields → ℕ → Option ℕ
image_word image a = cond (eqb (a % 4) 0) (word_at image.text a) None

-- none also where bindings may show
unfoldable pub unpatched_word : Fields → ℕ → Option ℕ
unpatched_word image a = cond (may_be_patched image a) None (image_word image a)

-- the word that stands there under the bindings of a world
unfoldable pub bound_word : Fields → World → ℕ → Option ℕ
bound_word image w a = option_map (word_under image (values_of w.bindings) a) (image_word image a)

-- The function that the site at an address calls. An image numbers the attributed functions alone; `attributed` has the number of each of them in
-- the program.
unfoldable pub called_at : (attributed : List ℕ) → Fields → ℕ → Option ℕ
called_at attributed image a = option_and_then (λ (site : SiteRow). slice_get attributed site.function) (site_at image a)

-- the pointer site that begins at an address, and the address of the pointer through which it calls
abbrev pub begins_at : ℕ → PointRow → Bool
begins_at a point = eqb point.address a

unfoldable pub through_at : Fields → ℕ → Option ℕ
through_at image a =
    option_and_then (λ (point : PointRow). option_map (λ (pointer : PointerRow). pointer.address) (slice_get image.pointers point.pointer)) (find (begins_at a) image.points)

abbrev pub machine_text : (attributed : List ℕ) → Fields → Text
machine_text attributed image = record { word = unpatched_word image; slot = called_at attributed image; point = through_at image }

-- what a fetch gives at a spot doesn't depend on the pick
abbrev pub has_one_choice : Spot Rest → Bool
has_one_choice spot = eqb (length (choices spot.memory.room.held spot.pc)) 1

-- a load, if it is one, isn't from a closed address
abbrev pub opens : (closed : ℕ → Bool) → Option ℕ → Bool
opens closed None = true
opens closed (Some a) = not (closed a)

-- none of some words is a load from a closed address
abbrev pub are_open : (closed : ℕ → Bool) → (regs words : List ℕ) → Bool
are_open closed regs [] = true
are_open closed regs (word ∷ words) = opens closed (option_and_then (λ i. loads_from i regs) (decode word)) && are_open closed regs words

-- What a fetch gives at a spot doesn't depend on the pick, and is no load from an address that is closed to what stands there.
abbrev pub is_sound : (closed : (pc address : ℕ) → Bool) → Spot Rest → Bool
is_sound closed spot = has_one_choice spot && are_open (closed spot.pc) spot.regs (choices spot.memory.room.held spot.pc)

-- the run of an image on an input, by any picks of the fetches
abbrev pub run_of : Fields → (input : List (Option ℕ)) → PollActs → (picks : List ℕ) → ℕ → Spot Rest
run_of image input polls picks n = spot_of (runs image input polls picks n)

abbrev pub machine_of : (attributed : List ℕ) → (closed : (pc address : ℕ) → Bool) → Fields → (input : List (Option ℕ)) → PollActs → (picks : List ℕ) → Machine Rest
machine_of attributed closed image input polls picks = record {
  text = machine_text attributed image;
  is_calm = is_calm image;
  is_sound = is_sound closed;
  run = run_of image input polls picks;
}
