-- What holds before each instruction, also while a commit is under way.
use Rattle.std.specs.Prelude.{ℕ, Bool, true, false, ◌&&◌, not, eqb, ltb, List, [], ◌∷◌, Option, Some, None, option_and_then, slice_get}
use Rattle.mv_num.specs.Regions.{text_start, data_start}
use Rattle.mv_bindings.specs.declared.binding.Binding.{Binding}
use Rattle.mv_isa.specs.declared.instr.Instr.{Instr}
use Rattle.mv_isa.specs.declared.instr.Instr.TheVariants.{Ecall}
use Rattle.mv_isa.specs.Encoding.{decode}
use Rattle.mv_fetch.specs.Held.{choices}
use Rattle.mv_rv32.specs.Stepping.{picked_target}
use Rattle.mv_image.specs.Spelling.{Fields}
use Rattle.mv_image.specs.Patched.{text_of}
use Rattle.mv_patch.specs.declared.prepared.Pair.{Pair}
use Rattle.mv_patch.specs.Orders.{values_of}
use Rattle.mv_patch.specs.Pairs.{pairs_between}
use Rattle.mv_select_code.specs.Control.Runs.{Spot}
use Rattle.mv_refine_machine.specs.Calm.{Rest}
use Rattle.mv_refine_machine.specs.MachineRuns as runs
use Rattle.mv_refine_machine.specs.Stores.Between.{is_between}

-- the text of an image under bindings
abbrev pub texts_of : Fields → List Binding → List ℕ
texts_of image bs = text_of image (values_of bs)

-- text is that of the bindings and nothing is older, or it is between that of the bindings from which the commit began and theirs
abbrev pub is_settled : (texts : List Binding → List ℕ) → Option (List Binding) → Rest → Bool
is_settled texts None m = is_between (texts m.bindings) (texts m.bindings) m.room.held
is_settled texts (Some old) m = is_between (texts old) (texts m.bindings) m.room.held

-- an address of text
abbrev pub into_text : Option ℕ → Bool
into_text None = false
into_text (Some a) = not (ltb a text_start) && ltb a data_start

-- a store into text finds room
abbrev pub not_wanting : Spot Rest → Bool
not_wanting spot = not (into_text (picked_target spot.memory.room 0 spot.regs spot.pc) && eqb spot.memory.room.spare 0)

-- none of some pairs is for a word at an address
abbrev pub are_elsewhere : ℕ → List Pair → Bool
are_elsewhere a [] = true
are_elsewhere a (pair ∷ pairs) = not (eqb pair.address a) && are_elsewhere a pairs

-- an environment call
abbrev pub is_call : Option Instr → Bool
is_call (Some Ecall) = true
is_call i = false

-- the instruction at a spot, by the first choice
abbrev pub instr_at : Spot Rest → Option Instr
instr_at spot = option_and_then decode (slice_get (choices spot.memory.room.held spot.pc) 0)

-- pc stands at no word that the commit that is under way changes, stored or to come, and at no environment call
abbrev pub is_apart : (texts : List Binding → List ℕ) → Option (List Binding) → Spot Rest → Bool
is_apart texts None spot = true
is_apart texts (Some old) spot = not (is_call (instr_at spot)) && are_elsewhere spot.pc (pairs_between (texts old) (texts spot.memory.bindings))

-- text is settled, a store finds room, and a commit changes no word at which pc stands
abbrev pub keeps_text : (texts : List Binding → List ℕ) → Option (List Binding) → Spot Rest → Bool
keeps_text texts under spot = is_settled texts under spot.memory && (not_wanting spot && is_apart texts under spot)

-- What a fetch gives doesn't depend on the pick and loads nothing that is closed there, and text is kept.
unfoldable pub is_sound : (closed : (pc address : ℕ) → Bool) → (texts : List Binding → List ℕ) → Option (List Binding) → Spot Rest → Bool
is_sound closed texts under spot = runs.is_sound closed spot && keeps_text texts under spot
