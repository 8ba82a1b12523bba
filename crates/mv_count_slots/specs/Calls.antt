-- How many slots the code of a body has: one for each direct call of an attributed function.
use Rattle.std.specs.Prelude.{ℕ, ◌≡◌, ◌==◌, eqb, nat_eq, Bool, true, if◌then◌else◌, List, slice_get}
use Rattle.mv_ast.specs.declared.program.Program.{Program}
use Rattle.mv_ast.specs.declared.program.Function.{Function}
use Rattle.mv_ast.specs.Counts.{calls, calls_through, is_attributed, is_pointer}
use Rattle.mv_ir.specs.declared.stm.Stm.{Stm}
use Rattle.mv_ir.specs.declared.body.Body.{Body}
use Rattle.mv_select.specs.Calls.CallCode.{is_marked}
use Rattle.mv_select_code.specs.Trees.Rooms.{place_in}
use Rattle.mv_lower_spec.specs.Shape.Calls.{code_weight, function_weight, attributed_once}
use Rattle.mv_lower_spec.specs.Shape.Law.{IsFunctionOf}
use Rattle.mv_variants.specs.Bound.Programs.{IsGeneralOf}
use Rattle.mv_variants.specs.Bound.Slots.{one_each, points_where, slot_weight}
use Rattle.mv_select.specs.Selected.{selected_lines}
use Rattle.mv_linker.specs.Tables.{slot_count}
use Rattle.mv_count_code.specs.Sizes.{IsBodyOf}

-- the direct calls in some code of functions that a list marks
abbrev pub marked_calls : List ℕ → List Stm → ℕ
marked_calls marked code = code_weight (one_each (is_marked marked)) 0 code

-- those of a program's attributed functions
abbrev pub attributed_calls : Program → List Stm → ℕ
attributed_calls p code = code_weight (attributed_once p) 0 code

-- The code of a body has one slot for each direct call of a function that the body marks.
abbrev pub MarkedCallsHaveSlots : Type 0
MarkedCallsHaveSlots = (attributed : Bool) (b : Body) → slot_count (selected_lines attributed b) ≡ marked_calls b.marked b.code

-- That of each body of a program's function, its own or a variant, has one for each direct call of an attributed function in the body.
abbrev pub AttributedCallsHaveSlots : Type 0
AttributedCallsHaveSlots =
    (p : Program) (g : Function) (b : Body) → IsBodyOf p g b → (attributed : Bool) → slot_count (selected_lines attributed b) ≡ attributed_calls p b.code

-- That of its own body, neither bound nor folded, has one for each such call in the source.
abbrev pub SourceCallsHaveSlots : Type 0
SourceCallsHaveSlots =
    (p : Program) (f : ℕ) (g : Function) → IsFunctionOf p f g → (b : Body) → IsGeneralOf p g b →
    (attributed : Bool) → slot_count (selected_lines attributed b) ≡ calls p g

-- one for each direct call of a function
abbrev pub once_for : (callee : ℕ) → ℕ → ℕ
once_for callee f = if f == callee then 1 else 0

-- Of each attributed function it has as many slots as the source has direct calls of it.
abbrev pub CalleesHaveSlots : Type 0
CalleesHaveSlots =
    (p : Program) (f : ℕ) (g : Function) → IsFunctionOf p f g → (b : Body) → IsGeneralOf p g b → (attributed : Bool) →
    (callee : ℕ) → is_attributed (slice_get p.functions callee) ≡ true → slot_weight (once_for callee) (selected_lines attributed b) ≡ function_weight (once_for callee) 0 g

-- It has as many slots of four words through the pointer at an address as the source has calls through the pointer switch that stands there, and that of each
-- body has none where the source has none.
abbrev pub PointersHaveSlots : Type 0
PointersHaveSlots =
    (p : Program) (f : ℕ) (g : Function) → IsFunctionOf p f g → (attributed : Bool) (x : ℕ) → is_pointer p x ≡ true →
    ((b : Body) → IsGeneralOf p g b → points_where (eqb (place_in b.rooms x)) (selected_lines attributed b) ≡ calls_through (nat_eq x) g)
    × ((b : Body) → IsBodyOf p g b → calls_through (nat_eq x) g ≡ 0 → points_where (eqb (place_in b.rooms x)) (selected_lines attributed b) ≡ 0)
