-- How many slots stand in the code of a function, and in that of its variants.
use Rattle.std.specs.Prelude.{ℕ, suc, ◌+◌, ◌*◌, ◌≡◌, ◌≤◌, Bool, true, cond, if◌then◌else◌, List, [], ◌∷◌, length, sum, sum_by}
use Rattle.mv_ast.specs.declared.program.Program.{Program}
use Rattle.mv_ast.specs.declared.program.Function.{Function}
use Rattle.mv_ast.specs.Counts as counts
use Rattle.mv_ast.specs.Switches.{attributed_functions}
use Rattle.mv_isa.specs.declared.labelled.Line.{Line}
use Rattle.mv_isa.specs.declared.labelled.Line.TheVariants.{Slot, Point}
use Rattle.mv_ir.specs.declared.stm.Stm.{Stm}
use Rattle.mv_ir.specs.declared.body.Body.{Body}
use Rattle.mv_ir.specs.Shorts.{Shorts}
use Rattle.mv_select.specs.Calls.CallCode.{is_marked}
use Rattle.mv_select.specs.Functions.FunctionCode.{Shape, function_lines}
use Rattle.mv_select.specs.Functions.Functions.{shape_of}
use Rattle.mv_lower_spec.specs.Functions.{lower_function}
use Rattle.mv_lower_spec.specs.Shape.Calls.{code_through, code_weight}
use Rattle.mv_lower_spec.specs.Shape.Law.{CallsAsOften}
use Rattle.mv_fold.specs.Folded.{IsFolded}
use Rattle.mv_regalloc.specs.Intervals.{IsRenamed}
use Rattle.mv_merge.specs.declared.rows.Domain.{Domain}
use Rattle.mv_merge.specs.declared.rows.Bound.{Bound}
use Rattle.mv_merge.specs.declared.rows.Variants.{Variants}
use Rattle.mv_merge.specs.Guards.{IsMerged}
use Rattle.mv_variants.specs.Bound.Meant.{IsMadeUnder}
use Rattle.mv_variants.specs.Bound.General.{IsGeneral}
use Rattle.mv_variants.specs.Bound.Led.{AreMade}

-- how many of some lines are slots
abbrev pub slots : List Line → ℕ
slots [] = 0
slots (Slot f ∷ rest) = suc (slots rest)
slots (_ ∷ rest) = slots rest

-- how many are slots of four words, and how many of those go through the pointers that a test picks
abbrev pub points_where : (address : ℕ → Bool) → List Line → ℕ
points_where test [] = 0
points_where test (Point a ∷ rest) = (if test a then 1 else 0) + points_where test rest
points_where test (_ ∷ rest) = points_where test rest

abbrev pub points : List Line → ℕ
points = points_where (λ a. true)

-- how many sites some lines are: a slot of four words counts twice
abbrev pub sites : List Line → ℕ
sites lines = slots lines + 2 * points lines

-- the weights of the functions whose slots some lines are
abbrev pub slot_weight : (ℕ → ℕ) → List Line → ℕ
slot_weight weight [] = 0
slot_weight weight (Slot f ∷ rest) = weight f + slot_weight weight rest
slot_weight weight (_ ∷ rest) = slot_weight weight rest

-- a weight for each direct call of such a function
abbrev pub weight_where : (ℕ → Bool) → (weight : ℕ → ℕ) → ℕ → ℕ
weight_where is_attributed weight f = cond (is_attributed f) (weight f) 0

-- one for each direct call of such a function
abbrev pub one_each : (ℕ → Bool) → ℕ → ℕ
one_each is_attributed f = cond (is_attributed f) 1 0

-- A function's lines have one slot for each direct call of an attributed function in its code.
abbrev pub SlotsAreCalls : Type 0
SlotsAreCalls =
    (place sizes : ℕ → ℕ) (is_attributed : ℕ → Bool) (shape : Shape) (code : List Stm) → slots (function_lines place sizes is_attributed shape code) ≡ code_weight (one_each is_attributed) 0 code

-- And one slot of four words for each call through a pointer switch in its code: with any test of addresses.
abbrev pub PointsAreCalls : Type 0
PointsAreCalls =
    (place sizes : ℕ → ℕ) (is_attributed : ℕ → Bool) (shape : Shape) (code : List Stm) (test : ℕ → Bool) →
    points_where test (function_lines place sizes is_attributed shape code) ≡ code_through (λ g. test (place g)) code

-- Each of the slots is one of the function that is called: with any weight for each function.
abbrev pub SlotsWeighAsCalls : Type 0
SlotsWeighAsCalls =
    (place sizes : ℕ → ℕ) (is_attributed : ℕ → Bool) (shape : Shape) (code : List Stm) (weight : ℕ → ℕ) →
    slot_weight weight (function_lines place sizes is_attributed shape code) ≡ code_weight (weight_where is_attributed weight) 0 code

-- Each variant of a function has at most as many sites as the function has call sites in the source.
abbrev pub SlotsAreFew : Type 0
SlotsAreFew =
    (p : Program) (g : Function) → CallsAsOften p g (lower_function p g) → (shorts : Shorts) (ps : List (ℕ × ℕ)) (result : Body) → IsMadeUnder shorts ps (lower_function p g) result →
    (place sizes : ℕ → ℕ) (shape : Shape) → sites (function_lines place sizes (is_marked result.marked) shape result.code) ≤ counts.call_sites p g

-- And so has the function's own code, which is folded and renamed alone.
abbrev pub OwnSlotsAreFew : Type 0
OwnSlotsAreFew =
    (p : Program) (g : Function) → CallsAsOften p g (lower_function p g) → (folded result : Body) → IsFolded (lower_function p g) folded → IsRenamed folded result →
    (place sizes : ℕ → ℕ) (shape : Shape) → sites (function_lines place sizes (is_marked result.marked) shape result.code) ≤ counts.call_sites p g

-- The same of its code that isn't folded.
abbrev pub GeneralSlotsAreFew : Type 0
GeneralSlotsAreFew =
    (p : Program) (g : Function) → CallsAsOften p g (lower_function p g) → (shorts : Shorts) (result : Body) → IsGeneral shorts (lower_function p g) result →
    (place sizes : ℕ → ℕ) (shape : Shape) → sites (function_lines place sizes (is_marked result.marked) shape result.code) ≤ counts.call_sites p g

-- the sites in a variant's code
abbrev pub variant_slots : (place sizes : ℕ → ℕ) → Body → ℕ
variant_slots place sizes b = sites (function_lines place sizes (is_marked b.marked) (shape_of true b) b.code)

-- Together a function's own code and its variants have at most as many as it has call sites, once and once more for each assignment.
abbrev pub AllSlotsAreFew : Type 0
AllSlotsAreFew =
    (p : Program) (g : Function) → CallsAsOften p g (lower_function p g) → (folded own : Body) → IsFolded (lower_function p g) folded → IsRenamed folded own →
    (domains : List Domain) (rows : List Bound) (variants : Variants) → IsMerged domains rows variants →
    (shorts : Shorts) → AreMade shorts (lower_function p g) rows → (place sizes : ℕ → ℕ) → variant_slots place sizes own + sum_by (variant_slots place sizes) variants.bodies ≤ counts.call_sites p g * (1 + length rows)

-- Its variants alone have at most as many as it has call sites, once for each assignment.
abbrev pub VariantSlotsAreFew : Type 0
VariantSlotsAreFew =
    (p : Program) (g : Function) → CallsAsOften p g (lower_function p g) → (domains : List Domain) (rows : List Bound) (variants : Variants) → IsMerged domains rows variants →
    (shorts : Shorts) → AreMade shorts (lower_function p g) rows → (place sizes : ℕ → ℕ) → sum_by (variant_slots place sizes) variants.bodies ≤ counts.call_sites p g * length rows

-- ---- in a program

-- a number for each function, each at most so many
abbrev pub AtMost : (Function → ℕ) → List Function → List ℕ → Type 0
AtMost f [] [] = Unit {0}
AtMost f [] (n ∷ ns) = ⊥
AtMost f (g ∷ gs) [] = ⊥
AtMost f (g ∷ gs) (n ∷ ns) = (n ≤ f g) × AtMost f gs ns

-- Where each function's own code has no more sites than call sites, and the variants of each attributed one no more than these bounds, the entries and the words
-- of all slots are within what a plan can patch.
abbrev pub SlotsArePatchable : Type 0
SlotsArePatchable =
    (p : Program) (own variants : List ℕ) → AtMost (counts.call_sites p) p.functions own → AtMost (λ g. counts.call_sites p g * counts.assignments p g) (attributed_functions p) variants →
    length (attributed_functions p) + 2 * (sum own + sum variants) ≤ counts.patchable_places p
