-- What is proved of fit worlds.
use Rattle.std.specs.Prelude.{◌≡◌, ◌↔◌, ◌⊎◌, ℕ, suc, ◌+◌, ◌<◌, ◌≤◌, All, IsTrue, true, List, [], ◌∷◌, map, length, Some, slice_get}
use Rattle.std.specs.List.{zip}
use Rattle.mv_ast.specs.declared.program.Program.{Program}
use Rattle.mv_ast.specs.declared.program.Function.{Function}
use Rattle.mv_ast.specs.declared.program.Known.{Known}
use Rattle.mv_bindings.specs.declared.binding.Binding.{Binding}
use Rattle.mv_ast.specs.Actions.{act_fits}
use Rattle.mv_ast.specs.Bindings.{are_bindings}
use Rattle.mv_ast.specs.Switches.{attributed_functions, attributed_before, switch_domain, switch_words, committed}
use Rattle.mv_bindings.specs.Bindings.{bound_to, free}
use Rattle.mv_ast.specs.Orders.{bindings_after}
use Rattle.mv_ast.specs.Starts.{first_world_under}
use Rattle.mv_bindings.specs.Acts.{Act}
use Rattle.mv_ir.specs.Combinations.{IsCombination}
use Rattle.mv_ir.specs.Levels.{frame_of_call}
use Rattle.mv_ir.specs.World.{World}
use Rattle.mv_ir.specs.KnownFunctions.{seen, known_answer}
use Rattle.mv_ir_worlds.specs.Fit.{AreBindings, IsFit, is_fit}
use Rattle.mv_ir_worlds.specs.Functions.{IsFreeIn, IsBoundIn}

-- The tests hold exactly where the records do.
abbrev pub FitIsTold : Type 0
FitIsTold = (p : Program) (w : World) → (is_fit p w ≡ true) ↔ IsFit p w

abbrev pub BindingsAreTold : Type 0
BindingsAreTold = (p : Program) (bs : List Binding) → (are_bindings p bs ≡ true) ↔ AreBindings p bs

-- A commit binds a function to the words of its switches where they are a combination of the domains, and else frees it.
abbrev pub CommitsAreToWords : Type 0
CommitsAreToWords =
    (p : Program) (globals : List (List ℕ)) (g : Function) →
    (IsCombination (map (switch_domain p) g.switches) (switch_words p globals g.switches) → committed p globals g ≡ bound_to (switch_words p globals g.switches))
    × ((IsCombination (map (switch_domain p) g.switches) (switch_words p globals g.switches) → ⊥) → committed p globals g ≡ free)

-- An order on any globals leaves bindings that may be, where there is one number for each function.
abbrev pub OrdersKeepFit : Type 0
OrdersKeepFit =
    (p : Program) (numbers : List ℕ) (code index : ℕ) (globals : List (List ℕ)) (bs : List Binding) → length numbers ≡ length p.functions →
    AreBindings p bs → AreBindings p (bindings_after p numbers code index globals bs)

-- A known function leaves a fit world.
abbrev pub KnownsKeepFit : Type 0
KnownsKeepFit =
    (p : Program) (numbers : List ℕ) (k : Known) (args : List ℕ) (live : ℕ) (w : World) → length numbers ≡ length p.functions →
    IsFit p w → IsFit p (known_answer p numbers k args live w).world

-- A program starts in a fit world.
abbrev pub FirstIsFit : Type 0
FirstIsFit =
    (p : Program) (numbers : List ℕ) (hart : ℕ) (input : List ℕ) (actions : List Act) → All (λ a. IsTrue (act_fits p hart a)) actions →
    IsFit p (seen (first_world_under p numbers hart input actions))

-- Where bindings may be, each attributed function is free, or bound to one value of each of its switches' domains.
abbrev pub FunctionsAreFreeOrBound : Type 0
FunctionsAreFreeOrBound =
    (p : Program) (bs : List Binding) (f : ℕ) (g : Function) → AreBindings p bs → slice_get p.functions f ≡ Some g → g.attributed ≡ true →
    IsFreeIn bs (attributed_before p.functions f) ⊎
    ((vs : List ℕ) × IsBoundIn bs (attributed_before p.functions f) vs × IsCombination (map (switch_domain p) g.switches) vs × (length vs ≡ length g.switches))

-- And each pointer switch is free, or bound to a function.
abbrev pub PointersAreFreeOrBound : Type 0
PointersAreFreeOrBound =
    (p : Program) (bs : List Binding) (q g : ℕ) → AreBindings p bs → slice_get p.pointers q ≡ Some g →
    IsFreeIn bs (length (attributed_functions p) + q) ⊎ ((f : ℕ) × IsBoundIn bs (length (attributed_functions p) + q) (suc f ∷ []) × (f < length p.functions))

-- The frame of a function that is free reads nothing as bound.
abbrev pub FramesOfFree : Type 0
FramesOfFree =
    (n : ℕ) (switches : List ℕ) (depth live : ℕ) (w : World) → IsFreeIn w.bindings n →
    frame_of_call (Some n) switches depth live w ≡ record { depth = depth + 1; live = live + 1; bound = [] }

-- And that of one that is bound reads each of its switches, at most 6, as its value.
abbrev pub FramesOfBound : Type 0
FramesOfBound =
    (n : ℕ) (switches vs : List ℕ) (depth live : ℕ) (w : World) → IsBoundIn w.bindings n vs → length vs ≡ length switches → length vs ≤ 6 →
    frame_of_call (Some n) switches depth live w ≡ record { depth = depth + 1; live = live + 1; bound = zip switches vs }
