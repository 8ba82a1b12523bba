-- Fit worlds: what a commit may bind, and what polls may take.
use Rattle.std.specs.Prelude.{◌≡◌, ◌⊎◌, ℕ, suc, ◌+◌, ◌<◌, Bool, true, ◌&&◌, All, List, [], ◌∷◌, map, length, Some, slice_get}
use Rattle.std.specs.List.{list_all}
use Rattle.mv_ast.specs.declared.program.Program.{Program}
use Rattle.mv_ast.specs.declared.program.Function.{Function}
use Rattle.mv_bindings.specs.declared.binding.Binding.{Binding}
use Rattle.mv_ast.specs.Actions.{act_fits}
use Rattle.mv_ast.specs.Bindings.{are_bindings}
use Rattle.mv_ast.specs.Switches.{attributed_functions, switch_domain}
use Rattle.mv_bindings.specs.Bindings.{bound_to}
use Rattle.mv_bindings.specs.Acts.{Act}
use Rattle.mv_ir.specs.Combinations.{IsCombination}
use Rattle.mv_ir.specs.World.{World}

-- how many bindings there are: one for each attributed function, and one for each pointer switch
abbrev pub bindings_of : Program → ℕ
bindings_of p = length (attributed_functions p) + length p.pointers

-- an attributed function may be bound to one value of each domain of its switches
abbrev pub IsFunctionBound : Program → Function → List ℕ → Type 0
IsFunctionBound p g vs = IsCombination (map (switch_domain p) g.switches) vs

-- a pointer switch may be bound to a function, by one more than its number
abbrev pub IsPointerBound : Program → (global : ℕ) → List ℕ → Type 0
IsPointerBound p g vs = (f : ℕ) × (f < length p.functions) × (vs ≡ suc f ∷ [])

-- The n-th of what a commit binds may be bound to these values: it is the n-th attributed function, or a pointer switch, which count on behind these.
abbrev pub MayBind : Program → (n : ℕ) → List ℕ → Type 0
MayBind p n vs =
    ((g : Function) × (slice_get (attributed_functions p) n ≡ Some g) × IsFunctionBound p g vs)
    ⊎ ((q g : ℕ) × (n ≡ length (attributed_functions p) + q) × (slice_get p.pointers q ≡ Some g) × IsPointerBound p g vs)

-- There is a binding for each of these, and it is free or binds to such values.
pub record AreBindings (p : Program) (bs : List Binding) : Type 0 where
  pub count : length bs ≡ bindings_of p
  pub bound : (n : ℕ) (b : Binding) → slice_get bs n ≡ Some b → b.bound ≡ true → (vs : List ℕ) × (b ≡ bound_to vs) × MayBind p n vs

-- A world has such bindings, and all that polls are still to take fits its hart.
pub record IsFit (p : Program) (w : World) : Type 0 where
  pub bindings : AreBindings p w.bindings
  pub actions : All (λ (a : Act). act_fits p w.hart a ≡ true) w.actions

-- The same as a test. It looks at nothing but the bindings, the hart and the actions.
abbrev pub is_fit : Program → World → Bool
is_fit p w = are_bindings p w.bindings && list_all (act_fits p w.hart) w.actions
