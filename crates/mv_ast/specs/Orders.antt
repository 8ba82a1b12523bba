-- What a commit, a revert and a poll do.
use Rattle.std.specs.Prelude.{ℕ, suc, ◌+◌, ◌-◌, ◌^◌, Bool, ◌&&◌, ◌||◌, not, List, [], ◌∷◌, ◌++◌, length, if◌then◌else◌, nat_eq, nat_lt}
use Rattle.mv_ast.specs.declared.program.Program.{Program}
use Rattle.mv_ast.specs.declared.program.Function.{Function}
use Rattle.mv_bindings.specs.declared.binding.Binding.{Binding}
use Rattle.mv_bindings.specs.OrderNumbers as orders
use Rattle.mv_ast.specs.Worlds.{World}
use Rattle.mv_bindings.specs.Acts.{Act, Skip, Flip, Adopt}
use Rattle.mv_bindings.specs.Bindings.{free, events_from}
use Rattle.mv_bindings.specs.OrderNumbers.{is_commit}
use Rattle.mv_num.specs.Lists.{is_among}
use Rattle.mv_ast.specs.Switches.{attributed_functions, switch_global, with_word, committed, pointed, pointer_bindings}

-- whether an order addresses an attributed function, given with its number among them: the first two address all, the next
-- two one, the others those that have a switch
abbrev pub is_addressed : (code index : ℕ) → ℕ → Function → Bool
is_addressed code index i f =
    nat_lt code orders.commit_function || (if nat_lt code orders.commit_references then nat_eq i index else is_among index f.switches)

-- whether it addresses a pointer switch, given with its number among them: the first two address all, the last two that one whose index
-- they have behind the switches
abbrev pub is_pointer_addressed : Program → (code index : ℕ) → ℕ → (global : ℕ) → Bool
is_pointer_addressed p code index i g =
    nat_lt code orders.commit_function || (not (nat_lt code orders.commit_references) && nat_eq (length p.switches + i) index)

-- the bindings after an order of some functions, or of some pointer switches, from the i-th on
abbrev pub ordered_from : {A : Type 0} → (ℕ → A → Bool) → (A → Binding) → ℕ → List A → List Binding → List Binding
ordered_from addressed next i [] bs = []
ordered_from addressed next i (f ∷ fs) [] = []
ordered_from addressed next i (f ∷ fs) (b ∷ bs) =
    (if addressed i f then next f else b) ∷ ordered_from addressed next (suc i) fs bs

-- how many of them are addressed and bound
abbrev pub bound_from : {A : Type 0} → (ℕ → A → Bool) → ℕ → List A → List Binding → ℕ
bound_from addressed i [] bs = 0
bound_from addressed i (f ∷ fs) [] = 0
bound_from addressed i (f ∷ fs) (b ∷ bs) =
    (if addressed i f && b.bound then 1 else 0) + bound_from addressed (suc i) fs bs

-- what an order binds an addressed function to, and an addressed pointer switch

abbrev pub ordered_function : Program → (code : ℕ) → List (List ℕ) → Function → Binding
ordered_function p code globals f = if is_commit code then committed p globals f else free

abbrev pub ordered_pointer : (numbers : List ℕ) → (code : ℕ) → List (List ℕ) → (global : ℕ) → Binding
ordered_pointer numbers code globals g = if is_commit code then pointed numbers globals g else free

-- the bindings after an order on these globals, in which function pointers are written by a numbering
abbrev pub bindings_after : Program → (numbers : List ℕ) → (code index : ℕ) → List (List ℕ) → List Binding → List Binding
bindings_after p numbers code index globals bs =
    ordered_from (is_addressed code index) (ordered_function p code globals) 0 (attributed_functions p) bs
    ++ ordered_from (is_pointer_addressed p code index) (ordered_pointer numbers code globals) 0 p.pointers (pointer_bindings p bs)

-- how many of what an order addresses are bound
abbrev pub bound_after : Program → (code index : ℕ) → List Binding → ℕ
bound_after p code index bs =
    bound_from (is_addressed code index) 0 (attributed_functions p) bs
    + bound_from (is_pointer_addressed p code index) 0 p.pointers (pointer_bindings p bs)

-- the world with new bindings, and the events of those that differ
abbrev pub rebound : World → List Binding → World
rebound w bs = record w { bindings = bs; log = w.log ++ events_from 0 w.bindings bs }

-- an answer, with the world that it leaves
pub record Answered : Type 0 where
  pub answer : ℕ
  pub world : World

-- whether a commit or a revert may change anything: in hart 0 alone, and while no frame of an attributed function is live
abbrev pub may_commit : World → Bool
may_commit w = nat_eq w.hart 0 && nat_eq w.live 0

-- a commit or a revert, refused with -1 where nothing may change
abbrev pub ordered : Program → (numbers : List ℕ) → (code index : ℕ) → World → Answered
ordered p numbers code index w =
    let bs = bindings_after p numbers code index w.globals w.bindings in
    if may_commit w
    then record { answer = if is_commit code then bound_after p code index bs else 0; world = rebound w bs }
    else record { answer = 2 ^ 32 - 1; world = w }

-- the world after a flip: the value is stored in the switch, and all functions and pointer switches are committed
abbrev pub flipped : Program → (numbers : List ℕ) → (switch value : ℕ) → World → World
flipped p numbers s v w =
    (ordered p numbers orders.commit 0 (record w { globals = with_word w.globals (switch_global p s) 0 v })).world

-- what a poll does that takes the next of these
abbrev pub acted : Program → (numbers : List ℕ) → List Act → World → Answered
acted p numbers [] w = record { answer = 0; world = w }
acted p numbers (Skip ∷ rest) w = record { answer = 0; world = record w { actions = rest } }
acted p numbers (Flip s v ∷ rest) w = record { answer = 1; world = flipped p numbers s v (record w { actions = rest }) }
acted p numbers (Adopt bs ∷ rest) w = record { answer = 1; world = rebound (record w { actions = rest }) bs }

-- a poll takes nothing while a frame of an attributed function is live
abbrev pub polled : Program → (numbers : List ℕ) → World → Answered
polled p numbers w = if nat_eq w.live 0 then acted p numbers w.actions w else record { answer = 0; world = w }
