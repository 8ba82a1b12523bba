-- What a commit or a revert does, by the tables of an image and the words of its switches and pointer switches in memory.
use Rattle.std.specs.Prelude.{ℕ, suc, ◌+◌, ◌==◌, Bool, ◌&&◌, ◌||◌, not, List, [], ◌∷◌, ◌++◌, map, take, drop, length, replicate, is_some, Option, Some, None, if◌then◌else◌, nat_eq, nat_lt, slice_get, unwrap_or, option_and_then}
use Rattle.std.specs.Result.{result_ok}
use Rattle.std.specs.List.{position}
use Rattle.mv_bindings.specs.declared.binding.Binding.{Binding}
use Rattle.mv_bindings.specs.OrderNumbers as orders
use Rattle.mv_num.specs.Lists.{is_among}
use Rattle.mv_bindings.specs.OrderNumbers.{is_commit}
use Rattle.mv_bindings.specs.Bindings.{free, bound_to}
use Rattle.mv_descriptors.specs.declared.rows.SwitchRow.{SwitchRow}
use Rattle.mv_descriptors.specs.declared.rows.FunctionRow.{FunctionRow}
use Rattle.mv_descriptors.specs.declared.rows.PointerRow.{PointerRow}
use Rattle.mv_descriptors.specs.declared.rows.TargetRow.{TargetRow}
use Rattle.mv_fetch.specs.Held.{Held, load}
use Rattle.mv_image.specs.Spelling.{Fields}
use Rattle.mv_image.specs.Patched.{Bindings, fitting_variant}
use Rattle.mv_patch.specs.declared.order.Order.{Order}
use Rattle.mv_patch.specs.declared.order.Order.TheVariants.{CommitAll, RevertAll, CommitFunction, RevertFunction, CommitRefs, RevertRefs}

-- ---- orders, by their codes

abbrev pub code_of : Order → ℕ
code_of CommitAll = orders.commit
code_of RevertAll = orders.revert
code_of (CommitFunction f) = orders.commit_function
code_of (RevertFunction f) = orders.revert_function
code_of (CommitRefs s) = orders.commit_references
code_of (RevertRefs s) = orders.revert_references

-- the number of its function, or that of its switch, behind which the pointer switches count on; and 0 where it addresses all
abbrev pub index_of : Order → ℕ
index_of CommitAll = 0
index_of RevertAll = 0
index_of (CommitFunction f) = f
index_of (RevertFunction f) = f
index_of (CommitRefs s) = s
index_of (RevertRefs s) = s

-- whether there is an order with a code, and the image has the function, or the switch or pointer switch
unfoldable pub is_known_order : Fields → (code index : ℕ) → Bool
is_known_order image code index =
    nat_lt code orders.commit_function || (if nat_lt code orders.commit_references then nat_lt index (length image.functions)
    else nat_lt code orders.count && nat_lt index (length image.switches + length image.pointers))

-- whether an order addresses a function, given with its number
abbrev pub is_ordered : (code index : ℕ) → ℕ → FunctionRow → Bool
is_ordered code index i row =
    nat_lt code orders.commit_function || (if nat_lt code orders.commit_references then nat_eq i index else is_among index (take row.count row.switches))

-- whether it addresses a pointer switch, given with its number among them
abbrev pub is_pointer_ordered : Fields → (code index : ℕ) → ℕ → PointerRow → Bool
is_pointer_ordered image code index q row =
    nat_lt code orders.commit_function || (not (nat_lt code orders.commit_references) && nat_eq (length image.switches + q) index)

-- ---- bindings

-- one for each function, and then one for each pointer switch
abbrev pub binding_count : Fields → ℕ
binding_count image = length image.functions + length image.pointers

-- those of the pointer switches
abbrev pub pointer_bindings : Fields → List Binding → List Binding
pointer_bindings image bs = drop (length image.functions) bs

-- the values that a function's switches are bound to, none where it is free
abbrev pub bound_values : Binding → Option (List ℕ)
bound_values b = if b.bound then Some (take b.count b.values) else None

abbrev pub values_of : List Binding → Bindings
values_of bindings function = option_and_then bound_values (slice_get bindings function)

-- at the start all are free
abbrev pub first_bindings : Fields → List Binding
first_bindings image = replicate (binding_count image) free

-- the word of a switch in memory
abbrev pub word_in : Held → Option SwitchRow → ℕ
word_in held None = 0
word_in held (Some row) = unwrap_or (result_ok (load held row.address 4)) 0

-- the words of a function's switches
abbrev pub words_of_switches : Fields → Held → FunctionRow → List ℕ
words_of_switches image held row = map (λ (s : ℕ). word_in held (slice_get image.switches s)) (take row.count row.switches)

-- what a commit binds a function to: its switches' words where a variant fits them, and else nothing
abbrev pub bound_now : Fields → Held → (function : ℕ) → FunctionRow → Binding
bound_now image held function row =
    let words = words_of_switches image held row in if is_some (fitting_variant image function words) then bound_to words else free

-- what an order binds an addressed function to
abbrev pub next_binding : Fields → Held → (code function : ℕ) → FunctionRow → Binding
next_binding image held code function row = if is_commit code then bound_now image held function row else free

-- the word of a pointer switch in memory
abbrev pub pointer_word : Held → PointerRow → ℕ
pointer_word held row = unwrap_or (result_ok (load held row.address 4)) 0

-- the binding to a target by its number
abbrev pub bound_to_target : Option ℕ → Binding
bound_to_target None = free
bound_to_target (Some t) = bound_to (suc t ∷ [])

-- what a commit binds a pointer switch to: the first target whose entry is its word, and else nothing
abbrev pub pointed_now : Fields → Held → PointerRow → Binding
pointed_now image held row = bound_to_target (position (λ (target : TargetRow). target.entry == pointer_word held row) image.targets)

-- what an order binds an addressed pointer switch to
abbrev pub next_pointer : Fields → Held → (code q : ℕ) → PointerRow → Binding
next_pointer image held code q row = if is_commit code then pointed_now image held row else free

-- the bindings after an order of some functions, or of some pointer switches, from the i-th on
abbrev pub ordered_rows : {A : Type 0} → (addressed : ℕ → A → Bool) → (next : ℕ → A → Binding) → ℕ → List A → List Binding → List Binding
ordered_rows addressed next i [] bs = []
ordered_rows addressed next i (row ∷ rows) [] = []
ordered_rows addressed next i (row ∷ rows) (b ∷ bs) = (if addressed i row then next i row else b) ∷ ordered_rows addressed next (suc i) rows bs

unfoldable pub bindings_ordered : Fields → Held → (code index : ℕ) → List Binding → List Binding
bindings_ordered image held code index bs =
    ordered_rows (is_ordered code index) (next_binding image held code) 0 image.functions bs
    ++ ordered_rows (is_pointer_ordered image code index) (next_pointer image held code) 0 image.pointers (pointer_bindings image bs)

-- how many of them are addressed and bound
abbrev pub bound_rows : {A : Type 0} → (addressed : ℕ → A → Bool) → ℕ → List A → List Binding → ℕ
bound_rows addressed i [] bs = 0
bound_rows addressed i (row ∷ rows) [] = 0
bound_rows addressed i (row ∷ rows) (b ∷ bs) = (if addressed i row && b.bound then 1 else 0) + bound_rows addressed (suc i) rows bs

-- the answer to an order, by the bindings behind it
unfoldable pub answer_after : Fields → (code index : ℕ) → List Binding → ℕ
answer_after image code index bs =
    if is_commit code
    then bound_rows (is_ordered code index) 0 image.functions bs + bound_rows (is_pointer_ordered image code index) 0 image.pointers (pointer_bindings image bs)
    else 0
