-- What the switches of a program are bound to: the bindings of its functions and pointer switches, and what is read and called under them.
use Rattle.std.specs.Prelude.{ℕ, suc, ◌-◌, Bool, true, ◌&&◌, List, [], ◌∷◌, ◌++◌, map, length, take, drop, filter, count_by, Option, Some, None, if◌then◌else◌, nat_eq, slice_get, slice_set, slice_index, unwrap_or}
use Rattle.mv_ast.specs.declared.program.Program.{Program}
use Rattle.mv_ast.specs.declared.program.Function.{Function}
use Rattle.mv_ast.specs.declared.program.Switch.{Switch}
use Rattle.mv_bindings.specs.declared.binding.Binding.{Binding}
use Rattle.mv_ast.specs.Numbering.{place_from, function_of_number}
use Rattle.mv_ast.specs.Worlds.{World}
use Rattle.mv_bindings.specs.Bindings.{free, bound_to}
use Rattle.mv_num.specs.Lists.{is_among}

-- the attributed functions, in order of declaration
abbrev pub attributed_functions : Program → List Function
attributed_functions p = filter (λ f. f.attributed) p.functions

-- the number of attributed functions among the first so many
abbrev pub attributed_before : List Function → ℕ → ℕ
attributed_before fs n = count_by (λ f. f.attributed) (take n fs)

-- ---- switches

abbrev pub global_or_none : Option Switch → ℕ
global_or_none None = 0
global_or_none (Some s) = s.global

abbrev pub values_or_none : Option Switch → List ℕ
values_or_none None = []
values_or_none (Some s) = s.values

-- the global that a switch is
abbrev pub switch_global : Program → ℕ → ℕ
switch_global p s = global_or_none (slice_get p.switches s)

-- the values of its domain
abbrev pub switch_domain : Program → ℕ → List ℕ
switch_domain p s = values_or_none (slice_get p.switches s)

abbrev pub words_or_none : Option (List ℕ) → List ℕ
words_or_none None = []
words_or_none (Some words) = words

-- a word of an object, the object being one of a list
abbrev pub word_at : List (List ℕ) → ℕ → ℕ → ℕ
word_at objects which i = unwrap_or (slice_get (words_or_none (slice_get objects which)) i) 0

-- the objects with one word changed
abbrev pub with_word : List (List ℕ) → ℕ → ℕ → ℕ → List (List ℕ)
with_word objects which i v = slice_set objects which (slice_set (words_or_none (slice_get objects which)) i v)

-- the number in memory of each of some switches
abbrev pub switch_words : Program → List (List ℕ) → List ℕ → List ℕ
switch_words p globals switches = map (λ s. word_at globals (switch_global p s) 0) switches

-- whether each value is in the domain of its switch
abbrev pub all_in_domain : Program → List ℕ → List ℕ → Bool
all_in_domain p [] vs = true
all_in_domain p (s ∷ ss) [] = true
all_in_domain p (s ∷ ss) (v ∷ vs) = is_among v (switch_domain p s) && all_in_domain p ss vs

-- ---- bindings

-- one for each attributed function and for each pointer switch, all free
abbrev pub all_free : Program → List Binding
all_free p = map (λ f. free) (attributed_functions p) ++ map (λ g. free) p.pointers

-- what a commit binds a function to
abbrev pub committed : Program → List (List ℕ) → Function → Binding
committed p globals f =
    let vs = switch_words p globals f.switches in
    if all_in_domain p f.switches vs then bound_to vs else free

-- the binding of a pointer switch to a function
abbrev pub bound_to_function : Option ℕ → Binding
bound_to_function None = free
bound_to_function (Some f) = bound_to (suc f ∷ [])

-- what a commit binds a pointer switch to: the function that has the number in memory
abbrev pub pointed : (numbers : List ℕ) → List (List ℕ) → (global : ℕ) → Binding
pointed numbers globals g = bound_to_function (function_of_number numbers (word_at globals g 0))

-- ---- reads of globals

-- the value that goes with a global among some switches
abbrev pub value_among : Program → ℕ → List ℕ → List ℕ → Option ℕ
value_among p g [] vs = None
value_among p g (s ∷ ss) [] = None
value_among p g (s ∷ ss) (v ∷ vs) = if nat_eq g (switch_global p s) then Some v else value_among p g ss vs

-- the value that a binding gives to a global of a function
abbrev pub binding_value : Program → Function → Option Binding → ℕ → Option ℕ
binding_value p f None g = None
binding_value p f (Some b) g = if b.bound then value_among p g f.switches b.values else None

-- the value that a global is bound to in a frame of a function
abbrev pub bound_value : Program → List Binding → ℕ → Option Function → ℕ → Option ℕ
bound_value p bs function None g = None
bound_value p bs function (Some f) g =
    if f.attributed then binding_value p f (slice_get bs (attributed_before p.functions function)) g else None

-- A read of a word of a global in a frame of a function: a switch of a bound function has the bound value, all else the value in memory.
abbrev pub global_read : Program → World → (function : ℕ) → (global i : ℕ) → ℕ
global_read p w function g i =
    unwrap_or (bound_value p w.bindings function (slice_get p.functions function) g) (word_at w.globals g i)

-- ---- calls through pointer switches

-- the number of a pointer switch among the bindings, by its global: it counts on behind the attributed functions
abbrev pub pointer_number : Program → (global : ℕ) → Option ℕ
pointer_number p g = place_from (length (attributed_functions p)) p.pointers g

-- the function to which a pointer switch is bound, where it is
abbrev pub bound_function : Option Binding → Option ℕ
bound_function None = None
bound_function (Some b) = if b.bound then Some (slice_index b.values 0 - 1) else None

abbrev pub called_number : (numbers : List ℕ) → Option ℕ → ℕ → ℕ
called_number numbers None v = v
called_number numbers (Some f) v = slice_index numbers f

-- The number in a pointer switch as a call through it sees it, in each frame: one that is bound has the number of its function, one
-- that is free the number in memory.
abbrev pub called_word : (numbers : List ℕ) → List Binding → List (List ℕ) → (binding global : ℕ) → ℕ
called_word numbers bs globals n g = called_number numbers (bound_function (slice_get bs n)) (word_at globals g 0)

-- the bindings of the pointer switches, which stand behind those of the attributed functions
abbrev pub pointer_bindings : Program → List Binding → List Binding
pointer_bindings p bs = drop (length (attributed_functions p)) bs
