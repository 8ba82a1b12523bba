-- Bindings, when two are the same, and the events that tell of those that differ.
use Rattle.std.specs.Prelude.{ℕ, suc, Bool, true, false, ◌&&◌, not, List, [], ◌∷◌, ◌++◌, length, min, take, replicate, if◌then◌else◌, nat_eq}
use Rattle.mv_num.specs.Limits.{own_switch_limit}
use Rattle.mv_bindings.specs.declared.binding.Binding.{Binding}
use Rattle.mv_bindings.specs.declared.binding.Event.{Event}

-- the binding of what is bound to nothing
abbrev pub free : Binding
free = record { bound = false; count = 0; values = replicate own_switch_limit 0 }

-- the binding to the values of the switches of a function
abbrev pub bound_to : List ℕ → Binding
bound_to vs = record { bound = true; count = min own_switch_limit (length vs); values = take own_switch_limit (vs ++ replicate own_switch_limit 0) }

abbrev pub same_words : List ℕ → List ℕ → Bool
same_words [] [] = true
same_words [] (y ∷ ys) = false
same_words (x ∷ xs) [] = false
same_words (x ∷ xs) (y ∷ ys) = nat_eq x y && same_words xs ys

abbrev pub same_truth : Bool → Bool → Bool
same_truth true b = b
same_truth false b = not b

-- whether two bindings are the same
abbrev pub is_same_binding : Binding → Binding → Bool
is_same_binding a b = same_truth a.bound b.bound && (nat_eq a.count b.count && same_words a.values b.values)

-- one event for each binding that differs, in order
abbrev pub events_from : ℕ → List Binding → List Binding → List Event
events_from i [] new = []
events_from i (a ∷ old) [] = []
events_from i (a ∷ old) (b ∷ new) =
    (if is_same_binding a b then [] else record { function = i; binding = b } ∷ []) ++ events_from (suc i) old new
