-- The log of a run, a line for each changed binding.
use Rattle.std.specs.Prelude.{ℕ, ◌-◌, List, [], ◌∷◌, ◌++◌, codes, length, nat_lt, slice_get, if◌then◌else◌}
use Rattle.std.specs.Option.{option_map_or}
use Rattle.mv_bindings.specs.declared.binding.Event.{Event}
use Rattle.mv_image.specs.Spelling.{Fields}
use Rattle.mv_list.specs.Bindings.{held_text, pointed_text}
use Rattle.mv_list.specs.Listing.{function_name, pointer_name, own_switches}

-- the switches of the function with this number
abbrev pub switches_of : Fields → ℕ → List ℕ
switches_of image function = option_map_or own_switches (slice_get image.functions function) []

-- the name of a function, or of a pointer switch, which count on behind the functions
abbrev pub bound_name : Fields → ℕ → List ℕ
bound_name image number =
    if nat_lt number (length image.functions) then function_name image number else pointer_name image (number - length image.functions)

-- what it is bound to: a function to a value of each of its switches, and a pointer switch to a target
abbrev pub bound_to_text : Fields → Event → List ℕ
bound_to_text image event =
    if nat_lt event.function (length image.functions) then held_text image event.binding 0 (switches_of image event.function) else pointed_text image event.binding

-- it is bound, or it is free
abbrev pub news_text : Fields → Event → List ℕ
news_text image event =
    if event.binding.bound
    then codes "bound " ++ (bound_name image event.function ++ bound_to_text image event)
    else codes "freed " ++ bound_name image event.function

unfoldable pub events_text : Fields → List Event → List ℕ
events_text image [] = []
events_text image (event ∷ events) = news_text image event ++ (codes "\n" ++ events_text image events)
