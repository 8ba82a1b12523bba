-- What each attributed function and each pointer switch is bound to, a line for each.
use Rattle.std.specs.Prelude.{ℕ, ◌+◌, ◌-◌, List, [], ◌∷◌, ◌++◌, codes, length, drop, slice_index, slice_index_or, if◌then◌else◌}
use Rattle.mv_bindings.specs.declared.binding.Binding.{Binding}
use Rattle.mv_bindings.specs.Bindings.{free}
use Rattle.mv_descriptors.specs.declared.rows.FunctionRow.{FunctionRow}
use Rattle.mv_descriptors.specs.declared.rows.PointerRow.{PointerRow}
use Rattle.mv_image.specs.Spelling.{Fields}
use Rattle.mv_image.specs.Patched.{kind_of}
use Rattle.mv_list.specs.Numbers.{value_text}
use Rattle.mv_list.specs.Listing.{switch_name, function_name, pointer_name, target_name, own_switches}

-- the values of some switches, from the i-th of the binding on
unfoldable pub held_text : Fields → Binding → ℕ → List ℕ → List ℕ
held_text image binding i [] = []
held_text image binding i (switch ∷ switches) =
    codes " " ++ (switch_name image switch ++ (codes "=" ++ (value_text (kind_of image switch) (slice_index binding.values i) ++ held_text image binding (i + 1) switches)))

abbrev pub bound_text : Fields → List ℕ → Binding → List ℕ
bound_text image switches binding = if binding.bound then held_text image binding 0 switches else codes " free"

unfoldable pub binding_line : Fields → ℕ → FunctionRow → Binding → List ℕ
binding_line image n row binding = codes "binding " ++ (function_name image n ++ (bound_text image (own_switches row) binding ++ codes "\n"))

-- the functions from the n-th on; one without a binding is free
unfoldable pub bindings_from : Fields → List Binding → ℕ → List FunctionRow → List ℕ
bindings_from image bound n [] = []
bindings_from image bound n (row ∷ rows) = binding_line image n row (slice_index_or bound n free) ++ bindings_from image bound (n + 1) rows

-- the value of a pointer switch's binding is one more than the target's number
abbrev pub pointed_text : Fields → Binding → List ℕ
pointed_text image binding = if binding.bound then codes " -> " ++ target_name image (slice_index binding.values 0 - 1) else codes " free"

unfoldable pub pointed_line : Fields → ℕ → Binding → List ℕ
pointed_line image n binding = codes "binding " ++ (pointer_name image n ++ (pointed_text image binding ++ codes "\n"))

-- the pointer switches from the n-th on; one without a binding is free
unfoldable pub pointed_from : Fields → List Binding → ℕ → List PointerRow → List ℕ
pointed_from image bound n [] = []
pointed_from image bound n (row ∷ rows) = pointed_line image n (slice_index_or bound n free) ++ pointed_from image bound (n + 1) rows

-- the bindings of the pointer switches stand behind those of the functions
abbrev pub bindings_text : Fields → List Binding → List ℕ
bindings_text image bound = bindings_from image bound 0 image.functions ++ pointed_from image (drop (length image.functions) bound) 0 image.pointers
