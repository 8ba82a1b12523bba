-- What may be bound to what, as tests.
use Rattle.std.specs.Prelude.{ℕ, suc, ◌-◌, Bool, true, false, ◌&&◌, ◌||◌, not, List, [], ◌∷◌, map, take, length, Option, Some, None, nat_eq, nat_lt, slice_get, slice_index}
use Rattle.mv_num.specs.Kinds.{kind_number}
use Rattle.mv_ast.specs.declared.program.CType.{CType}
use Rattle.mv_ast.specs.declared.program.CType.TheVariants.{Void, Scalar, Pointer}
use Rattle.mv_ast.specs.declared.program.Program.{Program}
use Rattle.mv_ast.specs.declared.program.Global.{Global}
use Rattle.mv_ast.specs.declared.program.Signature.{Signature}
use Rattle.mv_ast.specs.declared.program.Function.{Function}
use Rattle.mv_bindings.specs.declared.binding.Binding.{Binding}
use Rattle.mv_ast.specs.Switches.{attributed_functions, switch_domain, pointer_bindings}
use Rattle.mv_bindings.specs.Bindings.{bound_to, is_same_binding}

-- whether one of some values passes
abbrev pub some_value : (ℕ → Bool) → List ℕ → Bool
some_value test [] = false
some_value test (v ∷ vs) = test v || some_value test vs

-- whether one of the combinations of some domains passes
abbrev pub some_combination : (List ℕ → Bool) → List (List ℕ) → Bool
some_combination test [] = test []
some_combination test (d ∷ ds) = some_value (λ v. some_combination (λ vs. test (v ∷ vs)) ds) d

-- whether a binding is free, or binds a function to a combination of its switches' domains
abbrev pub is_binding : Program → Function → Binding → Bool
is_binding p g b = not b.bound || some_combination (λ vs. is_same_binding b (bound_to vs)) (map (switch_domain p) g.switches)

-- the function to which a binding of a pointer switch binds it
abbrev pub function_in : Binding → ℕ
function_in b = slice_index b.values 0 - 1

-- whether a binding is free, or binds a pointer switch to a function of the program
abbrev pub is_pointer_binding : Program → (global : ℕ) → Binding → Bool
is_pointer_binding p g b =
    not b.bound || (is_same_binding b (bound_to (suc (function_in b) ∷ [])) && nat_lt (function_in b) (length p.functions))

-- as many bindings as there are to be, each of which passes
abbrev pub each_passes : {A : Type 0} → (A → Binding → Bool) → List A → List Binding → Bool
each_passes test [] [] = true
each_passes test [] (b ∷ bs) = false
each_passes test (x ∷ xs) [] = false
each_passes test (x ∷ xs) (b ∷ bs) = test x b && each_passes test xs bs

-- whether the first bindings pass, one for each of some functions, and those behind them, one for each pointer switch
abbrev pub are_bindings_of : Program → List Function → List Binding → Bool
are_bindings_of p [] bs = each_passes (is_pointer_binding p) p.pointers bs
are_bindings_of p (g ∷ gs) [] = false
are_bindings_of p (g ∷ gs) (b ∷ bs) = is_binding p g b && are_bindings_of p gs bs

abbrev pub are_bindings : Program → List Binding → Bool
are_bindings p bs = are_bindings_of p (attributed_functions p) bs

-- ---- types

abbrev pub is_same_type : CType → CType → Bool
is_same_type Void Void = true
is_same_type (Scalar k) (Scalar m) = nat_eq (kind_number k) (kind_number m)
is_same_type (Pointer s) (Pointer t) = nat_eq s t
is_same_type _ _ = false

abbrev pub are_same_types : List CType → List CType → Bool
are_same_types [] [] = true
are_same_types (t ∷ ts) (u ∷ us) = is_same_type t u && are_same_types ts us
are_same_types _ _ = false

-- whether a function has the type that a signature says
abbrev pub has_signature : Option Signature → Option Function → Bool
has_signature (Some s) (Some f) = is_same_type s.result f.result && are_same_types s.params (map (λ l. l.ctype) (take f.params f.locals))
has_signature _ _ = false

-- whether a pointer of a type may lead to a function, and one that a global is
abbrev pub is_of_type : Program → (function : ℕ) → CType → Bool
is_of_type p f Void = false
is_of_type p f (Scalar k) = false
is_of_type p f (Pointer s) = has_signature (slice_get p.signatures s) (slice_get p.functions f)

abbrev pub is_of_global : Program → (function : ℕ) → Option Global → Bool
is_of_global p f None = false
is_of_global p f (Some g) = is_of_type p f g.ctype

-- whether each bound pointer switch is bound to a function of its type
abbrev pub is_typed_binding : Program → (global : ℕ) → Binding → Bool
is_typed_binding p g b = not b.bound || is_of_global p (function_in b) (slice_get p.globals g)

abbrev pub are_typed_bindings : Program → List Binding → Bool
are_typed_bindings p bs = each_passes (is_typed_binding p) p.pointers (pointer_bindings p bs)
