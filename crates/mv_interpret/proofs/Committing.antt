-- The bindings that an order leaves, and their events.
use Rattle.std.proofs.Common.{◌≡◌, ℕ, suc, ◌+◌, ◌≤◌, ◌<◌, Bool, true, false, cond, List, [], ◌∷◌, length, length-append, drop, refl, arith, filter}
use Rattle.std.proofs.lemmas.List.{drop_more, drop_all}
use Rattle.mv_ast.specs.declared.program.Program.{Program}
use Rattle.mv_ast.specs.declared.program.Function.{Function}
use Rattle.mv_bindings.specs.declared.binding.Binding.{Binding}
use Rattle.mv_ast.specs.Numbering.{own_numbers}
use Rattle.mv_ast.specs.Switches.{all_in_domain, pointer_bindings, attributed_functions}
use Rattle.mv_ast.specs.Orders.{bound_from, ordered_from, ordered_function, ordered_pointer, bindings_after, is_addressed, is_pointer_addressed}

pub all_in_domain-end : (p : Program) (ss vs : List ℕ) (i : ℕ) → i < length ss → length vs ≤ i →
    all_in_domain p (drop i ss) (drop i vs) ≡ true
all_in_domain-end p ss vs i hs hv = rw (drop_more ss i 0 hs, drop_all i vs hv) refl

length-ordered : {A : Type 0} (addressed : ℕ → A → Bool) (next : A → Binding) (i : ℕ) (fs : List A) (bs : List Binding) →
    length (ordered_from addressed next i fs bs) ≤ length fs
length-ordered addressed next i [] bs = omega arith
length-ordered addressed next i (f ∷ fs) [] = omega arith
length-ordered addressed next i (f ∷ fs) (b ∷ bs) = let h = length-ordered addressed next (suc i) fs bs in omega arith

-- where no bindings are left none is bound
pub bound_none : {A : Type 0} (addressed : ℕ → A → Bool) (i : ℕ) (xs : List A) → bound_from addressed i xs [] ≡ 0
bound_none addressed i [] = refl
bound_none addressed i (x ∷ xs) = refl

pub length-attributed : (fs : List Function) → length (filter (λ f. f.attributed) fs) ≤ length fs
length-attributed [] = omega arith
length-attributed (f ∷ fs) =
    let h = length-attributed fs in
    let P : Bool → Type 0 = λ b. length (cond b (f ∷ filter (λ f. f.attributed) fs) (filter (λ f. f.attributed) fs)) ≤ suc (length fs) in
    elim f.attributed as P [ true ↦ omega arith | false ↦ omega arith ]

-- an order leaves no more bindings than there are functions and pointer switches
pub length-bindings_after : (p : Program) (code index : ℕ) (globals : List (List ℕ)) (bs : List Binding) →
    length (bindings_after p (own_numbers p) code index globals bs) ≤ length p.functions + length p.pointers
length-bindings_after p code index globals bs =
    let functions = ordered_from (is_addressed code index) (ordered_function p code globals) 0 (attributed_functions p) bs in
    let pointers = ordered_from (is_pointer_addressed p code index) (ordered_pointer (own_numbers p) code globals) 0 p.pointers (pointer_bindings p bs) in
    let h = length-ordered (is_addressed code index) (ordered_function p code globals) 0 (attributed_functions p) bs in
    let q = length-ordered (is_pointer_addressed p code index) (ordered_pointer (own_numbers p) code globals) 0 p.pointers (pointer_bindings p bs) in
    let k : length (attributed_functions p) ≤ length p.functions = length-attributed p.functions in
    let both = length-append functions pointers in
    omega (arith, h, q, k, both)
