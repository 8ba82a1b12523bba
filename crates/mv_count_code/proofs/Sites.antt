-- The sites in the code of a program's functions and variants.
use Rattle.std.proofs.Common.{arith, ◌≡◌, ℕ, zero, suc, ◌+◌, ◌*◌, ◌≤◌, Bool, true, false, cond, List, [], ◌∷◌, length, map, Some, refl, sym, subst}
use Rattle.std.specs.Prelude.{sum, slice_get}
use Rattle.std.specs.List.{filter}
use Rattle.std.proofs.Math.Nat.{mul-le-mul_right, mul_comm, suc-mul}
use Rattle.mv_ast.specs.declared.program.Program.{Program}
use Rattle.mv_ast.specs.declared.program.Function.{Function}
use Rattle.mv_ast.specs.Counts.{call_sites, assignments}
use Rattle.mv_ast.specs.Switches.{attributed_functions}
use Rattle.mv_isa.specs.declared.labelled.Labelled.{Labelled}
use Rattle.mv_ir.specs.declared.body.Body.{Body}
use Rattle.mv_select.specs.Functions.Functions.{shape_of}
use Rattle.mv_select_code.specs.Control.Layouts.{size_in}
use Rattle.mv_select_code.specs.Trees.Rooms.{place_in}
use Rattle.mv_lower_spec.specs.Shape.Law.{IsFunctionOf, LoweredCallAsOften}
use Rattle.mv_variants.specs.Bound.Slots.{sites, AtMost, SlotsAreFew, OwnSlotsAreFew, GeneralSlotsAreFew, SlotsArePatchable}
use Rattle.mv_select.specs.Selected.{selected_lines}
use Rattle.mv_count_code.specs.Sizes.{IsBodyOf, general, folded, bound}
use Rattle.mv_count_code.specs.Texts.{SlotsAreFewInCode, AreVariantCodes, slots_in, SlotsAreCounted, SitesAreFew}
use Rattle.mv_num.proofs.Lists.{sum_cons}

module _ (often : LoweredCallAsOften) (general_few : GeneralSlotsAreFew) (folded_few : OwnSlotsAreFew) (bound_few : SlotsAreFew) where
  body_slots : (p : Program) (f : ℕ) (g : Function) → IsFunctionOf p f g → (b : Body) → IsBodyOf p g b → (attributed : Bool) → sites (selected_lines attributed b) ≤ call_sites p g
  body_slots p f g h b (general m) attributed = general_few p g (often p f g h) m.shorts b m.general (place_in b.rooms) (size_in b.rooms) (shape_of attributed b)
  body_slots p f g h b (folded body i r) attributed = folded_few p g (often p f g h) body b i r (place_in b.rooms) (size_in b.rooms) (shape_of attributed b)
  body_slots p f g h b (bound ps m) attributed = bound_few p g (often p f g h) m.shorts ps b m.made (place_in b.rooms) (size_in b.rooms) (shape_of attributed b)

  pub code_slots : SlotsAreFewInCode
  code_slots p f g h code c = subst (λ lines. sites lines ≤ call_sites p g) (sym c.items) (body_slots p f g h c.body c.of c.attributed)

-- ---- sums

pub at_most : {A : Type 0} (f : Function → ℕ) (n : A → ℕ) (gs : List Function) (xs : List A) → length xs ≡ length gs →
    ((i : ℕ) (g : Function) (x : A) → slice_get gs i ≡ Some g → slice_get xs i ≡ Some x → n x ≤ f g) → AtMost f gs (map n xs)
at_most f n [] [] e h = tt
at_most f n [] (x ∷ xs) e h = absurd (omega (arith, e))
at_most f n (g ∷ gs) [] e h = absurd (omega (arith, e))
at_most f n (g ∷ gs) (x ∷ xs) e h = (h 0 g x refl refl, at_most f n gs xs (omega (arith, e)) (λ i k y a b. h (suc i) k y a b))

sum_most : {A : Type 0} (n : A → ℕ) (most : ℕ) (xs : List A) → ((i : ℕ) (x : A) → slice_get xs i ≡ Some x → n x ≤ most) → sum (map n xs) ≤ length xs * most
sum_most n most [] h = omega arith
sum_most n most (x ∷ xs) h =
    let rest = sum_most n most xs (λ i y e. h (suc i) y e) in
    let all : suc (length xs) * most ≡ length xs * most + most = suc-mul (length xs) most in
    omega (arith, rest, h 0 x refl, all, sum_cons (n x) (map n xs))

-- an attributed function is one of the functions
abbrev pub IsOne : Function → List Function → Type 0
IsOne g gs = (f : ℕ) × (slice_get gs f ≡ Some g)

next : (x g : Function) (gs : List Function) → IsOne g gs → IsOne g (x ∷ gs)
next x g gs (f, there) = (suc f, there)

pub one_of : (gs : List Function) (n : ℕ) (g : Function) → slice_get (filter (λ g. g.attributed) gs) n ≡ Some g → IsOne g gs
one_of [] n g e = absurd (cc)
one_of (x ∷ gs) n g e = by x.attributed n (λ m d. next x g gs (one_of gs m g d)) e
  where
    by : (b : Bool) (n : ℕ) → ((m : ℕ) → slice_get (filter (λ g. g.attributed) gs) m ≡ Some g → IsOne g (x ∷ gs)) →
        slice_get (cond b (x ∷ filter (λ g. g.attributed) gs) (filter (λ g. g.attributed) gs)) n ≡ Some g → IsOne g (x ∷ gs)
    by true zero rest e = (0, e)
    by true (suc n) rest e = rest n e
    by false n rest e = rest n e

pub slots_counted : SlotsAreFewInCode → SlotsArePatchable → SitesAreFew → SlotsAreCounted
slots_counted few within in_all p formed own variants codes variant_codes =
    let own_sites = map (λ (code : Labelled). sites code.items) own in
    let first =
    at_most (call_sites p) (λ (code : Labelled). sites code.items) p.functions own codes.one_each (λ f g code there is. few p f g (record { formed = formed; there = there }) code (codes.each f g code there is))
    in
    let second = at_most (λ g. call_sites p g * assignments p g) slots_in (attributed_functions p) variants variant_codes.one_each (λ n g cs there is. of_variants n g cs there (variant_codes.each n g cs there is)) in
    (in_all p own_sites (map slots_in variants) first second, within p own_sites (map slots_in variants) first second)
  where
    of_variants : (n : ℕ) (g : Function) (cs : List Labelled) → slice_get (attributed_functions p) n ≡ Some g → AreVariantCodes p g cs → slots_in cs ≤ call_sites p g * assignments p g
    of_variants n g cs there h =
        let (f, at) = one_of p.functions n g there in
        let each = sum_most (λ (code : Labelled). sites code.items) (call_sites p g) cs (λ i code e. few p f g (record { formed = formed; there = at }) code (h.each i code e)) in
        let more : length cs * call_sites p g ≤ assignments p g * call_sites p g = mul-le-mul_right (call_sites p g) h.few in
        let turned : assignments p g * call_sites p g ≡ call_sites p g * assignments p g = mul_comm (assignments p g) (call_sites p g) in
        omega (arith, each, more, turned)
