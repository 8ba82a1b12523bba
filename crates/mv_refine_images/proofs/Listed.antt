-- Which code has which number among those that are linked, and what is closed to it.
use Rattle.std.proofs.Common.{◌≡◌, ℕ, zero, suc, ◌+◌, Bool, List, [], ◌∷◌, ◌++◌, Option, Some, map, take, length, slice_get, sum_by, refl, sym, ap, ◌∙◌, subst, arith}
use Rattle.std.specs.List.{flat_map}
use Rattle.std.proofs.lemmas.List.{length-append, length-map}
use Rattle.std.proofs.lemmas.List.Sums.{sum_by-cons}
use Rattle.mv_ast.specs.declared.program.Program.{Program}
use Rattle.mv_ast.specs.declared.program.Function.{Function}
use Rattle.mv_descriptors.specs.declared.rows.FunctionRow.{FunctionRow}
use Rattle.mv_linker.specs.declared.parts.Parts.{Parts}
use Rattle.mv_linker.specs.declared.parts.PartFunction.{PartFunction}
use Rattle.mv_linker.specs.declared.parts.PartVariant.{PartVariant}
use Rattle.mv_linker.specs.Linked.{codes, function_variants, variant_codes}
use Rattle.mv_linker.specs.Tables.{function_row}
use Rattle.mv_parts.proofs.Lists.{map_at}
use Rattle.mv_refine_images.specs.Closed.{is_closed_to_function, is_closed_to_variants_of, closed_to_variants, closed_to_codes}
use Rattle.mv_num.proofs.Lists.{slice_get_left}
use Rattle.std.proofs.lemmas.Option.{same_Some}

-- ---- elements of joined lists

pub behind_front : {X : Type 0} (xs ys : List X) (n i : ℕ) → n ≡ length xs + i → slice_get (xs ++ ys) n ≡ slice_get ys i
behind_front [] ys n i e = let same : n ≡ i = omega (arith, e) in ap (slice_get ys) same
behind_front (z ∷ xs) ys zero i e = absurd (omega (arith, e))
behind_front (z ∷ xs) ys (suc n) i e = behind_front xs ys n i (omega (arith, e))

-- an element of a list stands in one of two that are joined
pub in_either : {X : Type 0} (P : X → Type 0) (xs ys : List X) → ((i : ℕ) (x : X) → slice_get xs i ≡ Some x → P x) → ((i : ℕ) (x : X) → slice_get ys i ≡ Some x → P x) →
    (i : ℕ) (x : X) → slice_get (xs ++ ys) i ≡ Some x → P x
in_either P [] ys front behind i x e = behind i x e
in_either P (z ∷ xs) ys front behind zero x e = front 0 x e
in_either P (z ∷ xs) ys front behind (suc i) x e = in_either P xs ys (λ k w is. front (suc k) w is) behind i x e

-- ---- variants

-- how many variants some functions have
abbrev pub variants_of : List PartFunction → ℕ
variants_of attributed = sum_by (λ (a : PartFunction). length a.variants) attributed

-- rows of functions count their variants
pub rows_count : (address : ℕ → ℕ) (attributed : List PartFunction) (n : ℕ) → sum_by (λ (row : FunctionRow). row.variants) (take n (map (function_row address) attributed)) ≡ variants_of (take n attributed)
rows_count address [] zero = refl
rows_count address [] (suc n) = refl
rows_count address (a ∷ attributed) zero = refl
rows_count address (a ∷ attributed) (suc n) =
    let rows = take n (map (function_row address) attributed) in
    sum_by-cons (λ (row : FunctionRow). row.variants) (function_row address a) rows ∙ ap (λ k. length a.variants + k) (rows_count address attributed n)
    ∙ sym (sum_by-cons (λ (b : PartFunction). length b.variants) a (take n attributed))

module _ (p : Program) where
  abbrev tests : List PartFunction → List (ℕ → Bool)
  tests attributed = flat_map (closed_to_variants p) attributed

  as_many_variants : (attributed : List PartFunction) → length (tests attributed) ≡ length (variant_codes (function_variants attributed))
  as_many_variants [] = refl
  as_many_variants (a ∷ attributed) =
      let test = λ (v : PartVariant). is_closed_to_variants_of p (slice_get p.functions a.function) in
      let code = λ (v : PartVariant). v.code in
      length-append (closed_to_variants p a) (tests attributed)
      ∙ ap (λ n. n + length (tests attributed)) (length-map a.variants test)
      ∙ ap (λ n. length a.variants + n) (as_many_variants attributed ∙ length-map (function_variants attributed) code)
      ∙ sym (length-append a.variants (function_variants attributed)) ∙ sym (length-map (function_variants (a ∷ attributed)) code)

  -- a test for each code
  pub one_each : (parts : Parts) → length parts.functions ≡ length p.functions → length (closed_to_codes p parts) ≡ length (codes parts)
  one_each parts same =
      length-append (map (is_closed_to_function p) p.functions) (tests parts.attributed)
      ∙ ap (λ n. n + length (tests parts.attributed)) (length-map p.functions (is_closed_to_function p) ∙ sym same)
      ∙ ap (λ n. length parts.functions + n) (as_many_variants parts.attributed) ∙ sym (length-append parts.functions (variant_codes (function_variants parts.attributed)))

  -- that of a function stands at its number
  pub test_of_function : (parts : Parts) (f : ℕ) (g : Function) → slice_get p.functions f ≡ Some g → slice_get (closed_to_codes p parts) f ≡ Some (is_closed_to_function p g)
  test_of_function parts f g here = slice_get_left (map (is_closed_to_function p) p.functions) (tests parts.attributed) f (is_closed_to_function p g) (map_at (is_closed_to_function p) p.functions f g here)

  among : (attributed : List PartFunction) (n j : ℕ) (a : PartFunction) (v : PartVariant) → slice_get attributed n ≡ Some a → slice_get a.variants j ≡ Some v →
      slice_get (tests attributed) (variants_of (take n attributed) + j) ≡ Some (is_closed_to_variants_of p (slice_get p.functions a.function))
  among [] n j a v e at = absurd (cc e)
  among (b ∷ attributed) zero j a v e at =
      let same : b ≡ a = same_Some b a e in
      let test = λ (w : PartVariant). is_closed_to_variants_of p (slice_get p.functions a.function) in
      let none : 0 + j ≡ j = omega arith in
      subst (λ (c : PartFunction). slice_get (closed_to_variants p c ++ tests attributed) (0 + j) ≡ Some (is_closed_to_variants_of p (slice_get p.functions a.function))) (sym same)
      (ap (slice_get (closed_to_variants p a ++ tests attributed)) none ∙ slice_get_left (closed_to_variants p a) (tests attributed) j (test v) (map_at test a.variants j v at))
  among (b ∷ attributed) (suc n) j a v e at =
      let sum = sum_by-cons (λ (c : PartFunction). length c.variants) b (take n attributed) in
      let count = length-map b.variants (λ (w : PartVariant). is_closed_to_variants_of p (slice_get p.functions b.function)) in
      behind_front (closed_to_variants p b) (tests attributed) (variants_of (take (suc n) (b ∷ attributed)) + j) (variants_of (take n attributed) + j) (omega (arith, sum, count)) ∙ among attributed n j a v e at

  -- and that of a variant behind those of all functions and of the variants before it
  pub test_of_variant : (parts : Parts) → length parts.functions ≡ length p.functions → (n j f : ℕ) (g : Function) (a : PartFunction) (v : PartVariant) → slice_get parts.attributed n ≡ Some a →
      slice_get a.variants j ≡ Some v → a.function ≡ f → slice_get p.functions f ≡ Some g →
      slice_get (closed_to_codes p parts) (length parts.functions + variants_of (take n parts.attributed) + j) ≡ Some (is_closed_to_variants_of p (Some g))
  test_of_variant parts same n j f g a v there at is here =
      let count = length-map p.functions (is_closed_to_function p) in
      behind_front (map (is_closed_to_function p) p.functions) (tests parts.attributed) (length parts.functions + variants_of (take n parts.attributed) + j) (variants_of (take n parts.attributed) + j)
      (omega (arith, same, count))
      ∙ among parts.attributed n j a v there at ∙ ap (λ (o : Option Function). Some (is_closed_to_variants_of p o)) (ap (slice_get p.functions) is ∙ here)
