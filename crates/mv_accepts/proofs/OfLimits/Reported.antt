-- What no limit is reported of is within all limits.
use Rattle.std.proofs.Common.{◌≡◌, ℕ, ◌≤◌, Bool, true, false, refl, arith, if◌then◌else◌, List, [], ◌∷◌, ◌++◌, map, length, nat_lt, Option, Some, None}
use Rattle.std.proofs.lemmas.List.Elements.{All-from_recursion, All-filter}
use Rattle.std.specs.List.{All, AllByRecursion, filter, flat_map}
use Rattle.mv_ast.specs.declared.program.Program.{Program}
use Rattle.mv_ast.specs.declared.program.Function.{Function}
use Rattle.mv_ast.specs.declared.program.Local.{Local}
use Rattle.mv_ast.specs.Counts.{words_of_size, assignments, elements_of}
use Rattle.mv_check_limits.specs.Limits.{Limit, own_switches, first_above, excess, first_some, limits, first_exceeded, global_sizes, local_sizes}
use Rattle.mv_check_limits.proofs.Bounds.{first_at_most}
use Rattle.mv_check_limits.proofs.Orders.{none_first, not_exceeded}
use Rattle.mv_source_forms.specs.WellFormed.{program_nodes, IsWithinLimits}

-- ---- no report

none_exceeded : (ls : List Limit) → first_some (map excess ls) ≡ None → AllByRecursion (λ (l : Limit). first_above l.greatest l.counts ≡ None) ls
none_exceeded [] h = tt
none_exceeded (l ∷ ls) h = let p = none_first (excess l) (map excess ls) h in (not_exceeded l p.0, none_exceeded ls p.1)

-- ---- counts of which none is above a bound

at_most : {X : Type 0} (count : X → ℕ) (n : ℕ) (xs : List X) → first_above n (map count xs) ≡ None → AllByRecursion (λ x. count x ≤ n) xs
at_most count n [] h = tt
at_most count n (x ∷ xs) h = let p = first_at_most n (count x) _ h in (p.0, at_most count n xs p.1)

all_at_most : {X : Type 0} (count : X → ℕ) (n : ℕ) (xs : List X) → first_above n (map count xs) ≡ None → All (λ x. count x ≤ n) xs
all_at_most count n xs h = All-from_recursion (λ x. count x ≤ n) xs (at_most count n xs h)

parted : (n : ℕ) (xs ys : List ℕ) → first_above n (xs ++ ys) ≡ None → (first_above n xs ≡ None) × (first_above n ys ≡ None)
parted n [] ys h = (refl, h)
parted n (x ∷ xs) ys h = by (nat_lt n x) (λ g. parted n xs ys g) h
  where
    by : (b : Bool) → (first_above n (xs ++ ys) ≡ None → (first_above n xs ≡ None) × (first_above n ys ≡ None)) →
        (if b then Some x else first_above n (xs ++ ys)) ≡ None → ((if b then Some x else first_above n xs) ≡ None) × (first_above n ys ≡ None)
    by true rest g = absurd (cc)
    by false rest g = rest g

-- ---- elements

words_few : (size : Option ℕ) → elements_of size ≤ 262144 → words_of_size size ≤ 262144
words_few None h = omega arith
words_few (Some n) h = h

sizes_few : {X : Type 0} (size : X → Option ℕ) (xs : List X) → first_above 262144 (map (λ x. elements_of (size x)) xs) ≡ None →
    AllByRecursion (λ x. words_of_size (size x) ≤ 262144) xs
sizes_few size [] h = tt
sizes_few size (x ∷ xs) h =
    let p = first_at_most 262144 (elements_of (size x)) _ h in (words_few (size x) p.0, sizes_few size xs p.1)

all_sizes_few : {X : Type 0} (size : X → Option ℕ) (xs : List X) → first_above 262144 (map (λ x. elements_of (size x)) xs) ≡ None →
    All (λ x. words_of_size (size x) ≤ 262144) xs
all_sizes_few size xs h = All-from_recursion (λ x. words_of_size (size x) ≤ 262144) xs (sizes_few size xs h)

abbrev FewElements : Function → Type 0
FewElements f = All (λ l. words_of_size l.size ≤ 262144) f.locals

locals_few : (fs : List Function) → first_above 262144 (flat_map (λ f. map (λ l. elements_of l.size) f.locals) fs) ≡ None → AllByRecursion FewElements fs
locals_few [] h = tt
locals_few (f ∷ fs) h =
    let p = parted 262144 (map (λ l. elements_of l.size) f.locals) (flat_map (λ f. map (λ l. elements_of l.size) f.locals) fs) h in
    (all_sizes_few (λ (l : Local). l.size) f.locals p.0, locals_few fs p.1)

-- ---- attributed functions

switches_few : (n : ℕ) (fs : List Function) → AllByRecursion (λ f. own_switches f ≤ n) fs → AllByRecursion (λ g. length g.switches ≤ n) (filter (λ f. f.attributed) fs)
switches_few n [] h = tt
switches_few n (f ∷ fs) h = by f.attributed (switches_few n fs h.1) h.0
  where
    by : (b : Bool) → AllByRecursion (λ (g : Function). length g.switches ≤ n) (filter (λ f. f.attributed) fs) → (if b then length f.switches else 0) ≤ n →
        AllByRecursion (λ (g : Function). length g.switches ≤ n) (if b then f ∷ filter (λ f. f.attributed) fs else filter (λ f. f.attributed) fs)
    by true rest k = (k, rest)
    by false rest k = rest

pub within_all : (p : Program) → first_exceeded p ≡ None → program_nodes p ≤ 16777216 → IsWithinLimits p
within_all p h few =
    let all = none_exceeded (limits p) h in
    let parameters = parted 8 (map (λ s. length s.params) p.signatures) (map (λ f. f.params) p.functions) all.1.1.0 in
    let sizes = parted 262144 (global_sizes p) (local_sizes p) all.1.1.1.1.1.1.1.0 in
    record {
      functions = (at_most (λ (n : ℕ). n) 1000 (length p.functions ∷ []) all.0).0;
      globals = (at_most (λ (n : ℕ). n) 4096 (length p.globals ∷ []) all.1.0).0;
      parameters = all_at_most (λ (f : Function). f.params) 8 p.functions parameters.1;
      pointed_parameters = all_at_most (λ s. length s.params) 8 p.signatures parameters.0;
      switches = (at_most (λ (n : ℕ). n) 64 (length p.switches ∷ []) all.1.1.1.0).0;
      pointers = (at_most (λ (n : ℕ). n) 64 (length p.pointers ∷ []) all.1.1.1.1.1.1.1.1.0).0;
      domains = all_at_most (λ s. length s.values) 16 p.switches all.1.1.1.1.0;
      own_switches = All-from_recursion (λ (g : Function). length g.switches ≤ 6) (filter (λ f. f.attributed) p.functions) (switches_few 6 p.functions (at_most own_switches 6 p.functions all.1.1.1.1.1.0));
      assignments = All-filter (λ (f : Function). f.attributed) (λ g. assignments p g ≤ 64) p.functions (all_at_most (assignments p) 64 p.functions all.1.1.1.1.1.1.0);
      global_elements = all_sizes_few (λ g. g.size) p.globals sizes.0;
      local_elements = All-from_recursion FewElements p.functions (locals_few p.functions sizes.1);
      nodes = few;
    }
