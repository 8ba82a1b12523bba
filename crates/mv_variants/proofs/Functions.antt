-- What a well-formed program gives of an attributed function and its switches.
use Rattle.std.proofs.Common.{arith, ◌≡◌, ◌≢◌, ℕ, suc, ◌<◌, ◌≤◌, Bool, true, List, [], ◌∷◌, All, length, map, get_or, Option, Some, None, refl, ap, subst}
use Rattle.std.specs.Prelude.{slice_get, AllPairs, if◌then◌else◌}
use Rattle.std.proofs.lemmas.Option.{slice_get_within, get_or_from_slice_get}
use Rattle.mv_ast.specs.declared.program.Program.{Program}
use Rattle.mv_ast.specs.declared.program.Function.{Function}
use Rattle.mv_ast.specs.declared.program.Switch.{Switch}
use Rattle.mv_ast.specs.Switches.{attributed_functions, attributed_before, switch_domain, values_or_none}
use Rattle.mv_ast.specs.Counts.{is_attributed, product_of, assignments}
use Rattle.mv_ir.specs.Combinations.{Fresh, AllApart, AreDomains}
use Rattle.mv_ir_worlds.proofs.Functions.{attributed_at}
use Rattle.mv_source_forms.specs.WellFormed.{IsWellFormed, IsWellFormedSwitch}

-- an attributed function, by its number
pub record IsAttributed (p : Program) (f : ℕ) : Type 0 where
  pub function : Function
  pub there : slice_get p.functions f ≡ Some function
  pub attributed : function.attributed ≡ true

pub attributed_there : (p : Program) (f : ℕ) → is_attributed (slice_get p.functions f) ≡ true → IsAttributed p f
attributed_there p f h = by (slice_get p.functions f) refl h
  where
    by : (o : Option Function) → slice_get p.functions f ≡ o → is_attributed o ≡ true → IsAttributed p f
    by None e h = absurd (cc)
    by (Some g) e h = record { function = g; there = e; attributed = h }

-- ---- domains

fresh : (x : ℕ) (xs : List ℕ) → ((i d : ℕ) → i < length xs → x ≢ get_or xs i d) → Fresh x xs
fresh x [] h = tt
fresh x (y ∷ ys) h =
    let first : 0 < suc (length ys) = omega arith in
    (h 0 0 first, fresh x ys (λ i d below. let more : suc i < suc (length ys) = omega (arith, below) in h (suc i) d more))

all_apart : (xs : List ℕ) → AllPairs (λ m n. m ≢ n) xs → AllApart xs
all_apart [] h = tt
all_apart (x ∷ xs) h = (
  fresh x xs (λ i d below. let first : 0 < suc i = omega arith in let more : suc i < suc (length xs) = omega (arith, below) in h 0 (suc i) d first more),
  all_apart xs (λ i j d before below. let later : suc i < suc j = omega (arith, before) in let more : suc j < suc (length xs) = omega (arith, below) in h (suc i) (suc j) d later more),
)

module _ (p : Program) (formed : IsWellFormed p) where
  domain_apart : (s : ℕ) → AllApart (switch_domain p s)
  domain_apart s = by (slice_get p.switches s) refl
    where
      by : (o : Option Switch) → slice_get p.switches s ≡ o → AllApart (values_or_none o)
      by None e = tt
      by (Some x) e =
          let at : IsWellFormedSwitch p x = subst (IsWellFormedSwitch p) (get_or_from_slice_get p.switches s x x e) (formed.switches s x (slice_get_within p.switches s x e)) in
          all_apart x.values at.different

  pub are_domains : (switches : List ℕ) → AreDomains (map (switch_domain p) switches)
  are_domains [] = tt
  are_domains (s ∷ switches) = (domain_apart s, are_domains switches)

  -- ---- limits

  module _ (f : ℕ) (g : Function) (there : slice_get p.functions f ≡ Some g) (attributed : g.attributed ≡ true) where
    one_of : (P : Function → Type 0) → All P (attributed_functions p) → P g
    one_of P h =
        let at = attributed_at p.functions f g there attributed in
        let gs = attributed_functions p in
        let n = attributed_before p.functions f in
        subst P (get_or_from_slice_get gs n g g at) (h n g (slice_get_within gs n g at))

    pub few_switches : length g.switches ≤ 6
    few_switches = one_of (λ (x : Function). length x.switches ≤ 6) formed.limits.own_switches

    pub few_assignments : product_of (map (λ s. length (switch_domain p s)) g.switches) ≤ 64
    few_assignments =
        let n = product_of (map (λ s. length (switch_domain p s)) g.switches) in
        subst (λ (b : Bool). (if b then n else 0) ≤ 64) attributed (one_of (λ (x : Function). assignments p x ≤ 64) formed.limits.assignments)

    pub assignments_are : assignments p g ≡ product_of (map (λ s. length (switch_domain p s)) g.switches)
    assignments_are = ap (λ b. if b then product_of (map (λ s. length (switch_domain p s)) g.switches) else 0) attributed
