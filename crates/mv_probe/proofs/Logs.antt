-- Probes are told some events and then some more.
use Rattle.std.proofs.Common.{◌≡◌, ℕ, ◌<◌, ◌≤◌, ◌+◌, ◌-◌, List, [], ◌∷◌, ◌++◌, length, length-append, All, Option, Some, None, option_map, IfSome, refl, sym, subst, ◌∙◌, ap, arith, append_assoc, append-nil, take, take_all, get_or}
use Rattle.std.proofs.lemmas.List.{take_more}
use Rattle.mv_bindings.specs.declared.binding.Event.{Event}
use Rattle.mv_probe.specs.Hearing.{Hearing, rest_of, IsPatient, Becomes}
use Rattle.mv_probe.specs.Fates.{Fates}
use Rattle.mv_probe.proofs.Fortunes.{fates_then, fates_same, fates_all}

abbrev Below : ℕ → Option ℕ → Type 0
Below n p = IfSome p (λ k. n < k)

abbrev UpTo : ℕ → Option ℕ → Type 0
UpTo n p = IfSome p (λ k. k ≤ n)

stays_more : (p q : Option ℕ) (m n s : ℕ) → s ≡ m + n → q ≡ rest_of p m → Below m p → Below n q → Below s p
stays_more None q m n s sum e a b = tt
stays_more (Some k) q m n s sum e a b = let b' : n < k - m = subst (λ x. Below n x) e b in omega (arith, sum, a, b')

rest_more : (p q r : Option ℕ) (m n s : ℕ) → s ≡ m + n → q ≡ rest_of p m → r ≡ rest_of q n → r ≡ rest_of p s
rest_more None q r m n s sum e d = d ∙ ap (λ x. rest_of x n) e
rest_more (Some k) q r m n s sum e d = let left : k - m - n ≡ k - s = omega (arith, sum) in d ∙ ap (λ x. rest_of x n) e ∙ ap Some left

leaves_more : (p : Option ℕ) (m n s : ℕ) → s ≡ m + n → UpTo m p → UpTo s p
leaves_more None m n s sum a = tt
leaves_more (Some k) m n s sum a = omega (arith, sum, a)

leaves_later : (p q : Option ℕ) (m n s : ℕ) → s ≡ m + n → q ≡ rest_of p m → UpTo n q → UpTo s p
leaves_later None q m n s sum e b = tt
leaves_later (Some k) q m n s sum e b = let b' : k - m ≤ n = subst (λ x. UpTo n x) e b in omega (arith, sum, b')

told_more : (p q r : Option (List Event)) (xs ys : List Event) → q ≡ option_map (λ before. before ++ xs) p → r ≡ option_map (λ before. before ++ ys) q → r ≡ option_map (λ before. before ++ (xs ++ ys)) p
told_more None q r xs ys e d = d ∙ ap (λ x. option_map (λ before. before ++ ys) x) e
told_more (Some told) q r xs ys e d = d ∙ ap (λ x. option_map (λ before. before ++ ys) x) e ∙ ap Some (append_assoc told xs ys)

told_none : (p : Option (List Event)) → p ≡ option_map (λ before. before ++ []) p
told_none None = refl
told_none (Some told) = ap Some (sym (append-nil told))

rest_none : (p : Option ℕ) → p ≡ rest_of p 0
rest_none None = refl
rest_none (Some k) = let same : k ≡ k - 0 = omega arith in ap Some same

patient_later : (p q : Option ℕ) (m : ℕ) → q ≡ rest_of p m → Below m p → Below 0 q
patient_later None q m e a = subst (λ x. Below 0 x) (sym e) tt
patient_later (Some k) q m e a = let left : 0 < k - m = omega (arith, a) in subst (λ x. Below 0 x) (sym e) left

module _ {P K : Type 0} (object : P → K) (of : P → Hearing) where
  -- no event changes nothing
  pub told_nothing : (probes : List P) → All (λ probe. IsPatient (of probe)) probes → Fates (Becomes object of []) probes probes
  told_nothing probes all = fates_same (Becomes object of []) (λ probe. IsPatient (of probe)) (λ x patient. (patient, (told_none (of x).told, rest_none (of x).patience), refl)) probes all

  -- each that is left has patience
  pub patient_after : (events : List Event) (was now : List P) → Fates (Becomes object of events) was now → All (λ probe. IsPatient (of probe)) now
  patient_after events was now f = fates_all (Becomes object of events) (λ probe. IsPatient (of probe)) (λ x y s. patient_later (of x).patience (of y).patience (length events) s.1.1 s.0) was now f

  -- some events and then some more
  pub told_then : (xs ys : List Event) (was now after : List P) → Fates (Becomes object of xs) was now → Fates (Becomes object of ys) now after → Fates (Becomes object of (xs ++ ys)) was after
  told_then xs ys was now after f s =
      let sum : length (xs ++ ys) ≡ length xs + length ys = length-append xs ys in
      fates_then (Becomes object of xs) (Becomes object of ys) (Becomes object of (xs ++ ys))
      (λ x r. (omega (arith, sum, r.0), leaves_more (of x).patience (length xs) (length ys) (length (xs ++ ys)) sum r.1))
      (λ x y r t. (omega (arith, sum, t.0), leaves_later (of x).patience (of y).patience (length xs) (length ys) (length (xs ++ ys)) sum r.1.1 t.1))
      (λ x y z r t. (
        stays_more (of x).patience (of y).patience (length xs) (length ys) (length (xs ++ ys)) sum r.1.1 r.0 t.0,
        (
          told_more (of x).told (of y).told (of z).told xs ys r.1.0 t.1.0,
          rest_more (of x).patience (of y).patience (of z).patience (length xs)
              (length ys) (length (xs ++ ys)) sum r.1.1 t.1.1,
        ),
        t.2 ∙ r.2,
      ))
      was now after f s

  -- the events up to a place, and then the one at the place
  pub told_next : (events : List Event) (place : ℕ) (other : Event) (was now after : List P) → place < length events
      → Fates (Becomes object of (take place events)) was now → Fates (Becomes object of (get_or events place other ∷ [])) now after
      → Fates (Becomes object of (take (place + 1) events)) was after
  told_next events place other was now after lt f s = subst (λ l. Fates (Becomes object of l) was after) (sym (take_more events place other lt)) (told_then (take place events) (get_or events place other ∷ []) was now after f s)

  pub told_whole : (events : List Event) (place : ℕ) (was now : List P) → length events ≤ place → Fates (Becomes object of (take place events)) was now → Fates (Becomes object of events) was now
  told_whole events place was now le f = subst (λ l. Fates (Becomes object of l) was now) (take_all place events le) f
