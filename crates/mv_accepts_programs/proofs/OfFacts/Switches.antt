-- The switches among some objects are different globals, and their domains have values.
use Rattle.std.proofs.Common.{◌≢◌, ℕ, suc, ◌<◌, ◌≤◌, ◌++◌, arith, sym, subst, List, [], ◌∷◌, Option, Some, None, AllPairs}
use Rattle.std.specs.List.{AllByRecursion}
use Rattle.std.proofs.lemmas.List.Elements.{All-from_recursion}
use Rattle.std.proofs.lemmas.List.Kept.{AllPairs-cons}
use Rattle.mv_ast.specs.declared.program.Switch.{Switch}
use Rattle.mv_types.specs.declared.contents.Object.{Object}
use Rattle.mv_types.specs.Contents.{switch_of, switches_from}
use Rattle.mv_accepts.proofs.OfStatements.Lists.{all_append, all_more}
use Rattle.mv_accepts_programs.proofs.OfIdentifiers.Phrases.{IfSome, HasSome}
use Rattle.mv_accepts_programs.proofs.OfFacts.Declarators.{IsWrittenObject}

abbrev pub HasDomain : Switch → Type 0
HasDomain s = HasSome s.values

one_has : (n : ℕ) (domain : Option (List ℕ)) → IfSome HasSome domain → AllByRecursion HasDomain (switch_of n domain)
one_has n None h = tt
one_has n (Some vs) h = (h, tt)

pub domains_some : (n : ℕ) (os : List Object) → AllByRecursion IsWrittenObject os → AllByRecursion HasDomain (switches_from n os)
domains_some n [] h = tt
domains_some n (o ∷ os) h = all_append HasDomain (switch_of n o.domain) (switches_from (suc n) os) (one_has n o.domain h.0.1) (domains_some (suc n) os h.1)

-- ---- numbers of globals

abbrev IsFrom : ℕ → Switch → Type 0
IsFrom n s = n ≤ s.global

one_from : (n : ℕ) (domain : Option (List ℕ)) → AllByRecursion (IsFrom n) (switch_of n domain)
one_from n None = tt
one_from n (Some vs) = (omega arith, tt)

all_from : (n : ℕ) (os : List Object) → AllByRecursion (IsFrom n) (switches_from n os)
all_from n [] = tt
all_from n (o ∷ os) =
    all_append (IsFrom n) (switch_of n o.domain) (switches_from (suc n) os) (one_from n o.domain)
    (all_more (IsFrom (suc n)) (IsFrom n) (λ s h. omega (arith, h)) (switches_from (suc n) os) (all_from (suc n) os))

abbrev pub AreApart : Switch → Switch → Type 0
AreApart s t = s.global ≢ t.global

other : (m n : ℕ) → m < n → m ≢ n
other m n h q = no (subst (λ k. m < k) (sym q) h)
  where
    no : m < m → ⊥
    no h = omega (arith, h)

pub all_apart : (n : ℕ) (os : List Object) → AllPairs AreApart (switches_from n os)
all_apart n [] = λ i j d h k. absurd (omega (arith, k))
all_apart n (o ∷ os) = by o.domain (all_apart (suc n) os)
  where
    by : (domain : Option (List ℕ)) → AllPairs AreApart (switches_from (suc n) os) → AllPairs AreApart (switch_of n domain ++ switches_from (suc n) os)
    by None rest = rest
    by (Some vs) rest =
        let s : Switch = record { global = n; values = vs } in
        AllPairs-cons AreApart s (switches_from (suc n) os)
        (All-from_recursion (AreApart s) (switches_from (suc n) os)
        (all_more (IsFrom (suc n)) (AreApart s) (λ t h. other n t.global (omega (arith, h))) (switches_from (suc n) os) (all_from (suc n) os)))
        rest
