-- Facts that hold, one after the other.
use Rattle.std.proofs.Common.{◌≡◌, ◌≢◌, ℕ, ◌+◌, ◌<◌, ◌≤◌, List, [], ◌∷◌, ◌++◌, length, get_or, take, sym, subst, arith}
use Rattle.std.specs.Prelude.{slice_index}
use Rattle.std.proofs.Math.Seq.{get_or-append_seam}
use Rattle.std.proofs.Math.ListN.{get_or-append}
use Rattle.std.proofs.lemmas.List.{length-append, take_all, take_more}
use Rattle.std.proofs.lemmas.List.Elements.{All-push}
use Rattle.mv_ir.specs.Outcome.{State}
use Rattle.mv_ranges.specs.declared.facts.Fact.{Fact}
use Rattle.mv_ranges.specs.declared.facts.Fact.TheVariants.{Within, Below}
use Rattle.mv_ranges.specs.declared.range.Range.{Range}
use Rattle.mv_ranges.specs.Ranges.{IsIn}
use Rattle.mv_ranges.specs.Facts.{Holds, AllHold, temp_of, AreSameBut, AreAsLong}

left : (s : State) (xs ys : List Fact) → AllHold s (xs ++ ys) → AllHold s xs
left s xs ys h k d lt = subst (Holds s) (get_or-append xs ys d k lt) (h k d (omega (arith, lt, length-append xs ys)))

last : (s : State) (xs : List Fact) (x : Fact) → AllHold s (xs ++ (x ∷ [])) → Holds s x
last s xs x h = subst (Holds s) (get_or-append_seam xs x [] x) (h (length xs) x (omega (arith, length-append xs (x ∷ []))))

-- facts up to a place, and the one at it
pub up_to : (s : State) (facts : List Fact) (i : ℕ) (d : Fact) → i < length facts → AllHold s (take (i + 1) facts) → AllHold s (take i facts) × Holds s (get_or facts i d)
up_to s facts i d lt h =
    let h' = subst (AllHold s) (take_more facts i d lt) h in
    (left s (take i facts) (get_or facts i d ∷ []) h', last s (take i facts) (get_or facts i d) h')

pub through : (s : State) (facts : List Fact) (i : ℕ) (d : Fact) → i < length facts → AllHold s (take i facts) → Holds s (get_or facts i d) → AllHold s (take (i + 1) facts)
through s facts i d lt h k = subst (AllHold s) (sym (take_more facts i d lt)) (All-push (Holds s) (take i facts) (get_or facts i d) h k)

pub whole : (s : State) (facts : List Fact) (i : ℕ) → length facts ≤ i → AllHold s (take i facts) → AllHold s facts
whole s facts i le h = subst (AllHold s) (take_all i facts le) h

pub parts : (s : State) (facts : List Fact) (i : ℕ) → length facts ≤ i → AllHold s facts → AllHold s (take i facts)
parts s facts i le h = subst (AllHold s) (sym (take_all i facts le)) h

pub pushed : (s : State) (kept : List Fact) (f : Fact) → AllHold s kept → Holds s f → AllHold s (kept ++ (f ∷ []))
pushed s kept f h k = All-push (Holds s) kept f h k

-- a fact of another temporary stays
pub stays : (s s' : State) (t : ℕ) (f : Fact) → temp_of f ≢ t → AreSameBut t s s' → AreAsLong s s' → Holds s f → Holds s' f
stays s s' t (Within u r) ne but long h = subst (IsIn r) (sym (but u ne)) h
stays s s' t (Below u a) ne but long h = omega (arith, but u ne, long a, h)

-- a turn of a loop that keeps a fact, or doesn't
pub kept_one : (s s' : State) (facts kept kept' : List Fact) (i : ℕ) (d : Fact) → i < length facts → AllHold s (take (i + 1) facts) → (AllHold s (take i facts) → AllHold s' kept) →
    kept' ≡ kept ++ (get_or facts i d ∷ []) → (Holds s (get_or facts i d) → Holds s' (get_or facts i d)) → AllHold s' kept'
kept_one s s' facts kept kept' i d lt h was e k =
    let both = up_to s facts i d lt h in
    subst (AllHold s') (sym e) (pushed s' kept (get_or facts i d) (was both.0) (k both.1))

pub kept_none : (s s' : State) (facts kept kept' : List Fact) (i : ℕ) → i < length facts → AllHold s (take (i + 1) facts) → (AllHold s (take i facts) → AllHold s' kept) →
    kept' ≡ kept → AllHold s' kept'
kept_none s s' [] kept kept' i lt h was e = absurd (omega (arith, lt))
kept_none s s' (f ∷ fs) kept kept' i lt h was e = subst (AllHold s') (sym e) (was (up_to s (f ∷ fs) i f lt h).0)

-- a turn that keeps something that follows from a fact
pub kept_other : (s : State) (facts kept kept' : List Fact) (f : Fact) (i : ℕ) (d : Fact) → i < length facts → AllHold s (take (i + 1) facts) → (AllHold s (take i facts) → AllHold s kept) →
    kept' ≡ kept ++ (f ∷ []) → (Holds s (get_or facts i d) → Holds s f) → AllHold s kept'
kept_other s facts kept kept' f i d lt h was e k =
    let both = up_to s facts i d lt h in
    subst (AllHold s) (sym e) (pushed s kept f (was both.0) (k both.1))

-- a range doesn't go by arrays
pub within_stays : (s s' : State) (f : Fact) (t : ℕ) (r : Range) → f ≡ Within t r → s'.temps ≡ s.temps → Holds s f → Holds s' f
within_stays s s' f t r e same h = subst (Holds s') (sym e) (subst (λ ts. IsIn r (slice_index ts t)) (sym same) (subst (Holds s) e h))
