-- What a sound place tells.
use Rattle.std.proofs.Common.{◌≡◌, ◌≢◌, List, [], ◌∷◌, ⊎_elim, ℕ, ◌%◌, ◌<◌, ◌≤◌, true, false, ◌&&◌, not, eqb, ltb, length, Option, Some, None, refl, sym, ap, ◌∙◌, subst, arith, eq-eqb}
use Rattle.std.specs.Prelude.{IsSomeAnd}
use Rattle.std.proofs.lemmas.Bool.{and_parts, cases_lt, lt-ltb, le-ltb, eqb-true}
use Rattle.mv_fetch.specs.Held.{IsInText, region_of, choices}
use Rattle.mv_rv32.specs.Stepping.{picked_target}
use Rattle.mv_machine.specs.Runs.{choices_at}
use Rattle.mv_refine_machine.specs.MachineRuns.{spot_of}
use Rattle.std.specs.Prelude.{option_and_then, slice_get}
use Rattle.mv_isa.specs.declared.instr.Instr.TheVariants.{Ecall}
use Rattle.mv_isa.specs.Encoding.{decode}
use Rattle.mv_refine_machine.specs.Commits.Watch.{is_call, instr_at, into_text, are_elsewhere, is_apart, is_sound}
use Rattle.mv_refine_machine.specs.Commits.Tells.{SoundPlacesTell}
use Rattle.std.specs.List.{All}
use Rattle.std.proofs.lemmas.List.Elements.{All-nil, All-cons}
use Rattle.mv_bindings.specs.declared.binding.Binding.{Binding}
use Rattle.mv_patch.specs.declared.prepared.Pair.{Pair}
use Rattle.mv_patch.specs.Pairs.{pairs_between}
use Rattle.mv_machine.specs.Runs.{State}
use Rattle.mv_machine.proofs.Storing.{not_in_text}

-- an address of text, told by its region
not_low : (a : ℕ) → a < 0x1000 → IsInText a → ⊥
unfolding region_of
not_low a lt h = let e : ltb a 0x1000 ≡ true = lt-ltb a 0x1000 lt in absurd (let k = rw e at h in cc)

into_is : (a : ℕ) → IsInText a → into_text (Some a) ≡ true
into_is a h = ⊎_elim
    (λ (lt : a < 0x1000). absurd (not_low a lt h))
    (λ (ge : 0x1000 ≤ a). ⊎_elim
    (λ (lt : a < 0x0010_0000). let e : ltb a 0x1000 ≡ false = le-ltb a 0x1000 ge in let f : ltb a 0x0010_0000 ≡ true = lt-ltb a 0x0010_0000 lt in rw (e, f) refl)
    (λ (big : 0x0010_0000 ≤ a). absurd (not_in_text a big h))
    (cases_lt a 0x0010_0000))
    (cases_lt a 0x1000)

wants_not : (o : Option ℕ) (spare : ℕ) → not (into_text o && eqb spare 0) ≡ true → IsSomeAnd o IsInText → spare ≡ 0 → ⊥
wants_not None spare h i e = absurd i
wants_not (Some a) spare h i e =
    let f : not (true && true) ≡ true = ap (λ b. not (b && true)) (sym (into_is a i)) ∙ ap (λ b. not (into_text (Some a) && b)) (sym (eq-eqb spare 0 e)) ∙ h in absurd (cc)

elsewhere_told : (a : ℕ) (pairs : List Pair) → are_elsewhere a pairs ≡ true → All (λ (pair : Pair). pair.address ≢ a) pairs
elsewhere_told a [] h = All-nil (λ (pair : Pair). pair.address ≢ a)
elsewhere_told a (pair ∷ pairs) h =
    let p = and_parts (not (eqb pair.address a)) (are_elsewhere a pairs) h in
    All-cons (λ (pair : Pair). pair.address ≢ a) pair pairs (λ e. differs pair.address e p.0) (elsewhere_told a pairs p.1)
  where
    differs : (b : ℕ) → b ≡ a → not (eqb b a) ≡ true → ⊥
    differs b e k = let f : not true ≡ true = ap not (sym (eq-eqb b a e)) ∙ k in absurd (cc)

apart_told : (texts : List Binding → List ℕ) (under : Option (List Binding)) (s : State) → is_apart texts under (spot_of s) ≡ true → (old : List Binding) → under ≡ Some old
    → All (λ (pair : Pair). pair.address ≢ s.pc) (pairs_between (texts old) (texts s.bindings))
apart_told texts None s h old e = absurd (cc)
apart_told texts (Some other) s h old e =
    let same : other ≡ old = cc in
    subst (λ bs. All (λ (pair : Pair). pair.address ≢ s.pc) (pairs_between (texts bs) (texts s.bindings))) same (elsewhere_told s.pc (pairs_between (texts other) (texts s.bindings)) (and_parts _ _ h).1)

calls_told : (texts : List Binding → List ℕ) (under : Option (List Binding)) (s : State) → is_apart texts under (spot_of s) ≡ true → (old : List Binding) → under ≡ Some old → instr_at (spot_of s) ≡ Some Ecall → ⊥
calls_told texts None s h old e call = cc
calls_told texts (Some other) s h old e call =
    let silent = (and_parts (not (is_call (instr_at (spot_of s)))) (are_elsewhere s.pc (pairs_between (texts other) (texts s.bindings))) h).0 in
    let f : not true ≡ true = ap (λ i. not (is_call i)) (sym call) ∙ silent in cc

-- a pick of the only choice
zero_of : (n pick : ℕ) → n ≡ 1 → pick % n ≡ 0
zero_of n pick e = omega (arith, e)

pub sound_tells : SoundPlacesTell
unfolding is_sound choices_at
sound_tells closed texts under s h =
    let p = and_parts _ _ h in
    let q = and_parts _ _ p.1 in
    let r = and_parts _ _ q.1 in
    let k = and_parts _ _ p.0 in
    let one : length (choices s.room.held s.pc) ≡ 1 = eqb-true _ _ k.0 in record {
      one = one;
      unbarred = p.0;
      settled = q.0;
      roomy = λ pick w.
          let z : pick % length (choices s.room.held s.pc) ≡ 0 = zero_of (length (choices s.room.held s.pc)) pick one in
          wants_not (picked_target s.room 0 s.regs s.pc) s.room.spare r.0 (subst (λ k. IsSomeAnd (picked_target s.room k s.regs s.pc) IsInText) z w.0) w.1;
      apart = apart_told texts under s r.1;
      calls = λ old e call.
          let z : 0 % length (choices s.room.held s.pc) ≡ 0 = zero_of (length (choices s.room.held s.pc)) 0 one in
          calls_told texts under s r.1 old e (ap (λ (k : ℕ). option_and_then decode (slice_get (choices s.room.held s.pc) k)) (sym z) ∙ call);
    }
