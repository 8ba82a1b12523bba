-- Jumps have targets where arms are reached by one jump, and bodies stay well formed.
use Rattle.std.proofs.Common.{arith, ◌≡◌, ℕ, zero, suc, ◌+◌, ◌<◌, Bool, true, false, List, [], ◌∷◌, length, map, refl, sym, ◌∙◌, ap, subst}
use Rattle.std.specs.Prelude.{◌&&◌, slice_get, unwrap_or}
use Rattle.std.proofs.lemmas.Bool.{and_from}
use Rattle.mv_num.proofs.Booleans.{and_cases, from_falsity}
use Rattle.mv_ir.specs.declared.tree.Tree.{Tree}
use Rattle.mv_ir.specs.declared.stm.Stm.{Stm, out-Stm}
use Rattle.mv_ir.specs.declared.stm.Stm.TheOpen.{Stm-F}
use Rattle.mv_ir.specs.declared.stm.Stm.TheOpen as stm
use Rattle.mv_ir.specs.declared.stm.Stm.TheViews.{roll-Stm, roll-out-Stm}
use Rattle.mv_ir.specs.declared.stm.Stm.TheFolds.{map-Stm}
use Rattle.mv_ir.specs.declared.body.Body.{Body}
use Rattle.mv_ir.specs.WellFormed.{all_around, layer_targets, stm_targets, IsWellFormed}
use Rattle.mv_ir.specs.Rolled.{number, set, choose, break, repeat, enclosed}
use Rattle.mv_ir.proofs.Common.{and_keeps, lt_nat, nat_less}
use Rattle.mv_ir.proofs.Rolls.{targets_roll}
use Rattle.mv_fold.proofs.WellFormed.{Kept, code_well_formed}
use Rattle.mv_arms.specs.Arms.{level, back, passed, Steered, other, test, layer_is_still, is_still, Arms, Nests, none, still, leave, again, branch, turns, block, switch, all, arm}
use Rattle.mv_arms.specs.Walking.{leaving, with_code}
use Rattle.mv_arms.proofs.Via.{same_level, deeper_level}
use Rattle.mv_arms.proofs.Walked.{still_roll}
use Rattle.mv_arms.proofs.Steering.{passed_within, are_count}
use Rattle.mv_arms.proofs.Counts.{arms_ask, arms_no_greater}
use Rattle.mv_arms.proofs.Thinning.{arms_have_temps}

-- ---- what is around code

abbrev is_loop : List Bool → ℕ → Bool
is_loop around n = unwrap_or (slice_get around n) false

-- what a jump led to is there where it leads then
record Fits (levels : List ℕ) (o o' : List Bool) : Type 0 where
  pub leaves : (n : ℕ) → n < length o → level levels n < length o'
  pub restarts : (n : ℕ) → is_loop o n ≡ true → is_loop o' (level levels n) ≡ true

fits_around : (levels : List ℕ) (x : Bool) (o o' : List Bool) → Fits levels o o' → Fits (0 ∷ levels) (x ∷ o) (x ∷ o')
fits_around levels x o o' h = record { leaves = leaves; restarts = restarts }
  where
    leaves : (n : ℕ) → n < suc (length o) → level (0 ∷ levels) n < suc (length o')
    leaves zero lt = omega arith
    leaves (suc n) lt = let k = h.leaves n (omega (arith, lt)) in omega (arith, k)

    restarts : (n : ℕ) → is_loop (x ∷ o) n ≡ true → is_loop (x ∷ o') (level (0 ∷ levels) n) ≡ true
    restarts zero e = e
    restarts (suc n) e = sym (ap (is_loop o') (same_level levels n)) ∙ h.restarts n e

-- in so many blocks more
abbrev falses : ℕ → List Bool → List Bool
falses zero o = o
falses (suc n) o = false ∷ falses n o

falses_count : (n : ℕ) (o : List Bool) → length (falses n o) ≡ n + length o
falses_count zero o = omega arith
falses_count (suc n) o = omega (arith, falses_count n o)

fits_falses : (levels : List ℕ) (k : ℕ) (o o' : List Bool) → Fits (0 ∷ levels) o o' → Fits (k ∷ levels) o (falses k o')
fits_falses levels zero o o' h = h
fits_falses levels (suc k) o o' h =
    let f = fits_falses levels k o o' h in
    record {
      leaves = λ n lt. (let l = f.leaves n lt in omega (arith, l, deeper_level levels k n));
      restarts = λ n e. ap (is_loop (false ∷ falses k o')) (deeper_level levels k n) ∙ f.restarts n e;
    }

-- ---- code

abbrev ok : List Stm → List Bool → Bool
ok code = all_around (map stm_targets code)

rolled : (x : Stm-F Stm) (o : List Bool) → stm_targets (roll-Stm x) o ≡ layer_targets (map-Stm Stm (List Bool → Bool) stm_targets x) o
rolled x o = ap (λ f. f o) (targets_roll x)

still_targets : (x : Stm-F Stm) (o : List Bool) → layer_is_still x ≡ true → layer_targets (map-Stm Stm (List Bool → Bool) stm_targets x) o ≡ true
still_targets (stm.Set t v) o e = refl
still_targets (stm.SetGlobal g v) o e = refl
still_targets (stm.Divide t q a b) o e = refl
still_targets (stm.Check a i) o e = refl
still_targets (stm.Read t a i) o e = refl
still_targets (stm.Write a i v) o e = refl
still_targets (stm.Zero l) o e = refl
still_targets (stm.If t a b) o e = from_falsity e
still_targets (stm.Loop b) o e = from_falsity e
still_targets (stm.Block b) o e = from_falsity e
still_targets (stm.Break n) o e = from_falsity e
still_targets (stm.Back n) o e = from_falsity e
still_targets (stm.Call t f args) o e = refl
still_targets (stm.Known t k args) o e = refl
still_targets (stm.Return v) o e = refl

stays : (s : Stm) (o : List Bool) → is_still s ≡ true → stm_targets s o ≡ true
stays s o e =
    subst (λ x. stm_targets x o ≡ true) (roll-out-Stm s) (rolled (out-Stm s) o ∙ still_targets (out-Stm s) o (sym (still_roll (out-Stm s)) ∙ ap is_still (roll-out-Stm s) ∙ e))

-- a jump that leads somewhere
jump_ok : (k : ℕ) (o : List Bool) → k < length o → stm_targets (break k) o ≡ true
jump_ok k o lt = rolled (stm.Break k) o ∙ lt_nat k (length o) lt

choice_is : (c : Tree) (a b : List Stm) (o : List Bool) → stm_targets (choose c a b) o ≡ (ok a o && ok b o)
choice_is c a b o = rolled (stm.If c a b) o

-- ---- tests

steered_ok : (t : ℕ) (places : List ℕ) (tests tests' : List Stm) → Steered t places tests tests' → (o : List Bool) → length places < length o → ok tests' o ≡ true
steered_ok t places tests tests' (other p) o lt =
    and_from (stm_targets (set t (number p)) o) (stm_targets (break (passed places p)) o && true) (rolled (stm.Set t (number p)) o)
    (and_from (stm_targets (break (passed places p)) o) true (jump_ok (passed places p) o (omega (arith, lt, passed_within places p))) refl)
steered_ok t places tests tests' (test c p rest rest' h) o lt =
    let jumps = leaving t p (passed places p) in
    let first : ok jumps o ≡ true =
    and_from (stm_targets (set t (number p)) o) (stm_targets (break (passed places p)) o && true) (rolled (stm.Set t (number p)) o)
    (and_from (stm_targets (break (passed places p)) o) true (jump_ok (passed places p) o (omega (arith, lt, passed_within places p))) refl)
    in
    and_from (stm_targets (choose c jumps []) o) (ok rest' o) (choice_is c jumps [] o ∙ and_from (ok jumps o) true first refl) (steered_ok t places rest rest' h o lt)

-- ---- what becomes of code

abbrev Reach : List ℕ → List Stm → List Stm → Type 0
Reach levels code code' = (o o' : List Bool) → Fits levels o o' → ok code o ≡ true → ok code' o' ≡ true

after : (levels : List ℕ) (x y : Stm) (rest rest' : List Stm) → ((o o' : List Bool) → Fits levels o o' → stm_targets x o ≡ true → stm_targets y o' ≡ true) → Reach levels rest rest' → Reach levels (x ∷ rest) (y ∷ rest')
after levels x y rest rest' h k o o' f = and_keeps (stm_targets x o) (ok rest o) (stm_targets y o') (ok rest' o') (h o o' f) (k o o' f)

mutual
  arms_reach : (temps : ℕ) (levels : List ℕ) (code code' : List Stm) → Arms temps levels code code' → Reach levels code code'
  arms_reach temps levels code code' (none l) = λ o o' f e. e
  arms_reach temps levels code code' (still l s rest rest' e h) = after l s s rest rest' (λ o o' f g. stays s o' e) (arms_reach temps l rest rest' h)
  arms_reach temps levels code code' (leave l n rest rest' h) =
      after l (break n) (break (level l n)) rest rest' (λ o o' f g. jump_ok (level l n) o' (f.leaves n (nat_less n (length o) (sym (rolled (stm.Break n) o) ∙ g)))) (arms_reach temps l rest rest' h)
  arms_reach temps levels code code' (again l n rest rest' h) =
      after l (back n) (back (level l n)) rest rest' (λ o o' f g. rolled (stm.Back (level l n)) o' ∙ f.restarts n (sym (rolled (stm.Back n) o) ∙ g)) (arms_reach temps l rest rest' h)
  arms_reach temps levels code code' (branch l c a b a' b' rest rest' ha hb h) =
      after l (choose c a b) (choose c a' b') rest rest'
      (λ o o' f g. choice_is c a' b' o' ∙ and_keeps (ok a o) (ok b o) (ok a' o') (ok b' o') (arms_reach temps l a a' ha o o' f) (arms_reach temps l b b' hb o o' f) (sym (choice_is c a b o) ∙ g))
      (arms_reach temps l rest rest' h)
  arms_reach temps levels code code' (turns l b b' rest rest' hb h) =
      after l (repeat b) (repeat b') rest rest'
      (λ o o' f g. rolled (stm.Loop b') o' ∙ arms_reach temps (0 ∷ l) b b' hb (true ∷ o) (true ∷ o') (fits_around l true o o' f) (sym (rolled (stm.Loop b) o) ∙ g)) (arms_reach temps l rest rest' h)
  arms_reach temps levels code code' (block l b b' rest rest' hb h) =
      after l (enclosed b) (enclosed b') rest rest'
      (λ o o' f g. rolled (stm.Block b') o' ∙ arms_reach temps (0 ∷ l) b b' hb (false ∷ o) (false ∷ o') (fits_around l false o o' f) (sym (rolled (stm.Block b) o) ∙ g)) (arms_reach temps l rest rest' h)
  arms_reach temps levels code code' (switch l t places tests tests' arms made rest rest' low some are steered hn h) =
      after l (enclosed (enclosed tests ∷ arms)) (enclosed made) rest rest'
      (λ o o' f g.
      let inside = and_cases (stm_targets (enclosed tests) (false ∷ o)) (ok arms (false ∷ o)) (sym (rolled (stm.Block (enclosed tests ∷ arms)) o) ∙ g) in
      rolled (stm.Block made) o' ∙
      nests_reach temps l tests' arms made hn (false ∷ o) (false ∷ o') (fits_around l false o o' f) inside.1
      (steered_ok t places tests tests' steered (falses (length arms) (false ∷ o')) (omega (arith, falses_count (length arms) (false ∷ o'), are_count t places arms are))))
      (arms_reach temps l rest rest' h)

  nests_reach : (temps : ℕ) (levels : List ℕ) (inner arms made : List Stm) → Nests temps levels inner arms made → (o o' : List Bool) → Fits (0 ∷ levels) o o' → ok arms o ≡ true →
      ok inner (falses (length arms) o') ≡ true → ok made o' ≡ true
  nests_reach temps levels inner arms made (all l x) o o' f g e = e
  nests_reach temps levels inner arms made (arm l x c a b b' rest all_made hb hn) o o' f g e =
      let w = falses (length rest) o' in
      let parts = and_cases (stm_targets (choose c a b) o) (ok rest o) g in
      let sides = and_cases (ok a o) (ok b o) (sym (choice_is c a b o) ∙ parts.0) in
      nests_reach temps l (enclosed x ∷ b') rest all_made hn o o' f parts.1
      (and_from (stm_targets (enclosed x) w) (ok b' w) (rolled (stm.Block x) w ∙ e) (arms_reach temps (length rest ∷ l) b b' hb o w (fits_falses l (length rest) o o' f) sides.1))

fits_itself : (o : List Bool) → Fits [] o o
fits_itself o = record { leaves = λ n lt. lt; restarts = λ n e. e }

-- ---- bodies

pub arms_kept : (temps : ℕ) (code code' : List Stm) → Arms temps [] code code' → Kept code code'
arms_kept temps code code' h =
    let asks = arms_ask temps [] code code' h in
    record { targets = λ o. arms_reach temps [] code code' h o o (fits_itself o); arguments = asks.arguments; named = asks.named }

pub arms_well_formed : (body : Body) (code : List Stm) → Arms body.temps [] body.code code → IsWellFormed body → IsWellFormed (with_code body code)
arms_well_formed body code h = code_well_formed body code (arms_kept body.temps body.code code h) (arms_have_temps body code h) (arms_no_greater body.temps [] body.code code h)
