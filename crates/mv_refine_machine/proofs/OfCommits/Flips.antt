-- A word of a global is stored.
use Rattle.std.proofs.Common.{◌≡◌, ◌≢◌, ⊎_elim, inr, ℕ, ◌+◌, ◌*◌, ◌^◌, ◌<◌, ◌≤◌, List, [], length, slice_get, slice_set, slice_index, slice_index_or, Some, refl, sym, ap, ◌∙◌, subst, arith, length-set}
use Rattle.std.proofs.lemmas.Bool.{cases_eq, cases_lt}
use Rattle.std.proofs.lemmas.List.{get_or-set_same, get_or-set_other}
use Rattle.mv_ast.specs.Switches.{words_or_none, with_word}
use Rattle.mv_isa.specs.Execution.{Access}
use Rattle.mv_ir.specs.World.{World}
use Rattle.mv_select_code.specs.Control.Runs.{Machine}
use Rattle.mv_select.specs.Calls.Convention.{Layout, HoldsGlobals}
use Rattle.mv_select.specs.Functions.Functions.{IsLaid, Kept}
use Rattle.mv_refine_machine.specs.Commits.Watched.{Watched}
use Rattle.mv_ast.specs.Switches as source
use Rattle.mv_ast.proofs.Common.{objects_at}
use Rattle.mv_num.proofs.Lists.{index_beyond}

-- the world in which the first word of a global is changed, as a flip does it
abbrev pub with_switch : World → (global value : ℕ) → World
with_switch w g v = record w { globals = source.with_word w.globals g 0 v }

module _ (access : Access Watched) (y : Layout) (laid : IsLaid y) (machine : Machine Watched) (budget far : ℕ) (w : World) (m : Watched) (h : HoldsGlobals access y machine budget far w m)
    (g v : ℕ) (some : 0 < y.size g) (small : v < 2 ^ 32) (kept : Kept access y m (y.place g + 4 * 0) v) where
  abbrev old : ℕ → List ℕ
  old k = slice_index_or w.globals k []

  abbrev new : ℕ → List ℕ
  new k = slice_index_or (with_word w.globals g 0 v) k []

  there : g < length w.globals
  there = ⊎_elim
      (λ (lt : g < length w.globals). lt)
      (λ (le : length w.globals ≤ g). let e = ap length (index_beyond w.globals g le) in let size = h.sizes g in absurd (omega (arith, e, size, some)))
      (cases_lt g (length w.globals))

  at_same : new g ≡ slice_set (old g) 0 v
  at_same =
      get_or-set_same w.globals g (slice_set (words_or_none (slice_get w.globals g)) 0 v) [] there
      ∙ ap (λ (xs : List ℕ). slice_set xs 0 v) (objects_at w.globals g)

  at_other : (k : ℕ) → k ≢ g → new k ≡ old k
  at_other k ne = get_or-set_other w.globals g k (slice_set (words_or_none (slice_get w.globals g)) 0 v) [] ne

  first : slice_index (new g) 0 ≡ v
  first =
      let size = h.sizes g in
      ap (λ (xs : List ℕ). slice_index xs 0) at_same ∙ get_or-set_same (old g) 0 v 0 (omega (arith, size, some))

  later : (n : ℕ) → n ≢ 0 → slice_index (new g) n ≡ slice_index (old g) n
  later n ne = ap (λ (xs : List ℕ). slice_index xs n) at_same ∙ get_or-set_other (old g) 0 n v 0 ne

  sizes : (k : ℕ) → length (new k) ≡ y.size k
  sizes k = ⊎_elim
      (λ (e : k ≡ g). subst (λ j. length (new j) ≡ y.size j) (sym e) (ap length at_same ∙ length-set (old g) 0 v ∙ h.sizes g))
      (λ (ne : k ≢ g). ap length (at_other k ne) ∙ h.sizes k)
      (cases_eq k g)

  words : (k n : ℕ) → n < y.size k → slice_index (new k) n < 2 ^ 32
  words k n lt = ⊎_elim
      (λ (e : k ≡ g). subst (λ j. slice_index (new j) n < 2 ^ 32) (sym e) (of_g n (subst (λ j. n < y.size j) e lt)))
      (λ (ne : k ≢ g). subst (λ (xs : List ℕ). slice_index xs n < 2 ^ 32) (sym (at_other k ne)) (h.words k n lt))
      (cases_eq k g)
    where
      of_g : (n : ℕ) → n < y.size g → slice_index (new g) n < 2 ^ 32
      of_g n lt = ⊎_elim
          (λ (e : n ≡ 0). subst (λ i. slice_index (new g) i < 2 ^ 32) (sym e) (subst (λ (x : ℕ). x < 2 ^ 32) (sym first) small))
          (λ (ne : n ≢ 0). subst (λ (x : ℕ). x < 2 ^ 32) (sym (later n ne)) (h.words g n lt))
          (cases_eq n 0)

  elsewhere : (k n : ℕ) → n < y.size k → y.place k + 4 * n ≢ y.place g + 4 * 0 → access.load kept.after (y.place k + 4 * n) 4 ≡ Some (slice_index (old k) n)
  elsewhere k n lt ne = kept.others (y.place k + 4 * n) (inr (k, n, lt, refl)) ne ∙ h.loads k n lt

  loads : (k n : ℕ) → n < y.size k → access.load kept.after (y.place k + 4 * n) 4 ≡ Some (slice_index (new k) n)
  loads k n lt = ⊎_elim
      (λ (e : k ≡ g). subst (λ j. access.load kept.after (y.place j + 4 * n) 4 ≡ Some (slice_index (new j) n)) (sym e) (of_g n (subst (λ j. n < y.size j) e lt)))
      (λ (ne : k ≢ g). elsewhere k n lt (λ q. ne (laid.apart k n g 0 lt some q).0) ∙ ap (λ (xs : List ℕ). Some (slice_index xs n)) (sym (at_other k ne)))
      (cases_eq k g)
    where
      of_g : (n : ℕ) → n < y.size g → access.load kept.after (y.place g + 4 * n) 4 ≡ Some (slice_index (new g) n)
      of_g n lt = ⊎_elim
          (λ (e : n ≡ 0). subst (λ i. access.load kept.after (y.place g + 4 * i) 4 ≡ Some (slice_index (new g) i)) (sym e) (kept.same ∙ ap Some (sym first)))
          (λ (ne : n ≢ 0). elsewhere g n lt (λ q. ne (laid.apart g n g 0 lt some q).1) ∙ ap Some (sym (later n ne)))
          (cases_eq n 0)

  holds : HoldsGlobals access y machine budget far (with_switch w g v) kept.after
  holds = record { sizes = sizes; words = words; loads = loads }

pub flips_hold : (access : Access Watched) (y : Layout) → IsLaid y → (machine : Machine Watched) (budget far : ℕ) (w : World) (m : Watched) → HoldsGlobals access y machine budget far w m
    → (g v : ℕ) → 0 < y.size g → v < 2 ^ 32 → (kept : Kept access y m (y.place g + 4 * 0) v) → HoldsGlobals access y machine budget far (with_switch w g v) kept.after
flips_hold access y laid machine budget far w m h g v some small kept = holds access y laid machine budget far w m h g v some small kept
