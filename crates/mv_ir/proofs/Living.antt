-- Which temporaries are live where trees read some and a statement writes one, relations of temporaries by what is live, and bodies of one flow.
use Rattle.std.proofs.Common.{◌≡◌, ℕ, zero, suc, ◌<◌, Bool, true, false, not, ltb, ◌&&◌, ◌||◌, List, ◌∷◌, map, Option, Some, None, refl, sym, ap, ◌∙◌, subst}
use Rattle.std.proofs.lemmas.Bool.{or_left, or_right, ne_eqb}
use Rattle.mv_ir.specs.declared.tree.Tree.{Tree}
use Rattle.mv_ir.specs.declared.stm.Stm.{Stm}
use Rattle.mv_ir.specs.declared.stm.Stm.TheOpen.{Stm-F}
use Rattle.mv_ir.specs.declared.stm.Stm.TheViews.{roll-Stm}
use Rattle.mv_ir.specs.declared.body.Body.{Body}
use Rattle.mv_ir.specs.Live.{reads_temp, any_reads, is, Around, at_place, live_in_order, marks_in_order, flow, nowhere, live_at_start, all_marks, mark_at, IsWhole, HasTemps}
use Rattle.mv_ir.proofs.Rolls.{same_functions, flow_roll, flow_of_layer}
use Rattle.mv_ir.proofs.Relating.{Rel, Places, under}

-- ---- trees whose temporaries are live

abbrev pub ReadLive : (ℕ → Bool) → Tree → Type 0
ReadLive l x = (t : ℕ) → reads_temp t x ≡ true → l t ≡ true

abbrev pub AllLive : (ℕ → Bool) → List Tree → Type 0
AllLive l ts = (t : ℕ) → any_reads t ts ≡ true → l t ≡ true

pub first_live : (l : ℕ → Bool) (x : Tree) (xs : List Tree) → AllLive l (x ∷ xs) → ReadLive l x
first_live l x xs h t e = h t (or_left (reads_temp t x) (any_reads t xs) e)

pub rest_live : (l : ℕ → Bool) (x : Tree) (xs : List Tree) → AllLive l (x ∷ xs) → AllLive l xs
rest_live l x xs h t e = h t (or_right (reads_temp t x) (any_reads t xs) e)

-- ---- a statement that reads some trees and may write a temporary

-- what is live at it, from what is live where it goes on
abbrev pub live_at : List Tree → Option ℕ → (ℕ → Bool) → ℕ → Bool
live_at reads writes on t = any_reads t reads || (not (is writes t) && on t)

pub all_live : (reads : List Tree) (writes : Option ℕ) (on : ℕ → Bool) → AllLive (live_at reads writes on) reads
all_live reads writes on t e = or_left _ _ e

pub live_still : (reads : List Tree) (on : ℕ → Bool) (t : ℕ) → on t ≡ true → live_at reads None on t ≡ true
live_still reads on t e = or_right (any_reads t reads) (on t) e

pub live_other : (reads : List Tree) (u : ℕ) (on : ℕ → Bool) (t : ℕ) → (t ≡ u → ⊥) → on t ≡ true → live_at reads (Some u) on t ≡ true
live_other reads u on t ne e = or_right (any_reads t reads) _ (ap (λ b. not b && on t) (ne_eqb u t (λ s. ne (sym s))) ∙ e)

-- what is live at a loop's start is so with it
pub settled : (f : Bool → Bool) → f (f false) ≡ true → f false ≡ true
settled f h = by (f false) refl
  where
    by : (b : Bool) → f false ≡ b → f false ≡ true
    by true e = e
    by false e = sym (ap f e) ∙ h

pub flows : (x : Stm-F Stm) → (λ t. flow t (roll-Stm x)) ≡ flow_of_layer x
flows x = same_functions (λ t. flow t (roll-Stm x)) (flow_of_layer x) (λ t. flow_roll t x)

-- ---- relations of the temporaries, each by what is live at a place

module _ (R : (ℕ → Bool) → Rel) where
  abbrev pub places : (ℕ → Around) → Places
  places r = record { next = R (λ t. (r t).next); leaves = λ k. R (λ t. (r t).leaves k); restarts = λ k. R (λ t. (r t).restarts k) }

  pub under_block : (r : ℕ → Around) (k : ℕ) (xs ys : List ℕ) → R (λ t. at_place (r t).next (r t).leaves k) xs ys →
      under (R (λ t. (r t).next)) (R (λ t. (r t).next)) k (λ k. R (λ t. (r t).leaves k)) xs ys
  under_block r zero xs ys a = a
  under_block r (suc k) xs ys a = a

  pub under_start : (start : ℕ → Bool) (r : ℕ → Around) (k : ℕ) (xs ys : List ℕ) → R (λ t. at_place (start t) (r t).restarts k) xs ys →
      under (R start) (R start) k (λ k. R (λ t. (r t).restarts k)) xs ys
  under_start start r zero xs ys a = a
  under_start start r (suc k) xs ys a = a

-- ---- two bodies through which each temporary flows alike

module _ (b r : Body) (same : (t : ℕ) → map (flow t) r.code ≡ map (flow t) b.code) (params : r.params ≡ b.params) (temps : r.temps ≡ b.temps) where
  pub same_start : (t : ℕ) → live_at_start t r.code ≡ live_at_start t b.code
  same_start t = ap (λ fs. live_in_order fs nowhere) (same t)

  pub same_marks : (t : ℕ) → all_marks r t ≡ all_marks b t
  same_marks t =
      ap (λ n. (live_at_start t r.code || ltb t n) ∷ marks_in_order (map (flow t) r.code) nowhere) params ∙
      ap (λ fs. (live_in_order fs nowhere || ltb t b.params) ∷ marks_in_order fs nowhere) (same t)

  pub whole_kept : IsWhole b → IsWhole r
  whole_kept h t e = subst (λ n. t < n) (sym params) (h t (sym (same_start t) ∙ e))

  pub temps_kept : HasTemps b → HasTemps r
  temps_kept h i t e = subst (λ n. t < n) (sym temps) (h i t (sym (ap (λ m. mark_at m i) (same_marks t)) ∙ e))
