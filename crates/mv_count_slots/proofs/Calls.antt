-- The slots of a body are the calls of attributed functions in it.
use Rattle.std.proofs.Common.{arith, ◌≡◌, ℕ, zero, suc, ◌+◌, ◌≤◌, Bool, true, false, cond, eqb, ◌&&◌, List, [], ◌∷◌, Some, refl, sym, ap, ◌∙◌, subst}
use Rattle.std.specs.Prelude.{slice_get, nat_eq}
use Rattle.std.proofs.lemmas.Bool.{eq-eqb, or_right, or_left, and_from}
use Rattle.std.proofs.lemmas.List.Sums.{sum_by-cons}
use Rattle.mv_ast.specs.declared.program.Program.{Program}
use Rattle.mv_ast.specs.declared.program.Function.{Function}
use Rattle.mv_ast.specs.Counts.{is_attributed}
use Rattle.mv_num.specs.Lists.{is_among}
use Rattle.mv_isa.specs.declared.labelled.Line.{Line}
use Rattle.mv_isa.specs.declared.labelled.Line.TheVariants.{Slot}
use Rattle.mv_ir.specs.declared.body.Body.{Body}
use Rattle.mv_ir.specs.Shorts.{Shorts}
use Rattle.mv_ir.proofs.Induction.{Each}
use Rattle.mv_select_code.specs.Trees.Rooms.{place_in}
use Rattle.mv_select_code.specs.Control.Layouts.{size_in}
use Rattle.mv_select.specs.Calls.CallCode.{is_marked}
use Rattle.mv_select.specs.Functions.Functions.{shape_of}
use Rattle.mv_lower_spec.specs.Functions.{functions_called, marked_from, lower_function}
use Rattle.mv_lower_spec.specs.Shape.Calls.{layer_weight, code_weight, attributed_once}
use Rattle.mv_lower_spec.specs.Shape.Law.{LoweredCallAsOften}
use Rattle.mv_variants.specs.Bound.Shorts.{AreShortsOf}
use Rattle.mv_variants.specs.Bound.Slots.{slots, one_each, SlotsAreCalls}
use Rattle.mv_variants.proofs.OfBound.FewSlots.{Among, marked_attributed}
use Rattle.mv_variants.proofs.OfBound.Meant.{made}
use Rattle.mv_variants.proofs.OfBound.Generals.{kept, general_no_more, general_same}
use Rattle.mv_variants.proofs.OfBound.ExpandedMeasures.{ShortsCountNothing}
use Rattle.mv_variants.proofs.OfBound.Weights.{weights, weights_of_calls}
use Rattle.mv_variants.proofs.OfBound.Variants.{made_calls, worked_no_more}
use Rattle.mv_select.specs.Selected.{selected_lines}
use Rattle.mv_linker.specs.Tables.{is_slot, slot_count}
use Rattle.mv_count_code.specs.Sizes.{general, folded, bound}
use Rattle.mv_count_slots.specs.Calls.{marked_calls, attributed_calls, MarkedCallsHaveSlots, AttributedCallsHaveSlots, SourceCallsHaveSlots}
use Rattle.mv_count_slots.proofs.Weights.{AddUp, weights_add}

-- ---- slots are counted alike

slot_cons : (line : Line) (lines : List Line) → slot_count (line ∷ lines) ≡ cond (is_slot line) 1 0 + slot_count lines
slot_cons line lines = sum_by-cons (λ (x : Line). cond (is_slot x) 1 0) line lines

counted : (lines : List Line) → slot_count lines ≡ slots lines
counted [] = refl
counted (Slot f ∷ lines) = let rest = counted lines in omega (arith, slot_cons (Slot f) lines, rest)
counted (line ∷ lines) = let rest = counted lines in omega (arith, slot_cons line lines, rest)

-- ---- a function that is attributed and called is marked

behind : (b : Bool) (k f : ℕ) (marked : List ℕ) → is_marked marked f ≡ true → is_marked (cond b (k ∷ marked) marked) f ≡ true
behind true k f marked h = or_right (eqb k f) (is_marked marked f) h
behind false k f marked h = h

pub among_marked : (is_called : ℕ → Bool) (f k : ℕ) (gs : List Function) → is_called f ≡ true → Among f k gs → is_marked (marked_from is_called k gs) f ≡ true
among_marked is_called f k [] c (i, e, a) = absurd cc
among_marked is_called f k (g ∷ gs) c (suc i, e, a) =
    behind (g.attributed && is_called k) k f (marked_from is_called (suc k) gs) (among_marked is_called f (suc k) gs c (i, omega (arith, e), a))
among_marked is_called f k (g ∷ gs) c (zero, e, a) =
    let rest = marked_from is_called (suc k) gs in
    let same : f ≡ k = omega (arith, e) in
    let first : (g.attributed && is_called k) ≡ true = and_from g.attributed (is_called k) a (subst (λ n. is_called n ≡ true) same c) in
    let here : eqb k f ≡ true = eq-eqb k f (sym same) in
    subst (λ b. is_marked (cond b (k ∷ rest) rest) f ≡ true) (sym first) (or_left (eqb k f) (is_marked rest f) here)

pub each_among : (P : ℕ → Type 0) (fs : List ℕ) → ((f : ℕ) → is_among f fs ≡ true → P f) → Each P fs
each_among P [] h = tt
each_among P (f ∷ fs) h =
    (h f (or_left (nat_eq f f) (is_among f fs) (eq-eqb f f refl)), each_among P fs (λ k e. h k (or_right (nat_eq k f) (is_among k fs) e)))

-- ---- no call of a function that is attributed and isn't marked

module _ (p : Program) (g : Function) where
  abbrev is_called : ℕ → Bool
  is_called f = is_among f (functions_called (lower_function p g).code)

  -- the weight of each attributed function that isn't marked
  abbrev pub other : (weight : ℕ → ℕ) → ℕ → ℕ
  other weight f = cond (is_marked (lower_function p g).marked f) 0 (cond (is_attributed (slice_get p.functions f)) (weight f) 0)

  none_other : (weight : ℕ → ℕ) (f : ℕ) → is_called f ≡ true → other weight f ≡ 0
  none_other weight f c = by (is_marked (lower_function p g).marked f) (is_attributed (slice_get p.functions f)) (λ a. among_marked is_called f 0 p.functions c (f, omega arith, a))
    where
      by : (m a : Bool) → (a ≡ true → m ≡ true) → cond m 0 (cond a (weight f) 0) ≡ 0
      by true a h = refl
      by false true h = absurd (let bad : false ≡ true = h refl in cc)
      by false false h = refl

  pub no_other : (weight : ℕ → ℕ) → code_weight (other weight) 0 (lower_function p g).code ≡ 0
  no_other weight =
      let twice = weights_add (other weight) (other weight) (other weight) (lower_function p g).code
      (each_among (AddUp (other weight) (other weight) (other weight)) (functions_called (lower_function p g).code) (λ f c. let none = none_other weight f c in omega (arith, none))) in
      omega (arith, twice)

  -- ---- calls

  abbrev once : ℕ → ℕ
  once = one_each (is_marked (lower_function p g).marked)

  -- one for each other attributed function
  abbrev one_other : ℕ → ℕ
  one_other = other (λ f. 1)

  all_counted : (f : ℕ) → AddUp (attributed_once p) once one_other f
  all_counted f = by (is_marked (lower_function p g).marked f) (λ e. ap (λ b. cond b 1 0) (marked_attributed p g f e))
    where
      by : (b : Bool) → (b ≡ true → attributed_once p f ≡ 1) → attributed_once p f ≡ cond b 1 0 + cond b 0 (attributed_once p f)
      by true h = let one = h refl in omega (arith, one)
      by false h = omega arith

  -- so in a body that calls no function more often, the calls of attributed functions are those of marked ones
  same_calls : (b : Body) → code_weight one_other 0 b.code ≤ code_weight one_other 0 (lower_function p g).code → marked_calls (lower_function p g).marked b.code ≡ attributed_calls p b.code
  same_calls b fewer =
      let all = weights_add (attributed_once p) once one_other b.code (each_among (AddUp (attributed_once p) once one_other) (functions_called b.code) (λ f c. all_counted f)) in
      let none = no_other (λ f. 1) in
      omega (arith, all, none, fewer)

-- ---- a function with a short body isn't attributed

pub short_plain : (p : Program) (shorts : Shorts) → AreShortsOf p shorts → (f : ℕ) (b : Body) → slice_get shorts f ≡ Some (Some b) →
    is_attributed (slice_get p.functions f) ≡ false
short_plain p shorts known f b there = let short = known f b there in ap is_attributed short.there ∙ short.plain

-- ---- laws

module _ (are_calls : SlotsAreCalls) where
  pub marked_slots : MarkedCallsHaveSlots
  marked_slots attributed b =
      counted (selected_lines attributed b) ∙ are_calls (place_in b.rooms) (size_in b.rooms) (is_marked b.marked) (shape_of attributed b) b.code

  slots_of : (p : Program) (g : Function) (b : Body) → b.marked ≡ (lower_function p g).marked →
      ((direct : ℕ → ℕ) → code_weight direct 0 b.code ≤ code_weight direct 0 (lower_function p g).code) →
      (attributed : Bool) → slot_count (selected_lines attributed b) ≡ attributed_calls p b.code
  slots_of p g b marked fewer attributed =
      marked_slots attributed b ∙ ap (λ fs. marked_calls fs b.code) marked ∙ same_calls p g b (fewer (one_other p g))

  pub attributed_slots : AttributedCallsHaveSlots
  attributed_slots p g b (general r) =
      slots_of p g b (kept r.shorts (lower_function p g) b r.general).marked
      (λ direct. general_no_more r.shorts (lower_function p g) b r.general (weights direct 0) (weights_of_calls direct 0))
  attributed_slots p g b (folded body i r) = slots_of p g b (ap (λ (x : Body). x.marked) r.changes ∙ i.marked) (λ direct. worked_no_more (weights direct 0) (lower_function p g) body b i r)
  attributed_slots p g b (bound ps m) =
      slots_of p g b (made m.shorts ps (lower_function p g) b m.made).marked (λ direct. made_calls direct 0 m.shorts ps (lower_function p g) b m.made)

  pub source_slots : LoweredCallAsOften → SourceCallsHaveSlots
  source_slots often p f g h b r attributed =
      let once = attributed_once p in
      let free : ShortsCountNothing (layer_weight once 0) r.shorts = λ k short there to args. ap (λ a. cond a 1 0) (short_plain p r.shorts r.known k short there) in
      attributed_slots p g b (general r) attributed
      ∙ general_same r.shorts (lower_function p g) b r.general (weights once 0) (weights_of_calls once 0) free ∙ (often p f g h).attributed
