-- The walk over code puts choices together.
use Rattle.std.proofs.Common.{arith, ◌≡◌, ℕ, suc, ◌+◌, ◌<◌, ◌≤◌, Bool, true, false, ◌||◌, cond, eqb, List, [], ◌∷◌, ◌++◌, length, map, reverse, Option, Some, option_to_list, append-nil, refl, sym, ◌∙◌, ap, subst}
use Rattle.std.specs.Prelude.{replicate}
use Rattle.std.proofs.lemmas.List.{length-replicate, reverse-append}
use Rattle.mv_num.proofs.Booleans.{from_falsity}
use Rattle.mv_ir.specs.declared.tree.Tree.{Tree}
use Rattle.mv_ir.specs.declared.tree.Tree.TheOpen as tree
use Rattle.mv_ir.specs.declared.stm.Stm.{Stm, out-Stm}
use Rattle.mv_ir.specs.declared.stm.Stm.TheOpen.{Stm-F}
use Rattle.mv_ir.specs.declared.stm.Stm.TheOpen as stm
use Rattle.mv_ir.specs.declared.stm.Stm as at
use Rattle.mv_ir.specs.declared.stm.Stm.TheVariants.{rolls-If, rolls-Loop, rolls-Block}
use Rattle.mv_ir.specs.declared.stm.Stm.TheViews.{roll-Stm, roll-out-Stm, out-roll-Stm}
use Rattle.mv_ir.specs.Live.{Around, mark_at, reads_temp, nowhere}
use Rattle.mv_ir.specs.Measures.{statements, stm_size}
use Rattle.mv_ir.specs.Rolled.{number, temp, set, choose}
use Rattle.mv_ir.proofs.Rolls.{flow_roll, reads_temp_roll, size_roll}
use Rattle.mv_regalloc.specs.Rows.{Bits, sets, live_before, stm_rows, no_sets, own_trees, with_all_reads}
use Rattle.mv_regalloc.specs.Shared.{LiveSets, entered, forgotten, left, row_of, with_live, with_saved}
use Rattle.mv_regalloc.specs.declared.liveness.Row.TheVariants.{Saved}
use Rattle.mv_regalloc.proofs.RowEquations.{live_block, live_if, live_loop, own_if}
use Rattle.mv_regalloc.proofs.RowsShow.{code_shows, seen_nowhere}
use Rattle.mv_regalloc.proofs.BodySpans.{clear_at}
use Rattle.mv_regalloc.proofs.BitLists.{either_or}
use Rattle.mv_tidy.specs.Tidying.{lives, before, in_loop, in_block}
use Rattle.mv_tidy.specs.Choosing.{taken, sides, Attached, apart, denied, unequal, equal, pushed, jumped, IsUnread, Chosen, ChosenIn}
use Rattle.mv_tidy.specs.Choosing as chosen
use Rattle.mv_tidy.specs.ChoosingWalk.{passed_within, either_before, sides_row, layer_sides, IsPut, stands, taken_in, AreChosen, HasChosen, IsUnreadFirst, IsChosenFrom, IsChosenBehind}
use Rattle.mv_tidy.specs.Walking.{IsGone, IsSeen, turning, passed}
use Rattle.mv_tidy.proofs.Thinning.{fits_itself}
use Rattle.mv_tidy.proofs.ChosenThin.{chosen_thin}
use Rattle.mv_tidy.proofs.Walked.{statements_append, live_seen, seen_before, seen_in_loop, seen_in_block}

-- ---- choices, by their parts

abbrev test_or : Stm-F Stm → Tree → Tree
test_or (stm.If t a b) d = t
test_or _ d = d

abbrev first_or : Stm-F Stm → List Stm → List Stm
first_or (stm.If t a b) d = a
first_or _ d = d

abbrev second_or : Stm-F Stm → List Stm → List Stm
second_or (stm.If t a b) d = b
second_or _ d = d

abbrev head_of : List Stm → Stm → Stm
head_of [] d = d
head_of (u ∷ l) d = u

abbrev tail_of : List Stm → List Stm
tail_of [] = []
tail_of (u ∷ l) = l

abbrev is_choice : Stm-F Stm → Bool
is_choice (stm.If t a b) = true
is_choice _ = false

module _ (c c' : Tree) (a a' b b' : List Stm) (e : choose c a b ≡ choose c' a' b') where
  same_layer : stm.If c a b ≡ stm.If c' a' b'
  same_layer = sym (out-roll-Stm (stm.If c a b)) ∙ ap out-Stm e ∙ out-roll-Stm (stm.If c' a' b')

  same_test : c ≡ c'
  same_test = ap (λ x. test_or x c) same_layer

  same_first : a ≡ a'
  same_first = ap (λ x. first_or x a) same_layer

  same_second : b ≡ b'
  same_second = ap (λ x. second_or x b) same_layer

no_choice : {A : Type 0} (x : Stm-F Stm) (c : Tree) (a b : List Stm) → is_choice x ≡ false → roll-Stm x ≡ choose c a b → A
no_choice x c a b f e = from_falsity (sym f ∙ ap is_choice (sym (out-roll-Stm x)) ∙ ap (λ s. is_choice (out-Stm s)) e ∙ ap is_choice (out-roll-Stm (stm.If c a b)))

-- ---- what becomes of a choice

module _ (temps : ℕ) where
  pub itself : (r : ℕ → Around) (code : List Stm) → Chosen temps r code code
  itself r [] = chosen.none r
  itself r (s ∷ code) = chosen.put r s s code code (itself r code) (chosen.same (before r code) s)

  -- a statement that becomes a choice is one with the same condition
  pub record WasChoice (r : ℕ → Around) (s : Stm) (c : Tree) (a b : List Stm) : Type 0 where
    pub first : List Stm
    pub second : List Stm
    pub is : s ≡ choose c first second
    pub of_first : Chosen temps r first a
    pub of_second : Chosen temps r second b

  pub was_choice : (r : ℕ → Around) (s y : Stm) → ChosenIn temps r s y → (c : Tree) (a b : List Stm) → y ≡ choose c a b → WasChoice r s c a b
  was_choice r s y (chosen.same p u) c a b e = record { first = a; second = b; is = e; of_first = itself r a; of_second = itself r b }
  was_choice r s y (chosen.choice p t f f' g g' h k) c a b e = record {
    first = f;
    second = g;
    is = ap (λ q. choose q f g) (same_test t c f' a g' b e);
    of_first = subst (Chosen temps r f) (same_first t c f' a g' b e) h;
    of_second = subst (Chosen temps r g) (same_second t c f' a g' b e) k;
  }
  was_choice r s y (chosen.turns p f f' h) c a b e = no_choice (stm.Loop f') c a b refl e
  was_choice r s y (chosen.block p f f' h) c a b e = no_choice (stm.Block f') c a b refl e

-- ---- what a choice becomes that takes in another one

attached_as : (g h : ℕ → Type 0) → ((t : ℕ) → g t → h t) → (first : List Stm) (k : Tree) (x y z : List Stm) → Attached g first k x y z → Attached h first k x y z
attached_as g h f first k x y z (apart l c a b) = apart l c a b
attached_as g h f first k x y z (denied l c a b w i) = denied l c a b w (attached_as g h f l c b a w i)
attached_as g h f first k x y z (unequal l c a b w i) = unequal l c a b w (attached_as g h f l c a b w i)
attached_as g h f first k x y z (equal l c a b w i) = equal l c a b w (attached_as g h f l c b a w i)
attached_as g h f first k x y z (pushed turned l a b c e t n u v w gone short i) = pushed turned l a b c e t n u v w (f t gone) short (attached_as g h f a e u v w i)
attached_as g h f first k x y z (jumped turned l a b c e t n u v w gone is i) =
    jumped turned l a b c e t n u v w (f t gone) is (attached_as g h f a e (cond (eqb n 0) u []) (cond (eqb n 0) [] v) w i)

-- it begins with a choice that asks for the same, whatever that is
record Begins (gone : ℕ → Type 0) (c : Tree) (a b : List Stm) (k : Tree) (x y z : List Stm) : Type 0 where
  first : List Stm
  second : List Stm
  rest : List Stm
  is : z ≡ choose c first second ∷ rest
  any : (d : Tree) → Attached gone (choose d a b ∷ []) k x y (choose d first second ∷ rest)

module _ (gone : ℕ → Type 0) (c : Tree) (a b : List Stm) where
  sides_are : (turned : Bool) (d : Tree) (u v : List Stm) → sides turned d u v ≡ choose d (cond turned v u) (cond turned u v)
  sides_are true d u v = refl
  sides_are false d u v = refl

  module _ (turned : Bool) (f : List Stm) (d : Tree) (u v u' v' : List Stm) (k : Tree) (x y rest : List Stm) where
    begins_by : (e : choose c a b ∷ [] ≡ f ++ sides turned d u v ∷ []) → ((q : Tree) → Attached gone (sides turned q u v ∷ []) k x y (sides turned q u' v' ∷ rest)) →
        Begins gone c a b k x y (f ++ sides turned d u' v' ∷ rest)
    begins_by = by f
      where
        by : (f : List Stm) → choose c a b ∷ [] ≡ f ++ sides turned d u v ∷ [] → ((q : Tree) → Attached gone (sides turned q u v ∷ []) k x y (sides turned q u' v' ∷ rest)) →
            Begins gone c a b k x y (f ++ sides turned d u' v' ∷ rest)
        by [] e h =
            let head : choose c a b ≡ choose d (cond turned v u) (cond turned u v) = ap (λ l. head_of l (choose c a b)) e ∙ sides_are turned d u v in
            let p = same_first c d a (cond turned v u) b (cond turned u v) head in
            let q = same_second c d a (cond turned v u) b (cond turned u v) head in
            record {
              first = cond turned v' u';
              second = cond turned u' v';
              rest = rest;
              is = ap (λ s. s ∷ rest) (sides_are turned d u' v' ∙ ap (λ t. choose t (cond turned v' u') (cond turned u' v')) (sym (same_test c d a (cond turned v u) b (cond turned u v) head)));
              any = λ t. subst (λ z. Attached gone (choose t a b ∷ []) k x y (z ∷ rest)) (sides_are turned t u' v')
                  (subst (λ z. Attached gone (z ∷ []) k x y (sides turned t u' v' ∷ rest)) (sides_are turned t u v ∙ ap (λ l. choose t l (cond turned u v)) (sym p) ∙ ap (choose t a) (sym q)) (h t));
            }
        by (s ∷ f) e h = absurd (no_more f (ap tail_of e))
          where
            no_more : (f : List Stm) → [] ≡ f ++ sides turned d u v ∷ [] → ⊥
            no_more [] e = cc
            no_more (s ∷ f) e = cc

  begins : (first : List Stm) (k : Tree) (x y z : List Stm) → Attached gone first k x y z → choose c a b ∷ [] ≡ first → Begins gone c a b k x y z
  begins first k x y z (apart l j u v) e = record {
    first = a;
    second = b;
    rest = choose j u v ∷ [];
    is = ap (λ f. f ++ choose j u v ∷ []) (sym e);
    any = λ d. apart (choose d a b ∷ []) j u v;
  }
  begins first k x y z (denied l j u v w i) e =
      let h = begins l j v u w i e in
      record { first = h.first; second = h.second; rest = h.rest; is = h.is; any = λ d. denied (choose d a b ∷ []) j u v (choose d h.first h.second ∷ h.rest) (h.any d) }
  begins first k x y z (unequal l j u v w i) e =
      let h = begins l j u v w i e in
      record { first = h.first; second = h.second; rest = h.rest; is = h.is; any = λ d. unequal (choose d a b ∷ []) j u v (choose d h.first h.second ∷ h.rest) (h.any d) }
  begins first k x y z (equal l j u v w i) e =
      let h = begins l j v u w i e in
      record { first = h.first; second = h.second; rest = h.rest; is = h.is; any = λ d. equal (choose d a b ∷ []) j u v (choose d h.first h.second ∷ h.rest) (h.any d) }
  begins first k x y z (pushed turned l f g d v t n u' v' w g' short i) e =
      begins_by turned l d (f ++ set t v ∷ []) (g ++ set t (number n) ∷ []) w (g ++ taken n u' v') (temp t) u' v' [] e
      (λ q. pushed turned [] f g q v t n u' v' w g' short i)
  begins first k x y z (jumped turned l f g d v t n u' v' w g' is i) e =
      begins_by turned l d (f ++ set t v ∷ []) (g ++ set t (number n) ∷ []) w g (temp t) u' v' (taken n u' v') e
      (λ q. jumped turned [] f g q v t n u' v' w g' is i)

-- ---- what is live where the sides of the first choice begin

unread_of : (temp : Bool) → (a b : Bool) → (temp || (a || b)) ≡ false → (a ≡ false) × (b ≡ false)
unread_of true a b e = from_falsity (sym e)
unread_of false true b e = from_falsity (sym e)
unread_of false false b e = (refl, e)

not_live : (b c : Bool) → (b ≡ true → c ≡ true) → c ≡ false → b ≡ false
not_live true c h e = from_falsity (sym e ∙ h refl)
not_live false c h e = refl

module _ (r : ℕ → Around) (t : ℕ) where
  live_choice : (c : Tree) (a b code : List Stm) → lives r (choose c a b ∷ code) t ≡ (reads_temp t c || (lives (before r code) a t || lives (before r code) b t))
  live_choice c a b code = ap (λ f. f.live (before r code t)) (flow_roll t (stm.If c a b))

  live_numbered : (a b code : List Stm) → lives r (choose (number 0) a b ∷ code) t ≡ (lives (before r code) a t || lives (before r code) b t)
  live_numbered a b code =
      live_choice (number 0) a b code ∙ ap (λ q. q || (lives (before r code) a t || lives (before r code) b t)) (reads_temp_roll t (tree.Number 0))

module _ (temps : ℕ) (r : ℕ → Around) (t : ℕ) where
  chosen_dead : (code made : List Stm) → Chosen temps r code made → lives r code t ≡ false → lives r made t ≡ false
  chosen_dead code made h = not_live (lives r made t) (lives r code t) (chosen_thin temps t r code made h (r t) (fits_itself t (r t)))

  -- of two choices that are the same but for what they ask
  numbered_dead : (a b code a' b' made : List Stm) → Chosen temps r (choose (number 0) a b ∷ code) (choose (number 0) a' b' ∷ made) →
      lives (before r code) a t ≡ false → lives (before r code) b t ≡ false →
      (lives (before r made) a' t ≡ false) × (lives (before r made) b' t ≡ false)
  numbered_dead a b code a' b' made h ea eb =
      let before_dead = live_numbered r t a b code ∙ ap (λ q. q || lives (before r code) b t) ea ∙ eb in
      unread_of false (lives (before r made) a' t) (lives (before r made) b' t)
      (sym (live_numbered r t a' b' made) ∙ chosen_dead (choose (number 0) a b ∷ code) (choose (number 0) a' b' ∷ made) h before_dead)

-- ---- a statement before some code

module _ (temps : ℕ) (r : ℕ → Around) (code made : List Stm) (live : Bits) (h : Chosen temps r code made) (unread : IsUnreadFirst temps r live made) where
  -- of a temporary that isn't live where either side of the choice begins that this was
  abbrev Dead : (first second : List Stm) → ℕ → Type 0
  Dead first second t = (t < temps) × ((lives (before r code) first t ≡ false) × (lives (before r code) second t ≡ false))

  module _ (s : Stm) (c : Tree) (a b : List Stm) (w : WasChoice temps (before r code) s c a b) where
    numbered : ChosenIn temps (before r code) (choose (number 0) w.first w.second) (choose (number 0) a b)
    numbered = chosen.choice (before r code) (number 0) w.first a w.second b w.of_first w.of_second

    stands_unread : (t : ℕ) → Dead w.first w.second t → IsUnread temps (before r made) a b t
    stands_unread t d =
        (d.0, numbered_dead temps r t w.first w.second code a b made (chosen.put r (choose (number 0) w.first w.second) (choose (number 0) a b) code made h numbered) d.1.0 d.1.1)

  became : (s y : Stm) (made' : List Stm) → ChosenIn temps (before r code) s y → IsPut (IsGone temps live) made y made' → Chosen temps r (s ∷ code) made'
  became s y made' k p = by made made' y p refl h k
    where
      by : (m m' : List Stm) (y : Stm) → IsPut (IsGone temps live) m y m' → m ≡ made → Chosen temps r code m → ChosenIn temps (before r code) s y → Chosen temps r (s ∷ code) m'
      by m m' y (stands u rest) e g k = chosen.put r s y code rest g k
      by m m' y (taken_in c j a b x y' z rest i) e g k =
          chosen.merged r s c j a b x y' z code rest g k (attached_as _ _ (unread j x y' rest (sym e)) (choose c a b ∷ []) j x y' z i)

  first_unread : (s y : Stm) (made' : List Stm) → ChosenIn temps (before r code) s y → IsPut (IsGone temps live) made y made' →
      (k : Tree) (a b rest : List Stm) → made' ≡ choose k a b ∷ rest →
      (first : List Stm) × (second : List Stm) × (q : Tree) × (s ≡ choose q first second) × ((t : ℕ) → Dead first second t → IsUnread temps (before r rest) a b t)
  first_unread s y made' g p = by made made' y p refl g h
    where
      by : (m m' : List Stm) (y : Stm) → IsPut (IsGone temps live) m y m' → m ≡ made → ChosenIn temps (before r code) s y → Chosen temps r code m →
          (k : Tree) (a b rest : List Stm) → m' ≡ choose k a b ∷ rest →
          (first : List Stm) × (second : List Stm) × (q : Tree) × (s ≡ choose q first second) × ((t : ℕ) → Dead first second t → IsUnread temps (before r rest) a b t)
      by m m' y (stands u l) e g i k a b rest is =
          let w = was_choice temps (before r code) s y g k a b (ap (λ l. head_of l y) is) in (
            w.first,
            w.second,
            k,
            w.is,
            λ t d.
                subst (λ l. IsUnread temps (before r l) a b t) (sym e ∙ ap tail_of is) (stands_unread s k a b w t d),
          )
      by m m' y (taken_in c j f g' x y' z l i) e g i' k a b rest is =
          let w = was_choice temps (before r code) s y g c f g' refl in
          let o = attached_as _ _ (unread j x y' l (sym e)) (choose c f g' ∷ []) j x y' z i in
          let n = begins _ c f g' (choose c f g' ∷ []) j x y' z o refl in
          let whole : choose c n.first n.second ∷ (n.rest ++ l) ≡ choose k a b ∷ rest = ap (λ v. v ++ l) (sym n.is) ∙ is in
          let head = ap (λ v. head_of v y) whole in
          let made_so = chosen.merged r (choose (number 0) w.first w.second) (number 0) j f g' x y' (choose (number 0) n.first n.second ∷ n.rest) code l i'
          (numbered s c f g' w) (n.any (number 0))
          in (
            w.first,
            w.second,
            c,
            w.is,
            λ t d. (
              d.0,
              subst (λ v. (lives (before r v) a t ≡ false) × (lives (before r v) b t ≡ false)) (ap tail_of whole)
                  (subst (λ v. (lives (before r (n.rest ++ l)) a t ≡ false) × (lives (before r (n.rest ++ l)) v t ≡ false)) (same_second c k n.first a n.second b head)
                  (subst (λ v. (lives (before r (n.rest ++ l)) v t ≡ false) × (lives (before r (n.rest ++ l)) n.second t ≡ false)) (same_first c k n.first a n.second b head)
                  (numbered_dead temps r t w.first w.second code n.first n.second (n.rest ++ l) made_so d.1.0 d.1.1))),
            ),
          )

sides_of : (x : Stm-F Stm) (s : Stm) (l : LiveSets) → s ≡ roll-Stm x → sides_row s l ≡ layer_sides x (sets l.around l.live)
sides_of x s l is = ap (λ u. layer_sides (out-Stm u) (sets l.around l.live)) is ∙ ap (λ u. layer_sides u (sets l.around l.live)) (out-roll-Stm x)

-- ---- the walk

walk_starts : (temps : ℕ) (s now : LiveSets) → now ≡ with_saved s s.around.none → IsChosenFrom temps s [] [] now
walk_starts temps s now e = record {
  live = s.around.none;
  is = e;
  chosen = λ r seen. chosen.none r;
  unread = λ r seen k x y rest is. no_first is;
}
  where
    no_first : {A : Type 0} {u : Stm} {l : List Stm} → [] ≡ u ∷ l → A
    no_first e = absurd (cc)

-- one statement further towards the start
pub walk_goes : (temps : ℕ) (start : LiveSets) (code made made' : List Stm) (s y : Stm) (now now' : LiveSets) → IsChosenFrom temps start code made now →
    HasChosen temps now s y → IsPut (IsGone temps (row_of now (Saved 0))) made y made' →
    now' ≡ with_saved (passed s (forgotten now)) (sides_row s (forgotten now)) → IsChosenFrom temps start (s ∷ code) made' now'
walk_goes temps start code made made' s y now now' w k p e = record {
  live = sides_row s here;
  is = e ∙ ap (λ l. with_saved (passed s (forgotten l)) (sides_row s (forgotten l))) w.is;
  chosen = λ r seen. became temps r code made w.live (w.chosen r seen) (w.unread r seen) s y made' (becomes r seen) put;
  unread = λ r seen j x y' rest is t gone.
      let f = first_unread temps r code made w.live (w.chosen r seen) (w.unread r seen) s y made' (becomes r seen) put j x y' rest is in
      f.4 t (gone.0, dead r seen f.0 f.1 f.2 f.3 t gone);
}
  where
    here : LiveSets
    here = with_live start (live_before (map stm_rows code) (sets start.around start.live))

    put : IsPut (IsGone temps w.live) made y made'
    put = subst (λ l. IsPut (IsGone temps (row_of l (Saved 0))) made y made') w.is p

    becomes : (r : ℕ → Around) → IsSeen temps (sets start.around start.live) r → ChosenIn temps (before r code) s y
    becomes r seen = k (before r code) (subst (λ l. IsSeen temps (sets l.around l.live) (before r code)) (sym w.is) (seen_before temps (sets start.around start.live) r seen code))

    dead : (r : ℕ → Around) → IsSeen temps (sets start.around start.live) r → (first second : List Stm) (q : Tree) → s ≡ choose q first second →
        (t : ℕ) → IsGone temps (sides_row s here) t → (lives (before r code) first t ≡ false) × (lives (before r code) second t ≡ false)
    dead r seen first second q is t gone =
        let now_sets = sets here.around here.live in
        let there = seen_before temps (sets start.around start.live) r seen code in
        let shown = code_shows temps first now_sets there.wide in
        unread_of false (lives (before r code) first t) (lives (before r code) second t)
        (ap (λ b. b || lives (before r code) second t) (sym (live_seen temps now_sets (before r code) there first t gone.0)) ∙
        ap (λ b. mark_at (live_before (map stm_rows first) now_sets) t || b) (sym (live_seen temps now_sets (before r code) there second t gone.0)) ∙
        sym (either_or (live_before (map stm_rows first) now_sets) (live_before (map stm_rows second) now_sets) t (omega (arith, shown.long, gone.0))) ∙
        ap (λ l. mark_at l t) (sym (sides_of (stm.If q first second) s here is)) ∙ gone.1)

-- some of the code is left
pub walk_begins : (temps : ℕ) (s now : LiveSets) (code left made : List Stm) → left ≡ code → made ≡ [] → now ≡ with_saved s s.around.none →
    IsChosenBehind temps s code left made now
walk_begins temps s now code left made is none_made e = record {
  behind = [];
  is = sym is ∙ sym (append-nil left);
  chosen = subst (λ k. IsChosenFrom temps s [] k now) (sym none_made) (walk_starts temps s now e);
}

-- ---- how much is left

pub last_less : (left left' : List Stm) (last : Option Stm) (s : Stm) (code behind : List Stm) → left ≡ left' ++ option_to_list last → last ≡ Some s →
    code ≡ left ++ behind → stm_size s ≤ statements code
last_less left left' last s code behind popped is whole =
    let parts : code ≡ (left' ++ s ∷ []) ++ behind = whole ∙ ap (λ l. l ++ behind) (popped ∙ ap (λ o. left' ++ option_to_list o) is) in
    omega (arith, ap statements parts, statements_append (left' ++ s ∷ []) behind, statements_append left' (s ∷ []))

pub if_size : (t : Tree) (a b : List Stm) → stm_size (at.If t a b) ≡ suc (statements a + statements b)
if_size t a b = ap stm_size (sym (rolls-If t a b)) ∙ size_roll (stm.If t a b)

pub loop_size : (b : List Stm) → stm_size (at.Loop b) ≡ suc (statements b)
loop_size b = ap stm_size (sym (rolls-Loop b)) ∙ size_roll (stm.Loop b)

pub block_size : (b : List Stm) → stm_size (at.Block b) ≡ suc (statements b)
block_size b = ap stm_size (sym (rolls-Block b)) ∙ size_roll (stm.Block b)

-- ---- what becomes of a statement

module _ (temps : ℕ) (s : LiveSets) where
  pub if_chosen : (t : Tree) (a a' b b' : List Stm) → AreChosen temps s a a' → AreChosen temps s b b' → HasChosen temps s (at.If t a b) (at.If t a' b')
  if_chosen t a a' b b' ha hb r seen =
      subst (λ x. ChosenIn temps r x (at.If t a' b')) (rolls-If t a b) (subst (ChosenIn temps r _) (rolls-If t a' b') (chosen.choice r t a a' b b' (ha r seen) (hb r seen)))

  -- what is live at the start of a loop is known before the loop is entered
  pub loop_chosen : (saved behind within : LiveSets) (b b' : List Stm) → saved ≡ with_saved s s.live →
      behind ≡ with_live saved ((stm_rows (at.Loop b)).live (sets saved.around saved.live)) → within ≡ entered behind (row_of behind (Saved 0)) behind.live →
      AreChosen temps within b b' → HasChosen temps s (at.Loop b) (at.Loop b')
  loop_chosen saved behind within b b' es eb ew h r seen =
      let is : within ≡ entered (with_live (with_saved s s.live) (turning s b).live) s.live (turning s b).live =
      ew ∙ ap (λ l. entered l (row_of l (Saved 0)) l.live) (eb ∙ ap (λ l. with_live l ((stm_rows (at.Loop b)).live (sets l.around l.live))) es) ∙
      ap (λ start. entered (with_live (with_saved s s.live) start) s.live start) (live_loop (sets s.around s.live) b)
      in
      let l = subst (λ l. AreChosen temps l b b') is h (in_loop r b) (seen_in_loop temps (sets s.around s.live) r seen b) in
      subst (λ x. ChosenIn temps r x (at.Loop b')) (rolls-Loop b) (subst (ChosenIn temps r _) (rolls-Loop b') (chosen.turns r b b' l))

  pub block_chosen : (within : LiveSets) (b b' : List Stm) → within ≡ entered s s.live s.around.none → AreChosen temps within b b' →
      HasChosen temps s (at.Block b) (at.Block b')
  block_chosen within b b' e h r seen =
      let l = subst (λ l. AreChosen temps l b b') e h (in_block r) (seen_in_block temps (sets s.around s.live) r seen) in
      subst (λ x. ChosenIn temps r x (at.Block b')) (rolls-Block b) (subst (ChosenIn temps r _) (rolls-Block b') (chosen.block r b b' l))

-- ---- from behind a statement to its start

-- of a statement that is no choice
pub no_sides : (s : Stm) (l : LiveSets) → ((t : Tree) (a b : List Stm) → s ≡ at.If t a b → ⊥) → sides_row s l ≡ l.around.none
no_sides s l none = by (out-Stm s) refl
  where
    by : (x : Stm-F Stm) → out-Stm s ≡ x → layer_sides x (sets l.around l.live) ≡ l.around.none
    by (stm.If t a b) e = absurd (none t a b (sym (roll-out-Stm s) ∙ ap roll-Stm e ∙ rolls-If t a b))
    by (stm.Set t v) e = refl
    by (stm.SetGlobal g v) e = refl
    by (stm.Divide t o a b) e = refl
    by (stm.Check a i) e = refl
    by (stm.Read t a i) e = refl
    by (stm.Write a i v) e = refl
    by (stm.Zero k) e = refl
    by (stm.Loop b) e = refl
    by (stm.Block b) e = refl
    by (stm.Break n) e = refl
    by (stm.Back n) e = refl
    by (stm.Call u f args) e = refl
    by (stm.Known u k args) e = refl
    by (stm.Return v) e = refl

module _ (l : LiveSets) where
  pub choice_passed : (t : Tree) (a a' b b' : List Stm) (l1 l2 l3 : LiveSets) → l1 ≡ with_live l (either_before a b (sets l.around l.live)) →
      l2 ≡ entered l1 l1.live l1.around.none → l3 ≡ with_live l2 (with_all_reads (own_trees (at.If t a' b')) l2.live) → l3 ≡ passed_within (at.If t a b) l
  choice_passed t a a' b b' l1 l2 l3 e1 e2 e3 =
      let around = sets l.around l.live in
      let either = either_before a b around in
      let reads : own_trees (at.If t a' b') ≡ own_trees (at.If t a b) = own_if t a' b' ∙ sym (own_if t a b) in
      e3 ∙ ap (λ k. with_live k (with_all_reads (own_trees (at.If t a' b')) k.live)) (e2 ∙ ap (λ k. entered k k.live k.around.none) e1) ∙
      ap (λ live. entered (with_live l live) either l.around.none) (ap (λ ts. with_all_reads ts either) reads ∙ sym (live_if around t a b)) ∙
      ap (λ e. entered (passed (at.If t a b) l) e l.around.none) (sym (sides_of (stm.If t a b) (at.If t a b) l (sym (rolls-If t a b))))

  pub plain_passed : (s : Stm) (l1 l2 : LiveSets) → sides_row s l ≡ l.around.none → l1 ≡ passed s l → l2 ≡ entered l1 l1.around.none l1.around.none →
      l2 ≡ passed_within s l
  plain_passed s l1 l2 none e1 e2 = e2 ∙ ap (λ k. entered k k.around.none k.around.none) e1 ∙ ap (λ e. entered (passed s l) e l.around.none) (sym none)

  pub block_passed : (b : List Stm) (l1 l2 l3 l4 : LiveSets) → l1 ≡ entered l l.live l.around.none →
      l2 ≡ with_live l1 (live_before (map stm_rows b) (sets l1.around l1.live)) → l3 ≡ left l2 → l4 ≡ entered l3 l3.around.none l3.around.none →
      l4 ≡ passed_within (at.Block b) l
  block_passed b l1 l2 l3 l4 e1 e2 e3 =
      plain_passed (at.Block b) l3 l4 (sides_of (stm.Block b) (at.Block b) l (sym (rolls-Block b)))
      (e3 ∙ ap left (e2 ∙ ap (λ k. with_live k (live_before (map stm_rows b) (sets k.around k.live))) e1) ∙
      ap (with_live l) (sym (live_block (sets l.around l.live) b)))

-- ---- a body

pub body_chosen : (temps : ℕ) (s : LiveSets) (code result : List Stm) → s.live ≡ replicate temps false → s.around.none ≡ replicate temps false →
    s.around.leaves ≡ [] → s.around.restarts ≡ [] → AreChosen temps s code result → Chosen temps (λ t. nowhere) code result
body_chosen temps s code result el en ee er h = h (λ t. nowhere) (subst (λ x. IsSeen temps x (λ t. nowhere)) (sym is) nothing)
  where
    bare : Bits
    bare = replicate temps false

    long : length bare ≡ temps
    long = length-replicate temps false

    is : sets s.around s.live ≡ no_sets bare
    is = λ i. record { none = en i; next = el i; leaves = ee i; restarts = er i }

    nothing : IsSeen temps (no_sets bare) (λ t. nowhere)
    nothing = record {
      wide = record { none = long; clear = clear_at temps; next = long; leaves = λ k. long; restarts = λ k. long };
      same = λ t lt. seen_nowhere temps bare t (clear_at temps t);
    }

-- ---- a statement before code that is kept with the last one first

pub put_stands : (gone : ℕ → Type 0) (kept all : List Stm) (s : Stm) → all ≡ kept ++ s ∷ [] → IsPut gone (reverse kept) s (reverse all)
put_stands gone kept all s e = subst (IsPut gone (reverse kept) s) (sym (ap reverse e ∙ reverse-append kept (s ∷ []))) (stands s (reverse kept))

pub put_takes : (gone : ℕ → Type 0) (kept stms rest first all : List Stm) (popped : Option Stm) (s : Stm) (c k : Tree) (a b x y z : List Stm) →
    stms ≡ kept → stms ≡ rest ++ option_to_list popped → popped ≡ Some s → s ≡ at.If k x y → first ≡ choose c a b ∷ [] → Attached gone first k x y z →
    reverse all ≡ z ++ reverse rest → IsPut gone (reverse kept) (choose c a b) (reverse all)
put_takes gone kept stms rest first all popped s c k a b x y z es ep eo ei ef att ea =
    let last : kept ≡ rest ++ choose k x y ∷ [] = sym es ∙ ep ∙ ap (λ o. rest ++ option_to_list o) eo ∙ ap (λ u. rest ++ u ∷ []) (ei ∙ sym (rolls-If k x y)) in
    subst (IsPut gone (reverse kept) (choose c a b)) (sym ea)
    (subst (λ l. IsPut gone l (choose c a b) (z ++ reverse rest)) (sym (ap reverse last ∙ reverse-append rest (choose k x y ∷ [])))
    (taken_in c k a b x y z (reverse rest) (subst (λ f. Attached gone f k x y z) ef att)))

pub attached_like : (gone : ℕ → Type 0) (first : List Stm) (k k' : Tree) (x x' y y' z : List Stm) → k ≡ k' → x ≡ x' → y ≡ y' → Attached gone first k x y z →
    Attached gone first k' x' y' z
attached_like gone first k k' x x' y y' z ek ex ey h =
    subst (λ q. Attached gone first q x' y' z) ek (subst (λ q. Attached gone first k q y' z) ex (subst (λ q. Attached gone first k x q z) ey h))
