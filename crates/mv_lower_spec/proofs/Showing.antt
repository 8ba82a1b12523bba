-- How what code shows is put together: one part and then the next, and values that are put away.
use Rattle.std.proofs.Common.{◌≡◌, ℕ, ◌+◌, ◌*◌, ◌<◌, ◌≤◌, Bool, true, false, List, [], ◌∷◌, ◌++◌, max, refl, sym, ◌∙◌, subst, ap, arith, append-nil}
use Rattle.std.specs.Prelude.{◌&&◌}
use Rattle.std.proofs.lemmas.List.{get_or-set_same, get_or-set_other, length-set}
use Rattle.mv_ir.specs.declared.tree.Tree.{Tree}
use Rattle.mv_ir.specs.declared.stm.Stm.{Stm}
use Rattle.mv_ast.specs.Worlds.{World, Outcome, Came, Stopped, after, and_then, bind, give, counted}
use Rattle.mv_meaning.specs.declared.state.Frame.{Frame}
use Rattle.mv_meaning.specs.Meaning.{Evaluation}
use Rattle.mv_ir.specs.Outcome.{State, Next, Ends, Bound}
use Rattle.mv_ir.specs.Trees.{nodes}
use Rattle.mv_ir.specs.Meaning.{with_temp}
use Rattle.mv_ir.specs.KnownFunctions.{seen}
use Rattle.mv_lower_spec.specs.Lowered.{Lowered, Lowering, temp, set, is_empty, is_low, kept_if, first, second}
use Rattle.mv_lower_spec.specs.Correct as c
use Rattle.mv_lower_spec.specs.Correct.{Scene, val, Shows, Kept, Reached, Shown, CorrectFor, Correct}
use Rattle.mv_lower_spec.proofs.Running as run
use Rattle.mv_lower_spec.proofs.Running.{nodes_temp}

module _ (scene : Scene) where
  -- ---- a temporary that is no local

  pub shows_temp : (f : Frame) (w : World) (s : State) (n v : ℕ) → scene.floor ≤ n → Shows scene f w s → Shows scene f w (with_temp s n v)
  shows_temp f w s n v h k = record {
    around = k.around;
    in_arrays = k.in_arrays;
    in_temps = record {
      above = k.above;
      below = λ j le lt. get_or-set_other s.temps n j v 0 (λ e. absurd (omega (arith, h, lt, e))) ∙ k.below j le lt;
      temps = length-set s.temps n v ∙ k.temps;
    };
    each = λ l le sc. get_or-set_other s.temps n l v 0 (λ e. absurd (omega (arith, h, le, e, k.above))) ∙ k.each l le sc;
  }

  pub kept_refl : (n : ℕ) (s : State) → Kept scene n s s
  kept_refl n s k le lt = refl

  pub kept_temp : (n : ℕ) (s : State) (v : ℕ) → Kept scene n s (with_temp s n v)
  kept_temp n s v k le lt = get_or-set_other s.temps n k v 0 (λ e. absurd (omega (arith, lt, e)))

  pub kept_trans : (n m : ℕ) (s s1 s2 : State) → n ≤ m → Kept scene n s s1 → Kept scene m s1 s2 → Kept scene n s s2
  kept_trans n m s s1 s2 le h k i a b = k i a (omega (arith, le, b)) ∙ h i a b

  pub kept_top : (keep : Bool) (n : ℕ) (l : Lowered) → (kept_if keep n l).top ≤ scene.room → l.top ≤ scene.room
  kept_top true n l h = h
  kept_top false n l h = omega (arith, h)

  -- a value that is put away, or behind which no code comes, lasts
  pub lasts : (keep : Bool) (n : ℕ) (l : Lowered) (s s1 : State) → scene.floor ≤ n → (keep ≡ true → s ≡ s1) → Kept scene (n + 1) s s1 → val scene (kept_if keep n l).tree s1 ≡ val scene (kept_if keep n l).tree s
  lasts true n l s s1 le e k = ap (val scene l.tree) (sym (e refl))
  lasts false n l s s1 le e k =
      run.val_temp scene n s1 ∙ k n le (omega arith) ∙ sym (run.val_temp scene n s)

module _ (scene : Scene) (bound : Bound) where
  -- ---- credit

  pub more_credit : (due due' credit credit' n m : ℕ) (s : State) (code : List Stm) (t : Tree) (o : Outcome Frame ℕ) →
      n ≤ m → due' + credit ≤ due + credit' → credit ≤ credit' → Shown scene bound due credit m s code t o → Shown scene bound due' credit' n s code t o
  more_credit due due' credit credit' n m s code t (Came v f w work) nm le lc h = record {
    state = h.state;
    cost = h.cost;
    runs = h.runs;
    shows = h.shows;
    value = h.value;
    kept = λ i a b. h.kept i a (omega (arith, nm, b));
    paid = omega (arith, le, h.paid);
  }
  more_credit due due' credit credit' n m s code t (Stopped why w work) nm le lc h = record { cost = h.cost; runs = h.runs; paid = omega (arith, lc, h.paid) }

  -- some work pays
  pub paid_by : (due credit n k : ℕ) (s : State) (code : List Stm) (t : Tree) (o : Outcome Frame ℕ) → Shown scene bound due (credit + 100 * k) n s code t o → Shown scene bound due credit n s code t (after k o)
  paid_by due credit n k s code t (Came v f w work) h = record {
    state = h.state;
    cost = h.cost;
    runs = h.runs;
    shows = h.shows;
    value = h.value;
    kept = h.kept;
    paid = omega (arith, h.paid);
  }
  paid_by due credit n k s code t (Stopped why w work) h = record { cost = h.cost; runs = h.runs; paid = omega (arith, h.paid) }

  -- ---- one part and then the rest

  then_rest : (due total credit d c1 n n1 : ℕ) (s : State) (code rest : List Stm) (t t1 : Tree) (v : ℕ) (f : Frame) (w : World) (work : ℕ) (r : Reached scene bound d c1 n1 s code t1 v f w work) (o : Outcome Frame ℕ) →
      n ≤ n1 → c1 + credit ≤ total → Shown scene bound due (credit + (3 * nodes t1 + d)) n r.state rest t o → Shown scene bound due total n s (code ++ rest) t (after work o)
  then_rest due total credit d c1 n n1 s code rest t t1 v f w work r (Came v2 f2 w2 work2) le enough h = record {
    state = h.state;
    cost = r.cost + h.cost;
    runs = run.runs_append scene bound code rest s r.state (Next h.state) r.cost h.cost r.runs h.runs;
    shows = h.shows;
    value = h.value;
    kept = λ i a b. h.kept i a b ∙ r.kept i a (omega (arith, le, b));
    paid = omega (arith, enough, h.paid, r.paid);
  }
  then_rest due total credit d c1 n n1 s code rest t t1 v f w work r (Stopped why w2 work2) le enough h = record {
    cost = r.cost + h.cost;
    runs = λ ne. run.runs_append scene bound code rest s r.state (Ends (c.end_of why (seen w2))) r.cost h.cost r.runs (h.runs ne);
    paid = omega (arith, enough, h.paid, r.paid);
  }

  pub follow : (due total credit d c1 n n1 : ℕ) (s : State) (code rest : List Stm) (t t1 : Tree) (o : Outcome Frame ℕ) (next : ℕ → Evaluation ℕ) → n ≤ n1 → c1 + credit ≤ total →
      Shown scene bound d c1 n1 s code t1 o →
      ((v : ℕ) (f : Frame) (w : World) (work : ℕ) (r : Reached scene bound d c1 n1 s code t1 v f w work) → Shown scene bound due (credit + (3 * nodes t1 + d)) n r.state rest t (next v f w)) →
      Shown scene bound due total n s (code ++ rest) t (and_then o next)
  follow due total credit d c1 n n1 s code rest t t1 (Came v f w work) next le enough h k =
      then_rest due total credit d c1 n n1 s code rest t t1 v f w work h (next v f w) le enough (k v f w work h)
  follow due total credit d c1 n n1 s code rest t t1 (Stopped why w work) next le enough h k = record {
    cost = h.cost;
    runs = λ ne. run.runs_stop scene bound code rest s (c.end_of why (seen w)) h.cost (h.runs ne);
    paid = omega (arith, enough, h.paid);
  }

  -- nothing more to do
  pub done : (due credit n : ℕ) (s : State) (t : Tree) (v : ℕ) (f : Frame) (w : World) → Shows scene f w s → val scene t s ≡ v → 3 * nodes t + due ≤ credit → Shown scene bound due credit n s [] t (give v f w)
  done due credit n s t v f w h e le = record {
    state = s;
    cost = 0;
    runs = run.runs_nil scene bound s;
    shows = h;
    value = e;
    kept = kept_refl scene n s;
    paid = omega (arith, le);
  }

  -- the same code, written with nothing behind it
  pub without_nil : (due credit n : ℕ) (s : State) (code : List Stm) (t : Tree) (o : Outcome Frame ℕ) → Shown scene bound due credit n s (code ++ []) t o → Shown scene bound due credit n s code t o
  without_nil due credit n s code t o h = subst (λ l. Shown scene bound due credit n s l t o) (append-nil code) h

  -- ---- a value in a temporary: in the free one itself, or in one above it

  pub put_away : (credit n at : ℕ) (s : State) (l : Lowered) (o : Outcome Frame ℕ) → n ≤ at → scene.floor ≤ at → at < scene.room →
      Shown scene bound 11 credit n s l.code l.tree o → Shown scene bound 0 credit n s (l.code ++ set at l.tree ∷ []) (temp at) o
  put_away credit n at s l (Came v f w work) up le lt r =
      let x = val scene l.tree r.state in
      record {
        state = with_temp r.state at x;
        cost = r.cost + (8 + 3 * nodes l.tree);
        runs = run.runs_append scene bound l.code (set at l.tree ∷ []) s r.state _ r.cost _ r.runs (run.runs_set scene bound at l.tree r.state);
        shows = shows_temp scene f w r.state at x le r.shows;
        value = run.val_temp scene at (with_temp r.state at x) ∙ get_or-set_same r.state.temps at x 0 (subst (λ k. at < k) (sym r.shows.temps) lt) ∙ r.value;
        kept = kept_trans scene n at s r.state (with_temp r.state at x) up r.kept (kept_temp scene at r.state x);
        paid = omega (arith, r.paid, nodes_temp at);
      }
  put_away credit n at s l (Stopped why w work) up le lt h = record {
    cost = h.cost;
    runs = λ ne. run.runs_stop scene bound l.code (set at l.tree ∷ []) s _ h.cost (h.runs ne);
    paid = h.paid;
  }

  pub kept_shown : (credit : ℕ) (keep : Bool) (n : ℕ) (s : State) (l : Lowered) (o : Outcome Frame ℕ) → scene.floor ≤ n → (kept_if keep n l).top ≤ scene.room → Shown scene bound 11 credit n s l.code l.tree o →
      Shown scene bound 0 credit n s (kept_if keep n l).code (kept_if keep n l).tree o
  kept_shown credit true n s l o le lt h = more_credit 11 0 credit credit n n s l.code l.tree o (omega arith) (omega arith) (omega arith) h
  kept_shown credit false n s l o le lt h = put_away credit n n s l o (omega arith) le (omega (arith, lt)) h

  -- ---- two operands

  empty : (xs : List Stm) (b : Bool) → (is_empty xs && b) ≡ true → xs ≡ []
  empty [] b e = refl
  empty (x ∷ xs) b e = absurd (false_is e)
    where
      Is : Bool → Type 0
      Is true = ⊥
      Is false = Unit {0}

      false_is : false ≡ true → ⊥
      false_is h = subst Is h tt

  pub two : (due total credit ka kb n : ℕ) (f : Frame) (w : World) (s : State) (ma mb : Evaluation ℕ) (la lb : Lowering) (rest : List Stm) (t : Tree) (next : ℕ → ℕ → Evaluation ℕ) →
      ka + (kb + credit) ≤ total → scene.floor ≤ n → max (first la lb n).top (second lb n).top ≤ scene.room → Shows scene f w s → CorrectFor scene bound ka ma la → CorrectFor scene bound kb mb lb →
      ((x y : ℕ) (f2 : Frame) (w2 : World) (s2 : State) → Shows scene f2 w2 s2 → val scene (first la lb n).tree s2 ≡ x → val scene (second lb n).tree s2 ≡ y →
      Shown scene bound due (credit + (3 * nodes (first la lb n).tree + 3 * nodes (second lb n).tree)) n s2 rest t (next x y f2 w2)) →
      Shown scene bound due total n s ((first la lb n).code ++ ((second lb n).code ++ rest)) t (bind ma (λ x. bind mb (λ y. next x y)) f w)
  two due total credit ka kb n f w s ma mb la lb rest t next enough le lt h ca cb k =
      let keep = is_empty (second lb n).code && is_low (la n).tree in
      let low = is_low (lb (n + 1)).tree in
      let la_fits = kept_top scene keep n (la n) (omega (arith, lt)) in
      let lb_fits = kept_top scene low (n + 1) (lb (n + 1)) (omega (arith, lt)) in
      follow due total (kb + credit) 0 ka n n s (first la lb n).code ((second lb n).code ++ rest) t (first la lb n).tree (ma f w)
      (λ x. bind mb (λ y. next x y)) (omega arith) enough (kept_shown ka keep n s (la n) (ma f w) le (omega (arith, lt)) (ca n f w s le la_fits h))
      (λ x f1 w1 work1 r1. follow due (kb + credit + (3 * nodes (first la lb n).tree + 0)) (credit + 3 * nodes (first la lb n).tree) 0 kb n (n + 1)
      r1.state (second lb n).code rest t (second lb n).tree (mb f1 w1) (λ y. next x y) (omega arith) (omega arith)
      (kept_shown kb low (n + 1) r1.state (lb (n + 1)) (mb f1 w1) (omega (arith, le)) (omega (arith, lt))
      (cb (n + 1) f1 w1 r1.state (omega (arith, le)) lb_fits r1.shows))
      (λ y f2 w2 work2 r2. more_credit due due (credit + (3 * nodes (first la lb n).tree + 3 * nodes (second lb n).tree))
      (credit + 3 * nodes (first la lb n).tree + (3 * nodes (second lb n).tree + 0)) n n r2.state rest t (next x y f2 w2) (omega arith)
      (omega arith) (omega arith)
      (k x y f2 w2 r2.state r2.shows
      (lasts scene keep n (la n) r1.state r2.state le
      (λ e. run.runs_nowhere scene bound (second lb n).code r1.state r2.state r2.cost
      (empty (second lb n).code (is_low (la n).tree) e) r2.runs) r2.kept ∙
      r1.value) r2.value)))

  -- ---- work that pays

  -- a node of the source pays 100
  pub counted_once : (m : Evaluation ℕ) (l : Lowering) → CorrectFor scene bound 100 m l → Correct scene bound (counted 1 m) l
  counted_once m l h n f w s le fits sh = paid_by 11 0 n 1 s (l n).code (l n).tree (m f w) (h n f w s le fits sh)

  -- what is correct with some credit is so with more
  pub with_more : (k k' : ℕ) (m : Evaluation ℕ) (l : Lowering) → k ≤ k' → CorrectFor scene bound k m l → CorrectFor scene bound k' m l
  with_more k k' m l up h n f w s le fits sh = more_credit 11 11 k k' n n s (l n).code (l n).tree (m f w) (omega arith) (omega (arith, up)) up (h n f w s le fits sh)

  -- a computation that comes to the same
  pub comes_to : (k : ℕ) (m m' : Evaluation ℕ) (l : Lowering) → ((f : Frame) (w : World) → m f w ≡ m' f w) → CorrectFor scene bound k m l → CorrectFor scene bound k m' l
  comes_to k m m' l same h n f w s le fits sh = subst (λ (o : Outcome Frame ℕ). Shown scene bound 11 k n s (l n).code (l n).tree o) (same f w) (h n f w s le fits sh)
