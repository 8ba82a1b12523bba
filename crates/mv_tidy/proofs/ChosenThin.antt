-- Where choices are put together nothing is live that wasn't, and no other temporaries are read or written.
use Rattle.std.proofs.Common.{◌≡◌, ℕ, Bool, true, false, cond, not, eqb, ◌&&◌, ◌||◌, List, [], ◌∷◌, ◌++◌, map, refl, sym, ◌∙◌, ap, ◌⊎◌, inl, inr, append-nil}
use Rattle.std.proofs.lemmas.Bool.{eqb-true, or_left, or_right}
use Rattle.mv_num.proofs.Booleans.{or_cases, from_falsity}
use Rattle.mv_ast.specs.Names.{any_of}
use Rattle.mv_ir.specs.declared.tree.Tree.{Tree}
use Rattle.mv_ir.specs.declared.tree.Tree.TheOpen as tree
use Rattle.mv_ir.specs.declared.stm.Stm.{Stm}
use Rattle.mv_ir.specs.declared.stm.Stm.TheOpen as stm
use Rattle.mv_ir.specs.declared.body.Body.{Body}
use Rattle.mv_ir.specs.Operators as operator
use Rattle.mv_ir.specs.Live.{reads_temp, Around, Flow, with_after, around_block, around_loop, live_in_order, marks_in_order, live_at_loop, flow, nowhere, live_at_start, IsWhole, HasTemps}
use Rattle.mv_ir.specs.Rolled.{number, temp, unary, binary, set, choose, repeat, enclosed}
use Rattle.mv_ir.proofs.Rolls.{flow_roll, reads_temp_roll}
use Rattle.mv_ir.proofs.Keeping.{map_append}
use Rattle.mv_ir.proofs.Living.{settled}
use Rattle.mv_ir.proofs.Joining.{live_append, marks_append, any_append}
use Rattle.mv_fold.proofs.Thinner.{or_both, FitsAround, nowhere_fits}
use Rattle.mv_fold.proofs.FoldedThinner.{every}
use Rattle.mv_tidy.specs.Tidying.{lives}
use Rattle.mv_tidy.specs.Choosing.{is_jump, taken, IsUnread, Chosen}
use Rattle.mv_fold.proofs.Marks.{any_left, any_right}
use Rattle.mv_tidy.proofs.Thinning.{Fits, live_in, marks_in, fits_after, fits_loop, fits_block, same_thin, fits_itself, still_whole, still_temps}
use Rattle.mv_tidy.proofs.ChosenSteps.{IsStepwise, steps_is, live_at_jump, by_jump}

either : {a b c : Bool} → (a ≡ true → c ≡ true) → (b ≡ true → c ≡ true) → (a || b) ≡ true → c ≡ true
either {a} {b} {c} h k e = by (or_cases a b e)
  where
    by : (a ≡ true) ⊎ (b ≡ true) → c ≡ true
    by (inl x) = h x
    by (inr y) = k y

module _ (temps u : ℕ) where
  abbrev F : Around → Around → Type 0
  F = Fits temps u

  abbrev live : List Stm → Around → Bool
  live = live_in temps u

  -- whether it is live or written somewhere
  abbrev marked : List Stm → Around → Bool
  marked xs r = any_of (marks_in temps u xs r)

  -- of what is live in the second, and live or written in it, nothing is new
  pub record Thins (r : Around) (xs ys : List Stm) : Type 0 where
    pub live : (r' : Around) → F r r' → live_in temps u ys r' ≡ true → live_in temps u xs r ≡ true
    pub marks : (r' : Around) → F r r' → marked ys r' ≡ true → marked xs r ≡ true

  own : (r : Around) → F r r
  own = fits_itself u

  -- ---- one after the other

  live_both : (xs ys : List Stm) (r : Around) → live (xs ++ ys) r ≡ live xs (with_after r (live ys r))
  live_both xs ys r = ap (λ l. live_in_order l r) (map_append (flow u) xs ys) ∙ live_append (map (flow u) xs) (map (flow u) ys) r

  marked_both : (xs ys : List Stm) (r : Around) → marked (xs ++ ys) r ≡ (marked xs (with_after r (live ys r)) || marked ys r)
  marked_both xs ys r = ap any_of (ap (λ l. marks_in_order l r) (map_append (flow u) xs ys) ∙ marks_append (map (flow u) xs) (map (flow u) ys) r) ∙
      any_append (marks_in temps u xs (with_after r (live ys r))) (marks_in temps u ys r)

  thin_both : (r : Around) (xs xs' ys ys' : List Stm) → Thins (with_after r (live ys r)) xs xs' → Thins r ys ys' → Thins r (xs ++ ys) (xs' ++ ys')
  thin_both r xs xs' ys ys' h k = record {
    live = λ r' f e. live_both xs ys r ∙ h.live (with_after r' (live ys' r')) (further r' f) (sym (live_both xs' ys' r') ∙ e);
    marks = λ r' f e. marked_both xs ys r ∙
        or_both (marked xs (with_after r (live ys r))) (marked ys r) (marked xs' (with_after r' (live ys' r'))) (marked ys' r')
        (h.marks (with_after r' (live ys' r')) (further r' f)) (k.marks r' f) (sym (marked_both xs' ys' r') ∙ e);
  }
    where
      further : (r' : Around) → F r r' → F (with_after r (live ys r)) (with_after r' (live ys' r'))
      further r' f = fits_after temps u r r' (live ys r) (live ys' r') f (k.live r' f)

  thin_one : (r : Around) (s : Stm) → Thins r (s ∷ []) (s ∷ [])
  thin_one r s = record {
    live = λ r' f e. (same_thin temps u r s).live r' f e;
    marks = λ r' f e. ap any_of (append-nil ((flow u s).marks r)) ∙ (same_thin temps u r s).marks r' f (sym (ap any_of (append-nil ((flow u s).marks r'))) ∙ e);
  }

  thin_itself : (r : Around) (xs : List Stm) → Thins r xs xs
  thin_itself r [] = record { live = λ r' f e. (f.next e).0; marks = λ r' f e. e }
  thin_itself r (s ∷ xs) = thin_both r (s ∷ []) (s ∷ []) xs xs (thin_one (with_after r (live xs r)) s) (thin_itself r xs)

  thin_trans : (r : Around) (xs ys zs : List Stm) → Thins r xs ys → Thins r ys zs → Thins r xs zs
  thin_trans r xs ys zs h k = record { live = λ r' f e. h.live r (own r) (k.live r' f e); marks = λ r' f e. h.marks r (own r) (k.marks r' f e) }

  -- it is enough with the same around both
  thin_here : (r : Around) (xs ys : List Stm) → (live ys r ≡ true → live xs r ≡ true) → (marked ys r ≡ true → marked xs r ≡ true) → Thins r xs ys
  thin_here r xs ys h k = record { live = λ r' f e. h ((thin_itself r ys).live r' f e); marks = λ r' f e. k ((thin_itself r ys).marks r' f e) }

  -- ---- choices

  abbrev chosen_live : Bool → (x y : List Stm) → Around → Bool
  chosen_live c x y r = c || (live x r || live y r)

  abbrev chosen_marked : Bool → (x y : List Stm) → Around → Bool
  chosen_marked c x y r = chosen_live c x y r || (marked x r || marked y r)

  live_choice : (c : Tree) (x y : List Stm) (r : Around) → live (choose c x y ∷ []) r ≡ chosen_live (reads_temp u c) x y r
  live_choice c x y r = ap (λ (g : Flow). g.live r) (flow_roll u (stm.If c x y))

  marked_choice : (c : Tree) (x y : List Stm) (r : Around) → marked (choose c x y ∷ []) r ≡ chosen_marked (reads_temp u c) x y r
  marked_choice c x y r =
      ap any_of (append-nil ((flow u (choose c x y)).marks r)) ∙ ap (λ (g : Flow). any_of (g.marks r)) (flow_roll u (stm.If c x y)) ∙
      ap (λ b. chosen_live (reads_temp u c) x y r || b) (any_append (marks_in temps u x r) (marks_in temps u y r))

  -- from what a choice's condition reads, from its sides
  live_reads : (c : Tree) (x y : List Stm) (r : Around) → reads_temp u c ≡ true → live (choose c x y ∷ []) r ≡ true
  live_reads c x y r e = live_choice c x y r ∙ or_left _ _ e

  live_first : (c : Tree) (x y : List Stm) (r : Around) → live x r ≡ true → live (choose c x y ∷ []) r ≡ true
  live_first c x y r e = live_choice c x y r ∙ or_right (reads_temp u c) _ (or_left _ _ e)

  live_second : (c : Tree) (x y : List Stm) (r : Around) → live y r ≡ true → live (choose c x y ∷ []) r ≡ true
  live_second c x y r e = live_choice c x y r ∙ or_right (reads_temp u c) _ (or_right (live x r) _ e)

  live_cases : {A : Bool} (c : Tree) (x y : List Stm) (r : Around) → (reads_temp u c ≡ true → A ≡ true) → (live x r ≡ true → A ≡ true) →
      (live y r ≡ true → A ≡ true) → live (choose c x y ∷ []) r ≡ true → A ≡ true
  live_cases c x y r hc hx hy e = either hc (either hx hy) (sym (live_choice c x y r) ∙ e)

  marked_live : (c : Tree) (x y : List Stm) (r : Around) → live (choose c x y ∷ []) r ≡ true → marked (choose c x y ∷ []) r ≡ true
  marked_live c x y r e = marked_choice c x y r ∙ or_left _ _ (sym (live_choice c x y r) ∙ e)

  marked_first : (c : Tree) (x y : List Stm) (r : Around) → marked x r ≡ true → marked (choose c x y ∷ []) r ≡ true
  marked_first c x y r e = marked_choice c x y r ∙ or_right (chosen_live (reads_temp u c) x y r) _ (or_left _ _ e)

  marked_second : (c : Tree) (x y : List Stm) (r : Around) → marked y r ≡ true → marked (choose c x y ∷ []) r ≡ true
  marked_second c x y r e = marked_choice c x y r ∙ or_right (chosen_live (reads_temp u c) x y r) _ (or_right (marked x r) _ e)

  marked_cases : {A : Bool} (c : Tree) (x y : List Stm) (r : Around) → (live (choose c x y ∷ []) r ≡ true → A ≡ true) → (marked x r ≡ true → A ≡ true) →
      (marked y r ≡ true → A ≡ true) → marked (choose c x y ∷ []) r ≡ true → A ≡ true
  marked_cases c x y r hc hx hy e = either (λ k. hc (live_choice c x y r ∙ k)) (either hx hy) (sym (marked_choice c x y r) ∙ e)

  -- the condition reads no more, and each side is one of those that were
  thin_branch : (r : Around) (c c' : Tree) (x x' y y' : List Stm) → (reads_temp u c' ≡ true → reads_temp u c ≡ true) → Thins r x x' → Thins r y y' →
      Thins r (choose c x y ∷ []) (choose c' x' y' ∷ [])
  thin_branch r c c' x x' y y' hc hx hy = record {
    live = on;
    marks = λ r' f. marked_cases c' x' y' r' (λ e. marked_live c x y r (on r' f e)) (λ e. marked_first c x y r (hx.marks r' f e))
        (λ e. marked_second c x y r (hy.marks r' f e));
  }
    where
      on : (r' : Around) → F r r' → live (choose c' x' y' ∷ []) r' ≡ true → live (choose c x y ∷ []) r ≡ true
      on r' f = live_cases c' x' y' r' (λ e. live_reads c x y r (hc e)) (λ e. live_first c x y r (hx.live r' f e)) (λ e. live_second c x y r (hy.live r' f e))

  thin_turned : (r : Around) (c c' : Tree) (x y : List Stm) → (reads_temp u c' ≡ true → reads_temp u c ≡ true) →
      Thins r (choose c x y ∷ []) (choose c' y x ∷ [])
  thin_turned r c c' x y hc =
      let on = live_cases c' y x r (λ e. live_reads c x y r (hc e)) (live_second c x y r) (live_first c x y r) in
      thin_here r _ _ on (marked_cases c' y x r (λ e. marked_live c x y r (on e)) (marked_second c x y r) (marked_first c x y r))

  reads_unary : (o : ℕ) (k : Tree) → reads_temp u k ≡ true → reads_temp u (unary o k) ≡ true
  reads_unary o k e = reads_temp_roll u (tree.Unary o k) ∙ e

  reads_binary : (o : ℕ) (k l : Tree) → reads_temp u k ≡ true → reads_temp u (binary o k l) ≡ true
  reads_binary o k l e = reads_temp_roll u (tree.Binary o k l) ∙ or_left (reads_temp u k) (reads_temp u l) e

  -- code behind a choice
  thin_inside : (r : Around) (c : Tree) (x y code : List Stm) → Thins r (choose c x y ∷ code) (choose c (x ++ code) (y ++ code) ∷ [])
  thin_inside r c x y code = thin_here r _ _ on
      (marked_cases c (x ++ code) (y ++ code) r (λ e. there (marked_live c x y r2 (on e))) (λ e. side (marked_first c x y r2) (sym (marked_both x code r) ∙ e))
      (λ e. side (marked_second c x y r2) (sym (marked_both y code r) ∙ e)))
    where
      r2 : Around
      r2 = with_after r (live code r)

      on : live (choose c (x ++ code) (y ++ code) ∷ []) r ≡ true → live (choose c x y ∷ []) r2 ≡ true
      on = live_cases c (x ++ code) (y ++ code) r (live_reads c x y r2) (λ e. live_first c x y r2 (sym (live_both x code r) ∙ e))
          (λ e. live_second c x y r2 (sym (live_both y code r) ∙ e))

      there : marked (choose c x y ∷ []) r2 ≡ true → marked (choose c x y ∷ code) r ≡ true
      there e = marked_both (choose c x y ∷ []) code r ∙ or_left (marked (choose c x y ∷ []) r2) (marked code r) e

      side : {b : Bool} → (b ≡ true → marked (choose c x y ∷ []) r2 ≡ true) → (b || marked code r) ≡ true → marked (choose c x y ∷ code) r ≡ true
      side h = either (λ e. there (h e)) (λ e. marked_both (choose c x y ∷ []) code r ∙ or_right (marked (choose c x y ∷ []) r2) (marked code r) e)

  thin_outside : (r : Around) (c : Tree) (x y code : List Stm) → Thins r (choose c (x ++ code) (y ++ code) ∷ []) (choose c x y ∷ code)
  thin_outside r c x y code = thin_here r _ _ on
      (λ e. either (marked_cases c x y r2 (λ k. marked_live c (x ++ code) (y ++ code) r (on k)) first second) last
      (sym (marked_both (choose c x y ∷ []) code r) ∙ e))
    where
      r2 : Around
      r2 = with_after r (live code r)

      on : live (choose c x y ∷ []) r2 ≡ true → live (choose c (x ++ code) (y ++ code) ∷ []) r ≡ true
      on = live_cases c x y r2 (live_reads c (x ++ code) (y ++ code) r) (λ e. live_first c (x ++ code) (y ++ code) r (live_both x code r ∙ e))
          (λ e. live_second c (x ++ code) (y ++ code) r (live_both y code r ∙ e))

      first : marked x r2 ≡ true → marked (choose c (x ++ code) (y ++ code) ∷ []) r ≡ true
      first e = marked_first c (x ++ code) (y ++ code) r (marked_both x code r ∙ or_left (marked x r2) (marked code r) e)

      second : marked y r2 ≡ true → marked (choose c (x ++ code) (y ++ code) ∷ []) r ≡ true
      second e = marked_second c (x ++ code) (y ++ code) r (marked_both y code r ∙ or_left (marked y r2) (marked code r) e)

      last : marked code r ≡ true → marked (choose c (x ++ code) (y ++ code) ∷ []) r ≡ true
      last e = marked_first c (x ++ code) (y ++ code) r (marked_both x code r ∙ or_right (marked x r2) (marked code r) e)

  -- ---- a temporary that is set, and asked for

  module _ (around : ℕ → Around) (t : ℕ) (e : Tree) (x y : List Stm) (unread : IsUnread temps around x y t) where
    abbrev r : Around
    r = around u

    abbrev asked : List Stm
    asked = choose (temp t) x y ∷ []

    abbrev both : List Stm
    both = set t e ∷ asked

    live_set : live both r ≡ ((reads_temp u e || false) || (not (eqb t u) && live asked r))
    live_set = ap (λ (g : Flow). g.live (with_after r (live asked r))) (flow_roll u (stm.Set t e))

    -- what is live in a side isn't the temporary
    other : (xs : List Stm) → lives around xs t ≡ false → live xs r ≡ true → (live xs r ≡ true → live asked r ≡ true) → live both r ≡ true
    other xs d l h = live_set ∙ or_right (reads_temp u e || false) _ (by (eqb t u) refl)
      where
        by : (c : Bool) → eqb t u ≡ c → (not (eqb t u) && live asked r) ≡ true
        by true q = from_falsity (sym d ∙ ap (λ v. lives around xs v) (eqb-true t u q) ∙ l)
        by false q = ap (λ c. not c && live asked r) q ∙ h l

    live_x : live x r ≡ true → live both r ≡ true
    live_x l = other x unread.1.0 l (live_first (temp t) x y r)

    live_y : live y r ≡ true → live both r ≡ true
    live_y l = other y unread.1.1 l (live_second (temp t) x y r)

    live_e : reads_temp u e ≡ true → live both r ≡ true
    live_e l = live_set ∙ or_left (reads_temp u e || false) _ (or_left (reads_temp u e) false l)

    from_choice : marked asked r ≡ true → marked both r ≡ true
    from_choice = any_right ((flow u (set t e)).marks (with_after r (live asked r))) (marks_in temps u asked r)

    from_live : live both r ≡ true → marked both r ≡ true
    from_live l = any_left ((flow u (set t e)).marks (with_after r (live asked r))) (marks_in temps u asked r)
        (ap (λ (g : Flow). any_of (g.marks (with_after r (live asked r)))) (flow_roll u (stm.Set t e)) ∙
        or_left _ false (or_left _ (eqb t u) (sym live_set ∙ l)))

    thin_asks : Thins r both (choose e x y ∷ [])
    thin_asks =
        let on = live_cases e x y r live_e live_x live_y in
        thin_here r _ _ on (marked_cases e x y r (λ l. from_live (on l)) (λ l. from_choice (marked_first (temp t) x y r l))
        (λ l. from_choice (marked_second (temp t) x y r l)))

    thin_takes : (n : ℕ) → Thins r both (taken n x y)
    thin_takes n = by (eqb n 0)
      where
        by : (c : Bool) → Thins r both (cond c y x)
        by true = thin_here r both y live_y (λ l. from_choice (marked_second (temp t) x y r l))
        by false = thin_here r both x live_x (λ l. from_choice (marked_first (temp t) x y r l))

  -- ---- a side that is a jump

  marked_at_jump : (xs : List Stm) (r : Around) (b : Bool) → is_jump xs ≡ true → marked xs (with_after r b) ≡ marked xs r
  marked_at_jump xs r b = by_jump (λ l. marked l (with_after r b) ≡ marked l r)
      (λ n. ap (λ (g : Flow). any_of (g.marks (with_after r b) ++ [])) (flow_roll u (stm.Break n)) ∙
      sym (ap (λ (g : Flow). any_of (g.marks r ++ [])) (flow_roll u (stm.Break n))))
      (λ n. ap (λ (g : Flow). any_of (g.marks (with_after r b) ++ [])) (flow_roll u (stm.Back n)) ∙
      sym (ap (λ (g : Flow). any_of (g.marks r ++ [])) (flow_roll u (stm.Back n)))) xs

  thin_first_jump : (r : Around) (e : Tree) (x y : List Stm) → is_jump x ≡ true → Thins r (choose e x y ∷ []) (choose e x [] ∷ y)
  thin_first_jump r e x y j = thin_here r _ _ on
      (λ l. either (marked_cases e x [] r2 (λ k. marked_live e x y r (on k)) (λ k. marked_first e x y r (sym (marked_at_jump x r (live y r) j) ∙ k))
      (λ k. from_falsity k)) (marked_second e x y r) (sym (marked_both (choose e x [] ∷ []) y r) ∙ l))
    where
      r2 : Around
      r2 = with_after r (live y r)

      on : live (choose e x [] ∷ []) r2 ≡ true → live (choose e x y ∷ []) r ≡ true
      on = live_cases e x [] r2 (live_reads e x y r) (λ k. live_first e x y r (sym (live_at_jump u x r (live y r) j) ∙ k)) (live_second e x y r)

  thin_second_jump : (r : Around) (e : Tree) (x y : List Stm) → is_jump y ≡ true → Thins r (choose e x y ∷ []) (choose e [] y ∷ x)
  thin_second_jump r e x y j = thin_here r _ _ on
      (λ l. either (marked_cases e [] y r2 (λ k. marked_live e x y r (on k)) (λ k. from_falsity k)
      (λ k. marked_second e x y r (sym (marked_at_jump y r (live x r) j) ∙ k))) (marked_first e x y r) (sym (marked_both (choose e [] y ∷ []) x r) ∙ l))
    where
      r2 : Around
      r2 = with_after r (live x r)

      on : live (choose e [] y ∷ []) r2 ≡ true → live (choose e x y ∷ []) r ≡ true
      on = live_cases e [] y r2 (live_reads e x y r) (live_first e x y r) (λ k. live_second e x y r (sym (live_at_jump u y r (live x r) j) ∙ k))

  thin_parts : (r : Around) (n : ℕ) (e : Tree) (x y : List Stm) → is_jump (taken n y x) ≡ true →
      Thins r (choose e x y ∷ []) (choose e (cond (eqb n 0) x []) (cond (eqb n 0) [] y) ∷ taken n x y)
  thin_parts r n e x y = by (eqb n 0)
    where
      by : (c : Bool) → is_jump (cond c x y) ≡ true → Thins r (choose e x y ∷ []) (choose e (cond c x []) (cond c [] y) ∷ cond c y x)
      by true = thin_first_jump r e x y
      by false = thin_second_jump r e x y

  -- ---- loops and blocks

  module _ (r : Around) (b b' : List Stm) where
    live_repeat : (c : List Stm) (r' : Around) → live (repeat c ∷ []) r' ≡ live_at_loop (map (flow u) c) r'
    live_repeat c r' = ap (λ (g : Flow). g.live r') (flow_roll u (stm.Loop c))

    marked_repeat : (c : List Stm) (r' : Around) →
        marked (repeat c ∷ []) r' ≡ (live_at_loop (map (flow u) c) r' || marked c (around_loop r' (live_at_loop (map (flow u) c) r')))
    marked_repeat c r' = ap any_of (append-nil ((flow u (repeat c)).marks r')) ∙ ap (λ (g : Flow). any_of (g.marks r')) (flow_roll u (stm.Loop c))

    thin_loop : Thins (around_loop r (live_at_loop (map (flow u) b) r)) b b' → Thins r (repeat b ∷ []) (repeat b' ∷ [])
    thin_loop h = record {
      live = λ r' f e. live_repeat b r ∙ start r' f (sym (live_repeat b' r') ∙ e);
      marks = λ r' f e. marked_repeat b r ∙
          or_both _ _ _ _ (start r' f) (h.marks _ (fits_loop temps u r r' _ _ f (start r' f))) (sym (marked_repeat b' r') ∙ e);
    }
      where
        start : (r' : Around) → F r r' → live_at_loop (map (flow u) b') r' ≡ true → live_at_loop (map (flow u) b) r ≡ true
        start r' f e = settled (λ c. live b (around_loop r c))
            (h.live (around_loop r' false) (fits_loop temps u r r' _ false f (λ v. from_falsity v)) e)

    live_enclosed : (c : List Stm) (r' : Around) → live (enclosed c ∷ []) r' ≡ live c (around_block r')
    live_enclosed c r' = ap (λ (g : Flow). g.live r') (flow_roll u (stm.Block c))

    marked_enclosed : (c : List Stm) (r' : Around) → marked (enclosed c ∷ []) r' ≡ (live c (around_block r') || marked c (around_block r'))
    marked_enclosed c r' = ap any_of (append-nil ((flow u (enclosed c)).marks r')) ∙ ap (λ (g : Flow). any_of (g.marks r')) (flow_roll u (stm.Block c))

    thin_enclosed : Thins (around_block r) b b' → Thins r (enclosed b ∷ []) (enclosed b' ∷ [])
    thin_enclosed h = record {
      live = λ r' f e. live_enclosed b r ∙ h.live (around_block r') (fits_block temps u r r' f) (sym (live_enclosed b' r') ∙ e);
      marks = λ r' f e. marked_enclosed b r ∙
          or_both _ _ _ _ (h.live (around_block r') (fits_block temps u r r' f)) (h.marks (around_block r') (fits_block temps u r r' f))
          (sym (marked_enclosed b' r') ∙ e);
    }

-- ---- code

thins_stepwise : (temps : ℕ) → IsStepwise temps (λ r xs ys. (u : ℕ) → Thins temps u (r u) xs ys)
thins_stepwise temps = record {
  itself = λ r xs u. thin_itself temps u (r u) xs;
  both = λ r xs xs' ys ys' h k u. thin_both temps u (r u) xs xs' ys ys' (h u) (k u);
  trans = λ r xs ys zs h k u. thin_trans temps u (r u) xs ys zs (h u) (k u);
  branch = λ r t a a' b b' h k u. thin_branch temps u (r u) t t a a' b b' (λ e. e) (h u) (k u);
  loop = λ r b b' h u. thin_loop temps u (r u) b b' (h u);
  enclose = λ r b b' h u. thin_enclosed temps u (r u) b b' (h u);
  denies = λ r k x y u. thin_turned temps u (r u) (unary operator.logical_not k) k x y (reads_unary temps u operator.logical_not k);
  differs = λ r k x y u. thin_branch temps u (r u) (binary operator.not_equal k (number 0)) k x x y y (reads_binary temps u operator.not_equal k (number 0))
      (thin_itself temps u (r u) x) (thin_itself temps u (r u) y);
  equals = λ r k x y u. thin_turned temps u (r u) (binary operator.equal k (number 0)) k x y (reads_binary temps u operator.equal k (number 0));
  inside = λ r c a b code u. thin_inside temps u (r u) c a b code;
  outside = λ r c a b code u. thin_outside temps u (r u) c a b code;
  asks = λ r t e x y d u. thin_asks temps u r t e x y d;
  takes = λ r t n x y d u. thin_takes temps u r t (number n) x y d n;
  parts = λ r n e x y j u. thin_parts temps u (r u) n e x y j;
}

pub chosen_thins : (temps : ℕ) (r : ℕ → Around) (code result : List Stm) → Chosen temps r code result → (u : ℕ) → Thins temps u (r u) code result
chosen_thins temps = steps_is temps (λ r xs ys. (u : ℕ) → Thins temps u (r u) xs ys) (thins_stepwise temps)

pub chosen_thin : (temps t : ℕ) (r : ℕ → Around) (code result : List Stm) → Chosen temps r code result → (r' : Around) → FitsAround every t (r t) r' →
    live_in_order (map (flow t) result) r' ≡ true → lives r code t ≡ true
chosen_thin temps t r code result h = (chosen_thins temps r code result h t).live

-- ---- bodies

module _ (b : Body) (code : List Stm) (k : Chosen b.temps (λ t. nowhere) b.code code) where
  thins : (t : ℕ) → Thins b.temps t nowhere b.code code
  thins = chosen_thins b.temps (λ t. nowhere) b.code code k

  start : (t : ℕ) → live_at_start t code ≡ true → live_at_start t b.code ≡ true
  start t = (thins t).live nowhere (nowhere_fits every t)

  pub chosen_whole : IsWhole b → IsWhole (record b { code = code })
  chosen_whole = still_whole b code start

  pub chosen_temps : HasTemps b → HasTemps (record b { code = code })
  chosen_temps = still_temps b code start (λ t. (thins t).marks nowhere (nowhere_fits every t))
