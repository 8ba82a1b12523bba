-- What becomes of code has nothing live at its start that wasn't live there before, and reads and writes no other temporaries.
use Rattle.std.proofs.Common.{◌≡◌, ℕ, ◌<◌, Bool, true, false, not, eqb, ◌&&◌, ◌||◌, List, [], ◌∷◌, ◌++◌, map, Some, refl, sym, ◌∙◌, ap, subst, ◌⊎◌, inl, inr}
use Rattle.std.proofs.lemmas.Bool.{cases_eq, ne_eqb, or_left, or_right}
use Rattle.mv_num.proofs.Booleans.{or_cases, from_falsity}
use Rattle.mv_ast.specs.Names.{any_of}
use Rattle.mv_ir.specs.declared.tree.Tree.{Tree}
use Rattle.mv_ir.specs.declared.stm.Stm.{Stm, out-Stm}
use Rattle.mv_ir.specs.declared.stm.Stm.TheOpen as stm
use Rattle.mv_ir.specs.declared.stm.Stm.TheViews.{roll-Stm, roll-out-Stm}
use Rattle.mv_ir.specs.declared.body.Body.{Body}
use Rattle.mv_ir.specs.Live.{reads_temp, any_reads, is, Around, Flow, with_after, around_block, around_loop, live_in_order, marks_in_order, live_at_loop, plain, goes_next, flow, nowhere, live_at_start, all_marks, IsWhole, HasTemps}
use Rattle.mv_ir.specs.Rolled.{temp, set, choose, repeat, enclosed}
use Rattle.mv_ir.proofs.Living.{flows, settled}
use Rattle.mv_ir.proofs.Rolls.{flow_roll, flow_of_layer}
use Rattle.mv_fold.specs.Simple.{layer_jumps, jumps}
use Rattle.mv_fold.proofs.Marks.{any_marked, marked_any, any_left, any_right, any_cases, any_both}
use Rattle.mv_fold.proofs.Thinner.{covers_any, or_both, Implies, FitsAround, nowhere_fits}
use Rattle.mv_fold.proofs.Thinner as thinner
use Rattle.mv_fold.proofs.FoldedThinner.{every, same as stays}
use Rattle.mv_tidy.specs.Tidying.{IsOne, lives, before, in_loop, in_block, Left, Becomes, none, put, one, dropped, idle, ended, same, choice, turns, block, IsJoinedCode}
use Rattle.mv_tidy.proofs.Equations.{itself_read}
use Rattle.mv_tidy.proofs.Pairs.{Pair, pair_of, pair_live}

-- ---- jumps

-- behind a statement that never goes on, nothing matters
abbrev pub Stops : (ℕ → Flow) → Type 0
Stops f = (t : ℕ) (r : Around) (b : Bool) → ((f t).live (with_after r b) ≡ (f t).live r) × ((f t).marks (with_after r b) ≡ (f t).marks r)

layer_stops : (x : stm.Stm-F Stm) → layer_jumps x ≡ true → Stops (flow_of_layer x)
layer_stops (stm.Break n) e = λ t r b. (refl, refl)
layer_stops (stm.Back n) e = λ t r b. (refl, refl)
layer_stops (stm.Return v) e = λ t r b. (refl, refl)
layer_stops (stm.Set t v) e = from_falsity e
layer_stops (stm.SetGlobal g v) e = from_falsity e
layer_stops (stm.Divide t o a b) e = from_falsity e
layer_stops (stm.Check a i) e = from_falsity e
layer_stops (stm.Read t a i) e = from_falsity e
layer_stops (stm.Write a i v) e = from_falsity e
layer_stops (stm.Zero l) e = from_falsity e
layer_stops (stm.If t a b) e = from_falsity e
layer_stops (stm.Loop b) e = from_falsity e
layer_stops (stm.Block b) e = from_falsity e
layer_stops (stm.Call r f args) e = from_falsity e
layer_stops (stm.Known r k args) e = from_falsity e

pub jump_stops : (s : Stm) → jumps s ≡ true → Stops (λ t. flow t s)
unfolding jumps
jump_stops s e =
    subst (λ u. Stops (λ t. flow t u)) (roll-out-Stm s)
    (subst Stops (sym (flows (out-Stm s))) (layer_stops (out-Stm s) e))

-- ---- around one temporary

pub fits_itself : (t : ℕ) (r : Around) → FitsAround every t r r
fits_itself t r = record { next = λ e. (e, refl); leaves = λ n e. (e, refl); restarts = λ n e. (e, refl) }

module _ (temps t : ℕ) where
  -- the second sees no more that is live
  abbrev pub Fits : Around → Around → Type 0
  Fits = FitsAround every t

  as_implied : (b b' : Bool) → (b' ≡ true → b ≡ true) → Implies every t b b'
  as_implied b b' h e = (h e, refl)

  pub fits_after : (r r' : Around) (b b' : Bool) → Fits r r' → (b' ≡ true → b ≡ true) → Fits (with_after r b) (with_after r' b')
  fits_after r r' b b' f h = record { next = as_implied b b' h; leaves = f.leaves; restarts = f.restarts }

  pub fits_loop : (r r' : Around) (b b' : Bool) → Fits r r' → (b' ≡ true → b ≡ true) → Fits (around_loop r b) (around_loop r' b')
  fits_loop r r' b b' f h = thinner.fits_loop every t r r' b b' f (as_implied b b' h)

  pub fits_block : (r r' : Around) → Fits r r' → Fits (around_block r) (around_block r')
  fits_block = thinner.fits_block every t

  -- ---- what is shown

  abbrev pub live_in : List Stm → Around → Bool
  live_in code r = live_in_order (map (flow t) code) r

  abbrev pub marks_in : List Stm → Around → List Bool
  marks_in code r = marks_in_order (map (flow t) code) r

  pub record Thin (r : Around) (code : List Stm) (behind : Bool) (n : Stm) (rest : List Stm) : Type 0 where
    pub step : (r' : Around) (b : Bool) → Fits r r' → (b ≡ true → behind ≡ true) → (flow t n).live (with_after r' b) ≡ true → live_in code r ≡ true
    pub beyond : (r' : Around) → Fits r r' → live_in rest r' ≡ true → behind ≡ true
    pub marks : (r' : Around) → Fits r r' → any_of (marks_in (n ∷ rest) r') ≡ true → any_of (marks_in code r) ≡ true

  abbrev pub IsThin : Around → List Stm → Bool → List Stm → Type 0
  IsThin r code behind [] = (r' : Around) → Fits r r' → r'.next ≡ true → live_in code r ≡ true
  IsThin r code behind (n ∷ rest) = Thin r code behind n rest

  pub record ThinStm (r : Around) (s y : Stm) : Type 0 where
    pub live : (r' : Around) → Fits r r' → (flow t y).live r' ≡ true → (flow t s).live r ≡ true
    pub marks : (r' : Around) → Fits r r' → any_of ((flow t y).marks r') ≡ true → any_of ((flow t s).marks r) ≡ true

  thin_live : (r : Around) (code : List Stm) (behind : Bool) (result : List Stm) → IsThin r code behind result → (r' : Around) → Fits r r' → live_in result r' ≡ true → live_in code r ≡ true
  thin_live r code behind [] h r' f e = h r' f e
  thin_live r code behind (n ∷ rest) h r' f e = h.step r' (live_in rest r') f (h.beyond r' f) e

  thin_marks : (r : Around) (code : List Stm) (behind : Bool) (result : List Stm) → IsThin r code behind result → (r' : Around) → Fits r r' → any_of (marks_in result r') ≡ true → any_of (marks_in code r) ≡ true
  thin_marks r code behind [] h r' f e = from_falsity e
  thin_marks r code behind (n ∷ rest) h r' f e = h.marks r' f e

  -- ---- a statement that stands

  put_thin : (r : Around) (s y : Stm) (code rest : List Stm) (behind : Bool) → IsThin r code behind rest → ThinStm (with_after r (live_in code r)) s y → Thin r (s ∷ code) (live_in code r) y rest
  put_thin r s y code rest behind h k = record {
    step = λ r' b f hb e. k.live (with_after r' b) (fits_after r r' (live_in code r) b f hb) e;
    beyond = thin_live r code behind rest h;
    marks = λ r' f e. by r' f (any_cases ((flow t y).marks (with_after r' (live_in rest r'))) (marks_in rest r') e);
  }
    where
      by : (r' : Around) → Fits r r' → (any_of ((flow t y).marks (with_after r' (live_in rest r'))) ≡ true) ⊎ (any_of (marks_in rest r') ≡ true) → any_of (marks_in (s ∷ code) r) ≡ true
      by r' f (inl e) =
          any_left ((flow t s).marks (with_after r (live_in code r))) (marks_in code r) (k.marks (with_after r' (live_in rest r')) (fits_after r r' (live_in code r) (live_in rest r') f (thin_live r code behind rest h r' f)) e)
      by r' f (inr e) = any_right ((flow t s).marks (with_after r (live_in code r))) (marks_in code r) (thin_marks r code behind rest h r' f e)

  -- ---- two as one

  gone_other : (behind : ℕ → Bool) (u : ℕ) (b : Bool) → (b ≡ true → behind t ≡ true) → behind u ≡ false → b ≡ true → t ≡ u → ⊥
  gone_other behind u b h g e equal = let k : false ≡ true = sym g ∙ ap behind (sym equal) ∙ h e in absurd (cc)

  one_thin : (r : Around) (s n z : Stm) (code rest : List Stm) (behind : ℕ → Bool) → Thin r code (behind t) n rest → IsOne (λ u. (u < temps) × (behind u ≡ false)) s n z → Thin r (s ∷ code) (behind t) z rest
  one_thin r s n z code rest behind h k = record {
    step = step;
    beyond = h.beyond;
    marks = λ r' f e. by r' f (any_cases ((flow t z).marks (with_after r' (live_in rest r'))) (marks_in rest r') e);
  }
    where
      p : Pair (λ u. (u < temps) × (behind u ≡ false)) s n z
      p = pair_of (λ u. (u < temps) × (behind u ≡ false)) s n z k

      step : (r' : Around) (b : Bool) → Fits r r' → (b ≡ true → behind t ≡ true) → (flow t z).live (with_after r' b) ≡ true → live_in (s ∷ code) r ≡ true
      step r' b f hb e =
          pair_live (λ u. (u < temps) × (behind u ≡ false)) s n z p t r (with_after r' b) (live_in code r) (λ g. gone_other behind p.temp b hb g.1) (h.step r' b f hb) e

      -- the first statement is marked where it is live
      first_marked : live_in (s ∷ code) r ≡ true → any_of (marks_in (s ∷ code) r) ≡ true
      first_marked e =
          any_left ((flow t s).marks (with_after r (live_in code r))) (marks_in code r)
          (ap (λ (g : Flow). any_of (g.marks (with_after r (live_in code r)))) (p.s_is t) ∙
          or_left _ false (or_left _ (is (Some p.temp) t) (ap (λ (g : Flow). g.live (with_after r (live_in code r))) (sym (p.s_is t)) ∙ e)))

      -- the second is where it writes
      second_marked : (r' : Around) → is p.writes t ≡ true → any_of (marks_in (n ∷ rest) r') ≡ true
      second_marked r' e =
          any_left ((flow t n).marks (with_after r' (live_in rest r'))) (marks_in rest r') (ap (λ (g : Flow). any_of (g.marks (with_after r' (live_in rest r')))) (p.n_is t) ∙ or_left _ false (or_right _ (is p.writes t) e))

      behind_it : any_of (marks_in code r) ≡ true → any_of (marks_in (s ∷ code) r) ≡ true
      behind_it = any_right ((flow t s).marks (with_after r (live_in code r))) (marks_in code r)

      at_z : (r' : Around) → Fits r r' → ((flow t z).live (with_after r' (live_in rest r')) ≡ true) ⊎ (is p.writes t ≡ true) → any_of (marks_in (s ∷ code) r) ≡ true
      at_z r' f (inl e) = first_marked (step r' (live_in rest r') f (h.beyond r' f) e)
      at_z r' f (inr e) = behind_it (h.marks r' f (second_marked r' e))

      z_marks : (r' : Around) → any_of ((flow t z).marks r') ≡ true → ((flow t z).live r' ≡ true) ⊎ (is p.writes t ≡ true)
      z_marks r' e = told (or_cases _ (is p.writes t) (drop_none (ap (λ (g : Flow). any_of (g.marks r')) (sym (p.z_is t)) ∙ e)))
        where
          drop_none : {b : Bool} → (b || false) ≡ true → b ≡ true
          drop_none {b} h = cases (or_cases b false h)
            where
              cases : (b ≡ true) ⊎ (false ≡ true) → b ≡ true
              cases (inl x) = x
              cases (inr x) = from_falsity x

          told : ((plain t p.both p.writes goes_next).live r' ≡ true) ⊎ (is p.writes t ≡ true) → ((flow t z).live r' ≡ true) ⊎ (is p.writes t ≡ true)
          told (inl x) = inl (ap (λ (g : Flow). g.live r') (p.z_is t) ∙ x)
          told (inr x) = inr x

      by : (r' : Around) → Fits r r' → (any_of ((flow t z).marks (with_after r' (live_in rest r'))) ≡ true) ⊎ (any_of (marks_in rest r') ≡ true) → any_of (marks_in (s ∷ code) r) ≡ true
      by r' f (inl e) = at_z r' f (z_marks (with_after r' (live_in rest r')) e)
      by r' f (inr e) = behind_it (h.marks r' f (any_right ((flow t n).marks (with_after r' (live_in rest r'))) (marks_in rest r') e))

  -- ---- a set that goes

  passed_thin : (r : Around) (s : Stm) (code : List Stm) (behind : Bool) (rest : List Stm) → (live_in code r ≡ true → live_in (s ∷ code) r ≡ true) →
      IsThin r code behind rest → IsThin r (s ∷ code) behind rest
  passed_thin r s code behind [] k h = λ r' f e. k (h r' f e)
  passed_thin r s code behind (n ∷ rest) k h = record {
    step = λ r' b f hb e. k (h.step r' b f hb e);
    beyond = h.beyond;
    marks = λ r' f e. any_right ((flow t s).marks (with_after r (live_in code r))) (marks_in code r) (h.marks r' f e);
  }

  set_live : (r : Around) (u : ℕ) (e : Tree) (code : List Stm) → ((u ≡ t → ⊥) → live_in code r ≡ true) → (u ≡ t → reads_temp t e ≡ true) →
      live_in (set u e ∷ code) r ≡ true
  set_live r u e code other own = ap (λ (g : Flow). g.live (with_after r (live_in code r))) (flow_roll t (stm.Set u e)) ∙ by (cases_eq u t)
    where
      by : (u ≡ t) ⊎ (u ≡ t → ⊥) → (any_reads t (e ∷ []) || (not (eqb u t) && live_in code r)) ≡ true
      by (inl q) = or_left _ _ (or_left (reads_temp t e) false (own q))
      by (inr ne) = or_right (any_reads t (e ∷ [])) _ (ap (λ b. not b && live_in code r) (ne_eqb u t ne) ∙ other ne)

  dropped_thin : (r : ℕ → Around) (u : ℕ) (e : Tree) (code rest : List Stm) (behind : Bool) → lives r code u ≡ false → IsThin (r t) code behind rest →
      IsThin (r t) (set u e ∷ code) behind rest
  dropped_thin r u e code rest behind dead =
      passed_thin (r t) (set u e) code behind rest (λ l. set_live (r t) u e code (λ ne. l) (λ q. from_falsity (sym dead ∙ ap (lives r code) q ∙ l)))

  idle_thin : (r : Around) (u : ℕ) (code rest : List Stm) (behind : Bool) → IsThin r code behind rest → IsThin r (set u (temp u) ∷ code) behind rest
  idle_thin r u code rest behind = passed_thin r (set u (temp u)) code behind rest (λ l. set_live r u (temp u) code (λ ne. l) (itself_read t u))

  -- ---- statements

  pub same_thin : (r : Around) (s : Stm) → ThinStm r s s
  same_thin r s =
      let (mask, k) = stays s in
      record {
        live = λ r' f e. (k.live t r r' f e).0;
        marks = λ r' f e. bare (covers_any mask _ _ (k.marks t r r' f) (any_left ((flow t s).marks r') [] e));
      }
    where
      bare : any_of ((flow t s).marks r ++ []) ≡ true → any_of ((flow t s).marks r) ≡ true
      bare e = cases (any_cases ((flow t s).marks r) [] e)
        where
          cases : (any_of ((flow t s).marks r) ≡ true) ⊎ (false ≡ true) → any_of ((flow t s).marks r) ≡ true
          cases (inl x) = x
          cases (inr x) = from_falsity x

  -- ---- a jump

  ended_thin : (r : Around) (s : Stm) (code : List Stm) → jumps s ≡ true → Thin r (s ∷ code) r.next s []
  ended_thin r s code j = record {
    step = λ r' b f hb e. (stops t r (live_in code r)).0 ∙ itself.live r' f (sym (stops t r' b).0 ∙ e);
    beyond = λ r' f e. (f.next e).0;
    marks = λ r' f e. by r' f (any_cases ((flow t s).marks (with_after r' r'.next)) [] e);
  }
    where
      stops : Stops (λ u. flow u s)
      stops = jump_stops s j

      itself : ThinStm r s s
      itself = same_thin r s

      by : (r' : Around) → Fits r r' → (any_of ((flow t s).marks (with_after r' r'.next)) ≡ true) ⊎ (false ≡ true) → any_of (marks_in (s ∷ code) r) ≡ true
      by r' f (inl e) =
          any_left ((flow t s).marks (with_after r (live_in code r))) (marks_in code r)
          (ap any_of (stops t r (live_in code r)).1 ∙ itself.marks r' f (ap any_of (sym (stops t r' r'.next).1) ∙ e))
      by r' f (inr e) = from_falsity e

  -- by the layers
  layer_thin : (r : Around) (x y : stm.Stm-F Stm) →
      ((r' : Around) → Fits r r' → (flow_of_layer y t).live r' ≡ true → (flow_of_layer x t).live r ≡ true) →
      ((r' : Around) → Fits r r' → any_of ((flow_of_layer y t).marks r') ≡ true → any_of ((flow_of_layer x t).marks r) ≡ true) →
      ThinStm r (roll-Stm x) (roll-Stm y)
  layer_thin r x y h k = record {
    live = λ r' f e. ap (λ (g : Flow). g.live r) (flow_roll t x) ∙ h r' f (ap (λ (g : Flow). g.live r') (sym (flow_roll t y)) ∙ e);
    marks = λ r' f e. ap (λ (g : Flow). any_of (g.marks r)) (flow_roll t x) ∙ k r' f (ap (λ (g : Flow). any_of (g.marks r')) (sym (flow_roll t y)) ∙ e);
  }

  choice_thin : (r : Around) (x : Tree) (a a' b b' : List Stm) (p q : Bool) → IsThin r a p a' → IsThin r b q b' → ThinStm r (choose x a b) (choose x a' b')
  choice_thin r x a a' b b' p q ha hb =
      let live = λ (r' : Around) (f : Fits r r'). or_both _ _ _ _ (λ e. e) (or_both _ _ _ _ (thin_live r a p a' ha r' f) (thin_live r b q b' hb r' f)) in
      layer_thin r (stm.If x a b) (stm.If x a' b') live
      (λ r' f. or_both _ _ _ _ (live r' f) (any_both (marks_in a r) (marks_in b r) (marks_in a' r') (marks_in b' r') (thin_marks r a p a' ha r' f) (thin_marks r b q b' hb r' f)))

  turns_thin : (r : Around) (b b' : List Stm) (p : Bool) → IsThin (around_loop r (live_at_loop (map (flow t) b) r)) b p b' → ThinStm r (repeat b) (repeat b')
  turns_thin r b b' p h = layer_thin r (stm.Loop b) (stm.Loop b') start (λ r' f. or_both _ _ _ _ (start r' f) (thin_marks _ b p b' h _ (fits_loop r r' _ _ f (start r' f))))
    where
      start : (r' : Around) → Fits r r' → live_at_loop (map (flow t) b') r' ≡ true → live_at_loop (map (flow t) b) r ≡ true
      start r' f e = settled (λ c. live_in b (around_loop r c)) (thin_live _ b p b' h (around_loop r' false) (fits_loop r r' _ false f (λ v. from_falsity v)) e)

  block_thin : (r : Around) (b b' : List Stm) (p : Bool) → IsThin (around_block r) b p b' → ThinStm r (enclosed b) (enclosed b')
  block_thin r b b' p h =
      layer_thin r (stm.Block b) (stm.Block b') (λ r' f. thin_live _ b p b' h _ (fits_block r r' f))
      (λ r' f. or_both _ _ _ _ (thin_live _ b p b' h _ (fits_block r r' f)) (thin_marks _ b p b' h _ (fits_block r r' f)))

  mutual
    pub left_thin : (r : ℕ → Around) (code result : List Stm) (behind : ℕ → Bool) → Left temps r code behind result → IsThin (r t) code (behind t) result
    left_thin r code result behind (none q) = λ r' f e. (f.next e).0
    left_thin r code result behind (put q s y ss rest p h k) = put_thin (r t) s y ss rest (p t) (left_thin q ss rest p h) (becomes_thin (before q ss) s y k)
    left_thin r code result behind (one q s n z ss rest p h k) = one_thin (r t) s n z ss rest p (left_thin q ss (n ∷ rest) p h) k
    left_thin r code result behind (dropped q u e ss rest p h lt dead) = dropped_thin q u e ss rest (p t) dead (left_thin q ss rest p h)
    left_thin r code result behind (idle q u ss rest p h lt) = idle_thin (q t) u ss rest (p t) (left_thin q ss rest p h)
    left_thin r code result behind (ended q s ss rest p h j k) = ended_thin (q t) s ss j

    pub becomes_thin : (r : ℕ → Around) (s y : Stm) → Becomes temps r s y → ThinStm (r t) s y
    becomes_thin r s y (same q u) = same_thin (q t) u
    becomes_thin r s y (choice q x a a' b b' p w h k) = choice_thin (q t) x a a' b b' (p t) (w t) (left_thin q a a' p h) (left_thin q b b' w k)
    becomes_thin r s y (turns q b b' p h) = turns_thin (q t) b b' (p t) (left_thin (in_loop q b) b b' p h)
    becomes_thin r s y (block q b b' p h) = block_thin (q t) b b' (p t) (left_thin (in_block q) b b' p h)

-- ---- bodies

-- code that has nothing live at its start that wasn't
module _ (b : Body) (code : List Stm) (start : (t : ℕ) → live_at_start t code ≡ true → live_at_start t b.code ≡ true) where
  pub still_whole : IsWhole b → IsWhole (record b { code = code })
  still_whole w t e = w t (start t e)

  -- nor anything live or written in it
  module _ (marks : (t : ℕ) → any_of (marks_in_order (map (flow t) code) nowhere) ≡ true → any_of (marks_in_order (map (flow t) b.code) nowhere) ≡ true) where
    all : (t : ℕ) → any_of (all_marks (record b { code = code }) t) ≡ true → any_of (all_marks b t) ≡ true
    all t = or_both _ _ _ _ (or_both _ _ _ _ (start t) (λ e. e)) (marks t)

    pub still_temps : HasTemps b → HasTemps (record b { code = code })
    still_temps w i t e = let found = any_marked (all_marks b t) (all t (marked_any (all_marks (record b { code = code }) t) i e)) in w found.0 t found.1

module _ (b : Body) (code : List Stm) (k : IsJoinedCode b.temps b.code code) where
  thin : (t : ℕ) → IsThin b.temps t nowhere b.code (k.behind t) code
  thin t = left_thin b.temps t (λ u. nowhere) b.code code k.behind k.left

  start : (t : ℕ) → live_at_start t code ≡ true → live_at_start t b.code ≡ true
  start t = thin_live b.temps t nowhere b.code (k.behind t) code (thin t) nowhere (nowhere_fits every t)

  pub tidied_whole : IsWhole b → IsWhole (record b { code = code })
  tidied_whole = still_whole b code start

  pub tidied_temps : HasTemps b → HasTemps (record b { code = code })
  tidied_temps = still_temps b code start (λ t. thin_marks b.temps t nowhere b.code (k.behind t) code (thin t) nowhere (nowhere_fits every t))
