-- Code whose temporaries are live or written at no other positions than those of other code.
use Rattle.std.proofs.Common.{arith, ◌≡◌, ℕ, zero, suc, ◌<◌, ◌≤◌, Bool, true, false, cond, not, ltb, ◌&&◌, ◌||◌, List, [], ◌∷◌, ◌++◌, map, Option, refl, sym, ◌∙◌, ap, subst, ◌⊎◌, inl, inr, append-nil}
use Rattle.mv_ir.specs.declared.tree.Tree.{Tree}
use Rattle.mv_ir.specs.declared.stm.Stm.{Stm}
use Rattle.mv_ir.specs.declared.stm.Stm.TheOpen.{Stm-F}
use Rattle.mv_ir.specs.declared.stm.Stm.TheOpen as stm
use Rattle.mv_ir.specs.declared.stm.Stm.TheViews.{roll-Stm}
use Rattle.mv_ir.specs.declared.body.Body.{Body}
use Rattle.mv_ir.specs.Live.{reads_temp, any_reads, is, Around, Flow, with_after, at_place, around_block, around_loop, live_in_order, marks_in_order, live_at_loop, plain, goes_next, flow, nowhere, live_at_start, all_marks, IsWhole, filled, interval, mark_at, HasTemps, count_at, below, marks_length, most_intervals}
use Rattle.mv_ir.proofs.Rolls.{flow_roll, flow_of_layer}
use Rattle.mv_ir.proofs.Common.{and_keeps}
use Rattle.mv_ir.proofs.Keeping.{map_append}
use Rattle.mv_ir.proofs.Joining.{greatest_most, greatest_within, live_append, marks_append}
use Rattle.std.proofs.lemmas.Bool.{or_right, or_left}
use Rattle.mv_num.proofs.Booleans.{or_cases, from_falsity}
use Rattle.mv_ast.specs.Names.{any_of}

-- ---- marks: which positions stay, and that none of these is marked where it wasn't

abbrev pub Covers : List Bool → List Bool → List Bool → Type 0
Covers [] [] [] = Unit {0}
Covers [] [] (y ∷ ys) = ⊥
Covers [] (x ∷ xs) ys = ⊥
Covers (true ∷ ms) [] ys = ⊥
Covers (true ∷ ms) (x ∷ xs) [] = ⊥
Covers (true ∷ ms) (x ∷ xs) (y ∷ ys) = (y ≡ true → x ≡ true) × Covers ms xs ys
Covers (false ∷ ms) [] ys = ⊥
Covers (false ∷ ms) (x ∷ xs) ys = Covers ms xs ys

pub covers_append : (ms xs ys ns us vs : List Bool) → Covers ms xs ys → Covers ns us vs → Covers (ms ++ ns) (xs ++ us) (ys ++ vs)
covers_append [] [] [] ns us vs h k = k
covers_append [] [] (y ∷ ys) ns us vs h k = absurd h
covers_append [] (x ∷ xs) ys ns us vs h k = absurd h
covers_append (true ∷ ms) [] ys ns us vs h k = absurd h
covers_append (true ∷ ms) (x ∷ xs) [] ns us vs h k = absurd h
covers_append (true ∷ ms) (x ∷ xs) (y ∷ ys) ns us vs h k = (h.0, covers_append ms xs ys ns us vs h.1 k)
covers_append (false ∷ ms) [] ys ns us vs h k = absurd h
covers_append (false ∷ ms) (x ∷ xs) ys ns us vs h k = covers_append ms xs ys ns us vs h k

abbrev pub composed : List Bool → List Bool → List Bool
composed [] ns = []
composed (true ∷ ms) [] = []
composed (true ∷ ms) (n ∷ ns) = n ∷ composed ms ns
composed (false ∷ ms) ns = false ∷ composed ms ns

pub covers_trans : (ms ns xs ys zs : List Bool) → Covers ms xs ys → Covers ns ys zs → Covers (composed ms ns) xs zs
covers_trans [] [] [] [] [] h k = tt
covers_trans [] [] [] [] (z ∷ zs) h k = absurd k
covers_trans [] (true ∷ ns) [] [] zs h k = absurd k
covers_trans [] (false ∷ ns) [] [] zs h k = absurd k
covers_trans [] ns [] (y ∷ ys) zs h k = absurd h
covers_trans [] ns (x ∷ xs) ys zs h k = absurd h
covers_trans (true ∷ ms) ns [] ys zs h k = absurd h
covers_trans (true ∷ ms) ns (x ∷ xs) [] zs h k = absurd h
covers_trans (true ∷ ms) [] (x ∷ xs) (y ∷ ys) zs h k = absurd k
covers_trans (true ∷ ms) (true ∷ ns) (x ∷ xs) (y ∷ ys) [] h k = absurd k
covers_trans (true ∷ ms) (true ∷ ns) (x ∷ xs) (y ∷ ys) (z ∷ zs) h k = ((λ e. h.0 (k.0 e)), covers_trans ms ns xs ys zs h.1 k.1)
covers_trans (true ∷ ms) (false ∷ ns) (x ∷ xs) (y ∷ ys) zs h k = covers_trans ms ns xs ys zs h.1 k
covers_trans (false ∷ ms) ns [] ys zs h k = absurd h
covers_trans (false ∷ ms) ns (x ∷ xs) ys zs h k = covers_trans ms ns xs ys zs h k

-- where a position that stays was
abbrev pub place : List Bool → ℕ → ℕ
place [] i = i
place (true ∷ ms) zero = zero
place (true ∷ ms) (suc i) = suc (place ms i)
place (false ∷ ms) i = suc (place ms i)

pub covers_mark : (ms xs ys : List Bool) → Covers ms xs ys → (i : ℕ) → mark_at ys i ≡ true → mark_at xs (place ms i) ≡ true
covers_mark [] [] [] h i e = from_falsity e
covers_mark [] [] (y ∷ ys) h i e = absurd h
covers_mark [] (x ∷ xs) ys h i e = absurd h
covers_mark (true ∷ ms) [] ys h i e = absurd h
covers_mark (true ∷ ms) (x ∷ xs) [] h i e = absurd h
covers_mark (true ∷ ms) (x ∷ xs) (y ∷ ys) h zero e = h.0 e
covers_mark (true ∷ ms) (x ∷ xs) (y ∷ ys) h (suc i) e = covers_mark ms xs ys h.1 i e
covers_mark (false ∷ ms) [] ys h i e = absurd h
covers_mark (false ∷ ms) (x ∷ xs) ys h i e = covers_mark ms xs ys h i e

pub covers_any : (ms xs ys : List Bool) → Covers ms xs ys → any_of ys ≡ true → any_of xs ≡ true
covers_any [] [] [] h e = e
covers_any [] [] (y ∷ ys) h e = absurd h
covers_any [] (x ∷ xs) ys h e = absurd h
covers_any (true ∷ ms) [] ys h e = absurd h
covers_any (true ∷ ms) (x ∷ xs) [] h e = absurd h
covers_any (true ∷ ms) (x ∷ xs) (y ∷ ys) h e = by (covers_any ms xs ys h.1) (or_cases y (any_of ys) e)
  where
    by : (any_of ys ≡ true → any_of xs ≡ true) → (y ≡ true) ⊎ (any_of ys ≡ true) → (x || any_of xs) ≡ true
    by more (inl here) = or_left x (any_of xs) (h.0 here)
    by more (inr there) = or_right x (any_of xs) (more there)
covers_any (false ∷ ms) [] ys h e = absurd h
covers_any (false ∷ ms) (x ∷ xs) ys h e = or_right x (any_of xs) (covers_any ms xs ys h e)

pub or_both : (a b c d : Bool) → (c ≡ true → a ≡ true) → (d ≡ true → b ≡ true) → (c || d) ≡ true → (a || b) ≡ true
or_both a b c d h k e = by (or_cases c d e)
  where
    by : (c ≡ true) ⊎ (d ≡ true) → (a || b) ≡ true
    by (inl x) = or_left a b (h x)
    by (inr y) = or_right a b (k y)

covers_filled : (ms xs ys : List Bool) → Covers ms xs ys → (b b' : Bool) → (b' ≡ true → b ≡ true) → (i : ℕ) → mark_at (filled b' ys) i ≡ true → mark_at (filled b xs) (place ms i) ≡ true
covers_filled [] [] [] h b b' g i e = from_falsity e
covers_filled [] [] (y ∷ ys) h b b' g i e = absurd h
covers_filled [] (x ∷ xs) ys h b b' g i e = absurd h
covers_filled (true ∷ ms) [] ys h b b' g i e = absurd h
covers_filled (true ∷ ms) (x ∷ xs) [] h b b' g i e = absurd h
covers_filled (true ∷ ms) (x ∷ xs) (y ∷ ys) h b b' g zero e =
    and_keeps (b' || y) (y || any_of ys) (b || x) (x || any_of xs) (or_both b x b' y g h.0) (or_both x (any_of xs) y (any_of ys) h.0 (covers_any ms xs ys h.1)) e
covers_filled (true ∷ ms) (x ∷ xs) (y ∷ ys) h b b' g (suc i) e = covers_filled ms xs ys h.1 (b || x) (b' || y) (or_both b x b' y g h.0) i e
covers_filled (false ∷ ms) [] ys h b b' g i e = absurd h
covers_filled (false ∷ ms) (x ∷ xs) ys h b b' g i e = covers_filled ms xs ys h (b || x) b' (λ c. or_left b x (g c)) i e

covers_place : (ms xs ys : List Bool) → Covers ms xs ys → (i : ℕ) → i < marks_length ys → place ms i < marks_length xs
covers_place [] [] [] h i lt = lt
covers_place [] [] (y ∷ ys) h i lt = absurd h
covers_place [] (x ∷ xs) ys h i lt = absurd h
covers_place (true ∷ ms) [] ys h i lt = absurd h
covers_place (true ∷ ms) (x ∷ xs) [] h i lt = absurd h
covers_place (true ∷ ms) (x ∷ xs) (y ∷ ys) h zero lt = omega arith
covers_place (true ∷ ms) (x ∷ xs) (y ∷ ys) h (suc i) lt = omega (arith, covers_place ms xs ys h.1 i (omega (arith, lt)))
covers_place (false ∷ ms) [] ys h i lt = absurd h
covers_place (false ∷ ms) (x ∷ xs) ys h i lt = omega (arith, covers_place ms xs ys h i lt)

-- ---- the greatest number of intervals

cond_most : (c c' : Bool) → (c' ≡ true → c ≡ true) → cond c' 1 0 ≤ cond c 1 0
cond_most true true h = omega arith
cond_most true false h = omega arith
cond_most false true h = from_falsity (h refl)
cond_most false false h = omega arith

count_most : (i j : ℕ) (f f' : ℕ → List Bool) → ((t : ℕ) → mark_at (f' t) i ≡ true → mark_at (f t) j ≡ true) → (ts : List ℕ) → count_at i (map f' ts) ≤ count_at j (map f ts)
count_most i j f f' h [] = omega arith
count_most i j f f' h (t ∷ ts) = omega (arith, cond_most (mark_at (f t) j) (mark_at (f' t) i) (h t), count_most i j f f' h ts)

-- of two bodies with as many temporaries
pub intervals_most : (b b' : Body) (ms : List Bool) → b'.temps ≡ b.temps → ((t : ℕ) → Covers ms (all_marks b t) (all_marks b' t)) → most_intervals b' ≤ most_intervals b
intervals_most b b' ms e h =
    greatest_within (marks_length (all_marks b' 0)) _ (most_intervals b) (λ i lt.
    let j = place ms i in
    let counted = count_most i j (interval b) (interval b') (λ t m. covers_filled ms (all_marks b t) (all_marks b' t) (h t) false false (λ c. c) i m) (below b.temps) in
    let most = greatest_most (marks_length (all_marks b 0)) (λ k. count_at k (map (interval b) (below b.temps))) j (covers_place ms (all_marks b 0) (all_marks b' 0) (h 0) i lt) in
    omega (arith, counted, most, ap (λ n. count_at i (map (interval b') (below n))) e))

-- ---- flow: needed says of each temporary whether the second code may read it

module _ (needed : ℕ → Bool) where
  -- what is live in the second was live in the first, and is needed
  abbrev pub Implies : ℕ → Bool → Bool → Type 0
  Implies t b b' = b' ≡ true → (b ≡ true) × (needed t ≡ true)

  pub record FitsAround (t : ℕ) (r r' : Around) : Type 0 where
    pub next : Implies t r.next r'.next
    pub leaves : (n : ℕ) → Implies t (r.leaves n) (r'.leaves n)
    pub restarts : (n : ℕ) → Implies t (r.restarts n) (r'.restarts n)

  pub record Thins (mask : List Bool) (f f' : ℕ → Flow) : Type 0 where
    pub live : (t : ℕ) (r r' : Around) → FitsAround t r r' → Implies t ((f t).live r) ((f' t).live r')
    pub marks : (t : ℕ) (r r' : Around) → FitsAround t r r' → Covers mask ((f t).marks r) ((f' t).marks r')

  abbrev pub code_flow : List Stm → ℕ → Flow
  code_flow code t = record { live = λ r. live_in_order (map (flow t) code) r; marks = λ r. marks_in_order (map (flow t) code) r }

  abbrev pub IsThinner : List Stm → List Stm → Type 0
  IsThinner xs ys = (mask : List Bool) × Thins mask (code_flow xs) (code_flow ys)

  code_flow_one : (x : Stm-F Stm) (t : ℕ) → code_flow (roll-Stm x ∷ []) t ≡ flow_of_layer x t
  code_flow_one x t = λ i. record { live = λ r. (flow_roll t x i).live r; marks = λ r. (append-nil ((flow t (roll-Stm x)).marks r) ∙ ap (λ f. f.marks r) (flow_roll t x)) i }

  pub flow_one : (x : Stm-F Stm) → code_flow (roll-Stm x ∷ []) ≡ flow_of_layer x
  flow_one x = λ i t. code_flow_one x t i

  pub thinner_one : (x y : Stm-F Stm) (mask : List Bool) → Thins mask (flow_of_layer x) (flow_of_layer y) → IsThinner (roll-Stm x ∷ []) (roll-Stm y ∷ [])
  thinner_one x y mask h = (mask, subst (λ f. Thins mask f (code_flow (roll-Stm y ∷ []))) (sym (flow_one x)) (subst (Thins mask (flow_of_layer x)) (sym (flow_one y)) h))

  pub thinner_many : (x : Stm-F Stm) (ys : List Stm) (mask : List Bool) → Thins mask (flow_of_layer x) (code_flow ys) → IsThinner (roll-Stm x ∷ []) ys
  thinner_many x ys mask h = (mask, subst (λ f. Thins mask f (code_flow ys)) (sym (flow_one x)) h)

  fits_self : (t : ℕ) (r r' : Around) → FitsAround t r r' → FitsAround t r' r'
  fits_self t r r' h = record { next = λ e. (e, (h.next e).1); leaves = λ n e. (e, (h.leaves n e).1); restarts = λ n e. (e, (h.restarts n e).1) }

  pub thinner_trans : (xs ys zs : List Stm) → IsThinner xs ys → IsThinner ys zs → IsThinner xs zs
  thinner_trans xs ys zs (m, h) (n, k) = (
    composed m n,
    record {
      live = λ t r r' e v. let mid = k.live t r' r' (fits_self t r r' e) v in h.live t r r' e mid.0;
      marks = λ t r r' e. covers_trans m n _ _ _ (h.marks t r r' e) (k.marks t r' r' (fits_self t r r' e));
    },
  )

  -- ---- lists

  abbrev after : List Stm → List Stm → ℕ → Flow
  after xs ys t = record {
    live = λ r. live_in_order (map (flow t) xs) (with_after r (live_in_order (map (flow t) ys) r));
    marks = λ r. marks_in_order (map (flow t) xs) (with_after r (live_in_order (map (flow t) ys) r)) ++ marks_in_order (map (flow t) ys) r;
  }

  pub flow_append : (xs ys : List Stm) → code_flow (xs ++ ys) ≡ after xs ys
  flow_append xs ys = λ i t. record {
    live = λ r. (ap (λ l. live_in_order l r) (map_append (flow t) xs ys) ∙ live_append (map (flow t) xs) (map (flow t) ys) r) i;
    marks = λ r. (ap (λ l. marks_in_order l r) (map_append (flow t) xs ys) ∙ marks_append (map (flow t) xs) (map (flow t) ys) r) i;
  }

  pub fits_after : (t : ℕ) (r r' : Around) (b b' : Bool) → FitsAround t r r' → Implies t b b' → FitsAround t (with_after r b) (with_after r' b')
  fits_after t r r' b b' h k = record { next = k; leaves = h.leaves; restarts = h.restarts }

  pub thinner_append : (xs xs' ys ys' : List Stm) → IsThinner xs xs' → IsThinner ys ys' → IsThinner (xs ++ ys) (xs' ++ ys')
  thinner_append xs xs' ys ys' (m, h) (n, k) = (
    m ++ n,
    subst (λ f. Thins (m ++ n) f (code_flow (xs' ++ ys'))) (sym (flow_append xs ys)) (subst (Thins (m ++ n) (after xs ys)) (sym (flow_append xs' ys')) (record {
      live = λ t r r' e. h.live t _ _ (fits_after t r r' _ _ e (k.live t r r' e));
      marks = λ t r r' e. covers_append m _ _ n _ _ (h.marks t _ _ (fits_after t r r' _ _ e (k.live t r r' e))) (k.marks t r r' e);
    })),
  )

  pub thinner_none : IsThinner [] []
  thinner_none = ([], record { live = λ t r r' e v. e.next v; marks = λ t r r' e. tt })

  -- ---- statements without others in them

  -- the second reads nothing that the first doesn't, and what is needed alone
  abbrev pub ReadsLess : List Tree → List Tree → Type 0
  ReadsLess ts ts' = (t : ℕ) → Implies t (any_reads t ts) (any_reads t ts')

  abbrev pub GoesOn : (Around → Bool) → Type 0
  GoesOn on = (t : ℕ) (r r' : Around) → FitsAround t r r' → Implies t (on r) (on r')

  or_implies : (t : ℕ) (a b a' b' : Bool) → Implies t a a' → Implies t b b' → Implies t (a || b) (a' || b')
  or_implies t a b a' b' h k e = by (or_cases a' b' e)
    where
      by : (a' ≡ true) ⊎ (b' ≡ true) → ((a || b) ≡ true) × (needed t ≡ true)
      by (inl x) = (or_left a b (h x).0, (h x).1)
      by (inr y) = (or_right a b (k y).0, (k y).1)

  and_implies : (t : ℕ) (c b b' : Bool) → Implies t b b' → Implies t (c && b) (c && b')
  and_implies t true b b' h e = h e
  and_implies t false b b' h e = from_falsity e

  pub plain_thins : (ts ts' : List Tree) (writes : Option ℕ) (on : Around → Bool) → ReadsLess ts ts' → GoesOn on → Thins (true ∷ []) (λ t. plain t ts writes on) (λ t. plain t ts' writes on)
  plain_thins ts ts' writes on h g = record {
    live = live;
    marks = λ t r r' e. ((λ m. marked t r r' e m), tt);
  }
    where
      live : (t : ℕ) (r r' : Around) → FitsAround t r r' → Implies t (any_reads t ts || (not (is writes t) && on r)) (any_reads t ts' || (not (is writes t) && on r'))
      live t r r' e = or_implies t _ _ _ _ (h t) (and_implies t (not (is writes t)) (on r) (on r') (g t r r' e))

      marked : (t : ℕ) (r r' : Around) → FitsAround t r r' → ((any_reads t ts' || (not (is writes t) && on r')) || is writes t) ≡ true → ((any_reads t ts || (not (is writes t) && on r)) || is writes t) ≡ true
      marked t r r' e = or_both _ (is writes t) _ (is writes t) (λ v. (or_implies t _ _ _ _ (h t) (and_implies t (not (is writes t)) (on r) (on r') (g t r r' e)) v).0) (λ w. w)

  pub on_next : GoesOn goes_next
  on_next t r r' e = e.next

  pub on_leaves : (n : ℕ) → GoesOn (λ r. r.leaves n)
  on_leaves n t r r' e = e.leaves n

  pub on_restarts : (n : ℕ) → GoesOn (λ r. r.restarts n)
  on_restarts n t r r' e = e.restarts n

  pub on_nothing : GoesOn (λ r. false)
  on_nothing t r r' e v = from_falsity v

  -- ---- statements with others in them

  pub if_thins : (x x' : Tree) (a a' b b' : List Stm) → ((t : ℕ) → Implies t (reads_temp t x) (reads_temp t x')) → IsThinner a a' → IsThinner b b' → IsThinner (roll-Stm (stm.If x a b) ∷ []) (roll-Stm (stm.If x' a' b') ∷ [])
  if_thins x x' a a' b b' h (m, ha) (n, hb) = thinner_one (stm.If x a b) (stm.If x' a' b') (true ∷ (m ++ n)) (record {
    live = live;
    marks = λ t r r' e. ((λ v. (live t r r' e v).0), covers_append m _ _ n _ _ (ha.marks t r r' e) (hb.marks t r r' e));
  })
    where
      live : (t : ℕ) (r r' : Around) → FitsAround t r r' → Implies t ((flow_of_layer (stm.If x a b) t).live r) ((flow_of_layer (stm.If x' a' b') t).live r')
      live t r r' e = or_implies t _ _ _ _ (h t) (or_implies t _ _ _ _ (ha.live t r r' e) (hb.live t r r' e))

  at_place_implies : (t : ℕ) (b b' : Bool) (f f' : ℕ → Bool) → Implies t b b' → ((n : ℕ) → Implies t (f n) (f' n)) → (n : ℕ) → Implies t (at_place b f n) (at_place b' f' n)
  at_place_implies t b b' f f' h k zero = h
  at_place_implies t b b' f f' h k (suc n) = k n

  pub fits_loop : (t : ℕ) (r r' : Around) (b b' : Bool) → FitsAround t r r' → Implies t b b' → FitsAround t (around_loop r b) (around_loop r' b')
  fits_loop t r r' b b' h k = record { next = k; leaves = at_place_implies t _ _ _ _ h.next h.leaves; restarts = at_place_implies t _ _ _ _ k h.restarts }

  pub fits_block : (t : ℕ) (r r' : Around) → FitsAround t r r' → FitsAround t (around_block r) (around_block r')
  fits_block t r r' h = record { next = h.next; leaves = at_place_implies t _ _ _ _ h.next h.leaves; restarts = at_place_implies t _ _ _ _ (λ v. from_falsity v) h.restarts }

  pub loop_thins : (b b' : List Stm) → IsThinner b b' → IsThinner (roll-Stm (stm.Loop b) ∷ []) (roll-Stm (stm.Loop b') ∷ [])
  loop_thins b b' (m, h) = thinner_one (stm.Loop b) (stm.Loop b') (true ∷ m) (record {
    live = start;
    marks = λ t r r' e. ((λ v. (start t r r' e v).0), h.marks t _ _ (fits_loop t r r' _ _ e (start t r r' e)));
  })
    where
      start : (t : ℕ) (r r' : Around) → FitsAround t r r' → Implies t (live_at_loop (map (flow t) b) r) (live_at_loop (map (flow t) b') r')
      start t r r' e = h.live t (around_loop r false) (around_loop r' false) (fits_loop t r r' false false e (λ v. from_falsity v))

  pub block_thins : (b b' : List Stm) → IsThinner b b' → IsThinner (roll-Stm (stm.Block b) ∷ []) (roll-Stm (stm.Block b') ∷ [])
  block_thins b b' (m, h) = thinner_one (stm.Block b) (stm.Block b') (true ∷ m) (record {
    live = λ t r r' e. h.live t _ _ (fits_block t r r' e);
    marks = λ t r r' e. ((λ v. (h.live t _ _ (fits_block t r r' e) v).0), h.marks t _ _ (fits_block t r r' e));
  })

  -- ---- bodies

  pub nowhere_fits : (t : ℕ) → FitsAround t nowhere nowhere
  nowhere_fits t = record { next = λ v. from_falsity v; leaves = λ n v. from_falsity v; restarts = λ n v. from_falsity v }

  pub record KeepsIntervals (b b' : Body) : Type 0 where
    pub whole : IsWhole b → IsWhole b'
    pub has_temps : HasTemps b → HasTemps b'
    pub intervals : most_intervals b' ≤ most_intervals b

  pub body_intervals : (b : Body) (code : List Stm) (m : List Bool) → ((t : ℕ) → live_at_start t code ≡ true → live_at_start t b.code ≡ true) →
      ((t : ℕ) → Covers m (marks_in_order (map (flow t) b.code) nowhere) (marks_in_order (map (flow t) code) nowhere)) →
      KeepsIntervals b (record b { code = code })
  body_intervals b code m live marks = record {
    whole = λ w t v. w t (live t v);
    has_temps = λ w i t v. w (place (true ∷ m) i) t (covers_mark (true ∷ m) (all_marks b t) (all_marks (record b { code = code }) t) (covered t) i v);
    intervals = intervals_most b (record b { code = code }) (true ∷ m) refl covered;
  }
    where
      covered : (t : ℕ) → Covers (true ∷ m) (all_marks b t) (all_marks (record b { code = code }) t)
      covered t = (or_both _ (ltb t b.params) _ (ltb t b.params) (live t) (λ v. v), marks t)

  pub thinner_body : (b : Body) (code : List Stm) → IsThinner b.code code → KeepsIntervals b (record b { code = code })
  thinner_body b code (m, h) = body_intervals b code m (λ t v. (h.live t nowhere nowhere (nowhere_fits t) v).0) (λ t. h.marks t nowhere nowhere (nowhere_fits t))
