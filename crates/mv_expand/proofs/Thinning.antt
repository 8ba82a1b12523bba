-- With short bodies in place of calls nothing is live that wasn't live before, and what is written besides stands behind the temporaries of the caller.
use Rattle.std.proofs.Common.{arith, ◌≡◌, ℕ, suc, ◌+◌, ◌<◌, ◌≤◌, Bool, true, false, cond, not, eqb, ◌&&◌, ◌||◌, List, [], ◌∷◌, ◌++◌, length, map, Option, Some, None, refl, sym, ◌∙◌, ap, subst, ◌⊎◌, inl, inr, nat_eq}
use Rattle.std.proofs.lemmas.Bool.{or_left, or_right, eqb-true, eqb-false, cases_eq, cases_lt}
use Rattle.std.proofs.lemmas.Map.Views.{exact_unsigned_eq}
use Rattle.mv_num.specs.Lists.{is_among}
use Rattle.mv_num.proofs.Booleans.{or_cases, and_cases, from_falsity}
use Rattle.mv_ast.specs.Names.{any_of}
use Rattle.mv_ir.specs.declared.tree.Tree.{Tree}
use Rattle.mv_ir.specs.declared.stm.Callee.TheVariants as callee
use Rattle.mv_ir.specs.declared.stm.Stm.{Stm}
use Rattle.mv_ir.specs.declared.stm.Stm.TheOpen.{Stm-F}
use Rattle.mv_ir.specs.declared.stm.Stm.TheOpen as stm
use Rattle.mv_ir.specs.declared.stm.Stm.TheViews.{roll-Stm}
use Rattle.mv_ir.specs.declared.body.Body.{Body}
use Rattle.mv_ir.specs.Live.{reads_temp, any_reads, is, Around, Flow, with_after, around_loop, live_in_order, marks_in_order, live_at_loop, flow, nowhere, live_at_start, all_marks, IsWhole, HasTemps, below}
use Rattle.mv_ir.specs.Rolled.{set, divide, choose, repeat, enclosed}
use Rattle.mv_ir.specs.Shorts.{Shorts}
use Rattle.mv_ir.proofs.Rolls.{flow_roll, flow_of_layer}
use Rattle.mv_fold.proofs.Marks.{any_marked, marked_any, any_cases, any_both}
use Rattle.mv_fold.proofs.Thinner.{covers_any, or_both, FitsAround, flow_one, flow_append, fits_after, fits_loop, fits_block, nowhere_fits}
use Rattle.mv_fold.proofs.FoldedThinner.{every, code_same}
use Rattle.mv_expand.specs.Straight.{short_temps, AllShort, IsShort}
use Rattle.mv_expand.specs.Placed.{given_from, placed_code, IsPlaced}
use Rattle.mv_expand.specs.Expanding.{test_unless, Expands}
use Rattle.mv_expand.proofs.Structure.{IsClosed, expanded_is}
use Rattle.mv_expand.proofs.Laid.{StandsFor, Stands, Laid, no_result, result_to, put, quotient, laid}
use Rattle.mv_expand.proofs.Straightness.{below_has}

-- ---- what is known

-- ---- as one temporary sees code

module _ (t : ℕ) where
  abbrev live_in : List Stm → Around → Bool
  live_in code r = live_in_order (map (flow t) code) r

  abbrev marked : List Stm → Around → Bool
  marked code r = any_of (marks_in_order (map (flow t) code) r)

  live_first : (x : Stm-F Stm) (rest : List Stm) (r : Around) → live_in (roll-Stm x ∷ rest) r ≡ (flow_of_layer x t).live (with_after r (live_in rest r))
  live_first x rest r = ap (λ (f : Flow). f.live (with_after r (live_in rest r))) (flow_roll t x)

  marked_first : (x : Stm-F Stm) (rest : List Stm) (r : Around) → marked (roll-Stm x ∷ rest) r ≡ true → (any_of ((flow_of_layer x t).marks (with_after r (live_in rest r))) ≡ true) ⊎ (marked rest r ≡ true)
  marked_first x rest r e =
      any_cases ((flow_of_layer x t).marks (with_after r (live_in rest r))) (marks_in_order (map (flow t) rest) r)
      (ap (λ (f : Flow). any_of (f.marks (with_after r (live_in rest r)) ++ marks_in_order (map (flow t) rest) r)) (sym (flow_roll t x)) ∙ e)

  -- a statement that reads some trees and writes a temporary
  plain_live : (ts : List Tree) (u : ℕ) (b : Bool) → (any_reads t ts || (not (eqb u t) && b)) ≡ true → (any_reads t ts ≡ true) ⊎ ((u ≡ t → ⊥) × (b ≡ true))
  plain_live ts u b e = by (or_cases (any_reads t ts) (not (eqb u t) && b) e)
    where
      apart : (c : Bool) → eqb u t ≡ c → not c ≡ true → u ≡ t → ⊥
      apart true h n = from_falsity n
      apart false h n = eqb-false u t h

      by : (any_reads t ts ≡ true) ⊎ ((not (eqb u t) && b) ≡ true) → (any_reads t ts ≡ true) ⊎ ((u ≡ t → ⊥) × (b ≡ true))
      by (inl h) = inl h
      by (inr h) = let parts = and_cases (not (eqb u t)) b h in inr (apart (eqb u t) refl parts.0, parts.1)

  -- its mark
  plain_marked : (live written : Bool) → any_of ((live || written) ∷ []) ≡ true → (live ≡ true) ⊎ (written ≡ true)
  plain_marked live written e = by (or_cases (live || written) false e)
    where
      by : ((live || written) ≡ true) ⊎ (false ≡ true) → (live ≡ true) ⊎ (written ≡ true)
      by (inl h) = or_cases live written h
      by (inr h) = from_falsity h

-- ---- what is placed

module _ (t base : ℕ) (keeps : ℕ → Bool) (args : List Tree) where
  abbrev Far : Type 0
  Far = base + short_temps ≤ t

  abbrev For : List ℕ → Type 0
  For known = StandsFor base keeps args known t

  -- what was set there isn't live before
  before : (known : List ℕ) (u : ℕ) → (base + u ≡ t → ⊥) → For (u ∷ known) → For known
  before known u ne s = by (or_cases (nat_eq s.temp u) (is_among s.temp known) s.among)
    where
      by : (nat_eq s.temp u ≡ true) ⊎ (is_among s.temp known ≡ true) → For known
      by (inl h) = absurd (ne (ap (λ k. base + k) (sym (exact_unsigned_eq s.temp u h)) ∙ sym s.is))
      by (inr h) = record { temp = s.temp; among = h; moved = s.moved; is = s.is }

  one_read : (known : List ℕ) (v : Tree) → Stands base keeps args known v → any_reads t (v ∷ []) ≡ true → (any_reads t args ≡ true) ⊎ For known
  one_read known v h e = by (or_cases (reads_temp t v) false e)
    where
      by : (reads_temp t v ≡ true) ⊎ (false ≡ true) → (any_reads t args ≡ true) ⊎ For known
      by (inl q) = h.temps t q
      by (inr q) = from_falsity q

  two_read : (known : List ℕ) (a b : Tree) → Stands base keeps args known a → Stands base keeps args known b → any_reads t (a ∷ b ∷ []) ≡ true → (any_reads t args ≡ true) ⊎ For known
  two_read known a b h k e = by (or_cases (reads_temp t a) (any_reads t (b ∷ [])) e)
    where
      by : (reads_temp t a ≡ true) ⊎ (any_reads t (b ∷ []) ≡ true) → (any_reads t args ≡ true) ⊎ For known
      by (inl q) = h.temps t q
      by (inr q) = one_read known b k q

  module _ (r : Option ℕ) (around : Around) where
    -- the temporary is live at the call
    abbrev Called : Type 0
    Called = (any_reads t args || (not (is r t) && around.next)) ≡ true

    from_args : (any_reads t args ≡ true) → Called
    from_args e = or_left (any_reads t args) (not (is r t) && around.next) e

    read_or : (known : List ℕ) → (any_reads t args ≡ true) ⊎ For known → For known ⊎ Called
    read_or known (inl h) = inr (from_args h)
    read_or known (inr h) = inl h

    -- at a statement that sets one of the temporaries
    set_live : (known : List ℕ) (u : ℕ) (ts : List Tree) (b : Bool) → (any_reads t ts ≡ true → (any_reads t args ≡ true) ⊎ For known) → (b ≡ true → For (u ∷ known) ⊎ Called) →
        (any_reads t ts || (not (eqb (base + u) t) && b)) ≡ true → For known ⊎ Called
    set_live known u ts b h k e = by (plain_live t ts (base + u) b e)
      where
        behind : (base + u ≡ t → ⊥) → For (u ∷ known) ⊎ Called → For known ⊎ Called
        behind ne (inl s) = inl (before known u ne s)
        behind ne (inr c) = inr c

        by : (any_reads t ts ≡ true) ⊎ ((base + u ≡ t → ⊥) × (b ≡ true)) → For known ⊎ Called
        by (inl q) = read_or known (h q)
        by (inr q) = behind q.0 (k q.1)

    laid_live : (q : Option ℕ) (known : List ℕ) (code : List Stm) → Laid base keeps args q known code → q ≡ r → live_in t code around ≡ true → For known ⊎ Called
    laid_live q known code (no_result k) same e = inr (or_right (any_reads t args) _ (ap (λ w. not (is w t) && around.next) (sym same) ∙ e))
    laid_live q known code (result_to k u v h) same e = by (or_cases (any_reads t (v ∷ [])) (not (eqb u t) && around.next) (sym (live_first t (stm.Set u v) [] around) ∙ e))
      where
        by : (any_reads t (v ∷ []) ≡ true) ⊎ ((not (eqb u t) && around.next) ≡ true) → For k ⊎ Called
        by (inl p) = read_or k (one_read k v h p)
        by (inr p) = inr (or_right (any_reads t args) _ (ap (λ w. not (is w t) && around.next) (sym same) ∙ p))
    laid_live q known code (put w k u v rest lt h more) same e =
        set_live k u (v ∷ []) (live_in t rest around) (one_read k v h) (laid_live w (u ∷ k) rest more same) (sym (live_first t (stm.Set (base + u) v) rest around) ∙ e)
    laid_live q known code (quotient w k u o a b rest lt h l more) same e =
        set_live k u (a ∷ b ∷ []) (live_in t rest around) (two_read k a b h l) (laid_live w (u ∷ k) rest more same) (sym (live_first t (stm.Divide (base + u) o a b) rest around) ∙ e)

    -- it is live at the call or written by it
    abbrev Marked : Type 0
    Marked = ((any_reads t args || (not (is r t) && around.next)) || is r t) ≡ true

    as_live : Called → Marked
    as_live e = or_left _ (is r t) e

    near : (u : ℕ) → Far → u < short_temps → base + u ≡ t → ⊥
    near u far lt e = absurd (omega (arith, far, lt, e))

    abbrev Few : List ℕ → Type 0
    Few known = (u : ℕ) → is_among u known ≡ true → u < short_temps

    few_more : (known : List ℕ) (u : ℕ) → u < short_temps → Few known → Few (u ∷ known)
    few_more known u lt h w e = by (or_cases (nat_eq w u) (is_among w known) e)
      where
        by : (nat_eq w u ≡ true) ⊎ (is_among w known ≡ true) → w < short_temps
        by (inl q) = subst (λ k. k < short_temps) (sym (exact_unsigned_eq w u q)) lt
        by (inr q) = h w q

    far_live : (known : List ℕ) → Far → Few known → For known ⊎ Called → Marked
    far_live known far few (inl s) = absurd (near s.temp far (few s.temp s.among) (sym s.is))
    far_live known far few (inr c) = as_live c

    laid_marked : Far → (q : Option ℕ) (known : List ℕ) (code : List Stm) → Laid base keeps args q known code → q ≡ r → Few known → marked t code around ≡ true → Marked
    laid_marked far q known code (no_result k) same few e = from_falsity e
    laid_marked far q known code (result_to k u v h) same few e = by (marked_first t (stm.Set u v) [] around e)
      where
        here : ((any_reads t (v ∷ []) || (not (eqb u t) && around.next)) ≡ true) ⊎ (eqb u t ≡ true) → Marked
        here (inl p) = far_live k far few (laid_live (Some u) k (set u v ∷ []) (result_to k u v h) same (live_first t (stm.Set u v) [] around ∙ p))
        here (inr p) = or_right (any_reads t args || (not (is r t) && around.next)) (is r t) (ap (λ w. is w t) (sym same) ∙ p)

        by : (any_of ((flow_of_layer (stm.Set u v) t).marks (with_after around around.next)) ≡ true) ⊎ (false ≡ true) → Marked
        by (inl p) = here (plain_marked t _ (eqb u t) p)
        by (inr p) = from_falsity p
    laid_marked far q known code (put w k u v rest lt h more) same few e = by (laid_marked far w (u ∷ k) rest more same (few_more k u lt few)) (marked_first t (stm.Set (base + u) v) rest around e)
      where
        here : ((any_reads t (v ∷ []) || (not (eqb (base + u) t) && live_in t rest around)) ≡ true) ⊎ (eqb (base + u) t ≡ true) → Marked
        here (inl p) = far_live k far few (laid_live w k (set (base + u) v ∷ rest) (put w k u v rest lt h more) same (live_first t (stm.Set (base + u) v) rest around ∙ p))
        here (inr p) = absurd (near u far lt (eqb-true (base + u) t p))

        by : (marked t rest around ≡ true → Marked) → (any_of ((flow_of_layer (stm.Set (base + u) v) t).marks (with_after around (live_in t rest around))) ≡ true) ⊎ (marked t rest around ≡ true) → Marked
        by further (inl p) = here (plain_marked t _ (eqb (base + u) t) p)
        by further (inr p) = further p
    laid_marked far q known code (quotient w k u o a b rest lt h l more) same few e = by (laid_marked far w (u ∷ k) rest more same (few_more k u lt few)) (marked_first t (stm.Divide (base + u) o a b) rest around e)
      where
        here : ((any_reads t (a ∷ b ∷ []) || (not (eqb (base + u) t) && live_in t rest around)) ≡ true) ⊎ (eqb (base + u) t ≡ true) → Marked
        here (inl p) = far_live k far few (laid_live w k (divide (base + u) o a b ∷ rest) (quotient w k u o a b rest lt h l more) same (live_first t (stm.Divide (base + u) o a b) rest around ∙ p))
        here (inr p) = absurd (near u far lt (eqb-true (base + u) t p))

        by : (marked t rest around ≡ true → Marked) → (any_of ((flow_of_layer (stm.Divide (base + u) o a b) t).marks (with_after around (live_in t rest around))) ≡ true) ⊎ (marked t rest around ≡ true) → Marked
        by further (inl p) = here (plain_marked t _ (eqb (base + u) t) p)
        by further (inr p) = further p

  -- ---- the arguments

  -- none of those is it into which arguments from one on go
  abbrev Unset : ℕ → ℕ → Type 0
  Unset i n = (u : ℕ) → i ≤ u → u < i + n → keeps u ≡ false → t ≡ base + u → ⊥

  abbrev GivenLive : ℕ → List Tree → Around → Type 0
  GivenLive i rest around = (any_reads t rest ≡ true) ⊎ ((around.next ≡ true) × Unset i (length rest))

  -- where the first of them isn't set, or isn't it
  passed : (i : ℕ) (a : Tree) (rest : List Tree) (around : Around) → (keeps i ≡ false → t ≡ base + i → ⊥) → GivenLive (suc i) rest around → GivenLive i (a ∷ rest) around
  passed i a rest around first (inl h) = inl (or_right (reads_temp t a) (any_reads t rest) h)
  passed i a rest around first (inr h) = inr (h.0, λ u le lt k q. each u (cases_eq u i) le lt k q)
    where
      each : (u : ℕ) → (u ≡ i) ⊎ (u ≡ i → ⊥) → i ≤ u → u < i + suc (length rest) → keeps u ≡ false → t ≡ base + u → ⊥
      each u (inl same) le lt k q = first (ap keeps (sym same) ∙ k) (q ∙ ap (λ n. base + n) same)
      each u (inr other) le lt k q = h.1 u (omega (arith, le, other)) (omega (arith, lt)) k q

  read_first : (a : Tree) (rest : List Tree) → any_reads t (a ∷ []) ≡ true → any_reads t (a ∷ rest) ≡ true
  read_first a rest e = by (or_cases (reads_temp t a) false e)
    where
      by : (reads_temp t a ≡ true) ⊎ (false ≡ true) → any_reads t (a ∷ rest) ≡ true
      by (inl h) = or_left (reads_temp t a) (any_reads t rest) h
      by (inr h) = from_falsity h

  given_live : (i : ℕ) (rest : List Tree) (around : Around) → live_in t (given_from base keeps args i rest) around ≡ true → GivenLive i rest around
  given_live i [] around e = inr (e, λ u le lt k q. absurd (omega (arith, le, lt)))
  given_live i (a ∷ rest) around e = by (given_live (suc i) rest around) (keeps i) refl e
    where
      more : List Stm
      more = given_from base keeps args (suc i) rest

      first : (live_in t more around ≡ true → GivenLive (suc i) rest around) → (any_reads t (a ∷ []) ≡ true) ⊎ ((base + i ≡ t → ⊥) × (live_in t more around ≡ true)) → GivenLive i (a ∷ rest) around
      first further (inl h) = inl (read_first a rest h)
      first further (inr h) = passed i a rest around (λ n q. h.0 (sym q)) (further h.1)

      by : (live_in t more around ≡ true → GivenLive (suc i) rest around) → (b : Bool) → keeps i ≡ b → live_in t (cond b [] (set (base + i) a ∷ []) ++ more) around ≡ true → GivenLive i (a ∷ rest) around
      by further true k e = passed i a rest around (λ n. from_falsity (sym n ∙ k)) (further e)
      by further false k e = first further (plain_live t (a ∷ []) (base + i) (live_in t more around) (sym (live_first t (stm.Set (base + i) a) more around) ∙ e))

  abbrev GivenMarked : List Tree → Around → Type 0
  GivenMarked rest around = (any_reads t rest ≡ true) ⊎ (around.next ≡ true)

  read_later : (a : Tree) (rest : List Tree) (around : Around) → GivenMarked rest around → GivenMarked (a ∷ rest) around
  read_later a rest around (inl h) = inl (or_right (reads_temp t a) (any_reads t rest) h)
  read_later a rest around (inr h) = inr h

  live_marked : (i : ℕ) (rest : List Tree) (around : Around) → GivenLive i rest around → GivenMarked rest around
  live_marked i rest around (inl h) = inl h
  live_marked i rest around (inr h) = inr h.0

  given_marked : Far → (i : ℕ) (rest : List Tree) (around : Around) → i + length rest ≤ short_temps → marked t (given_from base keeps args i rest) around ≡ true → GivenMarked rest around
  given_marked far i [] around le e = from_falsity e
  given_marked far i (a ∷ rest) around le e = by (given_marked far (suc i) rest around (omega (arith, le))) (keeps i) e
    where
      more : List Stm
      more = given_from base keeps args (suc i) rest

      at : (any_reads t (a ∷ []) ≡ true) ⊎ ((base + i ≡ t → ⊥) × (live_in t more around ≡ true)) → GivenMarked (a ∷ rest) around
      at (inl h) = inl (read_first a rest h)
      at (inr h) = read_later a rest around (live_marked (suc i) rest around (given_live (suc i) rest around h.1))

      here : ((any_reads t (a ∷ []) || (not (eqb (base + i) t) && live_in t more around)) ≡ true) ⊎ (eqb (base + i) t ≡ true) → GivenMarked (a ∷ rest) around
      here (inl h) = at (plain_live t (a ∷ []) (base + i) (live_in t more around) h)
      here (inr h) = absurd (omega (arith, far, le, eqb-true (base + i) t h))

      first : (marked t more around ≡ true → GivenMarked rest around) →
          (any_of ((flow_of_layer (stm.Set (base + i) a) t).marks (with_after around (live_in t more around))) ≡ true) ⊎ (marked t more around ≡ true) → GivenMarked (a ∷ rest) around
      first further (inl h) = here (plain_marked t _ (eqb (base + i) t) h)
      first further (inr h) = read_later a rest around (further h)

      by : (marked t more around ≡ true → GivenMarked rest around) → (b : Bool) → marked t (cond b [] (set (base + i) a ∷ []) ++ more) around ≡ true → GivenMarked (a ∷ rest) around
      by further true e = read_later a rest around (further e)
      by further false e = first further (marked_first t (stm.Set (base + i) a) more around e)

-- ---- in place of a call

module _ (t : ℕ) where
  lives_append : (xs ys : List Stm) (r : Around) → live_in t (xs ++ ys) r ≡ live_in t xs (with_after r (live_in t ys r))
  lives_append xs ys r = ap (λ (f : ℕ → Flow). (f t).live r) (flow_append every xs ys)

  marked_append : (xs ys : List Stm) (r : Around) → marked t (xs ++ ys) r ≡ any_of (marks_in_order (map (flow t) xs) (with_after r (live_in t ys r)) ++ marks_in_order (map (flow t) ys) r)
  marked_append xs ys r = ap (λ (f : ℕ → Flow). any_of ((f t).marks r)) (flow_append every xs ys)

module _ (t base : ℕ) (r : Option ℕ) (args : List Tree) (b : Body) (placed : List Stm) (k : IsPlaced base r args b placed) (short : IsShort b) (around : Around) where
  abbrev given : List Stm
  given = given_from base k.keeps args 0 args

  abbrev code : List Stm
  code = placed_code base k.keeps args r b.code

  is_laid : Laid base k.keeps args r (below b.params) code
  is_laid = laid base k.keeps args b.temps short.temps r (below b.params) b.code short.straight

  few : (u : ℕ) → is_among u (below b.params) ≡ true → u < short_temps
  few u e = omega (arith, below_has b.params u e, short.params)

  code_live : live_in t code around ≡ true → StandsFor base k.keeps args (below b.params) t ⊎ Called t base k.keeps args r around
  code_live = laid_live t base k.keeps args r around r (below b.params) code is_laid refl

  placed_live : live_in t placed around ≡ true → Called t base k.keeps args r around
  placed_live e = by (given_live t base k.keeps args 0 args (with_after around (live_in t code around)) (sym (lives_append t given code around) ∙ ap (λ l. live_in t l around) (sym k.is) ∙ e))
    where
      unset : Unset t base k.keeps args 0 (length args) → StandsFor base k.keeps args (below b.params) t ⊎ Called t base k.keeps args r around → Called t base k.keeps args r around
      unset h (inl s) = absurd (h s.temp (omega arith) (omega (arith, below_has b.params s.temp s.among, k.count)) s.moved s.is)
      unset h (inr c) = c

      by : GivenLive t base k.keeps args 0 args (with_after around (live_in t code around)) → Called t base k.keeps args r around
      by (inl h) = from_args t base k.keeps args r around h
      by (inr h) = unset h.1 (code_live h.0)

  placed_marked : base + short_temps ≤ t → marked t placed around ≡ true → Marked t base k.keeps args r around
  placed_marked far e =
      by (any_cases (marks_in_order (map (flow t) given) (with_after around (live_in t code around))) (marks_in_order (map (flow t) code) around)
      (sym (marked_append t given code around) ∙ ap (λ l. marked t l around) (sym k.is) ∙ e))
    where
      first : GivenMarked t base k.keeps args args (with_after around (live_in t code around)) → Marked t base k.keeps args r around
      first (inl h) = as_live t base k.keeps args r around (from_args t base k.keeps args r around h)
      first (inr h) = far_live t base k.keeps args r around (below b.params) far few (code_live h)

      by : (marked t given (with_after around (live_in t code around)) ≡ true) ⊎ (marked t code around ≡ true) → Marked t base k.keeps args r around
      by (inl h) = first (given_marked t base k.keeps args far 0 args (with_after around (live_in t code around)) (omega (arith, k.count, short.params)) h)
      by (inr h) = laid_marked t base k.keeps args r around far r (below b.params) code is_laid refl few h

-- ---- the relation on code

module _ (t base : ℕ) where
  record Thin (xs ys : List Stm) : Type 0 where
    pub live : (r r' : Around) → FitsAround every t r r' → live_in t ys r' ≡ true → live_in t xs r ≡ true
    pub marks : base + short_temps ≤ t → (r r' : Around) → FitsAround every t r r' → marked t ys r' ≡ true → marked t xs r ≡ true

  thin_same : (xs : List Stm) → Thin xs xs
  thin_same xs = let (mask, k) = code_same xs in record { live = λ r r' f e. (k.live t r r' f e).0; marks = λ far r r' f e. covers_any mask _ _ (k.marks t r r' f) e }

  thin_both : (xs xs' ys ys' : List Stm) → Thin xs xs' → Thin ys ys' → Thin (xs ++ ys) (xs' ++ ys')
  thin_both xs xs' ys ys' h k = record {
    live = λ r r' f e. lives_append t xs ys r ∙ h.live _ _ (behind r r' f) (sym (lives_append t xs' ys' r') ∙ e);
    marks = λ far r r' f e.
        marked_append t xs ys r ∙
        any_both (marks_in_order (map (flow t) xs) (with_after r (live_in t ys r))) (marks_in_order (map (flow t) ys) r) (marks_in_order (map (flow t) xs') (with_after r' (live_in t ys' r')))
        (marks_in_order (map (flow t) ys') r') (h.marks far _ _ (behind r r' f)) (k.marks far r r' f) (sym (marked_append t xs' ys' r') ∙ e);
  }
    where
      behind : (r r' : Around) → FitsAround every t r r' → FitsAround every t (with_after r (live_in t ys r)) (with_after r' (live_in t ys' r'))
      behind r r' f = fits_after every t r r' (live_in t ys r) (live_in t ys' r') f (λ v. (k.live r r' f v, refl))

  live_one : (x : Stm-F Stm) (r : Around) → live_in t (roll-Stm x ∷ []) r ≡ (flow_of_layer x t).live r
  live_one x r = ap (λ (f : ℕ → Flow). (f t).live r) (flow_one every x)

  marked_one : (x : Stm-F Stm) (r : Around) → marked t (roll-Stm x ∷ []) r ≡ any_of ((flow_of_layer x t).marks r)
  marked_one x r = ap (λ (f : ℕ → Flow). any_of ((f t).marks r)) (flow_one every x)

  thin_layer : (x y : Stm-F Stm) → ((r r' : Around) → FitsAround every t r r' → (flow_of_layer y t).live r' ≡ true → (flow_of_layer x t).live r ≡ true) →
      (base + short_temps ≤ t → (r r' : Around) → FitsAround every t r r' → any_of ((flow_of_layer y t).marks r') ≡ true → any_of ((flow_of_layer x t).marks r) ≡ true) → Thin (roll-Stm x ∷ []) (roll-Stm y ∷ [])
  thin_layer x y h k = record { live = λ r r' f e. live_one x r ∙ h r r' f (sym (live_one y r') ∙ e); marks = λ far r r' f e. marked_one x r ∙ k far r r' f (sym (marked_one y r') ∙ e) }

  thin_choice : (c : Tree) (a a' b b' : List Stm) → Thin a a' → Thin b b' → Thin (choose c a b ∷ []) (choose c a' b' ∷ [])
  thin_choice c a a' b b' h k = thin_layer (stm.If c a b) (stm.If c a' b') start (λ far r r' f. or_both _ _ _ _ (start r r' f)
      (any_both (marks_in_order (map (flow t) a) r) (marks_in_order (map (flow t) b) r) (marks_in_order (map (flow t) a') r') (marks_in_order (map (flow t) b') r') (h.marks far r r' f) (k.marks far r r' f)))
    where
      start : (r r' : Around) → FitsAround every t r r' → (reads_temp t c || (live_in t a' r' || live_in t b' r')) ≡ true → (reads_temp t c || (live_in t a r || live_in t b r)) ≡ true
      start r r' f = or_both (reads_temp t c) (live_in t a r || live_in t b r) (reads_temp t c) (live_in t a' r' || live_in t b' r') (λ e. e)
          (or_both (live_in t a r) (live_in t b r) (live_in t a' r') (live_in t b' r') (h.live r r' f) (k.live r r' f))

  thin_loop : (b b' : List Stm) → Thin b b' → Thin (repeat b ∷ []) (repeat b' ∷ [])
  thin_loop b b' h = thin_layer (stm.Loop b) (stm.Loop b') start (λ far r r' f. or_both _ _ _ _ (start r r' f) (h.marks far _ _ (fits_loop every t r r' _ _ f (λ v. (start r r' f v, refl)))))
    where
      start : (r r' : Around) → FitsAround every t r r' → live_at_loop (map (flow t) b') r' ≡ true → live_at_loop (map (flow t) b) r ≡ true
      start r r' f = h.live (around_loop r false) (around_loop r' false) (fits_loop every t r r' false false f (λ v. from_falsity v))

  thin_block : (b b' : List Stm) → Thin b b' → Thin (enclosed b ∷ []) (enclosed b' ∷ [])
  thin_block b b' h = thin_layer (stm.Block b) (stm.Block b') (λ r r' f. h.live _ _ (fits_block every t r r' f))
      (λ far r r' f. or_both _ _ _ _ (h.live _ _ (fits_block every t r r' f)) (h.marks far _ _ (fits_block every t r r' f)))

  module _ (r : Option ℕ) (f : ℕ) (args : List Tree) (b : Body) (placed : List Stm) (k : IsPlaced base r args b placed) (short : IsShort b) where
    abbrev called : Stm-F Stm
    called = stm.Call r (callee.Direct f) args

    abbrev test : Stm-F Stm
    test = stm.Call None callee.Expanded []

    call_live : (around : Around) → live_in t placed around ≡ true → live_in t (roll-Stm called ∷ []) around ≡ true
    call_live around e = live_one called around ∙ placed_live t base r args b placed k short around e

    call_marked : (around : Around) → (((any_reads t args || (not (is r t) && around.next)) || is r t) ≡ true) → marked t (roll-Stm called ∷ []) around ≡ true
    call_marked around e = marked_one called around ∙ or_left _ false e

    thin_place : (tested : Bool) → Thin (roll-Stm called ∷ []) (test_unless tested ++ placed)
    thin_place true = record {
      live = λ a a' fit e. (thin_same (roll-Stm called ∷ [])).live a a' fit (call_live a' e);
      marks = λ far a a' fit e. (thin_same (roll-Stm called ∷ [])).marks far a a' fit (call_marked a' (placed_marked t base r args b placed k short a' far e));
    }
    thin_place false = record {
      live = λ a a' fit e. (thin_same (roll-Stm called ∷ [])).live a a' fit (call_live a' (sym (live_first t test placed a') ∙ e));
      marks = λ far a a' fit e. (thin_same (roll-Stm called ∷ [])).marks far a a' fit (either far a' (marked_first t test placed a' e));
    }
      where
        live_here : (a : Around) → (live_in t placed a ≡ true) ⊎ (false ≡ true) → marked t (roll-Stm called ∷ []) a ≡ true
        live_here a (inl h) = call_marked a (or_left _ (is r t) (placed_live t base r args b placed k short a h))
        live_here a (inr h) = from_falsity h

        either : base + short_temps ≤ t → (a : Around) → (any_of ((flow_of_layer test t).marks (with_after a (live_in t placed a))) ≡ true) ⊎ (marked t placed a ≡ true) → marked t (roll-Stm called ∷ []) a ≡ true
        either far a (inl h) = live_here a (plain_marked t (live_in t placed a) false h)
        either far a (inr h) = call_marked a (placed_marked t base r args b placed k short a far h)

  thin_closed : (shorts : Shorts) → AllShort shorts → IsClosed shorts base Thin
  thin_closed shorts short = record {
    itself = thin_same;
    both = thin_both;
    branches = thin_choice;
    loops = thin_loop;
    encloses = thin_block;
    places = λ tested r f args b placed e k. thin_place r f args b placed k (short f b e) tested;
  }

-- ---- bodies

module _ (shorts : Shorts) (body : Body) (code : List Stm) (short : AllShort shorts) (h : Expands shorts body.temps false body.code code) where
  thin : (t : ℕ) → Thin t body.temps body.code code
  thin t = expanded_is shorts body.temps (Thin t body.temps) (thin_closed t body.temps shorts short) false body.code code h

  start : (t : ℕ) → live_at_start t code ≡ true → live_at_start t body.code ≡ true
  start t = (thin t).live nowhere nowhere (nowhere_fits every t)

  pub expands_whole : IsWhole body → IsWhole (record body { temps = body.temps + short_temps; code = code })
  expands_whole w t e = w t (start t e)

  pub expands_has_temps : HasTemps body → HasTemps (record body { temps = body.temps + short_temps; code = code })
  expands_has_temps w i t e = by (cases_lt t (body.temps + short_temps))
    where
      result : Body
      result = record body { temps = body.temps + short_temps; code = code }

      all : body.temps + short_temps ≤ t → any_of (all_marks result t) ≡ true → any_of (all_marks body t) ≡ true
      all far = or_both _ _ _ _ (or_both _ _ _ _ (start t) (λ p. p)) ((thin t).marks far nowhere nowhere (nowhere_fits every t))

      by : (t < body.temps + short_temps) ⊎ (body.temps + short_temps ≤ t) → t < body.temps + short_temps
      by (inl lt) = lt
      by (inr far) = let found = any_marked (all_marks body t) (all far (marked_any (all_marks result t) i e)) in let lt : t < body.temps = w found.0 t found.1 in omega (arith, lt)
