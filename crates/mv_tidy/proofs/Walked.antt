-- The walk over code gives what becomes of it.
use Rattle.std.proofs.Common.{arith, ◌≡◌, ℕ, suc, ◌+◌, ◌-◌, ◌<◌, ◌≤◌, false, List, [], ◌∷◌, ◌++◌, length, map, get_or, reverse, append-nil, option_to_list, Option, Some, Result, Ok, Err, OnOk, IfOk, IfSome, true, refl, sym, ◌∙◌, ap, subst, ◌⊎◌, inl, inr}
use Rattle.std.specs.Prelude.{replicate, slice_set}
use Rattle.std.proofs.lemmas.List.{get_or-reverse, length-append, length-reverse, reverse-append, reverse-reverse, length-replicate}
use Rattle.std.proofs.lemmas.Option.{IfSome_then}
use Rattle.std.proofs.lemmas.Result.{IfOk-weaker}
use Rattle.mv_ir.specs.declared.tree.Tree.{Tree}
use Rattle.mv_ir.specs.declared.stm.Stm.{Stm}
use Rattle.mv_ir.specs.declared.stm.Stm as at
use Rattle.mv_ir.specs.declared.stm.Stm.TheVariants.{rolls-If, rolls-Loop, rolls-Block}
use Rattle.mv_ir.specs.declared.stm.Stm.TheOpen as stm
use Rattle.mv_ir.specs.Measures.{calls, statements, stm_size, total}
use Rattle.mv_ir.proofs.Rolls.{size_roll}
use Rattle.mv_ir.proofs.Keeping.{map_append}
use Rattle.mv_ir.proofs.Joining.{total_append}
use Rattle.mv_ir.specs.Rolled.{temp, set}
use Rattle.mv_fold.specs.Simple.{jumps}
use Rattle.mv_ir.specs.Live.{mark_at, Around, with_after, around_block, around_loop, live_in_order, live_at_loop, flow, nowhere}
use Rattle.mv_regalloc.specs.Rows.{Bits, Sets, sets, sets_inside, live_before, loop_bits, own_trees, stm_rows, no_sets, with_all_reads}
use Rattle.mv_regalloc.specs.Seen.{seen}
use Rattle.mv_regalloc.specs.Shared.{LiveSets, entered, forgotten, left, row_of, with_live, with_saved}
use Rattle.mv_regalloc.specs.declared.liveness.Row.TheVariants.{Saved, Start}
use Rattle.mv_regalloc.proofs.RowEquations.{own_if, live_if, live_loop, live_block}
use Rattle.mv_regalloc.proofs.RowsShow.{code_shows, wide_after, wide_inside, seen_inside, seen_nowhere}
use Rattle.mv_regalloc.proofs.BodySpans.{clear_at}
use Rattle.mv_tidy.specs.Tidying.{IsOne, divided, fetched, called, asked, carried, stored, written, lives, before, in_loop, in_block, Left, Becomes, none, put, one, dropped, idle, ended, same, choice, turns, block, IsJoinedCode}
use Rattle.mv_tidy.specs.Walking.{IsGone, IsSeen, IsBehind, IsLeft, HasBecome, turning, IsOneOfLast, IsIdle, passed, sides_bits, IsWalked, IsWalkedTo}
use Rattle.mv_tidy.proofs.QuietCode.{calls_reverse}

-- ---- what one temporary sees

module _ (temps : ℕ) (sets : Sets) (r : ℕ → Around) (s : IsSeen temps sets r) where
  pub live_seen : (code : List Stm) (t : ℕ) → t < temps → mark_at (live_before (map stm_rows code) sets) t ≡ lives r code t
  live_seen code t lt = (code_shows temps code sets s.wide).live t lt ∙ ap (live_in_order (map (flow t) code)) (s.same t lt)

  pub seen_before : (code : List Stm) → IsSeen temps (record sets { next = live_before (map stm_rows code) sets }) (before r code)
  seen_before code = record {
    wide = wide_after temps sets (live_before (map stm_rows code) sets) s.wide (code_shows temps code sets s.wide).long;
    same = λ t lt. ap (λ b. with_after (seen sets t) b) (live_seen code t lt) ∙ ap (λ a. with_after a (lives r code t)) (s.same t lt);
  }

  start_seen : (b : List Stm) (t : ℕ) → t < temps → mark_at (loop_bits (map stm_rows b) sets) t ≡ live_at_loop (map (flow t) b) (r t)
  start_seen b t lt =
      let w = s.wide in
      (code_shows temps b (sets_inside sets sets.none sets.none) (wide_inside temps sets sets.none sets.none w w.none w.none)).live t lt ∙
      ap (live_in_order (map (flow t) b)) (seen_inside temps sets sets.none sets.none t false false (w.clear t) (w.clear t)) ∙
      ap (λ a. live_at_loop (map (flow t) b) a) (s.same t lt)

  pub seen_in_loop : (b : List Stm) → IsSeen temps (sets_inside sets (loop_bits (map stm_rows b) sets) (loop_bits (map stm_rows b) sets)) (in_loop r b)
  seen_in_loop b =
      let w = s.wide in
      let start = loop_bits (map stm_rows b) sets in
      let long = (code_shows temps b (sets_inside sets sets.none sets.none) (wide_inside temps sets sets.none sets.none w w.none w.none)).long in
      record {
        wide = wide_inside temps sets start start w long long;
        same = λ t lt.
            let e = start_seen b t lt in
            seen_inside temps sets start start t _ _ e e ∙ ap (λ a. around_loop a (live_at_loop (map (flow t) b) (r t))) (s.same t lt);
      }

  pub seen_in_block : IsSeen temps (sets_inside sets sets.next sets.none) (in_block r)
  seen_in_block =
      let w = s.wide in
      record {
        wide = wide_inside temps sets sets.next sets.none w w.next w.none;
        same = λ t lt. seen_inside temps sets sets.next sets.none t (mark_at sets.next t) false refl (w.clear t) ∙ ap around_block (s.same t lt);
      }

-- ---- two statements as one

one_as : (g h : ℕ → Type 0) → ((t : ℕ) → g t → h t) → (s n z : Stm) → IsOne g s n z → IsOne h s n z
one_as g h f s n z (divided t x o a b k) = divided t x o a b (f t k)
one_as g h f s n z (fetched t x r i k) = fetched t x r i (f t k)
one_as g h f s n z (called t x c args k) = called t x c args (f t k)
one_as g h f s n z (asked t x c args k) = asked t x c args (f t k)
one_as g h f s n z (carried t x e v w k l) = carried t x e v w (by k) l
  where
    by : g t ⊎ (t ≡ x) → h t ⊎ (t ≡ x)
    by (inl a) = inl (f t a)
    by (inr a) = inr a
one_as g h f s n z (stored t x e v w k l) = stored t x e v w (f t k) l
one_as g h f s n z (written t r e i v w k u l) = written t r e i v w (f t k) u l

-- ---- the walk

pub on_ok_both : {T E A B C : Type 0} (r : Result T E) → (A → B → C) → OnOk r A → OnOk r B → OnOk r C
on_ok_both (Ok x) f a b = f a b
on_ok_both (Err e) f a b = tt

walk_starts : (temps : ℕ) (s now : LiveSets) → now ≡ with_saved (with_saved s s.live) s.around.none → IsWalked temps s [] [] now
walk_starts temps s now e = record {
  live = s.around.none;
  is = e;
  left = λ r k. record { behind = λ t. false; same = λ t lt. k.wide.clear t; left = none r };
}

module _ (temps : ℕ) (start : LiveSets) (code kept : List Stm) (s : Stm) (now now' : LiveSets) (w : IsWalked temps start code kept now) where
  abbrev around : Sets
  around = sets start.around start.live

  -- the statement does nothing
  pub walk_passes : IsIdle temps now.live s → now' ≡ passed s now → IsWalked temps start (s ∷ code) kept now'
  walk_passes k e = record {
    live = w.live;
    is = e ∙ ap (passed s) w.is;
    left = λ r seen. let b = w.left r seen in record { behind = b.behind; same = b.same; left = goes r seen b };
  }
    where
      goes : (r : ℕ → Around) → IsSeen temps around r → (b : IsBehind temps r w.live code (reverse kept)) → Left temps r (s ∷ code) b.behind (reverse kept)
      goes r seen b = subst (λ x. Left temps r (x ∷ code) b.behind (reverse kept)) (sym k.is) (by k.idle)
        where
          by : (mark_at now.live k.temp ≡ false) ⊎ (k.value ≡ temp k.temp) → Left temps r (set k.temp k.value ∷ code) b.behind (reverse kept)
          by (inl dead) =
              dropped r k.temp k.value code (reverse kept) b.behind b.left k.within
              (sym (live_seen temps around r seen code k.temp k.within) ∙ sym (ap (λ l. mark_at l.live k.temp) w.is) ∙ dead)
          by (inr same_value) = subst (λ v. Left temps r (set k.temp v ∷ code) b.behind (reverse kept)) (sym same_value)
              (idle r k.temp code (reverse kept) b.behind b.left k.within)

  module _ (kept' : List Stm) where
    -- the statement is a jump behind which nothing calls
    pub walk_jumps : jumps s ≡ true → calls kept ≡ 0 → kept' ≡ s ∷ [] → now' ≡ passed s (with_saved (forgotten now) (row_of (forgotten now) (Saved 0))) →
        IsWalked temps start (s ∷ code) kept' now'
    walk_jumps j quiet is e = record {
      live = start.live;
      is = e ∙ ap (λ l. passed s (with_saved (forgotten l) (row_of (forgotten l) (Saved 0)))) w.is;
      left = λ r seen. record {
        behind = lives r [];
        same = λ t lt. live_seen temps around r seen [] t lt;
        left =
            let b = w.left r seen in
            subst (Left temps r (s ∷ code) (lives r [])) (sym (ap reverse is)) (ended r s code (reverse kept) b.behind b.left j (calls_reverse kept ∙ quiet));
      };
    }

    -- the statement is one with the last
    pub walk_joins : (z : Stm) → IsOneOfLast temps (row_of now (Saved 0)) s kept z →
        ((n : Stm) (rest : List Stm) → reverse kept ≡ n ∷ rest → reverse kept' ≡ z ∷ rest) → now' ≡ passed s now → IsWalked temps start (s ∷ code) kept' now'
    walk_joins z (n, rest, is, k) put_there e = record {
      live = w.live;
      is = e ∙ ap (passed s) w.is;
      left = λ r seen. behind r seen (w.left r seen);
    }
      where
        behind : (r : ℕ → Around) → IsSeen temps around r → IsBehind temps r w.live code (reverse kept) → IsBehind temps r w.live (s ∷ code) (reverse kept')
        behind r seen b = record {
          behind = b.behind;
          same = b.same;
          left = subst (Left temps r (s ∷ code) b.behind) (sym (put_there n rest is))
              (one r s n z code rest b.behind (subst (Left temps r code b.behind) is b.left)
              (one_as (IsGone temps (row_of now (Saved 0))) _
              (λ t g. (g.0, sym (b.same t g.0) ∙ sym (ap (λ l. mark_at (row_of l (Saved 0)) t) w.is) ∙ g.1)) s n z k));
        }

    -- the statement stands
    pub walk_goes_on : (y : Stm) (mid : LiveSets) → mid ≡ with_saved (forgotten now) now.live → HasBecome temps mid s y → kept' ≡ kept ++ y ∷ [] →
        now' ≡ passed s mid → IsWalked temps start (s ∷ code) kept' now'
    walk_goes_on y mid aside becomes is e = record {
      live = now.live;
      is = e ∙ ap (passed s) (aside ∙ ap (λ l. with_saved (forgotten l) now.live) w.is);
      left = λ r seen. record {
        behind = lives r code;
        same = λ t lt. ap (λ l. mark_at l.live t) w.is ∙ live_seen temps around r seen code t lt;
        left =
            let b = w.left r seen in
            let here = seen_before temps around r seen code in
            let so = becomes (before r code) (subst (λ l. IsSeen temps (sets l.around l.live) (before r code))
            (sym (aside ∙ ap (λ l. with_saved (forgotten l) now.live) w.is)) here)
            in
            subst (Left temps r (s ∷ code) (lives r code)) (sym (ap reverse is ∙ reverse-append kept (y ∷ [])))
            (put r s y code (reverse kept) b.behind b.left so);
      };
    }

-- at the start of the walk over some code all of it is left
pub walk_begins : (temps : ℕ) (s now : LiveSets) (code left kept : List Stm) → left ≡ code → kept ≡ [] →
    now ≡ with_saved (with_saved s s.live) s.around.none → IsWalkedTo temps s code left kept now
walk_begins temps s now code left kept all none_kept e =
    ([], sym all ∙ sym (append-nil left), subst (λ k. IsWalked temps s [] k now) (sym none_kept) (walk_starts temps s now e))

pub walk_ends : (temps : ℕ) (s now : LiveSets) (code left kept result : List Stm) → left ≡ [] → IsWalkedTo temps s code left kept now → result ≡ reverse kept →
    IsLeft temps s code result
walk_ends temps s now code left kept result none_left w e r seen =
    let whole = subst (λ c. IsWalked temps s c kept now) (sym (w.1 ∙ ap (λ l. l ++ w.0) none_left)) w.2 in
    let b = whole.left r seen in
    (b.behind, subst (Left temps r code b.behind) (sym e) b.left)

-- ---- how many statements there are

pub statements_append : (xs ys : List Stm) → statements (xs ++ ys) ≡ statements xs + statements ys
statements_append xs ys = ap total (map_append stm_size xs ys) ∙ total_append (map stm_size xs) (map stm_size ys)

-- the last of those that are left of some code has no more than the code
pub fewer_in_last : (code left left' rest : List Stm) (popped : Option Stm) (s : Stm) → code ≡ left ++ rest → left ≡ left' ++ option_to_list popped → popped ≡ Some s →
    stm_size s ≤ statements code
fewer_in_last code left left' rest popped s ec el ep =
    let last : left ≡ left' ++ s ∷ [] = el ∙ ap (λ o. left' ++ option_to_list o) ep in
    omega (arith, ap statements (ec ∙ ap (λ l. l ++ rest) last), statements_append (left' ++ s ∷ []) rest, statements_append left' (s ∷ []))

pub fewer_in_if : (s : Stm) (t : Tree) (a b : List Stm) → s ≡ at.If t a b → stm_size s ≡ suc (statements a + statements b)
fewer_in_if s t a b e = ap stm_size (e ∙ sym (rolls-If t a b)) ∙ size_roll (stm.If t a b)

pub fewer_in_loop : (s : Stm) (b : List Stm) → s ≡ at.Loop b → stm_size s ≡ suc (statements b)
fewer_in_loop s b e = ap stm_size (e ∙ sym (rolls-Loop b)) ∙ size_roll (stm.Loop b)

pub fewer_in_block : (s : Stm) (b : List Stm) → s ≡ at.Block b → stm_size s ≡ suc (statements b)
fewer_in_block s b e = ap stm_size (e ∙ sym (rolls-Block b)) ∙ size_roll (stm.Block b)

-- ---- what becomes of a statement

pub leaf_becomes : (temps : ℕ) (s : LiveSets) (x y : Stm) → y ≡ x → HasBecome temps s x y
leaf_becomes temps s x y e r seen = subst (Becomes temps r x) (sym e) (same r x)

module _ (temps : ℕ) (s : LiveSets) where
  pub if_becomes : (t t' : Tree) (a a' b b' : List Stm) → t' ≡ t → IsLeft temps s a a' → IsLeft temps s b b' → HasBecome temps s (at.If t a b) (at.If t' a' b')
  if_becomes t t' a a' b b' e ha hb r seen =
      let l = ha r seen in
      let k = hb r seen in
      subst (λ u. Becomes temps r (at.If t a b) (at.If u a' b')) (sym e)
      (subst (λ x. Becomes temps r x (at.If t a' b')) (rolls-If t a b) (subst (Becomes temps r _) (rolls-If t a' b') (choice r t a a' b b' l.0 k.0 l.1 k.1)))

  pub loop_becomes : (b b' : List Stm) → IsLeft temps (turning s b) b b' → HasBecome temps s (at.Loop b) (at.Loop b')
  loop_becomes b b' h r seen =
      let l = h (in_loop r b) (seen_in_loop temps (sets s.around s.live) r seen b) in
      subst (λ x. Becomes temps r x (at.Loop b')) (rolls-Loop b) (subst (Becomes temps r _) (rolls-Loop b') (turns r b b' l.0 l.1))

  pub block_becomes : (b b' : List Stm) → IsLeft temps (entered s s.live s.around.none) b b' → HasBecome temps s (at.Block b) (at.Block b')
  block_becomes b b' h r seen =
      let l = h (in_block r) (seen_in_block temps (sets s.around s.live) r seen) in
      subst (λ x. Becomes temps r x (at.Block b')) (rolls-Block b) (subst (Becomes temps r _) (rolls-Block b') (block r b b' l.0 l.1))

pub ruleset becoming = (leaf_becomes, loop_becomes, block_becomes)

-- ---- from behind a statement to its start

pub choice_live : (t t' : Tree) (a a' b b' : List Stm) (s sides now : LiveSets) → t' ≡ t → sides ≡ with_live s (sides_bits a b s) →
    now ≡ with_live sides (with_all_reads (own_trees (at.If t' a' b')) sides.live) → now ≡ passed (at.If t a b) s
choice_live t t' a a' b b' s sides now et es e =
    let own = own_if t' a' b' ∙ ap (λ x. x ∷ []) et ∙ sym (own_if t a b) in
    e ∙ ap (λ x. with_live sides (with_all_reads x sides.live)) own ∙ ap (λ l. with_live l (with_all_reads (own_trees (at.If t a b)) l.live)) es ∙
    ap (with_live s) (sym (live_if (sets s.around s.live) t a b))

pub loop_live : (b : List Stm) (s within behind out now : LiveSets) → within ≡ turning s b →
    behind ≡ with_live within (live_before (map stm_rows b) (sets within.around within.live)) → out ≡ with_live behind (row_of behind (Start 0)) →
    now ≡ left out → now ≡ passed (at.Loop b) s
loop_live b s within behind out now ew eb eo e =
    e ∙ ap left (eo ∙ ap (λ l. with_live l (row_of l (Start 0))) (eb ∙ ap (λ l. with_live l (live_before (map stm_rows b) (sets l.around l.live))) ew)) ∙
    ap (with_live s) (sym (live_loop (sets s.around s.live) b))

pub block_live : (b : List Stm) (s within behind now : LiveSets) → within ≡ entered s s.live s.around.none →
    behind ≡ with_live within (live_before (map stm_rows b) (sets within.around within.live)) → now ≡ left behind → now ≡ passed (at.Block b) s
block_live b s within behind now ew eb e =
    e ∙ ap left (eb ∙ ap (λ l. with_live l (live_before (map stm_rows b) (sets l.around l.live))) ew) ∙
    ap (with_live s) (sym (live_block (sets s.around s.live) b))

-- what is live at the start of a loop is known before the loop is entered
pub loop_turned : (s put_aside behind within now : LiveSets) (b : List Stm) → put_aside ≡ with_saved s s.live →
    behind ≡ with_live put_aside ((stm_rows (at.Loop b)).live (sets put_aside.around put_aside.live)) →
    within ≡ entered behind (row_of behind (Saved 0)) behind.live → now ≡ forgotten within → now ≡ turning s b
loop_turned s put_aside behind within now b ep eb ew e =
    e ∙ ap forgotten (ew ∙ ap (λ l. entered l (row_of l (Saved 0)) l.live) (eb ∙ ap (λ l. with_live l ((stm_rows (at.Loop b)).live (sets l.around l.live))) ep)) ∙
    ap (λ start. with_live (entered s s.live start) start) (live_loop (sets s.around s.live) b)

-- the first side of a choice is walked from behind the choice, as the second was before it
pub first_left : (temps : ℕ) (a b made : List Stm) (s l1 l2 l3 l4 : LiveSets) → l1 ≡ with_saved s s.live →
    l2 ≡ with_live l1 (live_before (map stm_rows b) (sets l1.around l1.live)) → l3 ≡ with_saved l2 l2.live → l4 ≡ with_live l3 (row_of l3 (Saved 1)) →
    IsLeft temps l4 a made → IsLeft temps s a made
first_left temps a b made s l1 l2 l3 l4 e1 e2 e3 e4 =
    subst (λ l. IsLeft temps l a made)
    (e4 ∙ ap (λ l. with_live l (row_of l (Saved 1)))
    (e3 ∙ ap (λ l. with_saved l l.live) (e2 ∙ ap (λ l. with_live l (live_before (map stm_rows b) (sets l.around l.live))) e1)))

-- ---- a body

pub body_left : (temps : ℕ) (s : LiveSets) (code result : List Stm) → s.live ≡ replicate temps false → s.around.none ≡ replicate temps false →
    s.around.leaves ≡ [] → s.around.restarts ≡ [] → IsLeft temps s code result → IsJoinedCode temps code result
body_left temps s code result el en ee er h =
    let l = h (λ t. nowhere) (subst (λ x. IsSeen temps x (λ t. nowhere)) (sym is) nothing) in
    record { behind = l.0; left = l.1 }
  where
    bare : Bits
    bare = replicate temps false

    long : length bare ≡ temps
    long = length-replicate temps false

    is : sets s.around s.live ≡ no_sets bare
    is = λ i. record { none = en i; next = el i; leaves = ee i; restarts = er i }

    nothing : IsSeen temps (no_sets bare) (λ t. nowhere)
    nothing = record {
      wide = record { none = long; clear = clear_at temps; next = long; leaves = λ k. long; restarts = λ k. long };
      same = λ t lt. seen_nowhere temps bare t (clear_at temps t);
    }

-- ---- the last of some statements

first_is : (xs : List Stm) (n : Stm) → 0 < length xs → get_or xs 0 n ≡ n → (rest : List Stm) × (xs ≡ n ∷ rest)
first_is [] n some e = absurd (omega (arith, some))
first_is (x ∷ xs) n some e = (xs, ap (λ y. y ∷ xs) e)

last_is : (kept : List Stm) (n : Stm) → 0 < length kept → n ≡ get_or kept (length kept - 1) n → (rest : List Stm) × (reverse kept ≡ n ∷ rest)
last_is kept n some is =
    let last : length kept - 1 - 0 ≡ length kept - 1 = omega arith in
    first_is (reverse kept) n (omega (arith, length-reverse kept, some)) (get_or-reverse kept 0 n some ∙ ap (λ k. get_or kept k n) last ∙ sym is)

-- a statement and the last one are one
pub last_joined : {E : Type 0} (r : Result (Option Stm) E) (temps : ℕ) (live : Bits) (s : Stm) (kept : List Stm) (n : Stm) → 0 < length kept →
    n ≡ get_or kept (length kept - 1) n → IfOk r (λ one. IfSome one (λ z. IsOne (IsGone temps live) s n z)) →
    IfOk r (λ one. IfSome one (IsOneOfLast temps live s kept))
last_joined r temps live s kept n some is =
    let l = last_is kept n some is in
    IfOk-weaker r _ _ (λ one h. IfSome_then one h (λ z k. (n, l.0, l.1, k)))

last_set : (xs : List Stm) (n z : Stm) → slice_set (xs ++ n ∷ []) (length xs) z ≡ xs ++ z ∷ []
last_set [] n z = refl
last_set (x ∷ xs) n z = ap (λ l. x ∷ l) (last_set xs n z)

pub last_replaced : (kept rest : List Stm) (n z : Stm) → reverse kept ≡ n ∷ rest → reverse (slice_set kept (length kept - 1) z) ≡ z ∷ rest
last_replaced kept rest n z e =
    let whole : kept ≡ reverse rest ++ n ∷ [] = sym (reverse-reverse kept) ∙ ap reverse e ∙ reverse-append (n ∷ []) rest in
    let at : length kept - 1 ≡ length (reverse rest) = omega (arith, ap (λ l. length l) whole, length-append (reverse rest) (n ∷ [])) in
    ap reverse (ap (λ k. slice_set kept k z) at ∙ ap (λ l. slice_set l (length (reverse rest)) z) whole ∙ last_set (reverse rest) n z) ∙
    reverse-append (reverse rest) (z ∷ []) ∙ ap (λ l. z ∷ l) (reverse-reverse rest)
