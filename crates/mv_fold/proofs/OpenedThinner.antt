-- What a loop or block gives way to keeps nothing live that wasn't: what is live at a statement depends on the places alone to which it may lead.
use Rattle.std.proofs.Common.{arith, ◌≡◌, ℕ, zero, suc, ◌<◌, ◌≤◌, Bool, true, false, not, ◌&&◌, ◌||◌, List, [], ◌∷◌, ◌++◌, map, Option, Some, None, refl, sym, ◌∙◌, ap, subst}
use Rattle.mv_num.proofs.Booleans.{or_false}
use Rattle.mv_ir.specs.declared.tree.Tree.{Tree}
use Rattle.mv_ir.specs.declared.stm.Stm.{Stm}
use Rattle.mv_ir.specs.declared.stm.Stm.TheOpen.{Stm-F}
use Rattle.mv_ir.specs.declared.stm.Stm.TheOpen as stm
use Rattle.mv_ir.specs.declared.stm.Stm.TheViews.{roll-Stm}
use Rattle.mv_ir.specs.declared.stm.Stm.TheFolds.{map-Stm}
use Rattle.mv_ir.specs.Measures.{callee_trees}
use Rattle.mv_ir.specs.Live.{reads_temp, any_reads, is, Around, Flow, with_after, at_place, around_block, around_loop, live_in_order, marks_in_order, live_at_loop, plain, goes_next, flow}
use Rattle.mv_ir.proofs.Induction.{Each, StmChildren, stm_ind, stms_ind}
use Rattle.mv_ir.proofs.Rolls.{flow_roll, flow_of_layer}
use Rattle.mv_fold.specs.Opened.{layer_levels, levels, most_levels, leave, from_outside}
use Rattle.mv_fold.proofs.Levels.{levels_roll}
use Rattle.mv_fold.proofs.Thinner.{Covers, covers_append, Implies, FitsAround, code_flow, IsThinner, flow_one, flow_append, thinner_many}

-- ---- places, of which the nearest alone matter

record Agree (d : ℕ) (r r' : Around) : Type 0 where
  next : r.next ≡ r'.next
  leaves : (n : ℕ) → n < d → r.leaves n ≡ r'.leaves n
  restarts : (n : ℕ) → n < d → r.restarts n ≡ r'.restarts n

agree_after : (d : ℕ) (r r' : Around) (b b' : Bool) → Agree d r r' → b ≡ b' → Agree d (with_after r b) (with_after r' b')
agree_after d r r' b b' h e = record { next = e; leaves = h.leaves; restarts = h.restarts }

agree_place : (d : ℕ) (b b' : Bool) (f f' : ℕ → Bool) → b ≡ b' → ((n : ℕ) → n < d → f n ≡ f' n) → (n : ℕ) → n < suc d → at_place b f n ≡ at_place b' f' n
agree_place d b b' f f' e h zero lt = e
agree_place d b b' f f' e h (suc n) lt = h n (omega (arith, lt))

agree_loop : (d : ℕ) (r r' : Around) (b b' : Bool) → Agree d r r' → b ≡ b' → Agree (suc d) (around_loop r b) (around_loop r' b')
agree_loop d r r' b b' h e = record { next = e; leaves = agree_place d r.next r'.next r.leaves r'.leaves h.next h.leaves; restarts = agree_place d b b' r.restarts r'.restarts e h.restarts }

agree_block : (d : ℕ) (r r' : Around) → Agree d r r' → Agree (suc d) (around_block r) (around_block r')
agree_block d r r' h = record { next = h.next; leaves = agree_place d r.next r'.next r.leaves r'.leaves h.next h.leaves; restarts = agree_place d false false r.restarts r'.restarts refl h.restarts }

-- ---- the flow through a statement

abbrev Same : Flow → Around → Around → Type 0
Same f r r' = (f.live r ≡ f.live r') × (f.marks r ≡ f.marks r')

abbrev IsFixed : Stm → Type 0
IsFixed s = (t d : ℕ) (r r' : Around) → levels s ≤ d → Agree d r r' → Same (flow t s) r r'

abbrev ordered : ℕ → List Stm → Flow
ordered t code = record { live = λ r. live_in_order (map (flow t) code) r; marks = λ r. marks_in_order (map (flow t) code) r }

kids : (b : List Stm) → Each IsFixed b → (t d : ℕ) (r r' : Around) → most_levels b ≤ d → Agree d r r' → Same (ordered t b) r r'
kids [] h t d r r' le e = (e.next, refl)
kids (s ∷ b) h t d r r' le e =
    let rest = kids b h.1 t d r r' (omega (arith, le)) e in
    let here = h.0 t d (with_after r (live_in_order (map (flow t) b) r)) (with_after r' (live_in_order (map (flow t) b) r')) (omega (arith, le)) (agree_after d r r' _ _ e rest.0) in
    (here.0, ap (λ l. l ++ marks_in_order (map (flow t) b) r) here.1 ∙ ap (λ l. (flow t s).marks (with_after r' (live_in_order (map (flow t) b) r')) ++ l) rest.1)

plain_same : (t : ℕ) (ts : List Tree) (writes : Option ℕ) (on : Around → Bool) (r r' : Around) → on r ≡ on r' → Same (plain t ts writes on) r r'
plain_same t ts writes on r r' e = (
  ap (λ b. any_reads t ts || (not (is writes t) && b)) e,
  ap (λ b. ((any_reads t ts || (not (is writes t) && b)) || is writes t) ∷ []) e,
)

layer : (x : Stm-F Stm) → StmChildren IsFixed x → (t d : ℕ) (r r' : Around) → layer_levels (map-Stm Stm ℕ levels x) ≤ d → Agree d r r' → Same (flow_of_layer x t) r r'
layer (stm.Set u v) h t d r r' le e = plain_same t (v ∷ []) (Some u) goes_next r r' e.next
layer (stm.SetGlobal g v) h t d r r' le e = plain_same t (v ∷ []) None goes_next r r' e.next
layer (stm.Divide u o a b) h t d r r' le e = plain_same t (a ∷ b ∷ []) (Some u) goes_next r r' e.next
layer (stm.Check a i) h t d r r' le e = plain_same t (i ∷ []) None goes_next r r' e.next
layer (stm.Read u a i) h t d r r' le e = plain_same t (i ∷ []) (Some u) goes_next r r' e.next
layer (stm.Write a i v) h t d r r' le e = plain_same t (i ∷ v ∷ []) None goes_next r r' e.next
layer (stm.Zero l) h t d r r' le e = plain_same t [] None goes_next r r' e.next
layer (stm.If x a b) h t d r r' le e =
    let ka = kids a h.0 t d r r' (omega (arith, le)) e in
    let kb = kids b h.1 t d r r' (omega (arith, le)) e in
    let live : (reads_temp t x || (live_in_order (map (flow t) a) r || live_in_order (map (flow t) b) r)) ≡ (reads_temp t x || (live_in_order (map (flow t) a) r' || live_in_order (map (flow t) b) r')) =
    ap (λ c. reads_temp t x || (c || live_in_order (map (flow t) b) r)) ka.0 ∙ ap (λ c. reads_temp t x || (live_in_order (map (flow t) a) r' || c)) kb.0 in (
      live,
      ap (λ c. c ∷ (marks_in_order (map (flow t) a) r ++ marks_in_order (map (flow t) b) r)) live ∙
          ap (λ l. (reads_temp t x || (live_in_order (map (flow t) a) r' || live_in_order (map (flow t) b) r')) ∷ (l ++ marks_in_order (map (flow t) b) r)) ka.1 ∙
          ap (λ l. (reads_temp t x || (live_in_order (map (flow t) a) r' || live_in_order (map (flow t) b) r')) ∷ (marks_in_order (map (flow t) a) r' ++ l)) kb.1,
    )
layer (stm.Loop b) h t d r r' le e =
    let start = (kids b h t (suc d) (around_loop r false) (around_loop r' false) (omega (arith, le)) (agree_loop d r r' false false e refl)).0 in
    let round = kids b h t (suc d) (around_loop r (live_at_loop (map (flow t) b) r)) (around_loop r' (live_at_loop (map (flow t) b) r')) (omega (arith, le)) (agree_loop d r r' _ _ e start) in
    (start, ap (λ c. c ∷ marks_in_order (map (flow t) b) (around_loop r (live_at_loop (map (flow t) b) r))) start ∙ ap (λ l. live_at_loop (map (flow t) b) r' ∷ l) round.1)
layer (stm.Block b) h t d r r' le e =
    let inside = kids b h t (suc d) (around_block r) (around_block r') (omega (arith, le)) (agree_block d r r' e) in
    (inside.0, ap (λ c. c ∷ marks_in_order (map (flow t) b) (around_block r)) inside.0 ∙ ap (λ l. live_in_order (map (flow t) b) (around_block r') ∷ l) inside.1)
layer (stm.Break n) h t d r r' le e = plain_same t [] None (λ q. q.leaves n) r r' (e.leaves n (omega (arith, le)))
layer (stm.Back n) h t d r r' le e = plain_same t [] None (λ q. q.restarts n) r r' (e.restarts n (omega (arith, le)))
layer (stm.Call u f args) h t d r r' le e = plain_same t (callee_trees f ++ args) u goes_next r r' e.next
layer (stm.Known u k args) h t d r r' le e = plain_same t args u goes_next r r' e.next
layer (stm.Return v) h t d r r' le e = plain_same t (v ∷ []) None (λ q. false) r r' refl

fixed : (s : Stm) → IsFixed s
fixed = stm_ind IsFixed (λ x h t d r r' le e. subst (λ f. Same f r r') (sym (flow_roll t x)) (layer x h t d r r' (omega (arith, le, levels_roll x)) e))

-- of code that leads to no place but that behind it
code_fixed : (code : List Stm) → most_levels code ≡ 0 → (t : ℕ) (r r' : Around) (b : Bool) → Same (ordered t code) (with_after r b) (with_after r' b)
code_fixed code e t r r' b =
    kids code (stms_ind IsFixed fixed code) t 0 (with_after r b) (with_after r' b) (omega (arith, e)) (record { next = refl; leaves = λ n lt. absurd (omega (arith, lt)); restarts = λ n lt. absurd (omega (arith, lt)) })

-- ---- what a loop or block gives way to

module _ (needed : ℕ → Bool) (front : List Stm) (same : IsThinner needed front front) (e : most_levels front ≡ 0) where
  abbrev flows : List Stm → ℕ → Flow
  flows = code_flow needed

  -- what is live at the jump behind the statements, from within and from without
  abbrev AtEnd : Option ℕ → Option ℕ → ℕ → Around → Around → Type 0
  AtEnd end end' t q r' = Implies needed t ((flows (leave end) t).live q) ((flows (leave end') t).live r')

  fits_end : (t : ℕ) (r r' : Around) (b b' : Bool) → FitsAround needed t r r' → Implies needed t b b' → FitsAround needed t (with_after r b) (with_after r' b')
  fits_end t r r' b b' h k = record { next = k; leaves = h.leaves; restarts = h.restarts }

  live_end : (end end' : Option ℕ) (t : ℕ) (q r r' : Around) → FitsAround needed t r r' → AtEnd end end' t q r' → Implies needed t ((flows (front ++ leave end) t).live q) ((flows (front ++ leave end') t).live r')
  live_end end end' t q r r' fits h =
      let b = (flows (leave end) t).live q in
      let b' = (flows (leave end') t).live r' in
      let inside : (flows front t).live (with_after q b) ≡ (flows front t).live (with_after r b) = (code_fixed front e t q r b).0 in
      let kept : Implies needed t ((flows front t).live (with_after q b)) ((flows front t).live (with_after r' b')) = λ v.
      let mid = same.1.live t (with_after r b) (with_after r' b') (fits_end t r r' b b' fits h) v in (inside ∙ mid.0, mid.1) in
      subst (λ (f : ℕ → Flow). Implies needed t ((f t).live q) ((flows (front ++ leave end') t).live r')) (sym (flow_append needed front (leave end)))
      (subst (λ (f : ℕ → Flow). Implies needed t ((flows front t).live (with_after q b)) ((f t).live r')) (sym (flow_append needed front (leave end'))) kept)

  marks_end : (end end' : Option ℕ) (n : List Bool) (t : ℕ) (q r r' : Around) → FitsAround needed t r r' → AtEnd end end' t q r' → Covers n ((flows (leave end) t).marks q) ((flows (leave end') t).marks r') →
      Covers (same.0 ++ n) ((flows (front ++ leave end) t).marks q) ((flows (front ++ leave end') t).marks r')
  marks_end end end' n t q r r' fits h last =
      let b = (flows (leave end) t).live q in
      let b' = (flows (leave end') t).live r' in
      let inside : (flows front t).marks (with_after q b) ≡ (flows front t).marks (with_after r b) = (code_fixed front e t q r b).1 in
      let kept = subst (λ l. Covers same.0 l ((flows front t).marks (with_after r' b'))) (sym inside) (same.1.marks t (with_after r b) (with_after r' b') (fits_end t r r' b b' fits h)) in
      subst (λ (f : ℕ → Flow). Covers (same.0 ++ n) ((f t).marks q) ((flows (front ++ leave end') t).marks r')) (sym (flow_append needed front (leave end)))
      (subst (λ (f : ℕ → Flow). Covers (same.0 ++ n) ((flows front t).marks (with_after q b) ++ (flows (leave end) t).marks q) ((f t).marks r')) (sym (flow_append needed front (leave end')))
      (covers_append same.0 _ _ n _ _ kept last))

  -- the position of the jump stays where it leaves more than the loop or block
  abbrev end_mask : Option ℕ → List Bool
  end_mask None = []
  end_mask (Some zero) = false ∷ []
  end_mask (Some (suc n)) = true ∷ []

  jump_live : (n t : ℕ) (r : Around) → (flows (leave (Some n)) t).live r ≡ r.leaves n
  jump_live n t r = ap (λ (f : ℕ → Flow). (f t).live r) (flow_one needed (stm.Break n))

  jump_marks : (n t : ℕ) (r : Around) → (flows (leave (Some n)) t).marks r ≡ (r.leaves n || false) ∷ []
  jump_marks n t r = ap (λ (f : ℕ → Flow). (f t).marks r) (flow_one needed (stm.Break n))

  -- at a jump out of what is around, whose other places are those further out
  jump_at_end : (n t : ℕ) (q r r' : Around) → FitsAround needed t r r' → q.leaves ≡ at_place r.next r.leaves → AtEnd (Some n) (from_outside (Some n)) t q r'
  jump_at_end zero t q r r' fits k v = let out = fits.next v in (jump_live 0 t q ∙ ap (λ f. f 0) k ∙ out.0, out.1)
  jump_at_end (suc n) t q r r' fits k v =
      let out = fits.leaves n (sym (jump_live n t r') ∙ v) in (jump_live (suc n) t q ∙ ap (λ f. f (suc n)) k ∙ out.0, out.1)

  jump_covers : (n t : ℕ) (q r r' : Around) → FitsAround needed t r r' → q.leaves ≡ at_place r.next r.leaves →
      Covers (end_mask (Some n)) ((flows (leave (Some n)) t).marks q) ((flows (leave (from_outside (Some n))) t).marks r')
  jump_covers zero t q r r' fits k = subst (λ l. Covers (false ∷ []) l []) (sym (jump_marks 0 t q)) tt
  jump_covers (suc n) t q r r' fits k =
      subst (λ l. Covers (true ∷ []) l ((flows (leave (Some n)) t).marks r')) (sym (jump_marks (suc n) t q)) (subst (λ l. Covers (true ∷ []) ((q.leaves (suc n) || false) ∷ []) l) (sym (jump_marks n t r')) ((λ v. marked v), tt))
    where
      marked : (r'.leaves n || false) ≡ true → (q.leaves (suc n) || false) ≡ true
      marked v = or_false (q.leaves (suc n)) ∙ ap (λ f. f (suc n)) k ∙ (fits.leaves n (sym (or_false (r'.leaves n)) ∙ v)).0

  block_at_end : (end : Option ℕ) (t : ℕ) (r r' : Around) → FitsAround needed t r r' → AtEnd end (from_outside end) t (around_block r) r'
  block_at_end None t r r' fits v = fits.next v
  block_at_end (Some n) t r r' fits v = jump_at_end n t (around_block r) r r' fits refl v

  block_covers : (end : Option ℕ) (t : ℕ) (r r' : Around) → FitsAround needed t r r' → Covers (end_mask end) ((flows (leave end) t).marks (around_block r)) ((flows (leave (from_outside end)) t).marks r')
  block_covers None t r r' fits = tt
  block_covers (Some n) t r r' fits = jump_covers n t (around_block r) r r' fits refl

  pub block_opens : (end : Option ℕ) → IsThinner needed (roll-Stm (stm.Block (front ++ leave end)) ∷ []) (front ++ leave (from_outside end))
  block_opens end = thinner_many needed (stm.Block (front ++ leave end)) (front ++ leave (from_outside end)) (false ∷ (same.0 ++ end_mask end)) (record {
    live = λ t r r' fits. live_end end (from_outside end) t (around_block r) r r' fits (block_at_end end t r r' fits);
    marks = λ t r r' fits. marks_end end (from_outside end) (end_mask end) t (around_block r) r r' fits (block_at_end end t r r' fits) (block_covers end t r r' fits);
  })

  pub loop_opens : (n : ℕ) → IsThinner needed (roll-Stm (stm.Loop (front ++ leave (Some n))) ∷ []) (front ++ leave (from_outside (Some n)))
  loop_opens n = thinner_many needed (stm.Loop (front ++ leave (Some n))) (front ++ leave (from_outside (Some n))) (false ∷ (same.0 ++ end_mask (Some n))) (record {
    live = λ t r r' fits. live_end (Some n) (from_outside (Some n)) t (around_loop r false) r r' fits (jump_at_end n t (around_loop r false) r r' fits refl);
    marks = λ t r r' fits.
        let q = around_loop r (live_at_loop (map (flow t) (front ++ leave (Some n))) r) in
        marks_end (Some n) (from_outside (Some n)) (end_mask (Some n)) t q r r' fits (jump_at_end n t q r r' fits refl) (jump_covers n t q r r' fits refl);
  })
