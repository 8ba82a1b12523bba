-- Tidying keeps the meaning of code, at no greater cost.
use Rattle.std.proofs.Common.{arith, ◌≡◌, ℕ, ◌+◌, ◌*◌, ◌<◌, ◌≤◌, Bool, true, false, cond, not, eqb, ltb, ◌&&◌, ◌||◌, List, [], ◌∷◌, ◌++◌, length, map, Option, Some, None, refl, sym, ◌∙◌, ap, subst, ◌⊎◌, inl, inr, append-nil}
use Rattle.std.specs.Prelude.{slice_index, slice_index_or, slice_set}
use Rattle.std.proofs.lemmas.List.{length-set, get_or-set_other, get_or_past, set_past}
use Rattle.std.proofs.lemmas.Grind.{get_or-set_at}
use Rattle.std.proofs.lemmas.Bool.{cases_eq, cases_lt, ne_eqb, or_left, or_right}
use Rattle.mv_ir.specs.declared.tree.Tree.{Tree}
use Rattle.mv_ir.specs.declared.tree.Tree.TheOpen as tree
use Rattle.mv_ir.specs.declared.stm.Array.{Array}
use Rattle.mv_ir.specs.declared.stm.Array.TheVariants as array
use Rattle.mv_ir.specs.declared.stm.Callee.{Callee}
use Rattle.mv_ir.specs.declared.stm.Callee.TheVariants as callee
use Rattle.mv_ir.specs.declared.stm.Stm.{Stm}
use Rattle.mv_ir.specs.declared.stm.Stm.TheOpen.{Stm-F}
use Rattle.mv_ir.specs.declared.stm.Stm.TheOpen as stm
use Rattle.mv_ir.specs.declared.stm.Stm.TheViews.{roll-Stm}
use Rattle.mv_ir.specs.declared.body.Body.{Body}
use Rattle.mv_ir.specs.World.{World, Setting, Frame}
use Rattle.mv_ir.specs.Trees.{value, nodes}
use Rattle.mv_ir.specs.Outcome.{State, Next, Leaves, Restarts, Ends, Outcome, Bound, Meaning, spend, goes_on, in_order}
use Rattle.mv_ir.specs.Meaning.{meaning, code_meaning, elements, outside, with_elements, with_global, entry_state}
use Rattle.mv_ir.specs.Measures.{callee_trees}
use Rattle.mv_ir.specs.Keeps.{KeepsMeaning, KeepsBody}
use Rattle.mv_ir.specs.Live.{reads_temp, any_reads, is, Around, with_after, around_loop, live_in_order, live_at_loop, flow, nowhere}
use Rattle.mv_ir.specs.Rolled.{temp, set}
use Rattle.mv_ir.proofs.Induction.{Each, StmChildren, stm_ind}
use Rattle.mv_ir.proofs.Rolls.{value_roll, flow_roll, flow_of_layer}
use Rattle.mv_ir.proofs.Keeping.{map_append, meaning_roll, one_meaning, layer_means}
use Rattle.mv_ir.proofs.Relating.{Rel, StateRel, Places, with_next, in_block as within_block, in_loop as within_loop, OutcomeRel, RunRel, MeaningRel, nil_rel, cons_rel, append_rel, meaning_weaker, places_weaker, block_rel, loop_rel, end_same}
use Rattle.mv_ir.proofs.RelatedStatements.{from_temps, SameIn, SameTreesIn, SameCalleeIn, Writes, Weaker, Puts, set_rel, set_global_rel, divide_rel, check_rel, read_rel, write_rel, zero_rel, if_rel, break_rel, back_rel, call_rel, known_rel, return_rel}
use Rattle.mv_ir.proofs.Joining.{temps_enough, reads_left, reads_right}
use Rattle.mv_ir.proofs.Living.{ReadLive, AllLive, first_live, rest_live, live_at, all_live, live_still, live_other, settled, flows, under_block, under_start}
use Rattle.mv_ir.proofs.Living as living
use Rattle.mv_fold.specs.Simple.{jumps, ended as up_to_jump}
use Rattle.mv_fold.proofs.SimpleKept.{ended_kept}
use Rattle.mv_fold.proofs.NeededKept.{value_same}
use Rattle.mv_tidy.specs.Tidying.{Takes, IsOne, divided, fetched, called, asked, carried, stored, written, lives, before, in_loop, in_block, Left, Becomes, none, put, one, dropped, idle, ended, same, choice, turns, block, IsJoinedCode}
use Rattle.mv_tidy.proofs.Equations.{itself_read}
use Rattle.mv_tidy.proofs.Values.{takes_value, taken_less}
use Rattle.mv_tidy.proofs.Thinning.{fits_itself, jump_stops, left_thin}

-- ---- related runs, one after the other

pub record Transitive (q : Places) : Type 0 where
  pub next : (xs ys zs : List ℕ) → q.next xs ys → q.next ys zs → q.next xs zs
  pub leaves : (n : ℕ) (xs ys zs : List ℕ) → q.leaves n xs ys → q.leaves n ys zs → q.leaves n xs zs
  pub restarts : (n : ℕ) (xs ys zs : List ℕ) → q.restarts n xs ys → q.restarts n ys zs → q.restarts n xs zs

state_trans : (p : Rel) → ((xs ys zs : List ℕ) → p xs ys → p ys zs → p xs zs) → (a b c : State) → StateRel p a b → StateRel p b c → StateRel p a c
state_trans p h a b c x y = record { temps = h a.temps b.temps c.temps x.temps y.temps; arrays = x.arrays ∙ y.arrays; world = x.world ∙ y.world }

pub outcome_trans : (q : Places) → Transitive q → (a b c : Outcome) → OutcomeRel q a b → OutcomeRel q b c → OutcomeRel q a c
outcome_trans q t (Next a) (Next b) (Next c) h k = state_trans q.next t.next a b c h k
outcome_trans q t (Next a) (Next b) (Leaves n c) h k = absurd k
outcome_trans q t (Next a) (Next b) (Restarts n c) h k = absurd k
outcome_trans q t (Next a) (Next b) (Ends e) h k = absurd k
outcome_trans q t (Leaves n a) (Leaves m b) (Leaves l c) h k = (h.0 ∙ k.0, state_trans (q.leaves n) (t.leaves n) a b c h.1 (subst (λ i. StateRel (q.leaves i) b c) (sym h.0) k.1))
outcome_trans q t (Leaves n a) (Leaves m b) (Next c) h k = absurd k
outcome_trans q t (Leaves n a) (Leaves m b) (Restarts l c) h k = absurd k
outcome_trans q t (Leaves n a) (Leaves m b) (Ends e) h k = absurd k
outcome_trans q t (Restarts n a) (Restarts m b) (Restarts l c) h k = (h.0 ∙ k.0, state_trans (q.restarts n) (t.restarts n) a b c h.1 (subst (λ i. StateRel (q.restarts i) b c) (sym h.0) k.1))
outcome_trans q t (Restarts n a) (Restarts m b) (Next c) h k = absurd k
outcome_trans q t (Restarts n a) (Restarts m b) (Leaves l c) h k = absurd k
outcome_trans q t (Restarts n a) (Restarts m b) (Ends e) h k = absurd k
outcome_trans q t (Ends e) (Ends f) (Ends g) h k = h ∙ k
outcome_trans q t (Ends e) (Ends f) (Next c) h k = absurd k
outcome_trans q t (Ends e) (Ends f) (Leaves l c) h k = absurd k
outcome_trans q t (Ends e) (Ends f) (Restarts l c) h k = absurd k
outcome_trans q t _ _ _ h k = absurd h

meaning_trans : (p : Rel) (q : Places) (m n l : Meaning) → ((xs ys : List ℕ) → p xs ys → p xs xs) → Transitive q → MeaningRel p q m n → MeaningRel p q n l → MeaningRel p q m l
meaning_trans p q m n l itself t h k bound s s' e =
    let a = h bound s s (record { temps = itself s.temps s'.temps e.temps; arrays = refl; world = refl }) in
    let b = k bound s s' e in
    record { outcome = outcome_trans q t _ _ _ a.outcome b.outcome; cheaper = omega (arith, a.cheaper, b.cheaper) }

-- one value in the same place of two lists
both_set : (xs ys : List ℕ) (t v u : ℕ) → length xs ≡ length ys → ((u ≡ t → ⊥) → slice_index xs u ≡ slice_index ys u) → slice_index (slice_set xs t v) u ≡ slice_index (slice_set ys t v) u
both_set xs ys t v u long other = by (cases_eq u t) (cases_lt t (length xs))
  where
    by : (u ≡ t) ⊎ (u ≡ t → ⊥) → (t < length xs) ⊎ (length xs ≤ t) → slice_index (slice_set xs t v) u ≡ slice_index (slice_set ys t v) u
    by (inl e) (inl lt) = get_or-set_at xs t u v 0 e lt ∙ sym (get_or-set_at ys t u v 0 e (omega (arith, long, lt)))
    by (inl e) (inr past) =
        ap (λ l. slice_index l u) (set_past xs t v past) ∙ get_or_past xs u 0 (omega (arith, e, past)) ∙ sym (get_or_past ys u 0 (omega (arith, e, past, long))) ∙
        sym (ap (λ l. slice_index l u) (set_past ys t v (omega (arith, past, long))))
    by (inr ne) k = get_or-set_other xs t u v 0 ne ∙ other ne ∙ sym (get_or-set_other ys t u v 0 ne)

module _ (temps : ℕ) (setting : Setting) (frame : Frame) where
  -- ---- the relations

  -- as many temporaries, of which those that are live agree
  pub record Agree (live : ℕ → Bool) (xs ys : List ℕ) : Type 0 where
    pub long : length xs ≡ length ys
    pub room : temps ≤ length xs
    pub same : (t : ℕ) → live t ≡ true → slice_index xs t ≡ slice_index ys t

  agree_trans : (live : ℕ → Bool) (xs ys zs : List ℕ) → Agree live xs ys → Agree live ys zs → Agree live xs zs
  agree_trans live xs ys zs a b = record { long = a.long ∙ b.long; room = a.room; same = λ t e. a.same t e ∙ b.same t e }

  itself : (live : ℕ → Bool) (xs ys : List ℕ) → Agree live xs ys → Agree live xs xs
  itself live xs ys a = record { long = refl; room = a.room; same = λ t e. refl }

  weaker : (l l' : ℕ → Bool) → ((t : ℕ) → l' t ≡ true → l t ≡ true) → (xs ys : List ℕ) → Agree l xs ys → Agree l' xs ys
  weaker l l' h xs ys a = record { long = a.long; room = a.room; same = λ t e. a.same t (h t e) }

  abbrev pub places : (ℕ → Around) → Places
  places = living.places Agree

  -- ---- trees

  same_in : (l : ℕ → Bool) (x : Tree) → ReadLive l x → SameIn setting frame (Agree l) x x
  same_in l x h = record { value = λ xs ys globals a. value_same setting.numbers frame.bound xs ys globals x (λ t r. a.same t (h t r)); smaller = omega arith }

  many_in : (l : ℕ → Bool) (q : Places) (xs : List Tree) → AllLive l xs → SameTreesIn setting frame (Agree l) q xs xs
  many_in l q [] h = tt
  many_in l q (x ∷ xs) h = (same_in l x (first_live l x xs h), many_in l q xs (rest_live l x xs h))

  callee_in : (l : ℕ → Bool) (q : Places) (f : Callee) → AllLive l (callee_trees f) → SameCalleeIn setting frame (Agree l) q f f
  callee_in l q (callee.Direct f) h = refl
  callee_in l q (callee.Through t) h = same_in l t (first_live l t [] h)
  callee_in l q (callee.Switched g) h = refl
  callee_in l q callee.Expanded h = tt

  -- ---- one statement

  one_live : (x : Tree) (writes : Option ℕ) (on : ℕ → Bool) → ReadLive (live_at (x ∷ []) writes on) x
  one_live x writes on = first_live (live_at (x ∷ []) writes on) x [] (all_live (x ∷ []) writes on)

  stays : (reads : List Tree) (on : ℕ → Bool) → Weaker setting frame (Agree (live_at reads None on)) (Agree on)
  stays reads on = weaker (live_at reads None on) on (live_still reads on)

  writes_on : (reads : List Tree) (u : ℕ) (on : ℕ → Bool) → Writes setting frame (Agree (live_at reads (Some u) on)) (Agree on) u u
  writes_on reads u on xs ys v a = record {
    long = length-set xs u v ∙ a.long ∙ sym (length-set ys u v);
    room = (let e = length-set xs u v in let k = a.room in omega (arith, e, k));
    same = λ t e. both_set xs ys u v t a.long (λ ne. a.same t (live_other reads u on t ne e));
  }

  puts_on : (reads : List Tree) (w : Option ℕ) (r : ℕ → Around) → Puts setting frame (Agree (live_at reads w (λ t. (r t).next))) (places r) w w
  puts_on reads None r = stays reads (λ t. (r t).next)
  puts_on reads (Some u) r = writes_on reads u (λ t. (r t).next)

  -- ---- what is live is all that matters

  abbrev pub m : Stm → Meaning
  m = meaning setting frame

  abbrev pub IsSelf : Stm → Type 0
  IsSelf s = (r : ℕ → Around) → MeaningRel (Agree (λ t. (flow t s).live (r t))) (places r) (m s) (m s)

  pub self_kids : (b : List Stm) → Each IsSelf b → (r : ℕ → Around) → MeaningRel (Agree (lives r b)) (places r) (in_order (map m b)) (in_order (map m b))
  self_kids [] h r = nil_rel (Agree (λ t. (r t).next)) (places r)
  self_kids (s ∷ b) h r = cons_rel (Agree (lives r (s ∷ b))) (Agree (lives r b)) (places r) (m s) (m s) (map m b) (map m b) (h.0 (before r b)) (self_kids b h.1 r)

  choice_rel : (r : ℕ → Around) (v : Tree) (x x' y y' : List Stm) →
      MeaningRel (Agree (lives r x)) (places r) (in_order (map m x)) (in_order (map m x')) →
      MeaningRel (Agree (lives r y)) (places r) (in_order (map m y)) (in_order (map m y')) →
      MeaningRel (Agree (λ t. (flow_of_layer (stm.If v x y) t).live (r t))) (places r) (layer_means setting frame (stm.If v x y)) (layer_means setting frame (stm.If v x' y'))
  choice_rel r v x x' y y' kx ky =
      let live : ℕ → Bool = λ t. reads_temp t v || (lives r x t || lives r y t) in
      if_rel setting frame (Agree live) (places r) v v (map m x) (map m x') (map m y) (map m y')
      (same_in live v (λ t e. or_left _ _ e))
      (meaning_weaker (Agree (lives r x)) (Agree live) (places r) _ _ (weaker live (lives r x) (λ t e. or_right (reads_temp t v) _ (or_left _ _ e))) kx)
      (meaning_weaker (Agree (lives r y)) (Agree live) (places r) _ _ (weaker live (lives r y) (λ t e. or_right (reads_temp t v) _ (or_right (lives r x t) _ e))) ky)

  pub turns_rel : (r : ℕ → Around) (b b' : List Stm) → MeaningRel (Agree (lives (in_loop r b) b)) (places (in_loop r b)) (in_order (map m b)) (in_order (map m b')) →
      MeaningRel (Agree (λ t. (flow_of_layer (stm.Loop b) t).live (r t))) (places r) (layer_means setting frame (stm.Loop b)) (layer_means setting frame (stm.Loop b'))
  turns_rel r b b' k =
      let start : ℕ → Bool = λ t. live_at_loop (map (flow t) b) (r t) in
      loop_rel (Agree start) (places r) (in_order (map m b)) (in_order (map m b'))
      (places_weaker (Agree start) (places (in_loop r b)) (within_loop (Agree start) (places r)) _ _ (λ xs ys e. e) (under_block Agree r) (under_start Agree start r)
      (meaning_weaker (Agree (lives (in_loop r b) b)) (Agree start) (places (in_loop r b)) _ _ (weaker start (lives (in_loop r b) b) (λ t e. settled (λ s. live_in_order (map (flow t) b) (around_loop (r t) s)) e)) k))

  pub block_kept_rel : (r : ℕ → Around) (b b' : List Stm) → MeaningRel (Agree (lives (in_block r) b)) (places (in_block r)) (in_order (map m b)) (in_order (map m b')) →
      MeaningRel (Agree (λ t. (flow_of_layer (stm.Block b) t).live (r t))) (places r) (layer_means setting frame (stm.Block b)) (layer_means setting frame (stm.Block b'))
  block_kept_rel r b b' k =
      let nothing : ℕ → Bool = λ t. false in
      block_rel (Agree (lives (in_block r) b)) (Agree nothing) (places r) (in_order (map m b)) (in_order (map m b'))
      (places_weaker (Agree (lives (in_block r) b)) (places (in_block r)) (within_block (Agree nothing) (places r)) _ _ (λ xs ys e. e) (under_block Agree r) (under_start Agree nothing r) k)

  self_layer : (x : Stm-F Stm) → StmChildren IsSelf x → (r : ℕ → Around) → MeaningRel (Agree (λ t. (flow_of_layer x t).live (r t))) (places r) (layer_means setting frame x) (layer_means setting frame x)
  self_layer (stm.Set u v) h r = let next : ℕ → Bool = λ t. (r t).next in set_rel setting frame (Agree (live_at (v ∷ []) (Some u) next)) (places r) u u v v (same_in _ v (one_live v (Some u) next)) (writes_on (v ∷ []) u next)
  self_layer (stm.SetGlobal g v) h r = let next : ℕ → Bool = λ t. (r t).next in set_global_rel setting frame (Agree (live_at (v ∷ []) None next)) (places r) g v v (same_in _ v (one_live v None next)) (stays (v ∷ []) next)
  self_layer (stm.Divide u o x y) h r =
      let next : ℕ → Bool = λ t. (r t).next in
      let live : ℕ → Bool = live_at (x ∷ y ∷ []) (Some u) next in
      let all = all_live (x ∷ y ∷ []) (Some u) next in
      divide_rel setting frame (Agree live) (places r) u u o x x y y (same_in live x (first_live live x (y ∷ []) all)) (same_in live y (first_live live y [] (rest_live live x (y ∷ []) all))) (writes_on (x ∷ y ∷ []) u next)
  self_layer (stm.Check d i) h r = let next : ℕ → Bool = λ t. (r t).next in check_rel setting frame (Agree (live_at (i ∷ []) None next)) (places r) d i i (same_in _ i (one_live i None next)) (stays (i ∷ []) next)
  self_layer (stm.Read u d i) h r = let next : ℕ → Bool = λ t. (r t).next in read_rel setting frame (Agree (live_at (i ∷ []) (Some u) next)) (places r) u u d i i (same_in _ i (one_live i (Some u) next)) (writes_on (i ∷ []) u next)
  self_layer (stm.Write d i v) h r =
      let next : ℕ → Bool = λ t. (r t).next in
      let live : ℕ → Bool = live_at (i ∷ v ∷ []) None next in
      let all = all_live (i ∷ v ∷ []) None next in
      write_rel setting frame (Agree live) (places r) d i i v v (same_in live i (first_live live i (v ∷ []) all)) (same_in live v (first_live live v [] (rest_live live i (v ∷ []) all))) (stays (i ∷ v ∷ []) next)
  self_layer (stm.Zero d) h r = let next : ℕ → Bool = λ t. (r t).next in zero_rel setting frame (Agree (live_at [] None next)) (places r) d (stays [] next)
  self_layer (stm.If v x y) h r = choice_rel r v x x y y (self_kids x h.0 r) (self_kids y h.1 r)
  self_layer (stm.Loop b) h r = turns_rel r b b (self_kids b h (in_loop r b))
  self_layer (stm.Block b) h r = block_kept_rel r b b (self_kids b h (in_block r))
  self_layer (stm.Break k) h r = break_rel setting frame (Agree (live_at [] None (λ t. (r t).leaves k))) (places r) k (stays [] (λ t. (r t).leaves k))
  self_layer (stm.Back k) h r = back_rel setting frame (Agree (live_at [] None (λ t. (r t).restarts k))) (places r) k (stays [] (λ t. (r t).restarts k))
  self_layer (stm.Call w f args) h r =
      let next : ℕ → Bool = λ t. (r t).next in
      let reads = callee_trees f ++ args in
      let live : ℕ → Bool = live_at reads w next in
      let all = all_live reads w next in
      call_rel setting frame (Agree live) (places r) w w f f args args
      (callee_in live (places r) f (λ t e. all t (reads_left t (callee_trees f) args e))) (many_in live (places r) args (λ t e. all t (reads_right t (callee_trees f) args e))) (puts_on reads w r)
  self_layer (stm.Known w k args) h r =
      let next : ℕ → Bool = λ t. (r t).next in
      known_rel setting frame (Agree (live_at args w next)) (places r) w w k args args (many_in (live_at args w next) (places r) args (all_live args w next)) (puts_on args w r)
  self_layer (stm.Return v) h r = let nothing : ℕ → Bool = λ t. false in return_rel setting frame (Agree (live_at (v ∷ []) None nothing)) (places r) v v (same_in _ v (one_live v None nothing))

  -- two statements, by their layers
  rolled : (x y : Stm-F Stm) (r : ℕ → Around) → MeaningRel (Agree (λ t. (flow_of_layer x t).live (r t))) (places r) (layer_means setting frame x) (layer_means setting frame y) →
      MeaningRel (Agree (λ t. (flow t (roll-Stm x)).live (r t))) (places r) (m (roll-Stm x)) (m (roll-Stm y))
  rolled x y r h =
      let told = subst (λ f. MeaningRel (Agree (λ t. (f t).live (r t))) (places r) (layer_means setting frame x) (layer_means setting frame y)) (sym (flows x)) h in
      subst (λ d. MeaningRel (Agree (λ t. (flow t (roll-Stm x)).live (r t))) (places r) d (m (roll-Stm y))) (sym (meaning_roll setting frame x))
      (subst (λ d. MeaningRel (Agree (λ t. (flow t (roll-Stm x)).live (r t))) (places r) (layer_means setting frame x) d) (sym (meaning_roll setting frame y)) told)

  pub self : (s : Stm) → IsSelf s
  self = stm_ind IsSelf (λ x h r. rolled x x r (self_layer x h r))

  -- ---- two statements as one

  -- in the places around, from what is live behind the two
  abbrev Q : (ℕ → Around) → (ℕ → Bool) → Places
  Q r behind = with_next (Agree behind) (places r)

  one_rel : (p : Rel) (q : Places) (x y : Stm-F Stm) → MeaningRel p q (layer_means setting frame x) (layer_means setting frame y) → MeaningRel p q (in_order (m (roll-Stm x) ∷ [])) (in_order (m (roll-Stm y) ∷ []))
  one_rel p q x y h bound s s' e =
      subst (λ z. RunRel q (code_meaning setting frame (roll-Stm x ∷ []) bound s) z) (sym (one_meaning setting frame y bound s'))
      (subst (λ z. RunRel q z (layer_means setting frame y bound s')) (sym (one_meaning setting frame x bound s)) (h bound s s' e))

  module _ (r : ℕ → Around) (behind live : ℕ → Bool) (t : ℕ) where
    other : behind t ≡ false → (u : ℕ) → behind u ≡ true → u ≡ t → ⊥
    other gone u b e = let k : false ≡ true = sym gone ∙ ap behind (sym e) ∙ b in absurd (cc)

    -- a result that is moved
    module _ (lt : t < temps) (gone : behind t ≡ false) (x : ℕ) (reads : List Tree) (next : (u : ℕ) → (any_reads u (temp t ∷ []) || (not (eqb x u) && behind u)) ≡ true → live u ≡ true) where
      abbrev Moved : Rel
      Moved xs ys = Agree behind (slice_set xs x (slice_index xs t)) ys

      passes : (u : ℕ) → (u ≡ x → ⊥) → behind u ≡ true → live_at reads (Some t) live u ≡ true
      passes u ne b = live_other reads t live u (other gone u b) (next u (or_right (any_reads u (temp t ∷ [])) _ (ap (λ c. not c && behind u) (ne_eqb x u (λ e. ne (sym e))) ∙ b)))

      moves : Writes setting frame (Agree (live_at reads (Some t) live)) Moved t x
      moves xs ys v a =
          let there : slice_index (slice_set xs t v) t ≡ v = get_or-set_at xs t t v 0 refl (let k = a.room in omega (arith, k, lt)) in
          subst (λ w. Agree behind (slice_set (slice_set xs t v) x w) (slice_set ys x v)) (sym there) (record {
            long = length-set (slice_set xs t v) x v ∙ length-set xs t v ∙ a.long ∙ sym (length-set ys x v);
            room = (let k = a.room in omega (arith, k, length-set (slice_set xs t v) x v, length-set xs t v));
            same = λ u b. both_set (slice_set xs t v) ys x v u (length-set xs t v ∙ a.long) (λ ne. get_or-set_other xs t u v 0 (other gone u b) ∙ a.same u (passes u ne b));
          })

      move : MeaningRel Moved (Q r behind) (in_order (m (set x (temp t)) ∷ [])) (in_order [])
      move bound s s' h =
          subst (λ z. RunRel (Q r behind) z (in_order [] bound s')) (sym (one_meaning setting frame (stm.Set x (temp t)) bound s))
          (record {
            outcome = record {
              temps = subst (λ w. Agree behind (slice_set s.temps x w) s'.temps) (sym (ap (λ f. f s.temps s.world.globals) (value_roll setting.numbers frame.bound (tree.Temp t)))) h.temps;
              arrays = h.arrays;
              world = h.world;
            };
            cheaper = omega arith;
          })

      moved_rel : (a b : Stm-F Stm) → MeaningRel (Agree (live_at reads (Some t) live)) (with_next Moved (Q r behind)) (layer_means setting frame a) (layer_means setting frame b) →
          MeaningRel (Agree (live_at reads (Some t) live)) (Q r behind) (in_order (m (roll-Stm a) ∷ m (set x (temp t)) ∷ [])) (in_order (m (roll-Stm b) ∷ []))
      moved_rel a b h =
          append_rel (Agree (live_at reads (Some t) live)) Moved (Q r behind) (m (roll-Stm a) ∷ []) (m (roll-Stm b) ∷ []) (m (set x (temp t)) ∷ []) []
          (one_rel (Agree (live_at reads (Some t) live)) (with_next Moved (Q r behind)) a b h) move

      divided_rel : (o : ℕ) (a b : Tree) → reads ≡ a ∷ b ∷ [] →
          MeaningRel (Agree (live_at reads (Some t) live)) (Q r behind)
          (in_order (m (roll-Stm (stm.Divide t o a b)) ∷ m (set x (temp t)) ∷ [])) (in_order (m (roll-Stm (stm.Divide x o a b)) ∷ []))
      divided_rel o a b is =
          let all : AllLive (live_at reads (Some t) live) (a ∷ b ∷ []) = subst (AllLive (live_at reads (Some t) live)) is (all_live reads (Some t) live) in
          moved_rel (stm.Divide t o a b) (stm.Divide x o a b)
          (divide_rel setting frame (Agree (live_at reads (Some t) live)) (with_next Moved (Q r behind)) t x o a a b b (same_in _ a (first_live _ a (b ∷ []) all)) (same_in _ b (first_live _ b [] (rest_live _ a (b ∷ []) all))) moves)

      fetched_rel : (d : Array) (i : Tree) → reads ≡ i ∷ [] → MeaningRel (Agree (live_at reads (Some t) live)) (Q r behind) (in_order (m (roll-Stm (stm.Read t d i)) ∷ m (set x (temp t)) ∷ [])) (in_order (m (roll-Stm (stm.Read x d i)) ∷ []))
      fetched_rel d i is =
          let all : AllLive (live_at reads (Some t) live) (i ∷ []) = subst (AllLive (live_at reads (Some t) live)) is (all_live reads (Some t) live) in
          moved_rel (stm.Read t d i) (stm.Read x d i) (read_rel setting frame (Agree (live_at reads (Some t) live)) (with_next Moved (Q r behind)) t x d i i (same_in _ i (first_live _ i [] all)) moves)

      called_rel : (f : Callee) (args : List Tree) → reads ≡ callee_trees f ++ args →
          MeaningRel (Agree (live_at reads (Some t) live)) (Q r behind)
          (in_order (m (roll-Stm (stm.Call (Some t) f args)) ∷ m (set x (temp t)) ∷ [])) (in_order (m (roll-Stm (stm.Call (Some x) f args)) ∷ []))
      called_rel f args is =
          let q = with_next Moved (Q r behind) in
          let all : AllLive (live_at reads (Some t) live) (callee_trees f ++ args) = subst (AllLive (live_at reads (Some t) live)) is (all_live reads (Some t) live) in
          moved_rel (stm.Call (Some t) f args) (stm.Call (Some x) f args)
          (call_rel setting frame (Agree (live_at reads (Some t) live)) q (Some t) (Some x) f f args args
          (callee_in _ q f (λ u e. all u (reads_left u (callee_trees f) args e)))
          (many_in _ q args (λ u e. all u (reads_right u (callee_trees f) args e))) moves)

      asked_rel : (k : _) (args : List Tree) → reads ≡ args →
          MeaningRel (Agree (live_at reads (Some t) live)) (Q r behind)
          (in_order (m (roll-Stm (stm.Known (Some t) k args)) ∷ m (set x (temp t)) ∷ [])) (in_order (m (roll-Stm (stm.Known (Some x) k args)) ∷ []))
      asked_rel k args is =
          let q = with_next Moved (Q r behind) in
          let all : AllLive (live_at reads (Some t) live) args = subst (AllLive (live_at reads (Some t) live)) is (all_live reads (Some t) live) in
          moved_rel (stm.Known (Some t) k args) (stm.Known (Some x) k args) (known_rel setting frame (Agree (live_at reads (Some t) live)) q (Some t) (Some x) k args args (many_in _ q args all) moves)

    -- a value that is put in its place
    module _ (e v w : Tree) (k : Takes t e v w) where
      abbrev Before : ℕ → Bool
      Before = live_at (e ∷ []) (Some t) live

      abbrev val : Tree → List ℕ → List (List ℕ) → ℕ
      val = value setting.numbers frame.bound

      abbrev filled : List ℕ → List (List ℕ) → List ℕ
      filled xs globals = slice_set xs t (val e xs globals)

      -- behind the set, what is live behind it agrees
      still : (xs ys : List ℕ) (globals : List (List ℕ)) → Agree Before xs ys → (u : ℕ) → live u ≡ true → slice_index (filled xs globals) u ≡ slice_index (filled ys globals) u
      still xs ys globals a u l =
          ap (λ n. slice_index (slice_set xs t n) u) (value_same setting.numbers frame.bound xs ys globals e (λ z b. a.same z (one_live e (Some t) live z b))) ∙
          both_set xs ys t (val e ys globals) u a.long (λ ne. a.same u (live_other (e ∷ []) t live u ne l))

      same_value : (xs ys : List ℕ) (globals : List (List ℕ)) → t < length xs → Agree Before xs ys → ReadLive live v → val v (filled xs globals) globals ≡ val w ys globals
      same_value xs ys globals room a h =
          value_same setting.numbers frame.bound (filled xs globals) (filled ys globals) globals v (λ u b. still xs ys globals a u (h u b)) ∙
          takes_value setting.numbers frame.bound globals t e v w k ys (let l = a.long in omega (arith, room, l))

      two : (y : Stm-F Stm) (bound : Bound) (s : State) →
          code_meaning setting frame (set t e ∷ roll-Stm y ∷ []) bound s ≡ spend (8 + 3 * nodes e) (layer_means setting frame y bound (record s { temps = filled s.temps s.world.globals }))
      two y bound s =
          ap (λ (f : Meaning). spend (f bound s).cost (goes_on (f bound s).outcome (in_order (m (roll-Stm y) ∷ []) bound))) (meaning_roll setting frame (stm.Set t e)) ∙
          ap (spend (8 + 3 * nodes e)) (one_meaning setting frame y bound (record s { temps = filled s.temps s.world.globals }))

      taken_rel : (n z : Stm-F Stm) →
          ((bound : Bound) (xs ys : List ℕ) (arrays : List (List ℕ)) (world : World) → Agree Before xs ys →
          RunRel (Q r behind) (spend (8 + 3 * nodes e) (layer_means setting frame n bound (record { temps = filled xs world.globals; arrays = arrays; world = world })))
          (layer_means setting frame z bound (record { temps = ys; arrays = arrays; world = world }))) →
          MeaningRel (Agree Before) (Q r behind) (in_order (m (set t e) ∷ m (roll-Stm n) ∷ [])) (in_order (m (roll-Stm z) ∷ []))
      taken_rel n z h = from_temps (Agree Before) (Q r behind) _ _ (λ bound xs ys arrays world a.
          subst (λ d. RunRel (Q r behind) (code_meaning setting frame (set t e ∷ roll-Stm n ∷ []) bound (record { temps = xs; arrays = arrays; world = world })) d)
          (sym (one_meaning setting frame z bound (record { temps = ys; arrays = arrays; world = world })))
          (subst (λ d. RunRel (Q r behind) d (layer_means setting frame z bound (record { temps = ys; arrays = arrays; world = world })))
          (sym (two n bound (record { temps = xs; arrays = arrays; world = world }))) (h bound xs ys arrays world a)))

      less : nodes w ≤ nodes v + nodes e
      less = (taken_less t e v w k).nodes

      -- where the temporary isn't live behind the second statement, or that sets it
      module _ (x : ℕ) (over : ((t < temps) × (behind t ≡ false)) ⊎ (t ≡ x)) (next : (u : ℕ) → (any_reads u (v ∷ []) || (not (eqb x u) && behind u)) ≡ true → live u ≡ true) where
        sure : (u : ℕ) → behind u ≡ true → (u ≡ x → ⊥) → u ≡ t → ⊥
        sure u b ne q = by over
          where
            by : ((t < temps) × (behind t ≡ false)) ⊎ (t ≡ x) → ⊥
            by (inl g) = other g.1 u b q
            by (inr s) = ne (q ∙ s)

        within : (xs : List ℕ) → temps ≤ length xs → x < length xs → t < length xs
        within xs room lt = by over
          where
            by : ((t < temps) × (behind t ≡ false)) ⊎ (t ≡ x) → t < length xs
            by (inl g) = let lt = g.0 in omega (arith, lt, room)
            by (inr s) = omega (arith, s, lt)

        -- what matters behind both agrees
        agrees : (xs ys : List ℕ) (G : List (List ℕ)) → Agree Before xs ys → (u : ℕ) → behind u ≡ true →
            slice_index (slice_set (filled xs G) x (val v (filled xs G) G)) u ≡ slice_index (slice_set ys x (val w ys G)) u
        agrees xs ys G a u b = by (cases_eq u x) (cases_lt x (length xs))
          where
            one : List ℕ
            one = slice_set (filled xs G) x (val v (filled xs G) G)

            two_sets : length one ≡ length xs
            two_sets = length-set (filled xs G) x (val v (filled xs G) G) ∙ length-set xs t (val e xs G)

            reads : ReadLive live v
            reads z r = next z (or_left _ _ (or_left (reads_temp z v) false r))

            by : (u ≡ x) ⊎ (u ≡ x → ⊥) → (x < length xs) ⊎ (length xs ≤ x) → slice_index one u ≡ slice_index (slice_set ys x (val w ys G)) u
            by (inl q) (inl lt) =
                get_or-set_at (filled xs G) x u (val v (filled xs G) G) 0 q (omega (arith, lt, length-set xs t (val e xs G))) ∙
                same_value xs ys G (within xs a.room lt) a reads ∙
                sym (get_or-set_at ys x u (val w ys G) 0 q (let l = a.long in omega (arith, l, lt)))
            by (inl q) (inr past) =
                get_or_past one u 0 (omega (arith, q, past, two_sets)) ∙
                sym (get_or_past (slice_set ys x (val w ys G)) u 0 (let l = a.long in omega (arith, q, past, l, length-set ys x (val w ys G))))
            by (inr ne) c =
                get_or-set_other (filled xs G) x u (val v (filled xs G) G) 0 ne ∙ get_or-set_other xs t u (val e xs G) 0 (sure u b ne) ∙
                a.same u (live_other (e ∷ []) t live u (sure u b ne) (next u (or_right (any_reads u (v ∷ [])) _ (ap (λ d. not d && behind u) (ne_eqb x u (λ z. ne (sym z))) ∙ b)))) ∙
                sym (get_or-set_other ys x u (val w ys G) 0 ne)

        carried_rel : MeaningRel (Agree Before) (Q r behind) (in_order (m (set t e) ∷ m (roll-Stm (stm.Set x v)) ∷ [])) (in_order (m (roll-Stm (stm.Set x w)) ∷ []))
        carried_rel = taken_rel (stm.Set x v) (stm.Set x w) (λ bound xs ys arrays world a.
            let G = world.globals in
            let n = val v (filled xs G) G in
            record {
              outcome = record {
                temps = record {
                  long = length-set (filled xs G) x n ∙ length-set xs t (val e xs G) ∙ a.long ∙ sym (length-set ys x (val w ys G));
                  room = (let z = a.room in omega (arith, z, length-set (filled xs G) x n, length-set xs t (val e xs G)));
                  same = agrees xs ys G a;
                };
                arrays = refl;
                world = refl;
              };
              cheaper = omega (arith, less);
            })

      -- where the temporary isn't live behind the second statement
      module _ (lt : t < temps) (gone : behind t ≡ false) where
        same_here : (xs ys : List ℕ) (globals : List (List ℕ)) → Agree Before xs ys → ReadLive live v → val v (filled xs globals) globals ≡ val w ys globals
        same_here xs ys globals a = same_value xs ys globals (let z = a.room in omega (arith, z, lt)) a

        -- the temporary isn't read any more
        kept : (xs ys : List ℕ) (globals : List (List ℕ)) → Agree Before xs ys → ((u : ℕ) → behind u ≡ true → live u ≡ true) → Agree behind (filled xs globals) ys
        kept xs ys globals a h = record {
          long = length-set xs t (val e xs globals) ∙ a.long;
          room = (let z = a.room in omega (arith, z, length-set xs t (val e xs globals)));
          same = λ u b. get_or-set_other xs t u (val e xs globals) 0 (other gone u b) ∙ a.same u (live_other (e ∷ []) t live u (other gone u b) (h u b));
        }

        stored_rel : (g : ℕ) → ((u : ℕ) → (any_reads u (v ∷ []) || behind u) ≡ true → live u ≡ true) →
            MeaningRel (Agree Before) (Q r behind) (in_order (m (set t e) ∷ m (roll-Stm (stm.SetGlobal g v)) ∷ [])) (in_order (m (roll-Stm (stm.SetGlobal g w)) ∷ []))
        stored_rel g next = taken_rel (stm.SetGlobal g v) (stm.SetGlobal g w) (λ bound xs ys arrays world a.
            let G = world.globals in
            record {
              outcome = record {
                temps = kept xs ys G a (λ u b. next u (or_right (any_reads u (v ∷ [])) (behind u) b));
                arrays = refl;
                world = ap (λ n. with_global world g (slice_set (slice_index_or world.globals g []) 0 n)) (same_here xs ys G a (λ u b. next u (or_left _ _ (or_left (reads_temp u v) false b))));
              };
              cheaper = omega (arith, less);
            })

        elements_same : (d : Array) (xs ys : List ℕ) (arrays : List (List ℕ)) (world : World) → elements d (record { temps = xs; arrays = arrays; world = world }) ≡ elements d (record { temps = ys; arrays = arrays; world = world })
        elements_same (array.Global g) xs ys arrays world = refl
        elements_same (array.Local l) xs ys arrays world = refl
        elements_same (array.SureGlobal g n) xs ys arrays world = refl
        elements_same (array.SureLocal l n) xs ys arrays world = refl

        put_in : (d : Array) (xs ys : List ℕ) (arrays : List (List ℕ)) (world : World) (l l' : List ℕ) → Agree behind xs ys → l ≡ l' →
            StateRel (Agree behind) (with_elements d (record { temps = xs; arrays = arrays; world = world }) l)
            (with_elements d (record { temps = ys; arrays = arrays; world = world }) l')
        put_in (array.Global g) xs ys arrays world l l' h q = record { temps = h; arrays = refl; world = ap (λ z. with_global world g z) q }
        put_in (array.Local n) xs ys arrays world l l' h q = record { temps = h; arrays = ap (λ z. slice_set arrays n z) q; world = refl }
        put_in (array.SureGlobal g n) xs ys arrays world l l' h q = record { temps = h; arrays = refl; world = ap (λ z. with_global world g z) q }
        put_in (array.SureLocal n m) xs ys arrays world l l' h q = record { temps = h; arrays = ap (λ z. slice_set arrays n z) q; world = refl }

        written_rel : (d : Array) (i : Tree) → ((u : ℕ) → (any_reads u (i ∷ v ∷ []) || behind u) ≡ true → live u ≡ true) → reads_temp t i ≡ false →
            MeaningRel (Agree Before) (Q r behind) (in_order (m (set t e) ∷ m (roll-Stm (stm.Write d i v)) ∷ [])) (in_order (m (roll-Stm (stm.Write d i w)) ∷ []))
        written_rel d i next unread = taken_rel (stm.Write d i v) (stm.Write d i w) (λ bound xs ys arrays world a.
            let G = world.globals in
            let here : State = record { temps = filled xs G; arrays = arrays; world = world } in
            let there : State = record { temps = ys; arrays = arrays; world = world } in
            let at : val i (filled xs G) G ≡ val i ys G = value_same setting.numbers frame.bound (filled xs G) ys G i (λ u b.
            get_or-set_other xs t u (val e xs G) 0 (λ q. clash u b q) ∙ a.same u (live_other (e ∷ []) t live u (λ q. clash u b q) (next u (or_left _ _ (or_left (reads_temp u i) (any_reads u (v ∷ [])) b))))) in
            let v_is = same_here xs ys G a (λ u b. next u (or_left _ _ (or_right (reads_temp u i) (any_reads u (v ∷ [])) (or_left (reads_temp u v) false b)))) in
            let es = elements_same d (filled xs G) ys arrays world in
            record {
              outcome = either_rel _ _ _ _ _ _ (ap (λ z. ltb z (length (elements d here))) at ∙ ap (λ l. ltb (val i ys G) (length l)) es)
                  (put_in d (filled xs G) ys arrays world _ _ (kept xs ys G a (λ u b. next u (or_right (any_reads u (i ∷ v ∷ [])) (behind u) b)))
                  (ap (λ z. slice_set (elements d here) z (val v (filled xs G) G)) at ∙
                  ap (λ z. slice_set (elements d here) (val i ys G) z) v_is ∙ ap (λ l. slice_set l (val i ys G) (val w ys G)) es))
                  (ap (λ z. outside d z world) at);
              cheaper = omega (arith, less);
            })
          where
            clash : (u : ℕ) → reads_temp u i ≡ true → u ≡ t → ⊥
            clash u b q = let z : false ≡ true = sym unread ∙ subst (λ y. reads_temp y i ≡ true) q b in absurd (cc)

            either_rel : (c c' : Bool) (o1 o1' o2 o2' : Outcome) → c ≡ c' → OutcomeRel (Q r behind) o1 o1' → OutcomeRel (Q r behind) o2 o2' → OutcomeRel (Q r behind) (cond c o1 o2) (cond c' o1' o2')
            either_rel c c' o1 o1' o2 o2' q h z = subst (λ y. OutcomeRel (Q r behind) (cond c o1 o2) (cond y o1' o2')) q (by c)
              where
                by : (y : Bool) → OutcomeRel (Q r behind) (cond y o1 o2) (cond y o1' o2')
                by true = h
                by false = z

  -- what the second statement needs is live behind the first
  abbrev Needs : (ℕ → Around) → (ℕ → Bool) → (ℕ → Bool) → Stm → Type 0
  Needs r behind live n = (u : ℕ) → (flow u n).live (with_after (r u) (behind u)) ≡ true → live u ≡ true

  needed : (r : ℕ → Around) (behind live : ℕ → Bool) (x : Stm-F Stm) → Needs r behind live (roll-Stm x) → (u : ℕ) → (flow_of_layer x u).live (with_after (r u) (behind u)) ≡ true → live u ≡ true
  needed r behind live x h u e = h u (ap (λ f. f.live (with_after (r u) (behind u))) (flow_roll u x) ∙ e)

  -- from what is live before the first statement
  abbrev First : (ℕ → Around) → (ℕ → Bool) → Stm → Rel
  First r live s = Agree (λ u. (flow u s).live (with_after (r u) (live u)))

  from_layer : (r : ℕ → Around) (live : ℕ → Bool) (x : Stm-F Stm) (q : Places) (a b : Meaning) → MeaningRel (Agree (λ u. (flow_of_layer x u).live (with_after (r u) (live u)))) q a b → MeaningRel (First r live (roll-Stm x)) q a b
  from_layer r live x q a b h = subst (λ f. MeaningRel (Agree (λ u. (f u).live (with_after (r u) (live u)))) q a b) (sym (flows x)) h

  pair_rel : (r : ℕ → Around) (behind live : ℕ → Bool) (s n z : Stm) → IsOne (λ u. (u < temps) × (behind u ≡ false)) s n z → Needs r behind live n →
      MeaningRel (First r live s) (Q r behind) (in_order (m s ∷ m n ∷ [])) (in_order (m z ∷ []))
  pair_rel r behind live s n z (divided t x o a b g) h =
      from_layer r live (stm.Divide t o a b) (Q r behind) _ _ (divided_rel r behind live t g.0 g.1 x (a ∷ b ∷ []) (needed r behind live (stm.Set x (temp t)) h) o a b refl)
  pair_rel r behind live s n z (fetched t x d i g) h = from_layer r live (stm.Read t d i) (Q r behind) _ _ (fetched_rel r behind live t g.0 g.1 x (i ∷ []) (needed r behind live (stm.Set x (temp t)) h) d i refl)
  pair_rel r behind live s n z (called t x f args g) h =
      from_layer r live (stm.Call (Some t) f args) (Q r behind) _ _ (called_rel r behind live t g.0 g.1 x (callee_trees f ++ args) (needed r behind live (stm.Set x (temp t)) h) f args refl)
  pair_rel r behind live s n z (asked t x k args g) h = from_layer r live (stm.Known (Some t) k args) (Q r behind) _ _ (asked_rel r behind live t g.0 g.1 x args (needed r behind live (stm.Set x (temp t)) h) k args refl)
  pair_rel r behind live s n z (carried t x e v w g k) h = from_layer r live (stm.Set t e) (Q r behind) _ _ (carried_rel r behind live t e v w k x g (needed r behind live (stm.Set x v) h))
  pair_rel r behind live s n z (stored t x e v w g k) h = from_layer r live (stm.Set t e) (Q r behind) _ _ (stored_rel r behind live t e v w k g.0 g.1 x (needed r behind live (stm.SetGlobal x v) h))
  pair_rel r behind live s n z (written t d e i v w g unread k) h = from_layer r live (stm.Set t e) (Q r behind) _ _ (written_rel r behind live t e v w k g.0 g.1 d i (needed r behind live (stm.Write d i v) h) unread)

  -- ---- code

  -- The code has a part that does what its first statement does, and the others do what the rest does.
  record Split (r : ℕ → Around) (code : List Stm) (behind : ℕ → Bool) (n : Stm) (rest : List Stm) : Type 0 where
    us : List Stm
    vs : List Stm
    is : code ≡ us ++ vs
    first : MeaningRel (Agree (lives r code)) (Q r behind) (in_order (map m us)) (in_order (m n ∷ []))
    others : MeaningRel (Agree behind) (places r) (in_order (map m vs)) (in_order (map m rest))

  abbrev IsRelated : (ℕ → Around) → List Stm → (ℕ → Bool) → List Stm → Type 0
  IsRelated r code behind [] = MeaningRel (Agree (lives r code)) (places r) (in_order (map m code)) (in_order [])
  IsRelated r code behind (n ∷ rest) = Split r code behind n rest

  all_related : (r : ℕ → Around) (code result : List Stm) (behind : ℕ → Bool) → IsRelated r code behind result → MeaningRel (Agree (lives r code)) (places r) (in_order (map m code)) (in_order (map m result))
  all_related r code [] behind h = h
  all_related r code (n ∷ rest) behind h =
      subst (λ l. MeaningRel (Agree (lives r code)) (places r) (in_order l) (in_order (map m (n ∷ rest)))) (sym (ap (map m) h.is ∙ map_append m h.us h.vs))
      (append_rel (Agree (lives r code)) (Agree behind) (places r) (map m h.us) (m n ∷ []) (map m h.vs) (map m rest) h.first h.others)

  put_related : (r : ℕ → Around) (s y : Stm) (code rest : List Stm) (behind : ℕ → Bool) → IsRelated r code behind rest →
      MeaningRel (Agree (λ t. (flow t s).live (before r code t))) (places (before r code)) (m s) (m y) → Split r (s ∷ code) (lives r code) y rest
  put_related r s y code rest behind h k = record {
    us = s ∷ [];
    vs = code;
    is = refl;
    first = cons_rel (Agree (lives r (s ∷ code))) (Agree (lives r code)) (Q r (lives r code)) (m s) (m y) [] [] k (nil_rel (Agree (lives r code)) (Q r (lives r code)));
    others = all_related r code rest behind h;
  }

  pub transitive : (r : ℕ → Around) (behind : ℕ → Bool) → Transitive (Q r behind)
  transitive r behind = record { next = agree_trans behind; leaves = λ k. agree_trans (λ t. (r t).leaves k); restarts = λ k. agree_trans (λ t. (r t).restarts k) }

  one_related : (r : ℕ → Around) (s n z : Stm) (code rest : List Stm) (behind : ℕ → Bool) → Split r code behind n rest →
      IsOne (λ u. (u < temps) × (behind u ≡ false)) s n z → Needs r behind (lives r code) n → Split r (s ∷ code) behind z rest
  one_related r s n z code rest behind h k needs = record {
    us = s ∷ h.us;
    vs = h.vs;
    is = ap (λ l. s ∷ l) h.is;
    first =
        meaning_trans (Agree (lives r (s ∷ code))) (Q r behind) (in_order (m s ∷ map m h.us)) (in_order (m s ∷ m n ∷ [])) (in_order (m z ∷ [])) (itself (lives r (s ∷ code))) (transitive r behind)
        (cons_rel (Agree (lives r (s ∷ code))) (Agree (lives r code)) (Q r behind) (m s) (m s) (map m h.us) (m n ∷ []) (self s (before r code)) h.first)
        (pair_rel r behind (lives r code) s n z k needs);
    others = h.others;
  }

  -- a set that does nothing to what matters behind it
  passed_rel : (p mid : Rel) (q : Places) (t : ℕ) (e : Tree) →
      ((xs ys : List ℕ) (globals : List (List ℕ)) → p xs ys → mid (slice_set xs t (value setting.numbers frame.bound e xs globals)) ys) →
      MeaningRel p (with_next mid q) (in_order (m (set t e) ∷ [])) (in_order [])
  passed_rel p mid q t e h bound s s' a =
      subst (λ z. RunRel (with_next mid q) z (in_order [] bound s')) (sym (one_meaning setting frame (stm.Set t e) bound s))
      (record { outcome = record { temps = h s.temps s'.temps s.world.globals a.temps; arrays = a.arrays; world = a.world }; cheaper = omega arith })

  -- before a set, and behind it
  abbrev Passes : (ℕ → Around) → ℕ → Tree → List Stm → Type 0
  Passes r t e code = (xs ys : List ℕ) (globals : List (List ℕ)) → Agree (lives r (set t e ∷ code)) xs ys →
      Agree (lives r code) (slice_set xs t (value setting.numbers frame.bound e xs globals)) ys

  passed_related : (r : ℕ → Around) (t : ℕ) (e : Tree) (code rest : List Stm) (behind : ℕ → Bool) → Passes r t e code → IsRelated r code behind rest →
      IsRelated r (set t e ∷ code) behind rest
  passed_related r t e code [] behind k h =
      append_rel (Agree (lives r (set t e ∷ code))) (Agree (lives r code)) (places r) (m (set t e) ∷ []) [] (map m code) []
      (passed_rel (Agree (lives r (set t e ∷ code))) (Agree (lives r code)) (places r) t e k) h
  passed_related r t e code (n ∷ rest) behind k h = record {
    us = set t e ∷ h.us;
    vs = h.vs;
    is = ap (λ l. set t e ∷ l) h.is;
    first =
        append_rel (Agree (lives r (set t e ∷ code))) (Agree (lives r code)) (Q r behind) (m (set t e) ∷ []) [] (map m h.us) (m n ∷ [])
        (passed_rel (Agree (lives r (set t e ∷ code))) (Agree (lives r code)) (Q r behind) t e k) h.first;
    others = h.others;
  }

  live_at_set : (r : ℕ → Around) (t : ℕ) (e : Tree) (code : List Stm) (u : ℕ) → live_at (e ∷ []) (Some t) (lives r code) u ≡ true → lives r (set t e ∷ code) u ≡ true
  live_at_set r t e code u l = ap (λ f. f.live (before r code u)) (flow_roll u (stm.Set t e)) ∙ l

  set_passes : (r : ℕ → Around) (t : ℕ) (e : Tree) (code : List Stm) →
      ((xs ys : List ℕ) (globals : List (List ℕ)) → Agree (lives r (set t e ∷ code)) xs ys → lives r code t ≡ true →
      slice_index (slice_set xs t (value setting.numbers frame.bound e xs globals)) t ≡ slice_index ys t) →
      Passes r t e code
  set_passes r t e code own xs ys globals a =
      let v = value setting.numbers frame.bound e xs globals in
      record {
        long = length-set xs t v ∙ a.long;
        room = (let k = a.room in omega (arith, k, length-set xs t v));
        same = λ u l. by u l (cases_eq u t);
      }
    where
      by : (u : ℕ) → lives r code u ≡ true → (u ≡ t) ⊎ (u ≡ t → ⊥) →
          slice_index (slice_set xs t (value setting.numbers frame.bound e xs globals)) u ≡ slice_index ys u
      by u l (inl q) =
          subst (λ z. slice_index (slice_set xs t (value setting.numbers frame.bound e xs globals)) z ≡ slice_index ys z) (sym q)
          (own xs ys globals a (ap (lives r code) (sym q) ∙ l))
      by u l (inr ne) = get_or-set_other xs t u (value setting.numbers frame.bound e xs globals) 0 ne ∙
          a.same u (live_at_set r t e code u (live_other (e ∷ []) t (lives r code) u ne l))

  dropped_passes : (r : ℕ → Around) (t : ℕ) (e : Tree) (code : List Stm) → lives r code t ≡ false → Passes r t e code
  dropped_passes r t e code dead = set_passes r t e code (λ xs ys globals a l. let k : false ≡ true = sym dead ∙ l in absurd (cc))

  idle_passes : (r : ℕ → Around) (t : ℕ) (code : List Stm) → t < temps → Passes r t (temp t) code
  idle_passes r t code lt = set_passes r t (temp t) code (λ xs ys globals a l.
      get_or-set_at xs t t (value setting.numbers frame.bound (temp t) xs globals) 0 refl (let k = a.room in omega (arith, k, lt)) ∙
      ap (λ f. f xs globals) (value_roll setting.numbers frame.bound (tree.Temp t)) ∙
      a.same t (live_at_set r t (temp t) code t (or_left _ _ (or_left (reads_temp t (temp t)) false (itself_read t t refl)))))

  -- what stands behind a jump isn't reached
  jump_alone : (s : Stm) (code : List Stm) → jumps s ≡ true → KeepsMeaning (in_order (map m (s ∷ code))) (in_order (map m (s ∷ [])))
  jump_alone s code j = subst (λ c. KeepsMeaning (in_order (map m (s ∷ code))) (in_order (map m (s ∷ cond c [] (up_to_jump code))))) j
      (ended_kept setting frame (s ∷ code))

  jump_related : (r : ℕ → Around) (s : Stm) (code : List Stm) → jumps s ≡ true → Split r (s ∷ code) (lives r []) s []
  jump_related r s code j = record {
    us = s ∷ code;
    vs = [];
    is = sym (append-nil (s ∷ code));
    first = λ bound x y a.
        let alone = jump_alone s code j bound x in
        let run = itself_here bound x y a in
        record {
          outcome = subst (λ o. OutcomeRel (Q r (lives r [])) o (in_order (m s ∷ []) bound y).outcome) (sym alone.same) run.outcome;
          cheaper = omega (arith, alone.cheaper, run.cheaper);
        };
    others = nil_rel (Agree (lives r [])) (places r);
  }
    where
      itself_here : MeaningRel (Agree (lives r (s ∷ code))) (Q r (lives r [])) (in_order (m s ∷ [])) (in_order (m s ∷ []))
      itself_here =
          meaning_weaker (Agree (lives r (s ∷ []))) (Agree (lives r (s ∷ code))) (Q r (lives r [])) _ _
          (weaker (lives r (s ∷ code)) (lives r (s ∷ [])) (λ t e. (jump_stops s j t (r t) (lives r code t)).0 ∙ sym (jump_stops s j t (r t) (r t).next).0 ∙ e))
          (cons_rel (Agree (lives r (s ∷ []))) (Agree (lives r [])) (Q r (lives r [])) (m s) (m s) [] [] (self s (before r []))
          (nil_rel (Agree (lives r [])) (Q r (lives r []))))

  mutual
    left_related : (r : ℕ → Around) (code result : List Stm) (behind : ℕ → Bool) → Left temps r code behind result → IsRelated r code behind result
    left_related r code result behind (none p) = nil_rel (Agree (λ t. (p t).next)) (places p)
    left_related r code result behind (put p s y ss rest w h k) = put_related p s y ss rest w (left_related p ss rest w h) (becomes_related (before p ss) s y k)
    left_related r code result behind (one p s n z ss rest w h k) =
        one_related p s n z ss rest w (left_related p ss (n ∷ rest) w h) k (λ u e. (left_thin temps u p ss (n ∷ rest) w h).step (p u) (w u) (fits_itself u (p u)) (λ b. b) e)
    left_related r code result behind (dropped p t e ss rest w h lt dead) = passed_related p t e ss rest w (dropped_passes p t e ss dead)
        (left_related p ss rest w h)
    left_related r code result behind (idle p t ss rest w h lt) = passed_related p t (temp t) ss rest w (idle_passes p t ss lt) (left_related p ss rest w h)
    left_related r code result behind (ended p s ss rest w h j k) = jump_related p s ss j

    becomes_related : (r : ℕ → Around) (s y : Stm) → Becomes temps r s y → MeaningRel (Agree (λ t. (flow t s).live (r t))) (places r) (m s) (m y)
    becomes_related r s y (same p u) = self u p
    becomes_related r s y (choice p v a a' b b' w x h k) = rolled (stm.If v a b) (stm.If v a' b') p (choice_rel p v a a' b b' (all_related p a a' w (left_related p a a' w h)) (all_related p b b' x (left_related p b b' x k)))
    becomes_related r s y (turns p b b' w h) = rolled (stm.Loop b) (stm.Loop b') p (turns_rel p b b' (all_related (in_loop p b) b b' w (left_related (in_loop p b) b b' w h)))
    becomes_related r s y (block p b b' w h) = rolled (stm.Block b) (stm.Block b') p (block_kept_rel p b b' (all_related (in_block p) b b' w (left_related (in_block p) b b' w h)))

  pub tidied_related : (code result : List Stm) → IsJoinedCode temps code result → MeaningRel (Agree (lives (λ t. nowhere) code)) (places (λ t. nowhere)) (in_order (map m code)) (in_order (map m result))
  tidied_related code result k = all_related (λ t. nowhere) code result k.behind (left_related (λ t. nowhere) code result k.behind k.left)

-- ---- bodies

pub tidied_keeps : (b : Body) (code : List Stm) → IsJoinedCode b.temps b.code code → KeepsBody b (record b { code = code })
tidied_keeps b code k setting frame contents args bound w =
    let s = entry_state contents b args w in
    let run = tidied_related b.temps setting frame b.code code k bound s s (record { temps = record { long = refl; room = temps_enough contents.temps b.temps args; same = λ t e. refl }; arrays = refl; world = refl }) in
    record { same = end_same (places b.temps setting frame (λ t. nowhere)) _ _ run.outcome; cheaper = run.cheaper }
