-- Carrying numbers keeps the meaning, at no greater cost.
use Rattle.std.proofs.Common.{arith, ◌≡◌, ℕ, zero, suc, ◌≤◌, Bool, true, false, not, cond, eqb, List, [], ◌∷◌, ◌++◌, length, map, Option, Some, None, refl, sym, ◌∙◌, ap, subst, append-nil, append_assoc}
use Rattle.std.specs.Prelude.{◌||◌, slice_set}
use Rattle.std.proofs.lemmas.Bool.{eq-eqb, eqb-true, not-true, or_parts}
use Rattle.std.proofs.lemmas.List.{length-set}
use Rattle.mv_num.proofs.Booleans.{from_falsity}
use Rattle.mv_ast.specs.Names.{any_of}
use Rattle.mv_ir.specs.declared.tree.Tree.{Tree}
use Rattle.mv_ir.specs.declared.stm.Callee.{Callee}
use Rattle.mv_ir.specs.declared.stm.Callee.TheVariants as callee
use Rattle.mv_ir.specs.declared.stm.Stm.{Stm}
use Rattle.mv_ir.specs.declared.stm.Stm.TheOpen.{Stm-F}
use Rattle.mv_ir.specs.declared.stm.Stm.TheOpen as stm
use Rattle.mv_ir.specs.declared.stm.Stm.TheViews.{roll-Stm}
use Rattle.mv_ir.specs.declared.stm.Stm.TheFolds.{map-Stm}
use Rattle.mv_ir.specs.declared.body.Body.{Body}
use Rattle.mv_ir.specs.World.{Setting, Frame}
use Rattle.mv_ir.specs.Trees.{Value, value}
use Rattle.mv_ir.specs.Outcome.{State, Run, Meaning, in_order as all_in_order}
use Rattle.mv_ir.specs.Meaning.{statement, meaning, code_meaning, entry_state}
use Rattle.mv_ir.specs.Keeps.{KeepsBody}
use Rattle.mv_ir.specs.Live.{is}
use Rattle.mv_ir.proofs.Induction.{Each, each_append, StmChildren, stm_ind, stms_ind}
use Rattle.mv_ir.proofs.Common.{each_weaker, each_first, each_right}
use Rattle.mv_ir.proofs.Joining.{temps_enough}
use Rattle.mv_ir.proofs.Keeping.{map_append, one_meaning, layer_means}
use Rattle.mv_ir.proofs.Relating.{Rel, StateRel, Places, under, in_block, in_loop, RunRel, MeaningRel, append_rel, places_weaker, meaning_weaker, block_rel, loop_rel, end_same}
use Rattle.mv_ir.proofs.RelatedStatements.{from_temps, SameIn, SameTreesIn, SameCalleeIn, Puts, Writes, set_global_rel, divide_rel, check_rel, read_rel, write_rel, zero_rel, if_rel, break_rel, back_rel, call_rel, known_rel, return_rel}
use Rattle.mv_fold.specs.Simple.{constant}
use Rattle.mv_fold.proofs.Levels.{not_zero}
use Rattle.mv_fold.proofs.SimpleKept.{constant_value}
use Rattle.mv_carry.specs.declared.facts.Fact.{Fact}
use Rattle.mv_carry.specs.declared.facts.Reach.{Reach}
use Rattle.mv_carry.specs.declared.facts.Reach.TheVariants.{Never, Knowing}
use Rattle.mv_carry.specs.declared.walk.Within.{Within}
use Rattle.mv_carry.specs.declared.walk.Walk.{Walk}
use Rattle.mv_carry.specs.Facts.{without, behind_write, known, with_facts, meet}
use Rattle.mv_carry.specs.Carrying.{carried_tree, carried_callee, layer_writes, writes, unwritten, begun, put, wrote_result, jumped, leaves, chosen, looped, looked, outermost, inner, Step, in_order, carried_layer, step, carried_code, start}
use Rattle.mv_carry.proofs.Knowing.{Holds, Hold, Others, At, hold_set, hold_known, each_filter, each_passes, meet_left, meet_right, at_without, at_behind}
use Rattle.mv_carry.proofs.TreesKept.{carried_value, carried_nodes}
use Rattle.mv_carry.proofs.Equations.{writes_roll, walk_roll, same_start}

-- facts on temporaries that some code doesn't write
abbrev IsUnwrittenIn : List Stm → Fact → Type 0
IsUnwrittenIn b f = any_of (map (writes f.temp) b) ≡ false

-- facts on temporaries that a statement doesn't write
abbrev pub Unwritten : Stm → List Fact → Type 0
Unwritten s fs = Each (λ f. writes f.temp s ≡ false) fs

abbrev pub UnwrittenIn : List Stm → List Fact → Type 0
UnwrittenIn b fs = Each (IsUnwrittenIn b) fs

-- what a statement doesn't write, by its layer
unwritten_layer : (x : Stm-F Stm) (fs : List Fact) → Unwritten (roll-Stm x) fs → Each (λ f. layer_writes f.temp (map-Stm Stm Bool (writes f.temp) x) ≡ false) fs
unwritten_layer x fs = each_weaker (λ (f : Fact). writes f.temp (roll-Stm x) ≡ false) (λ (f : Fact). layer_writes f.temp (map-Stm Stm Bool (writes f.temp) x) ≡ false) (λ f h. sym (writes_roll f.temp x) ∙ h) fs

start_unwritten : (b : List Stm) (fs : List Fact) → UnwrittenIn b (unwritten (λ t. any_of (map (writes t) b)) fs)
start_unwritten b fs =
    each_weaker (λ (f : Fact). not (any_of (map (writes f.temp) b)) ≡ true) (IsUnwrittenIn b) (λ f h. not-true (any_of (map (writes f.temp) b)) h)
    (unwritten (λ t. any_of (map (writes t) b)) fs) (each_passes (λ (f : Fact). not (any_of (map (writes f.temp) b))) fs)

module _ (temps : ℕ) (setting : Setting) (frame : Frame) where
  abbrev m : Stm → Meaning
  m = meaning setting frame

  abbrev val : Tree → Value
  val = value setting.numbers frame.bound

  -- the same temporaries, of which enough are there, and some hold their numbers
  pub record Shared (fs : List Fact) (xs ys : List ℕ) : Type 0 where
    pub same : xs ≡ ys
    pub long : temps ≤ length xs
    pub hold : Hold fs xs

  -- and control may be at the place
  abbrev pub Here : List Fact → Reach → List ℕ → List ℕ → Type 0
  Here fs r xs ys = Shared fs xs ys × At r xs

  abbrev pub Left : List Fact → Reach → Reach → ℕ → Rel
  Left fs left far zero = Here fs left
  Left fs left far (suc n) = Here fs far

  abbrev pub places : List Fact → Reach → Reach → Reach → Places
  places fs here left far = record { next = Here fs here; leaves = Left fs left far; restarts = λ n. Shared fs }

  abbrev pub R : List Fact → Reach → Places → List Meaning → List Meaning → Type 0
  R fs r q xs ys = MeaningRel (Here fs r) q (all_in_order xs) (all_in_order ys)

  -- from a place where something is known, code and what a walk has made of it so far
  abbrev pub Walked : List Fact → Reach → List Stm → Walk → Type 0
  Walked fs r done w = R fs r (places fs w.here w.left w.far) (map m done) (map m w.code)

  -- where some temporaries hold what is known of them all through the code, that is known which is at the start of the loop around
  abbrev pub IsThere : Within → List Fact → Type 0
  IsThere l fs = (xs : List ℕ) → Hold fs xs → At l.start xs

  abbrev IsKept : Stm → Type 0
  IsKept s = (l : Within) (fs : List Fact) → IsThere l fs → Unwritten s fs → (r : Reach) (done : List Stm) (w : Walk) → Walked fs r done w → Walked fs r (done ++ s ∷ []) ((step temps s).walk l w)

  -- ---- lists

  kids : (b : List Stm) → Each IsKept b → (l : Within) (fs : List Fact) → IsThere l fs → UnwrittenIn b fs → (r : Reach) (done : List Stm) (w : Walk) → Walked fs r done w → Walked fs r (done ++ b) (in_order l (map (step temps) b) w)
  kids [] h l fs i u r done w k = subst (λ c. Walked fs r c w) (sym (append-nil done)) k
  kids (s ∷ b) h l fs i u r done w k =
      let first : Unwritten s fs = each_weaker (IsUnwrittenIn (s ∷ b)) (λ (f : Fact). writes f.temp s ≡ false) (λ f e. (or_parts (writes f.temp s) (any_of (map (writes f.temp) b)) e).0) fs u in
      let rest : UnwrittenIn b fs = each_weaker (IsUnwrittenIn (s ∷ b)) (IsUnwrittenIn b) (λ f e. (or_parts (writes f.temp s) (any_of (map (writes f.temp) b)) e).1) fs u in
      let next = kids b h.1 l fs i rest r (done ++ s ∷ []) ((step temps s).walk l w) (h.0 l fs i first r done w k) in
      subst (λ c. Walked fs r c (in_order l (map (step temps) b) ((step temps s).walk l w))) (append_assoc done (s ∷ []) b) next

  nothing_yet : (fs : List Fact) (r : Reach) → Walked fs r [] (begun r)
  nothing_yet fs r bound s s' e = record { outcome = e; cheaper = omega arith }

  code_walked : (b : List Stm) → Each IsKept b → (l : Within) (fs : List Fact) → IsThere l fs → UnwrittenIn b fs → (r : Reach) → Walked fs r b (carried_code temps l r b)
  code_walked b h l fs i u r = kids b h l fs i u r [] (begun r) (nothing_yet fs r)

  -- ---- one more statement

  one : (fs : List Fact) (r : Reach) (q : Places) (x y : Stm-F Stm) → MeaningRel (Here fs r) q (layer_means setting frame x) (layer_means setting frame y) → R fs r q (m (roll-Stm x) ∷ []) (m (roll-Stm y) ∷ [])
  one fs r q x y h bound s s' e =
      subst (λ z. RunRel q (code_meaning setting frame (roll-Stm x ∷ []) bound s) z) (sym (one_meaning setting frame y bound s'))
      (subst (λ z. RunRel q z (layer_means setting frame y bound s')) (sym (one_meaning setting frame x bound s)) (h bound s s' e))

  -- where more may be
  abbrev Wider : Reach → Reach → Type 0
  Wider r r' = (xs : List ℕ) → At r xs → At r' xs

  left_weaker : (fs : List Fact) (l l' f f' : Reach) → Wider l l' → Wider f f' → (n : ℕ) (xs ys : List ℕ) → Left fs l f n xs ys → Left fs l' f' n xs ys
  left_weaker fs l l' f f' h k zero xs ys e = (e.0, h xs e.1)
  left_weaker fs l l' f f' h k (suc n) xs ys e = (e.0, k xs e.1)

  more : (fs : List Fact) (r : Reach) (done : List Stm) (w : Walk) (x y : Stm-F Stm) (here left far : Reach) → Walked fs r done w → Wider w.left left → Wider w.far far →
      MeaningRel (Here fs w.here) (places fs here left far) (layer_means setting frame x) (layer_means setting frame y) →
      Walked fs r (done ++ roll-Stm x ∷ []) (record { code = w.code ++ roll-Stm y ∷ []; here = here; left = left; far = far })
  more fs r done w x y here left far k hl hf h =
      let q = places fs here left far in
      let before = places_weaker (Here fs r) (places fs w.here w.left w.far) (places fs w.here left far) _ _ (λ xs ys e. e) (left_weaker fs w.left left w.far far hl hf) (λ n xs ys e. e) k in
      subst (λ l. R fs r q l (map m (w.code ++ roll-Stm y ∷ []))) (sym (map_append m done (roll-Stm x ∷ [])))
      (subst (λ l. R fs r q (map m done ++ m (roll-Stm x) ∷ []) l) (sym (map_append m w.code (roll-Stm y ∷ [])))
      (append_rel (Here fs r) (Here fs w.here) q (map m done) (map m w.code) (m (roll-Stm x) ∷ []) (m (roll-Stm y) ∷ []) before (one fs w.here q x y h)))

  -- ---- trees, reads and writes

  tree_in : (fs : List Fact) (r : Reach) (t : Tree) → SameIn setting frame (Here fs r) t (carried_tree (known r) t)
  tree_in fs r t = record {
    value = λ xs ys globals e. carried_value setting.numbers frame.bound (known r) xs globals (hold_known r xs e.1) t ∙ ap (λ zs. val (carried_tree (known r) t) zs globals) e.0.same;
    smaller = carried_nodes setting.numbers frame.bound (known r) t;
  }

  trees_in : (fs : List Fact) (r : Reach) (q : Places) (ts : List Tree) → SameTreesIn setting frame (Here fs r) q ts (map (carried_tree (known r)) ts)
  trees_in fs r q [] = tt
  trees_in fs r q (t ∷ ts) = (tree_in fs r t, trees_in fs r q ts)

  callee_in : (fs : List Fact) (r : Reach) (q : Places) (f : Callee) → SameCalleeIn setting frame (Here fs r) q f (carried_callee (known r) f)
  callee_in fs r q (callee.Direct f) = refl
  callee_in fs r q (callee.Through t) = tree_in fs r t
  callee_in fs r q (callee.Switched g) = refl
  callee_in fs r q callee.Expanded = tt

  set_shared : (t v v' : ℕ) (fs : List Fact) (xs ys : List ℕ) → Others t fs → v ≡ v' → Shared fs xs ys → Shared fs (slice_set xs t v) (slice_set ys t v')
  set_shared t v v' fs xs ys o e h = record {
    same = ap (λ l. slice_set l t v) h.same ∙ ap (slice_set ys t) e;
    long = omega (arith, h.long, length-set xs t v);
    hold = hold_set t v fs xs o h.hold;
  }

  -- behind a write nothing is known of the temporary
  writes_in : (fs : List Fact) (r : Reach) (t : ℕ) → Others t fs → Writes setting frame (Here fs r) (Here fs (with_facts (without t) r)) t t
  writes_in fs r t o xs ys v e = (set_shared t v v fs xs ys o refl e.0, at_without t v r xs e.1)

  others : (t : ℕ) (fs : List Fact) → Each (λ f. eqb t f.temp ≡ false) fs → Others t fs
  others t = each_weaker (λ (f : Fact). eqb t f.temp ≡ false) (λ (f : Fact). eqb f.temp t ≡ false) (λ f e. turned t f.temp e)
    where
      turned : (a b : ℕ) → eqb a b ≡ false → eqb b a ≡ false
      turned a b e = by (eqb b a) refl
        where
          by : (c : Bool) → eqb b a ≡ c → eqb b a ≡ false
          by false h = h
          by true h = let same : eqb a b ≡ true = eq-eqb a b (sym (eqb-true b a h)) in let no : false ≡ true = sym e ∙ same in absurd (cc)

  -- ---- a result that may be written

  abbrev result_here : Option ℕ → Walk → Reach
  result_here r w = (wrote_result r w).here

  puts : (fs : List Fact) (w : Walk) (r : Option ℕ) → Each (λ f. is r f.temp ≡ false) fs → Puts setting frame (Here fs w.here) (places fs (result_here r w) w.left w.far) r r
  puts fs w None o = λ xs ys e. e
  puts fs w (Some t) o = writes_in fs w.here t (others t fs o)

  result_walk : (r : Option ℕ) (s : Stm) (w : Walk) → put s (wrote_result r w) ≡ record { code = w.code ++ s ∷ []; here = result_here r w; left = w.left; far = w.far }
  result_walk None s w = refl
  result_walk (Some t) s w = refl

  -- ---- a value that may be known

  learns : (fs : List Fact) (r left far : Reach) (t : ℕ) (v : Tree) → Others t fs →
      MeaningRel (Here fs r) (places fs (with_facts (behind_write temps t (constant (carried_tree (known r) v))) r) left far) (layer_means setting frame (stm.Set t v)) (layer_means setting frame (stm.Set t (carried_tree (known r) v)))
  learns fs r left far t v o = from_temps (Here fs r) _ _ _ (λ bound xs ys arrays world e.
      let u = carried_tree (known r) v in
      let same = (tree_in fs r v).value xs ys world.globals e in
      record {
        outcome = record {
          temps = (
            set_shared t (val v xs world.globals) (val u ys world.globals) fs xs ys o same e.0,
            at_behind temps t (val v xs world.globals) (constant u) r xs e.0.long (λ n c. same ∙ ap (λ (f : Value). f ys world.globals) (constant_value setting.numbers frame.bound u n c)) e.1,
          );
          arrays = refl;
          world = refl;
        };
        cheaper = let less = carried_nodes setting.numbers frame.bound (known r) v in omega (arith, less);
      })

  -- ---- choices

  pick : (q : Places) (c d d' : Bool) (first first' second second' : Run) → d ≡ c → d' ≡ c → (c ≡ true → RunRel q first first') → (c ≡ false → RunRel q second second') → RunRel q (cond d first second) (cond d' first' second')
  pick q c d d' first first' second second' e f h k = subst (λ z. RunRel q (cond d first second) (cond z first' second')) (sym f) (subst (λ z. RunRel q (cond z first second) (cond c first' second')) (sym e) (by c h k))
    where
      by : (z : Bool) → (z ≡ true → RunRel q first first') → (z ≡ false → RunRel q second second') → RunRel q (cond z first second) (cond z first' second')
      by true h k = h refl
      by false h k = k refl

  -- of which the value is known
  decided : (fs : List Fact) (r : Reach) (q : Places) (t : Tree) (n : ℕ) (c : Bool) (a a' b b' : List Meaning) → constant (carried_tree (known r) t) ≡ Some n → eqb n 0 ≡ c → (c ≡ true → R fs r q b b') → (c ≡ false → R fs r q a a') →
      MeaningRel (Here fs r) q (statement setting frame (stm.If t a b)) (statement setting frame (stm.If (carried_tree (known r) t) a' b'))
  decided fs r q t n c a a' b b' e z hb ha = from_temps (Here fs r) q _ _ (λ bound xs ys arrays world h.
      let u = carried_tree (known r) t in
      let same = (tree_in fs r t).value xs ys world.globals h in
      let shown = ap (λ (f : Value). f ys world.globals) (constant_value setting.numbers frame.bound u n e) in
      let zero_u : eqb (val u ys world.globals) 0 ≡ c = ap (λ v. eqb v 0) shown ∙ z in
      let zero_t : eqb (val t xs world.globals) 0 ≡ c = ap (λ v. eqb v 0) same ∙ zero_u in
      let s : State = record { temps = xs; arrays = arrays; world = world } in
      let s' : State = record { temps = ys; arrays = arrays; world = world } in
      let at_start : StateRel (Here fs r) s s' = record { temps = h; arrays = refl; world = refl } in
      let run = pick q c _ _ _ _ _ _ zero_t zero_u (λ k. hb k bound s s' at_start) (λ k. ha k bound s s' at_start) in
      let less = carried_nodes setting.numbers frame.bound (known r) t in
      record { outcome = run.outcome; cheaper = omega (arith, run.cheaper, less) })

  -- a side of a choice, whose places are those of the choice
  side : (fs : List Fact) (r : Reach) (b : List Stm) (w : Walk) (here left far : Reach) → Wider w.here here → Wider w.left left → Wider w.far far → Walked fs r b w → R fs r (places fs here left far) (map m b) (map m w.code)
  side fs r b w here left far hh hl hf k = places_weaker (Here fs r) (places fs w.here w.left w.far) (places fs here left far) _ _ (λ xs ys e. (e.0, hh xs e.1)) (left_weaker fs w.left left w.far far hl hf) (λ n xs ys e. e) k

  -- behind three ways
  second_of : (a b c : Reach) → Wider b (meet a (meet b c))
  second_of a b c xs h = meet_right a (meet b c) xs (meet_left b c xs h)

  third_of : (a b c : Reach) → Wider c (meet a (meet b c))
  third_of a b c xs h = meet_right a (meet b c) xs (meet_right b c xs h)

  chosen_kept : (fs : List Fact) (r : Reach) (done : List Stm) (w : Walk) (t : Tree) (a b : List Stm) (a' b' : Walk) (c : Option ℕ) →
      constant (carried_tree (known w.here) t) ≡ c → Walked fs r done w → Walked fs w.here a a' → Walked fs w.here b b' →
      Walked fs r (done ++ roll-Stm (stm.If t a b) ∷ []) (chosen c (carried_tree (known w.here) t) a' b' w)
  chosen_kept fs r done w t a b a' b' None e k ha hb =
      let here = meet a'.here b'.here in
      let left = meet w.left (meet a'.left b'.left) in
      let far = meet w.far (meet a'.far b'.far) in
      let q = places fs here left far in
      more fs r done w (stm.If t a b) (stm.If (carried_tree (known w.here) t) a'.code b'.code) here left far k (meet_left w.left (meet a'.left b'.left)) (meet_left w.far (meet a'.far b'.far))
      (if_rel setting frame (Here fs w.here) q t (carried_tree (known w.here) t) (map m a) (map m a'.code) (map m b) (map m b'.code) (tree_in fs w.here t)
      (side fs w.here a a' here left far (meet_left a'.here b'.here) (second_of w.left a'.left b'.left) (second_of w.far a'.far b'.far) ha)
      (side fs w.here b b' here left far (meet_right a'.here b'.here) (third_of w.left a'.left b'.left) (third_of w.far a'.far b'.far) hb))
  chosen_kept fs r done w t a b a' b' (Some zero) e k ha hb =
      let left = meet w.left b'.left in
      let far = meet w.far b'.far in
      more fs r done w (stm.If t a b) (stm.If (carried_tree (known w.here) t) a'.code b'.code) b'.here left far k (meet_left w.left b'.left) (meet_left w.far b'.far)
      (decided fs w.here (places fs b'.here left far) t 0 true (map m a) (map m a'.code) (map m b) (map m b'.code) e refl
      (λ z. side fs w.here b b' b'.here left far (λ xs h. h) (meet_right w.left b'.left) (meet_right w.far b'.far) hb) (λ z. from_falsity (sym z)))
  chosen_kept fs r done w t a b a' b' (Some (suc n)) e k ha hb =
      let left = meet w.left a'.left in
      let far = meet w.far a'.far in
      more fs r done w (stm.If t a b) (stm.If (carried_tree (known w.here) t) a'.code b'.code) a'.here left far k (meet_left w.left a'.left) (meet_left w.far a'.far)
      (decided fs w.here (places fs a'.here left far) t (suc n) false (map m a) (map m a'.code) (map m b) (map m b'.code) e (not_zero n)
      (λ z. from_falsity z) (λ z. side fs w.here a a' a'.here left far (λ xs h. h) (meet_right w.left a'.left) (meet_right w.far a'.far) ha))

  -- ---- loops and blocks

  weaken : (ks fs : List Fact) (xs ys : List ℕ) → Shared (ks ++ fs) xs ys → Shared fs xs ys
  weaken ks fs xs ys h = record { same = h.same; long = h.long; hold = each_right (Holds xs) ks fs h.hold }

  together : (ks fs : List Fact) (xs ys : List ℕ) → Hold ks xs → Shared fs xs ys → Shared (ks ++ fs) xs ys
  together ks fs xs ys k h = record { same = h.same; long = h.long; hold = each_append (Holds xs) ks fs k h.hold }

  -- what holds where a statement leaves what stands around it, from what holds where the code in it leaves that
  outwards : (ks fs : List Fact) (next : Rel) (inside left far far' : Reach) → ((xs ys : List ℕ) → Here (ks ++ fs) inside xs ys → next xs ys) →
      (n : ℕ) (xs ys : List ℕ) → Left (ks ++ fs) inside far n xs ys → under next next n (Left fs (meet left far) (meet far' far)) xs ys
  outwards ks fs next inside left far far' h zero xs ys e = h xs ys e
  outwards ks fs next inside left far far' h (suc zero) xs ys e = (weaken ks fs xs ys e.0, meet_right left far xs e.1)
  outwards ks fs next inside left far far' h (suc (suc n)) xs ys e = (weaken ks fs xs ys e.0, meet_right far' far xs e.1)

  -- some more facts, of temporaries that a loop doesn't write, by which that is known which is said to be known at its start
  record Starts (ks fs : List Fact) (b : List Stm) (r : Reach) : Type 0 where
    apart : UnwrittenIn b ks
    there : (xs : List ℕ) → Hold (ks ++ fs) xs → At r xs

  looped_kept : (ks fs : List Fact) (b : List Stm) (r : Reach) → Starts ks fs b r → Each IsKept b → UnwrittenIn b fs → (l : Within) (left far : Reach) →
      let w = carried_code temps (inner l r) r b in
      MeaningRel (Shared (ks ++ fs)) (places fs w.left (meet left w.far) (meet far w.far)) (layer_means setting frame (stm.Loop b)) (layer_means setting frame (stm.Loop w.code))
  looped_kept ks fs b r s h u l left far =
      let w = carried_code temps (inner l r) r b in
      let p = Here (ks ++ fs) r in
      let q = places fs w.left (meet left w.far) (meet far w.far) in
      let turn = code_walked b h (inner l r) (ks ++ fs) s.there (each_append (IsUnwrittenIn b) ks fs s.apart u) r in
      let turns = places_weaker p (places (ks ++ fs) w.here w.left w.far) (in_loop p q) (all_in_order (map m b)) (all_in_order (map m w.code)) (λ xs ys e. (e.0, s.there xs e.0.hold))
      (outwards ks fs (Here fs w.left) w.left left w.far far (λ xs ys e. (weaken ks fs xs ys e.0, e.1))) again turn in
      meaning_weaker p (Shared (ks ++ fs)) q _ _ (λ xs ys e. (e, s.there xs e.hold)) (loop_rel p q (all_in_order (map m b)) (all_in_order (map m w.code)) turns)
    where
      again : (n : ℕ) (xs ys : List ℕ) → Shared (ks ++ fs) xs ys → under (Here (ks ++ fs) r) (Here (ks ++ fs) r) n (λ k. Shared fs) xs ys
      again zero xs ys e = (e, s.there xs e.hold)
      again (suc n) xs ys e = weaken ks fs xs ys e

  loop_kept : (l : Within) (fs : List Fact) → IsThere l fs → (r : Reach) (b : List Stm) → Each IsKept b → UnwrittenIn b fs → (left far : Reach) →
      let st = start l b r in
      let w = carried_code temps (inner l st) st b in
      MeaningRel (Here fs r) (places fs w.left (meet left w.far) (meet far w.far)) (layer_means setting frame (stm.Loop b)) (layer_means setting frame (stm.Loop w.code))
  loop_kept l fs i Never b h u left far = λ bound s s' e. absurd e.temps.1
  loop_kept l fs i (Knowing gs) b h u left far = by l.looks
    where
      by : (n : ℕ) →
          let st = looked n l.start (λ t. any_of (map (writes t) b)) gs in
          let w = carried_code temps (inner l st) st b in
          MeaningRel (Here fs (Knowing gs)) (places fs w.left (meet left w.far) (meet far w.far)) (layer_means setting frame (stm.Loop b)) (layer_means setting frame (stm.Loop w.code))
      by zero = meaning_weaker (Shared fs) (Here fs (Knowing gs)) _ _ _ (λ xs ys e. e.0) (looped_kept [] fs b l.start (record { apart = tt; there = i }) h u l left far)
      by (suc n) =
          let ks = unwritten (λ t. any_of (map (writes t) b)) gs in
          meaning_weaker (Shared (ks ++ fs)) (Here fs (Knowing gs)) _ _ _ (λ xs ys e. together ks fs xs ys (each_filter (Holds xs) (λ (f : Fact). not (any_of (map (writes f.temp) b))) gs e.1) e.0)
          (looped_kept ks fs b (Knowing ks) (record { apart = start_unwritten b gs; there = λ xs k. each_first (Holds xs) ks fs k }) h u l left far)

  block_kept : (l : Within) (fs : List Fact) → IsThere l fs → (r : Reach) (b : List Stm) → Each IsKept b → UnwrittenIn b fs → (left far : Reach) →
      let w = carried_code temps l r b in
      MeaningRel (Here fs r) (places fs (meet w.here w.left) (meet left w.far) (meet far w.far)) (layer_means setting frame (stm.Block b)) (layer_means setting frame (stm.Block w.code))
  block_kept l fs i r b h u left far =
      let w = carried_code temps l r b in
      let q = places fs (meet w.here w.left) (meet left w.far) (meet far w.far) in
      let once = places_weaker (Here fs r) (places fs w.here w.left w.far) (in_block (Shared fs) q) (all_in_order (map m b)) (all_in_order (map m w.code)) (λ xs ys e. (e.0, meet_left w.here w.left xs e.1))
      (outwards [] fs (Here fs (meet w.here w.left)) w.left left w.far far (λ xs ys e. (e.0, meet_right w.here w.left xs e.1))) again (code_walked b h l fs i u r) in
      block_rel (Here fs r) (Shared fs) q (all_in_order (map m b)) (all_in_order (map m w.code)) once
    where
      again : (n : ℕ) (xs ys : List ℕ) → Shared fs xs ys → under (Shared fs) (Shared fs) n (λ k. Shared fs) xs ys
      again zero xs ys e = e
      again (suc n) xs ys e = e

  -- ---- statements

  -- where nothing is written
  plain : (fs : List Fact) (r : Reach) (done : List Stm) (w : Walk) (x y : Stm-F Stm) → Walked fs r done w →
      MeaningRel (Here fs w.here) (places fs w.here w.left w.far) (layer_means setting frame x) (layer_means setting frame y) →
      Walked fs r (done ++ roll-Stm x ∷ []) (put (roll-Stm y) w)
  plain fs r done w x y k h = more fs r done w x y w.here w.left w.far k (λ xs e. e) (λ xs e. e) h

  -- behind a write, and behind a jump
  other : (fs : List Fact) (r : Reach) (done : List Stm) (w : Walk) (x y : Stm-F Stm) (here : Reach) → Walked fs r done w →
      MeaningRel (Here fs w.here) (places fs here w.left w.far) (layer_means setting frame x) (layer_means setting frame y) →
      Walked fs r (done ++ roll-Stm x ∷ []) (record { code = w.code ++ roll-Stm y ∷ []; here = here; left = w.left; far = w.far })
  other fs r done w x y here k h = more fs r done w x y here w.left w.far k (λ xs e. e) (λ xs e. e) h

  break_kept : (fs : List Fact) (r : Reach) (done : List Stm) (w : Walk) (n : ℕ) → Walked fs r done w → Walked fs r (done ++ roll-Stm (stm.Break n) ∷ []) (put (roll-Stm (stm.Break n)) (jumped (leaves n w)))
  break_kept fs r done w zero k =
      more fs r done w (stm.Break 0) (stm.Break 0) Never (meet w.left w.here) w.far k (meet_left w.left w.here) (λ xs e. e)
      (break_rel setting frame (Here fs w.here) _ 0 (λ xs ys e. (e.0, meet_right w.left w.here xs e.1)))
  break_kept fs r done w (suc n) k =
      more fs r done w (stm.Break (suc n)) (stm.Break (suc n)) Never w.left (meet w.far w.here) k (λ xs e. e) (meet_left w.far w.here) (break_rel setting frame (Here fs w.here) _ (suc n) (λ xs ys e. (e.0, meet_right w.far w.here xs e.1)))

  -- that a statement is left, with a result that may be written
  with_result : (fs : List Fact) (r : Reach) (done : List Stm) (w : Walk) (x y : Stm-F Stm) (t : Option ℕ) → Walked fs r done w →
      MeaningRel (Here fs w.here) (places fs (result_here t w) w.left w.far) (layer_means setting frame x) (layer_means setting frame y) →
      Walked fs r (done ++ roll-Stm x ∷ []) (put (roll-Stm y) (wrote_result t w))
  with_result fs r done w x y t k h = subst (Walked fs r (done ++ roll-Stm x ∷ [])) (sym (result_walk t (roll-Stm y) w)) (other fs r done w x y (result_here t w) k h)

  abbrev IsUnwrittenInEither : List Stm → List Stm → Fact → Type 0
  IsUnwrittenInEither a b f = (any_of (map (writes f.temp) a) || any_of (map (writes f.temp) b)) ≡ false

  first_unwritten : (a b : List Stm) (fs : List Fact) → Each (IsUnwrittenInEither a b) fs → UnwrittenIn a fs
  first_unwritten a b = each_weaker (IsUnwrittenInEither a b) (IsUnwrittenIn a) (λ f e. (or_parts (any_of (map (writes f.temp) a)) (any_of (map (writes f.temp) b)) e).0)

  second_unwritten : (a b : List Stm) (fs : List Fact) → Each (IsUnwrittenInEither a b) fs → UnwrittenIn b fs
  second_unwritten a b = each_weaker (IsUnwrittenInEither a b) (IsUnwrittenIn b) (λ f e. (or_parts (any_of (map (writes f.temp) a)) (any_of (map (writes f.temp) b)) e).1)

  kept_layer : (x : Stm-F Stm) → StmChildren IsKept x → (l : Within) (fs : List Fact) → IsThere l fs →
      Each (λ f. layer_writes f.temp (map-Stm Stm Bool (writes f.temp) x) ≡ false) fs → (r : Reach) (done : List Stm) (w : Walk) → Walked fs r done w →
      Walked fs r (done ++ roll-Stm x ∷ []) (carried_layer temps (map-Stm Stm Step (step temps) x) l w)
  kept_layer (stm.Set t v) h l fs c u r done w k = other fs r done w (stm.Set t v) (stm.Set t (carried_tree (known w.here) v)) _ k (learns fs w.here w.left w.far t v (others t fs u))
  kept_layer (stm.SetGlobal g v) h l fs c u r done w k = plain fs r done w (stm.SetGlobal g v) (stm.SetGlobal g (carried_tree (known w.here) v)) k (set_global_rel setting frame (Here fs w.here) _ g v _ (tree_in fs w.here v) (λ xs ys e. e))
  kept_layer (stm.Divide t o a b) h l fs c u r done w k =
      other fs r done w (stm.Divide t o a b) (stm.Divide t o (carried_tree (known w.here) a) (carried_tree (known w.here) b)) _ k
      (divide_rel setting frame (Here fs w.here) _ t t o a _ b _ (tree_in fs w.here a) (tree_in fs w.here b) (writes_in fs w.here t (others t fs u)))
  kept_layer (stm.Check a i) h l fs c u r done w k = plain fs r done w (stm.Check a i) (stm.Check a (carried_tree (known w.here) i)) k (check_rel setting frame (Here fs w.here) _ a i _ (tree_in fs w.here i) (λ xs ys e. e))
  kept_layer (stm.Read t a i) h l fs c u r done w k =
      other fs r done w (stm.Read t a i) (stm.Read t a (carried_tree (known w.here) i)) _ k
      (read_rel setting frame (Here fs w.here) _ t t a i _ (tree_in fs w.here i) (writes_in fs w.here t (others t fs u)))
  kept_layer (stm.Write a i v) h l fs c u r done w k =
      plain fs r done w (stm.Write a i v) (stm.Write a (carried_tree (known w.here) i) (carried_tree (known w.here) v)) k (write_rel setting frame (Here fs w.here) _ a i _ v _ (tree_in fs w.here i) (tree_in fs w.here v) (λ xs ys e. e))
  kept_layer (stm.Zero a) h l fs c u r done w k = plain fs r done w (stm.Zero a) (stm.Zero a) k (zero_rel setting frame (Here fs w.here) _ a (λ xs ys e. e))
  kept_layer (stm.If t a b) h l fs c u r done w k =
      chosen_kept fs r done w t a b (carried_code temps l w.here a) (carried_code temps l w.here b) (constant (carried_tree (known w.here) t)) refl k
      (code_walked a h.0 l fs c (first_unwritten a b fs u) w.here) (code_walked b h.1 l fs c (second_unwritten a b fs u) w.here)
  kept_layer (stm.Loop b) h l fs c u r done w k =
      let st = start l b w.here in
      let turn = carried_code temps (inner l st) st b in
      subst (λ z. Walked fs r (done ++ roll-Stm (stm.Loop b) ∷ []) (looped (carried_code temps (inner l z) z b) w)) (sym (same_start temps l b w.here))
      (more fs r done w (stm.Loop b) (stm.Loop turn.code) turn.left (meet w.left turn.far) (meet w.far turn.far) k (meet_left w.left turn.far) (meet_left w.far turn.far) (loop_kept l fs c w.here b h u w.left w.far))
  kept_layer (stm.Block b) h l fs c u r done w k =
      let body = carried_code temps l w.here b in
      more fs r done w (stm.Block b) (stm.Block body.code) (meet body.here body.left) (meet w.left body.far) (meet w.far body.far) k (meet_left w.left body.far) (meet_left w.far body.far) (block_kept l fs c w.here b h u w.left w.far)
  kept_layer (stm.Break n) h l fs c u r done w k = break_kept fs r done w n k
  kept_layer (stm.Back n) h l fs c u r done w k = other fs r done w (stm.Back n) (stm.Back n) Never k (back_rel setting frame (Here fs w.here) _ n (λ xs ys e. e.0))
  kept_layer (stm.Call t f args) h l fs c u r done w k =
      with_result fs r done w (stm.Call t f args) (stm.Call t (carried_callee (known w.here) f) (map (carried_tree (known w.here)) args)) t k
      (call_rel setting frame (Here fs w.here) (places fs (result_here t w) w.left w.far) t t f _ args _
      (callee_in fs w.here (places fs (result_here t w) w.left w.far) f) (trees_in fs w.here (places fs (result_here t w) w.left w.far) args)
      (puts fs w t u))
  kept_layer (stm.Known t n args) h l fs c u r done w k =
      with_result fs r done w (stm.Known t n args) (stm.Known t n (map (carried_tree (known w.here)) args)) t k
      (known_rel setting frame (Here fs w.here) (places fs (result_here t w) w.left w.far) t t n args _ (trees_in fs w.here (places fs (result_here t w) w.left w.far) args) (puts fs w t u))
  kept_layer (stm.Return v) h l fs c u r done w k = other fs r done w (stm.Return v) (stm.Return (carried_tree (known w.here) v)) Never k (return_rel setting frame (Here fs w.here) _ v _ (tree_in fs w.here v))

  stm_kept : (s : Stm) → IsKept s
  stm_kept = stm_ind IsKept (λ x h l fs c u r done w k. subst (Walked fs r (done ++ roll-Stm x ∷ [])) (sym (walk_roll temps x l w)) (kept_layer x h l fs c (unwritten_layer x fs u) r done w k))

  pub code_kept : (code : List Stm) → Walked [] (Knowing []) code (carried_code temps outermost (Knowing []) code)
  code_kept code = code_walked code (stms_ind IsKept stm_kept code) outermost [] (λ xs h. tt) tt (Knowing [])

-- ---- bodies

pub carried_keeps : (b : Body) → KeepsBody b (record b { code = (carried_code b.temps outermost (Knowing []) b.code).code })
carried_keeps b setting frame contents args bound w =
    let s = entry_state contents b args w in
    let walk = carried_code b.temps outermost (Knowing []) b.code in
    let run = code_kept b.temps setting frame b.code bound s s (record { temps = (record { same = refl; long = temps_enough contents.temps b.temps args; hold = tt }, tt); arrays = refl; world = refl }) in
    record { same = end_same (places b.temps setting frame [] walk.here walk.left walk.far) _ _ run.outcome; cheaper = run.cheaper }
