-- Shortening the end of a body's code keeps what the body does, at no greater cost.
use Rattle.std.proofs.Common.{arith, ◌≡◌, ℕ, zero, suc, ◌+◌, ◌*◌, ◌<◌, ◌≤◌, List, [], ◌∷◌, length, map, Option, Some, None, refl, sym, ◌∙◌, ap, subst}
use Rattle.std.specs.Prelude.{slice_index_or, slice_set}
use Rattle.std.proofs.lemmas.List.{length-set, get_or-set_same}
use Rattle.mv_ir.specs.declared.tree.Tree.{Tree}
use Rattle.mv_ir.specs.declared.tree.Tree.TheOpen as tree
use Rattle.mv_ir.specs.declared.stm.Callee.{Callee}
use Rattle.mv_ir.specs.declared.stm.Callee.TheVariants as callee
use Rattle.mv_ir.specs.declared.stm.Stm.{Stm}
use Rattle.mv_ir.specs.declared.stm.Stm.TheOpen.{Stm-F}
use Rattle.mv_ir.specs.declared.stm.Stm.TheOpen as stm
use Rattle.mv_ir.specs.declared.stm.Stm.TheViews.{roll-Stm}
use Rattle.mv_ir.specs.declared.body.Body.{Body}
use Rattle.mv_ir.specs.World.{Setting, Frame}
use Rattle.mv_ir.specs.Trees.{value, nodes}
use Rattle.mv_ir.specs.Outcome.{State, Returned, Outcome, Next, Leaves, Restarts, Ends, Run, Call, Bound, Meaning, spend, goes_on, in_order}
use Rattle.mv_ir.specs.Meaning.{meaning, code_meaning, with_global, entry_state, call_from}
use Rattle.mv_ir.specs.Keeps.{KeepsCall, KeepsBody}
use Rattle.mv_ir.proofs.Induction.{Each, StmChildren, stm_ind}
use Rattle.mv_ir.proofs.Rolls.{value_roll}
use Rattle.mv_ir.proofs.Keeping.{meaning_roll, one_meaning, layer_means}
use Rattle.mv_ir.proofs.Relating.{Places, under, in_block, in_loop, OutcomeRel, MeaningRel, nil_rel, cons_rel, places_weaker, block_rel, loop_rel}
use Rattle.mv_ir.proofs.RelatedStatements.{SameIn, SameTreesIn, SameCalleeIn, Puts, set_rel, set_global_rel, divide_rel, check_rel, read_rel, write_rel, zero_rel, if_rel, break_rel, back_rel, call_rel, known_rel, return_rel}
use Rattle.mv_ir.proofs.Joining.{temps_enough}
use Rattle.mv_ir.specs.Rolled.{temp, set, set_global, return_with}
use Rattle.mv_fold.specs.Shortened.{shortened}
use Rattle.mv_fold.proofs.Shortening.{shortened_is}

module _ (temps : ℕ) (setting : Setting) (frame : Frame) where
  -- ---- there stay as many temporaries

  -- the same temporaries, and so many of them
  record Long (xs ys : List ℕ) : Type 0 where
    same : xs ≡ ys
    room : temps ≤ length xs

  abbrev q : Places
  q = record { next = Long; leaves = λ n. Long; restarts = λ n. Long }

  abbrev m : Stm → Meaning
  m = meaning setting frame

  same_in : (x : Tree) → SameIn setting frame Long x x
  same_in x = record { value = λ xs ys globals e. ap (λ l. value setting.numbers frame.bound x l globals) e.same; smaller = omega arith }

  many_in : (xs : List Tree) → SameTreesIn setting frame Long q xs xs
  many_in [] = tt
  many_in (x ∷ xs) = (same_in x, many_in xs)

  callee_in : (f : Callee) → SameCalleeIn setting frame Long q f f
  callee_in (callee.Direct f) = refl
  callee_in (callee.Through t) = same_in t
  callee_in (callee.Switched g) = refl
  callee_in callee.Expanded = tt

  keeps : (xs ys : List ℕ) → Long xs ys → Long xs ys
  keeps xs ys e = e

  writes : (t : ℕ) (xs ys : List ℕ) (v : ℕ) → Long xs ys → Long (slice_set xs t v) (slice_set ys t v)
  writes t xs ys v e = record { same = ap (λ l. slice_set l t v) e.same; room = omega (arith, e.room, length-set xs t v) }

  puts : (r : Option ℕ) → Puts setting frame Long q r r
  puts None = keeps
  puts (Some t) = writes t

  same_under : (n : ℕ) (xs ys : List ℕ) → Long xs ys → under Long Long n (λ k. Long) xs ys
  same_under zero xs ys e = e
  same_under (suc n) xs ys e = e

  abbrev IsLong : Stm → Type 0
  IsLong s = MeaningRel Long q (m s) (m s)

  kids : (b : List Stm) → Each IsLong b → MeaningRel Long q (in_order (map m b)) (in_order (map m b))
  kids [] h = nil_rel Long q
  kids (s ∷ b) h = cons_rel Long Long q (m s) (m s) (map m b) (map m b) h.0 (kids b h.1)

  long_layer : (x : Stm-F Stm) → StmChildren IsLong x → MeaningRel Long q (layer_means setting frame x) (layer_means setting frame x)
  long_layer (stm.Set t v) h = set_rel setting frame Long q t t v v (same_in v) (writes t)
  long_layer (stm.SetGlobal g v) h = set_global_rel setting frame Long q g v v (same_in v) keeps
  long_layer (stm.Divide t o x y) h = divide_rel setting frame Long q t t o x x y y (same_in x) (same_in y) (writes t)
  long_layer (stm.Check r i) h = check_rel setting frame Long q r i i (same_in i) keeps
  long_layer (stm.Read t r i) h = read_rel setting frame Long q t t r i i (same_in i) (writes t)
  long_layer (stm.Write r i v) h = write_rel setting frame Long q r i i v v (same_in i) (same_in v) keeps
  long_layer (stm.Zero l) h = zero_rel setting frame Long q l keeps
  long_layer (stm.If t x y) h = if_rel setting frame Long q t t (map m x) (map m x) (map m y) (map m y) (same_in t) (kids x h.0) (kids y h.1)
  long_layer (stm.Loop b) h =
      loop_rel Long q (in_order (map m b)) (in_order (map m b)) (places_weaker Long q (in_loop Long q) (in_order (map m b)) (in_order (map m b)) keeps same_under same_under (kids b h))
  long_layer (stm.Block b) h =
      block_rel Long Long q (in_order (map m b)) (in_order (map m b)) (places_weaker Long q (in_block Long q) (in_order (map m b)) (in_order (map m b)) keeps same_under same_under (kids b h))
  long_layer (stm.Break n) h = break_rel setting frame Long q n keeps
  long_layer (stm.Back n) h = back_rel setting frame Long q n keeps
  long_layer (stm.Call r f args) h = call_rel setting frame Long q r r f f args args (callee_in f) (many_in args) (puts r)
  long_layer (stm.Known r k args) h = known_rel setting frame Long q r r k args args (many_in args) (puts r)
  long_layer (stm.Return v) h = return_rel setting frame Long q v v (same_in v)

  long : (s : Stm) → IsLong s
  long = stm_ind IsLong (λ x h. subst (λ f. MeaningRel Long q f f) (sym (meaning_roll setting frame x)) (long_layer x h))

  goes_long : (s : Stm) (bound : Bound) (st st' : State) → (m s bound st).outcome ≡ Next st' → temps ≤ length st.temps → temps ≤ length st'.temps
  goes_long s bound st st' e h =
      let r = long s bound st st (record { temps = record { same = refl; room = h }; arrays = refl; world = refl }) in
      (subst (λ o. OutcomeRel q o o) e r.outcome).temps.room

  -- ---- at the end of a body

  KeepsEnd : List Stm → List Stm → Type 0
  KeepsEnd xs ys = (bound : Bound) (st : State) → temps ≤ length st.temps → KeepsCall (call_from (code_meaning setting frame xs bound st)) (call_from (code_meaning setting frame ys bound st))

  same_call : (c : Call) → KeepsCall c c
  same_call c = record { same = refl; cheaper = omega arith }

  same : (xs : List Stm) → KeepsEnd xs xs
  unfolding KeepsEnd
  same xs bound st h = same_call _

  both : (xs ys zs : List Stm) → KeepsEnd xs ys → KeepsEnd ys zs → KeepsEnd xs zs
  unfolding KeepsEnd
  both xs ys zs h k bound st room =
      let a = h bound st room in
      let b = k bound st room in
      record { same = a.same ∙ b.same; cheaper = omega (arith, a.cheaper, b.cheaper) }

  goes_kept : (n : ℕ) (o : Outcome) (f g : State → Run) → ((st : State) → o ≡ Next st → KeepsCall (call_from (f st)) (call_from (g st))) → KeepsCall (call_from (spend n (goes_on o f))) (call_from (spend n (goes_on o g)))
  goes_kept n (Next st) f g h = let k = h st refl in record { same = k.same; cheaper = omega (arith, k.cheaper) }
  goes_kept n (Leaves k st) f g h = same_call _
  goes_kept n (Restarts k st) f g h = same_call _
  goes_kept n (Ends e) f g h = same_call _

  behind : (s : Stm) (xs ys : List Stm) → KeepsEnd xs ys → KeepsEnd (s ∷ xs) (s ∷ ys)
  unfolding KeepsEnd
  behind s xs ys h bound st room =
      goes_kept (m s bound st).cost (m s bound st).outcome (in_order (map m xs) bound) (in_order (map m ys) bound) (λ st' e. h bound st' (goes_long s bound st st' e room))

  leave : (n : ℕ) → KeepsEnd (roll-Stm (stm.Break n) ∷ []) []
  unfolding KeepsEnd
  leave n bound st room =
      subst (λ r. KeepsCall (call_from r) (call_from (in_order [] bound st))) (sym (one_meaning setting frame (stm.Break n) bound st)) (record { same = refl; cheaper = omega arith })

  unread : (t : ℕ) (v : Tree) → KeepsEnd (set t v ∷ []) []
  unfolding KeepsEnd
  unread t v bound st room =
      subst (λ r. KeepsCall (call_from r) (call_from (in_order [] bound st))) (sym (one_meaning setting frame (stm.Set t v) bound st)) (record { same = refl; cheaper = omega arith })

  -- a set and another statement, one after the other
  two : (t : ℕ) (v : Tree) (y : Stm-F Stm) (bound : Bound) (st : State) →
      code_meaning setting frame (set t v ∷ roll-Stm y ∷ []) bound st ≡ spend (8 + 3 * nodes v) (layer_means setting frame y bound (record st { temps = slice_set st.temps t (value setting.numbers frame.bound v st.temps st.world.globals) }))
  two t v y bound st =
      ap (λ (f : Meaning). spend (f bound st).cost (goes_on (f bound st).outcome (in_order (m (roll-Stm y) ∷ []) bound))) (meaning_roll setting frame (stm.Set t v)) ∙
      ap (spend (8 + 3 * nodes v)) (one_meaning setting frame y bound (record st { temps = slice_set st.temps t (value setting.numbers frame.bound v st.temps st.world.globals) }))

  -- what was put into a temporary stands there
  read_back : (t n : ℕ) (xs : List ℕ) (globals : List (List ℕ)) → t < temps → temps ≤ length xs → value setting.numbers frame.bound (temp t) (slice_set xs t n) globals ≡ n
  read_back t n xs globals lt room =
      ap (λ f. f (slice_set xs t n) globals) (value_roll setting.numbers frame.bound (tree.Temp t)) ∙ get_or-set_same xs t n 0 (omega (arith, lt, room))

  stored : (t g : ℕ) (v : Tree) → t < temps → KeepsEnd (set t v ∷ set_global g (temp t) ∷ []) (set_global g v ∷ [])
  unfolding KeepsEnd
  stored t g v lt bound st room =
      let n = value setting.numbers frame.bound v st.temps st.world.globals in
      subst (λ r. KeepsCall (call_from r) (call_from (code_meaning setting frame (set_global g v ∷ []) bound st))) (sym (two t v (stm.SetGlobal g (temp t)) bound st))
      (subst (λ r. KeepsCall (call_from (spend (8 + 3 * nodes v) (layer_means setting frame (stm.SetGlobal g (temp t)) bound (record st { temps = slice_set st.temps t n })))) (call_from r))
      (sym (one_meaning setting frame (stm.SetGlobal g v) bound st))
      (record {
        same = ap (λ k. Returned None (with_global st.world g (slice_set (slice_index_or st.world.globals g []) 0 k))) (read_back t n st.temps st.world.globals lt room);
        cheaper = omega arith;
      }))

  returned : (t : ℕ) (v : Tree) → t < temps → KeepsEnd (set t v ∷ return_with (temp t) ∷ []) (return_with v ∷ [])
  unfolding KeepsEnd
  returned t v lt bound st room =
      let n = value setting.numbers frame.bound v st.temps st.world.globals in
      subst (λ r. KeepsCall (call_from r) (call_from (code_meaning setting frame (return_with v ∷ []) bound st))) (sym (two t v (stm.Return (temp t)) bound st))
      (subst (λ r. KeepsCall (call_from (spend (8 + 3 * nodes v) (layer_means setting frame (stm.Return (temp t)) bound (record st { temps = slice_set st.temps t n })))) (call_from r))
      (sym (one_meaning setting frame (stm.Return v) bound st))
      (record { same = ap (λ k. Returned (Some k) st.world) (read_back t n st.temps st.world.globals lt room); cheaper = omega arith }))

  end_kept : (code : List Stm) (bound : Bound) (st : State) → temps ≤ length st.temps →
      KeepsCall (call_from (code_meaning setting frame code bound st)) (call_from (code_meaning setting frame (shortened temps code) bound st))
  unfolding KeepsEnd
  end_kept = shortened_is temps KeepsEnd (record { same = same; both = both; behind = behind; leave = leave; unread = unread; stored = stored; returned = returned })

-- ---- bodies

pub short_keeps : (b : Body) → KeepsBody b (record b { code = shortened b.temps b.code })
short_keeps b setting frame contents args bound w = end_kept b.temps setting frame b.code bound (entry_state contents b args w) (temps_enough contents.temps b.temps args)
