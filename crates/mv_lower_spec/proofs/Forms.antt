-- Each form of expression: if its parts are lowered correctly, so is the whole.
use Rattle.std.proofs.Common.{◌≡◌, ℕ, zero, suc, ◌+◌, ◌*◌, ◌<◌, ◌≤◌, Bool, true, false, cond, eqb, List, [], ◌∷◌, ◌++◌, length, Option, Some, None, refl, sym, ◌∙◌, subst, ap, arith, append-nil, ◌⊎◌, inl, inr}
use Rattle.std.specs.Prelude.{slice_index, slice_set, slice_index_or, slice_get, unwrap_or}
use Rattle.std.proofs.lemmas.List.{get_or-set_same, get_or-set_other, length-set}
use Rattle.std.proofs.lemmas.Option.{unwrap_or-slice_get}
use Rattle.std.proofs.lemmas.Bool.{cases_eq}
use Rattle.mv_ir.specs.declared.tree.Tree.{Tree}
use Rattle.mv_ast.specs.Counts.{words_of_size}
use Rattle.mv_ast.specs.Switches.{word_at, with_word, words_or_none, global_read, bound_value}
use Rattle.mv_bindings.specs.declared.stop.Stop.TheVariants.{Trapped}
use Rattle.mv_ast.specs.Worlds.{World, bind, give}
use Rattle.mv_meaning.specs.declared.state.Frame.{Frame}
use Rattle.mv_meaning.specs.declared.state.Lvalue.TheVariants as lvalue
use Rattle.mv_meaning.specs.Meaning.{Evaluation, read_lvalue, store_lvalue, value_or_trap}
use Rattle.mv_ir.specs.World as code_world
use Rattle.mv_ir.specs.Outcome.{State, Next, Ends, Bound}
use Rattle.mv_ir.specs.Trees.{nodes, read_as, found}
use Rattle.mv_ir.specs.Trees as ir_tree
use Rattle.mv_ir.specs.Meaning.{with_temp, with_world, with_global, traps}
use Rattle.mv_ir.specs.KnownFunctions.{seen}
use Rattle.mv_lower_spec.specs.Lowered as lowered
use Rattle.mv_lower_spec.specs.Lowered.{Lowering, number, temp, global, set, set_global, divide, is_low, kept_if, first, second, lower_number, lower_local, lower_global, lower_function, lower_one, lower_two, lower_division, lower_set_local, lower_set_global}
use Rattle.mv_lower_spec.specs.Correct as c
use Rattle.mv_lower_spec.specs.Correct.{Scene, val, Shows, Shown, CorrectFor, IsScalar}
use Rattle.mv_lower_spec.proofs.Running as run
use Rattle.mv_lower_spec.proofs.Running.{nodes_number, nodes_temp, nodes_global, nodes_function}
use Rattle.mv_lower_spec.proofs.Showing as show
use Rattle.mv_ast.proofs.Common.{objects_at}

-- ---- words of objects, read in both ways

pub word_is : (xs : List (List ℕ)) (g i : ℕ) → word_at xs g i ≡ slice_index (slice_index_or xs g []) i
word_is xs g i = unwrap_or-slice_get (words_or_none (slice_get xs g)) i 0 ∙ ap (λ l. slice_index l i) (objects_at xs g)

pub with_word_is : (xs : List (List ℕ)) (g i v : ℕ) → with_word xs g i v ≡ slice_set xs g (slice_set (slice_index_or xs g []) i v)
with_word_is xs g i v = ap (λ l. slice_set xs g (slice_set l i v)) (objects_at xs g)

-- ---- a word that is stored

pub with_word_same : (xs : List (List ℕ)) (g i v : ℕ) → g < length xs → slice_index_or (with_word xs g i v) g [] ≡ slice_set (slice_index_or xs g []) i v
with_word_same xs g i v lt = ap (λ (ys : List (List ℕ)). slice_index_or ys g []) (with_word_is xs g i v) ∙ get_or-set_same xs g (slice_set (slice_index_or xs g []) i v) [] lt

pub with_word_other : (xs : List (List ℕ)) (g i v k : ℕ) → (k ≡ g → ⊥) → slice_index_or (with_word xs g i v) k [] ≡ slice_index_or xs k []
with_word_other xs g i v k ne = ap (λ (ys : List (List ℕ)). slice_index_or ys k []) (with_word_is xs g i v) ∙ get_or-set_other xs g k (slice_set (slice_index_or xs g []) i v) [] ne

pub other_word : (xs : List (List ℕ)) (g i v k j : ℕ) → (k ≡ g → ⊥) → word_at (with_word xs g i v) k j ≡ word_at xs k j
other_word xs g i v k j ne = word_is (with_word xs g i v) k j ∙ ap (λ l. slice_index l j) (with_word_other xs g i v k ne) ∙ sym (word_is xs k j)

pub with_word_count : (xs : List (List ℕ)) (g i v : ℕ) → length (with_word xs g i v) ≡ length xs
with_word_count xs g i v = length-set xs g (slice_set (words_or_none (slice_get xs g)) i v)

stored_lengths : (xs : List (List ℕ)) (l k i v : ℕ) → length (slice_index_or (slice_set xs l (slice_set (slice_index_or xs l []) i v)) k []) ≡ length (slice_index_or xs k [])
stored_lengths [] l k i v = refl
stored_lengths (x ∷ xs) zero zero i v = length-set x i v
stored_lengths (x ∷ xs) zero (suc k) i v = refl
stored_lengths (x ∷ xs) (suc l) zero i v = refl
stored_lengths (x ∷ xs) (suc l) (suc k) i v = stored_lengths xs l k i v

pub with_word_lengths : (xs : List (List ℕ)) (g i v k : ℕ) → length (slice_index_or (with_word xs g i v) k []) ≡ length (slice_index_or xs k [])
with_word_lengths xs g i v k = ap (λ (ys : List (List ℕ)). length (slice_index_or ys k [])) (with_word_is xs g i v) ∙ stored_lengths xs g k i v

-- a scalar that is stored on both sides
pub stored_alike : (xs : List (List ℕ)) (ts : List ℕ) (l v x k : ℕ) → l < length xs → 0 < length (slice_index_or xs l []) → l < length ts → x ≡ v → ((k ≡ l → ⊥) → slice_index ts k ≡ word_at xs k 0) →
    slice_index (slice_set ts l x) k ≡ word_at (with_word xs l 0 v) k 0
stored_alike xs ts l v x k here long there e h = by (cases_eq k l)
  where
    by : (k ≡ l) ⊎ (k ≡ l → ⊥) → slice_index (slice_set ts l x) k ≡ word_at (with_word xs l 0 v) k 0
    by (inl eq) =
        subst (λ j. slice_index (slice_set ts l x) j ≡ word_at (with_word xs l 0 v) j 0) (sym eq)
        (get_or-set_same ts l x 0 there ∙ e ∙
        sym (word_is (with_word xs l 0 v) l 0 ∙ ap (λ ys. slice_index ys 0) (with_word_same xs l 0 v here) ∙ get_or-set_same (slice_index_or xs l []) 0 v 0 long))
    by (inr ne) = get_or-set_other ts l k x 0 ne ∙ h ne ∙ sym (other_word xs l 0 v k 0 ne)

pub held_is_none : {x : List ℕ × List ℕ} → None ≡ Some x → ⊥
held_is_none e = subst Is e tt
  where
    Is : Option (List ℕ × List ℕ) → Type 0
    Is None = Unit {0}
    Is (Some x) = ⊥

read_is : (o : Option ℕ) (m : ℕ) → read_as o m ≡ unwrap_or o m
read_is None m = refl
read_is (Some v) m = refl

module _ (scene : Scene) where
  -- a global's value is what the frame reads it as
  pub global_value : (g : ℕ) (f : Frame) (w : World) (s : State) → Shows scene f w s → val scene (global g) s ≡ global_read scene.p w f.function g 0
  global_value g f w s h =
      run.val_global scene g s ∙
      ap (λ (x : code_world.World). read_as (found scene.frame.bound g) (ir_tree.scalar x.globals g)) h.world ∙
      ap (λ m. read_as (found scene.frame.bound g) m) (sym (word_is w.globals g 0)) ∙
      ap (λ o. read_as o (word_at w.globals g 0)) (h.switches g) ∙
      read_is (bound_value scene.p w.bindings scene.own (slice_get scene.p.functions scene.own) g) (word_at w.globals g 0) ∙
      ap (λ k. global_read scene.p w k g 0) (sym h.function)

  pub shows_local : (l v x : ℕ) (f : Frame) (w : World) (s : State) → l < scene.locals → scene.locals ≤ scene.room →
      IsScalar scene.sizes scene.held l → x ≡ v → Shows scene f w s → Shows scene (record f { locals = with_word f.locals l 0 v }) w (with_temp s l x)
  shows_local l v x f w s lt le sc e h = record {
    around = h.around;
    in_arrays = record {
      elements = λ k lk array. h.elements k lk array ∙ sym (with_word_other f.locals l 0 v k (λ eq. array.0 (ap scene.sizes eq ∙ sc.0)));
      untouched = λ k both e. (with_word_other f.locals l 0 v k (λ eq. held_is_none (sym sc.1 ∙ ap scene.held (sym eq) ∙ e)) ∙ (h.untouched k both e).0, (h.untouched k both e).1);
      words = λ k lk. with_word_lengths f.locals l 0 v k ∙ h.words k lk;
      size = with_word_count f.locals l 0 v ∙ h.size;
      arrays = h.arrays;
    };
    in_temps = record {
      above = h.above;
      below = λ j low high. get_or-set_other s.temps l j x 0 (λ eq. absurd (omega (arith, low, lt, eq))) ∙ h.below j low high;
      temps = length-set s.temps l x ∙ h.temps;
    };
    each = λ k lk skalar. stored_alike f.locals s.temps l v x k (omega (arith, lt, h.size)) (subst (λ n. 0 < n) (sym (h.words l lt ∙ ap words_of_size sc.0)) (omega arith)) (omega (arith, lt, le, h.temps)) e (λ ne. h.each k lk skalar);
  }

  -- an object of the world with one word changed
  pub shows_global : (g i v x : ℕ) (f : Frame) (w : World) (s : State) → x ≡ v → Shows scene f w s →
      Shows scene f (record w { globals = with_word w.globals g i v }) (with_world s (with_global s.world g (slice_set (slice_index_or s.world.globals g []) i x)))
  shows_global g i v x f w s e h = record {
    around = record {
      world =
          ap (λ (o : code_world.World). with_global o g (slice_set (slice_index_or o.globals g []) i x)) h.world ∙
          ap (λ k. with_global (seen w) g (slice_set (slice_index_or w.globals g []) i k)) e ∙
          ap (λ (l : List (List ℕ)). with_globals l) (sym (with_word_is w.globals g i v));
      depth = h.depth;
      live = h.live;
      pinned = h.pinned;
      function = h.function;
      switches = h.switches;
      globals = λ k. with_word_lengths w.globals g i v k ∙ h.globals k;
    };
    in_arrays = h.in_arrays;
    in_temps = h.in_temps;
    each = h.each;
  }
    where
      with_globals : List (List ℕ) → code_world.World
      with_globals l = let o : code_world.World = seen w in record o { globals = l }

module _ (scene : Scene) (bound : Bound) where
  -- ---- without parts

  pub correct_number : (v : ℕ) → CorrectFor scene bound 14 (give v) (lower_number v)
  correct_number v n f w s le fits h =
      show.done scene bound 11 14 n s (number v) v f w h (run.val_number scene v s) (omega (arith, nodes_number v))

  pub correct_function : (g : ℕ) → CorrectFor scene bound 14 (give (slice_index scene.setting.numbers g)) (lower_function g)
  correct_function g n f w s le fits h =
      show.done scene bound 11 14 n s (lowered.function g) (slice_index scene.setting.numbers g) f w h (run.val_function scene g s) (omega (arith, nodes_function g))

  pub correct_local : (l : ℕ) → l < scene.locals → IsScalar scene.sizes scene.held l → CorrectFor scene bound 14 (read_lvalue scene.p (lvalue.Local l 0)) (lower_local l)
  correct_local l lt sc n f w s le fits h =
      show.done scene bound 11 14 n s (temp l) (word_at f.locals l 0) f w h (run.val_temp scene l s ∙ h.each l lt sc) (omega (arith, nodes_temp l))

  pub correct_global : (g : ℕ) → CorrectFor scene bound 14 (read_lvalue scene.p (lvalue.Global g 0)) (lower_global g)
  correct_global g n f w s le fits h =
      show.done scene bound 11 14 n s (global g) (global_read scene.p w f.function g 0) f w h (global_value scene g f w s h) (omega (arith, nodes_global g))

  -- ---- operators

  pub correct_one : (total k extra : ℕ) (t : Tree → Tree) (op : ℕ → ℕ) (ma : Evaluation ℕ) (la : Lowering) → k + (3 * extra + 11) ≤ total →
      ((a : Tree) (s : State) → val scene (t a) s ≡ op (val scene a s)) → ((a : Tree) → nodes (t a) ≤ nodes a + extra) →
      CorrectFor scene bound k ma la → CorrectFor scene bound total (bind ma (λ v. give (op v))) (lower_one t la)
  correct_one total k extra t op ma la enough same size ca n f w s le fits h =
      let keep = is_low (la n).tree in
      let x = kept_if keep n (la n) in
      show.without_nil scene bound 11 total n s x.code (t x.tree) (bind ma (λ v. give (op v)) f w)
      (show.follow scene bound 11 total (3 * extra + 11) 0 k n n s x.code [] (t x.tree) x.tree (ma f w) (λ v. give (op v)) (omega arith) enough
      (show.kept_shown scene bound k keep n s (la n) (ma f w) le fits (ca n f w s le (show.kept_top scene keep n (la n) fits) h))
      (λ v f1 w1 work r.
      show.done scene bound 11 (3 * extra + 11 + (3 * nodes x.tree + 0)) n r.state (t x.tree) (op v) f1 w1 r.shows (same x.tree r.state ∙ ap op r.value) (omega (arith, size x.tree))))

  pub correct_two : (total ka kb extra : ℕ) (t : Tree → Tree → Tree) (op : ℕ → ℕ → Option ℕ) (value : ℕ → ℕ → ℕ) (ma mb : Evaluation ℕ) (la lb : Lowering) → ka + (kb + (3 * extra + 11)) ≤ total →
      ((x y : ℕ) → op x y ≡ Some (value x y)) →
      ((a b : Tree) (s : State) → val scene (t a b) s ≡ value (val scene a s) (val scene b s)) → ((a b : Tree) → nodes (t a b) ≤ nodes a + nodes b + extra) →
      CorrectFor scene bound ka ma la → CorrectFor scene bound kb mb lb → CorrectFor scene bound total (bind ma (λ x. bind mb (λ y. value_or_trap (op x y)))) (lower_two t la lb)
  correct_two total ka kb extra t op value ma mb la lb enough all same size ca cb n f w s le fits h =
      let x = first la lb n in
      let y = second lb n in
      let next : ℕ → ℕ → Evaluation ℕ = λ a b. value_or_trap (op a b) in
      let credit = 3 * extra + 11 + (3 * nodes x.tree + 3 * nodes y.tree) in
      subst (λ l. Shown scene bound 11 total n s (x.code ++ l) (t x.tree y.tree) (bind ma (λ a. bind mb (next a)) f w)) (append-nil y.code)
      (show.two scene bound 11 total (3 * extra + 11) ka kb n f w s ma mb la lb [] (t x.tree y.tree) next enough le fits h ca cb
      (λ a b f2 w2 s2 h2 ea eb.
      subst (λ o. Shown scene bound 11 credit n s2 [] (t x.tree y.tree) (value_or_trap o f2 w2)) (sym (all a b))
      (show.done scene bound 11 credit n s2 (t x.tree y.tree) (value a b) f2 w2 h2
      (same x.tree y.tree s2 ∙ ap (λ k. value k (val scene y.tree s2)) ea ∙ ap (λ k. value a k) eb) (omega (arith, size x.tree y.tree)))))

  -- ---- division

  divided : (n o a b : ℕ) (x y : Tree) (f : Frame) (w : World) (s : State) (z : Bool) → scene.floor ≤ n → n < scene.room → Shows scene f w s → val scene x s ≡ a → val scene y s ≡ b → eqb b 0 ≡ z →
      Shown scene bound 11 (22 + (3 * nodes x + 3 * nodes y)) n s (divide n o x y ∷ []) (temp n) (value_or_trap (cond z None (Some (ir_tree.divide o a b))) f w)
  divided n o a b x y f w s true le lt h ea eb e = record {
    cost = 8 + 3 * (nodes x + nodes y);
    runs = λ ne.
        run.runs_divide scene bound n o x y s ∙
        ap (λ q. c.ran (8 + 3 * (nodes x + nodes y)) (cond q (traps 1 s) (Next (with_temp s n (ir_tree.divide o (val scene x s) (val scene y s)))))) (ap (λ k. eqb k 0) eb ∙ e) ∙
        ap (λ q. c.ran (8 + 3 * (nodes x + nodes y)) (Ends (c.end_of (Trapped 1) q))) h.world;
    paid = omega arith;
  }
  divided n o a b x y f w s false le lt h ea eb e =
      let v = ir_tree.divide o (val scene x s) (val scene y s) in
      record {
        state = with_temp s n v;
        cost = 8 + 3 * (nodes x + nodes y);
        runs =
            run.runs_divide scene bound n o x y s ∙
            ap (λ q. c.ran (8 + 3 * (nodes x + nodes y)) (cond q (traps 1 s) (Next (with_temp s n v)))) (ap (λ k. eqb k 0) eb ∙ e);
        shows = show.shows_temp scene f w s n v le h;
        value =
            run.val_temp scene n (with_temp s n v) ∙ get_or-set_same s.temps n v 0 (subst (λ k. n < k) (sym h.temps) lt) ∙
            ap (λ k. ir_tree.divide o k (val scene y s)) ea ∙ ap (λ k. ir_tree.divide o a k) eb;
        kept = show.kept_temp scene n s v;
        paid = omega (arith, nodes_temp n);
      }

  -- either operand is divided by the other
  turned_either_way : (turned : Bool) (n o a b : ℕ) (x y : Tree) (f : Frame) (w : World) (s : State) (op : ℕ → ℕ → Option ℕ) → ((x y : ℕ) → op x y ≡ cond (eqb y 0) None (Some (ir_tree.divide o x y))) →
      scene.floor ≤ n → n < scene.room → Shows scene f w s → val scene x s ≡ a → val scene y s ≡ b →
      Shown scene bound 11 (22 + (3 * nodes x + 3 * nodes y)) n s (divide n o (cond turned y x) (cond turned x y) ∷ []) (temp n) (value_or_trap (cond turned (op b a) (op a b)) f w)
  turned_either_way true n o a b x y f w s op is le lt h ea eb =
      subst (λ q. Shown scene bound 11 (22 + (3 * nodes x + 3 * nodes y)) n s (divide n o y x ∷ []) (temp n) (value_or_trap q f w)) (sym (is b a))
      (show.more_credit scene bound 11 11 (22 + (3 * nodes y + 3 * nodes x)) (22 + (3 * nodes x + 3 * nodes y)) n n s (divide n o y x ∷ []) (temp n)
      (value_or_trap (cond (eqb a 0) None (Some (ir_tree.divide o b a))) f w) (omega arith) (omega arith) (omega arith)
      (divided n o b a y x f w s (eqb a 0) le lt h eb ea refl))
  turned_either_way false n o a b x y f w s op is le lt h ea eb =
      subst (λ q. Shown scene bound 11 (22 + (3 * nodes x + 3 * nodes y)) n s (divide n o x y ∷ []) (temp n) (value_or_trap q f w)) (sym (is a b))
      (divided n o a b x y f w s (eqb b 0) le lt h ea eb refl)

  pub correct_division : (total ka kb : ℕ) (turned : Bool) (o : ℕ) (op : ℕ → ℕ → Option ℕ) (ma mb : Evaluation ℕ) (la lb : Lowering) → ka + (kb + 22) ≤ total →
      ((x y : ℕ) → op x y ≡ cond (eqb y 0) None (Some (ir_tree.divide o x y))) →
      CorrectFor scene bound ka ma la → CorrectFor scene bound kb mb lb → CorrectFor scene bound total (bind ma (λ x. bind mb (λ y. value_or_trap (cond turned (op y x) (op x y))))) (lower_division turned o la lb)
  correct_division total ka kb turned o op ma mb la lb enough is ca cb n f w s le fits h =
      let x = first la lb n in
      let y = second lb n in
      let next : ℕ → ℕ → Evaluation ℕ = λ a b. value_or_trap (cond turned (op b a) (op a b)) in
      show.two scene bound 11 total 22 ka kb n f w s ma mb la lb (divide n o (cond turned y.tree x.tree) (cond turned x.tree y.tree) ∷ []) (temp n) next enough le (omega (arith, fits)) h ca cb
      (λ a b f2 w2 s2 h2 ea eb.
      turned_either_way turned n o a b x.tree y.tree f2 w2 s2 op is le (omega (arith, fits)) h2 ea eb)

  -- ---- assignments to scalars

  pub correct_set_local : (k l : ℕ) (ma : Evaluation ℕ) (la : Lowering) → l < scene.locals → scene.locals ≤ scene.room → IsScalar scene.sizes scene.held l → CorrectFor scene bound k ma la →
      CorrectFor scene bound (k + 11) (bind ma (store_lvalue (lvalue.Local l 0))) (lower_set_local l la)
  correct_set_local k l ma la lt room sc ca n f w s le fits h =
      let a = la n in
      show.follow scene bound 11 (k + 11) 11 11 k n n s a.code (set l a.tree ∷ []) (temp l) a.tree (ma f w) (store_lvalue (lvalue.Local l 0)) (omega arith) (omega arith)
      (ca n f w s le fits h)
      (λ v f1 w1 work r.
      let x = val scene a.tree r.state in
      record {
        state = with_temp r.state l x;
        cost = 8 + 3 * nodes a.tree;
        runs = run.runs_set scene bound l a.tree r.state;
        shows = shows_local scene l v x f1 w1 r.state lt room sc r.value r.shows;
        value = run.val_temp scene l (with_temp r.state l x) ∙ get_or-set_same r.state.temps l x 0 (subst (λ j. l < j) (sym r.shows.temps) (omega (arith, lt, room))) ∙ r.value;
        kept = λ j lk kn. get_or-set_other r.state.temps l j x 0 (λ e. absurd (omega (arith, lk, lt, e, r.shows.above)));
        paid = omega (arith, nodes_temp l);
      })

  pub correct_set_global : (k g : ℕ) (ma : Evaluation ℕ) (la : Lowering) → CorrectFor scene bound k ma la →
      CorrectFor scene bound (k + 22) (bind ma (store_lvalue (lvalue.Global g 0))) (lower_set_global g la)
  correct_set_global k g ma la ca n f w s le fits h =
      let a = kept_if false n (la n) in
      show.follow scene bound 11 (k + 22) 22 0 k n n s a.code (set_global g a.tree ∷ []) a.tree a.tree (ma f w) (store_lvalue (lvalue.Global g 0)) (omega arith) (omega arith)
      (show.kept_shown scene bound k false n s (la n) (ma f w) le fits (ca n f w s le (show.kept_top scene false n (la n) fits) h))
      (λ v f1 w1 work r.
      let x = val scene a.tree r.state in
      let s1 = with_world r.state (with_global r.state.world g (slice_set (slice_index_or r.state.world.globals g []) 0 x)) in
      record {
        state = s1;
        cost = 8 + 3 * nodes a.tree;
        runs = run.runs_set_global scene bound g a.tree r.state;
        shows = shows_global scene g 0 v x f1 w1 r.state r.value r.shows;
        value = run.val_temp scene n s1 ∙ sym (run.val_temp scene n r.state) ∙ r.value;
        kept = λ j lk kn. refl;
        paid = omega (arith, nodes_temp n);
      })
