-- Elements of arrays: reads, stores and changes.
use Rattle.std.proofs.Common.{◌≡◌, ℕ, ◌+◌, ◌*◌, ◌<◌, ◌≤◌, Bool, true, false, cond, ltb, List, [], ◌∷◌, ◌++◌, length, None, refl, sym, ◌∙◌, subst, ap, arith, ◌⊎◌, inl, inr}
use Rattle.std.specs.Prelude.{slice_index, slice_set, slice_index_or, slice_get, unwrap_or}
use Rattle.std.proofs.lemmas.List.{get_or-set_same, get_or-set_other, length-set}
use Rattle.std.proofs.lemmas.Bool.{cases_eq, lt-ltb, ltb-true}
use Rattle.mv_num.specs.Words.{add, sub}
use Rattle.mv_ir.specs.declared.tree.Tree.{Tree}
use Rattle.mv_ir.specs.declared.stm.Stm.{Stm}
use Rattle.mv_ir.specs.declared.stm.Array.{Array}
use Rattle.mv_ir.specs.declared.stm.Array.TheVariants as array
use Rattle.mv_ast.specs.declared.program.CType.{CType}
use Rattle.mv_bindings.specs.declared.binding.Binding.{Binding}
use Rattle.mv_bindings.specs.declared.stop.Stop.TheVariants.{Trapped}
use Rattle.mv_ast.specs.Counts.{words_of_size}
use Rattle.mv_ast.specs.Switches.{word_at, with_word, bound_value}
use Rattle.mv_ast.specs.Worlds.{World, Outcome, Came, Stopped, and_then, bind, give, stop}
use Rattle.mv_meaning.specs.declared.state.Frame.{Frame}
use Rattle.mv_meaning.specs.declared.state.Lvalue.{Lvalue}
use Rattle.mv_meaning.specs.declared.state.Lvalue.TheVariants as lvalue
use Rattle.mv_ast.specs.Operators.{converted}
use Rattle.mv_meaning.specs.Meaning.{Evaluation, value_in, read_lvalue, store_lvalue, element_below, global_element, local_element}
use Rattle.mv_ir.specs.KnownFunctions.{seen}
use Rattle.mv_ir.specs.World as code_world
use Rattle.mv_ir.specs.Outcome.{State, Next, Ends, Bound}
use Rattle.mv_ir.specs.Trees.{nodes}
use Rattle.mv_ir.specs.Meaning.{elements, with_temp, with_world, with_global, with_elements, outside}
use Rattle.mv_lower_spec.specs.Lowered.{Lowering, number, temp, binary, set, set_global, global, check, read, write, lower_element, lower_read_element, lower_set_element}
use Rattle.mv_lower_spec.specs.Lower.{InLocal, InGlobal, Element, next_tree, lower_after}
use Rattle.mv_source_forms.specs.Names.{global_words}
use Rattle.mv_lower_spec.specs.Correct as c
use Rattle.mv_lower_spec.specs.Correct.{Ground, Scene, Held, scene_of, val, Shows, Runs, Shown, CorrectFor, IsScalar, IsArrayLocal}
use Rattle.mv_lower_spec.proofs.Running as run
use Rattle.mv_lower_spec.proofs.Running.{nodes_number, nodes_temp, nodes_global, nodes_binary}
use Rattle.mv_lower_spec.proofs.Showing as show
use Rattle.mv_lower_spec.proofs.Operators as operators
use Rattle.mv_lower_spec.proofs.Operators.{converted_nodes}
use Rattle.mv_lower_spec.proofs.Control as control
use Rattle.mv_meaning.proofs.Sequences as sequences
use Rattle.mv_lower_spec.proofs.Forms as forms
use Rattle.mv_lower_spec.proofs.Forms.{word_is, with_word_same, with_word_other, other_word, with_word_count, with_word_lengths, held_is_none}
use Rattle.mv_ast.proofs.Common.{objects_at}

abbrev pub lvalue_in : Array → ℕ → Lvalue
lvalue_in (array.Global g) i = lvalue.Global g i
lvalue_in (array.Local l) i = lvalue.Local l i
lvalue_in (array.SureGlobal g n) i = lvalue.Global g i
lvalue_in (array.SureLocal l n) i = lvalue.Local l i

abbrev pub element_of : Array → ℕ → Evaluation Lvalue
element_of (array.Global g) = global_element g
element_of (array.Local l) = local_element l
element_of (array.SureGlobal g n) = global_element g
element_of (array.SureLocal l n) = local_element l

abbrev words_in : Array → Frame → World → List ℕ
words_in (array.Global g) f w = slice_index_or w.globals g []
words_in (array.Local l) f w = slice_index_or f.locals l []
words_in (array.SureGlobal g n) f w = slice_index_or w.globals g []
words_in (array.SureLocal l n) f w = slice_index_or f.locals l []

-- the old value goes up or down by one
abbrev pub next_value : Bool → CType → ℕ → ℕ
next_value up t old = converted t (cond up (add old 1) (sub old 1))

module _ (ground : Ground) (held : Held) where
  -- a global that isn't read as a switch in this frame, or a local that is an array; no index is promised to be below a number
  abbrev pub IsArray : Array → Type 0
  IsArray (array.Global g) = (bs : List Binding) → bound_value ground.p bs ground.own (slice_get ground.p.functions ground.own) g ≡ None
  IsArray (array.Local l) = (l < ground.locals) × IsArrayLocal ground.sizes held l
  IsArray (array.SureGlobal g n) = ⊥
  IsArray (array.SureLocal l n) = ⊥

  abbrev pub size_in : Array → ℕ
  size_in (array.Global g) = global_words ground.p g
  size_in (array.Local l) = words_of_size (ground.sizes l)
  size_in (array.SureGlobal g n) = global_words ground.p g
  size_in (array.SureLocal l n) = words_of_size (ground.sizes l)

module _ (scene : Scene) where
  -- ---- the words of an array

  pub elements_are : (a : Array) (f : Frame) (w : World) (s : State) → IsArray scene.ground scene.held a → Shows scene f w s → elements a s ≡ words_in a f w
  elements_are (array.Global g) f w s isa h = ap (λ (x : code_world.World). slice_index_or x.globals g []) h.world
  elements_are (array.Local l) f w s isa h = h.elements l isa.0 isa.1
  elements_are (array.SureGlobal g n) f w s isa h = absurd isa
  elements_are (array.SureLocal l n) f w s isa h = absurd isa

  -- how code ends with an index that isn't below the length
  outside_is : (a : Array) (k : ℕ) (f : Frame) (w : World) (s : State) → IsArray scene.ground scene.held a → Shows scene f w s → outside a k s.world ≡ c.end_of (Trapped 2) (seen w)
  outside_is (array.Global g) k f w s isa h = ap (c.end_of (Trapped 2)) h.world
  outside_is (array.Local l) k f w s isa h = ap (c.end_of (Trapped 2)) h.world
  outside_is (array.SureGlobal g n) k f w s isa h = absurd isa
  outside_is (array.SureLocal l n) k f w s isa h = absurd isa

  words_long : (a : Array) (f : Frame) (w : World) (s : State) → IsArray scene.ground scene.held a → Shows scene f w s → length (words_in a f w) ≡ size_in scene.ground scene.held a
  words_long (array.Global g) f w s isa h = h.globals g
  words_long (array.Local l) f w s isa h = h.words l isa.0
  words_long (array.SureGlobal g n) f w s isa h = absurd isa
  words_long (array.SureLocal l n) f w s isa h = absurd isa

  value_is : (a : Array) (i : ℕ) (f : Frame) (w : World) (s : State) → IsArray scene.ground scene.held a → Shows scene f w s → value_in scene.p (lvalue_in a i) f w ≡ slice_index (words_in a f w) i
  value_is (array.Global g) i f w s isa h =
      ap (λ k. unwrap_or (bound_value scene.p w.bindings k (slice_get scene.p.functions k) g) (word_at w.globals g i)) h.function ∙
      ap (λ o. unwrap_or o (word_at w.globals g i)) (isa w.bindings) ∙ word_is w.globals g i
  value_is (array.Local l) i f w s isa h = word_is f.locals l i
  value_is (array.SureGlobal g n) i f w s isa h = absurd isa
  value_is (array.SureLocal l n) i f w s isa h = absurd isa

  pub element_is : (a : Array) (i : ℕ) (f : Frame) (w : World) (s : State) → IsArray scene.ground scene.held a → Shows scene f w s →
      element_of a i f w ≡ cond (ltb i (size_in scene.ground scene.held a)) (give (lvalue_in a i)) (stop (Trapped 2)) f w
  element_is (array.Global g) i f w s isa h =
      ap (λ n. element_below n i (lvalue.Global g) f w) (ap length (objects_at w.globals g) ∙ h.globals g)
  element_is (array.Local l) i f w s isa h =
      ap (λ n. element_below n i (lvalue.Local l) f w) (ap length (objects_at f.locals l) ∙ h.words l isa.0)
  element_is (array.SureGlobal g n) i f w s isa h = absurd isa
  element_is (array.SureLocal l n) i f w s isa h = absurd isa

  -- the test of an index, as the code makes it
  test_is : (a : Array) (i : Tree) (k : ℕ) (f : Frame) (w : World) (s : State) (z : Bool) → IsArray scene.ground scene.held a → Shows scene f w s →
      val scene i s ≡ k → ltb k (size_in scene.ground scene.held a) ≡ z → ltb (val scene i s) (length (elements a s)) ≡ z
  test_is a i k f w s z isa h ek e =
      ap (λ j. ltb j (length (elements a s))) ek ∙ ap (λ xs. ltb k (length xs)) (elements_are a f w s isa h) ∙ ap (λ n. ltb k n) (words_long a f w s isa h) ∙ e

  pub shows_array : (l i v : ℕ) (f : Frame) (w : World) (s : State) → IsArray scene.ground scene.held (array.Local l) → Shows scene f w s →
      Shows scene (record f { locals = with_word f.locals l i v }) w (with_elements (array.Local l) s (slice_set (elements (array.Local l) s) i v))
  shows_array l i v f w s isa h = record {
    around = h.around;
    in_arrays = record {
      elements = λ k lk arr. by k lk arr (cases_eq k l);
      untouched = λ k both e. let ne : k ≡ l → ⊥ = λ eq. held_is_none (sym isa.1.1 ∙ ap scene.held (sym eq) ∙ e) in
          (with_word_other f.locals l i v k ne ∙ (h.untouched k both e).0, get_or-set_other s.arrays l k new [] ne ∙ (h.untouched k both e).1);
      words = λ k lk. with_word_lengths f.locals l i v k ∙ h.words k lk;
      size = with_word_count f.locals l i v ∙ h.size;
      arrays = length-set s.arrays l new ∙ h.arrays;
    };
    in_temps = h.in_temps;
    each = λ k lk skalar. h.each k lk skalar ∙ sym (other_word f.locals l i v k 0 (λ eq. isa.1.0 (ap scene.sizes (sym eq) ∙ skalar.0)));
  }
    where
      new : List ℕ
      new = slice_set (slice_index_or s.arrays l []) i v

      by : (k : ℕ) → k < scene.locals → IsArrayLocal scene.sizes scene.held k → (k ≡ l) ⊎ (k ≡ l → ⊥) → slice_index_or (slice_set s.arrays l new) k [] ≡ slice_index_or (with_word f.locals l i v) k []
      by k lk arr (inl eq) =
          subst (λ j. slice_index_or (slice_set s.arrays l new) j [] ≡ slice_index_or (with_word f.locals l i v) j []) (sym eq)
          (get_or-set_same s.arrays l new [] (subst (λ k. l < k) (sym h.arrays) isa.0) ∙ ap (λ xs. slice_set xs i v) (h.elements l isa.0 isa.1) ∙ sym (with_word_same f.locals l i v (subst (λ k. l < k) (sym h.size) isa.0)))
      by k lk arr (inr ne) = get_or-set_other s.arrays l k new [] ne ∙ h.elements k lk arr ∙ sym (with_word_other f.locals l i v k ne)

  raise_floor : (n : ℕ) (f : Frame) (w : World) (s : State) → scene.floor ≤ n → Shows scene f w s → Shows (scene_of scene.ground scene.held n (λ k. slice_index s.temps k)) f w s
  raise_floor n f w s le h = record {
    around = h.around;
    in_arrays = h.in_arrays;
    in_temps = record {
      above = omega (arith, h.above, le);
      below = λ k low high. refl;
      temps = h.temps;
    };
    each = h.each;
  }

module _ (scene : Scene) (bound : Bound) where
  -- ---- reads

  pub read_at : (credit n k : ℕ) (a : Array) (i : Tree) (f : Frame) (w : World) (s : State) (z : Bool) → 22 + 3 * nodes i ≤ credit →
      IsArray scene.ground scene.held a → scene.floor ≤ n → n < scene.room → Shows scene f w s → val scene i s ≡ k →
      ltb k (size_in scene.ground scene.held a) ≡ z →
      Shown scene bound 11 credit n s (read n a i ∷ []) (temp n) (bind (cond z (give (lvalue_in a k)) (stop (Trapped 2))) (read_lvalue scene.p) f w)
  read_at credit n k a i f w s true enough isa le lt h ek e =
      let x = slice_index (elements a s) (val scene i s) in
      record {
        state = with_temp s n x;
        cost = 8 + 3 * nodes i;
        runs = run.runs_read scene bound n a i s ∙ ap (λ q. c.ran (8 + 3 * nodes i) (cond q (Next (with_temp s n x)) (Ends (outside a (val scene i s) s.world)))) (test_is scene a i k f w s true isa h ek e);
        shows = show.shows_temp scene f w s n x le h;
        value =
            run.val_temp scene n (with_temp s n x) ∙ get_or-set_same s.temps n x 0 (subst (λ j. n < j) (sym h.temps) lt) ∙
            ap (λ j. slice_index (elements a s) j) ek ∙ ap (λ xs. slice_index xs k) (elements_are scene a f w s isa h) ∙ sym (value_is scene a k f w s isa h);
        kept = show.kept_temp scene n s x;
        paid = omega (arith, enough, nodes_temp n);
      }
  read_at credit n k a i f w s false enough isa le lt h ek e = record {
    cost = 8 + 3 * nodes i;
    runs = λ ne. run.runs_read scene bound n a i s ∙
        ap (λ q. c.ran (8 + 3 * nodes i)
        (cond q (Next (with_temp s n (slice_index (elements a s) (val scene i s)))) (Ends (outside a (val scene i s) s.world))))
        (test_is scene a i k f w s false isa h ek e) ∙
        ap (λ q. c.ran (8 + 3 * nodes i) (Ends q)) (outside_is scene a (val scene i s) f w s isa h);
    paid = omega (arith, enough);
  }

  pub correct_read_element : (k : ℕ) (a : Array) (mi : Evaluation ℕ) (li : Lowering) → IsArray scene.ground scene.held a → CorrectFor scene bound k mi li →
      CorrectFor scene bound (k + 11) (bind mi (λ v. bind (element_of a v) (read_lvalue scene.p))) (lower_read_element a li)
  correct_read_element k a mi li isa ci n f w s le fits h =
      let i = li n in
      show.follow scene bound 11 (k + 11) 11 11 k n n s i.code (read n a i.tree ∷ []) (temp n) i.tree (mi f w) (λ v. bind (element_of a v) (read_lvalue scene.p)) (omega arith) (omega arith)
      (ci n f w s le (omega (arith, fits)) h)
      (λ v f1 w1 work r.
      subst (λ (o : Outcome Frame Lvalue). Shown scene bound 11 (11 + (3 * nodes i.tree + 11)) n r.state (read n a i.tree ∷ []) (temp n) (and_then o (read_lvalue scene.p))) (sym (element_is scene a v f1 w1 r.state isa r.shows))
      (read_at (11 + (3 * nodes i.tree + 11)) n v a i.tree f1 w1 r.state (ltb v (size_in scene.ground scene.held a)) (omega arith) isa le (omega (arith, fits)) r.shows r.value refl))

  -- an element whose index a temporary holds
  pub correct_element : (at k : ℕ) (a : Array) → IsArray scene.ground scene.held a → scene.locals ≤ at → at < scene.floor → scene.scratch at ≡ k →
      k < size_in scene.ground scene.held a → CorrectFor scene bound 25 (read_lvalue scene.p (lvalue_in a k)) (lower_element a at)
  correct_element at k a isa low high ek lt n f w s le fits h =
      read_at 25 n k a (temp at) f w s true (omega (arith, nodes_temp at)) isa le (omega (arith, fits)) h (run.val_temp scene at s ∙ h.below at low high ∙ ek) (lt-ltb k (size_in scene.ground scene.held a) lt)

  -- ---- stores

  -- a write, with a value that stands in a temporary
  pub runs_written : (a : Array) (i tv : Tree) (v u : ℕ) (f : Frame) (w : World) (s : State) → IsArray scene.ground scene.held a → Shows scene f w s → val scene i s ≡ v → val scene tv s ≡ u → v < size_in scene.ground scene.held a →
      Runs scene bound (write a i tv ∷ []) s (Next (with_elements a s (slice_set (elements a s) v u))) (8 + 3 * (nodes i + nodes tv))
  runs_written a i tv v u f w s isa h ev eu lt =
      run.runs_write scene bound a i tv s ∙
      ap (λ q. c.ran (8 + 3 * (nodes i + nodes tv))
      (cond q (Next (with_elements a s (slice_set (elements a s) (val scene i s) (val scene tv s))))
      (Ends (outside a (val scene i s) s.world))))
      (test_is scene a i v f w s true isa h ev (lt-ltb v (size_in scene.ground scene.held a) lt)) ∙
      ap (λ j. c.ran (8 + 3 * (nodes i + nodes tv)) (Next (with_elements a s (slice_set (elements a s) j (val scene tv s))))) ev ∙
      ap (λ j. c.ran (8 + 3 * (nodes i + nodes tv)) (Next (with_elements a s (slice_set (elements a s) v j)))) eu

  pub written : (due credit n m result v u : ℕ) (a : Array) (i tv : Tree) (f : Frame) (w : World) (s : State) → IsArray scene.ground scene.held a →
      Shows scene f w s → val scene i s ≡ v → val scene tv s ≡ u → v < size_in scene.ground scene.held a → slice_index s.temps m ≡ result →
      8 + 3 * (nodes i + nodes tv) + 3 + due ≤ credit →
      Shown scene bound due credit n s (write a i tv ∷ []) (temp m) (and_then (store_lvalue (lvalue_in a v) u f w) (λ new. give result))
  written due credit n m result v u (array.Global g) i tv f w s isa h ev eu lt er enough =
      let s1 = with_elements (array.Global g) s (slice_set (elements (array.Global g) s) v u) in
      record {
        state = s1;
        cost = 8 + 3 * (nodes i + nodes tv);
        runs = runs_written (array.Global g) i tv v u f w s isa h ev eu lt;
        shows = forms.shows_global scene g v u u f w s refl h;
        value = run.val_temp scene m s1 ∙ er;
        kept = λ j lk kn. refl;
        paid = omega (arith, enough, nodes_temp m);
      }
  written due credit n m result v u (array.Local l) i tv f w s isa h ev eu lt er enough =
      let s1 = with_elements (array.Local l) s (slice_set (elements (array.Local l) s) v u) in
      record {
        state = s1;
        cost = 8 + 3 * (nodes i + nodes tv);
        runs = runs_written (array.Local l) i tv v u f w s isa h ev eu lt;
        shows = shows_array scene l v u f w s isa h;
        value = run.val_temp scene m s1 ∙ er;
        kept = λ j lk kn. refl;
        paid = omega (arith, enough, nodes_temp m);
      }
  written due credit n m result v u (array.SureGlobal g k) i tv f w s isa h ev eu lt er enough = absurd isa
  written due credit n m result v u (array.SureLocal l k) i tv f w s isa h ev eu lt er enough = absurd isa

  store_gives : (a : Array) (v u : ℕ) (f : Frame) (w : World) → and_then (store_lvalue (lvalue_in a v) u f w) (λ new. give u) ≡ store_lvalue (lvalue_in a v) u f w
  store_gives (array.Global g) v u f w = refl
  store_gives (array.Local l) v u f w = refl
  store_gives (array.SureGlobal g n) v u f w = refl
  store_gives (array.SureLocal l n) v u f w = refl

  -- a value that is put into the first free temporary and then stored, the index standing in the second
  put_and_written : (n v u : ℕ) (a : Array) (t : Tree) (f : Frame) (w : World) (s : State) → IsArray scene.ground scene.held a → scene.floor ≤ n →
      n + 1 < scene.room → Shows scene f w s → val scene t s ≡ u → slice_index s.temps (n + 1) ≡ v → v < size_in scene.ground scene.held a →
      Shown scene bound 11 (25 + (3 * nodes t + 11)) n s (set n t ∷ write a (temp (n + 1)) (temp n) ∷ []) (temp n)
      (store_lvalue (lvalue_in a v) u f w)
  put_and_written n v u a t f w s isa le room h eu ev lt =
      let x = val scene t s in
      let s1 = with_temp s n x in
      let first_is : slice_index s1.temps n ≡ u = get_or-set_same s.temps n x 0 (subst (λ j. n < j) (sym h.temps) (omega (arith, room))) ∙ eu in
      subst (λ (o : Outcome Frame ℕ). Shown scene bound 11 (25 + (3 * nodes t + 11)) n s (set n t ∷ write a (temp (n + 1)) (temp n) ∷ []) (temp n) o)
      (store_gives a v u f w) (show.more_credit scene bound 11 11 (28 + (8 + 3 * nodes t)) (25 + (3 * nodes t + 11)) n n s
      (set n t ∷ write a (temp (n + 1)) (temp n) ∷ []) (temp n) (and_then (store_lvalue (lvalue_in a v) u f w) (λ new. give u)) (omega arith)
      (omega arith) (omega arith)
      (control.after_step scene bound 11 28 n (8 + 3 * nodes t) s s1 (set n t ∷ []) (write a (temp (n + 1)) (temp n) ∷ []) (temp n)
      (and_then (store_lvalue (lvalue_in a v) u f w) (λ new. give u)) (run.runs_set scene bound n t s) (show.kept_temp scene n s x)
      (written 11 28 n n u v u a (temp (n + 1)) (temp n) f w s1 isa (show.shows_temp scene f w s n x le h)
      (run.val_temp scene (n + 1) s1 ∙ get_or-set_other s.temps n (n + 1) x 0 (λ e. absurd (omega (arith, e))) ∙ ev)
      (run.val_temp scene n s1 ∙ first_is) lt first_is (omega (arith, nodes_temp n, nodes_temp (n + 1))))))

  -- the test of an index, and then the rest
  checked : (due credit n k : ℕ) (a : Array) (i : Tree) (rest : List Stm) (t : Tree) (f : Frame) (w : World) (s : State)
      (next : Lvalue → Evaluation ℕ) (z : Bool) →
      IsArray scene.ground scene.held a → Shows scene f w s → val scene i s ≡ k → ltb k (size_in scene.ground scene.held a) ≡ z →
      (z ≡ true → Shown scene bound due credit n s rest t (next (lvalue_in a k) f w)) →
      Shown scene bound due (credit + (8 + 3 * nodes i)) n s (check a i ∷ rest) t
      (and_then (cond z (give (lvalue_in a k)) (stop (Trapped 2)) f w) next)
  checked due credit n k a i rest t f w s next true isa h ek e rest_shown =
      subst (λ (o : Outcome Frame ℕ). Shown scene bound due (credit + (8 + 3 * nodes i)) n s (check a i ∷ rest) t o) (sym (sequences.after_zero (next (lvalue_in a k) f w)))
      (control.within scene bound due credit n (8 + 3 * nodes i) s rest (check a i ∷ rest) t (next (lvalue_in a k) f w)
      (λ o j r. run.runs_append scene bound (check a i ∷ []) rest s s o (8 + 3 * nodes i) j
      (run.runs_check scene bound a i s ∙ ap (λ q. c.ran (8 + 3 * nodes i) (cond q (Next s) (Ends (outside a (val scene i s) s.world)))) (test_is scene a i k f w s true isa h ek e)) r)
      (rest_shown refl))
  checked due credit n k a i rest t f w s next false isa h ek e rest_shown = record {
    cost = 8 + 3 * nodes i;
    runs = λ ne.
        run.runs_stop scene bound (check a i ∷ []) rest s _ (8 + 3 * nodes i)
        (run.runs_check scene bound a i s ∙ ap (λ q. c.ran (8 + 3 * nodes i) (cond q (Next s) (Ends (outside a (val scene i s) s.world)))) (test_is scene a i k f w s false isa h ek e) ∙
        ap (λ q. c.ran (8 + 3 * nodes i) (Ends q)) (outside_is scene a (val scene i s) f w s isa h));
    paid = omega arith;
  }

  -- what is correct where more temporaries are in use
  abbrev pub Above : (n : ℕ) → (ℕ → ℕ) → ℕ → Evaluation ℕ → Lowering → Type 0
  Above n kept = CorrectFor (scene_of scene.ground scene.held n kept) bound

  lower_floor : (credit n : ℕ) (s : State) (code : List Stm) (t : Tree) (o : Outcome Frame ℕ) (f0 : Frame) (w0 : World) → scene.floor ≤ n → Shows scene f0 w0 s →
      Shown (scene_of scene.ground scene.held n (λ k. slice_index s.temps k)) bound 11 credit n s code t o → Shown scene bound 11 credit n s code t o
  lower_floor credit n s code t (Came v f w work) f0 w0 le h r = record {
    state = r.state;
    cost = r.cost;
    runs = r.runs;
    shows = record {
      around = r.shows.around;
      in_arrays = r.shows.in_arrays;
      in_temps = record {
        above = h.above;
        below = λ k low high. r.shows.below k low (omega (arith, high, le)) ∙ h.below k low high;
        temps = r.shows.temps;
      };
      each = r.shows.each;
    };
    value = r.value;
    kept = λ k low high. r.shows.below k (omega (arith, low, h.above)) high;
    paid = r.paid;
  }
  lower_floor credit n s code t (Stopped why w work) f0 w0 le h r = record { cost = r.cost; runs = r.runs; paid = r.paid }

  -- a store in an element, of a value that may depend on the element: the index is evaluated, tested, then the value
  pub correct_set_element : (ki kv : ℕ) (a : Array) (mi : Evaluation ℕ) (mv : Lvalue → Evaluation ℕ) (li : Lowering) (lv : ℕ → Lowering) → IsArray scene.ground scene.held a → CorrectFor scene bound ki mi li →
      ((n k : ℕ) (kept : ℕ → ℕ) → scene.floor ≤ n → scene.locals ≤ n → kept (n + 1) ≡ k → k < size_in scene.ground scene.held a → Above (n + 2) kept kv (mv (lvalue_in a k)) (lv n)) →
      CorrectFor scene bound (ki + (kv + 39)) (bind mi (λ v. bind (element_of a v) (λ at. bind (mv at) (store_lvalue at)))) (λ n. lower_set_element a li (lv n) n)
  correct_set_element ki kv a mi mv li lv isa ci cv n f w s le fits h =
      let i = li n in
      let x = lv n (n + 2) in
      let last = set n x.tree ∷ write a (temp (n + 1)) (temp n) ∷ [] in
      let rest = check a (temp (n + 1)) ∷ (x.code ++ last) in
      show.follow scene bound 11 (ki + (kv + 39)) (kv + 39) 0 ki n n s (i.code ++ set (n + 1) i.tree ∷ []) rest (temp n) (temp (n + 1)) (mi f w)
      (λ v. bind (element_of a v) (λ at. bind (mv at) (store_lvalue at))) (omega arith) (omega arith)
      (show.put_away scene bound ki n (n + 1) s i (mi f w) (omega arith) (omega (arith, le)) (omega (arith, fits))
      (ci n f w s le (omega (arith, fits)) h))
      (λ v f1 w1 work r. subst (λ (o : Outcome Frame Lvalue).
      Shown scene bound 11 (kv + 39 + (3 * nodes (temp (n + 1)) + 0)) n r.state rest (temp n)
      (and_then o (λ at. bind (mv at) (store_lvalue at))))
      (sym (element_is scene a v f1 w1 r.state isa r.shows))
      (show.more_credit scene bound 11 11 (kv + 25 + (8 + 3 * nodes (temp (n + 1)))) (kv + 39 + (3 * nodes (temp (n + 1)) + 0)) n n r.state rest
      (temp n) (and_then (cond (ltb v (size_in scene.ground scene.held a)) (give (lvalue_in a v)) (stop (Trapped 2)) f1 w1)
      (λ at. bind (mv at) (store_lvalue at)))
      (omega (arith, nodes_temp (n + 1))) (omega (arith, nodes_temp (n + 1))) (omega (arith, nodes_temp (n + 1)))
      (checked 11 (kv + 25) n v a (temp (n + 1)) (x.code ++ last) (temp n) f1 w1 r.state (λ at. bind (mv at) (store_lvalue at))
      (ltb v (size_in scene.ground scene.held a)) isa r.shows r.value refl
      (λ inside. let kept : ℕ → ℕ = λ k. slice_index r.state.temps k in
      let index_is : kept (n + 1) ≡ v = sym (run.val_temp scene (n + 1) r.state) ∙ r.value in
      let lt : v < size_in scene.ground scene.held a = ltb-true v (size_in scene.ground scene.held a) inside in
      show.follow scene bound 11 (kv + 25) 25 11 kv n (n + 2) r.state x.code last (temp n) x.tree (mv (lvalue_in a v) f1 w1)
      (store_lvalue (lvalue_in a v)) (omega arith) (omega arith)
      (lower_floor kv (n + 2) r.state x.code x.tree (mv (lvalue_in a v) f1 w1) f1 w1 (omega (arith, le)) r.shows
      (cv n v kept le (omega (arith, le, r.shows.above)) index_is lt (n + 2) f1 w1 r.state (omega arith) (omega (arith, fits))
      (raise_floor scene (n + 2) f1 w1 r.state (omega (arith, le)) r.shows)))
      (λ u f2 w2 work2 r2. put_and_written n v u a x.tree f2 w2 r2.state isa le (omega (arith, fits)) r2.shows r2.value
      (r2.kept (n + 1) (omega (arith, le)) (omega arith) ∙ index_is) lt)))))

  -- ---- `++` and `--` behind a place

  next_nodes : (up : Bool) (t : CType) (n : ℕ) → nodes (next_tree up t (temp n)) ≤ 4
  next_nodes up t n = omega (arith, converted_nodes t (binary (cond up 0 1) (temp n) (number 1)), nodes_binary (cond up 0 1) (temp n) (number 1), nodes_temp n, nodes_number 1)

  next_is : (up : Bool) (t : CType) (n old : ℕ) (s : State) → slice_index s.temps n ≡ old → val scene (next_tree up t (temp n)) s ≡ next_value up t old
  next_is up t n old s e = operators.converted_same scene t (binary (cond up 0 1) (temp n) (number 1)) s ∙ ap (converted t) (by up)
    where
      by : (z : Bool) → val scene (binary (cond z 0 1) (temp n) (number 1)) s ≡ cond z (add old 1) (sub old 1)
      by true = operators.add_same scene (temp n) (number 1) s ∙ ap (λ k. add k (val scene (number 1) s)) (run.val_temp scene n s ∙ e) ∙ ap (λ k. add old k) (run.val_number scene 1 s)
      by false = operators.sub_same scene (temp n) (number 1) s ∙ ap (λ k. sub k (val scene (number 1) s)) (run.val_temp scene n s ∙ e) ∙ ap (λ k. sub old k) (run.val_number scene 1 s)

  -- the old value, and then a store of the next one
  abbrev Stepped : Bool → CType → Lvalue → Evaluation ℕ
  Stepped up t at = bind (read_lvalue scene.p at) (λ old. bind (store_lvalue at (next_value up t old)) (λ new. give old))

  pub correct_after_local : (up : Bool) (t : CType) (l : ℕ) → l < scene.locals → scene.locals ≤ scene.room → IsScalar scene.sizes scene.held l → CorrectFor scene bound 100 (Stepped up t (lvalue.Local l 0)) (lower_after up t (InLocal l))
  correct_after_local up t l lt room sc n f w s le fits h =
      let old = word_at f.locals l 0 in
      let x = val scene (temp l) s in
      let s1 = with_temp s n x in
      let h1 = show.shows_temp scene f w s n x le h in
      let next = next_tree up t (temp n) in
      let y = val scene next s1 in
      let old_is : x ≡ old = run.val_temp scene l s ∙ h.each l lt sc in
      let put : slice_index s1.temps n ≡ old = get_or-set_same s.temps n x 0 (subst (λ j. n < j) (sym h.temps) (omega (arith, fits))) ∙ old_is in
      record {
        state = with_temp s1 l y;
        cost = (8 + 3 * nodes (temp l)) + (8 + 3 * nodes next);
        runs = run.runs_append scene bound (set n (temp l) ∷ []) (set l next ∷ []) s s1 (Next (with_temp s1 l y)) _ _ (run.runs_set scene bound n (temp l) s) (run.runs_set scene bound l next s1);
        shows = forms.shows_local scene l (next_value up t old) y f w s1 lt room sc (next_is up t n old s1 put) h1;
        value = run.val_temp scene n (with_temp s1 l y) ∙ get_or-set_other s1.temps l n y 0 (λ e. absurd (omega (arith, e, lt, le, h.above))) ∙ put;
        kept = λ j low high. get_or-set_other s1.temps l j y 0 (λ e. absurd (omega (arith, e, lt, low, h.above))) ∙ show.kept_temp scene n s x j low high;
        paid = omega (arith, nodes_temp l, nodes_temp n, next_nodes up t n);
      }

  pub correct_after_global : (up : Bool) (t : CType) (g : ℕ) → CorrectFor scene bound 100 (Stepped up t (lvalue.Global g 0)) (lower_after up t (InGlobal g))
  correct_after_global up t g n f w s le fits h =
      let old = value_in scene.p (lvalue.Global g 0) f w in
      let x = val scene (global g) s in
      let s1 = with_temp s n x in
      let h1 = show.shows_temp scene f w s n x le h in
      let next = next_tree up t (temp n) in
      let y = val scene next s1 in
      let s2 = with_world s1 (with_global s1.world g (slice_set (slice_index_or s1.world.globals g []) 0 y)) in
      let put : slice_index s1.temps n ≡ old = get_or-set_same s.temps n x 0 (subst (λ j. n < j) (sym h.temps) (omega (arith, fits))) ∙ forms.global_value scene g f w s h in
      record {
        state = s2;
        cost = (8 + 3 * nodes (global g)) + (8 + 3 * nodes next);
        runs = run.runs_append scene bound (set n (global g) ∷ []) (set_global g next ∷ []) s s1 (Next s2) _ _ (run.runs_set scene bound n (global g) s) (run.runs_set_global scene bound g next s1);
        shows = forms.shows_global scene g 0 (next_value up t old) y f w s1 (next_is up t n old s1 put) h1;
        value = run.val_temp scene n s2 ∙ put;
        kept = λ j low high. show.kept_temp scene n s x j low high;
        paid = omega (arith, nodes_global g, nodes_temp n, next_nodes up t n);
      }

  -- after the read of an element
  after_read : (n k : ℕ) (up : Bool) (t : CType) (a : Array) (f : Frame) (w : World) (s : State) (z : Bool) → IsArray scene.ground scene.held a →
      scene.floor ≤ n → n + 1 < scene.room → Shows scene f w s → slice_index s.temps (n + 1) ≡ k → ltb k (size_in scene.ground scene.held a) ≡ z →
      Shown scene bound 11 (40 + (8 + 3 * nodes (temp (n + 1)))) n s (read n a (temp (n + 1)) ∷ write a (temp (n + 1)) (next_tree up t (temp n)) ∷ [])
      (temp n) (and_then (cond z (give (lvalue_in a k)) (stop (Trapped 2)) f w) (Stepped up t))
  after_read n k up t a f w s true isa le room h ek e =
      let old = value_in scene.p (lvalue_in a k) f w in
      let i = temp (n + 1) in
      let next = next_tree up t (temp n) in
      let last = write a i next ∷ [] in
      let vi : val scene i s ≡ k = run.val_temp scene (n + 1) s ∙ ek in
      let x = slice_index (elements a s) (val scene i s) in
      let s1 = with_temp s n x in
      let x_is : x ≡ old = ap (λ j. slice_index (elements a s) j) vi ∙ ap (λ xs. slice_index xs k) (elements_are scene a f w s isa h) ∙ sym (value_is scene a k f w s isa h) in
      let put : slice_index s1.temps n ≡ old = get_or-set_same s.temps n x 0 (subst (λ j. n < j) (sym h.temps) (omega (arith, room))) ∙ x_is in
      let index_stays : slice_index s1.temps (n + 1) ≡ k = get_or-set_other s.temps n (n + 1) x 0 (λ eq. absurd (omega (arith, eq))) ∙ ek in
      subst (λ (o : Outcome Frame ℕ). Shown scene bound 11 (40 + (8 + 3 * nodes i)) n s (read n a i ∷ last) (temp n) o)
      (sym (sequences.after_zero (Stepped up t (lvalue_in a k) f w) ∙ sequences.after_zero (and_then (store_lvalue (lvalue_in a k) (next_value up t old) f w) (λ new. give old))))
      (control.after_step scene bound 11 40 n (8 + 3 * nodes i) s s1 (read n a i ∷ []) last (temp n) (and_then (store_lvalue (lvalue_in a k) (next_value up t old) f w) (λ new. give old))
      (run.runs_read scene bound n a i s ∙ ap (λ q. c.ran (8 + 3 * nodes i) (cond q (Next s1) (Ends (outside a (val scene i s) s.world)))) (test_is scene a i k f w s true isa h vi e))
      (show.kept_temp scene n s x)
      (written 11 40 n n old k (next_value up t old) a i next f w s1 isa (show.shows_temp scene f w s n x le h) (run.val_temp scene (n + 1) s1 ∙ index_stays) (next_is up t n old s1 put) (ltb-true k (size_in scene.ground scene.held a) e) put
      (omega (arith, nodes_temp (n + 1), next_nodes up t n))))
  after_read n k up t a f w s false isa le room h ek e = record {
    cost = 8 + 3 * nodes (temp (n + 1));
    runs = λ ne. run.runs_stop scene bound (read n a (temp (n + 1)) ∷ []) (write a (temp (n + 1)) (next_tree up t (temp n)) ∷ []) s _
        (8 + 3 * nodes (temp (n + 1)))
        (run.runs_read scene bound n a (temp (n + 1)) s ∙
        ap (λ q. c.ran (8 + 3 * nodes (temp (n + 1)))
        (cond q (Next (with_temp s n (slice_index (elements a s) (val scene (temp (n + 1)) s))))
        (Ends (outside a (val scene (temp (n + 1)) s) s.world))))
        (test_is scene a (temp (n + 1)) k f w s false isa h (run.val_temp scene (n + 1) s ∙ ek) e) ∙
        ap (λ q. c.ran (8 + 3 * nodes (temp (n + 1))) (Ends q)) (outside_is scene a (val scene (temp (n + 1)) s) f w s isa h));
    paid = omega (arith, nodes_temp (n + 1));
  }

  pub correct_after_element : (ki : ℕ) (up : Bool) (t : CType) (a : Array) (mi : Evaluation ℕ) (li : Lowering) → IsArray scene.ground scene.held a → CorrectFor scene bound ki mi li →
      CorrectFor scene bound (ki + 60) (bind mi (λ v. bind (element_of a v) (Stepped up t))) (lower_after up t (Element a li))
  correct_after_element ki up t a mi li isa ci n f w s le fits h =
      let i = li n in
      let rest = read n a (temp (n + 1)) ∷ write a (temp (n + 1)) (next_tree up t (temp n)) ∷ [] in
      show.follow scene bound 11 (ki + 60) 60 0 ki n n s (i.code ++ set (n + 1) i.tree ∷ []) rest (temp n) (temp (n + 1)) (mi f w) (λ v. bind (element_of a v) (Stepped up t)) (omega arith) (omega arith)
      (show.put_away scene bound ki n (n + 1) s i (mi f w) (omega arith) (omega (arith, le)) (omega (arith, fits)) (ci n f w s le (omega (arith, fits)) h))
      (λ v f1 w1 work r.
      subst (λ (o : Outcome Frame Lvalue). Shown scene bound 11 (60 + (3 * nodes (temp (n + 1)) + 0)) n r.state rest (temp n) (and_then o (Stepped up t))) (sym (element_is scene a v f1 w1 r.state isa r.shows))
      (show.more_credit scene bound 11 11 (40 + (8 + 3 * nodes (temp (n + 1)))) (60 + (3 * nodes (temp (n + 1)) + 0)) n n r.state rest (temp n)
      (and_then (cond (ltb v (size_in scene.ground scene.held a)) (give (lvalue_in a v)) (stop (Trapped 2)) f1 w1) (Stepped up t)) (omega arith) (omega arith) (omega arith)
      (after_read n v up t a f1 w1 r.state (ltb v (size_in scene.ground scene.held a)) isa le (omega (arith, fits)) r.shows (sym (run.val_temp scene (n + 1) r.state) ∙ r.value) refl)))
