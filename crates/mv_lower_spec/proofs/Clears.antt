-- Declarations of locals, with their given values.
use Rattle.std.proofs.Common.{◌≡◌, ℕ, zero, suc, ◌+◌, ◌-◌, ◌*◌, ◌<◌, ◌≤◌, Bool, true, false, cond, eqb, ltb, List, [], ◌∷◌, ◌++◌, map, length, replicate, Option, Some, None, refl, sym, ◌∙◌, subst, ap, arith, ◌⊎◌, inl, inr, eq-eqb, append_assoc}
use Rattle.std.specs.Prelude.{slice_index, slice_set, slice_index_or, nat_le, ◌||◌}
use Rattle.std.proofs.lemmas.List.{get_or-set_same, get_or-set_other, length-set, length-replicate}
use Rattle.std.proofs.lemmas.Bool.{cases_eq, cases_lt, leb-true, le-leb, lt-ltb, ne_eqb}
use Rattle.mv_ir.specs.declared.tree.Tree.{Tree}
use Rattle.mv_ir.specs.declared.stm.Stm.{Stm}
use Rattle.mv_ir.specs.declared.stm.Stm.TheOpen as stm
use Rattle.mv_ir.specs.declared.stm.Array.TheVariants as array
use Rattle.mv_ast.specs.Counts.{words_of_size}
use Rattle.mv_ast.specs.Switches.{word_at, with_word}
use Rattle.mv_ast.specs.Worlds.{World, Outcome, after, bind, give}
use Rattle.mv_meaning.specs.declared.state.Frame.{Frame}
use Rattle.mv_meaning.specs.declared.state.Flow.{Flow}
use Rattle.mv_meaning.specs.declared.state.Flow.TheVariants.{Goes}
use Rattle.mv_meaning.specs.declared.state.Lvalue.TheVariants as lvalue
use Rattle.mv_meaning.specs.Meaning.{Evaluation, store_lvalue, put_values, size_of, clear_local}
use Rattle.mv_ir.specs.Outcome.{State, Next, Bound, then_do}
use Rattle.mv_ir.specs.Trees.{nodes}
use Rattle.mv_ir.specs.Meaning.{with_temp, with_elements, elements, traps}
use Rattle.mv_ir.proofs.Keeping.{one_meaning}
use Rattle.mv_lower_spec.specs.Lowered.{Lowering, number, set, write}
use Rattle.mv_lower_spec.specs.Statements.{FlowShown, FlowCorrect, Jumps, store_word, clear_words, store_zeros, store_values, values_top, lower_clear, out_of}
use Rattle.mv_lower_spec.specs.Correct.{Ground, Held, declaring, resting, none, val, Shows, Correct, ran, IsArrayLocal}
use Rattle.mv_lower_spec.proofs.Running as run
use Rattle.mv_lower_spec.proofs.Running.{nodes_number}
use Rattle.mv_lower_spec.proofs.Forms as forms
use Rattle.mv_lower_spec.proofs.Forms.{word_is, with_word_is, with_word_same, with_word_other, other_word, with_word_count, with_word_lengths, stored_alike, held_is_none}
use Rattle.mv_lower_spec.proofs.Elements as elements_proofs
use Rattle.mv_meaning.proofs.Sequences.{after_zero}
use Rattle.mv_lower_spec.proofs.Flows as flows
use Rattle.mv_lower_spec.proofs.Flows.{code}
use Rattle.mv_num.proofs.Numbers.{zeros_at}
use Rattle.mv_num.proofs.Lists.{same_lists}
use Rattle.mv_ast.proofs.Common.{objects_at}

-- one local is being declared
abbrev pub only : ℕ → List ℕ × List ℕ → Held
only l both k = cond (eqb k l) (Some both) None

only_here : (l : ℕ) (both : List ℕ × List ℕ) → only l both l ≡ Some both
only_here l both = ap (λ z. cond z (Some both) None) (eq-eqb l l refl)

pub only_there : (l : ℕ) (both : List ℕ × List ℕ) (k : ℕ) → (k ≡ l → ⊥) → only l both k ≡ None
only_there l both k ne = ap (λ z. cond z (Some both) None) (ne_eqb k l ne)

-- it is only that local, with these words
only_apart : (l : ℕ) (both : List ℕ × List ℕ) (k : ℕ) → only l both k ≡ None → k ≡ l → ⊥
only_apart l both k e eq = held_is_none (sym e ∙ ap (only l both) eq ∙ only_here l both)

only_held : (l : ℕ) (both : List ℕ × List ℕ) (xs ys : List (List ℕ)) → slice_index_or xs l [] ≡ both.0 → slice_index_or ys l [] ≡ both.1 →
    (k : ℕ) (there : List ℕ × List ℕ) → only l both k ≡ Some there → (slice_index_or xs k [] ≡ there.0) × (slice_index_or ys k [] ≡ there.1)
only_held l both xs ys ex ey k there e = by (cases_eq k l)
  where
    words : Option (List ℕ × List ℕ) → List ℕ × List ℕ
    words None = both
    words (Some x) = x

    by : (k ≡ l) ⊎ (k ≡ l → ⊥) → (slice_index_or xs k [] ≡ there.0) × (slice_index_or ys k [] ≡ there.1)
    by (inl eq) =
        let same : both ≡ there = ap words (sym (ap (only l both) eq ∙ only_here l both) ∙ e) in (
          ap (λ j. slice_index_or xs j []) eq ∙ ex ∙ ap (λ (q : List ℕ × List ℕ). q.0) same,
          ap (λ j. slice_index_or ys j []) eq ∙ ey ∙ ap (λ (q : List ℕ × List ℕ). q.1) same,
        )
    by (inr ne) = absurd (held_is_none (sym (only_there l both k ne) ∙ e))

-- ---- lists

one_word : (xs : List ℕ) (v : ℕ) → length xs ≡ 1 → slice_set xs 0 v ≡ v ∷ []
one_word [] v e = absurd (omega (arith, e))
one_word (x ∷ []) v e = refl
one_word (x ∷ y ∷ xs) v e = absurd (omega (arith, e))

cleared : (xs : List ℕ) → map {B = ℕ} (λ x. 0) xs ≡ replicate (length xs) 0
cleared [] = refl
cleared (x ∷ xs) = ap (λ l. 0 ∷ l) (cleared xs)

module _ (ground : Ground) (void : Bool) where
  -- ---- into a declaration and out of it

  -- the source's words become others, of the same number, which the code hasn't yet
  hidden : (l : ℕ) (ws : List ℕ) (f : Frame) (w : World) (s : State) → l < ground.locals → length ws ≡ words_of_size (ground.sizes l) → Shows (resting ground) f w s →
      Shows (declaring ground (only l (ws, slice_index_or s.arrays l []))) (record f { locals = slice_set f.locals l ws }) w s
  hidden l ws f w s lt long h = record {
    around = h.around;
    in_arrays = record {
      elements = λ k lk arr. h.elements k lk (arr.0, refl) ∙ sym (get_or-set_other f.locals l k ws [] (only_apart l (ws, slice_index_or s.arrays l []) k arr.1));
      untouched = only_held l (ws, slice_index_or s.arrays l []) (slice_set f.locals l ws) s.arrays (get_or-set_same f.locals l ws [] inside) refl;
      words = λ k lk. long_words k lk (cases_eq k l);
      size = length-set f.locals l ws ∙ h.size;
      arrays = h.arrays;
    };
    in_temps = h.in_temps;
    each = λ k lk sc.
        h.each k lk (sc.0, refl) ∙ word_is f.locals k 0 ∙ ap (λ xs. slice_index xs 0) (sym (get_or-set_other f.locals l k ws [] (only_apart l (ws, slice_index_or s.arrays l []) k sc.1))) ∙ sym (word_is (slice_set f.locals l ws) k 0);
  }
    where
      inside : l < length f.locals
      inside = subst (λ k. l < k) (sym h.size) lt

      long_words : (k : ℕ) → k < ground.locals → (k ≡ l) ⊎ (k ≡ l → ⊥) → length (slice_index_or (slice_set f.locals l ws) k []) ≡ words_of_size (ground.sizes k)
      long_words k lk (inl eq) = subst (λ j. length (slice_index_or (slice_set f.locals l ws) j []) ≡ words_of_size (ground.sizes j)) (sym eq) (ap length (get_or-set_same f.locals l ws [] inside) ∙ long)
      long_words k lk (inr ne) = ap length (get_or-set_other f.locals l k ws [] ne) ∙ h.words k lk

  -- a word of the local that is being declared, in the source and in the code
  touched : (l i v : ℕ) (ws gs : List ℕ) (f : Frame) (w : World) (s : State) → l < ground.locals → Shows (declaring ground (only l (ws, gs))) f w s →
      Shows (declaring ground (only l (slice_set ws i v, slice_set gs i v))) (record f { locals = with_word f.locals l i v }) w (with_elements (array.Local l) s (slice_set gs i v))
  touched l i v ws gs f w s lt h =
      let was = h.untouched l (ws, gs) (only_here l (ws, gs)) in
      let apart = only_apart l (slice_set ws i v, slice_set gs i v) in
      record {
        around = h.around;
        in_arrays = record {
          elements = λ k lk arr. let ne = apart k arr.1 in get_or-set_other s.arrays l k (slice_set gs i v) [] ne ∙ h.elements k lk (arr.0, only_there l (ws, gs) k ne) ∙ sym (with_word_other f.locals l i v k ne);
          untouched =
              only_held l (slice_set ws i v, slice_set gs i v) (with_word f.locals l i v) (slice_set s.arrays l (slice_set gs i v)) (with_word_same f.locals l i v (subst (λ k. l < k) (sym h.size) lt) ∙ ap (λ xs. slice_set xs i v) was.0)
              (get_or-set_same s.arrays l (slice_set gs i v) [] (subst (λ k. l < k) (sym h.arrays) lt));
          words = λ k lk. with_word_lengths f.locals l i v k ∙ h.words k lk;
          size = with_word_count f.locals l i v ∙ h.size;
          arrays = length-set s.arrays l (slice_set gs i v) ∙ h.arrays;
        };
        in_temps = h.in_temps;
        each = λ k lk sc. let ne = apart k sc.1 in h.each k lk (sc.0, only_there l (ws, gs) k ne) ∙ sym (other_word f.locals l i v k 0 ne);
      }

  -- an array that was declared: both sides have the same words
  array_declared : (l : ℕ) (ws : List ℕ) (f : Frame) (w : World) (s : State) → (ground.sizes l ≡ None → ⊥) → Shows (declaring ground (only l (ws, ws))) f w s → Shows (resting ground) f w s
  array_declared l ws f w s arr h = record {
    around = h.around;
    in_arrays = record {
      elements = λ k lk a. by_elements k lk a.0 (cases_eq k l);
      untouched = λ k both e. absurd (held_is_none e);
      words = h.words;
      size = h.size;
      arrays = h.arrays;
    };
    in_temps = h.in_temps;
    each = λ k lk sc. by_each k lk sc.0 (cases_eq k l);
  }
    where
      by_each : (k : ℕ) → k < ground.locals → ground.sizes k ≡ None → (k ≡ l) ⊎ (k ≡ l → ⊥) → slice_index s.temps k ≡ word_at f.locals k 0
      by_each k lk sc (inl eq) = absurd (arr (ap ground.sizes (sym eq) ∙ sc))
      by_each k lk sc (inr ne) = h.each k lk (sc, only_there l (ws, ws) k ne)

      by_elements : (k : ℕ) → k < ground.locals → (ground.sizes k ≡ None → ⊥) → (k ≡ l) ⊎ (k ≡ l → ⊥) → slice_index_or s.arrays k [] ≡ slice_index_or f.locals k []
      by_elements k lk a (inl eq) =
          let both = h.untouched l (ws, ws) (only_here l (ws, ws)) in
          subst (λ j. slice_index_or s.arrays j [] ≡ slice_index_or f.locals j []) (sym eq) (both.1 ∙ sym both.0)
      by_elements k lk a (inr ne) = h.elements k lk (a, only_there l (ws, ws) k ne)

  -- a scalar that was declared: its value is stored on both sides
  scalar_declared : (l v x : ℕ) (both : List ℕ × List ℕ) (f : Frame) (w : World) (s : State) → l < ground.locals → ground.locals ≤ ground.room → ground.sizes l ≡ None → x ≡ v → Shows (declaring ground (only l both)) f w s →
      Shows (resting ground) (record f { locals = with_word f.locals l 0 v }) w (with_temp s l x)
  scalar_declared l v x both f w s lt le sc e h = record {
    around = h.around;
    in_arrays = record {
      elements = λ k lk a. by_elements k lk a.0 (cases_eq k l);
      untouched = λ k both e. absurd (held_is_none e);
      words = λ k lk. with_word_lengths f.locals l 0 v k ∙ h.words k lk;
      size = with_word_count f.locals l 0 v ∙ h.size;
      arrays = h.arrays;
    };
    in_temps = record {
      above = h.above;
      below = λ j low high. get_or-set_other s.temps l j x 0 (λ eq. absurd (omega (arith, low, lt, eq))) ∙ h.below j low high;
      temps = length-set s.temps l x ∙ h.temps;
    };
    each = λ k lk q. stored_alike f.locals s.temps l v x k (omega (arith, lt, h.size))
        (subst (λ n. 0 < n) (sym (h.words l lt ∙ ap words_of_size sc)) (omega arith)) (omega (arith, lt, le, h.temps)) e
        (λ ne. h.each k lk (q.0, only_there l both k ne));
  }
    where
      by_elements : (k : ℕ) → k < ground.locals → (ground.sizes k ≡ None → ⊥) → (k ≡ l) ⊎ (k ≡ l → ⊥) → slice_index_or s.arrays k [] ≡ slice_index_or (with_word f.locals l 0 v) k []
      by_elements k lk a (inl eq) = absurd (a (ap ground.sizes eq ∙ sc))
      by_elements k lk a (inr ne) =
          h.elements k lk (a, only_there l both k ne) ∙ sym (with_word_other f.locals l 0 v k ne)

  -- the code's words alone
  recoded : (l : ℕ) (ws gs gs' : List ℕ) (f : Frame) (w : World) (s : State) → l < ground.locals → Shows (declaring ground (only l (ws, gs))) f w s → Shows (declaring ground (only l (ws, gs'))) f w (with_elements (array.Local l) s gs')
  recoded l ws gs gs' f w s lt h =
      let apart = only_apart l (ws, gs') in
      record {
        around = h.around;
        in_arrays = record {
          elements = λ k lk arr. let ne = apart k arr.1 in get_or-set_other s.arrays l k gs' [] ne ∙ h.elements k lk (arr.0, only_there l (ws, gs) k ne);
          untouched = only_held l (ws, gs') f.locals (slice_set s.arrays l gs') (h.untouched l (ws, gs) (only_here l (ws, gs))).0 (get_or-set_same s.arrays l gs' [] (subst (λ k. l < k) (sym h.arrays) lt));
          words = h.words;
          size = h.size;
          arrays = length-set s.arrays l gs' ∙ h.arrays;
        };
        in_temps = h.in_temps;
        each = λ k lk sc. h.each k lk (sc.0, only_there l (ws, gs) k (apart k sc.1));
      }

  -- ---- values that are stored into words which are 0

  abbrev pub AllAt : Held → Bound → List (Evaluation ℕ) → List Lowering → Type 0
  AllAt held b [] [] = Unit {0}
  AllAt held b [] (l ∷ ls) = ⊥
  AllAt held b (m ∷ ms) [] = ⊥
  AllAt held b (m ∷ ms) (l ∷ ls) = Correct (declaring ground held) b m l × AllAt held b ms ls

  -- one store and then the rest
  one_store : (j : Jumps) (b : Bound) (l i v : ℕ) (size : Option ℕ) (t : Tree) (rest : List Stm) (f : Frame) (w : World) (s : State)
      (next : Evaluation Flow) →
      ground.sizes l ≡ size → l < ground.locals → ground.locals ≤ ground.room → i < words_of_size size → Shows (resting ground) f w s →
      val (resting ground) t s ≡ v →
      ((f1 : Frame) (s1 : State) → Shows (resting ground) f1 w s1 → f1 ≡ record f { locals = with_word f.locals l i v } →
      FlowShown ground void (out_of void j) 0 (code ground rest b s1) (next f1 w)) →
      FlowShown ground void (out_of void j) (0 + (3 * nodes t + 11)) (code ground (store_word size l i t ∷ rest) b s)
      (bind (store_lvalue (lvalue.Local l i) v) (λ _. next) f w)
  one_store j b l i v None t rest f w s next sz lt le inside h e k =
      let x = val (resting ground) t s in
      let f1 : Frame = record f { locals = with_word f.locals l i v } in
      let zero_is : i ≡ 0 = omega (arith, inside) in
      let sh : Shows (resting ground) f1 w (with_temp s l x) = subst
      (λ n. Shows (resting ground) (record f { locals = with_word f.locals l n v }) w (with_temp s l x)) (sym zero_is)
      (forms.shows_local (resting ground) l v x f w s lt le (sz, refl) e h) in
      subst (λ (o : Outcome Frame Flow). FlowShown ground void (out_of void j) (0 + (3 * nodes t + 11)) (code ground (set l t ∷ rest) b s) o) (sym (after_zero (next f1 w)))
      (flows.more ground void (out_of void j) (0 + (8 + 3 * nodes t)) (0 + (3 * nodes t + 11)) (code ground (set l t ∷ rest) b s) (next f1 w) (omega arith)
      (flows.priced ground void (out_of void j) 0 (8 + 3 * nodes t) (code ground rest b (with_temp s l x)) (code ground (set l t ∷ rest) b s) (next f1 w)
      (run.joined ground.setting ground.frame (set l t ∷ []) rest b s ∙ ap (λ q. then_do q (code ground rest b)) (run.runs_set (resting ground) b l t s)) (k f1 (with_temp s l x) sh refl)))
  one_store j b l i v (Some n) t rest f w s next sz lt le inside h e k =
      let isa : (l < ground.locals) × IsArrayLocal ground.sizes none l = (lt, ((λ q. some_none (sym sz ∙ q)), refl)) in
      let s1 = with_elements (array.Local l) s (slice_set (elements (array.Local l) s) i v) in
      let f1 : Frame = record f { locals = with_word f.locals l i v } in
      let hb = h in
      let cost = 8 + 3 * (nodes (number i) + nodes t) in
      subst (λ (o : Outcome Frame Flow). FlowShown ground void (out_of void j) (0 + (3 * nodes t + 11)) (code ground (write (array.Local l) (number i) t ∷ rest) b s) o) (sym (after_zero (next f1 w)))
      (flows.more ground void (out_of void j) (0 + cost) (0 + (3 * nodes t + 11)) (code ground (write (array.Local l) (number i) t ∷ rest) b s) (next f1 w) (omega (arith, nodes_number i))
      (flows.priced ground void (out_of void j) 0 cost (code ground rest b s1) (code ground (write (array.Local l) (number i) t ∷ rest) b s) (next f1 w)
      (run.joined ground.setting ground.frame (write (array.Local l) (number i) t ∷ []) rest b s ∙ ap (λ q. then_do q (code ground rest b))
      (elements_proofs.runs_written (resting ground) b (array.Local l) (number i) t i v f w s isa hb (run.val_number (resting ground) i s) e
      (subst (λ z. i < words_of_size z) (sym sz) inside)))
      (k f1 s1 (elements_proofs.shows_array (resting ground) l i v f w s isa hb) refl)))
    where
      some_none : Some n ≡ None → ⊥
      some_none q = subst Is q tt
        where
          Is : Option ℕ → Type 0
          Is None = ⊥
          Is (Some x) = Unit {0}

  stores : (j : Jumps) (b : Bound) (l i : ℕ) (ms : List (Evaluation ℕ)) (ls : List Lowering) (f : Frame) (w : World) (s : State) → l < ground.locals →
      ground.locals ≤ ground.room → i + length ls ≤ words_of_size (ground.sizes l) → values_top ground.locals ls ≤ ground.room → AllAt none b ms ls →
      Shows (resting ground) f w s →
      FlowShown ground void (out_of void j) 0 (code ground (store_values ground.locals (ground.sizes l) l i ls) b s) (put_values l i ms f w)
  stores j b l i [] [] f w s lt le inside fits hs h = record { state = s; cost = 0; runs = refl; shows = h; nothing = λ q. refl; paid = omega arith }
  stores j b l i [] (x ∷ ls) f w s lt le inside fits hs h = absurd hs
  stores j b l i (m ∷ ms) [] f w s lt le inside fits hs h = absurd hs
  stores j b l i (m ∷ ms) (x ∷ ls) f w s lt le inside fits hs h =
      let e = x ground.locals in
      let rest = store_values ground.locals (ground.sizes l) l (suc i) ls in
      flows.behind ground void none (out_of void j) b 0 0 ground.locals s e.code (store_word (ground.sizes l) l i e.tree ∷ rest) e.tree (m f w)
      (λ v. bind (store_lvalue (lvalue.Local l i) v) (λ _. put_values l (suc i) ms)) (hs.0 ground.locals f w s (omega arith) (omega (arith, fits)) h)
      (λ v f1 w1 work r. one_store j b l i v (ground.sizes l) e.tree rest f1 w1 r.state (put_values l (suc i) ms) refl lt le (omega (arith, inside))
      r.shows r.value (λ f2 s2 h2 same. stores j b l (suc i) ms ls f2 w1 s2 lt le (omega (arith, inside)) (omega (arith, fits)) hs.1 h2))

  -- all words become 0
  clears : (j : Jumps) (b : Bound) (l : ℕ) (size : Option ℕ) (f : Frame) (w : World) (s : State) → ground.sizes l ≡ size → l < ground.locals → ground.locals ≤ ground.room → Shows (resting ground) f w s →
      FlowShown ground void (out_of void j) (8 + 8 * words_of_size size) (code ground (clear_words size l ∷ []) b s) (give Goes (record f { locals = slice_set f.locals l (replicate (words_of_size size) 0) }) w)
  clears j b l None f w s sz lt le h =
      let x = val (resting ground) (number 0) s in
      record {
        state = with_temp s l x;
        cost = 8 + 3 * nodes (number 0);
        runs = run.runs_set (resting ground) b l (number 0) s;
        shows = subst (λ (ls : List (List ℕ)). Shows (resting ground) (record f { locals = ls }) w (with_temp s l x))
            (with_word_is f.locals l 0 0 ∙
            ap (λ ws. slice_set f.locals l ws) (one_word (slice_index_or f.locals l []) 0 (h.words l lt ∙ ap words_of_size sz)))
            (forms.shows_local (resting ground) l 0 x f w s lt le (sz, refl) (run.val_number (resting ground) 0 s) h);
        nothing = λ q. refl;
        paid = omega (arith, nodes_number 0);
      }
  clears j b l (Some n) f w s sz lt le h =
      let gs = slice_index_or s.arrays l [] in
      let zs : List ℕ = replicate n 0 in
      let f1 : Frame = record f { locals = slice_set f.locals l zs } in
      let apart : ground.sizes l ≡ None → ⊥ = λ q. some_none (sym sz ∙ q) in
      let long : length gs ≡ n = ap length (h.elements l lt (apart, refl)) ∙ h.words l lt ∙ ap words_of_size sz in
      let zero_is : map {B = ℕ} (λ x. 0) gs ≡ zs = cleared gs ∙ ap (λ k. replicate k 0) long in
      let s1 = with_elements (array.Local l) s zs in
      record {
        state = s1;
        cost = 8 + 8 * n;
        runs =
            one_meaning ground.setting ground.frame (stm.Zero l) b s ∙ ap (λ k. ran (8 + 8 * k) (Next (with_elements (array.Local l) s (map (λ x. 0) gs)))) long ∙
            ap (λ (xs : List ℕ). ran (8 + 8 * n) (Next (with_elements (array.Local l) s xs))) zero_is;
        shows = array_declared l zs f1 w s1 apart (recoded l zs gs zs f1 w s lt (hidden l zs f w s lt (length-replicate n 0 ∙ ap words_of_size (sym sz)) h));
        nothing = λ q. refl;
        paid = omega arith;
      }
    where
      some_none : Some n ≡ None → ⊥
      some_none q = subst Is q tt
        where
          Is : Option ℕ → Type 0
          Is None = ⊥
          Is (Some x) = Unit {0}

  -- ---- values of a local whose other words come afterwards

  -- After i words: those before are the same on both sides, those behind are 0 in the source.
  pub record Halfway (n i : ℕ) (ws gs : List ℕ) : Type 0 where
    pub source_long : length ws ≡ n
    pub code_long : length gs ≡ n
    pub before : (k : ℕ) → k < i → slice_index ws k ≡ slice_index gs k
    pub behind : (k : ℕ) → i ≤ k → slice_index ws k ≡ 0

  one_further : (n i v : ℕ) (ws gs : List ℕ) → i < n → Halfway n i ws gs → Halfway n (suc i) (slice_set ws i v) (slice_set gs i v)
  one_further n i v ws gs lt h = record {
    source_long = length-set ws i v ∙ h.source_long;
    code_long = length-set gs i v ∙ h.code_long;
    before = λ k below. by k below (cases_eq k i);
    behind = λ k le. get_or-set_other ws i k v 0 (λ e. absurd (omega (arith, le, e))) ∙ h.behind k (omega (arith, le));
  }
    where
      by : (k : ℕ) → k < suc i → (k ≡ i) ⊎ (k ≡ i → ⊥) → slice_index (slice_set ws i v) k ≡ slice_index (slice_set gs i v) k
      by k below (inl e) =
          subst (λ j. slice_index (slice_set ws i v) j ≡ slice_index (slice_set gs i v) j) (sym e)
          (get_or-set_same ws i v 0 (subst (λ m. i < m) (sym h.source_long) lt) ∙ sym (get_or-set_same gs i v 0 (subst (λ m. i < m) (sym h.code_long) lt)))
      by k below (inr ne) = get_or-set_other ws i k v 0 ne ∙ h.before k (omega (arith, below, ne)) ∙ sym (get_or-set_other gs i k v 0 ne)

  one_zero : (n i : ℕ) (ws gs : List ℕ) → i < n → Halfway n i ws gs → Halfway n (suc i) ws (slice_set gs i 0)
  one_zero n i ws gs lt h = record {
    source_long = h.source_long;
    code_long = length-set gs i 0 ∙ h.code_long;
    before = λ k below. by k below (cases_eq k i);
    behind = λ k le. h.behind k (omega (arith, le));
  }
    where
      by : (k : ℕ) → k < suc i → (k ≡ i) ⊎ (k ≡ i → ⊥) → slice_index ws k ≡ slice_index (slice_set gs i 0) k
      by k below (inl e) =
          subst (λ j. slice_index ws j ≡ slice_index (slice_set gs i 0) j) (sym e)
          (h.behind i (omega arith) ∙ sym (get_or-set_same gs i 0 0 (subst (λ m. i < m) (sym h.code_long) lt)))
      by k below (inr ne) = h.before k (omega (arith, below, ne)) ∙ sym (get_or-set_other gs i k 0 0 ne)

  all_of_it : (n : ℕ) (ws gs : List ℕ) → Halfway n n ws gs → ws ≡ gs
  all_of_it n ws gs h = same_lists ws gs (h.source_long ∙ sym h.code_long) (λ i lt. h.before i (subst (λ m. i < m) h.source_long lt))

  -- a write of a word, where the code's words of the local are known
  writes : (b : Bound) (l i v n : ℕ) (gs : List ℕ) (t : Tree) (s : State) → slice_index_or s.arrays l [] ≡ gs → length gs ≡ n → i < n → val (resting ground) t s ≡ v →
      code ground (write (array.Local l) (number i) t ∷ []) b s ≡ ran (8 + 3 * (nodes (number i) + nodes t)) (Next (with_elements (array.Local l) s (slice_set gs i v)))
  writes b l i v n gs t s eg long lt ev =
      let V : Tree → State → ℕ = val (resting ground) in
      let cost = 8 + 3 * (nodes (number i) + nodes t) in
      run.runs_write (resting ground) b (array.Local l) (number i) t s ∙
      ap (λ (xs : List ℕ). ran cost (cond (ltb (V (number i) s) (length xs)) (Next (with_elements (array.Local l) s (slice_set xs (V (number i) s) (V t s)))) (traps 2 s))) eg ∙
      ap (λ k. ran cost (cond (ltb k (length gs)) (Next (with_elements (array.Local l) s (slice_set gs k (V t s)))) (traps 2 s))) (run.val_number (resting ground) i s) ∙
      ap (λ z. ran cost (cond z (Next (with_elements (array.Local l) s (slice_set gs i (V t s)))) (traps 2 s))) (lt-ltb i (length gs) (subst (λ m. i < m) (sym long) lt)) ∙
      ap (λ k. ran cost (Next (with_elements (array.Local l) s (slice_set gs i k)))) ev

  -- the words without a value
  zeros : (j : Jumps) (b : Bound) (l n i m : ℕ) (ws gs : List ℕ) (f : Frame) (w : World) (s : State) → (ground.sizes l ≡ None → ⊥) → l < ground.locals → i + m ≡ n → Halfway n i ws gs → Shows (declaring ground (only l (ws, gs))) f w s →
      FlowShown ground void (out_of void j) (14 * m) (code ground (store_zeros (Some n) l i m) b s) (give Goes f w)
  zeros j b l n i zero ws gs f w s apart lt e h sh =
      let whole : ws ≡ gs = all_of_it n ws gs (subst (λ k. Halfway n k ws gs) (omega (arith, e)) h) in
      record { state = s; cost = 0; runs = refl; shows = array_declared l ws f w s apart (subst (λ g. Shows (declaring ground (only l (ws, g))) f w s) (sym whole) sh); nothing = λ q. refl; paid = omega arith }
  zeros j b l n i (suc m) ws gs f w s apart lt e h sh =
      let rest = store_zeros (Some n) l (suc i) m in
      let s1 = with_elements (array.Local l) s (slice_set gs i 0) in
      let cost = 8 + 3 * (nodes (number i) + nodes (number 0)) in
      flows.more ground void (out_of void j) (14 * m + cost) (14 * suc m) (code ground (write (array.Local l) (number i) (number 0) ∷ rest) b s) (give Goes f w) (omega (arith, nodes_number i, nodes_number 0))
      (flows.priced ground void (out_of void j) (14 * m) cost (code ground rest b s1) (code ground (write (array.Local l) (number i) (number 0) ∷ rest) b s) (give Goes f w)
      (run.joined ground.setting ground.frame (write (array.Local l) (number i) (number 0) ∷ []) rest b s ∙ ap (λ q. then_do q (code ground rest b))
      (writes b l i 0 n gs (number 0) s (sh.untouched l (ws, gs) (only_here l (ws, gs))).1 h.code_long (omega (arith, e)) (run.val_number (resting ground) 0 s)))
      (zeros j b l n (suc i) m ws (slice_set gs i 0) f w s1 apart lt (omega (arith, e)) (one_zero n i ws gs (omega (arith, e)) h) (recoded l ws gs (slice_set gs i 0) f w s lt sh)))

  -- the values, and then those words
  fills : (j : Jumps) (b : Bound) (l n i k m : ℕ) (ms : List (Evaluation ℕ)) (ls : List Lowering) (ws gs : List ℕ) (f : Frame) (w : World) (s : State) →
      (ground.sizes l ≡ None → ⊥) → l < ground.locals → i + length ls ≡ k → k + m ≡ n → values_top ground.locals ls ≤ ground.room →
      ((both : List ℕ × List ℕ) → AllAt (only l both) b ms ls) → Halfway n i ws gs → Shows (declaring ground (only l (ws, gs))) f w s →
      FlowShown ground void (out_of void j) (14 * m) (code ground (store_values ground.locals (Some n) l i ls ++ store_zeros (Some n) l k m) b s)
      (put_values l i ms f w)
  fills j b l n i k m [] [] ws gs f w s apart lt ek en fits hs h sh =
      let ik : k ≡ i = omega (arith, ek) in
      subst (λ q. FlowShown ground void (out_of void j) (14 * m) (code ground (store_zeros (Some n) l q m) b s) (give Goes f w)) (sym ik)
      (zeros j b l n i m ws gs f w s apart lt (omega (arith, ek, en)) h sh)
  fills j b l n i k m [] (x ∷ ls) ws gs f w s apart lt ek en fits hs h sh = absurd (hs (ws, gs))
  fills j b l n i k m (q ∷ ms) [] ws gs f w s apart lt ek en fits hs h sh = absurd (hs (ws, gs))
  fills j b l n i k m (q ∷ ms) (x ∷ ls) ws gs f w s apart lt ek en fits hs h sh =
      let e = x ground.locals in
      let rest = store_values ground.locals (Some n) l (suc i) ls ++ store_zeros (Some n) l k m in
      subst (λ (xs : List Stm). FlowShown ground void (out_of void j) (14 * m) (code ground xs b s)
      (bind q (λ v. bind (store_lvalue (lvalue.Local l i) v) (λ _. put_values l (suc i) ms)) f w))
      (sym (append_assoc e.code (write (array.Local l) (number i) e.tree ∷ store_values ground.locals (Some n) l (suc i) ls)
      (store_zeros (Some n) l k m)))
      (flows.more ground void (out_of void j) (14 * m + 0) (14 * m) (code ground (e.code ++ (write (array.Local l) (number i) e.tree ∷ rest)) b s)
      (bind q (λ v. bind (store_lvalue (lvalue.Local l i) v) (λ _. put_values l (suc i) ms)) f w) (omega arith)
      (flows.behind ground void (only l (ws, gs)) (out_of void j) b (14 * m) 0 ground.locals s e.code
      (write (array.Local l) (number i) e.tree ∷ rest) e.tree (q f w)
      (λ v. bind (store_lvalue (lvalue.Local l i) v) (λ _. put_values l (suc i) ms))
      ((hs (ws, gs)).0 ground.locals f w s (omega arith) (omega (arith, fits)) sh)
      (λ v f1 w1 work r. let sh1 = r.shows in
      let f2 : Frame = record f1 { locals = with_word f1.locals l i v } in
      let s2 = with_elements (array.Local l) r.state (slice_set gs i v) in
      let cost = 8 + 3 * (nodes (number i) + nodes e.tree) in
      subst (λ (o : Outcome Frame Flow). FlowShown ground void (out_of void j) (14 * m + (3 * nodes e.tree + 11))
      (code ground (write (array.Local l) (number i) e.tree ∷ rest) b r.state) o)
      (sym (after_zero (put_values l (suc i) ms f2 w1)))
      (flows.more ground void (out_of void j) (14 * m + cost) (14 * m + (3 * nodes e.tree + 11))
      (code ground (write (array.Local l) (number i) e.tree ∷ rest) b r.state) (put_values l (suc i) ms f2 w1)
      (omega (arith, nodes_number i))
      (flows.priced ground void (out_of void j) (14 * m) cost (code ground rest b s2)
      (code ground (write (array.Local l) (number i) e.tree ∷ rest) b r.state) (put_values l (suc i) ms f2 w1)
      (run.joined ground.setting ground.frame (write (array.Local l) (number i) e.tree ∷ []) rest b r.state ∙
      ap (λ z. then_do z (code ground rest b))
      (writes b l i v n gs e.tree r.state (sh1.untouched l (ws, gs) (only_here l (ws, gs))).1 h.code_long
      (omega (arith, ek, en)) r.value))
      (fills j b l n (suc i) k m ms ls (slice_set ws i v) (slice_set gs i v) f2 w1 s2 apart lt (omega (arith, ek)) en
      (omega (arith, fits)) (λ both. (hs both).1) (one_further n i v ws gs (omega (arith, ek, en)) h)
      (touched l i v ws gs f1 w1 r.state lt sh1)))))))

  -- a scalar with its value
  fills_scalar : (j : Jumps) (b : Bound) (l : ℕ) (m : Evaluation ℕ) (x : Lowering) (both : List ℕ × List ℕ) (f : Frame) (w : World) (s : State) →
      ground.sizes l ≡ None → l < ground.locals → ground.locals ≤ ground.room → (x ground.locals).top ≤ ground.room →
      Correct (declaring ground (only l both)) b m x → Shows (declaring ground (only l both)) f w s →
      FlowShown ground void (out_of void j) 0 (code ground ((x ground.locals).code ++ (set l (x ground.locals).tree ∷ [])) b s)
      (put_values l 0 (m ∷ []) f w)
  fills_scalar j b l m x both f w s sz lt le fits cm sh =
      let e = x ground.locals in
      flows.behind ground void (only l both) (out_of void j) b 0 0 ground.locals s e.code (set l e.tree ∷ []) e.tree (m f w) (λ v. bind (store_lvalue (lvalue.Local l 0) v) (λ _. put_values l 1 []))
      (cm ground.locals f w s (omega arith) fits sh)
      (λ v f1 w1 work r.
      let y = val (declaring ground (only l both)) e.tree r.state in
      record {
        state = with_temp r.state l y;
        cost = 8 + 3 * nodes e.tree;
        runs = run.runs_set (declaring ground (only l both)) b l e.tree r.state;
        shows = scalar_declared l v y both f1 w1 r.state lt le sz r.value r.shows;
        nothing = λ q. refl;
        paid = omega arith;
      })

  -- ---- the declaration

  -- the words first, then the values
  cleared_first : (j : Jumps) (b : Bound) (l : ℕ) (ms : List (Evaluation ℕ)) (ls : List Lowering) (f : Frame) (w : World) (s : State) →
      l < ground.locals → ground.locals ≤ ground.room → length ls ≤ words_of_size (ground.sizes l) → values_top ground.locals ls ≤ ground.room →
      AllAt none b ms ls → Shows (resting ground) f w s →
      FlowShown ground void (out_of void j) (8 + 8 * words_of_size (ground.sizes l))
      (code ground (clear_words (ground.sizes l) l ∷ store_values ground.locals (ground.sizes l) l 0 ls) b s)
      (put_values l 0 ms (record f { locals = slice_set f.locals l (replicate (words_of_size (ground.sizes l)) 0) }) w)
  cleared_first j b l ms ls f w s lt le inside fits hs h =
      let n = words_of_size (ground.sizes l) in
      let f1 : Frame = record f { locals = slice_set f.locals l (replicate n 0) } in
      let r = clears j b l (ground.sizes l) f w s refl lt le h in
      let rest = store_values ground.locals (ground.sizes l) l 0 ls in
      flows.more ground void (out_of void j) (0 + r.cost) (8 + 8 * n) (code ground (clear_words (ground.sizes l) l ∷ rest) b s) (put_values l 0 ms f1 w) (omega (arith, r.paid))
      (flows.priced ground void (out_of void j) 0 r.cost (code ground rest b r.state) (code ground (clear_words (ground.sizes l) l ∷ rest) b s) (put_values l 0 ms f1 w)
      (run.joined ground.setting ground.frame (clear_words (ground.sizes l) l ∷ []) rest b s ∙ ap (λ q. then_do q (code ground rest b)) r.runs)
      (stores j b l 0 ms ls f1 w r.state lt le (omega (arith, inside)) fits hs r.shows))

  starts : (n : ℕ) (gs : List ℕ) → length gs ≡ n → Halfway n 0 (replicate n 0) gs
  starts n gs long = record { source_long = length-replicate n 0; code_long = long; before = λ k lt. absurd (omega (arith, lt)); behind = λ k le. zeros_at n k }

  -- the values first
  values_first : (j : Jumps) (b : Bound) (l : ℕ) (size : Option ℕ) (ms : List (Evaluation ℕ)) (ls : List Lowering) (f : Frame) (w : World) (s : State) →
      ground.sizes l ≡ size → l < ground.locals → ground.locals ≤ ground.room → length ls ≤ words_of_size size → 0 < length ls →
      values_top ground.locals ls ≤ ground.room → ((both : List ℕ × List ℕ) → AllAt (only l both) b ms ls) → Shows (resting ground) f w s →
      FlowShown ground void (out_of void j) (14 * (words_of_size size - length ls))
      (code ground (store_values ground.locals size l 0 ls ++ store_zeros size l (length ls) (words_of_size size - length ls)) b s)
      (put_values l 0 ms (record f { locals = slice_set f.locals l (replicate (words_of_size size) 0) }) w)
  values_first j b l (Some n) ms ls f w s sz lt le inside some fits hs h =
      let gs = slice_index_or s.arrays l [] in
      let f1 : Frame = record f { locals = slice_set f.locals l (replicate n 0) } in
      let apart : ground.sizes l ≡ None → ⊥ = λ q. some_none (sym sz ∙ q) in
      let long : length gs ≡ n = ap length (h.elements l lt (apart, refl)) ∙ h.words l lt ∙ ap words_of_size sz in
      fills j b l n 0 (length ls) (n - length ls) ms ls (replicate n 0) gs f1 w s apart lt (omega arith) (omega (arith, inside)) fits hs (starts n gs long)
      (hidden l (replicate n 0) f w s lt (length-replicate n 0 ∙ ap words_of_size (sym sz)) h)
    where
      some_none : Some n ≡ None → ⊥
      some_none q = subst Is q tt
        where
          Is : Option ℕ → Type 0
          Is None = ⊥
          Is (Some x) = Unit {0}
  values_first j b l None ms [] f w s sz lt le inside some fits hs h = absurd (omega (arith, some))
  values_first j b l None [] (x ∷ ls) f w s sz lt le inside some fits hs h = absurd (hs ([], []))
  values_first j b l None (m ∷ ms) (x ∷ y ∷ ls) f w s sz lt le inside some fits hs h = absurd (omega (arith, inside))
  values_first j b l None (m ∷ q ∷ ms) (x ∷ []) f w s sz lt le inside some fits hs h = absurd (hs ([], [])).1
  values_first j b l None (m ∷ []) (x ∷ []) f w s sz lt le inside some fits hs h =
      let gs = slice_index_or s.arrays l [] in
      let zs : List ℕ = 0 ∷ [] in
      let f1 : Frame = record f { locals = slice_set f.locals l zs } in
      let e = x ground.locals in
      subst (λ (xs : List Stm). FlowShown ground void (out_of void j) (14 * (1 - 1)) (code ground xs b s) (put_values l 0 (m ∷ []) f1 w)) (sym (append_assoc e.code (set l e.tree ∷ []) []))
      (flows.more ground void (out_of void j) 0 (14 * (1 - 1)) (code ground (e.code ++ (set l e.tree ∷ [])) b s) (put_values l 0 (m ∷ []) f1 w) (omega arith)
      (fills_scalar j b l m x (zs, gs) f1 w s sz lt le (omega (arith, fits)) (hs (zs, gs)).0 (hidden l zs f w s lt (ap words_of_size (sym sz)) h)))

  not_cheap : (n k : ℕ) → nat_le (8 * n) (92 * (n - k)) ≡ false → 0 < k
  not_cheap n k e = by (cases_lt 0 k)
    where
      by : (0 < k) ⊎ (k ≤ 0) → 0 < k
      by (inl lt) = lt
      by (inr ge) = absurd (contrary (sym e ∙ le-leb (8 * n) (92 * (n - k)) (omega (arith, ge))))
        where
          contrary : false ≡ true → ⊥
          contrary q = subst Is q tt
            where
              Is : Bool → Type 0
              Is true = ⊥
              Is false = Unit {0}

  pub clear_correct : (j : Jumps) (b : Bound) (l : ℕ) (names_itself : Bool) (ms : List (Evaluation ℕ)) (ls : List Lowering) → l < ground.locals →
      ground.locals ≤ ground.room → length ms ≡ length ls → length ls ≤ words_of_size (ground.sizes l) → values_top ground.locals ls ≤ ground.room →
      AllAt none b ms ls → (names_itself ≡ false → (both : List ℕ × List ℕ) → AllAt (only l both) b ms ls) →
      FlowCorrect ground void (out_of void j) 72 b (clear_local l names_itself ms)
      (lower_clear ground.locals (ground.sizes l) l names_itself ls j).code
  clear_correct j b l names_itself ms ls lt le same inside fits all others f w s h =
      subst (λ k. FlowShown ground void (out_of void j) 72 (code ground (lower_clear ground.locals (ground.sizes l) l names_itself ls j).code b s)
      (after (cond names_itself k (k - length ms)) (put_values l 0 ms (record f { locals = slice_set f.locals l (replicate k 0) }) w)))
      (sym size_is) (subst (λ k. FlowShown ground void (out_of void j) 72
      (code ground (lower_clear ground.locals (ground.sizes l) l names_itself ls j).code b s)
      (after (cond names_itself n (n - k)) (put_values l 0 ms f1 w))) (sym same)
      (by names_itself (nat_le (8 * n) (92 * (n - length ls))) refl (λ z. others z)))
    where
      n : ℕ
      n = words_of_size (ground.sizes l)

      size_is : size_of f.locals l ≡ n
      size_is = ap length (objects_at f.locals l) ∙ h.words l lt

      f1 : Frame
      f1 = record f { locals = slice_set f.locals l (replicate n 0) }

      by : (z c : Bool) → nat_le (8 * n) (92 * (n - length ls)) ≡ c → (z ≡ false → (both : List ℕ × List ℕ) → AllAt (only l both) b ms ls) →
          FlowShown ground void (out_of void j) 72
          (code ground (cond (z || c) (clear_words (ground.sizes l) l ∷ store_values ground.locals (ground.sizes l) l 0 ls)
          (store_values ground.locals (ground.sizes l) l 0 ls ++ store_zeros (ground.sizes l) l (length ls) (n - length ls))) b s)
          (after (cond z n (n - length ls)) (put_values l 0 ms f1 w))
      by true c e free =
          flows.paid_by ground void (out_of void j) 72 n _ (put_values l 0 ms f1 w)
          (flows.more ground void (out_of void j) (8 + 8 * n) (72 + 100 * n) _ (put_values l 0 ms f1 w) (omega arith)
          (cleared_first j b l ms ls f w s lt le inside fits all h))
      by false true e free =
          flows.paid_by ground void (out_of void j) 72 (n - length ls) _ (put_values l 0 ms f1 w)
          (flows.more ground void (out_of void j) (8 + 8 * n) (72 + 100 * (n - length ls)) _ (put_values l 0 ms f1 w) (omega (arith, leb-true (8 * n) (92 * (n - length ls)) e))
          (cleared_first j b l ms ls f w s lt le inside fits all h))
      by false false e free =
          flows.paid_by ground void (out_of void j) 72 (n - length ls) _ (put_values l 0 ms f1 w)
          (flows.more ground void (out_of void j) (14 * (n - length ls)) (72 + 100 * (n - length ls)) _ (put_values l 0 ms f1 w) (omega arith)
          (values_first j b l (ground.sizes l) ms ls f w s refl lt le inside (not_cheap n (length ls) e) fits (free refl) h))
