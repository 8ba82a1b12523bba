-- Choices that are put together keep the meaning of code, at no greater cost.
use Rattle.std.proofs.Common.{arith, ◌≡◌, ℕ, ◌+◌, ◌*◌, ◌≤◌, Bool, true, false, cond, not, eqb, List, [], ◌∷◌, ◌++◌, length, map, refl, sym, ◌∙◌, ap, subst}
use Rattle.std.specs.Prelude.{slice_set}
use Rattle.std.proofs.Math.Bool.{not-not}
use Rattle.std.proofs.lemmas.List.{length-set, get_or-set_other}
use Rattle.std.proofs.lemmas.Grind.{get_or-set_at}
use Rattle.mv_num.specs.Words.{as_word}
use Rattle.mv_num.proofs.Booleans.{from_falsity}
use Rattle.mv_ir.specs.declared.tree.Tree.{Tree}
use Rattle.mv_ir.specs.declared.tree.Tree.TheOpen as tree
use Rattle.mv_ir.specs.declared.stm.Stm.{Stm}
use Rattle.mv_ir.specs.declared.stm.Stm.TheOpen as stm
use Rattle.mv_ir.specs.declared.body.Body.{Body}
use Rattle.mv_ir.specs.Operators as operator
use Rattle.mv_ir.specs.World.{Setting, Frame}
use Rattle.mv_ir.specs.Trees.{Value, value, nodes, unary as on_one, binary as on_two}
use Rattle.mv_ir.specs.Outcome.{State, Run, Bound, Meaning, spend, goes_on, then_do, in_order}
use Rattle.mv_ir.specs.Meaning.{meaning, code_meaning, entry_state}
use Rattle.mv_ir.specs.Keeps.{KeepsRun, KeepsBody}
use Rattle.mv_ir.specs.Live.{Around, nowhere}
use Rattle.mv_ir.specs.Rolled.{number, temp, unary, binary, set, choose, repeat, enclosed}
use Rattle.mv_ir.proofs.Induction.{Each}
use Rattle.mv_ir.proofs.Rolls.{value_roll, nodes_roll}
use Rattle.mv_ir.proofs.Keeping.{run_same, run_equal, in_order_append, map_append, meaning_roll, one_meaning}
use Rattle.mv_ir.proofs.Relating.{Rel, StateRel, Places, OutcomeRel, RunRel, MeaningRel, append_rel, end_same}
use Rattle.mv_ir.proofs.Joining.{temps_enough}
use Rattle.mv_tidy.specs.Tidying.{lives, before, in_loop, in_block}
use Rattle.mv_tidy.specs.Choosing.{is_jump, taken, IsUnread, Chosen}
use Rattle.mv_tidy.proofs.TidiedKept.{Agree, places, outcome_trans, transitive, IsSelf, self, self_kids, turns_rel, block_kept_rel}
use Rattle.mv_tidy.proofs.ChosenSteps.{IsStepwise, steps_is, by_jump}

-- ---- runs of a choice

rel_of : (q : Places) (x x' y y' : Run) → x ≡ x' → y ≡ y' → RunRel q x' y' → RunRel q x y
rel_of q x x' y y' e k h = subst (λ z. RunRel q z y) (sym e) (subst (RunRel q x') (sym k) h)

keeps_of : (x x' y y' : Run) → x ≡ x' → y ≡ y' → KeepsRun x' y' → KeepsRun x y
keeps_of x x' y y' e k h = subst (λ z. KeepsRun z y) (sym e) (subst (KeepsRun x') (sym k) h)

either_rel : (q : Places) (c : Bool) (n : ℕ) (x x' y y' : Run) → RunRel q x x' → RunRel q y y' → RunRel q (spend n (cond c y x)) (spend n (cond c y' x'))
either_rel q true n x x' y y' h k = record { outcome = k.outcome; cheaper = omega (arith, k.cheaper) }
either_rel q false n x x' y y' h k = record { outcome = h.outcome; cheaper = omega (arith, h.cheaper) }

asked_rel : (q : Places) (c : Bool) (n k : ℕ) (x x' y y' : Run) → RunRel q x x' → RunRel q y y' →
    RunRel q (spend n (spend k (cond c y x))) (spend n (cond c y' x'))
asked_rel q true n k x x' y y' h g = record { outcome = g.outcome; cheaper = omega (arith, g.cheaper) }
asked_rel q false n k x x' y y' h g = record { outcome = h.outcome; cheaper = omega (arith, h.cheaper) }

-- under a condition that tells the same, or the opposite
same_keeps : (c c' : Bool) (n n' : ℕ) (x y : Run) → c ≡ c' → n' ≤ n → KeepsRun (spend n (cond c y x)) (spend n' (cond c' y x))
same_keeps c c' n n' x y e le = subst (λ b. KeepsRun (spend n (cond c y x)) (spend n' (cond b y x))) e (record { same = refl; cheaper = omega (arith, le) })

opposite_keeps : (c c' : Bool) (n n' : ℕ) (x y : Run) → c ≡ not c' → n' ≤ n → KeepsRun (spend n (cond c y x)) (spend n' (cond c' x y))
opposite_keeps c c' n n' x y e le = subst (λ b. KeepsRun (spend n (cond b y x)) (spend n' (cond c' x y))) (sym e) (by c')
  where
    by : (b : Bool) → KeepsRun (spend n (cond (not b) y x)) (spend n' (cond b x y))
    by true = record { same = refl; cheaper = omega (arith, le) }
    by false = record { same = refl; cheaper = omega (arith, le) }

-- what is done behind both sides
behind_both : (c : Bool) (n : ℕ) (x y x' y' : Run) (f : State → Run) → x' ≡ then_do x f → y' ≡ then_do y f →
    then_do (spend n (cond c y x)) f ≡ spend n (cond c y' x')
behind_both true n x y x' y' f e k = run_same (then_do (spend n y) f) (spend n (then_do y f)) refl (omega arith) ∙ ap (spend n) (sym k)
behind_both false n x y x' y' f e k = run_same (then_do (spend n x) f) (spend n (then_do x f)) refl (omega arith) ∙ ap (spend n) (sym e)

-- ---- conditions

not_value : (a : ℕ) → on_one operator.logical_not a ≡ as_word (eqb a 0)
unfolding on_one
not_value a = refl

equal_value : (a b : ℕ) → on_two operator.equal a b ≡ as_word (eqb a b)
unfolding on_two
equal_value a b = refl

differs_value : (a b : ℕ) → on_two operator.not_equal a b ≡ as_word (not (eqb a b))
unfolding on_two
differs_value a b = refl

word_is_zero : (b : Bool) → eqb (as_word b) 0 ≡ not b
word_is_zero true = refl
word_is_zero false = refl

module _ (temps : ℕ) (setting : Setting) (frame : Frame) where
  abbrev A : (ℕ → Bool) → Rel
  A = Agree temps setting frame

  abbrev P : (ℕ → Around) → Places
  P = places temps setting frame

  abbrev C : List Stm → Meaning
  C = code_meaning setting frame

  abbrev of : Tree → State → ℕ
  of t s = value setting.numbers frame.bound t s.temps s.world.globals

  -- from each state with the temporaries it goes on to states that agree where it matters
  abbrev pub Keeps : (ℕ → Around) → List Stm → List Stm → Type 0
  Keeps r xs ys = (bound : Bound) (s : State) → temps ≤ length s.temps → RunRel (P r) (C xs bound s) (C ys bound s)

  own : (live : ℕ → Bool) (s : State) → temps ≤ length s.temps → StateRel (A live) s s
  own live s room = record { temps = record { long = refl; room = room; same = λ t e. refl }; arrays = refl; world = refl }

  self_all : (xs : List Stm) → Each (IsSelf temps setting frame) xs
  self_all [] = tt
  self_all (s ∷ xs) = (self temps setting frame s, self_all xs)

  self_code : (r : ℕ → Around) (xs : List Stm) → MeaningRel (A (lives r xs)) (P r) (C xs) (C xs)
  self_code r xs = self_kids temps setting frame xs (self_all xs) r

  -- so it does from any two states that agree where it matters
  full : (r : ℕ → Around) (xs ys : List Stm) → Keeps r xs ys → MeaningRel (A (lives r xs)) (P r) (C xs) (C ys)
  full r xs ys h bound s s' e =
      let a = self_code r xs bound s s' e in
      let b = h bound s' (let k = e.temps.room in let l = e.temps.long in omega (arith, k, l)) in
      record {
        outcome = outcome_trans (P r) (transitive temps setting frame r (λ t. (r t).next)) _ _ _ a.outcome b.outcome;
        cheaper = omega (arith, a.cheaper, b.cheaper);
      }

  exactly : (r : ℕ → Around) (xs ys : List Stm) → ((bound : Bound) (s : State) → KeepsRun (C xs bound s) (C ys bound s)) → Keeps r xs ys
  exactly r xs ys h bound s room =
      let k = h bound s in
      record { outcome = subst (OutcomeRel (P r) (C xs bound s).outcome) k.same (self_code r xs bound s s (own _ s room)).outcome; cheaper = k.cheaper }

  -- ---- one after the other

  keep_itself : (r : ℕ → Around) (xs : List Stm) → Keeps r xs xs
  keep_itself r xs bound s room = self_code r xs bound s s (own _ s room)

  keep_trans : (r : ℕ → Around) (xs ys zs : List Stm) → Keeps r xs ys → Keeps r ys zs → Keeps r xs zs
  keep_trans r xs ys zs h k bound s room =
      let a = h bound s room in
      let b = k bound s room in
      record {
        outcome = outcome_trans (P r) (transitive temps setting frame r (λ t. (r t).next)) _ _ _ a.outcome b.outcome;
        cheaper = omega (arith, a.cheaper, b.cheaper);
      }

  keep_both : (r : ℕ → Around) (xs xs' ys ys' : List Stm) → Keeps (before r ys) xs xs' → Keeps r ys ys' → Keeps r (xs ++ ys) (xs' ++ ys')
  keep_both r xs xs' ys ys' h k bound s room =
      let m = meaning setting frame in
      rel_of (P r) _ _ _ _ (ap (λ l. in_order l bound s) (map_append m xs ys)) (ap (λ l. in_order l bound s) (map_append m xs' ys'))
      (append_rel (A (lives (before r ys) xs)) (A (lives r ys)) (P r) (map m xs) (map m xs') (map m ys) (map m ys') (full (before r ys) xs xs' h)
      (full r ys ys' k) bound s s (own _ s room))

  -- ---- choices

  choice_runs : (c : Tree) (x y : List Stm) (bound : Bound) (s : State) →
      C (choose c x y ∷ []) bound s ≡ spend (8 + 3 * nodes c) (cond (eqb (of c s) 0) (C y bound s) (C x bound s))
  choice_runs c x y bound s = one_meaning setting frame (stm.If c x y) bound s

  keep_branch : (r : ℕ → Around) (c : Tree) (a a' b b' : List Stm) → Keeps r a a' → Keeps r b b' → Keeps r (choose c a b ∷ []) (choose c a' b' ∷ [])
  keep_branch r c a a' b b' h k bound s room =
      rel_of (P r) _ _ _ _ (choice_runs c a b bound s) (choice_runs c a' b' bound s)
      (either_rel (P r) (eqb (of c s) 0) _ _ _ _ _ (h bound s room) (k bound s room))

  number_value : (n : ℕ) (s : State) → of (number n) s ≡ n
  number_value n s = ap (λ f. f s.temps s.world.globals) (value_roll setting.numbers frame.bound (tree.Number n))

  denied_value : (k : Tree) (s : State) → eqb (of (unary operator.logical_not k) s) 0 ≡ not (eqb (of k s) 0)
  denied_value k s =
      ap (λ (f : Value). eqb (f s.temps s.world.globals) 0) (value_roll setting.numbers frame.bound (tree.Unary operator.logical_not k)) ∙
      ap (λ v. eqb v 0) (not_value (of k s)) ∙ word_is_zero (eqb (of k s) 0)

  equal_zero : (k : Tree) (s : State) → eqb (of (binary operator.equal k (number 0)) s) 0 ≡ not (eqb (of k s) 0)
  equal_zero k s =
      ap (λ (f : Value). eqb (f s.temps s.world.globals) 0) (value_roll setting.numbers frame.bound (tree.Binary operator.equal k (number 0))) ∙
      ap (λ v. eqb v 0) (equal_value (of k s) (of (number 0) s)) ∙ word_is_zero (eqb (of k s) (of (number 0) s)) ∙
      ap (λ z. not (eqb (of k s) z)) (number_value 0 s)

  differs_zero : (k : Tree) (s : State) → eqb (of (binary operator.not_equal k (number 0)) s) 0 ≡ eqb (of k s) 0
  differs_zero k s =
      ap (λ (f : Value). eqb (f s.temps s.world.globals) 0) (value_roll setting.numbers frame.bound (tree.Binary operator.not_equal k (number 0))) ∙
      ap (λ v. eqb v 0) (differs_value (of k s) (of (number 0) s)) ∙ word_is_zero (not (eqb (of k s) (of (number 0) s))) ∙
      not-not (eqb (of k s) (of (number 0) s)) ∙ ap (λ z. eqb (of k s) z) (number_value 0 s)

  keep_denies : (r : ℕ → Around) (k : Tree) (x y : List Stm) → Keeps r (choose (unary operator.logical_not k) x y ∷ []) (choose k y x ∷ [])
  keep_denies r k x y = exactly r (choose (unary operator.logical_not k) x y ∷ []) (choose k y x ∷ [])
      (λ bound s. keeps_of _ _ _ _ (choice_runs (unary operator.logical_not k) x y bound s) (choice_runs k y x bound s)
      (opposite_keeps _ _ _ _ (C x bound s) (C y bound s) (denied_value k s) (omega (arith, nodes_roll (tree.Unary operator.logical_not k)))))

  keep_equals : (r : ℕ → Around) (k : Tree) (x y : List Stm) → Keeps r (choose (binary operator.equal k (number 0)) x y ∷ []) (choose k y x ∷ [])
  keep_equals r k x y = exactly r (choose (binary operator.equal k (number 0)) x y ∷ []) (choose k y x ∷ [])
      (λ bound s. keeps_of _ _ _ _ (choice_runs (binary operator.equal k (number 0)) x y bound s) (choice_runs k y x bound s)
      (opposite_keeps _ _ _ _ (C x bound s) (C y bound s) (equal_zero k s) (omega (arith, nodes_roll (tree.Binary operator.equal k (number 0))))))

  keep_differs : (r : ℕ → Around) (k : Tree) (x y : List Stm) → Keeps r (choose (binary operator.not_equal k (number 0)) x y ∷ []) (choose k x y ∷ [])
  keep_differs r k x y = exactly r (choose (binary operator.not_equal k (number 0)) x y ∷ []) (choose k x y ∷ [])
      (λ bound s. keeps_of _ _ _ _ (choice_runs (binary operator.not_equal k (number 0)) x y bound s) (choice_runs k x y bound s)
      (same_keeps _ _ _ _ (C x bound s) (C y bound s) (differs_zero k s) (omega (arith, nodes_roll (tree.Binary operator.not_equal k (number 0))))))

  -- ---- code behind a choice

  joined_runs : (xs ys : List Stm) (bound : Bound) (s : State) → C (xs ++ ys) bound s ≡ then_do (C xs bound s) (C ys bound)
  joined_runs xs ys bound s = ap (λ l. in_order l bound s) (map_append (meaning setting frame) xs ys) ∙
      in_order_append (map (meaning setting frame) xs) (map (meaning setting frame) ys) bound s

  inside_runs : (c : Tree) (x y code : List Stm) (bound : Bound) (s : State) →
      C (choose c x y ∷ code) bound s ≡ C (choose c (x ++ code) (y ++ code) ∷ []) bound s
  inside_runs c x y code bound s =
      ap (λ (f : Meaning). then_do (f bound s) (C code bound)) (meaning_roll setting frame (stm.If c x y)) ∙
      behind_both (eqb (of c s) 0) (8 + 3 * nodes c) (C x bound s) (C y bound s) (C (x ++ code) bound s) (C (y ++ code) bound s) (C code bound)
      (joined_runs x code bound s) (joined_runs y code bound s) ∙
      sym (choice_runs c (x ++ code) (y ++ code) bound s)

  keep_inside : (r : ℕ → Around) (c : Tree) (x y code : List Stm) → Keeps r (choose c x y ∷ code) (choose c (x ++ code) (y ++ code) ∷ [])
  keep_inside r c x y code = exactly r (choose c x y ∷ code) (choose c (x ++ code) (y ++ code) ∷ []) (λ bound s. run_equal _ _ (inside_runs c x y code bound s))

  keep_outside : (r : ℕ → Around) (c : Tree) (x y code : List Stm) → Keeps r (choose c (x ++ code) (y ++ code) ∷ []) (choose c x y ∷ code)
  keep_outside r c x y code = exactly r (choose c (x ++ code) (y ++ code) ∷ []) (choose c x y ∷ code)
      (λ bound s. run_equal _ _ (sym (inside_runs c x y code bound s)))

  -- behind a jump nothing runs
  jump_runs : (xs code : List Stm) (bound : Bound) (s : State) → is_jump xs ≡ true → C (xs ++ code) bound s ≡ C xs bound s
  jump_runs xs code bound s = by_jump (λ l. C (l ++ code) bound s ≡ C l bound s)
      (λ n. ap (λ (f : Meaning). then_do (f bound s) (C code bound)) (meaning_roll setting frame (stm.Break n)) ∙
      sym (ap (λ (f : Meaning). then_do (f bound s) (C [] bound)) (meaning_roll setting frame (stm.Break n))))
      (λ n. ap (λ (f : Meaning). then_do (f bound s) (C code bound)) (meaning_roll setting frame (stm.Back n)) ∙
      sym (ap (λ (f : Meaning). then_do (f bound s) (C [] bound)) (meaning_roll setting frame (stm.Back n)))) xs

  chosen_runs : (e : Tree) (x x' y y' : List Stm) (bound : Bound) (s : State) → C x bound s ≡ C x' bound s → C y bound s ≡ C y' bound s →
      C (choose e x y ∷ []) bound s ≡ C (choose e x' y' ∷ []) bound s
  chosen_runs e x x' y y' bound s h k =
      choice_runs e x y bound s ∙ ap (λ z. spend (8 + 3 * nodes e) (cond (eqb (of e s) 0) (C y bound s) z)) h ∙
      ap (λ z. spend (8 + 3 * nodes e) (cond (eqb (of e s) 0) z (C x' bound s))) k ∙ sym (choice_runs e x' y' bound s)

  parts_runs : (c : Bool) (e : Tree) (x y : List Stm) (bound : Bound) (s : State) → is_jump (cond c x y) ≡ true →
      C (choose e x y ∷ []) bound s ≡ C (choose e (cond c x []) (cond c [] y) ∷ cond c y x) bound s
  parts_runs true e x y bound s j = chosen_runs e x (x ++ y) y y bound s (sym (jump_runs x y bound s j)) refl ∙ sym (inside_runs e x [] y bound s)
  parts_runs false e x y bound s j = chosen_runs e x x y (y ++ x) bound s refl (sym (jump_runs y x bound s j)) ∙ sym (inside_runs e [] y x bound s)

  keep_parts : (r : ℕ → Around) (n : ℕ) (e : Tree) (x y : List Stm) → is_jump (taken n y x) ≡ true →
      Keeps r (choose e x y ∷ []) (choose e (cond (eqb n 0) x []) (cond (eqb n 0) [] y) ∷ taken n x y)
  keep_parts r n e x y j = exactly r (choose e x y ∷ []) (choose e (cond (eqb n 0) x []) (cond (eqb n 0) [] y) ∷ taken n x y)
      (λ bound s. run_equal _ _ (parts_runs (eqb n 0) e x y bound s j))

  -- ---- a temporary that is set, and asked for

  module _ (r : ℕ → Around) (t : ℕ) (e : Tree) (x y : List Stm) (unread : IsUnread temps r x y t) where
    abbrev both : List Stm
    both = set t e ∷ choose (temp t) x y ∷ []

    module _ (bound : Bound) (s : State) (room : temps ≤ length s.temps) where
      abbrev after : State
      after = record s { temps = slice_set s.temps t (of e s) }

      set_runs : C both bound s ≡ spend (8 + 3 * nodes e)
          (spend (8 + 3 * nodes (temp t)) (cond (eqb (of (temp t) after) 0) (C y bound after) (C x bound after)))
      set_runs =
          ap (λ (f : Meaning). spend (f bound s).cost (goes_on (f bound s).outcome (C (choose (temp t) x y ∷ []) bound)))
          (meaning_roll setting frame (stm.Set t e)) ∙
          ap (spend (8 + 3 * nodes e)) (choice_runs (temp t) x y bound after)

      there : of (temp t) after ≡ of e s
      there = ap (λ (f : Value). f after.temps after.world.globals) (value_roll setting.numbers frame.bound (tree.Temp t)) ∙
          get_or-set_at s.temps t t (of e s) 0 refl (let lt = unread.0 in omega (arith, room, lt))

      side : (xs : List Stm) → lives r xs t ≡ false → RunRel (P r) (C xs bound after) (C xs bound s)
      side xs d = self_code r xs bound after s (record {
        temps = record {
          long = length-set s.temps t (of e s);
          room = (let k = length-set s.temps t (of e s) in omega (arith, room, k));
          same = λ u l. get_or-set_other s.temps t u (of e s) 0 (λ q. from_falsity (sym d ∙ ap (lives r xs) (sym q) ∙ l));
        };
        arrays = refl;
        world = refl;
      })

      asked : RunRel (P r) (C both bound s) (spend (8 + 3 * nodes e) (cond (eqb (of e s) 0) (C y bound s) (C x bound s)))
      asked = subst (λ z. RunRel (P r) z (spend (8 + 3 * nodes e) (cond (eqb (of e s) 0) (C y bound s) (C x bound s)))) (sym set_runs)
          (subst (λ v. RunRel (P r) (spend (8 + 3 * nodes e) (spend (8 + 3 * nodes (temp t)) (cond (eqb v 0) (C y bound after) (C x bound after))))
          (spend (8 + 3 * nodes e) (cond (eqb (of e s) 0) (C y bound s) (C x bound s)))) (sym there)
          (asked_rel (P r) (eqb (of e s) 0) _ _ _ _ _ _ (side x unread.1.0) (side y unread.1.1)))

      -- the side that a known value takes
      spent : (c : Bool) → RunRel (P r) (C both bound s) (spend (8 + 3 * nodes e) (cond c (C y bound s) (C x bound s))) →
          RunRel (P r) (C both bound s) (C (cond c y x) bound s)
      spent true h = record { outcome = h.outcome; cheaper = (let l = h.cheaper in omega (arith, l)) }
      spent false h = record { outcome = h.outcome; cheaper = (let l = h.cheaper in omega (arith, l)) }

      picked : (c : Bool) → eqb (of e s) 0 ≡ c → RunRel (P r) (C both bound s) (C (cond c y x) bound s)
      picked c h = spent c (subst (λ b. RunRel (P r) (C both bound s) (spend (8 + 3 * nodes e) (cond b (C y bound s) (C x bound s)))) h asked)

    keep_asks : Keeps r both (choose e x y ∷ [])
    keep_asks bound s room = subst (RunRel (P r) (C both bound s)) (sym (choice_runs e x y bound s)) (asked bound s room)

  keep_takes : (r : ℕ → Around) (t n : ℕ) (x y : List Stm) → IsUnread temps r x y t → Keeps r (set t (number n) ∷ choose (temp t) x y ∷ []) (taken n x y)
  keep_takes r t n x y d bound s room = picked r t (number n) x y d bound s room (eqb n 0) (ap (λ v. eqb v 0) (number_value n s))

  -- ---- loops and blocks

  keep_loop : (r : ℕ → Around) (b b' : List Stm) → Keeps (in_loop r b) b b' → Keeps r (repeat b ∷ []) (repeat b' ∷ [])
  keep_loop r b b' h bound s room =
      rel_of (P r) _ _ _ _ (one_meaning setting frame (stm.Loop b) bound s) (one_meaning setting frame (stm.Loop b') bound s)
      (turns_rel temps setting frame r b b' (full (in_loop r b) b b' h) bound s s (own _ s room))

  keep_enclosed : (r : ℕ → Around) (b b' : List Stm) → Keeps (in_block r) b b' → Keeps r (enclosed b ∷ []) (enclosed b' ∷ [])
  keep_enclosed r b b' h bound s room =
      rel_of (P r) _ _ _ _ (one_meaning setting frame (stm.Block b) bound s) (one_meaning setting frame (stm.Block b') bound s)
      (block_kept_rel temps setting frame r b b' (full (in_block r) b b' h) bound s s (own _ s room))

  -- ---- code

  keeps_stepwise : IsStepwise temps Keeps
  keeps_stepwise = record {
    itself = keep_itself;
    both = keep_both;
    trans = keep_trans;
    branch = keep_branch;
    loop = keep_loop;
    enclose = keep_enclosed;
    denies = keep_denies;
    differs = keep_differs;
    equals = keep_equals;
    inside = keep_inside;
    outside = keep_outside;
    asks = keep_asks;
    takes = keep_takes;
    parts = keep_parts;
  }

  pub code_keeps : (r : ℕ → Around) (code result : List Stm) → Chosen temps r code result → Keeps r code result
  code_keeps = steps_is temps Keeps keeps_stepwise

-- ---- bodies

pub chosen_keeps : (b : Body) (code : List Stm) → Chosen b.temps (λ t. nowhere) b.code code → KeepsBody b (record b { code = code })
chosen_keeps b code k setting frame contents args bound w =
    let run = code_keeps b.temps setting frame (λ t. nowhere) b.code code k bound (entry_state contents b args w) (temps_enough contents.temps b.temps args) in
    record { same = end_same (places b.temps setting frame (λ t. nowhere)) _ _ run.outcome; cheaper = run.cheaper }
