-- A short body means the same in each frame and at each bound: straight code returns a value of the temporaries alone.
use Rattle.std.proofs.Common.{arith, ◌≡◌, ℕ, ◌+◌, ◌*◌, Bool, true, cond, eqb, List, [], ◌∷◌, length, Some, refl, sym, ◌∙◌, ap}
use Rattle.std.specs.Prelude.{◌≢◌, slice_set}
use Rattle.std.proofs.lemmas.Bool.{ne_eqb}
use Rattle.mv_num.specs.Words as word
use Rattle.mv_num.proofs.Booleans.{and_left, and_right, from_falsity}
use Rattle.mv_bindings.specs.Traps as trap
use Rattle.mv_ir.specs.declared.tree.Tree.{Tree}
use Rattle.mv_ir.specs.declared.tree.Tree.TheOpen.{Tree-F}
use Rattle.mv_ir.specs.declared.tree.Tree.TheOpen as tree
use Rattle.mv_ir.specs.declared.tree.Tree.TheViews.{roll-Tree}
use Rattle.mv_ir.specs.declared.tree.Tree.TheFolds.{map-Tree}
use Rattle.mv_ir.specs.declared.stm.Stm.{Stm}
use Rattle.mv_ir.specs.declared.stm.Stm.TheOpen as stm
use Rattle.mv_ir.specs.declared.body.Body.{Body}
use Rattle.mv_ir.specs.World.{World, Setting, Frame}
use Rattle.mv_ir.specs.Trees as trees
use Rattle.mv_ir.specs.Trees.{Value, tree_value, unary, binary, value, nodes}
use Rattle.mv_ir.specs.Outcome.{State, Returned, Outcome, Next, Ends, Run, Bound, Meaning, spend, then_do}
use Rattle.mv_ir.specs.Meaning.{of_tree, with_temp, traps, code_meaning, first_temps, entry_state, call_from, cleared, body_meaning}
use Rattle.mv_ir.specs.Live.{below}
use Rattle.mv_ir.specs.Rolled.{number, set, divide}
use Rattle.mv_ir.specs.Shorts.{any_frame}
use Rattle.mv_ir.proofs.Induction.{TreeChildren, tree_ind}
use Rattle.mv_ir.proofs.Rolls.{value_roll}
use Rattle.mv_ir.proofs.Keeping.{run_same, meaning_roll, one_meaning}
use Rattle.mv_expand.specs.Straight.{layer_reads_only, reads_only, Straight, returns, sets, divides, IsShort}
use Rattle.mv_expand.specs.Placed.{straight_cost}
use Rattle.mv_expand.proofs.Rolls.{reads_only_roll}
use Rattle.mv_expand.proofs.Costs.{cost_cons, set_cost, divide_cost, return_cost}

-- ---- trees

-- the value of a tree in which nothing but temporaries is read
abbrev pub plain : Tree → List ℕ → ℕ
plain v xs = value [] [] v xs []

module _ (numbers : List ℕ) (bound : List (ℕ × ℕ)) (known xs : List ℕ) (globals : List (List ℕ)) where
  abbrev IsPlain : Tree → Type 0
  IsPlain v = reads_only known v ≡ true → value numbers bound v xs globals ≡ plain v xs

  here : (numbers : List ℕ) (bound : List (ℕ × ℕ)) (globals : List (List ℕ)) (x : Tree-F Tree) → value numbers bound (roll-Tree x) xs globals ≡ tree_value numbers bound (map-Tree Tree Value (value numbers bound) x) xs globals
  here numbers bound globals x = ap (λ f. f xs globals) (value_roll numbers bound x)

  through : (x : Tree-F Tree) →
      tree_value numbers bound (map-Tree Tree Value (value numbers bound) x) xs globals ≡ tree_value [] [] (map-Tree Tree Value (value [] []) x) xs [] →
      value numbers bound (roll-Tree x) xs globals ≡ plain (roll-Tree x) xs
  through x e = here numbers bound globals x ∙ e ∙ sym (here [] [] [] x)

  plain_layer : (x : Tree-F Tree) → TreeChildren IsPlain x → layer_reads_only known (map-Tree Tree Bool (reads_only known) x) ≡ true → value numbers bound (roll-Tree x) xs globals ≡ plain (roll-Tree x) xs
  plain_layer (tree.Number n) h k = through (tree.Number n) refl
  plain_layer (tree.Temp t) h k = through (tree.Temp t) refl
  plain_layer (tree.Global g) h k = from_falsity k
  plain_layer (tree.Function f) h k = from_falsity k
  plain_layer (tree.Unary o a) h k = through (tree.Unary o a) (ap (unary o) (h k))
  plain_layer (tree.Binary o a b) h k =
      through (tree.Binary o a b) (ap (λ v. binary o v (value numbers bound b xs globals)) (h.0 (and_left _ _ k)) ∙ ap (binary o (plain a xs)) (h.1 (and_right _ _ k)))
  plain_layer (tree.Narrow n a) h k = through (tree.Narrow n a) (ap (word.narrow n) (h k))

  pub plain_value : (v : Tree) → reads_only known v ≡ true → value numbers bound v xs globals ≡ plain v xs
  plain_value = tree_ind IsPlain (λ x h k. plain_layer x h (sym (reads_only_roll known x) ∙ k))

-- ---- statements

module _ (setting : Setting) (frame : Frame) (bound : Bound) where
  pub set_first : (t : ℕ) (v : Tree) (rest : List Stm) (s : State) (n : ℕ) → of_tree setting frame v s ≡ n →
      code_meaning setting frame (set t v ∷ rest) bound s ≡ spend (8 + 3 * nodes v) (code_meaning setting frame rest bound (with_temp s t n))
  set_first t v rest s n e =
      ap (λ (m : Meaning). then_do (m bound s) (code_meaning setting frame rest bound)) (meaning_roll setting frame (stm.Set t v)) ∙
      ap (λ k. spend (8 + 3 * nodes v) (code_meaning setting frame rest bound (with_temp s t k))) e

  pub divide_first : (t o : ℕ) (a b : Tree) (rest : List Stm) (s : State) (n d : ℕ) → of_tree setting frame a s ≡ n → of_tree setting frame b s ≡ d → d ≢ 0 →
      code_meaning setting frame (divide t o a b ∷ rest) bound s ≡ spend (8 + 3 * (nodes a + nodes b)) (code_meaning setting frame rest bound (with_temp s t (trees.divide o n d)))
  divide_first t o a b rest s n d ea eb some =
      let ends : ℕ → ℕ → Bool → Outcome = λ x y z. cond z (traps trap.division_by_zero s) (Next (with_temp s t (trees.divide o x y))) in
      let run : Outcome → Run = λ r. then_do (record { cost = 8 + 3 * (nodes a + nodes b); outcome = r }) (code_meaning setting frame rest bound) in
      ap (λ (m : Meaning). then_do (m bound s) (code_meaning setting frame rest bound)) (meaning_roll setting frame (stm.Divide t o a b)) ∙
      ap (λ x. run (ends x (of_tree setting frame b s) (eqb (of_tree setting frame b s) 0))) ea ∙ ap (λ y. run (ends n y (eqb y 0))) eb ∙ ap (λ z. run (ends n d z)) (ne_eqb d 0 some)

-- ---- straight code

-- the value that it returns
abbrev pub given : (temps : ℕ) (known : List ℕ) (code : List Stm) → Straight temps known code → List ℕ → ℕ
given temps known code (returns k v h) xs = plain v xs
given temps known code (sets k t v rest low h more) xs = given temps (t ∷ k) rest more (slice_set xs t (plain v xs))
given temps known code (divides k t o a n rest low some h more) xs = given temps (t ∷ k) rest more (slice_set xs t (trees.divide o (plain a xs) n))

pub number_value : (numbers : List ℕ) (bound : List (ℕ × ℕ)) (n : ℕ) (xs : List ℕ) (globals : List (List ℕ)) → value numbers bound (number n) xs globals ≡ n
number_value numbers bound n xs globals = ap (λ f. f xs globals) (value_roll numbers bound (tree.Number n))

module _ (setting : Setting) (frame : Frame) (bound : Bound) where
  abbrev returned : ℕ → ℕ → World → Run
  returned n v w = record { cost = n; outcome = Ends (Returned (Some v) w) }

  later : (n k : ℕ) (v : ℕ) (w : World) (s : Stm) (rest : List Stm) (r : Run) → straight_cost (s ∷ []) ≡ n → r ≡ returned (straight_cost rest) v w → spend n r ≡ returned (straight_cost (s ∷ rest)) v w
  later n k v w s rest r e h = ap (spend n) h ∙ run_same (spend n (returned (straight_cost rest) v w)) (returned (straight_cost (s ∷ rest)) v w) refl (omega (arith, e, cost_cons s rest))

  pub straight_runs : (temps : ℕ) (known : List ℕ) (code : List Stm) (h : Straight temps known code) (s : State) →
      code_meaning setting frame code bound s ≡ record { cost = straight_cost code; outcome = Ends (Returned (Some (given temps known code h s.temps)) s.world) }
  straight_runs temps known code (returns k v h) s =
      one_meaning setting frame (stm.Return v) bound s ∙
      ap (λ n. returned (8 + 3 * nodes v) n s.world) (plain_value setting.numbers frame.bound k s.temps s.world.globals v h) ∙
      run_same _ _ refl (sym (return_cost v))
  straight_runs temps known code (sets k t v rest low h more) s =
      set_first setting frame bound t v rest s (plain v s.temps) (plain_value setting.numbers frame.bound k s.temps s.world.globals v h) ∙
      later (8 + 3 * nodes v) 0 _ s.world (set t v) rest _ (set_cost t v) (straight_runs temps (t ∷ k) rest more (with_temp s t (plain v s.temps)))
  straight_runs temps known code (divides k t o a n rest low some h more) s =
      divide_first setting frame bound t o a (number n) rest s (plain a s.temps) n
      (plain_value setting.numbers frame.bound k s.temps s.world.globals a h) (number_value setting.numbers frame.bound n s.temps s.world.globals) some ∙
      later (8 + 3 * (nodes a + nodes (number n))) 0 _ s.world (divide t o a (number n)) rest _ (divide_cost t o a (number n)) (straight_runs temps (t ∷ k) rest more (with_temp s t (trees.divide o (plain a s.temps) n)))

-- ---- bodies

-- the value that a short body returns of its arguments
abbrev pub short_value : (b : Body) → IsShort b → List ℕ → ℕ
short_value b short args = given b.temps (below b.params) b.code short.straight (first_temps (λ i. 0) b.temps args)

pub short_gives : (setting : Setting) (frame : Frame) (bound : Bound) (b : Body) (short : IsShort b) (args : List ℕ) (w : World) →
    body_meaning setting frame b args bound w ≡ record { cost = straight_cost b.code; end = Returned (Some (short_value b short args)) w }
short_gives setting frame bound b short args w = ap call_from (straight_runs setting frame bound b.temps (below b.params) b.code short.straight (entry_state cleared b args w))

pub short_still : (setting : Setting) (frame : Frame) (bound : Bound) (b : Body) → IsShort b → (args : List ℕ) → length args ≡ b.params → (w : World) → body_meaning setting frame b args bound w ≡ body_meaning setting any_frame b args [] w
short_still setting frame bound b short args long w = short_gives setting frame bound b short args w ∙ sym (short_gives setting any_frame [] b short args w)
