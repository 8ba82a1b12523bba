-- The code of a tree leaves the tree's value in its register.
use Rattle.std.proofs.Common.{◌≡◌, ⊎_elim, inl, inr, ℕ, suc, ◌+◌, ◌^◌, ◌<◌, ◌≤◌, max, Bool, true, false, eqb, cond, List, [], ◌∷◌, ◌++◌, length, slice_index, Option, Some, None, unwrap_or, ℤ, pos, refl, sym, ap, ◌∙◌, subst, arith}
use Rattle.std.proofs.lemmas.Bool.{ltb-true, eqb-true}
use Rattle.mv_num.specs.declared.kind.Kind.{Kind}
use Rattle.mv_num.specs.declared.kind.Kind.TheVariants as kind
use Rattle.mv_num.specs.Words.{add, narrow}
use Rattle.mv_isa.specs.declared.instr.Instr.TheVariants.{Lw, Addi}
use Rattle.mv_isa.specs.declared.labelled.Line.{Line}
use Rattle.mv_isa.specs.declared.labelled.Line.TheVariants.{Entry}
use Rattle.mv_isa.specs.Registers.{sp}
use Rattle.mv_isa.specs.Execution.{Access, reg}
use Rattle.mv_ir.specs.declared.tree.Tree.{Tree}
use Rattle.mv_ir.specs.declared.tree.Tree.TheOpen.{Tree-F}
use Rattle.mv_ir.specs.declared.tree.Tree.TheOpen as tree
use Rattle.mv_ir.specs.declared.tree.Tree.TheViews.{roll-Tree}
use Rattle.mv_ir.specs.declared.tree.Tree.TheFolds.{map-Tree}
use Rattle.mv_ir.specs.Trees.{unary, binary, found, scalar, read_as, Value, tree_value, value, node_depth, depth}
use Rattle.mv_ir.proofs.Induction.{TreeChildren, tree_ind}
use Rattle.mv_ir.proofs.Rolls.{value_roll, depth_roll}
use Rattle.mv_select_code.specs.Trees.TreeCode.{one, number_by, load_lines, temp_offset, read_from, read_temp, unary_lines, binary_lines, immediate_lines, operator_lines, literal_layer, literal, right_of, keeps_words, narrow_lines, own_layer, own_register, unless, tree_into, tree_lines, operand_lines, operand_register, immediate_of}
use Rattle.mv_select_code.specs.Trees.View.{View, view_value, names_layer, is_in_view, AreRegisters, AreScratch, Changes, HoldsTemps, HoldsNamed, Gives, Leaves}
use Rattle.mv_select_code.specs.Trees.Laws.{TreesRun, TreesLeave, OperandsStand}
use Rattle.mv_select_code.proofs.OfTrees.Rolls.{own_roll, literal_roll, immediate_is, into_tree, into_roll, lines_are, in_view_roll}
use Rattle.mv_select_code.proofs.OfTrees.Operands.{operand_outside}
use Rattle.mv_select_code.proofs.OfTrees.Words.{zero_add, add_word}
use Rattle.mv_select_code.proofs.OfTrees.Registers.{IsFree, reg_zero, changes_none, changes_wider, held_word, scratch_part, scratch_free, frame_outside, pin_outside, seat_outside}
use Rattle.mv_select_code.proofs.OfTrees.Instructions.{lw_sets, addi_sets}
use Rattle.mv_select_code.proofs.OfTrees.Gives.{Within, leaves_alone, leaves_after, leaves_within, one_gives, number_gives, entry_gives, load_gives}
use Rattle.mv_select_code.proofs.OfTrees.OperatorsGive.{unary_gives, binary_gives, immediate_gives, narrow_gives}
use Rattle.mv_num.proofs.Booleans.{and_right, and_left}
use Rattle.mv_ir.proofs.Joining.{depth_positive}
use Rattle.mv_num.proofs.Numbers.{word_of_pos}

narrow_keeps : (k : Kind) (w : ℕ) → keeps_words k ≡ true → narrow k w ≡ w
unfolding narrow
narrow_keeps kind.Bool w e = absurd cc
narrow_keeps kind.SChar w e = absurd cc
narrow_keeps kind.UChar w e = absurd cc
narrow_keeps kind.Short w e = absurd cc
narrow_keeps kind.UShort w e = absurd cc
narrow_keeps kind.Int w e = refl
narrow_keeps kind.UInt w e = refl

module _ {M : Type 0} (access : Access M) (m : M) (v : View) where
  -- temporaries stay where scratch registers change
  pub temps_kept : (lo hi : ℕ) (a b : List ℕ) → AreScratch lo hi → Changes lo hi a b → HoldsTemps access m v a → HoldsTemps access m v b
  temps_kept lo hi a b s l h = record {
    seats = h.seats;
    words = h.words;
    in_register = λ t q lt e. l.others q (seat_outside v.seats h.seats t q e lo hi s) ∙ h.in_register t q lt e;
    pinned = λ n q e. l.others q (pin_outside v.seats h.seats n q e lo hi s) ∙ h.pinned n q e;
    in_frame = λ t lt e. ap (λ x. access.load m (add x (temp_offset t)) 4) (l.others sp (frame_outside lo hi sp s (inl (omega arith)))) ∙ h.in_frame t lt e;
  }

  abbrev G : ℕ → ℕ → ℕ → ℕ → List Line → List ℕ → Type 0
  G = Gives access m v.entry

  temp_gives : (lo hi r t : ℕ) (regs : List ℕ) → HoldsTemps access m v regs → AreRegisters regs → t < length v.temps → Within lo hi r → G lo hi r (slice_index v.temps t) (one (read_temp v.seats t r)) regs
  unfolding read_temp
  temp_gives lo hi r t regs h are lt w = by_place (v.seats.register t) refl
    where
      by_place : (own : Option ℕ) → v.seats.register t ≡ own → G lo hi r (slice_index v.temps t) (one (read_from own t r)) regs
      by_place (Some q) e =
          one_gives access m v.entry lo hi r (slice_index v.temps t) (Addi r q (pos 0)) regs are w (h.words t lt)
          (addi_sets access m r q (pos 0) regs (slice_index v.temps t) 0 (slice_index v.temps t) (h.in_register t q lt e) (word_of_pos 0 (omega arith)) (zero_add (slice_index v.temps t) (h.words t lt)))
      by_place None e =
          one_gives access m v.entry lo hi r (slice_index v.temps t) (Lw r sp (pos (temp_offset t))) regs are w (h.words t lt)
          (lw_sets access m r sp (pos (temp_offset t)) regs (add (reg regs sp) (temp_offset t)) (slice_index v.temps t) (add_word (reg regs sp) (temp_offset t)) (h.in_frame t lt e))

  number_by_gives : (lo hi r n : ℕ) (regs : List ℕ) → HoldsTemps access m v regs → AreRegisters regs → n < 2 ^ 32 → Within lo hi r
      → G lo hi r n (number_by (v.seats.pinned n) n r) regs
  number_by_gives lo hi r n regs h are b w = by_place (v.seats.pinned n) refl
    where
      by_place : (own : Option ℕ) → v.seats.pinned n ≡ own → G lo hi r n (number_by own n r) regs
      by_place (Some q) e =
          one_gives access m v.entry lo hi r n (Addi r q (pos 0)) regs are w b
          (addi_sets access m r q (pos 0) regs n 0 n (h.pinned n q e) (word_of_pos 0 (omega arith)) (zero_add n b))
      by_place None e = number_gives access m v.entry lo hi r n regs are w b

  abbrev L : ℕ → ℕ → ℕ → ℕ → List Line → List ℕ → Type 0
  L = Leaves access m v.entry

  -- ---- a tree that stands in a register already

  abbrev OwnHolds : List ℕ → Option ℕ → ℕ → Type 0
  OwnHolds regs None w = Unit {0}
  OwnHolds regs (Some q) w = reg regs q ≡ w

  value_of : (x : Tree-F Tree) → view_value v (roll-Tree x) ≡ tree_value v.numbers v.bound (map-Tree Tree Value (value v.numbers v.bound) x) v.temps v.globals
  value_of x = ap (λ (f : Value). f v.temps v.globals) (value_roll v.numbers v.bound x)

  named_of : (x : Tree-F Tree) → is_in_view v (roll-Tree x) ≡ true → names_layer v (map-Tree Tree Bool (is_in_view v) x) ≡ true
  named_of x k = sym (in_view_roll v x) ∙ k

  module _ (regs : List ℕ) (temps : HoldsTemps access m v regs) where
    abbrev Own : Tree → Type 0
    Own t = is_in_view v t ≡ true → OwnHolds regs (own_register v.seats t) (view_value v t)

    own_pin : (n : ℕ) (own : Option ℕ) → v.seats.pinned n ≡ own → OwnHolds regs own n
    own_pin n (Some q) e = temps.pinned n q e
    own_pin n None e = tt

    own_number : (n : ℕ) (is_zero : Bool) → eqb n 0 ≡ is_zero → OwnHolds regs (cond is_zero (Some 0) (v.seats.pinned n)) n
    own_number n true e = reg_zero regs ∙ sym (eqb-true n 0 e)
    own_number n false e = own_pin n (v.seats.pinned n) refl

    own_temp : (t : ℕ) → t < length v.temps → (own : Option ℕ) → v.seats.register t ≡ own → OwnHolds regs own (slice_index v.temps t)
    own_temp t lt (Some q) e = temps.in_register t q lt e
    own_temp t lt None e = tt

    own_narrow : (k : Kind) (own : Option ℕ) (w : ℕ) (keeps : Bool) → keeps_words k ≡ keeps → OwnHolds regs own w → OwnHolds regs (cond keeps own None) (narrow k w)
    own_narrow k own w true e h = subst (OwnHolds regs own) (sym (narrow_keeps k w e)) h
    own_narrow k own w false e h = tt

    own_layer_holds : (x : Tree-F Tree) → TreeChildren Own x → names_layer v (map-Tree Tree Bool (is_in_view v) x) ≡ true
        → OwnHolds regs (own_layer v.seats (map-Tree Tree (Option ℕ) (own_register v.seats) x)) (tree_value v.numbers v.bound (map-Tree Tree Value (value v.numbers v.bound) x) v.temps v.globals)
    own_layer_holds (tree.Number n) h k = own_number n (eqb n 0) refl
    own_layer_holds (tree.Temp t) h k = own_temp t (ltb-true t (length v.temps) k) (v.seats.register t) refl
    own_layer_holds (tree.Global g) h k = tt
    own_layer_holds (tree.Function f) h k = tt
    own_layer_holds (tree.Unary o a) h k = tt
    own_layer_holds (tree.Binary o a b) h k = tt
    own_layer_holds (tree.Narrow c a) h k = own_narrow c (own_register v.seats a) (view_value v a) (keeps_words c) refl (h k)

    own_holds : (t : Tree) → Own t
    own_holds = tree_ind Own (λ x h k. subst (λ o. OwnHolds regs o (view_value v (roll-Tree x))) (sym (own_roll v.seats x))
        (subst (OwnHolds regs (own_layer v.seats (map-Tree Tree (Option ℕ) (own_register v.seats) x))) (sym (value_of x))
        (own_layer_holds x h (named_of x k))))

  -- ---- a tree that is a number

  abbrev IsNumber : Option ℕ → ℕ → Type 0
  IsNumber None w = Unit {0}
  IsNumber (Some n) w = (w ≡ n) × (n < 2 ^ 32)

  written_layer : (x : Tree-F Tree) → names_layer v (map-Tree Tree Bool (is_in_view v) x) ≡ true
      → IsNumber (literal_layer (map-Tree Tree (Option ℕ) literal x)) (tree_value v.numbers v.bound (map-Tree Tree Value (value v.numbers v.bound) x) v.temps v.globals)
  written_layer (tree.Number n) k = (refl, ltb-true n (2 ^ 32) k)
  written_layer (tree.Temp t) k = tt
  written_layer (tree.Global g) k = tt
  written_layer (tree.Function f) k = tt
  written_layer (tree.Unary o a) k = tt
  written_layer (tree.Binary o a b) k = tt
  written_layer (tree.Narrow c a) k = tt

  abbrev Literal : Tree → Type 0
  Literal t = is_in_view v t ≡ true → IsNumber (literal t) (view_value v t)

  literal_holds : (t : Tree) → Literal t
  literal_holds = tree_ind Literal (λ x h k. subst (λ n. IsNumber n (view_value v (roll-Tree x))) (sym (literal_roll x))
      (subst (IsNumber (literal_layer (map-Tree Tree (Option ℕ) literal x))) (sym (value_of x)) (written_layer x (named_of x k))))

  -- ---- trees

  abbrev Runs : Tree → Type 0
  Runs t = (d r : ℕ) (regs : List ℕ) → is_in_view v t ≡ true → AreRegisters regs → HoldsTemps access m v regs → AreScratch r (r + depth t) → IsFree d
      → L r (r + depth t) d (view_value v t) (tree_into v.seats t d r) regs

  abbrev Stands : Tree → Type 0
  Stands t = (r : ℕ) (regs : List ℕ) → is_in_view v t ≡ true → AreRegisters regs → HoldsTemps access m v regs → AreScratch r (r + depth t)
      → G r (r + depth t) (operand_register v.seats t r) (view_value v t) (operand_lines v.seats t r) regs

  -- at its first register
  within : (t : Tree) → Runs t → (r : ℕ) (regs : List ℕ) → is_in_view v t ≡ true → AreRegisters regs → HoldsTemps access m v regs → AreScratch r (r + depth t)
      → G r (r + depth t) r (view_value v t) (tree_into v.seats t r r) regs
  within t h r regs k are temps s =
      let some = depth_positive t in
      leaves_within access m v.entry r (r + depth t) r (view_value v t) (tree_into v.seats t r r) regs (omega arith) (omega arith)
      (h r r regs k are temps s (scratch_free r (r + depth t) r s (omega arith) (omega arith)))

  operand : (t : Tree) → Runs t → Stands t
  unfolding operand_lines operand_register tree_lines
  operand t h r regs k are temps s = by_own (own_register v.seats t) (own_holds regs temps t k)
    where
      by_own : (own : Option ℕ) → OwnHolds regs own (view_value v t) → G r (r + depth t) (unwrap_or own r) (view_value v t) (unless own (tree_into v.seats t r r)) regs
      by_own None held = within t h r regs k are temps s
      by_own (Some q) held = record { after = regs; runs = refl; changes = changes_none r (r + depth t) regs are; holds = held }

  module _ (sees : HoldsNamed access m v) where
    alone : (d : ℕ) → IsFree d → Within d (d + 1) d
    alone d f = record { from = omega arith; below = omega arith; free = f }

    -- one register only
    only : (lo hi d w : ℕ) (ls : List Line) (regs : List ℕ) → G d (d + 1) d w ls regs → L lo hi d w ls regs
    only lo hi = leaves_alone access m v.entry lo hi

    wider : (r n k d w : ℕ) (ls : List Line) (regs : List ℕ) → n ≤ k → L r (r + n) d w ls regs → L r (r + k) d w ls regs
    wider r n k d w ls regs l g = record {
      after = g.after;
      runs = g.runs;
      are = g.are;
      others = λ q o. g.others q (⊎_elim (λ (x : q < r). inl x) (λ (x : r + k ≤ q). inr (omega arith)) o);
      holds = g.holds;
    }

    abbrev Second : (a b : Tree) (d r : ℕ) → List ℕ → List Line → ℕ → Type 0
    Second a b d r regs lines w = L r (r + suc (max (depth a) (depth b))) d w lines regs

    -- the right operand and the operator, behind the left operand
    second : (o : ℕ) (a b : Tree) (d r w : ℕ) (regs : List ℕ) → Runs b → is_in_view v b ≡ true → AreRegisters regs → HoldsTemps access m v regs → AreScratch r (r + suc (max (depth a) (depth b)))
        → IsFree d → reg regs (operand_register v.seats a r) ≡ w
        → Second a b d r regs (operator_lines (immediate_of o b) o d (operand_register v.seats a r) (operand_lines v.seats b (r + 1)) (operand_register v.seats b (r + 1))) (binary o w (view_value v b))
    second o a b d r w regs h k are temps s free left = by_right (immediate_of o b) refl
      where
        by_number : (i : ℤ) (number : Option ℕ) → right_of o number ≡ Some i → IsNumber number (view_value v b) → Second a b d r regs (immediate_lines o d (operand_register v.seats a r) i) (binary o w (view_value v b))
        by_number i None e is = absurd cc
        by_number i (Some n) e is =
            let x = operand_register v.seats a r in
            subst (λ u. Second a b d r regs (immediate_lines o d x i) (binary o w u)) (sym is.0)
            (only r (r + suc (max (depth a) (depth b))) d (binary o w n) (immediate_lines o d x i) regs
            (immediate_gives access m v.entry d (d + 1) d x o w n i regs are (alone d free) (held_word x w regs are left) is.1 e left))

        by_right : (right : Option ℤ) → immediate_of o b ≡ right
            → Second a b d r regs (operator_lines right o d (operand_register v.seats a r) (operand_lines v.seats b (r + 1))
            (operand_register v.seats b (r + 1))) (binary o w (view_value v b))
        by_right None e =
            let nb = depth b in
            let n = max (depth a) nb in
            let x = operand_register v.seats a r in let y = operand_register v.seats b (r + 1) in
            let last = binary_lines o d x y in
            let sb = scratch_part r (r + suc n) (r + 1) (r + 1 + nb) (omega arith) (omega arith) s in
            let gb = operand b h (r + 1) regs k are temps sb in
            let stays : reg gb.after x ≡ w = gb.changes.others x (operand_outside v.seats temps.seats a r (r + 1 + nb) sb) ∙ left in
            let wa = held_word x w gb.after gb.changes.are stays in
            let wb = held_word y (view_value v b) gb.after gb.changes.are gb.holds in
            leaves_after access m v.entry r (r + suc n) d (binary o w (view_value v b)) (operand_lines v.seats b (r + 1)) last regs gb.after gb.runs
            (changes_wider (r + 1) (r + 1 + nb) r (r + suc n) regs gb.after (omega arith) (omega arith) gb.changes)
            (only r (r + suc n) d (binary o w (view_value v b)) last gb.after (binary_gives access m v.entry d (d + 1) d x y o w (view_value v b) gb.after gb.changes.are (alone d free) wa wb stays gb.holds))
        by_right (Some i) e = by_number i (literal b) (immediate_is o b ∙ e) (literal_holds b k)

    layer : (x : Tree-F Tree) → TreeChildren Runs x → (d r : ℕ) (regs : List ℕ) → names_layer v (map-Tree Tree Bool (is_in_view v) x) ≡ true → AreRegisters regs → HoldsTemps access m v regs
        → AreScratch r (r + node_depth (map-Tree Tree ℕ depth x)) → IsFree d
        → L r (r + node_depth (map-Tree Tree ℕ depth x)) d (tree_value v.numbers v.bound (map-Tree Tree Value (value v.numbers v.bound) x) v.temps v.globals) (into_tree v.seats x d r) regs
    layer (tree.Number n) h d r regs k are temps s free =
        only r (r + 1) d n (number_by (v.seats.pinned n) n d) regs (number_by_gives d (d + 1) d n regs temps are (ltb-true n (2 ^ 32) k) (alone d free))
    layer (tree.Temp t) h d r regs k are temps s free =
        only r (r + 1) d (slice_index v.temps t) (one (read_temp v.seats t d)) regs (temp_gives d (d + 1) d t regs temps are (ltb-true t (length v.temps) k) (alone d free))
    layer (tree.Global g) h d r regs k are temps s free =
        only r (r + 1) d (read_as (found v.bound g) (scalar v.globals g)) (load_lines (v.seats.place g) d) regs
        (subst (λ o. G d (d + 1) d (read_as o (scalar v.globals g)) (load_lines (v.seats.place g) d) regs) (sym (sees.free g k))
        (load_gives access m v.entry d (d + 1) d (v.seats.place g) (scalar v.globals g) regs are (alone d free) (sees.places g k) (sees.words g k) (sees.loads g k)))
    layer (tree.Function f) h d r regs k are temps s free =
        let there = ltb-true f (length v.numbers) k in
        only r (r + 1) d (slice_index v.numbers f) (Entry d f ∷ []) regs
        (subst (λ w. G d (d + 1) d w (Entry d f ∷ []) regs) (sym (sees.entries f there)) (entry_gives access m v.entry d (d + 1) d f regs are (alone d free) (sees.entry_words f there)))
    layer (tree.Unary o a) h d r regs k are temps s free =
        let n = depth a in
        let from = operand_register v.seats a r in
        let w = unary o (view_value v a) in
        let ga = operand a h r regs k are temps (scratch_part r (r + suc n) r (r + n) (omega arith) (omega arith) s) in
        leaves_after access m v.entry r (r + suc n) d w (operand_lines v.seats a r) (unary_lines o d from) regs ga.after ga.runs (changes_wider r (r + n) r (r + suc n) regs ga.after (omega arith) (omega arith) ga.changes)
        (only r (r + suc n) d w (unary_lines o d from) ga.after (unary_gives access m v.entry d (d + 1) d from o (view_value v a) ga.after ga.changes.are (alone d free) ga.holds))
    layer (tree.Binary o a b) h d r regs k are temps s free =
        let na = depth a in let nb = depth b in
        let n = max na nb in
        let sa = scratch_part r (r + suc n) r (r + na) (omega arith) (omega arith) s in
        let ga = operand a h.0 r regs (and_left (is_in_view v a) (is_in_view v b) k) are temps sa in
        let held = temps_kept r (r + na) regs ga.after sa ga.changes temps in
        leaves_after access m v.entry r (r + suc n) d (binary o (view_value v a) (view_value v b)) (operand_lines v.seats a r)
        (operator_lines (immediate_of o b) o d (operand_register v.seats a r) (operand_lines v.seats b (r + 1)) (operand_register v.seats b (r + 1))) regs ga.after ga.runs
        (changes_wider r (r + na) r (r + suc n) regs ga.after (omega arith) (omega arith) ga.changes)
        (second o a b d r (view_value v a) ga.after h.1 (and_right (is_in_view v a) (is_in_view v b) k) ga.changes.are held s free ga.holds)
    layer (tree.Narrow c a) h d r regs k are temps s free = by_kind (keeps_words c) refl
      where
        by_kind : (keeps : Bool) → keeps_words c ≡ keeps
            → L r (r + suc (depth a)) d (narrow c (view_value v a)) (cond keeps (tree_into v.seats a d r) (operand_lines v.seats a r ++ narrow_lines c d (operand_register v.seats a r))) regs
        by_kind true e =
            let n = depth a in
            subst (λ w. L r (r + suc n) d w (tree_into v.seats a d r) regs) (sym (narrow_keeps c (view_value v a) e))
            (wider r n (suc n) d (view_value v a) (tree_into v.seats a d r) regs (omega arith) (h d r regs k are temps (scratch_part r (r + suc n) r (r + n) (omega arith) (omega arith) s) free))
        by_kind false e =
            let n = depth a in
            let from = operand_register v.seats a r in
            let w = narrow c (view_value v a) in
            let ga = operand a h r regs k are temps (scratch_part r (r + suc n) r (r + n) (omega arith) (omega arith) s) in
            leaves_after access m v.entry r (r + suc n) d w (operand_lines v.seats a r) (narrow_lines c d from) regs ga.after ga.runs (changes_wider r (r + n) r (r + suc n) regs ga.after (omega arith) (omega arith) ga.changes)
            (only r (r + suc n) d w (narrow_lines c d from) ga.after (narrow_gives access m v.entry d (d + 1) d from (view_value v a) c ga.after ga.changes.are (alone d free) ga.holds))

    at : (x : Tree-F Tree) (d r : ℕ) (regs : List ℕ)
        → L r (r + node_depth (map-Tree Tree ℕ depth x)) d (tree_value v.numbers v.bound (map-Tree Tree Value (value v.numbers v.bound) x) v.temps v.globals) (into_tree v.seats x d r) regs
        → L r (r + depth (roll-Tree x)) d (view_value v (roll-Tree x)) (tree_into v.seats (roll-Tree x) d r) regs
    at x d r regs h =
        subst (λ n. L r (r + n) d (view_value v (roll-Tree x)) (tree_into v.seats (roll-Tree x) d r) regs) (sym (depth_roll x))
        (subst (λ w. L r (r + node_depth (map-Tree Tree ℕ depth x)) d w (tree_into v.seats (roll-Tree x) d r) regs) (sym (value_of x))
        (subst (λ ls. L r (r + node_depth (map-Tree Tree ℕ depth x)) d (tree_value v.numbers v.bound (map-Tree Tree Value (value v.numbers v.bound) x) v.temps v.globals) ls regs) (sym (into_roll v.seats x d r)) h))

    pub tree_leaves : (t : Tree) → Runs t
    tree_leaves = tree_ind Runs (λ x h d r regs k are temps s free. at x d r regs (layer x h d r regs (named_of x k) are temps (subst (λ n. AreScratch r (r + n)) (depth_roll x) s) free))

pub trees_leave : (M : Type 0) → TreesLeave M
trees_leave M access m v sees t d r regs k are temps s p q g h = tree_leaves access m v sees t d r regs k are temps s (record { above = p; below = q; global = g; thread = h })

pub operands_stand : (M : Type 0) → OperandsStand M
operands_stand M access m v sees t = operand access m v t (tree_leaves access m v sees t)

pub trees_run : (M : Type 0) → TreesRun M
trees_run M access m v sees t r regs k are temps s =
    subst (λ ls. Gives access m v.entry r (r + depth t) r (view_value v t) ls regs) (sym (lines_are v.seats t r)) (within access m v t (tree_leaves access m v sees t) r regs k are temps s)
