-- Code depends on the places and sizes of the globals that it names alone.
use Rattle.std.proofs.Common.{◌≡◌, ℕ, zero, suc, ◌+◌, Bool, true, false, not, cond, leb, List, [], ◌∷◌, ◌++◌, pos, map, Option, Some, None, unwrap_or, slice_index, refl, sym, ap, ◌∙◌, subst}
use Rattle.mv_ast.specs.declared.program.Known.{Known}
use Rattle.mv_isa.specs.declared.instr.Instr.TheVariants.{Lw, Sw, Addi}
use Rattle.mv_isa.specs.declared.labelled.Line.{Line}
use Rattle.mv_isa.specs.declared.labelled.Line.TheVariants.{Word, Label, Jump, Branch, Point}
use Rattle.mv_isa.specs.Registers.{a0, a7 as request_register, s11 as left_register, t3 as scratch_register}
use Rattle.mv_ir.specs.declared.tree.Tree.{Tree}
use Rattle.mv_ir.specs.declared.tree.Tree.TheOpen.{Tree-F}
use Rattle.mv_ir.specs.declared.tree.Tree.TheOpen as tree
use Rattle.mv_ir.specs.declared.tree.Tree.TheFolds.{fold-Tree, map-Tree}
use Rattle.mv_ir.specs.declared.stm.Array.{Array}
use Rattle.mv_ir.specs.declared.stm.Array.TheVariants as array
use Rattle.mv_ir.specs.declared.stm.Callee.{Callee}
use Rattle.mv_ir.specs.declared.stm.Callee.TheVariants as callee
use Rattle.mv_ir.specs.declared.stm.Stm.{Stm}
use Rattle.mv_ir.specs.declared.stm.Stm.TheOpen.{Stm-F}
use Rattle.mv_ir.specs.declared.stm.Stm.TheOpen as stm
use Rattle.mv_ir.specs.declared.stm.Stm.TheViews.{roll-Stm}
use Rattle.mv_ir.specs.declared.stm.Stm.TheFolds.{map-Stm}
use Rattle.mv_ir.specs.declared.body.Body.{Body}
use Rattle.mv_ir.specs.Measures.{callee_trees, layer_trees, stm_trees, trees, layer_reads, tree_reads, scalars_read}
use Rattle.mv_ir.specs.WellFormed.{callee_named, layer_named, stm_named, named, has_room, is_there, IsWellFormed}
use Rattle.mv_ir.proofs.Induction.{Each, TreeChildren, tree_ind, StmChildren, stm_ind, stms_ind}
use Rattle.mv_ir.proofs.Rolls.{same_functions, reads_roll, trees_roll, named_roll}
use Rattle.mv_select_code.specs.Trees.TreeCode.{Seats, one, register_of, pinned_in, own_layer, own_register, literal, unless, read_temp, Code, tree_layer, tree_code, tree_into, tree_lines, operand_lines, operand_register, branch_lines}
use Rattle.mv_select_code.specs.Trees.Rooms.{place_in}
use Rattle.mv_select_code.proofs.OfTrees.Rolls.{code_roll as tree_roll}
use Rattle.mv_select_code.specs.declared.statements.elements.Home.{Home}
use Rattle.mv_select_code.specs.declared.statements.elements.Home.TheVariants as place_at
use Rattle.mv_select_code.specs.Statements.StatementCode.{first, second, trap_label, write_temp, target, keep_lines, is_seat, division, power_of, power_division, divisor_lines, fixed, element_at, element_offset, element_lines, put_lines, store_lines, test_lines, tested_lines, set_lines, divide_by, divide_lines, check_by, check_lines, read_by, read_lines, write_by, write_lines, result_lines as value_lines}
use Rattle.mv_select_code.specs.Control.FlowCode.{Plan, Emitted, Tested, plain, fall_to, jump_to, go_to, go_on, leads_to, in_turn, staying, short_cut, if_by, if_code, loop_at, loop_by, loop_code, block_code, home, tests, code_layer, statement_code, code_of}
use Rattle.mv_select_code.specs.Control.FlowCode as flow_code
use Rattle.mv_select_code.specs.declared.control.enclosing.Leading.{Leading}
use Rattle.mv_select_code.specs.declared.control.enclosing.Leading.TheVariants as lead
use Rattle.mv_select_code.specs.Control.Layouts.{size_in}
use Rattle.mv_select_code.proofs.OfControl.Equations.{code_roll}
use Rattle.mv_select.specs.Calls.CallCode.{request_of, guard_lines, slot_lines, entry_lines, jump_lines, back_lines, pad_lines, pointer_lines, argument_lines, transfer_lines, call_lines, order_lines, ask_lines, result_lines, known_lines, calls_of}
use Rattle.mv_select.specs.Functions.FunctionCode.{end_label, Shape, array_offset, entry_by, return_by, led, function_lines}
use Rattle.mv_select.specs.Functions.Functions.{shape_of}
use Rattle.mv_select.specs.Bodies.SelectedBodies.{CodeIsTheSame}
use Rattle.mv_select.proofs.OfBodies.Lists.{IsIn, each_joined, each_true, each_weaker}
use Rattle.mv_ir.proofs.Common.{each_first, each_right}

-- the globals that stand where they should
module _ (is_known : ℕ → Bool) where
  abbrev pub ReadsKnown : Tree → Type 0
  ReadsKnown t = Each (IsIn is_known) (tree_reads t)

  abbrev pub IsKnownArray : Array → Type 0
  IsKnownArray (array.Global g) = IsIn is_known g
  IsKnownArray (array.Local l) = Unit {0}
  IsKnownArray (array.SureGlobal g n) = IsIn is_known g
  IsKnownArray (array.SureLocal l n) = Unit {0}

  module _ (place place' : ℕ → ℕ) (same_place : (g : ℕ) → is_known g ≡ true → place g ≡ place' g) (register : ℕ → Option ℕ) (pinned : ℕ → Option ℕ) where
    abbrev s : Seats
    s = record { place = place; register = register; pinned = pinned }

    abbrev s' : Seats
    s' = record { place = place'; register = register; pinned = pinned }

    -- ---- trees

    -- which register a tree stands in doesn't depend on globals
    own_layers : (x : Tree-F (Option ℕ)) → own_layer (record { place = place; register = register; pinned = pinned }) x ≡ own_layer (record { place = place'; register = register; pinned = pinned }) x
    own_layers (tree.Number n) = refl
    own_layers (tree.Temp t) = refl
    own_layers (tree.Global g) = refl
    own_layers (tree.Function f) = refl
    own_layers (tree.Unary o a) = refl
    own_layers (tree.Binary o a b) = refl
    own_layers (tree.Narrow k a) = refl

    same_own : (t : Tree) → own_register s t ≡ own_register s' t
    unfolding own_register
    same_own t = ap (λ (f : Tree-F (Option ℕ) → Option ℕ). fold-Tree (Option ℕ) f t) (same_functions (own_layer s) (own_layer s') own_layers)

    abbrev IsSameTree : Tree → Type 0
    IsSameTree t = ReadsKnown t → tree_code (record { place = place; register = register; pinned = pinned }) t ≡ tree_code (record { place = place'; register = register; pinned = pinned }) t

    same_layer : (x : Tree-F Tree) → TreeChildren IsSameTree x → Each (IsIn is_known) (layer_reads (map-Tree Tree (List ℕ) tree_reads x)) →
        tree_layer s (map-Tree Tree Code (tree_code s) x) ≡ tree_layer s' (map-Tree Tree Code (tree_code s') x)
    unfolding read_temp
    same_layer (tree.Number n) c h = refl
    same_layer (tree.Temp t) c h = refl
    same_layer (tree.Global g) c h = ap (λ a. tree_layer (record { place = λ x. a; register = register; pinned = pinned }) (tree.Global g)) (same_place g h.0)
    same_layer (tree.Function f) c h = refl
    same_layer (tree.Unary o a) c h = ap (λ z. tree_layer s (tree.Unary o z)) (c h)
    same_layer (tree.Binary o a b) c h =
        ap (λ z. tree_layer s (tree.Binary o z (tree_code s b))) (c.0 (each_first (IsIn is_known) (tree_reads a) (tree_reads b) h)) ∙
        ap (λ z. tree_layer s (tree.Binary o (tree_code s' a) z)) (c.1 (each_right (IsIn is_known) (tree_reads a) (tree_reads b) h))
    same_layer (tree.Narrow k a) c h = ap (λ z. tree_layer s (tree.Narrow k z)) (c h)

    same_tree_code : (t : Tree) → IsSameTree t
    same_tree_code = tree_ind IsSameTree (λ x c h. tree_roll s x ∙ same_layer x c (subst (Each (IsIn is_known)) (reads_roll x) h) ∙ sym (tree_roll s' x))

    same_into : (t : Tree) → ReadsKnown t → (d r : ℕ) → tree_into s t d r ≡ tree_into s' t d r
    unfolding tree_into
    same_into t h d r = ap (λ (z : Code). z.into d r) (same_tree_code t h)

    same_tree : (t : Tree) → ReadsKnown t → (r : ℕ) → tree_lines s t r ≡ tree_lines s' t r
    unfolding tree_lines
    same_tree t h r = same_into t h r r

    same_branches : (t : Tree) → ReadsKnown t → branch_lines s t ≡ branch_lines s' t
    unfolding branch_lines
    same_branches t h = ap (λ (z : Code). z.branch) (same_tree_code t h)

    -- an operand, with the register in which it stands
    abbrev operand : Seats → Tree → ℕ → List Line × ℕ
    operand seats t r = (operand_lines seats t r, operand_register seats t r)

    same_operand : (t : Tree) → ReadsKnown t → (r : ℕ) → operand s t r ≡ operand s' t r
    unfolding operand_lines operand_register
    same_operand t h r =
        ap (λ o. (unless o (tree_lines s t r), unwrap_or o r)) (same_own t) ∙ ap (λ ls. (unless (own_register s' t) ls, unwrap_or (own_register s' t) r)) (same_tree t h r)

    -- ---- calls

    same_arguments : (n : ℕ) (ts : List Tree) → Each ReadsKnown ts → argument_lines s n ts ≡ argument_lines s' n ts
    same_arguments n [] h = refl
    same_arguments n (t ∷ ts) h =
        ap (λ l. l ++ argument_lines s (suc n) ts) (same_into t h.0 n scratch_register) ∙
        ap (λ l. tree_into s' t n scratch_register ++ l) (same_arguments (suc n) ts h.1)

    same_result : (r : Option ℕ) → result_lines s r ≡ result_lines s' r
    unfolding write_temp
    same_result None = refl
    same_result (Some t) = refl

    -- what follows where a call has come back
    abbrev returning : List Line → List Line
    returning result = Word (Addi left_register left_register (pos 1)) ∷ result

    same_transfer : (is_attributed : ℕ → Bool) (f : Callee) (r : Option ℕ) → Each ReadsKnown (callee_trees f) → Each IsKnownArray (callee_named f) →
        transfer_lines s is_attributed f r ≡ transfer_lines s' is_attributed f r
    same_transfer is_attributed (callee.Direct f) r h k =
        ap (λ l. cond (is_attributed f) (guard_lines ++ (slot_lines f ++ returning l)) (guard_lines ++ (entry_lines f ++ returning l))) (same_result r)
    same_transfer is_attributed (callee.Through t) r h k =
        ap (λ l. l ++ pointer_lines s r) (same_tree t h.0 scratch_register) ∙
        ap (λ l. tree_lines s' t scratch_register ++ (Branch 0 scratch_register 0 (trap_label 3) ∷ (guard_lines ++ (jump_lines ++ returning l)))) (same_result r)
    same_transfer is_attributed (callee.Switched g) r h k = ap (λ a. Point a ∷ back_lines s r) (same_place g k.0) ∙ ap (λ l. Point (place' g) ∷ returning l) (same_result r)
    same_transfer is_attributed callee.Expanded r h k = refl

    same_call : (is_attributed : ℕ → Bool) (r : Option ℕ) (f : Callee) (args : List Tree) → Each ReadsKnown (callee_trees f ++ args) → Each IsKnownArray (callee_named f) →
        call_lines s is_attributed r f args ≡ call_lines s' is_attributed r f args
    same_call is_attributed r f args h k =
        ap (λ l. pad_lines f args ++ (l ++ transfer_lines s is_attributed f r)) (same_arguments a0 args (each_right ReadsKnown (callee_trees f) args h)) ∙
        ap (λ l. pad_lines f args ++ (argument_lines s' a0 args ++ l)) (same_transfer is_attributed f r (each_first ReadsKnown (callee_trees f) args h) k)

    same_known_call : (r : Option ℕ) (k : Known) (args : List Tree) → Each ReadsKnown args → known_lines s r k args ≡ known_lines s' r k args
    same_known_call r k args h =
        let rest = λ (l : List Line). order_lines k ++ (Word (Addi request_register 0 (pos (request_of k))) ∷ (ask_lines k ++ l)) in
        ap (λ l. l ++ rest (result_lines s r)) (same_arguments a0 args h) ∙ ap (λ l. argument_lines s' a0 args ++ rest l) (same_result r)

    -- ---- statements without control

    same_set : (t : ℕ) (v : Tree) → ReadsKnown v → set_lines s t v ≡ set_lines s' t v
    unfolding target keep_lines
    same_set t v h =
        let set = tree_into s v (target s t) first ++ keep_lines s t in
        ap (λ own. cond (is_seat (s.register t) own) [] set) (same_own v) ∙
        ap (λ l. cond (is_seat (s.register t) (own_register s' v)) [] (l ++ keep_lines s t)) (same_into v h (target s t) first)

    same_value : (v : Tree) → ReadsKnown v → value_lines s v ≡ value_lines s' v
    same_value v h =
        ap (λ own. cond (is_seat (Some a0) own) [] (tree_into s v a0 first)) (same_own v) ∙
        ap (λ l. cond (is_seat (Some a0) (own_register s' v)) [] l) (same_into v h a0 first)

    same_divide : (t o : ℕ) (a b : Tree) → ReadsKnown a → ReadsKnown b → divide_lines s t o a b ≡ divide_lines s' t o a b
    unfolding target keep_lines
    same_divide t o a b h k = by (power_of o (literal b))
      where
        by : (n : Option ℕ) → divide_by s n t o a b ≡ divide_by s' n t o a b
        by None =
            let rest = λ (p q : ℕ). divisor_lines (literal b) q ++ (Word (division o (target s t) p q) ∷ keep_lines s t) in
            ap (λ (p : List Line × ℕ). p.0 ++ (operand_lines s b second ++ rest p.1 (operand_register s b second))) (same_operand a h first) ∙
            ap (λ (q : List Line × ℕ). operand_lines s' a first ++ (q.0 ++ rest (operand_register s' a first) q.1)) (same_operand b k second)
        by (Some n) = ap (λ (p : List Line × ℕ). p.0 ++ (Word (power_division o n (target s t) p.1) ∷ keep_lines s t)) (same_operand a h first)

    same_check : (n : ℕ) (tested : Bool) (i : Tree) → ReadsKnown i → check_lines s n tested i ≡ check_lines s' n tested i
    same_check n tested i h = by (fixed n (literal i))
      where
        by : (o : Option ℕ) → check_by s o n tested i ≡ check_by s' o n tested i
        by None = ap (λ (p : List Line × ℕ). cond tested (p.0 ++ test_lines s n p.1) []) (same_operand i h first)
        by (Some m) = refl

    same_read : (t : ℕ) (at : Home) (n : ℕ) (tested : Bool) (i : Tree) → ReadsKnown i → read_lines s t at n tested i ≡ read_lines s' t at n tested i
    unfolding target keep_lines
    same_read t at n tested i h = by (fixed n (literal i))
      where
        by : (o : Option ℕ) → read_by s o t at n tested i ≡ read_by s' o t at n tested i
        by None =
            ap (λ (p : List Line × ℕ). p.0 ++ (tested_lines s tested n p.1 ++ (element_lines at p.1 ++ (Word (Lw (target s t) first (element_offset at)) ∷ keep_lines s t)))) (same_operand i h first)
        by (Some m) = refl

    same_write : (at : Home) (n : ℕ) (tested : Bool) (i v : Tree) → ReadsKnown i → ReadsKnown v → write_lines s at n tested i v ≡ write_lines s' at n tested i v
    same_write at n tested i v h k = by (fixed n (literal i))
      where
        by : (o : Option ℕ) → write_by s o at n tested i v ≡ write_by s' o at n tested i v
        by None =
            let rest = λ (p q : ℕ). tested_lines s tested n p ++ (element_lines at p ++ one (Sw first q (element_offset at))) in
            ap (λ (p : List Line × ℕ). p.0 ++ (operand_lines s v second ++ rest p.1 (operand_register s v second))) (same_operand i h first) ∙
            ap (λ (q : List Line × ℕ). operand_lines s' i first ++ (q.0 ++ rest (operand_register s' i first) q.1)) (same_operand v k second)
        by (Some m) = ap (λ (q : List Line × ℕ). q.0 ++ put_lines (element_at at m) q.1) (same_operand v k first)

    -- ---- branches and loops

    -- what a test leads to reads known globals in it
    abbrev StaysKnown : Option Tested → Type 0
    StaysKnown None = Unit {0}
    StaysKnown (Some a) = ReadsKnown a.test

    staying_known : (t : Tree) (sense : Bool) (l : Leading) (a : Emitted) → ReadsKnown t → StaysKnown (staying t sense l a)
    staying_known t sense lead.On a h = tt
    staying_known t sense (lead.Out zero) a h = h
    staying_known t sense (lead.Out (suc n)) a h = tt
    staying_known t sense (lead.Back n) a h = tt

    if_known : (seats : Seats) (t : Tree) (to : Option (Bool × Leading)) (a b : Emitted) → ReadsKnown t → StaysKnown (if_by seats end_label t to a b).stays
    if_known seats t None a b h = tt
    if_known seats t (Some to) a b h = staying_known t to.0 to.1 (cond to.0 b a) h

    -- code that goes to where some code leads, by given lines, or else on with other code
    abbrev leading : Tree → (Bool → ℕ → ℕ → List Line) → Bool → Leading → Emitted → Emitted
    leading t test sense l a = record {
      labels = a.labels;
      alone = None;
      stays = staying t sense l a;
      lines = λ around label way. test sense first (leads_to end_label around way l) ++ a.lines around label way;
    }

    -- the code of one list or of the other, by given lines
    abbrev either : (Bool → ℕ → ℕ → List Line) → Emitted → Emitted → Emitted
    either test a b = record {
      labels = 1 + (a.labels + b.labels);
      alone = None;
      stays = None;
      lines = λ around label way. test false first label ++ (a.lines around (label + 1) (jump_to way.after) ++ (Label label ∷ b.lines around (label + 1 + a.labels) way));
    }

    same_test : (t : Tree) → ReadsKnown t → (to : Option (Bool × Leading)) (a b : Emitted) → if_by s end_label t to a b ≡ if_by s' end_label t to a b
    same_test t h None a b = ap (λ test. either test a b) (same_branches t h)
    same_test t h (Some to) a b = ap (λ test. leading t test to.0 to.1 (cond to.0 b a)) (same_branches t h)

    -- a loop whose test stands at its end, by given lines
    abbrev turned : (Bool → ℕ → ℕ → List Line) → Tested → Emitted → Emitted
    turned test a rest = record {
      labels = 3 + (a.labels + rest.labels);
      alone = None;
      stays = None;
      lines = λ around label way.
          let inside = loop_at (label + 1) way ∷ around in
          Jump 0 (label + 1) ∷ Label label
          ∷ (a.lines inside (label + 3) (fall_to (label + 2))
          ++ (Label (label + 2) ∷ (rest.lines inside (label + 3 + a.labels) (fall_to (label + 1))
          ++ (Label (label + 1) ∷ (test a.sense first label ++ go_on way)))));
    }

    same_turn : (o : Option Tested) (b : Emitted) (rest : List Emitted) → StaysKnown o → loop_by s o b rest ≡ loop_by s' o b rest
    same_turn None b rest h = refl
    same_turn (Some a) b rest h = ap (λ test. turned test a (in_turn rest)) (same_branches a.test h)

    -- ---- statements

    module _ (size size' : ℕ → ℕ) (same_size : (g : ℕ) → is_known g ≡ true → size g ≡ size' g) (is_attributed : ℕ → Bool) (array_at array_size : ℕ → ℕ) where
      abbrev P : Plan
      P = record { seats = s; size = size; array_at = array_at; array_size = array_size; end = end_label; calls = calls_of s is_attributed }

      abbrev Q : Plan
      Q = record { seats = s'; size = size'; array_at = array_at; array_size = array_size; end = end_label; calls = calls_of s' is_attributed }

      same_home : (a : Array) → IsKnownArray a → home P a ≡ home Q a
      same_home (array.Global g) h = ap place_at.Data (same_place g h)
      same_home (array.Local l) h = refl
      same_home (array.SureGlobal g n) h = ap place_at.Data (same_place g h)
      same_home (array.SureLocal l n) h = refl

      same_count : (a : Array) → IsKnownArray a → flow_code.size P a ≡ flow_code.size Q a
      same_count (array.Global g) h = same_size g h
      same_count (array.Local l) h = refl
      same_count (array.SureGlobal g n) h = same_size g h
      same_count (array.SureLocal l n) h = refl

      same_tests : (a : Array) → IsKnownArray a → tests P a ≡ tests Q a
      same_tests (array.Global g) h = refl
      same_tests (array.Local l) h = refl
      same_tests (array.SureGlobal g n) h = ap (λ size. not (leb n size)) (same_size g h)
      same_tests (array.SureLocal l n) h = refl

      abbrev IsSame : Stm → Type 0
      IsSame t = Each ReadsKnown (stm_trees t) → Each IsKnownArray (stm_named t) → (statement_code P t ≡ statement_code Q t) × StaysKnown (statement_code Q t).stays

      same_codes : (code : List Stm) → Each IsSame code → Each ReadsKnown (trees code) → Each IsKnownArray (named code) → map (statement_code P) code ≡ map (statement_code Q) code
      same_codes [] c h k = refl
      same_codes (t ∷ code) c h k =
          ap (λ e. e ∷ map (statement_code P) code) (c.0 (each_first ReadsKnown (stm_trees t) (trees code) h) (each_first IsKnownArray (stm_named t) (named code) k)).0 ∙
          ap (λ es. statement_code Q t ∷ es) (same_codes code c.1 (each_right ReadsKnown (stm_trees t) (trees code) h) (each_right IsKnownArray (stm_named t) (named code) k))

      pub same_code : (code : List Stm) → Each IsSame code → Each ReadsKnown (trees code) → Each IsKnownArray (named code) → code_of P code ≡ code_of Q code
      same_code code c h k = ap in_turn (same_codes code c h k)

      same_branch : (t : Tree) (a b : List Stm) → Each IsSame a × Each IsSame b → ReadsKnown t × Each ReadsKnown (trees a ++ trees b) → Each IsKnownArray (named a ++ named b) →
          if_code s end_label t (code_of P a) (code_of P b) ≡ if_code s' end_label t (code_of Q a) (code_of Q b)
      same_branch t a b c h k =
          ap (λ e. if_code s end_label t e (code_of P b)) (same_code a c.0 (each_first ReadsKnown (trees a) (trees b) h.1) (each_first IsKnownArray (named a) (named b) k)) ∙
          ap (λ e. if_code s end_label t (code_of Q a) e) (same_code b c.1 (each_right ReadsKnown (trees a) (trees b) h.1) (each_right IsKnownArray (named a) (named b) k)) ∙
          same_test t h.0 (short_cut (code_of Q a).alone (code_of Q b).alone) (code_of Q a) (code_of Q b)

      same_loop : (b : List Stm) → Each IsSame b → Each ReadsKnown (trees b) → Each IsKnownArray (named b) → loop_code s (map (statement_code P) b) ≡ loop_code s' (map (statement_code Q) b)
      same_loop [] c h k = refl
      same_loop (t ∷ b) c h k =
          ap (loop_code s) (same_codes (t ∷ b) c h k) ∙
          same_turn (statement_code Q t).stays (statement_code Q t) (map (statement_code Q) b) (c.0 (each_first ReadsKnown (stm_trees t) (trees b) h) (each_first IsKnownArray (stm_named t) (named b) k)).1

      -- the code that leaves a result by given lines
      abbrev returned : List Line → Emitted
      returned result = record { labels = 0; alone = None; stays = None; lines = λ around label way. result ++ go_to way end_label }

      abbrev layer_code : Plan → Stm-F Stm → Emitted
      layer_code plan x = code_layer plan (map-Stm Stm Emitted (statement_code plan) x)

      layer : (x : Stm-F Stm) → StmChildren IsSame x → Each ReadsKnown (layer_trees (map-Stm Stm (List Tree) stm_trees x)) →
          Each IsKnownArray (layer_named (map-Stm Stm (List Array) stm_named x)) → (layer_code P x ≡ layer_code Q x) × StaysKnown (layer_code Q x).stays
      layer (stm.Set t v) c h k = (ap plain (same_set t v h.0), tt)
      layer (stm.SetGlobal g v) c h k = (
        ap (λ (p : List Line × ℕ). plain (p.0 ++ store_lines (place g) p.1)) (same_operand v h.0 first) ∙
            ap (λ a. plain (operand_lines s' v first ++ store_lines a (operand_register s' v first))) (same_place g k.0),
        tt,
      )
      layer (stm.Divide t o a b) c h k = (ap plain (same_divide t o a b h.0 h.1.0), tt)
      layer (stm.Check a i) c h k = (
        ap plain (same_check (flow_code.size P a) (tests P a) i h.0) ∙ ap (λ n. plain (check_lines s' n (tests P a) i)) (same_count a k.0) ∙
            ap (λ tested. plain (check_lines s' (flow_code.size Q a) tested i)) (same_tests a k.0),
        tt,
      )
      layer (stm.Read t a i) c h k = (
        ap plain (same_read t (home P a) (flow_code.size P a) (tests P a) i h.0) ∙ ap (λ at. plain (read_lines s' t at (flow_code.size P a) (tests P a) i)) (same_home a k.0) ∙
            ap (λ n. plain (read_lines s' t (home Q a) n (tests P a) i)) (same_count a k.0) ∙ ap (λ tested. plain (read_lines s' t (home Q a) (flow_code.size Q a) tested i)) (same_tests a k.0),
        tt,
      )
      layer (stm.Write a i v) c h k = (
        ap plain (same_write (home P a) (flow_code.size P a) (tests P a) i v h.0 h.1.0) ∙ ap (λ at. plain (write_lines s' at (flow_code.size P a) (tests P a) i v)) (same_home a k.0) ∙
            ap (λ n. plain (write_lines s' (home Q a) n (tests P a) i v)) (same_count a k.0) ∙ ap (λ tested. plain (write_lines s' (home Q a) (flow_code.size Q a) tested i v)) (same_tests a k.0),
        tt,
      )
      layer (stm.Zero a) c h k = (refl, tt)
      layer (stm.If t a b) c h k = (same_branch t a b c (h.0, h.1) k, if_known s' t (short_cut (code_of Q a).alone (code_of Q b).alone) (code_of Q a) (code_of Q b) h.0)
      layer (stm.Loop b) c h k = (same_loop b c h k, loop_known b)
        where
          loop_by_known : (o : Option Tested) (e : Emitted) (rest : List Emitted) → StaysKnown (loop_by s' o e rest).stays
          loop_by_known None e rest = tt
          loop_by_known (Some a) e rest = tt

          loop_known : (b : List Stm) → StaysKnown (loop_code s' (map (statement_code Q) b)).stays
          loop_known [] = tt
          loop_known (t ∷ b) = loop_by_known (statement_code Q t).stays (statement_code Q t) (map (statement_code Q) b)
      layer (stm.Block b) c h k = (ap block_code (same_code b c h k), tt)
      layer (stm.Break n) c h k = (refl, tt)
      layer (stm.Back n) c h k = (refl, tt)
      layer (stm.Call r f args) c h k = (ap plain (same_call is_attributed r f args h k), tt)
      layer (stm.Known r f args) c h k = (ap plain (same_known_call r f args h), tt)
      layer (stm.Return v) c h k = (ap returned (same_value v h.0), tt)

      from_layer : (x : Stm-F Stm) → StmChildren IsSame x → IsSame (roll-Stm x)
      from_layer x c h k =
          let both = layer x c (subst (Each ReadsKnown) (trees_roll x) h) (subst (Each IsKnownArray) (named_roll x) k) in
          (code_roll P x ∙ both.0 ∙ sym (code_roll Q x), subst (λ (e : Emitted). StaysKnown e.stays) (sym (code_roll Q x)) both.1)

      pub all_same : (code : List Stm) → Each ReadsKnown (trees code) → Each IsKnownArray (named code) → code_of P code ≡ code_of Q code
      all_same code h k = same_code code (stms_ind IsSame (stm_ind IsSame from_layer) code) h k

    pub same_lines : (size size' : ℕ → ℕ) → ((g : ℕ) → is_known g ≡ true → size g ≡ size' g) → (is_attributed : ℕ → Bool) (shape : Shape) → register_of shape.keeping ≡ register → pinned_in shape.pins ≡ pinned
        → (code : List Stm) → Each ReadsKnown (trees code) → Each IsKnownArray (named code) → function_lines place size is_attributed shape code ≡ function_lines place' size' is_attributed shape code
    same_lines size size' same_size is_attributed shape is pins_are code h k =
        let behind = Label end_label ∷ return_by shape.keeping shape in
        let at = array_offset shape.temps shape.arrays in
        let count = slice_index shape.arrays in
        let over = λ (p : ℕ → ℕ) (n : ℕ → ℕ) (r o : ℕ → Option ℕ). code_of (record {
          seats = record { place = p; register = r; pinned = o };
          size = n;
          array_at = at;
          array_size = count;
          end = end_label;
          calls = calls_of (record { place = p; register = r; pinned = o }) is_attributed;
        }) code in
        let same : over place size (register_of shape.keeping) (pinned_in shape.pins) ≡ over place' size' (register_of shape.keeping) (pinned_in shape.pins) =
        ap (λ r. over place size r (pinned_in shape.pins)) is ∙ ap (over place size register) pins_are ∙ all_same size size' same_size is_attributed at count code h k
        ∙ sym (ap (over place' size' register) pins_are) ∙ sym (ap (λ r. over place' size' r (pinned_in shape.pins)) is) in
        ap (λ (e : Emitted). led (entry_by shape.keeping shape ++ (e.lines [] (end_label + 1) (fall_to end_label) ++ behind))) same

-- ---- bodies

module _ (b : Body) (formed : IsWellFormed b) where
  -- each array that the code names, and each scalar that its trees read, has a room
  pub known_arrays : Each (IsKnownArray (has_room b.rooms)) (named b.code)
  known_arrays = each_weaker (IsIn (is_there b.rooms b.arrays)) (IsKnownArray (has_room b.rooms)) known (named b.code) (each_true (is_there b.rooms b.arrays) (named b.code) formed.named)
    where
      known : (a : Array) → is_there b.rooms b.arrays a ≡ true → IsKnownArray (has_room b.rooms) a
      known (array.Global g) h = h
      known (array.Local l) h = tt
      known (array.SureGlobal g n) h = h
      known (array.SureLocal l n) h = tt

  pub known_reads : Each (ReadsKnown (has_room b.rooms)) (trees b.code)
  known_reads = each_joined (IsIn (has_room b.rooms)) tree_reads (trees b.code) (each_true (has_room b.rooms) (scalars_read b.code) formed.read)

pub code_is_the_same : CodeIsTheSame
code_is_the_same y attributed is_attributed b formed rooms =
    same_lines (has_room b.rooms) (place_in b.rooms) y.place rooms.places (register_of (shape_of attributed b).keeping)
    (pinned_in (shape_of attributed b).pins) (size_in b.rooms) y.size rooms.sizes is_attributed (shape_of attributed b) refl refl b.code
    (known_reads b formed) (known_arrays b formed)
