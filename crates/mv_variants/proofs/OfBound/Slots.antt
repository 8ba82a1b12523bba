-- One slot stands in the code of a function for each direct call of an attributed function, and it is the callee's; and one of four words for each call
-- through a pointer switch, and it goes through that.
use Rattle.std.proofs.Common.{◌≡◌, ℕ, zero, suc, ◌+◌, Bool, true, false, cond, List, [], ◌∷◌, ◌++◌, Option, Some, None, IfSome, map, refl, sym, subst, ap, ◌∙◌, add-zero, arith}
use Rattle.mv_isa.specs.declared.labelled.Line.{Line}
use Rattle.mv_isa.specs.declared.labelled.Line.TheVariants.{Label, Slot, Point}
use Rattle.mv_isa.specs.Registers.{a0 as first_argument, t3 as scratch_register}
use Rattle.mv_ir.specs.declared.tree.Tree.{Tree}
use Rattle.mv_ir.specs.declared.stm.Callee.{Callee}
use Rattle.mv_ir.specs.declared.stm.Callee.TheVariants as callee
use Rattle.mv_ir.specs.declared.stm.Stm.{Stm}
use Rattle.mv_ir.specs.declared.stm.Stm.TheOpen.{Stm-F}
use Rattle.mv_ir.specs.declared.stm.Stm.TheOpen as stm
use Rattle.mv_ir.specs.declared.stm.Stm.TheViews.{roll-Stm}
use Rattle.mv_ir.specs.declared.stm.Stm.TheFolds.{map-Stm}
use Rattle.mv_ir.proofs.Induction.{Each, StmChildren, stm_ind, stms_ind}
use Rattle.mv_select_code.specs.Trees.TreeCode.{Seats, tree_lines, branch_lines}
use Rattle.mv_select_code.specs.Statements.StatementCode.{first, result_lines}
use Rattle.mv_select_code.specs.declared.control.enclosing.Enclosing.{Enclosing}
use Rattle.mv_select_code.specs.declared.control.enclosing.Leading.{Leading}
use Rattle.mv_select_code.specs.declared.control.enclosing.Leading.TheVariants as lead
use Rattle.mv_select_code.specs.declared.control.enclosing.Way.{Way}
use Rattle.mv_select_code.specs.Control.FlowCode.{Plan, Tested, Emitted, enclosing_at, fall_to, jump_to, go_to, go_on, leads_to, plain, in_turn, staying, branch_code, if_leads, loop_at, block_at, straight_loop, turned_loop, loop_by, loop_of, zero_lines, home, size, tests, code_layer, statement_code}
use Rattle.mv_select_code.proofs.OfControl.Equations.{code_roll}
use Rattle.mv_select_code.proofs.OfControl.TreeNames.{AnyNumber, all_any}
use Rattle.mv_select_code.proofs.OfControl.StatementsAreMade.{LineByLine, tree_made, branch_made, result_made as returned_made, go_to_made, go_on_made, set_made, set_global_made, divide_made, check_made, read_made, write_made}
use Rattle.mv_select.specs.Calls.CallCode.{result_lines as call_result_lines, guarded_lines, slot_lines, entry_lines, pad_lines, pointer_lines, argument_lines, transfer_lines, call_lines}
use Rattle.mv_select.proofs.OfCalls.CallsAreMade.{result_made, argument_made, known_made}
use Rattle.mv_select.specs.Functions.FunctionCode.{Shape, seats_of, end_label, plan, body_lines, entry_by, return_by, led, function_lines}
use Rattle.mv_select.proofs.OfFunctions.FramesAreMade.{entry_made, return_made}
use Rattle.mv_ir.specs.Measures.{total}
use Rattle.mv_lower_spec.specs.Shape.Calls.{stm_weight, stm_through}
use Rattle.mv_variants.specs.Bound.Slots.{slots, slot_weight, points_where, one_each, weight_where, SlotsAreCalls, PointsAreCalls, SlotsWeighAsCalls}
use Rattle.mv_variants.proofs.OfBound.Weights.{w_roll, through_roll}

-- The weight of some lines: a slot weighs what its function does, and one of four words what its address does.
abbrev weigh : (slot point : ℕ → ℕ) → List Line → ℕ
weigh slot point [] = 0
weigh slot point (Slot f ∷ rest) = slot f + weigh slot point rest
weigh slot point (Point a ∷ rest) = point a + weigh slot point rest
weigh slot point (_ ∷ rest) = weigh slot point rest

slots_weighed : (w : ℕ → ℕ) (lines : List Line) → slot_weight w lines ≡ weigh w (λ a. 0) lines
slots_weighed w [] = refl
slots_weighed w (Slot f ∷ lines) = let rest = slots_weighed w lines in omega (arith, rest)
slots_weighed w (Point a ∷ lines) = let rest = slots_weighed w lines in omega (arith, rest)
slots_weighed w (line ∷ lines) = slots_weighed w lines

points_weighed : (test : ℕ → Bool) (lines : List Line) → points_where test lines ≡ weigh (λ f. 0) (one_each test) lines
points_weighed test [] = refl
points_weighed test (Slot f ∷ lines) = let rest = points_weighed test lines in omega (arith, rest)
points_weighed test (Point a ∷ lines) = let rest = points_weighed test lines in omega (arith, rest)
points_weighed test (line ∷ lines) = points_weighed test lines

-- with a weight of one for each function the slots are counted
slots_counted : (lines : List Line) → slots lines ≡ slot_weight (λ f. 1) lines
slots_counted [] = refl
slots_counted (Slot f ∷ lines) = let rest = slots_counted lines in omega (arith, rest)
slots_counted (line ∷ lines) = slots_counted lines

-- the weight of a statement's calls, by that of whom they call
abbrev calls_layer : (Callee → ℕ) → Stm-F ℕ → ℕ
calls_layer of (stm.If t a b) = total a + total b
calls_layer of (stm.Loop b) = total b
calls_layer of (stm.Block b) = total b
calls_layer of (stm.Call r f args) = of f
calls_layer of _ = 0

module _ (slot point : ℕ → ℕ) where
  weigh_append : (a b : List Line) → weigh slot point (a ++ b) ≡ weigh slot point a + weigh slot point b
  weigh_append [] b = omega arith
  weigh_append (Slot f ∷ a) b = let rest = weigh_append a b in omega (arith, rest)
  weigh_append (Point p ∷ a) b = let rest = weigh_append a b in omega (arith, rest)
  weigh_append (line ∷ a) b = weigh_append a b

  abbrev Weighs : ℕ → List Line → Type 0
  Weighs n lines = weigh slot point lines ≡ n

  abbrev WeighNone : List Line → Type 0
  WeighNone = Weighs 0

  weigh_both : {m n : ℕ} (a b : List Line) → Weighs m a → Weighs n b → Weighs (m + n) (a ++ b)
  weigh_both {m} {n} a b h k = weigh_append a b ∙ ap (λ z. z + weigh slot point b) h ∙ ap (λ z. m + z) k

  -- lines without slots
  none_made : LineByLine WeighNone AnyNumber AnyNumber AnyNumber
  none_made = record {
    none = refl;
    after = λ a b h k. omega (arith, weigh_append a b, h, k);
    word = λ i. refl;
    label = λ l h. refl;
    jump = λ l h. refl;
    branch = λ funct3 a b l h. refl;
    entry = λ r f h. refl;
  }

  no_result : (s : Seats) (r : Option ℕ) → WeighNone (call_result_lines s r)
  no_result = result_made none_made

  -- such lines before some, and behind some
  behind : {n : ℕ} (a b : List Line) → WeighNone a → Weighs n b → Weighs n (a ++ b)
  behind a b h k = omega (arith, weigh_append a b, h, k)

  ahead : {n : ℕ} (a b : List Line) → Weighs n a → WeighNone b → Weighs n (a ++ b)
  ahead a b h k = omega (arith, weigh_append a b, h, k)

  no_pad : (f : Callee) (args : List Tree) → WeighNone (pad_lines f args)
  no_pad (callee.Switched g) [] = refl
  no_pad _ _ = refl

  -- a word before a label weighs nothing
  led_weighs : {n : ℕ} (lines : List Line) → Weighs n lines → Weighs n (led lines)
  led_weighs [] h = h
  led_weighs (Label l ∷ lines) h = h
  led_weighs (line ∷ lines) h = h

  module _ (place : ℕ → ℕ) (shape : Shape) (is_attributed : ℕ → Bool) (direct : ℕ → ℕ) (direct_is : (f : ℕ) → weight_where is_attributed slot f ≡ direct f) where
    abbrev seats : Seats
    seats = seats_of place shape

    -- a call of an attributed function weighs what its slot does, and one through a pointer switch what its place does
    abbrev callee_weighs : Callee → ℕ
    callee_weighs (callee.Direct f) = direct f
    callee_weighs (callee.Through t) = 0
    callee_weighs (callee.Switched g) = point (place g)
    callee_weighs callee.Expanded = 0

    transfer_weighs : (f : Callee) (r : Option ℕ) → Weighs (callee_weighs f) (transfer_lines seats is_attributed f r)
    transfer_weighs (callee.Direct f) r = by (is_attributed f) ∙ direct_is f
      where
        by : (b : Bool) → Weighs (cond b (slot f) 0) (cond b (guarded_lines seats (slot_lines f) r) (guarded_lines seats (entry_lines f) r))
        by true = let none = no_result seats r in omega (arith, none)
        by false = no_result seats r
    transfer_weighs (callee.Through t) r =
        behind (tree_lines seats t scratch_register) (pointer_lines seats r) (tree_made none_made seats t (all_any _) scratch_register) (no_result seats r)
    transfer_weighs (callee.Switched g) r = let none = no_result seats r in omega (arith, none)
    transfer_weighs callee.Expanded r = refl

    call_weighs : (r : Option ℕ) (f : Callee) (args : List Tree) → Weighs (callee_weighs f) (call_lines seats is_attributed r f args)
    call_weighs r f args =
        let arguments = argument_lines seats first_argument args in
        let transfer = transfer_lines seats is_attributed f r in
        behind (pad_lines f args) (arguments ++ transfer) (no_pad f args) (behind arguments transfer (argument_made none_made seats first_argument args (all_any _)) (transfer_weighs f r))

    -- ---- statements, each with the weight of its calls

    module _ (sizes : ℕ → ℕ) (w : Stm → ℕ) (w_roll : (x : Stm-F Stm) → w (roll-Stm x) ≡ calls_layer callee_weighs (map-Stm Stm ℕ w x)) where
      abbrev P : Plan
      P = plan place sizes is_attributed shape

      abbrev all : List Stm → ℕ
      all code = total (map w code)

      -- code that only leads somewhere else has no calls
      abbrev NoneAlone : ℕ → Option Leading → Type 0
      NoneAlone n None = Unit {0}
      NoneAlone n (Some l) = n ≡ 0

      abbrev LinesWeigh : ℕ → (List Enclosing → ℕ → Way → List Line) → Type 0
      LinesWeigh n lines = (around : List Enclosing) (label : ℕ) (way : Way) → Weighs n (lines around label way)

      -- and code that only stays for other code has the calls of that
      record CodeWeighs (n : ℕ) (code : Emitted) : Type 0 where
        lines : LinesWeigh n code.lines
        alone : NoneAlone n code.alone
        stays : IfSome code.stays (λ a. LinesWeigh n a.lines)

      abbrev StmWeighs : Stm → Type 0
      StmWeighs s = CodeWeighs (w s) (statement_code P s)

      -- lines, and then on
      on_weighs : {n : ℕ} (lines : List Line) → Weighs n lines → CodeWeighs n (plain lines)
      on_weighs lines h = record { lines = λ around label way. ahead lines (go_on way) h (go_on_made none_made seats way tt); alone = tt; stays = tt }

      in_order : (code : List Stm) → Each StmWeighs code → CodeWeighs (all code) (in_turn (map (statement_code P) code))
      in_order [] h = record { lines = λ around label way. go_on_made none_made seats way tt; alone = refl; stays = tt }
      in_order (s ∷ []) h = subst (λ n. CodeWeighs n (statement_code P s)) (sym (add-zero (w s))) h.0
      in_order (s ∷ t ∷ code) h = record {
        lines = λ around label way.
            let here = statement_code P s in
            let rest = in_turn (map (statement_code P) (t ∷ code)) in
            weigh_both (here.lines around (label + 1) (fall_to label)) (Label label ∷ rest.lines around (label + 1 + here.labels) way)
            (h.0.lines around (label + 1) (fall_to label)) ((in_order (t ∷ code) h.1).lines around (label + 1 + here.labels) way);
        alone = tt;
        stays = tt;
      }

      -- a branch to where another list leads, which has no calls, and this list
      staying_weighs : {n : ℕ} (t : Tree) (sense : Bool) (l : Leading) (a : Emitted) → CodeWeighs n a → IfSome (staying t sense l a) (λ b. LinesWeigh n b.lines)
      staying_weighs t sense lead.On a h = tt
      staying_weighs t sense (lead.Out zero) a h = h.lines
      staying_weighs t sense (lead.Out (suc n)) a h = tt
      staying_weighs t sense (lead.Back n) a h = tt

      branched : {n : ℕ} (t : Tree) (sense : Bool) (l : Leading) (a : Emitted) → CodeWeighs n a → CodeWeighs n (branch_code seats end_label t sense l a)
      branched t sense l a h = record {
        lines = λ around label way.
            let to = leads_to end_label around way l in
            behind (branch_lines seats t sense first to) (a.lines around label way) (branch_made none_made seats t (all_any _) sense first to tt) (h.lines around label way);
        alone = tt;
        stays = staying_weighs t sense l a h;
      }

      if_weighs : {m n : ℕ} (t : Tree) (x y : Option Leading) (a b : Emitted) → CodeWeighs m a → CodeWeighs n b → NoneAlone m x → NoneAlone n y → CodeWeighs (m + n) (if_leads seats end_label t x y a b)
      if_weighs t None None a b h k none none' = record {
        lines = λ around label way.
            let ls = a.lines around (label + 1) (jump_to way.after) in
            let ls' = Label label ∷ b.lines around (label + 1 + a.labels) way in
            behind (branch_lines seats t false first label) (ls ++ ls') (branch_made none_made seats t (all_any _) false first label tt)
            (weigh_both ls ls' (h.lines around (label + 1) (jump_to way.after)) (k.lines around (label + 1 + a.labels) way));
        alone = tt;
        stays = tt;
      }
      if_weighs t (Some l) None a b h k none none' = branched t true l b (subst (λ z. CodeWeighs z b) (omega (arith, none)) k)
      if_weighs t None (Some l) a b h k none none' = branched t false l a (subst (λ z. CodeWeighs z a) (omega (arith, none')) h)
      if_weighs t (Some l) (Some lead.On) a b h k none none' = branched t true l b (subst (λ z. CodeWeighs z b) (omega (arith, none)) k)
      if_weighs t (Some l) (Some (lead.Out o)) a b h k none none' = branched t false (lead.Out o) a (subst (λ z. CodeWeighs z a) (omega (arith, none')) h)
      if_weighs t (Some l) (Some (lead.Back o)) a b h k none none' = branched t false (lead.Back o) a (subst (λ z. CodeWeighs z a) (omega (arith, none')) h)

      -- a loop in order, and one with its test at its end
      straight_weighs : (code : List Stm) → Each StmWeighs code → CodeWeighs (all code) (straight_loop (in_turn (map (statement_code P) code)))
      straight_weighs code h = record { lines = λ around label way. (in_order code h).lines (loop_at label way ∷ around) (label + 1) (jump_to label); alone = tt; stays = tt }

      turned_weighs : {m n : ℕ} (a : Tested) (rest : Emitted) → LinesWeigh m a.lines → LinesWeigh n rest.lines → CodeWeighs (m + n) (turned_loop seats a rest)
      turned_weighs a rest h k = record {
        lines = λ around label way.
            let inside = loop_at (label + 1) way ∷ around in
            let ls = a.lines inside (label + 3) (fall_to (label + 2)) in
            let ls' = rest.lines inside (label + 3 + a.labels) (fall_to (label + 1)) in
            let test = branch_lines seats a.test a.sense first label in
            let end = ahead test (go_on way) (branch_made none_made seats a.test (all_any _) a.sense first label tt) (go_on_made none_made seats way tt) in
            weigh_both ls (Label (label + 2) ∷ (ls' ++ (Label (label + 1) ∷ (test ++ go_on way)))) (h inside (label + 3) (fall_to (label + 2)))
            (ahead ls' (Label (label + 1) ∷ (test ++ go_on way)) (k inside (label + 3 + a.labels) (fall_to (label + 1))) end);
        alone = tt;
        stays = tt;
      }

      loop_weighs : (code : List Stm) → Each StmWeighs code → CodeWeighs (all code) (loop_of P code)
      loop_weighs [] h = straight_weighs [] h
      loop_weighs (s ∷ code) h = by (statement_code P s).stays h.0.stays
        where
          by : (x : Option Tested) → IfSome x (λ a. LinesWeigh (w s) a.lines) → CodeWeighs (all (s ∷ code)) (loop_by seats x (statement_code P s) (map (statement_code P) code))
          by None stays = straight_weighs (s ∷ code) h
          by (Some a) stays = turned_weighs a (in_turn (map (statement_code P) code)) stays (in_order code h.1).lines

      layer : (x : Stm-F Stm) → StmChildren StmWeighs x → CodeWeighs (calls_layer callee_weighs (map-Stm Stm ℕ w x)) (code_layer P (map-Stm Stm Emitted (statement_code P) x))
      layer (stm.Set t v) h = on_weighs _ (set_made none_made seats t v (all_any _))
      layer (stm.SetGlobal g v) h = on_weighs _ (set_global_made none_made seats g v (all_any _))
      layer (stm.Divide t o a b) h = on_weighs _ (divide_made none_made seats t o a b tt (all_any _) (all_any _))
      layer (stm.Check a i) h = on_weighs _ (check_made none_made seats (size P a) (tests P a) i tt (all_any _))
      layer (stm.Read t a i) h = on_weighs _ (read_made none_made seats t (size P a) (home P a) (tests P a) i tt (all_any _))
      layer (stm.Write a i v) h = on_weighs _ (write_made none_made seats (size P a) (home P a) (tests P a) i v tt (all_any _) (all_any _))
      layer (stm.Zero a) h = record {
        lines = λ around label way. ahead (zero_lines label (P.array_at a) (P.array_size a)) (go_on way) refl (go_on_made none_made seats way tt);
        alone = tt;
        stays = tt;
      }
      layer (stm.If t a b) h =
          let x = in_order a h.0 in
          let y = in_order b h.1 in
          if_weighs t _ _ (in_turn (map (statement_code P) a)) (in_turn (map (statement_code P) b)) x y x.alone y.alone
      layer (stm.Loop b) h = loop_weighs b h
      layer (stm.Block b) h = record { lines = λ around label way. (in_order b h).lines (block_at way ∷ around) label way; alone = tt; stays = tt }
      layer (stm.Break n) h = record {
        lines = λ around label way. go_to_made none_made seats way (enclosing_at around n end_label).end tt;
        alone = refl;
        stays = tt;
      }
      layer (stm.Back n) h = record { lines = λ around label way. refl; alone = refl; stays = tt }
      layer (stm.Call r f args) h = on_weighs _ (call_weighs r f args)
      layer (stm.Known r k args) h = on_weighs _ (known_made none_made refl seats r k args (all_any _))
      layer (stm.Return v) h = record {
        lines = λ around label way.
            ahead (result_lines seats v) (go_to way end_label) (returned_made none_made seats v (all_any _)) (go_to_made none_made seats way end_label tt);
        alone = tt;
        stays = tt;
      }

      from_layer : (x : Stm-F Stm) → StmChildren StmWeighs x → StmWeighs (roll-Stm x)
      from_layer x h =
          subst (λ n. CodeWeighs n (statement_code P (roll-Stm x))) (sym (w_roll x)) (subst (CodeWeighs (calls_layer callee_weighs (map-Stm Stm ℕ w x))) (sym (code_roll P x)) (layer x h))

      lines_weigh : (code : List Stm) → Weighs (all code) (function_lines place sizes is_attributed shape code)
      lines_weigh code =
          let enter = entry_by shape.keeping shape in
          let end = Label end_label ∷ return_by shape.keeping shape in
          let body = body_lines place sizes is_attributed shape code in
          let body_weighs = (in_order code (stms_ind StmWeighs (stm_ind StmWeighs from_layer) code)).lines [] (end_label + 1) (fall_to end_label) in
          led_weighs (enter ++ (body ++ end))
          (behind enter (body ++ end) (entry_made none_made shape.keeping shape) (ahead body end body_weighs (return_made none_made shape.keeping shape)))

-- ---- functions

pub slots_weigh : SlotsWeighAsCalls
slots_weigh place sizes is_attributed shape code weight =
    let direct = weight_where is_attributed weight in
    slots_weighed weight (function_lines place sizes is_attributed shape code)
    ∙ lines_weigh weight (λ a. 0) place shape is_attributed direct (λ f. refl) sizes (stm_weight direct 0) (w_roll direct 0) code

pub slots_are_calls : SlotsAreCalls
slots_are_calls place sizes is_attributed shape code =
    slots_counted (function_lines place sizes is_attributed shape code) ∙ slots_weigh place sizes is_attributed shape code (λ f. 1)

pub points_are_calls : PointsAreCalls
points_are_calls place sizes is_attributed shape code test =
    let through = λ (g : ℕ). test (place g) in
    points_weighed test (function_lines place sizes is_attributed shape code)
    ∙ lines_weigh (λ f. 0) (one_each test) place shape is_attributed (λ f. 0) (λ f. by (is_attributed f)) sizes (stm_through through) (through_roll through) code
  where
    by : (b : Bool) → ◌≡◌ {A = ℕ} (cond b 0 0) 0
    by true = refl
    by false = refl
