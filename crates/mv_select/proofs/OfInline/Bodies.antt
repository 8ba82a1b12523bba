-- The two instructions of a body do what the body means.
use Rattle.std.proofs.Common.{◌≡◌, ◌&&◌, ℕ, ◌+◌, ◌-◌, ◌<◌, ◌≤◌, ◌^◌, Bool, true, false, cond, ltb, List, [], ◌∷◌, length, Some, None, Contains, slice_index, refl, sym, ap, ◌∙◌, subst, arith}
use Rattle.std.proofs.lemmas.Bool.{ltb-true}
use Rattle.std.proofs.lemmas.List.{get_or_append_left}
use Rattle.std.proofs.lemmas.Option.{none-some, same_Some}
use Rattle.mv_isa.specs.declared.instr.Instr.{Instr}
use Rattle.mv_isa.specs.Code.{IsPlace}
use Rattle.mv_isa.specs.Execution.{Access}
use Rattle.mv_isa.specs.Standing.{InstrStands}
use Rattle.mv_ir.specs.declared.tree.Tree.{Tree, out-Tree}
use Rattle.mv_ir.specs.declared.tree.Tree.TheOpen.{Tree-F}
use Rattle.mv_ir.specs.declared.tree.Tree.TheOpen as tree
use Rattle.mv_ir.specs.declared.tree.Tree.TheViews.{roll-Tree, roll-out-Tree}
use Rattle.mv_ir.specs.declared.tree.Tree.TheFolds.{map-Tree}
use Rattle.mv_ir.specs.declared.stm.Stm.{Stm, out-Stm}
use Rattle.mv_ir.specs.declared.stm.Stm.TheOpen.{Stm-F}
use Rattle.mv_ir.specs.declared.stm.Stm.TheOpen as stm
use Rattle.mv_ir.specs.declared.stm.Stm.TheViews.{roll-Stm, roll-out-Stm}
use Rattle.mv_ir.specs.declared.body.Body.{Body}
use Rattle.mv_ir.specs.Trees.{scalar, Value, tree_value, value, read_as}
use Rattle.mv_ir.specs.World as ir
use Rattle.mv_ir.specs.World.{World}
use Rattle.mv_ir.specs.Outcome.{State, End, Returned, Trapped, More, Stuck, Bound}
use Rattle.mv_ir.specs.Meaning.{Contents, first_items, code_meaning, entry_state, body_end, body_from}
use Rattle.mv_ir.specs.Measures.{scalars_read}
use Rattle.mv_ir.proofs.Keeping.{one_meaning}
use Rattle.mv_ir.proofs.Rolls.{value_roll}
use Rattle.mv_select_code.specs.Trees.View.{View, names_layer, is_in_view}
use Rattle.mv_select_code.proofs.OfTrees.Rolls.{in_view_roll}
use Rattle.mv_select_code.specs.Statements.Frames.{Reach, view_of}
use Rattle.mv_select_code.specs.Control.FlowCode.{are_fine, is_fine_statement}
use Rattle.mv_select_code.specs.Control.Runs.{Machine}
use Rattle.mv_select_code.proofs.OfControl.Equations.{fine_roll}
use Rattle.mv_select.specs.Calls.Convention.{Layout, Stands, Enters, FollowsCall}
use Rattle.mv_select.specs.Functions.Functions.{IsLaid, IsMemory, IsAmple, RunsWithin, IsFunction, frame_in, shape_of, site_of}
use Rattle.mv_select.specs.Inline.InlineOf.{parameter_pair, load_pair, store_pair, number_pair, return_layer, return_pair, set_layer, set_pair, statement_layer, statement_pair, code_pair, inline_of}
use Rattle.mv_select.specs.Inline.Laws.{ComesBack, IsDone, InlineAnswers}
use Rattle.mv_select.proofs.OfInline.Stored.{set_in}
use Rattle.mv_select.proofs.OfInline.Rooms.{reads_are}
use Rattle.mv_select.proofs.OfInline.Shapes.{Shape, empty_done, number_done, parameter_done, load_done, store_done}
use Rattle.mv_select_code.specs.Control.Laws.{uses_in}
use Rattle.mv_num.proofs.Booleans.{and_left}
use Rattle.mv_ir.proofs.Joining.{items_count}

-- a choice that gives something was made by a test that holds
pub chosen_test : {A : Type 0} (b : Bool) (a p : A) → cond b (Some a) None ≡ Some p → b ≡ true
chosen_test true a p e = refl
chosen_test false a p e = absurd (none-some p e)

pub chosen : {A : Type 0} (b : Bool) (a p : A) → cond b (Some a) None ≡ Some p → a ≡ p
chosen true a p e = same_Some a p e
chosen false a p e = absurd (none-some p e)

module _ {M : Type 0} (access : Access M) (y : Layout) (laid : IsLaid y) (machine : Machine M) (memory : IsMemory access y machine)
    (reach : Reach) (ample : IsAmple y reach) (runs : RunsWithin access y machine reach) (setting : ir.Setting) (budget far : ℕ) (levels : Bound)
    (attributed : Bool) (bound : List (ℕ × ℕ)) (is_fine : Tree → Bool) (body : Body) (fn : IsFunction y setting attributed bound reach is_fine body)
    (at : ℕ) (here : IsPlace at) (depth live : ℕ) (args : List ℕ) (count : length args ≡ body.params) (contents : Contents) (k i spare : ℕ) (w : World)
    (stands : Stands access y machine budget far at w i) (enters : Enters access y machine budget far depth live args i)
    (paid : i + (spare + 2) ≤ budget) (asked : far ≤ i + k) where
  abbrev frame : ir.Frame
  frame = frame_in attributed bound depth live

  abbrev s0 : State
  s0 = entry_state contents body args w

  -- how code ends
  abbrev E : List Stm → End
  E code = body_end (code_meaning setting frame code levels s0).outcome

  abbrev S : Instr × Instr → End → Type 0
  S = Shape access y laid machine memory reach ample runs budget far bound body at here depth live args k i spare w stands enters paid asked

  abbrev Fine : List Stm → Bool
  Fine = are_fine is_fine y.may_ask body.temps (uses_in y.size reach true)

  abbrev Fine_statement : Stm → Bool
  Fine_statement = is_fine_statement is_fine y.may_ask body.temps (uses_in y.size reach true)

  -- ---- what a tree names is there

  shown : State
  shown = record { temps = first_items body.temps (λ i. 0); arrays = []; world = w }

  abbrev V : View
  V = view_of (site_of y reach (shape_of attributed body) (λ q. 0) (λ b. false) (λ b. 0)) setting frame (record { temps = first_items body.temps (λ i. 0); arrays = []; world = w })

  named : (x : Tree-F Tree) → is_fine (roll-Tree x) ≡ true → names_layer V (map-Tree Tree Bool (is_in_view V) x) ≡ true
  named x e =
      sym (in_view_roll V x)
      ∙ (fn.trees (roll-Tree x) e depth live (λ q. 0) (λ b. false) (λ b. 0)).named (record { temps = first_items body.temps (λ i. 0); arrays = []; world = w }) (items_count body.temps (λ i. 0))

  fine_alone : (x : Stm-F Stm) → Fine (roll-Stm x ∷ []) ≡ true → Fine_statement (roll-Stm x) ≡ true
  fine_alone x e = and_left (Fine_statement (roll-Stm x)) true e

  returned_fine : (v : Tree) → Fine (roll-Stm (stm.Return v) ∷ []) ≡ true → is_fine v ≡ true
  returned_fine v e = sym (fine_roll is_fine y.may_ask body.temps (uses_in y.size reach true) (stm.Return v)) ∙ fine_alone (stm.Return v) e

  stored_there : (g : ℕ) (v : Tree) → Fine (roll-Stm (stm.SetGlobal g v) ∷ []) ≡ true → 0 < y.size g
  stored_there g v e =
      ltb-true 0 (y.size g) (and_left (ltb 0 (y.size g)) (reach.is_written g)
      (and_left (ltb 0 (y.size g) && reach.is_written g) (is_fine v)
      (sym (fine_roll is_fine y.may_ask body.temps (uses_in y.size reach true) (stm.SetGlobal g v)) ∙ fine_alone (stm.SetGlobal g v) e)))

  -- the global that is returned is one that the code reads
  read_alone : (g : ℕ) → Contains (scalars_read (roll-Stm (stm.Return (roll-Tree (tree.Global g))) ∷ [])) g
  read_alone g = subst (λ (xs : List ℕ). Contains xs g) (sym (reads_are g)) (0, omega arith, refl)

  -- ---- how the code of each shape ends

  returns : (x : Tree-F Tree) → E (roll-Stm (stm.Return (roll-Tree x)) ∷ [])
      ≡ Returned (Some (tree_value setting.numbers bound (map-Tree Tree Value (value setting.numbers bound) x) s0.temps w.globals)) w
  returns x = ap (λ r. body_end r.outcome) (one_meaning setting frame (stm.Return (roll-Tree x)) levels s0) ∙ ap (λ (f : Value). Returned (Some (f s0.temps w.globals)) w) (value_roll setting.numbers bound x)

  sets : (g : ℕ) (x : Tree-F Tree) → E (roll-Stm (stm.SetGlobal g (roll-Tree x)) ∷ [])
      ≡ Returned None (set_in w g (tree_value setting.numbers bound (map-Tree Tree Value (value setting.numbers bound) x) s0.temps w.globals))
  sets g x = ap (λ r. body_end r.outcome) (one_meaning setting frame (stm.SetGlobal g (roll-Tree x)) levels s0) ∙ ap (λ (f : Value). Returned None (set_in w g (f s0.temps w.globals))) (value_roll setting.numbers bound x)

  argument : (t : ℕ) → t < length args → slice_index s0.temps t ≡ slice_index args t
  argument t lt = get_or_append_left args (first_items (body.temps - length args) contents.temps) 0 t lt

  is_argument : (t : ℕ) → ltb t body.params ≡ true → t < length args
  is_argument t e = omega (arith, ltb-true t body.params e, count)

  -- ---- by the shape

  -- the shape of a pair, for the pair that it is and the end that it has
  as_shape : (a p : Instr × Instr) (e f : End) → a ≡ p → f ≡ e → S a e → S p f
  as_shape a p e f same ends h = subst (λ z. S z f) same (subst (S a) (sym ends) h)

  of_return : (x : Tree-F Tree) (p : Instr × Instr) → return_layer y.place body.params x ≡ Some p → Fine (roll-Stm (stm.Return (roll-Tree x)) ∷ []) ≡ true
      → body.code ≡ roll-Stm (stm.Return (roll-Tree x)) ∷ [] → S p (E (roll-Stm (stm.Return (roll-Tree x)) ∷ []))
  of_return (tree.Number n) p e fine is =
      as_shape (number_pair n) p (Returned (Some n) w) (E (roll-Stm (stm.Return (roll-Tree (tree.Number n))) ∷ [])) (same_Some (number_pair n) p e) (returns (tree.Number n))
      (number_done access y laid machine memory reach ample runs budget far bound body at here depth live args k i spare w stands enters paid asked n
      (ltb-true n (2 ^ 32) (named (tree.Number n) (returned_fine (roll-Tree (tree.Number n)) fine))))
  of_return (tree.Temp t) p e fine is =
      let lt = is_argument t (chosen_test (ltb t body.params) (parameter_pair t) p e) in
      as_shape (parameter_pair t) p (Returned (Some (slice_index args t)) w) (E (roll-Stm (stm.Return (roll-Tree (tree.Temp t))) ∷ [])) (chosen (ltb t body.params) (parameter_pair t) p e)
      (returns (tree.Temp t) ∙ ap (λ v. Returned (Some v) w) (argument t lt))
      (parameter_done access y laid machine memory reach ample runs budget far bound body at here depth live args k i spare w stands enters paid asked t lt)
  of_return (tree.Global g) p e fine is =
      let reads : reach.is_read g ≡ true = named (tree.Global g) (returned_fine (roll-Tree (tree.Global g)) fine) in
      as_shape (load_pair (y.place g)) p (Returned (Some (scalar w.globals g)) w) (E (roll-Stm (stm.Return (roll-Tree (tree.Global g))) ∷ [])) (same_Some (load_pair (y.place g)) p e)
      (returns (tree.Global g) ∙ ap (λ o. Returned (Some (read_as o (scalar w.globals g))) w) (fn.free g reads))
      (load_done access y laid machine memory reach ample runs budget far bound body at here depth live args k i spare w stands enters paid asked g reads
      (fn.read g reads) (subst (λ c. Contains (scalars_read c) g) (sym is) (read_alone g)) (fn.free g reads))
  of_return (tree.Function f) p e fine is = absurd (none-some p e)
  of_return (tree.Unary o a) p e fine is = absurd (none-some p e)
  of_return (tree.Binary o a b) p e fine is = absurd (none-some p e)
  of_return (tree.Narrow c a) p e fine is = absurd (none-some p e)

  of_set : (g : ℕ) (x : Tree-F Tree) (p : Instr × Instr) → set_layer y.place body.params g x ≡ Some p → Fine (roll-Stm (stm.SetGlobal g (roll-Tree x)) ∷ []) ≡ true
      → S p (E (roll-Stm (stm.SetGlobal g (roll-Tree x)) ∷ []))
  of_set g (tree.Temp t) p e fine =
      let lt = is_argument t (chosen_test (ltb t body.params) (store_pair (y.place g) t) p e) in
      as_shape (store_pair (y.place g) t) p (Returned None (set_in w g (slice_index args t))) (E (roll-Stm (stm.SetGlobal g (roll-Tree (tree.Temp t))) ∷ []))
      (chosen (ltb t body.params) (store_pair (y.place g) t) p e) (sets g (tree.Temp t) ∙ ap (λ v. Returned None (set_in w g v)) (argument t lt))
      (store_done access y laid machine memory reach ample runs budget far bound body at here depth live args k i spare w stands enters paid asked g t (stored_there g (roll-Tree (tree.Temp t)) fine) lt)
  of_set g (tree.Number n) p e fine = absurd (none-some p e)
  of_set g (tree.Global h) p e fine = absurd (none-some p e)
  of_set g (tree.Function f) p e fine = absurd (none-some p e)
  of_set g (tree.Unary o a) p e fine = absurd (none-some p e)
  of_set g (tree.Binary o a b) p e fine = absurd (none-some p e)
  of_set g (tree.Narrow c a) p e fine = absurd (none-some p e)

  of_statement : (x : Stm-F Stm) (p : Instr × Instr) → statement_layer y.place body.params x ≡ Some p → Fine (roll-Stm x ∷ []) ≡ true → body.code ≡ roll-Stm x ∷ [] → S p (E (roll-Stm x ∷ []))
  unfolding return_pair set_pair
  of_statement (stm.Return v) p e fine is =
      subst (λ z. Fine (roll-Stm (stm.Return z) ∷ []) ≡ true → body.code ≡ roll-Stm (stm.Return z) ∷ [] → S p (E (roll-Stm (stm.Return z) ∷ []))) (roll-out-Tree v) (of_return (out-Tree v) p e) fine is
  of_statement (stm.SetGlobal g v) p e fine is =
      subst (λ z. Fine (roll-Stm (stm.SetGlobal g z) ∷ []) ≡ true → S p (E (roll-Stm (stm.SetGlobal g z) ∷ []))) (roll-out-Tree v) (of_set g (out-Tree v) p e) fine
  of_statement (stm.Set t v) p e fine is = absurd (none-some p e)
  of_statement (stm.Divide t o a b) p e fine is = absurd (none-some p e)
  of_statement (stm.Check a j) p e fine is = absurd (none-some p e)
  of_statement (stm.Read t a j) p e fine is = absurd (none-some p e)
  of_statement (stm.Write a j v) p e fine is = absurd (none-some p e)
  of_statement (stm.Zero a) p e fine is = absurd (none-some p e)
  of_statement (stm.If t a b) p e fine is = absurd (none-some p e)
  of_statement (stm.Loop b) p e fine is = absurd (none-some p e)
  of_statement (stm.Block b) p e fine is = absurd (none-some p e)
  of_statement (stm.Break n) p e fine is = absurd (none-some p e)
  of_statement (stm.Back n) p e fine is = absurd (none-some p e)
  of_statement (stm.Call r f xs) p e fine is = absurd (none-some p e)
  of_statement (stm.Known r f xs) p e fine is = absurd (none-some p e)

  of_code : (code : List Stm) (p : Instr × Instr) → code_pair y.place body.params code ≡ Some p → Fine code ≡ true → body.code ≡ code → S p (E code)
  unfolding statement_pair
  of_code [] p e fine is = as_shape _ p (Returned None w) (E []) (same_Some _ p e) refl (empty_done access y laid machine memory reach ample runs budget far bound body at here depth live args k i spare w stands enters paid asked)
  of_code (s ∷ []) p e fine is = subst (λ z. Fine (z ∷ []) ≡ true → body.code ≡ z ∷ [] → S p (E (z ∷ []))) (roll-out-Stm s) (of_statement (out-Stm s) p e) fine is
  of_code (s ∷ t ∷ code) p e fine is = absurd (none-some p e)

  pub inline_done : (one two : Instr) → inline_of y.place body ≡ Some (one, two) → InstrStands machine.text.word at one → InstrStands machine.text.word (at + 4) two
      → IsDone access y machine budget far bound body one two spare k i (at + 8) (body_from setting frame contents body args levels w).end
  inline_done one two e = of_code body.code (one, two) e fn.fine refl

-- what comes back in two steps follows a call
follows : {M : Type 0} (access : Access M) (y : Layout) (machine : Machine M) (budget far spare k i back : ℕ) (e : End) → ComesBack access y machine budget far spare k i back e
    → FollowsCall access y machine budget far spare k i back e
follows access y machine budget far spare k i back (Returned None w) c = (i + 2, c)
follows access y machine budget far spare k i back (Returned (Some v) w) c = (i + 2, c.0, c.1)
follows access y machine budget far spare k i back (Trapped code w) c = absurd c
follows access y machine budget far spare k i back (More w) c = absurd c
follows access y machine budget far spare k i back Stuck c = absurd c

pub inline_answers : (M : Type 0) → InlineAnswers M
inline_answers M access y laid machine memory reach ample runs setting budget far levels attributed bound is_fine body fn one two is at here p q depth live args count contents k i spare w stands enters paid asked =
    follows access y machine budget far spare k i (at + 8) (body_from setting (frame_in attributed bound depth live) contents body args levels w).end
    (inline_done access y laid machine memory reach ample runs setting budget far levels attributed bound is_fine body fn at here depth live args count contents k i spare w stands enters (omega (arith, paid)) asked one two is p q).comes
