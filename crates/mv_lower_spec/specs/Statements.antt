-- What statements are lowered to (C11 6.8), and when that is right. Between statements no temporaries are in use but the locals'.
use Rattle.std.specs.Prelude.{◌≡◌, ℕ, zero, suc, ◌+◌, ◌*◌, ◌≤◌, Bool, true, false, cond, List, [], ◌∷◌, ◌++◌, length, max, nat_le, ◌||◌, ◌-◌, Option, Some, None}
use Rattle.mv_ir.specs.declared.tree.Tree.{Tree}
use Rattle.mv_ir.specs.declared.stm.Array.TheVariants as array
use Rattle.mv_ir.specs.declared.stm.Stm.{Stm}
use Rattle.mv_ir.specs.declared.stm.Stm.TheOpen as stm
use Rattle.mv_ir.specs.declared.stm.Stm.TheViews.{roll-Stm}
use Rattle.mv_ir.specs.Outcome.{State, Returned, Next, Leaves, Ends, Run, Bound, Calls}
use Rattle.mv_ir.specs.Outcome as ir
use Rattle.mv_ir.specs.Meaning.{code_meaning}
use Rattle.mv_bindings.specs.declared.stop.Stop.{Stop}
use Rattle.mv_ast.specs.Counts.{words_of_size, instructions_per_work}
use Rattle.mv_ast.specs.Worlds.{World, Outcome, Came, Stopped}
use Rattle.mv_meaning.specs.declared.state.Frame.{Frame}
use Rattle.mv_meaning.specs.declared.state.Flow.{Flow}
use Rattle.mv_meaning.specs.declared.state.Flow.TheVariants.{Goes, Breaks, Continues, Returns}
use Rattle.mv_meaning.specs.Meaning.{Evaluation, returned_value}
use Rattle.mv_lower_spec.specs.Lowered.{Lowering, number, temp, binary, set, write, choose}
use Rattle.mv_lower_spec.specs.Correct.{Ground, resting, Shows, ran, end_of, is_astray}
use Rattle.mv_ir.specs.Operators as operators
use Rattle.mv_ir.specs.KnownFunctions.{seen}
pub use Rattle.mv_ir.specs.Rolled.{return_with, break, repeat, enclosed}

-- ---- statements

-- where control leads: the numbers of the blocks that `break` and `continue` leave, and how many blocks stand around
pub record Jumps : Type 0 where
  pub leave : ℕ
  pub again : ℕ
  pub around : ℕ

-- in the body of a loop, which stands in a block of its own: `continue` leaves the block, and `break` the loop
abbrev pub in_body : Jumps → Jumps
in_body j = record { leave = 1; again = 0; around = suc (suc j.around) }

-- statements, and one more than the greatest temporary that they write
pub record Code : Type 0 where
  pub code : List Stm
  pub top : ℕ

-- where they stand
abbrev pub Placed : Type 0
Placed = Jumps → Code

-- ---- declarations of locals

-- a value into a word of a local: into its temporary, or into an element of its array
abbrev pub store_word : Option ℕ → ℕ → ℕ → Tree → Stm
store_word None l i v = set l v
store_word (Some size) l i v = write (array.Local l) (number i) v

-- all words of a local become 0
abbrev pub clear_words : Option ℕ → ℕ → Stm
clear_words None l = set l (number 0)
clear_words (Some size) l = roll-Stm (stm.Zero l)

abbrev pub store_zeros : Option ℕ → ℕ → ℕ → ℕ → List Stm
store_zeros size l i zero = []
store_zeros size l i (suc n) = store_word size l i (number 0) ∷ store_zeros size l (suc i) n

module _ (locals : ℕ) where
  -- given values, from a word on
  abbrev pub store_values : Option ℕ → ℕ → ℕ → List Lowering → List Stm
  store_values size l i [] = []
  store_values size l i (e ∷ es) = (e locals).code ++ (store_word size l i (e locals).tree ∷ store_values size l (suc i) es)

  abbrev pub values_top : List Lowering → ℕ
  values_top [] = locals
  values_top (e ∷ es) = max (e locals).top (values_top es)

  -- The words become 0 first where a value names the local itself, or where this costs no more than the work of the words without a value
  -- pays for; else the values come first, and then a 0 for each word without one.
  abbrev pub lower_clear : Option ℕ → ℕ → Bool → List Lowering → Placed
  lower_clear size l names_itself es j =
      let words = words_of_size size in
      record {
        code = cond (names_itself || nat_le (8 * words) (92 * (words - length es)))
            (clear_words size l ∷ store_values size l 0 es)
            (store_values size l 0 es ++ store_zeros size l (length es) (words - length es));
        top = values_top es;
      }

-- ---- `switch`

-- an arm: its labels, whether it is `default`, and its statements
pub record LoweredArm : Type 0 where
  pub labels : List ℕ
  pub other : Bool
  pub body : Placed

-- in an arm: it stands in the block of the `switch`, which `break` leaves
abbrev pub in_arm : Jumps → Jumps
in_arm j = record { leave = 0; again = suc j.again; around = suc j.around }

-- A test of the value in a temporary against each label. Where one matches, the place of its arm takes the value's place, and the block of the tests is left.
abbrev pub test_labels : ℕ → ℕ → List ℕ → List Stm
test_labels n i [] = []
test_labels n i (l ∷ ls) = choose (binary operators.equal (temp n) (number l)) (set n (number i) ∷ break 0 ∷ []) [] ∷ test_labels n i ls

abbrev pub test_arms : ℕ → ℕ → List LoweredArm → List Stm
test_arms n i [] = []
test_arms n i (a ∷ arms) = test_labels n i a.labels ++ test_arms n (suc i) arms

-- the place of the first arm that a test picks, and the place behind all where there is none
abbrev pub arm_place : (LoweredArm → Bool) → ℕ → List LoweredArm → ℕ
arm_place is_picked i [] = i
arm_place is_picked i (a ∷ arms) = cond (is_picked a) i (arm_place is_picked (suc i) arms)

-- the tests: behind them stands the place of `default`
abbrev pub all_tests : ℕ → List LoweredArm → List Stm
all_tests n arms = test_arms n 0 arms ++ set n (number (arm_place (λ a. a.other) 0 arms)) ∷ []

-- The statements of the arm at a place, which are skipped where the place in the temporary is a later one. Behind them it is the first, so that control falls through.
abbrev pub arm_code : ℕ → ℕ → List Stm → List Stm
arm_code n i [] = []
arm_code n i (x ∷ xs) = choose (binary operators.less_unsigned (number i) (temp n)) [] ((x ∷ xs) ++ set n (number 0) ∷ []) ∷ []

abbrev pub arms_code : ℕ → ℕ → List LoweredArm → Jumps → List Stm
arms_code n i [] j = []
arms_code n i (a ∷ arms) j = arm_code n i (a.body (in_arm j)).code ++ arms_code n (suc i) arms j

module _ (locals : ℕ) where
  abbrev pub arms_top : List LoweredArm → Jumps → ℕ
  arms_top [] j = locals
  arms_top (a ∷ arms) j = max (a.body (in_arm j)).top (arms_top arms j)

  abbrev pub lower_switch : Lowering → List LoweredArm → Placed
  lower_switch e arms j = record {
    code = (e locals).code ++ set locals (e locals).tree ∷ enclosed (enclosed (all_tests locals arms) ∷ arms_code locals 0 arms j) ∷ [];
    top = max (locals + 1) (max (e locals).top (arms_top arms j));
  }

module _ (locals : ℕ) where
  abbrev pub in_sequence : List Placed → Placed
  in_sequence [] j = record { code = []; top = locals }
  in_sequence (a ∷ rest) j = record { code = (a j).code ++ (in_sequence rest j).code; top = max (a j).top (in_sequence rest j).top }

  abbrev pub lower_express : Lowering → Placed
  lower_express e j = record { code = (e locals).code; top = (e locals).top }

  abbrev pub lower_return : Lowering → Placed
  lower_return e j = record { code = (e locals).code ++ return_with (e locals).tree ∷ []; top = (e locals).top }

  -- a `return` without a value goes to the end of the function
  abbrev pub lower_end : Placed
  lower_end j = record { code = break j.around ∷ []; top = locals }

  abbrev pub lower_break : Placed
  lower_break j = record { code = break j.leave ∷ []; top = locals }

  abbrev pub lower_continue : Placed
  lower_continue j = record { code = break j.again ∷ []; top = locals }

  abbrev pub lower_if : Lowering → Placed → Placed → Placed
  lower_if e a b j = record {
    code = (e locals).code ++ choose (e locals).tree (a j).code (b j).code ∷ [];
    top = max (e locals).top (max (a j).top (b j).top);
  }

  -- a test that leaves the loop, and else the body
  abbrev pub test_and_body : Lowering → List Stm → List Stm
  test_and_body e body = (e locals).code ++ choose (e locals).tree body (break 0 ∷ []) ∷ []

  abbrev pub lower_while : Lowering → Placed → Placed
  lower_while e a j = record {
    code = repeat (test_and_body e (enclosed (a (in_body j)).code ∷ [])) ∷ [];
    top = max (e locals).top (a (in_body j)).top;
  }

  abbrev pub lower_do : Placed → Lowering → Placed
  lower_do a e j = record {
    code = repeat (enclosed (a (in_body j)).code ∷ test_and_body e []) ∷ [];
    top = max (e locals).top (a (in_body j)).top;
  }

  abbrev pub lower_for : Placed → Lowering → Lowering → Placed → Placed
  lower_for first test step a j = record {
    code = (first j).code ++ repeat (test_and_body test (enclosed (a (in_body j)).code ∷ []) ++ (step locals).code) ∷ [];
    top = max (first j).top (max (test locals).top (max (step locals).top (a (in_body j)).top));
  }

-- ---- correct statements

-- how code ends where control leaves a statement in this way; a void function's `return` goes to its end
abbrev pub out_of : Bool → Jumps → Flow → State → ir.Outcome
out_of void j Goes s = Next s
out_of void j Breaks s = Leaves j.leave s
out_of void j Continues s = Leaves j.again s
out_of void j (Returns v) s = cond void (Leaves j.around s) (Ends (Returned (Some v) s.world))

-- the same for a turn of a loop: a `continue` in it goes on, a `break` leaves the loop
abbrev pub turn_out : Bool → Jumps → Flow → State → ir.Outcome
turn_out void j Goes s = Next s
turn_out void j Breaks s = Leaves 0 s
turn_out void j Continues s = Next s
turn_out void j (Returns v) s = cond void (Leaves (suc j.around) s) (Ends (Returned (Some v) s.world))

-- what the functions do at each bound below one, the highest first
abbrev pub levels : (ℕ → Calls) → ℕ → Bound
levels calls zero = []
levels calls (suc k) = calls k ∷ levels calls k

module _ (ground : Ground) (void : Bool) where
  pub record FlowReached (out : Flow → State → ir.Outcome) (credit : ℕ) (r : Run) (flow : Flow) (f : Frame) (w : World) (work : ℕ) : Type 0 where
    pub state : State
    pub cost : ℕ
    pub runs : r ≡ ran cost (out flow state)
    pub shows : Shows (resting ground) f w state
    pub nothing : void ≡ true → returned_value flow ≡ 0
    pub paid : cost ≤ instructions_per_work * work + credit

  pub record FlowHalted (credit : ℕ) (r : Run) (why : Stop) (w : World) (work : ℕ) : Type 0 where
    pub cost : ℕ
    pub runs : is_astray why ≡ false → r ≡ ran cost (Ends (end_of why (seen w)))
    pub paid : cost ≤ instructions_per_work * work + credit

  abbrev pub FlowShown : (out : Flow → State → ir.Outcome) → ℕ → Run → Outcome Frame Flow → Type 0
  FlowShown out credit r (Came flow f w work) = FlowReached out credit r flow f w work
  FlowShown out credit r (Stopped why w work) = FlowHalted credit r why w work

  -- some code is correct for a statement, at a bound and with a credit
  abbrev pub FlowCorrect : (out : Flow → State → ir.Outcome) → ℕ → Bound → Evaluation Flow → List Stm → Type 0
  FlowCorrect out credit bound m code =
      (f : Frame) (w : World) (s : State) → Shows (resting ground) f w s → FlowShown out credit (code_meaning ground.setting ground.frame code bound s) (m f w)
