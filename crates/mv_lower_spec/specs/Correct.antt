-- When lowered code does what the source means.
use Rattle.std.specs.Prelude.{◌≡◌, Bool, true, false, eqb, ℕ, ◌+◌, ◌*◌, ◌<◌, ◌≤◌, List, [], ◌∷◌, map, length, Option, Some, None, slice_get, slice_index, slice_index_or}
use Rattle.mv_ir.specs.declared.tree.Tree.{Tree}
use Rattle.mv_ir.specs.declared.stm.Stm.{Stm}
use Rattle.mv_ir.specs.World.{Setting}
use Rattle.mv_ir.specs.World as code_world
use Rattle.mv_ir.specs.Outcome.{State, End, Returned, Trapped, More, Next, Ends, Run, Bound, Call}
use Rattle.mv_ir.specs.Outcome as ir
use Rattle.mv_ir.specs.Trees.{value, nodes, nodes_of_all, found}
use Rattle.mv_ir.specs.Meaning.{code_meaning}
use Rattle.mv_ir.specs.KnownFunctions.{seen}
use Rattle.mv_ast.specs.declared.program.Program.{Program}
use Rattle.mv_bindings.specs.declared.binding.Binding.{Binding}
use Rattle.mv_bindings.specs.declared.stop.Stop.{Stop}
use Rattle.mv_bindings.specs.declared.stop.Stop.TheVariants as stop
use Rattle.mv_ast.specs.Worlds as worlds
use Rattle.mv_ast.specs.Worlds.{World, Outcome, Came, Stopped}
use Rattle.mv_ast.specs.Counts.{words_of_size, instructions_per_work}
use Rattle.mv_num.specs.Lists.{is_among}
use Rattle.mv_ast.specs.Switches.{word_at, bound_value}
use Rattle.mv_meaning.specs.declared.state.Frame.{Frame}
use Rattle.mv_meaning.specs.declared.state.Lvalue.TheVariants as lvalue
use Rattle.mv_meaning.specs.Meaning.{Evaluation, Context, Denotation, callee_in, known_value}
use Rattle.mv_ast.specs.declared.program.Known.{Known}
use Rattle.mv_lower_spec.specs.Lowered.{Lowering, unless_void}
use Rattle.mv_source_forms.specs.Names.{is_callable, is_void, global_words}

abbrev pub end_of : Stop → code_world.World → End
end_of (stop.Trapped code) w = Trapped code w
end_of stop.Unfinished w = More w

-- how the source stops at a call through a pointer that code doesn't carry out: by a trap of its own
abbrev pub astray : Stop
astray = stop.Trapped 256

abbrev pub is_astray : Stop → Bool
is_astray (stop.Trapped code) = eqb code 256
is_astray stop.Unfinished = false

-- what is around an evaluation whose calls through pointers reach only functions that fit, and else go astray
pub record IsStrict (p : Program) (numbers : List ℕ) (context : Context) : Type 0 where
  pub numbers_are : context.numbers ≡ numbers
  pub lets_are : context.lets ≡ (λ t g n. is_callable p g n (is_void t))
  pub stray_is : context.stray ≡ worlds.stop astray

abbrev pub ran : ℕ → ir.Outcome → Run
ran c o = record { cost = c; outcome = o }

-- what a function does at the bound below, in the code: nothing where there is none
abbrev pub level : Bound → ℕ → List ℕ → ℕ → ℕ → code_world.World → Call
level [] f args depth live w = record { cost = 0; end = More w }
level (calls ∷ below) f args depth live w = calls f args depth live w

-- A local that the code keeps where the source has it: a scalar, or an array. The others are those that are being declared.
abbrev pub IsScalar : (ℕ → Option ℕ) → (ℕ → Option (List ℕ × List ℕ)) → ℕ → Type 0
IsScalar sizes held l = (sizes l ≡ None) × (held l ≡ None)

abbrev pub IsArrayLocal : (ℕ → Option ℕ) → (ℕ → Option (List ℕ × List ℕ)) → ℕ → Type 0
IsArrayLocal sizes held l = (sizes l ≡ None → ⊥) × (held l ≡ None)

-- ---- one function's frame

-- the words that the source has of a local that is being declared, and those that the code has
abbrev pub Held : Type 0
Held = ℕ → Option (List ℕ × List ℕ)

-- nothing is being declared
abbrev pub none : Held
none l = None

-- what doesn't change while a frame is there
pub record Ground : Type 0 where
  -- the source's program
  pub p : Program
  -- what all code has in common
  pub setting : Setting
  -- the frame, as the code has it
  pub frame : code_world.Frame
  -- the bindings when it began
  pub began : List Binding
  -- the function's number
  pub own : ℕ
  -- the number of the source's locals
  pub locals : ℕ
  -- how many elements a local has: none where it is a scalar
  pub sizes : ℕ → Option ℕ
  -- the number of the code's temporaries
  pub room : ℕ

-- and what changes within an expression or a declaration
pub record Scene : Type 0 where
  pub ground : Ground
  pub open ground use *
  -- the locals that are being declared
  pub held : Held
  -- the temporaries behind those of the locals and up to this one are in use
  pub floor : ℕ
  -- the values of these
  pub scratch : ℕ → ℕ

abbrev pub scene_of : Ground → Held → ℕ → (ℕ → ℕ) → Scene
scene_of ground held floor scratch = record { ground = ground; held = held; floor = floor; scratch = scratch }

-- no temporaries are in use but the locals'
abbrev pub declaring : Ground → Held → Scene
declaring ground held = scene_of ground held ground.locals (λ k. 0)

-- between statements
abbrev pub resting : Ground → Scene
resting ground = declaring ground none

-- ---- what a state shows

module _ (ground : Ground) where
  -- Around the frame all is as in the source. Where an attributed frame is live, the bindings are those at the frame's start, and each object has the number of words that it is declared with.
  pub record ShowsAround (in_function : ℕ) (w : World) (x : code_world.World) : Type 0 where
    pub world : x ≡ seen w
    pub depth : w.depth ≡ ground.frame.depth
    pub live : w.live ≡ ground.frame.live
    pub pinned : 0 < ground.frame.live → w.bindings ≡ ground.began
    pub function : in_function ≡ ground.own
    pub switches : (g : ℕ) → found ground.frame.bound g ≡ bound_value ground.p w.bindings ground.own (slice_get ground.p.functions ground.own) g
    pub globals : (g : ℕ) → length (slice_index_or w.globals g []) ≡ global_words ground.p g

  -- each array stands in the array of its number
  pub record ShowsArrays (held : Held) (locals : List (List ℕ)) (own_arrays : List (List ℕ)) : Type 0 where
    pub elements : (l : ℕ) → l < ground.locals → IsArrayLocal ground.sizes held l → slice_index_or own_arrays l [] ≡ slice_index_or locals l []
    pub untouched : (l : ℕ) (both : List ℕ × List ℕ) → held l ≡ Some both → (slice_index_or locals l [] ≡ both.0) × (slice_index_or own_arrays l [] ≡ both.1)
    pub words : (l : ℕ) → l < ground.locals → length (slice_index_or locals l []) ≡ words_of_size (ground.sizes l)
    pub size : length locals ≡ ground.locals
    pub arrays : length own_arrays ≡ ground.locals

  -- the temporaries that are in use
  pub record ShowsTemps (floor : ℕ) (scratch : ℕ → ℕ) (own_temps : List ℕ) : Type 0 where
    pub above : ground.locals ≤ floor
    pub below : (k : ℕ) → ground.locals ≤ k → k < floor → slice_index own_temps k ≡ scratch k
    pub temps : length own_temps ≡ ground.room

module _ (scene : Scene) where
  -- a tree's value
  abbrev pub val : Tree → State → ℕ
  val t s = value scene.setting.numbers scene.frame.bound t s.temps s.world.globals

  -- The code's state shows the source's frame and world: each scalar stands in the temporary of its number.
  pub record Shows (f : Frame) (w : World) (s : State) : Type 0 where
    pub around : ShowsAround scene.ground f.function w s.world
    pub open around use *
    pub in_arrays : ShowsArrays scene.ground scene.held f.locals s.arrays
    pub open in_arrays use *
    pub in_temps : ShowsTemps scene.ground scene.floor scene.scratch s.temps
    pub open in_temps use *
    pub each : (l : ℕ) → l < scene.locals → IsScalar scene.sizes scene.held l → slice_index s.temps l ≡ word_at f.locals l 0

  -- the values that were put away below a temporary are as before
  abbrev pub Kept : ℕ → State → State → Type 0
  Kept n s s' = (k : ℕ) → scene.floor ≤ k → k < n → slice_index s'.temps k ≡ slice_index s.temps k

-- ---- at a bound

module _ (scene : Scene) (bound : Bound) where
  -- code from a state comes to an outcome at a cost
  abbrev pub Runs : List Stm → State → ir.Outcome → ℕ → Type 0
  Runs code s o c = code_meaning scene.setting scene.frame code bound s ≡ ran c o

  -- Code that comes to its end, with a tree for the source's value. What it costs, with the tree and what is
  -- due after it, is paid by the work, at 100 for one of work, and by a credit.
  pub record Reached (due credit n : ℕ) (s : State) (code : List Stm) (tree : Tree) (v : ℕ) (f : Frame) (w : World) (work : ℕ) : Type 0 where
    pub state : State
    pub cost : ℕ
    pub runs : Runs code s (Next state) cost
    pub shows : Shows scene f w state
    pub value : val scene tree state ≡ v
    pub kept : Kept scene n s state
    pub paid : cost + 3 * nodes tree + due ≤ instructions_per_work * work + credit

  -- code that ends the function as the source stops; where the source goes astray nothing is said of it
  pub record Halted (credit : ℕ) (s : State) (code : List Stm) (why : Stop) (w : World) (work : ℕ) : Type 0 where
    pub cost : ℕ
    pub runs : is_astray why ≡ false → Runs code s (Ends (end_of why (seen w))) cost
    pub paid : cost ≤ instructions_per_work * work + credit

  abbrev pub Shown : (due credit n : ℕ) → State → List Stm → Tree → Outcome Frame ℕ → Type 0
  Shown due credit n s code tree (Came v f w work) = Reached due credit n s code tree v f w work
  Shown due credit n s code tree (Stopped why w work) = Halted credit s code why w work

  -- The lowering of an expression is correct, with a credit: from each free temporary on, where it has room. It also pays
  -- for putting its value into a temporary: 8 for the statement and 3 for the read of it.
  abbrev pub CorrectFor : ℕ → Evaluation ℕ → Lowering → Type 0
  CorrectFor credit m l =
      (n : ℕ) (f : Frame) (w : World) (s : State) →
      scene.floor ≤ n → (l n).top ≤ scene.room → Shows scene f w s → Shown 11 credit n s (l n).code (l n).tree (m f w)

  abbrev pub Correct : Evaluation ℕ → Lowering → Type 0
  Correct = CorrectFor 0

  -- ---- several expressions

  pub record AllReached (n : ℕ) (s : State) (code : List Stm) (trees : List Tree) (vs : List ℕ) (f : Frame) (w : World) (work : ℕ) : Type 0 where
    pub state : State
    pub cost : ℕ
    pub runs : Runs code s (Next state) cost
    pub shows : Shows scene f w state
    pub values : map (λ t. val scene t state) trees ≡ vs
    pub kept : Kept scene n s state
    pub paid : cost + 3 * nodes_of_all trees ≤ instructions_per_work * work

  abbrev pub AllShown : ℕ → State → List Stm → List Tree → Outcome Frame (List ℕ) → Type 0
  AllShown n s code trees (Came vs f w work) = AllReached n s code trees vs f w work
  AllShown n s code trees (Stopped why w work) = Halted 0 s code why w work

  abbrev pub AllCorrect : List Denotation → List Lowering → Type 0
  AllCorrect [] [] = Unit {0}
  AllCorrect [] (l ∷ ls) = ⊥
  AllCorrect (e ∷ es) [] = ⊥
  AllCorrect (e ∷ es) (l ∷ ls) = Correct e.value l × AllCorrect es ls

-- ---- what calls do

pub record CallHalted (c : Call) (why : Stop) (w2 : World) (work : ℕ) : Type 0 where
  pub cost : ℕ
  pub ends : is_astray why ≡ false → c ≡ record { cost = cost; end = end_of why (seen w2) }
  pub paid : cost ≤ 20 + instructions_per_work * work

-- a call through a pointer switch sees the same number in the code as in the source
abbrev pub SwitchedAgrees : Program → Setting → Type 0
SwitchedAgrees p setting =
    (g : ℕ) (f : Frame) (w : World) → is_among g p.pointers ≡ true → setting.switched g (seen w) ≡ callee_in p setting.numbers (lvalue.Global g 0) f w

-- calls that a frame makes, of the function with this number
module _ (p : Program) (frame : code_world.Frame) (own : ℕ) where
  -- a call leaves the caller's frame as it was, with the values that its switches are read as, all bindings where an attributed frame is live, and no object gets another size
  pub record Unmoved (f f2 : Frame) (w w2 : World) : Type 0 where
    pub globals : (g : ℕ) → length (slice_index_or w2.globals g []) ≡ length (slice_index_or w.globals g [])
    pub frame_same : f2 ≡ f
    pub depth : w2.depth ≡ w.depth
    pub live : w2.live ≡ w.live
    pub pinned : 0 < frame.live → w2.bindings ≡ w.bindings
    pub switches : (g : ℕ) → bound_value p w2.bindings own (slice_get p.functions own) g ≡ bound_value p w.bindings own (slice_get p.functions own) g

  pub record KnownReached (a : code_world.Answer) (v : ℕ) (f f2 : Frame) (w w2 : World) (work : ℕ) : Type 0 where
    pub value : a.value ≡ v
    pub world : a.world ≡ seen w2
    pub unmoved : Unmoved f f2 w w2
    pub paid : a.cost ≤ instructions_per_work * work

  abbrev pub KnownShown : code_world.Answer → Frame → World → Outcome Frame ℕ → Type 0
  KnownShown a f w (Came v f2 w2 work) = KnownReached a v f f2 w w2 work
  KnownShown a f w (Stopped why w2 work) = ⊥

  -- a known function does in the code what it does in the source
  abbrev pub KnownAgrees : Setting → Known → Type 0
  KnownAgrees setting k =
      (vs : List ℕ) (f : Frame) (w : World) → f.function ≡ own → w.live ≡ frame.live →
      KnownShown (setting.known k vs frame.live (seen w)) f w (known_value p setting.numbers k vs f w)

  pub record CallReached (void : Bool) (c : Call) (v : ℕ) (f f2 : Frame) (w w2 : World) (work : ℕ) : Type 0 where
    pub ends : c.end ≡ Returned (unless_void void v) (seen w2)
    pub nothing : void ≡ true → v ≡ 0
    pub unmoved : Unmoved f f2 w w2
    pub paid : c.cost ≤ 20 + instructions_per_work * work

  abbrev pub CallShown : Bool → Call → Frame → World → Outcome Frame ℕ → Type 0
  CallShown void c f w (Came v f2 w2 work) = CallReached void c v f f2 w w2 work
  CallShown void c f w (Stopped why w2 work) = CallHalted c why w2 work

  -- The calls at the bound below do in the code what they do in the source: the hypothesis of the induction on the bound.
  abbrev pub CallsAgree : Bound → Context → Type 0
  CallsAgree bound context =
      (g : ℕ) (void : Bool) (vs : List ℕ) (f : Frame) (w : World) → is_callable p g (length vs) void ≡ true → f.function ≡ own → w.depth ≡ frame.depth → w.live ≡ frame.live →
      ((x : ℕ) → length (slice_index_or w.globals x []) ≡ global_words p x) →
      CallShown void (level bound g vs frame.depth frame.live (seen w)) f w (context.call g vs f w)
