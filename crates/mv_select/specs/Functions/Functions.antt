-- What the code of a whole function promises: it keeps the calling convention, if the functions do at each lower bound.
use Rattle.std.specs.Prelude.{ℕ, ◌≡◌, ◌≢◌, ◌+◌, ◌-◌, ◌*◌, ◌%◌, ◌^◌, ◌<◌, ◌≤◌, ◌⊎◌, Bool, true, false, not, ◌&&◌, cond, leb, ltb, List, [], length, slice_index, Some, None}
use Rattle.mv_ast.specs.declared.program.Known.{Known}
use Rattle.mv_bindings.specs.Traps.{depth_limit}
use Rattle.mv_isa.specs.Code.{IsPlace}
use Rattle.mv_isa.specs.Execution.{Access, reg, put}
use Rattle.mv_isa.specs.Registers.{ra, sp, s10, s11}
use Rattle.mv_ir.specs.declared.tree.Tree.{Tree}
use Rattle.mv_ir.specs.declared.body.Body.{Body}
use Rattle.mv_ir.specs.Trees.{found}
use Rattle.mv_ir.specs.World as ir
use Rattle.mv_ir.specs.World.{World}
use Rattle.mv_ir.specs.Outcome.{Call, Bound}
use Rattle.mv_ir.specs.Meaning.{Contents, body_from}
use Rattle.mv_select_code.specs.Statements.Frames.{Site, Cell, IsOwn, IsThere, address, IsFine, Reach}
use Rattle.mv_select_code.specs.Control.FlowCode.{are_fine}
use Rattle.mv_select_code.specs.Control.Placed.{Text, Placed}
use Rattle.mv_select_code.specs.Control.Runs.{Machine, IsRun}
use Rattle.mv_select.specs.Calls.Convention.{Layout, IsTarget, IsAbove, frame_limit, Stands, FollowsCall, Conventions, Answers}
use Rattle.mv_select.specs.Calls.Environment.{ServesKnown}
use Rattle.mv_select.specs.Calls.Laws.{IsLinked}
use Rattle.mv_select.specs.Functions.FunctionCode.{Shape, seats_of, seated_of, is_left_by, calls_nothing, array_offset, bytes_of, later_lines, function_lines}
use Rattle.mv_select.specs.Functions.Pins.{pins_of}
use Rattle.mv_select_code.specs.declared.trees.places.Keeping.{Keeping}
use Rattle.mv_select_code.specs.declared.trees.places.Keeping.TheVariants.{Saved, Arguments, Mixed}
use Rattle.mv_select_code.specs.Control.Laws.{uses_in}

-- a word of the stack, and a word of the stack or of a global
abbrev pub IsStack : Layout → ℕ → Type 0
IsStack y = IsAbove y y.bottom

abbrev pub IsWord : Layout → ℕ → Type 0
IsWord y b = IsStack y b ⊎ ((g : ℕ) × (i : ℕ) × (i < y.size g) × (b ≡ y.place g + 4 * i))

-- The globals stand apart from one another and from the stack.
pub record IsLaid (y : Layout) : Type 0 where
  pub apart : (g i h j : ℕ) → i < y.size g → j < y.size h → y.place g + 4 * i ≡ y.place h + 4 * j → (g ≡ h) × (i ≡ j)
  pub off_stack : (g i : ℕ) → i < y.size g → IsStack y (y.place g + 4 * i) → ⊥
  pub addresses : (g i : ℕ) → i < y.size g → y.place g + 4 * i < 2 ^ 32
  pub sizes : (g : ℕ) → y.size g < 2 ^ 32
  pub even : y.bottom % 4 ≡ 0
  pub top : y.top < 2 ^ 32

module _ {M : Type 0} (access : Access M) (y : Layout) where
  -- after a store of a word, which works where the word can be loaded, it is read back, and the other words are as they were
  pub record Kept (m : M) (b v : ℕ) : Type 0 where
    pub after : M
    pub stored : access.store m b 4 v ≡ Some after
    pub same : access.load after b 4 ≡ Some v
    pub others : (c : ℕ) → IsWord y c → c ≢ b → access.load after c 4 ≡ access.load m c 4

  -- memory has words, and wherever it is calm all those of the stack
  pub record IsMemory (machine : Machine M) : Type 0 where
    pub stores : (m : M) (b v w : ℕ) → IsWord y b → v < 2 ^ 32 → access.load m b 4 ≡ Some w → Kept m b v
    pub words : (m : M) (b w : ℕ) → IsWord y b → access.load m b 4 ≡ Some w → w < 2 ^ 32
    pub stack : (w : World) (m : M) (b : ℕ) → machine.is_calm w m ≡ true → IsStack y b → (v : ℕ) × (access.load m b 4 ≡ Some v)

-- the frame's own cells are words
abbrev pub StandsInWords : Layout → Site → Type 0
StandsInWords y s = (x : Cell) → IsOwn s x → IsThere s x → IsWord y (address s x)

-- Code may load the words of the stack, and those of the globals that it reads.
pub record IsAmple (y : Layout) (reach : Reach) : Type 0 where
  pub stack : (b : ℕ) → IsStack y b → reach.may_load b ≡ true
  pub globals : (g i : ℕ) → reach.is_read g ≡ true → i < y.size g → reach.may_load (y.place g + 4 * i) ≡ true

-- the part of a text from one address to another
abbrev pub part : (from to : ℕ) → Text → Text
part from to text = record {
  word = λ a. cond (leb from a && ltb a to) (text.word a) None;
  slot = λ a. cond (leb from a && ltb a to) (text.slot a) None;
  point = λ a. cond (leb from a && ltb a to) (text.point a) None;
}

-- the same run, where no other text stands
abbrev pub alone : {M : Type 0} → Machine M → (from to : ℕ) → Machine M
alone machine from to = record machine { text = part from to machine.text }

-- a machine runs the code of frames that stand in words, where it loads no more than some code may
abbrev pub RunsWithin : {M : Type 0} → Access M → Layout → Machine M → Reach → Type 0
RunsWithin access y machine reach = (s : Site) → StandsInWords y s → ((a : ℕ) → s.reach.may_load a ≡ true → reach.may_load a ≡ true) → IsRun access s machine

-- What stands from one address to another may load all that some code may: none of it is closed there. `closed` tells which addresses what stands at a
-- place isn't to load.
abbrev pub IsOpen : (closed : (pc address : ℕ) → Bool) → (from to : ℕ) → Reach → Type 0
IsOpen closed from to reach = (pc a : ℕ) → from ≤ pc → pc < to → reach.may_load a ≡ true → closed pc a ≡ false

-- what keeps temporaries where arguments come calls nothing
abbrev pub calls_by : Keeping → Bool
calls_by Saved = true
calls_by Arguments = false
calls_by Mixed = false

abbrev pub asks_by : Keeping → (Known → Bool) → Known → Bool
asks_by Saved may_ask k = may_ask k
asks_by Arguments may_ask k = false
asks_by Mixed may_ask k = false

-- a frame of a function, given its registers and what it is to leave alone
abbrev pub site_of : Layout → Reach → Shape → (register : ℕ → ℕ) → (is_kept : ℕ → Bool) → (kept : ℕ → ℕ) → Site
site_of y reach shape register is_kept kept = record {
  seats = seats_of y.place shape;
  size = y.size;
  reach = reach;
  entry = y.entry;
  may_call = calls_by shape.keeping;
  may_ask = asks_by shape.keeping y.may_ask;
  temps = shape.temps;
  array_at = array_offset shape.temps shape.arrays;
  array_size = slice_index shape.arrays;
  is_left = is_left_by shape.keeping (seated_of shape);
  register = register;
  is_kept = is_kept;
  kept = kept;
}

-- A function that isn't attributed and calls nothing keeps its first eight temporaries where arguments come.
abbrev pub keeping_of : Bool → Body → Keeping
keeping_of attributed body = cond (not attributed && calls_nothing body.code) (cond (ltb body.temps 9) Arguments Mixed) Saved

abbrev pub shape_of : Bool → Body → Shape
shape_of attributed body = record {
  attributed = attributed;
  keeping = keeping_of attributed body;
  params = body.params;
  temps = body.temps;
  arrays = body.arrays;
  pins = pins_of (keeping_of attributed body) body;
}

-- the frame of a function that is called from one with these numbers
abbrev pub frame_in : Bool → List (ℕ × ℕ) → (depth live : ℕ) → ir.Frame
frame_in attributed bound depth live = record { depth = depth + 1; live = live + cond attributed 1 0; bound = bound }

-- the frame of the main function, above which there is none
abbrev pub main_frame : List (ℕ × ℕ) → ir.Frame
main_frame bound = record { depth = 0; live = 0; bound = bound }

-- A function whose frame is small enough, and whose code is fine for it. Each global that it may read has a word, and none of them is read
-- as bound.
pub record IsFunction (y : Layout) (setting : ir.Setting) (attributed : Bool) (bound : List (ℕ × ℕ)) (reach : Reach) (is_fine : Tree → Bool) (body : Body) : Type 0 where
  pub params : body.params ≤ 8
  pub temps : body.params ≤ body.temps
  pub small : bytes_of (shape_of attributed body) ≤ frame_limit
  pub read : (g : ℕ) → reach.is_read g ≡ true → 0 < y.size g
  pub free : (g : ℕ) → reach.is_read g ≡ true → found bound g ≡ None
  pub fine : are_fine is_fine y.may_ask body.temps (uses_in y.size reach true) body.code ≡ true
  pub trees : (t : Tree) → is_fine t ≡ true → (depth live : ℕ) (register : ℕ → ℕ) (is_kept : ℕ → Bool) (kept : ℕ → ℕ) →
      IsFine (site_of y reach (shape_of attributed body) register is_kept kept) setting (frame_in attributed bound depth live) t

-- Called with as many arguments as it has parameters, the code of a function does what its body means, given what its frame holds at first, in 44
-- instructions more than that costs, and keeps the calling convention, over any functions that keep it at each lower bound.
abbrev pub FunctionsKeep : Type 0 → Type 0
FunctionsKeep M =
    (access : Access M) (y : Layout) → IsLaid y → (machine : Machine M) → IsMemory access y machine →
    (setting : ir.Setting) →
    ((f : ℕ) → f < length setting.numbers → (slice_index setting.numbers f ≡ y.entry f) × IsPlace (y.entry f)) →
    (budget far : ℕ) → ServesKnown access y machine budget far setting → (levels : Bound) → Conventions access y machine budget far setting levels →
    (attributed : Bool) (bound : List (ℕ × ℕ)) (reach : Reach) (is_fine : Tree → Bool) (body : Body) → IsAmple y reach → IsFunction y setting attributed bound reach is_fine body →
    (place : ℕ → ℕ) → IsLinked y (length setting.numbers) place → (is_attributed : ℕ → Bool) (pc next : ℕ) → RunsWithin access y (alone machine pc next) reach →
    Placed machine.text place y.entry (function_lines y.place y.size is_attributed (shape_of attributed body) body.code) pc next →
    (depth live : ℕ) (args : List ℕ) (back i : ℕ) → length args ≡ body.params → IsTarget back → reg (machine.run i).regs ra ≡ back →
    (contents : Contents)
    × Answers access y machine budget far 44 (length levels) pc back depth live args
    (body_from setting (frame_in attributed bound depth live) contents body args levels) i

-- at time i the run moves sp down by so many bytes, from a sound place, and goes on at another
pub record LowersStack {M : Type 0} (machine : Machine M) (bytes mid i : ℕ) : Type 0 where
  pub goes : machine.run (i + 1) ≡ record {
    regs = put (machine.run i).regs sp (reg (machine.run i).regs sp - bytes);
    pc = mid;
    memory = (machine.run i).memory;
  }
  pub sound : machine.is_sound (machine.run i) ≡ true

-- So does an attributed function whose first instruction is carried out wherever it stands, as at an entry that may be patched: the rest of its code is text
-- that is never patched.
abbrev pub LaterKeeps : Type 0 → Type 0
LaterKeeps M =
    (access : Access M) (y : Layout) → IsLaid y → (machine : Machine M) → IsMemory access y machine →
    (setting : ir.Setting) →
    ((f : ℕ) → f < length setting.numbers → (slice_index setting.numbers f ≡ y.entry f) × IsPlace (y.entry f)) →
    (budget far : ℕ) → ServesKnown access y machine budget far setting → (levels : Bound) → Conventions access y machine budget far setting levels →
    (bound : List (ℕ × ℕ)) (reach : Reach) (is_fine : Tree → Bool) (body : Body) → IsAmple y reach → IsFunction y setting true bound reach is_fine body →
    (place : ℕ → ℕ) → IsLinked y (length setting.numbers) place → (is_attributed : ℕ → Bool) (pc mid next : ℕ) → RunsWithin access y (alone machine mid next) reach →
    Placed machine.text place y.entry (later_lines y.place y.size is_attributed (shape_of true body) body.code) mid next →
    (depth live : ℕ) (args : List ℕ) (back i : ℕ) → length args ≡ body.params → IsTarget back → reg (machine.run i).regs ra ≡ back →
    LowersStack machine (bytes_of (shape_of true body)) mid i →
    (contents : Contents)
    × Answers access y machine budget far 44 (length levels) pc back depth live args
    (body_from setting (frame_in true bound depth live) contents body args levels) i

module _ {M : Type 0} (access : Access M) (y : Layout) (machine : Machine M) where
  -- Time i has what the main function finds at program startup: no attributed frame is live, all calls are left, and below sp there is room for its own
  -- frame and one for each of them.
  pub record Begins (i : ℕ) : Type 0 where
    pub live : reg (machine.run i).regs s10 ≡ 0
    pub left : reg (machine.run i).regs s11 ≡ depth_limit
    pub even : reg (machine.run i).regs sp % 4 ≡ 0
    pub room : y.bottom + (depth_limit + 1) * frame_limit ≤ reg (machine.run i).regs sp
    pub within : reg (machine.run i).regs sp ≤ y.top

  -- Time i stands at a place with what main finds there and `extra` more than the cost paid for, at a bound of k: what follows is what its call means.
  abbrev pub AnswersStartup : (budget far extra k pc back : ℕ) → (World → Call) → ℕ → Type 0
  AnswersStartup budget far extra k pc back call i =
      (spare : ℕ) (w : World) → Stands access y machine budget far pc w i → Begins i → i + (spare + extra + (call w).cost) ≤ budget → far ≤ i + k →
      FollowsCall access y machine budget far spare k i back (call w).end

-- And so does the main function, which has no parameters and isn't attributed, where no frame is above its own.
abbrev pub MainKeeps : Type 0 → Type 0
MainKeeps M =
    (access : Access M) (y : Layout) → IsLaid y → (machine : Machine M) → IsMemory access y machine →
    (setting : ir.Setting) →
    ((f : ℕ) → f < length setting.numbers → (slice_index setting.numbers f ≡ y.entry f) × IsPlace (y.entry f)) →
    (budget far : ℕ) → ServesKnown access y machine budget far setting → (levels : Bound) → Conventions access y machine budget far setting levels →
    (bound : List (ℕ × ℕ)) (reach : Reach) (is_fine : Tree → Bool) (body : Body) → IsAmple y reach → IsFunction y setting false bound reach is_fine body → body.params ≡ 0 →
    (place : ℕ → ℕ) → IsLinked y (length setting.numbers) place → (is_attributed : ℕ → Bool) (pc next : ℕ) → RunsWithin access y (alone machine pc next) reach →
    Placed machine.text place y.entry (function_lines y.place y.size is_attributed (shape_of false body) body.code) pc next →
    (back i : ℕ) → IsTarget back → reg (machine.run i).regs ra ≡ back →
    (contents : Contents)
    × AnswersStartup access y machine budget far 44 (length levels) pc back (body_from setting (main_frame bound) contents body [] levels) i
