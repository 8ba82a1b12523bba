-- What the known functions do in code, and where calls through pointer switches go: what they do in the source, with the live frames of the caller.
use Rattle.std.specs.Prelude.{ℕ, ◌+◌, ◌-◌, ◌*◌, ◌%◌, ◌^◌, List, [], ◌∷◌, ◌++◌, Option, Some, None, unwrap_or, slice_get, if◌then◌else◌, nat_eq}
use Rattle.mv_ast.specs.declared.program.Program.{Program}
use Rattle.mv_ast.specs.declared.program.Known.{Known}
use Rattle.mv_ast.specs.declared.program.Known.TheVariants.{Getchar, Putchar, Poll, Plan}
use Rattle.mv_ast.specs.Worlds as source
use Rattle.mv_ast.specs.Orders.{Answered, ordered, polled}
use Rattle.mv_ast.specs.Switches.{word_at, pointer_number, called_word}
use Rattle.mv_ast.specs.Counts.{patchable_places}
use Rattle.mv_ir.specs.World.{World, Answer}

-- ---- the world of the source

-- the source's world as the code sees it: the numbers of frames stand in the code's own frame
abbrev pub seen : source.World → World
seen w = record {
  globals = w.globals;
  hart = w.hart;
  input = w.input;
  taken = w.taken;
  output = w.output;
  bindings = w.bindings;
  actions = w.actions;
  log = w.log;
}

-- the source's world that the code sees as this one, from a frame with these numbers
abbrev pub seen_from : (depth live : ℕ) → World → source.World
seen_from depth live w = record {
  globals = w.globals;
  hart = w.hart;
  depth = depth;
  live = live;
  input = w.input;
  taken = w.taken;
  output = w.output;
  bindings = w.bindings;
  actions = w.actions;
  log = w.log;
}

-- ---- calls through pointer switches

abbrev pub switched_at : (numbers : List ℕ) → (binding : Option ℕ) → (global : ℕ) → World → ℕ
switched_at numbers None g w = word_at w.globals g 0
switched_at numbers (Some n) g w = called_word numbers w.bindings w.globals n g

-- the number in a pointer switch as a call through it sees it
abbrev pub switched_number : Program → (numbers : List ℕ) → (global : ℕ) → World → ℕ
switched_number p numbers g w = switched_at numbers (pointer_number p g) g w

-- ---- answers

-- the next byte of the input, or -1 at its end
abbrev pub next_byte : List ℕ → World → Answer
next_byte [] w = record { value = 2 ^ 32 - 1; world = w; cost = 0 }
next_byte (c ∷ rest) w = record { value = c; world = record w { input = rest; taken = w.taken + 1 }; cost = 0 }

-- the low byte is written, and is the answer
abbrev pub written : ℕ → World → Answer
written v w = record { value = v % 256; world = record w { output = w.output ++ (v % 256) ∷ [] }; cost = 0 }

-- what a commit, a revert or a flip costs, refused or not
abbrev pub patch_cost : Program → ℕ
patch_cost p = 30 * (1 + patchable_places p)

abbrev pub at_cost : ℕ → Answered → Answer
at_cost cost a = record { value = a.answer; world = seen a.world; cost = cost }

-- a poll answers 1 where hart 0 takes a flip, which costs what a commit does, and where another hart adopts
abbrev pub poll_cost : Program → (hart answer : ℕ) → ℕ
poll_cost p hart answer = if nat_eq answer 1 then (if nat_eq hart 0 then patch_cost p else 30) else 0

abbrev pub poll_answer : Program → (hart : ℕ) → Answered → Answer
poll_answer p hart a = at_cost (poll_cost p hart a.answer) a

-- what a known function gives, of its arguments and the number of live attributed frames, under a numbering
abbrev pub known_answer : Program → (numbers : List ℕ) → Known → List ℕ → ℕ → World → Answer
known_answer p numbers Getchar vs live w = next_byte w.input w
known_answer p numbers Putchar vs live w = written (unwrap_or (slice_get vs 0) 0) w
known_answer p numbers Poll vs live w = poll_answer p w.hart (polled p numbers (seen_from 0 live w))
known_answer p numbers (Plan code index) vs live w = at_cost (patch_cost p) (ordered p numbers code index (seen_from 0 live w))
