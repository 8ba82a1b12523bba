-- A function keeps the calling convention on a machine where it does so on one that has no text but the function's.
use Rattle.std.proofs.Common.{◌≡◌, inl, inr, ℕ, ◌+◌, ◌<◌, ◌≤◌, ◌&&◌, Bool, true, false, cond, leb, ltb, List, [], ◌∷◌, length, Option, Some, None, refl, sym, ap, ◌∙◌, arith}
use Rattle.std.proofs.lemmas.Bool.{and_from, le-leb, lt-ltb}
use Rattle.mv_isa.specs.declared.instr.Instr.{Instr}
use Rattle.mv_isa.specs.declared.instr.Instr.TheVariants.{Ecall}
use Rattle.mv_isa.specs.Encoding.{encode}
use Rattle.mv_isa.specs.declared.labelled.Line.{Line}
use Rattle.mv_isa.specs.declared.labelled.Line.TheVariants.{Word, Label, Jump, Branch, Entry, Slot, Point}
use Rattle.mv_isa.specs.Execution.{Access}
use Rattle.mv_isa.specs.Standing.{InstrStands}
use Rattle.mv_ir.specs.World as ir
use Rattle.mv_ir.specs.World.{World}
use Rattle.mv_ir.specs.Meaning.{body_from}
use Rattle.mv_ir.specs.Outcome.{End, Returned, Trapped, More, Stuck, Call, Bound}
use Rattle.mv_select_code.specs.declared.trees.places.Keeping.TheVariants.{Saved}
use Rattle.mv_select_code.specs.Control.Placed.{Text, StandsIn, Placed}
use Rattle.mv_select_code.specs.Control.Runs.{Machine}
use Rattle.mv_select.specs.Calls.Convention.{Layout, Stands, Enters, Returns, FollowsCall, Answers, Comes, ReturnsCounted, FollowsCounted, call_through, PointsKeep, Conventions}
use Rattle.mv_select.specs.Calls.Environment.{ServesKnown}
use Rattle.mv_select.specs.Functions.FunctionCode.{later_lines, function_lines}
use Rattle.mv_select.specs.Functions.Functions as functions
use Rattle.mv_select.specs.Functions.Functions.{part, keeping_of, shape_of, frame_in, main_frame, IsMemory, FunctionsKeep, LaterKeeps, MainKeeps}
use Rattle.mv_select.proofs.OfFunctions.Begun.{begun_called, begun_main}
use Rattle.mv_select.proofs.OfFunctions.Contents.{contents_at}
use Rattle.mv_select.proofs.OfFunctions.FunctionKeeps as keeps
use Rattle.mv_select.proofs.OfFunctions.BodyKeeps.{is_kept}
use Rattle.mv_select.proofs.OfFunctions.WholeFunction.{kept_keeps}

-- ---- lines in a part of a text

-- lines end where they begin, or behind
line_after : (text : Text) (place entry : ℕ → ℕ) (at end : ℕ) (line : Line) → StandsIn text place entry at end line → at ≤ end
line_after text place entry at end (Word i) h = omega (arith, h.1)
line_after text place entry at end (Label l) h = omega (arith, h)
line_after text place entry at end (Jump rd l) h = omega (arith, h.end_is)
line_after text place entry at end (Branch funct3 rs1 rs2 l) (inl h) = omega (arith, h.end_is)
line_after text place entry at end (Branch funct3 rs1 rs2 l) (inr h) = omega (arith, h.end_is)
line_after text place entry at end (Entry rd f) h = omega (arith, h.end_is)
line_after text place entry at end (Slot f) h = omega (arith, h.1)
line_after text place entry at end (Point a) h = omega (arith, h.1)

lines_after : (text : Text) (place entry : ℕ → ℕ) (lines : List Line) (at end : ℕ) → Placed text place entry lines at end → at ≤ end
lines_after text place entry [] at end h = omega (arith, h)
lines_after text place entry (line ∷ lines) at end h =
    let first = line_after text place entry at h.0 line h.1.stands in
    let others = lines_after text place entry lines h.0 end h.2 in
    omega (arith, first, others)

module _ (text : Text) (from to : ℕ) where
  inside : (a : ℕ) → from ≤ a → a < to → (leb from a && ltb a to) ≡ true
  inside a le lt = and_from (leb from a) (ltb a to) (le-leb from a le) (lt-ltb a to lt)

  pub word_in : {i : Instr} (a : ℕ) → from ≤ a → a < to → InstrStands text.word a i → InstrStands (part from to text).word a i
  word_in a le lt h = record { fields = h.fields; word = ap (λ c. cond c (text.word a) None) (inside a le lt) ∙ h.word }

module _ (text : Text) (place entry : ℕ → ℕ) (from to : ℕ) where
  line_in : (at end : ℕ) (line : Line) → from ≤ at → end ≤ to → StandsIn text place entry at end line → StandsIn (part from to text) place entry at end line
  line_in at end (Word i) le up h = (word_in text from to at le (omega (arith, up, h.1)) h.0, h.1)
  line_in at end (Label l) le up h = h
  line_in at end (Jump rd l) le up h = record { jump = word_in text from to at le (omega (arith, up, h.end_is)) h.jump; end_is = h.end_is }
  line_in at end (Branch funct3 rs1 rs2 l) le up (inl h) = inl (record { branch = word_in text from to at le (omega (arith, up, h.end_is)) h.branch; end_is = h.end_is })
  line_in at end (Branch funct3 rs1 rs2 l) le up (inr h) = inr (record {
    branch = word_in text from to at le (omega (arith, up, h.end_is)) h.branch;
    jump = word_in text from to (at + 4) (omega (arith, le)) (omega (arith, up, h.end_is)) h.jump;
    end_is = h.end_is;
  })
  line_in at end (Entry rd f) le up h = record {
    upper = word_in text from to at le (omega (arith, up, h.end_is)) h.upper;
    lower = word_in text from to (at + 4) (omega (arith, le)) (omega (arith, up, h.end_is)) h.lower;
    end_is = h.end_is;
  }
  line_in at end (Slot f) le up h = (ap (λ c. cond c (text.slot at) None) (inside text from to at le (omega (arith, up, h.1))) ∙ h.0, h.1)
  line_in at end (Point a) le up h = (ap (λ c. cond c (text.point at) None) (inside text from to at le (omega (arith, up, h.1))) ∙ h.0, h.1)

  pub placed_in : (lines : List Line) (at : ℕ) → from ≤ at → Placed text place entry lines at to → Placed (part from to text) place entry lines at to
  placed_in [] at le h = h
  placed_in (line ∷ lines) at le h =
      let first = line_after text place entry at h.0 line h.1.stands in
      let up = lines_after text place entry lines h.0 to h.2 in (
        h.0,
        record { stands = line_in at h.0 line le up h.1.stands; fits = h.1.fits; here = h.1.here; there = h.1.there; label = h.1.label },
        placed_in lines h.0 (omega (arith, le, first)) h.2,
      )

-- what stands in a part of a text stands there
pub in_whole : {A : Type 0} (b : Bool) (o : Option A) (x : A) → cond b o None ≡ Some x → o ≡ Some x
in_whole true o x h = h
in_whole false o x h = absurd cc

-- ---- a machine and one with a part of its text

module _ {M : Type 0} (access : Access M) (y : Layout) (machine : Machine M) (from to : ℕ) where
  abbrev alone : Machine M
  alone = functions.alone machine from to

  memory_alone : IsMemory access y machine → IsMemory access y alone
  memory_alone memory = record { stores = memory.stores; words = memory.words; stack = memory.stack }

  module _ (budget far : ℕ) where
    stands_alone : (pc : ℕ) (w : World) (i : ℕ) → Stands access y machine budget far pc w i → Stands access y alone budget far pc w i
    stands_alone pc w i h = record { at = h.at; calm = h.calm; sound = h.sound; globals = record { sizes = h.globals.sizes; words = h.globals.words; loads = h.globals.loads }; are = h.are }

    stands_back : (pc : ℕ) (w : World) (i : ℕ) → Stands access y alone budget far pc w i → Stands access y machine budget far pc w i
    stands_back pc w i h = record { at = h.at; calm = h.calm; sound = h.sound; globals = record { sizes = h.globals.sizes; words = h.globals.words; loads = h.globals.loads }; are = h.are }

    enters_alone : (depth frames : ℕ) (args : List ℕ) (i : ℕ) → Enters access y machine budget far depth frames args i → Enters access y alone budget far depth frames args i
    enters_alone depth frames args i e = record { arguments = e.arguments; live = e.live; counts = e.counts; left = e.left; even = e.even; room = e.room; within = e.within }

    enters_back : (depth frames : ℕ) (args : List ℕ) (i : ℕ) → Enters access y alone budget far depth frames args i → Enters access y machine budget far depth frames args i
    enters_back depth frames args i e = record { arguments = e.arguments; live = e.live; counts = e.counts; left = e.left; even = e.even; room = e.room; within = e.within }

    returns_alone : (spare k i back : ℕ) (w : World) (j : ℕ) → Returns access y machine budget far spare k i back w j → Returns access y alone budget far spare k i back w j
    returns_alone spare k i back w j h = record { stands = stands_alone back w j h.stands; kept = record { registers = h.kept.registers; stack = h.kept.stack }; paid = h.paid; asked = h.asked }

    returns_back : (spare k i back : ℕ) (w : World) (j : ℕ) → Returns access y alone budget far spare k i back w j → Returns access y machine budget far spare k i back w j
    returns_back spare k i back w j h = record { stands = stands_back back w j h.stands; kept = record { registers = h.kept.registers; stack = h.kept.stack }; paid = h.paid; asked = h.asked }

    follows_alone : (spare k i back : ℕ) (e : End) → FollowsCall access y machine budget far spare k i back e → FollowsCall access y alone budget far spare k i back e
    follows_alone spare k i back (Returned None w) f = (f.0, returns_alone spare k i back w f.0 f.1)
    follows_alone spare k i back (Returned (Some v) w) f = (f.0, returns_alone spare k i back w f.0 f.1, f.2)
    follows_alone spare k i back (Trapped c w) f = (f.0, record { at = f.1.at; calm = f.1.calm; sound = f.1.sound; paid = f.1.paid })
    follows_alone spare k i back (More w) f = (f.0, record { calm = f.1.calm; sound = f.1.sound; paid = f.1.paid; asked = f.1.asked })
    follows_alone spare k i back Stuck f = tt

    pub follows_back : (spare k i back : ℕ) (e : End) → FollowsCall access y alone budget far spare k i back e → FollowsCall access y machine budget far spare k i back e
    follows_back spare k i back (Returned None w) f = (f.0, returns_back spare k i back w f.0 f.1)
    follows_back spare k i back (Returned (Some v) w) f = (f.0, returns_back spare k i back w f.0 f.1, f.2)
    follows_back spare k i back (Trapped c w) f = (f.0, record { at = f.1.at; calm = f.1.calm; sound = f.1.sound; paid = f.1.paid })
    follows_back spare k i back (More w) f = (f.0, record { calm = f.1.calm; sound = f.1.sound; paid = f.1.paid; asked = f.1.asked })
    follows_back spare k i back Stuck f = tt

    answers_alone : (extra k pc back depth frames : ℕ) (args : List ℕ) (call : World → Call) (i : ℕ) → Answers access y machine budget far extra k pc back depth frames args call i →
        Answers access y alone budget far extra k pc back depth frames args call i
    answers_alone extra k pc back depth frames args call i answers spare w stands enters paid asked =
        follows_alone spare k i back (call w).end (answers spare w (stands_back pc w i stands) (enters_back depth frames args i enters) paid asked)

    pub answers_back : (extra k pc back depth frames : ℕ) (args : List ℕ) (call : World → Call) (i : ℕ) → Answers access y alone budget far extra k pc back depth frames args call i →
        Answers access y machine budget far extra k pc back depth frames args call i
    answers_back extra k pc back depth frames args call i answers spare w stands enters paid asked =
        follows_back spare k i back (call w).end (answers spare w (stands_alone pc w i stands) (enters_alone depth frames args i enters) paid asked)

    comes_back : (depth frames : ℕ) (args : List ℕ) (i : ℕ) → Comes access y alone budget far depth frames args i → Comes access y machine budget far depth frames args i
    comes_back depth frames args i e = record { arguments = e.arguments; live = e.live; counts = e.counts; left = e.left; even = e.even; room = e.room; within = e.within }

    counted_alone : (spare k i back : ℕ) (w : World) (j : ℕ) → ReturnsCounted access y machine budget far spare k i back w j → ReturnsCounted access y alone budget far spare k i back w j
    counted_alone spare k i back w j h = record {
      stands = stands_alone back w j h.stands;
      kept = record { registers = h.kept.registers; counted = h.kept.counted; stack = h.kept.stack };
      paid = h.paid;
      asked = h.asked;
    }

    follows_counted_alone : (spare k i back : ℕ) (e : End) → FollowsCounted access y machine budget far spare k i back e → FollowsCounted access y alone budget far spare k i back e
    follows_counted_alone spare k i back (Returned None w) f = (f.0, counted_alone spare k i back w f.0 f.1)
    follows_counted_alone spare k i back (Returned (Some v) w) f = (f.0, counted_alone spare k i back w f.0 f.1, f.2)
    follows_counted_alone spare k i back (Trapped c w) f = (f.0, record { at = f.1.at; calm = f.1.calm; sound = f.1.sound; paid = f.1.paid })
    follows_counted_alone spare k i back (More w) f = (f.0, record { calm = f.1.calm; sound = f.1.sound; paid = f.1.paid; asked = f.1.asked })
    follows_counted_alone spare k i back Stuck f = tt

    points_alone : (setting : ir.Setting) (bound : Bound) → PointsKeep access y machine budget far setting bound → PointsKeep access y alone budget far setting bound
    points_alone setting bound keep g depth frames args at i some few point spare w stands comes paid asked =
        follows_counted_alone spare (length bound) i (at + 16) (call_through setting bound g args depth frames w).end
        (keep g depth frames args at i some few (in_whole (leb from at && ltb at to) (machine.text.point at) (y.place g) point) spare w (stands_back at w i stands) (comes_back depth frames args i comes) paid asked)

    conventions_alone : (setting : ir.Setting) (levels : Bound) → Conventions access y machine budget far setting levels → Conventions access y alone budget far setting levels
    conventions_alone setting [] keep = points_alone setting [] keep
    conventions_alone setting (calls ∷ below) keep = (
      record {
        functions = λ f depth frames args back i few target ra.
            answers_alone 45 (length below) (y.entry f) back depth frames args (calls f args depth frames) i (keep.0.functions f depth frames args back i few target ra);
        slots = λ f depth frames args at i few slot.
            answers_alone 47 (length below) at (at + 8) depth frames args (calls f args depth frames) i
            (keep.0.slots f depth frames args at i few (in_whole (leb from at && ltb at to) (machine.text.slot at) f slot));
        others = keep.0.others;
      },
      points_alone setting (calls ∷ below) keep.1,
      conventions_alone setting below keep.2,
    )

    serves_alone : (setting : ir.Setting) → ServesKnown access y machine budget far setting → ServesKnown access y alone budget far setting
    serves_alone setting serves = record {
      calls = λ k args pc i may direct count word spare bound w stands asks paid asked.
          let s = serves.calls k args pc i may direct count (in_whole (leb from pc && ltb pc to) (machine.text.word pc) (encode Ecall) word) spare bound w (stands_back pc w i stands)
          (record { number = asks.number; arguments = asks.arguments; order = asks.order; high = asks.high }) paid asked in
          (s.0, returns_alone spare bound i (pc + 4) _ s.0 s.1, s.2);
      stub = λ k args back i may indirect count target ra spare bound w stands asks paid asked.
          let s = serves.stub k args back i may indirect count target ra spare bound w (stands_back y.commit w i stands)
          (record { number = asks.number; arguments = asks.arguments; order = asks.order; high = asks.high }) paid asked in
          (s.0, returns_alone spare bound i back _ s.0 s.1, s.2);
    }

-- ---- functions

pub functions_keep : (M : Type 0) → FunctionsKeep M
functions_keep M access y laid machine memory setting entries budget far serves levels keep attributed bound reach is_fine body ample fn place linked is_attributed pc next runs placed depth live args back i count target ra =
    let own = functions.alone machine pc next in
    let contents = contents_at access own (shape_of attributed body) (length args) i in (
      contents,
      answers_back access y machine pc next budget far 44 (length levels) pc back depth live args (body_from setting (frame_in attributed bound depth live) contents body args levels) i (λ spare w stands enters paid asked.
          kept_keeps access y laid own (memory_alone access y machine pc next memory) reach ample runs setting entries budget far (serves_alone access y machine pc next budget far setting serves) levels
          (conventions_alone access y machine pc next budget far setting levels keep) attributed bound is_fine body place linked is_attributed pc next back i target ra (depth + 1) live args count w stands
          (begun_called access y own i budget far attributed depth live args enters) (keeping_of attributed body) (is_kept y setting attributed bound reach is_fine body fn)
          (placed_in machine.text place y.entry pc next (function_lines y.place y.size is_attributed (shape_of attributed body) body.code) pc (omega arith) placed) spare paid asked),
    )

pub later_keeps : (M : Type 0) → LaterKeeps M
later_keeps M access y laid machine memory setting entries budget far serves levels keep bound reach is_fine body ample fn place linked is_attributed pc mid next runs placed depth live args back i count target ra lowers =
    let own = functions.alone machine mid next in
    let contents = contents_at access own (shape_of true body) (length args) i in (
      contents,
      answers_back access y machine mid next budget far 44 (length levels) pc back depth live args (body_from setting (frame_in true bound depth live) contents body args levels) i (λ spare w stands enters paid asked.
          keeps.later_keeps access y laid own (memory_alone access y machine mid next memory) reach ample runs setting entries budget far (serves_alone access y machine mid next budget far setting serves) levels
          (conventions_alone access y machine mid next budget far setting levels keep) true Saved refl bound is_fine body (is_kept y setting true bound reach is_fine body fn) place linked is_attributed pc mid next
          (placed_in machine.text place y.entry mid next (later_lines y.place y.size is_attributed (shape_of true body) body.code) mid (omega arith) placed)
          (depth + 1) live args back i count target ra w stands (begun_called access y own i budget far true depth live args enters) (record { goes = lowers.goes; sound = lowers.sound }) spare paid asked),
    )

pub main_keeps : (M : Type 0) → MainKeeps M
main_keeps M access y laid machine memory setting entries budget far serves levels keep bound reach is_fine body ample fn none place linked is_attributed pc next runs placed back i target ra =
    let own = functions.alone machine pc next in
    let contents = contents_at access own (shape_of false body) 0 i in (
      contents,
      λ spare w stands begins paid asked.
          follows_back access y machine pc next budget far spare (length levels) i back (body_from setting (main_frame bound) contents body [] levels w).end
          (kept_keeps access y laid own (memory_alone access y machine pc next memory) reach ample runs setting entries budget far (serves_alone access y machine pc next budget far setting serves) levels
          (conventions_alone access y machine pc next budget far setting levels keep) false bound is_fine body place linked is_attributed pc next back i target ra 0 0 [] (sym none) w
          (stands_alone access y machine pc next budget far pc w i stands)
          (begun_main access y own i (record { live = begins.live; left = begins.left; even = begins.even; room = begins.room; within = begins.within })) (keeping_of false body)
          (is_kept y setting false bound reach is_fine body fn)
          (placed_in machine.text place y.entry pc next (function_lines y.place y.size is_attributed (shape_of false body) body.code) pc (omega arith) placed) spare paid asked),
    )
