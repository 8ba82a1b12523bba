-- What narrowed machines do, the machine does.
use Rattle.std.proofs.Common.{◌≡◌, inl, ℕ, ◌+◌, ◌-◌, ◌*◌, ◌%◌, ◌≤◌, ◌<◌, Bool, true, ◌&&◌, List, pos, ◌-ℤ◌, sym, refl, ap, subst, ◌∙◌, Some, None, arith}
use Rattle.std.proofs.lemmas.Bool.{and_parts, and_from}
use Rattle.mv_isa.specs.declared.instr.Instr.TheVariants.{Addi, Jal}
use Rattle.mv_isa.specs.declared.labelled.Line.TheVariants as line
use Rattle.mv_isa.specs.Code.{IsPlace, distance}
use Rattle.mv_isa.specs.Execution.{Access, Goes, reg, put}
use Rattle.mv_isa.specs.LineSteps.{LineRuns}
use Rattle.mv_isa.specs.Standing.{InstrStands, SlotStands}
use Rattle.mv_isa.proofs.LineSteps.{line_runs, stands_steps}
use Rattle.mv_isa.specs.Registers.{ra as link_register}
use Rattle.mv_ir.specs.World.{World}
use Rattle.mv_ir.specs.Outcome.{End, Returned, Trapped, More, Stuck, Call}
use Rattle.mv_select_code.specs.Trees.View.{AreRegisters}
use Rattle.mv_select_code.specs.Statements.Frames.{Site}
use Rattle.mv_select_code.proofs.OfStatements.TreesFirst.{add_small}
use Rattle.mv_select_code.specs.Control.Placed.{Text}
use Rattle.mv_select_code.specs.Control.Runs.{Spot, Machine, outside, LeadsOn, IsRun}
use Rattle.mv_select_code.proofs.OfControl.Walk as walk
use Rattle.mv_select_code.proofs.OfControl.Walk.{put_zero, stands_at, steps_on}
use Rattle.mv_select.specs.Calls.Convention.{Layout, IsTarget, IsAbove, Stands, Enters, Returns, FollowsCall, Answers, entry_cost, slot_cost}
use Rattle.mv_select.specs.Functions.Functions.{IsLaid, IsMemory, LowersStack}
use Rattle.mv_select.proofs.OfFunctions.FrameWords.{words_site}
use Rattle.mv_select.proofs.OfFunctions.Steps.{lowers_sp}
use Rattle.mv_select.specs.Slots.Narrowed as spec
use Rattle.mv_select.specs.Slots.Narrowed.{LeavesTrue}
use Rattle.mv_select.specs.Slots.Laws.{Runs, nothing, Jumps}
use Rattle.mv_select.proofs.OfSlots.Slots.{own, on_run, slot_answers, Stepped, stepped}

module _ {M : Type 0} (access : Access M) (y : Layout) (machine : Machine M) (test : World → Bool) (text : Text) where
  abbrev narrowed : Machine M
  narrowed = spec.narrowed machine test text

  calm_too : (w : World) (m : M) → narrowed.is_calm w m ≡ true → machine.is_calm w m ≡ true
  calm_too w m calm = (and_parts (test w) (machine.is_calm w m) calm).1

  memory_too : IsMemory access y machine → IsMemory access y narrowed
  memory_too memory = record {
    stores = λ m b v w word small is.
        let k = memory.stores m b v w word small is in record { after = k.after; stored = k.stored; same = k.same; others = k.others };
    words = memory.words;
    stack = λ w m b calm. memory.stack w m b (calm_too w m calm);
  }

  module _ (budget far : ℕ) where
    pub stands_too : (pc : ℕ) (w : World) (i : ℕ) → Stands access y narrowed budget far pc w i → Stands access y machine budget far pc w i
    stands_too pc w i h = record { at = h.at; calm = calm_too (outside w) (machine.run i).memory h.calm; sound = h.sound; globals = record { sizes = h.globals.sizes; words = h.globals.words; loads = h.globals.loads }; are = h.are }

    pub stands_narrowed : (pc : ℕ) (w : World) (i : ℕ) → test (outside w) ≡ true → Stands access y machine budget far pc w i → Stands access y narrowed budget far pc w i
    stands_narrowed pc w i t h = record {
      at = h.at;
      calm = and_from (test (outside w)) (machine.is_calm (outside w) (machine.run i).memory) t h.calm;
      sound = h.sound;
      globals = record { sizes = h.globals.sizes; words = h.globals.words; loads = h.globals.loads };
      are = h.are;
    }

    enters_too : (depth frames : ℕ) (args : List ℕ) (i : ℕ) → Enters access y narrowed budget far depth frames args i → Enters access y machine budget far depth frames args i
    enters_too depth frames args i e = record { arguments = e.arguments; live = e.live; counts = e.counts; left = e.left; even = e.even; room = e.room; within = e.within }

    enters_narrowed : (depth frames : ℕ) (args : List ℕ) (i : ℕ) → Enters access y machine budget far depth frames args i → Enters access y narrowed budget far depth frames args i
    enters_narrowed depth frames args i e = record { arguments = e.arguments; live = e.live; counts = e.counts; left = e.left; even = e.even; room = e.room; within = e.within }

    returns_too : (spare k i back : ℕ) (w : World) (j : ℕ) → Returns access y narrowed budget far spare k i back w j → Returns access y machine budget far spare k i back w j
    returns_too spare k i back w j h = record { stands = stands_too back w j h.stands; kept = record { registers = h.kept.registers; stack = h.kept.stack }; paid = h.paid; asked = h.asked }

    returns_narrowed : (spare k i back : ℕ) (w : World) (j : ℕ) → test (outside w) ≡ true → Returns access y machine budget far spare k i back w j → Returns access y narrowed budget far spare k i back w j
    returns_narrowed spare k i back w j t h = record { stands = stands_narrowed back w j t h.stands; kept = record { registers = h.kept.registers; stack = h.kept.stack }; paid = h.paid; asked = h.asked }

    pub follows_too : (spare k i back : ℕ) (e : End) → FollowsCall access y narrowed budget far spare k i back e → FollowsCall access y machine budget far spare k i back e
    follows_too spare k i back (Returned None w) f = (f.0, returns_too spare k i back w f.0 f.1)
    follows_too spare k i back (Returned (Some v) w) f = (f.0, returns_too spare k i back w f.0 f.1, f.2)
    follows_too spare k i back (Trapped c w) f = (f.0, record { at = f.1.at; calm = calm_too (outside w) (machine.run f.0).memory f.1.calm; sound = f.1.sound; paid = f.1.paid })
    follows_too spare k i back (More w) f = (f.0, record { calm = calm_too (outside w) (machine.run f.0).memory f.1.calm; sound = f.1.sound; paid = f.1.paid; asked = f.1.asked })
    follows_too spare k i back Stuck f = tt

    pub follows_narrowed : (spare k i back : ℕ) (e : End) → LeavesTrue test e → FollowsCall access y machine budget far spare k i back e → FollowsCall access y narrowed budget far spare k i back e
    follows_narrowed spare k i back (Returned None w) t f = (f.0, returns_narrowed spare k i back w f.0 t f.1)
    follows_narrowed spare k i back (Returned (Some v) w) t f = (f.0, returns_narrowed spare k i back w f.0 t f.1, f.2)
    follows_narrowed spare k i back (Trapped c w) t f =
        (f.0, record { at = f.1.at; calm = and_from (test (outside w)) (machine.is_calm (outside w) (machine.run f.0).memory) t f.1.calm; sound = f.1.sound; paid = f.1.paid })
    follows_narrowed spare k i back (More w) t f =
        (f.0, record { calm = and_from (test (outside w)) (machine.is_calm (outside w) (machine.run f.0).memory) t f.1.calm; sound = f.1.sound; paid = f.1.paid; asked = f.1.asked })
    follows_narrowed spare k i back Stuck t f = tt

    pub narrowed_alike :
        ((pc : ℕ) (w : World) (i : ℕ) → test (outside w) ≡ true →
        (Stands access y machine budget far pc w i → Stands access y narrowed budget far pc w i) × (Stands access y narrowed budget far pc w i → Stands access y machine budget far pc w i))
        × ((depth frames : ℕ) (args : List ℕ) (i : ℕ) →
        (Enters access y machine budget far depth frames args i → Enters access y narrowed budget far depth frames args i)
        × (Enters access y narrowed budget far depth frames args i → Enters access y machine budget far depth frames args i))
        × ((spare k i back : ℕ) (e : End) → FollowsCall access y narrowed budget far spare k i back e → FollowsCall access y machine budget far spare k i back e)
        × ((spare k i back : ℕ) (e : End) → LeavesTrue test e → FollowsCall access y machine budget far spare k i back e → FollowsCall access y narrowed budget far spare k i back e)
    narrowed_alike = (
      λ pc w i t. (stands_narrowed pc w i t, stands_too pc w i),
      λ depth frames args i. (enters_narrowed depth frames args i, enters_too depth frames args i),
      follows_too,
      follows_narrowed,
    )

    pub slots_under : IsLaid y → Runs access y narrowed → (to at : ℕ) → SlotStands text.word at (at + 8) to → IsPlace at → IsPlace to → (k depth frames : ℕ) (args : List ℕ) (call : World → Call) →
        ((w : World) → test (outside w) ≡ true → LeavesTrue test (call w).end) →
        ((back j : ℕ) → IsTarget back → reg (machine.run j).regs link_register ≡ back → (spare : ℕ) (w : World) → test (outside w) ≡ true →
        Stands access y machine budget far to w j → Enters access y machine budget far depth frames args j → j + (spare + entry_cost + (call w).cost) ≤ budget → far ≤ j + k →
        FollowsCall access y machine budget far spare k j back (call w).end) →
        (i spare : ℕ) (w : World) → test (outside w) ≡ true → Stands access y machine budget far at w i → Enters access y machine budget far depth frames args i →
        i + (spare + slot_cost + (call w).cost) ≤ budget → far ≤ i + k → FollowsCall access y machine budget far spare k i (at + 8) (call w).end
    slots_under laid runs to at slot here there k depth frames args call keeps answers i spare w t stands enters paid asked =
        follows_too spare k i (at + 8) (call w).end
        (slot_answers access y laid narrowed nothing runs budget far to at slot here there k depth frames args call within i spare w (stands_narrowed at w i t stands) (enters_narrowed depth frames args i enters) paid asked)
      where
        within : (back j : ℕ) → IsTarget back → reg (machine.run j).regs link_register ≡ back → Answers access y narrowed budget far entry_cost k to back depth frames args call j
        within back j target ra spare u s e paid asked =
            let t = (and_parts (test (outside u)) (machine.is_calm (outside u) (machine.run j).memory) s.calm).0 in
            follows_narrowed spare k j back (call u).end (keeps u t)
            (answers back j target ra spare u t (stands_too to u j s) (enters_too depth frames args j e) paid asked)

    pub jumps_under : IsLaid y → Runs access y narrowed → (to at : ℕ) → InstrStands text.word at (Jal 0 (distance at to)) → IsPlace at → IsPlace to →
        (depth frames : ℕ) (args : List ℕ) (w : World) (i : ℕ) → test (outside w) ≡ true → Stands access y machine budget far at w i → Enters access y machine budget far depth frames args i →
        Jumps access y machine budget far to depth frames args w i
    jumps_under laid runs to at jump here there depth frames args w i t stands enters =
        record { registers = same_regs; stands = stands_too to w (i + 1) next.stands; enters = entered; follows = follows }
      where
        does : LineRuns (own access y laid narrowed nothing runs budget far) text.word (machine.run i).memory at (at + 4) to (machine.run i).regs (line.Jump 0 0)
        does = line_runs (own access y laid narrowed nothing runs budget far) (machine.run i).memory text.word (λ l. to) (λ l. to) at (at + 4)
            (line.Jump 0 0) (record { jump = jump; end_is = refl }) (omega arith) here there (machine.run i).regs stands.are.count

        next : Stepped access y laid narrowed nothing runs budget far to (put (machine.run i).regs 0 (at + 4)) w i
        next = stepped access y laid narrowed nothing runs budget far at to (put (machine.run i).regs 0 (at + 4)) w i (subst (λ r. AreRegisters r) (sym (put_zero (machine.run i).regs (at + 4))) stands.are) does
            (stands_narrowed at w i t stands)

        same_regs : (machine.run (i + 1)).regs ≡ (machine.run i).regs
        same_regs = next.registers ∙ put_zero (machine.run i).regs (at + 4)

        entered : Enters access y machine budget far depth frames args (i + 1)
        entered = record {
          arguments = λ j lt. ap (λ r. reg r (10 + j)) same_regs ∙ enters.arguments j lt;
          live = ap (λ r. reg r 26) same_regs ∙ enters.live;
          counts = enters.counts;
          left = ap (λ r. reg r 27 + 1 + depth) same_regs ∙ enters.left;
          even = ap (λ r. reg r 2 % 4) same_regs ∙ enters.even;
          room = subst (λ r. y.bottom + (reg r 27 + 1) * 2032 ≤ reg r 2) (sym same_regs) enters.room;
          within = subst (λ r. reg r 2 ≤ y.top) (sym same_regs) enters.within;
        }

        came : (spare k back : ℕ) (u : World) (j : ℕ) → Returns access y machine budget far spare k (i + 1) back u j → Returns access y machine budget far spare k i back u j
        came spare k back u j r = record {
          stands = r.stands;
          kept = record {
            registers = λ q s. r.kept.registers q s ∙ ap (λ x. reg x q) same_regs;
            stack = λ b s. r.kept.stack b (subst (λ x. IsAbove y (reg x 2) b) (sym same_regs) s) ∙ ap (λ (m : M). access.load m b 4) next.memory;
          };
          paid = r.paid;
          asked = r.asked;
        }

        follows : (spare k back : ℕ) (x : End) → FollowsCall access y machine budget far spare k (i + 1) back x → FollowsCall access y machine budget far spare k i back x
        follows spare k back (Returned None u) c = (c.0, came spare k back u c.0 c.1)
        follows spare k back (Returned (Some v) u) c = (c.0, came spare k back u c.0 c.1, c.2)
        follows spare k back (Trapped code u) c = c
        follows spare k back (More u) c = c
        follows spare k back Stuck c = c

    pub firsts_under : IsLaid y → Runs access y narrowed → (bytes at : ℕ) → InstrStands text.word at (Addi 2 2 (pos 0 -ℤ pos bytes)) → IsPlace at →
        (w : World) (i : ℕ) → 0 < bytes → bytes ≤ reg (machine.run i).regs 2 → test (outside w) ≡ true → Stands access y machine budget far at w i → LowersStack machine bytes (at + 4) i
    firsts_under laid runs bytes at first here w i some enough t stands = record { goes = next.is; sound = next.sound i (omega arith) }
      where
        ok : IsRun access (words_site y nothing) narrowed
        ok = on_run access y laid narrowed nothing runs budget far

        before : walk.Stands access (words_site y nothing) narrowed ok y.entry 0 budget far w at (machine.run i).regs (machine.run i).memory i
        before = stands_at access (words_site y nothing) narrowed ok y.entry 0 budget far w (machine.run i).pc at (machine.run i).regs (machine.run i).memory i stands.at
            (record { is = refl; calm = and_from (test (outside w)) (machine.is_calm (outside w) (machine.run i).memory) t stands.calm; sound = stands.sound })

        next : walk.Stands access (words_site y nothing) narrowed ok y.entry 0 budget far w (at + 4) (put (machine.run i).regs 2 (reg (machine.run i).regs 2 - bytes)) (machine.run i).memory (i + 1)
        next = steps_on access (words_site y nothing) narrowed ok y.entry 0 budget far w at (at + 4) (machine.run i).regs (put (machine.run i).regs 2 (reg (machine.run i).regs 2 - bytes)) (machine.run i).memory (machine.run i).memory i
            (stands_steps (own access y laid narrowed nothing runs budget far) (machine.run i).memory text.word (machine.run i).regs at (Addi 2 2 (pos 0 -ℤ pos bytes)) first
            ∙ lowers_sp (own access y laid narrowed nothing runs budget far) (machine.run i).memory bytes (reg (machine.run i).regs 2) (machine.run i).regs some enough (stands.are.words 2) refl at
            ∙ ap (λ z. Goes (put (machine.run i).regs 2 (reg (machine.run i).regs 2 - bytes)) z (machine.run i).memory) (add_small at 4 (omega (arith, here.1)))) (inl refl) before

module _ {M : Type 0} (access : Access M) (y : Layout) (machine : Machine M) (test : World → Bool) where
  abbrev alone : Machine M
  alone = spec.narrowed machine test machine.text

  runs_too : (s : Site) → IsRun access s machine → IsRun access s alone
  runs_too s ok = record {
    registers = ok.registers;
    goes = λ i w next h. ok.goes i w next (leads i w next h);
    sound = λ i w next h. ok.sound i w next (leads i w next h);
    stays = λ i w next h.
        and_from (test (outside w)) (machine.is_calm (outside w) next.memory) (and_parts (test (outside w)) (machine.is_calm (outside w) (machine.run i).memory) h.calm).0
        (ok.stays i w next (leads i w next h));
  }
    where
      leads : (i : ℕ) (w : World) (next : Spot M) → LeadsOn access s alone i w next → LeadsOn access s machine i w next
      leads i w next h = record {
        calm = (and_parts (test (outside w)) (machine.is_calm (outside w) (machine.run i).memory) h.calm).1;
        steps = h.steps;
        writes = h.writes;
      }

  module _ (inner : World → Bool) (text other : Text) where
    abbrev twice : Machine M
    twice = spec.narrowed (spec.narrowed machine inner other) test text

    -- a run that is narrowed is one where the machine was narrowed before
    runs_twice : (s : Site) → IsRun access s (spec.narrowed machine test text) → IsRun access s twice
    runs_twice s ok = record {
      registers = ok.registers;
      goes = λ i w next h. ok.goes i w next (leads i w next h);
      sound = λ i w next h. ok.sound i w next (leads i w next h);
      stays = λ i w next h.
          let p = parts (outside w) (machine.run i).memory h.calm in
          let c = ok.stays i w next (leads i w next h) in
          and_from (test (outside w)) (inner (outside w) && machine.is_calm (outside w) next.memory) p.0
          (and_from (inner (outside w)) (machine.is_calm (outside w) next.memory) p.1 (and_parts (test (outside w)) (machine.is_calm (outside w) next.memory) c).1);
    }
      where
        parts : (w : World) (m : M) → twice.is_calm w m ≡ true → (test w ≡ true) × (inner w ≡ true) × (machine.is_calm w m ≡ true)
        parts w m h =
            let p = and_parts (test w) (inner w && machine.is_calm w m) h in
            let q = and_parts (inner w) (machine.is_calm w m) p.1 in (p.0, q.0, q.1)

        leads : (i : ℕ) (w : World) (next : Spot M) → LeadsOn access s twice i w next → LeadsOn access s (spec.narrowed machine test text) i w next
        leads i w next h = let p = parts (outside w) (machine.run i).memory h.calm in record {
          calm = and_from (test (outside w)) (machine.is_calm (outside w) (machine.run i).memory) p.0 p.2;
          steps = h.steps;
          writes = h.writes;
        }

  pub narrowed_runs : ((s : Site) → IsRun access s machine → IsRun access s alone)
      × ((inner : World → Bool) (text other : Text) (s : Site) → IsRun access s (spec.narrowed machine test text) → IsRun access s (spec.narrowed (spec.narrowed machine inner other) test text))
      × ((text : Text) → IsMemory access y machine → IsMemory access y (spec.narrowed machine test text))
  narrowed_runs = (runs_too, runs_twice, λ text. memory_too access y machine test text)
