-- A slot calls its function, which comes back to the NOP behind the jump.
use Rattle.std.proofs.Common.{◌≡◌, ◌≢◌, inl, inr, ℕ, ◌+◌, ◌^◌, ◌<◌, true, List, length, Some, None, refl, sym, ap, subst, ◌∙◌, arith}
use Rattle.mv_isa.specs.declared.labelled.Line.TheVariants as line
use Rattle.mv_isa.specs.Code.{IsPlace}
use Rattle.mv_isa.specs.Execution.{Access, reg, put}
use Rattle.mv_isa.specs.LineSteps.{Leads, LineRuns}
use Rattle.mv_isa.specs.Standing.{SlotStands}
use Rattle.mv_isa.proofs.LineSteps.{line_runs}
use Rattle.mv_isa.specs.Registers.{ra as link_register, a0 as result_register, s11 as left_register, s10 as live_register}
use Rattle.mv_ir.specs.World.{World}
use Rattle.mv_ir.specs.Outcome.{End, Returned, Trapped, More, Stuck, Call}
use Rattle.mv_select_code.specs.Trees.View.{AreRegisters}
use Rattle.mv_select_code.proofs.OfTrees.Registers.{free_low, put_same, put_other, put_registers}
use Rattle.mv_select_code.specs.Statements.Frames.{Reach}
use Rattle.mv_select_code.specs.Statements.Leads.{limited}
use Rattle.mv_select_code.specs.Control.Runs.{Spot, Machine, outside, IsRun}
use Rattle.mv_select_code.proofs.OfControl.Walk as walk
use Rattle.mv_select_code.proofs.OfControl.Walk.{steps_on, stands_at}
use Rattle.mv_select.specs.Calls.Convention.{Layout, IsTarget, IsSaved, HoldsGlobals, Stands, Enters, Returns, FollowsCall, Answers, entry_cost, slot_cost}
use Rattle.mv_select.specs.Functions.Functions.{IsLaid, RunsWithin}
use Rattle.mv_select.proofs.OfFunctions.FrameWords.{words_site, words_stand}

-- what a callee sets back isn't ra
saved_other : (q : ℕ) → IsSaved q → q ≢ link_register
saved_other q (inl e) same = omega (arith, e, same)
saved_other q (inr (inl e)) same = omega (arith, e, same)
saved_other q (inr (inr h)) same = omega (arith, h.0, same)

module _ {M : Type 0} (access : Access M) (y : Layout) (laid : IsLaid y) (machine : Machine M) (reach : Reach) (runs : RunsWithin access y machine reach) (budget far : ℕ) where
  abbrev pub on_run : IsRun access (words_site y reach) machine
  on_run = runs (words_site y reach) (words_stand y reach laid) (λ a h. h)

  abbrev pub own : Access M
  own = limited access (words_site y reach)

  abbrev At : ℕ → World → ℕ → Type 0
  At = Stands access y machine budget far

  -- ---- steps that leave memory alone

  pub record Stepped (pc : ℕ) (regs : List ℕ) (w : World) (i : ℕ) : Type 0 where
    pub registers : (machine.run (i + 1)).regs ≡ regs
    pub memory : (machine.run (i + 1)).memory ≡ (machine.run i).memory
    pub stands : At pc w (i + 1)

  pub stepped : (pc to : ℕ) (regs : List ℕ) (w : World) (i : ℕ) → AreRegisters regs → Leads own machine.text.word (machine.run i).memory (machine.run i).regs pc regs to → At pc w i → Stepped to regs w i
  stepped pc to regs w i are leads h = record {
    registers = ap (λ (x : Spot M). x.regs) a.is;
    memory = same;
    stands = record {
      at = ap (λ (x : Spot M). x.pc) a.is;
      calm = subst (λ (m : M). machine.is_calm (outside w) m ≡ true) (sym same) a.calm;
      sound = a.sound;
      globals = subst (λ (m : M). HoldsGlobals access y machine budget far w m) (sym same) h.globals;
      are = subst AreRegisters (sym (ap (λ (x : Spot M). x.regs) a.is)) are;
    };
  } where
    here : walk.Stands access (words_site y reach) machine on_run y.entry 0 budget far w pc (machine.run i).regs (machine.run i).memory i
    here = stands_at access (words_site y reach) machine on_run y.entry 0 budget far w (machine.run i).pc pc (machine.run i).regs (machine.run i).memory i h.at (record { is = refl; calm = h.calm; sound = h.sound })

    a : walk.Stands access (words_site y reach) machine on_run y.entry 0 budget far w to regs (machine.run i).memory (i + 1)
    a = steps_on access (words_site y reach) machine on_run y.entry 0 budget far w pc to (machine.run i).regs regs (machine.run i).memory (machine.run i).memory i leads (inl refl) here

    same : (machine.run (i + 1)).memory ≡ (machine.run i).memory
    same = ap (λ (x : Spot M). x.memory) a.is

  -- ---- the two instructions of a slot

  module _ (to at : ℕ) (slot : SlotStands machine.text.word at (at + 8) to) (here : IsPlace at) (there : IsPlace to) where
    does : (m : M) (regs : List ℕ) → length regs ≡ 32 → LineRuns own machine.text.word m at (at + 8) to regs (line.Slot 0)
    does m regs count = line_runs own m machine.text.word (λ g. to) (λ g. to) at (at + 8) (line.Slot 0) slot tt here there regs count

    behind : at + 4 < 2 ^ 32
    behind = omega (arith, here.1)

    goes : (w : World) (i : ℕ) → At at w i → Stepped to (put (machine.run i).regs link_register (at + 4)) w i
    goes w i h =
        stepped at to (put (machine.run i).regs link_register (at + 4)) w i (put_registers (machine.run i).regs link_register (at + 4) h.are (free_low link_register (omega arith) (omega arith)) behind)
        (does (machine.run i).memory (machine.run i).regs h.are.count).0 h

    comes : (w : World) (j : ℕ) → At (at + 4) w j → Stepped (at + 8) (machine.run j).regs w j
    comes w j h = stepped (at + 4) (at + 8) (machine.run j).regs w j h.are ((does (machine.run j).memory (machine.run j).regs h.are.count).1 (machine.run j).regs) h

    module _ (w : World) (i : ℕ) (h : At at w i) where
      -- no other register has changed
      other : (q : ℕ) → q ≢ link_register → reg (machine.run (i + 1)).regs q ≡ reg (machine.run i).regs q
      other q ne = ap (λ r. reg r q) (goes w i h).registers ∙ put_other (machine.run i).regs link_register q (at + 4) (omega arith) ne

      links : reg (machine.run (i + 1)).regs link_register ≡ at + 4
      links = ap (λ r. reg r link_register) (goes w i h).registers ∙ put_same (machine.run i).regs link_register (at + 4) (omega arith) (omega (arith, h.are.count))

      enters_next : (depth frames : ℕ) (args : List ℕ) → Enters access y machine budget far depth frames args i → Enters access y machine budget far depth frames args (i + 1)
      enters_next depth frames args e =
          let live = other live_register (λ z. omega (arith, z)) in
          let left = other left_register (λ z. omega (arith, z)) in
          let sp = other 2 (λ z. omega (arith, z)) in
          record {
            arguments = λ j lt. other (result_register + j) (λ z. omega (arith, z)) ∙ e.arguments j lt;
            live = live ∙ e.live;
            counts = e.counts;
            left = omega (arith, left, e.left);
            even = rw sp e.even;
            room = omega (arith, left, sp, e.room);
            within = omega (arith, sp, e.within);
          }

      came : (spare k : ℕ) (u : World) (j : ℕ) → Returns access y machine budget far (spare + 1) k (i + 1) (at + 4) u j → Returns access y machine budget far spare k i (at + 8) u (j + 1)
      came spare k u j r =
          let n = comes u j r.stands in
          let sp = other 2 (λ z. omega (arith, z)) in
          record {
            stands = n.stands;
            kept = record {
              registers = λ q s. ap (λ x. reg x q) n.registers ∙ r.kept.registers q s ∙ other q (saved_other q s);
              stack = λ b s. ap (λ (m : M). access.load m b 4) n.memory ∙ r.kept.stack b (omega (arith, sp, s.0), s.1, s.2) ∙ ap (λ (m : M). access.load m b 4) (goes w i h).memory;
            };
            paid = let paid = r.paid in omega (arith, paid);
            asked = let asked = r.asked in omega (arith, asked);
          }

      -- what follows the call of the function follows that of the slot
      follows : (spare k : ℕ) (x : End) → FollowsCall access y machine budget far (spare + 1) k (i + 1) (at + 4) x → FollowsCall access y machine budget far spare k i (at + 8) x
      follows spare k (Returned None u) c = (c.0 + 1, came spare k u c.0 c.1)
      follows spare k (Returned (Some v) u) c = (c.0 + 1, came spare k u c.0 c.1, ap (λ r. reg r result_register) (comes u c.0 c.1.stands).registers ∙ c.2)
      follows spare k (Trapped code u) c = c
      follows spare k (More u) c = c
      follows spare k Stuck c = tt

    -- A slot answers where its function does.
    pub slot_answers : (k depth frames : ℕ) (args : List ℕ) (call : World → Call) →
        ((back j : ℕ) → IsTarget back → reg (machine.run j).regs link_register ≡ back → Answers access y machine budget far entry_cost k to back depth frames args call j) →
        (i : ℕ) → Answers access y machine budget far slot_cost k at (at + 8) depth frames args call i
    slot_answers k depth frames args call answers i spare w stands enters paid asked =
        follows w i stands spare k (call w).end
        (answers (at + 4) (i + 1) (behind, omega (arith, here.2)) (links w i stands) (spare + 1) w (goes w i stands).stands (enters_next w i stands depth frames args enters) (omega (arith, paid)) (omega (arith, asked)))
