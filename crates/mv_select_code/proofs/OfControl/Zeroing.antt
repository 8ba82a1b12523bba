-- The loop that makes an array of the frame 0, on a run.
use Rattle.std.proofs.Common.{◌≡◌, ℕ, zero, suc, ◌+◌, ◌*◌, ◌<◌, ◌^◌, true, false, List, [], ◌∷◌, ◌++◌, length, map, refl, sym, ap, ◌∙◌, subst, arith, eq-eqb}
use Rattle.std.specs.Prelude.{not}
use Rattle.std.proofs.lemmas.Bool.{ne_eqb}
use Rattle.std.proofs.lemmas.Int.{ints}
use Rattle.mv_num.specs.Words.{add}
use Rattle.mv_isa.specs.declared.labelled.Line.{Line}
use Rattle.mv_isa.specs.declared.labelled.Line.TheVariants.{Label, Jump, Branch}
use Rattle.mv_isa.specs.Execution.{Access, reg}
use Rattle.mv_isa.specs.LineSteps.{branch_holds, BranchRuns}
use Rattle.mv_ir.specs.declared.stm.Array.TheVariants as array
use Rattle.mv_ir.specs.declared.stm.Stm.TheOpen as stm
use Rattle.mv_ir.specs.World as ir
use Rattle.mv_ir.specs.Outcome.{State, Bound}
use Rattle.mv_ir.specs.Meaning.{elements, with_elements, statement}
use Rattle.mv_select_code.specs.Statements.StatementCode.{first, second, bounds_lines, clear_lines}
use Rattle.mv_select_code.specs.Statements.Leads.{limited, Past}
use Rattle.mv_select_code.specs.Statements.Frames.{Site, Element, IsFit, Shows}
use Rattle.mv_select_code.specs.Statements.Laws.{IsCleared}
use Rattle.mv_select_code.proofs.OfStatements.ZeroStatement.{cleared_all, bounds_done, clear_done}
use Rattle.mv_select_code.specs.declared.control.enclosing.Enclosing.{Enclosing}
use Rattle.mv_select_code.specs.Control.FlowCode.{zero_lines}
use Rattle.mv_select_code.specs.Control.Placed.{IsPlaced}
use Rattle.mv_select_code.specs.Control.Runs.{Machine, IsRun}
use Rattle.mv_select_code.specs.Control.Flow.{Does}
use Rattle.mv_select_code.proofs.OfControl.Walk.{placed_split, Stands, Reaches, reaches_more, stands_at, jump_stands, branch_passes, taken, line_does, leads_walk, to_stands, to_here}
use Rattle.mv_select_code.proofs.OfControl.Course.{course}

-- in an array within a frame no word has the address of the array's end
apart : (r at n size : ℕ) → n < size → at + 4 * size < 2048 → r + (at + 4 * n) < 2 ^ 32 → add r (at + 4 * n) ≡ add r (at + 4 * size) → ⊥
unfolding add
apart r at n size lt below small e = omega (arith, e)

module _ {M : Type 0} (access : Access M) (s : Site) (setting : ir.Setting) (frame : ir.Frame) (fit : IsFit s access setting frame) (machine : Machine M) (ok : IsRun access s machine)
    (place : ℕ → ℕ) (end budget far : ℕ) where
  open course access s machine place end budget far use {Placed as P}

  abbrev IsAt : ℕ → ℕ → Line → Type 0
  IsAt = IsPlaced machine.text place s.entry

  module _ (a : ℕ) (l : State) where
    abbrev at : ℕ
    at = s.array_at a

    abbrev size : ℕ
    size = s.array_size a

    abbrev St : ℕ → List ℕ → M → ℕ → Type 0
    St = Stands access s machine ok place end budget far l.world

    abbrev C : ℕ → List ℕ → M → Type 0
    C n regs m = IsCleared access s setting frame a n l regs m

    -- after at most k instructions more the whole array is 0
    record Done (to i k : ℕ) : Type 0 where
      regs : List ℕ
      memory : M
      reaches : Reaches access s machine ok place end budget far l.world to regs memory i k
      all : C size regs memory

    -- A turn goes from `start` to `test`. With so many words left, the test ends it or one turn more begins.
    module _ (label start test stop : ℕ) (at_start : place label ≡ start) (body : P clear_lines start test) (here : IsAt test stop (Branch 1 first second label)) (below : s.array_at a + 4 * s.array_size a < 2048) where
      turns : (left n : ℕ) (regs : List ℕ) (m : M) (i : ℕ) → n + left ≡ size → C n regs m → St test regs m i → Done stop i (4 * left + 1)
      turns zero n regs m i e f h =
          let g = subst (λ k. C k regs m) (last n e) f in
          let same : reg regs first ≡ reg regs second = g.next ∙ sym g.stop in
          let passes : branch_holds 1 (reg regs first) (reg regs second) ≡ false = ap not (eq-eqb (reg regs first) (reg regs second) same) in
          let b = branch_passes access s machine ok place end budget far l.world test stop 1 first second label regs m i passes here h in
          record { regs = regs; memory = m; reaches = record { time = i + 1; late = omega arith; soon = omega arith; stands = b }; all = g }
        where
          last : (n : ℕ) → n + 0 ≡ size → n ≡ size
          last n e = omega (arith, e)
      turns (suc left) n regs m i e f h =
          let lt : n < size = omega (arith, e) in
          let small = fit.addresses (Element (array.Local a) n) lt in
          let other : reg regs first ≡ reg regs second → ⊥ = λ q. apart (s.register 2) at n size lt below (omega (arith, small)) (sym f.next ∙ q ∙ f.stop) in
          let holds : branch_holds 1 (reg regs first) (reg regs second) ≡ true = ap not (ne_eqb (reg regs first) (reg regs second) other) in
          let runs = subst (λ b. BranchRuns (limited access s) machine.text.word m b test stop (place label) regs) holds
          (line_does access s machine ok place end budget far l.world test stop regs m i (Branch 1 first second label) here.stands here h) in
          let t = taken access s machine ok place end budget far l.world test stop (place label) regs m i runs h in
          let c = clear_done access s setting frame fit a l n regs m lt f in
          let begun = stands_at access s machine ok place end budget far l.world (place label) start regs m t.time at_start t.stands in
          let w = leads_walk access s machine ok place end budget far clear_lines 2 l.world start test regs m Past c.0 c.1 t.time body c.2 begun in
          let r = turns left (n + 1) c.0 c.1 w.time (omega (arith, e)) c.3 w.stands in
          let late = t.late in let soon = t.soon in let later = w.late in let sooner = w.soon in
          record {
            regs = r.regs;
            memory = r.memory;
            reaches =
                reaches_more access s machine ok place end budget far l.world stop r.regs r.memory w.time i (4 * left + 1) (4 * suc left + 1)
                (omega (arith, late, later)) (omega (arith, soon, sooner)) r.reaches;
            all = r.all;
          }

  pub zero_stands : (label a spare k pc next : ℕ) (around : List Enclosing) (bound : Bound) → P (zero_lines label (s.array_at a) (s.array_size a)) pc next
      → Does access s machine place end budget far spare k around pc next (statement setting frame (stm.Zero a) bound)
  zero_stands label a spare k pc next around bound p l i h =
      let tail = Label (label + 1) ∷ Branch 1 first second label ∷ [] in
      let q = placed_split machine.text place s.entry (bounds_lines (s.array_at a) (s.array_size a)) (Jump 0 (label + 1) ∷ Label label ∷ (clear_lines ++ tail)) pc next p in
      let jump = q.2 in
      let start = jump.2 in
      let r = placed_split machine.text place s.entry clear_lines tail start.0 next start.2 in
      let test = r.2 in
      let branch = test.2 in
      let count = h.shows.sizes (array.Local a) in
      let below : s.array_at a + 4 * s.array_size a < 2048 = omega (arith, ints, q.1.2.1.fits) in
      let b = bounds_done access s setting frame fit a l (machine.run i).regs (machine.run i).memory h.shows in
      let w = leads_walk access s machine ok place end budget far (bounds_lines (s.array_at a) (s.array_size a)) 2 l.world pc q.0 (machine.run i).regs (machine.run i).memory Past b.0 b.1 i q.1 b.2
      (to_stands access s machine ok place end budget far 0 (spare + (8 + 8 * length (elements (array.Local a) l))) k pc l i h) in
      let jumped = jump_stands access s machine ok place end budget far l.world q.0 jump.0 0 (label + 1) b.0 b.1 w.time refl jump.1 w.stands in
      let begun = stands_at access s machine ok place end budget far l.world (place (label + 1)) test.0 b.0 b.1 (w.time + 1) (test.1.label ∙ sym test.1.stands) jumped in
      let body = subst (λ x. P clear_lines start.0 x) (sym test.1.stands) r.1 in
      let z = turns a l label start.0 test.0 branch.0 (start.1.label ∙ sym start.1.stands) body branch.1 below (s.array_size a) 0 b.0 b.1 (w.time + 1) (omega arith) b.3 begun in
      let cleared_now = subst (λ n. IsCleared access s setting frame a n l z.regs z.memory) (sym count) z.all in
      let shown = subst (λ xs. Shows s access (with_elements (array.Local a) l xs) z.regs z.memory) (cleared_all (elements (array.Local a) l)) cleared_now.shown in
      let paid = h.paid in let asked = h.asked in let soon = w.soon in let late = w.late in let sooner = z.reaches.soon in let later = z.reaches.late in (
        z.reaches.time,
        to_here access s machine ok place end budget far 0 spare k next (with_elements (array.Local a) l (map (λ x. 0) (elements (array.Local a) l))) l.world z.regs z.memory z.reaches.time refl shown
            (omega (arith, paid, soon, sooner, count)) (omega (arith, asked, late, later))
            (stands_at access s machine ok place end budget far l.world branch.0 next z.regs z.memory z.reaches.time (sym branch.2) z.reaches.stands),
      )
