-- The code of statements without control, on a run.
use Rattle.std.proofs.Common.{◌≡◌, ℕ, ◌+◌, Bool, true, false, cond, ltb, List, length, refl, ap, ◌∙◌, subst, arith}
use Rattle.mv_isa.specs.declared.labelled.Line.{Line}
use Rattle.mv_isa.specs.Execution.{Access}
use Rattle.mv_ir.specs.declared.tree.Tree.{Tree}
use Rattle.mv_ir.specs.declared.stm.Array.{Array}
use Rattle.mv_ir.specs.declared.stm.Array.TheVariants as array
use Rattle.mv_ir.specs.declared.stm.Stm.TheOpen.{Stm-F}
use Rattle.mv_ir.specs.World as ir
use Rattle.mv_ir.specs.World.{World}
use Rattle.mv_ir.specs.Outcome.{State, Returned, Trapped, More, Stuck, Outcome, Next, Leaves, Restarts, Ends, Bound, Meaning}
use Rattle.mv_ir.specs.Meaning.{statement, with_elements, outside as beyond}
use Rattle.mv_select_code.specs.Statements.StatementCode.{trap_label}
use Rattle.mv_select_code.specs.Statements.Frames.{Site}
use Rattle.mv_select_code.specs.Statements.Leads.{Past, To}
use Rattle.mv_select_code.specs.Statements.Laws as statements
use Rattle.mv_select_code.specs.declared.control.enclosing.Enclosing.{Enclosing}
use Rattle.mv_select_code.specs.Control.Placed.{Placed}
use Rattle.mv_select_code.specs.Control.Runs.{Machine, outside, Calm, IsRun}
use Rattle.mv_select_code.specs.Control.Flow.{Follows}
use Rattle.mv_select_code.specs.Control.Laws.{LinesDo}
use Rattle.mv_select_code.proofs.OfControl.Walk.{leads_walk, to_stands, to_here}
use Rattle.mv_select_code.proofs.OfControl.Course.{course}

-- the world of an outcome is as another one, apart from the globals
abbrev pub SameOutside : World → Outcome → Type 0
SameOutside w (Next l) = outside l.world ≡ outside w
SameOutside w (Ends (Trapped c v)) = outside v ≡ outside w
SameOutside w _ = Unit {0}

pub same_either : (w : World) (b : Bool) (x y : Outcome) → SameOutside w x → SameOutside w y → SameOutside w (cond b x y)
same_either w true x y h k = h
same_either w false x y h k = k

pub same_elements : (a : Array) (l : State) (xs : List ℕ) → outside (with_elements a l xs).world ≡ outside l.world
same_elements (array.Global g) l xs = refl
same_elements (array.Local a) l xs = refl
same_elements (array.SureGlobal g n) l xs = refl
same_elements (array.SureLocal a n) l xs = refl

same_unless : (w : World) (promised : Bool) → SameOutside w (Ends (cond promised (Trapped 2 w) Stuck))
same_unless w true = refl
same_unless w false = tt

pub same_beyond : (a : Array) (k : ℕ) (w : World) → SameOutside w (Ends (beyond a k w))
same_beyond (array.Global g) k w = refl
same_beyond (array.Local a) k w = refl
same_beyond (array.SureGlobal g n) k w = same_unless w (ltb k n)
same_beyond (array.SureLocal a n) k w = same_unless w (ltb k n)

module _ {M : Type 0} (access : Access M) (s : Site) (setting : ir.Setting) (frame : ir.Frame) (machine : Machine M) (ok : IsRun access s machine)
    (place : ℕ → ℕ) (end budget far : ℕ) (is_fine : Tree → Bool) (top : Bound) where
  open course access s machine place end budget far use {Here as H}

  leaf_follows : (lines : List Line) (cost spare k pc next : ℕ) (around : List Enclosing) (l : State) (i : ℕ) (r : Outcome) → Placed machine.text place s.entry lines pc next → SameOutside l.world r
      → statements.Follows access s setting frame lines cost (machine.run i).regs (machine.run i).memory r → H 0 (spare + cost) k pc l i
      → Follows access s machine place end budget far spare k around next r
  leaf_follows lines cost spare k pc next around l i (Next l') p same f h =
      let x = leads_walk access s machine ok place end budget far lines cost l.world pc next (machine.run i).regs (machine.run i).memory Past f.0 f.1 i p f.2
      (to_stands access s machine ok place end budget far 0 (spare + cost) k pc l i h) in
      let paid = h.paid in let asked = h.asked in let late = x.late in let soon = x.soon in
      (x.time, to_here access s machine ok place end budget far 0 spare k next l' l.world f.0 f.1 x.time same f.3 (omega (arith, paid, soon)) (omega (arith, asked, late)) x.stands)
  leaf_follows lines cost spare k pc next around l i (Ends (Trapped c w)) p same f h =
      let x = leads_walk access s machine ok place end budget far lines cost l.world pc next (machine.run i).regs (machine.run i).memory (To (trap_label c)) f.2.0 f.2.1 i p f.2.2
      (to_stands access s machine ok place end budget far 0 (spare + cost) k pc l i h) in
      let paid = h.paid in let asked = h.asked in let late = x.late in let soon = x.soon in
      let y = to_here access s machine ok place end budget far 0 0 k (place (trap_label c)) f.0 l.world f.2.0 f.2.1 x.time (ap outside f.1 ∙ same) f.2.3 (omega (arith, paid, soon)) (omega (arith, asked, late)) x.stands in
      (x.time, record { at = y.at; calm = subst (λ v. Calm access s machine v (machine.run x.time).memory) f.1 y.calm; sound = y.sound; paid = omega (arith, paid, soon) })
  leaf_follows lines cost spare k pc next around l i (Ends (Returned r w)) p same f h = absurd f
  leaf_follows lines cost spare k pc next around l i (Ends (More w)) p same f h = absurd f
  leaf_follows lines cost spare k pc next around l i (Ends Stuck) p same f h = tt
  leaf_follows lines cost spare k pc next around l i (Leaves n l') p same f h = absurd f
  leaf_follows lines cost spare k pc next around l i (Restarts n l') p same f h = absurd f

  -- code that does what a statement means, wherever it stands, does so on the run
  pub leaf_does : (lines : List Line) (x : Stm-F Meaning) → statements.Does access s setting frame lines x → ((bound : _) (l : State) → SameOutside l.world (statement setting frame x bound l).outcome)
      → LinesDo access s setting frame machine place end budget far is_fine top lines x
  leaf_does lines x done same spare around pc next bound le p l i h =
      let r = statement setting frame x bound l in
      leaf_follows lines r.cost spare (length bound) pc next around l i r.outcome p (same bound l) (done bound l (machine.run i).regs (machine.run i).memory h.shows) h
