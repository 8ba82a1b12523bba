-- From the parts of a command to what comes of it.
use Rattle.std.proofs.Common.{ℕ, ◌≡◌, List, [], sym, subst}
use Rattle.std.specs.Prelude.{Result, Ok, Err, IfOk, Option}
use Rattle.std.specs.declared.alloc.AllocError.{AllocError}
use Rattle.mv_bindings.specs.declared.binding.Event.{Event}
use Rattle.mv_machine.specs.Snapshots.{Logs}
use Rattle.mv_notes.specs.declared.notes.Performed.{Performed}
use Rattle.mv_notes.specs.declared.status.Status.{Status}
use Rattle.mv_top.specs.Outcomes.{Performs}

-- what comes of one thing and then of another
pub performs_so : (Comes Gives : (lines : List ℕ) → Status → Type 0) → ((lines : List ℕ) (status : Status) → Comes lines status → Gives lines status) →
    (result : Result Performed AllocError) → Performs Comes result → Performs Gives result
performs_so Comes Gives so (Ok performed) h = so performed.lines.items performed.status h
performs_so Comes Gives so (Err e) h = record { lines = h.lines; status = h.status; comes = so h.lines h.status h.comes }

-- a status alone
pub alone : (Comes : (lines : List ℕ) → Status → Type 0) (lines : List ℕ) (status due : Status) → lines ≡ [] → status ≡ due → Comes [] due → Comes lines status
alone Comes lines status due none same comes = subst (λ (l : List ℕ). Comes l status) (sym none) (subst (λ (s : Status). Comes [] s) (sym same) comes)

-- these lines and this status, or no memory for the lines
pub with_lines : (Comes : (lines : List ℕ) → Status → Type 0) (lines : List ℕ) (due : Status) → Comes lines due → (result : Result Performed AllocError) →
    IfOk result (λ performed. performed.status ≡ due) → IfOk result (λ performed. performed.lines.items ≡ lines) → Performs Comes result
with_lines Comes lines due came (Ok performed) status same =
    subst (λ (l : List ℕ). Comes l performed.status) (sym same) (subst (λ (s : Status). Comes lines s) (sym status) came)
with_lines Comes lines due came (Err why) status same = record { lines = lines; status = due; comes = came }

-- the lines that a run is asked for are of its log
pub with_log : (Comes : (lines : List ℕ) → Status → Type 0) (lines : List Event → List ℕ) (kept : Option (List Event)) (log : List Event) → Logs kept log → (due : Status) → Comes (lines log) due →
    (result : Result Performed AllocError) → IfOk result (λ performed. performed.status ≡ due) → IfOk result (λ performed. (events : List Event) → Logs kept events → performed.lines.items ≡ lines events) →
    Performs Comes result
with_log Comes lines kept log logs due came (Ok performed) status same = with_lines Comes (lines log) due came (Ok performed) status (same log logs)
with_log Comes lines kept log logs due came (Err why) status same = with_lines Comes (lines log) due came (Err why) status same
