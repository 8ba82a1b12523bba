-- The code of a function, however it keeps its temporaries.
use Rattle.std.proofs.Common.{◌≡◌, inr, ℕ, ◌+◌, ◌-◌, ◌<◌, ◌≤◌, Bool, true, List, ◌∷◌, ◌++◌, length, slice_index, pos, ◌-ℤ◌, refl, sym, ap, ◌∙◌, subst, arith}
use Rattle.mv_isa.specs.declared.instr.Instr.TheVariants.{Addi}
use Rattle.mv_isa.specs.Code.{IsPlace}
use Rattle.mv_isa.specs.declared.labelled.Line.{Line}
use Rattle.mv_isa.specs.declared.labelled.Line.TheVariants.{Word, Label}
use Rattle.mv_isa.specs.Execution.{Access, reg, put}
use Rattle.mv_isa.specs.Registers.{ra as link_register, s11 as left_register}
use Rattle.mv_ir.specs.declared.tree.Tree.{Tree}
use Rattle.mv_ir.specs.declared.body.Body.{Body}
use Rattle.mv_ir.specs.World as ir
use Rattle.mv_ir.specs.World.{World}
use Rattle.mv_ir.specs.Outcome.{State, Bound}
use Rattle.mv_ir.specs.Meaning.{body_from}
use Rattle.mv_select_code.specs.declared.trees.places.Keeping.{Keeping}
use Rattle.mv_select_code.specs.declared.trees.places.Keeping.TheVariants.{Saved, Arguments, Mixed}
use Rattle.mv_select_code.specs.Statements.Frames.{Site, Shows, Reach}
use Rattle.mv_select_code.specs.Control.Placed.{IsPlaced, Placed}
use Rattle.mv_select_code.specs.Control.Runs.{Machine}
use Rattle.mv_select_code.specs.Control.Laws.{CallsDo}
use Rattle.mv_select_code.proofs.OfControl.Walk.{placed_split, stands_at}
use Rattle.mv_select.specs.Calls.CallCode.{calls_of}
use Rattle.mv_select.specs.Calls.Convention.{Layout, IsTarget, Stands, FollowsCall, Conventions}
use Rattle.mv_select.specs.Calls.Environment.{ServesKnown}
use Rattle.mv_select.specs.Calls.Laws.{IsLinked}
use Rattle.mv_select.specs.Functions.FunctionCode.{seated_of, bytes_of, body_lines, later_lines, end_label, entry_by, return_by, led, seats_of}
use Rattle.mv_select.specs.Functions.Functions.{IsLaid, IsMemory, IsAmple, RunsWithin}
use Rattle.mv_select.proofs.OfFunctions.Begun.{Begun, frame_at}
use Rattle.mv_select.proofs.OfFunctions.BodyKeeps as body_of
use Rattle.mv_select.proofs.OfFunctions.BodyKeeps.{IsKept, small, body_keeps}
use Rattle.mv_select.proofs.OfFunctions.Contents.{contents_at}
use Rattle.mv_select.proofs.OfFunctions.Entered.{Unwound}
use Rattle.mv_select.proofs.OfFunctions.Frame.{shape_at, room_for_saved}
use Rattle.mv_select.proofs.OfFunctions.FrameWords.{words_site, ok, frame_course}
use Rattle.mv_select.proofs.OfFunctions.FunctionKeeps.{later_keeps}
use Rattle.mv_select.proofs.OfFunctions.Leaf.{LeafEntered, leaf_entered, leaf_unwound}
use Rattle.mv_select.proofs.OfFunctions.Seats.{saves, argument_leaves}
use Rattle.mv_select.proofs.OfFunctions.Quiet.{quiet_done}
use Rattle.mv_select.proofs.OfFunctions.Steps.{down}

-- the code from the entry on
abbrev pub whole : (place size : ℕ → ℕ) → (ℕ → Bool) → Bool → Keeping → Body → List Line
whole place size is_attributed attributed k body =
    let shape = shape_at attributed k body in
    led (entry_by k shape ++ (body_lines place size is_attributed shape body.code ++ (Label end_label ∷ return_by k shape)))

module _ {M : Type 0} (access : Access M) (y : Layout) (laid : IsLaid y) (machine : Machine M) (memory : IsMemory access y machine)
    (reach : Reach) (ample : IsAmple y reach) (runs : RunsWithin access y machine reach) (setting : ir.Setting)
    (entries : (f : ℕ) → f < length setting.numbers → (slice_index setting.numbers f ≡ y.entry f) × IsPlace (y.entry f))
    (budget far : ℕ) (serves : ServesKnown access y machine budget far setting) (levels : Bound) (keep : Conventions access y machine budget far setting levels)
    (attributed : Bool) (bound : List (ℕ × ℕ)) (is_fine : Tree → Bool) (body : Body)
    (place : ℕ → ℕ) (linked : IsLinked y (length setting.numbers) place) (is_attributed : ℕ → Bool) (pc next : ℕ)
    (back i : ℕ) (target : IsTarget back) (ra : reg (machine.run i).regs link_register ≡ back)
    (depth live : ℕ) (args : List ℕ) (count : length args ≡ body.params) (w : World) (stands : Stands access y machine budget far pc w i)
    (begun : Begun y machine attributed depth live args i) where
  open frame_course access y laid machine memory reach ample runs budget far place use {of.{Placed as Ps}, Stands as Ws}

  -- what follows is what the body means
  abbrev pub Keeps : Keeping → Type 0
  Keeps k =
      (spare : ℕ) → i + (spare + 44 + (body_from setting (frame_at attributed bound depth live) (contents_at access machine (shape_at attributed k body) (length args) i) body args levels w).cost) ≤ budget
      → far ≤ i + length levels
      → FollowsCall access y machine budget far spare (length levels) i back
      (body_from setting (frame_at attributed bound depth live) (contents_at access machine (shape_at attributed k body) (length args) i) body args levels w).end

  here : Ws w pc (machine.run i).regs (machine.run i).memory i
  here = stands_at access (words_site y reach) machine (ok access y laid machine memory reach ample runs budget far place) place 0 budget far w (machine.run i).pc pc (machine.run i).regs (machine.run i).memory i
      stands.at (record { is = refl; calm = stands.calm; sound = stands.sound })

  -- ---- one that saves registers

  saved_keeps : (k : Keeping) (saved : saves k ≡ true) → IsKept y setting attributed k bound reach is_fine body → (mid : ℕ)
      → IsPlaced machine.text place y.entry pc mid (Word (Addi 2 2 (pos 0 -ℤ pos (bytes_of (shape_at attributed k body)))))
      → Placed machine.text place y.entry (later_lines y.place y.size is_attributed (shape_at attributed k body) body.code) mid next → Keeps k
  saved_keeps k saved fn mid first placed =
      later_keeps access y laid machine memory reach ample runs setting entries budget far serves levels keep attributed k saved bound is_fine body fn place linked is_attributed pc mid next placed
      depth live args back i count target ra w stands begun (record { goes = step.is; sound = step.sound i (omega arith) })
    where
      step : Ws w mid (put (machine.run i).regs 2 (reg (machine.run i).regs 2 - bytes_of (shape_at attributed k body))) (machine.run i).memory (i + 1)
      step =
          down access y laid machine memory reach ample runs budget far place (bytes_of (shape_at attributed k body)) (reg (machine.run i).regs 2) w pc mid (machine.run i).regs (machine.run i).memory i
          (omega (arith, room_for_saved (shape_at attributed k body))) (omega (arith, begun.room, fn.small)) (omega (arith, begun.within, laid.top)) refl first here

  -- ---- one that keeps its temporaries where arguments come

  module _ (fn : IsKept y setting attributed Arguments bound reach is_fine body)
      (placed : Placed machine.text place y.entry (whole y.place y.size is_attributed attributed Arguments body) pc next) where
    abbrev code : List Line
    code = body_lines y.place y.size is_attributed (shape_at attributed Arguments body) body.code

    abbrev stop : List Line
    stop = return_by Arguments (shape_at attributed Arguments body)

    e : LeafEntered access y laid machine memory reach ample runs budget far place attributed body args live (machine.run i).regs (machine.run i).memory w (code ++ (Label end_label ∷ stop)) next i
    e = leaf_entered access y laid machine memory reach ample runs budget far place attributed body (fn.plain refl) fn.temps args live (machine.run i).regs (machine.run i).memory w (code ++ (Label end_label ∷ stop)) pc next i
        stands.are begun.live_is (small y laid machine setting attributed Arguments bound reach is_fine body fn depth live args i begun) (λ j lt. begun.arguments j (omega (arith, lt, count))) placed here

    q : (mid : ℕ) × Ps code e.mid mid × Ps (Label end_label ∷ stop) mid next
    q = placed_split machine.text place y.entry code (Label end_label ∷ stop) e.mid next e.placed

    abbrev S : Site
    S = body_of.S access y laid machine memory reach ample runs setting entries budget far attributed Arguments bound is_fine body fn place pc e.mid depth live args i count w stands begun e.entered

    calls_do : CallsDo access S setting (frame_at attributed bound depth live) machine place end_label budget far is_fine levels (calls_of (seats_of y.place (shape_at attributed Arguments body)) is_attributed)
    calls_do =
        let okS = body_of.okS access y laid machine memory reach ample runs setting entries budget far attributed Arguments bound is_fine body fn place pc e.mid depth live args i count w stands begun e.entered in
        quiet_done access S machine okS budget far place end_label setting (frame_at attributed bound depth live) is_fine levels is_attributed refl (λ k. refl)
        (argument_leaves (seated_of (shape_at attributed Arguments body)) left_register (inr (inr (omega arith, omega arith)))) (ap (λ n. n + depth) e.entered.left_is ∙ begun.left)

    unwind : (l : State) (regs : List ℕ) (m : M) (j : ℕ) → Shows S access l regs m → Ws l.world q.2.0 regs m j
        → Unwound access y laid machine memory reach ample runs budget far place (machine.run i).regs (machine.run i).memory back l.world regs m j
    unwind l regs m j f a =
        let is = body_of.is access y laid machine memory reach ample runs setting entries budget far attributed Arguments bound is_fine body fn place pc e.mid depth live args i count w stands begun e.entered in
        leaf_unwound access y laid machine memory reach ample runs budget far place attributed body live (reg (machine.run i).regs 2) args (machine.run i).regs (machine.run i).memory w e.mid i e.entered
        e.memory_is e.same is e.entered.stands.calm l.world l regs m f back q.2.0 next j refl ra target q.2.2 a

    leaf_keeps : Keeps Arguments
    leaf_keeps =
        body_keeps access y laid machine memory reach ample runs setting entries budget far attributed Arguments bound is_fine body fn place pc e.mid depth live args i count w stands begun e.entered linked levels
        is_attributed calls_do q.2.0 (at_label q.1) (q.2.1.label ∙ sym q.2.1.stands) back unwind
      where
        -- the label of the end takes no place
        at_label : Ps code e.mid q.0 → Ps code e.mid q.2.0
        at_label = subst (Ps code e.mid) (sym q.2.1.stands)

  pub kept_keeps : (k : Keeping) → IsKept y setting attributed k bound reach is_fine body → Placed machine.text place y.entry (whole y.place y.size is_attributed attributed k body) pc next → Keeps k
  kept_keeps Saved fn placed = saved_keeps Saved refl fn placed.0 placed.1 placed.2
  kept_keeps Mixed fn placed = saved_keeps Mixed refl fn placed.0 placed.1 placed.2
  kept_keeps Arguments fn placed = leaf_keeps fn placed
