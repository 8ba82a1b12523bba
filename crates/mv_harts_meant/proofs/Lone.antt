-- The run of one hart alone, by what its program means, is right in the words of runs of harts.
use Rattle.std.proofs.Common.{◌≡◌, ℕ, length, replicate, List, [], Some, ap, ◌∙◌}
use Rattle.std.specs.Prelude.{◌⊎◌}
use Rattle.std.proofs.Common.{inl, inr}
use Rattle.mv_ast.specs.declared.program.Program.{Program}
use Rattle.mv_bindings.specs.Acts.{Act}
use Rattle.mv_isa.specs.declared.instr.Instr.TheVariants.{Ecall}
use Rattle.mv_image.specs.Spelling.{Fields}
use Rattle.mv_machine.specs.Runs.{State, bytes_to_come}
use Rattle.mv_machine.specs.Commits.{fetched_instr}
use Rattle.mv_refine_machine.specs.Runs.Behaves.{Behaves, IsTextSettled}
use Rattle.mv_refine_machine.specs.Stores.Between.{IsBetween}
use Rattle.mv_refine_machine.specs.Stores.Laws.{RoomsAreWhole}
use Rattle.mv_refine_machine.specs.Commits.Watch.{texts_of}
use Rattle.mv_harts_runs.specs.Harts.{Elsewhere, place}
use Rattle.mv_harts_runs.specs.Alone.{alone, BehavesAlone}
use Rattle.mv_harts_runs.proofs.Acts.{IsNoCall, ecall_or, place_elsewhere}

-- what stands nowhere else than at an environment call
calls_there : (s : State) → (place s 0 ≡ Elsewhere → ⊥) → fetched_instr s 0 ≡ Some Ecall
calls_there s called = by_call (ecall_or (fetched_instr s 0))
  where
    by_call : (fetched_instr s 0 ≡ Some Ecall) ⊎ IsNoCall (fetched_instr s 0) → fetched_instr s 0 ≡ Some Ecall
    by_call (inl e) = e
    by_call (inr q) = absurd (called (place_elsewhere s 0 q))

-- settled text is between itself and itself
between_itself : RoomsAreWhole → (image : Fields) (s : State) → IsTextSettled image s → IsBetween (texts_of image s.bindings) (texts_of image s.bindings) s.room.held
between_itself rooms image s settled = (rooms.same (texts_of image s.bindings) s.room.held).1 (settled.words, settled.older ∙ ap (λ (text : List ℕ). replicate (length text) []) settled.words)

module _ (rooms : RoomsAreWhole) (p : Program) (image : Fields) (h : ℕ) (bytes : List ℕ) (acts : List Act) (b : Behaves p image bytes (record { hart = h; acts = acts }) []) where
  abbrev at : ℕ → State
  at = alone h image (bytes_to_come bytes) acts

  pub behaves_alone : BehavesAlone h image (bytes_to_come bytes) acts
  behaves_alone = record {
    fetches = b.fetches;
    settled = λ n e. between_itself rooms image (at n) (b.settled n e);
    between = λ n old e. (b.between n old e).words;
    calls = λ n called. b.calls n (calls_there (at n) called);
    faults = λ n why e. (b.ends n).faults why e;
  }
