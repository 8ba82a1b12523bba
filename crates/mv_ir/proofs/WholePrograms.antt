-- If each body of a program keeps its meaning, then so does the program.
use Rattle.std.proofs.Common.{arith, ◌≤◌, ℕ, List, [], ◌∷◌, Option, Some, None, refl, subst}
use Rattle.std.specs.Prelude.{slice_get}
use Rattle.mv_ast.specs.declared.program.Program.{Program}
use Rattle.mv_ast.specs.declared.program.Function.{Function}
use Rattle.mv_ir.specs.declared.body.Body.{Body}
use Rattle.mv_ir.specs.declared.body.IrProgram.{IrProgram}
use Rattle.mv_ir.specs.World.{World, Setting, Frame}
use Rattle.mv_ir.specs.Outcome.{End, Returned, Trapped, More, Stuck, Call}
use Rattle.mv_ir.specs.Meaning.{cleared}
use Rattle.mv_ir.specs.Keeps.{KeepsCall}
use Rattle.mv_ir.specs.Levels.{Code, levels}
use Rattle.mv_ir.specs.Programs.{setting_of, code_from, code_of, next_place, execution_of, call_of_main, start, run_of_main}
use Rattle.mv_ir.specs.KeptPrograms.{KeepsFunctions, KeepsBodies, KeepsExecution, KeepsProgram, ProgramsKeep}
use Rattle.mv_ir.proofs.Programs.{KeepsFound, found_keeps, call_trans, body_monotone, levels_keep}

codes_keep : (before : ℕ) (fs : List Function) (bs bs' : List Body) → KeepsBodies bs bs' → KeepsFunctions (code_from before fs bs) (code_from before fs bs')
codes_keep before [] bs bs' h = tt
codes_keep before (f ∷ fs) [] [] h = tt
codes_keep before (f ∷ fs) [] (b' ∷ bs') h = absurd h
codes_keep before (f ∷ fs) (b ∷ bs) [] h = absurd h
codes_keep before (f ∷ fs) (b ∷ bs) (b' ∷ bs') h =
    (record { attributed = refl; switches = h.0.0; meaning = h.0.1 }, codes_keep (next_place f.attributed before) fs bs bs' h.1)

main_keeps : (setting : Setting) (p p' : List Code) → KeepsFunctions p p' → (o o' : Option Code) → KeepsFound o o' → (bound : ℕ) (w : World) →
    KeepsCall (call_of_main setting p o bound w) (call_of_main setting p' o' bound w)
main_keeps setting p p' h None None k bound w = record { same = refl; cheaper = omega arith }
main_keeps setting p p' h None (Some c') k bound w = absurd k
main_keeps setting p p' h (Some c) None k bound w = absurd k
main_keeps setting p p' h (Some c) (Some c') k bound w =
    let frame : Frame = record { depth = 0; live = 0; bound = [] } in
    call_trans _ _ _
    (body_monotone setting frame c.body [] (levels setting p bound) (levels setting p' bound) w (levels_keep setting p p' h bound))
    (k.meaning setting frame cleared [] (levels setting p' bound) w)

ended_keeps : (w : World) (e : End) (n n' : ℕ) → n' ≤ n → KeepsExecution (execution_of w n e) (execution_of w n' e)
ended_keeps w (Returned v u) n n' h = record { output = refl; taken = refl; ending = refl; bindings = refl; log = refl; cheaper = h }
ended_keeps w (Trapped c u) n n' h = record { output = refl; taken = refl; ending = refl; bindings = refl; log = refl; cheaper = h }
ended_keeps w (More u) n n' h = record { output = refl; taken = refl; ending = refl; bindings = refl; log = refl; cheaper = h }
ended_keeps w Stuck n n' h = record { output = refl; taken = refl; ending = refl; bindings = refl; log = refl; cheaper = h }

execution_keeps : (w : World) (c c' : Call) → KeepsCall c c' → KeepsExecution (execution_of w c.cost c.end) (execution_of w c'.cost c'.end)
execution_keeps w c c' h =
    subst (λ e. KeepsExecution (execution_of w c.cost c.end) (execution_of w c'.cost e)) h.same (ended_keeps w c.end c.cost c'.cost h.cheaper)

bodies_keep : (program : Program) (bs bs' : List Body) → KeepsBodies bs bs' →
    KeepsProgram (record { program = program; bodies = bs }) (record { program = program; bodies = bs' })
bodies_keep program bs bs' h numbers hart input actions bound =
    let ir : IrProgram = record { program = program; bodies = bs } in
    let ir' : IrProgram = record { program = program; bodies = bs' } in
    let codes = codes_keep 0 program.functions bs bs' h in
    execution_keeps (start numbers ir hart input actions) (run_of_main numbers ir hart input actions bound) (run_of_main numbers ir' hart input actions bound)
    (main_keeps (setting_of numbers program) (code_of ir) (code_of ir') codes (slice_get (code_of ir) program.main) (slice_get (code_of ir') program.main)
    (found_keeps (code_of ir) (code_of ir') program.main codes) bound (start numbers ir hart input actions))

pub programs_keep : ProgramsKeep
programs_keep ir ir' e h =
    subst (λ p. KeepsProgram ir (record { program = p; bodies = ir'.bodies })) e (bodies_keep ir.program ir.bodies ir'.bodies h)
