-- To keep the meaning of a program: what its functions do at each bound, and what it does as a whole.
use Rattle.std.specs.Prelude.{ℕ, ◌≤◌, ◌≡◌, List, [], ◌∷◌}
use Rattle.mv_bindings.specs.Acts.{Act}
use Rattle.mv_ir.specs.declared.body.Body.{Body}
use Rattle.mv_ir.specs.declared.body.IrProgram.{IrProgram}
use Rattle.mv_ir.specs.World.{World, Setting}
use Rattle.mv_ir.specs.Outcome.{Calls, Bound}
use Rattle.mv_ir.specs.Keeps.{KeepsCall, KeepsBody}
use Rattle.mv_ir.specs.Levels.{Code, levels}
use Rattle.mv_ir.specs.Programs.{Execution, ir_meaning}

-- ---- functions

-- of two codes of one function: bodies that keep the meaning, with the same switches
pub record KeepsFunction (c c' : Code) : Type 0 where
  pub attributed : c.attributed ≡ c'.attributed
  pub switches : c.body.switches ≡ c'.body.switches
  pub meaning : KeepsBody c.body c'.body

-- one by one
abbrev pub KeepsFunctions : List Code → List Code → Type 0
KeepsFunctions [] [] = Unit {0}
KeepsFunctions [] (c' ∷ p') = ⊥
KeepsFunctions (c ∷ p) [] = ⊥
KeepsFunctions (c ∷ p) (c' ∷ p') = KeepsFunction c c' × KeepsFunctions p p'

-- of what some functions do
abbrev pub KeepsCalls : Calls → Calls → Type 0
KeepsCalls c c' = (f : ℕ) (args : List ℕ) (depth live : ℕ) (w : World) → KeepsCall (c f args depth live w) (c' f args depth live w)

-- at each bound below
abbrev pub KeepsBound : Bound → Bound → Type 0
KeepsBound [] [] = Unit {0}
KeepsBound [] (c' ∷ b') = ⊥
KeepsBound (c ∷ b) [] = ⊥
KeepsBound (c ∷ b) (c' ∷ b') = KeepsCalls c c' × KeepsBound b b'

-- If each function keeps its meaning over any callees, they do so together, callees included, at each bound.
abbrev pub LevelsKeep : Type 0
LevelsKeep =
    (setting : Setting) (p p' : List Code) → KeepsFunctions p p' → (bound : ℕ) → KeepsBound (levels setting p bound) (levels setting p' bound)

-- ---- whole programs

-- bodies one by one
abbrev pub KeepsBodies : List Body → List Body → Type 0
KeepsBodies [] [] = Unit {0}
KeepsBodies [] (b' ∷ bs') = ⊥
KeepsBodies (b ∷ bs) [] = ⊥
KeepsBodies (b ∷ bs) (b' ∷ bs') = ((b.switches ≡ b'.switches) × KeepsBody b b') × KeepsBodies bs bs'

-- the same but for the cost, which isn't greater
pub record KeepsExecution (e e' : Execution) : Type 0 where
  pub output : e.output ≡ e'.output
  pub taken : e.taken ≡ e'.taken
  pub ending : e.ending ≡ e'.ending
  pub bindings : e.bindings ≡ e'.bindings
  pub log : e.log ≡ e'.log
  pub cheaper : e'.cost ≤ e.cost

-- of two programs: in each hart, under each numbering, on each input and with any actions, at each bound
abbrev pub KeepsProgram : IrProgram → IrProgram → Type 0
KeepsProgram ir ir' =
    (numbers : List ℕ) (hart : ℕ) (input : List ℕ) (actions : List Act) (bound : ℕ) →
    KeepsExecution (ir_meaning numbers ir hart input actions bound) (ir_meaning numbers ir' hart input actions bound)

-- If each body of a program keeps its meaning, then so does the program.
abbrev pub ProgramsKeep : Type 0
ProgramsKeep = (ir ir' : IrProgram) → ir.program ≡ ir'.program → KeepsBodies ir.bodies ir'.bodies → KeepsProgram ir ir'
