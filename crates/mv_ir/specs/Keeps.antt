-- To keep the meaning: the same but for the cost, which isn't greater.
use Rattle.std.specs.Prelude.{ℕ, ◌≡◌, ◌≤◌, List}
use Rattle.mv_ir.specs.declared.stm.Stm.{Stm}
use Rattle.mv_ir.specs.declared.body.Body.{Body}
use Rattle.mv_ir.specs.World.{World, Setting, Frame}
use Rattle.mv_ir.specs.Outcome.{State, Run, Call, Bound, Meaning}
use Rattle.mv_ir.specs.Meaning.{code_meaning, Contents, body_from}

-- of two runs
pub record KeepsRun (r r' : Run) : Type 0 where
  pub same : r.outcome ≡ r'.outcome
  pub cheaper : r'.cost ≤ r.cost

-- of two statements, at every bound and from every state
abbrev pub KeepsMeaning : Meaning → Meaning → Type 0
KeepsMeaning m m' = (bound : Bound) (s : State) → KeepsRun (m bound s) (m' bound s)

-- of two lists of statements, in every frame and under every numbering
abbrev pub KeepsCode : List Stm → List Stm → Type 0
KeepsCode xs ys = (setting : Setting) (frame : Frame) → KeepsMeaning (code_meaning setting frame xs) (code_meaning setting frame ys)

pub record KeepsCall (c c' : Call) : Type 0 where
  pub same : c.end ≡ c'.end
  pub cheaper : c'.cost ≤ c.cost

-- of two bodies, whatever their frames hold when they begin
abbrev pub KeepsBody : Body → Body → Type 0
KeepsBody b b' =
    (setting : Setting) (frame : Frame) (contents : Contents) (args : List ℕ) (bound : Bound) (w : World) →
    KeepsCall (body_from setting frame contents b args bound w) (body_from setting frame contents b' args bound w)

-- it is kept by doing nothing, and by one thing after the other
pub record KeepsOrder : Type 0 where
  pub reflexive : (b : Body) → KeepsBody b b
  pub transitive : (a b c : Body) → KeepsBody a b → KeepsBody b c → KeepsBody a c
