-- What a program's functions do at each bound, from their bodies.
use Rattle.std.specs.Prelude.{ℕ, zero, suc, ◌+◌, cond, List, [], ◌∷◌, Option, Some, None, slice_get}
use Rattle.std.specs.List.{zip}
use Rattle.mv_ir.specs.declared.body.Body.{Body}
use Rattle.mv_bindings.specs.declared.binding.Binding.{Binding}
use Rattle.mv_ir.specs.World.{World, Setting, Frame}
use Rattle.mv_ir.specs.Outcome.{Stuck, Call, Bound}
use Rattle.mv_ir.specs.Meaning.{body_meaning}

-- a function's body, and its place among the attributed functions where it is one
pub record Code : Type 0 where
  pub body : Body
  pub attributed : Option ℕ

abbrev pub read_under : List ℕ → Option Binding → List (ℕ × ℕ)
read_under switches None = []
read_under switches (Some b) = cond b.bound (zip switches b.values) []

-- what the switches of a function are read as in a frame of it that begins in this world
abbrev pub switches_read : Option ℕ → List ℕ → World → List (ℕ × ℕ)
switches_read None switches w = []
switches_read (Some i) switches w = read_under switches (slice_get w.bindings i)

abbrev pub one_if : Option ℕ → ℕ
one_if None = 0
one_if (Some i) = 1

-- the frame of a function that is called from a frame with this depth and number of live attributed frames
abbrev pub frame_of_call : Option ℕ → List ℕ → ℕ → ℕ → World → Frame
frame_of_call attributed switches depth live w =
    record { depth = depth + 1; live = live + one_if attributed; bound = switches_read attributed switches w }

abbrev pub called : Setting → Option Code → Bound → List ℕ → ℕ → ℕ → World → Call
called setting None bound args depth live w = record { cost = 0; end = Stuck }
called setting (Some c) bound args depth live w = body_meaning setting (frame_of_call c.attributed c.body.switches depth live w) c.body args bound w

-- the bound k of a program
abbrev pub levels : Setting → List Code → ℕ → Bound
levels setting program zero = []
levels setting program (suc k) =
    (λ f args depth live w. called setting (slice_get program f) (levels setting program k) args depth live w) ∷ levels setting program k

-- what a program does from a world: its main function, which isn't attributed, at depth 0
abbrev pub program_meaning : Setting → List Code → Code → ℕ → World → Call
program_meaning setting program main k w =
    body_meaning setting (record { depth = 0; live = 0; bound = [] }) main.body [] (levels setting program k) w
