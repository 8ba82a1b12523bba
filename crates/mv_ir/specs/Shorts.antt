-- What is known of callees: functions that do what short bodies mean.
use Rattle.std.specs.Prelude.{ℕ, ◌≡◌, List, [], ◌∷◌, length, slice_get, Option, Some}
use Rattle.mv_ir.specs.declared.body.Body.{Body}
use Rattle.mv_ir.specs.World.{World, Setting, Frame}
use Rattle.mv_ir.specs.Outcome.{Call, Bound}
use Rattle.mv_ir.specs.Meaning.{Contents, body_from, body_meaning}
use Rattle.mv_ir.specs.Keeps.{KeepsCall}

-- for some functions, by their numbers, a body that does what they do
abbrev pub Shorts : Type 0
Shorts = List (Option Body)

-- a frame of which such a body sees nothing
abbrev pub any_frame : Frame
any_frame = record { depth = 0; live = 0; bound = [] }

-- a function does, of as many arguments as the body has parameters, what the body does, at no less cost
abbrev pub DoesAs : Setting → Body → (List ℕ → ℕ → ℕ → World → Call) → Type 0
DoesAs setting b function =
    (args : List ℕ) (depth live : ℕ) (w : World) → length args ≡ b.params → KeepsCall (function args depth live w) (body_meaning setting any_frame b args [] w)

-- so do those functions at each bound
abbrev pub AreShorts : Setting → Shorts → Bound → Type 0
AreShorts setting shorts [] = Unit {0}
AreShorts setting shorts (calls ∷ below) =
    ((f : ℕ) (b : Body) → slice_get shorts f ≡ Some (Some b) → DoesAs setting b (calls f)) × AreShorts setting shorts below

-- of two bodies, whatever their frames hold when they begin, over callees of which this is known
abbrev pub KeepsBodyWith : Shorts → Body → Body → Type 0
KeepsBodyWith shorts b b' =
    (setting : Setting) (frame : Frame) (contents : Contents) (args : List ℕ) (bound : Bound) (w : World) → AreShorts setting shorts bound →
    KeepsCall (body_from setting frame contents b args bound w) (body_from setting frame contents b' args bound w)

-- of two bodies in every frame in which the switches are read as these values
abbrev pub KeepsUnderWith : Shorts → List (ℕ × ℕ) → Body → Body → Type 0
KeepsUnderWith shorts ps b b' =
    (setting : Setting) (depth live : ℕ) (contents : Contents) (args : List ℕ) (bound : Bound) (w : World) → AreShorts setting shorts bound →
    KeepsCall (body_from setting (record { depth = depth; live = live; bound = ps }) contents b args bound w) (body_from setting (record { depth = depth; live = live; bound = ps }) contents b' args bound w)
