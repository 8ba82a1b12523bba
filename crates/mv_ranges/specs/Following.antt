-- Code that does the same as other code where some facts are known, and what is known where control goes on.
use Rattle.std.specs.Prelude.{ℕ, zero, suc, ◌≡◌, ◌<◌, ◌⊎◌, List, [], ◌∷◌, length, Option, Some, None, true, false, not, eqb}
use Rattle.mv_ir.specs.declared.tree.Tree.{Tree}
use Rattle.mv_ir.specs.declared.stm.Array.{Array}
use Rattle.mv_ir.specs.declared.stm.Stm.{Stm}
use Rattle.mv_ir.specs.World.{World, Setting, Frame}
use Rattle.mv_ir.specs.Trees.{value}
use Rattle.mv_ir.specs.Rolled.{repeat, enclosed}
use Rattle.mv_ir.specs.Outcome.{State, Outcome, Next, Leaves, Restarts, Ends, Bound, Meaning}
use Rattle.mv_ir.specs.Meaning.{elements, outside, meaning, code_meaning}
use Rattle.mv_ranges.specs.declared.facts.Fact.{Fact}
use Rattle.mv_ranges.specs.declared.around.Claim.{Claim}
use Rattle.mv_ranges.specs.declared.walk.Reach.{Reach}
use Rattle.mv_ranges.specs.declared.walk.Reach.TheVariants.{Never, Knowing}
use Rattle.mv_ranges.specs.declared.walk.Form.{Form}
use Rattle.mv_ranges.specs.declared.walk.Form.TheVariants.{Loop, Block}
use Rattle.mv_ranges.specs.Facts.{AllHold, AreKnown}
use Rattle.mv_ranges.specs.Plain.{plain_stm, plain_code}

-- an array in place of another, for an access at an index: it does the same wherever some facts hold
abbrev pub IsKept : List Fact → Array → Tree → Array → Type 0
IsKept facts a i a' =
    (numbers : List ℕ) (bound : List (ℕ × ℕ)) (s : State) (w : World) → AllHold s facts →
    (value numbers bound i s.temps s.world.globals < length (elements a s))
    ⊎ (outside a' (value numbers bound i s.temps s.world.globals) w ≡ outside a (value numbers bound i s.temps s.world.globals) w)

-- what is known where a tree is true, and where it is 0
pub record AreSides (facts : List Fact) (t : Tree) (first second : List Fact) : Type 0 where
  pub chosen : (numbers : List ℕ) (bound : List (ℕ × ℕ)) (s : State) → AllHold s facts → not (eqb (value numbers bound t s.temps s.world.globals) 0) ≡ true → AllHold s first
  pub refused : (numbers : List ℕ) (bound : List (ℕ × ℕ)) (s : State) → AllHold s facts → not (eqb (value numbers bound t s.temps s.world.globals) 0) ≡ false → AllHold s second

abbrev pub enclosing : Form → List Stm → Stm
enclosing Loop code = repeat code
enclosing Block code = enclosed code

-- the n-th of what encloses some code, the innermost first
abbrev pub claim_at : List Claim → ℕ → Option Claim
claim_at [] n = None
claim_at (c ∷ cs) zero = Some c
claim_at (c ∷ cs) (suc n) = claim_at cs n

module _ (temps : ℕ) where
  -- control comes there with what is known, or never
  abbrev pub OnReach : Reach → State → Type 0
  OnReach Never s = ⊥
  OnReach (Knowing facts) s = AreKnown temps facts s

  abbrev pub OnExit : Option Claim → State → Type 0
  OnExit None s = Unit {0}
  OnExit (Some c) s = AreKnown temps c.exit s

  abbrev pub OnStart : Option Claim → State → Type 0
  OnStart None s = Unit {0}
  OnStart (Some c) s = AreKnown temps c.start s

  -- what is known behind code, and what is claimed where it leaves what encloses it, or starts it again
  abbrev pub GoesOn : List Claim → Reach → Outcome → Type 0
  GoesOn around after (Next s) = OnReach after s
  GoesOn around after (Leaves n s) = OnExit (claim_at around n) s
  GoesOn around after (Restarts n s) = OnStart (claim_at around n) s
  GoesOn around after (Ends e) = Unit {0}

  -- the second does the same as the first wherever some facts are known
  pub record Follows (around : List Claim) (facts : List Fact) (after : Reach) (m m' : Meaning) : Type 0 where
    pub same : (bound : Bound) (s : State) → AreKnown temps facts s → m' bound s ≡ m bound s
    pub goes : (bound : Bound) (s : State) → AreKnown temps facts s → GoesOn around after (m bound s).outcome

  -- of a statement, and of code: it is the same but for promises of indices
  pub record IsMarked (around : List Claim) (facts : List Fact) (x x' : Stm) (after : Reach) : Type 0 where
    pub plain : plain_stm x' ≡ plain_stm x
    pub follows : (setting : Setting) (frame : Frame) → Follows around facts after (meaning setting frame x) (meaning setting frame x')

  -- behind code behind which this is known
  abbrev pub IsMarkedNext : List Claim → Reach → Stm → Stm → Reach → Type 0
  IsMarkedNext around (Knowing facts) x x' after = IsMarked around facts x x' after
  IsMarkedNext around Never x x' after = (plain_stm x' ≡ plain_stm x) × (after ≡ Never)

  pub record AreMarked (around : List Claim) (facts : List Fact) (code code' : List Stm) (after : Reach) : Type 0 where
    pub plain : plain_code code' ≡ plain_code code
    pub follows : (setting : Setting) (frame : Frame) → Follows around facts after (code_meaning setting frame code) (code_meaning setting frame code')
