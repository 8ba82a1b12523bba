-- Where a walk from the end of some code to its start has come to.
use Rattle.std.specs.Prelude.{ℕ, ◌≡◌, ◌<◌, ◌⊎◌, Bool, false, List, ◌∷◌, ◌++◌, map, reverse}
use Rattle.mv_ir.specs.declared.tree.Tree.{Tree}
use Rattle.mv_ir.specs.declared.stm.Stm.{Stm}
use Rattle.mv_ir.specs.Live.{mark_at, Around}
use Rattle.mv_ir.specs.Rolled.{temp as temp_of, set}
use Rattle.mv_regalloc.specs.Rows.{Bits, Sets, either_bits, live_before, loop_bits, sets, stm_rows}
use Rattle.mv_regalloc.specs.Seen.{seen, Wide}
use Rattle.mv_regalloc.specs.Shared.{LiveSets, entered, with_live}
use Rattle.mv_tidy.specs.Tidying.{IsOne, Left, Becomes}

-- a temporary of a body that isn't live
abbrev pub IsGone : ℕ → Bits → ℕ → Type 0
IsGone temps live t = (t < temps) × (mark_at live t ≡ false)

-- each temporary of a body sees this of some sets
pub record IsSeen (temps : ℕ) (sets : Sets) (r : ℕ → Around) : Type 0 where
  pub wide : Wide temps sets
  pub same : (t : ℕ) → t < temps → seen sets t ≡ r t

-- what becomes of some code and of a statement, where these sets stand for what is live behind it and around it
pub record IsBehind (temps : ℕ) (r : ℕ → Around) (live : Bits) (code result : List Stm) : Type 0 where
  pub behind : ℕ → Bool
  pub same : (t : ℕ) → t < temps → mark_at live t ≡ behind t
  pub left : Left temps r code behind result

abbrev pub IsLeft : ℕ → LiveSets → List Stm → List Stm → Type 0
IsLeft temps s code result = (r : ℕ → Around) → IsSeen temps (sets s.around s.live) r → (behind : ℕ → Bool) × Left temps r code behind result

abbrev pub HasBecome : ℕ → LiveSets → Stm → Stm → Type 0
HasBecome temps s stm made = (r : ℕ → Around) → IsSeen temps (sets s.around s.live) r → Becomes temps r stm made

-- at the start of a loop
abbrev pub turning : LiveSets → List Stm → LiveSets
turning s code = let start = loop_bits (map stm_rows code) (sets s.around s.live) in with_live (entered s s.live start) start

-- a statement and the last one of some, as one
abbrev pub IsOneOfLast : ℕ → Bits → Stm → List Stm → Stm → Type 0
IsOneOfLast temps live s kept z = (n : Stm) × (rest : List Stm) × (reverse kept ≡ n ∷ rest) × IsOne (IsGone temps live) s n z

-- a set that does nothing where this is live behind it: nothing reads it, or it gives a temporary what it has
pub record IsIdle (temps : ℕ) (live : Bits) (s : Stm) : Type 0 where
  pub temp : ℕ
  pub value : Tree
  pub is : s ≡ set temp value
  pub within : temp < temps
  pub idle : (mark_at live temp ≡ false) ⊎ (value ≡ temp_of temp)

-- from behind a statement to its start
abbrev pub passed : Stm → LiveSets → LiveSets
passed s l = with_live l ((stm_rows s).live (sets l.around l.live))

-- what is live where either side of a choice begins
abbrev pub sides_bits : List Stm → List Stm → LiveSets → Bits
sides_bits a b l = let r = sets l.around l.live in either_bits (live_before (map stm_rows a) r) (live_before (map stm_rows b) r)

-- The walk has come from a place to the start of some code. What has become of that was kept with the last one first. What is live behind the first was put
-- aside last, and before it what is live behind the code.
pub record IsWalked (temps : ℕ) (start : LiveSets) (code kept : List Stm) (now : LiveSets) : Type 0 where
  pub live : Bits
  pub is : now ≡ record start { live = live_before (map stm_rows code) (sets start.around start.live); saved = live ∷ start.live ∷ start.saved }
  pub left : (r : ℕ → Around) → IsSeen temps (sets start.around start.live) r → IsBehind temps r live code (reverse kept)

-- The walk over some code has come to where these statements are left.
abbrev pub IsWalkedTo : ℕ → LiveSets → List Stm → List Stm → List Stm → LiveSets → Type 0
IsWalkedTo temps start code left kept now = (rest : List Stm) × (code ≡ left ++ rest) × IsWalked temps start rest kept now
