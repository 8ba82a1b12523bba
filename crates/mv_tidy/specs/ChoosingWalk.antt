-- Where the walk that puts choices together has come to.
use Rattle.std.specs.Prelude.{ℕ, ◌≡◌, List, [], ◌∷◌, ◌++◌, map}
use Rattle.mv_ir.specs.declared.tree.Tree.{Tree}
use Rattle.mv_ir.specs.declared.stm.Stm.{Stm, out-Stm}
use Rattle.mv_ir.specs.declared.stm.Stm.TheOpen.{Stm-F}
use Rattle.mv_ir.specs.declared.stm.Stm.TheOpen as stm
use Rattle.mv_ir.specs.Live.{Around}
use Rattle.mv_ir.specs.Rolled.{choose}
use Rattle.mv_regalloc.specs.Rows.{Bits, Sets, either_bits, live_before, sets, stm_rows}
use Rattle.mv_regalloc.specs.Shared.{LiveSets, entered}
use Rattle.mv_tidy.specs.Tidying.{before}
use Rattle.mv_tidy.specs.Choosing.{Attached, IsUnread, Chosen, ChosenIn}
use Rattle.mv_tidy.specs.Walking.{IsGone, IsSeen, passed}

-- what is live where either of two sides begins
abbrev pub either_before : (a b : List Stm) → Sets → Bits
either_before a b r = either_bits (live_before (map stm_rows a) r) (live_before (map stm_rows b) r)

abbrev pub layer_sides : Stm-F Stm → Sets → Bits
layer_sides (stm.If t a b) r = either_before a b r
layer_sides _ r = r.none

-- what is live where either side of a choice begins
abbrev pub sides_row : Stm → LiveSets → Bits
sides_row s l = layer_sides (out-Stm s) (sets l.around l.live)

-- from behind a statement to its start, in a level behind which that is live
abbrev pub passed_within : Stm → LiveSets → LiveSets
passed_within s l = entered (passed s l) (sides_row s l) l.around.none

-- a statement before some code: it stands there, or is one choice with the first
pub data IsPut (gone : ℕ → Type 0) : List Stm → Stm → List Stm → Type 0 where
  stands : (s : Stm) (rest : List Stm) → IsPut gone rest s (s ∷ rest)
  taken_in : (c k : Tree) (a b x y z rest : List Stm) → Attached gone (choose c a b ∷ []) k x y z → IsPut gone (choose k x y ∷ rest) (choose c a b) (z ++ rest)

-- what becomes of some code and of a statement, where these sets stand for what is live behind it and around it
abbrev pub AreChosen : ℕ → LiveSets → List Stm → List Stm → Type 0
AreChosen temps s code made = (r : ℕ → Around) → IsSeen temps (sets s.around s.live) r → Chosen temps r code made

abbrev pub HasChosen : ℕ → LiveSets → Stm → Stm → Type 0
HasChosen temps s stm made = (r : ℕ → Around) → IsSeen temps (sets s.around s.live) r → ChosenIn temps r stm made

-- what isn't live in some set isn't live where either side of the choice that begins this begins
abbrev pub IsUnreadFirst : ℕ → (ℕ → Around) → Bits → List Stm → Type 0
IsUnreadFirst temps r live made = (k : Tree) (x y rest : List Stm) → made ≡ choose k x y ∷ rest → (t : ℕ) → IsGone temps live t → IsUnread temps (before r rest) x y t

-- The walk has come from a place to the start of some code, of which this has become. A set was put aside for the choice that this may begin with.
pub record IsChosenFrom (temps : ℕ) (start : LiveSets) (code made : List Stm) (now : LiveSets) : Type 0 where
  pub live : Bits
  pub is : now ≡ record start { live = live_before (map stm_rows code) (sets start.around start.live); saved = live ∷ start.saved }
  pub chosen : AreChosen temps start code made
  pub unread : (r : ℕ → Around) → IsSeen temps (sets start.around start.live) r → IsUnreadFirst temps r live made

-- the same where some of the code is left, which stands before what the walk has come over
pub record IsChosenBehind (temps : ℕ) (start : LiveSets) (code left made : List Stm) (now : LiveSets) : Type 0 where
  pub behind : List Stm
  pub is : code ≡ left ++ behind
  pub chosen : IsChosenFrom temps start behind made now
