-- From where a run went last to another place than the next instruction, in the words of functions.
use Rattle.std.specs.Prelude.{ℕ, zero, suc, ◌&&◌, Bool, not, nat_eq, nat_le, List, [], ◌∷◌, Option, Some, None, if◌then◌else◌}
use Rattle.mv_num.specs.Words.{add}
use Rattle.mv_descriptors.specs.declared.rows.TargetRow.{TargetRow}
use Rattle.mv_image.specs.Spelling.{Fields}
use Rattle.mv_machine.specs.Runs.{State, Stop, is_going, runs_from}

abbrev pub first_entry : List TargetRow → ℕ
first_entry [] = 0
first_entry (row ∷ rows) = row.entry

-- Where the words of functions begin: at the first target, below which stubs stand. Without targets an image doesn't tell, and all words count.
abbrev pub floor : Fields → ℕ
floor image = first_entry image.targets

-- an instruction at one address in the words of functions, behind which another is executed than the one that stands next
abbrev pub departs : (floor from to : ℕ) → Bool
departs floor from to = nat_le floor from && not (nat_eq to (add from 4))

-- the last such address, after an instruction that ended the run or went on
abbrev pub departed_by : (floor : ℕ) → Stop → (from to : ℕ) → Option ℕ → Option ℕ
departed_by floor stop from to before = if is_going stop && departs floor from to then Some from else before

-- The departure of the first n instructions: the address of the last of them that stands in the words of functions and behind which the run went on at another
-- address than the next, by a jump or a branch that was taken; none where there is no such instruction.
unfoldable pub departed : State → (picks : List ℕ) → (n : ℕ) → Option ℕ
departed s picks zero = None
departed s picks (suc n) =
    let was = runs_from s picks n in
    let is = runs_from s picks (suc n) in
    departed_by (floor was.image) is.stop was.pc is.pc (departed s picks n)
