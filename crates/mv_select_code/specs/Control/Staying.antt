-- What a statement stays for, where it is a test that else leaves the innermost loop or block.
use Rattle.std.specs.Prelude.{◌≡◌, ◌⊎◌, List, ◌∷◌, Option, Some, None}
use Rattle.mv_ir.specs.declared.tree.Tree.{Tree}
use Rattle.mv_ir.specs.declared.stm.Stm.{Stm}
use Rattle.mv_ir.specs.declared.stm.Stm as stm
use Rattle.mv_select_code.specs.declared.control.statements.Staying.{Staying}
use Rattle.mv_select_code.specs.Control.FlowCode.{Plan, Tested, straight_loop, turned_loop, code_of, loop_of, tested}

abbrev pub tested_of : Plan → Option Staying → Option Tested
tested_of plan None = None
tested_of plan (Some s) = Some (tested plan s.test.now s.sense s.list.now)

-- a statement is a branch by a tree, one of whose lists is this one
abbrev pub BranchesTo : Tree → List Stm → Stm → Type 0
BranchesTo t list s = (other : List Stm) × ((s ≡ stm.If t list other) ⊎ (s ≡ stm.If t other list))

-- the loop over some statements is turned by what the first one stays for, and else it is straight
abbrev pub TurnsBy : List Stm → Option Staying → Type 0
TurnsBy list None = (plan : Plan) → loop_of plan list ≡ straight_loop (code_of plan list)
TurnsBy list (Some s) =
    (first : Stm) × (rest : List Stm) × (list ≡ first ∷ rest) × BranchesTo s.test.now s.list.now first
    × ((plan : Plan) → loop_of plan list ≡ turned_loop plan.seats (tested plan s.test.now s.sense s.list.now) (code_of plan rest))
