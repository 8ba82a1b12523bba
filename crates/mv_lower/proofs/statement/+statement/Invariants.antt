use Rattle.std.proofs.Common.{◌≡◌, ◌+◌, ◌*◌, ◌≤◌, ◌++◌, map, take, drop, length, max}
use Rattle.mv_lower_spec.specs.Statements.{Code, arms_code, arms_top}
use Rattle.mv_lower.specs.Statements.{stmts_at, arm_at, seen_jumps, stmt_size, stmts_size, arms_size}
use Rattle.mv_lower.proofs.statement.+statement.Given as goal

abbrev pub invariant-lower_stmts-loop-s : goal.invariant-lower_stmts-loop-s
invariant-lower_stmts-loop-s l = (let c : Code = record { code = l.code; top = l.top } in c) ≡ stmts_at l.pointers l.function (take l.s-index l.body) (seen_jumps l.jumps)

abbrev pub invariant-lower_arms-loop-arm : goal.invariant-lower_arms-loop-arm
invariant-lower_arms-loop-arm l =
    (l.place ≡ l.arm-index) × (length l.function.locals ≤ l.top) ×
    (l.code ++ arms_code (length l.function.locals) l.arm-index (map (arm_at l.pointers l.function) (drop l.arm-index l.arms)) (seen_jumps l.fn.jumps) ≡
    arms_code (length l.function.locals) 0 (map (arm_at l.pointers l.function) l.arms) (seen_jumps l.fn.jumps)) ×
    (max l.top (arms_top (length l.function.locals) (map (arm_at l.pointers l.function) (drop l.arm-index l.arms)) (seen_jumps l.fn.jumps)) ≡
    arms_top (length l.function.locals) (map (arm_at l.pointers l.function) l.arms) (seen_jumps l.fn.jumps))

abbrev pub decreases-lower_stmts : goal.decreases-lower_stmts
decreases-lower_stmts l = 3 * stmts_size l.body.now + 1

abbrev pub decreases-lower_stmt : goal.decreases-lower_stmt
decreases-lower_stmt l = 3 * stmt_size l.s.now

abbrev pub decreases-lower_arms : goal.decreases-lower_arms
decreases-lower_arms l = 3 * arms_size l.arms.now + 2
