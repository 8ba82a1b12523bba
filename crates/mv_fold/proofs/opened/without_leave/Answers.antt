use Rattle.std.proofs.Common.{arith, ◌≡◌, suc, ◌-◌, length, true, false, get_or, sym, ◌∙◌, ap}
use Rattle.mv_fold.specs.Opened.{leaves, without_leave}
use Rattle.mv_fold.proofs.Ends.{leave_last, keep_last, no_last}
use Rattle.mv_fold.proofs.opened.without_leave.Goals as goal
use Rattle.mv_fold.proofs.opened.without_leave.Goals.{then-count-gt0+then-leaves, else-count-gt0, else-count-gt0-via-then-count-gt0+else-leaves, else-count-gt0-via-else-count-gt0}

pub returns : goal.returns
returns c =
    let stms = c.into_vec-stms.result in
    let long = c.into_vec-stms.result.ok in
    let code = ap without_leave c.into_vec-stms.ensures in
    elim c.if-count-gt0.branch [
      | then-count-gt0+then-leaves w ↦
          let many : length stms.items ≡ suc (c.len-count.result - 1) = omega (arith, long, c.len-count.ensures, w.if-count-gt0.true) in
          let last : leaves (get_or stms.items (c.len-count.result - 1) w.index.result.now) ≡ true = ap leaves (sym w.index.ensures) ∙ sym w.leaves.ensures ∙ w.if-leaves.true in
          c.from_vec.ensures ∙ ap (λ v. v.items) w.stms-is ∙ w.truncate.ensures.items ∙ sym (leave_last stms.items (c.len-count.result - 1) w.index.result.now many last) ∙ code
      | else-count-gt0 w ↦ elim w.else-count-gt0.branch [
        | else-count-gt0-via-then-count-gt0+else-leaves w' ↦
            let many : length stms.items ≡ suc (c.len-count.result - 1) = omega (arith, long, c.len-count.ensures, w'.if-count-gt0.true) in
            let last : leaves (get_or stms.items (c.len-count.result - 1) w'.index.result.now) ≡ false = ap leaves (sym w'.index.ensures) ∙ sym w'.leaves.ensures ∙ w'.if-leaves.false in
            c.from_vec.ensures ∙ ap (λ v. v.items) w.stms-is ∙ sym (keep_last stms.items (c.len-count.result - 1) w'.index.result.now many last) ∙ code
        | else-count-gt0-via-else-count-gt0 w' ↦
            let none : length stms.items ≡ 0 = omega (arith, long, c.len-count.ensures, w'.if-count-gt0.false) in
            c.from_vec.ensures ∙ ap (λ v. v.items) w.stms-is ∙ sym (no_last stms.items none) ∙ code
      ]
    ]
