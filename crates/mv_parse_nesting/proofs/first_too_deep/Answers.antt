use Rattle.std.proofs.Common.{◌<◌, ◌≤◌, ap, ◌∙◌, arith}
use Rattle.mv_parse_nesting.specs.Nesting.{after_piece, level_of}
use Rattle.mv_parse_nesting.proofs.Levels.{here, later, shallow}
use Rattle.mv_parse_nesting.proofs.first_too_deep.Goals as goal

pub returns-then-level-gt-DEEPEST : goal.returns-then-level-gt-DEEPEST
returns-then-level-gt-DEEPEST c =
    let s' = c.take.new.self in
    let taken = c.in_ok-take.ensures ∙ ap (λ v. after_piece c.in-Some.token.now.what v c.loop-token.stack) c.goes_on.ensures in
    let high : 255 < level_of s' = omega (arith, c.level.ensures, c.if-level-gt-DEEPEST.true) in
    c.loop-token.invariant.deep _ (here c.loop-token.stack s' c.loop-token.rest.now c.in-Some.token.now c.in-Some.after.now c.in-Some.ensures taken high)

pub loop-token-preserved : goal.loop-token-preserved
loop-token-preserved c =
    let s' = c.take.new.self in
    let taken = c.in_ok-take.ensures ∙ ap (λ v. after_piece c.in-Some.token.now.what v c.loop-token.stack) c.goes_on.ensures in
    let low : level_of s' ≤ 255 = omega (arith, c.level.ensures, c.if-level-gt-DEEPEST.false) in
    record {
      shallow = λ h. c.loop-token.invariant.shallow (shallow c.loop-token.stack s' c.loop-token.rest.now c.in-Some.token.now c.in-Some.after.now c.in-Some.ensures taken low h);
      deep = λ place h. c.loop-token.invariant.deep place (later c.loop-token.stack s' c.loop-token.rest.now c.in-Some.token.now c.in-Some.after.now place c.in-Some.ensures taken low h);
      low = low;
    }
