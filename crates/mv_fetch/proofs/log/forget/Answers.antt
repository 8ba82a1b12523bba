use Rattle.std.proofs.Common.{ℕ, ◌≡◌, length, subst, arith}
use Rattle.mv_fetch.proofs.Links.{Forgotten, forgotten_none, forgotten_more, all_forgotten}
use Rattle.mv_fetch.proofs.log.forget.Goals as goal

pub loop-older-init : goal.loop-older-init
loop-older-init c = forgotten_none c.args.ends.now c.args.log.now c.requires

pub loop-older-preserved : goal.loop-older-preserved
loop-older-preserved c =
    let log = c.args.log.now in
    let i = c.loop-older.older-index in
    let within = (c.requires.earlier i c.loop-older-test.true).0 in
    forgotten_more c.loop-older.ends log i c.loop-older.invariant (omega (arith, within, c.loop-older.auto.ends))

pub returns : goal.returns
returns c =
    let log = c.args.log.now in
    let all : c.loop-older.older-index ≡ length log = omega (arith, c.loop-older-test.false, c.loop-older.auto.older-index-end) in
    all_forgotten c.loop-older.ends log (subst (λ (n : ℕ). Forgotten log n c.loop-older.ends) all c.loop-older.invariant)
