use Rattle.std.proofs.Common.{cond, [], ◌≡◌, ◌++◌, option_to_list, append-nil, sym, ◌∙◌, ap}
use Rattle.mv_tidy.specs.Walking.{IsGone}
use Rattle.mv_tidy.proofs.Attaching.{pushes, jumps}
use Rattle.mv_tidy.proofs.attach.inner.Goals as goal
use Rattle.mv_tidy.proofs.attach.inner.Goals.{in-Some+in_ok-push-in-Pushed, in_default, then-zero, else-zero}

pub returns-after-jump : goal.returns-after-jump
returns-after-jump c temps t live code v g is k =
    let b = c.args.parts.b in
    let pushed : c.match-jump.b ≡ b ++ option_to_list c.in-Pushed.jump =
    elim c.match-jump.branch [
      | in-Some+in_ok-push-in-Pushed w ↦ w.b-is ∙ w.in_ok-push-in-Pushed.ensures.ok ∙ ap (λ j. b ++ option_to_list j) (sym w.in-Some.is)
      | in_default w ↦ w.b-is ∙ sym (append-nil b) ∙ ap (λ j. b ++ option_to_list j) (sym w.in_default.is)
    ]
    in
    pushes (IsGone temps live) code t c.args.parts v c.args.x c.args.y c.match-jump.b c.new-rest.result g is c.args.merge c.in-Pushed.jump c.in-Pushed.is
    pushed c.new-rest.ensures k

pub returns-after-zero : goal.returns-after-zero
returns-after-zero c temps t live code v g is k =
    let x = c.args.x in
    let y = c.args.y in
    let zero = c.in-Jumped.zero in
    let made = c.if-zero.x in
    let lists : (made.0 ≡ cond zero x []) × (made.1 ≡ cond zero [] y) × (made.2 ≡ cond zero y x) =
    elim c.if-zero.branch [
      | then-zero w ↦
          let e = sym w.if-zero.true in
          (ap (λ p. p.0) w.x-is ∙ ap (λ z. cond z x []) e, ap (λ p. p.1) w.x-is ∙ c.new-none.ensures ∙ ap (λ z. cond z [] y) e, ap (λ p. p.2) w.x-is ∙ ap (λ z. cond z y x) e)
      | else-zero w ↦
          let e = sym w.if-zero.false in
          (ap (λ p. p.0) w.x-is ∙ c.new-none.ensures ∙ ap (λ z. cond z x []) e, ap (λ p. p.1) w.x-is ∙ ap (λ z. cond z [] y) e, ap (λ p. p.2) w.x-is ∙ ap (λ z. cond z y x) e)
    ]
    in
    jumps (IsGone temps live) code t c.args.parts v x y c.args.parts.b made.2 g is c.args.merge zero made.0 made.1 c.in-Jumped.is
    (λ i. c.args.parts.b) lists.0 lists.1 lists.2 k
