use Rattle.std.proofs.Common.{◌≡◌, ◌++◌, Bool, List, sym, subst}
use Rattle.std.proofs.lemmas.List.{append_assoc}
use Rattle.mv_isa.specs.declared.labelled.Line.{Line}
use Rattle.mv_linker.specs.Linked.{start_lines, trap_lines, commit_lines, check_lines, stub_lines}
use Rattle.mv_linker.proofs.joined.push_stubs.Goals as goal

-- six pieces put at the end, one after the other
six : (old s₁ s₂ s₃ s₄ s₅ s₆ a b c d e f : List Line) → s₁ ≡ old ++ a → s₂ ≡ s₁ ++ b → s₃ ≡ s₂ ++ c → s₄ ≡ s₃ ++ d → s₅ ≡ s₄ ++ e → s₆ ≡ s₅ ++ f
    → s₆ ≡ old ++ (a ++ (b ++ (c ++ (d ++ (e ++ f)))))
six old s₁ s₂ s₃ s₄ s₅ s₆ a b c d e f e₁ e₂ e₃ e₄ e₅ e₆ = rw (e₆, e₅, e₄, e₃, e₂, e₁) (simp append_assoc)

-- and seven
seven : (old s₁ s₂ s₃ s₄ s₅ s₆ s₇ a b c d e f g : List Line) → s₁ ≡ old ++ a → s₂ ≡ s₁ ++ b → s₃ ≡ s₂ ++ c → s₄ ≡ s₃ ++ d → s₅ ≡ s₄ ++ e → s₆ ≡ s₅ ++ f → s₇ ≡ s₆ ++ g
    → s₇ ≡ old ++ (a ++ (b ++ (c ++ (d ++ (e ++ (f ++ g))))))
seven old s₁ s₂ s₃ s₄ s₅ s₆ s₇ a b c d e f g e₁ e₂ e₃ e₄ e₅ e₆ e₇ = rw (e₇, e₆, e₅, e₄, e₃, e₂, e₁) (simp append_assoc)

pub returns-else-checks : goal.returns-else-checks
returns-else-checks c =
    subst (λ (checks : Bool). c.push_commit.new.items ≡ c.args.items.now ++ stub_lines c.args.main checks) (sym c.if-checks.false)
    (six _ _ _ _ _ _ _ (start_lines c.args.main) (trap_lines 1) (trap_lines 2) (trap_lines 3) (trap_lines 4) commit_lines
    c.in_ok-push_start.ensures c.in_ok-push_trap.ensures c.in_ok-push_trap-2.ensures c.in_ok-push_trap-3.ensures c.in_ok-push_trap-4.ensures c.in_ok-push_commit.ensures)

pub returns-in_ok-push_check : goal.returns-in_ok-push_check
returns-in_ok-push_check c =
    subst (λ (checks : Bool). c.push_check.new.items ≡ c.args.items.now ++ stub_lines c.args.main checks) (sym c.if-checks.true)
    (seven _ _ _ _ _ _ _ _ (start_lines c.args.main) (trap_lines 1) (trap_lines 2) (trap_lines 3) (trap_lines 4) commit_lines check_lines
    c.in_ok-push_start.ensures c.in_ok-push_trap.ensures c.in_ok-push_trap-2.ensures c.in_ok-push_trap-3.ensures c.in_ok-push_trap-4.ensures c.in_ok-push_commit.ensures c.in_ok-push_check.ensures)
