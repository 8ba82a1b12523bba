use Rattle.std.proofs.Common.{◌≡◌, ◌++◌, List, [], ◌∷◌, map, pos, rules}
use Rattle.std.proofs.lemmas.List.{append_assoc}
use Rattle.mv_isa.specs.Requests as request
use Rattle.mv_isa.specs.declared.instr.Instr.TheVariants.{Addi, Ecall}
use Rattle.mv_isa.specs.declared.labelled.Line.{Line}
use Rattle.mv_isa.specs.declared.labelled.Line.TheVariants.{Word, Jump}
use Rattle.mv_linker.specs.Linked.{start_instrs}
use Rattle.mv_linker.proofs.joined.push_start.Goals as goal

-- four pieces put at the end, one after the other
four : (old s₁ s₂ s₃ s₄ a b c d : List Line) → s₁ ≡ old ++ a → s₂ ≡ s₁ ++ b → s₃ ≡ s₂ ++ c → s₄ ≡ s₃ ++ d → s₄ ≡ old ++ (a ++ (b ++ (c ++ d)))
four old s₁ s₂ s₃ s₄ a b c d e₁ e₂ e₃ e₄ = rw (e₄, e₃, e₂, e₁) (simp append_assoc)

pub returns : goal.returns
returns c =
    four c.args.items.now c.push_instrs.new.items c.push.new.self c.push_number.new.items c.push-2.new.self
    (map Word start_instrs) (Jump 1 c.args.main ∷ []) (Word (Addi 17 0 (pos request.exit)) ∷ []) (Word Ecall ∷ [])
    c.in_ok-push_instrs.ensures (search rules) c.in_ok-push_number.ensures (search rules)
