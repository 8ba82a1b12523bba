use Rattle.std.proofs.Common.{ℕ, zero, suc, List, refl}
use Rattle.mv_ast.specs.declared.program.Program.{Program}
use Rattle.mv_lower_spec.specs.Law.{strict_context}
use Rattle.mv_lower_spec.specs.Correct.{IsStrict}
use Rattle.mv_lower_spec.proofs.AllStatements.{body_correct}
use Rattle.mv_lower_spec.proofs.statements_are_right.Goals as goal

is_strict : (p : Program) (numbers : List ℕ) (k : ℕ) → IsStrict p numbers (strict_context p numbers k)
is_strict p numbers zero = record { numbers_are = refl; lets_are = refl; stray_is = refl }
is_strict p numbers (suc k) = record { numbers_are = refl; lets_are = refl; stray_is = refl }

pub returns : goal.returns
returns c = λ ground void limit calls room agree knows switched body formed labelled jumps top k up.
    body_correct ground void limit calls (strict_context ground.p ground.setting.numbers) room (is_strict ground.p ground.setting.numbers) (λ s. refl) (λ k s. refl) agree knows switched body formed labelled jumps top k up
