use Rattle.std.proofs.Common.{◌≡◌, ◌∙◌, ℕ, List, ap, sym, subst, length, arith}
use Rattle.std.proofs.lemmas.Result.{IfOk-weaker}
use Rattle.mv_image.specs.Versions.{upgraded}
use Rattle.mv_elf.specs.Writing.{file_of}
use Rattle.mv_elf.specs.Faults.{Holds}
use Rattle.mv_elf.proofs.ContentSize.{note_most}
use Rattle.mv_elf.proofs.FileLaw.{file_law}
use Rattle.mv_elf.proofs.writing.to_elf.Goals as goal

pub file_of-requires-clause-small : goal.file_of-requires-clause-small
file_of-requires-clause-small c = omega (arith, ap length (c.as_slice.ensures.value ∙ c.in_ok-note.ensures.value), note_most c.args.image.now c.in_ok-note.ensures.rules)

pub returns-clause-held : goal.returns-clause-held
returns-clause-held c =
    IfOk-weaker c.file_of.result (λ v. v.items ≡ file_of c.args.image.now) (λ v. Holds v.items (upgraded c.args.image.now))
    (λ v is. subst (λ (b : List ℕ). Holds b (upgraded c.args.image.now)) (sym is) (file_law c.args.image.now c.in_ok-note.ensures.rules)) c.file_of.ensures
