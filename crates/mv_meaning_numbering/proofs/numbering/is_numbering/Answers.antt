use Rattle.std.proofs.Common.{arith, AllPairs, ◌≢◌, ◌∙◌, Bool}
use Rattle.std.specs.Bool.{Decides}
use Rattle.std.proofs.lemmas.Result.{IfOk-weaker}
use Rattle.mv_meaning_numbering.specs.Numberings.{IsNumbering}
use Rattle.mv_meaning_numbering.proofs.Differences.{numbering_where}
use Rattle.mv_meaning_numbering.proofs.Lawful.{found_serves}
use Rattle.mv_meaning_numbering.proofs.numbering.is_numbering.Goals as goal

decided : (c : goal.After-are_different) (answer : Bool) → Decides answer (AllPairs (λ m n. m ≢ n) c.args.numbers.now) →
    Decides answer (IsNumbering c.args.program.now c.args.numbers.now)
decided c =
    numbering_where c.args.program.now c.args.numbers.now (c.if-numbers-len.false ∙ c.len.ensures)
    (λ k d lt. c.if-contains.ensures.cases k d (omega arith) lt) (λ i. let word = c.type_inv.numbers i in omega (arith, word))

pub returns-clause-decides : goal.returns-clause-decides
returns-clause-decides c = IfOk-weaker c.are_different.result (λ answer. Decides answer (AllPairs (λ m n. m ≢ n) c.args.numbers.now)) _ (decided c) c.are_different.ensures

pub returns-clause-serves : goal.returns-clause-serves
returns-clause-serves c =
    IfOk-weaker c.are_different.result (λ answer. Decides answer (AllPairs (λ m n. m ≢ n) c.args.numbers.now)) _
    (λ answer h. found_serves c.args.program.now c.args.numbers.now answer (decided c answer h)) c.are_different.ensures
