use Rattle.std.proofs.Common.{◌≡◌, ◌∙◌, length, sym, arith}
use Rattle.std.proofs.lemmas.Bool.Decides.{nat_tests}
use Rattle.mv_fetch.specs.Held.{index_of, only, choices}
use Rattle.std.specs.Prelude.{slice_get}
use Rattle.mv_fetch.proofs.Choices.{only_where_none_stored}
use Rattle.mv_fetch.proofs.Links.{no_end}
use Rattle.mv_fetch.proofs.memory.Memory.only_choice.Goals as goal
use Rattle.mv_fetch.proofs.memory.Memory.only_choice.Goals.{else-not-is_empty-via-then-not-is_empty+else-has_older, else-not-is_empty-via-else-not-is_empty}

pub returns : goal.returns
returns c =
    let m = c.self.inside in
    let words = choices c.args.self.now.held c.args.address in
    let first : only words ≡ slice_get words 0 = elim c.else-not-is_empty.branch [
      | else-not-is_empty-via-then-not-is_empty+else-has_older w ↦ w.has_older.ensures.first w.if-has_older.false
      | else-not-is_empty-via-else-not-is_empty w ↦
          let empty : length m.log.items ≡ 0 = grind (arith, nat_tests, c.is_empty.ensures, w.if-not-is_empty) in
          only_where_none_stored m c.args.self.now c.args.address c.self.view_is c.self.invariant (no_end m.ends.items m.log.items (index_of c.args.address) c.self.invariant.linked empty)
    ] in
    c.first_choice.ensures ∙ sym first
