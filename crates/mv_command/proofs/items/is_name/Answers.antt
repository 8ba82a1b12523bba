use Rattle.std.proofs.Common.{rules, refl, tests}
use Rattle.std.proofs.lemmas.Iterator.{YieldsList-from_slice}
use Rattle.std.proofs.lemmas.Iterator.Search.{all_from_yields_List}
use Rattle.mv_command.specs.Items.{is_name_byte}
use Rattle.mv_command.proofs.items.is_name.Goals as goal

pub returns-then-is_letter : goal.returns-then-is_letter
returns-then-is_letter c =
    let rest = all_from_yields_List is_name_byte _ _ _ c.all.ensures.ran (YieldsList-from_slice c.in-Some.rest.now c.iter.ensures.rest) (λ x b q k. search (rules, tests)) in
    rw (c.in-Some.ensures.cases.0, rest, ← c.is_letter.ensures, c.if-is_letter.true) refl
