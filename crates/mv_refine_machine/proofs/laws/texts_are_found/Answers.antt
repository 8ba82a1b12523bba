use Rattle.mv_refine_machine.proofs.Fetches.{finds_word, keeps_word, unpatched_stands, never_patched}
use Rattle.mv_refine_machine.proofs.laws.texts_are_found.Goals as goal

pub returns : goal.returns
returns c image =
    record { found = finds_word image; kept = keeps_word image; stands = unpatched_stands image; unpatched = never_patched image }
