use Rattle.std.proofs.Common.{◌≡◌, ◌++◌, drop}
use Rattle.mv_patch_view.specs.PatchView.{word_lines}
use Rattle.mv_patch_view.proofs.words.push_words.Given as goal

abbrev pub invariant-loop-word : goal.invariant-loop-word
invariant-loop-word l = l.out.items ++ word_lines l.state (drop l.word-index l.words) ≡ l.initial.out.items ++ word_lines l.state l.words
