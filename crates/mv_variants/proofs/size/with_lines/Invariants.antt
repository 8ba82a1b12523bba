use Rattle.std.proofs.Common.{◌≡◌, ◌+◌, take}
use Rattle.mv_variants.specs.Sizes.{lines_sites, lines_words, up_to_greatest}
use Rattle.mv_variants.proofs.size.with_lines.Given as goal

abbrev pub invariant-loop-line : goal.invariant-loop-line
invariant-loop-line l = record {
  words : l.words ≡ up_to_greatest (l.fn.size.words + lines_words (take l.line-index l.lines));
  sites : l.sites ≡ up_to_greatest (l.fn.size.sites + lines_sites (take l.line-index l.lines));
}
