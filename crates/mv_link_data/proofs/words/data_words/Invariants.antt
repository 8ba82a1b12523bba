use Rattle.std.proofs.Common.{◌≡◌, ◌*◌, ◌≤◌, map, sum, take}
use Rattle.mv_ast.specs.Counts.{words_of_size}
use Rattle.mv_link_data.proofs.words.data_words.Given as goal

abbrev pub invariant-loop-global : goal.invariant-loop-global
invariant-loop-global l = record {
  counted : l.count ≡ sum (map (λ g. words_of_size g.size) (take l.global-index l.global-items));
  bound : l.count ≤ 4294967295 * l.global-index;
}
