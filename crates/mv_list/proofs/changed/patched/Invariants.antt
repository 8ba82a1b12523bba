use Rattle.std.proofs.Common.{◌≡◌, ◌+◌, ◌*◌, ◌++◌, drop, length}
use Rattle.mv_list.specs.Changes.{changes, words_now}
use Rattle.mv_list.proofs.changed.patched.Given as goal

abbrev pub invariant-loop-word : goal.invariant-loop-word
invariant-loop-word l = record {
  address : l.address ≡ 4096 + 4 * l.word-index;
  lines :
      l.out.items ++ changes l.address (drop l.word-index l.words) (words_now l.machine.room.held l.address (length (drop l.word-index l.words)))
      ≡ changes 4096 l.words (words_now l.machine.room.held 4096 (length l.words));
}
