use Rattle.std.proofs.Common.{◌≡◌, ◌-◌, ◌++◌}
use Rattle.std.specs.String.{string_bytes}
use Rattle.mv_gen.specs.Generated.{drawn, definition_lines}
use Rattle.mv_gen.proofs.push_definitions.Given as goal

abbrev pub invariant-loop-index : goal.invariant-loop-index
invariant-loop-index l = record {
  word : l.word ≡ drawn l.number l.index;
  lines :
      string_bytes l.text ++ definition_lines l.number l.index (l.index-end - l.index)
      ≡ string_bytes l.initial.text ++ definition_lines l.number 0 l.index-end;
}
