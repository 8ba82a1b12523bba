use Rattle.std.proofs.Common.{◌≡◌, ◌+◌, length, drop}
use Rattle.mv_linker.specs.Linked.{label_count}
use Rattle.mv_linker.specs.Joining.{with_codes}
use Rattle.mv_linker.proofs.joined.push_functions.Given as goal

abbrev pub invariant-loop-code : goal.invariant-loop-code
invariant-loop-code l = record {
  joined : with_codes l.joined (drop l.code-index l.functions) ≡ with_codes l.fn.joined l.functions;
  labels : l.joined.code.labels + label_count (drop l.code-index l.functions) ≡ l.fn.joined.code.labels + label_count l.functions;
  entries : length l.joined.entries + length (drop l.code-index l.functions) ≡ length l.fn.joined.entries + length l.functions;
}
