use Rattle.std.proofs.Common.{◌≡◌, ◌+◌, length, drop}
use Rattle.mv_linker.specs.Linked.{codes, variant_codes, function_variants}
use Rattle.mv_linker.proofs.joined.code_count.Given as goal

abbrev pub invariant-loop-function : goal.invariant-loop-function
invariant-loop-function l = l.count + length (variant_codes (function_variants (drop l.function-index l.parts.attributed))) ≡ length (codes l.parts)
