use Rattle.std.proofs.Common.{◌≡◌, drop}
use Rattle.std.specs.List.{position_from}
use Rattle.std.specs.Str.{bytes_eq}
use Rattle.mv_asmtext.specs.Registers.{register_names}
use Rattle.mv_asmtext.proofs.register.register_named.Given as goal

abbrev pub invariant-loop-index : goal.invariant-loop-index
invariant-loop-index l =
    position_from (λ name. bytes_eq name l.word) l.index (drop l.index register_names) ≡ position_from (λ name. bytes_eq name l.word) 0 register_names
