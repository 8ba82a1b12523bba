use Rattle.std.proofs.Common.{◌≡◌, drop}
use Rattle.std.specs.List.{find}
use Rattle.std.specs.Str.{bytes_eq}
use Rattle.mv_asmtext.specs.Mnemonics.{name_of, mnemonics}
use Rattle.mv_asmtext.proofs.statement.mnemonic_named.Given as goal

abbrev pub invariant-loop-index : goal.invariant-loop-index
invariant-loop-index l =
    find (λ m. bytes_eq (name_of m) l.word) (drop l.index mnemonics) ≡ find (λ m. bytes_eq (name_of m) l.word) mnemonics
