use Rattle.std.proofs.Common.{◌≡◌, map, take}
use Rattle.mv_ast.specs.Operators.{converted}
use Rattle.mv_check_declarations.proofs.globals.converted_bytes.Given as goal

abbrev pub invariant-loop-byte : goal.invariant-loop-byte
invariant-loop-byte l = record { so_far : l.words ≡ map (converted l.ctype) (take l.byte-index l.bytes) }
