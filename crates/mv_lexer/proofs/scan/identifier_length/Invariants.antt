use Rattle.std.proofs.Common.{ℕ, ◌-◌, ◌<◌, ◌≤◌, length, get_or}
use Rattle.std.specs.Prelude.{IsTrue}
use Rattle.mv_lexer.specs.Bytes.{is_identifier_byte}
use Rattle.mv_lexer.proofs.scan.identifier_length.Given as goal

abbrev pub invariant-loop-length : goal.invariant-loop-length
invariant-loop-length l = record {
  some : 0 < l.length;
  in_range : l.length ≤ length l.text;
  each : (i : ℕ) → i < l.length → IsTrue (is_identifier_byte (get_or l.text i 0));
}

abbrev pub decreases-loop-length : goal.decreases-loop-length
decreases-loop-length l = length l.text - l.length
