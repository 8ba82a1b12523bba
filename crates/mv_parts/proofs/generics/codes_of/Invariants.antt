use Rattle.std.proofs.Common.{◌≡◌, ℕ, ◌<◌, Some, length, slice_get}
use Rattle.mv_ir.specs.declared.body.Body.{Body}
use Rattle.mv_select.specs.Bodies.SelectedBodies.{HasWords}
use Rattle.mv_parts.proofs.Functions.{EachCode}
use Rattle.mv_parts.proofs.generics.codes_of.Given as goal

abbrev pub invariant-loop-number : goal.invariant-loop-number
invariant-loop-number l = record {
  one_each : length l.codes ≡ l.number;
  each : EachCode l.program l.generics l.codes;
  words : (k : ℕ) → k < l.number → (b : Body) → slice_get l.generics k ≡ Some b → HasWords b.code;
}
